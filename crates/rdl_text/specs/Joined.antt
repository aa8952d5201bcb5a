-- How words are spelled one behind another.
-- SystemRDL 2.0, lexical conventions.
use Rattle.std.specs.Prelude.{ℕ, ◌≡◌, ◌+◌, false, List, [], ◌∷◌, ◌++◌, length, codes}
use Rattle.rdl_text.specs.Name.{IsName, is_rest}
use Rattle.rdl_text.specs.Raw.{IsRaw}
use Rattle.rdl_text.specs.Rows.{byte}
use Rattle.rdl_text.specs.Word.{word}
use Rattle.rdl_text.specs.Words.{words_from, before}
use Rattle.rdl_text.specs.declared.token.Mark.{Mark}
use Rattle.rdl_text.specs.declared.token.Mark.TheVariants.{OpenBrace, CloseBrace, OpenBracket, CloseBracket, Colon, Semicolon, Comma, Dot, Equals, At, PlusEquals, PercentEquals, Arrow}
use Rattle.rdl_text.specs.declared.token.TokenKind.TheVariants as kinds
use Rattle.rdl_text.specs.declared.token.TokenKind.TheVariants.{Identifier, Text}

-- a name is one word, if no byte follows that an identifier goes on with
abbrev pub NameIsWord : Type 0
NameIsWord =
    (at : ℕ) (name rest : List ℕ) → IsName name → is_rest (byte rest 0) ≡ false
    → words_from 0 at (name ++ rest) ≡ before (word Identifier at name) (words_from 0 (at + length name) rest)

-- quotes around the inside of a string
abbrev pub quoted : List ℕ → List ℕ
quoted inside = 34 ∷ (inside ++ (34 ∷ []))

-- with its quotes it is one word, whatever follows
abbrev pub QuotedIsWord : Type 0
QuotedIsWord =
    (at : ℕ) (inside rest : List ℕ) → IsRaw inside
    → words_from 0 at (quoted inside ++ rest) ≡ before (word Text at (quoted inside)) (words_from 0 (at + length (quoted inside)) rest)

abbrev pub mark_spelling : Mark → List ℕ
mark_spelling OpenBrace = codes "{"
mark_spelling CloseBrace = codes "}"
mark_spelling OpenBracket = codes "["
mark_spelling CloseBracket = codes "]"
mark_spelling Colon = codes ":"
mark_spelling Semicolon = codes ";"
mark_spelling Comma = codes ","
mark_spelling Dot = codes "."
mark_spelling Equals = codes "="
mark_spelling At = codes "@"
mark_spelling PlusEquals = codes "+="
mark_spelling PercentEquals = codes "%="
mark_spelling Arrow = codes "->"

-- a mark is one word, whatever follows
abbrev pub MarkIsWord : Type 0
MarkIsWord =
    (at : ℕ) (mark : Mark) (rest : List ℕ)
    → words_from 0 at (mark_spelling mark ++ rest)
    ≡ before (word (kinds.Mark mark) at (mark_spelling mark)) (words_from 0 (at + length (mark_spelling mark)) rest)
