-- A name and a quoted string begin the words of a text that begins with them.
use Rattle.std.proofs.Common.{◌≡◌, ◌≢◌, ℕ, suc, ◌+◌, ◌<◌, ◌≤◌, Bool, true, false, cond, not, ◌&&◌, List, [], ◌∷◌, ◌++◌, length, take, drop, Some, Ok, refl, sym, ◌∙◌, ap, subst, append_assoc, arith}
use Rattle.std.proofs.lemmas.Bool.{ne_eqb, and_parts}
use Rattle.std.proofs.lemmas.Bool.Decides.{nat_tests}
use Rattle.std.proofs.lemmas.List.{length-append}
use Rattle.std.specs.List.{prefix_len, list_all}
use Rattle.std.specs.Option.{option_map}
use Rattle.std.specs.Prelude.{nat_eq, nat_lt}
use Rattle.rdl_text.specs.Joined.{NameIsWord, QuotedIsWord, quoted, mark_spelling, MarkIsWord}
use Rattle.rdl_text.specs.Name.{is_letter, is_rest}
use Rattle.rdl_text.specs.Raw.{is_inside}
use Rattle.rdl_text.specs.Rows.{byte, identifier_len, decimal_len, hexadecimal_len, verilog_len, closing, string_len}
use Rattle.rdl_text.specs.Word.{word}
use Rattle.rdl_text.specs.Words.{words_from, before, identifier, decimal, hexadecimal, verilog, string, mark, longest, piece, is_blank}
use Rattle.rdl_text.specs.Piece.{Candidate}
use Rattle.rdl_text.specs.Piece.{Word}
use Rattle.rdl_text.specs.declared.token.TokenKind.{TokenKind}
use Rattle.rdl_text.specs.declared.token.Mark.{Mark}
use Rattle.rdl_text.specs.declared.token.Mark.TheVariants.{OpenBrace, CloseBrace, OpenBracket, CloseBracket, Colon, Semicolon, Comma, Dot, Equals, At, PlusEquals, PercentEquals, Arrow}
use Rattle.rdl_text.specs.declared.token.TokenKind.TheVariants as kinds
use Rattle.rdl_text.specs.declared.token.TokenKind.TheVariants.{Identifier, Text}
use Rattle.rdl_text.proofs.Following.{words-word}
use Rattle.rdl_text.proofs.Longest.{longest_letter, longest_quote}
use Rattle.rdl_text.proofs.Steps.{candidate_some}

take_front : (xs ys : List ℕ) → take (length xs) (xs ++ ys) ≡ xs
take_front [] ys = refl
take_front (x ∷ xs) ys = ap (λ (q : List ℕ). x ∷ q) (take_front xs ys)

drop_front : (xs ys : List ℕ) → drop (length xs) (xs ++ ys) ≡ ys
drop_front [] ys = refl
drop_front (x ∷ xs) ys = drop_front xs ys

-- a word at the front of a text, and what follows it
front_word : (at : ℕ) (w rest : List ℕ) (kind : TokenKind) → piece (w ++ rest) ≡ Ok (Word kind (length w)) → 1 ≤ length w
    → words_from 0 at (w ++ rest) ≡ before (word kind at w) (words_from 0 (at + length w) rest)
front_word at w rest kind e some =
    let turn = words-word at (length w) kind (w ++ rest) e some (omega (arith, length-append w rest)) in
    turn ∙ (ap (λ (x : List ℕ). before (word kind at x) (words_from 0 (at + length w) (drop (length w) (w ++ rest)))) (take_front w rest)
    ∙ ap (λ (x : List ℕ). before (word kind at w) (words_from 0 (at + length w) x)) (drop_front w rest))

abbrev whole : (n : ℕ) → TokenKind → Candidate
whole n kind = record { len = n; kind = Ok kind }

-- the piece is the longest word, where that is no blank and no slash
word_piece_is : (s : List ℕ) (n : ℕ) (kind : TokenKind) → is_blank (byte s 0) ≡ false → byte s 0 ≢ 47 → longest s ≡ Some (whole n kind) → piece s ≡ Ok (Word kind n)
unfolding piece
word_piece_is s n kind b ne e = rw (b, ne_eqb (byte s 0) 47 ne, e) refl

-- names

stops : (rest : List ℕ) → is_rest (byte rest 0) ≡ false → prefix_len is_rest rest ≡ 0
stops [] e = refl
stops (d ∷ ds) e = rw e refl

run_all : (cs rest : List ℕ) → list_all is_rest cs ≡ true → is_rest (byte rest 0) ≡ false → prefix_len is_rest (cs ++ rest) ≡ length cs
run_all [] rest h e = stops rest e
run_all (c ∷ cs) rest h e =
    let both = and_parts (is_rest c) (list_all is_rest cs) h in
    let more = run_all cs rest both.1 e in
    rw (both.0, more) (omega arith)

not_blank : (c : ℕ) → is_letter c ≡ true → is_blank c ≡ false
not_blank c h = grind (arith, nat_tests)

no_slash : (c : ℕ) → is_letter c ≡ true → c ≢ 47
no_slash c h e = let f = rw e at h in cc

name_len : (c : ℕ) (cs rest : List ℕ) → is_letter c ≡ true → list_all is_rest cs ≡ true → is_rest (byte rest 0) ≡ false
    → identifier_len (c ∷ (cs ++ rest)) ≡ suc (length cs)
unfolding identifier_len
name_len c cs rest l h e = let run = run_all cs rest h e in rw (l, run) (omega arith)

name_found : (s : List ℕ) (n : ℕ) → identifier_len s ≡ n → 0 < n → nat_lt 255 n ≡ false → identifier s ≡ Some (whole n Identifier)
unfolding identifier
name_found s n e some small = rw (e, small) (candidate_some n (Ok Identifier) some)

within_255 : (n : ℕ) → n ≤ 255 → nat_lt 255 n ≡ false
within_255 n h = grind (arith, nat_tests)

pub name_is_word : NameIsWord
name_is_word at [] rest n e = let h = n.identifier in cc
name_is_word at (c ∷ cs) rest n e =
    let both = and_parts (is_letter c) (list_all is_rest cs) n.identifier in
    let s = c ∷ (cs ++ rest) in
    let found = name_found s (suc (length cs)) (name_len c cs rest both.0 both.1 e) (omega arith) (within_255 (suc (length cs)) n.short) in
    let is = word_piece_is s (suc (length cs)) Identifier (not_blank c both.0) (no_slash c both.0) (sym (longest_letter s both.0) ∙ found) in
    front_word at (c ∷ cs) rest Identifier is (omega arith)

-- strings

closing_of : (taken : Bool) (inside rest : List ℕ) → is_inside taken inside ≡ true → closing taken (inside ++ (34 ∷ rest)) ≡ Some (length inside)
closing_of true [] rest h = cc
closing_of false [] rest h = refl
closing_of true (c ∷ cs) rest h = let more = closing_of false cs rest h in rw more (ap Some (omega arith))
closing_of false (c ∷ cs) rest h = go (nat_eq c 34) (closing_of (nat_eq c 92) cs rest) h
  where
    go : (b : Bool) → (is_inside (nat_eq c 92) cs ≡ true → closing (nat_eq c 92) (cs ++ (34 ∷ rest)) ≡ Some (length cs))
        → not b && is_inside (nat_eq c 92) cs ≡ true
        → cond b (Some 0) (option_map (λ n. n + 1) (closing (nat_eq c 92) (cs ++ (34 ∷ rest)))) ≡ Some (length (c ∷ cs))
    go true f h = cc
    go false f h = rw (f h) (ap Some (omega arith))

string_found : (cs : List ℕ) (n : ℕ) → closing false cs ≡ Some n → string (34 ∷ cs) ≡ Some (whole (n + 2) Text)
unfolding string string_len
string_found cs n e = rw e (candidate_some (n + 2) (Ok Text) (omega arith))

pub quoted_is_word : QuotedIsWord
quoted_is_word at inside rest r =
    let s = 34 ∷ (inside ++ (34 ∷ rest)) in
    let n = length inside in
    let found = string_found (inside ++ (34 ∷ rest)) n (closing_of false inside rest r.inside) in
    let is = word_piece_is s (n + 2) Text refl (λ e. absurd (omega arith)) (sym (longest_quote s refl) ∙ found) in
    let joined : s ≡ quoted inside ++ rest = ap (λ (q : List ℕ). 34 ∷ q) (sym (append_assoc inside (34 ∷ []) rest)) in
    let long : n + 2 ≡ length (quoted inside) = omega (arith, length-append inside (34 ∷ [])) in
    front_word at (quoted inside) rest Text
    (subst (λ (k : ℕ). piece (quoted inside ++ rest) ≡ Ok (Word Text k)) long (subst (λ (t : List ℕ). piece t ≡ Ok (Word Text (n + 2))) joined is)) (omega arith)

-- marks

mark_piece : (m : Mark) (rest : List ℕ) → piece (mark_spelling m ++ rest) ≡ Ok (Word (kinds.Mark m) (length (mark_spelling m)))
unfolding piece longest identifier decimal hexadecimal verilog string mark identifier_len decimal_len hexadecimal_len verilog_len string_len
mark_piece OpenBrace rest = refl
mark_piece CloseBrace rest = refl
mark_piece OpenBracket rest = refl
mark_piece CloseBracket rest = refl
mark_piece Colon rest = refl
mark_piece Semicolon rest = refl
mark_piece Comma rest = refl
mark_piece Dot rest = refl
mark_piece Equals rest = refl
mark_piece At rest = refl
mark_piece PlusEquals rest = refl
mark_piece PercentEquals rest = refl
mark_piece Arrow rest = refl

mark_some : (m : Mark) → 1 ≤ length (mark_spelling m)
mark_some OpenBrace = omega arith
mark_some CloseBrace = omega arith
mark_some OpenBracket = omega arith
mark_some CloseBracket = omega arith
mark_some Colon = omega arith
mark_some Semicolon = omega arith
mark_some Comma = omega arith
mark_some Dot = omega arith
mark_some Equals = omega arith
mark_some At = omega arith
mark_some PlusEquals = omega arith
mark_some PercentEquals = omega arith
mark_some Arrow = omega arith

pub mark_is_word : MarkIsWord
mark_is_word at m rest = front_word at (mark_spelling m) rest (kinds.Mark m) (mark_piece m rest) (mark_some m)
