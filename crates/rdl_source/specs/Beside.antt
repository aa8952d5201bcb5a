-- One text behind another: its words, and the map that it spells.
-- SystemRDL 2.0, lexical conventions; own: that a line ends between them.
use Rattle.std.specs.Prelude.{◌≡◌, ◌⊎◌, ◌≤◌, ℕ, ◌+◌, ◌-◌, Bool, ◌||◌, nat_eq, if◌then◌else◌, List, [], ◌∷◌, ◌++◌, length, Result, Ok, Err}
use Rattle.rdl_text.specs.Rows.{byte}
use Rattle.rdl_text.specs.Word.{Word}
use Rattle.rdl_text.specs.Words.{words_from}
use Rattle.rdl_text.specs.declared.fault.TextFault.{TextFault}
use Rattle.rdl_tree.specs.Items.{Items}
use Rattle.rdl_tree.specs.View.{items_of, list_of}
use Rattle.rdl_parse.specs.Faults.{max_text}
use Rattle.rdl_parse.specs.Parsing.{SpellsText}
use Rattle.rdl_parse.specs.Places.{Located}

-- ---- Lines.

-- it is empty, or its last byte is a line feed
abbrev pub ends_line : List ℕ → Bool
ends_line s = nat_eq (length s) 0 || nat_eq (byte s (length s - 1)) 10

-- the text, and a line feed where it doesn't end with one
abbrev pub line : List ℕ → List ℕ
line s = if ends_line s then s else s ++ (10 ∷ [])

-- ---- Words.

-- these words, and then those
abbrev pub behind_words : List Word → Result (List Word) TextFault → Result (List Word) TextFault
behind_words ws (Ok vs) = Ok (ws ++ vs)
behind_words ws (Err f) = Err f

-- with a line feed between two texts, the words are those of the first, and then those of the second at its place
abbrev pub LineEnds : Type 0
LineEnds =
    (at : ℕ) (text rest : List ℕ) (ws : List Word) → words_from 0 at text ≡ Ok ws
    → words_from 0 at (text ++ (10 ∷ rest)) ≡ behind_words ws (words_from 0 (at + length text + 1) rest)

-- so it is behind a line
abbrev pub LinesPartWords : Type 0
LinesPartWords =
    (at : ℕ) (text rest : List ℕ) (ws : List Word) → words_from 0 at text ≡ Ok ws
    → words_from 0 at (line text ++ rest) ≡ behind_words ws (words_from 0 (at + length (line text)) rest)

-- one of the words begins at a byte
abbrev pub HasStart : ℕ → List Word → Type 0
HasStart at [] = ⊥
HasStart at (w ∷ ws) = (w.start ≡ at) ⊎ HasStart at ws

-- where a semicolon is a word, the words before it are the same whatever stands behind it
abbrev pub SemicolonsPartWords : Type 0
SemicolonsPartWords =
    (at : ℕ) (text rest : List ℕ) (ws : List Word) → words_from 0 at (text ++ (59 ∷ rest)) ≡ Ok ws → HasStart (at + length text) ws
    → (front : List Word) × ((other : List ℕ) → words_from 0 at (text ++ (59 ∷ other)) ≡ behind_words front (words_from 0 (at + length text) (59 ∷ other)))

-- ---- Maps.

-- a map's text behind that of another spells the items of the other, and then its own
abbrev pub TextsAppend : Type 0
TextsAppend =
    (first second : List ℕ) (d e : Items) (p q : Located) → SpellsText first d p → SpellsText second e q → length (line first ++ second) ≤ max_text
    → (r : Located) × SpellsText (line first ++ second) (items_of (list_of d ++ list_of e)) r
