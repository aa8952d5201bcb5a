-- Texts behind one another.
use Rattle.std.proofs.Common.{◌≡◌, ℕ, zero, suc, ◌+◌, ◌-◌, ◌≤◌, Bool, true, false, cond, ◌||◌, List, [], ◌∷◌, ◌++◌, length, take, drop, Result, Ok, Err, refl, sym, ◌∙◌, ap, subst, append_assoc, arith}
use Rattle.std.proofs.lemmas.Bool.{eqb-true}
use Rattle.std.proofs.lemmas.List.{length-append, take-append-drop, drop_more, drop_all, map-append}
use Rattle.std.specs.Prelude.{nat_eq}
use Rattle.rdl_text.specs.Rows.{byte}
use Rattle.rdl_text.specs.Word.{Word}
use Rattle.rdl_text.specs.Word.{word}
use Rattle.rdl_text.specs.Words.{words, words_from, before, piece}
use Rattle.rdl_text.specs.Piece.{Piece}
use Rattle.rdl_text.specs.Piece as pieces
use Rattle.rdl_text.specs.declared.fault.WordFault.{WordFault}
use Rattle.rdl_text.specs.declared.token.TokenKind.{TokenKind}
use Rattle.rdl_text.specs.declared.fault.TextFault.{TextFault}
use Rattle.rdl_text.proofs.Following.{words-end}
use Rattle.rdl_tree.specs.View.{items_of, list_of}
use Rattle.rdl_tree.proofs.Rounds.{list_of-items_of}
use Rattle.rdl_parse.specs.Places.{located}
use Rattle.rdl_parse.specs.Spelling as grammar
use Rattle.rdl_parse.specs.Symbol.{Symbol, symbol, symbol_by, symbols}
use Rattle.rdl_source.specs.Beside.{line, behind_words, LinesPartWords, TextsAppend}
use Rattle.rdl_source.proofs.Appended.{joined, words_joined, items_joined}
use Rattle.rdl_source.proofs.Beside.{line_ends, line_feed_less}

-- a text whose last byte is a line feed
last_feed : (s : List ℕ) → 1 ≤ length s → byte s (length s - 1) ≡ 10 → s ≡ take (length s - 1) s ++ (10 ∷ [])
last_feed s some e =
    let n = length s - 1 in
    let here : drop n s ≡ byte s n ∷ drop (n + 1) s = drop_more s n 0 (omega (arith, some)) in
    let none : drop (n + 1) s ≡ [] = drop_all (n + 1) s (omega (arith, some)) in
    sym (take-append-drop n s) ∙ ap (λ t. take n s ++ t) (here ∙ (ap (λ t. byte s n ∷ t) none ∙ ap (λ c. c ∷ []) e))

abbrev Parts : (at : ℕ) (s rest : List ℕ) → (whole : List ℕ) → List Word → Type 0
Parts at s rest whole ws = words_from 0 at (whole ++ rest) ≡ behind_words ws (words_from 0 (at + length whole) rest)

behind_none : (r : Result (List Word) TextFault) → behind_words [] r ≡ r
behind_none (Ok ws) = refl
behind_none (Err f) = refl

same_words : (vs ws : List Word) → ◌≡◌ {A = Result (List Word) TextFault} (Ok vs) (Ok ws) → vs ≡ ws
same_words vs ws e = cc

with_feed : (at : ℕ) (y rest : List ℕ) (ws : List Word) → words_from 0 at y ≡ Ok ws → Parts at y rest (y ++ (10 ∷ [])) ws
with_feed at y rest ws h =
    let place : at + length y + 1 ≡ at + length (y ++ (10 ∷ [])) = omega (arith, length-append y (10 ∷ [])) in
    ap (words_from 0 at) (append_assoc y (10 ∷ []) rest)
    ∙ (line_ends at y rest ws h ∙ ap (λ k. behind_words ws (words_from 0 k rest)) place)

nothing : (at : ℕ) (s rest : List ℕ) (ws : List Word) → length s ≡ 0 → words_from 0 at s ≡ Ok ws → Parts at s rest s ws
nothing at [] rest ws e h =
    let none : [] ≡ ws = same_words [] ws (sym (words-end at [] refl) ∙ h) in
    let place : at ≡ at + 0 = omega arith in
    ap (λ k. words_from 0 k rest) place ∙ (sym (behind_none (words_from 0 (at + 0) rest)) ∙ ap (λ vs. behind_words vs (words_from 0 (at + 0) rest)) none)
nothing at (c ∷ cs) rest ws e h = absurd (omega (arith, e))

feed : (at : ℕ) (s rest : List ℕ) (ws : List Word) → (1 ≤ length s) → byte s (length s - 1) ≡ 10 → words_from 0 at s ≡ Ok ws → Parts at s rest s ws
feed at s rest ws some e h =
    let y = take (length s - 1) s in
    let is : s ≡ y ++ (10 ∷ []) = last_feed s some e in
    let less : words_from 0 at y ≡ Ok ws = line_feed_less at y ws (ap (words_from 0 at) (sym is) ∙ h) in
    subst (λ w. Parts at s rest w ws) (sym is) (with_feed at y rest ws less)

by_end : (at : ℕ) (s rest : List ℕ) (ws : List Word) (a b : Bool) → nat_eq (length s) 0 ≡ a → nat_eq (byte s (length s - 1)) 10 ≡ b → words_from 0 at s ≡ Ok ws
    → Parts at s rest (cond (a || b) s (s ++ (10 ∷ []))) ws
by_end at s rest ws true b e f h = nothing at s rest ws (eqb-true (length s) 0 e) h
by_end at [] rest ws false b e f h = absurd (no e)
  where
    no : true ≡ false → ⊥
    no e = cc
by_end at (c ∷ cs) rest ws false true e f h = feed at (c ∷ cs) rest ws (omega arith) (eqb-true (byte (c ∷ cs) (length (c ∷ cs) - 1)) 10 f) h
by_end at (c ∷ cs) rest ws false false e f h = with_feed at (c ∷ cs) rest ws h

pub lines_part_words : LinesPartWords
lines_part_words at text rest ws h = by_end at text rest ws (nat_eq (length text) 0) (nat_eq (byte text (length text - 1)) 10) refl refl h

-- ---- Maps.

-- to the grammar the words are the same wherever the text stands
pub moved : (skip a b : ℕ) (s : List ℕ) (ws : List Word) → words_from skip a s ≡ Ok ws → (vs : List Word) × (words_from skip b s ≡ Ok vs) × (symbols vs ≡ symbols ws)
unfolding words_from
moved skip a b [] ws e = ([], refl, ap symbols (same_words [] ws e))
moved (suc skip) a b (c ∷ cs) ws e = moved skip (a + 1) (b + 1) cs ws e
moved zero a b (c ∷ cs) ws e = by (piece (c ∷ cs)) (λ skip vs. moved skip (a + 1) (b + 1) cs vs) e
  where
    Found : Result Piece WordFault → ℕ → Result (List Word) TextFault
    Found r at =
        elim r [
          | Ok found ↦ elim found [
            | pieces.Gap len ↦ words_from (len - 1) (at + 1) cs
            | pieces.Word kind len ↦ before (word kind at (take len (c ∷ cs))) (words_from (len - 1) (at + 1) cs)
          ]
          | Err fault ↦ Err (record { kind = fault; offset = at })
        ]

    behind : (kind : TokenKind) (source : List ℕ) (ws : List Word) (r t : Result (List Word) TextFault)
        → ((vs : List Word) → r ≡ Ok vs → (us : List Word) × (t ≡ Ok us) × (symbols us ≡ symbols vs)) → before (word kind a source) r ≡ Ok ws
        → (us : List Word) × (before (word kind b source) t ≡ Ok us) × (symbols us ≡ symbols ws)
    behind kind source ws (Ok vs) t f e =
        let m = f vs refl in
        (word kind b source ∷ m.0, ap (before (word kind b source)) m.1, ap (λ us. symbol_by kind source ∷ us) m.2 ∙ ap symbols (same_words (word kind a source ∷ vs) ws e))
    behind kind source ws (Err x) t f e = absurd (no_fault e)
      where
        no_fault : {x : TextFault} → ◌≡◌ {A = Result (List Word) TextFault} (Err x) (Ok ws) → ⊥
        no_fault e = cc

    by : (r : Result Piece WordFault) → ((skip : ℕ) (vs : List Word) → words_from skip (a + 1) cs ≡ Ok vs → (us : List Word) × (words_from skip (b + 1) cs ≡ Ok us) × (symbols us ≡ symbols vs))
        → Found r a ≡ Ok ws → (vs : List Word) × (Found r b ≡ Ok vs) × (symbols vs ≡ symbols ws)
    by (Ok (pieces.Gap len)) f e = f (len - 1) ws e
    by (Ok (pieces.Word kind len)) f e = behind kind (take len (c ∷ cs)) ws (words_from (len - 1) (a + 1) cs) (words_from (len - 1) (b + 1) cs) (f (len - 1)) e
    by (Err x) f e = absurd (no_fault e)
      where
        no_fault : {x : TextFault} → ◌≡◌ {A = Result (List Word) TextFault} (Err x) (Ok ws) → ⊥
        no_fault e = cc

-- these are the words of a text wherever it stands
abbrev pub Cut : List ℕ → List Symbol → Type 0
Cut s ws = (at : ℕ) → (found : List Word) × (words_from 0 at s ≡ Ok found) × (symbols found ≡ ws)

pub cut_from : (s : List ℕ) (ws : List Word) → words s ≡ Ok ws → Cut s (symbols ws)
cut_from s ws e at = moved 0 0 at s ws e

pub cut_line : (first second : List ℕ) (ws vs : List Symbol) → Cut first ws → Cut second vs → Cut (line first ++ second) (ws ++ vs)
cut_line first second ws vs p q at =
    let one = p at in
    let two = q (at + length (line first)) in (
      one.0 ++ two.0,
      lines_part_words at first second one.0 one.1 ∙ ap (behind_words one.0) two.1,
      map-append symbol one.0 two.0 ∙ ((λ i. one.2 i ++ symbols two.0) ∙ ap (λ us. ws ++ us) two.2),
    )

pub texts_append : TextsAppend
texts_append first second d e p q s t short =
    let one = s.spelled in
    let two = t.spelled in
    let both = cut_line first second (symbols s.ws) (symbols t.ws) (cut_from first s.ws s.has_words.cut) (cut_from second t.ws t.has_words.cut) 0 in
    let tree = joined one.0 two.0 in
    let words_are : symbols both.0 ≡ grammar.words tree [] =
    both.2 ∙ ((λ i. one.1 i ++ symbols t.ws) ∙ (ap (λ us. grammar.words one.0 [] ++ us) two.1 ∙ sym (words_joined one.0 two.0))) in
    let first_items : list_of d ≡ grammar.items one.0 = ap list_of one.2 ∙ list_of-items_of (grammar.items one.0) in
    let second_items : list_of e ≡ grammar.items two.0 = ap list_of two.2 ∙ list_of-items_of (grammar.items two.0) in
    let items_are : items_of (list_of d ++ list_of e) ≡ items_of (grammar.items tree) =
    ap items_of ((λ i. first_items i ++ list_of e) ∙ (ap (λ xs. grammar.items one.0 ++ xs) second_items ∙ sym (items_joined one.0 two.0))) in (
      located (line first ++ second) both.0 (grammar.spots tree []),
      record {
        ws = both.0;
        spots = grammar.spots tree [];
        has_words = record { short = short; cut = both.1 };
        spelled = (tree, words_are, items_are, refl);
        places_are = refl;
      },
    )
