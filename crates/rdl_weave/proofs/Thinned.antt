-- Gaps between lines are left out of a text, and its words stay the same to the grammar.
use Rattle.std.proofs.Common.{◌≡◌, ℕ, ◌+◌, ◌-◌, ◌≤◌, ◌<◌, true, cond, ◌||◌, List, [], ◌∷◌, ◌++◌, length, take, drop, Result, Ok, refl, sym, ◌∙◌, ap, subst, arith}
use Rattle.std.proofs.lemmas.Bool.{ne_eqb}
use Rattle.std.proofs.lemmas.List.{append-nil, length-append, take-append-drop, drop-take, take-take, get_or-append-add}
use Rattle.std.specs.Prelude.{nat_eq, slice_range}
use Rattle.rdl_text.specs.Rows.{byte}
use Rattle.rdl_text.specs.Word.{Word}
use Rattle.rdl_text.specs.Words.{words}
use Rattle.rdl_text.specs.declared.fault.TextFault.{TextFault}
use Rattle.rdl_text.proofs.Following.{words-end}
use Rattle.rdl_parse.specs.Places.{located}
use Rattle.rdl_parse.specs.Parsing.{SpellsText}
use Rattle.rdl_parse.specs.Spelling.{Spells}
use Rattle.rdl_parse.specs.Symbol.{Symbol, symbols}
use Rattle.rdl_source.specs.Beside.{ends_line, line}
use Rattle.rdl_source.proofs.Behind.{Cut, cut_from, cut_line}
use Rattle.rdl_weave.specs.Thin.{HasOnlyWords, SaysAll}

-- ---- Lines.

whole_line : (s : List ℕ) → ends_line s ≡ true → line s ≡ s
whole_line s e = ap (λ b. cond b s (s ++ (10 ∷ []))) e

last_byte : (a b : List ℕ) → 0 < length b → byte (a ++ b) (length (a ++ b) - 1) ≡ byte b (length b - 1)
last_byte a b some =
    let place : length (a ++ b) - 1 ≡ length a + (length b - 1) = omega (arith, length-append a b, some) in
    ap (byte (a ++ b)) place ∙ get_or-append-add a b (length b - 1) 0

by_last : (b : List ℕ) → 0 < length b → ends_line b ≡ nat_eq (byte b (length b - 1)) 10
by_last b some = ap (λ x. x || nat_eq (byte b (length b - 1)) 10) (ne_eqb (length b) 0 (λ z. absurd (omega (arith, z, some))))

lines_end : (a b : List ℕ) → ends_line a ≡ true → ends_line b ≡ true → ends_line (a ++ b) ≡ true
lines_end a [] e f = ap ends_line (append-nil a) ∙ e
lines_end a (c ∷ cs) e f =
    let b = c ∷ cs in
    let some : 0 < length b = omega arith in
    by_last (a ++ b) (omega (arith, length-append a b, some)) ∙ (ap (λ x. nat_eq x 10) (last_byte a b some) ∙ (sym (by_last b some) ∙ f))

-- one text behind another that ends with a line
cut_both : (a b : List ℕ) (ws vs : List Symbol) → ends_line a ≡ true → Cut a ws → Cut b vs → Cut (a ++ b) (ws ++ vs)
cut_both a b ws vs e p q = subst (λ s. Cut (s ++ b) (ws ++ vs)) (whole_line a e) (cut_line a b ws vs p q)

-- ---- What is left of a text.

join : (s : List ℕ) (at n : ℕ) → at ≤ n → take at s ++ slice_range s at n ≡ take n s
join s at n h =
    let place : n ≡ at + (n - at) = omega (arith, h) in
    let whole = take n s in
    ap (λ t. t ++ slice_range s at n) (sym (take-take at n s h))
    ∙ (ap (λ t. take at whole ++ t) (sym (ap (λ k. drop at (take k s)) place ∙ drop-take at (n - at) s)) ∙ take-append-drop at whole)

-- a front of the text, of which this is left
pub record LeftOut (text thin : List ℕ) (at : ℕ) : Type 0 where
  pub symbols : List Symbol
  pub front : Cut (take at text) symbols
  pub thin_front : Cut thin symbols
  pub front_ends : ends_line (take at text) ≡ true
  pub thin_ends : ends_line thin ≡ true
  pub within : at ≤ length text

no_words : Cut [] []
no_words at = ([], words-end at [] refl, refl)

pub nothing_left_out : (text thin : List ℕ) → thin ≡ [] → LeftOut text thin 0
nothing_left_out text thin e = record {
  symbols = [];
  front = no_words;
  thin_front = subst (λ t. Cut t []) (sym e) no_words;
  front_ends = refl;
  thin_ends = ap ends_line e;
  within = omega arith;
}

pub one_left_out : (text thin front gap thin' : List ℕ) (at from to : ℕ) → LeftOut text thin at → at ≤ from → from ≤ to → to ≤ length text → front ≡ slice_range text at from → gap ≡ slice_range text from to
    → HasOnlyWords front → ends_line front ≡ true → words gap ≡ Ok [] → ends_line gap ≡ true → thin' ≡ thin ++ front → LeftOut text thin' to
one_left_out text thin front gap thin' at from to l low high in_text e f ws fe none ge t =
    let more = symbols ws.0 in
    let cut = cut_from front ws.0 ws.1 in
    let silent : Cut gap [] = cut_from gap [] none in
    let front_is : take at text ++ front ≡ take from text = ap (λ s. take at text ++ s) e ∙ join text at from low in
    let whole_is : (take at text ++ front) ++ gap ≡ take to text = ap (λ s. s ++ gap) front_is ∙ (ap (λ s. take from text ++ s) f ∙ join text from to high) in
    let both = cut_both (take at text) front l.symbols more l.front_ends l.front cut in
    let ends = lines_end (take at text) front l.front_ends fe in
    let all : Cut ((take at text ++ front) ++ gap) (l.symbols ++ more) =
    subst (Cut ((take at text ++ front) ++ gap)) (append-nil (l.symbols ++ more)) (cut_both (take at text ++ front) gap (l.symbols ++ more) [] ends both silent) in
    record {
      symbols = l.symbols ++ more;
      front = subst (λ s. Cut s (l.symbols ++ more)) whole_is all;
      thin_front = subst (λ s. Cut s (l.symbols ++ more)) (sym t) (cut_both thin front l.symbols more l.thin_ends l.thin_front cut);
      front_ends = ap ends_line (sym whole_is) ∙ lines_end (take at text ++ front) gap ends ge;
      thin_ends = ap ends_line t ∙ lines_end thin front l.thin_ends fe;
      within = in_text;
    }

same_words : (vs ws : List Word) → ◌≡◌ {A = Result (List Word) TextFault} (Ok vs) (Ok ws) → vs ≡ ws
same_words vs ws e = cc

-- a text with the same words to the grammar spells the same
says : (thin text : List ℕ) (us : List Symbol) → Cut thin us → Cut text us → SaysAll thin text
says thin text us p q canonical short s =
    let one = p 0 in
    let two = q 0 in
    let found = s.spelled in
    let same : symbols found.ws ≡ symbols two.0 = ap symbols (same_words found.ws one.0 (sym found.has_words.cut ∙ one.1)) ∙ (one.2 ∙ sym two.2) in
    let spelled : SpellsText text s.map (located text two.0 found.spots) = record {
      ws = two.0;
      spots = found.spots;
      has_words = record { short = short; cut = two.1 };
      spelled = subst (λ vs. Spells vs s.map found.spots) same found.spelled;
      places_are = refl;
    } in
    record { map = s.map; places = located text two.0 found.spots; spelled = spelled; within = s.within; is = s.is }

pub all_left_out : (text thin rest thin' : List ℕ) (at : ℕ) → LeftOut text thin at → rest ≡ drop at text → HasOnlyWords rest → thin' ≡ thin ++ rest → SaysAll thin' text
all_left_out text thin rest thin' at l e ws t =
    let more = symbols ws.0 in
    let cut = cut_from rest ws.0 ws.1 in
    let us = l.symbols ++ more in
    let whole : take at text ++ rest ≡ text = ap (λ s. take at text ++ s) e ∙ take-append-drop at text in
    says thin' text us (subst (λ s. Cut s us) (sym t) (cut_both thin rest l.symbols more l.thin_ends l.thin_front cut))
    (subst (λ s. Cut s us) whole (cut_both (take at text) rest l.symbols more l.front_ends l.front cut))
