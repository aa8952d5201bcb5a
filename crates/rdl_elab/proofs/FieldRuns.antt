-- One field after another.
use Rattle.std.proofs.Common.{◌≡◌, ℕ, suc, ◌+◌, ◌<◌, ◌≤◌, List, [], ◌∷◌, ◌++◌, map, drop, length, refl, ap, sym, ◌∙◌, arith, Option, Some, None, append_assoc, get_or}
use Rattle.std.proofs.Math.Seq.{drop-cons}
use Rattle.std.proofs.lemmas.List.{drop_all}
use Rattle.rdl_elab.specs.declared.layout.FieldBits.{FieldBits}
use Rattle.rdl_elab.specs.declared.layout.Span.{Span}
use Rattle.rdl_elab.specs.Bits.{bits_by, bits_of, bits_from}
use Rattle.rdl_elab.specs.Capped.{capped, capped_span}
use Rattle.rdl_elab.proofs.CappedNumbers.{Alike}
use Rattle.rdl_elab.proofs.Placing.{to_span}

abbrev kept : List Span → List Span
kept ss = map capped_span ss

-- a field begins and ends alike, where the field before it ends alike
by_alike : (x y width : ℕ) (range : Option (ℕ × ℕ)) → Alike x y → capped_span (bits_by x width range) ≡ capped_span (bits_by y width range)
by_alike x y width (Some range) h = refl
by_alike x y width None h = ap (λ n. to_span n (capped (x + width))) h ∙ ap (λ n. to_span (capped y) n) (wider x y h)
  where
    wider : (x y : ℕ) → Alike x y → Alike (x + width) (y + width)
    wider x y h = omega arith

from_alike : (x y : ℕ) (fs : List FieldBits) → Alike x y → kept (bits_from x fs) ≡ kept (bits_from y fs)
from_alike x y [] h = refl
from_alike x y (f ∷ fs) h =
    let one = by_alike x y f.width f.range h in
    ap (λ s. s ∷ kept (bits_from (bits_of x f).end fs)) one ∙ ap (λ ss. capped_span (bits_of y f) ∷ ss) (from_alike (bits_of x f).end (bits_of y f).end fs (ap (λ (s : Span). s.end) one))

twice_capped : (x : ℕ) → Alike (capped x) x
twice_capped x = omega arith

runs_step : (next : ℕ) (s : Span) (f : FieldBits) (fs : List FieldBits) → s ≡ capped_span (bits_of next f) → kept (bits_from next (f ∷ fs)) ≡ s ∷ kept (bits_from s.end fs)
runs_step next s f fs h =
    let near : Alike s.end (bits_of next f).end = ap (λ (t : Span). capped t.end) h ∙ twice_capped (bits_of next f).end in
    ap (λ t. t ∷ kept (bits_from (bits_of next f).end fs)) (sym h) ∙ ap (λ ss. s ∷ ss) (sym (from_alike s.end (bits_of next f).end fs near))

-- what one more field adds
pub more_bits : (next i : ℕ) (fields : List FieldBits) (d : FieldBits) (s : Span) (whole before after : List Span) → i < length fields → s ≡ capped_span (bits_of next (get_or fields i d))
    → whole ≡ before ++ kept (bits_from next (drop i fields)) → after ≡ before ++ s ∷ [] → whole ≡ after ++ kept (bits_from s.end (drop (i + 1) fields))
more_bits next i fields d s whole before after within h w p =
    let j : suc i ≡ i + 1 = omega arith in
    let one : kept (bits_from next (drop i fields)) ≡ s ∷ kept (bits_from s.end (drop (i + 1) fields)) =
    ap (λ fs. kept (bits_from next fs)) (drop-cons fields i d within) ∙ runs_step next s (get_or fields i d) (drop (suc i) fields) h
    ∙ ap (λ k. s ∷ kept (bits_from s.end (drop k fields))) j in
    w ∙ ap (λ xs. before ++ xs) one ∙ sym (append_assoc before (s ∷ []) (kept (bits_from s.end (drop (i + 1) fields))))
    ∙ ap (λ xs. xs ++ kept (bits_from s.end (drop (i + 1) fields))) (sym p)

-- what there is once no field is left
pub all_bits : (next i : ℕ) (fields : List FieldBits) (ss : List Span) → length fields ≤ i → kept (bits_from 0 fields) ≡ ss ++ kept (bits_from next (drop i fields)) → ss ≡ kept (bits_from 0 fields)
all_bits next i fields ss done p = sym (p ∙ ap (λ fs. ss ++ kept (bits_from next fs)) (drop_all i fields done) ∙ append_nil ss)
  where
    append_nil : {X : Type 0} (xs : List X) → xs ++ [] ≡ xs
    append_nil [] = refl
    append_nil (x ∷ xs) = ap (λ ys. x ∷ ys) (append_nil xs)

pub ruleset runs = (more_bits, all_bits)
