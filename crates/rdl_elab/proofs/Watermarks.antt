-- What begins at the greatest end of its earlier siblings, or behind it, overlaps none of them.
use Rattle.std.proofs.Common.{◌≡◌, ◌≤◌, ℕ, List, Bool, true, false, refl, ap, ◌∙◌, arith, ◌&&◌, get_or}
use Rattle.std.specs.Prelude.{nat_lt, not}
use Rattle.std.specs.List.{All}
use Rattle.std.proofs.lemmas.Bool.{le-ltb}
use Rattle.std.proofs.lemmas.List.Folds.{list_any_none}
use Rattle.rdl_elab.specs.declared.layout.Span.{Span}
use Rattle.rdl_elab.specs.declared.rows.siblings.Sibling.{Sibling}
use Rattle.rdl_elab.specs.Faults.{overlap}
use Rattle.rdl_elab.specs.FinishedRows.{share, overlaps_before, clashes_before}

and-false : (x : Bool) → (x && false) ≡ false
and-false true = refl
and-false false = refl

pub apart : (a b : Span) (end : ℕ) → b.end ≤ end → end ≤ a.start → overlap a b ≡ false
apart a b end h g =
    ap (λ x. nat_lt a.start a.end && nat_lt b.start b.end && x && nat_lt b.start a.end) (le-ltb a.start b.end (omega (arith, h, g)))
    ∙ ap (λ x. x && nat_lt b.start a.end) (and-false (nat_lt a.start a.end && nat_lt b.start b.end))

pub beyond-overlap : (a : Span) (end : ℕ) (before : List Sibling) → All (λ (b : Sibling). b.span.end ≤ end) before → end ≤ a.start → overlaps_before a before ≡ false
beyond-overlap a end before h g = list_any_none (λ (b : Sibling). overlap a b.span) before (λ k d lt. apart a (get_or before k d).span end (h k d lt) g)

pub beyond-clash : (a : Sibling) (end : ℕ) (before : List Sibling) → All (λ (b : Sibling). b.span.end ≤ end) before → end ≤ a.span.start → clashes_before a before ≡ false
beyond-clash a end before h g =
    list_any_none (λ (b : Sibling). overlap a.span b.span && not (share a b)) before
    (λ k d lt. ap (λ x. x && not (share a (get_or before k d))) (apart a.span (get_or before k d).span end (h k d lt) g))
