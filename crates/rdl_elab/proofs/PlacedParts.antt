-- Instances that are placed one after the other.
use Rattle.std.proofs.Common.{◌≡◌, ℕ, ◌+◌, ◌<◌, List, ◌∷◌, map, drop, length, ap, sym, ◌∙◌, subst, Option, Some, None, get_or}
use Rattle.std.specs.Prelude.{option_map, slice_get, IsSomeAnd}
use Rattle.std.specs.List.{cons_option}
use Rattle.rdl_elab.specs.declared.layout.Layout.{Layout}
use Rattle.rdl_elab.specs.declared.layout.Mode.{Mode}
use Rattle.rdl_elab.specs.declared.layout.Placement.{Placement}
use Rattle.rdl_elab.specs.declared.layout.placing.BarePlace.{BarePlace}
use Rattle.rdl_elab.specs.declared.walk.finished.Finished.{Finished}
use Rattle.rdl_elab.specs.Bare.{IsBare}
use Rattle.rdl_elab.specs.BarePlaces.{IsBarePlace, IsPlacedSo}
use Rattle.rdl_elab.specs.Finished.{under}
use Rattle.rdl_elab.specs.Inside.{shown_placement, kept_parts}
use Rattle.rdl_elab.specs.Kept.{Part}
use Rattle.rdl_elab.proofs.BarePlaces.{bare_item}
use Rattle.rdl_elab.proofs.Insides.{next}

-- what is left to place behind an instance, if its component is this
abbrev with_one : Mode → List Finished → Part → List Part → Option Finished → List Placement
with_one m fs p rest o = map shown_placement (cons_option (option_map (λ (f : Finished). (p.shell, under m f.layouts)) o) (kept_parts m fs rest))

module _ {L : Type 0} (m : Mode) (fs : List Finished) (p : Part) (rest : List Part) (before after : List Placement → L) where
  pub next-bare : (around : Option ℕ) (place : BarePlace) → IsBare p.shell → IsSomeAnd (slice_get fs p.component) (λ f. IsBarePlace around m (under m f.layouts) place)
      → ((item : Placement) (behind : List Placement) → IsPlacedSo around m item place → before (item ∷ behind) ≡ after behind)
      → before (map shown_placement (kept_parts m fs (p ∷ rest))) ≡ after (map shown_placement (kept_parts m fs rest))
  next-bare around place bare some put = by (slice_get fs p.component) some
    where
      by : (o : Option Finished) → IsSomeAnd o (λ f. IsBarePlace around m (under m f.layouts) place) → before (with_one m fs p rest o) ≡ after (map shown_placement (kept_parts m fs rest))
      by None h = absurd h
      by (Some f) h =
          let item = shown_placement (p.shell, under m f.layouts) in
          put item (map shown_placement (kept_parts m fs rest)) (h item (bare_item p.shell (under m f.layouts) bare))

-- one more instance is placed
pub one-placed : {L : Type 0} (m : Mode) (fs : List Finished) (i : ℕ) (ps : List Part) (p : Part) (before after : List Placement → L) (whole : L) → i < length ps → p ≡ get_or ps i p
    → ((rest : List Part) → before (map shown_placement (kept_parts m fs (p ∷ rest))) ≡ after (map shown_placement (kept_parts m fs rest)))
    → before (map shown_placement (kept_parts m fs (drop i ps))) ≡ whole → after (map shown_placement (kept_parts m fs (drop (i + 1) ps))) ≡ whole
one-placed m fs i ps p before after whole h is put inv =
    sym (put (drop (i + 1) ps)) ∙ ap (λ (q : Part). before (map shown_placement (kept_parts m fs (q ∷ drop (i + 1) ps)))) is ∙ sym (ap (λ qs. before (map shown_placement (kept_parts m fs qs))) (next i ps p h)) ∙ inv

-- how instances of a component are placed that say nothing but their names
pub learnt : (around : Option ℕ) (m n : Mode) (fs : List Finished) (k : ℕ) (f : Finished) (l : Layout) (place : BarePlace) → slice_get fs k ≡ Some f → n ≡ m → l ≡ under m f.layouts → IsBarePlace around n l place
    → IsSomeAnd (slice_get fs k) (λ f. IsBarePlace around m (under m f.layouts) place)
learnt around m n fs k f l place there mode same bare =
    subst (λ o. IsSomeAnd o (λ f. IsBarePlace around m (under m f.layouts) place)) (sym there)
    (subst (λ l. IsBarePlace around m l place) same (subst (λ n. IsBarePlace around n l place) mode bare))
