-- One patch of a step, and those behind it.
use Rattle.std.proofs.Common.{◌≡◌, ℕ, suc, ◌+◌, ◌<◌, ◌≤◌, length, Bool, true, false, List, ◌∷◌, drop, get_or, ap, sym, ◌∙◌, drop-cons, add-one}
use Rattle.std.specs.Prelude.{nat_le, ◌&&◌}
use Rattle.std.proofs.lemmas.List.{drop_all}
use Rattle.rdl_tree.specs.Address.{holder_of, number_of}
use Rattle.rdl_tree.specs.Patch.{address_of}
use Rattle.rdl_tree.specs.declared.patch.Patch.{Patch}
use Rattle.rdl_origin.specs.Traces.{Traces, traces_at, map_inside}
use Rattle.rdl_origin.specs.Back.{changed, has_place_in, gone_back, all_gone_back, is_placed, are_placed}

-- a step as far as the patches before this one have led
pub record IsOnWay (ps : List Patch) (old new : Traces) (left : List Patch) : Type 0 where
  pub placed : are_placed ps old ≡ are_placed left new
  pub gone : all_gone_back ps old ≡ all_gone_back left new

rest_is : (ps : List Patch) (i : ℕ) (p : Patch) → i < length ps → p ≡ get_or ps i p → drop i ps ≡ p ∷ drop (i + 1) ps
rest_is ps i p h e = drop-cons ps i p h ∙ ap (λ q. q ∷ drop (suc i) ps) (sym e) ∙ ap (λ n. p ∷ drop n ps) (sym (add-one i))

first_placed : (b c : Bool) → b ≡ true → (b && c) ≡ c
first_placed b c e = ap (λ x. x && c) e

pub one_further : (ps : List Patch) (i : ℕ) (p : Patch) (old now new : Traces) → i < length ps → p ≡ get_or ps i p → is_placed p now ≡ true → new ≡ gone_back p now
    → IsOnWay ps old now (drop i ps) → IsOnWay ps old new (drop (i + 1) ps)
one_further ps i p old now new h e placed gone way = record {
  placed = way.placed ∙ ap (λ qs. are_placed qs now) (rest_is ps i p h e) ∙ first_placed _ _ placed ∙ ap (are_placed (drop (i + 1) ps)) (sym gone);
  gone = way.gone ∙ ap (λ qs. all_gone_back qs now) (rest_is ps i p h e) ∙ ap (all_gone_back (drop (i + 1) ps)) (sym gone);
}

pub refused_here : (ps : List Patch) (i : ℕ) (p : Patch) (old now : Traces) → i < length ps → p ≡ get_or ps i p → is_placed p now ≡ false → IsOnWay ps old now (drop i ps) → false ≡ are_placed ps old
refused_here ps i p old now h e placed way =
    sym (way.placed ∙ ap (λ qs. are_placed qs now) (rest_is ps i p h e) ∙ ap (λ b. b && are_placed (drop (i + 1) ps) (gone_back p now)) placed)

pub all_placed : (ps : List Patch) (i : ℕ) (old now : Traces) → length ps ≤ i → IsOnWay ps old now (drop i ps) → true ≡ are_placed ps old
all_placed ps i old now h way = sym (way.placed ∙ ap (λ qs. are_placed qs now) (drop_all i ps h))

pub all_gone : (ps : List Patch) (i : ℕ) (old now : Traces) → length ps ≤ i → IsOnWay ps old now (drop i ps) → now ≡ all_gone_back ps old
all_gone ps i old now h way = sym (way.gone ∙ ap (λ qs. all_gone_back qs now) (drop_all i ps h))

-- ---- One patch, by the way to the body and the number in it.

pub placed_at : (p : Patch) (t : Traces) (at way : List ℕ) (n : ℕ) (b : Bool) → at ≡ address_of p → nat_le 1 (length at) ≡ true → way ≡ holder_of at → n ≡ number_of at → b ≡ has_place_in p n (traces_at way t) → b ≡ is_placed p t
placed_at p t at way n b e h w k f =
    f ∙ ap (λ m. has_place_in p m (traces_at way t)) k ∙ ap (λ q. has_place_in p (number_of at) (traces_at q t)) w
    ∙ sym (ap (λ c. c && has_place_in p (number_of at) (traces_at (holder_of at) t)) h)
    ∙ ap (λ a. nat_le 1 (length a) && has_place_in p (number_of a) (traces_at (holder_of a) t)) e

pub unplaced_at : (p : Patch) (t : Traces) (at : List ℕ) → at ≡ address_of p → nat_le 1 (length at) ≡ false → false ≡ is_placed p t
unplaced_at p t at e h =
    sym (ap (λ c. c && has_place_in p (number_of at) (traces_at (holder_of at) t)) h)
    ∙ ap (λ a. nat_le 1 (length a) && has_place_in p (number_of a) (traces_at (holder_of a) t)) e

pub gone_at : (p : Patch) (t new : Traces) (at way : List ℕ) (n : ℕ) → at ≡ address_of p → way ≡ holder_of at → n ≡ number_of at → new ≡ map_inside way (changed p n) t → new ≡ gone_back p t
gone_at p t new at way n e w k f =
    f ∙ ap (λ m. map_inside way (changed p m) t) k ∙ ap (λ q. map_inside q (changed p (number_of at)) t) w
    ∙ ap (λ a. map_inside (holder_of a) (changed p (number_of a)) t) e
