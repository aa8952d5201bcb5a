-- What a change of the items at the end of a way does.
use Rattle.std.proofs.Common.{◌≡◌, ℕ, zero, suc, ◌<◌, ◌≤◌, length, Bool, false, List, [], ◌∷◌, Option, Some, None, refl, ap, sym, ◌∙◌}
use Rattle.std.specs.Prelude.{slice_get, slice_set, option_map, option_and_then}
use Rattle.rdl_origin.specs.Traces.{Traces, trace, inside_of, map_item, traces_at, map_inside}
use Rattle.rdl_origin.specs.View.{add, traces_of}
use Rattle.rdl_origin.specs.Back.{change, changed, has_place, has_place_in}
use Rattle.rdl_origin.specs.declared.origin.Origin.{Origin}
use Rattle.rdl_tree.specs.declared.patch.Patch.{Patch}
use Rattle.rdl_origin.proofs.Rounds.{inside_of-get, list_of-traces_of}
use Rattle.rdl_tree.proofs.Steps.{first, others, path_split, path_end}

-- other items inside an item of a list
set-inside : (f : Traces → Traces) (i : ℕ) (os : List Origin) (o : Origin) → slice_get os i ≡ Some o → traces_of (slice_set os i (record o { inside = f o.inside })) ≡ map_item i f (traces_of os)
set-inside f i [] o e = refl
set-inside f zero (p ∷ os) o e =
    let same : p ≡ o = cc in ap (λ (q : Origin). trace q.now q.is_touched q.is_moved (f q.inside) (traces_of os)) (sym same)
set-inside f (suc i) (p ∷ os) o e = ap (add p) (set-inside f i os o e)

-- ---- At the end of the way.

pub placed_here : (p : Patch) (n : ℕ) (way : List ℕ) (t : Traces) (os : List Origin) (b : Bool) → length way < 1 → traces_of os ≡ t → b ≡ has_place p n (length os) → b ≡ has_place_in p n (traces_at way t)
placed_here p n way t os b h v e =
    e ∙ ap (λ (xs : List Origin). has_place p n (length xs)) (sym (list_of-traces_of os))
    ∙ ap (λ u. has_place_in p n (Some u)) v
    ∙ ap (λ w. has_place_in p n (traces_at w t)) (sym (path_end way h))

pub gone_here : (p : Patch) (n : ℕ) (way : List ℕ) (t : Traces) (os new : List Origin) → length way < 1 → traces_of os ≡ t → new ≡ change p n os → traces_of new ≡ map_inside way (changed p n) t
gone_here p n way t os new h v e =
    ap traces_of (e ∙ ap (change p n) (sym (list_of-traces_of os)))
    ∙ ap (changed p n) v
    ∙ ap (λ w. map_inside w (changed p n) t) (sym (path_end way h))

-- ---- On the way.

inside_found : (way : List ℕ) (t : Traces) (os : List Origin) (o : Option Origin) → traces_of os ≡ t → slice_get os (first way) ≡ o → inside_of (first way) t ≡ option_map (λ (q : Origin). q.inside) o
inside_found way t os o v e = ap (inside_of (first way)) (sym v) ∙ inside_of-get (first way) os ∙ ap (option_map (λ (q : Origin). q.inside)) e

pub placed_deeper : (p : Patch) (n : ℕ) (way : List ℕ) (t : Traces) (os : List Origin) (o : Origin) (b : Bool) → 1 ≤ length way → traces_of os ≡ t → slice_get os (first way) ≡ Some o
    → b ≡ has_place_in p n (traces_at (others way) o.inside) → b ≡ has_place_in p n (traces_at way t)
placed_deeper p n way t os o b h v f e =
    e ∙ ap (λ q. has_place_in p n (option_and_then (traces_at (others way)) q)) (sym (inside_found way t os (Some o) v f))
    ∙ ap (λ w. has_place_in p n (traces_at w t)) (sym (path_split way h))

pub placed_nowhere : (p : Patch) (n : ℕ) (way : List ℕ) (t : Traces) (os : List Origin) → 1 ≤ length way → traces_of os ≡ t → slice_get os (first way) ≡ None
    → false ≡ has_place_in p n (traces_at way t)
placed_nowhere p n way t os h v f =
    ap (λ q. has_place_in p n (option_and_then (traces_at (others way)) q)) (sym (inside_found way t os None v f))
    ∙ ap (λ w. has_place_in p n (traces_at w t)) (sym (path_split way h))

pub gone_deeper : (p : Patch) (n : ℕ) (way : List ℕ) (t : Traces) (os : List Origin) (o : Origin) (w : Traces) → 1 ≤ length way → traces_of os ≡ t → slice_get os (first way) ≡ Some o
    → w ≡ map_inside (others way) (changed p n) o.inside → traces_of (slice_set os (first way) (record o { inside = w })) ≡ map_inside way (changed p n) t
gone_deeper p n way t os o w h v f e =
    ap (λ (u : Traces). traces_of (slice_set os (first way) (record o { inside = u }))) e
    ∙ set-inside (map_inside (others way) (changed p n)) (first way) os o f
    ∙ ap (map_item (first way) (map_inside (others way) (changed p n))) v
    ∙ ap (λ q. map_inside q (changed p n) t) (sym (path_split way h))
