-- What takes patches back weighs no more than what they took away, and 20 for each.
use Rattle.std.proofs.Common.{◌≡◌, ◌+◌, ◌*◌, ◌≤◌, List, [], ◌∷◌, ◌++◌, length, ap, arith, length-append}
use Rattle.std.specs.Prelude.{IsTrue}
use Rattle.std.proofs.lemmas.Bool.{and_parts}
use Rattle.std.proofs.lemmas.List.Sums.{sum_by-cons, sum_by-append}
use Rattle.rdl_tree.specs.Items.{Items}
use Rattle.rdl_tree.specs.Address.{holder_of, number_of}
use Rattle.rdl_tree.specs.Depth.{depth}
use Rattle.rdl_tree.specs.ItemAt.{item_at}
use Rattle.rdl_tree.specs.Part.{part_of}
use Rattle.rdl_tree.specs.Patch.{patched, fits, inverse, inverses, AllFit, insert_again, exchange_again}
use Rattle.rdl_tree.specs.PatchWeight.{patch_weight, patches_weight, taken_by, taken, dropped_weight, old_part_weight}
use Rattle.rdl_tree.specs.declared.patch.Patch.{Patch}
use Rattle.rdl_tree.specs.declared.patch.Patch.TheVariants.{Insert, Delete, Shift, Exchange}
use Rattle.rdl_tree.proofs.Places.{stands, the_item, length-holder}
use Rattle.rdl_tree.proofs.Undone.{part_in}
use Rattle.rdl_tree.proofs.Nesting.{level-length, stands-short, patched-depth}

one_patch : (p : Patch) → patches_weight (p ∷ []) ≡ patch_weight p
one_patch p = omega (arith, sum_by-cons patch_weight p [])

inverse-weight : (p : Patch) (t : Items) → IsTrue (fits p t) → depth t ≤ 16 → patches_weight (inverse p t) ≤ taken_by p t + 20
inverse-weight (Insert at x) t h k =
    let level = level-length at x (and_parts _ _ h).0 in omega (arith, one_patch (Delete at), level.1)
inverse-weight (Delete at) t h k =
    let x = the_item (item_at at t) h in
    omega (arith, ap (λ o. patches_weight (insert_again at o)) x.1, one_patch (Insert at x.0), ap dropped_weight x.1, stands-short at t x.0 x.1)
inverse-weight (Shift at to) t h k =
    let x = the_item (item_at at t) (and_parts _ _ h).0 in
    let s = stands at t x.0 x.1 in
    omega (arith, one_patch (Shift (holder_of at ++ to ∷ []) (number_of at)), length-append (holder_of at) (to ∷ []), length-holder at s.within, stands-short at t x.0 x.1)
inverse-weight (Exchange at part) t h k =
    let x = part_in part (item_at at t) h in
    omega (arith, ap (λ o. patches_weight (exchange_again at part o)) x.1, one_patch (Exchange at (part_of part x.0)), ap (old_part_weight part) x.1, stands-short at t x.0 x.1)

pub weight-inverses : (ps : List Patch) (t : Items) → AllFit ps t → depth t ≤ 16 → patches_weight (inverses ps t) ≤ taken ps t + 20 * length ps
weight-inverses [] t h k = omega arith
weight-inverses (p ∷ ps) t h k =
    omega (arith, sum_by-append patch_weight (inverses ps (patched p t)) (inverse p t), inverse-weight p t h.0 k, weight-inverses ps (patched p t) h.1 (patched-depth p t h.0 k))
