use Rattle.std.proofs.Common.{◌≡◌, ◌*◌, ◌≤◌, ◌<◌, ℕ, List, length, get_or, ap, arith}
use Rattle.std.proofs.lemmas.List.Sums.{get_or-le-sum_by}
use Rattle.rdl_tree.specs.Items.{Items, count}
use Rattle.rdl_tree.specs.View.{items_of, list_of}
use Rattle.rdl_tree.specs.declared.description.Item.{Item}
use Rattle.rdl_tree.proofs.Rounds.{items_of-list_of}
use Rattle.rdl_tree.proofs.Sizes.{item_count, count-items_of}
use Rattle.rdl_elab.proofs.walk.targets.+further.Goals as goal

-- an item holds no more items than the body around it
item-counted : (xs : List Item) (i : ℕ) (x : Item) (t : Items) → i < length xs → x ≡ get_or xs i x → xs ≡ list_of t → item_count x ≤ count t
item-counted xs i x t h e f =
    omega (arith, ap item_count e, get_or-le-sum_by item_count xs i x h, count-items_of xs, ap (λ (ys : List Item). count (items_of ys)) f, ap count (items_of-list_of t))

pub goes_further-item_goes_further-requires : goal.goes_further-item_goes_further-requires
goes_further-item_goes_further-requires t c =
    let h = item-counted c.as_slice-item-items.result.now c.loop-item.item-index c.item-item.result c.args.body.now c.loop-item-test.true c.item-item.is c.as_slice-item-items.ensures in
    let less : 2 * item_count c.item-item.result < t = omega (arith, h, c.decreases) in
    (less, tt)
