-- What an edit that reaches every body knows of the item on the way.
-- own: SystemRDL 2.0 has no edits.
use Rattle.std.specs.Prelude.{◌≡◌, take, Some, option_copied}
use Rattle.rdl_tree.specs.ItemAt.{item_at}
use Rattle.rdl_tree.specs.Items.{Items}
use Rattle.rdl_tree.specs.View.{list_of}
use Rattle.rdl_tree.specs.Address.{body_at, holder_of, number_of}
use Rattle.rdl_scope.specs.Types.{items_in}
use Rattle.rdl_rewrite.specs.declared.sweep.Sweep.{Sweep}

pub record Knows (r : Sweep) : Type 0 where
  pub taken : option_copied r.taken ≡ item_at r.way.now r.whole.now.items
  pub place : r.place ≡ holder_of r.way.now
  pub holder : option_copied r.holder ≡ item_at (holder_of r.way.now) r.whole.now.items
  pub siblings : r.siblings ≡ items_in (holder_of r.way.now) r.whole.now.items
  pub before : (body : Items) → body_at (holder_of r.way.now) r.whole.now.items ≡ Some body → r.before.now ≡ take (number_of r.way.now) (list_of body)
