-- What marks tell behind quiet patches.
-- own: SystemRDL 2.0 has no edits.
use Rattle.std.specs.Prelude.{◌≡◌, ◌||◌, true, false}
use Rattle.rdl_tree.specs.Items.{Items, no_items, plain, holder}
use Rattle.rdl_tree.specs.View.{plain_item, holder_item}
use Rattle.rdl_tree.specs.declared.description.Item.{Item}
use Rattle.rdl_marks.specs.Marks.{Firsts, Traces, no_traces, new_trace, old_trace, Marks}
use Rattle.rdl_reach.specs.EditedBodies.{is_set}
use Rattle.rdl_reach.specs.Quiet.{is_quiet}

-- an item that isn't quiet wasn't moved, and nothing of it was set on which layouts depend
abbrev pub StaysQuietly : Firsts → Item → Type 0
StaysQuietly f x = is_quiet x ≡ false → (f.is_moved || is_set f x) ≡ false

-- these items are quiet
abbrev pub AllQuiet : Items → Type 0
AllQuiet no_items = Unit {0}
AllQuiet (plain p t) = (is_quiet (plain_item p) ≡ true) × AllQuiet t
AllQuiet (holder h body t) = ⊥

-- of these items only quiet ones came, and the others stayed quietly; the same holds inside each, and only quiet ones are gone there
abbrev pub StayQuiet : Traces → Items → Type 0
StayQuiet no_traces t = Unit {0}
StayQuiet (new_trace others) no_items = ⊥
StayQuiet (new_trace others) (plain p t) = (is_quiet (plain_item p) ≡ true) × StayQuiet others t
StayQuiet (new_trace others) (holder h body t) = ⊥
StayQuiet (old_trace number firsts inside behind gone items others) no_items = ⊥
StayQuiet (old_trace number firsts inside behind gone items others) (plain p t) = StaysQuietly firsts (plain_item p) × StayQuiet others t
StayQuiet (old_trace number firsts inside behind gone items others) (holder h body t) =
    (StaysQuietly firsts (holder_item h body) × StayQuiet inside body × AllQuiet items) × StayQuiet others t

pub record AreQuietMarks (m : Marks) (now : Items) : Type 0 where
  pub items : StayQuiet m.traces now
  pub gone : AllQuiet m.items
