-- What is placed for one item of a body that is renewed, as the code counts it.
-- own: SystemRDL 2.0 has no edits.
use Rattle.std.specs.Prelude.{ℕ, Bool, Option}
use Rattle.rdl_tree.specs.Items.{Items}
use Rattle.rdl_tree.specs.declared.description.Item.{Item}
use Rattle.rdl_tree.specs.declared.description.Item.TheVariants.{Define, Instance, Own, Default, Dynamic}
use Rattle.rdl_tree.specs.declared.description.Of.TheVariants.{Named, Anonymous}
use Rattle.rdl_marks.specs.Marks.{Marks}
use Rattle.rdl_marks.specs.View.{Trace}
use Rattle.rdl_nodes.specs.Placed.{CountsOn}
use Rattle.rdl_seen.specs.Layouts.{Laying}
use Rattle.rdl_seen.specs.Meaning.{kept_at}
use Rattle.rdl_seen.specs.Slots.{Slots, Node}
use Rattle.rdl_renew.specs.Anew.{slots_there}
use Rattle.rdl_renew.specs.Placed.{in_body, placed_item, placed_stayed}
use Rattle.rdl_renew.specs.Renewing.{Renewing}

-- what is placed for an item, by the body of its component, if it has one
abbrev pub by_body : (Items → ℕ) → Item → ℕ
by_body f (Define n c) = f c.body
by_body f (Instance s (Named t)) = 0
by_body f (Instance s (Anonymous c)) = f c.body
by_body f (Own p v) = 0
by_body f (Default p v) = 0
by_body f (Dynamic t p v) = 0

-- for one of which this is told, and that is kept now
abbrev pub item_placed : (is_width_set : Bool) → (before : Slots) → Trace → (now : Option Node) → Item → ℕ
item_placed w before e now y = by_body (λ body. placed_item (in_body body) w before e body now) y

-- for one that stayed, of which that was kept, and inside which this was changed
abbrev pub stayed_placed : (is_width_set : Bool) → (inside : Marks) → (before now : Option Node) → Item → ℕ
stayed_placed w inside before now y = by_body (λ body. placed_stayed (in_body body) w inside before body now) y

-- the count goes on by what is placed for item n of a body that is renewed
abbrev pub CountsItem : Laying → Renewing → (is_width_set : Bool) → ℕ → Trace → Item → (before now : ℕ) → Type 0
CountsItem lay r w n e y before now = CountsOn before now (item_placed w r.slots e (kept_at n (slots_there lay r.places r.now)) y)
