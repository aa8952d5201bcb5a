-- What is held of a map from edit to edit.
-- SystemRDL 2.0 says how components are laid out, and nothing of edits. own: what is held.
use Rattle.std.specs.Prelude.{◌≡◌, ℕ, Bool, true, false, List, Option, Some, None, option_and_then, refl}
use Rattle.std.specs.Coded.{Coded, code_by, coded×, coded_ℕ, coded_list, coded_option}
use Rattle.rdl_tree.specs.Items.{Items}
use Rattle.rdl_tree.specs.Weight.{capped}
use Rattle.rdl_tree.specs.declared.shell.Kind.{Kind}
use Rattle.rdl_tree.specs.declared.shell.Kind.TheVariants.{Addrmap, Regfile, Reg, Field}
use Rattle.rdl_tree.specs.declared.description.Component.{Component}
use Rattle.rdl_scope.specs.Closed.{Made, component}
use Rattle.rdl_elab.specs.Known.{HasRows}
use Rattle.rdl_marks.specs.Describes.{Describes}
use Rattle.rdl_marks.specs.InOrder.{AreInOrder}
use Rattle.rdl_marks.specs.Marks.{Marks}
use Rattle.rdl_nodes.specs.Codes.{coded_slots}
use Rattle.rdl_nodes.specs.Placed.{all_placed}
use Rattle.rdl_renew.specs.Placed.{placed_of}
use Rattle.rdl_seen.specs.declared.mode.Mode.{Mode}
use Rattle.rdl_seen.specs.Layouts.{Layout, layout_under}
use Rattle.rdl_seen.specs.Meaning.{nothing_around}
use Rattle.rdl_seen.specs.Node.{body_of}
use Rattle.rdl_seen.specs.Slots.{Slots}
use Rattle.node_laws.specs.Laid.{laying}
use Rattle.node_laws.specs.Seen.{layouts_seen}

-- the slots of the root's items, the name that was asked of the top, and how many instances the last step placed, once for each mode
pub record HeldMap : Type 0 where
  pub slots : Slots
  pub top : Option (List ℕ)
  pub placed : ℕ

abbrev pub coded_held : Coded HeldMap
coded_held = code_by (Slots × (Option (List ℕ) × ℕ)) (coded× coded_slots (coded× (coded_option (coded_list coded_ℕ)) coded_ℕ))
    (λ h. (h.slots, (h.top, h.placed)))
    (λ p. record { slots = p.0; top = p.1.0; placed = p.1.1 })
    (λ _. refl)

-- they are those of this description, which has rows with this top
pub record IsHeldOf (d : Items) (h : HeldMap) : Type 0 where
  pub slots : h.slots ≡ (body_of laying nothing_around d).slots
  pub rows : HasRows d h.top

-- as marks tell, this became of a description of which that is held
pub record IsStep (h : HeldMap) (marks : Marks) (now : Items) : Type 0 where
  pub old : Items
  pub held : IsHeldOf old h
  pub describes : Describes marks old now
  pub in_order : AreInOrder marks

-- all instances of what is held were placed, once for each mode
abbrev pub HasPlacedAll : HeldMap → Type 0
HasPlacedAll h = h.placed ≡ capped (all_placed h.slots)

-- a step, of which marks tell, led from the first one to the second one, which is that of this description; so many instances were placed
abbrev pub HasPlaced : Marks → (old : HeldMap) → (now : Items) → (new : HeldMap) → Type 0
HasPlaced m old now new = new.placed ≡ capped (placed_of m old.slots now new.slots)

-- a component has a layout if it is no field
abbrev pub has_layout_by : Kind → Bool
has_layout_by Addrmap = true
has_layout_by Regfile = true
has_layout_by Reg = true
has_layout_by Field = false

abbrev pub has_layout : Option Component → Bool
has_layout None = false
has_layout (Some c) = has_layout_by c.kind

abbrev pub shown_layout : Kind → Layout → Option Layout
shown_layout Field l = None
shown_layout kind l = Some l

-- the layout of the component that the item at this address holds, if it is no field, each number over 2^40 as 2^40 + 1
abbrev pub layout_at : Items → List ℕ → Mode → Option Layout
layout_at d a mode = option_and_then (λ (c : Made). shown_layout c.head.kind (layout_under (layouts_seen c) mode)) (component d a)
