-- How many instances are placed where what is kept of a map is renewed: those of the components that are laid out anew.
-- own: SystemRDL 2.0 has no edits.
use Rattle.std.specs.Prelude.{ℕ, suc, ◌+◌, ◌||◌, not, Bool, if◌then◌else◌, Option, Some, None}
use Rattle.rdl_tree.specs.Items.{Items, no_items, plain, holder}
use Rattle.rdl_marks.specs.Marks.{Marks}
use Rattle.rdl_marks.specs.View.{Trace, new_item, old_item}
use Rattle.rdl_marks.specs.Was.{trace_of}
use Rattle.rdl_nodes.specs.Placed.{node_placed, placed_over}
use Rattle.rdl_seen.specs.Meaning.{kept_at}
use Rattle.rdl_seen.specs.Slots.{Slots, Node}
use Rattle.rdl_renew.specs.AlikeSlots.{tells_of_width, are_alike}
use Rattle.rdl_renew.specs.Raised.{raised}

-- a default width of fields came, went, was moved or set in the body
abbrev pub sets_width : Marks → Items → Bool
sets_width m body = tells_of_width (raised m body)

-- what is placed for a component that wasn't there before, or was moved, if it is kept by itself: all
abbrev pub placed_anew : (now : Option Node) → ℕ
placed_anew None = 0
placed_anew (Some n) = node_placed n

-- What is placed inside a component with some body, where a default width of fields may have been set around it: a function of whether one
-- was set there or in it, of what became of the body, and of the slots that were kept of it and those that are.
abbrev pub Inner : Type 0
Inner = (is_width_set : Bool) → Marks → (before now : Slots) → ℕ

-- what is placed for a component that stayed: what is inside it, and its own instances, unless these are alike and its values the same
abbrev pub placed_stayed : Inner → (is_width_set : Bool) → (inside : Marks) → (before : Option Node) → Items → (now : Option Node) → ℕ
placed_stayed inner w inside before body None = 0
placed_stayed inner w inside None body (Some n) = placed_anew (Some n)
placed_stayed inner w inside (Some b) body (Some n) =
    let v = w || sets_width inside body in
    placed_over (are_alike (not v) inside b.slots n.slots body) b.core n.core + inner v inside b.slots n.slots

-- what is placed for the component of an item of which this is told
abbrev pub placed_item : Inner → (is_width_set : Bool) → (before : Slots) → Trace → Items → (now : Option Node) → ℕ
placed_item inner w before new_item body now = placed_anew now
placed_item inner w before (old_item number firsts inside) body now =
    if firsts.is_moved then placed_anew now else placed_stayed inner w inside (kept_at number before) body now

-- none is told of only where marks don't describe the body
abbrev pub placed_told : Inner → (is_width_set : Bool) → (before : Slots) → Option Trace → Items → (now : Option Node) → ℕ
placed_told inner w before None body now = placed_anew now
placed_told inner w before (Some e) body now = placed_item inner w before e body now

-- what is placed for these items, the first of which has number n, of a body of which that was kept before and this is now
abbrev pub placed_in : (is_width_set : Bool) → Marks → (before now : Slots) → ℕ → Items → ℕ
placed_in w m before now n no_items = 0
placed_in w m before now n (plain p rest) = placed_in w m before now (suc n) rest
placed_in w m before now n (holder h body rest) =
    placed_told (λ v inside was is. placed_in v inside was is 0 body) w before (trace_of m n) body (kept_at n now) + placed_in w m before now (suc n) rest

-- what is placed inside a component with this body
abbrev pub in_body : Items → Inner
in_body body = λ w m before now. placed_in w m before now 0 body

-- what is placed for a map of which that was kept, and now this is
abbrev pub placed_of : Marks → (before : Slots) → Items → (now : Slots) → ℕ
placed_of m before body now = placed_in (sets_width m body) m before now 0 body
