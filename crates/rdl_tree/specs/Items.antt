-- What a contract sees of a body: the finite tree of its items, without places, comments or layouts.
-- SystemRDL 2.0, clause 5, general concepts: definitions, instances, property assignments and defaults, in the order of the text.
use Rattle.std.specs.Prelude.{ℕ, ◌+◌, List}
use Rattle.rdl_tree.specs.declared.shell.Shell.{Shell}
use Rattle.rdl_tree.specs.declared.shell.Kind.{Kind}
use Rattle.rdl_tree.specs.declared.value.Value.{Value}

-- an item with no component of its own
pub data Plain : Type 0 where
  named : Shell → (type : List ℕ) → Plain
  own : (property : List ℕ) → Value → Plain
  default : (property : List ℕ) → Value → Plain
  dynamic : (target : List (List ℕ)) → (property : List ℕ) → Value → Plain

-- an item with a component of its own, without that component's body
pub data Holder : Type 0 where
  define : (name : List ℕ) → Kind → Holder
  anonymous : Shell → Kind → Holder

-- the items of a body, in order
pub data Items : Type 0 where
  no_items : Items
  plain : Plain → Items → Items
  holder : Holder → (body : Items) → (rest : Items) → Items

-- how many items there are, those inside included
abbrev pub count : Items → ℕ
count no_items = 0
count (plain p rest) = count rest + 1
count (holder h body rest) = count body + 1 + count rest
