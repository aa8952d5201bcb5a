-- What a contract sees of what became of a body: where each of its items was before, what stood there first in the place of a
-- part, what was changed inside it, and which items are gone.
-- own: SystemRDL 2.0 has no edits.
use Rattle.std.specs.Prelude.{ℕ, ◌+◌, Bool, false, List, Option, None}
use Rattle.rdl_tree.specs.Items.{Items, no_items}
use Rattle.rdl_tree.specs.declared.shell.Shell.{Shell}
use Rattle.rdl_tree.specs.declared.value.Value.{Value}

-- what stood first in the place of each part of an item that was exchanged, and whether the item was moved
pub record Firsts : Type 0 where
  pub shell : Option Shell
  pub defined : Option (List ℕ)
  pub type_name : Option (List ℕ)
  pub value : Option Value
  pub target : Option (List (List ℕ))
  pub is_moved : Bool

-- no part was exchanged
abbrev pub no_firsts : Firsts
no_firsts = record { shell = None; defined = None; type_name = None; value = None; target = None; is_moved = false }

-- Items, in order: one that wasn't there before, or one that had a number before. Of that it is told what stood there first, and
-- what became of its body: of the items up to some place, behind which all stand that had a number from `behind` on; and of the
-- items that are gone, with these as they went.
pub data Traces : Type 0 where
  no_traces : Traces
  new_trace : (rest : Traces) → Traces
  old_trace : (number : ℕ) → Firsts → (inside : Traces) → (behind : ℕ) → (gone : Traces) → (items : Items) → (rest : Traces) → Traces

-- the same of a body
pub record Marks : Type 0 where
  pub traces : Traces
  pub behind : ℕ
  pub gone : Traces
  pub items : Items

-- of a body in which nothing is changed
abbrev pub no_marks : Marks
no_marks = record { traces = no_traces; behind = 0; gone = no_traces; items = no_items }

-- how many items are told of, those inside included
abbrev pub traces_count : Traces → ℕ
traces_count no_traces = 0
traces_count (new_trace rest) = traces_count rest
traces_count (old_trace number firsts inside behind gone items rest) = traces_count inside + traces_count gone + 1 + traces_count rest

abbrev pub marks_count : Marks → ℕ
marks_count m = traces_count m.traces + traces_count m.gone
