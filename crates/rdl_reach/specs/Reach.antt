-- Which bodies an edit reaches: those that it edits, and those that hold an instance whose component's body is in reach. Every other
-- component is laid out as before.
-- own: SystemRDL 2.0 says how components are laid out, and nothing of edits.
use Rattle.std.specs.Prelude.{◌≡◌, ℕ, Bool, true, false, ◌||◌, List, Some, None}
use Rattle.rdl_tree.specs.Items.{Items}
use Rattle.rdl_scope.specs.Target.{body_of}
use Rattle.rdl_scope.specs.Types.{component_of}
use Rattle.rdl_scope.specs.Closed.{Parts, no_parts, part, component}

-- one of these instances has a component whose body is in reach of those that are edited
abbrev pub leads_there : (List ℕ → Bool) → Parts → Bool
leads_there edited no_parts = false
leads_there edited (part at s h inside rest) = edited h.at || leads_there edited inside || leads_there edited rest

-- a body is in reach if it is edited, or holds an instance whose component's body is in reach
abbrev pub in_reach : (List ℕ → Bool) → Items → List ℕ → Bool
in_reach edited d a = edited a || elim (component d a) [ None ↦ false | Some c ↦ leads_there edited c.parts ]

-- the same in words of the searches: a body is in reach if it is edited, or if one of its items is an instance whose component's body is
-- in reach. A law says that only such bodies are in reach
pub data IsInReach (edited : List ℕ → Bool) (d : Items) : List ℕ → Type 0 where
  itself : (a : List ℕ) → edited a ≡ true → IsInReach edited d a
  through : (a at b : List ℕ) → body_of at ≡ a → component_of d at ≡ Some b → IsInReach edited d b → IsInReach edited d a
