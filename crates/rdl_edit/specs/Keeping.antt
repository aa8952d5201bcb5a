-- What a map keeps beside its description: what is held of it from edit to edit.
-- own: SystemRDL 2.0 has no edits.
use Rattle.std.specs.Prelude.{◌≡◌, ℕ}
use Rattle.rdl_edit.specs.Step.{State}
use Rattle.rdl_held.specs.HeldMap.{HeldMap, IsHeldOf}

-- it is that of this description with this top, so it has no fault
pub record Keeps (s : State) (h : HeldMap) : Type 0 where
  pub held : IsHeldOf s.description h
  pub top : h.top ≡ s.option

-- a map as a contract sees it: its state, and how many instances its last step placed, once for each mode
pub record Held : Type 0 where
  pub state : State
  pub placed : ℕ
