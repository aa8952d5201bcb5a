-- Patches that were applied to a description of which something is held.
-- own: SystemRDL 2.0 has no edits.
use Rattle.std.specs.Prelude.{◌≡◌, List}
use Rattle.rdl_tree.specs.Items.{Items}
use Rattle.rdl_tree.specs.Patch.{AllFit, image, inverses}
use Rattle.rdl_tree.specs.declared.patch.Patch.{Patch}
use Rattle.rdl_marks.specs.Marks.{no_marks}
use Rattle.rdl_marks.specs.Noted.{all_noted}
use Rattle.rdl_held.specs.HeldMap.{HeldMap, IsHeldOf, HasPlaced}

-- patches that fit have made this of a description of which that is held, and these take them back
pub record IsTurned (h : HeldMap) (backs : List Patch) (now : Items) : Type 0 where
  pub old : Items
  pub patches : List Patch
  pub held : IsHeldOf old h
  pub fit : AllFit patches old
  pub made : now ≡ image patches old
  pub back : backs ≡ inverses patches old

-- patches turned a description of which the first one was held into this one, of which the second one is; so many instances were placed
abbrev pub HasTurned : List Patch → (old : Items) → (was : HeldMap) → (now : Items) → (is : HeldMap) → Type 0
HasTurned ps old was now is = HasPlaced (all_noted (inverses ps old) no_marks) was now is
