-- Rows that are kept are those of the map at the place.
use Rattle.std.proofs.Common.{◌≡◌, List, Option, Some, None, sym, ◌∙◌, subst}
use Rattle.journal_core.specs.History.{IsAt}
use Rattle.rdl_edit.specs.Step.{State}
use Rattle.rdl_elab.specs.declared.row.Row.{Row}
use Rattle.rdl_run.specs.Answers.{History'}
use Rattle.rdl_run.specs.Shown.{AreOf, AreAt}

module _ (h : History') (now : State) (at : IsAt h now) where
  same-place : (other : State) → IsAt h other → now ≡ other
  same-place other there = let one : Some now ≡ Some other = sym at ∙ there in cc

  -- there is one map at the place
  pub at_place : (rows : Option (List Row)) → AreOf now rows → AreAt h rows
  at_place rows are = λ other there. subst (λ s. AreOf s rows) (same-place other there) are

-- where none are kept, nothing is said
pub none_kept : (h : History') → AreAt h None
none_kept h = λ now at. tt
