use Rattle.std.proofs.Common.{◌≡◌, ℕ, List, IfSome, length, drop, ◌-◌, ◌*◌, ◌+◌}
use Rattle.rdl_tree.specs.View.{items_of, list_of}
use Rattle.rdl_scope.specs.ItemFaults.{first_fault}
use Rattle.rdl_scope.specs.Types.{last_definition}
use Rattle.rdl_scope.specs.Scopes.{number_under, IsMet, Knows}
use Rattle.rdl_scope.proofs.faults.+walk.Given as goal

abbrev pub decreases-first_fault : goal.decreases-first_fault
decreases-first_fault l = 3 * (17 - length l.at.now)

abbrev pub decreases-inside_fault : goal.decreases-inside_fault
decreases-inside_fault l = 3 * (16 - length l.at.now) + 2

abbrev pub decreases-component_fault : goal.decreases-component_fault
decreases-component_fault l = 3 * (16 - length l.at.now) + 1

abbrev pub invariant-first_fault-items : goal.invariant-first_fault-items
invariant-first_fault-items l = record {
  first : first_fault l.description.items l.around l.at l.body 0 l.body ≡ first_fault l.description.items l.around l.at l.body l.i (items_of (drop l.i (list_of l.body)));
  levels : l.levels.items ≡ l.initial.levels.items;
  definitions : (q : List ℕ) → number_under l.definitions q ≡ last_definition q l.i l.body;
  passed : Knows l.description.items l.at l.body l.i l.passed;
  met : IfSome l.met (IsMet l.passed.places);
}
