-- What stands under names.
-- own: how items are found by their names.
use Rattle.std.specs.Prelude.{ℕ, List, Option}
use Rattle.rdl_scope.specs.Spot.{value_found}
use Rattle.rdl_scope.specs.declared.by_name.ByName.{ByName}

-- the value under a name
abbrev pub value_under : {V : Type 0} → ByName V → List ℕ → Option V
value_under m q = value_found m.slots.items m.entries.items m.others q
