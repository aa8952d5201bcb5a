-- The value that a constant of the code's table of properties stands for.
-- own: no part of what a property means, which is its row of Properties.
use Rattle.std.specs.Prelude.{true, false, Option, Some, None}
use Rattle.rdl_tree.specs.declared.value.Value.{Value}
use Rattle.rdl_tree.specs.declared.value.Value.TheVariants as value
use Rattle.rdl_tree.specs.declared.property.BuiltIn.{BuiltIn}
use Rattle.rdl_tree.specs.declared.property.BuiltIn.TheVariants.{Nothing, Off, Yes, Count, Named}

abbrev pub built_in_of : BuiltIn → Option Value
built_in_of Nothing = None
built_in_of Off = Some (value.Bool false)
built_in_of Yes = Some (value.Bool true)
built_in_of (Count n) = Some (value.Number n)
built_in_of (Named w) = Some (value.Word w)
