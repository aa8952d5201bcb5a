-- What is told of two maps, by what is asked. Own.
use Rattle.std.specs.Prelude.{Bool, true, false, not, List, bytes_eq}
use Rattle.std.specs.List.{list_any}
use Rattle.rdl_tree.specs.Properties.{row as row_of}
use Rattle.rdl_tree.specs.declared.property.Property.{Property}
use Rattle.rdl_diff.specs.declared.choice.Severity.{Severity}
use Rattle.rdl_diff.specs.declared.choice.Severity.TheVariants.{Any, Breaking}
use Rattle.rdl_diff.specs.declared.moves.Moves.{Moves}
use Rattle.rdl_diff.specs.declared.moves.Moves.TheVariants.{Own, Each}
use Rattle.rdl_diff.specs.declared.what.What.{What}
use Rattle.rdl_diff.specs.declared.what.What.TheVariants as what

abbrev pub is_among : Property → List Property → Bool
is_among p ps = list_any (λ q. bytes_eq (row_of q).name (row_of p).name) ps

-- the differences of a part are told, but those of properties that are ignored
abbrev pub is_told : (ignored : List Property) → What → Bool
is_told ignored (what.Value p) = not (is_among p ignored)
is_told ignored w = true

-- wherever they are: a base that differs may only follow what holds the row
abbrev pub tells_each : Moves → Bool
tells_each Own = false
tells_each Each = true

abbrev pub is_always_told : Moves → (ignored : List Property) → What → Bool
is_always_told m ignored what.Base = tells_each m
is_always_told m ignored w = is_told ignored w

-- a line is asked that tells of what breaks software, or doesn't
abbrev pub is_asked : Severity → (is_breaking : Bool) → Bool
is_asked Any b = true
is_asked Breaking b = b
