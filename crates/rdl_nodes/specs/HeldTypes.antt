-- The types that a body sees, as the code has them: in the order in which they are defined.
-- own: how the code holds what is seen.
use Rattle.std.specs.Prelude.{ℕ, List, map, reverse}
use Rattle.rdl_nodes.specs.declared.types.Known.{Known}
use Rattle.rdl_nodes.specs.declared.types.Defined.{Defined}
use Rattle.rdl_nodes.specs.HeldInside.{within_of}
use Rattle.rdl_seen.specs.Node as seen

abbrev pub known_of : Known → seen.Known
known_of k = record { seen = k.seen.value; within = within_of k.within }

abbrev pub held : Defined → seen.Known
held x = known_of x.known

-- the types with their names
abbrev pub named : List Defined → List (List ℕ × seen.Known)
named xs = map (λ (x : Defined). (x.name.now, held x)) xs

-- the nearest one first
abbrev pub types_of : List Defined → List (List ℕ × seen.Known)
types_of xs = named (reverse xs)
