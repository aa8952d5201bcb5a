-- What is asked by a dynamic assignment, as the code has it.
-- own: how the code holds what is asked.
use Rattle.std.specs.Prelude.{Option, option_map}
use Rattle.rdl_nodes.specs.declared.verdict.Asked.{Asked}
use Rattle.rdl_nodes.specs.HeldVerdict.{asked_of}
use Rattle.rdl_seen.specs.Inside as seen

abbrev pub asked_if : Option Asked → Option seen.Asked
asked_if a = option_map asked_of a
