-- An instance that is found, as the code has it.
-- own: how the code holds what is found.
use Rattle.rdl_nodes.specs.declared.inside.Found.{Found}
use Rattle.rdl_nodes.specs.HeldInside.{within_of}
use Rattle.rdl_seen.specs.Inside as seen

abbrev pub found_of : Found → seen.Found
found_of f = record { number = f.number; within = within_of f.within.now }
