-- What a body sees around it, as the code has it.
-- own: how the code holds what is seen.
use Rattle.rdl_nodes.specs.declared.around.Around.{Around}
use Rattle.rdl_nodes.specs.HeldTypes.{types_of}
use Rattle.rdl_seen.specs.Node as seen

abbrev pub around_of : Around → seen.Around
around_of a = record { types = types_of a.types.list.items; defaults = a.defaults }
