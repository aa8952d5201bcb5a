use Rattle.rdl_diff.proofs.Escapes.{escaped-differ, escaped-shown}
use Rattle.rdl_diff.proofs.laws.strings_print_apart.Goals as goal

pub returns : goal.returns
returns c = record { shown = escaped-shown; apart = escaped-differ }
