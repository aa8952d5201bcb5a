-- The shell of an instance that has no part but a name.
-- SystemRDL 2.0, clause 5, instantiating components: every part behind the name may be left out.
use Rattle.std.specs.Prelude.{ℕ, List, [], None}
use Rattle.rdl_tree.specs.declared.shell.Shell.{Shell}
use Rattle.rdl_tree.specs.declared.shell.Outside.TheVariants.{Unsaid}

abbrev pub bare_shell : List ℕ → Shell
bare_shell n = record { name = n; outside = Unsaid; dims = []; range = None; reset = None; address = None; stride = None; align = None }
