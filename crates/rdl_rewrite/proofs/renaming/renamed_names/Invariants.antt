use Rattle.std.proofs.Common.{◌≡◌, ◌++◌, drop}
use Rattle.rdl_rewrite.specs.Renaming.{renamed_names}
use Rattle.rdl_rewrite.proofs.renaming.renamed_names.Given as goal

abbrev pub invariant-names : goal.invariant-names
invariant-names l = renamed_names l.way l.name l.path l.names ≡ l.new.items ++ renamed_names l.way l.name (drop l.i l.path) (drop l.i l.names)
