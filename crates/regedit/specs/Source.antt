-- What is known of the bytes of an input. Own.
use Rattle.std.specs.Prelude.{ℕ, List, Option}
use Rattle.regedit.specs.declared.source.Source.{Source}
use Rattle.regedit.specs.declared.source.Source.TheVariants.{File, Standard}

-- those of the file or of standard input, whichever it is
abbrev pub remaining_of : {F S : Type 0} → (F → Option (List ℕ)) → (S → Option (List ℕ)) → Source F S → Option (List ℕ)
remaining_of of_file of_standard (File file) = of_file file
remaining_of of_file of_standard (Standard input) = of_standard input
