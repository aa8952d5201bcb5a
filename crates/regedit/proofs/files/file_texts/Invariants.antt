use Rattle.std.proofs.Common.{◌≡◌, map, take}
use Rattle.regedit.specs.Files.{lent, seen, to_files}
use Rattle.regedit.proofs.files.file_texts.Given as goal

abbrev pub invariant-outputs : goal.invariant-outputs
invariant-outputs l = map lent l.files.items ≡ to_files (map seen (take l.one-index l.outputs))
