use Rattle.std.proofs.Common.{◌≡◌, drop}
use Rattle.rdl_parse.specs.Reserved.{look, table_of}
use Rattle.rdl_parse.proofs.class.look.Given as goal

abbrev pub invariant-loop-word : goal.invariant-loop-word
invariant-loop-word l = look l.identifier (table_of (drop l.word-index l.words)) ≡ look l.identifier (table_of l.words)
