use Rattle.std.proofs.Common.{◌≡◌, take, drop}
use Rattle.rdl_header.specs.HeaderText.{clash_behind, first_clash}
use Rattle.rdl_header.specs.Lines.{named}
use Rattle.rdl_header.proofs.FirstClash.{held}
use Rattle.rdl_header.proofs.clashes.first_clash.Given as goal

abbrev pub invariant-names : goal.invariant-names
invariant-names l = record {
  known : held l.known.entries ≡ take l.stretch-index (named l.text l.names);
  rest : clash_behind (take l.stretch-index (named l.text l.names)) (drop l.stretch-index (named l.text l.names)) ≡ first_clash (named l.text l.names);
}
