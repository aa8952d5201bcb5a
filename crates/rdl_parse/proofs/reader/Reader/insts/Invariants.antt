use Rattle.std.proofs.Common.{◌≡◌, length, option_map}
use Rattle.rdl_text.specs.declared.token.Mark.TheVariants.{Comma}
use Rattle.rdl_parse.specs.Finds.{seen}
use Rattle.rdl_parse.specs.Gathering.{finished, next_of}
use Rattle.rdl_parse.specs.Reading.{begins, insts_at}
use Rattle.rdl_parse.specs.Symbol.{symbols}
use Rattle.rdl_parse.proofs.Gathering.{Gathers}
use Rattle.rdl_parse.proofs.reader.Reader.insts.Given as goal

abbrev pub invariant-commas : goal.invariant-commas
invariant-commas l = record {
  gathers : Gathers l.fn.room l.outside l.fn.of l.inner (option_map finished l.kept) (symbols l.self.rest) (insts_at l.fn.room l.fn.outside l.fn.of l.fn.inner (seen l.fn.found) (symbols l.fn.self.rest));
  next : l.next ≡ next_of (begins Comma (symbols l.self.rest)) l.fn.of;
}

abbrev pub decreases-commas : goal.decreases-commas
decreases-commas l = length l.self.rest
