use Rattle.std.proofs.Common.{◌≡◌, ◌/◌, ◌*◌, ◌^◌}
use Rattle.rdl_header.specs.HeaderText.{word_macros}
use Rattle.rdl_header.specs.Lines.{added}
use Rattle.rdl_header.proofs.macros.add_words.Given as goal

abbrev pub invariant-words : goal.invariant-words
invariant-words l = record {
  left : l.rest ≡ l.number / 2 ^ (32 * l.index);
  added : l.lines ≡ added l.fn.lines (word_macros l.head l.ending l.number l.index);
}
