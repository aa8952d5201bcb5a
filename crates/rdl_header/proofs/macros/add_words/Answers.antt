use Rattle.std.proofs.Common.{ap, ◌∙◌, ◌/◌, ◌^◌}
use Rattle.rdl_header.proofs.WordMacros.{word-behind, word_added}
use Rattle.rdl_header.proofs.macros.add_words.Goals as goal

pub words-preserved : goal.words-preserved
words-preserved c = record {
  left = ap (λ r. r / 2 ^ 32) c.words.invariant.left ∙ word-behind c.args.number c.words.index;
  added = word_added c.args.head.now c.args.ending.now c.as_str.result.now c.args.number c.words.index c.words.rest c.args.lines.now c.words.lines c.push_hexadecimal.new.self (c.as_str.ensures.value ∙ c.in_ok-numbered.ensures) c.words.invariant.left c.words.invariant.added c.in_ok-push_hexadecimal.ensures;
}
