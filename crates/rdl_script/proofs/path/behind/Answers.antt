use Rattle.std.proofs.lemmas.Str.Pattern.{strip_prefix_char}
use Rattle.rdl_script.proofs.Splits.{stripped}
use Rattle.rdl_script.proofs.path.behind.Goals as goal

pub returns : goal.returns
returns c = stripped c.args.first c.args.text.now _ (strip_prefix_char c.args.first c.args.text.now _ c.strip_prefix.ensures.cases c.requires)
