use Rattle.std.proofs.Common.{string_bytes}
use Rattle.rdl_diff.proofs.Escapes.{pushed}
use Rattle.rdl_diff.proofs.escaped.push_escaped.Goals as goal

pub chars-preserved : goal.chars-preserved
chars-preserved c =
    pushed (string_bytes c.args.text.now) (string_bytes c.chars.text) (string_bytes c.push_shown.new.text) c.chars.yielded c.in-Some.c c.chars.invariant c.in_ok-push_shown.ensures
