use Rattle.std.proofs.Common.{string_bytes}
use Rattle.rdl_diff.proofs.Spans.{pushed}
use Rattle.rdl_diff.proofs.markdown.push_shown.Goals as goal

pub chars-preserved : goal.chars-preserved
chars-preserved c =
    pushed (string_bytes c.args.text.now) (string_bytes c.chars.text) (string_bytes c.push_in_span.new.text) c.chars.yielded c.in-Some.c c.chars.invariant c.in_ok-push_in_span.ensures
