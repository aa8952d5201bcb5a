use Rattle.std.proofs.Common.{map, refl, ap, ◌∙◌}
use Rattle.rdl_diff.specs.Seen.{entry_seen, lines_seen}
use Rattle.rdl_diff.specs.Written.{entries_of, head_of}
use Rattle.rdl_diff.proofs.Texts.{all_texts}
use Rattle.rdl_diff.proofs.diff.Differences.of_lines.Goals as goal

pub returns : goal.returns
returns c =
    let choice = c.args.choice.now in
    all_texts choice.format (entries_of choice.moves (lines_seen c.args.lines.items)) c.in_ok-entries.entries.items
    (record { format = choice.format; head = c.head_of.result; entries = c.into_iter.result }) c.in_ok-entries.ensures refl c.into_iter.ensures.rest
    (c.head_of.ensures ∙ ap (λ es. head_of choice.format (map entry_seen es)) c.as_slice.ensures.value)
