use Rattle.std.proofs.Common.{◌≡◌, ap, ◌∙◌}
use Rattle.std.proofs.lemmas.Result.{IfOk-weaker}
use Rattle.serde_json.specs.View.{view}
use Rattle.serde_json.specs.Written.{compact_text, has_float}
use Rattle.rdl_diff.specs.Json.{entry_data}
use Rattle.rdl_diff.specs.Seen.{entry_seen}
use Rattle.rdl_diff.proofs.JsonLines.{no_float}
use Rattle.rdl_diff.proofs.json.object_text.Goals as goal

pub returns : goal.returns
returns c =
    let entry = entry_seen c.args.entry.now in
    let is : view c.in_ok-entry_json.field-0 ≡ entry_data entry = c.in_ok-entry_json.ensures in
    IfOk-weaker c.to_string.result _ _ (λ text h. h (ap has_float is ∙ no_float entry) ∙ ap compact_text is) c.to_string.ensures.text
