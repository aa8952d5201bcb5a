use Rattle.std.proofs.Common.{◌≡◌, ◌++◌, ◌∙◌, append_assoc, codes, flat_map, rules, string_bytes}
use Rattle.std.proofs.lemmas.Result.{on_ok_weaker}
use Rattle.rdl_diff.specs.Alike.{own_text}
use Rattle.rdl_diff.specs.Seen.{changes_seen}
use Rattle.rdl_diff.proofs.Listed.{own_all}
use Rattle.rdl_diff.proofs.inner.push_changed.Goals as goal

pub returns : goal.returns
returns c =
    let old = string_bytes c.args.text.now in
    let changes = c.args.changes.now in
    let mid : string_bytes c.push_str.new.self ≡ old ++ codes "~" = search rules in
    on_ok_weaker c.push_own.result (λ is. is ∙ (λ i. mid i ++ own_all changes i) ∙ append_assoc old (codes "~") (flat_map own_text (changes_seen changes))) c.push_own.ensures
