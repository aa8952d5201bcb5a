use Rattle.std.proofs.Common.{◌≡◌, ap, map, sym, ◌∙◌, string_bytes}
use Rattle.std.proofs.lemmas.Result.{on_ok_weaker}
use Rattle.rdl_diff.specs.Alike.{run_path, run_text}
use Rattle.rdl_diff.specs.Grouped.{groups_seen, joined_at}
use Rattle.rdl_diff.specs.Seen.{items_seen, path_seen}
use Rattle.rdl_diff.proofs.Joining.{keyed_on, one_joined, said}
use Rattle.rdl_diff.proofs.groups.join.Goals as goal

pub returns-clause-joined : goal.returns-clause-joined
returns-clause-joined c =
    let d = c.args.depth in
    let ks = c.args.groups.now.texts.keys in
    let gs = groups_seen c.args.groups.now.groups.items in
    let run = items_seen c.args.run.items in
    let text : string_bytes c.in_ok-text.text ≡ run_text d run = c.in_ok-text.ensures ∙ ap (λ is. run_text d (items_seen is)) c.as_slice.ensures.value in
    let at : path_seen c.in_ok-path.path ≡ run_path d run = c.in_ok-path.ensures ∙ ap (λ is. run_path d (items_seen is)) c.as_slice-2.ensures.value in
    on_ok_weaker c.join_at.result (λ e. e ∙ (λ i. joined_at (c.in_ok-number.ensures.index i) gs (at i) run) ∙ one_joined d ks gs c.in_ok-text.text run c.requires.keyed text) c.join_at.ensures

pub returns-clause-keyed : goal.returns-clause-keyed
returns-clause-keyed c =
    let d = c.args.depth in
    let ks = c.args.groups.now.texts.keys in
    let gs = groups_seen c.args.groups.now.groups.items in
    let run = items_seen c.args.run.items in
    let text : string_bytes c.in_ok-text.text ≡ run_text d run = c.in_ok-text.ensures ∙ ap (λ is. run_text d (items_seen is)) c.as_slice.ensures.value in
    let at : path_seen c.in_ok-path.path ≡ run_path d run = c.in_ok-path.ensures ∙ ap (λ is. run_path d (items_seen is)) c.as_slice-2.ensures.value in
    on_ok_weaker c.join_at.result (λ e.
    ap (map string_bytes) c.in_ok-number.ensures.keys
    ∙ keyed_on d ks gs c.in_ok-text.text run c.requires.keyed text
    ∙ ap (map (said d)) (sym (e ∙ (λ i. joined_at (c.in_ok-number.ensures.index i) gs (at i) run) ∙ one_joined d ks gs c.in_ok-text.text run c.requires.keyed text))) c.join_at.ensures
