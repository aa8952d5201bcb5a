use Rattle.std.proofs.Common.{◌≡◌, IsUtf8, map, rules}
use Rattle.rdl_run.proofs.Opened.{unread_session, reads}
use Rattle.rdl_run.proofs.open.read_session.Goals as goal

pub returns-in-Err-clause-refused : goal.returns-in-Err-clause-refused
returns-in-Err-clause-refused c =
    let same : c.in-Ok.text.now ≡ c.args.bytes.now = search rules in
    unread_session c.args.bytes.now c.in-Ok.text.now c.in-Err.fault c.unread-in-Err.result same c.in-Err.ensures.refused c.unread-in-Err.ensures

pub returns-in-Ok-parse_session-clause-read : goal.returns-in-Ok-parse_session-clause-read
returns-in-Ok-parse_session-clause-read c =
    let session = c.in-Ok-parse_session.session in
    let utf8 : IsUtf8 c.args.bytes.now = search rules in
    let same : c.in-Ok.text.now ≡ c.args.bytes.now = search rules in
    reads c.args.bytes.now c.in-Ok.text.now session.map.items (map (λ step. step.items) session.undo.items) (map (λ step. step.items) session.redo.items) utf8 same c.in-Ok-parse_session.ensures.found
