use Rattle.std.proofs.Common.{◌≡◌, ℕ, List, ◌++◌, string_bytes, ap, ◌∙◌}
use Rattle.std.specs.Fmt.{decimal}
use Rattle.rdl_run.specs.Messages.{add_column, parse_fault_text, text_refusal_text}
use Rattle.rdl_run.proofs.Pieces.{pieces_4}
use Rattle.rdl_run.proofs.reply.push_text_refusal.Goals as goal

pub returns : goal.returns
unfolding text_refusal_text
returns c =
    let what : c.parse_fault_text.result.now ≡ parse_fault_text c.args.fault.kind = c.parse_fault_text.ensures in
    let column : c.add_column.result ≡ add_column c.args.fault.offset = c.add_column.ensures in
    pieces_4 _ _ _ _ _ _ _ _ _
    c.in_ok-push_str.ensures.bytes
    (c.in_ok-push_str-2.ensures.bytes ∙ ap (λ (t : List ℕ). string_bytes c.push_str.new.self ++ t) what)
    c.in_ok-push_str-3.ensures.bytes
    (c.in_ok-push_decimal.ensures ∙ ap (λ n. string_bytes c.push_str-3.new.self ++ decimal n) column)
