use Rattle.std.proofs.Common.{◌≡◌, ℕ, List, Result, Ok, sym, ap, ◌∙◌, subst, string_bytes}
use Rattle.rdl_header.specs.HeaderFaults.{IsFault}
use Rattle.rdl_header.specs.HeaderText.{header_of}
use Rattle.rdl_header.specs.declared.text.HeaderFault.TheVariants.{Clash}
use Rattle.rdl_run.specs.Closing.{Heads}
use Rattle.rdl_run.specs.Messages.{clash_line}
use Rattle.rdl_run.proofs.Closings.{heads_with_header, heads_with_clash}
use Rattle.rdl_run.proofs.closing.header_part.Goals as goal

pub returns-in-Ok-clause-heads : goal.returns-in-Ok-clause-heads
returns-in-Ok-clause-heads g c =
    let part = c.made.result in
    subst (Heads c.args.map.now.state (string_bytes part.message) (string_bytes part.text)) (sym c.made.ensures.made)
    (heads_with_header c.args.map.now.state c.in_ok-rows.rows (string_bytes part.message) (string_bytes part.text) c.in_ok-rows.ensures
    (ap header_of (sym c.as_slice.ensures) ∙ c.in-Ok.ensures.ok ∙ ap (λ (t : List ℕ). let r : Result (List ℕ) (List ℕ) = Ok t in r) (sym (c.made.ensures.text ∙ ap string_bytes c.in-Ok.text-is))) c.made.ensures.message)

pub returns-in-Err-Clash-clause-heads : goal.returns-in-Err-Clash-clause-heads
returns-in-Err-Clash-clause-heads g c =
    let part = c.left_out.result in
    let rows = c.in_ok-rows.rows in
    let name = c.in-Err-Clash.name in
    let clash : IsFault c.as_slice.result.now (Clash name) = subst (IsFault c.as_slice.result.now) c.in-Err-Clash.field-0-is c.in-Err-Clash.ensures.err in
    let said : string_bytes c.in_ok-message-in-Err-Clash.message ≡ clash_line (string_bytes name) =
    c.in_ok-message-in-Err-Clash.ensures ∙ ap clash_line (c.as_str.ensures.value ∙ ap string_bytes c.in-Err-Clash.name-is) in
    subst (Heads c.args.map.now.state (string_bytes part.message) (string_bytes part.text)) (sym c.left_out.ensures.left_out)
    (heads_with_clash c.args.map.now.state rows (string_bytes part.message) (string_bytes part.text) c.in_ok-rows.ensures (string_bytes name)
    (ap header_of (sym c.as_slice.ensures) ∙ clash) (c.left_out.ensures.message ∙ said) c.left_out.ensures.text)
