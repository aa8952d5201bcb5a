use Rattle.std.proofs.Common.{◌++◌, string_bytes, sym, ap, ◌∙◌}
use Rattle.rdl_run.specs.Messages.{unresumed_text}
use Rattle.rdl_run.proofs.Pieces.{pieces_2}
use Rattle.rdl_run.proofs.session_message.push_unresumed.Goals as goal

pub returns-in_ok-push_where-in-PatchMisfits : goal.returns-in_ok-push_where-in-PatchMisfits
unfolding unresumed_text
returns-in_ok-push_where-in-PatchMisfits c =
    pieces_2 _ _ _ _ _ c.in_ok-push_str-in-PatchMisfits.ensures.bytes c.in_ok-push_where-in-PatchMisfits.ensures
    ∙ ap (λ f. string_bytes c.args.text.now ++ unresumed_text f) (sym c.in-PatchMisfits.is)
