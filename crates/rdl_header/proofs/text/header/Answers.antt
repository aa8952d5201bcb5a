use Rattle.std.proofs.Common.{ap, sym, ◌∙◌}
use Rattle.std.specs.Prelude.{Some, option_map}
use Rattle.rdl_header.proofs.StandingNames.{whole_names, clash_answered, text_answered}
use Rattle.rdl_header.proofs.text.header.Goals as goal

pub first_clash-requires : goal.first_clash-requires
first_clash-requires c = whole_names c.args.rows.now c.in_ok-header_lines.field-0 c.as_str.result.now c.as_slice.result.now c.in_ok-header_lines.ensures.lines (c.as_str.ensures.value ∙ c.into_parts-text.ensures.text) (c.as_slice.ensures.value ∙ c.into_parts-text.ensures.names) c.as_str.utf8

pub returns-in-Some-2-clause-err : goal.returns-in-Some-2-clause-err
returns-in-Some-2-clause-err c =
    clash_answered c.args.rows.now c.in_ok-header_lines.field-0 c.as_str.result.now c.as_slice.result.now c.in_ok-header_lines.ensures.lines (c.as_str.ensures.value ∙ c.into_parts-text.ensures.text) (c.as_slice.ensures.value ∙ c.into_parts-text.ensures.names) c.as_str.utf8 _
    (ap Some c.in_ok-from_str.ensures.ok ∙ sym (ap (option_map (λ name. name.now)) c.in-Some-2.is) ∙ c.in_ok-name.ensures)

pub returns-clause-ok : goal.returns-clause-ok
returns-clause-ok c =
    text_answered c.args.rows.now c.in_ok-header_lines.field-0 c.as_str.result.now c.as_slice.result.now c.in_ok-header_lines.ensures.lines (c.as_str.ensures.value ∙ c.into_parts-text.ensures.text) (c.as_slice.ensures.value ∙ c.into_parts-text.ensures.names) c.as_str.utf8 _
    (sym (ap (option_map (λ name. name.now)) c.in_default-2.is) ∙ c.in_ok-name.ensures) c.into_parts-text.ensures.text
