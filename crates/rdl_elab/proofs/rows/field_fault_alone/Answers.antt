use Rattle.std.proofs.Common.{rules, ◌≡◌, true, false}
use Rattle.std.specs.Prelude.{nat_lt}
use Rattle.rdl_tree.specs.declared.property.Property.TheVariants.{Reset}
use Rattle.rdl_elab.specs.Faults.{is_reset_too_wide}
use Rattle.rdl_elab.specs.FinishedRows.{seen}
use Rattle.rdl_elab.specs.Layouts.{number_in}
use Rattle.rdl_elab.specs.Reaches.{value_under}
use Rattle.rdl_elab.proofs.SiblingsBefore.{field-alone}
use Rattle.rdl_elab.proofs.rows.field_fault_alone.Goals as goal

pub returns-then-is_reset_too_wide : goal.returns-then-is_reset_too_wide
returns-then-is_reset_too_wide c before h =
    let inside : nat_lt c.args.bits c.args.span.end ≡ false = search rules in
    let wide : is_reset_too_wide (number_in (value_under Reset c.args.values.now)) c.args.span ≡ true = search rules in
    field-alone c.args.bits (seen c.args.span c.args.values.now) before c.args.values.now false true h inside wide

pub returns-else-is_reset_too_wide : goal.returns-else-is_reset_too_wide
returns-else-is_reset_too_wide c before h =
    let inside : nat_lt c.args.bits c.args.span.end ≡ false = search rules in
    let fits : is_reset_too_wide (number_in (value_under Reset c.args.values.now)) c.args.span ≡ false = search rules in
    field-alone c.args.bits (seen c.args.span c.args.values.now) before c.args.values.now false false h inside fits
