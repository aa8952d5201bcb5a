use Rattle.std.proofs.Common.{ap, ◌∙◌}
use Rattle.rdl_rewrite.specs.Names.{defined_names}
use Rattle.rdl_rewrite.proofs.NewNames.{texts, clash_found, clash_only, clash_repeated}
use Rattle.rdl_rewrite.proofs.names.definition_taken.Goals as goal

pub returns-in-Some : goal.returns-in-Some
returns-in-Some c =
    c.defines_any.ensures
    ∙ clash_found c.in_ok-names.field-0 c.as_slice-2.result.now c.in-Some.names (defined_names c.args.added.now) (defined_names c.args.all.now) c.in_ok-names.ensures c.in-Some.is (ap texts c.as_slice-2.ensures.value ∙ c.in_ok-new.ensures)

pub returns : goal.returns
returns c =
    clash_repeated c.in_ok-names.field-0 c.as_slice-2.result.now (defined_names c.args.added.now) (defined_names c.args.all.now) c.in_ok-names.ensures c.in-None.is (ap texts c.as_slice-2.ensures.value ∙ c.in_ok-new.ensures)

pub returns-in-len1 : goal.returns-in-len1
returns-in-len1 c =
    c.is_defined.ensures
    ∙ clash_only c.as_slice.result.now c.name-item.result (defined_names c.args.added.now) (defined_names c.args.all.now) c.in-len1.len_at_least c.in-len1.len_below c.name-item.is (ap texts c.as_slice.ensures.value ∙ c.in_ok-new.ensures)
