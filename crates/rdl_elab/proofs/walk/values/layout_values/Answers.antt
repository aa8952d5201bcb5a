use Rattle.std.proofs.Common.{sym, ◌∙◌}
use Rattle.rdl_tree.specs.declared.shell.Kind.TheVariants.{Field}
use Rattle.rdl_elab.proofs.BareHeads.{layout-bare}
use Rattle.rdl_elab.proofs.Unstated.{layout-unassigned}
use Rattle.rdl_elab.proofs.walk.values.layout_values.Goals as goal

pub returns-in-Some-clause-values : goal.returns-in-Some-clause-values
returns-in-Some-clause-values c = λ h same_body same_defaults.
    let none = c.is_empty.ensures c.if-not-is_empty.false in
    c.in-Some.ensures ∙ sym (layout-unassigned Field c.args.own.now c.args.defaults.now none) ∙ layout-bare h c.args.own.now c.args.defaults.now same_body same_defaults

pub keep_layout-requires : goal.keep_layout-requires
keep_layout-requires c =
    let none = c.is_empty.ensures c.if-not-is_empty.false in
    c.bare_layout_values-values.ensures ∙ layout-unassigned Field c.args.own.now c.args.defaults.now none
