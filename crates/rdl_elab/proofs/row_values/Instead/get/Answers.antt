use Rattle.std.proofs.Common.{◌≡◌, List, [], ◌∷◌, Option, None, ap, sym, ◌∙◌, rules, option_copied}
use Rattle.std.specs.Prelude.{if◌then◌else◌}
use Rattle.std.specs.Option.{option_or}
use Rattle.rdl_tree.specs.Properties.{on}
use Rattle.rdl_tree.specs.declared.property.Property.TheVariants.{Reset}
use Rattle.rdl_tree.specs.declared.value.Value.{Value}
use Rattle.rdl_elab.specs.declared.row.PropertyValue.{PropertyValue}
use Rattle.rdl_elab.specs.InstanceValues.{with_instance}
use Rattle.rdl_elab.specs.Reaches.{value_under}
use Rattle.rdl_elab.specs.Shown.{valued}
use Rattle.rdl_elab.proofs.InstanceLists.{under-instance}
use Rattle.rdl_elab.proofs.row_values.Instead.get.Goals as goal

pub returns-in-Nothing : goal.returns-in-Nothing
returns-in-Nothing c =
    let p = c.args.property in
    let own = c.args.own.now in
    c.before_own.ensures
    ∙ sym (under-instance c.in-Nothing.kind [] own p)
    ∙ sym (ap (λ i. value_under p (with_instance i own)) c.in-Nothing.is)

pub returns-in-Reset : goal.returns-in-Reset
returns-in-Reset c =
    let p = c.args.property in
    let k = c.in-Reset.kind in
    let own = c.args.own.now in
    let found : option_copied c.if_reset.result ≡ value_under p (valued Reset c.in-Reset.value.value ∷ []) = first_of (search rules, cc) in
    c.before_own-in-Reset.ensures
    ∙ ap (λ (o : Option Value). if on p k then option_or o (value_under p own) else None) found
    ∙ sym (under-instance k (valued Reset c.in-Reset.value.value ∷ []) own p)
    ∙ sym (ap (λ i. value_under p (with_instance i own)) c.in-Reset.is)

pub returns-in-Assigned : goal.returns-in-Assigned
returns-in-Assigned c =
    let p = c.args.property in
    let k = c.in-Assigned.kind in
    let own = c.args.own.now in
    let listed : c.as_slice.result.now ≡ c.in-Assigned.values.value.items = first_of (cc, search rules) in
    c.before_own-in-Assigned.ensures
    ∙ ap (λ (o : Option Value). if on p k then option_or o (value_under p own) else None) c.value_under-first.ensures
    ∙ ap (λ (xs : List PropertyValue). if on p k then option_or (value_under p xs) (value_under p own) else None) listed
    ∙ sym (under-instance k c.in-Assigned.values.value.items own p)
    ∙ sym (ap (λ i. value_under p (with_instance i own)) c.in-Assigned.is)
