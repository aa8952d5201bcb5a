use Rattle.std.proofs.Common.{◌≡◌, [], ◌∷◌, ap, refl, rules}
use Rattle.rdl_tree.specs.declared.property.Property.TheVariants.{Reset}
use Rattle.rdl_elab.specs.InstanceValues.{with_instance}
use Rattle.rdl_elab.specs.Shown.{valued}
use Rattle.rdl_elab.proofs.SameValues.{instead-same}
use Rattle.rdl_elab.proofs.row_values.Instead.is_same.Goals as goal

pub returns-in-Nothing-Nothing : goal.returns-in-Nothing-Nothing
returns-in-Nothing-Nothing c = λ e own others same.
    let i = c.in-Nothing-Nothing in
    let kinds : i.kind ≡ i.other = search rules in
    instead-same c.args.self.now c.args.other.now i.kind i.other [] [] own others
    (ap (λ it. with_instance it own) i.is-0) (ap (λ it. with_instance it others) i.is-1) kinds refl same

pub returns-then-eq : goal.returns-then-eq
returns-then-eq c = λ e own others same.
    let i = c.in-Reset-Reset in
    let kinds : i.kind ≡ i.other = search rules in
    let values : i.value.value ≡ i.second.value = search rules in
    instead-same c.args.self.now c.args.other.now i.kind i.other (valued Reset i.value.value ∷ []) (valued Reset i.second.value ∷ []) own others
    (ap (λ it. with_instance it own) i.is-0) (ap (λ it. with_instance it others) i.is-1) kinds (ap (λ v. valued Reset v ∷ []) values) same
