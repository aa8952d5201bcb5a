use Rattle.std.proofs.Common.{◌≡◌, ◌∷◌, ◌++◌, [], ap, sym, ◌∙◌, rules}
use Rattle.rdl_elab.specs.declared.walk.own_values.Assigned.{Assigned}
use Rattle.rdl_elab.specs.OwnValues.{assigned_to}
use Rattle.rdl_elab.proofs.OwnValues.{one-assigned, none-assigned}
use Rattle.rdl_elab.proofs.walk.own_values.add_named.Goals as goal

pub returns-in_ok-push-in-Some : goal.returns-in_ok-push-in-Some
returns-in_ok-push-in-Some c =
    let one : Assigned = record { property = c.in-Some.property; value = c.args.value } in
    let pushed : c.push.new.self.items ≡ c.args.items.now.items ++ one ∷ [] = first_of (cc, search rules) in
    λ p. ap (assigned_to p) pushed ∙ one-assigned p c.args.items.now.items one c.args.name.now (sym c.property.ensures ∙ c.in-Some.is)

pub returns-in-None : goal.returns-in-None
returns-in-None c = λ p. none-assigned p (assigned_to p c.args.items.now.items) c.args.name.now c.args.value.now (sym c.property.ensures ∙ c.in-None.is)
