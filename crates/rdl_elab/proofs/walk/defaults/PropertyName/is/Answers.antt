use Rattle.std.proofs.Common.{refl, ap, sym, ◌∙◌}
use Rattle.std.specs.Prelude.{bytes_eq}
use Rattle.rdl_tree.specs.Properties.{row}
use Rattle.rdl_elab.proofs.StatedLists.{name-of, not-its-name}
use Rattle.rdl_elab.proofs.walk.defaults.PropertyName.is.Goals as goal

pub returns-in-Some : goal.returns-in-Some
returns-in-Some c =
    let p = c.args.property in
    c.same_property.ensures
    ∙ ap (λ n. bytes_eq n (row p).name) (sym (name-of c.self.inside.name.now c.in-Some.own (sym c.self.invariant ∙ c.in-Some.is)))
    ∙ ap (λ n. bytes_eq n (row p).name) c.self.view_is

pub returns-in-None : goal.returns-in-None
returns-in-None c =
    let p = c.args.property in
    let name = c.self.inside.name.now in
    sym (not-its-name name p (bytes_eq name (row p).name) refl (sym c.self.invariant ∙ c.in-None.is))
    ∙ ap (λ n. bytes_eq n (row p).name) c.self.view_is
