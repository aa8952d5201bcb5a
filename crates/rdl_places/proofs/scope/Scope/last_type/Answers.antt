use Rattle.std.proofs.Common.{◌≡◌, Some, None, ◌∙◌, rules, option_map}
use Rattle.std.specs.Prelude.{slice_get}
use Rattle.rdl_tree.specs.View.{list_of}
use Rattle.rdl_places.specs.HeldScope.{place_of, outer_places, holding_of}
use Rattle.rdl_places.specs.LastNumbers.{last_sought}
use Rattle.rdl_places.specs.Scopes.{definition, holding_at}
use Rattle.rdl_places.specs.declared.numbers.Sought.TheVariants.{Definition}
use Rattle.rdl_places.proofs.LastOnes.{no_type, type_there}
use Rattle.rdl_places.proofs.scope.Scope.last_type.Goals as goal

pub returns-in_err-number : goal.returns-in_err-number
returns-in_err-number c =
    let s = c.args.self.now in
    let last : last_sought Definition c.args.name.now s.number (place_of s).body ≡ None = search rules in
    let none : option_map holding_of c.from_residual.result ≡ None = search rules in
    none ∙ no_type c.args.name.now s.number (place_of s) (outer_places s.outer) last

pub returns-in_err-component : goal.returns-in_err-component
returns-in_err-component c =
    let s = c.args.self.now in
    let name = c.args.name.now in
    let last : last_sought Definition name s.number (place_of s).body ≡ Some c.in_ok-number.number = search rules in
    let is : definition name (slice_get (list_of (place_of s).body) c.in_ok-number.number) ≡ None = search rules in
    let none : option_map holding_of c.from_residual-in_err-component.result ≡ None = search rules in
    none ∙ type_there name s.number c.in_ok-number.number (place_of s) (outer_places s.outer) None last is

pub returns : goal.returns
returns c =
    let s = c.args.self.now in
    let name = c.args.name.now in
    let last : last_sought Definition name s.number (place_of s).body ≡ Some c.in_ok-number.number = search rules in
    let is : definition name (slice_get (list_of (place_of s).body) c.in_ok-number.number) ≡ Some c.in_ok-component.component.now = search rules in
    let held : option_map holding_of c.holder.result ≡ holding_at c.in_ok-number.number (place_of s) (outer_places s.outer) c.in_ok-component.component.now = search rules in
    held ∙ type_there name s.number c.in_ok-number.number (place_of s) (outer_places s.outer) (Some c.in_ok-component.component.now) last is
