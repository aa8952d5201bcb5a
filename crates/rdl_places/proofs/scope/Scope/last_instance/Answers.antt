use Rattle.std.proofs.Common.{◌≡◌, Option, Some, None, ◌∙◌, rules, option_map}
use Rattle.std.specs.Prelude.{slice_get}
use Rattle.rdl_tree.specs.View.{list_of}
use Rattle.rdl_places.specs.HeldScope.{place_of, outer_places, found_of, holding_of}
use Rattle.rdl_places.specs.LastNumbers.{last_sought}
use Rattle.rdl_places.specs.Reached.{FoundAt, count_before, component_of, instance_named}
use Rattle.rdl_places.specs.declared.numbers.Sought.TheVariants.{Instance}
use Rattle.rdl_places.proofs.LastOnes.{no_found, found_there}
use Rattle.rdl_places.proofs.scope.Scope.last_instance.Goals as goal

pub returns-in_err-number : goal.returns-in_err-number
returns-in_err-number c =
    let s = c.args.self.now in
    let last : last_sought Instance c.args.name.now s.number (place_of s).body ≡ None = search rules in
    let none : option_map found_of c.from_residual.result ≡ None = search rules in
    none ∙ no_found c.args.name.now s.number (place_of s) (outer_places s.outer) last

pub returns-in_err-of : goal.returns-in_err-of
returns-in_err-of c =
    let s = c.args.self.now in
    let name = c.args.name.now in
    let last : last_sought Instance name s.number (place_of s).body ≡ Some c.in_ok-number.number = search rules in
    let is : instance_named name (slice_get (list_of (place_of s).body) c.in_ok-number.number) ≡ None = search rules in
    let none : option_map found_of c.from_residual-in_err-of.result ≡ None = search rules in
    none ∙ found_there name s.number c.in_ok-number.number (place_of s) (outer_places s.outer) None last is

pub returns : goal.returns
returns c =
    let s = c.args.self.now in
    let name = c.args.name.now in
    let k = c.in_ok-number.number in
    let last : last_sought Instance name s.number (place_of s).body ≡ Some k = search rules in
    let is : instance_named name (slice_get (list_of (place_of s).body) k) ≡ Some c.in_ok-of.of.now = search rules in
    let count : c.count_before.result ≡ count_before k (place_of s).body = search rules in
    let held : option_map holding_of c.component.result ≡ component_of k (place_of s) (outer_places s.outer) c.in_ok-of.of.now = search rules in
    let found : ◌≡◌ {A = Option FoundAt} (Some (record { number = c.count_before.result; holding = option_map holding_of c.component.result })) (Some (record { number = count_before k (place_of s).body; holding = component_of k (place_of s) (outer_places s.outer) c.in_ok-of.of.now })) =
    λ j. Some (record { number = count j; holding = held j }) in
    found ∙ found_there name s.number k (place_of s) (outer_places s.outer) (Some c.in_ok-of.of.now) last is
