-- A layout depends on the kind, the values, and what it takes of each instance and of its component's layout; and these are as the searches say.
use Rattle.std.proofs.Common.{◌≡◌, ℕ, List, map, Some, ap, ◌∙◌}
use Rattle.rdl_tree.specs.Items.{Items}
use Rattle.rdl_tree.specs.declared.shell.Kind.{Kind}
use Rattle.rdl_scope.specs.Closed.{Parts, Made, component, instances}
use Rattle.rdl_scope.specs.Value.{component_value}
use Rattle.rdl_scope.proofs.AsFound.{as_found, value-found}
use Rattle.rdl_elab.specs.declared.layout.Mode.{Mode}
use Rattle.rdl_elab.specs.declared.layout.Layout.{Layout}
use Rattle.rdl_elab.specs.declared.layout.LayoutValues.{LayoutValues}
use Rattle.rdl_elab.specs.Layouts.{layout_values, values_of, mode_inside, laid_out, layouts, layout, instances_under, member}

pub layout-members : (m : Mode) (b c : Made) → b.head.kind ≡ c.head.kind → values_of b.head ≡ values_of c.head → map member (instances_under m b) ≡ map member (instances_under m c) → layout m b ≡ layout m c
layout-members m b c k v h =
    let xs = map member (instances_under m b) in
    ap (λ kind. laid_out kind (values_of b.head) (mode_inside kind (values_of b.head) m) xs) k
    ∙ ap (λ values. laid_out c.head.kind values (mode_inside c.head.kind values m) xs) v
    ∙ ap (laid_out c.head.kind (values_of c.head) (mode_inside c.head.kind (values_of c.head) m)) h

abbrev by_parts : Mode → Kind → LayoutValues → Parts → Layout
by_parts m kind v ps = laid_out kind v (mode_inside kind v m) (map member (layouts (mode_inside kind v m) ps))

pub layout-found : (d : Items) (a : List ℕ) (c : Made) (m : Mode) → component d a ≡ Some c → layout m c ≡ by_parts m c.head.kind (layout_values (component_value d a)) (instances d a 0 c.head.body)
layout-found d a c m h =
    ap (λ value. by_parts m c.head.kind (layout_values value) c.parts) (value-found d a c h)
    ∙ ap (by_parts m c.head.kind (layout_values (component_value d a))) (as_found d a c h).parts
