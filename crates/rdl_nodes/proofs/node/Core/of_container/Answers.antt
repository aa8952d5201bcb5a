use Rattle.std.proofs.Common.{◌≡◌, ◌∙◌, ℕ, Bool, true, refl}
use Rattle.rdl_tree.specs.Items.{Items}
use Rattle.rdl_tree.specs.declared.shell.Kind.{Kind}
use Rattle.rdl_tree.specs.declared.shell.Kind.TheVariants.{Addrmap, Regfile, Reg, Field}
use Rattle.rdl_seen.specs.declared.seen.Modes.{Modes}
use Rattle.rdl_seen.specs.declared.values.Values.{Values}
use Rattle.rdl_seen.specs.Layouts.{Layouts}
use Rattle.rdl_seen.specs.Fields.{are_fields_sound, resets}
use Rattle.rdl_seen.specs.Node.{is_container, values_of, layouts_of, are_shares_allowed}
use Rattle.rdl_seen.specs.Slots.{Slots}
use Rattle.rdl_nodes.specs.CoreWith.{core_made}
use Rattle.rdl_nodes.specs.View.{slots_of}
use Rattle.rdl_nodes.proofs.node.Core.of_container.Goals as goal

-- of a container's fields nothing is asked
no_fields : (k : Kind) (own v : Values) (weight : ℕ) (l : Layouts) (apart : Modes) (t : Items) (s : Slots) (a b : Bool) → is_container k ≡ true → core_made k own weight v l apart t s a ≡ core_made k own weight v l apart t s b
no_fields Addrmap own v weight l apart t s a b e = refl
no_fields Regfile own v weight l apart t s a b e = refl
no_fields Reg own v weight l apart t s a b e = absurd cc
no_fields Field own v weight l apart t s a b e = absurd cc

pub returns-clause-however_laid : goal.returns-clause-however_laid
returns-clause-however_laid c = λ lay defaults container own weight values layouts apart.
    let k = c.args.kind in
    let t = c.args.body.now in
    let s = slots_of c.args.slots.now in
    let fields = are_fields_sound (values_of k defaults t) (layouts_of lay k defaults t s).compact.spans (resets defaults t s) (are_shares_allowed lay k defaults t s) in
    c.made.ensures ∙ (no_fields k c.args.own.values c.args.values c.args.own.weight c.args.layouts.value c.args.apart t s _ fields container
    ∙ (λ i. core_made k (own i) (weight i) (values i) (layouts i) (apart i) t s fields))
