-- The layouts of a component whose instances are alike stay, if its values do.
use Rattle.std.proofs.Common.{◌≡◌, ◌&&◌, Bool, true, false, List, [], ◌∷◌, map, refl, sym, ap, subst, ◌∙◌}
use Rattle.std.specs.Prelude.{Result, Ok, Err, IfOk}
use Rattle.rdl_tree.specs.Items.{Items}
use Rattle.rdl_tree.specs.declared.shell.Kind.{Kind}
use Rattle.rdl_tree.specs.declared.shell.Kind.TheVariants.{Addrmap, Regfile, Reg, Field}
use Rattle.rdl_tree.specs.declared.property.Property.TheVariants.{Fieldwidth}
use Rattle.rdl_marks.specs.Marks.{Marks}
use Rattle.rdl_nodes.specs.Bare.{bare, GoesBySaid, StaysLaidOut}
use Rattle.rdl_nodes.specs.View.{slots_of}
use Rattle.rdl_nodes.specs.declared.node.Slot.{Slot}
use Rattle.rdl_seen.specs.declared.alert.Alert.{Alert}
use Rattle.rdl_seen.specs.declared.mode.Mode.{Mode}
use Rattle.rdl_seen.specs.declared.mode.Mode.TheVariants.{Compact, Regalign, Fullalign}
use Rattle.rdl_seen.specs.declared.values.Values.{Values}
use Rattle.rdl_seen.specs.Fields.{members}
use Rattle.rdl_seen.specs.Layouts.{Layouts, Member, Laying, layout_under, are_apart, is_stride_wide, are_strides_wide}
use Rattle.rdl_seen.specs.Modes.{all_modes, number_under}
use Rattle.rdl_seen.specs.Node.{Around, mode_inside, apart_of, values_of, layouts_of, core_of, body_of, node}
use Rattle.rdl_seen.specs.PropertySet.{has_property}
use Rattle.rdl_seen.specs.Slots.{Slots, Core, Node}
use Rattle.rdl_renew.specs.Alike.{IsWidthSame, AreAlike}
use Rattle.rdl_renew.specs.Renewing.{Became, WasLaidOut, DiffersNoMoreBefore}

-- where an alert doesn't tell of the width of fields, that is the same
pub width_same : (lay : Laying) (x : Alert) (m : Marks) (old now : Items) (saw sees : Around) → has_property x.properties Fieldwidth ≡ false → DiffersNoMoreBefore lay x m old now saw sees → IsWidthSame lay m old now saw sees
width_same lay x m old now saw sees untold before = λ i n firsts inside y got told stayed.
    ((before i n firsts inside y got told stayed).defaults Fieldwidth untold).fieldwidth refl

-- the strides of instances are as wide where layouts take the same of them
strides_same : (mode : Mode) (ms ns : List Member) → map bare ms ≡ map bare ns → are_strides_wide mode ms ≡ are_strides_wide mode ns
strides_same mode ms ns e = strides_bare mode ms ∙ (ap (are_strides_wide mode) e ∙ sym (strides_bare mode ns))
  where
    strides_bare : (mode : Mode) (ms : List Member) → are_strides_wide mode ms ≡ are_strides_wide mode (map bare ms)
    strides_bare mode [] = refl
    strides_bare mode (m ∷ ms) = ap (λ b. is_stride_wide (number_under m.size mode) m.shell.stride && b) (strides_bare mode ms)

-- so they lie apart in the same modes
apart_same : (k : Kind) (v : Values) (l : Layouts) (ms ns : List Member) → map bare ms ≡ map bare ns → apart_of k v l ms ≡ apart_of k v l ns
apart_same Addrmap v l ms ns e = ap (λ b. all_modes (b && are_apart (layout_under l (mode_inside v)).spans)) (strides_same (mode_inside v) ms ns e)
apart_same Regfile v l ms ns e = λ i. record {
  compact = strides_same Compact ms ns e i && are_apart (layout_under l Compact).spans;
  regalign = strides_same Regalign ms ns e i && are_apart (layout_under l Regalign).spans;
  fullalign = strides_same Fullalign ms ns e i && are_apart (layout_under l Fullalign).spans;
}
apart_same Reg v l ms ns e = refl
apart_same Field v l ms ns e = refl

pub stays_laid_out : (lay : Laying) (k : Kind) (old now : Items) (saw sees : Around) (width alike : Bool) (m : Marks) (x : Alert) (before : Core) (defaults : Values) (slots : Slots) (was done : List Slot)
    → GoesBySaid lay → Became lay saw slots m old now → WasLaidOut lay saw k old before → slots_of was ≡ slots → (width ≡ true → has_property x.properties Fieldwidth ≡ false)
    → DiffersNoMoreBefore lay x m old now saw sees → defaults ≡ sees.defaults → (alike ≡ true → AreAlike width m was done now) → StaysLaidOut lay alike before k defaults now (slots_of done)
stays_laid_out lay k old now saw sees width alike m x before defaults slots was done by_said became was_laid kept untold differs here are = λ yes same.
    let same_became : Became lay saw (slots_of was) m old now = subst (λ s. Became lay saw s m old now) (sym kept) became in
    let taken : map bare (members saw.defaults old (slots_of was)) ≡ map bare (members sees.defaults now (slots_of done)) =
    are yes lay old saw sees same_became (λ w. width_same lay x m old now saw sees (untold w) differs) in
    let old_slots : (body_of lay saw old).slots ≡ slots_of was = sym same_became.kept in
    let first : map bare (members saw.defaults old (body_of lay saw old).slots) ≡ map bare (members defaults now (slots_of done)) =
    ap (λ s. map bare (members saw.defaults old s)) old_slots ∙ (taken ∙ ap (λ v. map bare (members v now (slots_of done))) (sym here)) in
    let values : values_of k saw.defaults old ≡ values_of k defaults now = sym was_laid.values ∙ sym same in
    let laid : layouts_of lay k saw.defaults old (body_of lay saw old).slots ≡ layouts_of lay k defaults now (slots_of done) =
    ap (λ v. lay k v (members saw.defaults old (body_of lay saw old).slots)) values
    ∙ by_said k (values_of k defaults now) (members saw.defaults old (body_of lay saw old).slots) (members defaults now (slots_of done)) first in
    record {
      layouts = was_laid.layouts ∙ laid;
      apart =
          was_laid.apart
          ∙ ((λ i. apart_of k (values i) (laid i) (members saw.defaults old (body_of lay saw old).slots))
          ∙ apart_same k (values_of k defaults now) (layouts_of lay k defaults now (slots_of done)) (members saw.defaults old (body_of lay saw old).slots) (members defaults now (slots_of done)) first);
    }

-- the node that is made of it
pub node_is : {E : Type 0} (lay : Laying) (k : Kind) (now : Items) (sees : Around) (defaults : Values) (slots : Slots) (r : Result Node E) → defaults ≡ sees.defaults → slots ≡ (body_of lay sees now).slots
    → IfOk r (λ n. n ≡ record { core = core_of lay k defaults now slots; slots = slots }) → IfOk r (λ n. n ≡ node lay sees k now)
node_is lay k now sees defaults slots (Ok n) here there made = made ∙ (λ i. record { core = core_of lay k (here i) now (there i); slots = there i })
node_is lay k now sees defaults slots (Err e) here there made = tt
