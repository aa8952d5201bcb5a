-- A component with the same items is kept as the same where the defaults are the same that it takes.
use Rattle.std.proofs.Common.{◌≡◌, ◌||◌, Bool, true, false, List, refl, ap, ◌∙◌}
use Rattle.rdl_tree.specs.Items.{Items}
use Rattle.rdl_tree.specs.declared.shell.Kind.{Kind}
use Rattle.rdl_tree.specs.declared.property.Property.TheVariants.{Sw}
use Rattle.rdl_seen.specs.declared.property_set.PropertySet.{PropertySet}
use Rattle.rdl_seen.specs.declared.values.Values.{Values}
use Rattle.rdl_seen.specs.Agree.{SameValues}
use Rattle.rdl_seen.specs.Contents.{takes}
use Rattle.rdl_seen.specs.Fields.{members, resets, accesses, field_takes, clash_none}
use Rattle.rdl_seen.specs.Layouts.{Layouts, Laying, Span}
use Rattle.rdl_seen.specs.Node.{is_ordered, without_access, takes_of, core_by, values_of, layouts_of, are_shares_allowed, core_of}
use Rattle.rdl_seen.specs.PropertySet.{set_of, kind_set, with_properties, without_properties}
use Rattle.rdl_seen.specs.Slots.{Slots}
use Rattle.rdl_seen.specs.Values.{own_values, stated}
use Rattle.rdl_seen.proofs.Bits.{less_parts}
use Rattle.rdl_seen.proofs.Each.{members_same, resets_same, accesses_same}
use Rattle.rdl_seen.proofs.Own.{of_kind_same}
use Rattle.rdl_seen.proofs.Stated.{same_covered, same_first, same_second}

but_access : (ordered : Bool) (s : PropertySet) (v w : Values) → SameValues (without_access ordered s) v w → SameValues (without_properties s (set_of Sw)) v w
but_access true s v w r = r
but_access false s v w r = same_covered s (without_properties s (set_of Sw)) v w (λ k has. let parts = less_parts s.bits 32 k has in parts.has) r

may_same : (ordered : Bool) (t : Items) (s : Slots) (spans : List Span) (v w : Values) → SameValues (without_access ordered (field_takes t s)) v w
    → (ordered || clash_none spans (accesses v t s)) ≡ (ordered || clash_none spans (accesses w t s))
may_same true t s spans v w r = refl
may_same false t s spans v w r = ap (clash_none spans) (accesses_same t s v w r)

pub core_same : (lay : Laying) (k : Kind) (v w : Values) (t : Items) (s : Slots) → SameValues (takes_of k t s (is_ordered k (layouts_of lay k v t s))) v w → core_of lay k v t s ≡ core_of lay k w t s
core_same lay k v w t s r =
    let ls = layouts_of lay k v t s in
    let own = without_properties (kind_set k) (stated (own_values t)) in
    let fields = without_access (is_ordered k ls) (field_takes t s) in
    let own_r : SameValues own v w = same_first own (with_properties fields (takes s)) v w r in
    let fields_r : SameValues fields v w = same_first fields (takes s) v w (same_second own (with_properties fields (takes s)) v w r) in
    let but_r : SameValues (without_properties (field_takes t s) (set_of Sw)) v w = but_access (is_ordered k ls) (field_takes t s) v w fields_r in
    let values_e : values_of k v t ≡ values_of k w t = of_kind_same k (own_values t) v w own_r in
    let members_e : members v t s ≡ members w t s = members_same t s v w but_r in
    let resets_e : resets v t s ≡ resets w t s = resets_same t s v w but_r in
    let layouts_e : layouts_of lay k v t s ≡ layouts_of lay k w t s = λ i. lay k (values_e i) (members_e i) in
    let may_there : (is_ordered k ls || clash_none ls.compact.spans (accesses w t s)) ≡ are_shares_allowed lay k w t s =
    ap (λ (l : Layouts). is_ordered k l || clash_none l.compact.spans (accesses w t s)) layouts_e in
    let may_e : are_shares_allowed lay k v t s ≡ are_shares_allowed lay k w t s = may_same (is_ordered k ls) t s ls.compact.spans v w fields_r ∙ may_there in
    λ i. core_by k t s (values_e i) (members_e i) (layouts_e i) (resets_e i) (may_e i)
