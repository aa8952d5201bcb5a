-- What is made of the instances of a body is the same where the defaults are the same that its fields take.
use Rattle.std.proofs.Common.{◌≡◌, ℕ, ◌^◌, ◌&&◌, not, Bool, true, false, List, ◌∷◌, Option, Some, None, unwrap_or, option_map, if◌then◌else◌, refl, ap, bit_or}
use Rattle.std.specs.Option.{option_or, is_none}
use Rattle.std.proofs.lemmas.Bool.{false≢true}
use Rattle.rdl_tree.specs.Items.{Items, no_items, plain, holder, Plain, named, own, default, dynamic, Holder, define, anonymous}
use Rattle.rdl_tree.specs.declared.shell.Shell.{Shell}
use Rattle.rdl_tree.specs.declared.property.Property.{Property}
use Rattle.rdl_tree.specs.declared.property.Property.TheVariants.{Fieldwidth, Sw, Reset}
use Rattle.rdl_seen.specs.declared.property_set.PropertySet.{PropertySet}
use Rattle.rdl_seen.specs.declared.values.Access.{Access}
use Rattle.rdl_seen.specs.declared.values.Access.TheVariants.{Other}
use Rattle.rdl_seen.specs.declared.values.Values.{Values}
use Rattle.rdl_seen.specs.Agree.{SameValues}
use Rattle.rdl_seen.specs.Fields.{Of, of_field, of_seen, of_none, first_of, rest_of, after_default, plain_each, holder_each, each, says_bits, room_of, member_of, reset_of, access_of, members, resets, accesses, instance_takes, plain_takes, holder_takes, plain_gives, field_takes}
use Rattle.rdl_seen.specs.Modes.{same_number}
use Rattle.rdl_seen.specs.Names.{meet}
use Rattle.rdl_seen.specs.PropertySet.{bit_of, no_properties, set_of, set_if, with_properties, without_properties}
use Rattle.rdl_seen.specs.Slots.{FieldBody, Slots}
use Rattle.rdl_seen.specs.Values.{bit_count}
use Rattle.rdl_seen.proofs.Bits.{less, has_first, has_second, has_less, less_parts}
use Rattle.rdl_seen.proofs.Stated.{Covers, same_covered, same_whole, put_named_same}

-- something is made of an instance, and is the same where the same defaults are stated that it takes, but for some
abbrev pub Respects : {X : Type 0} → (Values → Shell → Of → X) → PropertySet → Type 0
Respects f but = (v w : Values) (s : Shell) (o : Of) → SameValues (without_properties (instance_takes s o) but) v w → f v s o ≡ f w s o

first_covered : (s t but : PropertySet) → Covers (without_properties (with_properties s t) but) (without_properties s but)
first_covered s t but k has =
    let parts = less_parts s.bits but.bits k has in
    has_less (bit_or s.bits t.bits) but.bits k (has_first s.bits t.bits k parts.has) parts.lacks

second_covered : (s t but : PropertySet) → Covers (without_properties (with_properties s t) but) (without_properties t but)
second_covered s t but k has =
    let parts = less_parts t.bits but.bits k has in
    has_less (bit_or s.bits t.bits) but.bits k (has_second s.bits t.bits k parts.has) parts.lacks

behind_covered : (s t gives but : PropertySet) → Covers (without_properties (with_properties s (without_properties t gives)) but) (without_properties (without_properties t but) gives)
behind_covered s t gives but k has =
    let outer = less_parts (less t.bits but.bits) gives.bits k has in
    let inner = less_parts t.bits but.bits k outer.has in
    let given = has_less t.bits gives.bits k inner.has outer.lacks in
    has_less (bit_or s.bits (less t.bits gives.bits)) but.bits k (has_second s.bits (less t.bits gives.bits) k given) inner.lacks

-- the defaults behind an item are the same as far as what stands behind it takes them
after_same : (p : Plain) (s but : PropertySet) (v w : Values) → SameValues (without_properties (without_properties s but) (plain_gives p)) v w → SameValues (without_properties s but) (after_default p v) (after_default p w)
after_same (named sh t) s but v w r = same_whole (without_properties s but) v w r
after_same (own p x) s but v w r = same_whole (without_properties s but) v w r
after_same (default p x) s but v w r = put_named_same p x (without_properties s but) v w r
after_same (dynamic t p x) s but v w r = same_whole (without_properties s but) v w r

plain_same : {X : Type 0} (f : Values → Shell → Of → X) (but : PropertySet) → Respects f but → (p : Plain) (o : Of) (v w : Values) (more others : List X) → SameValues (without_properties (plain_takes p o) but) v w → more ≡ others
    → plain_each f v p o more ≡ plain_each f w p o others
plain_same f but same (named s t) o v w more others r e = λ i. same v w s o r i ∷ e i
plain_same f but same (own p x) o v w more others r e = e
plain_same f but same (default p x) o v w more others r e = e
plain_same f but same (dynamic t p x) o v w more others r e = e

holder_same : {X : Type 0} (f : Values → Shell → Of → X) (but : PropertySet) → Respects f but → (h : Holder) (o : Of) (v w : Values) (more others : List X) → SameValues (without_properties (holder_takes h o) but) v w → more ≡ others
    → holder_each f v h o more ≡ holder_each f w h o others
holder_same f but same (define n k) o v w more others r e = e
holder_same f but same (anonymous s k) o v w more others r e = λ i. same v w s o r i ∷ e i

each_same : {X : Type 0} (f : Values → Shell → Of → X) (but : PropertySet) → Respects f but → (t : Items) (s : Slots) (v w : Values) → SameValues (without_properties (field_takes t s) but) v w → each f v t s ≡ each f w t s
each_same f but same no_items s v w r = refl
each_same f but same (plain p rest) s v w r =
    let first = plain_takes p (first_of s) in
    let behind = field_takes rest (rest_of s) in
    let all = without_properties (with_properties first (without_properties behind (plain_gives p))) but in
    let here : SameValues (without_properties first but) v w =
    same_covered all (without_properties first but) v w (first_covered first (without_properties behind (plain_gives p)) but) r in
    let there : SameValues (without_properties (without_properties behind but) (plain_gives p)) v w =
    same_covered all (without_properties (without_properties behind but) (plain_gives p)) v w (behind_covered first behind (plain_gives p) but) r in
    plain_same f but same p (first_of s) v w (each f (after_default p v) rest (rest_of s)) (each f (after_default p w) rest (rest_of s)) here
    (each_same f but same rest (rest_of s) (after_default p v) (after_default p w) (after_same p behind but v w there))
each_same f but same (holder h body rest) s v w r =
    let first = holder_takes h (first_of s) in
    let behind = field_takes rest (rest_of s) in
    let all = without_properties (with_properties first behind) but in
    let here : SameValues (without_properties first but) v w = same_covered all (without_properties first but) v w (first_covered first behind but) r in
    let there : SameValues (without_properties behind but) v w = same_covered all (without_properties behind but) v w (second_covered first behind but) r in
    holder_same f but same h (first_of s) v w (each f v rest (rest_of s)) (each f w rest (rest_of s)) here (each_same f but same rest (rest_of s) v w there)

-- the tests by which an instance of a field takes a default
abbrev asks_width : Shell → FieldBody → Bool
asks_width s f = is_none f.width && not (says_bits s)

abbrev asks_reset : Shell → FieldBody → Bool
asks_reset s f = is_none f.reset && is_none s.reset

has_if : (test : Bool) (p : Property) (k : ℕ) → test ≡ true → meet (bit_of p) (2 ^ k) ≡ true → meet (set_if test p).bits (2 ^ k) ≡ true
has_if true p k asked has = has
has_if false p k asked has = absurd (false≢true asked)

takes_width : (s : Shell) (f : FieldBody) → asks_width s f ≡ true → meet (without_properties (instance_takes s (of_field f)) (set_of Sw)).bits (2 ^ 4) ≡ true
takes_width s f asked =
    let width = set_if (asks_width s f) Fieldwidth in
    let others = with_properties (set_if (is_none f.access) Sw) (set_if (asks_reset s f) Reset) in
    has_less (bit_or width.bits others.bits) 32 4 (has_first width.bits others.bits 4 (has_if (asks_width s f) Fieldwidth 4 asked refl)) refl

takes_reset : (s : Shell) (f : FieldBody) → asks_reset s f ≡ true → meet (without_properties (instance_takes s (of_field f)) (set_of Sw)).bits (2 ^ 6) ≡ true
takes_reset s f asked =
    let width = set_if (asks_width s f) Fieldwidth in
    let access = set_if (is_none f.access) Sw in
    let reset = set_if (asks_reset s f) Reset in
    let others = with_properties access reset in
    has_less (bit_or width.bits others.bits) 32 6
    (has_second width.bits others.bits 6 (has_second access.bits reset.bits 6 (has_if (asks_reset s f) Reset 6 asked refl))) refl

takes_access : (s : Shell) (f : FieldBody) → is_none f.access ≡ true → meet (without_properties (instance_takes s (of_field f)) no_properties).bits (2 ^ 5) ≡ true
takes_access s f asked =
    let width = set_if (asks_width s f) Fieldwidth in
    let access = set_if (is_none f.access) Sw in
    let reset = set_if (asks_reset s f) Reset in
    let others = with_properties access reset in
    has_less (bit_or width.bits others.bits) 0 5
    (has_second width.bits others.bits 5 (has_first access.bits reset.bits 5 (has_if (is_none f.access) Sw 5 asked refl))) refl

room_same : (says : Bool) (width v w : Option ℕ) → ((is_none width && not says) ≡ true → v ≡ w) → (if says then 0 else unwrap_or (option_or width v) 1) ≡ (if says then 0 else unwrap_or (option_or width w) 1)
room_same true width v w same = refl
room_same false None v w same = ap (λ (o : Option ℕ). unwrap_or o 1) (same refl)
room_same false (Some n) v w same = refl

member_same : Respects member_of (set_of Sw)
member_same v w s (of_field f) r =
    let room : room_of v s f ≡ room_of w s f = room_same (says_bits s) f.width v.fieldwidth w.fieldwidth (λ asked. r.fieldwidth (takes_width s f asked)) in
    λ i. record { shell = s; size = same_number (room i); access = same_number 0 }
member_same v w s (of_seen seen) r = refl
member_same v w s of_none r = refl

bits_same : (inner v w reset : Option ℕ) → ((is_none inner && is_none reset) ≡ true → v ≡ w)
    → option_or (option_map bit_count reset) (option_or inner v) ≡ option_or (option_map bit_count reset) (option_or inner w)
bits_same inner v w (Some n) same = refl
bits_same (Some n) v w None same = refl
bits_same None v w None same = same refl

reset_same : Respects reset_of (set_of Sw)
reset_same v w s (of_field f) r = bits_same f.reset v.reset w.reset s.reset (λ asked. r.reset (takes_reset s f asked))
reset_same v w s (of_seen seen) r = refl
reset_same v w s of_none r = refl

sw_same : (inner v w : Option Access) → (is_none inner ≡ true → v ≡ w) → unwrap_or (option_or inner v) Other ≡ unwrap_or (option_or inner w) Other
sw_same None v w same = ap (λ (o : Option Access). unwrap_or o Other) (same refl)
sw_same (Some a) v w same = refl

access_same : Respects access_of no_properties
access_same v w s (of_field f) r = sw_same f.access v.sw w.sw (λ asked. r.sw (takes_access s f asked))
access_same v w s (of_seen seen) r = refl
access_same v w s of_none r = refl

pub members_same : (t : Items) (s : Slots) (v w : Values) → SameValues (without_properties (field_takes t s) (set_of Sw)) v w → members v t s ≡ members w t s
members_same t s v w r = each_same member_of (set_of Sw) member_same t s v w r

pub resets_same : (t : Items) (s : Slots) (v w : Values) → SameValues (without_properties (field_takes t s) (set_of Sw)) v w → resets v t s ≡ resets w t s
resets_same t s v w r = each_same reset_of (set_of Sw) reset_same t s v w r

pub accesses_same : (t : Items) (s : Slots) (v w : Values) → SameValues (field_takes t s) v w → accesses v t s ≡ accesses w t s
accesses_same t s v w r =
    each_same access_of no_properties access_same t s v w
    (same_covered (field_takes t s) (without_properties (field_takes t s) no_properties) v w (λ k has. let parts = less_parts (field_takes t s).bits 0 k has in parts.has) r)
