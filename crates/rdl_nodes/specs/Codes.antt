-- How the logic stores what is kept of a component: as trees of numbers, no two alike.
-- own: no part of what is kept.
use Rattle.std.specs.Prelude.{◌≡◌, ℕ, zero, suc, Bool, List, Option, ◌⊎◌, refl}
use Rattle.std.proofs.Common.{inl, inr, ap, sym}
use Rattle.std.proofs.Math.Nat.{suc-ne-zero}
use Rattle.std.specs.Coded.{Coded, code_by, coded×, coded_ℕ, coded_bool, coded_list, coded_option, coded⊎}
use base.Stored.{Gv, gnil, gnum, gcons}
use Rattle.rdl_tree.specs.contracts.shell.Kind as kind
use Rattle.rdl_tree.specs.declared.shell.Kind.{Kind}
use Rattle.rdl_seen.specs.contracts.property_set.PropertySet as properties
use Rattle.rdl_seen.specs.contracts.seen.Modes as modes
use Rattle.rdl_seen.specs.contracts.seen.Seen as seen
use Rattle.rdl_seen.specs.contracts.values.Access as access
use Rattle.rdl_seen.specs.contracts.values.Values as values
use Rattle.rdl_seen.specs.declared.property_set.PropertySet.{PropertySet}
use Rattle.rdl_seen.specs.declared.seen.Modes.{Modes}
use Rattle.rdl_seen.specs.declared.seen.Seen.{Seen}
use Rattle.rdl_seen.specs.declared.values.Access.{Access}
use Rattle.rdl_seen.specs.declared.values.Values.{Values}
use Rattle.rdl_seen.specs.Inside.{Asked, order, room, Verdict, known, asks_own, Spots, Inside, no_instances, instance}
use Rattle.rdl_seen.specs.Layouts.{Span, Layout, Layouts}
use Rattle.rdl_seen.specs.Slots.{FieldBody, Slot, own_slot, default_slot, dynamic_slot, field_slot, named_slot, Written, type_slot, part_slot, Core, Slots, no_slots, slot, written, Node}

abbrev pub coded_span : Coded Span
coded_span = code_by (ℕ × ℕ) (coded× coded_ℕ coded_ℕ) (λ s. (s.start, s.end)) (λ p. record { start = p.0; end = p.1 }) (λ _. refl)

abbrev pub coded_layout : Coded Layout
coded_layout = code_by (ℕ × (ℕ × List Span)) (coded× coded_ℕ (coded× coded_ℕ (coded_list coded_span)))
    (λ l. (l.size, (l.access, l.spans)))
    (λ p. record { size = p.0; access = p.1.0; spans = p.1.1 })
    (λ _. refl)

abbrev pub coded_layouts : Coded Layouts
coded_layouts = code_by (Layout × (Layout × Layout)) (coded× coded_layout (coded× coded_layout coded_layout))
    (λ l. (l.compact, (l.regalign, l.fullalign)))
    (λ p. record { compact = p.0; regalign = p.1.0; fullalign = p.1.1 })
    (λ _. refl)

abbrev pub coded_core : Coded Core
coded_core = code_by (Seen × (Values × (Values × (Layouts × (Modes × ℕ)))))
    (coded× seen.the_row.coded (coded× values.the_row.coded (coded× values.the_row.coded (coded× coded_layouts (coded× modes.the_row.coded coded_ℕ)))))
    (λ c. (c.seen, (c.own, (c.values, (c.layouts, (c.apart, c.own_weight))))))
    (λ p. record { seen = p.0; own = p.1.0; values = p.1.1.0; layouts = p.1.1.1.0; apart = p.1.1.1.1.0; own_weight = p.1.1.1.1.1 })
    (λ _. refl)

abbrev pub coded_field : Coded FieldBody
coded_field = code_by (Option ℕ × (Option Access × (Option ℕ × (ℕ × ℕ))))
    (coded× (coded_option coded_ℕ) (coded× (coded_option access.the_row.coded) (coded× (coded_option coded_ℕ) (coded× coded_ℕ coded_ℕ))))
    (λ f. (f.width, (f.access, (f.reset, (f.count, f.weight)))))
    (λ p. record { width = p.0; access = p.1.0; reset = p.1.1.0; count = p.1.1.1.0; weight = p.1.1.1.1 })
    (λ _. refl)

-- ---- What a dynamic assignment asks, and whether that is granted.

abbrev to_asked : Asked → ℕ ⊎ Option ℕ
to_asked order = inl 0
to_asked (room bits) = inr bits

abbrev from_asked : ℕ ⊎ Option ℕ → Asked
from_asked (inl n) = order
from_asked (inr bits) = room bits

pub from_to_asked : (a : Asked) → from_asked (to_asked a) ≡ a
from_to_asked order = refl
from_to_asked (room bits) = refl

abbrev pub coded_asked : Coded Asked
coded_asked = code_by (ℕ ⊎ Option ℕ) (coded⊎ coded_ℕ (coded_option coded_ℕ)) to_asked from_asked from_to_asked

abbrev to_verdict : Verdict → Bool ⊎ (Asked × ℕ)
to_verdict (known b) = inl b
to_verdict (asks_own a n) = inr (a, n)

abbrev from_verdict : Bool ⊎ (Asked × ℕ) → Verdict
from_verdict (inl b) = known b
from_verdict (inr p) = asks_own p.0 p.1

pub from_to_verdict : (v : Verdict) → from_verdict (to_verdict v) ≡ v
from_to_verdict (known b) = refl
from_to_verdict (asks_own a n) = refl

abbrev pub coded_verdict : Coded Verdict
coded_verdict = code_by (Bool ⊎ (Asked × ℕ)) (coded⊎ coded_bool (coded× coded_asked coded_ℕ)) to_verdict from_verdict from_to_verdict

-- ---- Items.

abbrev Flat : Type 0
Flat = (ℕ ⊎ PropertySet) ⊎ (Verdict ⊎ (FieldBody ⊎ (ℕ × Option Seen)))

abbrev to_flat : Slot → Flat
to_flat own_slot = inl (inl 0)
to_flat (default_slot p) = inl (inr p)
to_flat (dynamic_slot v) = inr (inl v)
to_flat (field_slot f) = inr (inr (inl f))
to_flat (named_slot class s) = inr (inr (inr (class, s)))

abbrev from_flat : Flat → Slot
from_flat (inl (inl n)) = own_slot
from_flat (inl (inr p)) = default_slot p
from_flat (inr (inl v)) = dynamic_slot v
from_flat (inr (inr (inl f))) = field_slot f
from_flat (inr (inr (inr p))) = named_slot p.0 p.1

pub from_to_flat : (s : Slot) → from_flat (to_flat s) ≡ s
from_to_flat own_slot = refl
from_to_flat (default_slot p) = refl
from_to_flat (dynamic_slot v) = refl
from_to_flat (field_slot f) = refl
from_to_flat (named_slot class s) = refl

abbrev pub coded_slot : Coded Slot
coded_slot = code_by Flat
    (coded⊎ (coded⊎ coded_ℕ properties.the_row.coded) (coded⊎ coded_verdict (coded⊎ coded_field (coded× coded_ℕ (coded_option seen.the_row.coded)))))
    to_flat from_flat from_to_flat

abbrev to_written : Written → ℕ ⊎ ℕ
to_written (type_slot class) = inl class
to_written part_slot = inr 0

abbrev from_written : ℕ ⊎ ℕ → Written
from_written (inl class) = type_slot class
from_written (inr n) = part_slot

pub from_to_written : (w : Written) → from_written (to_written w) ≡ w
from_to_written (type_slot class) = refl
from_to_written part_slot = refl

abbrev coded_written : Coded Written
coded_written = code_by (ℕ ⊎ ℕ) (coded⊎ coded_ℕ coded_ℕ) to_written from_written from_to_written

-- of a component, what is no item
abbrev coded_own : Coded (Written × Core)
coded_own = coded× coded_written coded_core

abbrev head : Gv → Gv
head gnil = gnil
head (gnum n) = gnil
head (gcons a b) = a

abbrev tail : Gv → Gv
tail gnil = gnil
tail (gnum n) = gnil
tail (gcons a b) = b

abbrev slots_code : Slots → Gv
slots_code no_slots = gnil
slots_code (slot s rest) = gcons (gcons (gnum 0) (coded_slot.code s)) (slots_code rest)
slots_code (written w c inside rest) = gcons (gcons (gnum 1) (gcons (coded_own.code (w, c)) (slots_code inside))) (slots_code rest)

abbrev is_cons : Gv → ℕ
is_cons gnil = 0
is_cons (gnum n) = 0
is_cons (gcons a b) = 1

abbrev mark : Gv → ℕ
mark gnil = 0
mark (gnum n) = n
mark (gcons a b) = 0

differ : zero ≡ suc zero → ⊥
differ p = suc-ne-zero zero (sym p)

pub slots_inj : (x y : Slots) → slots_code x ≡ slots_code y → x ≡ y
slots_inj no_slots no_slots p = refl
slots_inj no_slots (slot b0 b1) p = absurd (differ (ap is_cons p))
slots_inj no_slots (written b0 b1 b2 b3) p = absurd (differ (ap is_cons p))
slots_inj (slot a0 a1) no_slots p = absurd (differ (sym (ap is_cons p)))
slots_inj (slot a0 a1) (slot b0 b1) p = λ i. slot (coded_slot.inj a0 b0 (ap (λ g. tail (head g)) p) i) (slots_inj a1 b1 (ap tail p) i)
slots_inj (slot a0 a1) (written b0 b1 b2 b3) p = absurd (differ (ap (λ g. mark (head (head g))) p))
slots_inj (written a0 a1 a2 a3) no_slots p = absurd (differ (sym (ap is_cons p)))
slots_inj (written a0 a1 a2 a3) (slot b0 b1) p = absurd (differ (sym (ap (λ g. mark (head (head g))) p)))
slots_inj (written a0 a1 a2 a3) (written b0 b1 b2 b3) p =
    let own = coded_own.inj (a0, a1) (b0, b1) (ap (λ g. head (tail (head g))) p) in
    let inside = slots_inj a2 b2 (ap (λ g. tail (tail (head g))) p) in
    let rest = slots_inj a3 b3 (ap tail p) in
    λ i. written (own i).0 (own i).1 (inside i) (rest i)

abbrev pub coded_slots : Coded Slots
coded_slots = record { code = slots_code; inj = slots_inj }

abbrev pub coded_node : Coded Node
coded_node = code_by (Core × Slots) (coded× coded_core coded_slots) (λ n. (n.core, n.slots)) (λ p. record { core = p.0; slots = p.1 }) (λ _. refl)

-- ---- Instances as targets find them.

abbrev coded_spots : Coded Spots
coded_spots = code_by (List Span × Bool) (coded× (coded_list coded_span) coded_bool) (λ s. (s.spans, s.is_ordered)) (λ p. record { spans = p.0; is_ordered = p.1 }) (λ _. refl)

-- of an instance, what is no instance
abbrev coded_alone : Coded (List ℕ × (ℕ × (Kind × Spots)))
coded_alone = coded× (coded_list coded_ℕ) (coded× coded_ℕ (coded× kind.the_row.coded coded_spots))

abbrev inside_code : Inside → Gv
inside_code no_instances = gnil
inside_code (instance name number kind spots inside before) = gcons (gcons (coded_alone.code (name, (number, (kind, spots)))) (inside_code inside)) (inside_code before)

pub inside_inj : (x y : Inside) → inside_code x ≡ inside_code y → x ≡ y
inside_inj no_instances no_instances p = refl
inside_inj no_instances (instance b0 b1 b2 b3 b4 b5) p = absurd (differ (ap is_cons p))
inside_inj (instance a0 a1 a2 a3 a4 a5) no_instances p = absurd (differ (sym (ap is_cons p)))
inside_inj (instance a0 a1 a2 a3 a4 a5) (instance b0 b1 b2 b3 b4 b5) p =
    let alone = coded_alone.inj (a0, (a1, (a2, a3))) (b0, (b1, (b2, b3))) (ap (λ g. head (head g)) p) in
    let inside = inside_inj a4 b4 (ap (λ g. tail (head g)) p) in
    let before = inside_inj a5 b5 (ap tail p) in
    λ i. instance (alone i).0 (alone i).1.0 (alone i).1.1.0 (alone i).1.1.1 (inside i) (before i)

abbrev pub coded_inside : Coded Inside
coded_inside = record { code = inside_code; inj = inside_inj }
