-- The layouts by the values and the instances that are kept are those of the component.
use Rattle.std.proofs.Common.{◌≡◌, ℕ, ◌≤◌, List, [], ◌∷◌, map, Option, Some, None, refl, sym, ap, subst, ◌∙◌, arith}
use Rattle.std.specs.Prelude.{Bool, true, false, ◌||◌, nat_le, unwrap_or, option_and_then, if◌then◌else◌}
use Rattle.std.specs.Option.{option_or, is_some}
use Rattle.std.proofs.lemmas.Bool.{leb-true}
use Rattle.rdl_tree.specs.Items.{Items}
use Rattle.rdl_tree.specs.Properties.{row, on}
use Rattle.rdl_tree.specs.declared.shell.Kind.{Kind}
use Rattle.rdl_tree.specs.declared.shell.Kind.TheVariants.{Addrmap, Regfile, Reg, Field}
use Rattle.rdl_tree.specs.declared.shell.Shell.{Shell}
use Rattle.rdl_tree.specs.declared.value.Value.{Value}
use Rattle.rdl_tree.specs.declared.value.Value.TheVariants as value
use Rattle.rdl_tree.specs.declared.property.Property.TheVariants.{Addressing, Alignment, Regwidth, Accesswidth, Fieldwidth}
use Rattle.rdl_scope.specs.Closed.{Head, Parts, no_parts, part, Made, Standing, head_at, head_value, stated as head_stated}
use Rattle.rdl_elab.specs.declared.layout.LayoutValues.{LayoutValues}
use Rattle.rdl_elab.specs.declared.layout.Member.{Member}
use Rattle.rdl_elab.specs.declared.layout.Mode.{Mode}
use Rattle.rdl_elab.specs.declared.layout.Mode.TheVariants.{Compact, Regalign, Fullalign}
use Rattle.rdl_elab.specs.declared.layout.Span.{Span}
use Rattle.rdl_elab.specs.Bits.{bits_of, bits_from}
use Rattle.rdl_elab.specs.Capped.{capped, capped_span, capped_layout}
use Rattle.rdl_elab.specs.EachMember.{first_of, member_under}
use Rattle.rdl_elab.specs.Layouts.{number_in, power_in, width_in, mode_in, layout_values, values_of, container}
use Rattle.rdl_elab.specs.MadeOf.{each_member, members_of, made_of, layout_made}
use Rattle.rdl_elab.specs.Size.{bytes_of}
use Rattle.rdl_elab.proofs.Making.{layouts-made}
use Rattle.rdl_seen.specs.declared.seen.Seen.{Seen}
use Rattle.rdl_seen.specs.declared.values.Values.{Values}
use Rattle.rdl_seen.specs.Fields.{says_some, of_field, of_seen, room_of, member_of}
use Rattle.rdl_seen.specs.Layouts as seen
use Rattle.rdl_seen.specs.Meaning.{stated_of, HasValues}
use Rattle.rdl_seen.specs.Node.{apart_of}
use Rattle.rdl_seen.specs.Slots.{FieldBody}
use Rattle.rdl_seen.specs.Values.{width_of, field_bits}
use Rattle.node_laws.specs.Laid.{value_in, each_of, made_by, seen_layouts, laying}
use Rattle.node_laws.specs.Meant.{IsSeen}
use Rattle.node_laws.specs.Seen.{layouts_seen, member_seen, members_seen}

-- ---- Instances that are laid out alike in a component of a kind: of a register, its fields have the same bits.

abbrev pub IsAlike : Option Kind → seen.Member → seen.Member → Type 0
IsAlike (Some Reg) x y = (m : Mode) (next : ℕ) → bits_of next (member_under m (each_of x)).bits ≡ bits_of next (member_under m (each_of y)).bits
IsAlike around x y = x ≡ y

abbrev pub AreAlike : Option Kind → List seen.Member → List seen.Member → Type 0
AreAlike around [] [] = Unit {0}
AreAlike around (x ∷ xs) [] = ⊥
AreAlike around [] (y ∷ ys) = ⊥
AreAlike around (x ∷ xs) (y ∷ ys) = IsAlike around x y × AreAlike around xs ys

pub same-alike : (around : Option Kind) (x y : seen.Member) → x ≡ y → IsAlike around x y
same-alike None x y e = e
same-alike (Some Addrmap) x y e = e
same-alike (Some Regfile) x y e = e
same-alike (Some Reg) x y e = λ m next. ap (λ z. bits_of next (member_under m (each_of z)).bits) e
same-alike (Some Field) x y e = e

pub all-same : (around : Option Kind) → ((x y : seen.Member) → IsAlike around x y → x ≡ y) → (xs ys : List seen.Member) → AreAlike around xs ys → xs ≡ ys
all-same around same [] [] h = refl
all-same around same (x ∷ xs) [] h = absurd h
all-same around same [] (y ∷ ys) h = absurd h
all-same around same (x ∷ xs) (y ∷ ys) h = λ i. same x y h.0 i ∷ all-same around same xs ys h.1 i

-- the bits of fields under a mode, from this bit on
abbrev bits_under : Mode → ℕ → List seen.Member → List Span
bits_under m next xs = bits_from next (map (λ (i : Member). i.bits) (map (member_under m) (map each_of xs)))

all-bits : (m : Mode) (next : ℕ) (xs ys : List seen.Member) → AreAlike (Some Reg) xs ys → bits_under m next xs ≡ bits_under m next ys
all-bits m next [] [] h = refl
all-bits m next (x ∷ xs) [] h = absurd h
all-bits m next [] (y ∷ ys) h = absurd h
all-bits m next (x ∷ xs) (y ∷ ys) h =
    ap (λ (s : Span). s ∷ bits_under m s.end xs) (h.0 m next)
    ∙ ap (λ ss. bits_of next (member_under m (each_of y)).bits ∷ ss) (all-bits m (bits_of next (member_under m (each_of y)).bits).end xs ys h.1)

-- what is taken of each instance of a component
members-are : (ps : Parts) → map each_of (members_seen ps) ≡ members_of ps
unfolding layouts_seen
members-are no_parts = refl
members-are (part at s h inside rest) = λ i. each_member s (record { head = h; parts = inside }) ∷ members-are rest i

-- ---- The values on which the layouts of a kind depend.

abbrev SameFor : Kind → LayoutValues → LayoutValues → Type 0
SameFor Addrmap v w = (v.addressing ≡ w.addressing) × (v.alignment ≡ w.alignment)
SameFor Regfile v w = v.alignment ≡ w.alignment
SameFor Reg v w = (v.regwidth ≡ w.regwidth) × (v.accesswidth ≡ w.accesswidth)
SameFor Field v w = v.fieldwidth ≡ w.fieldwidth

same-for : (k : Kind) (h : Head) (v : Values) → h.kind ≡ k → HasValues h v → SameFor k (layout_values (value_in v)) (values_of h)
same-for Addrmap h v is values = (
  ap mode_in (sym (values.addressing (ap (on Addressing) is))),
  ap (λ o. power_in (number_in o)) (sym (values.alignment (ap (on Alignment) is))),
)
same-for Regfile h v is values = ap (λ o. power_in (number_in o)) (sym (values.alignment (ap (on Alignment) is)))
same-for Reg h v is values = (
  ap (λ o. width_in (number_in o)) (sym (values.regwidth (ap (on Regwidth) is))),
  ap (λ o. width_in (number_in o)) (sym (values.accesswidth (ap (on Accesswidth) is))),
)
same-for Field h v is values = ap (λ o. unwrap_or (number_in o) 0) (sym (values.fieldwidth (ap (on Fieldwidth) is)))

same-laid : (m : Mode) (k : Kind) (v w : LayoutValues) (xs ys : List seen.Member) → SameFor k v w → AreAlike (Some k) xs ys
    → layout_made m (record { kind = k; values = v; members = map each_of xs }) ≡ layout_made m (record { kind = k; values = w; members = map each_of ys })
same-laid m Addrmap v w xs ys same alike =
    let members = all-same (Some Addrmap) (λ x y e. e) xs ys alike in
    λ i. capped_layout (container (same.1 i) (same.0 i) (map (λ (j : Member). j.placement) (map (member_under (same.0 i)) (map each_of (members i)))))
same-laid m Regfile v w xs ys same alike =
    let members = all-same (Some Regfile) (λ x y e. e) xs ys alike in
    λ i. capped_layout (container (same i) m (map (λ (j : Member). j.placement) (map (member_under m) (map each_of (members i)))))
same-laid m Reg v w xs ys same alike =
    λ i. record { size = capped (bytes_of (same.0 i)); access = bytes_of (same.1 i); spans = map capped_span (all-bits m 0 xs ys alike i) }
same-laid m Field v w xs ys same alike = λ i. record { size = capped (same i); access = 0; spans = [] }

-- the layouts by the values of a component and by instances that are laid out as its own
pub laid-seen : (h : Head) (v : Values) (ms : List seen.Member) (ps : Parts) → HasValues h v → AreAlike (Some h.kind) ms (members_seen ps)
    → laying h.kind v ms ≡ layouts_seen (record { head = h; parts = ps })
unfolding laying layouts_seen
laid-seen h v ms ps values alike =
    let c : Made = record { head = h; parts = ps } in
    let same = same-for h.kind h v refl values in
    let each : (m : Mode) → layout_made m (made_by h.kind v ms) ≡ layout_made m (made_of c) =
    λ m.
    same-laid m h.kind (layout_values (value_in v)) (values_of h) ms (members_seen ps) same alike
    ∙ ap (λ xs. layout_made m (record { kind = h.kind; values = values_of h; members = xs })) (members-are ps) in
    ap seen_layouts ((λ i. record { compact = each Compact i; regalign = each Regalign i; fullalign = each Fullalign i }) ∙ layouts-made c)

-- ---- An instance of which the component is seen, and one of a field that is written there.

pub seen-member : (v : Values) (s : Shell) (m : Made) (x : Seen) → IsSeen m x → member_of v s (of_seen x) ≡ member_seen s m
seen-member v s m x is = λ i. record { shell = s; size = is.size i; access = is.widest i }

-- the bits of a field, whose width doesn't matter where the instance says it
abbrev bits_with : ℕ → Option (ℕ × ℕ) → List ℕ → ℕ → Span
bits_with next range dims width = bits_of next (record { width = unwrap_or (first_of dims) width; range = range })

room-bits : (next : ℕ) (range : Option (ℕ × ℕ)) (dims : List ℕ) (width : ℕ) → bits_with next range dims (if is_some range || says_some dims then 0 else width) ≡ bits_with next range dims width
room-bits next (Some r) dims width = refl
room-bits next None [] width = refl
room-bits next None (n ∷ ns) width = refl

-- a width that is kept is at most 128
few-if : (n : ℕ) (test : Bool) → nat_le n 128 ≡ test → unwrap_or (if test then Some n else None) 1 ≤ 128
few-if n true e = leb-true n 128 e
few-if n false e = omega arith

few-bits : (o : Option Value) → unwrap_or (option_and_then width_of o) 1 ≤ 128
few-bits None = omega arith
few-bits (Some (value.Number n)) = few-if n (nat_le n 128) refl
few-bits (Some x) = omega arith

below-limit : (n : ℕ) → n ≤ 128 → capped n ≡ n
below-limit n h = omega arith

-- the size of a field, by its values
field-size : (at : List ℕ) (body : Items) (e : Standing) (ps : Parts) (w : Values) → HasValues (head_at at Field body e) w → w ≡ stated_of (head_at at Field body e)
    → capped (unwrap_or (number_in (head_value (head_at at Field body e) Fieldwidth)) 0) ≡ field_bits w
field-size at body e ps w values stated =
    let o = head_stated (head_at at Field body e) (row Fieldwidth).name in
    ap (λ o. capped (unwrap_or (number_in o) 0)) (values.fieldwidth refl)
    ∙ below-limit (field_bits w) (subst (λ (x : Values). field_bits x ≤ 128) (sym stated) (few-bits o))

-- the bits of a field that is written where it is instantiated, by what is kept of it
pub field-member : (v w : Values) (s : Shell) (f : FieldBody) (at : List ℕ) (body : Items) (e : Standing) (ps : Parts)
    → HasValues (head_at at Field body e) w → w ≡ stated_of (head_at at Field body e) → w.fieldwidth ≡ option_or f.width v.fieldwidth
    → IsAlike (Some Reg) (member_of v s (of_field f)) (member_seen s (record { head = head_at at Field body e; parts = ps }))
unfolding layouts_seen
field-member v w s f at body e ps values stated width = λ m next. by m next
  where
    same : (next : ℕ) → bits_with next s.range s.dims (room_of v s f) ≡ bits_with next s.range s.dims (capped (unwrap_or (number_in (head_value (head_at at Field body e) Fieldwidth)) 0))
    same next =
        room-bits next s.range s.dims (unwrap_or (option_or f.width v.fieldwidth) 1)
        ∙ ap (bits_with next s.range s.dims) (ap (λ o. unwrap_or o 1) (sym width) ∙ sym (field-size at body e ps w values stated))

    by : (m : Mode) (next : ℕ) → bits_of next (member_under m (each_of (member_of v s (of_field f)))).bits
        ≡ bits_of next (member_under m (each_of (member_seen s (record { head = head_at at Field body e; parts = ps })))).bits
    by Compact next = same next
    by Regalign next = same next
    by Fullalign next = same next

-- ---- The modes in which instances lie apart.

pub apart-alike : (k : Kind) (v : Values) (l : seen.Layouts) (xs ys : List seen.Member) → AreAlike (Some k) xs ys → apart_of k v l xs ≡ apart_of k v l ys
apart-alike Addrmap v l xs ys alike = ap (apart_of Addrmap v l) (all-same (Some Addrmap) (λ x y e. e) xs ys alike)
apart-alike Regfile v l xs ys alike = ap (apart_of Regfile v l) (all-same (Some Regfile) (λ x y e. e) xs ys alike)
apart-alike Reg v l xs ys alike = refl
apart-alike Field v l xs ys alike = refl
