-- The layouts of a component out of reach are made of the same as before.
use Rattle.std.proofs.Common.{◌≡◌, ℕ, true, false, ◌&&◌, ◌==◌, ◌∷◌, Option, Some, None, refl, sym, ap, ◌∙◌}
use Rattle.std.specs.Prelude.{bytes_eq, ◌-◌, ◌^◌, min, unwrap_or}
use Rattle.std.specs.Option.{option_or}
use Rattle.std.proofs.lemmas.Bool.{eqb-true, and_parts}
use Rattle.std.proofs.lemmas.Slice.Eq.{bytes_eq-Decides}
use Rattle.rdl_tree.specs.Properties.{row}
use Rattle.rdl_tree.specs.declared.property.Property.{Property}
use Rattle.rdl_tree.specs.declared.property.Property.TheVariants.{Addressing, Alignment, Regwidth, Accesswidth, Fieldwidth}
use Rattle.rdl_tree.specs.declared.shell.Shell.{Shell}
use Rattle.rdl_scope.specs.Closed.{Head, Parts, no_parts, part, Made, head_value}
use Rattle.rdl_scope.specs.ItemFaults.{product}
use Rattle.rdl_elab.specs.EachMember.{first_of, said_of, extents_of}
use Rattle.rdl_elab.specs.Layouts.{values_of, number_in, power_in, width_in, mode_in}
use Rattle.rdl_elab.specs.MadeOf.{members_of, made_of, layouts_made}
use Rattle.rdl_elab.specs.Written.{layouts_kept}
use Rattle.rdl_elab.proofs.Making.{layouts-made}
use Rattle.rdl_renew.specs.AlikeSlots.{same_range, says_same}
use Rattle.rdl_reach.specs.EditedBodies.{edits}
use Rattle.rdl_nodes.specs.Placed.{same_stated}
use Rattle.rdl_reach.specs.Laws.{OutOfReachStays}
use Rattle.rdl_reach.proofs.OutOfReach.{AreAlike, all_alike, stood_as, by_component}
use Rattle.rdl_reach.proofs.States.{StateTheSame, states_same}

-- ---- What is said of a place.

number_same : (m n : Option ℕ) → same_stated m n ≡ true → m ≡ n
number_same None None e = refl
number_same None (Some q) e = absurd (let no : false ≡ true = e in cc)
number_same (Some p) None e = absurd (let no : false ≡ true = e in cc)
number_same (Some p) (Some q) e = ap Some (eqb-true p q e)

range_same : (r s : Option (ℕ × ℕ)) → same_range r s ≡ true → r ≡ s
range_same None None e = refl
range_same None (Some q) e = absurd (let no : false ≡ true = e in cc)
range_same (Some p) None e = absurd (let no : false ≡ true = e in cc)
range_same (Some p) (Some q) e =
    let two = and_parts (p.0 == q.0) (p.1 == q.1) e in
    let one = eqb-true p.0 q.0 two.0 in
    let other = eqb-true p.1 q.1 two.1 in
    λ i. Some (one i, other i)

pub said_same : (u s : Shell) → says_same u s ≡ true → said_of s ≡ said_of u
said_same u s e =
    let aligns = and_parts (bytes_eq u.dims s.dims && same_range u.range s.range && same_stated u.address s.address && same_stated u.stride s.stride) (same_stated u.align s.align) e in
    let strides = and_parts (bytes_eq u.dims s.dims && same_range u.range s.range && same_stated u.address s.address) (same_stated u.stride s.stride) aligns.0 in
    let addresses = and_parts (bytes_eq u.dims s.dims && same_range u.range s.range) (same_stated u.address s.address) strides.0 in
    let ranges = and_parts (bytes_eq u.dims s.dims) (same_range u.range s.range) addresses.0 in
    let dims : s.dims ≡ u.dims = sym ((bytes_eq-Decides u.dims s.dims).0 ranges.0) in
    let range : s.range ≡ u.range = sym (range_same u.range s.range ranges.1) in
    let address : s.address ≡ u.address = sym (number_same u.address s.address addresses.1) in
    let stride : s.stride ≡ u.stride = sym (number_same u.stride s.stride strides.1) in
    let align : s.align ≡ u.align = sym (number_same u.align s.align aligns.1) in
    λ i. record { elements = min (product (dims i)) (2 ^ 128 - 1); size = first_of (dims i); address = address i; stride = stride i; align = align i; range = range i }

-- ---- Values.

value_same : (h k : Head) → StateTheSame h k → (p : Property) → (row p).layout ≡ true → head_value h p ≡ head_value k p
value_same h k same Accesswidth e =
    let here = states_same h k same Accesswidth refl in
    let built = states_same h k same Regwidth refl in
    λ i. option_or (here i) (option_or (built i) (row Regwidth).built_in)
value_same h k same p e = ap (λ o. option_or o (row p).built_in) (states_same h k same p e)

values_same : (h k : Head) → StateTheSame h k → values_of h ≡ values_of k
values_same h k same =
    let addressing = value_same h k same Addressing refl in
    let alignment = value_same h k same Alignment refl in
    let regwidth = value_same h k same Regwidth refl in
    let accesswidth = value_same h k same Accesswidth refl in
    let fieldwidth = value_same h k same Fieldwidth refl in
    λ i. record {
      addressing = mode_in (addressing i);
      alignment = power_in (number_in (alignment i));
      regwidth = width_in (number_in (regwidth i));
      accesswidth = width_in (number_in (accesswidth i));
      fieldwidth = unwrap_or (number_in (fieldwidth i)) 0;
    }

-- ---- Instances.

made_by : (h k : Head) (inside within : Parts) → h.kind ≡ k.kind → StateTheSame h k → members_of inside ≡ members_of within
    → made_of (record { head = h; parts = inside }) ≡ made_of (record { head = k; parts = within })
made_by h k inside within kind states members = let values = values_same h k states in λ i. record { kind = kind i; values = values i; members = members i }

pub kept_same : (c k : Made) → made_of c ≡ made_of k → layouts_kept c ≡ layouts_kept k
kept_same c k e = sym (layouts-made c) ∙ ap layouts_made e ∙ layouts-made k

members_same : (ps qs : Parts) → AreAlike ps qs → members_of ps ≡ members_of qs
members_same no_parts no_parts h = refl
members_same no_parts (part was u k within others) h = absurd h
members_same (part at s h inside rest) no_parts g = absurd g
members_same (part at s h inside rest) (part was u k within others) g =
    let said = said_same u s g.0 in
    let laid = kept_same (record { head = h; parts = inside }) (record { head = k; parts = within }) (made_by h k inside within g.1 g.2 (members_same inside within g.3)) in
    let more = members_same rest others g.4 in
    λ i. record { said = said i; extents = extents_of (laid i) } ∷ more i

pub made_same : (c k : Made) → c.head.kind ≡ k.head.kind → StateTheSame c.head k.head → AreAlike c.parts k.parts → made_of c ≡ made_of k
made_same c k kind states alike = made_by c.head k.head c.parts k.parts kind states (members_same c.parts k.parts alike)

-- ---- A component out of reach.

pub out_of_reach_stays : OutOfReachStays
out_of_reach_stays m old now step a c is out =
    let clear = by_component (edits m old now) a now c is out in
    let d = stood_as m old now step.described step.ordered a c is clear.0 in
    record {
      at = d.at;
      stood = d.stood;
      before = d.before;
      there = d.there;
      same = made_same c d.before d.kind d.states (all_alike m old now step.described step.ordered c.parts d.before.parts d.parts clear.1);
    }
