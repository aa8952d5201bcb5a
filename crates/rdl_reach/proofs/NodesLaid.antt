-- What is kept of a description without a fault is what is laid out there.
use Rattle.std.proofs.Common.{◌≡◌, ℕ, ◌*◌, ◌≤◌, Bool, true, false, List, [], ◌∷◌, ◌++◌, length, map, Option, Some, None, refl, sym, ap, subst, ◌∙◌, arith}
use Rattle.std.specs.Prelude.{bytes_eq, if◌then◌else◌, slice_get, option_map, option_and_then}
use Rattle.std.proofs.lemmas.Option.{same_Some}
use Rattle.rdl_tree.specs.Address.{body_at}
use Rattle.rdl_tree.specs.Component.{own_component}
use Rattle.rdl_tree.specs.ItemAt.{item_at}
use Rattle.rdl_tree.specs.Items.{Items, anonymous}
use Rattle.rdl_tree.specs.View.{list_of}
use Rattle.rdl_tree.specs.declared.description.Component.{Component}
use Rattle.rdl_tree.specs.declared.description.Item.{Item}
use Rattle.rdl_tree.specs.declared.description.Item.TheVariants.{Instance}
use Rattle.rdl_tree.specs.declared.description.Of.TheVariants.{Named, Anonymous}
use Rattle.rdl_tree.specs.declared.shell.Kind.{Kind}
use Rattle.rdl_tree.specs.declared.shell.Kind.TheVariants.{Addrmap, Regfile, Reg, Field}
use Rattle.rdl_tree.specs.declared.shell.Shell.{Shell}
use Rattle.rdl_scope.specs.Closed.{Parts, no_parts, part, Made, Standing, lookup, nothing, standing_at, component}
use Rattle.rdl_scope.specs.ItemFaults.{fault_of}
use Rattle.rdl_scope.specs.Types.{component_of}
use Rattle.rdl_scope.proofs.AsFound.{as_found}
use Rattle.rdl_scope.proofs.InstanceKinds.{component-named}
use Rattle.rdl_scope.proofs.Levelled.{item-deeper}
use Rattle.rdl_scope.proofs.StandingBefore.{lookup-component}
use Rattle.rdl_elab.specs.declared.layout.FieldBits.{FieldBits}
use Rattle.rdl_elab.specs.declared.layout.LayoutValues.{LayoutValues}
use Rattle.rdl_elab.specs.declared.layout.Member.{Member}
use Rattle.rdl_elab.specs.declared.layout.Mode.{Mode}
use Rattle.rdl_elab.specs.declared.layout.Mode.TheVariants.{Compact, Regalign, Fullalign}
use Rattle.rdl_elab.specs.declared.layout.Placement.{Placement}
use Rattle.rdl_elab.specs.Anew.{how_many}
use Rattle.rdl_elab.specs.Bits.{bits_of, bits_from}
use Rattle.rdl_elab.specs.Capped.{capped_span, capped_layout}
use Rattle.rdl_elab.specs.Layouts.{values_of, mode_inside, member, laid_out, layouts, layout}
use Rattle.rdl_elab.specs.Size.{end_of}
use Rattle.rdl_elab.specs.Start.{start_of, spans_from}
use Rattle.rdl_elab.proofs.AllTaken.{mapped-length}
use Rattle.rdl_seen.specs.Contents.{field_of}
use Rattle.rdl_seen.specs.Fields.{of_field, of_seen, of_none, of_type, first_of}
use Rattle.rdl_seen.specs.Inside.{Inside, no_instances}
use Rattle.rdl_seen.specs.Meaning.{nothing_around, around_before, around_at, node_at}
use Rattle.rdl_seen.specs.Node.{Known, Around, holder_slots, walked, node}
use Rattle.rdl_seen.specs.OneByOne.{slot_of_item, instances_before}
use Rattle.rdl_seen.specs.Slots.{Core, Slots, no_slots, Node}
use Rattle.rdl_seen.proofs.KeptAt.{kept_are_nodes}
use Rattle.rdl_seen.proofs.Stands.{nodes_have_values}
use Rattle.node_laws.specs.Kept.{is_field}
use Rattle.node_laws.specs.Laid.{laying, seen_span}
use Rattle.node_laws.specs.Meant.{IsCore, IsKnown, AreKnown, MeansAll}
use Rattle.node_laws.specs.Seen.{layouts_seen}
use Rattle.node_laws.proofs.Nodes.{means_all_at, nodes_are_seen, kept_are_seen}
use Rattle.rdl_renew.specs.AlikeSlots.{of_at}
use Rattle.rdl_reach.specs.Laws.{kept_of}
use Rattle.rdl_nodes.specs.Placed.{placed_once}
use Rattle.rdl_reach.proofs.AllPlaced.{IsBound}
use Rattle.rdl_reach.proofs.Deeper.{standing_deeper, around_deeper, of_item_at}
use Rattle.rdl_reach.proofs.Unplaced.{IsLarge, IsLaid}

-- ---- How many spans there are.

spans_length : (around : Option ℕ) (m : Mode) (end : ℕ) (ps : List Placement) → length (spans_from around m end ps) ≡ length ps
spans_length around m end [] = refl
spans_length around m end (p ∷ ps) = omega (arith, spans_length around m (end_of (start_of around m end p) p) ps)

bits_length : (next : ℕ) (fs : List FieldBits) → length (bits_from next fs) ≡ length fs
bits_length next [] = refl
bits_length next (f ∷ fs) = omega (arith, bits_length (bits_of next f).end fs)

-- a layout has a span for each instance, and that of a field none
laid_length : (k : Kind) (v : LayoutValues) (m : Mode) (ms : List Member) → length (laid_out k v m ms).spans ≤ length ms
laid_length Addrmap v m ms = omega (arith, spans_length v.alignment m 0 (map (λ (i : Member). i.placement) ms), mapped-length (λ (i : Member). i.placement) ms)
laid_length Regfile v m ms = omega (arith, spans_length v.alignment m 0 (map (λ (i : Member). i.placement) ms), mapped-length (λ (i : Member). i.placement) ms)
laid_length Reg v m ms = omega (arith, bits_length 0 (map (λ (i : Member). i.bits) ms), mapped-length (λ (i : Member). i.bits) ms)
laid_length Field v m ms = omega arith

layouts_length : (m : Mode) (ps : Parts) → length (layouts m ps) ≡ how_many ps
layouts_length m no_parts = refl
layouts_length m (part at s h inside rest) = omega (arith, layouts_length m rest)

seen_length : (m : Mode) (c : Made) → length (map seen_span (capped_layout (layout m c)).spans) ≤ how_many c.parts
seen_length m c =
    let v = values_of c.head in
    let n = mode_inside c.head.kind v m in
    omega (arith, mapped-length seen_span (capped_layout (layout m c)).spans, mapped-length capped_span (layout m c).spans, laid_length c.head.kind v n (map member (layouts n c.parts)), mapped-length member (layouts n c.parts), layouts_length n c.parts)

few_placed : (c : Made) → placed_once (layouts_seen c) ≤ 3 * how_many c.parts
unfolding layouts_seen
few_placed c = omega (arith, seen_length Compact c, seen_length Regalign c, seen_length Fullalign c)

no_spans : (k : Kind) (v : LayoutValues) (m : Mode) (ms : List Member) → is_field k ≡ true → length (map seen_span (map capped_span (laid_out k v m ms).spans)) ≡ 0
no_spans Addrmap v m ms e = absurd (let no : false ≡ true = e in cc)
no_spans Regfile v m ms e = absurd (let no : false ≡ true = e in cc)
no_spans Reg v m ms e = absurd (let no : false ≡ true = e in cc)
no_spans Field v m ms e = refl

none_seen : (m : Mode) (c : Made) → is_field c.head.kind ≡ true → length (map seen_span (capped_layout (layout m c)).spans) ≡ 0
none_seen m c e =
    let v = values_of c.head in
    let n = mode_inside c.head.kind v m in
    no_spans c.head.kind v n (map member (layouts n c.parts)) e

none_placed : (c : Made) → is_field c.head.kind ≡ true → placed_once (layouts_seen c) ≡ 0
unfolding layouts_seen
none_placed c e = omega (arith, none_seen Compact c e, none_seen Regalign c e, none_seen Fullalign c e)

-- ---- Types that are known.

record IsThere (h : Made) (o : Option Known) : Type 0 where
  known : Known
  there : o ≡ Some known
  is : IsKnown h known

here_or_behind : (x y : Bool) (made h : Made) (known : Known) (o : Option Made) (p : Option Known) → x ≡ y → IsKnown made known → (o ≡ Some h → IsThere h p)
    → (if x then Some made else o) ≡ Some h → IsThere h (if y then Some known else p)
here_or_behind true true made h known o p e is more f = let same : made ≡ h = cc in record { known = known; there = refl; is = subst (λ z. IsKnown z known) same is }
here_or_behind true false made h known o p e is more f = absurd cc
here_or_behind false true made h known o p e is more f = absurd cc
here_or_behind false false made h known o p e is more f = more f

known_there : (name : List ℕ) (xs : List (List ℕ × Made)) (ys : List (List ℕ × Known)) (h : Made) → AreKnown xs ys → lookup name xs ≡ Some h → IsThere h (lookup name ys)
known_there name [] [] h are f = absurd cc
known_there name (x ∷ xs) [] h are f = absurd are
known_there name [] (y ∷ ys) h are f = absurd are
known_there name (x ∷ xs) (y ∷ ys) h are f =
    here_or_behind (bytes_eq x.0 name) (bytes_eq y.0 name) x.1 h y.1 (lookup name xs) (lookup name ys) (ap (λ n. bytes_eq n name) are.0) are.1 (known_there name xs ys h are.2) f

none_or_behind : (x y : Bool) (made : Made) (known : Known) (o : Option Made) (p : Option Known) → x ≡ y → (o ≡ None → p ≡ None) → (if x then Some made else o) ≡ None → (if y then Some known else p) ≡ None
none_or_behind true y made known o p e more f = absurd (let no : Some made ≡ None = f in cc)
none_or_behind false true made known o p e more f = absurd cc
none_or_behind false false made known o p e more f = more f

known_none : (name : List ℕ) (xs : List (List ℕ × Made)) (ys : List (List ℕ × Known)) → AreKnown xs ys → lookup name xs ≡ None → lookup name ys ≡ None
known_none name [] [] are f = refl
known_none name (x ∷ xs) [] are f = absurd are
known_none name [] (y ∷ ys) are f = absurd are
known_none name (x ∷ xs) (y ∷ ys) are f =
    none_or_behind (bytes_eq x.0 name) (bytes_eq y.0 name) x.1 y.1 (lookup name xs) (lookup name ys) (ap (λ n. bytes_eq n name) are.0) (known_none name xs ys are.2) f

-- ---- What is kept of an instance that is written where it is instantiated.

field_first : (s : Shell) (k : Kind) (body : Items) (c : Core) (inside more : Slots) → is_field k ≡ true → first_of (holder_slots (anonymous s k) body c inside more) ≡ of_field (field_of body)
field_first s Addrmap body c inside more e = absurd (let no : false ≡ true = e in cc)
field_first s Regfile body c inside more e = absurd (let no : false ≡ true = e in cc)
field_first s Reg body c inside more e = absurd (let no : false ≡ true = e in cc)
field_first s Field body c inside more e = refl

part_first : (s : Shell) (k : Kind) (body : Items) (c : Core) (inside more : Slots) → is_field k ≡ false → first_of (holder_slots (anonymous s k) body c inside more) ≡ of_seen c.seen
part_first s Addrmap body c inside more e = refl
part_first s Regfile body c inside more e = refl
part_first s Reg body c inside more e = refl
part_first s Field body c inside more e = absurd (let no : true ≡ false = e in cc)

module _ (d : Items) (accepted : fault_of d ≡ None) where
  module _ (a : List ℕ) (c : Made) (x : Node) (is : component d a ≡ Some c) (there : node_at a (kept_of d) ≡ Some x) where
    core : IsCore c x.core
    core = kept_are_seen d a c accepted is x there

    body : body_at a d ≡ Some c.head.body
    body = (as_found d a c is).body

    around : Around
    around = (nodes_have_values laying d a c accepted is).around

    sees : around_at laying nothing_around a d ≡ Some around
    unfolding around
    sees = (nodes_have_values laying d a c accepted is).there

    slots : x.slots ≡ (walked laying around no_instances c.head.body).slots
    slots = ap (λ (n : Node). n.slots) (kept_are_nodes laying d a c around is sees x there)

    module _ (i : ℕ) where
      abbrev here : List ℕ
      here = a ++ i ∷ []

      abbrev seen_here : Around
      seen_here = around_before laying i around c.head.body

      abbrev instances : Inside
      instances = instances_before laying i around no_instances c.head.body

      sees_here : around_at laying nothing_around here d ≡ Some seen_here
      sees_here = around_deeper laying a i nothing_around around d c.head.body body sees

      of_here : (y : Item) → slice_get (list_of c.head.body) i ≡ Some y → of_at i x.slots ≡ first_of (slot_of_item laying seen_here instances y)
      of_here y got = ap (of_at i) slots ∙ of_item_at laying around no_instances c.head.body i y got

      stands : (e : Standing) × (standing_at nothing [] here d ≡ Some e)
      stands = standing_deeper a i nothing [] d c.head.body body

      means : MeansAll stands.0 seen_here
      means = means_all_at d here stands.0 accepted stands.1 seen_here sees_here

      item_there : (y : Item) → slice_get (list_of c.head.body) i ≡ Some y → item_at here d ≡ Some y
      item_there y got = item-deeper a i d c.head.body body ∙ got

      type_there : (s : Shell) (t : List ℕ) → slice_get (list_of c.head.body) i ≡ Some (Instance s (Named t)) → lookup t stands.0.types ≡ option_and_then (component d) (component_of d here)
      type_there s t got = lookup-component t here d stands.0 stands.1 ∙ ap (option_and_then (component d)) (sym (component-named d here s t (item_there (Instance s (Named t)) got)))

      named : (s : Shell) (t p : List ℕ) (h : Made) → slice_get (list_of c.head.body) i ≡ Some (Instance s (Named t)) → component_of d here ≡ Some p → component d p ≡ Some h → IsLarge (layouts_seen h) (of_at i x.slots)
      named s t p h got leads made =
          let k = known_there t stands.0.types seen_here.types h means.types (type_there s t got ∙ ap (option_and_then (component d)) leads ∙ made) in
          record {
            seen = k.known.seen;
            is = of_here (Instance s (Named t)) got ∙ ap (λ o. of_type (option_map (λ (k : Known). k.seen) o)) k.there;
            size = k.is.seen.size;
            widest = k.is.seen.widest;
          }

      unnamed : (s : Shell) (t : List ℕ) → slice_get (list_of c.head.body) i ≡ Some (Instance s (Named t)) → component_of d here ≡ None → of_at i x.slots ≡ of_none
      unnamed s t got leads =
          of_here (Instance s (Named t)) got
          ∙ ap (λ o. of_type (option_map (λ (k : Known). k.seen) o)) (known_none t stands.0.types seen_here.types means.types (type_there s t got ∙ ap (option_and_then (component d)) leads))

      written_field : (s : Shell) (k : Component) → slice_get (list_of c.head.body) i ≡ Some (Instance s (Anonymous k)) → is_field k.kind ≡ true → of_at i x.slots ≡ of_field (field_of k.body)
      written_field s k got e =
          of_here (Instance s (Anonymous k)) got
          ∙ field_first s k.kind k.body (node laying seen_here k.kind k.body).core (node laying seen_here k.kind k.body).slots no_slots e

      written_part : (s : Shell) (k : Component) (h : Made) → slice_get (list_of c.head.body) i ≡ Some (Instance s (Anonymous k)) → is_field k.kind ≡ false → component d here ≡ Some h → IsLarge (layouts_seen h) (of_at i x.slots)
      written_part s k h got e made =
          let same : record { kind = h.head.kind; body = h.head.body } ≡ k =
          same_Some (record { kind = h.head.kind; body = h.head.body }) k (sym (as_found d here h made).component ∙ ap (option_and_then own_component) (item_there (Instance s (Anonymous k)) got)) in
          let is_core = nodes_are_seen d here h accepted made seen_here sees_here in
          record {
            seen = (node laying seen_here k.kind k.body).core.seen;
            is =
                of_here (Instance s (Anonymous k)) got
                ∙ part_first s k.kind k.body (node laying seen_here k.kind k.body).core (node laying seen_here k.kind k.body).slots no_slots e;
            size = ap (λ (z : Component). (node laying seen_here z.kind z.body).core.seen.size) (sym same) ∙ is_core.seen.size;
            widest = ap (λ (z : Component). (node laying seen_here z.kind z.body).core.seen.widest) (sym same) ∙ is_core.seen.widest;
          }

  pub is_laid : IsLaid d (kept_of d) layouts_seen
  is_laid = record {
    values = λ a c x is there. (core a c x is there).stated;
    empty = λ a c x is there e. ap placed_once (core a c x is there).layouts ∙ none_placed c e;
    fields = λ a c x i s k is there got e. written_field a c x is there i s k got e;
    parts = λ a c x i s k h is there got e made. written_part a c x is there i s k h got e made;
    types = λ a c x i s t p h is there got leads made. named a c x is there i s t p h got leads made;
    nothing = λ a c x i s t is there got leads. unnamed a c x is there i s t got leads;
  }

  pub is_bound : IsBound d (kept_of d)
  is_bound a c x is there =
      let l = few_placed c in
      let e : placed_once x.core.layouts ≡ placed_once (layouts_seen c) = ap placed_once (core a c x is there).layouts in
      omega (arith, l, e)
