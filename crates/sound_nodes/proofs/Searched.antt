-- A search finds the first row that has a fault, if it tells anything.
use Rattle.std.proofs.Common.{◌≡◌, ℕ, zero, suc, ◌+◌, ◌/◌, ◌^◌, ◌≤◌, max, List, [], ◌∷◌, ◌++◌, map, length, Bool, true, false, Some, None, Option, ◌⊎◌, inl, inr, refl, ap, sym, subst, ◌∙◌, arith}
use Rattle.std.specs.Prelude.{◌&&◌, ◌||◌, not, nat_lt, option_and_then, unwrap_or, if◌then◌else◌}
use Rattle.std.specs.List.{list_all}
use Rattle.rdl_tree.specs.Address.{inner, body_at}
use Rattle.rdl_tree.specs.ItemAt.{item_at}
use Rattle.rdl_tree.specs.Items.{Items, no_items, plain, holder, named, own, default, dynamic, define, anonymous}
use Rattle.rdl_tree.specs.declared.description.Item.{Item}
use Rattle.rdl_tree.specs.declared.description.Item.TheVariants.{Define, Instance, Own, Default, Dynamic}
use Rattle.rdl_tree.specs.declared.description.Of.TheVariants.{Named, Anonymous}
use Rattle.rdl_tree.specs.Properties.{on}
use Rattle.rdl_tree.specs.declared.property.Property.TheVariants.{Addressing}
use Rattle.rdl_tree.specs.declared.shell.Kind.{Kind}
use Rattle.rdl_tree.specs.declared.shell.Kind.TheVariants.{Addrmap, Regfile, Reg, Field}
use Rattle.rdl_scope.specs.Target.{body_of}
use Rattle.rdl_scope.specs.Types.{held_by, type_from, component_of}
use Rattle.rdl_scope.specs.ItemFaults.{fault_of}
use Rattle.rdl_scope.specs.Closed.{Head, Parts, Made, parts, component}
use Rattle.rdl_scope.proofs.AsFound.{as_found}
use Rattle.rdl_elab.specs.declared.layout.Mode.{Mode}
use Rattle.rdl_elab.specs.declared.layout.Mode.TheVariants.{Compact}
use Rattle.rdl_elab.specs.declared.layout.Layout.{Layout}
use Rattle.rdl_elab.specs.declared.layout.Member.{Member}
use Rattle.rdl_elab.specs.declared.layout.Placement.{Placement}
use Rattle.rdl_elab.specs.declared.layout.Span.{Span}
use Rattle.rdl_elab.specs.Bits.{bits_from}
use Rattle.rdl_elab.specs.Capped.{capped, capped_span}
use Rattle.rdl_elab.specs.Layouts.{mode_in as mode_by, values_of, mode_inside, member, container, laid_out, layouts, layout_of}
use Rattle.rdl_elab.specs.Size.{end_of, greatest_end}
use Rattle.rdl_elab.specs.Start.{start_of, spans_from}
use Rattle.rdl_elab.specs.Rows.{Around as RowsAround, judged_row, inside, rows_in}
use Rattle.rdl_elab.specs.Faults.{first_row_fault}
use Rattle.rdl_elab.specs.Reaches.{Reach, reaches, behind, along}
use Rattle.rdl_elab.proofs.FieldsInside.{registers-hold-fields}
use Rattle.rdl_elab.proofs.Fitting.{Fit, fits-inside}
use Rattle.rdl_elab.proofs.PartsFound.{parts-found}
use Rattle.rdl_elab.proofs.RowsAlong.{along-inside}
use Rattle.rdl_elab.proofs.SameLevels.{bits-small}
use Rattle.rdl_nodes.specs.Parts.{parts_of}
use Rattle.rdl_nodes.proofs.Kept.{resets_are, accesses_are}
use Rattle.rdl_seen.specs.declared.mode.Mode as seen_modes
use Rattle.rdl_seen.specs.declared.seen.Seen.{Seen}
use Rattle.rdl_seen.specs.declared.seen.Modes.{Modes}
use Rattle.rdl_seen.specs.Contents as contents
use Rattle.rdl_seen.specs.Fields.{resets, accesses}
use Rattle.rdl_seen.specs.Inside.{Spots, no_instances}
use Rattle.rdl_seen.specs.Layouts as lay
use Rattle.rdl_seen.specs.Layouts.{Layouts, layout_under}
use Rattle.rdl_seen.specs.Meaning.{nothing_around, around_before, around_at, node_at, stated_of}
use Rattle.rdl_seen.specs.Modes.{has_mode, all_modes}
use Rattle.rdl_seen.specs.Node as node
use Rattle.rdl_seen.specs.Node.{Around, body_of as walked_body, node as node_of, is_ordered, apart_of}
use Rattle.rdl_seen.specs.Slots.{Node, Slots}
use Rattle.rdl_seen.specs.Values.{no_values, register_bits}
use Rattle.rdl_seen.proofs.KeptAt.{kept_are_nodes}
use Rattle.rdl_seen.proofs.Stands.{nodes_have_values}
use Rattle.rdl_seen.proofs.Taken.{stated_are_taken}
use Rattle.node_laws.specs.Laid.{laying, seen_span}
use Rattle.node_laws.specs.Meant.{IsCore, IsSeen}
use Rattle.node_laws.specs.Modes.{seen_mode}
use Rattle.node_laws.specs.Seen.{layouts_seen, members_seen, spots_seen}
use Rattle.node_laws.specs.Sound.{harmless, resets_seen, accesses_seen}
use Rattle.node_laws.proofs.Nodes.{kept_are_seen}
use Rattle.node_laws.proofs.Walks.{walks}
use Rattle.sound_laws.specs.Harmless.{in_register as in_spot, kept_layout, are_apart, spots_by, spots_in, is_harmless, are_harmless, is_unjudged}
use Rattle.sound_laws.specs.Laws.{IsInside}
use Rattle.sound_laws.specs.Search.{IsKeptWhole}
use Rattle.sound_laws.specs.Sound.{are_strides_wide}
use Rattle.sound_laws.proofs.Containers.{is_container}
use Rattle.sound_laws.proofs.Fitting.{fitting_harmless}
use Rattle.sound_laws.proofs.Kept.{kept_suffices}
use Rattle.sound_laws.proofs.Lists.{both, all_append, neither_of}
use Rattle.sound_laws.proofs.Maps.{faultless}
use Rattle.sound_laws.proofs.Named.{own_found}
use Rattle.sound_laws.proofs.Registers.{nothing_below, same_layouts}
use Rattle.sound_nodes.specs.declared.found.Found.{Found}
use Rattle.sound_nodes.specs.declared.found.Found.TheVariants.{Clear, Untold}
use Rattle.sound_nodes.specs.Instances.{instances_from}
use Rattle.sound_nodes.specs.Rows as rows
use Rattle.sound_nodes.specs.Rows.{assigns, defaults_before, defaults_at, component_address, fields, fields_under, fields_if, in_register, are_own_harmless, is_costly, in_container, in_kind, in_component, in_body, below_instance, searched}
use Rattle.sound_nodes.proofs.Assigned.{all-fit}
use Rattle.sound_nodes.proofs.Coming.{enters, fields_go, register-enters, unjudged_behind, unjudged_own}
use Rattle.sound_nodes.proofs.ContainerRows.{TellsBelow, rows-tell}
use Rattle.sound_nodes.proofs.Fields.{register-is}
use Rattle.sound_nodes.proofs.RegisterRows.{AreFieldParts, field-parts, fields-tell, assigned-fields-tell}
use Rattle.sound_nodes.proofs.Soundness.{has-all, same-mode, seen-sound, spans-under, under-mode, same-under}
use Rattle.sound_nodes.proofs.Telling.{Tells}
use Rattle.sound_nodes.proofs.Walked.{StandsAt, stands-at, AreSeenParts, body-seen}

-- ---- Defaults, and where components are written.

before-is : (i : ℕ) (a : Around) (t : Items) → defaults_before i a.defaults t ≡ (around_before laying i a t).defaults
before-is zero a t = refl
before-is (suc i) a no_items = refl
before-is (suc i) a (plain (named s u) rest) = before-is i a rest
before-is (suc i) a (plain (own p v) rest) = before-is i a rest
before-is (suc i) a (plain (default p v) rest) = before-is i (node.with_default p v a) rest
before-is (suc i) a (plain (dynamic u p v) rest) = before-is i a rest
before-is (suc i) a (holder (define n k) body rest) = before-is i (node.with_type n (node.known laying a k body) a) rest
before-is (suc i) a (holder (anonymous s k) body rest) = before-is i a rest

defaults-along : (c : List ℕ) (a : Around) (t : Items) (g : Around) → around_at laying a c t ≡ Some g → defaults_at a.defaults c t ≡ Some g.defaults
defaults-along [] a t g sees = absurd cc
defaults-along (i ∷ []) a t g sees =
    let same : around_before laying i a t ≡ g = cc in ap Some (before-is i a t ∙ ap (λ (z : Around). z.defaults) same)
defaults-along (i ∷ j ∷ c) a t g sees = by (λ inside. defaults-along (j ∷ c) (around_before laying i a t) inside g) (inner i t) sees
  where
    by : ((inside : Items) → around_at laying (around_before laying i a t) (j ∷ c) inside ≡ Some g → defaults_at (around_before laying i a t).defaults (j ∷ c) inside ≡ Some g.defaults)
        → (o : Option Items) → option_and_then (around_at laying (around_before laying i a t) (j ∷ c)) o ≡ Some g
        → option_and_then (defaults_at (defaults_before i a.defaults t) (j ∷ c)) o ≡ Some g.defaults
    by deeper None sees = absurd cc
    by deeper (Some inside) sees = ap (λ v. defaults_at v (j ∷ c) inside) (before-is i a t) ∙ deeper inside sees

address-is : (d : Items) (at c : List ℕ) → component_of d at ≡ Some c → component_address d at ≡ c
address-is d at c e = by (item_at at d) e
  where
    some : (o : Option (List ℕ)) → o ≡ Some c → unwrap_or o at ≡ c
    some None g = absurd cc
    some (Some x) g = cc

    by : (o : Option Item) → option_and_then (held_by d at) o ≡ Some c → unwrap_or (option_and_then (type_from d at) o) at ≡ c
    by None g = absurd cc
    by (Some (Instance s (Named t))) g = some (type_from d at (Instance s (Named t))) g
    by (Some (Instance s (Anonymous x))) g = cc
    by (Some (Define n x)) g = absurd cc
    by (Some (Own p v)) g = absurd cc
    by (Some (Default p v)) g = absurd cc
    by (Some (Dynamic t p v)) g = absurd cc

-- ---- Layouts that are kept whole.

span-small : (s : Span) → s.start ≤ s.end → s.end ≤ 2 ^ 40 → capped_span s ≡ s
span-small s o h =
    let start : capped s.start ≡ s.start = omega (arith, o, h) in
    let end : capped s.end ≡ s.end = omega (arith, h) in
    λ i. record { start = start i; end = end i }

at-most-both : (a b n : ℕ) → max a b ≤ n → (a ≤ n) × (b ≤ n)
at-most-both a b n h = (omega (arith, h), omega (arith, h))

bytes-exact : (around : Option ℕ) (m : Mode) (end : ℕ) (ps : List Placement) → greatest_end (spans_from around m end ps) ≤ 2 ^ 40
    → map capped_span (spans_from around m end ps) ≡ spans_from around m end ps
bytes-exact around m end [] h = refl
bytes-exact around m end (p ∷ ps) h =
    let start = start_of around m end p in
    let t = at-most-both (end_of start p) (greatest_end (spans_from around m (end_of start p) ps)) (2 ^ 40) h in
    let first = span-small (record { start = start; end = end_of start p }) (omega arith) t.0 in
    λ i. first i ∷ bytes-exact around m (end_of start p) ps t.1 i

spans-exact : (k : Kind) (x : Mode) (h : Head) (within : Parts) → h.kind ≡ k → is_container k ≡ true → IsKeptWhole h.kind (layout_of x h within).size
    → map capped_span (layout_of x h within).spans ≡ (layout_of x h within).spans
spans-exact Addrmap x h within e c small =
    let v = values_of h in
    let y = mode_inside h.kind v x in
    let laid : layout_of x h within ≡ container v.alignment y (map (λ (i : Member). i.placement) (map member (layouts y within))) = ap (λ k. laid_out k v y (map member (layouts y within))) e in
    let few : (container v.alignment y (map (λ (i : Member). i.placement) (map member (layouts y within)))).size ≤ 2 ^ 40 =
    subst (λ (l : Layout). l.size ≤ 2 ^ 40) laid (subst (λ k. IsKeptWhole k (layout_of x h within).size) e small) in
    ap (λ (l : Layout). map capped_span l.spans) laid ∙ bytes-exact v.alignment y 0 (map (λ (i : Member). i.placement) (map member (layouts y within))) few ∙ sym (ap (λ (l : Layout). l.spans) laid)
spans-exact Regfile x h within e c small =
    let v = values_of h in
    let y = mode_inside h.kind v x in
    let laid : layout_of x h within ≡ container v.alignment y (map (λ (i : Member). i.placement) (map member (layouts y within))) = ap (λ k. laid_out k v y (map member (layouts y within))) e in
    let few : (container v.alignment y (map (λ (i : Member). i.placement) (map member (layouts y within)))).size ≤ 2 ^ 40 =
    subst (λ (l : Layout). l.size ≤ 2 ^ 40) laid (subst (λ k. IsKeptWhole k (layout_of x h within).size) e small) in
    ap (λ (l : Layout). map capped_span l.spans) laid ∙ bytes-exact v.alignment y 0 (map (λ (i : Member). i.placement) (map member (layouts y within))) few ∙ sym (ap (λ (l : Layout). l.spans) laid)
spans-exact Reg x h within e c small = absurd cc
spans-exact Field x h within e c small = absurd cc

room : (x : Mode) (c : Made) (k : Kind) → c.head.kind ≡ k → IsKeptWhole c.head.kind (layout_of x c.head c.parts).size
    → (c.head.kind ≡ Field) ⊎ (0 + (layout_of x c.head c.parts).size ≤ 2 ^ 40)
room x c Addrmap e small = let few : (layout_of x c.head c.parts).size ≤ 2 ^ 40 = subst (λ k. IsKeptWhole k (layout_of x c.head c.parts).size) e small in inr (omega (arith, few))
room x c Regfile e small = let few : (layout_of x c.head c.parts).size ≤ 2 ^ 40 = subst (λ k. IsKeptWhole k (layout_of x c.head c.parts).size) e small in inr (omega (arith, few))
room x c Reg e small =
    let y = mode_inside c.head.kind (values_of c.head) x in
    let size : (layout_of x c.head c.parts).size ≡ (values_of c.head).regwidth / 8 = ap (λ k. (laid_out k (values_of c.head) y (map member (layouts y c.parts))).size) e in
    let small = bits-small c.head in
    inr (omega (arith, size, small))
room x c Field e small = inl e

-- ---- One component.

-- what is told of a component that stands there
record IsThere (d : Items) (a : List ℕ) (c : Made) (n : Node) : Type 0 where
  around : Around
  sees : around_at laying nothing_around a d ≡ Some around
  slots : n.slots ≡ (walked_body laying around c.head.body).slots
  core : IsCore c n.core

module _ (d : Items) (none : fault_of d ≡ None) where
  is-there : (a : List ℕ) (c : Made) (n : Node) → component d a ≡ Some c → node_at a (walked_body laying nothing_around d).slots ≡ Some n → IsThere d a c n
  is-there a c n holds kept =
      let meant = nodes_have_values laying d a c none holds in
      let same = kept_are_nodes laying d a c meant.around holds meant.there n kept in
      record { around = meant.around; sees = meant.there; slots = ap (λ (z : Node). z.slots) same; core = kept_are_seen d a c none holds n kept }

  -- a search inside components finds their first faults
  abbrev pub Searches : (Bool → seen_modes.Mode → List ℕ → Found) → Type 0
  Searches f =
      (assigned : Bool) (a : List ℕ) (c : Made) (x : Mode) (o : RowsAround) → component d a ≡ Some c → IsInside x c o → IsKeptWhole c.head.kind (layout_of x c.head c.parts).size
      → are_harmless kept_layout c.head c.parts (along d [] o.path) ≡ true → (assigned ≡ false → list_all is_unjudged (along d [] o.path) ≡ true)
      → Tells (f assigned (seen_mode x) a) (first_row_fault d (rows_in d o [] (layout_of x c.head c.parts).spans c.parts))

  sound-below : (c : Made) (x : Mode) (o : RowsAround) → component d c.head.at ≡ Some c → IsInside x c o → IsKeptWhole c.head.kind (layout_of x c.head c.parts).size
      → are_harmless kept_layout c.head c.parts (along d [] o.path) ≡ true → (z : Seen) → IsSeen c z → has_mode z.sound (seen_mode x) ≡ true
      → first_row_fault d (rows_in d o [] (layout_of x c.head c.parts).spans c.parts) ≡ None
  sound-below c x o holds here whole comes z is sound =
      let told = kept_suffices d c.head.at c x none holds (cap-whole c.head.kind (layout_of x c.head c.parts).size whole) (seen-sound d none c.head.at c x holds (ap (λ (s : Modes). has_mode s (seen_mode x)) (sym is.sound) ∙ sound)) in
      faultless d c.head.at c x o none holds told.sound here (sym (told.harmless (along d [] o.path)) ∙ comes)
    where
      cap-whole : (k : Kind) (n : ℕ) → IsKeptWhole k n → IsKeptWhole k (capped n)
      cap-whole Addrmap n e = omega (arith, e)
      cap-whole Regfile n e = omega (arith, e)
      cap-whole Reg n e = tt
      cap-whole Field n e = tt

  module _ (f : Bool → seen_modes.Mode → List ℕ → Found) (deeper : Searches f) (assigned : Bool) (a : List ℕ) (c : Made) (x : Mode) (o : RowsAround) (holds : component d a ≡ Some c)
      (here : IsInside x c o) (whole : IsKeptWhole c.head.kind (layout_of x c.head c.parts).size) (comes : are_harmless kept_layout c.head c.parts (along d [] o.path) ≡ true)
      (unjudged : assigned ≡ false → list_all is_unjudged (along d [] o.path) ≡ true) (n : Node) (there : IsThere d a c n) where
    abbrev body : Items
    body = c.head.body

    abbrev arrived : List Reach
    arrived = along d [] o.path ++ reaches d a 0 body

    abbrev more : Bool
    more = assigned || assigns body

    abbrev goal : Found → Type 0
    goal z = Tells z (first_row_fault d (rows_in d o [] (layout_of x c.head c.parts).spans c.parts))

    come : (at : List ℕ) → body_of at ≡ a → along d [] (o.path ++ at ∷ []) ≡ behind at arrived
    come at e = along-inside d o.path at a c e holds

    all-unjudged : more ≡ false → list_all is_unjudged arrived ≡ true
    all-unjudged e =
        let t = neither_of assigned (assigns body) e in
        all_append is_unjudged (along d [] o.path) (reaches d a 0 body) (unjudged t.0)
        (ap (list_all is_unjudged) (sym (own_found d none a c holds)) ∙ unjudged_own _ 0 body t.1)

    stands : StandsAt c there.around
    stands = stands-at d a c none holds there.around there.sees

    place : stands.place ≡ a
    place = sym stands.at ∙ (as_found d a c holds).place

    parts-seen : AreSeenParts a (instances_from 0 body n.slots) c.parts
    parts-seen =
        subst (λ b. AreSeenParts b (instances_from 0 body n.slots) c.parts) place
        (subst (λ ps. AreSeenParts stands.place (instances_from 0 body n.slots) ps) (sym stands.parts)
        (subst (λ s. AreSeenParts stands.place (instances_from 0 body s) (parts stands.standing stands.place 0 body)) (sym there.slots)
        (body-seen body (Some c.head.kind) stands.standing there.around stands.place stands.same stands.accepted)))

    fit : Fit o.mode 0 (layout_of x c.head c.parts).spans c.parts
    fit =
        subst (λ y. Fit y 0 (layout_of x c.head c.parts).spans c.parts) (sym here.mode)
        (fits-inside x 0 c.head c.parts (registers-hold-fields d a c none holds) (room x c c.head.kind refl whole))

    -- ---- A register.

    register-spans : c.head.kind ≡ Reg → (layout_of Compact c.head c.parts).spans ≡ (layout_of x c.head c.parts).spans
    register-spans k =
        let bits : (y : Mode) → (layout_of y c.head c.parts).spans ≡ bits_from 0 (map (λ (i : Member). i.bits) (map member (layouts y c.parts))) =
        λ y. ap (λ j. (laid_out j (values_of c.head) (mode_inside j (values_of c.head) y) (map member (layouts (mode_inside j (values_of c.head) y) c.parts))).spans) k in
        bits Compact ∙ ap (λ ls. bits_from 0 (map (λ (i : Member). i.bits) (map member ls))) (same_layouts d none a c holds Compact x c.parts k (parts-found d a c holds)) ∙ sym (bits x)

    made-parts : AreFieldParts (parts_of there.around.defaults body n.slots) c.parts
    made-parts =
        let walked = walks body (Some c.head.kind) stands.standing there.around stands.place 0 no_instances stands.same stands.accepted in
        let v = there.around.defaults in
        field-parts (parts_of v body n.slots) c.parts
        (resets_are v body n.slots (parts_of v body n.slots) refl ∙ ap (resets v body) there.slots ∙ walked.resets ∙ ap resets_seen (sym stands.parts))
        (accesses_are v body n.slots (parts_of v body n.slots) refl ∙ ap (accesses v body) there.slots ∙ walked.accesses ∙ ap accesses_seen (sym stands.parts))

    own-harmless : are_own_harmless n ≡ true → are_harmless kept_layout c.head c.parts (reaches d a 0 body) ≡ true
    own-harmless e =
        let walked = walks body (Some c.head.kind) stands.standing there.around stands.place 0 no_instances stands.same stands.accepted in
        let spots : ◌≡◌ {A = Spots} (record { spans = n.core.layouts.compact.spans; is_ordered = n.core.seen.is_ordered }) (spots_seen c) =
        λ i. record { spans = (there.core.layouts i).compact.spans; is_ordered = there.core.seen.is_ordered i } in
        let fits : harmless (spots_seen c) body c.parts no_instances ≡ true =
        ap (λ ps. harmless (spots_seen c) body ps no_instances) stands.parts ∙ sym (walked.harmless (spots_seen c))
        ∙ sym (λ i. contents.are_harmless (spots i) (there.slots i)) ∙ e in
        ap (are_harmless kept_layout c.head c.parts) (sym (own_found d none a c holds)) ∙ fitting_harmless kept_layout d a c holds ∙ all-fit d a c none holds fits

    register-fields : c.head.kind ≡ Reg → (t : Bool) → Tells (fields t a o.bits [] [] (map seen_span (map capped_span (layout_of x c.head c.parts).spans)) (instances_from 0 body n.slots) (parts_of there.around.defaults body n.slots)) (first_row_fault d (rows_in d o [] (layout_of x c.head c.parts).spans c.parts))
        → goal (fields_if t a body n (defaults_at no_values a d))
    register-fields k t tells =
        let bits : o.bits ≡ register_bits n.core.values =
        here.bits k ∙ register-is c.head k n.core.values there.core.whole (stated_are_taken d a c none holds) in
        let spans : n.core.layouts.compact.spans ≡ map seen_span (map capped_span (layout_of x c.head c.parts).spans) =
        ap (λ (l : Layouts). l.compact.spans) there.core.layouts ∙ spans-under Compact c.head c.parts ∙ ap (λ ss. map seen_span (map capped_span ss)) (register-spans k) in
        subst (λ z. goal (fields_if t a body n z)) (sym (defaults-along a nothing_around d there.around there.sees))
        (subst (λ ss. goal (fields t a (register_bits n.core.values) [] [] ss (instances_from 0 body n.slots) (parts_of there.around.defaults body n.slots))) (sym spans)
        (subst (λ b. goal (fields t a b [] [] (map seen_span (map capped_span (layout_of x c.head c.parts).spans)) (instances_from 0 body n.slots) (parts_of there.around.defaults body n.slots))) bits tells))

    few-bits : c.head.kind ≡ Reg → o.bits ≤ 128
    few-bits k = subst (λ z. z ≤ 128) (sym (here.bits k)) (bits-small c.head)

    register-tells : c.head.kind ≡ Reg → goal (in_register more (are_own_harmless n) a body n (defaults_at no_values a d))
    register-tells k = by more refl (are_own_harmless n) refl
      where
        by : (t : Bool) → more ≡ t → (u : Bool) → are_own_harmless n ≡ u → goal (if t && not u then Untold else fields_if t a body n (defaults_at no_values a d))
        by false e u g =
            register-fields k false
            (fields-tell d none a c holds k o (few-bits k) arrived come (all-unjudged e) c.parts (parts-found d a c holds) (instances_from 0 body n.slots) parts-seen
            (parts_of there.around.defaults body n.slots) made-parts [] [] refl (layout_of x c.head c.parts).spans fit)
        by true e false g = tt
        by true e true g =
            let ordered = are_apart (kept_layout Compact c.head c.parts).spans in
            let same : (kept_layout Compact c.head c.parts).spans ≡ map capped_span (layout_of x c.head c.parts).spans = ap (map capped_span) (register-spans k) in
            let all = all_append (is_harmless kept_layout c.head c.parts) (along d [] o.path) (reaches d a 0 body) comes (own-harmless g) in
            let spots : spots_in kept_layout c.head c.parts ≡ map (in_spot ordered) (map capped_span (layout_of x c.head c.parts).spans) =
            ap (λ j. spots_by j (kept_layout Compact c.head c.parts).spans c.parts) k ∙ ap (map (in_spot ordered)) same in
            register-fields k true
            (assigned-fields-tell d none a c holds k o (few-bits k) arrived come ordered c.parts (parts-found d a c holds) (instances_from 0 body n.slots) parts-seen
            (parts_of there.around.defaults body n.slots) made-parts (layout_of x c.head c.parts).spans fit
            (ap (λ ss. fields_go ss c.parts arrived) (sym spots) ∙ register-enters c.head c.parts arrived all) (λ h. ap are_apart (sym same) ∙ h))

    -- ---- An address map or a register file.

    below-tells : (m : seen_modes.Mode) → m ≡ seen_mode o.mode → TellsBelow d a o (below_instance f d more m a)
    below-tells m same y z at s h within before span part_seen is found whole_one comes_one = by (has_mode z.sound m) refl
      where
        r_inside : RowsAround
        r_inside = inside (judged_row d o before span at s h (layout_of o.mode h within))

        unjudged_one : more ≡ false → list_all is_unjudged (along d [] (o.path ++ at ∷ [])) ≡ true
        unjudged_one e = ap (list_all is_unjudged) (come at found.around) ∙ unjudged_behind at arrived (all-unjudged e)

        by : (t : Bool) → has_mode z.sound m ≡ t
            → Tells (if t then Clear else f more m (component_address d (a ++ y.number ∷ [])))
            (first_row_fault d (rows_in d (inside (judged_row d o before span at s h (layout_of o.mode h within))) [] (layout_of o.mode h within).spans within))
        by true e =
            sound-below (record { head = h; parts = within }) o.mode (inside (judged_row d o before span at s h (layout_of o.mode h within))) found.component (record { mode = refl; bits = λ k. refl }) whole_one comes_one z is
            (ap (has_mode z.sound) (sym same) ∙ e)
        by false e =
            let address : component_address d (a ++ y.number ∷ []) ≡ h.at = address-is d (a ++ y.number ∷ []) h.at (ap (component_of d) (sym part_seen.place) ∙ found.is) in
            subst (λ b. Tells (f more m b) (first_row_fault d (rows_in d (inside (judged_row d o before span at s h (layout_of o.mode h within))) [] (layout_of o.mode h within).spans within))) (sym address)
            (subst (λ w. Tells (f more w h.at) (first_row_fault d (rows_in d (inside (judged_row d o before span at s h (layout_of o.mode h within))) [] (layout_of o.mode h within).spans within))) (sym same)
            (deeper more h.at (record { head = h; parts = within }) o.mode (inside (judged_row d o before span at s h (layout_of o.mode h within))) found.component (record { mode = refl; bits = λ k. refl }) whole_one comes_one unjudged_one))

    -- how the instances lie, and the mode under which they stand
    record StandsSo (k : Kind) : Type 0 where
      mode : rows.mode_in k n.core.values (seen_mode x) ≡ seen_mode o.mode
      apart : has_mode n.core.apart (seen_mode x) ≡ true → (are_strides_wide kept_layout o.mode c.parts ≡ true) × (are_apart (kept_layout x c.head c.parts).spans ≡ true)

    stands-so : (k : Kind) → c.head.kind ≡ k → is_container k ≡ true → StandsSo k
    stands-so Addrmap e is_one =
        let v = n.core.values in
        let m = (values_of c.head).addressing in
        let inside_is : seen_mode m ≡ node.mode_inside v = ap (λ z. seen_mode (mode_by z)) (there.core.whole.addressing (ap (on Addressing) e)) ∙ same-mode (node.mode_inside v) in
        let mode_is : o.mode ≡ m = here.mode ∙ ap (λ k. mode_inside k (values_of c.head) x) e in
        let laid : (layout_of x c.head c.parts).spans ≡ (layout_of m c.head c.parts).spans =
        ap (λ k. (laid_out k (values_of c.head) (mode_inside k (values_of c.head) x) (map member (layouts (mode_inside k (values_of c.head) x) c.parts))).spans) e
        ∙ sym (ap (λ k. (laid_out k (values_of c.head) (mode_inside k (values_of c.head) m) (map member (layouts (mode_inside k (values_of c.head) m) c.parts))).spans) e) in
        let apart_is : n.core.apart ≡ all_modes (lay.is_apart_under (layouts_seen c) (members_seen c.parts) (node.mode_inside v)) =
        there.core.apart ∙ ap (λ k. apart_of k (stated_of c.head) (layouts_seen c) (members_seen c.parts)) e ∙ ap (λ w. all_modes (lay.is_apart_under (layouts_seen c) (members_seen c.parts) (node.mode_inside w))) (sym there.core.stated) in
        record {
          mode = sym inside_is ∙ ap seen_mode (sym mode_is);
          apart = λ g.
              let under : (are_strides_wide kept_layout m c.parts && are_apart (kept_layout m c.head c.parts).spans) ≡ true =
              sym (same-under m c.head c.parts) ∙ ap (lay.is_apart_under (layouts_seen c) (members_seen c.parts)) inside_is
              ∙ sym (ap (λ z. has_mode z (seen_mode x)) apart_is ∙ has-all (lay.is_apart_under (layouts_seen c) (members_seen c.parts) (node.mode_inside v)) (seen_mode x)) ∙ g in
              let t = both (are_strides_wide kept_layout m c.parts) (are_apart (kept_layout m c.head c.parts).spans) under in
              (ap (λ y. are_strides_wide kept_layout y c.parts) mode_is ∙ t.0, ap (λ ss. are_apart (map capped_span ss)) laid ∙ t.1);
        }
    stands-so Regfile e is_one =
        let mode_is : o.mode ≡ x = here.mode ∙ ap (λ k. mode_inside k (values_of c.head) x) e in
        let apart_is : n.core.apart ≡ lay.apart_modes (layouts_seen c) (members_seen c.parts) =
        there.core.apart ∙ ap (λ k. apart_of k (stated_of c.head) (layouts_seen c) (members_seen c.parts)) e in
        record {
          mode = ap seen_mode (sym mode_is);
          apart = λ g.
              let under : (are_strides_wide kept_layout x c.parts && are_apart (kept_layout x c.head c.parts).spans) ≡ true =
              sym (same-under x c.head c.parts) ∙ sym (under-mode (layouts_seen c) (members_seen c.parts) (seen_mode x)) ∙ sym (ap (λ z. has_mode z (seen_mode x)) apart_is) ∙ g in
              let t = both (are_strides_wide kept_layout x c.parts) (are_apart (kept_layout x c.head c.parts).spans) under in
              (ap (λ y. are_strides_wide kept_layout y c.parts) mode_is ∙ t.0, t.1);
        }
    stands-so Reg e is_one = absurd cc
    stands-so Field e is_one = absurd cc

    container-tells : (k : Kind) → c.head.kind ≡ k → is_container k ≡ true
        → goal (in_container (below_instance f d more (rows.mode_in k n.core.values (seen_mode x)) a) a (seen_mode x) (rows.mode_in k n.core.values (seen_mode x)) body n)
    container-tells k e is_one = by (are_own_harmless n && not (is_costly (has_mode n.core.apart (seen_mode x)) (layout_under n.core.layouts (seen_mode x)).spans)) refl
      where
        by : (t : Bool) → (are_own_harmless n && not (is_costly (has_mode n.core.apart (seen_mode x)) (layout_under n.core.layouts (seen_mode x)).spans)) ≡ t
            → goal (if t then rows.rows (below_instance f d more (rows.mode_in k n.core.values (seen_mode x)) a) a (has_mode n.core.apart (seen_mode x)) (rows.mode_in k n.core.values (seen_mode x)) [] (layout_under n.core.layouts (seen_mode x)).spans (instances_from 0 body n.slots) else Untold)
        by false is_own = tt
        by true found =
            let is_own = (both (are_own_harmless n) (not (is_costly (has_mode n.core.apart (seen_mode x)) (layout_under n.core.layouts (seen_mode x)).spans)) found).0 in
            let so = stands-so k e is_one in
            let m = rows.mode_in k n.core.values (seen_mode x) in
            let is_filled : is_container c.head.kind ≡ true = ap is_container e ∙ is_one in
            let exact = spans-exact k x c.head c.parts e is_one whole in
            let spans : (layout_under n.core.layouts (seen_mode x)).spans ≡ map seen_span (layout_of x c.head c.parts).spans =
            ap (λ (l : Layouts). (layout_under l (seen_mode x)).spans) there.core.layouts ∙ spans-under x c.head c.parts ∙ ap (map seen_span) exact in
            let all =
            all_append (is_harmless kept_layout c.head c.parts) (along d [] o.path) (reaches d a 0 body) comes (own-harmless is_own) in
            let tells =
            rows-tell d none a c holds is_filled o (below_instance f d more m a) (below-tells m so.mode) (has_mode n.core.apart (seen_mode x)) arrived come c.parts (parts-found d a c holds)
            (instances_from 0 body n.slots) parts-seen [] (layout_of x c.head c.parts).spans fit (enters c.head c.parts is_filled arrived all)
            (λ g. record { strides = (so.apart g).0; spans = ap are_apart (sym exact) ∙ (so.apart g).1; clear = refl }) in
            subst (λ ss. goal (rows.rows (below_instance f d more m a) a (has_mode n.core.apart (seen_mode x)) m [] ss (instances_from 0 body n.slots))) (sym spans)
            (subst (λ w. goal (rows.rows (below_instance f d more m a) a (has_mode n.core.apart (seen_mode x)) w [] (map seen_span (layout_of x c.head c.parts).spans) (instances_from 0 body n.slots))) (sym so.mode) tells)

    kind-tells : (k : Kind) → c.head.kind ≡ k → goal (in_kind (below_instance f d more (rows.mode_in k n.core.values (seen_mode x)) a) d more (seen_mode x) (rows.mode_in k n.core.values (seen_mode x)) a body n k)
    kind-tells Field e = nothing_below d a c none holds e c.parts (parts-found d a c holds) o [] (layout_of x c.head c.parts).spans
    kind-tells Reg e = register-tells e
    kind-tells Addrmap e = container-tells Addrmap e refl
    kind-tells Regfile e = container-tells Regfile e refl

    component-tells : goal (in_component f d assigned (seen_mode x) a body n)
    component-tells =
        subst (λ k. goal (in_kind (below_instance f d more (rows.mode_in k n.core.values (seen_mode x)) a) d more (seen_mode x) (rows.mode_in k n.core.values (seen_mode x)) a body n k)) (sym there.core.seen.kind) (kind-tells c.head.kind refl)

  pub search-tells : (levels : ℕ) → Searches (searched levels d (walked_body laying nothing_around d).slots)
  search-tells zero assigned a c x o holds here whole comes unjudged = tt
  search-tells (suc levels) assigned a c x o holds here whole comes unjudged =
      by (search-tells levels) (nat_lt (length a) 17) (body_at a d) (node_at a (walked_body laying nothing_around d).slots) (as_found d a c holds).body refl
    where
      tree : Slots
      tree = (walked_body laying nothing_around d).slots

      by : Searches (searched levels d (walked_body laying nothing_around d).slots) → (t : Bool) (ob : Option Items) (on : Option Node) → ob ≡ Some c.head.body → node_at a (walked_body laying nothing_around d).slots ≡ on
          → Tells (if t then in_body (searched levels d (walked_body laying nothing_around d).slots) d assigned (seen_mode x) a ob on else Untold) (first_row_fault d (rows_in d o [] (layout_of x c.head c.parts).spans c.parts))
      by deeper false ob on e kept = tt
      by deeper true None on e kept = tt
      by deeper true (Some body) None e kept = tt
      by deeper true (Some body) (Some n) e kept =
          let same : body ≡ c.head.body = cc in
          subst (λ z. Tells (in_component (searched levels d (walked_body laying nothing_around d).slots) d assigned (seen_mode x) a z n) (first_row_fault d (rows_in d o [] (layout_of x c.head c.parts).spans c.parts))) (sym same)
          (component-tells (searched levels d (walked_body laying nothing_around d).slots) deeper assigned a c x o holds here whole comes unjudged n (is-there a c n holds kept))
