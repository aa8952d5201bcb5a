-- What is done with the next item of a body that is renewed.
use Rattle.std.proofs.Common.{◌≡◌, ℕ, zero, suc, ◌+◌, ◌-◌, ◌≤◌, Bool, true, false, List, [], ◌∷◌, ◌++◌, length, Option, Some, ◌⊎◌, inl, inr, refl, sym, ap, subst, ◌∙◌, arith}
use Rattle.std.specs.Prelude.{IfOk, OnOk, Result, Ok, Err, slice_get, unwrap_or}
use Rattle.rdl_tree.specs.Items.{Items}
use Rattle.rdl_tree.specs.declared.description.Component.{Component}
use Rattle.rdl_tree.specs.declared.description.Item.{Item}
use Rattle.rdl_tree.specs.declared.description.Item.TheVariants.{Define, Instance, Own, Default, Dynamic}
use Rattle.rdl_tree.specs.declared.description.Of.TheVariants.{Named, Anonymous}
use Rattle.rdl_tree.specs.declared.shell.Kind.{Kind}
use Rattle.rdl_tree.specs.declared.shell.Kind.TheVariants.{Addrmap, Regfile, Reg, Field}
use Rattle.rdl_tree.specs.declared.shell.Shell.{Shell}
use Rattle.rdl_marks.specs.Describes.{Describes, IsItem}
use Rattle.rdl_marks.specs.InOrder.{IfMoved, AreInOrder, StandInOrder}
use Rattle.rdl_marks.specs.Marks.{Firsts, Marks, no_marks, Traces, no_traces, new_trace, old_trace}
use Rattle.rdl_marks.specs.View.{Trace, new_item, old_item, same_item, list_of}
use Rattle.rdl_marks.specs.Was.{trace_of}
use Rattle.rdl_marks.proofs.From.{IsFrom}
use Rattle.rdl_nodes.specs.declared.node.Slot.{Slot}
use Rattle.rdl_nodes.specs.declared.node.Slot.TheVariants as slots
use Rattle.rdl_nodes.specs.Bodies.{after_default_item}
use Rattle.rdl_nodes.specs.KeptNode.{slot_node}
use Rattle.rdl_nodes.specs.View.{slots_of}
use Rattle.rdl_places.specs.Reached.{instances_at}
use Rattle.rdl_places.specs.Scopes.{Place, around_places, IsScope}
use Rattle.rdl_places.proofs.Scopes.{part_node, own_node, kept_here}
use Rattle.rdl_seen.specs.declared.alert.Alert.{Alert}
use Rattle.rdl_seen.specs.Alert.{no_alert, with_alert, AgreeBut}
use Rattle.rdl_seen.specs.Inside.{Inside, no_instances}
use Rattle.rdl_seen.specs.Layouts.{Laying}
use Rattle.rdl_seen.specs.Meaning.{around_before, kept_at}
use Rattle.rdl_seen.specs.Names.{class_of}
use Rattle.rdl_seen.specs.Node.{Around, body_of, node}
use Rattle.rdl_seen.specs.OneByOne.{slot_of_item, slot_at}
use Rattle.rdl_seen.specs.Slots.{Slots, no_slots, written, type_slot, part_slot, Node}
use Rattle.rdl_renew.specs.declared.done.Done.{Done}
use Rattle.rdl_renew.specs.declared.done.Reach.{Reach}
use Rattle.rdl_renew.specs.Anew.{slot_there}
use Rattle.rdl_renew.specs.Fronts.{front_of, fronts}
use Rattle.rdl_renew.specs.Onward.{DiffersNoMoreBehind}
use Rattle.rdl_renew.specs.Raised.{raised, HasAll, IsSeenAt}
use Rattle.rdl_renew.specs.Renewing.{Renewing, Became, IsReached, AreDone, IsNext, IsMadeAnew, IsSettledAt, part_of_kind, kept_component, written_of, WasLaidOut, BecameComponent, RaisesBehind}
use Rattle.rdl_renew.proofs.DeafSlots.{deaf_slots_are_taken_over, settled_slots_are_deaf, settled_items_stay}
use Rattle.rdl_renew.proofs.FrontSlots.{fronts_are_slots, got_front}
use Rattle.rdl_renew.proofs.OneDone.{around_here, place_behind, done_many, place_is, put_done, one_done}
use Rattle.rdl_renew.proofs.Raised.{from_there, alerts_add_up, has_all_of_it, raised_tells_behind}
use Rattle.rdl_renew.proofs.Raises.{with_none}
use Rattle.rdl_renew.proofs.SideBySide.{is_told, no_more_differs_before}
use Rattle.rdl_renew.proofs.StayedTypes.{stayed_definitions_raise}

-- where a call gave something, what follows from all that it ensures then
pub on_all : {T E A B C D : Type 0} (o : Result T E) → OnOk o A → OnOk o B → OnOk o C → (A → B → C → D) → OnOk o D
on_all (Ok v) a b c f = f a b c
on_all (Err e) a b c f = tt

pub on_both : {T E A D : Type 0} (o : Result T E) → OnOk o A → (A → D) → OnOk o D
on_both (Ok v) a f = f a
on_both (Err e) a f = tt

same_some : {X : Type 0} {x y : X} → ◌≡◌ {A = Option X} (Some x) (Some y) → x ≡ y
same_some e = cc

-- the same of another name for what is told
pub with_next : (lay : Laying) (r : Renewing) (n : ℕ) (d : Done) (y : Item) (t u : Trace) → t ≡ u → IsNext lay r n d y t → IsNext lay r n d y u
with_next lay r n d y t u e next = subst (IsNext lay r n d y) e next

-- ---- An item that is made anew.

not_both : {A : Type 0} (b : Bool) → b ≡ true → b ≡ false → A
not_both true e f = absurd cc
not_both false e f = absurd cc

moved_of : Trace → Bool
moved_of new_item = true
moved_of (old_item number firsts inside) = firsts.is_moved

is_anew : (e : Trace) → IsMadeAnew e → moved_of e ≡ true
unfolding moved_of
is_anew new_item h = refl
is_anew (old_item number firsts inside) h = h

-- nothing is said of what is behind it
nothing_stays : (lay : Laying) (x : Alert) (r : Renewing) (b : Around) (n : ℕ) (e : Trace) → trace_of r.marks n ≡ Some e → IsMadeAnew e → DiffersNoMoreBehind lay x r.marks r.old r.now r.saw b n
unfolding moved_of
nothing_stays lay x r b n e told anew =
    λ k firsts inside z y there unmoved was is but.
    let same : e ≡ old_item k firsts inside = same_some (sym told ∙ there) in
    not_both firsts.is_moved (sym (ap moved_of same) ∙ is_anew e anew) unmoved

-- what reaches the place of the next item
pub reached_there : (lay : Laying) (r : Renewing) (n : ℕ) (d : Done) (there : List Place) → AreDone lay r n d → IsScope lay r.places → there ≡ place_behind r d ∷ r.places
    → IsScope lay there × (d.reach.defaults ≡ (around_places lay there).defaults)
reached_there lay r n d there done scope here =
    let m = done_many lay r n d done in (
      subst (IsScope lay) (sym here) (place_is lay r n d done scope),
      done.defaults ∙ (ap (λ k. (around_before lay k (around_here lay r) r.now).defaults) (sym m) ∙ ap (λ ps. (around_places lay ps).defaults) (sym here)),
    )

pub new_done : (lay : Laying) (r : Renewing) (n : ℕ) (d e : Done) (y : Item) (t : Trace) (s : Slots) (x : Alert) (there : List Place) → there ≡ place_behind r d ∷ r.places → IsNext lay r n d y t → IsMadeAnew t
    → (IsScope lay there → d.reach.defaults ≡ (around_places lay there).defaults → s ≡ slot_there lay there y) → fronts e.slots.items ≡ fronts d.slots.items ++ s ∷ []
    → e.reach.defaults ≡ after_default_item y d.reach.defaults → e.reach.alert ≡ with_alert d.reach.alert x → AreDone lay r (suc n) e
new_done lay r n d e y t s x there here next anew made slots defaults alert =
    let reached = reached_there lay r n d there next.done next.scope here in
    put_done lay r n d e y s x next.became next.done next.there (made reached.0 reached.1 ∙ ap (λ ps. slot_there lay ps y) here) slots defaults alert
    (nothing_stays lay (with_alert d.reach.alert x) r (around_here lay r) n t next.told anew)

-- ---- An item that stayed.

either_way : {A B C : Type 0} (b : Bool) → (A → C) → (B → C) → IfMoved b A B → C
either_way true f g h = f h
either_way false f g h = g h

-- what is told of one inside is in order, too
one_in_order : (least : ℕ) (t : Traces) (behind i n : ℕ) (firsts : Firsts) (inside : Marks) → StandInOrder least t behind → slice_get (list_of t) i ≡ Some (old_item n firsts inside) → AreInOrder inside
one_in_order least no_traces behind i n firsts inside h e = absurd cc
one_in_order least (new_trace rest) behind zero n firsts inside h e = absurd cc
one_in_order least (new_trace rest) behind (suc i) n firsts inside h e = one_in_order least rest behind i n firsts inside h e
one_in_order least (old_trace k f is from gone items rest) behind zero n firsts inside h e =
    let same : ◌≡◌ {A = Marks} (record { traces = is; behind = from; gone = gone; items = items }) inside = cc in
    subst AreInOrder same h.0
one_in_order least (old_trace k f is from gone items rest) behind (suc i) n firsts inside h e =
    either_way f.is_moved (λ g. one_in_order least rest behind i n firsts inside g e) (λ g. one_in_order (k + 1) rest behind i n firsts inside g.1 e) h.1

inside_of : Trace → Marks
inside_of new_item = no_marks
inside_of (old_item number firsts inside) = inside

pub inside_in_order : (m : Marks) (i n : ℕ) (firsts : Firsts) (inside : Marks) → AreInOrder m → trace_of m i ≡ Some (old_item n firsts inside) → AreInOrder inside
unfolding inside_of
inside_in_order m i n firsts inside h e = by (is_told m i (old_item n firsts inside) e).is
  where
    by : (slice_get (list_of m.traces) i ≡ Some (old_item n firsts inside)) ⊎ ((length (list_of m.traces) ≤ i) × (same_item (m.behind + (i - length (list_of m.traces))) ≡ old_item n firsts inside)) → AreInOrder inside
    by (inl g) = one_in_order 0 m.traces m.behind i n firsts inside h g
    by (inr g) = subst AreInOrder (ap inside_of g.1) (let none : 0 ≤ 0 = omega arith in none)

-- what stood there before, of which the item became: of its component, if that is kept, became the one that is there now
pub record WasThere (old : Items) (n : ℕ) (inside : Marks) (y : Item) : Type 0 where
  pub item : Item
  pub is : IsItem n old item
  pub described : (c : Component) → kept_component y ≡ Some c → (b : Items) × (kept_component item ≡ Some (record { kind = c.kind; body = b })) × Describes inside b c.body

-- a part became another one, as marks tell
part_was : (inside : Marks) (k : Kind) (b body : Items) → Describes inside b body → (d : Component) → part_of_kind k (record { kind = k; body = body }) ≡ Some d
    → (z : Items) × (part_of_kind k (record { kind = k; body = b }) ≡ Some (record { kind = d.kind; body = z })) × Describes inside z d.body
part_was inside Addrmap b body h d e = subst (λ (y : Component). (z : Items) × (◌≡◌ {A = Option Component} (Some (record { kind = Addrmap; body = b })) (Some (record { kind = y.kind; body = z }))) × Describes inside z y.body) (same_some e) (b, refl, h)
part_was inside Regfile b body h d e = subst (λ (y : Component). (z : Items) × (◌≡◌ {A = Option Component} (Some (record { kind = Regfile; body = b })) (Some (record { kind = y.kind; body = z }))) × Describes inside z y.body) (same_some e) (b, refl, h)
part_was inside Reg b body h d e = subst (λ (y : Component). (z : Items) × (◌≡◌ {A = Option Component} (Some (record { kind = Reg; body = b })) (Some (record { kind = y.kind; body = z }))) × Describes inside z y.body) (same_some e) (b, refl, h)
part_was inside Field b body h d e = absurd cc

pub was_there : (old : Items) (n : ℕ) (firsts : Firsts) (inside : Marks) (y : Item) → IsFrom old (old_item n firsts inside) y → WasThere old n inside y
was_there old n firsts inside (Define k c) h =
    record {
      item = Define (unwrap_or firsts.defined k) (record { kind = c.kind; body = h.0.0 });
      is = h.0.1;
      described = λ d e.
          let described : Describes inside h.0.0 c.body = record { items = h.0.2; gone = h.0.3; once = h.0.4 } in
          subst (λ (y : Component). (z : Items) × (◌≡◌ {A = Option Component} (Some (record { kind = c.kind; body = h.0.0 })) (Some (record { kind = y.kind; body = z }))) × Describes inside z y.body) (same_some e) (h.0.0, refl, described);
    }
was_there old n firsts inside (Instance s (Named t)) h = record { item = _; is = h.0; described = λ d e. absurd cc }
was_there old n firsts inside (Instance s (Anonymous c)) h =
    record {
      item = Instance (unwrap_or firsts.shell s) (Anonymous (record { kind = c.kind; body = h.0.0 }));
      is = h.0.1;
      described = λ d e. part_was inside c.kind h.0.0 c.body (record { items = h.0.2; gone = h.0.3; once = h.0.4 }) d e;
    }
was_there old n firsts inside (Own p v) h = record { item = _; is = h.0; described = λ d e. absurd cc }
was_there old n firsts inside (Default p v) h = record { item = _; is = h.0; described = λ d e. absurd cc }
was_there old n firsts inside (Dynamic t p v) h = record { item = _; is = h.0; described = λ d e. absurd cc }

-- what is kept of an item with a component
part_kept : (lay : Laying) (a : Around) (k : Kind) (body : Items) (c : Component) → part_of_kind k (record { kind = k; body = body }) ≡ Some c → part_node lay a k body ≡ Some (node lay a c.kind c.body)
part_kept lay a Addrmap body c e = ap (λ (y : Component). Some (node lay a y.kind y.body)) (same_some e)
part_kept lay a Regfile body c e = ap (λ (y : Component). Some (node lay a y.kind y.body)) (same_some e)
part_kept lay a Reg body c e = ap (λ (y : Component). Some (node lay a y.kind y.body)) (same_some e)
part_kept lay a Field body c e = absurd cc

own_kept : (lay : Laying) (a : Around) (y : Item) (c : Component) → kept_component y ≡ Some c → own_node lay a y ≡ Some (node lay a c.kind c.body)
own_kept lay a (Define k d) c e = ap (λ (y : Component). Some (node lay a y.kind y.body)) (same_some e)
own_kept lay a (Instance s (Named t)) c e = absurd cc
own_kept lay a (Instance s (Anonymous d)) c e = part_kept lay a d.kind d.body c e
own_kept lay a (Own p v) c e = absurd cc
own_kept lay a (Default p v) c e = absurd cc
own_kept lay a (Dynamic t p v) c e = absurd cc

part_slot_is : (lay : Laying) (a : Around) (m : Inside) (s : Shell) (k : Kind) (body : Items) (c : Component) → part_of_kind k (record { kind = k; body = body }) ≡ Some c
    → slot_of_item lay a m (Instance s (Anonymous (record { kind = k; body = body }))) ≡ written part_slot (node lay a c.kind c.body).core (node lay a c.kind c.body).slots no_slots
part_slot_is lay a m s Addrmap body c e = ap (λ (y : Component). written part_slot (node lay a y.kind y.body).core (node lay a y.kind y.body).slots no_slots) (same_some e)
part_slot_is lay a m s Regfile body c e = ap (λ (y : Component). written part_slot (node lay a y.kind y.body).core (node lay a y.kind y.body).slots no_slots) (same_some e)
part_slot_is lay a m s Reg body c e = ap (λ (y : Component). written part_slot (node lay a y.kind y.body).core (node lay a y.kind y.body).slots no_slots) (same_some e)
part_slot_is lay a m s Field body c e = absurd cc

-- the slot of an item with a component
pub slot_of_component : (lay : Laying) (ps : List Place) (y : Item) (c : Component) → kept_component y ≡ Some c
    → slot_there lay ps y ≡ written (written_of y) (node lay (around_places lay ps) c.kind c.body).core (node lay (around_places lay ps) c.kind c.body).slots no_slots
slot_of_component lay ps (Define k d) c e =
    ap (λ (y : Component). written (type_slot (class_of k)) (node lay (around_places lay ps) y.kind y.body).core (node lay (around_places lay ps) y.kind y.body).slots no_slots) (same_some e)
slot_of_component lay ps (Instance s (Named t)) c e = absurd cc
slot_of_component lay ps (Instance s (Anonymous d)) c e = part_slot_is lay (around_places lay ps) (instances_at lay ps) s d.kind d.body c e
slot_of_component lay ps (Own p v) c e = absurd cc
slot_of_component lay ps (Default p v) c e = absurd cc
slot_of_component lay ps (Dynamic t p v) c e = absurd cc

-- so it is that of its component's node, put as what it stands there
pub slot_made : {E : Type 0} (lay : Laying) (ps : List Place) (y : Item) (c : Component) (o : Result Slot E) (n : Node) → kept_component y ≡ Some c → n ≡ node lay (around_places lay ps) c.kind c.body
    → IfOk o (λ x. front_of x ≡ written (written_of y) n.core n.slots no_slots) → IfOk o (λ x. front_of x ≡ slot_there lay ps y)
slot_made lay ps y c (Ok x) n is same made = made ∙ ((λ j. written (written_of y) (same j).core (same j).slots no_slots) ∙ sym (slot_of_component lay ps y c is))
slot_made lay ps y c (Err e) n is same made = tt

-- what was kept of it
pub component_was : (lay : Laying) (saw : Around) (old : Items) (n : ℕ) (inside : Marks) (y : Item) (slots : Slots) (kept : Option Node) (was : WasThere old n inside y) → slots ≡ (body_of lay saw old).slots → kept ≡ kept_at n slots
    → (k : Node) (c : Component) → kept ≡ Some k → (f : kept_component y ≡ Some c) → k ≡ node lay (around_before lay n saw old) c.kind (was.described c f).0
component_was lay saw old n inside y slots kept was of there k c e f =
    let d = was.described c f in
    let a = around_before lay n saw old in
    same_some (sym e ∙ (there ∙ (ap (kept_at n) of ∙ (kept_here lay n saw no_instances old was.item was.is ∙ own_kept lay a was.item (record { kind = c.kind; body = d.0 }) d.1))))

-- what became of the component of what stood there
pub component_became : (lay : Laying) (saw : Around) (old : Items) (n : ℕ) (inside : Marks) (y : Item) (slots : Slots) (kept : Option Node) (was : WasThere old n inside y) → AreInOrder inside → slots ≡ (body_of lay saw old).slots
    → kept ≡ kept_at n slots → (k : Node) (c : Component) → kept ≡ Some k → kept_component y ≡ Some c
    → (b : Items) × Became lay (around_before lay n saw old) k.slots inside b c.body × (kept_component was.item ≡ Some (record { kind = c.kind; body = b }))
    × WasLaidOut lay (around_before lay n saw old) c.kind b k.core
component_became lay saw old n inside y slots kept was ordered of there k c e f =
    let d = was.described c f in
    let same = component_was lay saw old n inside y slots kept was of there k c e f in (
      d.0,
      record { describes = d.2; in_order = ordered; kept = ap (λ (z : Node). z.slots) same },
      d.1,
      record {
        own = ap (λ (z : Node). z.core.own) same;
        own_weight = ap (λ (z : Node). z.core.own_weight) same;
        values = ap (λ (z : Node). z.core.values) same;
        layouts = ap (λ (z : Node). z.core.layouts) same;
        apart = ap (λ (z : Node). z.core.apart) same;
      },
    )

pub became_component : (lay : Laying) (saw : Around) (old : Items) (n : ℕ) (inside : Marks) (y : Item) (slots : Slots) (kept : Option Node) → WasThere old n inside y → AreInOrder inside → slots ≡ (body_of lay saw old).slots
    → kept ≡ kept_at n slots → BecameComponent lay (around_before lay n saw old) kept inside y
became_component lay saw old n inside y slots kept was ordered of there = λ k c e f.
    let z = component_became lay saw old n inside y slots kept was ordered of there k c e f in
    (z.0, z.1, z.3)

-- ---- What an item raises that stayed.

node_of_slot : (s : Slot) → slot_node s ≡ kept_at 0 (front_of s)
node_of_slot slots.Own = refl
node_of_slot (slots.Default p) = refl
node_of_slot (slots.Dynamic v) = refl
node_of_slot (slots.Field f) = refl
node_of_slot (slots.Named class s) = refl
node_of_slot (slots.Define class s n) = refl
node_of_slot (slots.Part n) = refl

some_item : (x y : Item) → ◌≡◌ {A = Option Item} (Some x) (Some y) → x ≡ y
some_item x y e = cc

number_of : Trace → ℕ
number_of new_item = 0
number_of (old_item number firsts inside) = number

-- so much is seen of a definition that stayed
seen_at : (lay : Laying) (r : Renewing) (n number : ℕ) (firsts : Firsts) (inside : Marks) (y : Item) (a x : Alert) (kept new : Option Node) → IsItem n r.now y → trace_of r.marks n ≡ Some (old_item number firsts inside)
    → r.slots ≡ (body_of lay r.saw r.old).slots → kept ≡ kept_at number r.slots → ((name : List ℕ) (d : Component) → y ≡ Define name d → new ≡ Some (node lay (around_before lay n (around_here lay r) r.now) d.kind d.body))
    → RaisesBehind x y kept new → IsSeenAt lay (with_alert a x) r.marks r.old r.now r.saw (around_here lay r) n
unfolding number_of
seen_at lay r n number firsts inside y a x kept new there told of keeps made raises = λ k fs ins name c d trace same was is but.
    let here : y ≡ Define name d = some_item y (Define name d) (sym there ∙ is) in
    let at : number ≡ k = ap number_of (same_some (sym told ∙ trace)) in
    let before : kept ≡ Some (node lay (around_before lay k r.saw r.old) c.kind c.body) =
    keeps ∙ (ap (λ j. kept_at j r.slots) at ∙ (ap (kept_at k) of ∙ kept_here lay k r.saw no_instances r.old (Define name c) was)) in
    let now = made name d here in
    let raised : RaisesBehind x (Define name d) kept new = subst (λ z. RaisesBehind x z kept new) here raises in
    stayed_definitions_raise lay (with_alert a x) (around_before lay k r.saw r.old) (around_before lay n (around_here lay r) r.now) name c d raised.0 false
    (subst (HasAll (with_alert a x)) raised.1 (alerts_add_up a x).1)
    (λ e. raised.2 e (node lay (around_before lay k r.saw r.old) c.kind c.body) (node lay (around_before lay n (around_here lay r) r.now) d.kind d.body) before now)
    (λ e f. absurd (let no : false ≡ true = f in cc))

-- what reaches its place
pub reached_stayed : (lay : Laying) (r : Renewing) (n : ℕ) (d : Done) (y : Item) (number : ℕ) (firsts : Firsts) (inside : Marks) (there : List Place)
    → there ≡ place_behind r d ∷ r.places → IsNext lay r n d y (old_item number firsts inside) → firsts.is_moved ≡ false → IsReached lay there (around_before lay number r.saw r.old) d.reach
reached_stayed lay r n d y number firsts inside there here next unmoved =
    let b = around_here lay r in
    let two = reached_there lay r n d there next.done next.scope here in
    let same_place : around_before lay n b r.now ≡ around_places lay there = ap (λ k. around_before lay k b r.now) (sym (done_many lay r n d next.done)) ∙ ap (around_places lay) (sym here) in
    record {
      scope = two.0;
      defaults = two.1;
      agree =
          subst (AgreeBut d.reach.alert (around_before lay number r.saw r.old)) same_place
          (no_more_differs_before lay d.reach.alert r.marks r.old r.now r.saw b n next.became.describes next.became.in_order next.done.tells next.done.agree n number firsts inside y (let l : n ≤ n = omega arith in l)
          next.there next.told unmoved);
    }

-- ---- One more.

pub stayed_done : (lay : Laying) (r : Renewing) (n : ℕ) (d e : Done) (y : Item) (number : ℕ) (firsts : Firsts) (inside : Marks) (s : Slot) (x : Alert) (kept : Option Node) (there : List Place)
    → there ≡ place_behind r d ∷ r.places → IsNext lay r n d y (old_item number firsts inside) → firsts.is_moved ≡ false → kept ≡ kept_at number r.slots
    → (BecameComponent lay (around_before lay number r.saw r.old) kept inside y → IsReached lay there (around_before lay number r.saw r.old) d.reach → front_of s ≡ slot_there lay there y)
    → RaisesBehind x y kept (slot_node s) → fronts e.slots.items ≡ fronts d.slots.items ++ front_of s ∷ []
    → e.reach.defaults ≡ after_default_item y d.reach.defaults → e.reach.alert ≡ with_alert d.reach.alert x → AreDone lay r (suc n) e
stayed_done lay r n d e y number firsts inside s x kept there here next unmoved keeps made raises slots defaults alert =
    put_done lay r n d e y (front_of s) x next.became next.done next.there front slots defaults alert
    (raised_tells_behind lay both r.marks r.old r.now r.saw b n next.became.describes
    (has_all_of_it both d.reach.alert (raised r.marks r.now) (alerts_add_up d.reach.alert x).0 next.done.raised)
    (seen_at lay r n number firsts inside y d.reach.alert x kept (slot_node s) next.there next.told next.became.kept keeps new raises))
  where
    b : Around
    b = around_here lay r

    both : Alert
    both = with_alert d.reach.alert x

    saw : Around
    saw = around_before lay number r.saw r.old

    many : length d.slots.items ≡ n
    many = done_many lay r n d next.done

    reached : IsReached lay there saw d.reach
    reached = reached_stayed lay r n d y number firsts inside there here next unmoved

    became : BecameComponent lay saw kept inside y
    became =
        became_component lay r.saw r.old number inside y r.slots kept
        (was_there r.old number firsts inside y (from_there r.marks r.old r.now n (old_item number firsts inside) y next.became.describes next.there next.told))
        (inside_in_order r.marks n number firsts inside next.became.in_order next.told) next.became.kept keeps

    front : front_of s ≡ slot_there lay (place_behind r d ∷ r.places) y
    front = made became reached ∙ ap (λ ps. slot_there lay ps y) here

    new : (name : List ℕ) (c : Component) → y ≡ Define name c → slot_node s ≡ Some (node lay (around_before lay n b r.now) c.kind c.body)
    new name c is =
        node_of_slot s ∙ (ap (kept_at 0) (front ∙ ap (slot_there lay (place_behind r d ∷ r.places)) is) ∙ ap (λ k. Some (node lay (around_before lay k b r.now) c.kind c.body)) many)

-- ---- One more that is passed over.

pub kept_done : (lay : Laying) (r : Renewing) (n : ℕ) (d e : Done) (y : Item) (number : ℕ) (s : Slot) (xs : List Slot) → IsNext lay r n d y (same_item number) → r.slots ≡ slots_of xs → IsSettledAt d.reach.alert xs number s
    → fronts e.slots.items ≡ fronts d.slots.items ++ front_of s ∷ [] → e.reach ≡ d.reach → AreDone lay r (suc n) e
kept_done lay r n d e y number s xs next of settled slots reach =
    one_done lay r n d e (front_of s) no_alert next.became next.done slots
    (deaf_slots_are_taken_over lay d.reach.alert r.marks r.old r.now r.saw b n next.became.describes next.became.in_order next.done.tells next.done.agree n number y (front_of s) (let l : n ≤ n = omega arith in l)
    next.there next.told there (settled_slots_are_deaf d.reach.alert (front_of s) settled.settled))
    (ap (λ (z : Reach). z.defaults) reach ∙ (next.done.defaults ∙ sym stay.1))
    (ap (λ (z : Reach). z.alert) reach ∙ sym (with_none d.reach.alert))
    (subst (λ z. DiffersNoMoreBehind lay z r.marks r.old r.now r.saw b n) (sym (with_none d.reach.alert)) stay.0)
  where
    b : Around
    b = around_here lay r

    there : slot_at number (body_of lay r.saw r.old).slots ≡ Some (front_of s)
    there = ap (slot_at number) (sym next.became.kept ∙ of) ∙ (fronts_are_slots xs number ∙ got_front xs number s settled.there)

    stay : DiffersNoMoreBehind lay d.reach.alert r.marks r.old r.now r.saw b n × ((around_before lay (suc n) b r.now).defaults ≡ (around_before lay n b r.now).defaults)
    stay = settled_items_stay lay d.reach.alert r.marks r.old r.now r.saw b next.became.describes n number y (front_of s) next.there next.told there settled.settled
