-- Nothing is placed for a component out of reach: its instances are alike, and its values the same.
use Rattle.std.proofs.Common.{◌≡◌, ℕ, zero, suc, ◌+◌, Bool, true, false, ◌&&◌, ◌||◌, if◌then◌else◌, List, [], ◌∷◌, ◌++◌, length, Option, Some, None, unwrap_or, refl, sym, ap, subst, ◌∙◌, arith}
use Rattle.std.specs.Prelude.{slice_get, option_and_then}
use Rattle.std.specs.Option.{option_eq}
use Rattle.std.proofs.lemmas.List.{append-nil}
use Rattle.std.proofs.lemmas.Bool.{or_parts, and_from, or_right, eq-eqb}
use Rattle.std.proofs.lemmas.Option.{same_Some}
use Rattle.rdl_tree.specs.Address.{body_at}
use Rattle.rdl_tree.specs.Items.{Items}
use Rattle.rdl_tree.specs.View.{list_of}
use Rattle.rdl_tree.specs.declared.description.Component.{Component}
use Rattle.rdl_tree.specs.declared.description.Item.{Item}
use Rattle.rdl_tree.specs.declared.description.Item.TheVariants.{Define, Instance, Own, Default, Dynamic}
use Rattle.rdl_tree.specs.declared.description.Of.{Of}
use Rattle.rdl_tree.specs.declared.description.Of.TheVariants.{Named, Anonymous}
use Rattle.rdl_tree.specs.declared.shell.Shell.{Shell}
use Rattle.rdl_scope.specs.Closed.{Parts, Made, component, with_made, found_part}
use Rattle.rdl_scope.specs.Types.{held_by, component_of, items_in}
use Rattle.rdl_scope.proofs.AsFound.{as_found}
use Rattle.rdl_scope.proofs.Levelled.{item-deeper, body-inside}
use Rattle.rdl_marks.specs.Describes.{Describes, IsItem}
use Rattle.rdl_marks.specs.InOrder.{AreInOrder}
use Rattle.rdl_marks.specs.Marks.{Firsts, Marks}
use Rattle.rdl_marks.specs.View.{old_item}
use Rattle.rdl_marks.specs.Was.{trace_of}
use Rattle.rdl_marks.proofs.From.{IsFrom}
use Rattle.rdl_seen.specs.declared.mode.Mode.{Mode}
use Rattle.rdl_seen.specs.declared.mode.Mode.TheVariants.{Compact, Regalign, Fullalign}
use Rattle.rdl_seen.specs.declared.seen.ByMode.{ByMode}
use Rattle.rdl_seen.specs.declared.seen.Seen.{Seen}
use Rattle.rdl_seen.specs.declared.values.Access.{Access}
use Rattle.rdl_seen.specs.declared.values.Access.TheVariants.{OnlyReads, OnlyWrites, Other}
use Rattle.rdl_seen.specs.declared.values.Values.{Values}
use Rattle.rdl_seen.specs.Contents.{field_of}
use Rattle.rdl_seen.specs.Fields as fields
use Rattle.rdl_seen.specs.Fields.{of_field, of_seen, of_none, says_bits}
use Rattle.rdl_seen.specs.Layouts.{Layouts, sizes, accesses}
use Rattle.rdl_seen.specs.Meaning.{stated_of, node_at}
use Rattle.rdl_seen.specs.Slots.{Slots, Node}
use Rattle.rdl_seen.specs.Values.{own_values}
use Rattle.rdl_renew.specs.AlikeSlots.{of_at, same_by_mode, takes_same, says_same, are_alike}
use Rattle.rdl_reach.specs.Before.{address_before}
use Rattle.rdl_reach.specs.EditedBodies.{is_edited_at, any_has_another_type, edits}
use Rattle.node_laws.specs.Kept.{is_field}
use Rattle.rdl_nodes.specs.Placed.{placed_once, same_mode, same_access, same_stated, same_values, placed_over}
use Rattle.rdl_reach.specs.Reach.{leads_there}
use Rattle.rdl_reach.proofs.AlikeBodies.{bodies_alike}
use Rattle.rdl_reach.proofs.Instances.{spot_of, spots, found, instances_found, IsBeside}
use Rattle.rdl_reach.proofs.Leading.{LeadAlike, leads, component_there}
use Rattle.rdl_reach.proofs.OutOfReach.{AreAlike, by_component, none_other, stood_as, all_alike}
use Rattle.rdl_reach.proofs.OwnWidth.{same_own_width}
use Rattle.rdl_reach.proofs.Placed.{IsUnplaced}
use Rattle.rdl_renew.proofs.Raised.{from_there}
use Rattle.rdl_renew.proofs.SideBySide.{next_within}
use Rattle.rdl_reach.proofs.States.{StateTheSame, stated_same}
use Rattle.rdl_reach.proofs.Stood.{StoodAt, stood as stood_at}

-- ---- What is the same as itself.

stated_itself : (o : Option ℕ) → same_stated o o ≡ true
stated_itself None = refl
stated_itself (Some n) = eq-eqb n n refl

mode_itself : (o : Option Mode) → option_eq same_mode o o ≡ true
mode_itself None = refl
mode_itself (Some Compact) = refl
mode_itself (Some Regalign) = refl
mode_itself (Some Fullalign) = refl

access_itself : (o : Option Access) → option_eq same_access o o ≡ true
access_itself None = refl
access_itself (Some OnlyReads) = refl
access_itself (Some OnlyWrites) = refl
access_itself (Some Other) = refl

values_itself : (v : Values) → same_values v v ≡ true
values_itself v =
    let addressing = mode_itself v.addressing in
    let sw = access_itself v.sw in
    let regwidth = stated_itself v.regwidth in
    let accesswidth = stated_itself v.accesswidth in
    let fieldwidth = stated_itself v.fieldwidth in
    let alignment = stated_itself v.alignment in
    let reset = stated_itself v.reset in
    λ i. (addressing i && sw i) && (regwidth i && accesswidth i && fieldwidth i) && (alignment i && reset i)

by_mode_itself : (n : ByMode) → same_by_mode n n ≡ true
by_mode_itself n =
    let compact = eq-eqb n.compact n.compact refl in
    let regalign = eq-eqb n.regalign n.regalign refl in
    let fullalign = eq-eqb n.fullalign n.fullalign refl in
    λ i. compact i && regalign i && fullalign i

-- ---- What is kept of a description.

-- of an instance its component is seen, which is as large as these layouts say
pub record IsLarge (l : Layouts) (o : fields.Of) : Type 0 where
  pub seen : Seen
  pub is : o ≡ of_seen seen
  pub size : seen.size ≡ sizes l
  pub widest : seen.widest ≡ accesses l

-- the node of each component has what is stated of it as its values, and its slots have what its layouts take of its instances
pub record IsLaid (d : Items) (kept : Slots) (laid : Made → Layouts) : Type 0 where
  pub values : (a : List ℕ) (c : Made) (x : Node) → component d a ≡ Some c → node_at a kept ≡ Some x → x.core.values ≡ stated_of c.head
  pub empty : (a : List ℕ) (c : Made) (x : Node) → component d a ≡ Some c → node_at a kept ≡ Some x → is_field c.head.kind ≡ true → placed_once x.core.layouts ≡ 0
  pub fields :
      (a : List ℕ) (c : Made) (x : Node) (i : ℕ) (s : Shell) (k : Component) → component d a ≡ Some c → node_at a kept ≡ Some x → IsItem i c.head.body (Instance s (Anonymous k)) → is_field k.kind ≡ true
      → of_at i x.slots ≡ of_field (field_of k.body)
  pub parts :
      (a : List ℕ) (c : Made) (x : Node) (i : ℕ) (s : Shell) (k : Component) (h : Made) → component d a ≡ Some c → node_at a kept ≡ Some x → IsItem i c.head.body (Instance s (Anonymous k)) → is_field k.kind ≡ false
      → component d (a ++ i ∷ []) ≡ Some h → IsLarge (laid h) (of_at i x.slots)
  pub types :
      (a : List ℕ) (c : Made) (x : Node) (i : ℕ) (s : Shell) (t p : List ℕ) (h : Made) → component d a ≡ Some c → node_at a kept ≡ Some x → IsItem i c.head.body (Instance s (Named t))
      → component_of d (a ++ i ∷ []) ≡ Some p → component d p ≡ Some h → IsLarge (laid h) (of_at i x.slots)
  pub nothing :
      (a : List ℕ) (c : Made) (x : Node) (i : ℕ) (s : Shell) (t : List ℕ) → component d a ≡ Some c → node_at a kept ≡ Some x → IsItem i c.head.body (Instance s (Named t))
      → component_of d (a ++ i ∷ []) ≡ None → of_at i x.slots ≡ of_none

large_same : (l n : Layouts) (o p : fields.Of) (s : Shell) → IsLarge l o → IsLarge n p → l ≡ n → takes_same true s o p ≡ true
large_same l n o p s f g e =
    let size = f.size ∙ ap sizes e ∙ sym g.size in
    let widest = f.widest ∙ ap accesses e ∙ sym g.widest in
    let sizes_are : same_by_mode f.seen.size g.seen.size ≡ true = ap (same_by_mode f.seen.size) (sym size) ∙ by_mode_itself f.seen.size in
    let accesses_are : same_by_mode f.seen.widest g.seen.widest ≡ true = ap (same_by_mode f.seen.widest) (sym widest) ∙ by_mode_itself f.seen.widest in
    (λ i. takes_same true s (f.is i) (g.is i)) ∙ and_from (same_by_mode f.seen.size g.seen.size) (same_by_mode f.seen.widest g.seen.widest) sizes_are accesses_are

fields_same : (b t : Items) (s : Shell) (o p : fields.Of) → o ≡ of_field (field_of b) → p ≡ of_field (field_of t) → (own_values b).fieldwidth ≡ (own_values t).fieldwidth → takes_same true s o p ≡ true
fields_same b t s o p f g e =
    let widths : same_stated (own_values b).fieldwidth (own_values t).fieldwidth ≡ true = ap (same_stated (own_values b).fieldwidth) (sym e) ∙ stated_itself (own_values b).fieldwidth in
    (λ i. takes_same true s (f i) (g i))
    ∙ or_right (says_bits s) (same_stated (own_values b).fieldwidth (own_values t).fieldwidth && true) (and_from (same_stated (own_values b).fieldwidth (own_values t).fieldwidth) true widths refl)

-- ---- An instance of a body that leads to no edited one.

module _ (edited : List ℕ → Bool) (d : Items) (b : List ℕ) where
  rest_out : (at : List ℕ) (s : Shell) (o : Option Made) (rest : Parts) → leads_there edited (with_made at s o rest) ≡ false → leads_there edited rest ≡ false
  rest_out at s None rest out = out
  rest_out at s (Some h) rest out = (or_parts (edited h.head.at || leads_there edited h.parts) (leads_there edited rest) out).1

  first_out : (at : List ℕ) (s : Shell) (rest : Parts) (p : List ℕ) (h : Made) → component_of d at ≡ Some p → component d p ≡ Some h → leads_there edited (found_part d at s rest) ≡ false
      → (edited h.head.at ≡ false) × (leads_there edited h.parts ≡ false)
  first_out at s rest p h leads there out =
      let made : option_and_then (component d) (component_of d at) ≡ Some h = ap (option_and_then (component d)) leads ∙ there in
      let all : (edited h.head.at || leads_there edited h.parts || leads_there edited rest) ≡ false = sym (ap (λ o. leads_there edited (with_made at s o rest)) made) ∙ out in
      or_parts (edited h.head.at) (leads_there edited h.parts) (or_parts (edited h.head.at || leads_there edited h.parts) (leads_there edited rest) all).0

  behind_out : (n : ℕ) (x : Item) (rest : List (ℕ × Shell)) → leads_there edited (found d b (spot_of n x ++ rest)) ≡ false → leads_there edited (found d b rest) ≡ false
  behind_out n (Define k c) rest out = out
  behind_out n (Instance s o) rest out = rest_out (b ++ n ∷ []) s (option_and_then (component d) (component_of d (b ++ n ∷ []))) (found d b rest) out
  behind_out n (Own p v) rest out = out
  behind_out n (Default p v) rest out = out
  behind_out n (Dynamic t p v) rest out = out

  item_out : (n : ℕ) (xs : List Item) (i : ℕ) (s : Shell) (o : Of) (p : List ℕ) (h : Made) → leads_there edited (found d b (spots n xs)) ≡ false → slice_get xs i ≡ Some (Instance s o)
      → component_of d (b ++ (n + i) ∷ []) ≡ Some p → component d p ≡ Some h → (edited h.head.at ≡ false) × (leads_there edited h.parts ≡ false)
  item_out n [] i s o p h out got leads there = absurd cc
  item_out n (x ∷ xs) zero s o p h out got leads there =
      let same : x ≡ Instance s o = cc in
      let here : n + 0 ≡ n = omega arith in
      first_out (b ++ n ∷ []) s (found d b (spots (suc n) xs)) p h (ap (λ k. component_of d (b ++ k ∷ [])) (sym here) ∙ leads) there
      (ap (λ x. leads_there edited (found d b (spot_of n x ++ spots (suc n) xs))) (sym same) ∙ out)
  item_out n (x ∷ xs) (suc i) s o p h out got leads there =
      let here : suc n + i ≡ n + suc i = omega arith in
      item_out (suc n) xs i s o p h (behind_out n x (spots (suc n) xs) out) got (ap (λ k. component_of d (b ++ k ∷ [])) here ∙ leads) there

-- ---- A component out of reach.

module _ (m : Marks) (old now : Items) (described : Describes m old now) (ordered : AreInOrder m) (kept_old kept_now : Slots) (laid : Made → Layouts)
    (before : IsLaid old kept_old laid) (after : IsLaid now kept_now laid)
    (alike_laid : (c k : Made) → c.head.kind ≡ k.head.kind → StateTheSame c.head k.head → AreAlike c.parts k.parts → laid c ≡ laid k) where
  -- a component that is or_parts edited nor leads to one that is has the layouts that it had
  laid_same : (p q : List ℕ) (h k : Made) → component now p ≡ Some h → edits m old now h.head.at ≡ false → leads_there (edits m old now) h.parts ≡ false → address_before m p ≡ Some q
      → component old q ≡ Some k → laid h ≡ laid k
  laid_same p q h k there still out stood was =
      let at : h.head.at ≡ p = (as_found now p h there).place in
      let d = stood_as m old now described ordered p h there (ap (edits m old now) (sym at) ∙ still) in
      let place = same_Some d.at q (sym d.stood ∙ stood) in
      let same : d.before ≡ k = same_Some d.before k (sym d.there ∙ ap (component old) place ∙ was) in
      alike_laid h d.before d.kind d.states (all_alike m old now described ordered h.parts d.before.parts d.parts out) ∙ ap laid same

  module _ (a at : List ℕ) (c b : Made) (x z : Node) (there : component now a ≡ Some c) (was : component old at ≡ Some b) (s : StoodAt m old now a c.head.body) (place : s.at ≡ at)
      (none : any_has_another_type m old now a (items_in a now) ≡ false) (out : leads_there (edits m old now) c.parts ≡ false)
      (now_node : node_at a kept_now ≡ Some x) (old_node : node_at at kept_old ≡ Some z) where
    body_now : body_at a now ≡ Some c.head.body
    body_now = (as_found now a c there).body

    body_was : s.was ≡ b.head.body
    body_was = same_Some s.was b.head.body (sym s.there ∙ ap (λ q. body_at q old) place ∙ (as_found old at b was).body)

    out_found : leads_there (edits m old now) (found now a (spots 0 (list_of c.head.body))) ≡ false
    out_found = ap (leads_there (edits m old now)) (sym ((as_found now a c there).parts ∙ instances_found now a 0 c.head.body)) ∙ out

    module _ (i n : ℕ) (f : Firsts) (ins : Marks) (h : Shell) (told : trace_of s.marks i ≡ Some (old_item n f ins)) (unmoved : f.is_moved ≡ false) (says : says_same (unwrap_or f.shell h) h ≡ true) where
      abbrev here : List ℕ
      here = a ++ i ∷ []

      abbrev there_before : List ℕ
      there_before = s.at ++ n ∷ []

      out_item : (o : Of) (p : List ℕ) (k : Made) → IsItem i c.head.body (Instance h o) → component_of now here ≡ Some p → component now p ≡ Some k
          → (edits m old now k.head.at ≡ false) × (leads_there (edits m old now) k.parts ≡ false)
      out_item o p k got leads is =
          item_out (edits m old now) now a 0 (list_of c.head.body) i h o p k out_found got (ap (λ j. component_of now (a ++ j ∷ [])) (let e : 0 + i ≡ i = omega arith in e) ∙ leads) is

      beside : (o : Of) → IsItem i c.head.body (Instance h o) → IsFrom s.was (old_item n f ins) (Instance h o) → IsBeside s.marks s.was c.head.body (n, unwrap_or f.shell h) (i, h)
      beside o got from = record { firsts = f; inside = ins; item = Instance h o; told = told; unmoved = unmoved; says = says; is = got; from = from }

      lead : (o : Of) → IsItem i c.head.body (Instance h o) → IsFrom s.was (old_item n f ins) (Instance h o) → LeadAlike m (component_of now here) (component_of old there_before)
      lead o got from =
          leads m old now a c.head.body s body_now (n, unwrap_or f.shell h) (i, h) (beside o got from)
          (none_other m old now a (items_in a now) i none
          (let l = next_within (list_of c.head.body) i (Instance h o) got in
          let count : items_in a now ≡ length (list_of c.head.body) = ap (λ (o : Option Items). elim o [ None ↦ 0 | Some t ↦ length (list_of t) ]) body_now in
          omega (arith, l, count)))

      old_here : s.at ++ n ∷ [] ≡ at ++ n ∷ []
      old_here = ap (λ q. q ++ n ∷ []) place

      by_type : (t u : List ℕ) (v : Shell) → IsItem i c.head.body (Instance h (Named t)) → IsItem n s.was (Instance v (Named u)) → (o w : Option (List ℕ)) → component_of now here ≡ o → component_of old there_before ≡ w
          → LeadAlike m o w → takes_same true h (of_at n z.slots) (of_at i x.slots) ≡ true
      by_type t u v got is None None e g lead =
          let first = before.nothing at b z n v u was old_node (ap (λ q. slice_get (list_of q) n) (sym body_was) ∙ is) (ap (component_of old) (sym old_here) ∙ g) in
          let last = after.nothing a c x i h t there now_node got e in
          λ j. takes_same true h (first j) (last j)
      by_type t u v got is None (Some q) e g lead = absurd lead
      by_type t u v got is (Some p) None e g lead = absurd lead
      by_type t u v got is (Some p) (Some q) e g lead =
          let k = component_there now a c.head.body i (Instance h (Named t)) p body_now got e in
          let j = component_there old s.at s.was n (Instance v (Named u)) q s.there is g in
          let still = out_item (Named t) p k.0 got e k.1 in
          large_same (laid j.0) (laid k.0) (of_at n z.slots) (of_at i x.slots) h
          (before.types at b z n v u q j.0 was old_node (ap (λ q. slice_get (list_of q) n) (sym body_was) ∙ is) (ap (component_of old) (sym old_here) ∙ g) j.1)
          (after.types a c x i h t p k.0 there now_node got e k.1) (sym (laid_same p q k.0 j.0 k.1 still.0 still.1 lead j.1))

      -- one that is written where it is instantiated
      by_kind : (k g : Component) (v : Shell) → IsItem i c.head.body (Instance h (Anonymous k)) → IsItem n s.was (Instance v (Anonymous g)) → k.kind ≡ g.kind
          → LeadAlike m (component_of now here) (component_of old there_before) → (e : Bool) → is_field k.kind ≡ e → takes_same true h (of_at n z.slots) (of_at i x.slots) ≡ true
      by_kind k g v got is kinds lead e field =
          let now_here : component_of now here ≡ Some here = ap (option_and_then (held_by now here)) (item-deeper a i now c.head.body body_now ∙ got) in
          let old_there : component_of old there_before ≡ Some there_before = ap (option_and_then (held_by old there_before)) (item-deeper s.at n old s.was s.there ∙ is) in
          let stood : address_before m here ≡ Some there_before = subst (λ o. LeadAlike m o (Some there_before)) now_here (subst (LeadAlike m (component_of now here)) old_there lead) in
          let j = component_there now a c.head.body i (Instance h (Anonymous k)) here body_now got now_here in
          let l = component_there old s.at s.was n (Instance v (Anonymous g)) there_before s.there is old_there in
          let still = out_item (Anonymous k) here j.0 got now_here j.1 in
          let was_item = ap (λ q. slice_get (list_of q) n) (sym body_was) ∙ is in
          by e field j l still stood was_item
        where
          by : (e : Bool) → is_field k.kind ≡ e → (j : (y : Made) × (component now here ≡ Some y)) → (l : (y : Made) × (component old there_before ≡ Some y))
              → (edits m old now j.0.head.at ≡ false) × (leads_there (edits m old now) j.0.parts ≡ false) → address_before m here ≡ Some there_before
              → IsItem n b.head.body (Instance v (Anonymous g)) → takes_same true h (of_at n z.slots) (of_at i x.slots) ≡ true
          by false field j l still stood was_item =
              large_same (laid l.0) (laid j.0) (of_at n z.slots) (of_at i x.slots) h
              (before.parts at b z n v g l.0 was old_node was_item (ap is_field (sym kinds) ∙ field) (ap (component old) (sym old_here) ∙ l.1))
              (after.parts a c x i h k j.0 there now_node got field j.1) (sym (laid_same here there_before j.0 l.0 j.1 still.0 still.1 stood l.1))
          by true field j l still stood was_item =
              let place_now : j.0.head.at ≡ here = (as_found now here j.0 j.1).place in
              let inside : body_at here now ≡ Some k.body = body-inside a i now c.head.body (Instance h (Anonymous k)) k body_now got refl in
              let unedited = (or_parts (is_edited_at here m now) (any_has_another_type m old now here (items_in here now)) (ap (edits m old now) (sym place_now) ∙ still.0)).0 in
              let deep = stood_at here m old now k.body described ordered unedited inside in
              let at_there : deep.at ≡ there_before =
              same_Some deep.at there_before (ap Some (sym (append-nil deep.at)) ∙ sym (deep.before []) ∙ ap (address_before m) (append-nil here) ∙ stood) in
              let old_inside : body_at there_before old ≡ Some g.body = body-inside s.at n old s.was (Instance v (Anonymous g)) g s.there is refl in
              let was_body : deep.was ≡ g.body = same_Some deep.was g.body (sym deep.there ∙ ap (λ q. body_at q old) at_there ∙ old_inside) in
              fields_same g.body k.body h (of_at n z.slots) (of_at i x.slots) (before.fields at b z n v g was old_node was_item (ap is_field (sym kinds) ∙ field))
              (after.fields a c x i h k there now_node got field)
              (ap (λ t. (own_values t).fieldwidth) (sym was_body) ∙ same_own_width deep.marks deep.was k.body deep.described deep.ordered deep.still)

      takes : (o : Of) → IsItem i c.head.body (Instance h o) → IsFrom s.was (old_item n f ins) (Instance h o) → takes_same true h (of_at n z.slots) (of_at i x.slots) ≡ true
      takes (Named t) got from =
          by_type t (unwrap_or f.type_name t) (unwrap_or f.shell h) got from.0 (component_of now here) (component_of old there_before) refl refl (lead (Named t) got from)
      takes (Anonymous k) got from =
          by_kind k (record { kind = k.kind; body = from.0.0 }) (unwrap_or f.shell h) got from.0.1 refl (lead (Anonymous k) got from) (is_field k.kind) refl

    are_bodies_alike : are_alike true s.marks z.slots x.slots c.head.body ≡ true
    are_bodies_alike =
        bodies_alike s.marks s.was c.head.body z.slots x.slots s.described s.ordered s.still
        (λ i n f ins h o got told unmoved says. takes i n f ins h told unmoved says o got (from_there s.marks s.was c.head.body i (old_item n f ins) (Instance h o) s.described got told))

  placed_nothing : (alike : Bool) (x z : Node) → alike ≡ true → same_values z.core.values x.core.values ≡ true → placed_over alike z.core x.core ≡ 0
  placed_nothing alike x z e f = λ i. if e i && f i then 0 else placed_once x.core.layouts

  placed_none : (alike same : Bool) (l : ℕ) → l ≡ 0 → (if alike && same then 0 else l) ≡ 0
  placed_none true true l e = refl
  placed_none true false l e = e
  placed_none false same l e = e

  pub unplaced : IsUnplaced m old now kept_old kept_now
  unplaced a at c k x z there out along stood now_node old_node =
      let clear = by_component (edits m old now) a now c there out in
      let both = or_parts (is_edited_at a m now) (any_has_another_type m old now a (items_in a now)) clear.0 in
      let s = stood_at a m old now c.head.body described ordered both.0 (as_found now a c there).body in
      let d = stood_as m old now described ordered a c there clear.0 in
      let place : d.at ≡ at = same_Some d.at at (sym d.stood ∙ stood) in
      let was : component old at ≡ Some d.before = ap (component old) (sym place) ∙ d.there in
      let at_is : s.at ≡ at = same_Some s.at at (ap Some (sym (append-nil s.at)) ∙ sym (s.before []) ∙ ap (address_before m) (append-nil a) ∙ stood) in
      let marks : s.marks ≡ k = same_Some s.marks k (sym s.along ∙ along) in
      let alike : are_alike true k z.slots x.slots c.head.body ≡ true =
      ap (λ q. are_alike true q z.slots x.slots c.head.body) (sym marks) ∙ are_bodies_alike a at c d.before x z there was s at_is both.1 clear.1 now_node old_node in
      by (is_field c.head.kind) refl alike d.before was d.kind d.states
    where
      by : (e : Bool) → is_field c.head.kind ≡ e → are_alike true k z.slots x.slots c.head.body ≡ true → (b : Made) → component old at ≡ Some b → c.head.kind ≡ b.head.kind → StateTheSame c.head b.head
          → placed_over (are_alike true k z.slots x.slots c.head.body) z.core x.core ≡ 0
      by true field alike b was kind states =
          placed_none (are_alike true k z.slots x.slots c.head.body) (same_values z.core.values x.core.values) (placed_once x.core.layouts) (after.empty a c x there now_node field)
      by false field alike b was kind states =
          let values : z.core.values ≡ x.core.values = before.values at b z was old_node ∙ sym (stated_same c.head b.head kind field states) ∙ sym (after.values a c x there now_node) in
          placed_nothing (are_alike true k z.slots x.slots c.head.body) x z alike (ap (same_values z.core.values) (sym values) ∙ values_itself z.core.values)
