-- What a step places is at most three for each instance in reach, if so much is placed for each component at most, and nothing for one that is out
-- of reach.
use Rattle.std.proofs.Common.{◌≡◌, ℕ, suc, ◌+◌, ◌*◌, ◌≤◌, Bool, true, false, not, ◌&&◌, ◌||◌, if◌then◌else◌, List, [], ◌∷◌, ◌++◌, Option, Some, None, unwrap_or, refl, sym, ap, subst, ◌∙◌, arith, append_assoc}
use Rattle.std.specs.Prelude.{sum_by, slice_get, option_and_then, option_map}
use Rattle.std.proofs.lemmas.List.{append-nil}
use Rattle.std.proofs.lemmas.Bool.{or_left, or_right}
use Rattle.rdl_tree.specs.Address.{inner}
use Rattle.rdl_tree.specs.Component.{own_component, holder_kind}
use Rattle.rdl_tree.specs.Items.{Items, no_items, plain, holder, Plain, Holder, define, anonymous}
use Rattle.rdl_tree.specs.View.{list_of, holder_item}
use Rattle.rdl_tree.specs.declared.description.Item.TheVariants.{Define, Instance, Own, Default, Dynamic}
use Rattle.rdl_tree.specs.declared.description.Of.TheVariants.{Named, Anonymous}
use Rattle.rdl_scope.specs.Types.{items_in}
use Rattle.rdl_scope.specs.Closed.{Made, Standing, nothing, head_at, parts, after_plain, after_holder, component}
use Rattle.rdl_marks.specs.Describes.{Describes, IsItem, restored}
use Rattle.rdl_marks.specs.InOrder.{AreInOrder}
use Rattle.rdl_marks.specs.Marks.{Firsts, Marks}
use Rattle.rdl_marks.specs.View.{Trace, new_item, old_item}
use Rattle.rdl_marks.specs.Was.{trace_of}
use Rattle.rdl_marks.proofs.From.{IsFrom}
use Rattle.rdl_seen.specs.Meaning.{kept_at, node_at}
use Rattle.rdl_seen.specs.Slots.{Slots, no_slots, slot, Node}
use Rattle.rdl_seen.specs.Slots as slots
use Rattle.rdl_renew.specs.AlikeSlots.{are_alike}
use Rattle.rdl_reach.specs.Before.{number_then, address_before}
use Rattle.rdl_reach.specs.EditedBodies.{sets_default, is_edited, edited_inside, is_edited_at, any_has_another_type, edits}
use Rattle.node_laws.specs.Kept.{is_field_here}
use Rattle.rdl_nodes.specs.Placed.{placed_once, placed_over, same_values}
use Rattle.rdl_renew.specs.Placed.{sets_width, placed_anew, placed_stayed, placed_told, placed_in, placed_of}
use Rattle.rdl_reach.specs.Reach.{leads_there, in_reach}
use Rattle.rdl_elab.specs.Written.{written}
use Rattle.rdl_reach.proofs.AllPlaced.{many, both_sums, IsBound, one_bound, all_bound}
use Rattle.rdl_reach.proofs.Along.{Along, behind_plain, behind_field, behind_holder, first_made, first_node, inside, from_first, one_more, none_more, from_none}
use Rattle.rdl_reach.proofs.Fits.{Fit, IsKeptAt, kept_there, no_field, inside_fits}
use Rattle.rdl_reach.proofs.Follows.{IsKept, same_there}
use Rattle.rdl_renew.proofs.ItemSteps.{inside_in_order}
use Rattle.rdl_reach.proofs.MarksInside.{inside_then, marks_inside, marks_deeper, before_deeper}
use Rattle.rdl_renew.proofs.Raised.{from_there}
use Rattle.rdl_reach.proofs.SetsWidth.{no_width_set}
use Rattle.rdl_reach.proofs.Stood.{Inside, was_inside}

-- a field that is written where it is instantiated was one before
field_kept : IsKept is_field_here
field_kept old n f m (Define k c) z h is = sym (ap is_field_here (same_there old n (Define (unwrap_or f.defined k) (record { kind = c.kind; body = h.0.0 })) z h.0.1 is))
field_kept old n f m (Instance s (Named u)) z h is = sym (ap is_field_here (same_there old n (restored f (Instance s (Named u))) z h.0 is))
field_kept old n f m (Instance s (Anonymous c)) z h is =
    sym (ap is_field_here (same_there old n (Instance (unwrap_or f.shell s) (Anonymous (record { kind = c.kind; body = h.0.0 }))) z h.0.1 is))
field_kept old n f m (Own p v) z h is = sym (ap is_field_here (same_there old n (restored f (Own p v)) z h.0 is))
field_kept old n f m (Default p v) z h is = sym (ap is_field_here (same_there old n (restored f (Default p v)) z h.0 is))
field_kept old n f m (Dynamic u p v) z h is = sym (ap is_field_here (same_there old n (restored f (Dynamic u p v)) z h.0 is))

holder_own : (h : Holder) (own : Items) → own_component (holder_item h own) ≡ Some (record { kind = holder_kind h; body = own })
holder_own (define n k) own = refl
holder_own (anonymous s k) own = refl

-- ---- A body from some item on.

-- the items from number n on of a body are t, and s are their slots
record IsRest (all : Items) (nows : Slots) (n : ℕ) (t : Items) (s : Slots) : Type 0 where
  items : (i : ℕ) → slice_get (list_of all) (n + i) ≡ slice_get (list_of t) i
  inners : (i : ℕ) → inner (n + i) all ≡ inner i t
  kept : (i : ℕ) → kept_at (n + i) nows ≡ kept_at i s

all_rest : (all : Items) (nows : Slots) → IsRest all nows 0 all nows
all_rest all nows = record {
  items = λ i. ap (slice_get (list_of all)) (from_none i);
  inners = λ i. ap (λ k. inner k all) (from_none i);
  kept = λ i. ap (λ k. kept_at k nows) (from_none i);
}

rest_plain : (all : Items) (nows : Slots) (n : ℕ) (p : Plain) (rest : Items) (x : slots.Slot) (s : Slots) → IsRest all nows n (plain p rest) (slot x s) → IsRest all nows (suc n) rest s
rest_plain all nows n p rest x s h = record {
  items = λ i. ap (slice_get (list_of all)) (one_more n i) ∙ h.items (suc i);
  inners = λ i. ap (λ k. inner k all) (one_more n i) ∙ h.inners (suc i);
  kept = λ i. ap (λ k. kept_at k nows) (one_more n i) ∙ h.kept (suc i);
}

rest_field : (all : Items) (nows : Slots) (n : ℕ) (g : Holder) (own rest : Items) (x : slots.Slot) (s : Slots) → IsRest all nows n (holder g own rest) (slot x s) → IsRest all nows (suc n) rest s
rest_field all nows n g own rest x s h = record {
  items = λ i. ap (slice_get (list_of all)) (one_more n i) ∙ h.items (suc i);
  inners = λ i. ap (λ k. inner k all) (one_more n i) ∙ h.inners (suc i);
  kept = λ i. ap (λ k. kept_at k nows) (one_more n i) ∙ h.kept (suc i);
}

rest_holder : (all : Items) (nows : Slots) (n : ℕ) (g : Holder) (own rest : Items) (w : slots.Written) (c : slots.Core) (within s : Slots) → IsRest all nows n (holder g own rest) (slots.written w c within s)
    → IsRest all nows (suc n) rest s
rest_holder all nows n g own rest w c within s h = record {
  items = λ i. ap (slice_get (list_of all)) (one_more n i) ∙ h.items (suc i);
  inners = λ i. ap (λ k. inner k all) (one_more n i) ∙ h.inners (suc i);
  kept = λ i. ap (λ k. kept_at k nows) (one_more n i) ∙ h.kept (suc i);
}

-- ---- A step.

-- nothing is placed for a component that is out of reach
abbrev pub IsUnplaced : Marks → (old now : Items) → (before nows : Slots) → Type 0
IsUnplaced m old now before nows =
    (a at : List ℕ) (c : Made) (k : Marks) (x z : Node) → component now a ≡ Some c → in_reach (edits m old now) now a ≡ false → marks_inside a m ≡ Some k → address_before m a ≡ Some at
    → node_at a nows ≡ Some x → node_at at before ≡ Some z → placed_over (are_alike true k z.slots x.slots c.head.body) z.core x.core ≡ 0

module _ (m : Marks) (old now : Items) (kept_old kept_now : Slots) (bound : IsBound now kept_now) (unplaced : IsUnplaced m old now kept_old kept_now) where
  abbrev marked : List ℕ → Bool
  marked a = in_reach (edits m old now) now a

  -- a body that stayed, with what became of it, and what was kept and is kept of its items
  record Stays (b y : List ℕ) (k : Marks) (was all : Items) (before nows : Slots) (w : Bool) : Type 0 where
    along : marks_inside b m ≡ Some k
    stood : address_before m b ≡ Some y
    described : Describes k was all
    ordered : AreInOrder k
    up : (c : List ℕ) → is_edited_at c k all ≡ true → is_edited_at (b ++ c) m now ≡ true
    width : w ≡ true → (c : List ℕ) → is_edited_at (b ++ c) m now ≡ true
    fit : Fit was before
    fit_now : Fit all nows
    nodes : (i : ℕ) (c : List ℕ) → node_at (y ++ i ∷ c) kept_old ≡ node_at (i ∷ c) before

  edited_in_reach : (a : List ℕ) → is_edited_at a m now ≡ true → marked a ≡ true
  edited_in_reach a e =
      or_left (edits m old now a) (elim (component now a) [ None ↦ false | Some c ↦ leads_there (edits m old now) c.parts ])
      (or_left (is_edited_at a m now) (any_has_another_type m old now a (items_in a now)) e)

  -- what is set around a body edits it
  sets_all : (c : List ℕ) (k : Marks) (all : Items) → sets_default k all ≡ true → is_edited_at c k all ≡ true
  sets_all [] k all e = or_right (is_edited k all) (sets_default k all) e
  sets_all (i ∷ c) k all e = or_left (sets_default k all) (edited_inside (is_edited_at c) (trace_of k i) (inner i all)) e

  module _ (b y : List ℕ) (k : Marks) (was all : Items) (before nows : Slots) (w : Bool) (n : ℕ) (g : Holder) (own rest : Items) (e : Standing) (s : Slots) (stays : Stays b y k was all before nows w)
      (h : Along now kept_now b n (holder g own rest) e s) (r : IsRest all nows n (holder g own rest) s) where
    abbrev here : List ℕ
    here = b ++ n ∷ []

    abbrev made : Made
    made = record { head = head_at here (holder_kind g) own e; parts = parts e here 0 own }

    abbrev most : ℕ
    most = 3 * (sum_by (many marked) (written e here 0 own) + many marked made)

    deeper : (c : List ℕ) → b ++ n ∷ c ≡ here ++ c
    deeper c = sym (append_assoc b (n ∷ []) c)

    is_inner : inner n all ≡ Some own
    is_inner = ap (λ k. inner k all) (sym (none_more n)) ∙ r.inners 0

    is_kept : kept_at n nows ≡ kept_at 0 s
    is_kept = ap (λ k. kept_at k nows) (sym (none_more n)) ∙ r.kept 0

    is_item : IsItem n all (holder_item g own)
    is_item = ap (slice_get (list_of all)) (sym (none_more n)) ∙ r.items 0

    -- all of it is edited
    anew : ((c : List ℕ) → edited_inside (is_edited_at c) (trace_of k n) (inner n all) ≡ true) → placed_anew (kept_at n nows) ≤ most
    anew all_in = by (kept_at n nows) refl
      where
        is_edited_there : (c : List ℕ) → is_edited_at (here ++ c) m now ≡ true
        is_edited_there c =
            ap (λ a. is_edited_at a m now) (sym (deeper c))
            ∙ stays.up (n ∷ c) (or_right (sets_default k all) (edited_inside (is_edited_at c) (trace_of k n) (inner n all)) (all_in c))

        by : (o : Option Node) → kept_at n nows ≡ o → placed_anew o ≤ most
        by None there = omega arith
        by (Some x) there =
            let first : kept_at 0 s ≡ Some x = sym is_kept ∙ there in
            let fit = inside_fits n all nows own x stays.fit_now is_inner there in
            let one = one_bound now kept_now marked bound here made x (first_made now kept_now b n g own rest e s h) (first_node now kept_now b n (holder g own rest) e s h ∙ first)
            (edited_in_reach here (ap (λ a. is_edited_at a m now) (sym (append-nil here)) ∙ is_edited_there [])) in
            let all = all_bound now kept_now marked bound own here 0 e x.slots (inside now kept_now b n g own rest e s x h first fit) (λ i c. edited_in_reach (here ++ (0 + i) ∷ c) (is_edited_there ((0 + i) ∷ c))) in
            omega (arith, one, all)

    -- it stayed
    module _ (number : ℕ) (f : Firsts) (ins : Marks) (told : trace_of k n ≡ Some (old_item number f ins)) (unmoved : f.is_moved ≡ false) where
      from : IsFrom was (old_item number f ins) (holder_item g own)
      from = from_there k was all n (old_item number f ins) (holder_item g own) stays.described is_item told

      old_body : Inside was number ins (holder_kind g) own
      old_body = was_inside was number f ins (holder_item g own) (holder_kind g) own from (holder_own g own)

      up_inside : (c : List ℕ) → is_edited_at c ins own ≡ true → is_edited_at (here ++ c) m now ≡ true
      up_inside c on =
          ap (λ a. is_edited_at a m now) (sym (deeper c))
          ∙ stays.up (n ∷ c) (or_right (sets_default k all) (edited_inside (is_edited_at c) (trace_of k n) (inner n all))
          ((λ i. edited_inside (is_edited_at c) (told i) (is_inner i)) ∙ or_right f.is_moved (is_edited_at c ins own) on))

      width_inside : (v : Bool) → (w || sets_width ins own) ≡ v → v ≡ true → (c : List ℕ) → is_edited_at (here ++ c) m now ≡ true
      width_inside v is on c = by w (sets_width ins own) (sets_default ins own) refl refl refl (is ∙ on)
        where
          by : (x z d : Bool) → w ≡ x → sets_width ins own ≡ z → sets_default ins own ≡ d → (x || z) ≡ true → is_edited_at (here ++ c) m now ≡ true
          by true z d e f g o = ap (λ a. is_edited_at a m now) (sym (deeper c)) ∙ stays.width e (n ∷ c)
          by false z true e f g o = up_inside c (sets_all c ins own g)
          by false z false e f g o = absurd (let no : true ≡ false = sym o ∙ sym f ∙ no_width_set ins own g in cc)

      stood_here : address_before m here ≡ Some (y ++ number ∷ [])
      stood_here = before_deeper b (n ∷ []) y m k stays.along stays.stood ∙ ap (λ o. option_map (λ z. y ++ z) (number_then (λ inside. Some []) o)) told

      along_here : marks_inside here m ≡ Some ins
      along_here = marks_deeper b (n ∷ []) m k stays.along ∙ ap (inside_then (λ inside. Some inside)) told

      module _ (x : Node) (there : kept_at n nows ≡ Some x) where
        first : kept_at 0 s ≡ Some x
        first = sym is_kept ∙ there

        was_kept : IsKeptAt number before old_body.was
        was_kept =
            kept_there number was before old_body.item (record { kind = holder_kind g; body = old_body.was }) stays.fit old_body.is
            (field_kept was number f ins (holder_item g own) old_body.item from old_body.is ∙ no_field n all nows (holder_item g own) x stays.fit_now is_item there) old_body.holds

        fit_own : Fit own x.slots
        fit_own = inside_fits n all nows own x stays.fit_now is_inner there

        -- a default width may have been set around what is inside
        abbrev v : Bool
        v = w || sets_width ins own

        stays_inside : Stays here (y ++ number ∷ []) ins old_body.was own was_kept.node.slots x.slots v
        stays_inside = record {
          along = along_here;
          stood = stood_here;
          described = old_body.described;
          ordered = inside_in_order k n number f ins stays.ordered told;
          up = up_inside;
          width = λ on c. width_inside (w || sets_width ins own) refl on c;
          fit = was_kept.fit;
          fit_now = fit_own;
          nodes = λ i c.
              ap (λ a. node_at a kept_old) (append_assoc y (number ∷ []) (i ∷ c)) ∙ stays.nodes number (i ∷ c)
              ∙ ap (option_and_then (λ (z : Node). node_at (i ∷ c) z.slots)) was_kept.there;
        }

        along_inside : Along now kept_now here 0 own e x.slots
        along_inside = inside now kept_now b n g own rest e s x h first fit_own

        -- its own instances
        own_placed : placed_over (are_alike (not v) ins was_kept.node.slots x.slots own) was_kept.node.core x.core ≤ 3 * many marked made
        own_placed = by (marked here) refl
          where
            node_here : node_at here kept_now ≡ Some x
            node_here = first_node now kept_now b n (holder g own rest) e s h ∙ first

            at_most : (alike same : Bool) → placed_once x.core.layouts ≤ 3 * many marked made → (if alike && same then 0 else placed_once x.core.layouts) ≤ 3 * many marked made
            at_most true true l = omega arith
            at_most true false l = l
            at_most false same l = l

            old_node : node_at (y ++ number ∷ []) kept_old ≡ Some was_kept.node
            old_node = stays.nodes number [] ∙ was_kept.there

            out : (z : Bool) → (w || sets_width ins own) ≡ z → marked here ≡ false → placed_over (are_alike (not z) ins was_kept.node.slots x.slots own) was_kept.node.core x.core ≤ 3 * many marked made
            out true is off =
                let on : marked here ≡ true = edited_in_reach here (ap (λ a. is_edited_at a m now) (sym (append-nil here)) ∙ width_inside true is refl []) in
                let no : true ≡ false = sym on ∙ off in
                absurd cc
            out false is off =
                let none = unplaced here (y ++ number ∷ []) made ins x was_kept.node (first_made now kept_now b n g own rest e s h) off along_here stood_here node_here old_node in
                omega (arith, none)

            by : (z : Bool) → marked here ≡ z → placed_over (are_alike (not (w || sets_width ins own)) ins was_kept.node.slots x.slots own) was_kept.node.core x.core ≤ 3 * many marked made
            by true on =
                at_most (are_alike (not (w || sets_width ins own)) ins was_kept.node.slots x.slots own) (same_values was_kept.node.core.values x.core.values)
                (one_bound now kept_now marked bound here made x (first_made now kept_now b n g own rest e s h) node_here on)
            by false off = out (w || sets_width ins own) refl off

  -- ---- All items of a body.

  -- what is placed inside a component with this body, wherever it stands
  abbrev Placed : Items → Type 0
  Placed own =
      (b y : List ℕ) (k : Marks) (was all : Items) (before nows : Slots) (w : Bool) (n : ℕ) (e : Standing) (s : Slots) → Stays b y k was all before nows w → Along now kept_now b n own e s → IsRest all nows n own s
      → placed_in w k before nows n own ≤ 3 * sum_by (many marked) (written e b n own)

  module _ (b y : List ℕ) (k : Marks) (was all : Items) (before nows : Slots) (w : Bool) (n : ℕ) (g : Holder) (own rest : Items) (e : Standing) (s : Slots) (stays : Stays b y k was all before nows w)
      (h : Along now kept_now b n (holder g own rest) e s) (r : IsRest all nows n (holder g own rest) s) (within : Placed own) where
    abbrev Inner : Bool → Marks → Slots → Slots → ℕ
    Inner v ins was is = placed_in v ins was is 0 own

    abbrev limit : ℕ
    limit = most b y k was all before nows w n g own rest e s stays h r

    stayed : (number : ℕ) (f : Firsts) (ins : Marks) → trace_of k n ≡ Some (old_item number f ins) → f.is_moved ≡ false → (x : Node) → kept_at n nows ≡ Some x
        → placed_stayed Inner w ins (kept_at number before) own (Some x) ≤ limit
    stayed number f ins told unmoved x there =
        let z = was_kept b y k was all before nows w n g own rest e s stays h r number f ins told unmoved x there in
        let one = own_placed b y k was all before nows w n g own rest e s stays h r number f ins told unmoved x there in
        let deep =
        within (b ++ n ∷ []) (y ++ number ∷ []) ins _ own z.node.slots x.slots (w || sets_width ins own) 0 e x.slots
        (stays_inside b y k was all before nows w n g own rest e s stays h r number f ins told unmoved x there)
        (along_inside b y k was all before nows w n g own rest e s stays h r number f ins told unmoved x there) (all_rest own x.slots) in
        subst (λ o. placed_stayed Inner w ins o own (Some x) ≤ limit) (sym z.there) (omega (arith, one, deep))

    by_node : (number : ℕ) (f : Firsts) (ins : Marks) → trace_of k n ≡ Some (old_item number f ins) → f.is_moved ≡ false → (o : Option Node) → kept_at n nows ≡ o
        → placed_stayed Inner w ins (kept_at number before) own o ≤ limit
    by_node number f ins told unmoved None there = omega arith
    by_node number f ins told unmoved (Some x) there = stayed number f ins told unmoved x there

    all_new : (o : Option Trace) → trace_of k n ≡ o → ((c : List ℕ) (z : Option Items) → edited_inside (is_edited_at c) o z ≡ true) → placed_anew (kept_at n nows) ≤ limit
    all_new o told new = anew b y k was all before nows w n g own rest e s stays h r (λ c. ap (λ q. edited_inside (is_edited_at c) q (inner n all)) told ∙ new c (inner n all))

    moved_new : (number : ℕ) (f : Firsts) (ins : Marks) → f.is_moved ≡ true → (c : List ℕ) (z : Option Items) → edited_inside (is_edited_at c) (Some (old_item number f ins)) z ≡ true
    moved_new number f ins moved c None = moved
    moved_new number f ins moved c (Some t) = or_left f.is_moved (is_edited_at c ins t) moved

    by_moved : (number : ℕ) (f : Firsts) (ins : Marks) → trace_of k n ≡ Some (old_item number f ins) → (z : Bool) → f.is_moved ≡ z
        → (if z then placed_anew (kept_at n nows) else placed_stayed Inner w ins (kept_at number before) own (kept_at n nows)) ≤ limit
    by_moved number f ins told true moved = all_new (Some (old_item number f ins)) told (moved_new number f ins moved)
    by_moved number f ins told false unmoved = by_node number f ins told unmoved (kept_at n nows) refl

    by_trace : (o : Option Trace) → trace_of k n ≡ o → placed_told Inner w before o own (kept_at n nows) ≤ limit
    by_trace None told = all_new None told (λ c z. refl)
    by_trace (Some new_item) told = all_new (Some new_item) told (λ c z. refl)
    by_trace (Some (old_item number f ins)) told = by_moved number f ins told f.is_moved refl

    one_placed : placed_told Inner w before (trace_of k n) own (kept_at n nows) ≤ limit
    one_placed = by_trace (trace_of k n) refl

  all_in : (t : Items) → Placed t
  all_in no_items b y k was all before nows w n e s stays h r = omega arith
  all_in (plain p rest) b y k was all before nows w n e no_slots stays h r = absurd h.fit
  all_in (plain p rest) b y k was all before nows w n e (slot x s) stays h r =
      all_in rest b y k was all before nows w (suc n) (after_plain p e) s stays (behind_plain now kept_now b n p rest e x s h) (rest_plain all nows n p rest x s r)
  all_in (plain p rest) b y k was all before nows w n e (slots.written z c inside s) stays h r = absurd h.fit
  all_in (holder g own rest) b y k was all before nows w n e no_slots stays h r = absurd h.fit
  all_in (holder g own rest) b y k was all before nows w n e (slot x s) stays h r =
      let f = after_holder g (b ++ n ∷ []) own (parts e (b ++ n ∷ []) 0 own) e in
      let c : Made = record { head = head_at (b ++ n ∷ []) (holder_kind g) own e; parts = parts e (b ++ n ∷ []) 0 own } in
      let one = one_placed b y k was all before nows w n g own rest e (slot x s) stays h r (all_in own) in
      let more = all_in rest b y k was all before nows w (suc n) f s stays (behind_field now kept_now b n g own rest e x s h) (rest_field all nows n g own rest x s r) in
      let sums = both_sums (many marked) (written e (b ++ n ∷ []) 0 own) c (written f b (suc n) rest) in
      omega (arith, one, more, sums)
  all_in (holder g own rest) b y k was all before nows w n e (slots.written z q within s) stays h r =
      let f = after_holder g (b ++ n ∷ []) own (parts e (b ++ n ∷ []) 0 own) e in
      let c : Made = record { head = head_at (b ++ n ∷ []) (holder_kind g) own e; parts = parts e (b ++ n ∷ []) 0 own } in
      let one = one_placed b y k was all before nows w n g own rest e (slots.written z q within s) stays h r (all_in own) in
      let more = all_in rest b y k was all before nows w (suc n) f s stays (behind_holder now kept_now b n g own rest e z q within s h) (rest_holder all nows n g own rest z q within s r) in
      let sums = both_sums (many marked) (written e (b ++ n ∷ []) 0 own) c (written f b (suc n) rest) in
      omega (arith, one, more, sums)

  pub placed_in_reach : Describes m old now → AreInOrder m → Fit old kept_old → Fit now kept_now → placed_of m kept_old now kept_now ≤ 3 * sum_by (many marked) (written nothing [] 0 now)
  placed_in_reach described ordered fit fit_now =
      all_in now [] [] m old now kept_old kept_now (sets_width m now) 0 nothing kept_now
      (record {
        along = refl;
        stood = refl;
        described = described;
        ordered = ordered;
        up = λ c on. on;
        width = λ on c. sets_all c m now (set_default on);
        fit = fit;
        fit_now = fit_now;
        nodes = λ i c. refl;
      })
      (from_first now kept_now fit_now) (all_rest now kept_now)
    where
      set_default : sets_width m now ≡ true → sets_default m now ≡ true
      set_default on = by (sets_default m now) refl
        where
          by : (z : Bool) → sets_default m now ≡ z → sets_default m now ≡ true
          by true is = is
          by false is = absurd (let no : true ≡ false = sym on ∙ no_width_set m now is in cc)
