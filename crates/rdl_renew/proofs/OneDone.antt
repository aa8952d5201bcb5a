-- How the items of a body are done one after another.
use Rattle.std.proofs.Common.{◌≡◌, ℕ, zero, suc, ◌+◌, ◌<◌, ◌≤◌, List, [], ◌∷◌, ◌++◌, length, Some, ◌⊎◌, inl, inr, refl, sym, ap, subst, ◌∙◌, arith, length-append}
use Rattle.std.specs.Prelude.{slice_get, option_and_then}
use Rattle.std.proofs.lemmas.Bool.{cases_lt}
use Rattle.std.proofs.lemmas.Option.{slice_get_past}
use Rattle.rdl_tree.specs.View as tree
use Rattle.rdl_tree.specs.declared.description.Item.{Item}
use Rattle.rdl_marks.specs.Describes.{IsItem}
use Rattle.rdl_nodes.specs.declared.node.Slot.{Slot}
use Rattle.rdl_nodes.specs.Bodies.{after_default_item}
use Rattle.rdl_nodes.specs.View.{slots_of}
use Rattle.rdl_places.specs.Scopes.{Place, around_places, IsScope}
use Rattle.rdl_seen.specs.declared.alert.Alert.{Alert}
use Rattle.rdl_seen.specs.Alert.{with_alert, AgreeBut}
use Rattle.rdl_seen.specs.Inside.{no_instances}
use Rattle.rdl_seen.specs.Layouts.{Laying}
use Rattle.rdl_seen.specs.Meaning.{around_before, kept_at}
use Rattle.rdl_seen.specs.Node.{Around, body_of}
use Rattle.rdl_seen.specs.OneByOne.{slot_at, slot_of_item, instances_before}
use Rattle.rdl_seen.specs.Slots.{Slots, no_slots, slot, written}
use Rattle.rdl_seen.proofs.Alerts.{more_may_differ}
use Rattle.rdl_seen.proofs.OneByOne.{slots_are_of_items}
use Rattle.rdl_seen.proofs.Passing.{before_none, stands_behind_item}
use Rattle.rdl_renew.specs.declared.done.Done.{Done}
use Rattle.rdl_renew.specs.declared.done.Reach.{Reach}
use Rattle.rdl_renew.specs.Anew.{slot_there}
use Rattle.rdl_renew.specs.Fronts.{fronts}
use Rattle.rdl_renew.specs.Onward.{DiffersNoMoreBehind}
use Rattle.rdl_renew.specs.Raised.{raised, HasAll}
use Rattle.rdl_renew.specs.Renewing.{Renewing, AreDone, Became, IsReached}
use Rattle.rdl_renew.specs.SideBySide.{TellsOfAll}
use Rattle.rdl_renew.proofs.FrontSlots.{fronts_are_slots}
use Rattle.rdl_renew.proofs.NewItems.{same_slots, walked_past, defaults_behind}
use Rattle.rdl_renew.proofs.Onward.{tells_of_one_more, alerts_grow}
use Rattle.rdl_renew.proofs.Raised.{alerts_add_up, has_all_of_it, raised_tells_of_all}

-- ---- Lists.

pub get_last : {X : Type 0} (xs : List X) (x : X) → slice_get (xs ++ x ∷ []) (length xs) ≡ Some x
get_last [] x = refl
get_last (y ∷ xs) x = get_last xs x

pub get_front : {X : Type 0} (xs : List X) (x : X) (j : ℕ) → j < length xs → slice_get (xs ++ x ∷ []) j ≡ slice_get xs j
get_front [] x j l = absurd (omega (arith, l))
get_front (y ∷ xs) x zero l = refl
get_front (y ∷ xs) x (suc j) l = get_front xs x j (omega (arith, l))

many_fronts : (xs : List Slot) → length (fronts xs) ≡ length xs
many_fronts [] = refl
many_fronts (x ∷ xs) = ap suc (many_fronts xs)

-- ---- None is done yet.

abbrev pub around_here : Laying → Renewing → Around
around_here lay r = around_places lay r.places

pub none_done : (lay : Laying) (r : Renewing) (d : Done) (reach : Reach) → Became lay r.saw r.slots r.marks r.old r.now → IsReached lay r.places r.saw reach → d.slots.items ≡ []
    → d.reach.defaults ≡ reach.defaults → d.reach.alert ≡ with_alert reach.alert (raised r.marks r.now) → AreDone lay r 0 d
none_done lay r d reach became reached none defaults alert =
    let adds = alerts_add_up reach.alert (raised r.marks r.now) in
    let has = subst (λ x. HasAll x (raised r.marks r.now)) (sym alert) adds.1 in
    record {
      many = ap (λ xs. length (fronts xs)) none;
      slots = λ j l. absurd (omega (arith, l));
      defaults = defaults ∙ (reached.defaults ∙ ap (λ (a : Around). a.defaults) (sym (before_none lay (around_here lay r) r.now)));
      agree = subst (λ x. AgreeBut x r.saw (around_here lay r)) (sym alert) (more_may_differ reach.alert (raised r.marks r.now) r.saw (around_here lay r) reached.agree).0;
      raised = has;
      tells = raised_tells_of_all lay d.reach.alert r.marks r.old r.now r.saw (around_here lay r) 0 became.describes has (λ i l. absurd (omega (arith, l)));
    }

-- ---- One more.

abbrev TellsHere : Laying → Renewing → ℕ → Alert → Type 0
TellsHere lay r n x = TellsOfAll lay x r.marks r.old r.now r.saw (around_here lay r) n

-- the slots of the items that are done, and of one more
slots_more : (lay : Laying) (r : Renewing) (n : ℕ) (fs gs : List Slots) (s : Slots) → length fs ≡ n
    → ((j : ℕ) → j < n → slice_get fs j ≡ slot_at j (body_of lay (around_here lay r) r.now).slots)
    → gs ≡ fs ++ s ∷ [] → slot_at n (body_of lay (around_here lay r) r.now).slots ≡ Some s
    → (j : ℕ) → j < suc n → slice_get gs j ≡ slot_at j (body_of lay (around_here lay r) r.now).slots
slots_more lay r n fs gs s many before more here j l = by (cases_lt j n)
  where
    by : (j < n) ⊎ (n ≤ j) → slice_get gs j ≡ slot_at j (body_of lay (around_here lay r) r.now).slots
    by (inl k) = ap (λ hs. slice_get hs j) more ∙ (get_front fs s j (omega (arith, many, k)) ∙ before j k)
    by (inr k) =
        let last : n ≡ j = omega (arith, l, k) in
        subst (λ i. slice_get gs i ≡ slot_at i (body_of lay (around_here lay r) r.now).slots) last
        (ap (λ hs. slice_get hs n) more ∙ (ap (slice_get (fs ++ s ∷ [])) (sym many) ∙ (get_last fs s ∙ sym here)))

-- one more of which the slot is known, where no more differs behind it
pub one_done : (lay : Laying) (r : Renewing) (n : ℕ) (d e : Done) (s : Slots) (x : Alert) → Became lay r.saw r.slots r.marks r.old r.now → AreDone lay r n d
    → fronts e.slots.items ≡ fronts d.slots.items ++ s ∷ [] → slot_at n (body_of lay (around_here lay r) r.now).slots ≡ Some s
    → e.reach.defaults ≡ (around_before lay (suc n) (around_here lay r) r.now).defaults
    → e.reach.alert ≡ with_alert d.reach.alert x → DiffersNoMoreBehind lay (with_alert d.reach.alert x) r.marks r.old r.now r.saw (around_here lay r) n
    → AreDone lay r (suc n) e
one_done lay r n d e s x became done slots here defaults alert behind =
    let a = around_here lay r in
    let both = with_alert d.reach.alert x in
    let grown = alerts_grow lay d.reach.alert x r.marks r.old r.now r.saw a n became.describes became.in_order done.tells done.agree in
    record {
      many = ap length slots ∙ (length-append (fronts d.slots.items) (s ∷ []) ∙ (let m = done.many in let o : length (fronts d.slots.items) + 1 ≡ suc n = omega (arith, m) in o));
      slots = slots_more lay r n (fronts d.slots.items) (fronts e.slots.items) s done.many done.slots slots here;
      defaults = defaults;
      agree = subst (λ z. AgreeBut z r.saw a) (sym alert) (more_may_differ d.reach.alert x r.saw a done.agree).0;
      raised =
          subst (λ z. HasAll z (raised r.marks r.now)) (sym alert)
          (has_all_of_it both d.reach.alert (raised r.marks r.now) (alerts_add_up d.reach.alert x).0 done.raised);
      tells =
          subst (TellsHere lay r (suc n)) (sym alert) (tells_of_one_more lay both r.marks r.old r.now r.saw a n grown behind);
    }

-- ---- All.

pub all_done : (lay : Laying) (r : Renewing) (n : ℕ) (d : Done) → AreDone lay r n d → length (tree.list_of r.now) ≡ n → slots_of d.slots.items ≡ (body_of lay (around_here lay r) r.now).slots
all_done lay r n d done all = same_slots (slots_of d.slots.items) (body_of lay (around_here lay r) r.now).slots (λ j. fronts_are_slots d.slots.items j ∙ by j (cases_lt j n))
  where
    by : (j : ℕ) → (j < n) ⊎ (n ≤ j) → slice_get (fronts d.slots.items) j ≡ slot_at j (body_of lay (around_here lay r) r.now).slots
    by j (inl l) = done.slots j l
    by j (inr l) =
        let m = done.many in
        slice_get_past (fronts d.slots.items) j (omega (arith, m, l)) ∙ sym (walked_past lay (around_here lay r) no_instances r.now j (omega (arith, all, l)))

-- ---- The place of the next one.

pub kept_of_slot : (s : Slots) (j : ℕ) → kept_at j s ≡ option_and_then (kept_at 0) (slot_at j s)
kept_of_slot no_slots j = none j
  where
    none : (j : ℕ) → kept_at j no_slots ≡ option_and_then (kept_at 0) (slot_at j no_slots)
    none zero = refl
    none (suc j) = refl
kept_of_slot (slot x s) zero = refl
kept_of_slot (slot x s) (suc j) = kept_of_slot s j
kept_of_slot (written w c i s) zero = refl
kept_of_slot (written w c i s) (suc j) = kept_of_slot s j

abbrev pub place_behind : Renewing → Done → Place
place_behind r d = record { body = r.now; number = length d.slots.items; slots = slots_of d.slots.items }

-- as the code makes it
pub place_made : (r : Renewing) (d : Done) (there : List Place) (n : ℕ) (xs : List Slot) → there ≡ record { body = r.now; number = n; slots = slots_of xs } ∷ r.places → n ≡ d.slots.len → xs ≡ d.slots.items
    → there ≡ place_behind r d ∷ r.places
place_made r d there n xs made many same =
    let all : d.slots.len ≡ length d.slots.items = omega (arith, d.slots.ok.0) in
    let count : n ≡ length d.slots.items = many ∙ all in
    made ∙ (λ j. record { body = r.now; number = count j; slots = slots_of (same j) } ∷ r.places)

pub done_many : (lay : Laying) (r : Renewing) (n : ℕ) (d : Done) → AreDone lay r n d → length d.slots.items ≡ n
done_many lay r n d done = sym (many_fronts d.slots.items) ∙ done.many

pub place_is : (lay : Laying) (r : Renewing) (n : ℕ) (d : Done) → AreDone lay r n d → IsScope lay r.places → IsScope lay (place_behind r d ∷ r.places)
place_is lay r n d done scope = (
  record {
    kept = λ j l.
        let m = done_many lay r n d done in
        kept_of_slot (slots_of d.slots.items) j
        ∙ (ap (option_and_then (kept_at 0)) (fronts_are_slots d.slots.items j ∙ done.slots j (omega (arith, l, m)))
        ∙ sym (kept_of_slot (body_of lay (around_here lay r) r.now).slots j));
  },
  scope,
)

-- ---- One more, with its slot by the place.

pub put_done : (lay : Laying) (r : Renewing) (n : ℕ) (d e : Done) (y : Item) (s : Slots) (x : Alert) → Became lay r.saw r.slots r.marks r.old r.now → AreDone lay r n d → IsItem n r.now y
    → s ≡ slot_there lay (place_behind r d ∷ r.places) y → fronts e.slots.items ≡ fronts d.slots.items ++ s ∷ []
    → e.reach.defaults ≡ after_default_item y d.reach.defaults → e.reach.alert ≡ with_alert d.reach.alert x
    → DiffersNoMoreBehind lay (with_alert d.reach.alert x) r.marks r.old r.now r.saw (around_here lay r) n → AreDone lay r (suc n) e
put_done lay r n d e y s x became done is here slots defaults alert behind =
    let a = around_here lay r in
    let m = done_many lay r n d done in
    one_done lay r n d e s x became done slots
    (slots_are_of_items lay a no_instances r.now n y is
    ∙ ap Some (ap (λ k. slot_of_item lay (around_before lay k a r.now) (instances_before lay k a no_instances r.now) y) (sym m) ∙ sym here))
    (defaults ∙ (defaults_behind lay (around_before lay n a r.now) y d.reach.defaults done.defaults ∙ ap (λ (z : Around). z.defaults) (sym (stands_behind_item lay a r.now n y is))))
    alert behind
