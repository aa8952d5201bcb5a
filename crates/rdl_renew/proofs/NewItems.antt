-- The slots of a body that are looked up item by item, from the first to the last, are those of the walked body.
use Rattle.std.proofs.Common.{◌≡◌, ℕ, zero, suc, ◌+◌, ◌<◌, ◌≤◌, List, [], ◌∷◌, ◌++◌, length, get_or, Some, None, ◌⊎◌, inl, inr, refl, sym, ap, subst, ◌∙◌, arith}
use Rattle.std.specs.Prelude.{slice_get}
use Rattle.std.proofs.lemmas.Bool.{cases_lt}
use Rattle.rdl_tree.specs.Component.{holder_kind}
use Rattle.rdl_tree.specs.Items.{Items, no_items, plain, holder, Holder, define, anonymous}
use Rattle.rdl_tree.specs.View.{list_of}
use Rattle.rdl_tree.specs.declared.description.Item.{Item}
use Rattle.rdl_tree.specs.declared.description.Item.TheVariants.{Define, Instance, Own, Default, Dynamic}
use Rattle.rdl_tree.specs.declared.shell.Kind.TheVariants.{Addrmap, Regfile, Reg, Field}
use Rattle.rdl_nodes.specs.declared.node.Slot.{Slot}
use Rattle.rdl_nodes.specs.Bodies.{after_default_item}
use Rattle.rdl_nodes.specs.View.{add, slots_of}
use Rattle.rdl_places.specs.Scopes.{Place, around_places, IsScope}
use Rattle.rdl_places.proofs.Reached.{slots_are_kept}
use Rattle.rdl_seen.specs.declared.values.Values.{Values}
use Rattle.rdl_seen.specs.Inside.{Inside, no_instances}
use Rattle.rdl_seen.specs.Layouts.{Laying}
use Rattle.rdl_seen.specs.Meaning.{around_before}
use Rattle.rdl_seen.specs.Node.{Around, after_plain, after_holder, plain_instances, holder_instances, walked, body_of, known}
use Rattle.rdl_seen.specs.OneByOne.{slot_at}
use Rattle.rdl_seen.specs.Passing.{behind_item}
use Rattle.rdl_seen.specs.Slots.{Slots, no_slots, slot, written}
use Rattle.rdl_seen.specs.Values.{put_named}
use Rattle.rdl_seen.proofs.OneByOne.{slots_are_of_items}
use Rattle.rdl_seen.proofs.Passing.{before_none, stands_behind_item}
use Rattle.rdl_renew.specs.Anew.{slot_there, slots_there}
use Rattle.rdl_renew.specs.Fronts.{front_of}
use Rattle.rdl_renew.proofs.FrontSlots.{first_slot, later_slot}

-- ---- Slots by their numbers.

-- slots that are the same one by one are the same
pub same_slots : (s t : Slots) → ((j : ℕ) → slot_at j s ≡ slot_at j t) → s ≡ t
same_slots no_slots no_slots h = refl
same_slots no_slots (slot y t) h = let e = h 0 in absurd cc
same_slots no_slots (written w c u t) h = let e = h 0 in absurd cc
same_slots (slot x s) no_slots h = let e = h 0 in absurd cc
same_slots (slot x s) (slot y t) h =
    let e = h 0 in
    let first : x ≡ y = cc in
    let rest = same_slots s t (λ j. h (suc j)) in
    λ i. slot (first i) (rest i)
same_slots (slot x s) (written w c u t) h = let e = h 0 in absurd cc
same_slots (written w c u s) no_slots h = let e = h 0 in absurd cc
same_slots (written w c u s) (slot y t) h = let e = h 0 in absurd cc
same_slots (written w c u s) (written z d v t) h =
    let e = h 0 in
    let kind : w ≡ z = cc in
    let core : c ≡ d = cc in
    let inside : u ≡ v = cc in
    let rest = same_slots s t (λ j. h (suc j)) in
    λ i. written (kind i) (core i) (inside i) (rest i)

-- those of a list, with one more behind them
slot_before : (xs : List Slot) (s : Slot) (j : ℕ) → j < length xs → slot_at j (slots_of (xs ++ s ∷ [])) ≡ slot_at j (slots_of xs)
slot_before [] s j l = absurd (omega arith)
slot_before (x ∷ xs) s zero l = first_slot x (slots_of (xs ++ s ∷ [])) ∙ sym (first_slot x (slots_of xs))
slot_before (x ∷ xs) s (suc j) l =
    later_slot x (slots_of (xs ++ s ∷ [])) j ∙ (slot_before xs s j (omega arith) ∙ sym (later_slot x (slots_of xs) j))

slot_last : (xs : List Slot) (s : Slot) → slot_at (length xs) (slots_of (xs ++ s ∷ [])) ≡ Some (front_of s)
slot_last [] s = first_slot s no_slots
slot_last (x ∷ xs) s =
    let n : length (x ∷ xs) ≡ suc (length xs) = omega arith in
    ap (λ k. slot_at k (add x (slots_of (xs ++ s ∷ [])))) n ∙ (later_slot x (slots_of (xs ++ s ∷ [])) (length xs) ∙ slot_last xs s)

pub slot_past : (xs : List Slot) (j : ℕ) → length xs ≤ j → slot_at j (slots_of xs) ≡ None
slot_past [] zero l = refl
slot_past [] (suc j) l = refl
slot_past (x ∷ xs) zero l = absurd (omega arith)
slot_past (x ∷ xs) (suc j) l = later_slot x (slots_of xs) j ∙ slot_past xs j (omega arith)

-- those of a walked body
holder_later : (lay : Laying) (a : Around) (before : Inside) (h : Holder) (body rest : Items) (i : ℕ)
    → slot_at (suc i) (walked lay a before (holder h body rest)).slots
    ≡ slot_at i (walked lay (after_holder h (known lay a (holder_kind h) body) a) (holder_instances h (known lay a (holder_kind h) body) before) rest).slots
holder_later lay a before (define n k) body rest i = refl
holder_later lay a before (anonymous s Addrmap) body rest i = refl
holder_later lay a before (anonymous s Regfile) body rest i = refl
holder_later lay a before (anonymous s Reg) body rest i = refl
holder_later lay a before (anonymous s Field) body rest i = refl

pub walked_past : (lay : Laying) (a : Around) (before : Inside) (t : Items) (i : ℕ) → length (list_of t) ≤ i → slot_at i (walked lay a before t).slots ≡ None
walked_past lay a before no_items zero l = refl
walked_past lay a before no_items (suc i) l = refl
walked_past lay a before (plain p rest) zero l = absurd (omega arith)
walked_past lay a before (plain p rest) (suc i) l = walked_past lay (after_plain p a) (plain_instances a p before) rest i (omega arith)
walked_past lay a before (holder h body rest) zero l = absurd (omega arith)
walked_past lay a before (holder h body rest) (suc i) l =
    let k = known lay a (holder_kind h) body in
    holder_later lay a before h body rest i ∙ walked_past lay (after_holder h k a) (holder_instances h k before) rest i (omega arith)

-- ---- Items that are done.

-- the first items of a body that stands at these places are done: these are their slots, and these the defaults behind them
pub record AreFirst (lay : Laying) (ps : List Place) (body : Items) (done : List Slot) (defaults : Values) : Type 0 where
  pub slots : (j : ℕ) → j < length done → slot_at j (slots_of done) ≡ slot_at j (body_of lay (around_places lay ps) body).slots
  pub stated : defaults ≡ (around_before lay (length done) (around_places lay ps) body).defaults

-- the place of the item behind them
abbrev pub place_behind : List Place → Items → List Slot → List Place
place_behind ps body done = record { body = body; number = length done; slots = slots_of done } ∷ ps

pub none_done : (lay : Laying) (ps : List Place) (body : Items) (defaults : Values) → defaults ≡ (around_places lay ps).defaults → AreFirst lay ps body [] defaults
none_done lay ps body defaults e = record {
  slots = λ j l. absurd (omega arith);
  stated = e ∙ ap (λ (a : Around). a.defaults) (sym (before_none lay (around_places lay ps) body));
}

pub is_in_order : (lay : Laying) (ps : List Place) (body : Items) (done : List Slot) (defaults : Values) → AreFirst lay ps body done defaults → IsScope lay ps
    → IsScope lay (place_behind ps body done)
is_in_order lay ps body done defaults first is =
    (slots_are_kept lay (around_places lay ps) (record { body = body; number = length done; slots = slots_of done }) first.slots, is)

-- as the code makes it
pub place_made : (ps there : List Place) (body : Items) (done xs : List Slot) (i : ℕ) → there ≡ record { body = body; number = i; slots = slots_of xs } ∷ ps → length done ≡ i → xs ≡ done
    → there ≡ place_behind ps body done
place_made ps there body done xs i made count same = made ∙ (λ j. record { body = body; number = sym count j; slots = slots_of (same j) } ∷ ps)

-- what reaches it
pub reached_behind : (lay : Laying) (ps there : List Place) (body : Items) (done : List Slot) (defaults : Values) → there ≡ place_behind ps body done → IsScope lay ps → AreFirst lay ps body done defaults
    → IsScope lay there × (defaults ≡ (around_places lay there).defaults)
reached_behind lay ps there body done defaults here is first =
    (subst (IsScope lay) (sym here) (is_in_order lay ps body done defaults first is), first.stated ∙ ap (λ qs. (around_places lay qs).defaults) (sym here))

item_from : (xs : List Item) (i : ℕ) (x : Item) → i < length xs → x ≡ get_or xs i x → slice_get xs i ≡ Some x
item_from [] i x l e = absurd (omega arith)
item_from (y ∷ ys) zero x l e = ap Some (sym e)
item_from (y ∷ ys) (suc i) x l e = item_from ys i x (omega arith) e

-- the item of this number, as the code reads it
pub item_there : (xs : List Item) (body : Items) (i n : ℕ) (x : Item) → xs ≡ list_of body → n ≡ i → i < length xs → x ≡ get_or xs i x → slice_get (list_of body) n ≡ Some x
item_there xs body i n x all same l e = ap (slice_get (list_of body)) same ∙ (ap (λ ys. slice_get ys i) (sym all) ∙ item_from xs i x l e)

pub defaults_behind : (lay : Laying) (a : Around) (x : Item) (v : Values) → v ≡ a.defaults → after_default_item x v ≡ (behind_item lay a x).defaults
defaults_behind lay a (Define n c) v e = e
defaults_behind lay a (Instance s of) v e = e
defaults_behind lay a (Own p y) v e = e
defaults_behind lay a (Default p y) v e = ap (put_named p y) e
defaults_behind lay a (Dynamic t p y) v e = e

length_more : (xs : List Slot) (s : Slot) → length (xs ++ s ∷ []) ≡ suc (length xs)
length_more [] s = refl
length_more (x ∷ xs) s = let e = length_more xs s in omega arith

pub one_longer : (new done : List Slot) (s : Slot) (i : ℕ) → new ≡ done ++ s ∷ [] → length done ≡ i → length new ≡ i + 1
one_longer new done s i more count = let n = length_more done s in ap length more ∙ omega arith

pub one_done : (lay : Laying) (ps : List Place) (body : Items) (done : List Slot) (defaults after : Values) (x : Item) (s : Slot) → AreFirst lay ps body done defaults
    → slice_get (list_of body) (length done) ≡ Some x → front_of s ≡ slot_there lay (place_behind ps body done) x → after ≡ after_default_item x defaults
    → AreFirst lay ps body (done ++ s ∷ []) after
one_done lay ps body done defaults after x s first got same brings = record { slots = λ j l. by j l (cases_lt j (length done)); stated = behind }
  where
    a : Around
    a = around_places lay ps

    number : length (done ++ s ∷ []) ≡ suc (length done)
    number = length_more done s

    by : (j : ℕ) → j < length (done ++ s ∷ []) → (j < length done) ⊎ (length done ≤ j) → slot_at j (slots_of (done ++ s ∷ [])) ≡ slot_at j (body_of lay a body).slots
    by j l (inl h) = slot_before done s j h ∙ first.slots j h
    by j l (inr h) =
        let at : length done ≡ j = omega (arith, number) in
        subst (λ k. slot_at k (slots_of (done ++ s ∷ [])) ≡ slot_at k (body_of lay a body).slots) at
        (slot_last done s ∙ (ap Some same ∙ sym (slots_are_of_items lay a no_instances body (length done) x got)))

    behind : after ≡ (around_before lay (length (done ++ s ∷ [])) a body).defaults
    behind =
        brings
        ∙ (defaults_behind lay (around_before lay (length done) a body) x defaults first.stated
        ∙ (ap (λ (c : Around). c.defaults) (sym (stands_behind_item lay a body (length done) x got)) ∙ ap (λ k. (around_before lay k a body).defaults) (sym number)))

-- an item that is done at a place behind those before it, which has their slots
pub done_there : (lay : Laying) (ps there : List Place) (body : Items) (done new : List Slot) (defaults after : Values) (x : Item) (s : Slot)
    → there ≡ place_behind ps body done → slice_get (list_of body) (length done) ≡ Some x
    → (IsScope lay there → defaults ≡ (around_places lay there).defaults → front_of s ≡ slot_there lay there x)
    → new ≡ done ++ s ∷ [] → after ≡ after_default_item x defaults → IsScope lay ps → AreFirst lay ps body done defaults → AreFirst lay ps body new after
done_there lay ps there body done new defaults after x s here got made more brings is first =
    subst (λ zs. AreFirst lay ps body zs after) (sym more) (one_done lay ps body done defaults after x s first got front brings)
  where
    front : front_of s ≡ slot_there lay (place_behind ps body done) x
    front = let reached = reached_behind lay ps there body done defaults here is first in made reached.0 reached.1 ∙ ap (λ qs. slot_there lay qs x) here

pub all_done : (lay : Laying) (ps : List Place) (body : Items) (done : List Slot) (defaults : Values) → AreFirst lay ps body done defaults → length (list_of body) ≤ length done
    → slots_of done ≡ slots_there lay ps body
all_done lay ps body done defaults first all = same_slots (slots_of done) (slots_there lay ps body) (λ j. by j (cases_lt j (length done)))
  where
    by : (j : ℕ) → (j < length done) ⊎ (length done ≤ j) → slot_at j (slots_of done) ≡ slot_at j (slots_there lay ps body)
    by j (inl l) = first.slots j l
    by j (inr l) = slot_past done j l ∙ sym (walked_past lay (around_places lay ps) no_instances body j (omega (arith, l, all)))
