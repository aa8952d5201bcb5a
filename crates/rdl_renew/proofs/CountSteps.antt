-- How what is placed is counted while a body is renewed: item by item.
use Rattle.std.proofs.Common.{◌≡◌, ℕ, suc, ◌+◌, ◌<◌, ◌≤◌, ◌||◌, not, Bool, true, false, List, [], ◌∷◌, ◌++◌, length, drop, get_or, Option, Some, None, refl, sym, ap, subst, ◌∙◌, arith, add-one}
use Rattle.std.specs.Prelude.{IfOk, OnOk, Result, Ok, Err, slice_get, option_and_then}
use Rattle.std.proofs.lemmas.Bool.{and_parts}
use Rattle.rdl_tree.specs.Items.{Items}
use Rattle.rdl_tree.specs.Weight.{capped}
use Rattle.rdl_tree.specs.View as tree
use Rattle.rdl_tree.specs.View.{add, items_of}
use Rattle.rdl_tree.specs.declared.description.Component.{Component}
use Rattle.rdl_tree.specs.declared.description.Item.{Item}
use Rattle.rdl_tree.specs.declared.description.Item.TheVariants.{Define, Instance, Own, Default, Dynamic}
use Rattle.rdl_tree.specs.declared.description.Of.TheVariants.{Named, Anonymous}
use Rattle.rdl_marks.specs.Marks.{Firsts, Marks}
use Rattle.rdl_marks.specs.View.{Trace, old_item, same_item}
use Rattle.rdl_marks.specs.Was.{trace_of}
use Rattle.rdl_nodes.specs.Placed.{all_placed, placed_over, CountsOn}
use Rattle.rdl_nodes.specs.View.{slots_of}
use Rattle.rdl_nodes.specs.declared.node.Slot.{Slot}
use Rattle.rdl_nodes.proofs.Bodies.{items_at, items_past, items_all}
use Rattle.rdl_nodes.proofs.Counts.{counts_so, counts_none, counts_both}
use Rattle.rdl_places.specs.Reached.{instances_at}
use Rattle.rdl_places.specs.Scopes.{Place, around_places, IsScope}
use Rattle.rdl_seen.specs.declared.alert.Alert.{Alert}
use Rattle.rdl_seen.specs.declared.property_set.PropertySet.{PropertySet}
use Rattle.rdl_seen.specs.Alert.{no_alert}
use Rattle.rdl_seen.specs.Layouts.{Laying}
use Rattle.rdl_seen.specs.Meaning.{around_before, kept_at}
use Rattle.rdl_seen.specs.PropertySet.{with_properties}
use Rattle.rdl_seen.specs.Slots.{Slots, no_slots, slot, written, Node}
use Rattle.rdl_seen.proofs.Bits.{meet_or}
use Rattle.rdl_renew.specs.declared.done.Done.{Done}
use Rattle.rdl_renew.specs.AlikeSlots.{tells_of_width, are_alike}
use Rattle.rdl_renew.specs.Anew.{slot_there, slots_there}
use Rattle.rdl_renew.specs.Counting.{item_placed, stayed_placed, CountsItem}
use Rattle.rdl_renew.specs.Deaf.{listens_to_nothing, is_first_settled}
use Rattle.rdl_renew.specs.Fronts.{front_of, fronts}
use Rattle.rdl_renew.specs.Placed.{in_body, placed_told, placed_in, placed_stayed, placed_of, sets_width}
use Rattle.rdl_renew.specs.Renewing.{Renewing, AreDone, IsNext, IsMadeAnew, IsSettledAt, kept_component, written_of, BecameComponent}
use Rattle.rdl_renew.proofs.Alone.{was_false}
use Rattle.rdl_renew.proofs.FrontSlots.{fronts_are_slots, got_front}
use Rattle.rdl_renew.proofs.ItemSteps.{reached_there, was_there, inside_in_order, became_component}
use Rattle.rdl_renew.proofs.OneDone.{get_last, kept_of_slot, place_behind}
use Rattle.rdl_renew.proofs.PlacedItems.{anew_placed, stayed_item, bare_placed, unkept_placed, settled_placed, body_is}
use Rattle.rdl_renew.proofs.Raised.{from_there}

-- where a call gave something, what follows from it
pub if_ok : {T E : Type 0} {P Q : T → Type 0} (o : Result T E) → IfOk o P → ((v : T) → P v → Q v) → IfOk o Q
if_ok (Ok v) h f = f v h
if_ok (Err e) h f = tt

pub if_both : {T E : Type 0} {P Q R : T → Type 0} (o : Result T E) → IfOk o P → IfOk o Q → ((v : T) → P v → Q v → R v) → IfOk o R
if_both (Ok v) h g f = f v h g
if_both (Err e) h g f = tt

pub on_two : {T E A B D : Type 0} (o : Result T E) → OnOk o A → OnOk o B → (A → B → D) → OnOk o D
on_two (Ok v) a b f = f a b
on_two (Err e) a b f = tt

-- ---- The default width of fields.

-- two sets of properties together have those of each
pub width_either : (s t : PropertySet) (x : Alert) → x.properties ≡ with_properties s t → tells_of_width x ≡ (tells_of_width (record x { properties = s }) || tells_of_width (record x { properties = t }))
width_either s t x same = ap (λ (p : PropertySet). tells_of_width (record x { properties = p })) same ∙ meet_or s.bits t.bits 4

-- ---- One item more.

-- what is kept of it
kept_put : (lay : Laying) (r : Renewing) (n : ℕ) (d e : Done) (x : Slots) → AreDone lay r n d → AreDone lay r (suc n) e → fronts e.slots.items ≡ fronts d.slots.items ++ x ∷ []
    → kept_at n (slots_there lay r.places r.now) ≡ kept_at 0 x
kept_put lay r n d e x before done more =
    let low : n < suc n = omega arith in
    kept_of_slot (slots_there lay r.places r.now) n
    ∙ ap (option_and_then (kept_at 0))
    (sym (done.slots n low) ∙ (ap (λ hs. slice_get hs n) more ∙ (ap (slice_get (fronts d.slots.items ++ x ∷ [])) (sym before.many) ∙ get_last (fronts d.slots.items) x)))

-- that is made anew
pub new_counted : (lay : Laying) (r : Renewing) (n : ℕ) (d e : Done) (y : Item) (t : Trace) (s : Slot) (there : List Place) (a b : ℕ) → there ≡ place_behind r d ∷ r.places → IsNext lay r n d y t → IsMadeAnew t
    → (IsScope lay there → d.reach.defaults ≡ (around_places lay there).defaults → front_of s ≡ slot_there lay there y) → CountsOn a b (all_placed (front_of s))
    → AreDone lay r (suc n) e → fronts e.slots.items ≡ fronts d.slots.items ++ front_of s ∷ [] → CountsItem lay r (tells_of_width d.reach.alert) n t y a b
new_counted lay r n d e y t s there a b here next anew made counted done more =
    let reached = reached_there lay r n d there next.done next.scope here in
    let is = made reached.0 reached.1 in
    let w = tells_of_width d.reach.alert in
    counts_so a b
    (ap all_placed is
    ∙ (sym (anew_placed lay (around_places lay there) (instances_at lay there) w r.slots t y anew)
    ∙ ap (λ k. item_placed w r.slots t k y) (ap (kept_at 0) (sym is) ∙ sym (kept_put lay r n d e (front_of s) next.done done more))))
    counted

-- that stayed
pub stayed_became : (lay : Laying) (r : Renewing) (n : ℕ) (d : Done) (y : Item) (number : ℕ) (firsts : Firsts) (inside : Marks) (kept : Option Node) → IsNext lay r n d y (old_item number firsts inside)
    → kept ≡ kept_at number r.slots → BecameComponent lay (around_before lay number r.saw r.old) kept inside y
stayed_became lay r n d y number firsts inside kept next keeps =
    became_component lay r.saw r.old number inside y r.slots kept
    (was_there r.old number firsts inside y (from_there r.marks r.old r.now n (old_item number firsts inside) y next.became.describes next.there next.told))
    (inside_in_order r.marks n number firsts inside next.became.in_order next.told) next.became.kept keeps

pub stayed_counted : (lay : Laying) (r : Renewing) (n : ℕ) (d e : Done) (y : Item) (number : ℕ) (firsts : Firsts) (inside : Marks) (kept : Option Node) (s : Slot) (a b : ℕ)
    → IsNext lay r n d y (old_item number firsts inside) → firsts.is_moved ≡ false → kept ≡ kept_at number r.slots
    → CountsOn a b (stayed_placed (tells_of_width d.reach.alert) inside kept (kept_at 0 (front_of s)) y)
    → AreDone lay r (suc n) e → fronts e.slots.items ≡ fronts d.slots.items ++ front_of s ∷ [] → CountsItem lay r (tells_of_width d.reach.alert) n (old_item number firsts inside) y a b
stayed_counted lay r n d e y number firsts inside kept s a b next unmoved keeps counted done more =
    let w = tells_of_width d.reach.alert in
    let put = kept_put lay r n d e (front_of s) next.done done more in
    counts_so a b
    ((λ j. stayed_placed w inside (keeps j) (sym put j) y) ∙ sym (stayed_item w r.slots number firsts inside (kept_at n (slots_there lay r.places r.now)) y unmoved)) counted

-- with its component
pub component_counted : {E : Type 0} (y : Item) (c : Component) (n : Node) (w : Bool) (inside : Marks) (kept : Option Node) (a b : ℕ) (o : Result Slot E) → kept_component y ≡ Some c
    → CountsOn a b (placed_stayed (in_body c.body) w inside kept c.body (Some n)) → IfOk o (λ x. front_of x ≡ written (written_of y) n.core n.slots no_slots)
    → IfOk o (λ x. CountsOn a b (stayed_placed w inside kept (kept_at 0 (front_of x)) y))
component_counted y c n w inside kept a b o is counted made = if_ok o made
    (λ x front.
    counts_so a b
    (sym (body_is (λ body. placed_stayed (in_body body) w inside kept body (kept_at 0 (front_of x))) y c is ∙ ap (λ k. placed_stayed (in_body c.body) w inside kept c.body (kept_at 0 k)) front))
    counted)

-- that is passed over
untold : (x : Alert) (s : Slots) (k : Node) → is_first_settled x s ≡ true → kept_at 0 s ≡ Some k → tells_of_width x ≡ false
untold x no_slots k e f = absurd cc
untold x (slot s rest) k e f = absurd cc
untold x (written w core inside rest) k e f = was_false (tells_of_width x) (and_parts (not (tells_of_width x)) (listens_to_nothing w x core) e).0

pub passed_counted : (lay : Laying) (r : Renewing) (n : ℕ) (d e : Done) (y : Item) (number : ℕ) (s : Slot) (xs : List Slot) (a : ℕ) → IsNext lay r n d y (same_item number) → r.slots ≡ slots_of xs
    → slice_get xs number ≡ Some s → ((k : Node) → kept_at 0 (front_of s) ≡ Some k → tells_of_width d.reach.alert ≡ false)
    → AreDone lay r (suc n) e → fronts e.slots.items ≡ fronts d.slots.items ++ front_of s ∷ []
    → CountsItem lay r (tells_of_width d.reach.alert) n (same_item number) y a a
passed_counted lay r n d e y number s xs a next of there unset done more =
    let put = kept_put lay r n d e (front_of s) next.done done more in
    let was : kept_at number r.slots ≡ kept_at 0 (front_of s) =
    ap (kept_at number) of ∙ (kept_of_slot (slots_of xs) number ∙ ap (option_and_then (kept_at 0)) (fronts_are_slots xs number ∙ got_front xs number s there)) in
    counts_so a a
    (sym (settled_placed r.slots number (kept_at n (slots_there lay r.places r.now)) y (tells_of_width d.reach.alert) (put ∙ sym was) (λ k is. unset k (sym put ∙ is))))
    (counts_none a)

pub settled_counted : (lay : Laying) (r : Renewing) (n : ℕ) (d e : Done) (y : Item) (number : ℕ) (s : Slot) (xs : List Slot) (a : ℕ) → IsNext lay r n d y (same_item number) → r.slots ≡ slots_of xs
    → IsSettledAt d.reach.alert xs number s → AreDone lay r (suc n) e → fronts e.slots.items ≡ fronts d.slots.items ++ front_of s ∷ []
    → CountsItem lay r (tells_of_width d.reach.alert) n (same_item number) y a a
settled_counted lay r n d e y number s xs a next of settled done more =
    passed_counted lay r n d e y number s xs a next of settled.there (λ k is. untold d.reach.alert (front_of s) k settled.settled is) done more

-- the same of another name for what is told
pub on_told : {T E : Type 0} (lay : Laying) (r : Renewing) (n : ℕ) (y : Item) (t u : Trace) (w : Bool) (a b : ℕ) (o : Result T E) → u ≡ t → OnOk o (CountsItem lay r w n t y a b) → OnOk o (CountsItem lay r w n u y a b)
on_told lay r n y t u w a b o e h = subst (λ z. OnOk o (CountsItem lay r w n z y a b)) (sym e) h

-- without a component of its own
pub bare_counted : (lay : Laying) (ps : List Place) (w : Bool) (inside : Marks) (before : Option Node) (y : Item) (x : Slots) (a b : ℕ) → kept_component y ≡ None → x ≡ slot_there lay ps y → CountsOn a b (all_placed x)
    → CountsOn a b (stayed_placed w inside before (kept_at 0 x) y)
bare_counted lay ps w inside before y x a b none is counted =
    counts_so a b
    (ap all_placed is
    ∙ (sym (bare_placed lay (around_places lay ps) (instances_at lay ps) w inside before y none) ∙ ap (λ s. stayed_placed w inside before (kept_at 0 s) y) (sym is))) counted

-- of which nothing was kept
pub unkept_counted : (lay : Laying) (ps : List Place) (w : Bool) (inside : Marks) (before : Option Node) (y : Item) (x : Slots) (a b : ℕ) → before ≡ None → x ≡ slot_there lay ps y → CountsOn a b (all_placed x)
    → CountsOn a b (stayed_placed w inside before (kept_at 0 x) y)
unkept_counted lay ps w inside before y x a b none is counted =
    counts_so a b
    (ap all_placed is
    ∙ (sym (unkept_placed lay (around_places lay ps) (instances_at lay ps) w inside y) ∙ (λ j. stayed_placed w inside (sym none j) (kept_at 0 (sym is j)) y))) counted

-- ---- A component whose items are done.

pub finished_counted : (body : Items) (inside : Marks) (before n : Node) (was done : Slots) (told width : Bool) (a m b : ℕ) → told ≡ width → was ≡ before.slots → n.slots ≡ done
    → CountsOn a m (placed_in width inside was done 0 body) → CountsOn m b (placed_over (are_alike (not told) inside before.slots done body) before.core n.core)
    → CountsOn a b (placed_over (are_alike (not width) inside before.slots n.slots body) before.core n.core + placed_in width inside before.slots n.slots 0 body)
finished_counted body inside before n was done told width a m b same kept slots first last =
    let own : placed_over (are_alike (not told) inside before.slots done body) before.core n.core ≡ placed_over (are_alike (not width) inside before.slots n.slots body) before.core n.core =
    λ j. placed_over (are_alike (not (same j)) inside before.slots (sym slots j) body) before.core n.core in
    let inner : placed_in width inside was done 0 body ≡ placed_in width inside before.slots n.slots 0 body = λ j. placed_in width inside (kept j) (sym slots j) 0 body in
    counts_so a b (omega (arith, own, inner)) (counts_both a m b (placed_in width inside was done 0 body) (placed_over (are_alike (not told) inside before.slots done body) before.core n.core) first last)

-- ---- A body.

-- what is placed for an item, and for those behind it
add_placed : (w : Bool) (m : Marks) (before now : Slots) (n : ℕ) (e : Trace) (y : Item) (rest : Items) → trace_of m n ≡ Some e
    → placed_in w m before now n (add y rest) ≡ item_placed w before e (kept_at n now) y + placed_in w m before now (suc n) rest
add_placed w m before now n e (Define k c) rest told = ap (λ t. placed_told (in_body c.body) w before t c.body (kept_at n now) + placed_in w m before now (suc n) rest) told
add_placed w m before now n e (Instance s (Named t)) rest told = omega arith
add_placed w m before now n e (Instance s (Anonymous c)) rest told = ap (λ t. placed_told (in_body c.body) w before t c.body (kept_at n now) + placed_in w m before now (suc n) rest) told
add_placed w m before now n e (Own p v) rest told = omega arith
add_placed w m before now n e (Default p v) rest told = omega arith
add_placed w m before now n e (Dynamic t p v) rest told = omega arith

-- so many items are counted, and the others are left
pub record AreCounted (w : Bool) (m : Marks) (before now : Slots) (body : Items) (xs : List Item) (i a b : ℕ) : Type 0 where
  pub count : ℕ
  pub counted : CountsOn a b count
  pub left : count + placed_in w m before now i (items_of (drop i xs)) ≡ placed_in w m before now 0 body

pub none_counted : (w : Bool) (m : Marks) (before now : Slots) (body : Items) (xs : List Item) (a : ℕ) → xs ≡ tree.list_of body → AreCounted w m before now body xs 0 a a
none_counted w m before now body xs a all =
    let same = ap (placed_in w m before now 0) (items_all xs body all) in
    record { count = 0; counted = counts_none a; left = omega (arith, same) }

pub one_counted : (w v : Bool) (m : Marks) (before now : Slots) (body : Items) (xs : List Item) (i a b c : ℕ) (e : Trace) (y : Item) → AreCounted w m before now body xs i a b → i < length xs → y ≡ get_or xs i y
    → trace_of m i ≡ Some e → v ≡ w → CountsOn b c (item_placed v before e (kept_at i now) y) → AreCounted w m before now body xs (i + 1) a c
one_counted w v m before now body xs i a b c e y were low is told same here =
    let k = item_placed w before e (kept_at i now) y in
    let one : CountsOn b c k = counts_so b c (ap (λ u. item_placed u before e (kept_at i now) y) same) here in
    let next : placed_in w m before now i (items_of (drop i xs)) ≡ k + placed_in w m before now (i + 1) (items_of (drop (i + 1) xs)) =
    ap (placed_in w m before now i) (items_at xs i y low is)
    ∙ (add_placed w m before now i e y (items_of (drop (i + 1) xs)) told ∙ ap (λ j. k + placed_in w m before now j (items_of (drop (i + 1) xs))) (sym (add-one i))) in
    let left = were.left in
    record { count = were.count + k; counted = counts_both a b c were.count k were.counted one; left = omega (arith, left, next) }

pub all_counted : (w : Bool) (m : Marks) (before now done : Slots) (body : Items) (xs : List Item) (i a b : ℕ) → AreCounted w m before now body xs i a b → length xs ≤ i → done ≡ now
    → CountsOn a b (placed_in w m before done 0 body)
all_counted w m before now done body xs i a b were past same =
    let none = ap (placed_in w m before now i) (items_past xs i past) in
    let left = were.left in
    let all = ap (λ s. placed_in w m before s 0 body) same in
    counts_so a b (omega (arith, none, left, all)) were.counted

-- ---- A map.

pub map_counted : (m : Marks) (tree was : Slots) (body : Items) (done now : Slots) (x : Alert) (b : ℕ) → x ≡ no_alert → was ≡ tree → now ≡ done
    → CountsOn 0 b (placed_in (tells_of_width x || sets_width m body) m was done 0 body) → b ≡ capped (placed_of m tree body now)
map_counted m tree was body done now x b none kept same counted =
    let k : placed_in (tells_of_width x || sets_width m body) m was done 0 body ≡ placed_of m tree body now =
    λ j. placed_in (tells_of_width (none j) || sets_width m body) m (kept j) (sym same j) 0 body in
    counted 0 refl ∙ ap capped (omega (arith, k))
