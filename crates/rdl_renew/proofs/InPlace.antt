-- How the items of a body that is renewed are like what they were.
use Rattle.std.proofs.Common.{◌≡◌, ℕ, zero, suc, ◌+◌, ◌<◌, ◌≤◌, ◌^◌, min, ◌&&◌, ◌||◌, Bool, true, false, List, [], ◌∷◌, ◌++◌, length, drop, get_or, Option, Some, None, ◌⊎◌, inl, inr, refl, sym, ap, subst, ◌∙◌, arith, add-one, length-append}
use Rattle.std.specs.Prelude.{slice_get, option_map}
use Rattle.std.proofs.lemmas.Bool.{cases_lt}
use Rattle.std.proofs.lemmas.Option.{slice_get_within, slice_get-map}
use Rattle.rdl_tree.specs.Items.{Items, no_items, plain, holder, define, anonymous}
use Rattle.rdl_tree.specs.View as tree
use Rattle.rdl_tree.specs.Weight.{plain_weight, holder_weight}
use Rattle.rdl_tree.specs.declared.description.Item.{Item}
use Rattle.rdl_tree.specs.declared.description.Item.TheVariants.{Define, Instance, Own, Default, Dynamic}
use Rattle.rdl_tree.specs.declared.description.Of.TheVariants.{Named, Anonymous}
use Rattle.rdl_tree.specs.declared.shell.Kind.{Kind}
use Rattle.rdl_tree.specs.declared.shell.Shell.{Shell}
use Rattle.rdl_tree.specs.declared.shell.Kind.TheVariants.{Addrmap, Regfile, Reg, Field}
use Rattle.rdl_tree.proofs.Rounds as tree_rounds
use Rattle.rdl_marks.specs.Describes.{IsItem}
use Rattle.rdl_marks.specs.Marks.{Marks, no_firsts, no_marks}
use Rattle.rdl_marks.specs.View.{Trace, old_item, same_item}
use Rattle.rdl_marks.specs.Was.{trace_of}
use Rattle.rdl_marks.proofs.From.{IsFrom}
use Rattle.rdl_nodes.specs.Bare.{StaysOwn}
use Rattle.rdl_nodes.specs.Parts.{of_item}
use Rattle.rdl_nodes.specs.SameInside.{HaveSame, AddsSame, StaysInside}
use Rattle.rdl_nodes.specs.View.{slots_of}
use Rattle.rdl_nodes.specs.declared.node.Slot.{Slot}
use Rattle.rdl_nodes.specs.declared.node.Slot.TheVariants as slots
use Rattle.rdl_nodes.proofs.Bodies.{drop_at, drop_past}
use Rattle.rdl_nodes.proofs.Counts.{stated_same}
use Rattle.rdl_nodes.proofs.SameInside.{own_adds, default_adds, dynamic_adds, field_adds, unknown_adds, named_adds, type_adds, part_adds, seen_own}
use Rattle.rdl_seen.specs.declared.values.Values.{Values}
use Rattle.rdl_seen.specs.Contents.{items_weight, own_weight}
use Rattle.rdl_seen.specs.Fields.{Of, of_field, of_seen, of_none, first_of, says_bits}
use Rattle.rdl_seen.specs.Inside.{Inside, no_instances}
use Rattle.rdl_seen.specs.Layouts.{Laying}
use Rattle.rdl_seen.specs.Node.{Around, after_plain, after_holder, plain_instances, holder_instances, known, walked, body_of}
use Rattle.rdl_seen.specs.OneByOne.{slot_at}
use Rattle.rdl_seen.specs.Slots.{Core, Slots, no_slots, slot, written}
use Rattle.rdl_seen.specs.Values.{no_values, after_own, own_over, own_values}
use Rattle.rdl_renew.specs.declared.done.Done.{Done}
use Rattle.rdl_renew.specs.AlikeSlots.{of_at, takes_same, is_alike, is_told_alike, all_alike}
use Rattle.rdl_renew.specs.Anew.{slots_there}
use Rattle.rdl_renew.specs.Fronts.{front_of, fronts}
use Rattle.rdl_renew.specs.InPlace.{IsInPlace, AreInPlace, AddSameAt, AddSame, AddAsSaid, AddsAsSaid, IsLikeAs, bare_items, InPlaceAreBare, of_last, IsLike}
use Rattle.rdl_renew.specs.Renewing.{Renewing, Became, WasLaidOut, AreDone}
use Rattle.rdl_renew.proofs.AlikeItems.{at_slot}
use Rattle.rdl_renew.proofs.AlikeSteps.{by_mode_own, same_alike}
use Rattle.rdl_renew.proofs.FrontSlots.{fronts_are_slots}
use Rattle.rdl_renew.proofs.OneDone.{get_last, get_front, done_many}
use Rattle.rdl_renew.proofs.Outside.{shut, item_outside}
use Rattle.rdl_renew.proofs.Raised.{from_there}

-- ---- What a body states and weighs doesn't depend on what is inside its items.

own_bare : (v : Values) (t : Items) → own_over v (bare_items t) ≡ own_over v t
own_bare v no_items = refl
own_bare v (plain p rest) = own_bare (after_own p v) rest
own_bare v (holder h body rest) = own_bare v rest

weight_bare : (t : Items) → items_weight (bare_items t) ≡ items_weight t
weight_bare no_items = refl
weight_bare (plain p rest) = ap (λ n. plain_weight p + n) (weight_bare rest)
weight_bare (holder h body rest) = ap (λ n. holder_weight h + n) (weight_bare rest)

states_same : (old now : Items) → bare_items old ≡ bare_items now → own_values old ≡ own_values now
states_same old now e = sym (own_bare no_values old) ∙ (ap (own_over no_values) e ∙ own_bare no_values now)

weighs_same : (old now : Items) → bare_items old ≡ bare_items now → own_weight old ≡ own_weight now
weighs_same old now e = ap (λ n. min n (2 ^ 31)) (sym (weight_bare old) ∙ (ap items_weight e ∙ weight_bare now))

-- ---- Items that are in place.

abbrev bare_one : Item → Items
bare_one y = bare_items (tree.add y no_items)

-- these items, and then those
abbrev join : Items → Items → Items
join no_items more = more
join (plain p rest) more = plain p (join rest more)
join (holder h body rest) more = holder h body (join rest more)

one_more : (y : Item) (rest : Items) → bare_items (tree.add y rest) ≡ join (bare_one y) (bare_items rest)
one_more (Define n c) rest = refl
one_more (Instance s (Named t)) rest = refl
one_more (Instance s (Anonymous c)) rest = refl
one_more (Own p v) rest = refl
one_more (Default p v) rest = refl
one_more (Dynamic t p v) rest = refl

bare_shut : (y : Item) → bare_one (shut y) ≡ bare_one y
bare_shut (Define n c) = refl
bare_shut (Instance s (Named t)) = refl
bare_shut (Instance s (Anonymous c)) = refl
bare_shut (Own p v) = refl
bare_shut (Default p v) = refl
bare_shut (Dynamic t p v) = refl

-- an item that was there, but for what is inside it
item_bare : (old : Items) (n : ℕ) (inside : Marks) (y : Item) → IsFrom old (old_item n no_firsts inside) y → (z : Item) × IsItem n old z × (bare_one z ≡ bare_one y)
item_bare old n inside y h = let was = item_outside old n inside y h in (was.0, was.1, sym (bare_shut was.0) ∙ (ap bare_one was.2 ∙ bare_shut y))

some_is : (x z : Item) → ◌≡◌ {A = Option Item} (Some x) (Some z) → x ≡ z
some_is x z e = cc

same_bare : (xs ys : List Item) → length xs ≡ length ys → ((j : ℕ) (y : Item) → slice_get ys j ≡ Some y → (z : Item) × (slice_get xs j ≡ Some z) × (bare_one z ≡ bare_one y))
    → bare_items (tree.items_of xs) ≡ bare_items (tree.items_of ys)
same_bare [] [] e each = refl
same_bare [] (y ∷ ys) e each = absurd (omega (arith, e))
same_bare (x ∷ xs) [] e each = absurd (omega (arith, e))
same_bare (x ∷ xs) (y ∷ ys) e each =
    let here = each 0 y refl in
    let first : bare_one x ≡ bare_one y = ap bare_one (some_is x here.0 here.1) ∙ here.2 in
    let rest = same_bare xs ys (omega (arith, e)) (λ j z got. each (suc j) z got) in
    one_more x (tree.items_of xs) ∙ ((λ i. join (first i) (rest i)) ∙ sym (one_more y (tree.items_of ys)))

pub in_place_are_bare : InPlaceAreBare
in_place_are_bare m old now d each many =
    ap bare_items (sym (tree_rounds.items_of-list_of old))
    ∙ (same_bare (tree.list_of old) (tree.list_of now) many
    (λ j y got.
    let told = each j (slice_get_within (tree.list_of now) j y got) in
    item_bare old j told.0 y (from_there m old now j (old_item j no_firsts told.0) y d got told.1))
    ∙ ap bare_items (tree_rounds.items_of-list_of now))

-- ---- As many slots as items.

abbrev count_of : Slots → ℕ
count_of no_slots = 0
count_of (slot s rest) = suc (count_of rest)
count_of (written w c inside rest) = suc (count_of rest)

count_listed : (xs : List Slot) → count_of (slots_of xs) ≡ length xs
count_listed [] = refl
count_listed (slots.Own ∷ xs) = ap suc (count_listed xs)
count_listed (slots.Default p ∷ xs) = ap suc (count_listed xs)
count_listed (slots.Dynamic v ∷ xs) = ap suc (count_listed xs)
count_listed (slots.Field f ∷ xs) = ap suc (count_listed xs)
count_listed (slots.Named class s ∷ xs) = ap suc (count_listed xs)
count_listed (slots.Define class s n ∷ xs) = ap suc (count_listed xs)
count_listed (slots.Part n ∷ xs) = ap suc (count_listed xs)

count_walked : (lay : Laying) (a : Around) (before : Inside) (t : Items) → count_of (walked lay a before t).slots ≡ length (tree.list_of t)
count_walked lay a before no_items = refl
count_walked lay a before (plain p rest) = ap suc (count_walked lay (after_plain p a) (plain_instances a p before) rest)
count_walked lay a before (holder (define n k) body rest) =
    let known = known lay a k body in ap suc (count_walked lay (after_holder (define n k) known a) before rest)
count_walked lay a before (holder (anonymous s Addrmap) body rest) =
    ap suc (count_walked lay a (holder_instances (anonymous s Addrmap) (known lay a Addrmap body) before) rest)
count_walked lay a before (holder (anonymous s Regfile) body rest) =
    ap suc (count_walked lay a (holder_instances (anonymous s Regfile) (known lay a Regfile body) before) rest)
count_walked lay a before (holder (anonymous s Reg) body rest) =
    ap suc (count_walked lay a (holder_instances (anonymous s Reg) (known lay a Reg body) before) rest)
count_walked lay a before (holder (anonymous s Field) body rest) =
    ap suc (count_walked lay a (holder_instances (anonymous s Field) (known lay a Field body) before) rest)

-- the slots that were kept of a body are as many as its items
many_slots : (lay : Laying) (a : Around) (t : Items) (xs : List Slot) → slots_of xs ≡ (body_of lay a t).slots → length xs ≡ length (tree.list_of t)
many_slots lay a t xs e = sym (count_listed xs) ∙ (ap count_of e ∙ count_walked lay a no_instances t)

-- so what was kept of its own assignments and weights holds still
pub stays_own : (lay : Laying) (k : Kind) (old now : Items) (saw sees : Around) (m : Marks) (before : Core) (slots : Slots) (was done : List Slot) (same : Bool)
    → Became lay saw slots m old now → WasLaidOut lay saw k old before → slots_of was ≡ slots → slots_of done ≡ (body_of lay sees now).slots
    → (same ≡ true → AreInPlace m (length (tree.list_of now)) × (length was ≡ length done)) → StaysOwn same before now
stays_own lay k old now saw sees m before slots was done same became laid kept there place = λ yes.
    let here = place yes in
    let many = sym (many_slots lay saw old was (kept ∙ became.kept)) ∙ (here.1 ∙ many_slots lay sees now done there) in
    let bare = in_place_are_bare m old now became.describes here.0 many in
    (laid.own ∙ states_same old now bare, laid.own_weight ∙ weighs_same old now bare)

-- ---- Items that add the same to what is inside, but for sums.

same_on : (s t : Slots) → count_of s ≡ count_of t → AddSame (count_of s) s t → HaveSame s t
same_on no_slots no_slots e each = record { levels = refl; depth = refl; has_instances = refl; has_empty = refl; sound = refl; asks = refl; is_assigned = refl }
same_on no_slots (slot y t) e each = absurd (omega (arith, e))
same_on no_slots (written w c inside t) e each = absurd (omega (arith, e))
same_on (slot x s) no_slots e each = absurd (omega (arith, e))
same_on (written v b within s) no_slots e each = absurd (omega (arith, e))
same_on (slot x s) (slot y t) e each =
    each 0 (omega arith) (slot x no_slots) (slot y no_slots) refl refl s t (same_on s t (omega (arith, e)) (λ j l. each (suc j) (omega (arith, l))))
same_on (slot x s) (written w c inside t) e each =
    each 0 (omega arith) (slot x no_slots) (written w c inside no_slots) refl refl s t (same_on s t (omega (arith, e)) (λ j l. each (suc j) (omega (arith, l))))
same_on (written v b within s) (slot y t) e each =
    each 0 (omega arith) (written v b within no_slots) (slot y no_slots) refl refl s t (same_on s t (omega (arith, e)) (λ j l. each (suc j) (omega (arith, l))))
same_on (written v b within s) (written w c inside t) e each =
    each 0 (omega arith) (written v b within no_slots) (written w c inside no_slots) refl refl s t (same_on s t (omega (arith, e)) (λ j l. each (suc j) (omega (arith, l))))

many_fronts : (xs : List Slot) → length (fronts xs) ≡ length xs
many_fronts [] = refl
many_fronts (x ∷ xs) = ap suc (many_fronts xs)

-- what is inside a body is what was inside it, if its items say so, and there are as many
pub stays_inside : (slots : Slots) (was : List Slot) (d : Done) (same : Bool) → slots_of was ≡ slots → AddAsSaid slots d → (same ≡ true → (d.add_same ≡ true) × (length was ≡ length d.slots.items))
    → StaysInside same slots (slots_of d.slots.items)
stays_inside slots was d same kept said told = λ yes.
    let here = told yes in
    let first : count_of slots ≡ length was = ap count_of (sym kept) ∙ count_listed was in
    let all = said here.0 in
    same_on slots (slots_of d.slots.items) (first ∙ (here.1 ∙ sym (count_listed d.slots.items))) (λ j l. all j (omega (arith, l, first, here.1)))

-- the last one
last_front : (d e : Done) (f : Slots) → fronts e.slots.items ≡ fronts d.slots.items ++ f ∷ [] → slice_get (fronts e.slots.items) (length d.slots.items) ≡ Some f
last_front d e f slots =
    ap (λ fs. slice_get fs (length d.slots.items)) slots
    ∙ (ap (slice_get (fronts d.slots.items ++ f ∷ [])) (sym (many_fronts d.slots.items)) ∙ get_last (fronts d.slots.items) f)

some_front : (f g : Slots) → ◌≡◌ {A = Option Slots} (Some f) (Some g) → f ≡ g
some_front f g e = cc

-- the slot of a number in a list
at_front : (xs : List Slot) (n : ℕ) (x : Slot) (f : Slots) → slice_get xs n ≡ Some x → slot_at n (slots_of xs) ≡ Some f → f ≡ front_of x
at_front xs n x f there is = some_front f (front_of x) (sym is ∙ (fronts_are_slots xs n ∙ (slice_get-map front_of xs n ∙ ap (option_map front_of) there)))

pub adds_at : (before now : List Slot) (n : ℕ) (x y : Slot) → slice_get before n ≡ Some x → slice_get now n ≡ Some y → AddsSame (front_of x) (front_of y) → AddSameAt n (slots_of before) (slots_of now)
adds_at before now n x y was there same = λ f g h k.
    subst (λ q. AddsSame q g) (sym (at_front before n x f was h)) (subst (λ q. AddsSame (front_of x) q) (sym (at_front now n y g there k)) same)

own_same : (x : Slot) → AddsSame (front_of x) (front_of x)
own_same slots.Own = own_adds
own_same (slots.Default p) = default_adds p p
own_same (slots.Dynamic v) = dynamic_adds v v
own_same (slots.Field f) = field_adds f f
own_same (slots.Named class None) = unknown_adds class
own_same (slots.Named class (Some r)) = named_adds class class r.value r.value refl (seen_own r.value)
own_same (slots.Define class s n) = type_adds class class (record n.value.core { seen = s.value }) (record n.value.core { seen = s.value }) n.value.slots n.value.slots (seen_own s.value)
own_same (slots.Part n) = part_adds n.value.core n.value.core n.value.slots n.value.slots (seen_own n.value.core.seen)

-- an item that is passed over adds what it added
pub kept_add : (before : List Slot) (d e : Done) (s : Slot) (n : ℕ) → slice_get before n ≡ Some s → fronts e.slots.items ≡ fronts d.slots.items ++ front_of s ∷ []
    → (e.add_same ≡ true → (d.add_same ≡ true) × (n ≡ length d.slots.items)) → AddsAsSaid (slots_of before) d e
kept_add before d e s n there slots one =
    let count = length d.slots.items in
    record {
      more = (front_of s, slots);
      same = λ so.
          let two = one so in (
            two.0,
            λ f g was is.
                let old : f ≡ front_of s = at_front before count s f (ap (slice_get before) (sym two.1) ∙ there) was in
                let new : g ≡ front_of s = some_front g (front_of s) (sym is ∙ (fronts_are_slots e.slots.items count ∙ last_front d e (front_of s) slots)) in
                subst (λ h. AddsSame h g) (sym old) (subst (λ h. AddsSame (front_of s) h) (sym new) (own_same s)),
          );
    }

-- one more that is done, of which that is told then
pub liken_add : (before : Slots) (d m e : Done) (n : ℕ) → IsLikeAs d m → e.slots ≡ m.slots → n ≡ length d.slots.items → (e.add_same ≡ true → (m.add_same ≡ true) × AddSameAt n before (slots_of m.slots.items)) → AddsAsSaid before d e
liken_add before d m e n like slots number told = record {
  more = (like.more.0, ap (λ v. fronts v.items) slots ∙ like.more.1);
  same = λ so.
      let two = told so in
      (sym like.add_same ∙ two.0, subst (λ k. AddSameAt k before (slots_of e.slots.items)) number (subst (λ v. AddSameAt n before (slots_of v.items)) (sym slots) two.1));
}

-- one more of which it is said
pub next_add : (before : Slots) (d e : Done) → AddAsSaid before d → AddsAsSaid before d e → AddAsSaid before e
next_add before d e was one = λ so.
    let two = one.same so in
    let count = length d.slots.items in
    let many : length e.slots.items ≡ count + 1 =
    sym (many_fronts e.slots.items) ∙ (ap length one.more.1 ∙ (length-append (fronts d.slots.items) (one.more.0 ∷ []) ∙ ap (λ n. n + 1) (many_fronts d.slots.items))) in
    λ j l. by two j (omega (arith, l, many)) (cases_lt j count)
  where
    by : (d.add_same ≡ true) × AddSameAt (length d.slots.items) before (slots_of e.slots.items) → (j : ℕ) → j < length d.slots.items + 1 → ((j < length d.slots.items) ⊎ (length d.slots.items ≤ j)) → AddSameAt j before (slots_of e.slots.items)
    by two j l (inl less) = λ f g there is.
        was two.0 j less f g there
        (fronts_are_slots d.slots.items j
        ∙ (sym (get_front (fronts d.slots.items) one.more.0 j (let m = many_fronts d.slots.items in omega (arith, less, m)))
        ∙ (ap (λ fs. slice_get fs j) (sym one.more.1) ∙ (sym (fronts_are_slots e.slots.items j) ∙ is))))
    by two j l (inr least) = let at : length d.slots.items ≡ j = omega (arith, l, least) in subst (λ k. AddSameAt k before (slots_of e.slots.items)) at two.1

pub none_add : (before : Slots) (d : Done) → d.slots.items ≡ [] → AddAsSaid before d
none_add before d none = λ so j l. let e : length d.slots.items ≡ 0 = ap length none in absurd (omega (arith, l, e))

-- ---- Item by item.

pub next_in_place : (m : Marks) (i : ℕ) (d e : Done) (t : Trace) → (d.are_in_place ≡ true → AreInPlace m i) → length d.slots.items ≡ i → trace_of m i ≡ Some t
    → (e.are_in_place ≡ true → (d.are_in_place ≡ true) × IsInPlace (length d.slots.items) t) → e.are_in_place ≡ true → AreInPlace m (i + 1)
next_in_place m i d e t before many told one = λ so j l. by so j l (cases_lt j i)
  where
    by : e.are_in_place ≡ true → (j : ℕ) → j < i + 1 → ((j < i) ⊎ (i ≤ j)) → (inside : Marks) × (trace_of m j ≡ Some (old_item j no_firsts inside))
    by so j l (inl less) = before (one so).0 j less
    by so j l (inr more) =
        let here = (one so).1 in
        let at : i ≡ j = omega (arith, l, more) in
        (here.0, ap (trace_of m) (sym at) ∙ (told ∙ (ap Some here.1 ∙ ap (λ n. Some (old_item n no_firsts here.0)) (many ∙ at))))

-- the component of an item by its slot
abbrev of_front : Option Slots → Of
of_front None = of_none
of_front (Some s) = first_of s

of_none_at : (i : ℕ) → of_at i no_slots ≡ of_none
of_none_at zero = refl
of_none_at (suc i) = of_none_at i

of_slot_at : (i : ℕ) (s : Slots) → of_at i s ≡ of_front (slot_at i s)
of_slot_at zero no_slots = refl
of_slot_at zero (slot x s) = refl
of_slot_at zero (written w c inside s) = refl
of_slot_at (suc i) no_slots = of_none_at i
of_slot_at (suc i) (slot x s) = of_slot_at i s
of_slot_at (suc i) (written w c inside s) = of_slot_at i s

-- the last item that is done, among those that stand there
last_is : (lay : Laying) (r : Renewing) (n : ℕ) (d e : Done) → AreDone lay r (suc n) e → length d.slots.items ≡ n → of_last d e ≡ of_at n (slots_there lay r.places r.now)
last_is lay r n d e done many =
    let there = slots_there lay r.places r.now in
    let l : n < suc n = omega arith in
    let slot : slot_at n (slots_of e.slots.items) ≡ slot_at n there = fronts_are_slots e.slots.items n ∙ done.slots n l in
    ap (λ k. of_item (slice_get e.slots.items k)) many ∙ (sym (at_slot n e.slots.items) ∙ (of_slot_at n (slots_of e.slots.items) ∙ (ap of_front slot ∙ sym (of_slot_at n there))))

both_true : (a : Bool) → (a && true) ≡ a
both_true true = refl
both_true false = refl

-- an item that is passed over is like itself
either_true : (b : Bool) → (b || true) ≡ true
either_true true = refl
either_true false = refl

takes_own : (s : Shell) (o : Of) → takes_same true s o o ≡ true
takes_own s (of_field f) = (λ i. says_bits s || (stated_same f.width i && true)) ∙ either_true (says_bits s)
takes_own s (of_seen a) = λ i. by_mode_own a.size i && by_mode_own a.widest i
takes_own s of_none = refl

alike_own : (before : List Slot) (n : ℕ) (y : Item) → is_alike true (slots_of before) (of_at n (slots_of before)) (same_item n) y ≡ true
alike_own before n (Define k c) = refl
alike_own before n (Instance s of) = same_alike true (slots_of before) (of_at n (slots_of before)) n s of ∙ takes_own s (of_at n (slots_of before))
alike_own before n (Own p v) = refl
alike_own before n (Default p v) = refl
alike_own before n (Dynamic t p v) = refl

of_front_is : (o : Option Slot) → of_item o ≡ of_front (option_map front_of o)
of_front_is None = refl
of_front_is (Some x) = refl

pub kept_alike : (before : List Slot) (d e : Done) (s : Slot) (n : ℕ) (t : Trace) (y : Item) → slice_get before n ≡ Some s → t ≡ same_item n → fronts e.slots.items ≡ fronts d.slots.items ++ front_of s ∷ []
    → e.are_alike ≡ d.are_alike → e.are_alike ≡ (d.are_alike && is_alike true (slots_of before) (of_last d e) t y)
kept_alike before d e s n t y there told slots alike =
    let count = length d.slots.items in
    let got = last_front d e (front_of s) slots in
    let last : of_last d e ≡ of_item (Some s) = of_front_is (slice_get e.slots.items count) ∙ ap of_front (sym (slice_get-map front_of e.slots.items count) ∙ got) in
    let was : of_at n (slots_of before) ≡ of_item (Some s) = at_slot n before ∙ ap of_item there in
    let same : is_alike true (slots_of before) (of_last d e) t y ≡ true =
    (λ i. is_alike true (slots_of before) ((last ∙ sym was) i) (told i) y) ∙ alike_own before n y in
    alike ∙ (sym (both_true d.are_alike) ∙ ap (λ b. d.are_alike && b) (sym same))

pub kept_in_place : (d e : Done) (n : ℕ) (t : Trace) → t ≡ same_item n → (e.are_in_place ≡ true → (d.are_in_place ≡ true) × (n ≡ length d.slots.items)) → e.are_in_place ≡ true → (d.are_in_place ≡ true) × IsInPlace (length d.slots.items) t
kept_in_place d e n t told one = λ so. let two = one so in (two.0, (no_marks, told ∙ ap same_item two.1))

-- whether layouts take the same of the items from one number on
abbrev pub alike_on : Marks → (before now : Slots) → Items → ℕ → Bool
alike_on m before now body i = all_alike true m before now i (drop i (tree.list_of body))

pub first_alike : (m : Marks) (before now : Slots) (body : Items) (d : Done) → d.are_alike ≡ true → alike_on m before now body 0 ≡ (d.are_alike && alike_on m before now body 0)
first_alike m before now body d so = ap (λ b. b && alike_on m before now body 0) (sym so)

both_three : (a b c : Bool) → (a && (b && c)) ≡ ((a && b) && c)
both_three true b c = refl
both_three false b c = refl

pub next_alike : (lay : Laying) (r : Renewing) (i : ℕ) (d e : Done) (y : Item) (t : Trace) (xs : List Item) → alike_on r.marks r.slots (slots_there lay r.places r.now) r.now 0 ≡ (d.are_alike && alike_on r.marks r.slots (slots_there lay r.places r.now) r.now i)
    → xs ≡ tree.list_of r.now → i < length xs → y ≡ get_or xs i y → trace_of r.marks i ≡ Some t → AreDone lay r i d → AreDone lay r (suc i) e
    → e.are_alike ≡ (d.are_alike && is_alike true r.slots (of_last d e) t y)
    → alike_on r.marks r.slots (slots_there lay r.places r.now) r.now 0 ≡ (e.are_alike && alike_on r.marks r.slots (slots_there lay r.places r.now) r.now (i + 1))
next_alike lay r i d e y t xs before all l here told done more one =
    let there = slots_there lay r.places r.now in
    let last = last_is lay r i d e more (done_many lay r i d done) in
    let step : alike_on r.marks r.slots there r.now i ≡ (is_alike true r.slots (of_at i there) t y && alike_on r.marks r.slots there r.now (i + 1)) =
    ap (all_alike true r.marks r.slots there i) (ap (drop i) (sym all) ∙ drop_at xs i y l here)
    ∙ (λ j. is_told_alike true r.slots (of_at i there) (told j) y && all_alike true r.marks r.slots there (sym (add-one i) j) (drop (i + 1) (all j))) in
    before
    ∙ (ap (λ b. d.are_alike && b) step
    ∙ (both_three d.are_alike (is_alike true r.slots (of_at i there) t y) (alike_on r.marks r.slots there r.now (i + 1))
    ∙ ap (λ b. b && alike_on r.marks r.slots there r.now (i + 1)) (ap (λ o. d.are_alike && is_alike true r.slots o t y) (sym last) ∙ sym one)))

pub all_like : (lay : Laying) (r : Renewing) (i : ℕ) (d : Done) (xs : List Item) → (d.are_in_place ≡ true → AreInPlace r.marks i)
    → alike_on r.marks r.slots (slots_there lay r.places r.now) r.now 0 ≡ (d.are_alike && alike_on r.marks r.slots (slots_there lay r.places r.now) r.now i)
    → xs ≡ tree.list_of r.now → length xs ≤ i → slots_of d.slots.items ≡ slots_there lay r.places r.now → IsLike r.marks r.slots r.now d
all_like lay r i d xs place alike all l done =
    let there = slots_there lay r.places r.now in
    let many : length xs ≡ length (tree.list_of r.now) = ap length all in
    record {
      in_place = λ yes j k. place yes j (omega (arith, k, many, l));
      alike =
          sym (both_true d.are_alike)
          ∙ (ap (λ b. d.are_alike && b) (sym (ap (all_alike true r.marks r.slots there i) (ap (drop i) (sym all) ∙ drop_past xs i l)))
          ∙ (sym alike ∙ ap (λ s. alike_on r.marks r.slots s r.now 0) (sym done)));
    }
