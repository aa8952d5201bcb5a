-- How the code tells whether layouts take the same of an item, and goes along a body; and what it means.
use Rattle.std.proofs.Common.{◌≡◌, ℕ, zero, suc, ◌+◌, ◌<◌, ◌≤◌, ◌^◌, ◌==◌, ◌&&◌, ◌||◌, not, Bool, true, false, if◌then◌else◌, List, [], ◌∷◌, length, get_or, drop, map, Option, Some, None, unwrap_or, refl, sym, ap, subst, ◌∙◌, arith, add-one, eqb-true, eq-eqb}
use Rattle.std.specs.Prelude.{bytes_eq, slice_get}
use Rattle.std.specs.Option.{option_or, is_some}
use Rattle.std.proofs.lemmas.Bool.{and_parts}
use Rattle.std.proofs.lemmas.Option.{slice_get_read}
use Rattle.std.proofs.lemmas.Slice.Eq.{bytes_eq-Decides}
use Rattle.rdl_tree.specs.Items.{Items}
use Rattle.rdl_tree.specs.View as tree
use Rattle.rdl_tree.specs.declared.description.Item.{Item}
use Rattle.rdl_tree.specs.declared.description.Item.TheVariants.{Define, Instance, Own, Default, Dynamic}
use Rattle.rdl_tree.specs.declared.description.Of as written
use Rattle.rdl_tree.specs.declared.shell.Shell.{Shell}
use Rattle.rdl_tree.proofs.Rounds as tree_rounds
use Rattle.rdl_marks.specs.Describes.{IsItem}
use Rattle.rdl_marks.specs.InOrder.{IfMoved}
use Rattle.rdl_marks.specs.Marks.{Firsts, Marks}
use Rattle.rdl_marks.specs.View.{Trace, new_item, old_item, same_item, told, marks_of, gone_item}
use Rattle.rdl_marks.specs.Was.{trace_of}
use Rattle.rdl_marks.specs.declared.marks.Gone.{Gone}
use Rattle.rdl_marks.specs.declared.marks.Piece.{Piece}
use Rattle.rdl_nodes.specs.Bare.{said, bare}
use Rattle.rdl_nodes.specs.Parts.{of_item}
use Rattle.rdl_nodes.specs.Placed.{same_stated}
use Rattle.rdl_nodes.specs.View.{slots_of}
use Rattle.rdl_nodes.specs.declared.node.Slot.{Slot}
use Rattle.rdl_nodes.proofs.Bodies.{drop_at, drop_past}
use Rattle.rdl_nodes.proofs.Counts.{option_is, option_same, stated_is, stated_same}
use Rattle.rdl_seen.specs.declared.seen.ByMode.{ByMode}
use Rattle.rdl_seen.specs.declared.values.Values.{Values}
use Rattle.rdl_seen.specs.Fields.{Of, of_field, of_seen, of_none, says_bits, member_of}
use Rattle.rdl_seen.specs.Layouts.{Laying}
use Rattle.rdl_seen.specs.Modes.{same_number}
use Rattle.rdl_seen.specs.Node.{Around}
use Rattle.rdl_seen.specs.Slots.{Slots}
use Rattle.rdl_renew.specs.Alike.{TakesTheSame, IsAlike, AreAlike}
use Rattle.rdl_renew.specs.AlikeSlots.{of_at, same_by_mode, takes_same, same_range, says_same, is_instance, has_instance, stays_there, is_alike, is_told_alike, all_alike, are_alike}
use Rattle.rdl_renew.specs.Along.{HasNumber}
use Rattle.rdl_renew.specs.Renewing.{Became}
use Rattle.rdl_renew.proofs.Alone.{was_false}
use Rattle.rdl_renew.proofs.AlikeItems.{at_slot, alike_by_item}
use Rattle.rdl_renew.proofs.BodySteps.{number_fits}

-- ---- What an instance says of its place.

pair_is : (p q : ℕ × ℕ) → ((p.0 == q.0) && (p.1 == q.1)) ≡ true → p ≡ q
pair_is p q e =
    let two = and_parts (p.0 == q.0) (p.1 == q.1) e in
    let first = eqb-true p.0 q.0 two.0 in
    let second = eqb-true p.1 q.1 two.1 in
    λ i. (first i, second i)

pub says_is : (s u : Shell) → says_same s u ≡ true → said s ≡ said u
says_is s u e =
    let all = and_parts (bytes_eq s.dims u.dims && same_range s.range u.range && same_stated s.address u.address && same_stated s.stride u.stride) (same_stated s.align u.align) e in
    let four = and_parts (bytes_eq s.dims u.dims && same_range s.range u.range && same_stated s.address u.address) (same_stated s.stride u.stride) all.0 in
    let three = and_parts (bytes_eq s.dims u.dims && same_range s.range u.range) (same_stated s.address u.address) four.0 in
    let two = and_parts (bytes_eq s.dims u.dims) (same_range s.range u.range) three.0 in
    let dims = (bytes_eq-Decides s.dims u.dims).0 two.0 in
    let range = option_is _ pair_is s.range u.range two.1 in
    let address = stated_is s.address u.address three.1 in
    let stride = stated_is s.stride u.stride four.1 in
    let align = stated_is s.align u.align all.1 in
    λ i. record (said s) { dims = dims i; range = range i; address = address i; stride = stride i; align = align i }

number_same : (n : ℕ) → (n == n) ≡ true
number_same n = eq-eqb n n refl

pub says_own : (s : Shell) → says_same s s ≡ true
says_own s =
    λ i. (bytes_eq-Decides s.dims s.dims).1 refl i && option_same (λ (p : ℕ × ℕ) (q : ℕ × ℕ). (p.0 == q.0) && (p.1 == q.1)) (λ p j. number_same p.0 j && number_same p.1 j) s.range i
    && stated_same s.address i && stated_same s.stride i && stated_same s.align i

-- ---- What layouts take of it.

by_mode_is : (a b : ByMode) → same_by_mode a b ≡ true → a ≡ b
by_mode_is a b e =
    let all = and_parts ((a.compact == b.compact) && (a.regalign == b.regalign)) (a.fullalign == b.fullalign) e in
    let two = and_parts (a.compact == b.compact) (a.regalign == b.regalign) all.0 in
    let compact = eqb-true a.compact b.compact two.0 in
    let regalign = eqb-true a.regalign b.regalign two.1 in
    let fullalign = eqb-true a.fullalign b.fullalign all.1 in
    λ i. record { compact = compact i; regalign = regalign i; fullalign = fullalign i }

pub by_mode_own : (a : ByMode) → same_by_mode a a ≡ true
by_mode_own a = λ i. number_same a.compact i && number_same a.regalign i && number_same a.fullalign i

-- the widths of a field, where one is stated or the default one is the same
widths : (w : Bool) (f g v u : Option ℕ) → (w || is_some g) ≡ true → (w ≡ true → v ≡ u) → f ≡ g → unwrap_or (option_or f v) 1 ≡ unwrap_or (option_or g u) 1
widths true f g v u some same e = let default = same refl in λ i. unwrap_or (option_or (e i) (default i)) 1
widths false f None v u some same e = absurd (let no : false ≡ true = some in cc)
widths false f (Some n) v u some same e = ap (λ z. unwrap_or (option_or z v) 1) e

rooms : (b w : Bool) (f g v u : Option ℕ) → (b || (same_stated f g && (w || is_some g))) ≡ true → (w ≡ true → v ≡ u)
    → (if b then 0 else unwrap_or (option_or f v) 1) ≡ (if b then 0 else unwrap_or (option_or g u) 1)
rooms true w f g v u e same = refl
rooms false w f g v u e same = let two = and_parts (same_stated f g) (w || is_some g) e in widths w f g v u two.1 same (stated_is f g two.0)

pub takes_is : (w : Bool) (s : Shell) (o p : Of) → takes_same w s o p ≡ true → TakesTheSame w s o p
takes_is w s (of_field f) (of_field g) e = λ v u same.
    ap (λ n. record { shell = said s; size = same_number n; access = same_number 0 }) (rooms (says_bits s) w f.width g.width v.fieldwidth u.fieldwidth e same)
takes_is w s (of_seen a) (of_seen b) e = λ v u same.
    let two = and_parts (same_by_mode a.size b.size) (same_by_mode a.widest b.widest) e in
    let size = by_mode_is a.size b.size two.0 in
    let widest = by_mode_is a.widest b.widest two.1 in
    λ i. record { shell = said s; size = size i; access = widest i }
takes_is w s of_none of_none e = λ v u same. refl
takes_is w s (of_field f) (of_seen b) e = absurd (let no : false ≡ true = e in cc)
takes_is w s (of_field f) of_none e = absurd (let no : false ≡ true = e in cc)
takes_is w s (of_seen a) (of_field g) e = absurd (let no : false ≡ true = e in cc)
takes_is w s (of_seen a) of_none e = absurd (let no : false ≡ true = e in cc)
takes_is w s of_none (of_field g) e = absurd (let no : false ≡ true = e in cc)
takes_is w s of_none (of_seen b) e = absurd (let no : false ≡ true = e in cc)

-- ---- An item.

member_said : (v : Values) (s : Shell) (o : Of) → bare (member_of v s o) ≡ bare (member_of v (said s) o)
member_said v s (of_field f) = refl
member_said v s (of_seen x) = refl
member_said v s of_none = refl

into_stayed : (A B : Type 0) (b : Bool) → b ≡ false → B → IfMoved b A B
into_stayed A B true e h = absurd (let no : true ≡ false = e in cc)
into_stayed A B false e h = h

-- an instance that stayed in order and says the same of its place
stayed_alike : (width : Bool) (before : List Slot) (s : Shell) (of : written.Of) (n : ℕ) (f : Firsts) (inside : Marks) (p : Of) → f.is_moved ≡ false → said (unwrap_or f.shell s) ≡ said s
    → TakesTheSame width s (of_item (slice_get before n)) p → IsAlike width before p (Instance s of) (old_item n f inside)
stayed_alike width before s of n f inside p unmoved says takes =
    into_stayed _ _ f.is_moved unmoved
    (λ v w same.
    ap (λ m. m ∷ [])
    (member_said v (unwrap_or f.shell s) (of_item (slice_get before n))
    ∙ (ap (λ z. bare (member_of v z (of_item (slice_get before n)))) says
    ∙ (sym (member_said v s (of_item (slice_get before n))) ∙ takes v w same))))

if_both : (A B : Type 0) (b : Bool) → A → B → IfMoved b A B
if_both A B true x y = x
if_both A B false x y = y

-- an item that is no instance
others_alike : (width : Bool) (before : List Slot) (p : Of) (y : Item) (e : Trace) → is_instance y ≡ false → IsAlike width before p y e
others_alike width before p y new_item none = none
others_alike width before p (Define m c) (old_item n f inside) none = if_both _ _ f.is_moved none (λ v w same. refl)
others_alike width before p (Instance s of) (old_item n f inside) none = absurd (let no : true ≡ false = none in cc)
others_alike width before p (Own q x) (old_item n f inside) none = if_both _ _ f.is_moved none (λ v w same. refl)
others_alike width before p (Default q x) (old_item n f inside) none = if_both _ _ f.is_moved none (λ v w same. refl)
others_alike width before p (Dynamic t q x) (old_item n f inside) none = if_both _ _ f.is_moved none (λ v w same. refl)

alike_is : (w : Bool) (before : List Slot) (p : Of) (e : Trace) (y : Item) → is_alike w (slots_of before) p e y ≡ true → IsAlike w before p y e
alike_is w before p new_item y h = was_false (is_instance y) h
alike_is w before p (old_item n f inside) (Instance s of) h =
    let two = and_parts (stays_there f s) (takes_same w s (of_at n (slots_of before)) p) h in
    let stays = and_parts (not f.is_moved) (says_same (unwrap_or f.shell s) s) two.0 in
    stayed_alike w before s of n f inside p (was_false f.is_moved stays.0) (says_is (unwrap_or f.shell s) s stays.1)
    (takes_is w s (of_item (slice_get before n)) p (ap (λ o. takes_same w s o p) (sym (at_slot n before)) ∙ two.1))
alike_is w before p (old_item n f inside) (Define m c) h = others_alike w before p (Define m c) (old_item n f inside) refl
alike_is w before p (old_item n f inside) (Own q x) h = others_alike w before p (Own q x) (old_item n f inside) refl
alike_is w before p (old_item n f inside) (Default q x) h = others_alike w before p (Default q x) (old_item n f inside) refl
alike_is w before p (old_item n f inside) (Dynamic t q x) h = others_alike w before p (Dynamic t q x) (old_item n f inside) refl

-- an instance by what the code finds of it
pub taken_at : (w : Bool) (s : Shell) (before now : List Slot) (k i : ℕ) (o p : Of) → o ≡ of_item (slice_get before k) → p ≡ of_item (slice_get now i)
    → takes_same w s o p ≡ takes_same w s (of_at k (slots_of before)) (of_item (slice_get now i))
taken_at w s before now k i o p first last = λ j. takes_same w s ((first ∙ sym (at_slot k before)) j) (last j)

pub same_alike : (w : Bool) (before : Slots) (p : Of) (k : ℕ) (s : Shell) (of : written.Of) → is_alike w before p (same_item k) (Instance s of) ≡ takes_same w s (of_at k before) p
same_alike w before p k s of = ap (λ b. b && takes_same w s (of_at k before) p) (says_own s)

pub stayed_same : (w : Bool) (before : Slots) (p : Of) (k : ℕ) (f : Firsts) (inside : Marks) (s : Shell) (of : written.Of) → f.is_moved ≡ false → says_same (unwrap_or f.shell s) s ≡ true
    → is_alike w before p (old_item k f inside) (Instance s of) ≡ takes_same w s (of_at k before) p
stayed_same w before p k f inside s of unmoved says = λ j. not (unmoved j) && says j && takes_same w s (of_at k before) p

-- ---- A body.

-- each of its items is alike
each_alike : (w : Bool) (m : Marks) (before now : Slots) (k : ℕ) (ys : List Item) → all_alike w m before now k ys ≡ true
    → (i : ℕ) (y : Item) → slice_get ys i ≡ Some y → is_told_alike w before (of_at (i + k) now) (trace_of m (i + k)) y ≡ true
each_alike w m before now k [] h i y got = absurd cc
each_alike w m before now k (z ∷ ys) h zero y got =
    let two = and_parts (is_told_alike w before (of_at k now) (trace_of m k) z) (all_alike w m before now (suc k) ys) h in
    let same : z ≡ y = cc in
    let at : k ≡ 0 + k = omega arith in
    ap (λ n. is_told_alike w before (of_at n now) (trace_of m n) y) (sym at) ∙ (ap (is_told_alike w before (of_at k now) (trace_of m k)) (sym same) ∙ two.0)
each_alike w m before now k (z ∷ ys) h (suc i) y got =
    let two = and_parts (is_told_alike w before (of_at k now) (trace_of m k) z) (all_alike w m before now (suc k) ys) h in
    let at : i + suc k ≡ suc i + k = omega arith in
    ap (λ n. is_told_alike w before (of_at n now) (trace_of m n) y) (sym at) ∙ each_alike w m before now (suc k) ys two.1 i y got

told_is : (w : Bool) (before : Slots) (now : Of) (t : Option Trace) (e : Trace) (y : Item) → t ≡ Some e → is_told_alike w before now t y ≡ is_alike w before now e y
told_is w before now t e y is = ap (λ z. is_told_alike w before now z y) is

-- so layouts take the same of all
pub alike_are : (w : Bool) (m : Marks) (before now : List Slot) (body : Items) → are_alike w m (slots_of before) (slots_of now) body ≡ true → AreAlike w m before now body
alike_are w m before now body h =
    let two = and_parts (not (has_instance (tree.list_of m.items))) (all_alike w m (slots_of before) (slots_of now) 0 (tree.list_of body)) h in
    alike_by_item w m before now body (was_false (has_instance (tree.list_of m.items)) two.0)
    (λ lay saw old became i y e got t.
    let here = each_alike w m (slots_of before) (slots_of now) 0 (tree.list_of body) two.1 i y got in
    let at : i + 0 ≡ i = omega arith in
    let there = ap (λ n. is_told_alike w (slots_of before) (of_at n (slots_of now)) (trace_of m n) y) (sym at) ∙ here in
    alike_is w before (of_item (slice_get now i)) e y
    (ap (λ o. is_alike w (slots_of before) o e y) (sym (at_slot i now)) ∙ (sym (told_is w (slots_of before) (of_at i (slots_of now)) (trace_of m i) e y t) ∙ there)))

-- what is told of a body, said of what was and is kept
pub alike_told : (m : Marks) (body : Items) (before : Slots) (was items done : List Slot) (w u told : Bool) → w ≡ u → slots_of was ≡ before → items ≡ done
    → told ≡ are_alike w m (slots_of was) (slots_of items) body → told ≡ are_alike u m before (slots_of done) body
alike_told m body before was items done w u told width kept same is = is ∙ (λ j. are_alike (width j) m (kept j) (slots_of (same j)) body)

-- ---- How the code goes along it.

-- those from one number on
abbrev pub alike_from : Bool → Marks → (before now : List Slot) → Items → ℕ → Bool
alike_from w m before now body i = all_alike w m (slots_of before) (slots_of now) i (drop i (tree.list_of body))

-- the next one, of which pieces tell this, and those behind it
pub alike_next : (lay : Laying) (saw : Around) (old : Items) (w : Bool) (m : Marks) (before now : List Slot) (body : Items) (i : ℕ) (y : Item) (e : Trace) (xs : List Item) (ps : List Piece) (behind : ℕ) (gone : List Gone)
    → Became lay saw (slots_of before) m old body → length before < 2 ^ 64 → xs ≡ tree.list_of body → i < length xs → y ≡ get_or xs i y → marks_of (told ps behind gone) ≡ m
    → (HasNumber (marks_of (told ps behind gone)) i → trace_of (marks_of (told ps behind gone)) i ≡ Some e)
    → alike_from w m before now body i ≡ (is_alike w (slots_of before) (of_item (slice_get now i)) e y && alike_from w m before now body (i + 1))
alike_next lay saw old w m before now body i y e xs ps behind gone became few all l here marks tells =
    ap (all_alike w m (slots_of before) (slots_of now) i) (ap (drop i) (sym all) ∙ drop_at xs i y l here)
    ∙ (λ j. one j && rest j)
  where
    there : IsItem i body y
    there = ap (λ zs. slice_get zs i) (sym all) ∙ slice_get_read xs (length xs) i y refl l here

    known : trace_of m i ≡ Some e
    known = ap (λ n. trace_of n i) (sym marks) ∙ tells (subst (λ n. HasNumber n i) (sym marks) (number_fits lay saw m old body before i y became few there))

    one : is_told_alike w (slots_of before) (of_at i (slots_of now)) (trace_of m i) y ≡ is_alike w (slots_of before) (of_item (slice_get now i)) e y
    one = told_is w (slots_of before) (of_at i (slots_of now)) (trace_of m i) e y known ∙ ap (λ o. is_alike w (slots_of before) o e y) (at_slot i now)

    rest : all_alike w m (slots_of before) (slots_of now) (suc i) (drop (i + 1) xs) ≡ alike_from w m before now body (i + 1)
    rest = (λ j. all_alike w m (slots_of before) (slots_of now) (sym (add-one i) j) (drop (i + 1) (all j)))

-- none are left
pub alike_past : (w : Bool) (m : Marks) (before now : List Slot) (body : Items) (i : ℕ) (xs : List Item) → xs ≡ tree.list_of body → length xs ≤ i → alike_from w m before now body i ≡ true
alike_past w m before now body i xs all l = ap (all_alike w m (slots_of before) (slots_of now) i) (ap (drop i) (sym all) ∙ drop_past xs i l)

-- the items that are gone, as the code has them
pub none_gone : (m : Marks) (ps : List Piece) (behind : ℕ) (gone xs : List Gone) (b : Bool) → marks_of (told ps behind gone) ≡ m → xs ≡ gone → b ≡ has_instance (map gone_item xs)
    → b ≡ has_instance (tree.list_of m.items)
none_gone m ps behind gone xs b marks same is =
    sym (
    ap (λ (n : Marks). has_instance (tree.list_of n.items)) (sym marks)
    ∙ (ap has_instance (tree_rounds.list_of-items_of (map gone_item gone)) ∙ (ap (λ gs. has_instance (map gone_item gs)) (sym same) ∙ sym is))
    )
