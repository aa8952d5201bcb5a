-- Layouts take the same of the instances of a body as of those of what it was, if they do so item by item.
use Rattle.std.proofs.Common.{◌≡◌, ℕ, zero, suc, ◌+◌, ◌<◌, ◌≤◌, ◌==◌, ◌&&◌, ◌||◌, Bool, true, false, if◌then◌else◌, List, [], ◌∷◌, ◌++◌, length, drop, map, Option, Some, None, unwrap_or, ◌⊎◌, inl, inr, refl, sym, ap, subst, ◌∙◌, arith}
use Rattle.std.specs.Prelude.{slice_get}
use Rattle.std.proofs.lemmas.Bool.{eqb-true}
use Rattle.std.proofs.lemmas.List.{append-nil, append_assoc}
use Rattle.rdl_tree.specs.Component.{holder_kind}
use Rattle.rdl_tree.specs.Items.{Items, no_items, plain, holder, named, own, default, dynamic, define, anonymous}
use Rattle.rdl_tree.specs.View as tree
use Rattle.rdl_tree.specs.View.{plain_item, holder_item}
use Rattle.rdl_tree.specs.declared.description.Item.{Item}
use Rattle.rdl_tree.specs.declared.description.Item.TheVariants.{Define, Instance, Own, Default, Dynamic}
use Rattle.rdl_tree.specs.declared.description.Of.TheVariants.{Named, Anonymous}
use Rattle.rdl_tree.proofs.Rounds as tree_rounds
use Rattle.rdl_marks.specs.Describes.{IsItem, times, AreFrom, restored}
use Rattle.rdl_marks.specs.InOrder.{moved_times, IfMoved}
use Rattle.rdl_marks.specs.Marks.{Firsts, Marks}
use Rattle.rdl_marks.specs.View.{Trace, new_item, old_item, traces_of, list_of}
use Rattle.rdl_marks.specs.Was.{trace_of}
use Rattle.rdl_marks.proofs.From.{IsFrom, AreSo, first_from, none_more}
use Rattle.rdl_marks.proofs.Rounds.{traces_of-list_of}
use Rattle.rdl_nodes.specs.Bare.{bare}
use Rattle.rdl_nodes.specs.Parts.{of_item}
use Rattle.rdl_nodes.specs.View.{add, slots_of}
use Rattle.rdl_nodes.specs.declared.node.Slot.{Slot}
use Rattle.rdl_nodes.specs.declared.node.Slot.TheVariants as slots
use Rattle.rdl_seen.specs.declared.values.Values.{Values}
use Rattle.rdl_seen.specs.Fields.{Of, first_of, rest_of, member_of, members}
use Rattle.rdl_seen.specs.Layouts.{Laying, Member}
use Rattle.rdl_seen.specs.Meaning.{around_before}
use Rattle.rdl_seen.specs.Node.{Around, after_plain, after_holder, known}
use Rattle.rdl_seen.specs.Slots.{Slots}
use Rattle.rdl_seen.proofs.Passing.{some_same}
use Rattle.rdl_renew.specs.Alike.{taken_of, taken_first, AllAlike, IsWidthSame, AreAlike}
use Rattle.rdl_renew.specs.AlikeSlots.{of_at, is_instance, has_instance}
use Rattle.rdl_renew.specs.Renewing.{Became}
use Rattle.rdl_renew.proofs.Beside.{StaysSo, told_there, holds_of_all}
use Rattle.rdl_renew.proofs.Raised.{from_there}
use Rattle.rdl_renew.proofs.SideBySide.{had, listed}

-- ---- What layouts take of the first items of a body.

abbrev front : Laying → ℕ → Around → Items → Slots → List Member
front lay zero a t s = []
front lay (suc k) a no_items s = []
front lay (suc k) a (plain p rest) s = taken_of a.defaults (plain_item p) (first_of s) ++ front lay k (after_plain p a) rest (rest_of s)
front lay (suc k) a (holder h body rest) s =
    taken_of a.defaults (holder_item h body) (first_of s) ++ front lay k (after_holder h (known lay a (holder_kind h) body) a) rest (rest_of s)

first_is : (x : Slot) (rest : Slots) → first_of (add x rest) ≡ of_item (Some x)
first_is slots.Own rest = refl
first_is (slots.Default p) rest = refl
first_is (slots.Dynamic v) rest = refl
first_is (slots.Field f) rest = refl
first_is (slots.Named class s) rest = refl
first_is (slots.Define class s n) rest = refl
first_is (slots.Part n) rest = refl

rest_is : (x : Slot) (rest : Slots) → rest_of (add x rest) ≡ rest
rest_is slots.Own rest = refl
rest_is (slots.Default p) rest = refl
rest_is (slots.Dynamic v) rest = refl
rest_is (slots.Field f) rest = refl
rest_is (slots.Named class s) rest = refl
rest_is (slots.Define class s n) rest = refl
rest_is (slots.Part n) rest = refl

-- the component of an item, by its slot
pub at_slot : (k : ℕ) (xs : List Slot) → of_at k (slots_of xs) ≡ of_item (slice_get xs k)
at_slot zero [] = refl
at_slot (suc k) [] = at_slot k []
at_slot zero (x ∷ xs) = first_is x (slots_of xs)
at_slot (suc k) (x ∷ xs) = ap (of_at k) (rest_is x (slots_of xs)) ∙ at_slot k xs

-- all of them
front_all : (lay : Laying) (k : ℕ) (a : Around) (t : Items) (s : Slots) → length (tree.list_of t) ≤ k → front lay k a t s ≡ map bare (members a.defaults t s)
front_all lay zero a no_items s l = refl
front_all lay (suc k) a no_items s l = refl
front_all lay zero a (plain p rest) s l = absurd (omega (arith, l))
front_all lay zero a (holder h body rest) s l = absurd (omega (arith, l))
front_all lay (suc k) a (plain (named sh t) rest) s l = ap (λ zs. bare (member_of a.defaults sh (first_of s)) ∷ zs) (front_all lay k a rest (rest_of s) (omega (arith, l)))
front_all lay (suc k) a (plain (own p x) rest) s l = front_all lay k a rest (rest_of s) (omega (arith, l))
front_all lay (suc k) a (plain (default p x) rest) s l = front_all lay k (after_plain (default p x) a) rest (rest_of s) (omega (arith, l))
front_all lay (suc k) a (plain (dynamic t p x) rest) s l = front_all lay k a rest (rest_of s) (omega (arith, l))
front_all lay (suc k) a (holder (define n c) body rest) s l =
    front_all lay k (after_holder (define n c) (known lay a (holder_kind (define n c)) body) a) rest (rest_of s) (omega (arith, l))
front_all lay (suc k) a (holder (anonymous sh c) body rest) s l =
    ap (λ zs. bare (member_of a.defaults sh (first_of s)) ∷ zs) (front_all lay k a rest (rest_of s) (omega (arith, l)))

-- one more
front_next : (lay : Laying) (k : ℕ) (a : Around) (t : Items) (s : Slots) (y : Item) → IsItem k t y → front lay (suc k) a t s ≡ front lay k a t s ++ taken_of (around_before lay k a t).defaults y (of_at k s)
front_next lay k a no_items s y got = absurd cc
front_next lay zero a (plain p rest) s y got =
    append-nil (taken_of a.defaults (plain_item p) (first_of s)) ∙ ap (λ z. taken_of a.defaults z (first_of s)) (some_same (plain_item p) y got)
front_next lay (suc k) a (plain p rest) s y got =
    ap (λ zs. taken_of a.defaults (plain_item p) (first_of s) ++ zs) (front_next lay k (after_plain p a) rest (rest_of s) y got)
    ∙ sym (append_assoc (taken_of a.defaults (plain_item p) (first_of s)) (front lay k (after_plain p a) rest (rest_of s)) (taken_of (around_before lay k (after_plain p a) rest).defaults y (of_at k (rest_of s))))
front_next lay zero a (holder h body rest) s y got =
    append-nil (taken_of a.defaults (holder_item h body) (first_of s)) ∙ ap (λ z. taken_of a.defaults z (first_of s)) (some_same (holder_item h body) y got)
front_next lay (suc k) a (holder h body rest) s y got =
    let b : Around = after_holder h (known lay a (holder_kind h) body) a in
    ap (λ zs. taken_of a.defaults (holder_item h body) (first_of s) ++ zs) (front_next lay k b rest (rest_of s) y got)
    ∙ sym (append_assoc (taken_of a.defaults (holder_item h body) (first_of s)) (front lay k b rest (rest_of s)) (taken_of (around_before lay k b rest).defaults y (of_at k (rest_of s))))

front_past : (lay : Laying) (k : ℕ) (a : Around) (t : Items) (s : Slots) → slice_get (tree.list_of t) k ≡ None → front lay (suc k) a t s ≡ front lay k a t s
front_past lay zero a no_items s none = refl
front_past lay (suc k) a no_items s none = refl
front_past lay zero a (plain p rest) s none = absurd cc
front_past lay (suc k) a (plain p rest) s none = ap (λ zs. taken_of a.defaults (plain_item p) (first_of s) ++ zs) (front_past lay k (after_plain p a) rest (rest_of s) none)
front_past lay zero a (holder h body rest) s none = absurd cc
front_past lay (suc k) a (holder h body rest) s none =
    ap (λ zs. taken_of a.defaults (holder_item h body) (first_of s) ++ zs) (front_past lay k (after_holder h (known lay a (holder_kind h) body) a) rest (rest_of s) none)

-- nothing is taken of an item that is no instance
none_taken : (v : Values) (y : Item) (o : Of) → is_instance y ≡ false → taken_of v y o ≡ []
none_taken v (Define n c) o e = refl
none_taken v (Instance s of) o e = absurd (let no : true ≡ false = e in cc)
none_taken v (Own p x) o e = refl
none_taken v (Default p x) o e = refl
none_taken v (Dynamic t p x) o e = refl

front_same : (lay : Laying) (k : ℕ) (a : Around) (t : Items) (s : Slots) (y : Item) → IsItem k t y → is_instance y ≡ false → front lay (suc k) a t s ≡ front lay k a t s
front_same lay k a t s y got none =
    front_next lay k a t s y got
    ∙ (ap (λ zs. front lay k a t s ++ zs) (none_taken (around_before lay k a t).defaults y (of_at k s) none) ∙ append-nil (front lay k a t s))

-- ---- The old item.

same_there : (old : Items) (n : ℕ) (y z : Item) → IsItem n old y → IsItem n old z → y ≡ z
same_there old n y z f g = some_same y z (sym f ∙ g)

-- it was an instance if it is one
old_instance : (old : Items) (n : ℕ) (f : Firsts) (m : Marks) (y z : Item) → IsFrom old (old_item n f m) y → IsItem n old z → is_instance y ≡ is_instance z
old_instance old n f m (Define k c) z h is = ap is_instance (same_there old n (Define (unwrap_or f.defined k) (record { kind = c.kind; body = h.0.0 })) z h.0.1 is)
old_instance old n f m (Instance s (Named u)) z h is = ap is_instance (same_there old n (restored f (Instance s (Named u))) z h.0 is)
old_instance old n f m (Instance s (Anonymous c)) z h is =
    ap is_instance (same_there old n (Instance (unwrap_or f.shell s) (Anonymous (record { kind = c.kind; body = h.0.0 }))) z h.0.1 is)
old_instance old n f m (Own p v) z h is = ap is_instance (same_there old n (restored f (Own p v)) z h.0 is)
old_instance old n f m (Default p v) z h is = ap is_instance (same_there old n (restored f (Default p v)) z h.0 is)
old_instance old n f m (Dynamic u p v) z h is = ap is_instance (same_there old n (restored f (Dynamic u p v)) z h.0 is)

-- layouts took of it what stood first
old_taken : (old : Items) (n : ℕ) (f : Firsts) (m : Marks) (y z : Item) (v : Values) (o : Of) → IsFrom old (old_item n f m) y → IsItem n old z → taken_first v f y o ≡ taken_of v z o
old_taken old n f m (Define k c) z v o h is = ap (λ w. taken_of v w o) (same_there old n (Define (unwrap_or f.defined k) (record { kind = c.kind; body = h.0.0 })) z h.0.1 is)
old_taken old n f m (Instance s (Named u)) z v o h is = ap (λ w. taken_of v w o) (same_there old n (restored f (Instance s (Named u))) z h.0 is)
old_taken old n f m (Instance s (Anonymous c)) z v o h is =
    ap (λ w. taken_of v w o) (same_there old n (Instance (unwrap_or f.shell s) (Anonymous (record { kind = c.kind; body = h.0.0 }))) z h.0.1 is)
old_taken old n f m (Own p x) z v o h is = ap (λ w. taken_of v w o) (same_there old n (restored f (Own p x)) z h.0 is)
old_taken old n f m (Default p x) z v o h is = ap (λ w. taken_of v w o) (same_there old n (restored f (Default p x)) z h.0 is)
old_taken old n f m (Dynamic u p x) z v o h is = ap (λ w. taken_of v w o) (same_there old n (restored f (Dynamic u p x)) z h.0 is)

-- ---- Items that are gone, or were moved.

abbrev one_if : Bool → ℕ
one_if b = if b then 1 else 0

either : (a b : Bool) → (a || b) ≡ false → (a ≡ false) × (b ≡ false)
either false false e = (refl, refl)
either false true e = absurd (let no : true ≡ false = e in cc)
either true b e = absurd (let no : true ≡ false = e in cc)

gone_none : (old : Items) (n : ℕ) (z : Item) (es : List Trace) (rest : List Item) (xs : List Item) → AreSo old es rest xs → has_instance xs ≡ false → 0 < times n (traces_of es) → IsItem n old z
    → is_instance z ≡ false
gone_none old n z [] rest xs so none l is = absurd (omega arith)
gone_none old n z (e ∷ es) rest [] so none l is = absurd (none_more old e (traces_of es) rest so)
gone_none old n z (new_item ∷ es) rest (y ∷ ys) so none l is =
    gone_none old n z es rest ys (first_from old new_item (traces_of es) rest y (tree.items_of ys) so).1 (either (is_instance y) (has_instance ys) none).1 l is
gone_none old n z (old_item k f m ∷ es) rest (y ∷ ys) so none l is = by (λ (g : 0 < times n (traces_of es)). gone_none old n z es rest ys both.1 nones.1 g is) (k == n) refl
  where
    both : IsFrom old (old_item k f m) y × AreSo old es rest ys
    both = first_from old (old_item k f m) (traces_of es) rest y (tree.items_of ys) so

    nones : (is_instance y ≡ false) × (has_instance ys ≡ false)
    nones = either (is_instance y) (has_instance ys) none

    by : (0 < times n (traces_of es) → is_instance z ≡ false) → (b : Bool) → (k == n) ≡ b → is_instance z ≡ false
    by more true e = sym (old_instance old n f m y z (subst (λ j. IsFrom old (old_item j f m) y) (eqb-true k n e) both.0) is) ∙ nones.0
    by more false e =
        let other : one_if (k == n) ≡ 0 = ap one_if e in
        more (omega (arith, l, other))

-- an item that was moved is no instance
abbrev IsNoMoved : Trace → Item → Type 0
IsNoMoved new_item y = Unit {0}
IsNoMoved (old_item k f m) y = f.is_moved ≡ true → is_instance y ≡ false

moved_none : (old : Items) (n : ℕ) (z : Item) (es : List Trace) (rest : List Item) (xs : List Item) → AreSo old es rest xs
    → ((j : ℕ) (e : Trace) (y : Item) → slice_get es j ≡ Some e → slice_get xs j ≡ Some y → IsNoMoved e y) → 0 < moved_times n (traces_of es) → IsItem n old z → is_instance z ≡ false
moved_none old n z [] rest xs so none l is = absurd (omega arith)
moved_none old n z (e ∷ es) rest [] so none l is = absurd (none_more old e (traces_of es) rest so)
moved_none old n z (new_item ∷ es) rest (y ∷ ys) so none l is =
    moved_none old n z es rest ys (first_from old new_item (traces_of es) rest y (tree.items_of ys) so).1 (λ j e x p q. none (suc j) e x p q) l is
moved_none old n z (old_item k f m ∷ es) rest (y ∷ ys) so none l is =
    by (λ (g : 0 < moved_times n (traces_of es)). moved_none old n z es rest ys both.1 (λ j e x p q. none (suc j) e x p q) g is) f.is_moved (k == n) refl refl
  where
    both : IsFrom old (old_item k f m) y × AreSo old es rest ys
    both = first_from old (old_item k f m) (traces_of es) rest y (tree.items_of ys) so

    other : (a b : Bool) → f.is_moved ≡ a → (k == n) ≡ b → (a && b) ≡ false → one_if (f.is_moved && (k == n)) ≡ 0
    other a b d e off = (λ i. one_if (d i && e i)) ∙ ap one_if off

    by : (0 < moved_times n (traces_of es) → is_instance z ≡ false) → (a b : Bool) → f.is_moved ≡ a → (k == n) ≡ b → is_instance z ≡ false
    by more true true d e =
        sym (old_instance old n f m y z (subst (λ j. IsFrom old (old_item j f m) y) (eqb-true k n e) both.0) is) ∙ none 0 (old_item k f m) y refl refl d
    by more true false d e = more (omega (arith, l, other true false d e refl))
    by more false b d e = more (omega (arith, l, other false b d e refl))

-- ---- All items.

if_moved : (A B : Type 0) (b : Bool) → b ≡ true → IfMoved b A B → A
if_moved A B true e h = h
if_moved A B false e h = absurd (let no : false ≡ true = e in cc)

if_stayed : (A B : Type 0) (b : Bool) → b ≡ false → IfMoved b A B → B
if_stayed A B true e h = absurd (let no : true ≡ false = e in cc)
if_stayed A B false e h = h

one_of : (a b : ℕ) → a + b ≡ 1 → (a ≡ 1) ⊎ (b ≡ 1)
one_of zero b e = inr (omega (arith, e))
one_of (suc zero) b e = inl refl
one_of (suc (suc a)) b e = absurd (omega (arith, e))

module _ (lay : Laying) (width : Bool) (m : Marks) (before now : List Slot) (old body : Items) (saw sees : Around) (became : Became lay saw (slots_of before) m old body)
    (none : has_instance (tree.list_of m.items) ≡ false) (alike : AllAlike width m before now body) (same : width ≡ true → IsWidthSame lay m old body saw sees) where
  -- what layouts take of so many items is what they took of so many old ones
  abbrev TakesSo : ℕ → ℕ → Type 0
  TakesSo k i = front lay k saw old (slots_of before) ≡ front lay i sees body (slots_of now)

  gone_listed : AreSo old (list_of m.gone) [] (tree.list_of m.items)
  gone_listed =
      subst (λ t. AreFrom old t [] (tree.items_of (tree.list_of m.items))) (sym (traces_of-list_of m.gone))
      (subst (AreFrom old m.gone []) (sym (tree_rounds.items_of-list_of m.items)) became.describes.gone)

  no_moved : (j : ℕ) (e : Trace) (y : Item) → slice_get (list_of m.traces) j ≡ Some e → slice_get (tree.list_of body) j ≡ Some y → IsNoMoved e y
  no_moved j new_item y p q = tt
  no_moved j (old_item k f inside) y p q = λ moved. if_moved _ _ f.is_moved moved (alike j y (old_item k f inside) q (told_there m j (old_item k f inside) p))

  left_none : (n : ℕ) (z : Item) → times n m.gone + moved_times n m.traces ≡ 1 → IsItem n old z → is_instance z ≡ false
  left_none n z e is = by (one_of (times n m.gone) (moved_times n m.traces) e)
    where
      by : (times n m.gone ≡ 1) ⊎ (moved_times n m.traces ≡ 1) → is_instance z ≡ false
      by (inl g) =
          let one : 0 < times n (traces_of (list_of m.gone)) = subst (λ t. 0 < times n t) (sym (traces_of-list_of m.gone)) (omega (arith, g)) in
          gone_none old n z (list_of m.gone) [] (tree.list_of m.items) gone_listed none one is
      by (inr g) =
          let one : 0 < moved_times n (traces_of (list_of m.traces)) = subst (λ t. 0 < moved_times n t) (sym (traces_of-list_of m.traces)) (omega (arith, g)) in
          moved_none old n z (list_of m.traces) (drop m.behind (tree.list_of old)) (tree.list_of body) (listed m old body became.describes) no_moved one is

  passed_over : (k : ℕ) → times k m.gone + moved_times k m.traces ≡ 1 → front lay (suc k) saw old (slots_of before) ≡ front lay k saw old (slots_of before)
  passed_over k e = by (slice_get (tree.list_of old) k) refl
    where
      by : (o : Option Item) → slice_get (tree.list_of old) k ≡ o → front lay (suc k) saw old (slots_of before) ≡ front lay k saw old (slots_of before)
      by None there = front_past lay k saw old (slots_of before) there
      by (Some z) there = front_same lay k saw old (slots_of before) z there (left_none k z e there)

  stayed_so : (i n : ℕ) (firsts : Firsts) (inside : Marks) (y z : Item) → IsItem i body y → trace_of m i ≡ Some (old_item n firsts inside) → firsts.is_moved ≡ false → IsItem n old z → TakesSo n i → TakesSo (suc n) (suc i)
  stayed_so i n firsts inside y z got told unmoved was so =
      let v : Values = (around_before lay n saw old).defaults in
      let w : Values = (around_before lay i sees body).defaults in
      let here = if_stayed _ _ firsts.is_moved unmoved (alike i y (old_item n firsts inside) got told) v w (λ e. same e i n firsts inside y got told unmoved) in
      let from = from_there m old body i (old_item n firsts inside) y became.describes got told in
      let first : taken_of v z (of_at n (slots_of before)) ≡ taken_first v firsts y (of_item (slice_get before n)) =
      ap (taken_of v z) (at_slot n before) ∙ sym (old_taken old n firsts inside y z v (of_item (slice_get before n)) from was) in
      let last : taken_of w y (of_item (slice_get now i)) ≡ taken_of w y (of_at i (slots_of now)) = ap (taken_of w y) (sym (at_slot i now)) in
      front_next lay n saw old (slots_of before) z was ∙ ((λ j. so j ++ (first ∙ (here ∙ last)) j) ∙ sym (front_next lay i sees body (slots_of now) y got))

  steps : StaysSo m body TakesSo
  steps = record {
    first = refl;
    passed = λ k i e so. passed_over k e ∙ so;
    new = λ k i y got told so. so ∙ sym (front_same lay i sees body (slots_of now) y got (alike i y new_item got told));
    moved = λ k i n firsts inside y got told moved so.
        so ∙ sym (front_same lay i sees body (slots_of now) y got (if_moved _ _ firsts.is_moved moved (alike i y (old_item n firsts inside) got told)));
    stayed = λ i n firsts inside y got told unmoved so.
        let z = had m old body i n firsts inside y became.describes got told in
        stayed_so i n firsts inside y z.item got told unmoved z.is so;
  }

  all_so : map bare (members saw.defaults old (slots_of before)) ≡ map bare (members sees.defaults body (slots_of now))
  all_so =
      let ends = holds_of_all m old body TakesSo became.describes became.in_order steps in
      sym (front_all lay ends.0 saw old (slots_of before) ends.1) ∙ (ends.2 ∙ front_all lay (length (tree.list_of body)) sees body (slots_of now) (omega arith))

-- so it is, if no instance is gone
pub alike_by_item : (width : Bool) (m : Marks) (before now : List Slot) (body : Items) → has_instance (tree.list_of m.items) ≡ false
    → ((lay : Laying) (saw : Around) (old : Items) → Became lay saw (slots_of before) m old body → AllAlike width m before now body) → AreAlike width m before now body
alike_by_item width m before now body none alike = λ lay old saw sees became same.
    all_so lay width m before now old body saw sees became none (alike lay saw old became) same
