-- A statement that no edit touched has the items of the last map from the number of its first one on.
use Rattle.std.proofs.Common.{◌≡◌, ℕ, zero, suc, ◌+◌, ◌^◌, ◌≤◌, Bool, true, false, cond, List, [], ◌∷◌, ◌++◌, length, drop, Option, Some, None, refl, ap, sym, ◌∙◌, arith, subst, append_assoc}
use Rattle.std.specs.Prelude.{slice_get, nat_eq, not}
use Rattle.std.specs.Option.{option_and_then, option_map_or}
use Rattle.std.proofs.lemmas.Bool.{eqb-true}
use Rattle.rdl_tree.specs.Items.{Items, no_items, plain, holder, Plain, Holder, named, own, default, dynamic, define, anonymous, count}
use Rattle.rdl_tree.specs.View.{add, list_of, plain_item, holder_item}
use Rattle.rdl_tree.specs.Weight.{capped}
use Rattle.rdl_tree.specs.declared.description.Item.{Item}
use Rattle.rdl_origin.specs.Once.{number_list, numbers, Lacks}
use Rattle.rdl_origin.specs.Traces.{Traces, no_traces, trace}
use Rattle.rdl_origin.specs.Values.{item_with, IsPlainValue, IsHolderValue, AreValues}
use Rattle.rdl_origin.specs.View as origins
use Rattle.rdl_origin.proofs.Values.{Ends, plain_here, holder_here, ends_plain, ends_holder}
use Rattle.rdl_weave.specs.Untouched.{sizes_of, ends_before, behind}

-- ---- Items before others.

abbrev pub before : Items → Items → Items
before no_items r = r
before (plain p t) r = plain p (before t r)
before (holder h b t) r = holder h b (before t r)

count-before : (t r : Items) → count (before t r) ≡ count t + count r
count-before no_items r = omega arith
count-before (plain p t) r = omega (arith, count-before t r)
count-before (holder h b t) r = omega (arith, count-before t r)

before-none : (t : Items) → before t no_items ≡ t
before-none no_items = refl
before-none (plain p t) = ap (plain p) (before-none t)
before-none (holder h b t) = ap (holder h b) (before-none t)

none_left : (r : Items) → count r ≡ 0 → r ≡ no_items
none_left no_items e = refl
none_left (plain p r) e = absurd (omega (arith, e))
none_left (holder h b r) e = absurd (omega (arith, e))

pub list-before : (t r : Items) → list_of (before t r) ≡ list_of t ++ list_of r
list-before no_items r = refl
list-before (plain p t) r = ap (λ xs. plain_item p ∷ xs) (list-before t r)
list-before (holder h b t) r = ap (λ xs. holder_item h b ∷ xs) (list-before t r)

-- ---- An item, and what it is of a body.

pub add-plain : (p : Plain) (r : Items) → add (plain_item p) r ≡ plain p r
add-plain (named s t) r = refl
add-plain (own p v) r = refl
add-plain (default p v) r = refl
add-plain (dynamic t p v) r = refl

pub add-holder : (h : Holder) (b r : Items) → add (holder_item h b) r ≡ holder h b r
add-holder (define n k) b r = refl
add-holder (anonymous s k) b r = refl

pub some_same : {X : Type 0} (x y : X) → Some x ≡ Some y → x ≡ y
some_same x y e = cc

holders_same : (h g : Holder) (b c r s : Items) → holder h b r ≡ holder g c s → (h ≡ g) × (b ≡ c)
holders_same h g b c r s e = (cc, cc)

pub same_holder : (h g : Holder) (b c : Items) → holder_item h b ≡ holder_item g c → (h ≡ g) × (b ≡ c)
same_holder h g b c e = holders_same h g b c no_items no_items (sym (add-holder h b no_items) ∙ ap (λ x. add x no_items) e ∙ add-holder g c no_items)

no_plain : (p : Plain) (h : Holder) (b r s : Items) → plain p r ≡ holder h b s → ⊥
no_plain p h b r s e = cc

pub plain_holder : (p : Plain) (h : Holder) (b : Items) → plain_item p ≡ holder_item h b → ⊥
plain_holder p h b e = no_plain p h b no_items no_items (sym (add-plain p no_items) ∙ ap (λ x. add x no_items) e ∙ add-holder h b no_items)

head_is : (n : ℕ) (d : Items) (x : Item) → item_with n n d ≡ Some x → (rest : Items) × (d ≡ add x rest)
head_is n no_items x e = cc
head_is n (plain p rest) x e = (rest, sym (add-plain p rest) ∙ ap (λ y. add y rest) (some_same (plain_item p) x (sym (plain_here n p rest) ∙ e)))
head_is n (holder h b rest) x e = (rest, sym (add-holder h b rest) ∙ ap (λ y. add y rest) (some_same (holder_item h b) x (sym (holder_here n h b rest) ∙ e)))

-- ---- The sizes of a body's items, from a number on.

tail_drop : (xs : List ℕ) (n y : ℕ) (ys : List ℕ) → drop n xs ≡ y ∷ ys → drop (suc n) xs ≡ ys
tail_drop [] zero y ys e = cc
tail_drop [] (suc n) y ys e = cc
tail_drop (x ∷ xs) zero y ys e = cc
tail_drop (x ∷ xs) (suc n) y ys e = tail_drop xs n y ys e

past_drop : (xs : List ℕ) (n : ℕ) (a b : List ℕ) → drop n xs ≡ a ++ b → drop (n + length a) xs ≡ b
past_drop xs n [] b e = let none : n + 0 ≡ n = omega arith in ap (λ k. drop k xs) none ∙ e
past_drop xs n (y ∷ ys) b e =
    let place : n + length (y ∷ ys) ≡ suc n + length ys = omega arith in
    ap (λ k. drop k xs) place ∙ past_drop xs (suc n) ys b (tail_drop xs n y (ys ++ b) e)

get_drop : (xs : List ℕ) (n y : ℕ) (ys : List ℕ) → drop n xs ≡ y ∷ ys → slice_get xs n ≡ Some y
get_drop [] zero y ys e = cc
get_drop [] (suc n) y ys e = cc
get_drop (x ∷ xs) zero y ys e = let same : x ≡ y = cc in ap Some same
get_drop (x ∷ xs) (suc n) y ys e = get_drop xs n y ys e

sizes-length : (t : Items) → length (sizes_of t) ≡ count t
sizes-length no_items = refl
sizes-length (plain p rest) = omega (arith, sizes-length rest)
sizes-length (holder h b rest) = more (sizes_of b) (sizes_of rest) (sizes-length b) (sizes-length rest)
  where
    append-length : (a c : List ℕ) → length (a ++ c) ≡ length a + length c
    append-length [] c = omega arith
    append-length (x ∷ a) c = omega (arith, append-length a c)

    more : (a c : List ℕ) → length a ≡ count b → length c ≡ count rest → length (capped (count b + 1) ∷ (a ++ c)) ≡ count b + 1 + count rest
    more a c e f = omega (arith, append-length a c, e, f)

-- from a number on these are the items of the last map, with these sizes
pub record At (sizes : List ℕ) (n : ℕ) (d : Items) : Type 0 where
  pub more : List ℕ
  pub sizes_are : drop n sizes ≡ sizes_of d ++ more
  pub small : n + count d ≤ 2 ^ 32

pub at_plain : (sizes : List ℕ) (n : ℕ) (p : Plain) (rest : Items) → At sizes n (plain p rest) → At sizes (n + 1) rest
at_plain sizes n p rest a =
    let one : n + 1 ≡ suc n = omega arith in record {
      more = a.more;
      sizes_are = ap (λ k. drop k sizes) one ∙ tail_drop sizes n (capped 1) (sizes_of rest ++ a.more) a.sizes_are;
      small = omega (arith, a.small);
    }

pub at_body : (sizes : List ℕ) (n : ℕ) (h : Holder) (b rest : Items) → At sizes n (holder h b rest) → At sizes (n + 1) b
at_body sizes n h b rest a =
    let one : n + 1 ≡ suc n = omega arith in record {
      more = sizes_of rest ++ a.more;
      sizes_are = ap (λ k. drop k sizes) one ∙ (tail_drop sizes n (capped (count b + 1)) ((sizes_of b ++ sizes_of rest) ++ a.more) a.sizes_are ∙ append_assoc (sizes_of b) (sizes_of rest) a.more);
      small = omega (arith, a.small);
    }

pub at_rest : (sizes : List ℕ) (n : ℕ) (h : Holder) (b rest : Items) → At sizes n (holder h b rest) → At sizes (n + 1 + count b) rest
unfolding at_body
at_rest sizes n h b rest a =
    let inner = at_body sizes n h b rest a in
    let place : n + 1 + count b ≡ n + 1 + length (sizes_of b) = omega (arith, sizes-length b) in record {
      more = a.more;
      sizes_are = ap (λ k. drop k sizes) place ∙ past_drop sizes (n + 1) (sizes_of b) (sizes_of rest ++ a.more) inner.sizes_are;
      small = omega (arith, a.small);
    }

pub at_inside : (sizes : List ℕ) (n m : ℕ) (d : Items) (h : Holder) (b : Items) → At sizes n d → item_with n m d ≡ Some (holder_item h b) → At sizes (m + 1) b
at_inside sizes n m no_items h b a e = cc
at_inside sizes n m (plain p rest) h b a e = by (nat_eq n m) e (λ f. at_inside sizes (n + 1) m rest h b (at_plain sizes n p rest a) f)
  where
    by : (q : Bool) → cond q (Some (plain_item p)) (item_with (n + 1) m rest) ≡ Some (holder_item h b) → (item_with (n + 1) m rest ≡ Some (holder_item h b) → At sizes (m + 1) b) → At sizes (m + 1) b
    by true f g = absurd (plain_holder p h b (some_same (plain_item p) (holder_item h b) f))
    by false f g = g f
at_inside sizes n m (holder g c rest) h b a e = by (nat_eq n m) refl e (λ f. at_inside sizes (n + 1 + count c) m rest h b (at_rest sizes n g c rest a) f)
  where
    by : (q : Bool) → nat_eq n m ≡ q → cond q (Some (holder_item g c)) (item_with (n + 1 + count c) m rest) ≡ Some (holder_item h b)
        → (item_with (n + 1 + count c) m rest ≡ Some (holder_item h b) → At sizes (m + 1) b) → At sizes (m + 1) b
    by true k f r =
        let here : n ≡ m = eqb-true n m k in
        let same = same_holder g h c b (some_same (holder_item g c) (holder_item h b) f) in
        subst (λ j. At sizes (j + 1) b) here (subst (At sizes (n + 1)) same.1 (at_body sizes n g c rest a))
    by false k f r = r f

-- ---- What it says that no edit touched items.

pub record Behind (sizes : List ℕ) (n : ℕ) (now : Option ℕ) (is_touched : Bool) (inside rest : Traces) (k : ℕ) : Type 0 where
  pub untouched : is_touched ≡ false
  pub is : now ≡ Some n
  pub end : ℕ
  pub inner : behind sizes (n + 1) inside ≡ Some end
  pub ends : ends_before sizes n end ≡ true
  pub others : behind sizes end rest ≡ Some k

behind_parts : (sizes : List ℕ) (n : ℕ) (now : Option ℕ) (u m : Bool) (inside rest : Traces) (k : ℕ) → behind sizes n (trace now u m inside rest) ≡ Some k → Behind sizes n now u inside rest k
behind_parts sizes n now true m inside rest k e = cc
behind_parts sizes n None false m inside rest k e = cc
behind_parts sizes n (Some j) false m inside rest k e = by (nat_eq j n) refl e
  where
    inner : (o : Option ℕ) → behind sizes (n + 1) inside ≡ o → option_and_then (λ i. cond (ends_before sizes n i) (behind sizes i rest) None) o ≡ Some k → j ≡ n → Behind sizes n (Some j) false inside rest k
    inner None f g h = cc
    inner (Some i) f g h = end (ends_before sizes n i) refl g
      where
        end : (q : Bool) → ends_before sizes n i ≡ q → cond q (behind sizes i rest) None ≡ Some k → Behind sizes n (Some j) false inside rest k
        end true r s = record { untouched = refl; is = ap Some h; end = i; inner = f; ends = r; others = s }
        end false r s = cc

    by : (q : Bool) → nat_eq j n ≡ q → cond (not q) None (option_and_then (λ i. cond (ends_before sizes n i) (behind sizes i rest) None) (behind sizes (n + 1) inside)) ≡ Some k → Behind sizes n (Some j) false inside rest k
    by true f g = inner (behind sizes (n + 1) inside) refl g (eqb-true j n f)
    by false f g = cc

end_is : (sizes : List ℕ) (n k : ℕ) (h : Holder) (b rest : Items) → At sizes n (holder h b rest) → ends_before sizes n k ≡ true → k ≡ n + 1 + count b
end_is sizes n k h b rest a e =
    let found : slice_get sizes n ≡ Some (capped (count b + 1)) = get_drop sizes n (capped (count b + 1)) ((sizes_of b ++ sizes_of rest) ++ a.more) a.sizes_are in
    let same : k ≡ n + capped (count b + 1) = eqb-true k (n + capped (count b + 1)) (sym (ap (λ o. option_map_or (λ size. nat_eq k (n + size)) o false) found) ∙ e) in
    omega (arith, same, a.small)

-- ---- The next items, so many, don't have a number.

abbrev pub Skips : (skip n m : ℕ) → Items → Type 0
Skips zero n m d = Unit {0}
Skips (suc skip) n m no_items = Unit {0}
Skips (suc skip) n m (plain p rest) = (n ≡ m → ⊥) × Skips skip (n + 1) m rest
Skips (suc skip) n m (holder h b rest) = (n ≡ m → ⊥) × Skips skip (n + 1 + count b) m rest

-- ---- Items that no edit touched.

-- these items are the first ones of those from a number on
pub record First (t : Traces) (xs : Items) (n : ℕ) (d : Items) (k : ℕ) : Type 0 where
  pub rest : Items
  pub parts : d ≡ before xs rest
  pub end : k ≡ n + count xs
  pub skips : (m : ℕ) → Lacks (numbers t) m → Skips (length (origins.list_of t)) n m d

pub same : (sizes : List ℕ) (from : ℕ) (last : Items) (n : ℕ) (d : Items) (t : Traces) (xs : Items) (k : ℕ) → AreValues from last t xs → Ends from last n d → At sizes n d → behind sizes n t ≡ Some k → First t xs n d k
same sizes from last n d no_traces no_items k v e a h =
    let is : n ≡ k = some_same n k h in record { rest = d; parts = refl; end = omega (arith, is); skips = λ m l. tt }
same sizes from last n d no_traces (plain p xs) k v e a h = absurd v
same sizes from last n d no_traces (holder q b xs) k v e a h = absurd v
same sizes from last n d (trace now u m inside others) no_items k v e a h = absurd v
same sizes from last n d (trace now u m inside others) (plain p xs) k v e a h =
    let b = behind_parts sizes n now u m inside others k h in
    let value = subst (λ o. IsPlainValue from last o u p) b.is v.0 in
    let head = head_is n d (plain_item value.0) (sym (e n (omega arith)) ∙ value.1) in
    let is : d ≡ plain p head.0 = head.1 ∙ (add-plain value.0 head.0 ∙ ap (λ q. plain q head.0) (value.2 b.untouched)) in
    let inner : behind sizes (n + 1) no_traces ≡ Some b.end = sym (ap (behind sizes (n + 1)) v.1) ∙ b.inner in
    let end : b.end ≡ n + 1 = sym (some_same (n + 1) b.end inner) in
    let rest = same sizes from last (n + 1) head.0 others xs k v.2 (ends_plain from last n p head.0 (subst (Ends from last n) is e)) (at_plain sizes n p head.0 (subst (At sizes n) is a)) (sym (ap (λ j. behind sizes j others) end) ∙ b.others) in
    record {
      rest = rest.rest;
      parts = is ∙ ap (plain p) rest.parts;
      end = omega (arith, rest.end);
      skips = λ j l.
          subst (Skips (suc (length (origins.list_of others))) n j) (sym is)
          (let lacks = subst (λ o. Lacks (number_list o ++ numbers others) j) b.is l in (lacks.0, rest.skips j lacks.1));
    }
same sizes from last n d (trace now u m inside others) (holder q body xs) k v e a h =
    let b = behind_parts sizes n now u m inside others k h in
    let value = subst (λ o. IsHolderValue from last o u q (λ j c. AreValues j c inside body)) b.is v.0 in
    let head = head_is n d (holder_item value.0 value.1) (sym (e n (omega arith)) ∙ value.2) in
    let found : d ≡ holder q value.1 head.0 = head.1 ∙ (add-holder value.0 value.1 head.0 ∙ ap (λ g. holder g value.1 head.0) (value.3 b.untouched)) in
    let at : At sizes n (holder q value.1 head.0) = subst (At sizes n) found a in
    let inner = same sizes (n + 1) value.1 (n + 1) value.1 inside body b.end value.4 (λ j low. refl) (at_body sizes n q value.1 head.0 at) b.inner in
    let end : b.end ≡ n + 1 + count value.1 = end_is sizes n b.end q value.1 head.0 at b.ends in
    let all : count value.1 ≡ count body + count inner.rest = ap count inner.parts ∙ count-before body inner.rest in
    let none : inner.rest ≡ no_items = none_left inner.rest (omega (arith, all, end, inner.end)) in
    let whole : value.1 ≡ body = inner.parts ∙ (ap (before body) none ∙ before-none body) in
    let is : d ≡ holder q body head.0 = found ∙ ap (λ c. holder q c head.0) whole in
    let place : b.end ≡ n + 1 + count body = end ∙ ap (λ c. n + 1 + count c) whole in
    let rest = same sizes from last (n + 1 + count body) head.0 others xs k v.1 (ends_holder from last n q body head.0 (subst (Ends from last n) is e)) (at_rest sizes n q body head.0 (subst (At sizes n) is a)) (sym (ap (λ j. behind sizes j others) place) ∙ b.others) in
    record {
      rest = rest.rest;
      parts = is ∙ ap (holder q body) rest.parts;
      end = omega (arith, rest.end);
      skips = λ j l.
          subst (Skips (suc (length (origins.list_of others))) n j) (sym is)
          (let lacks = subst (λ o. Lacks (number_list o ++ numbers others) j) b.is l in (lacks.0, rest.skips j lacks.1));
    }
