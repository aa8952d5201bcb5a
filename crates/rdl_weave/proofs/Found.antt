-- The statement whose first item has a number, and the body that was inside the item of a number, are those of items of the last map.
use Rattle.std.proofs.Common.{◌≡◌, ℕ, zero, suc, ◌+◌, ◌^◌, ◌≤◌, Bool, true, false, cond, List, [], ◌∷◌, ◌++◌, length, take, drop, Option, Some, None, inl, inr, ◌⊎◌, refl, ap, sym, ◌∙◌, arith, subst}
use Rattle.std.specs.Prelude.{nat_eq, is_some}
use Rattle.std.specs.Option.{option_map, option_map_or}
use Rattle.std.specs.Str.{IsUtf8}
use Rattle.std.proofs.lemmas.Bool.{eqb-true, false≢true, and_parts}
use Rattle.rdl_tree.specs.Items.{Items, no_items, plain, holder, Plain, Holder, count}
use Rattle.rdl_tree.specs.View.{items_of, list_of, holder_item, own_body}
use Rattle.rdl_tree.specs.declared.description.Item.{Item}
use Rattle.rdl_tree.specs.declared.description.Item.TheVariants.{Define, Instance, Own, Default, Dynamic}
use Rattle.rdl_tree.specs.declared.description.Of.TheVariants.{Named, Anonymous}
use Rattle.rdl_tree.proofs.Rounds.{list_of-items_of, items_of-list_of}
use Rattle.rdl_origin.specs.Once.{number_list, numbers, Lacks, LacksAll, StandOnce}
use Rattle.rdl_origin.specs.Traces.{Traces}
use Rattle.rdl_origin.specs.Values.{item_with, IsPlainValue, IsHolderValue, AreValues}
use Rattle.rdl_origin.specs.View as origins
use Rattle.rdl_origin.specs.declared.origin.Origin.{Origin}
use Rattle.rdl_origin.proofs.Rounds as traces_rounds
use Rattle.rdl_origin.proofs.Values.{Ends, IsValue, AreSo, first_value, more_values, none_more, holder_here, ends_plain, ends_holder}
use Rattle.rdl_parse.specs.Parsing.{SpellsItemText}
use Rattle.rdl_source.specs.LaidText.{part}
use Rattle.rdl_source.specs.Laid.{Laid, ended, bare, braced}
use Rattle.rdl_source.specs.View as views
use Rattle.rdl_source.specs.declared.statement.Inner.{Inner}
use Rattle.rdl_source.specs.declared.statement.Statement.{Statement}
use Rattle.rdl_source.specs.Alone.{InBody, InBodies, StandAlone}
use Rattle.rdl_weave.specs.Coarse.{is_kept, kept_at, inside_now, changed_in, first_of, changed_at, others, next}
use Rattle.rdl_weave.specs.Keeping.{core}
use Rattle.rdl_weave.specs.Sound.{IsAlone, StandsFor, unless, Matches}
use Rattle.rdl_weave.specs.Untouched.{is_now, behind, is_untouched}
use Rattle.rdl_weave.proofs.Same.{At, at_plain, at_body, at_rest, same, Skips, some_same, same_holder, plain_holder, list-before}

-- ---- Origins that have a number.

abbrev pub Holds : ℕ → List Origin → Type 0
Holds m [] = ⊥
Holds m (o ∷ os) = (o.now ≡ Some m) ⊎ Holds m os

abbrev pub tail : List Origin → List Origin
tail [] = []
tail (o ∷ os) = os

pub holds_tail : (m : ℕ) (os : List Origin) → Holds m (tail os) → Holds m os
holds_tail m [] h = h
holds_tail m (o ∷ os) h = inr h

pub holds_take : (k m : ℕ) (os : List Origin) → Holds m (take k os) → Holds m os
holds_take zero m os h = absurd h
holds_take (suc k) m [] h = h
holds_take (suc k) m (o ∷ os) (inl e) = inl e
holds_take (suc k) m (o ∷ os) (inr h) = inr (holds_take k m os h)

pub holds_drop : (k m : ℕ) (os : List Origin) → Holds m (drop k os) → Holds m os
holds_drop zero m os h = h
holds_drop (suc k) m [] h = h
holds_drop (suc k) m (o ∷ os) h = inr (holds_drop k m os h)

some_number : (n m : ℕ) → ◌≡◌ {A = Option ℕ} (Some n) (Some m) → n ≡ m
some_number n m e = cc

lacks_not : (m : ℕ) (os : List Origin) → Lacks (numbers (origins.traces_of os)) m → Holds m os → ⊥
lacks_not m [] l h = h
lacks_not m (o ∷ os) l h = at o.now refl l h (λ k g. lacks_not m os k g)
  where
    none : ◌≡◌ {A = Option ℕ} None (Some m) → ⊥
    none e = cc

    at : (now : Option ℕ) → o.now ≡ now → Lacks (number_list now ++ numbers (origins.traces_of os)) m → (o.now ≡ Some m) ⊎ Holds m os → (Lacks (numbers (origins.traces_of os)) m → Holds m os → ⊥) → ⊥
    at None e l (inl f) r = none (sym e ∙ f)
    at (Some n) e l (inl f) r = l.0 (some_number n m (sym e ∙ f))
    at None e l (inr g) r = r l g
    at (Some n) e l (inr g) r = r l.1 g

pub lacks_unless : (m : ℕ) (os : List Origin) → (Holds m os → ⊥) → Lacks (numbers (origins.traces_of os)) m
lacks_unless m [] h = tt
lacks_unless m (o ∷ os) h = at o.now refl (lacks_unless m os (λ g. h (inr g)))
  where
    at : (now : Option ℕ) → o.now ≡ now → Lacks (numbers (origins.traces_of os)) m → Lacks (number_list now ++ numbers (origins.traces_of os)) m
    at None e l = l
    at (Some n) e l = ((λ f. h (inl (e ∙ ap Some f))), l)

first_not : (m : ℕ) (o : Origin) (os : List Origin) → LacksAll (numbers (origins.traces_of os)) (number_list o.now) → o.now ≡ Some m → Holds m os → ⊥
first_not m o os l e h =
    let all = subst (λ now. LacksAll (numbers (origins.traces_of os)) (number_list now)) e l in lacks_not m os all.0 h

-- an item's number is not that of another
pub once : (m : ℕ) (o : Origin) (os : List Origin) → StandOnce (origins.traces_of (o ∷ os)) → o.now ≡ Some m → Holds m os → ⊥
once m o os s e h = first_not m o os s.0 e h

pub apart : (k m : ℕ) (os : List Origin) → StandOnce (origins.traces_of os) → Holds m (take k os) → Holds m (drop k os) → ⊥
apart zero m os s h g = h
apart (suc k) m [] s h g = h
apart (suc k) m (o ∷ os) s (inl e) g = once m o os s e (holds_drop k m os g)
apart (suc k) m (o ∷ os) s (inr h) g = apart k m os s.2 h g

pub once_drop : (k : ℕ) (os : List Origin) → StandOnce (origins.traces_of os) → StandOnce (origins.traces_of (drop k os))
once_drop zero os s = s
once_drop (suc k) [] s = s
once_drop (suc k) (o ∷ os) s = once_drop k os s.2

numbers_take : (k n : ℕ) (os : List Origin) → Lacks (numbers (origins.traces_of os)) n → Lacks (numbers (origins.traces_of (take k os))) n
numbers_take k n os l = lacks_unless n (take k os) (λ h. lacks_not n os l (holds_take k n os h))

pub once_take : (k : ℕ) (os : List Origin) → StandOnce (origins.traces_of os) → StandOnce (origins.traces_of (take k os))
once_take zero os s = tt
once_take (suc k) [] s = s
once_take (suc k) (o ∷ os) s = (all (number_list o.now) s.0, s.1, once_take k os s.2)
  where
    all : (ns : List ℕ) → LacksAll (numbers (origins.traces_of os)) ns → LacksAll (numbers (origins.traces_of (take k os))) ns
    all [] l = tt
    all (n ∷ ns) l = (numbers_take k n os l.0, all ns l.1)

-- ---- Values of some of the items.

pub so_take : (from : ℕ) (last : Items) (k : ℕ) (os : List Origin) (xs : List Item) → AreSo from last os xs → AreSo from last (take k os) (take k xs)
so_take from last zero os xs v = tt
so_take from last (suc k) [] [] v = tt
so_take from last (suc k) [] (x ∷ xs) v = absurd (none_more from last x (items_of xs) v)
so_take from last (suc k) (o ∷ os) [] v = absurd v
so_take from last (suc k) (o ∷ os) (x ∷ xs) v =
    let parts = first_value from last o (origins.traces_of os) x (items_of xs) v in
    more_so from last o (take k os) x (take k xs) parts.0 (so_take from last k os xs parts.1)
  where
    more_so : (from : ℕ) (last : Items) (o : Origin) (os : List Origin) (x : Item) (xs : List Item) → IsValue from last o x → AreSo from last os xs → AreSo from last (o ∷ os) (x ∷ xs)
    more_so from last o os x xs h k = more_values from last o (origins.traces_of os) x (items_of xs) h k

pub so_drop : (from : ℕ) (last : Items) (k : ℕ) (os : List Origin) (xs : List Item) → AreSo from last os xs → AreSo from last (drop k os) (drop k xs)
so_drop from last zero os xs v = v
so_drop from last (suc k) [] [] v = tt
so_drop from last (suc k) [] (x ∷ xs) v = absurd (none_more from last x (items_of xs) v)
so_drop from last (suc k) (o ∷ os) [] v = absurd v
so_drop from last (suc k) (o ∷ os) (x ∷ xs) v = so_drop from last k os xs (first_value from last o (origins.traces_of os) x (items_of xs) v).1

so_length : (from : ℕ) (last : Items) (os : List Origin) (xs : List Item) → AreSo from last os xs → length os ≡ length xs
so_length from last [] [] v = refl
so_length from last [] (x ∷ xs) v = absurd (none_more from last x (items_of xs) v)
so_length from last (o ∷ os) [] v = absurd v
so_length from last (o ∷ os) (x ∷ xs) v = ap suc (so_length from last os xs (first_value from last o (origins.traces_of os) x (items_of xs) v).1)

-- ---- Statements that stand alone, one by one.

abbrev pub AloneInside : (source : List ℕ) → Option Inner → List Item → Type 0
AloneInside source None xs = Unit {0}
AloneInside source (Some i) xs = InBodies (λ t. StandAlone source i.body (list_of t)) xs

abbrev pub AloneList : (source : List ℕ) → List Statement → List Item → Type 0
AloneList source [] xs = Unit {0}
AloneList source (s ∷ ss) xs = IsAlone source s (take s.items xs) × AloneInside source s.inside (take s.items xs) × AloneList source ss (drop s.items xs)

is_alone : (source : List ℕ) (s t : Statement) (xs : List Item) → views.bare_of s ≡ views.bare_of t → IsAlone source s xs → IsAlone source t xs
is_alone source s t xs e h = record {
  is_text = subst (λ b. IsUtf8 (part source (core b))) e h.is_text;
  spelled = subst (λ b. SpellsItemText (part source (core b)) xs) e h.spelled;
}

pub alone_list : (source : List ℕ) (l : Laid) (xs : List Item) → StandAlone source l xs → AloneList source (views.list_of l) xs
alone_list source (ended last) xs h = tt
alone_list source (bare b rest) xs h = (h.0, tt, alone_list source rest (drop b.items xs) h.1)
alone_list source (braced b br body rest) xs h = (is_alone source _ _ (take b.items xs) refl h.0, h.1, alone_list source rest (drop b.items xs) h.2)

-- ---- The statement whose first item has a number.

-- the number is that of an item of a statement that no edit touched, and not of its first one
abbrev pub Inside : (sizes : List ℕ) → (m : ℕ) → List Statement → List Origin → Type 0
Inside sizes m [] os = ⊥
Inside sizes m (s ∷ ss) os = ((is_untouched sizes s.items (take s.items os) ≡ true) × Holds m (tail (take s.items os))) ⊎ Inside sizes m ss (drop s.items os)

pub record Kept (source sizes : List ℕ) (from : ℕ) (last : Items) (n : ℕ) (ss : List Statement) (os : List Origin) (s : Statement) : Type 0 where
  pub own : List Origin
  pub items : List Item
  pub values : AreSo from last own items
  pub kept : is_kept sizes n s.items own ≡ true
  pub alone : IsAlone source s items
  pub others : (m : ℕ) → Holds m (tail own) → Inside sizes m ss os

pub kept_found : (source sizes : List ℕ) (from : ℕ) (last : Items) (n : ℕ) (ss : List Statement) (os : List Origin) (xs : List Item) (s : Statement) → AloneList source ss xs → AreSo from last os xs
    → kept_at sizes n ss os ≡ Some s → Kept source sizes from last n ss os s
kept_found source sizes from last n [] os xs s a v e = cc
kept_found source sizes from last n (t ∷ ss) os xs s a v e =
    by (is_kept sizes n t.items (take t.items os)) refl e (λ f. kept_found source sizes from last n ss (drop t.items os) (drop t.items xs) s a.2 (so_drop from last t.items os xs v) f)
  where
    untouched : (own : List Origin) → is_kept sizes n t.items own ≡ true → is_untouched sizes t.items own ≡ true
    untouched [] h = absurd (false≢true h)
    untouched (o ∷ os) h = (and_parts (is_now n o.now) (is_untouched sizes t.items (o ∷ os)) h).1

    by : (q : Bool) → is_kept sizes n t.items (take t.items os) ≡ q → cond q (Some t) (kept_at sizes n ss (drop t.items os)) ≡ Some s
        → (kept_at sizes n ss (drop t.items os) ≡ Some s → Kept source sizes from last n ss (drop t.items os) s) → Kept source sizes from last n (t ∷ ss) os s
    by true k f g =
        let is : t ≡ s = some_same t s f in
        subst (Kept source sizes from last n (t ∷ ss) os) is
        (record {
          own = take t.items os;
          items = take t.items xs;
          values = so_take from last t.items os xs v;
          kept = k;
          alone = a.0;
          others = λ m h. inl (untouched (take t.items os) k, h);
        })
    by false k f g =
        let r = g f in record { own = r.own; items = r.items; values = r.values; kept = r.kept; alone = r.alone; others = λ m h. inr (r.others m h) }

-- what it is of the items of the last map
pub record Taken (sizes : List ℕ) (n : ℕ) (d : Items) (own : List Origin) (xs : List Item) (s : Statement) : Type 0 where
  pub first : Origin
  pub more : List Origin
  pub own_is : own ≡ first ∷ more
  pub now : first.now ≡ Some n
  pub count_is : length own ≡ s.items
  pub rest : List Item
  pub parts : list_of d ≡ xs ++ rest
  pub skips : (m : ℕ) → Lacks (numbers (origins.traces_of own)) m → Skips s.items n m d

taken : (sizes : List ℕ) (from : ℕ) (last : Items) (n : ℕ) (d : Items) (own : List Origin) (xs : List Item) (s : Statement) → AreSo from last own xs → Ends from last n d → At sizes n d → is_kept sizes n s.items own ≡ true → Taken sizes n d own xs s
taken sizes from last n d [] xs s v e a h = absurd (false≢true h)
taken sizes from last n d (o ∷ os) xs s v e a h =
    let both = and_parts (is_now n o.now) (is_untouched sizes s.items (o ∷ os)) h in
    let two = and_parts (nat_eq (length (o ∷ os)) s.items) (option_map_or (λ k. is_some (behind sizes k (origins.traces_of (o ∷ os)))) o.now false) both.1 in
    let now : o.now ≡ Some n = number o.now refl both.0 in
    let here : is_some (behind sizes n (origins.traces_of (o ∷ os))) ≡ true = sym (ap (λ k. option_map_or (λ k. is_some (behind sizes k (origins.traces_of (o ∷ os)))) k false) now) ∙ two.1 in
    let end = the_end (behind sizes n (origins.traces_of (o ∷ os))) refl here in
    let first = same sizes from last n d (origins.traces_of (o ∷ os)) (items_of xs) end.0 v e a end.1 in
    let size : length (o ∷ os) ≡ s.items = eqb-true (length (o ∷ os)) s.items two.0 in
    let listed : length (origins.list_of (origins.traces_of (o ∷ os))) ≡ s.items = ap length (traces_rounds.list_of-traces_of (o ∷ os)) ∙ size in
    record {
      first = o;
      more = os;
      own_is = refl;
      now = now;
      count_is = size;
      rest = list_of first.rest;
      parts = ap list_of first.parts ∙ (list-before (items_of xs) first.rest ∙ ap (λ ys. ys ++ list_of first.rest) (list_of-items_of xs));
      skips = λ m l. subst (λ k. Skips k n m d) listed (first.skips m l);
    }
  where
    number : (now : Option ℕ) → o.now ≡ now → is_now n now ≡ true → o.now ≡ Some n
    number None e f = absurd (false≢true f)
    number (Some m) e f = e ∙ ap Some (eqb-true m n f)

    the_end : (r : Option ℕ) → behind sizes n (origins.traces_of (o ∷ os)) ≡ r → is_some r ≡ true → (k : ℕ) × (behind sizes n (origins.traces_of (o ∷ os)) ≡ Some k)
    the_end None f g = absurd (false≢true g)
    the_end (Some k) f g = (k, f)

pub kept_taken : (source sizes : List ℕ) (from : ℕ) (last : Items) (n : ℕ) (d : Items) (ss : List Statement) (os : List Origin) (s : Statement) (k : Kept source sizes from last n ss os s) → Ends from last n d → At sizes n d → Taken sizes n d k.own k.items s
kept_taken source sizes from last n d ss os s k e a = taken sizes from last n d k.own k.items s k.values e a k.kept

take_whole : (xs ys : List Item) → take (length xs) (xs ++ ys) ≡ xs
take_whole [] ys = refl
take_whole (x ∷ xs) ys = ap (λ zs. x ∷ zs) (take_whole xs ys)

-- it spells the first of these items of the last map
stands_for : (source sizes : List ℕ) (from : ℕ) (last : Items) (n : ℕ) (d : Items) (ss : List Statement) (os : List Origin) (xs : List Item) → AloneList source ss xs → AreSo from last os xs → Ends from last n d → At sizes n d
    → (k : Option Statement) → kept_at sizes n ss os ≡ k → StandsFor source k (list_of d)
stands_for source sizes from last n d ss os xs a v e z None f = tt
stands_for source sizes from last n d ss os xs a v e z (Some s) f =
    let k = kept_found source sizes from last n ss os xs s a v f in
    let t = kept_taken source sizes from last n d ss os s k e z in
    let size : s.items ≡ length k.items = sym t.count_is ∙ so_length from last k.own k.items k.values in
    let is : take s.items (list_of d) ≡ k.items = ap (λ j. take j (list_of d)) size ∙ (ap (take (length k.items)) t.parts ∙ take_whole k.items t.rest) in
    subst (IsAlone source s) (sym is) k.alone

-- ---- The body that was inside the item of a number.

pub record Changed (source : List ℕ) (from : ℕ) (last : Items) (n : ℕ) (c : Laid × Traces) : Type 0 where
  pub origin : Origin
  pub item : Item
  pub value : IsValue from last origin item
  pub now : origin.now ≡ Some n
  pub inside : c.1 ≡ origin.inside
  pub alone : InBody (λ t. StandAlone source c.0 (list_of t)) (own_body item)

in_items : (source : List ℕ) (from : ℕ) (last : Items) (n : ℕ) (body : Laid) (os : List Origin) (xs : List Item) (t : Traces) → InBodies (λ t. StandAlone source body (list_of t)) xs → AreSo from last os xs
    → inside_now n os ≡ Some t → Changed source from last n (body, t)
in_items source from last n body [] xs t a v e = cc
in_items source from last n body (o ∷ os) [] t a v e = absurd v
in_items source from last n body (o ∷ os) (x ∷ xs) t a v e =
    let parts = first_value from last o (origins.traces_of os) x (items_of xs) v in by (is_now n o.now) refl e parts.0 (λ f. in_items source from last n body os xs t a.1 parts.1 f)
  where
    number : (now : Option ℕ) → is_now n now ≡ true → now ≡ Some n
    number None f = absurd (false≢true f)
    number (Some m) f = ap Some (eqb-true m n f)

    by : (q : Bool) → is_now n o.now ≡ q → cond q (Some o.inside) (inside_now n os) ≡ Some t → IsValue from last o x → (inside_now n os ≡ Some t → Changed source from last n (body, t)) → Changed source from last n (body, t)
    by true k f w g = record { origin = o; item = x; value = w; now = number o.now k; inside = sym (some_same o.inside t f); alone = a.0 }
    by false k f w g = g f

pub changed_found : (source : List ℕ) (from : ℕ) (last : Items) (n : ℕ) (ss : List Statement) (os : List Origin) (xs : List Item) (c : Laid × Traces) → AloneList source ss xs → AreSo from last os xs
    → changed_at n ss os ≡ Some c → Changed source from last n c
changed_found source from last n [] os xs c a v e = cc
changed_found source from last n (s ∷ ss) os xs c a v e =
    first (changed_in n s.inside (take s.items os)) refl e (changed_found source from last n ss (drop s.items os) (drop s.items xs) c a.2 (so_drop from last s.items os xs v))
  where
    inner : (o : Option Inner) → AloneInside source o (take s.items xs) → changed_in n o (take s.items os) ≡ Some c → Changed source from last n c
    inner None b f = cc
    inner (Some i) b f = got (inside_now n (take s.items os)) refl f
      where
        got : (t : Option Traces) → inside_now n (take s.items os) ≡ t → option_map (λ t. (i.body, t)) t ≡ Some c → Changed source from last n c
        got None g h = cc
        got (Some t) g h = subst (Changed source from last n) (some_same (i.body, t) c h) (in_items source from last n i.body (take s.items os) (take s.items xs) t b (so_take from last s.items os xs v) g)

    first : (r : Option (Laid × Traces)) → changed_in n s.inside (take s.items os) ≡ r → first_of r (changed_at n ss (drop s.items os)) ≡ Some c
        → (changed_at n ss (drop s.items os) ≡ Some c → Changed source from last n c) → Changed source from last n c
    first None f g h = h g
    first (Some d) f g h = inner s.inside a.1 (f ∙ g)

-- what is inside an item that has a body in the last map
pub record Within (from : ℕ) (body : Items) (t : Traces) (x : Item) : Type 0 where
  pub items : Items
  pub own : own_body x ≡ Some items
  pub values : AreValues from body t items

pub within : (from : ℕ) (last : Items) (n : ℕ) (o : Origin) (x : Item) (h : Holder) (body : Items) → IsValue from last o x → o.now ≡ Some n → item_with from n last ≡ Some (holder_item h body) → Within (n + 1) body o.inside x
within from last n o x h body v e f = by x v
  where
    held : (g : Holder) (t : Items) → IsHolderValue from last o.now o.is_touched g (λ k b. AreValues k b o.inside t) → AreValues (n + 1) body o.inside t
    held g t v =
        let w = subst (λ now. IsHolderValue from last now o.is_touched g (λ k b. AreValues k b o.inside t)) e v in
        subst (λ b. AreValues (n + 1) b o.inside t) (same_holder w.0 h w.1 body (some_same _ _ (sym w.2 ∙ f))).1 w.4

    not_plain : (p : Plain) → IsPlainValue from last o.now o.is_touched p → ⊥
    not_plain p v =
        let w = subst (λ now. IsPlainValue from last now o.is_touched p) e v in plain_holder w.0 h body (some_same _ _ (sym w.1 ∙ f))

    by : (x : Item) → IsValue from last o x → Within (n + 1) body o.inside x
    by (Define m c) v = record { items = c.body; own = refl; values = held _ c.body v.0 }
    by (Instance s (Named t)) v = absurd (not_plain _ v.0)
    by (Instance s (Anonymous c)) v = record { items = c.body; own = refl; values = held _ c.body v.0 }
    by (Own p w) v = absurd (not_plain _ v.0)
    by (Default p w) v = absurd (not_plain _ v.0)
    by (Dynamic t p w) v = absurd (not_plain _ v.0)

-- ---- Each statement that is met stands for the items of the last map.

pub next_plain : (n : ℕ) (p : Plain) (rest : Items) → n + count (plain p rest) ≤ 2 ^ 32 → next n 1 ≡ n + 1
next_plain n p rest h = omega (arith, h)

pub next_holder : (n : ℕ) (h : Holder) (body rest : Items) → n + count (holder h body rest) ≤ 2 ^ 32 → next n (count body + 1) ≡ n + 1 + count body
next_holder n h body rest k = omega (arith, k)

pub next_body : (n : ℕ) (h : Holder) (body rest : Items) → n + count (holder h body rest) ≤ 2 ^ 32 → next n 1 ≡ n + 1
next_body n h body rest k = omega (arith, k)

pub so_lists : (from : ℕ) (last : Items) (t : Traces) (xs : Items) → AreValues from last t xs → AreSo from last (origins.list_of t) (list_of xs)
so_lists from last t xs h =
    subst (λ u. AreValues from last u (items_of (list_of xs))) (sym (traces_rounds.traces_of-list_of t)) (subst (AreValues from last t) (sym (items_of-list_of xs)) h)

abbrev InsideMatches : (source sizes : List ℕ) (n : ℕ) (body : Items) → Option (Laid × Traces) → Type 0
InsideMatches source sizes n body found =
    elim found [
      | None ↦ Unit {0}
      | Some c ↦ Matches source sizes (views.list_of c.0) (origins.list_of c.1) 0 (next n 1) body
    ]

pub matches : (source sizes : List ℕ) (from : ℕ) (last : Items) (ss : List Statement) (os : List Origin) (xs : List Item) (skip n : ℕ) (d : Items) → AloneList source ss xs → AreSo from last os xs → Ends from last n d → At sizes n d
    → Matches source sizes ss os skip n d
matches source sizes from last ss os xs zero n no_items a v e z = tt
matches source sizes from last ss os xs (suc skip) n no_items a v e z = tt
matches source sizes from last ss os xs (suc skip) n (plain p rest) a v e z =
    subst (λ m. Matches source sizes ss os skip m rest) (sym (next_plain n p rest z.small))
    (matches source sizes from last ss os xs skip (n + 1) rest a v (ends_plain from last n p rest e) (at_plain sizes n p rest z))
matches source sizes from last ss os xs (suc skip) n (holder h body rest) a v e z =
    subst (λ m. Matches source sizes ss os skip m rest) (sym (next_holder n h body rest z.small))
    (matches source sizes from last ss os xs skip (n + 1 + count body) rest a v (ends_holder from last n h body rest e) (at_rest sizes n h body rest z))
matches source sizes from last ss os xs zero n (plain p rest) a v e z = (
  stands_for source sizes from last n (plain p rest) ss os xs a v e z (kept_at sizes n ss os) refl,
  subst (λ m. Matches source sizes ss os (others (kept_at sizes n ss os)) m rest) (sym (next_plain n p rest z.small))
      (matches source sizes from last ss os xs (others (kept_at sizes n ss os)) (n + 1) rest a v (ends_plain from last n p rest e) (at_plain sizes n p rest z)),
)
matches source sizes from last ss os xs zero n (holder h body rest) a v e z = (
  stands_for source sizes from last n (holder h body rest) ss os xs a v e z (kept_at sizes n ss os) refl,
  inner (kept_at sizes n ss os) (changed_at n ss os) refl (λ c t ys b w. matches source sizes (n + 1) body (views.list_of c) (origins.list_of t) ys 0 (n + 1) body b w (λ m low. refl) (at_body sizes n h body rest z)),
  subst (λ m. Matches source sizes ss os (others (kept_at sizes n ss os)) m rest) (sym (next_holder n h body rest z.small))
      (matches source sizes from last ss os xs (others (kept_at sizes n ss os)) (n + 1 + count body) rest a v (ends_holder from last n h body rest e) (at_rest sizes n h body rest z)),
)
  where
    Deeper : Type 0
    Deeper =
        (l : Laid) (t : Traces) (ys : List Item) → AloneList source (views.list_of l) ys → AreSo (n + 1) body (origins.list_of t) ys → Matches source sizes (views.list_of l) (origins.list_of t) 0 (n + 1) body

    in_body : (c : Laid × Traces) → changed_at n ss os ≡ Some c → Deeper → Matches source sizes (views.list_of c.0) (origins.list_of c.1) 0 (next n 1) body
    in_body c f deeper =
        let g = changed_found source from last n ss os xs c a v f in
        let w = within from last n g.origin g.item h body g.value g.now (e n (omega arith) ∙ holder_here n h body rest) in
        let alone = subst (InBody (λ t. StandAlone source c.0 (list_of t))) w.own g.alone in
        let values = subst (λ t. AreValues (n + 1) body t w.items) (sym g.inside) w.values in
        subst (λ m. Matches source sizes (views.list_of c.0) (origins.list_of c.1) 0 m body) (sym (next_body n h body rest z.small))
        (deeper c.0 c.1 (list_of w.items) (alone_list source c.0 (list_of w.items) alone) (so_lists (n + 1) body c.1 w.items values))

    inner : (k : Option Statement) (r : Option (Laid × Traces)) → changed_at n ss os ≡ r → Deeper → InsideMatches source sizes n body (unless k r)
    inner None None f g = tt
    inner None (Some c) f g = in_body c f g
    inner (Some s) r f g = tt
