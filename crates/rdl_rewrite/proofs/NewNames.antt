-- New names in a set, of which none stands twice, and how they clash with old ones.
use Rattle.std.proofs.Common.{arith, ◌≡◌, ◌≤◌, ◌<◌, ◌+◌, ℕ, Bool, true, false, cond, ◌||◌, List, [], ◌∷◌, ◌++◌, length, get_or, take, drop, map, Option, Some, None, refl, ap, sym, ◌∙◌, inl, inr, subst, take_all}
use Rattle.std.proofs.lemmas.Bool.{or_parts, or_cases, or_left, or_right}
use Rattle.std.proofs.lemmas.List.{map-append, take_more, drop_more, take-append-drop}
use Rattle.std.proofs.lemmas.List.Folds.{list_any-append}
use Rattle.std.proofs.lemmas.Map.Text.{is_eq-slice_cmp}
use Rattle.std.proofs.lemmas.Slice.Eq.{bytes_eq-Decides}
use Rattle.std.proofs.Math.Bool.{not-not}
use Rattle.std.specs.Prelude.{not, bytes_eq, MatchOption}
use Rattle.std.specs.Bool.{one_answer}
use Rattle.std.specs.BTreeSet.{BTreeSet, contains, Updates}
use Rattle.std.specs.Cmp.Lexicographic.{slice_cmp}
use Rattle.std.specs.List.{list_any}
use Rattle.std.specs.Ordering.{nat_cmp}
use denote.Ref.{Bor}
use Rattle.rdl_rewrite.specs.Names.{has_name, clash, is_twice, is_among, IsSetOf}

-- a name is another one where that is this one
pub bytes-swap : (m n : List ℕ) → bytes_eq m n ≡ bytes_eq n m
bytes-swap m n =
    one_answer (bytes_eq m n) (bytes_eq n m) (bytes_eq-Decides m n)
    ((λ e. sym ((bytes_eq-Decides n m).0 e)), (λ e. (bytes_eq-Decides n m).1 (sym e)))

-- ---- Which names clash.

or-swap : (a b c d : Bool) → ((a || b) || (c || d)) ≡ ((a || c) || (b || d))
or-swap true b c d = refl
or-swap false true true d = refl
or-swap false true false d = refl
or-swap false false c d = refl

or-none : (a b : Bool) → ((a || false) || b) ≡ (a || b)
or-none true b = refl
or-none false b = refl

has-none : (old : List (List ℕ)) → list_any (λ n. has_name n []) old ≡ false
has-none [] = refl
has-none (o ∷ old) = has-none old

has-more : (m : List ℕ) (ns old : List (List ℕ)) → list_any (λ n. has_name n (m ∷ ns)) old ≡ (has_name m old || list_any (λ n. has_name n ns) old)
has-more m ns [] = refl
has-more m ns (o ∷ old) =
    ap (λ b. (b || has_name o ns) || list_any (λ n. has_name n (m ∷ ns)) old) (bytes-swap m o)
    ∙ ap (λ b. (bytes_eq o m || has_name o ns) || b) (has-more m ns old)
    ∙ or-swap (bytes_eq o m) (has_name o ns) (has_name m old) (list_any (λ n. has_name n ns) old)

-- a new name alone clashes where it is an old one
pub clash_one : (n : List ℕ) (old : List (List ℕ)) → has_name n old ≡ clash (n ∷ []) old
clash_one n old = by (has_name n old)
  where
    by : (b : Bool) → b ≡ (b || false || false)
    by true = refl
    by false = refl

-- new names of which none stands twice clash where an old one is among them
clash-distinct : (new old : List (List ℕ)) → is_twice new ≡ false → clash new old ≡ list_any (λ n. has_name n new) old
clash-distinct [] old e = sym (has-none old)
clash-distinct (m ∷ ns) old e =
    let parts = or_parts (has_name m ns) (is_twice ns) e in
    ap (λ b. (has_name m old || b) || clash ns old) parts.0 ∙ or-none (has_name m old) (clash ns old)
    ∙ ap (λ b. has_name m old || b) (clash-distinct ns old parts.1) ∙ sym (has-more m ns old)

any-same : (p q : List ℕ → Bool) (old : List (List ℕ)) → ((n : List ℕ) → p n ≡ q n) → list_any p old ≡ list_any q old
any-same p q [] e = refl
any-same p q (o ∷ old) e = ap (λ b. b || list_any p old) (e o) ∙ ap (λ b. q o || b) (any-same p q old e)

clash_among : (set : BTreeSet (Bor (List ℕ))) (new old : List (List ℕ)) → IsSetOf set new → list_any (is_among set) old ≡ clash new old
clash_among set new old is = any-same (is_among set) (λ n. has_name n new) old is.same ∙ sym (clash-distinct new old is.distinct)

clash_twice : (new old : List (List ℕ)) → is_twice new ≡ true → true ≡ clash new old
clash_twice [] old e = cc
clash_twice (m ∷ ns) old e =
    elim (or_cases (has_name m ns) (is_twice ns) e) [
      | inl h ↦ sym (or_left (has_name m old || has_name m ns) (clash ns old) (or_right (has_name m old) (has_name m ns) h))
      | inr h ↦ sym (or_right (has_name m old || has_name m ns) (clash ns old) (sym (clash_twice ns old h)))
    ]

-- ---- The set of the first new names.

twice-more : (xs : List (List ℕ)) (y : List ℕ) → is_twice (xs ++ y ∷ []) ≡ (is_twice xs || has_name y xs)
twice-more [] y = refl
twice-more (x ∷ xs) y =
    ap (λ b. b || is_twice (xs ++ y ∷ [])) (list_any-append (λ n. bytes_eq n x) xs (y ∷ []))
    ∙ ap (λ b. (has_name x xs || (b || false)) || is_twice (xs ++ y ∷ [])) (bytes-swap y x)
    ∙ ap (λ b. (has_name x xs || (bytes_eq x y || false)) || b) (twice-more xs y)
    ∙ regroup (has_name x xs) (bytes_eq x y) (is_twice xs) (has_name y xs)
  where
    regroup : (a b c d : Bool) → ((a || (b || false)) || (c || d)) ≡ ((a || c) || (b || d))
    regroup true b c d = refl
    regroup false true true d = refl
    regroup false true false d = refl
    regroup false false c d = refl

-- a name that stands before stands twice
twice-here : (xs : List (List ℕ)) (y : List ℕ) (ys : List (List ℕ)) → has_name y xs ≡ true → is_twice (xs ++ y ∷ ys) ≡ true
twice-here [] y ys e = cc
twice-here (x ∷ xs) y ys e =
    elim (or_cases (bytes_eq x y) (has_name y xs) e) [
      | inl h ↦ or_left (has_name x (xs ++ y ∷ ys)) (is_twice (xs ++ y ∷ ys))
          (list_any-append (λ n. bytes_eq n x) xs (y ∷ ys) ∙ or_right (has_name x xs) (bytes_eq y x || has_name x ys) (or_left (bytes_eq y x) (has_name x ys) (bytes-swap y x ∙ h)))
      | inr h ↦ or_right (has_name x (xs ++ y ∷ ys)) (is_twice (xs ++ y ∷ ys)) (twice-here xs y ys h)
    ]

among-more : (set next : BTreeSet (Bor (List ℕ))) (name : Bor (List ℕ)) → Updates (λ x y. slice_cmp nat_cmp x.now y.now) set next name true
    → (n : List ℕ) → is_among next n ≡ cond (bytes_eq name.now n) true (is_among set n)
among-more set next name updates n =
    updates.0 (record { ref_ptr = (0, 0); now = n }) ∙ ap (λ b. cond b true (is_among set n)) (is_eq-slice_cmp name.now n)

-- whether a name is new says whether the set has it
held : (set : BTreeSet (Bor (List ℕ))) (xs : List (List ℕ)) (name : Bor (List ℕ)) (is_new : Bool) → IsSetOf set xs
    → is_new ≡ not (contains (λ x y. slice_cmp nat_cmp x.now y.now) set name) → has_name name.now xs ≡ not is_new
held set xs name is_new is added = sym (is.same name.now) ∙ sym (not-not (contains (λ x y. slice_cmp nat_cmp x.now y.now) set name)) ∙ ap not (sym added)

set-more : (set next : BTreeSet (Bor (List ℕ))) (xs : List (List ℕ)) (name : Bor (List ℕ)) (is_new : Bool) → IsSetOf set xs
    → Updates (λ x y. slice_cmp nat_cmp x.now y.now) set next name true → is_new ≡ not (contains (λ x y. slice_cmp nat_cmp x.now y.now) set name) → is_new ≡ true → IsSetOf next (xs ++ name.now ∷ [])
set-more set next xs name is_new is updates added new = record {
  same = λ n.
      among-more set next name updates n ∙ ap (cond (bytes_eq name.now n) true) (is.same n) ∙ either (bytes_eq name.now n) (has_name n xs)
      ∙ sym (list_any-append (λ x. bytes_eq x n) xs (name.now ∷ []));
  distinct = twice-more xs name.now ∙ ap (λ b. b || has_name name.now xs) is.distinct ∙ held set xs name is_new is added ∙ ap not new;
}
  where
    either : (a b : Bool) → cond a true b ≡ (b || (a || false))
    either true true = refl
    either true false = refl
    either false true = refl
    either false false = refl

abbrev pub texts : List (Bor (List ℕ)) → List (List ℕ)
texts names = map (λ n. n.now) names

texts-more : (names : List (Bor (List ℕ))) (i : ℕ) (name : Bor (List ℕ)) → i < length names → name ≡ get_or names i name → texts (take (i + 1) names) ≡ texts (take i names) ++ name.now ∷ []
texts-more names i name h is =
    ap texts (take_more names i name h ∙ ap (λ x. take i names ++ x ∷ []) (sym is)) ∙ map-append (λ n. n.now) (take i names) (name ∷ [])

module _ (names : List (Bor (List ℕ))) (i : ℕ) (name : Bor (List ℕ)) (h : i < length names) (item : name ≡ get_or names i name) (set : BTreeSet (Bor (List ℕ))) (key : Bor (List ℕ)) (same : key.now ≡ name.now)
    (is_new : Bool) (is : IsSetOf set (texts (take i names))) (added : is_new ≡ not (contains (λ x y. slice_cmp nat_cmp x.now y.now) set key)) where
  -- one name more
  pub distinct_more : (next : BTreeSet (Bor (List ℕ))) → Updates (λ x y. slice_cmp nat_cmp x.now y.now) set next key true → is_new ≡ true → IsSetOf next (texts (take (i + 1) names))
  distinct_more next updates new =
      subst (IsSetOf next) (ap (λ n. texts (take i names) ++ n ∷ []) same ∙ sym (texts-more names i name h item)) (set-more set next (texts (take i names)) key is_new is updates added new)

  -- this name stands before
  pub distinct_not : is_new ≡ false → is_twice (texts names) ≡ true
  distinct_not old =
      let before = take i names in
      let behind = drop (i + 1) names in
      let split : names ≡ before ++ name ∷ behind = sym (take-append-drop i names) ∙ ap (λ ys. before ++ ys) (drop_more names i name h ∙ ap (λ x. x ∷ behind) (sym item)) in
      let has : has_name name.now (texts before) ≡ true = ap (λ n. has_name n (texts before)) (sym same) ∙ held set (texts before) key is_new is added ∙ ap not old in
      ap (λ ns. is_twice (texts ns)) split ∙ ap is_twice (map-append (λ n. n.now) before (name ∷ behind)) ∙ twice-here (texts before) name.now (texts behind) has

pub distinct_done : (set : BTreeSet (Bor (List ℕ))) (names : List (Bor (List ℕ))) (i : ℕ) → length names ≤ i → IsSetOf set (texts (take i names)) → IsSetOf set (texts names)
distinct_done set names i h is = subst (λ ns. IsSetOf set (texts ns)) (take_all i names h) is

-- the names that were found distinct, or weren't
pub clash_found : (o : Option (BTreeSet (Bor (List ℕ)))) (names : List (Bor (List ℕ))) (set : BTreeSet (Bor (List ℕ))) (new old : List (List ℕ)) → MatchOption o (is_twice (texts names) ≡ true) (λ s. IsSetOf s (texts names))
    → o ≡ Some set → texts names ≡ new → list_any (is_among set) old ≡ clash new old
clash_found o names set new old known is e =
    clash_among set new old (subst (IsSetOf set) e (subst (λ p. MatchOption p (is_twice (texts names) ≡ true) (λ s. IsSetOf s (texts names))) is known))

pub clash_repeated : (o : Option (BTreeSet (Bor (List ℕ)))) (names : List (Bor (List ℕ))) (new old : List (List ℕ)) → MatchOption o (is_twice (texts names) ≡ true) (λ s. IsSetOf s (texts names))
    → o ≡ None → texts names ≡ new → true ≡ clash new old
clash_repeated o names new old known is e =
    clash_twice new old (ap is_twice (sym e) ∙ subst (λ p. MatchOption p (is_twice (texts names) ≡ true) (λ s. IsSetOf s (texts names))) is known)

-- a new name that is the only one
pub clash_only : (names : List (Bor (List ℕ))) (n : Bor (List ℕ)) (new old : List (List ℕ)) → 1 ≤ length names → length names < 2 → n ≡ get_or names 0 n → texts names ≡ new → has_name n.now old ≡ clash new old
clash_only [] n new old few one is same = absurd (omega (arith, few))
clash_only (m ∷ []) n new old few one is same = ap (λ (x : Bor (List ℕ)). has_name x.now old) is ∙ clash_one m.now old ∙ ap (λ ns. clash ns old) same
clash_only (m ∷ k ∷ names) n new old few one is same = absurd (omega (arith, one))
