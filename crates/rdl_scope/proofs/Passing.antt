-- Steps along the names of a target.
use Rattle.std.proofs.Common.{◌≡◌, ℕ, ◌+◌, ◌<◌, ◌≤◌, List, [], ◌∷◌, ◌++◌, length, drop, get_or, Some, None, Option, refl, ap, sym, ◌∙◌, arith, append_assoc, option_map, add-one, drop-cons, length-drop}
use Rattle.std.proofs.lemmas.List.{drop_all}
use Rattle.std.specs.Prelude.{option_and_then}
use Rattle.rdl_tree.specs.Items.{Items}
use Rattle.rdl_scope.specs.Types.{component_of, items_in}
use Rattle.rdl_scope.specs.Target.{passes, instance_in}

-- the instances so far, and those to come
abbrev pub after : List (List ℕ) → Option (List (List ℕ)) → Option (List (List ℕ))
after path more = option_map (λ x. path ++ x) more

pub after-none : (o : Option (List (List ℕ))) → after [] o ≡ o
after-none None = refl
after-none (Some x) = refl

after-push : (path : List (List ℕ)) (a : List ℕ) (o : Option (List (List ℕ))) → after path (option_map (λ more. a ∷ more) o) ≡ after (path ++ a ∷ []) o
after-push path a None = refl
after-push path a (Some x) = ap Some (sym (append_assoc path (a ∷ []) x))

-- the last name
passes-one : (d : Items) (b : List ℕ) (n : ℕ) (name a : List ℕ) → instance_in d b n name ≡ Some a → passes d b n (name ∷ []) ≡ Some (a ∷ [])
passes-one d b n name a e = ap (option_map (λ a. a ∷ [])) e

-- no such name
passes-none : (d : Items) (b : List ℕ) (n : ℕ) (name : List ℕ) (names : List (List ℕ)) → instance_in d b n name ≡ None → passes d b n (name ∷ names) ≡ None
passes-none d b n name [] e = ap (option_map (λ a. a ∷ [])) e
passes-none d b n name (next ∷ names) e = ap (option_and_then (λ a. option_map (λ more. a ∷ more) (option_and_then (λ c. passes d c (items_in c d) (next ∷ names)) (component_of d a)))) e

-- a name that isn't the last
passes-more : (d : Items) (b : List ℕ) (n : ℕ) (name : List ℕ) (names : List (List ℕ)) (a : List ℕ) → 1 ≤ length names → instance_in d b n name ≡ Some a
    → passes d b n (name ∷ names) ≡ option_map (λ more. a ∷ more) (option_and_then (λ c. passes d c (items_in c d) names) (component_of d a))
passes-more d b n name [] a h e = absurd (omega arith)
passes-more d b n name (next ∷ names) a h e = ap (option_and_then (λ a. option_map (λ more. a ∷ more) (option_and_then (λ c. passes d c (items_in c d) (next ∷ names)) (component_of d a)))) e

-- the names from the i-th on, which is x
named : (i : ℕ) (names : List (List ℕ)) (x : List ℕ) → i < length names → x ≡ get_or names i x → drop i names ≡ x ∷ drop (i + 1) names
named i names x h e = (rw add-one (drop-cons names i x h)) ∙ ap (λ y. y ∷ drop (i + 1) names) (sym e)

-- no name is left
pub passed_all : (d : Items) (b : List ℕ) (n : ℕ) (names path : List (List ℕ)) (i : ℕ) → length names ≤ i → after path (passes d b n (drop i names)) ≡ None
passed_all d b n names path i h = ap (λ ns. after path (passes d b n ns)) (drop_all i names h)

-- the i-th name is that of no instance
pub met_none : (d : Items) (b : List ℕ) (n : ℕ) (names path : List (List ℕ)) (i : ℕ) (x : List ℕ)
    → i < length names → x ≡ get_or names i x → instance_in d b n x ≡ None → after path (passes d b n (drop i names)) ≡ None
met_none d b n names path i x h is e =
    ap (λ ns. after path (passes d b n ns)) (named i names x h is) ∙ ap (after path) (passes-none d b n x (drop (i + 1) names) e)

-- the i-th name is the last
pub met_last : (d : Items) (b : List ℕ) (n : ℕ) (names path : List (List ℕ)) (i : ℕ) (x a : List ℕ)
    → i < length names → x ≡ get_or names i x → i + 1 ≡ length names → instance_in d b n x ≡ Some a → after path (passes d b n (drop i names)) ≡ Some (path ++ a ∷ [])
met_last d b n names path i x a h is last e =
    let end : length names ≤ i + 1 = omega (arith, last) in
    ap (λ ns. after path (passes d b n ns)) (named i names x h is ∙ ap (λ ns. x ∷ ns) (drop_all (i + 1) names end)) ∙ ap (after path) (passes-one d b n x a e)

-- the way goes on in the component of the i-th name's instance
pub met_more : (d : Items) (b : List ℕ) (n : ℕ) (names path : List (List ℕ)) (i : ℕ) (x a : List ℕ) (o : Option (List ℕ))
    → i < length names → x ≡ get_or names i x → (i + 1 ≡ length names → ⊥) → instance_in d b n x ≡ Some a → component_of d a ≡ o
    → after path (passes d b n (drop i names)) ≡ after (path ++ a ∷ []) (option_and_then (λ c. passes d c (items_in c d) (drop (i + 1) names)) o)
met_more d b n names path i x a o h is more e f =
    let rest : 1 ≤ length (drop (i + 1) names) = simp length-drop (omega (arith, h, more)) in
    let inner = option_and_then (λ c. passes d c (items_in c d) (drop (i + 1) names)) in
    ap (λ ns. after path (passes d b n ns)) (named i names x h is) ∙ ap (after path) (passes-more d b n x (drop (i + 1) names) a rest e)
    ∙ after-push path a (inner (component_of d a)) ∙ ap (λ k. after (path ++ a ∷ []) (inner k)) f

pub ruleset steps = (after-none)
