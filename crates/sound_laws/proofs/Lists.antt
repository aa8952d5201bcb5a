-- Tests of all elements of a list.
use Rattle.std.proofs.Common.{◌≡◌, Bool, true, false, List, [], ◌∷◌, ◌++◌, refl, ap, ◌∙◌}
use Rattle.std.specs.Prelude.{◌&&◌, ◌||◌, not}
use Rattle.std.specs.List.{list_all, list_any}

pub both : (a b : Bool) → (a && b) ≡ true → (a ≡ true) × (b ≡ true)
both true b h = (refl, h)
both false b h = cc

pub and_both : (a b : Bool) → a ≡ true → b ≡ true → (a && b) ≡ true
and_both a b e f = ap (λ x. x && b) e ∙ f

pub not_false : (b : Bool) → not b ≡ true → b ≡ false
not_false true h = cc
not_false false h = refl

pub not_and : (a b : Bool) → not a ≡ true → not (a && b) ≡ true
not_and true b h = cc
not_and false b h = refl

pub all_append : {X : Type 0} (p : X → Bool) (xs ys : List X) → list_all p xs ≡ true → list_all p ys ≡ true → list_all p (xs ++ ys) ≡ true
all_append p [] ys h g = g
all_append p (x ∷ xs) ys h g =
    let t = both (p x) (list_all p xs) h in
    and_both (p x) (list_all p (xs ++ ys)) t.0 (all_append p xs ys t.1 g)

-- no later one meets an earlier one
abbrev pub free : {X Y : Type 0} → (Y → X → Bool) → List X → List Y → Bool
free meets before later = list_all (λ x. list_all (λ y. not (meets y x)) later) before

pub free_first : {X Y : Type 0} (meets : Y → X → Bool) (before : List X) (y : Y) (later : List Y) → free meets before (y ∷ later) ≡ true
    → list_any (meets y) before ≡ false
free_first meets [] y later h = refl
free_first meets (x ∷ xs) y later h =
    let t = both (list_all (λ z. not (meets z x)) (y ∷ later)) (free meets xs (y ∷ later)) h in
    let u = both (not (meets y x)) (list_all (λ z. not (meets z x)) later) t.0 in
    ap (λ b. b || list_any (meets y) xs) (not_false (meets y x) u.0) ∙ free_first meets xs y later t.1

pub free_rest : {X Y : Type 0} (meets : Y → X → Bool) (before : List X) (y : Y) (later : List Y) → free meets before (y ∷ later) ≡ true
    → free meets before later ≡ true
free_rest meets [] y later h = refl
free_rest meets (x ∷ xs) y later h =
    let t = both (list_all (λ z. not (meets z x)) (y ∷ later)) (free meets xs (y ∷ later)) h in
    let u = both (not (meets y x)) (list_all (λ z. not (meets z x)) later) t.0 in
    and_both (list_all (λ z. not (meets z x)) later) (free meets xs later) u.1 (free_rest meets xs y later t.1)

pub free_more : {X Y : Type 0} (meets : Y → X → Bool) (before : List X) (x : X) (later : List Y) → free meets before later ≡ true
    → list_all (λ y. not (meets y x)) later ≡ true → free meets (before ++ x ∷ []) later ≡ true
free_more meets before x later h g =
    all_append (λ x. list_all (λ y. not (meets y x)) later) before (x ∷ []) h (and_both (list_all (λ y. not (meets y x)) later) true g refl)

pub neither_of : (a b : Bool) → (a || b) ≡ false → (a ≡ false) × (b ≡ false)
neither_of true b h = cc
neither_of false b h = (refl, h)

pub all_parts : {X : Type 0} (p : X → Bool) (xs ys : List X) → list_all p (xs ++ ys) ≡ true → (list_all p xs ≡ true) × (list_all p ys ≡ true)
all_parts p [] ys h = (refl, h)
all_parts p (x ∷ xs) ys h =
    let t = both (p x) (list_all p (xs ++ ys)) h in
    let u = all_parts p xs ys t.1 in
    (and_both (p x) (list_all p xs) t.0 u.0, u.1)

pub free_parts : {X Y : Type 0} (meets : Y → X → Bool) (before : List X) (x : X) (later : List Y) → free meets (before ++ x ∷ []) later ≡ true
    → (free meets before later ≡ true) × (list_all (λ y. not (meets y x)) later ≡ true)
free_parts meets before x later h =
    let t = all_parts (λ x. list_all (λ y. not (meets y x)) later) before (x ∷ []) h in
    (t.0, (both (list_all (λ y. not (meets y x)) later) true t.1).0)

pub free_cons : {X Y : Type 0} (meets : Y → X → Bool) (before : List X) (y : Y) (later : List Y) → list_any (meets y) before ≡ false → free meets before later ≡ true
    → free meets before (y ∷ later) ≡ true
free_cons meets [] y later a h = refl
free_cons meets (x ∷ xs) y later a h =
    let n = neither_of (meets y x) (list_any (meets y) xs) a in
    let t = both (list_all (λ z. not (meets z x)) later) (free meets xs later) h in
    and_both (list_all (λ z. not (meets z x)) (y ∷ later)) (free meets xs (y ∷ later))
    (and_both (not (meets y x)) (list_all (λ z. not (meets z x)) later) (ap not n.0) t.0) (free_cons meets xs y later n.1 t.1)
