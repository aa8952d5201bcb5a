-- Steps of the search for a dynamic assignment.
use Rattle.std.proofs.Common.{◌≡◌, ℕ, suc, ◌+◌, ◌-◌, ◌<◌, ◌≤◌, List, [], ◌∷◌, length, drop, get_or, Some, None, refl, ap, ◌∙◌, sym, arith, drop-cons}
use Rattle.std.specs.Prelude.{option_and_then}
use Rattle.std.specs.Option.{option_or}
use Rattle.rdl_tree.specs.ItemAt.{item_at}
use Rattle.rdl_tree.specs.Items.{Items}
use Rattle.rdl_tree.specs.View.{add, items_of}
use Rattle.rdl_tree.specs.Address.{body_at}
use Rattle.rdl_tree.specs.declared.property.Property.TheVariants.{Reset}
use Rattle.rdl_tree.specs.declared.description.Item.{Item}
use Rattle.rdl_tree.specs.declared.description.Item.TheVariants.{Define, Instance, Own, Default, Dynamic}
use Rattle.rdl_tree.specs.declared.description.Of.TheVariants.{Named, Anonymous}
use Rattle.rdl_tree.proofs.Rests.{rest-next, rest-none, rest-all}
use Rattle.rdl_scope.specs.Types.{component_of}
use Rattle.rdl_scope.specs.Target.{body_of}
use Rattle.rdl_scope.specs.Value.{assigned_in, assigned, instance_reset, item_reset, end_of}
use Rattle.rdl_scope.specs.Walk.{assigned_by}

assigned-add : (d : Items) (b : List ℕ) (n : ℕ) (p : List ℕ) (path : List (List ℕ)) (x : Item) (rest : Items) → assigned_in d b n p path (add x rest) ≡ option_or (assigned_by d b n p path (Some x)) (assigned_in d b (suc n) p path rest)
assigned-add d b n p path (Define m c) rest = refl
assigned-add d b n p path (Instance s (Named t)) rest = refl
assigned-add d b n p path (Instance s (Anonymous c)) rest = refl
assigned-add d b n p path (Own q v) rest = refl
assigned-add d b n p path (Default q v) rest = refl
assigned-add d b n p path (Dynamic t q v) rest = refl

pub assigned-next : (d : Items) (b : List ℕ) (p : List ℕ) (path : List (List ℕ)) (i : ℕ) (xs : List Item) (x : Item) → i < length xs
    → assigned_in d b i p path (items_of (drop i xs)) ≡ option_or (assigned_by d b i p path (Some (get_or xs i x))) (assigned_in d b (i + 1) p path (items_of (drop (i + 1) xs)))
assigned-next d b p path i xs x h =
    let j : suc i ≡ i + 1 = omega arith in
    ap (assigned_in d b i p path) (rest-next i xs x h) ∙ assigned-add d b i p path (get_or xs i x) (items_of (drop (i + 1) xs))
    ∙ ap (λ k. option_or (assigned_by d b i p path (Some (get_or xs i x))) (assigned_in d b k p path (items_of (drop (i + 1) xs)))) j

pub assigned-none : (d : Items) (b : List ℕ) (p : List ℕ) (path : List (List ℕ)) (i : ℕ) (xs : List Item) → length xs ≤ i → assigned_in d b i p path (items_of (drop i xs)) ≡ None
assigned-none d b p path i xs h = ap (assigned_in d b i p path) (rest-none i xs h)

-- the assignments around each instance of a path
pub around-next : (d : Items) (p : List ℕ) (i : ℕ) (path : List (List ℕ)) (a : List ℕ) → i < length path
    → assigned d p (drop i path) ≡ option_or (option_and_then (λ t. assigned_in d (body_of (get_or path i a)) 0 p (drop i path) t) (body_at (body_of (get_or path i a)) d)) (assigned d p (drop (i + 1) path))
around-next d p i path a h =
    let j : suc i ≡ i + 1 = omega arith in
    let same : drop i path ≡ get_or path i a ∷ drop (suc i) path = drop-cons path i a h in
    ap (assigned d p) same
    ∙ ap (λ q. option_or (option_and_then (λ t. assigned_in d (body_of (get_or path i a)) 0 p q t) (body_at (body_of (get_or path i a)) d)) (assigned d p (drop (suc i) path))) (sym same)
    ∙ ap (λ k. option_or (option_and_then (λ t. assigned_in d (body_of (get_or path i a)) 0 p (drop i path) t) (body_at (body_of (get_or path i a)) d)) (assigned d p (drop k path))) j

pub ruleset steps = (assigned-next, assigned-none, around-next, rest-all)

-- the last instance of a path
pub reset-last : (d : Items) (path : List (List ℕ)) (a : List ℕ) → 0 < length path → instance_reset d Reset path ≡ option_and_then item_reset (item_at (get_or path (length path - 1) a) d)
reset-last d [] a h = absurd (omega arith)
reset-last d (b ∷ []) a h = refl
reset-last d (b ∷ c ∷ path) a h =
    let one : suc (length (c ∷ path) - 1) ≡ length (b ∷ c ∷ path) - 1 = omega arith in
    reset-last d (c ∷ path) a (omega arith) ∙ ap (λ n. option_and_then item_reset (item_at (get_or (b ∷ c ∷ path) n a) d)) one

pub end-last : (d : Items) (top : List ℕ) (path : List (List ℕ)) (a : List ℕ) → 0 < length path → end_of d top path ≡ component_of d (get_or path (length path - 1) a)
end-last d top [] a h = absurd (omega arith)
end-last d top (b ∷ []) a h = refl
end-last d top (b ∷ c ∷ path) a h =
    let one : suc (length (c ∷ path) - 1) ≡ length (b ∷ c ∷ path) - 1 = omega arith in
    end-last d top (c ∷ path) a (omega arith) ∙ ap (λ n. component_of d (get_or (b ∷ c ∷ path) n a)) one

pub ruleset ends = (reset-last, end-last)
