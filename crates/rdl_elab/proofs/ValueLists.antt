-- Steps along the properties whose values are listed.
use Rattle.std.proofs.Common.{◌≡◌, ℕ, ◌+◌, ◌<◌, List, [], ◌∷◌, ◌++◌, length, take, get_or, Some, None, Option, ap, ◌∙◌, add-one, option_map, append-nil}
use Rattle.std.specs.List.{filter_map, cons_option}
use Rattle.std.proofs.Math.Seq.{take-suc}
use Rattle.std.proofs.lemmas.List.Elements.{filter_map-append}
use Rattle.rdl_tree.specs.Items.{Items}
use Rattle.rdl_tree.specs.declared.shell.Kind.{Kind}
use Rattle.rdl_tree.specs.declared.property.Property.{Property}
use Rattle.rdl_tree.specs.declared.value.Value.{Value}
use Rattle.rdl_elab.specs.Shown.{valued}
use Rattle.rdl_elab.specs.Shown.{bare, shown_value, shown_among}

-- with one item more
pub found-next : {X Y : Type 0} (h : X → Option Y) (i : ℕ) (xs : List X) (x : X) → i < length xs → filter_map h (take (i + 1) xs) ≡ filter_map h (take i xs) ++ cons_option (h (get_or xs i x)) []
found-next h i xs x l =
    ap (λ n. filter_map h (take n xs)) (add-one i)
    ∙ ap (filter_map h) (take-suc xs i x l)
    ∙ filter_map-append h (take i xs) (get_or xs i x ∷ [])

found-some : {X Y : Type 0} (h : X → Option Y) (i : ℕ) (xs : List X) (x : X) (y : Y) → i < length xs → h (get_or xs i x) ≡ Some y → filter_map h (take (i + 1) xs) ≡ filter_map h (take i xs) ++ y ∷ []
found-some h i xs x y l e = found-next h i xs x l ∙ ap (λ o. filter_map h (take i xs) ++ cons_option o []) e

found-none : {X Y : Type 0} (h : X → Option Y) (i : ℕ) (xs : List X) (x : X) → i < length xs → h (get_or xs i x) ≡ None → filter_map h (take (i + 1) xs) ≡ filter_map h (take i xs)
found-none h i xs x l e = found-next h i xs x l ∙ ap (λ o. filter_map h (take i xs) ++ cons_option o []) e ∙ append-nil (filter_map h (take i xs))

pub shown-some : (k : Kind) (b : Items) (ds : List (List ℕ × Value)) (i : ℕ) (xs : List Property) (x : Property) (v : Value) → i < length xs → shown_value (bare k b ds) (get_or xs i x) ≡ Some v
    → shown_among (bare k b ds) (take (i + 1) xs) ≡ shown_among (bare k b ds) (take i xs) ++ valued (get_or xs i x) v ∷ []
shown-some k b ds i xs x v l e = found-some (λ p. option_map (valued p) (shown_value (bare k b ds) p)) i xs x (valued (get_or xs i x) v) l (ap (option_map (valued (get_or xs i x))) e)

pub shown-none : (k : Kind) (b : Items) (ds : List (List ℕ × Value)) (i : ℕ) (xs : List Property) (x : Property) → i < length xs → shown_value (bare k b ds) (get_or xs i x) ≡ None
    → shown_among (bare k b ds) (take (i + 1) xs) ≡ shown_among (bare k b ds) (take i xs)
shown-none k b ds i xs x l e = found-none (λ p. option_map (valued p) (shown_value (bare k b ds) p)) i xs x l (ap (option_map (valued (get_or xs i x))) e)

pub ruleset steps = (shown-some, shown-none)
