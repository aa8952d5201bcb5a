-- Steps of the search for a type's definition.
use Rattle.std.proofs.Common.{◌≡◌, ℕ, zero, suc, ◌+◌, Bool, true, false, cond, List, [], ◌∷◌, ◌++◌, take, Some, None, Option, refl, ap, sym, ◌∙◌, arith, option_map}
use Rattle.std.specs.Prelude.{slice_get, option_and_then}
use Rattle.std.specs.Option.{option_or, is_none}
use Rattle.rdl_tree.specs.ItemAt.{item_at}
use Rattle.rdl_tree.specs.Items.{Items, no_items, plain, holder, named, own, default, dynamic, define, anonymous}
use Rattle.rdl_tree.specs.View.{list_of}
use Rattle.rdl_tree.specs.Address.{inner}
use Rattle.rdl_tree.specs.declared.description.Item.{Item}
use Rattle.rdl_tree.specs.declared.description.Item.TheVariants.{Define, Instance, Own, Default, Dynamic}
use Rattle.rdl_tree.specs.declared.description.Of.TheVariants.{Named, Anonymous}
use Rattle.rdl_scope.specs.Types.{defines, last_definition, type_at, type_of, type_from}
use Rattle.rdl_scope.specs.Walk.{found, below, deeper, is_definition, reference_of}

map-cond : (b : Bool) (i : ℕ) (o : Option ℕ) → option_map suc (cond b (Some i) o) ≡ cond b (Some (suc i)) (option_map suc o)
map-cond true i o = refl
map-cond false i o = refl

or-cond : (b : Bool) (i : ℕ) (o x : Option ℕ) → option_or (option_map suc (cond b (Some i) o)) x ≡ cond b (Some (suc i)) (option_or (option_map suc o) x)
or-cond true i o x = refl
or-cond false i o x = refl

pub last-suc : (name : List ℕ) (i : ℕ) (t : Items) → last_definition name (suc i) t ≡ cond (is_definition name (slice_get (list_of t) i)) (Some i) (last_definition name i t)
last-suc name i no_items = empty name i
  where
    empty : (name : List ℕ) (i : ℕ) → last_definition name (suc i) no_items ≡ cond (is_definition name (slice_get (list_of no_items) i)) (Some i) (last_definition name i no_items)
    empty name zero = refl
    empty name (suc i) = refl
last-suc name zero (plain (named s t) rest) = refl
last-suc name zero (plain (own p v) rest) = refl
last-suc name zero (plain (default p v) rest) = refl
last-suc name zero (plain (dynamic t p v) rest) = refl
last-suc name zero (holder (define n k) body rest) = refl
last-suc name zero (holder (anonymous s k) body rest) = refl
last-suc name (suc i) (plain p rest) = ap (option_map suc) (last-suc name i rest) ∙ map-cond (is_definition name (slice_get (list_of rest) i)) i (last_definition name i rest)
last-suc name (suc i) (holder h body rest) =
    ap (λ o. option_or (option_map suc o) (cond (defines name h) (Some 0) None)) (last-suc name i rest) ∙ or-cond (is_definition name (slice_get (list_of rest) i)) i (last_definition name i rest) (cond (defines name h) (Some 0) None)

or-assoc : {X : Type 0} (a b c : Option X) → option_or (option_or a b) c ≡ option_or a (option_or b c)
or-assoc None b c = refl
or-assoc (Some x) b c = refl

map-or : {X Y : Type 0} (f : X → Y) (a b : Option X) → option_map f (option_or a b) ≡ option_or (option_map f a) (option_map f b)
map-or f None b = refl
map-or f (Some x) b = refl

map-deeper : (d : ℕ) (o : Option (ℕ × ℕ)) → option_map (deeper d) (option_map below o) ≡ option_map (deeper (d + 1)) o
map-deeper d None = refl
map-deeper d (Some p) = let e : d + suc p.0 ≡ d + 1 + p.0 = omega arith in ap (λ n. Some (n, p.1)) e

map-here : (d : ℕ) (o : Option ℕ) → option_map (deeper d) (option_map (λ k. (0, k)) o) ≡ option_map (λ k. (d, k)) o
map-here d None = refl
map-here d (Some k) = let e : d + 0 ≡ d = omega arith in ap (λ n. Some (n, k)) e

-- one body deeper
pub found-step : (d i : ℕ) (path : List ℕ) (t : Items) (name : List ℕ) (place : Option (ℕ × ℕ)) → option_or (option_map (deeper d) (found (i ∷ path) t name)) place
    ≡ option_or (option_map (deeper (d + 1)) (option_and_then (λ b. found path b name) (inner i t))) (option_or (option_map (λ k. (d, k)) (last_definition name i t)) place)
found-step d i path t name place =
    let up = option_and_then (λ b. found path b name) (inner i t) in
    let here = last_definition name i t in
    ap (λ o. option_or o place) (map-or (deeper d) (option_map below up) (option_map (λ k. (0, k)) here) ∙ ap (λ o. option_or o (option_map (deeper d) (option_map (λ k. (0, k)) here))) (map-deeper d up) ∙ ap (option_or (option_map (deeper (d + 1)) up)) (map-here d here))
    ∙ or-assoc (option_map (deeper (d + 1)) up) (option_map (λ k. (d, k)) here) place

pub map-zero : (o : Option (ℕ × ℕ)) → option_map (deeper 0) o ≡ o
map-zero None = refl
map-zero (Some p) = let e : 0 + p.0 ≡ p.0 = omega arith in ap (λ n. Some (n, p.1)) e

pub ruleset steps = (last-suc, found-step, map-zero)

abbrev pub along : List ℕ → ℕ × ℕ → List ℕ
along path p = take p.0 path ++ p.1 ∷ []

inward : (i : ℕ) (path : List ℕ) (o : Option (ℕ × ℕ)) → option_map (λ a. i ∷ a) (option_map (along path) o) ≡ option_map (along (i ∷ path)) (option_map below o)
inward i path None = refl
inward i path (Some p) = refl

outward : (i : ℕ) (path : List ℕ) (o : Option ℕ) → option_map (λ k. k ∷ []) o ≡ option_map (along (i ∷ path)) (option_map (λ k. (0, k)) o)
outward i path None = refl
outward i path (Some k) = refl

inside : {X Y Z : Type 0} (m : Y → Z) (f : X → Option Z) (g : X → Option Y) → ((b : X) → f b ≡ option_map m (g b)) → (o : Option X) → option_and_then f o ≡ option_map m (option_and_then g o)
inside m f g h None = refl
inside m f g h (Some b) = h b

-- the definition that the search finds stands along the path
pub type_at-found : (path : List ℕ) (t : Items) (name : List ℕ) → type_at path t name ≡ option_map (along path) (found path t name)
type_at-found [] t name = refl
type_at-found (i ∷ path) t name =
    let up = option_and_then (λ b. found path b name) (inner i t) in
    let here = last_definition name i t in
    ap (λ o. option_or (option_map (λ a. i ∷ a) o) (option_map (λ k. k ∷ []) here)) (inside (along path) (λ b. type_at path b name) (λ b. found path b name) (λ b. type_at-found path b name) (inner i t))
    ∙ ap (λ o. option_or o (option_map (λ k. k ∷ []) here)) (inward i path up)
    ∙ ap (option_or (option_map (along (i ∷ path)) (option_map below up))) (outward i path here)
    ∙ sym (map-or (along (i ∷ path)) (option_map below up) (option_map (λ k. (0, k)) here))

type_from-reference : (d : Items) (a : List ℕ) (o : Option Item) → option_and_then (type_from d a) o ≡ option_and_then (type_at a d) (option_and_then reference_of o)
type_from-reference d a None = refl
type_from-reference d a (Some (Instance s (Named t))) = refl
type_from-reference d a (Some (Instance s (Anonymous c))) = refl
type_from-reference d a (Some (Define n c)) = refl
type_from-reference d a (Some (Own p v)) = refl
type_from-reference d a (Some (Default p v)) = refl
type_from-reference d a (Some (Dynamic t p v)) = refl

pub type_of-reference : (d : Items) (a : List ℕ) → type_of d a ≡ option_and_then (type_at a d) (option_and_then reference_of (item_at a d))
type_of-reference d a = type_from-reference d a (item_at a d)

none-map : {X Y : Type 0} (f : X → Y) (o : Option X) → is_none (option_map f o) ≡ is_none o
none-map f None = refl
none-map f (Some x) = refl

pub lacks-found : (path : List ℕ) (t : Items) (name : List ℕ) → is_none (type_at path t name) ≡ is_none (found path t name)
lacks-found path t name = ap is_none (type_at-found path t name) ∙ none-map (along path) (found path t name)

pub ruleset ends = (type_of-reference, type_at-found, lacks-found)
