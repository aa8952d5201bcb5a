-- Steps of the search for the first fault.
use Rattle.std.proofs.Common.{◌≡◌, ℕ, zero, suc, ◌+◌, ◌-◌, ◌<◌, ◌≤◌, List, [], ◌∷◌, ◌++◌, length, drop, get_or, Bool, true, cond, true≢false, Some, None, Option, refl, ap, sym, ◌∙◌, arith, length-append}
use Rattle.std.specs.Prelude.{not}
use Rattle.std.specs.Option.{option_or, is_some}
use Rattle.rdl_tree.specs.Items.{Items, no_items, plain, holder}
use Rattle.rdl_tree.specs.View.{add, items_of, list_of}
use Rattle.rdl_tree.specs.Component.{own_component}
use Rattle.rdl_tree.specs.Depth.{depth}
use Rattle.rdl_tree.specs.declared.shell.Kind.{Kind}
use Rattle.rdl_tree.specs.declared.fault.Fault.{Fault}
use Rattle.rdl_tree.specs.declared.fault.FaultKind.{FaultKind}
use Rattle.rdl_tree.specs.declared.description.Component.{Component}
use Rattle.rdl_tree.specs.declared.description.Item.{Item}
use Rattle.rdl_tree.specs.declared.description.Item.TheVariants.{Define, Instance, Own, Default, Dynamic}
use Rattle.rdl_tree.specs.declared.description.Of.TheVariants.{Named, Anonymous}
use Rattle.rdl_tree.proofs.Rests.{rest-next, rest-none, rest-all}
use Rattle.rdl_tree.proofs.Rounds.{items_of-list_of}
use Rattle.rdl_scope.specs.Walk.{is_definition}
use Rattle.rdl_scope.specs.ItemFaults.{last_of, item_fault, fault_at, first_fault, inside_fault}

pub last_of-end : (path : List (List ℕ)) (a : List ℕ) → 0 < length path → last_of path ≡ Some (get_or path (length path - 1) a)
last_of-end [] a h = absurd (omega arith)
last_of-end (b ∷ []) a h = refl
last_of-end (b ∷ c ∷ path) a h =
    let one : suc (length (c ∷ path) - 1) ≡ length (b ∷ c ∷ path) - 1 = omega arith in
    last_of-end (c ∷ path) a (omega arith) ∙ ap (λ n. Some (get_or (b ∷ c ∷ path) n a)) one

pub ruleset lasts = (last_of-end)

pub first-add : (d : Items) (around : Option Kind) (b : List ℕ) (body : Items) (n : ℕ) (x : Item) (rest : Items)
    → first_fault d around b body n (add x rest) ≡ option_or (fault_at (b ++ n ∷ []) (item_fault d around b body n x)) (option_or (inside_fault d (b ++ n ∷ []) (own_component x)) (first_fault d around b body (suc n) rest))
first-add d around b body n (Define m c) rest = refl
first-add d around b body n (Instance s (Named t)) rest = refl
first-add d around b body n (Instance s (Anonymous c)) rest = refl
first-add d around b body n (Own p v) rest = refl
first-add d around b body n (Default p v) rest = refl
first-add d around b body n (Dynamic t p v) rest = refl

-- an item, what is inside it, and the items after it
pub first-next : (d : Items) (around : Option Kind) (b : List ℕ) (body : Items) (i : ℕ) (xs : List Item) (x : Item) → i < length xs
    → first_fault d around b body i (items_of (drop i xs))
    ≡ option_or (fault_at (b ++ i ∷ []) (item_fault d around b body i (get_or xs i x))) (option_or (inside_fault d (b ++ i ∷ []) (own_component (get_or xs i x))) (first_fault d around b body (i + 1) (items_of (drop (i + 1) xs))))
first-next d around b body i xs x h =
    let j : suc i ≡ i + 1 = omega arith in
    ap (first_fault d around b body i) (rest-next i xs x h) ∙ first-add d around b body i (get_or xs i x) (items_of (drop (i + 1) xs))
    ∙ ap (λ k. option_or (fault_at (b ++ i ∷ []) (item_fault d around b body i (get_or xs i x))) (option_or (inside_fault d (b ++ i ∷ []) (own_component (get_or xs i x))) (first_fault d around b body k (items_of (drop (i + 1) xs))))) j

pub first-none : (d : Items) (around : Option Kind) (b : List ℕ) (body : Items) (i : ℕ) (xs : List Item) → length xs ≤ i → first_fault d around b body i (items_of (drop i xs)) ≡ None
first-none d around b body i xs h = ap (first_fault d around b body i) (rest-none i xs h)

pub ruleset walks = (first-next, first-none, rest-all)

-- an item without a component of its own has nothing inside, and is no definition
pub none_there : {X : Type 0} (o : Option X) (b : Bool) → is_some o ≡ not b → b ≡ true → o ≡ None
none_there None b e h = refl
none_there (Some x) b e h = absurd (true≢false (e ∙ ap not h))

pub nothing_inside : (d : Items) (a : List ℕ) (o : Option Component) → o ≡ None → None ≡ inside_fault d a o
nothing_inside d a o e = sym (ap (inside_fault d a) e)

pub undefined_here : (x : Item) (q : List ℕ) (i : ℕ) (o : Option ℕ) → own_component x ≡ None → o ≡ cond (is_definition q (Some x)) (Some i) o
undefined_here (Define m c) q i o e = cc
undefined_here (Instance s t) q i o e = refl
undefined_here (Own p v) q i o e = refl
undefined_here (Default p v) q i o e = refl
undefined_here (Dynamic t p v) q i o e = refl

-- a component is less deep than the body that holds it
depth-add : (x : Item) (rest : Items) (c : Component) → own_component x ≡ Some c → depth c.body + 1 ≤ depth (add x rest)
depth-add (Define m k) rest c e = let same : k ≡ c = cc in omega (arith, ap (λ (z : Component). depth z.body) same)
depth-add (Instance s (Named t)) rest c e = cc
depth-add (Instance s (Anonymous k)) rest c e = let same : k ≡ c = cc in omega (arith, ap (λ (z : Component). depth z.body) same)
depth-add (Own p v) rest c e = cc
depth-add (Default p v) rest c e = cc
depth-add (Dynamic t p v) rest c e = cc

depth-more : (x : Item) (rest : Items) → depth rest ≤ depth (add x rest)
depth-more (Define m k) rest = omega arith
depth-more (Instance s (Named t)) rest = omega arith
depth-more (Instance s (Anonymous k)) rest = omega arith
depth-more (Own p v) rest = omega arith
depth-more (Default p v) rest = omega arith
depth-more (Dynamic t p v) rest = omega arith

depth-get : (xs : List Item) (i : ℕ) (x : Item) (c : Component) → i < length xs → own_component (get_or xs i x) ≡ Some c → depth c.body + 1 ≤ depth (items_of xs)
depth-get [] i x c h e = absurd (omega arith)
depth-get (y ∷ ys) zero x c h e = depth-add y (items_of ys) c e
depth-get (y ∷ ys) (suc i) x c h e = omega (arith, depth-get ys i x c (omega arith) e, depth-more y (items_of ys))

pub depth-item : (t : Items) (i : ℕ) (x : Item) (c : Component) → i < length (list_of t) → own_component (get_or (list_of t) i x) ≡ Some c → depth c.body + 1 ≤ depth t
depth-item t i x c h e = omega (arith, depth-get (list_of t) i x c h e, ap depth (items_of-list_of t))

-- a fault of an item that is met is the first, where none was before it
pub first_met : (d : Items) (around : Option Kind) (b : List ℕ) (body : Items) (i : ℕ) (xs : List Item) (x : Item) (k : Option FaultKind) (f : Fault) (whole : Option Fault)
    → xs ≡ list_of body → i < length xs → x ≡ get_or xs i x → k ≡ item_fault d around b body i x → Some f ≡ fault_at (b ++ i ∷ []) k
    → whole ≡ first_fault d around b body i (items_of (drop i (list_of body))) → Some f ≡ whole
first_met d around b body i xs x k f whole e h is kind found w =
    let here : fault_at (b ++ i ∷ []) (item_fault d around b body i (get_or xs i x)) ≡ Some f =
    ap (λ y. fault_at (b ++ i ∷ []) (item_fault d around b body i y)) (sym is) ∙ ap (λ z. fault_at (b ++ i ∷ []) z) (sym kind) ∙ sym found in
    sym (w ∙ ap (λ ys. first_fault d around b body i (items_of (drop i ys))) (sym e) ∙ first-next d around b body i xs x h
    ∙ ap (λ z. option_or z (option_or (inside_fault d (b ++ i ∷ []) (own_component (get_or xs i x))) (first_fault d around b body (i + 1) (items_of (drop (i + 1) xs))))) here)

-- there is room for the numbers of the items inside an item
pub room_inside : (b : List ℕ) (i : ℕ) (body : Items) (xs : List Item) (x : Item) (o : Option Component) → xs ≡ list_of body → i < length xs → x ≡ get_or xs i x → o ≡ own_component x
    → length b + depth body ≤ 16 → (c : Component) → o ≡ Some c → length b + depth c.body < 16
room_inside b i body xs x o e h is holds room c some =
    let held : own_component (get_or (list_of body) i x) ≡ Some c = ap (λ ys. own_component (get_or ys i x)) (sym e) ∙ ap own_component (sym is) ∙ sym holds ∙ some in
    omega (arith, depth-item body i x c (omega (arith, ap length e)) held)

-- two lists that end alike, each with one more item behind it
pub ends_same : {X : Type 0} (xs ys : List X) (x y : X) → xs ++ x ∷ [] ≡ ys ++ y ∷ [] → (xs ≡ ys) × (x ≡ y)
ends_same [] [] x y e = (refl, cc)
ends_same [] (w ∷ ys) x y e = absurd (omega (arith, simp length-append at (ap length e)))
ends_same (w ∷ xs) [] x y e = absurd (omega (arith, simp length-append at (ap length e)))
ends_same (w ∷ xs) (v ∷ ys) x y e =
    let first : w ≡ v = cc in
    let others = ends_same xs ys x y (ap (drop 1) e) in (
      ap (λ z. z ∷ xs) first ∙ ap (λ zs. v ∷ zs) others.0,
      others.1,
    )

pub no_some : {X : Type 0} (o : Option X) → ((x : X) → o ≡ Some x → ⊥) → o ≡ None
no_some None h = refl
no_some (Some x) h = absurd (h x refl)

-- where an item has no fault, and nothing inside it has one, the first is that of the items after it
pub none_met : (d : Items) (around : Option Kind) (b : List ℕ) (body : Items) (i : ℕ) (xs : List Item) (x : Item) (k : Option FaultKind) (o inside : Option Fault) (component : Option Component) (whole : Option Fault)
    → xs ≡ list_of body → i < length xs → x ≡ get_or xs i x → k ≡ item_fault d around b body i x → o ≡ fault_at (b ++ i ∷ []) k → o ≡ None
    → component ≡ own_component x → inside ≡ inside_fault d (b ++ i ∷ []) component → inside ≡ None
    → whole ≡ first_fault d around b body i (items_of (drop i (list_of body))) → whole ≡ first_fault d around b body (i + 1) (items_of (drop (i + 1) (list_of body)))
none_met d around b body i xs x k o inside component whole e h is kind found none held within clear w =
    let here : fault_at (b ++ i ∷ []) (item_fault d around b body i (get_or xs i x)) ≡ None =
    ap (λ y. fault_at (b ++ i ∷ []) (item_fault d around b body i y)) (sym is) ∙ ap (λ z. fault_at (b ++ i ∷ []) z) (sym kind) ∙ sym found ∙ none in
    let deeper : inside_fault d (b ++ i ∷ []) (own_component (get_or xs i x)) ≡ None =
    ap (λ y. inside_fault d (b ++ i ∷ []) (own_component y)) (sym is) ∙ ap (λ z. inside_fault d (b ++ i ∷ []) z) (sym held) ∙ sym within ∙ clear in
    w ∙ ap (λ ys. first_fault d around b body i (items_of (drop i ys))) (sym e) ∙ first-next d around b body i xs x h
    ∙ ap (λ z. option_or z (option_or (inside_fault d (b ++ i ∷ []) (own_component (get_or xs i x))) (first_fault d around b body (i + 1) (items_of (drop (i + 1) xs))))) here
    ∙ ap (λ z. option_or z (first_fault d around b body (i + 1) (items_of (drop (i + 1) xs)))) deeper
    ∙ ap (λ ys. first_fault d around b body (i + 1) (items_of (drop (i + 1) ys))) e

-- a fault that is met inside an item is the first, where the item has none
pub inside_met : (d : Items) (around : Option Kind) (b : List ℕ) (body : Items) (i : ℕ) (xs : List Item) (x : Item) (k : Option FaultKind) (o inside : Option Fault) (component : Option Component) (f : Fault) (whole : Option Fault)
    → xs ≡ list_of body → i < length xs → x ≡ get_or xs i x → k ≡ item_fault d around b body i x → o ≡ fault_at (b ++ i ∷ []) k → o ≡ None
    → component ≡ own_component x → inside ≡ inside_fault d (b ++ i ∷ []) component → inside ≡ Some f
    → whole ≡ first_fault d around b body i (items_of (drop i (list_of body))) → Some f ≡ whole
inside_met d around b body i xs x k o inside component f whole e h is kind found none held within met w =
    let here : fault_at (b ++ i ∷ []) (item_fault d around b body i (get_or xs i x)) ≡ None =
    ap (λ y. fault_at (b ++ i ∷ []) (item_fault d around b body i y)) (sym is) ∙ ap (λ z. fault_at (b ++ i ∷ []) z) (sym kind) ∙ sym found ∙ none in
    let deeper : inside_fault d (b ++ i ∷ []) (own_component (get_or xs i x)) ≡ Some f =
    ap (λ y. inside_fault d (b ++ i ∷ []) (own_component y)) (sym is) ∙ ap (λ z. inside_fault d (b ++ i ∷ []) z) (sym held) ∙ sym within ∙ met in
    sym (w ∙ ap (λ ys. first_fault d around b body i (items_of (drop i ys))) (sym e) ∙ first-next d around b body i xs x h
    ∙ ap (λ z. option_or z (option_or (inside_fault d (b ++ i ∷ []) (own_component (get_or xs i x))) (first_fault d around b body (i + 1) (items_of (drop (i + 1) xs))))) here
    ∙ ap (λ z. option_or z (first_fault d around b body (i + 1) (items_of (drop (i + 1) xs)))) deeper)

-- a component without items has no fault
pub empty_inside : (d : Items) (a : List ℕ) (o : Option Component) (c : Component) → o ≡ Some c → length (list_of c.body) ≡ 0 → None ≡ inside_fault d a o
empty_inside d a o c e h = sym (ap (inside_fault d a) e ∙ none c.body h)
  where
    none : (t : Items) → length (list_of t) ≡ 0 → first_fault d (Some c.kind) a t 0 t ≡ None
    none no_items h = refl
    none (plain p rest) h = absurd (omega arith)
    none (holder k body rest) h = absurd (omega arith)
