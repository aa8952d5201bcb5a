-- The component of an item of the root body is the one behind the items before it.
use Rattle.std.proofs.Common.{◌≡◌, ℕ, zero, suc, ◌+◌, ◌≤◌, ◌<◌, List, [], ◌∷◌, ◌++◌, length, take, get_or, false, Option, Some, refl, ap, sym, ◌∙◌, arith}
use Rattle.std.specs.Prelude.{slice_get, option_map, option_and_then}
use Rattle.std.specs.Option.{is_some}
use Rattle.std.proofs.lemmas.Option.{slice_get-get_or, slice_get_past}
use Rattle.rdl_tree.specs.Items.{Items, no_items, plain, holder, named, own, default, dynamic, define, anonymous}
use Rattle.rdl_tree.specs.Component.{own_component}
use Rattle.rdl_tree.specs.View.{items_of, list_of}
use Rattle.rdl_tree.specs.declared.description.Item.{Item}
use Rattle.rdl_tree.specs.declared.description.Component.{Component}
use Rattle.rdl_scope.specs.Closed.{Made, Standing, nothing, standing, component_in, component, after_plain, after_holder, parts}
use Rattle.rdl_elab.specs.Stands.{made_at}

next : (k n : ℕ) → suc k + n ≡ k + suc n
next k n = omega arith

none : (k : ℕ) → k ≡ k + 0
none k = omega arith

-- the component of item n of these items, from number k on of the body at b
abbrev made_in : ℕ → Standing → List ℕ → ℕ → Items → Option Made
made_in n e b k t = option_map (made_at (standing e b k (items_of (take n (list_of t)))) (b ++ (k + n) ∷ [])) (option_and_then own_component (slice_get (list_of t) n))

-- the same with another number of the item
abbrev made_from : ℕ → ℕ → Standing → List ℕ → ℕ → Items → Option Made
made_from m n e b k t = option_map (made_at (standing e b k (items_of (take n (list_of t)))) (b ++ m ∷ [])) (option_and_then own_component (slice_get (list_of t) n))

component-made : (n : ℕ) (e : Standing) (b : List ℕ) (k : ℕ) (t : Items) → component_in n e b k t ≡ made_in n e b k t
component-made zero e b k no_items = refl
component-made (suc n) e b k no_items = refl
component-made zero e b k (plain (named s t) rest) = refl
component-made zero e b k (plain (own p v) rest) = refl
component-made zero e b k (plain (default p v) rest) = refl
component-made zero e b k (plain (dynamic t p v) rest) = refl
component-made zero e b k (holder (define m c) body rest) = ap (λ i. Some (made_at e (b ++ i ∷ []) (record { kind = c; body = body }))) (none k)
component-made zero e b k (holder (anonymous s c) body rest) = ap (λ i. Some (made_at e (b ++ i ∷ []) (record { kind = c; body = body }))) (none k)
component-made (suc n) e b k (plain (named s t) rest) =
    component-made n e b (suc k) rest ∙ ap (λ m. made_from m n e b (suc k) rest) (next k n)
component-made (suc n) e b k (plain (own p v) rest) =
    component-made n e b (suc k) rest ∙ ap (λ m. made_from m n e b (suc k) rest) (next k n)
component-made (suc n) e b k (plain (default p v) rest) =
    let f = after_plain (default p v) e in component-made n f b (suc k) rest ∙ ap (λ m. made_from m n f b (suc k) rest) (next k n)
component-made (suc n) e b k (plain (dynamic t p v) rest) =
    component-made n e b (suc k) rest ∙ ap (λ m. made_from m n e b (suc k) rest) (next k n)
component-made (suc n) e b k (holder (define m c) body rest) =
    let f = after_holder (define m c) (b ++ k ∷ []) body (parts e (b ++ k ∷ []) 0 body) e in component-made n f b (suc k) rest ∙ ap (λ m. made_from m n f b (suc k) rest) (next k n)
component-made (suc n) e b k (holder (anonymous s c) body rest) =
    component-made n e b (suc k) rest ∙ ap (λ m. made_from m n e b (suc k) rest) (next k n)

-- the same of the root body
pub root-made : (t : Items) (n : ℕ) (xs ys : List Item) → xs ≡ list_of t → ys ≡ take n xs → component t (n ∷ []) ≡ option_map (made_at (standing nothing [] 0 (items_of ys)) (n ∷ [])) (option_and_then own_component (slice_get xs n))
root-made t n xs ys e g =
    let zero_more : 0 + n ≡ n = omega arith in
    component-made n nothing [] 0 t ∙ ap (λ m. made_from m n nothing [] 0 t) zero_more
    ∙ ap (λ zs. option_map (made_at (standing nothing [] 0 (items_of (take n zs))) (n ∷ [])) (option_and_then own_component (slice_get zs n))) (sym e)
    ∙ ap (λ zs. option_map (made_at (standing nothing [] 0 (items_of zs)) (n ∷ [])) (option_and_then own_component (slice_get xs n))) (sym g)

-- whether there is a component
pub root-past : (t : Items) (n : ℕ) (xs : List Item) → xs ≡ list_of t → length xs ≤ n → is_some (component t (n ∷ [])) ≡ false
root-past t n xs e h = ap is_some (root-made t n xs (take n xs) e refl ∙ ap (λ o. option_map (made_at (standing nothing [] 0 (items_of (take n xs))) (n ∷ [])) (option_and_then own_component o)) (slice_get_past xs n h))

pub root-item : (t : Items) (n : ℕ) (xs ys : List Item) (x : Item) (o : Option Component) → xs ≡ list_of t → ys ≡ take n xs → n < length xs → x ≡ get_or xs n x → own_component x ≡ o
    → component t (n ∷ []) ≡ option_map (made_at (standing nothing [] 0 (items_of ys)) (n ∷ [])) o
root-item t n xs ys x o e g h is held =
    let read : slice_get xs n ≡ Some x = slice_get-get_or xs n x h ∙ ap Some (sym is) in
    root-made t n xs ys e g ∙ ap (λ p. option_map (made_at (standing nothing [] 0 (items_of ys)) (n ∷ [])) (option_and_then own_component p)) read
    ∙ ap (option_map (made_at (standing nothing [] 0 (items_of ys)) (n ∷ []))) held
