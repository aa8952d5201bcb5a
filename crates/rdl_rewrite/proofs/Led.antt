-- What a walk carries of the definition on the way is what the search for a type finds.
use Rattle.std.proofs.Common.{◌≡◌, ℕ, suc, ◌+◌, Bool, true, false, cond, ◌&&◌, List, [], ◌∷◌, ◌++◌, Some, None, Option, refl, ap, sym, subst, ◌∙◌, arith, option_map}
use Rattle.std.proofs.lemmas.Bool.{and_right}
use Rattle.std.proofs.lemmas.Slice.Eq.{bytes_eq-Decides}
use Rattle.std.specs.Prelude.{bytes_eq, slice_get, option_and_then}
use Rattle.std.specs.Option.{option_or}
use Rattle.rdl_tree.specs.ItemAt.{item_at}
use Rattle.rdl_tree.specs.Items.{Items}
use Rattle.rdl_tree.specs.View.{list_of}
use Rattle.rdl_tree.specs.Address.{inner, body_at}
use Rattle.rdl_tree.specs.declared.description.Item.{Item}
use Rattle.rdl_tree.specs.declared.description.Item.TheVariants.{Define, Instance, Own, Default, Dynamic}
use Rattle.rdl_scope.specs.Types.{last_definition, type_at, type_of}
use Rattle.rdl_scope.specs.Walk.{is_definition, reference_of}
use Rattle.rdl_scope.proofs.Searches.{last-suc, type_of-reference}
use Rattle.rdl_rewrite.specs.Addresses.{same, leads_to}
use Rattle.rdl_rewrite.specs.Led.{is_name_of, refers_to, led_behind, IsLed}
use Rattle.rdl_rewrite.proofs.Found.{unled-name}
use Rattle.rdl_rewrite.proofs.NewNames.{bytes-swap}

-- ---- One body deeper.

no-inner : (o : Option Items) (q : List ℕ) → option_and_then (λ t. type_at [] t q) o ≡ None
no-inner None q = refl
no-inner (Some t) q = refl

or-none : {X : Type 0} (a : Option X) → option_or a None ≡ a
or-none None = refl
or-none (Some x) = refl

or-assoc : {X : Type 0} (a b c : Option X) → option_or (option_or a b) c ≡ option_or a (option_or b c)
or-assoc None b c = refl
or-assoc (Some x) b c = refl

map-or : {X Y : Type 0} (f : X → Y) (a b : Option X) → option_map f (option_or a b) ≡ option_or (option_map f a) (option_map f b)
map-or f None b = refl
map-or f (Some x) b = refl

map-map : {X Y Z : Type 0} (f : Y → Z) (g : X → Y) (o : Option X) → option_map f (option_map g o) ≡ option_map (λ x. f (g x)) o
map-map f g None = refl
map-map f g (Some x) = refl

-- from item n of the body at b: the last definition before it there, or what is found from the body's own item
type_at-deeper : (b : List ℕ) (n : ℕ) (d body : Items) (q : List ℕ) → body_at b d ≡ Some body
    → type_at (b ++ n ∷ []) d q ≡ option_or (option_map (λ k. b ++ k ∷ []) (last_definition q n body)) (type_at b d q)
type_at-deeper [] n d body q e =
    let same_body : d ≡ body = cc in
    ap (λ o. option_or (option_map (λ a. n ∷ a) o) (option_map (λ k. k ∷ []) (last_definition q n d))) (no-inner (inner n d) q)
    ∙ ap (λ t. option_map (λ k. k ∷ []) (last_definition q n t)) same_body ∙ sym (or-none (option_map (λ k. k ∷ []) (last_definition q n body)))
type_at-deeper (i ∷ b) n d body q e = into (λ t. type_at-deeper b n t body q) (inner i d) refl e
  where
    here : Option (List ℕ)
    here = option_map (λ k. k ∷ []) (last_definition q i d)

    last : Option ℕ
    last = last_definition q n body

    into : ((t : Items) → body_at b t ≡ Some body → type_at (b ++ n ∷ []) t q ≡ option_or (option_map (λ k. b ++ k ∷ []) (last_definition q n body)) (type_at b t q))
        → (o : Option Items) → inner i d ≡ o → option_and_then (body_at b) o ≡ Some body
        → type_at (i ∷ b ++ n ∷ []) d q ≡ option_or (option_map (λ k. i ∷ b ++ k ∷ []) (last_definition q n body)) (type_at (i ∷ b) d q)
    into ih None g h = cc
    into ih (Some t) g h =
        ap (λ o. option_or (option_map (λ a. i ∷ a) (option_and_then (λ u. type_at (b ++ n ∷ []) u q) o)) (option_map (λ k. k ∷ []) (last_definition q i d))) g
        ∙ ap (λ o. option_or (option_map (λ a. i ∷ a) o) (option_map (λ k. k ∷ []) (last_definition q i d)))
        (ih t h)
        ∙ ap (λ o. option_or o (option_map (λ k. k ∷ []) (last_definition q i d)))
        (map-or (λ a. i ∷ a) (option_map (λ k. b ++ k ∷ []) (last_definition q n body)) (type_at b t q)
        ∙ ap (λ o. option_or o (option_map (λ a. i ∷ a) (type_at b t q))) (map-map (λ a. i ∷ a) (λ k. b ++ k ∷ []) (last_definition q n body)))
        ∙ or-assoc (option_map (λ k. i ∷ b ++ k ∷ []) (last_definition q n body)) (option_map (λ a. i ∷ a) (type_at b t q)) (option_map (λ k. k ∷ []) (last_definition q i d))
        ∙ ap (λ o. option_or (option_map (λ k. i ∷ b ++ k ∷ []) (last_definition q n body)) (option_or (option_map (λ a. i ∷ a) (option_and_then (λ u. type_at b u q) o)) (option_map (λ k. k ∷ []) (last_definition q i d))))
        (sym g)

-- ---- What a walk carries.

-- the walk begins
pub led_root : (d : Items) (way : List ℕ) → IsLed d way [] false
led_root d way = record { leads = λ q h. refl }

-- a body begins
pub led_first : (d : Items) (way b : List ℕ) (body : Items) (led : Bool) → body_at b d ≡ Some body → IsLed d way b led → IsLed d way (b ++ 0 ∷ []) led
led_first d way b body led here is = record { leads = λ q h. is.leads q h ∙ sym (ap (leads_to way) (type_at-deeper b 0 d body q here)) }

-- the definition on the way, of this name, and another item
same-name : (q : List ℕ) (taken : Option Item) (m : List ℕ) → is_definition q taken ≡ true → is_definition m taken ≡ bytes_eq m q
same-name q None m h = cc
same-name q (Some (Define n c)) m h = ap (λ x. bytes_eq x m) ((bytes_eq-Decides n q).0 h) ∙ bytes-swap q m
same-name q (Some (Instance s o)) m h = cc
same-name q (Some (Own p v)) m h = cc
same-name q (Some (Default p v)) m h = cc
same-name q (Some (Dynamic t p v)) m h = cc

behind : (way : List ℕ) (taken : Option Item) (at : List ℕ) (x : Item) (led : Bool) (q : List ℕ) → is_definition q taken ≡ true → led_behind way taken at x led ≡ cond (is_definition q (Some x)) (same at way) led
behind way taken at (Define m c) led q h = ap (λ b. cond b (same at way) led) (same-name q taken m h)
behind way taken at (Instance s o) led q h = refl
behind way taken at (Own p v) led q h = refl
behind way taken at (Default p v) led q h = refl
behind way taken at (Dynamic t p v) led q h = refl

-- one item more
pub led_next : (d : Items) (way b : List ℕ) (n : ℕ) (body : Items) (x : Item) (led new : Bool) → body_at b d ≡ Some body → slice_get (list_of body) n ≡ Some x → IsLed d way (b ++ n ∷ []) led
    → new ≡ led_behind way (item_at way d) (b ++ n ∷ []) x led → IsLed d way (b ++ (n + 1) ∷ []) new
led_next d way b n body x led new here got is made = record {
  leads = λ q h.
      made ∙ behind way (item_at way d) (b ++ n ∷ []) x led q h
      ∙ by_case q h (is_definition q (Some x))
      ∙ ap (λ o. leads_to way (option_or (option_map (λ k. b ++ k ∷ []) o) (type_at b d q))) (ap (λ o. cond (is_definition q o) (Some n) (last_definition q n body)) (sym got) ∙ sym (last-suc q n body))
      ∙ sym (ap (leads_to way) (type_at-deeper b (suc n) d body q here))
      ∙ ap (λ k. leads_to way (type_at (b ++ k ∷ []) d q)) next;
}
  where
    next : suc n ≡ n + 1
    next = omega arith

    by_case : (q : List ℕ) → is_definition q (item_at way d) ≡ true → (defined : Bool)
        → cond defined (same (b ++ n ∷ []) way) led ≡ leads_to way (option_or (option_map (λ k. b ++ k ∷ []) (cond defined (Some n) (last_definition q n body))) (type_at b d q))
    by_case q h true = refl
    by_case q h false = is.leads q h ∙ ap (leads_to way) (type_at-deeper b n d body q here)

-- ---- The type of an instance.

and-true : (b : Bool) → (b && true) ≡ b
and-true true = refl
and-true false = refl

-- a reference to this name
pub led_name : (d : Items) (way at : List ℕ) (led : Bool) (t : List ℕ) → IsLed d way at led → (led && is_definition t (item_at way d)) ≡ leads_to way (type_at at d t)
led_name d way at led t is = by_name (is_definition t (item_at way d)) refl
  where
    by_name : (b : Bool) → is_definition t (item_at way d) ≡ b → (led && b) ≡ leads_to way (type_at at d t)
    by_name true e = and-true led ∙ is.leads t e
    by_name false e = and_right led false refl ∙ sym (unled-name d way at t e)

pub led_type : (d : Items) (way at : List ℕ) (x : Item) (led : Bool) → item_at at d ≡ Some x → IsLed d way at led → (led && refers_to (item_at way d) x) ≡ leads_to way (type_of d at)
led_type d way at x led here is =
    by_reference (reference_of x)
    ∙ sym (ap (leads_to way) (type_of-reference d at) ∙ ap (λ o. leads_to way (option_and_then (type_at at d) (option_and_then reference_of o))) here)
  where
    by_reference : (r : Option (List ℕ)) → (led && is_name_of (item_at way d) r) ≡ leads_to way (option_and_then (type_at at d) r)
    by_reference None = and_right led false refl
    by_reference (Some t) = led_name d way at led t is

-- the address under another name
pub led_here : (d : Items) (way at b : List ℕ) (led : Bool) → b ≡ at → IsLed d way at led → IsLed d way b led
led_here d way at b led e is = subst (λ a. IsLed d way a led) (sym e) is

-- the place and its holder under other names
pub led_same : (p place : List ℕ) (o holder : Option Item) (at : List ℕ) (x : Item) (led new : Bool) → new ≡ led_behind p o at x led → p ≡ place → o ≡ holder → new ≡ led_behind place holder at x led
led_same p place o holder at x led new made e f = made ∙ ap (λ q. led_behind q o at x led) e ∙ ap (λ h. led_behind place h at x led) f
