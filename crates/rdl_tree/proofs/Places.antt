-- An address is that of a body and a number, and what a change of the body at an address does there.
use Rattle.std.proofs.Common.{◌≡◌, ℕ, zero, suc, ◌+◌, ◌-◌, ◌<◌, List, [], ◌∷◌, ◌++◌, length, take, Option, Some, None, refl, ap, sym, ◌∙◌, arith, length-append}
use Rattle.std.specs.Prelude.{option_and_then, slice_get, slice_index, is_some, IsTrue}
use Rattle.std.proofs.lemmas.Bool.{false≢true}
use Rattle.rdl_tree.specs.Items.{Items, no_items, plain, holder}
use Rattle.rdl_tree.specs.View.{list_of}
use Rattle.rdl_tree.specs.Address.{holder_of, number_of, inner, map_inner, body_at, map_body}
use Rattle.rdl_tree.specs.ItemAt.{item_at}
use Rattle.rdl_tree.specs.declared.description.Item.{Item}
use Rattle.rdl_tree.proofs.Changes.{map_inner-cong, map_body-cong, map_body-same}

-- ---- Addresses.

last_number : (i j : ℕ) (p : List ℕ) → length (i ∷ j ∷ p) - 1 ≡ suc (length (j ∷ p) - 1)
last_number i j p = omega arith

holder-more : (i j : ℕ) (p : List ℕ) → holder_of (i ∷ j ∷ p) ≡ i ∷ holder_of (j ∷ p)
holder-more i j p = ap (λ n. take n (i ∷ j ∷ p)) (last_number i j p)

number-more : (i j : ℕ) (p : List ℕ) → number_of (i ∷ j ∷ p) ≡ number_of (j ∷ p)
number-more i j p = ap (λ n. slice_index (i ∷ j ∷ p) n) (last_number i j p)

pub place-whole : (at : List ℕ) → 0 < length at → holder_of at ++ number_of at ∷ [] ≡ at
place-whole [] h = absurd (omega arith)
place-whole (i ∷ []) h = refl
place-whole (i ∷ j ∷ p) h =
    ap (λ (q : List ℕ). q ++ number_of (i ∷ j ∷ p) ∷ []) (holder-more i j p) ∙ ap (λ n. (i ∷ holder_of (j ∷ p)) ++ n ∷ []) (number-more i j p)
    ∙ ap (λ (q : List ℕ). i ∷ q) (place-whole (j ∷ p) (omega arith))

pub holder-place : (p : List ℕ) (n : ℕ) → holder_of (p ++ n ∷ []) ≡ p
holder-place [] n = refl
holder-place (i ∷ []) n = refl
holder-place (i ∷ j ∷ p) n = holder-more i j (p ++ n ∷ []) ∙ ap (λ (q : List ℕ). i ∷ q) (holder-place (j ∷ p) n)

pub number-place : (p : List ℕ) (n : ℕ) → number_of (p ++ n ∷ []) ≡ n
number-place [] n = refl
number-place (i ∷ []) n = refl
number-place (i ∷ j ∷ p) n = number-more i j (p ++ n ∷ []) ∙ number-place (j ∷ p) n

pub length-holder : (at : List ℕ) → 0 < length at → length (holder_of at) + 1 ≡ length at
length-holder at h = omega (arith, sym (length-append (holder_of at) (number_of at ∷ [])) ∙ ap length (place-whole at h))

-- ---- The item at an address.

pub item_at-place : (at : List ℕ) (t : Items) → 0 < length at → item_at at t ≡ option_and_then (λ b. slice_get (list_of b) (number_of at)) (body_at (holder_of at) t)
item_at-place [] t h = absurd (omega arith)
item_at-place (i ∷ []) t h = refl
item_at-place (i ∷ j ∷ p) t h =
    rw (holder-more i j p, number-more i j p) (elim (inner i t) as (λ o. option_and_then (item_at (j ∷ p)) o ≡ option_and_then (λ b. slice_get (list_of b) (number_of (j ∷ p))) (option_and_then (body_at (holder_of (j ∷ p))) o)) [ None ↦ refl | Some b ↦ item_at-place (j ∷ p) b (omega arith) ])

-- the body that holds an item
pub record Stands (at : List ℕ) (t : Items) (x : Item) : Type 0 where
  pub body : Items
  pub within : 0 < length at
  pub held : body_at (holder_of at) t ≡ Some body
  pub found : slice_get (list_of body) (number_of at) ≡ Some x

pub stands : (at : List ℕ) (t : Items) (x : Item) → item_at at t ≡ Some x → Stands at t x
stands [] t x e = cc
stands (i ∷ p) t x e = from (i ∷ p) t x (body_at (holder_of (i ∷ p)) t) (omega arith) refl (sym (item_at-place (i ∷ p) t (omega arith)) ∙ e)
  where
    from : (at : List ℕ) (t : Items) (x : Item) (o : Option Items) → 0 < length at → body_at (holder_of at) t ≡ o → option_and_then (λ b. slice_get (list_of b) (number_of at)) (body_at (holder_of at) t) ≡ Some x → Stands at t x
    from at t x None h f e = cc
    from at t x (Some b) h f e = record { body = b; within = h; held = f; found = ap (option_and_then (λ b. slice_get (list_of b) (number_of at))) (sym f) ∙ e }

pub found_at : (at : List ℕ) (t b : Items) (x : Item) → 0 < length at → body_at (holder_of at) t ≡ Some b → slice_get (list_of b) (number_of at) ≡ Some x → item_at at t ≡ Some x
found_at at t b x h e f = item_at-place at t h ∙ ap (option_and_then (λ b. slice_get (list_of b) (number_of at))) e ∙ f

pub the_item : (o : Option Item) → IsTrue (is_some o) → (x : Item) × (o ≡ Some x)
the_item None e = absurd (false≢true e)
the_item (Some x) e = (x, refl)

-- ---- A change of the body at an address.

map_inner-twice : (i : ℕ) (f g : Items → Items) (t : Items) → map_inner i g (map_inner i f t) ≡ map_inner i (λ b. g (f b)) t
map_inner-twice i f g no_items = refl
map_inner-twice zero f g (plain p rest) = refl
map_inner-twice zero f g (holder h body rest) = refl
map_inner-twice (suc i) f g (plain p rest) = ap (plain p) (map_inner-twice i f g rest)
map_inner-twice (suc i) f g (holder h body rest) = ap (holder h body) (map_inner-twice i f g rest)

pub map_body-twice : (p : List ℕ) (f g : Items → Items) (t : Items) → map_body p g (map_body p f t) ≡ map_body p (λ b. g (f b)) t
map_body-twice [] f g t = refl
map_body-twice (i ∷ p) f g t =
    map_inner-twice i (map_body p f) (map_body p g) t ∙ map_inner-cong i t (λ b. map_body p g (map_body p f b)) (map_body p (λ b. g (f b))) (λ d q. map_body-twice p f g d)

inner-map : (i : ℕ) (f : Items → Items) (t b : Items) → inner i t ≡ Some b → inner i (map_inner i f t) ≡ Some (f b)
inner-map i f no_items b e = cc
inner-map zero f (plain p rest) b e = cc
inner-map zero f (holder h body rest) b e = let same : body ≡ b = cc in ap (λ d. Some (f d)) same
inner-map (suc i) f (plain p rest) b e = inner-map i f rest b e
inner-map (suc i) f (holder h body rest) b e = inner-map i f rest b e

-- one number of a way on which there is a body
pub inner_some : (i : ℕ) (p : List ℕ) (t b : Items) → body_at (i ∷ p) t ≡ Some b → (d : Items) × (inner i t ≡ Some d) × (body_at p d ≡ Some b)
inner_some i p t b e = from (inner i t) refl e
  where
    from : (o : Option Items) → inner i t ≡ o → option_and_then (body_at p) o ≡ Some b → (d : Items) × (inner i t ≡ Some d) × (body_at p d ≡ Some b)
    from None f e = cc
    from (Some d) f e = (d, f, e)

pub body_at-map : (p : List ℕ) (f : Items → Items) (t b : Items) → body_at p t ≡ Some b → body_at p (map_body p f t) ≡ Some (f b)
body_at-map [] f t b e = let same : t ≡ b = cc in ap (λ d. Some (f d)) same
body_at-map (i ∷ p) f t b e =
    let step = inner_some i p t b e in
    ap (option_and_then (body_at p)) (inner-map i (map_body p f) t step.0 step.1) ∙ body_at-map p f step.0 b step.2

-- a change that is undone
pub map_body-undone : (p : List ℕ) (f g : Items → Items) (t b : Items) → body_at p t ≡ Some b → g (f b) ≡ b → map_body p g (map_body p f t) ≡ t
map_body-undone p f g t b e h = map_body-twice p f g t ∙ map_body-cong p (λ d. g (f d)) (λ d. d) t b e h ∙ map_body-same p t
