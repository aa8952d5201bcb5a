-- What is among the items of a list.
use Rattle.std.proofs.Common.{◌≡◌, ◌⊎◌, inl, inr, List, [], ◌∷◌, ◌++◌, map, flat_map, refl, ap, ◌∙◌, subst}
use Rattle.rdl_diff.specs.SameRows.{IsAmong}

either : {P Q R : Type 0} → P ⊎ Q → (Q → R) → P ⊎ R
either (inl p) f = inl p
either (inr q) f = inr (f q)

grouped : {P Q R : Type 0} → P ⊎ (Q ⊎ R) → (P ⊎ Q) ⊎ R
grouped (inl p) = inl (inl p)
grouped (inr (inl q)) = inl (inr q)
grouped (inr (inr r)) = inr r

module _ {A : Type 0} where
  pub among-front : (x : A) (xs ys : List A) → IsAmong x xs → IsAmong x (xs ++ ys)
  among-front x [] ys h = absurd h
  among-front x (z ∷ xs) ys (inl e) = inl e
  among-front x (z ∷ xs) ys (inr h) = inr (among-front x xs ys h)

  pub among-behind : (x : A) (xs ys : List A) → IsAmong x ys → IsAmong x (xs ++ ys)
  among-behind x [] ys h = h
  among-behind x (z ∷ xs) ys h = inr (among-behind x xs ys h)

  pub among-split : (x : A) (xs ys : List A) → IsAmong x (xs ++ ys) → IsAmong x xs ⊎ IsAmong x ys
  among-split x [] ys h = inr h
  among-split x (z ∷ xs) ys h = grouped (either h (among-split x xs ys))

  pub empty-parts : (xs ys : List A) → xs ++ ys ≡ [] → (xs ≡ []) × (ys ≡ [])
  empty-parts [] ys e = (refl, e)
  empty-parts (x ∷ xs) ys e = cc

module _ {A B : Type 0} (f : A → List B) where
  pub among-flat : (xs : List A) (x : A) (y : B) → IsAmong x xs → IsAmong y (f x) → IsAmong y (flat_map f xs)
  among-flat [] x y h k = absurd h
  among-flat (z ∷ xs) x y (inl e) k = among-front y (f z) (flat_map f xs) (subst (λ w. IsAmong y (f w)) e k)
  among-flat (z ∷ xs) x y (inr h) k = among-behind y (f z) (flat_map f xs) (among-flat xs x y h k)

  -- what a piece comes from
  pub record From (xs : List A) (y : B) : Type 0 where
    pub item : A
    pub among : IsAmong item xs
    pub in_piece : IsAmong y (f item)

  pub from-flat : (xs : List A) (y : B) → IsAmong y (flat_map f xs) → From xs y
  from-flat [] y h = absurd h
  from-flat (z ∷ xs) y h = by (among-split y (f z) (flat_map f xs) h) (from-flat xs y)
    where
      by : IsAmong y (f z) ⊎ IsAmong y (flat_map f xs) → (IsAmong y (flat_map f xs) → From xs y) → From (z ∷ xs) y
      by (inl k) rest = record { item = z; among = inl refl; in_piece = k }
      by (inr k) rest = let r = rest k in record { item = r.item; among = inr r.among; in_piece = r.in_piece }

  pub none-flat : (xs : List A) → ((x : A) → IsAmong x xs → f x ≡ []) → flat_map f xs ≡ []
  none-flat [] h = refl
  none-flat (x ∷ xs) h = λ i. h x (inl refl) i ++ none-flat xs (λ z k. h z (inr k)) i

  pub empty-flat : (xs : List A) (x : A) → flat_map f xs ≡ [] → IsAmong x xs → f x ≡ []
  empty-flat [] x e h = absurd h
  empty-flat (z ∷ xs) x e (inl same) = ap f same ∙ (empty-parts (f z) (flat_map f xs) e).0
  empty-flat (z ∷ xs) x e (inr h) = empty-flat xs x (empty-parts (f z) (flat_map f xs) e).1 h

pub among-map : {A B : Type 0} (g : A → B) (xs : List A) (x : A) → IsAmong x xs → IsAmong (g x) (map g xs)
among-map g [] x h = absurd h
among-map g (z ∷ xs) x (inl e) = inl (ap g e)
among-map g (z ∷ xs) x (inr h) = inr (among-map g xs x h)

pub map-append : {A B : Type 0} (g : A → B) (xs ys : List A) → map g (xs ++ ys) ≡ map g xs ++ map g ys
map-append g [] ys = refl
map-append g (x ∷ xs) ys = ap (λ zs. g x ∷ zs) (map-append g xs ys)

pub map-flat_map : {A B C : Type 0} (g : B → C) (f : A → List B) (xs : List A) → map g (flat_map f xs) ≡ flat_map (λ x. map g (f x)) xs
map-flat_map g f [] = refl
map-flat_map g f (x ∷ xs) = map-append g (f x) (flat_map f xs) ∙ ap (λ zs. map g (f x) ++ zs) (map-flat_map g f xs)
