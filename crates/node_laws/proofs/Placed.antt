-- Instances that are placed one after the other.
use Rattle.std.proofs.Common.{◌≡◌, ℕ, ◌+◌, ◌<◌, ◌≤◌, List, [], ◌∷◌, map, drop, length, get_or, ap, sym, ◌∙◌, add-one, drop-cons}
use Rattle.std.proofs.lemmas.List.{drop_all}

module _ {A B L : Type 0} (f : A → B) (i : ℕ) (xs : List A) (whole : L) where
  -- one more is placed
  pub one_placed : (before after : List B → L) (x : A) → i < length xs → x ≡ get_or xs i x → ((behind : List B) → before (f x ∷ behind) ≡ after behind)
      → before (map f (drop i xs)) ≡ whole → after (map f (drop (i + 1) xs)) ≡ whole
  one_placed before after x within is put inv =
      let first : drop i xs ≡ x ∷ drop (i + 1) xs = (rw add-one (drop-cons xs i x within)) ∙ ap (λ z. z ∷ drop (i + 1) xs) (sym is) in
      sym (put (map f (drop (i + 1) xs))) ∙ sym (ap (λ ys. before (map f ys)) first) ∙ inv

  -- none is left
  pub all_placed : (before : List B → L) → length xs ≤ i → before (map f (drop i xs)) ≡ whole → before [] ≡ whole
  all_placed before done inv = sym (ap (λ ys. before (map f ys)) (drop_all i xs done)) ∙ inv
