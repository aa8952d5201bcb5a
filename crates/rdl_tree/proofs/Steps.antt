-- One number of a path, and what a lent part says.
use Rattle.std.proofs.Common.{◌≡◌, ℕ, ◌-◌, ◌<◌, ◌≤◌, List, [], ◌∷◌, length, take, take_all, drop, Some, None, Option, refl, ap, sym, ◌∙◌, arith, slice_index_or, MutBor}
use Rattle.std.specs.Option.{option_copied_mut}

abbrev pub first : List ℕ → ℕ
first p = slice_index_or p 0 0

abbrev pub others : List ℕ → List ℕ
others p = take (length p - 1) (drop 1 p)

pub path_split : (p : List ℕ) → 1 ≤ length p → p ≡ first p ∷ others p
path_split [] h = absurd (omega arith)
path_split (i ∷ p) h = ap (λ q. i ∷ q) (sym (take_all (length (i ∷ p) - 1) p (omega arith)))

pub path_end : (p : List ℕ) → length p < 1 → p ≡ []
path_end [] h = refl
path_end (i ∷ p) h = absurd (omega arith)

pub lent_some : {X : Type 0} (r : Option (MutBor X)) (o : Option X) (x : MutBor X) → option_copied_mut r ≡ o → r ≡ Some x → o ≡ Some x.now
lent_some r o x e h = sym e ∙ ap option_copied_mut h

pub lent_none : {X : Type 0} (r : Option (MutBor X)) (o : Option X) → option_copied_mut r ≡ o → r ≡ None → o ≡ None
lent_none r o e h = sym e ∙ ap option_copied_mut h
