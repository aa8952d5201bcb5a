-- What stands in two rows, row by row.
use Rattle.std.proofs.Common.{◌≡◌, ℕ, ◌<◌, ◌≤◌, Bool, true, false, List, [], ◌∷◌, length, drop, refl, sym, ap, ◌∙◌, subst, if◌then◌else◌}
use Rattle.std.specs.Prelude.{◌&&◌}
use Rattle.std.specs.Cmp.Lexicographic.{pointwise}
use Rattle.std.proofs.lemmas.Bool.{lt-ltb, le-ltb}
use Rattle.std.proofs.lemmas.List.{length-map}
use denote.Ref.{Bor}
use Rattle.rdl_elab.specs.declared.row.Row.{Row}
use Rattle.rdl_diff.specs.ByPath.{texts}
use Rattle.rdl_diff.specs.Paths.{path, same_path}
use Rattle.rdl_diff.specs.Renames.{have_same_inside, inside}

-- the first of some rows, by its names
names-length : (names : List (Bor (List ℕ))) (r : Row) → texts names ≡ path r → length (path r) ≡ length names
names-length names r e = ap length (sym e) ∙ length-map names (λ (n : Bor (List ℕ)). n.now)

pub inside_first : (n : ℕ) (rows behind : List Row) (r : Row) (names : List (Bor (List ℕ))) → rows ≡ r ∷ behind → texts names ≡ path r → n < length names → inside n rows ≡ drop n (texts names) ∷ inside n behind
inside_first n rows behind r names e is deep =
    ap (inside n) e
    ∙ ap (λ b. if b then drop n (path r) ∷ inside n behind else []) (lt-ltb n (length (path r)) (subst (λ m. n < m) (sym (names-length names r is)) deep))
    ∙ ap (λ p. drop n p ∷ inside n behind) (sym is)

pub inside_none : (n : ℕ) (rows behind : List Row) (r : Row) (names : List (Bor (List ℕ))) → rows ≡ r ∷ behind → texts names ≡ path r → length names ≤ n → inside n rows ≡ []
inside_none n rows behind r names e is shallow =
    ap (inside n) e
    ∙ ap (λ b. if b then drop n (path r) ∷ inside n behind else []) (le-ltb n (length (path r)) (subst (λ m. m ≤ n) (sym (names-length names r is)) shallow))

-- ---- Of two.

module _ (n : ℕ) (old new old_behind new_behind : List Row) (p q : List (List ℕ)) where
  abbrev Takes : (some : Bool) → (rows behind : List Row) → List (List ℕ) → Type 0
  Takes some rows behind p = inside n rows ≡ (if some then drop n p ∷ inside n behind else [])

  -- both go on
  pub both_same : (some more same : Bool) (all : Bool) → Takes some old old_behind p → some ≡ true → Takes more new new_behind q → more ≡ true → same ≡ same_path (drop n p) (drop n q) → same ≡ true
      → all ≡ have_same_inside n old new → all ≡ have_same_inside n old_behind new_behind
  both_same some more same all f a g b s c h =
      h
      ∙ (λ i. pointwise same_path ((f ∙ ap (λ t. if t then drop n p ∷ inside n old_behind else []) a) i) ((g ∙ ap (λ t. if t then drop n q ∷ inside n new_behind else []) b) i))
      ∙ ap (λ t. t && have_same_inside n old_behind new_behind) (sym s ∙ c)

  -- they differ
  pub both_other : (some more same : Bool) (all : Bool) → Takes some old old_behind p → some ≡ true → Takes more new new_behind q → more ≡ true → same ≡ same_path (drop n p) (drop n q) → same ≡ false
      → all ≡ have_same_inside n old new → all ≡ false
  both_other some more same all f a g b s c h =
      h
      ∙ (λ i. pointwise same_path ((f ∙ ap (λ t. if t then drop n p ∷ inside n old_behind else []) a) i) ((g ∙ ap (λ t. if t then drop n q ∷ inside n new_behind else []) b) i))
      ∙ ap (λ t. t && have_same_inside n old_behind new_behind) (sym s ∙ c)

  -- the second has ended
  pub second_ended : (some more : Bool) (all : Bool) → Takes some old old_behind p → some ≡ true → Takes more new new_behind q → more ≡ false → all ≡ have_same_inside n old new → all ≡ false
  second_ended some more all f a g b h =
      h ∙ (λ i. pointwise same_path ((f ∙ ap (λ t. if t then drop n p ∷ inside n old_behind else []) a) i) ((g ∙ ap (λ t. if t then drop n q ∷ inside n new_behind else []) b) i))

  -- the first has ended
  pub first_ended : (some more : Bool) (all : Bool) → Takes some old old_behind p → some ≡ false → Takes more new new_behind q → all ≡ have_same_inside n old new → all ≡ (if more then false else true)
  first_ended some more all f a g h =
      h ∙ (λ i. pointwise same_path ((f ∙ ap (λ t. if t then drop n p ∷ inside n old_behind else []) a) i) (g i)) ∙ by more
    where
      by : (t : Bool) → pointwise same_path [] (if t then drop n q ∷ inside n new_behind else []) ≡ (if t then false else true)
      by true = refl
      by false = refl
