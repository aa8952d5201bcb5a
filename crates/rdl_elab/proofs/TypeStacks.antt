-- An index of the nearest type of each name goes along with the stack of types.
use Rattle.std.proofs.Common.{◌≡◌, ℕ, List, [], ◌∷◌, ◌++◌, true, false, Option, Some, None, reverse, refl, ap, sym, ◌∙◌, ◌⊎◌, inl, inr, subst}
use Rattle.std.specs.Prelude.{bytes_eq, if◌then◌else◌, OnOk, OnErr, Result, Ok, Err}
use Rattle.std.proofs.lemmas.Bool.{cases_Bool}
use Rattle.std.proofs.lemmas.Slice.Eq.{bytes_eq-Decides}
use Rattle.std.proofs.lemmas.List.{reverse-append}
use Rattle.std.specs.declared.alloc.AllocError.{AllocError}
use Rattle.rdl_scope.specs.Closed.{lookup}
use Rattle.rdl_elab.specs.declared.walk.types.TypeEntry.{TypeEntry}
use Rattle.rdl_elab.specs.declared.walk.types.TypeIndex.{TypeIndex}
use Rattle.rdl_elab.specs.TypeStacks.{pairs, Hides, IsIndex, Uncovers, Lacks}

-- without the nearest type a name means the one that this hides
pub uncovered : (name q : List ℕ) (types : List (List ℕ × ℕ)) (component : ℕ) (hidden old new : Option ℕ) → new ≡ (if bytes_eq name q then hidden else old) → old ≡ (if bytes_eq name q then Some component else lookup q types) → hidden ≡ lookup name types → new ≡ lookup q types
uncovered name q types component hidden old new n o h = by_name (cases_Bool (bytes_eq name q))
  where
    by_name : ((bytes_eq name q ≡ true) ⊎ (bytes_eq name q ≡ false)) → new ≡ lookup q types
    by_name (inl e) = n ∙ ap (λ b. if b then hidden else old) e ∙ h ∙ ap (λ name. lookup name types) ((bytes_eq-Decides name q).0 e)
    by_name (inr e) = n ∙ ap (λ b. if b then hidden else old) e ∙ o ∙ ap (λ b. if b then Some component else lookup q types) e

-- the stack and its index without the nearest type, however that was taken out of the index
module _ (es rest : List TypeEntry) (nearest : TypeEntry) (old new : TypeIndex) (is : es ≡ rest ++ nearest ∷ []) (hides : Hides (reverse es)) (index : IsIndex old (pairs (reverse es))) where
  reversed : reverse es ≡ nearest ∷ reverse rest
  reversed = ap reverse is ∙ reverse-append rest (nearest ∷ [])

  left : Hides (nearest ∷ reverse rest)
  left = subst Hides reversed hides

  held : IsIndex old ((nearest.name.now, nearest.component) ∷ pairs (reverse rest))
  held = subst (λ xs. IsIndex old (pairs xs)) reversed index

  found : lookup nearest.name.now ((nearest.name.now, nearest.component) ∷ pairs (reverse rest)) ≡ Some nearest.component
  found = ap (λ b. if b then Some nearest.component else lookup nearest.name.now (pairs (reverse rest))) ((bytes_eq-Decides nearest.name.now nearest.name.now).1 refl)

  not-there : Some nearest.component ≡ None → ⊥
  not-there e = cc

  pub popped : (r : Result (Unit {0}) AllocError) → OnOk r (Uncovers nearest.name.now nearest.hidden old new) → OnErr r (Lacks nearest.name.now old) → Hides (reverse rest) × IsIndex new (pairs (reverse rest))
  popped (Ok u) ok err = (left.1, ok (pairs (reverse rest)) nearest.component held left.0)
  popped (Err e) ok err = absurd (not-there (sym found ∙ err ((nearest.name.now, nearest.component) ∷ pairs (reverse rest)) held))
