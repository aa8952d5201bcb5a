-- Items for which there are no patches.
use Rattle.std.proofs.Common.{◌≡◌, ◌≢◌, ℕ, zero, suc, Bool, true, false, cond, List, [], ◌∷◌, ◌++◌, Some, None, Option, refl, ap, sym, ◌∙◌, ◌||◌}
use Rattle.std.proofs.lemmas.Slice.Eq.{bytes_eq-Decides}
use Rattle.std.specs.Prelude.{slice_get, option_and_then}
use Rattle.std.specs.List.{list_any}
use Rattle.rdl_tree.specs.ItemAt.{item_at}
use Rattle.rdl_tree.specs.Items.{Items, no_items}
use Rattle.rdl_tree.specs.View.{add}
use Rattle.rdl_tree.specs.Address.{number_of}
use Rattle.rdl_tree.specs.declared.description.Item.{Item}
use Rattle.rdl_tree.specs.declared.description.Item.TheVariants.{Instance}
use Rattle.rdl_tree.specs.declared.description.Of.{Of}
use Rattle.rdl_tree.specs.declared.description.Of.TheVariants.{Named}
use Rattle.rdl_tree.specs.declared.shell.Shell.{Shell}
use Rattle.rdl_tree.specs.declared.part.Part.TheVariants.{OfShell, OfType}
use Rattle.rdl_scope.specs.Types.{type_of}
use Rattle.rdl_scope.specs.Target.{through_of}
use Rattle.rdl_rewrite.specs.Addresses.{same, leads_to, passes_by}
use Rattle.rdl_rewrite.specs.Fates.{fate, given_if, item_patches, fate_patches}
use Rattle.rdl_rewrite.specs.Firsts.{is_dynamic}
use Rattle.rdl_rewrite.specs.declared.fate.Fate.TheVariants.{Kept, Dropped, Given}
use Rattle.rdl_rewrite.proofs.Leading.{number-inside}

-- an item of another number than the one on the way isn't that
pub apart : (way : List ℕ) (n : ℕ) → number_of way ≢ n → (at : List ℕ) → same (at ++ n ∷ []) way ≡ false
apart way n h at = by_case (same (at ++ n ∷ []) way) refl
  where
    by_case : (b : Bool) → same (at ++ n ∷ []) way ≡ b → b ≡ false
    by_case false e = refl
    by_case true e = absurd (h (ap number_of (sym ((bytes_eq-Decides (at ++ n ∷ []) way).0 e)) ∙ number-inside at n))

-- one of those that ask for the instances before it is among the items
pub dynamic_among : (xs : List Item) (i : ℕ) (x : Item) → slice_get xs i ≡ Some x → is_dynamic x ≡ true → list_any is_dynamic xs ≡ true
dynamic_among [] i x e h = cc
dynamic_among (y ∷ xs) zero x e h =
    let here : y ≡ x = cc in ap (λ z. is_dynamic z || list_any is_dynamic xs) here ∙ ap (λ b. b || list_any is_dynamic xs) h
dynamic_among (y ∷ xs) (suc i) x e h = ap (λ b. is_dynamic y || b) (dynamic_among xs i x e h) ∙ or-true (is_dynamic y)
  where
    or-true : (b : Bool) → (b || true) ≡ true
    or-true true = refl
    or-true false = refl

-- an item that is not on the way, and no target, isn't taken out
pub not_out : (d : Items) (way at : List ℕ) (x : Item) → item_at at d ≡ Some x → same at way ≡ false → through_of d at x ≡ None → fate d way None at x ≡ Kept
not_out d way at x here off none =
    ap (λ b. cond (b || passes_by way (option_and_then (through_of d at) (item_at at d))) Dropped Kept) off
    ∙ ap (λ o. cond (passes_by way (option_and_then (through_of d at) o)) Dropped Kept) here ∙ ap (λ o. cond (passes_by way o) Dropped Kept) none

alone : (d : Items) (way : List ℕ) (name : Option (List ℕ)) (b : List ℕ) (n : ℕ) (x : Item) → fate_patches (fate d way name) b n (add x no_items) ≡ item_patches (b ++ n ∷ []) (fate d way name (b ++ n ∷ []) x) [] → fate d way name (b ++ n ∷ []) x ≡ Kept → fate_patches (fate d way name) b n (add x no_items) ≡ []
alone d way name b n x e k = e ∙ ap (λ f. item_patches (b ++ n ∷ []) f []) k

pub nothing_named : (d : Items) (way : List ℕ) (name : Option (List ℕ)) (b : List ℕ) (n : ℕ) (x : Item) (s : Shell) (o : Of) (t : List ℕ) → x ≡ Instance s o → o ≡ Named t → item_at (b ++ n ∷ []) d ≡ Some x → same (b ++ n ∷ []) way ≡ false → leads_to way (type_of d (b ++ n ∷ [])) ≡ false → fate_patches (fate d way name) b n (add x no_items) ≡ []
nothing_named d way name b n x s o t e f here off unled =
    let is : x ≡ Instance s (Named t) = e ∙ ap (Instance s) f in
    ap (λ y. fate_patches (fate d way name) b n (add y no_items)) is ∙ alone d way name b n (Instance s (Named t)) refl (kept name (here ∙ ap Some is))
  where
    at : List ℕ
    at = b ++ n ∷ []

    kept : (m : Option (List ℕ)) → item_at at d ≡ Some (Instance s (Named t)) → fate d way m at (Instance s (Named t)) ≡ Kept
    kept None h = not_out d way at (Instance s (Named t)) h off refl
    kept (Some m) h =
        ap (λ c. cond c (Given (OfShell (record s { name = m }))) (given_if (leads_to way (type_of d at)) (OfType m))) off ∙ ap (λ c. given_if c (OfType m)) unled
