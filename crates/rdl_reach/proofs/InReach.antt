-- What is in reach is so by the searches through whole bodies.
use Rattle.std.proofs.Common.{◌≡◌, ℕ, Bool, true, false, ◌||◌, List, Option, Some, None, refl, ◌⊎◌, inl, inr}
use Rattle.std.proofs.lemmas.Bool.{or_cases}
use Rattle.rdl_tree.specs.Items.{Items}
use Rattle.rdl_scope.specs.Closed.{Parts, no_parts, part, Made, component}
use Rattle.rdl_elab.specs.Found.{ArePartsFound}
use Rattle.rdl_reach.specs.Reach.{leads_there, in_reach, IsInReach, itself, through}
use Rattle.rdl_elab.proofs.PartsFound.{parts-found}

module _ (edited : List ℕ → Bool) (d : Items) where
  leads : (ps : Parts) (b : List ℕ) → ArePartsFound d b ps → leads_there edited ps ≡ true → IsInReach edited d b
  leads no_parts b f e = cc
  leads (part at s h inside rest) b f e = by (or_cases (edited h.at || leads_there edited inside) (leads_there edited rest) e) (leads inside h.at f.1) (leads rest b f.2)
    where
      first : ((edited h.at ≡ true) ⊎ (leads_there edited inside ≡ true)) → (leads_there edited inside ≡ true → IsInReach edited d h.at) → IsInReach edited d b
      first (inl e) deep = through b at h.at f.0.around f.0.is (itself h.at e)
      first (inr e) deep = through b at h.at f.0.around f.0.is (deep e)

      by : (((edited h.at || leads_there edited inside) ≡ true) ⊎ (leads_there edited rest ≡ true)) → (leads_there edited inside ≡ true → IsInReach edited d h.at) → (leads_there edited rest ≡ true → IsInReach edited d b) → IsInReach edited d b
      by (inl e) deep more = first (or_cases (edited h.at) (leads_there edited inside) e) deep
      by (inr e) deep more = more e

  by-component : (a : List ℕ) (o : Option Made) → component d a ≡ o → (elim o [ None ↦ false | Some c ↦ leads_there edited c.parts ]) ≡ true → IsInReach edited d a
  by-component a None is e = cc
  by-component a (Some c) is e = leads c.parts a (parts-found d a c is) e

  pub is-in-reach : (a : List ℕ) → in_reach edited d a ≡ true → IsInReach edited d a
  is-in-reach a e = by (or_cases (edited a) (elim (component d a) [ None ↦ false | Some c ↦ leads_there edited c.parts ]) e)
    where
      by : ((edited a ≡ true) ⊎ ((elim (component d a) [ None ↦ false | Some c ↦ leads_there edited c.parts ]) ≡ true)) → IsInReach edited d a
      by (inl e) = itself a e
      by (inr e) = by-component a (component d a) refl e
