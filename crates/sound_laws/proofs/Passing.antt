-- What is harmless stays so behind an instance, and what ends at one fits there.
use Rattle.std.proofs.Common.{◌≡◌, ℕ, List, [], ◌∷◌, Bool, true, false, Some, None, Option, refl, sym, ◌∙◌}
use Rattle.std.specs.Prelude.{nat_eq, bytes_eq, ◌&&◌, if◌then◌else◌}
use Rattle.std.specs.List.{list_all, cons_option}
use Rattle.std.specs.Cmp.Lexicographic.{pointwise}
use Rattle.std.proofs.lemmas.Slice.Eq.{bytes_eq-Decides}
use Rattle.rdl_tree.specs.declared.shell.Shell.{Shell}
use Rattle.rdl_tree.specs.declared.value.Value.{Value}
use Rattle.rdl_scope.specs.Closed.{Head, Parts, part}
use Rattle.rdl_elab.specs.Layouts.{layout_of}
use Rattle.rdl_elab.specs.Reaches.{Reach, passed, behind, has_ended, reached}
use Rattle.sound_laws.specs.Harmless.{Spot, is_fitting, spots_in, each_at, is_harmless_along, is_harmless_at}
use Rattle.sound_laws.proofs.Lists.{both, and_both}

-- what goes on to these instances, which stand there, is harmless
abbrev pub is_harmless_on : List ℕ → Value → List (List ℕ) → List Spot → Parts → Bool
is_harmless_on p v [] spots ps = true
is_harmless_on p v (a ∷ path) spots ps = each_at (is_harmless_along layout_of p v path) a spots ps

abbrev pub is_harmless_among : List Spot → Parts → Reach → Bool
is_harmless_among spots ps r = is_harmless_on r.property r.value r.path spots ps

-- from a component to its instances
enter_one : (p : List ℕ) (v : Value) (path : List (List ℕ)) (spot : Spot) (h : Head) (inside : Parts) → is_harmless_along layout_of p v path spot h inside ≡ true
    → is_harmless_on p v path (spots_in layout_of h inside) inside ≡ true
enter_one p v [] spot h inside e = refl
enter_one p v (a ∷ path) spot h inside e = e

pub enter : (spot : Spot) (h : Head) (inside : Parts) (rs : List Reach) → list_all (is_harmless_at layout_of spot h inside) rs ≡ true
    → list_all (is_harmless_among (spots_in layout_of h inside) inside) rs ≡ true
enter spot h inside [] e = refl
enter spot h inside (r ∷ rs) e =
    let t = both (is_harmless_at layout_of spot h inside r) (list_all (is_harmless_at layout_of spot h inside) rs) e in
    and_both (is_harmless_among (spots_in layout_of h inside) inside r) (list_all (is_harmless_among (spots_in layout_of h inside) inside) rs)
    (enter_one r.property r.value r.path spot h inside t.0) (enter spot h inside rs t.1)

-- from the instances of a component to the first of them, and to the others
module _ (at : List ℕ) (s : Shell) (h : Head) (inside rest : Parts) (spot : Spot) (spots : List Spot) where
  pass_one : (r : Reach) (path : List (List ℕ)) (more : List Reach) → is_harmless_on r.property r.value path (spot ∷ spots) (part at s h inside rest) ≡ true
      → list_all (is_harmless_at layout_of spot h inside) more ≡ true
      → (list_all (is_harmless_at layout_of spot h inside) (cons_option (passed at r path) more) ≡ true) × (is_harmless_on r.property r.value path spots rest ≡ true)
  pass_one r [] more e g = (g, refl)
  pass_one r (a ∷ path) more e g =
      let here = is_harmless_along layout_of r.property r.value path spot h inside in
      let t = both (if pointwise nat_eq a at then here else true) (each_at (is_harmless_along layout_of r.property r.value path) a spots rest) e in
      (by (pointwise nat_eq a at) t.0, t.1)
    where
      by : (b : Bool) → (if b then is_harmless_along layout_of r.property r.value path spot h inside else true) ≡ true
          → list_all (is_harmless_at layout_of spot h inside) (cons_option (if b then Some (record r { path = path }) else None) more) ≡ true
      by true f = and_both (is_harmless_along layout_of r.property r.value path spot h inside) (list_all (is_harmless_at layout_of spot h inside) more) f g
      by false f = g

  pub pass : (rs : List Reach) → list_all (is_harmless_among (spot ∷ spots) (part at s h inside rest)) rs ≡ true
      → (list_all (is_harmless_at layout_of spot h inside) (behind at rs) ≡ true) × (list_all (is_harmless_among spots rest) rs ≡ true)
  pass [] e = (refl, refl)
  pass (r ∷ rs) e =
      let t = both (is_harmless_among (spot ∷ spots) (part at s h inside rest) r) (list_all (is_harmless_among (spot ∷ spots) (part at s h inside rest)) rs) e in
      let more = pass rs t.1 in
      let one = pass_one r r.path (behind at rs) t.0 more.0 in
      (one.0, and_both (is_harmless_among spots rest r) (list_all (is_harmless_among spots rest) rs) one.1 more.1)

-- what is assigned there fits
module _ (p : List ℕ) (spot : Spot) (h : Head) (inside : Parts) (v : Value) where
  reached_by_name : (r : Reach) (o : Option Value) (b : Bool) → bytes_eq r.property p ≡ b → is_fitting spot r.property r.value ≡ true
      → (if b then Some r.value else o) ≡ Some v → (o ≡ Some v → is_fitting spot p v ≡ true) → is_fitting spot p v ≡ true
  reached_by_name r o true n f e later =
      let same : r.property ≡ p = (bytes_eq-Decides r.property p).0 n in
      let value : r.value ≡ v = cc in
      (λ i. is_fitting spot (sym same i) (sym value i)) ∙ f
  reached_by_name r o false n f e later = later e

  reached_by_path : (r : Reach) (o : Option Value) (path : List (List ℕ)) → is_harmless_along layout_of r.property r.value path spot h inside ≡ true
      → (if has_ended path && bytes_eq r.property p then Some r.value else o) ≡ Some v → (o ≡ Some v → is_fitting spot p v ≡ true) → is_fitting spot p v ≡ true
  reached_by_path r o [] f e later = reached_by_name r o (bytes_eq r.property p) refl f e later
  reached_by_path r o (a ∷ path) f e later = later e

  pub reached_fits : (rs : List Reach) → list_all (is_harmless_at layout_of spot h inside) rs ≡ true → reached p rs ≡ Some v → is_fitting spot p v ≡ true
  reached_fits [] a e = cc
  reached_fits (r ∷ rs) a e =
      let t = both (is_harmless_at layout_of spot h inside r) (list_all (is_harmless_at layout_of spot h inside) rs) a in
      reached_by_path r (reached p rs) r.path t.0 e (reached_fits rs t.1)
