-- What is harmless by what is kept of layouts stays so behind an instance, and what rows aren't judged by isn't found in their values.
use Rattle.std.proofs.Common.{◌≡◌, ℕ, List, [], ◌∷◌, Bool, true, false, Some, None, Option, refl, ap, sym, ◌∙◌}
use Rattle.std.specs.Prelude.{suc, nat_eq, bytes_eq, ◌&&◌, not, if◌then◌else◌}
use Rattle.std.specs.List.{list_all, cons_option}
use Rattle.std.specs.Cmp.Lexicographic.{pointwise}
use Rattle.std.proofs.lemmas.Slice.Eq.{bytes_eq-Decides}
use Rattle.rdl_tree.specs.Items.{Items, no_items, plain, holder, named, own, default, dynamic}
use Rattle.rdl_tree.specs.Properties.{row}
use Rattle.rdl_tree.specs.declared.property.Property.TheVariants.{Sw, Reset}
use Rattle.rdl_tree.specs.declared.shell.Kind.{Kind}
use Rattle.rdl_tree.specs.declared.shell.Kind.TheVariants.{Addrmap, Regfile, Reg, Field}
use Rattle.rdl_tree.specs.declared.shell.Shell.{Shell}
use Rattle.rdl_tree.specs.declared.value.Value.{Value}
use Rattle.rdl_scope.specs.Closed.{Head, Parts, part}
use Rattle.rdl_elab.specs.declared.layout.Mode.TheVariants.{Compact}
use Rattle.rdl_elab.specs.Reaches.{Reach, with_path, reaches_by, passed, behind, has_ended, reached}
use Rattle.sound_laws.specs.Harmless.{Spot, elsewhere, is_fitting, kept_layout, all_elsewhere, spots_by, spots_in, each_at, is_harmless_along, is_harmless_at, is_harmless, are_harmless, is_unjudged}
use Rattle.sound_laws.proofs.Containers.{is_container}
use Rattle.sound_laws.proofs.Lists.{both, and_both, not_false, neither_of}
use Rattle.sound_nodes.specs.Rows.{is_judged, assigns}

-- ---- From an address map or a register file to its instances.

abbrev pub goes_on : List ℕ → Value → List (List ℕ) → Parts → Bool
goes_on p v [] ps = true
goes_on p v (a ∷ path) ps = each_at (is_harmless_along kept_layout p v path) a (all_elsewhere ps) ps

-- what goes on to these instances is harmless
abbrev pub go_on : Parts → List Reach → Bool
go_on ps rs = list_all (λ (r : Reach). goes_on r.property r.value r.path ps) rs

elsewhere_by : (k : Kind) (h : Head) (inside : Parts) → h.kind ≡ k → is_container k ≡ true → spots_in kept_layout h inside ≡ all_elsewhere inside
elsewhere_by Addrmap h inside e c = ap (λ k. spots_by k (kept_layout Compact h inside).spans inside) e
elsewhere_by Regfile h inside e c = ap (λ k. spots_by k (kept_layout Compact h inside).spans inside) e
elsewhere_by Reg h inside e c = absurd cc
elsewhere_by Field h inside e c = absurd cc

enter_one : (h : Head) (inside : Parts) → spots_in kept_layout h inside ≡ all_elsewhere inside → (p : List ℕ) (v : Value) (path : List (List ℕ))
    → is_harmless_along kept_layout p v path elsewhere h inside ≡ true → goes_on p v path inside ≡ true
enter_one h inside s p v [] e = refl
enter_one h inside s p v (a ∷ path) e = ap (λ spots. each_at (is_harmless_along kept_layout p v path) a spots inside) (sym s) ∙ e

enter_all : (h : Head) (inside : Parts) → spots_in kept_layout h inside ≡ all_elsewhere inside → (rs : List Reach) → are_harmless kept_layout h inside rs ≡ true → go_on inside rs ≡ true
enter_all h inside s [] e = refl
enter_all h inside s (r ∷ rs) e =
    let t = both (is_harmless kept_layout h inside r) (are_harmless kept_layout h inside rs) e in
    and_both (goes_on r.property r.value r.path inside) (go_on inside rs) (enter_one h inside s r.property r.value r.path t.0) (enter_all h inside s rs t.1)

pub enters : (h : Head) (inside : Parts) → is_container h.kind ≡ true → (rs : List Reach) → are_harmless kept_layout h inside rs ≡ true → go_on inside rs ≡ true
enters h inside c rs e = enter_all h inside (elsewhere_by h.kind h inside refl c) rs e

-- to the first of the instances, and to the others
module _ (at : List ℕ) (s : Shell) (h : Head) (inside rest : Parts) where
  pass_one : (r : Reach) (path : List (List ℕ)) (more : List Reach) → goes_on r.property r.value path (part at s h inside rest) ≡ true
      → are_harmless kept_layout h inside more ≡ true
      → (are_harmless kept_layout h inside (cons_option (passed at r path) more) ≡ true) × (goes_on r.property r.value path rest ≡ true)
  pass_one r [] more e g = (g, refl)
  pass_one r (a ∷ path) more e g =
      let here = is_harmless_along kept_layout r.property r.value path elsewhere h inside in
      let t = both (if pointwise nat_eq a at then here else true) (each_at (is_harmless_along kept_layout r.property r.value path) a (all_elsewhere rest) rest) e in
      (by (pointwise nat_eq a at) t.0, t.1)
    where
      by : (b : Bool) → (if b then is_harmless_along kept_layout r.property r.value path elsewhere h inside else true) ≡ true
          → are_harmless kept_layout h inside (cons_option (if b then Some (record r { path = path }) else None) more) ≡ true
      by true f = and_both (is_harmless_along kept_layout r.property r.value path elsewhere h inside) (are_harmless kept_layout h inside more) f g
      by false f = g

  pub passes_on : (rs : List Reach) → go_on (part at s h inside rest) rs ≡ true → (are_harmless kept_layout h inside (behind at rs) ≡ true) × (go_on rest rs ≡ true)
  passes_on [] e = (refl, refl)
  passes_on (r ∷ rs) e =
      let t = both (goes_on r.property r.value r.path (part at s h inside rest)) (go_on (part at s h inside rest) rs) e in
      let more = passes_on rs t.1 in
      let one = pass_one r r.path (behind at rs) t.0 more.0 in
      (one.0, and_both (goes_on r.property r.value r.path rest) (go_on rest rs) one.1 more.1)

-- ---- From a register to its fields.

abbrev pub field_goes : List ℕ → Value → List (List ℕ) → List Spot → Parts → Bool
field_goes p v [] spots ps = true
field_goes p v (a ∷ path) spots ps = each_at (is_harmless_along kept_layout p v path) a spots ps

abbrev pub fields_go : List Spot → Parts → List Reach → Bool
fields_go spots ps rs = list_all (λ (r : Reach). field_goes r.property r.value r.path spots ps) rs

field-enters : (h : Head) (inside : Parts) (p : List ℕ) (v : Value) (path : List (List ℕ)) → is_harmless_along kept_layout p v path elsewhere h inside ≡ true
    → field_goes p v path (spots_in kept_layout h inside) inside ≡ true
field-enters h inside p v [] e = refl
field-enters h inside p v (a ∷ path) e = e

pub register-enters : (h : Head) (inside : Parts) (rs : List Reach) → are_harmless kept_layout h inside rs ≡ true → fields_go (spots_in kept_layout h inside) inside rs ≡ true
register-enters h inside [] e = refl
register-enters h inside (r ∷ rs) e =
    let t = both (is_harmless kept_layout h inside r) (are_harmless kept_layout h inside rs) e in
    and_both (field_goes r.property r.value r.path (spots_in kept_layout h inside) inside) (fields_go (spots_in kept_layout h inside) inside rs)
    (field-enters h inside r.property r.value r.path t.0) (register-enters h inside rs t.1)

module _ (at : List ℕ) (s : Shell) (h : Head) (inside rest : Parts) (spot : Spot) (spots : List Spot) where
  field-pass : (r : Reach) (path : List (List ℕ)) (more : List Reach) → field_goes r.property r.value path (spot ∷ spots) (part at s h inside rest) ≡ true
      → list_all (is_harmless_at kept_layout spot h inside) more ≡ true
      → (list_all (is_harmless_at kept_layout spot h inside) (cons_option (passed at r path) more) ≡ true) × (field_goes r.property r.value path spots rest ≡ true)
  field-pass r [] more e g = (g, refl)
  field-pass r (a ∷ path) more e g =
      let here = is_harmless_along kept_layout r.property r.value path spot h inside in
      let t = both (if pointwise nat_eq a at then here else true) (each_at (is_harmless_along kept_layout r.property r.value path) a spots rest) e in
      (by (pointwise nat_eq a at) t.0, t.1)
    where
      by : (b : Bool) → (if b then is_harmless_along kept_layout r.property r.value path spot h inside else true) ≡ true
          → list_all (is_harmless_at kept_layout spot h inside) (cons_option (if b then Some (record r { path = path }) else None) more) ≡ true
      by true f = and_both (is_harmless_along kept_layout r.property r.value path spot h inside) (list_all (is_harmless_at kept_layout spot h inside) more) f g
      by false f = g

  pub field-passes : (rs : List Reach) → fields_go (spot ∷ spots) (part at s h inside rest) rs ≡ true
      → (list_all (is_harmless_at kept_layout spot h inside) (behind at rs) ≡ true) × (fields_go spots rest rs ≡ true)
  field-passes [] e = (refl, refl)
  field-passes (r ∷ rs) e =
      let t = both (field_goes r.property r.value r.path (spot ∷ spots) (part at s h inside rest)) (fields_go (spot ∷ spots) (part at s h inside rest) rs) e in
      let more = field-passes rs t.1 in
      let one = field-pass r r.path (behind at rs) t.0 more.0 in
      (one.0, and_both (field_goes r.property r.value r.path spots rest) (fields_go spots rest rs) one.1 more.1)

-- what is assigned there fits
module _ (p : List ℕ) (spot : Spot) (h : Head) (inside : Parts) (v : Value) where
  by-name : (r : Reach) (o : Option Value) (b : Bool) → bytes_eq r.property p ≡ b → is_fitting spot r.property r.value ≡ true
      → (if b then Some r.value else o) ≡ Some v → (o ≡ Some v → is_fitting spot p v ≡ true) → is_fitting spot p v ≡ true
  by-name r o true n f e later =
      let same : r.property ≡ p = (bytes_eq-Decides r.property p).0 n in
      let value : r.value ≡ v = cc in
      (λ i. is_fitting spot (sym same i) (sym value i)) ∙ f
  by-name r o false n f e later = later e

  by-path : (r : Reach) (o : Option Value) (path : List (List ℕ)) → is_harmless_along kept_layout r.property r.value path spot h inside ≡ true
      → (if has_ended path && bytes_eq r.property p then Some r.value else o) ≡ Some v → (o ≡ Some v → is_fitting spot p v ≡ true) → is_fitting spot p v ≡ true
  by-path r o [] f e later = by-name r o (bytes_eq r.property p) refl f e later
  by-path r o (a ∷ path) f e later = later e

  pub fitting-reached : (rs : List Reach) → list_all (is_harmless_at kept_layout spot h inside) rs ≡ true → reached p rs ≡ Some v → is_fitting spot p v ≡ true
  fitting-reached [] a e = absurd cc
  fitting-reached (r ∷ rs) a e =
      let t = both (is_harmless_at kept_layout spot h inside r) (list_all (is_harmless_at kept_layout spot h inside) rs) a in
      by-path r (reached p rs) r.path t.0 e (fitting-reached rs t.1)

-- ---- What rows aren't judged by.

pub unjudged_behind : (at : List ℕ) (rs : List Reach) → list_all is_unjudged rs ≡ true → list_all is_unjudged (behind at rs) ≡ true
unjudged_behind at [] e = refl
unjudged_behind at (r ∷ rs) e =
    let t = both (is_unjudged r) (list_all is_unjudged rs) e in
    by_path r.path (unjudged_behind at rs t.1) t.0
  where
    by : (b : Bool) (path : List (List ℕ)) → list_all is_unjudged (behind at rs) ≡ true → is_unjudged r ≡ true
        → list_all is_unjudged (cons_option (if b then Some (record r { path = path }) else None) (behind at rs)) ≡ true
    by true path more here = and_both (is_unjudged r) (list_all is_unjudged (behind at rs)) here more
    by false path more here = more

    by_path : (path : List (List ℕ)) → list_all is_unjudged (behind at rs) ≡ true → is_unjudged r ≡ true → list_all is_unjudged (cons_option (passed at r path) (behind at rs)) ≡ true
    by_path [] more here = more
    by_path (a ∷ path) more here = by (pointwise nat_eq a at) path more here

and_false : (a : Bool) → (a && false) ≡ false
and_false true = refl
and_false false = refl

reached_none : (p : List ℕ) → ((r : Reach) → is_unjudged r ≡ true → bytes_eq r.property p ≡ false) → (rs : List Reach) → list_all is_unjudged rs ≡ true → reached p rs ≡ None
reached_none p f [] e = refl
reached_none p f (r ∷ rs) e =
    let t = both (is_unjudged r) (list_all is_unjudged rs) e in
    ap (λ b. if has_ended r.path && b then Some r.value else reached p rs) (f r t.0)
    ∙ ap (λ b. if b then Some r.value else reached p rs) (and_false (has_ended r.path)) ∙ reached_none p f rs t.1

pub no_reset : (rs : List Reach) → list_all is_unjudged rs ≡ true → reached (row Reset).name rs ≡ None
no_reset =
    reached_none (row Reset).name
    (λ r e. not_false (bytes_eq r.property (row Reset).name) (both (not (bytes_eq r.property (row Reset).name)) (not (bytes_eq r.property (row Sw).name)) e).0)

pub no_sw : (rs : List Reach) → list_all is_unjudged rs ≡ true → reached (row Sw).name rs ≡ None
no_sw =
    reached_none (row Sw).name
    (λ r e. not_false (bytes_eq r.property (row Sw).name) (both (not (bytes_eq r.property (row Reset).name)) (not (bytes_eq r.property (row Sw).name)) e).1)

-- a body in which none of the dynamic assignments is one by which rows are judged
neither_is : (p : List ℕ) → is_judged p ≡ false → (not (bytes_eq p (row Reset).name) && not (bytes_eq p (row Sw).name)) ≡ true
neither_is p e =
    let t = neither_of (bytes_eq p (row Reset).name) (bytes_eq p (row Sw).name) e in
    λ i. not (t.0 i) && not (t.1 i)

with_one : (o : Option (List (List ℕ))) (p : List ℕ) (v : Value) (more : List Reach) → is_judged p ≡ false → list_all is_unjudged more ≡ true → list_all is_unjudged (with_path o p v more) ≡ true
with_one None p v more e g = g
with_one (Some path) p v more e g =
    and_both (not (bytes_eq p (row Reset).name) && not (bytes_eq p (row Sw).name)) (list_all is_unjudged more) (neither_is p e) g

pub unjudged_own : (f : ℕ → List (List ℕ) → Option (List (List ℕ))) (n : ℕ) (t : Items) → assigns t ≡ false → list_all is_unjudged (reaches_by f n t) ≡ true
unjudged_own f n no_items e = refl
unjudged_own f n (plain (named s u) rest) e = unjudged_own f (suc n) rest e
unjudged_own f n (plain (own p v) rest) e = unjudged_own f (suc n) rest e
unjudged_own f n (plain (default p v) rest) e = unjudged_own f (suc n) rest e
unjudged_own f n (plain (dynamic u p v) rest) e =
    let t = neither_of (is_judged p) (assigns rest) e in
    with_one (f n u) p v (reaches_by f (suc n) rest) t.0 (unjudged_own f (suc n) rest t.1)
unjudged_own f n (holder h body rest) e = unjudged_own f (suc n) rest e
