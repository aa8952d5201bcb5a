-- Names tell of a dynamic assignment whether it is harmless.
use Rattle.std.proofs.Common.{◌≡◌, ℕ, suc, ◌<◌, ◌≤◌, List, [], ◌∷◌, ◌++◌, Bool, true, false, Some, None, Option, option_map, refl, ap, sym, subst, ◌∙◌, arith}
use Rattle.std.specs.Prelude.{nat_eq, bytes_eq, ◌&&◌, option_and_then, if◌then◌else◌}
use Rattle.std.specs.Cmp.Lexicographic.{pointwise}
use Rattle.std.proofs.lemmas.Slice.Eq.{bytes_eq-Decides}
use Rattle.rdl_tree.specs.Items.{Items, no_items, plain, holder, named as named_item, own, default, dynamic, define, anonymous}
use Rattle.rdl_tree.specs.Address.{number_of}
use Rattle.rdl_tree.specs.declared.shell.Shell.{Shell}
use Rattle.rdl_tree.specs.declared.value.Value.{Value}
use Rattle.rdl_tree.proofs.Places.{number-place}
use Rattle.rdl_scope.specs.Types.{component_of}
use Rattle.rdl_scope.specs.Closed.{Head, Parts, no_parts, part, Made, component, instances, with_made}
use Rattle.rdl_scope.proofs.AsFound.{as_found}
use Rattle.rdl_elab.proofs.PartsFound.{parts-found}
use Rattle.rdl_elab.specs.Reaches.{Reach, with_path, reaches_by}
use Rattle.sound_laws.specs.Harmless.{Laying, Spot, elsewhere, spots_in, each_at, is_harmless_along, are_harmless}
use Rattle.sound_laws.specs.Targets.{Instance, named, passed_by, is_before, first_named, target_in}
use Rattle.sound_laws.specs.Verdicts.{Stand, stand_named, end_in, is_end_fitting, is_item_fitting, are_items_fitting, FittingIsHarmless}
use Rattle.sound_laws.proofs.Named.{one_named}

-- ---- No two instances of a body are the same item.

-- they are items from number n on, each behind the one before it
abbrev AreFrom : ℕ → Parts → Type 0
AreFrom n no_parts = Unit {0}
AreFrom n (part at s h inside rest) = (n ≤ number_of at) × AreFrom (suc (number_of at)) rest

from_less : (n : ℕ) (ps : Parts) → AreFrom (suc n) ps → AreFrom n ps
from_less n no_parts f = tt
from_less n (part at s h inside rest) f = (omega (arith, f.0), f.1)

from_made : (b : List ℕ) (n : ℕ) (s : Shell) (o : Option Made) (ps : Parts) → AreFrom (suc n) ps → AreFrom n (with_made (b ++ n ∷ []) s o ps)
from_made b n s None ps f = from_less n ps f
from_made b n s (Some m) ps f =
    let e = number-place b n in
    (omega (arith, e), subst (λ k. AreFrom (suc k) ps) (sym e) f)

from_instances : (d : Items) (b : List ℕ) (t : Items) (n : ℕ) → AreFrom n (instances d b n t)
from_instances d b no_items n = tt
from_instances d b (plain (named_item s t) rest) n = from_made b n s (option_and_then (component d) (component_of d (b ++ n ∷ []))) (instances d b (suc n) rest) (from_instances d b rest (suc n))
from_instances d b (plain (own p v) rest) n = from_less n (instances d b (suc n) rest) (from_instances d b rest (suc n))
from_instances d b (plain (default p v) rest) n = from_less n (instances d b (suc n) rest) (from_instances d b rest (suc n))
from_instances d b (plain (dynamic t p v) rest) n = from_less n (instances d b (suc n) rest) (from_instances d b rest (suc n))
from_instances d b (holder (define m k) body rest) n = from_less n (instances d b (suc n) rest) (from_instances d b rest (suc n))
from_instances d b (holder (anonymous s k) body rest) n = from_made b n s (option_and_then (component d) (component_of d (b ++ n ∷ []))) (instances d b (suc n) rest) (from_instances d b rest (suc n))

-- a test at an address
abbrev Test : Type 0
Test = Spot → Head → Parts → Bool

other_item : (a at : List ℕ) → (number_of a ≡ number_of at → ⊥) → (x more : Bool) → ((if pointwise nat_eq a at then x else true) && more) ≡ more
other_item a at apart x more = by (pointwise nat_eq a at) refl
  where
    by : (t : Bool) → pointwise nat_eq a at ≡ t → ((if t then x else true) && more) ≡ more
    by true g = absurd (apart (ap number_of ((bytes_eq-Decides a at).0 g)))
    by false g = refl

none_there : (f : Test) (a : List ℕ) (n : ℕ) (spots : List Spot) (ps : Parts) → AreFrom n ps → number_of a < n → each_at f a spots ps ≡ true
none_there f a n spots no_parts from less = refl
none_there f a n [] (part at s h inside rest) from less = refl
none_there f a n (spot ∷ spots) (part at s h inside rest) from less =
    other_item a at (λ e. omega (arith, e, from.0, less)) (f spot h inside) (each_at f a spots rest)
    ∙ none_there f a (suc (number_of at)) spots rest from.1 (omega (arith, from.0, less))

-- an instance that is found by a name is one of these
named_from : (name : List ℕ) (n : ℕ) (ps : Parts) (i : Instance) → AreFrom n ps → named name ps ≡ Some i → n ≤ number_of i.at
named_from name n no_parts i from e = cc
named_from name n (part at s h inside rest) i from e = by (λ g. named_from name (suc (number_of at)) rest i from.1 g) (bytes_eq s.name name) e
  where
    by : (named name rest ≡ Some i → suc (number_of at) ≤ number_of i.at) → (t : Bool) → (if t then Some (record { at = at; head = h; inside = inside }) else named name rest) ≡ Some i → n ≤ number_of i.at
    by later true g = let same : ◌≡◌ {A = Instance} (record { at = at; head = h; inside = inside }) i = cc in subst (λ (x : Instance). n ≤ number_of x.at) same from.0
    by later false g = omega (arith, from.0, later g)

and_true : (b : Bool) → (b && true) ≡ b
and_true true = refl
and_true false = refl

-- ---- The first instance of a name: the one item at its address.

data Meets : List ℕ → List Spot → Parts → Type 0 where
  nowhere : {name : List ℕ} {spots : List Spot} {ps : Parts} → named name ps ≡ None → stand_named name spots ps ≡ None → Meets name spots ps
  unseen : {name : List ℕ} {spots : List Spot} {ps : Parts} (i : Instance) → named name ps ≡ Some i → stand_named name spots ps ≡ None → ((f : Test) → each_at f i.at spots ps ≡ true) → Meets name spots ps
  seen : {name : List ℕ} {spots : List Spot} {ps : Parts} (i : Instance) (spot : Spot) → named name ps ≡ Some i
      → stand_named name spots ps ≡ Some (record { spot = spot; head = i.head; inside = i.inside })
      → ((f : Test) → each_at f i.at spots ps ≡ f spot i.head i.inside) → Meets name spots ps

met_here : (name at : List ℕ) (s : Shell) (h : Head) (inside rest : Parts) (spot : Spot) (spots : List Spot) → AreFrom (suc (number_of at)) rest → bytes_eq s.name name ≡ true
    → Meets name (spot ∷ spots) (part at s h inside rest)
met_here name at s h inside rest spot spots from e =
    let i : Instance = record { at = at; head = h; inside = inside } in
    let here : Stand = record { spot = spot; head = h; inside = inside } in
    let same : pointwise nat_eq at at ≡ true = (bytes_eq-Decides at at).1 refl in
    seen i spot (ap (λ t. if t then Some i else named name rest) e) (ap (λ t. if t then Some here else stand_named name spots rest) e)
    (λ f. ap (λ t. (if t then f spot h inside else true) && each_at f at spots rest) same
    ∙ ap (λ m. f spot h inside && m) (none_there f at (suc (number_of at)) spots rest from (omega arith)) ∙ and_true (f spot h inside))

met_later : (name at : List ℕ) (s : Shell) (h : Head) (inside rest : Parts) (spot : Spot) (spots : List Spot) → AreFrom (suc (number_of at)) rest → bytes_eq s.name name ≡ false
    → Meets name spots rest → Meets name (spot ∷ spots) (part at s h inside rest)
met_later name at s h inside rest spot spots from e (nowhere a b) =
    nowhere (ap (λ t. if t then Some (record { at = at; head = h; inside = inside }) else named name rest) e ∙ a)
    (ap (λ t. if t then Some (record { spot = spot; head = h; inside = inside }) else stand_named name spots rest) e ∙ b)
met_later name at s h inside rest spot spots from e (unseen i a b c) =
    let behind = named_from name (suc (number_of at)) rest i from a in
    unseen i (ap (λ t. if t then Some (record { at = at; head = h; inside = inside }) else named name rest) e ∙ a)
    (ap (λ t. if t then Some (record { spot = spot; head = h; inside = inside }) else stand_named name spots rest) e ∙ b)
    (λ f. other_item i.at at (λ g. omega (arith, g, behind)) (f spot h inside) (each_at f i.at spots rest) ∙ c f)
met_later name at s h inside rest spot spots from e (seen i there a b c) =
    let behind = named_from name (suc (number_of at)) rest i from a in
    seen i there (ap (λ t. if t then Some (record { at = at; head = h; inside = inside }) else named name rest) e ∙ a)
    (ap (λ t. if t then Some (record { spot = spot; head = h; inside = inside }) else stand_named name spots rest) e ∙ b)
    (λ f. other_item i.at at (λ g. omega (arith, g, behind)) (f spot h inside) (each_at f i.at spots rest) ∙ c f)

meets : (name : List ℕ) (n : ℕ) (spots : List Spot) (ps : Parts) → AreFrom n ps → Meets name spots ps
meets name n spots no_parts from = nowhere refl refl
meets name n [] (part at s h inside rest) from = by (named name (part at s h inside rest)) refl
  where
    by : (o : Option Instance) → named name (part at s h inside rest) ≡ o → Meets name [] (part at s h inside rest)
    by None e = nowhere e refl
    by (Some i) e = unseen i e refl (λ f. refl)
meets name n (spot ∷ spots) (part at s h inside rest) from = by (bytes_eq s.name name) refl (meets name (suc (number_of at)) spots rest from.1)
  where
    by : (t : Bool) → bytes_eq s.name name ≡ t → Meets name spots rest → Meets name (spot ∷ spots) (part at s h inside rest)
    by true e later = met_here name at s h inside rest spot spots from.1 e
    by false e later = met_later name at s h inside rest spot spots from.1 e later

-- ---- Along a target.

passed_some : (name : List ℕ) (names : List (List ℕ)) (ps : Parts) → passed_by (name ∷ names) ps ≡ Some [] → ⊥
passed_some name [] ps e = by (named name ps) e
  where
    by : (o : Option Instance) → option_map (λ (i : Instance). i.at ∷ []) o ≡ Some [] → ⊥
    by None g = cc
    by (Some i) g = cc
passed_some name (next ∷ names) ps e = by (named name ps) e
  where
    more : (i : Instance) (o : Option (List (List ℕ))) → option_map (λ more. i.at ∷ more) o ≡ Some [] → ⊥
    more i None g = cc
    more i (Some path) g = cc

    by : (o : Option Instance) → option_and_then (λ (i : Instance). option_map (λ more. i.at ∷ more) (passed_by (next ∷ names) i.inside)) o ≡ Some [] → ⊥
    by None g = cc
    by (Some i) g = more i (passed_by (next ∷ names) i.inside) g

module _ (lay : Laying) (p : List ℕ) (v : Value) where
  -- an assignment along these items, if they are there
  abbrev is_harmless_if : Head → Parts → Option (List (List ℕ)) → Bool
  is_harmless_if h inside None = true
  is_harmless_if h inside (Some path) = is_harmless_along lay p v path elsewhere h inside

  -- at an instance that stands there
  on_from : (h : Head) (ps : Parts) (i : Instance) (spot : Spot) (path : Option (List (List ℕ))) → (path ≡ Some [] → ⊥)
      → ((f : Test) → each_at f i.at (spots_in lay h ps) ps ≡ f spot i.head i.inside)
      → is_harmless_if h ps (option_map (λ more. i.at ∷ more) path) ≡ is_harmless_if i.head i.inside path
  on_from h ps i spot None some f = refl
  on_from h ps i spot (Some []) some f = absurd (some refl)
  on_from h ps i spot (Some (a ∷ path)) some f = f (is_harmless_along lay p v (a ∷ path))

  nothing_from : (h : Head) (ps : Parts) (i : Instance) (path : Option (List (List ℕ))) → ((f : Test) → each_at f i.at (spots_in lay h ps) ps ≡ true)
      → is_harmless_if h ps (option_map (λ more. i.at ∷ more) path) ≡ true
  nothing_from h ps i None f = refl
  nothing_from h ps i (Some path) f = f (is_harmless_along lay p v path)

  -- one name
  last_name : (name : List ℕ) (h : Head) (ps : Parts) → Meets name (spots_in lay h ps) ps
      → is_harmless_if h ps (passed_by (name ∷ []) ps) ≡ is_end_fitting p v (end_in lay (name ∷ []) (spots_in lay h ps) ps)
  last_name name h ps (nowhere a b) = ap (λ o. is_harmless_if h ps (option_map (λ (i : Instance). i.at ∷ []) o)) a ∙ sym (ap (is_end_fitting p v) b)
  last_name name h ps (unseen i a b f) =
      ap (λ o. is_harmless_if h ps (option_map (λ (i : Instance). i.at ∷ []) o)) a ∙ f (is_harmless_along lay p v []) ∙ sym (ap (is_end_fitting p v) b)
  last_name name h ps (seen i spot a b f) =
      ap (λ o. is_harmless_if h ps (option_map (λ (i : Instance). i.at ∷ []) o)) a ∙ f (is_harmless_along lay p v []) ∙ sym (ap (is_end_fitting p v) b)

  module _ (next : List ℕ) (names : List (List ℕ)) where
    abbrev go : Option Instance → Option (List (List ℕ))
    go o = option_and_then (λ (i : Instance). option_map (λ more. i.at ∷ more) (passed_by (next ∷ names) i.inside)) o

    abbrev end_from : Option Stand → Option Stand
    end_from o = option_and_then (λ (e : Stand). end_in lay (next ∷ names) (spots_in lay e.head e.inside) e.inside) o

    more_names : (name : List ℕ) (h : Head) (ps : Parts) → Meets name (spots_in lay h ps) ps
        → ((i : Instance) → named name ps ≡ Some i → is_harmless_if i.head i.inside (passed_by (next ∷ names) i.inside) ≡ is_end_fitting p v (end_in lay (next ∷ names) (spots_in lay i.head i.inside) i.inside))
        → is_harmless_if h ps (passed_by (name ∷ next ∷ names) ps) ≡ is_end_fitting p v (end_in lay (name ∷ next ∷ names) (spots_in lay h ps) ps)
    more_names name h ps (nowhere a b) deeper = ap (λ o. is_harmless_if h ps (go o)) a ∙ sym (ap (λ o. is_end_fitting p v (end_from o)) b)
    more_names name h ps (unseen i a b f) deeper =
        ap (λ o. is_harmless_if h ps (go o)) a ∙ nothing_from h ps i (passed_by (next ∷ names) i.inside) f ∙ sym (ap (λ o. is_end_fitting p v (end_from o)) b)
    more_names name h ps (seen i spot a b f) deeper =
        ap (λ o. is_harmless_if h ps (go o)) a ∙ on_from h ps i spot (passed_by (next ∷ names) i.inside) (passed_some next names i.inside) f
        ∙ deeper i a ∙ sym (ap (λ o. is_end_fitting p v (end_from o)) b)

  module _ (d : Items) where
    meets_in : (name b : List ℕ) (c : Made) → component d b ≡ Some c → Meets name (spots_in lay c.head c.parts) c.parts
    meets_in name b c holds =
        meets name 0 (spots_in lay c.head c.parts) c.parts (subst (AreFrom 0) (sym (as_found d b c holds).parts) (from_instances d b c.head.body 0))

    along_names : (names : List (List ℕ)) (b : List ℕ) (c : Made) → component d b ≡ Some c
        → is_harmless_if c.head c.parts (passed_by names c.parts) ≡ is_end_fitting p v (end_in lay names (spots_in lay c.head c.parts) c.parts)
    along_names [] b c holds = refl
    along_names (name ∷ []) b c holds = last_name name c.head c.parts (meets_in name b c holds)
    along_names (name ∷ next ∷ names) b c holds =
        more_names next names name c.head c.parts (meets_in name b c holds)
        (λ i e. let one = one_named d b name c.parts i (parts-found d b c holds) e in along_names (next ∷ names) i.head.at (record { head = i.head; parts = i.inside }) one.made)

    of_target : (b : List ℕ) (c : Made) → component d b ≡ Some c → (n : ℕ) (t : List (List ℕ))
        → is_harmless_if c.head c.parts (target_in c.parts n t) ≡ is_item_fitting lay c.head c.parts n (dynamic t p v)
    of_target b c holds n t = by (is_before n (first_named t c.parts))
      where
        by : (z : Bool) → is_harmless_if c.head c.parts (if z then passed_by t c.parts else None) ≡ (if z then is_end_fitting p v (end_in lay t (spots_in lay c.head c.parts) c.parts) else true)
        by true = along_names t b c holds
        by false = refl

  with_path_harmless : (h : Head) (inside : Parts) (o : Option (List (List ℕ))) (more : List Reach)
      → are_harmless lay h inside (with_path o p v more) ≡ (is_harmless_if h inside o && are_harmless lay h inside more)
  with_path_harmless h inside None more = refl
  with_path_harmless h inside (Some path) more = refl

module _ (lay : Laying) (d : Items) (b : List ℕ) (c : Made) (holds : component d b ≡ Some c) where
  of_items : (n : ℕ) (t : Items) → are_harmless lay c.head c.parts (reaches_by (target_in c.parts) n t) ≡ are_items_fitting lay c.head c.parts n t
  of_items n no_items = refl
  of_items n (plain (named_item s t) rest) = of_items (suc n) rest
  of_items n (plain (own p v) rest) = of_items (suc n) rest
  of_items n (plain (default p v) rest) = of_items (suc n) rest
  of_items n (plain (dynamic t p v) rest) =
      with_path_harmless lay p v c.head c.parts (target_in c.parts n t) (reaches_by (target_in c.parts) (suc n) rest)
      ∙ (λ i. of_target lay p v d b c holds n t i && of_items (suc n) rest i)
  of_items n (holder h body rest) = of_items (suc n) rest

pub fitting_harmless : FittingIsHarmless
fitting_harmless lay d a c holds = of_items lay d a c holds 0 c.head.body
