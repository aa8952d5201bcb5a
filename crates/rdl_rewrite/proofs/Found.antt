-- What a search for a type or along a target finds has the name that was looked for.
use Rattle.std.proofs.Common.{◌≡◌, ℕ, zero, suc, Bool, true, false, cond, ◌||◌, ◌&&◌, List, [], ◌∷◌, ◌++◌, Some, None, Option, refl, ap, sym, ◌∙◌, option_map}
use Rattle.std.proofs.lemmas.Slice.Eq.{bytes_eq-Decides}
use Rattle.std.specs.Prelude.{slice_get, option_and_then, is_some}
use Rattle.std.specs.Option.{option_or}
use Rattle.std.specs.List.{list_any}
use Rattle.rdl_tree.specs.ItemAt.{item_at}
use Rattle.rdl_tree.specs.Items.{Items}
use Rattle.rdl_tree.specs.View.{list_of}
use Rattle.rdl_tree.specs.Address.{inner, body_at, holder_of}
use Rattle.rdl_tree.specs.Address as address
use Rattle.rdl_tree.specs.declared.value.Value.{Value}
use Rattle.rdl_tree.specs.declared.description.Component.{Component}
use Rattle.rdl_tree.specs.declared.description.Item.{Item}
use Rattle.rdl_tree.specs.declared.description.Item.TheVariants.{Define, Instance, Own, Default, Dynamic}
use Rattle.rdl_tree.specs.declared.description.Of.TheVariants.{Named, Anonymous}
use Rattle.rdl_scope.specs.Types.{last_definition, type_at, type_of, held_by, component_of, items_in}
use Rattle.rdl_scope.specs.Target.{instance_before, instance_in, passes, number_of, through, through_of}
use Rattle.rdl_scope.specs.Walk.{is_definition, is_instance, reference_of}
use Rattle.rdl_scope.proofs.Bodies.{body_of-take, number_of-last}
use Rattle.rdl_scope.proofs.Instances.{instance-suc}
use Rattle.rdl_scope.proofs.Levelled.{item-deeper}
use Rattle.rdl_scope.proofs.Searches.{last-suc, type_of-reference}
use Rattle.rdl_rewrite.specs.Addresses.{same, leads_to, passes_by}
use Rattle.rdl_rewrite.specs.Passed.{may_hold, may_pass, passes_from, if_passed}
use Rattle.rdl_rewrite.proofs.Leading.{holder-inside, number-inside}

-- an address where a test holds is none where it fails
same-apart : (p : List ℕ → Bool) (at way : List ℕ) → p at ≡ true → p way ≡ false → same at way ≡ false
same-apart p at way holds fails = by_case (same at way) refl
  where
    by_case : (b : Bool) → same at way ≡ b → b ≡ false
    by_case false e = refl
    by_case true e =
        let one : at ≡ way = (bytes_eq-Decides at way).0 e in
        sym holds ∙ ap p one ∙ fails

pub or-false : (x y : Bool) → (x || y) ≡ false → (x ≡ false) × (y ≡ false)
or-false true y e = cc
or-false false y e = (refl, e)

pub or-both : (x y : Bool) → x ≡ false → y ≡ false → (x || y) ≡ false
or-both x y e f = ap (λ z. z || y) e ∙ f

-- ---- Types.

defined-last : (name : List ℕ) (n : ℕ) (t : Items) (k : ℕ) → last_definition name n t ≡ Some k → is_definition name (slice_get (list_of t) k) ≡ true
defined-last name zero t k e = cc
defined-last name (suc n) t k e = by_case (defined-last name n t k) (is_definition name (slice_get (list_of t) n)) refl (sym (last-suc name n t) ∙ e)
  where
    by_case : (last_definition name n t ≡ Some k → is_definition name (slice_get (list_of t) k) ≡ true) → (b : Bool) → is_definition name (slice_get (list_of t) n) ≡ b
        → cond b (Some n) (last_definition name n t) ≡ Some k → is_definition name (slice_get (list_of t) k) ≡ true
    by_case ih true g h = let one : k ≡ n = cc in ap (λ i. is_definition name (slice_get (list_of t) i)) one ∙ g
    by_case ih false g h = ih h

-- an address that goes on inside an item
definition-inside : (name : List ℕ) (i : ℕ) (a : List ℕ) (t b : Items) → inner i t ≡ Some b → is_definition name (item_at a b) ≡ true → is_definition name (item_at (i ∷ a) t) ≡ true
definition-inside name i [] t b g e = cc
definition-inside name i (k ∷ a) t b g e = ap (λ o. is_definition name (option_and_then (item_at (k ∷ a)) o)) g ∙ e

definition-type_at : (path : List ℕ) (t : Items) (name a : List ℕ) → type_at path t name ≡ Some a → is_definition name (item_at a t) ≡ true
definition-type_at [] t name a e = cc
definition-type_at (i ∷ path) t name a e = within (λ b. definition-type_at path b name) (inner i t) refl e
  where
    here : (o : Option ℕ) → last_definition name i t ≡ o → option_map (λ k. k ∷ []) o ≡ Some a → is_definition name (item_at a t) ≡ true
    here None g h = cc
    here (Some k) g h = let one : a ≡ k ∷ [] = cc in ap (λ x. is_definition name (item_at x t)) one ∙ defined-last name i t k g

    deeper : (b : Items) → inner i t ≡ Some b → (o : Option (List ℕ)) → ((x : List ℕ) → o ≡ Some x → is_definition name (item_at x b) ≡ true)
        → option_or (option_map (λ x. i ∷ x) o) (option_map (λ k. k ∷ []) (last_definition name i t)) ≡ Some a → is_definition name (item_at a t) ≡ true
    deeper b g None f h = here (last_definition name i t) refl h
    deeper b g (Some x) f h = let one : a ≡ i ∷ x = cc in ap (λ y. is_definition name (item_at y t)) one ∙ definition-inside name i x t b g (f x refl)

    within : ((b : Items) (x : List ℕ) → type_at path b name ≡ Some x → is_definition name (item_at x b) ≡ true) → (o : Option Items) → inner i t ≡ o
        → option_or (option_map (λ x. i ∷ x) (option_and_then (λ b. type_at path b name) o)) (option_map (λ k. k ∷ []) (last_definition name i t)) ≡ Some a
        → is_definition name (item_at a t) ≡ true
    within ih None g h = here (last_definition name i t) refl h
    within ih (Some b) g h = deeper b g (type_at path b name) (ih b) h

-- no reference to a name leads to what isn't a definition of it
pub unled-name : (d : Items) (way at t : List ℕ) → is_definition t (item_at way d) ≡ false → leads_to way (type_at at d t) ≡ false
unled-name d way at t fails = by_case (type_at at d t) refl
  where
    by_case : (o : Option (List ℕ)) → type_at at d t ≡ o → leads_to way o ≡ false
    by_case None g = refl
    by_case (Some a) g = same-apart (λ y. is_definition t (item_at y d)) a way (definition-type_at at d t a g) fails

-- none leads to what isn't a definition
pub unused : (d : Items) (way : List ℕ) (o : Option Item) (places : List (List ℕ)) → o ≡ item_at way d → ((t : List ℕ) → is_definition t o ≡ false) → list_any (λ a. leads_to way (type_of d a)) places ≡ false
unused d way o [] e fails = refl
unused d way o (at ∷ places) e fails = or-both _ _ (ap (leads_to way) (type_of-reference d at) ∙ by_case (option_and_then reference_of (item_at at d))) (unused d way o places e fails)
  where
    by_case : (r : Option (List ℕ)) → leads_to way (option_and_then (type_at at d) r) ≡ false
    by_case None = refl
    by_case (Some t) = unled-name d way at t (ap (is_definition t) (sym e) ∙ fails t)

pub undefined : (x : Item) → ((n : List ℕ) (c : Component) → x ≡ Define n c → ⊥) → (t : List ℕ) → is_definition t (Some x) ≡ false
undefined (Define n c) h t = absurd (h n c refl)
undefined (Instance s o) h t = refl
undefined (Own p v) h t = refl
undefined (Default p v) h t = refl
undefined (Dynamic m p v) h t = refl

-- ---- Targets.

instance-before : (name : List ℕ) (n : ℕ) (t : Items) (k : ℕ) → instance_before name n t ≡ Some k → is_instance name (slice_get (list_of t) k) ≡ true
instance-before name zero t k e = cc
instance-before name (suc n) t k e =
    by_case (instance-before name n t k) (instance_before name n t) refl (is_instance name (slice_get (list_of t) n)) refl (sym (instance-suc name n t) ∙ e)
  where
    by_case : (instance_before name n t ≡ Some k → is_instance name (slice_get (list_of t) k) ≡ true) → (o : Option ℕ) → instance_before name n t ≡ o
        → (b : Bool) → is_instance name (slice_get (list_of t) n) ≡ b → option_or o (cond b (Some n) None) ≡ Some k → is_instance name (slice_get (list_of t) k) ≡ true
    by_case ih (Some j) f b g h = ih (f ∙ h)
    by_case ih None f true g h = let one : k ≡ n = cc in ap (λ i. is_instance name (slice_get (list_of t) i)) one ∙ g
    by_case ih None f false g h = cc

instance-in : (d : Items) (b : List ℕ) (n : ℕ) (name a : List ℕ) → instance_in d b n name ≡ Some a → is_instance name (item_at a d) ≡ true
instance-in d b n name a e = by_body (body_at b d) refl e
  where
    by_number : (t : Items) → body_at b d ≡ Some t → (o : Option ℕ) → instance_before name n t ≡ o → option_map (λ k. b ++ k ∷ []) o ≡ Some a → is_instance name (item_at a d) ≡ true
    by_number t f None g h = cc
    by_number t f (Some k) g h =
        let one : a ≡ b ++ k ∷ [] = cc in
        ap (λ x. is_instance name (item_at x d)) one ∙ ap (is_instance name) (item-deeper b k d t f) ∙ instance-before name n t k g

    by_body : (o : Option Items) → body_at b d ≡ o → option_map (λ k. b ++ k ∷ []) (option_and_then (instance_before name n) o) ≡ Some a → is_instance name (item_at a d) ≡ true
    by_body None f h = cc
    by_body (Some t) f h = by_number t f (instance_before name n t) refl h

instance-body : (d : Items) (b : List ℕ) (n : ℕ) (name a : List ℕ) → instance_in d b n name ≡ Some a → holder_of a ≡ b
instance-body d b n name a e = by_case (option_and_then (instance_before name n) (body_at b d)) e
  where
    by_case : (o : Option ℕ) → option_map (λ k. b ++ k ∷ []) o ≡ Some a → holder_of a ≡ b
    by_case None h = cc
    by_case (Some k) h = let one : a ≡ b ++ k ∷ [] = cc in ap holder_of one ∙ holder-inside b k

-- the first name does not stand for the item on the way
unpassed-first : (d : Items) (way b : List ℕ) (n : ℕ) (inside : Bool) (name a : List ℕ) → (same b (holder_of way) ≡ true → inside ≡ true) → (inside && is_instance name (item_at way d)) ≡ false
    → instance_in d b n name ≡ Some a → same a way ≡ false
unpassed-first d way b n inside name a stands fails g = by_case (same a way) refl
  where
    by_case : (r : Bool) → same a way ≡ r → r ≡ false
    by_case false e = refl
    by_case true e =
        let one : a ≡ way = (bytes_eq-Decides a way).0 e in
        let named : is_instance name (item_at way d) ≡ true = ap (λ x. is_instance name (item_at x d)) (sym one) ∙ instance-in d b n name a g in
        let body : b ≡ holder_of way = sym (instance-body d b n name a g) ∙ ap holder_of one in
        let here : inside ≡ true = stands ((bytes_eq-Decides b (holder_of way)).1 body) in
        sym (ap (λ z. z && is_instance name (item_at way d)) here ∙ named) ∙ fails

definition-may_hold : (o : Option Item) (t name : List ℕ) → is_definition t o ≡ true → may_hold o name ≡ true
definition-may_hold None t name e = cc
definition-may_hold (Some (Define n c)) t name e = refl
definition-may_hold (Some (Instance s o)) t name e = cc
definition-may_hold (Some (Own p v)) t name e = cc
definition-may_hold (Some (Default p v)) t name e = cc
definition-may_hold (Some (Dynamic m p v)) t name e = cc

-- the item that holds the component of an instance may hold one of that name
holder-may_hold : (d : Items) (a c name : List ℕ) (o : Option Item) → item_at a d ≡ o → is_instance name o ≡ true → option_and_then (held_by d a) o ≡ Some c → may_hold (item_at c d) name ≡ true
holder-may_hold d a c name None e named holds = cc
holder-may_hold d a c name (Some (Define n k)) e named holds = cc
holder-may_hold d a c name (Some (Instance s (Named t))) e named holds = definition-may_hold (item_at c d) t name (definition-type_at a d t c holds)
holder-may_hold d a c name (Some (Instance s (Anonymous k))) e named holds =
    let one : a ≡ c = cc in
    ap (λ o. may_hold o name) (ap (λ x. item_at x d) (sym one) ∙ e) ∙ named
holder-may_hold d a c name (Some (Own p v)) e named holds = cc
holder-may_hold d a c name (Some (Default p v)) e named holds = cc
holder-may_hold d a c name (Some (Dynamic m p v)) e named holds = cc

unpassed-next : (d : Items) (way b : List ℕ) (n : ℕ) (name a c : List ℕ) → instance_in d b n name ≡ Some a → component_of d a ≡ Some c → same c (holder_of way) ≡ true → may_hold (item_at (holder_of way) d) name ≡ true
unpassed-next d way b n name a c g holds stands =
    ap (λ x. may_hold (item_at x d) name) (sym ((bytes_eq-Decides c (holder_of way)).0 stands)) ∙ holder-may_hold d a c name (item_at a d) refl (instance-in d b n name a g) holds

-- names that may not pass it don't
pub unpassed-names : (d : Items) (way b : List ℕ) (n : ℕ) (inside : Bool) (names : List (List ℕ)) → (same b (holder_of way) ≡ true → inside ≡ true) → may_pass (item_at way d) (item_at (holder_of way) d) inside names ≡ false
    → passes_by way (passes d b n names) ≡ false
unpassed-names d way b n inside [] stands e = refl
unpassed-names d way b n inside (name ∷ []) stands e = by_case (instance_in d b n name) refl
  where
    by_case : (o : Option (List ℕ)) → instance_in d b n name ≡ o → passes_by way (option_map (λ a. a ∷ []) o) ≡ false
    by_case None g = refl
    by_case (Some a) g = or-both (same a way) false (unpassed-first d way b n inside name a stands (or-false (inside && is_instance name (item_at way d)) false e).0 g) refl
unpassed-names d way b n inside (name ∷ next ∷ names) stands e =
    by_case (λ c m held. unpassed-names d way c m (may_hold (item_at (holder_of way) d) name) (next ∷ names) held others) (instance_in d b n name) refl
  where
    others : may_pass (item_at way d) (item_at (holder_of way) d) (may_hold (item_at (holder_of way) d) name) (next ∷ names) ≡ false
    others = (or-false (inside && is_instance name (item_at way d)) _ e).1

    more : (a : List ℕ) → same a way ≡ false → (o : Option (List (List ℕ))) → passes_by way o ≡ false → passes_by way (option_map (λ path. a ∷ path) o) ≡ false
    more a f None g = refl
    more a f (Some path) g = or-both (same a way) _ f g

    below : (a : List ℕ) → instance_in d b n name ≡ Some a → ((c : List ℕ) (m : ℕ) → (same c (holder_of way) ≡ true → may_hold (item_at (holder_of way) d) name ≡ true) → passes_by way (passes d c m (next ∷ names)) ≡ false)
        → (o : Option (List ℕ)) → component_of d a ≡ o → passes_by way (option_and_then (λ c. passes d c (items_in c d) (next ∷ names)) o) ≡ false
    below a g ih None h = refl
    below a g ih (Some c) h = ih c (items_in c d) (unpassed-next d way b n name a c g h)

    by_case : ((c : List ℕ) (m : ℕ) → (same c (holder_of way) ≡ true → may_hold (item_at (holder_of way) d) name ≡ true) → passes_by way (passes d c m (next ∷ names)) ≡ false) → (o : Option (List ℕ)) → instance_in d b n name ≡ o
        → passes_by way (option_and_then (λ a. option_map (λ path. a ∷ path) (option_and_then (λ c. passes d c (items_in c d) (next ∷ names)) (component_of d a))) o) ≡ false
    by_case ih None g = refl
    by_case ih (Some a) g =
        more a (unpassed-first d way b n inside name a stands (or-false (inside && is_instance name (item_at way d)) _ e).0 g)
        (option_and_then (λ c. passes d c (items_in c d) (next ∷ names)) (component_of d a)) (below a g ih (component_of d a) refl)

-- nor does an instance elsewhere, whose other names may not pass it
pub unpassed_from : (d : Items) (way a : List ℕ) (inside : Bool) (names : List (List ℕ)) → same a way ≡ false → inside ≡ leads_to (holder_of way) (component_of d a)
    → may_pass (item_at way d) (item_at (holder_of way) d) inside names ≡ false → passes_by way (passes_from d a names) ≡ false
unpassed_from d way a inside [] apart within e = or-both (same a way) false apart refl
unpassed_from d way a inside (next ∷ names) apart within e = more (option_and_then (λ c. passes d c (items_in c d) (next ∷ names)) (component_of d a)) (below (component_of d a) within)
  where
    more : (o : Option (List (List ℕ))) → passes_by way o ≡ false → passes_by way (option_map (λ path. a ∷ path) o) ≡ false
    more None g = refl
    more (Some path) g = or-both (same a way) _ apart g

    below : (o : Option (List ℕ)) → inside ≡ leads_to (holder_of way) o → passes_by way (option_and_then (λ c. passes d c (items_in c d) (next ∷ names)) o) ≡ false
    below None h = refl
    below (Some c) h = unpassed-names d way c (items_in c d) inside (next ∷ names) (λ stands. h ∙ stands) e

-- the names, from the first on
pub passes-first : (d : Items) (b : List ℕ) (n : ℕ) (name : List ℕ) (names : List (List ℕ)) → passes d b n (name ∷ names) ≡ option_and_then (λ a. passes_from d a names) (instance_in d b n name)
passes-first d b n name [] = by_case (instance_in d b n name)
  where
    by_case : (o : Option (List ℕ)) → option_map (λ a. a ∷ []) o ≡ option_and_then (λ a. Some (a ∷ [])) o
    by_case None = refl
    by_case (Some a) = refl
passes-first d b n name (next ∷ names) = refl

-- what the target of the assignment at an address passes
pub through-passes : (d : Items) (at : List ℕ) (x : Item) (t : List (List ℕ)) (p : List ℕ) (v : Value) → item_at at d ≡ Some x → x ≡ Dynamic t p v → through d at ≡ passes d (holder_of at) (address.number_of at) t
through-passes d at x t p v e is =
    ap (option_and_then (through_of d at)) (e ∙ ap Some is) ∙ ap (λ b. passes d b (number_of at) t) (body_of-take at) ∙ ap (λ n. passes d (holder_of at) n t) (number_of-last at)

-- the same by the body and the number
pub through-inside : (d : Items) (b : List ℕ) (n : ℕ) (x : Item) (t : List (List ℕ)) (p : List ℕ) (v : Value) → item_at (b ++ n ∷ []) d ≡ Some x → x ≡ Dynamic t p v → through d (b ++ n ∷ []) ≡ passes d b n t
through-inside d b n x t p v e is =
    through-passes d (b ++ n ∷ []) x t p v e is ∙ ap (λ c. passes d c (address.number_of (b ++ n ∷ [])) t) (holder-inside b n) ∙ ap (λ k. passes d b k t) (number-inside b n)

-- ---- A path that passes the item on the way.

pub none_passed : (way : List ℕ) (o : Option (List (List ℕ))) → passes_by way o ≡ false → None ≡ if_passed way o
none_passed way o e = sym (ap (λ b. cond b o None) e)

pub some_passed : (way : List ℕ) (o : Option (List (List ℕ))) → is_some (if_passed way o) ≡ passes_by way o
some_passed way None = refl
some_passed way (Some path) = by_case (passes_by way (Some path))
  where
    by_case : (b : Bool) → is_some (cond b (Some path) None) ≡ b
    by_case true = refl
    by_case false = refl

pub leads-some : (way : List ℕ) (o : Option (List ℕ)) → leads_to way o ≡ true → o ≡ Some way
leads-some way None e = cc
leads-some way (Some a) e = ap Some ((bytes_eq-Decides a way).0 e)

pub some-map : {X Y : Type 0} (f : X → Y) (o : Option X) → is_some (option_map f o) ≡ is_some o
some-map f None = refl
some-map f (Some x) = refl
