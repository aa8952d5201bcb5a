-- A renaming leaves the skeleton as it was: each reference leads where it led.
use Rattle.std.proofs.Common.{◌≡◌, ℕ, zero, suc, ◌+◌, Bool, ◌||◌, true, false, List, [], ◌∷◌, ◌++◌, map, length, Option, Some, None, Ok, Err, refl, ap, sym, ◌∙◌, arith, ◌⊎◌, inl, inr, append_assoc}
use Rattle.std.specs.Prelude.{bytes_eq, slice_get, option_and_then, option_map, if◌then◌else◌}
use Rattle.std.specs.Option.{is_some}
use Rattle.std.proofs.lemmas.Bool.{cases_Bool}
use Rattle.std.proofs.lemmas.List.Folds.{list_any-append}
use Rattle.std.proofs.lemmas.Slice.Eq.{bytes_eq-Decides}
use Rattle.rdl_tree.specs.ItemAt.{item_at}
use Rattle.rdl_tree.specs.Items.{Items, no_items, plain, holder, Plain, named, own, default, dynamic, Holder, define, anonymous}
use Rattle.rdl_tree.specs.View.{list_of, own_body}
use Rattle.rdl_tree.specs.Address.{inner, body_at}
use Rattle.rdl_tree.specs.Component.{own_component}
use Rattle.rdl_tree.specs.declared.shell.Kind.{Kind}
use Rattle.rdl_tree.specs.declared.shell.Shell.{Shell}
use Rattle.rdl_tree.specs.declared.description.Component.{Component}
use Rattle.rdl_tree.specs.declared.description.Item.{Item}
use Rattle.rdl_tree.specs.declared.description.Item.TheVariants.{Define, Instance, Own, Default, Dynamic}
use Rattle.rdl_tree.specs.declared.description.Of.{Of}
use Rattle.rdl_tree.specs.declared.description.Of.TheVariants.{Named, Anonymous}
use Rattle.rdl_tree.proofs.Rounds.{inner-slice_get}
use Rattle.rdl_scope.specs.Types.{type_at, type_from, type_of, held_by, component_of, component_at}
use Rattle.rdl_scope.specs.ItemFaults.{item_fault, instance_fault, instance_kind, kind_at, fault_of}
use Rattle.rdl_scope.specs.Closed.{Made, Standing, nothing, lookup, with_type, head_at, parts, after_plain, after_holder, before, standing_at, component}
use Rattle.rdl_scope.proofs.Accepted.{clear-root, clear-inside}
use Rattle.rdl_scope.proofs.AsFound.{as_found}
use Rattle.rdl_scope.proofs.Holds.{holds}
use Rattle.rdl_scope.proofs.StandingBefore.{type_at-some, lookup-component}
use Rattle.rdl_rewrite.specs.Addresses.{same, leads_to}
use Rattle.rdl_rewrite.specs.Names.{holder_names, defined_names, has_name}
use Rattle.rdl_rewrite.specs.declared.edit.PatchRefusal.TheVariants.{NameTaken, Reserved}
use Rattle.rdl_rewrite.specs.Renaming.{renamed_shell, renamed_items, is_taken, is_reserved, renamed}
use Rattle.rdl_reach.specs.EditedBodies.{lays_out}
use Rattle.rdl_reach.specs.Skeleton.{skeleton_shell, number_in, skeleton_type, skeleton_in, skeleton}
use Rattle.rdl_elab.proofs.PartsFound.{item-here}
use Rattle.rdl_scope.proofs.Levelled.{body-deeper}

-- the names of the types that stand before an item
abbrev names : {X : Type 0} → List (List ℕ × X) → List (List ℕ)
names ts = map (λ t. t.0) ts

-- ---- A component has a body.

own-held : (x : Item) (c : Component) → own_component x ≡ Some c → own_body x ≡ Some c.body
own-held (Define n d) c e = let same : d ≡ c = cc in ap (λ (z : Component). Some z.body) same
own-held (Instance s (Named t)) c e = cc
own-held (Instance s (Anonymous d)) c e = let same : d ≡ c = cc in ap (λ (z : Component). Some z.body) same
own-held (Own p v) c e = cc
own-held (Default p v) c e = cc
own-held (Dynamic t p v) c e = cc

held-body : (a : List ℕ) (t : Items) (c : Component) → option_and_then own_component (item_at a t) ≡ Some c → body_at a t ≡ Some c.body
held-body [] t c e = cc
held-body (k ∷ []) t c e = ap (option_and_then (body_at [])) (inner-slice_get k t) ∙ by (slice_get (list_of t) k) e
  where
    by : (o : Option Item) → option_and_then own_component o ≡ Some c → option_and_then (body_at []) (option_and_then own_body o) ≡ Some c.body
    by None e = cc
    by (Some x) e = ap (option_and_then (body_at [])) (own-held x c e)
held-body (k ∷ j ∷ a) t c e = by (inner k t) (λ u. held-body (j ∷ a) u c) e
  where
    by : (o : Option Items) → ((u : Items) → option_and_then own_component (item_at (j ∷ a) u) ≡ Some c → body_at (j ∷ a) u ≡ Some c.body)
        → option_and_then own_component (option_and_then (item_at (j ∷ a)) o) ≡ Some c → option_and_then (body_at (j ∷ a)) o ≡ Some c.body
    by None ih e = cc
    by (Some u) ih e = ih u e

-- ---- In a description without a fault a reference leads to a component.

module _ (d : Items) (accepted : fault_of d ≡ None) where
  kind-there : (around : Option Kind) (b : List ℕ) (body : Items) (n : ℕ) (s : Shell) (o : Of) → item_fault d around b body n (Instance s o) ≡ None → is_some (instance_kind d (b ++ n ∷ [])) ≡ true
  unfolding item_fault instance_fault
  kind-there around b body n s o e = by _ (instance_kind d (b ++ n ∷ [])) e
    where
      by : (twice : Bool) (k : Option Kind) → instance_fault around twice s k ≡ None → is_some k ≡ true
      by true None e = cc
      by false None e = cc
      by twice (Some k) e = refl

  of-body : (b : List ℕ) (body : Items) (n : ℕ) (s : Shell) (o : Of) → body_at b d ≡ Some body → slice_get (list_of body) n ≡ Some (Instance s o) → is_some (instance_kind d (b ++ n ∷ [])) ≡ true
  of-body [] body n s o held is =
      let same : d ≡ body = cc in
      kind-there None [] d n s o (clear-root d n (Instance s o) accepted (ap (λ t. slice_get (list_of t) n) same ∙ is))
  of-body (i ∷ a) body n s o held is = by (component d (i ∷ a)) refl (holds d i a ∙ ap is_some held)
    where
      by : (m : Option Made) → component d (i ∷ a) ≡ m → is_some (component d (i ∷ a)) ≡ true → is_some (instance_kind d ((i ∷ a) ++ n ∷ [])) ≡ true
      by None e f = let no : false ≡ true = sym (ap is_some e) ∙ f in cc
      by (Some m) e f =
          let g = as_found d (i ∷ a) m e in
          let bodies : Some m.head.body ≡ Some body = sym g.body ∙ held in
          let same : m.head.body ≡ body = cc in
          let c : Component = record { kind = m.head.kind; body = m.head.body } in
          kind-there (Some c.kind) (i ∷ a) c.body n s o (clear-inside d (i ∷ a) c n (Instance s o) accepted g.component (ap (λ t. slice_get (list_of t) n) same ∙ is))

  -- it is the definition to which the search leads
  record LeadsTo (at t : List ℕ) (types : List (List ℕ × Made)) : Type 0 where
    made : Made
    stands : lookup t types ≡ Some made
    search : type_at at d t ≡ Some made.head.at

  kind-held : (c : List ℕ) → is_some (kind_at d c) ≡ true → (x : Component) × (component_at d c ≡ Some x)
  kind-held c e = by (component_at d c) refl e
    where
      by : (o : Option Component) → component_at d c ≡ o → is_some (option_map (λ (k : Component). k.kind) o) ≡ true → (x : Component) × (component_at d c ≡ Some x)
      by None is e = cc
      by (Some x) is e = (x, is)

  made-there : (c : List ℕ) (x : Component) → (c ≡ [] → ⊥) → component_at d c ≡ Some x → (m : Made) × (component d c ≡ Some m)
  made-there [] x some e = absurd (some refl)
  made-there (i ∷ a) x some e = by (component d (i ∷ a)) refl (holds d i a ∙ ap is_some (held-body (i ∷ a) d x e))
    where
      by : (m : Option Made) → component d (i ∷ a) ≡ m → is_some (component d (i ∷ a)) ≡ true → (m : Made) × (component d (i ∷ a) ≡ Some m)
      by None e f = let no : false ≡ true = sym (ap is_some e) ∙ f in cc
      by (Some m) e f = (m, e)

  leads : (b : List ℕ) (n : ℕ) (body : Items) (s : Shell) (t : List ℕ) (f : Standing) → body_at b d ≡ Some body → slice_get (list_of body) n ≡ Some (Instance s (Named t))
      → standing_at nothing [] (b ++ n ∷ []) d ≡ Some f → LeadsTo (b ++ n ∷ []) t f.types
  leads b n body s t f held is stands = by (type_at (b ++ n ∷ []) d t) refl (sym (ap (λ o. is_some (option_and_then (kind_at d) o)) of_is) ∙ of-body b body n s (Named t) held is)
    where
      of_is : component_of d (b ++ n ∷ []) ≡ type_at (b ++ n ∷ []) d t
      of_is = ap (option_and_then (λ x. held_by d (b ++ n ∷ []) x)) (item-here b d body n held ∙ is)

      by : (o : Option (List ℕ)) → type_at (b ++ n ∷ []) d t ≡ o → is_some (option_and_then (kind_at d) o) ≡ true → LeadsTo (b ++ n ∷ []) t f.types
      by None e h = cc
      by (Some c) e h =
          let x = kind-held c h in
          let m = made-there c x.0 (λ none. type_at-some (b ++ n ∷ []) d t (e ∙ ap Some none)) x.1 in
          record {
            made = m.0;
            stands = lookup-component t (b ++ n ∷ []) d f stands ∙ ap (option_and_then (component d)) e ∙ m.1;
            search = e ∙ ap Some (sym (as_found d c m.0 m.1).place);
          }

-- ---- Types in scope.

module _ (way name : List ℕ) where
  abbrev pub new_name : List ℕ × Made → List ℕ
  new_name x = if same x.1.head.at way then name else x.0

  abbrev pub new_names : List (List ℕ × Made) → List (List ℕ)
  new_names ts = map new_name ts

  length-new : (ts : List (List ℕ × Made)) → length (new_names ts) ≡ length (names ts)
  length-new [] = refl
  length-new (x ∷ ts) = omega (arith, length-new ts)

  -- none of them is the item that gets the name
  abbrev OthersOnly : List (List ℕ × Made) → Type 0
  OthersOnly [] = Unit {0}
  OthersOnly (x ∷ ts) = (same x.1.head.at way ≡ false) × OthersOnly ts

  others-keep : (ts : List (List ℕ × Made)) → OthersOnly ts → new_names ts ≡ names ts
  others-keep [] h = refl
  others-keep (x ∷ ts) h = λ i. (if h.0 i then name else x.0) ∷ others-keep ts h.1 i

  other-found : (t : List ℕ) (ts : List (List ℕ × Made)) (m : Made) → OthersOnly ts → lookup t ts ≡ Some m → same m.head.at way ≡ false
  other-found t [] m h e = cc
  other-found t (x ∷ ts) m h e = by (bytes_eq x.0 t) (other-found t ts m h.1) e
    where
      by : (b : Bool) → (lookup t ts ≡ Some m → same m.head.at way ≡ false) → (if b then Some x.1 else lookup t ts) ≡ Some m → same m.head.at way ≡ false
      by true ih e = let is : x.1 ≡ m = cc in ap (λ (z : Made). same z.head.at way) (sym is) ∙ h.0
      by false ih e = ih e

  -- none of them has the new name, and of the item that gets it each has the old one
  abbrev pub HaveOldNames : List ℕ → List (List ℕ × Made) → Type 0
  HaveOldNames was [] = Unit {0}
  HaveOldNames was (x ∷ ts) = (bytes_eq x.0 name ≡ false) × (same x.1.head.at way ≡ true → x.0 ≡ was) × HaveOldNames was ts

  -- what is found has the name under which it is found
  record HasName (was t : List ℕ) (m : Made) : Type 0 where
    new : bytes_eq t name ≡ false
    old : same m.head.at way ≡ true → t ≡ was

  name-found : (was t : List ℕ) (ts : List (List ℕ × Made)) (m : Made) → HaveOldNames was ts → lookup t ts ≡ Some m → HasName was t m
  name-found was t [] m h e = cc
  name-found was t (x ∷ ts) m h e = by (bytes_eq x.0 t) refl e (name-found was t ts m h.2)
    where
      by : (b : Bool) → bytes_eq x.0 t ≡ b → (if b then Some x.1 else lookup t ts) ≡ Some m → (lookup t ts ≡ Some m → HasName was t m) → HasName was t m
      by true eq e ih =
          let is : x.1 ≡ m = cc in
          let name_is : x.0 ≡ t = (bytes_eq-Decides x.0 t).0 eq in
          record { new = ap (λ n. bytes_eq n name) (sym name_is) ∙ h.0; old = λ f. sym name_is ∙ h.1 (ap (λ (z : Made). same z.head.at way) is ∙ f) }
      by false eq e ih = ih e

  apart : (x y : List ℕ) → bytes_eq x y ≡ false → bytes_eq y x ≡ false
  apart x y h = by (cases_Bool (bytes_eq y x))
    where
      by : ((bytes_eq y x ≡ true) ⊎ (bytes_eq y x ≡ false)) → bytes_eq y x ≡ false
      by (inl e) =
          let is : y ≡ x = (bytes_eq-Decides y x).0 e in
          let eq : bytes_eq x y ≡ true = (bytes_eq-Decides x y).1 (sym is) in
          let no : true ≡ false = sym eq ∙ h in
          cc
      by (inr e) = e

  itself : (x : List ℕ) → bytes_eq x x ≡ true
  itself x = (bytes_eq-Decides x x).1 refl

  -- the name by which the found type goes
  abbrev pub its_name : List ℕ → Made → List ℕ
  its_name t m = if same m.head.at way then name else t

  -- the head of the scope has the name, or hasn't, before as after
  head-same : (was t : List ℕ) (x : List ℕ × Made) (ts : List (List ℕ × Made)) (m : Made) → HaveOldNames was (x ∷ ts) → bytes_eq x.0 t ≡ false → lookup t ts ≡ Some m → bytes_eq (new_name x) (its_name t m) ≡ false
  head-same was t x ts m h eq e = by (same x.1.head.at way) refl (same m.head.at way) refl
    where
      f : HasName was t m
      f = name-found was t ts m h.2 e

      by : (b : Bool) → same x.1.head.at way ≡ b → (c : Bool) → same m.head.at way ≡ c → bytes_eq (if b then name else x.0) (if c then name else t) ≡ false
      by true g true k =
          let is : x.0 ≡ t = h.1 g ∙ sym (f.old k) in
          let no : true ≡ false = sym ((bytes_eq-Decides x.0 t).1 is) ∙ eq in
          cc
      by true g false k = apart t name f.new
      by false g true k = h.0
      by false g false k = eq

  pub number-same : (was t : List ℕ) (ts : List (List ℕ × Made)) (m : Made) → HaveOldNames was ts → lookup t ts ≡ Some m → number_in (names ts) t ≡ number_in (new_names ts) (its_name t m)
  number-same was t [] m h e = cc
  number-same was t (x ∷ ts) m h e = by (bytes_eq x.0 t) refl e (number-same was t ts m h.2)
    where
      by : (b : Bool) → bytes_eq x.0 t ≡ b → (if b then Some x.1 else lookup t ts) ≡ Some m → (lookup t ts ≡ Some m → number_in (names ts) t ≡ number_in (new_names ts) (its_name t m))
          → (if b then Some (length (names ts)) else number_in (names ts) t) ≡ (if bytes_eq (new_name x) (its_name t m) then Some (length (new_names ts)) else number_in (new_names ts) (its_name t m))
      by true eq e ih =
          let is : x.1 ≡ m = cc in
          let name_is : x.0 ≡ t = (bytes_eq-Decides x.0 t).0 eq in
          let both : new_name x ≡ its_name t m = λ i. if same (is i).head.at way then name else name_is i in
          ap Some (sym (length-new ts))
          ∙ sym (ap (λ b. if b then Some (length (new_names ts)) else number_in (new_names ts) (its_name t m)) (ap (λ n. bytes_eq n (its_name t m)) both ∙ itself (its_name t m)))
      by false eq e ih =
          ih e ∙ sym (ap (λ b. if b then Some (length (new_names ts)) else number_in (new_names ts) (its_name t m)) (head-same was t x ts m h eq e))

  other-same : (t : List ℕ) (ts : List (List ℕ × Made)) (m : Made) → OthersOnly ts → lookup t ts ≡ Some m → number_in (names ts) t ≡ number_in (new_names ts) (its_name t m)
  other-same t ts m h e = sym (λ i. number_in (others-keep ts h i) (if other-found t ts m h e i then name else t))

-- ---- All definitions.

has-either : (n : List ℕ) (xs ys : List (List ℕ)) → has_name n (xs ++ ys) ≡ (has_name n xs || has_name n ys)
has-either n xs ys = list_any-append (λ m. bytes_eq m n) xs ys

first-either : (a b : Bool) → a ≡ true → (a || b) ≡ true
first-either true b e = refl
first-either false b e = cc

second-either : (a b : Bool) → b ≡ true → (a || b) ≡ true
second-either true b e = refl
second-either false b e = e

has-rest : (n : List ℕ) (h : Holder) (body rest : Items) → has_name n (defined_names rest) ≡ true → has_name n (defined_names (holder h body rest)) ≡ true
has-rest n h body rest e =
    has-either n (holder_names h ++ defined_names body) (defined_names rest) ∙ second-either (has_name n (holder_names h ++ defined_names body)) (has_name n (defined_names rest)) e

has-first : (n : List ℕ) (h : Holder) (body rest : Items) → has_name n (holder_names h ++ defined_names body) ≡ true → has_name n (defined_names (holder h body rest)) ≡ true
has-first n h body rest e =
    has-either n (holder_names h ++ defined_names body) (defined_names rest) ∙ first-either (has_name n (holder_names h ++ defined_names body)) (has_name n (defined_names rest)) e

has-inside : (n : List ℕ) (h : Holder) (body rest : Items) → has_name n (defined_names body) ≡ true → has_name n (defined_names (holder h body rest)) ≡ true
has-inside n h body rest e =
    has-first n h body rest (has-either n (holder_names h) (defined_names body) ∙ second-either (has_name n (holder_names h)) (has_name n (defined_names body)) e)

named-itself : (n m : List ℕ) → m ≡ n → has_name n (m ∷ []) ≡ true
named-itself n m e = ap (λ b. b || false) ((bytes_eq-Decides m n).1 e)

defined-here : (k : ℕ) (t : Items) (n : List ℕ) (c : Component) → slice_get (list_of t) k ≡ Some (Define n c) → has_name n (defined_names t) ≡ true
defined-here k no_items n c e = cc
defined-here zero (plain (named s y) rest) n c e = cc
defined-here zero (plain (own p v) rest) n c e = cc
defined-here zero (plain (default p v) rest) n c e = cc
defined-here zero (plain (dynamic g p v) rest) n c e = cc
defined-here (suc k) (plain (named s y) rest) n c e = defined-here k rest n c e
defined-here (suc k) (plain (own p v) rest) n c e = defined-here k rest n c e
defined-here (suc k) (plain (default p v) rest) n c e = defined-here k rest n c e
defined-here (suc k) (plain (dynamic g p v) rest) n c e = defined-here k rest n c e
defined-here zero (holder (define m k) body rest) n c e =
    let same : m ≡ n = cc in
    has-first n (define m k) body rest (has-either n (m ∷ []) (defined_names body) ∙ first-either (has_name n (m ∷ [])) (has_name n (defined_names body)) (named-itself n m same))
defined-here zero (holder (anonymous s k) body rest) n c e = cc
defined-here (suc k) (holder h body rest) n c e = has-rest n h body rest (defined-here k rest n c (behind-first k h body rest ∙ e))
  where
    behind-first : (k : ℕ) (h : Holder) (body rest : Items) → slice_get (list_of rest) k ≡ slice_get (list_of (holder h body rest)) (suc k)
    behind-first k (define m y) body rest = refl
    behind-first k (anonymous s y) body rest = refl

defined-inside : (k : ℕ) (t u : Items) (n : List ℕ) → inner k t ≡ Some u → has_name n (defined_names u) ≡ true → has_name n (defined_names t) ≡ true
defined-inside k no_items u n e h = cc
defined-inside zero (plain p rest) u n e h = cc
defined-inside (suc k) (plain p rest) u n e h = defined-inside k rest u n e h
defined-inside zero (holder o body rest) u n e h =
    let same : body ≡ u = cc in
    has-inside n o body rest (ap (λ z. has_name n (defined_names z)) same ∙ h)
defined-inside (suc k) (holder o body rest) u n e h = has-rest n o body rest (defined-inside k rest u n e h)

defined-at : (a : List ℕ) (t : Items) (n : List ℕ) (c : Component) → item_at a t ≡ Some (Define n c) → has_name n (defined_names t) ≡ true
defined-at [] t n c e = cc
defined-at (k ∷ []) t n c e = defined-here k t n c e
defined-at (k ∷ j ∷ a) t n c e = by (inner k t) refl (λ u. defined-at (j ∷ a) u n c) e
  where
    by : (o : Option Items) → inner k t ≡ o → ((u : Items) → item_at (j ∷ a) u ≡ Some (Define n c) → has_name n (defined_names u) ≡ true) → option_and_then (item_at (j ∷ a)) o ≡ Some (Define n c) → has_name n (defined_names t) ≡ true
    by None is ih e = cc
    by (Some u) is ih e = defined-inside k t u n is (ih u e)

-- ---- All items.

module _ (d : Items) (accepted : fault_of d ≡ None) (way name : List ℕ) (Good : List (List ℕ × Made) → Type 0)
    (resolve : (t : List ℕ) (ts : List (List ℕ × Made)) (m : Made) → Good ts → lookup t ts ≡ Some m → number_in (names ts) t ≡ number_in (new_names way name ts) (its_name way name t m))
    (grow : (x : List ℕ × Made) (ts : List (List ℕ × Made)) (c : Component) → item_at x.1.head.at d ≡ Some (Define x.0 c) → Good ts → Good (x ∷ ts)) where
  -- a body, with what stands at its beginning
  record IsBody (b : List ℕ) (e : Standing) (t : Items) : Type 0 where
    body : body_at b d ≡ Some t
    standing : (i : ℕ) (a : List ℕ) → standing_at nothing [] (b ++ i ∷ a) d ≡ standing_at e b (i ∷ a) t

  -- its items from number n on
  record AreRest (b : List ℕ) (e : Standing) (t : Items) (n : ℕ) (f : Standing) (u : Items) : Type 0 where
    items : (i : ℕ) → slice_get (list_of t) (n + i) ≡ slice_get (list_of u) i
    insides : (i : ℕ) → inner (n + i) t ≡ inner i u
    standing : (i : ℕ) → before (n + i) e b 0 t ≡ before i f b n u

  none-more : (i : ℕ) → 0 + i ≡ i
  none-more i = omega arith

  one-more : (n i : ℕ) → suc n + i ≡ n + suc i
  one-more n i = omega arith

  first-more : (n : ℕ) → n ≡ n + 0
  first-more n = omega arith

  all-rest : (b : List ℕ) (e : Standing) (t : Items) → AreRest b e t 0 e t
  all-rest b e t = record {
    items = λ i. ap (slice_get (list_of t)) (none-more i);
    insides = λ i. ap (λ j. inner j t) (none-more i);
    standing = λ i. ap (λ j. before j e b 0 t) (none-more i);
  }

  behind-plain : (b : List ℕ) (e : Standing) (t : Items) (n : ℕ) (f : Standing) (p : Plain) (u : Items) → AreRest b e t n f (plain p u) → AreRest b e t (suc n) (after_plain p f) u
  behind-plain b e t n f p u h = record {
    items = λ i. ap (slice_get (list_of t)) (one-more n i) ∙ h.items (suc i);
    insides = λ i. ap (λ j. inner j t) (one-more n i) ∙ h.insides (suc i);
    standing = λ i. ap (λ j. before j e b 0 t) (one-more n i) ∙ h.standing (suc i);
  }

  behind-holder : (b : List ℕ) (e : Standing) (t : Items) (n : ℕ) (f : Standing) (k : Holder) (body u : Items) → AreRest b e t n f (holder k body u)
      → AreRest b e t (suc n) (after_holder k (b ++ n ∷ []) body (parts f (b ++ n ∷ []) 0 body) f) u
  behind-holder b e t n f k body u h = record {
    items = λ i. ap (slice_get (list_of t)) (one-more n i) ∙ h.items (suc i);
    insides = λ i. ap (λ j. inner j t) (one-more n i) ∙ h.insides (suc i);
    standing = λ i. ap (λ j. before j e b 0 t) (one-more n i) ∙ h.standing (suc i);
  }

  own-body-is : (b : List ℕ) (e : Standing) (t : Items) (n : ℕ) (f : Standing) (k : Holder) (body u : Items) → IsBody b e t → AreRest b e t n f (holder k body u) → IsBody (b ++ n ∷ []) f body
  own-body-is b e t n f k body u is h =
      let here : inner n t ≡ Some body = ap (λ j. inner j t) (first-more n) ∙ h.insides 0 in
      let stands : before n e b 0 t ≡ f = ap (λ j. before j e b 0 t) (first-more n) ∙ h.standing 0 in
      record {
        body = body-deeper b n d t is.body ∙ here;
        standing = λ i a.
            ap (λ c. standing_at nothing [] c d) (append_assoc b (n ∷ []) (i ∷ a)) ∙ is.standing n (i ∷ a)
            ∙ ap (option_and_then (standing_at (before n e b 0 t) (b ++ n ∷ []) (i ∷ a))) here
            ∙ ap (λ s. standing_at s (b ++ n ∷ []) (i ∷ a) body) stands;
      }

  item-first : (b : List ℕ) (e : Standing) (t : Items) (n : ℕ) (f : Standing) (u : Items) → AreRest b e t n f u → slice_get (list_of t) n ≡ slice_get (list_of u) 0
  item-first b e t n f u h = ap (slice_get (list_of t)) (first-more n) ∙ h.items 0

  stands-first : (b : List ℕ) (e : Standing) (t : Items) (n : ℕ) (f : Standing) (u : Items) → IsBody b e t → AreRest b e t n f u → standing_at nothing [] (b ++ n ∷ []) d ≡ Some f
  stands-first b e t n f u is h = is.standing n [] ∙ ap Some (ap (λ j. before j e b 0 t) (first-more n) ∙ h.standing 0)

  -- a reference goes by the number of its type, before as after
  reference-same : (b : List ℕ) (e : Standing) (t : Items) (n : ℕ) (f : Standing) (s : Shell) (y : List ℕ) (u : Items) → IsBody b e t → AreRest b e t n f (plain (named s y) u) → Good f.types
      → number_in (new_names way name f.types) (if leads_to way (type_of d (b ++ n ∷ [])) then name else y) ≡ number_in (names f.types) y
  reference-same b e t n f s y u is h good =
      let here = item-first b e t n f (plain (named s y) u) h in
      let r = leads d accepted b n t s y f is.body here (stands-first b e t n f (plain (named s y) u) is h) in
      let type_is : type_of d (b ++ n ∷ []) ≡ Some r.made.head.at = ap (option_and_then (type_from d (b ++ n ∷ []))) (item-here b d t n is.body ∙ here) ∙ r.search in
      ap (λ o. number_in (new_names way name f.types) (if leads_to way o then name else y)) type_is ∙ sym (resolve y f.types r.made good r.stands)

  shell-same : (at : List ℕ) (s : Shell) → skeleton_shell (renamed_shell way name at s) ≡ skeleton_shell s
  shell-same at s = by (same at way)
    where
      by : (b : Bool) → skeleton_shell (if b then record s { name = name } else s) ≡ skeleton_shell s
      by true = refl
      by false = refl

  items-same : (u : Items) (b : List ℕ) (e : Standing) (t : Items) (n : ℕ) (f : Standing) → IsBody b e t → AreRest b e t n f u → Good f.types
      → skeleton_in (new_names way name f.types) (renamed_items d way name b n u) ≡ skeleton_in (names f.types) u
  items-same no_items b e t n f is h good = refl
  items-same (plain (named s y) rest) b e t n f is h good =
      let number = reference-same b e t n f s y rest is h good in
      let shell = shell-same (b ++ n ∷ []) s in
      let more = items-same rest b e t (suc n) f is (behind-plain b e t n f (named s y) rest h) good in
      λ i. plain (named (shell i) (skeleton_type (number i))) (more i)
  items-same (plain (own p v) rest) b e t n f is h good =
      ap (λ r. if lays_out p then plain (own p v) r else r) (items-same rest b e t (suc n) f is (behind-plain b e t n f (own p v) rest h) good)
  items-same (plain (default p v) rest) b e t n f is h good =
      ap (λ r. if lays_out p then plain (default p v) r else r) (items-same rest b e t (suc n) (after_plain (default p v) f) is (behind-plain b e t n f (default p v) rest h) good)
  items-same (plain (dynamic g p v) rest) b e t n f is h good = items-same rest b e t (suc n) f is (behind-plain b e t n f (dynamic g p v) rest h) good
  items-same (holder (define x k) body rest) b e t n f is h good =
      let at = b ++ n ∷ [] in
      let c : Made = record { head = head_at at k body f; parts = parts f at 0 body } in
      let here : item_at at d ≡ Some (Define x (record { kind = k; body = body })) = item-here b d t n is.body ∙ item-first b e t n f (holder (define x k) body rest) h in
      let more = items-same rest b e t (suc n) (with_type x c f) is (behind-holder b e t n f (define x k) body rest h) (grow (x, c) f.types (record { kind = k; body = body }) here good) in
      let within = items-same body at f body 0 f (own-body-is b e t n f (define x k) body rest is h) (all-rest at f body) good in
      λ i. holder (define (length-new way name f.types i ∷ []) k) (within i) (more i)
  items-same (holder (anonymous s k) body rest) b e t n f is h good =
      let at = b ++ n ∷ [] in
      let shell = shell-same at s in
      let more = items-same rest b e t (suc n) f is (behind-holder b e t n f (anonymous s k) body rest h) good in
      let within = items-same body at f body 0 f (own-body-is b e t n f (anonymous s k) body rest is h) (all-rest at f body) good in
      λ i. holder (anonymous (shell i) k) (within i) (more i)

  whole-same : Good [] → skeleton (renamed_items d way name [] 0 d) ≡ skeleton d
  whole-same good = items-same d [] nothing d 0 nothing (record { body = refl; standing = λ i a. refl }) (all-rest [] nothing d) good

-- ---- Of a definition, and of another item.

module _ (d : Items) (accepted : fault_of d ≡ None) (way name : List ℕ) where
  apart-from : (x : List ℕ × Made) (c : Component) → ((was : List ℕ) (y : Component) → item_at way d ≡ Some (Define was y) → ⊥) → item_at x.1.head.at d ≡ Some (Define x.0 c) → same x.1.head.at way ≡ false
  apart-from x c other is = by (cases_Bool (same x.1.head.at way))
    where
      by : ((same x.1.head.at way ≡ true) ⊎ (same x.1.head.at way ≡ false)) → same x.1.head.at way ≡ false
      by (inl e) = absurd (other x.0 c (ap (λ a. item_at a d) (sym ((bytes_eq-Decides x.1.head.at way).0 e)) ∙ is))
      by (inr e) = e

  -- no definition gets the name
  of-another : ((was : List ℕ) (y : Component) → item_at way d ≡ Some (Define was y) → ⊥) → skeleton (renamed_items d way name [] 0 d) ≡ skeleton d
  of-another other = whole-same d accepted way name (OthersOnly way name) (other-same way name) (λ x ts c is good. (apart-from x c other is, good)) tt

  -- this definition gets it, and none has it yet
  of-definition : (was : List ℕ) (y : Component) → item_at way d ≡ Some (Define was y) → has_name name (defined_names d) ≡ false → skeleton (renamed_items d way name [] 0 d) ≡ skeleton d
  of-definition was y there free = whole-same d accepted way name (HaveOldNames way name was) (number-same way name was) (λ x ts c is good. (new x c is, old x c is, good)) tt
    where
      new : (x : List ℕ × Made) (c : Component) → item_at x.1.head.at d ≡ Some (Define x.0 c) → bytes_eq x.0 name ≡ false
      new x c is = by (cases_Bool (bytes_eq x.0 name))
        where
          by : ((bytes_eq x.0 name ≡ true) ⊎ (bytes_eq x.0 name ≡ false)) → bytes_eq x.0 name ≡ false
          by (inl e) =
              let has : has_name name (defined_names d) ≡ true = ap (λ n. has_name n (defined_names d)) (sym ((bytes_eq-Decides x.0 name).0 e)) ∙ defined-at x.1.head.at d x.0 c is in
              let no : true ≡ false = sym has ∙ free in
              cc
          by (inr e) = e

      old : (x : List ℕ × Made) (c : Component) → item_at x.1.head.at d ≡ Some (Define x.0 c) → same x.1.head.at way ≡ true → x.0 ≡ was
      old x c is e =
          let both : Some (Define x.0 c) ≡ Some (Define was y) = sym is ∙ ap (λ a. item_at a d) ((bytes_eq-Decides x.1.head.at way).0 e) ∙ there in
          cc

  by-item : (x : Option Item) → item_at way d ≡ x → is_taken d way name x ≡ false → skeleton (renamed_items d way name [] 0 d) ≡ skeleton d
  by-item None is free = of-another (λ was y e. let no : None ≡ Some (Define was y) = sym is ∙ e in cc)
  by-item (Some (Define n c)) is free = of-definition n c is free
  by-item (Some (Instance s o)) is free = of-another (λ was y e. let no : Some (Instance s o) ≡ Some (Define was y) = sym is ∙ e in cc)
  by-item (Some (Own p v)) is free = of-another (λ was y e. let no : Some (Own p v) ≡ Some (Define was y) = sym is ∙ e in cc)
  by-item (Some (Default p v)) is free = of-another (λ was y e. let no : Some (Default p v) ≡ Some (Define was y) = sym is ∙ e in cc)
  by-item (Some (Dynamic t p v)) is free = of-another (λ was y e. let no : Some (Dynamic t p v) ≡ Some (Define was y) = sym is ∙ e in cc)

  by-tests : (new : Items) (taken reserved : Bool) → is_taken d way name (item_at way d) ≡ taken → (if taken then Err NameTaken else if reserved then Err Reserved else Ok (renamed_items d way name [] 0 d)) ≡ Ok new
      → skeleton new ≡ skeleton d
  by-tests new true reserved f e = cc
  by-tests new false true f e = cc
  by-tests new false false f e =
      let same : renamed_items d way name [] 0 d ≡ new = cc in
      ap skeleton (sym same) ∙ by-item (item_at way d) refl f

pub renaming-same : (d new : Items) (way name : List ℕ) → fault_of d ≡ None → renamed d way name ≡ Ok new → skeleton new ≡ skeleton d
renaming-same d new way name accepted e = by-tests d accepted way name new (is_taken d way name (item_at way d)) (is_reserved name) refl e
