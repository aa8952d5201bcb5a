-- In a description without a fault no two items of a body are namesakes of one item.
use Rattle.std.proofs.Common.{◌≡◌, ℕ, zero, suc, ◌<◌, ◌≤◌, Bool, true, false, List, [], ◌∷◌, ◌++◌, Option, Some, None, refl, ap, sym, subst, ◌∙◌, arith, ◌⊎◌, inl, inr}
use Rattle.std.specs.Prelude.{bytes_eq, slice_get, option_map, if◌then◌else◌}
use Rattle.std.specs.Option.{option_or, is_some}
use Rattle.std.proofs.lemmas.Bool.{cases_lt}
use Rattle.std.proofs.lemmas.Slice.Eq.{bytes_eq-Decides}
use Rattle.rdl_tree.specs.Items.{Items, no_items, plain, holder, Plain, named, own, default, dynamic, define, anonymous}
use Rattle.rdl_tree.specs.View.{list_of}
use Rattle.rdl_tree.specs.Address.{body_at}
use Rattle.rdl_tree.specs.declared.shell.Kind.{Kind}
use Rattle.rdl_tree.specs.declared.shell.Shell.{Shell}
use Rattle.rdl_tree.specs.declared.description.Component.{Component}
use Rattle.rdl_tree.specs.declared.description.Of.{Of}
use Rattle.rdl_tree.specs.declared.description.Item.{Item}
use Rattle.rdl_tree.specs.declared.description.Item.TheVariants.{Define, Instance, Own, Default, Dynamic}
use Rattle.rdl_scope.specs.Types.{last_definition}
use Rattle.rdl_scope.specs.Target.{instance_before}
use Rattle.rdl_scope.specs.Closed.{Made, component}
use Rattle.rdl_scope.specs.ItemFaults.{define_fault, instance_fault, instance_kind, item_fault, fault_of}
use Rattle.rdl_scope.proofs.Accepted.{clear-root, clear-inside}
use Rattle.rdl_scope.proofs.AsFound.{as_found}
use Rattle.rdl_scope.proofs.Holds.{holds}

-- ---- What is found among the first items.

-- what is found stays found
some-next : (o : Option ℕ) → is_some o ≡ true → is_some (option_map suc o) ≡ true
some-next None e = cc
some-next (Some i) e = refl

some-or : (o p : Option ℕ) → is_some o ≡ true → is_some (option_or o p) ≡ true
some-or None p e = cc
some-or (Some i) p e = refl

or-some : (o : Option ℕ) (i : ℕ) → is_some (option_or o (Some i)) ≡ true
or-some None i = refl
or-some (Some j) i = refl

if-some : (b : Bool) (o : Option ℕ) → is_some o ≡ true → is_some (if b then Some 0 else o) ≡ true
if-some true o e = refl
if-some false o e = e

-- a definition is
definition-there : (t : Items) (i j : ℕ) (n m : List ℕ) (c : Component) → slice_get (list_of t) i ≡ Some (Define n c) → i < j → bytes_eq n m ≡ true → is_some (last_definition m j t) ≡ true
definition-there t i zero n m c e less same = let no : ⊥ = omega (arith, less) in absurd no
definition-there no_items i (suc j) n m c e less same = cc
definition-there (plain (named s y) rest) zero (suc j) n m c e less same = cc
definition-there (plain (own p v) rest) zero (suc j) n m c e less same = cc
definition-there (plain (default p v) rest) zero (suc j) n m c e less same = cc
definition-there (plain (dynamic g p v) rest) zero (suc j) n m c e less same = cc
definition-there (holder (define l k) body rest) zero (suc j) n m c e less same =
    let is : n ≡ l = cc in
    let test : bytes_eq l m ≡ true = ap (λ w. bytes_eq w m) (sym is) ∙ same in
    ap (λ b. is_some (option_or (option_map suc (last_definition m j rest)) (if b then Some 0 else None))) test ∙ or-some (option_map suc (last_definition m j rest)) 0
definition-there (holder (anonymous s k) body rest) zero (suc j) n m c e less same = cc
definition-there (plain p rest) (suc i) (suc j) n m c e less same = some-next (last_definition m j rest) (definition-there rest i j n m c (behind p rest i ∙ e) (omega (arith, less)) same)
  where
    behind : (p : Plain) (rest : Items) (i : ℕ) → slice_get (list_of rest) i ≡ slice_get (list_of (plain p rest)) (suc i)
    behind p rest i = refl
definition-there (holder h body rest) (suc i) (suc j) n m c e less same =
    some-or (option_map suc (last_definition m j rest)) _ (some-next (last_definition m j rest) (definition-there rest i j n m c e (omega (arith, less)) same))

-- an instance is
instance-there : (t : Items) (i j : ℕ) (s : Shell) (o : Of) (m : List ℕ) → slice_get (list_of t) i ≡ Some (Instance s o) → i < j → bytes_eq s.name m ≡ true → is_some (instance_before m j t) ≡ true
instance-there t i zero s o m e less same = let no : ⊥ = omega (arith, less) in absurd no
instance-there no_items i (suc j) s o m e less same = cc
instance-there (plain (named u y) rest) zero (suc j) s o m e less same =
    let is : s ≡ u = cc in
    let test : bytes_eq u.name m ≡ true = ap (λ (w : Shell). bytes_eq w.name m) (sym is) ∙ same in
    ap (λ b. is_some (if b then Some 0 else option_map suc (instance_before m j rest))) test
instance-there (plain (own p v) rest) zero (suc j) s o m e less same = cc
instance-there (plain (default p v) rest) zero (suc j) s o m e less same = cc
instance-there (plain (dynamic g p v) rest) zero (suc j) s o m e less same = cc
instance-there (holder (define l k) body rest) zero (suc j) s o m e less same = cc
instance-there (holder (anonymous u k) body rest) zero (suc j) s o m e less same =
    let is : s ≡ u = cc in
    let test : bytes_eq u.name m ≡ true = ap (λ (w : Shell). bytes_eq w.name m) (sym is) ∙ same in
    ap (λ b. is_some (if b then Some 0 else option_map suc (instance_before m j rest))) test
instance-there (plain p rest) (suc i) (suc j) s o m e less same =
    if-some _ (option_map suc (instance_before m j rest)) (some-next (instance_before m j rest) (instance-there rest i j s o m e (omega (arith, less)) same))
instance-there (holder h body rest) (suc i) (suc j) s o m e less same =
    if-some _ (option_map suc (instance_before m j rest)) (some-next (instance_before m j rest) (instance-there rest i j s o m e (omega (arith, less)) same))

-- ---- Namesakes have one name.

-- two definitions, or two instances, of one name
abbrev pub are_namesakes : Item → Item → Bool
are_namesakes (Define n c) (Define m d) = bytes_eq n m
are_namesakes (Instance s o) (Instance u p) = bytes_eq s.name u.name
are_namesakes x y = false

-- that of a definition, and that of an instance
definition-of : (m : List ℕ) (d : Component) (x : Item) → are_namesakes (Define m d) x ≡ true → (n : List ℕ) × (c : Component) × (x ≡ Define n c) × (m ≡ n)
definition-of m d (Define n c) e = (n, c, refl, (bytes_eq-Decides m n).0 e)
definition-of m d (Instance s o) e = cc
definition-of m d (Own p v) e = cc
definition-of m d (Default p v) e = cc
definition-of m d (Dynamic t p v) e = cc

instance-of : (u : Shell) (p : Of) (x : Item) → are_namesakes (Instance u p) x ≡ true → (s : Shell) × (o : Of) × (x ≡ Instance s o) × (u.name ≡ s.name)
instance-of u q (Define n c) e = cc
instance-of u q (Instance s o) e = (s, o, refl, (bytes_eq-Decides u.name s.name).0 e)
instance-of u q (Own p v) e = cc
instance-of u q (Default p v) e = cc
instance-of u q (Dynamic t p v) e = cc

-- no two items of these are namesakes of one item
abbrev pub AreUnique : List Item → Type 0
AreUnique xs = (y p q : Item) (i j : ℕ) → slice_get xs i ≡ Some p → slice_get xs j ≡ Some q → are_namesakes y p ≡ true → are_namesakes y q ≡ true → i ≡ j

-- ---- In a description without a fault.

-- an item without a fault isn't a second one of its name
new-definition : (around : Option Kind) (twice : Bool) (k : Kind) → define_fault around twice k ≡ None → twice ≡ false
unfolding define_fault
new-definition around true k e = cc
new-definition around false k e = refl

new-instance : (around : Option Kind) (twice : Bool) (s : Shell) (k : Option Kind) → instance_fault around twice s k ≡ None → twice ≡ false
unfolding instance_fault
new-instance around true s None e = cc
new-instance around true s (Some k) e = cc
new-instance around false s k e = refl

module _ (d : Items) (accepted : fault_of d ≡ None) where
  -- no item of a body has one
  no-fault : (b : List ℕ) (body : Items) (n : ℕ) (x : Item) → body_at b d ≡ Some body → slice_get (list_of body) n ≡ Some x → (around : Option Kind) × (item_fault d around b body n x ≡ None)
  no-fault [] body n x held is =
      let same : d ≡ body = cc in
      (None, subst (λ t. item_fault d None [] t n x ≡ None) same (clear-root d n x accepted (ap (λ t. slice_get (list_of t) n) same ∙ is)))
  no-fault (i ∷ a) body n x held is = by (component d (i ∷ a)) refl (holds d i a ∙ ap is_some held)
    where
      by : (m : Option Made) → component d (i ∷ a) ≡ m → is_some (component d (i ∷ a)) ≡ true → (around : Option Kind) × (item_fault d around (i ∷ a) body n x ≡ None)
      by None e f = let no : false ≡ true = sym (ap is_some e) ∙ f in cc
      by (Some m) e f =
          let g = as_found d (i ∷ a) m e in
          let bodies : Some m.head.body ≡ Some body = sym g.body ∙ held in
          let same : m.head.body ≡ body = cc in
          let c : Component = record { kind = m.head.kind; body = m.head.body } in
          (Some c.kind, subst (λ t. item_fault d (Some c.kind) (i ∷ a) t n x ≡ None) same (clear-inside d (i ∷ a) c n x accepted g.component (ap (λ t. slice_get (list_of t) n) same ∙ is)))

  -- none before it has its name
  first-definition : (b : List ℕ) (body : Items) (j : ℕ) (n : List ℕ) (c : Component) → body_at b d ≡ Some body → slice_get (list_of body) j ≡ Some (Define n c) → is_some (last_definition n j body) ≡ false
  unfolding item_fault
  first-definition b body j n c held is =
      let h = no-fault b body j (Define n c) held is in
      new-definition h.0 (is_some (last_definition n j body)) c.kind h.1

  first-instance : (b : List ℕ) (body : Items) (j : ℕ) (s : Shell) (o : Of) → body_at b d ≡ Some body → slice_get (list_of body) j ≡ Some (Instance s o) → is_some (instance_before s.name j body) ≡ false
  unfolding item_fault
  first-instance b body j s o held is =
      let h = no-fault b body j (Instance s o) held is in
      new-instance h.0 (is_some (instance_before s.name j body)) s (instance_kind d (b ++ j ∷ [])) h.1

  -- two items of a body aren't namesakes of one
  apart : (b : List ℕ) (body : Items) (y p q : Item) (i j : ℕ) → body_at b d ≡ Some body → slice_get (list_of body) i ≡ Some p → slice_get (list_of body) j ≡ Some q → are_namesakes y p ≡ true → are_namesakes y q ≡ true → i < j → ⊥
  apart b body (Define m w) p q i j held first second e f less =
      let x = definition-of m w p e in
      let z = definition-of m w q f in
      let names : x.0 ≡ z.0 = sym x.3 ∙ z.3 in
      let there = definition-there body i j x.0 z.0 x.1 (first ∙ ap Some x.2) less ((bytes_eq-Decides x.0 z.0).1 names) in
      let no : true ≡ false = sym there ∙ first-definition b body j z.0 z.1 held (second ∙ ap Some z.2) in
      cc
  apart b body (Instance u o) p q i j held first second e f less =
      let x = instance-of u o p e in
      let z = instance-of u o q f in
      let s : Shell = x.0 in
      let t : Shell = z.0 in
      let names : s.name ≡ t.name = sym x.3 ∙ z.3 in
      let there = instance-there body i j s x.1 t.name (first ∙ ap Some x.2) less ((bytes_eq-Decides s.name t.name).1 names) in
      let no : true ≡ false = sym there ∙ first-instance b body j t z.1 held (second ∙ ap Some z.2) in
      cc
  apart b body (Own x v) p q i j held first second e f less = cc
  apart b body (Default x v) p q i j held first second e f less = cc
  apart b body (Dynamic t x v) p q i j held first second e f less = cc

  pub unique : (b : List ℕ) (body : Items) → body_at b d ≡ Some body → AreUnique (list_of body)
  unique b body held y p q i j first second e f = by (cases_lt i j) (cases_lt j i)
    where
      by : ((i < j) ⊎ (j ≤ i)) → ((j < i) ⊎ (i ≤ j)) → i ≡ j
      by (inl less) _ = absurd (apart b body y p q i j held first second e f less)
      by (inr _) (inl less) = absurd (apart b body y q p j i held second first f e less)
      by (inr le) (inr ge) = omega (arith, le, ge)
