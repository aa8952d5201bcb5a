-- In a description without a fault no two instances of a component have one name, all the way down.
use Rattle.std.proofs.Common.{◌≡◌, ◌⊎◌, inl, inr, ℕ, suc, ◌+◌, List, [], ◌∷◌, ◌++◌, Option, Some, None, refl, sym, ap, ◌∙◌, subst, arith}
use Rattle.std.specs.Prelude.{option_and_then, slice_get}
use Rattle.std.proofs.lemmas.Slice.Eq.{bytes_eq-Decides}
use Rattle.rdl_tree.specs.Items.{Items, no_items, plain, holder, named, own, default, dynamic, define, anonymous}
use Rattle.rdl_tree.specs.View.{list_of}
use Rattle.rdl_tree.specs.declared.shell.Shell.{Shell}
use Rattle.rdl_tree.specs.declared.description.Item.TheVariants.{Instance}
use Rattle.rdl_tree.specs.declared.description.Of.{Of}
use Rattle.rdl_tree.specs.declared.description.Of.TheVariants.{Named, Anonymous}
use Rattle.rdl_scope.specs.Types.{component_of}
use Rattle.rdl_scope.specs.Closed.{Parts, no_parts, part, Made, component, instances, with_made}
use Rattle.rdl_scope.specs.ItemFaults.{fault_of}
use Rattle.rdl_scope.proofs.AsFound.{as_found}
use Rattle.rdl_elab.specs.Found.{ArePartsFound}
use Rattle.rdl_elab.proofs.Namesakes.{AreUnique, unique}
use Rattle.rdl_elab.proofs.PartsFound.{parts-found}

-- one of these instances has the name
abbrev pub IsNamed : List ℕ → Parts → Type 0
IsNamed m no_parts = ⊥
IsNamed m (part at s h inside rest) = (m ≡ s.name) ⊎ IsNamed m rest

-- each has a name of its own
abbrev pub AreApart : Parts → Type 0
AreApart no_parts = Unit {0}
AreApart (part at s h inside rest) = (IsNamed s.name rest → ⊥) × AreApart rest

-- all the way down
abbrev pub AllApart : Parts → Type 0
AllApart no_parts = Unit {0}
AllApart (part at s h inside rest) = (IsNamed s.name rest → ⊥) × AllApart inside × AllApart rest

-- ---- The instances of one body.

-- the items of a body from number n on are t
abbrev Lies : Items → ℕ → Items → Type 0
Lies body n t = (i : ℕ) → slice_get (list_of body) (n + i) ≡ slice_get (list_of t) i

next : (body : Items) (n : ℕ) (t rest : Items) → ((i : ℕ) → slice_get (list_of t) (suc i) ≡ slice_get (list_of rest) i) → Lies body n t → Lies body (suc n) rest
next body n t rest more l i = let e : suc n + i ≡ n + suc i = omega arith in ap (slice_get (list_of body)) e ∙ l (suc i) ∙ more i

here : (body : Items) (n : ℕ) (t : Items) → Lies body n t → slice_get (list_of body) n ≡ slice_get (list_of t) 0
here body n t l = let e : n ≡ n + 0 = omega arith in ap (slice_get (list_of body)) e ∙ l 0

-- an instance item of this name, from number n on
record Item (body : Items) (n : ℕ) (m : List ℕ) : Type 0 where
  number : ℕ
  shell : Shell
  of : Of
  is : slice_get (list_of body) (n + number) ≡ Some (Instance shell of)
  name : m ≡ shell.name

later : (body : Items) (n : ℕ) (m : List ℕ) → Item body (suc n) m → Item body n m
later body n m x = let e : n + suc x.number ≡ suc n + x.number = omega arith in record { number = suc x.number; shell = x.shell; of = x.of; is = ap (slice_get (list_of body)) e ∙ x.is; name = x.name }

named-made : (m : List ℕ) (at : List ℕ) (s : Shell) (o : Option Made) (rest : Parts) → IsNamed m (with_made at s o rest) → (m ≡ s.name) ⊎ IsNamed m rest
named-made m at s None rest h = inr h
named-made m at s (Some c) rest h = h

module _ (d : Items) (b : List ℕ) (body : Items) where
  -- each named instance comes from such an item
  one-item : (n : ℕ) (m : List ℕ) (s : Shell) (of : Of) (rest : Parts) → slice_get (list_of body) n ≡ Some (Instance s of)
      → (IsNamed m rest → Item body (suc n) m) → IsNamed m (with_made (b ++ n ∷ []) s (option_and_then (component d) (component_of d (b ++ n ∷ []))) rest) → Item body n m
  one-item n m s of rest is more h = by (named-made m (b ++ n ∷ []) s (option_and_then (component d) (component_of d (b ++ n ∷ []))) rest h)
    where
      by : (m ≡ s.name) ⊎ IsNamed m rest → Item body n m
      by (inl e) = let same : n + 0 ≡ n = omega arith in record { number = 0; shell = s; of = of; is = ap (slice_get (list_of body)) same ∙ is; name = e }
      by (inr k) = later body n m (more k)

  named-item : (t : Items) (n : ℕ) (m : List ℕ) → Lies body n t → IsNamed m (instances d b n t) → Item body n m
  named-item no_items n m l h = absurd h
  named-item (plain (named s t) rest) n m l h =
      one-item n m s (Named t) (instances d b (suc n) rest) (here body n (plain (named s t) rest) l) (named-item rest (suc n) m (next body n (plain (named s t) rest) rest (λ i. refl) l)) h
  named-item (plain (own p v) rest) n m l h = later body n m (named-item rest (suc n) m (next body n (plain (own p v) rest) rest (λ i. refl) l) h)
  named-item (plain (default p v) rest) n m l h = later body n m (named-item rest (suc n) m (next body n (plain (default p v) rest) rest (λ i. refl) l) h)
  named-item (plain (dynamic t p v) rest) n m l h = later body n m (named-item rest (suc n) m (next body n (plain (dynamic t p v) rest) rest (λ i. refl) l) h)
  named-item (holder (define q k) inner rest) n m l h = later body n m (named-item rest (suc n) m (next body n (holder (define q k) inner rest) rest (λ i. refl) l) h)
  named-item (holder (anonymous s k) inner rest) n m l h =
      one-item n m s (Anonymous (record { kind = k; body = inner })) (instances d b (suc n) rest) (here body n (holder (anonymous s k) inner rest) l) (named-item rest (suc n) m (next body n (holder (anonymous s k) inner rest) rest (λ i. refl) l)) h

  module _ (each : AreUnique (list_of body)) where
    -- none behind an item has its name
    alone : (n : ℕ) (s : Shell) (of : Of) → slice_get (list_of body) n ≡ Some (Instance s of) → Item body (suc n) s.name → ⊥
    alone n s of is x =
        let z : Shell = x.shell in
        let same : n ≡ suc n + x.number = each (Instance s of) (Instance s of) (Instance z x.of) n (suc n + x.number) is x.is ((bytes_eq-Decides s.name s.name).1 refl) ((bytes_eq-Decides s.name z.name).1 x.name) in
        omega (arith, same)

    apart-made : (at : List ℕ) (s : Shell) (o : Option Made) (rest : Parts) → (IsNamed s.name rest → ⊥) → AreApart rest → AreApart (with_made at s o rest)
    apart-made at s None rest free more = more
    apart-made at s (Some c) rest free more = (free, more)

    apart : (t : Items) (n : ℕ) → Lies body n t → AreApart (instances d b n t)
    apart no_items n l = tt
    apart (plain (named s t) rest) n l =
        let after = next body n (plain (named s t) rest) rest (λ i. refl) l in
        apart-made (b ++ n ∷ []) s (option_and_then (component d) (component_of d (b ++ n ∷ []))) (instances d b (suc n) rest)
        (λ k. alone n s (Named t) (here body n (plain (named s t) rest) l) (named-item rest (suc n) s.name after k)) (apart rest (suc n) after)
    apart (plain (own p v) rest) n l = apart rest (suc n) (next body n (plain (own p v) rest) rest (λ i. refl) l)
    apart (plain (default p v) rest) n l = apart rest (suc n) (next body n (plain (default p v) rest) rest (λ i. refl) l)
    apart (plain (dynamic t p v) rest) n l = apart rest (suc n) (next body n (plain (dynamic t p v) rest) rest (λ i. refl) l)
    apart (holder (define q k) inner rest) n l = apart rest (suc n) (next body n (holder (define q k) inner rest) rest (λ i. refl) l)
    apart (holder (anonymous s k) inner rest) n l =
        let after = next body n (holder (anonymous s k) inner rest) rest (λ i. refl) l in
        apart-made (b ++ n ∷ []) s (option_and_then (component d) (component_of d (b ++ n ∷ []))) (instances d b (suc n) rest)
        (λ found. alone n s (Anonymous (record { kind = k; body = inner })) (here body n (holder (anonymous s k) inner rest) l) (named-item rest (suc n) s.name after found)) (apart rest (suc n) after)

-- ---- And of all inside it.

module _ (d : Items) (accepted : fault_of d ≡ None) where
  of-component : (a : List ℕ) (c : Made) → component d a ≡ Some c → AreApart c.parts
  of-component a c e =
      let f = as_found d a c e in
      subst AreApart (sym f.parts) (apart d a c.head.body (unique d accepted a c.head.body f.body) c.head.body 0 (λ i. let same : 0 + i ≡ i = omega arith in ap (slice_get (list_of c.head.body)) same))

  all : (b : List ℕ) (ps : Parts) → ArePartsFound d b ps → AreApart ps → AllApart ps
  all b no_parts found apart = tt
  all b (part at s h inside rest) found apart =
      (apart.0, all h.at inside found.1 (of-component h.at (record { head = h; parts = inside }) found.0.component), all b rest found.2 apart.1)

  pub all-apart : (a : List ℕ) (c : Made) → component d a ≡ Some c → AllApart c.parts
  all-apart a c e = all a c.parts (parts-found d a c e) (of-component a c e)
