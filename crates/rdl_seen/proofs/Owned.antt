-- The own assignments of a body without a fault state what is found under each name.
use Rattle.std.proofs.Common.{◌≡◌, ℕ, suc, ◌+◌, Bool, true, false, List, Option, Some, None, if◌then◌else◌, bytes_eq, refl, sym, ap, ◌∙◌, arith}
use Rattle.std.specs.Option.{option_or, is_some}
use Rattle.std.proofs.lemmas.Slice.Eq.{bytes_eq-Decides}
use Rattle.rdl_tree.specs.Items.{Items, no_items, plain, holder, named, own, default, dynamic}
use Rattle.rdl_tree.specs.Properties.{row}
use Rattle.rdl_tree.specs.declared.shell.Kind.{Kind}
use Rattle.rdl_tree.specs.declared.value.Value.{Value}
use Rattle.rdl_tree.specs.declared.property.Property.{Property}
use Rattle.rdl_scope.specs.ItemFaults.{first_fault}
use Rattle.rdl_scope.specs.Value.{owned, own_value, own_before}
use Rattle.rdl_seen.specs.declared.values.Values.{Values}
use Rattle.rdl_seen.specs.Meaning.{kept_of}
use Rattle.rdl_seen.specs.Values.{own_over, own_values}
use Rattle.rdl_seen.proofs.Puts.{put-kept}
use Rattle.rdl_seen.proofs.Taken.{own-item, plain-clear, holder-clear}

or-assoc : {X : Type 0} (a b c : Option X) → option_or (option_or a b) c ≡ option_or a (option_or b c)
or-assoc None b c = refl
or-assoc (Some x) b c = refl

pub or-none : {X : Type 0} (a : Option X) → option_or a None ≡ a
or-none None = refl
or-none (Some x) = refl

-- the items of a body from number n on are these
record IsRest (body : Items) (n : ℕ) (t : Items) : Type 0 where
  before : (p : List ℕ) (k : ℕ) → own_before p (n + k) body ≡ option_or (own_before p n body) (own_before p k t)
  whole : (p : List ℕ) → own_value p body ≡ option_or (own_before p n body) (own_value p t)

-- item n assigns this, and these are behind it
record IsNext (body : Items) (n : ℕ) (assigned : List ℕ → Option Value) (rest : Items) : Type 0 where
  one : (p : List ℕ) → own_before p (suc n) body ≡ option_or (own_before p n body) (assigned p)
  more : IsRest body (suc n) rest

next : (body : Items) (n : ℕ) (t rest : Items) (assigned : List ℕ → Option Value) → IsRest body n t
    → ((p : List ℕ) (k : ℕ) → own_before p (suc k) t ≡ option_or (assigned p) (own_before p k rest))
    → ((p : List ℕ) → own_value p t ≡ option_or (assigned p) (own_value p rest)) → IsNext body n assigned rest
next body n t rest assigned r first all = record { one = one; more = record { before = before; whole = whole } }
  where
    one : (p : List ℕ) → own_before p (suc n) body ≡ option_or (own_before p n body) (assigned p)
    one p =
        let at : suc n ≡ n + 1 = omega arith in
        ap (λ k. own_before p k body) at ∙ r.before p 1 ∙ ap (option_or (own_before p n body)) (first p 0 ∙ or-none (assigned p))

    before : (p : List ℕ) (k : ℕ) → own_before p (suc n + k) body ≡ option_or (own_before p (suc n) body) (own_before p k rest)
    before p k =
        let at : suc n + k ≡ n + suc k = omega arith in
        ap (λ j. own_before p j body) at ∙ r.before p (suc k) ∙ ap (option_or (own_before p n body)) (first p k)
        ∙ sym (or-assoc (own_before p n body) (assigned p) (own_before p k rest)) ∙ ap (λ z. option_or z (own_before p k rest)) (sym (one p))

    whole : (p : List ℕ) → own_value p body ≡ option_or (own_before p (suc n) body) (own_value p rest)
    whole p =
        r.whole p ∙ ap (option_or (own_before p n body)) (all p)
        ∙ sym (or-assoc (own_before p n body) (assigned p) (own_value p rest)) ∙ ap (λ z. option_or z (own_value p rest)) (sym (one p))

-- what the first n items of a body state
abbrev kept_before : ℕ → Items → Values
kept_before n body = kept_of (λ q. own_before (row q).name n body)

not-some : {X : Type 0} (o : Option X) → is_some o ≡ false → o ≡ None
not-some None e = refl
not-some (Some x) e = absurd cc

in-place : (x : Value) (here : Bool) (before : Option Value) → (here ≡ true → before ≡ None) → (if here then Some x else before) ≡ option_or before (if here then Some x else None)
in-place x true before none = ap (λ z. option_or z (Some x)) (sym (none refl))
in-place x false before none = sym (or-none before)

-- an item that assigns nothing leaves what was stated
passed : (body : Items) (n : ℕ) (rest : Items) → IsNext body n (λ p. None) rest → kept_before n body ≡ kept_before (suc n) body
passed body n rest e = λ i. kept_of (λ q. sym (e.one (row q).name ∙ or-none (own_before (row q).name n body)) i)

-- one that assigns a property for the first time states its value
assigned : (body : Items) (n : ℕ) (rest : Items) (p : List ℕ) (x : Value) → is_some (own_before p n body) ≡ false → IsNext body n (λ q. owned q (own p x)) rest
    → kept_of (λ q. if bytes_eq p (row q).name then Some x else own_before (row q).name n body) ≡ kept_before (suc n) body
assigned body n rest p x once e = λ i. kept_of (λ q. each q i)
  where
    each : (q : Property) → (if bytes_eq p (row q).name then Some x else own_before (row q).name n body) ≡ own_before (row q).name (suc n) body
    each q =
        in-place x (bytes_eq p (row q).name) (own_before (row q).name n body)
        (λ is. ap (λ name. own_before name n body) (sym ((bytes_eq-Decides p (row q).name).0 is)) ∙ not-some (own_before p n body) once)
        ∙ sym (e.one (row q).name)

own-kept : (d : Items) (around : Option Kind) (b : List ℕ) (body : Items) (n : ℕ) (t : Items) → first_fault d around b body n t ≡ None → IsRest body n t
    → own_over (kept_before n body) t ≡ kept_of (λ q. own_value (row q).name body)
own-kept d around b body n no_items h r = λ i. kept_of (λ q. sym (r.whole (row q).name ∙ or-none (own_before (row q).name n body)) i)
own-kept d around b body n (plain (named s t) rest) h r =
    let e = next body n (plain (named s t) rest) rest (λ p. None) r (λ p k. refl) (λ p. refl) in
    ap (λ v. own_over v rest) (passed body n rest e) ∙ own-kept d around b body (suc n) rest (plain-clear d around b body n (named s t) rest h).behind e.more
own-kept d around b body n (plain (own p x) rest) h r =
    let e = next body n (plain (own p x) rest) rest (λ q. owned q (own p x)) r (λ q k. refl) (λ q. refl) in
    let clear = plain-clear d around b body n (own p x) rest h in
    ap (λ v. own_over v rest)
    (put-kept p x (λ q. own_before (row q).name n body) ∙ assigned body n rest p x (own-item d around b body n p x clear.here).once e)
    ∙ own-kept d around b body (suc n) rest clear.behind e.more
own-kept d around b body n (plain (default p x) rest) h r =
    let e = next body n (plain (default p x) rest) rest (λ q. None) r (λ q k. refl) (λ q. refl) in
    ap (λ v. own_over v rest) (passed body n rest e) ∙ own-kept d around b body (suc n) rest (plain-clear d around b body n (default p x) rest h).behind e.more
own-kept d around b body n (plain (dynamic t p x) rest) h r =
    let e = next body n (plain (dynamic t p x) rest) rest (λ q. None) r (λ q k. refl) (λ q. refl) in
    ap (λ v. own_over v rest) (passed body n rest e) ∙ own-kept d around b body (suc n) rest (plain-clear d around b body n (dynamic t p x) rest h).behind e.more
own-kept d around b body n (holder k inside rest) h r =
    let e = next body n (holder k inside rest) rest (λ q. None) r (λ q j. refl) (λ q. refl) in
    ap (λ v. own_over v rest) (passed body n rest e) ∙ own-kept d around b body (suc n) rest (holder-clear d around b body n k inside rest h).behind e.more

pub own-stated : (d : Items) (around : Option Kind) (b : List ℕ) (body : Items) → first_fault d around b body 0 body ≡ None → own_values body ≡ kept_of (λ q. own_value (row q).name body)
own-stated d around b body h = own-kept d around b body 0 body h (record { before = before; whole = λ p. refl })
  where
    before : (p : List ℕ) (k : ℕ) → own_before p (0 + k) body ≡ own_before p k body
    before p k = let at : 0 + k ≡ k = omega arith in ap (λ j. own_before p j body) at
