-- Steps of the search for an instance.
use Rattle.std.proofs.Common.{◌≡◌, ℕ, zero, suc, ◌+◌, ◌<◌, ◌≤◌, Bool, true, false, cond, List, Some, None, Option, refl, ap, ◌∙◌, arith, option_map}
use Rattle.std.specs.Prelude.{slice_get}
use Rattle.std.specs.Option.{option_or}
use Rattle.rdl_tree.specs.Items.{Items, no_items, plain, holder, named, own, default, dynamic, define, anonymous}
use Rattle.rdl_tree.specs.View.{list_of}
use Rattle.rdl_scope.specs.Target.{instance_before, plain_named, holder_named}
use Rattle.rdl_scope.specs.Walk.{is_instance}

or-none : (b : Bool) → cond b (Some 0) (option_map suc None) ≡ option_or None (cond b (Some 0) None)
or-none true = refl
or-none false = refl

or-later : (b c : Bool) (i : ℕ) (o : Option ℕ) → cond b (Some 0) (option_map suc (option_or o (cond c (Some i) None))) ≡ option_or (cond b (Some 0) (option_map suc o)) (cond c (Some (suc i)) None)
or-later true c i o = refl
or-later false c i (Some k) = refl
or-later false true i None = refl
or-later false false i None = refl

pub instance-suc : (name : List ℕ) (i : ℕ) (t : Items) → instance_before name (suc i) t ≡ option_or (instance_before name i t) (cond (is_instance name (slice_get (list_of t) i)) (Some i) None)
instance-suc name zero no_items = refl
instance-suc name (suc i) no_items = refl
instance-suc name zero (plain (named s t) rest) = or-none (plain_named name (named s t))
instance-suc name zero (plain (own p v) rest) = refl
instance-suc name zero (plain (default p v) rest) = refl
instance-suc name zero (plain (dynamic t p v) rest) = refl
instance-suc name zero (holder (define n k) body rest) = refl
instance-suc name zero (holder (anonymous s k) body rest) = or-none (holder_named name (anonymous s k))
instance-suc name (suc i) (plain p rest) =
    ap (λ o. cond (plain_named name p) (Some 0) (option_map suc o)) (instance-suc name i rest)
    ∙ or-later (plain_named name p) (is_instance name (slice_get (list_of rest) i)) i (instance_before name i rest)
instance-suc name (suc i) (holder h body rest) =
    ap (λ o. cond (holder_named name h) (Some 0) (option_map suc o)) (instance-suc name i rest)
    ∙ or-later (holder_named name h) (is_instance name (slice_get (list_of rest) i)) i (instance_before name i rest)

-- an instance that is found among some items is found among more
pub instance-stays : (name : List ℕ) (m n : ℕ) (t : Items) (k : ℕ) → m ≤ n → instance_before name m t ≡ Some k → instance_before name n t ≡ Some k
instance-stays name zero n t k l e = cc
instance-stays name (suc m) n no_items k l e = cc
instance-stays name (suc m) zero (plain p rest) k l e = absurd (omega (arith, l))
instance-stays name (suc m) zero (holder h body rest) k l e = absurd (omega (arith, l))
instance-stays name (suc m) (suc n) (plain p rest) k l e = stays (λ j. instance-stays name m n rest j (omega (arith, l))) (plain_named name p) (instance_before name m rest) refl e
  where
    stays : ((j : ℕ) → instance_before name m rest ≡ Some j → instance_before name n rest ≡ Some j) → (b : Bool) (o : Option ℕ) → instance_before name m rest ≡ o → cond b (Some 0) (option_map suc o) ≡ Some k
        → cond b (Some 0) (option_map suc (instance_before name n rest)) ≡ Some k
    stays ih true o g e = e
    stays ih false None g e = cc
    stays ih false (Some j) g e = ap (option_map suc) (ih j g) ∙ e
instance-stays name (suc m) (suc n) (holder h body rest) k l e = stays (λ j. instance-stays name m n rest j (omega (arith, l))) (holder_named name h) (instance_before name m rest) refl e
  where
    stays : ((j : ℕ) → instance_before name m rest ≡ Some j → instance_before name n rest ≡ Some j) → (b : Bool) (o : Option ℕ) → instance_before name m rest ≡ o → cond b (Some 0) (option_map suc o) ≡ Some k
        → cond b (Some 0) (option_map suc (instance_before name n rest)) ≡ Some k
    stays ih true o g e = e
    stays ih false None g e = cc
    stays ih false (Some j) g e = ap (option_map suc) (ih j g) ∙ e

-- item i is the first of the name, and stands before item n
pub instance-found : (name : List ℕ) (i n : ℕ) (t : Items) → i < n → instance_before name i t ≡ None → is_instance name (slice_get (list_of t) i) ≡ true → instance_before name n t ≡ Some i
instance-found name i n t l none is =
    instance-stays name (suc i) n t i (omega (arith, l)) (instance-suc name i t ∙ ap (λ o. option_or o (cond (is_instance name (slice_get (list_of t) i)) (Some i) None)) none ∙ ap (λ b. cond b (Some i) None) is)

-- it isn't one of the name
pub instance-other : (name : List ℕ) (i : ℕ) (t : Items) → instance_before name i t ≡ None → is_instance name (slice_get (list_of t) i) ≡ false → instance_before name (i + 1) t ≡ None
instance-other name i t none is =
    let next : i + 1 ≡ suc i = omega arith in
    ap (λ n. instance_before name n t) next ∙ instance-suc name i t ∙ ap (λ o. option_or o (cond (is_instance name (slice_get (list_of t) i)) (Some i) None)) none ∙ ap (λ b. cond b (Some i) None) is

pub ruleset steps = (instance-found, instance-other)
