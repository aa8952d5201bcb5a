-- A message that comes behind those that wait.
use Rattle.std.proofs.Common.{◌≡◌, ℕ, List, [], ◌++◌, length, Option, Result, Ok, Err, OnOk, OnErr, sym, ap, ◌∙◌, subst, append-nil}
use Rattle.std.specs.Io.KnownBytes.{Appends}
use Rattle.std.proofs.KnownBytes.{Appends-trans}
use Rattle.rdl_run.specs.Known.{AppendsFront}
use Rattle.rdl_run.specs.Turns.{HasTaken}
use Rattle.rdl_run.specs.Waiting.{Says}
use Rattle.rdl_run.specs.declared.counted.Counts.{Counts}
use Rattle.rdl_run.proofs.Tallied.{taken-both}
use Rattle.rdl_run.proofs.Written.{AppendsFront-after}

module _ (a b c : Option (List ℕ)) (waiting message : List ℕ) where
  -- those that wait are written, and then it
  pub both_written : {X E : Type 0} (x y z : Counts) (waits : List ℕ) (r : Result X E) → waits ≡ [] → Appends a b waiting → HasTaken x y (length waiting)
      → OnOk r (Appends b c message) → OnOk r (HasTaken y z (length message)) → OnOk r (Says a c x z waiting message waits)
  both_written x y z waits (Ok u) none first took second taken = record {
    written = waiting ++ message;
    parts = sym (ap (λ (l : List ℕ). (waiting ++ message) ++ l) none ∙ append-nil (waiting ++ message));
    wrote = Appends-trans a b c waiting message first second;
    took = taken-both x y z waiting message took taken;
  }
  both_written x y z waits (Err e) none first took second taken = tt

  pub second_unwritten : {X E : Type 0} (r : Result X E) → Appends a b waiting → OnErr r (AppendsFront b c message) → OnErr r (AppendsFront a c (waiting ++ message))
  second_unwritten (Ok u) first front = tt
  second_unwritten (Err e) first front = subst (AppendsFront a c) (ap (λ (l : List ℕ). waiting ++ l) (append-nil message)) (AppendsFront-after a b c waiting message [] first front)
