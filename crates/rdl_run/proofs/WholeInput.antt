-- What one more read tells of all that was read.
use Rattle.std.proofs.Common.{◌≡◌, ◌<◌, ◌≤◌, ◌+◌, ◌-◌, ℕ, List, ◌++◌, length, take, true, false, inl, inr, Some, None, Option, Result, Ok, Err, IfSome, OnOk, sym, ap, subst, ◌∙◌, arith, append-nil, length-append, length-take}
use Rattle.std.specs.Io.KnownBytes.{Consumes, IsAtEnd}
use Rattle.std.specs.declared.io.Error.{Error}
use Rattle.rdl_run.specs.Known.{Gives, IsWithin, most_bytes}
use Rattle.rdl_run.specs.Turns.{CountedRead}
use Rattle.rdl_run.specs.declared.counted.Reads.{Reads}
use Rattle.rdl_run.specs.declared.status.RunFault.{RunFault}

-- the reader is at its end
pub all_read : (a b c : Option (List ℕ)) (bs buffer : List ℕ) (n : ℕ) → Consumes a b bs → Consumes b c (take n buffer) → n ≡ 0 → IsAtEnd c → Gives a bs
all_read None b c bs buffer n before now none end = tt
all_read (Some xs) None c bs buffer n before now none end = absurd before
all_read (Some xs) (Some ys) None bs buffer n before now none end = absurd now
all_read (Some xs) (Some ys) (Some zs) bs buffer n before now none end =
    before ∙ ap (λ l. bs ++ l) (now ∙ ap (λ m. take m buffer ++ zs) none ∙ end) ∙ append-nil bs

-- what was read has no room
pub over_limit : (a b c : Option (List ℕ)) (bs buffer : List ℕ) (n limit : ℕ) → Consumes a b bs → Consumes b c (take n buffer) → n ≤ length buffer → limit - length bs < n
    → IfSome a (λ xs. limit < length xs)
over_limit None b c bs buffer n limit before now within over = tt
over_limit (Some xs) None c bs buffer n limit before now within over = absurd before
over_limit (Some xs) (Some ys) None bs buffer n limit before now within over = absurd now
over_limit (Some xs) (Some ys) (Some zs) bs buffer n limit before now within over =
    omega (arith, ap length before, length-append bs ys, ap length now, length-append (take n buffer) zs, length-take n buffer, within, over)

-- all of it was read
pub within : (known : Option (List ℕ)) (bytes : List ℕ) → Gives known bytes → length bytes ≤ most_bytes → IsWithin known
within None bytes given few = tt
within (Some xs) bytes given few = subst (λ (l : List ℕ). length l ≤ most_bytes) (sym given) few

pub on_ok : {X : Type 0} {P : Type 0} (r : Result X RunFault) → P → OnOk r P
on_ok (Ok x) p = p
on_ok (Err f) p = tt

-- ---- How often it was asked.

-- a read that didn't answer and didn't fail was interrupted
pub interrupted_once : (old new : Reads) (e : Error) → CountedRead old new (Err e) → new.failed ≡ false → new ≡ record old { reads = old.reads + 1; interrupts = old.interrupts + 1 }
interrupted_once old new e (inl h) unfailed = h.1
interrupted_once old new e (inr h) unfailed =
    let failed : new.failed ≡ true = ap (λ (c : Reads). c.failed) h.1 in
    cc
