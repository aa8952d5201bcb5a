-- How many bytes an output took.
use Rattle.std.proofs.Common.{◌≡◌, ◌+◌, ◌++◌, ℕ, List, length, ap, length-append, arith}
use Rattle.std.specs.Prelude.{min}
use Rattle.rdl_run.specs.Turns.{HasTaken, most_counted}
use Rattle.rdl_run.specs.declared.counted.Counts.{Counts}

pub taken-none : (c : Counts) → HasTaken c c 0
taken-none c = record { no_more = omega arith; no_fewer = omega arith }

-- one write more
pub taken-more : (old mid new : Counts) (n m : ℕ) → HasTaken old mid n → new ≡ record mid { takes = min (mid.takes + 1) most_counted; taken = min (mid.taken + m) most_counted }
    → HasTaken old new (n + m)
taken-more old mid new n m h is =
    let now : new.taken ≡ min (mid.taken + m) most_counted = ap (λ (c : Counts). c.taken) is in
    record { no_more = omega (arith, h.no_more, now); no_fewer = omega (arith, h.no_fewer, now) }

-- one text behind another
pub taken-both : (old mid new : Counts) (xs ys : List ℕ) → HasTaken old mid (length xs) → HasTaken mid new (length ys) → HasTaken old new (length (xs ++ ys))
taken-both old mid new xs ys h k =
    let long : length (xs ++ ys) ≡ length xs + length ys = length-append xs ys in
    record { no_more = omega (arith, h.no_more, k.no_more, long); no_fewer = omega (arith, h.no_fewer, k.no_fewer, long) }
