-- Steps whose step back is a whole copy fit anywhere, and lead through the copies.
use Rattle.std.proofs.Common.{◌≡◌, ℕ, List, [], ◌∷◌, map, refl, ap, ◌∙◌}
use Rattle.std.proofs.Common.{Vec, Global}
use Rattle.journal_core.specs.Along.{FitInTurn, led_through}
use Rattle.journal_core.specs.History.{resumed}

pub copies_fit : (now : List ℕ) (copies : List (Vec ℕ Global)) → FitInTurn (λ (s : List ℕ) (b : Vec ℕ Global). b.items) (λ s b. Unit {0}) now copies
copies_fit now [] = tt
copies_fit now (copy ∷ copies) = (tt, copies_fit copy.items copies)

copies_led : (now : List ℕ) (copies : List (Vec ℕ Global)) → led_through (λ (s : List ℕ) (b : Vec ℕ Global). b.items) now copies ≡ map (λ copy. copy.items) copies
copies_led now [] = refl
copies_led now (copy ∷ copies) = ap (λ (ss : List (List ℕ)). copy.items ∷ ss) (copies_led copy.items copies)

pub copies_resumed : (limit : ℕ) (now : List ℕ) (behind ahead : List (Vec ℕ Global))
    → resumed limit (led_through (λ (s : List ℕ) (b : Vec ℕ Global). b.items) now behind) now (led_through (λ (s : List ℕ) (b : Vec ℕ Global). b.items) now ahead)
    ≡ resumed limit (map (λ copy. copy.items) behind) now (map (λ copy. copy.items) ahead)
copies_resumed limit now behind ahead =
    ap (λ (ss : List (List ℕ)). resumed limit ss now (led_through (λ (s : List ℕ) (b : Vec ℕ Global). b.items) now ahead)) (copies_led now behind)
    ∙ ap (λ (ss : List (List ℕ)). resumed limit (map (λ copy. copy.items) behind) now ss) (copies_led now ahead)
