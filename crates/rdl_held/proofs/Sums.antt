-- Whether one of three limits is passed, told one after another.
use Rattle.std.proofs.Common.{◌≡◌, refl}
use Rattle.std.specs.Prelude.{Bool, true, false, ◌||◌}

pub second_is : (a b c : Bool) → a ≡ false → b ≡ true → true ≡ (a || b || c)
second_is true b c e f = absurd cc
second_is false true c e f = refl
second_is false false c e f = absurd cc

pub third_is : (a b c : Bool) → a ≡ false → b ≡ false → c ≡ (a || b || c)
third_is true b c e f = absurd cc
third_is false true c e f = absurd cc
third_is false false c e f = refl
