-- Numbers that an instance may state, as the code holds them.
-- own: how they are held; a contract sees the option.
use Rattle.std.specs.Prelude.{ℕ, Option, None, Some}
use Rattle.rdl_tree.specs.declared.stated.StatedNumber.{StatedNumber}
use Rattle.rdl_tree.specs.declared.stated.StatedNumber.TheVariants.{Unstated, Short, Long}
use Rattle.rdl_tree.specs.declared.stated.StatedPair.{StatedPair}
use Rattle.rdl_tree.specs.declared.stated.StatedPair.TheVariants as pair

abbrev pub stated : StatedNumber → Option ℕ
stated Unstated = None
stated (Short n) = Some n
stated (Long n) = Some n.value

abbrev pub stated_pair : StatedPair → Option (ℕ × ℕ)
stated_pair pair.Unstated = None
stated_pair (pair.Short high low) = Some (high, low)
stated_pair (pair.Long p) = Some p.value
