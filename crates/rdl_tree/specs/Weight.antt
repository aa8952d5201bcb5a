-- The weight of a description: its items, and the bytes of their names, target names, property names and strings.
-- own: SystemRDL 2.0 has no weights.
use Rattle.std.specs.Prelude.{ℕ, ◌+◌, length, min, sum_by, ◌^◌, ◌-◌}
use Rattle.rdl_tree.specs.Items.{Items, no_items, plain, holder, Plain, named, own, default, dynamic, Holder, define, anonymous}
use Rattle.rdl_tree.specs.declared.value.Value.{Value}
use Rattle.rdl_tree.specs.declared.value.Value.TheVariants.{Number, Text, Bool, Word}

-- a sum as a `u64` that stops at its greatest value
abbrev pub capped : ℕ → ℕ
capped n = min n (2 ^ 64 - 1)

abbrev pub value_weight : Value → ℕ
value_weight (Number n) = 0
value_weight (Text t) = length t
value_weight (Bool b) = 0
value_weight (Word w) = 0

abbrev pub plain_weight : Plain → ℕ
plain_weight (named s t) = length s.name + length t + 1
plain_weight (own p v) = length p + value_weight v + 1
plain_weight (default p v) = length p + value_weight v + 1
plain_weight (dynamic t p v) = sum_by length t + length p + value_weight v + 1

abbrev pub holder_weight : Holder → ℕ
holder_weight (define n k) = length n + 1
holder_weight (anonymous s k) = length s.name + 1

abbrev pub weight : Items → ℕ
weight no_items = 0
weight (plain p rest) = plain_weight p + weight rest
weight (holder h body rest) = holder_weight h + weight body + weight rest
