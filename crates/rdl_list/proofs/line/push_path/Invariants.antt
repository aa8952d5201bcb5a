use Rattle.std.proofs.Common.{◌≡◌, ◌≤◌, drop, length, string_bytes}
use Rattle.rdl_list.proofs.line.push_path.Given as goal

abbrev pub invariant-left_out : goal.invariant-left_out
invariant-left_out l = (string_bytes l.text ≡ string_bytes l.initial.text) × (l.around ≡ drop l.passed l.initial.around) × (l.passed ≤ length l.initial.around)
