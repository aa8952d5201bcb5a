use Rattle.std.proofs.Common.{◌≡◌, ◌++◌, flat_map, take, codes, string_bytes}
use Rattle.rdl_diff.specs.Told.{told, told_text}
use Rattle.rdl_diff.proofs.inner.push_parts.Given as goal

abbrev pub invariant-parts : goal.invariant-parts
invariant-parts l = string_bytes l.text ≡ string_bytes l.initial.text ++ flat_map (λ w. told_text (told w l.row) ++ codes " ") (take l.part-index l.parts)
