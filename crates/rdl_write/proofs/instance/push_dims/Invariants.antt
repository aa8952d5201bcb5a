use Rattle.std.proofs.Common.{◌≡◌, ◌++◌, take, string_bytes}
use Rattle.std.specs.List.{flat_map}
use Rattle.rdl_write.specs.Texts.{dim_text}
use Rattle.rdl_write.proofs.instance.push_dims.Given as goal

abbrev pub invariant-dims : goal.invariant-dims
invariant-dims l = string_bytes l.text ≡ string_bytes l.initial.text ++ flat_map dim_text (take l.size-index l.dims)
