use Rattle.std.proofs.Common.{◌∷◌, take}
use Rattle.std.specs.Fmt.{HasWritten, IsPlainFormatter}
use Rattle.rdl_tree.specs.AddressText.{address_text}
use Rattle.rdl_tree.proofs.Steps.{first}
use Rattle.rdl_tree.proofs.address.AddressDisplay.fmt.Given as goal

abbrev pub invariant-loop-number : goal.invariant-loop-number
invariant-loop-number g l =
    IsPlainFormatter l.fn.f → HasWritten g.W.Write.write_str_gives l.fn.f (address_text (first l.self ∷ take l.number-index l.rest)) l.f
