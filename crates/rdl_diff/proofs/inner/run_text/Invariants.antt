use Rattle.std.proofs.Common.{◌≡◌, flat_map, take, string_bytes}
use Rattle.rdl_diff.specs.Alike.{item_text}
use Rattle.rdl_diff.specs.Seen.{item_seen}
use Rattle.rdl_diff.proofs.inner.run_text.Given as goal

abbrev pub invariant-items : goal.invariant-items
invariant-items l = string_bytes l.text ≡ flat_map (λ i. item_text l.depth (item_seen i)) (take l.item-index l.run)
