-- The words so far are those that begin at the places so far.
use Rattle.std.proofs.Common.{◌≡◌, map, take}
use Rattle.rdl_text.specs.Standing.{word_at}
use Rattle.rdl_text.proofs.list.Tokens.to_vec.Given as goal

abbrev pub invariant-starts : goal.invariant-starts
invariant-starts l = l.words.items ≡ map (word_at l.self-inside.text.now) (take l.start-index l.start-items)
