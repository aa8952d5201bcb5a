-- The words so far and those from the place on are all, one stands at each place that is kept, and the text may be cut at the place.
use Rattle.std.proofs.Common.{◌≡◌, ◌≤◌, ◌-◌, length, drop, map}
use Rattle.std.specs.List.{All}
use Rattle.std.specs.Str.{IsCharBoundary}
use Rattle.rdl_text.specs.Standing.{Stands, word_at}
use Rattle.rdl_text.specs.Words.{words, words_from}
use Rattle.rdl_text.proofs.Following.{follow}
use Rattle.rdl_text.proofs.Spanning.{Spanned}
use Rattle.rdl_text.proofs.cut.tokens.Given as goal

abbrev pub invariant-pieces : goal.invariant-pieces
invariant-pieces l =
    record {
      within : l.at ≤ length l.text;
      boundary : IsCharBoundary l.text l.at;
      all : follow (map (word_at l.text) l.starts.items) (words_from 0 l.at (drop l.at l.text)) ≡ words l.text;
      spanned : Spanned l.text l.at (map (word_at l.text) l.starts.items);
      stand : All (Stands l.text) l.starts.items;
    }

abbrev pub decreases-pieces : goal.decreases-pieces
decreases-pieces l = length l.text - l.at
