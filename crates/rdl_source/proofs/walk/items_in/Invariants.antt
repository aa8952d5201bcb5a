-- The items so far begin in the span, and the rest are those behind them.
use Rattle.std.proofs.Common.{◌≡◌, ℕ, ◌<◌}
use Rattle.rdl_parse.specs.Places.{from_item}
use Rattle.rdl_source.specs.LaidOut.{BeginsIn}
use Rattle.rdl_source.proofs.walk.items_in.Given as goal

abbrev pub invariant-items : goal.invariant-items
invariant-items l = record {
  items : (i : ℕ) → i < l.count → BeginsIn l.span (from_item i l.places);
  rest : l.rest ≡ from_item l.count l.places;
}
