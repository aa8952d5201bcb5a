-- The room of a body's items on both sides of a place.
-- own: SystemRDL 2.0 has no edits.
use Rattle.std.specs.Prelude.{ℕ, ◌+◌, ◌≤◌}

-- so many items before and behind the place, of which each list can hold all
pub record HaveRoom (before behind room_before room_behind : ℕ) : Type 0 where
  pub in_front : before + behind ≤ room_before
  pub at_back : before + behind ≤ room_behind
