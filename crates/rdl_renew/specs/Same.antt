-- Whether the same is seen of two components, part by part.
-- own: SystemRDL 2.0 says nothing of what is seen.
use Rattle.std.specs.Prelude.{◌≡◌}
use Rattle.rdl_seen.specs.declared.seen.Seen.{Seen}

pub record HaveSameKind (a b : Seen) : Type 0 where
  pub kind : a.kind ≡ b.kind
  pub access : a.access ≡ b.access
  pub reset : a.reset ≡ b.reset

pub record HaveSameFlags (a b : Seen) : Type 0 where
  pub is_empty : a.is_empty ≡ b.is_empty
  pub has_empty : a.has_empty ≡ b.has_empty
  pub is_ordered : a.is_ordered ≡ b.is_ordered
  pub is_assigned : a.is_assigned ≡ b.is_assigned

pub record HaveSameCounts (a b : Seen) : Type 0 where
  pub levels : a.levels ≡ b.levels
  pub depth : a.depth ≡ b.depth
  pub rows : a.rows ≡ b.rows
  pub count : a.count ≡ b.count
  pub weight : a.weight ≡ b.weight

pub record HaveSameSizes (a b : Seen) : Type 0 where
  pub sound : a.sound ≡ b.sound
  pub widest : a.widest ≡ b.widest
  pub size : a.size ≡ b.size

-- they listen to the same
pub record HearTheSame (a b : Seen) : Type 0 where
  pub takes : a.takes ≡ b.takes
  pub asks : a.asks ≡ b.asks
