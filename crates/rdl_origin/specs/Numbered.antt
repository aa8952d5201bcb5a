-- What each item is before any step back, and what an item is that was removed.
-- own: SystemRDL 2.0 has no edits.
use Rattle.std.specs.Prelude.{ℕ, ◌+◌, ◌-◌, ◌^◌, min, false, Option, Some, None}
use Rattle.rdl_tree.specs.Items.{Items, no_items, plain, holder, count}
use Rattle.rdl_tree.specs.View.{own_body}
use Rattle.rdl_tree.specs.declared.description.Item.{Item}
use Rattle.rdl_origin.specs.Traces.{Traces, no_traces, trace}
use Rattle.rdl_origin.specs.declared.origin.Origin.{Origin}

-- numbers stop at the greatest `u32`
abbrev pub capped : ℕ → ℕ
capped n = min n (2 ^ 32 - 1)

-- ---- Each item of the last map is itself, unchanged and where it was.

-- the items are numbered in pre-order, from this number on
abbrev pub numbered : ℕ → Items → Traces
numbered n no_items = no_traces
numbered n (plain p rest) = trace (Some (capped n)) false false no_traces (numbered (n + 1) rest)
numbered n (holder h body rest) =
    trace (Some (capped n)) false false (numbered (n + 1) body) (numbered (n + 1 + count body) rest)

abbrev pub origins_of : Items → Traces
origins_of last = numbered 0 last

abbrev pub numbered_body : ℕ → Option Items → Traces
numbered_body n None = no_traces
numbered_body n (Some body) = numbered n body

abbrev pub numbered_item : ℕ → Item → Origin
numbered_item n x =
    record { now = Some (capped n); is_touched = false; is_moved = false; inside = numbered_body (n + 1) (own_body x) }

-- ---- An item that was removed is none of the last map, and those inside it aren't either.

abbrev pub unnumbered : Items → Traces
unnumbered no_items = no_traces
unnumbered (plain p rest) = trace None false false no_traces (unnumbered rest)
unnumbered (holder h body rest) = trace None false false (unnumbered body) (unnumbered rest)

abbrev pub unnumbered_body : Option Items → Traces
unnumbered_body None = no_traces
unnumbered_body (Some body) = unnumbered body

abbrev pub unnumbered_item : Item → Origin
unnumbered_item x = record { now = None; is_touched = false; is_moved = false; inside = unnumbered_body (own_body x) }
