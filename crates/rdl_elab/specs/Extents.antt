-- What a contract sees of where the bytes of a row lie. What only an array has is mostly not held.
-- own: what is held of it. Where the bytes lie `location_of` says.
use Rattle.std.specs.Prelude.{ℕ, List, [], Option, None, Some}
use Rattle.rdl_elab.specs.declared.row.Elements.{Elements}

pub record Extent : Type 0 where
  pub offset : ℕ
  pub size : ℕ
  pub dims : List ℕ
  pub stride : ℕ

-- at this offset, of elements of this size, with the sizes and the stride that are held
abbrev pub held_extent : ℕ → ℕ → Option Elements → Extent
held_extent offset size None = record { offset = offset; size = size; dims = []; stride = size }
held_extent offset size (Some e) = record { offset = offset; size = size; dims = e.dims; stride = e.stride }
