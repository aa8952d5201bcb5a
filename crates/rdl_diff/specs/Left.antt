-- The texts of two maps that are still to come.
-- own: how far they are.
use Rattle.std.specs.Prelude.{◌≡◌, ℕ, List, [], ◌∷◌, ◌++◌, length, map, flat_map, Option, Some, None}
use Rattle.std.specs.Vec.Iter.{into_iter_items}
use denote.Ref.{Bor}
use Rattle.rdl_diff.specs.Seen.{entry_seen}
use Rattle.rdl_diff.specs.Written.{text_in}
use Rattle.rdl_diff.specs.declared.diff.Differences.{Differences}

abbrev pub head_left : Option (Bor (List ℕ)) → List (List ℕ)
head_left None = []
head_left (Some text) = text.now ∷ []

abbrev pub left : Differences → List (List ℕ)
left d = head_left d.head ++ map (λ e. text_in d.format (entry_seen e)) (into_iter_items d.entries)

abbrev pub texts_left : Differences → ℕ
texts_left d = length (left d)

-- the next texts, of which there may be none, were appended to a text
pub record Passes (before after : Differences) (old new : List ℕ) : Type 0 where
  pub passed : List (List ℕ)
  pub next : left before ≡ passed ++ left after
  pub said : new ≡ old ++ flat_map (λ t. t) passed
