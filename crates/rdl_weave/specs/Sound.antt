-- Where the items of the last map are those of the source's statements that no edit touched, and others that can be written.
-- own: SystemRDL 2.0 has no edits.
use Rattle.std.specs.Prelude.{◌≡◌, ◌≤◌, ℕ, zero, suc, ◌+◌, true, List, take, Option, Some, None}
use Rattle.rdl_tree.specs.Items.{Items, no_items, plain, holder, count}
use Rattle.rdl_tree.specs.Limits.{IsWithinLimits}
use Rattle.rdl_tree.specs.View.{list_of}
use Rattle.rdl_tree.specs.declared.description.Item.{Item}
use Rattle.rdl_origin.specs.Traces.{Traces}
use Rattle.rdl_origin.specs.View as views
use Rattle.rdl_origin.specs.declared.origin.Origin.{Origin}
use Rattle.rdl_round.specs.Writable.{IsWritable}
pub use Rattle.rdl_source.specs.Alone.{IsAlone}
use Rattle.rdl_source.specs.Laid.{Laid, depth}
pub use Rattle.rdl_source.specs.Silent.{IsSilent, FloatsAreSilent}
use Rattle.rdl_source.specs.View as statements
use Rattle.rdl_source.specs.declared.statement.Statement.{Statement}
use Rattle.rdl_write.specs.MapText.{map_text}
use Rattle.rdl_weave.specs.Coarse.{kept_at, changed_at, others, next, spans_of, coarse, covers}
use Rattle.rdl_weave.specs.Untouched.{sizes_of}
use Rattle.rdl_weave.specs.Weaving.{AreStatements}

-- ---- Which items of the last map are those of statements that no edit touched.

-- the statement, if there is one, spells the first of these items, as many as it has
abbrev pub StandsFor : (source : List ℕ) → Option Statement → List Item → Type 0
StandsFor source None xs = Unit {0}
StandsFor source (Some s) xs = IsAlone source s (take s.items xs)

abbrev pub unless : {X : Type 0} → Option Statement → Option X → Option X
unless None o = o
unless (Some s) o = None

-- Of the items of a body of the last map from a number on, but for the first ones, so many: where the first item of a statement that
-- no edit touched is one of them, the statement stands for it and those behind it. The same holds inside each other item that was there.
abbrev pub Matches : (source sizes : List ℕ) → List Statement → List Origin → (skip n : ℕ) → Items → Type 0
Matches source sizes ss os skip n no_items = Unit {0}
Matches source sizes ss os (suc skip) n (plain p rest) = Matches source sizes ss os skip (next n 1) rest
Matches source sizes ss os (suc skip) n (holder h body rest) = Matches source sizes ss os skip (next n (count body + 1)) rest
Matches source sizes ss os zero n (plain p rest) =
    StandsFor source (kept_at sizes n ss os) (list_of (plain p rest)) × Matches source sizes ss os (others (kept_at sizes n ss os)) (next n 1) rest
Matches source sizes ss os zero n (holder h body rest) =
    StandsFor source (kept_at sizes n ss os) (list_of (holder h body rest))
    × (elim (unless (kept_at sizes n ss os) (changed_at n ss os)) [
      | None ↦ Unit {0}
      | Some c ↦ Matches source sizes (statements.list_of c.0) (views.list_of c.1) 0 (next n 1) body
    ])
    × Matches source sizes ss os (others (kept_at sizes n ss os)) (next n (count body + 1)) rest

-- ---- A source and what was made of its map.

-- Each of these statements stands in the last map if no edit touched it, and the last map can be written, with this canonical text.
pub record Fits (source : List ℕ) (laid : Laid) (origins : Traces) (last : Items) (canonical : List ℕ) : Type 0 where
  pub writable : IsWritable last
  pub written : map_text last ≡ canonical
  pub silent : FloatsAreSilent source laid
  pub matches : Matches source (sizes_of last) (statements.list_of laid) (views.list_of origins) 0 0 last
  pub covered : covers (spans_of (coarse source (sizes_of last) laid origins last)) (sizes_of last) laid (views.list_of origins) ≡ true

-- these are the statements of the source
pub record IsSound (source : List ℕ) (origins : Traces) (last : Items) (canonical : List ℕ) : Type 0 where
  pub laid : Laid
  pub laid_out : AreStatements source laid
  pub within : IsWithinLimits laid_out.map
  pub shallow : depth laid ≤ 16
  pub fits : Fits source laid origins last canonical
