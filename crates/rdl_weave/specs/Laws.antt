-- What the text is that is put together item by item.
-- own: SystemRDL 2.0 has no edits.
use Rattle.std.specs.Prelude.{◌≡◌, ◌≤◌, ℕ, true, List, length}
use Rattle.std.specs.Str.{IsUtf8}
use Rattle.rdl_tree.specs.Items.{Items}
use Rattle.rdl_tree.specs.Limits.{IsWithinLimits}
use Rattle.rdl_origin.specs.Once.{StandOnce}
use Rattle.rdl_origin.specs.Order.{AreInOrder}
use Rattle.rdl_origin.specs.Traces.{Traces}
use Rattle.rdl_origin.specs.Values.{AreValues}
use Rattle.rdl_origin.specs.View.{list_of}
use Rattle.rdl_parse.specs.Faults.{max_text}
use Rattle.rdl_round.specs.Writable.{IsWritable}
use Rattle.rdl_source.specs.Laid.{Laid}
use Rattle.rdl_write.specs.MapText.{map_text}
use Rattle.rdl_weave.specs.Coarse.{text_of, spans_of, coarse, covers}
use Rattle.rdl_weave.specs.InTurn.{KeepsOrder}
use Rattle.rdl_weave.specs.Keeping.{Keeps}
use Rattle.rdl_weave.specs.Sound.{Fits, IsSound}
use Rattle.rdl_weave.specs.Spelled.{SpellsAs}
use Rattle.rdl_weave.specs.Untouched.{sizes_of}
use Rattle.rdl_weave.specs.Weaving.{AreStatements}

-- it keeps what no edit touched, where the spans that stand in it cover the source's statements
abbrev pub CoarseKeeps : Type 0
CoarseKeeps =
    (source sizes : List ℕ) (l : Laid) (t : Traces) (last : Items) → covers (spans_of (coarse source sizes l t last)) sizes l (list_of t) ≡ true
    → Keeps source sizes (text_of source (coarse source sizes l t last)) l (list_of t)

-- it spells the last map, where the source's statements fit it and the text isn't too long
abbrev pub CoarseSpells : Type 0
CoarseSpells =
    (source canonical : List ℕ) (l : Laid) (t : Traces) (last : Items) → Fits source l t last canonical → length (text_of source (coarse source (sizes_of last) l t last)) ≤ max_text
    → SpellsAs canonical (text_of source (coarse source (sizes_of last) l t last))

-- it keeps the order, where these origins say which items of the source's map those of the last map are, and which weren't moved
abbrev pub CoarseKeepsOrder : Type 0
CoarseKeepsOrder =
    (source : List ℕ) (l : Laid) (t : Traces) (last : Items) (s : AreStatements source l) → IsUtf8 source → IsWritable last → AreValues 0 last t s.map → StandOnce t → AreInOrder t
    → KeepsOrder source (sizes_of last) (text_of source (coarse source (sizes_of last) l t last)) l (list_of t)

-- a source is sound for each map that can be written, and of whose items these origins say which items of the source's map they are
abbrev pub SourcesAreSound : Type 0
SourcesAreSound =
    (source canonical : List ℕ) (l : Laid) (t : Traces) (last : Items) (s : AreStatements source l) → IsUtf8 source → IsWithinLimits s.map → IsWritable last
    → map_text last ≡ canonical → AreValues 0 last t s.map → StandOnce t → IsSound source t last canonical
