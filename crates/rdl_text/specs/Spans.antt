-- Words that stand in a text one behind another.
-- SystemRDL 2.0, lexical conventions.
use Rattle.std.specs.Prelude.{ℕ, ◌≡◌, ◌+◌, ◌<◌, ◌≤◌, List, [], ◌∷◌, length, slice_range}
use Rattle.rdl_text.specs.Word.{Word}

-- each is the bytes of the text from its start on, has some, and begins where the one before it ends or later
abbrev pub AreSpans : (from : ℕ) → (text : List ℕ) → List Word → Type 0
AreSpans from text [] = Unit {0}
AreSpans from text (w ∷ ws) =
    (from ≤ w.start) × (0 < length w.source) × (slice_range text w.start (w.start + length w.source) ≡ w.source)
    × AreSpans (w.start + length w.source) text ws
