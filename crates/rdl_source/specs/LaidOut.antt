-- Which statements those of a text are: what stands between words is cut as a gap, statements end at semicolons, bodies stand in braces, and each statement has its items.
-- own: SystemRDL 2.0 says nothing of what stands around statements.
use Rattle.std.specs.Prelude.{◌≡◌, ℕ, ◌+◌, ◌<◌, ◌≤◌, Bool, true, false, ◌||◌, nat_eq, if◌then◌else◌, List, [], ◌∷◌, length, drop, Option, Some, None, slice_range, slice_get}
use Rattle.std.specs.Option.{option_map}
use Rattle.rdl_text.specs.Rows.{byte}
use Rattle.rdl_text.specs.Word.{Word}
use Rattle.rdl_parse.specs.declared.places.ItemPlace.{ItemPlace}
use Rattle.rdl_parse.specs.Places.{from_item, inside_first}
use Rattle.rdl_source.specs.declared.span.Span.{Span}
use Rattle.rdl_source.specs.declared.gap.Left.{Left}
use Rattle.rdl_source.specs.declared.gap.Left.TheVariants as left
use Rattle.rdl_source.specs.declared.gap.Right.{Right}
use Rattle.rdl_source.specs.declared.gap.Right.TheVariants as right
use Rattle.rdl_source.specs.declared.gap.Parts.{Parts}
use Rattle.rdl_source.specs.Gap.{gap_parts}
use Rattle.rdl_source.specs.Laid.{Bare, Laid, ended, bare, braced}

-- ---- Words, by their numbers, and gaps between them.

-- the byte at which the word of this number begins
abbrev pub start_at : List Word → ℕ → Option ℕ
start_at ws k = option_map (λ w. w.start) (slice_get ws k)

-- behind a gap that ends at a byte begins a word that is no brace that closes; or a body ends, with such a brace or with the text
abbrev pub StandsBehind : List ℕ → Right → (end : ℕ) → Option ℕ → Type 0
StandsBehind source right.Statement end None = ⊥
StandsBehind source right.Statement end (Some start) = (end ≡ start) × (byte source start ≡ 125 → ⊥)
StandsBehind source right.End end None = end ≡ length source
StandsBehind source right.End end (Some start) = (end ≡ start) × (byte source start ≡ 125)

-- From a byte up to the word k stands a gap. What of it belongs to the word before it ends at `to`, and behind that stand these two.
pub record IsGap (source : List ℕ) (ws : List Word) (l : Left) (r : Right) (at k end to : ℕ) (float lead : Span) : Type 0 where
  pub behind : StandsBehind source r end (start_at ws k)
  pub ordered : at ≤ end
  pub within : end ≤ length source
  pub parts : Parts
  pub cut : gap_parts l r (slice_range source at end) ≡ Some parts
  pub whole : at + parts.trail + parts.float ≤ end
  pub to_is : to ≡ at + parts.trail
  pub float_is : float ≡ record { from = to; to = to + parts.float }
  pub lead_is : lead ≡ record { from = to + parts.float; to = end }

-- a semicolon or a brace
abbrev pub is_stop : ℕ → Bool
is_stop c = nat_eq c 59 || nat_eq c 123 || nat_eq c 125

-- the first semicolon or brace from the word k on is the word j, which begins at a byte, and behind another
pub record IsStop (source : List ℕ) (ws : List Word) (behind k j at : ℕ) : Type 0 where
  pub from : k ≤ j
  pub ordered : behind ≤ at
  pub there : start_at ws j ≡ Some at
  pub within : at < length source
  pub mark : is_stop (byte source at) ≡ true
  pub first : (i b : ℕ) → k ≤ i → i < j → start_at ws i ≡ Some b → is_stop (byte source b) ≡ false

-- it is a semicolon, a brace that opens
abbrev pub Closes : List ℕ → List Word → (behind k j at : ℕ) → Type 0
Closes source ws behind k j at = IsStop source ws behind k j at × (byte source at ≡ 59)

abbrev pub Opens : List ℕ → List Word → (behind k j at : ℕ) → Type 0
Opens source ws behind k j at = IsStop source ws behind k j at × (byte source at ≡ 123)

-- ---- Items.

abbrev pub IsIn : Span → ItemPlace → Type 0
IsIn s p = (s.from ≤ p.start) × (p.start < s.to)

-- the first of these items begins in a span
abbrev pub BeginsIn : Span → List ItemPlace → Type 0
BeginsIn s [] = ⊥
BeginsIn s (p ∷ ps) = IsIn s p

-- a statement whose semicolon is at a byte, and which has the first of these items
pub record Has (at : ℕ) (ps : List ItemPlace) (b : Bare) : Type 0 where
  pub words_end : b.words.to ≡ at + 1
  pub trail_begin : b.trail.from ≡ b.words.to
  pub some : 0 < b.items
  pub items : (i : ℕ) → i < b.items → BeginsIn b.words (from_item i ps)

-- ---- Statements.

-- Behind a byte, from the word k on, lie these statements, which have these items, up to a byte and the word n.
-- What of the gap that begins at the byte belongs to the word before it ends at `to`.
abbrev pub Lie : List ℕ → List Word → Laid → Left → (at to k : ℕ) → List ItemPlace → (close n : ℕ) → Type 0
Lie source ws (ended last) l at to k ps close n =
    (float : Span) × (lead : Span) × IsGap source ws l right.End at k close to float lead
    × (last ≡ record { from = to; to = close }) × (ps ≡ []) × (k ≡ n)
Lie source ws (bare b rest) l at to k ps close n =
    IsGap source ws l right.Statement at k b.words.from to b.float b.lead
    × (j : ℕ) × (end : ℕ) × Closes source ws b.words.from k j end × (inside_first ps ≡ [])
    × Has end ps b
    × Lie source ws rest left.Word b.words.to b.trail.to (j + 1) (from_item b.items ps) close n
Lie source ws (braced b br body rest) l at to k ps close n =
    IsGap source ws l right.Statement at k b.words.from to b.float b.lead
    × (o : ℕ) × (brace : ℕ) × Opens source ws b.words.from k o brace
    × (c : ℕ) × Lie source ws body left.Word (brace + 1) br.begin (o + 1) (inside_first ps) br.close c × (byte source br.close ≡ 125)
    × (j : ℕ) × (end : ℕ) × Closes source ws br.close (c + 1) j end
    × Has end ps b
    × Lie source ws rest left.Word b.words.to b.trail.to (j + 1) (from_item b.items ps) close n

-- all statements of a text with these words, whose items have these places
abbrev pub IsLaidOut : List ℕ → List Word → List ItemPlace → Laid → Type 0
IsLaidOut source ws ps laid = Lie source ws laid left.Begin 0 0 0 ps (length source) (length ws)

-- ---- What the code has of a gap, and of items.

-- what stands behind a gap up to a word that begins at a byte
abbrev pub right_of : List ℕ → ℕ → Right
right_of source start = if nat_eq (byte source start) 125 then right.End else right.Statement

-- the items behind the first of these
abbrev pub past_first : List ItemPlace → List ItemPlace
past_first [] = []
past_first (p ∷ ps) = drop p.inside ps
