-- What floats is a text by itself, without a word.
-- own: SystemRDL 2.0 says nothing of what stands around statements.
use Rattle.std.specs.Prelude.{◌≡◌, ℕ, List, [], Ok}
use Rattle.std.specs.Str.{IsUtf8}
use Rattle.rdl_text.specs.Word.{Word}
use Rattle.rdl_text.specs.Words.{words}
use Rattle.rdl_parse.specs.declared.places.ItemPlace.{ItemPlace}
use Rattle.rdl_source.specs.declared.span.Span.{Span}
use Rattle.rdl_source.specs.Laid.{Laid, ended, bare, braced}
use Rattle.rdl_source.specs.LaidOut.{IsLaidOut}
use Rattle.rdl_source.specs.LaidText.{part}

-- what the source has in the span is a text without a word
pub record IsSilent (source : List ℕ) (s : Span) : Type 0 where
  pub is_text : IsUtf8 (part source s)
  pub none : words (part source s) ≡ Ok []

-- what floats
abbrev pub FloatsAreSilent : (source : List ℕ) → Laid → Type 0
FloatsAreSilent source (ended last) = IsSilent source last
FloatsAreSilent source (bare b rest) = IsSilent source b.float × FloatsAreSilent source rest
FloatsAreSilent source (braced b br body rest) = IsSilent source b.float × FloatsAreSilent source body × FloatsAreSilent source rest

-- so is what floats between the statements of any text
abbrev pub FloatsHoldNoWord : Type 0
FloatsHoldNoWord = (source : List ℕ) (ws : List Word) (ps : List ItemPlace) (laid : Laid) → IsUtf8 source → IsLaidOut source ws ps laid → FloatsAreSilent source laid
