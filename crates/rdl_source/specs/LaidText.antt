-- The text of statements: all their parts, one behind another.
-- own: SystemRDL 2.0 says nothing of what stands around statements.
use Rattle.std.specs.Prelude.{ℕ, List, ◌++◌, slice_range}
use Rattle.rdl_source.specs.declared.span.Span.{Span}
use Rattle.rdl_source.specs.Laid.{Laid, ended, bare, braced}

-- the bytes of the source in a span
abbrev pub part : List ℕ → Span → List ℕ
part source s = slice_range source s.from s.to

abbrev pub laid_text : List ℕ → Laid → List ℕ
laid_text source (ended last) = part source last
laid_text source (bare b rest) = part source b.float ++ (part source b.lead ++ (part source b.words ++ (part source b.trail ++ laid_text source rest)))
laid_text source (braced b br body rest) =
    part source b.float ++ (part source b.lead
    ++ (slice_range source b.words.from br.begin ++ (laid_text source body ++ (slice_range source br.close b.words.to
    ++ (part source b.trail ++ laid_text source rest)))))
