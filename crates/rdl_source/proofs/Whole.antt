-- Where statements lie, all their parts one behind another are the text there, and they end where a body ends.
use Rattle.std.proofs.Common.{◌≡◌, ℕ, ◌+◌, ◌≤◌, List, [], ◌∷◌, ◌++◌, length, None, ap, ◌∙◌, subst, arith}
use Rattle.std.specs.Prelude.{slice_range, slice_get}
use Rattle.std.specs.Option.{option_map}
use Rattle.std.proofs.lemmas.Option.{slice_get_past}
use Rattle.rdl_text.specs.Word.{Word}
use Rattle.rdl_parse.specs.declared.places.ItemPlace.{ItemPlace}
use Rattle.rdl_parse.specs.Places.{from_item, inside_first}
use Rattle.rdl_source.specs.declared.span.Span.{Span}
use Rattle.rdl_source.specs.declared.gap.Left.{Left}
use Rattle.rdl_source.specs.declared.gap.Left.TheVariants as left
use Rattle.rdl_source.specs.declared.gap.Right.{Right}
use Rattle.rdl_source.specs.declared.gap.Right.TheVariants as right
use Rattle.rdl_source.specs.Laid.{Bare, Braces, Laid, ended, bare, braced}
use Rattle.rdl_source.specs.LaidText.{part, laid_text}
use Rattle.rdl_source.specs.LaidOut.{start_at, StandsBehind, IsGap, BeginsIn, Has, Lie, IsLaidOut}
use Rattle.rdl_source.proofs.Spans.{joined}

-- ---- The end.

pub end_at : (source : List ℕ) (ws : List Word) (laid : Laid) (l : Left) (at to k : ℕ) (ps : List ItemPlace) (close n : ℕ) → Lie source ws laid l at to k ps close n → StandsBehind source right.End close (start_at ws n)
end_at source ws (ended last) l at to k ps close n h = subst (λ m. StandsBehind source right.End close (start_at ws m)) h.5 h.2.behind
end_at source ws (bare b rest) l at to k ps close n h = end_at source ws rest left.Word b.words.to b.trail.to (h.1 + 1) (from_item b.items ps) close n h.6
end_at source ws (braced b br body rest) l at to k ps close n h = end_at source ws rest left.Word b.words.to b.trail.to (h.7 + 1) (from_item b.items ps) close n h.11

pub whole_end : (source : List ℕ) (ws : List Word) (close n : ℕ) → StandsBehind source right.End close (start_at ws n) → n ≡ length ws → close ≡ length source
whole_end source ws close n h e =
    let none : slice_get ws n ≡ None = slice_get_past ws n (omega (arith, e)) in
    subst (λ o. StandsBehind source right.End close (option_map (λ (w : Word). w.start) o)) none h

pub laid_out : (source : List ℕ) (ws : List Word) (laid : Laid) (to : ℕ) (ps : List ItemPlace) (close n : ℕ) → Lie source ws laid left.Begin 0 to 0 ps close n → to ≡ 0 → n ≡ length ws → IsLaidOut source ws ps laid
laid_out source ws laid to ps close n h first last =
    let end = whole_end source ws close n (end_at source ws laid left.Begin 0 to 0 ps close n h) last in
    let a = subst (λ m. Lie source ws laid left.Begin 0 m 0 ps close n) first h in
    let b = subst (λ m. Lie source ws laid left.Begin 0 0 0 ps m n) end a in
    subst (λ m. Lie source ws laid left.Begin 0 0 0 ps (length source) m) last b

-- ---- The text.

join : (xs : List ℕ) (a b c : ℕ) (t : List ℕ) → a ≤ b → b ≤ c → c ≤ length xs → t ≡ slice_range xs b c → slice_range xs a b ++ t ≡ slice_range xs a c
join xs a b c t h k m e = ap (λ u. slice_range xs a b ++ u) e ∙ joined xs a b c h k m

-- a gap's trail ends behind its begin
begun : (source : List ℕ) (ws : List Word) (laid : Laid) (l : Left) (at to k : ℕ) (ps : List ItemPlace) (close n : ℕ) → Lie source ws laid l at to k ps close n → at ≤ to
begun source ws (ended last) l at to k ps close n h = omega (arith, h.2.to_is)
begun source ws (bare b rest) l at to k ps close n h = omega (arith, h.0.to_is)
begun source ws (braced b br body rest) l at to k ps close n h = omega (arith, h.0.to_is)

-- a statement has some words
some_begin : (s : Span) (ps : List ItemPlace) → BeginsIn s ps → s.from ≤ s.to
some_begin s [] h = absurd h
some_begin s (p ∷ ps) h = omega (arith, h.0, h.1)

some_words : (end : ℕ) (ps : List ItemPlace) (b : Bare) → Has end ps b → b.words.from ≤ b.words.to
some_words end ps b h = some_begin b.words (from_item 0 ps) (h.items 0 h.some)

pub record Shown (source : List ℕ) (laid : Laid) (to close : ℕ) : Type 0 where
  pub ordered : to ≤ close
  pub within : close ≤ length source
  pub text : laid_text source laid ≡ slice_range source to close

-- what stands before the words of a statement, and then these
fronted : (source : List ℕ) (ws : List Word) (l : Left) (r : Right) (at k to close : ℕ) (b : Bare) (t : List ℕ) → IsGap source ws l r at k b.words.from to b.float b.lead
    → b.words.from ≤ close → close ≤ length source → t ≡ slice_range source b.words.from close
    → part source b.float ++ (part source b.lead ++ t) ≡ slice_range source to close
fronted source ws l r at k to close b t g h m e =
    let mid = to + g.parts.float in
    let low : mid ≤ b.words.from = omega (arith, g.whole, g.to_is) in
    let behind : part source b.lead ++ t ≡ slice_range source mid close = ap (λ s. part source s ++ t) g.lead_is ∙ join source mid b.words.from close t low h m e in
    ap (λ s. part source s ++ (part source b.lead ++ t)) g.float_is ∙ join source to mid close (part source b.lead ++ t) (omega arith) (omega (arith, low, h)) m behind

-- the trail of a statement, and then these
trailed : (source : List ℕ) (close end : ℕ) (ps : List ItemPlace) (b : Bare) (t : List ℕ) → Has end ps b → b.words.to ≤ b.trail.to → b.trail.to ≤ close → close ≤ length source
    → t ≡ slice_range source b.trail.to close → part source b.trail ++ t ≡ slice_range source b.words.to close
trailed source close end ps b t h k m n e =
    ap (λ f. slice_range source f b.trail.to ++ t) h.trail_begin ∙ join source b.words.to b.trail.to close t k m n e

shown_bare : (source : List ℕ) (ws : List Word) (l : Left) (at to k : ℕ) (ps : List ItemPlace) (close end : ℕ) (b : Bare) (rest : Laid)
    → IsGap source ws l right.Statement at k b.words.from to b.float b.lead → Has end ps b → b.words.to ≤ b.trail.to → Shown source rest b.trail.to close
    → Shown source (bare b rest) to close
shown_bare source ws l at to k ps close end b rest g h k' r =
    let some = some_words end ps b h in
    let low : b.words.from ≤ close = omega (arith, some, k', r.ordered) in
    let tail = trailed source close end ps b (laid_text source rest) h k' r.ordered r.within r.text in
    let words = join source b.words.from b.words.to close (part source b.trail ++ laid_text source rest) some (omega (arith, k', r.ordered)) r.within tail in
    record {
      ordered = omega (arith, g.whole, g.to_is, low);
      within = r.within;
      text = fronted source ws l right.Statement at k to close b (part source b.words ++ (part source b.trail ++ laid_text source rest)) g low r.within words;
    }

shown_braced : (source : List ℕ) (ws : List Word) (l : Left) (at to k : ℕ) (ps : List ItemPlace) (close end : ℕ) (b : Bare) (br : Braces) (body rest : Laid)
    → IsGap source ws l right.Statement at k b.words.from to b.float b.lead → Has end ps b → b.words.to ≤ b.trail.to → Shown source rest b.trail.to close
    → b.words.from ≤ br.begin → br.close ≤ b.words.to → Shown source body br.begin br.close
    → Shown source (braced b br body rest) to close
shown_braced source ws l at to k ps close end b br body rest g h k' r low high i =
    let tail = trailed source close end ps b (laid_text source rest) h k' r.ordered r.within r.text in
    let last = join source br.close b.words.to close (part source b.trail ++ laid_text source rest) high (omega (arith, k', r.ordered)) r.within tail in
    let behind = slice_range source br.close b.words.to ++ (part source b.trail ++ laid_text source rest) in
    let wide : br.close ≤ close = omega (arith, high, k', r.ordered) in
    let inner : laid_text source body ++ behind ≡ slice_range source br.begin close = ap (λ u. u ++ behind) i.text ∙ join source br.begin br.close close behind i.ordered wide r.within last in
    let words = join source b.words.from br.begin close (laid_text source body ++ behind) low (omega (arith, i.ordered, wide)) r.within inner in
    let long : b.words.from ≤ close = omega (arith, low, i.ordered, wide) in
    record {
      ordered = omega (arith, g.whole, g.to_is, long);
      within = r.within;
      text = fronted source ws l right.Statement at k to close b (slice_range source b.words.from br.begin ++ (laid_text source body ++ behind)) g long r.within words;
    }

pub shown : (source : List ℕ) (ws : List Word) (laid : Laid) (l : Left) (at to k : ℕ) (ps : List ItemPlace) (close n : ℕ) → Lie source ws laid l at to k ps close n → Shown source laid to close
shown source ws (ended last) l at to k ps close n h = record { ordered = omega (arith, h.2.whole, h.2.to_is); within = h.2.within; text = ap (part source) h.3 }
shown source ws (bare b rest) l at to k ps close n h =
    shown_bare source ws l at to k ps close h.2 b rest h.0 h.5 (begun source ws rest left.Word b.words.to b.trail.to (h.1 + 1) (from_item b.items ps) close n h.6)
    (shown source ws rest left.Word b.words.to b.trail.to (h.1 + 1) (from_item b.items ps) close n h.6)
shown source ws (braced b br body rest) l at to k ps close n h =
    let first = begun source ws body left.Word (h.2 + 1) br.begin (h.1 + 1) (inside_first ps) br.close h.4 h.5 in
    shown_braced source ws l at to k ps close h.8 b br body rest h.0 h.10 (begun source ws rest left.Word b.words.to b.trail.to (h.7 + 1) (from_item b.items ps) close n h.11)
    (shown source ws rest left.Word b.words.to b.trail.to (h.7 + 1) (from_item b.items ps) close n h.11)
    (omega (arith, h.3.0.ordered, first)) (omega (arith, h.9.0.ordered, h.10.words_end))
    (shown source ws body left.Word (h.2 + 1) br.begin (h.1 + 1) (inside_first ps) br.close h.4 h.5)

pub laid_whole : (source : List ℕ) (ws : List Word) (ps : List ItemPlace) (laid : Laid) → IsLaidOut source ws ps laid → laid_text source laid ≡ slice_range source 0 (length source)
laid_whole source ws ps laid h = (shown source ws laid left.Begin 0 0 0 ps (length source) (length ws) h).text
