-- One more word keeps the words one behind another.
use Rattle.std.proofs.Common.{◌≡◌, ℕ, ◌+◌, ◌-◌, ◌<◌, ◌≤◌, List, [], ◌∷◌, ◌++◌, length, take, drop, refl, ap, arith}
use Rattle.std.proofs.lemmas.List.{length-take-le}
use Rattle.std.specs.Prelude.{slice_range}
use Rattle.rdl_text.specs.Spans.{AreSpans}
use Rattle.rdl_text.specs.Word.{Word, word}
use Rattle.rdl_text.specs.declared.token.TokenKind.{TokenKind}
use Rattle.rdl_text.proofs.Cutting.{Next}

-- where the last of some words ends
abbrev pub end_of : (from : ℕ) → List Word → ℕ
end_of from [] = from
end_of from (w ∷ ws) = end_of (w.start + length w.source) ws

pub record Spanned (text : List ℕ) (at : ℕ) (ws : List Word) : Type 0 where
  pub spans : AreSpans 0 text ws
  pub ended : end_of 0 ws ≤ at

pub record IsSpan (text : List ℕ) (w : Word) : Type 0 where
  pub some : 0 < length w.source
  pub slice : slice_range text w.start (w.start + length w.source) ≡ w.source

spans_more : (text : List ℕ) (from : ℕ) (ws : List Word) (w : Word) → AreSpans from text ws → end_of from ws ≤ w.start → IsSpan text w → AreSpans from text (ws ++ (w ∷ []))
spans_more text from [] w h e s = (e, s.some, s.slice, tt)
spans_more text from (v ∷ vs) w h e s = (h.0, h.1, h.2, spans_more text (v.start + length v.source) vs w h.3 e s)

end_more : (from : ℕ) (ws : List Word) (w : Word) → end_of from (ws ++ (w ∷ [])) ≡ w.start + length w.source
end_more from [] w = refl
end_more from (v ∷ vs) w = end_more (v.start + length v.source) vs w

pub spanned-none : (text : List ℕ) → Spanned text 0 []
spanned-none text = record { spans = tt; ended = omega arith }

pub spanned-gap : (text : List ℕ) (at len : ℕ) (ws : List Word) → Spanned text at ws → Spanned text (at + len) ws
spanned-gap text at len ws h = record { spans = h.spans; ended = omega (arith, h.ended) }

pub spanned-word : (text : List ℕ) (at len : ℕ) (kind : TokenKind) (ws : List Word) → Next text at len → Spanned text at ws
    → Spanned text (at + len) (ws ++ (word kind at (take len (drop at text)) ∷ []))
spanned-word text at len kind ws n h =
    let w = word kind at (take len (drop at text)) in
    let long : length (take len (drop at text)) ≡ len = length-take-le len (drop at text) n.inside in
    let range : at + length (take len (drop at text)) - at ≡ len = omega (arith, long) in
    record {
      spans = spans_more text 0 ws w h.spans h.ended (record { some = omega (arith, long, n.some); slice = ap (λ (k : ℕ). take k (drop at text)) range });
      ended = omega (arith, long, end_more 0 ws w);
    }
