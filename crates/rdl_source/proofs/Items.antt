-- The items that begin in a span, one after another.
use Rattle.std.proofs.Common.{◌≡◌, ℕ, zero, suc, ◌+◌, ◌≤◌, List, [], ◌∷◌, length, drop, get_or, refl, ap, sym, ◌∙◌, arith}
use Rattle.std.proofs.lemmas.List.{length-drop}
use Rattle.rdl_parse.specs.declared.places.ItemPlace.{ItemPlace}
use Rattle.rdl_parse.specs.Places.{from_item}
use Rattle.rdl_source.specs.declared.span.Span.{Span}
use Rattle.rdl_source.specs.LaidOut.{IsIn, BeginsIn, past_first}

pub from-zero : (ps : List ItemPlace) → from_item 0 ps ≡ ps
from-zero [] = refl
from-zero (p ∷ ps) = refl

from-suc : (n : ℕ) (ps : List ItemPlace) → from_item (suc n) ps ≡ past_first (from_item n ps)
from-suc n [] = refl
from-suc zero (p ∷ ps) = from-zero (drop p.inside ps)
from-suc (suc n) (p ∷ ps) = from-suc n (drop p.inside ps)

pub from_more : (n : ℕ) (ps rest : List ItemPlace) → rest ≡ from_item n ps → past_first rest ≡ from_item (n + 1) ps
from_more n ps rest e = ap past_first e ∙ (sym (from-suc n ps) ∙ (let one : suc n ≡ n + 1 = omega arith in ap (λ k. from_item k ps) one))

pub begins_first : (s : Span) (rest : List ItemPlace) (d : ItemPlace) → 1 ≤ length rest → IsIn s (get_or rest 0 d) → BeginsIn s rest
begins_first s [] d h k = absurd (omega (arith, h))
begins_first s (p ∷ ps) d h k = k

pub from_end : (n : ℕ) (ps : List ItemPlace) → length ps ≤ n → from_item n ps ≡ []
from_end n [] h = refl
from_end zero (p ∷ ps) h = absurd (omega (arith, h))
from_end (suc n) (p ∷ ps) h = from_end n (drop p.inside ps) (omega (arith, length-drop p.inside ps, h))
