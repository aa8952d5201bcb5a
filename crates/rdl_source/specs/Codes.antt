-- How the logic stores statements: as trees of numbers, no two alike.
-- own: no part of what statements mean.
use Rattle.std.specs.Prelude.{◌≡◌, ℕ, refl}
use Rattle.std.proofs.Common.{ap, arith}
use Rattle.std.specs.Coded.{Coded, code_by, coded×, coded_ℕ}
use base.Stored.{Gv, gnil, gnum, gcons}
use Rattle.rdl_source.specs.declared.span.Span.{Span}
use Rattle.rdl_source.specs.Laid.{Bare, Braces, Laid, ended, bare, braced}

abbrev pub coded_span : Coded Span
coded_span = code_by (ℕ × ℕ) (coded× coded_ℕ coded_ℕ) (λ s. (s.from, s.to)) (λ p. record { from = p.0; to = p.1 }) (λ s. refl)

abbrev Parts : Type 0
Parts = (Span × Span) × ((Span × Span) × ℕ)

abbrev pub coded_bare : Coded Bare
coded_bare =
    code_by Parts (coded× (coded× coded_span coded_span) (coded× (coded× coded_span coded_span) coded_ℕ))
    (λ b. ((b.float, b.lead), ((b.words, b.trail), b.items)))
    (λ p. record { float = p.0.0; lead = p.0.1; words = p.1.0.0; trail = p.1.0.1; items = p.1.1 })
    (λ b. refl)

abbrev pub coded_braces : Coded Braces
coded_braces = code_by (ℕ × ℕ) (coded× coded_ℕ coded_ℕ) (λ b. (b.begin, b.close)) (λ p. record { begin = p.0; close = p.1 }) (λ b. refl)

abbrev head : Gv → Gv
head gnil = gnil
head (gnum n) = gnil
head (gcons a b) = a

abbrev tail : Gv → Gv
tail gnil = gnil
tail (gnum n) = gnil
tail (gcons a b) = b

abbrev laid_code : Laid → Gv
laid_code (ended last) = gcons (gnum 0) (coded_span.code last)
laid_code (bare b rest) = gcons (gnum 1) (gcons (coded_bare.code b) (laid_code rest))
laid_code (braced b br body rest) = gcons (gnum 2) (gcons (gcons (coded_bare.code b) (coded_braces.code br)) (gcons (laid_code body) (laid_code rest)))

abbrev mark : Gv → ℕ
mark gnil = 0
mark (gnum n) = n
mark (gcons a b) = 0

differ : (m n : ℕ) → m ≡ n → (m ≡ n → ⊥) → ⊥
differ m n p q = q p

pub laid_inj : (x y : Laid) → laid_code x ≡ laid_code y → x ≡ y
laid_inj (ended a) (ended b) p = ap ended (coded_span.inj a b (ap tail p))
laid_inj (ended a) (bare b0 b1) p = absurd (differ 0 1 (ap (λ g. mark (head g)) p) (omega arith))
laid_inj (ended a) (braced b0 b1 b2 b3) p = absurd (differ 0 2 (ap (λ g. mark (head g)) p) (omega arith))
laid_inj (bare a0 a1) (ended b) p = absurd (differ 1 0 (ap (λ g. mark (head g)) p) (omega arith))
laid_inj (bare a0 a1) (bare b0 b1) p = λ i. bare (coded_bare.inj a0 b0 (ap (λ g. head (tail g)) p) i) (laid_inj a1 b1 (ap (λ g. tail (tail g)) p) i)
laid_inj (bare a0 a1) (braced b0 b1 b2 b3) p = absurd (differ 1 2 (ap (λ g. mark (head g)) p) (omega arith))
laid_inj (braced a0 a1 a2 a3) (ended b) p = absurd (differ 2 0 (ap (λ g. mark (head g)) p) (omega arith))
laid_inj (braced a0 a1 a2 a3) (bare b0 b1) p = absurd (differ 2 1 (ap (λ g. mark (head g)) p) (omega arith))
laid_inj (braced a0 a1 a2 a3) (braced b0 b1 b2 b3) p =
    λ i. braced (coded_bare.inj a0 b0 (ap (λ g. head (head (tail g))) p) i) (coded_braces.inj a1 b1 (ap (λ g. tail (head (tail g))) p) i)
    (laid_inj a2 b2 (ap (λ g. head (tail (tail g))) p) i) (laid_inj a3 b3 (ap (λ g. tail (tail (tail g))) p) i)

abbrev pub coded_laid : Coded Laid
coded_laid = record { code = laid_code; inj = laid_inj }
