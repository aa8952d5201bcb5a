-- Steps of the rows of the table of words.
use Rattle.std.proofs.Common.{◌≡◌, ℕ, ◌<◌, List, length, get_or, Some, Result, refl, inl, inr, arith}
use Rattle.std.proofs.lemmas.Bool.{ne_eqb, cases_lt}
use Rattle.std.proofs.lemmas.List.{get_or_past}
use Rattle.rdl_text.specs.Words.{candidate}
use Rattle.rdl_text.specs.declared.fault.WordFault.{WordFault}
use Rattle.rdl_text.specs.declared.token.TokenKind.{TokenKind}

pub candidate_some : (n : ℕ) (k : Result TokenKind WordFault) → 0 < n → candidate n k ≡ Some (record { len = n; kind = k })
candidate_some n k h = rw (ne_eqb n 0 (λ e. absurd (omega arith))) refl

-- a byte that isn't 0 was read inside the text
pub within_from_byte : (s : List ℕ) (i : ℕ) → 0 < get_or s i 0 → i < length s
within_from_byte s i h = elim (cases_lt i (length s)) [ inl within ↦ within | inr past ↦ absurd (omega (arith, get_or_past s i 0 past)) ]

pub ruleset row_lemmas = (candidate_some, within_from_byte)
