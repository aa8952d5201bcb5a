-- What reading answers for a written map.
use Rattle.std.proofs.Common.{◌≡◌, ◌≤◌, ℕ, false, List, length, None, Ok, sym, ap, arith}
use Rattle.std.proofs.lemmas.Bool.Decides.{nat_tests}
use Rattle.std.specs.Prelude.{nat_lt}
use Rattle.rdl_tree.specs.Items.{Items}
use Rattle.rdl_tree.specs.Limits.{IsWithinLimits}
use Rattle.rdl_parse.specs.Faults.{max_text}
use Rattle.rdl_parse.specs.FirstFault.{parse_reading}
use Rattle.rdl_parse.specs.Parsing.{SpellsText}
use Rattle.rdl_parse.specs.Places.{Located}
use Rattle.rdl_parse.specs.Symbol.{symbols}
use Rattle.rdl_parse.proofs.Exact.{read-only}
use Rattle.rdl_scope.specs.ItemFaults.{fault_of}
use Rattle.rdl_write.specs.MapText.{map_text}
use Rattle.rdl_round.specs.OfWords.{IsOfWords}
use Rattle.rdl_round.specs.Spellable.{IsSpellable}
use Rattle.rdl_round.proofs.Back.{reads-back, again, faultless-reads-back, faultless-again}
use Rattle.rdl_round.proofs.Faultless.{fitting}

not-longer : (m n : ℕ) → n ≤ m → nat_lt m n ≡ false
not-longer m n h = grind (arith, nat_tests)

-- what a text spells within the limits is what reading gives
spelled-parses : (s : List ℕ) (d : Items) (p : Located) → SpellsText s d p → IsWithinLimits d → parse_reading s ≡ Ok (d, p)
spelled-parses s d p t w =
    let read = read-only (symbols t.ws) d t.spots t.spelled w in
    rw (not-longer max_text (length s) t.has_words.short, t.has_words.cut, read) (ap (λ q. Ok (d, q)) (sym t.places_are))

pub written-parses : (d : Items) → IsOfWords d → IsSpellable d → IsWithinLimits d → length (map_text d) ≤ max_text → (p : Located) × (parse_reading (map_text d) ≡ Ok (d, p))
written-parses d h k w short = let r = reads-back d h k short in (r.0, spelled-parses (map_text d) d r.0 r.1 w)

pub parses-again : (text : List ℕ) (d : Items) (p : Located) → SpellsText text d p → IsWithinLimits d → length (map_text d) ≤ max_text → (q : Located) × (parse_reading (map_text d) ≡ Ok (d, q))
parses-again text d p s w short = let r = again text d p s short in (r.0, spelled-parses (map_text d) d r.0 r.1 w)

-- ---- A map without a fault, which is within the limits.

pub faultless-parses : (d : Items) → IsOfWords d → IsSpellable d → fault_of d ≡ None → (p : Located) × (parse_reading (map_text d) ≡ Ok (d, p))
faultless-parses d h k clear = let r = faultless-reads-back d h k clear in (r.0, spelled-parses (map_text d) d r.0 r.1 (fitting d clear))

pub faultless-parses-again : (text : List ℕ) (d : Items) (p : Located) → SpellsText text d p → fault_of d ≡ None → (q : Located) × (parse_reading (map_text d) ≡ Ok (d, q))
faultless-parses-again text d p s clear = let r = faultless-again text d p s clear in (r.0, spelled-parses (map_text d) d r.0 r.1 (fitting d clear))
