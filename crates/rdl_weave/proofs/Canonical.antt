-- A text that was read, and the canonical text of its map.
use Rattle.std.proofs.Common.{◌≡◌, ℕ, List, Bool, ap, sym, ◌∙◌, IsTrue}
use Rattle.std.proofs.lemmas.Slice.Eq.{bytes_eq-Decides}
use Rattle.std.specs.Prelude.{bytes_eq}
use Rattle.rdl_tree.specs.Items.{Items}
use Rattle.rdl_tree.specs.Limits.{IsWithinLimits}
use Rattle.rdl_parse.specs.Parsing.{SpellsText}
use Rattle.rdl_parse.specs.Places.{Located}
use Rattle.rdl_write.specs.MapText.{map_text}
use Rattle.rdl_weave.specs.Spelled.{SpellsAs}

-- the comparison of the canonical text of the only map that a text spells says whether the text spells a map with that text
pub spelled_iff : (canonical text written : List ℕ) (d : Items) (p : Located) (r : Bool) → SpellsText text d p × IsWithinLimits d → written ≡ map_text d → r ≡ bytes_eq written canonical
    → ((e : Items) (q : Located) → SpellsText text e q → IsWithinLimits e → (d ≡ e) × (p ≡ q))
    → (IsTrue r → SpellsAs canonical text) × (SpellsAs canonical text → IsTrue r)
spelled_iff canonical text written d p r found w b only = (
  (λ h. record { map = d; places = p; spelled = found.0; within = found.1; is = sym w ∙ (bytes_eq-Decides written canonical).0 (sym b ∙ h) }),
  (λ s. let same : written ≡ canonical = w ∙ ap map_text (only s.map s.places s.spelled s.within).0 ∙ s.is in b ∙ (bytes_eq-Decides written canonical).1 same),
)
