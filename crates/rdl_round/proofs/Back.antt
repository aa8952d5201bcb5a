-- The text of a written map spells the description that was written.
use Rattle.std.proofs.Common.{◌≡◌, ◌≤◌, ℕ, List, length, None, refl, sym, subst}
use Rattle.rdl_tree.specs.Items.{Items}
use Rattle.rdl_parse.specs.Faults.{max_text}
use Rattle.rdl_parse.specs.Parsing.{SpellsText}
use Rattle.rdl_parse.specs.Places.{Located, located}
use Rattle.rdl_parse.specs.Spelling.{Spells}
use Rattle.rdl_scope.specs.ItemFaults.{fault_of}
use Rattle.rdl_write.specs.MapText.{map_text}
use Rattle.rdl_round.specs.OfWords.{IsOfWords}
use Rattle.rdl_round.specs.Spellable.{IsSpellable}
use Rattle.rdl_round.proofs.FewSizes.{text-fits}
use Rattle.rdl_round.proofs.Lines.{map-cut}
use Rattle.rdl_round.proofs.MadeOfWords.{spelled-made}
use Rattle.rdl_round.proofs.Spelled.{spelled-spellable}
use Rattle.rdl_round.proofs.Statements.{written-words-spell}

pub reads-back : (d : Items) → IsOfWords d → IsSpellable d → length (map_text d) ≤ max_text → (p : Located) × SpellsText (map_text d) d p
reads-back d h k short =
    let cut = map-cut d h in
    let spelled = written-words-spell d k in (
      located (map_text d) cut.0 spelled.0,
      record {
        ws = cut.0;
        spots = spelled.0;
        has_words = record { short = short; cut = cut.1 };
        spelled = subst (λ ws. Spells ws d spelled.0) (sym cut.2) spelled.1;
        places_are = refl;
      },
    )

-- what a text spells is spelled by its written map too
pub again : (text : List ℕ) (d : Items) (p : Located) → SpellsText text d p → length (map_text d) ≤ max_text → (q : Located) × SpellsText (map_text d) d q
again text d p s short = reads-back d (spelled-made text s.ws d s.spots s.has_words.cut s.spelled) (spelled-spellable s.ws d s.spots s.spelled) short

-- ---- A map without a fault, whose text isn't too long.

pub faultless-reads-back : (d : Items) → IsOfWords d → IsSpellable d → fault_of d ≡ None → (p : Located) × SpellsText (map_text d) d p
faultless-reads-back d h k clear = reads-back d h k (text-fits d h clear)

pub faultless-again : (text : List ℕ) (d : Items) (p : Located) → SpellsText text d p → fault_of d ≡ None → (q : Located) × SpellsText (map_text d) d q
faultless-again text d p s clear =
    faultless-reads-back d (spelled-made text s.ws d s.spots s.has_words.cut s.spelled) (spelled-spellable s.ws d s.spots s.spelled) clear
