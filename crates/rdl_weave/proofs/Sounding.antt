-- A source that was read has the statements of which the definition of sound speaks.
use Rattle.std.proofs.Common.{◌≡◌, ◌≤◌, ◌<◌, ℕ, length, inr, Bool, true, false, IsTrue, List, Option, Some, None, Result, Ok, Err, IfOk, refl, sym, ◌∙◌, subst}
use Rattle.std.proofs.lemmas.Bool.{false≢true}
use Rattle.std.specs.Prelude.{◌↔◌, MatchOption}
use Rattle.rdl_text.specs.Word.{Word}
use Rattle.rdl_text.specs.Words.{words}
use Rattle.rdl_text.specs.declared.fault.TextFault.{TextFault}
use Rattle.rdl_tree.specs.Items.{Items}
use Rattle.rdl_tree.specs.Limits.{IsWithinLimits}
use Rattle.rdl_origin.specs.Traces.{Traces}
use Rattle.rdl_parse.specs.Faults.{max_text}
use Rattle.rdl_parse.specs.declared.places.ItemPlace.{ItemPlace}
use Rattle.rdl_source.specs.Laid.{Laid, depth}
use Rattle.rdl_source.specs.LaidOut.{IsLaidOut}
use Rattle.rdl_weave.specs.Coarse.{text_of, coarse}
use Rattle.rdl_weave.specs.Sound.{Fits, IsSound}
use Rattle.rdl_weave.specs.Sources.{IsSource}
use Rattle.rdl_weave.specs.Spelled.{SpellsAs}
use Rattle.rdl_weave.specs.Untouched.{sizes_of}
use Rattle.rdl_weave.specs.Weaving.{AreStatements, MayBeTooLong}
use Rattle.rdl_weave.specs.declared.source.Source.{Source}

pub laid_fits : (source canonical : List ℕ) (t : Traces) (d : Items) (l : Laid) → ((laid : Laid) (s : AreStatements source laid) → IsWithinLimits s.map → depth laid ≤ 16 → l ≡ laid)
    → IsSound source t d canonical → Fits source l t d canonical
laid_fits source canonical t d l only s = subst (λ m. Fits source m t d canonical) (sym (only s.laid s.laid_out s.within s.shallow)) s.fits

same_words : (vs ws : List Word) → ◌≡◌ {A = Result (List Word) TextFault} (Ok vs) (Ok ws) → vs ≡ ws
same_words vs ws e = cc

-- the words and the places that were read are those of the statements
pub lie_so : (source : List ℕ) (ws : List Word) (ps : List ItemPlace) (laid : Laid) (s : AreStatements source laid) → words source ≡ Ok ws → ps ≡ s.places.places → IsLaidOut source ws ps laid
lie_so source ws ps laid s e f =
    subst (λ qs. IsLaidOut source ws qs laid) (sym f) (subst (λ vs. IsLaidOut source vs s.places.places laid) (same_words s.words ws (sym s.has_words.cut ∙ e)) s.laid_out)

abbrev Found : Type 0
Found = Option Laid

pub some_same : (a b : Laid) → ◌≡◌ {A = Found} (Some a) (Some b) → a ≡ b
some_same a b e = cc

pub none_some : (b : Laid) → ◌≡◌ {A = Found} None (Some b) → ⊥
none_some b e = cc

pub not_found : {X : Type 0} (o : Option X) (Q : X → Type 0) → o ≡ None → MatchOption o ⊥ Q → ⊥
not_found o Q e h = subst (λ p. MatchOption p ⊥ Q) e h

-- a text that is put together of the source's bytes is too long
pub coarse_long : (source canonical bytes sizes : List ℕ) (l : Laid) (t : Traces) (d : Items) → AreStatements source l → bytes ≡ source → sizes ≡ sizes_of d → max_text < length (text_of bytes (coarse bytes sizes l t d))
    → MayBeTooLong source t d canonical
coarse_long source canonical bytes sizes l t d s e z h =
    inr (record { laid = l; statements = s; long = subst (λ b. max_text < length (text_of b (coarse b (sizes_of d) l t d))) e (subst (λ n. max_text < length (text_of bytes (coarse bytes n l t d))) z h) })

-- ---- What the canonical text of a map tells of the text that was read.

pub spells_if : {E : Type 0} (canonical text found : List ℕ) (r : Result Bool E) (b : Bool) → r ≡ Ok b → b ≡ true → IfOk r (λ a. IsTrue a ↔ SpellsAs canonical text) → found ≡ text → SpellsAs canonical found
spells_if canonical text found (Ok true) b e t h same = subst (SpellsAs canonical) (sym same) (h.0 refl)
spells_if canonical text found (Ok false) b e t h same = cc
spells_if canonical text found (Err f) b e t h same = cc

pub spells_not : {E : Type 0} (canonical text : List ℕ) (r : Result Bool E) (b : Bool) → r ≡ Ok b → b ≡ false → IfOk r (λ a. IsTrue a ↔ SpellsAs canonical text) → SpellsAs canonical text → ⊥
spells_not canonical text (Ok true) b e f h s = cc
spells_not canonical text (Ok false) b e f h s = false≢true (h.1 s)
spells_not canonical text (Err fault) b e f h s = cc

-- ---- The statements of a source that was read.

pub only_there : (text : List ℕ) (source : Source) (l : Laid) → source.statements ≡ Some l → IsSource text source → (laid : Laid) (q : AreStatements text laid) → IsWithinLimits q.map → depth laid ≤ 16 → l ≡ laid
only_there text source l e is = λ laid q w d. subst (λ o. MatchOption o ⊥ (λ x. x ≡ laid)) e (is.only laid q w d)
