-- The text of the pieces that go out spells the last map.
use Rattle.std.proofs.Common.{◌≡◌, ◌≤◌, ℕ, Bool, true, false, List, [], length, refl, ap, sym, ◌∙◌, subst}
use Rattle.std.proofs.lemmas.List.{append-nil}
use Rattle.rdl_tree.specs.Items.{Items}
use Rattle.rdl_tree.specs.View.{items_of}
use Rattle.rdl_tree.proofs.Rounds.{items_of-list_of}
use Rattle.rdl_origin.specs.Traces.{Traces}
use Rattle.rdl_origin.specs.View as origins
use Rattle.rdl_parse.specs.Faults.{max_text}
use Rattle.rdl_parse.specs.Places.{located}
use Rattle.rdl_parse.specs.Spelling as grammar
use Rattle.rdl_round.proofs.Parts.{cut-none}
use Rattle.rdl_source.specs.Laid.{Laid}
use Rattle.rdl_source.proofs.Behind.{Cut}
use Rattle.rdl_source.specs.declared.span.Span.{Span}
use Rattle.rdl_weave.specs.Coarse.{text_of, spans_of, coarse, covers}
use Rattle.rdl_weave.specs.Keeping.{Keeps}
use Rattle.rdl_weave.specs.Sound.{Fits}
use Rattle.rdl_weave.specs.Spelled.{SpellsAs}
use Rattle.rdl_weave.specs.Untouched.{sizes_of}
use Rattle.rdl_weave.proofs.Covered.{keeps_covered}
use Rattle.rdl_weave.proofs.Walking.{reads_coarse}

pub spells_coarse : (source canonical : List ℕ) (l : Laid) (t : Traces) (d : Items) → Fits source l t d canonical → length (text_of source (coarse source (sizes_of d) l t d)) ≤ max_text
    → SpellsAs canonical (text_of source (coarse source (sizes_of d) l t d))
spells_coarse source canonical l t d h short =
    let text = text_of source (coarse source (sizes_of d) l t d) in
    let r = reads_coarse source (sizes_of d) l t d h.silent h.writable.of_words h.writable.spellable h.matches in
    let found = subst (λ s. Cut s (grammar.words r.tree [])) (append-nil text) (r.cut [] [] cut-none) 0 in
    record {
      map = d;
      places = located text found.0 (grammar.spots r.tree []);
      spelled = record {
        ws = found.0;
        spots = grammar.spots r.tree [];
        has_words = record { short = short; cut = found.1 };
        spelled = (r.tree, found.2, sym (items_of-list_of d) ∙ ap items_of (sym r.items), refl);
        places_are = refl;
      };
      within = h.writable.within;
      is = h.written;
    }

-- ---- What is answered.

abbrev Text : (source sizes : List ℕ) → Laid → Traces → Items → List ℕ
Text source sizes l t d = text_of source (coarse source sizes l t d)

abbrev Spans : (source sizes : List ℕ) → Laid → Traces → Items → List Span
Spans source sizes l t d = spans_of (coarse source sizes l t d)

pub answer_keeps : (source sizes text : List ℕ) (spans : List Span) (l : Laid) (t : Traces) (d : Items) → text ≡ Text source sizes l t d → spans ≡ Spans source sizes l t d
    → covers spans sizes l (origins.list_of t) ≡ true → Keeps source sizes text l (origins.list_of t)
answer_keeps source sizes text spans l t d e f h =
    subst (λ s. Keeps source sizes s l (origins.list_of t)) (sym e)
    (keeps_covered source sizes (coarse source sizes l t d) l (origins.list_of t) (ap (λ ss. covers ss sizes l (origins.list_of t)) (sym f) ∙ h))

no_false : true ≡ false → ⊥
no_false e = cc

pub not_uncovered : (source sizes canonical : List ℕ) (spans : List Span) (l : Laid) (t : Traces) (d : Items) → sizes ≡ sizes_of d → spans ≡ Spans source sizes l t d
    → covers spans sizes l (origins.list_of t) ≡ false → Fits source l t d canonical → ⊥
not_uncovered source sizes canonical spans l t d z f h fits =
    no_false (sym fits.covered ∙ ((λ i. covers (Spans source (sym z i) l t d) (sym z i) l (origins.list_of t)) ∙ (ap (λ ss. covers ss sizes l (origins.list_of t)) (sym f) ∙ h)))

pub not_unspelled : (source sizes canonical text : List ℕ) (l : Laid) (t : Traces) (d : Items) (answer : Bool) → sizes ≡ sizes_of d → text ≡ Text source sizes l t d → length text ≤ max_text
    → (SpellsAs canonical text → answer ≡ true) → answer ≡ false → Fits source l t d canonical → ⊥
not_unspelled source sizes canonical text l t d answer z e short says f fits =
    let is : Text source (sizes_of d) l t d ≡ text = ap (λ ss. Text source ss l t d) (sym z) ∙ sym e in
    no_false (sym (says (subst (λ s. SpellsAs canonical s) is (spells_coarse source canonical l t d fits (subst (λ s. length s ≤ max_text) (sym is) short)))) ∙ f)
