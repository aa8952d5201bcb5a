-- A step whose patches fit, each where those before it led, is as good as the map to which it leads.
use Rattle.std.proofs.Common.{◌≡◌, true, List, [], ◌∷◌, ◌++◌, ℕ, ◌≤◌, map, refl, ap, sym, subst, ◌∙◌, Option, Some, None, ◌⊎◌, inl, inr}
use mathlib.Core.List.{reverse}
use Rattle.std.proofs.lemmas.List.{reverse-append}
use Rattle.journal_core.specs.Along.{FitInTurn}
use Rattle.journal_core.proofs.Ways.{reverse-first}
use Rattle.rdl_tree.specs.Depth.{depth}
use Rattle.rdl_tree.proofs.Patching.{image-inverses, inverses-inverses}
use Rattle.rdl_tree.proofs.Nesting.{AllFit-inverses, image-depth}
use Rattle.rdl_edit.specs.Backs.{Reversal, read_back, prior, Fits}
use Rattle.rdl_edit.specs.Ways.{place_of, way_back, ways_along, AllLead}
use Rattle.rdl_edit.specs.declared.ways.Direction.TheVariants as way
use Rattle.std.specs.Prelude.{◌&&◌, if◌then◌else◌}
use Rattle.rdl_tree.specs.Items.{Items}
use Rattle.rdl_tree.specs.Patch.{AllFit, patched, image}
use Rattle.rdl_tree.specs.declared.patch.Patch.{Patch}
use Rattle.rdl_edit.specs.declared.resume_fault.ResumeFault.{ResumeFault}
use Rattle.rdl_edit.specs.declared.resume_fault.ResumeFault.TheVariants.{PatchMisfits, Memory}
use Rattle.rdl_edit.specs.declared.resume_fault.Where.TheVariants as where_
use Rattle.std.specs.Option.{option_or}
use Rattle.rdl_edit.specs.declared.resume_fault.Where.{Where}
use Rattle.rdl_edit.specs.Resuming.{all_fit, place_fault, step_fault, steps_fault, session_fault, place_after}

pub all-fit : (ps : List Patch) (t : Items) → AllFit ps t → all_fit ps t ≡ true
all-fit [] t h = refl
all-fit (p ∷ ps) t h = ap (λ b. b && all_fit ps (patched p t)) h.0 ∙ all-fit ps (patched p t) h.1

pub step-judged : (at : Where) (option : Option (List ℕ)) (ps : List Patch) (t new : Items) → AllFit ps t → new ≡ image ps t
    → step_fault at option t ps ≡ place_fault at option new
step-judged at option ps t new h made =
    ap (λ b. if b then place_fault at option (image ps t) else Some (PatchMisfits at)) (all-fit ps t h) ∙ ap (place_fault at option) (sym made)

pub ruleset steps = (step-judged)

-- ---- There and home again.

module _ (y : Reversal) where
  lead-append : (d : Items) (xs : List Reversal) → AllLead d xs → AllFit y.patches (place_after d xs) → AllLead d (xs ++ y ∷ [])
  lead-append d [] h f = (f, tt)
  lead-append d (x ∷ xs) h f = (h.0, lead-append (image x.patches d) xs h.1 f)

  after-append : (d : Items) (xs : List Reversal) → place_after d (xs ++ y ∷ []) ≡ image y.patches (place_after d xs)
  after-append d [] = refl
  after-append d (x ∷ xs) = after-append (image x.patches d) xs

  along-append : (d : Items) (xs : List Reversal) → ways_along d (xs ++ y ∷ []) ≡ ways_along d xs ++ way_back (place_after d xs) y ∷ []
  along-append d [] = refl
  along-append d (x ∷ xs) = ap (λ ws. way_back d x ∷ ws) (along-append (image x.patches d) xs)

-- what takes back what takes a step back is that step
way-again : (step : Reversal) (d : Items) → AllFit step.patches d → way_back (image step.patches d) (way_back d step) ≡ step
way-again step d h = ap (λ (ps : List Patch). record step { patches = ps }) (inverses-inverses step.patches d h)

-- what leads home from where steps led: it fits, it leads to where they began, and what takes it back are the steps
pub record LeadsHome (d : Items) (steps : List Reversal) : Type 0 where
  pub lead : AllLead (place_after d steps) (reverse (ways_along d steps))
  pub home : place_after (place_after d steps) (reverse (ways_along d steps)) ≡ d
  pub again : reverse (ways_along (place_after d steps) (reverse (ways_along d steps))) ≡ steps

pub leads-home : (steps : List Reversal) (d : Items) → AllLead d steps → depth d ≤ 16 → LeadsHome d steps
leads-home [] d h deep = record { lead = tt; home = refl; again = refl }
leads-home (step ∷ steps) d h deep =
    let next = image step.patches d in
    let there = place_after next steps in
    let back = way_back d step in
    let ways = reverse (ways_along next steps) in
    let rest = leads-home steps next h.1 (image-depth step.patches d h.0 deep) in
    let all : reverse (back ∷ ways_along next steps) ≡ ways ++ back ∷ [] = reverse-first back (ways_along next steps) in
    let fit : AllFit back.patches (place_after there ways) = subst (AllFit back.patches) (sym rest.home) (AllFit-inverses step.patches d h.0 deep) in
    record {
      lead = subst (AllLead there) (sym all) (lead-append back there ways rest.lead fit);
      home = ap (place_after there) all ∙ after-append back there ways ∙ ap (image back.patches) rest.home ∙ image-inverses step.patches d h.0;
      again =
          ap (λ ws. reverse (ways_along there ws)) all ∙ ap reverse (along-append back there ways)
          ∙ reverse-append (ways_along there ways) (way_back (place_after there ways) back ∷ [])
          ∙ (λ i. (ap (λ e. way_back e back) rest.home ∙ way-again step d h.0) i ∷ rest.again i);
    }

-- steps that can be taken lead one after another
pub turn-lead : (steps : List Reversal) (d : Items) (option : Option (List ℕ)) → FitInTurn prior Fits (record { description = d; option = option }) steps → AllLead d steps
turn-lead [] d option h = tt
turn-lead (step ∷ steps) d option h = (h.0.applicable, turn-lead steps (image step.patches d) option h.1)

module _ (steps : List Reversal) (d new : Items) (option : Option (List ℕ)) (ways : List Reversal) (fit : FitInTurn prior Fits (record { description = d; option = option }) steps) (deep : depth d ≤ 16)
    (there : new ≡ place_after d steps) (back : ways ≡ reverse (ways_along d steps)) where
  leads : LeadsHome d steps
  leads = leads-home steps d (turn-lead steps d option fit) deep

  pub home-lead : AllLead new ways
  home-lead = subst (λ e. AllLead e ways) (sym there) (subst (AllLead (place_after d steps)) (sym back) leads.lead)

  pub home-there : place_after new ways ≡ d
  home-there = (λ i. place_after (there i) (back i)) ∙ leads.home

  pub home-again : reverse (ways_along new ways) ≡ steps
  home-again = (λ i. reverse (ways_along (there i) (back i))) ∙ leads.again

-- ---- The steps of a session, marked as read, have their patches.

pub patches-read : {X : Type 0} (patches : X → List Patch) (steps : List X) (backs : List Reversal) → backs ≡ map (λ step. read_back (patches step)) steps
    → map (λ (back : Reversal). back.patches) backs ≡ map patches steps
patches-read patches steps backs e = ap (map (λ (back : Reversal). back.patches)) e ∙ go steps
  where
    go : (steps : List _) → map (λ (back : Reversal). back.patches) (map (λ step. read_back (patches step)) steps) ≡ map patches steps
    go [] = refl
    go (step ∷ steps) = ap (λ ps. patches step ∷ ps) (go steps)

-- ---- The first fault of a session.

module _ (name option : Option (List ℕ)) (d now : Items) (undo redo us rs : List (List Patch)) (same : option ≡ name) (opened : place_fault where_.Map option d ≡ None) (u : us ≡ undo) where
  whole : session_fault name d undo redo ≡ option_or (steps_fault where_.Undo option 1 d us) (steps_fault where_.Redo option 1 d redo)
  whole =
      ap (λ o. session_fault o d undo redo) (sym same)
      ∙ ap (λ o. option_or o (option_or (steps_fault where_.Undo option 1 d undo) (steps_fault where_.Redo option 1 d redo))) opened
      ∙ ap (λ ss. option_or (steps_fault where_.Undo option 1 d ss) (steps_fault where_.Redo option 1 d redo)) (sym u)

  pub undo-refused : (f : ResumeFault) → (steps_fault (place_of way.Undo) option 1 d us ≡ Some f) ⊎ (f ≡ Memory) → (session_fault name d undo redo ≡ Some f) ⊎ (f ≡ Memory)
  undo-refused f (inl e) = inl (whole ∙ ap (λ o. option_or o (steps_fault where_.Redo option 1 d redo)) e)
  undo-refused f (inr e) = inr e

  module _ (done : steps_fault (place_of way.Undo) option 1 d us ≡ None) (home : now ≡ d) (r : rs ≡ redo) where
    rest : session_fault name d undo redo ≡ steps_fault (place_of way.Redo) option 1 now rs
    rest =
        whole ∙ ap (λ o. option_or o (steps_fault where_.Redo option 1 d redo)) done
        ∙ (λ i. steps_fault (place_of way.Redo) option 1 (sym home i) (sym r i))

    pub redo-refused : (f : ResumeFault) → (steps_fault (place_of way.Redo) option 1 now rs ≡ Some f) ⊎ (f ≡ Memory) → (session_fault name d undo redo ≡ Some f) ⊎ (f ≡ Memory)
    redo-refused f (inl e) = inl (rest ∙ e)
    redo-refused f (inr e) = inr e

    pub none-refused : steps_fault (place_of way.Redo) option 1 now rs ≡ None → session_fault name d undo redo ≡ None
    none-refused e = rest ∙ e
