use Rattle.std.proofs.Common.{◌≡◌, ◌∙◌, ℕ, List, Option, None, ap, map, rules}
use Rattle.rdl_edit.specs.Backs.{Reversal}
use Rattle.rdl_edit.specs.Resuming.{place_fault}
use Rattle.rdl_edit.specs.declared.resume_fault.Where.TheVariants as where_
use Rattle.rdl_tree.specs.Items.{Items}
use Rattle.rdl_tree.specs.declared.patch.Patch.{Patch}
use Rattle.rdl_edit.proofs.Walking.{patches-read, undo-refused, redo-refused, none-refused}
use Rattle.rdl_edit.proofs.Placings.{opened}
use Rattle.rdl_edit.proofs.map.Map.resume.Goals as goal

-- the map has no fault by the top of what is held
faultless : (o p : Option (List ℕ)) (d : Items) → o ≡ p → place_fault where_.Map p d ≡ None → place_fault where_.Map o d ≡ None
faultless o p d same none = ap (λ q. place_fault where_.Map q d) same ∙ none

abbrev patches_in : List Reversal → List (List Patch)
patches_in = map (λ back. back.patches)

pub returns-in-Err-visit-clause-refused : goal.returns-in-Err-visit-clause-refused
returns-in-Err-visit-clause-refused c =
    undo-refused c.args.name c.in-Ok.held.top c.args.description.items c.args.description.items _ (map (λ step. step.items) c.args.redo.items) (patches_in c.in_ok-undo.undo.items) (patches_in c.in_ok-redo.redo.items) (search rules) (faultless c.in-Ok.held.top _ c.args.description.items c.in-Ok.ensures.keeps.top c.in-Ok.ensures.faultless) (patches-read (λ step. step.items) c.args.undo.items _ c.in_ok-undo.ensures.backs)
    c.in-Err-visit.fault c.in-Err-visit.ensures.refused

pub returns-in-Err-visit-2-clause-refused : goal.returns-in-Err-visit-2-clause-refused
returns-in-Err-visit-2-clause-refused c =
    redo-refused c.args.name c.in-Ok.held.top c.args.description.items c.visit.new.description.items _ _ (patches_in c.in_ok-undo.undo.items) (patches_in c.in_ok-redo.redo.items) (search rules) (faultless c.in-Ok.held.top _ c.args.description.items c.in-Ok.ensures.keeps.top c.in-Ok.ensures.faultless) (patches-read (λ step. step.items) c.args.undo.items _ c.in_ok-undo.ensures.backs)
    c.in-Ok-visit.ensures.faultless c.in-Ok-visit.ensures.home (patches-read (λ step. step.items) c.args.redo.items _ c.in_ok-redo.ensures.backs)
    c.in-Err-visit-2.fault c.in-Err-visit-2.ensures.refused

pub returns-clause-accepted : goal.returns-clause-accepted
returns-clause-accepted c =
    none-refused c.args.name c.in-Ok.held.top c.args.description.items c.visit.new.description.items _ _ (patches_in c.in_ok-undo.undo.items) (patches_in c.in_ok-redo.redo.items) (search rules) (faultless c.in-Ok.held.top _ c.args.description.items c.in-Ok.ensures.keeps.top c.in-Ok.ensures.faultless) (patches-read (λ step. step.items) c.args.undo.items _ c.in_ok-undo.ensures.backs)
    c.in-Ok-visit.ensures.faultless c.in-Ok-visit.ensures.home (patches-read (λ step. step.items) c.args.redo.items _ c.in_ok-redo.ensures.backs)
    c.in-Ok-visit-2.ensures.faultless

pub returns-clause-placed : goal.returns-clause-placed
returns-clause-placed c = opened c.args.description.items c.in-Ok.held c.in-Ok.ensures.keeps.held c.in-Ok.ensures.placed
