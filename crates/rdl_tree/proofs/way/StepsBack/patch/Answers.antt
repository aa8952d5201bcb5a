use Rattle.std.proofs.Common.{◌≡◌, List, Option, Some, None, ◌∙◌, ap, sym, option_copied}
use Rattle.std.specs.Prelude.{reverse, slice_get, option_map}
use Rattle.rdl_tree.specs.declared.way.Step.{Step}
use Rattle.rdl_tree.proofs.Lent.{get-back}
use Rattle.rdl_tree.proofs.way.StepsBack.patch.Goals as goal

pub returns-in-Some : goal.returns-in-Some
returns-in-Some c =
    let steps : List Step = c.args.self.now.steps.items in
    let n = c.args.number in
    let found : slice_get (reverse steps) n ≡ Some c.in-Some.step.now =
    sym (ap (λ (ss : List Step). slice_get (reverse ss) n) c.deref.ensures.value) ∙ sym c.from_the_end.ensures ∙ ap option_copied c.in-Some.is in
    sym (get-back (reverse steps) n ∙ ap (option_map (λ (s : Step). s.back)) found)

pub returns-in-None : goal.returns-in-None
returns-in-None c =
    let steps : List Step = c.args.self.now.steps.items in
    let n = c.args.number in
    let none : slice_get (reverse steps) n ≡ None =
    sym (ap (λ (ss : List Step). slice_get (reverse ss) n) c.deref.ensures.value) ∙ sym c.from_the_end.ensures ∙ ap option_copied c.in-None.is in
    sym (get-back (reverse steps) n ∙ ap (option_map (λ (s : Step). s.back)) none)
