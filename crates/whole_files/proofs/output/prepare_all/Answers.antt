use Rattle.std.proofs.Common.{ap, sym, subst, ◌∙◌, rules, Vec, Global}
use Rattle.std.proofs.lemmas.List.Elements.{All-push}
use Rattle.whole_files.specs.Outputs.{AreOf, IsPathOf}
use Rattle.whole_files.specs.declared.output.Waiting.{Waiting}
use Rattle.whole_files.proofs.output.prepare_all.Goals as goal
use Rattle.whole_files.proofs.output.prepare_all.Goals.{in-Ok-Some+in_default, in-Ok-None}

pub outputs-preserved : goal.outputs-preserved
outputs-preserved g c = λ before. elim c.match-prepare-2.branch [
  | in-Ok-Some+in_default w ↦
      let items = ap (λ (v : Vec Waiting Global). v.items) w.waiting-is ∙ w.in_default.ensures.items in
      subst (AreOf c.args.outputs.now) (sym items) (All-push (λ (x : Waiting). IsPathOf c.args.outputs.now x.path.now) c.outputs.waiting.items _ (c.outputs.invariant before) (search rules))
  | in-Ok-None w ↦ subst (AreOf c.args.outputs.now) (sym (ap (λ (v : Vec Waiting Global). v.items) w.waiting-is)) (c.outputs.invariant before)
]
