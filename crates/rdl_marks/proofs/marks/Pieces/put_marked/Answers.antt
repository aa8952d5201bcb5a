use Rattle.std.proofs.Common.{◌≡◌, ◌+◌, ◌∷◌, ◌++◌, [], rules, arith, refl, ap, ◌∙◌, Some}
use Rattle.std.proofs.lemmas.Grind.{common_steps}
use Rattle.rdl_marks.specs.Cut.{traces_before}
use Rattle.rdl_marks.specs.declared.marks.Piece.TheVariants.{Marked}
use Rattle.rdl_marks.proofs.Cuts.{traces_put, put_counted, marked_same, last_alone}
use Rattle.rdl_marks.proofs.marks.Pieces.put_marked.Goals as goal

pub returns-clause-counted : goal.returns-clause-counted
returns-clause-counted c =
    let sum : c.in-Some.before ≡ c.args.self.now.before + 1 = first_of (omega arith, search rules, grind (arith, common_steps)) in
    put_counted c.args.self.now.front.items c.push.new.self.items (Marked c.args.number c.none.result) c.args.self.now.before c.in-Some.before c.requires sum c.in_ok-push.ensures.items

pub returns-clause-before : goal.returns-clause-before
returns-clause-before c =
    traces_put c.args.self.now.front.items c.push.new.self.items (Marked c.args.number c.none.result) c.in_ok-push.ensures.items
    ∙ ap (λ e. traces_before c.args.self.now ++ e ∷ []) (marked_same c.args.number c.none.result c.none.ensures.firsts c.none.ensures.inside)

pub returns-clause-alone : goal.returns-clause-alone
returns-clause-alone c =
    last_alone c.args.self.now.front.items c.push.new.self.items (Some (Marked c.args.number c.none.result)) (Marked c.args.number c.none.result) c.in_ok-push.ensures.items refl (tt {0})
