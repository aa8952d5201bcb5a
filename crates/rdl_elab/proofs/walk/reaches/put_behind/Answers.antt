use Rattle.std.proofs.Common.{◌++◌, ◌∷◌, [], ap, sym, ◌∙◌, append_assoc, append-nil}
use Rattle.rdl_elab.specs.Reaches.{behind}
use Rattle.rdl_elab.proofs.Onward.{going_from, going-ends, going-unlinked, behind-going, behind-passing}
use Rattle.rdl_elab.proofs.walk.reaches.put_behind.Goals as goal
use Rattle.rdl_elab.proofs.walk.reaches.put_behind.Goals.{in-Some+in_ok-push, in_default}

pub assignments-preserved : goal.assignments-preserved
assignments-preserved c =
    let a = c.args.instance.now in
    let links = c.args.links.now in
    let rs = c.args.reaching.now in
    let n = c.assignments.number in
    let r = c.index-reaching-number.result in
    let before = c.assignments.list.items in
    let rest = behind a (going_from links rs c.max-number.result) in
    elim c.match-branch-2.branch [
      | in-Some+in_ok-push w ↦
          c.assignments.invariant
          ∙ ap (λ ys. before ++ ys) (behind-going a links rs n c.max-number.result r w.in-Some.passed c.if-number-links.true c.assignments-test.true c.index-reaching-number.is c.max-number.ensures
          (sym c.in_ok-passed.ensures ∙ w.in-Some.is))
          ∙ sym (append_assoc before (w.in-Some.passed ∷ []) rest)
          ∙ ap (λ xs. xs ++ rest) (sym (ap (λ v. v.items) w.list-is ∙ w.in_ok-push.ensures.items))
      | in_default w ↦
          c.assignments.invariant
          ∙ ap (λ ys. before ++ ys) (behind-passing a links rs n c.max-number.result r c.if-number-links.true c.assignments-test.true c.index-reaching-number.is c.max-number.ensures
          (sym c.in_ok-passed.ensures ∙ w.in_default.is))
          ∙ ap (λ xs. xs ++ rest) (sym (ap (λ v. v.items) w.list-is))
    ]

pub returns-else-number-links : goal.returns-else-number-links
returns-else-number-links c =
    let found = c.assignments.list.items in
    sym
    (c.assignments.invariant
    ∙ ap (λ ys. found ++ behind c.args.instance.now ys) (going-unlinked c.args.links.now c.args.reaching.now c.assignments.number c.if-number-links.false)
    ∙ append-nil found)

pub returns-after-assignments : goal.returns-after-assignments
returns-after-assignments c =
    let found = c.assignments.list.items in
    sym
    (c.assignments.invariant
    ∙ ap (λ ys. found ++ behind c.args.instance.now ys) (going-ends c.args.links.now c.args.reaching.now c.assignments.number c.assignments-test.false)
    ∙ append-nil found)
