use Rattle.std.proofs.Common.{rules, ◌≡◌, ◌∙◌, sym, subst, lit<}
use Rattle.rdl_elab.specs.Dotted.{names_in, IsDotted}
use Rattle.rdl_elab.proofs.NamesAround.{taken_as, none_left, behind_first}
use Rattle.rdl_elab.proofs.row.DottedNames.next.Goals as goal

pub invariant_of-self : goal.invariant_of-self
invariant_of-self c =
    let parts = c.in-Some.ensures.byte (lit< tt) (λ w o f. f) in
    subst IsDotted (sym parts.1) (behind_first c.self.inside.dotted.now parts.2 c.self.invariant)

pub returns-in-Some : goal.returns-in-Some
returns-in-Some c =
    let parts = c.in-Some.ensures.byte (lit< tt) (λ w o f. f) in
    let view : c.args.self.now ≡ names_in c.self.inside.dotted.now = search rules in
    view ∙ taken_as c.self.inside.dotted.now c.in-Some.name.now c.in-Some.behind.now parts.0 parts.1 parts.2

pub returns-in-None : goal.returns-in-None
returns-in-None c =
    let view : c.args.self.now ≡ names_in c.self.inside.dotted.now = search rules in
    let none = view ∙ none_left c.self.inside.dotted.now (c.in-None.ensures.byte (lit< tt) (λ w o f. f)) c.self.invariant in
    (none, none)
