use Rattle.std.proofs.Common.{None, refl, ap, sym, ◌∙◌, arith}
use Rattle.std.specs.Vec.{vec_len}
use Rattle.std.proofs.lemmas.Bool.{eqb-true}
use Rattle.std.proofs.lemmas.List.{nil_from_length}
use Rattle.rdl_marks.specs.Cut.{traces_before, traces_behind, traces_in}
use Rattle.rdl_marks.proofs.Cuts.{held_kept, held_here, held_behind, last_alone}
use Rattle.rdl_marks.proofs.marks.Pieces.hold.Goals as goal

pub returns-then-is_empty-clause-reaches : goal.returns-then-is_empty-clause-reaches
returns-then-is_empty-clause-reaches c =
    let none = eqb-true (vec_len c.go_to.new.self.back) 0 (sym c.is_empty.ensures ∙ c.if-is_empty.true) in
    let last = nil_from_length c.go_to.new.self.back.items (omega (arith, none)) in
    held_behind (traces_in c.args.self.now) (traces_before c.go_to.new.self) (traces_behind c.go_to.new.self.back.items) c.go_to.new.self.back.items c.put_behind.new.self c.args.behind.now c.go_to.new.behind c.put_behind.new.behind
    c.args.number None c.in_ok-go_to.ensures.reaches (sym c.in_ok-go_to.ensures.counted ∙ c.in_ok-go_to.ensures.begins) refl refl (λ _. last) c.in_ok-put_behind.ensures.before
    (ap (λ v. v.items) c.in_ok-put_behind.ensures.behind) c.in_ok-put_behind.ensures.more

pub returns-in-Some-clause-reaches : goal.returns-in-Some-clause-reaches
returns-in-Some-clause-reaches c =
    held_kept (traces_in c.args.self.now) (traces_before c.go_to.new.self) (traces_behind c.go_to.new.self.back.items) c.pop_kept.new.back.items c.put_marked.new.self c.args.behind.now c.go_to.new.behind c.args.number c.in-Some.first
    c.in_ok-go_to.ensures.reaches (sym c.in_ok-go_to.ensures.counted ∙ c.in_ok-go_to.ensures.begins) c.in-Some.ensures.some c.in_ok-put_marked.ensures.before (ap (λ v. v.items) c.in_ok-put_marked.ensures.behind)

pub returns-in_ok-put-in-Some-2-clause-reaches : goal.returns-in_ok-put-in-Some-2-clause-reaches
returns-in_ok-put-in-Some-2-clause-reaches c =
    held_here (traces_in c.args.self.now) (traces_before c.go_to.new.self) (traces_behind c.go_to.new.self.back.items) c.pop_first.new.back.items c.put.new.self c.args.behind.now c.go_to.new.behind c.args.number c.in_ok-piece.field-0
    c.in-Some-2.piece c.in_ok-go_to.ensures.reaches (sym c.in_ok-go_to.ensures.counted ∙ c.in_ok-go_to.ensures.begins) (ap traces_behind (sym (c.in_default.ensures.none refl)) ∙ c.in_ok-piece.ensures.same) c.in-Some-2.is
    c.in_ok-piece.ensures.alone c.in_ok-put-in-Some-2.ensures.before (ap (λ v. v.items) c.in_ok-put-in-Some-2.ensures.behind)

pub returns-in_ok-put-in-Some-2-clause-alone : goal.returns-in_ok-put-in-Some-2-clause-alone
returns-in_ok-put-in-Some-2-clause-alone c =
    last_alone c.go_to.new.self.front.items c.put.new.self.front.items c.in_ok-piece.field-0 c.in-Some-2.piece c.in_ok-put-in-Some-2.ensures.last c.in-Some-2.is c.in_ok-piece.ensures.alone

pub returns-in_ok-put_behind-in-None-clause-reaches : goal.returns-in_ok-put_behind-in-None-clause-reaches
returns-in_ok-put_behind-in-None-clause-reaches c =
    held_behind (traces_in c.args.self.now) (traces_before c.go_to.new.self) (traces_behind c.go_to.new.self.back.items) c.pop_first.new.back.items c.put_behind-in-None.new.self c.args.behind.now c.go_to.new.behind c.put_behind-in-None.new.behind
    c.args.number c.in_ok-piece.field-0 c.in_ok-go_to.ensures.reaches (sym c.in_ok-go_to.ensures.counted ∙ c.in_ok-go_to.ensures.begins) (ap traces_behind (sym (c.in_default.ensures.none refl)) ∙ c.in_ok-piece.ensures.same)
    c.in-None.is c.in_ok-piece.ensures.none c.in_ok-put_behind-in-None.ensures.before (ap (λ v. v.items) c.in_ok-put_behind-in-None.ensures.behind) c.in_ok-put_behind-in-None.ensures.more
