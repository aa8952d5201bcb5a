use Rattle.std.proofs.Common.{◌≡◌, ◌+◌, ◌-◌, ◌<◌, ◌∙◌, arith}
use Rattle.rdl_marks.proofs.Cuts.{kept_room, kept_split, new_split, length-run}
use Rattle.rdl_marks.proofs.pieces.split.Goals as goal

pub overflow_add-middle : goal.overflow_add-middle
overflow_add-middle c =
    let room : c.in-Kept.from + c.args.offset < c.in-Kept.to = kept_room c.args.piece.now _ _ c.args.offset c.in-Kept.is c.requires.below in
    omega arith

pub returns-in-New-clause-same : goal.returns-in-New-clause-same
returns-in-New-clause-same c = new_split c.args.piece.now _ c.args.offset c.in-New.is c.requires.below

pub returns-in-Kept-clause-same : goal.returns-in-Kept-clause-same
returns-in-Kept-clause-same c = kept_split c.args.piece.now _ _ c.args.offset c.in-Kept.is c.requires.below

pub returns-in-Kept-clause-here : goal.returns-in-Kept-clause-here
returns-in-Kept-clause-here c =
    length-run c.in-Kept.from (c.in-Kept.from + c.args.offset - c.in-Kept.from)
    ∙ (let own : c.in-Kept.from + c.args.offset - c.in-Kept.from ≡ c.args.offset = omega arith in own)
