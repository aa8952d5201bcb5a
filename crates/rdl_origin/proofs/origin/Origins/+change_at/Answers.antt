use Rattle.std.proofs.Common.{rules}
use Rattle.std.proofs.lemmas.Option.{slice_get_read, slice_get_past}
use Rattle.rdl_origin.proofs.Changes.{placed_here, gone_here, placed_deeper, placed_nowhere, gone_deeper}
use Rattle.rdl_origin.proofs.origin.Origins.+change_at.Goals as goal

pub returns-in_default-clause-placed : goal.returns-in_default-clause-placed
returns-in_default-clause-placed t c =
    placed_nowhere c.args.patch.now c.args.number c.args.way.now c.args.self.now c.self.inside.list.items c.in-len1-up.len_at_least c.self.view_is (search (rules, slice_get_past, slice_get_read))

pub returns-in_ok-change-in-empty-clause-placed : goal.returns-in_ok-change-in-empty-clause-placed
returns-in_ok-change-in-empty-clause-placed t c =
    placed_here c.args.patch.now c.args.number c.args.way.now c.args.self.now c.self.inside.list.items c.in_ok-change-in-empty.field-0 c.in-empty.len_below c.self.view_is c.in_ok-change-in-empty.ensures.placed

pub returns-in_ok-change-in-empty-clause-gone : goal.returns-in_ok-change-in-empty-clause-gone
returns-in_ok-change-in-empty-clause-gone t c =
    λ h. gone_here c.args.patch.now c.args.number c.args.way.now c.args.self.now c.self.inside.list.items c.change.new.list.items c.in-empty.len_below c.self.view_is (c.in_ok-change-in-empty.ensures.gone h)

pub returns-in_ok-placed-in-len1-up-clause-placed :
    goal.returns-in_ok-placed-in-len1-up-clause-placed
returns-in_ok-placed-in-len1-up-clause-placed t c =
    placed_deeper c.args.patch.now c.args.number c.args.way.now c.args.self.now c.self.inside.list.items c.in-Some.origin.now c.in_ok-placed-in-len1-up.placed c.in-len1-up.len_at_least c.self.view_is
    (search (rules, slice_get_past, slice_get_read)) c.in_ok-placed-in-len1-up.ensures.placed

pub returns-in_ok-placed-in-len1-up-clause-gone : goal.returns-in_ok-placed-in-len1-up-clause-gone
returns-in_ok-placed-in-len1-up-clause-gone t c =
    λ h. gone_deeper c.args.patch.now c.args.number c.args.way.now c.args.self.now c.self.inside.list.items c.in-Some.origin.now c.change_at.new.self c.in-len1-up.len_at_least c.self.view_is
    (search (rules, slice_get_past, slice_get_read)) (c.in_ok-placed-in-len1-up.ensures.gone h)
