use Rattle.std.proofs.Common.{◌∙◌, refl, subst, below_more}
use Rattle.rdl_source.specs.LaidOut.{BeginsIn}
use Rattle.rdl_source.proofs.Items.{begins_first, from_more, from_end}
use Rattle.rdl_source.proofs.walk.items_in.Goals as goal

pub items-preserved : goal.items-preserved
items-preserved c =
    let rest = c.items.rest.now in
    let first = subst (BeginsIn c.args.span) c.items.invariant.rest (begins_first c.args.span rest _ c.in-len1-up.len_at_least (c.if-not-begins_in.ensures.0 refl)) in
    record {
      items = below_more _ _ c.items.invariant.items first;
      rest = c.past_first-rest.ensures ∙ from_more c.items.count c.args.places.now rest c.items.invariant.rest;
    }

pub returns-clause-last : goal.returns-clause-last
returns-clause-last c h = subst (BeginsIn c.args.span) (c.items.invariant.rest ∙ from_end c.items.count c.args.places.now c.items-test.false) h
