use Rattle.rdl_elab.proofs.CappedNumbers.{start_none, start_some, around_power, power_positive}
use Rattle.rdl_elab.proofs.layout.place.start_of.Goals as goal

pub returns-in-None-align : goal.returns-in-None-align
returns-in-None-align c =
    start_none c.args.alignment c.args.mode c.args.end c.args.item c.unwrap_or-around.result c.mode_alignment.result c.max-in-None-align.result c.next_multiple-in-None-align.result
    c.in-None.is c.in-None-align.is c.unwrap_or-around.ensures (power_positive c.unwrap_or-around.result (around_power c.args.alignment c.unwrap_or-around.result c.requires.alignment c.unwrap_or-around.ensures)) c.mode_alignment.ensures c.max-in-None-align.ensures c.next_multiple-in-None-align.ensures

pub returns-in-Some-align : goal.returns-in-Some-align
returns-in-Some-align c =
    start_some c.args.alignment c.args.mode c.args.end c.args.item c.in-Some-align.align c.max.result c.capped-in-Some-align.result c.next_multiple.result
    c.in-None.is c.in-Some-align.is c.max.ensures c.capped-in-Some-align.ensures c.next_multiple.ensures
