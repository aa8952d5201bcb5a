use Rattle.std.proofs.Common.{Ok, Err, OnOk, Result, subst, sym}
use Rattle.std.specs.Option.{option_copied}
use Rattle.rdl_run.specs.Comparing.{StandsFor, Stopped}
use Rattle.rdl_run.specs.Judging.{AreJudged}
use Rattle.rdl_run.specs.Known.{AppendsFront, Gives, IsWithin}
use Rattle.rdl_run.specs.Sources.{without_source}
use Rattle.rdl_run.proofs.Compared.{own_of, ran_lines, stopped_lines, stopped_refused}
use Rattle.rdl_run.proofs.Stopped.{went}
use Rattle.rdl_run.proofs.WholeInput.{within}
use Rattle.rdl_run.proofs.comparison.compare_counted.Goals as goal

on_ok : {X E : Type 0} (r : Result X E) (P : Type 0) → P → OnOk r P
on_ok (Ok x) P p = p
on_ok (Err e) P p = tt

pub returns-in_err-write_counted-in-Refused-clause-stopped : goal.returns-in_err-write_counted-in-Refused-clause-stopped
returns-in_err-write_counted-in-Refused-clause-stopped g c =
    let top = option_copied c.args.top in
    let m = c.args.choice.now in
    let old = g.O.Read.remaining c.args.old_map.now.reader.now in
    let new = g.N.Read.remaining c.args.new_map.now.reader.now in
    let a = g.W.Write.contents c.args.output.now.writer.now in
    let b = g.W.Write.contents c.write_counted.new.output.writer.now in
    let refuses = subst (AreJudged top (without_source c.as_slice.result.now) (without_source c.as_slice-2.result.now)) c.in-Refused.is c.in_ok-message.ensures in
    let given_old = subst (Gives old) (sym c.as_slice.ensures.value) c.in_ok-old.ensures.bytes in
    let given_new = subst (Gives new) (sym c.as_slice-2.ensures.value) c.in_ok-new.ensures.bytes in
    let wrote = subst (AppendsFront a b) c.as_slice-in-Refused.ensures.value c.in_err-write_counted-in-Refused.ensures.err in
    let stopped = stopped_refused top m old new c.as_slice.result.now c.as_slice-2.result.now given_old given_new a b c.in-Refused.message.items refuses wrote in
    went c.from_residual-in_err-write_counted-in-Refused.result c.in_err-write_counted-in-Refused.field-0.0 (Stopped top m old new a b) c.from_residual-in_err-write_counted-in-Refused.ensures.1
    (subst (Stopped top m old new a b) (sym c.in_err-write_counted-in-Refused.ensures.fault) stopped)

pub write_lines-requires-clause-own : goal.write_lines-requires-clause-own
write_lines-requires-clause-own g c =
    let top = option_copied c.args.top in
    let opens = subst (AreJudged top (without_source c.as_slice.result.now) (without_source c.as_slice-2.result.now)) c.in-Accepted.is c.in_ok-message.ensures in
    own_of top (without_source c.as_slice.result.now) c.rows_in.result.now (subst (StandsFor top (without_source c.as_slice.result.now)) (sym c.rows_in.ensures) opens.0)

pub returns-clause-bound : goal.returns-clause-bound
returns-clause-bound g c =
    let old = g.O.Read.remaining c.args.old_map.now.reader.now in
    let new = g.N.Read.remaining c.args.new_map.now.reader.now in
    on_ok c.write_lines.result (IsWithin old × IsWithin new)
    (within old c.in_ok-old.old.items c.in_ok-old.ensures.bytes c.in_ok-old.ensures.bound, within new c.in_ok-new.new.items c.in_ok-new.ensures.bytes c.in_ok-new.ensures.bound)

pub returns-clause-ran : goal.returns-clause-ran
returns-clause-ran g c =
    let top = option_copied c.args.top in
    let m = c.args.choice.now in
    let opens = subst (AreJudged top (without_source c.as_slice.result.now) (without_source c.as_slice-2.result.now)) c.in-Accepted.is c.in_ok-message.ensures in
    let given_old = subst (Gives (g.O.Read.remaining c.args.old_map.now.reader.now)) (sym c.as_slice.ensures.value) c.in_ok-old.ensures.bytes in
    let given_new = subst (Gives (g.N.Read.remaining c.args.new_map.now.reader.now)) (sym c.as_slice-2.ensures.value) c.in_ok-new.ensures.bytes in
    ran_lines top m _ _ c.as_slice.result.now c.as_slice-2.result.now given_old given_new _ _ c.rows_in.result.now c.rows_in-in-Accepted.result.now
    (subst (StandsFor top (without_source c.as_slice.result.now)) (sym c.rows_in.ensures) opens.0, subst (StandsFor top (without_source c.as_slice-2.result.now)) (sym c.rows_in-in-Accepted.ensures) opens.1)
    c.write_lines.result c.write_lines.ensures.wrote

pub returns-clause-stopped : goal.returns-clause-stopped
returns-clause-stopped g c =
    let top = option_copied c.args.top in
    let m = c.args.choice.now in
    let opens = subst (AreJudged top (without_source c.as_slice.result.now) (without_source c.as_slice-2.result.now)) c.in-Accepted.is c.in_ok-message.ensures in
    let given_old = subst (Gives (g.O.Read.remaining c.args.old_map.now.reader.now)) (sym c.as_slice.ensures.value) c.in_ok-old.ensures.bytes in
    let given_new = subst (Gives (g.N.Read.remaining c.args.new_map.now.reader.now)) (sym c.as_slice-2.ensures.value) c.in_ok-new.ensures.bytes in
    stopped_lines top m _ _ c.as_slice.result.now c.as_slice-2.result.now given_old given_new _ _ c.rows_in.result.now c.rows_in-in-Accepted.result.now
    (subst (StandsFor top (without_source c.as_slice.result.now)) (sym c.rows_in.ensures) opens.0, subst (StandsFor top (without_source c.as_slice-2.result.now)) (sym c.rows_in-in-Accepted.ensures) opens.1)
    c.write_lines.result c.write_lines.ensures.stopped
