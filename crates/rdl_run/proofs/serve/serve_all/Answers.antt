use Rattle.std.proofs.Common.{◌≡◌, ℕ, false, List, [], ◌++◌, ◌+◌, ◌≤◌, length, Some, string_bytes, refl, sym, ap, ◌∙◌, subst, arith, rules}
use Rattle.std.specs.Prelude.{◌||◌}
use Rattle.std.specs.Option.{option_copied}
use Rattle.std.specs.Io.KnownBytes.{Appends}
use Rattle.std.proofs.KnownBytes.{Appends-nil}
use Rattle.rdl_run.specs.Known.{AppendsFront}
use Rattle.rdl_run.specs.ScriptLines.{left_len}
use Rattle.rdl_run.specs.Waiting.{Says}
use Rattle.rdl_run.proofs.SoFar.{SoFar, nothing_yet, one_more, stopped_at_waiting, stopped_writing}
use Rattle.rdl_run.proofs.serve.serve_all.Goals as goal

pub lines-init : goal.lines-init
lines-init g c =
    let old = c.args.journal.now.history in
    let contents = g.E.Write.contents c.args.messages.now.writer.now in
    let counts = c.args.messages.now.counts in
    record {
      so_far = subst (λ (l : List ℕ). SoFar old c.args.script.now (Some c.args.script.now) 0 contents contents counts counts l false old) (sym c.new-waiting.ensures.bytes)
          (nothing_yet old c.args.script.now contents counts (Appends-nil contents));
      room = omega arith;
      own = λ own. own;
      keeps = c.requires.kept;
      asked = c.requires.asked;
      same = refl;
    }

pub lines-preserved : goal.lines-preserved
lines-preserved g c =
    let contents = g.E.Write.contents in
    let old = c.args.journal.now.history in
    let script = c.args.script.now in
    let before = contents c.args.messages.now.writer.now in
    let now = contents c.lines.messages.writer.now in
    let new = contents c.say.new.messages.writer.now in
    let x = c.args.messages.now.counts in
    let y = c.lines.messages.counts in
    let z = c.say.new.messages.counts in
    let bytes = c.in-Some.bytes.now in
    let waiting = string_bytes c.lines.waiting in
    let waits = string_bytes c.say.new.waiting in
    let message = string_bytes c.serve_line.new.message in
    let refuses = c.in-Ok.refuses in
    let rest : option_copied c.lines.rest ≡ Some bytes = ap option_copied c.in-Some.is in
    let told : Says now new y z waiting c.as_str.result.now waits = search rules in
    let said : Says now new y z waiting message waits = subst (λ (text : List ℕ). Says now new y z waiting text waits) c.as_str.ensures.value told in
    let so_far = subst (λ o. SoFar old script o c.lines.number before now x y waiting c.lines.refused c.lines.journal.history) rest c.lines.invariant.so_far in
    let room : c.lines.number + left_len (Some bytes) ≤ length script + 1 =
    subst (λ o. c.lines.number + left_len o ≤ length script + 1) rest c.lines.invariant.room in
    record {
      so_far = subst (λ b. SoFar old script (option_copied c.split_line.result.1) (c.lines.number + 1) before new x z waits b c.serve_line.new.journal.history)
          (sym c.is_either-refused.ensures)
          (one_more old c.lines.journal.history c.serve_line.new.journal.history script bytes _ message (option_copied c.split_line.result.1) c.lines.number before now new x y z waiting waits c.lines.refused refuses
          so_far c.split_line.ensures.lines c.in-Ok.ensures.replied said);
      room = omega (arith, room, c.split_line.ensures.less);
      own = λ own. c.serve_line.ensures.stay_own (c.lines.invariant.own own);
      keeps = c.serve_line.ensures.keeps;
      asked = search rules;
      same = search rules;
    }

pub returns-then-is_err-clause-stopped : goal.returns-then-is_err-clause-stopped
returns-then-is_err-clause-stopped g c =
    let contents = g.E.Write.contents in
    let now = contents c.lines.messages.writer.now in
    let new = contents c.write_counted.new.output.writer.now in
    let front : AppendsFront now new c.as_bytes.result.now = search rules in
    stopped_at_waiting c.args.journal.now.history c.lines.journal.history c.args.script.now (option_copied c.lines.rest) c.lines.number _ now new _ _ c.write_counted.new.output.counts (string_bytes c.lines.waiting) c.lines.refused
    c.lines.invariant.so_far (subst (AppendsFront now new) c.as_bytes.ensures.value front)

pub returns-then-is_err-2-clause-stopped : goal.returns-then-is_err-2-clause-stopped
returns-then-is_err-2-clause-stopped g c =
    let contents = g.E.Write.contents in
    let old = c.args.journal.now.history in
    let script = c.args.script.now in
    let before = contents c.args.messages.now.writer.now in
    let now = contents c.lines.messages.writer.now in
    let new = contents c.say.new.messages.writer.now in
    let waiting = string_bytes c.lines.waiting in
    let message = string_bytes c.serve_line.new.message in
    let rest : option_copied c.lines.rest ≡ Some c.in-Some.bytes.now = ap option_copied c.in-Some.is in
    let so_far = subst (λ o. SoFar old script o c.lines.number before now c.args.messages.now.counts c.lines.messages.counts waiting c.lines.refused c.lines.journal.history) rest c.lines.invariant.so_far in
    let front : AppendsFront now new (waiting ++ c.as_str.result.now) = search rules in
    stopped_writing old c.lines.journal.history c.serve_line.new.journal.history script c.in-Some.bytes.now _ message (option_copied c.split_line.result.1) c.lines.number before now new _ _ c.say.new.messages.counts waiting (string_bytes c.say.new.waiting) c.lines.refused c.in-Ok.refuses
    so_far c.split_line.ensures.lines c.in-Ok.ensures.replied (subst (λ (text : List ℕ). AppendsFront now new (waiting ++ text)) c.as_str.ensures.value front)

pub returns-then-is_err-3-clause-stopped : goal.returns-then-is_err-3-clause-stopped
returns-then-is_err-3-clause-stopped g c =
    let contents = g.E.Write.contents in
    let now = contents c.lines.messages.writer.now in
    let new = contents c.write_counted-2.new.output.writer.now in
    let front : AppendsFront now new c.as_bytes-2.result.now = search rules in
    stopped_at_waiting c.args.journal.now.history c.lines.journal.history c.args.script.now (option_copied c.lines.rest) c.lines.number _ now new _ _ c.write_counted-2.new.output.counts (string_bytes c.lines.waiting) c.lines.refused
    c.lines.invariant.so_far (subst (AppendsFront now new) c.as_bytes-2.ensures.value front)
