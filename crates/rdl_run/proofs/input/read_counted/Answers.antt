use Rattle.std.proofs.Common.{◌≡◌, ◌≤◌, ◌+◌, ◌++◌, length, take, false, rules, arith, ap, ◌∙◌, subst, sym}
use Rattle.std.specs.Io.KnownBytes.{Consumes}
use Rattle.std.proofs.KnownBytes.{Consumes-trans, Consumes-kept}
use Rattle.rdl_run.specs.Turns.{MayBeRead}
use Rattle.rdl_run.specs.declared.counted.Reads.{Reads}
use Rattle.rdl_run.proofs.WholeInput.{all_read, over_limit, interrupted_once}
use Rattle.rdl_run.proofs.input.read_counted.Goals as goal
use Rattle.rdl_run.proofs.input.read_counted.Goals.{in-Ok+else-n-limit+else-is_err, in-Err+else-has_failed+else-interrupts-gt-MOST_INTERRUPTS}

pub returns-in-Ok-eq0-clause-bytes : goal.returns-in-Ok-eq0-clause-bytes
returns-in-Ok-eq0-clause-bytes g c =
    let remaining = g.R.Read.remaining in
    all_read (remaining c.args.input.now.reader.now) (remaining c.loop-turn.input.reader.now) (remaining c.read.new.self.reader.now) c.loop-turn.bytes.items c.read.new.buffer c.in-Ok-eq0.field-0
    c.loop-turn.invariant.took c.in-Ok-eq0.ensures.bytes.0 c.in-Ok-eq0.field-0-test (c.in-Ok-eq0.ensures.bytes.1 c.in-Ok-eq0.field-0-test (search rules))

pub returns-then-n-limit-clause-too_long : goal.returns-then-n-limit-clause-too_long
returns-then-n-limit-clause-too_long g c = λ _.
    let remaining = g.R.Read.remaining in
    over_limit (remaining c.args.input.now.reader.now) (remaining c.loop-turn.input.reader.now) (remaining c.read.new.self.reader.now) c.loop-turn.bytes.items c.read.new.buffer c.in-Ok.n c.args.limit
    c.loop-turn.invariant.took c.in-Ok.ensures.bytes.0 c.in-Ok.ensures.bound.0 (search rules)

pub loop-turn-preserved : goal.loop-turn-preserved
loop-turn-preserved g c =
    let remaining = g.R.Read.remaining in
    let bytes = c.loop-turn.bytes in
    let before = c.loop-turn.input.counts in
    let after = c.read.new.self.counts in
    elim c.match-read.branch [
      | in-Ok+else-n-limit+else-is_err w ↦
          let counted : after ≡ record before { reads = before.reads + 1 } = w.in-Ok.ensures.counted in
          let more : c.loop-turn._turn + 1 ≤ length c.match-read.bytes.items + before.interrupts = search rules in
          record {
            took = let grown : c.match-read.bytes.items ≡ bytes.items ++ take w.in-Ok.n c.read.new.buffer = search rules in
                subst (Consumes (remaining c.args.input.now.reader.now) (remaining c.read.new.self.reader.now)) (sym grown)
                (Consumes-trans _ (remaining c.loop-turn.input.reader.now) _ _ _ c.loop-turn.invariant.took w.in-Ok.ensures.bytes.0);
            small = search rules;
            asked = subst MayBeRead (sym counted) (record { unfailed = c.loop-turn.invariant.asked.unfailed; few = c.loop-turn.invariant.asked.few });
            turns = subst (λ (k : Reads). c.loop-turn._turn + 1 ≤ length c.match-read.bytes.items + k.interrupts) (sym counted) more;
            reads = ap (λ (k : Reads). k.reads) counted ∙ ap (λ n. n + 1) c.loop-turn.invariant.reads;
            same = search rules;
          }
      | in-Err+else-has_failed+else-interrupts-gt-MOST_INTERRUPTS w ↦
          let unfailed : after.failed ≡ false = sym w.has_failed.ensures ∙ w.if-has_failed.false in
          let counted = interrupted_once before after w.in-Err.field-0 w.in-Err.ensures.counted unfailed in
          let few : after.interrupts ≤ 1000 = subst (λ n. n ≤ 1000) w.interrupts.ensures w.if-interrupts-gt-MOST_INTERRUPTS.false in
          record {
            took = subst (λ kept. Consumes (remaining c.args.input.now.reader.now) (remaining c.read.new.self.reader.now) kept.items) (sym w.bytes-is)
                (Consumes-kept _ (remaining c.loop-turn.input.reader.now) _ _ c.loop-turn.invariant.took w.in-Err.ensures.bytes);
            small = search rules;
            asked = record { unfailed = unfailed; few = few };
            turns = omega (arith, c.loop-turn.invariant.turns, ap (λ kept. length kept.items) w.bytes-is, ap (λ (k : Reads). k.interrupts) counted);
            reads = ap (λ (k : Reads). k.reads) counted ∙ ap (λ n. n + 1) c.loop-turn.invariant.reads;
            same = search rules;
          }
    ]
