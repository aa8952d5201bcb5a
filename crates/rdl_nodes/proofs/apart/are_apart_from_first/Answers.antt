use Rattle.std.proofs.Common.{min, ◌≡◌, ◌+◌, max, not, take, ap, sym, ◌∙◌}
use Rattle.std.specs.List.{list_all}
use Rattle.rdl_seen.specs.Layouts.{Span, overlaps}
use Rattle.rdl_nodes.specs.Apart.{begin_from, end_by}
use Rattle.rdl_nodes.proofs.FromFront.{begin_at, end_at, apart_at_end, not_apart_at_end}
use Rattle.rdl_nodes.proofs.apart.are_apart_from_first.Goals as goal

pub returns-then-not-none : goal.returns-then-not-none
returns-then-not-none c =
    let xs = c.args.spans.now in
    let i = c.loop-i.i in
    let x = c.index-spans-i.result in
    let told : c.in_ok-none.none ≡ list_all (λ (t : Span). not (overlaps x t)) (take i xs) = c.in_ok-none.ensures in
    sym (not_apart_at_end xs i x c.loop-i-test.true c.index-spans-i.is (sym told ∙ c.if-not-none.true))

pub loop-i-preserved : goal.loop-i-preserved
loop-i-preserved c =
    let xs = c.args.spans.now in
    let i = c.loop-i.i in
    let x = c.index-spans-i.result in
    let told : c.in_ok-none.none ≡ list_all (λ (t : Span). not (overlaps x t)) (take i xs) = c.in_ok-none.ensures in
    record {
      apart = apart_at_end xs i x c.loop-i-test.true c.index-spans-i.is (sym told ∙ c.if-not-none.false) c.loop-i.invariant.apart;
      begins =
          ap (λ n. begin_from n (take (i + 1) xs)) (c.min-low.ensures ∙ ap (min c.loop-i.low) c.start.ensures)
          ∙ begin_at c.loop-i.low xs i x c.loop-i-test.true c.index-spans-i.is c.loop-i.invariant.begins;
      ends =
          ap (λ n. end_by n (take (i + 1) xs)) (c.max-high.ensures ∙ ap (max c.loop-i.high) c.end.ensures)
          ∙ end_at c.loop-i.high xs i x c.loop-i-test.true c.index-spans-i.is c.loop-i.invariant.ends;
    }
