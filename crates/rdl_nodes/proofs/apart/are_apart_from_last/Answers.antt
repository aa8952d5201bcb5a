use Rattle.std.proofs.Common.{◌≡◌, ◌+◌, ◌-◌, ◌<◌, length, drop, take, min, true, false, not, ap, sym, ◌∙◌, arith}
use Rattle.std.specs.List.{list_all}
use Rattle.rdl_seen.specs.Layouts.{overlaps, Span, are_apart}
use Rattle.rdl_nodes.specs.Apart.{begin_from}
use Rattle.rdl_nodes.proofs.FromBehind.{order_at, apart_at, not_apart_at, rest_slice}
use Rattle.rdl_nodes.proofs.apart.are_apart_from_last.Goals as goal

pub returns-then-not-is_apart_from : goal.returns-then-not-is_apart_from
returns-then-not-is_apart_from c =
    let xs = c.args.spans.now in
    let k = c.loop-i.i - 1 in
    let x = c.index-spans-i.result in
    let within : k < length xs = omega (arith, c.loop-i.auto.i, c.loop-i-test.true) in
    let said : c.is_apart_from.result ≡ list_all (λ (t : Span). not (overlaps x t)) (take (length xs - (k + 1)) (drop (k + 1) xs)) = c.is_apart_from.ensures in
    let some : list_all (λ (t : Span). not (overlaps x t)) (drop (k + 1) xs) ≡ false =
    ap (list_all (λ (t : Span). not (overlaps x t))) (sym (rest_slice xs (k + 1))) ∙ sym said ∙ c.if-not-is_apart_from.true in
    sym (not_apart_at xs k x within c.index-spans-i.is some)

pub loop-i-preserved : goal.loop-i-preserved
loop-i-preserved c =
    let xs = c.args.spans.now in
    let k = c.loop-i.i - 1 in
    let x = c.index-spans-i.result in
    let within : k < length xs = omega (arith, c.loop-i.auto.i, c.loop-i-test.true) in
    let next : c.loop-i.i ≡ k + 1 = omega (arith, c.loop-i-test.true) in
    let said : c.is_apart_from.result ≡ list_all (λ (t : Span). not (overlaps x t)) (take (length xs - (k + 1)) (drop (k + 1) xs)) = c.is_apart_from.ensures in
    let none : list_all (λ (t : Span). not (overlaps x t)) (drop (k + 1) xs) ≡ true =
    ap (list_all (λ (t : Span). not (overlaps x t))) (sym (rest_slice xs (k + 1))) ∙ sym said ∙ c.if-not-is_apart_from.false in
    let apart : are_apart (drop (k + 1) xs) ≡ true = ap (λ n. are_apart (drop n xs)) (sym next) ∙ c.loop-i.invariant.apart in
    let order : begin_from c.loop-i.least (drop (k + 1) xs) ≡ true = ap (λ n. begin_from c.loop-i.least (drop n xs)) (sym next) ∙ c.loop-i.invariant.order in
    let least = c.min-least.ensures ∙ (λ i. min c.loop-i.least (c.start.ensures i)) in
    record {
      apart = apart_at xs k x within c.index-spans-i.is none apart;
      order = ap (λ n. begin_from n (drop k xs)) least ∙ order_at c.loop-i.least xs k x within c.index-spans-i.is order;
    }
