use Rattle.std.proofs.Common.{◌≡◌, ◌+◌, ◌^◌, sym, ap, subst, ◌≤◌, ◌∙◌}
use Rattle.std.proofs.lemmas.Bool.{le-ltb}
use Rattle.std.specs.Prelude.{nat_lt, min}
use Rattle.rdl_nodes.specs.View.{slots_of}
use Rattle.rdl_nodes.proofs.Bodies.{item_count_is}
use Rattle.rdl_seen.specs.Contents.{contents, item_count, own_weight}
use Rattle.rdl_held.proofs.Sums.{second_is, third_is}
use Rattle.rdl_held.proofs.large.is_large.Goals as goal

pub returns-then-is_over : goal.returns-then-is_over
returns-then-is_over c =
    let body = c.args.body.now in
    let inside = contents (slots_of c.args.slots.now) in
    let items : c.min-items.result ≡ min (item_count body) (2 ^ 30) = c.min-items.ensures ∙ ap (λ n. min n (2 ^ 30)) (c.len.ensures ∙ sym (item_count_is body)) in
    let depth = le-ltb 16 inside.depth (subst (λ n. n ≤ 16) c.of-contents.ensures.depth c.if-contents-gt16.false) in
    let many = sym (c.is_over.ensures inside.count c.of-contents.ensures.count ∙ ap (λ n. nat_lt 65536 (inside.count + n)) items) ∙ c.if-is_over.true in
    second_is (nat_lt 16 inside.depth) (nat_lt 65536 (inside.count + min (item_count body) (2 ^ 30))) (nat_lt 8388608 (inside.weight + own_weight body)) depth many

pub returns : goal.returns
returns c =
    let body = c.args.body.now in
    let inside = contents (slots_of c.args.slots.now) in
    let items : c.min-items.result ≡ min (item_count body) (2 ^ 30) = c.min-items.ensures ∙ ap (λ n. min n (2 ^ 30)) (c.len.ensures ∙ sym (item_count_is body)) in
    let depth = le-ltb 16 inside.depth (subst (λ n. n ≤ 16) c.of-contents.ensures.depth c.if-contents-gt16.false) in
    let many = sym (c.is_over.ensures inside.count c.of-contents.ensures.count ∙ ap (λ n. nat_lt 65536 (inside.count + n)) items) ∙ c.if-is_over.false in
    let heavy = c.is_over-2.ensures inside.weight c.of-contents.ensures.weight ∙ ap (λ n. nat_lt 8388608 (inside.weight + n)) (c.from-weight.ensures ∙ c.own_weight.ensures) in
    heavy ∙ third_is (nat_lt 16 inside.depth) (nat_lt 65536 (inside.count + min (item_count body) (2 ^ 30))) (nat_lt 8388608 (inside.weight + own_weight body)) depth many
