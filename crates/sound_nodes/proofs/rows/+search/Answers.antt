use Rattle.std.proofs.lemmas.Option.{slice_get_read}
use Rattle.std.proofs.lemmas.Bool.{lt-ltb}
use Rattle.std.proofs.Common.{rules, refl, ◌+◌, ◌-◌, ◌<◌, ◌++◌, ◌∷◌, [], true, false, ◌≡◌, take, drop, length, ap, sym, subst, ◌∙◌, arith, suc, max, Some, None, slice_get, option_map, IfOk}
use Rattle.rdl_tree.specs.Address.{body_at}
use Rattle.rdl_nodes.specs.KeptNode.{kept_of}
use Rattle.rdl_seen.specs.Meaning.{node_at}
use Rattle.sound_nodes.specs.Rows.{is_clear, faulty_or, seen_fault, seen_row, rows, below_instance, searched}
use Rattle.rdl_nodes.specs.Apart.{end_by}
use Rattle.rdl_nodes.proofs.FromFront.{end_at}
use Rattle.sound_nodes.proofs.Steps.{stops, goes-on, rows-short, rows-step, searched-at}
use Rattle.sound_nodes.proofs.rows.+search.Goals as goal

pub rows-returns-in_default : goal.rows-returns-in_default
rows-returns-in_default t c =
    let ss = c.args.spans.now in
    let xs = c.args.instances.now in
    let i = c.loop-i.i in
    let below = below_instance (searched c.args.levels c.args.description.now.items c.args.tree.now) c.args.description.now.items c.args.assigned c.args.mode c.args.at.now in
    let span : slice_get ss i ≡ Some c.index-spans-i.result = slice_get_read ss (length ss) i c.index-spans-i.result refl c.loop-i-test.true c.index-spans-i.is in
    let none : slice_get xs i ≡ None = search rules in
    sym (c.loop-i.invariant.rows ∙ rows-short below c.args.at.now c.args.apart c.args.mode ss xs i c.index-spans-i.result span none)

pub rows-returns-then-not-is_clear : goal.rows-returns-then-not-is_clear
rows-returns-then-not-is_clear t c =
    let ss = c.args.spans.now in
    let xs = c.args.instances.now in
    let i = c.loop-i.i in
    let x = c.in-Some.instance.now in
    let s = c.index-spans-i.result in
    let below = below_instance (searched c.args.levels c.args.description.now.items c.args.tree.now) c.args.description.now.items c.args.assigned c.args.mode c.args.at.now in
    let span : slice_get ss i ≡ Some s = slice_get_read ss (length ss) i s refl c.loop-i-test.true c.index-spans-i.is in
    let there : slice_get xs i ≡ Some x = search rules in
    let told : c.in_ok-found.found ≡ seen_row below c.args.at.now c.args.apart c.args.mode (take i ss) s x x.seen = c.in_ok-found.ensures in
    let not_clear : is_clear c.in_ok-found.found ≡ false = search rules in
    let more = rows below c.args.at.now c.args.apart c.args.mode (take (i + 1) ss) (drop (i + 1) ss) (drop (i + 1) xs) in
    told ∙ sym (stops (seen_row below c.args.at.now c.args.apart c.args.mode (take i ss) s x x.seen) more (ap is_clear (sym told) ∙ not_clear))
    ∙ sym (c.loop-i.invariant.rows ∙ rows-step below c.args.at.now c.args.apart c.args.mode ss xs i s x span there)

pub rows-loop-i-preserved : goal.rows-loop-i-preserved
rows-loop-i-preserved t c =
    let ss = c.args.spans.now in
    let xs = c.args.instances.now in
    let i = c.loop-i.i in
    let x = c.in-Some.instance.now in
    let s = c.index-spans-i.result in
    let below = below_instance (searched c.args.levels c.args.description.now.items c.args.tree.now) c.args.description.now.items c.args.assigned c.args.mode c.args.at.now in
    let span : slice_get ss i ≡ Some s = slice_get_read ss (length ss) i s refl c.loop-i-test.true c.index-spans-i.is in
    let there : slice_get xs i ≡ Some x = search rules in
    let told : c.in_ok-found.found ≡ seen_row below c.args.at.now c.args.apart c.args.mode (take i ss) s x x.seen = c.in_ok-found.ensures in
    let clear : is_clear c.in_ok-found.found ≡ true = search rules in
    let more = rows below c.args.at.now c.args.apart c.args.mode (take (i + 1) ss) (drop (i + 1) ss) (drop (i + 1) xs) in
    record {
      rows =
          c.loop-i.invariant.rows ∙ rows-step below c.args.at.now c.args.apart c.args.mode ss xs i s x span there
          ∙ goes-on (seen_row below c.args.at.now c.args.apart c.args.mode (take i ss) s x x.seen) more (ap is_clear (sym told) ∙ clear);
      passed = ap (λ n. end_by n (take (i + 1) ss)) (c.max-high.ensures ∙ ap (max c.loop-i.high) c.end.ensures) ∙ end_at c.loop-i.high ss i s c.loop-i-test.true c.index-spans-i.is c.loop-i.invariant.passed;
    }

pub search-returns : goal.search-returns
search-returns t c =
    let a = c.args.at.now in
    let d = c.args.description.now.items in
    let levels : c.args.levels ≡ suc (c.args.levels - 1) = omega (arith, c.if-levels-eq0.false) in
    let few : length a < 17 = omega (arith, c.len.ensures.same, c.if-len-ge-MAX_LEN.false) in
    let body : body_at a d ≡ Some c.in-Some.body.now = search rules in
    let node : node_at a c.args.tree.now ≡ Some (kept_of c.in-Some-node.kept) = sym c.node.ensures ∙ ap (option_map kept_of) c.in-Some-node.is in
    subst (λ z. IfOk c.in_component.result (λ found. found ≡ z))
    (searched-at c.args.levels (c.args.levels - 1) levels d c.args.tree.now c.args.assigned c.args.mode a c.in-Some.body.now (kept_of c.in-Some-node.kept) (lt-ltb (length a) 17 few) body node)
    c.in_component.ensures

pub seen_row-returns-in-Some-seen_fault : goal.seen_row-returns-in-Some-seen_fault
seen_row-returns-in-Some-seen_fault t c =
    let x = c.args.instance.now in
    let z = c.in-Some.seen.now in
    let below = below_instance (searched c.args.levels c.args.description.now.items c.args.tree.now) c.args.description.now.items c.args.assigned c.args.mode c.args.at.now in
    let seen : x.seen ≡ Some z = search rules in
    let fault : seen_fault c.args.apart c.args.mode c.args.before.spans.now c.args.span x.shell z ≡ Some c.in-Some-seen_fault.kind =
    ap (λ s. seen_fault c.args.apart c.args.mode c.args.before.spans.now c.args.span s z) (sym c.shell.ensures) ∙ sym c.seen_fault.ensures ∙ c.in-Some-seen_fault.is in
    c.faulty.ensures (below x z)
    ∙ (λ i. faulty_or (c.args.at.now ++ c.number.ensures i ∷ []) (sym fault i) (below x z))
    ∙ ap (seen_row below c.args.at.now c.args.apart c.args.mode c.args.before.spans.now c.args.span x) (sym seen)
