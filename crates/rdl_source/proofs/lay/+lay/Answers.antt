-- One more statement has been read, with the gap behind it.
use Rattle.std.proofs.Common.{get_or, ◌≡◌, ◌≤◌, ◌+◌, ap, subst, arith, IfSome, Some, length, sym, ◌∙◌, eq-eqb, refl, ◌-◌}
use Rattle.rdl_source.specs.declared.gap.Left.TheVariants.{Word}
use Rattle.rdl_source.specs.declared.gap.Right.TheVariants.{End}
use Rattle.rdl_source.specs.Laid.{ended}
use Rattle.rdl_source.specs.declared.walk.Spot.{Spot}
use Rattle.rdl_source.specs.declared.lay.Wording.{Wording}
use Rattle.rdl_source.specs.declared.statement.Statement.{Statement}
use Rattle.rdl_source.specs.View.{bare_of, put}
use Rattle.rdl_source.specs.LaidOut.{Has, BeginsIn, IsStop}
use Rattle.rdl_source.specs.Worded.{IsWorded}
use Rattle.rdl_source.specs.Only.{IsBody}
use Rattle.std.proofs.lemmas.Bool.{false≢true}
use Rattle.rdl_source.proofs.Laying.{nothing_done, one_done}
use Rattle.rdl_source.proofs.One.{nothing_undone, nothing_lies, followed, no_more, Only, wording_of, no_wording, no_gap_behind, none_of, same_items, one_undone, gap_one, opened, not_worded, stop_one, start_within, body_one}
use Rattle.rdl_source.proofs.lay.+lay.Goals as goal

pub read_body-statements-preserved : goal.read_body-statements-preserved
read_body-statements-preserved t c =
    let source = c.args.text.now in
    let ws = c.args.words.now in
    let gap = c.statements.gap in
    let spot = c.statements.spot in
    let rest = c.statements.rest.now in
    let w = c.in-Some-2.wording in
    let next = c.in-Some-gap_at.next in
    let behind = c.behind-behind.result in
    let count = c.items_in-items.result.0 in
    let s : Statement = record { float = gap.float; lead = gap.lead; words = record { from = gap.lead.to; to = behind.at }; trail = next.trail; items = count; inside = w.inside } in
    let worded : IsWorded source ws rest w.inside gap.lead.to spot.word w.end.word w.end.at =
    subst (λ o. IfSome o (λ (v : Wording). IsWorded source ws rest v.inside gap.lead.to spot.word v.end.word v.end.at)) c.in-Some-2.is c.in_ok-wording.ensures.worded in
    let low : spot.word ≤ w.end.word = subst (λ o. IfSome o (λ (v : Wording). spot.word ≤ v.end.word)) c.in-Some-2.is c.in_ok-wording.ensures.forward in
    let has : Has w.end.at rest (bare_of s) =
    record { words_end = ap (λ (q : Spot). q.at) c.behind-behind.ensures; trail_begin = c.in-Some-gap_at.ensures.trail; some = omega (arith, c.if-items-eq0.false); items = c.items_in-items.ensures.items } in
    let there : behind ≡ record { left = Word; at = behind.at; word = w.end.word + 1 } =
    λ i. record { left = ap (λ (q : Spot). q.left) c.behind-behind.ensures i; at = behind.at; word = ap (λ (q : Spot). q.word) c.behind-behind.ensures i } in
    record {
      gap = c.in-Some-gap_at.ensures.gap;
      done =
          one_done source ws c.args.begin c.in-Some.first.trail.to c.args.places.now c.statements.list.items c.push.new.self.items spot behind gap.trail.to rest c.items_in-items.result.1.now s gap.right
          w.end.word w.end.at c.statements.invariant.done c.statements.invariant.gap c.statements-test.ensures worded has c.items_in-items.ensures.rest c.in_ok-push.ensures.items there;
      undone = λ laid to0 close n h deep.
          (let back = c.statements.invariant.undone laid to0 close n h deep in
          let x = followed source ws back.tail spot.left spot.at gap.trail.to spot.word rest close n gap.right gap.lead.to gap.trail.to gap.float gap.lead c.statements.invariant.gap c.statements-test.ensures back.lie in
          let only : Only source ws c.args.levels rest gap.lead.to spot.word (Some w) = subst (Only source ws c.args.levels rest gap.lead.to spot.word) c.in-Some-2.is c.in_ok-wording.ensures.only in
          let is = wording_of source ws c.args.levels back.tail spot.left spot.at gap.trail.to spot.word rest close n gap.right gap.lead.to gap.trail.to gap.float gap.lead (Some w) c.statements.invariant.gap back.deep only x in
          let last = subst (λ ps. BeginsIn (record { from = gap.lead.to; to = behind.at }) ps → ⊥) c.items_in-items.ensures.rest c.items_in-items.ensures.last in
          let items = same_items source ws back.tail spot.left spot.at gap.trail.to spot.word rest close n gap.right gap.lead.to gap.trail.to gap.float gap.lead w behind count c.statements.invariant.gap x is c.behind-behind.ensures c.items_in-items.ensures.items last in
          one_undone source ws c.args.levels c.in-Some.first.trail.to c.statements.list.items c.push.new.self.items spot behind gap.trail.to rest c.items_in-items.result.1.now laid to0 close n s gap.right
          next.right next.lead.to next.float next.lead w back c.statements.invariant.gap x is c.behind-behind.ensures refl refl c.in-Some-gap_at.ensures.gap c.in-Some-gap_at.ensures.trail items c.items_in-items.ensures.rest c.in_ok-push.ensures.items);
      forward = omega (arith, c.statements.invariant.forward, low, ap (λ (q : Spot). q.word) c.behind-behind.ensures);
    }

pub read_body-returns-in_default-clause-only : goal.read_body-returns-in_default-clause-only
read_body-returns-in_default-clause-only t c laid to close n h deep =
    let begin = c.args.begin in
    nothing_lies c.args.text.now c.args.words.now laid begin.left begin.at to begin.word c.args.places.now close n (none_of c.gap_at.result _ c.in_default.not-Some c.gap_at.ensures.none) h

pub read_body-statements-init : goal.read_body-statements-init
read_body-statements-init t c =
    let source = c.args.text.now in
    let ws = c.args.words.now in
    let begin = c.args.begin in
    let first = c.in-Some.first in
    record {
      gap = c.in-Some.ensures.gap;
      done = nothing_done source ws begin first.trail.to c.args.places.now _ c.new-list.ensures.items;
      undone = nothing_undone source ws c.args.levels begin first.trail.to c.args.places.now _ first.right first.lead.to first.float first.lead c.in-Some.ensures.gap c.new-list.ensures.items;
      forward = omega arith;
    }

pub read_body-returns-in_default-2-clause-only : goal.read_body-returns-in_default-2-clause-only
read_body-returns-in_default-2-clause-only t c laid to close n h deep =
    let source = c.args.text.now in
    let ws = c.args.words.now in
    let gap = c.statements.gap in
    let spot = c.statements.spot in
    let rest = c.statements.rest.now in
    let o = c.in_ok-wording.field-0 in
    let back = c.statements.invariant.undone laid to close n h deep in
    let x = followed source ws back.tail spot.left spot.at gap.trail.to spot.word rest close n gap.right gap.lead.to gap.trail.to gap.float gap.lead c.statements.invariant.gap c.statements-test.ensures back.lie in
    no_wording o x.inside x.j x.end c.in_default-2.not-Some
    (wording_of source ws c.args.levels back.tail spot.left spot.at gap.trail.to spot.word rest close n gap.right gap.lead.to gap.trail.to gap.float gap.lead o c.statements.invariant.gap back.deep c.in_ok-wording.ensures.only x)

pub read_body-returns-in_default-gap_at-clause-only : goal.read_body-returns-in_default-gap_at-clause-only
read_body-returns-in_default-gap_at-clause-only t c laid to close n h deep =
    let source = c.args.text.now in
    let ws = c.args.words.now in
    let gap = c.statements.gap in
    let spot = c.statements.spot in
    let rest = c.statements.rest.now in
    let w = c.in-Some-2.wording in
    let back = c.statements.invariant.undone laid to close n h deep in
    let x = followed source ws back.tail spot.left spot.at gap.trail.to spot.word rest close n gap.right gap.lead.to gap.trail.to gap.float gap.lead c.statements.invariant.gap c.statements-test.ensures back.lie in
    let only : Only source ws c.args.levels rest gap.lead.to spot.word (Some w) = subst (Only source ws c.args.levels rest gap.lead.to spot.word) c.in-Some-2.is c.in_ok-wording.ensures.only in
    let is = wording_of source ws c.args.levels back.tail spot.left spot.at gap.trail.to spot.word rest close n gap.right gap.lead.to gap.trail.to gap.float gap.lead (Some w) c.statements.invariant.gap back.deep only x in
    no_gap_behind source ws back.tail spot.left spot.at gap.trail.to spot.word rest close n x.inside w c.behind-behind.result x is c.behind-behind.ensures
    (none_of c.gap_at-in-statements.result _ c.in_default-gap_at.not-Some c.gap_at-in-statements.ensures.none)

pub read_body-returns-then-items-eq0-clause-only : goal.read_body-returns-then-items-eq0-clause-only
read_body-returns-then-items-eq0-clause-only t c laid to close n h deep =
    let source = c.args.text.now in
    let ws = c.args.words.now in
    let gap = c.statements.gap in
    let spot = c.statements.spot in
    let rest = c.statements.rest.now in
    let w = c.in-Some-2.wording in
    let behind = c.behind-behind.result in
    let count = c.items_in-items.result.0 in
    let back = c.statements.invariant.undone laid to close n h deep in
    let x = followed source ws back.tail spot.left spot.at gap.trail.to spot.word rest close n gap.right gap.lead.to gap.trail.to gap.float gap.lead c.statements.invariant.gap c.statements-test.ensures back.lie in
    let only : Only source ws c.args.levels rest gap.lead.to spot.word (Some w) = subst (Only source ws c.args.levels rest gap.lead.to spot.word) c.in-Some-2.is c.in_ok-wording.ensures.only in
    let is = wording_of source ws c.args.levels back.tail spot.left spot.at gap.trail.to spot.word rest close n gap.right gap.lead.to gap.trail.to gap.float gap.lead (Some w) c.statements.invariant.gap back.deep only x in
    let last = subst (λ ps. BeginsIn (record { from = gap.lead.to; to = behind.at }) ps → ⊥) c.items_in-items.ensures.rest c.items_in-items.ensures.last in
    let items = same_items source ws back.tail spot.left spot.at gap.trail.to spot.word rest close n gap.right gap.lead.to gap.trail.to gap.float gap.lead w behind count c.statements.invariant.gap x is c.behind-behind.ensures c.items_in-items.ensures.items last in
    omega (arith, items, x.has.some, c.if-items-eq0.true)

pub read_body-returns-then-not-is_empty-clause-only : goal.read_body-returns-then-not-is_empty-clause-only
read_body-returns-then-not-is_empty-clause-only t c laid to close n h deep =
    let source = c.args.text.now in
    let ws = c.args.words.now in
    let gap = c.statements.gap in
    let spot = c.statements.spot in
    let rest = c.statements.rest.now in
    let back = c.statements.invariant.undone laid to close n h deep in
    let x = no_more source ws back.tail spot.left spot.at gap.trail.to spot.word rest close n gap.right gap.lead.to gap.trail.to gap.float gap.lead c.statements.invariant.gap c.statements-test.ensures back.lie in
    false≢true (c.if-not-is_empty.ensures ∙ eq-eqb (length rest) 0 (ap length x.none))

pub read_body-returns-clause-only : goal.read_body-returns-clause-only
read_body-returns-clause-only t c laid to close n h deep =
    let source = c.args.text.now in
    let ws = c.args.words.now in
    let gap = c.statements.gap in
    let spot = c.statements.spot in
    let rest = c.statements.rest.now in
    let list = c.statements.list.items in
    let back = c.statements.invariant.undone laid to close n h deep in
    let x = no_more source ws back.tail spot.left spot.at gap.trail.to spot.word rest close n gap.right gap.lead.to gap.trail.to gap.float gap.lead c.statements.invariant.gap c.statements-test.ensures back.lie in
    let same = gap_one source ws spot.left End gap.right spot.at spot.word close gap.lead.to gap.trail.to gap.trail.to x.float gap.float x.lead gap.lead x.gap c.statements.invariant.gap in
    let end : ended (record { from = gap.trail.to; to = close }) ≡ ended (record { from = gap.trail.to; to = gap.lead.to }) = ap (λ m. ended (record { from = gap.trail.to; to = m })) same.is_end in (
      c.ended.ensures.statements ∙ (ap (put list) (sym end) ∙ (ap (put list) (sym x.is) ∙ sym back.is)),
      c.ended.ensures.begin ∙ sym back.begin,
      c.ended.ensures.close ∙ sym same.is_end,
      c.ended.ensures.word ∙ x.word,
    )

pub read_words-returns-then-text-stop-ne123-clause-only : goal.read_words-returns-then-text-stop-ne123-clause-only
read_words-returns-then-text-stop-ne123-clause-only t c inside j at h deep =
    let stop = c.in-Some.stop in
    not_worded c.args.text.now c.args.words.now c.args.places.now inside c.args.from c.args.from c.args.word j at stop.word stop.at c.in-Some.ensures.stop c.if-text-stop-eq59.false c.if-text-stop-ne123.true h

pub read_words-returns-then-body-len-clause-only : goal.read_words-returns-then-body-len-clause-only
read_words-returns-then-body-len-clause-only t c inside j at h deep =
    let source = c.args.text.now in
    let ws = c.args.words.now in
    let ps = c.args.places.now in
    let stop = c.in-Some.stop in
    let body = c.in-Some-2.body in
    let x = opened source ws ps inside c.args.from c.args.from c.args.word j at stop.word stop.at c.in-Some.ensures.stop c.if-text-stop-ne123.false h in
    let one =
    body_one source ws c.args.levels (c.args.levels - 1) ps c.inside_first-inner.result.now inside j at stop.word stop.at c.behind.result c.in_ok-body.field-0 c.in_ok-body.ensures.only c.behind.ensures
    c.inside_first-inner.ensures x deep (omega (arith, c.if-levels-eq0.false)) in
    let is = subst (λ o. IsBody o x.i.body x.i.«open» x.i.close x.c) c.in-Some-2.is one in
    let inside_words = start_within ws j at x.closes.0.there in
    omega (arith, inside_words, x.closes.0.from, is.3, c.if-body-len.true, c.len.ensures)

pub read_words-returns-then-text-end-ne59-clause-only : goal.read_words-returns-then-text-end-ne59-clause-only
read_words-returns-then-text-end-ne59-clause-only t c inside j at h deep =
    let source = c.args.text.now in
    let ws = c.args.words.now in
    let ps = c.args.places.now in
    let stop = c.in-Some.stop in
    let body = c.in-Some-2.body in
    let x = opened source ws ps inside c.args.from c.args.from c.args.word j at stop.word stop.at c.in-Some.ensures.stop c.if-text-stop-ne123.false h in
    let one =
    body_one source ws c.args.levels (c.args.levels - 1) ps c.inside_first-inner.result.now inside j at stop.word stop.at c.behind.result c.in_ok-body.field-0 c.in_ok-body.ensures.only c.behind.ensures
    c.inside_first-inner.ensures x deep (omega (arith, c.if-levels-eq0.false)) in
    let is = subst (λ o. IsBody o x.i.body x.i.«open» x.i.close x.c) c.in-Some-2.is one in
    let end = c.in-Some-stop_from.end in
    let s = subst (λ m. IsStop source ws body.close (m + 1) end.word end.at) is.3 c.in-Some-stop_from.ensures.stop in
    let same = stop_one source ws body.close x.i.close (x.c + 1) end.word j end.at at s x.closes.0 in
    c.if-text-end-ne59.true (ap (λ m. get_or source m 0) same.1 ∙ x.closes.1)

pub read_words-returns-clause-only : goal.read_words-returns-clause-only
read_words-returns-clause-only t c inside j at h deep =
    let source = c.args.text.now in
    let ws = c.args.words.now in
    let ps = c.args.places.now in
    let stop = c.in-Some.stop in
    let body = c.in-Some-2.body in
    let x = opened source ws ps inside c.args.from c.args.from c.args.word j at stop.word stop.at c.in-Some.ensures.stop c.if-text-stop-ne123.false h in
    let one =
    body_one source ws c.args.levels (c.args.levels - 1) ps c.inside_first-inner.result.now inside j at stop.word stop.at c.behind.result c.in_ok-body.field-0 c.in_ok-body.ensures.only c.behind.ensures
    c.inside_first-inner.ensures x deep (omega (arith, c.if-levels-eq0.false)) in
    let is = subst (λ o. IsBody o x.i.body x.i.«open» x.i.close x.c) c.in-Some-2.is one in
    let end = c.in-Some-stop_from.end in
    let s = subst (λ m. IsStop source ws body.close (m + 1) end.word end.at) is.3 c.in-Some-stop_from.ensures.stop in
    let same = stop_one source ws body.close x.i.close (x.c + 1) end.word j end.at at s x.closes.0 in
    ((λ k. Some (record { «open» = is.1 k; close = is.2 k; body = is.0 k })) ∙ sym x.is, same.0, same.1)
