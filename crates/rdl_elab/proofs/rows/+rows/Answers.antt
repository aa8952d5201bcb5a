use Rattle.std.proofs.lemmas.Option.{slice_get_read}
use Rattle.std.proofs.Common.{rules, refl, ◌+◌, ◌*◌, ◌<◌, ◌-◌, ◌++◌, ◌∷◌, [], true, false, ◌≡◌, ◌≤◌, length, ap, sym, subst, ◌∙◌, arith, Some, None, slice_get}
use Rattle.rdl_elab.specs.FinishedRows.{Told, told, finished_row, finished_rows, seen, judged, surroundings_inside}
use Rattle.rdl_elab.specs.Finished.{under}
use Rattle.rdl_elab.specs.Reaches.{behind}
use Rattle.rdl_elab.specs.SiblingsBefore.{with_one}
use Rattle.std.specs.Option.{is_some}
use Rattle.rdl_elab.proofs.SiblingsBefore.{AreKept, first-kept, kept-here, one-kept}
use Rattle.rdl_elab.proofs.Telling.{told-end, deeper, level-rows, no-part, no-span, no-finished, at-row, below-row, goes-on, none-is}
use Rattle.rdl_elab.proofs.rows.+rows.Goals as goal

pub add_rows-loop-i-init : goal.add_rows-loop-i-init
add_rows-loop-i-init t c = record {
  before = [];
  kept = first-kept c.in_ok-kept.kept c.args.spans.now c.in_ok-kept.ensures;
  tells = sym (ap (told c.args.rows.now.items) (level-rows c.args.levels c.args.components.now c.args.around.now [] c.args.spans.now c.args.parts.now c.if-levels-eq0.false refl));
}

pub add_rows-returns-in_default : goal.add_rows-returns-in_default
add_rows-returns-in_default t c =
    let none : slice_get c.args.spans.now c.loop-i.i ≡ None = search rules in
    told-end c.loop-i.rows.items _ _ (no-span c.args.components.now (deeper c.args.levels c.args.components.now) c.args.around.now c.args.spans.now c.args.parts.now c.loop-i.i c.loop-i.invariant.before none) c.loop-i.invariant.tells

pub add_rows-returns-in_default-component : goal.add_rows-returns-in_default-component
add_rows-returns-in_default-component t c =
    let span : slice_get c.args.spans.now c.loop-i.i ≡ Some c.in-Some.span = search rules in
    let part : slice_get c.args.parts.now c.loop-i.i ≡ Some c.index-parts-i.result = slice_get_read c.args.parts.now (length c.args.parts.now) c.loop-i.i c.index-parts-i.result refl c.loop-i-test.true c.index-parts-i.is in
    let none : slice_get c.args.components.now c.index-parts-i.result.component ≡ None = search rules in
    told-end c.loop-i.rows.items _ _ (no-finished c.args.components.now (deeper c.args.levels c.args.components.now) c.args.around.now c.args.spans.now c.args.parts.now c.loop-i.i c.loop-i.invariant.before c.in-Some.span c.index-parts-i.result span part none) c.loop-i.invariant.tells

pub add_rows-returns-then-is_some : goal.add_rows-returns-then-is_some
add_rows-returns-then-is_some t c =
    let fs = c.args.components.now in
    let o = c.args.around.now in
    let p = c.index-parts-i.result in
    let f = c.in-Some-component.component.now in
    let before = c.loop-i.invariant.before in
    let span : slice_get c.args.spans.now c.loop-i.i ≡ Some c.in-Some.span = search rules in
    let part : slice_get c.args.parts.now c.loop-i.i ≡ Some p = slice_get_read c.args.parts.now (length c.args.parts.now) c.loop-i.i p refl c.loop-i-test.true c.index-parts-i.is in
    let there : slice_get fs p.component ≡ Some f = search rules in
    let row = finished_row o c.in-Some.span p f in
    let below = surroundings_inside o p f row in
    let first : Told = record { fault = c.in_ok-fault.fault; rows = c.add_row.new.rows.items } in
    let told-first : first ≡ told c.loop-i.rows.items (judged o before c.in-Some.span p f row ∷ []) =
    c.in_ok-fault.ensures.told before (kept-here c.loop-i.kept c.args.spans.now c.loop-i.i c.in-Some.span before span c.loop-i.invariant.kept) in
    let then = first in
    let stops : is_some first.fault ≡ true = search rules in
    at-row fs (deeper c.args.levels fs) o c.args.spans.now c.args.parts.now c.loop-i.i before c.in-Some.span p f c.loop-i.rows.items first then span part there row below refl refl told-first stops ∙ c.loop-i.invariant.tells

pub add_rows-returns-then-is_some-2 : goal.add_rows-returns-then-is_some-2
add_rows-returns-then-is_some-2 t c =
    let fs = c.args.components.now in
    let o = c.args.around.now in
    let p = c.index-parts-i.result in
    let f = c.in-Some-component.component.now in
    let before = c.loop-i.invariant.before in
    let span : slice_get c.args.spans.now c.loop-i.i ≡ Some c.in-Some.span = search rules in
    let part : slice_get c.args.parts.now c.loop-i.i ≡ Some p = slice_get_read c.args.parts.now (length c.args.parts.now) c.loop-i.i p refl c.loop-i-test.true c.index-parts-i.is in
    let there : slice_get fs p.component ≡ Some f = search rules in
    let row = finished_row o c.in-Some.span p f in
    let below = surroundings_inside o p f row in
    let first : Told = record { fault = c.in_ok-fault.fault; rows = c.add_row.new.rows.items } in
    let told-first : first ≡ told c.loop-i.rows.items (judged o before c.in-Some.span p f row ∷ []) =
    c.in_ok-fault.ensures.told before (kept-here c.loop-i.kept c.args.spans.now c.loop-i.i c.in-Some.span before span c.loop-i.invariant.kept) in
    let then : Told = record { fault = c.in_ok-fault-2.fault; rows = c.add_below.new.rows.items } in
    let told-then : then ≡ told first.rows (finished_rows (c.args.levels - 1) fs below (under o.mode f.layouts).spans f.parts.items) = search rules in
    let on : is_some first.fault ≡ false = search rules in
    let stops : is_some then.fault ≡ true = search rules in
    below-row fs (deeper c.args.levels fs) o c.args.spans.now c.args.parts.now c.loop-i.i before c.in-Some.span p f c.loop-i.rows.items first then span part there row below refl refl told-first on told-then stops ∙ c.loop-i.invariant.tells

pub add_rows-loop-i-preserved : goal.add_rows-loop-i-preserved
add_rows-loop-i-preserved t c =
    let fs = c.args.components.now in
    let o = c.args.around.now in
    let p = c.index-parts-i.result in
    let f = c.in-Some-component.component.now in
    let before = c.loop-i.invariant.before in
    let span : slice_get c.args.spans.now c.loop-i.i ≡ Some c.in-Some.span = search rules in
    let part : slice_get c.args.parts.now c.loop-i.i ≡ Some p = slice_get_read c.args.parts.now (length c.args.parts.now) c.loop-i.i p refl c.loop-i-test.true c.index-parts-i.is in
    let there : slice_get fs p.component ≡ Some f = search rules in
    let row = finished_row o c.in-Some.span p f in
    let below = surroundings_inside o p f row in
    let first : Told = record { fault = c.in_ok-fault.fault; rows = c.add_row.new.rows.items } in
    let told-first : first ≡ told c.loop-i.rows.items (judged o before c.in-Some.span p f row ∷ []) =
    c.in_ok-fault.ensures.told before (kept-here c.loop-i.kept c.args.spans.now c.loop-i.i c.in-Some.span before span c.loop-i.invariant.kept) in
    let then : Told = record { fault = c.in_ok-fault-2.fault; rows = c.add_below.new.rows.items } in
    let told-then : then ≡ told first.rows (finished_rows (c.args.levels - 1) fs below (under o.mode f.layouts).spans f.parts.items) = search rules in
    let on : is_some first.fault ≡ false = search rules in
    let further : is_some then.fault ≡ false = search rules in
    let one = seen c.in-Some.span row.values in
    let after : c.add_row.new.siblings ≡ with_one c.loop-i.kept one = c.in_ok-fault.ensures.siblings (none-is first.fault on) in
    record {
      before = before ++ one ∷ [];
      kept =
          subst (λ siblings. AreKept siblings c.args.spans.now (c.loop-i.i + 1) (before ++ one ∷ [])) (sym after)
          (one-kept c.loop-i.kept c.args.spans.now c.loop-i.i before one span c.loop-i.invariant.kept);
      tells =
          goes-on fs (deeper c.args.levels fs) o c.args.spans.now c.args.parts.now c.loop-i.i before c.in-Some.span p f c.loop-i.rows.items first then span part there row below refl refl (before ++ one ∷ []) told-first on told-then further refl
          ∙ c.loop-i.invariant.tells;
    }

pub add_rows-returns : goal.add_rows-returns
add_rows-returns t c =
    let end : length c.args.parts.now ≤ c.loop-i.i = omega (arith, c.loop-i-test.false) in
    told-end c.loop-i.rows.items _ _ (no-part c.args.components.now (deeper c.args.levels c.args.components.now) c.args.around.now c.args.spans.now c.args.parts.now c.loop-i.i c.loop-i.invariant.before end) c.loop-i.invariant.tells

pub add_below-add_rows-requires : goal.add_below-add_rows-requires
add_below-add_rows-requires t c =
    let less : 2 * c.args.levels + 1 < t = omega (arith, c.decreases) in
    (less, tt)

pub add_rows-add_row-requires : goal.add_rows-add_row-requires
add_rows-add_row-requires t c = c.as_slice-reaching.ensures.value ∙ c.in_ok-put_behind.ensures c.args.around.now.reaching (search rules)

pub add_rows-add_below-requires : goal.add_rows-add_below-requires
add_rows-add_below-requires t c =
    let less : 2 * (c.args.levels - 1) + 2 < t = omega (arith, c.decreases, c.if-levels-eq0.false) in
    let same : c.as_slice-reaching.result.now ≡ behind c.index-parts-i.result.at c.args.around.now.reaching =
    c.as_slice-reaching.ensures.value ∙ c.in_ok-put_behind.ensures c.args.around.now.reaching (search rules) in
    (less, same)
