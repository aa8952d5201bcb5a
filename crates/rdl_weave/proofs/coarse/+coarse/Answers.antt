use Rattle.std.proofs.Common.{rules, ◌≡◌, ◌+◌, ◌*◌, ◌<◌, ◌++◌, arith, ap, sym, ◌∙◌, string_bytes}
use Rattle.rdl_tree.specs.Weight.{capped}
use Rattle.rdl_tree.specs.Items.{count, anonymous}
use Rattle.rdl_tree.specs.declared.description.Item.TheVariants.{Instance}
use Rattle.rdl_tree.specs.declared.description.Of.TheVariants.{Anonymous}
use Rattle.rdl_tree.proofs.Sizes.{item_count}
use Rattle.rdl_origin.specs.View as origins
use Rattle.rdl_source.specs.View.{list_of}
use Rattle.rdl_weave.proofs.Pieces.{walk_begun, walk_more, walk_more_spans, body_done, body_done_spans, on_ok, define_text, define_spans, anonymous_text, anonymous_spans}
use Rattle.rdl_weave.proofs.Sized.{count-item}
use Rattle.rdl_write.specs.MapText.{open_line, deeper}
use Rattle.rdl_weave.specs.Coarse.{changed_at, text_of, spans_of, body_pieces, next}
use Rattle.rdl_weave.proofs.coarse.+coarse.Goals as goal

pub put_changed-returns-in_ok-put_inner-in-Define-clause-text : goal.put_changed-returns-in_ok-put_inner-in-Define-clause-text
put_changed-returns-in_ok-put_inner-in-Define-clause-text t c =
    on_ok c.close_definition.result
    (λ d. define_text _ _ _ _ _ _ _ (list_of c.args.was.statements.now) (origins.list_of c.args.was.origins.now) c.args.number c.args.item.now _ c.in-Define.component _ _ c.in-Define.is
    ((λ i. changed_at c.args.number (sym c.as_slice-statements.ensures i) (sym c.as_slice.ensures i)) ∙ c.in-Some.ensures)
    c.in_ok-open_definition-in-Define.ensures c.in_ok-put_inner-in-Define.ensures.text d)
    (c.close_definition.ensures c.in-Define.name c.in-Define.component.kind)

pub put_changed-returns-in_ok-put_inner-in-Define-clause-spans : goal.put_changed-returns-in_ok-put_inner-in-Define-clause-spans
put_changed-returns-in_ok-put_inner-in-Define-clause-spans t c =
    on_ok c.close_definition.result
    (λ d. define_spans _ _ _ _ _ (list_of c.args.was.statements.now) (origins.list_of c.args.was.origins.now) c.args.number c.args.item.now _ c.in-Define.component _ _ c.in-Define.is
    ((λ i. changed_at c.args.number (sym c.as_slice-statements.ensures i) (sym c.as_slice.ensures i)) ∙ c.in-Some.ensures)
    c.in_ok-put_inner-in-Define.ensures.spans)
    (c.close_definition.ensures c.in-Define.name c.in-Define.component.kind)

pub put_changed-returns-in_ok-put_inner-in-Instance-default-Anonymous-clause-text : goal.put_changed-returns-in_ok-put_inner-in-Instance-default-Anonymous-clause-text
put_changed-returns-in_ok-put_inner-in-Instance-default-Anonymous-clause-text t c =
    let whole : c.args.item.now ≡ Instance c.in-Instance-default-Anonymous.shell (Anonymous c.in-Instance-default-Anonymous.component) = search rules in
    let opened : string_bytes c.open_instance.new.text ≡ string_bytes c.args.sheet.now.text ++ open_line c.args.indent.now (anonymous c.in-Instance-default-Anonymous.shell c.in-Instance-default-Anonymous.component.kind) = search rules in
    let inner : string_bytes c.put_inner-in-Instance-default-Anonymous.new.sheet.text ≡ string_bytes c.open_instance.new.text ++ text_of c.args.ground.source.now (body_pieces c.args.ground.source.now c.args.ground.sizes.now (deeper c.args.indent.now) c.in-Some.was.statements.now c.in-Some.was.origins.now (next c.args.number 1) c.in-Instance-default-Anonymous.component.body) = search rules in
    on_ok c.close_instance.result
    (λ d. anonymous_text _ _ _ _ _ _ _ (list_of c.args.was.statements.now) (origins.list_of c.args.was.origins.now) c.args.number c.args.item.now c.in-Instance-default-Anonymous.shell c.in-Instance-default-Anonymous.component _ _ whole
    ((λ i. changed_at c.args.number (sym c.as_slice-statements.ensures i) (sym c.as_slice.ensures i)) ∙ c.in-Some.ensures)
    opened inner d)
    (c.close_instance.ensures c.in-Instance-default-Anonymous.component.kind)

pub put_changed-returns-in_ok-put_inner-in-Instance-default-Anonymous-clause-spans : goal.put_changed-returns-in_ok-put_inner-in-Instance-default-Anonymous-clause-spans
put_changed-returns-in_ok-put_inner-in-Instance-default-Anonymous-clause-spans t c =
    let whole : c.args.item.now ≡ Instance c.in-Instance-default-Anonymous.shell (Anonymous c.in-Instance-default-Anonymous.component) = search rules in
    let inner : c.put_inner-in-Instance-default-Anonymous.new.sheet.spans.items ≡ c.args.sheet.now.spans.items ++ spans_of (body_pieces c.args.ground.source.now c.args.ground.sizes.now (deeper c.args.indent.now) c.in-Some.was.statements.now c.in-Some.was.origins.now (next c.args.number 1) c.in-Instance-default-Anonymous.component.body) = search rules in
    on_ok c.close_instance.result
    (λ d. anonymous_spans _ _ _ _ _ (list_of c.args.was.statements.now) (origins.list_of c.args.was.origins.now) c.args.number c.args.item.now c.in-Instance-default-Anonymous.shell c.in-Instance-default-Anonymous.component _ _ whole
    ((λ i. changed_at c.args.number (sym c.as_slice-statements.ensures i) (sym c.as_slice.ensures i)) ∙ c.in-Some.ensures)
    inner)
    (c.close_instance.ensures c.in-Instance-default-Anonymous.component.kind)

pub put_body-put_item-requires : goal.put_body-put_item-requires
put_body-put_item-requires t c =
    let h = count-item c.as_slice-item-items.result.now c.items.item-index c.item-item.result c.args.body.now c.items-test.true c.item-item.is c.as_slice-item-items.ensures in
    let same : 4 * count c.args.body.now + 3 ≡ t = c.requires.1.0 in
    let less : 4 * item_count c.item-item.result + 2 < t = omega (arith, h, same) in
    (less, tt)

pub put_body-items-init : goal.put_body-items-init
put_body-items-init t c =
    let same = walk_begun _ _ _ _ _ _ c.as_slice-item-items.result.now c.args.body.now c.as_slice-item-items.ensures in
    (ap (λ ps. string_bytes c.put_loose.new.text ++ text_of c.args.ground.source.now ps) same, ap (λ ps. c.put_loose.new.spans.items ++ spans_of ps) same)

pub put_body-items-preserved : goal.put_body-items-preserved
put_body-items-preserved t c =
    let place = c.saturating_add-at.ensures ∙ ap (λ k. capped (c.items.at + k)) c.count.ensures in (
      walk_more _ _ _ _ _ _ _ _ c.items.skip c.items.at _ _ c.as_slice-item-items.result.now c.items.item-index c.item-item.result c.items-test.true c.item-item.is c.in_ok-skip.ensures.skip place c.items.invariant.0 c.in_ok-skip.ensures.text,
      walk_more_spans _ _ _ _ _ _ _ _ c.items.skip c.items.at _ _ c.as_slice-item-items.result.now c.items.item-index c.item-item.result c.items-test.true c.item-item.is c.in_ok-skip.ensures.skip place c.items.invariant.1 c.in_ok-skip.ensures.spans,
    )

pub put_body-returns-clause-text : goal.put_body-returns-clause-text
put_body-returns-clause-text t c =
    on_ok c.put_old.result
    (λ d. body_done _ _ _ _ _ _ _ c.args.was.statements.now c.args.was.origins.now _ c.items.skip c.items.at _ _ _ c.as_slice-item-items.result.now c.items.item-index _
    c.as_slice-statements.ensures c.as_slice-origins.ensures c.last-last.ensures c.items-test.false c.in_ok-put_loose.ensures.text c.items.invariant.0 d)
    c.put_old.ensures.text

pub put_body-returns-clause-spans : goal.put_body-returns-clause-spans
put_body-returns-clause-spans t c =
    on_ok c.put_old.result
    (λ d. body_done_spans _ _ _ _ _ _ _ c.args.was.statements.now c.args.was.origins.now _ c.items.skip c.items.at _ _ _ c.as_slice-item-items.result.now c.items.item-index _
    c.as_slice-statements.ensures c.as_slice-origins.ensures c.last-last.ensures c.items-test.false c.in_ok-put_loose.ensures.spans c.items.invariant.1 d)
    c.put_old.ensures.spans
