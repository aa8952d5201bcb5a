use Rattle.std.proofs.Common.{◌≡◌, ℕ, ◌∷◌, ◌+◌, ◌-◌, ◌*◌, ◌<◌, List, [], length, take, drop, ◌++◌, refl, ap, sym, subst, ◌∙◌, arith}
use Rattle.std.specs.Prelude.{IfOk, IfSome, Some}
use Rattle.rdl_tree.specs.View.{items_of}
use Rattle.rdl_tree.specs.declared.shell.Shell.{Shell}
use Rattle.rdl_tree.specs.declared.description.Item.{Item}
use Rattle.rdl_tree.specs.declared.description.Of.{Of}
use Rattle.rdl_tree.specs.declared.description.Item.TheVariants.{Instance}
use Rattle.rdl_scope.specs.Closed.{Standing, parts, standing}
use Rattle.rdl_elab.specs.Kept.{Part}
use Rattle.rdl_elab.specs.declared.walk.Walk.{Walk}
use Rattle.rdl_elab.specs.Finished.{AreParts, IsFinished}
use Rattle.rdl_elab.specs.Stands.{made_at, after_item, item_parts, in_list, placed, Stands}
use Rattle.rdl_elab.proofs.Goings.{append_nil, grows-on, grows-push, item-room, body-room, stands-grow, stands-define, finished-part, named-part, made-last, stands-next, parts-next, behind-on}
use Rattle.rdl_elab.specs.OwnValues.{AreOfInstances, IsInstance}
use Rattle.rdl_elab.proofs.OwnValues.{instances-next, instance-found}
use Rattle.rdl_elab.proofs.walk.+walk.Goals as goal
use Rattle.rdl_elab.proofs.walk.+walk.Goals.{walk_items-in-Some+in_ok-reserve_first+in_ok-around+in_ok-push_part, walk_items-in_default}

abbrev part-at : ℕ → Shell → ℕ → List ℕ → Part
part-at i s k b = record { at = b ++ i ∷ []; shell = s; component = k }

pub finish-walk_items-requires : goal.finish-walk_items-requires
finish-walk_items-requires t c =
    let less : 5 * (17 - length c.args.at.now) + 4 < t = omega (arith, c.decreases) in
    (less, (c.requires.nesting, body-room c.args.at.now c.args.component.now.body c.as_slice.result.now c.as_slice.ensures c.requires.room))

pub finish-returns-clause-made : goal.finish-returns-clause-made
finish-returns-clause-made t c = λ e h.
    let d = c.args.description.now.items in
    let mid = c.walk_items.new.walk.components.items in
    let behind = c.in_ok-parts.ensures.behind in
    let long = c.walk_items.new.walk.defaults in
    let defaults = c.truncate-2.ensures ∙ ap (λ n. drop (length long - n) long) c.len-defaults.ensures ∙ behind.defaults.same ∙ h.defaults in
    let same = c.in_ok-finished.ensures.parts in
    let stays : c.finished_component.new.walk.components.items ≡ mid = ap (λ (w : Walk). w.components.items) c.in_ok-finished.ensures.walk in
    let pushed = c.in_ok-push.ensures.items ∙ ap (λ fs. fs ++ c.in_ok-finished.finished ∷ []) stays in
    let number : c.len-number.result ≡ length mid = omega (arith, c.len-number.ensures, ap length stays) in
    made-last d c.args.at.now c.args.component.now e mid c.push.new.self.items c.len-number.result c.in_ok-finished.finished c.as_slice.result.now c.as_slice.ensures number pushed
    (subst (λ (ps : List Part). AreParts d mid (length mid) ps (parts e c.args.at.now 0 (items_of c.as_slice.result.now))) (sym same) (c.in_ok-parts.ensures.parts e h))
    (λ inside n are. c.in_ok-finished.ensures.kept e inside n defaults (subst (λ (ps : List Part). AreParts d mid n ps inside) same are))

pub finish-returns-clause-components : goal.finish-returns-clause-components
finish-returns-clause-components t c =
    let mid = c.walk_items.new.walk.components.items in
    let stays : c.finished_component.new.walk.components.items ≡ mid = ap (λ (w : Walk). w.components.items) c.in_ok-finished.ensures.walk in
    let pushed = c.in_ok-push.ensures.items ∙ ap (λ fs. fs ++ c.in_ok-finished.finished ∷ []) stays in
    grows-on c.args.walk.now.components.items mid c.push.new.self.items c.in_ok-parts.ensures.behind.components (grows-push mid c.push.new.self.items c.in_ok-finished.finished pushed)

pub finish_inside-returns-clause-made : goal.finish_inside-returns-clause-made
finish_inside-returns-clause-made t c =
    let d = c.args.description.now.items in
    let new = c.finish.new.walk.components.items in
    subst (λ (a : List ℕ). IfOk c.finish.result (λ k. (e : Standing) → Stands d c.args.walk.now e → IsFinished d new k (made_at e a c.args.component.now))) c.inside-below.ensures c.finish.ensures.made

pub walk_items-walk_item-requires : goal.walk_items-walk_item-requires
walk_items-walk_item-requires t c =
    let less : 5 * (17 - length c.args.at.now) + 3 < t = omega (arith, c.decreases) in
    (less, (c.requires.nesting, item-room c.args.at.now c.loop-i.i c.args.items.now c.index-items-i.result c.loop-i-test.true c.index-items-i.is c.requires.room))

pub walk_item-returns-in_ok-push-in-Define-clause-stands :
    goal.walk_item-returns-in_ok-push-in-Define-clause-stands
walk_item-returns-in_ok-push-in-Define-clause-stands t c = λ e h.
    let d = c.args.description.now.items in
    let at = c.args.at.now ++ c.args.number ∷ [] in
    let old = c.args.walk.now in
    let mid = c.finish_inside.new.walk in
    let new : Walk = record { types = c.push.new.self; defaults = mid.defaults; components = mid.components; built_ins = mid.built_ins; further = mid.further } in
    let k = c.in_ok-component-in-Define.component in
    let all = c.in_ok-component-in-Define.ensures in
    let made : IsFinished d mid.components.items k (made_at e at c.in-Define.component) = all.made e h in
    subst (λ (x : Item). Stands d new (after_item at x e)) (sym c.in-Define.is)
    (stands-define d old new e at c.in-Define.name k c.in-Define.component (c.in_ok-push-in-Define.ensures ∙ ap (λ ts. (c.in-Define.name, k) ∷ ts) all.types) all.defaults all.components made h)

pub walk_items-loop-i-preserved : goal.walk_items-loop-i-preserved
walk_items-loop-i-preserved t c =
    let d = c.args.description.now.items in
    let b = c.args.at.now in
    let new = c.walk_item.new.walk in
    let all = c.in_ok-found.ensures in
    let xs = c.args.items.now in
    let i = c.loop-i.i in
    let at = b ++ i ∷ [] in
    let done = c.loop-i.parts.items in
    let after : c.match-branch-2.parts.items ≡ done ++ in_list (placed at c.in_ok-found.field-0) =
    elim c.match-branch-2.branch [
      | walk_items-in-Some+in_ok-reserve_first+in_ok-around+in_ok-push_part w ↦
          ap (λ v. v.items) w.parts-is ∙ w.in_ok-push_part.ensures ∙ ap (λ (ps : List Part). ps ++ w.new.result ∷ []) w.in_ok-reserve_first.ensures
          ∙ ap (λ (p : Part). done ++ p ∷ []) (w.new.ensures ∙ ap (part-at i w.in-Some.found.shell.now w.in-Some.found.component) w.in_ok-around.ensures.address)
          ∙ ap (λ o. done ++ in_list (placed at o)) (sym w.in-Some.is)
      | walk_items-in_default w ↦ ap (λ v. v.items) w.parts-is ∙ sym (append_nil done) ∙ ap (λ o. done ++ in_list (placed at o)) (sym w.in_default.is)
    ] in
    let shared : IfSome c.match-branch-2.shared (λ a. a ≡ b) =
    elim c.match-branch-2.branch [
      | walk_items-in-Some+in_ok-reserve_first+in_ok-around+in_ok-push_part w ↦ subst (λ o. IfSome o (λ a. a ≡ b)) (sym w.shared-is) w.share.ensures.shared
      | walk_items-in_default w ↦ subst (λ o. IfSome o (λ a. a ≡ b)) (sym w.shared-is) c.loop-i.invariant.shared
    ] in
    record {
      parts = λ e h.
          parts-next d b at xs i c.index-items-i.result c.loop-i-test.true c.index-items-i.is refl e c.loop-i.walk.components.items new.components.items done c.match-branch-2.parts.items (placed at c.in_ok-found.field-0) all.behind.components
          after (c.loop-i.invariant.parts e h) (all.part (standing e b 0 (items_of (take i xs))) (c.loop-i.invariant.stands e h));
      stands = λ e h.
          stands-next d b at xs i c.index-items-i.result c.loop-i-test.true c.index-items-i.is refl e new
          (all.stands (standing e b 0 (items_of (take i xs))) (c.loop-i.invariant.stands e h));
      shared = shared;
      behind = behind-on c.args.walk.now c.loop-i.walk new c.loop-i.invariant.behind all.behind;
      instances = instances-next xs b i c.index-items-i.result c.loop-i-test.true c.index-items-i.is done c.match-branch-2.parts.items c.in_ok-found.field-0 after all.instance c.loop-i.invariant.instances;
    }

pub walk_instance-returns-in_ok-component-in-Anonymous-clause-part :
    goal.walk_instance-returns-in_ok-component-in-Anonymous-clause-part
walk_instance-returns-in_ok-component-in-Anonymous-clause-part t c = λ e h.
    let d = c.args.description.now.items in
    let at = c.args.at.now ++ c.args.number ∷ [] in
    let made = c.in-Anonymous.component in
    let new = c.finish_inside.new.walk.components.items in
    let k = c.in_ok-component-in-Anonymous.component in
    let all = c.in_ok-component-in-Anonymous.ensures in
    let p : Part = record { at = at; shell = c.args.shell.now; component = k } in
    let here : IsFinished d new k (made_at e at made) = all.made e h in
    subst (λ (o : Of). AreParts d new (length new) (p ∷ []) (item_parts e at (Instance c.args.shell.now o))) (sym c.in-Anonymous.is)
    (finished-part d new k (made_at e at made) at c.args.shell.now p here refl refl refl)

pub walk_instance-returns-in_ok-component-in-Anonymous-clause-stands :
    goal.walk_instance-returns-in_ok-component-in-Anonymous-clause-stands
walk_instance-returns-in_ok-component-in-Anonymous-clause-stands t c = λ e h.
    let all = c.in_ok-component-in-Anonymous.ensures in
    stands-grow c.args.description.now.items c.args.walk.now c.finish_inside.new.walk e all.types all.defaults all.components h

pub walk_instance-returns-in-Named-clause-instance : goal.walk_instance-returns-in-Named-clause-instance
walk_instance-returns-in-Named-clause-instance t c = instance-found c.named_part.result c.args.shell.now c.args.of.now

pub walk_item-returns-in-Instance-clause-instance : goal.walk_item-returns-in-Instance-clause-instance
walk_item-returns-in-Instance-clause-instance t c =
    subst (λ (x : Item). IfOk c.walk_instance.result (λ f. IfSome f (λ found. IsInstance (Some x)))) (sym c.in-Instance.is) c.walk_instance.ensures.instance

pub finish-finished_component-requires-clause-instances : goal.finish-finished_component-requires-clause-instances
finish-finished_component-requires-clause-instances t c = subst (λ xs. AreOfInstances xs c.in_ok-parts.parts.items) c.as_slice.ensures c.in_ok-parts.ensures.instances

pub walk_instance-returns-in-Named-clause-part : goal.walk_instance-returns-in-Named-clause-part
walk_instance-returns-in-Named-clause-part t c = λ e h.
    let d = c.args.description.now.items in
    let at = c.args.at.now ++ c.args.number ∷ [] in
    let fs = c.args.walk.now.components.items in
    let found = c.named_part.result in
    let here =
    subst (λ (o : Of). AreParts d fs (length fs) (in_list (placed at found)) (item_parts e at (Instance c.args.shell.now o))) (sym c.in-Named.is)
    (named-part d fs at c.args.shell.now c.in-Named.name found c.args.walk.now.types e.types h.types c.named_part.ensures.part) in
    subst (λ (w : Walk). AreParts d w.components.items (length w.components.items) (in_list (placed at found)) (item_parts e at (Instance c.args.shell.now c.args.of.now))) (sym c.named_part.ensures.same) here
