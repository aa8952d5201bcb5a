use Rattle.std.proofs.Common.{◌≡◌, true, false, ◌++◌, ◌∷◌, [], ◌&&◌, option_copied, ap, sym, ◌∙◌}
use Rattle.std.proofs.lemmas.Bool.{not-true}
use Rattle.rdl_tree.specs.ItemAt.{item_at}
use Rattle.rdl_tree.specs.View.{own_body}
use Rattle.rdl_tree.specs.Address.{holder_of}
use Rattle.rdl_tree.specs.declared.description.Item.TheVariants.{Instance}
use Rattle.rdl_tree.specs.declared.description.Of.TheVariants.{Anonymous}
use Rattle.rdl_rewrite.specs.Led.{refers_to}
use Rattle.rdl_rewrite.specs.Passed.{may_pass}
use Rattle.rdl_rewrite.specs.Touched.{may_touch, is_any_inside}
use Rattle.rdl_rewrite.proofs.Before.{nothing_passed}
use Rattle.rdl_rewrite.proofs.Led.{led_type}
use Rattle.rdl_rewrite.proofs.Staying.{nothing_named}
use Rattle.rdl_rewrite.proofs.Untouched.{nothing_inside}
use Rattle.rdl_rewrite.proofs.sweep.Sweep.stays.Goals as goal

pub returns-then-is_apart : goal.returns-then-is_apart
returns-then-is_apart c = λ h.
    let d = c.args.self.now.whole.now.items in
    let way = c.args.self.now.way.now in
    let b = c.args.at.now in
    let n = c.args.number in
    let x = c.args.found.now in
    let leads = c.leads_to.ensures ∙ ap (λ o. c.args.led && refers_to o x) c.requires.known.taken ∙ led_type d way (b ++ n ∷ []) x c.args.led c.requires.here c.requires.led in
    nothing_named d way (option_copied c.args.self.now.name) b n x c.in-Instance.field-0 c.in-Instance.of c.in-Named.field-0 c.in-Instance.is c.in-Named.is c.requires.here
    (c.is_apart-in-Named.ensures c.if-is_apart.true b) (sym leads ∙ not-true c.leads_to.result h)

pub returns-in-Define : goal.returns-in-Define
returns-in-Define c = λ h.
    let d = c.args.self.now.whole.now.items in
    let way = c.args.self.now.way.now in
    let x = c.args.found.now in
    let none : is_any_inside (may_touch (item_at way d) (item_at (holder_of way) d)) c.in-Define.component.body ≡ false =
    ap (λ o. is_any_inside (may_touch o (item_at (holder_of way) d)) c.in-Define.component.body) (sym c.requires.known.taken)
    ∙ ap (λ o. is_any_inside (may_touch (option_copied c.args.self.now.taken) o) c.in-Define.component.body) (sym c.requires.known.holder) ∙ c.spares-in-Define.ensures.untouched h in
    nothing_inside d way (option_copied c.args.self.now.name) c.args.at.now c.args.number x c.in-Define.component.body c.requires.here (ap own_body c.in-Define.is) (c.spares-in-Define.ensures.apart h) none

pub returns-in-Anonymous : goal.returns-in-Anonymous
returns-in-Anonymous c = λ h.
    let d = c.args.self.now.whole.now.items in
    let way = c.args.self.now.way.now in
    let x = c.args.found.now in
    let is : x ≡ Instance c.in-Instance.field-0 (Anonymous c.in-Anonymous.component) = c.in-Instance.is ∙ ap (Instance c.in-Instance.field-0) c.in-Anonymous.is in
    let none : is_any_inside (may_touch (item_at way d) (item_at (holder_of way) d)) c.in-Anonymous.component.body ≡ false =
    ap (λ o. is_any_inside (may_touch o (item_at (holder_of way) d)) c.in-Anonymous.component.body) (sym c.requires.known.taken)
    ∙ ap (λ o. is_any_inside (may_touch (option_copied c.args.self.now.taken) o) c.in-Anonymous.component.body) (sym c.requires.known.holder) ∙ c.spares.ensures.untouched h in
    nothing_inside d way (option_copied c.args.self.now.name) c.args.at.now c.args.number x c.in-Anonymous.component.body c.requires.here (ap own_body is) (c.spares.ensures.apart h) none

pub returns-then-is_apart-2 : goal.returns-then-is_apart-2
returns-then-is_apart-2 c = λ h.
    let d = c.args.self.now.whole.now.items in
    let way = c.args.self.now.way.now in
    let b = c.args.at.now in
    let n = c.args.number in
    let x = c.args.found.now in
    let none : may_pass (item_at way d) (item_at (holder_of way) d) true c.in-Dynamic.target ≡ false =
    ap (λ o. may_pass o (item_at (holder_of way) d) true c.in-Dynamic.target) (sym c.requires.known.taken) ∙ ap (λ o. may_pass (option_copied c.args.self.now.taken) o true c.in-Dynamic.target) (sym c.requires.known.holder)
    ∙ ap (may_pass (option_copied c.args.self.now.taken) (option_copied c.args.self.now.holder) true) (sym c.names.ensures) ∙ sym c.may_pass_anywhere.ensures ∙ not-true c.may_pass_anywhere.result h in
    nothing_passed d way (option_copied c.args.self.now.name) b n x c.in-Dynamic.target c.in-Dynamic.field-1 c.in-Dynamic.field-2 c.in-Dynamic.is c.requires.here (c.is_apart-in-Dynamic.ensures c.if-is_apart-2.true b) none
