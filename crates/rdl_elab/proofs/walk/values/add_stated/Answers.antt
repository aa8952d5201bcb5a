use Rattle.std.proofs.Common.{◌≡◌, ◌∷◌, ◌++◌, List, [], true, false, Some, ap, sym, ◌∙◌, rules}
use Rattle.std.specs.Prelude.{is_some}
use Rattle.rdl_tree.specs.Properties.{row, on}
use Rattle.rdl_scope.specs.Value.{shown}
use Rattle.rdl_elab.specs.declared.row.PropertyValue.{PropertyValue}
use Rattle.rdl_elab.specs.Shown.{valued}
use Rattle.rdl_elab.specs.Reaches.{value_under}
use Rattle.rdl_elab.specs.StatedValues.{shown_on}
use Rattle.rdl_elab.proofs.StatedLists.{not-on, there-before, one-added}
use Rattle.rdl_elab.proofs.walk.values.add_stated.Goals as goal

pub returns-then-not-on : goal.returns-then-not-on
returns-then-not-on c =
    let off : on c.args.property c.args.kind ≡ false = first_of (cc, search rules) in
    λ p. not-on c.args.kind c.args.property p c.args.value.now c.args.items.now.items off

pub returns-then-has_value : goal.returns-then-has_value
returns-then-has_value c =
    let there : is_some (value_under c.args.property c.args.items.now.items) ≡ true = ap (λ (xs : List PropertyValue). is_some (value_under c.args.property xs)) (sym c.as_slice.ensures.value) ∙ sym c.has_value.ensures ∙ c.if-has_value.true in
    λ p. there-before c.args.property p (shown_on c.args.kind c.args.property (Some c.args.value.now)) c.args.items.now.items there

pub returns : goal.returns
returns c =
    let q = c.args.property in
    let v = c.args.value.now in
    let is_on : on q c.args.kind ≡ true = first_of (cc, search rules) in
    let pushed : c.push.new.self.items ≡ c.args.items.now.items ++ valued q (shown (row q).form v) ∷ [] = first_of (cc, search rules) in
    λ p. ap (value_under p) pushed ∙ one-added c.args.kind q p v c.args.items.now.items is_on
