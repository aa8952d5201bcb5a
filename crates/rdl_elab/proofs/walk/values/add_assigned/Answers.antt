use Rattle.std.proofs.Common.{◌≡◌, Some, Result, Ok, Err, ℕ, List, ap, sym, ◌∙◌}
use Rattle.std.specs.Prelude.{OnOk}
use Rattle.std.specs.Option.{option_or}
use Rattle.rdl_tree.specs.Properties.{row}
use Rattle.rdl_tree.specs.declared.property.Property.{Property}
use Rattle.rdl_elab.specs.Reaches.{value_under}
use Rattle.rdl_elab.specs.StatedValues.{shown_on, if_named}
use Rattle.rdl_elab.proofs.StatedLists.{of-property, of-none}
use Rattle.rdl_elab.proofs.walk.values.add_assigned.Goals as goal

weaker : {X E P Q : Type 0} (r : Result X E) → (P → Q) → OnOk r P → OnOk r Q
weaker (Ok x) f h = f h
weaker (Err e) f h = h

pub returns-in-Some : goal.returns-in-Some
returns-in-Some c =
    let q = c.in-Some.property in
    let k = c.args.kind in
    let v = c.args.value.now in
    weaker c.add_stated.result
    (λ (h : (p : Property) → value_under p c.add_stated.new.items.items ≡ option_or (value_under p c.args.items.now.items) (if_named (row q).name (shown_on k q (Some v)) p)).
    λ (name : List ℕ) p named. h p ∙ ap (option_or (value_under p c.args.items.now.items)) (of-property k name q p v (sym named ∙ c.in-Some.is)))
    c.add_stated.ensures

pub returns-in-None : goal.returns-in-None
returns-in-None c = λ name p named. of-none c.args.kind name p c.args.value.now (value_under p c.args.items.now.items) (sym named ∙ c.in-None.is)
