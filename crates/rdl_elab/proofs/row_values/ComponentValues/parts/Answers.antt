use Rattle.std.proofs.Common.{◌≡◌, Some, ap, sym, ◌∙◌, rules}
use Rattle.rdl_elab.specs.declared.row_values.HeldValues.{HeldValues}
use Rattle.rdl_elab.proofs.StatedLists.{of-parts}
use Rattle.rdl_elab.proofs.row_values.ComponentValues.parts.Goals as goal

pub returns-in-Some : goal.returns-in-Some
returns-in-Some c =
    let held : c.deref-held.result.now ≡ c.self.inside.held.value = search rules in
    let is : c.self.inside.held.value.stated ≡ Some c.in-Some.stated = ap (λ (h : HeldValues). h.stated) (sym held) ∙ c.in-Some.is in
    let first : c.as_slice.result.now ≡ c.in-Some.stated.items = cc in
    let second : c.as_slice-in-Some.result.now ≡ c.self.inside.held.value.built_ins.value.items = cc in
    of-parts _ _ _ _ _ _ _ c.self.view_is is first second
