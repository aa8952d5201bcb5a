-- The defaults before an item as a stack, with the values that components without assignments share under each of them.
-- own: how the defaults are kept. Which of them a component takes `lookup` says.
use Rattle.std.specs.Prelude.{◌≡◌, ℕ, List, [], ◌∷◌, map, IfSome}
use Rattle.rdl_tree.specs.Items.{no_items}
use Rattle.rdl_tree.specs.declared.shell.Kind.TheVariants.{Addrmap, Regfile, Reg, Field}
use Rattle.rdl_tree.specs.declared.value.Value.{Value}
use Rattle.rdl_elab.specs.declared.walk.defaults.Default.{Default}
use Rattle.rdl_elab.specs.declared.walk.defaults.SharedValues.{SharedValues}
use Rattle.rdl_elab.specs.Layouts.{values_of}
use Rattle.rdl_elab.specs.Shown.{bare, shown_values}

-- the names with the values
abbrev pub pairs : List Default → List (List ℕ × Value)
pairs ds = map (λ (d : Default). (d.name, d.value.now)) ds

-- those that are kept are the values of components without assignments which these defaults reach
pub record AreShared (defaults : List (List ℕ × Value)) (shared : SharedValues) : Type 0 where
  pub layouts : IfSome shared.layout (λ v. v ≡ values_of (bare Field no_items defaults))
  pub addrmaps : IfSome shared.addrmap (λ vs. vs ≡ shown_values (bare Addrmap no_items defaults))
  pub regfiles : IfSome shared.regfile (λ vs. vs ≡ shown_values (bare Regfile no_items defaults))
  pub regs : IfSome shared.reg (λ vs. vs ≡ shown_values (bare Reg no_items defaults))
  pub fields : IfSome shared.field (λ vs. vs ≡ shown_values (bare Field no_items defaults))

-- beside each default, the nearest first, stand values that are shared under it and those around it
abbrev pub AreStacked : List Default → Type 0
AreStacked [] = Unit {0}
AreStacked (d ∷ ds) = AreShared ((d.name, d.value.now) ∷ pairs ds) d.shared × AreStacked ds
