-- The instances of a component are as the searches through whole bodies find them, all the way down.
-- own: SystemRDL 2.0 speaks of definitions and scopes; this ties the form on which rows recurse to them.
use Rattle.std.specs.Prelude.{◌≡◌, ℕ, List, Some}
use Rattle.rdl_tree.specs.ItemAt.{item_at}
use Rattle.rdl_tree.specs.Items.{Items}
use Rattle.rdl_tree.specs.declared.shell.Shell.{Shell}
use Rattle.rdl_tree.specs.declared.description.Item.TheVariants.{Instance}
use Rattle.rdl_tree.specs.declared.description.Of.{Of}
use Rattle.rdl_scope.specs.Types.{component_of}
use Rattle.rdl_scope.specs.Target.{body_of}
use Rattle.rdl_scope.specs.Closed.{Head, Parts, no_parts, part, component}

-- an instance of the body at b: its item, and the component of its type
pub record IsPartFound (d : Items) (b at : List ℕ) (s : Shell) (h : Head) (inside : Parts) : Type 0 where
  pub around : body_of at ≡ b
  pub of : Of
  pub instance : item_at at d ≡ Some (Instance s of)
  pub is : component_of d at ≡ Some h.at
  pub component : component d h.at ≡ Some (record { head = h; parts = inside })

-- the instances of the body at b, those of their components, and so on
abbrev pub ArePartsFound : Items → List ℕ → Parts → Type 0
ArePartsFound d b no_parts = Unit {0}
ArePartsFound d b (part at s h inside rest) = IsPartFound d b at s h inside × ArePartsFound d h.at inside × ArePartsFound d b rest
