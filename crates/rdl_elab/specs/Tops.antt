-- Which item of the root may be the top, as code sees an item.
-- own: `top_from` (Faults) says the same of all items of the root.
use Rattle.std.specs.Prelude.{ℕ, List, Option, Some, None, if◌then◌else◌}
use Rattle.rdl_tree.specs.declared.shell.Kind.{Kind}
use Rattle.rdl_tree.specs.declared.shell.Kind.TheVariants.{Addrmap}
use Rattle.rdl_tree.specs.declared.description.Item.{Item}
use Rattle.rdl_tree.specs.declared.description.Item.TheVariants.{Define, Instance, Own, Default, Dynamic}
use Rattle.rdl_elab.specs.Faults.{has_name}

abbrev pub top_of_kind : Option (List ℕ) → ℕ → List ℕ → Kind → Option (ℕ × List ℕ)
top_of_kind wanted number name Addrmap = if has_name wanted name then Some (number, name) else None
top_of_kind wanted number name kind = None

abbrev pub top_at : Option (List ℕ) → ℕ → Item → Option (ℕ × List ℕ)
top_at wanted number (Define name component) = top_of_kind wanted number name component.kind
top_at wanted number (Instance s o) = None
top_at wanted number (Own p v) = None
top_at wanted number (Default p v) = None
top_at wanted number (Dynamic t p v) = None
