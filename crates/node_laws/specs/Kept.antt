-- Which components are kept by themselves, and as what.
-- own: SystemRDL 2.0 has no edits.
use Rattle.std.specs.Prelude.{◌≡◌, ℕ, Bool, true, false, List, Option, Some, None}
use Rattle.rdl_tree.specs.Items.{Items}
use Rattle.rdl_tree.specs.declared.shell.Kind.{Kind}
use Rattle.rdl_tree.specs.declared.shell.Kind.TheVariants.{Field}
use Rattle.rdl_tree.specs.declared.description.Item.{Item}
use Rattle.rdl_tree.specs.declared.description.Item.TheVariants.{Instance}
use Rattle.rdl_tree.specs.declared.description.Of.{Of}
use Rattle.rdl_tree.specs.declared.description.Of.TheVariants.{Anonymous}
use Rattle.rdl_scope.specs.Closed.{Made}
use Rattle.rdl_seen.specs.Layouts.{Laying}
use Rattle.rdl_seen.specs.Meaning.{nothing_around, around_at, node_at}
use Rattle.rdl_seen.specs.Node.{Around, body_of, node}

abbrev pub is_field : Kind → Bool
is_field Field = true
is_field kind = false

-- a field that is written where it is instantiated; it isn't kept by itself
abbrev pub is_field_of : Of → Bool
is_field_of (Anonymous c) = is_field c.kind
is_field_of of = false

abbrev pub is_field_here : Item → Bool
is_field_here (Instance s of) = is_field_of of
is_field_here x = false

abbrev pub is_field_there : Option Item → Bool
is_field_there None = false
is_field_there (Some x) = is_field_here x

-- the node of the component at this address, by what the address sees, is kept there
pub record IsKept (lay : Laying) (d : Items) (c : List ℕ) (m : Made) : Type 0 where
  pub around : Around
  pub sees : around_at lay nothing_around c d ≡ Some around
  pub there : node_at c (body_of lay nothing_around d).slots ≡ Some (node lay around m.head.kind m.head.body)
