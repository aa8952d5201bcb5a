-- What contracts see of the types that keep components.
-- own: SystemRDL 2.0 speaks of definitions and instances.
use Rattle.std.specs.Prelude.{ℕ, List, Option}
use Rattle.rdl_tree.specs.declared.shell.Kind.{Kind}
use Rattle.rdl_tree.specs.declared.shell.Shell.{Shell}
use Rattle.rdl_elab.specs.declared.layout.LayoutValues.{LayoutValues}
use Rattle.rdl_elab.specs.declared.layout.Layout.{Layout}

-- an instance: its address, its shell, and the number of its component among the finished ones
pub record Part : Type 0 where
  pub at : List ℕ
  pub shell : Shell
  pub component : ℕ

-- the instances of a component
pub record PartList : Type 0 where
  pub items : List Part

-- the layouts of a component, one for each mode under which it may stand
pub record Layouts : Type 0 where
  pub compact : Layout
  pub regalign : Layout
  pub fullalign : Layout

-- what an instance says of its place: how many elements it has, the first of its dims, and what stands behind `@`, `+=`, `%=` and in its brackets
pub record Said : Type 0 where
  pub elements : ℕ
  pub size : Option ℕ
  pub address : Option ℕ
  pub stride : Option ℕ
  pub align : Option ℕ
  pub range : Option (ℕ × ℕ)

-- how large a component is
pub record Extent : Type 0 where
  pub size : ℕ
  pub access : ℕ

-- how large a component is under each mode
pub record Extents : Type 0 where
  pub compact : Extent
  pub regalign : Extent
  pub fullalign : Extent

-- what the layouts of a component take of one of its instances: what it says of its place, and how large its component is under each mode
pub record EachMember : Type 0 where
  pub said : Said
  pub extents : Extents

-- what the layouts of a component are made of: its kind, its layout values, and what is taken of each instance
pub record MadeOf : Type 0 where
  pub kind : Kind
  pub values : LayoutValues
  pub members : List EachMember
