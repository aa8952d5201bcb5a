-- What steps edit in two register files of one map, and what is in reach of that, by computing.
use Rattle.std.proofs.Common.{◌≡◌, ℕ, [], ◌∷◌, Some, refl}
use Rattle.std.specs.Prelude.{codes}
use Rattle.rdl_tree.specs.Items.{Items, no_items, plain, holder, named, define, anonymous}
use Rattle.rdl_tree.specs.Patch.{patched}
use Rattle.rdl_tree.specs.Properties.{property_of}
use Rattle.rdl_tree.specs.Shell.{bare_shell}
use Rattle.rdl_tree.specs.declared.description.Item.TheVariants.{Default}
use Rattle.rdl_tree.specs.declared.part.Part.TheVariants.{OfShell, OfType, OfDefine}
use Rattle.rdl_tree.specs.declared.patch.Patch.TheVariants.{Insert, Delete, Shift, Exchange}
use Rattle.rdl_tree.specs.declared.shell.Kind.TheVariants.{Addrmap, Regfile, Reg, Field}
use Rattle.rdl_tree.specs.declared.shell.Shell.{Shell}
use Rattle.rdl_tree.specs.declared.value.Value.TheVariants.{Number}
use Rattle.rdl_elab.specs.Anew.{all_instances, instances_at}
use Rattle.rdl_marks.specs.Marks.{Marks, no_marks}
use Rattle.rdl_marks.specs.Noted.{noted, all_noted}
use Rattle.rdl_reach.specs.Before.{address_before}
use Rattle.rdl_reach.specs.EditedBodies.{edits}
use Rattle.rdl_reach.specs.Reach.{in_reach}

-- reg { field {} f; } with this shell
abbrev full : Shell → Items → Items
full s rest = holder (anonymous s Reg) (holder (anonymous (bare_shell (codes "f")) Field) no_items no_items) rest

-- regfile A { reg { field {} f; } u; reg { field {} f; } v; };
-- regfile B { reg { field {} f; } x; };
-- addrmap top { A a; B b; };
abbrev map : Items
map =
    holder (define (codes "A") Regfile) (full (bare_shell (codes "u")) (full (bare_shell (codes "v")) no_items))
    (holder (define (codes "B") Regfile) (full (bare_shell (codes "x")) no_items)
    (holder (define (codes "top") Addrmap) (plain (named (bare_shell (codes "a")) (codes "A")) (plain (named (bare_shell (codes "b")) (codes "B")) no_items)) no_items))

all : all_instances map ≡ 8
all = refl

-- how many instances are in reach after a step
abbrev reached : Marks → Items → ℕ
reached m now = instances_at (in_reach (edits m map now) now) now

-- ---- Another name of x.

abbrev x_marks : Marks
x_marks = noted (Exchange (1 ∷ 0 ∷ []) (OfShell (bare_shell (codes "x")))) no_marks

abbrev with_x : Shell → Items
with_x s = patched (Exchange (1 ∷ 0 ∷ []) (OfShell s)) map

renamed : reached x_marks (with_x (bare_shell (codes "y"))) ≡ 0
renamed = refl

-- another address of it: B has one instance, and the top, which has an instance of B, two
resized : reached x_marks (with_x (record (bare_shell (codes "x")) { address = Some 4 })) ≡ 3
resized = refl

-- ---- Another name of B, where it is defined and where it is instantiated.

abbrev other_name : Items
other_name = patched (Exchange (2 ∷ 1 ∷ []) (OfType (codes "C"))) (patched (Exchange (1 ∷ []) (OfDefine (codes "C"))) map)

renamed_type : reached (all_noted (Exchange (2 ∷ 1 ∷ []) (OfType (codes "B")) ∷ Exchange (1 ∷ []) (OfDefine (codes "B")) ∷ []) no_marks) other_name ≡ 0
renamed_type = refl

-- an instance of A in the place of that of B: the top alone
other_type : reached (noted (Exchange (2 ∷ 1 ∷ []) (OfType (codes "B"))) no_marks) (patched (Exchange (2 ∷ 1 ∷ []) (OfType (codes "A"))) map) ≡ 2
other_type = refl

-- ---- A default width of fields before B: all bodies, since it stands in the root.

abbrev with_default : Items
with_default = patched (Insert (1 ∷ []) (Default (codes "fieldwidth") (Number 8))) map

abbrev default_marks : Marks
default_marks = noted (Delete (1 ∷ [])) no_marks

default_comes : reached default_marks with_default ≡ 8
unfolding property_of
default_comes = refl

-- x stands one body further on
x_before : address_before default_marks (2 ∷ 0 ∷ []) ≡ Some (1 ∷ 0 ∷ [])
x_before = refl

-- ---- One that is no property of layouts: none.

described : reached default_marks (patched (Insert (1 ∷ []) (Default (codes "desc") (Number 8))) map) ≡ 0
unfolding property_of
described = refl

-- ---- v moves before u: A, the body of v, and the top, which has an instance of A.

moved : reached (noted (Shift (0 ∷ 0 ∷ []) 1) no_marks) (patched (Shift (0 ∷ 1 ∷ []) 0) map) ≡ 5
moved = refl
