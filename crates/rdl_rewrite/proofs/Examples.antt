-- Small maps, edited by computing.
use Rattle.std.proofs.Common.{◌≡◌, ℕ, List, [], ◌∷◌, Some, None, refl}
use Rattle.std.specs.Prelude.{codes, Ok, Err}
use Rattle.rdl_tree.specs.Items.{Items, no_items, plain, holder, named, own, default, dynamic, define, anonymous}
use Rattle.rdl_tree.specs.Shell.{bare_shell}
use Rattle.rdl_tree.specs.declared.path.Segment.{Segment}
use Rattle.rdl_tree.specs.declared.path.Segment.TheVariants.{Def, Inst}
use Rattle.rdl_tree.specs.declared.shell.Shell.{Shell}
use Rattle.rdl_tree.specs.declared.shell.Kind.{Kind}
use Rattle.rdl_tree.specs.declared.shell.Kind.TheVariants.{Addrmap, Reg, Field}
use Rattle.rdl_tree.specs.declared.value.Value.TheVariants.{Number, Word as Worded}
use Rattle.rdl_tree.specs.declared.value.Word.TheVariants.{R}
use Rattle.rdl_rewrite.specs.declared.place.Place.TheVariants.{First, Last, Before, After}
use Rattle.rdl_rewrite.specs.declared.edit.Edit.TheVariants as edit
use Rattle.rdl_rewrite.specs.declared.edit.PatchRefusal.TheVariants.{NoSuchPath, ThroughNamedType, NoSuchSibling, NameTaken, NotSet, NotAnInstance, NotAddable}
use Rattle.rdl_rewrite.specs.Rewritten.{rewritten}

abbrev pub shaped : Shell → Kind → Items → Items → Items
shaped shell kind body rest = holder (anonymous shell kind) body rest

abbrev pub held : List ℕ → Kind → Items → Items → Items
held name kind body rest = shaped (bare_shell name) kind body rest

abbrev pub of_type : List ℕ → List ℕ → Items → Items
of_type type name rest = plain (named (bare_shell name) type) rest

abbrev pub top : Items → Items
top body = holder (define (codes "top") Addrmap) body no_items

abbrev pub to_top : List Segment → List Segment
to_top rest = Def (codes "top") ∷ rest

abbrev to_a : List Segment
to_a = to_top (Inst (codes "a") ∷ [])

-- field {} NAME;
abbrev pub field : List ℕ → Items
field name = held name Field no_items no_items

-- reg { field {} f; } NAME;
abbrev pub reg : List ℕ → Items → Items
reg name rest = held name Reg (field (codes "f")) rest

-- ---- Next to a sibling, and before all others.

-- field {} f[8] = 5;   field {} f[7:4];
abbrev wide : Items
wide = shaped (record (bare_shell (codes "f")) { dims = 8 ∷ []; reset = Some 5 }) Field no_items no_items

abbrev ranged : Items
ranged = shaped (record (bare_shell (codes "f")) { range = Some (7, 4) }) Field no_items no_items

abbrev three : Items → Items
three behind_a = top (held (codes "a") Reg wide behind_a)

abbrev b_and_c : Items
b_and_c = reg (codes "b") (held (codes "c") Reg ranged no_items)

added_after : rewritten (three b_and_c) (edit.Add (to_top []) (After (Inst (codes "a"))) (held (codes "x") Reg (field (codes "g")) no_items)) ≡ Ok (three (held (codes "x") Reg (field (codes "g")) b_and_c))
added_after = refl

added_before : rewritten (three b_and_c) (edit.Add (to_top []) (Before (Inst (codes "b"))) (held (codes "x") Reg (field (codes "g")) no_items)) ≡ Ok (three (held (codes "x") Reg (field (codes "g")) b_and_c))
added_before = refl

-- an instance stands before the default that it stood behind
abbrev width : Items → Items
width rest = plain (default (codes "regwidth") (Number 64)) rest

moved_first : rewritten (top (width (reg (codes "a") (reg (codes "b") no_items)))) (edit.Move to_a First) ≡ Ok (top (reg (codes "a") (width (reg (codes "b") no_items))))
moved_first = refl

moved_last : rewritten (top (reg (codes "a") (reg (codes "b") no_items))) (edit.Move to_a Last) ≡ Ok (top (reg (codes "b") (reg (codes "a") no_items)))
moved_last = refl

moved_after : rewritten (top (reg (codes "a") (reg (codes "b") no_items))) (edit.Move to_a (After (Inst (codes "b")))) ≡ Ok (top (reg (codes "b") (reg (codes "a") no_items)))
moved_after = refl

next_to_itself : rewritten (top (reg (codes "a") no_items)) (edit.Move to_a (Before (Inst (codes "a")))) ≡ Err NoSuchSibling
next_to_itself = refl

-- ---- The shell.

abbrev sized : List ℕ → Items
sized dims = top (shaped (record (bare_shell (codes "a")) { dims = dims }) Reg (field (codes "f")) no_items)

-- no dim is too small or too large here
resized : rewritten (sized []) (edit.Resize to_a (0 ∷ [])) ≡ Ok (sized (0 ∷ []))
resized = refl

resized_twice : rewritten (sized (3 ∷ [])) (edit.Resize to_a (1024 ∷ 1024 ∷ [])) ≡ Ok (sized (1024 ∷ 1024 ∷ []))
resized_twice = refl

without_sizes : rewritten (sized (3 ∷ [])) (edit.Resize to_a []) ≡ Ok (sized [])
without_sizes = refl

abbrev to_field : List Segment
to_field = to_top (Inst (codes "a") ∷ Inst (codes "f") ∷ [])

-- a size takes the range away, and a range the sizes
range_lost : rewritten (top (held (codes "a") Reg ranged no_items)) (edit.Resize to_field (8 ∷ [])) ≡ Ok (top (held (codes "a") Reg (shaped (record (bare_shell (codes "f")) { dims = 8 ∷ [] }) Field no_items no_items) no_items))
range_lost = refl

sizes_lost : rewritten (top (held (codes "a") Reg wide no_items)) (edit.SetBits to_field (Some (7, 4))) ≡ Ok (top (held (codes "a") Reg (shaped (record (bare_shell (codes "f")) { range = Some (7, 4); reset = Some 5 }) Field no_items no_items) no_items))
sizes_lost = refl

-- what has no address loses none
same_address : rewritten (three b_and_c) (edit.SetAddress to_a None) ≡ Ok (three b_and_c)
same_address = refl

abbrev shell_a : Shell → Items
shell_a shell = top (shaped shell Reg (field (codes "f")) no_items)

abbrev bare_a : Shell
bare_a = bare_shell (codes "a")

new_address : rewritten (shell_a bare_a) (edit.SetAddress to_a (Some 16)) ≡ Ok (shell_a (record bare_a { address = Some 16 }))
new_address = refl

new_stride : rewritten (shell_a bare_a) (edit.SetStride to_a (Some 8)) ≡ Ok (shell_a (record bare_a { stride = Some 8 }))
new_stride = refl

new_align : rewritten (shell_a bare_a) (edit.SetAlign to_a (Some 8)) ≡ Ok (shell_a (record bare_a { align = Some 8 }))
new_align = refl

no_reset : rewritten (top (held (codes "a") Reg wide no_items)) (edit.SetReset to_field None) ≡ Ok (top (held (codes "a") Reg (shaped (record (bare_shell (codes "f")) { dims = 8 ∷ [] }) Field no_items no_items) no_items))
no_reset = refl

-- ---- Assignments.

abbrev assigned : ℕ → Items → Items
assigned n rest = plain (own (codes "regwidth") (Number n)) rest

set_first : rewritten (top (reg (codes "a") no_items)) (edit.SetDefault (to_top []) (codes "regwidth") (Number 64)) ≡ Ok (top (width (reg (codes "a") no_items)))
set_first = refl

set_behind : rewritten (top (held (codes "a") Reg (plain (own (codes "name") (Number 0)) (field (codes "f"))) no_items)) (edit.SetOwn to_a (codes "regwidth") (Number 64)) ≡ Ok (top (held (codes "a") Reg (plain (own (codes "name") (Number 0)) (assigned 64 (field (codes "f")))) no_items))
set_behind = refl

set_again : rewritten (top (held (codes "a") Reg (assigned 32 (field (codes "f"))) no_items)) (edit.SetOwn to_a (codes "regwidth") (Number 64)) ≡ Ok (top (held (codes "a") Reg (assigned 64 (field (codes "f"))) no_items))
set_again = refl

cleared : rewritten (top (held (codes "a") Reg (assigned 32 (field (codes "f"))) no_items)) (edit.ClearOwn to_a (codes "regwidth")) ≡ Ok (top (reg (codes "a") no_items))
cleared = refl

default_cleared : rewritten (top (width (reg (codes "a") no_items))) (edit.ClearDefault (to_top []) (codes "regwidth")) ≡ Ok (top (reg (codes "a") no_items))
default_cleared = refl

-- a default is no assignment of the body's own
default_stays : rewritten (top (width (reg (codes "a") no_items))) (edit.ClearOwn (to_top []) (codes "regwidth")) ≡ Err NotSet
default_stays = refl

-- ---- Refusals, over  reg T { field {} e; field {} f; }; addrmap top { T u; .. };

abbrev row : Items
row = holder (define (codes "T") Reg) (held (codes "e") Field no_items (field (codes "f"))) (top (of_type (codes "T") (codes "u") (of_type (codes "T") (codes "v") (plain (dynamic (codes "u" ∷ codes "f" ∷ []) (codes "reset") (Number 1)) no_items))))

abbrev to_t : List Segment
to_t = Def (codes "T") ∷ []

no_name : rewritten row (edit.Move (to_top (Inst (codes "zz") ∷ [])) First) ≡ Err NoSuchPath
no_name = refl

through_type : rewritten row (edit.Move (to_top (Inst (codes "u") ∷ Inst (codes "f") ∷ [])) First) ≡ Err ThroughNamedType
through_type = refl

-- the body of an instance of a named type is that type's
into_type : rewritten row (edit.Add (to_top (Inst (codes "u") ∷ [])) Last (field (codes "g"))) ≡ Err ThroughNamedType
into_type = refl

no_sibling : rewritten row (edit.Move (to_top (Inst (codes "u") ∷ [])) (Before (Inst (codes "zz")))) ≡ Err NoSuchSibling
no_sibling = refl

name_taken : rewritten row (edit.Add to_t Last (field (codes "f"))) ≡ Err NameTaken
name_taken = refl

-- a definition's name is taken in every body
type_taken : rewritten row (edit.Add (to_top []) Last (holder (define (codes "T") Reg) no_items no_items)) ≡ Err NameTaken
type_taken = refl

not_set : rewritten row (edit.ClearOwn to_t (codes "shared")) ≡ Err NotSet
not_set = refl

not_an_instance : rewritten row (edit.SetReset to_t (Some 1)) ≡ Err NotAnInstance
not_an_instance = refl

root_moved : rewritten row (edit.Move [] First) ≡ Err NotAnInstance
root_moved = refl

not_addable : rewritten row (edit.Add to_t Last (plain (own (codes "sw") (Worded R)) no_items)) ≡ Err NotAddable
not_addable = refl

-- what may not be added is judged before the place, and the place before the names
addable_first : rewritten row (edit.Add to_t (Before (Inst (codes "zz"))) (plain (own (codes "sw") (Worded R)) no_items)) ≡ Err NotAddable
addable_first = refl

sibling_first : rewritten row (edit.Add to_t (Before (Inst (codes "zz"))) (field (codes "f"))) ≡ Err NoSuchSibling
sibling_first = refl
