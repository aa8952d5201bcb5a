-- The patches of edits of small maps, and what they weigh, by computing.
use Rattle.std.proofs.Common.{◌≡◌, List, [], ◌∷◌, Some, refl}
use Rattle.std.specs.Prelude.{codes}
use Rattle.rdl_tree.specs.Items.{Items, no_items}
use Rattle.rdl_tree.specs.Patch.{inverses}
use Rattle.rdl_tree.specs.PatchWeight.{patches_weight, taken}
use Rattle.rdl_tree.specs.Shell.{bare_shell}
use Rattle.rdl_tree.specs.declared.description.Item.TheVariants.{Default, Dynamic, Instance}
use Rattle.rdl_tree.specs.declared.description.Of.TheVariants.{Anonymous}
use Rattle.rdl_tree.specs.declared.part.Part.TheVariants.{OfShell, OfValue, OfTarget, OfType, OfDefine}
use Rattle.rdl_tree.specs.declared.patch.Patch.{Patch}
use Rattle.rdl_tree.specs.declared.patch.Patch.TheVariants.{Insert, Delete, Shift, Exchange}
use Rattle.rdl_tree.specs.declared.path.Segment.TheVariants.{Inst}
use Rattle.rdl_tree.specs.declared.shell.Kind.TheVariants.{Field}
use Rattle.rdl_tree.specs.declared.value.Value.TheVariants.{Number}
use Rattle.rdl_rewrite.specs.declared.place.Place.TheVariants.{Last, After}
use Rattle.rdl_rewrite.specs.declared.edit.Edit.TheVariants as edit
use Rattle.rdl_rewrite.specs.Patches.{patches}
use Rattle.rdl_rewrite.proofs.Examples.{held, reg, top, to_top}
use Rattle.rdl_rewrite.proofs.Reaching.{used, to_t, new_name, nested, of_g, target_g}

-- ---- Of one item.

abbrev three_regs : Items
three_regs = top (reg (codes "r0") (reg (codes "r1") (reg (codes "r2") no_items)))

abbrev without_r0 : List Patch
without_r0 = patches three_regs (edit.Remove (to_top (Inst (codes "r0") ∷ [])))

dropped_reg : without_r0 ≡ Delete (0 ∷ 0 ∷ []) ∷ []
dropped_reg = refl

dropped_reg_weight : taken without_r0 three_regs ≡ 5
dropped_reg_weight = refl

added_two : patches three_regs (edit.Add (to_top []) (After (Inst (codes "r0"))) (held (codes "x") Field no_items (held (codes "y") Field no_items no_items)))
    ≡ Insert (0 ∷ 1 ∷ []) (Instance (bare_shell (codes "x")) (Anonymous (record { kind = Field; body = no_items })))
    ∷ Insert (0 ∷ 2 ∷ []) (Instance (bare_shell (codes "y")) (Anonymous (record { kind = Field; body = no_items }))) ∷ []
added_two = refl

moved_last : patches three_regs (edit.Move (to_top (Inst (codes "r0") ∷ [])) Last) ≡ Shift (0 ∷ 0 ∷ []) 2 ∷ []
moved_last = refl

new_address : patches three_regs (edit.SetAddress (to_top (Inst (codes "r1") ∷ [])) (Some 16))
    ≡ Exchange (0 ∷ 1 ∷ []) (OfShell (record (bare_shell (codes "r1")) { address = Some 16 })) ∷ []
new_address = refl

-- a value is set, though it doesn't differ
abbrev set_last : List Patch
set_last = patches (nested (of_g 3 (reg (codes "h") no_items))) (edit.Assign (to_top []) target_g (codes "reset") (Number 3))

set_again : set_last ≡ Exchange (0 ∷ 1 ∷ []) (OfValue (Number 3)) ∷ []
set_again = refl

set_behind : patches three_regs (edit.Assign (to_top []) target_g (codes "reset") (Number 3)) ≡ Insert (0 ∷ 3 ∷ []) (Dynamic target_g (codes "reset") (Number 3)) ∷ []
set_behind = refl

default_first : patches three_regs (edit.SetDefault (to_top []) (codes "regwidth") (Number 64)) ≡ Insert (0 ∷ 0 ∷ []) (Default (codes "regwidth") (Number 64)) ∷ []
default_first = refl

unassigned : patches (nested (of_g 3 no_items)) (edit.Unassign (to_top []) target_g (codes "reset")) ≡ Delete (0 ∷ 1 ∷ []) ∷ []
unassigned = refl

-- ---- Of every body: reg T { field {} e; field {} f; }; addrmap top { T u; T v; u.f->reset = 1; T w; v.f->reset = 0; v.e->sw = r; };

abbrev without_field : List Patch
without_field = patches (used (codes "T")) (edit.Remove (to_t (Inst (codes "f") ∷ [])))

dropped_field : without_field ≡ Delete (1 ∷ 4 ∷ []) ∷ Delete (1 ∷ 2 ∷ []) ∷ Delete (0 ∷ 1 ∷ []) ∷ []
dropped_field = refl

dropped_field_weight : taken without_field (used (codes "T")) ≡ 18
dropped_field_weight = refl

-- 5 + 11 + 11
dropped_field_back : patches_weight (inverses without_field (used (codes "T"))) ≡ 27
dropped_field_back = refl

-- only the targets that pass the field
renamed_field : patches (used (codes "T")) (edit.Rename (to_t (Inst (codes "f") ∷ [])) (codes "g"))
    ≡ Exchange (1 ∷ 4 ∷ []) (OfTarget (codes "v" ∷ codes "g" ∷ []))
    ∷ Exchange (1 ∷ 2 ∷ []) (OfTarget (codes "u" ∷ codes "g" ∷ []))
    ∷ Exchange (0 ∷ 1 ∷ []) (OfShell (bare_shell (codes "g"))) ∷ []
renamed_field = refl

renamed_type : patches (used (codes "T")) (edit.Rename (to_t []) new_name)
    ≡ Exchange (1 ∷ 3 ∷ []) (OfType new_name)
    ∷ Exchange (1 ∷ 1 ∷ []) (OfType new_name)
    ∷ Exchange (1 ∷ 0 ∷ []) (OfType new_name)
    ∷ Exchange (0 ∷ []) (OfDefine new_name) ∷ []
renamed_type = refl

-- reg { field {} f; } r;  goes with what stands inside it, by one patch
dropped_nested : patches (nested no_items) (edit.Remove (to_top (Inst (codes "g") ∷ []))) ≡ Delete (0 ∷ 0 ∷ []) ∷ []
dropped_nested = refl
