-- Small maps, in which an edit of one item reaches other bodies, edited by computing.
use Rattle.std.proofs.Common.{◌≡◌, ℕ, List, [], ◌∷◌, refl}
use Rattle.std.specs.Prelude.{codes, Ok, Err}
use Rattle.rdl_tree.specs.Items.{Items, no_items, plain, holder, dynamic, define}
use Rattle.rdl_tree.specs.declared.path.Segment.{Segment}
use Rattle.rdl_tree.specs.declared.path.Segment.TheVariants.{Def, Inst}
use Rattle.rdl_tree.specs.declared.shell.Kind.TheVariants.{Addrmap, Regfile, Reg, Field}
use Rattle.rdl_tree.specs.declared.value.Value.TheVariants.{Number, Word as Worded}
use Rattle.rdl_tree.specs.declared.value.Value.{Value}
use Rattle.rdl_tree.specs.declared.value.Word.TheVariants.{R}
use Rattle.rdl_rewrite.specs.declared.edit.Edit.TheVariants as edit
use Rattle.rdl_rewrite.specs.declared.edit.PatchRefusal.TheVariants.{NameTaken, Reserved, InUse, NotSet, NotAnInstance}
use Rattle.rdl_rewrite.specs.Rewritten.{rewritten}
use Rattle.rdl_parse.specs.Class.{class, is_unused}
use Rattle.rdl_rewrite.proofs.Examples.{held, of_type, top, to_top, field, reg}

-- ---- reg T { field {} e; field {} f; }; addrmap top { T u; T v; u.f->reset = 1; T w; v.f->reset = 0; v.e->sw = r; };

abbrev pub set : List ℕ → List ℕ → List ℕ → Value → Items → Items
set instance inside property value rest = plain (dynamic (instance ∷ inside ∷ []) property value) rest

abbrev pub defined : List ℕ → Items → Items → Items
defined name body rest = holder (define name Reg) body rest

abbrev pub both : Items
both = held (codes "e") Field no_items (field (codes "f"))

abbrev pub used : List ℕ → Items
used type =
    defined type both
    (top
    (of_type type (codes "u")
    (of_type type (codes "v")
    (set (codes "u") (codes "f") (codes "reset") (Number 1)
    (of_type type (codes "w")
    (set (codes "v") (codes "f") (codes "reset") (Number 0)
    (set (codes "v") (codes "e") (codes "sw") (Worded R) no_items)))))))

abbrev pub to_t : List Segment → List Segment
to_t rest = Def (codes "T") ∷ rest

-- the assignments to the field go with it, whatever body they stand in
removed_field : rewritten (used (codes "T")) (edit.Remove (to_t (Inst (codes "f") ∷ [])))
    ≡ Ok (defined (codes "T") (held (codes "e") Field no_items no_items)
    (top
    (of_type (codes "T") (codes "u")
    (of_type (codes "T") (codes "v")
    (of_type (codes "T") (codes "w")
    (set (codes "v") (codes "e") (codes "sw") (Worded R) no_items))))))
removed_field = refl

-- those to what is inside it too
removed_instance : rewritten (used (codes "T")) (edit.Remove (to_top (Inst (codes "v") ∷ [])))
    ≡ Ok (defined (codes "T") both
    (top
    (of_type (codes "T") (codes "u")
    (set (codes "u") (codes "f") (codes "reset") (Number 1)
    (of_type (codes "T") (codes "w") no_items)))))
removed_instance = refl

removed_type : rewritten (used (codes "T")) (edit.Remove (to_t [])) ≡ Err InUse
removed_type = refl

removed_unused : rewritten (defined (codes "T") both (top no_items)) (edit.Remove (to_t [])) ≡ Ok (top no_items)
removed_unused = refl

removed_root : rewritten (used (codes "T")) (edit.Remove []) ≡ Err NotAnInstance
removed_root = refl

-- ---- Names.

abbrev pub new_name : List ℕ
new_name = codes "U"

-- every reference to the definition gets the name
renamed_type : rewritten (used (codes "T")) (edit.Rename (to_t []) new_name) ≡ Ok (used new_name)
unfolding class is_unused
renamed_type = refl

-- every target gets it in which the name stands for the instance
renamed_field : rewritten (used (codes "T")) (edit.Rename (to_t (Inst (codes "f") ∷ [])) (codes "g"))
    ≡ Ok (defined (codes "T") (held (codes "e") Field no_items (field (codes "g")))
    (top
    (of_type (codes "T") (codes "u")
    (of_type (codes "T") (codes "v")
    (set (codes "u") (codes "g") (codes "reset") (Number 1)
    (of_type (codes "T") (codes "w")
    (set (codes "v") (codes "g") (codes "reset") (Number 0)
    (set (codes "v") (codes "e") (codes "sw") (Worded R) no_items))))))))
unfolding class is_unused
renamed_field = refl

-- a definition's name may not be that of any other, and its own counts
taken_type : rewritten (used (codes "T")) (edit.Rename (to_t []) (codes "top")) ≡ Err NameTaken
taken_type = refl

own_name : rewritten (used (codes "T")) (edit.Rename (to_t []) (codes "T")) ≡ Err NameTaken
own_name = refl

taken_instance : rewritten (used (codes "T")) (edit.Rename (to_top (Inst (codes "u") ∷ [])) (codes "v")) ≡ Err NameTaken
taken_instance = refl

reserved : rewritten (used (codes "T")) (edit.Rename (to_top (Inst (codes "u") ∷ [])) (codes "reg")) ≡ Err Reserved
unfolding class is_unused
reserved = refl

renamed_root : rewritten (used (codes "T")) (edit.Rename [] new_name) ≡ Err NotAnInstance
renamed_root = refl

-- reg T { field {} f; }; addrmap other { T d; }; addrmap top { reg T { field {} g; } a; T c; };
-- a definition inside hides the one outside, so c stays of its own type
abbrev hidden : List ℕ → Items
hidden type =
    defined type (field (codes "f"))
    (holder (define (codes "other") Addrmap) (of_type type (codes "d") no_items)
    (top (defined (codes "T") (field (codes "g")) (of_type (codes "T") (codes "a") (of_type (codes "T") (codes "c") no_items)))))

renamed_outside : rewritten (hidden (codes "T")) (edit.Rename (to_t []) new_name) ≡ Ok (hidden new_name)
unfolding class is_unused
renamed_outside = refl

-- ---- Assignments from outside.

abbrev pub nested : Items → Items
nested rest =
    top (held (codes "g") Regfile (reg (codes "q") (set (codes "q") (codes "f") (codes "reset") (Number 2) no_items)) rest)

abbrev pub of_g : ℕ → Items → Items
of_g n rest = plain (dynamic (codes "g" ∷ codes "q" ∷ codes "f" ∷ []) (codes "reset") (Number n)) rest

abbrev pub target_g : List (List ℕ)
target_g = codes "g" ∷ codes "q" ∷ codes "f" ∷ []

assigned_last : rewritten (nested (reg (codes "h") no_items)) (edit.Assign (to_top []) target_g (codes "reset") (Number 3)) ≡ Ok (nested (reg (codes "h") (of_g 3 no_items)))
assigned_last = refl

assigned_again : rewritten (nested (of_g 3 (reg (codes "h") no_items))) (edit.Assign (to_top []) target_g (codes "reset") (Number 4)) ≡ Ok (nested (of_g 4 (reg (codes "h") no_items)))
assigned_again = refl

unassigned : rewritten (nested (of_g 3 no_items)) (edit.Unassign (to_top []) target_g (codes "reset")) ≡ Ok (nested no_items)
unassigned = refl

-- another body's assignment to the same field is another one
not_here : rewritten (nested no_items) (edit.Unassign (to_top []) target_g (codes "reset")) ≡ Err NotSet
not_here = refl

other_property : rewritten (nested (of_g 3 no_items)) (edit.Unassign (to_top []) target_g (codes "sw")) ≡ Err NotSet
other_property = refl
