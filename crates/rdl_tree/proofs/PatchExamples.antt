-- Patches of a small description, computed.
use Rattle.std.proofs.Common.{◌≡◌, ℕ, zero, suc, true, false, List, [], ◌∷◌, refl}
use Rattle.std.specs.Prelude.{codes}
use Rattle.rdl_tree.specs.Items.{Items, no_items, plain, holder, own, define}
use Rattle.rdl_tree.specs.Patch.{patched, image, fits, inverse, inverses}
use Rattle.rdl_tree.specs.PatchWeight.{patch_weight, patches_weight, taken}
use Rattle.rdl_tree.specs.declared.shell.Kind.TheVariants.{Reg}
use Rattle.rdl_tree.specs.declared.value.Value.TheVariants.{Number, Text}
use Rattle.rdl_tree.specs.declared.description.Item.{Item}
use Rattle.rdl_tree.specs.declared.description.Item.TheVariants.{Define, Own}
use Rattle.rdl_tree.specs.declared.part.Part.TheVariants.{OfValue, OfDefine, OfType}
use Rattle.rdl_tree.specs.declared.patch.Patch.{Patch}
use Rattle.rdl_tree.specs.declared.patch.Patch.TheVariants.{Insert, Delete, Shift, Exchange}

-- name = 1; reg r { regwidth = 2; sw = 3; };
abbrev number : List ℕ → ℕ → Items → Items
number name n rest = plain (own name (Number n)) rest

abbrev reg : Items → Items → Items
reg body rest = holder (define (codes "r") Reg) body rest

abbrev two : Items
two = number (codes "regwidth") 2 (number (codes "sw") 3 no_items)

abbrev small : Items
small = number (codes "name") 1 (reg two no_items)

abbrev one_more : Item
one_more = Own (codes "desc") (Number 4)

-- ---- Each patch.

inserted : patched (Insert (1 ∷ []) one_more) small ≡ number (codes "name") 1 (number (codes "desc") 4 (reg two no_items))
inserted = refl

inserted_last : patched (Insert (2 ∷ []) one_more) small ≡ number (codes "name") 1 (reg two (number (codes "desc") 4 no_items))
inserted_last = refl

inserted_inside : patched (Insert (1 ∷ 0 ∷ []) one_more) small ≡ number (codes "name") 1 (reg (number (codes "desc") 4 two) no_items)
inserted_inside = refl

deleted : patched (Delete (0 ∷ [])) small ≡ reg two no_items
deleted = refl

deleted_inside : patched (Delete (1 ∷ 0 ∷ [])) small ≡ number (codes "name") 1 (reg (number (codes "sw") 3 no_items) no_items)
deleted_inside = refl

shifted : patched (Shift (0 ∷ []) 1) small ≡ reg two (number (codes "name") 1 no_items)
shifted = refl

shifted_inside : patched (Shift (1 ∷ 1 ∷ []) 0) small ≡ number (codes "name") 1 (reg (number (codes "sw") 3 (number (codes "regwidth") 2 no_items)) no_items)
shifted_inside = refl

exchanged : patched (Exchange (1 ∷ 1 ∷ []) (OfValue (Number 5))) small ≡ number (codes "name") 1 (reg (number (codes "regwidth") 2 (number (codes "sw") 5 no_items)) no_items)
exchanged = refl

renamed : patched (Exchange (1 ∷ []) (OfDefine (codes "s"))) small ≡ number (codes "name") 1 (holder (define (codes "s") Reg) two no_items)
renamed = refl

-- ---- Where they fit.

fits_last : fits (Insert (2 ∷ []) one_more) small ≡ true
fits_last = refl

fits_past_the_end : fits (Insert (3 ∷ []) one_more) small ≡ false
fits_past_the_end = refl

fits_in_no_body : fits (Insert (0 ∷ 0 ∷ []) one_more) small ≡ false
fits_in_no_body = refl

fits_at_the_root : fits (Insert [] one_more) small ≡ false
fits_at_the_root = refl

-- reg r { reg r { .. }; }; so many braces deep
abbrev nested : ℕ → Items
nested zero = no_items
nested (suc n) = reg (nested n) no_items

abbrev deep : ℕ → Item
deep n = Define (codes "r") (record { kind = Reg; body = nested n })

fits_deep : fits (Insert (1 ∷ 0 ∷ []) (deep 14)) small ≡ true
fits_deep = refl

fits_too_deep : fits (Insert (1 ∷ 0 ∷ []) (deep 15)) small ≡ false
fits_too_deep = refl

fits_shift : fits (Shift (1 ∷ 0 ∷ []) 1) small ≡ true
fits_shift = refl

fits_shift_out : fits (Shift (1 ∷ 0 ∷ []) 2) small ≡ false
fits_shift_out = refl

fits_delete : fits (Delete (1 ∷ 2 ∷ [])) small ≡ false
fits_delete = refl

fits_exchange : fits (Exchange (0 ∷ []) (OfType (codes "s"))) small ≡ false
fits_exchange = refl

-- ---- The way back.

back_from_shift : inverse (Shift (1 ∷ 0 ∷ []) 1) small ≡ Shift (1 ∷ 1 ∷ []) 0 ∷ []
back_from_shift = refl

-- name goes, and then sw becomes 5
abbrev both : List Patch
both = Delete (0 ∷ []) ∷ Exchange (0 ∷ 1 ∷ []) (OfValue (Text (codes "five"))) ∷ []

back_from_both : inverses both small ≡ Exchange (0 ∷ 1 ∷ []) (OfValue (Number 3)) ∷ Insert (0 ∷ []) (Own (codes "name") (Number 1)) ∷ []
back_from_both = refl

there_and_back : image (inverses both small) (image both small) ≡ small
there_and_back = refl

on_again : inverses (inverses both small) (image both small) ≡ both
on_again = refl

-- ---- Weights.

weight_of_insert : patch_weight (Insert (1 ∷ 0 ∷ []) one_more) ≡ 8
weight_of_insert = refl

weight_of_shift : patch_weight (Shift (0 ∷ []) 1) ≡ 3
weight_of_shift = refl

-- 1 and 1, and 1 and 2 and `five`
weight_of_both : patches_weight both ≡ 9
weight_of_both = refl

-- 1 and 2, and 1 and 1, and `name` and 1
weight_of_the_way_back : patches_weight (inverses both small) ≡ 10
weight_of_the_way_back = refl

taken_by_both : taken both small ≡ 5
taken_by_both = refl
