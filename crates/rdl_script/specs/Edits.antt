-- The edit that a line asks for, from what stands behind its path; None where an operand is missing, left over or not
-- of its form. The last operand is the rest of the line, so that one more is not of its form. Own.
use Rattle.std.specs.Prelude.{ℕ, if◌then◌else◌, List, Option, None, Some, option_map}
use Rattle.rdl_tree.specs.declared.path.Segment.{Segment}
use Rattle.rdl_tree.specs.declared.value.Value.{Value}
use Rattle.rdl_rewrite.specs.declared.edit.Edit.{Edit}
use Rattle.rdl_rewrite.specs.declared.edit.Edit.TheVariants as edits
use Rattle.rdl_script.specs.Operands.{◌>>=◌, Placed, name_in, path_in, target_in, place_in, dims_in, bits_in, number_in, value_in}
use Rattle.rdl_script.specs.Words.{first_word, behind_word, is_empty}
use Rattle.rdl_script.specs.declared.name.NameSort.TheVariants.{Any, Property}
use Rattle.rdl_script.specs.declared.verb.EditVerb.{EditVerb}
use Rattle.rdl_script.specs.declared.verb.EditVerb.TheVariants.{Remove, Rename, Move, Resize, Bits, Number, Set, Clear, Assign, Unassign}
use Rattle.rdl_script.specs.declared.verb.Part.{Part}
use Rattle.rdl_script.specs.declared.verb.Part.TheVariants.{Address, Stride, Align, Reset}
use Rattle.rdl_script.specs.declared.verb.Sort.{Sort}
use Rattle.rdl_script.specs.declared.verb.Sort.TheVariants.{Own, Default}

abbrev pub number_edit : Part → List Segment → Option ℕ → Edit
number_edit Address path number = edits.SetAddress path number
number_edit Stride path number = edits.SetStride path number
number_edit Align path number = edits.SetAlign path number
number_edit Reset path number = edits.SetReset path number

abbrev pub set_edit : Sort → List Segment → (property : List ℕ) → Value → Edit
set_edit Own path property value = edits.SetOwn path property value
set_edit Default path property value = edits.SetDefault path property value

abbrev pub clear_edit : Sort → List Segment → (property : List ℕ) → Edit
clear_edit Own path property = edits.ClearOwn path property
clear_edit Default path property = edits.ClearDefault path property

abbrev pub removed : List Segment → List ℕ → Option Edit
removed path operands = if is_empty operands then Some (edits.Remove path) else None

-- a place is the rest of the line
abbrev pub moved : List Segment → Option Placed → Option Edit
moved path None = None
moved path (Some place) = if is_empty place.1 then Some (edits.Move path place.0) else None

-- PROP VALUE
unfoldable pub assignment_in : List ℕ → Option (List ℕ × Value)
assignment_in operands = name_in Property (first_word operands) >>= λ p. option_map (λ v. (p, v)) (value_in (behind_word operands))

unfoldable pub assigned : List Segment → List ℕ → Option Edit
assigned path operands =
    target_in (first_word operands) >>= λ t. option_map (λ a. edits.Assign path t a.0 a.1) (assignment_in (behind_word operands))

unfoldable pub unassigned : List Segment → List ℕ → Option Edit
unassigned path operands =
    target_in (first_word operands) >>= λ t. option_map (λ p. edits.Unassign path t p) (name_in Property (behind_word operands))

unfoldable pub edit_by : EditVerb → List Segment → List ℕ → Option Edit
edit_by Remove path operands = removed path operands
edit_by Rename path operands = option_map (λ n. edits.Rename path n) (name_in Any operands)
edit_by Move path operands = moved path (place_in operands)
edit_by Resize path operands = option_map (λ ns. edits.Resize path ns) (dims_in operands)
edit_by Bits path operands = option_map (λ r. edits.SetBits path r) (bits_in operands)
edit_by (Number part) path operands = option_map (λ n. number_edit part path n) (number_in operands)
edit_by (Set sort) path operands = option_map (λ a. set_edit sort path a.0 a.1) (assignment_in operands)
edit_by (Clear sort) path operands = option_map (λ p. clear_edit sort path p) (name_in Property operands)
edit_by Assign path operands = assigned path operands
edit_by Unassign path operands = unassigned path operands

-- each line of an edit begins with a path
unfoldable pub edit_in : EditVerb → List ℕ → Option Edit
edit_in verb operands = path_in (first_word operands) >>= λ path. edit_by verb path (behind_word operands)
