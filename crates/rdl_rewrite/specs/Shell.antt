-- The shell of an instance, with one part of it changed.
-- SystemRDL 2.0, clause 5, instantiating components: the parts behind an instance's name; the edits are this project's.
use Rattle.std.specs.Prelude.{ℕ, [], Option, Some, None, Result, Ok, Err, slice_get}
use Rattle.rdl_tree.specs.Items.{Items}
use Rattle.rdl_tree.specs.View.{list_of}
use Rattle.rdl_tree.specs.Edit.{replace_item}
use Rattle.rdl_tree.specs.declared.description.Item.{Item}
use Rattle.rdl_tree.specs.declared.description.Item.TheVariants.{Instance}
use Rattle.rdl_tree.specs.declared.shell.Shell.{Shell}
use Rattle.rdl_rewrite.specs.declared.edit.Edit.{Edit}
use Rattle.rdl_rewrite.specs.declared.edit.Edit.TheVariants.{Resize, SetBits, SetAddress, SetStride, SetAlign, SetReset}
use Rattle.rdl_rewrite.specs.declared.edit.PatchRefusal.{PatchRefusal}
use Rattle.rdl_rewrite.specs.declared.edit.PatchRefusal.TheVariants.{NotAnInstance}

-- what the edit makes of the shell: an array has no range, and what has a range is no array
abbrev pub edited_shell : Edit → Shell → Shell
edited_shell (Resize path new) s = record s { dims = new; range = None }
edited_shell (SetBits path new) s = record s { dims = []; range = new }
edited_shell (SetAddress path new) s = record s { address = new }
edited_shell (SetStride path new) s = record s { stride = new }
edited_shell (SetAlign path new) s = record s { align = new }
edited_shell (SetReset path new) s = record s { reset = new }
edited_shell e s = s

-- the items, with the shell of the instance of this number changed
abbrev pub reshaped_at : (Shell → Shell) → ℕ → Items → Option Item → Result Items PatchRefusal
reshaped_at change number b (Some (Instance s of)) = Ok (replace_item number (Instance (change s) of) b)
reshaped_at change number b x = Err NotAnInstance

abbrev pub reshaped : (Shell → Shell) → ℕ → Items → Result Items PatchRefusal
reshaped change number b = reshaped_at change number b (slice_get (list_of b) number)
