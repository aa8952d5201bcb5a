-- Which edits make quiet steps.
-- own: SystemRDL 2.0 has no edits.
use Rattle.std.specs.Prelude.{◌≡◌, true, None, Ok}
use Rattle.rdl_tree.specs.Items.{Items}
use Rattle.rdl_tree.specs.Patch.{image}
use Rattle.rdl_scope.specs.ItemFaults.{fault_of}
use Rattle.rdl_rewrite.specs.Patches.{patches}
use Rattle.rdl_rewrite.specs.Rewritten.{rewritten}
use Rattle.rdl_rewrite.specs.declared.edit.Edit.{Edit}
use Rattle.rdl_edit.specs.Still.{keeps_layouts}
use Rattle.rdl_edit.specs.QuietSteps.{IsQuietStep}

-- an edit that keeps layouts, of a description without a fault, where its patches lead to what it makes
abbrev pub EditsThatKeepLayoutsAreQuiet : Type 0
EditsThatKeepLayoutsAreQuiet = (d : Items) (e : Edit) → fault_of d ≡ None → keeps_layouts e ≡ true → rewritten d e ≡ Ok (image (patches d e) d) → IsQuietStep (patches d e) d
