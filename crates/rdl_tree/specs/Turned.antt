-- A description that patches have changed, with the way back.
-- own: SystemRDL 2.0 has no edits.
use Rattle.std.specs.Prelude.{◌≡◌, List, Result}
use Rattle.std.specs.Borrow.{Fml, MutBor, RestsIfErr}
use Rattle.rdl_tree.specs.Items.{Items}
use Rattle.rdl_tree.specs.Way.{patches_back}
use Rattle.rdl_tree.specs.declared.description.Description.{Description}
use Rattle.rdl_tree.specs.contracts.description.Description.{the_row}
use Rattle.rdl_tree.specs.declared.patch.Patch.{Patch}
use Rattle.rdl_tree.specs.declared.way.Way as way
use Rattle.rdl_tree.specs.declared.way.WayBack.{WayBack}
use Rattle.rdl_tree.specs.declared.turned.Turned.{Turned}

-- the items of the description as it is now
abbrev pub turned_items : {g : way.Ghosts WayBack} → Turned WayBack g → Items
turned_items t = t.description.now.items

-- the patches that lead back
abbrev pub kept : {g : way.Ghosts WayBack} → Turned WayBack g → List Patch
kept t = patches_back t.way

-- the description that was lent ends as what the result leaves, and after an error it is as it was
abbrev pub rests_if_refused : {E : Type 0} {g : way.Ghosts WayBack} → MutBor Description → Result (Turned WayBack g) E → Fml
rests_if_refused d r = RestsIfErr the_row d (λ t. t.description.ghost_name) r (λ n. n ≡ d.now)
