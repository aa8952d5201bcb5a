-- Components in which nothing is assigned that rows are judged by.
-- own: SystemRDL 2.0 speaks of maps as a whole. There soundness is exact; an assignment that is not harmless may still do no harm.
use Rattle.std.specs.Prelude.{◌≡◌, ℕ, nat_le, ◌&&◌, Bool, true, List, [], Some, None}
use Rattle.std.specs.List.{list_all}
use Rattle.rdl_tree.specs.Items.{Items}
use Rattle.rdl_tree.specs.declared.shell.Kind.TheVariants.{Reg}
use Rattle.rdl_scope.specs.Closed.{Head, Parts, no_parts, part, Made, component}
use Rattle.rdl_scope.specs.ItemFaults.{fault_of}
use Rattle.rdl_elab.specs.declared.layout.Mode.{Mode}
use Rattle.rdl_elab.specs.Layouts.{values_of, layout_of}
use Rattle.rdl_elab.specs.Reaches.{along}
use Rattle.rdl_elab.specs.Rows.{Around}
use Rattle.sound_laws.specs.Harmless.{is_unjudged}
use Rattle.sound_laws.specs.Targets.{own_assignments}
use Rattle.sound_laws.specs.Sound.{is_sound}
use Rattle.sound_laws.specs.Laws.{IsInside, IsFaultlessBelow}

-- no dynamic assignment of `sw` or `reset` stands in the components of these instances, or below
abbrev pub are_unassigned : Parts → Bool
are_unassigned no_parts = true
are_unassigned (part at s h inside rest) = list_all is_unjudged (own_assignments h inside) && are_unassigned inside && are_unassigned rest

abbrev pub is_unassigned : Head → Parts → Bool
is_unassigned h inside = list_all is_unjudged (own_assignments h inside) && are_unassigned inside

-- there a component below which no row has a fault is sound. A register's own row judges how wide an access is
abbrev pub SoundIsExact : Type 0
SoundIsExact =
    (d : Items) (a : List ℕ) (c : Made) (m : Mode) (o : Around) → fault_of d ≡ None → component d a ≡ Some c → IsInside m c o
    → list_all is_unjudged (along d [] o.path) ≡ true → is_unassigned c.head c.parts ≡ true
    → (c.head.kind ≡ Reg → nat_le (values_of c.head).accesswidth (values_of c.head).regwidth ≡ true)
    → IsFaultlessBelow d m c o → is_sound layout_of m c.head c.parts ≡ true
