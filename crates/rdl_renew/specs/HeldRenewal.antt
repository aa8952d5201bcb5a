-- A body that is renewed, as the code has it.
-- own: how the code holds what was kept.
use Rattle.rdl_tree.specs.Items.{Items}
use Rattle.rdl_marks.specs.Marks.{Marks}
use Rattle.rdl_nodes.specs.View.{slots_of}
use Rattle.rdl_places.specs.HeldScope.{outer_places}
use Rattle.rdl_seen.specs.Node.{Around}
use Rattle.rdl_renew.specs.declared.renew.Renewal.{Renewal}
use Rattle.rdl_renew.specs.Renewing.{Renewing}

-- it was this, and saw that, and this became of it
abbrev pub renewing : Renewal → Marks → (old : Items) → (saw : Around) → Renewing
renewing r marks old saw =
    record { marks = marks; old = old; now = r.body.now; saw = saw; places = outer_places r.outer; slots = slots_of r.slots.now; around = r.around }
