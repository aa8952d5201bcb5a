-- How an alert grows while a body is gone along.
-- own: SystemRDL 2.0 has no edits.
use Rattle.std.specs.Prelude.{◌≡◌, ℕ, suc, false, Some}
use Rattle.rdl_tree.specs.Items.{Items}
use Rattle.rdl_tree.specs.declared.description.Item.{Item}
use Rattle.rdl_marks.specs.Describes.{Describes, IsItem}
use Rattle.rdl_marks.specs.InOrder.{AreInOrder}
use Rattle.rdl_marks.specs.Marks.{Firsts, Marks}
use Rattle.rdl_marks.specs.View.{old_item}
use Rattle.rdl_marks.specs.Was.{trace_of}
use Rattle.rdl_seen.specs.declared.alert.Alert.{Alert}
use Rattle.rdl_seen.specs.Alert.{with_alert, AgreeBut}
use Rattle.rdl_seen.specs.Layouts.{Laying}
use Rattle.rdl_seen.specs.Meaning.{around_before}
use Rattle.rdl_seen.specs.Node.{Around}
use Rattle.rdl_seen.specs.Passing.{behind_item}
use Rattle.rdl_renew.specs.SideBySide.{TellsOfAll}

-- if item i stayed in order, no more differs behind it than an alert tells of
abbrev pub DiffersNoMoreBehind : Laying → Alert → Marks → (old now : Items) → (a b : Around) → ℕ → Type 0
DiffersNoMoreBehind lay x m old now a b i =
    (n : ℕ) (firsts : Firsts) (inside : Marks) (z y : Item) → trace_of m i ≡ Some (old_item n firsts inside) → firsts.is_moved ≡ false → IsItem n old z → IsItem i now y
    → AgreeBut x (around_before lay n a old) (around_before lay i b now) → AgreeBut x (behind_item lay (around_before lay n a old) z) (behind_item lay (around_before lay i b now) y)

-- then the alert tells of one item more
abbrev pub TellsOfOneMore : Type 0
TellsOfOneMore =
    (lay : Laying) (x : Alert) (m : Marks) (old now : Items) (a b : Around) (to : ℕ) → TellsOfAll lay x m old now a b to → DiffersNoMoreBehind lay x m old now a b to
    → TellsOfAll lay x m old now a b (suc to)

-- and one that tells of more still tells of all up to there
abbrev pub AlertsGrow : Type 0
AlertsGrow =
    (lay : Laying) (x y : Alert) (m : Marks) (old now : Items) (a b : Around) (to : ℕ) → Describes m old now → AreInOrder m → TellsOfAll lay x m old now a b to → AgreeBut x a b
    → TellsOfAll lay (with_alert x y) m old now a b to
