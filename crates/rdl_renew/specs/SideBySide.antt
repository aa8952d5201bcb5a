-- A body beside what it was, item by item.
-- own: SystemRDL 2.0 has no edits.
use Rattle.std.specs.Prelude.{◌≡◌, ℕ, ◌+◌, ◌-◌, ◌<◌, ◌≤◌, nat_le, false, true, if◌then◌else◌, length, take, Some}
use Rattle.rdl_tree.specs.Items.{Items}
use Rattle.rdl_tree.specs.View as tree
use Rattle.rdl_tree.specs.declared.description.Item.{Item}
use Rattle.rdl_marks.specs.Describes.{Describes, IsItem, times}
use Rattle.rdl_marks.specs.InOrder.{AreInOrder, moved_times, place_behind}
use Rattle.rdl_marks.specs.Marks.{Firsts, Marks}
use Rattle.rdl_marks.specs.View.{new_item, old_item, list_of}
use Rattle.rdl_marks.specs.Was.{trace_of}
use Rattle.rdl_seen.specs.declared.alert.Alert.{Alert}
use Rattle.rdl_seen.specs.Alert.{AgreeBut}
use Rattle.rdl_seen.specs.Layouts.{Laying}
use Rattle.rdl_seen.specs.Meaning.{around_before}
use Rattle.rdl_seen.specs.Node.{Around}
use Rattle.rdl_seen.specs.Passing.{behind_item, Tells}

-- the place in the old body beside item i: behind the last old item before it that stayed in order
abbrev pub place_beside : Marks → ℕ → ℕ
place_beside m i =
    let count = length (list_of m.traces) in
    if nat_le i count then place_behind 0 (take i (list_of m.traces)) else m.behind + (i - count)

-- The alert tells of each item that came, went or was moved; and behind one that stayed in order, and is before item `to` now, no more
-- differs than it tells of. So an alert may grow on the way: what stands before an item is told of by what was met up to there.
pub record TellsOfAll (lay : Laying) (x : Alert) (m : Marks) (old now : Items) (a b : Around) (to : ℕ) : Type 0 where
  pub gone : (n : ℕ) (y : Item) → IsItem n old y → times n m.gone ≡ 1 → Tells x y
  pub moved_away : (n : ℕ) (y : Item) → IsItem n old y → moved_times n m.traces ≡ 1 → Tells x y
  pub new : (i : ℕ) (y : Item) → IsItem i now y → trace_of m i ≡ Some new_item → Tells x y
  pub moved_here :
      (i n : ℕ) (firsts : Firsts) (inside : Marks) (y : Item) → IsItem i now y → trace_of m i ≡ Some (old_item n firsts inside) → firsts.is_moved ≡ true → Tells x y
  pub stayed :
      (i n : ℕ) (firsts : Firsts) (inside : Marks) (z y : Item) → i < to → trace_of m i ≡ Some (old_item n firsts inside) → firsts.is_moved ≡ false → IsItem n old z → IsItem i now y
      → AgreeBut x (around_before lay n a old) (around_before lay i b now) → AgreeBut x (behind_item lay (around_before lay n a old) z) (behind_item lay (around_before lay i b now) y)

-- then no more differs, up to there, between what stands before an item and what stood before it
abbrev pub NoMoreDiffersAlong : Type 0
NoMoreDiffersAlong =
    (lay : Laying) (x : Alert) (m : Marks) (old now : Items) (a b : Around) (to : ℕ) → Describes m old now → AreInOrder m → TellsOfAll lay x m old now a b to → AgreeBut x a b
    → (i : ℕ) → i ≤ to → i ≤ length (tree.list_of now) → AgreeBut x (around_before lay (place_beside m i) a old) (around_before lay i b now)

-- nor between what stands before an item that stayed in order and what stood before it
abbrev pub NoMoreDiffersBefore : Type 0
NoMoreDiffersBefore =
    (lay : Laying) (x : Alert) (m : Marks) (old now : Items) (a b : Around) (to : ℕ) → Describes m old now → AreInOrder m → TellsOfAll lay x m old now a b to → AgreeBut x a b
    → (i n : ℕ) (firsts : Firsts) (inside : Marks) (y : Item) → i ≤ to → IsItem i now y → trace_of m i ≡ Some (old_item n firsts inside) → firsts.is_moved ≡ false
    → AgreeBut x (around_before lay n a old) (around_before lay i b now)
