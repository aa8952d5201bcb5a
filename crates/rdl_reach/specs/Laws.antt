-- What a step leaves out of reach.
-- own: SystemRDL 2.0 says how components are laid out, and nothing of edits.
use Rattle.std.specs.Prelude.{◌≡◌, ℕ, ◌*◌, ◌≤◌, Bool, true, false, List, Some, None}
use Rattle.rdl_tree.specs.Address.{body_at}
use Rattle.rdl_tree.specs.Items.{Items}
use Rattle.rdl_scope.specs.Closed.{Made, component}
use Rattle.rdl_scope.specs.ItemFaults.{fault_of}
use Rattle.rdl_elab.specs.Anew.{all_instances, instances_at}
use Rattle.rdl_elab.specs.MadeOf.{made_of}
use Rattle.rdl_seen.specs.Meaning.{nothing_around}
use Rattle.rdl_seen.specs.Node.{body_of}
use Rattle.rdl_seen.specs.Slots.{Slots}
use Rattle.rdl_marks.specs.Describes.{Describes}
use Rattle.rdl_marks.specs.InOrder.{AreInOrder}
use Rattle.rdl_marks.specs.Marks.{Marks}
use Rattle.node_laws.specs.Laid.{laying}
use Rattle.rdl_nodes.specs.Placed.{all_placed}
use Rattle.rdl_renew.specs.Placed.{placed_of}
use Rattle.rdl_reach.specs.Before.{address_before}
use Rattle.rdl_reach.specs.EditedBodies.{edits}
use Rattle.rdl_reach.specs.Reach.{in_reach, IsInReach}

-- ---- Of one description.

-- what is kept of a description
abbrev pub kept_of : Items → Slots
kept_of d = (body_of laying nothing_around d).slots

-- only what is so by the searches through whole bodies is in reach
abbrev pub ReachIsFound : Type 0
ReachIsFound = (edited : List ℕ → Bool) (d : Items) (a : List ℕ) → in_reach edited d a ≡ true → IsInReach edited d a

-- where a description without a fault is laid out, each instance of its components is placed once for each mode
abbrev pub AllArePlacedOnce : Type 0
AllArePlacedOnce = (d : Items) → fault_of d ≡ None → all_placed (kept_of d) ≤ 3 * all_instances d

-- ---- Of a step.

-- of a component after a step: it was there before, and is made of the same as it was
pub record IsAsItWas (m : Marks) (old : Items) (a : List ℕ) (c : Made) : Type 0 where
  pub at : List ℕ
  pub stood : address_before m a ≡ Some at
  pub before : Made
  pub there : component old at ≡ Some before
  pub same : made_of c ≡ made_of before

-- marks in order describe what a step made of a description without a fault, and the other one has none either
pub record IsStep (m : Marks) (old now : Items) : Type 0 where
  pub described : Describes m old now
  pub ordered : AreInOrder m
  pub accepted_old : fault_of old ≡ None
  pub accepted_now : fault_of now ≡ None

-- what is out of reach of the bodies that a step edits is as it was
abbrev pub OutOfReachStays : Type 0
OutOfReachStays =
    (m : Marks) (old now : Items) → IsStep m old now
    → (a : List ℕ) (c : Made) → component now a ≡ Some c → in_reach (edits m old now) now a ≡ false → IsAsItWas m old a c

-- a step places the instances of those in reach alone, once for each mode
abbrev pub PlacesWhatIsInReach : Type 0
PlacesWhatIsInReach =
    (m : Marks) (old now : Items) → IsStep m old now
    → placed_of m (kept_of old) now (kept_of now) ≤ 3 * instances_at (in_reach (edits m old now) now) now

-- a step that edits no body of the description that it makes places nothing
abbrev pub PlacesNothing : Type 0
PlacesNothing =
    (m : Marks) (old now : Items) → IsStep m old now → ((a : List ℕ) (b : Items) → body_at a now ≡ Some b → edits m old now a ≡ false)
    → placed_of m (kept_of old) now (kept_of now) ≡ 0
