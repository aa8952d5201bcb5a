-- Steps that were taken while one body was held open.
-- own: SystemRDL 2.0 has no edits.
use Rattle.std.specs.Prelude.{◌≡◌, ℕ, Bool, false, not, ◌&&◌, ◌==◌, nat_le, nat_lt, bytes_eq, IsTrue, List, [], ◌∷◌, ◌++◌, length, Some, reverse, vec_capacity}
use Rattle.rdl_tree.specs.Items.{Items}
use Rattle.rdl_tree.specs.View.{items_of}
use Rattle.rdl_tree.specs.Address.{body_at, map_body, holder_of, number_of}
use Rattle.rdl_tree.specs.Edit.{insert_item}
use Rattle.rdl_tree.specs.Patch.{fits, patched, inverse}
use Rattle.rdl_tree.specs.Step.{IsStep}
use Rattle.rdl_tree.specs.Way.{Held, none_held, held_at, are_ready, are_ready_in, backs}
use Rattle.rdl_tree.specs.Walk.{IsUnderWay, IsOnWay}
use Rattle.rdl_tree.specs.declared.description.Item.{Item}
use Rattle.rdl_tree.specs.declared.patch.Patch.{Patch}
use Rattle.rdl_tree.specs.declared.patch.Patch.TheVariants.{Insert, Delete, Shift, Exchange}
use Rattle.rdl_tree.specs.declared.way.Step.{Step}

-- wherever the body stands at the path, the patch led from it to the other one
abbrev pub IsStepWithin : List ℕ → Patch → Items → Items → Step → Type 0
IsStepWithin path p old new step =
    (whole : Items) → body_at path whole ≡ Some old → IsTrue (fits p whole) → IsStep p whole (map_body path (λ _. new) whole) step

-- a walk has gone on from one description to the other
abbrev pub GoesOn : List Step → List Step → List Patch → List Patch → Items → Items → Type 0
GoesOn steps more left less old new = (start : Items) (all : List Patch) → IsUnderWay steps old start left all → IsUnderWay more new start less all

-- wherever the body stands at the path, a walk has gone on as it became the other one
abbrev pub GoesOnWithin : List ℕ → List Step → List Step → List Patch → List Patch → Items → Items → Type 0
GoesOnWithin path steps more left less old new = (whole : Items) → body_at path whole ≡ Some old → GoesOn steps more left less whole (map_body path (λ _. new) whole)

-- the same patches lead back, and the steps are ready once a body is held open before them
pub record IsLent (held : Held) (old new : List Step) : Type 0 where
  pub same : backs (reverse new) ≡ backs (reverse old)
  pub ready : (t : Items) → IsTrue (are_ready (reverse old) t) → IsTrue (are_ready_in held (reverse new) t)

-- ---- On the way back.

-- the items in front of a place, and those behind it, which are kept in reverse
abbrev pub around : List Item → List Item → Items
around front behind = items_of (front ++ reverse behind)

-- the patch puts an item into the body at the path, which has so many
abbrev pub is_into : Patch → List ℕ → ℕ → Bool
is_into (Insert at x) path count = not (length at == 0) && (bytes_eq path (holder_of at) && nat_le (number_of at) count)
is_into (Delete at) path count = false
is_into (Shift at to) path count = false
is_into (Exchange at part) path count = false

-- the step puts an item into the body that is held open, which has room for it, and no less than the step itself has
abbrev pub goes_in : Step → List ℕ → ℕ → ℕ → Bool
goes_in s path count room = is_into s.back path count && (nat_le (vec_capacity s.room) room && nat_lt count room)

-- wherever the body stands at the path, the patch leads from it to the other one, and the second patch back again
pub record IsBackWithin (path : List ℕ) (back : Patch) (old new : Items) (p : Patch) : Type 0 where
  pub led : (whole : Items) → body_at path whole ≡ Some old → map_body path (λ _. new) whole ≡ patched back whole
  pub again : (whole : Items) → inverse back whole ≡ p ∷ []

-- wherever the body stands at the path, a walk back has gone on as it became the other one
abbrev pub ComesBackWithin : List ℕ → Held → Held → List Step → List Step → List Patch → List Patch → Items → Items → Type 0
ComesBackWithin path held now steps less room more old new =
    (whole : Items) → body_at path whole ≡ Some old → (start : Items) (all : List Patch) → IsOnWay held steps whole start room all → IsOnWay now less (map_body path (λ _. new) whole) start more all

-- a walk back has gone on from one description to the other
abbrev pub ComesBack : Held → List Step → List Step → List Patch → List Patch → Items → Items → Type 0
ComesBack held steps less room more old new = (start : Items) (all : List Patch) → IsOnWay held steps old start room all → IsOnWay none_held less new start more all

-- as the body at the path, held open with so much room, became the other one, a walk back has gone on, and none is held open behind it
abbrev pub ComesBackHolding : (path : List ℕ) → (wide : ℕ) → (steps less : List Step) → (room more : List Patch) → (old new : Items) → Type 0
ComesBackHolding path wide steps less room more old new = ComesBackWithin path (held_at path wide) none_held steps less room more old new

-- the item was put into the body, held open with so much room, and a walk back has gone on in it
abbrev pub PutsBackWithin : (at : List ℕ) → Item → (wide : ℕ) → (steps less : List Step) → (room more : List Patch) → (old new : Items) → Type 0
PutsBackWithin at x wide steps less room more old new = ComesBackHolding (holder_of at) wide steps less (room ++ Delete at ∷ []) more (insert_item (number_of at) x old) new

-- the same of the whole description
abbrev pub PutsBack : (at : List ℕ) → Item → (wide : ℕ) → (steps less : List Step) → (room more : List Patch) → (old new : Items) → Type 0
PutsBack at x wide steps less room more old new = ComesBack (held_at (holder_of at) wide) steps less (room ++ Delete at ∷ []) more (patched (Insert at x) old) new
