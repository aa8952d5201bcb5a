-- What the target of a dynamic assignment finds inside a component, and whether what is assigned there fits.
-- SystemRDL 2.0, clause 5, dynamic assignment: the target names instances, one inside the other.
use Rattle.std.specs.Prelude.{ℕ, ◌+◌, ◌-◌, nat_le, Bool, true, false, List, [], ◌∷◌, Option, Some, None, option_map, option_and_then, slice_get, bytes_eq, codes, if◌then◌else◌}
use Rattle.rdl_tree.specs.declared.shell.Kind.{Kind}
use Rattle.rdl_tree.specs.declared.shell.Kind.TheVariants.{Field}
use Rattle.rdl_tree.specs.declared.value.Value.{Value}
use Rattle.rdl_seen.specs.Layouts.{Span}
use Rattle.rdl_seen.specs.Values.{reset_bits}

-- where the instances of a component lie, and whether they are fields of which no two share a bit
pub record Spots : Type 0 where
  pub spans : List Span
  pub is_ordered : Bool

-- the instances of a body, the last one first: the name of each, how many stand before it, and the kind of its component, with what is
-- inside that
pub data Inside : Type 0 where
  no_instances : Inside
  instance : (name : List ℕ) → (number : ℕ) → Kind → Spots → (inside : Inside) → (before : Inside) → Inside

-- what a target finds of a component, and inside it
pub record Within : Type 0 where
  pub kind : Kind
  pub spots : Spots
  pub inside : Inside

-- in a field
abbrev pub nothing_within : Within
nothing_within = record { kind = Field; spots = record { spans = []; is_ordered = false }; inside = no_instances }

abbrev pub how_many : Inside → ℕ
how_many no_instances = 0
how_many (instance name number kind spots inside before) = 1 + how_many before

-- one more instance behind these
abbrev pub with_instance : List ℕ → Within → Inside → Inside
with_instance name w before = instance name (how_many before) w.kind w.spots w.inside before

-- an instance: how many stand before it, and what is inside its component
pub record Found : Type 0 where
  pub number : ℕ
  pub within : Within

abbrev pub find : List ℕ → Inside → Option Found
find name no_instances = None
find name (instance n number kind spots inside before) =
    if bytes_eq n name then Some (record { number = number; within = record { kind = kind; spots = spots; inside = inside } }) else find name before

-- the instance at which a target ends: where the instances of its body lie, and how many of them stand before it
pub record End : Type 0 where
  pub spots : Spots
  pub number : ℕ

abbrev pub end_in : List (List ℕ) → Within → Option End
end_in [] w = None
end_in (name ∷ []) w = option_map (λ (f : Found). record { spots = w.spots; number = f.number }) (find name w.inside)
end_in (name ∷ next ∷ names) w = option_and_then (λ (f : Found). end_in (next ∷ names) f.within) (find name w.inside)

-- what an assigned value asks of the field, so that it gives no row a fault: `sw` that the fields of its register share no bit,
-- `reset` so many bits
pub data Asked : Type 0 where
  order : Asked
  room : Option ℕ → Asked

abbrev pub asked : List ℕ → Value → Option Asked
asked p v = if bytes_eq p (codes "sw") then Some order else (if bytes_eq p (codes "reset") then Some (room (reset_bits v)) else None)

-- a reset that needs so many bits has no more than the field
abbrev pub has_room : Option ℕ → Span → Bool
has_room None s = true
has_room (Some bits) s = nat_le bits (s.end - s.start)

abbrev pub has_room_at : Option ℕ → Option Span → Bool
has_room_at bits None = false
has_room_at bits (Some s) = has_room bits s

abbrev pub is_fitting : Asked → End → Bool
is_fitting order e = e.spots.is_ordered
is_fitting (room bits) e = has_room_at bits (slice_get e.spots.spans e.number)

-- a target that leads nowhere is refused elsewhere
abbrev pub is_fitting_end : Asked → Option End → Bool
is_fitting_end a None = true
is_fitting_end a (Some e) = is_fitting a e

-- whether a dynamic assignment can give no row a fault: it is known, or it is what it asks of the body's own instance of this number
pub data Verdict : Type 0 where
  known : Bool → Verdict
  asks_own : Asked → (number : ℕ) → Verdict

abbrev pub own_verdict : Asked → Option Found → Verdict
own_verdict a None = known true
own_verdict a (Some f) = asks_own a f.number

abbrev pub inner_verdict : Asked → List (List ℕ) → Option Found → Verdict
inner_verdict a names None = known true
inner_verdict a names (Some f) = known (is_fitting_end a (end_in names f.within))

-- of an assignment to this target, where these instances stand before it
abbrev pub target_verdict : Asked → List (List ℕ) → Inside → Verdict
target_verdict a [] before = known true
target_verdict a (name ∷ []) before = own_verdict a (find name before)
target_verdict a (name ∷ next ∷ names) before = inner_verdict a (next ∷ names) (find name before)

abbrev pub verdict_of : Option Asked → List (List ℕ) → Inside → Verdict
verdict_of None target before = known true
verdict_of (Some a) target before = target_verdict a target before

-- the same where it is known how the body's own instances lie
abbrev pub is_harmless : Spots → Verdict → Bool
is_harmless spots (known b) = b
is_harmless spots (asks_own a number) = is_fitting a (record { spots = spots; number = number })
