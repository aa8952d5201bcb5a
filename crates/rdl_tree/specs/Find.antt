-- The item to which a path of names leads.
-- own: SystemRDL 2.0, clause 5, names instances by paths of names; that a path also names definitions is this project's.
use Rattle.std.specs.Prelude.{ℕ, ltb, Bool, false, bytes_eq, List, [], ◌∷◌, length, Option, Some, None, Result, Ok, Err, if◌then◌else◌}
use Rattle.std.specs.List.{position}
use Rattle.rdl_tree.specs.Items.{Items}
use Rattle.rdl_tree.specs.View.{list_of}
use Rattle.rdl_tree.specs.Address.{inner}
use Rattle.rdl_tree.specs.declared.path.Segment.{Segment}
use Rattle.rdl_tree.specs.declared.path.Segment.TheVariants.{Def, Inst}
use Rattle.rdl_tree.specs.declared.path.PathFault.{PathFault}
use Rattle.rdl_tree.specs.declared.path.PathFault.TheVariants.{NoSuchName, ThroughNamedType}
use Rattle.rdl_tree.specs.declared.description.Item.{Item}
use Rattle.rdl_tree.specs.declared.description.Item.TheVariants.{Define, Instance, Own, Default, Dynamic}

-- the item is of the segment's sort, and has its name
abbrev pub is_named : Segment → Item → Bool
is_named (Def name) (Define n c) = bytes_eq n name
is_named (Def name) (Instance s of) = false
is_named (Def name) (Own p v) = false
is_named (Def name) (Default p v) = false
is_named (Def name) (Dynamic t p v) = false
is_named (Inst name) (Define n c) = false
is_named (Inst name) (Instance s of) = bytes_eq s.name name
is_named (Inst name) (Own p v) = false
is_named (Inst name) (Default p v) = false
is_named (Inst name) (Dynamic t p v) = false

-- the number, and then the way that follows it
abbrev pub after_number : ℕ → Result (List ℕ) PathFault → Result (List ℕ) PathFault
after_number i (Ok way) = Ok (i ∷ way)
after_number i (Err fault) = Err fault

-- by the number, if there is one, and then by the way that follows it
abbrev pub by_number : Option ℕ → (ℕ → Result (List ℕ) PathFault) → Result (List ℕ) PathFault
by_number None way = Err NoSuchName
by_number (Some i) way = after_number i (way i)

-- the way from a body, or, for None, from an item that has no body of its own:
-- each segment leads to the first item of its sort and name
abbrev pub walk : List Segment → Option Items → Result (List ℕ) PathFault
walk [] body = Ok []
walk (s ∷ path) None = Err ThroughNamedType
walk (s ∷ path) (Some t) = by_number (position (is_named s) (list_of t)) (λ i. walk path (inner i t))

-- the way from the root body
abbrev pub find : List Segment → Items → Result (List ℕ) PathFault
find path t = if ltb 17 (length path) then Err NoSuchName else walk path (Some t)
