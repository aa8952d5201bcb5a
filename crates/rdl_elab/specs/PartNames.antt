-- The instances of a component by their names.
-- own: how they are looked up.
use Rattle.std.specs.Prelude.{◌≡◌, ℕ, suc, Bool, true, List, [], ◌∷◌, Option, Some, None, option_map, bytes_eq, if◌then◌else◌}
use Rattle.rdl_scope.specs.ByName.{value_under}
use Rattle.rdl_elab.specs.Kept.{Part}
use Rattle.rdl_elab.specs.NameMarks.{is_marked}
use Rattle.rdl_elab.specs.declared.walk.name_marks.NameMarks.{NameMarks}
use Rattle.rdl_elab.specs.declared.walk.part_list.PartNames.{PartNames}

-- the first instance of a name
abbrev pub part_named : List ℕ → List Part → Option Part
part_named name [] = None
part_named name (p ∷ ps) = if bytes_eq p.shell.name name then Some p else part_named name ps

-- an instance is the first of its name
abbrev pub IsFirstNamed : List Part → Part → Type 0
IsFirstNamed ps p = part_named p.shell.name ps ≡ Some p

-- its number among them
abbrev pub place_named : List ℕ → List Part → Option ℕ
place_named name [] = None
place_named name (p ∷ ps) = if bytes_eq p.shell.name name then Some 0 else option_map suc (place_named name ps)

-- the number under a name
abbrev pub place_under : PartNames → List ℕ → Option ℕ
place_under names q = value_under names.places q

-- a name is put in: each name, or those that are marked
abbrev pub has_name : Option NameMarks → List ℕ → Bool
has_name None q = true
has_name (Some marks) q = is_marked marks.words q

-- under each name that is put in stands the number of its first instance
abbrev pub AreNamed : PartNames → List Part → Type 0
AreNamed names ps = (q : List ℕ) → has_name names.marks q ≡ true → place_under names q ≡ place_named q ps
