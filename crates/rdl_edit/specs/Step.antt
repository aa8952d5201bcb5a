-- The step of an edit: its first refusal, or the whole edited description.
-- own: SystemRDL 2.0 has no edits.
use Rattle.std.specs.Prelude.{◌≡◌, ℕ, List, [], Option, Result, Ok, Err}
use Rattle.rdl_elab.specs.Faults.{elaborated}
use Rattle.rdl_elab.specs.declared.row.Row.{Row}
use Rattle.rdl_rewrite.specs.Rewritten.{rewritten}
use Rattle.rdl_rewrite.specs.declared.edit.Edit.{Edit}
use Rattle.rdl_rewrite.specs.declared.edit.PatchRefusal.TheVariants as first
use Rattle.rdl_rewrite.specs.declared.edit.PatchRefusal.{PatchRefusal}
use Rattle.rdl_tree.specs.Items.{Items}
use Rattle.rdl_tree.specs.declared.fault.Fault.{Fault}
use Rattle.rdl_tree.specs.declared.fault.FaultKind.TheVariants.{DescriptionTooLarge}
use Rattle.rdl_edit.specs.declared.refusal.Refusal.{Refusal}
use Rattle.rdl_edit.specs.declared.refusal.Refusal.TheVariants.{NoSuchPath, ThroughNamedType, NotAnInstance, NotAddable, NoSuchSibling, NameTaken, Reserved, InUse, NotSet, Faulty, Memory}

-- a description, and the name that the option asks of its top
pub record State : Type 0 where
  pub description : Items
  pub option : Option (List ℕ)

-- a map without a fault has rows
pub record HasRows (s : State) : Type 0 where
  pub rows : List Row
  pub are : elaborated s.description s.option ≡ Ok rows

-- E25 of the whole
abbrev pub too_large : Fault
too_large = record { kind = DescriptionTooLarge; address = [] }

-- what is refused before the new description is judged
abbrev pub refusal_of : PatchRefusal → Refusal
refusal_of first.NoSuchPath = NoSuchPath
refusal_of first.ThroughNamedType = ThroughNamedType
refusal_of first.NoSuchSibling = NoSuchSibling
refusal_of first.NameTaken = NameTaken
refusal_of first.Reserved = Reserved
refusal_of first.InUse = InUse
refusal_of first.NotSet = NotSet
refusal_of first.NotAnInstance = NotAnInstance
refusal_of first.NotAddable = NotAddable
refusal_of first.TooDeep = Faulty too_large
refusal_of first.Memory = Memory

-- accepted where it has no fault
abbrev pub judged : State → Result (List Row) Fault → Result State Refusal
judged s (Ok rows) = Ok s
judged s (Err fault) = Err (Faulty fault)

-- the edited description is judged as a whole, with the same option
abbrev pub judged_anew : Option (List ℕ) → Result Items PatchRefusal → Result State Refusal
judged_anew option (Ok description) =
    judged (record { description = description; option = option }) (elaborated description option)
judged_anew option (Err refusal) = Err (refusal_of refusal)

abbrev pub step : State → Edit → Result State Refusal
step s e = judged_anew s.option (rewritten s.description e)

-- ---- What the history asks of the map.

abbrev pub Leads : State → Edit → State → Type 0
Leads old e new = step old e ≡ Ok new

abbrev pub Refuses : State → Edit → Refusal → Type 0
Refuses old e NoSuchPath = step old e ≡ Err NoSuchPath
Refuses old e ThroughNamedType = step old e ≡ Err ThroughNamedType
Refuses old e NotAnInstance = step old e ≡ Err NotAnInstance
Refuses old e NotAddable = step old e ≡ Err NotAddable
Refuses old e NoSuchSibling = step old e ≡ Err NoSuchSibling
Refuses old e NameTaken = step old e ≡ Err NameTaken
Refuses old e Reserved = step old e ≡ Err Reserved
Refuses old e InUse = step old e ≡ Err InUse
Refuses old e NotSet = step old e ≡ Err NotSet
Refuses old e (Faulty fault) = step old e ≡ Err (Faulty fault)
Refuses old e Memory = Unit {0}

-- the map that this state would be isn't taken
abbrev pub IsJudged : State → Refusal → Type 0
IsJudged s (Faulty fault) = elaborated s.description s.option ≡ Err fault
IsJudged s Memory = Unit {0}
IsJudged s refusal = ⊥
