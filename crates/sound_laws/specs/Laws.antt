-- What holds of sound components in a description without a fault among its items.
-- own: SystemRDL 2.0 speaks of maps as a whole.
use Rattle.std.specs.Prelude.{◌≡◌, Bool, ℕ, ◌+◌, ◌^◌, ◌≤◌, true, List, [], ◌∷◌, ◌++◌, Option, Some, None, Ok}
use Rattle.std.specs.List.{list_all}
use Rattle.rdl_tree.specs.Items.{Items}
use Rattle.rdl_tree.specs.declared.shell.Kind.TheVariants.{Addrmap, Regfile, Reg}
use Rattle.rdl_scope.specs.Target.{passes}
use Rattle.rdl_scope.specs.Closed.{Head, Parts, Made, component}
use Rattle.rdl_scope.specs.ItemFaults.{fault_of}
use Rattle.rdl_elab.specs.declared.layout.Mode.{Mode}
use Rattle.rdl_elab.specs.declared.layout.Mode.TheVariants.{Regalign}
use Rattle.rdl_elab.specs.Layouts.{values_of, mode_inside, layout_of}
use Rattle.rdl_elab.specs.Reaches.{Reach, reaches, along}
use Rattle.rdl_elab.specs.Rows.{Around, rows_in, rows_of, top_layout}
use Rattle.rdl_elab.specs.Faults.{levels, count, first_empty, first_row_fault, top_from, fault_of_top, elaborated}
use Rattle.sound_laws.specs.Harmless.{Laying, kept_layout, are_harmless, is_unjudged}
use Rattle.sound_laws.specs.Sound.{is_sound}
use Rattle.sound_laws.specs.Targets.{target_in, own_assignments}
use Rattle.sound_laws.specs.Search.{may_be_passed_over, IsKeptWhole, IsCautious, rows_asked, fault_asked}

-- what stands around the instances of this component is what it is where the component stands under this mode
pub record IsInside (m : Mode) (c : Made) (o : Around) : Type 0 where
  pub mode : o.mode ≡ mode_inside c.head.kind (values_of c.head) m
  pub bits : c.head.kind ≡ Reg → o.bits ≡ (values_of c.head).regwidth

-- no row below a component has a fault
abbrev pub IsFaultlessBelow : Items → Mode → Made → Around → Type 0
IsFaultlessBelow d m c o = first_row_fault d (rows_in d o [] (layout_of m c.head c.parts).spans c.parts) ≡ None

-- a target passes the instances that its names find among those of the component
abbrev pub TargetsAreNamed : Type 0
TargetsAreNamed =
    (d : Items) (a : List ℕ) (c : Made) → fault_of d ≡ None → component d a ≡ Some c
    → (n : ℕ) (names : List (List ℕ)) → target_in c.parts n names ≡ passes d a n names

-- the dynamic assignments in the body of a sound component are harmless
abbrev pub SoundAssignsNoHarm : Type 0
SoundAssignsNoHarm =
    (d : Items) (a : List ℕ) (c : Made) (m : Mode) → fault_of d ≡ None → component d a ≡ Some c → is_sound layout_of m c.head c.parts ≡ true
    → are_harmless layout_of c.head c.parts (reaches d a 0 c.head.body) ≡ true

-- below a sound component no row has a fault, if what is assigned from around it is harmless
abbrev pub SoundHasNoFault : Type 0
SoundHasNoFault =
    (d : Items) (a : List ℕ) (c : Made) (m : Mode) (o : Around) → fault_of d ≡ None → component d a ≡ Some c → is_sound layout_of m c.head c.parts ≡ true
    → IsInside m c o → are_harmless layout_of c.head c.parts (along d [] o.path) ≡ true → IsFaultlessBelow d m c o

-- as it is if neither `sw` nor `reset` is
abbrev pub UnjudgedAreHarmless : Type 0
UnjudgedAreHarmless = (lay : Laying) (c : Made) (rs : List Reach) → list_all is_unjudged rs ≡ true → are_harmless lay c.head c.parts rs ≡ true

-- a map with this top is within the limits, and no register file or address map in it is without instances
pub record IsWithinLimits (c : Made) : Type 0 where
  pub levels : levels c.parts + 1 ≤ 16
  pub rows : count c.parts + 1 ≤ 65536
  pub filled : first_empty c.parts ≡ None
  pub size : (top_layout c).size ≤ 2 ^ 40

-- a map within the limits whose top is sound has no fault
abbrev pub SoundMapHasNoFault : Type 0
SoundMapHasNoFault =
    (d : Items) (a name : List ℕ) (c : Made) → fault_of d ≡ None → component d a ≡ Some c → c.head.kind ≡ Addrmap → is_sound layout_of Regalign c.head c.parts ≡ true
    → IsWithinLimits c → fault_of_top d a name c ≡ None

-- so it is its rows
abbrev pub SoundMapIsItsRows : Type 0
SoundMapIsItsRows =
    (d : Items) (wanted : Option (List ℕ)) (top : ℕ × List ℕ) (c : Made) → fault_of d ≡ None → top_from wanted 0 d ≡ Some top → component d (top.0 ∷ []) ≡ Some c
    → is_sound layout_of Regalign c.head c.parts ≡ true → IsWithinLimits c → elaborated d wanted ≡ Ok (rows_of d top.1 c)

-- the mode under which a component stands matters to a register file alone
abbrev pub ModesMatterToRegisterFiles : Type 0
ModesMatterToRegisterFiles = (m n : Mode) (c : Made) → (c.head.kind ≡ Regfile → ⊥) → is_sound layout_of m c.head c.parts ≡ is_sound layout_of n c.head c.parts

-- a component is sound, and what is harmless there is told by what is kept of layouts
pub record IsTold (m : Mode) (c : Made) : Type 0 where
  pub sound : is_sound layout_of m c.head c.parts ≡ true
  pub harmless : (rs : List Reach) → are_harmless kept_layout c.head c.parts rs ≡ are_harmless layout_of c.head c.parts rs

-- so it is of a component that is sound by what is kept of layouts, if that is exact
abbrev pub KeptSuffices : Type 0
KeptSuffices =
    (d : Items) (a : List ℕ) (c : Made) (m : Mode) → fault_of d ≡ None → component d a ≡ Some c → IsKeptWhole c.head.kind (kept_layout m c.head c.parts).size
    → is_sound kept_layout m c.head c.parts ≡ true → IsTold m c

-- the first fault below a component is found where nothing is passed over but what can have none
abbrev pub SearchFindsFirst : Type 0
SearchFindsFirst =
    (d : Items) (over : Mode → Head → Parts → List Reach → Bool) (a : List ℕ) (c : Made) (m : Mode) (o : Around) → IsCautious d over
    → fault_of d ≡ None → component d a ≡ Some c → IsInside m c o → IsKeptWhole c.head.kind (layout_of m c.head c.parts).size
    → first_row_fault d (rows_asked over d o (along d [] o.path ++ own_assignments c.head c.parts) [] (layout_of m c.head c.parts).spans c.parts)
    ≡ first_row_fault d (rows_in d o [] (layout_of m c.head c.parts).spans c.parts)

-- so the fault of a map is found
abbrev pub SearchFindsMapFault : Type 0
SearchFindsMapFault =
    (d : Items) (over : Mode → Head → Parts → List Reach → Bool) (a name : List ℕ) (c : Made) → IsCautious d over
    → fault_of d ≡ None → component d a ≡ Some c → c.head.kind ≡ Addrmap → fault_asked over d a name c ≡ fault_of_top d a name c

-- so it is where what is kept of layouts tells what may be passed over
abbrev pub KeptIsCautious : Type 0
KeptIsCautious = (d : Items) → fault_of d ≡ None → IsCautious d (may_be_passed_over kept_layout)
