-- The number of each fault of a description.
-- own: SystemRDL 2.0 numbers no errors.
use Rattle.std.specs.Prelude.{ℕ}
use Rattle.rdl_tree.specs.declared.fault.FaultKind.{FaultKind}
use Rattle.rdl_tree.specs.declared.fault.FaultKind.TheVariants.{NameTwice, UnknownType, KindNotAllowed, UnknownProperty, NotOfKind, WrongValue, AssignedTwice, Exclusive, NoSuchTarget, NotDynamic, PartNotAllowed, OutOfRange, NoTop, TooManyLevels, TooManyRows, EmptyComponent, MapTooLarge, AccessTooWide, StrideTooSmall, AddressOverlap, FieldPastRegister, FieldOverlap, ResetTooWide, Memory, DescriptionTooLarge}

abbrev pub fault_number : FaultKind → ℕ
fault_number NameTwice = 1
fault_number UnknownType = 2
fault_number KindNotAllowed = 3
fault_number UnknownProperty = 4
fault_number NotOfKind = 5
fault_number WrongValue = 6
fault_number AssignedTwice = 7
fault_number Exclusive = 8
fault_number NoSuchTarget = 9
fault_number NotDynamic = 10
fault_number PartNotAllowed = 11
fault_number OutOfRange = 12
fault_number NoTop = 13
fault_number TooManyLevels = 14
fault_number TooManyRows = 15
fault_number EmptyComponent = 16
fault_number MapTooLarge = 17
fault_number AccessTooWide = 18
fault_number StrideTooSmall = 19
fault_number AddressOverlap = 20
fault_number FieldPastRegister = 21
fault_number FieldOverlap = 22
fault_number ResetTooWide = 23
fault_number Memory = 24
fault_number DescriptionTooLarge = 25
