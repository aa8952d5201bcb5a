-- Classes of names, and sets of them.
-- own: SystemRDL 2.0 has names. A set of classes is one number, so that a name may seem to be in it that isn't, and none seems to be out that is in.
use Rattle.std.specs.Prelude.{ℕ, ◌^◌, ◌/◌, ◌%◌, ◌==◌, not, Bool, List, bit_and, bit_or, bit_xor}
use Rattle.rdl_scope.specs.Front.{front}
use Rattle.rdl_seen.specs.declared.names.NameSet.{NameSet}

-- two sets of bits have one in common
abbrev pub meet : ℕ → ℕ → Bool
meet a b = not (bit_and a b == 0)

-- the class of a name, by all bytes of its front
abbrev pub class_of : List ℕ → ℕ
class_of name = bit_xor (bit_xor (front name) (front name / 2 ^ 6)) (front name / 2 ^ 17) % 64

abbrev pub no_names : NameSet
no_names = record { bits = 0 }

-- the class alone
abbrev pub names_of : ℕ → NameSet
names_of class = record { bits = 2 ^ class }

abbrev pub is_no_name : NameSet → Bool
is_no_name s = s.bits == 0

-- the classes in either
abbrev pub with_names : NameSet → NameSet → NameSet
with_names s t = record { bits = bit_or s.bits t.bits }

abbrev pub do_names_meet : NameSet → NameSet → Bool
do_names_meet s t = meet s.bits t.bits

abbrev pub has_class : NameSet → ℕ → Bool
has_class s class = do_names_meet s (names_of class)
