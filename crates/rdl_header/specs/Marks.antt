-- The mark of a name: a number by which names are told apart. Names whose marks differ are different. Own.
use Rattle.std.specs.Prelude.{ℕ, nat_lt, not, Bool, true, List, [], ◌∷◌, if◌then◌else◌}
use Rattle.std.specs.Hash.DefaultHasher as sip
use Rattle.std.specs.List.{flat_map}
use Rattle.rdl_elab.specs.declared.row.Location.{Location}
use Rattle.rdl_elab.specs.declared.row.Location.TheVariants.{Bytes, Bits}
use Rattle.rdl_elab.specs.declared.row.Row.{Row}
use Rattle.rdl_header.specs.HeaderText.{path_text, width}

-- the bytes' digest of 64 bits by SipHash-1-3, whose keys are both 0
abbrev pub mark : List ℕ → ℕ
mark bytes = sip.finish (sip.write sip.initial bytes)

-- whether no number of a row has more than four words; no map has another row
abbrev pub is_narrow : Location → Bool
is_narrow (Bytes extent) = true
is_narrow (Bits span) = not (nat_lt 128 (width span))

-- the mark of a row's path; twice where the row isn't narrow, so that the marks of all rows don't differ
abbrev pub row_marks : Row → List ℕ
row_marks row = mark (path_text row.names) ∷ (if is_narrow row.location then [] else mark (path_text row.names) ∷ [])

abbrev pub path_marks : List Row → List ℕ
path_marks rows = flat_map row_marks rows
