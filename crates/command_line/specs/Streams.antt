-- Which paths name a stream of the program, and no file. Own.
use Rattle.std.specs.Prelude.{ℕ, Bool, ◌||◌, List, codes, bytes_eq}

abbrev pub is_standard_input : List ℕ → Bool
is_standard_input path = bytes_eq path (codes "-") || bytes_eq path (codes "/dev/stdin")

abbrev pub is_standard_output : List ℕ → Bool
is_standard_output path = bytes_eq path (codes "-") || bytes_eq path (codes "/dev/stdout")
