-- The words `MAP SCRIPT --rdl OUT --header OUT`, in this order, of files whose names begin with no hyphen, and with
-- `--session OUT` behind them. Own.
use Rattle.std.specs.Prelude.{◌≡◌, List, [], ◌∷◌, Option, Some, None, codes, ◌==◌, Bool, true, not}
use Rattle.clap.specs.Words.{Text}
use Rattle.command_line.specs.Faults.{value}
use Rattle.command_line.specs.Words.{AreTaken, found, mistakes}

-- the text doesn't begin with a hyphen (45), by which options are known
abbrev pub is_plain : Text → Bool
is_plain [] = true
is_plain (x ∷ xs) = not (x == 45)

-- as the usage has them
abbrev pub in_order : (map script rdl header : Text) → List Text
in_order map script rdl header = map ∷ script ∷ codes "--rdl" ∷ rdl ∷ codes "--header" ∷ header ∷ []

-- with a session asked for behind them
abbrev pub in_order_with : (map script rdl header session : Text) → List Text
in_order_with map script rdl header session =
    map ∷ script ∷ codes "--rdl" ∷ rdl ∷ codes "--header" ∷ header ∷ codes "--session" ∷ session ∷ []

-- the words are taken, and each of the files is the value of its argument; the other arguments have their defaults
pub record AreRead (words : List Text) (map script rdl header : Text) (session : Option Text) : Type 0 where
  pub taken : AreTaken words
  pub told : mistakes words ≡ []
  pub map_value : value (codes "map") (found words) ≡ Some map
  pub script_value : value (codes "script") (found words) ≡ Some script
  pub rdl_value : value (codes "rdl") (found words) ≡ Some rdl
  pub header_value : value (codes "header") (found words) ≡ Some header
  pub top_value : value (codes "top") (found words) ≡ None
  pub history_value : value (codes "history") (found words) ≡ Some (codes "10000")
  pub session_value : value (codes "session") (found words) ≡ session
  pub edited_value : value (codes "edited") (found words) ≡ None
  pub strict_value : value (codes "strict") (found words) ≡ Some (codes "false")
  pub quiet_value : value (codes "quiet") (found words) ≡ Some (codes "false")

abbrev pub ReadsInOrder : (map script rdl header : Text) → Type 0
ReadsInOrder map script rdl header = AreRead (in_order map script rdl header) map script rdl header None

abbrev pub ReadsWithSession : (map script rdl header session : Text) → Type 0
ReadsWithSession map script rdl header session = AreRead (in_order_with map script rdl header session) map script rdl header (Some session)
