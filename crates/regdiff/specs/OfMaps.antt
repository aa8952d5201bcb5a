-- Whose status a comparison ends with. Own.
use Rattle.std.specs.Prelude.{◌≡◌, ℕ, Bool, true, false, List, Option}
use Rattle.command_line.specs.declared.comparison.Comparison.{Comparison}
use Rattle.command_line.specs.declared.format.Format as asked
use Rattle.command_line.specs.declared.format.Format.TheVariants as formats
use Rattle.rdl_run.specs.Comparing.{Output, IsOutput}
use Rattle.rdl_diff.specs.declared.choice.Choice.{Choice}
use Rattle.rdl_diff.specs.declared.choice.Format.{Format}
use Rattle.rdl_diff.specs.declared.choice.Format.TheVariants.{Text, Markdown, Json}
use Rattle.rdl_diff.specs.declared.choice.Severity.{Severity}
use Rattle.rdl_diff.specs.declared.choice.Severity.TheVariants.{Any, Breaking}
use Rattle.rdl_diff.specs.declared.moves.Moves.{Moves}
use Rattle.rdl_diff.specs.declared.moves.Moves.TheVariants.{Each, Own}
use Rattle.rdl_diff.specs.declared.status.Status.{Status}

-- each move is told where this is asked
abbrev pub moves_of : (each : Bool) → Moves
moves_of true = Each
moves_of false = Own

-- what breaks software alone, where this is asked
abbrev pub severity_of : (breaking : Bool) → Severity
severity_of true = Breaking
severity_of false = Any

-- how lines are written
abbrev pub format_of : asked.Format → Format
format_of formats.Text = Text
format_of formats.Markdown = Markdown
format_of formats.Json = Json

-- what is told, by the line
abbrev pub choice_of : Comparison → Choice
choice_of line = record { moves = moves_of line.each; severity = severity_of line.breaking; ignored = line.ignored; format = format_of line.format }

-- that of what is written of some two maps or sessions
pub record IsStatusOf (top : Option (List ℕ)) (c : Choice) (status : Status) : Type 0 where
  pub old : List ℕ
  pub new : List ℕ
  pub out : Output
  pub is_output : IsOutput top c old new out
  pub is : status ≡ out.status
