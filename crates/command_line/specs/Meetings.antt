-- Which paths of a line lead to one file or stream, as far as words tell. Own.
use Rattle.std.specs.Prelude.{◌≡◌, nat_eq, Bool, false, ◌||◌, ◌&&◌, if◌then◌else◌, List, Option, Some, None, codes, bytes_eq, option_map, option_and_then, string_bytes}
use Rattle.std.specs.List.{starts_with}
use Rattle.clap.specs.Words.{Row, Text, first_of}
use Rattle.command_line.specs.declared.line.Line.{Line}
use Rattle.command_line.specs.declared.meeting.Meeting.{Meeting}
use Rattle.command_line.specs.declared.meeting.Meeting.TheVariants.{TwoOutputs, OutputOverScript, HeaderOverMap, TwoInputs}
use Rattle.command_line.specs.Streams.{is_standard_input}

-- what stands below these folders may be written by many
abbrev pub is_of_the_system : Text → Bool
is_of_the_system path = starts_with nat_eq path (codes "/dev/") || starts_with nat_eq path (codes "/proc/")

-- the file that an output's path names; standard output, `-`, counts as one
abbrev pub output_named : Text → Option Text
output_named path = if is_of_the_system path then None else Some path

-- the file that an input's path names; standard input is none
abbrev pub input_named : Text → Option Text
input_named path = if is_standard_input path then None else output_named path

-- both lead to a file, and to the same
abbrev pub are_one : Option Text → Option Text → Bool
are_one (Some a) (Some b) = bytes_eq a b
are_one (Some a) None = false
are_one None b = false

-- the file is the map's, the header's or the session's
abbrev pub meets_one : (file rdl header session : Option Text) → Bool
meets_one file rdl header session = are_one file rdl || (are_one file header || are_one file session)

-- the worst first; the edited text may stand in the place of MAP
abbrev pub meeting_at : (map script rdl header session edited : Option Text) → Option Meeting
meeting_at map script rdl header session edited =
    if are_one rdl header || are_one rdl session || are_one header session || meets_one edited rdl header session then Some TwoOutputs
    else if are_one edited script || meets_one script rdl header session then Some OutputOverScript
    else if are_one header map then Some HeaderOverMap
    else None

-- of a line with these paths: standard input is read once, and no file is written over that is needed
abbrev pub meeting_between : (map script rdl header : Text) → (session edited : Option Text) → Option Meeting
meeting_between map script rdl header session edited =
    if is_standard_input map && is_standard_input script then Some TwoInputs
    else meeting_at (input_named map) (input_named script) (output_named rdl) (output_named header) (option_and_then output_named session) (option_and_then output_named edited)

-- of the paths of a line
abbrev pub meeting_of : Line → Option Meeting
meeting_of line = meeting_between
    (string_bytes line.map) (string_bytes line.script) (string_bytes line.rdl) (string_bytes line.header) (option_map string_bytes line.session) (option_map string_bytes line.edited)

-- two paths of the words meet so: those that the words give MAP, SCRIPT and the outputs
pub record MeetAt (rows : List Row) (meeting : Meeting) : Type 0 where
  pub map : Text
  pub script : Text
  pub rdl : Text
  pub header : Text
  pub is_map : first_of (codes "map") rows ≡ Some map
  pub is_script : first_of (codes "script") rows ≡ Some script
  pub is_rdl : first_of (codes "rdl") rows ≡ Some rdl
  pub is_header : first_of (codes "header") rows ≡ Some header
  pub meet : meeting_between map script rdl header (first_of (codes "session") rows) (first_of (codes "edited") rows) ≡ Some meeting
