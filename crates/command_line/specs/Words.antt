-- What the words behind the name of `regedit` mean. Own; how `clap` finds arguments among words is of its own definitions.
use Rattle.std.specs.Prelude.{◌≡◌, ◌≢◌, ◌≤◌, ⊤, ℕ, List, [], ◌∷◌, Bool, Option, Some, None, is_some, option_map, true, false, codes, pos, bytes_eq, string_bytes, IsSomeAnd, IfSome}
use Rattle.std.specs.Str.Parse.{signed_digits_value}
use Rattle.clap.specs.Words.{Kinds, Row, Text, fault_of, matches_of, one_of, takes, without_minus}
use Rattle.clap.specs.Values.{IsSignedIn}
use Rattle.clap.specs.declared.error.kind.ErrorKind.{ErrorKind}
use Rattle.clap.specs.declared.error.kind.ErrorKind.TheVariants.{DisplayHelp, DisplayVersion}
use Rattle.rdl_text.specs.Name.{IsName}
use Rattle.command_line.specs.Arguments.{regedit_command}
use Rattle.command_line.specs.declared.line.Line.{Line}
use Rattle.command_line.specs.declared.line.LineFault.{LineFault}
use Rattle.command_line.specs.declared.line.LineFault.TheVariants as faults
use Rattle.command_line.specs.declared.meeting.Meeting.{Meeting}
use Rattle.command_line.specs.Faults.{HasBadTop, HasFault, value}
use Rattle.command_line.specs.Faults as of_words
use Rattle.command_line.specs.Meetings.{MeetAt}

-- the arguments that are found among the words, each with its values
abbrev pub found : List Text → List Row
found words = matches_of regedit_command words

-- the number that digits spell, with or without a sign
abbrev pub Spells : Text → ℕ → Type 0
Spells text n = signed_digits_value 10 text ≡ pos n

-- the number of the history is the one that its value spells, and lies in its range
pub record NumbersHistory (rows : List Row) (n : ℕ) : Type 0 where
  pub spelled : IsSomeAnd (value (codes "history") rows) (λ text. Spells text n)
  pub least : 1 ≤ n
  pub most : n ≤ 1000000

-- the value of an option that has none of its own: `clap` gives it this one where the words have it
abbrev pub says_true : Option Text → Bool
says_true (Some text) = bytes_eq text (codes "true")
says_true None = false

-- each part of the line is the value of its argument
pub record Means (rows : List Row) (line : Line) : Type 0 where
  pub map : value (codes "map") rows ≡ Some (string_bytes line.map)
  pub script : value (codes "script") rows ≡ Some (string_bytes line.script)
  pub rdl : value (codes "rdl") rows ≡ Some (string_bytes line.rdl)
  pub header : value (codes "header") rows ≡ Some (string_bytes line.header)
  pub top : value (codes "top") rows ≡ line.top
  pub top_is_name : IfSome line.top IsName
  pub history : NumbersHistory rows line.history
  pub session : value (codes "session") rows ≡ option_map string_bytes line.session
  pub edited : value (codes "edited") rows ≡ option_map string_bytes line.edited
  pub strict : line.strict ≡ says_true (value (codes "strict") rows)
  pub quiet : line.quiet ≡ says_true (value (codes "quiet") rows)

-- what is told of the words: nothing where `clap` takes them, else the kind of the first thing that it doesn't take, where
-- `--help` and `--version` are such things
abbrev pub mistakes : List Text → Kinds
mistakes words = fault_of regedit_command words

-- help is asked for, before anything is wrong
abbrev pub AskForHelp : List Text → Type 0
AskForHelp words = mistakes words ≡ DisplayHelp ∷ []

-- the version is asked for, before anything is wrong
abbrev pub AskForVersion : List Text → Type 0
AskForVersion words = mistakes words ≡ DisplayVersion ∷ []

-- something is wrong, before help or the version is asked for
abbrev pub AreMistaken : List Text → Type 0
AreMistaken words = (kind : ErrorKind) × (kind ≢ DisplayHelp) × (kind ≢ DisplayVersion) × (mistakes words ≡ kind ∷ [])

-- `clap` takes the words
abbrev pub AreTaken : List Text → Type 0
AreTaken words = takes regedit_command words ≡ true

-- nothing else is wrong
abbrev pub AreBadAtTop : List Text → Type 0
AreBadAtTop words = (mistakes words ≡ []) × HasBadTop (found words)

-- two of their paths lead to one file, as far as they tell, and nothing else is wrong
abbrev pub Meet : List Text → Meeting → Type 0
Meet words meeting = (mistakes words ≡ []) × MeetAt (found words) meeting

-- the words give what the fault says
abbrev pub Refuses : List Text → LineFault → Type 0
Refuses words (faults.Words fault) = HasFault (mistakes words) (found words) fault
Refuses words (faults.Meets meeting) = Meet words meeting

-- a fault of words that `clap` takes
abbrev pub IsBehindClap : LineFault → Type 0
IsBehindClap (faults.Words fault) = of_words.IsBehindClap fault
IsBehindClap (faults.Meets meeting) = ⊤

-- ---- What is known of all that is found where `clap` takes the words.

-- a number from 1 to 1,000,000, and the text that is read as that number: without a minus, which no such number has
pub record HasHistory (rows : List Row) : Type 0 where
  pub text : Text
  pub is : value (codes "history") rows ≡ Some text
  pub fits : IsSignedIn (pos 1) (pos 1000000) text
  pub read : one_of (codes "history") rows ≡ Some (without_minus text)

pub record IsWhole (rows : List Row) : Type 0 where
  pub map : is_some (value (codes "map") rows) ≡ true
  pub script : is_some (value (codes "script") rows) ≡ true
  pub rdl : is_some (value (codes "rdl") rows) ≡ true
  pub header : is_some (value (codes "header") rows) ≡ true
  pub history : HasHistory rows
