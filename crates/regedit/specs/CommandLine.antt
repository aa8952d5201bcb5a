-- The exit status of the program. Own.
use Rattle.std.specs.Prelude.{◌≡◌, ◌⊎◌, ℕ, ◌≤◌, List, Result, Ok, Err, if◌then◌else◌}
use Rattle.command_line.specs.Words.{AreBadAtTop, AreMistaken, Meet}
use Rattle.command_line.specs.declared.meeting.Meeting.{Meeting}
use Rattle.command_line.specs.declared.fault.WordsFault.{WordsFault}
use Rattle.command_line.specs.declared.fault.WordsFault.TheVariants as faults
use Rattle.rdl_run.specs.declared.run.Options.{Options}
use Rattle.regedit.specs.Files.{lacks_text}
use Rattle.regedit.specs.OfOutput.{IsEndingOf}
use Rattle.regedit.specs.declared.files.Ending.{Ending}
use Rattle.regedit.specs.declared.command.Failure.{Failure}
use Rattle.regedit.specs.declared.command.Failure.TheVariants as failures
use Rattle.rdl_run.specs.declared.status.Status.{Status}
use Rattle.rdl_run.specs.declared.status.Status.TheVariants as statuses

abbrev pub status_code : Status → ℕ
status_code statuses.Accepted = 0
status_code statuses.LineRefused = 1
status_code statuses.MapRefused = 2
status_code (statuses.Incomplete missing) = 3

abbrev pub failure_code : Failure → ℕ
failure_code (failures.Fault fault) = 4
failure_code failures.BadCommandLine = 5
failure_code failures.BadTop = 5
failure_code (failures.Meets meeting) = 5

-- a text that is missing counts more than a line that was refused
abbrev pub ending_code : Ending → ℕ
ending_code ending = if lacks_text ending then 3 else status_code ending.status

-- that of a run that ended so
abbrev pub exit_code : {E : Type 0} → Result Ending E → ℕ
exit_code (Ok ending) = ending_code ending
exit_code (Err stop) = 4

-- the run stopped, or it ended with the status of an output of some map and script, or without an edited or a source text that was
-- asked for
abbrev pub EndsRun : Options → ℕ → Type 0
EndsRun options n = (n ≡ 4) ⊎ ((ending : Ending) × IsEndingOf options ending × (n ≡ ending_code ending))

-- how the program ends where the words are no command line; help and the version may find no memory, or be cut off
abbrev pub EndsWords : WordsFault → ℕ → Type 0
EndsWords (faults.Help help) n = (n ≡ 0) ⊎ (n ≡ 4)
EndsWords (faults.Version version) n = (n ≡ 0) ⊎ (n ≡ 4)
EndsWords (faults.Refused mistake) n = n ≡ 5
EndsWords faults.BadTop n = n ≡ 5
EndsWords faults.Memory n = n ≡ 4

-- two of the paths that the words give lead to one file or stream, as far as they tell, and nothing else is wrong
abbrev pub DoMeet : List (List ℕ) → Type 0
DoMeet words = (meeting : Meeting) × Meet words meeting

-- the words have a mistake, or they have none and the name of the top is bad, or two of their paths meet
abbrev pub AreRefused : List (List ℕ) → Type 0
AreRefused words = AreMistaken words ⊎ AreBadAtTop words ⊎ DoMeet words

abbrev pub IsExit : ℕ → Type 0
IsExit n = n ≤ 5
