-- The exit status of the program. Own; which a comparison has is of `rdl_diff`.
use Rattle.std.specs.Prelude.{◌≡◌, ◌≢◌, ◌⊎◌, ℕ, List, [], ◌∷◌, Option, Result, Ok, Err}
use Rattle.clap.specs.declared.error.kind.ErrorKind.{ErrorKind}
use Rattle.clap.specs.declared.error.kind.ErrorKind.TheVariants.{DisplayHelp, DisplayVersion}
use Rattle.command_line.specs.ComparisonWords.{HasBadFormat, HasBadProperty, found, mistakes}
use Rattle.command_line.specs.Faults.{HasBadTop}
use Rattle.command_line.specs.declared.comparison.ComparisonFault.{ComparisonFault}
use Rattle.command_line.specs.declared.comparison.ComparisonFault.TheVariants.{Words, BadProperty, BadFormat}
use Rattle.command_line.specs.declared.fault.WordsFault.{WordsFault}
use Rattle.command_line.specs.declared.fault.WordsFault.TheVariants as faults
use Rattle.rdl_diff.specs.Endings.{status_code}
use Rattle.rdl_diff.specs.declared.choice.Choice.{Choice}
use Rattle.rdl_diff.specs.declared.status.Status.{Status}
use Rattle.regdiff.specs.OfMaps.{IsStatusOf}

-- that of a comparison, or of what stopped it
abbrev pub IsOfComparison : ℕ → Type 0
IsOfComparison n = (n ≡ 0) ⊎ ((n ≡ 1) ⊎ ((n ≡ 2) ⊎ (n ≡ 4)))

-- that of a comparison that ended so
abbrev pub exit_code : {E : Type 0} → Result Status E → ℕ
exit_code (Ok status) = status_code status
exit_code (Err stop) = 4

-- the comparison stopped, or it ended with the status of what is written of some two maps
abbrev pub EndsComparison : (top : Option (List ℕ)) → Choice → ℕ → Type 0
EndsComparison top c n = (n ≡ 4) ⊎ ((status : Status) × IsStatusOf top c status × (n ≡ status_code status))

-- or of words that are none
abbrev pub IsExit : ℕ → Type 0
IsExit n = IsOfComparison n ⊎ (n ≡ 5)

-- how the program ends where the words are no command line; help and the version may find no memory, or be cut off
abbrev pub EndsWords : WordsFault → ℕ → Type 0
EndsWords (faults.Help help) n = (n ≡ 0) ⊎ (n ≡ 4)
EndsWords (faults.Version version) n = (n ≡ 0) ⊎ (n ≡ 4)
EndsWords (faults.Refused mistake) n = n ≡ 5
EndsWords faults.BadTop n = n ≡ 5
EndsWords faults.Memory n = n ≡ 4

-- also where a property that is to be ignored or a format is none
abbrev pub EndsRefused : ComparisonFault → ℕ → Type 0
EndsRefused (Words fault) n = EndsWords fault n
EndsRefused BadProperty n = n ≡ 5
EndsRefused BadFormat n = n ≡ 5

-- help is asked for, before anything is wrong
abbrev pub AskForHelp : List (List ℕ) → Type 0
AskForHelp words = mistakes words ≡ DisplayHelp ∷ []

-- the version is asked for, before anything is wrong
abbrev pub AskForVersion : List (List ℕ) → Type 0
AskForVersion words = mistakes words ≡ DisplayVersion ∷ []

-- something is wrong, before help or the version is asked for
abbrev pub AreMistaken : List (List ℕ) → Type 0
AreMistaken words = (kind : ErrorKind) × (kind ≢ DisplayHelp) × (kind ≢ DisplayVersion) × (mistakes words ≡ kind ∷ [])

-- nothing else is wrong than the name of the top, of a property or of a format
abbrev pub HaveBadNames : List (List ℕ) → Type 0
HaveBadNames words = (mistakes words ≡ []) × (HasBadTop (found words) ⊎ (HasBadProperty (found words) ⊎ HasBadFormat (found words)))

abbrev pub AreRefused : List (List ℕ) → Type 0
AreRefused words = AreMistaken words ⊎ HaveBadNames words
