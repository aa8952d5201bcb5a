-- When a run or a comparison does what a case wants of it. Own.
use Rattle.std.specs.Prelude.{◌≡◌, ℕ, false, List, [], ◌∷◌, ◌++◌, Option, None, Some}
use denote.Ref.{Bor}
use Rattle.cases.specs.Exit.{status_code, comparison_code}
use Rattle.cases.specs.declared.case.Wanted.{Wanted}
use Rattle.cases.specs.declared.found.End.{End}
use Rattle.cases.specs.declared.found.End.TheVariants.{Ended, Compared, Stopped, BadTop}
use Rattle.cases.specs.declared.found.Found.{Found}

-- it ended, with this exit status
abbrev pub EndsWith : End → ℕ → Type 0
EndsWith (Ended status) n = status_code status ≡ n
EndsWith (Compared status) n = comparison_code status ≡ n
EndsWith (Stopped fault) n = ⊥
EndsWith BadTop n = ⊥

-- a text is these lines with their last line feed; where there is no line, it is empty
abbrev pub HasLines : List ℕ → Option (Bor (List ℕ)) → Type 0
HasLines text None = text ≡ []
HasLines text (Some lines) = text ≡ lines.now ++ 10 ∷ []

-- a text has the lines that are wanted; where nothing is said of it, it may be any
abbrev pub IsWanted : List ℕ → Option (Option (Bor (List ℕ))) → Type 0
IsWanted text None = Unit {0}
IsWanted text (Some lines) = HasLines text lines

-- a text is the whole text that is wanted; where nothing is said of it, it may be any
abbrev pub IsWantedWhole : List ℕ → Option (Bor (List ℕ)) → Type 0
IsWantedWhole text None = Unit {0}
IsWantedWhole text (Some wanted) = text ≡ wanted.now

-- it ended as is wanted, and each text is as it is wanted
pub record IsMet (found : Found) (wanted : Wanted) (status : ℕ) : Type 0 where
  pub ends : EndsWith found.end status
  pub prints : IsWanted found.messages.items wanted.prints
  pub writes : IsWanted found.rdl.items wanted.writes
  pub header : IsWanted found.header.items wanted.header
  pub session : IsWanted found.session.items wanted.session
  pub saved : IsWanted found.saved.items wanted.saved
  pub edited : IsWantedWhole found.edited.items wanted.edited
  pub woven : found.is_unwoven ≡ false
  pub goes_on : found.goes_astray ≡ false
