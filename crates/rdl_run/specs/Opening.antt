-- Opening a map or a session: from its bytes to the history that begins there, or the one message of a refusal. Own.
use Rattle.std.specs.Prelude.{◌≡◌, ◌⊎◌, ◌<◌, ℕ, true, false, List, [], ◌∷◌, length, Option, None, Some, Err}
use Rattle.rdl_edit.specs.Step.{State, HasRows, Leads}
use Rattle.rdl_elab.specs.Faults.{elaborated}
use Rattle.rdl_parse.specs.Places.{Located, place_at}
use Rattle.rdl_parse.specs.declared.fault.ParseFault.{ParseFault}
use Rattle.rdl_text.specs.Place.{line, column}
use Rattle.rdl_rewrite.specs.declared.edit.Edit.{Edit}
use Rattle.rdl_tree.specs.Items.{Items}
use Rattle.rdl_tree.specs.declared.fault.Fault.{Fault}
use Rattle.rdl_run.specs.Answers.{History'}
use Rattle.rdl_run.specs.Messages.{map_line, parse_fault_text, fault_text}
use Rattle.rdl_run.specs.Readings.{ReadsMap, RefusesMap}
use Rattle.rdl_run.specs.Sessions.{OpensSession, RefusedSession, is_session}

-- a message at a place, or at 1:1 where it is of the whole map
abbrev pub line_at : Option (ℕ × ℕ) → List ℕ → List ℕ
line_at None what = map_line 1 1 what
line_at (Some place) what = map_line place.0 place.1 what

-- the message of a fault of the text, at its byte
abbrev pub text_line : List ℕ → ParseFault → List ℕ
text_line bytes fault = map_line (line bytes fault.offset) (column bytes fault.offset) (parse_fault_text fault.kind)

-- the message of a fault of the description, at its item's word
abbrev pub fault_line : Located → Fault → List ℕ
fault_line places fault = line_at (place_at fault.address places) (fault_text fault.kind)

-- the bytes spell a map without a fault
pub record Opens (option : Option (List ℕ)) (bytes : List ℕ) (s : State) : Type 0 where
  pub places : Located
  pub read : ReadsMap bytes s.description places
  pub whole : HasRows s
  pub same_option : s.option ≡ option

-- a history of the map alone; each step that it will have is its own
abbrev pub one_map : (limit : ℕ) → State → History'
one_map limit s = record { limit = limit; states = s ∷ []; place = 0; own = true }

pub record OpensMap (option : Option (List ℕ)) (limit : ℕ) (bytes : List ℕ) (h : History') : Type 0 where
  pub unnamed : is_session bytes ≡ false
  pub first : State
  pub opens : Opens option bytes first
  pub opened : h ≡ one_map limit first

-- the history that a map or a session opens
abbrev pub OpensHistory : Option (List ℕ) → ℕ → List ℕ → History' → Type 0
OpensHistory option limit bytes h = OpensMap option limit bytes h ⊎ OpensSession option limit bytes h

-- each place of a history has a map that elaborates
abbrev pub AllHaveRows : List State → Type 0
AllHaveRows [] = Unit {0}
AllHaveRows (s ∷ ss) = HasRows s × AllHaveRows ss

-- an accepted edit leads from one map to the other
pub record IsEdited (old new : State) : Type 0 where
  pub edit : Edit
  pub led : Leads old edit new

-- from each map of a list to the next
abbrev pub AreEdited : List State → Type 0
AreEdited [] = Unit {0}
AreEdited (s ∷ []) = Unit {0}
AreEdited (s ∷ t ∷ ss) = IsEdited s t × AreEdited (t ∷ ss)

-- and where its steps are all its own, edits led from each place to the next
pub record EachElaborates (h : History') : Type 0 where
  pub inside : h.place < length h.states
  pub rows : AllHaveRows h.states
  pub edited : h.own ≡ true → AreEdited h.states

-- ---- Refusing to open.

-- the bytes of a map aren't read
pub record RefusedText (bytes : List ℕ) (message : List ℕ) : Type 0 where
  pub fault : ParseFault
  pub refused : RefusesMap bytes fault
  pub is : message ≡ text_line bytes fault

-- they spell a map that has a fault
pub record RefusedMap (option : Option (List ℕ)) (bytes : List ℕ) (message : List ℕ) : Type 0 where
  pub d : Items
  pub places : Located
  pub read : ReadsMap bytes d places
  pub fault : Fault
  pub first : elaborated d option ≡ Err fault
  pub is : message ≡ fault_line places fault

pub record RefusesToOpenMap (option : Option (List ℕ)) (bytes : List ℕ) (message : List ℕ) : Type 0 where
  pub unnamed : is_session bytes ≡ false
  pub refused : RefusedText bytes message ⊎ RefusedMap option bytes message

abbrev pub RefusesToOpen : Option (List ℕ) → List ℕ → List ℕ → Type 0
RefusesToOpen option bytes message = RefusesToOpenMap option bytes message ⊎ RefusedSession option bytes message
