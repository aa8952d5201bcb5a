-- Which text goes where. Own.
use Rattle.std.specs.Prelude.{ℕ, List, [], ◌∷◌, ◌++◌, Bool, true, false, not, ◌||◌, ◌&&◌, is_some, Option, Some, None, filter, option_map, string_bytes, if◌then◌else◌}
use Rattle.std.specs.List.{flat_map}
use Rattle.command_line.specs.Streams.{is_standard_output}
use Rattle.rdl_run.specs.Missing.{has_map, has_header, has_session}
use Rattle.rdl_run.specs.declared.run.Texts.{Texts}
use Rattle.rdl_run.specs.declared.status.Status.{Status}
use Rattle.rdl_run.specs.declared.status.Status.TheVariants.{Accepted}
use Rattle.rdl_run.specs.declared.edited.Edited.{Edited}
use Rattle.rdl_run.specs.declared.edited.Edited.TheVariants.{NotAsked, Woven, Missing}
use Rattle.rdl_run.specs.declared.edited.Unwoven.{Unwoven}
use Rattle.rdl_run.specs.declared.saved.Saved.{Saved}
use Rattle.rdl_run.specs.declared.saved.Saved.TheVariants.{Plain, WithSource, WithoutSource}
use Rattle.regedit.specs.declared.files.Ending.{Ending}
use Rattle.regedit.specs.declared.files.Filed.{Filed}
use Rattle.regedit.specs.declared.paths.Paths.{Paths}
use Rattle.whole_files.specs.declared.output.Output.{Output}

-- the bytes of a path, and those that go out at it
abbrev pub Sent : Type 0
Sent = List ℕ × List ℕ

abbrev pub seen : Filed → Sent
seen filed = (filed.path.now, string_bytes filed.text)

-- the same of a text that is lent
abbrev pub lent : Output → Sent
lent output = (output.path.now, output.text.now)

abbrev pub if_there : Bool → Sent → List Sent
if_there true sent = sent ∷ []
if_there false sent = []

-- the session as it goes out
abbrev pub saved_text : (session : List ℕ) → Saved → List ℕ
saved_text session Plain = session
saved_text session (WithSource text) = string_bytes text
saved_text session WithoutSource = session

-- it goes nowhere where it isn't asked for
abbrev pub session_files : Bool → Option (List ℕ) → List ℕ → List Sent
session_files there (Some path) text = if_there there (path, text)
session_files there None text = []

-- the edited text where it is made
abbrev pub edited_files : Option (List ℕ) → Edited → List Sent
edited_files (Some path) (Woven text) = (path, string_bytes text) ∷ []
edited_files path edited = []

-- the map, then the header, then the session, then the edited text, each where it is there
abbrev pub all_of : Texts → Paths → List Sent
all_of texts paths =
    if_there (has_map texts.status) (string_bytes paths.rdl, string_bytes texts.rdl)
    ++ if_there (has_header texts.status) (string_bytes paths.header, string_bytes texts.header)
    ++ session_files (has_session texts.status) (option_map string_bytes paths.session) (saved_text (string_bytes texts.session) texts.saved)
    ++ edited_files (option_map string_bytes paths.edited) texts.edited

-- why the edited text isn't there that is asked for, if it isn't
abbrev pub unwoven_of : Edited → Option Unwoven
unwoven_of NotAsked = None
unwoven_of (Woven text) = None
unwoven_of (Missing why) = Some why

-- the session goes out without the source text that it is to keep
abbrev pub is_sourceless : Saved → Bool
is_sourceless Plain = false
is_sourceless (WithSource text) = false
is_sourceless WithoutSource = true

abbrev pub ending_of : Texts → Ending
ending_of texts = record { status = texts.status; unwoven = unwoven_of texts.edited; is_sourceless = is_sourceless texts.saved }

-- the edited text is missing, or a source text
abbrev pub lacks_text : Ending → Bool
lacks_text ending = is_some ending.unwoven || ending.is_sourceless

abbrev pub is_accepted : Status → Bool
is_accepted Accepted = true
is_accepted status = false

-- with `strict` no text goes out unless each line was accepted and no text is missing
abbrev pub goes_out : (strict : Bool) → Ending → Bool
goes_out strict ending = not strict || (is_accepted ending.status && not (lacks_text ending))

abbrev pub files_of : (strict : Bool) → Texts → Paths → List Sent
files_of strict texts paths = if goes_out strict (ending_of texts) then all_of texts paths else []

-- those that go to files
abbrev pub to_files : List Sent → List Sent
to_files sent = filter (λ (s : Sent). not (is_standard_output s.0)) sent

-- what goes to standard output
abbrev pub to_output : List Sent → List ℕ
to_output sent = flat_map (λ (s : Sent). if is_standard_output s.0 then s.1 else []) sent
