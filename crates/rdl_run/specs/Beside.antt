-- What a run makes beside its output: the edited text, and its session as it goes out. Own.
use Rattle.std.specs.Prelude.{◌≡◌, ◌⊎◌, ◌&&◌, ℕ, List, Option, string_bytes}
use Rattle.rdl_run.specs.Answers.{History'}
use Rattle.rdl_run.specs.Edited.{EditsScript}
use Rattle.rdl_run.specs.Known.{Gives}
use Rattle.rdl_run.specs.Missing.{has_session}
use Rattle.rdl_run.specs.Opening.{OpensHistory}
use Rattle.rdl_run.specs.Saved.{IsKept}
use Rattle.rdl_run.specs.Sources.{kept_source, source_of, without_source}
use Rattle.rdl_run.specs.declared.edited.Edited.{Edited}
use Rattle.rdl_run.specs.declared.edited.Edited.TheVariants.{NotAsked}
use Rattle.rdl_run.specs.declared.run.Options.{Options}
use Rattle.rdl_run.specs.declared.saved.Saved.{Saved}
use Rattle.rdl_run.specs.declared.status.Status.{Status}
use Rattle.rdl_run.specs.declared.status.Status.TheVariants.{MapRefused}

-- the map or session is refused, and there is no edited text
abbrev pub RefusesEdited : Status → Edited → Type 0
RefusesEdited status edited = (status ≡ MapRefused) × (edited ≡ NotAsked)

-- it is opened, and the script leads to the edited text
pub record EditsOpened (options : Options) (map script canonical : List ℕ) (edited : Edited) : Type 0 where
  pub first : History'
  pub opens : OpensHistory options.top options.history (without_source map) first
  pub edits : EditsScript options.edited first script (source_of map) canonical edited

-- what a run makes that ends so, on bytes that are the readers' where those are known
pub record MakesBeside (options : Options) (map script : Option (List ℕ)) (status : Status) (canonical session : List ℕ) (edited : Edited) (saved : Saved) : Type 0 where
  pub map_bytes : List ℕ
  pub script_bytes : List ℕ
  pub map_given : Gives map map_bytes
  pub script_given : Gives script script_bytes
  pub edited_is : RefusesEdited status edited ⊎ EditsOpened options map_bytes script_bytes canonical edited
  pub saved_is : IsKept (kept_source (options.session && has_session status) options.edited map_bytes) session saved
