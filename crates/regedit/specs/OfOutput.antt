-- That texts are those of an output of a run, before they go out. Own.
use Rattle.std.specs.Prelude.{◌≡◌, ℕ, true, List, map, Option, IfSome, string_bytes}
use Rattle.rdl_run.specs.Output.{Output, IsOutput}
use Rattle.rdl_run.specs.declared.run.Options.{Options}
use Rattle.rdl_run.specs.declared.run.Texts.{Texts}
use Rattle.rdl_run.specs.declared.status.Status.{Status}
use Rattle.rdl_run.specs.Beside.{MakesBeside}
use Rattle.regedit.specs.Files.{ending_of, files_of, seen}
use Rattle.regedit.specs.declared.files.Ending.{Ending}
use Rattle.regedit.specs.declared.files.Left.{Left}
use Rattle.regedit.specs.declared.paths.Asked.{Asked}

-- the texts and the status are those of an output of some map and script
pub record AreOfOutput (options : Options) (texts : Texts) : Type 0 where
  pub map : List ℕ
  pub script : List ℕ
  pub out : Output
  pub is_output : IsOutput options map script out
  pub rdl : string_bytes texts.rdl ≡ out.rdl
  pub header : string_bytes texts.header ≡ out.header
  pub session : string_bytes texts.session ≡ out.session
  pub status : texts.status ≡ out.status
  pub of_map : Option (List ℕ)
  pub of_script : Option (List ℕ)
  pub beside : MakesBeside options of_map of_script texts.status (string_bytes texts.rdl) (string_bytes texts.session) texts.edited texts.saved

-- such texts go out, each at its path, and the ending is theirs
pub record IsLeft (asked : Asked) (left : Left) : Type 0 where
  pub texts : Texts
  pub of_output : AreOfOutput asked.options texts
  pub outputs : map seen left.outputs.items ≡ files_of asked.strict texts asked.paths
  pub ending : left.ending ≡ ending_of texts

-- the status is that of an output of some map and script, an edited text is missing only where it is asked for, and a source text
-- only of a session that is
pub record IsEndingOf (options : Options) (ending : Ending) : Type 0 where
  pub map : List ℕ
  pub script : List ℕ
  pub out : Output
  pub is_output : IsOutput options map script out
  pub is : ending.status ≡ out.status
  pub unwoven : IfSome ending.unwoven (λ why. options.edited ≡ true)
  pub sourceless : ending.is_sourceless ≡ true → options.session ≡ true
