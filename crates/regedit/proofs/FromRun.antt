-- From a run that hands out its texts to what it leaves.
use Rattle.std.specs.Prelude.{◌&&◌}
use Rattle.std.proofs.Common.{◌≡◌, ◌∙◌, ℕ, Bool, true, false, List, map, Option, Some, None, IfSome, Result, Ok, Err, IfOk, inl, inr, refl, sym, ap, subst, string_bytes}
use Rattle.rdl_run.specs.Answers.{History'}
use Rattle.rdl_run.specs.Beside.{MakesBeside}
use Rattle.rdl_run.specs.Edited.{IsEdited}
use Rattle.rdl_run.specs.Missing.{has_session}
use Rattle.rdl_run.specs.RunTexts.{AreRun}
use Rattle.rdl_run.specs.Saved.{IsKept}
use Rattle.rdl_run.specs.Sources.{kept_source, without_source}
use Rattle.rdl_run.specs.declared.edited.Edited.{Edited}
use Rattle.rdl_run.specs.declared.edited.Unwoven.{Unwoven}
use Rattle.rdl_run.specs.declared.run.Options.{Options}
use Rattle.rdl_run.specs.declared.run.Texts.{Texts}
use Rattle.rdl_run.specs.declared.saved.Saved.{Saved}
use Rattle.rdl_run.specs.declared.status.Status.{Status}
use Rattle.regedit.specs.Files.{ending_of, files_of, is_sourceless, seen, unwoven_of}
use Rattle.regedit.specs.OfOutput.{AreOfOutput, IsEndingOf, IsLeft}
use Rattle.regedit.specs.declared.files.Ending.{Ending}
use Rattle.regedit.specs.declared.files.Left.{Left}
use Rattle.regedit.specs.declared.paths.Asked.{Asked}

-- what such a run makes beside its output
abbrev Makes : Options → (of_map of_script : Option (List ℕ)) → Texts → Type 0
Makes options of_map of_script texts = MakesBeside options of_map of_script texts.status (string_bytes texts.rdl) (string_bytes texts.session) texts.edited texts.saved

of_output : (options : Options) (of_map of_script old new : Option (List ℕ)) (texts : Texts) → AreRun options of_map of_script old new texts
    → Makes options of_map of_script texts → AreOfOutput options texts
of_output options of_map of_script old new texts ran beside = record {
  map = without_source ran.map_bytes;
  script = ran.script_bytes;
  out = ran.out;
  is_output = ran.wrote.is_output;
  rdl = ran.holds.rdl;
  header = ran.holds.header;
  session = ran.holds.session;
  status = ran.holds.answer;
  of_map = of_map;
  of_script = of_script;
  beside = beside;
}

is_left : (asked : Asked) (of_map of_script old new : Option (List ℕ)) (texts : Texts) (left : Left)
    → AreRun asked.options of_map of_script old new texts → Makes asked.options of_map of_script texts → left.ending ≡ ending_of texts
    → map seen left.outputs.items ≡ files_of asked.strict texts asked.paths → IsLeft asked left
is_left asked of_map of_script old new texts left ran beside ending outputs = record {
  texts = texts;
  of_output = of_output asked.options of_map of_script old new texts ran beside;
  outputs = outputs;
  ending = ending;
}

if-any : (o : Option Unwoven) (asked : Bool) → asked ≡ true → IfSome o (λ why. asked ≡ true)
if-any None asked is = tt
if-any (Some why) asked is = is

-- an edited text that isn't asked for isn't missing
unwoven-asked : (asked : Bool) (last : History') (source : Option (List ℕ)) (canonical : List ℕ) (edited : Edited) → IsEdited asked last source canonical edited
    → IfSome (unwoven_of edited) (λ why. asked ≡ true)
unwoven-asked true last source canonical edited is = if-any (unwoven_of edited) true refl
unwoven-asked false last source canonical edited is = subst (λ e. IfSome (unwoven_of e) (λ why. false ≡ true)) (sym is) tt

unwoven-of : (options : Options) (of_map of_script : Option (List ℕ)) (texts : Texts) → Makes options of_map of_script texts → IfSome (unwoven_of texts.edited) (λ why. options.edited ≡ true)
unwoven-of options of_map of_script texts of = elim of.edited_is [
  | inl none ↦ subst (λ e. IfSome (unwoven_of e) (λ why. options.edited ≡ true)) (sym none.1) tt
  | inr opened ↦ unwoven-asked options.edited opened.edits.last _ (string_bytes texts.rdl) texts.edited opened.edits.is
]

-- nor is a source text of a session that isn't
sourceless-asked : (asked there edited : Bool) (bytes session : List ℕ) (saved : Saved) → IsKept (kept_source (asked && there) edited bytes) session saved
    → is_sourceless saved ≡ true → asked ≡ true
sourceless-asked true there edited bytes session saved is less = refl
sourceless-asked false there edited bytes session saved is less = absurd (false-is (ap is_sourceless (sym is) ∙ less))
  where
    false-is : false ≡ true → ⊥
    false-is e = cc

-- what is left ends as an output
pub is_ending_of : (asked : Asked) (left : Left) → IsLeft asked left → IsEndingOf asked.options left.ending
is_ending_of asked left it = record {
  map = it.of_output.map;
  script = it.of_output.script;
  out = it.of_output.out;
  is_output = it.of_output.is_output;
  is = ap (λ (e : Ending). e.status) it.ending ∙ it.of_output.status;
  unwoven = subst (λ (e : Ending). IfSome e.unwoven (λ why. asked.options.edited ≡ true)) (sym it.ending)
      (unwoven-of asked.options it.of_output.of_map it.of_output.of_script it.texts it.of_output.beside);
  sourceless = subst (λ (e : Ending). e.is_sourceless ≡ true → asked.options.session ≡ true) (sym it.ending)
      (sourceless-asked asked.options.session (has_session it.texts.status) asked.options.edited it.of_output.beside.map_bytes (string_bytes it.texts.session) it.texts.saved it.of_output.beside.saved_is);
}

-- where there is something left, it is so
pub have_left : {X : Type 0} (asked : Asked) (of_map of_script old new : Option (List ℕ)) (texts : Texts) (r : Result Left X)
    → AreRun asked.options of_map of_script old new texts → Makes asked.options of_map of_script texts
    → IfOk r (λ left. left.ending ≡ ending_of texts)
    → IfOk r (λ left. map seen left.outputs.items ≡ files_of asked.strict texts asked.paths) → IfOk r (IsLeft asked)
have_left asked of_map of_script old new texts (Ok left) ran beside ending outputs = is_left asked of_map of_script old new texts left ran beside ending outputs
have_left asked of_map of_script old new texts (Err stop) ran beside ending outputs = tt
