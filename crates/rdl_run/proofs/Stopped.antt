-- From the parts of a run that stopped to what its outputs hold.
use Rattle.std.proofs.Common.{◌≡◌, ◌≢◌, inl, inr, ℕ, Bool, List, [], ◌++◌, length, take, Option, None, Some, Result, Ok, Err, IfErr, IsErrAnd, IsOkUnless, refl, sym, ap, ◌∙◌, subst, append-nil}
use Rattle.std.specs.Io.KnownBytes.{Appends}
use Rattle.std.proofs.KnownBytes.{Appends-nil, Appends-trans}
use Rattle.std.proofs.Math.Seq.{take-append_seam}
use Rattle.rdl_script.specs.Commands.{lines_of}
use Rattle.rdl_run.specs.Answers.{History', Serves}
use Rattle.rdl_run.specs.ClosedRuns.{ClosesRun, StopsRun, StopsScript, behind}
use Rattle.rdl_run.specs.ClosingTexts.{texts_of}
use Rattle.rdl_run.specs.Faulted.{IsWholeLines, Leaves, LeavesLines, FaultedFrom, Faulted, StopsServing}
use Rattle.rdl_run.specs.Known.{Gives, AppendsFront}
use Rattle.rdl_run.specs.Opening.{EachElaborates, OpensHistory}
use Rattle.rdl_run.specs.Output.{Output, Outputs, outputs}
use Rattle.rdl_run.specs.Sources.{without_source}
use Rattle.rdl_run.specs.declared.closing.Closing.{Closing}
use Rattle.rdl_run.specs.declared.counted.Counts.{Counts}
use Rattle.rdl_run.specs.declared.run.Options.{Options}
use Rattle.rdl_run.specs.declared.status.RunFault.{RunFault}
use Rattle.rdl_run.specs.declared.status.RunFault.TheVariants.{Read, Write, Memory, TooLong, Interrupted}
use Rattle.rdl_run.proofs.Continued.{Continues, continued, has_output}
use Rattle.rdl_run.proofs.WholeLines.{run-whole}
use Rattle.rdl_run.proofs.Written.{AppendsFront-after}

-- the exit of a `?`
pub went : {X : Type 0} (r : Result X RunFault) (f : RunFault) (P : RunFault → Type 0) → IsErrAnd r (λ g. g ≡ f) → P f → IfErr r P
went (Ok x) f P h p = absurd h
went (Err g) f P h p = subst P (sym h) p

abbrev failed : {X : Type 0} → RunFault → Result X RunFault
failed f = Err f

pub not_write : {X : Type 0} (f : RunFault) → failed {X = X} f ≢ failed {X = X} Write → f ≢ Write
not_write {X} f h e = h (ap (λ g. failed {X = X} g) e)

pub memory≢write : Memory ≢ Write
memory≢write = λ e. cc

-- the text at the front of a longer one
front-is : (whole text after : List ℕ) → whole ≡ text ++ after → take (length text) whole ≡ text
front-is whole text after e = ap (take (length text)) e ∙ take-append_seam text after

-- ---- Serving stopped.

module _ (asked : Bool) (first : History') (script : List ℕ) (m m' r h z : Option (List ℕ)) where
  stopped-lines : (served : List (List ℕ)) (text : List ℕ) (refuses : Bool) (last : History') → Serves first served text refuses last → (out : Output) (after : List ℕ)
      → out.messages ≡ text ++ after → Appends m m' text → LeavesLines (outputs m r h z) (outputs m' r h z) out
  stopped-lines served text refuses last s out after e wrote =
      let front = front-is out.messages text after e in
      record {
        len = length text;
        lines = subst IsWholeLines (sym s.text_is ∙ sym front) (run-whole first last served s.replies 1 s.ran);
        messages = subst (Appends m m') (sym front) wrote;
        rdl = refl;
        header = refl;
        session = refl;
      }

  stopped-leaves : (fault : RunFault) (s : StopsServing first (lines_of script) m m' fault) (c : Continues asked first script s.text) → Leaves fault (outputs m r h z) (outputs m' r h z) c.out
  stopped-leaves Memory s c = stopped-lines s.served s.text s.refuses s.last s.serves c.out c.after c.messages s.wrote
  stopped-leaves Write s c = inl (record {
    messages = subst (AppendsFront m m') (sym c.messages) (AppendsFront-after m m m' [] s.text c.after (Appends-nil m) s.wrote);
    rdl = refl;
    header = refl;
    session = refl;
  })
  stopped-leaves Read s c = absurd s.wrote
  stopped-leaves TooLong s c = absurd s.wrote
  stopped-leaves Interrupted s c = absurd s.wrote

  pub stopped_serving : (fault : RunFault) → EachElaborates first → StopsServing first (lines_of script) m m' fault → FaultedFrom asked first script (outputs m r h z) (outputs m' r h z) fault
  stopped_serving fault whole s =
      let c = continued asked first script whole s.served s.rest s.parts s.text s.refuses s.last s.serves in
      record { out = c.out; runs = c.runs; leaves = stopped-leaves fault s c }

  -- all lines were served, and no memory was left to close the run
  pub stopped_closing : (last : History') (refuses : Bool) → EachElaborates first → (text : List ℕ) × Serves first (lines_of script) text refuses last × Appends m m' text
      → FaultedFrom asked first script (outputs m r h z) (outputs m' r h z) Memory
  stopped_closing last refuses whole served =
      stopped_serving Memory whole (record {
        served = lines_of script;
        rest = [];
        parts = sym (append-nil (lines_of script));
        text = served.0;
        refuses = refuses;
        last = last;
        serves = served.1;
        wrote = served.2;
      })

-- no memory was left to close the run
pub stops_closing_if : (asked : Bool) (first last : History') (script : List ℕ) (refuses : Bool) (m m' : Option (List ℕ)) (r : Result Closing RunFault) → EachElaborates first
    → (text : List ℕ) × Serves first (lines_of script) text refuses last × Appends m m' text → IsOkUnless r Memory → IfErr r (StopsScript asked first script m m')
stops_closing_if asked first last script refuses m m' (Ok closing) whole served only = tt
stops_closing_if asked first last script refuses m m' (Err fault) whole served only =
    λ rdl header session. subst (FaultedFrom asked first script (outputs m rdl header session) (outputs m' rdl header session)) (sym only) (stopped_closing asked first script m m' rdl header session last refuses whole served)

-- ---- A write of what closes the run failed.

module _ (replies : List ℕ) (closing : Output) (m mid : Option (List ℕ)) (said : Appends m mid replies) where
  pub leaves_behind : (m' r r' h h' z z' : Option (List ℕ)) → Leaves Write (outputs mid r h z) (outputs m' r' h' z') closing
      → Leaves Write (outputs m r h z) (outputs m' r' h' z') (behind replies closing)
  leaves_behind m' r r' h h' z z' (inl l) = inl (record {
    messages = subst (AppendsFront m m') (ap (λ (t : List ℕ). replies ++ t) (append-nil closing.messages)) (AppendsFront-after m mid m' replies closing.messages [] said l.messages);
    rdl = l.rdl;
    header = l.header;
    session = l.session;
  })
  leaves_behind m' r r' h h' z z' (inr (inl l)) =
      inr (inl (record { messages = Appends-trans m mid m' replies closing.messages said l.messages; rdl = l.rdl; header = l.header; session = l.session }))
  leaves_behind m' r r' h h' z z' (inr (inr (inl l))) =
      inr (inr (inl (record { messages = Appends-trans m mid m' replies closing.messages said l.messages; rdl = l.rdl; header = l.header; session = l.session })))
  leaves_behind m' r r' h h' z z' (inr (inr (inr l))) =
      inr (inr (inr (record { messages = Appends-trans m mid m' replies closing.messages said l.messages; rdl = l.rdl; header = l.header; session = l.session })))

-- the messages alone were written
pub leaves_message : (m m' r h z : Option (List ℕ)) (closing : Output) → AppendsFront m m' closing.messages → Leaves Write (outputs m r h z) (outputs m' r h z) closing
leaves_message m m' r h z closing wrote = inl (record { messages = wrote; rdl = refl; header = refl; session = refl })

-- ---- The whole run.

abbrev given : Option (List ℕ) → List ℕ
given None = []
given (Some bytes) = bytes

gives-given : (known : Option (List ℕ)) → Gives known (given known)
gives-given None = tt
gives-given (Some bytes) = refl

module _ (options : Options) (map script : Option (List ℕ)) where
  unwritten-leaves : (fault : RunFault) (all : Outputs) (out : Output) → fault ≢ Write → Leaves fault all all out
  unwritten-leaves Read all out h = refl
  unwritten-leaves TooLong all out h = refl
  unwritten-leaves Interrupted all out h = refl
  unwritten-leaves Memory all out h = record { len = 0; lines = inl refl; messages = Appends-nil all.messages; rdl = refl; header = refl; session = refl }
  unwritten-leaves Write all out h = absurd (h refl)

  -- nothing was written
  pub unwritten : (fault : RunFault) (all : Outputs) → fault ≢ Write → Faulted options map script all all fault
  unwritten fault all h =
      let o = has_output options (without_source (given map)) (given script) in
      record {
        map_bytes = given map;
        script_bytes = given script;
        map_given = gives-given map;
        script_given = gives-given script;
        out = o.out;
        is_output = o.is_output;
        leaves = unwritten-leaves fault all o.out h;
      }

  -- the script was run from the history that was opened
  pub faulted_script : (map_bytes script_bytes : List ℕ) (first : History') (old new : Outputs) (fault : RunFault) → Gives map map_bytes → Gives script script_bytes
      → OpensHistory options.top options.history (without_source map_bytes) first → FaultedFrom options.session first script_bytes old new fault → Faulted options map script old new fault
  faulted_script map_bytes script_bytes first old new fault p q opens stopped = record {
    map_bytes = map_bytes;
    script_bytes = script_bytes;
    map_given = p;
    script_given = q;
    out = stopped.out;
    is_output = inr (record { first = first; opens = opens; runs = stopped.runs });
    leaves = stopped.leaves;
  }

  -- what closes the run wasn't written whole
  pub failed_closing : (m mid : Option (List ℕ)) (a b : Counts) (closing : Closing) → ClosesRun options map script m mid a b closing → (m' r r' h h' z z' : Option (List ℕ))
      → Leaves Write (outputs mid r h z) (outputs m' r' h' z') (texts_of closing) → Faulted options map script (outputs m r h z) (outputs m' r' h' z') Write
  failed_closing m mid a b closing c m' r r' h h' z z' left = record {
    map_bytes = c.map_bytes;
    script_bytes = c.script_bytes;
    map_given = c.map_given;
    script_given = c.script_given;
    out = behind c.replies (texts_of closing);
    is_output = c.wrote.is_output;
    leaves = leaves_behind c.replies (texts_of closing) m mid c.said m' r r' h h' z z' left;
  }

  pub stops_if : (map_bytes script_bytes : List ℕ) (first : History') (old new : Option (List ℕ)) (r : Result Closing RunFault) → Gives map map_bytes → Gives script script_bytes
      → OpensHistory options.top options.history (without_source map_bytes) first → IfErr r (StopsScript options.session first script_bytes old new) → IfErr r (StopsRun options map script old new)
  stops_if map_bytes script_bytes first old new (Ok closing) p q o stopped = tt
  stops_if map_bytes script_bytes first old new (Err fault) p q o stopped =
      λ rdl header session. faulted_script map_bytes script_bytes first (outputs old rdl header session) (outputs new rdl header session) fault p q o (stopped rdl header session)
