-- From the parts of a run to the whole.
use Rattle.std.proofs.Common.{◌≡◌, inl, inr, ℕ, Bool, List, [], string_bytes, length, Option, Some, Result, Ok, Err, IfOk, refl, sym, subst}
use Rattle.std.proofs.KnownBytes.{Appends-nil, Appends-trans}
use Rattle.std.proofs.lemmas.Str.{IsUtf8-string_bytes}
use Rattle.journal_core.specs.History.{Kept}
use Rattle.rdl_edit.specs.Backs.{Reversal}
use Rattle.rdl_edit.specs.Step.{State}
use Rattle.rdl_run.specs.Answers.{History'}
use Rattle.rdl_script.specs.Commands.{lines_of}
use Rattle.rdl_run.specs.ClosedRuns.{ClosesRun, ClosesScript, behind}
use Rattle.rdl_run.specs.Closing.{Closes}
use Rattle.rdl_run.specs.ClosingTexts.{texts_of}
use Rattle.rdl_run.specs.Known.{Gives}
use Rattle.rdl_run.specs.Opening.{RefusesToOpen}
use Rattle.rdl_run.specs.OwnSteps.{AllOwn, IsOwnSession, OpensKept}
use Rattle.rdl_run.specs.Output.{AreTexts, HaveTaken, Holds, Outputs, Ran, RanCounted, outputs}
use Rattle.rdl_run.specs.RunTexts.{AreRun, AreRunCounted, in_memory}
use Rattle.rdl_run.specs.Sources.{without_source}
use Rattle.rdl_run.specs.Turns.{HasTaken, Tallies, tallies}
use Rattle.rdl_run.specs.Writers.{ServesAll}
use Rattle.rdl_run.specs.declared.closing.Closing.{Closing}
use Rattle.rdl_run.specs.declared.counted.Counts.{Counts}
use Rattle.rdl_run.specs.declared.run.Options.{Options}
use Rattle.rdl_run.specs.declared.run.Texts.{Texts}
use Rattle.rdl_run.specs.declared.status.RunFault.{RunFault}
use Rattle.rdl_run.specs.declared.status.Status.{Status}
use Rattle.rdl_run.specs.declared.status.Status.TheVariants.{MapRefused}
use Rattle.rdl_run.proofs.Tallied.{taken-none, taken-both}

-- the texts of a closing are UTF-8
are-texts : (replies : List ℕ) (closing : Closing) → AreTexts (behind replies (texts_of closing))
are-texts replies closing = record { rdl = IsUtf8-string_bytes closing.rdl; header = IsUtf8-string_bytes closing.header; session = IsUtf8-string_bytes closing.session }

-- the lines of the script were served, and this was made where they led
closes-script : (are_own : Type 0) (asked : Bool) (first last : History') (script : List ℕ) (refuses : Bool) (m m' : Option (List ℕ)) (a b : Counts) (closing : Closing)
    → ServesAll first last (lines_of script) m m' a b refuses
    → Closes asked last refuses (string_bytes closing.message) (string_bytes closing.rdl) (string_bytes closing.header) (string_bytes closing.session) closing.status
    → (are_own → IsOwnSession last (string_bytes closing.session)) → ClosesScript are_own asked first script m m' a b closing
closes-script are_own asked first last script refuses m m' a b closing served closes own = record {
  replies = served.0;
  runs = record {
    last = last;
    refuses = refuses;
    replies = served.0;
    serves = served.1;
    message = string_bytes closing.message;
    closes = closes;
    messages = refl;
  };
  texts = are-texts served.0 closing;
  own = own;
  said = served.2;
  took = served.3;
}

pub closes_script_if : (are_own : Type 0) (asked : Bool) (first last : History') (script : List ℕ) (refuses : Bool) (m m' : Option (List ℕ)) (a b : Counts) (r : Result Closing RunFault)
    → ServesAll first last (lines_of script) m m' a b refuses
    → IfOk r (λ c. Closes asked last refuses (string_bytes c.message) (string_bytes c.rdl) (string_bytes c.header) (string_bytes c.session) c.status)
    → (are_own → IfOk r (λ c. IsOwnSession last (string_bytes c.session))) → IfOk r (ClosesScript are_own asked first script m m' a b)
closes_script_if are_own asked first last script refuses m m' a b (Ok closing) served closes own = closes-script are_own asked first last script refuses m m' a b closing served closes own
closes_script_if are_own asked first last script refuses m m' a b (Err fault) served closes own = tt

-- the map was refused
pub closes_refused : (options : Options) (map script : Option (List ℕ)) (map_bytes script_bytes message : List ℕ) (m : Option (List ℕ)) (a : Counts) (closing : Closing)
    → Gives map map_bytes → Gives script script_bytes → RefusesToOpen options.top (without_source map_bytes) message
    → string_bytes closing.message ≡ message → string_bytes closing.rdl ≡ [] → string_bytes closing.header ≡ [] → string_bytes closing.session ≡ [] → closing.status ≡ MapRefused
    → ClosesRun options map script m m a a closing
closes_refused options map script map_bytes script_bytes message m a closing p q refused said no_rdl no_header no_session status = record {
  map_bytes = map_bytes;
  script_bytes = script_bytes;
  map_given = p;
  script_given = q;
  replies = [];
  wrote = record {
    is_output = inl (record { refused = subst (RefusesToOpen options.top (without_source map_bytes)) (sym said) refused; rdl = no_rdl; header = no_header; session = no_session; status = status });
    texts = are-texts [] closing;
    own = tt;
  };
  said = Appends-nil m;
  took = taken-none a;
}

-- the script was run from what was opened
closes-opened : (options : Options) (map script : Option (List ℕ)) (map_bytes script_bytes : List ℕ) (k : Kept State Reversal) (m m' : Option (List ℕ)) (a b : Counts) (closing : Closing)
    → Gives map map_bytes → Gives script script_bytes → OpensKept options.top options.history (without_source map_bytes) k
    → ClosesScript (AllOwn k) options.session k.history script_bytes m m' a b closing → ClosesRun options map script m m' a b closing
closes-opened options map script map_bytes script_bytes k m m' a b closing p q o c = record {
  map_bytes = map_bytes;
  script_bytes = script_bytes;
  map_given = p;
  script_given = q;
  replies = c.replies;
  wrote = record {
    is_output = inr (record { first = k.history; opens = o.opens; runs = c.runs });
    texts = c.texts;
    own = λ opened. c.own (o.own opened);
  };
  said = c.said;
  took = c.took;
}

pub closes_if : (options : Options) (map script : Option (List ℕ)) (map_bytes script_bytes : List ℕ) (k : Kept State Reversal) (m m' : Option (List ℕ)) (a b : Counts) (r : Result Closing RunFault)
    → Gives map map_bytes → Gives script script_bytes → OpensKept options.top options.history (without_source map_bytes) k
    → IfOk r (ClosesScript (AllOwn k) options.session k.history script_bytes m m' a b) → IfOk r (ClosesRun options map script m m' a b)
closes_if options map script map_bytes script_bytes k m m' a b (Ok closing) p q o c = closes-opened options map script map_bytes script_bytes k m m' a b closing p q o c
closes_if options map script map_bytes script_bytes k m m' a b (Err fault) p q o c = tt

-- ---- What closes a run is written.

module _ (options : Options) (map script m mid : Option (List ℕ)) (a b : Counts) (closing : Closing) (c : ClosesRun options map script m mid a b closing) where
  pub ran_all : (m' r r' h h' z z' : Option (List ℕ)) (status : Status) → Holds (outputs mid r h z) (outputs m' r' h' z') status (texts_of closing)
      → Ran options map script (outputs m r h z) (outputs m' r' h' z') status
  ran_all m' r r' h h' z z' status w = record {
    map_bytes = c.map_bytes;
    script_bytes = c.script_bytes;
    map_given = c.map_given;
    script_given = c.script_given;
    out = behind c.replies (texts_of closing);
    wrote = c.wrote;
    holds = record {
      messages = Appends-trans m mid m' c.replies (string_bytes closing.message) c.said w.messages;
      rdl = w.rdl;
      header = w.header;
      session = w.session;
      answer = w.answer;
    };
  }

  -- with what the outputs took
  pub ran_counted : (m' r r' h h' z z' : Option (List ℕ)) (status : Status) (rdl header session : Counts) (counts : Tallies) → Holds (outputs mid r h z) (outputs m' r' h' z') status (texts_of closing)
      → HaveTaken (tallies b rdl header session) counts (texts_of closing)
      → RanCounted options map script (outputs m r h z) (outputs m' r' h' z') (tallies a rdl header session) counts status
  unfolding ran_all
  ran_counted m' r r' h h' z z' status rdl header session counts w took = record {
    ran = ran_all m' r r' h h' z z' status w;
    took = record { messages = taken-both a b counts.messages c.replies (string_bytes closing.message) c.took took.messages; rdl = took.rdl; header = took.header; session = took.session };
  }

  -- the same of a run whose texts are handed out
  pub texts_counted : (m' : Option (List ℕ)) (counts : Counts) (texts : Texts)
      → Holds (outputs mid (Some []) (Some []) (Some [])) (in_memory m' (string_bytes texts.rdl) (string_bytes texts.header) (string_bytes texts.session)) texts.status (texts_of closing)
      → HasTaken b counts (length (string_bytes closing.message))
      → AreRunCounted options map script m m' a counts texts
  unfolding ran_all
  texts_counted m' counts texts w took = record {
    run = ran_all m' (Some []) (Some (string_bytes texts.rdl)) (Some []) (Some (string_bytes texts.header)) (Some []) (Some (string_bytes texts.session)) texts.status w;
    took = taken-both a b counts c.replies (string_bytes closing.message) c.took took;
  }

-- the run without the counts
pub uncounted : {X : Type 0} (options : Options) (map script : Option (List ℕ)) (old new : Outputs) (a b : Tallies) (r : Result Status X)
    → IfOk r (RanCounted options map script old new a b) → IfOk r (Ran options map script old new)
uncounted options map script old new a b (Ok status) c = c.ran
uncounted options map script old new a b (Err fault) c = tt

pub texts_uncounted : {X : Type 0} (options : Options) (map script old new : Option (List ℕ)) (a b : Counts) (r : Result Texts X)
    → IfOk r (AreRunCounted options map script old new a b) → IfOk r (AreRun options map script old new)
texts_uncounted options map script old new a b (Ok texts) c = c.run
texts_uncounted options map script old new a b (Err fault) c = tt
