-- From the bytes that were read to what a run makes beside its output.
use Rattle.std.proofs.Common.{◌≡◌, ◌⊎◌, ◌∙◌, ap, inl, inr, ℕ, Bool, true, false, List, Option, Some, None, Result, Ok, Err, IfOk, refl, string_bytes, subst, sym}
use Rattle.std.proofs.Common.{arith}
use Rattle.std.proofs.lemmas.Bool.{false≢true}
use Rattle.std.specs.Prelude.{◌&&◌, IsTrue, IsUtf8, MatchResult, String}
use Rattle.std.specs.declared.alloc.Global.{Global}
use Rattle.journal_core.specs.History.{IsAt}
use Rattle.rdl_edit.specs.Step.{State}
use Rattle.rdl_origin.specs.Numbered.{origins_of}
use Rattle.rdl_origin.specs.Traces.{Traces}
use Rattle.rdl_script.specs.Commands.{lines_of}
use Rattle.rdl_tree.specs.declared.patch.Patch.{Patch}
use Rattle.rdl_tree.specs.Limits.{IsWithinLimits}
use Rattle.rdl_round.specs.Writable.{IsWritable}
use Rattle.rdl_write.specs.MapText.{map_text}
use Rattle.rdl_origin.specs.Values.{AreValues}
use Rattle.rdl_weave.specs.Sound.{IsSound}
use Rattle.rdl_weave.specs.Spelled.{SpellsAs}
use Rattle.rdl_source.proofs.Every.{every_map}
use Rattle.rdl_weave.specs.Weaving.{AreStatements, IsWoven}
use Rattle.rdl_weave.proofs.Fitting.{sources_sound}
use Rattle.rdl_run.proofs.LedBack.{AreOf, IsLed, led_from}
use Rattle.rdl_weave.specs.declared.fault.WeaveFault.{WeaveFault}
use Rattle.rdl_weave.specs.declared.fault.WeaveFault.TheVariants.{Memory as WeaveMemory, TooLong as WeaveTooLong, NotWoven as WeaveNotWoven}
use Rattle.rdl_run.specs.Answers.{History'}
use Rattle.rdl_run.specs.Beside.{MakesBeside}
use Rattle.rdl_run.specs.Closing.{Closes}
use Rattle.rdl_run.specs.Edited.{EditsScript, IsEdited, IsLeft, IsMade, IsMissing, IsSame, IsTaken, KeepsUntouched, SpellsFirst, all_led_back, are_all_placed}
use Rattle.rdl_run.specs.Known.{Gives}
use Rattle.rdl_run.specs.Missing.{has_session}
use Rattle.rdl_run.specs.Opening.{OpensHistory}
use Rattle.rdl_run.specs.Saved.{IsKept}
use Rattle.rdl_run.specs.Sessions.{LeadBack}
use Rattle.rdl_run.specs.Sources.{kept_source, source_of, without_source}
use Rattle.rdl_run.specs.Writers.{ServesAll}
use Rattle.rdl_run.specs.declared.closing.Closing.{Closing}
use Rattle.rdl_run.specs.declared.counted.Counts.{Counts}
use Rattle.rdl_run.specs.declared.edited.Edited.{Edited}
use Rattle.rdl_run.specs.declared.edited.Edited.TheVariants.{NotAsked, Woven, Missing}
use Rattle.rdl_run.specs.declared.edited.Unwoven.{Unwoven}
use Rattle.rdl_run.specs.declared.edited.Unwoven.TheVariants.{TooLong, NotWoven, NoSource}
use Rattle.rdl_run.specs.declared.run.Options.{Options}
use Rattle.rdl_run.specs.declared.saved.Saved.{Saved}
use Rattle.rdl_run.specs.declared.saved.Saved.TheVariants.{Plain}
use Rattle.rdl_run.specs.declared.status.RunFault.{RunFault}
use Rattle.rdl_run.specs.declared.status.Status.{Status}
use Rattle.rdl_run.specs.declared.status.Status.TheVariants.{MapRefused}

-- ---- What is taken of a woven text.

same_state : (a b : State) → ◌≡◌ {A = Option State} (Some a) (Some b) → a ≡ b
same_state a b e = cc

-- bytes that are no text are no text of a map
pub no_text : (h : History') (source canonical : List ℕ) → (IsUtf8 source → ⊥) → IsMissing h source canonical NotWoven
no_text h source canonical n = λ now at w e s. n s.is_text

abbrev Texts : Type 0
Texts = Result (String Global) WeaveFault

-- what is woven by the steps that lead back keeps what no edit touched
keeps-untouched : (h : History') (now : State) (steps : List (List Patch)) (origins : Traces) (source text : List ℕ) → IsAt h now → LeadBack h steps
    → origins ≡ all_led_back steps (origins_of now.description) → (text ≡ source) ⊎ IsWoven source origins now.description text → (text ≡ source) ⊎ KeepsUntouched h source text
keeps-untouched h now steps origins source text at back are (inl same) = inl same
keeps-untouched h now steps origins source text at back are (inr woven) =
    inr (record { now = now; at = at; steps = steps; back = back; woven = subst (λ o. IsWoven source o now.description text) are woven })

module _ (h : History') (now : State) (steps : List (List Patch)) (origins : Traces) (whole : Bool) (source canonical : List ℕ) (at : IsAt h now) (back : LeadBack h steps)
    (are : IsTrue whole → origins ≡ all_led_back steps (origins_of now.description)) (placed : whole ≡ are_all_placed steps (origins_of now.description)) where
  made-text : (text taken : String Global) → SpellsAs canonical (string_bytes text) → (string_bytes text ≡ source) ⊎ IsWoven source origins now.description (string_bytes text)
      → taken ≡ text → (whole ≡ true) ⊎ (string_bytes text ≡ source) → IsMade h source canonical (Woven taken)
  made-text text taken reads woven same (inl w) =
      subst (λ (t : String Global). IsMade h source canonical (Woven t)) (sym same) (reads, keeps-untouched h now steps origins source (string_bytes text) at back (are w) woven)
  made-text text taken reads woven same (inr s) = subst (λ (t : String Global). IsMade h source canonical (Woven t)) (sym same) (reads, inl s)

  led : IsWritable now.description → IsLed h.states now.description steps (origins_of now.description)
  led w = led_from h now steps at back (omega (arith, w.within.many))

  same_now : (other : State) → IsAt h other → other ≡ now
  same_now other k = same_state other now (sym k ∙ at)

  all_led : IsWritable now.description → whole ≡ true
  all_led w = placed ∙ (led w).placed

  -- a text that can't be taken, though all steps led back
  not_led : whole ≡ false → IsMissing h source canonical NotWoven
  not_led e = λ other k w f s. false≢true (sym e ∙ all_led (subst (λ (q : State). IsWritable q.description) (same_now other k) w))

  sound : IsWritable now.description → map_text now.description ≡ canonical → SpellsFirst h source → IsSound source origins now.description canonical
  sound w f s =
      let l = led w in
      let same : l.first ≡ s.first = same_state l.first s.first (sym l.at ∙ s.at) in
      let is : origins ≡ all_led_back steps (origins_of now.description) = are (all_led w) in
      let of = subst (λ t. AreOf now.description t l.first.description) (sym is) l.of in
      let values = subst (λ (q : State). AreValues 0 now.description origins q.description) same of.values in
      let all = every_map source s.spelled.ws s.first.description s.places s.is_text s.spelled.has_words s.spelled in
      let laid : AreStatements source all.0 =
      record { words = s.spelled.ws; map = s.first.description; places = s.places; has_words = s.spelled.has_words; spelled = s.spelled; laid_out = all.1 } in
      sources_sound source canonical all.0 origins now.description laid s.is_text s.within w f values of.once

  left : (fault : WeaveFault) (edited : Edited) → (fault ≡ WeaveNotWoven → IsSound source origins now.description canonical → ⊥) → IsLeft fault edited → IsMade h source canonical edited
  left WeaveMemory edited refused taken = absurd taken
  left WeaveTooLong edited refused taken = subst (IsMade h source canonical) (sym taken) tt
  left WeaveNotWoven edited refused taken =
      subst (IsMade h source canonical) (sym taken)
      (λ other k w f s.
      let same = same_now other k in
      refused refl (sound (subst (λ (q : State). IsWritable q.description) same w) (ap (λ (q : State). map_text q.description) (sym same) ∙ f) s))

  made : (r : Texts) (edited : Edited) → IfOk r (λ text. SpellsAs canonical (string_bytes text)) → IfOk r (λ text. (string_bytes text ≡ source) ⊎ IsWoven source origins now.description (string_bytes text))
      → (r ≡ Err WeaveNotWoven → IsSound source origins now.description canonical → ⊥) → IsTaken whole source r edited → IsMade h source canonical edited
  made (Ok text) NotAsked reads woven refused taken = absurd taken
  made (Ok text) (Woven t) reads woven refused taken = made-text text t reads woven taken.0 taken.1
  made (Ok text) (Missing why) reads woven refused taken = subst (IsMissing h source canonical) (sym taken.0) (not_led taken.1)
  made (Err fault) edited reads woven refused taken = left fault edited (λ e. refused (ap Err e)) taken

  pub made_if : (r : Texts) (answer : Result Edited RunFault) → IfOk r (λ text. SpellsAs canonical (string_bytes text))
      → IfOk r (λ text. (string_bytes text ≡ source) ⊎ IsWoven source origins now.description (string_bytes text)) → (r ≡ Err WeaveNotWoven → IsSound source origins now.description canonical → ⊥)
      → IfOk answer (IsTaken whole source r) → IfOk answer (IsMade h source canonical)
  made_if r (Ok edited) reads woven refused taken = made r edited reads woven refused taken
  made_if r (Err fault) reads woven refused taken = tt

module _ (whole : Bool) (source canonical : List ℕ) where
  same : (r : Texts) (edited : Edited) → (SpellsAs canonical source → MatchResult r (λ text. string_bytes text ≡ source) (λ fault. fault ≡ WeaveMemory)) → IsTaken whole source r edited → IsSame source canonical edited
  same (Ok text) NotAsked weaves taken = absurd taken
  same (Ok text) (Woven t) weaves taken = λ spells. ap string_bytes taken.0 ∙ weaves spells
  same (Ok text) (Missing why) weaves taken = λ spells. absurd (taken.2 (weaves spells))
  same (Err fault) edited weaves taken = λ spells. absurd (subst (λ f. IsLeft f edited) (weaves spells) taken)

  pub same_if : (r : Texts) (answer : Result Edited RunFault) → (SpellsAs canonical source → MatchResult r (λ text. string_bytes text ≡ source) (λ fault. fault ≡ WeaveMemory))
      → IfOk answer (IsTaken whole source r) → IfOk answer (IsSame source canonical)
  same_if r (Ok edited) weaves taken = same r edited weaves taken
  same_if r (Err fault) weaves taken = tt

-- ---- From the bytes that were read.

module _ (asked saved : Bool) (first last : History') (script : List ℕ) (source : Option (List ℕ)) (refuses : Bool) (m m' : Option (List ℕ)) (a b : Counts) where
  -- how a run closes, whose map is the one of the edited text
  abbrev pub ClosesAt : Closing → Type 0
  ClosesAt c = Closes saved last refuses (string_bytes c.message) (string_bytes c.rdl) (string_bytes c.header) (string_bytes c.session) c.status

  pub edits_script_if : (r : Result Closing RunFault) → ServesAll first last (lines_of script) m m' a b refuses → IfOk r ClosesAt → IfOk r (λ c. IsEdited asked last source (string_bytes c.rdl) c.edited)
      → IfOk r (λ c. EditsScript asked first script source (string_bytes c.rdl) c.edited)
  edits_script_if (Ok closing) served closes is = record {
    last = last;
    replies = served.0;
    refuses = refuses;
    serves = served.1;
    now = closes.now;
    at = closes.at;
    spelled = sym closes.rdl_is;
    is = is;
  }
  edits_script_if (Err fault) served closes is = tt

module _ (options : Options) (map script : Option (List ℕ)) (map_bytes script_bytes : List ℕ) (of_map : Gives map map_bytes) (of_script : Gives script script_bytes) where
  -- what a closing has is so of what a run makes beside its output
  abbrev pub Makes : Closing → Type 0
  Makes c = MakesBeside options map script c.status (string_bytes c.rdl) (string_bytes c.session) c.edited c.saved

  pub makes_if : (first : History') (r : Result Closing RunFault) → OpensHistory options.top options.history (without_source map_bytes) first
      → IfOk r (λ c. EditsScript options.edited first script_bytes (source_of map_bytes) (string_bytes c.rdl) c.edited)
      → IfOk r (λ c. IsKept (kept_source (options.session && has_session c.status) options.edited map_bytes) (string_bytes c.session) c.saved) → IfOk r Makes
  makes_if first (Ok closing) opens edits kept = record {
    map_bytes = map_bytes;
    script_bytes = script_bytes;
    map_given = of_map;
    script_given = of_script;
    edited_is = inr (record { first = first; opens = opens; edits = edits });
    saved_is = kept;
  }
  makes_if first (Err fault) opens edits kept = tt

  -- where the map is refused no session is saved
  not-kept : (saved edited : Bool) (status : Status) → status ≡ MapRefused → kept_source (saved && has_session status) edited map_bytes ≡ None
  not-kept true edited status is = subst (λ s. kept_source (has_session s) edited map_bytes ≡ None) (sym is) refl
  not-kept false edited status is = refl

  pub makes_none : (closing : Closing) → closing.status ≡ MapRefused → closing.edited ≡ NotAsked → closing.saved ≡ Plain → Makes closing
  makes_none closing refused none plain = record {
    map_bytes = map_bytes;
    script_bytes = script_bytes;
    map_given = of_map;
    script_given = of_script;
    edited_is = inl (refused, none);
    saved_is = subst (λ source. IsKept source (string_bytes closing.session) closing.saved) (sym (not-kept options.session options.edited closing.status refused)) plain;
  }
