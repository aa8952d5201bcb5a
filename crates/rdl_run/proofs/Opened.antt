-- A map or a session that is opened, and a session that is refused.
use Rattle.std.proofs.Common.{◌≡◌, ◌≢◌, true, false, length, ◌⊎◌, inl, inr, ℕ, List, Option, [], ◌∷◌, Result, Ok, Err, IfOk, Some, None, IsUtf8, refl, sym, ap, ◌∙◌, subst}
use Rattle.std.specs.Prelude.{map}
use mathlib.Core.List.{reverse}
use Rattle.std.proofs.lemmas.List.{length-reverse}
use Rattle.journal_core.specs.Along.{FitInTurn, led_through}
use Rattle.journal_core.specs.History.{IsAt, Kept, resumed}
use Rattle.journal_core.proofs.Stacks.{slice_get_at}
use Rattle.rdl_edit.specs.Backs.{Reversal, prior, read_back, Fits}
use Rattle.rdl_edit.specs.OfEdits.{IsOwn}
use Rattle.rdl_edit.specs.Resuming.{session_fault}
use Rattle.rdl_edit.specs.declared.map.Resumed.{Resumed}
use Rattle.rdl_edit.specs.declared.resume_fault.ResumeFault.{ResumeFault}
use Rattle.rdl_edit.specs.declared.resume_fault.ResumeFault.TheVariants as resuming
use Rattle.rdl_edit.specs.Step.{State, HasRows}
use Rattle.rdl_parse.specs.Places.{Located}
use Rattle.rdl_tree.specs.Items.{Items}
use Rattle.rdl_tree.specs.declared.patch.Patch.{Patch}
use Rattle.rdl_session.specs.Spelling.{SpellsSession}
use Rattle.rdl_session.specs.declared.fault.SessionReadFault.{SessionReadFault}
use Rattle.rdl_session.specs.declared.fault.SessionReadFault.TheVariants as reading
use Rattle.rdl_run.specs.Answers.{History'}
use Rattle.rdl_run.specs.Messages.{session_line, unread_text, unresumed_text}
use Rattle.rdl_run.specs.Opening.{Opens, OpensHistory, EachElaborates, RefusedMap, RefusedText, one_map}
use Rattle.rdl_run.specs.OpeningFaults.{IfRefusedToOpen}
use Rattle.rdl_run.specs.OwnSteps.{OpensKept}
use Rattle.rdl_run.specs.Readings.{ReadsMap}
use Rattle.rdl_run.specs.Resumed.{ResumesFrom}
use Rattle.rdl_run.specs.Sessions.{IsNoSession, ReadsSession, FaultySession, OpensSession, RefusedSession, is_session}
use Rattle.rdl_run.specs.declared.open.OpenFault.{OpenFault}
use Rattle.rdl_run.specs.declared.open.OpenFault.TheVariants as opens
use Rattle.rdl_run.proofs.Openings.{opened-elaborates}

pub opened : (option name : Option (List ℕ)) (bytes : List ℕ) (d : Items) (places : Located) (m : State) → ReadsMap bytes d places → m ≡ record { description = d; option = name } → HasRows (record { description = d; option = name }) → name ≡ option → Opens option bytes m
opened option name bytes d places m read is whole same =
    subst (Opens option bytes) (sym is) (record {
      places = places;
      read = read;
      whole = whole;
      same_option = same;
    })

-- the message of a text that isn't read is one of a map that isn't opened
pub only_text : (option : Option (List ℕ)) (bytes : List ℕ) (r : OpenFault) → IfRefusedToOpen r (RefusedText bytes)
    → IfRefusedToOpen r (λ text. RefusedText bytes text ⊎ RefusedMap option bytes text)
only_text option bytes (opens.Refused message) h = inl h
only_text option bytes opens.Memory h = tt

-- ---- A session that is refused.

-- a text that spells no session
pub unread_session : (bytes text : List ℕ) (fault : SessionReadFault) (r : OpenFault) → text ≡ bytes
    → (fault ≡ reading.Memory) ⊎ ((fault ≡ reading.NotASession) × ((d : Items) (undo redo : List (List Patch)) → SpellsSession text d undo redo → ⊥))
    → IfRefusedToOpen r (λ t. (t ≡ session_line (unread_text fault)) × (fault ≢ reading.Memory)) → IfRefusedToOpen r (IsNoSession bytes)
unread_session bytes text fault (opens.Refused message) same (inl m) k = absurd (k.1 m)
unread_session bytes text fault (opens.Refused message) same (inr n) k = record {
  none = λ d undo redo read. n.1 d undo redo (subst (λ t. SpellsSession t d undo redo) (sym same) read.spelled);
  is = k.0 ∙ ap (λ f. session_line (unread_text f)) n.0;
}
unread_session bytes text fault opens.Memory same h k = tt

module _ (option : Option (List ℕ)) (bytes : List ℕ) where
  abbrev pub Refuses : List ℕ → Type 0
  Refuses message = IsNoSession bytes message ⊎ FaultySession option bytes message

  pub not-read : (r : OpenFault) → IfRefusedToOpen r (IsNoSession bytes) → IfRefusedToOpen r Refuses
  not-read (opens.Refused message) h = inl h
  not-read opens.Memory h = tt

  -- one of which a step or a place has a fault
  pub unresumed_session : (name : Option (List ℕ)) (d : Items) (undo redo : List (List Patch)) (fault : ResumeFault) (r : OpenFault) → ReadsSession bytes d undo redo → name ≡ option
      → (session_fault name d undo redo ≡ Some fault) ⊎ (fault ≡ resuming.Memory)
      → IfRefusedToOpen r (λ t. (t ≡ session_line (unresumed_text fault)) × (fault ≢ resuming.Memory)) → IfRefusedToOpen r Refuses
  unresumed_session name d undo redo fault (opens.Refused message) read named (inl f) k =
      inr (record { description = d; undo = undo; redo = redo; read = read; fault = fault; first = ap (λ o. session_fault o d undo redo) (sym named) ∙ f; is = k.0 })
  unresumed_session name d undo redo fault (opens.Refused message) read named (inr m) k = absurd (k.1 m)
  unresumed_session name d undo redo fault opens.Memory read named h k = tt

  pub refused_named : (r : OpenFault) → is_session bytes ≡ true → IfRefusedToOpen r Refuses → IfRefusedToOpen r (RefusedSession option bytes)
  refused_named (opens.Refused message) named h = record { named = named; refused = h }
  refused_named opens.Memory named h = tt

-- ---- A session that is gone on with.

pub reads : (bytes text : List ℕ) (d : Items) (undo redo : List (List Patch)) → IsUtf8 bytes → text ≡ bytes → SpellsSession text d undo redo → ReadsSession bytes d undo redo
reads bytes text d undo redo utf8 same spelled = record { text = utf8; spelled = subst (λ t. SpellsSession t d undo redo) same spelled }

-- what opens as a session elaborates at each place
pub all-elaborate : {X E : Type 0} (option : Option (List ℕ)) (limit : ℕ) (bytes : List ℕ) (r : Result X E) (seen : X → History') → IfOk r (λ j. OpensSession option limit bytes (seen j))
    → IfOk r (λ j. EachElaborates (seen j))
all-elaborate option limit bytes (Ok j) seen o = opened-elaborates option limit bytes (seen j) (inr o)
all-elaborate option limit bytes (Err e) seen o = tt

-- steps that are read, one after another
pub read-each : {X : Type 0} (f : X → List Patch) (xs : List X) → map (λ x. read_back (f x)) xs ≡ map read_back (map f xs)
read-each f [] = refl
read-each f (x ∷ xs) = ap (λ (ys : List Reversal). read_back (f x) ∷ ys) (read-each f xs)

module _ (option name : Option (List ℕ)) (bytes : List ℕ) (d : Items) (undo redo : List (List Patch)) (r : Resumed) where
  pub resumes : ReadsSession bytes d undo redo → name ≡ option → r.map.state ≡ record { description = d; option = name } → session_fault name d undo redo ≡ None
      → r.undo.items ≡ map read_back undo → r.redo.items ≡ map read_back redo → FitInTurn prior Fits r.map.state r.undo.items → FitInTurn prior Fits r.map.state r.redo.items → ResumesFrom option bytes r
  resumes read named is faultless undo_is redo_is undo_fits redo_fits = record {
    undo = undo;
    redo = redo;
    undo_is = undo_is;
    redo_is = redo_is;
    same_option = ap (λ (m : State). m.option) is ∙ named;
    read = subst (λ (m : State). ReadsSession bytes m.description undo redo) (sym is) read;
    faultless = ap (λ (m : State). session_fault option m.description undo redo) is ∙ ap (λ o. session_fault o d undo redo) (sym named) ∙ faultless;
    undo_fits = undo_fits;
    redo_fits = redo_fits;
  }

-- ---- With their steps.

-- the history of a map that isn't taken for a session
pub opened-unnamed : (option : Option (List ℕ)) (limit : ℕ) (bytes : List ℕ) (s : State) → is_session bytes ≡ false → Opens option bytes s → OpensHistory option limit bytes (one_map limit s)
opened-unnamed option limit bytes s unnamed opens = inl (record { unnamed = unnamed; first = s; opens = opens; opened = refl })

-- it has no steps
pub map-kept : (option : Option (List ℕ)) (limit : ℕ) (bytes : List ℕ) (s : State) (k : Kept State Reversal) → OpensHistory option limit bytes (one_map limit s)
    → k ≡ record { history = one_map limit s; undo = []; redo = [] } → OpensKept option limit bytes k
map-kept option limit bytes s k opens is =
    subst (OpensKept option limit bytes) (sym is) (record { opens = opens; own = λ h. record { now = s; at = refl; undo = tt; redo = tt } })

-- that of a session has those that were read
pub resumed-kept : (option : Option (List ℕ)) (limit : ℕ) (bytes : List ℕ) (r : Resumed) (k : Kept State Reversal) → is_session bytes ≡ true → ResumesFrom option bytes r
    → k.history ≡ resumed limit (led_through prior r.map.state r.undo.items) r.map.state (led_through prior r.map.state r.redo.items) → k.undo ≡ r.undo.items → k.redo ≡ r.redo.items
    → OpensKept option limit bytes k
resumed-kept option limit bytes r k named f history undo redo =
    let now = r.map.state in
    let s : State = record { description = now.description; option = option } in
    let same : now ≡ s = λ i. record { description = now.description; option = f.same_option i } in
    let behind = led_through prior now r.undo.items in
    let ahead = led_through prior now r.redo.items in
    let at : IsAt (resumed limit behind now ahead) now = slice_get_at (reverse behind) ahead now (length behind) (length-reverse behind) in
    record {
      opens = inr (record {
        named = named;
        description = now.description;
        undo = f.undo;
        redo = f.redo;
        read = f.read;
        faultless = f.faultless;
        opened = history ∙ (λ i. resumed limit (led_through prior (same i) (f.undo_is i)) (same i) (led_through prior (same i) (f.redo_is i)));
      });
      own = λ h. record {
        now = now;
        at = subst (λ g. IsAt g now) (sym history) at;
        undo = subst (FitInTurn prior IsOwn now) (sym (undo ∙ f.undo_is)) (subst (λ t. FitInTurn prior IsOwn t (map read_back f.undo)) (sym same) h.0);
        redo = subst (FitInTurn prior IsOwn now) (sym (redo ∙ f.redo_is)) (subst (λ t. FitInTurn prior IsOwn t (map read_back f.redo)) (sym same) h.1);
      };
    }
