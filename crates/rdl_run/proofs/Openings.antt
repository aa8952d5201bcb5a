-- The bytes of each map or session open a history or are refused.
use Rattle.std.proofs.Common.{◌≡◌, ◌⊎◌, inl, inr, ℕ, ◌≤◌, Bool, true, false, List, length, Option, Some, None, Result, Ok, Err, refl, sym, ◌∙◌, subst, IsUtf8, arith}
use Rattle.std.specs.Prelude.{nat_lt}
use Rattle.std.specs.Str.{is_utf8}
use Rattle.std.proofs.lemmas.Bool.{ltb-true, ltb-false}
use Rattle.std.proofs.lemmas.Str.{IsUtf8-from_is_utf8, is_utf8-from_IsUtf8}
use Rattle.rdl_elab.specs.Faults.{elaborated}
use Rattle.rdl_elab.specs.declared.row.Row.{Row}
use Rattle.rdl_tree.specs.Items.{Items}
use Rattle.rdl_tree.specs.declared.fault.Fault.{Fault}
use Rattle.rdl_tree.specs.declared.patch.Patch.{Patch}
use Rattle.rdl_session.specs.Text.{max_session}
use Rattle.rdl_session.specs.Meaning.{Session, session_of}
use Rattle.rdl_session.specs.declared.fault.SessionReadFault.TheVariants.{NotASession}
use Rattle.rdl_session.proofs.Meant.{session-found, session-refused}
use Rattle.rdl_edit.specs.Resuming.{session_fault}
use Rattle.rdl_edit.specs.Step.{State}
use Rattle.rdl_edit.specs.declared.resume_fault.ResumeFault.{ResumeFault}
use Rattle.rdl_run.specs.Answers.{History'}
use Rattle.rdl_run.specs.Messages.{session_line, unread_text, unresumed_text}
use Rattle.rdl_run.specs.Opening.{EachElaborates, OpensMap, OpensHistory, RefusedText, RefusedMap, RefusesToOpen, one_map, text_line, fault_line}
use Rattle.rdl_run.specs.Sessions.{ReadsSession, history_of, is_session}
use Rattle.rdl_run.proofs.SessionPlaces.{session-elaborates}
use Rattle.rdl_run.proofs.Texts.{ReadMap, NoMap, map-bytes}

pub record OpenedHistory (option : Option (List ℕ)) (limit : ℕ) (bytes : List ℕ) : Type 0 where
  pub first : History'
  pub opens : OpensHistory option limit bytes first

pub record NotOpened (option : Option (List ℕ)) (bytes : List ℕ) : Type 0 where
  pub message : List ℕ
  pub refused : RefusesToOpen option bytes message

-- each place of what is opened elaborates
map-elaborates : (option : Option (List ℕ)) (limit : ℕ) (bytes : List ℕ) (h : History') → OpensMap option limit bytes h → EachElaborates h
map-elaborates option limit bytes h o = subst EachElaborates (sym o.opened) (record { inside = omega arith; rows = (o.opens.whole, tt); edited = λ own. tt })

pub opened-elaborates : (option : Option (List ℕ)) (limit : ℕ) (bytes : List ℕ) (h : History') → OpensHistory option limit bytes h → EachElaborates h
opened-elaborates option limit bytes h (inl o) = map-elaborates option limit bytes h o
opened-elaborates option limit bytes h (inr o) = subst EachElaborates (sym o.opened) (session-elaborates option limit o.description o.undo o.redo o.faultless)

module _ (option : Option (List ℕ)) (limit : ℕ) (bytes : List ℕ) where
  -- ---- A map.

  module _ (unnamed : is_session bytes ≡ false) where
    refused-map : (message : List ℕ) → RefusedText bytes message ⊎ RefusedMap option bytes message → NotOpened option bytes
    refused-map message r = record { message = message; refused = inl (record { unnamed = unnamed; refused = r }) }

    read-map : (r : ReadMap bytes) (q : Result (List Row) Fault) → elaborated r.d option ≡ q → OpenedHistory option limit bytes ⊎ NotOpened option bytes
    read-map r (Ok rows) e =
        let s : State = record { description = r.d; option = option } in
        inl (record {
          first = one_map limit s;
          opens = inl (record {
            unnamed = unnamed;
            first = s;
            opens = record { places = r.places; read = r.read; whole = record { rows = rows; are = e }; same_option = refl };
            opened = refl;
          });
        })
    read-map r (Err fault) e =
        inr (refused-map (fault_line r.places fault) (inr (record { d = r.d; places = r.places; read = r.read; fault = fault; first = e; is = refl })))

    map-or-refused : ReadMap bytes ⊎ NoMap bytes → OpenedHistory option limit bytes ⊎ NotOpened option bytes
    map-or-refused (inl r) = read-map r (elaborated r.d option) refl
    map-or-refused (inr n) = inr (refused-map (text_line bytes n.fault) (inl (record { fault = n.fault; refused = n.refused; is = refl })))

  -- ---- A session.

  module _ (named : is_session bytes ≡ true) where
    no-session : ((d : Items) (undo redo : List (List Patch)) → ReadsSession bytes d undo redo → ⊥) → OpenedHistory option limit bytes ⊎ NotOpened option bytes
    no-session none = inr (record {
      message = session_line (unread_text NotASession);
      refused = inr (record { named = named; refused = inl (record { none = none; is = refl }) });
    })

    read-session : (d : Items) (undo redo : List (List Patch)) → ReadsSession bytes d undo redo → (f : Option ResumeFault) → session_fault option d undo redo ≡ f
        → OpenedHistory option limit bytes ⊎ NotOpened option bytes
    read-session d undo redo r None e = inl (record {
      first = history_of limit (record { description = d; option = option }) undo redo;
      opens = inr (record { named = named; description = d; undo = undo; redo = redo; read = r; faultless = e; opened = refl });
    })
    read-session d undo redo r (Some fault) e = inr (record {
      message = session_line (unresumed_text fault);
      refused = inr (record { named = named; refused = inr (record { description = d; undo = undo; redo = redo; read = r; fault = fault; first = e; is = refl }) });
    })

    meant : IsUtf8 bytes → length bytes ≤ max_session → (s : Option Session) → session_of bytes ≡ s → OpenedHistory option limit bytes ⊎ NotOpened option bytes
    meant u short None e = no-session (λ d undo redo r. session-refused bytes e d undo redo r.spelled)
    meant u short (Some s) e = read-session s.0 s.1 s.2 (record { text = u; spelled = session-found bytes s short e }) (session_fault option s.0 s.1 s.2) refl

    short-or-not : IsUtf8 bytes → (b : Bool) → nat_lt max_session (length bytes) ≡ b → OpenedHistory option limit bytes ⊎ NotOpened option bytes
    short-or-not u true e = no-session (λ d undo redo r. let long = ltb-true max_session (length bytes) e in absurd (omega (arith, long, r.spelled.short)))
    short-or-not u false e = meant u (ltb-false max_session (length bytes) e) (session_of bytes) refl

    session-or-refused : (b : Bool) → is_utf8 bytes ≡ b → OpenedHistory option limit bytes ⊎ NotOpened option bytes
    session-or-refused true e = short-or-not (IsUtf8-from_is_utf8 bytes e) (nat_lt max_session (length bytes)) refl
    session-or-refused false e = no-session (λ d undo redo r. absurd (let k : true ≡ false = sym (is_utf8-from_IsUtf8 bytes r.text) ∙ e in cc))

  by-name : (b : Bool) → is_session bytes ≡ b → OpenedHistory option limit bytes ⊎ NotOpened option bytes
  by-name true e = session-or-refused e (is_utf8 bytes) refl
  by-name false e = map-or-refused e (map-bytes bytes (is_utf8 bytes) refl)

  pub opened_or_refused : OpenedHistory option limit bytes ⊎ NotOpened option bytes
  opened_or_refused = by-name (is_session bytes) refl
