-- How a run closes.
use Rattle.std.proofs.Common.{◌≡◌, ℕ, Bool, true, false, List, [], ◌++◌, length, Result, Ok, Err, refl, sym, subst}
use Rattle.std.proofs.lemmas.Bool.{ltb-true, ltb-false}
use Rattle.std.specs.Prelude.{nat_lt}
use Rattle.rdl_edit.specs.Step.{State, HasRows}
use Rattle.rdl_elab.specs.Faults.{elaborated}
use Rattle.rdl_elab.specs.declared.row.Row.{Row}
use Rattle.rdl_header.specs.HeaderText.{header_of}
use Rattle.rdl_write.specs.MapText.{map_text}
use Rattle.rdl_session.specs.Text.{session_text, max_session}
use Rattle.rdl_session.specs.Written.{session_lines}
use Rattle.rdl_session.specs.declared.fault.SessionWriteFault.TheVariants.{TooLong}
use Rattle.rdl_run.specs.Answers.{History'}
use Rattle.rdl_run.specs.Closing.{IsHeaded, Heads, Closes, status_of}
use Rattle.rdl_run.specs.Messages.{clash_line, session_line, unwritten_text}
use Rattle.rdl_run.specs.Opening.{EachElaborates}
use Rattle.rdl_run.specs.Sessions.{IsSaved, Saves, SavesIf}
use Rattle.rdl_run.specs.declared.status.Status.{Status}
use Rattle.rdl_run.proofs.Histories.{good-at}
use Rattle.rdl_run.proofs.Leading.{led}

-- ---- The header.

module _ (now : State) (rows : List Row) (message header : List ℕ) (are : elaborated now.description now.option ≡ Ok rows) where
  pub heads_with_header : header_of rows ≡ Ok header → message ≡ [] → Heads now message header false
  heads_with_header is silent = record {
    laid_out = record { rows = rows; are = are };
    headed = subst (λ r. IsHeaded r message header false) (sym is) (silent, refl, refl);
  }

  pub heads_with_clash : (name : List ℕ) → header_of rows ≡ Err name → message ≡ clash_line name → header ≡ [] → Heads now message header true
  heads_with_clash name is said none = record {
    laid_out = record { rows = rows; are = are };
    headed = subst (λ r. IsHeaded r message header true) (sym is) (said, none, refl);
  }

-- ---- Each history closes.

record Headed (now : State) : Type 0 where
  message : List ℕ
  header : List ℕ
  left_out : Bool
  heads : Heads now message header left_out

headed : (now : State) → HasRows now → Headed now
headed now h = by (header_of h.rows) refl
  where
    by : (r : Result (List ℕ) (List ℕ)) → header_of h.rows ≡ r → Headed now
    by (Ok text) e = record { message = []; header = text; left_out = false; heads = heads_with_header now h.rows [] text h.are e refl }
    by (Err name) e = record { message = clash_line name; header = []; left_out = true; heads = heads_with_clash now h.rows (clash_line name) [] h.are name e refl refl }

record Saved (asked : Bool) (h : History') : Type 0 where
  message : List ℕ
  session : List ℕ
  left_out : Bool
  saves : SavesIf asked h message session left_out

module _ (h : History') (g : EachElaborates h) where
  abbrev its-text : List ℕ
  its-text = session_text (session_lines (good-at h g).now.description (led h g).undo (led h g).redo)

  with-text : (message session : List ℕ) (left_out : Bool) → IsSaved its-text message session left_out → Saves h message session left_out
  with-text message session left_out s =
      record { now = (good-at h g).now; at = (good-at h g).at; undo = (led h g).undo; redo = (led h g).redo; back = (led h g).back; on = (led h g).on; saved = s }

  by-length : (b : Bool) → nat_lt max_session (length its-text) ≡ b → Saved true h
  by-length true e =
      let said = session_line (unwritten_text TooLong) in
      record { message = said; session = []; left_out = true; saves = with-text said [] true (ltb-true max_session (length its-text) e, refl, refl) }
  by-length false e = record { message = []; session = its-text; left_out = false; saves = with-text [] its-text false (ltb-false max_session (length its-text) e, refl, refl) }

  saved : (asked : Bool) → Saved asked h
  saved false = record { message = []; session = []; left_out = false; saves = (refl, refl, refl) }
  saved true = by-length (nat_lt max_session (length its-text)) refl

pub record Closed (asked : Bool) (h : History') (refuses : Bool) : Type 0 where
  pub message : List ℕ
  pub rdl : List ℕ
  pub header : List ℕ
  pub session : List ℕ
  pub status : Status
  pub closes : Closes asked h refuses message rdl header session status

pub closed : (asked : Bool) (h : History') (refuses : Bool) → EachElaborates h → Closed asked h refuses
closed asked h refuses g =
    let p = good-at h g in
    let e = headed p.now p.rows in
    let s = saved h g asked in
    record {
      message = e.message ++ s.message;
      rdl = map_text p.now.description;
      header = e.header;
      session = s.session;
      status = status_of refuses e.left_out s.left_out;
      closes = record {
        now = p.now;
        at = p.at;
        rdl_is = refl;
        of_header = e.message;
        no_header = e.left_out;
        heads = e.heads;
        of_session = s.message;
        no_session = s.left_out;
        saves = s.saves;
        message_is = refl;
        status_is = refl;
      };
    }
