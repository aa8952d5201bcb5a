-- A history each of whose states has rows answers each command, and stays one.
use Rattle.std.proofs.Common.{◌≡◌, ◌⊎◌, inl, inr, ℕ, zero, suc, ◌+◌, ◌<◌, ◌≤◌, Bool, true, false, cond, List, [], ◌∷◌, ◌++◌, length, take, Some, Result, Ok, Err, refl, sym, ap, ◌∙◌, subst, arith, length-append}
use Rattle.std.specs.Prelude.{slice_get, nat_lt, nat_eq}
use Rattle.std.proofs.lemmas.Option.{none-some}
use Rattle.std.proofs.lemmas.Bool.{ltb-true, eqb-true, eqb-false, cases_lt}
use Rattle.std.proofs.lemmas.List.{length-take}
use Rattle.journal_core.specs.History.{IsAt, after_edit, after_undo, after_redo}
use Rattle.rdl_list.specs.ListText.{list_lines}
use Rattle.rdl_edit.specs.Step.{State, HasRows, step}
use Rattle.rdl_edit.proofs.EditsLead.{steps}
use Rattle.rdl_edit.specs.declared.refusal.Refusal.{Refusal}
use Rattle.rdl_rewrite.specs.declared.edit.Edit.{Edit}
use Rattle.rdl_rewrite.specs.declared.edit.Edit.TheVariants.{Add}
use Rattle.rdl_rewrite.specs.declared.place.Place.{Place}
use Rattle.rdl_script.specs.Commands.{Command, nothing, undo, redo, list, edit, add, refused}
use Rattle.rdl_tree.specs.View.{items_of}
use Rattle.rdl_tree.specs.declared.path.Segment.{Segment}
use Rattle.rdl_run.specs.Answers.{History', Made, AnswersEdit, AnswersItems, AnswersAdd, Answers}
use Rattle.rdl_run.specs.Opening.{AllHaveRows, IsEdited, AreEdited, EachElaborates}
use Rattle.rdl_run.specs.Replies.{Said, done, listed, not_done}
use Rattle.rdl_run.specs.declared.reply.LineRefusal.TheVariants.{Command as OfCommand, Text, Edit as OfEdit, HistoryFull, NothingToUndo, NothingToRedo}
use Rattle.rdl_run.proofs.Steps.{step-real, step-refuses}
use Rattle.rdl_run.proofs.Texts.{ReadStatement, NoStatement, statement_or_refused}

-- ---- States that have rows.

all-take : (n : ℕ) (ss : List State) → AllHaveRows ss → AllHaveRows (take n ss)
all-take zero ss h = tt
all-take (suc n) [] h = tt
all-take (suc n) (s ∷ ss) h = (h.0, all-take n ss h.1)

all-more : (ss : List State) (to : State) → AllHaveRows ss → HasRows to → AllHaveRows (ss ++ to ∷ [])
all-more [] to h rows = (rows, tt)
all-more (s ∷ ss) to h rows = (h.0, all-more ss to h.1 rows)

pub record StateAt (ss : List State) (n : ℕ) : Type 0 where
  pub now : State
  pub at : slice_get ss n ≡ Some now
  pub rows : HasRows now

pub state-at : (ss : List State) (n : ℕ) → AllHaveRows ss → n < length ss → StateAt ss n
state-at [] n h l = absurd (omega (arith, l))
state-at (s ∷ ss) zero h l = record { now = s; at = refl; rows = h.0 }
state-at (s ∷ ss) (suc n) h l = let p = state-at ss n h.1 (omega (arith, l)) in record { now = p.now; at = p.at; rows = p.rows }

-- ---- States to which edits lead.

-- the edit from a place to the next
pub edit-between : (ss : List State) (n : ℕ) (from to : State) → AreEdited ss → slice_get ss n ≡ Some from → slice_get ss (suc n) ≡ Some to → IsEdited from to
edit-between [] n from to h e f = absurd (none-some from e)
edit-between (s ∷ []) n from to h e f = absurd (none-some to f)
edit-between (s ∷ t ∷ ss) zero from to h e f =
    let first : s ≡ from = cc in
    let second : t ≡ to = cc in
    subst (λ x. IsEdited x to) first (subst (IsEdited s) second h.0)
edit-between (s ∷ t ∷ ss) (suc n) from to h e f = edit-between (t ∷ ss) n from to h.1 e f

-- what was after a place goes, and an edit leads from there
edited-more : (n : ℕ) (ss : List State) (from to : State) → AreEdited ss → slice_get ss n ≡ Some from → IsEdited from to → AreEdited (take (suc n) ss ++ to ∷ [])
edited-more n [] from to h e made = absurd (none-some from e)
edited-more zero (s ∷ ss) from to h e made = let first : from ≡ s = cc in (subst (λ x. IsEdited x to) first made, tt)
edited-more (suc n) (s ∷ []) from to h e made = absurd (none-some from e)
edited-more (suc n) (s ∷ t ∷ ss) from to h e made = (h.0, edited-more n (t ∷ ss) from to h.1 e made)

-- ---- Histories.

pub good-at : (h : History') → EachElaborates h → StateAt h.states h.place
good-at h g = state-at h.states h.place g.rows g.inside

good-undo : (h : History') → EachElaborates h → EachElaborates (after_undo h)
good-undo h g = record { inside = omega (arith, g.inside); rows = g.rows; edited = g.edited }

redo-inside : (b : Bool) (place len : ℕ) → (b ≡ true → place + 1 < len) → place < len → cond b (place + 1) place < len
redo-inside true place len h l = h refl
redo-inside false place len h l = l

good-redo : (h : History') → EachElaborates h → EachElaborates (after_redo h)
good-redo h g = record {
  inside = redo-inside (nat_lt (h.place + 1) (length h.states)) h.place (length h.states) (ltb-true (h.place + 1) (length h.states)) g.inside;
  rows = g.rows;
  edited = g.edited;
}

good-after : (h : History') (from to : State) → EachElaborates h → HasRows to → IsAt h from → IsEdited from to → EachElaborates (after_edit h to)
good-after h from to g rows at made = record {
  inside = omega (arith, g.inside, length-append (take (h.place + 1) h.states) (to ∷ []), length-take (h.place + 1) h.states);
  rows = all-more (take (h.place + 1) h.states) to (all-take (h.place + 1) h.states g.rows) rows;
  edited = λ own. subst (λ n. AreEdited (take n h.states ++ to ∷ [])) (let next : suc h.place ≡ h.place + 1 = omega arith in next) (edited-more h.place h.states from to (g.edited own) at made);
}

module _ (old new : History') (g : EachElaborates old) where
  good-same : new ≡ old → EachElaborates new
  good-same e = subst EachElaborates (sym e) g

  good-made : (e : Edit) → Made old e new → EachElaborates new
  good-made e m = subst EachElaborates (sym m.made.edited)
      (good-after old m.made.from m.made.to g (steps m.made.from e m.made.to m.made.led).rows m.made.stood (record { edit = e; led = m.made.led }))

  good-edit : (e : Edit) (r : Said) → AnswersEdit old e r new → EachElaborates new
  good-edit e done a = good-made e a
  good-edit e (not_done HistoryFull) a = good-same a.1
  good-edit e (not_done (OfEdit refusal)) a = good-same a.1
  good-edit e r a = absurd a

  good-add : (path : List Segment) (place : Place) (text : List ℕ) (r : Said) → AnswersAdd old path place text r new → EachElaborates new
  good-add path place text (not_done (Text fault)) a = good-same a.1
  good-add path place text r a = good-edit (Add path place (items_of a.items)) r a.answers

  pub good-answers : (c : Command) (r : Said) → Answers old c r new → EachElaborates new
  good-answers nothing done a = good-same a
  good-answers undo done a = subst EachElaborates (sym a.1) (good-undo old g)
  good-answers undo (not_done NothingToUndo) a = good-same a.1
  good-answers redo done a = subst EachElaborates (sym a.1) (good-redo old g)
  good-answers redo (not_done NothingToRedo) a = good-same a.1
  good-answers list (listed text) a = good-same a.1
  good-answers (edit e) r a = good-edit e r a
  good-answers (add path place text) r a = good-add path place text r a
  good-answers (refused fault) (not_done (OfCommand given)) a = good-same a.1
  good-answers c r a = absurd a

-- ---- Each command is answered.

pub record Answered (old : History') (c : Command) : Type 0 where
  pub reply : Said
  pub new : History'
  pub answers : Answers old c reply new

record AnsweredEdit (old : History') (e : Edit) : Type 0 where
  reply : Said
  new : History'
  answers : AnswersEdit old e reply new

module _ (old : History') (g : EachElaborates old) where
  edit-step : (e : Edit) → old.place < old.limit → (s : State) → IsAt old s → (r : Result State Refusal) → step s e ≡ r → AnsweredEdit old e
  edit-step e room s at (Ok to) is = record {
    reply = done;
    new = after_edit old to;
    answers = record { room = room; made = record { from = s; to = to; stood = at; led = is; edited = refl } };
  }
  edit-step e room s at (Err refusal) is = record {
    reply = not_done (OfEdit refusal);
    new = old;
    answers = (
      record {
        room = room;
        refused = record { at = s; stood = at; refused = step-refuses s e refusal is };
        real = λ m. step-real s e (is ∙ ap (λ (r : Refusal). let q : Result State Refusal = Err r in q) m);
      },
      refl,
    );
  }

  edit-room : (e : Edit) → (old.place < old.limit) ⊎ (old.limit ≤ old.place) → AnsweredEdit old e
  edit-room e (inr full) = record { reply = not_done HistoryFull; new = old; answers = (full, refl) }
  edit-room e (inl room) =
      let p = good-at old g in
      edit-step e room p.now p.at (step p.now e) refl

  answered-edit : (e : Edit) → AnsweredEdit old e
  answered-edit e = edit-room e (cases_lt old.place old.limit)

  as-add : (path : List Segment) (place : Place) (text : List ℕ) (new : History') (r : Said) → AnswersItems old path place text r new → AnswersAdd old path place text r new
  as-add path place text new (not_done (Text fault)) a = absurd a.answers
  as-add path place text new r a = a

  answered-add : (path : List Segment) (place : Place) (text : List ℕ) → ReadStatement text ⊎ NoStatement text → Answered old (add path place text)
  answered-add path place text (inl s) =
      let a = answered-edit (Add path place (items_of s.items)) in
      record { reply = a.reply; new = a.new; answers = as-add path place text a.new a.reply (record { items = s.items; read = s.read; answers = a.answers }) }
  answered-add path place text (inr n) = record { reply = not_done (Text n.fault); new = old; answers = (n.refused, refl) }

  answered-undo : (none : Bool) → nat_eq old.place 0 ≡ none → Answered old undo
  answered-undo true is = record { reply = not_done NothingToUndo; new = old; answers = (eqb-true old.place 0 is, refl) }
  answered-undo false is = record { reply = done; new = after_undo old; answers = (eqb-false old.place 0 is, refl) }

  answered-redo : (none : Bool) → nat_eq (old.place + 1) (length old.states) ≡ none → Answered old redo
  answered-redo true is = record { reply = not_done NothingToRedo; new = old; answers = (eqb-true (old.place + 1) (length old.states) is, refl) }
  answered-redo false is = record { reply = done; new = after_redo old; answers = (eqb-false (old.place + 1) (length old.states) is, refl) }

  answered-list : StateAt old.states old.place → Answered old list
  answered-list p = record {
    reply = listed (list_lines p.rows.rows);
    new = old;
    answers = (record { now = p.now; at = p.at; rows = record { laid_out = p.rows; lines = refl } }, refl);
  }

  pub answered : (c : Command) → Answered old c
  answered nothing = record { reply = done; new = old; answers = refl }
  answered undo = answered-undo (nat_eq old.place 0) refl
  answered redo = answered-redo (nat_eq (old.place + 1) (length old.states)) refl
  answered list = answered-list (good-at old g)
  answered (edit e) = let a = answered-edit e in record { reply = a.reply; new = a.new; answers = a.answers }
  answered (add path place text) = answered-add path place text (statement_or_refused text)
  answered (refused fault) = record { reply = not_done (OfCommand fault); new = old; answers = (refl, refl) }
