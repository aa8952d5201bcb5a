-- From what is judged and written of two maps to what their comparison leaves.
use Rattle.std.proofs.Common.{◌≡◌, ◌⊎◌, inl, inr, ℕ, List, [], ◌∷◌, Option, Result, Ok, Err, IfOk, IfErr, refl, sym, subst}
use Rattle.std.specs.Io.KnownBytes.{Appends}
use Rattle.rdl_elab.specs.declared.row.Row.{Row}
use Rattle.rdl_diff.specs.Written.{diff_text, diff_texts}
use Rattle.rdl_diff.specs.Endings.{status_of}
use Rattle.rdl_diff.specs.SameRows.{HaveOwnPaths}
use Rattle.rdl_diff.proofs.RowPaths.{own-paths}
use Rattle.rdl_diff.specs.declared.choice.Choice.{Choice}
use Rattle.rdl_diff.specs.declared.status.Status.{Status}
use Rattle.rdl_diff.specs.declared.status.Status.TheVariants.{MapRefused}
use Rattle.rdl_run.specs.Comparing.{Fronts, IsOutput, Output, Ran, RefusesNew, RefusesOld, StandsFor, Stopped, StopsLines, WritesLines}
use Rattle.rdl_run.specs.Judging.{refusal}
use Rattle.rdl_run.specs.Known.{AppendsFront, Gives}
use Rattle.rdl_run.specs.Sources.{without_source}
use Rattle.rdl_run.specs.declared.status.RunFault.{RunFault}
use Rattle.rdl_run.specs.declared.status.RunFault.TheVariants.{Read, Write, Memory, TooLong, Interrupted}

module _ (top : Option (List ℕ)) (c : Choice) (old new : Option (List ℕ)) (old_bytes new_bytes : List ℕ) (of_old : Gives old old_bytes) (of_new : Gives new new_bytes) (a b : Option (List ℕ)) where
  ran : (out : Output) (status : Status) → IsOutput top c (without_source old_bytes) (without_source new_bytes) out → Appends a b out.text → status ≡ out.status → Ran top c old new a b status
  ran out status is wrote answer = record { old_bytes = old_bytes; new_bytes = new_bytes; old_given = of_old; new_given = of_new; out = out; is_output = is; wrote = wrote; answer = answer }

  front : (out : Output) → IsOutput top c (without_source old_bytes) (without_source new_bytes) out → AppendsFront a b out.text → Fronts top c old new a b
  front out is wrote = record { old_bytes = old_bytes; new_bytes = new_bytes; old_given = of_old; new_given = of_new; out = out; is_output = is; wrote = wrote }

  -- ---- One is refused.

  is-refusal : (message : List ℕ) → RefusesOld top (without_source old_bytes) (without_source new_bytes) (refusal message) ⊎ RefusesNew top (without_source old_bytes) (without_source new_bytes) (refusal message) → IsOutput top c (without_source old_bytes) (without_source new_bytes) (refusal message)
  is-refusal message (inl r) = inl r
  is-refusal message (inr r) = inr (inl r)

  pub ran_refused : (message : List ℕ) → RefusesOld top (without_source old_bytes) (without_source new_bytes) (refusal message) ⊎ RefusesNew top (without_source old_bytes) (without_source new_bytes) (refusal message) → Appends a b message → Ran top c old new a b MapRefused
  ran_refused message r wrote = ran (refusal message) MapRefused (is-refusal message r) wrote refl

  pub stopped_refused : (message : List ℕ) → RefusesOld top (without_source old_bytes) (without_source new_bytes) (refusal message) ⊎ RefusesNew top (without_source old_bytes) (without_source new_bytes) (refusal message) → AppendsFront a b message → Stopped top c old new a b Write
  stopped_refused message r wrote = front (refusal message) (is-refusal message r) wrote

  -- ---- Both are accepted.

  module _ (old_rows new_rows : List Row) (opens : StandsFor top (without_source old_bytes) old_rows × StandsFor top (without_source new_bytes) new_rows) where
    compared : Output
    compared = record { text = diff_text c old_rows new_rows; status = status_of (diff_text c old_rows new_rows) }

    is-compared : IsOutput top c (without_source old_bytes) (without_source new_bytes) compared
    unfolding compared
    is-compared = inr (inr (record { old_rows = old_rows; new_rows = new_rows; of_old = opens.0; of_new = opens.1; text = refl; status = refl }))

    pub ran_lines : (r : Result Status RunFault) → IfOk r (WritesLines (diff_texts c old_rows new_rows) a b) → IfOk r (Ran top c old new a b)
    unfolding compared
    ran_lines (Ok status) w = ran compared status is-compared w.wrote w.answer
    ran_lines (Err fault) w = tt

    stops : (fault : RunFault) → StopsLines (diff_texts c old_rows new_rows) a b fault → Stopped top c old new a b fault
    unfolding compared
    stops Write w = front compared is-compared w
    stops Memory w = inr (record {
      old_bytes = old_bytes;
      new_bytes = new_bytes;
      old_given = of_old;
      new_given = of_new;
      old_rows = old_rows;
      new_rows = new_rows;
      of_old = opens.0;
      of_new = opens.1;
      wrote = w;
    })
    stops Read w = absurd w
    stops TooLong w = absurd w
    stops Interrupted w = absurd w

    pub stopped_lines : (r : Result Status RunFault) → IfErr r (StopsLines (diff_texts c old_rows new_rows) a b) → IfErr r (Stopped top c old new a b)
    stopped_lines (Ok status) w = tt
    stopped_lines (Err fault) w = stops fault w

-- ---- Rows that are compared.

-- no two have one path
pub own_of : (top : Option (List ℕ)) (bytes : List ℕ) (rows : List Row) → StandsFor top bytes rows → HaveOwnPaths rows
own_of top [] rows stands = subst HaveOwnPaths (sym stands) tt
own_of top (b ∷ bytes) rows stands = own-paths stands.now.description stands.now.option rows stands.are
