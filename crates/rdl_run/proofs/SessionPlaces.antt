-- Every place of a session without a fault elaborates.
use Rattle.std.proofs.Common.{◌≡◌, ℕ, suc, Bool, true, false, List, [], ◌∷◌, ◌++◌, Option, Some, None, Result, Ok, Err, refl, sym, subst, arith, length-append}
use mathlib.Core.List.{reverse}
use Rattle.std.proofs.lemmas.List.{length-reverse}
use Rattle.std.proofs.lemmas.Option.{none-some}
use Rattle.std.specs.Prelude.{map, if◌then◌else◌}
use Rattle.std.specs.Option.{option_or}
use Rattle.journal_core.specs.Along.{led_through}
use Rattle.journal_core.proofs.Ways.{reverse-first}
use Rattle.rdl_elab.specs.Faults.{elaborated}
use Rattle.rdl_elab.specs.declared.row.Row.{Row}
use Rattle.rdl_tree.specs.Items.{Items}
use Rattle.rdl_tree.specs.Patch.{image}
use Rattle.rdl_tree.specs.declared.fault.Fault.{Fault}
use Rattle.rdl_tree.specs.declared.patch.Patch.{Patch}
use Rattle.rdl_edit.specs.Backs.{prior, read_back}
use Rattle.rdl_edit.specs.Resuming.{all_fit, judged, place_fault, step_fault, steps_fault, session_fault}
use Rattle.rdl_edit.specs.Step.{State, HasRows}
use Rattle.rdl_edit.specs.declared.resume_fault.ResumeFault.{ResumeFault}
use Rattle.rdl_edit.specs.declared.resume_fault.ResumeFault.TheVariants.{PatchMisfits}
use Rattle.rdl_edit.specs.declared.resume_fault.Where.{Where}
use Rattle.rdl_edit.specs.declared.resume_fault.Where.TheVariants as where_
use Rattle.rdl_run.specs.Opening.{AllHaveRows, EachElaborates}
use Rattle.rdl_run.specs.Sessions.{history_of}

neither : (a b : Option ResumeFault) → option_or a b ≡ None → (a ≡ None) × (b ≡ None)
neither None b e = (refl, e)
neither (Some f) b e = absurd (none-some f (sym e))

place-rows : (at : Where) (option : Option (List ℕ)) (d : Items) → place_fault at option d ≡ None → HasRows (record { description = d; option = option })
place-rows at option d h = by (elaborated d option) refl h
  where
    by : (r : Result (List Row) Fault) → elaborated d option ≡ r → judged at r ≡ None → HasRows (record { description = d; option = option })
    by (Ok rows) e k = record { rows = rows; are = e }
    by (Err fault) e k = absurd cc

step-rows : (at : Where) (option : Option (List ℕ)) (d : Items) (step : List Patch) → step_fault at option d step ≡ None → HasRows (record { description = image step d; option = option })
step-rows at option d step h = by (all_fit step d) h
  where
    by : (b : Bool) → (if b then place_fault at option (image step d) else Some (PatchMisfits at)) ≡ None → HasRows (record { description = image step d; option = option })
    by true k = place-rows at option (image step d) k
    by false k = absurd (none-some (PatchMisfits at) (sym k))

steps-rows : (at : ℕ → Where) (option : Option (List ℕ)) (n : ℕ) (d : Items) (steps : List (List Patch)) → steps_fault at option n d steps ≡ None
    → AllHaveRows (led_through prior (record { description = d; option = option }) (map read_back steps))
steps-rows at option n d [] h = tt
steps-rows at option n d (step ∷ steps) h =
    let parts = neither (step_fault (at n) option d step) (steps_fault at option (suc n) (image step d) steps) h in
    (step-rows (at n) option d step parts.0, steps-rows at option (suc n) (image step d) steps parts.1)

all-append : (xs ys : List State) → AllHaveRows xs → AllHaveRows ys → AllHaveRows (xs ++ ys)
all-append [] ys h k = k
all-append (x ∷ xs) ys h k = (h.0, all-append xs ys h.1 k)

all-reverse : (xs : List State) → AllHaveRows xs → AllHaveRows (reverse xs)
all-reverse [] h = tt
all-reverse (x ∷ xs) h = subst AllHaveRows (sym (reverse-first x xs)) (all-append (reverse xs) (x ∷ []) (all-reverse xs h.1) (h.0, tt))

-- what a session opens has a map that elaborates at each place
pub session-elaborates : (option : Option (List ℕ)) (limit : ℕ) (d : Items) (undo redo : List (List Patch)) → session_fault option d undo redo ≡ None
    → EachElaborates (history_of limit (record { description = d; option = option }) undo redo)
session-elaborates option limit d undo redo h =
    let s : State = record { description = d; option = option } in
    let here = neither (place_fault where_.Map option d) (option_or (steps_fault where_.Undo option 1 d undo) (steps_fault where_.Redo option 1 d redo)) h in
    let ways = neither (steps_fault where_.Undo option 1 d undo) (steps_fault where_.Redo option 1 d redo) here.1 in
    let behind = led_through prior s (map read_back undo) in
    let ahead = led_through prior s (map read_back redo) in
    record {
      inside = omega (arith, length-append (reverse behind) (s ∷ ahead), length-reverse behind);
      rows = all-append (reverse behind) (s ∷ ahead) (all-reverse behind (steps-rows where_.Undo option 1 d undo ways.0)) (place-rows where_.Map option d here.0, steps-rows where_.Redo option 1 d redo ways.1);
      edited = λ own. absurd (let w : false ≡ true = own in cc);
    }
