-- The rows of a map that is opened for them alone.
use Rattle.std.proofs.Common.{◌≡◌, false, ℕ, List, Option, Ok, refl}
use Rattle.rdl_tree.specs.Items.{Items}
use Rattle.rdl_parse.specs.Places.{Located}
use Rattle.rdl_edit.specs.Step.{State}
use Rattle.rdl_elab.specs.Faults.{elaborated}
use Rattle.rdl_elab.specs.declared.row.Row.{Row}
use Rattle.rdl_run.specs.OpenedRows.{OpensRows, no_edits}
use Rattle.rdl_run.specs.Opening.{one_map}
use Rattle.rdl_run.specs.Readings.{ReadsMap}
use Rattle.rdl_run.specs.Sessions.{is_session}
use Rattle.rdl_run.proofs.Opened.{opened-unnamed}

pub opens_rows : (top : Option (List ℕ)) (bytes : List ℕ) (d : Items) (places : Located) (rows : List Row) → is_session bytes ≡ false → ReadsMap bytes d places → elaborated d top ≡ Ok rows
    → OpensRows top bytes rows
opens_rows top bytes d places rows unnamed read are =
    let s : State = record { description = d; option = top } in
    record {
      first = one_map no_edits s;
      opens = opened-unnamed top no_edits bytes s unnamed (record { places = places; read = read; whole = record { rows = rows; are = are }; same_option = refl });
      now = s;
      at = refl;
      are = are;
    }
