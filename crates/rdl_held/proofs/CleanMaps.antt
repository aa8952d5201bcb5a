-- No item of a map that has rows has a fault.
use Rattle.std.proofs.Common.{◌≡◌, ℕ, List, Option, sym, ap, ◌∙◌}
use Rattle.std.specs.Prelude.{true, not}
use Rattle.std.specs.Option.{is_none}
use Rattle.rdl_tree.specs.Items.{Items}
use Rattle.rdl_scope.specs.ItemFaults.{is_too_large}
use Rattle.rdl_elab.specs.Known.{HasRows}
use Rattle.rdl_elab.proofs.KnownRows.{no-item-fault}
use Rattle.rdl_seen.specs.MeaningLaws.{is_clean_map}
use Rattle.rdl_seen.proofs.Judged.{faults_are_found}
use Rattle.rdl_renew.proofs.Alone.{two_true}
use Rattle.node_laws.specs.Laid.{laying}

pub was_clean : (d : Items) (wanted : Option (List ℕ)) → HasRows d wanted → is_clean_map laying d ≡ true
was_clean d wanted rows = (two_true (not (is_too_large d)) (is_clean_map laying d) (sym (faults_are_found laying d) ∙ ap is_none (no-item-fault d wanted rows))).1
