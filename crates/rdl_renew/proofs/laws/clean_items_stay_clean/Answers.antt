use Rattle.rdl_renew.proofs.StayClean.{clean_items_stay_clean}
use Rattle.rdl_renew.proofs.laws.clean_items_stay_clean.Goals as goal

pub returns : goal.returns
returns c = clean_items_stay_clean
