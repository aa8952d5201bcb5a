use Rattle.rdl_source.proofs.Every.{every_map}
use Rattle.rdl_source.proofs.laws.every_map_is_laid_out.Goals as goal

pub returns : goal.returns
returns c = λ source ws d p u h s. every_map source ws d p u h s
