-- Bodies in which names are looked up.
-- own: how items are found by their names.
use Rattle.rdl_tree.specs.Items.{Items}
use Rattle.rdl_places.specs.declared.lasts.Searched.{Searched}
use Rattle.rdl_places.specs.declared.lasts.Searched.TheVariants.{Plain, Indexed}

abbrev pub searched_body : Searched → Items
searched_body (Plain body) = body.now
searched_body (Indexed indexed) = indexed.body.now
