-- Patches that exchange parts, one after another.
-- own: SystemRDL 2.0 has no edits.
use Rattle.std.specs.Prelude.{Bool, true, false, ◌&&◌, List, [], ◌∷◌}
use Rattle.rdl_tree.specs.Items.{Items}
use Rattle.rdl_tree.specs.Patch.{patched, fits}
use Rattle.rdl_tree.specs.declared.patch.Patch.{Patch}
use Rattle.rdl_tree.specs.declared.patch.Patch.TheVariants.{Insert, Delete, Shift, Exchange}

abbrev pub is_exchange : Patch → Bool
is_exchange (Insert at x) = false
is_exchange (Delete at) = false
is_exchange (Shift at to) = false
is_exchange (Exchange at part) = true

-- the patch exchanges a part, and fits
abbrev pub is_exchange_at : Patch → Items → Bool
is_exchange_at p t = is_exchange p && fits p t

-- each does where those before it led
abbrev pub are_exchanges : List Patch → Items → Bool
are_exchanges [] t = true
are_exchanges (p ∷ ps) t = is_exchange_at p t && are_exchanges ps (patched p t)
