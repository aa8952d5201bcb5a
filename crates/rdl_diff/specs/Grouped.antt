-- Groups of things, which are looked up by what is said of them.
-- own: how they are looked up.
use Rattle.std.specs.Prelude.{◌≡◌, ℕ, zero, suc, List, [], ◌∷◌, map, string_bytes}
use Rattle.rdl_diff.specs.Alike as alike
use Rattle.rdl_diff.specs.Alike.{run_text, with_path}
use Rattle.rdl_diff.specs.Seen.{group_seen}
use Rattle.rdl_diff.specs.declared.groups.Group.{Group}
use Rattle.rdl_diff.specs.declared.groups.Groups.{Groups}

abbrev pub groups_seen : List Group → List alike.Group
groups_seen gs = map group_seen gs

-- each text is that of the group of its number
abbrev pub AreKeyed : (depth : ℕ) → Groups → Type 0
AreKeyed d gs = map string_bytes gs.texts.keys ≡ map (λ g. run_text d g.items) (groups_seen gs.groups.items)

-- a run joins the group of this number, or is one behind all
abbrev pub joined_at : (number : ℕ) → List alike.Group → (path : List (List ℕ)) → (items : List alike.Item) → List alike.Group
joined_at i [] p items = record { paths = p ∷ []; items = items } ∷ []
joined_at zero (g ∷ gs) p items = with_path g p ∷ gs
joined_at (suc i) (g ∷ gs) p items = g ∷ joined_at i gs p items
