-- What leads to an item: references and targets; and the addresses of all items.
-- SystemRDL 2.0, clause 5, instances name their types, and dynamic assignments the instances that they pass; item numbers are this project's.
use Rattle.std.specs.Prelude.{ℕ, suc, Bool, false, List, [], ◌∷◌, ◌++◌, Option, Some, None, bytes_eq}
use Rattle.std.specs.List.{list_any}
use Rattle.rdl_tree.specs.Items.{Items, no_items, plain, holder}

abbrev pub same : List ℕ → List ℕ → Bool
same at way = bytes_eq at way

-- a reference leads to the item on the way
abbrev pub leads_to : (way : List ℕ) → Option (List ℕ) → Bool
leads_to way None = false
leads_to way (Some at) = same at way

-- a target passes the item on the way
abbrev pub passes_by : (way : List ℕ) → Option (List (List ℕ)) → Bool
passes_by way None = false
passes_by way (Some path) = list_any (λ at. same at way) path

-- the addresses of the items from number n on of the body at b, each before those inside it
abbrev pub addresses : List ℕ → ℕ → Items → List (List ℕ)
addresses b n no_items = []
addresses b n (plain p rest) = (b ++ n ∷ []) ∷ addresses b (suc n) rest
addresses b n (holder h body rest) = (b ++ n ∷ []) ∷ addresses (b ++ n ∷ []) 0 body ++ addresses b (suc n) rest
