-- How an address is printed.
-- own: SystemRDL 2.0 has no addresses of items.
use Rattle.std.specs.Prelude.{ℕ, List, [], ◌∷◌, ◌++◌, codes, flat_map}
use Rattle.std.specs.Fmt.{decimal}

-- its numbers in decimal with dots between them, and `-` for the empty one
abbrev pub address_text : List ℕ → List ℕ
address_text [] = codes "-"
address_text (i ∷ rest) = decimal i ++ flat_map (λ j. codes "." ++ decimal j) rest
