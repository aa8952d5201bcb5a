-- The value of a row by what has come along its path.
use Rattle.std.proofs.Common.{◌≡◌, ℕ, List, [], ◌∷◌, ◌++◌, Some, refl, ap, sym}
use Rattle.std.specs.Prelude.{option_map, option_and_then, None, if◌then◌else◌}
use Rattle.std.specs.Option.{option_or}
use Rattle.rdl_tree.specs.ItemAt.{item_at}
use Rattle.rdl_tree.specs.Items.{Items}
use Rattle.rdl_tree.specs.Properties.{row, on}
use Rattle.rdl_tree.specs.declared.shell.Shell.{Shell}
use Rattle.rdl_tree.specs.declared.property.Property.{Property}
use Rattle.rdl_tree.specs.declared.property.Property.TheVariants.{Reset}
use Rattle.rdl_tree.specs.declared.description.Item.TheVariants.{Instance}
use Rattle.rdl_tree.specs.declared.description.Of.{Of}
use Rattle.rdl_scope.specs.Value.{shown, instance_reset, item_reset}
use Rattle.rdl_scope.specs.Closed.{Head, Parts, component}
use Rattle.rdl_scope.proofs.AsFound.{value-found}
use Rattle.rdl_elab.specs.Rows.{row_value}
use Rattle.rdl_elab.specs.Reaches.{along, reached, reset_value}
use Rattle.rdl_elab.proofs.Along.{reached-assigned}
use Rattle.sound_laws.specs.Sound.{value_with}

-- the reset of the last instance
reset_last : (d : Items) (path : List (List ℕ)) (at : List ℕ) (s : Shell) (o : Of) (p : Property) → item_at at d ≡ Some (Instance s o)
    → instance_reset d p (path ++ at ∷ []) ≡ reset_value p s.reset
reset_last d [] at s o Reset h = ap (option_and_then item_reset) h
reset_last d (a ∷ []) at s o Reset h = ap (option_and_then item_reset) h
reset_last d (a ∷ b ∷ path) at s o Reset h = reset_last d (b ∷ path) at s o Reset h
reset_last d path at s o p h = refl

pub row_with : (d : Items) (path : List (List ℕ)) (at : List ℕ) (s : Shell) (of : Of) (h : Head) (inside : Parts) → item_at at d ≡ Some (Instance s of)
    → component d h.at ≡ Some (record { head = h; parts = inside })
    → (p : Property) → row_value d (path ++ at ∷ []) h p ≡ value_with (reached (row p).name (along d [] (path ++ at ∷ []))) s h p
row_with d path at s of h inside i c p =
    let whole = path ++ at ∷ [] in
    λ j. if on p h.kind then option_map (shown (row p).form) (option_or (sym (reached-assigned d (row p).name whole) j) (option_or (reset_last d path at s of p i j) (sym (value-found d h.at (record { head = h; parts = inside }) c) j p))) else None
