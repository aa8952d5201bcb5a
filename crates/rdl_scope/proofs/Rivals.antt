-- A rival that no own assignment names isn't set.
use Rattle.std.proofs.Common.{◌≡◌, ℕ, Bool, false, List, [], ◌∷◌, Some, None, Option, refl, ap}
use Rattle.std.specs.Prelude.{◌&&◌, ◌||◌}
use Rattle.std.specs.Option.{is_some}
use Rattle.std.specs.List.{list_any}
use Rattle.rdl_tree.specs.Items.{Items}
use Rattle.rdl_tree.specs.Properties.{row}
use Rattle.rdl_tree.specs.declared.property.Property.{Property}
use Rattle.rdl_tree.specs.declared.value.Value.{Value}
use Rattle.rdl_scope.specs.Value.{own_before}
use Rattle.rdl_scope.specs.ItemFaults.{is_set}
use Rattle.rdl_scope.specs.Scopes.{number_under}
use Rattle.rdl_scope.specs.declared.names.Names.{Names}

set-is-there : (t : Bool) (o : Option Value) → t ≡ is_some o → (t && is_set o) ≡ is_set o
set-is-there t None h = ap (λ b. b && false) h
set-is-there t (Some v) h = ap (λ b. b && is_set (Some v)) h

-- so only those that are named have to be searched for
pub known : (owns : Names) (n : ℕ) (body : Items) (rivals : List Property) → ((q : List ℕ) → is_some (number_under owns q) ≡ is_some (own_before q n body))
    → list_any (λ rival. is_some (number_under owns (row rival).name) && is_set (own_before (row rival).name n body)) rivals ≡ list_any (λ rival. is_set (own_before (row rival).name n body)) rivals
known owns n body [] h = refl
known owns n body (r ∷ rs) h = λ i. set-is-there (is_some (number_under owns (row r).name)) (own_before (row r).name n body) (h (row r).name) i || known owns n body rs h i
