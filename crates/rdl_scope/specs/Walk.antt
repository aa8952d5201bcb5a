-- What the code's walks see: a definition's place as the depth of its body and its number there, and what one item says.
-- own: no part of what types and values are.
use Rattle.std.specs.Prelude.{ℕ, suc, ◌+◌, Bool, false, Some, bytes_eq, ◌&&◌, List, [], ◌∷◌, Option, None, option_map, option_and_then, if◌then◌else◌}
use Rattle.std.specs.Option.{option_or}
use Rattle.rdl_tree.specs.Items.{Items}
use Rattle.rdl_tree.specs.declared.description.Item.{Item}
use Rattle.rdl_tree.specs.declared.description.Item.TheVariants.{Define, Instance, Own, Default, Dynamic}
use Rattle.rdl_tree.specs.declared.description.Of.TheVariants.{Named, Anonymous}
use Rattle.rdl_tree.specs.Address.{inner}
use Rattle.rdl_tree.specs.declared.value.Value.{Value}
use Rattle.rdl_scope.specs.Types.{last_definition}
use Rattle.rdl_scope.specs.Target.{passes}
use Rattle.rdl_scope.specs.Value.{leads_to}

abbrev pub deeper : ℕ → ℕ × ℕ → ℕ × ℕ
deeper d p = (d + p.0, p.1)

abbrev pub below : ℕ × ℕ → ℕ × ℕ
below p = (suc p.0, p.1)

abbrev pub found : List ℕ → Items → List ℕ → Option (ℕ × ℕ)
found [] t name = None
found (i ∷ path) t name =
    option_or (option_map below (option_and_then (λ b. found path b name) (inner i t)))
    (option_map (λ k. (0, k)) (last_definition name i t))

abbrev pub is_definition : List ℕ → Option Item → Bool
is_definition name None = false
is_definition name (Some (Define n c)) = bytes_eq n name
is_definition name (Some (Instance s o)) = false
is_definition name (Some (Own p v)) = false
is_definition name (Some (Default p v)) = false
is_definition name (Some (Dynamic t p v)) = false

abbrev pub reference_of : Item → Option (List ℕ)
reference_of (Instance s (Named t)) = Some t
reference_of (Instance s (Anonymous c)) = None
reference_of (Define n c) = None
reference_of (Own p v) = None
reference_of (Default p v) = None
reference_of (Dynamic t p v) = None

abbrev pub is_instance : List ℕ → Option Item → Bool
is_instance name None = false
is_instance name (Some (Instance s o)) = bytes_eq s.name name
is_instance name (Some (Define n c)) = false
is_instance name (Some (Own p v)) = false
is_instance name (Some (Default p v)) = false
is_instance name (Some (Dynamic t p v)) = false

abbrev pub owned_by : List ℕ → Option Item → Option Value
owned_by name None = None
owned_by name (Some (Own p v)) = if bytes_eq p name then Some v else None
owned_by name (Some (Define n c)) = None
owned_by name (Some (Instance s o)) = None
owned_by name (Some (Default p v)) = None
owned_by name (Some (Dynamic t p v)) = None

abbrev pub defaulted_by : List ℕ → Option Item → Option Value
defaulted_by name None = None
defaulted_by name (Some (Default p v)) = if bytes_eq p name then Some v else None
defaulted_by name (Some (Define n c)) = None
defaulted_by name (Some (Instance s o)) = None
defaulted_by name (Some (Own p v)) = None
defaulted_by name (Some (Dynamic t p v)) = None

-- the value that item n of the body at b assigns to p of this path
abbrev pub assigned_by : Items → List ℕ → ℕ → List ℕ → List (List ℕ) → Option Item → Option Value
assigned_by d b n p path None = None
assigned_by d b n p path (Some (Dynamic t q v)) = if bytes_eq q p && leads_to path (passes d b n t) then Some v else None
assigned_by d b n p path (Some (Define m c)) = None
assigned_by d b n p path (Some (Instance s o)) = None
assigned_by d b n p path (Some (Own q v)) = None
assigned_by d b n p path (Some (Default q v)) = None
