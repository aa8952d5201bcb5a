-- The value of a property.
-- SystemRDL 2.0, clause 5, property assignment: dynamic assignments, an instance's reset, assignments in the component, defaults, built-in values.
-- own: their order, that the outermost dynamic assignment wins, and that a default reaches what is written in its body, and nothing else.
use Rattle.std.specs.Prelude.{ℕ, zero, suc, ◌==◌, ◌&&◌, nat_eq, not, Bool, true, false, List, [], ◌∷◌, Option, Some, None, option_map, option_and_then, bytes_eq, if◌then◌else◌}
use Rattle.std.specs.Option.{option_or}
use Rattle.std.specs.Cmp.Lexicographic.{pointwise}
use Rattle.rdl_tree.specs.ItemAt.{item_at}
use Rattle.rdl_tree.specs.Items.{Items, no_items, plain, holder, Plain, named, own, default, dynamic}
use Rattle.rdl_tree.specs.Address.{inner, body_at}
use Rattle.rdl_tree.specs.Properties.{row, property_of, on}
use Rattle.rdl_tree.specs.declared.value.Value.{Value}
use Rattle.rdl_tree.specs.declared.value.Value.TheVariants.{Number, Text, Bool as Boolean, Word}
use Rattle.rdl_tree.specs.declared.property.Property.{Property}
use Rattle.rdl_tree.specs.declared.property.Property.TheVariants.{Reset, Accesswidth, Regwidth}
use Rattle.rdl_tree.specs.declared.property.Form.{Form}
use Rattle.rdl_tree.specs.declared.property.Form.TheVariants.{OnlyTrue, Booleans}
use Rattle.rdl_tree.specs.declared.description.Component.{Component}
use Rattle.rdl_tree.specs.declared.description.Item.{Item}
use Rattle.rdl_tree.specs.declared.description.Item.TheVariants.{Define, Instance, Own, Default, Dynamic}
use Rattle.rdl_scope.specs.Types.{component_of, component_at, items_in}
use Rattle.rdl_scope.specs.Target.{passes, body_of}

abbrev pub owned : List ℕ → Plain → Option Value
owned p (own q v) = if bytes_eq q p then Some v else None
owned p (named s t) = None
owned p (default q v) = None
owned p (dynamic t q v) = None

abbrev pub defaulted : List ℕ → Plain → Option Value
defaulted p (default q v) = if bytes_eq q p then Some v else None
defaulted p (named s t) = None
defaulted p (own q v) = None
defaulted p (dynamic t q v) = None

-- the own assignment of a property in a body
abbrev pub own_value : List ℕ → Items → Option Value
own_value p no_items = None
own_value p (plain x rest) = option_or (owned p x) (own_value p rest)
own_value p (holder h body rest) = own_value p rest

-- the same among the first n items
abbrev pub own_before : List ℕ → ℕ → Items → Option Value
own_before p zero t = None
own_before p (suc n) no_items = None
own_before p (suc n) (plain x rest) = option_or (owned p x) (own_before p n rest)
own_before p (suc n) (holder h body rest) = own_before p n rest

-- the default of the property among the first n items
abbrev pub last_default : List ℕ → ℕ → Items → Option Value
last_default p zero t = None
last_default p (suc n) no_items = None
last_default p (suc n) (plain x rest) = option_or (last_default p n rest) (defaulted p x)
last_default p (suc n) (holder h body rest) = last_default p n rest

-- for the component of the item at this address: the default standing before it, in the innermost body around it that has one
abbrev pub nearest_default : List ℕ → Items → List ℕ → Option Value
nearest_default [] t p = None
nearest_default (i ∷ a) t p = option_or (option_and_then (λ b. nearest_default a b p) (inner i t)) (last_default p i t)

-- what the text says of the component that the item at c holds: its own assignment, or else the nearest default
abbrev pub stated_value : Items → List ℕ → List ℕ → Option Value
stated_value d c p = option_or (option_and_then (own_value p) (body_at c d)) (nearest_default c d p)

-- the built-in value, which for `accesswidth` is the regwidth
abbrev pub built_in_value : Items → List ℕ → Property → Option Value
built_in_value d c Accesswidth = option_or (stated_value d c (row Regwidth).name) (row Regwidth).built_in
built_in_value d c p = (row p).built_in

abbrev pub component_value : Items → List ℕ → Property → Option Value
component_value d c p = option_or (stated_value d c (row p).name) (built_in_value d c p)

abbrev pub same_path : List (List ℕ) → List (List ℕ) → Bool
same_path = pointwise (pointwise nat_eq)

abbrev pub leads_to : List (List ℕ) → Option (List (List ℕ)) → Bool
leads_to path None = false
leads_to path (Some found) = same_path found path

abbrev pub assigns : Items → List ℕ → ℕ → List ℕ → List (List ℕ) → Plain → Option Value
assigns d b n p path (dynamic t q v) = if bytes_eq q p && leads_to path (passes d b n t) then Some v else None
assigns d b n p path (named s t) = None
assigns d b n p path (own q v) = None
assigns d b n p path (default q v) = None

-- the dynamic assignment of p, in the items from number n on of the body at b, whose target passes exactly this path
abbrev pub assigned_in : Items → List ℕ → ℕ → List ℕ → List (List ℕ) → Items → Option Value
assigned_in d b n p path no_items = None
assigned_in d b n p path (plain x rest) = option_or (assigns d b n p path x) (assigned_in d b (suc n) p path rest)
assigned_in d b n p path (holder h body rest) = assigned_in d b (suc n) p path rest

-- the one in the outermost body of the path first; a path is the list of the addresses of its instance items
abbrev pub assigned : Items → List ℕ → List (List ℕ) → Option Value
assigned d p [] = None
assigned d p (a ∷ path) = option_or (option_and_then (λ t. assigned_in d (body_of a) 0 p (a ∷ path) t) (body_at (body_of a) d)) (assigned d p path)

-- the number behind the `=` of an instance
abbrev pub item_reset : Item → Option Value
item_reset (Instance s o) = option_map Number s.reset
item_reset (Define n c) = None
item_reset (Own p v) = None
item_reset (Default p v) = None
item_reset (Dynamic t p v) = None

abbrev pub instance_reset : Items → Property → List (List ℕ) → Option Value
instance_reset d Reset [] = None
instance_reset d Reset (a ∷ []) = option_and_then item_reset (item_at a d)
instance_reset d Reset (a ∷ b ∷ path) = instance_reset d Reset (b ∷ path)
instance_reset d p path = None

-- the five rules in their order: for the path, which ends at the component that the item at c holds
abbrev pub path_value : Items → List (List ℕ) → List ℕ → Property → Option Value
path_value d path c p = option_or (assigned d (row p).name path) (option_or (instance_reset d p path) (component_value d c p))

-- a boolean is shown as true or false
abbrev pub is_false : Value → Bool
is_false (Boolean b) = not b
is_false (Number n) = n == 0
is_false (Text t) = false
is_false (Word w) = false

abbrev pub shown : Form → Value → Value
shown Booleans v = Boolean (not (is_false v))
shown OnlyTrue v = Boolean (not (is_false v))
shown form v = v

-- the instances along the names below the component at top
abbrev pub path_below : Items → List ℕ → List (List ℕ) → Option (List (List ℕ))
path_below d top [] = Some []
path_below d top (name ∷ names) = passes d top (items_in top d) (name ∷ names)

-- the item that holds the component at the end of a path
abbrev pub end_of : Items → List ℕ → List (List ℕ) → Option (List ℕ)
end_of d top [] = Some top
end_of d top (a ∷ []) = component_of d a
end_of d top (a ∷ b ∷ path) = end_of d top (b ∷ path)

abbrev pub value_of_kind : Items → List (List ℕ) → List ℕ → Property → Component → Option Value
value_of_kind d path c p k = if on p k.kind then option_map (shown (row p).form) (path_value d path c p) else None

abbrev pub value_along : Items → List ℕ → Property → List (List ℕ) → Option Value
value_along d top p path = option_and_then (λ c. option_and_then (value_of_kind d path c p) (component_at d c)) (end_of d top path)

abbrev pub is_define : Option Item → Bool
is_define (Some (Define n c)) = true
is_define x = false

-- the value of the property of this name of the instance path below the definition at top, as a row holds it
abbrev pub value : Items → List ℕ → List (List ℕ) → List ℕ → Option Value
value d top names name =
    if is_define (item_at top d) then option_and_then (λ p. option_and_then (value_along d top p) (path_below d top names)) (property_of name) else None
