-- What follows the name of an item: every type reference that leads to a definition, every name in a target that stands
-- for an instance. What leads where is as it was before the edit.
-- own: SystemRDL 2.0 has no edits.
use Rattle.std.specs.Prelude.{ℕ, suc, if◌then◌else◌, Bool, true, false, not, List, [], ◌∷◌, ◌++◌, Option, Some, None, Result, Ok, Err}
use Rattle.rdl_tree.specs.ItemAt.{item_at}
use Rattle.rdl_tree.specs.Items.{Items, no_items, plain, holder, Plain, named, own, default, dynamic, Holder, define, anonymous}
use Rattle.rdl_tree.specs.View.{list_of}
use Rattle.rdl_tree.specs.Address.{holder_of, body_at}
use Rattle.rdl_tree.specs.declared.description.Item.{Item}
use Rattle.rdl_tree.specs.declared.description.Item.TheVariants.{Define, Instance}
use Rattle.rdl_tree.specs.declared.shell.Shell.{Shell}
use Rattle.rdl_parse.specs.Class.{class}
use Rattle.rdl_parse.specs.declared.class.Class.{Class}
use Rattle.rdl_parse.specs.declared.class.Class.TheVariants.{Name}
use Rattle.rdl_scope.specs.Types.{type_of}
use Rattle.rdl_scope.specs.Target.{through}
use Rattle.rdl_rewrite.specs.Addresses.{same, leads_to}
use Rattle.rdl_rewrite.specs.Names.{defined_names, instance_names, has_name}
use Rattle.rdl_rewrite.specs.declared.edit.PatchRefusal.{PatchRefusal}
use Rattle.rdl_rewrite.specs.declared.edit.PatchRefusal.TheVariants.{NameTaken, Reserved}

-- ---- The names that follow.

-- each name of a target with the instance for which it stands
abbrev pub renamed_names : (way name : List ℕ) → (path : List (List ℕ)) → List (List ℕ) → List (List ℕ)
renamed_names way name (at ∷ path) (n ∷ names) = (if same at way then name else n) ∷ renamed_names way name path names
renamed_names way name path names = names

abbrev pub renamed_target : (way name : List ℕ) → Option (List (List ℕ)) → List (List ℕ) → List (List ℕ)
renamed_target way name None target = target
renamed_target way name (Some path) target = renamed_names way name path target

abbrev pub renamed_shell : (way name : List ℕ) → (at : List ℕ) → Shell → Shell
renamed_shell way name at s = if same at way then record s { name = name } else s

-- the item at this address, without its body
abbrev pub renamed_plain : (whole : Items) → (way name : List ℕ) → (at : List ℕ) → Plain → Plain
renamed_plain whole way name at (named s type) = named (renamed_shell way name at s) (if leads_to way (type_of whole at) then name else type)
renamed_plain whole way name at (dynamic target p v) = dynamic (renamed_target way name (through whole at) target) p v
renamed_plain whole way name at (own p v) = own p v
renamed_plain whole way name at (default p v) = default p v

abbrev pub renamed_holder : (way name : List ℕ) → (at : List ℕ) → Holder → Holder
renamed_holder way name at (define n kind) = define (if same at way then name else n) kind
renamed_holder way name at (anonymous s kind) = anonymous (renamed_shell way name at s) kind

-- the items from number n on of the body at b
abbrev pub renamed_items : (whole : Items) → (way name : List ℕ) → List ℕ → ℕ → Items → Items
renamed_items whole way name b n no_items = no_items
renamed_items whole way name b n (plain p rest) = plain (renamed_plain whole way name (b ++ n ∷ []) p) (renamed_items whole way name b (suc n) rest)
renamed_items whole way name b n (holder h body rest) =
    holder (renamed_holder way name (b ++ n ∷ []) h) (renamed_items whole way name (b ++ n ∷ []) 0 body) (renamed_items whole way name b (suc n) rest)

-- ---- The names that may not be given.

abbrev pub is_name : Class → Bool
is_name Name = true
is_name c = false

-- a reserved word of the language
abbrev pub is_reserved : List ℕ → Bool
is_reserved name = not (is_name (class name))

-- the names of the instances in a body
abbrev pub names_in : Option Items → List (List ℕ)
names_in None = []
names_in (Some body) = instance_names (list_of body)

-- the name of a definition anywhere, or of an instance in the same body; the item's own name is one of them
abbrev pub is_taken : (whole : Items) → (way name : List ℕ) → Option Item → Bool
is_taken whole way name (Some (Define n c)) = has_name name (defined_names whole)
is_taken whole way name (Some (Instance s of)) = has_name name (names_in (body_at (holder_of way) whole))
is_taken whole way name x = false

abbrev pub renamed : (whole : Items) → (way name : List ℕ) → Result Items PatchRefusal
renamed whole way name =
    if is_taken whole way name (item_at way whole) then Err NameTaken
    else if is_reserved name then Err Reserved
    else Ok (renamed_items whole way name [] 0 whole)
