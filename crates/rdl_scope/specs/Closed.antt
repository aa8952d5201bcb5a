-- A component with all that it takes from around it: each instance with the component of its type, and the defaults that reach it.
-- own: SystemRDL 2.0 speaks of definitions and scopes; this is the form on which sizes, starts and rows recurse.
-- The contract of `components_are_as_found` says that it is what the searches through whole bodies find.
use Rattle.std.specs.Prelude.{◌≡◌, ℕ, zero, suc, List, [], ◌∷◌, ◌++◌, Option, Some, None, option_and_then, bytes_eq, if◌then◌else◌}
use Rattle.std.specs.Option.{option_or}
use Rattle.rdl_tree.specs.Items.{Items, no_items, plain, holder, Plain, named, own, default, dynamic, Holder, define, anonymous}
use Rattle.rdl_tree.specs.declared.shell.Kind.{Kind}
use Rattle.rdl_tree.specs.declared.shell.Shell.{Shell}
use Rattle.rdl_tree.specs.declared.value.Value.{Value}
use Rattle.rdl_tree.specs.Properties.{row}
use Rattle.rdl_tree.specs.declared.property.Property.{Property}
use Rattle.rdl_tree.specs.declared.property.Property.TheVariants.{Regwidth, Accesswidth}
use Rattle.rdl_tree.specs.Component.{holder_kind}
use Rattle.rdl_tree.specs.Address.{inner, body_at}
use Rattle.rdl_scope.specs.Types.{component_of, component_at}
use Rattle.rdl_scope.specs.Value.{own_value, nearest_default}

-- a component without its instances: where it is written, its kind, its own assignments and the defaults that reach it
pub record Head : Type 0 where
  pub at : List ℕ
  pub kind : Kind
  pub body : Items
  pub defaults : List (List ℕ × Value)

-- the instances of a body in order, each with its component
pub data Parts : Type 0 where
  no_parts : Parts
  part : (at : List ℕ) → Shell → Head → (inside : Parts) → (rest : Parts) → Parts

pub record Made : Type 0 where
  pub head : Head
  pub parts : Parts

-- what stands before an item, the nearest first
pub record Standing : Type 0 where
  pub types : List (List ℕ × Made)
  pub defaults : List (List ℕ × Value)

abbrev pub lookup : {X : Type 0} → List ℕ → List (List ℕ × X) → Option X
lookup name [] = None
lookup name (e ∷ es) = if bytes_eq e.0 name then Some e.1 else lookup name es

abbrev pub nothing : Standing
nothing = record { types = []; defaults = [] }

abbrev pub with_default : List ℕ → Value → Standing → Standing
with_default p v s = record s { defaults = (p, v) ∷ s.defaults }

abbrev pub with_type : List ℕ → Made → Standing → Standing
with_type name m s = record s { types = (name, m) ∷ s.types }

abbrev pub head_at : List ℕ → Kind → Items → Standing → Head
head_at at k body s = record { at = at; kind = k; body = body; defaults = s.defaults }

abbrev pub after_plain : Plain → Standing → Standing
after_plain (named s t) e = e
after_plain (own p v) e = e
after_plain (default p v) e = with_default p v e
after_plain (dynamic t p v) e = e

abbrev pub with_made : List ℕ → Shell → Option Made → Parts → Parts
with_made at s None rest = rest
with_made at s (Some m) rest = part at s m.head m.parts rest

abbrev pub plain_part : Standing → List ℕ → Plain → Parts → Parts
plain_part e at (named s t) rest = with_made at s (lookup t e.types) rest
plain_part e at (own p v) rest = rest
plain_part e at (default p v) rest = rest
plain_part e at (dynamic t p v) rest = rest

abbrev pub after_holder : Holder → List ℕ → Items → Parts → Standing → Standing
after_holder (define n k) at body inside e = with_type n (record { head = head_at at k body e; parts = inside }) e
after_holder (anonymous s k) at body inside e = e

abbrev pub holder_part : Standing → List ℕ → Holder → Items → Parts → Parts → Parts
holder_part e at (define n k) body inside rest = rest
holder_part e at (anonymous s k) body inside rest = part at s (head_at at k body e) inside rest

-- the instances among the items from number n on of the body at b
abbrev pub parts : Standing → List ℕ → ℕ → Items → Parts
parts e b n no_items = no_parts
parts e b n (plain p rest) = plain_part e (b ++ n ∷ []) p (parts (after_plain p e) b (suc n) rest)
parts e b n (holder h body rest) =
    holder_part e (b ++ n ∷ []) h body (parts e (b ++ n ∷ []) 0 body)
    (parts (after_holder h (b ++ n ∷ []) body (parts e (b ++ n ∷ []) 0 body) e) b (suc n) rest)

-- its own assignment, or else the nearest default
abbrev pub stated : Head → List ℕ → Option Value
stated h name = option_or (own_value name h.body) (lookup name h.defaults)

abbrev pub built_in : Head → Property → Option Value
built_in h Accesswidth = option_or (stated h (row Regwidth).name) (row Regwidth).built_in
built_in h p = (row p).built_in

-- own assignment, nearest default, built-in value
abbrev pub head_value : Head → Property → Option Value
head_value h p = option_or (stated h (row p).name) (built_in h p)

-- what stands at the end of a body
abbrev pub standing : Standing → List ℕ → ℕ → Items → Standing
standing e b n no_items = e
standing e b n (plain p rest) = standing (after_plain p e) b (suc n) rest
standing e b n (holder h body rest) = standing (after_holder h (b ++ n ∷ []) body (parts e (b ++ n ∷ []) 0 body) e) b (suc n) rest

-- the definition of the name in the root body
abbrev pub root_type : Items → List ℕ → Option Made
root_type d name = lookup name (standing nothing [] 0 d).types

-- what stands before item i of a body
abbrev pub before : ℕ → Standing → List ℕ → ℕ → Items → Standing
before zero e b n t = e
before (suc i) e b n no_items = e
before (suc i) e b n (plain p rest) = before i (after_plain p e) b (suc n) rest
before (suc i) e b n (holder h body rest) = before i (after_holder h (b ++ n ∷ []) body (parts e (b ++ n ∷ []) 0 body) e) b (suc n) rest

-- the component of item i of a body
abbrev pub component_in : ℕ → Standing → List ℕ → ℕ → Items → Option Made
component_in i e b n no_items = None
component_in zero e b n (plain p rest) = None
component_in zero e b n (holder h body rest) = Some (record { head = head_at (b ++ n ∷ []) (holder_kind h) body e; parts = parts e (b ++ n ∷ []) 0 body })
component_in (suc i) e b n (plain p rest) = component_in i (after_plain p e) b (suc n) rest
component_in (suc i) e b n (holder h body rest) = component_in i (after_holder h (b ++ n ∷ []) body (parts e (b ++ n ∷ []) 0 body) e) b (suc n) rest

-- what stands before the item at this address in the body at b
abbrev pub standing_at : Standing → List ℕ → List ℕ → Items → Option Standing
standing_at e b [] t = None
standing_at e b (i ∷ []) t = Some (before i e b 0 t)
standing_at e b (i ∷ j ∷ a) t = option_and_then (standing_at (before i e b 0 t) (b ++ i ∷ []) (j ∷ a)) (inner i t)

-- the component that the item at this address holds
abbrev pub closed : Standing → List ℕ → List ℕ → Items → Option Made
closed e b [] t = None
closed e b (i ∷ []) t = component_in i e b 0 t
closed e b (i ∷ j ∷ a) t = option_and_then (closed (before i e b 0 t) (b ++ i ∷ []) (j ∷ a)) (inner i t)

abbrev pub component : Items → List ℕ → Option Made
component d a = closed nothing [] a d

-- what a value, if there is one, leads to, or else this
abbrev pub option_else : {X Y : Type 0} → Option X → (X → Option Y) → Option Y → Option Y
option_else None f y = y
option_else (Some x) f y = f x

-- the instance item at this address, with the component to which the search through whole bodies leads
abbrev pub found_part : Items → List ℕ → Shell → Parts → Parts
found_part d at s rest = with_made at s (option_and_then (component d) (component_of d at)) rest

abbrev pub plain_found : Items → List ℕ → Plain → Parts → Parts
plain_found d at (named s t) rest = found_part d at s rest
plain_found d at (own p v) rest = rest
plain_found d at (default p v) rest = rest
plain_found d at (dynamic t p v) rest = rest

abbrev pub holder_found : Items → List ℕ → Holder → Parts → Parts
holder_found d at (define n k) rest = rest
holder_found d at (anonymous s k) rest = found_part d at s rest

-- the instances among the items from number n on of the body at b, each with the component that the search finds
abbrev pub instances : Items → List ℕ → ℕ → Items → Parts
instances d b n no_items = no_parts
instances d b n (plain p rest) = plain_found d (b ++ n ∷ []) p (instances d b (suc n) rest)
instances d b n (holder h body rest) = holder_found d (b ++ n ∷ []) h (instances d b (suc n) rest)

-- a component is as the searches say: the one at an address that holds one
pub record IsAsFound (d : Items) (a : List ℕ) (m : Made) : Type 0 where
  pub place : m.head.at ≡ a
  pub body : body_at a d ≡ Some m.head.body
  pub component : component_at d a ≡ Some (record { kind = m.head.kind; body = m.head.body })
  pub parts : m.parts ≡ instances d a 0 m.head.body
  pub defaults : (p : List ℕ) → lookup p m.head.defaults ≡ nearest_default a d p
