-- The instances of a body, with what is seen of their components.
-- own: SystemRDL 2.0 speaks of definitions and scopes; this is what a body and its slots tell.
use Rattle.std.specs.Prelude.{ℕ, suc, List, [], ◌∷◌, Option, Some, None}
use Rattle.rdl_tree.specs.Items.{Items, no_items, plain, holder, Plain, named, own, default, dynamic, Holder, define, anonymous}
use Rattle.rdl_tree.specs.declared.description.Item.{Item}
use Rattle.rdl_tree.specs.declared.description.Item.TheVariants.{Define, Instance, Own, Default, Dynamic}
use Rattle.rdl_tree.specs.declared.shell.Shell.{Shell}
use Rattle.rdl_seen.specs.declared.seen.Seen.{Seen}
use Rattle.rdl_seen.specs.Fields.{Of, of_field, of_seen, of_none, first_of, rest_of}
use Rattle.rdl_seen.specs.Slots.{Slots}

-- an instance: the number of its item, its shell, and what is seen of its component, if that is no field that is written there
pub record SeenInstance : Type 0 where
  pub number : ℕ
  pub shell : Shell
  pub seen : Option Seen

abbrev pub seen_in : Of → Option Seen
seen_in (of_field f) = None
seen_in (of_seen s) = Some s
seen_in of_none = None

abbrev pub seen_instance : ℕ → Shell → Of → SeenInstance
seen_instance n s o = record { number = n; shell = s; seen = seen_in o }

abbrev pub plain_instance : ℕ → Plain → Of → List SeenInstance → List SeenInstance
plain_instance n (named s t) o more = seen_instance n s o ∷ more
plain_instance n (own p v) o more = more
plain_instance n (default p v) o more = more
plain_instance n (dynamic t p v) o more = more

abbrev pub holder_instance : ℕ → Holder → Of → List SeenInstance → List SeenInstance
holder_instance n (define m k) o more = more
holder_instance n (anonymous s k) o more = seen_instance n s o ∷ more

-- those among the items from number n on
abbrev pub instances_from : ℕ → Items → Slots → List SeenInstance
instances_from n no_items s = []
instances_from n (plain p rest) s = plain_instance n p (first_of s) (instances_from (suc n) rest (rest_of s))
instances_from n (holder h body rest) s = holder_instance n h (first_of s) (instances_from (suc n) rest (rest_of s))

-- an item, if it is an instance
abbrev pub item_instances : ℕ → Item → Of → List SeenInstance
item_instances n (Define m c) o = []
item_instances n (Instance s of) o = seen_instance n s o ∷ []
item_instances n (Own p v) o = []
item_instances n (Default p v) o = []
item_instances n (Dynamic t p v) o = []
