-- The skeleton of a description: what its layouts depend on, and nothing else. Descriptions of one skeleton have the same layouts.
-- own: SystemRDL 2.0 says how components are laid out, and nothing of edits.
use Rattle.std.specs.Prelude.{ℕ, List, [], ◌∷◌, length, Option, Some, None, bytes_eq, if◌then◌else◌}
use Rattle.rdl_tree.specs.Items.{Items, no_items, plain, holder, named, own, default, dynamic, define, anonymous}
use Rattle.rdl_tree.specs.declared.shell.Shell.{Shell}
use Rattle.rdl_tree.specs.declared.shell.Outside.TheVariants.{Unsaid}
use Rattle.rdl_reach.specs.EditedBodies.{lays_out}

-- an instance without its name, its reset, and whether it is external
abbrev pub skeleton_shell : Shell → Shell
skeleton_shell s = record s { name = []; outside = Unsaid; reset = None }

-- the number of a type among the definitions in scope, of which these are the names, the nearest first; the outermost has number 0
abbrev pub number_in : List (List ℕ) → List ℕ → Option ℕ
number_in [] t = None
number_in (n ∷ scope) t = if bytes_eq n t then Some (length scope) else number_in scope t

-- the name by which a skeleton refers to it
abbrev pub skeleton_type : Option ℕ → List ℕ
skeleton_type None = []
skeleton_type (Some k) = k ∷ []

-- instances keep what is said of their place, and assignments and defaults of properties stay on which layouts depend; a definition goes
-- by the number of those that stand before it in scope, and a reference by that of its type
abbrev pub skeleton_in : List (List ℕ) → Items → Items
skeleton_in scope no_items = no_items
skeleton_in scope (plain (named s t) rest) = plain (named (skeleton_shell s) (skeleton_type (number_in scope t))) (skeleton_in scope rest)
skeleton_in scope (plain (own p v) rest) = if lays_out p then plain (own p v) (skeleton_in scope rest) else skeleton_in scope rest
skeleton_in scope (plain (default p v) rest) = if lays_out p then plain (default p v) (skeleton_in scope rest) else skeleton_in scope rest
skeleton_in scope (plain (dynamic t p v) rest) = skeleton_in scope rest
skeleton_in scope (holder (define n k) body rest) = holder (define (length scope ∷ []) k) (skeleton_in scope body) (skeleton_in (n ∷ scope) rest)
skeleton_in scope (holder (anonymous s k) body rest) = holder (anonymous (skeleton_shell s) k) (skeleton_in scope body) (skeleton_in scope rest)

abbrev pub skeleton : Items → Items
skeleton d = skeleton_in [] d
