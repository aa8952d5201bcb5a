-- Where an item or a body stood before a step, told by the step's marks.
-- own: SystemRDL 2.0 has no edits.
use Rattle.std.specs.Prelude.{ℕ, List, [], ◌∷◌, Option, Some, None, option_map}
use Rattle.rdl_marks.specs.Marks.{Marks}
use Rattle.rdl_marks.specs.View.{Trace, new_item, old_item}
use Rattle.rdl_marks.specs.Was.{trace_of}

-- the number that an item had, and then what the marks inside it tell; nothing of one that came
abbrev pub number_then : (Marks → Option (List ℕ)) → Option Trace → Option (List ℕ)
number_then f None = None
number_then f (Some new_item) = None
number_then f (Some (old_item number firsts inside)) = option_map (λ b. number ∷ b) (f inside)

-- the address, before the step, of the item or body that has this one after it; a moved one has the address that it had
abbrev pub address_before : Marks → List ℕ → Option (List ℕ)
address_before m [] = Some []
address_before m (i ∷ a) = number_then (λ inside. address_before inside a) (trace_of m i)
