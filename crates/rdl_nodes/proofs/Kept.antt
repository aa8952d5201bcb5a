-- What is kept of a component, by what the code folds of its items and parts.
use Rattle.std.proofs.Common.{◌≡◌, List, ◌∷◌, refl, ap, ◌∙◌}
use Rattle.std.specs.Prelude.{map}
use Rattle.rdl_tree.specs.Items.{Items, no_items, plain, holder, named, own, default, dynamic, define, anonymous}
use Rattle.rdl_tree.specs.declared.shell.Shell.{Shell}
use Rattle.rdl_seen.specs.declared.values.Values.{Values}
use Rattle.rdl_seen.specs.Fields.{Of, each, first_of, rest_of, after_default, members, resets, accesses}
use Rattle.rdl_seen.specs.Slots.{Slots}
use Rattle.rdl_nodes.specs.Part.{Part, member_of, reset_of, access_of}
use Rattle.rdl_nodes.specs.Parts.{parts_of}

-- what is made of each part is made of each instance
each-map : {X Y : Type 0} (g : X → Y) (f : Values → Shell → Of → X) (t : Items) (v : Values) (s : Slots) → map g (each f v t s) ≡ each (λ w h o. g (f w h o)) v t s
each-map g f no_items v s = refl
each-map g f (plain (named h t) rest) v s = ap (λ ys. g (f v h (first_of s)) ∷ ys) (each-map g f rest v (rest_of s))
each-map g f (plain (own p x) rest) v s = each-map g f rest v (rest_of s)
each-map g f (plain (default p x) rest) v s = each-map g f rest (after_default (default p x) v) (rest_of s)
each-map g f (plain (dynamic t p x) rest) v s = each-map g f rest v (rest_of s)
each-map g f (holder (define n k) body rest) v s = each-map g f rest v (rest_of s)
each-map g f (holder (anonymous h k) body rest) v s = ap (λ ys. g (f v h (first_of s)) ∷ ys) (each-map g f rest v (rest_of s))

pub members_are : (v : Values) (t : Items) (s : Slots) (ps : List Part) → ps ≡ parts_of v t s → map member_of ps ≡ members v t s
members_are v t s ps e = ap (map member_of) e ∙ each-map member_of _ t v s

pub resets_are : (v : Values) (t : Items) (s : Slots) (ps : List Part) → ps ≡ parts_of v t s → map reset_of ps ≡ resets v t s
resets_are v t s ps e = ap (map reset_of) e ∙ each-map reset_of _ t v s

pub accesses_are : (v : Values) (t : Items) (s : Slots) (ps : List Part) → ps ≡ parts_of v t s → map access_of ps ≡ accesses v t s
accesses_are v t s ps e = ap (map access_of) e ∙ each-map access_of _ t v s
