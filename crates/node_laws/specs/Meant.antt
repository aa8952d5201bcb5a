-- What is kept of a component is what stands at its address, and what its body sees is what stands around it.
-- SystemRDL 2.0, clause 5: a definition stands before its use, and a default before what it reaches. own: what is kept of a component.
use Rattle.std.specs.Prelude.{◌≡◌, ℕ, min, List, [], ◌∷◌}
use Rattle.std.specs.Option.{is_some}
use Rattle.rdl_tree.specs.Depth.{depth}
use Rattle.rdl_scope.specs.Closed.{Made, Standing}
use Rattle.rdl_elab.specs.Faults as fault
use Rattle.rdl_elab.specs.Faults.{count, first_empty}
use Rattle.rdl_seen.specs.declared.seen.Seen.{Seen}
use Rattle.rdl_seen.specs.Layouts.{sizes, accesses}
use Rattle.rdl_seen.specs.Meaning.{defaults_of, stated_of, HasValues}
use Rattle.rdl_seen.specs.Node as node
use Rattle.rdl_seen.specs.Node.{Known, Around}
use Rattle.rdl_seen.specs.Slots.{Core}
use Rattle.rdl_seen.specs.Values.{access}
use Rattle.node_laws.specs.Seen.{layouts_seen, within_seen}
use Rattle.node_laws.specs.Sound.{apart_seen, sound_seen}

-- this is seen of the component: its kind, how deep its body nests, its levels and its rows, each as far as it is told apart, whether
-- it is a register file or an address map without instances and whether one is inside, its sizes and widest accesses, whether its
-- fields share no bit, how software accesses a field and how many bits its reset needs, and in which modes no row below it can have a
-- fault
pub record IsSeen (m : Made) (s : Seen) : Type 0 where
  pub kind : s.kind ≡ m.head.kind
  pub depth : s.depth ≡ min (depth m.head.body) 255
  pub levels : s.levels ≡ min (fault.levels m.parts) 16
  pub rows : s.rows ≡ min (count m.parts) 65536
  pub is_empty : s.is_empty ≡ fault.is_empty m.head.kind m.parts
  pub has_empty : s.has_empty ≡ is_some (first_empty m.parts)
  pub size : s.size ≡ sizes (layouts_seen m)
  pub widest : s.widest ≡ accesses (layouts_seen m)
  pub is_ordered : s.is_ordered ≡ node.is_ordered m.head.kind (layouts_seen m)
  pub access : s.access ≡ access (stated_of m.head)
  pub reset : s.reset ≡ (stated_of m.head).reset
  pub sound : s.sound ≡ sound_seen m

-- this is kept of the component but for its items: what is seen of it, its layouts, the modes in which its instances lie apart, and
-- as its values what is stated of it, which with the built-in values are those that it has
pub record IsCore (m : Made) (c : Core) : Type 0 where
  pub seen : IsSeen m c.seen
  pub layouts : c.layouts ≡ layouts_seen m
  pub apart : c.apart ≡ apart_seen m
  pub stated : c.values ≡ stated_of m.head
  pub whole : HasValues m.head c.values

-- this is known of a type
pub record IsKnown (m : Made) (k : Known) : Type 0 where
  pub seen : IsSeen m k.seen
  pub within : k.within ≡ within_seen m

-- the types, name by name, with what is known of each
abbrev pub AreKnown : List (List ℕ × Made) → List (List ℕ × Known) → Type 0
AreKnown [] [] = Unit {0}
AreKnown (x ∷ xs) [] = ⊥
AreKnown [] (y ∷ ys) = ⊥
AreKnown (x ∷ xs) (y ∷ ys) = (x.0 ≡ y.0) × IsKnown x.1 y.1 × AreKnown xs ys

-- a body sees the types and the defaults that stand before an item
pub record MeansAll (e : Standing) (a : Around) : Type 0 where
  pub types : AreKnown e.types a.types
  pub defaults : a.defaults ≡ defaults_of e.defaults
