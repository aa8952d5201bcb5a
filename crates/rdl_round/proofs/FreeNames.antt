-- The names of a map that a text can spell aren't reserved.
use Rattle.rdl_tree.specs.Items.{Items, Plain, named, own, default, dynamic, Holder, define, anonymous}
use Rattle.rdl_round.specs.Spellable.{IsFree, IsPlain, IsHolder, IsSpellable}
use Rattle.rdl_round.proofs.Bodies.{each-spellable}
use Rattle.rdl_round.proofs.Each.{Each, weaker}

-- ---- Names alone: of definitions, of instances and of their types. Nothing is asked of properties and targets.

abbrev pub HasFreeNames : Plain → Type 0
HasFreeNames (named s t) = IsFree s.name × IsFree t
HasFreeNames (own p v) = Unit {0}
HasFreeNames (default p v) = Unit {0}
HasFreeNames (dynamic t p v) = Unit {0}

abbrev pub HasFreeName : Holder → Type 0
HasFreeName (define n k) = IsFree n
HasFreeName (anonymous s k) = IsFree s.name

abbrev pub AreNamesFree : Items → Type 0
AreNamesFree = Each HasFreeNames HasFreeName

plain-free : (p : Plain) → IsPlain p → HasFreeNames p
plain-free (named s t) h = (h.1.free, h.0)
plain-free (own p v) h = tt
plain-free (default p v) h = tt
plain-free (dynamic t p v) h = tt

holder-free : (h : Holder) → IsHolder h → HasFreeName h
holder-free (define n k) f = f
holder-free (anonymous s k) f = f.free

pub spellable-free : (t : Items) → IsSpellable t → AreNamesFree t
spellable-free t h = weaker IsPlain HasFreeNames IsHolder HasFreeName plain-free holder-free t (each-spellable t h)
