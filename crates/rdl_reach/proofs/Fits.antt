-- The slots that are kept of a body have the shape of its items.
use Rattle.std.proofs.Common.{◌≡◌, ℕ, zero, suc, Bool, true, false, Some, refl, sym, ap, subst, ◌∙◌}
use Rattle.std.proofs.lemmas.Option.{same_Some}
use Rattle.rdl_tree.specs.Address.{inner}
use Rattle.rdl_tree.specs.Component.{own_component, holder_kind}
use Rattle.rdl_tree.specs.Items.{Items, no_items, plain, holder, Plain, named, own, default, dynamic, Holder, define, anonymous}
use Rattle.rdl_tree.specs.View.{plain_item, holder_item}
use Rattle.rdl_tree.specs.declared.description.Component.{Component}
use Rattle.rdl_tree.specs.declared.description.Item.{Item}
use Rattle.rdl_tree.specs.declared.shell.Kind.TheVariants.{Addrmap, Regfile, Reg, Field}
use Rattle.rdl_marks.specs.Describes.{IsItem}
use Rattle.rdl_seen.specs.Inside.{Inside, no_instances}
use Rattle.rdl_seen.specs.Layouts.{Laying}
use Rattle.rdl_seen.specs.Meaning.{kept_at}
use Rattle.rdl_seen.specs.Node.{Around, after_plain, plain_instances, after_holder, holder_instances, holder_slots, walked, node, known}
use Rattle.rdl_seen.specs.Slots.{Core, Slots, no_slots, slot, written, Node}
use Rattle.node_laws.specs.Kept.{is_field, is_field_here}

abbrev pub is_field_holder : Holder → Bool
is_field_holder (define n k) = false
is_field_holder (anonymous s k) = is_field k

-- an item with a component has a node, but for a field that is written where it is instantiated; and so inside it
abbrev pub Fit : Items → Slots → Type 0
Fit no_items no_slots = Unit {0}
Fit no_items (slot x s) = ⊥
Fit no_items (written w c inside s) = ⊥
Fit (plain p rest) no_slots = ⊥
Fit (plain p rest) (slot x s) = Fit rest s
Fit (plain p rest) (written w c inside s) = ⊥
Fit (holder h body rest) no_slots = ⊥
Fit (holder h body rest) (slot x s) = (is_field_holder h ≡ true) × Fit rest s
Fit (holder h body rest) (written w c inside s) = (is_field_holder h ≡ false) × Fit body inside × Fit rest s

holder_fits : (h : Holder) (body rest : Items) (c : Core) (s more : Slots) → Fit body s → Fit rest more → Fit (holder h body rest) (holder_slots h body c s more)
holder_fits (define n k) body rest c s more f g = (refl, f, g)
holder_fits (anonymous z Addrmap) body rest c s more f g = (refl, f, g)
holder_fits (anonymous z Regfile) body rest c s more f g = (refl, f, g)
holder_fits (anonymous z Reg) body rest c s more f g = (refl, f, g)
holder_fits (anonymous z Field) body rest c s more f g = (refl, g)

pub walked_fits : (lay : Laying) (t : Items) (a : Around) (before : Inside) → Fit t (walked lay a before t).slots
walked_fits lay no_items a before = tt
walked_fits lay (plain p rest) a before = walked_fits lay rest (after_plain p a) (plain_instances a p before)
walked_fits lay (holder h body rest) a before =
    let k = known lay a (holder_kind h) body in
    holder_fits h body rest (node lay a (holder_kind h) body).core (walked lay a no_instances body).slots (walked lay (after_holder h k a) (holder_instances h k before) rest).slots
    (walked_fits lay body a no_instances) (walked_fits lay rest (after_holder h k a) (holder_instances h k before))

-- ---- One item.

plain_own : (p : Plain) (c : Component) → own_component (plain_item p) ≡ Some c → ⊥
plain_own (named s t) c e = cc
plain_own (own p v) c e = cc
plain_own (default p v) c e = cc
plain_own (dynamic t p v) c e = cc

holder_own : (h : Holder) (body : Items) (c : Component) → own_component (holder_item h body) ≡ Some c → body ≡ c.body
holder_own (define n k) body c e = let same : record { kind = k; body = body } ≡ c = cc in ap (λ (d : Component). d.body) same
holder_own (anonymous s k) body c e = let same : record { kind = k; body = body } ≡ c = cc in ap (λ (d : Component). d.body) same

holder_field : (h : Holder) (body : Items) → is_field_here (holder_item h body) ≡ is_field_holder h
holder_field (define n k) body = refl
holder_field (anonymous s k) body = refl

plain_field : (p : Plain) → is_field_here (plain_item p) ≡ false
plain_field (named s t) = refl
plain_field (own p v) = refl
plain_field (default p v) = refl
plain_field (dynamic t p v) = refl

-- the node of an item is kept
pub record IsKeptAt (i : ℕ) (s : Slots) (body : Items) : Type 0 where
  pub node : Node
  pub there : kept_at i s ≡ Some node
  pub fit : Fit body node.slots

pub kept_there : (i : ℕ) (t : Items) (s : Slots) (y : Item) (c : Component) → Fit t s → IsItem i t y → is_field_here y ≡ false → own_component y ≡ Some c → IsKeptAt i s c.body
kept_there i no_items s y c f is other has = absurd cc
kept_there i (plain p rest) no_slots y c f is other has = absurd f
kept_there i (plain p rest) (written w k inside s) y c f is other has = absurd f
kept_there zero (plain p rest) (slot x s) y c f is other has = absurd (plain_own p c (ap own_component (same_Some (plain_item p) y is) ∙ has))
kept_there (suc i) (plain p rest) (slot x s) y c f is other has =
    let k = kept_there i rest s y c f is other has in record { node = k.node; there = k.there; fit = k.fit }
kept_there i (holder h body rest) no_slots y c f is other has = absurd f
kept_there zero (holder h body rest) (slot x s) y c f is other has =
    absurd (let no : true ≡ false = sym f.0 ∙ sym (holder_field h body) ∙ ap is_field_here (same_Some (holder_item h body) y is) ∙ other in cc)
kept_there (suc i) (holder h body rest) (slot x s) y c f is other has =
    let k = kept_there i rest s y c f.1 is other has in record { node = k.node; there = k.there; fit = k.fit }
kept_there zero (holder h body rest) (written w k inside s) y c f is other has =
    record { node = record { core = k; slots = inside }; there = refl; fit = subst (λ b. Fit b inside) (holder_own h body c (ap own_component (same_Some (holder_item h body) y is) ∙ has)) f.1 }
kept_there (suc i) (holder h body rest) (written w k inside s) y c f is other has =
    let n = kept_there i rest s y c f.2 is other has in record { node = n.node; there = n.there; fit = n.fit }

-- an item with a node is no such field
pub no_field : (i : ℕ) (t : Items) (s : Slots) (y : Item) (n : Node) → Fit t s → IsItem i t y → kept_at i s ≡ Some n → is_field_here y ≡ false
no_field i no_items s y n f is e = absurd cc
no_field i (plain p rest) no_slots y n f is e = absurd f
no_field i (plain p rest) (written w k inside s) y n f is e = absurd f
no_field zero (plain p rest) (slot x s) y n f is e = ap is_field_here (sym (same_Some (plain_item p) y is)) ∙ plain_field p
no_field (suc i) (plain p rest) (slot x s) y n f is e = no_field i rest s y n f is e
no_field i (holder h body rest) no_slots y n f is e = absurd f
no_field zero (holder h body rest) (slot x s) y n f is e = absurd cc
no_field (suc i) (holder h body rest) (slot x s) y n f is e = no_field i rest s y n f.1 is e
no_field zero (holder h body rest) (written w k inside s) y n f is e = ap is_field_here (sym (same_Some (holder_item h body) y is)) ∙ holder_field h body ∙ f.0
no_field (suc i) (holder h body rest) (written w k inside s) y n f is e = no_field i rest s y n f.2 is e

-- and its slots have the shape of what is inside it
pub inside_fits : (i : ℕ) (t : Items) (s : Slots) (body : Items) (n : Node) → Fit t s → inner i t ≡ Some body → kept_at i s ≡ Some n → Fit body n.slots
inside_fits i no_items s body n f is e = absurd cc
inside_fits i (plain p rest) no_slots body n f is e = absurd f
inside_fits i (plain p rest) (written w k inside s) body n f is e = absurd f
inside_fits zero (plain p rest) (slot x s) body n f is e = absurd cc
inside_fits (suc i) (plain p rest) (slot x s) body n f is e = inside_fits i rest s body n f is e
inside_fits i (holder h b rest) no_slots body n f is e = absurd f
inside_fits zero (holder h b rest) (slot x s) body n f is e = absurd cc
inside_fits (suc i) (holder h b rest) (slot x s) body n f is e = inside_fits i rest s body n f.1 is e
inside_fits zero (holder h b rest) (written w k inside s) body n f is e =
    let same : b ≡ body = cc in
    let slots : ◌≡◌ {A = Node} (record { core = k; slots = inside }) n = cc in
    subst (λ (m : Node). Fit body m.slots) slots (subst (λ b. Fit b inside) same f.1)
inside_fits (suc i) (holder h b rest) (written w k inside s) body n f is e = inside_fits i rest s body n f.2 is e
