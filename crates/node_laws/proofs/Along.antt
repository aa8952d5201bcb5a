-- From body to body down to an address: each body without a fault is one whose items are accepted, and its node is kept.
use Rattle.std.proofs.Common.{◌≡◌, ℕ, zero, suc, ◌+◌, true, false, List, [], ◌∷◌, ◌++◌, Option, Some, None, refl, sym, ap, subst, ◌∙◌, arith}
use Rattle.std.specs.Prelude.{Bool, option_and_then, slice_get}
use Rattle.std.specs.Option.{is_some}
use Rattle.rdl_tree.specs.Address.{inner}
use Rattle.rdl_tree.specs.Component.{holder_kind}
use Rattle.rdl_tree.specs.ItemAt.{item_at}
use Rattle.rdl_tree.specs.Items.{Items, no_items, plain, holder, Holder, define, anonymous}
use Rattle.rdl_tree.specs.View.{list_of}
use Rattle.rdl_tree.specs.declared.shell.Kind.{Kind}
use Rattle.rdl_tree.specs.declared.shell.Kind.TheVariants.{Addrmap, Regfile, Reg, Field}
use Rattle.rdl_scope.specs.Closed.{Made, Standing, head_at, parts, after_plain, after_holder, nothing, before, component_in, closed, component}
use Rattle.rdl_scope.specs.ItemFaults.{fault_of}
use Rattle.rdl_seen.specs.Inside.{Inside, no_instances}
use Rattle.rdl_seen.specs.Layouts.{Laying}
use Rattle.rdl_seen.specs.Meaning.{nothing_around, around_before, kept_at, node_at}
use Rattle.rdl_seen.specs.Node as seen
use Rattle.rdl_seen.specs.Node.{Around, plain_instances, holder_slots, holder_instances, walked, body_of, node, known}
use Rattle.rdl_seen.specs.Slots.{Core, Slots, Node}
use Rattle.rdl_seen.proofs.KeptAt.{kept_are_nodes}
use Rattle.rdl_seen.proofs.Stands.{nodes_have_values}
use Rattle.node_laws.specs.Kept.{is_field_there}
use Rattle.node_laws.specs.Laws.{NodesAreKept}
use Rattle.node_laws.proofs.Accepted.{AreAccepted, fields-hold-nothing, all-accepted}

-- the items inside item i are accepted, as those of a field if it is one that is written where it is instantiated
pub record IsAcceptedInside (e : Standing) (at : List ℕ) (is_field : Bool) (inside : Items) : Type 0 where
  pub kind : Kind
  pub field : is_field ≡ true → kind ≡ Field
  pub accepted : AreAccepted (Some kind) e at 0 inside

first-number : (b : List ℕ) (n : ℕ) → b ++ n ∷ [] ≡ b ++ (n + 0) ∷ []
first-number b n = let e : n ≡ n + 0 = omega arith in ap (λ k. b ++ k ∷ []) e

next-number : (b : List ℕ) (n i : ℕ) → b ++ (suc n + i) ∷ [] ≡ b ++ (n + suc i) ∷ []
next-number b n i = let e : suc n + i ≡ n + suc i = omega arith in ap (λ k. b ++ k ∷ []) e

field-kind : (h : Holder) (body rest : Items) → is_field_there (slice_get (list_of (holder h body rest)) 0) ≡ true → holder_kind h ≡ Field
field-kind (define n k) body rest e = absurd cc
field-kind (anonymous s Addrmap) body rest e = absurd cc
field-kind (anonymous s Regfile) body rest e = absurd cc
field-kind (anonymous s Reg) body rest e = absurd cc
field-kind (anonymous s Field) body rest e = refl

accepted-inside : (i : ℕ) (around : Option Kind) (e : Standing) (b : List ℕ) (n : ℕ) (t inside : Items) → AreAccepted around e b n t → inner i t ≡ Some inside
    → IsAcceptedInside (before i e b n t) (b ++ (n + i) ∷ []) (is_field_there (slice_get (list_of t) i)) inside
accepted-inside i around e b n no_items inside h is = absurd cc
accepted-inside zero around e b n (plain p rest) inside h is = absurd cc
accepted-inside zero around e b n (holder k body rest) inside h is =
    let same : body ≡ inside = cc in
    record {
      kind = holder_kind k;
      field = field-kind k body rest;
      accepted = subst (λ t. AreAccepted (Some (holder_kind k)) e (b ++ (n + 0) ∷ []) 0 t) same (subst (λ at. AreAccepted (Some (holder_kind k)) e at 0 body) (first-number b n) h.1);
    }
accepted-inside (suc i) around e b n (plain p rest) inside h is =
    subst (λ at. IsAcceptedInside (before i (after_plain p e) b (suc n) rest) at (is_field_there (slice_get (list_of rest) i)) inside) (next-number b n i)
    (accepted-inside i around (after_plain p e) b (suc n) rest inside h.1 is)
accepted-inside (suc i) around e b n (holder k body rest) inside h is =
    let behind = after_holder k (b ++ n ∷ []) body (parts e (b ++ n ∷ []) 0 body) e in
    subst (λ at. IsAcceptedInside (before i behind b (suc n) rest) at (is_field_there (slice_get (list_of rest) i)) inside) (next-number b n i)
    (accepted-inside i around behind b (suc n) rest inside h.2 is)

-- those inside an item of a whole body
pub accepted-there : (i : ℕ) (around : Option Kind) (e : Standing) (b : List ℕ) (t inside : Items) → AreAccepted around e b 0 t → inner i t ≡ Some inside
    → IsAcceptedInside (before i e b 0 t) (b ++ i ∷ []) (is_field_there (item_at (i ∷ []) t)) inside
accepted-there i around e b t inside h is =
    let number : 0 + i ≡ i = omega arith in
    subst (λ k. IsAcceptedInside (before i e b 0 t) (b ++ k ∷ []) (is_field_there (item_at (i ∷ []) t)) inside) number (accepted-inside i around e b 0 t inside h is)

-- a component whose items are accepted, and whose instances are among them
pub record IsAcceptedMade (m : Made) : Type 0 where
  pub place : List ℕ
  pub standing : Standing
  pub accepted : AreAccepted (Some m.head.kind) standing place 0 m.head.body
  pub parts : m.parts ≡ parts standing place 0 m.head.body

accepted-made : (i : ℕ) (around : Option Kind) (e : Standing) (b : List ℕ) (n : ℕ) (t : Items) (m : Made) → AreAccepted around e b n t → component_in i e b n t ≡ Some m
    → IsAcceptedMade m
accepted-made i around e b n no_items m h is = absurd cc
accepted-made zero around e b n (plain p rest) m h is = absurd cc
accepted-made zero around e b n (holder k body rest) m h is =
    let made : Made = record { head = head_at (b ++ n ∷ []) (holder_kind k) body e; parts = parts e (b ++ n ∷ []) 0 body } in
    let same : made ≡ m = cc in
    subst IsAcceptedMade same (record { place = b ++ n ∷ []; standing = e; accepted = h.1; parts = refl })
accepted-made (suc i) around e b n (plain p rest) m h is = accepted-made i around (after_plain p e) b (suc n) rest m h.1 is
accepted-made (suc i) around e b n (holder k body rest) m h is =
    accepted-made i around (after_holder k (b ++ n ∷ []) body (parts e (b ++ n ∷ []) 0 body) e) b (suc n) rest m h.2 is

accepted-along : (c : List ℕ) (around : Option Kind) (e : Standing) (b : List ℕ) (t : Items) (m : Made) → AreAccepted around e b 0 t → closed e b c t ≡ Some m → IsAcceptedMade m
accepted-along [] around e b t m h is = absurd cc
accepted-along (i ∷ []) around e b t m h is = accepted-made i around e b 0 t m h is
accepted-along (i ∷ j ∷ c) around e b t m h is =
    by (λ inside kind. accepted-along (j ∷ c) (Some kind) (before i e b 0 t) (b ++ i ∷ []) inside m) (inner i t) refl is
  where
    by : ((inside : Items) (kind : Kind) → AreAccepted (Some kind) (before i e b 0 t) (b ++ i ∷ []) 0 inside → closed (before i e b 0 t) (b ++ i ∷ []) (j ∷ c) inside ≡ Some m → IsAcceptedMade m)
        → (o : Option Items) → inner i t ≡ o → option_and_then (closed (before i e b 0 t) (b ++ i ∷ []) (j ∷ c)) o ≡ Some m → IsAcceptedMade m
    by deeper None there is = absurd cc
    by deeper (Some inside) there is = let within = accepted-there i around e b t inside h there in deeper inside within.kind within.accepted is

pub made-accepted : (d : Items) (c : List ℕ) (m : Made) → fault_of d ≡ None → component d c ≡ Some m → IsAcceptedMade m
made-accepted d c m h is = accepted-along c None nothing [] d m (all-accepted d h) is

-- ---- Nodes that are kept.

kept-first : (h : Holder) (body rest : Items) (c : Core) (s more : Slots) → is_field_there (slice_get (list_of (holder h body rest)) 0) ≡ false
    → kept_at 0 (holder_slots h body c s more) ≡ Some (record { core = c; slots = s })
kept-first (define name k) body rest c s more e = refl
kept-first (anonymous sh Addrmap) body rest c s more e = refl
kept-first (anonymous sh Regfile) body rest c s more e = refl
kept-first (anonymous sh Reg) body rest c s more e = refl
kept-first (anonymous sh Field) body rest c s more e = absurd cc

kept-behind : (i : ℕ) (h : Holder) (body : Items) (c : Core) (s more : Slots) → kept_at (suc i) (holder_slots h body c s more) ≡ kept_at i more
kept-behind i (define name k) body c s more = refl
kept-behind i (anonymous sh Addrmap) body c s more = refl
kept-behind i (anonymous sh Regfile) body c s more = refl
kept-behind i (anonymous sh Reg) body c s more = refl
kept-behind i (anonymous sh Field) body c s more = refl

-- the slots of the items behind one with a component
abbrev slots_behind : Laying → Around → Inside → Holder → Items → Items → Slots
slots_behind lay a m h body rest = (walked lay (seen.after_holder h (known lay a (holder_kind h) body) a) (holder_instances h (known lay a (holder_kind h) body) m) rest).slots

-- the node of item i is kept, with the slots of its body
record IsKeptHere (lay : Laying) (a : Around) (inside : Items) (o : Option Node) : Type 0 where
  node : Node
  there : o ≡ Some node
  slots : node.slots ≡ (body_of lay a inside).slots

kept-here : (lay : Laying) (i : ℕ) (a : Around) (m : Inside) (t inside : Items) → inner i t ≡ Some inside → is_field_there (slice_get (list_of t) i) ≡ false
    → IsKeptHere lay (around_before lay i a t) inside (kept_at i (walked lay a m t).slots)
kept-here lay i a m no_items inside is other = absurd cc
kept-here lay zero a m (plain p rest) inside is other = absurd cc
kept-here lay zero a m (holder h body rest) inside is other =
    let same : body ≡ inside = cc in
    record {
      node = node lay a (holder_kind h) body;
      there = kept-first h body rest (node lay a (holder_kind h) body).core (node lay a (holder_kind h) body).slots (slots_behind lay a m h body rest) other;
      slots = ap (λ t. (body_of lay a t).slots) same;
    }
kept-here lay (suc i) a m (plain p rest) inside is other = kept-here lay i (seen.after_plain p a) (plain_instances a p m) rest inside is other
kept-here lay (suc i) a m (holder h body rest) inside is other =
    let there = known lay a (holder_kind h) body in
    subst (IsKeptHere lay (around_before lay i (seen.after_holder h there a) rest) inside)
    (sym (kept-behind i h body (node lay a (holder_kind h) body).core (node lay a (holder_kind h) body).slots (slots_behind lay a m h body rest)))
    (kept-here lay i (seen.after_holder h there a) (holder_instances h there m) rest inside is other)

-- where there is a component, there is a body
body-here : (i : ℕ) (e : Standing) (b : List ℕ) (n : ℕ) (t : Items) (m : Made) → component_in i e b n t ≡ Some m → is_some (inner i t) ≡ true
body-here i e b n no_items m h = absurd cc
body-here zero e b n (plain p rest) m h = absurd cc
body-here zero e b n (holder k body rest) m h = refl
body-here (suc i) e b n (plain p rest) m h = body-here i (after_plain p e) b (suc n) rest m h
body-here (suc i) e b n (holder k body rest) m h = body-here i (after_holder k (b ++ n ∷ []) body (parts e (b ++ n ∷ []) 0 body) e) b (suc n) rest m h

body-first : (j : ℕ) (c : List ℕ) (e : Standing) (b : List ℕ) (t : Items) (m : Made) → closed e b (j ∷ c) t ≡ Some m → is_some (inner j t) ≡ true
body-first j [] e b t m h = body-here j e b 0 t m h
body-first j (k ∷ c) e b t m h = by (inner j t) h
  where
    by : (o : Option Items) → option_and_then (closed (before j e b 0 t) (b ++ j ∷ []) (k ∷ c)) o ≡ Some m → is_some o ≡ true
    by None h = absurd cc
    by (Some inside) h = refl

-- there is a node
pub record IsThere (o : Option Node) : Type 0 where
  pub node : Node
  pub there : o ≡ Some node

pub kept-along : (lay : Laying) (c : List ℕ) (around : Option Kind) (e : Standing) (a : Around) (b : List ℕ) (before_it : Inside) (t : Items) (m : Made)
    → AreAccepted around e b 0 t → closed e b c t ≡ Some m → is_field_there (item_at c t) ≡ false → IsThere (node_at c (walked lay a before_it t).slots)
kept-along lay [] around e a b z t m h is other = absurd cc
kept-along lay (i ∷ []) around e a b z t m h is other = by (inner i t) refl (body-here i e b 0 t m is)
  where
    by : (o : Option Items) → inner i t ≡ o → is_some o ≡ true → IsThere (kept_at i (walked lay a z t).slots)
    by None there some = absurd cc
    by (Some inside) there some = let kept = kept-here lay i a z t inside there other in record { node = kept.node; there = kept.there }
kept-along lay (i ∷ j ∷ c) around e a b z t m h is other =
    by (λ inside kind. kept-along lay (j ∷ c) (Some kind) (before i e b 0 t) (around_before lay i a t) (b ++ i ∷ []) no_instances inside m)
    (inner i t) refl is other (is_field_there (item_at (i ∷ []) t)) refl
  where
    by : ((inside : Items) (kind : Kind) → AreAccepted (Some kind) (before i e b 0 t) (b ++ i ∷ []) 0 inside → closed (before i e b 0 t) (b ++ i ∷ []) (j ∷ c) inside ≡ Some m
        → is_field_there (item_at (j ∷ c) inside) ≡ false → IsThere (node_at (j ∷ c) (body_of lay (around_before lay i a t) inside).slots))
        → (o : Option Items) → inner i t ≡ o → option_and_then (closed (before i e b 0 t) (b ++ i ∷ []) (j ∷ c)) o ≡ Some m
        → is_field_there (option_and_then (item_at (j ∷ c)) o) ≡ false → (field : Bool) → is_field_there (item_at (i ∷ []) t) ≡ field
        → IsThere (option_and_then (λ (n : Node). node_at (j ∷ c) n.slots) (kept_at i (walked lay a z t).slots))
    by deeper None there is other field test = absurd cc
    by deeper (Some inside) there is other true test = absurd (in_field (inner j inside) refl (body-first j c (before i e b 0 t) (b ++ i ∷ []) inside m is))
      where
        in_field : (o : Option Items) → inner j inside ≡ o → is_some o ≡ true → ⊥
        in_field None none some = absurd cc
        in_field (Some deepest) there_too some =
            let within = accepted-there i around e b t inside h there in
            fields-hold-nothing j (before i e b 0 t) (b ++ i ∷ []) 0 inside deepest
            (subst (λ k. AreAccepted (Some k) (before i e b 0 t) (b ++ i ∷ []) 0 inside) (within.field test) within.accepted) there_too
    by deeper (Some inside) there is other false test =
        let kept = kept-here lay i a z t inside there test in
        let within = accepted-there i around e b t inside h there in
        let found = deeper inside within.kind within.accepted is other in
        record {
          node = found.node;
          there =
              ap (option_and_then (λ (n : Node). node_at (j ∷ c) n.slots)) kept.there
              ∙ ap (node_at (j ∷ c)) kept.slots ∙ found.there;
        }

pub nodes_are_kept : NodesAreKept
nodes_are_kept lay d c m accepted is other =
    let meant = nodes_have_values lay d c m accepted is in
    let found = kept-along lay c None nothing nothing_around [] no_instances d m (all-accepted d accepted) is other in
    record {
      around = meant.around;
      sees = meant.there;
      there = found.there ∙ ap Some (kept_are_nodes lay d c m meant.around is meant.there found.node found.there);
    }
