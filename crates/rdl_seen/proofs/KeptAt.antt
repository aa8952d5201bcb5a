-- The nodes that are kept of a description are those of its components.
use Rattle.std.proofs.Common.{◌≡◌, ℕ, zero, suc, List, [], ◌∷◌, ◌++◌, Option, Some, None, refl, sym, ap, ◌∙◌}
use Rattle.std.specs.Prelude.{option_and_then}
use Rattle.rdl_tree.specs.Address.{inner}
use Rattle.rdl_tree.specs.Component.{holder_kind}
use Rattle.rdl_tree.specs.Items.{Items, no_items, plain, holder, Holder, define, anonymous}
use Rattle.rdl_tree.specs.declared.shell.Kind.TheVariants.{Addrmap, Regfile, Reg, Field}
use Rattle.rdl_scope.specs.Closed as scope
use Rattle.rdl_scope.specs.Closed.{parts, Made, Standing, head_at, nothing, before, component_in, closed}
use Rattle.rdl_seen.specs.Inside.{Inside, no_instances}
use Rattle.rdl_seen.specs.Layouts.{Laying}
use Rattle.rdl_seen.specs.Meaning.{nothing_around, around_before, around_at, kept_at, node_at}
use Rattle.rdl_seen.specs.MeaningLaws.{KeptAreNodes, FieldsAreLikeNodes}
use Rattle.rdl_seen.specs.Node.{Around, plain_instances, after_plain, holder_slots, after_holder, holder_instances, walked, body_of, node, known}
use Rattle.rdl_seen.specs.Slots.{Core, Slots, Node}

kept-first : (h : Holder) (body : Items) (c : Core) (s more : Slots) (n : Node) → kept_at 0 (holder_slots h body c s more) ≡ Some n → ◌≡◌ {A = Node} (record { core = c; slots = s }) n
kept-first (define name k) body c s more n e = cc
kept-first (anonymous sh Addrmap) body c s more n e = cc
kept-first (anonymous sh Regfile) body c s more n e = cc
kept-first (anonymous sh Reg) body c s more n e = cc
kept-first (anonymous sh Field) body c s more n e = absurd cc

kept-behind : (i : ℕ) (h : Holder) (body : Items) (c : Core) (s more : Slots) → kept_at i more ≡ kept_at (suc i) (holder_slots h body c s more)
kept-behind i (define name k) body c s more = refl
kept-behind i (anonymous sh Addrmap) body c s more = refl
kept-behind i (anonymous sh Regfile) body c s more = refl
kept-behind i (anonymous sh Reg) body c s more = refl
kept-behind i (anonymous sh Field) body c s more = refl

-- the slots of the items behind one with a component
slots_behind : Laying → Around → Inside → Holder → Items → Items → Slots
slots_behind lay a m h body rest = (walked lay (after_holder h (known lay a (holder_kind h) body) a) (holder_instances h (known lay a (holder_kind h) body) m) rest).slots

here-first : (lay : Laying) (a : Around) (m : Inside) (h : Holder) (body rest : Items) (n : Node) → kept_at 0 (walked lay a m (holder h body rest)).slots ≡ Some n → node lay a (holder_kind h) body ≡ n
unfolding slots_behind
here-first lay a m h body rest n e = kept-first h body (node lay a (holder_kind h) body).core (node lay a (holder_kind h) body).slots (slots_behind lay a m h body rest) n e

here-behind : (lay : Laying) (a : Around) (m : Inside) (i : ℕ) (h : Holder) (body rest : Items) (n : Node) → kept_at (suc i) (walked lay a m (holder h body rest)).slots ≡ Some n
    → kept_at i (walked lay (after_holder h (known lay a (holder_kind h) body) a) (holder_instances h (known lay a (holder_kind h) body) m) rest).slots ≡ Some n
unfolding slots_behind
here-behind lay a m i h body rest n e =
    kept-behind i h body (node lay a (holder_kind h) body).core (node lay a (holder_kind h) body).slots (slots_behind lay a m h body rest) ∙ e

kept-here : (lay : Laying) (i : ℕ) (e : Standing) (a : Around) (b : List ℕ) (j : ℕ) (before : Inside) (t : Items) (m : Made) (n : Node)
    → component_in i e b j t ≡ Some m → kept_at i (walked lay a before t).slots ≡ Some n → n ≡ node lay (around_before lay i a t) m.head.kind m.head.body
kept-here lay i e a b j before no_items m n h g = absurd cc
kept-here lay zero e a b j before (plain p rest) m n h g = absurd cc
kept-here lay zero e a b j before (holder k body rest) m n h g =
    let made : Made = record { head = head_at (b ++ j ∷ []) (holder_kind k) body e; parts = parts e (b ++ j ∷ []) 0 body } in
    let same : made ≡ m = cc in
    sym (here-first lay a before k body rest n g) ∙ ap (λ (z : Made). node lay a z.head.kind z.head.body) same
kept-here lay (suc i) e a b j before (plain p rest) m n h g =
    kept-here lay i (scope.after_plain p e) (after_plain p a) b (suc j) (plain_instances a p before) rest m n h g
kept-here lay (suc i) e a b j before (holder k body rest) m n h g =
    let inside = known lay a (holder_kind k) body in
    kept-here lay i (scope.after_holder k (b ++ j ∷ []) body (parts e (b ++ j ∷ []) 0 body) e) (after_holder k inside a) b (suc j) (holder_instances k inside before) rest m n h
    (here-behind lay a before i k body rest n g)

kept-inside : (lay : Laying) (i : ℕ) (a : Around) (before : Inside) (t inside : Items) (n : Node)
    → inner i t ≡ Some inside → kept_at i (walked lay a before t).slots ≡ Some n → (body_of lay (around_before lay i a t) inside).slots ≡ n.slots
kept-inside lay i a before no_items inside n h g = absurd cc
kept-inside lay zero a before (plain p rest) inside n h g = absurd cc
kept-inside lay zero a before (holder k body rest) inside n h g =
    let same : body ≡ inside = cc in
    ap (λ t. (body_of lay a t).slots) (sym same) ∙ ap (λ (z : Node). z.slots) (here-first lay a before k body rest n g)
kept-inside lay (suc i) a before (plain p rest) inside n h g = kept-inside lay i (after_plain p a) (plain_instances a p before) rest inside n h g
kept-inside lay (suc i) a before (holder k body rest) inside n h g =
    let there = known lay a (holder_kind k) body in
    kept-inside lay i (after_holder k there a) (holder_instances k there before) rest inside n h (here-behind lay a before i k body rest n g)

kept-along : (lay : Laying) (c : List ℕ) (e : Standing) (a : Around) (b : List ℕ) (m : Inside) (t : Items) (made : Made) (f : Around) (n : Node)
    → closed e b c t ≡ Some made → around_at lay a c t ≡ Some f → node_at c (walked lay a m t).slots ≡ Some n → n ≡ node lay f made.head.kind made.head.body
kept-along lay [] e a b m t made f n h g k = absurd cc
kept-along lay (i ∷ []) e a b m t made f n h g k =
    let seen : around_before lay i a t ≡ f = cc in
    kept-here lay i e a b 0 m t made n h k ∙ ap (λ z. node lay z made.head.kind made.head.body) seen
kept-along lay (i ∷ j ∷ c) e a b m t made f n h g k =
    by (λ inside. kept-along lay (j ∷ c) (before i e b 0 t) (around_before lay i a t) (b ++ i ∷ []) no_instances inside made f n)
    (inner i t) refl h g (kept_at i (walked lay a m t).slots) refl k
  where
    by : ((inside : Items) → closed (before i e b 0 t) (b ++ i ∷ []) (j ∷ c) inside ≡ Some made → around_at lay (around_before lay i a t) (j ∷ c) inside ≡ Some f
        → node_at (j ∷ c) (body_of lay (around_before lay i a t) inside).slots ≡ Some n → n ≡ node lay f made.head.kind made.head.body)
        → (o : Option Items) → inner i t ≡ o → option_and_then (closed (before i e b 0 t) (b ++ i ∷ []) (j ∷ c)) o ≡ Some made
        → option_and_then (around_at lay (around_before lay i a t) (j ∷ c)) o ≡ Some f
        → (p : Option Node) → kept_at i (walked lay a m t).slots ≡ p → option_and_then (λ (x : Node). node_at (j ∷ c) x.slots) p ≡ Some n
        → n ≡ node lay f made.head.kind made.head.body
    by deeper None is h g p there k = absurd cc
    by deeper (Some inside) is h g None there k = absurd cc
    by deeper (Some inside) is h g (Some x) there k = deeper inside h g (ap (node_at (j ∷ c)) (kept-inside lay i a m t inside x is there) ∙ k)

pub kept_are_nodes : KeptAreNodes
kept_are_nodes lay d c m a h g n k = kept-along lay c nothing nothing_around [] no_instances d m a n h g k

pub fields_are_like_nodes : FieldsAreLikeNodes
fields_are_like_nodes defaults body = record { width = refl; access = refl; reset = refl }
