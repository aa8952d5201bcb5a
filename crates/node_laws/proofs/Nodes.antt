-- Each address sees what stands there, and the node of each component is what is seen of it.
use Rattle.std.proofs.Common.{◌≡◌, ℕ, zero, suc, List, [], ◌∷◌, ◌++◌, Option, Some, None, refl, sym, subst}
use Rattle.std.specs.Prelude.{option_and_then}
use Rattle.rdl_tree.specs.Address.{inner}
use Rattle.rdl_tree.specs.Component.{holder_kind}
use Rattle.rdl_tree.specs.Items.{Items, no_items, plain, holder}
use Rattle.rdl_tree.specs.declared.shell.Kind.{Kind}
use Rattle.rdl_scope.specs.Closed as scope
use Rattle.rdl_scope.specs.Closed.{Made, Standing, parts, nothing, before, component_in, standing_at, closed, component}
use Rattle.rdl_scope.specs.ItemFaults.{fault_of}
use Rattle.rdl_seen.specs.Meaning.{nothing_around, around_before, around_at}
use Rattle.rdl_seen.specs.Node.{Around, after_plain, after_holder, body_of, node, known}
use Rattle.rdl_seen.specs.Slots.{Node}
use Rattle.rdl_seen.proofs.KeptAt.{kept_are_nodes}
use Rattle.rdl_seen.proofs.Stands.{nodes_have_values}
use Rattle.node_laws.specs.Laid.{laying}
use Rattle.node_laws.specs.Laws.{MeansAllAt, NodesAreSeen, NodesAreKnown, KeptAreSeen}
use Rattle.node_laws.specs.Meant.{IsCore, MeansAll}
use Rattle.node_laws.proofs.Accepted.{AreAccepted, all-accepted}
use Rattle.node_laws.proofs.Along.{accepted-there}
use Rattle.node_laws.proofs.Walks.{IsNode, made_here, means_all_behind, means_all_behind_component, node-here}

means-before : (i : ℕ) (around : Option Kind) (e : Standing) (a : Around) (b : List ℕ) (n : ℕ) (t : Items) → MeansAll e a → AreAccepted around e b n t
    → MeansAll (before i e b n t) (around_before laying i a t)
means-before zero around e a b n t same h = same
means-before (suc i) around e a b n no_items same h = same
means-before (suc i) around e a b n (plain p rest) same h =
    means-before i around (scope.after_plain p e) (after_plain p a) b (suc n) rest (means_all_behind e a same p) h.1
means-before (suc i) around e a b n (holder k body rest) same h =
    let at = b ++ n ∷ [] in
    let inside = parts e at 0 body in
    let there = known laying a (holder_kind k) body in
    let is = node-here k body around e a at same h.0 h.1 in
    means-before i around (scope.after_holder k at body inside e) (after_holder k there a) b (suc n) rest
    (means_all_behind_component e a same k at body inside there is.known) h.2

means-along : (c : List ℕ) (around : Option Kind) (e : Standing) (a : Around) (b : List ℕ) (t : Items) → MeansAll e a → AreAccepted around e b 0 t
    → (f : Standing) → standing_at e b c t ≡ Some f → (g : Around) → around_at laying a c t ≡ Some g → MeansAll f g
means-along [] around e a b t same h f stands g sees = absurd cc
means-along (i ∷ []) around e a b t same h f stands g sees =
    let is : before i e b 0 t ≡ f = cc in
    let seen : around_before laying i a t ≡ g = cc in
    subst (λ z. MeansAll z g) is (subst (λ z. MeansAll (before i e b 0 t) z) seen (means-before i around e a b 0 t same h))
means-along (i ∷ j ∷ c) around e a b t same h f stands g sees =
    by
    (λ inside kind accepted.
    means-along (j ∷ c) (Some kind) (before i e b 0 t) (around_before laying i a t) (b ++ i ∷ []) inside (means-before i around e a b 0 t same h) accepted f)
    (inner i t) refl stands sees
  where
    by : ((inside : Items) (kind : Kind) → AreAccepted (Some kind) (before i e b 0 t) (b ++ i ∷ []) 0 inside
        → standing_at (before i e b 0 t) (b ++ i ∷ []) (j ∷ c) inside ≡ Some f
        → (g : Around) → around_at laying (around_before laying i a t) (j ∷ c) inside ≡ Some g → MeansAll f g)
        → (o : Option Items) → inner i t ≡ o → option_and_then (standing_at (before i e b 0 t) (b ++ i ∷ []) (j ∷ c)) o ≡ Some f
        → option_and_then (around_at laying (around_before laying i a t) (j ∷ c)) o ≡ Some g → MeansAll f g
    by deeper None there stands sees = absurd cc
    by deeper (Some inside) there stands sees =
        let within = accepted-there i around e b t inside h there in deeper inside within.kind within.accepted stands g sees

-- where nothing stands, nothing is seen
nothing-means : MeansAll nothing nothing_around
nothing-means = record { types = tt; defaults = refl }

pub means_all_at : MeansAllAt
means_all_at d c e accepted stands a sees = means-along c None nothing nothing_around [] d nothing-means (all-accepted d accepted) e stands a sees

-- ---- The node of a component.

-- by what an address sees, the node there is what is seen of the component
abbrev IsNodeBy : Around → Made → Type 0
IsNodeBy a m = IsNode m (node laying a m.head.kind m.head.body).core (body_of laying a m.head.body).instances

node-in : (i : ℕ) (around : Option Kind) (e : Standing) (a : Around) (b : List ℕ) (n : ℕ) (t : Items) (m : Made) → MeansAll e a → AreAccepted around e b n t
    → component_in i e b n t ≡ Some m → IsNodeBy (around_before laying i a t) m
node-in i around e a b n no_items m same h is = absurd cc
node-in zero around e a b n (plain p rest) m same h is = absurd cc
node-in zero around e a b n (holder k body rest) m same h is =
    let made : made_here e (b ++ n ∷ []) (holder_kind k) body ≡ m = cc in subst (IsNodeBy a) made (node-here k body around e a (b ++ n ∷ []) same h.0 h.1)
node-in (suc i) around e a b n (plain p rest) m same h is =
    node-in i around (scope.after_plain p e) (after_plain p a) b (suc n) rest m (means_all_behind e a same p) h.1 is
node-in (suc i) around e a b n (holder k body rest) m same h is =
    let at = b ++ n ∷ [] in
    let inside = parts e at 0 body in
    let there = known laying a (holder_kind k) body in
    let first = node-here k body around e a at same h.0 h.1 in
    node-in i around (scope.after_holder k at body inside e) (after_holder k there a) b (suc n) rest m
    (means_all_behind_component e a same k at body inside there first.known) h.2 is

node-along : (c : List ℕ) (around : Option Kind) (e : Standing) (a : Around) (b : List ℕ) (t : Items) (m : Made) → MeansAll e a → AreAccepted around e b 0 t
    → closed e b c t ≡ Some m → (g : Around) → around_at laying a c t ≡ Some g → IsNodeBy g m
node-along [] around e a b t m same h is g sees = absurd cc
node-along (i ∷ []) around e a b t m same h is g sees =
    let seen : around_before laying i a t ≡ g = cc in subst (λ z. IsNodeBy z m) seen (node-in i around e a b 0 t m same h is)
node-along (i ∷ j ∷ c) around e a b t m same h is g sees =
    by
    (λ inside kind accepted.
    node-along (j ∷ c) (Some kind) (before i e b 0 t) (around_before laying i a t) (b ++ i ∷ []) inside m (means-before i around e a b 0 t same h) accepted)
    (inner i t) refl is sees
  where
    by : ((inside : Items) (kind : Kind) → AreAccepted (Some kind) (before i e b 0 t) (b ++ i ∷ []) 0 inside
        → closed (before i e b 0 t) (b ++ i ∷ []) (j ∷ c) inside ≡ Some m
        → (g : Around) → around_at laying (around_before laying i a t) (j ∷ c) inside ≡ Some g → IsNodeBy g m)
        → (o : Option Items) → inner i t ≡ o → option_and_then (closed (before i e b 0 t) (b ++ i ∷ []) (j ∷ c)) o ≡ Some m
        → option_and_then (around_at laying (around_before laying i a t) (j ∷ c)) o ≡ Some g → IsNodeBy g m
    by deeper None there is sees = absurd cc
    by deeper (Some inside) there is sees =
        let within = accepted-there i around e b t inside h there in deeper inside within.kind within.accepted is g sees

node-at : (d : Items) (c : List ℕ) (m : Made) → fault_of d ≡ None → component d c ≡ Some m → (a : Around) → around_at laying nothing_around c d ≡ Some a → IsNodeBy a m
node-at d c m accepted is a sees = node-along c None nothing nothing_around [] d m nothing-means (all-accepted d accepted) is a sees

pub nodes_are_seen : NodesAreSeen
nodes_are_seen d c m accepted is a sees = let node_is = node-at d c m accepted is a sees in node_is.core

pub nodes_are_known : NodesAreKnown
nodes_are_known d c m accepted is a sees = let node_is = node-at d c m accepted is a sees in node_is.known

pub kept_are_seen : KeptAreSeen
kept_are_seen d c m accepted is n there =
    let meant = nodes_have_values laying d c m accepted is in
    subst (λ (x : Node). IsCore m x.core) (sym (kept_are_nodes laying d c m meant.around is meant.there n there)) (nodes_are_seen d c m accepted is meant.around meant.there)
