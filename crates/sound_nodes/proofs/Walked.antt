-- What stands around a component, and what is seen of the instances of its body.
use Rattle.std.proofs.Common.{◌≡◌, ℕ, zero, suc, Bool, true, false, List, [], ◌∷◌, ◌++◌, Option, Some, None, option_map, bytes_eq, if◌then◌else◌, refl, sym, ap, subst, ◌∙◌}
use Rattle.std.specs.Prelude.{option_and_then}
use Rattle.rdl_tree.specs.Address.{inner}
use Rattle.rdl_tree.specs.Component.{holder_kind}
use Rattle.rdl_tree.specs.Items.{Items, no_items, plain, holder, named, own, default, dynamic, define, anonymous}
use Rattle.rdl_tree.specs.declared.shell.Kind.{Kind}
use Rattle.rdl_tree.specs.declared.shell.Kind.TheVariants.{Addrmap, Regfile, Reg, Field}
use Rattle.rdl_tree.specs.declared.shell.Shell.{Shell}
use Rattle.rdl_scope.specs.Closed as scope
use Rattle.rdl_scope.specs.Closed.{Head, Parts, no_parts, part, Made, Standing, lookup, head_at, with_made, parts, nothing, before, component_in, closed, component}
use Rattle.rdl_scope.specs.ItemFaults.{fault_of}
use Rattle.rdl_seen.specs.declared.seen.Seen.{Seen}
use Rattle.rdl_seen.specs.Fields.{of_type}
use Rattle.rdl_seen.specs.Inside.{Inside, no_instances, with_instance, nothing_within}
use Rattle.rdl_seen.specs.Meaning.{nothing_around, around_before, around_at}
use Rattle.rdl_seen.specs.Node.{Known, Around, with_type, after_plain, after_holder, within_type, walked, known}
use Rattle.node_laws.specs.Laid.{laying}
use Rattle.node_laws.specs.Meant.{AreKnown, MeansAll, IsSeen, IsKnown}
use Rattle.node_laws.proofs.Accepted.{IsNamed, AreAccepted, all-accepted}
use Rattle.node_laws.proofs.Along.{accepted-there}
use Rattle.node_laws.proofs.Walks.{made_here, core_here, means_all_behind, means_all_behind_component, node-here}
use Rattle.sound_nodes.specs.Instances.{SeenInstance, seen_in, seen_instance, instances_from}

-- ---- What stands around a component.

-- this stands around a component, of which the body sees that, and its items are accepted
pub record StandsAt (m : Made) (f : Around) : Type 0 where
  pub standing : Standing
  pub place : List ℕ
  pub at : m.head.at ≡ place
  pub same : MeansAll standing f
  pub accepted : AreAccepted (Some m.head.kind) standing place 0 m.head.body
  pub parts : m.parts ≡ parts standing place 0 m.head.body

stands-in : (i : ℕ) (around : Option Kind) (e : Standing) (a : Around) (b : List ℕ) (n : ℕ) (t : Items) (m : Made) → MeansAll e a → AreAccepted around e b n t
    → component_in i e b n t ≡ Some m → StandsAt m (around_before laying i a t)
stands-in i around e a b n no_items m same h is = absurd cc
stands-in zero around e a b n (plain p rest) m same h is = absurd cc
stands-in zero around e a b n (holder k body rest) m same h is =
    let made : made_here e (b ++ n ∷ []) (holder_kind k) body ≡ m = cc in
    subst (λ z. StandsAt z a) made (record { standing = e; place = b ++ n ∷ []; at = refl; same = same; accepted = h.1; parts = refl })
stands-in (suc i) around e a b n (plain p rest) m same h is =
    stands-in i around (scope.after_plain p e) (after_plain p a) b (suc n) rest m (means_all_behind e a same p) h.1 is
stands-in (suc i) around e a b n (holder k body rest) m same h is =
    let at = b ++ n ∷ [] in
    let inside = parts e at 0 body in
    let there = known laying a (holder_kind k) body in
    let first = node-here k body around e a at same h.0 h.1 in
    stands-in i around (scope.after_holder k at body inside e) (after_holder k there a) b (suc n) rest m
    (means_all_behind_component e a same k at body inside there first.known) h.2 is

means-before : (i : ℕ) (around : Option Kind) (e : Standing) (a : Around) (b : List ℕ) (n : ℕ) (t : Items) → MeansAll e a → AreAccepted around e b n t
    → MeansAll (before i e b n t) (around_before laying i a t)
means-before zero around e a b n t same h = same
means-before (suc i) around e a b n no_items same h = same
means-before (suc i) around e a b n (plain p rest) same h =
    means-before i around (scope.after_plain p e) (after_plain p a) b (suc n) rest (means_all_behind e a same p) h.1
means-before (suc i) around e a b n (holder k body rest) same h =
    let at = b ++ n ∷ [] in
    let inside = parts e at 0 body in
    let there = known laying a (holder_kind k) body in
    let is = node-here k body around e a at same h.0 h.1 in
    means-before i around (scope.after_holder k at body inside e) (after_holder k there a) b (suc n) rest
    (means_all_behind_component e a same k at body inside there is.known) h.2

stands-along : (c : List ℕ) (around : Option Kind) (e : Standing) (a : Around) (b : List ℕ) (t : Items) (m : Made) → MeansAll e a → AreAccepted around e b 0 t
    → closed e b c t ≡ Some m → (g : Around) → around_at laying a c t ≡ Some g → StandsAt m g
stands-along [] around e a b t m same h is g sees = absurd cc
stands-along (i ∷ []) around e a b t m same h is g sees =
    let seen : around_before laying i a t ≡ g = cc in subst (λ z. StandsAt m z) seen (stands-in i around e a b 0 t m same h is)
stands-along (i ∷ j ∷ c) around e a b t m same h is g sees =
    by
    (λ inside kind accepted.
    stands-along (j ∷ c) (Some kind) (before i e b 0 t) (around_before laying i a t) (b ++ i ∷ []) inside m (means-before i around e a b 0 t same h) accepted)
    (inner i t) refl is sees
  where
    by : ((inside : Items) (kind : Kind) → AreAccepted (Some kind) (before i e b 0 t) (b ++ i ∷ []) 0 inside
        → closed (before i e b 0 t) (b ++ i ∷ []) (j ∷ c) inside ≡ Some m
        → (g : Around) → around_at laying (around_before laying i a t) (j ∷ c) inside ≡ Some g → StandsAt m g)
        → (o : Option Items) → inner i t ≡ o → option_and_then (closed (before i e b 0 t) (b ++ i ∷ []) (j ∷ c)) o ≡ Some m
        → option_and_then (around_at laying (around_before laying i a t) (j ∷ c)) o ≡ Some g → StandsAt m g
    by deeper None there is sees = absurd cc
    by deeper (Some inside) there is sees =
        let within = accepted-there i around e b t inside h there in deeper inside within.kind within.accepted is g sees

pub stands-at : (d : Items) (c : List ℕ) (m : Made) → fault_of d ≡ None → component d c ≡ Some m → (a : Around) → around_at laying nothing_around c d ≡ Some a → StandsAt m a
stands-at d c m none is a sees =
    stands-along c None nothing nothing_around [] d m (record { types = tt; defaults = refl }) (all-accepted d none) is a sees

-- ---- The instances of a body.

-- this is seen of an instance of the body at b, with its component
pub record IsSeenPart (b : List ℕ) (x : SeenInstance) (at : List ℕ) (s : Shell) (h : Head) (inside : Parts) : Type 0 where
  pub place : at ≡ b ++ x.number ∷ []
  pub shell : x.shell ≡ s
  pub seen : (z : Seen) → x.seen ≡ Some z → IsSeen (record { head = h; parts = inside }) z

abbrev pub AreSeenParts : List ℕ → List SeenInstance → Parts → Type 0
AreSeenParts b [] no_parts = Unit {0}
AreSeenParts b (x ∷ xs) no_parts = ⊥
AreSeenParts b [] (part at s h inside rest) = ⊥
AreSeenParts b (x ∷ xs) (part at s h inside rest) = IsSeenPart b x at s h inside × AreSeenParts b xs rest

-- a type that is there is known
record IsThere (m : Made) (o : Option Known) : Type 0 where
  known : Known
  there : o ≡ Some known
  is : IsKnown m known

here-or-behind : (x y : Bool) (made m : Made) (known : Known) (o : Option Made) (p : Option Known) → x ≡ y → IsKnown made known → (o ≡ Some m → IsThere m p)
    → (if x then Some made else o) ≡ Some m → IsThere m (if y then Some known else p)
here-or-behind true true made m known o p e is more h = let same : made ≡ m = cc in record { known = known; there = refl; is = subst (λ z. IsKnown z known) same is }
here-or-behind true false made m known o p e is more h = absurd cc
here-or-behind false true made m known o p e is more h = absurd cc
here-or-behind false false made m known o p e is more h = more h

known-there : (name : List ℕ) (xs : List (List ℕ × Made)) (ys : List (List ℕ × Known)) (m : Made) → AreKnown xs ys → lookup name xs ≡ Some m → IsThere m (lookup name ys)
known-there name [] [] m are h = absurd cc
known-there name (x ∷ xs) [] m are h = absurd are
known-there name [] (y ∷ ys) m are h = absurd are
known-there name (x ∷ xs) (y ∷ ys) m are h =
    here-or-behind (bytes_eq x.0 name) (bytes_eq y.0 name) x.1 m y.1 (lookup name xs) (lookup name ys) (ap (λ n. bytes_eq n name) are.0) are.1
    (known-there name xs ys m are.2) h

-- one of which this is seen
seen-one : (b : List ℕ) (n : ℕ) (s : Shell) (m : Made) (o : Option Seen) (z : Seen) → o ≡ Some z → IsSeen m z
    → IsSeenPart b (record { number = n; shell = s; seen = o }) (b ++ n ∷ []) s m.head m.parts
seen-one b n s m o z is seen = record {
  place = refl;
  shell = refl;
  seen = λ y e. let both : ◌≡◌ {A = Option Seen} (Some z) (Some y) = sym is ∙ e in let same : z ≡ y = cc in subst (IsSeen m) same seen;
}

AreSeen : Items → Type 0
AreSeen t =
    (around : Option Kind) (e : Standing) (a : Around) (b : List ℕ) (n : ℕ) (z : Inside) → MeansAll e a → AreAccepted around e b n t
    → AreSeenParts b (instances_from n t (walked laying a z t).slots) (parts e b n t)

named-seen : (s : Shell) (u : List ℕ) (rest : Items) → AreSeen rest → AreSeen (plain (named s u) rest)
unfolding AreSeen
named-seen s u rest more around e a b n z same h =
    let first : IsNamed around e u = h.0 in
    let type = known-there u e.types a.types first.made same.types first.there in
    let within = with_instance s.name (within_type (lookup u a.types)) z in
    let xs = instances_from (suc n) rest (walked laying a within rest).slots in
    let x = seen_instance n s (of_type (option_map (λ (k : Known). k.seen) (lookup u a.types))) in
    let seen_is : seen_in (of_type (option_map (λ (k : Known). k.seen) (lookup u a.types))) ≡ Some type.known.seen =
    ap (λ o. seen_in (of_type (option_map (λ (k : Known). k.seen) o))) type.there in
    subst (λ o. AreSeenParts b (x ∷ xs) (with_made (b ++ n ∷ []) s o (parts e b (suc n) rest))) (sym first.there) (
      seen-one b n s first.made (seen_in (of_type (option_map (λ (k : Known). k.seen) (lookup u a.types)))) type.known.seen seen_is type.is.seen,
      more around e a b (suc n) within same h.1,
    )

part-seen : (s : Shell) (k : Kind) (body rest : Items) → AreSeen rest → AreSeen (holder (anonymous s k) body rest)
unfolding AreSeen
part-seen s Field body rest more around e a b n z same h =
    (record { place = refl; shell = refl; seen = λ y e. absurd cc }, more around e a b (suc n) (with_instance s.name nothing_within z) same h.2)
part-seen s Addrmap body rest more around e a b n z same h =
    let is = node-here (anonymous s Addrmap) body around e a (b ++ n ∷ []) same h.0 h.1 in
    let known_is = known laying a Addrmap body in (
      seen-one b n s (made_here e (b ++ n ∷ []) Addrmap body) (Some (core_here a Addrmap body).seen) (core_here a Addrmap body).seen refl is.core.seen,
      more around e a b (suc n) (with_instance s.name known_is.within z) same h.2,
    )
part-seen s Regfile body rest more around e a b n z same h =
    let is = node-here (anonymous s Regfile) body around e a (b ++ n ∷ []) same h.0 h.1 in
    let known_is = known laying a Regfile body in (
      seen-one b n s (made_here e (b ++ n ∷ []) Regfile body) (Some (core_here a Regfile body).seen) (core_here a Regfile body).seen refl is.core.seen,
      more around e a b (suc n) (with_instance s.name known_is.within z) same h.2,
    )
part-seen s Reg body rest more around e a b n z same h =
    let is = node-here (anonymous s Reg) body around e a (b ++ n ∷ []) same h.0 h.1 in
    let known_is = known laying a Reg body in (
      seen-one b n s (made_here e (b ++ n ∷ []) Reg body) (Some (core_here a Reg body).seen) (core_here a Reg body).seen refl is.core.seen,
      more around e a b (suc n) (with_instance s.name known_is.within z) same h.2,
    )

-- what a walked body tells of its instances is what stands there
all-seen : (t : Items) → AreSeen t
unfolding AreSeen
all-seen no_items around e a b n z same h = tt
all-seen (plain (named s u) rest) around e a b n z same h = named-seen s u rest (all-seen rest) around e a b n z same h
all-seen (plain (own p x) rest) around e a b n z same h = all-seen rest around e a b (suc n) z same h.1
all-seen (plain (default p x) rest) around e a b n z same h =
    all-seen rest around (scope.after_plain (default p x) e) (after_plain (default p x) a) b (suc n) z (means_all_behind e a same (default p x)) h.1
all-seen (plain (dynamic u p x) rest) around e a b n z same h = all-seen rest around e a b (suc n) z same h.1
all-seen (holder (define m k) body rest) around e a b n z same h =
    let at = b ++ n ∷ [] in
    let there = known laying a k body in
    let is = node-here (define m k) body around e a at same h.0 h.1 in
    all-seen rest around (scope.with_type m (made_here e at k body) e) (with_type m there a) b (suc n) z
    (means_all_behind_component e a same (define m k) at body (parts e at 0 body) there is.known) h.2
all-seen (holder (anonymous s k) body rest) around e a b n z same h = part-seen s k body rest (all-seen rest) around e a b n z same h

pub body-seen : (t : Items) (around : Option Kind) (e : Standing) (a : Around) (b : List ℕ) → MeansAll e a → AreAccepted around e b 0 t
    → AreSeenParts b (instances_from 0 t (walked laying a no_instances t).slots) (parts e b 0 t)
unfolding AreSeen
body-seen t around e a b same h = all-seen t around e a b 0 no_instances same h
