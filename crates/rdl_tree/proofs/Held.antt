-- Steps that are ready within the room that is held open, and with more of it.
use Rattle.std.proofs.Common.{◌≡◌, ℕ, max, ◌≤◌, List, [], ◌∷◌, ◌++◌, Option, Some, None, refl, ap, sym, ◌∙◌, arith, subst}
use Rattle.std.specs.Prelude.{IsTrue, Bool, true, false, ◌&&◌, bytes_eq, if◌then◌else◌, reverse, vec_capacity, IfOk, Result, Ok, Err}
use Rattle.std.proofs.Math.Nat.{le-max_left, le-max_right, max-zero}
use Rattle.std.proofs.lemmas.Bool.{false≢true, and_parts, and_from, ltb-true, lt-ltb}
use Rattle.std.proofs.lemmas.Slice.Eq.{bytes_eq-Decides}
use Rattle.rdl_tree.specs.Items.{Items}
use Rattle.rdl_tree.specs.Address.{holder_of, body_at}
use Rattle.rdl_tree.specs.Patch.{patched, length_of}
use Rattle.rdl_tree.specs.Way.{Held, none_held, held_at, held_for, held_behind, room_of, is_below, has_room, is_placed, is_ready, is_ready_in, are_ready, are_ready_in, backs}
use Rattle.rdl_tree.specs.Gap.{IsLent}
use Rattle.rdl_tree.specs.declared.description.Item.{Item}
use Rattle.rdl_tree.specs.declared.patch.Patch.{Patch}
use Rattle.rdl_tree.specs.declared.patch.Patch.TheVariants.{Insert, Delete, Shift, Exchange}
use Rattle.rdl_tree.specs.declared.way.Step.{Step}
use Rattle.rdl_tree.proofs.Turns.{reverse-last}

-- ---- More room.

below-more : (o : Option ℕ) (n m : ℕ) → n ≤ m → IsTrue (is_below o n) → IsTrue (is_below o m)
below-more None n m h e = absurd (false≢true e)
below-more (Some k) n m h e = lt-ltb k m (omega (arith, ltb-true k n e))

pub room-more : (p : Patch) (t : Items) (n m : ℕ) → n ≤ m → IsTrue (has_room p n t) → IsTrue (has_room p m t)
room-more (Insert at x) t n m h e = below-more (length_of (body_at (holder_of at) t)) n m h e
room-more (Delete at) t n m h e = refl
room-more (Shift at to) t n m h e = refl
room-more (Exchange at part) t n m h e = refl

pub if-more : (b : Bool) (n m : ℕ) → n ≤ m → (if b then n else 0) ≤ (if b then m else 0)
if-more true n m h = h
if-more false n m h = omega arith

pub behind-more : (p : Patch) (n m : ℕ) → n ≤ m → (q : List ℕ) → held_behind p n q ≤ held_behind p m q
behind-more (Insert at x) n m h q = if-more (bytes_eq (holder_of at) q) n m h
behind-more (Delete at) n m h q = omega arith
behind-more (Shift at to) n m h q = omega arith
behind-more (Exchange at part) n m h q = omega arith

for-more : (p : Patch) (f g : Held) → ((q : List ℕ) → f q ≤ g q) → held_for p f ≤ held_for p g
for-more (Insert at x) f g h = h (holder_of at)
for-more (Delete at) f g h = omega arith
for-more (Shift at to) f g h = omega arith
for-more (Exchange at part) f g h = omega arith

most-more : (a b c : ℕ) → b ≤ c → max a b ≤ max a c
most-more a b c h = omega (arith, le-max_left a c, le-max_right a c)

of-more : (s : Step) (f g : Held) → ((q : List ℕ) → f q ≤ g q) → room_of s f ≤ room_of s g
of-more s f g h = most-more (vec_capacity s.room) (held_for s.back f) (held_for s.back g) (for-more s.back f g h)

-- steps that are ready are so with more room
pub ready-more : (ss : List Step) (t : Items) (f g : Held) → ((q : List ℕ) → f q ≤ g q) → IsTrue (are_ready_in f ss t) → IsTrue (are_ready_in g ss t)
ready-more [] t f g h e = refl
ready-more (s ∷ ss) t f g h e =
    let parts = and_parts _ _ e in
    let first = and_parts _ _ parts.0 in
    and_from _ _ (and_from _ _ first.0 (room-more s.back t (room_of s f) (room_of s g) (of-more s f g h) first.1))
    (ready-more ss (patched s.back t) _ _ (behind-more s.back (room_of s f) (room_of s g) (of-more s f g h)) parts.1)

-- a step that has room itself
pub ready_itself : (s : Step) (t : Items) (f : Held) → IsTrue (is_ready s t) → IsTrue (is_ready_in f s t)
ready_itself s t f e =
    let parts = and_parts _ _ e in and_from _ _ parts.0 (room-more s.back t (vec_capacity s.room) (room_of s f) (le-max_left (vec_capacity s.room) (held_for s.back f)) parts.1)

none-for : (p : Patch) → held_for p none_held ≡ 0
none-for (Insert at x) = refl
none-for (Delete at) = refl
none-for (Shift at to) = refl
none-for (Exchange at part) = refl

-- where no body is held open
pub own_room : (s : Step) → room_of s none_held ≡ vec_capacity s.room
own_room s = ap (λ n. max (vec_capacity s.room) n) (none-for s.back) ∙ max-zero (vec_capacity s.room)

pub ready_by_itself : (s : Step) (t : Items) → IsTrue (is_ready_in none_held s t) → IsTrue (is_ready s t)
ready_by_itself s t e = ap (λ n. is_placed s.back t && has_room s.back n t) (sym (own_room s)) ∙ e

yes-room : (b : Bool) (n : ℕ) → IsTrue b → n ≤ (if b then n else 0)
yes-room true n e = omega arith
yes-room false n e = absurd (false≢true e)

-- an item goes into the body that is held open
pub held_open-for : (at path : List ℕ) (n : ℕ) → path ≡ holder_of at → n ≤ held_at path n (holder_of at)
held_open-for at path n e = yes-room (bytes_eq path (holder_of at)) n ((bytes_eq-Decides path (holder_of at)).1 e)

-- ---- Room that is lent.

pub nothing_lent : (f : Held) (ss : List Step) → IsLent f ss ss
nothing_lent f ss = record {
  same = refl;
  ready = λ t. ready-more (reverse ss) t none_held f (λ q. omega arith);
}

-- steps that stay
pub nothing_lent_if : {X E : Type 0} (r : Result X E) (f : X → Held) (old new : List Step) → new ≡ old → IfOk r (λ x. IsLent (f x) old new)
nothing_lent_if (Ok x) f old new e = subst (λ (ss : List Step). IsLent (f x) old ss) (sym e) (nothing_lent (f x) old)
nothing_lent_if (Err q) f old new e = tt

-- the step that the room went to puts an item into the body
pub lent_to : (at path : List ℕ) (x : Item) (n : ℕ) (old new : List Step) → path ≡ holder_of at → IsLent (held_at path n) old new → IsLent (held_behind (Insert at x) n) old new
lent_to at path x n old new e l = subst (λ q. IsLent (held_at q n) old new) e l

-- the last step's room is held open before it
pub last_lent : (f : Held) (a b : Step) (rest old new : List Step) → old ≡ rest ++ a ∷ [] → new ≡ rest ++ b ∷ [] → b.back ≡ a.back → vec_capacity a.room ≤ held_for a.back f → IsLent f old new
last_lent f a b rest old new e g k h =
    let turn : reverse old ≡ a ∷ reverse rest = reverse-last old rest a e in
    let turned : reverse new ≡ b ∷ reverse rest = reverse-last new rest b g in
    let more : room_of a none_held ≤ room_of b f = omega (arith, own_room a, h, ap (λ p. held_for p f) k, le-max_right (vec_capacity b.room) (held_for b.back f)) in record {
      same = ap backs turned ∙ ap (λ p. p ∷ backs (reverse rest)) k ∙ sym (ap backs turn);
      ready = λ t e.
          let whole : IsTrue (are_ready_in none_held (a ∷ reverse rest) t) = subst (λ ss. IsTrue (are_ready ss t)) turn e in
          let parts = and_parts _ _ whole in
          let first = and_parts _ _ parts.0 in
          let here : IsTrue (is_ready_in f b t) = and_from _ _ (ap (λ p. is_placed p t) k ∙ first.0) (ap (λ p. has_room p (room_of b f) t) k ∙ room-more a.back t (room_of a none_held) (room_of b f) more first.1) in
          let behind : IsTrue (are_ready_in (held_behind a.back (room_of b f)) (reverse rest) (patched a.back t)) = ready-more (reverse rest) (patched a.back t) _ _ (behind-more a.back (room_of a none_held) (room_of b f) more) parts.1 in
          subst (λ ss. IsTrue (are_ready_in f ss t)) (sym turned) (and_from _ _ here (subst (λ p. IsTrue (are_ready_in (held_behind p (room_of b f)) (reverse rest) (patched p t))) (sym k) behind));
    }
