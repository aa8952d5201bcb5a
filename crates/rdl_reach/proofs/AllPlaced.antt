-- All that is placed for what is kept of some components is at most three for each of their instances.
use Rattle.std.proofs.Common.{◌≡◌, ℕ, suc, ◌+◌, ◌*◌, ◌≤◌, Bool, true, if◌then◌else◌, List, [], ◌∷◌, ◌++◌, Some, refl, ap, ◌∙◌, arith, append_assoc}
use Rattle.std.specs.Prelude.{sum_by}
use Rattle.std.proofs.lemmas.List.Sums.{sum_by-cons, sum_by-append}
use Rattle.rdl_tree.specs.Component.{holder_kind}
use Rattle.rdl_tree.specs.Items.{Items, no_items, plain, holder}
use Rattle.rdl_scope.specs.Closed.{Made, Standing, head_at, parts, after_plain, after_holder, component}
use Rattle.rdl_seen.specs.Meaning.{node_at}
use Rattle.rdl_seen.specs.Slots.{Slots, no_slots, slot, written as written_slot, Node}
use Rattle.rdl_nodes.specs.Placed.{placed_once, all_placed}
use Rattle.rdl_elab.specs.Anew.{how_many}
use Rattle.rdl_elab.specs.Written.{written}
use Rattle.rdl_reach.proofs.Along.{Along, behind_plain, behind_field, behind_holder, first_made, first_node, inside}

-- the instances of a component, if it is at one of these addresses
abbrev pub many : (List ℕ → Bool) → Made → ℕ
many marked c = if marked c.head.at then how_many c.parts else 0

pub both_sums : (f : Made → ℕ) (xs : List Made) (c : Made) (ys : List Made) → sum_by f (xs ++ c ∷ ys) ≡ sum_by f xs + (f c + sum_by f ys)
both_sums f xs c ys = sum_by-append f xs (c ∷ ys) ∙ ap (λ n. sum_by f xs + n) (sum_by-cons f c ys)

-- what is placed for each component is at most three for each of its instances
abbrev pub IsBound : Items → Slots → Type 0
IsBound d kept = (a : List ℕ) (c : Made) (x : Node) → component d a ≡ Some c → node_at a kept ≡ Some x → placed_once x.core.layouts ≤ 3 * how_many c.parts

module _ (d : Items) (kept : Slots) (marked : List ℕ → Bool) (bound : IsBound d kept) where
  -- the body at b from number n on, and all inside it, is marked
  abbrev AreMarked : List ℕ → ℕ → Type 0
  AreMarked b n = (i : ℕ) (c : List ℕ) → marked (b ++ (n + i) ∷ c) ≡ true

  marked_behind : (b : List ℕ) (n : ℕ) → AreMarked b n → AreMarked b (suc n)
  marked_behind b n all i c = ap (λ k. marked (b ++ k ∷ c)) (let e : suc n + i ≡ n + suc i = omega arith in e) ∙ all (suc i) c

  marked_here : (b : List ℕ) (n : ℕ) (c : List ℕ) → AreMarked b n → marked (b ++ n ∷ c) ≡ true
  marked_here b n c all = ap (λ k. marked (b ++ k ∷ c)) (let e : n ≡ n + 0 = omega arith in e) ∙ all 0 c

  marked_inside : (b : List ℕ) (n : ℕ) → AreMarked b n → AreMarked (b ++ n ∷ []) 0
  marked_inside b n all i c = ap marked (append_assoc b (n ∷ []) ((0 + i) ∷ c)) ∙ marked_here b n ((0 + i) ∷ c) all

  -- one component
  pub one_bound : (b : List ℕ) (c : Made) (x : Node) → component d b ≡ Some c → node_at b kept ≡ Some x → marked c.head.at ≡ true → placed_once x.core.layouts ≤ 3 * many marked c
  one_bound b c x is there on =
      let l = bound b c x is there in
      let e : many marked c ≡ how_many c.parts = ap (λ (z : Bool). if z then how_many c.parts else 0) on in
      omega (arith, l, e)

  pub all_bound : (t : Items) (b : List ℕ) (n : ℕ) (e : Standing) (s : Slots) → Along d kept b n t e s → AreMarked b n → all_placed s ≤ 3 * sum_by (many marked) (written e b n t)
  all_bound no_items b n e no_slots h all = omega arith
  all_bound no_items b n e (slot x s) h all = absurd h.fit
  all_bound no_items b n e (written_slot w k within s) h all = absurd h.fit
  all_bound (plain p rest) b n e no_slots h all = absurd h.fit
  all_bound (plain p rest) b n e (slot x s) h all = all_bound rest b (suc n) (after_plain p e) s (behind_plain d kept b n p rest e x s h) (marked_behind b n all)
  all_bound (plain p rest) b n e (written_slot w k within s) h all = absurd h.fit
  all_bound (holder g own rest) b n e no_slots h all = absurd h.fit
  all_bound (holder g own rest) b n e (slot x s) h all =
      let f = after_holder g (b ++ n ∷ []) own (parts e (b ++ n ∷ []) 0 own) e in
      let c : Made = record { head = head_at (b ++ n ∷ []) (holder_kind g) own e; parts = parts e (b ++ n ∷ []) 0 own } in
      let more = all_bound rest b (suc n) f s (behind_field d kept b n g own rest e x s h) (marked_behind b n all) in
      let sums = both_sums (many marked) (written e (b ++ n ∷ []) 0 own) c (written f b (suc n) rest) in
      omega (arith, more, sums)
  all_bound (holder g own rest) b n e (written_slot w k within s) h all =
      let f = after_holder g (b ++ n ∷ []) own (parts e (b ++ n ∷ []) 0 own) e in
      let c : Made = record { head = head_at (b ++ n ∷ []) (holder_kind g) own e; parts = parts e (b ++ n ∷ []) 0 own } in
      let x : Node = record { core = k; slots = within } in
      let more = all_bound rest b (suc n) f s (behind_holder d kept b n g own rest e w k within s h) (marked_behind b n all) in
      let deep = all_bound own (b ++ n ∷ []) 0 e within (inside d kept b n g own rest e (written_slot w k within s) x h refl h.fit.1) (marked_inside b n all) in
      let here = one_bound (b ++ n ∷ []) c x (first_made d kept b n g own rest e (written_slot w k within s) h) (first_node d kept b n (holder g own rest) e (written_slot w k within s) h) (marked_here b n [] all) in
      let sums = both_sums (many marked) (written e (b ++ n ∷ []) 0 own) c (written f b (suc n) rest) in
      omega (arith, more, deep, here, sums)
