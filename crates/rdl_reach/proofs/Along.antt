-- Along the items of a description, beside the components that stand there and the nodes that are kept of them.
use Rattle.std.proofs.Common.{◌≡◌, ℕ, suc, ◌+◌, List, [], ◌∷◌, ◌++◌, Some, refl, sym, ap, ◌∙◌, arith, append_assoc}
use Rattle.std.specs.Prelude.{option_and_then}
use Rattle.rdl_tree.specs.Address.{inner}
use Rattle.rdl_tree.specs.Component.{holder_kind}
use Rattle.rdl_tree.specs.Items.{Items, plain, holder, Plain, Holder}
use Rattle.rdl_scope.specs.Closed.{Standing, nothing, head_at, parts, after_plain, after_holder, before, component_in, closed, component}
use Rattle.rdl_seen.specs.Meaning.{kept_at, node_at}
use Rattle.rdl_seen.specs.Slots.{Slot, Written, Core, Slots, slot, written, Node}
use Rattle.rdl_reach.proofs.Fits.{Fit}

-- the items from number n on of the body at b are t, e stands before them, and s is what is kept of them
pub record Along (d : Items) (kept : Slots) (b : List ℕ) (n : ℕ) (t : Items) (e : Standing) (s : Slots) : Type 0 where
  pub holds : (i : ℕ) → component d (b ++ (n + i) ∷ []) ≡ component_in i e b n t
  pub deeper : (i j : ℕ) (c : List ℕ) (body : Items) → inner i t ≡ Some body → component d (b ++ (n + i) ∷ j ∷ c) ≡ closed (before i e b n t) (b ++ (n + i) ∷ []) (j ∷ c) body
  pub nodes : (i : ℕ) (c : List ℕ) → node_at (b ++ (n + i) ∷ c) kept ≡ node_at (i ∷ c) s
  pub fit : Fit t s

pub one_more : (n i : ℕ) → suc n + i ≡ n + suc i
one_more n i = omega arith

pub none_more : (n : ℕ) → n + 0 ≡ n
none_more n = omega arith

pub from_none : (i : ℕ) → 0 + i ≡ i
from_none i = omega arith

slot_behind : (i : ℕ) (c : List ℕ) (x : Slot) (s : Slots) → node_at (suc i ∷ c) (slot x s) ≡ node_at (i ∷ c) s
slot_behind i [] x s = refl
slot_behind i (j ∷ c) x s = refl

written_behind : (i : ℕ) (c : List ℕ) (w : Written) (k : Core) (inside s : Slots) → node_at (suc i ∷ c) (written w k inside s) ≡ node_at (i ∷ c) s
written_behind i [] w k inside s = refl
written_behind i (j ∷ c) w k inside s = refl

module _ (d : Items) (kept : Slots) where
  pub behind_plain : (b : List ℕ) (n : ℕ) (p : Plain) (rest : Items) (e : Standing) (x : Slot) (s : Slots) → Along d kept b n (plain p rest) e (slot x s) → Along d kept b (suc n) rest (after_plain p e) s
  behind_plain b n p rest e x s h = record {
    holds = λ i. ap (λ k. component d (b ++ k ∷ [])) (one_more n i) ∙ h.holds (suc i);
    deeper = λ i j c body is.
        ap (λ k. component d (b ++ k ∷ j ∷ c)) (one_more n i) ∙ h.deeper (suc i) j c body is
        ∙ ap (λ k. closed (before i (after_plain p e) b (suc n) rest) (b ++ k ∷ []) (j ∷ c) body) (sym (one_more n i));
    nodes = λ i c. ap (λ k. node_at (b ++ k ∷ c) kept) (one_more n i) ∙ h.nodes (suc i) c ∙ slot_behind i c x s;
    fit = h.fit;
  }

  pub behind_field : (b : List ℕ) (n : ℕ) (g : Holder) (own rest : Items) (e : Standing) (x : Slot) (s : Slots) → Along d kept b n (holder g own rest) e (slot x s)
      → Along d kept b (suc n) rest (after_holder g (b ++ n ∷ []) own (parts e (b ++ n ∷ []) 0 own) e) s
  behind_field b n g own rest e x s h = record {
    holds = λ i. ap (λ k. component d (b ++ k ∷ [])) (one_more n i) ∙ h.holds (suc i);
    deeper = λ i j c body is.
        ap (λ k. component d (b ++ k ∷ j ∷ c)) (one_more n i) ∙ h.deeper (suc i) j c body is
        ∙ ap (λ k. closed (before i (after_holder g (b ++ n ∷ []) own (parts e (b ++ n ∷ []) 0 own) e) b (suc n) rest) (b ++ k ∷ []) (j ∷ c) body) (sym (one_more n i));
    nodes = λ i c. ap (λ k. node_at (b ++ k ∷ c) kept) (one_more n i) ∙ h.nodes (suc i) c ∙ slot_behind i c x s;
    fit = h.fit.1;
  }

  pub behind_holder : (b : List ℕ) (n : ℕ) (g : Holder) (own rest : Items) (e : Standing) (w : Written) (k : Core) (inside s : Slots) → Along d kept b n (holder g own rest) e (written w k inside s)
      → Along d kept b (suc n) rest (after_holder g (b ++ n ∷ []) own (parts e (b ++ n ∷ []) 0 own) e) s
  behind_holder b n g own rest e w k inside s h = record {
    holds = λ i. ap (λ k. component d (b ++ k ∷ [])) (one_more n i) ∙ h.holds (suc i);
    deeper = λ i j c body is.
        ap (λ k. component d (b ++ k ∷ j ∷ c)) (one_more n i) ∙ h.deeper (suc i) j c body is
        ∙ ap (λ k. closed (before i (after_holder g (b ++ n ∷ []) own (parts e (b ++ n ∷ []) 0 own) e) b (suc n) rest) (b ++ k ∷ []) (j ∷ c) body) (sym (one_more n i));
    nodes = λ i c. ap (λ k. node_at (b ++ k ∷ c) kept) (one_more n i) ∙ h.nodes (suc i) c ∙ written_behind i c w k inside s;
    fit = h.fit.2;
  }

  -- the component of the first of them
  pub first_made : (b : List ℕ) (n : ℕ) (g : Holder) (own rest : Items) (e : Standing) (s : Slots) → Along d kept b n (holder g own rest) e s
      → component d (b ++ n ∷ []) ≡ Some (record { head = head_at (b ++ n ∷ []) (holder_kind g) own e; parts = parts e (b ++ n ∷ []) 0 own })
  first_made b n g own rest e s h = ap (λ k. component d (b ++ k ∷ [])) (sym (none_more n)) ∙ h.holds 0

  -- and its node
  pub first_node : (b : List ℕ) (n : ℕ) (t : Items) (e : Standing) (s : Slots) → Along d kept b n t e s → node_at (b ++ n ∷ []) kept ≡ kept_at 0 s
  first_node b n t e s h = ap (λ k. node_at (b ++ k ∷ []) kept) (sym (none_more n)) ∙ h.nodes 0 []

  -- inside it
  pub inside : (b : List ℕ) (n : ℕ) (g : Holder) (own rest : Items) (e : Standing) (s : Slots) (x : Node) → Along d kept b n (holder g own rest) e s → kept_at 0 s ≡ Some x → Fit own x.slots
      → Along d kept (b ++ n ∷ []) 0 own e x.slots
  inside b n g own rest e s x h there fit = record {
    holds = λ i.
        ap (component d) (append_assoc b (n ∷ []) ((0 + i) ∷ [])) ∙ ap (λ k. component d (b ++ k ∷ (0 + i) ∷ [])) (sym (none_more n)) ∙ h.deeper 0 (0 + i) [] own refl
        ∙ (λ z. component_in (from_none i z) e (b ++ none_more n z ∷ []) 0 own);
    deeper = λ i j c body is.
        ap (component d) (append_assoc b (n ∷ []) ((0 + i) ∷ j ∷ c)) ∙ ap (λ k. component d (b ++ k ∷ (0 + i) ∷ j ∷ c)) (sym (none_more n)) ∙ h.deeper 0 (0 + i) (j ∷ c) own refl
        ∙ (λ z. closed e (b ++ none_more n z ∷ []) (from_none i z ∷ j ∷ c) own)
        ∙ ap (option_and_then (closed (before i e (b ++ n ∷ []) 0 own) ((b ++ n ∷ []) ++ i ∷ []) (j ∷ c))) is
        ∙ ap (λ k. closed (before i e (b ++ n ∷ []) 0 own) ((b ++ n ∷ []) ++ k ∷ []) (j ∷ c) body) (sym (from_none i));
    nodes = λ i c.
        ap (λ a. node_at a kept) (append_assoc b (n ∷ []) ((0 + i) ∷ c)) ∙ ap (λ k. node_at (b ++ k ∷ (0 + i) ∷ c) kept) (sym (none_more n)) ∙ h.nodes 0 ((0 + i) ∷ c)
        ∙ ap (option_and_then (λ (y : Node). node_at ((0 + i) ∷ c) y.slots)) there ∙ ap (λ k. node_at (k ∷ c) x.slots) (from_none i);
    fit = fit;
  }

  pub from_first : Fit d kept → Along d kept [] 0 d nothing kept
  from_first fit = record {
    holds = λ i. ap (λ k. component_in k nothing [] 0 d) (from_none i);
    deeper = λ i j c body is.
        ap (λ k. component d (k ∷ j ∷ c)) (from_none i) ∙ ap (option_and_then (closed (before i nothing [] 0 d) (i ∷ []) (j ∷ c))) is
        ∙ ap (λ k. closed (before i nothing [] 0 d) (k ∷ []) (j ∷ c) body) (sym (from_none i));
    nodes = λ i c. ap (λ k. node_at (k ∷ c) kept) (from_none i);
    fit = fit;
  }
