-- What is counted of all components of a description, where it is nothing for each that the searches find.
use Rattle.std.proofs.Common.{◌≡◌, ℕ, suc, ◌+◌, List, [], ◌∷◌, ◌++◌, Some, refl, sym, ap, ◌∙◌, arith, append_assoc}
use Rattle.std.specs.Prelude.{sum_by, option_and_then}
use Rattle.rdl_tree.specs.Address.{inner}
use Rattle.rdl_tree.specs.Component.{holder_kind}
use Rattle.rdl_tree.specs.Items.{Items, no_items, plain, holder, Plain, Holder}
use Rattle.rdl_scope.specs.Closed.{Made, Standing, nothing, head_at, parts, after_plain, after_holder, before, component_in, closed, component}
use Rattle.rdl_elab.specs.Written.{written, all_written}
use Rattle.rdl_reach.proofs.AllPlaced.{both_sums}
use Rattle.rdl_reach.proofs.Along.{one_more, none_more, from_none}

-- the items from number n on of the body at b are t, and e stands before them
record Lies (d : Items) (b : List ℕ) (n : ℕ) (t : Items) (e : Standing) : Type 0 where
  holds : (i : ℕ) → component d (b ++ (n + i) ∷ []) ≡ component_in i e b n t
  deeper : (i j : ℕ) (c : List ℕ) (body : Items) → inner i t ≡ Some body → component d (b ++ (n + i) ∷ j ∷ c) ≡ closed (before i e b n t) (b ++ (n + i) ∷ []) (j ∷ c) body

module _ (d : Items) where
  behind_plain : (b : List ℕ) (n : ℕ) (p : Plain) (rest : Items) (e : Standing) → Lies d b n (plain p rest) e → Lies d b (suc n) rest (after_plain p e)
  behind_plain b n p rest e h = record {
    holds = λ i. ap (λ k. component d (b ++ k ∷ [])) (one_more n i) ∙ h.holds (suc i);
    deeper = λ i j c body is.
        ap (λ k. component d (b ++ k ∷ j ∷ c)) (one_more n i) ∙ h.deeper (suc i) j c body is
        ∙ ap (λ k. closed (before i (after_plain p e) b (suc n) rest) (b ++ k ∷ []) (j ∷ c) body) (sym (one_more n i));
  }

  behind_holder : (b : List ℕ) (n : ℕ) (g : Holder) (own rest : Items) (e : Standing) → Lies d b n (holder g own rest) e
      → Lies d b (suc n) rest (after_holder g (b ++ n ∷ []) own (parts e (b ++ n ∷ []) 0 own) e)
  behind_holder b n g own rest e h = record {
    holds = λ i. ap (λ k. component d (b ++ k ∷ [])) (one_more n i) ∙ h.holds (suc i);
    deeper = λ i j c body is.
        ap (λ k. component d (b ++ k ∷ j ∷ c)) (one_more n i) ∙ h.deeper (suc i) j c body is
        ∙ ap (λ k. closed (before i (after_holder g (b ++ n ∷ []) own (parts e (b ++ n ∷ []) 0 own) e) b (suc n) rest) (b ++ k ∷ []) (j ∷ c) body) (sym (one_more n i));
  }

  inside : (b : List ℕ) (n : ℕ) (g : Holder) (own rest : Items) (e : Standing) → Lies d b n (holder g own rest) e → Lies d (b ++ n ∷ []) 0 own e
  inside b n g own rest e h = record {
    holds = λ i.
        ap (component d) (append_assoc b (n ∷ []) ((0 + i) ∷ [])) ∙ ap (λ k. component d (b ++ k ∷ (0 + i) ∷ [])) (sym (none_more n)) ∙ h.deeper 0 (0 + i) [] own refl
        ∙ (λ z. component_in (from_none i z) e (b ++ none_more n z ∷ []) 0 own);
    deeper = λ i j c body is.
        ap (component d) (append_assoc b (n ∷ []) ((0 + i) ∷ j ∷ c)) ∙ ap (λ k. component d (b ++ k ∷ (0 + i) ∷ j ∷ c)) (sym (none_more n)) ∙ h.deeper 0 (0 + i) (j ∷ c) own refl
        ∙ (λ z. closed e (b ++ none_more n z ∷ []) (from_none i z ∷ j ∷ c) own)
        ∙ ap (option_and_then (closed (before i e (b ++ n ∷ []) 0 own) ((b ++ n ∷ []) ++ i ∷ []) (j ∷ c))) is
        ∙ ap (λ k. closed (before i e (b ++ n ∷ []) 0 own) ((b ++ n ∷ []) ++ k ∷ []) (j ∷ c) body) (sym (from_none i));
  }

  from_first : Lies d [] 0 d nothing
  from_first = record {
    holds = λ i. ap (λ k. component_in k nothing [] 0 d) (from_none i);
    deeper = λ i j c body is.
        ap (λ k. component d (k ∷ j ∷ c)) (from_none i) ∙ ap (option_and_then (closed (before i nothing [] 0 d) (i ∷ []) (j ∷ c))) is
        ∙ ap (λ k. closed (before i nothing [] 0 d) (k ∷ []) (j ∷ c) body) (sym (from_none i));
  }

  module _ (f : Made → ℕ) (zero_there : (c : Made) → component d c.head.at ≡ Some c → f c ≡ 0) where
    counted : (t : Items) (b : List ℕ) (n : ℕ) (e : Standing) → Lies d b n t e → sum_by f (written e b n t) ≡ 0
    counted no_items b n e h = refl
    counted (plain p rest) b n e h = counted rest b (suc n) (after_plain p e) (behind_plain b n p rest e h)
    counted (holder g own rest) b n e h =
        let here = b ++ n ∷ [] in
        let g_behind = after_holder g here own (parts e here 0 own) e in
        let c : Made = record { head = head_at here (holder_kind g) own e; parts = parts e here 0 own } in
        let deep = counted own here 0 e (inside b n g own rest e h) in
        let one = zero_there c (ap (λ k. component d (b ++ k ∷ [])) (sym (none_more n)) ∙ h.holds 0) in
        let more = counted rest b (suc n) g_behind (behind_holder b n g own rest e h) in
        let sums = both_sums f (written e here 0 own) c (written g_behind b (suc n) rest) in
        omega (arith, deep, one, more, sums)

    pub none_counted : sum_by f (all_written d) ≡ 0
    none_counted = counted d [] 0 nothing from_first
