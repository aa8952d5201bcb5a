-- Steps along the items of a body, for its dynamic assignments.
use Rattle.std.proofs.Common.{◌≡◌, ℕ, suc, ◌+◌, ◌<◌, ◌≤◌, List, [], ◌∷◌, ◌++◌, length, drop, get_or, Some, None, Option, refl, ap, sym, subst, ◌∙◌, arith, option_map, append_assoc}
use Rattle.std.specs.List.{cons_option}
use Rattle.rdl_tree.specs.Items.{Items}
use Rattle.rdl_tree.specs.View.{add, items_of, list_of}
use Rattle.rdl_tree.specs.declared.description.Item.{Item}
use Rattle.rdl_tree.specs.declared.description.Item.TheVariants.{Define, Instance, Own, Default, Dynamic}
use Rattle.rdl_tree.specs.declared.description.Of.TheVariants.{Named, Anonymous}
use Rattle.rdl_tree.specs.declared.value.Value.{Value}
use Rattle.rdl_tree.proofs.Rests.{rest-next, rest-none, rest-all}
use Rattle.rdl_elab.specs.Reaches.{Reach, reaches_by, reach_by, with_path}

with-path : (o : Option (List (List ℕ))) (p : List ℕ) (v : Value) (rest : List Reach) → with_path o p v rest ≡ cons_option (option_map (λ path. record { path = path; property = p; value = v }) o) rest
with-path None p v rest = refl
with-path (Some path) p v rest = refl

-- the instances that the target of an item passes
module _ (f : ℕ → List (List ℕ) → Option (List (List ℕ))) where
  reaches-add : (n : ℕ) (x : Item) (rest : Items) → reaches_by f n (add x rest) ≡ cons_option (reach_by (f n) x) (reaches_by f (suc n) rest)
  reaches-add n (Define m c) rest = refl
  reaches-add n (Instance s (Named t)) rest = refl
  reaches-add n (Instance s (Anonymous c)) rest = refl
  reaches-add n (Own q v) rest = refl
  reaches-add n (Default q v) rest = refl
  reaches-add n (Dynamic t q v) rest = with-path (f n t) q v (reaches_by f (suc n) rest)

  reaches-next : (i : ℕ) (xs : List Item) (x : Item) → i < length xs
      → reaches_by f i (items_of (drop i xs)) ≡ cons_option (reach_by (f i) (get_or xs i x)) (reaches_by f (i + 1) (items_of (drop (i + 1) xs)))
  reaches-next i xs x h =
      let j : suc i ≡ i + 1 = omega arith in
      ap (reaches_by f i) (rest-next i xs x h) ∙ reaches-add i (get_or xs i x) (items_of (drop (i + 1) xs))
      ∙ ap (λ k. cons_option (reach_by (f i) (get_or xs i x)) (reaches_by f k (items_of (drop (i + 1) xs)))) j

  reaches-some : (i : ℕ) (xs : List Item) (x : Item) (r : Reach) → i < length xs → reach_by (f i) (get_or xs i x) ≡ Some r
      → reaches_by f i (items_of (drop i xs)) ≡ r ∷ reaches_by f (i + 1) (items_of (drop (i + 1) xs))
  reaches-some i xs x r h e = reaches-next i xs x h ∙ ap (λ o. cons_option o (reaches_by f (i + 1) (items_of (drop (i + 1) xs)))) e

  reaches-none : (i : ℕ) (xs : List Item) (x : Item) → i < length xs → reach_by (f i) (get_or xs i x) ≡ None
      → reaches_by f i (items_of (drop i xs)) ≡ reaches_by f (i + 1) (items_of (drop (i + 1) xs))
  reaches-none i xs x h e = reaches-next i xs x h ∙ ap (λ o. cons_option o (reaches_by f (i + 1) (items_of (drop (i + 1) xs)))) e

  pub reaches-end : (i : ℕ) (xs : List Item) → length xs ≤ i → reaches_by f i (items_of (drop i xs)) ≡ []
  reaches-end i xs h = ap (reaches_by f i) (rest-none i xs h)

  -- one item more
  module _ (t : Items) (xs : List Item) (i : ℕ) (x : Item) (is_body : xs ≡ list_of t) (less : i < length xs) (is : x ≡ get_or xs i x) (o : Option Reach) (assigns : o ≡ reach_by (f i) x)
      (done : List Reach) (so_far : reaches_by f 0 t ≡ done ++ reaches_by f i (items_of (drop i (list_of t)))) where
    here : reach_by (f i) (get_or (list_of t) i x) ≡ o
    here = ap (λ (ys : List Item). reach_by (f i) (get_or ys i x)) (sym is_body) ∙ ap (reach_by (f i)) (sym is) ∙ sym assigns

    within : i < length (list_of t)
    within = subst (λ (ys : List Item). i < length ys) is_body less

    pub goes-some : (r : Reach) (list : List Reach) → o ≡ Some r → list ≡ done ++ r ∷ [] → reaches_by f 0 t ≡ list ++ reaches_by f (i + 1) (items_of (drop (i + 1) (list_of t)))
    goes-some r list e g =
        so_far ∙ ap (λ rs. done ++ rs) (reaches-some i (list_of t) x r within (here ∙ e))
        ∙ sym (append_assoc done (r ∷ []) (reaches_by f (i + 1) (items_of (drop (i + 1) (list_of t)))))
        ∙ ap (λ rs. rs ++ reaches_by f (i + 1) (items_of (drop (i + 1) (list_of t)))) (sym g)

    pub goes-none : (list : List Reach) → o ≡ None → list ≡ done → reaches_by f 0 t ≡ list ++ reaches_by f (i + 1) (items_of (drop (i + 1) (list_of t)))
    goes-none list e g =
        so_far ∙ ap (λ rs. done ++ rs) (reaches-none i (list_of t) x within (here ∙ e))
        ∙ ap (λ rs. rs ++ reaches_by f (i + 1) (items_of (drop (i + 1) (list_of t)))) (sym g)

pub ruleset steps = (reaches-end, rest-all)
