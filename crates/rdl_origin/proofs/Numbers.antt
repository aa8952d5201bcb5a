-- Loops over the items of a body that number them, or don't.
use Rattle.std.proofs.Common.{◌≡◌, ℕ, zero, suc, ◌+◌, ◌<◌, ◌≤◌, length, false, List, [], ◌∷◌, ◌++◌, take, take_all, drop, get_or, map, Option, Some, None, refl, ap, sym, ◌∙◌, arith, drop-cons, add-one, append_assoc}
use Rattle.std.proofs.lemmas.List.{drop_all, append-nil}
use Rattle.rdl_tree.specs.Items.{Items, no_items, plain, holder, count}
use Rattle.rdl_tree.specs.View.{add, items_of, own_body}
use Rattle.rdl_tree.specs.declared.description.Item.{Item}
use Rattle.rdl_tree.specs.declared.description.Item.TheVariants.{Define, Instance, Own, Default, Dynamic}
use Rattle.rdl_tree.specs.declared.description.Of.TheVariants.{Named, Anonymous}
use Rattle.rdl_tree.specs.View as tree
use Rattle.rdl_tree.proofs.Rounds as tree_rounds
use Rattle.rdl_tree.proofs.Sizes.{item_count, count-add}
use Rattle.rdl_origin.specs.Traces.{Traces, no_traces, trace}
use Rattle.rdl_origin.specs.View.{traces_of, list_of}
use Rattle.rdl_origin.specs.Numbered.{capped, numbered, numbered_body, numbered_item, unnumbered, unnumbered_item}
use Rattle.rdl_origin.specs.declared.origin.Origin.{Origin}
use Rattle.rdl_origin.proofs.Rounds.{traces_of-list_of}

-- ---- What an item has inside.

pub count_own : (x : Item) (b : Items) → own_body x ≡ Some b → item_count x ≡ count b + 1
count_own (Define n c) b e = let same : c.body ≡ b = cc in omega (arith, ap count same)
count_own (Instance s (Named t)) b e = cc
count_own (Instance s (Anonymous c)) b e = let same : c.body ≡ b = cc in omega (arith, ap count same)
count_own (Own p v) b e = cc
count_own (Default p v) b e = cc
count_own (Dynamic t p v) b e = cc

pub count_alone : (x : Item) → own_body x ≡ None → item_count x ≡ 1
count_alone (Define n c) e = cc
count_alone (Instance s (Named t)) e = refl
count_alone (Instance s (Anonymous c)) e = cc
count_alone (Own p v) e = refl
count_alone (Default p v) e = refl
count_alone (Dynamic t p v) e = refl

count-place : (xs : List Item) (i : ℕ) (x : Item) → i < length xs → item_count (get_or xs i x) ≤ count (items_of xs)
count-place [] i x h = absurd (omega (arith, h))
count-place (y ∷ ys) zero x h = omega (arith, count-add y (items_of ys))
count-place (y ∷ ys) (suc i) x h = omega (arith, count-add y (items_of ys), count-place ys i x (omega (arith, h)))

-- the step of a loop over the items of a body
pub count-item : (xs : List Item) (i : ℕ) (x : Item) (t : Items) → i < length xs → x ≡ get_or xs i x → xs ≡ tree.list_of t → item_count x ≤ count t
count-item xs i x t h e f =
    omega (arith, ap item_count e, count-place xs i x h, ap (λ l. count (items_of l)) f, ap count (tree_rounds.items_of-list_of t))

-- ---- Numbers.

-- numbers that stop alike number alike
pub numbered-alike : (a b : ℕ) (t : Items) → capped a ≡ capped b → numbered a t ≡ numbered b t
numbered-alike a b no_items e = refl
numbered-alike a b (plain p rest) e = λ i. trace (Some (e i)) false false no_traces (numbered-alike (a + 1) (b + 1) rest (omega arith) i)
numbered-alike a b (holder h body rest) e =
    λ i. trace (Some (e i)) false false (numbered-alike (a + 1) (b + 1) body (omega arith) i) (numbered-alike (a + 1 + count body) (b + 1 + count body) rest (omega arith) i)

abbrev pub unmarked : Option ℕ → Traces → Origin
unmarked now inside = record { now = now; is_touched = false; is_moved = false; inside = inside }

pub holder_numbered : (k n : ℕ) (x : Item) (b : Items) (inside : Traces) → k ≡ capped k → own_body x ≡ Some b → n ≡ capped (k + 1) → inside ≡ numbered n b → unmarked (Some k) inside ≡ numbered_item k x
holder_numbered k n x b inside e h f g =
    let same : inside ≡ numbered_body (k + 1) (own_body x) = g ∙ numbered-alike n (k + 1) b (omega (arith, f)) ∙ ap (numbered_body (k + 1)) (sym h) in
    λ i. unmarked (Some (e i)) (same i)

pub plain_numbered : (k : ℕ) (x : Item) (inside : Traces) → k ≡ capped k → own_body x ≡ None → inside ≡ no_traces → unmarked (Some k) inside ≡ numbered_item k x
plain_numbered k x inside e h g =
    let same : inside ≡ numbered_body (k + 1) (own_body x) = g ∙ ap (numbered_body (k + 1)) (sym h) in
    λ i. unmarked (Some (e i)) (same i)

numbered-add : (n : ℕ) (x : Item) (rest : Items) → list_of (numbered n (add x rest)) ≡ numbered_item n x ∷ list_of (numbered (n + item_count x) rest)
numbered-add n (Define m c) rest = ap (λ k. numbered_item n (Define m c) ∷ list_of (numbered k rest)) (omega arith)
numbered-add n (Instance s (Named t)) rest = refl
numbered-add n (Instance s (Anonymous c)) rest = ap (λ k. numbered_item n (Instance s (Anonymous c)) ∷ list_of (numbered k rest)) (omega arith)
numbered-add n (Own p v) rest = refl
numbered-add n (Default p v) rest = refl
numbered-add n (Dynamic t p v) rest = refl

-- a loop as far as the items before this place: what is done, and the number behind all
pub record IsNumberedTo (n : ℕ) (xs : List Item) (i : ℕ) (done : List Origin) (next : ℕ) : Type 0 where
  pub list : list_of (numbered n (items_of xs)) ≡ done ++ list_of (numbered next (items_of (drop i xs)))
  pub end : capped (n + count (items_of xs)) ≡ capped (next + count (items_of (drop i xs)))

rest_is : (xs : List Item) (i : ℕ) (x : Item) → i < length xs → x ≡ get_or xs i x → drop i xs ≡ x ∷ drop (i + 1) xs
rest_is xs i x h e = drop-cons xs i x h ∙ ap (λ q. q ∷ drop (suc i) xs) (sym e) ∙ ap (λ n. x ∷ drop n xs) (sym (add-one i))

pub numbered_more : (n : ℕ) (xs : List Item) (i : ℕ) (x : Item) (done new : List Origin) (o : Origin) (next m : ℕ) → i < length xs → x ≡ get_or xs i x
    → new ≡ done ++ o ∷ [] → o ≡ numbered_item next x → capped m ≡ capped (next + item_count x) → IsNumberedTo n xs i done next → IsNumberedTo n xs (i + 1) new m
numbered_more n xs i x done new o next m h e f g k way =
    let rest : Items = items_of (drop (i + 1) xs) in
    let split : items_of (drop i xs) ≡ add x rest = ap items_of (rest_is xs i x h e) in
    let same : numbered (next + item_count x) rest ≡ numbered m rest =
    numbered-alike (next + item_count x) m rest (sym k) in record {
      list = way.list ∙ ap (λ t. done ++ list_of (numbered next t)) split ∙ ap (λ l. done ++ l) (numbered-add next x rest)
          ∙ ap (λ (q : Origin). done ++ q ∷ list_of (numbered (next + item_count x) rest)) (sym g)
          ∙ ap (λ t. done ++ o ∷ list_of t) same
          ∙ sym (append_assoc done (o ∷ []) (list_of (numbered m rest)))
          ∙ ap (λ l. l ++ list_of (numbered m rest)) (sym f);
      end = way.end ∙ ap (λ t. capped (next + count t)) split ∙ omega (arith, count-add x rest);
    }

-- all items are numbered
pub numbered_done : (n : ℕ) (xs : List Item) (i : ℕ) (t : Items) (done : List Origin) (next : ℕ) → length xs ≤ i → xs ≡ tree.list_of t → IsNumberedTo n xs i done next → traces_of done ≡ numbered n t
numbered_done n xs i t done next h e way =
    ap traces_of (sym (append-nil done)) ∙ ap (λ l. traces_of (done ++ list_of (numbered next (items_of l)))) (sym (drop_all i xs h))
    ∙ ap traces_of (sym way.list) ∙ traces_of-list_of (numbered n (items_of xs)) ∙ ap (λ l. numbered n (items_of l)) e ∙ ap (numbered n) (tree_rounds.items_of-list_of t)

pub next_done : (n : ℕ) (xs : List Item) (i : ℕ) (t : Items) (done : List Origin) (next : ℕ) → length xs ≤ i → xs ≡ tree.list_of t → IsNumberedTo n xs i done next → capped next ≡ capped (n + count t)
next_done n xs i t done next h e way =
    omega (arith, way.end, ap (λ l. count (items_of l)) (drop_all i xs h), ap (λ l. count (items_of l)) e, ap count (tree_rounds.items_of-list_of t))

-- ---- Without numbers.

pub unnumbered-items_of : (xs : List Item) → unnumbered (items_of xs) ≡ traces_of (map unnumbered_item xs)
unnumbered-items_of [] = refl
unnumbered-items_of (Define n c ∷ xs) = ap (trace None false false (unnumbered c.body)) (unnumbered-items_of xs)
unnumbered-items_of (Instance s (Named t) ∷ xs) = ap (trace None false false no_traces) (unnumbered-items_of xs)
unnumbered-items_of (Instance s (Anonymous c) ∷ xs) = ap (trace None false false (unnumbered c.body)) (unnumbered-items_of xs)
unnumbered-items_of (Own p v ∷ xs) = ap (trace None false false no_traces) (unnumbered-items_of xs)
unnumbered-items_of (Default p v ∷ xs) = ap (trace None false false no_traces) (unnumbered-items_of xs)
unnumbered-items_of (Dynamic t p v ∷ xs) = ap (trace None false false no_traces) (unnumbered-items_of xs)

pub unnumbered_done : (xs : List Item) (i : ℕ) (t : Items) (done : List Origin) → length xs ≤ i → xs ≡ tree.list_of t → done ≡ map unnumbered_item (take i xs) → traces_of done ≡ unnumbered t
unnumbered_done xs i t done h e f =
    ap traces_of (f ∙ ap (map unnumbered_item) (take_all i xs h ∙ e)) ∙ sym (unnumbered-items_of (tree.list_of t)) ∙ ap unnumbered (tree_rounds.items_of-list_of t)
