-- What holds of each item of a description, and of those inside.
use Rattle.std.proofs.Common.{ℕ, zero, suc, Bool, true, false, if◌then◌else◌, List, [], ◌∷◌, ◌++◌, Option, Some, None, All, drop, insert, remove, take, slice_get, slice_set}
use Rattle.std.specs.Prelude.{IfSome, option_and_then}
use Rattle.std.proofs.lemmas.List.Elements.{All-nil, All-cons, All-head, All-tail, All-append, All-set, All-take, All-drop}
use Rattle.rdl_tree.specs.Address.{inner, map_inner, body_at, map_body}
use Rattle.rdl_tree.specs.Edit.{insert_item, remove_item, replace_item}
use Rattle.rdl_tree.specs.Items.{Items, no_items, plain, holder, Plain, named, own, default, dynamic, Holder, define, anonymous}
use Rattle.rdl_tree.specs.View.{add, items_of, list_of, plain_item, holder_item}
use Rattle.rdl_tree.specs.declared.description.Item.{Item}
use Rattle.rdl_tree.specs.declared.description.Item.TheVariants.{Define, Instance, Own, Default, Dynamic}
use Rattle.rdl_tree.specs.declared.description.Of.TheVariants.{Named, Anonymous}

-- what holds of both holds of either
pub chosen : {X : Type 0} (P : X → Type 0) (z : Bool) (x y : X) → P x → P y → P (if z then x else y)
chosen P true x y h k = h
chosen P false x y h k = k

-- of each item without a component of its own, and of each other but for its body
abbrev pub Each : (P : Plain → Type 0) → (H : Holder → Type 0) → Items → Type 0
Each P H no_items = Unit {0}
Each P H (plain p rest) = P p × Each P H rest
Each P H (holder h body rest) = H h × Each P H body × Each P H rest

-- of one item, and of those inside
abbrev pub Fits : (P : Plain → Type 0) → (H : Holder → Type 0) → Item → Type 0
Fits P H (Define n c) = H (define n c.kind) × Each P H c.body
Fits P H (Instance s (Named t)) = P (named s t)
Fits P H (Instance s (Anonymous c)) = H (anonymous s c.kind) × Each P H c.body
Fits P H (Own p v) = P (own p v)
Fits P H (Default p v) = P (default p v)
Fits P H (Dynamic t p v) = P (dynamic t p v)

pub weaker : (P P' : Plain → Type 0) (H H' : Holder → Type 0) → ((p : Plain) → P p → P' p) → ((h : Holder) → H h → H' h) → (t : Items) → Each P H t → Each P' H' t
weaker P P' H H' f g no_items e = tt
weaker P P' H H' f g (plain p rest) e = (f p e.0, weaker P P' H H' f g rest e.1)
weaker P P' H H' f g (holder h body rest) e = (g h e.0, weaker P P' H H' f g body e.1, weaker P P' H H' f g rest e.2)

module _ (P : Plain → Type 0) (H : Holder → Type 0) where
  -- ---- Of a body, and of the list of its items.

  plain-fits : (p : Plain) → P p → Fits P H (plain_item p)
  plain-fits (named s t) h = h
  plain-fits (own p v) h = h
  plain-fits (default p v) h = h
  plain-fits (dynamic t p v) h = h

  holder-fits : (h : Holder) (body : Items) → H h → Each P H body → Fits P H (holder_item h body)
  holder-fits (define n k) body f e = (f, e)
  holder-fits (anonymous s k) body f e = (f, e)

  pub items-fit : (t : Items) → Each P H t → All (Fits P H) (list_of t)
  items-fit no_items e = All-nil (Fits P H)
  items-fit (plain p rest) e = All-cons (Fits P H) (plain_item p) (list_of rest) (plain-fits p e.0) (items-fit rest e.1)
  items-fit (holder h body rest) e = All-cons (Fits P H) (holder_item h body) (list_of rest) (holder-fits h body e.0 e.1) (items-fit rest e.2)

  each-add : (x : Item) (rest : Items) → Fits P H x → Each P H rest → Each P H (add x rest)
  each-add (Define n c) rest f e = (f.0, f.1, e)
  each-add (Instance s (Named t)) rest f e = (f, e)
  each-add (Instance s (Anonymous c)) rest f e = (f.0, f.1, e)
  each-add (Own p v) rest f e = (f, e)
  each-add (Default p v) rest f e = (f, e)
  each-add (Dynamic t p v) rest f e = (f, e)

  pub each-of : (xs : List Item) → All (Fits P H) xs → Each P H (items_of xs)
  each-of [] f = tt
  each-of (x ∷ xs) f = each-add x (items_of xs) (All-head (Fits P H) x xs f) (each-of xs (All-tail (Fits P H) x xs f))

  pub together : (xs ys : List Item) → Each P H (items_of xs) → Each P H (items_of ys) → Each P H (items_of (xs ++ ys))
  together [] ys h k = k
  together (Define n c ∷ xs) ys h k = (h.0, h.1, together xs ys h.2 k)
  together (Instance s (Named t) ∷ xs) ys h k = (h.0, together xs ys h.1 k)
  together (Instance s (Anonymous c) ∷ xs) ys h k = (h.0, h.1, together xs ys h.2 k)
  together (Own p v ∷ xs) ys h k = (h.0, together xs ys h.1 k)
  together (Default p v ∷ xs) ys h k = (h.0, together xs ys h.1 k)
  together (Dynamic t p v ∷ xs) ys h k = (h.0, together xs ys h.1 k)

  pub fits-get : (xs : List Item) (n : ℕ) → All (Fits P H) xs → IfSome (slice_get xs n) (Fits P H)
  fits-get [] n f = tt
  fits-get (x ∷ xs) zero f = All-head (Fits P H) x xs f
  fits-get (x ∷ xs) (suc n) f = fits-get xs n (All-tail (Fits P H) x xs f)

  -- ---- One item put in, taken out or replaced.

  pub each-insert : (n : ℕ) (x : Item) (b : Items) → Fits P H x → Each P H b → Each P H (insert_item n x b)
  each-insert n x b f e =
      let xs = list_of b in
      let all = items-fit b e in
      each-of (insert xs n x) (All-append (Fits P H) (take n xs) (x ∷ drop n xs) (All-take (Fits P H) n xs all) (All-cons (Fits P H) x (drop n xs) f (All-drop (Fits P H) n xs all)))

  pub each-remove : (n : ℕ) (b : Items) → Each P H b → Each P H (remove_item n b)
  each-remove n b e =
      let xs = list_of b in
      let all = items-fit b e in
      each-of (remove xs n) (All-append (Fits P H) (take n xs) (drop (suc n) xs) (All-take (Fits P H) n xs all) (All-drop (Fits P H) (suc n) xs all))

  pub each-replace : (n : ℕ) (x : Item) (b : Items) → Fits P H x → Each P H b → Each P H (replace_item n x b)
  each-replace n x b f e = each-of (slice_set (list_of b) n x) (All-set (Fits P H) (list_of b) n x f (items-fit b e))

  -- ---- The body at an address, and another there.

  pub inner-each : (i : ℕ) (t : Items) → Each P H t → IfSome (inner i t) (Each P H)
  inner-each i no_items e = tt
  inner-each zero (plain p rest) e = tt
  inner-each zero (holder h body rest) e = e.1
  inner-each (suc i) (plain p rest) e = inner-each i rest e.1
  inner-each (suc i) (holder h body rest) e = inner-each i rest e.2

  pub body-each : (path : List ℕ) (t : Items) → Each P H t → IfSome (body_at path t) (Each P H)
  body-each [] t e = e
  body-each (i ∷ path) t e = by (body-each path) (inner i t) (inner-each i t e)
    where
      by : ((b : Items) → Each P H b → IfSome (body_at path b) (Each P H)) → (o : Option Items) → IfSome o (Each P H) → IfSome (option_and_then (body_at path) o) (Each P H)
      by deeper None f = tt
      by deeper (Some b) f = deeper b f

  changed-inner : (i : ℕ) (f : Items → Items) (t : Items) → ((b : Items) → Each P H b → Each P H (f b)) → Each P H t → Each P H (map_inner i f t)
  changed-inner i f no_items k e = e
  changed-inner zero f (plain p rest) k e = e
  changed-inner zero f (holder h body rest) k e = (e.0, k body e.1, e.2)
  changed-inner (suc i) f (plain p rest) k e = (e.0, changed-inner i f rest k e.1)
  changed-inner (suc i) f (holder h body rest) k e = (e.0, e.1, changed-inner i f rest k e.2)

  pub changed-body : (path : List ℕ) (f : Items → Items) (t : Items) → ((b : Items) → Each P H b → Each P H (f b)) → Each P H t → Each P H (map_body path f t)
  changed-body [] f t k e = k t e
  changed-body (i ∷ path) f t k e = changed-inner i (map_body path f) t (λ b. changed-body path f b k) e
