-- The patches of fates lead to the items that the fates leave.
use Rattle.std.proofs.Common.{◌≡◌, ℕ, suc, ◌-◌, true, List, [], ◌∷◌, ◌++◌, length, Some, refl, ap, sym, subst, ◌∙◌, arith, append_assoc, length-append}
use Rattle.std.proofs.lemmas.List.Edits.{remove-append_right}
use Rattle.std.specs.Prelude.{slice_get, slice_set, option_and_then, option_map}
use Rattle.std.specs.List.{remove}
use Rattle.rdl_tree.specs.Items.{Items, no_items, plain, holder, Holder, define, anonymous}
use Rattle.rdl_tree.specs.View.{add, items_of, list_of, plain_item, holder_item, own_body}
use Rattle.rdl_tree.specs.Address.{inner, map_inner, body_at, map_body}
use Rattle.rdl_tree.specs.Edit.{remove_item}
use Rattle.rdl_tree.specs.Part.{has_part, with_part, with_part_at, put_at}
use Rattle.rdl_tree.specs.declared.description.Item.{Item}
use Rattle.rdl_tree.specs.declared.description.Item.TheVariants.{Define, Instance, Own, Default, Dynamic}
use Rattle.rdl_tree.specs.declared.description.Of.TheVariants.{Named, Anonymous}
use Rattle.rdl_tree.specs.declared.part.Part.{Part}
use Rattle.rdl_tree.specs.declared.part.Part.TheVariants.{OfShell, OfValue, OfTarget, OfType, OfDefine}
use Rattle.rdl_tree.specs.declared.patch.Patch.{Patch}
use Rattle.rdl_tree.proofs.Rounds.{list_of-items_of, items_of-list_of, list_of-add, inner-items_of}
use Rattle.rdl_scope.proofs.Levelled.{body-deeper}
use Rattle.rdl_rewrite.specs.Fates.{item_patches, fate_patches}
use Rattle.rdl_rewrite.specs.declared.fate.Fate.{Fate}
use Rattle.rdl_rewrite.specs.declared.fate.Fate.TheVariants.{Kept, Dropped, Given}
use Rattle.rdl_rewrite.proofs.Leading.{Leads, leads-none, leads-append, leads-inside, leads-delete, leads-exchange, body_at-map_body, to_next}

-- ---- An item behind others.

get-seam : (pre ys : List Item) (x : Item) → slice_get (pre ++ x ∷ ys) (length pre) ≡ Some x
get-seam [] ys x = refl
get-seam (y ∷ pre) ys x = get-seam pre ys x

set-seam : (pre ys : List Item) (x y : Item) → slice_set (pre ++ x ∷ ys) (length pre) y ≡ pre ++ y ∷ ys
set-seam [] ys x y = refl
set-seam (z ∷ pre) ys x y = ap (λ zs. z ∷ zs) (set-seam pre ys x y)

remove-seam : (pre ys : List Item) (x : Item) → remove (pre ++ x ∷ ys) (length pre) ≡ pre ++ ys
remove-seam pre ys x =
    let e : length pre - length pre ≡ 0 = omega arith in
    remove-append_right pre (x ∷ ys) (length pre) (length pre) refl (omega arith) ∙ ap (λ k. pre ++ remove (x ∷ ys) k) e

-- the body of the items before, this one and those behind
abbrev body_of : List Item → Item → Items → Items
body_of pre x rest = items_of (pre ++ x ∷ list_of rest)

got-seam : (pre : List Item) (x : Item) (rest : Items) → slice_get (list_of (body_of pre x rest)) (length pre) ≡ Some x
got-seam pre x rest = ap (λ xs. slice_get xs (length pre)) (list_of-items_of (pre ++ x ∷ list_of rest)) ∙ get-seam pre (list_of rest) x

removed-seam : (pre : List Item) (x : Item) (rest : Items) → remove_item (length pre) (body_of pre x rest) ≡ items_of (pre ++ list_of rest)
removed-seam pre x rest = ap (λ xs. items_of (remove xs (length pre))) (list_of-items_of (pre ++ x ∷ list_of rest)) ∙ ap items_of (remove-seam pre (list_of rest) x)

exchanged-seam : (part : Part) (pre : List Item) (x : Item) (rest : Items) → with_part_at (length pre) part (body_of pre x rest) ≡ body_of pre (with_part part x) rest
exchanged-seam part pre x rest =
    let ys = list_of rest in
    ap (λ xs. items_of (put_at (length pre) (option_map (with_part part) (slice_get xs (length pre))) xs)) (list_of-items_of (pre ++ x ∷ ys))
    ∙ ap (λ o. items_of (put_at (length pre) (option_map (with_part part) o) (pre ++ x ∷ ys))) (get-seam pre ys x)
    ∙ ap items_of (set-seam pre ys x (with_part part x))

map_inner-add : (i : ℕ) (f : Items → Items) (x : Item) (rest : Items) → map_inner (suc i) f (add x rest) ≡ add x (map_inner i f rest)
map_inner-add i f (Define n c) rest = refl
map_inner-add i f (Instance s (Named t)) rest = refl
map_inner-add i f (Instance s (Anonymous c)) rest = refl
map_inner-add i f (Own p v) rest = refl
map_inner-add i f (Default p v) rest = refl
map_inner-add i f (Dynamic t p v) rest = refl

map_inner-holder : (h : Holder) (body new rest : Items) → map_inner 0 (λ _. new) (add (holder_item h body) rest) ≡ add (holder_item h new) rest
map_inner-holder (define n k) body new rest = refl
map_inner-holder (anonymous s k) body new rest = refl

map_inner-seam : (pre : List Item) (h : Holder) (body new : Items) (ys : List Item)
    → map_inner (length pre) (λ _. new) (items_of (pre ++ holder_item h body ∷ ys)) ≡ items_of (pre ++ holder_item h new ∷ ys)
map_inner-seam [] h body new ys = map_inner-holder h body new (items_of ys)
map_inner-seam (x ∷ pre) h body new ys =
    map_inner-add (length pre) (λ _. new) x (items_of (pre ++ holder_item h body ∷ ys)) ∙ ap (add x) (map_inner-seam pre h body new ys)

own_body-holder : (h : Holder) (body : Items) → own_body (holder_item h body) ≡ Some body
own_body-holder (define n k) body = refl
own_body-holder (anonymous s k) body = refl

inner-seam : (pre : List Item) (h : Holder) (body : Items) (ys : List Item) → inner (length pre) (items_of (pre ++ holder_item h body ∷ ys)) ≡ Some body
inner-seam pre h body ys =
    inner-items_of (length pre) (pre ++ holder_item h body ∷ ys) ∙ ap (option_and_then own_body) (get-seam pre ys (holder_item h body)) ∙ own_body-holder h body

has_part-holder : (part : Part) (h : Holder) (body new : Items) → has_part part (holder_item h new) ≡ has_part part (holder_item h body)
has_part-holder (OfShell s) (define n k) body new = refl
has_part-holder (OfShell s) (anonymous t k) body new = refl
has_part-holder (OfValue v) (define n k) body new = refl
has_part-holder (OfValue v) (anonymous t k) body new = refl
has_part-holder (OfTarget m) (define n k) body new = refl
has_part-holder (OfTarget m) (anonymous t k) body new = refl
has_part-holder (OfType m) (define n k) body new = refl
has_part-holder (OfType m) (anonymous t k) body new = refl
has_part-holder (OfDefine m) (define n k) body new = refl
has_part-holder (OfDefine m) (anonymous t k) body new = refl

-- ---- The items that fates leave.

abbrev pub left_by : Fate → Item → Items → Items
left_by Kept x rest = add x rest
left_by Dropped x rest = rest
left_by (Given part) x rest = add (with_part part x) rest

-- the items from number n on of the body at b
abbrev pub fated : (List ℕ → Item → Fate) → List ℕ → ℕ → Items → Items
fated f b n no_items = no_items
fated f b n (plain p rest) = left_by (f (b ++ n ∷ []) (plain_item p)) (plain_item p) (fated f b (suc n) rest)
fated f b n (holder h body rest) = left_by (f (b ++ n ∷ []) (holder_item h body)) (holder_item h (fated f (b ++ n ∷ []) 0 body)) (fated f b (suc n) rest)

-- an item is given only a part of a sort that it has
abbrev pub Apt : (List ℕ → Item → Fate) → Type 0
Apt f = (at : List ℕ) (x : Item) (part : Part) → f at x ≡ Given part → has_part part x ≡ true

-- ---- The patches lead there.

listed : (pre : List Item) (x : Item) (rest : Items) → body_of pre x rest ≡ items_of (pre ++ list_of (add x rest))
listed pre x rest = ap (λ ys. items_of (pre ++ ys)) (sym (list_of-add x rest))

-- an item of whose body nothing is changed
own_leads : (b : List ℕ) (pre : List Item) (x : Item) (rest whole : Items) (fate : Fate) → body_at b whole ≡ Some (body_of pre x rest) → ((part : Part) → fate ≡ Given part → has_part part x ≡ true)
    → Leads b whole (item_patches (b ++ length pre ∷ []) fate []) (items_of (pre ++ list_of (left_by fate x rest)))
own_leads b pre x rest whole Kept here apt = to_next b whole _ _ _ (listed pre x rest) (leads-none b whole (body_of pre x rest) here)
own_leads b pre x rest whole Dropped here apt =
    to_next b whole _ _ _ (removed-seam pre x rest) (leads-delete b (length pre) whole (body_of pre x rest) x here (got-seam pre x rest))
own_leads b pre x rest whole (Given part) here apt =
    to_next b whole _ _ _ (exchanged-seam part pre x rest ∙ listed pre (with_part part x) rest)
    (leads-exchange b (length pre) part whole (body_of pre x rest) x here (got-seam pre x rest) (apt part refl))

-- an item whose body is changed before
holder_leads : (b : List ℕ) (pre : List Item) (h : Holder) (body new rest whole : Items) (inside : List Patch) (fate : Fate) → body_at b whole ≡ Some (body_of pre (holder_item h body) rest)
    → ((part : Part) → fate ≡ Given part → has_part part (holder_item h body) ≡ true) → Leads (b ++ length pre ∷ []) whole inside new
    → Leads b whole (item_patches (b ++ length pre ∷ []) fate inside) (items_of (pre ++ list_of (left_by fate (holder_item h new) rest)))
holder_leads b pre h body new rest whole inside fate here apt led = by_fate fate apt
  where
    led-inside : Leads b whole inside (body_of pre (holder_item h new) rest)
    led-inside = to_next b whole _ _ _ (map_inner-seam pre h body new (list_of rest)) (leads-inside b (length pre) whole (body_of pre (holder_item h body) rest) inside new here led)

    there : body_at b (map_body b (λ _. body_of pre (holder_item h new) rest) whole) ≡ Some (body_of pre (holder_item h new) rest)
    there = body_at-map_body b (λ _. body_of pre (holder_item h new) rest) whole (body_of pre (holder_item h body) rest) here

    by_fate : (g : Fate) → ((part : Part) → g ≡ Given part → has_part part (holder_item h body) ≡ true)
        → Leads b whole (item_patches (b ++ length pre ∷ []) g inside) (items_of (pre ++ list_of (left_by g (holder_item h new) rest)))
    by_fate Kept a = to_next b whole _ _ _ (listed pre (holder_item h new) rest) led-inside
    by_fate Dropped a =
        to_next b whole _ _ _ (removed-seam pre (holder_item h body) rest)
        (leads-delete b (length pre) whole (body_of pre (holder_item h body) rest) (holder_item h body) here (got-seam pre (holder_item h body) rest))
    by_fate (Given part) a =
        leads-append b whole inside _ _ _ led-inside
        (own_leads b pre (holder_item h new) rest _ (Given part) there (λ q e. has_part-holder q h body new ∙ a q e))

-- the items behind are changed before
behind : (b : List ℕ) (pre : List Item) (x : Item) (rest new whole : Items) (ps qs : List Patch) (next : Items) → body_at b whole ≡ Some (body_of pre x rest)
    → Leads b whole ps (items_of ((pre ++ x ∷ []) ++ list_of new))
    → ((t : Items) → body_at b t ≡ Some (body_of pre x new) → Leads b t qs next) → Leads b whole (ps ++ qs) next
behind b pre x rest new whole ps qs next here led then =
    let e : items_of ((pre ++ x ∷ []) ++ list_of new) ≡ body_of pre x new = ap items_of (append_assoc pre (x ∷ []) (list_of new)) in
    leads-append b whole ps qs (body_of pre x new) next (to_next b whole ps _ _ e led)
    (then (map_body b (λ _. body_of pre x new) whole) (body_at-map_body b (λ _. body_of pre x new) whole (body_of pre x rest) here))

pub fated_leads : (f : List ℕ → Item → Fate) → Apt f → (t : Items) (pre : List Item) (b : List ℕ) (n : ℕ) (whole : Items) → length pre ≡ n → body_at b whole ≡ Some (items_of (pre ++ list_of t))
    → Leads b whole (fate_patches f b n t) (items_of (pre ++ list_of (fated f b n t)))
fated_leads f apt no_items pre b n whole e here = leads-none b whole (items_of (pre ++ [])) here
fated_leads f apt (plain p rest) pre b n whole e here =
    let x = plain_item p in
    let at = b ++ n ∷ [] in
    let new = fated f b (suc n) rest in
    behind b pre x rest new whole (fate_patches f b (suc n) rest) (item_patches at (f at x) []) (items_of (pre ++ list_of (left_by (f at x) x new))) here
    (fated_leads f apt rest (pre ++ x ∷ []) b (suc n) whole (omega (arith, length-append pre (x ∷ []), e)) (here ∙ ap (λ xs. Some (items_of xs)) (sym (append_assoc pre (x ∷ []) (list_of rest)))))
    (λ t there.
    subst (λ k. Leads b t (item_patches (b ++ k ∷ []) (f at x) []) (items_of (pre ++ list_of (left_by (f at x) x new)))) e
    (own_leads b pre x new t (f at x) there (λ part q. apt at x part q)))
fated_leads f apt (holder h body rest) pre b n whole e here =
    let x = holder_item h body in
    let at = b ++ n ∷ [] in
    let new = fated f b (suc n) rest in
    let inside = fate_patches f at 0 body in
    let left = left_by (f at x) (holder_item h (fated f at 0 body)) new in
    behind b pre x rest new whole (fate_patches f b (suc n) rest) (item_patches at (f at x) inside) (items_of (pre ++ list_of left)) here
    (fated_leads f apt rest (pre ++ x ∷ []) b (suc n) whole (omega (arith, length-append pre (x ∷ []), e)) (here ∙ ap (λ xs. Some (items_of xs)) (sym (append_assoc pre (x ∷ []) (list_of rest)))))
    (λ t there.
    let into = body-deeper b n t (body_of pre x new) there ∙ ap (λ k. inner k (body_of pre x new)) (sym e) ∙ inner-seam pre h body (list_of new) ∙ ap Some (sym (items_of-list_of body)) in
    let led = to_next at t inside _ _ (items_of-list_of (fated f at 0 body)) (fated_leads f apt body [] at 0 t refl into) in
    subst (λ k. Leads b t (item_patches (b ++ k ∷ []) (f at x) inside) (items_of (pre ++ list_of left))) e
    (holder_leads b pre h body (fated f at 0 body) new t inside (f at x) there (λ part q. apt at x part q)
    (subst (λ k. Leads (b ++ k ∷ []) t inside (fated f at 0 body)) (sym e) led)))

pub fated_whole : (f : List ℕ → Item → Fate) → Apt f → (whole : Items) → Leads [] whole (fate_patches f [] 0 whole) (fated f [] 0 whole)
fated_whole f apt whole =
    to_next [] whole _ _ _ (items_of-list_of (fated f [] 0 whole)) (fated_leads f apt whole [] [] 0 whole refl (ap Some (sym (items_of-list_of whole))))
