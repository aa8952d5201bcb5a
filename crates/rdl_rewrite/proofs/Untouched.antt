-- Bodies whose items stay as they are.
use Rattle.std.proofs.Common.{◌≡◌, ℕ, suc, Bool, true, false, cond, List, [], ◌∷◌, ◌++◌, length, Some, None, Option, refl, ap, sym, ◌∙◌, append_assoc, nat_eq, eq-eqb, true≢false}
use Rattle.std.proofs.lemmas.List.Folds.{list_any-append}
use Rattle.std.proofs.lemmas.Slice.Eq.{bytes_eq-Decides}
use Rattle.std.specs.Prelude.{slice_get, option_and_then}
use Rattle.std.specs.List.{list_any}
use Rattle.rdl_tree.specs.ItemAt.{item_at}
use Rattle.rdl_tree.specs.Items.{Items, no_items, plain, holder, Plain, Holder, named, own, default, dynamic, define, anonymous}
use Rattle.rdl_tree.specs.View.{add, list_of, plain_item, holder_item, own_body}
use Rattle.rdl_tree.specs.Address.{body_at, holder_of}
use Rattle.rdl_tree.specs.declared.description.Item.{Item}
use Rattle.rdl_tree.specs.declared.description.Item.TheVariants.{Define, Instance, Own, Default, Dynamic}
use Rattle.rdl_tree.specs.declared.description.Of.TheVariants.{Named, Anonymous}
use Rattle.rdl_scope.specs.Types.{type_from, type_of}
use Rattle.rdl_scope.proofs.Levelled.{item-deeper}
use Rattle.rdl_rewrite.specs.Addresses.{same, leads_to, addresses}
use Rattle.rdl_rewrite.specs.Fates.{fate, given_if, item_patches, fate_patches}
use Rattle.rdl_rewrite.specs.Touched.{may_touch, is_any_inside}
use Rattle.rdl_rewrite.specs.declared.fate.Fate.TheVariants.{Kept, Given}
use Rattle.rdl_tree.specs.declared.part.Part.TheVariants.{OfShell, OfType, OfDefine}
use Rattle.rdl_rewrite.proofs.Before.{nothing_passed}
use Rattle.rdl_rewrite.proofs.Found.{or-false, or-both, unled-name}
use Rattle.rdl_rewrite.proofs.Located.{body_at-item}
use Rattle.rdl_rewrite.proofs.Staying.{not_out}

-- an item of a plain kind in which no name may stand for the item on the way
plain_kept : (d : Items) (way : List ℕ) (name : Option (List ℕ)) (b : List ℕ) (n : ℕ) (p : Plain) → item_at (b ++ n ∷ []) d ≡ Some (plain_item p) → same (b ++ n ∷ []) way ≡ false
    → may_touch (item_at way d) (item_at (holder_of way) d) (plain_item p) ≡ false → item_patches (b ++ n ∷ []) (fate d way name (b ++ n ∷ []) (plain_item p)) [] ≡ []
plain_kept d way name b n (dynamic t p v) here off untouched = nothing_passed d way name b n (Dynamic t p v) t p v refl here off untouched
plain_kept d way None b n (named s t) here off untouched = ap (λ f. item_patches (b ++ n ∷ []) f []) (not_out d way (b ++ n ∷ []) (Instance s (Named t)) here off refl)
plain_kept d way None b n (own p v) here off untouched = ap (λ f. item_patches (b ++ n ∷ []) f []) (not_out d way (b ++ n ∷ []) (Own p v) here off refl)
plain_kept d way None b n (default p v) here off untouched = ap (λ f. item_patches (b ++ n ∷ []) f []) (not_out d way (b ++ n ∷ []) (Default p v) here off refl)
plain_kept d way (Some m) b n (named s t) here off untouched =
    let at : List ℕ = b ++ n ∷ [] in
    ap (λ c. item_patches at (cond c (Given (OfShell (record s { name = m }))) (given_if (leads_to way (type_of d at)) (OfType m))) []) off
    ∙ ap (λ c. item_patches at (given_if c (OfType m)) []) (ap (λ o. leads_to way (option_and_then (type_from d at) o)) here ∙ unled-name d way at t untouched)
plain_kept d way (Some m) b n (own p v) here off untouched = refl
plain_kept d way (Some m) b n (default p v) here off untouched = refl

-- an item with a body of its own
holder_kept : (d : Items) (way : List ℕ) (name : Option (List ℕ)) (at : List ℕ) (h : Holder) (body : Items) → item_at at d ≡ Some (holder_item h body) → same at way ≡ false → fate d way name at (holder_item h body) ≡ Kept
holder_kept d way None at (define n k) body here off = not_out d way at _ here off refl
holder_kept d way None at (anonymous s k) body here off = not_out d way at _ here off refl
holder_kept d way (Some m) at (define n k) body here off = ap (λ c. given_if c (OfDefine m)) off
holder_kept d way (Some m) at (anonymous s k) body here off = ap (λ c. cond c (Given (OfShell (record s { name = m }))) Kept) off

own-holder : (h : Holder) (body : Items) → own_body (holder_item h body) ≡ Some body
own-holder (define n k) body = refl
own-holder (anonymous s k) body = refl

at-end : (front : List Item) (x : Item) (rest : List Item) → slice_get (front ++ x ∷ rest) (length front) ≡ Some x
at-end [] x rest = refl
at-end (y ∷ ys) x rest = at-end ys x rest

one-longer : (front : List Item) (x : Item) → suc (length front) ≡ length (front ++ x ∷ [])
one-longer [] x = refl
one-longer (y ∷ ys) x = ap suc (one-longer ys x)

located : (b : List ℕ) (d all : Items) (front : List Item) (n : ℕ) (x : Item) (rest : List Item) → body_at b d ≡ Some all → n ≡ length front → list_of all ≡ front ++ x ∷ rest → item_at (b ++ n ∷ []) d ≡ Some x
located b d all front n x rest here len is = item-deeper b n d all here ∙ ap (λ xs. slice_get xs n) is ∙ ap (λ k. slice_get (front ++ x ∷ rest) k) len ∙ at-end front x rest

-- the items behind these first ones of the body at b
quiet : (d : Items) (way : List ℕ) (name : Option (List ℕ)) (b : List ℕ) (all : Items) (front : List Item) (n : ℕ) (t : Items) → body_at b d ≡ Some all → n ≡ length front → list_of all ≡ front ++ list_of t
    → ((rest : List ℕ) → same (b ++ rest) way ≡ false) → is_any_inside (may_touch (item_at way d) (item_at (holder_of way) d)) t ≡ false → fate_patches (fate d way name) b n t ≡ []
quiet d way name b all front n no_items here len is off none = refl
quiet d way name b all front n (plain p rest) here len is off none =
    let at : List ℕ = b ++ n ∷ [] in
    let met : item_at at d ≡ Some (plain_item p) = located b d all front n (plain_item p) (list_of rest) here len is in
    let parts = or-false (may_touch (item_at way d) (item_at (holder_of way) d) (plain_item p)) (is_any_inside (may_touch (item_at way d) (item_at (holder_of way) d)) rest) none in
    let more : list_of all ≡ (front ++ plain_item p ∷ []) ++ list_of rest = is ∙ sym (append_assoc front (plain_item p ∷ []) (list_of rest)) in
    ap (λ ps. ps ++ item_patches at (fate d way name at (plain_item p)) []) (quiet d way name b all (front ++ plain_item p ∷ []) (suc n) rest here (ap suc len ∙ one-longer front (plain_item p)) more off parts.1)
    ∙ plain_kept d way name b n p met (off (n ∷ [])) parts.0
quiet d way name b all front n (holder h body rest) here len is off none =
    let at : List ℕ = b ++ n ∷ [] in
    let met : item_at at d ≡ Some (holder_item h body) = located b d all front n (holder_item h body) (list_of rest) here len is in
    let held : body_at at d ≡ Some body = body_at-item at d (holder_item h body) met ∙ own-holder h body in
    let parts = or-false (is_any_inside (may_touch (item_at way d) (item_at (holder_of way) d)) body) (is_any_inside (may_touch (item_at way d) (item_at (holder_of way) d)) rest) none in
    let more : list_of all ≡ (front ++ holder_item h body ∷ []) ++ list_of rest = is ∙ sym (append_assoc front (holder_item h body ∷ []) (list_of rest)) in
    let inside = fate_patches (fate d way name) at 0 body in
    let deeper : (r : List ℕ) → same (at ++ r) way ≡ false = λ r. ap (λ a. same a way) (append_assoc b (n ∷ []) r) ∙ off (n ∷ r) in
    ap (λ ps. ps ++ item_patches at (fate d way name at (holder_item h body)) inside) (quiet d way name b all (front ++ holder_item h body ∷ []) (suc n) rest here (ap suc len ∙ one-longer front (holder_item h body)) more off parts.1)
    ∙ ap (λ f. item_patches at f inside) (holder_kept d way name at h body met (off (n ∷ [])))
    ∙ quiet d way name at body [] 0 body held refl refl deeper parts.0

-- an item with a body in which nothing is on the way, and no name may stand for the item on the way
pub nothing_inside : (d : Items) (way : List ℕ) (name : Option (List ℕ)) (b : List ℕ) (n : ℕ) (x : Item) (body : Items) → item_at (b ++ n ∷ []) d ≡ Some x → own_body x ≡ Some body
    → ((rest : List ℕ) → same (b ++ n ∷ rest) way ≡ false) → is_any_inside (may_touch (item_at way d) (item_at (holder_of way) d)) body ≡ false → fate_patches (fate d way name) b n (add x no_items) ≡ []
nothing_inside d way name b n x body here has off none = by_holder x here has
  where
    at : List ℕ
    at = b ++ n ∷ []

    deeper : (r : List ℕ) → same (at ++ r) way ≡ false
    deeper r = ap (λ a. same a way) (append_assoc b (n ∷ []) r) ∙ off r

    held : body_at at d ≡ Some body
    held = body_at-item at d x here ∙ has

    inside : fate_patches (fate d way name) at 0 body ≡ []
    inside = quiet d way name at body [] 0 body held refl refl deeper none

    of_holder : (h : Holder) (t : Items) → t ≡ body → item_at at d ≡ Some (holder_item h t) → fate_patches (fate d way name) b n (holder h t no_items) ≡ []
    of_holder h t e met = ap (λ f. item_patches at f (fate_patches (fate d way name) at 0 t)) (holder_kept d way name at h t met (off [])) ∙ ap (λ u. fate_patches (fate d way name) at 0 u) e ∙ inside

    by_holder : (y : Item) → item_at at d ≡ Some y → own_body y ≡ Some body → fate_patches (fate d way name) b n (add y no_items) ≡ []
    by_holder (Define m c) met h = let same_body : c.body ≡ body = cc in of_holder (define m c.kind) c.body same_body met
    by_holder (Instance s (Anonymous c)) met h = let same_body : c.body ≡ body = cc in of_holder (anonymous s c.kind) c.body same_body met
    by_holder (Instance s (Named t)) met h = cc
    by_holder (Own p v) met h = cc
    by_holder (Default p v) met h = cc
    by_holder (Dynamic t p v) met h = cc

-- ---- No reference in such a body leads to the item on the way.

plain_unled : (d : Items) (way : List ℕ) (outer : Option Item) (at : List ℕ) (p : Plain) → item_at at d ≡ Some (plain_item p) → may_touch (item_at way d) outer (plain_item p) ≡ false → leads_to way (type_of d at) ≡ false
plain_unled d way outer at (named s t) here untouched = ap (λ o. leads_to way (option_and_then (type_from d at) o)) here ∙ unled-name d way at t untouched
plain_unled d way outer at (own p v) here untouched = ap (λ o. leads_to way (option_and_then (type_from d at) o)) here
plain_unled d way outer at (default p v) here untouched = ap (λ o. leads_to way (option_and_then (type_from d at) o)) here
plain_unled d way outer at (dynamic t p v) here untouched = ap (λ o. leads_to way (option_and_then (type_from d at) o)) here

holder_unled : (d : Items) (way : List ℕ) (at : List ℕ) (h : Holder) (body : Items) → item_at at d ≡ Some (holder_item h body) → leads_to way (type_of d at) ≡ false
holder_unled d way at (define n k) body here = ap (λ o. leads_to way (option_and_then (type_from d at) o)) here
holder_unled d way at (anonymous s k) body here = ap (λ o. leads_to way (option_and_then (type_from d at) o)) here

-- from the items behind these first ones of the body at b
unled : (d : Items) (way : List ℕ) (outer : Option Item) (b : List ℕ) (all : Items) (front : List Item) (n : ℕ) (t : Items) → body_at b d ≡ Some all → n ≡ length front → list_of all ≡ front ++ list_of t
    → is_any_inside (may_touch (item_at way d) outer) t ≡ false → list_any (λ a. leads_to way (type_of d a)) (addresses b n t) ≡ false
unled d way outer b all front n no_items here len is none = refl
unled d way outer b all front n (plain p rest) here len is none =
    let at : List ℕ = b ++ n ∷ [] in
    let met : item_at at d ≡ Some (plain_item p) = located b d all front n (plain_item p) (list_of rest) here len is in
    let parts = or-false (may_touch (item_at way d) outer (plain_item p)) (is_any_inside (may_touch (item_at way d) outer) rest) none in
    let more : list_of all ≡ (front ++ plain_item p ∷ []) ++ list_of rest = is ∙ sym (append_assoc front (plain_item p ∷ []) (list_of rest)) in
    or-both (leads_to way (type_of d at)) (list_any (λ a. leads_to way (type_of d a)) (addresses b (suc n) rest)) (plain_unled d way outer at p met parts.0)
    (unled d way outer b all (front ++ plain_item p ∷ []) (suc n) rest here (ap suc len ∙ one-longer front (plain_item p)) more parts.1)
unled d way outer b all front n (holder h body rest) here len is none =
    let at : List ℕ = b ++ n ∷ [] in
    let met : item_at at d ≡ Some (holder_item h body) = located b d all front n (holder_item h body) (list_of rest) here len is in
    let held : body_at at d ≡ Some body = body_at-item at d (holder_item h body) met ∙ own-holder h body in
    let parts = or-false (is_any_inside (may_touch (item_at way d) outer) body) (is_any_inside (may_touch (item_at way d) outer) rest) none in
    let more : list_of all ≡ (front ++ holder_item h body ∷ []) ++ list_of rest = is ∙ sym (append_assoc front (holder_item h body ∷ []) (list_of rest)) in
    let inside = list_any (λ a. leads_to way (type_of d a)) (addresses at 0 body) in
    let behind = list_any (λ a. leads_to way (type_of d a)) (addresses b (suc n) rest) in
    or-both (leads_to way (type_of d at)) (list_any (λ a. leads_to way (type_of d a)) (addresses at 0 body ++ addresses b (suc n) rest)) (holder_unled d way at h body met)
    (list_any-append (λ a. leads_to way (type_of d a)) (addresses at 0 body) (addresses b (suc n) rest)
    ∙ or-both inside behind (unled d way outer at body [] 0 body held refl refl parts.0)
    (unled d way outer b all (front ++ holder_item h body ∷ []) (suc n) rest here (ap suc len ∙ one-longer front (holder_item h body)) more parts.1))

-- from an item with such a body
pub nothing_led : (d : Items) (way : List ℕ) (outer : Option Item) (b : List ℕ) (n : ℕ) (x : Item) (body : Items) → item_at (b ++ n ∷ []) d ≡ Some x → own_body x ≡ Some body
    → is_any_inside (may_touch (item_at way d) outer) body ≡ false → list_any (λ a. leads_to way (type_of d a)) (addresses b n (add x no_items)) ≡ false
nothing_led d way outer b n x body here has none = by_holder x here has
  where
    at : List ℕ
    at = b ++ n ∷ []

    inside : list_any (λ a. leads_to way (type_of d a)) (addresses at 0 body) ≡ false
    inside = unled d way outer at body [] 0 body (body_at-item at d x here ∙ has) refl refl none

    of_holder : (h : Holder) (t : Items) → t ≡ body → item_at at d ≡ Some (holder_item h t) → list_any (λ a. leads_to way (type_of d a)) (addresses b n (holder h t no_items)) ≡ false
    of_holder h t e met =
        or-both (leads_to way (type_of d at)) (list_any (λ a. leads_to way (type_of d a)) (addresses at 0 t ++ [])) (holder_unled d way at h t met)
        (list_any-append (λ a. leads_to way (type_of d a)) (addresses at 0 t) []
        ∙ or-both (list_any (λ a. leads_to way (type_of d a)) (addresses at 0 t)) false (ap (λ u. list_any (λ a. leads_to way (type_of d a)) (addresses at 0 u)) e ∙ inside) refl)

    by_holder : (y : Item) → item_at at d ≡ Some y → own_body y ≡ Some body → list_any (λ a. leads_to way (type_of d a)) (addresses b n (add y no_items)) ≡ false
    by_holder (Define m c) met h = let same_body : c.body ≡ body = cc in of_holder (define m c.kind) c.body same_body met
    by_holder (Instance s (Anonymous c)) met h = let same_body : c.body ≡ body = cc in of_holder (anonymous s c.kind) c.body same_body met
    by_holder (Instance s (Named t)) met h = cc
    by_holder (Own p v) met h = cc
    by_holder (Default p v) met h = cc
    by_holder (Dynamic t p v) met h = cc

-- ---- A way that goes on otherwise.

-- what stands behind a way that goes on otherwise
next-is : (at : List ℕ) (n : ℕ) (rest : List ℕ) → slice_get (at ++ n ∷ rest) (length at) ≡ Some n
next-is [] n rest = refl
next-is (k ∷ at) n rest = next-is at n rest

leads_elsewhere : (at way : List ℕ) (n : ℕ) → (slice_get way (length at) ≡ Some n → ⊥) → (rest : List ℕ) → same (at ++ n ∷ rest) way ≡ false
leads_elsewhere at way n h rest = by_case (same (at ++ n ∷ rest) way) refl
  where
    by_case : (b : Bool) → same (at ++ n ∷ rest) way ≡ b → b ≡ false
    by_case false e = refl
    by_case true e = absurd (h (ap (λ a. slice_get a (length at)) (sym ((bytes_eq-Decides (at ++ n ∷ rest) way).0 e)) ∙ next-is at n rest))

-- the way goes on by another number
pub elsewhere : (at way : List ℕ) (n k : ℕ) → slice_get way (length at) ≡ Some k → nat_eq k n ≡ false → (rest : List ℕ) → same (at ++ n ∷ rest) way ≡ false
elsewhere at way n k there other = leads_elsewhere at way n (λ e. let one : k ≡ n = cc in true≢false (sym (eq-eqb k n one) ∙ other))
