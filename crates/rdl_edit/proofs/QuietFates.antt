-- Fates that drop no item, and give each only a part that is quiet for it, have quiet patches.
use Rattle.std.proofs.Common.{◌≡◌, ℕ, zero, suc, List, [], ◌∷◌, ◌++◌, length, Some, refl, ap, sym, subst, ◌∙◌, arith, append_assoc, length-append}
use Rattle.std.specs.Prelude.{IsSomeAnd, slice_get}
use Rattle.rdl_tree.specs.Items.{Items, no_items, plain, holder, Holder, define, anonymous}
use Rattle.rdl_tree.specs.View.{items_of, list_of, plain_item, holder_item, own_body}
use Rattle.rdl_tree.specs.Address.{map_inner, body_at}
use Rattle.rdl_tree.specs.Patch.{image}
use Rattle.rdl_tree.specs.declared.description.Item.{Item}
use Rattle.rdl_tree.specs.declared.part.Part.{Part}
use Rattle.rdl_tree.specs.declared.part.Part.TheVariants.{OfShell, OfValue, OfTarget, OfType, OfDefine}
use Rattle.rdl_tree.specs.declared.patch.Patch.{Patch}
use Rattle.rdl_tree.specs.declared.patch.Patch.TheVariants.{Exchange}
use Rattle.rdl_tree.proofs.Rounds.{list_of-items_of, items_of-list_of}
use Rattle.rdl_rewrite.specs.Fates.{item_patches, fate_patches}
use Rattle.rdl_rewrite.specs.declared.fate.Fate.{Fate}
use Rattle.rdl_rewrite.specs.declared.fate.Fate.TheVariants.{Kept, Dropped, Given}
use Rattle.rdl_rewrite.proofs.Fated.{Apt, fated, fated_leads}
use Rattle.rdl_rewrite.proofs.Leading.{Leads, leads-inside, body_at-map_body, item_at-inside}
use Rattle.rdl_rewrite.proofs.Located.{body_at-item}
use Rattle.rdl_reach.specs.Quiet.{IsQuietPart, AreQuiet}
use Rattle.rdl_reach.proofs.QuietBacks.{quiet-append}

-- an item is kept, or given a part that is quiet for it
abbrev pub IsQuietFate : Fate → Item → Type 0
IsQuietFate Kept x = Unit {0}
IsQuietFate Dropped x = ⊥
IsQuietFate (Given part) x = IsQuietPart part x

abbrev pub AreQuietFates : (List ℕ → Item → Fate) → Type 0
AreQuietFates f = (at : List ℕ) (x : Item) → IsQuietFate (f at x) x

-- ---- An item of a body.

get-seam : (pre ys : List Item) (x : Item) → slice_get (pre ++ x ∷ ys) (length pre) ≡ Some x
get-seam [] ys x = refl
get-seam (y ∷ pre) ys x = get-seam pre ys x

-- behind those before it
got-behind : (pre ys : List Item) (x : Item) (n : ℕ) → length pre ≡ n → slice_get (list_of (items_of ((pre ++ x ∷ []) ++ ys))) n ≡ Some x
got-behind pre ys x n e =
    ap (λ xs. slice_get xs n) (list_of-items_of ((pre ++ x ∷ []) ++ ys) ∙ append_assoc pre (x ∷ []) ys) ∙ ap (slice_get (pre ++ x ∷ ys)) (sym e) ∙ get-seam pre ys x

-- a part that is quiet for an item is so whatever body the item has
quiet-holder : (part : Part) (h : Holder) (body new : Items) → IsQuietPart part (holder_item h body) → IsQuietPart part (holder_item h new)
quiet-holder (OfShell s) (define n k) body new q = q
quiet-holder (OfShell s) (anonymous t k) body new q = q
quiet-holder (OfValue v) (define n k) body new q = q
quiet-holder (OfValue v) (anonymous t k) body new q = q
quiet-holder (OfTarget m) (define n k) body new q = q
quiet-holder (OfTarget m) (anonymous t k) body new q = q
quiet-holder (OfType m) (define n k) body new q = q
quiet-holder (OfType m) (anonymous t k) body new q = q
quiet-holder (OfDefine m) (define n k) body new q = q
quiet-holder (OfDefine m) (anonymous t k) body new q = q

quiet-inside : (part : Part) (n : ℕ) (u new : Items) → IsSomeAnd (slice_get (list_of u) n) (IsQuietPart part) → IsSomeAnd (slice_get (list_of (map_inner n (λ _. new) u)) n) (IsQuietPart part)
quiet-inside part n no_items new q = q
quiet-inside part zero (plain p rest) new q = q
quiet-inside part zero (holder h body rest) new q = quiet-holder part h body new q
quiet-inside part (suc n) (plain p rest) new q = quiet-inside part n rest new q
quiet-inside part (suc n) (holder h body rest) new q = quiet-inside part n rest new q

body-held : (h : Holder) (body : Items) → own_body (holder_item h body) ≡ Some body
body-held (define n k) body = refl
body-held (anonymous s k) body = refl

-- ---- Its patches.

module _ (b : List ℕ) (n : ℕ) (t u : Items) (here : body_at b t ≡ Some u) where
  own-quiet : (fate : Fate) (x : Item) → slice_get (list_of u) n ≡ Some x → IsQuietFate fate x → AreQuiet (item_patches (b ++ n ∷ []) fate []) t
  own-quiet Kept x got q = tt
  own-quiet Dropped x got q = absurd q
  own-quiet (Given part) x got q = (subst (λ o. IsSomeAnd o (IsQuietPart part)) (sym (item_at-inside b n t u here ∙ got)) q, tt)

  -- behind those inside it
  holder-quiet : (fate : Fate) (x : Item) (inside : List Patch) (new : Items) → slice_get (list_of u) n ≡ Some x → IsQuietFate fate x → Leads (b ++ n ∷ []) t inside new → AreQuiet inside t
      → AreQuiet (item_patches (b ++ n ∷ []) fate inside) t
  holder-quiet Kept x inside new got q led quiet = quiet
  holder-quiet Dropped x inside new got q led quiet = absurd q
  holder-quiet (Given part) x inside new got q led quiet =
      let whole = leads-inside b n t u inside new here led in
      let changed = map_inner n (λ _. new) u in
      let there : body_at b (image inside t) ≡ Some changed = ap (body_at b) whole.made ∙ body_at-map_body b (λ _. changed) t u here in
      let before : IsSomeAnd (slice_get (list_of u) n) (IsQuietPart part) = subst (λ o. IsSomeAnd o (IsQuietPart part)) (sym got) q in
      quiet-append inside (Exchange (b ++ n ∷ []) part ∷ []) t quiet
      (subst (λ o. IsSomeAnd o (IsQuietPart part)) (sym (item_at-inside b n (image inside t) changed there)) (quiet-inside part n u new before), tt)

-- ---- All patches.

-- the patches of the items behind one lead to a body that has this item before what they leave
module _ (f : List ℕ → Item → Fate) (apt : Apt f) (x : Item) (rest : Items) (pre : List Item) (b : List ℕ) (n : ℕ) (whole : Items) (e : length pre ≡ n)
    (here : body_at b whole ≡ Some (items_of (pre ++ x ∷ list_of rest))) where
  abbrev behind : List Patch
  behind = fate_patches f b (suc n) rest

  abbrev left : Items
  left = items_of ((pre ++ x ∷ []) ++ list_of (fated f b (suc n) rest))

  one-more : length (pre ++ x ∷ []) ≡ suc n
  one-more = omega (arith, length-append pre (x ∷ []), e)

  the-same : body_at b whole ≡ Some (items_of ((pre ++ x ∷ []) ++ list_of rest))
  the-same = here ∙ ap (λ xs. Some (items_of xs)) (sym (append_assoc pre (x ∷ []) (list_of rest)))

  there : body_at b (image behind whole) ≡ Some left
  there = ap (body_at b) (fated_leads f apt rest (pre ++ x ∷ []) b (suc n) whole one-more the-same).made ∙ body_at-map_body b (λ _. left) whole _ the-same

  got : slice_get (list_of left) n ≡ Some x
  got = got-behind pre (list_of (fated f b (suc n) rest)) x n e

module _ (f : List ℕ → Item → Fate) (apt : Apt f) (quiet : AreQuietFates f) where
  fates-quiet : (t : Items) (pre : List Item) (b : List ℕ) (n : ℕ) (whole : Items) → length pre ≡ n → body_at b whole ≡ Some (items_of (pre ++ list_of t)) → AreQuiet (fate_patches f b n t) whole
  fates-quiet no_items pre b n whole e here = tt
  fates-quiet (plain p rest) pre b n whole e here =
      let x = plain_item p in
      let at = b ++ n ∷ [] in
      let after = image (behind f apt x rest pre b n whole e here) whole in
      quiet-append (fate_patches f b (suc n) rest) (item_patches at (f at x) []) whole
      (fates-quiet rest (pre ++ x ∷ []) b (suc n) whole (one-more f apt x rest pre b n whole e here) (the-same f apt x rest pre b n whole e here))
      (own-quiet b n after (left f apt x rest pre b n whole e here) (there f apt x rest pre b n whole e here) (f at x) x (got f apt x rest pre b n whole e here) (quiet at x))
  fates-quiet (holder h body rest) pre b n whole e here =
      let x = holder_item h body in
      let at = b ++ n ∷ [] in
      let after = image (behind f apt x rest pre b n whole e here) whole in
      let next = left f apt x rest pre b n whole e here in
      let held = there f apt x rest pre b n whole e here in
      let has = got f apt x rest pre b n whole e here in
      let into : body_at at after ≡ Some (items_of (list_of body)) =
      body_at-item at after x (item_at-inside b n after next held ∙ has) ∙ body-held h body ∙ ap Some (sym (items_of-list_of body)) in
      quiet-append (fate_patches f b (suc n) rest) (item_patches at (f at x) (fate_patches f at 0 body)) whole
      (fates-quiet rest (pre ++ x ∷ []) b (suc n) whole (one-more f apt x rest pre b n whole e here) (the-same f apt x rest pre b n whole e here))
      (holder-quiet b n after next held (f at x) x (fate_patches f at 0 body) _ has (quiet at x) (fated_leads f apt body [] at 0 after refl into) (fates-quiet body [] at 0 after refl into))

  pub quiet-fates : (whole : Items) → AreQuiet (fate_patches f [] 0 whole) whole
  quiet-fates whole = fates-quiet whole [] [] 0 whole refl (ap Some (sym (items_of-list_of whole)))
