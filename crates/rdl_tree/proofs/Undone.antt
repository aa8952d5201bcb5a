-- A patch that fits is taken back by its inverse, which fits where it led.
use Rattle.std.proofs.Common.{◌≡◌, ℕ, ◌<◌, ◌≤◌, List, [], ◌∷◌, ◌++◌, length, Option, Some, None, refl, ap, sym, ◌∙◌, arith, subst, length-append, nat_le}
use Rattle.std.specs.Prelude.{insert, remove, slice_get, slice_set, is_some, IsTrue, option_map}
use Rattle.std.proofs.lemmas.Bool.{false≢true, and_parts, and_from, ltb-true, leb-true, lt-ltb, le-leb}
use Rattle.std.proofs.lemmas.List.Edits.{length-remove}
use Rattle.rdl_tree.specs.Items.{Items}
use Rattle.rdl_tree.specs.View.{items_of, list_of}
use Rattle.rdl_tree.specs.Address.{holder_of, number_of, body_at, map_body}
use Rattle.rdl_tree.specs.ItemAt.{item_at}
use Rattle.rdl_tree.specs.Edit.{insert_item, remove_item, shift_item, put_back}
use Rattle.rdl_tree.specs.Part.{has_part, with_part, part_of, with_part_at, put_at}
use Rattle.rdl_tree.specs.Way.{is_placed}
use Rattle.rdl_tree.specs.Patch.{patched, fits, inverse, insert_again, exchange_again, has_place, has_item, has_part_of, length_of}
use Rattle.rdl_tree.specs.declared.description.Item.{Item}
use Rattle.rdl_tree.specs.declared.description.Item.TheVariants.{Define, Instance, Own, Default, Dynamic}
use Rattle.rdl_tree.specs.declared.description.Of.TheVariants.{Named}
use Rattle.rdl_tree.specs.declared.part.Part.{Part}
use Rattle.rdl_tree.specs.declared.part.Part.TheVariants.{OfShell, OfValue, OfTarget, OfType, OfDefine}
use Rattle.rdl_tree.specs.declared.patch.Patch.{Patch}
use Rattle.rdl_tree.specs.declared.patch.Patch.TheVariants.{Insert, Delete, Shift, Exchange}
use Rattle.rdl_tree.proofs.Rounds.{list_of-items_of, items_of-list_of}
use Rattle.rdl_tree.proofs.Edits.{remove-insert, get-insert, insert-remove, get-set, set-back, get-within, length-moved}
use Rattle.rdl_tree.proofs.Places.{place-whole, holder-place, number-place, stands, found_at, the_item, body_at-map, map_body-undone}

-- ---- Changes of a body, taken back.

pub insert-taken : (n : ℕ) (x : Item) (b : Items) → n ≤ length (list_of b) → remove_item n (insert_item n x b) ≡ b
insert-taken n x b h =
    ap (λ (l : List Item). items_of (remove l n)) (list_of-items_of (insert (list_of b) n x)) ∙ ap items_of (remove-insert (list_of b) n x h) ∙ items_of-list_of b

pub remove-taken : (n : ℕ) (x : Item) (b : Items) → slice_get (list_of b) n ≡ Some x → insert_item n x (remove_item n b) ≡ b
remove-taken n x b e =
    ap (λ (l : List Item). items_of (insert l n x)) (list_of-items_of (remove (list_of b) n)) ∙ ap items_of (insert-remove (list_of b) n x e) ∙ items_of-list_of b

-- where there is an item to move
pub shift_is : (from to : ℕ) (b : Items) (x : Item) → slice_get (list_of b) from ≡ Some x → shift_item from to b ≡ items_of (insert (remove (list_of b) from) to x)
shift_is from to b x e = ap (λ o. items_of (put_back to (remove (list_of b) from) o)) e

-- where it is then
moved-within : (from to : ℕ) (b : Items) (x : Item) → slice_get (list_of b) from ≡ Some x → to < length (list_of b) → to ≤ length (remove (list_of b) from)
moved-within from to b x e h = omega (arith, length-remove (list_of b) from (get-within (list_of b) from x e))

pub shift-found : (from to : ℕ) (b : Items) (x : Item) → slice_get (list_of b) from ≡ Some x → to < length (list_of b) → slice_get (list_of (shift_item from to b)) to ≡ Some x
shift-found from to b x e h =
    ap (λ c. slice_get (list_of c) to) (shift_is from to b x e) ∙ ap (λ (l : List Item). slice_get l to) (list_of-items_of (insert (remove (list_of b) from) to x))
    ∙ get-insert (remove (list_of b) from) to x (moved-within from to b x e h)

pub shift-taken : (from to : ℕ) (b : Items) (x : Item) → slice_get (list_of b) from ≡ Some x → to < length (list_of b) → shift_item to from (shift_item from to b) ≡ b
shift-taken from to b x e h =
    let out : List Item = remove (list_of b) from in
    let there : list_of (shift_item from to b) ≡ insert out to x = ap list_of (shift_is from to b x e) ∙ list_of-items_of (insert out to x) in
    shift_is to from (shift_item from to b) x (shift-found from to b x e h)
    ∙ ap (λ (l : List Item). items_of (insert (remove l to) from x)) there
    ∙ ap (λ (l : List Item). items_of (insert l from x)) (remove-insert out to x (moved-within from to b x e h))
    ∙ ap items_of (insert-remove (list_of b) from x e) ∙ items_of-list_of b

pub shift-length : (from to : ℕ) (b : Items) (x : Item) → slice_get (list_of b) from ≡ Some x → to < length (list_of b) → length (list_of (shift_item from to b)) ≡ length (list_of b)
shift-length from to b x e h =
    ap (λ c. length (list_of c)) (shift_is from to b x e) ∙ ap length (list_of-items_of (insert (remove (list_of b) from) to x))
    ∙ length-moved (list_of b) from to x (get-within (list_of b) from x e) h

-- ---- Parts of an item.

pub part-taken : (new : Part) (x : Item) → IsTrue (has_part new x) → with_part (part_of new x) (with_part new x) ≡ x
part-taken (OfShell new) (Instance s o) h = refl
part-taken (OfValue new) (Own p v) h = refl
part-taken (OfValue new) (Default p v) h = refl
part-taken (OfValue new) (Dynamic t p v) h = refl
part-taken (OfTarget new) (Dynamic t p v) h = refl
part-taken (OfType new) (Instance s (Named t)) h = refl
part-taken (OfDefine new) (Define n c) h = refl
part-taken new x h = cc

pub part-again : (new : Part) (x : Item) → IsTrue (has_part new x) → part_of (part_of new x) (with_part new x) ≡ new
part-again (OfShell new) (Instance s o) h = refl
part-again (OfValue new) (Own p v) h = refl
part-again (OfValue new) (Default p v) h = refl
part-again (OfValue new) (Dynamic t p v) h = refl
part-again (OfTarget new) (Dynamic t p v) h = refl
part-again (OfType new) (Instance s (Named t)) h = refl
part-again (OfDefine new) (Define n c) h = refl
part-again new x h = cc

pub part-fits : (new : Part) (x : Item) → IsTrue (has_part new x) → IsTrue (has_part (part_of new x) (with_part new x))
part-fits (OfShell new) (Instance s o) h = refl
part-fits (OfValue new) (Own p v) h = refl
part-fits (OfValue new) (Default p v) h = refl
part-fits (OfValue new) (Dynamic t p v) h = refl
part-fits (OfTarget new) (Dynamic t p v) h = refl
part-fits (OfType new) (Instance s (Named t)) h = refl
part-fits (OfDefine new) (Define n c) h = refl
part-fits new x h = cc

pub exchange_is : (n : ℕ) (new : Part) (b : Items) (x : Item) → slice_get (list_of b) n ≡ Some x → with_part_at n new b ≡ items_of (slice_set (list_of b) n (with_part new x))
exchange_is n new b x e = ap (λ o. items_of (put_at n (option_map (with_part new) o) (list_of b))) e

pub exchange-found : (n : ℕ) (new : Part) (b : Items) (x : Item) → slice_get (list_of b) n ≡ Some x → slice_get (list_of (with_part_at n new b)) n ≡ Some (with_part new x)
exchange-found n new b x e =
    ap (λ c. slice_get (list_of c) n) (exchange_is n new b x e) ∙ ap (λ (l : List Item). slice_get l n) (list_of-items_of (slice_set (list_of b) n (with_part new x)))
    ∙ get-set (list_of b) n x (with_part new x) e

pub exchange-taken : (n : ℕ) (new : Part) (b : Items) (x : Item) → slice_get (list_of b) n ≡ Some x → IsTrue (has_part new x) → with_part_at n (part_of new x) (with_part_at n new b) ≡ b
exchange-taken n new b x e h =
    let there : list_of (with_part_at n new b) ≡ slice_set (list_of b) n (with_part new x) = ap list_of (exchange_is n new b x e) ∙ list_of-items_of (slice_set (list_of b) n (with_part new x)) in
    exchange_is n (part_of new x) (with_part_at n new b) (with_part new x) (exchange-found n new b x e)
    ∙ ap (λ (l : List Item). items_of (slice_set l n (with_part (part_of new x) (with_part new x)))) there
    ∙ ap (λ y. items_of (slice_set (slice_set (list_of b) n (with_part new x)) n y)) (part-taken new x h)
    ∙ ap items_of (set-back (list_of b) n x (with_part new x) e) ∙ items_of-list_of b

-- ---- What it says that a patch fits.

-- the body into which an item goes
pub record HasBody (n : ℕ) (o : Option Items) (ok : ℕ → ℕ → Type 0) : Type 0 where
  pub body : Items
  pub held : o ≡ Some body
  pub within : ok n (length (list_of body))

pub place_in : (n : ℕ) (o : Option Items) → IsTrue (has_place n (length_of o)) → HasBody n o (λ n m. n ≤ m)
place_in n None h = absurd (false≢true h)
place_in n (Some b) h = record { body = b; held = refl; within = leb-true _ _ h }

pub item_in : (n : ℕ) (o : Option Items) → IsTrue (has_item n (length_of o)) → HasBody n o (λ n m. n < m)
item_in n None h = absurd (false≢true h)
item_in n (Some b) h = record { body = b; held = refl; within = ltb-true _ _ h }

pub part_in : (part : Part) (o : Option Item) → IsTrue (has_part_of part o) → (x : Item) × (o ≡ Some x) × IsTrue (has_part part x)
part_in part None h = absurd (false≢true h)
part_in part (Some x) h = (x, refl, h)

-- ---- What takes a patch back.

-- the second patch takes the first one back, and the first one the second
pub record Undoes (p q : Patch) (t : Items) : Type 0 where
  pub is_inverse : inverse p t ≡ q ∷ []
  pub back : patched q (patched p t) ≡ t
  pub again : inverse q (patched p t) ≡ p ∷ []
  pub placed : IsTrue (is_placed q (patched p t))

not_empty : (at : List ℕ) → IsTrue (nat_le 1 (length at)) → 0 < length at
not_empty at h = omega (arith, leb-true 1 (length at) h)

undoes-insert : (at : List ℕ) (x : Item) (t : Items) → IsTrue (fits (Insert at x) t) → Undoes (Insert at x) (Delete at) t
undoes-insert at x t h =
    let parts = and_parts _ _ h in
    let b = place_in (number_of at) (body_at (holder_of at) t) parts.1 in
    let one : 0 < length at = not_empty at (and_parts _ _ parts.0).0 in
    let there : slice_get (list_of (insert_item (number_of at) x b.body)) (number_of at) ≡ Some x =
    ap (λ (l : List Item). slice_get l (number_of at)) (list_of-items_of (insert (list_of b.body) (number_of at) x)) ∙ get-insert (list_of b.body) (number_of at) x b.within in
    let item : item_at at (patched (Insert at x) t) ≡ Some x = found_at at (patched (Insert at x) t) (insert_item (number_of at) x b.body) x one (body_at-map (holder_of at) (insert_item (number_of at) x) t b.body b.held) there in record {
      is_inverse = refl;
      back = map_body-undone (holder_of at) (insert_item (number_of at) x) (remove_item (number_of at)) t b.body b.held (insert-taken (number_of at) x b.body b.within);
      again = ap (insert_again at) item;
      placed = ap is_some item;
    }

undoes-delete : (at : List ℕ) (x : Item) (t : Items) → item_at at t ≡ Some x → Undoes (Delete at) (Insert at x) t
undoes-delete at x t e =
    let s = stands at t x e in
    let n = number_of at in
    let held : body_at (holder_of at) (patched (Delete at) t) ≡ Some (remove_item n s.body) = body_at-map (holder_of at) (remove_item n) t s.body s.held in
    let long : n ≤ length (list_of (remove_item n s.body)) =
    omega (arith, ap length (list_of-items_of (remove (list_of s.body) n)), length-remove (list_of s.body) n (get-within (list_of s.body) n x s.found), get-within (list_of s.body) n x s.found) in record {
      is_inverse = ap (insert_again at) e;
      back = map_body-undone (holder_of at) (remove_item n) (insert_item n x) t s.body s.held (remove-taken n x s.body s.found);
      again = refl;
      placed = and_from _ _ (le-leb 1 (length at) (omega (arith, s.within))) (ap (λ o. has_place n (length_of o)) held ∙ le-leb _ _ long);
    }

undoes-shift : (at : List ℕ) (to : ℕ) (x : Item) (t : Items) → item_at at t ≡ Some x → IsTrue (has_item to (length_of (body_at (holder_of at) t))) → Undoes (Shift at to) (Shift (holder_of at ++ to ∷ []) (number_of at)) t
undoes-shift at to x t e h =
    let s = stands at t x e in
    let d = item_in to (body_at (holder_of at) t) h in
    let same : d.body ≡ s.body = (let whole : Some d.body ≡ Some s.body = sym d.held ∙ s.held in cc) in
    let n = number_of at in
    let p = holder_of at in
    let new : List ℕ = p ++ to ∷ [] in
    let low : to < length (list_of s.body) = omega (arith, d.within, ap (λ b. length (list_of b)) same) in
    let held : body_at p (patched (Shift at to) t) ≡ Some (shift_item n to s.body) = body_at-map p (shift_item n to) t s.body s.held in
    let held_new : body_at (holder_of new) (patched (Shift at to) t) ≡ Some (shift_item n to s.body) = ap (λ q. body_at q (patched (Shift at to) t)) (holder-place p to) ∙ held in
    let there : slice_get (list_of (shift_item n to s.body)) (number_of new) ≡ Some x = ap (λ m. slice_get (list_of (shift_item n to s.body)) m) (number-place p to) ∙ shift-found n to s.body x s.found low in
    let item : item_at new (patched (Shift at to) t) ≡ Some x = found_at new (patched (Shift at to) t) (shift_item n to s.body) x (omega (arith, length-append p (to ∷ []))) held_new there in record {
      is_inverse = refl;
      back = ap (λ q. map_body q (shift_item (number_of new) n) (patched (Shift at to) t)) (holder-place p to)
          ∙ ap (λ m. map_body p (shift_item m n) (patched (Shift at to) t)) (number-place p to)
          ∙ map_body-undone p (shift_item n to) (shift_item to n) t s.body s.held (shift-taken n to s.body x s.found low);
      again = ap (λ (q : List ℕ). Shift (q ++ n ∷ []) (number_of new) ∷ []) (holder-place p to) ∙ ap (λ (q : List ℕ). Shift q (number_of new) ∷ []) (place-whole at s.within) ∙ ap (λ m. Shift at m ∷ []) (number-place p to);
      placed = and_from _ _ (ap is_some item)
          (ap (λ o. has_item n (length_of o)) held_new ∙ lt-ltb _ _ (omega (arith, shift-length n to s.body x s.found low, get-within (list_of s.body) n x s.found)));
    }

undoes-exchange : (at : List ℕ) (part : Part) (x : Item) (t : Items) → item_at at t ≡ Some x → IsTrue (has_part part x) → Undoes (Exchange at part) (Exchange at (part_of part x)) t
undoes-exchange at part x t e h =
    let s = stands at t x e in
    let n = number_of at in
    let p = holder_of at in
    let item : item_at at (patched (Exchange at part) t) ≡ Some (with_part part x) =
    found_at at (patched (Exchange at part) t) (with_part_at n part s.body) (with_part part x) s.within (body_at-map p (with_part_at n part) t s.body s.held) (exchange-found n part s.body x s.found) in record {
      is_inverse = ap (exchange_again at part) e;
      back = map_body-undone p (with_part_at n part) (with_part_at n (part_of part x)) t s.body s.held (exchange-taken n part s.body x s.found h);
      again = ap (exchange_again at (part_of part x)) item ∙ ap (λ q. Exchange at q ∷ []) (part-again part x h);
      placed = ap (has_part_of (part_of part x)) item ∙ part-fits part x h;
    }

-- each patch that fits is taken back by one
pub undoes : (p : Patch) (t : Items) → IsTrue (fits p t) → (q : Patch) × Undoes p q t
undoes (Insert at x) t h = (Delete at, undoes-insert at x t h)
undoes (Delete at) t h = let x = the_item (item_at at t) h in (Insert at x.0, undoes-delete at x.0 t x.1)
undoes (Shift at to) t h =
    let parts = and_parts _ _ h in
    let x = the_item (item_at at t) parts.0 in (Shift (holder_of at ++ to ∷ []) (number_of at), undoes-shift at to x.0 t x.1 parts.1)
undoes (Exchange at part) t h = let x = part_in part (item_at at t) h in (Exchange at (part_of part x.0), undoes-exchange at part x.0 t x.1 x.2)

pub undoes_by : (p q : Patch) (t : Items) → IsTrue (fits p t) → inverse p t ≡ q ∷ [] → Undoes p q t
undoes_by p q t h e =
    let r = undoes p t h in
    let same : r.0 ≡ q = (let whole : r.0 ∷ [] ≡ q ∷ [] = sym r.1.is_inverse ∙ e in cc) in subst (λ s. Undoes p s t) same r.1
