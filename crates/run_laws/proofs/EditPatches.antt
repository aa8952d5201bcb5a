-- The patches of an accepted edit can be written, and so can those that take them back.
use Rattle.std.proofs.Common.{◌≡◌, ℕ, zero, suc, ◌-◌, ◌<◌, ◌≤◌, ◌^◌, Bool, true, false, List, [], ◌∷◌, ◌++◌, length, Option, Some, None, inl, All, IfSome, slice_get, refl, ap, subst, arith}
use Rattle.std.specs.Prelude.{◌&&◌, IsTrue, is_some, nat_le}
use Rattle.std.proofs.lemmas.Bool.{leb-true}
use Rattle.std.proofs.lemmas.List.Elements.{All-nil, All-cons, All-append}
use Rattle.rdl_tree.specs.Address.{inner, holder_of, number_of, body_at}
use Rattle.rdl_tree.specs.ItemAt.{item_at}
use Rattle.rdl_tree.specs.Items.{Items, no_items, plain, holder, count}
use Rattle.rdl_tree.specs.Limits.{IsWithinLimits}
use Rattle.rdl_tree.specs.Part.{part_of}
use Rattle.rdl_tree.specs.Patch.{length_of, has_place, has_item, has_part_of, is_level, fits, AllFit, patched, image, exchange_again, inverse, inverses}
use Rattle.rdl_tree.specs.View.{items_of, list_of}
use Rattle.rdl_tree.specs.declared.description.Item.{Item}
use Rattle.rdl_tree.specs.declared.part.Part.{Part}
use Rattle.rdl_tree.specs.declared.patch.Patch.{Patch}
use Rattle.rdl_tree.specs.declared.patch.Patch.TheVariants.{Insert, Delete, Shift, Exchange}
use Rattle.rdl_tree.proofs.Nesting.{body-depth}
use Rattle.rdl_tree.proofs.Places.{place-whole, length-holder, stands, the_item, inner_some}
use Rattle.rdl_tree.proofs.Undone.{place_in, item_in, part_in, undoes_by}
use Rattle.rdl_round.specs.Writable.{IsWritable}
use Rattle.rdl_session.specs.Spelling.{IsItemAddress}
use Rattle.rdl_session.specs.Writable.{IsWritablePatch, AreDropsWithin}
use Rattle.rdl_session.proofs.Inverted.{IsGood, IsGoodItem, map-good, part-writable, from-good, found-good, insert-writable, one, beside}
use Rattle.run_laws.proofs.Smaller.{IsItemOf, further, found-part, within-part, deleted-part}

-- ---- Addresses in a description within the limits.

abbrev pub IsHeld : ℕ → Type 0
IsHeld n = n < 2 ^ 64

pub length-count : (b : Items) → length (list_of b) ≤ count b
length-count no_items = omega arith
length-count (plain p rest) = omega (arith, length-count rest)
length-count (holder h body rest) = omega (arith, length-count rest)

inner-count : (i : ℕ) (t d : Items) → inner i t ≡ Some d → (i < count t) × (count d ≤ count t)
inner-count i no_items d e = cc
inner-count zero (plain p rest) d e = cc
inner-count zero (holder h body rest) d e = let same : body ≡ d = cc in (omega arith, omega (arith, ap count same))
inner-count (suc i) (plain p rest) d e = let r = inner-count i rest d e in (omega (arith, r.0), omega (arith, r.1))
inner-count (suc i) (holder h body rest) d e = let r = inner-count i rest d e in (omega (arith, r.0), omega (arith, r.1))

pub way-held : (way : List ℕ) (t b : Items) → body_at way t ≡ Some b → count t ≤ 65536 → All IsHeld way × (count b ≤ count t)
way-held [] t b e w = let same : t ≡ b = cc in (All-nil IsHeld, omega (arith, ap count same))
way-held (i ∷ way) t b e w =
    let s = inner_some i way t b e in
    let c = inner-count i t s.0 s.1 in
    let r = way-held way s.0 b s.2 (omega (arith, c.1, w)) in
    (All-cons IsHeld i way (omega (arith, c.0, w)) r.0, omega (arith, c.1, r.1))

-- the address of an item that is there, or goes there
place-is : (at : List ℕ) (t b : Items) → 0 < length at → length at ≤ 17 → body_at (holder_of at) t ≡ Some b → number_of at ≤ length (list_of b) → count t ≤ 65536 → IsItemAddress at
place-is at t b some short held number w =
    let way = way-held (holder_of at) t b held w in
    let low : number_of at < 2 ^ 64 = omega (arith, number, length-count b, way.1, w) in
    record { some = some; short = short; fits = subst (All IsHeld) (place-whole at some) (All-append IsHeld (holder_of at) (number_of at ∷ []) way.0 (All-cons IsHeld (number_of at) [] low (All-nil IsHeld))) }

got-below : (xs : List Item) (n : ℕ) (x : Item) → slice_get xs n ≡ Some x → n < length xs
got-below [] n x e = cc
got-below (y ∷ ys) zero x e = omega arith
got-below (y ∷ ys) (suc n) x e = omega (arith, got-below ys n x e)

item-place : (at : List ℕ) (t : Items) (x : Item) → item_at at t ≡ Some x → IsWithinLimits t → IsItemAddress at
item-place at t x e w =
    let s = stands at t x e in
    let below = got-below (list_of s.body) (number_of at) x s.found in
    let deep = body-depth (holder_of at) t s.body s.held in
    place-is at t s.body s.within (omega (arith, length-holder at s.within, deep, w.deep)) s.held (omega (arith, below)) w.many

and_parts : (a b : Bool) → IsTrue (a && b) → IsTrue a × IsTrue b
and_parts true b h = (refl, h)
and_parts false b h = absurd cc

-- the address of a patch, and the number of one that shifts
abbrev IsPlaced : Patch → Type 0
IsPlaced (Insert at x) = IsItemAddress at
IsPlaced (Delete at) = IsItemAddress at
IsPlaced (Shift at to) = IsItemAddress at × (to < 2 ^ 64)
IsPlaced (Exchange at part) = IsItemAddress at

placed : (p : Patch) (t : Items) → IsTrue (fits p t) → IsWithinLimits t → IsPlaced p
placed (Insert at x) t h w =
    let parts = and_parts (is_level at x) (has_place (number_of at) (length_of (body_at (holder_of at) t))) h in
    let level = and_parts (nat_le 1 (length at)) _ parts.0 in
    let body = place_in (number_of at) (body_at (holder_of at) t) parts.1 in
    let some = leb-true 1 (length at) level.0 in
    place-is at t body.body (omega (arith, some)) (omega (arith, leb-true _ _ level.1)) body.held body.within w.many
placed (Delete at) t h w = let x = the_item (item_at at t) h in item-place at t x.0 x.1 w
placed (Shift at to) t h w =
    let parts = and_parts (is_some (item_at at t)) (has_item to (length_of (body_at (holder_of at) t))) h in
    let x = the_item (item_at at t) parts.0 in
    let body = item_in to (body_at (holder_of at) t) parts.1 in
    (item-place at t x.0 x.1 w, omega (arith, body.within, length-count body.body, (way-held (holder_of at) t body.body body.held w.many).1, w.many))
placed (Exchange at part) t h w = let x = part_in part (item_at at t) h in item-place at t x.0 x.1 w

-- ---- What takes one patch back.

abbrev HasItsPart : Patch → Items → Type 0
HasItsPart (Exchange at part) t = IsTrue (has_part_of part (item_at at t))
HasItsPart p t = Unit {0}

exchange-back : (at : List ℕ) (part : Part) (o : Option Item) → IsTrue (has_part_of part o) → IsItemAddress at → IfSome o IsGoodItem → All IsWritablePatch (exchange_again at part o)
exchange-back at part None h a f = All-nil IsWritablePatch
exchange-back at part (Some x) h a f = one (Exchange at (part_of part x)) (a, part-writable part x (inl h) f)

within-items : (t : Items) (o : Option Item) → IsWithinLimits t → IfSome o (IsItemOf t) → IfSome o (λ x. IsWithinLimits (items_of (x ∷ [])))
within-items t o w h = further (IsItemOf t) (λ x. IsWithinLimits (items_of (x ∷ []))) o (λ x k. within-part (items_of (x ∷ [])) t k w) h

-- nothing is asked of what the patch brings
inverse-back : (p : Patch) (t : Items) → IsPlaced p → HasItsPart p t → IsGood t → IsWithinLimits t → All IsWritablePatch (inverse p t)
inverse-back (Insert at x) t a h g w = one (Delete at) a
inverse-back (Delete at) t a h g w = insert-writable at (item_at at t) a (found-good at t g) (within-items t (item_at at t) w (found-part at t))
inverse-back (Shift at to) t a h g w = one (Shift (holder_of at ++ to ∷ []) (number_of at)) (beside at to a.0 a.1, a.0.fits (length at - 1) 0 (omega (arith, a.0.some)))
inverse-back (Exchange at part) t a h g w = exchange-back at part (item_at at t) h a (found-good at t g)

has-its-part : (p : Patch) (t : Items) → IsTrue (fits p t) → HasItsPart p t
has-its-part (Insert at x) t h = tt
has-its-part (Delete at) t h = tt
has-its-part (Shift at to) t h = tt
has-its-part (Exchange at part) t h = h

-- the patch itself takes back what takes it back
itself-again : (p : Patch) (t : Items) → IsTrue (fits p t) → IsPlaced p → IsGood (patched p t) → IsWithinLimits (patched p t) → All IsWritablePatch (p ∷ [])
itself-again (Insert at x) t h a g w =
    let u = undoes_by (Insert at x) (Delete at) t h refl in
    subst (All IsWritablePatch) u.again (inverse-back (Delete at) (patched (Insert at x) t) a tt g w)
itself-again (Delete at) t h a g w = one (Delete at) a
itself-again (Shift at to) t h a g w = one (Shift at to) a
itself-again (Exchange at part) t h a g w =
    let x = part_in part (item_at at t) h in
    let back = Exchange at (part_of part x.0) in
    let u = undoes_by (Exchange at part) back t h (ap (exchange_again at part) x.1) in
    subst (All IsWritablePatch) u.again (inverse-back back (patched (Exchange at part) t) a u.placed g w)

-- ---- One patch, or none.

abbrev pub AtMostOne : List Patch → Type 0
AtMostOne [] = Unit {0}
AtMostOne (p ∷ []) = Unit {0}
AtMostOne (p ∷ q ∷ ps) = ⊥

pub record AreBothWritable (ps : List Patch) (t : Items) : Type 0 where
  pub on : All IsWritablePatch ps
  pub back : All IsWritablePatch (inverses ps t)

pub single : (ps : List Patch) (t : Items) → AtMostOne ps → AllFit ps t → IsWritable t → IsWritable (image ps t) → AreBothWritable ps t
single [] t o h d e = record { on = All-nil IsWritablePatch; back = All-nil IsWritablePatch }
single (p ∷ []) t o h d e =
    let a = placed p t h.0 d.within in
    record { on = itself-again p t h.0 a (map-good (patched p t) e) e.within; back = inverse-back p t a (has-its-part p t h.0) (map-good t d) d.within }
single (p ∷ q ∷ ps) t o h d e = absurd o

-- ---- Patches that take items out.

abbrev pub AreDeletes : List Patch → Type 0
AreDeletes [] = Unit {0}
AreDeletes (Delete at ∷ ps) = AreDeletes ps
AreDeletes (p ∷ ps) = ⊥

deletes-writable : (ps : List Patch) (t : Items) → AreDeletes ps → AllFit ps t → IsWithinLimits t → All IsWritablePatch ps × AreDropsWithin ps t
deletes-writable [] t o h w = (All-nil IsWritablePatch, tt)
deletes-writable (Delete at ∷ ps) t o h w =
    let next = patched (Delete at) t in
    let others = deletes-writable ps next o h.1 (within-part next t (deleted-part at t) w) in
    (All-cons IsWritablePatch (Delete at) ps (placed (Delete at) t h.0 w) others.0, (within-items t (item_at at t) w (found-part at t), others.1))
deletes-writable (Insert at x ∷ ps) t o h w = absurd o
deletes-writable (Shift at to ∷ ps) t o h w = absurd o
deletes-writable (Exchange at part ∷ ps) t o h w = absurd o

pub taken-out : (ps : List Patch) (t : Items) → AreDeletes ps → AllFit ps t → IsWritable t → AreBothWritable ps t
taken-out ps t o h d =
    let r = deletes-writable ps t o h d.within in
    record { on = r.0; back = from-good ps t r.0 (map-good t d) r.1 }

-- ---- Patches that take nothing out.

abbrev pub KeepItems : List Patch → Type 0
KeepItems [] = Unit {0}
KeepItems (Delete at ∷ ps) = ⊥
KeepItems (p ∷ ps) = KeepItems ps

no-drops : (ps : List Patch) (t : Items) → KeepItems ps → AreDropsWithin ps t
no-drops [] t k = tt
no-drops (Delete at ∷ ps) t k = absurd k
no-drops (Insert at x ∷ ps) t k = (tt, no-drops ps (patched (Insert at x) t) k)
no-drops (Shift at to ∷ ps) t k = (tt, no-drops ps (patched (Shift at to) t) k)
no-drops (Exchange at part ∷ ps) t k = (tt, no-drops ps (patched (Exchange at part) t) k)

pub brought : (ps : List Patch) (t : Items) → KeepItems ps → All IsWritablePatch ps → IsWritable t → AreBothWritable ps t
brought ps t k h d = record { on = h; back = from-good ps t h (map-good t d) (no-drops ps t k) }
