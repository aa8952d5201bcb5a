-- What takes patches back can be written, where they and the map can, and each item that they take out is within the limits.
use Rattle.std.proofs.Common.{ℕ, suc, ◌+◌, ◌-◌, ◌<◌, ◌≤◌, ◌^◌, List, [], ◌∷◌, ◌++◌, length, Option, Some, None, inl, inr, All, IfSome, drop, remove, take, slice_get, refl, arith}
use Rattle.std.specs.Prelude.{◌⊎◌, IsTrue, codes, option_map, option_and_then, sum_by}
use Rattle.std.proofs.lemmas.List.{length-append}
use Rattle.std.proofs.lemmas.List.Elements.{All-nil, All-cons, All-head, All-tail, All-append, All-set, All-take, All-drop}
use Rattle.rdl_text.specs.Name.{IsName}
use Rattle.rdl_tree.specs.Address.{inner, holder_of, number_of}
use Rattle.rdl_tree.specs.Edit.{insert_item, remove_item, put_back, shift_item}
use Rattle.rdl_tree.specs.ItemAt.{item_at}
use Rattle.rdl_tree.specs.Items.{Items, no_items, plain, holder, Plain, named, own, default, dynamic, Holder, define, anonymous}
use Rattle.rdl_tree.specs.Limits.{IsWithinLimits, max_weight}
use Rattle.rdl_tree.specs.Part.{has_part, with_part, part_of, put_at, with_part_at}
use Rattle.rdl_tree.specs.Patch.{patched, image, insert_again, exchange_again, inverse, inverses}
use Rattle.rdl_session.specs.Text.{shell_item, value_item, target_item}
use Rattle.rdl_tree.specs.View.{items_of, list_of}
use Rattle.rdl_tree.specs.Weight.{value_weight, plain_weight, weight}
use Rattle.rdl_tree.specs.declared.description.Item.{Item}
use Rattle.rdl_tree.specs.declared.description.Item.TheVariants.{Define, Instance, Own, Default, Dynamic}
use Rattle.rdl_tree.specs.declared.description.Of.TheVariants.{Named, Anonymous}
use Rattle.rdl_tree.specs.declared.part.Part.{Part}
use Rattle.rdl_tree.specs.declared.part.Part.TheVariants.{OfShell, OfValue, OfTarget, OfType, OfDefine}
use Rattle.rdl_tree.specs.declared.patch.Patch.{Patch}
use Rattle.rdl_tree.specs.declared.patch.Patch.TheVariants.{Insert, Delete, Shift, Exchange}
use Rattle.rdl_tree.specs.declared.shell.Shell.{Shell}
use Rattle.rdl_tree.specs.declared.value.Value.{Value}
use Rattle.rdl_tree.proofs.Places.{length-holder}
use Rattle.rdl_parse.specs.Class.{class, is_unused}
use Rattle.rdl_session.specs.Spelling.{IsItemAddress}
use Rattle.rdl_round.specs.Writable.{IsWritable}
use Rattle.rdl_round.specs.OfWords.{AreNames, IsValue, IsShellOfWords, IsPlainOfWords, IsHolderOfWords, IsOfWords}
use Rattle.rdl_session.specs.Writable.{IsWritableItem, IsWritablePart, IsWritablePatch, IsDropWithin, AreDropsWithin}
use Rattle.rdl_round.specs.Spellable.{IsFree, IsTarget, IsShell, IsPlain, IsHolder, IsSpellable}
use Rattle.rdl_round.proofs.Each.{Each, Fits, items-fit, each-of, fits-get, each-insert, each-remove, inner-each, changed-body}

-- ---- What holds of each item of a map that can be written, but for the limits.

-- its value and its target are no heavier than those that can stand in an item of their own
abbrev IsSmall : Plain → Type 0
IsSmall (named s t) = Unit {0}
IsSmall (own p v) = value_weight v + 2 ≤ max_weight
IsSmall (default p v) = value_weight v + 2 ≤ max_weight
IsSmall (dynamic t p v) = (sum_by length t + 2 ≤ max_weight) × (value_weight v + 2 ≤ max_weight)

abbrev pub IsGoodPlain : Plain → Type 0
IsGoodPlain p = (IsPlainOfWords p × IsPlain p) × IsSmall p

abbrev pub IsGoodHolder : Holder → Type 0
IsGoodHolder h = IsHolderOfWords h × IsHolder h

abbrev pub IsGood : Items → Type 0
IsGood t = Each IsGoodPlain IsGoodHolder t

abbrev pub IsGoodItem : Item → Type 0
IsGoodItem x = Fits IsGoodPlain IsGoodHolder x

-- a name has a byte
pub name-some : (n : List ℕ) → IsName n → 1 ≤ length n
name-some [] h = absurd cc
name-some (c ∷ cs) h = omega arith

small : (p : Plain) → IsPlainOfWords p → plain_weight p ≤ max_weight → IsSmall p
small (named s t) h w = tt
small (own p v) h w = omega (arith, w, name-some p h.0)
small (default p v) h w = omega (arith, w, name-some p h.0)
small (dynamic t p v) h w = (omega (arith, w, name-some p h.1), omega (arith, w, name-some p h.1))

pub good : (t : Items) → IsOfWords t → IsSpellable t → weight t ≤ max_weight → IsGood t
good no_items h k w = tt
good (plain p rest) h k w = (((h.0, k.0), small p h.0 (omega (arith, w))), good rest h.1 k.1 (omega (arith, w)))
good (holder p body rest) h k w = ((h.0, k.0), good body h.1 k.1 (omega (arith, w)), good rest h.2 k.2 (omega (arith, w)))

pub map-good : (t : Items) → IsWritable t → IsGood t
map-good t w = good t w.of_words w.spellable w.within.heavy

pub of-words : (t : Items) → IsGood t → IsOfWords t
of-words no_items g = tt
of-words (plain p rest) g = (g.0.0.0, of-words rest g.1)
of-words (holder p body rest) g = (g.0.0, of-words body g.1, of-words rest g.2)

pub spellable : (t : Items) → IsGood t → IsSpellable t
spellable no_items g = tt
spellable (plain p rest) g = (g.0.0.1, spellable rest g.1)
spellable (holder p body rest) g = (g.0.1, spellable body g.1, spellable rest g.2)

pub good-item : (x : Item) → IsWritableItem x → IsGoodItem x
good-item (Define n c) w = let g = map-good (holder (define n c.kind) c.body no_items) w in (g.0, g.1)
good-item (Instance s (Named t)) w = (map-good (plain (named s t) no_items) w).0
good-item (Instance s (Anonymous c)) w = let g = map-good (holder (anonymous s c.kind) c.body no_items) w in (g.0, g.1)
good-item (Own p v) w = (map-good (plain (own p v) no_items) w).0
good-item (Default p v) w = (map-good (plain (default p v) no_items) w).0
good-item (Dynamic t p v) w = (map-good (plain (dynamic t p v) no_items) w).0

pub item-writable : (x : Item) → IsGoodItem x → IsWithinLimits (items_of (x ∷ [])) → IsWritableItem x
item-writable x g within =
    let alone = each-of IsGoodPlain IsGoodHolder (x ∷ []) (All-cons IsGoodItem x [] g (All-nil IsGoodItem)) in
    record { of_words = of-words (items_of (x ∷ [])) alone; spellable = spellable (items_of (x ∷ [])) alone; within = within }

-- ---- Parts.

abbrev IsGoodPart : Part → Type 0
IsGoodPart (OfShell s) = IsShellOfWords s × IsShell s
IsGoodPart (OfValue v) = IsValue v × (value_weight v + 2 ≤ max_weight)
IsGoodPart (OfTarget t) = AreNames t × IsTarget t × (sum_by length t + 2 ≤ max_weight)
IsGoodPart (OfType n) = IsName n × IsFree n
IsGoodPart (OfDefine n) = IsName n × IsFree n

good-part : (p : Part) → IsWritablePart p → IsGoodPart p
good-part (OfShell s) w = (w.of_words.0.0, w.spellable.0.1)
good-part (OfValue v) w = (w.of_words.0.1, omega (arith, w.within.heavy))
good-part (OfTarget t) w = (w.of_words.0.0, w.spellable.0.0, omega (arith, w.within.heavy))
good-part (OfType n) w = (w.name, w.free)
good-part (OfDefine n) w = (w.name, w.free)

with-good : (new : Part) (x : Item) → IsGoodPart new → IsGoodItem x → IsGoodItem (with_part new x)
with-good (OfShell new) (Instance s (Named t)) h g = (((h.0, g.0.0.1), (g.0.1.0, h.1)), tt)
with-good (OfShell new) (Instance s (Anonymous c)) h g = (h, g.1)
with-good (OfValue new) (Own p v) h g = (((g.0.0.0, h.0), g.0.1), h.1)
with-good (OfValue new) (Default p v) h g = (((g.0.0.0, h.0), g.0.1), h.1)
with-good (OfValue new) (Dynamic t p v) h g = (((g.0.0.0, g.0.0.1, h.0), g.0.1), (g.1.0, h.1))
with-good (OfTarget new) (Dynamic t p v) h g = (((h.0, g.0.0.1, g.0.0.2), (h.1, g.0.1.1)), (h.2, g.1.1))
with-good (OfType new) (Instance s (Named t)) h g = (((g.0.0.0, h.0), (h.1, g.0.1.1)), tt)
with-good (OfDefine new) (Define n c) h g = (h, g.1)
with-good new x h g = g

-- ---- The map that a patch makes.

abbrev P : Plain → Type 0
P p = IsGoodPlain p

abbrev H : Holder → Type 0
H h = IsGoodHolder h

put-good : (to : ℕ) (xs : List Item) (o : Option Item) → IfSome o IsGoodItem → All IsGoodItem xs → All IsGoodItem (put_back to xs o)
put-good to xs None f all = all
put-good to xs (Some x) f all = All-append IsGoodItem (take to xs) (x ∷ drop to xs) (All-take IsGoodItem to xs all) (All-cons IsGoodItem x (drop to xs) f (All-drop IsGoodItem to xs all))

shift-good : (from to : ℕ) (b : Items) → IsGood b → IsGood (shift_item from to b)
shift-good from to b g =
    let xs = list_of b in
    let all = items-fit P H b g in
    let others = All-append IsGoodItem (take from xs) (drop (suc from) xs) (All-take IsGoodItem from xs all) (All-drop IsGoodItem (suc from) xs all) in
    each-of P H (put_back to (remove xs from) (slice_get xs from)) (put-good to (remove xs from) (slice_get xs from) (fits-get P H xs from all) others)

set-good : (n : ℕ) (new : Part) (xs : List Item) (o : Option Item) → IsGoodPart new → IfSome o IsGoodItem → All IsGoodItem xs → All IsGoodItem (put_at n (option_map (with_part new) o) xs)
set-good n new xs None h f all = all
set-good n new xs (Some x) h f all = All-set IsGoodItem xs n (with_part new x) (with-good new x h f) all

exchange-good : (n : ℕ) (new : Part) (b : Items) → IsGoodPart new → IsGood b → IsGood (with_part_at n new b)
exchange-good n new b h g =
    let xs = list_of b in
    let all = items-fit P H b g in
    each-of P H (put_at n (option_map (with_part new) (slice_get xs n)) xs) (set-good n new xs (slice_get xs n) h (fits-get P H xs n all) all)

pub patched-good : (p : Patch) (t : Items) → IsWritablePatch p → IsGood t → IsGood (patched p t)
patched-good (Insert at x) t h g = changed-body P H (holder_of at) (insert_item (number_of at) x) t (λ b e. each-insert P H (number_of at) x b (good-item x h.1) e) g
patched-good (Delete at) t h g = changed-body P H (holder_of at) (remove_item (number_of at)) t (λ b e. each-remove P H (number_of at) b e) g
patched-good (Shift at to) t h g = changed-body P H (holder_of at) (shift_item (number_of at) to) t (λ b e. shift-good (number_of at) to b e) g
patched-good (Exchange at part) t h g = changed-body P H (holder_of at) (with_part_at (number_of at) part) t (λ b e. exchange-good (number_of at) part b (good-part part h.1) e) g

-- ---- The item at an address.

and-then : {X Y : Type 0} (A : X → Type 0) (B : Y → Type 0) (f : X → Option Y) (o : Option X) → IfSome o A → ((x : X) → A x → IfSome (f x) B) → IfSome (option_and_then f o) B
and-then A B f None h k = tt
and-then A B f (Some x) h k = k x h

pub found-good : (at : List ℕ) (t : Items) → IsGood t → IfSome (item_at at t) IsGoodItem
found-good [] t g = tt
found-good (i ∷ []) t g = fits-get P H (list_of t) i (items-fit P H t g)
found-good (i ∷ j ∷ path) t g = and-then IsGood IsGoodItem (item_at (j ∷ path)) (inner i t) (inner-each P H i t g) (λ b e. found-good (j ∷ path) b e)

-- ---- Its parts, as items of their own.

name-T : IsName (codes "T")
name-T = record { short = omega arith; identifier = refl }

name-p : IsName (codes "p")
name-p = record { short = omega arith; identifier = refl }

free-T : IsFree (codes "T")
unfolding class is_unused
free-T = refl

free-p : IsFree (codes "p")
unfolding class is_unused
free-p = refl

pub shell-writable : (s : Shell) → IsShellOfWords s → IsShell s → IsWritableItem (shell_item s)
shell-writable s h k =
    record { of_words = ((h, name-T), tt); spellable = ((free-T, k), tt); within = record { deep = omega arith; many = omega arith; heavy = omega (arith, h.name.short) } }

value-writable : (v : Value) → IsValue v → value_weight v + 2 ≤ max_weight → IsWritableItem (value_item v)
value-writable v h small = record { of_words = ((name-p, h), tt); spellable = (inl free-p, tt); within = record { deep = omega arith; many = omega arith; heavy = omega (arith, small) } }

pub target-writable : (t : List (List ℕ)) → AreNames t → IsTarget t → sum_by length t + 2 ≤ max_weight → IsWritableItem (target_item t)
target-writable t h k small =
    record { of_words = ((h, name-p, tt), tt); spellable = ((k, inl free-p), tt); within = record { deep = omega arith; many = omega arith; heavy = omega (arith, small) } }

-- the item's own part, or this one where it has none
pub part-writable : (new : Part) (x : Item) → IsTrue (has_part new x) ⊎ IsWritablePart new → IsGoodItem x → IsWritablePart (part_of new x)
part-writable (OfShell new) (Instance s (Named t)) h g = shell-writable s g.0.0.0 g.0.1.1
part-writable (OfShell new) (Instance s (Anonymous c)) h g = shell-writable s g.0.0 g.0.1
part-writable (OfValue new) (Own p v) h g = value-writable v g.0.0.1 g.1
part-writable (OfValue new) (Default p v) h g = value-writable v g.0.0.1 g.1
part-writable (OfValue new) (Dynamic t p v) h g = value-writable v g.0.0.2 g.1.1
part-writable (OfTarget new) (Dynamic t p v) h g = target-writable t g.0.0.0 g.0.1.0 g.1.0
part-writable (OfType new) (Instance s (Named t)) h g = record { name = g.0.0.1; free = g.0.1.0 }
part-writable (OfDefine new) (Define n c) h g = record { name = g.0.0; free = g.0.1 }
part-writable new x (inl e) g = absurd cc
part-writable new x (inr h) g = h

-- ---- Patches.

pub one : (p : Patch) → IsWritablePatch p → All IsWritablePatch (p ∷ [])
one p h = All-cons IsWritablePatch p [] h (All-nil IsWritablePatch)

pub insert-writable : (at : List ℕ) (o : Option Item) → IsItemAddress at → IfSome o IsGoodItem → IfSome o (λ x. IsWithinLimits (items_of (x ∷ []))) → All IsWritablePatch (insert_again at o)
insert-writable at None h f w = All-nil IsWritablePatch
insert-writable at (Some x) h f w = one (Insert at x) (h, item-writable x f w)

exchange-writable : (at : List ℕ) (part : Part) (o : Option Item) → IsItemAddress at → IsWritablePart part → IfSome o IsGoodItem → All IsWritablePatch (exchange_again at part o)
exchange-writable at part None h k f = All-nil IsWritablePatch
exchange-writable at part (Some x) h k f = one (Exchange at (part_of part x)) (h, part-writable part x (inr k) f)

pub beside : (at : List ℕ) (to : ℕ) → IsItemAddress at → to < 2 ^ 64 → IsItemAddress (holder_of at ++ to ∷ [])
beside at to h small =
    let same = length-holder at h.some in
    let long = length-append (holder_of at) (to ∷ []) in
    record {
      some = omega (arith, long);
      short = omega (arith, same, long, h.short);
      fits = All-append (λ n. n < 2 ^ 64) (holder_of at) (to ∷ []) (All-take (λ n. n < 2 ^ 64) (length at - 1) at h.fits) (All-cons (λ n. n < 2 ^ 64) to [] small (All-nil (λ n. n < 2 ^ 64)));
    }

inverse-writable : (p : Patch) (t : Items) → IsWritablePatch p → IsGood t → IsDropWithin p t → All IsWritablePatch (inverse p t)
inverse-writable (Insert at x) t h g w = one (Delete at) h.0
inverse-writable (Delete at) t h g w = insert-writable at (item_at at t) h (found-good at t g) w
inverse-writable (Shift at to) t h g w = one (Shift (holder_of at ++ to ∷ []) (number_of at)) (beside at to h.0 h.1, h.0.fits (length at - 1) 0 (omega (arith, h.0.some)))
inverse-writable (Exchange at part) t h g w = exchange-writable at part (item_at at t) h.0 h.1 (found-good at t g)

pub from-good : (ps : List Patch) (t : Items) → All IsWritablePatch ps → IsGood t → AreDropsWithin ps t → All IsWritablePatch (inverses ps t)
from-good [] t h g w = All-nil IsWritablePatch
from-good (p ∷ ps) t h g w =
    let here = All-head IsWritablePatch p ps h in
    All-append IsWritablePatch (inverses ps (patched p t)) (inverse p t)
    (from-good ps (patched p t) (All-tail IsWritablePatch p ps h) (patched-good p t here g) w.1)
    (inverse-writable p t here g w.0)

pub inverses-writable : (ps : List Patch) (t : Items) → IsWritable t → All IsWritablePatch ps → AreDropsWithin ps t → All IsWritablePatch (inverses ps t)
inverses-writable ps t d h w = from-good ps t h (map-good t d) w

pub image-good : (ps : List Patch) (t : Items) → All IsWritablePatch ps → IsGood t → IsGood (image ps t)
image-good [] t h g = g
image-good (p ∷ ps) t h g = image-good ps (patched p t) (All-tail IsWritablePatch p ps h) (patched-good p t (All-head IsWritablePatch p ps h) g)

pub image-writable : (ps : List Patch) (t : Items) → IsWritable t → All IsWritablePatch ps → IsWithinLimits (image ps t) → IsWritable (image ps t)
image-writable ps t d h w =
    let g = image-good ps t h (map-good t d) in
    record { of_words = of-words (image ps t) g; spellable = spellable (image ps t) g; within = w }
