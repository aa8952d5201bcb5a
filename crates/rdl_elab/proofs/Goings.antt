-- A walk goes on, and what it has kept stays.
use Rattle.std.proofs.Common.{◌≡◌, ℕ, zero, suc, ◌+◌, ◌-◌, ◌≤◌, ◌<◌, List, [], ◌∷◌, ◌++◌, length, take, drop, get_or, Bool, true, false, Option, Some, None, refl, ap, sym, subst, ◌∙◌, arith, length-append}
use Rattle.std.specs.Prelude.{slice_get, bytes_eq, if◌then◌else◌}
use Rattle.std.proofs.Math.Seq.{drop-nil}
use Rattle.std.proofs.lemmas.List.{take_more, length-take}
use Rattle.std.proofs.lemmas.Option.{slice_get_within, slice_get-get_or}
use Rattle.rdl_tree.specs.Items.{Items, no_items}
use Rattle.rdl_tree.specs.Component.{own_component}
use Rattle.rdl_tree.specs.Depth.{depth}
use Rattle.rdl_tree.proofs.Rounds.{items_of-list_of}
use Rattle.rdl_tree.specs.View.{add, items_of, list_of}
use Rattle.rdl_tree.specs.declared.shell.Shell.{Shell}
use Rattle.rdl_tree.specs.declared.description.Item.{Item}
use Rattle.rdl_tree.specs.declared.description.Item.TheVariants.{Define, Instance, Own, Default, Dynamic}
use Rattle.rdl_tree.specs.declared.description.Of.TheVariants.{Named, Anonymous}
use Rattle.rdl_tree.specs.declared.description.Component.{Component}
use Rattle.rdl_scope.specs.Closed.{Parts, no_parts, part, Made, Standing, lookup, with_made, head_at, parts, standing, nothing}
use Rattle.rdl_elab.specs.declared.walk.finished.Finished.{Finished}
use Rattle.rdl_elab.specs.Kept.{Part}
use Rattle.rdl_elab.specs.declared.walk.Walk.{Walk}
use Rattle.rdl_elab.specs.declared.walk.Found.{Found}
use Rattle.rdl_elab.specs.Finished.{IsKept, AreParts, IsFinished}
use Rattle.rdl_elab.specs.Stands.{made_at, after_item, item_parts, LeadsTo, placed, in_list, AreTypes, Stands, Grows, IsLonger, IsBehind}

-- finished components stay where they are
pub grows-same : (fs : List Finished) → Grows fs fs
grows-same fs = record { more = omega arith; same = λ k f e. e }

pub grows-on : (fs gs hs : List Finished) → Grows fs gs → Grows gs hs → Grows fs hs
grows-on fs gs hs g h = record { more = omega (arith, g.more, h.more); same = λ k f e. h.same k f (g.same k f e) }

slice_get-append : (fs : List Finished) (x : Finished) (k : ℕ) (f : Finished) → slice_get fs k ≡ Some f → slice_get (fs ++ x ∷ []) k ≡ Some f
slice_get-append [] x k f e = cc
slice_get-append (g ∷ fs) x zero f e = e
slice_get-append (g ∷ fs) x (suc k) f e = slice_get-append fs x k f e

pub slice_get-last : (fs : List Finished) (x : Finished) → slice_get (fs ++ x ∷ []) (length fs) ≡ Some x
slice_get-last [] x = refl
slice_get-last (g ∷ fs) x = slice_get-last fs x

pub grows-push : (fs gs : List Finished) (x : Finished) → gs ≡ fs ++ x ∷ [] → Grows fs gs
grows-push fs gs x e = record {
  more = omega (arith, ap length e, length-append fs (x ∷ []));
  same = λ k f h. ap (λ hs. slice_get hs k) e ∙ slice_get-append fs x k f h;
}

pub parts-grow : (d : Items) (fs gs : List Finished) (n m : ℕ) (ps : List Part) (inside : Parts) → Grows fs gs → n ≤ m → AreParts d fs n ps inside → AreParts d gs m ps inside
parts-grow d fs gs n m [] no_parts g l h = tt
parts-grow d fs gs n m (p ∷ ps) no_parts g l h = absurd h
parts-grow d fs gs n m [] (part at s k inside rest) g l h = absurd h
parts-grow d fs gs n m (p ∷ ps) (part at s k inside rest) g l h = (
  record {
    place = h.0.place;
    shell = h.0.shell;
    before = omega (arith, h.0.before, l);
    finished = h.0.finished;
    there = g.same p.component h.0.finished h.0.there;
    kept = h.0.kept;
    inside = parts-grow d fs gs p.component p.component h.0.finished.parts.items inside g (omega arith) h.0.inside;
  },
  parts-grow d fs gs n m ps rest g l h.1,
)

pub finished-grow : (d : Items) (fs gs : List Finished) (k : ℕ) (c : Made) → Grows fs gs → IsFinished d fs k c → IsFinished d gs k c
finished-grow d fs gs k c g h = record {
  finished = h.finished;
  there = g.same k h.finished h.there;
  kept = h.kept;
  parts = parts-grow d fs gs k k h.finished.parts.items c.parts g (omega arith) h.parts;
}

pub types-grow : (d : Items) (fs gs : List Finished) (ks : List (List ℕ × ℕ)) (ts : List (List ℕ × Made)) → Grows fs gs → AreTypes d fs ks ts → AreTypes d gs ks ts
types-grow d fs gs [] [] g h = tt
types-grow d fs gs (k ∷ ks) [] g h = absurd h
types-grow d fs gs [] (t ∷ ts) g h = absurd h
types-grow d fs gs (k ∷ ks) (t ∷ ts) g h = (h.0, finished-grow d fs gs k.1 t.1 g h.1, types-grow d fs gs ks ts g h.2)

-- the stacks of types and defaults get longer
pub longer-same : {X : Type 0} (xs : List X) → IsLonger xs xs
longer-same xs = let none : length xs - length xs ≡ 0 = omega arith in record { more = omega arith; same = ap (λ n. drop n xs) none }

drop_further : {X : Type 0} (n m : ℕ) (xs : List X) → drop n (drop m xs) ≡ drop (m + n) xs
drop_further n zero xs = ap (λ k. drop k xs) (omega arith)
drop_further n (suc m) [] = drop-nil n ∙ sym (drop-nil (suc m + n))
drop_further n (suc m) (x ∷ xs) = drop_further n m xs ∙ ap (λ k. drop k (x ∷ xs)) (next m n)
  where
    next : (m n : ℕ) → suc (m + n) ≡ suc m + n
    next m n = omega arith

pub longer-on : {X : Type 0} (xs ys zs : List X) → IsLonger xs ys → IsLonger ys zs → IsLonger xs zs
longer-on xs ys zs g h = record {
  more = omega (arith, g.more, h.more);
  same =
      ap (λ n. drop n zs) (count (length xs) (length ys) (length zs) g.more h.more)
      ∙ sym (drop_further (length ys - length xs) (length zs - length ys) zs)
      ∙ ap (drop (length ys - length xs)) h.same
      ∙ g.same;
}
  where
    count : (x y z : ℕ) → x ≤ y → y ≤ z → z - x ≡ z - y + (y - x)
    count x y z g h = omega arith

pub append_nil : {X : Type 0} (xs : List X) → xs ++ [] ≡ xs
append_nil [] = refl
append_nil (x ∷ xs) = ap (λ ys. x ∷ ys) (append_nil xs)

-- a walk's next item
abbrev then_parts : Parts → Parts → Parts
then_parts no_parts more = more
then_parts (part at s h inside rest) more = part at s h inside (then_parts rest more)

then-assoc : (p q r : Parts) → then_parts (then_parts p q) r ≡ then_parts p (then_parts q r)
then-assoc no_parts q r = refl
then-assoc (part at s h inside rest) q r = ap (part at s h inside) (then-assoc rest q r)

then-none : (p : Parts) → then_parts p no_parts ≡ p
then-none no_parts = refl
then-none (part at s h inside rest) = ap (part at s h inside) (then-none rest)

parts-then : (d : Items) (fs : List Finished) (n : ℕ) (ps qs : List Part) (a b : Parts) → AreParts d fs n ps a → AreParts d fs n qs b → AreParts d fs n (ps ++ qs) (then_parts a b)
parts-then d fs n [] qs no_parts b h g = g
parts-then d fs n (p ∷ ps) qs no_parts b h g = absurd h
parts-then d fs n [] qs (part at s k inside rest) b h g = absurd h
parts-then d fs n (p ∷ ps) qs (part at s k inside rest) b h g = (h.0, parts-then d fs n ps qs rest b h.1 g)

with-made-then : (at : List ℕ) (s : Shell) (o : Option Made) (rest : Parts) → with_made at s o rest ≡ then_parts (with_made at s o no_parts) rest
with-made-then at s None rest = refl
with-made-then at s (Some m) rest = refl

parts-add : (e : Standing) (b : List ℕ) (n : ℕ) (x : Item) (rest : Items) → parts e b n (add x rest) ≡ then_parts (item_parts e (b ++ n ∷ []) x) (parts (after_item (b ++ n ∷ []) x e) b (suc n) rest)
parts-add e b n (Define m c) rest = refl
parts-add e b n (Instance s (Named t)) rest = with-made-then (b ++ n ∷ []) s (lookup t e.types) (parts e b (suc n) rest)
parts-add e b n (Instance s (Anonymous c)) rest = refl
parts-add e b n (Own p v) rest = refl
parts-add e b n (Default p v) rest = refl
parts-add e b n (Dynamic t p v) rest = refl

pub standing-add : (e : Standing) (b : List ℕ) (n : ℕ) (x : Item) (rest : Items) → standing e b n (add x rest) ≡ standing (after_item (b ++ n ∷ []) x e) b (suc n) rest
standing-add e b n (Define m c) rest = refl
standing-add e b n (Instance s (Named t)) rest = refl
standing-add e b n (Instance s (Anonymous c)) rest = refl
standing-add e b n (Own p v) rest = refl
standing-add e b n (Default p v) rest = refl
standing-add e b n (Dynamic t p v) rest = refl

pub standing-last : (e : Standing) (b : List ℕ) (n : ℕ) (xs : List Item) (x : Item)
    → standing e b n (items_of (xs ++ x ∷ [])) ≡ after_item (b ++ (n + length xs) ∷ []) x (standing e b n (items_of xs))
standing-last e b n [] x = standing-add e b n x no_items ∙ ap (λ k. after_item (b ++ k ∷ []) x e) (none n)
  where
    none : (n : ℕ) → n ≡ n + 0
    none n = omega arith
standing-last e b n (y ∷ xs) x =
    let f = after_item (b ++ n ∷ []) y e in
    standing-add e b n y (items_of (xs ++ x ∷ [])) ∙ standing-last f b (suc n) xs x
    ∙ ap (λ k. after_item (b ++ k ∷ []) x (standing f b (suc n) (items_of xs))) (one n (length xs))
    ∙ ap (after_item (b ++ (n + suc (length xs)) ∷ []) x) (sym (standing-add e b n y (items_of xs)))
  where
    one : (n k : ℕ) → suc n + k ≡ n + suc k
    one n k = omega arith

pub parts-last : (e : Standing) (b : List ℕ) (n : ℕ) (xs : List Item) (x : Item)
    → parts e b n (items_of (xs ++ x ∷ [])) ≡ then_parts (parts e b n (items_of xs)) (item_parts (standing e b n (items_of xs)) (b ++ (n + length xs) ∷ []) x)
parts-last e b n [] x = parts-add e b n x no_items ∙ then-none (item_parts e (b ++ n ∷ []) x) ∙ ap (λ k. item_parts e (b ++ k ∷ []) x) (none n)
  where
    none : (n : ℕ) → n ≡ n + 0
    none n = omega arith
parts-last e b n (y ∷ xs) x =
    let f = after_item (b ++ n ∷ []) y e in
    let first = item_parts e (b ++ n ∷ []) y in
    parts-add e b n y (items_of (xs ++ x ∷ [])) ∙ ap (then_parts first) (parts-last f b (suc n) xs x)
    ∙ sym (then-assoc first (parts f b (suc n) (items_of xs)) (item_parts (standing f b (suc n) (items_of xs)) (b ++ (suc n + length xs) ∷ []) x))
    ∙ ap (λ k. then_parts (then_parts first (parts f b (suc n) (items_of xs))) (item_parts (standing f b (suc n) (items_of xs)) (b ++ k ∷ []) x)) (one n (length xs))
    ∙ ap (λ p. then_parts p (item_parts (standing f b (suc n) (items_of xs)) (b ++ (n + suc (length xs)) ∷ []) x)) (sym (parts-add e b n y (items_of xs)))
    ∙ ap (λ g. then_parts (parts e b n (items_of (y ∷ xs))) (item_parts g (b ++ (n + suc (length xs)) ∷ []) x)) (sym (standing-add e b n y (items_of xs)))
  where
    one : (n k : ℕ) → suc n + k ≡ n + suc k
    one n k = omega arith

-- room for the items of a body
depth-first : (x : Item) (rest : Items) → depth (add x no_items) ≤ depth (add x rest)
depth-first (Define n c) rest = omega arith
depth-first (Instance s (Named t)) rest = omega arith
depth-first (Instance s (Anonymous c)) rest = omega arith
depth-first (Own p v) rest = omega arith
depth-first (Default p v) rest = omega arith
depth-first (Dynamic t p v) rest = omega arith

depth-rest : (x : Item) (rest : Items) → depth rest ≤ depth (add x rest)
depth-rest (Define n c) rest = omega arith
depth-rest (Instance s (Named t)) rest = omega arith
depth-rest (Instance s (Anonymous c)) rest = omega arith
depth-rest (Own p v) rest = omega arith
depth-rest (Default p v) rest = omega arith
depth-rest (Dynamic t p v) rest = omega arith

depth-one : (i : ℕ) (xs : List Item) (x : Item) → slice_get xs i ≡ Some x → depth (items_of (x ∷ [])) ≤ depth (items_of xs)
depth-one i [] x e = cc
depth-one zero (y ∷ xs) x e = let same : y ≡ x = cc in omega (arith, ap (λ z. depth (add z no_items)) same, depth-first y (items_of xs))
depth-one (suc i) (y ∷ xs) x e = omega (arith, depth-one i xs x e, depth-rest y (items_of xs))

depth-take : (n : ℕ) (xs : List Item) → depth (items_of (take n xs)) ≤ depth (items_of xs)
depth-take zero xs = omega arith
depth-take (suc n) [] = omega arith
depth-take (suc n) (x ∷ xs) = over x (items_of (take n xs)) (items_of xs) (depth-take n xs)
  where
    over : (x : Item) (a b : Items) → depth a ≤ depth b → depth (add x a) ≤ depth (add x b)
    over (Define n c) a b h = omega arith
    over (Instance s (Named t)) a b h = omega arith
    over (Instance s (Anonymous c)) a b h = omega arith
    over (Own p v) a b h = omega arith
    over (Default p v) a b h = omega arith
    over (Dynamic t p v) a b h = omega arith

pub item-room : (at : List ℕ) (i : ℕ) (xs : List Item) (x : Item) → i < length xs → x ≡ get_or xs i x → length at + depth (items_of xs) ≤ 16 → length at + depth (items_of (x ∷ [])) ≤ 16
item-room at i xs x h e room = omega (arith, depth-one i xs x (slice_get-get_or xs i x h ∙ ap Some (sym e)), room)

pub body-room : (at : List ℕ) (t : Items) (xs : List Item) → xs ≡ list_of t → length at + depth t ≤ 16 → length at + depth (items_of xs) ≤ 16
body-room at t xs e room = omega (arith, ap (λ ys. depth (items_of ys)) e, ap depth (items_of-list_of t))

pub first-room : (t : Items) (xs ys : List Item) (n : ℕ) → xs ≡ list_of t → ys ≡ take n xs → depth t ≤ 16 → depth (items_of ys) ≤ 16
first-room t xs ys n e g h = omega (arith, ap (λ zs. depth (items_of zs)) g, depth-take n xs, ap (λ zs. depth (items_of zs)) e, ap depth (items_of-list_of t))

pub own-depth : (x : Item) (k : Component) → own_component x ≡ Some k → depth k.body + 1 ≤ depth (items_of (x ∷ []))
own-depth (Define n c) k e = let same : c ≡ k = cc in omega (arith, ap (λ (c : Component). depth c.body) same)
own-depth (Instance s (Named t)) k e = cc
own-depth (Instance s (Anonymous c)) k e = let same : c ≡ k = cc in omega (arith, ap (λ (c : Component). depth c.body) same)
own-depth (Own p v) k e = cc
own-depth (Default p v) k e = cc
own-depth (Dynamic t p v) k e = cc

pub own-room : (t : Items) (n : ℕ) (xs : List Item) (x : Item) (k : Component) (root at : List ℕ) → xs ≡ list_of t → n < length xs → x ≡ get_or xs n x → own_component x ≡ Some k → root ≡ [] → at ≡ root ++ n ∷ [] → depth t ≤ 16 → length at + depth k.body ≤ 16
own-room t n xs x k root at e h is own r a room =
    omega (arith, own-depth x k own, depth-one n xs x (slice_get-get_or xs n x h ∙ ap Some (sym is)), ap (λ zs. depth (items_of zs)) e, ap depth (items_of-list_of t), ap length a, length-append root (n ∷ []), ap length r, room)

pub item-taken : (xs : List Item) (i : ℕ) (x : Item) → i < length xs → x ≡ get_or xs i x → take (i + 1) xs ≡ take i xs ++ x ∷ []
item-taken xs i x h is = take_more xs i x h ∙ ap (λ y. take i xs ++ y ∷ []) (sym is)

pub item-place : (at below : List ℕ) (xs : List Item) (i : ℕ) → i < length xs → below ≡ at ++ i ∷ [] → at ++ (0 + length (take i xs)) ∷ [] ≡ below
item-place at below xs i h b = let n : 0 + length (take i xs) ≡ i = omega (arith, length-take i xs) in ap (λ k. at ++ k ∷ []) n ∙ sym b

-- what stands goes on to stand
module _ (d : Items) where
  pub stands-first : (w : Walk) → w.types ≡ [] → w.defaults ≡ [] → Stands d w nothing
  stands-first w t f = record { types = subst (λ (ks : List (List ℕ × ℕ)). AreTypes d w.components.items ks []) (sym t) tt; defaults = f }

  pub stands-grow : (old new : Walk) (e : Standing) → new.types ≡ old.types → new.defaults ≡ old.defaults → Grows old.components.items new.components.items → Stands d old e → Stands d new e
  stands-grow old new e t f g h = record {
    types = subst (λ (ks : List (List ℕ × ℕ)). AreTypes d new.components.items ks e.types) (sym t) (types-grow d old.components.items new.components.items old.types e.types g h.types);
    defaults = f ∙ h.defaults;
  }

  pub stands-define : (old new : Walk) (e : Standing) (at name : List ℕ) (k : ℕ) (c : Component) → new.types ≡ (name, k) ∷ old.types → new.defaults ≡ old.defaults → Grows old.components.items new.components.items
      → IsFinished d new.components.items k (made_at e at c) → Stands d old e → Stands d new (after_item at (Define name c) e)
  stands-define old new e at name k c t f g made h = record {
    types = subst (λ (ks : List (List ℕ × ℕ)). AreTypes d new.components.items ks ((name, made_at e at c) ∷ e.types)) (sym t)
        (refl, made, types-grow d old.components.items new.components.items old.types e.types g h.types);
    defaults = f ∙ h.defaults;
  }

  pub finished-part : (fs : List Finished) (k : ℕ) (c : Made) (at : List ℕ) (s : Shell) (p : Part) → IsFinished d fs k c → p.at ≡ at → p.shell ≡ s → p.component ≡ k
      → AreParts d fs (length fs) (p ∷ []) (part at s c.head c.parts no_parts)
  finished-part fs k c at s p h a b e = (
    record {
      place = a;
      shell = b;
      before = omega (arith, e, slice_get_within fs k h.finished h.there);
      finished = h.finished;
      there = ap (slice_get fs) e ∙ h.there;
      kept = h.kept;
      inside = subst (λ n. AreParts d fs n h.finished.parts.items c.parts) (sym e) h.parts;
    },
    tt,
  )

  pub named-part : (fs : List Finished) (at : List ℕ) (s : Shell) (name : List ℕ) (r : Option Found) (ks : List (List ℕ × ℕ)) (ts : List (List ℕ × Made)) → AreTypes d fs ks ts → LeadsTo s (lookup name ks) r
      → AreParts d fs (length fs) (in_list (placed at r)) (with_made at s (lookup name ts) no_parts)
  named-part fs at s name None [] [] h g = tt
  named-part fs at s name (Some p) [] [] h g = absurd g
  named-part fs at s name r (k ∷ ks) [] h g = absurd h
  named-part fs at s name r [] (t ∷ ts) h g = absurd h
  named-part fs at s name r (k ∷ ks) (t ∷ ts) h g =
      subst (λ (n : List ℕ). AreParts d fs (length fs) (in_list (placed at r)) (with_made at s (if bytes_eq n name then Some t.1 else lookup name ts) no_parts)) h.0 (by_test (named-part fs at s name r ks ts h.2) (bytes_eq k.0 name) g)
    where
      some : (r : Option Found) → LeadsTo s (Some k.1) r → AreParts d fs (length fs) (in_list (placed at r)) (part at s t.1.head t.1.parts no_parts)
      some None g = absurd g
      some (Some f) g = finished-part fs k.1 t.1 at s (record { at = at; shell = f.shell.now; component = f.component }) h.1 refl g.0 g.1

      by_test : (LeadsTo s (lookup name ks) r → AreParts d fs (length fs) (in_list (placed at r)) (with_made at s (lookup name ts) no_parts)) → (b : Bool) → LeadsTo s (if b then Some k.1 else lookup name ks) r
          → AreParts d fs (length fs) (in_list (placed at r)) (with_made at s (if b then Some t.1 else lookup name ts) no_parts)
      by_test further true g = some r g
      by_test further false g = further g

  -- a component, behind those of its instances
  pub made-last : (at : List ℕ) (c : Component) (e : Standing) (mid new : List Finished) (k : ℕ) (f : Finished) (xs : List Item) → xs ≡ list_of c.body → k ≡ length mid → new ≡ mid ++ f ∷ []
      → AreParts d mid (length mid) f.parts.items (parts e at 0 (items_of xs))
      → ((inside : Parts) (n : ℕ) → AreParts d mid n f.parts.items inside → IsKept d f (record { head = head_at at c.kind c.body e; parts = inside }))
      → IsFinished d new k (made_at e at c)
  made-last at c e mid new k f xs body number is inside kept =
      let here : AreParts d mid (length mid) f.parts.items (parts e at 0 c.body) =
      subst (λ t. AreParts d mid (length mid) f.parts.items (parts e at 0 t)) (ap items_of body ∙ items_of-list_of c.body) inside in
      record {
        finished = f;
        there = ap (λ (fs : List Finished). slice_get fs k) is ∙ ap (slice_get (mid ++ f ∷ [])) number ∙ slice_get-last mid f;
        kept = kept (parts e at 0 c.body) (length mid) here;
        parts = parts-grow d mid new (length mid) k f.parts.items (parts e at 0 c.body) (grows-push mid new f is) (omega (arith, number)) here;
      }

  -- one more item
  module _ (at below : List ℕ) (xs : List Item) (i : ℕ) (x : Item) (h : i < length xs) (is : x ≡ get_or xs i x) (b : below ≡ at ++ i ∷ []) (e : Standing) where
    taken : take (i + 1) xs ≡ take i xs ++ x ∷ []
    taken = item-taken xs i x h is

    place : at ++ (0 + length (take i xs)) ∷ [] ≡ below
    place = item-place at below xs i h b

    pub stands-next : (new : Walk) → Stands d new (after_item below x (standing e at 0 (items_of (take i xs)))) → Stands d new (standing e at 0 (items_of (take (i + 1) xs)))
    stands-next new g =
        subst (Stands d new) (sym (ap (λ ys. standing e at 0 (items_of ys)) taken ∙ standing-last e at 0 (take i xs) x ∙ ap (λ a. after_item a x (standing e at 0 (items_of (take i xs)))) place)) g

    pub parts-next : (old new : List Finished) (done after : List Part) (r : Option Part) → Grows old new → after ≡ done ++ in_list r → AreParts d old (length old) done (parts e at 0 (items_of (take i xs)))
        → AreParts d new (length new) (in_list r) (item_parts (standing e at 0 (items_of (take i xs))) below x) → AreParts d new (length new) after (parts e at 0 (items_of (take (i + 1) xs)))
    parts-next old new done after r g same before one =
        let before_too = parts-grow d old new (length old) (length new) done (parts e at 0 (items_of (take i xs))) g g.more before in
        let here : parts e at 0 (items_of (take (i + 1) xs)) ≡ then_parts (parts e at 0 (items_of (take i xs))) (item_parts (standing e at 0 (items_of (take i xs))) below x) =
        ap (λ ys. parts e at 0 (items_of ys)) taken ∙ parts-last e at 0 (take i xs) x
        ∙ ap (λ a. then_parts (parts e at 0 (items_of (take i xs))) (item_parts (standing e at 0 (items_of (take i xs))) a x)) place in
        subst (λ ps. AreParts d new (length new) ps (parts e at 0 (items_of (take (i + 1) xs)))) (sym same)
        (subst (AreParts d new (length new) (done ++ in_list r)) (sym here)
        (parts-then d new (length new) done (in_list r) (parts e at 0 (items_of (take i xs))) (item_parts (standing e at 0 (items_of (take i xs))) below x) before_too one))

pub behind-on : (a b c : Walk) → IsBehind a b → IsBehind b c → IsBehind a c
behind-on a b c g h = record {
  types = longer-on a.types b.types c.types g.types h.types;
  defaults = longer-on a.defaults b.defaults c.defaults g.defaults h.defaults;
  components = grows-on a.components.items b.components.items c.components.items g.components h.components;
}

pub ruleset goings = (grows-same, longer-same)
