-- The instances of a body that isn't edited stand beside those of what it was, one by one, and say the same of their places.
use Rattle.std.proofs.Common.{◌≡◌, ℕ, zero, suc, ◌+◌, ◌≤◌, true, false, ◌&&◌, List, [], ◌∷◌, ◌++◌, length, take, Option, Some, None, unwrap_or, refl, sym, ap, subst, ◌∙◌, arith}
use Rattle.std.specs.Prelude.{slice_get}
use Rattle.std.specs.List.{AllZip}
use Rattle.std.proofs.lemmas.List.{append-nil, append_assoc, take_all, length-take-le}
use Rattle.std.proofs.lemmas.Bool.{not-false}
use Rattle.rdl_tree.specs.Items.{Items, no_items, plain, holder, named, own, default, dynamic, define, anonymous}
use Rattle.rdl_tree.specs.View as tree
use Rattle.rdl_tree.specs.declared.description.Item.{Item}
use Rattle.rdl_tree.specs.declared.description.Item.TheVariants.{Define, Instance, Own, Default, Dynamic}
use Rattle.rdl_tree.specs.declared.description.Of.TheVariants.{Named, Anonymous}
use Rattle.rdl_tree.specs.declared.shell.Shell.{Shell}
use Rattle.rdl_scope.specs.Closed.{Parts, no_parts, instances, found_part}
use Rattle.rdl_marks.specs.Describes.{Describes, IsItem, restored}
use Rattle.rdl_marks.specs.InOrder.{AreInOrder}
use Rattle.rdl_marks.specs.Marks.{Firsts, Marks}
use Rattle.rdl_marks.specs.View.{old_item}
use Rattle.rdl_marks.specs.Was.{trace_of}
use Rattle.rdl_marks.proofs.From.{IsFrom}
use Rattle.rdl_reach.specs.EditedBodies.{is_laid_out, is_set, is_edited}
use Rattle.rdl_renew.specs.AlikeSlots.{says_same}
use Rattle.rdl_reach.proofs.Follows.{same_there, laid_out_kept, Follows, at_the_end}
use Rattle.rdl_renew.proofs.SideBySide.{take_next, next_within}

-- ---- The instances of a body, by number.

-- an item with this number, if it is an instance
abbrev pub spot_of : ℕ → Item → List (ℕ × Shell)
spot_of n (Define m c) = []
spot_of n (Instance s o) = (n, s) ∷ []
spot_of n (Own p v) = []
spot_of n (Default p v) = []
spot_of n (Dynamic t p v) = []

-- the instances among items, of which the first has this number
abbrev pub spots : ℕ → List Item → List (ℕ × Shell)
spots n [] = []
spots n (x ∷ xs) = spot_of n x ++ spots (suc n) xs

-- these instances of the body at b, each with the component that the search finds
abbrev pub found : Items → List ℕ → List (ℕ × Shell) → Parts
found d b [] = no_parts
found d b (x ∷ xs) = found_part d (b ++ x.0 ∷ []) x.1 (found d b xs)

pub instances_found : (d : Items) (b : List ℕ) (n : ℕ) (t : Items) → instances d b n t ≡ found d b (spots n (tree.list_of t))
instances_found d b n no_items = refl
instances_found d b n (plain (named s t) rest) = ap (found_part d (b ++ n ∷ []) s) (instances_found d b (suc n) rest)
instances_found d b n (plain (own p v) rest) = instances_found d b (suc n) rest
instances_found d b n (plain (default p v) rest) = instances_found d b (suc n) rest
instances_found d b n (plain (dynamic t p v) rest) = instances_found d b (suc n) rest
instances_found d b n (holder (define m k) body rest) = instances_found d b (suc n) rest
instances_found d b n (holder (anonymous s k) body rest) = ap (found_part d (b ++ n ∷ []) s) (instances_found d b (suc n) rest)

spots_append : (n : ℕ) (xs : List Item) (y : Item) → spots n (xs ++ y ∷ []) ≡ spots n xs ++ spot_of (n + length xs) y
spots_append n [] y = append-nil (spot_of n y) ∙ ap (λ k. spot_of k y) (let e : n ≡ n + length {A = Item} [] = omega arith in e)
spots_append n (x ∷ xs) y =
    ap (λ zs. spot_of n x ++ zs) (spots_append (suc n) xs y ∙ ap (λ k. spots (suc n) xs ++ spot_of k y) (let e : suc n + length xs ≡ n + length (x ∷ xs) = omega arith in e))
    ∙ sym (append_assoc (spot_of n x) (spots (suc n) xs) (spot_of (n + length (x ∷ xs)) y))

-- those among the first items
abbrev front : ℕ → List Item → List (ℕ × Shell)
front k xs = spots 0 (take k xs)

front_next : (k : ℕ) (xs : List Item) (y : Item) → slice_get xs k ≡ Some y → front (suc k) xs ≡ front k xs ++ spot_of k y
front_next k xs y got =
    let within = next_within xs k y got in
    ap (spots 0) (take_next xs k y got) ∙ spots_append 0 (take k xs) y
    ∙ ap (λ n. front k xs ++ spot_of n y) (let e : 0 + length (take k xs) ≡ k = omega (arith, length-take-le k xs (let l : k ≤ length xs = omega (arith, within) in l)) in e)

pub take_past : (k : ℕ) (xs : List Item) → slice_get xs k ≡ None → take (suc k) xs ≡ take k xs
take_past zero [] e = refl
take_past (suc k) [] e = refl
take_past zero (x ∷ xs) e = absurd cc
take_past (suc k) (x ∷ xs) e = ap (λ ys. x ∷ ys) (take_past k xs e)

no_spot : (n : ℕ) (x : Item) → is_laid_out x ≡ false → spot_of n x ≡ []
no_spot n (Define m c) e = refl
no_spot n (Instance s o) e = absurd (let no : true ≡ false = e in cc)
no_spot n (Own p v) e = refl
no_spot n (Default p v) e = refl
no_spot n (Dynamic t p v) e = refl

front_same : (k : ℕ) (xs : List Item) → ((z : Item) → slice_get xs k ≡ Some z → is_laid_out z ≡ false) → front (suc k) xs ≡ front k xs
front_same k xs none = by (slice_get xs k) refl
  where
    by : (o : Option Item) → slice_get xs k ≡ o → front (suc k) xs ≡ front k xs
    by None e = ap (spots 0) (take_past k xs e)
    by (Some z) e = front_next k xs z e ∙ ap (λ ys. front k xs ++ ys) (no_spot k z (none z e)) ∙ append-nil (front k xs)

-- ---- Beside one another.

-- an instance stayed in order, says the same of its place, and became of the old item
pub record IsBeside (m : Marks) (old now : Items) (x y : ℕ × Shell) : Type 0 where
  pub firsts : Firsts
  pub inside : Marks
  pub item : Item
  pub told : trace_of m y.0 ≡ Some (old_item x.0 firsts inside)
  pub unmoved : firsts.is_moved ≡ false
  pub says : says_same x.1 y.1 ≡ true
  pub is : IsItem y.0 now item
  pub from : IsFrom old (old_item x.0 firsts inside) item

zip-append : {A B : Type 0} (R : A → B → Type 0) (xs zs : List A) (ys ws : List B) → AllZip R xs ys → AllZip R zs ws → AllZip R (xs ++ zs) (ys ++ ws)
zip-append R [] zs [] ws h g = g
zip-append R [] zs (y ∷ ys) ws h g = absurd h
zip-append R (x ∷ xs) zs [] ws h g = absurd h
zip-append R (x ∷ xs) zs (y ∷ ys) ws h g = (h.0, zip-append R xs zs ys ws h.1 g)

module _ (m : Marks) (old now : Items) where
  abbrev Beside : List (ℕ × Shell) → List (ℕ × Shell) → Type 0
  Beside xs ys = AllZip (IsBeside m old now) xs ys

  one_beside : (i n : ℕ) (f : Firsts) (inside : Marks) (y z : Item) → IsItem i now y → IsItem n old z → trace_of m i ≡ Some (old_item n f inside) → f.is_moved ≡ false → IsFrom old (old_item n f inside) y
      → (is_laid_out y && is_set f y) ≡ false → Beside (spot_of n z) (spot_of i y)
  one_beside i n f inside (Define k c) z got is told unmoved h e = subst (λ x. Beside (spot_of n x) []) (same_there old n (Define (unwrap_or f.defined k) (record { kind = c.kind; body = h.0.0 })) z h.0.1 is) tt
  one_beside i n f inside (Instance s (Named u)) z got is told unmoved h e =
      subst (λ x. Beside (spot_of n x) ((i, s) ∷ [])) (same_there old n (restored f (Instance s (Named u))) z h.0 is)
      (record { firsts = f; inside = inside; item = Instance s (Named u); told = told; unmoved = unmoved; says = not-false (says_same (unwrap_or f.shell s) s) e; is = got; from = h }, tt)
  one_beside i n f inside (Instance s (Anonymous c)) z got is told unmoved h e =
      subst (λ x. Beside (spot_of n x) ((i, s) ∷ [])) (same_there old n (Instance (unwrap_or f.shell s) (Anonymous (record { kind = c.kind; body = h.0.0 }))) z h.0.1 is)
      (record { firsts = f; inside = inside; item = Instance s (Anonymous c); told = told; unmoved = unmoved; says = not-false (says_same (unwrap_or f.shell s) s) e; is = got; from = h }, tt)
  one_beside i n f inside (Own p v) z got is told unmoved h e = subst (λ x. Beside (spot_of n x) []) (same_there old n (restored f (Own p v)) z h.0 is) tt
  one_beside i n f inside (Default p v) z got is told unmoved h e = subst (λ x. Beside (spot_of n x) []) (same_there old n (restored f (Default p v)) z h.0 is) tt
  one_beside i n f inside (Dynamic u p v) z got is told unmoved h e = subst (λ x. Beside (spot_of n x) []) (same_there old n (restored f (Dynamic u p v)) z h.0 is) tt

  abbrev So : ℕ → ℕ → Type 0
  So k i = Beside (front k (tree.list_of old)) (front i (tree.list_of now))

  instances_follow : Follows is_laid_out m old now So
  instances_follow = record {
    first = tt;
    passed = λ k i none so. subst (λ xs. Beside xs (front i (tree.list_of now))) (sym (front_same k (tree.list_of old) none)) so;
    came = λ k i y got none so.
        subst (Beside (front k (tree.list_of old))) (sym (front_same i (tree.list_of now) (λ z is. ap is_laid_out (same_there now i z y is got) ∙ none))) so;
    stayed = λ i n f inside y z got is told unmoved from e so.
        subst (λ xs. Beside xs (front (suc i) (tree.list_of now))) (sym (front_next n (tree.list_of old) z is))
        (subst (Beside (front n (tree.list_of old) ++ spot_of n z)) (sym (front_next i (tree.list_of now) y got))
        (zip-append (IsBeside m old now) (front n (tree.list_of old)) (spot_of n z) (front i (tree.list_of now)) (spot_of i y) so
        (one_beside i n f inside y z got is told unmoved from e)));
  }

  pub all_beside : Describes m old now → AreInOrder m → is_edited m now ≡ false → AllZip (IsBeside m old now) (spots 0 (tree.list_of old)) (spots 0 (tree.list_of now))
  all_beside described ordered none =
      let e = at_the_end is_laid_out laid_out_kept m old now described ordered none So instances_follow in
      subst (λ xs. Beside (spots 0 xs) (spots 0 (tree.list_of now))) (take_all e.0 (tree.list_of old) e.1)
      (subst (λ ys. Beside (front e.0 (tree.list_of old)) (spots 0 ys)) (take_all (length (tree.list_of now)) (tree.list_of now) (let l : length (tree.list_of now) ≤ length (tree.list_of now) = omega arith in l)) e.2)
