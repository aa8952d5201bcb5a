-- What an accepted edit brings stands in the new map: where that can be written, so can what the edit brings.
use Rattle.std.proofs.Common.{◌≡◌, ℕ, zero, suc, ◌+◌, ◌<◌, Bool, true, false, cond, List, [], ◌∷◌, ◌++◌, length, get_or, take, drop, insert, position, Option, Some, None, Result, Ok, Err, All, IfSome, slice_get, slice_set, refl, sym, ap, subst, ◌∙◌, arith}
use Rattle.std.specs.Prelude.{◌==◌, ltb}
use Rattle.std.specs.List.{list_all}
use Rattle.std.proofs.lemmas.List.{append_assoc}
use Rattle.std.proofs.lemmas.List.Elements.{All-nil, All-cons, All-head, All-tail}
use Rattle.std.proofs.lemmas.List.Quantifiers.{position-Some}
use Rattle.std.proofs.lemmas.Option.{slice_get_within, slice_get-get_or}
use Rattle.std.proofs.lemmas.Slice.Eq.{bytes_eq-Decides}
use Rattle.rdl_text.specs.Name.{IsName}
use Rattle.rdl_tree.specs.ItemAt.{item_at}
use Rattle.rdl_tree.specs.Address.{inner, holder_of, number_of, body_at, map_body}
use Rattle.rdl_tree.specs.Edit.{insert_item, replace_item}
use Rattle.rdl_tree.specs.Find.{is_named, after_number, by_number, walk, find}
use Rattle.rdl_tree.specs.Items.{Items, no_items, plain, holder, Plain, named, own, default, dynamic, Holder, define, anonymous}
use Rattle.rdl_tree.specs.Patch.{inverses}
use Rattle.rdl_tree.specs.View.{items_of, list_of, plain_item}
use Rattle.rdl_tree.specs.declared.description.Item.{Item}
use Rattle.rdl_tree.specs.declared.description.Item.TheVariants.{Define, Instance, Own, Default, Dynamic}
use Rattle.rdl_tree.specs.declared.description.Of.{Of}
use Rattle.rdl_tree.specs.declared.description.Of.TheVariants.{Named, Anonymous}
use Rattle.rdl_tree.specs.declared.path.PathFault.{PathFault}
use Rattle.rdl_tree.specs.declared.path.PathFault.TheVariants.{NoSuchName}
use Rattle.rdl_tree.specs.declared.path.Segment.{Segment}
use Rattle.rdl_tree.specs.declared.path.Segment.TheVariants.{Def, Inst}
use Rattle.rdl_tree.specs.declared.shell.Shell.{Shell}
use Rattle.rdl_tree.specs.declared.value.Value.{Value}
use Rattle.rdl_tree.specs.declared.value.Value.TheVariants.{Number}
use Rattle.rdl_tree.proofs.Places.{body_at-map}
use Rattle.rdl_tree.proofs.Rounds.{items_of-list_of, list_of-items_of}
use Rattle.rdl_rewrite.specs.Addresses.{same}
use Rattle.rdl_rewrite.specs.Assignment.{is_sort, assigns, assignment, up_to_last, set_at, set}
use Rattle.rdl_rewrite.specs.Change.{is_component, taken, insert_items, added_at, edited_body}
use Rattle.rdl_rewrite.specs.Dynamics.{assigns_to, assigned_at, assigned}
use Rattle.rdl_rewrite.specs.Patches.{patches}
use Rattle.rdl_rewrite.specs.Place.{place_number}
use Rattle.rdl_rewrite.specs.Renaming.{renamed_shell, renamed_plain, renamed_holder, renamed_items, is_reserved, is_taken}
use Rattle.rdl_rewrite.specs.Rewritten.{path_of, refusal_of, put_body, change_body, at_body, by_way, rewritten}
use Rattle.rdl_rewrite.specs.Shell.{edited_shell, reshaped_at, reshaped}
use Rattle.rdl_rewrite.specs.declared.assignment.Sort.{Sort}
use Rattle.rdl_rewrite.specs.declared.assignment.Sort.TheVariants as sort
use Rattle.rdl_rewrite.specs.declared.edit.Edit.{Edit}
use Rattle.rdl_rewrite.specs.declared.edit.Edit.TheVariants.{Add, Remove, Rename, Move, Resize, SetBits, SetAddress, SetStride, SetAlign, SetReset, SetOwn, SetDefault, ClearOwn, ClearDefault, Assign, Unassign}
use Rattle.rdl_rewrite.specs.declared.edit.PatchRefusal.{PatchRefusal}
use Rattle.rdl_rewrite.specs.declared.edit.PatchRefusal.TheVariants.{NameTaken, NotAddable, NotAnInstance, Reserved}
use Rattle.rdl_edit.specs.Step.{State, step}
use Rattle.rdl_edit.proofs.EditsLead.{same-made, steps}
use Rattle.rdl_round.specs.Writable.{IsWritable}
use Rattle.run_laws.specs.NewParts.{IsEditOfWords, IsEditSpellable}
use Rattle.rdl_round.specs.OfWords.{IsShellOfWords}
use Rattle.rdl_round.proofs.Each.{items-fit, each-of, body-each}
use Rattle.rdl_session.specs.Writable.{IsWritablePatch}
use Rattle.rdl_session.proofs.Inverted.{IsGoodPlain, IsGoodHolder, IsGood, IsGoodItem, map-good, of-words, spellable}
use Rattle.run_laws.proofs.EditBrings.{step-patches}

-- ---- What holds of each element of a list holds of those that make it up.

front-of : {X : Type 0} (P : X → Type 0) (xs ys : List X) → All P (xs ++ ys) → All P xs
front-of P [] ys all = All-nil P
front-of P (x ∷ xs) ys all = All-cons P x xs (All-head P x (xs ++ ys) all) (front-of P xs ys (All-tail P x (xs ++ ys) all))

back-of : {X : Type 0} (P : X → Type 0) (xs ys : List X) → All P (xs ++ ys) → All P ys
back-of P [] ys all = all
back-of P (x ∷ xs) ys all = back-of P xs ys (All-tail P x (xs ++ ys) all)

put-holds : {X : Type 0} (P : X → Type 0) (xs : List X) (n : ℕ) (x : X) → All P (insert xs n x) → P x
put-holds P xs n x all = All-head P x (drop n xs) (back-of P (take n xs) (x ∷ drop n xs) all)

set-holds : {X : Type 0} (P : X → Type 0) (xs : List X) (n : ℕ) (x : X) → n < length xs → All P (slice_set xs n x) → P x
set-holds P [] n x h all = absurd (omega (arith, h))
set-holds P (y ∷ ys) zero x h all = All-head P x ys all
set-holds P (y ∷ ys) (suc n) x h all = set-holds P ys n x (omega (arith, h)) (All-tail P y (slice_set ys n x) all)

list-good : (xs : List Item) → IsGood (items_of xs) → All IsGoodItem xs
list-good xs g = subst (All IsGoodItem) (list_of-items_of xs) (items-fit IsGoodPlain IsGoodHolder (items_of xs) g)

insert-good : (n : ℕ) (x : Item) (b : Items) → IsGood (insert_item n x b) → IsGoodItem x
insert-good n x b g = put-holds IsGoodItem (list_of b) n x (list-good (insert (list_of b) n x) g)

replace-good : (n : ℕ) (x : Item) (b : Items) → n < length (list_of b) → IsGood (replace_item n x b) → IsGoodItem x
replace-good n x b below g = set-holds IsGoodItem (list_of b) n x below (list-good (slice_set (list_of b) n x) g)

-- ---- The one body that an edit changes, in the new map.

body-good : (d new b c : Items) (way : List ℕ) → body_at way d ≡ Some b → map_body way (λ _. c) d ≡ new → IsGood new → IsGood c
body-good d new b c way here is g =
    let there : body_at way new ≡ Some c = subst (λ t. body_at way t ≡ Some c) is (body_at-map way (λ _. c) d b here) in
    subst (λ o. IfSome o IsGood) there (body-each IsGoodPlain IsGoodHolder way new g)

-- what follows of the changed body follows of the new map
in-body : (d new : Items) (way : List ℕ) (change : Items → Result Items PatchRefusal) (Q : Type 0) → at_body way d change ≡ Ok new → IsGood new
    → ((b c : Items) → change b ≡ Ok c → IsGood c → Q) → Q
in-body d new way change Q made g k = by-body (body_at way d) refl made
  where
    by-change : (b : Items) → body_at way d ≡ Some b → (r : Result Items PatchRefusal) → change b ≡ r → put_body way d r ≡ Ok new → Q
    by-change b here (Ok c) e m = k b c e (body-good d new b c way here (same-made (map_body way (λ _. c) d) new (put_body way d (Ok c)) refl m) g)
    by-change b here (Err refusal) e m = absurd cc

    by-body : (o : Option Items) → body_at way d ≡ o → change_body way d change o ≡ Ok new → Q
    by-body None here m = absurd cc
    by-body (Some b) here m = by-change b here (change b) refl m

-- ---- Items added.

among : (k : ℕ) (more b : Items) → IsGood (insert_items k more b) → IsGood more
among k more b g =
    let xs = list_of b in
    let all = list-good (take k xs ++ list_of more ++ drop k xs) g in
    let these = back-of IsGoodItem (take k xs) (list_of more) (front-of IsGoodItem (take k xs ++ list_of more) (drop k xs) all) in
    subst IsGood (items_of-list_of more) (each-of IsGoodPlain IsGoodHolder (list_of more) these)

added-good : (d more b c : Items) (o : Option ℕ) (addable : Bool) → cond addable (added_at o d more b) (Err NotAddable) ≡ Ok c → IsGood c → IsGood more
added-good d more b c o false m g = absurd cc
added-good d more b c None true m g = absurd cc
added-good d more b c (Some k) true m g = by (taken d more b) m
  where
    by : (clash : Bool) → cond clash (Err NameTaken) (Ok (insert_items k more b)) ≡ Ok c → IsGood more
    by true e = absurd cc
    by false e = among k more b (subst IsGood (sym (same-made (insert_items k more b) c (Ok (insert_items k more b)) refl e)) g)

-- ---- Assignments.

set-good : (s : Sort) (p : List ℕ) (v : Value) (b : Items) → IsGood (set s p v b) → IsGoodItem (assignment s p v)
set-good s p v b g = by (position (assigns s p) (list_of b)) refl g
  where
    by : (o : Option ℕ) → position (assigns s p) (list_of b) ≡ o → IsGood (set_at o s p v b) → IsGoodItem (assignment s p v)
    by None f h = insert-good (up_to_last (is_sort s) (list_of b)) (assignment s p v) b h
    by (Some n) f h = replace-good n (assignment s p v) b (position-Some (assigns s p) (list_of b) n (assignment s p v) f).0 h

assigned-good : (t : List (List ℕ)) (p : List ℕ) (v : Value) (b : Items) → IsGood (assigned t p v b) → IsGoodItem (Dynamic t p v)
assigned-good t p v b g = by (position (assigns_to t p) (list_of b)) refl g
  where
    by : (o : Option ℕ) → position (assigns_to t p) (list_of b) ≡ o → IsGood (assigned_at o t p v b) → IsGoodItem (Dynamic t p v)
    by None f h = insert-good (length (list_of b)) (Dynamic t p v) b h
    by (Some n) f h = replace-good n (Dynamic t p v) b (position-Some (assigns_to t p) (list_of b) n (Dynamic t p v) f).0 h

-- ---- Shells.

-- some shell so changed is made of words
abbrev IsShaped : (Shell → Shell) → Type 0
IsShaped change = (s : Shell) × IsShellOfWords (change s)

instance-shell : (s : Shell) (of : Of) → IsGoodItem (Instance s of) → IsShellOfWords s
instance-shell s (Named t) g = g.0.0.0
instance-shell s (Anonymous c) g = g.0.0

shape-good : (change : Shell → Shell) (n : ℕ) (b c : Items) → reshaped change n b ≡ Ok c → IsGood c → IsShaped change
shape-good change n b c made g = by (slice_get (list_of b) n) refl made
  where
    by : (o : Option Item) → slice_get (list_of b) n ≡ o → reshaped_at change n b o ≡ Ok c → IsShaped change
    by None f m = absurd cc
    by (Some (Define m k)) f e = absurd cc
    by (Some (Own p v)) f m = absurd cc
    by (Some (Default p v)) f m = absurd cc
    by (Some (Dynamic t p v)) f m = absurd cc
    by (Some (Instance s of)) f m =
        let x = Instance (change s) of in
        let is = same-made (replace_item n x b) c (Ok (replace_item n x b)) refl m in
        (s, instance-shell (change s) of (replace-good n x b (slice_get_within (list_of b) n (Instance s of) f) (subst IsGood (sym is) g)))

-- ---- A new name.

named-component : (s : Segment) (x : Item) → is_named s x ≡ true → is_component x ≡ true
named-component (Def q) (Define n c) e = refl
named-component (Def q) (Instance s o) e = cc
named-component (Def q) (Own p v) e = cc
named-component (Def q) (Default p v) e = cc
named-component (Def q) (Dynamic t p v) e = cc
named-component (Inst q) (Define n c) e = cc
named-component (Inst q) (Instance s o) e = refl
named-component (Inst q) (Own p v) e = cc
named-component (Inst q) (Default p v) e = cc
named-component (Inst q) (Dynamic t p v) e = cc

-- what a segment leads to is a component
record IsThere (t : Items) (i : ℕ) : Type 0 where
  found : Item
  there : slice_get (list_of t) i ≡ Some found
  component : is_component found ≡ true

found-component : (s : Segment) (t : Items) (i : ℕ) → position (is_named s) (list_of t) ≡ Some i → IsThere t i
found-component s t i f =
    let spare = Own [] (Number 0) in
    let at = position-Some (is_named s) (list_of t) i spare f in
    let x = get_or (list_of t) i spare in
    record { found = x; there = slice_get-get_or (list_of t) i spare at.0; component = named-component s x at.1 }

module _ (whole : Items) (way name : List ℕ) where
  -- the items from number n on of the body at b, as they are in the new map
  abbrev anew : List ℕ → ℕ → Items → Items
  anew b n t = renamed_items whole way name b n t

  shell-name : (at : List ℕ) (s : Shell) → same at way ≡ true → IsShellOfWords (renamed_shell way name at s) → IsName name
  shell-name at s here h = (subst (λ z. IsShellOfWords (cond z (record s { name = name }) s)) here h).name

  plain-name : (at : List ℕ) (p : Plain) → same at way ≡ true → is_component (plain_item p) ≡ true → IsGoodPlain (renamed_plain whole way name at p) → IsName name
  plain-name at (named s t) here c g = shell-name at s here g.0.0.0
  plain-name at (own p v) here c g = absurd cc
  plain-name at (default p v) here c g = absurd cc
  plain-name at (dynamic t p v) here c g = absurd cc

  holder-name : (at : List ℕ) (h : Holder) → same at way ≡ true → IsGoodHolder (renamed_holder way name at h) → IsName name
  holder-name at (define n k) here g = subst (λ z. IsName (cond z name n)) here g.0
  holder-name at (anonymous s k) here g = shell-name at s here g.0

  -- the item of number k, if the way ends there
  number-name : (b : List ℕ) (n i k : ℕ) (t : Items) (x : Item) → n + i ≡ k → slice_get (list_of t) i ≡ Some x → is_component x ≡ true
      → same (b ++ k ∷ []) way ≡ true → IsGood (anew b n t) → IsName name
  number-name b n i k no_items x e f c here g = absurd cc
  number-name b n zero k (plain p rest) x e f c here g =
      let one : n ≡ k = omega (arith, e) in
      let is : plain_item p ≡ x = cc in
      plain-name (b ++ n ∷ []) p (ap (λ m. same (b ++ m ∷ []) way) one ∙ here) (ap is_component is ∙ c) g.0
  number-name b n zero k (holder h body rest) x e f c here g =
      let one : n ≡ k = omega (arith, e) in
      holder-name (b ++ n ∷ []) h (ap (λ m. same (b ++ m ∷ []) way) one ∙ here) g.0
  number-name b n (suc i) k (plain p rest) x e f c here g = number-name b (suc n) i k rest x (omega (arith, e)) f c here g.1
  number-name b n (suc i) k (holder h body rest) x e f c here g = number-name b (suc n) i k rest x (omega (arith, e)) f c here g.2

  inner-anew : (b : List ℕ) (n i k : ℕ) (t body : Items) → n + i ≡ k → inner i t ≡ Some body → IsGood (anew b n t) → IsGood (anew (b ++ k ∷ []) 0 body)
  inner-anew b n i k no_items body e f g = absurd cc
  inner-anew b n zero k (plain p rest) body e f g = absurd cc
  inner-anew b n zero k (holder h inside rest) body e f g =
      let one : n ≡ k = omega (arith, e) in
      let is : inside ≡ body = cc in
      subst (λ m. IsGood (anew (b ++ m ∷ []) 0 body)) one (subst (λ u. IsGood (anew (b ++ n ∷ []) 0 u)) is g.1)
  inner-anew b n (suc i) k (plain p rest) body e f g = inner-anew b (suc n) i k rest body (omega (arith, e)) f g.1
  inner-anew b n (suc i) k (holder h inside rest) body e f g = inner-anew b (suc n) i k rest body (omega (arith, e)) f g.2

  ends-there : (s : Segment) (t : Items) (b to : List ℕ) → walk (s ∷ []) (Some t) ≡ Ok to → b ++ to ≡ way → IsGood (anew b 0 t) → IsName name
  ends-there s t b to e is g = by (position (is_named s) (list_of t)) refl e
    where
      by : (o : Option ℕ) → position (is_named s) (list_of t) ≡ o → by_number o (λ i. walk [] (inner i t)) ≡ Ok to → IsName name
      by None f m = absurd cc
      by (Some i) f m =
          let one : i ∷ [] ≡ to = cc in
          let x = found-component s t i f in
          number-name b 0 i i t x.found (omega arith) x.there x.component ((bytes_eq-Decides (b ++ i ∷ []) way).1 (ap (λ (q : List ℕ). b ++ q) one ∙ is)) g

  -- the item on the way has the name
  walk-name : (s : Segment) (path : List Segment) (t : Items) (b to : List ℕ) → walk (s ∷ path) (Some t) ≡ Ok to → b ++ to ≡ way → IsGood (anew b 0 t) → IsName name
  walk-name s [] t b to e is g = ends-there s t b to e is g
  walk-name s (next ∷ path) t b to e is g = by-number (λ u c q. walk-name next path u c q) (position (is_named s) (list_of t)) e
    where
      by-rest : (i : ℕ) (u : Items) → inner i t ≡ Some u → (r : Result (List ℕ) PathFault) → walk (next ∷ path) (Some u) ≡ r → after_number i r ≡ Ok to
          → ((c q : List ℕ) → walk (next ∷ path) (Some u) ≡ Ok q → c ++ q ≡ way → IsGood (anew c 0 u) → IsName name) → IsName name
      by-rest i u f (Err fault) h m deeper = absurd cc
      by-rest i u f (Ok q) h m deeper =
          let one : i ∷ q ≡ to = cc in
          deeper (b ++ i ∷ []) q h (append_assoc b (i ∷ []) q ∙ ap (λ (p : List ℕ). b ++ p) one ∙ is) (inner-anew b 0 i i t u (omega arith) f g)

      by-inner : (i : ℕ) (o : Option Items) → inner i t ≡ o → after_number i (walk (next ∷ path) o) ≡ Ok to
          → ((u : Items) (c q : List ℕ) → walk (next ∷ path) (Some u) ≡ Ok q → c ++ q ≡ way → IsGood (anew c 0 u) → IsName name) → IsName name
      by-inner i None f m deeper = absurd cc
      by-inner i (Some u) f m deeper = by-rest i u f (walk (next ∷ path) (Some u)) refl m (deeper u)

      by-number : ((u : Items) (c q : List ℕ) → walk (next ∷ path) (Some u) ≡ Ok q → c ++ q ≡ way → IsGood (anew c 0 u) → IsName name)
          → (o : Option ℕ) → by_number o (λ i. walk (next ∷ path) (inner i t)) ≡ Ok to → IsName name
      by-number deeper None m = absurd cc
      by-number deeper (Some i) m = by-inner i (inner i t) refl m deeper

-- the root has no name
root-kept : (d new : Items) (name way : List ℕ) → find [] d ≡ Ok way → by_way (Ok way) d (Rename [] name) ≡ Ok new → ⊥
root-kept d new name way f m =
    let here : way ≡ [] = cc in
    let refused : by_way (Ok []) d (Rename [] name) ≡ Ok new = subst (λ w. by_way (Ok w) d (Rename [] name) ≡ Ok new) here m in
    cc

renamed-map : (d new : Items) (path : List Segment) (name way : List ℕ) → by_way (Ok way) d (Rename path name) ≡ Ok new → renamed_items d way name [] 0 d ≡ new
renamed-map d new path name way made = by (length way == 0) (is_taken d way name (item_at way d)) (is_reserved name) made
  where
    by : (root used reserved : Bool) → cond root (Err NotAnInstance) (cond used (Err NameTaken) (cond reserved (Err Reserved) (Ok (renamed_items d way name [] 0 d)))) ≡ Ok new
        → renamed_items d way name [] 0 d ≡ new
    by true u r m = absurd cc
    by false true r m = absurd cc
    by false false true m = absurd cc
    by false false false m = same-made (renamed_items d way name [] 0 d) new (Ok (renamed_items d way name [] 0 d)) refl m

renamed-name : (d new : Items) (path : List Segment) (name way : List ℕ) → find path d ≡ Ok way → by_way (Ok way) d (Rename path name) ≡ Ok new → IsGood new → IsName name
renamed-name d new [] name way f m g = absurd (root-kept d new name way f m)
renamed-name d new (s ∷ path) name way f m g = by (ltb 17 (length (s ∷ path))) f
  where
    by : (long : Bool) → cond long (Err NoSuchName) (walk (s ∷ path) (Some d)) ≡ Ok way → IsName name
    by true e = absurd cc
    by false e = walk-name d way name s path d [] way e refl (subst IsGood (sym (renamed-map d new (s ∷ path) name way m)) g)

-- ---- Every edit.

-- an edit of an item isn't one of the root
past-root : (root : Bool) (r : Result Items PatchRefusal) (new : Items) → cond root (Err NotAnInstance) r ≡ Ok new → r ≡ Ok new
past-root true r new m = absurd cc
past-root false r new m = m

new-shell : (d new : Items) (way : List ℕ) (change : Shell → Shell)
    → cond (length way == 0) (Err NotAnInstance) (at_body (holder_of way) d (reshaped change (number_of way))) ≡ Ok new → IsGood new → IsShaped change
new-shell d new way change m g =
    let inside = at_body (holder_of way) d (reshaped change (number_of way)) in
    in-body d new (holder_of way) (reshaped change (number_of way)) (IsShaped change) (past-root (length way == 0) inside new m) g (λ b c e h. shape-good change (number_of way) b c e h)

new-assignment : (d new : Items) (way : List ℕ) (s : Sort) (p : List ℕ) (v : Value) → at_body way d (λ b. Ok (set s p v b)) ≡ Ok new → IsGood new → IsGoodItem (assignment s p v)
new-assignment d new way s p v m g =
    in-body d new way (λ b. Ok (set s p v b)) (IsGoodItem (assignment s p v)) m g (λ b c e h. set-good s p v b (subst IsGood (sym (same-made (set s p v b) c (Ok (set s p v b)) refl e)) h))

stands : (d new : Items) (e : Edit) (way : List ℕ) → find (path_of e) d ≡ Ok way → by_way (Ok way) d e ≡ Ok new → IsGood new → IsEditOfWords e × IsEditSpellable e
stands d new (Add path place more) way f m g =
    let brought : IsGood more =
    in-body d new way (edited_body d 0 (Add path place more)) (IsGood more) m g (λ b c e h. added-good d more b c (place_number place (list_of b)) (list_all is_component (list_of more)) e h) in
    (of-words more brought, spellable more brought)
stands d new (Remove path) way f m g = (tt, tt)
stands d new (Rename path name) way f m g = (renamed-name d new path name way f m g, tt)
stands d new (Move path place) way f m g = (tt, tt)
stands d new (Resize path ns) way f m g = ((new-shell d new way (edited_shell (Resize path ns)) m g).1.dims, tt)
stands d new (SetBits path r) way f m g = ((new-shell d new way (edited_shell (SetBits path r)) m g).1.range, tt)
stands d new (SetAddress path n) way f m g = ((new-shell d new way (edited_shell (SetAddress path n)) m g).1.address, tt)
stands d new (SetStride path n) way f m g = ((new-shell d new way (edited_shell (SetStride path n)) m g).1.stride, tt)
stands d new (SetAlign path n) way f m g = ((new-shell d new way (edited_shell (SetAlign path n)) m g).1.align, tt)
stands d new (SetReset path n) way f m g = ((new-shell d new way (edited_shell (SetReset path n)) m g).1.reset, tt)
stands d new (SetOwn path p v) way f m g = ((new-assignment d new way sort.Own p v m g).0.0, tt)
stands d new (SetDefault path p v) way f m g = ((new-assignment d new way sort.Default p v m g).0.0, tt)
stands d new (ClearOwn path p) way f m g = (tt, tt)
stands d new (ClearDefault path p) way f m g = (tt, tt)
stands d new (Assign path t p v) way f m g =
    let x : IsGoodItem (Dynamic t p v) =
    in-body d new way (λ b. Ok (assigned t p v b)) (IsGoodItem (Dynamic t p v)) m g
    (λ b c e h. assigned-good t p v b (subst IsGood (sym (same-made (assigned t p v b) c (Ok (assigned t p v b)) refl e)) h)) in
    (x.0.0, tt)
stands d new (Unassign path t p) way f m g = (tt, tt)

edit-stands : (d new : Items) (e : Edit) → rewritten d e ≡ Ok new → IsWritable new → IsEditOfWords e × IsEditSpellable e
edit-stands d new e made to = by (find (path_of e) d) refl made
  where
    by : (r : Result (List ℕ) PathFault) → find (path_of e) d ≡ r → by_way r d e ≡ Ok new → IsEditOfWords e × IsEditSpellable e
    by (Err fault) f m = let refused : Err (refusal_of fault) ≡ Ok new = m in absurd cc
    by (Ok way) f m = stands d new e way f m (map-good new to)

-- ---- A step of the history.

pub step-brings : (old : State) (e : Edit) (new : State) → step old e ≡ Ok new → IsWritable new.description → IsEditOfWords e × IsEditSpellable e
step-brings old e new led to = edit-stands old.description new.description e (steps old e new led).made to

pub step-patches-between : (old : State) (e : Edit) (new : State) → step old e ≡ Ok new → IsWritable old.description → IsWritable new.description
    → All IsWritablePatch (patches old.description e) × All IsWritablePatch (inverses (patches old.description e) old.description)
step-patches-between old e new led from to =
    let brings = step-brings old e new led to in
    let both = step-patches old e new led from brings.0 brings.1 in
    (both.on, both.back)
