-- The patches of an edit on which no layout depends change nothing on which one does.
use Rattle.std.proofs.Common.{◌≡◌, ℕ, Bool, true, false, List, [], ◌∷◌, ◌++◌, length, get_or, Option, Some, None, Result, Ok, Err, refl, ap, sym, subst, ◌∙◌, arith, length-append}
use Rattle.std.specs.Prelude.{not, IsSomeAnd, slice_get}
use Rattle.std.specs.List.{position}
use Rattle.std.proofs.lemmas.List.Quantifiers.{position-Some}
use Rattle.std.proofs.lemmas.Option.{slice_get-get_or}
use Rattle.std.proofs.lemmas.Slice.Eq.{bytes_eq-Decides}
use Rattle.rdl_tree.specs.Items.{Items}
use Rattle.rdl_tree.specs.View.{list_of}
use Rattle.rdl_tree.specs.Address.{holder_of, number_of, body_at}
use Rattle.rdl_tree.specs.Find.{find}
use Rattle.rdl_tree.specs.ItemAt.{item_at}
use Rattle.rdl_tree.specs.declared.description.Item.{Item}
use Rattle.rdl_tree.specs.declared.description.Item.TheVariants.{Define, Instance, Own, Default, Dynamic}
use Rattle.rdl_tree.specs.declared.part.Part.TheVariants.{OfShell, OfValue}
use Rattle.rdl_tree.specs.declared.path.PathFault.{PathFault}
use Rattle.rdl_tree.specs.declared.shell.Shell.{Shell}
use Rattle.rdl_tree.specs.declared.value.Value.{Value}
use Rattle.rdl_tree.specs.declared.value.Value.TheVariants.{Number}
use Rattle.rdl_tree.proofs.Places.{holder-place, number-place, found_at}
use Rattle.rdl_rewrite.specs.Assignment.{assigns, assignment, is_sort, up_to_last}
use Rattle.rdl_rewrite.specs.Dynamics.{assigns_to}
use Rattle.rdl_rewrite.specs.Patches.{drop_at, set_or_insert, reshape, body_patches, patches_in, patches_on, patches}
use Rattle.rdl_rewrite.specs.Rewritten.{path_of}
use Rattle.rdl_rewrite.specs.declared.assignment.Sort.{Sort}
use Rattle.rdl_rewrite.specs.declared.assignment.Sort.TheVariants as sort
use Rattle.rdl_rewrite.specs.declared.edit.Edit.{Edit}
use Rattle.rdl_rewrite.specs.declared.edit.Edit.TheVariants.{Add, Remove, Rename, Move, Resize, SetBits, SetAddress, SetStride, SetAlign, SetReset, SetOwn, SetDefault, ClearOwn, ClearDefault, Assign, Unassign}
use Rattle.rdl_reach.specs.Quiet.{SaysTheSame}
use Rattle.rdl_reach.specs.EditedBodies.{lays_out}
use Rattle.rdl_edit.specs.Still.{is_still, IsStillPart, AreStill, is_still_edit}

-- the item of a body at an address
pub item-there : (way : List ℕ) (n : ℕ) (d b : Items) (x : Item) → body_at way d ≡ Some b → slice_get (list_of b) n ≡ Some x → item_at (way ++ n ∷ []) d ≡ Some x
item-there way n d b x held is =
    found_at (way ++ n ∷ []) d b x (omega (arith, length-append way (n ∷ []))) (ap (λ p. body_at p d) (holder-place way n) ∙ held)
    (ap (slice_get (list_of b)) (number-place way n) ∙ is)

-- what is found passes the test
pub record IsFound (test : Item → Bool) (xs : List Item) (n : ℕ) : Type 0 where
  pub item : Item
  pub there : slice_get xs n ≡ Some item
  pub passes : test item ≡ true

pub found : (test : Item → Bool) (xs : List Item) (n : ℕ) → position test xs ≡ Some n → IsFound test xs n
found test xs n e =
    let d : Item = Own [] (Number 0) in
    let h = position-Some test xs n d e in
    record { item = get_or xs n d; there = slice_get-get_or xs n d h.0; passes = h.1 }

-- an assignment of a property on which no layout depends
still-assigned : (s : Sort) (property : List ℕ) (x : Item) → lays_out property ≡ false → assigns s property x ≡ true → is_still x ≡ true
still-assigned sort.Own property (Own p v) h e = ap (λ q. not (lays_out q)) ((bytes_eq-Decides p property).0 e) ∙ ap not h
still-assigned sort.Own property (Define n c) h e = cc
still-assigned sort.Own property (Instance s o) h e = cc
still-assigned sort.Own property (Default p v) h e = cc
still-assigned sort.Own property (Dynamic t p v) h e = cc
still-assigned sort.Default property (Default p v) h e = ap (λ q. not (lays_out q)) ((bytes_eq-Decides p property).0 e) ∙ ap not h
still-assigned sort.Default property (Define n c) h e = cc
still-assigned sort.Default property (Instance s o) h e = cc
still-assigned sort.Default property (Own p v) h e = cc
still-assigned sort.Default property (Dynamic t p v) h e = cc

still-assignment : (s : Sort) (property : List ℕ) (v : Value) → lays_out property ≡ false → is_still (assignment s property v) ≡ true
still-assignment sort.Own property v h = ap not h
still-assignment sort.Default property v h = ap not h

still-to : (target : List (List ℕ)) (property : List ℕ) (x : Item) → assigns_to target property x ≡ true → is_still x ≡ true
still-to target property (Define n c) e = cc
still-to target property (Instance s o) e = cc
still-to target property (Own p v) e = cc
still-to target property (Default p v) e = cc
still-to target property (Dynamic t p v) e = refl

still-value : (v : Value) (x : Item) → is_still x ≡ true → IsStillPart (OfValue v) x
still-value v (Define n c) e = e
still-value v (Instance s o) e = e
still-value v (Own p w) e = e
still-value v (Default p w) e = e
still-value v (Dynamic t p w) e = e

pub some-and : {X : Type 0} (o : Option X) (x : X) (P : X → Type 0) → o ≡ Some x → P x → IsSomeAnd o P
some-and o x P e h = subst (λ o. IsSomeAnd o P) (sym e) h

module _ (d : Items) (way : List ℕ) (b : Items) (held : body_at way d ≡ Some b) where
  set-still : (test : Item → Bool) (v : Value) (n : ℕ) (x : Item) → ((y : Item) → test y ≡ true → is_still y ≡ true) → is_still x ≡ true → AreStill (set_or_insert way (position test (list_of b)) v n x) d
  set-still test v n x passes still = by (position test (list_of b)) refl
    where
      by : (o : Option ℕ) → position test (list_of b) ≡ o → AreStill (set_or_insert way o v n x) d
      by None e = (still, tt)
      by (Some k) e =
          let f = found test (list_of b) k e in
          (some-and (item_at (way ++ k ∷ []) d) f.item (IsStillPart (OfValue v)) (item-there way k d b f.item held f.there) (still-value v f.item (passes f.item f.passes)), tt)

  drop-still : (test : Item → Bool) → ((y : Item) → test y ≡ true → is_still y ≡ true) → AreStill (drop_at way (position test (list_of b))) d
  drop-still test passes = by (position test (list_of b)) refl
    where
      by : (o : Option ℕ) → position test (list_of b) ≡ o → AreStill (drop_at way o) d
      by None e = tt
      by (Some k) e =
          let f = found test (list_of b) k e in
          (some-and (item_at (way ++ k ∷ []) d) f.item (λ x. is_still x ≡ true) (item-there way k d b f.item held f.there) (passes f.item f.passes), tt)

  shell-still : (n : ℕ) (change : Shell → Shell) → ((s : Shell) → SaysTheSame s (change s)) → AreStill (reshape change (way ++ n ∷ []) (slice_get (list_of b) n)) d
  shell-still n change same = by (slice_get (list_of b) n) refl
    where
      by : (o : Option Item) → slice_get (list_of b) n ≡ o → AreStill (reshape change (way ++ n ∷ []) o) d
      by None e = tt
      by (Some (Define x c)) e = tt
      by (Some (Instance s o)) e = (some-and (item_at (way ++ n ∷ []) d) (Instance s o) (IsStillPart (OfShell (change s))) (item-there way n d b (Instance s o) held e) (same s), tt)
      by (Some (Own p v)) e = tt
      by (Some (Default p v)) e = tt
      by (Some (Dynamic t p v)) e = tt

  silent : (p : List ℕ) → not (lays_out p) ≡ true → lays_out p ≡ false
  silent p h = by (lays_out p) h
    where
      by : (b : Bool) → not b ≡ true → b ≡ false
      by true e = cc
      by false e = refl

  body-still : (n : ℕ) (e : Edit) → is_still_edit e ≡ true → AreStill (body_patches way n e b) d
  body-still n (Add path place new) h = cc
  body-still n (Remove path) h = cc
  body-still n (Rename path name) h = cc
  body-still n (Move path place) h = cc
  body-still n (Resize path new) h = cc
  body-still n (SetBits path new) h = cc
  body-still n (SetAddress path new) h = cc
  body-still n (SetStride path new) h = cc
  body-still n (SetAlign path new) h = cc
  body-still n (SetReset path new) h = shell-still n (λ s. record s { reset = new }) (λ s. record { dims = refl; range = refl; address = refl; stride = refl; align = refl })
  body-still n (SetOwn path p v) h =
      set-still (assigns sort.Own p) v (up_to_last (is_sort sort.Own) (list_of b)) (assignment sort.Own p v) (λ y. still-assigned sort.Own p y (silent p h)) (still-assignment sort.Own p v (silent p h))
  body-still n (SetDefault path p v) h =
      set-still (assigns sort.Default p) v (up_to_last (is_sort sort.Default) (list_of b)) (assignment sort.Default p v) (λ y. still-assigned sort.Default p y (silent p h))
      (still-assignment sort.Default p v (silent p h))
  body-still n (ClearOwn path p) h = drop-still (assigns sort.Own p) (λ y. still-assigned sort.Own p y (silent p h))
  body-still n (ClearDefault path p) h = drop-still (assigns sort.Default p) (λ y. still-assigned sort.Default p y (silent p h))
  body-still n (Assign path target p v) h = set-still (assigns_to target p) v (length (list_of b)) (Dynamic target p v) (still-to target p) refl
  body-still n (Unassign path target p) h = drop-still (assigns_to target p) (still-to target p)

in-still : (d : Items) (way : List ℕ) (n : ℕ) (e : Edit) → is_still_edit e ≡ true → AreStill (patches_in way n e (body_at way d)) d
in-still d way n e h = by (body_at way d) refl
  where
    by : (o : Option Items) → body_at way d ≡ o → AreStill (patches_in way n e o) d
    by None is = tt
    by (Some b) is = body-still d way b is n e h

on-still : (r : Result (List ℕ) PathFault) (d : Items) (e : Edit) → is_still_edit e ≡ true → AreStill (patches_on r d e) d
on-still (Err fault) d e h = tt
on-still (Ok way) d (Add path place new) h = cc
on-still (Ok way) d (Remove path) h = cc
on-still (Ok way) d (Rename path name) h = cc
on-still (Ok way) d (Move path place) h = cc
on-still (Ok way) d (Resize path new) h = cc
on-still (Ok way) d (SetBits path new) h = cc
on-still (Ok way) d (SetAddress path new) h = cc
on-still (Ok way) d (SetStride path new) h = cc
on-still (Ok way) d (SetAlign path new) h = cc
on-still (Ok way) d (SetReset path new) h = in-still d (holder_of way) (number_of way) (SetReset path new) h
on-still (Ok way) d (SetOwn path p v) h = in-still d way 0 (SetOwn path p v) h
on-still (Ok way) d (SetDefault path p v) h = in-still d way 0 (SetDefault path p v) h
on-still (Ok way) d (ClearOwn path p) h = in-still d way 0 (ClearOwn path p) h
on-still (Ok way) d (ClearDefault path p) h = in-still d way 0 (ClearDefault path p) h
on-still (Ok way) d (Assign path target p v) h = in-still d way 0 (Assign path target p v) h
on-still (Ok way) d (Unassign path target p) h = in-still d way 0 (Unassign path target p) h

pub still-edit : (d : Items) (e : Edit) → is_still_edit e ≡ true → AreStill (patches d e) d
still-edit d e h = on-still (find (path_of e) d) d e h
