-- What the fates in a removal leave is what stays, and those in a renaming what is renamed.
use Rattle.std.proofs.Common.{◌≡◌, ℕ, suc, Bool, true, false, cond, List, [], ◌∷◌, ◌++◌, Some, None, Option, refl, ap, sym, ◌∙◌}
use Rattle.std.proofs.lemmas.Slice.Eq.{bytes_eq-Decides}
use Rattle.std.specs.Prelude.{option_and_then}
use Rattle.rdl_tree.specs.ItemAt.{item_at}
use Rattle.rdl_tree.specs.Items.{Items, no_items, plain, holder, Plain, named, own, default, dynamic, Holder, define, anonymous}
use Rattle.rdl_tree.specs.View.{add, plain_item, holder_item}
use Rattle.rdl_tree.specs.Part.{has_part}
use Rattle.rdl_tree.specs.declared.description.Item.{Item}
use Rattle.rdl_tree.specs.declared.description.Item.TheVariants.{Define, Instance, Own, Default, Dynamic}
use Rattle.rdl_tree.specs.declared.description.Of.TheVariants.{Named, Anonymous}
use Rattle.rdl_tree.specs.declared.part.Part.{Part}
use Rattle.rdl_tree.specs.declared.part.Part.TheVariants.{OfShell, OfTarget, OfType, OfDefine}
use Rattle.rdl_tree.specs.declared.shell.Shell.{Shell}
use Rattle.rdl_tree.specs.declared.shell.Kind.{Kind}
use Rattle.rdl_tree.specs.declared.value.Value.{Value}
use Rattle.rdl_scope.specs.Types.{type_of, type_from}
use Rattle.rdl_scope.specs.Target.{through}
use Rattle.rdl_scope.specs.Walk.{is_definition}
use Rattle.rdl_rewrite.specs.Addresses.{same, leads_to, passes_by}
use Rattle.rdl_rewrite.specs.Fates.{given_if, fate_in_renaming, fate}
use Rattle.rdl_rewrite.specs.declared.fate.Fate.{Fate}
use Rattle.rdl_rewrite.specs.declared.fate.Fate.TheVariants.{Kept, Dropped, Given}
use Rattle.rdl_rewrite.specs.Removal.{goes, staying}
use Rattle.rdl_rewrite.specs.Renaming.{renamed_items, renamed_plain, renamed_holder, renamed_target}
use Rattle.rdl_rewrite.proofs.Fated.{left_by, fated, Apt}
use Rattle.rdl_rewrite.proofs.Found.{unled-name}
use Rattle.rdl_rewrite.proofs.Renamed.{target-kept}

add-plain : (p : Plain) (rest : Items) → add (plain_item p) rest ≡ plain p rest
add-plain (named s t) rest = refl
add-plain (own p v) rest = refl
add-plain (default p v) rest = refl
add-plain (dynamic t p v) rest = refl

add-holder : (h : Holder) (body rest : Items) → add (holder_item h body) rest ≡ holder h body rest
add-holder (define n k) body rest = refl
add-holder (anonymous s k) body rest = refl

-- ---- In a removal.

plain-stays : (o : Bool) (p : Plain) (rest : Items) → cond o rest (plain p rest) ≡ left_by (cond o Dropped Kept) (plain_item p) rest
plain-stays true p rest = refl
plain-stays false p rest = sym (add-plain p rest)

holder-stays : (o : Bool) (h : Holder) (body rest : Items) → cond o rest (holder h body rest) ≡ left_by (cond o Dropped Kept) (holder_item h body) rest
holder-stays true h body rest = refl
holder-stays false h body rest = sym (add-holder h body rest)

pub staying-fated : (whole : Items) (way b : List ℕ) (n : ℕ) (t : Items) → staying (goes whole way) b n t ≡ fated (fate whole way None) b n t
staying-fated whole way b n no_items = refl
staying-fated whole way b n (plain p rest) =
    ap (λ r. cond (goes whole way (b ++ n ∷ [])) r (plain p r)) (staying-fated whole way b (suc n) rest)
    ∙ plain-stays (goes whole way (b ++ n ∷ [])) p (fated (fate whole way None) b (suc n) rest)
staying-fated whole way b n (holder h body rest) =
    ap (λ r. cond (goes whole way (b ++ n ∷ [])) r (holder h (staying (goes whole way) (b ++ n ∷ []) 0 body) r)) (staying-fated whole way b (suc n) rest)
    ∙ ap (λ k. cond (goes whole way (b ++ n ∷ [])) (fated (fate whole way None) b (suc n) rest) (holder h k (fated (fate whole way None) b (suc n) rest))) (staying-fated whole way (b ++ n ∷ []) 0 body)
    ∙ holder-stays (goes whole way (b ++ n ∷ [])) h (fated (fate whole way None) (b ++ n ∷ []) 0 body) (fated (fate whole way None) b (suc n) rest)

apt-if : (o : Bool) (x : Item) (part : Part) → cond o Dropped Kept ≡ Given part → has_part part x ≡ true
apt-if true x part e = cc
apt-if false x part e = cc

pub apt_removal : (whole : Items) (way : List ℕ) → Apt (fate whole way None)
apt_removal whole way at x part e = apt-if (goes whole way at) x part e

-- ---- In a renaming.

-- no item is its own type
unled-self : (whole : Items) (way : List ℕ) → leads_to way (type_of whole way) ≡ false
unled-self whole way = by_case (item_at way whole) refl
  where
    by_case : (o : Option Item) → item_at way whole ≡ o → leads_to way (option_and_then (type_from whole way) o) ≡ false
    by_case None e = refl
    by_case (Some (Define n c)) e = refl
    by_case (Some (Instance s (Named t))) e = unled-name whole way way t (ap (is_definition t) e)
    by_case (Some (Instance s (Anonymous c))) e = refl
    by_case (Some (Own p v)) e = refl
    by_case (Some (Default p v)) e = refl
    by_case (Some (Dynamic t p v)) e = refl

unled-same : (whole : Items) (way at : List ℕ) → same at way ≡ true → leads_to way (type_of whole at) ≡ false
unled-same whole way at e = ap (λ a. leads_to way (type_of whole a)) ((bytes_eq-Decides at way).0 e) ∙ unled-self whole way

named-left : (o l : Bool) (s : Shell) (t name : List ℕ) (rest : Items) → (o ≡ true → l ≡ false)
    → plain (named (cond o (record s { name = name }) s) (cond l name t)) rest ≡ left_by (cond o (Given (OfShell (record s { name = name }))) (given_if l (OfType name))) (Instance s (Named t)) rest
named-left true true s t name rest h = let never : true ≡ false = h refl in cc
named-left true false s t name rest h = refl
named-left false true s t name rest h = refl
named-left false false s t name rest h = refl

dynamic-left : (way name : List ℕ) (o : Option (List (List ℕ))) (b : Bool) (t : List (List ℕ)) (p : List ℕ) (v : Value) (rest : Items) → passes_by way o ≡ b
    → plain (dynamic (renamed_target way name o t) p v) rest ≡ left_by (given_if b (OfTarget (renamed_target way name o t))) (Dynamic t p v) rest
dynamic-left way name o true t p v rest e = refl
dynamic-left way name o false t p v rest e = ap (λ m. plain (dynamic m p v) rest) (target-kept way name o t e)

plain-left : (whole : Items) (way name at : List ℕ) (p : Plain) (rest : Items)
    → plain (renamed_plain whole way name at p) rest ≡ left_by (fate_in_renaming whole way name at (plain_item p)) (plain_item p) rest
plain-left whole way name at (named s t) rest = named-left (same at way) (leads_to way (type_of whole at)) s t name rest (unled-same whole way at)
plain-left whole way name at (own p v) rest = refl
plain-left whole way name at (default p v) rest = refl
plain-left whole way name at (dynamic t p v) rest = dynamic-left way name (through whole at) (passes_by way (through whole at)) t p v rest refl

define-left : (o : Bool) (n name : List ℕ) (k : Kind) (body rest : Items)
    → holder (define (cond o name n) k) body rest ≡ left_by (given_if o (OfDefine name)) (holder_item (define n k) body) rest
define-left true n name k body rest = refl
define-left false n name k body rest = refl

anonymous-left : (o : Bool) (s : Shell) (name : List ℕ) (k : Kind) (body rest : Items)
    → holder (anonymous (cond o (record s { name = name }) s) k) body rest ≡ left_by (cond o (Given (OfShell (record s { name = name }))) Kept) (holder_item (anonymous s k) body) rest
anonymous-left true s name k body rest = refl
anonymous-left false s name k body rest = refl

holder-left : (whole : Items) (way name at : List ℕ) (h : Holder) (old body rest : Items)
    → holder (renamed_holder way name at h) body rest ≡ left_by (fate_in_renaming whole way name at (holder_item h old)) (holder_item h body) rest
holder-left whole way name at (define n k) old body rest = define-left (same at way) n name k body rest
holder-left whole way name at (anonymous s k) old body rest = anonymous-left (same at way) s name k body rest

pub renamed-fated : (whole : Items) (way name b : List ℕ) (n : ℕ) (t : Items) → renamed_items whole way name b n t ≡ fated (fate whole way (Some name)) b n t
renamed-fated whole way name b n no_items = refl
renamed-fated whole way name b n (plain p rest) =
    ap (plain (renamed_plain whole way name (b ++ n ∷ []) p)) (renamed-fated whole way name b (suc n) rest)
    ∙ plain-left whole way name (b ++ n ∷ []) p (fated (fate whole way (Some name)) b (suc n) rest)
renamed-fated whole way name b n (holder h body rest) =
    ap (holder (renamed_holder way name (b ++ n ∷ []) h) (renamed_items whole way name (b ++ n ∷ []) 0 body)) (renamed-fated whole way name b (suc n) rest)
    ∙ ap (λ k. holder (renamed_holder way name (b ++ n ∷ []) h) k (fated (fate whole way (Some name)) b (suc n) rest)) (renamed-fated whole way name (b ++ n ∷ []) 0 body)
    ∙ holder-left whole way name (b ++ n ∷ []) h body (fated (fate whole way (Some name)) (b ++ n ∷ []) 0 body) (fated (fate whole way (Some name)) b (suc n) rest)

-- what is given is of a sort that the item has
given-if-true : (o : Bool) (made part : Part) (x : Item) → has_part made x ≡ true → given_if o made ≡ Given part → has_part part x ≡ true
given-if-true true made part x has e = let same_part : made ≡ part = cc in ap (λ q. has_part q x) (sym same_part) ∙ has
given-if-true false made part x has e = cc

given-or : (o : Bool) (made part : Part) (other : Fate) (x : Item) → has_part made x ≡ true → (other ≡ Given part → has_part part x ≡ true) → cond o (Given made) other ≡ Given part → has_part part x ≡ true
given-or true made part other x has h e = let same_part : made ≡ part = cc in ap (λ q. has_part q x) (sym same_part) ∙ has
given-or false made part other x has h e = h e

pub apt_renaming : (whole : Items) (way name : List ℕ) → Apt (fate whole way (Some name))
apt_renaming whole way name at (Define n c) part e = given-if-true (same at way) (OfDefine name) part (Define n c) refl e
apt_renaming whole way name at (Instance s (Named t)) part e =
    given-or (same at way) (OfShell (record s { name = name })) part _ (Instance s (Named t)) refl (given-if-true (leads_to way (type_of whole at)) (OfType name) part (Instance s (Named t)) refl) e
apt_renaming whole way name at (Instance s (Anonymous c)) part e =
    given-or (same at way) (OfShell (record s { name = name })) part Kept (Instance s (Anonymous c)) refl (λ h. let never : Kept ≡ Given part = h in cc) e
apt_renaming whole way name at (Own p v) part e = cc
apt_renaming whole way name at (Default p v) part e = cc
apt_renaming whole way name at (Dynamic t p v) part e =
    given-if-true (passes_by way (through whole at)) (OfTarget (renamed_target way name (through whole at) t)) part (Dynamic t p v) refl e
