-- Two names, of which the second stands for the item on the way; and the names that may not.
use Rattle.std.proofs.Common.{◌≡◌, ◌<◌, ◌≤◌, ◌+◌, ◌-◌, arith, get_or, ℕ, zero, suc, Bool, true, false, cond, ◌||◌, ◌&&◌, List, [], ◌∷◌, ◌++◌, length, take, Some, None, Option, refl, ap, sym, ◌∙◌, option_map, nat_eq, eq-eqb, true≢false}
use Rattle.std.proofs.lemmas.Bool.{and_parts}
use Rattle.std.proofs.lemmas.List.{take_all, take_more}
use Rattle.std.proofs.lemmas.Bool.Decides.{Decides-eqb}
use Rattle.std.proofs.lemmas.Option.{slice_get_within}
use Rattle.std.proofs.lemmas.Slice.Eq.{bytes_eq-Decides}
use Rattle.std.specs.Prelude.{option_and_then, bytes_eq}
use Rattle.std.specs.List.{list_any}
use Rattle.rdl_tree.specs.ItemAt.{item_at}
use Rattle.rdl_tree.specs.Items.{Items, no_items, plain, holder, named, own, default, dynamic, define, anonymous}
use Rattle.rdl_tree.specs.View.{add, list_of}
use Rattle.rdl_tree.specs.Address.{body_at, holder_of, number_of}
use Rattle.rdl_tree.specs.declared.value.Value.{Value}
use Rattle.rdl_tree.specs.declared.description.Item.{Item}
use Rattle.rdl_tree.specs.declared.description.Item.TheVariants.{Dynamic}
use Rattle.rdl_tree.specs.declared.part.Part.TheVariants.{OfTarget}
use Rattle.rdl_tree.proofs.Places.{Stands, stands, place-whole}
use Rattle.rdl_scope.specs.Types.{component_of, items_in}
use Rattle.rdl_scope.specs.Target.{instance_before, instance_in, passes, through}
use Rattle.rdl_scope.specs.Walk.{is_instance}
use Rattle.rdl_scope.proofs.Instances.{instance-found}
use Rattle.rdl_rewrite.specs.Addresses.{same, passes_by}
use Rattle.rdl_rewrite.specs.Fates.{given_if, fate_of_target, fate, item_patches, fate_patches}
use Rattle.rdl_rewrite.specs.Firsts.{first_under, AreFirsts}
use Rattle.rdl_rewrite.specs.Passed.{may_pass, if_passed, IsBefore}
use Rattle.rdl_rewrite.specs.Removal.{goes}
use Rattle.rdl_rewrite.specs.Renaming.{renamed_names, renamed_target}
use Rattle.rdl_rewrite.specs.declared.fate.Fate.TheVariants.{Kept, Dropped, Given}
use Rattle.rdl_rewrite.specs.declared.firsts.Firsts.{Firsts}
use Rattle.rdl_rewrite.proofs.FirstInstances.{first_some}
use Rattle.rdl_rewrite.proofs.Found.{leads-some, through-inside, unpassed-names}
use Rattle.rdl_rewrite.proofs.Leading.{holder-inside, number-inside}

-- ---- Where a way ends.

same-itself : (at : List ℕ) → same at at ≡ true
same-itself at = (bytes_eq-Decides at at).1 refl

-- an address of a body and a number, and the way
pub ends : (b body way : List ℕ) (n last : ℕ) → way ≡ body ++ last ∷ [] → (nat_eq last n && bytes_eq body b) ≡ same (b ++ n ∷ []) way
ends b body way n last e = by_case (nat_eq last n && bytes_eq body b) refl (same (b ++ n ∷ []) way) refl
  where
    by_case : (x : Bool) → (nat_eq last n && bytes_eq body b) ≡ x → (y : Bool) → same (b ++ n ∷ []) way ≡ y → x ≡ y
    by_case true f true g = refl
    by_case false f false g = refl
    by_case true f false g =
        let both = and_parts (nat_eq last n) (bytes_eq body b) f in
        let one : b ++ n ∷ [] ≡ way = ap (λ c. c ++ n ∷ []) (sym ((bytes_eq-Decides body b).0 both.1)) ∙ ap (λ k. body ++ k ∷ []) (sym ((Decides-eqb last n).0 both.0)) ∙ sym e in
        absurd (true≢false (sym ((bytes_eq-Decides (b ++ n ∷ []) way).1 one) ∙ g))
    by_case false f true g =
        let one : b ++ n ∷ [] ≡ body ++ last ∷ [] = (bytes_eq-Decides (b ++ n ∷ []) way).0 g ∙ e in
        let bodies : body ≡ b = sym (holder-inside body last) ∙ ap holder_of (sym one) ∙ holder-inside b n in
        let numbers : last ≡ n = sym (number-inside body last) ∙ ap number_of (sym one) ∙ number-inside b n in
        absurd (true≢false (sym (ap (λ x. x && bytes_eq body b) (eq-eqb last n numbers) ∙ (bytes_eq-Decides body b).1 bodies) ∙ f))

pub ends_none : (b way : List ℕ) (n : ℕ) → way ≡ [] → false ≡ same (b ++ n ∷ []) way
ends_none [] way n e = sym (ap (same (n ∷ [])) e)
ends_none (k ∷ b) way n e = sym (ap (same (k ∷ b ++ n ∷ [])) e)

pub ruleset ending = (ends_none)

-- an address, and its last number
pub split : (xs : List ℕ) → 1 ≤ length xs → xs ≡ take (length xs - 1) xs ++ get_or xs (length xs - 1) 0 ∷ []
split xs l =
    let all : length xs ≤ (length xs - 1) + 1 = omega (arith, l) in
    let within : length xs - 1 < length xs = omega (arith, l) in
    sym (take_all ((length xs - 1) + 1) xs all) ∙ take_more xs (length xs - 1) 0 within

-- ---- The first instance of a name.

none-before : (name : List ℕ) (k : ℕ) (t : Items) → list_any (λ x. is_instance name (Some x)) (take k (list_of t)) ≡ false → instance_before name k t ≡ None
none-before name zero t e = refl
none-before name (suc k) no_items e = refl
none-before name (suc k) (plain (named s m) rest) e = by_case (λ g. none-before name k rest g) (bytes_eq s.name name) e
  where
    by_case : (list_any (λ x. is_instance name (Some x)) (take k (list_of rest)) ≡ false → instance_before name k rest ≡ None) → (b : Bool)
        → (b || list_any (λ x. is_instance name (Some x)) (take k (list_of rest))) ≡ false → cond b (Some 0) (option_map suc (instance_before name k rest)) ≡ None
    by_case ih true g = cc
    by_case ih false g = ap (option_map suc) (ih g)
none-before name (suc k) (plain (own p v) rest) e = ap (option_map suc) (none-before name k rest e)
none-before name (suc k) (plain (default p v) rest) e = ap (option_map suc) (none-before name k rest e)
none-before name (suc k) (plain (dynamic m p v) rest) e = ap (option_map suc) (none-before name k rest e)
none-before name (suc k) (holder (define m c) body rest) e = ap (option_map suc) (none-before name k rest e)
none-before name (suc k) (holder (anonymous s c) body rest) e = by_case (λ g. none-before name k rest g) (bytes_eq s.name name) e
  where
    by_case : (list_any (λ x. is_instance name (Some x)) (take k (list_of rest)) ≡ false → instance_before name k rest ≡ None) → (b : Bool)
        → (b || list_any (λ x. is_instance name (Some x)) (take k (list_of rest))) ≡ false → cond b (Some 0) (option_map suc (instance_before name k rest)) ≡ None
    by_case ih true g = cc
    by_case ih false g = ap (option_map suc) (ih g)

-- the item on the way is one of the name, and none before it in its body is
pub first_there : (d : Items) (way : List ℕ) (before : List Item) (name : List ℕ) → ((body : Items) → body_at (holder_of way) d ≡ Some body → before ≡ take (number_of way) (list_of body))
    → is_instance name (item_at way d) ≡ true → list_any (λ x. is_instance name (Some x)) before ≡ false → instance_in d (holder_of way) (items_in (holder_of way) d) name ≡ Some way
first_there d way before name are is none = by_item (item_at way d) refl is
  where
    there : (x : Item) → Stands way d x → is_instance name (Some x) ≡ true → instance_in d (holder_of way) (items_in (holder_of way) d) name ≡ Some way
    there x s has =
        let t = s.body in
        let k = number_of way in
        let unnamed : instance_before name k t ≡ None = none-before name k t (ap (list_any (λ y. is_instance name (Some y))) (sym (are t s.held)) ∙ none) in
        let found : instance_before name (length (list_of t)) t ≡ Some k =
        instance-found name k (length (list_of t)) t (slice_get_within (list_of t) k x s.found) unnamed (ap (is_instance name) s.found ∙ has) in
        ap (λ o. option_map (λ j. holder_of way ++ j ∷ []) (option_and_then (instance_before name (elim o [ None ↦ 0 | Some u ↦ length (list_of u) ])) o)) s.held
        ∙ ap (option_map (λ j. holder_of way ++ j ∷ [])) found ∙ ap Some (place-whole way s.within)

    by_item : (o : Option Item) → item_at way d ≡ o → is_instance name o ≡ true → instance_in d (holder_of way) (items_in (holder_of way) d) name ≡ Some way
    by_item None e has = cc
    by_item (Some x) e has = there x (stands way d x e) has

-- ---- Two names.

pub two-names : (names : List (List ℕ)) (x y : List ℕ) → 2 ≤ length names → length names < 3 → x ≡ get_or names 0 x → y ≡ get_or names 1 y → names ≡ x ∷ y ∷ []
two-names [] x y l h e f = absurd (omega (arith, l))
two-names (a ∷ []) x y l h e f = absurd (omega (arith, l))
two-names (a ∷ b ∷ []) x y l h e f = λ i. sym e i ∷ sym f i ∷ []
two-names (a ∷ b ∷ c ∷ names) x y l h e f = absurd (omega (arith, h))

two-passed : (d : Items) (way b : List ℕ) (n k : ℕ) (first second : List ℕ) → instance_in d b n first ≡ Some (b ++ k ∷ []) → component_of d (b ++ k ∷ []) ≡ Some (holder_of way)
    → instance_in d (holder_of way) (items_in (holder_of way) d) second ≡ Some way → passes d b n (first ∷ second ∷ []) ≡ Some ((b ++ k ∷ []) ∷ way ∷ [])
two-passed d way b n k first second e f g =
    ap (option_and_then (λ a. option_map (λ more. a ∷ more) (option_and_then (λ c. passes d c (items_in c d) (second ∷ [])) (component_of d a)))) e
    ∙ ap (λ o. option_map (λ more. (b ++ k ∷ []) ∷ more) (option_and_then (λ c. passes d c (items_in c d) (second ∷ [])) o)) f
    ∙ ap (λ o. option_map (λ more. (b ++ k ∷ []) ∷ more) (option_map (λ a. a ∷ []) o)) g

pub is_before : (d : Items) (way b : List ℕ) (n k : ℕ) (firsts : Firsts) (inside : Bool) (first second : List ℕ) (names : List (List ℕ)) → AreFirsts d (holder_of way) b n firsts → first_under firsts first ≡ Some (k, inside)
    → inside ≡ true → same (b ++ k ∷ []) way ≡ false → instance_in d (holder_of way) (items_in (holder_of way) d) second ≡ Some way → names ≡ first ∷ second ∷ [] → IsBefore d way b n first names
is_before d way b n k firsts inside first second names are got within other last e =
    let here = first_some d (holder_of way) b n firsts first k inside are got in
    record {
      second = second;
      instance = b ++ k ∷ [];
      two = e;
      apart = other;
      path = ap (passes d b n) e ∙ two-passed d way b n k first second here.0 (leads-some (holder_of way) (component_of d (b ++ k ∷ [])) (sym here.1 ∙ within)) last;
    }

pub before_passes : (d : Items) (way b : List ℕ) (n : ℕ) (first : List ℕ) (names : List (List ℕ)) → IsBefore d way b n first names → true ≡ passes_by way (passes d b n names)
before_passes d way b n first names is =
    sym (ap (passes_by way) is.path ∙ ap (λ x. x || (same way way || false)) is.apart ∙ ap (λ x. x || false) (same-itself way))

pub before_renamed : (d : Items) (way b : List ℕ) (n : ℕ) (first : List ℕ) (names : List (List ℕ)) (name : List ℕ) → IsBefore d way b n first names
    → Given (OfTarget (first ∷ name ∷ [])) ≡ fate_of_target way name names (if_passed way (passes d b n names))
before_renamed d way b n first names name is =
    sym (ap (λ x. fate_of_target way name names (cond x (passes d b n names) None)) (sym (before_passes d way b n first names is))
    ∙ ap (fate_of_target way name names) is.path ∙ ap (λ ns. Given (OfTarget (renamed_names way name (is.instance ∷ way ∷ []) ns))) is.two
    ∙ ap (λ x. Given (OfTarget (cond x name first ∷ cond (same way way) name is.second ∷ []))) is.apart
    ∙ ap (λ x. Given (OfTarget (first ∷ cond x name is.second ∷ []))) (same-itself way))

-- an assignment that isn't itself on the way goes where it passes that
pub goes_by : (d : Items) (way b : List ℕ) (n : ℕ) (x : Item) (t : List (List ℕ)) (p : List ℕ) (v : Value) → item_at (b ++ n ∷ []) d ≡ Some x → x ≡ Dynamic t p v → same (b ++ n ∷ []) way ≡ false
    → passes_by way (passes d b n t) ≡ goes d way (b ++ n ∷ [])
goes_by d way b n x t p v here e off = ap (passes_by way) (sym (through-inside d b n x t p v here e)) ∙ sym (ap (λ c. c || passes_by way (through d (b ++ n ∷ []))) off)

-- ---- An assignment whose names can't pass the item on the way.

pub nothing_passed : (d : Items) (way : List ℕ) (name : Option (List ℕ)) (b : List ℕ) (n : ℕ) (x : Item) (t : List (List ℕ)) (p : List ℕ) (v : Value) → x ≡ Dynamic t p v → item_at (b ++ n ∷ []) d ≡ Some x
    → same (b ++ n ∷ []) way ≡ false → may_pass (item_at way d) (item_at (holder_of way) d) true t ≡ false → fate_patches (fate d way name) b n (add x no_items) ≡ []
nothing_passed d way name b n x t p v e here off none = ap (λ y. fate_patches (fate d way name) b n (add y no_items)) e ∙ kept name
  where
    at : List ℕ
    at = b ++ n ∷ []

    passes-none : passes_by way (through d at) ≡ false
    passes-none = ap (passes_by way) (through-inside d b n x t p v here e) ∙ unpassed-names d way b n true t (λ _. refl) none

    kept : (m : Option (List ℕ)) → item_patches at (fate d way m at (Dynamic t p v)) [] ≡ []
    kept None = ap (λ c. item_patches at (cond (c || passes_by way (through d at)) Dropped Kept) []) off ∙ ap (λ c. item_patches at (cond c Dropped Kept) []) passes-none
    kept (Some m) = ap (λ c. item_patches at (given_if c (OfTarget (renamed_target way m (through d at) t))) []) passes-none
