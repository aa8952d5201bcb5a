-- Rows are found under their paths.
use Rattle.std.proofs.Common.{◌≡◌, ℕ, Bool, true, false, cond, List, [], ◌∷◌, Option, Some, option_map, refl, sym, ap, ◌∙◌, nat_eq, if◌then◌else◌}
use Rattle.std.specs.Prelude.{◌&&◌}
use Rattle.std.specs.Bool.{Decides}
use Rattle.std.specs.Cmp.Lexicographic.{pointwise}
use Rattle.std.specs.Map.{lookup}
use Rattle.std.proofs.lemmas.Slice.Eq.{slice_eq-Decides, bytes_eq-Decides}
use denote.Ref.{Bor}
use Rattle.indexmap.specs.IndexMap.{get_by, insert_entry}
use Rattle.rdl_elab.specs.declared.row.Row.{Row}
use Rattle.rdl_diff.specs.ByPath.{Key, texts, is_key, row_under}
use Rattle.rdl_diff.specs.Paths.{same_path}
use Rattle.rdl_diff.specs.declared.by_path.ByPath.{ByPath}

-- paths are the same where the test says so
pub same_path-Decides : (p q : List (List ℕ)) → Decides (same_path p q) (p ≡ q)
same_path-Decides p q = slice_eq-Decides bytes_eq-Decides p q (same_path p q) refl

-- the equality of keys, as the code has it
abbrev pub names_eq : (a b : List (Bor (List ℕ))) → Bool
names_eq a b = pointwise (λ x y. pointwise nat_eq x.now y.now) a b

abbrev pub key_eq : Key → Key → Bool
key_eq a b = names_eq a.items b.items

pub names_eq-texts : (a b : List (Bor (List ℕ))) → names_eq a b ≡ same_path (texts a) (texts b)
names_eq-texts [] [] = refl
names_eq-texts [] (y ∷ b) = refl
names_eq-texts (x ∷ a) [] = refl
names_eq-texts (x ∷ a) (y ∷ b) = ap (λ t. pointwise nat_eq x.now y.now && t) (names_eq-texts a b)

-- what is found under names is what stands under their texts
pub got : (m : ByPath) (names : List (Bor (List ℕ))) (found : Option (Bor Row)) → found ≡ get_by (λ (k : Key). names_eq names k.items) m.rows → option_map (λ (r : Bor Row). r.now) found ≡ row_under m (texts names)
got m names found e =
    ap (option_map (λ (r : Bor Row). r.now)) (e ∙ ap (λ (test : Key → Bool). get_by test m.rows) (λ i (k : Key). names_eq-texts names k.items i))

-- where one key takes the place of another, or stands beside it
chosen : {X : Type 0} (a m n : Bool) (x y z : X) → (a ≡ true → m ≡ n) → (m ≡ true → n ≡ true → a ≡ true) → cond a (cond n x z) (cond n y (cond m x z)) ≡ cond m x (cond n y z)
chosen true true true x y z h g = refl
chosen true true false x y z h g = let e : true ≡ false = h refl in cc
chosen true false true x y z h g = let e : false ≡ true = h refl in cc
chosen true false false x y z h g = refl
chosen false true true x y z h g = let e : false ≡ true = g refl refl in cc
chosen false true false x y z h g = refl
chosen false false true x y z h g = refl
chosen false false false x y z h g = refl

-- a key that comes is found first by a test that doesn't tell equal keys apart, and takes equal ones alone
pub inserted-by : {K V : Type 0} (eq : K → K → Bool) (is : K → Bool) → ((k q : K) → eq k q ≡ true → is k ≡ is q) → ((k q : K) → is k ≡ true → is q ≡ true → eq k q ≡ true)
    → (es : List (K × V)) (k : K) (v : V) → lookup is (insert_entry eq es k v) ≡ cond (is k) (Some v) (lookup is es)
inserted-by eq is same both [] k v = refl
inserted-by {K} {V} eq is same both (e ∷ es) k v =
    let found = lookup is es in
    first (eq k e.0) e es k v
    ∙ ap (λ r. cond (eq k e.0) (cond (is e.0) (Some v) found) (cond (is e.0) (Some e.1) r)) (inserted-by eq is same both es k v)
    ∙ chosen (eq k e.0) (is k) (is e.0) (Some v) (Some e.1) found (same k e.0) (both k e.0)
  where
    first : (a : Bool) (e : K × V) (es : List (K × V)) (k : K) (v : V)
        → lookup is (if a then (e.0, v) ∷ es else e ∷ insert_entry eq es k v) ≡ cond a (cond (is e.0) (Some v) (lookup is es)) (cond (is e.0) (Some e.1) (lookup is (insert_entry eq es k v)))
    first true e es k v = refl
    first false e es k v = refl

module _ (p : List (List ℕ)) where
  same : (k q : Key) → key_eq k q ≡ true → is_key p k ≡ is_key p q
  same k q e = ap (same_path p) ((same_path-Decides (texts k.items) (texts q.items)).0 (sym (names_eq-texts k.items q.items) ∙ e))

  both : (k q : Key) → is_key p k ≡ true → is_key p q ≡ true → key_eq k q ≡ true
  both k q e f =
      let one = (same_path-Decides p (texts k.items)).0 e in
      let other = (same_path-Decides p (texts q.items)).0 f in
      names_eq-texts k.items q.items ∙ (same_path-Decides (texts k.items) (texts q.items)).1 (sym one ∙ other)

  pub inserted : {V : Type 0} (es : List (Key × V)) (k : Key) (v : V) → lookup (is_key p) (insert_entry key_eq es k v) ≡ cond (is_key p k) (Some v) (lookup (is_key p) es)
  inserted es k v = inserted-by key_eq (is_key p) same both es k v
