-- The dynamic assignments that repeat an earlier one are those with an earlier one's key.
use Rattle.std.proofs.Common.{◌≡◌, ℕ, zero, suc, Bool, true, false, List, [], ◌∷◌, Some, refl, ap, ◌∙◌}
use Rattle.std.specs.Prelude.{◌||◌, ◌&&◌, not, slice_get, bytes_eq}
use Rattle.std.specs.Cmp.Lexicographic.{pointwise, bytes_decides}
use Rattle.rdl_tree.specs.Items.{Items, no_items, plain, holder, named, own, default, dynamic, define, anonymous}
use Rattle.rdl_tree.specs.View.{list_of}
use Rattle.rdl_tree.specs.declared.description.Item.{Item}
use Rattle.rdl_scope.specs.ItemFaults.{reached_before}
use Rattle.rdl_scope.specs.Keys.{has_key, key_before}

pub not-not : (b : Bool) → not (not b) ≡ b
not-not true = refl
not-not false = refl

-- names that pass for the same are the same
pub texts-same : (x y : List (List ℕ)) → pointwise bytes_eq x y ≡ true → x ≡ y
texts-same [] [] h = refl
texts-same [] (b ∷ y) h = absurd cc
texts-same (a ∷ x) [] h = absurd cc
texts-same (a ∷ x) (b ∷ y) h = by (bytes_eq a b) refl h (λ g. texts-same x y g)
  where
    by : (t : Bool) → bytes_eq a b ≡ t → t && pointwise bytes_eq x y ≡ true → (pointwise bytes_eq x y ≡ true → x ≡ y) → a ∷ x ≡ b ∷ y
    by true e g rest = ap (λ z. z ∷ x) ((bytes_decides a b).0 e) ∙ ap (λ zs. b ∷ zs) (rest g)
    by false e g rest = absurd cc

pub dynamic-key : (target : List (List ℕ)) (name : List ℕ) (n : ℕ) (t : Items) → key_before (name ∷ target) n (list_of t) ≡ reached_before target name n t
dynamic-key target name zero t = refl
dynamic-key target name (suc n) no_items = refl
dynamic-key target name (suc n) (plain (named s u) rest) = dynamic-key target name n rest
dynamic-key target name (suc n) (plain (own p v) rest) = dynamic-key target name n rest
dynamic-key target name (suc n) (plain (default p v) rest) = dynamic-key target name n rest
dynamic-key target name (suc n) (plain (dynamic u p v) rest) = ap (λ b. (bytes_eq p name && pointwise bytes_eq u target) || b) (dynamic-key target name n rest)
dynamic-key target name (suc n) (holder (define m k) body rest) = dynamic-key target name n rest
dynamic-key target name (suc n) (holder (anonymous s k) body rest) = dynamic-key target name n rest

pub ruleset dynamic_keys = (dynamic-key)

or-swap : (a b c : Bool) → a || (b || c) ≡ b || (a || c)
or-swap true true c = refl
or-swap true false c = refl
or-swap false true c = refl
or-swap false false c = refl

-- one item more
pub key-suc : (key : List (List ℕ)) (i : ℕ) (xs : List Item) (x : Item) → slice_get xs i ≡ Some x → key_before key (suc i) xs ≡ has_key key x || key_before key i xs
key-suc key zero [] x e = cc
key-suc key (suc i) [] x e = cc
key-suc key zero (y ∷ ys) x e = let same : y ≡ x = cc in ap (λ z. has_key key z || false) same
key-suc key (suc i) (y ∷ ys) x e = ap (λ z. has_key key y || z) (key-suc key i ys x e) ∙ or-swap (has_key key y) (has_key key x) (key_before key i ys)
