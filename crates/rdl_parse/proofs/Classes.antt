-- An identifier is by the reserved words of its length what it is by all.
use Rattle.std.proofs.Common.{◌≡◌, ℕ, Bool, true, false, cond, ◌||◌, List, [], ◌∷◌, length, refl, ap, sym, ◌∙◌, arith}
use Rattle.std.proofs.lemmas.Bool.Decides.{nat_tests}
use Rattle.std.proofs.lemmas.Bool.{eqb-true}
use Rattle.std.proofs.lemmas.Slice.Eq.{bytes_eq-Decides}
use Rattle.std.specs.Bool.{Decides}
use Rattle.std.specs.Prelude.{nat_eq, codes, bytes_eq, if◌then◌else◌}
use Rattle.rdl_parse.specs.declared.class.Class.{Class}
use Rattle.rdl_parse.specs.declared.class.Class.TheVariants.{Name, Reserved}
use Rattle.rdl_parse.specs.Class.{class, is_unused}
use Rattle.rdl_parse.specs.Reserved.{Table, unused, reserved, look, of_length, by_length}

either : (a b : Bool) (x y : Class) → cond (a || b) x y ≡ cond a x (cond b x y)
either true b x y = refl
either false b x y = refl

unused_table : (n : List ℕ) → cond (is_unused n) Reserved Name ≡ look n unused
unfolding is_unused
unused_table n =
    either _ (bytes_eq n (codes "encode")) Reserved Name ∙ (either _ (bytes_eq n (codes "abstract")) Reserved _ ∙ (either _ (bytes_eq n (codes "alias")) Reserved _
    ∙ (either _ (bytes_eq n (codes "property")) Reserved _ ∙ (either _ (bytes_eq n (codes "constraint")) Reserved _ ∙ (either _ (bytes_eq n (codes "struct")) Reserved _
    ∙ (either _ (bytes_eq n (codes "enum")) Reserved _ ∙ either (bytes_eq n (codes "mem")) (bytes_eq n (codes "signal")) Reserved _))))))

class_table : (n : List ℕ) → class n ≡ look n reserved
unfolding class
class_table n = rw (unused_table n) refl

decided : (b : Bool) (P : Type 0) → Decides b P → (P → ⊥) → b ≡ false
decided true P d h = absurd (h (d.0 refl))
decided false P d h = refl

other : (n m : List ℕ) → (n ≡ m → ⊥) → bytes_eq n m ≡ false
other n m h = decided (bytes_eq n m) (n ≡ m) (bytes_eq-Decides n m) h

same_length : (k : ℕ) (n m : List ℕ) → length n ≡ k → nat_eq k (length m) ≡ false → n ≡ m → ⊥
same_length k n m h q e = let f : length m ≡ k = ap length (sym e) ∙ h in let g = rw f at q in grind (arith, nat_tests)

look_length : (k : ℕ) (n : List ℕ) (es : Table) → length n ≡ k → look n es ≡ look n (of_length k es)
look_length k n [] h = refl
look_length k n (e ∷ es) h = by-length (nat_eq k (length e.0)) refl (look_length k n es h)
  where
    by-length : (b : Bool) → nat_eq k (length e.0) ≡ b → look n es ≡ look n (of_length k es)
        → cond (bytes_eq n e.0) e.1 (look n es) ≡ look n (cond b (e ∷ of_length k es) (of_length k es))
    by-length true q more = ap (λ (c : Class). cond (bytes_eq n e.0) e.1 c) more
    by-length false q more = rw (other n e.0 (same_length k n e.0 h q)) more

class_of_length : (k : ℕ) (n : List ℕ) → length n ≡ k → class n ≡ look n (of_length k reserved)
class_of_length k n h = class_table n ∙ look_length k n reserved h

no_length : (n : List ℕ) → nat_eq (length n) 2 ≡ false → nat_eq (length n) 3 ≡ false → nat_eq (length n) 4 ≡ false → nat_eq (length n) 5 ≡ false
    → nat_eq (length n) 6 ≡ false → nat_eq (length n) 7 ≡ false → nat_eq (length n) 8 ≡ false → nat_eq (length n) 9 ≡ false → nat_eq (length n) 10 ≡ false → class n ≡ Name
no_length n a b c d e f g h i = class_of_length (length n) n refl ∙ rw (a, b, c, d, e, f, g, h, i) refl

chosen : (k : ℕ) (n : List ℕ) (y : Class) → (nat_eq (length n) k ≡ false → class n ≡ y) → class n ≡ cond (nat_eq (length n) k) (look n (of_length k reserved)) y
chosen k n y more = by-test (nat_eq (length n) k) refl
  where
    by-test : (b : Bool) → nat_eq (length n) k ≡ b → class n ≡ cond b (look n (of_length k reserved)) y
    by-test true e = class_of_length k n (eqb-true (length n) k e)
    by-test false e = more e

pub class_by_length : (n : List ℕ) → class n ≡ by_length n
unfolding by_length
class_by_length n =
    chosen 2 n _ (λ a. chosen 3 n _ (λ b. chosen 4 n _ (λ c. chosen 5 n _ (λ d. chosen 6 n _ (λ e. chosen 7 n _ (λ f. chosen 8 n _ (λ g. chosen 9 n _ (λ h. chosen 10 n _ (λ i.
    no_length n a b c d e f g h i)))))))))
