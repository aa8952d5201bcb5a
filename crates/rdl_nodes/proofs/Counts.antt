-- How a count of what is placed goes on, and what is placed where the values of a component are the same.
use Rattle.std.proofs.Common.{◌≡◌, ℕ, ◌+◌, ◌==◌, ◌&&◌, if◌then◌else◌, eq-eqb, Bool, true, Option, Some, None, refl, ap, subst, ◌∙◌, arith}
use Rattle.std.specs.Option.{option_eq}
use Rattle.std.proofs.lemmas.Bool.{and_parts, eqb-true}
use Rattle.rdl_tree.specs.Weight.{capped}
use Rattle.rdl_seen.specs.declared.mode.Mode.{Mode}
use Rattle.rdl_seen.specs.declared.mode.Mode.TheVariants.{Compact, Regalign, Fullalign}
use Rattle.rdl_seen.specs.declared.values.Access.{Access}
use Rattle.rdl_seen.specs.declared.values.Access.TheVariants.{OnlyReads, OnlyWrites, Other}
use Rattle.rdl_seen.specs.declared.values.Values.{Values}
use Rattle.rdl_seen.specs.Layouts.{Layouts}
use Rattle.rdl_nodes.specs.Placed.{same_mode, same_access, same_stated, same_words, same_widths, same_numbers, same_values, placed_once, placed_by, CountsOn}

-- ---- A count.

-- by as many, said otherwise
pub counts_so : (a b : ℕ) {m n : ℕ} → m ≡ n → CountsOn a b m → CountsOn a b n
counts_so a b e h = subst (CountsOn a b) e h

-- by none
pub counts_none : (a : ℕ) → CountsOn a a 0
counts_none a n e = e ∙ ap capped (let same : n ≡ n + 0 = omega arith in same)

-- first by some, then by others
pub counts_both : (a b c m n : ℕ) → CountsOn a b m → CountsOn b c n → CountsOn a c (m + n)
counts_both a b c m n h g k e = g (k + m) (h k e) ∙ ap capped (let same : k + m + n ≡ k + (m + n) = omega arith in same)

-- by what a call gave, which stops at the greatest number, too
pub counts_sum : (a b m n : ℕ) → b ≡ capped (a + m) → m ≡ capped n → CountsOn a b n
counts_sum a b m n sum stops k e = omega (arith, sum, stops, e)

-- ---- Values.

mode_is : (m n : Mode) → same_mode m n ≡ true → m ≡ n
mode_is Compact Compact e = refl
mode_is Regalign Regalign e = refl
mode_is Fullalign Fullalign e = refl
mode_is Compact Regalign e = absurd cc
mode_is Compact Fullalign e = absurd cc
mode_is Regalign Compact e = absurd cc
mode_is Regalign Fullalign e = absurd cc
mode_is Fullalign Compact e = absurd cc
mode_is Fullalign Regalign e = absurd cc

access_is : (a b : Access) → same_access a b ≡ true → a ≡ b
access_is OnlyReads OnlyReads e = refl
access_is OnlyWrites OnlyWrites e = refl
access_is Other Other e = refl
access_is OnlyReads OnlyWrites e = absurd cc
access_is OnlyReads Other e = absurd cc
access_is OnlyWrites OnlyReads e = absurd cc
access_is OnlyWrites Other e = absurd cc
access_is Other OnlyReads e = absurd cc
access_is Other OnlyWrites e = absurd cc

pub option_is : {X : Type 0} (f : X → X → Bool) → ((x y : X) → f x y ≡ true → x ≡ y) → (a b : Option X) → option_eq f a b ≡ true → a ≡ b
option_is f g None None e = refl
option_is f g None (Some y) e = absurd cc
option_is f g (Some x) None e = absurd cc
option_is f g (Some x) (Some y) e = ap Some (g x y e)

pub stated_is : (a b : Option ℕ) → same_stated a b ≡ true → a ≡ b
stated_is a b e = option_is (λ p q. p == q) (λ x y h. eqb-true x y h) a b e

pub values_are : (a b : Values) → same_values a b ≡ true → a ≡ b
values_are a b e =
    let all = and_parts (same_words a b && same_widths a b) (same_numbers a b) e in
    let first = and_parts (same_words a b) (same_widths a b) all.0 in
    let words = and_parts (option_eq same_mode a.addressing b.addressing) (option_eq same_access a.sw b.sw) first.0 in
    let widths = and_parts (same_stated a.regwidth b.regwidth && same_stated a.accesswidth b.accesswidth) (same_stated a.fieldwidth b.fieldwidth) first.1 in
    let two = and_parts (same_stated a.regwidth b.regwidth) (same_stated a.accesswidth b.accesswidth) widths.0 in
    let numbers = and_parts (same_stated a.alignment b.alignment) (same_stated a.reset b.reset) all.1 in
    let addressing = option_is same_mode mode_is a.addressing b.addressing words.0 in
    let sw = option_is same_access access_is a.sw b.sw words.1 in
    let regwidth = stated_is a.regwidth b.regwidth two.0 in
    let accesswidth = stated_is a.accesswidth b.accesswidth two.1 in
    let fieldwidth = stated_is a.fieldwidth b.fieldwidth widths.1 in
    let alignment = stated_is a.alignment b.alignment numbers.0 in
    let reset = stated_is a.reset b.reset numbers.1 in
    λ i. record { addressing = addressing i; alignment = alignment i; regwidth = regwidth i; accesswidth = accesswidth i; fieldwidth = fieldwidth i; sw = sw i; reset = reset i }

-- the same values are the same
mode_same : (m : Mode) → same_mode m m ≡ true
mode_same Compact = refl
mode_same Regalign = refl
mode_same Fullalign = refl

access_same : (a : Access) → same_access a a ≡ true
access_same OnlyReads = refl
access_same OnlyWrites = refl
access_same Other = refl

pub option_same : {X : Type 0} (f : X → X → Bool) → ((x : X) → f x x ≡ true) → (a : Option X) → option_eq f a a ≡ true
option_same f g None = refl
option_same f g (Some x) = g x

number_same : (n : ℕ) → (n == n) ≡ true
number_same n = eq-eqb n n refl

pub stated_same : (a : Option ℕ) → same_stated a a ≡ true
stated_same a = option_same (λ p q. p == q) number_same a

pub values_same : (v : Values) → same_values v v ≡ true
values_same v =
    λ i. (option_same same_mode mode_same v.addressing i && option_same same_access access_same v.sw i)
    && (stated_same v.regwidth i && stated_same v.accesswidth i && stated_same v.fieldwidth i)
    && (stated_same v.alignment i && stated_same v.reset i)

-- ---- A component that stayed.

-- nothing is placed for it, if its instances are alike and its values the same
pub none_placed : (alike : Bool) (was is : Values) (l : Layouts) → alike ≡ true → same_values was is ≡ true → placed_by alike was is l ≡ 0
none_placed alike was is l are same = λ i. if are i && same i then 0 else placed_once l
