-- Spans from the last one to the first: what ends before all others begin overlaps none of them.
use Rattle.std.proofs.Common.{◌≡◌, ℕ, zero, suc, ◌+◌, ◌-◌, ◌<◌, ◌≤◌, min, take, length-drop, List, [], ◌∷◌, length, drop, get_or, true, false, not, ◌&&◌, ◌||◌, refl, ap, ◌∙◌, arith}
use Rattle.std.specs.Prelude.{nat_le, nat_lt, map}
use Rattle.std.specs.List.{list_all}
use Rattle.std.proofs.lemmas.List.{take_all}
use Rattle.std.proofs.lemmas.Bool.{and_parts, and_from, and_left, and_right}
use Rattle.std.proofs.lemmas.Bool.Decides.{nat_tests}
use Rattle.rdl_seen.specs.declared.values.Access.{Access}
use Rattle.rdl_seen.specs.Fields.{may_share, clashes_none, clash_none}
use Rattle.rdl_seen.specs.Layouts.{Span, overlaps, are_apart}
use Rattle.rdl_nodes.specs.Apart.{begin_from, first_clashes_none}
use Rattle.rdl_nodes.proofs.Bodies.{drop_at}

ends_first : (s t : Span) (least : ℕ) → s.end ≤ least → nat_le least t.start ≡ true → nat_lt t.start s.end ≡ false
ends_first s t least h e = grind (arith, nat_tests)

apart_from : (s t : Span) (least : ℕ) → s.end ≤ least → nat_le least t.start ≡ true → not (overlaps s t) ≡ true
apart_from s t least h e = ap not (and_right (nat_lt s.start s.end && nat_lt t.start t.end && nat_lt s.start t.end) (nat_lt t.start s.end) (ends_first s t least h e))

pub overlaps_none : (s : Span) (least : ℕ) (ts : List Span) → s.end ≤ least → begin_from least ts ≡ true → list_all (λ (t : Span). not (overlaps s t)) ts ≡ true
overlaps_none s least [] h e = refl
overlaps_none s least (t ∷ ts) h e =
    let parts = and_parts (nat_le least t.start) (begin_from least ts) e in
    and_from (not (overlaps s t)) (list_all (λ (u : Span). not (overlaps s u)) ts) (apart_from s t least h parts.0) (overlaps_none s least ts h parts.1)

pub clashes_with_none : (s : Span) (a : Access) (least : ℕ) (ts : List Span) (others : List Access) → s.end ≤ least → begin_from least ts ≡ true → clashes_none s a ts others ≡ true
clashes_with_none s a least [] others h e = refl
clashes_with_none s a least (t ∷ ts) [] h e = refl
clashes_with_none s a least (t ∷ ts) (b ∷ bs) h e =
    let parts = and_parts (nat_le least t.start) (begin_from least ts) e in
    and_from (not (overlaps s t) || may_share a b) (clashes_none s a ts bs)
    (ap (λ u. u || may_share a b) (apart_from s t least h parts.0))
    (clashes_with_none s a least ts bs h parts.1)

begins_less : (least less start : ℕ) → less ≤ least → nat_le least start ≡ true → nat_le less start ≡ true
begins_less least less start h e = grind (arith, nat_tests)

begins_self : (least start : ℕ) → nat_le (min least start) start ≡ true
begins_self least start = grind (arith, nat_tests)

begin_from_less : (least less : ℕ) (ts : List Span) → less ≤ least → begin_from least ts ≡ true → begin_from less ts ≡ true
begin_from_less least less [] h e = refl
begin_from_less least less (t ∷ ts) h e =
    let parts = and_parts (nat_le least t.start) (begin_from least ts) e in
    and_from (nat_le less t.start) (begin_from less ts) (begins_less least less t.start h parts.0) (begin_from_less least less ts h parts.1)

-- one more span in front
pub order_at : (least : ℕ) (xs : List Span) (i : ℕ) (x : Span) → i < length xs → x ≡ get_or xs i x → begin_from least (drop (i + 1) xs) ≡ true → begin_from (min least x.start) (drop i xs) ≡ true
order_at least xs i x h e o =
    ap (begin_from (min least x.start)) (drop_at xs i x h e)
    ∙ and_from (nat_le (min least x.start) x.start) (begin_from (min least x.start) (drop (i + 1) xs)) (begins_self least x.start)
    (begin_from_less least (min least x.start) (drop (i + 1) xs) (omega arith) o)

pub apart_at : (xs : List Span) (i : ℕ) (x : Span) → i < length xs → x ≡ get_or xs i x → list_all (λ (t : Span). not (overlaps x t)) (drop (i + 1) xs) ≡ true → are_apart (drop (i + 1) xs) ≡ true → are_apart (drop i xs) ≡ true
apart_at xs i x h e first rest =
    ap are_apart (drop_at xs i x h e) ∙ and_from (list_all (λ (t : Span). not (overlaps x t)) (drop (i + 1) xs)) (are_apart (drop (i + 1) xs)) first rest

not_apart : (xs : List Span) (i : ℕ) → are_apart (drop i xs) ≡ false → are_apart xs ≡ false
not_apart xs zero e = e
not_apart [] (suc i) e = e
not_apart (x ∷ xs) (suc i) e = and_right (list_all (λ (t : Span). not (overlaps x t)) xs) (are_apart xs) (not_apart xs i e)

pub not_apart_at : (xs : List Span) (i : ℕ) (x : Span) → i < length xs → x ≡ get_or xs i x → list_all (λ (t : Span). not (overlaps x t)) (drop (i + 1) xs) ≡ false → are_apart xs ≡ false
not_apart_at xs i x h e first =
    not_apart xs i (ap are_apart (drop_at xs i x h e) ∙ and_left (list_all (λ (t : Span). not (overlaps x t)) (drop (i + 1) xs)) (are_apart (drop (i + 1) xs)) first)

-- ---- Fields.

pub clash_none_first : (spans : List Span) (bs : List Access) (i : ℕ) → first_clashes_none (drop i spans) (drop i bs) ≡ true → clash_none (drop (suc i) spans) (drop (suc i) bs) ≡ true → clash_none (drop i spans) (drop i bs) ≡ true
clash_none_first [] bs zero f r = refl
clash_none_first [] bs (suc i) f r = refl
clash_none_first (s ∷ ss) [] zero f r = refl
clash_none_first (s ∷ ss) [] (suc i) f r = none_drop ss i
  where
    none_drop : (ss : List Span) (i : ℕ) → clash_none (drop i ss) [] ≡ true
    none_drop [] zero = refl
    none_drop [] (suc i) = refl
    none_drop (s ∷ ss) zero = refl
    none_drop (s ∷ ss) (suc i) = none_drop ss i
clash_none_first (s ∷ ss) (a ∷ bs) zero f r = and_from (clashes_none s a ss bs) (clash_none ss bs) f r
clash_none_first (s ∷ ss) (a ∷ bs) (suc i) f r = clash_none_first ss bs i f r

pub some_clash : (spans : List Span) (bs : List Access) (i : ℕ) → first_clashes_none (drop i spans) (drop i bs) ≡ false → clash_none spans bs ≡ false
some_clash [] bs zero f = absurd (true_not_false f)
  where
    true_not_false : true ≡ false → ⊥
    true_not_false e = cc
some_clash [] bs (suc i) f = absurd (true_not_false f)
  where
    true_not_false : true ≡ false → ⊥
    true_not_false e = cc
some_clash (s ∷ ss) [] i f = absurd (no_first (s ∷ ss) i f)
  where
    no_first : (ts : List Span) (i : ℕ) → first_clashes_none (drop i ts) (drop i []) ≡ false → ⊥
    no_first [] zero e = cc
    no_first [] (suc i) e = cc
    no_first (t ∷ ts) zero e = cc
    no_first (t ∷ ts) (suc zero) e = no_first ts zero e
    no_first (t ∷ ts) (suc (suc i)) e = no_first ts (suc i) e
some_clash (s ∷ ss) (a ∷ bs) zero f = and_left (clashes_none s a ss bs) (clash_none ss bs) f
some_clash (s ∷ ss) (a ∷ bs) (suc i) f = and_right (clashes_none s a ss bs) (clash_none ss bs) (some_clash ss bs i f)

-- ---- Slices.

pub rest_slice : {X : Type 0} (xs : List X) (k : ℕ) → take (length xs - k) (drop k xs) ≡ drop k xs
rest_slice xs k = take_all (length xs - k) (drop k xs) (omega (arith, length-drop k xs))

pub map_behind : {X Y : Type 0} (f : X → Y) (xs : List X) (k : ℕ) → map f (drop k xs) ≡ drop k (map f xs)
map_behind f [] zero = refl
map_behind f [] (suc k) = refl
map_behind f (x ∷ xs) zero = refl
map_behind f (x ∷ xs) (suc k) = map_behind f xs k
