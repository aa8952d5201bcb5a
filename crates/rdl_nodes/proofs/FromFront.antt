-- Spans from the first one on: what begins behind the ends of all before it overlaps none of them.
use Rattle.std.proofs.Common.{min, ◌≡◌, ℕ, zero, suc, ◌+◌, ◌<◌, ◌≤◌, max, Bool, true, false, not, ◌&&◌, ◌||◌, List, [], ◌∷◌, ◌++◌, length, take, drop, get_or, refl, ap, sym, ◌∙◌, arith}
use Rattle.std.specs.Prelude.{nat_le, nat_lt}
use Rattle.std.specs.List.{list_all, list_any}
use Rattle.std.proofs.lemmas.List.{take_more}
use Rattle.std.proofs.lemmas.Bool.{and_parts, and_from, and_left, and_right}
use Rattle.std.proofs.lemmas.Bool.Decides.{nat_tests}
use Rattle.rdl_seen.specs.Layouts.{Span, overlaps, are_apart}
use Rattle.rdl_nodes.specs.Apart.{begin_from, end_by}
use Rattle.rdl_nodes.proofs.Bodies.{drop_at}

begins_last : (s t : Span) (high : ℕ) → high ≤ s.start → nat_le t.end high ≡ true → nat_lt s.start t.end ≡ false
begins_last s t high h e = grind (arith, nat_tests)

overlaps_not : (s t : Span) (high : ℕ) → high ≤ s.start → nat_le t.end high ≡ true → overlaps s t ≡ false
overlaps_not s t high h e =
    and_left (nat_lt s.start s.end && nat_lt t.start t.end && nat_lt s.start t.end) (nat_lt t.start s.end)
    (and_right (nat_lt s.start s.end && nat_lt t.start t.end) (nat_lt s.start t.end) (begins_last s t high h e))

neither : (a b : Bool) → a ≡ false → b ≡ false → (a || b) ≡ false
neither false b e f = f
neither true b e f = cc

pub overlaps_no_one : (s : Span) (high : ℕ) (ts : List Span) → high ≤ s.start → end_by high ts ≡ true → list_any (overlaps s) ts ≡ false
overlaps_no_one s high [] h e = refl
overlaps_no_one s high (t ∷ ts) h e =
    let parts = and_parts (nat_le t.end high) (end_by high ts) e in
    neither (overlaps s t) (list_any (overlaps s) ts) (overlaps_not s t high h parts.0) (overlaps_no_one s high ts h parts.1)

pub overlaps_none : (s : Span) (high : ℕ) (ts : List Span) → high ≤ s.start → end_by high ts ≡ true → list_all (λ (t : Span). not (overlaps s t)) ts ≡ true
overlaps_none s high [] h e = refl
overlaps_none s high (t ∷ ts) h e =
    let parts = and_parts (nat_le t.end high) (end_by high ts) e in
    and_from (not (overlaps s t)) (list_all (λ (u : Span). not (overlaps s u)) ts) (ap not (overlaps_not s t high h parts.0)) (overlaps_none s high ts h parts.1)

-- ---- The greatest end.

ends_higher : (high higher end : ℕ) → high ≤ higher → nat_le end high ≡ true → nat_le end higher ≡ true
ends_higher high higher end h e = grind (arith, nat_tests)

ends_itself : (high end : ℕ) → nat_le end (max high end) ≡ true
ends_itself high end = grind (arith, nat_tests)

end_with : (high : ℕ) (s : Span) (ts : List Span) → end_by high ts ≡ true → end_by (max high s.end) (ts ++ s ∷ []) ≡ true
end_with high s [] e = and_from (nat_le s.end (max high s.end)) true (ends_itself high s.end) refl
end_with high s (t ∷ ts) e =
    let parts = and_parts (nat_le t.end high) (end_by high ts) e in
    and_from (nat_le t.end (max high s.end)) (end_by (max high s.end) (ts ++ s ∷ [])) (ends_higher high (max high s.end) t.end (omega arith) parts.0) (end_with high s ts parts.1)

front_at : (xs : List Span) (i : ℕ) (x : Span) → i < length xs → x ≡ get_or xs i x → take (i + 1) xs ≡ take i xs ++ x ∷ []
front_at xs i x h e = take_more xs i x h ∙ ap (λ y. take i xs ++ y ∷ []) (sym e)

-- one more span
pub end_at : (high : ℕ) (xs : List Span) (i : ℕ) (x : Span) → i < length xs → x ≡ get_or xs i x → end_by high (take i xs) ≡ true → end_by (max high x.end) (take (i + 1) xs) ≡ true
end_at high xs i x h e o = ap (end_by (max high x.end)) (front_at xs i x h e) ∙ end_with high x (take i xs) o

-- ---- The least start.

begins_lower : (low lower start : ℕ) → lower ≤ low → nat_le low start ≡ true → nat_le lower start ≡ true
begins_lower low lower start h e = grind (arith, nat_tests)

begins_itself : (low start : ℕ) → nat_le (min low start) start ≡ true
begins_itself low start = grind (arith, nat_tests)

begin_with : (low : ℕ) (s : Span) (ts : List Span) → begin_from low ts ≡ true → begin_from (min low s.start) (ts ++ s ∷ []) ≡ true
begin_with low s [] e = and_from (nat_le (min low s.start) s.start) true (begins_itself low s.start) refl
begin_with low s (t ∷ ts) e =
    let parts = and_parts (nat_le low t.start) (begin_from low ts) e in
    and_from (nat_le (min low s.start) t.start) (begin_from (min low s.start) (ts ++ s ∷ [])) (begins_lower low (min low s.start) t.start (omega arith) parts.0)
    (begin_with low s ts parts.1)

-- one more span
pub begin_at : (low : ℕ) (xs : List Span) (i : ℕ) (x : Span) → i < length xs → x ≡ get_or xs i x → begin_from low (take i xs) ≡ true → begin_from (min low x.start) (take (i + 1) xs) ≡ true
begin_at low xs i x h e o = ap (begin_from (min low x.start)) (front_at xs i x h e) ∙ begin_with low x (take i xs) o

-- ---- Whether they lie apart.

turned : (a b c d : Bool) → (a && b && c && d) ≡ (b && a && d && c)
turned true true true true = refl
turned true true true false = refl
turned true true false true = refl
turned true true false false = refl
turned true false c d = refl
turned false true c d = refl
turned false false c d = refl

overlaps_both : (s t : Span) → overlaps s t ≡ overlaps t s
overlaps_both s t = turned (nat_lt s.start s.end) (nat_lt t.start t.end) (nat_lt s.start t.end) (nat_lt t.start s.end)

not_both : (s t : Span) → not (overlaps s t) ≡ not (overlaps t s)
not_both s t = ap not (overlaps_both s t)

all_with : (f : Span → Bool) (xs : List Span) (s : Span) → list_all f xs ≡ true → f s ≡ true → list_all f (xs ++ s ∷ []) ≡ true
all_with f [] s e g = and_from (f s) true g refl
all_with f (x ∷ xs) s e g = let parts = and_parts (f x) (list_all f xs) e in and_from (f x) (list_all f (xs ++ s ∷ [])) parts.0 (all_with f xs s parts.1 g)

apart_with : (s : Span) (xs : List Span) → list_all (λ (t : Span). not (overlaps s t)) xs ≡ true → are_apart xs ≡ true → are_apart (xs ++ s ∷ []) ≡ true
apart_with s [] e a = refl
apart_with s (x ∷ xs) e a =
    let parts = and_parts (not (overlaps s x)) (list_all (λ (t : Span). not (overlaps s t)) xs) e in
    let before = and_parts (list_all (λ (t : Span). not (overlaps x t)) xs) (are_apart xs) a in
    and_from (list_all (λ (t : Span). not (overlaps x t)) (xs ++ s ∷ [])) (are_apart (xs ++ s ∷ [])) (all_with (λ (t : Span). not (overlaps x t)) xs s before.0 (not_both x s ∙ parts.0))
    (apart_with s xs parts.1 before.1)

some_with : (f : Span → Bool) (xs : List Span) (s : Span) (rest : List Span) → f s ≡ false → list_all f (xs ++ s ∷ rest) ≡ false
some_with f [] s rest g = and_left (f s) (list_all f rest) g
some_with f (x ∷ xs) s rest g = and_right (f x) (list_all f (xs ++ s ∷ rest)) (some_with f xs s rest g)

not_apart_with : (s : Span) (xs rest : List Span) → list_all (λ (t : Span). not (overlaps s t)) xs ≡ false → are_apart (xs ++ s ∷ rest) ≡ false
not_apart_with s [] rest e = absurd (let no : true ≡ false = e in cc)
not_apart_with s (x ∷ xs) rest e = by (not (overlaps s x)) refl e (not_apart_with s xs rest)
  where
    by : (b : Bool) → not (overlaps s x) ≡ b → (b && list_all (λ (t : Span). not (overlaps s t)) xs) ≡ false → (list_all (λ (t : Span). not (overlaps s t)) xs ≡ false → are_apart (xs ++ s ∷ rest) ≡ false)
        → are_apart ((x ∷ xs) ++ s ∷ rest) ≡ false
    by true is f ih = and_right (list_all (λ (t : Span). not (overlaps x t)) (xs ++ s ∷ rest)) (are_apart (xs ++ s ∷ rest)) (ih f)
    by false is f ih =
        and_left (list_all (λ (t : Span). not (overlaps x t)) (xs ++ s ∷ rest)) (are_apart (xs ++ s ∷ rest)) (some_with (λ (t : Span). not (overlaps x t)) xs s rest (not_both x s ∙ is))

-- one more span that overlaps none before it
pub apart_at_end : (xs : List Span) (i : ℕ) (x : Span) → i < length xs → x ≡ get_or xs i x → list_all (λ (t : Span). not (overlaps x t)) (take i xs) ≡ true → are_apart (take i xs) ≡ true
    → are_apart (take (i + 1) xs) ≡ true
apart_at_end xs i x h e none before = ap are_apart (front_at xs i x h e) ∙ apart_with x (take i xs) none before

split_at : (xs : List Span) (i : ℕ) → take i xs ++ drop i xs ≡ xs
split_at [] zero = refl
split_at [] (suc i) = refl
split_at (x ∷ xs) zero = refl
split_at (x ∷ xs) (suc i) = ap (λ ys. x ∷ ys) (split_at xs i)

-- one that overlaps another one before it
pub not_apart_at_end : (xs : List Span) (i : ℕ) (x : Span) → i < length xs → x ≡ get_or xs i x → list_all (λ (t : Span). not (overlaps x t)) (take i xs) ≡ false → are_apart xs ≡ false
not_apart_at_end xs i x h e some =
    sym (ap are_apart (sym (ap (λ ys. take i xs ++ ys) (drop_at xs i x h e)) ∙ split_at xs i)) ∙ not_apart_with x (take i xs) (drop (i + 1) xs) some
