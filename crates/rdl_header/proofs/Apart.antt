-- Rows whose paths have marks that all differ have no two macros of one name: a name begins with the path of its row, and ends with
-- an ending, which has one underscore, in front.
use Rattle.std.proofs.Common.{◌≡◌, ◌≤◌, ◌+◌, ℕ, zero, suc, Bool, true, false, List, [], ◌∷◌, ◌++◌, Some, None, map, codes, refl, ap, subst, sym, ◌∙◌, arith}
use Rattle.std.proofs.lemmas.Cmp.{eq_by_cmp_equiv, nat_cmp_total}
use Rattle.std.proofs.lemmas.Fmt.{decimal_digit}
use Rattle.std.proofs.lemmas.List.{map-append}
use Rattle.std.proofs.lemmas.List.Sorted.{IsPermutation-sym}
use Rattle.std.proofs.lemmas.Map.Keys.{IsDistinct-IsPermutation, IsDistinct-from_sorted, IsDistinct-head, IsDistinct-tail, sorted_from_strictly_increasing}
use Rattle.std.proofs.lemmas.Slice.Eq.{bytes_eq-Decides}
use Rattle.std.specs.Cmp.{IsEquivalence}
use Rattle.std.specs.Fmt.{decimal}
use Rattle.std.specs.Int.{div_ceil}
use Rattle.std.specs.List.{AllByRecursion, IsDistinct, list_all}
use Rattle.std.specs.List.Sorted.{IsPermutation, IsStrictlyIncreasing}
use Rattle.std.specs.Ordering.{nat_cmp, eq_by_cmp}
use Rattle.std.specs.Prelude.{Option, ◌||◌, ◌&&◌, not, nat_eq, nat_lt, bytes_eq, if◌then◌else◌}
use Rattle.rdl_elab.specs.declared.layout.Span.{Span}
use Rattle.rdl_elab.specs.declared.row.Extent.{Extent}
use Rattle.rdl_elab.specs.declared.row.Location.{Location}
use Rattle.rdl_elab.specs.declared.row.Location.TheVariants.{Bytes, Bits}
use Rattle.rdl_elab.specs.declared.row.Row.{Row}
use Rattle.rdl_header.specs.HeaderText.{Macro, path_text, hexadecimal_macro, word_macros, bytes_macros, mask, mask_macros, reset_macros, width, width_macros, bits_macros, macros_at, macros_of, register_behind, macros_below, macros, is_defined, clash_behind, first_clash}
use Rattle.rdl_header.specs.Marks.{mark, is_narrow, path_marks}
use Rattle.rdl_header.specs.Places.{AreApart}

-- ---- Marks.

abbrev same : ℕ → ℕ → Bool
same = eq_by_cmp nat_cmp

same-laws : IsEquivalence same
same-laws = eq_by_cmp_equiv nat_cmp_total

-- numbers that rise when they are put in order
pub apart_if_rising : (marks sorted : List ℕ) → IsPermutation marks sorted → IsStrictlyIncreasing sorted → AreApart marks
apart_if_rising marks sorted moved rising =
    IsDistinct-IsPermutation same same-laws.symm sorted marks (IsPermutation-sym marks sorted moved)
    (IsDistinct-from_sorted nat_cmp sorted (sorted_from_strictly_increasing sorted rising))

-- texts whose marks differ are different
differ-by : (p q : List ℕ) (b : Bool) → bytes_eq p q ≡ b → same (mark p) (mark q) ≡ false → bytes_eq p q ≡ false
differ-by p q false e apart = e
differ-by p q true e apart =
    let is : p ≡ q = (bytes_eq-Decides p q).0 e in
    let one : same (mark p) (mark q) ≡ true = ap (λ r. same (mark p) (mark r)) (sym is) ∙ same-laws.refl (mark p) in
    cc

differ : (p q : List ℕ) → same (mark p) (mark q) ≡ false → bytes_eq p q ≡ false
differ p q = differ-by p q (bytes_eq p q) refl

-- ---- Endings.

abbrev has_none : List ℕ → Bool
has_none bytes = list_all (λ b. not (nat_eq b 95)) bytes

-- an underscore, and bytes that are none
abbrev is_ending : List ℕ → Bool
is_ending [] = false
is_ending (b ∷ bs) = nat_eq b 95 && has_none bs

both : (a b : Bool) → (a && b) ≡ true → (a ≡ true) × (b ≡ true)
both true true h = (refl, refl)
both true false h = cc
both false b h = cc

and-false : (a b : Bool) → b ≡ false → (a && b) ≡ false
and-false false b h = refl
and-false true b h = h

-- bytes without an underscore are no text with an ending
unlike : (c b : ℕ) → not (nat_eq c 95) ≡ true → nat_eq b 95 ≡ true → (nat_eq c b ≡ false) × (nat_eq b c ≡ false)
unlike c b hc hb = grind arith

no_ending : (w q f : List ℕ) → has_none w ≡ true → is_ending f ≡ true → (bytes_eq w (q ++ f) ≡ false) × (bytes_eq (q ++ f) w ≡ false)
no_ending [] [] [] hw hf = cc
no_ending [] [] (b ∷ f) hw hf = (refl, refl)
no_ending [] (y ∷ q) f hw hf = (refl, refl)
no_ending (c ∷ w) [] [] hw hf = cc
no_ending (c ∷ w) [] (b ∷ f) hw hf =
    let apart = unlike c b (both (not (nat_eq c 95)) (has_none w) hw).0 (both (nat_eq b 95) (has_none f) hf).0 in
    (ap (λ x. x && bytes_eq w f) apart.0, ap (λ x. x && bytes_eq f w) apart.1)
no_ending (c ∷ w) (y ∷ q) f hw hf =
    let rest = no_ending w q f (both (not (nat_eq c 95)) (has_none w) hw).1 hf in
    (and-false (nat_eq c y) (bytes_eq w (q ++ f)) rest.0, and-false (nat_eq y c) (bytes_eq (q ++ f) w) rest.1)

heads : (b r s : Bool) → (b && r) ≡ false → (r ≡ false → s ≡ false) → (b && s) ≡ false
heads false r s h more = refl
heads true r s h more = more h

-- different paths with endings are different
apart_paths : (p q e f : List ℕ) → is_ending e ≡ true → is_ending f ≡ true → bytes_eq p q ≡ false → bytes_eq (p ++ e) (q ++ f) ≡ false
apart_paths [] [] e f he hf h = cc
apart_paths [] (y ∷ q) [] f he hf h = cc
apart_paths [] (y ∷ q) (b ∷ e) f he hf h = and-false (nat_eq b y) (bytes_eq e (q ++ f)) (no_ending e q f (both (nat_eq b 95) (has_none e) he).1 hf).0
apart_paths (x ∷ p) [] e [] he hf h = cc
apart_paths (x ∷ p) [] e (b ∷ f) he hf h = and-false (nat_eq x b) (bytes_eq (p ++ e) f) (no_ending f p e (both (nat_eq b 95) (has_none f) hf).1 he).1
apart_paths (x ∷ p) (y ∷ q) e f he hf h = heads (nat_eq x y) (bytes_eq p q) (bytes_eq (p ++ e) (q ++ f)) h (λ g. apart_paths p q e f he hf g)

nat_eq-same : (x : ℕ) → nat_eq x x ≡ true
nat_eq-same x = grind arith

-- one path with endings
one_path : (p e f : List ℕ) → bytes_eq (p ++ e) (p ++ f) ≡ bytes_eq e f
one_path [] e f = refl
one_path (x ∷ p) e f = ap (λ b. b && bytes_eq (p ++ e) (p ++ f)) (nat_eq-same x) ∙ one_path p e f

-- ---- The names of a row.

abbrev names_of : List Macro → List (List ℕ)
names_of ms = map (λ (m : Macro). m.name) ms

abbrev named : (path : List ℕ) → (endings : List (List ℕ)) → List (List ℕ)
named path endings = map (λ e. path ++ e) endings

-- no one of these is that text
abbrev lacks : List ℕ → List (List ℕ) → Bool
lacks e es = list_all (λ f. not (bytes_eq e f)) es

-- endings that differ from each other
abbrev are_endings : List (List ℕ) → Bool
are_endings [] = true
are_endings (e ∷ es) = is_ending e && (lacks e es && are_endings es)

not-true : (b : Bool) → not b ≡ true → b ≡ false
not-true false h = refl
not-true true h = cc

behind_one : (path e : List ℕ) (es : List (List ℕ)) → lacks e es ≡ true → AllByRecursion (λ y. bytes_eq (path ++ e) y ≡ false) (named path es)
behind_one path e [] h = tt
behind_one path e (f ∷ es) h =
    let two = both (not (bytes_eq e f)) (lacks e es) h in
    (one_path path e f ∙ not-true (bytes_eq e f) two.0, behind_one path e es two.1)

named_apart : (path : List ℕ) (es : List (List ℕ)) → are_endings es ≡ true → IsDistinct bytes_eq (named path es)
unfolding IsDistinct
named_apart path [] h = tt
named_apart path (e ∷ es) h =
    let two = both (lacks e es) (are_endings es) (both (is_ending e) (lacks e es && are_endings es) h).1 in
    (behind_one path e es two.0, named_apart path es two.1)

-- names that are a path and an ending each
record AreNamed (path : List ℕ) (names : List (List ℕ)) : Type 0 where
  endings : List (List ℕ)
  good : are_endings endings ≡ true
  is : names ≡ named path endings

-- ---- The endings of a row.

-- of the first words of a number, of which there are at most ten
abbrev word_endings : (ending : List ℕ) → ℕ → List (List ℕ)
word_endings ending zero = []
word_endings ending (suc i) = word_endings ending i ++ (ending ++ (48 + i) ∷ []) ∷ []

word_names : (path ending : List ℕ) (n k : ℕ) → k ≤ 10 → names_of (word_macros path ending n k) ≡ named path (word_endings ending k)
word_names path ending n zero h = refl
word_names path ending n (suc i) h =
    map-append (λ (m : Macro). m.name) (word_macros path ending n i) _
    ∙ ap (λ names. names ++ (path ++ (ending ++ decimal i)) ∷ []) (word_names path ending n i (omega arith))
    ∙ ap (λ digit. named path (word_endings ending i) ++ (path ++ (ending ++ digit)) ∷ []) (decimal_digit i (omega arith))
    ∙ sym (map-append (λ e. path ++ e) (word_endings ending i) ((ending ++ (48 + i) ∷ []) ∷ []))

bytes_named : (path : List ℕ) (base : ℕ) (extent : Extent) (dims : List ℕ) → AreNamed path (names_of (bytes_macros path base (record { offset = extent.offset; size = extent.size; dims = dims; stride = extent.stride })))
unfolding bytes_macros
bytes_named path base extent [] = record { endings = codes "_base" ∷ codes "_offset" ∷ codes "_size" ∷ []; good = refl; is = refl }
bytes_named path base extent (d ∷ ds) = record { endings = codes "_base" ∷ codes "_offset" ∷ codes "_size" ∷ codes "_count" ∷ codes "_stride" ∷ []; good = refl; is = refl }

abbrev mask_endings : Bool → List (List ℕ)
mask_endings true = word_endings (codes "_bm") 4
mask_endings false = codes "_bm" ∷ []

mask_names : (path : List ℕ) (register : ℕ) (span : Span) (wide : Bool) → nat_lt 8 register ≡ wide → names_of (mask_macros path register span) ≡ named path (mask_endings wide)
mask_names path register span true e =
    ap (λ b. names_of (if b then word_macros path (codes "_bm") (mask span) 4 else hexadecimal_macro path (codes "_bm") (mask span) ∷ [])) e
    ∙ word_names path (codes "_bm") (mask span) 4 (omega arith)
mask_names path register span false e =
    ap (λ b. names_of (if b then word_macros path (codes "_bm") (mask span) 4 else hexadecimal_macro path (codes "_bm") (mask span) ∷ [])) e

abbrev reset_endings : (long : Bool) → ℕ → Option ℕ → List (List ℕ)
reset_endings long k None = []
reset_endings true k (Some n) = word_endings (codes "_reset") k
reset_endings false k (Some n) = codes "_reset" ∷ []

reset_names : (path : List ℕ) (w : ℕ) (reset : Option ℕ) (long : Bool) → div_ceil w 32 ≤ 10 → nat_lt 64 w ≡ long → names_of (reset_macros path w reset) ≡ named path (reset_endings long (div_ceil w 32) reset)
reset_names path w None long h e = refl
reset_names path w (Some n) true h e =
    ap (λ b. names_of (if b then word_macros path (codes "_reset") n (div_ceil w 32) else hexadecimal_macro path (codes "_reset") n ∷ [])) e
    ∙ word_names path (codes "_reset") n (div_ceil w 32) h
reset_names path w (Some n) false h e =
    ap (λ b. names_of (if b then word_macros path (codes "_reset") n (div_ceil w 32) else hexadecimal_macro path (codes "_reset") n ∷ [])) e

abbrev field_endings : (wide long : Bool) → ℕ → Option ℕ → List (List ℕ)
field_endings wide long k reset = mask_endings wide ++ (codes "_bp" ∷ codes "_bw" ∷ reset_endings long k reset)

few_words : (wide : Bool) (k n : ℕ) → k ≤ 4 → are_endings (field_endings wide true k (Some n)) ≡ true
few_words true zero n h = refl
few_words false zero n h = refl
few_words true (suc zero) n h = refl
few_words false (suc zero) n h = refl
few_words true (suc (suc zero)) n h = refl
few_words false (suc (suc zero)) n h = refl
few_words true (suc (suc (suc zero))) n h = refl
few_words false (suc (suc (suc zero))) n h = refl
few_words true (suc (suc (suc (suc zero)))) n h = refl
few_words false (suc (suc (suc (suc zero)))) n h = refl
few_words wide (suc (suc (suc (suc (suc k))))) n h = grind arith

good_field : (wide long : Bool) (k : ℕ) (reset : Option ℕ) → k ≤ 4 → are_endings (field_endings wide long k reset) ≡ true
good_field true long k None h = refl
good_field false long k None h = refl
good_field wide true k (Some n) h = few_words wide k n h
good_field true false k (Some n) h = refl
good_field false false k (Some n) h = refl

at_most : (w : ℕ) → not (nat_lt 128 w) ≡ true → w ≤ 128
at_most w h = grind arith

few : (w : ℕ) → not (nat_lt 128 w) ≡ true → div_ceil w 32 ≤ 4
few w h = omega (arith, at_most w h)

at_most_ten : (w : ℕ) → not (nat_lt 128 w) ≡ true → div_ceil w 32 ≤ 10
at_most_ten w h = omega (arith, few w h)

field_named : (path : List ℕ) (register : ℕ) (span : Span) (reset : Option ℕ) → not (nat_lt 128 (width span)) ≡ true → AreNamed path (names_of (bits_macros path register span reset))
unfolding width_macros
field_named path register span reset h = record {
  endings = field_endings (nat_lt 8 register) (nat_lt 64 (width span)) (div_ceil (width span) 32) reset;
  good = good_field (nat_lt 8 register) (nat_lt 64 (width span)) (div_ceil (width span) 32) reset (few (width span) h);
  is =
      map-append (λ (m : Macro). m.name) (mask_macros path register span) (width_macros path span reset)
      ∙ ap (λ names. names ++ names_of (width_macros path span reset)) (mask_names path register span (nat_lt 8 register) refl)
      ∙ ap (λ names. named path (mask_endings (nat_lt 8 register)) ++ ((path ++ codes "_bp") ∷ (path ++ codes "_bw") ∷ names)) (reset_names path (width span) reset (nat_lt 64 (width span)) (at_most_ten (width span) h) refl)
      ∙ sym (map-append (λ e. path ++ e) (mask_endings (nat_lt 8 register)) (codes "_bp" ∷ codes "_bw" ∷ reset_endings (nat_lt 64 (width span)) (div_ceil (width span) 32) reset));
}

place_named : (register : ℕ) (row : Row) (place : Location) → is_narrow place ≡ true → AreNamed (path_text row.names) (names_of (macros_at register row place))
unfolding bytes_macros
place_named register row (Bytes extent) h = bytes_named (path_text row.names) row.base extent extent.dims
place_named register row (Bits span) h = field_named (path_text row.names) register span _ h

-- ---- The names of rows.

abbrev AreNarrow : List Row → Type 0
AreNarrow rows = AllByRecursion (λ (row : Row). is_narrow row.location ≡ true) rows

abbrev plain_marks : List Row → List ℕ
plain_marks rows = map (λ (row : Row). mark (path_text row.names)) rows

narrow_by : (b : Bool) (m : ℕ) (rest : List ℕ) → AreApart ((m ∷ (if b then [] else m ∷ [])) ++ rest) → b ≡ true
unfolding IsDistinct
narrow_by true m rest h = refl
narrow_by false m rest h = let one : same m m ≡ true = same-laws.refl m in sym h.0.0 ∙ one

all_narrow : (rows : List Row) → AreApart (path_marks rows) → AreNarrow rows × (path_marks rows ≡ plain_marks rows)
all_narrow [] h = (tt, refl)
all_narrow (row ∷ rows) h =
    let m : ℕ = mark (path_text row.names) in
    let narrow : is_narrow row.location ≡ true = narrow_by (is_narrow row.location) m (path_marks rows) h in
    let one : path_marks (row ∷ rows) ≡ m ∷ path_marks rows = ap (λ b. (m ∷ (if b then [] else m ∷ [])) ++ path_marks rows) narrow in
    let rest = all_narrow rows (IsDistinct-tail same m (path_marks rows) (subst AreApart one h)) in
    ((narrow, rest.0), one ∙ ap (λ ms. m ∷ ms) rest.1)

all-append : (P : List ℕ → Type 0) (xs ys : List (List ℕ)) → AllByRecursion P xs → AllByRecursion P ys → AllByRecursion P (xs ++ ys)
all-append P [] ys a b = b
all-append P (x ∷ xs) ys a b = (a.0, all-append P xs ys a.1 b)

-- no name of this path is this one
abbrev IsNone : List ℕ → List (List ℕ) → Type 0
IsNone name names = AllByRecursion (λ y. bytes_eq name y ≡ false) names

none_named : (p e q : List ℕ) (es : List (List ℕ)) → is_ending e ≡ true → are_endings es ≡ true → bytes_eq p q ≡ false → IsNone (p ++ e) (named q es)
none_named p e q [] he hes h = tt
none_named p e q (f ∷ es) he hes h =
    let two = both (is_ending f) (lacks f es && are_endings es) hes in
    (apart_paths p q e f he two.0 h, none_named p e q es he (both (lacks f es) (are_endings es) two.1).1 h)

abbrev names_below : ℕ → List Row → List (List ℕ)
names_below register rows = names_of (macros_below register rows)

first_row : (register : ℕ) (row : Row) (rows : List Row) (n : is_narrow row.location ≡ true) → names_below register (row ∷ rows) ≡ named (path_text row.names) (place_named register row row.location n).endings ++ names_below (register_behind register row.location) rows
first_row register row rows n =
    map-append (λ (m : Macro). m.name) (macros_of register row) (macros_below (register_behind register row.location) rows)
    ∙ ap (λ names. names ++ names_below (register_behind register row.location) rows) (place_named register row row.location n).is

none_below : (p e : List ℕ) → is_ending e ≡ true → (register : ℕ) (rows : List Row) → AreNarrow rows → AllByRecursion (λ y. same (mark p) y ≡ false) (plain_marks rows) → IsNone (p ++ e) (names_below register rows)
none_below p e he register [] n h = tt
none_below p e he register (row ∷ rows) n h =
    let q : List ℕ = path_text row.names in
    let r = place_named register row row.location n.0 in
    subst (IsNone (p ++ e)) (sym (first_row register row rows n.0))
    (all-append (λ y. bytes_eq (p ++ e) y ≡ false) (named q r.endings) (names_below (register_behind register row.location) rows)
    (none_named p e q r.endings he r.good (differ p q h.0))
    (none_below p e he (register_behind register row.location) rows n.1 h.1))

distinct-append : (xs ys : List (List ℕ)) → IsDistinct bytes_eq xs → IsDistinct bytes_eq ys → AllByRecursion (λ x. IsNone x ys) xs → IsDistinct bytes_eq (xs ++ ys)
unfolding IsDistinct
distinct-append [] ys a b h = b
distinct-append (x ∷ xs) ys a b h = (all-append (λ y. bytes_eq x y ≡ false) xs ys a.0 h.0, distinct-append xs ys a.1 b h.1)

none_of_row : (p : List ℕ) (es : List (List ℕ)) (register : ℕ) (rows : List Row) → are_endings es ≡ true → AreNarrow rows → AllByRecursion (λ y. same (mark p) y ≡ false) (plain_marks rows) → AllByRecursion (λ x. IsNone x (names_below register rows)) (named p es)
none_of_row p [] register rows good n h = tt
none_of_row p (e ∷ es) register rows good n h =
    let two = both (is_ending e) (lacks e es && are_endings es) good in
    (none_below p e two.0 register rows n h, none_of_row p es register rows (both (lacks e es) (are_endings es) two.1).1 n h)

below_distinct : (register : ℕ) (rows : List Row) → AreNarrow rows → AreApart (plain_marks rows) → IsDistinct bytes_eq (names_below register rows)
unfolding IsDistinct
below_distinct register [] n h = tt
below_distinct register (row ∷ rows) n h =
    let p : List ℕ = path_text row.names in
    let r = place_named register row row.location n.0 in
    let behind : ℕ = register_behind register row.location in
    subst (IsDistinct bytes_eq) (sym (first_row register row rows n.0))
    (distinct-append (named p r.endings) (names_below behind rows) (named_apart p r.endings r.good) (below_distinct behind rows n.1 h.1) (none_of_row p r.endings behind rows r.good n.1 h.0))

-- ---- The search.

-- no macro of these has the name of one of those before
abbrev DifferFrom : (before ms : List Macro) → Type 0
DifferFrom before ms = AllByRecursion (λ (b : Macro). IsNone b.name (names_of ms)) before

undefined : (before ms : List Macro) (m : Macro) → DifferFrom before (m ∷ ms) → is_defined m.name before ≡ false
undefined [] ms m h = refl
undefined (b ∷ bs) ms m h = ap (λ x. x || is_defined m.name bs) h.0.0 ∙ undefined bs ms m h.1

one_more : (before ms : List Macro) (m : Macro) → DifferFrom before (m ∷ ms) → IsNone m.name (names_of ms) → DifferFrom (before ++ m ∷ []) ms
one_more [] ms m h new = (new, tt)
one_more (b ∷ bs) ms m h new = (h.0.1, one_more bs ms m h.1 new)

none_behind : (before ms : List Macro) → DifferFrom before ms → IsDistinct bytes_eq (names_of ms) → clash_behind before ms ≡ None
none_behind before [] h apart = refl
none_behind before (m ∷ ms) h apart =
    ap (λ b. if b then Some m.name else clash_behind (before ++ m ∷ []) ms) (undefined before ms m h)
    ∙ none_behind (before ++ m ∷ []) ms (one_more before ms m h (IsDistinct-head bytes_eq m.name (names_of ms) apart)) (IsDistinct-tail bytes_eq m.name (names_of ms) apart)

all_distinct : (top : Row) (rows : List Row) → AreNarrow (top ∷ rows) → AreApart (plain_marks (top ∷ rows)) → IsDistinct bytes_eq (names_of (macros (top ∷ rows)))
unfolding IsDistinct
all_distinct top rows n h = (none_below (path_text top.names) (codes "_H") refl 0 rows n.1 h.0, below_distinct 0 rows n.1 h.1)

pub no_clash : (rows : List Row) → AreApart (path_marks rows) → first_clash (macros rows) ≡ None
no_clash [] apart = refl
no_clash (top ∷ rows) apart =
    let narrow = all_narrow (top ∷ rows) apart in
    none_behind [] (macros (top ∷ rows)) tt (all_distinct top rows narrow.0 (subst AreApart narrow.1 apart))
