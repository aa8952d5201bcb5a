-- The names around a row, in texts of them with the same end behind each.
use Rattle.std.proofs.Math.Numerals.{one-add}
use Rattle.std.proofs.Common.{rules, ◌≡◌, ◌<◌, ◌+◌, ℕ, suc, Bool, true, false, List, [], ◌∷◌, ◌++◌, length, take, drop, codes, refl, ap, sym, subst, ◌∙◌, append_assoc, append-nil, get_or, arith}
use Rattle.std.proofs.lemmas.List.{append_cancel_left}
use Rattle.std.proofs.lemmas.List.Concat.{flat_map-append}
use Rattle.std.proofs.lemmas.List.Sums.{split_at_first}
use Rattle.std.specs.List.{AllByRecursion, flat_map, list_all, position_or_len, before_first, after_first}
use Rattle.std.specs.Prelude.{◌&&◌, ◌==◌, not, cond, if◌then◌else◌}
use Rattle.rdl_elab.specs.Dotted.{names_in, with_front, IsDotted}
use Rattle.rdl_text.specs.Name.{IsName, is_letter, is_rest, is_identifier}

-- the text of one name more
pub text_more : (end text before name : List ℕ) (more names : List (List ℕ)) → text ≡ before ++ name ++ end → before ≡ flat_map (λ n. n ++ end) names → more ≡ names ++ name ∷ [] → text ≡ flat_map (λ n. n ++ end) more
text_more end text before name more names is was all =
    is
    ∙ append_assoc before name end
    ∙ ap (λ t. t ++ (name ++ end)) was
    ∙ ap (λ t. flat_map (λ n. n ++ end) names ++ t) (sym (append-nil (name ++ end)))
    ∙ sym (flat_map-append (λ n. n ++ end) names (name ∷ []))
    ∙ ap (flat_map (λ n. n ++ end)) (sym all)

-- ---- Texts without dots.

abbrev is_dot : ℕ → Bool
is_dot b = b == 46

-- no byte of the text is a dot
abbrev has_none : List ℕ → Bool
has_none text = list_all (λ b. not (is_dot b)) text

abbrev dotted : List (List ℕ) → List ℕ
dotted names = flat_map (λ n. n ++ codes ".") names

both : (a b : Bool) → (a && b) ≡ true → (a ≡ true) × (b ≡ true)
both true true h = (refl, refl)
both true false h = cc
both false b h = cc

not-true : (b : Bool) → not b ≡ true → b ≡ false
not-true false h = refl
not-true true h = cc

-- a name up to the first dot
first_name : (name rest : List ℕ) → has_none name ≡ true → names_in (name ++ 46 ∷ rest) ≡ name ∷ names_in rest
unfolding names_in
first_name [] rest h = refl
first_name (b ∷ name) rest h =
    let two = both (not (is_dot b)) (has_none name) h in
    ap (λ (d : Bool). if d then [] ∷ names_in (name ++ 46 ∷ rest) else with_front b (names_in (name ++ 46 ∷ rest))) (not-true (is_dot b) two.0)
    ∙ ap (with_front b) (first_name name rest two.1)

-- names that have no dots are in their text
read_again : (names : List (List ℕ)) → AllByRecursion (λ n. has_none n ≡ true) names → names_in (dotted names) ≡ names
unfolding names_in
read_again [] h = refl
read_again (n ∷ names) h =
    ap names_in (append_assoc n (codes ".") (dotted names))
    ∙ first_name n (dotted names) h.0
    ∙ ap (λ ns. n ∷ ns) (read_again names h.1)

front_none : (b : ℕ) (names : List (List ℕ)) → is_dot b ≡ false → AllByRecursion (λ n. has_none n ≡ true) names → AllByRecursion (λ n. has_none n ≡ true) (with_front b names)
front_none b [] h all = (ap (λ (d : Bool). not d && true) h, tt)
front_none b (n ∷ names) h all = (ap (λ (d : Bool). not d && has_none n) h ∙ all.0, all.1)

none_by : (b : ℕ) (names : List (List ℕ)) (d : Bool) → is_dot b ≡ d → AllByRecursion (λ n. has_none n ≡ true) names → AllByRecursion (λ n. has_none n ≡ true) (if d then [] ∷ names else with_front b names)
none_by b names true e all = (refl, all)
none_by b names false e all = front_none b names e all

-- the names in a text have no dots
all_none : (text : List ℕ) → AllByRecursion (λ n. has_none n ≡ true) (names_in text)
unfolding names_in
all_none [] = tt
all_none (b ∷ text) = none_by b (names_in text) (is_dot b) refl (all_none text)

none_behind : (names : List (List ℕ)) (name : List ℕ) → AllByRecursion (λ n. has_none n ≡ true) names → has_none name ≡ true → AllByRecursion (λ n. has_none n ≡ true) (names ++ name ∷ [])
none_behind [] name all h = (h, tt)
none_behind (n ∷ names) name all h = (all.0, none_behind names name all.1 h)

-- ---- Names.

no_dot_rest : (c : ℕ) → is_rest c ≡ true → not (is_dot c) ≡ true
no_dot_rest c h = grind arith

no_dot_letter : (c : ℕ) → is_letter c ≡ true → not (is_dot c) ≡ true
no_dot_letter c h = grind arith

and-true : (a b : Bool) → a ≡ true → b ≡ true → (a && b) ≡ true
and-true true true h g = refl
and-true true false h g = cc
and-true false b h g = cc

none_in_rest : (bytes : List ℕ) → list_all is_rest bytes ≡ true → has_none bytes ≡ true
none_in_rest [] h = refl
none_in_rest (c ∷ bytes) h =
    let two = both (is_rest c) (list_all is_rest bytes) h in
    and-true (not (is_dot c)) (has_none bytes) (no_dot_rest c two.0) (none_in_rest bytes two.1)

none_in : (name : List ℕ) → is_identifier name ≡ true → has_none name ≡ true
none_in [] h = refl
none_in (c ∷ bytes) h =
    let two = both (is_letter c) (list_all is_rest bytes) h in
    and-true (not (is_dot c)) (has_none bytes) (no_dot_letter c two.0) (none_in_rest bytes two.1)

-- the names with one more behind them, which stands behind their text
pub names_more : (text before name : List ℕ) → text ≡ before ++ name ++ codes "." → IsDotted before → IsName name → names_in text ≡ names_in before ++ name ∷ []
names_more text before name is was h =
    ap names_in (text_more (codes ".") text before name (names_in before ++ name ∷ []) (names_in before) is was refl)
    ∙ read_again (names_in before ++ name ∷ []) (none_behind (names_in before) name (all_none before) (none_in name (search rules)))

-- that text has a dot behind each
pub dotted_more : (text before name : List ℕ) → text ≡ before ++ name ++ codes "." → IsDotted before → IsName name → IsDotted text
dotted_more text before name is was h =
    text_more (codes ".") text before name (names_in text) (names_in before) is was (names_more text before name is was h)

-- ---- The first name.

shorter : (d : Bool) (k n : ℕ) → d ≡ false → cond (not d) (1 + k) 0 < suc n → k < n
shorter true k n e h = cc
shorter false k n e h = omega arith

taken_by : (b : ℕ) (bs : List ℕ) (d : Bool) (k : ℕ) → (d ≡ false → names_in bs ≡ take k bs ∷ names_in (drop (k + 1) bs))
    → (if d then [] ∷ names_in bs else with_front b (names_in bs)) ≡ take (cond (not d) (1 + k) 0) (b ∷ bs) ∷ names_in (drop (cond (not d) (1 + k) 0 + 1) (b ∷ bs))
taken_by b bs true k ih = refl
taken_by b bs false k ih =
    let P : ℕ → Type 0 = λ p. with_front b (names_in bs) ≡ take p (b ∷ bs) ∷ names_in (drop (p + 1) (b ∷ bs)) in
    let Q : ℕ → Type 0 = λ q. with_front b (names_in bs) ≡ (b ∷ take k bs) ∷ names_in (drop q (b ∷ bs)) in
    let e : suc (k + 1) ≡ suc k + 1 = omega arith in
    subst P (sym (one-add k)) (subst Q e (ap (with_front b) (ih refl)))

-- what stands around the first dot
taken : (text : List ℕ) → position_or_len is_dot text < length text → names_in text ≡ before_first is_dot text ∷ names_in (after_first is_dot text)
unfolding names_in
taken [] h = absurd (omega arith)
taken (b ∷ bs) h = taken_by b bs (is_dot b) (position_or_len is_dot bs) (λ e. taken bs (shorter (is_dot b) (position_or_len is_dot bs) (length bs) e h))

pub taken_as : (text name behind : List ℕ) → name ≡ before_first is_dot text → behind ≡ after_first is_dot text → position_or_len is_dot text < length text → names_in text ≡ name ∷ names_in behind
taken_as text name behind e f h =
    taken text h ∙ ap (λ n. n ∷ names_in (after_first is_dot text)) (sym e) ∙ ap (λ t. name ∷ names_in t) (sym f)

none_of_by : (b : ℕ) (bs : List ℕ) (d : Bool) (k : ℕ) → (k ≡ length bs → has_none bs ≡ true) → cond (not d) (1 + k) 0 ≡ suc (length bs) → (not d && has_none bs) ≡ true
none_of_by b bs true k ih h = absurd (omega arith)
none_of_by b bs false k ih h = ih (omega arith)

none_of : (text : List ℕ) → position_or_len is_dot text ≡ length text → has_none text ≡ true
none_of [] h = refl
none_of (b ∷ bs) h = none_of_by b bs (is_dot b) (position_or_len is_dot bs) (none_of bs) h

and-false : (a b : Bool) → b ≡ false → (a && b) ≡ false
and-false false b h = refl
and-false true b h = h

dot_inside : (name rest : List ℕ) → has_none ((name ++ codes ".") ++ rest) ≡ false
dot_inside [] rest = refl
dot_inside (b ∷ name) rest = and-false (not (is_dot b)) (has_none ((name ++ codes ".") ++ rest)) (dot_inside name rest)

none_left-by : (text : List ℕ) (names : List (List ℕ)) → has_none text ≡ true → text ≡ dotted names → names ≡ []
none_left-by text [] h is = refl
none_left-by text (n ∷ names) h is =
    let dot : has_none text ≡ false = ap has_none is ∙ dot_inside n (dotted names) in
    cc

-- where there is no dot there are no names
pub none_left : (text : List ℕ) → position_or_len is_dot text ≡ length text → IsDotted text → names_in text ≡ []
none_left text h is = none_left-by text (names_in text) (none_of text h) is

-- behind the first dot there is a dot behind each as well
pub behind_first : (text : List ℕ) → position_or_len is_dot text < length text → IsDotted text → IsDotted (after_first is_dot text)
behind_first text h is =
    let before : List ℕ = before_first is_dot text in
    let after : List ℕ = after_first is_dot text in
    let b : ℕ = get_or text (position_or_len is_dot text) 0 in
    let one : text ≡ before ++ (b ∷ after) = split_at_first is_dot text 0 h in
    let two : text ≡ before ++ (46 ∷ dotted (names_in after)) = is ∙ ap dotted (taken text h) ∙ append_assoc before (codes ".") (dotted (names_in after)) in
    let rests : b ∷ after ≡ 46 ∷ dotted (names_in after) = append_cancel_left before (b ∷ after) (46 ∷ dotted (names_in after)) (sym one ∙ two) in
    cc
