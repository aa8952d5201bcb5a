-- What holds of the items of a body up to a number, one item after another, and which of them stand alone by that.
use Rattle.std.proofs.Common.{◌≡◌, ℕ, zero, suc, ◌+◌, ◌-◌, ◌<◌, ◌≤◌, List, [], ◌∷◌, ◌++◌, length, drop, Option, Some, None, ◌⊎◌, inl, inr, refl, sym, ap, subst, ◌∙◌, arith, add-one}
use Rattle.std.specs.Prelude.{Bool, true, false, nat_lt, slice_get, if◌then◌else◌}
use Rattle.std.proofs.lemmas.Bool.{cases_lt, ltb-true}
use Rattle.rdl_tree.specs.Items.{Items}
use Rattle.rdl_tree.specs.View.{list_of}
use Rattle.rdl_tree.specs.declared.description.Item.{Item}
use Rattle.rdl_tree.specs.declared.description.Item.TheVariants.{Define, Instance, Own, Default, Dynamic}
use Rattle.rdl_marks.specs.Describes.{Describes, IsItem}
use Rattle.rdl_marks.specs.Marks.{Marks, no_marks}
use Rattle.rdl_marks.specs.View.{Trace, old_item, same_item, run, list_of as traces_of, firsts_of, marked, piece_traces, pieces_traces}
use Rattle.rdl_marks.specs.declared.marks.Mark.{Mark}
use Rattle.rdl_marks.specs.declared.marks.Piece.{Piece}
use Rattle.rdl_marks.specs.Was.{trace_of}
use Rattle.rdl_marks.proofs.Cuts.{length-run}
use Rattle.rdl_renew.specs.Alone.{clashes, stands_alone, AllStandAlone}
use Rattle.rdl_renew.specs.Apart.{is_own, has_same_key, IsApart, DoOwnsStandAlone, IsAsItWasOrApart, AllStandAloneStill, ApartStandAlone, AreSame, IsSameOrApart, AreSameOrApart}
use Rattle.rdl_renew.specs.TakenOver.{retyped, IsAsItWasOutside}
use Rattle.rdl_renew.proofs.Raises.{drop_here}
use Rattle.rdl_renew.proofs.Alone.{clashes_are_turned, stands_alone_by_items, stands_alone_still}

-- each item of the body from one number up to another is so
abbrev pub AllFrom : (P : ℕ → Item → Type 0) → Items → (from to : ℕ) → Type 0
AllFrom P body from to = (i : ℕ) (y : Item) → from ≤ i → i < to → IsItem i body y → P i y

pub none_from : (P : ℕ → Item → Type 0) (body : Items) (n : ℕ) → AllFrom P body n n
none_from P body n i y l g got = absurd (omega (arith, l, g))

pub one_more : (P : ℕ → Item → Type 0) (body : Items) (from n : ℕ) → AllFrom P body from n → ((y : Item) → IsItem n body y → P n y) → AllFrom P body from (n + 1)
one_more P body from n all here i y l g got = by (cases_lt i n)
  where
    by : (i < n) ⊎ (n ≤ i) → P i y
    by (inl b) = all i y l b got
    by (inr e) = let same : i ≡ n = omega (arith, g, e) in subst (λ k. P k y) (sym same) (here y (subst (λ k. IsItem k body y) same got))

-- an item is the one that was looked up
pub got_item : (body : Items) (n : ℕ) (x y : Item) → Some x ≡ slice_get (list_of body) n → IsItem n body y → x ≡ y
got_item body n x y e got = let same : ◌≡◌ {A = Option Item} (Some x) (Some y) = e ∙ got in cc

no_item : (body : Items) (n : ℕ) (y : Item) → ◌≡◌ {A = Option Item} None (slice_get (list_of body) n) → IsItem n body y → ⊥
no_item body n y e got = let same : ◌≡◌ {A = Option Item} None (Some y) = e ∙ got in absurd cc

-- where there is none, or one that is so, it is one more
pub one_missing : (P : ℕ → Item → Type 0) (body : Items) (from n : ℕ) → AllFrom P body from n → ◌≡◌ {A = Option Item} None (slice_get (list_of body) n) → AllFrom P body from (n + 1)
one_missing P body from n all e = one_more P body from n all (λ y got. absurd (no_item body n y e got))

pub one_there : (P : ℕ → Item → Type 0) (body : Items) (from n : ℕ) (x : Item) → AllFrom P body from n → Some x ≡ slice_get (list_of body) n → P n x → AllFrom P body from (n + 1)
one_there P body from n x all e p = one_more P body from n all (λ y got. subst (P n) (got_item body n x y e got) p)

-- so each is where no number is left
pub all_below : (P : ℕ → Item → Type 0) (body : Items) (from n to : ℕ) → AllFrom P body from n → to ≤ n → AllFrom P body from to
all_below P body from n to all past i y l g got = all i y l (omega (arith, g, past)) got

-- an item has a number below how many there are
pub below_count : (body : Items) (i : ℕ) (y : Item) (n : ℕ) → n ≡ length (list_of body) → IsItem i body y → i < n
below_count body i y n e got = let l = below (list_of body) i got in omega (arith, l, e)
  where
    below : (xs : List Item) (i : ℕ) → slice_get xs i ≡ Some y → i < length xs
    below [] i e = absurd cc
    below (x ∷ xs) zero e = omega arith
    below (x ∷ xs) (suc i) e = let l = below xs i e in omega (arith, l)

-- ---- Which of them stand alone.

-- of two items that do not the same none clashes with the other, unless both are own assignments
apart_clash : (z y : Item) → has_same_key z y ≡ false → is_own z ≡ false → clashes z y ≡ false
apart_clash (Define n c) y e o = e
apart_clash (Instance s of) y e o = e
apart_clash (Own p v) y e o = absurd cc
apart_clash (Default p v) y e o = e
apart_clash (Dynamic t p v) y e o = e

-- an own assignment clashes with no other item than such a one
own_clash : (y z : Item) → is_own y ≡ false → is_own z ≡ true → clashes y z ≡ false
own_clash (Define n c) (Own q w) e o = refl
own_clash (Instance s of) (Own q w) e o = refl
own_clash (Own p v) (Own q w) e o = absurd cc
own_clash (Default p v) (Own q w) e o = refl
own_clash (Dynamic t p v) (Own q w) e o = refl
own_clash y (Define n c) e o = absurd cc
own_clash y (Instance s of) e o = absurd cc
own_clash y (Default p v) e o = absurd cc
own_clash y (Dynamic t p v) e o = absurd cc

decide : (b : Bool) → (b ≡ true) ⊎ (b ≡ false)
decide true = inl refl
decide false = inr refl

-- one that isn't an own assignment, by those before it
other_alone : (m : Marks) (old now : Items) (owns : Bool) → Describes m old now → AllStandAlone old → ((i : ℕ) (y : Item) → IsItem i now y → IsAsItWasOrApart m now owns i y)
    → (i : ℕ) (y : Item) → IsItem i now y → is_own y ≡ false → IsAsItWasOrApart m now owns i y → stands_alone now i y ≡ true
other_alone m old now owns described was each i y got other (inl stayed) = stands_alone_still m old now described was i stayed.0 y got stayed.1 before
  where
    before : (j : ℕ) (z : Item) → j < i → IsItem j now z → ((k : ℕ) × IsAsItWasOutside m j k) ⊎ (clashes y z ≡ false)
    before j z l here = by (each j z here) (decide (is_own z))
      where
        by : IsAsItWasOrApart m now owns j z → (is_own z ≡ true) ⊎ (is_own z ≡ false) → ((k : ℕ) × IsAsItWasOutside m j k) ⊎ (clashes y z ≡ false)
        by (inl same) o = inl same
        by (inr apart) (inl own) = inr (own_clash y z other own)
        by (inr apart) (inr name) = inr (clashes_are_turned y z ∙ apart_clash z y (apart.0 i y (λ e. absurd (omega (arith, l, e))) got) name)
other_alone m old now owns described was each i y got other (inr apart) =
    stands_alone_by_items now i y (λ j z l here. apart_clash y z (apart.0 j z (λ e. absurd (omega (arith, l, e))) here) other)

-- an own assignment, where none was changed
own_alone : (m : Marks) (old now : Items) → Describes m old now → AllStandAlone old → ((i : ℕ) (y : Item) → IsItem i now y → IsAsItWasOrApart m now false i y)
    → (i : ℕ) (y : Item) → IsItem i now y → is_own y ≡ true → IsAsItWasOrApart m now false i y → stands_alone now i y ≡ true
own_alone m old now described was each i y got own (inl stayed) = stands_alone_still m old now described was i stayed.0 y got stayed.1 before
  where
    before : (j : ℕ) (z : Item) → j < i → IsItem j now z → ((k : ℕ) × IsAsItWasOutside m j k) ⊎ (clashes y z ≡ false)
    before j z l here = by (each j z here)
      where
        by : IsAsItWasOrApart m now false j z → ((k : ℕ) × IsAsItWasOutside m j k) ⊎ (clashes y z ≡ false)
        by (inl same) = inl same
        by (inr apart) = inr (clashes_are_turned y z ∙ own_clash z y (apart.1 refl) own)
own_alone m old now described was each i y got own (inr apart) = absurd (let e = sym own ∙ apart.1 refl in cc)

pub all_stand_alone_still : AllStandAloneStill
all_stand_alone_still m old now owns described was each alone i y got = by owns (decide (is_own y)) each alone
  where
    by : (owns : Bool) → (is_own y ≡ true) ⊎ (is_own y ≡ false) → ((i : ℕ) (y : Item) → IsItem i now y → IsAsItWasOrApart m now owns i y)
        → (owns ≡ true → DoOwnsStandAlone now) → stands_alone now i y ≡ true
    by owns (inr other) all lone = other_alone m old now owns described was all i y got other (all i y got)
    by true (inl own) all lone = lone refl i y got own
    by false (inl own) all lone = own_alone m old now described was all i y got own (all i y got)

pub apart_stand_alone : ApartStandAlone
apart_stand_alone body apart alone i y got = by (decide (is_own y))
  where
    by : (is_own y ≡ true) ⊎ (is_own y ≡ false) → stands_alone body i y ≡ true
    by (inl own) = alone i y got own
    by (inr other) = stands_alone_by_items body i y (λ j z l here. apart_clash y z (apart i y got j z (λ e. absurd (omega (arith, l, e))) here) other)

-- ---- Pieces.

get_run : (from count j : ℕ) → j < count → slice_get (run from count) j ≡ Some (same_item (from + j))
get_run from zero j l = absurd (omega (arith, l))
get_run from (suc count) zero l = ap (λ n. Some (same_item n)) (let e : from ≡ from + 0 = omega arith in e)
get_run from (suc count) (suc j) l = get_run (from + 1) count j (omega (arith, l)) ∙ ap (λ n. Some (same_item n)) (let e : from + 1 + j ≡ from + suc j = omega arith in e)

pub run_same : (from count : ℕ) → AreSame (run from count)
run_same from count j l = (from + j, no_marks, None, get_run from count j (let n = length-run from count in omega (arith, l, n)))

-- an item of which no part was exchanged but the type that it names
pub one_same : (number : ℕ) (m : Mark) → firsts_of m ≡ retyped (firsts_of m).type_name → AreSame (marked number m ∷ [])
one_same number m none zero l = (number, m.inside, (firsts_of m).type_name, ap (λ f. Some (old_item number f m.inside)) none)
one_same number m none (suc j) l = absurd (omega (arith, l))

get_behind : (done es : List Trace) (j : ℕ) → slice_get (done ++ es) (length done + j) ≡ slice_get es j
get_behind [] es j = ap (slice_get es) (let e : 0 + j ≡ j = omega arith in e)
get_behind (d ∷ ds) es j = ap (slice_get (d ∷ (ds ++ es))) (let e : suc (length ds) + j ≡ suc (length ds + j) = omega arith in e) ∙ get_behind ds es j

get_first : (es more : List Trace) (j : ℕ) → j < length es → slice_get (es ++ more) j ≡ slice_get es j
get_first [] more j l = absurd (omega (arith, l))
get_first (e ∷ es) more zero l = refl
get_first (e ∷ es) more (suc j) l = get_first es more j (omega (arith, l))

-- so far each item is the same or apart
pub record AreDoneApart (all rest : List Trace) (body : Items) (owns : Bool) (from : ℕ) : Type 0 where
  pub done : List Trace
  pub parts : all ≡ done ++ rest
  pub count : length done ≡ from
  pub each : AllFrom (IsSameOrApart all body owns) body 0 from

together : (xs ys zs : List Trace) → xs ++ (ys ++ zs) ≡ (xs ++ ys) ++ zs
together [] ys zs = refl
together (x ∷ xs) ys zs = ap (λ ws. x ∷ ws) (together xs ys zs)

both_counted : (xs ys : List Trace) → length (xs ++ ys) ≡ length xs + length ys
both_counted [] ys = let e : length ys ≡ 0 + length ys = omega arith in e
both_counted (x ∷ xs) ys = let e = both_counted xs ys in omega (arith, e)

later_owns : (all : List Trace) (body : Items) (owns now : Bool) (i : ℕ) (y : Item) → (now ≡ false → owns ≡ false) → IsSameOrApart all body owns i y → IsSameOrApart all body now i y
later_owns all body owns now i y less (inl same) = inl same
later_owns all body owns now i y less (inr apart) = inr (apart.0, λ e. apart.1 (less e))

pub kept_done : (all es rest : List Trace) (body : Items) (owns : Bool) (from : ℕ) → AreDoneApart all (es ++ rest) body owns from → AreSame es → AreDoneApart all rest body owns (from + length es)
kept_done all es rest body owns from is same =
    let n = is.count in
    record {
      done = is.done ++ es;
      parts = is.parts ∙ together is.done es rest;
      count = both_counted is.done es ∙ ap (λ k. k + length es) is.count;
      each = each;
    }
  where
    here : (i : ℕ) → from ≤ i → i < from + length es → (n : ℕ) × (inside : Marks) × (t : Option (List ℕ)) × (slice_get all i ≡ Some (old_item n (retyped t) inside))
    here i l g =
        let n = is.count in
        let at : i ≡ length is.done + (i - from) = omega (arith, l, n) in
        let one = same (i - from) (omega (arith, l, g)) in
        (one.0, one.1, one.2, ap (λ zs. slice_get zs i) is.parts ∙ (ap (slice_get (is.done ++ (es ++ rest))) at ∙ (get_behind is.done (es ++ rest) (i - from) ∙ (get_first es rest (i - from) (omega (arith, l, g)) ∙ one.3))))

    each : AllFrom (IsSameOrApart all body owns) body 0 (from + length es)
    each i y z l got = by (cases_lt i from)
      where
        by : (i < from) ⊎ (from ≤ i) → IsSameOrApart all body owns i y
        by (inl b) = is.each i y z b got
        by (inr b) = inl (here i b l)

pub changed_done : (all es rest : List Trace) (body : Items) (owns now : Bool) (from : ℕ) → AreDoneApart all (es ++ rest) body owns from
    → AllFrom (IsApart body) body from (from + length es) → (now ≡ false → (owns ≡ false) × AllFrom (λ i y. is_own y ≡ false) body from (from + length es))
    → AreDoneApart all rest body now (from + length es)
changed_done all es rest body owns now from is apart none =
    record {
      done = is.done ++ es;
      parts = is.parts ∙ together is.done es rest;
      count = both_counted is.done es ∙ ap (λ k. k + length es) is.count;
      each = each;
    }
  where
    each : AllFrom (IsSameOrApart all body now) body 0 (from + length es)
    each i y z l got = by (cases_lt i from)
      where
        by : (i < from) ⊎ (from ≤ i) → IsSameOrApart all body now i y
        by (inl b) = later_owns all body owns now i y (λ e. (none e).0) (is.each i y z b got)
        by (inr b) = inr (apart i y b l got, λ e. (none e).1 i y b l got)

pub none_done : (all : List Trace) (body : Items) → AreDoneApart all all body false 0
none_done all body = record { done = []; parts = refl; count = refl; each = none_from (IsSameOrApart all body false) body 0 }

-- one more piece
left : (ps : List Piece) (k : ℕ) (p : Piece) → slice_get ps k ≡ Some p → pieces_traces (drop k ps) ≡ piece_traces p ++ pieces_traces (drop (k + 1) ps)
left ps k p e = ap pieces_traces (drop_here ps k p e ∙ ap (λ n. p ∷ drop n ps) (sym (add-one k)))

pub kept_piece : (ps : List Piece) (k : ℕ) (p : Piece) (body : Items) (owns now : Bool) (from to : ℕ) → slice_get ps k ≡ Some p
    → AreDoneApart (pieces_traces ps) (pieces_traces (drop k ps)) body owns from → to ≡ from + length (piece_traces p) → AreSame (piece_traces p) → now ≡ owns
    → AreDoneApart (pieces_traces ps) (pieces_traces (drop (k + 1) ps)) body now to
kept_piece ps k p body owns now from to e is at same o =
    subst (λ n. AreDoneApart (pieces_traces ps) (pieces_traces (drop (k + 1) ps)) body now n) (sym at)
    (subst (λ b. AreDoneApart (pieces_traces ps) (pieces_traces (drop (k + 1) ps)) body b (from + length (piece_traces p))) (sym o)
    (kept_done (pieces_traces ps) (piece_traces p) (pieces_traces (drop (k + 1) ps)) body owns from (subst (λ zs. AreDoneApart (pieces_traces ps) zs body owns from) (left ps k p e) is) same))

pub changed_piece : (ps : List Piece) (k : ℕ) (p : Piece) (body : Items) (owns now : Bool) (from to : ℕ) → slice_get ps k ≡ Some p
    → AreDoneApart (pieces_traces ps) (pieces_traces (drop k ps)) body owns from → to ≡ from + length (piece_traces p)
    → AllFrom (IsApart body) body from to → (now ≡ false → (owns ≡ false) × AllFrom (λ i y. is_own y ≡ false) body from to)
    → AreDoneApart (pieces_traces ps) (pieces_traces (drop (k + 1) ps)) body now to
changed_piece ps k p body owns now from to e is at apart none =
    subst (λ n. AreDoneApart (pieces_traces ps) (pieces_traces (drop (k + 1) ps)) body now n) (sym at)
    (changed_done (pieces_traces ps) (piece_traces p) (pieces_traces (drop (k + 1) ps)) body owns now from (subst (λ zs. AreDoneApart (pieces_traces ps) zs body owns from) (left ps k p e) is)
    (subst (λ n. AllFrom (IsApart body) body from n) at apart) (λ q. ((none q).0, subst (λ n. AllFrom (λ i y. is_own y ≡ false) body from n) at (none q).1)))

pub all_done : (all : List Trace) (body : Items) (owns : Bool) (from : ℕ) → AreDoneApart all [] body owns from → AreSameOrApart all body owns
all_done all body owns from is i y l got =
    let n = is.count in
    let p = ap length is.parts ∙ both_counted is.done [] in
    is.each i y (omega arith) (omega (arith, l, n, p)) got

-- behind the pieces each item is as it was
pub as_it_was : (m : Marks) (es : List Trace) (body : Items) (owns : Bool) → traces_of m.traces ≡ es → AreSameOrApart es body owns → (i : ℕ) (y : Item) → IsItem i body y → IsAsItWasOrApart m body owns i y
as_it_was m es body owns are each i y got = by (nat_lt i (length (traces_of m.traces))) refl
  where
    told : (t : Bool) → nat_lt i (length (traces_of m.traces)) ≡ t → trace_of m i ≡ (if t then slice_get (traces_of m.traces) i else Some (same_item (m.behind + (i - length (traces_of m.traces)))))
    told t e = ap (λ b. if b then slice_get (traces_of m.traces) i else Some (same_item (m.behind + (i - length (traces_of m.traces))))) e

    by : (t : Bool) → nat_lt i (length (traces_of m.traces)) ≡ t → IsAsItWasOrApart m body owns i y
    by true e = here (each i y (subst (λ zs. i < length zs) are (ltb-true i (length (traces_of m.traces)) e)) got)
      where
        here : IsSameOrApart es body owns i y → IsAsItWasOrApart m body owns i y
        here (inl same) = inl (same.0, (same.1, same.2, told true e ∙ (ap (λ zs. slice_get zs i) are ∙ same.3)))
        here (inr apart) = inr apart
    by false e = inl (m.behind + (i - length (traces_of m.traces)), (no_marks, None, told false e))
