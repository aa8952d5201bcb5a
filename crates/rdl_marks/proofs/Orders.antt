-- Items that weren't moved stand in the order of the numbers that they had, patch by patch.
use Rattle.std.proofs.Common.{◌≡◌, ℕ, zero, suc, ◌+◌, ◌-◌, ◌<◌, ◌≤◌, Bool, true, false, length, List, [], ◌∷◌, ◌++◌, Option, Some, None, cond, if◌then◌else◌, ◌==◌, ◌&&◌, nat_le, ne_eqb, refl, ap, sym, ◌∙◌, arith, subst}
use Rattle.std.specs.Prelude.{insert, remove, slice_get, slice_set, nat_lt}
use Rattle.std.proofs.lemmas.Bool.{lt-ltb}
use Rattle.rdl_tree.specs.Address.{holder_of, number_of}
use Rattle.rdl_tree.specs.Patch.{address_of}
use Rattle.rdl_tree.specs.declared.description.Item.{Item}
use Rattle.rdl_tree.specs.declared.part.Part.{Part}
use Rattle.rdl_tree.specs.declared.part.Part.TheVariants.{OfShell, OfValue, OfTarget, OfType, OfDefine}
use Rattle.rdl_tree.specs.declared.patch.Patch.{Patch}
use Rattle.rdl_tree.specs.declared.patch.Patch.TheVariants.{Insert, Delete, Shift, Exchange}
use Rattle.rdl_marks.specs.Describes.{times}
use Rattle.rdl_marks.specs.InOrder.{IfMoved, StandInOrder, AreInOrder, StaysInOrder, StayInOrder, moved_times, place_behind, next_place, PassesOverGoneOrMoved, GoesOn}
use Rattle.rdl_marks.specs.Marks.{Traces, no_traces, new_trace, old_trace, Marks, no_marks}
use Rattle.rdl_marks.specs.Noted.{exchanged, moved, changed_inside, reach, take_out, gone_as, told_at, taken_out_as, moved_to, at_item, noted_here, here, marks_at, all_noted}
use Rattle.rdl_marks.specs.View.{Trace, new_item, old_item, Told, traces_of, list_of, told_of, run}
use Rattle.rdl_marks.proofs.Rounds.{traces_of-list_of}

abbrev InOrder : ℕ → List Trace → ℕ → Type 0
InOrder least es behind = StandInOrder least (traces_of es) behind

-- the next item stands behind the others, whatever the rest is
fewer : (moved : Bool) (least less number behind : ℕ) (rest : Traces) → less ≤ least → (StandInOrder least rest behind → StandInOrder less rest behind)
    → IfMoved moved (StandInOrder least rest behind) ((least ≤ number) × StandInOrder (number + 1) rest behind)
    → IfMoved moved (StandInOrder less rest behind) ((less ≤ number) × StandInOrder (number + 1) rest behind)
fewer true least less number behind rest l down h = down h
fewer false least less number behind rest l down h = let k = h.0 in (omega (arith, l, k), h.1)

pub weaker : (least less : ℕ) (t : Traces) (behind : ℕ) → less ≤ least → StandInOrder least t behind → StandInOrder less t behind
weaker least less no_traces behind l h = omega (arith, l, h)
weaker least less (new_trace rest) behind l h = weaker least less rest behind l h
weaker least less (old_trace number firsts inside from gone items rest) behind l h =
    (h.0, fewer firsts.is_moved least less number behind rest l (weaker least less rest behind l) h.1)

-- an item that doesn't count: it is new, or was moved
abbrev IsFree : Trace → Type 0
IsFree new_item = Unit {0}
IsFree (old_item number firsts inside) = (firsts.is_moved ≡ true) × AreInOrder inside

moved_free : (e : Trace) (least behind : ℕ) (es : List Trace) → InOrder least (e ∷ es) behind → IsFree (moved e)
moved_free new_item least behind es h = tt
moved_free (old_item number firsts inside) least behind es h = (refl, h.0)

skip : (moved : Bool) (least number behind : ℕ) (rest : Traces) → moved ≡ true → StandInOrder least rest behind
    → IfMoved moved (StandInOrder least rest behind) ((least ≤ number) × StandInOrder (number + 1) rest behind)
skip true least number behind rest e h = h
skip false least number behind rest e h = absurd cc

free_first : (e : Trace) (least behind : ℕ) (es : List Trace) → IsFree e → InOrder least es behind → InOrder least (e ∷ es) behind
free_first new_item least behind es f h = h
free_first (old_item number firsts inside) least behind es f h = (f.1, skip firsts.is_moved least number behind (traces_of es) f.0 h)

behind_first : (m : Bool) (least number behind : ℕ) (rest : Traces) → IfMoved m (StandInOrder least rest behind) ((least ≤ number) × StandInOrder (number + 1) rest behind)
    → ((k : ℕ) → StandInOrder k rest behind → StandInOrder k rest behind) → StandInOrder least rest behind
behind_first true least number behind rest h f = h
behind_first false least number behind rest h f = let k = h.0 in weaker (number + 1) least rest behind (omega (arith, k)) h.1

-- with others in the place of those behind it
replaced : (m : Bool) (least number behind after : ℕ) (rest more : Traces) → ((k : ℕ) → StandInOrder k rest behind → StandInOrder k more after)
    → IfMoved m (StandInOrder least rest behind) ((least ≤ number) × StandInOrder (number + 1) rest behind)
    → IfMoved m (StandInOrder least more after) ((least ≤ number) × StandInOrder (number + 1) more after)
replaced true least number behind after rest more f h = f least h
replaced false least number behind after rest more f h = (h.0, f (number + 1) h.1)

after_first : (e : Trace) (least behind after : ℕ) (es ds : List Trace) → ((k : ℕ) → InOrder k es behind → InOrder k ds after) → InOrder least (e ∷ es) behind → InOrder least (e ∷ ds) after
after_first new_item least behind after es ds f h = f least h
after_first (old_item number firsts inside) least behind after es ds f h = (h.0, replaced firsts.is_moved least number behind after (traces_of es) (traces_of ds) f h.1)

pub inserted : (es : List Trace) (i : ℕ) (e : Trace) (least behind : ℕ) → IsFree e → InOrder least es behind → InOrder least (insert es i e) behind
inserted es zero e least behind f h = free_first e least behind es f h
inserted [] (suc i) e least behind f h = free_first e least behind [] f h
inserted (d ∷ es) (suc i) e least behind f h = after_first d least behind behind es (insert es i e) (λ k g. inserted es i e k behind f g) h

without_first : (d : Trace) (least behind : ℕ) (es : List Trace) → InOrder least (d ∷ es) behind → InOrder least es behind
without_first new_item least behind es h = h
without_first (old_item number firsts inside) least behind es h = behind_first firsts.is_moved least number behind (traces_of es) h.1 (λ k g. g)

pub removed : (es : List Trace) (i : ℕ) (least behind : ℕ) → InOrder least es behind → InOrder least (remove es i) behind
removed [] zero least behind h = h
removed [] (suc i) least behind h = h
removed (d ∷ es) zero least behind h = without_first d least behind es h
removed (d ∷ es) (suc i) least behind h = after_first d least behind behind es (remove es i) (λ k g. removed es i k behind g) h

run_ordered : (from count least : ℕ) → least ≤ from → InOrder least (run from count) (from + count)
run_ordered from zero least l = omega (arith, l)
run_ordered from (suc count) least l =
    let e : from + 1 + count ≡ from + suc count = omega arith in
    let none : 0 ≤ 0 = omega arith in
    (none, (l, subst (InOrder (from + 1) (run (from + 1) count)) e (run_ordered (from + 1) count (from + 1) (omega arith))))

appended : (es : List Trace) (behind count least : ℕ) → InOrder least es behind → InOrder least (es ++ run behind count) (behind + count)
appended [] behind count least h = run_ordered behind count least h
appended (d ∷ es) behind count least h = after_first d least behind (behind + count) es (es ++ run behind count) (λ k g. appended es behind count k g) h

pub reached : (count : ℕ) (t : Told) → InOrder 0 t.traces t.behind → InOrder 0 (reach count t).traces (reach count t).behind
reached count t h = appended t.traces t.behind (count - length t.traces) 0 h

-- an item of which the same is told but for what stood there first or is inside it
abbrev IsLike : Trace → Trace → Type 0
IsLike e d = (least behind : ℕ) (es : List Trace) → InOrder least (e ∷ es) behind → InOrder least (d ∷ es) behind

set_like : (es : List Trace) (i : ℕ) (e d : Trace) (least behind : ℕ) → slice_get es i ≡ Some e → IsLike e d → InOrder least es behind → InOrder least (slice_set es i d) behind
set_like [] i e d least behind g like h = h
set_like (c ∷ es) zero e d least behind g like h =
    let same : c ≡ e = cc in
    like least behind es (subst (λ z. InOrder least (z ∷ es) behind) same h)
set_like (c ∷ es) (suc i) e d least behind g like h = after_first c least behind behind es (slice_set es i d) (λ k f. set_like es i e d k behind g like f) h

exchanged_like : (part : Part) (e : Trace) → IsLike e (exchanged part e)
exchanged_like part new_item least behind es h = h
exchanged_like (OfShell s) (old_item number firsts inside) least behind es h = h
exchanged_like (OfValue v) (old_item number firsts inside) least behind es h = h
exchanged_like (OfTarget t) (old_item number firsts inside) least behind es h = h
exchanged_like (OfType n) (old_item number firsts inside) least behind es h = h
exchanged_like (OfDefine n) (old_item number firsts inside) least behind es h = h

inside_like : (f : Marks → Marks) → ((m : Marks) → AreInOrder m → AreInOrder (f m)) → (e : Trace) → IsLike e (changed_inside f e)
inside_like f keep new_item least behind es h = h
inside_like f keep (old_item number firsts inside) least behind es h = (keep inside h.0, h.1)

-- ---- One patch.

at_item_ordered : (n : ℕ) (f : Trace → Trace) (t : Told) → ((e : Trace) → IsLike e (f e)) → InOrder 0 t.traces t.behind → InOrder 0 (at_item n f t).traces (at_item n f t).behind
at_item_ordered n f t like h = into (slice_get (reach (n + 1) t).traces n) refl
  where
    all : Told
    all = reach (n + 1) t

    into : (o : Option Trace) → slice_get all.traces n ≡ o → InOrder 0 (told_at n f o all).traces (told_at n f o all).behind
    into None e = reached (n + 1) t h
    into (Some d) e = set_like all.traces n d (f d) 0 all.behind e (like d) (reached (n + 1) t h)

gone_ordered : (x : Item) (e : Trace) (t : Told) → InOrder 0 t.traces t.behind → InOrder 0 (gone_as x e t).traces (gone_as x e t).behind
gone_ordered x new_item t h = h
gone_ordered x (old_item number firsts inside) t h = h

taken_out : (n : ℕ) (t : Told) → InOrder 0 t.traces t.behind → InOrder 0 (take_out n t).traces (take_out n t).behind
taken_out n t h = removed t.traces n 0 t.behind h

-- what is told of an item holds of it alone
alone : (es : List Trace) (i : ℕ) (e : Trace) (least behind : ℕ) → slice_get es i ≡ Some e → InOrder least es behind → IsFree (moved e)
alone [] i e least behind g h = absurd cc
alone (c ∷ es) zero e least behind g h =
    let same : c ≡ e = cc in
    subst (λ z. IsFree (moved z)) same (moved_free c least behind es h)
alone (c ∷ es) (suc i) e least behind g h = alone es i e least behind g (without_first c least behind es h)

shift_ordered : (from to : ℕ) (all : Told) (o : Option Trace) → slice_get all.traces from ≡ o → InOrder 0 all.traces all.behind → InOrder 0 (moved_to from to o all).traces (moved_to from to o all).behind
shift_ordered from to all None e h = h
shift_ordered from to all (Some d) e h =
    let left : Told = reach to (take_out from all) in
    inserted left.traces to (moved d) 0 left.behind (alone all.traces from d 0 all.behind e h) (reached to (take_out from all) (taken_out from all h))

delete_ordered : (n : ℕ) (x : Item) (all : Told) (o : Option Trace) → InOrder 0 all.traces all.behind → InOrder 0 (taken_out_as n x o all).traces (taken_out_as n x o all).behind
delete_ordered n x all None h = h
delete_ordered n x all (Some d) h = gone_ordered x d (take_out n all) (taken_out n all h)

here_ordered : (back : Patch) (n : ℕ) (t : Told) → InOrder 0 t.traces t.behind → InOrder 0 (noted_here back n t).traces (noted_here back n t).behind
here_ordered (Delete at) n t h = let all : Told = reach n t in inserted all.traces n new_item 0 all.behind tt (reached n t h)
here_ordered (Insert at x) n t h = let all : Told = reach (n + 1) t in delete_ordered n x all (slice_get all.traces n) (reached (n + 1) t h)
here_ordered (Shift at from) n t h = let all : Told = reach (from + 1) t in shift_ordered from n all (slice_get all.traces from) refl (reached (from + 1) t h)
here_ordered (Exchange at part) n t h = at_item_ordered n (exchanged part) t (exchanged_like part) h

-- ---- In any body.

to_list : (m : Marks) → AreInOrder m → InOrder 0 (told_of m).traces (told_of m).behind
to_list m h = subst (λ t. StandInOrder 0 t m.behind) (sym (traces_of-list_of m.traces)) h

along : (way : List ℕ) (f : Marks → Marks) → ((m : Marks) → AreInOrder m → AreInOrder (f m)) → (m : Marks) → AreInOrder m → AreInOrder (marks_at way f m)
along [] f keep m h = keep m h
along (i ∷ way) f keep m h = at_item_ordered i (changed_inside (marks_at way f)) (told_of m) (inside_like (marks_at way f) (along way f keep)) (to_list m h)

unless : (c : Bool) (m n : Marks) → AreInOrder m → AreInOrder n → AreInOrder (cond c n m)
unless true m n h k = k
unless false m n h k = h

pub stays_in_order : StaysInOrder
stays_in_order back m h =
    unless (nat_le 1 (length (address_of back))) m (marks_at (holder_of (address_of back)) (here back (number_of (address_of back))) m) h
    (along (holder_of (address_of back)) (here back (number_of (address_of back))) (λ n k. here_ordered back (number_of (address_of back)) (told_of n) (to_list n k)) m h)

pub stay_in_order : StayInOrder
stay_in_order [] m h = h
stay_in_order (back ∷ backs) m h = stays_in_order back (all_noted backs m) (stay_in_order backs m h)

-- ---- Beside the old body.

abbrev moved_in : ℕ → List Trace → ℕ
moved_in n es = moved_times n (traces_of es)

-- how often a number is that of an item that wasn't moved
abbrev stayed_times : ℕ → List Trace → ℕ
stayed_times n [] = 0
stayed_times n (new_item ∷ es) = stayed_times n es
stayed_times n (old_item number firsts inside ∷ es) = (if firsts.is_moved then 0 else (if number == n then 1 else 0)) + stayed_times n es

split_one : (m z : Bool) (a b c : ℕ) → a ≡ b + c → (if z then 1 else 0) + a ≡ ((if m && z then 1 else 0) + b) + ((if m then 0 else (if z then 1 else 0)) + c)
split_one true true a b c e = omega (arith, e)
split_one true false a b c e = omega (arith, e)
split_one false true a b c e = omega (arith, e)
split_one false false a b c e = omega (arith, e)

times_split : (n : ℕ) (es : List Trace) → times n (traces_of es) ≡ moved_in n es + stayed_times n es
times_split n [] = refl
times_split n (new_item ∷ es) = times_split n es
times_split n (old_item number firsts inside ∷ es) = split_one firsts.is_moved (number == n) (times n (traces_of es)) (moved_in n es) (stayed_times n es) (times_split n es)

stayed_append : (n : ℕ) (es ds : List Trace) → stayed_times n (es ++ ds) ≡ stayed_times n es + stayed_times n ds
stayed_append n [] ds = omega arith
stayed_append n (new_item ∷ es) ds = stayed_append n es ds
stayed_append n (old_item number firsts inside ∷ es) ds =
    let own : ℕ = if firsts.is_moved then 0 else (if number == n then 1 else 0) in
    let e = stayed_append n es ds in
    omega (arith, e)

other_number : (number n : ℕ) → (number ≡ n → ⊥) → ◌≡◌ {A = ℕ} (if number == n then 1 else 0) 0
other_number number n h = ap (λ (z : Bool). (let o : ℕ = if z then 1 else 0 in o)) (ne_eqb number n h)

-- no item from the first on that stayed has a number below the least
none_below : (n least behind : ℕ) (es : List Trace) → InOrder least es behind → n < least → stayed_times n es ≡ 0
none_below n least behind [] h l = refl
none_below n least behind (new_item ∷ es) h l = none_below n least behind es h l
none_below n least behind (old_item number firsts inside ∷ es) h l = by (λ k. none_below n k behind es) firsts.is_moved h.1
  where
    by : ((k : ℕ) → InOrder k es behind → n < k → stayed_times n es ≡ 0) → (m : Bool) → IfMoved m (InOrder least es behind) ((least ≤ number) × InOrder (number + 1) es behind) → (if m then 0 else (if number == n then 1 else 0)) + stayed_times n es ≡ 0
    by others true g = let e = others least g l in omega (arith, e)
    by others false g =
        let k = g.0 in
        let more = others (number + 1) g.1 (omega (arith, k, l)) in
        let own = other_number number n (λ e. absurd (omega (arith, e, k, l))) in
        omega (arith, own, more)

-- nor one below the next place
none_before_next : (n least behind : ℕ) (es : List Trace) → InOrder least es behind → n < next_place es behind → stayed_times n es ≡ 0
none_before_next n least behind [] h l = refl
none_before_next n least behind (new_item ∷ es) h l = none_before_next n least behind es h l
none_before_next n least behind (old_item number firsts inside ∷ es) h l = by (none_before_next n least behind es) firsts.is_moved h.1 l
  where
    by : (InOrder least es behind → n < next_place es behind → stayed_times n es ≡ 0) → (m : Bool) → IfMoved m (InOrder least es behind) ((least ≤ number) × InOrder (number + 1) es behind) → n < (if m then next_place es behind else number)
        → (if m then 0 else (if number == n then 1 else 0)) + stayed_times n es ≡ 0
    by others true g l = let e = others g l in omega (arith, e)
    by others false g l =
        let more = none_below n (number + 1) behind es g.1 (omega (arith, l)) in
        let own = other_number number n (λ e. absurd (omega (arith, e, l))) in
        omega (arith, own, more)

next_is_behind : (least behind : ℕ) (es : List Trace) → InOrder least es behind → least ≤ next_place es behind
next_is_behind least behind [] h = h
next_is_behind least behind (new_item ∷ es) h = next_is_behind least behind es h
next_is_behind least behind (old_item number firsts inside ∷ es) h = by (next_is_behind least behind es) firsts.is_moved h.1
  where
    by : (InOrder least es behind → least ≤ next_place es behind) → (m : Bool) → IfMoved m (InOrder least es behind) ((least ≤ number) × InOrder (number + 1) es behind) → least ≤ (if m then next_place es behind else number)
    by others true g = others g
    by others false g = g.0

-- what is known behind the items that are done
pub record IsDone (place behind : ℕ) (done rest : List Trace) : Type 0 where
  pub grows : place ≤ place_behind place done
  pub left : InOrder (place_behind place done) rest behind
  pub none : (n : ℕ) → place_behind place done ≤ n → stayed_times n done ≡ 0

is_done : (place behind : ℕ) (done rest : List Trace) → InOrder place (done ++ rest) behind → IsDone place behind done rest
is_done place behind [] rest h = record { grows = omega arith; left = h; none = λ n l. refl }
is_done place behind (new_item ∷ done) rest h =
    let d = is_done place behind done rest h in
    record { grows = d.grows; left = d.left; none = d.none }
is_done place behind (old_item number firsts inside ∷ done) rest h = let all = by (λ k. is_done k behind done rest) firsts.is_moved h.1 in record { grows = all.0; left = all.1; none = all.2 }
  where
    by : ((k : ℕ) → InOrder k (done ++ rest) behind → IsDone k behind done rest) → (m : Bool) → IfMoved m (InOrder place (done ++ rest) behind) ((place ≤ number) × InOrder (number + 1) (done ++ rest) behind)
        → (place ≤ place_behind (if m then place else number + 1) done)
        × InOrder (place_behind (if m then place else number + 1) done) rest behind
        × ((n : ℕ) → place_behind (if m then place else number + 1) done ≤ n → (if m then 0 else (if number == n then 1 else 0)) + stayed_times n done ≡ 0)
    by others true g = let d = others place g in (d.grows, d.left, λ n l. let e = d.none n l in omega (arith, e))
    by others false g =
        let d = others (number + 1) g.1 in
        let k = g.0 in
        let more = d.grows in
        (omega (arith, k, more), d.left, λ n l. let own = other_number number n (λ e. absurd (omega (arith, e, l, more))) in let others = d.none n l in omega (arith, own, others))

if_below : (n k : ℕ) → n < k → ◌≡◌ {A = ℕ} (if nat_lt n k then 1 else 0) 1
if_below n k l = ap (λ (z : Bool). (let o : ℕ = if z then 1 else 0 in o)) (lt-ltb n k l)

next_within : (least behind : ℕ) (es : List Trace) → InOrder least es behind → next_place es behind ≤ behind
next_within least behind [] h = omega arith
next_within least behind (new_item ∷ es) h = next_within least behind es h
next_within least behind (old_item number firsts inside ∷ es) h = by (λ k. next_within k behind es) firsts.is_moved h.1
  where
    by : ((k : ℕ) → InOrder k es behind → next_place es behind ≤ behind) → (m : Bool) → IfMoved m (InOrder least es behind) ((least ≤ number) × InOrder (number + 1) es behind) → (if m then next_place es behind else number) ≤ behind
    by others true g = others least g
    by others false g = let k = others (number + 1) g.1 in let l = next_is_behind (number + 1) behind es g.1 in omega (arith, k, l)

pub passes_over : PassesOverGoneOrMoved
passes_over m old now described ordered done rest split n low high =
    let listed : InOrder 0 (done ++ rest) m.behind = subst (λ es. InOrder 0 es m.behind) split (to_list m ordered) in
    let d = is_done 0 m.behind done rest listed in
    let here : stayed_times n done ≡ 0 = d.none n low in
    let there : stayed_times n rest ≡ 0 = none_before_next n (place_behind 0 done) m.behind rest d.left high in
    let none : stayed_times n (list_of m.traces) ≡ 0 = ap (stayed_times n) split ∙ (stayed_append n done rest ∙ (λ i. here i + there i)) in
    let all : times n (traces_of (list_of m.traces)) ≡ moved_in n (list_of m.traces) + stayed_times n (list_of m.traces) = times_split n (list_of m.traces) in
    let whole : times n m.traces ≡ moved_times n m.traces + stayed_times n (list_of m.traces) =
    sym (ap (times n) (traces_of-list_of m.traces)) ∙ (all ∙ ap (λ t. moved_times n t + stayed_times n (list_of m.traces)) (traces_of-list_of m.traces)) in
    let once = described.once n in
    let last = next_within (place_behind 0 done) m.behind rest d.left in
    let one = if_below n m.behind (omega (arith, high, last)) in
    omega (arith, none, whole, once, one)

pub goes_on : GoesOn
goes_on m ordered done rest split =
    let listed : InOrder 0 (done ++ rest) m.behind = subst (λ es. InOrder 0 es m.behind) split (to_list m ordered) in
    let d = is_done 0 m.behind done rest listed in
    next_is_behind (place_behind 0 done) m.behind rest d.left

pub first_in_order : AreInOrder no_marks
first_in_order = omega arith
