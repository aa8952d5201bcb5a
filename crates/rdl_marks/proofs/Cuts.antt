-- Pieces, and what is told of their items one by one.
use Rattle.std.proofs.Common.{◌≡◌, ℕ, zero, suc, ◌+◌, ◌-◌, ◌<◌, ◌≤◌, length, List, [], ◌∷◌, ◌++◌, take, drop, Bool, false, if◌then◌else◌, Option, Some, None, refl, ap, sym, ◌∙◌, arith, subst, append_assoc, length-append}
use Rattle.std.specs.Prelude.{insert, remove, slice_get, slice_set, replicate, IfSome}
use Rattle.std.proofs.lemmas.List.{append-nil, reverse-append, length-replicate, replicate-append-replicate}
use Rattle.rdl_marks.specs.Marks.{no_firsts, no_marks}
use Rattle.rdl_marks.specs.View.{Trace, new_item, old_item, same_item, run, firsts_of, marked, piece_traces, pieces_traces}
use Rattle.rdl_marks.specs.Cut.{traces_before, traces_behind, traces_in, rest_traces, IsSingle, the_trace, Reaches}
use Rattle.rdl_marks.specs.declared.marks.Mark.{Mark}
use Rattle.rdl_marks.specs.declared.marks.Piece.{Piece}
use Rattle.rdl_marks.specs.declared.marks.Pieces.{Pieces}
use Rattle.rdl_marks.specs.declared.marks.Piece.TheVariants.{New, Kept, Marked}

-- ---- Lists.

pub get_at : {X : Type 0} (xs : List X) (y : X) (ys : List X) → slice_get (xs ++ y ∷ ys) (length xs) ≡ Some y
get_at [] y ys = refl
get_at (x ∷ xs) y ys = get_at xs y ys

pub put_at_end : {X : Type 0} (xs : List X) (y z : X) (ys : List X) → slice_set (xs ++ y ∷ ys) (length xs) z ≡ xs ++ z ∷ ys
put_at_end [] y z ys = refl
put_at_end (x ∷ xs) y z ys = ap (λ l. x ∷ l) (put_at_end xs y z ys)

pub remove_at : {X : Type 0} (xs : List X) (y : X) (ys : List X) → remove (xs ++ y ∷ ys) (length xs) ≡ xs ++ ys
remove_at [] y ys = refl
remove_at (x ∷ xs) y ys = ap (λ l. x ∷ l) (remove_at xs y ys)

pub insert_at : {X : Type 0} (xs : List X) (y : X) (ys : List X) → insert (xs ++ ys) (length xs) y ≡ xs ++ y ∷ ys
insert_at [] y ys = refl
insert_at (x ∷ xs) y ys = ap (λ l. x ∷ l) (insert_at xs y ys)

-- ---- Runs.

pub run-append : (from n m : ℕ) → run from (n + m) ≡ run from n ++ run (from + n) m
run-append from zero m = (let e : zero + m ≡ m = omega arith in ap (run from) e) ∙ (let e : from ≡ from + zero = omega arith in ap (λ k. run k m) e)
run-append from (suc n) m =
    (let e : suc n + m ≡ suc (n + m) = omega arith in ap (run from) e)
    ∙ ap (λ l. same_item from ∷ l) (run-append (from + 1) n m)
    ∙ (let e : from + 1 + n ≡ from + suc n = omega arith in ap (λ k. same_item from ∷ (run (from + 1) n ++ run k m)) e)

pub length-run : (from n : ℕ) → length (run from n) ≡ n
length-run from zero = refl
length-run from (suc n) = ap suc (length-run (from + 1) n)

-- ---- Pieces.

pub pieces_traces-append : (ps qs : List Piece) → pieces_traces (ps ++ qs) ≡ pieces_traces ps ++ pieces_traces qs
pieces_traces-append [] qs = refl
pieces_traces-append (p ∷ ps) qs =
    ap (λ l. piece_traces p ++ l) (pieces_traces-append ps qs) ∙ sym (append_assoc (piece_traces p) (pieces_traces ps) (pieces_traces qs))

pub single_traces : (p : Piece) → IsSingle p → piece_traces p ≡ the_trace p ∷ []
single_traces (New count) e = ap (λ n. replicate n new_item) e
single_traces (Kept from to) e = absurd e
single_traces (Marked number m) e = refl

-- one more behind the others
pub traces_put : (ps new : List Piece) (p : Piece) → new ≡ ps ++ p ∷ [] → pieces_traces new ≡ pieces_traces ps ++ piece_traces p
traces_put ps new p e =
    ap pieces_traces e ∙ pieces_traces-append ps (p ∷ []) ∙ ap (λ l. pieces_traces ps ++ l) (append-nil (piece_traces p))

pub put_counted : (ps new : List Piece) (p : Piece) (n m : ℕ) → n ≡ length (pieces_traces ps) → m ≡ n + length (piece_traces p) → new ≡ ps ++ p ∷ [] → m ≡ length (pieces_traces new)
put_counted ps new p n m h k e = omega (arith, h, k, ap length (traces_put ps new p e), length-append (pieces_traces ps) (piece_traces p))

-- behind a gap it is the first one
pub behind_put : (ps new : List Piece) (p : Piece) → new ≡ ps ++ p ∷ [] → traces_behind new ≡ piece_traces p ++ traces_behind ps
behind_put ps new p e = ap traces_behind e ∙ ap pieces_traces (reverse-append ps (p ∷ []))

pub popped_count : (ps new : List Piece) (p : Piece) (n : ℕ) → n ≡ length (pieces_traces ps) → ps ≡ new ++ p ∷ [] → n ≡ length (pieces_traces new) + length (piece_traces p)
popped_count ps new p n h e = omega (arith, h, ap length (traces_put new ps p e), length-append (pieces_traces new) (piece_traces p))

-- a piece goes from before the gap to behind it
pub moved_back : (ps new qs more : List Piece) (p : Piece) → ps ≡ new ++ p ∷ [] → more ≡ qs ++ p ∷ [] → pieces_traces new ++ traces_behind more ≡ pieces_traces ps ++ traces_behind qs
moved_back ps new qs more p e f =
    ap (λ l. pieces_traces new ++ l) (behind_put qs more p f)
    ∙ sym (append_assoc (pieces_traces new) (piece_traces p) (traces_behind qs))
    ∙ ap (λ l. l ++ traces_behind qs) (sym (traces_put new ps p e))

-- the last one has more items
pub traces_grown : (ps : List Piece) (k : ℕ) (p q : Piece) (es : List Trace) → slice_get ps k ≡ Some p → k + 1 ≡ length ps → piece_traces q ≡ piece_traces p ++ es
    → pieces_traces (slice_set ps k q) ≡ pieces_traces ps ++ es
traces_grown [] k p q es e h f = cc
traces_grown (r ∷ []) zero p q es e h f =
    let same : r ≡ p = cc in
    append-nil (piece_traces q) ∙ f ∙ ap (λ (s : Piece). piece_traces s ++ es) (sym same) ∙ ap (λ l. l ++ es) (sym (append-nil (piece_traces r)))
traces_grown (r ∷ s ∷ ps) zero p q es e h f = absurd (omega (arith, h))
traces_grown (r ∷ ps) (suc k) p q es e h f =
    ap (λ l. piece_traces r ++ l) (traces_grown ps k p q es e (omega (arith, h)) f) ∙ sym (append_assoc (piece_traces r) (pieces_traces ps) es)

pub at_piece : (ps : List Piece) (k : ℕ) (p : Piece) → slice_get ps k ≡ Some p → pieces_traces ps ≡ pieces_traces (take k ps) ++ (piece_traces p ++ pieces_traces (drop (suc k) ps))
at_piece [] k p e = cc
at_piece (q ∷ ps) zero p e = let same : q ≡ p = cc in ap (λ (r : Piece). piece_traces r ++ pieces_traces ps) same
at_piece (q ∷ ps) (suc k) p e =
    ap (λ l. piece_traces q ++ l) (at_piece ps k p e)
    ∙ sym (append_assoc (piece_traces q) (pieces_traces (take k ps)) (piece_traces p ++ pieces_traces (drop (suc k) ps)))

-- a new item that didn't go to the last piece
pub new_put : (ps mid new : List Piece) (b : Bool) → pieces_traces mid ≡ pieces_traces ps ++ (if b then new_item ∷ [] else []) → b ≡ false → new ≡ mid ++ New 1 ∷ [] → pieces_traces new ≡ pieces_traces ps ++ new_item ∷ []
new_put ps mid new b h f e =
    traces_put mid new (New 1) e
    ∙ ap (λ l. l ++ new_item ∷ []) (h ∙ ap (λ (t : Bool). pieces_traces ps ++ (if t then new_item ∷ [] else [])) f ∙ append-nil (pieces_traces ps))

-- ---- A piece of items as they were.

pub kept_len : (p : Piece) (from to n : ℕ) → p ≡ Kept from to → n ≡ to - from → n ≡ length (piece_traces p)
kept_len p from to n e f = f ∙ sym (length-run from (to - from)) ∙ ap (λ q. length (piece_traces q)) (sym e)

pub kept_room : (p : Piece) (from to offset : ℕ) → p ≡ Kept from to → offset < length (piece_traces p) → from + offset < to
kept_room p from to offset e h = omega (arith, kept_len p from to (to - from) e refl, h)

pub kept_split : (p : Piece) (from to offset : ℕ) → p ≡ Kept from to → offset < length (piece_traces p) → piece_traces p ≡ run from (from + offset - from) ++ run (from + offset) (to - (from + offset))
kept_split p from to offset e h =
    let room = kept_room p from to offset e h in
    let sum : to - from ≡ offset + (to - (from + offset)) = omega (arith, room) in
    let own : offset ≡ from + offset - from = omega arith in
    ap piece_traces e ∙ ap (run from) sum ∙ run-append from offset (to - (from + offset)) ∙ ap (λ n. run from n ++ run (from + offset) (to - (from + offset))) own

pub new_split : (p : Piece) (count offset : ℕ) → p ≡ New count → offset < length (piece_traces p) → piece_traces p ≡ replicate offset new_item ++ replicate (count - offset) new_item
new_split p count offset e h =
    let size : length (piece_traces p) ≡ count = ap (λ q. length (piece_traces q)) e ∙ length-replicate count new_item in
    let sum : count ≡ offset + (count - offset) = omega (arith, size, h) in
    ap piece_traces e ∙ ap (λ n. replicate n new_item) sum ∙ sym (replicate-append-replicate offset (count - offset) new_item)

pub kept_first : (p : Piece) (from to : ℕ) (m : Mark) → p ≡ Kept from to → 0 < length (piece_traces p) → firsts_of m ≡ no_firsts → m.inside ≡ no_marks → piece_traces p ≡ marked from m ∷ run (from + 1) (to - (from + 1))
kept_first p from to m e h f g =
    let room = kept_room p from to 0 e h in
    let more : to - from ≡ suc (to - (from + 1)) = omega (arith, room) in
    ap piece_traces e ∙ ap (run from) more ∙ ap (λ o. old_item from o no_marks ∷ run (from + 1) (to - (from + 1))) (sym f) ∙ ap (λ o. old_item from (firsts_of m) o ∷ run (from + 1) (to - (from + 1))) (sym g)

pub kept_next : (p : Piece) (from to : ℕ) → p ≡ Kept from to → from < to → piece_traces p ≡ same_item from ∷ run (from + 1) (to - (from + 1))
kept_next p from to e h = let more : to - from ≡ suc (to - (from + 1)) = omega (arith, h) in ap piece_traces e ∙ ap (run from) more

pub marked_same : (number : ℕ) (m : Mark) → firsts_of m ≡ no_firsts → m.inside ≡ no_marks → marked number m ≡ same_item number
marked_same number m f g = ap (λ o. old_item number o m.inside) f ∙ ap (λ o. old_item number no_firsts o) g

-- ---- How far is told.

-- as long as the number says, if it wasn't
reached-length : (old new : List Trace) (b c n : ℕ) → Reaches old b new c n → length new ≡ length old + (n - length old)
reached-length old new b c n r =
    ap length r.traces ∙ length-append old (run b (n - length old)) ∙ ap (λ m. length old + m) (length-run b (n - length old))

-- one item more, where it was told of already
reaches_one : (old new : List Trace) (b c n : ℕ) → Reaches old b new c n → n < length new → Reaches old b new c (n + 1)
reaches_one old new b c n r h =
    let far : n + 1 ≤ length old = omega (arith, h, reached-length old new b c n r) in
    let none : n - length old ≡ n + 1 - length old = omega (arith, far) in record {
      traces = r.traces ∙ ap (λ m. old ++ run b m) none;
      behind_new = omega (arith, r.behind_new, none);
    }

-- one item more, which stood behind
reaches_next : (old mid new : List Trace) (b c d n : ℕ) → Reaches old b mid c n → length mid ≡ n → new ≡ mid ++ run c 1 → d ≡ c + 1 → Reaches old b new d (n + 1)
reaches_next old mid new b c d n r s e f =
    let more : n + 1 - length old ≡ (n - length old) + 1 = omega (arith, s, reached-length old mid b c n r) in record {
      traces = e
          ∙ ap (λ l. l ++ run c 1) r.traces
          ∙ append_assoc old (run b (n - length old)) (run c 1)
          ∙ ap (λ m. old ++ (run b (n - length old) ++ run m 1)) r.behind_new
          ∙ ap (λ l. old ++ l) (sym (run-append b (n - length old) 1))
          ∙ ap (λ m. old ++ run b m) (sym more);
      behind_new = omega (arith, r.behind_new, more, f);
    }

-- ---- An item that is taken out.

pub taken_here : (old before behind rest : List Trace) (b c n : ℕ) (o : Option Piece) (p : Piece) → Reaches old b (before ++ behind) c n → length before ≡ n → behind ≡ rest_traces o ++ rest → o ≡ Some p → IfSome o IsSingle
    → Reaches old b (before ++ the_trace p ∷ rest) c (n + 1)
taken_here old before behind rest b c n o p r s e i a =
    let alone = subst (λ q. IfSome q IsSingle) i a in
    let next : behind ≡ piece_traces p ++ rest = e ∙ ap (λ q. rest_traces q ++ rest) i in
    let all : before ++ behind ≡ before ++ the_trace p ∷ rest = ap (λ l. before ++ l) (next ∙ ap (λ l. l ++ rest) (single_traces p alone)) in
    let long : n < length (before ++ the_trace p ∷ rest) = omega (arith, length-append before (the_trace p ∷ rest), s) in
    reaches_one old (before ++ the_trace p ∷ rest) b c n (subst (λ l. Reaches old b l c n) all r) long

pub taken_behind : (old before behind : List Trace) (rest : List Piece) (b c d n : ℕ) (o : Option Piece) (p : Piece) → Reaches old b (before ++ behind) c n → length before ≡ n → behind ≡ rest_traces o ++ traces_behind rest → o ≡ None → (o ≡ None → rest ≡ [])
    → IsSingle p → piece_traces p ≡ run c 1 → d ≡ c + 1 → Reaches old b (before ++ the_trace p ∷ traces_behind rest) d (n + 1)
taken_behind old before behind rest b c d n o p r s e i f a t g =
    let none : traces_behind rest ≡ [] = ap traces_behind (f i) in
    let all : before ++ behind ≡ before = ap (λ l. before ++ l) (e ∙ ap (λ q. rest_traces q ++ traces_behind rest) i ∙ none) ∙ append-nil before in
    reaches_next old before (before ++ the_trace p ∷ traces_behind rest) b c d n (subst (λ l. Reaches old b l c n) all r) s
    (ap (λ l. before ++ the_trace p ∷ l) none ∙ ap (λ l. before ++ l) (sym (single_traces p a) ∙ t)) g

-- ---- An item that is the last one before the gap.

pub held_here : (old before behind : List Trace) (rest : List Piece) (new : Pieces) (b c n : ℕ) (o : Option Piece) (p : Piece) → Reaches old b (before ++ behind) c n → length before ≡ n → behind ≡ rest_traces o ++ traces_behind rest → o ≡ Some p → IfSome o IsSingle
    → traces_before new ≡ before ++ piece_traces p → new.back.items ≡ rest → Reaches old b (traces_in new) c (n + 1)
held_here old before behind rest new b c n o p r s e i a f g =
    let alone = subst (λ q. IfSome q IsSingle) i a in
    let one : before ++ the_trace p ∷ traces_behind rest ≡ traces_before new ++ traces_behind rest = sym (append_assoc before (the_trace p ∷ []) (traces_behind rest)) ∙ ap (λ l. l ++ traces_behind rest) (sym (f ∙ ap (λ l. before ++ l) (single_traces p alone))) in
    let all : before ++ the_trace p ∷ traces_behind rest ≡ traces_in new = one ∙ ap (λ q. traces_before new ++ traces_behind q) (sym g) in
    subst (λ l. Reaches old b l c (n + 1)) all (taken_here old before behind (traces_behind rest) b c n o p r s e i a)

pub held_kept : (old before behind : List Trace) (rest : List Piece) (new : Pieces) (b c n k : ℕ) → Reaches old b (before ++ behind) c n → length before ≡ n → behind ≡ same_item k ∷ traces_behind rest → traces_before new ≡ before ++ same_item k ∷ []
    → new.back.items ≡ rest → Reaches old b (traces_in new) c (n + 1)
held_kept old before behind rest new b c n k r s e f g =
    let put : before ++ same_item k ∷ traces_behind rest ≡ traces_before new ++ traces_behind rest = sym (append_assoc before (same_item k ∷ []) (traces_behind rest)) ∙ ap (λ l. l ++ traces_behind rest) (sym f) in
    let all : before ++ behind ≡ traces_in new = ap (λ l. before ++ l) e ∙ put ∙ ap (λ q. traces_before new ++ traces_behind q) (sym g) in
    let long : n < length (traces_in new) = omega (arith, ap length (sym all), ap length e, length-append before behind, s) in
    reaches_one old (traces_in new) b c n (subst (λ l. Reaches old b l c n) all r) long

pub held_behind : (old before behind : List Trace) (rest : List Piece) (new : Pieces) (b c d n : ℕ) (o : Option Piece) → Reaches old b (before ++ behind) c n → length before ≡ n → behind ≡ rest_traces o ++ traces_behind rest → o ≡ None → (o ≡ None → rest ≡ [])
    → traces_before new ≡ before ++ run c 1 → new.back.items ≡ rest → d ≡ c + 1 → Reaches old b (traces_in new) d (n + 1)
held_behind old before behind rest new b c d n o r s e i f t g h =
    let none : traces_behind rest ≡ [] = ap traces_behind (f i) in
    let all : before ++ behind ≡ before = ap (λ l. before ++ l) (e ∙ ap (λ q. rest_traces q ++ traces_behind rest) i ∙ none) ∙ append-nil before in
    let whole : traces_in new ≡ before ++ run c 1 = ap (λ q. traces_before new ++ traces_behind q) g ∙ ap (λ l. traces_before new ++ l) none ∙ append-nil (traces_before new) ∙ t in
    reaches_next old before (traces_in new) b c d n (subst (λ l. Reaches old b l c n) all r) s whole h

pub last_alone : (ps new : List Piece) (o : Option Piece) (p : Piece) → new ≡ ps ++ p ∷ [] → o ≡ Some p → IfSome o IsSingle → IfSome (slice_get new (length new - 1)) IsSingle
last_alone ps new o p e i a =
    let place : length new - 1 ≡ length ps = omega (arith, ap length e, length-append ps (p ∷ [])) in
    let last : slice_get new (length new - 1) ≡ Some p = ap (slice_get new) place ∙ ap (λ l. slice_get l (length ps)) e ∙ get_at ps p [] in
    subst (λ q. IfSome q IsSingle) (i ∙ sym last) a

-- ---- The last piece.

last_of : {X : Type 0} (xs : List X) (k : ℕ) (x : X) → slice_get xs k ≡ Some x → k + 1 ≡ length xs → xs ≡ take k xs ++ x ∷ []
last_of [] k x e h = cc
last_of (y ∷ []) zero x e h = let same : y ≡ x = cc in ap (λ z. z ∷ []) same
last_of (y ∷ z ∷ xs) zero x e h = absurd (omega (arith, h))
last_of (y ∷ xs) (suc k) x e h = ap (λ l. y ∷ l) (last_of xs k x e (omega (arith, h)))

set_last : {X : Type 0} (xs : List X) (k : ℕ) (x : X) → k + 1 ≡ length xs → slice_set xs k x ≡ take k xs ++ x ∷ []
set_last [] k x h = absurd (omega (arith, h))
set_last (y ∷ []) zero x h = refl
set_last (y ∷ z ∷ xs) zero x h = absurd (omega (arith, h))
set_last (y ∷ xs) (suc k) x h = ap (λ l. y ∷ l) (set_last xs k x (omega (arith, h)))

last_traces : (ps : List Piece) (k : ℕ) (p : Piece) → slice_get ps k ≡ Some p → k + 1 ≡ length ps → pieces_traces ps ≡ pieces_traces (take k ps) ++ piece_traces p
last_traces ps k p e h = traces_put (take k ps) ps p (last_of ps k p e h)

-- and of another in its place
set_traces : (ps : List Piece) (k : ℕ) (q : Piece) → k + 1 ≡ length ps → pieces_traces (slice_set ps k q) ≡ pieces_traces (take k ps) ++ piece_traces q
set_traces ps k q h = traces_put (take k ps) (slice_set ps k q) q (set_last ps k q h)

pub last_single : (ps : List Piece) (k : ℕ) (p : Piece) → slice_get ps k ≡ Some p → k + 1 ≡ length ps → IsSingle p → pieces_traces ps ≡ pieces_traces (take k ps) ++ the_trace p ∷ []
last_single ps k p e h s = last_traces ps k p e h ∙ ap (λ l. pieces_traces (take k ps) ++ l) (single_traces p s)

pub set_single : (ps : List Piece) (k : ℕ) (q : Piece) → k + 1 ≡ length ps → IsSingle q → pieces_traces (slice_set ps k q) ≡ pieces_traces (take k ps) ++ the_trace q ∷ []
set_single ps k q h s = set_traces ps k q h ∙ ap (λ l. pieces_traces (take k ps) ++ l) (single_traces q s)

pub last_fits : (ps : List Piece) (k : ℕ) (p : Piece) (n s : ℕ) → slice_get ps k ≡ Some p → k + 1 ≡ length ps → n ≡ length (pieces_traces ps) → s ≡ length (piece_traces p) → s ≤ n
last_fits ps k p n s e h i l = omega (arith, i, l, ap length (last_traces ps k p e h), length-append (pieces_traces (take k ps)) (piece_traces p))

-- it is cut, so that so many items are before the cut
pub cut_counted : (ps : List Piece) (k : ℕ) (p q : Piece) (n s m : ℕ) → slice_get ps k ≡ Some p → k + 1 ≡ length ps → n ≡ length (pieces_traces ps) → s ≡ length (piece_traces p) → n - s < m → length (piece_traces q) ≡ m - (n - s) → m ≡ length (pieces_traces (slice_set ps k q))
cut_counted ps k p q n s m e h i l g j =
    let before = pieces_traces (take k ps) in
    omega (arith, i, l, g, j, ap length (last_traces ps k p e h), ap length (set_traces ps k q h), length-append before (piece_traces p), length-append before (piece_traces q))

pub cut_same : (ps : List Piece) (k : ℕ) (p q r : Piece) (qs new : List Piece) → slice_get ps k ≡ Some p → k + 1 ≡ length ps → piece_traces p ≡ piece_traces q ++ piece_traces r → new ≡ qs ++ r ∷ [] → pieces_traces (slice_set ps k q) ++ traces_behind new ≡ pieces_traces ps ++ traces_behind qs
cut_same ps k p q r qs new e h s f =
    let before = pieces_traces (take k ps) in
    let behind = traces_behind qs in
    ap (λ l. l ++ traces_behind new) (set_traces ps k q h)
    ∙ ap (λ l. (before ++ piece_traces q) ++ l) (behind_put qs new r f)
    ∙ append_assoc before (piece_traces q) (piece_traces r ++ behind)
    ∙ ap (λ l. before ++ l) (sym (append_assoc (piece_traces q) (piece_traces r) behind))
    ∙ ap (λ l. before ++ (l ++ behind)) (sym s)
    ∙ sym (append_assoc before (piece_traces p) behind)
    ∙ ap (λ l. l ++ behind) (sym (last_traces ps k p e h))
