-- Edits in a row, and then steps back and on.
use Rattle.std.proofs.Common.{◌≡◌, ℕ, zero, suc, ◌+◌, ◌-◌, ◌<◌, List, [], ◌∷◌, length, take, refl, sym, ap, ◌∙◌, arith, length-append, slice_get, if◌then◌else◌, add-one}
use Rattle.std.proofs.lemmas.List.{take-take, take-append-le, length-take-le}
use Rattle.std.proofs.lemmas.Bool.{lt-ltb}
use Rattle.journal_core.specs.History.{History, IsHistory, after_edit, after_undo, after_redo, after_edits, after_undos, after_redos}

pub place-edits : {S : Type 0} (h : History S) (ss : List S) → (after_edits h ss).place ≡ h.place + length ss
place-edits h [] = omega arith
place-edits h (s ∷ ss) = place-edits (after_edit h s) ss ∙ omega arith

pub inside-edit : {S : Type 0} (h : History S) (s : S) → IsHistory h → IsHistory (after_edit h s)
inside-edit h s i = omega (arith, length-append (take (h.place + 1) h.states) (s ∷ []), length-take-le (h.place + 1) h.states (omega (arith, i)))

pub inside-edits : {S : Type 0} (h : History S) (ss : List S) → IsHistory h → IsHistory (after_edits h ss)
inside-edits h [] i = i
inside-edits h (s ∷ ss) i = inside-edits (after_edit h s) ss (inside-edit h s i)

-- what an edit leaves
pub kept-edit : {S : Type 0} (h : History S) (s : S) → IsHistory h → take (h.place + 1) (after_edit h s).states ≡ take (h.place + 1) h.states
kept-edit h s i =
    let len : length (take (h.place + 1) h.states) ≡ h.place + 1 = length-take-le (h.place + 1) h.states (omega (arith, i)) in
    take-append-le (h.place + 1) (take (h.place + 1) h.states) (s ∷ []) (omega (arith, len)) ∙ take-take (h.place + 1) (h.place + 1) h.states (omega arith)

pub kept-edits : {S : Type 0} (h : History S) (ss : List S) → IsHistory h → take (h.place + 1) (after_edits h ss).states ≡ take (h.place + 1) h.states
kept-edits h [] i = refl
kept-edits {S} h (s ∷ ss) i =
    let more = kept-edits (after_edit h s) ss (inside-edit h s i) in
    let front : (xs : List S) → take (h.place + 1) xs ≡ take (h.place + 1) (take (h.place + 1 + 1) xs) = λ xs. sym (take-take (h.place + 1) (h.place + 1 + 1) xs (omega arith)) in
    front (after_edits (after_edit h s) ss).states ∙ ap (take (h.place + 1)) more ∙ sym (front (after_edit h s).states) ∙ kept-edit h s i

pub undos-is : {S : Type 0} (n : ℕ) (h : History S) → after_undos n h ≡ record { limit = h.limit; states = h.states; place = h.place - n; own = h.own }
undos-is zero h = ap (λ (n : ℕ). record { limit = h.limit; states = h.states; place = n; own = h.own }) (let e : h.place ≡ h.place - 0 = omega arith in e)
undos-is (suc n) h = undos-is n (after_undo h) ∙ ap (λ (k : ℕ). record { limit = h.limit; states = h.states; place = k; own = h.own }) (let e : h.place - 1 - n ≡ h.place - suc n = omega arith in e)

pub redos-is : {S : Type 0} (n : ℕ) (h : History S) → h.place + n < length h.states → after_redos n h ≡ record { limit = h.limit; states = h.states; place = h.place + n; own = h.own }
redos-is zero h i = ap (λ (n : ℕ). record { limit = h.limit; states = h.states; place = n; own = h.own }) (let e : h.place ≡ h.place + 0 = omega arith in e)
redos-is {S} (suc n) h i =
    let one : after_redo h ≡ record { limit = h.limit; states = h.states; place = h.place + 1; own = h.own } =
    ap (λ b. record { limit = h.limit; states = h.states; place = if b then h.place + 1 else h.place; own = h.own }) (lt-ltb (h.place + 1) (length h.states) (omega (arith, i))) in
    ap (after_redos n) one ∙ redos-is n (record { limit = h.limit; states = h.states; place = h.place + 1; own = h.own }) (let e : h.place + 1 + n < length h.states = omega (arith, i) in e)
    ∙ ap (λ (k : ℕ). record { limit = h.limit; states = h.states; place = k; own = h.own }) (let e : h.place + 1 + n ≡ h.place + suc n = omega arith in e)

-- the same front has the same item
pub same_item : {S : Type 0} (xs ys : List S) (k : ℕ) → take (k + 1) xs ≡ take (k + 1) ys → slice_get xs k ≡ slice_get ys k
same_item {S} xs ys k e =
    let e' : take (suc k) xs ≡ take (suc k) ys = rw add-one at e in
    sym (front xs k) ∙ ap (λ (zs : List S). slice_get zs k) e' ∙ front ys k where
      front : (zs : List S) (j : ℕ) → slice_get (take (suc j) zs) j ≡ slice_get zs j
      front [] zero = refl
      front [] (suc j) = refl
      front (z ∷ zs) zero = refl
      front (z ∷ zs) (suc j) = front zs j

pub back-place : {S : Type 0} (h : History S) (ss : List S) → (after_undos (length ss) (after_edits h ss)).place ≡ h.place
back-place h ss = ap (λ h'. h'.place) (undos-is (length ss) (after_edits h ss)) ∙ omega (arith, place-edits h ss)

pub back-kept : {S : Type 0} (h : History S) (ss : List S) → IsHistory h → take (h.place + 1) (after_undos (length ss) (after_edits h ss)).states ≡ take (h.place + 1) h.states
back-kept h ss i = ap (λ h'. take (h.place + 1) h'.states) (undos-is (length ss) (after_edits h ss)) ∙ kept-edits h ss i

pub on-again : {S : Type 0} (h : History S) (ss : List S) → IsHistory h → after_redos (length ss) (after_undos (length ss) (after_edits h ss)) ≡ after_edits h ss
on-again {S} h ss i =
    let h' = after_edits h ss in
    let place : h'.place - length ss + length ss ≡ h'.place = omega (arith, place-edits h ss) in
    ap (after_redos (length ss)) (undos-is (length ss) h')
    ∙ redos-is (length ss) (record { limit = h'.limit; states = h'.states; place = h'.place - length ss; own = h'.own }) (let e : h'.place - length ss + length ss < length h'.states = omega (arith, place-edits h ss, inside-edits h ss i) in e)
    ∙ ap (λ (k : ℕ). record { limit = h'.limit; states = h'.states; place = k; own = h'.own }) place
