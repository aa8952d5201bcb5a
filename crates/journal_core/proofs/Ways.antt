-- Stacks of steps against the same steps in the order in which they are taken, and where a step of a stack stands in the list.
use Rattle.std.proofs.Common.{◌≡◌, false, ℕ, zero, suc, ◌+◌, ◌-◌, ◌<◌, ◌≤◌, List, [], ◌∷◌, ◌++◌, length, Option, Some, None, Bor, option_copied, IfSome, ◌↔◌, inl, inr, refl, sym, ap, ◌∙◌, subst, arith, append_assoc, slice_get, get_or}
use mathlib.Core.List.{reverse}
use Rattle.std.proofs.lemmas.List.{reverse-append, reverse-reverse, length-reverse, get_or-reverse}
use Rattle.std.proofs.lemmas.Option.{slice_get-get_or, slice_get_within, slice_get_past, slice_get_cases}
use Rattle.journal_core.specs.Along.{back_to, states_along, FitAlong, FitInTurn, led_through}
use Rattle.journal_core.specs.History.{History, LeadsBetween, resumed}
use Rattle.journal_core.proofs.Stacks.{states-push, FitAlong-push, length-states-all}

-- ---- The same steps from either end.

pub reverse-first : {X : Type 0} (x : X) (xs : List X) → reverse (x ∷ xs) ≡ reverse xs ++ x ∷ []
reverse-first x xs = reverse-append (x ∷ []) xs

pub states-reverse : {S B : Type 0} (prior : S → B → S) (now : S) (bs : List B) → states_along prior now (reverse bs) ≡ reverse (led_through prior now bs)
states-reverse prior now [] = refl
states-reverse {S} prior now (b ∷ bs) =
    ap (states_along prior now) (reverse-first b bs) ∙ states-push prior now (reverse bs) b
    ∙ ap (λ (ss : List S). ss ++ prior now b ∷ []) (states-reverse prior (prior now b) bs)
    ∙ sym (reverse-first (prior now b) (led_through prior (prior now b) bs))

pub fit-reverse : {S B : Type 0} (prior : S → B → S) (fits : S → B → Type 0) (now : S) (bs : List B) → FitInTurn prior fits now bs → FitAlong prior fits now (reverse bs)
fit-reverse prior fits now [] h = tt
fit-reverse prior fits now (b ∷ bs) h =
    subst (FitAlong prior fits now) (sym (reverse-first b bs)) (FitAlong-push prior fits now (reverse bs) b h.0 (fit-reverse prior fits (prior now b) bs h.1))

pub length-led : {S B : Type 0} (prior : S → B → S) (now : S) (bs : List B) → length (led_through prior now bs) ≡ length bs
length-led prior now [] = refl
length-led prior now (b ∷ bs) = ap suc (length-led prior (prior now b) bs)

-- a journal that goes on with these steps
pub resumed-is : {S B : Type 0} (prior : S → B → S) (now : S) (limit : ℕ) (undo redo done undone : List B) → done ≡ reverse undo → undone ≡ reverse redo
    → ◌≡◌ {A = History S} (record { limit = limit; states = states_along prior now done ++ now ∷ reverse (states_along prior now undone); place = length done; own = false })
    (resumed limit (led_through prior now undo) now (led_through prior now redo))
resumed-is {S} {B} prior now limit undo redo done undone d u =
    let behind : states_along prior now done ≡ reverse (led_through prior now undo) = ap (states_along prior now) d ∙ states-reverse prior now undo in
    let ahead : reverse (states_along prior now undone) ≡ led_through prior now redo =
    ap (λ (bs : List B). reverse (states_along prior now bs)) u ∙ ap reverse (states-reverse prior now redo) ∙ reverse-reverse (led_through prior now redo) in
    let place : length done ≡ length (led_through prior now undo) = ap length d ∙ length-reverse undo ∙ sym (length-led prior now undo) in
    ap (λ (ss : List S). record { limit = limit; states = ss ++ now ∷ reverse (states_along prior now undone); place = length done; own = false }) behind
    ∙ ap (λ (ss : List S). record { limit = limit; states = reverse (led_through prior now undo) ++ now ∷ ss; place = length done; own = false }) ahead
    ∙ ap (λ (n : ℕ). record { limit = limit; states = reverse (led_through prior now undo) ++ now ∷ led_through prior now redo; place = n; own = false }) place

-- ---- Where a step of a stack stands in the list.

first-of : {S B : Type 0} (prior : S → B → S) (now : S) (bs : List B) (rest : List S) → slice_get (states_along prior now bs ++ now ∷ rest) zero ≡ Some (back_to prior now bs)
first-of prior now [] rest = refl
first-of prior now (x ∷ bs) rest = refl

some_is : {X : Type 0} (x y : X) → Some x ≡ Some y → x ≡ y
some_is x y e = ap (λ (o : Option _). elim o [ None ↦ x | Some z ↦ z ]) e

pub step-of : {S B : Type 0} (prior : S → B → S) (fits : S → B → Type 0) (now : S) (bs : List B) (rest : List S) (j : ℕ) (b : B)
    → FitAlong prior fits now bs → slice_get bs j ≡ Some b → LeadsBetween prior fits (states_along prior now bs ++ now ∷ rest) (suc j) j b
step-of prior fits now [] rest j b f e = absurd (let w : None ≡ Some b = e in cc)
step-of prior fits now (x ∷ bs) rest zero b f e = record {
  state = back_to prior now bs;
  stood = first-of prior now bs rest;
  fitted = subst (fits (back_to prior now bs)) (some_is x b e) f.0;
  led = ap (λ y. Some (prior (back_to prior now bs) y)) (some_is x b e);
}
step-of prior fits now (x ∷ bs) rest (suc j) b f e =
    let more = step-of prior fits now bs rest j b f.1 e in
    record { state = more.state; stood = more.stood; fitted = more.fitted; led = more.led }

-- ---- The item so many places from the end.

pub get-reverse : {X : Type 0} (xs : List X) (i k : ℕ) → i + k + 1 ≡ length xs → slice_get (reverse xs) i ≡ slice_get xs k
get-reverse [] i k e = absurd (omega (arith, e))
get-reverse {X} (y ∷ ys) i k e =
    let xs = y ∷ ys in
    let inside : i < length (reverse xs) = omega (arith, e, length-reverse xs) in
    let last : length xs - 1 - i ≡ k = omega (arith, e) in
    slice_get-get_or (reverse xs) i y inside
    ∙ ap Some (get_or-reverse xs i y (omega (arith, e)) ∙ ap (λ (n : ℕ). get_or xs n y) last)
    ∙ sym (slice_get-get_or xs k y (omega (arith, e)))

-- the whole list, from its other end
pub from-the-end : {S : Type 0} (a b : List S) (s : S) → a ++ s ∷ reverse b ≡ reverse (b ++ s ∷ reverse a)
from-the-end {S} a b s =
    sym (append_assoc a (s ∷ []) (reverse b))
    ∙ ap (λ (l : List S). l ++ s ∷ [] ++ reverse b) (sym (reverse-reverse a))
    ∙ ap (λ (l : List S). l ++ reverse b) (sym (reverse-first s (reverse a)))
    ∙ sym (reverse-append b (s ∷ reverse a))

pub back-at : {S B : Type 0} (prior : S → B → S) (fits : S → B → Type 0) (now : S) (done : List B) (rest : List S) (i : ℕ) (b : B)
    → FitAlong prior fits now done → i < length done → slice_get (reverse done) i ≡ Some b
    → LeadsBetween prior fits (states_along prior now done ++ now ∷ rest) (length done - i) (length done - i - 1) b
back-at prior fits now done rest i b f h e =
    let j = length done - i - 1 in
    let k : suc j ≡ length done - i = omega (arith, h) in
    subst (λ (n : ℕ). LeadsBetween prior fits (states_along prior now done ++ now ∷ rest) n j b) k
    (step-of prior fits now done rest j b f (sym (get-reverse done i j (omega (arith, h))) ∙ e))

pub on-at : {S B : Type 0} (prior : S → B → S) (fits : S → B → Type 0) (now : S) (done undone : List B) (i : ℕ) (b : B)
    → FitAlong prior fits now undone → i < length undone → slice_get (reverse undone) i ≡ Some b
    → LeadsBetween prior fits (states_along prior now done ++ now ∷ reverse (states_along prior now undone)) (length done + i) (length done + i + 1) b
on-at {S} prior fits now done undone i b f h e =
    let j = length undone - i - 1 in
    let before = states_along prior now done in
    let after = states_along prior now undone in
    let step = step-of prior fits now undone (reverse before) j b f (sym (get-reverse undone i j (omega (arith, h))) ∙ e) in
    let long = length-states-all prior now undone done in
    let turned : (n m : ℕ) → n + m + 1 ≡ length (after ++ now ∷ reverse before) → slice_get (before ++ now ∷ reverse after) n ≡ slice_get (after ++ now ∷ reverse before) m =
    λ n m p. ap (λ (l : List S). slice_get l n) (from-the-end before after now) ∙ get-reverse (after ++ now ∷ reverse before) n m p in
    record {
      state = step.state;
      stood = turned (length done + i) (suc j) (omega (arith, long, h)) ∙ step.stood;
      fitted = step.fitted;
      led = turned (length done + i + 1) j (omega (arith, long, h)) ∙ step.led;
    }

-- ---- What a look at a stack answers.

pub of_value : {T : Type 0} (r : Option (Bor T)) (o : Option T) (P : T → Type 0) → option_copied r ≡ o → ((b : T) → o ≡ Some b → P b) → IfSome r (λ b. P b.now)
of_value None o P e h = tt
of_value (Some b) o P e h = h b.now (sym e)

pub within_reverse : {X : Type 0} (xs : List X) (i : ℕ) (x : X) → slice_get (reverse xs) i ≡ Some x → i < length xs
within_reverse xs i x e = omega (arith, slice_get_within (reverse xs) i x e, length-reverse xs)

pub past_reverse : {X : Type 0} (xs : List X) (i : ℕ) (o : Option X) → o ≡ slice_get (reverse xs) i → (length xs ≤ i) ↔ (o ≡ None)
past_reverse {X} xs i o e = (
  λ h. e ∙ slice_get_past (reverse xs) i (omega (arith, h, length-reverse xs)),
  λ none. elim (slice_get_cases (reverse xs) i).1 [
    | inl found ↦ absurd (let is : None ≡ Some found.0 = sym none ∙ e ∙ found.2 in cc)
    | inr past ↦ omega (arith, past.0, length-reverse xs)
  ],
)

-- steps that were handed over with the next one first
pub handed-back : {X : Type 0} (xs ys : List X) → ys ≡ reverse xs → reverse ys ≡ xs
handed-back xs ys e = ap reverse e ∙ reverse-reverse xs

-- steps that are of a sort in turn are so on their stack
pub fit-stack : {S B : Type 0} (prior : S → B → S) (sort : S → B → Type 0) (now : S) (bs : List B) → FitInTurn prior sort now (reverse bs) → FitAlong prior sort now bs
fit-stack prior sort now bs h = subst (FitAlong prior sort now) (reverse-reverse bs) (fit-reverse prior sort now (reverse bs) h)
