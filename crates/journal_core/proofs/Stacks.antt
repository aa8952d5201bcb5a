-- Stacks of steps back, when a step is put on one or taken off.
use Rattle.std.proofs.Common.{◌≡◌, Bool, ℕ, suc, ◌+◌, ◌-◌, ◌<◌, List, [], ◌∷◌, ◌++◌, length, take, refl, sym, ap, ◌∙◌, subst, arith, append_assoc, length-append, Some, Result, Ok, Err, OnOk, OnErr, slice_get, if◌then◌else◌}
use mathlib.Core.List.{reverse}
use Rattle.std.proofs.lemmas.Bool.{lt-ltb}
use Rattle.std.proofs.lemmas.List.{reverse-append, length-reverse, take_at, get_or_at}
use Rattle.std.proofs.lemmas.Option.{same_Some, slice_get-get_or}
use Rattle.journal_core.specs.Along.{back_to, states_along, FitAlong, FitInTurn, Steps, TurnsOwn}
use Rattle.journal_core.specs.History.{History, Kept, after_edit, after_undo, after_redo, AllAre, IsAt, Moves}

pub back_to-push : {S B : Type 0} (prior : S → B → S) (now : S) (bs : List B) (b : B) → back_to prior now (bs ++ b ∷ []) ≡ back_to prior (prior now b) bs
back_to-push prior now [] b = refl
back_to-push prior now (x ∷ bs) b = ap (λ s. prior s x) (back_to-push prior now bs b)

pub states-push : {S B : Type 0} (prior : S → B → S) (now : S) (bs : List B) (b : B) → states_along prior now (bs ++ b ∷ []) ≡ states_along prior (prior now b) bs ++ prior now b ∷ []
states-push prior now [] b = refl
states-push {S} prior now (x ∷ bs) b =
    ap (λ s. prior s x ∷ states_along prior now (bs ++ b ∷ [])) (back_to-push prior now bs b)
    ∙ ap (λ (ss : List S). prior (back_to prior (prior now b) bs) x ∷ ss) (states-push prior now bs b)

pub length-states : {S B : Type 0} (prior : S → B → S) (now : S) (bs : List B) → length (states_along prior now bs) ≡ length bs
length-states prior now [] = refl
length-states prior now (x ∷ bs) = ap suc (length-states prior now bs)

-- the last step of a stack that fits
pub FitAlong-last : {S B : Type 0} (prior : S → B → S) (fits : S → B → Type 0) (now : S) (bs : List B) (b : B) → FitAlong prior fits now (bs ++ b ∷ []) → fits now b × FitAlong prior fits (prior now b) bs
FitAlong-last prior fits now [] b h = (h.0, tt)
FitAlong-last prior fits now (x ∷ bs) b h =
    let rest = FitAlong-last prior fits now bs b h.1 in
    (rest.0, (subst (λ s. fits s x) (back_to-push prior now bs b) h.0, rest.1))

pub FitAlong-push : {S B : Type 0} (prior : S → B → S) (fits : S → B → Type 0) (now : S) (bs : List B) (b : B) → fits now b → FitAlong prior fits (prior now b) bs → FitAlong prior fits now (bs ++ b ∷ [])
FitAlong-push prior fits now [] b f h = (f, tt)
FitAlong-push prior fits now (x ∷ bs) b f h =
    (subst (λ s. fits s x) (sym (back_to-push prior now bs b)) h.0, FitAlong-push prior fits now bs b f h.1)

-- the steps are all one list of states, from either end
pub states-from : {S B : Type 0} (prior : S → B → S) (turns : S → B → B → Type 0) (old new : S) (from from' to to' : List B) → Steps prior turns old new from from' to to' → states_along prior old from ≡ states_along prior new from' ++ new ∷ []
states-from {S} prior turns old new from from' to to' h =
    ap (states_along prior old) h.taken ∙ states-push prior old from' h.back
    ∙ ap (λ (s : S). states_along prior s from' ++ s ∷ []) (sym h.there)

pub states-to : {S B : Type 0} (prior : S → B → S) (turns : S → B → B → Type 0) (old new : S) (from from' to to' : List B) → Steps prior turns old new from from' to to' → states_along prior new to' ≡ states_along prior old to ++ old ∷ []
states-to {S} prior turns old new from from' to to' h =
    ap (states_along prior new) h.put ∙ states-push prior new to h.forward
    ∙ ap (λ (s : S). states_along prior s to ++ s ∷ []) h.again

-- one list, with its place one further to the left
pub moved : {S : Type 0} (a b a' b' : List S) (s t : S) → a ≡ a' ++ t ∷ [] → b' ≡ b ++ s ∷ [] → a' ++ t ∷ reverse b' ≡ a ++ s ∷ reverse b
moved {S} a b a' b' s t p q =
    ap (λ (r : List S). a' ++ t ∷ r) (ap reverse q ∙ reverse-append b (s ∷ []))
    ∙ sym (append_assoc a' (t ∷ []) (s ∷ reverse b)) ∙ ap (λ (l : List S). l ++ s ∷ reverse b) (sym p)

pub undone : {S B : Type 0} (prior : S → B → S) (turns : S → B → B → Type 0) (old new : S) (own : Bool) (limit : ℕ) (from from' to to' : List B) → Steps prior turns old new from from' to to'
    → ◌≡◌ {A = History S} (record { limit = limit; states = states_along prior new from' ++ new ∷ reverse (states_along prior new to'); place = length from'; own = own })
    (after_undo (record { limit = limit; states = states_along prior old from ++ old ∷ reverse (states_along prior old to); place = length from; own = own }))
undone {S} prior turns old new own limit from from' to to' h =
    let all = moved (states_along prior old from) (states_along prior old to) (states_along prior new from') (states_along prior new to') old new
    (states-from prior turns old new from from' to to' h) (states-to prior turns old new from from' to to' h) in
    let place : length from' ≡ length from - 1 = omega (arith, ap length h.taken, length-append from' (h.back ∷ [])) in
    ap (λ (ss : List S). record { limit = limit; states = ss; place = length from'; own = own }) all
    ∙ ap (λ (n : ℕ). record { limit = limit; states = states_along prior old from ++ old ∷ reverse (states_along prior old to); place = n; own = own }) place

pub length-states-all : {S B : Type 0} (prior : S → B → S) (now : S) (done undone : List B) → length (states_along prior now done ++ now ∷ reverse (states_along prior now undone)) ≡ length done + (length undone + 1)
length-states-all prior now done undone =
    length-append (states_along prior now done) (now ∷ reverse (states_along prior now undone))
    ∙ omega (arith, length-states prior now done, length-reverse (states_along prior now undone), length-states prior now undone)

pub redone : {S B : Type 0} (prior : S → B → S) (turns : S → B → B → Type 0) (old new : S) (own : Bool) (limit : ℕ) (from from' to to' : List B) → Steps prior turns old new from from' to to'
    → ◌≡◌ {A = History S} (record { limit = limit; states = states_along prior new to' ++ new ∷ reverse (states_along prior new from'); place = length to'; own = own })
    (after_redo (record { limit = limit; states = states_along prior old to ++ old ∷ reverse (states_along prior old from); place = length to; own = own }))
redone {S} prior turns old new own limit from from' to to' h =
    let all = sym (moved (states_along prior new to') (states_along prior new from') (states_along prior old to) (states_along prior old from) new old
    (states-to prior turns old new from from' to to' h) (states-from prior turns old new from from' to to' h)) in
    let room : length to + 1 < length (states_along prior old to ++ old ∷ reverse (states_along prior old from)) =
    omega (arith, length-states-all prior old to from, ap length h.taken, length-append from' (h.back ∷ [])) in
    let place : length to' ≡ length to + 1 = omega (arith, ap length h.put, length-append to (h.forward ∷ [])) in
    ap (λ (ss : List S). record { limit = limit; states = ss; place = length to'; own = own }) all
    ∙ ap (λ (n : ℕ). record { limit = limit; states = states_along prior old to ++ old ∷ reverse (states_along prior old from); place = n; own = own })
    (place ∙ sym (ap (λ b. if b then length to + 1 else length to) (lt-ltb _ _ room)))

pub slice_get_at : {X : Type 0} (xs ys : List X) (y : X) (n : ℕ) → length xs ≡ n → slice_get (xs ++ y ∷ ys) n ≡ Some y
slice_get_at xs ys y n e =
    slice_get-get_or (xs ++ y ∷ ys) n y (omega (arith, e, length-append xs (y ∷ ys))) ∙ ap Some (get_or_at xs y ys y n e)

pub edited : {S B : Type 0} (prior : S → B → S) (old new : S) (own : Bool) (limit : ℕ) (done done' undone undone' : List B) (back : B) → done' ≡ done ++ back ∷ [] → undone' ≡ [] → prior new back ≡ old
    → ◌≡◌ {A = History S} (record { limit = limit; states = states_along prior new done' ++ new ∷ reverse (states_along prior new undone'); place = length done'; own = own })
    (after_edit (record { limit = limit; states = states_along prior old done ++ old ∷ reverse (states_along prior old undone); place = length done; own = own }) new)
edited {S} {B} prior old new own limit done done' undone undone' back d u e =
    let before = states_along prior old done in
    let after = reverse (states_along prior old undone) in
    let front : states_along prior new done' ≡ before ++ old ∷ [] =
    ap (states_along prior new) d ∙ states-push prior new done back ∙ ap (λ (s : S). states_along prior s done ++ s ∷ []) e in
    let place : length done' ≡ length done + 1 = omega (arith, ap length d, length-append done (back ∷ [])) in
    let cut : take (length done + 1) (before ++ old ∷ after) ≡ before ++ old ∷ [] =
    ap (take (length done + 1)) (sym (append_assoc before (old ∷ []) after))
    ∙ take_at (before ++ old ∷ []) after (length done + 1) (length-append before (old ∷ []) ∙ omega (arith, length-states prior old done)) in
    ap (λ (us : List B). record { limit = limit; states = states_along prior new done' ++ new ∷ reverse (states_along prior new us); place = length done'; own = own }) u
    ∙ ap (λ (ss : List S). record { limit = limit; states = ss ++ new ∷ []; place = length done'; own = own }) (front ∙ sym cut)
    ∙ ap (λ (n : ℕ). record { limit = limit; states = take (length done + 1) (before ++ old ∷ after) ++ new ∷ []; place = n; own = own }) place

-- ---- The steps in the order in which they are taken.

pub reverse-last : {X : Type 0} (xs : List X) (x : X) → reverse (xs ++ x ∷ []) ≡ x ∷ reverse xs
reverse-last xs x = reverse-append xs (x ∷ [])

pub stacks-moved : {S B : Type 0} (prior : S → B → S) (turns : S → B → B → Type 0) (own : S → B → Type 0) (h : History S) (old new : S) (from from' to to' : List B) → IsAt h old
    → Steps prior (TurnsOwn prior own turns) old new from from' to to' → Moves turns h (reverse from) (reverse from') (reverse to) (reverse to')
stacks-moved prior turns own h old new from from' to to' at s = record {
  step = s.back;
  again = s.forward;
  at = old;
  stood = at;
  turned = s.turned.0;
  taken = ap reverse s.taken ∙ reverse-last from' s.back;
  put = ap reverse s.put ∙ reverse-last to s.forward;
}

-- they stay of a sort that what leads forward again has
pub moved-own : {S B : Type 0} (prior : S → B → S) (turns : S → B → B → Type 0) (own : S → B → Type 0) (old new : S) (from from' to to' : List B)
    → Steps prior (TurnsOwn prior own turns) old new from from' to to' → FitInTurn prior own old (reverse from) → FitInTurn prior own old (reverse to)
    → FitInTurn prior own new (reverse from') × FitInTurn prior own new (reverse to')
moved-own {S} {B} prior turns own old new from from' to to' s f t =
    let first : FitInTurn prior own old (s.back ∷ reverse from') = subst (FitInTurn prior own old) (ap reverse s.taken ∙ reverse-last from' s.back) f in
    let again : own new s.forward = subst (λ x. own x s.forward) (sym s.there) (s.turned.1 first.0) in
    let rest : FitInTurn prior own (prior new s.forward) (reverse to) = subst (λ x. FitInTurn prior own x (reverse to)) (sym s.again) t in (
      subst (λ x. FitInTurn prior own x (reverse from')) (sym s.there) first.1,
      subst (FitInTurn prior own new) (sym (ap reverse s.put ∙ reverse-last to s.forward)) (again, rest),
    )

pub added-own : {S B : Type 0} (prior : S → B → S) (own : S → B → Type 0) (old new : S) (done done' : List B) (back : B) → done' ≡ done ++ back ∷ [] → prior new back ≡ old → own new back
    → FitInTurn prior own old (reverse done) → FitInTurn prior own new (reverse done')
added-own prior own old new done done' back d e o f =
    subst (FitInTurn prior own new) (sym (ap reverse d ∙ reverse-last done back)) (o, subst (λ x. FitInTurn prior own x (reverse done)) (sym e) f)

-- ---- A journal as a contract sees it.

abbrev pub kept-of : {S B : Type 0} → (S → B → S) → ℕ → S → (done undone : List B) → Bool → Kept S B
kept-of prior limit now done undone own = record {
  history = record {
    limit = limit;
    states = states_along prior now done ++ now ∷ reverse (states_along prior now undone);
    place = length done;
    own = own;
  };
  undo = reverse done;
  redo = reverse undone;
}

pub stands : {S B : Type 0} (prior : S → B → S) (limit : ℕ) (now : S) (done undone : List B) (own : Bool) → IsAt (kept-of prior limit now done undone own).history now
stands prior limit now done undone own = slice_get_at (states_along prior now done) (reverse (states_along prior now undone)) now (length done) (length-states prior now done)

pub all-now : {S B : Type 0} (prior : S → B → S) (sort : S → B → Type 0) (limit : ℕ) (now : S) (done undone : List B) (own : Bool) → AllAre prior sort (kept-of prior limit now done undone own)
    → FitInTurn prior sort now (reverse done) × FitInTurn prior sort now (reverse undone)
all-now prior sort limit now done undone own a =
    let same : a.now ≡ now = same_Some a.now now (sym a.at ∙ stands prior limit now done undone own) in
    (subst (λ s. FitInTurn prior sort s (reverse done)) same a.undo, subst (λ s. FitInTurn prior sort s (reverse undone)) same a.redo)

pub now-all : {S B : Type 0} (prior : S → B → S) (sort : S → B → Type 0) (limit : ℕ) (now : S) (done undone : List B) (own : Bool)
    → FitInTurn prior sort now (reverse done) × FitInTurn prior sort now (reverse undone) → AllAre prior sort (kept-of prior limit now done undone own)
now-all prior sort limit now done undone own f = record { now = now; at = stands prior limit now done undone own; undo = f.0; redo = f.1 }

-- whether a step is taken or not
pub taken-own : {S B T E : Type 0} (prior : S → B → S) (turns : S → B → B → Type 0) (own : S → B → Type 0) (r : Result T E) (old new : S) (from from' to to' : List B)
    → OnOk r (Steps prior (TurnsOwn prior own turns) old new from from' to to') → OnErr r (new ≡ old) → OnErr r (from' ≡ from) → OnErr r (to' ≡ to)
    → FitInTurn prior own old (reverse from) × FitInTurn prior own old (reverse to) → FitInTurn prior own new (reverse from') × FitInTurn prior own new (reverse to')
taken-own prior turns own (Ok x) old new from from' to to' s m f t h = moved-own prior turns own old new from from' to to' s h.0 h.1
taken-own prior turns own (Err e) old new from from' to to' s m f t h = (
  subst (λ x. FitInTurn prior own x (reverse from')) (sym m) (subst (λ bs. FitInTurn prior own old (reverse bs)) (sym f) h.0),
  subst (λ x. FitInTurn prior own x (reverse to')) (sym m) (subst (λ bs. FitInTurn prior own old (reverse bs)) (sym t) h.1),
)

-- ---- Steps that fit on a stack fit in turn.

abbrev led-to : {S B : Type 0} → (S → B → S) → S → List B → S
led-to prior now [] = now
led-to prior now (b ∷ bs) = led-to prior (prior now b) bs

led-last : {S B : Type 0} (prior : S → B → S) (now : S) (bs : List B) (b : B) → led-to prior now (bs ++ b ∷ []) ≡ prior (led-to prior now bs) b
led-last prior now [] b = refl
led-last prior now (x ∷ bs) b = led-last prior (prior now x) bs b

fit-last : {S B : Type 0} (prior : S → B → S) (fits : S → B → Type 0) (now : S) (bs : List B) (b : B) → FitInTurn prior fits now bs → fits (led-to prior now bs) b → FitInTurn prior fits now (bs ++ b ∷ [])
fit-last prior fits now [] b h f = (f, tt)
fit-last prior fits now (x ∷ bs) b h f = (h.0, fit-last prior fits (prior now x) bs b h.1 f)

led-back : {S B : Type 0} (prior : S → B → S) (now : S) (bs : List B) → led-to prior now (reverse bs) ≡ back_to prior now bs
led-back prior now [] = refl
led-back prior now (b ∷ bs) =
    ap (led-to prior now) (reverse-append (b ∷ []) bs) ∙ led-last prior now (reverse bs) b ∙ ap (λ s. prior s b) (led-back prior now bs)

pub turn-reverse : {S B : Type 0} (prior : S → B → S) (fits : S → B → Type 0) (now : S) (bs : List B) → FitAlong prior fits now bs → FitInTurn prior fits now (reverse bs)
turn-reverse prior fits now [] h = tt
turn-reverse prior fits now (b ∷ bs) h =
    subst (FitInTurn prior fits now) (sym (reverse-append (b ∷ []) bs))
    (fit-last prior fits now (reverse bs) b (turn-reverse prior fits now bs h.1) (subst (λ s. fits s b) (sym (led-back prior now bs)) h.0))
