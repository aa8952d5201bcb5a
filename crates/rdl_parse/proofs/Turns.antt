-- Repeated steps: what holds of them, and that they do not depend on how many turns are allowed, if each step takes a word.
use Rattle.std.proofs.Common.{◌≡◌, ℕ, zero, suc, ◌<◌, ◌≤◌, Bool, true, false, cond, List, [], ◌∷◌, length, Result, Ok, Err, refl, ap, sym, ◌∙◌, arith}
use Rattle.rdl_parse.specs.Symbol.{Symbol}
use Rattle.rdl_parse.specs.declared.fault.Fault.{Fault}
use Rattle.rdl_parse.specs.Reading.{◌>>=◌, turns, repeated}
use Rattle.rdl_parse.proofs.Outcome.{Outcome, then, gives, weaker, either, cond-true, cond-false}

abbrev pub Step : Type 0 → Type 0
Step S = S → List Symbol → Result (S × List Symbol) Fault

-- what a run of turns from here does, and where its faults stand
pub record Turning {S : Type 0} (R : S → List Symbol → S → List Symbol → Type 0) (F : S → List Symbol → Fault → Type 0) (step : Step S) : Type 0 where
  pub none : (s : S) (ws : List Symbol) → R s ws s ws
  pub one : (s : S) (ws : List Symbol) → Outcome (λ x. ((z : S × List Symbol) → R x.0 x.1 z.0 z.1 → R s ws z.0 z.1) × ((e : Fault) → F x.0 x.1 e → F s ws e)) (F s ws) (step s ws)

turns-hold : {S : Type 0} (R : S → List Symbol → S → List Symbol → Type 0) (F : S → List Symbol → Fault → Type 0) (on : List Symbol → Bool) (step : Step S) → Turning R F step
    → (n : ℕ) (s : S) (ws : List Symbol) → Outcome (λ z. R s ws z.0 z.1) (F s ws) (turns on step n s ws)
unfolding turns
turns-hold R F on step h zero s ws = gives _ (h.none s ws)
turns-hold R F on step h (suc n) s ws =
    either
    (λ _. then (h.one s ws) (λ x p. weaker (turns-hold R F on step h n x.0 x.1) p.0 p.1))
    (λ _. gives _ (h.none s ws))

pub repeated-holds : {S : Type 0} {R : S → List Symbol → S → List Symbol → Type 0} {F : S → List Symbol → Fault → Type 0} {step : Step S} (on : List Symbol → Bool) → Turning R F step
    → (s : S) (ws : List Symbol) → Outcome (λ z. R s ws z.0 z.1) (F s ws) (repeated on step s ws)
unfolding repeated
repeated-holds on h s ws = turns-hold _ _ on _ h (length ws) s ws

pub record Shortens {S : Type 0} (on : List Symbol → Bool) (step : Step S) : Type 0 where
  pub ends : on [] ≡ false
  pub shorter : (s : S) (ws : List Symbol) (x : S × List Symbol) → step s ws ≡ Ok x → length x.1 < length ws

bind-same : {A B : Type 0} (r : Result A Fault) (f g : A → Result B Fault) → ((x : A) → r ≡ Ok x → f x ≡ g x) → (r >>= f) ≡ (r >>= g)
bind-same (Ok x) f g h = h x refl
bind-same (Err e) f g h = refl

cond-same : {A : Type 0} (b : Bool) (x y z : A) → y ≡ z → cond b y x ≡ cond b z x
cond-same b x y z e = ap (λ u. cond b u x) e

turns-zero : {S : Type 0} (on : List Symbol → Bool) (step : Step S) (m : ℕ) (s : S) (ws : List Symbol) → on [] ≡ false → length ws ≤ 0 → turns on step m s ws ≡ Ok (s, ws)
unfolding turns
turns-zero on step zero s ws e h = refl
turns-zero on step (suc m) s [] e h = cond-false _ _ e
turns-zero on step (suc m) s (w ∷ ws) e h = absurd (omega arith)

turns-same : {S : Type 0} (on : List Symbol → Bool) (step : Step S) → Shortens on step → (n m : ℕ) (s : S) (ws : List Symbol) → length ws ≤ n → length ws ≤ m → turns on step n s ws ≡ turns on step m s ws
unfolding turns
turns-same on step short zero m s ws h k = sym (turns-zero on step m s ws short.ends h)
turns-same on step short (suc n) zero s ws h k = turns-zero on step (suc n) s ws short.ends k
turns-same on step short (suc n) (suc m) s ws h k =
    cond-same (on ws) _ _ _
    (bind-same (step s ws) _ _ (λ x q. let l = short.shorter s ws x q in turns-same on step short n m x.0 x.1 (omega (arith, l)) (omega (arith, l))))

pub repeated-step : {S : Type 0} (on : List Symbol → Bool) (step : Step S) → Shortens on step → (s : S) (ws : List Symbol) → repeated on step s ws ≡ cond (on ws) (step s ws >>= λ x. repeated on step x.0 x.1) (Ok (s, ws))
unfolding turns repeated
repeated-step on step short s [] = sym (cond-false _ _ short.ends)
repeated-step on step short s (w ∷ ws) =
    cond-same (on (w ∷ ws)) _ _ _
    (bind-same (step s (w ∷ ws)) _ _ (λ x q. let l = short.shorter s (w ∷ ws) x q in turns-same on step short (length ws) (length x.1) x.0 x.1 (omega (arith, l)) (omega arith)))

-- no turn
pub repeated-done : {S : Type 0} {on : List Symbol → Bool} {step : Step S} → Shortens on step → (s : S) (ws : List Symbol) → on ws ≡ false → repeated on step s ws ≡ Ok (s, ws)
repeated-done short s ws h = repeated-step _ _ short s ws ∙ cond-false _ _ h

-- one turn, and then the others
pub repeated-on : {S : Type 0} {on : List Symbol → Bool} {step : Step S} → Shortens on step → (s : S) (ws : List Symbol) (r : Result (S × List Symbol) Fault) → on ws ≡ true → step s ws ≡ r
    → repeated on step s ws ≡ (r >>= λ x. repeated on step x.0 x.1)
repeated-on {S} {on} {step} short s ws r h k = repeated-step on step short s ws ∙ cond-true _ _ h ∙ ap (λ q. q >>= λ x. repeated on step x.0 x.1) k

pub repeated-next : {S : Type 0} {on : List Symbol → Bool} {step : Step S} → Shortens on step → (s : S) (ws : List Symbol) (x : S × List Symbol) → on ws ≡ true → step s ws ≡ Ok x
    → repeated on step s ws ≡ repeated on step x.0 x.1
repeated-next short s ws x h k = repeated-on short s ws (Ok x) h k
