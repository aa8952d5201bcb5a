-- What holds of a reading: P of what was read, S of the fault.
use Rattle.std.proofs.Common.{◌≡◌, Bool, true, false, cond, Result, Ok, Err, refl, subst, ap}
use Rattle.rdl_parse.specs.declared.fault.Fault.{Fault}
use Rattle.rdl_parse.specs.Reading.{◌>>=◌}

abbrev pub Holds : {A : Type 0} → (A → Type 0) → (Fault → Type 0) → Result A Fault → Type 0
Holds P S (Ok x) = P x
Holds P S (Err e) = S e

pub record Outcome {A : Type 0} (P : A → Type 0) (S : Fault → Type 0) (r : Result A Fault) : Type 0 where
  pub holds : Holds P S r

then-at : {A B : Type 0} (P : A → Type 0) (S : Fault → Type 0) (Q : B → Type 0) (r : Result A Fault) (f : A → Result B Fault) → Holds P S r → ((x : A) → P x → Outcome Q S (f x)) → Holds Q S (r >>= f)
then-at P S Q (Ok x) f p h = (h x p).holds
then-at P S Q (Err e) f p h = p

pub then : {A B : Type 0} {P : A → Type 0} {S : Fault → Type 0} {Q : B → Type 0} {r : Result A Fault} {f : A → Result B Fault} → Outcome P S r → ((x : A) → P x → Outcome Q S (f x)) → Outcome Q S (r >>= f)
then p h = record { holds = then-at _ _ _ _ _ p.holds h }

pub gives : {A : Type 0} {P : A → Type 0} {S : Fault → Type 0} (x : A) → P x → Outcome P S (Ok x)
gives x p = record { holds = p }

pub stops : {A : Type 0} {P : A → Type 0} {S : Fault → Type 0} (e : Fault) → S e → Outcome P S (Err e)
stops e s = record { holds = s }

weaker-at : {A : Type 0} (P : A → Type 0) (S : Fault → Type 0) (Q : A → Type 0) (T : Fault → Type 0) (r : Result A Fault) → Holds P S r → ((x : A) → P x → Q x) → ((e : Fault) → S e → T e) → Holds Q T r
weaker-at P S Q T (Ok x) p f g = f x p
weaker-at P S Q T (Err e) p f g = g e p

pub weaker : {A : Type 0} {P : A → Type 0} {S : Fault → Type 0} {Q : A → Type 0} {T : Fault → Type 0} {r : Result A Fault} → Outcome P S r → ((x : A) → P x → Q x) → ((e : Fault) → S e → T e) → Outcome Q T r
weaker p f g = record { holds = weaker-at _ _ _ _ _ p.holds f g }

pub but : {A : Type 0} {P : A → Type 0} {S : Fault → Type 0} {Q : A → Type 0} {r : Result A Fault} → Outcome P S r → ((x : A) → P x → Q x) → Outcome Q S r
but p f = weaker p f (λ e s. s)

either-at : {A : Type 0} (P : A → Type 0) (S : Fault → Type 0) (b : Bool) (r q : Result A Fault) → (b ≡ true → Outcome P S r) → (b ≡ false → Outcome P S q) → Holds P S (cond b r q)
either-at P S true r q h k = (h refl).holds
either-at P S false r q h k = (k refl).holds

pub either : {A : Type 0} {P : A → Type 0} {S : Fault → Type 0} {b : Bool} {r q : Result A Fault} → (b ≡ true → Outcome P S r) → (b ≡ false → Outcome P S q) → Outcome P S (cond b r q)
either h k = record { holds = either-at _ _ _ _ _ h k }

pub outcome-ok : {A : Type 0} {P : A → Type 0} {S : Fault → Type 0} {r : Result A Fault} (x : A) → r ≡ Ok x → Outcome P S r → P x
outcome-ok {A} {P} {S} x e h = subst (λ q. Holds P S q) e h.holds

pub outcome-err : {A : Type 0} {P : A → Type 0} {S : Fault → Type 0} {r : Result A Fault} (f : Fault) → r ≡ Err f → Outcome P S r → S f
outcome-err {A} {P} {S} f e h = subst (λ q. Holds P S q) e h.holds

-- what is read goes on as it would after what it is equal to
pub bind-ok : {A B : Type 0} {r : Result A Fault} (x : A) (f : A → Result B Fault) → r ≡ Ok x → (r >>= f) ≡ f x
bind-ok x f e = ap (λ q. q >>= f) e

pub cond-true : {A : Type 0} {b : Bool} (x y : A) → b ≡ true → cond b x y ≡ x
cond-true x y e = ap (λ b. cond b x y) e

pub cond-false : {A : Type 0} {b : Bool} (x y : A) → b ≡ false → cond b x y ≡ y
cond-false x y e = ap (λ b. cond b x y) e
