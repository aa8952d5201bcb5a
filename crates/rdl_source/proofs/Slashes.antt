-- The end of a comment is looked for from slash to slash: up to the first one nothing ends, but right before it.
use Rattle.std.proofs.Common.{◌≡◌, ℕ, zero, suc, ◌+◌, ◌-◌, ◌<◌, Bool, true, false, cond, ◌&&◌, List, [], ◌∷◌, length, drop, get_or, Option, Some, None, refl, arith, ◌∙◌, sym, ap}
use Rattle.std.proofs.lemmas.Bool.{false≢true, eqb-true, eq-eqb}
use Rattle.std.proofs.lemmas.List.{drop-drop, get_or-drop}
use Rattle.std.specs.Prelude.{nat_eq}
use Rattle.memchr.specs.Find.{NoneBefore, Nowhere, Passes, is_byte}
use Rattle.rdl_text.proofs.Closing.{further, further-further}
use Rattle.rdl_text.specs.Words.{comment_end}

-- no slash
abbrev Plain : ℕ → Type 0
Plain c = nat_eq c 47 ≡ true → ⊥

not-so : (b : Bool) → (b ≡ true → ⊥) → b ≡ false
not-so true h = absurd (h refl)
not-so false h = refl

neither : (a b : Bool) (o : Option ℕ) → b ≡ false → cond (a && b) (Some 0) o ≡ o
neither true b o e = ap (λ x. cond x (Some 0) o) e
neither false b o e = refl

-- a byte before one that is no slash
one_more : (c : ℕ) (cs : List ℕ) → Plain (get_or cs 0 0) → comment_end (c ∷ cs) ≡ further 1 (comment_end cs)
one_more c cs h = neither (nat_eq c 42) (nat_eq (get_or cs 0 0) 47) (further 1 (comment_end cs)) (not-so (nat_eq (get_or cs 0 0) 47) h)

-- no byte is a slash
no_end : (t : List ℕ) → ((k : ℕ) → k < length t → Plain (get_or t k 0)) → comment_end t ≡ None
no_end [] h = refl
no_end (c ∷ []) h = one_more c [] (λ e. false≢true e)
no_end (c ∷ (d ∷ ds)) h = one_more c (d ∷ ds) (h 1 (omega arith)) ∙ ap (further 1) (no_end (d ∷ ds) (λ k m. h (suc k) (omega (arith, m))))

-- the first slash is behind a star
ends : (n : ℕ) (t : List ℕ) → suc n < length t → ((k : ℕ) → k < suc n → Plain (get_or t k 0)) → nat_eq (get_or t (suc n) 0) 47 ≡ true → nat_eq (get_or t n 0) 42 ≡ true
    → comment_end t ≡ Some n
ends n [] l h e f = absurd (omega (arith, l))
ends zero (c ∷ cs) l h e f = rw (f, e) refl
ends (suc n) (c ∷ cs) l h e f =
    one_more c cs (h 1 (omega arith))
    ∙ (ap (further 1) (ends n cs (omega (arith, l)) (λ k m. h (suc k) (omega (arith, m))) e f) ∙ ap Some (omega arith))

-- it is behind none
no_star : (c : ℕ) (cs : List ℕ) → nat_eq c 42 ≡ false → comment_end (c ∷ cs) ≡ further 1 (comment_end cs)
no_star c cs e = rw e refl

first : (n c : ℕ) (cs : List ℕ) → ((k : ℕ) → k < suc n → Plain (get_or (c ∷ cs) k 0)) → ((m : ℕ) → suc n ≡ suc m → nat_eq (get_or (c ∷ cs) m 0) 42 ≡ false)
    → comment_end (c ∷ cs) ≡ further 1 (comment_end cs)
first zero c cs h f = no_star c cs (f 0 refl)
first (suc n) c cs h f = one_more c cs (h 1 (omega arith))

passes : (n : ℕ) (t : List ℕ) → n < length t → ((k : ℕ) → k < n → Plain (get_or t k 0)) → nat_eq (get_or t n 0) 47 ≡ true → ((m : ℕ) → n ≡ suc m → nat_eq (get_or t m 0) 42 ≡ false)
    → further (suc n) (comment_end (drop (suc n) t)) ≡ comment_end t
passes n [] l h e f = absurd (omega (arith, l))
passes zero (c ∷ cs) l h e f = sym (no_star c cs (ap (λ d. nat_eq d 42) (eqb-true c 47 e)))
passes (suc n) (c ∷ cs) l h e f =
    let rest = comment_end (drop (suc n) cs) in
    let one : suc (suc n) ≡ 1 + suc n = omega arith in
    ap (λ k. further k rest) one
    ∙ (sym (further-further 1 (suc n) rest)
    ∙ (ap (further 1) (passes n cs (omega (arith, l)) (λ k m. h (suc k) (omega (arith, m))) e (λ m g. f (suc m) (ap suc g)))
    ∙ sym (first n c cs h f)))

-- ---- In what is left of a text.

pub unended : (s t : List ℕ) (at : ℕ) → t ≡ drop at s → Nowhere (Passes (is_byte 47) t) 0 (length t) → further at (comment_end (drop at s)) ≡ comment_end s → None ≡ comment_end s
unended s t at e h told = sym (ap (λ u. further at (comment_end u)) (sym e) ∙ ap (further at) (no_end t (λ k m. h k (omega arith) m))) ∙ told

pub ended : (s t : List ℕ) (at n : ℕ) → t ≡ drop at s → NoneBefore (Passes (is_byte 47) t) 0 (length t) n → Passes (is_byte 47) t n → 0 < n → get_or s (at + n - 1) 0 ≡ 42
    → further at (comment_end (drop at s)) ≡ comment_end s → Some (at + n - 1) ≡ comment_end s
ended s t at zero e h is some star told = absurd (omega (arith, some))
ended s t at (suc n) e h is some star told =
    let place : at + suc n - 1 ≡ at + n = omega arith in
    let before : get_or t n 0 ≡ 42 = ap (λ (u : List ℕ). get_or u n 0) e ∙ (get_or-drop at s n 0 ∙ (ap (λ k. get_or s k 0) (sym place) ∙ star)) in
    let found : comment_end t ≡ Some n = ends n t h.high (λ k m. h.before k (omega arith) m) is (eq-eqb (get_or t n 0) 42 before) in
    ap Some (omega arith) ∙ (sym (ap (λ u. further at (comment_end u)) (sym e) ∙ ap (further at) found) ∙ told)

pub passed : (s t : List ℕ) (at n : ℕ) → t ≡ drop at s → NoneBefore (Passes (is_byte 47) t) 0 (length t) n → Passes (is_byte 47) t n
    → (0 < n → nat_eq (get_or s (at + n - 1) 0) 42 ≡ false)
    → further at (comment_end (drop at s)) ≡ comment_end s → further (at + n + 1) (comment_end (drop (at + n + 1) s)) ≡ comment_end s
passed s t at n e h is star told =
    let none : (m : ℕ) → n ≡ suc m → nat_eq (get_or t m 0) 42 ≡ false =
    λ m g.
    let place : at + n - 1 ≡ at + m = omega (arith, g) in
    ap (λ (u : List ℕ). nat_eq (get_or u m 0) 42) e ∙ (ap (λ b. nat_eq b 42) (get_or-drop at s m 0) ∙ (ap (λ k. nat_eq (get_or s k 0) 42) (sym place) ∙ star (omega (arith, g)))) in
    let further_on = passes n t h.high (λ k m. h.before k (omega arith) m) is none in
    let rest = comment_end (drop (suc n) t) in
    let place : at + n + 1 ≡ at + suc n = omega arith in
    ap (λ k. further k (comment_end (drop k s))) place
    ∙ (ap (λ u. further (at + suc n) (comment_end u)) (sym (drop-drop (suc n) at s) ∙ ap (drop (suc n)) (sym e))
    ∙ (sym (further-further at (suc n) rest) ∙ (ap (further at) further_on ∙ (ap (λ u. further at (comment_end u)) e ∙ told))))
