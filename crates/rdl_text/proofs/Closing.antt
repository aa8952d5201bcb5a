-- The parts of a string up to its closing quote: bytes without a meaning of their own, and a backslash with the byte that it takes.
use Rattle.std.proofs.Common.{◌≡◌, ℕ, zero, suc, ◌+◌, ◌-◌, ◌<◌, ◌≤◌, Bool, true, false, cond, ◌||◌, List, [], ◌∷◌, length, drop, get_or, Option, Some, None, inl, inr, refl, arith, ◌∙◌, sym, ap, subst}
use Rattle.std.proofs.lemmas.Bool.{cases_lt}
use Rattle.std.proofs.lemmas.List.{at_drop_more, at_drop_all, drop-drop}
use Rattle.std.specs.Option.{option_map}
use Rattle.std.specs.Prelude.{nat_eq}
use Rattle.memchr.specs.Find.{NoneBefore, Nowhere, Passes, is_byte2}
use Rattle.rdl_text.specs.Rows.{closing}

-- so many bytes further
abbrev pub further : ℕ → Option ℕ → Option ℕ
further i o = option_map (λ n. n + i) o

further-none : (o : Option ℕ) → further 0 o ≡ o
further-none None = refl
further-none (Some n) = ap Some (omega arith)

pub further-further : (i k : ℕ) (o : Option ℕ) → further i (further k o) ≡ further (i + k) o
further-further i k None = refl
further-further i k (Some n) = ap Some (omega arith)

-- a quote or a backslash
abbrev pub is_special : ℕ → Bool
is_special c = is_byte2 34 92 c

neither : (a b : Bool) → ((a || b) ≡ true → ⊥) → (a ≡ false) × (b ≡ false)
neither true b h = absurd (h refl)
neither false true h = absurd (h refl)
neither false false h = (refl, refl)

other : (a b : Bool) → (a || b) ≡ true → a ≡ false → b ≡ true
other true b h e = cc
other false b h e = h

pub backslash : (c : ℕ) → is_special c ≡ true → nat_eq c 34 ≡ false → nat_eq c 92 ≡ true
backslash c h e = other (nat_eq c 34) (nat_eq c 92) h e

one-plain : (c : ℕ) (cs : List ℕ) → (is_special c ≡ true → ⊥) → closing false (c ∷ cs) ≡ further 1 (closing false cs)
one-plain c cs h = let both = neither (nat_eq c 34) (nat_eq c 92) h in rw (both.0, both.1) refl

pub past_plain : (n : ℕ) (t : List ℕ) → n ≤ length t → ((k : ℕ) → k < n → is_special (get_or t k 0) ≡ true → ⊥) → further n (closing false (drop n t)) ≡ closing false t
past_plain zero t low h = further-none (closing false t)
past_plain (suc n) [] low h = absurd (omega (arith, low))
past_plain (suc n) (c ∷ cs) low h =
    let one : suc n ≡ 1 + n = omega arith in
    ap (λ (k : ℕ). further k (closing false (drop n cs))) one
    ∙ (sym (further-further 1 n (closing false (drop n cs)))
    ∙ (ap (further 1) (past_plain n cs (omega (arith, low)) (λ k m. h (suc k) (omega (arith, m)))) ∙ sym (one-plain c cs (h 0 (omega arith)))))

pub all_plain : (t : List ℕ) → ((k : ℕ) → k < length t → is_special (get_or t k 0) ≡ true → ⊥) → closing false t ≡ None
all_plain [] h = refl
all_plain (c ∷ cs) h = one-plain c cs (h 0 (omega arith)) ∙ ap (further 1) (all_plain cs (λ k m. h (suc k) (omega (arith, m))))

-- up to the first special byte
pub reach : (s t : List ℕ) (at n : ℕ) → t ≡ drop at s → NoneBefore (Passes is_special t) 0 (length t) n → further at (closing false (drop at s)) ≡ closing false s
    → further (at + n) (closing false (drop (at + n) s)) ≡ closing false s
reach s t at n e h told =
    let none : (k : ℕ) → k < n → is_special (get_or (drop at s) k 0) ≡ true → ⊥ = subst (λ (u : List ℕ). (k : ℕ) → k < n → is_special (get_or u k 0) ≡ true → ⊥) e (λ k m. h.before k (omega arith) m) in
    let inside : n ≤ length (drop at s) = subst (λ (u : List ℕ). n ≤ length u) e (omega (arith, h.high)) in
    ap (λ (u : List ℕ). further (at + n) (closing false u)) (sym (drop-drop n at s))
    ∙ (sym (further-further at n (closing false (drop n (drop at s)))) ∙ (ap (further at) (past_plain n (drop at s) inside none) ∙ told))

pub unclosed : (s t : List ℕ) (at : ℕ) → t ≡ drop at s → Nowhere (Passes is_special t) 0 (length t) → further at (closing false (drop at s)) ≡ closing false s → None ≡ closing false s
unclosed s t at e h told =
    let none : (k : ℕ) → k < length (drop at s) → is_special (get_or (drop at s) k 0) ≡ true → ⊥ =
    subst (λ (u : List ℕ). (k : ℕ) → k < length u → is_special (get_or u k 0) ≡ true → ⊥) e (λ k m. h k (omega arith) m) in
    sym (ap (further at) (all_plain (drop at s) none)) ∙ told

pub closed : (s : List ℕ) (at : ℕ) → at < length s → get_or s at 0 ≡ 34 → further at (closing false (drop at s)) ≡ closing false s → Some at ≡ closing false s
closed s at h e told =
    let first : closing false (drop at s) ≡ Some 0 = at_drop_more (closing false) s at 0 h ∙ rw e refl in
    ap Some (omega arith) ∙ (sym (ap (further at) first) ∙ told)

-- the byte at a place is taken by a backslash, where there is one
taken : (i : ℕ) (s : List ℕ) → further (i + 1) (closing false (drop (i + 1) s)) ≡ further i (closing true (drop i s))
taken i s =
    elim (cases_lt i (length s)) [
      | inl within ↦ sym (further-further i 1 _) ∙ ap (further i) (sym (at_drop_more (closing true) s i 0 within))
      | inr past ↦
          ap (further (i + 1)) (at_drop_all (closing false) s (i + 1) (omega (arith, past))) ∙ sym (ap (further i) (at_drop_all (closing true) s i past))
    ]

pub past_backslash : (s : List ℕ) (i : ℕ) → i < length s → nat_eq (get_or s i 0) 34 ≡ false → nat_eq (get_or s i 0) 92 ≡ true → further i (closing false (drop i s)) ≡ closing false s
    → further (i + 2) (closing false (drop (i + 2) s)) ≡ closing false s
past_backslash s i h e f told =
    let next : i + 2 ≡ i + 1 + 1 = omega arith in
    let here : closing false (drop i s) ≡ further 1 (closing true (drop (i + 1) s)) = at_drop_more (closing false) s i 0 h ∙ rw (e, f) refl in
    ap (λ (k : ℕ). further k (closing false (drop k s))) next
    ∙ (taken (i + 1) s ∙ (sym (further-further i 1 (closing true (drop (i + 1) s))) ∙ (sym (ap (further i) here) ∙ told)))

pub past_one : (s : List ℕ) (i : ℕ) → i < length s → nat_eq (get_or s i 0) 34 ≡ false → nat_eq (get_or s i 0) 92 ≡ false → further i (closing false (drop i s)) ≡ closing false s
    → further (i + 1) (closing false (drop (i + 1) s)) ≡ closing false s
past_one s i h e f told =
    let here : closing false (drop i s) ≡ further 1 (closing false (drop (i + 1) s)) = at_drop_more (closing false) s i 0 h ∙ rw (e, f) refl in
    sym (further-further i 1 (closing false (drop (i + 1) s))) ∙ (sym (ap (further i) here) ∙ told)
