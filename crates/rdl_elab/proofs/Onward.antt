-- The instances that a target has yet to pass, and the assignments that go on, in chains.
use Rattle.std.proofs.Common.{◌≡◌, ℕ, zero, suc, ◌+◌, ◌-◌, ◌%◌, ◌<◌, ◌≤◌, List, [], ◌∷◌, length, drop, get_or, Bool, true, false, Option, Some, None, refl, ap, sym, ◌∙◌, ◌⊎◌, inl, inr, subst, add-one, max, arith}
use Rattle.std.specs.Prelude.{nat_eq, slice_get, slice_set, if◌then◌else◌, option_map}
use Rattle.std.specs.List.{cons_option}
use Rattle.std.specs.Cmp.Lexicographic.{pointwise}
use Rattle.std.proofs.lemmas.Bool.{cases_eq}
use Rattle.std.proofs.lemmas.List.{drop-drop, drop-set, drop-set-lt, get_or-set_same, get_or-set_other, length-set}
use Rattle.std.proofs.lemmas.Grind.{get_or_default_zero}
use Rattle.std.proofs.Math.Seq.{drop-cons}
use Rattle.std.proofs.Math.ListN.{drop_of_length-le}
use Rattle.std.proofs.Math.Nat.{mod-lt}
use Rattle.std.proofs.lemmas.Slice.Eq.{bytes_eq-Decides}
use Rattle.std.specs.Option.{is_none}
use Rattle.rdl_tree.specs.Address.{number_of}
use Rattle.rdl_elab.specs.HeldPath.{has_at}
use Rattle.rdl_elab.specs.Reaches.{Reach, passed, behind, has_ended}
use Rattle.rdl_elab.specs.Onward.{chain, first_in, first_under, IsOnward}
use Rattle.rdl_elab.specs.declared.walk.reaches.Onward.{Onward}

pub first-dropped : {X : Type 0} (n : ℕ) (xs : List X) → slice_get (drop n xs) 0 ≡ slice_get xs n
first-dropped zero xs = refl
first-dropped (suc n) [] = refl
first-dropped (suc n) (x ∷ xs) = first-dropped n xs

passed-gone : (a : List ℕ) (r : Reach) (path : List (List ℕ)) → slice_get path 0 ≡ None → passed a r path ≡ None
passed-gone a r [] e = refl
passed-gone a r (b ∷ path) e = cc

passed-next : (a : List ℕ) (r : Reach) (path : List (List ℕ)) (x : List ℕ) → slice_get path 0 ≡ Some x → passed a r path ≡ (if pointwise nat_eq x a then Some (record r { path = drop 1 path }) else None)
passed-next a r [] x e = cc
passed-next a r (b ∷ path) x e = let same : b ≡ x = cc in ap (λ y. if pointwise nat_eq y a then Some (record r { path = path }) else None) same

-- the same of what is left of a path
pub left-gone : (a : List ℕ) (r : Reach) (n : ℕ) (path : List (List ℕ)) → slice_get path n ≡ None → passed a r (drop n path) ≡ None
left-gone a r n path e = passed-gone a r (drop n path) (first-dropped n path ∙ e)

pub left-other : (a : List ℕ) (r : Reach) (n : ℕ) (path : List (List ℕ)) (x : List ℕ) → slice_get path n ≡ Some x → pointwise nat_eq x a ≡ false → passed a r (drop n path) ≡ None
left-other a r n path x e f = passed-next a r (drop n path) x (first-dropped n path ∙ e) ∙ ap (λ b. if b then Some (record r { path = drop 1 (drop n path) }) else None) f

pub left-next : (a : List ℕ) (r : Reach) (n : ℕ) (path : List (List ℕ)) (x : List ℕ) → slice_get path n ≡ Some x → pointwise nat_eq x a ≡ true → passed a r (drop n path) ≡ Some (record r { path = drop (n + 1) path })
left-next a r n path x e f =
    passed-next a r (drop n path) x (first-dropped n path ∙ e) ∙ ap (λ b. if b then Some (record r { path = drop 1 (drop n path) }) else None) f
    ∙ ap (λ p. Some (record r { path = p })) (drop-drop 1 n path)

-- the same by whether the next instance is this one
pub left-away : (a : List ℕ) (r : Reach) (n : ℕ) (path : List (List ℕ)) → has_at a (slice_get path n) ≡ false → passed a r (drop n path) ≡ None
left-away a r n path f = by (slice_get path n) refl
  where
    by : (o : Option (List ℕ)) → slice_get path n ≡ o → passed a r (drop n path) ≡ None
    by None e = left-gone a r n path e
    by (Some x) e = left-other a r n path x e (sym (ap (has_at a) e) ∙ f)

pub left-there : (a : List ℕ) (r : Reach) (n : ℕ) (path : List (List ℕ)) → has_at a (slice_get path n) ≡ true → passed a r (drop n path) ≡ Some (record r { path = drop (n + 1) path })
left-there a r n path t = by (slice_get path n) refl
  where
    by : (o : Option (List ℕ)) → slice_get path n ≡ o → passed a r (drop n path) ≡ Some (record r { path = drop (n + 1) path })
    by None e = let no : false ≡ true = sym (ap (has_at a) e) ∙ t in absurd cc
    by (Some x) e = left-next a r n path x e (sym (ap (has_at a) e) ∙ t)

pub ruleset passing = (left-away, left-there)

-- the number of the next instance
pub next-number : (n : ℕ) (path : List (List ℕ)) → option_map number_of (slice_get (drop n path) 0) ≡ option_map number_of (slice_get path n)
next-number n path = ap (option_map number_of) (first-dropped n path)

pub ruleset dropping = (next-number)

pub ended-left : (n : ℕ) (path : List (List ℕ)) → has_ended (drop n path) ≡ is_none (slice_get path n)
ended-left zero [] = refl
ended-left zero (y ∷ rest) = refl
ended-left (suc n) [] = refl
ended-left (suc n) (y ∷ rest) = ended-left n rest

pub ruleset ending = (ended-left)

-- an assignment whose next instance is another one
passed-apart : (a x : List ℕ) (r : Reach) → slice_get r.path 0 ≡ Some x → (x ≡ a → ⊥) → passed a r r.path ≡ None
passed-apart a x r e apart = passed-next a r r.path x e ∙ by (pointwise nat_eq x a) refl
  where
    by : (t : Bool) → pointwise nat_eq x a ≡ t → (if t then Some (record r { path = drop 1 r.path }) else None) ≡ None
    by true f = absurd (apart ((bytes_eq-Decides x a).0 f))
    by false f = refl

-- a chain whose first stands behind all of them has none
pub chain-beyond : (b : ℕ) (ks : List ℕ) (rs : List Reach) (n : ℕ) → length rs ≤ n → chain b ks rs n ≡ []
chain-beyond b [] rs n le = refl
chain-beyond b (k ∷ ks) [] n le = refl
chain-beyond b (k ∷ ks) (r ∷ rs) zero le = absurd (omega arith)
chain-beyond b (k ∷ ks) (r ∷ rs) (suc n) le = chain-beyond (suc b) ks rs n (omega arith)

chain-none : (b : ℕ) (ks : List ℕ) (n : ℕ) → chain b ks [] n ≡ []
chain-none b [] n = refl
chain-none b (k ∷ ks) n = refl

-- a chain from the assignment on that is its first
chain-on : (n b : ℕ) (ks : List ℕ) (rs : List Reach) → chain b ks rs n ≡ chain (b + n) (drop n ks) (drop n rs) 0
chain-on zero b ks rs = let e : b ≡ b + 0 = omega arith in ap (λ m. chain m ks rs 0) e
chain-on (suc n) b [] rs = refl
chain-on (suc n) b (k ∷ ks) [] = sym (chain-none (b + suc n) (drop n ks) 0)
chain-on (suc n) b (k ∷ ks) (r ∷ rs) =
    let e : suc b + n ≡ b + suc n = omega arith in
    chain-on n (suc b) ks rs ∙ ap (λ m. chain m (drop n ks) (drop n rs) 0) e

abbrev pub going_from : List ℕ → List Reach → ℕ → List Reach
going_from ks rs n = chain n (drop n ks) (drop n rs) 0

pub going-begins : (ks : List ℕ) (rs : List Reach) (n : ℕ) → chain 0 ks rs n ≡ going_from ks rs n
going-begins ks rs n = let e : 0 + n ≡ n = omega arith in chain-on n 0 ks rs ∙ ap (λ m. chain m (drop n ks) (drop n rs) 0) e

pub going-ends : (ks : List ℕ) (rs : List Reach) (n : ℕ) → length rs ≤ n → going_from ks rs n ≡ []
going-ends ks rs n le = ap (λ ys. chain n (drop n ks) ys 0) (drop_of_length-le rs le) ∙ chain-none n (drop n ks) 0

pub going-unlinked : (ks : List ℕ) (rs : List Reach) (n : ℕ) → length ks ≤ n → going_from ks rs n ≡ []
going-unlinked ks rs n le = ap (λ ys. chain n ys (drop n rs) 0) (drop_of_length-le ks le)

-- the first of them, and the others
pub going-first : (ks : List ℕ) (rs : List Reach) (n k : ℕ) (r : Reach) → n < length ks → n < length rs → k ≡ max (get_or ks n 0) (n + 1)
    → going_from ks rs n ≡ get_or rs n r ∷ going_from ks rs k
going-first ks rs n k r l m e =
    let far : suc n + (get_or ks n 0 - suc n) ≡ k = omega arith in
    ap (λ ys. chain n ys (drop n rs) 0) (drop-cons ks n 0 l)
    ∙ ap (λ ys. chain n (get_or ks n 0 ∷ drop (suc n) ks) ys 0) (drop-cons rs n r m)
    ∙ ap (λ ys. get_or rs n r ∷ ys) (
    chain-on (get_or ks n 0 - suc n) (suc n) (drop (suc n) ks) (drop (suc n) rs)
    ∙ ap (λ ys. chain (suc n + (get_or ks n 0 - suc n)) ys (drop (get_or ks n 0 - suc n) (drop (suc n) rs)) 0) (drop-drop (get_or ks n 0 - suc n) (suc n) ks)
    ∙ ap (λ ys. chain (suc n + (get_or ks n 0 - suc n)) (drop (suc n + (get_or ks n 0 - suc n)) ks) ys 0) (drop-drop (get_or ks n 0 - suc n) (suc n) rs)
    ∙ ap (going_from ks rs) far)

-- of the first of them, an assignment that passes the instance, and one that doesn't
pub behind-going : (a : List ℕ) (ks : List ℕ) (rs : List Reach) (n k : ℕ) (r q : Reach) → n < length ks → n < length rs → r ≡ get_or rs n r → k ≡ max (get_or ks n 0) (n + 1)
    → passed a r r.path ≡ Some q → behind a (going_from ks rs n) ≡ q ∷ behind a (going_from ks rs k)
behind-going a ks rs n k r q l m is e some =
    ap (behind a) (going-first ks rs n k r l m e)
    ∙ ap (λ o. cons_option o (behind a (going_from ks rs k))) (ap (λ (x : Reach). passed a x x.path) (sym is) ∙ some)

pub behind-passing : (a : List ℕ) (ks : List ℕ) (rs : List Reach) (n k : ℕ) (r : Reach) → n < length ks → n < length rs → r ≡ get_or rs n r → k ≡ max (get_or ks n 0) (n + 1)
    → passed a r r.path ≡ None → behind a (going_from ks rs n) ≡ behind a (going_from ks rs k)
behind-passing a ks rs n k r l m is e none =
    ap (behind a) (going-first ks rs n k r l m e)
    ∙ ap (λ o. cons_option o (behind a (going_from ks rs k))) (ap (λ (x : Reach). passed a x x.path) (sym is) ∙ none)

-- the chains of the assignments from number i on
pub record ChainedFrom (i : ℕ) (heads links : List ℕ) (rs : List Reach) : Type 0 where
  pub chains : (a : List ℕ) → behind a (chain i (drop i links) (drop i rs) (first_in heads rs (number_of a) - i)) ≡ behind a (drop i rs)
  pub above : (k : ℕ) → i ≤ first_in heads rs k

-- what a chain has behind an assignment that isn't in it
chain-skips : (j : ℕ) (links : List ℕ) (rs : List Reach) (r : Reach) (f : ℕ) → j < length links → j < length rs → suc j ≤ f
    → chain j (drop j links) (drop j rs) (f - j) ≡ chain (suc j) (drop (suc j) links) (drop (suc j) rs) (f - suc j)
chain-skips j links rs r f l m n =
    let e : f - j ≡ suc (f - suc j) = omega arith in
    ap (λ ys. chain j ys (drop j rs) (f - j)) (drop-cons links j 0 l)
    ∙ ap (λ ys. chain j (get_or links j 0 ∷ drop (suc j) links) ys (f - j)) (drop-cons rs j r m)
    ∙ ap (λ x. chain j (get_or links j 0 ∷ drop (suc j) links) (get_or rs j r ∷ drop (suc j) rs) x) e

behind-over : (a : List ℕ) (j : ℕ) (rs : List Reach) (r : Reach) → j < length rs → r ≡ get_or rs j r → passed a r r.path ≡ None → behind a (drop j rs) ≡ behind a (drop (suc j) rs)
behind-over a j rs r l is none =
    ap (behind a) (drop-cons rs j r l) ∙ ap (λ o. cons_option o (behind a (drop (suc j) rs))) (ap (λ (q : Reach). passed a q q.path) (sym is) ∙ none)

module _ (heads links : List ℕ) (rs : List Reach) (j : ℕ) (r : Reach) (within : j < length rs) (is : r ≡ get_or rs j r) (long : length links ≡ length rs) (h : ChainedFrom (suc j) heads links rs) where
  over : (new : List ℕ) (a : List ℕ) → length new ≡ length rs → drop (suc j) new ≡ drop (suc j) links → passed a r r.path ≡ None
      → behind a (chain j (drop j new) (drop j rs) (first_in heads rs (number_of a) - j)) ≡ behind a (drop j rs)
  over new a same rest none =
      ap (behind a) (chain-skips j new rs r (first_in heads rs (number_of a)) (omega arith) within (h.above (number_of a)))
      ∙ ap (λ ks. behind a (chain (suc j) ks (drop (suc j) rs) (first_in heads rs (number_of a) - suc j))) rest
      ∙ h.chains a
      ∙ sym (behind-over a j rs r within is none)

  -- one that has passed all its instances stands in no chain
  pub ended-chained : slice_get r.path 0 ≡ None → ChainedFrom j heads links rs
  ended-chained none = record {
    chains = λ a. over links a long refl (passed-gone a r r.path none);
    above = λ k. let more = h.above k in omega arith;
  }

  -- the others stand first in the chain of their slot
  module _ (x : List ℕ) (first : slice_get r.path 0 ≡ Some x) (some : 0 < length heads) where
    abbrev slot : ℕ
    slot = number_of x % length heads

    abbrev new_heads : List ℕ
    new_heads = slice_set heads slot j

    abbrev new_links : List ℕ
    new_links = slice_set links j (get_or heads slot 0)

    slot-within : slot < length heads
    slot-within = mod-lt (number_of x) some

    first-here : (k : ℕ) → k % length heads ≡ slot → first_in new_heads rs k ≡ j
    first-here k e =
        ap (λ n. get_or new_heads (k % n) (length rs)) (length-set heads slot j)
        ∙ ap (λ n. get_or new_heads n (length rs)) e
        ∙ get_or-set_same heads slot j (length rs) slot-within

    first-there : (k : ℕ) → (k % length heads ≡ slot → ⊥) → first_in new_heads rs k ≡ first_in heads rs k
    first-there k ne =
        ap (λ n. get_or new_heads (k % n) (length rs)) (length-set heads slot j)
        ∙ get_or-set_other heads slot (k % length heads) j (length rs) ne

    old-first : (k : ℕ) → k % length heads ≡ slot → get_or heads slot 0 ≡ first_in heads rs k
    old-first k e = sym (get_or_default_zero heads slot (length rs) slot-within) ∙ ap (λ n. get_or heads n (length rs)) (sym e)

    in-chain : (a : List ℕ) → number_of a % length heads ≡ slot → behind a (chain j (drop j new_links) (drop j rs) (first_in new_heads rs (number_of a) - j)) ≡ behind a (drop j rs)
    in-chain a e =
        ap (λ n. behind a (chain j (drop j new_links) (drop j rs) n)) (ap (λ n. n - j) (first-here (number_of a) e) ∙ self j)
        ∙ ap (λ ks. behind a (chain j ks (drop j rs) 0)) (drop-set links j (get_or heads slot 0) (omega arith) ∙ ap (λ n. get_or heads slot 0 ∷ drop n links) (add-one j))
        ∙ ap (λ ys. behind a (chain j (get_or heads slot 0 ∷ drop (suc j) links) ys 0)) (drop-cons rs j r within)
        ∙ ap (λ n. cons_option (passed a (get_or rs j r) (get_or rs j r).path) (behind a (chain (suc j) (drop (suc j) links) (drop (suc j) rs) (n - suc j)))) (old-first (number_of a) e)
        ∙ ap (cons_option (passed a (get_or rs j r) (get_or rs j r).path)) (h.chains a)
        ∙ sym (ap (behind a) (drop-cons rs j r within))
      where
        self : (n : ℕ) → n - n ≡ 0
        self n = omega arith

    out-of-chain : (a : List ℕ) → (number_of a % length heads ≡ slot → ⊥) → behind a (chain j (drop j new_links) (drop j rs) (first_in new_heads rs (number_of a) - j)) ≡ behind a (drop j rs)
    out-of-chain a ne =
        ap (λ n. behind a (chain j (drop j new_links) (drop j rs) (n - j))) (first-there (number_of a) ne)
        ∙ over new_links a (length-set links j (get_or heads slot 0) ∙ long) (drop-set-lt (suc j) links j (get_or heads slot 0) (omega arith))
        (passed-apart a x r first (λ e. ne (ap (λ y. number_of y % length heads) (sym e))))

    pub put-chained : ChainedFrom j new_heads new_links rs
    put-chained = record {
      chains = λ a. by a (cases_eq (number_of a % length heads) slot);
      above = λ k. up k (cases_eq (k % length heads) slot);
    }
      where
        by : (a : List ℕ) → (number_of a % length heads ≡ slot) ⊎ (number_of a % length heads ≡ slot → ⊥)
            → behind a (chain j (drop j new_links) (drop j rs) (first_in new_heads rs (number_of a) - j)) ≡ behind a (drop j rs)
        by a (inl e) = in-chain a e
        by a (inr ne) = out-of-chain a ne

        up : (k : ℕ) → (k % length heads ≡ slot) ⊎ (k % length heads ≡ slot → ⊥) → j ≤ first_in new_heads rs k
        up k (inl e) = let same = first-here k e in omega arith
        up k (inr ne) = let same = first-there k ne in let more = h.above k in omega arith

pub ruleset going = (going-begins, going-ends, going-unlinked, behind-going, behind-passing)

-- the next assignment to be put, which is the last of those that weren't
pub put-next : (heads links new_heads new_links : List ℕ) (rs : List Reach) (n m : ℕ) (r : Reach) (x : List ℕ) → 0 < n → n ≤ length rs → r ≡ get_or rs (n - 1) r → length links ≡ length rs → 0 < length heads
    → slice_get r.path 0 ≡ Some x → m ≡ number_of x → new_heads ≡ slice_set heads (m % length heads) (n - 1) → new_links ≡ slice_set links (n - 1) (get_or heads (m % length heads) 0)
    → ChainedFrom n heads links rs → ChainedFrom (n - 1) new_heads new_links rs
put-next heads links new_heads new_links rs n m r x some le is long slots first e hs ls h =
    let before : ChainedFrom (suc (n - 1)) heads links rs = subst (λ i. ChainedFrom i heads links rs) (next n some) h in
    let made = put-chained heads links rs (n - 1) r (omega arith) is long before x first slots in
    rw (hs, ls, e) made
  where
    next : (n : ℕ) → 0 < n → n ≡ suc (n - 1)
    next n l = omega arith

-- the same, where the number of its next instance is known
pub put-numbered : (heads links new_heads new_links : List ℕ) (rs : List Reach) (n m : ℕ) (r : Reach) → 0 < n → n ≤ length rs → r ≡ get_or rs (n - 1) r → length links ≡ length rs → 0 < length heads
    → option_map number_of (slice_get r.path 0) ≡ Some m → new_heads ≡ slice_set heads (m % length heads) (n - 1) → new_links ≡ slice_set links (n - 1) (get_or heads (m % length heads) 0)
    → ChainedFrom n heads links rs → ChainedFrom (n - 1) new_heads new_links rs
put-numbered heads links new_heads new_links rs n m r some le is long slots number hs ls h = by (slice_get r.path 0) refl
  where
    by : (o : Option (List ℕ)) → slice_get r.path 0 ≡ o → ChainedFrom (n - 1) new_heads new_links rs
    by None e = let no : None ≡ Some m = sym (ap (option_map number_of) e) ∙ number in absurd cc
    by (Some x) e = let is_m : Some (number_of x) ≡ Some m = sym (ap (option_map number_of) e) ∙ number in put-next heads links new_heads new_links rs n m r x some le is long slots e (cc) hs ls h

pub pass-next : (heads links : List ℕ) (rs : List Reach) (n : ℕ) (r : Reach) → 0 < n → n ≤ length rs → r ≡ get_or rs (n - 1) r → length links ≡ length rs → slice_get r.path 0 ≡ None
    → ChainedFrom n heads links rs → ChainedFrom (n - 1) heads links rs
pass-next heads links rs n r some le is long none h =
    let before : ChainedFrom (suc (n - 1)) heads links rs = subst (λ i. ChainedFrom i heads links rs) (next n some) h in
    ended-chained heads links rs (n - 1) r (omega arith) is long before none
  where
    next : (n : ℕ) → 0 < n → n ≡ suc (n - 1)
    next n l = omega arith

-- the same, where its next instance has no number
pub pass-numbered : (heads links : List ℕ) (rs : List Reach) (n : ℕ) (r : Reach) → 0 < n → n ≤ length rs → r ≡ get_or rs (n - 1) r → length links ≡ length rs → option_map number_of (slice_get r.path 0) ≡ None
    → ChainedFrom n heads links rs → ChainedFrom (n - 1) heads links rs
pass-numbered heads links rs n r some le is long none h = by (slice_get r.path 0) refl
  where
    by : (o : Option (List ℕ)) → slice_get r.path 0 ≡ o → ChainedFrom (n - 1) heads links rs
    by None e = pass-next heads links rs n r some le is long e h
    by (Some x) e = let no : Some (number_of x) ≡ None = sym (ap (option_map number_of) e) ∙ none in absurd cc

-- a level in which no assignment stands in the chain of an instance's number
pub none-behind : (onward : Onward) (a : List ℕ) (k first : ℕ) → k ≡ number_of a → first ≡ first_under onward k → length onward.reaching.now ≤ first
    → (reaching : List Reach) → IsOnward onward reaching → behind a reaching ≡ []
none-behind onward a k first number is le reaching h =
    let far : length onward.reaching.now ≤ first_under onward (number_of a) = rw (← number, ← is) le in
    sym (h a) ∙ ap (behind a) (chain-beyond 0 onward.links.items onward.reaching.now (first_under onward (number_of a)) far)
