-- What a separator parts, numbers and addresses: what is read is written, and what is written is read.
use Rattle.std.proofs.Common.{◌≡◌, ℕ, zero, suc, ◌+◌, ◌-◌, ◌^◌, ◌<◌, Bool, true, false, not, cond, nat_eq, List, [], ◌∷◌, ◌++◌, length, take, drop, get_or, Option, None, Some, refl, ap, sym, ◌∙◌, subst, eq-eqb, append_assoc, arith, rules}
use Rattle.std.proofs.lemmas.Bool.{eqb-true}
use Rattle.std.proofs.lemmas.Bool.Decides.{nat_tests}
use Rattle.std.proofs.lemmas.Fmt.{decimal_is_IsNumeral, decimal-digits_value, digits_decimal, decimal_digit, first_decimal, IsAscii-from_digits}
use Rattle.std.proofs.lemmas.Grind.{common_steps}
use Rattle.std.proofs.lemmas.List.{length-append, append-nil}
use Rattle.std.proofs.lemmas.Str.Parse.{IsNumeralModel, numerals_by_value, parse_digits}
use Rattle.std.proofs.lemmas.Str.{IsUtf8-from_ascii}
use Rattle.std.specs.Char.{is_ascii_digit}
use Rattle.std.specs.Fmt.{decimal}
use Rattle.std.specs.List.{list_all, position, position_or_len, AllByRecursion}
use Rattle.std.specs.Option.{MatchOption}
use Rattle.std.specs.Prelude.{Result, Ok, Err, IsUtf8, nat_lt, ◌&&◌, ◌||◌, if◌then◌else◌, option_map, codes, flat_map}
use Rattle.std.specs.Result.{OkIff, result_ok}
use Rattle.std.specs.Str.Parse.{digits_value, ParsesUnsigned}
use Rattle.rdl_tree.specs.AddressText.{address_text}
use Rattle.rdl_session.proofs.Form.{IsHeld, Lacks, IsAddress}
use Rattle.rdl_session.specs.Reading.{◌>>=◌, Cut, cut_at, is_plain, number_in, either, address_in}

-- ---- Options.

pub bound : {A B : Type 0} (o : Option A) (f : A → Option B) (y : B) → (o >>= f) ≡ Some y → (x : A) × (o ≡ Some x) × (f x ≡ Some y)
bound (Some x) f y e = (x, refl, e)
bound None f y e = absurd cc

pub mapped : {A B : Type 0} (f : A → B) (o : Option A) (y : B) → option_map f o ≡ Some y → (x : A) × (o ≡ Some x) × (f x ≡ y)
mapped f (Some x) y e = (x, refl, cc)
mapped f None y e = absurd cc

pub guarded : {A : Type 0} (b : Bool) (o : Option A) (y : A) → cond b o None ≡ Some y → (b ≡ true) × (o ≡ Some y)
guarded true o y e = (refl, e)
guarded false o y e = absurd cc

pub both : (a b : Bool) → (a && b) ≡ true → (a ≡ true) × (b ≡ true)
both true b h = (refl, h)
both false b h = absurd (cc)

-- ---- Cuts.

pub record IsCut (c : ℕ) (bytes front back : List ℕ) : Type 0 where
  pub parts : bytes ≡ front ++ c ∷ back
  pub lacks : Lacks c front

pub cut-again : (c : ℕ) (front back : List ℕ) → Lacks c front → cut_at c (front ++ c ∷ back) ≡ Some (front, back)
unfolding cut_at
cut-again c [] back h = rw (eq-eqb c c refl) refl
cut-again c (x ∷ front) back h = rw (h.0, cut-again c front back h.1) refl

pub cut-whole : (c : ℕ) (bytes : List ℕ) → Lacks c bytes → cut_at c bytes ≡ None
unfolding cut_at
cut-whole c [] h = refl
cut-whole c (x ∷ bytes) h = rw (h.0, cut-whole c bytes h.1) refl

cut-step : (b : Bool) (c x : ℕ) (bytes : List ℕ) (p : Cut) → nat_eq x c ≡ b → ((q : Cut) → cut_at c bytes ≡ Some q → IsCut c bytes q.0 q.1)
    → cond b (Some ([], bytes)) (option_map (λ q. (x ∷ q.0, q.1)) (cut_at c bytes)) ≡ Some p → IsCut c (x ∷ bytes) p.0 p.1
cut-step true c x bytes p s more e =
    let same : ([], bytes) ≡ p = cc in
    subst (λ (q : Cut). IsCut c (x ∷ bytes) q.0 q.1) same (record { parts = ap (λ y. y ∷ bytes) (eqb-true x c s); lacks = tt })
cut-step false c x bytes p s more e =
    let m = mapped (λ (q : Cut). (x ∷ q.0, q.1)) (cut_at c bytes) p e in
    let r = more m.0 m.1 in
    subst (λ (q : Cut). IsCut c (x ∷ bytes) q.0 q.1) m.2 (record { parts = ap (λ ys. x ∷ ys) r.parts; lacks = (s, r.lacks) })

pub cut-found : (c : ℕ) (bytes : List ℕ) (p : Cut) → cut_at c bytes ≡ Some p → IsCut c bytes p.0 p.1
unfolding cut_at
cut-found c [] p e = absurd cc
cut-found c (x ∷ bytes) p e = cut-step (nat_eq x c) c x bytes p refl (cut-found c bytes) e

pub lacks-append : (c : ℕ) (xs ys : List ℕ) → Lacks c xs → Lacks c ys → Lacks c (xs ++ ys)
lacks-append c [] ys h k = k
lacks-append c (x ∷ xs) ys h k = (h.0, lacks-append c xs ys h.1 k)

-- ---- Numbers.

pub own : IsNumeralModel (λ ds. list_all is_ascii_digit ds ≡ true) (digits_value 10)
own = numerals_by_value _ (search rules)

plain-parts : (len first : ℕ) → (nat_eq len 1 || (nat_lt 1 len && not (nat_eq first 48))) ≡ true → (0 < len) × (first ≡ 48 → len ≡ 1)
plain-parts len first h = (grind (arith, nat_tests), grind (arith, nat_tests))

plain-true : (len first : ℕ) → 0 < len → (first ≡ 48 → len ≡ 1) → (nat_eq len 1 || (nat_lt 1 len && not (nat_eq first 48))) ≡ true
plain-true len first h k = grind (arith, nat_tests)

lt-from : (m n : ℕ) → nat_lt m n ≡ true → m < n
lt-from m n h = grind (arith, nat_tests)

lt-true : (m n : ℕ) → m < n → nat_lt m n ≡ true
lt-true m n h = grind (arith, nat_tests)

pub number-found : (bytes : List ℕ) (n : ℕ) → number_in bytes ≡ Some n → (bytes ≡ decimal n) × (n < 2 ^ 64)
unfolding number_in is_plain
number-found bytes n e =
    let g = guarded (is_plain bytes) (cond (nat_lt (digits_value 10 bytes) (2 ^ 64)) (Some (digits_value 10 bytes)) None) n e in
    let h = guarded (nat_lt (digits_value 10 bytes) (2 ^ 64)) (Some (digits_value 10 bytes)) n g.1 in
    let digits = both (list_all is_ascii_digit bytes) _ g.0 in
    let plain = plain-parts (length bytes) (get_or bytes 0 0) digits.1 in
    let small : digits_value 10 bytes < 2 ^ 64 = lt-from (digits_value 10 bytes) (2 ^ 64) h.0 in
    let value : digits_value 10 bytes ≡ n = cc in
    (sym (decimal-digits_value own bytes digits.0 plain.0 plain.1 small) ∙ ap decimal value, subst (λ k. k < 2 ^ 64) value small)

decimal-plain : (n : ℕ) → n < 2 ^ 64 → get_or (decimal n) 0 0 ≡ 48 → length (decimal n) ≡ 1
decimal-plain zero small e = ap length (decimal_digit 0 (omega arith))
decimal-plain (suc n) small e = absurd (omega (arith, first_decimal (suc n) (omega arith) small, e))

pub number-again : (n : ℕ) → n < 2 ^ 64 → number_in (decimal n) ≡ Some n
unfolding number_in is_plain
number-again n small =
    let k = decimal_is_IsNumeral n small in
    let digits : list_all is_ascii_digit (decimal n) ≡ true = digits_decimal own n small in
    let plain = plain-true (length (decimal n)) (get_or (decimal n) 0 0) k.0.0 (decimal-plain n small) in
    rw (digits, plain, k.1, lt-true n (2 ^ 64) small) refl

digit-other : (c d : ℕ) → c < 48 → is_ascii_digit d ≡ true → nat_eq d c ≡ false
digit-other c d h k = grind (arith, nat_tests)

digits-lack : (c : ℕ) (ds : List ℕ) → c < 48 → list_all is_ascii_digit ds ≡ true → Lacks c ds
digits-lack c [] h k = tt
digits-lack c (d ∷ ds) h k =
    let p = both (is_ascii_digit d) (list_all is_ascii_digit ds) k in
    (digit-other c d h p.0, digits-lack c ds h p.1)

pub decimal-lacks : (c n : ℕ) → c < 48 → n < 2 ^ 64 → Lacks c (decimal n)
decimal-lacks c n h small = digits-lack c (decimal n) h (digits_decimal own n small)

-- ---- Addresses.

pub address-again : (most : ℕ) (at : List ℕ) → IsAddress most at → address_in most (address_text at) ≡ Some at
unfolding address_in
address-again zero at h = absurd (omega (arith, h.some, h.short))
address-again (suc most) [] h = absurd (omega (arith, h.some))
address-again (suc most) (n ∷ []) h =
    rw (append-nil (decimal n), cut-whole 46 (decimal n) (decimal-lacks 46 n (omega arith) h.held.0), number-again n h.held.0) refl
address-again (suc most) (n ∷ m ∷ ns) h =
    let more = address-again most (m ∷ ns) (record { some = omega arith; short = omega (arith, h.short); held = h.held.1 }) in
    rw (cut-again 46 (decimal n) (address_text (m ∷ ns)) (decimal-lacks 46 n (omega arith) h.held.0), number-again n h.held.0, more) refl

pub record IsAddressText (most : ℕ) (bytes at : List ℕ) : Type 0 where
  pub text_is : bytes ≡ address_text at
  pub formed : IsAddress most at

address-more : (n : ℕ) (ns : List ℕ) → 0 < length ns → decimal n ++ 46 ∷ address_text ns ≡ address_text (n ∷ ns)
address-more n [] h = absurd (omega arith)
address-more n (m ∷ ns) h = refl

address-step : (most : ℕ) (bytes : List ℕ) (o : Option Cut) (at : List ℕ) → cut_at 46 bytes ≡ o → ((b ns : List ℕ) → address_in most b ≡ Some ns → IsAddressText most b ns)
    → either o (option_map (λ n. n ∷ []) (number_in bytes)) (λ p. number_in p.0 >>= λ n. option_map (λ ns. n ∷ ns) (address_in most p.1)) ≡ Some at → IsAddressText (suc most) bytes at
address-step most bytes None at s more e =
    let m = mapped (λ (n : ℕ). n ∷ []) (number_in bytes) at e in
    let f = number-found bytes m.0 m.1 in
    subst (IsAddressText (suc most) bytes) m.2 (record { text_is = f.0 ∙ sym (append-nil (decimal m.0)); formed = record { some = omega arith; short = omega arith; held = (f.1, tt) } })
address-step most bytes (Some p) at s more e =
    let b = bound (number_in p.0) (λ n. option_map (λ ns. n ∷ ns) (address_in most p.1)) at e in
    let m = mapped (λ (ns : List ℕ). b.0 ∷ ns) (address_in most p.1) at b.2 in
    let f = number-found p.0 b.0 b.1 in
    let r = more p.1 m.0 m.1 in
    let k = cut-found 46 bytes p s in
    subst (IsAddressText (suc most) bytes) m.2 (record {
      text_is = k.parts ∙ ap (λ front. front ++ 46 ∷ p.1) f.0 ∙ ap (λ back. decimal b.0 ++ 46 ∷ back) r.text_is ∙ address-more b.0 m.0 r.formed.some;
      formed = record { some = omega arith; short = omega (arith, r.formed.short); held = (f.1, r.formed.held) };
    })

pub address-found : (most : ℕ) (bytes at : List ℕ) → address_in most bytes ≡ Some at → IsAddressText most bytes at
unfolding address_in
address-found zero bytes at e = absurd cc
address-found (suc most) bytes at e = address-step most bytes (cut_at 46 bytes) at refl (address-found most) e

numbers-lack : (c : ℕ) (ns : List ℕ) → c < 46 → AllByRecursion IsHeld ns → Lacks c (flat_map (λ j. codes "." ++ decimal j) ns)
numbers-lack c [] h k = tt
numbers-lack c (n ∷ ns) h k = (grind (arith, nat_tests), lacks-append c (decimal n) (flat_map (λ j. codes "." ++ decimal j) ns) (decimal-lacks c n (omega arith) k.0) (numbers-lack c ns h k.1))

pub address-lacks : (c : ℕ) (at : List ℕ) → c < 45 → AllByRecursion IsHeld at → Lacks c (address_text at)
address-lacks c [] h k = (grind (arith, nat_tests), tt)
address-lacks c (n ∷ ns) h k = lacks-append c (decimal n) (flat_map (λ j. codes "." ++ decimal j) ns) (decimal-lacks c n (omega arith) k.0) (numbers-lack c ns (omega arith) k.1)

-- ---- The first place of a separator.

abbrev is_at : ℕ → ℕ → Bool
is_at c b = nat_eq b c

-- a cut is at this place, or there is none within the length
abbrev CutsAt : (bytes : List ℕ) (k : ℕ) → Option Cut → Type 0
CutsAt bytes k o = MatchOption o (k ≡ length bytes) (λ p. (k < length bytes) × (p.0 ≡ take k bytes) × (p.1 ≡ drop (k + 1) bytes))

cuts-on : (x k : ℕ) (bytes : List ℕ) (o : Option Cut) → CutsAt bytes k o → CutsAt (x ∷ bytes) (1 + k) (option_map (λ (q : Cut). (x ∷ q.0, q.1)) o)
cuts-on x k bytes None h = omega (arith, h)
cuts-on x k bytes (Some q) h =
    let a : 1 + k ≡ suc k = omega arith in
    let b : 1 + k + 1 ≡ suc (k + 1) = omega arith in
    (omega (arith, h.0), rw a (ap (λ ys. x ∷ ys) h.1), rw b h.2)

cuts-more : (b : Bool) (c x : ℕ) (bytes : List ℕ) → CutsAt bytes (position_or_len (is_at c) bytes) (cut_at c bytes)
    → CutsAt (x ∷ bytes) (cond (not b) (1 + position_or_len (is_at c) bytes) 0) (cond b (Some ([], bytes)) (option_map (λ (q : Cut). (x ∷ q.0, q.1)) (cut_at c bytes)))
cuts-more true c x bytes h = (omega arith, refl, refl)
cuts-more false c x bytes h = cuts-on x (position_or_len (is_at c) bytes) bytes (cut_at c bytes) h

cuts : (c : ℕ) (bytes : List ℕ) → CutsAt bytes (position_or_len (is_at c) bytes) (cut_at c bytes)
unfolding cut_at
cuts c [] = refl
cuts c (x ∷ bytes) = cuts-more (nat_eq x c) c x bytes (cuts c bytes)

at-none : (bytes : List ℕ) (k : ℕ) (o : Option Cut) → CutsAt bytes k o → cond (nat_lt k (length bytes)) (Some k) None ≡ None → None ≡ o
at-none bytes k None h e = refl
at-none bytes k (Some p) h e = let f = rw (lt-true k (length bytes) h.0) at e in absurd cc

at-some : (bytes : List ℕ) (k : ℕ) (o : Option Cut) (i : ℕ) → CutsAt bytes k o → cond (nat_lt k (length bytes)) (Some k) None ≡ Some i → Some (take i bytes, drop (i + 1) bytes) ≡ o
at-some bytes k None i h e =
    let g = guarded (nat_lt k (length bytes)) (Some k) i e in
    absurd (omega (arith, lt-from k (length bytes) g.0, h))
at-some bytes k (Some p) i h e =
    let g = guarded (nat_lt k (length bytes)) (Some k) i e in
    let same : k ≡ i = cc in
    ap (λ j. Some (take j bytes, drop (j + 1) bytes)) (sym same) ∙ ap (λ xs. Some (xs, drop (k + 1) bytes)) (sym h.1) ∙ ap (λ ys. Some (p.0, ys)) (sym h.2)

pub cut-none : (c : ℕ) (bytes : List ℕ) → position (λ b. nat_eq b c) bytes ≡ None → None ≡ cut_at c bytes
cut-none c bytes e = at-none bytes (position_or_len (is_at c) bytes) (cut_at c bytes) (cuts c bytes) e

pub cut-some : (c : ℕ) (bytes : List ℕ) (i : ℕ) → position (λ b. nat_eq b c) bytes ≡ Some i → Some (take i bytes, take (length bytes - (i + 1)) (drop (i + 1) bytes)) ≡ cut_at c bytes
cut-some c bytes i e =
    let whole : take (length bytes - (i + 1)) (drop (i + 1) bytes) ≡ drop (i + 1) bytes = grind (arith, common_steps) in
    ap (λ ys. Some (take i bytes, ys)) whole ∙ at-some bytes (position_or_len (is_at c) bytes) (cut_at c bytes) i (cuts c bytes) e

-- ---- Numbers by `parse`.

pub plain-digits : (bytes : List ℕ) → is_plain bytes ≡ true → list_all is_ascii_digit bytes ≡ true
unfolding is_plain
plain-digits bytes h = (both (list_all is_ascii_digit bytes) _ h).0

pub plain-utf8 : (bytes : List ℕ) → is_plain bytes ≡ true → IsUtf8 bytes
plain-utf8 bytes h = IsUtf8-from_ascii bytes (IsAscii-from_digits bytes (own.to bytes (plain-digits bytes h)))

pub number-refused : (bytes : List ℕ) → is_plain bytes ≡ false → None ≡ number_in bytes
unfolding number_in
number-refused bytes h = rw h refl

plain-number : (bytes : List ℕ) → is_plain bytes ≡ true → (if nat_lt (digits_value 10 bytes) (2 ^ 64) then Some (digits_value 10 bytes) else None) ≡ number_in bytes
unfolding number_in
plain-number bytes h = rw h refl

parsed-is : {E : Type 0} (v : ℕ) (r : Result ℕ E) → OkIff r (v < 2 ^ 64) v → result_ok r ≡ (if nat_lt v (2 ^ 64) then Some v else None)
parsed-is v (Ok n) h = rw (lt-true v (2 ^ 64) h.0) (ap Some h.1)
parsed-is v (Err e) h = elim (nat_lt v (2 ^ 64)) as (λ b. nat_lt v (2 ^ 64) ≡ b → None ≡ cond b (Some v) None) [ true ↦ λ k. absurd (h (lt-from v (2 ^ 64) k)) | false ↦ λ k. refl ] refl

small-only : {E : Type 0} (bytes : List ℕ) (r : Result ℕ E) → 0 < length bytes → OkIff r ((0 < length bytes) × (digits_value 10 bytes < 2 ^ 64)) (digits_value 10 bytes) → OkIff r (digits_value 10 bytes < 2 ^ 64) (digits_value 10 bytes)
small-only bytes (Ok n) some h = (h.0.1, h.1)
small-only bytes (Err e) some h = λ small. h (some, small)

plain-some : (bytes : List ℕ) → is_plain bytes ≡ true → 0 < length bytes
unfolding is_plain
plain-some bytes h = (plain-parts (length bytes) (get_or bytes 0 0) (both (list_all is_ascii_digit bytes) _ h).1).0

pub number-parsed : {E : Type 0} (bytes : List ℕ) (r : Result ℕ E) → is_plain bytes ≡ true → ParsesUnsigned 64 10 bytes r → result_ok r ≡ number_in bytes
number-parsed bytes r h p =
    let q = parse_digits own 64 bytes r p (plain-digits bytes h) in
    parsed-is (digits_value 10 bytes) r (small-only bytes r (plain-some bytes h) q) ∙ plain-number bytes h

-- ---- Addresses, number by number.

-- the answer for what is left, behind these
abbrev pub ahead : {A : Type 0} → List A → Option (List A) → Option (List A)
ahead done left = option_map (λ ys. done ++ ys) left

ahead-more : {A : Type 0} (done : List A) (y : A) (left : Option (List A)) → ahead (done ++ y ∷ []) left ≡ ahead done (option_map (λ ys. y ∷ ys) left)
ahead-more done y None = refl
ahead-more done y (Some ys) = ap Some (append_assoc done (y ∷ []) ys)

pub address-on : (done rest : List ℕ) (p : Cut) (n : ℕ) (all : Option (List ℕ)) → cut_at 46 rest ≡ Some p → number_in p.0 ≡ Some n → length done < 17
    → ahead done (address_in (17 - length done) rest) ≡ all → ahead (done ++ n ∷ []) (address_in (17 - length (done ++ n ∷ [])) p.1) ≡ all
unfolding address_in
address-on done rest p n all cut number room told =
    let left : 17 - length done ≡ suc (17 - length (done ++ n ∷ [])) = omega (arith, length-append done (n ∷ [])) in
    let now = rw (left, cut, number) at told in
    ahead-more done n (address_in (17 - length (done ++ n ∷ [])) p.1) ∙ now

no-number : (most : ℕ) (rest : List ℕ) (p : Cut) → cut_at 46 rest ≡ Some p → number_in p.0 ≡ None → address_in most rest ≡ None
unfolding address_in
no-number zero rest p cut number = refl
no-number (suc most) rest p cut number = rw (cut, number) refl

no-last : (most : ℕ) (rest : List ℕ) → cut_at 46 rest ≡ None → number_in rest ≡ None → address_in most rest ≡ None
unfolding address_in
no-last zero rest cut number = refl
no-last (suc most) rest cut number = rw (cut, number) refl

pub address-stop : (done rest : List ℕ) (p : Cut) (all : Option (List ℕ)) → cut_at 46 rest ≡ Some p → number_in p.0 ≡ None → ahead done (address_in (17 - length done) rest) ≡ all → None ≡ all
address-stop done rest p all cut number told = sym (ap (ahead done) (no-number (17 - length done) rest p cut number)) ∙ told

pub address-stop_last : (done rest : List ℕ) (all : Option (List ℕ)) → cut_at 46 rest ≡ None → number_in rest ≡ None → ahead done (address_in (17 - length done) rest) ≡ all → None ≡ all
address-stop_last done rest all cut number told = sym (ap (ahead done) (no-last (17 - length done) rest cut number)) ∙ told

pub address-full : (done rest : List ℕ) (all : Option (List ℕ)) → length done ≡ 17 → ahead done (address_in (17 - length done) rest) ≡ all → None ≡ all
unfolding address_in
address-full done rest all full told =
    let left : 17 - length done ≡ 0 = omega (arith, full) in
    rw left at told

pub address-last : (done rest : List ℕ) (n : ℕ) (all : Option (List ℕ)) → cut_at 46 rest ≡ None → number_in rest ≡ Some n → length done < 17 → ahead done (address_in (17 - length done) rest) ≡ all → Some (done ++ n ∷ []) ≡ all
unfolding address_in
address-last done rest n all cut number room told =
    let left : 17 - length done ≡ suc (16 - length done) = omega arith in
    rw (left, cut, number) at told

pub cut-shorter : (c : ℕ) (bytes : List ℕ) (p : Cut) → cut_at c bytes ≡ Some p → length p.1 < length bytes
cut-shorter c bytes p e =
    let k = cut-found c bytes p e in
    omega (arith, ap length k.parts, length-append p.0 (c ∷ p.1))
