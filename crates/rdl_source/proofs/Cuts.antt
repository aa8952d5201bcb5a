-- A gap that is cut between blanks and comments has parts that are gaps.
use Rattle.std.proofs.Common.{◌≡◌, ℕ, zero, suc, ◌+◌, ◌-◌, ◌<◌, ◌≤◌, Bool, true, false, cond, ◌&&◌, List, [], ◌∷◌, length, take, drop, Option, Some, None, Ok, inl, inr, ◌⊎◌, refl, ap, sym, ◌∙◌, subst, arith}
use Rattle.std.specs.Prelude.{nat_eq}
use Rattle.std.specs.Option.{option_map, option_map_or}
use Rattle.std.proofs.lemmas.Bool.{false≢true, eqb-true, and_parts}
use Rattle.rdl_text.specs.Rows.{byte}
use Rattle.rdl_text.specs.Words.{words_from, is_blank, comment_end}
use Rattle.rdl_source.specs.declared.gap.Scan.{Scan}
use Rattle.rdl_source.specs.Gap.{line_len, comment_len, line_ended, comment_ended, scan_from}
use Rattle.rdl_source.proofs.NoWord.{comment_piece, word_gap, past_blank, line_feed, scanned}
use Rattle.rdl_source.proofs.One.{none≢some}

-- ---- How many bytes of a comment are left behind the first ones, so many.

abbrev pub first_step : ℕ → List ℕ → ℕ
first_step c cs = cond (nat_eq c 10) 0 (cond (is_blank c) 0 (comment_len (c ∷ cs) - 1))

abbrev pub pending : (skip : ℕ) → List ℕ → ℕ → ℕ
pending skip s zero = skip
pending skip [] (suc k) = 0
pending (suc skip) (c ∷ cs) (suc k) = pending skip cs k
pending zero (c ∷ cs) (suc k) = pending (first_step c cs) cs k

pub pending-more : (skip : ℕ) (s : List ℕ) (j k : ℕ) → pending skip s (j + k) ≡ pending (pending skip s j) (drop j s) k
pending-more skip s zero k = let e : zero + k ≡ k = omega arith in ap (pending skip s) e
pending-more skip [] (suc j) k = let e : suc j + k ≡ suc (j + k) = omega arith in ap (pending skip []) e ∙ none k
  where
    none : (k : ℕ) → 0 ≡ pending 0 [] k
    none zero = refl
    none (suc k) = refl
pending-more (suc skip) (c ∷ cs) (suc j) k = let e : suc j + k ≡ suc (j + k) = omega arith in ap (pending (suc skip) (c ∷ cs)) e ∙ pending-more skip cs j k
pending-more zero (c ∷ cs) (suc j) k = let e : suc j + k ≡ suc (j + k) = omega arith in ap (pending zero (c ∷ cs)) e ∙ pending-more (first_step c cs) cs j k

pub pending-skip : (k : ℕ) (s : List ℕ) → pending k s k ≡ 0
pending-skip zero s = refl
pending-skip (suc k) [] = refl
pending-skip (suc k) (c ∷ cs) = pending-skip k cs

pending_low : (skip : ℕ) (s : List ℕ) (k : ℕ) → skip ≤ length s → pending skip s k ≡ 0 → skip ≤ k
pending_low skip s zero h e = omega (arith, e)
pending_low skip [] (suc k) h e = omega (arith, h)
pending_low (suc skip) (c ∷ cs) (suc k) h e = omega (arith, pending_low skip cs k (omega (arith, h)) e)
pending_low zero (c ∷ cs) (suc k) h e = omega arith

-- ---- A comment in a text that is cut behind it.

line_cut : (k : ℕ) (s : List ℕ) → line_len s ≤ k → line_len (take k s) ≡ line_len s
line_cut zero [] h = refl
line_cut zero (c ∷ cs) h = omega (arith, h)
line_cut (suc k) [] h = refl
line_cut (suc k) (c ∷ cs) h = by (nat_eq c 10) refl (λ l. line_cut k cs l)
  where
    by : (b : Bool) → nat_eq c 10 ≡ b → (line_len cs ≤ k → line_len (take k cs) ≡ line_len cs) → cond b 0 (line_len (take k cs) + 1) ≡ cond b 0 (line_len cs + 1)
    by true e f = refl
    by false e f =
        let long : line_len cs + 1 ≤ suc k = subst (λ q. cond q 0 (line_len cs + 1) ≤ suc k) e h in
        ap (λ n. n + 1) (f (omega (arith, long)))

abbrev end_by : Bool → Option ℕ → Option ℕ
end_by b o = cond b (Some 0) (option_map (λ n. n + 1) o)

byte_cut : (k : ℕ) (s : List ℕ) → 1 ≤ k → byte (take k s) 0 ≡ byte s 0
byte_cut zero s h = absurd (omega (arith, h))
byte_cut (suc k) [] h = refl
byte_cut (suc k) (c ∷ cs) h = refl

end_cut : (k n : ℕ) (s : List ℕ) → comment_end s ≡ Some n → n + 2 ≤ k → comment_end (take k s) ≡ Some n
end_cut zero n s e h = absurd (omega (arith, h))
end_cut (suc k) n [] e h = cc
end_cut (suc k) n (c ∷ cs) e h = ap (λ x. end_by (nat_eq c 42 && nat_eq x 47) (comment_end (take k cs))) (byte_cut k cs (omega (arith, h))) ∙ by (nat_eq c 42 && nat_eq (byte cs 0) 47) (comment_end cs) refl e (λ m f l. end_cut k m cs f l)
  where
    by : (b : Bool) (o : Option ℕ) → comment_end cs ≡ o → end_by b o ≡ Some n → ((m : ℕ) → comment_end cs ≡ Some m → m + 2 ≤ k → comment_end (take k cs) ≡ Some m) → end_by b (comment_end (take k cs)) ≡ Some n
    by true o f g r = g
    by false None f g r = absurd (none≢some n g)
    by false (Some m) f g r =
        let same : m + 1 ≡ n = cc in ap (option_map (λ i. i + 1)) (r m f (omega (arith, h, same))) ∙ g

-- the comment with which the text begins ends before a byte
abbrev Len : (x y : Bool) → ℕ → Option ℕ → ℕ
Len x y line end = cond x (2 + line) (cond y (option_map_or (λ n. n + 4) end 0) 0)

len_is : (c d : ℕ) (ds : List ℕ) → comment_len (c ∷ d ∷ ds) ≡ Len (nat_eq c 47 && nat_eq d 47) (nat_eq c 47 && nat_eq d 42) (line_len ds) (comment_end ds)
unfolding comment_len
len_is c d ds = refl

no_comment : (c : ℕ) → comment_len (c ∷ []) ≡ 0
unfolding comment_len
no_comment c = by (nat_eq c 47)
  where
    by : (b : Bool) → cond (b && nat_eq 0 47) (2 + line_len []) (cond (b && nat_eq 0 42) (option_map_or (λ n. n + 4) (comment_end []) 0) 0) ≡ 0
    by true = refl
    by false = refl

len_cut : (x y : Bool) (ds : List ℕ) (k : ℕ) → Len x y (line_len ds) (comment_end ds) ≤ k + 2 → 0 < Len x y (line_len ds) (comment_end ds)
    → Len x y (line_len (take k ds)) (comment_end (take k ds)) ≡ Len x y (line_len ds) (comment_end ds)
len_cut true y ds k h s = ap (λ n. 2 + n) (line_cut k ds (omega (arith, h)))
len_cut false true ds k h s = by (comment_end ds) refl h s
  where
    by : (o : Option ℕ) → comment_end ds ≡ o → option_map_or (λ n. n + 4) o 0 ≤ k + 2 → 0 < option_map_or (λ n. n + 4) o 0 → option_map_or (λ n. n + 4) (comment_end (take k ds)) 0 ≡ option_map_or (λ n. n + 4) (comment_end ds) 0
    by None e h s = absurd (omega (arith, s))
    by (Some n) e h s = ap (λ o. option_map_or (λ n. n + 4) o 0) (end_cut k n ds e (omega (arith, h)) ∙ sym e)
len_cut false false ds k h s = absurd (omega (arith, s))

pub comment_cut : (c : ℕ) (cs : List ℕ) (k : ℕ) → 0 < comment_len (c ∷ cs) → comment_len (c ∷ cs) ≤ suc k → comment_len (c ∷ take k cs) ≡ comment_len (c ∷ cs)
comment_cut c [] k s h = absurd (omega (arith, s, no_comment c))
comment_cut c (d ∷ ds) zero s h = absurd (two (nat_eq c 47 && nat_eq d 47) (nat_eq c 47 && nat_eq d 42) (line_len ds) (comment_end ds) (subst (λ n. 0 < n) (len_is c d ds) s) (subst (λ n. n ≤ 1) (len_is c d ds) h))
  where
    two : (x y : Bool) (line : ℕ) (end : Option ℕ) → 0 < Len x y line end → Len x y line end ≤ 1 → ⊥
    two true y line end s h = omega (arith, h)
    two false true line None s h = omega (arith, s)
    two false true line (Some n) s h = omega (arith, h)
    two false false line end s h = omega (arith, s)
comment_cut c (d ∷ ds) (suc k) s h =
    let x = nat_eq c 47 && nat_eq d 47 in
    let y = nat_eq c 47 && nat_eq d 42 in
    let low : Len x y (line_len ds) (comment_end ds) ≤ k + 2 = subst (λ n. n ≤ k + 2) (len_is c d ds) (omega (arith, h)) in
    len_is c d (take k ds) ∙ (len_cut x y ds k low (subst (λ n. 0 < n) (len_is c d ds) s) ∙ sym (len_is c d ds))

-- a comment ends within the text
line_within : (s : List ℕ) → line_len s ≤ length s
line_within [] = omega arith
line_within (c ∷ cs) = by (nat_eq c 10) (line_within cs)
  where
    by : (b : Bool) → line_len cs ≤ length cs → cond b 0 (line_len cs + 1) ≤ suc (length cs)
    by true h = omega arith
    by false h = omega (arith, h)

end_within : (s : List ℕ) (n : ℕ) → comment_end s ≡ Some n → (n + 2 ≤ length s) × (byte s (n + 1) ≡ 47)
end_within [] n e = cc
end_within (c ∷ cs) n e = by (nat_eq c 42 && nat_eq (byte cs 0) 47) refl (comment_end cs) refl e (λ m f. end_within cs m f)
  where
    some : (t : List ℕ) → byte t 0 ≡ 47 → 1 ≤ length t
    some [] f = absurd (omega (arith, f))
    some (d ∷ t) f = omega arith

    by : (b : Bool) → (nat_eq c 42 && nat_eq (byte cs 0) 47) ≡ b → (o : Option ℕ) → comment_end cs ≡ o → end_by b o ≡ Some n → ((m : ℕ) → comment_end cs ≡ Some m → (m + 2 ≤ length cs) × (byte cs (m + 1) ≡ 47))
        → (n + 2 ≤ suc (length cs)) × (byte (c ∷ cs) (n + 1) ≡ 47)
    by true g o f k r =
        let none : 0 ≡ n = cc in
        let slash : byte cs 0 ≡ 47 = eqb-true (byte cs 0) 47 (and_parts (nat_eq c 42) (nat_eq (byte cs 0) 47) g).1 in
        (omega (arith, none, some cs slash), subst (λ m. byte (c ∷ cs) (m + 1) ≡ 47) none slash)
    by false g None f k r = absurd (none≢some n k)
    by false g (Some m) f k r =
        let more : m + 1 ≡ n = cc in
        let place : n + 1 ≡ suc (m + 1) = omega (arith, more) in
        let rest = r m f in
        (omega (arith, more, rest.0), ap (byte (c ∷ cs)) place ∙ rest.1)

-- behind the bytes of a line stands a line feed, or nothing
line_end : (s : List ℕ) → (line_len s ≡ length s) ⊎ ((line_len s < length s) × (byte s (line_len s) ≡ 10))
line_end [] = inl refl
line_end (c ∷ cs) = by (nat_eq c 10) refl (line_end cs)
  where
    by : (b : Bool) → nat_eq c 10 ≡ b → (line_len cs ≡ length cs) ⊎ ((line_len cs < length cs) × (byte cs (line_len cs) ≡ 10))
        → (cond b 0 (line_len cs + 1) ≡ suc (length cs)) ⊎ ((cond b 0 (line_len cs + 1) < suc (length cs)) × (byte (c ∷ cs) (cond b 0 (line_len cs + 1)) ≡ 10))
    by true e h = inr (omega arith, eqb-true c 10 e)
    by false e (inl h) = inl (omega (arith, h))
    by false e (inr h) =
        let next : line_len cs + 1 ≡ suc (line_len cs) = omega arith in
        inr (omega (arith, h.0), subst (λ k. byte (c ∷ cs) k ≡ 10) (sym next) h.1)

-- what stands at the end of a comment: nothing, a line feed behind it, or the slash that ends it
abbrev pub Behind : List ℕ → ℕ → Type 0
Behind s n = (n ≡ length s) ⊎ (((n < length s) × (byte s n ≡ 10)) ⊎ ((i : ℕ) × (n ≡ i + 1) × (i < length s) × (byte s i ≡ 47)))

by_len : (c d : ℕ) (ds : List ℕ) (x y : Bool) (n : ℕ) → Len x y (line_len ds) (comment_end ds) ≡ n → 0 < n → Behind (c ∷ d ∷ ds) n × (n ≤ length (c ∷ d ∷ ds))
by_len c d ds true y n e s = at (line_end ds)
  where
    at : (line_len ds ≡ length ds) ⊎ ((line_len ds < length ds) × (byte ds (line_len ds) ≡ 10)) → Behind (c ∷ d ∷ ds) n × (n ≤ length (c ∷ d ∷ ds))
    at (inl h) = (inl (omega (arith, e, h)), omega (arith, e, h))
    at (inr h) =
        let place : suc (suc (line_len ds)) ≡ n = omega (arith, e) in
        (inr (inl (omega (arith, e, h.0), subst (λ k. byte (c ∷ d ∷ ds) k ≡ 10) place h.1)), omega (arith, e, h.0))
by_len c d ds false true n e s = at (comment_end ds) refl e
  where
    at : (o : Option ℕ) → comment_end ds ≡ o → option_map_or (λ n. n + 4) o 0 ≡ n → Behind (c ∷ d ∷ ds) n × (n ≤ length (c ∷ d ∷ ds))
    at None f g = absurd (omega (arith, g, s))
    at (Some m) f g =
        let h = end_within ds m f in
        let next : m + 1 ≡ suc m = omega arith in
        let slash : byte ds (suc m) ≡ 47 = subst (λ k. byte ds k ≡ 47) next h.1 in
        (inr (inr (suc (suc (suc m)), omega (arith, g), omega (arith, h.0), slash)), omega (arith, g, h.0))
by_len c d ds false false n e s = absurd (omega (arith, e, s))

pub comment_ends : (c : ℕ) (cs : List ℕ) → 0 < comment_len (c ∷ cs) → Behind (c ∷ cs) (comment_len (c ∷ cs)) × (comment_len (c ∷ cs) ≤ length (c ∷ cs))
comment_ends c [] s = absurd (omega (arith, s, no_comment c))
comment_ends c (d ∷ ds) s = by_len c d ds (nat_eq c 47 && nat_eq d 47) (nat_eq c 47 && nat_eq d 42) (comment_len (c ∷ d ∷ ds)) (sym (len_is c d ds)) s

-- ---- The three things with which a gap goes on.

pub record IsFeed (c : ℕ) (cs : List ℕ) (at : ℕ) (m e : Scan) : Type 0 where
  pub is : nat_eq c 10 ≡ true
  pub next : scan_from 0 (at + 1) (line_ended (at + 1) m.line m) cs ≡ Some e

pub record IsBlank (c : ℕ) (cs : List ℕ) (at : ℕ) (m e : Scan) : Type 0 where
  pub not_feed : nat_eq c 10 ≡ false
  pub is : is_blank c ≡ true
  pub next : scan_from 0 (at + 1) m cs ≡ Some e

pub record IsComment (c : ℕ) (cs : List ℕ) (at : ℕ) (m e : Scan) : Type 0 where
  pub not_feed : nat_eq c 10 ≡ false
  pub not_blank : is_blank c ≡ false
  pub some : nat_eq (comment_len (c ∷ cs)) 0 ≡ false
  pub next : scan_from (comment_len (c ∷ cs) - 1) (at + 1) (comment_ended (at + comment_len (c ∷ cs)) m) cs ≡ Some e

pub goes_on : (at c : ℕ) (cs : List ℕ) (m e : Scan) → scan_from 0 at m (c ∷ cs) ≡ Some e → IsFeed c cs at m e ⊎ (IsBlank c cs at m e ⊎ IsComment c cs at m e)
unfolding scan_from
goes_on at c cs m e h = by (nat_eq c 10) (is_blank c) (nat_eq (comment_len (c ∷ cs)) 0) refl refl refl h
  where
    by : (a b z : Bool) → nat_eq c 10 ≡ a → is_blank c ≡ b → nat_eq (comment_len (c ∷ cs)) 0 ≡ z
        → cond a (scan_from 0 (at + 1) (line_ended (at + 1) m.line m) cs) (cond b (scan_from 0 (at + 1) m cs) (cond z None (scan_from (comment_len (c ∷ cs) - 1) (at + 1) (comment_ended (at + comment_len (c ∷ cs)) m) cs))) ≡ Some e
        → IsFeed c cs at m e ⊎ (IsBlank c cs at m e ⊎ IsComment c cs at m e)
    by true b z ea eb ez k = inl (record { is = ea; next = k })
    by false true z ea eb ez k = inr (inl (record { not_feed = ea; is = eb; next = k }))
    by false false true ea eb ez k = absurd (none≢some e k)
    by false false false ea eb ez k = inr (inr (record { not_feed = ea; not_blank = eb; some = ez; next = k }))

pub step-feed : (c : ℕ) (cs : List ℕ) → nat_eq c 10 ≡ true → first_step c cs ≡ 0
step-feed c cs e = ap (λ b. cond b 0 (cond (is_blank c) 0 (comment_len (c ∷ cs) - 1))) e

pub step-blank : (c : ℕ) (cs : List ℕ) → nat_eq c 10 ≡ false → is_blank c ≡ true → first_step c cs ≡ 0
step-blank c cs e f = ap (λ b. cond b 0 (cond (is_blank c) 0 (comment_len (c ∷ cs) - 1))) e ∙ ap (λ b. cond b 0 (comment_len (c ∷ cs) - 1)) f

pub step-comment : (c : ℕ) (cs : List ℕ) → nat_eq c 10 ≡ false → is_blank c ≡ false → first_step c cs ≡ comment_len (c ∷ cs) - 1
step-comment c cs e f = ap (λ b. cond b 0 (cond (is_blank c) 0 (comment_len (c ∷ cs) - 1))) e ∙ ap (λ b. cond b 0 (comment_len (c ∷ cs) - 1)) f

pub some_len : (n : ℕ) → nat_eq n 0 ≡ false → 0 < n
some_len zero e = absurd (false≢true (sym e))
some_len (suc n) e = omega arith

-- ---- The first bytes of a gap, and those behind them.

skipped : (at skip : ℕ) (cs : List ℕ) (c : ℕ) → words_from (suc skip) at (c ∷ cs) ≡ words_from skip (at + 1) cs
unfolding words_from
skipped at skip cs c = refl

none_from : (skip at : ℕ) → words_from skip at [] ≡ Ok []
unfolding words_from
none_from skip at = refl

skipped_scan : (at skip : ℕ) (m : Scan) (cs : List ℕ) (c : ℕ) → scan_from (suc skip) at m (c ∷ cs) ≡ scan_from skip (at + 1) m cs
unfolding scan_from
skipped_scan at skip m cs c = refl

pub front_silent : (k skip at at' : ℕ) (m e : Scan) (s : List ℕ) → scan_from skip at m s ≡ Some e → skip ≤ length s → pending skip s k ≡ 0 → words_from skip at' (take k s) ≡ Ok []
front_silent zero skip at at' m e s h l p = none_from skip at'
front_silent (suc k) skip at at' m e [] h l p = none_from skip at'
front_silent (suc k) (suc skip) at at' m e (c ∷ cs) h l p =
    skipped at' skip (take k cs) c ∙ front_silent k skip (at + 1) (at' + 1) m e cs (sym (skipped_scan at skip m cs c) ∙ h) (omega (arith, l)) p
front_silent (suc k) zero at at' m e (c ∷ cs) h l p = by (goes_on at c cs m e h) (λ skip n h l p. front_silent k skip (at + 1) (at' + 1) n e cs h l p)
  where
    Rest : Type 0
    Rest = (skip : ℕ) (n : Scan) → scan_from skip (at + 1) n cs ≡ Some e → skip ≤ length cs → pending skip cs k ≡ 0 → words_from skip (at' + 1) (take k cs) ≡ Ok []

    by : IsFeed c cs at m e ⊎ (IsBlank c cs at m e ⊎ IsComment c cs at m e) → Rest → words_from 0 at' (c ∷ take k cs) ≡ Ok []
    by (inl g) rest =
        past_blank at' c (take k cs) (line_feed c g.is)
        ∙ rest 0 (line_ended (at + 1) m.line m) g.next (omega arith) (sym (ap (λ j. pending j cs k) (step-feed c cs g.is)) ∙ p)
    by (inr (inl g)) rest =
        past_blank at' c (take k cs) g.is
        ∙ rest 0 m g.next (omega arith) (sym (ap (λ j. pending j cs k) (step-blank c cs g.not_feed g.is)) ∙ p)
    by (inr (inr g)) going =
        let n = comment_len (c ∷ cs) in
        let more : 0 < n = some_len n g.some in
        let inside : n ≤ length (c ∷ cs) = (comment_ends c cs more).1 in
        let rest : pending (n - 1) cs k ≡ 0 = sym (ap (λ j. pending j cs k) (step-comment c cs g.not_feed g.not_blank)) ∙ p in
        let low : n - 1 ≤ k = pending_low (n - 1) cs k (omega (arith, inside)) rest in
        let same : comment_len (c ∷ take k cs) ≡ n = comment_cut c cs k more (omega (arith, low, more)) in
        word_gap at' n c (take k cs) (comment_piece (c ∷ take k cs) n g.not_blank same g.some)
        ∙ going (n - 1) (comment_ended (at + n) m) g.next (omega (arith, inside)) rest

nothing : (at : ℕ) (e : Scan) → scan_from 0 at e [] ≡ Some e
unfolding scan_from
nothing at e = refl

pub back_scanned : (k skip at : ℕ) (m e : Scan) (s : List ℕ) → scan_from skip at m s ≡ Some e → pending skip s k ≡ 0 → (m' : Scan) × (scan_from 0 (at + k) m' (drop k s) ≡ Some e)
back_scanned zero skip at m e s h p =
    let none : at ≡ at + 0 = omega arith in (m, ap (λ j. scan_from 0 j m s) (sym none) ∙ (ap (λ j. scan_from j at m s) (sym p) ∙ h))
back_scanned (suc k) skip at m e [] h p = (e, nothing (at + suc k) e)
back_scanned (suc k) (suc skip) at m e (c ∷ cs) h p =
    let place : at + 1 + k ≡ at + suc k = omega arith in
    let r = back_scanned k skip (at + 1) m e cs (sym (skipped_scan at skip m cs c) ∙ h) p in (r.0, ap (λ j. scan_from 0 j r.0 (drop k cs)) (sym place) ∙ r.1)
back_scanned (suc k) zero at m e (c ∷ cs) h p = by (goes_on at c cs m e h) (λ skip n h p. back_scanned k skip (at + 1) n e cs h p)
  where
    Rest : Type 0
    Rest = (skip : ℕ) (n : Scan) → scan_from skip (at + 1) n cs ≡ Some e → pending skip cs k ≡ 0 → (m' : Scan) × (scan_from 0 (at + 1 + k) m' (drop k cs) ≡ Some e)

    placed : (m' : Scan) × (scan_from 0 (at + 1 + k) m' (drop k cs) ≡ Some e) → (m' : Scan) × (scan_from 0 (at + suc k) m' (drop k cs) ≡ Some e)
    placed r = let place : at + 1 + k ≡ at + suc k = omega arith in (r.0, ap (λ j. scan_from 0 j r.0 (drop k cs)) (sym place) ∙ r.1)

    by : IsFeed c cs at m e ⊎ (IsBlank c cs at m e ⊎ IsComment c cs at m e) → Rest → (m' : Scan) × (scan_from 0 (at + suc k) m' (drop k cs) ≡ Some e)
    by (inl g) rest = placed (rest 0 (line_ended (at + 1) m.line m) g.next (sym (ap (λ j. pending j cs k) (step-feed c cs g.is)) ∙ p))
    by (inr (inl g)) rest = placed (rest 0 m g.next (sym (ap (λ j. pending j cs k) (step-blank c cs g.not_feed g.is)) ∙ p))
    by (inr (inr g)) rest =
        placed (rest (comment_len (c ∷ cs) - 1) (comment_ended (at + comment_len (c ∷ cs)) m) g.next (sym (ap (λ j. pending j cs k) (step-comment c cs g.not_feed g.not_blank)) ∙ p))

-- a part of a gap that is cut so holds no word
pub part_silent : (t f : ℕ) (m e : Scan) (s : List ℕ) → scan_from 0 0 m s ≡ Some e → pending 0 s t ≡ 0 → pending 0 s (t + f) ≡ 0 → words_from 0 0 (take f (drop t s)) ≡ Ok []
part_silent t f m e s h p q =
    let r = back_scanned t 0 0 m e s h p in
    front_silent f 0 (0 + t) 0 r.0 e (drop t s) r.1 (omega arith) (sym (pending-more 0 s t f ∙ ap (λ j. pending j (drop t s) f) p) ∙ q)

-- and so does its end
pub end_silent : (t : ℕ) (m e : Scan) (s : List ℕ) → scan_from 0 0 m s ≡ Some e → pending 0 s t ≡ 0 → words_from 0 0 (drop t s) ≡ Ok []
end_silent t m e s h p =
    let r = back_scanned t 0 0 m e s h p in scanned 0 (0 + t) 0 r.0 e (drop t s) r.1
