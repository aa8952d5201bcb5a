-- Texts that begin with a character, and the parts of a text.
use Rattle.std.proofs.Common.{◌≡◌, ℕ, ◌+◌, ◌<◌, ◌≤◌, Bool, true, false, not, cond, nat_eq, List, [], ◌∷◌, ◌++◌, length, Option, None, Some, refl, ap, sym, ◌∙◌, eq-eqb, append_assoc, arith}
use Rattle.std.proofs.lemmas.Bool.{eqb-true}
use Rattle.std.proofs.lemmas.List.Splits.{slice_split_first}
use Rattle.std.proofs.lemmas.List.Sums.{passes_at_first}
use Rattle.std.proofs.lemmas.Str.{IsCharBoundary-after_ascii, IsUtf8-drop}
use Rattle.std.specs.Prelude.{option_map, ◌≢◌, if◌then◌else◌, IsUtf8}
use Rattle.std.specs.List.{slice_split, onto_first, prefix_len, position_or_len, before_first, after_first}
use Rattle.std.specs.Option.{MatchOption, option_copied}
use denote.Ref.{Bor}
use Rattle.rdl_script.specs.Operands.{◌>>=◌, behind, all_of, parts}

-- ---- A character at the front.

begins : (b : Bool) (x c : ℕ) (xs : List ℕ) → (b ≡ true → x ≡ c) → ((rest : List ℕ) → x ∷ xs ≢ c ∷ rest) → None ≡ (if b then Some xs else None)
begins true x c xs e h = absurd (h xs (ap (λ y. y ∷ xs) (e refl)))
begins false x c xs e h = refl

not_behind : (c : ℕ) (bs : List ℕ) → ((rest : List ℕ) → bs ≢ c ∷ rest) → None ≡ behind c bs
not_behind c [] h = refl
not_behind c (x ∷ xs) h = begins (nat_eq x c) x c xs (eqb-true x c) h

pub stripped : (c : ℕ) (bs : List ℕ) (r : Option (Bor (List ℕ))) → MatchOption r ((rest : List ℕ) → bs ≢ c ∷ rest) (λ x. bs ≡ c ∷ x.now) → option_copied r ≡ behind c bs
stripped c bs None h = not_behind c bs h
stripped c bs (Some x) h = sym (ap (behind c) h ∙ ap (λ b. if b then Some x.now else None) (eq-eqb c c refl))

-- ---- Parts.

-- the answer for what is left, behind these
abbrev pub ahead : {A : Type 0} → List A → Option (List A) → Option (List A)
ahead done left = option_map (λ ys. done ++ ys) left

ahead-more : {A : Type 0} (done : List A) (y : A) (left : Option (List A)) → ahead (done ++ y ∷ []) left ≡ ahead done (option_map (λ ys. y ∷ ys) left)
ahead-more done y None = refl
ahead-more done y (Some ys) = ap Some (append_assoc done (y ∷ []) ys)

-- a text, cut at its first separator
pub record IsCut (separator : ℕ) (text first rest : List ℕ) : Type 0 where
  pub within : position_or_len (λ b. nat_eq b separator) text < length text
  pub part : first ≡ before_first (λ b. nat_eq b separator) text
  pub others : rest ≡ after_first (λ b. nat_eq b separator) text

-- a text without a separator
abbrev pub IsWhole : ℕ → List ℕ → Type 0
IsWhole separator text = position_or_len (λ b. nat_eq b separator) text ≡ length text

pub split-whole : (p : ℕ → Bool) (xs : List ℕ) → length xs ≤ prefix_len (λ x. not (p x)) xs → slice_split p xs ≡ xs ∷ []
split-whole p [] h = refl
split-whole p (x ∷ xs) h =
    elim (p x) as (λ b. length (x ∷ xs) ≤ cond (not b) (1 + prefix_len (λ y. not (p y)) xs) 0 → cond b ([] ∷ slice_split p xs) (onto_first x (slice_split p xs)) ≡ (x ∷ xs) ∷ []) [
      | true ↦ λ k. absurd (omega (arith, k))
      | false ↦ λ k. ap (onto_first x) (split-whole p xs (omega (arith, k)))
    ] h

parts-cut : (separator : ℕ) (text part others : List ℕ) → IsCut separator text part others → parts separator text ≡ part ∷ parts separator others
parts-cut separator text part others cut = rw (cut.part, cut.others) (slice_split_first (λ b. nat_eq b separator) text 0 cut.within)

parts-whole : (separator : ℕ) (text : List ℕ) → IsWhole separator text → parts separator text ≡ text ∷ []
parts-whole separator text whole = split-whole (λ b. nat_eq b separator) text (omega (arith, whole))

pub others_utf8 : (separator : ℕ) (text part others : List ℕ) → separator < 128 → IsUtf8 text → IsCut separator text part others → IsUtf8 others
others_utf8 separator text part others ascii utf8 cut =
    let at = position_or_len (λ b. nat_eq b separator) text in
    let found = eqb-true _ separator (passes_at_first (λ b. nat_eq b separator) text 0 cut.within) in
    rw cut.others (IsUtf8-drop text (at + 1) utf8 (IsCharBoundary-after_ascii text at utf8 cut.within (omega (arith, found))))

-- ---- Reading one part after another.

pub read-some : {A : Type 0} (f : List ℕ → Option A) (separator : ℕ) (done : List A) (text part others : List ℕ) (y : A) (all : Option (List A))
    → IsCut separator text part others → f part ≡ Some y → ahead done (all_of f (parts separator text)) ≡ all → ahead (done ++ y ∷ []) (all_of f (parts separator others)) ≡ all
read-some f separator done text part others y all cut e told =
    ahead-more done y (all_of f (parts separator others))
    ∙ sym (ap (λ o. ahead done (o >>= λ z. option_map (λ ys. z ∷ ys) (all_of f (parts separator others)))) e)
    ∙ sym (ap (λ ps. ahead done (all_of f ps)) (parts-cut separator text part others cut)) ∙ told

pub read-none : {A : Type 0} (f : List ℕ → Option A) (separator : ℕ) (done : List A) (text part others : List ℕ) (all : Option (List A))
    → IsCut separator text part others → f part ≡ None → ahead done (all_of f (parts separator text)) ≡ all → None ≡ all
read-none f separator done text part others all cut e told =
    sym (ap (λ o. ahead done (o >>= λ z. option_map (λ ys. z ∷ ys) (all_of f (parts separator others)))) e)
    ∙ sym (ap (λ ps. ahead done (all_of f ps)) (parts-cut separator text part others cut)) ∙ told

pub last-some : {A : Type 0} (f : List ℕ → Option A) (separator : ℕ) (done : List A) (text : List ℕ) (y : A) (all : Option (List A))
    → IsWhole separator text → f text ≡ Some y → ahead done (all_of f (parts separator text)) ≡ all → Some (done ++ y ∷ []) ≡ all
last-some f separator done text y all whole e told =
    sym (ap (λ o. ahead done (o >>= λ z. Some (z ∷ []))) e) ∙ sym (ap (λ ps. ahead done (all_of f ps)) (parts-whole separator text whole)) ∙ told

pub last-none : {A : Type 0} (f : List ℕ → Option A) (separator : ℕ) (done : List A) (text : List ℕ) (all : Option (List A))
    → IsWhole separator text → f text ≡ None → ahead done (all_of f (parts separator text)) ≡ all → None ≡ all
last-none f separator done text all whole e told =
    sym (ap (λ o. ahead done (o >>= λ z. Some (z ∷ []))) e) ∙ sym (ap (λ ps. ahead done (all_of f ps)) (parts-whole separator text whole)) ∙ told
