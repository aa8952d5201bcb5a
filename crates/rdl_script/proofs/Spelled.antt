-- What is read of the words of an operand is spelled, and what is spelled is read.
use Rattle.std.proofs.Common.{◌≡◌, ℕ, Bool, true, false, cond, List, [], ◌∷◌, Option, None, Some, Ok, refl, ap, sym, ◌∙◌, subst, rules, inl, inr}
use Rattle.std.proofs.lemmas.Slice.Eq.{bytes_eq-Decides}
use Rattle.std.specs.Prelude.{codes, option_map, ◌&&◌, ◌⊎◌}
use denote.Enum.Bare.{same_true}
use Rattle.rdl_text.specs.contracts.token.Mark.{the_type}
use Rattle.rdl_text.specs.declared.token.Mark.{Mark}
use Rattle.rdl_text.specs.declared.token.Mark.TheVariants.{OpenBracket, CloseBracket, Colon, Equals}
use Rattle.rdl_tree.specs.declared.value.Value.{Value}
use Rattle.rdl_tree.specs.declared.value.Value.TheVariants as values
use Rattle.rdl_tree.specs.declared.value.Word.TheVariants as word
use Rattle.rdl_parse.specs.Reading.{taken, by, begins, mark_at, is_mark, number_by, value_by, value_at}
use Rattle.rdl_parse.specs.Spelling.{sizes_words, value_symbol, equals_words, value_of}
use Rattle.rdl_parse.specs.Symbol.{Symbol, name, number, mark}
use Rattle.rdl_parse.proofs.Outcome.{outcome-ok}
use Rattle.rdl_parse.proofs.WordRead.{IsValue_at, value-reads}
use Rattle.rdl_script.specs.Operands.{◌>>=◌, is_none, size_by, sizes_by, dims_by, range_by, bits_by, number_or_none_by, one_value_by}
use Rattle.rdl_script.specs.Spelled.{SpellsDims, SpellsBits, SpellsNumber, SpellsValue}

-- ---- Options.

bound : {A B : Type 0} (o : Option A) (f : A → Option B) (y : B) → (o >>= f) ≡ Some y → (x : A) × (o ≡ Some x) × (f x ≡ Some y)
bound (Some x) f y e = (x, refl, e)
bound None f y e = absurd cc

mapped : {A B : Type 0} (f : A → B) (o : Option A) (y : B) → option_map f o ≡ Some y → (x : A) × (o ≡ Some x) × (f x ≡ y)
mapped f (Some x) y e = (x, refl, cc)
mapped f None y e = absurd cc

guarded : {A : Type 0} (b : Bool) (o : Option A) (y : A) → cond b o None ≡ Some y → (b ≡ true) × (o ≡ Some y)
guarded true o y e = (refl, e)
guarded false o y e = absurd cc

chosen : {A : Type 0} (b : Bool) (x y : A) (o : Option A) → cond b (Some x) o ≡ Some y → ((b ≡ true) × (x ≡ y)) ⊎ (o ≡ Some y)
chosen true x y o e = inl (refl, cc)
chosen false x y o e = inr e

both : (a b : Bool) → (a && b) ≡ true → (a ≡ true) × (b ≡ true)
both true b h = (refl, h)
both false b h = absurd (cc)

-- ---- One word.

none-spelled : (w : Symbol) → is_none w ≡ true → w ≡ name (codes "none")
none-spelled (name n) e = ap name ((bytes_eq-Decides n (codes "none")).0 e)
none-spelled w e = absurd cc

mark-spelled : (m : Mark) (w : Symbol) → is_mark m w ≡ true → w ≡ mark m
mark-spelled m (mark n) e = ap mark (same_true the_type (search rules) n m e)
mark-spelled m w e = absurd cc

number-spelled : (w : Symbol) (n : ℕ) → number_by w ≡ Some n → w ≡ number n
number-spelled (number m) n e = let same : m ≡ n = cc in ap number same
number-spelled w n e = absurd cc

-- ---- Sizes.

size-spelled : (left size right : Symbol) (n : ℕ) → size_by left size right ≡ Some n → (left ≡ mark OpenBracket) × (size ≡ number n) × (right ≡ mark CloseBracket)
size-spelled left size right n e =
    let read = guarded (is_mark OpenBracket left && is_mark CloseBracket right) (number_by size) n e in
    let marks = both (is_mark OpenBracket left) (is_mark CloseBracket right) read.0 in
    (mark-spelled OpenBracket left marks.0, number-spelled size n read.1, mark-spelled CloseBracket right marks.1)

sizes-spelled : (ws : List Symbol) (ns : List ℕ) → sizes_by ws ≡ Some ns → ws ≡ sizes_words ns []
sizes-spelled [] ns e = let same : [] ≡ ns = cc in ap (λ ks. sizes_words ks []) same
sizes-spelled (left ∷ size ∷ right ∷ ws) ns e =
    let first = bound (size_by left size right) (λ n. option_map (λ ks. n ∷ ks) (sizes_by ws)) ns e in
    let others = mapped (λ (ks : List ℕ). first.0 ∷ ks) (sizes_by ws) ns first.2 in
    let spelled = size-spelled left size right first.0 first.1 in
    let rest = sizes-spelled ws others.0 others.1 in
    ap (λ w. w ∷ size ∷ right ∷ ws) spelled.0 ∙ ap (λ w. mark OpenBracket ∷ w ∷ right ∷ ws) spelled.1
    ∙ ap (λ w. mark OpenBracket ∷ number first.0 ∷ w ∷ ws) spelled.2
    ∙ ap (λ vs. mark OpenBracket ∷ number first.0 ∷ mark CloseBracket ∷ vs) rest
    ∙ ap (λ ks. sizes_words ks []) others.2
sizes-spelled ws ns e = absurd cc

sizes-again : (ns : List ℕ) → sizes_by (sizes_words ns []) ≡ Some ns
sizes-again [] = refl
sizes-again (n ∷ ns) = ap (option_map (λ ks. n ∷ ks)) (sizes-again ns)

no_sizes-spelled : (w : Symbol) (ns : List ℕ) → ((is_none w ≡ true) × ([] ≡ ns)) ⊎ (None ≡ Some ns) → SpellsDims (w ∷ []) ns
no_sizes-spelled w ns (inl h) = subst (SpellsDims (w ∷ [])) h.1 (ap (λ v. v ∷ []) (none-spelled w h.0))
no_sizes-spelled w ns (inr h) = absurd cc

some_sizes-spelled : (w : Symbol) (ws : List Symbol) (ns : List ℕ) → w ∷ ws ≡ sizes_words ns [] → SpellsDims (w ∷ ws) ns
some_sizes-spelled w ws [] e = absurd cc
some_sizes-spelled w ws (n ∷ ns) e = e

pub dims-spelled : (ws : List Symbol) (ns : List ℕ) → dims_by ws ≡ Some ns → SpellsDims ws ns
dims-spelled [] ns e = absurd cc
dims-spelled (w ∷ []) ns e = no_sizes-spelled w ns (chosen (is_none w) [] ns None e)
dims-spelled (v ∷ w ∷ ws) ns e = some_sizes-spelled v (w ∷ ws) ns (sizes-spelled (v ∷ w ∷ ws) ns e)

pub dims-again : (ws : List Symbol) (ns : List ℕ) → SpellsDims ws ns → dims_by ws ≡ Some ns
dims-again ws [] e = ap dims_by e
dims-again ws (n ∷ ns) e = ap dims_by e ∙ sizes-again (n ∷ ns)

-- ---- Bits.

range-spelled : (left high colon low right : Symbol) (bits : ℕ × ℕ) → range_by left high colon low right ≡ Some bits
    → left ∷ high ∷ colon ∷ low ∷ right ∷ [] ≡ mark OpenBracket ∷ number bits.0 ∷ mark Colon ∷ number bits.1 ∷ mark CloseBracket ∷ []
range-spelled left high colon low right bits e =
    let read = guarded (is_mark OpenBracket left && (is_mark Colon colon && is_mark CloseBracket right)) _ bits e in
    let marks = both (is_mark OpenBracket left) _ read.0 in
    let inner = both (is_mark Colon colon) (is_mark CloseBracket right) marks.1 in
    let first = bound (number_by high) (λ h. option_map (λ l. (h, l)) (number_by low)) bits read.1 in
    let second = mapped (λ (l : ℕ). (first.0, l)) (number_by low) bits first.2 in
    let left_is = mark-spelled OpenBracket left marks.0 in
    let colon_is = mark-spelled Colon colon inner.0 in
    let right_is = mark-spelled CloseBracket right inner.1 in
    let high_is : high ≡ number bits.0 = number-spelled high first.0 first.1 ∙ ap (λ (b : ℕ × ℕ). number b.0) second.2 in
    let low_is : low ≡ number bits.1 = number-spelled low second.0 second.1 ∙ ap (λ (b : ℕ × ℕ). number b.1) second.2 in
    ap (λ w. w ∷ high ∷ colon ∷ low ∷ right ∷ []) left_is ∙ ap (λ w. mark OpenBracket ∷ w ∷ colon ∷ low ∷ right ∷ []) high_is
    ∙ ap (λ w. mark OpenBracket ∷ number bits.0 ∷ w ∷ low ∷ right ∷ []) colon_is
    ∙ ap (λ w. mark OpenBracket ∷ number bits.0 ∷ mark Colon ∷ w ∷ right ∷ []) low_is
    ∙ ap (λ w. mark OpenBracket ∷ number bits.0 ∷ mark Colon ∷ number bits.1 ∷ w ∷ []) right_is

no_bits-spelled : (w : Symbol) (bits : Option (ℕ × ℕ)) → ((is_none w ≡ true) × (None ≡ bits)) ⊎ (None ≡ Some bits) → SpellsBits (w ∷ []) bits
no_bits-spelled w bits (inl h) = subst (SpellsBits (w ∷ [])) h.1 (ap (λ v. v ∷ []) (none-spelled w h.0))
no_bits-spelled w bits (inr h) = absurd cc

pub bits-spelled : (ws : List Symbol) (bits : Option (ℕ × ℕ)) → bits_by ws ≡ Some bits → SpellsBits ws bits
bits-spelled (w ∷ []) bits e = no_bits-spelled w bits (chosen (is_none w) None bits None e)
bits-spelled (left ∷ high ∷ colon ∷ low ∷ right ∷ []) bits e =
    let read = mapped (λ (b : ℕ × ℕ). Some b) (range_by left high colon low right) bits e in
    subst (SpellsBits (left ∷ high ∷ colon ∷ low ∷ right ∷ [])) read.2 (range-spelled left high colon low right read.0 read.1)
bits-spelled ws bits e = absurd cc

pub bits-again : (ws : List Symbol) (bits : Option (ℕ × ℕ)) → SpellsBits ws bits → bits_by ws ≡ Some bits
bits-again ws None e = ap bits_by e
bits-again ws (Some bits) e = ap bits_by e

-- ---- Numbers.

one-spelled : (w : Symbol) (n : Option ℕ) → ((is_none w ≡ true) × (None ≡ n)) ⊎ (option_map (λ k. Some k) (number_by w) ≡ Some n) → SpellsNumber (w ∷ []) n
one-spelled w n (inl h) = subst (SpellsNumber (w ∷ [])) h.1 (ap (λ v. v ∷ []) (none-spelled w h.0))
one-spelled w n (inr h) =
    let read = mapped (λ (k : ℕ). Some k) (number_by w) n h in
    subst (SpellsNumber (w ∷ [])) read.2 (ap (λ v. v ∷ []) (number-spelled w read.0 read.1))

pub number-or-none-spelled : (ws : List Symbol) (n : Option ℕ) → number_or_none_by ws ≡ Some n → SpellsNumber ws n
number-or-none-spelled (w ∷ []) n e = one-spelled w n (chosen (is_none w) None n (option_map (λ k. Some k) (number_by w)) e)
number-or-none-spelled ws n e = absurd cc

pub number-or-none-again : (ws : List Symbol) (n : Option ℕ) → SpellsNumber ws n → number_or_none_by ws ≡ Some n
number-or-none-again ws None e = ap number_or_none_by e
number-or-none-again ws (Some n) e = ap number_or_none_by e

-- ---- Values.

value-at : (w : Symbol) (v : Value) (given : Option Value) → v ≡ value_of given → mark Equals ∷ w ∷ [] ≡ equals_words given [] → w ≡ value_symbol v
value-at w v None e h = absurd cc
value-at w v (Some u) e h = let same : w ≡ value_symbol u = cc in same ∙ ap value_symbol (sym e)

value-spelled : (w : Symbol) (v : Value) → value_by w ≡ Some v → w ≡ value_symbol v
unfolding value_at begins mark_at by
value-spelled w v e =
    let read : value_at (mark Equals ∷ w ∷ []) ≡ Ok (v, []) = ap (λ o. taken o [] (w ∷ [])) e in
    let at : IsValue_at (mark Equals ∷ w ∷ []) v [] = outcome-ok (v, []) read (value-reads (mark Equals ∷ w ∷ [])) in
    value-at w v at.value at.value_is at.words_are

value-again : (v : Value) → value_by (value_symbol v) ≡ Some v
value-again (values.Number n) = refl
value-again (values.Text t) = refl
value-again (values.Bool b) = refl
value-again (values.Word word.R) = refl
value-again (values.Word word.W) = refl
value-again (values.Word word.Rclr) = refl
value-again (values.Word word.Rset) = refl
value-again (values.Word word.Woset) = refl
value-again (values.Word word.Woclr) = refl
value-again (values.Word w) = refl

pub one-value-spelled : (ws : List Symbol) (v : Value) → one_value_by ws ≡ Some v → SpellsValue ws v
one-value-spelled (w ∷ []) v e = ap (λ u. u ∷ []) (value-spelled w v e)
one-value-spelled ws v e = absurd cc

pub one-value-again : (ws : List Symbol) (v : Value) → SpellsValue ws v → one_value_by ws ≡ Some v
one-value-again ws v e = ap one_value_by e ∙ value-again v
