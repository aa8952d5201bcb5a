-- The test of what rows tell says whether it is the same.
use Rattle.std.proofs.Common.{◌≡◌, ℕ, Bool, true, false, List, [], ◌∷◌, Some, None, refl, sym, ap, ◌∙◌, bytes_eq}
use Rattle.std.specs.Prelude.{◌==◌, ◌&&◌, find, unwrap_or}
use Rattle.std.specs.Bool.{Decides}
use Rattle.std.specs.Cmp.Lexicographic.{pointwise}
use Rattle.std.specs.Option.{option_eq}
use Rattle.std.proofs.lemmas.Bool.Decides.{Decides-eqb}
use Rattle.std.proofs.lemmas.Slice.Eq.{slice_eq-Decides, bytes_eq-Decides}
use Rattle.rdl_tree.specs.Word.{word_text}
use Rattle.rdl_tree.specs.declared.shell.Kind.TheVariants.{Addrmap, Regfile, Reg, Field}
use Rattle.rdl_tree.specs.declared.value.Value.TheVariants as given
use Rattle.rdl_tree.specs.declared.value.Word.{Word}
use Rattle.rdl_tree.specs.declared.value.Word.TheVariants.{R, W, Rw, Wr, Rw1, W1, Na, Rclr, Rset, Ruser, Woset, Woclr, Wot, Wzs, Wzc, Wzt, Wclr, Wset, Wuser, Compact, Regalign, Fullalign}
use Rattle.rdl_diff.specs.Told.{Told, kind, number, sizes, bits, value, same_kind, same_span, same_bool, same_value, same}

-- ---- A word is known by its text.

words : List Word
words = R ∷ W ∷ Rw ∷ Wr ∷ Rw1 ∷ W1 ∷ Na ∷ Rclr ∷ Rset ∷ Ruser ∷ Woset ∷ Woclr ∷ Wot ∷ Wzs ∷ Wzc ∷ Wzt ∷ Wclr ∷ Wset ∷ Wuser ∷ Compact ∷ Regalign ∷ Fullalign ∷ []

word_of : List ℕ → Word
word_of text = unwrap_or (find (λ w. bytes_eq (word_text w) text) words) R

word-back : (w : Word) → word_of (word_text w) ≡ w
unfolding word_of words
word-back R = refl
word-back w = refl

-- ---- What the tests say.

abbrev Sound : {A : Type 0} → (A → A → Bool) → Type 0
Sound {A} E = (a b : A) → E a b ≡ true → a ≡ b

abbrev Holds : {A : Type 0} → (A → A → Bool) → Type 0
Holds {A} E = (a : A) → E a a ≡ true

both : (a b : Bool) → a && b ≡ true → (a ≡ true) × (b ≡ true)
both true b e = (refl, e)
both false b e = cc

two : (a b : Bool) → a ≡ true → b ≡ true → a && b ≡ true
two a b e f = (λ i. e i && f i)

sound-option : {A : Type 0} (E : A → A → Bool) → Sound E → Sound (option_eq E)
sound-option E h None None e = refl
sound-option E h (Some a) (Some b) e = ap Some (h a b e)
sound-option E h (Some a) None e = cc
sound-option E h None (Some b) e = cc

holds-option : {A : Type 0} (E : A → A → Bool) → Holds E → Holds (option_eq E)
holds-option E h None = refl
holds-option E h (Some a) = h a

sound-kind : Sound same_kind
sound-kind Addrmap Addrmap e = refl
sound-kind Regfile Regfile e = refl
sound-kind Reg Reg e = refl
sound-kind Field Field e = refl
sound-kind a b e = cc

holds-kind : Holds same_kind
holds-kind Addrmap = refl
holds-kind k = refl

sound-span : Sound same_span
sound-span a b e =
    let parts = both (a.start == b.start) (a.end == b.end) e in
    let starts : a.start ≡ b.start = (Decides-eqb a.start b.start).0 parts.0 in
    let ends : a.end ≡ b.end = (Decides-eqb a.end b.end).0 parts.1 in
    λ i. record { start = starts i; end = ends i }

holds-span : Holds same_span
holds-span a = two (a.start == a.start) (a.end == a.end) ((Decides-eqb a.start a.start).1 refl) ((Decides-eqb a.end a.end).1 refl)

sound-bool : Sound same_bool
sound-bool true true e = refl
sound-bool false false e = refl
sound-bool true false e = cc
sound-bool false true e = cc

holds-bool : Holds same_bool
holds-bool true = refl
holds-bool false = refl

sound-value : Sound same_value
sound-value (given.Number a) (given.Number b) e = ap given.Number ((Decides-eqb a b).0 e)
sound-value (given.Text a) (given.Text b) e = ap given.Text ((bytes_eq-Decides a b).0 e)
sound-value (given.Bool a) (given.Bool b) e = ap given.Bool (sound-bool a b e)
sound-value (given.Word a) (given.Word b) e = ap given.Word (sym (word-back a) ∙ ap word_of ((bytes_eq-Decides (word_text a) (word_text b)).0 e) ∙ word-back b)
sound-value a b e = cc

holds-value : Holds same_value
holds-value (given.Number a) = (Decides-eqb a a).1 refl
holds-value (given.Text a) = (bytes_eq-Decides a a).1 refl
holds-value (given.Bool a) = holds-bool a
holds-value (given.Word a) = (bytes_eq-Decides (word_text a) (word_text a)).1 refl

sizes-Decides : (a b : List ℕ) → Decides (pointwise ◌==◌ a b) (a ≡ b)
sizes-Decides a b = slice_eq-Decides Decides-eqb a b (pointwise ◌==◌ a b) refl

pub sound : Sound same
sound (kind a) (kind b) e = ap kind (sound-kind a b e)
sound (number a) (number b) e = ap number (sound-option ◌==◌ (λ m n. (Decides-eqb m n).0) a b e)
sound (sizes a) (sizes b) e = ap sizes ((sizes-Decides a b).0 e)
sound (bits a) (bits b) e = ap bits (sound-option same_span sound-span a b e)
sound (value a) (value b) e = ap value (sound-option same_value sound-value a b e)
sound a b e = cc

pub itself : Holds same
itself (kind a) = holds-kind a
itself (number a) = holds-option ◌==◌ (λ n. (Decides-eqb n n).1 refl) a
itself (sizes a) = (sizes-Decides a a).1 refl
itself (bits a) = holds-option same_span holds-span a
itself (value a) = holds-option same_value holds-value a

-- it doesn't matter which is the first
pub turned-round : (a b : Told) → same a b ≡ same b a
turned-round a b = by (same a b) refl (same b a) refl
  where
    by : (m : Bool) → same a b ≡ m → (n : Bool) → same b a ≡ n → same a b ≡ same b a
    by true e true f = e ∙ sym f
    by false e false f = e ∙ sym f
    by true e false f = let no : false ≡ true = sym f ∙ ap (same b) (sound a b e) ∙ itself b in cc
    by false e true f = let no : false ≡ true = sym e ∙ ap (same a) (sound b a f) ∙ itself a in cc
