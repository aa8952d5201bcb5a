-- What the identifiers of a written map are to the grammar.
use Rattle.std.proofs.Common.{◌≡◌, ℕ, List, Bool, true, false, inl, inr, refl, ap, ◌∙◌}
use Rattle.std.specs.Prelude.{codes}
use Rattle.rdl_tree.specs.Word.{word_text}
use Rattle.rdl_tree.specs.declared.shell.Kind.{Kind}
use Rattle.rdl_tree.specs.declared.shell.Kind.TheVariants.{Addrmap, Regfile, Reg, Field}
use Rattle.rdl_tree.specs.declared.shell.Outside.TheVariants.{External, Internal}
use Rattle.rdl_tree.specs.declared.value.Value.{Value}
use Rattle.rdl_tree.specs.declared.value.Value.TheVariants.{Number, Text, Bool as Boolean, Word}
use Rattle.rdl_tree.specs.declared.value.Word.{Word as ValueWord}
use Rattle.rdl_tree.specs.declared.value.Word.TheVariants.{R, W, Rw, Wr, Rw1, W1, Na, Rclr, Rset, Ruser, Woset, Woclr, Wot, Wzs, Wzc, Wzt, Wclr, Wset, Wuser, Compact, Regalign, Fullalign}
use Rattle.rdl_parse.specs.Class.{class, is_unused}
use Rattle.rdl_parse.specs.Symbol as symbol
use Rattle.rdl_parse.specs.Symbol.{Symbol, class_symbol, property_text}
use Rattle.rdl_parse.specs.Spelling.{Prop, free, reserved, prop_symbol, prop_text, word_symbol, value_symbol}
use Rattle.rdl_parse.specs.declared.class.ReservedProperty.{ReservedProperty}
use Rattle.rdl_parse.specs.declared.class.ReservedProperty.TheVariants as properties
use Rattle.rdl_write.specs.Texts.{kind_text, boolean_text}
use Rattle.rdl_round.specs.Spellable.{IsFree, IsProperty}
use Rattle.rdl_round.specs.WrittenWords.{identifier_word, value_word}

pub free-is : (n : List ℕ) → IsFree n → identifier_word n ≡ symbol.name n
free-is n h = ap (λ c. class_symbol c n) h

pub kind-is : (k : Kind) → identifier_word (kind_text k) ≡ symbol.kind k
unfolding class is_unused
kind-is Addrmap = refl
kind-is Regfile = refl
kind-is Reg = refl
kind-is Field = refl

pub default-is : identifier_word (codes "default") ≡ symbol.default
unfolding class is_unused
default-is = refl

pub external-is : identifier_word (codes "external") ≡ symbol.outside External
unfolding class is_unused
external-is = refl

pub internal-is : identifier_word (codes "internal") ≡ symbol.outside Internal
unfolding class is_unused
internal-is = refl

truth-is : (b : Bool) → identifier_word (boolean_text b) ≡ symbol.truth b
unfolding class is_unused
truth-is true = refl
truth-is false = refl

word-is : (w : ValueWord) → identifier_word (word_text w) ≡ word_symbol w
unfolding class is_unused
word-is R = refl
word-is W = refl
word-is Rw = refl
word-is Wr = refl
word-is Rw1 = refl
word-is W1 = refl
word-is Na = refl
word-is Rclr = refl
word-is Rset = refl
word-is Ruser = refl
word-is Woset = refl
word-is Woclr = refl
word-is Wot = refl
word-is Wzs = refl
word-is Wzc = refl
word-is Wzt = refl
word-is Wclr = refl
word-is Wset = refl
word-is Wuser = refl
word-is Compact = refl
word-is Regalign = refl
word-is Fullalign = refl

pub value-is : (v : Value) → value_word v ≡ value_symbol v
value-is (Number n) = refl
value-is (Text t) = refl
value-is (Boolean b) = truth-is b
value-is (Word w) = word-is w

reserved-is : (p : ReservedProperty) → identifier_word (property_text p) ≡ symbol.property p
unfolding class is_unused
reserved-is properties.Sw = refl
reserved-is properties.Hw = refl
reserved-is properties.Rclr = refl
reserved-is properties.Rset = refl
reserved-is properties.Woset = refl
reserved-is properties.Woclr = refl

-- the property as a statement has it
abbrev pub prop_of : (n : List ℕ) → IsProperty n → Prop
prop_of n (inl h) = free n
prop_of n (inr h) = reserved h.0

pub prop-word-is : (n : List ℕ) (h : IsProperty n) → identifier_word n ≡ prop_symbol (prop_of n h)
prop-word-is n (inl h) = free-is n h
prop-word-is n (inr h) = ap identifier_word h.1 ∙ reserved-is h.0

pub prop-text-is : (n : List ℕ) (h : IsProperty n) → n ≡ prop_text (prop_of n h)
prop-text-is n (inl h) = refl
prop-text-is n (inr h) = h.1
