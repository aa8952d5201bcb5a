-- What words are not.
use Rattle.std.proofs.Common.{◌≡◌, ℕ, suc, ◌<◌, Bool, not, true, false, cond, List, [], ◌∷◌, length, drop, Option, Some, None, Ok, Err, refl, ap, arith}
use denote.Enum.Bare.{sameb}
use Rattle.rdl_text.specs.contracts.token.Mark.{the_type}
use Rattle.rdl_text.specs.declared.token.Mark.{Mark}
use Rattle.rdl_text.specs.declared.token.Mark.TheVariants.{CloseBrace}
use Rattle.rdl_text.specs.declared.token.TokenKind.{TokenKind}
use Rattle.rdl_text.specs.declared.token.TokenKind.TheVariants as kinds
use Rattle.rdl_text.specs.Standing.{kind_mark, first_mark}
use Rattle.rdl_text.specs.Name.{IsName}
use Rattle.rdl_text.specs.Word.{Word as Token}
use Rattle.rdl_parse.specs.Symbol.{class_symbol, symbol_by, symbol, symbols, property_text}
use Rattle.rdl_parse.specs.Class.{class}
use Rattle.rdl_parse.specs.Reading.{is_mark, number_by, begins, mark_at, fault_at, goes_on}
use Rattle.rdl_parse.specs.declared.class.Class.{Class}
use Rattle.rdl_parse.specs.declared.class.Class.TheVariants.{Kind, Outside, Default, Truth, Property, Word, Reserved, Name}
use Rattle.rdl_parse.specs.declared.class.ReservedProperty.{ReservedProperty as Prop}
use Rattle.rdl_parse.specs.declared.class.ReservedProperty.TheVariants.{Sw, Hw, Rclr, Rset, Woset, Woclr}

pub identifier_no_mark : (c : Class) (m : Mark) (n : List ℕ) → is_mark m (class_symbol c n) ≡ false
identifier_no_mark (Kind k) m n = refl
identifier_no_mark (Outside o) m n = refl
identifier_no_mark Default m n = refl
identifier_no_mark (Truth b) m n = refl
identifier_no_mark (Property p) m n = refl
identifier_no_mark (Word w) m n = refl
identifier_no_mark Reserved m n = refl
identifier_no_mark Name m n = refl

pub identifier_no_number : (c : Class) (n : List ℕ) → number_by (class_symbol c n) ≡ None
identifier_no_number (Kind k) n = refl
identifier_no_number (Outside o) n = refl
identifier_no_number Default n = refl
identifier_no_number (Truth b) n = refl
identifier_no_number (Property p) n = refl
identifier_no_number (Word w) n = refl
identifier_no_number Reserved n = refl
identifier_no_number Name n = refl

abbrev pub by_mark : Mark → Option Mark → Bool
by_mark m None = false
by_mark m (Some n) = sameb the_type n m

mark_of_kind : (m : Mark) (k : TokenKind) (n : List ℕ) → is_mark m (symbol_by k n) ≡ by_mark m (kind_mark k)
mark_of_kind m kinds.Identifier n = identifier_no_mark (class n) m n
mark_of_kind m (kinds.Number v) n = refl
mark_of_kind m kinds.Text n = refl
mark_of_kind m (kinds.Mark own) n = refl

-- words begin with a mark if their first one is it
pub begins_first : (m : Mark) (ws : List Token) → begins m (symbols ws) ≡ by_mark m (first_mark ws)
unfolding begins
begins_first m [] = refl
begins_first m (w ∷ ws) = mark_of_kind m w.kind w.source

pub mark_met : (m : Mark) (ws : List Token) → begins m (symbols ws) ≡ true → mark_at m (symbols ws) ≡ Ok (symbols (drop 1 ws))
unfolding begins mark_at
mark_met m [] e = cc
mark_met m (w ∷ ws) e = rw e refl

pub mark_missed : (m : Mark) (ws : List Token) → begins m (symbols ws) ≡ false → mark_at m (symbols ws) ≡ Err (fault_at (symbols ws))
unfolding begins mark_at
mark_missed m [] e = refl
mark_missed m (w ∷ ws) e = rw e refl

pub goes_on_first : (ws : List Token) → 0 < length ws → goes_on (symbols ws) ≡ not (begins CloseBrace (symbols ws))
unfolding goes_on begins
goes_on_first [] h = absurd (omega arith)
goes_on_first (w ∷ ws) h = refl

pub length_symbols : (ws : List Token) → length (symbols ws) ≡ length ws
length_symbols [] = refl
length_symbols (w ∷ ws) = ap suc (length_symbols ws)

pub property_is_name : (p : Prop) → IsName (property_text p)
property_is_name Sw = record { short = omega arith; identifier = refl }
property_is_name Hw = record { short = omega arith; identifier = refl }
property_is_name Rclr = record { short = omega arith; identifier = refl }
property_is_name Rset = record { short = omega arith; identifier = refl }
property_is_name Woset = record { short = omega arith; identifier = refl }
property_is_name Woclr = record { short = omega arith; identifier = refl }
