-- The row that the first byte chooses has the longest word.
use Rattle.std.proofs.Common.{◌≡◌, ℕ, true, false, sym, ◌∙◌, ap}
use Rattle.std.specs.Char.{is_digit}
use Rattle.rdl_text.specs.Name.{is_letter}
use Rattle.rdl_text.specs.Rows.{byte}
use Rattle.rdl_text.proofs.Longest.{longest_letter, longest_digit, longest_quote, longest_other}
use Rattle.rdl_text.proofs.rows.longest.Goals as goal

pub returns-then-is_letter-clause-word : goal.returns-then-is_letter-clause-word
returns-then-is_letter-clause-word c =
    let s = c.args.bytes.now in
    let letter : is_letter (byte s 0) ≡ true = ap is_letter (sym c.byte_at-first.ensures) ∙ (sym c.is_letter.ensures ∙ c.if-is_letter.true) in
    c.identifier.ensures.word ∙ longest_letter s letter

pub returns-then-is_digit-clause-word : goal.returns-then-is_digit-clause-word
returns-then-is_digit-clause-word c =
    let s = c.args.bytes.now in
    let digit : is_digit (byte s 0) 10 ≡ true = ap (λ (b : ℕ). is_digit b 10) (sym c.byte_at-first.ensures) ∙ (sym c.is_digit.ensures ∙ c.if-is_digit.true) in
    c.longest_number.ensures.word ∙ longest_digit s digit

pub returns-then-first-eq34-clause-word : goal.returns-then-first-eq34-clause-word
returns-then-first-eq34-clause-word c =
    c.string.ensures.word ∙ longest_quote c.args.bytes.now (sym c.byte_at-first.ensures ∙ c.if-first-eq34.true)

pub returns-else-first-eq34-clause-word : goal.returns-else-first-eq34-clause-word
returns-else-first-eq34-clause-word c =
    let s = c.args.bytes.now in
    let letter : is_letter (byte s 0) ≡ false = ap is_letter (sym c.byte_at-first.ensures) ∙ (sym c.is_letter.ensures ∙ c.if-is_letter.false) in
    let digit : is_digit (byte s 0) 10 ≡ false = ap (λ (b : ℕ). is_digit b 10) (sym c.byte_at-first.ensures) ∙ (sym c.is_digit.ensures ∙ c.if-is_digit.false) in
    c.mark.ensures.word ∙ longest_other s letter digit (λ e. c.if-first-eq34.false (c.byte_at-first.ensures ∙ e))
