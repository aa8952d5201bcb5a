-- The definition of words on small texts.
use Rattle.std.proofs.Common.{◌≡◌, ℕ, List, [], ◌∷◌, refl, Result, Ok, Err}
use Rattle.std.specs.Prelude.{codes}
use Rattle.rdl_text.specs.Word.{Word, word}
use Rattle.rdl_text.specs.Number.{value}
use Rattle.rdl_text.specs.Rows.{identifier_len, decimal_len, hexadecimal_len, verilog_len, string_len}
use Rattle.rdl_text.specs.Words.{words, words_from, piece, longest, identifier, decimal, hexadecimal, verilog, string, mark}
use Rattle.rdl_text.specs.declared.fault.WordFault.{WordFault}
use Rattle.rdl_text.specs.declared.fault.WordFault.TheVariants.{BadCharacter, UnendedComment, UnendedString, NumberTooLarge, ValueTooWide, WidthOutOfRange}
use Rattle.rdl_text.specs.declared.fault.TextFault.{TextFault}
use Rattle.rdl_text.specs.declared.token.Mark.TheVariants.{OpenBrace, CloseBrace, Semicolon, At, PlusEquals, PercentEquals, Arrow, Dot}
use Rattle.rdl_text.specs.declared.token.TokenKind.TheVariants.{Identifier, Number, Text, Mark}

abbrev at : WordFault → ℕ → Result (List Word) TextFault
at kind offset = Err (record { kind = kind; offset = offset })

nothing : words [] ≡ Ok []
unfolding words_from
nothing = refl

names : words (codes "ab _9 x") ≡ Ok (word Identifier 0 (codes "ab") ∷ word Identifier 3 (codes "_9") ∷ word Identifier 6 (codes "x") ∷ [])
unfolding words_from piece longest identifier decimal hexadecimal verilog string mark identifier_len decimal_len hexadecimal_len verilog_len string_len value
names = refl

marks : words (codes "{+=->}.%=@") ≡ Ok (word (Mark OpenBrace) 0 (codes "{") ∷ word (Mark PlusEquals) 1 (codes "+=") ∷ word (Mark Arrow) 3 (codes "->") ∷ word (Mark CloseBrace) 5 (codes "}") ∷ word (Mark Dot) 6 (codes ".") ∷ word (Mark PercentEquals) 7 (codes "%=") ∷ word (Mark At) 9 (codes "@") ∷ [])
unfolding words_from piece longest identifier decimal hexadecimal verilog string mark identifier_len decimal_len hexadecimal_len verilog_len string_len value
marks = refl

numbers : words (codes "1_0 0xFf_ 8'hA_5 0x") ≡ Ok (word (Number 10) 0 (codes "1_0") ∷ word (Number 255) 4 (codes "0xFf_") ∷ word (Number 165) 10 (codes "8'hA_5") ∷ word (Number 0) 17 (codes "0") ∷ word Identifier 18 (codes "x") ∷ [])
unfolding words_from piece longest identifier decimal hexadecimal verilog string mark identifier_len decimal_len hexadecimal_len verilog_len string_len value
numbers = refl

strings : words (codes "\"a\\\"b\"c") ≡ Ok (word Text 0 (codes "\"a\\\"b\"") ∷ word Identifier 6 (codes "c") ∷ [])
unfolding words_from piece longest identifier decimal hexadecimal verilog string mark identifier_len decimal_len hexadecimal_len verilog_len string_len value
strings = refl

comments : words (codes "a/*/ * */b// c\n;//") ≡ Ok (word Identifier 0 (codes "a") ∷ word Identifier 9 (codes "b") ∷ word (Mark Semicolon) 15 (codes ";") ∷ [])
unfolding words_from piece longest identifier decimal hexadecimal verilog string mark identifier_len decimal_len hexadecimal_len verilog_len string_len value
comments = refl

no_digit : words (codes "4'h") ≡ at BadCharacter 1
unfolding words_from piece longest identifier decimal hexadecimal verilog string mark identifier_len decimal_len hexadecimal_len verilog_len string_len value
no_digit = refl

unended_comment : words (codes "a /*/") ≡ at UnendedComment 2
unfolding words_from piece longest identifier decimal hexadecimal verilog string mark identifier_len decimal_len hexadecimal_len verilog_len string_len value
unended_comment = refl

unended_string : words (codes "a \"b\\\"") ≡ at UnendedString 2
unfolding words_from piece longest identifier decimal hexadecimal verilog string mark identifier_len decimal_len hexadecimal_len verilog_len string_len value
unended_string = refl

large : words (codes " 340282366920938463463374607431768211456") ≡ at NumberTooLarge 1
unfolding words_from piece longest identifier decimal hexadecimal verilog string mark identifier_len decimal_len hexadecimal_len verilog_len string_len value
large = refl

largest : words (codes "340282366920938463463374607431768211455") ≡ Ok (word (Number 340282366920938463463374607431768211455) 0 (codes "340282366920938463463374607431768211455") ∷ [])
unfolding words_from piece longest identifier decimal hexadecimal verilog string mark identifier_len decimal_len hexadecimal_len verilog_len string_len value
largest = refl

wide : words (codes "2'h4") ≡ at ValueTooWide 0
unfolding words_from piece longest identifier decimal hexadecimal verilog string mark identifier_len decimal_len hexadecimal_len verilog_len string_len value
wide = refl

no_width : words (codes "0'b0") ≡ at WidthOutOfRange 0
unfolding words_from piece longest identifier decimal hexadecimal verilog string mark identifier_len decimal_len hexadecimal_len verilog_len string_len value
no_width = refl

great_width : words (codes "129'h0") ≡ at WidthOutOfRange 0
unfolding words_from piece longest identifier decimal hexadecimal verilog string mark identifier_len decimal_len hexadecimal_len verilog_len string_len value
great_width = refl

slash : words (codes "a/b") ≡ at BadCharacter 1
unfolding words_from piece longest identifier decimal hexadecimal verilog string mark identifier_len decimal_len hexadecimal_len verilog_len string_len value
slash = refl
