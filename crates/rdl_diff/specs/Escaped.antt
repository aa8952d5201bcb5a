-- How the text of a string is printed, so that it stays in its line and each of its bytes shows. Own.
use Rattle.std.specs.Prelude.{◌≡◌, ◌==◌, ◌/◌, ◌%◌, ℕ, true, false, List, [], ◌∷◌, ◌++◌, codes, flat_map, if◌then◌else◌}
use Rattle.std.specs.Char.{is_ascii_control}
use Rattle.std.specs.Fmt.{digits}

-- a byte or a character whose own text this is: a line feed is `\n`, a tab `\t`, a quote `\"` and a backslash `\\`; another control
-- byte, which are those below 0x20 and 0x7F, is `\x` with two upper-case hexadecimal digits; and what is left is its own text
unfoldable pub shown : ℕ → (own : List ℕ) → List ℕ
shown c own =
    if c == 10 then codes "\\n"
    else if c == 9 then codes "\\t"
    else if c == 34 then codes "\\\""
    else if c == 92 then codes "\\\\"
    else if is_ascii_control c then codes "\\x" ++ digits 16 true (c / 16) ++ digits 16 true (c % 16)
    else own

abbrev pub escaped : List ℕ → List ℕ
escaped text = flat_map (λ b. shown b (b ∷ [])) text

-- it is no control byte
abbrev pub IsShown : ℕ → Type 0
IsShown b = is_ascii_control b ≡ false
