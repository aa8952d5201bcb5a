-- Reading the lines of a session from left to right; None where they aren't of their form.
-- Own.
use Rattle.std.specs.Prelude.{ℕ, zero, suc, ◌^◌, Bool, not, ◌&&◌, ◌||◌, nat_eq, nat_lt, nat_le, if◌then◌else◌, List, [], ◌∷◌, length, take, drop, slice_index, Option, None, Some, option_map, codes, bytes_eq}
use Rattle.std.specs.Char.{is_ascii_digit}
use Rattle.std.specs.List.{list_all}
use Rattle.std.specs.Str.Parse.{digits_value}
use Rattle.rdl_session.specs.Text.{PatchLines, SessionLines, insert, delete, shift, shell, value, target, type, name}

infixl 10 ◌>>=◌
abbrev pub ◌>>=◌ : {A B : Type 0} → Option A → (A → Option B) → Option B
(Some x) >>= f = f x
None >>= f = None

-- what stands before the first such byte, and behind it
abbrev pub Cut : Type 0
Cut = List ℕ × List ℕ

unfoldable pub cut_at : ℕ → List ℕ → Option Cut
cut_at c [] = None
cut_at c (x ∷ xs) = if nat_eq x c then Some ([], xs) else option_map (λ p. (x ∷ p.0, p.1)) (cut_at c xs)

-- so many bytes, and what is behind them
unfoldable pub taken : ℕ → List ℕ → Option Cut
taken n bytes = if nat_le n (length bytes) then Some (take n bytes, drop n bytes) else None

-- ---- Numbers and addresses.

-- digits without a leading zero
unfoldable pub is_plain : List ℕ → Bool
is_plain bytes = list_all is_ascii_digit bytes && (nat_eq (length bytes) 1 || (nat_lt 1 (length bytes) && not (nat_eq (slice_index bytes 0) 48)))

-- such a number of at most 64 bits
unfoldable pub number_in : List ℕ → Option ℕ
number_in bytes = if is_plain bytes then (if nat_lt (digits_value 10 bytes) (2 ^ 64) then Some (digits_value 10 bytes) else None) else None

-- what comes of a part before a separator and what is behind it, or of a whole without one
abbrev pub either : {A : Type 0} → Option Cut → Option A → (Cut → Option A) → Option A
either None whole f = whole
either (Some p) whole f = f p

-- numbers parted by dots, at most so many
unfoldable pub address_in : (most : ℕ) → List ℕ → Option (List ℕ)
address_in zero bytes = None
address_in (suc most) bytes =
    either (cut_at 46 bytes) (option_map (λ n. n ∷ []) (number_in bytes)) (λ p. number_in p.0 >>= λ n. option_map (λ ns. n ∷ ns) (address_in most p.1))

-- ---- Lines.

-- a line of a word and a count, and what is behind it
unfoldable pub count_in : (word : List ℕ) → List ℕ → Option (ℕ × List ℕ)
count_in word text = cut_at 10 text >>= λ line. cut_at 32 line.0 >>= λ parts. if bytes_eq parts.0 word then option_map (λ n. (n, line.1)) (number_in parts.1) else None

-- a count, and so many bytes behind the line
unfoldable pub counted_in : (count rest : List ℕ) → Option Cut
counted_in count rest = number_in count >>= λ n. taken n rest

abbrev pub PatchCut : Type 0
PatchCut = PatchLines × List ℕ

-- by what a patch does, its address, what stands behind that, and what is behind the line
unfoldable pub exchange_in : (word at last rest : List ℕ) → Option PatchCut
exchange_in word at last rest =
    if bytes_eq word (codes "insert") then option_map (λ p. (insert at p.0, p.1)) (counted_in last rest)
    else if bytes_eq word (codes "shift") then option_map (λ n. (shift at n, rest)) (number_in last)
    else if bytes_eq word (codes "shell") then option_map (λ p. (shell at p.0, p.1)) (counted_in last rest)
    else if bytes_eq word (codes "value") then option_map (λ p. (value at p.0, p.1)) (counted_in last rest)
    else if bytes_eq word (codes "target") then option_map (λ p. (target at p.0, p.1)) (counted_in last rest)
    else if bytes_eq word (codes "type") then Some (type at last, rest)
    else if bytes_eq word (codes "name") then Some (name at last, rest)
    else None

unfoldable pub act_in : (word operands rest : List ℕ) → Option PatchCut
act_in word operands rest =
    if bytes_eq word (codes "delete") then option_map (λ at. (delete at, rest)) (address_in 17 operands)
    else (cut_at 32 operands >>= λ parts. address_in 17 parts.0 >>= λ at. exchange_in word at parts.1 rest)

unfoldable pub patch_in : List ℕ → Option PatchCut
patch_in text = cut_at 10 text >>= λ line. cut_at 32 line.0 >>= λ parts. act_in parts.0 parts.1 line.1

-- so many of these, and what is behind them
abbrev pub many : {A : Type 0} → (List ℕ → Option (A × List ℕ)) → ℕ → List ℕ → Option (List A × List ℕ)
many one zero text = Some ([], text)
many one (suc n) text = one text >>= λ p. option_map (λ q. (p.0 ∷ q.0, q.1)) (many one n p.1)

unfoldable pub step_in : List ℕ → Option (List PatchLines × List ℕ)
step_in text = count_in (codes "back") text >>= λ c. many patch_in c.0 c.1

unfoldable pub steps_in : (word : List ℕ) → List ℕ → Option (List (List PatchLines) × List ℕ)
steps_in word text = count_in word text >>= λ c. many step_in c.0 c.1

-- the map's text, and what is behind it
unfoldable pub head_in : List ℕ → Option Cut
head_in text = cut_at 10 text >>= λ line. if bytes_eq line.0 (codes "regedit session 1") then (count_in (codes "map") line.1 >>= λ c. taken c.0 c.1) else None

unfoldable pub lines_in : List ℕ → Option SessionLines
lines_in text =
    head_in text >>= λ map. steps_in (codes "undo") map.1 >>= λ undo. steps_in (codes "redo") undo.1 >>= λ redo.
    if bytes_eq redo.1 (codes "end\n") then Some (record { map = map.0; undo = undo.0; redo = redo.0 }) else None

-- ---- A source text in front.

-- it begins with the line of a session without one
abbrev pub begins_session : List ℕ → Bool
begins_session text = bytes_eq (codes "regedit session 1\n") (take (length (codes "regedit session 1\n")) text)

-- the source text, and the session behind it
unfoldable pub source_in : List ℕ → Option Cut
source_in text =
    cut_at 10 text >>= λ line. if bytes_eq line.0 (codes "regedit session 2") then (count_in (codes "source") line.1 >>= λ c. taken c.0 c.1 >>= λ p. if begins_session p.1 then Some p else None) else None
