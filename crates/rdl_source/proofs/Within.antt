-- A piece lies within its text.
use Rattle.std.proofs.Common.{◌≡◌, ℕ, ◌+◌, ◌<◌, ◌≤◌, Bool, true, false, cond, ◌&&◌, List, [], ◌∷◌, length, drop, Option, Some, None, Result, Ok, Err, inl, refl, sym, ◌∙◌, ap, subst, arith}
use Rattle.std.proofs.lemmas.List.{length-drop}
use Rattle.std.proofs.lemmas.List.Sums.{prefix_len-le-length}
use Rattle.std.specs.Char.{is_digit}
use Rattle.std.specs.List.{prefix_len}
use Rattle.std.specs.Option.{option_map}
use Rattle.std.specs.Prelude.{nat_eq}
use Rattle.rdl_text.specs.Name.{is_letter, is_rest}
use Rattle.rdl_text.specs.Rows.{byte, run, identifier_len, decimal_len, hexadecimal_len, width_len, closing, quoted_len, string_len, short_mark, long_mark}
use Rattle.rdl_text.specs.Words.{candidate, identifier, decimal, hexadecimal, verilog, string, marked, mark, longest, judged, word_piece, is_blank, is_in_line, comment_end, enclosed, block_comment, piece}
use Rattle.rdl_text.specs.Piece.{Candidate, Piece}
use Rattle.rdl_text.specs.Piece.{Gap, Word}
use Rattle.rdl_text.specs.declared.fault.WordFault.{WordFault}
use Rattle.rdl_text.specs.declared.fault.WordFault.TheVariants.{UnendedString, BadCharacter}
use Rattle.rdl_text.specs.declared.token.Mark.{Mark}
use Rattle.rdl_text.specs.declared.token.TokenKind.{TokenKind}
use Rattle.rdl_text.proofs.Ends.{candidate_found, mapped, longer_from, chosen, piece_len}
use Rattle.rdl_source.proofs.Quiet.{cond_le, decimal_within, hexadecimal_within, quoted_digits, verilog_by, verilog_is, digits_within, no_quoted_none, no_quoted_one, no_quoted_two, no_long}

pub record Within (s : List ℕ) (n : ℕ) : Type 0 where
  pub some : 1 ≤ n
  pub within : n ≤ length s

row_within : (s : List ℕ) (n : ℕ) (k : Result TokenKind WordFault) (x : Candidate) → n ≤ length s → candidate n k ≡ Some x → Within s x.len
row_within s n k x h e =
    let f = candidate_found n k x e in
    record { some = omega (arith, f.0, f.1); within = omega (arith, f.1, h) }

identifier_within : (c : ℕ) (cs : List ℕ) (x : Candidate) → identifier (c ∷ cs) ≡ Some x → Within (c ∷ cs) x.len
unfolding identifier identifier_len
identifier_within c cs x e =
    row_within (c ∷ cs) (cond (is_letter c) (1 + prefix_len is_rest cs) 0) _ x (cond_le (is_letter c) (1 + prefix_len is_rest cs) (length (c ∷ cs)) (omega (arith, prefix_len-le-length is_rest cs))) e

decimal_in : (c : ℕ) (cs : List ℕ) (x : Candidate) → decimal (c ∷ cs) ≡ Some x → Within (c ∷ cs) x.len
unfolding decimal
decimal_in c cs x e = row_within (c ∷ cs) (decimal_len (c ∷ cs)) _ x (decimal_within c cs) e

hexadecimal_in : (c : ℕ) (cs : List ℕ) (x : Candidate) → hexadecimal (c ∷ cs) ≡ Some x → Within (c ∷ cs) x.len
unfolding hexadecimal
hexadecimal_in c cs x e = row_within (c ∷ cs) (hexadecimal_len (c ∷ cs)) _ x (hexadecimal_within c cs) e

digits_low : (w n : ℕ) (r : List ℕ) → w + length r ≤ n → quoted_digits w r ≤ n
digits_low w n [] h = omega (arith, no_quoted_none w [] (inl refl))
digits_low w n (a ∷ []) h = omega (arith, no_quoted_one w a [] (inl refl))
digits_low w n (a ∷ b ∷ []) h = omega (arith, no_quoted_two w a b [] (inl refl))
digits_low w n (a ∷ b ∷ c ∷ ys) h = digits_within w a b c ys n (omega (arith, h))

verilog_in : (s : List ℕ) (x : Candidate) → verilog s ≡ Some x → Within s x.len
unfolding verilog_by
verilog_in s x e =
    let w = width_len s in
    let low : w ≤ length s = prefix_len-le-length (λ c. is_digit c 10) s in
    row_within s (quoted_digits w (drop w s)) _ x (digits_low w (length s) (drop w s) (omega (arith, length-drop w s, low))) (sym (verilog_is s) ∙ e)

closing_within : (taken : Bool) (cs : List ℕ) (n : ℕ) → closing taken cs ≡ Some n → n < length cs
closing_within taken [] n e = cc
closing_within true (c ∷ cs) n e = let m = mapped (closing false cs) n e in omega (arith, m.2, closing_within false cs m.0 m.1)
closing_within false (c ∷ cs) n e = at_quote (nat_eq c 34) (closing (nat_eq c 92) cs) n (λ m f. closing_within (nat_eq c 92) cs m f) e
  where
    at_quote : (b : Bool) (o : Option ℕ) (n : ℕ) → ((m : ℕ) → o ≡ Some m → m < length cs) → cond b (Some 0) (option_map (λ k. k + 1) o) ≡ Some n → n < length (c ∷ cs)
    at_quote true o n f e = let z : 0 ≡ n = cc in omega (arith, z)
    at_quote false o n f e = let m = mapped o n e in omega (arith, m.2, f m.0 m.1)

quoted_low : (o : Option ℕ) (n : ℕ) → ((m : ℕ) → o ≡ Some m → m < n) → quoted_len o ≤ n + 1
quoted_low None n f = omega arith
quoted_low (Some m) n f = omega (arith, f m refl)

string_in : (c : ℕ) (cs : List ℕ) (x : Candidate) → string (c ∷ cs) ≡ Some x → Within (c ∷ cs) x.len
unfolding string string_len
string_in c cs x e =
    row_within (c ∷ cs) (cond (nat_eq c 34) (quoted_len (closing false cs)) 0) _ x
    (cond_le (nat_eq c 34) (quoted_len (closing false cs)) (length (c ∷ cs)) (omega (arith, quoted_low (closing false cs) (length cs) (λ m f. closing_within false cs m f)))) e

len_of : Option Candidate → ℕ
len_of None = 0
len_of (Some x) = x.len

same_len : (x y : Candidate) → Some x ≡ Some y → x.len ≡ y.len
unfolding len_of
same_len x y e = ap len_of e

long_within : (c : ℕ) (cs : List ℕ) (x : Candidate) → option_map (marked 2) (long_mark c (byte cs 0)) ≡ Some x → Within (c ∷ cs) x.len
long_within c [] x e = absurd (none (long_mark c 0) (no_long c 0 (inl refl)) e)
  where
    none : (o : Option Mark) → o ≡ None → option_map (marked 2) o ≡ Some x → ⊥
    none None f e = cc
    none (Some m) f e = cc
long_within c (d ∷ ds) x e = two (long_mark c d) e
  where
    two : (o : Option Mark) → option_map (marked 2) o ≡ Some x → Within (c ∷ d ∷ ds) x.len
    two None e = cc
    two (Some m) e = let n = same_len (marked 2 m) x e in record { some = omega (arith, n); within = omega (arith, n) }

short_within : (c : ℕ) (cs : List ℕ) (o : Option Mark) (x : Candidate) → option_map (marked 1) o ≡ Some x → Within (c ∷ cs) x.len
short_within c cs None x e = cc
short_within c cs (Some m) x e = let n = same_len (marked 1 m) x e in record { some = omega (arith, n); within = omega (arith, n) }

mark_in : (c : ℕ) (cs : List ℕ) (x : Candidate) → mark (c ∷ cs) ≡ Some x → Within (c ∷ cs) x.len
unfolding mark
mark_in c cs x e = longer_from (λ y. Within (c ∷ cs) y.len) _ _ x (long_within c cs x) (short_within c cs (short_mark c) x) e

longest_in : (c : ℕ) (cs : List ℕ) (x : Candidate) → longest (c ∷ cs) ≡ Some x → Within (c ∷ cs) x.len
unfolding longest
longest_in c cs x e =
    let s = c ∷ cs in
    let P : Candidate → Type 0 = λ y. Within s y.len in
    longer_from P (identifier s) _ x (identifier_within c cs x)
    (longer_from P (decimal s) _ x (decimal_in c cs x)
    (longer_from P (hexadecimal s) _ x (hexadecimal_in c cs x)
    (longer_from P (verilog s) _ x (verilog_in s x)
    (longer_from P (string s) (mark s) x (string_in c cs x) (mark_in c cs x))))) e

-- ---- Pieces.

found : Piece → Result Piece WordFault
found p = Ok p

len_ok : Result Piece WordFault → ℕ
len_ok (Ok p) = piece_len p
len_ok (Err f) = 0

same_piece : (p q : Piece) → found p ≡ Ok q → piece_len p ≡ piece_len q
unfolding len_ok found
same_piece p q e = ap len_ok e

judged_len : (n : ℕ) (k : Result TokenKind WordFault) (p : Piece) → judged n k ≡ Ok p → n ≡ piece_len p
unfolding found
judged_len n (Ok kind) p e = same_piece (Word kind n) p e
judged_len n (Err f) p e = cc

word_within : (s : List ℕ) (first : ℕ) (o : Option Candidate) (p : Piece) → ((x : Candidate) → o ≡ Some x → Within s x.len) → word_piece first o ≡ Ok p → Within s (piece_len p)
word_within s first (Some x) p f e = subst (Within s) (judged_len x.len x.kind p e) (f x refl)
word_within s first None p f e = absurd (go (nat_eq first 34) e)
  where
    go : (t : Bool) → cond t (Err UnendedString) (Err BadCharacter) ≡ Ok p → ⊥
    go true e = cc
    go false e = cc

no_second : (x : Bool) → (x && false) ≡ true → ⊥
no_second true e = cc
no_second false e = cc

line_within : (c : ℕ) (cs : List ℕ) → (nat_eq c 47 && nat_eq (byte cs 0) 47) ≡ true → Within (c ∷ cs) (2 + run is_in_line 2 (c ∷ cs))
line_within c [] e = absurd (no_second (nat_eq c 47) e)
line_within c (d ∷ ds) e = record { some = omega arith; within = omega (arith, prefix_len-le-length is_in_line ds) }

comment_within : (cs : List ℕ) (n : ℕ) → comment_end cs ≡ Some n → n + 2 ≤ length cs
comment_within [] n e = cc
comment_within (c ∷ []) n e = absurd (at_end (nat_eq c 42) e)
  where
    at_end : (b : Bool) → cond (b && false) (Some 0) (option_map (λ k. k + 1) None) ≡ Some n → ⊥
    at_end true e = cc
    at_end false e = cc
comment_within (c ∷ d ∷ ds) n e = at_end (nat_eq c 42 && nat_eq d 47) (comment_end (d ∷ ds)) n (λ m f. comment_within (d ∷ ds) m f) e
  where
    at_end : (b : Bool) (o : Option ℕ) (n : ℕ) → ((m : ℕ) → o ≡ Some m → m + 2 ≤ length (d ∷ ds)) → cond b (Some 0) (option_map (λ k. k + 1) o) ≡ Some n → n + 2 ≤ length (c ∷ d ∷ ds)
    at_end true o n f e = let z : 0 ≡ n = cc in omega (arith, z)
    at_end false o n f e = let m = mapped o n e in omega (arith, m.2, f m.0 m.1)

block_within : (c : ℕ) (cs : List ℕ) (p : Piece) → (nat_eq c 47 && nat_eq (byte cs 0) 42) ≡ true → block_comment (c ∷ cs) ≡ Ok p → Within (c ∷ cs) (piece_len p)
unfolding found
block_within c [] p e h = absurd (no_second (nat_eq c 47) e)
block_within c (d ∷ ds) p e h = go (comment_end ds) refl h
  where
    go : (o : Option ℕ) → comment_end ds ≡ o → enclosed o ≡ Ok p → Within (c ∷ d ∷ ds) (piece_len p)
    go None q f = cc
    go (Some n) q f =
        let len = same_piece (Gap (n + 4)) p f in
        let low = comment_within ds n q in
        record { some = omega (arith, len); within = omega (arith, len, low) }

pub piece_within : (c : ℕ) (cs : List ℕ) (p : Piece) → piece (c ∷ cs) ≡ Ok p → Within (c ∷ cs) (piece_len p)
unfolding piece found
piece_within c cs p e =
    let s = c ∷ cs in
    let P = Within s (piece_len p) in
    chosen (is_blank c) _ _ (Ok p) P
    (λ b f. let len = same_piece (Gap (run is_blank 0 s)) p f in
    let some : 1 ≤ run is_blank 0 s = rw b (omega arith) in
    record { some = omega (arith, len, some); within = omega (arith, len, prefix_len-le-length is_blank s) })
    (λ b. chosen (nat_eq c 47 && nat_eq (byte cs 0) 47) _ _ (Ok p) P
    (λ l f. subst (Within s) (same_piece (Gap (2 + run is_in_line 2 s)) p f) (line_within c cs l))
    (λ l. chosen (nat_eq c 47 && nat_eq (byte cs 0) 42) _ _ (Ok p) P (λ m f. block_within c cs p m f)
    (λ m f. word_within s c (longest s) p (λ x h. longest_in c cs x h) f))) e
