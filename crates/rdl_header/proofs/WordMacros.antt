-- The macros of a number's words, one after the other, and of rows whose fields stand in a register, with the marks of rows.
use Rattle.std.proofs.Common.{◌≡◌, ℕ, suc, ◌+◌, ◌*◌, ◌/◌, ◌%◌, ◌^◌, ◌<◌, List, [], ◌∷◌, ◌++◌, length, get_or, take, refl, ap, sym, ◌∙◌, append_assoc, append-nil, arith}
use Rattle.std.proofs.lemmas.List.{take_more}
use Rattle.std.proofs.lemmas.List.Concat.{flat_map-append}
use Rattle.std.proofs.lemmas.Nat.{pow-add}
use Rattle.std.proofs.Math.Nat.{div-div-eq-div-mul}
use Rattle.std.specs.Fmt.{decimal}
use Rattle.rdl_elab.specs.declared.row.Row.{Row}
use Rattle.rdl_header.specs.HeaderText.{hexadecimal_macro, word_macro, word_macros, macros_of, macros_below, register_behind}
use Rattle.rdl_header.specs.Lines.{Lines, added}
use Rattle.rdl_header.specs.Marks.{row_marks, path_marks}
use Rattle.rdl_header.proofs.AddedLines.{added_more}

-- ---- Words.

-- what is left of a number behind one word more
pub word-behind : (n i : ℕ) → n / 2 ^ (32 * i) / 2 ^ 32 ≡ n / 2 ^ (32 * (i + 1))
word-behind n i =
    let power : 2 ^ (32 * i + 32) ≡ 2 ^ (32 * i) * 2 ^ 32 = pow-add 2 (32 * i) 32 in
    let count : 32 * i + 32 ≡ 32 * (i + 1) = omega arith in
    div-div-eq-div-mul n (2 ^ (32 * i)) (2 ^ 32) ∙ ap (λ d. n / d) (sym power ∙ ap (λ k. 2 ^ k) count)

-- the macro of the next word, from what is left of the number
next_word : (path ending name : List ℕ) (n i rest : ℕ) → name ≡ ending ++ decimal i → rest ≡ n / 2 ^ (32 * i) → hexadecimal_macro path name (rest % 2 ^ 32) ∷ [] ≡ word_macro path ending n i ∷ []
next_word path ending name n i rest e f = ap (λ x. hexadecimal_macro path x (rest % 2 ^ 32) ∷ []) e ∙ ap (λ r. hexadecimal_macro path (ending ++ decimal i) (r % 2 ^ 32) ∷ []) f

-- one word more
pub word_added : (path ending name : List ℕ) (n i rest : ℕ) (before now new : Lines) → name ≡ ending ++ decimal i → rest ≡ n / 2 ^ (32 * i)
    → now ≡ added before (word_macros path ending n i) → new ≡ added now (hexadecimal_macro path name (rest % 2 ^ 32) ∷ []) → new ≡ added before (word_macros path ending n (i + 1))
word_added path ending name n i rest before now new e f so_far more =
    let one : suc i ≡ i + 1 = omega arith in
    more
    ∙ ap (λ lines. added lines (hexadecimal_macro path name (rest % 2 ^ 32) ∷ [])) so_far
    ∙ ap (λ ms. added (added before (word_macros path ending n i)) ms) (next_word path ending name n i rest e f)
    ∙ added_more before (word_macros path ending n i) (word_macro path ending n i ∷ [])
    ∙ ap (λ k. added before (word_macros path ending n k)) one

-- ---- Rows.

-- the register in which the fields behind these rows stand
abbrev pub register_after : ℕ → List Row → ℕ
register_after register [] = register
register_after register (row ∷ rows) = register_after (register_behind register row.location) rows

below-append : (register : ℕ) (xs ys : List Row) → macros_below register (xs ++ ys) ≡ macros_below register xs ++ macros_below (register_after register xs) ys
below-append register [] ys = refl
below-append register (x ∷ xs) ys =
    ap (λ ms. macros_of register x ++ ms) (below-append (register_behind register x.location) xs ys)
    ∙ sym (append_assoc (macros_of register x) (macros_below (register_behind register x.location) xs) (macros_below (register_after (register_behind register x.location) xs) ys))

after-append : (register : ℕ) (xs : List Row) (y : Row) → register_after register (xs ++ y ∷ []) ≡ register_behind (register_after register xs) y.location
after-append register [] y = refl
after-append register (x ∷ xs) y = after-append (register_behind register x.location) xs y

module _ (i : ℕ) (rows : List Row) (row : Row) (register : ℕ) (h : i < length rows) (item : row ≡ get_or rows i row) (inside : register ≡ register_after 0 (take i rows)) where
  one-more : take (i + 1) rows ≡ take i rows ++ row ∷ []
  one-more = take_more rows i row h ∙ ap (λ x. take i rows ++ x ∷ []) (sym item)

  pub row_behind : register_behind register row.location ≡ register_after 0 (take (i + 1) rows)
  row_behind = ap (λ r. register_behind r row.location) inside ∙ sym (after-append 0 (take i rows) row) ∙ ap (register_after 0) (sym one-more)

  taken : macros_below 0 (take (i + 1) rows) ≡ macros_below 0 (take i rows) ++ macros_of register row
  taken =
      ap (macros_below 0) one-more ∙ below-append 0 (take i rows) (row ∷ [])
      ∙ ap (λ r. macros_below 0 (take i rows) ++ macros_below r (row ∷ [])) (sym inside)
      ∙ ap (λ ms. macros_below 0 (take i rows) ++ ms) (append-nil (macros_of register row))

  pub row_added : (before now new : Lines) → now ≡ added before (macros_below 0 (take i rows)) → new ≡ added now (macros_of register row) → new ≡ added before (macros_below 0 (take (i + 1) rows))
  row_added before now new so_far more =
      more
      ∙ ap (λ lines. added lines (macros_of register row)) so_far
      ∙ added_more before (macros_below 0 (take i rows)) (macros_of register row)
      ∙ ap (added before) (sym taken)

-- the marks of one row more
pub row_marked : (i : ℕ) (rows : List Row) (row : Row) → i < length rows → row ≡ get_or rows i row → (before now new : List ℕ) → now ≡ before ++ path_marks (take i rows) → new ≡ now ++ row_marks row → new ≡ before ++ path_marks (take (i + 1) rows)
row_marked i rows row h item before now new so_far more =
    let one-more : take (i + 1) rows ≡ take i rows ++ row ∷ [] = take_more rows i row h ∙ ap (λ x. take i rows ++ x ∷ []) (sym item) in
    let marks : path_marks (take i rows) ++ row_marks row ≡ path_marks (take (i + 1) rows) =
    ap (λ ms. path_marks (take i rows) ++ ms) (sym (append-nil (row_marks row))) ∙ sym (flat_map-append row_marks (take i rows) (row ∷ [])) ∙ ap path_marks (sym one-more) in
    more
    ∙ ap (λ ms. ms ++ row_marks row) so_far
    ∙ append_assoc before (path_marks (take i rows)) (row_marks row)
    ∙ ap (λ ms. before ++ ms) marks
