-- Where a text may be cut: before and behind runs of bytes.
use Rattle.std.proofs.Common.{◌≡◌, ℕ, zero, suc, ◌<◌, true, false, List, length, refl, subst, arith, add-one, inl, inr}
use Rattle.std.proofs.lemmas.List.Sums.{prefix_len-le-length, prefix_len_passes, prefix_len_stops}
use Rattle.std.proofs.lemmas.Bool.{cases_lt}
use Rattle.std.proofs.lemmas.Bool.Decides.{nat_tests}
use Rattle.std.proofs.lemmas.Str.{IsCharBoundary-start, IsCharBoundary-end, IsCharBoundary-before_ascii, IsCharBoundary-after_ascii}
use Rattle.std.specs.List.{prefix_len}
use Rattle.std.specs.Prelude.{IsUtf8}
use Rattle.std.specs.Str.{IsCharBoundary}
use Rattle.rdl_script.specs.Words.{is_space, is_part}

space_ascii : (c : ℕ) → is_space c ≡ true → c < 128
space_ascii c h = grind (arith, nat_tests)

part_ascii : (c : ℕ) → is_part c ≡ false → c < 128
part_ascii c h = grind (arith, nat_tests)

after_run : (bs : List ℕ) (n : ℕ) → prefix_len is_space bs ≡ n → IsUtf8 bs → IsCharBoundary bs n
after_run bs zero e utf8 = IsCharBoundary-start bs utf8
after_run bs (suc k) e utf8 =
    subst (IsCharBoundary bs) (add-one k) (IsCharBoundary-after_ascii bs k utf8 (omega (arith, prefix_len-le-length is_space bs)) (space_ascii _ (prefix_len_passes is_space bs k 0 (omega arith))))

-- blanks end where a character does
pub behind_spaces : (bs : List ℕ) → IsUtf8 bs → IsCharBoundary bs (prefix_len is_space bs)
behind_spaces bs utf8 = after_run bs _ refl utf8

-- and so does a word
pub behind_part : (bs : List ℕ) → IsCharBoundary bs (prefix_len is_part bs)
behind_part bs =
    elim (cases_lt (prefix_len is_part bs) (length bs)) [
      | inl within ↦ IsCharBoundary-before_ascii bs _ within (part_ascii _ (prefix_len_stops is_part bs 0 within))
      | inr past ↦ subst (IsCharBoundary bs) (omega (arith, prefix_len-le-length is_part bs)) (IsCharBoundary-end bs)
    ]
