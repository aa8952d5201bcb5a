-- One byte of a string, in each of the two states.
use Rattle.std.proofs.Common.{◌≡◌, ℕ, ◌+◌, ◌<◌, true, false, List, length, drop, get_or, nat_eq, ap, ◌∙◌, sym, refl}
use Rattle.std.proofs.lemmas.Bool.{ne_eqb}
use Rattle.rdl_text.specs.Raw.{is_inside}
use Rattle.std.proofs.lemmas.List.{at_drop_more}
use Rattle.rdl_text.proofs.raw.is_inside.Goals as goal
use Rattle.rdl_text.proofs.raw.is_inside.Goals.{then-taken, else-taken+else-byte-eq34}

-- the byte at a place is taken by a backslash
taken : (i : ℕ) (s : List ℕ) → i < length s → is_inside false (drop (i + 1) s) ≡ is_inside true (drop i s)
taken i s h = sym (at_drop_more (is_inside true) s i 0 h)

-- it isn't, and is no quote
plain : (i : ℕ) (s : List ℕ) → i < length s → nat_eq (get_or s i 0) 34 ≡ false → is_inside (nat_eq (get_or s i 0) 92) (drop (i + 1) s) ≡ is_inside false (drop i s)
plain i s h e = sym (at_drop_more (is_inside false) s i 0 h ∙ rw e refl)

pub scan-preserved : goal.scan-preserved
scan-preserved c =
    let i = c.scan.byte-index in
    let s = c.args.bytes.now in
    elim c.if-taken.branch [
      | then-taken w ↦
          ap (λ b. is_inside b (drop (i + 1) s)) w.taken-is ∙ taken i s c.scan-test.true ∙ ap (λ b. is_inside b (drop i s)) (sym w.if-taken.true) ∙ c.scan.invariant
      | else-taken+else-byte-eq34 w ↦
          ap (λ b. is_inside b (drop (i + 1) s)) w.taken-is ∙ plain i s c.scan-test.true (ne_eqb _ _ w.if-byte-eq34.false)
          ∙ ap (λ b. is_inside b (drop i s)) (sym w.if-taken.false) ∙ c.scan.invariant
    ]
