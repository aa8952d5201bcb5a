-- What is noted at the end of a way of numbers.
use Rattle.std.proofs.Common.{◌≡◌, ℕ, ◌<◌, ◌≤◌, length, true, false, cond, List, ◌∷◌, ap, sym, ◌∙◌, arith, nat_le}
use Rattle.std.proofs.lemmas.Bool.{le-leb}
use Rattle.rdl_tree.specs.Address.{holder_of, number_of}
use Rattle.rdl_tree.specs.Patch.{address_of}
use Rattle.rdl_tree.specs.declared.patch.Patch.{Patch}
use Rattle.rdl_tree.proofs.Steps.{first, others, path_split, path_end}
use Rattle.rdl_marks.specs.Marks.{Marks}
use Rattle.rdl_marks.specs.View.{Told, marks_of}
use Rattle.rdl_marks.specs.Noted.{changed_inside, at_item, noted_here, here, marks_at, noted}
use Rattle.rdl_marks.specs.Describes.{KeepsDescribing}
use Rattle.rdl_marks.proofs.Rounds.{told_of-marks_of}
use Rattle.rdl_marks.proofs.Described.{one_described}

pub noted_at_end : (p : Patch) (n : ℕ) (way : List ℕ) (m : Marks) (old new : Told) → length way < 1 → marks_of old ≡ m → new ≡ noted_here p n old → marks_of new ≡ marks_at way (here p n) m
noted_at_end p n way m old new h v e =
    ap marks_of (e ∙ ap (noted_here p n) (sym (told_of-marks_of old))) ∙ ap (here p n) v ∙ ap (λ w. marks_at w (here p n) m) (sym (path_end way h))

pub noted_deeper : (f : Marks → Marks) (way : List ℕ) (m : Marks) (old new : Told) → 1 ≤ length way → marks_of old ≡ m → new ≡ at_item (first way) (changed_inside (marks_at (others way) f)) old → marks_of new ≡ marks_at way f m
noted_deeper f way m old new h v e =
    ap marks_of (e ∙ ap (at_item (first way) (changed_inside (marks_at (others way) f))) (sym (told_of-marks_of old)))
    ∙ ap (marks_at (first way ∷ others way) f) v
    ∙ ap (λ w. marks_at w f m) (sym (path_split way h))

pub noted_whole : (back : Patch) (m new : Marks) (at way : List ℕ) (n : ℕ) → at ≡ address_of back → 0 < length at → way ≡ holder_of at → n ≡ number_of at → new ≡ marks_at way (here back n) m → new ≡ noted back m
noted_whole back m new at way n e l w k f =
    let some : nat_le 1 (length (address_of back)) ≡ true = le-leb 1 (length (address_of back)) (omega (arith, ap length e, l)) in
    f ∙ ap (λ j. marks_at way (here back j) m) k ∙ ap (λ q. marks_at q (here back (number_of at)) m) w
    ∙ ap (λ a. marks_at (holder_of a) (here back (number_of a)) m) e
    ∙ sym (ap (λ c. cond c (marks_at (holder_of (address_of back)) (here back (number_of (address_of back))) m) m) some)

no_length : (n : ℕ) → n ≡ 0 → nat_le 1 n ≡ false
no_length n e = ap (nat_le 1) e

pub noted_nowhere : (back : Patch) (m : Marks) (at : List ℕ) → at ≡ address_of back → length at ≡ 0 → m ≡ noted back m
noted_nowhere back m at e l =
    sym (ap (λ c. cond c (marks_at (holder_of (address_of back)) (here back (number_of (address_of back))) m) m) (no_length (length (address_of back)) (ap length (sym e) ∙ l)))

pub keeps : (back : Patch) (m new : Marks) → new ≡ noted back m → KeepsDescribing back m new
keeps back m new e = λ p old now f i d. rw e (one_described p back m old now f i d)
