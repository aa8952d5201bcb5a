-- The lines of a session: what is written is read, and what is read is written.
use Rattle.std.proofs.Common.{◌≡◌, ℕ, zero, suc, ◌≤◌, Bool, true, false, not, cond, nat_eq, List, [], ◌∷◌, ◌++◌, length, take, drop, Option, None, Some, refl, ap, sym, ◌∙◌, subst, inl, inr, append_assoc, arith}
use Rattle.std.proofs.lemmas.Bool.Decides.{nat_tests}
use Rattle.std.proofs.lemmas.List.{length-append, take-append-drop}
use Rattle.std.proofs.lemmas.Grind.{common_steps}
use Rattle.std.proofs.lemmas.Slice.Eq.{bytes_eq-Decides}
use Rattle.std.specs.Fmt.{decimal}
use Rattle.std.specs.List.{list_all, AllByRecursion}
use Rattle.std.specs.Prelude.{◌&&◌, nat_le, if◌then◌else◌, option_map, ◌⊎◌, codes, bytes_eq, flat_map}
use Rattle.rdl_tree.specs.AddressText.{address_text}
use Rattle.rdl_session.specs.Text.{PatchLines, SessionLines, insert, delete, shift, shell, value, target, type, name, line_feed, count_line, counted, act, patch_text, step_text, steps_text, session_text, with_source}
use Rattle.rdl_session.proofs.Form.{IsHeld, Lacks, IsPlace, IsFormedPatch, AreFormed, AreFormedSteps, IsFormed}
use Rattle.rdl_session.specs.Reading.{◌>>=◌, Cut, PatchCut, cut_at, taken, number_in, address_in, count_in, counted_in, exchange_in, act_in, patch_in, many, step_in, steps_in, head_in, lines_in, begins_session, source_in}
use Rattle.rdl_session.proofs.Cuts.{bound, mapped, guarded, cut-again, cut-found, lacks-append, number-found, number-again, decimal-lacks, address-again, address-found, address-lacks}

-- ---- Words.

not-true : (b : Bool) → not b ≡ true → b ≡ false
not-true true h = absurd cc
not-true false h = refl

both : (a b : Bool) → (a && b) ≡ true → (a ≡ true) × (b ≡ true)
both true b h = (refl, h)
both false b h = absurd (cc)

lacks-by : (c : ℕ) (xs : List ℕ) → list_all (λ x. not (nat_eq x c)) xs ≡ true → Lacks c xs
lacks-by c [] h = tt
lacks-by c (x ∷ xs) h =
    let p = both (not (nat_eq x c)) (list_all (λ y. not (nat_eq y c)) xs) h in
    (not-true (nat_eq x c) p.0, lacks-by c xs p.1)

same-bytes : (xs ys : List ℕ) → bytes_eq xs ys ≡ true → xs ≡ ys
same-bytes xs ys h = (bytes_eq-Decides xs ys).0 h

equal-bytes : (xs : List ℕ) → bytes_eq xs xs ≡ true
equal-bytes xs = (bytes_eq-Decides xs xs).1 refl

-- ---- So many bytes.

take_front : (xs ys : List ℕ) → take (length xs) (xs ++ ys) ≡ xs
take_front [] ys = refl
take_front (x ∷ xs) ys = ap (λ zs. x ∷ zs) (take_front xs ys)

drop_front : (xs ys : List ℕ) → drop (length xs) (xs ++ ys) ≡ ys
drop_front [] ys = refl
drop_front (x ∷ xs) ys = drop_front xs ys

le-true : (m n : ℕ) → m ≤ n → nat_le m n ≡ true
le-true m n h = grind (arith, nat_tests)

le-from : (m n : ℕ) → nat_le m n ≡ true → m ≤ n
le-from m n h = grind (arith, nat_tests)

pub taken-again : (xs rest : List ℕ) → taken (length xs) (xs ++ rest) ≡ Some (xs, rest)
unfolding taken
taken-again xs rest =
    let fits : nat_le (length xs) (length (xs ++ rest)) ≡ true = le-true (length xs) (length (xs ++ rest)) (omega (arith, length-append xs rest)) in
    rw (fits, take_front xs rest, drop_front xs rest) refl

pub record IsTaken (n : ℕ) (bytes front back : List ℕ) : Type 0 where
  pub parts : bytes ≡ front ++ back
  pub len : length front ≡ n

pub taken-found : (n : ℕ) (bytes : List ℕ) (p : Cut) → taken n bytes ≡ Some p → IsTaken n bytes p.0 p.1
unfolding taken
taken-found n bytes p e =
    let g = guarded (nat_le n (length bytes)) (Some (take n bytes, drop n bytes)) p e in
    let same : (take n bytes, drop n bytes) ≡ p = cc in
    let fits = le-from n (length bytes) g.0 in
    subst (λ (q : Cut). IsTaken n bytes q.0 q.1) same (record { parts = sym (take-append-drop n bytes); len = grind (arith, common_steps) })

-- ---- Lines of a word and a count.

line-shape : (word operand rest : List ℕ) → (word ++ codes " " ++ operand ++ line_feed) ++ rest ≡ (word ++ 32 ∷ operand) ++ 10 ∷ rest
line-shape word operand rest =
    append_assoc (word ++ codes " " ++ operand) line_feed rest ∙ ap (λ xs. xs ++ 10 ∷ rest) (append_assoc word (codes " ") operand)

pub count-again : (word : List ℕ) (n : ℕ) (rest : List ℕ) → Lacks 10 word → Lacks 32 word → IsHeld n → count_in word (count_line word n ++ rest) ≡ Some (n, rest)
unfolding count_in
count-again word n rest feed blank held =
    let whole : Lacks 10 (word ++ 32 ∷ decimal n) = lacks-append 10 word (32 ∷ decimal n) feed (refl, decimal-lacks 10 n (omega arith) held) in
    rw (line-shape word (decimal n) rest, cut-again 10 (word ++ 32 ∷ decimal n) rest whole, cut-again 32 word (decimal n) blank, equal-bytes word, number-again n held) refl

pub record IsCountText (word text : List ℕ) (p : ℕ × List ℕ) : Type 0 where
  pub text_is : text ≡ count_line word p.0 ++ p.1
  pub held : IsHeld p.0

pub count-found : (word text : List ℕ) (p : ℕ × List ℕ) → count_in word text ≡ Some p → IsCountText word text p
unfolding count_in
count-found word text p e =
    let b = bound (cut_at 10 text) (λ line. cut_at 32 line.0 >>= λ parts. if bytes_eq parts.0 word then option_map (λ n. (n, line.1)) (number_in parts.1) else None) p e in
    let line = b.0 in
    let d = bound (cut_at 32 line.0) (λ parts. if bytes_eq parts.0 word then option_map (λ n. (n, line.1)) (number_in parts.1) else None) p b.2 in
    let parts = d.0 in
    let g = guarded (bytes_eq parts.0 word) (option_map (λ n. (n, line.1)) (number_in parts.1)) p d.2 in
    let m = mapped (λ (n : ℕ). (n, line.1)) (number_in parts.1) p g.1 in
    let k = cut-found 10 text line b.1 in
    let j = cut-found 32 line.0 parts d.1 in
    let f = number-found parts.1 m.0 m.1 in
    subst (IsCountText word text) m.2 (record {
      text_is =
          k.parts ∙ ap (λ xs. xs ++ 10 ∷ line.1) (j.parts ∙ ap (λ xs. xs ++ 32 ∷ parts.1) (same-bytes parts.0 word g.0) ∙ ap (λ ys. word ++ 32 ∷ ys) f.0)
          ∙ sym (line-shape word (decimal m.0) line.1);
      held = f.1;
    })

pub counted-again : (text rest : List ℕ) → IsHeld (length text) → counted_in (decimal (length text)) (text ++ rest) ≡ Some (text, rest)
unfolding counted_in
counted-again text rest held = rw (number-again (length text) held, taken-again text rest) refl

pub record IsCounted (count rest : List ℕ) (p : Cut) : Type 0 where
  pub count_is : count ≡ decimal (length p.0)
  pub held : IsHeld (length p.0)
  pub parts : rest ≡ p.0 ++ p.1

pub counted-found : (count rest : List ℕ) (p : Cut) → counted_in count rest ≡ Some p → IsCounted count rest p
unfolding counted_in
counted-found count rest p e =
    let b = bound (number_in count) (λ n. taken n rest) p e in
    let f = number-found count b.0 b.1 in
    let t = taken-found b.0 rest p b.2 in
    record { count_is = f.0 ∙ ap decimal (sym t.len); held = subst IsHeld (sym t.len) f.1; parts = t.parts }

-- ---- Patches.

-- a line of a word, an address and one more
two-shape : (word at last rest : List ℕ) → (word ++ codes " " ++ at ++ codes " " ++ last ++ line_feed) ++ rest ≡ (word ++ 32 ∷ (at ++ 32 ∷ last)) ++ 10 ∷ rest
two-shape word at last rest =
    line-shape (word ++ codes " " ++ at) last rest
    ∙ ap (λ xs. xs ++ 10 ∷ rest) (ap (λ xs. xs ++ 32 ∷ last) (append_assoc word (codes " ") at) ∙ append_assoc word (32 ∷ at) (32 ∷ last))

text-shape : (word at text rest : List ℕ) → counted (word ++ codes " " ++ at) text ++ rest ≡ (word ++ 32 ∷ (at ++ 32 ∷ decimal (length text))) ++ 10 ∷ (text ++ rest)
unfolding counted
text-shape word at text rest =
    append_assoc (count_line (word ++ codes " " ++ at) (length text)) text rest ∙ two-shape word at (decimal (length text)) (text ++ rest)

line-reads : (word operands rest : List ℕ) → Lacks 10 word → Lacks 32 word → Lacks 10 operands → patch_in ((word ++ 32 ∷ operands) ++ 10 ∷ rest) ≡ act_in word operands rest
unfolding patch_in
line-reads word operands rest feed blank whole =
    rw (cut-again 10 (word ++ 32 ∷ operands) rest (lacks-append 10 word (32 ∷ operands) feed (refl, whole)), cut-again 32 word operands blank) refl

act-reads : (word at : List ℕ) (last rest : List ℕ) → bytes_eq word (codes "delete") ≡ false → IsPlace at → act_in word (address_text at ++ 32 ∷ last) rest ≡ exchange_in word at last rest
unfolding act_in
act-reads word at last rest other formed =
    rw (other, cut-again 32 (address_text at) last (address-lacks 32 at (omega arith) formed.held), address-again 17 at formed) refl

two-reads : (word at last rest : List ℕ) → list_all (λ x. not (nat_eq x 10)) word ≡ true → list_all (λ x. not (nat_eq x 32)) word ≡ true → bytes_eq word (codes "delete") ≡ false → IsPlace at → Lacks 10 last
    → patch_in ((word ++ 32 ∷ (address_text at ++ 32 ∷ last)) ++ 10 ∷ rest) ≡ exchange_in word at last rest
two-reads word at last rest feed blank other formed whole =
    line-reads word (address_text at ++ 32 ∷ last) rest (lacks-by 10 word feed) (lacks-by 32 word blank)
    (lacks-append 10 (address_text at) (32 ∷ last) (address-lacks 10 at (omega arith) formed.held) (refl, whole))
    ∙ act-reads word at last rest other formed

text-reads : (word at text rest : List ℕ) → list_all (λ x. not (nat_eq x 10)) word ≡ true → list_all (λ x. not (nat_eq x 32)) word ≡ true → bytes_eq word (codes "delete") ≡ false → IsPlace at → IsHeld (length text)
    → patch_in (counted (act word at) text ++ rest) ≡ exchange_in word at (decimal (length text)) (text ++ rest)
text-reads word at text rest feed blank other formed held =
    ap patch_in (text-shape word (address_text at) text rest) ∙ two-reads word at (decimal (length text)) (text ++ rest) feed blank other formed (decimal-lacks 10 (length text) (omega arith) held)

pub patch-again : (p : PatchLines) (rest : List ℕ) → IsFormedPatch p → patch_in (patch_text p ++ rest) ≡ Some (p, rest)
unfolding patch_text exchange_in act_in
patch-again (insert at text) rest h = text-reads (codes "insert") at text rest refl refl refl h.0 h.1 ∙ ap (option_map (λ p. (insert at p.0, p.1))) (counted-again text rest h.1)
patch-again (shell at text) rest h = text-reads (codes "shell") at text rest refl refl refl h.0 h.1 ∙ ap (option_map (λ p. (shell at p.0, p.1))) (counted-again text rest h.1)
patch-again (value at text) rest h = text-reads (codes "value") at text rest refl refl refl h.0 h.1 ∙ ap (option_map (λ p. (value at p.0, p.1))) (counted-again text rest h.1)
patch-again (target at text) rest h = text-reads (codes "target") at text rest refl refl refl h.0 h.1 ∙ ap (option_map (λ p. (target at p.0, p.1))) (counted-again text rest h.1)
patch-again (shift at to) rest h =
    ap patch_in (two-shape (codes "shift") (address_text at) (decimal to) rest)
    ∙ two-reads (codes "shift") at (decimal to) rest refl refl refl h.0 (decimal-lacks 10 to (omega arith) h.1)
    ∙ ap (option_map (λ n. (shift at n, rest))) (number-again to h.1)
patch-again (type at new) rest h = ap patch_in (two-shape (codes "type") (address_text at) new rest) ∙ two-reads (codes "type") at new rest refl refl refl h.0 h.1
patch-again (name at new) rest h = ap patch_in (two-shape (codes "name") (address_text at) new rest) ∙ two-reads (codes "name") at new rest refl refl refl h.0 h.1
patch-again (delete at) rest h =
    ap patch_in (line-shape (codes "delete") (address_text at) rest)
    ∙ line-reads (codes "delete") (address_text at) rest (lacks-by 10 (codes "delete") refl) (lacks-by 32 (codes "delete") refl) (address-lacks 10 at (omega arith) h.held)
    ∙ ap (option_map (λ a. (delete a, rest))) (address-again 17 at h)

-- ---- Lists of them.

pub many-again : {A : Type 0} (one : List ℕ → Option (A × List ℕ)) (show : A → List ℕ) (Formed : A → Type 0) → ((x : A) (rest : List ℕ) → Formed x → one (show x ++ rest) ≡ Some (x, rest))
    → (xs : List A) (rest : List ℕ) → AllByRecursion Formed xs → many one (length xs) (flat_map show xs ++ rest) ≡ Some (xs, rest)
many-again one show Formed again [] rest h = refl
many-again one show Formed again (x ∷ xs) rest h =
    let more = many-again one show Formed again xs rest h.1 in
    rw (append_assoc (show x) (flat_map show xs) rest, again x (flat_map show xs ++ rest) h.0, more) refl

pub record IsMany {A : Type 0} (show : A → List ℕ) (Formed : A → Type 0) (n : ℕ) (text : List ℕ) (q : List A × List ℕ) : Type 0 where
  pub text_is : text ≡ flat_map show q.0 ++ q.1
  pub len : length q.0 ≡ n
  pub each : AllByRecursion Formed q.0

pub record IsOne {A : Type 0} (show : A → List ℕ) (Formed : A → Type 0) (text : List ℕ) (q : A × List ℕ) : Type 0 where
  pub text_is : text ≡ show q.0 ++ q.1
  pub formed : Formed q.0

pub many-found : {A : Type 0} (one : List ℕ → Option (A × List ℕ)) (show : A → List ℕ) (Formed : A → Type 0) → ((text : List ℕ) (q : A × List ℕ) → one text ≡ Some q → IsOne show Formed text q)
    → (n : ℕ) (text : List ℕ) (q : List A × List ℕ) → many one n text ≡ Some q → IsMany show Formed n text q
many-found {A} one show Formed found zero text q e =
    let same : ([], text) ≡ q = cc in
    subst (IsMany show Formed zero text) same (record { text_is = refl; len = refl; each = tt })
many-found {A} one show Formed found (suc n) text q e =
    let b = bound (one text) (λ p. option_map (λ r. (p.0 ∷ r.0, r.1)) (many one n p.1)) q e in
    let m = mapped (λ (r : List A × List ℕ). (b.0.0 ∷ r.0, r.1)) (many one n b.0.1) q b.2 in
    let f = found text b.0 b.1 in
    let r = many-found one show Formed found n b.0.1 m.0 m.1 in
    subst (IsMany show Formed (suc n) text) m.2 (record {
      text_is = f.text_is ∙ ap (λ ys. show b.0.0 ++ ys) r.text_is ∙ sym (append_assoc (show b.0.0) (flat_map show m.0.0) m.0.1);
      len = ap suc r.len;
      each = (f.formed, r.each);
    })

-- ---- Patches that are read.

picked : {A : Type 0} (b : Bool) (x o : Option A) (y : A) → cond b x o ≡ Some y → ((b ≡ true) × (x ≡ Some y)) ⊎ (o ≡ Some y)
picked true x o y e = inl (refl, e)
picked false x o y e = inr e

abbrev IsPatchText : List ℕ → PatchCut → Type 0
IsPatchText text q = IsOne patch_text IsFormedPatch text q

-- the line of a word, an address and one more, and what is behind it
abbrev two_text : (word at last rest : List ℕ) → List ℕ
two_text word at last rest = (word ++ 32 ∷ (address_text at ++ 32 ∷ last)) ++ 10 ∷ rest

text-found : (make : List ℕ → List ℕ → PatchLines) (named : List ℕ) → ((at text : List ℕ) → patch_text (make at text) ≡ counted (act named at) text) → ((at text : List ℕ) → IsPlace at → IsHeld (length text) → IsFormedPatch (make at text))
    → (word at last rest : List ℕ) (q : PatchCut) → word ≡ named → IsPlace at → option_map (λ p. (make at p.0, p.1)) (counted_in last rest) ≡ Some q → IsPatchText (two_text word at last rest) q
text-found make named written formed word at last rest q w h e =
    let m = mapped (λ (p : Cut). (make at p.0, p.1)) (counted_in last rest) q e in
    let k = counted-found last rest m.0 m.1 in
    subst (IsPatchText (two_text word at last rest)) m.2 (record {
      text_is =
          ap (λ v. two_text v at last rest) w ∙ ap (λ l. two_text named at l rest) k.count_is ∙ ap (λ r. two_text named at (decimal (length m.0.0)) r) k.parts
          ∙ sym (text-shape named (address_text at) m.0.0 m.0.1) ∙ ap (λ t. t ++ m.0.1) (sym (written at m.0.0));
      formed = formed at m.0.0 h k.held;
    })

shift-found : (word at last rest : List ℕ) (q : PatchCut) → word ≡ codes "shift" → IsPlace at → option_map (λ n. (shift at n, rest)) (number_in last) ≡ Some q → IsPatchText (two_text word at last rest) q
unfolding patch_text
shift-found word at last rest q w h e =
    let m = mapped (λ (n : ℕ). (shift at n, rest)) (number_in last) q e in
    let f = number-found last m.0 m.1 in
    subst (IsPatchText (two_text word at last rest)) m.2 (record {
      text_is = ap (λ v. two_text v at last rest) w ∙ ap (λ l. two_text (codes "shift") at l rest) f.0 ∙ sym (two-shape (codes "shift") (address_text at) (decimal m.0) rest);
      formed = (h, f.1);
    })

type-found : (word at last rest : List ℕ) (q : PatchCut) → word ≡ codes "type" → IsPlace at → Lacks 10 last → Some (type at last, rest) ≡ Some q → IsPatchText (two_text word at last rest) q
unfolding patch_text
type-found word at last rest q w h l e =
    let same : (type at last, rest) ≡ q = cc in
    subst (IsPatchText (two_text word at last rest)) same (record { text_is = ap (λ v. two_text v at last rest) w ∙ sym (two-shape (codes "type") (address_text at) last rest); formed = (h, l) })

name-found : (word at last rest : List ℕ) (q : PatchCut) → word ≡ codes "name" → IsPlace at → Lacks 10 last → Some (name at last, rest) ≡ Some q → IsPatchText (two_text word at last rest) q
unfolding patch_text
name-found word at last rest q w h l e =
    let same : (name at last, rest) ≡ q = cc in
    subst (IsPatchText (two_text word at last rest)) same (record { text_is = ap (λ v. two_text v at last rest) w ∙ sym (two-shape (codes "name") (address_text at) last rest); formed = (h, l) })

insert-text : (at text : List ℕ) → patch_text (insert at text) ≡ counted (act (codes "insert") at) text
unfolding patch_text
insert-text at text = refl

shell-text : (at text : List ℕ) → patch_text (shell at text) ≡ counted (act (codes "shell") at) text
unfolding patch_text
shell-text at text = refl

value-text : (at text : List ℕ) → patch_text (value at text) ≡ counted (act (codes "value") at) text
unfolding patch_text
value-text at text = refl

target-text : (at text : List ℕ) → patch_text (target at text) ≡ counted (act (codes "target") at) text
unfolding patch_text
target-text at text = refl

exchange-found : (word at last rest : List ℕ) (q : PatchCut) → IsPlace at → Lacks 10 last → exchange_in word at last rest ≡ Some q → IsPatchText (two_text word at last rest) q
unfolding exchange_in
exchange-found word at last rest q h l e =
    elim (picked (bytes_eq word (codes "insert")) (option_map (λ p. (insert at p.0, p.1)) (counted_in last rest)) _ q e) [
      | inl a ↦ text-found insert (codes "insert") insert-text (λ x t y z. (y, z)) word at last rest q (same-bytes word (codes "insert") a.0) h a.1
      | inr e1 ↦ elim (picked (bytes_eq word (codes "shift")) (option_map (λ n. (shift at n, rest)) (number_in last)) _ q e1) [
        | inl a ↦ shift-found word at last rest q (same-bytes word (codes "shift") a.0) h a.1
        | inr e2 ↦ elim (picked (bytes_eq word (codes "shell")) (option_map (λ p. (shell at p.0, p.1)) (counted_in last rest)) _ q e2) [
          | inl a ↦ text-found shell (codes "shell") shell-text (λ x t y z. (y, z)) word at last rest q (same-bytes word (codes "shell") a.0) h a.1
          | inr e3 ↦ elim (picked (bytes_eq word (codes "value")) (option_map (λ p. (value at p.0, p.1)) (counted_in last rest)) _ q e3) [
            | inl a ↦ text-found value (codes "value") value-text (λ x t y z. (y, z)) word at last rest q (same-bytes word (codes "value") a.0) h a.1
            | inr e4 ↦ elim (picked (bytes_eq word (codes "target")) (option_map (λ p. (target at p.0, p.1)) (counted_in last rest)) _ q e4) [
              | inl a ↦ text-found target (codes "target") target-text (λ x t y z. (y, z)) word at last rest q (same-bytes word (codes "target") a.0) h a.1
              | inr e5 ↦ elim (picked (bytes_eq word (codes "type")) (Some (type at last, rest)) _ q e5) [
                | inl a ↦ type-found word at last rest q (same-bytes word (codes "type") a.0) h l a.1
                | inr e6 ↦
                    let g = guarded (bytes_eq word (codes "name")) (Some (name at last, rest)) q e6 in
                    name-found word at last rest q (same-bytes word (codes "name") g.0) h l g.1
              ]
            ]
          ]
        ]
      ]
    ]

lacks-back : (c : ℕ) (xs ys : List ℕ) → Lacks c (xs ++ ys) → Lacks c ys
lacks-back c [] ys h = h
lacks-back c (x ∷ xs) ys h = lacks-back c xs ys h.1

act-found : (word operands rest : List ℕ) (q : PatchCut) → Lacks 10 operands → act_in word operands rest ≡ Some q → IsPatchText ((word ++ 32 ∷ operands) ++ 10 ∷ rest) q
unfolding act_in patch_text
act-found word operands rest q l e =
    elim (picked (bytes_eq word (codes "delete")) (option_map (λ at. (delete at, rest)) (address_in 17 operands)) _ q e) [
      | inl a ↦
          let m = mapped (λ (at : List ℕ). (delete at, rest)) (address_in 17 operands) q a.1 in
          let f = address-found 17 operands m.0 m.1 in
          subst (IsPatchText ((word ++ 32 ∷ operands) ++ 10 ∷ rest)) m.2 (record {
            text_is =
                ap (λ v. (v ++ 32 ∷ operands) ++ 10 ∷ rest) (same-bytes word (codes "delete") a.0) ∙ ap (λ o. (codes "delete" ++ 32 ∷ o) ++ 10 ∷ rest) f.text_is
                ∙ sym (line-shape (codes "delete") (address_text m.0) rest);
            formed = f.formed;
          })
      | inr e1 ↦
          let b = bound (cut_at 32 operands) (λ parts. address_in 17 parts.0 >>= λ at. exchange_in word at parts.1 rest) q e1 in
          let d = bound (address_in 17 b.0.0) (λ at. exchange_in word at b.0.1 rest) q b.2 in
          let k = cut-found 32 operands b.0 b.1 in
          let f = address-found 17 b.0.0 d.0 d.1 in
          let whole : Lacks 10 b.0.1 = (lacks-back 10 b.0.0 (32 ∷ b.0.1) (subst (Lacks 10) k.parts l)).1 in
          let r = exchange-found word d.0 b.0.1 rest q f.formed whole d.2 in
          record { text_is = ap (λ o. (word ++ 32 ∷ o) ++ 10 ∷ rest) (k.parts ∙ ap (λ a. a ++ 32 ∷ b.0.1) f.text_is) ∙ r.text_is; formed = r.formed }
    ]

pub patch-found : (text : List ℕ) (q : PatchCut) → patch_in text ≡ Some q → IsOne patch_text IsFormedPatch text q
unfolding patch_in
patch-found text q e =
    let b = bound (cut_at 10 text) (λ line. cut_at 32 line.0 >>= λ parts. act_in parts.0 parts.1 line.1) q e in
    let d = bound (cut_at 32 b.0.0) (λ parts. act_in parts.0 parts.1 b.0.1) q b.2 in
    let k = cut-found 10 text b.0 b.1 in
    let j = cut-found 32 b.0.0 d.0 d.1 in
    let whole : Lacks 10 d.0.1 = (lacks-back 10 d.0.0 (32 ∷ d.0.1) (subst (Lacks 10) j.parts k.lacks)).1 in
    let r = act-found d.0.0 d.0.1 b.0.1 q whole d.2 in
    record { text_is = k.parts ∙ ap (λ l. l ++ 10 ∷ b.0.1) j.parts ∙ r.text_is; formed = r.formed }

-- ---- Steps.

-- a line of a word and a count, and so many texts
counts-again : {A : Type 0} (one : List ℕ → Option (A × List ℕ)) (show : A → List ℕ) (Formed : A → Type 0) → ((x : A) (rest : List ℕ) → Formed x → one (show x ++ rest) ≡ Some (x, rest))
    → (word : List ℕ) → Lacks 10 word → Lacks 32 word → (xs : List A) (rest : List ℕ) → AreFormed Formed xs
    → (count_in word ((count_line word (length xs) ++ flat_map show xs) ++ rest) >>= λ c. many one c.0 c.1) ≡ Some (xs, rest)
counts-again one show Formed again word feed blank xs rest h =
    rw (append_assoc (count_line word (length xs)) (flat_map show xs) rest, count-again word (length xs) (flat_map show xs ++ rest) feed blank h.count) (many-again one show Formed again xs rest h.each)

counts-found : {A : Type 0} (one : List ℕ → Option (A × List ℕ)) (show : A → List ℕ) (Formed : A → Type 0) → ((text : List ℕ) (q : A × List ℕ) → one text ≡ Some q → IsOne show Formed text q)
    → (word text : List ℕ) (q : List A × List ℕ) → (count_in word text >>= λ c. many one c.0 c.1) ≡ Some q → IsOne (λ xs. count_line word (length xs) ++ flat_map show xs) (AreFormed Formed) text q
counts-found one show Formed found word text q e =
    let b = bound (count_in word text) (λ c. many one c.0 c.1) q e in
    let k = count-found word text b.0 b.1 in
    let m = many-found one show Formed found b.0.0 b.0.1 q b.2 in
    record {
      text_is =
          k.text_is ∙ ap (λ n. count_line word n ++ b.0.1) (sym m.len) ∙ ap (λ t. count_line word (length q.0) ++ t) m.text_is
          ∙ sym (append_assoc (count_line word (length q.0)) (flat_map show q.0) q.1);
      formed = record { count = subst IsHeld (sym m.len) k.held; each = m.each };
    }

pub step-again : (patches : List PatchLines) (rest : List ℕ) → AreFormed IsFormedPatch patches → step_in (step_text patches ++ rest) ≡ Some (patches, rest)
unfolding step_in step_text
step-again patches rest h = counts-again patch_in patch_text IsFormedPatch patch-again (codes "back") (lacks-by 10 (codes "back") refl) (lacks-by 32 (codes "back") refl) patches rest h

pub step-found : (text : List ℕ) (q : List PatchLines × List ℕ) → step_in text ≡ Some q → IsOne step_text (AreFormed IsFormedPatch) text q
unfolding step_in step_text
step-found text q e = let r = counts-found patch_in patch_text IsFormedPatch patch-found (codes "back") text q e in record { text_is = r.text_is; formed = r.formed }

pub steps-again : (word : List ℕ) → Lacks 10 word → Lacks 32 word → (steps : List (List PatchLines)) (rest : List ℕ) → AreFormedSteps steps → steps_in word (steps_text word steps ++ rest) ≡ Some (steps, rest)
unfolding steps_in steps_text
steps-again word feed blank steps rest h = counts-again step_in step_text (AreFormed IsFormedPatch) step-again word feed blank steps rest h

pub steps-found : (word text : List ℕ) (q : List (List PatchLines) × List ℕ) → steps_in word text ≡ Some q → IsOne (steps_text word) AreFormedSteps text q
unfolding steps_in steps_text
steps-found word text q e = let r = counts-found step_in step_text (AreFormed IsFormedPatch) step-found word text q e in record { text_is = r.text_is; formed = r.formed }

-- ---- The whole text.

abbrev first_line : List ℕ
first_line = codes "regedit session 1"

pub head-again : (text rest : List ℕ) → IsHeld (length text) → head_in (first_line ++ 10 ∷ (counted (codes "map") text ++ rest)) ≡ Some (text, rest)
unfolding head_in counted
head-again text rest held =
    rw (
      cut-again 10 first_line (counted (codes "map") text ++ rest) (lacks-by 10 first_line refl),
      append_assoc (count_line (codes "map") (length text)) text rest,
      count-again (codes "map") (length text) (text ++ rest) (lacks-by 10 (codes "map") refl) (lacks-by 32 (codes "map") refl) held,
    ) (taken-again text rest)

-- the text of a session begins so
begins-session : (s : SessionLines) → begins_session (session_text s) ≡ true
unfolding session_text
begins-session s = refl

pub source-again : (source : List ℕ) (s : SessionLines) → IsHeld (length source) → source_in (with_source source (session_text s)) ≡ Some (source, session_text s)
unfolding source_in with_source counted
source-again source s held =
    let session = session_text s in
    rw (
      cut-again 10 (codes "regedit session 2") (counted (codes "source") source ++ session) (lacks-by 10 (codes "regedit session 2") refl),
      append_assoc (count_line (codes "source") (length source)) source session,
      count-again (codes "source") (length source) (source ++ session) (lacks-by 10 (codes "source") refl) (lacks-by 32 (codes "source") refl) held,
      taken-again source session,
      begins-session s,
    ) refl

pub record IsHead (text : List ℕ) (p : Cut) : Type 0 where
  pub text_is : text ≡ first_line ++ 10 ∷ (counted (codes "map") p.0 ++ p.1)
  pub held : IsHeld (length p.0)

pub head-found : (text : List ℕ) (p : Cut) → head_in text ≡ Some p → IsHead text p
unfolding head_in counted
head-found text p e =
    let b = bound (cut_at 10 text) (λ line. if bytes_eq line.0 first_line then (count_in (codes "map") line.1 >>= λ c. taken c.0 c.1) else None) p e in
    let g = guarded (bytes_eq b.0.0 first_line) (count_in (codes "map") b.0.1 >>= λ c. taken c.0 c.1) p b.2 in
    let d = bound (count_in (codes "map") b.0.1) (λ c. taken c.0 c.1) p g.1 in
    let k = cut-found 10 text b.0 b.1 in
    let n = count-found (codes "map") b.0.1 d.0 d.1 in
    let t = taken-found d.0.0 d.0.1 p d.2 in
    record {
      text_is =
          k.parts ∙ ap (λ l. l ++ 10 ∷ b.0.1) (same-bytes b.0.0 first_line g.0)
          ∙ ap (λ r. first_line ++ 10 ∷ r) (n.text_is ∙ ap (λ m. count_line (codes "map") m ++ d.0.1) (sym t.len) ∙ ap (λ r. count_line (codes "map") (length p.0) ++ r) t.parts ∙ sym (append_assoc (count_line (codes "map") (length p.0)) p.0 p.1));
      held = subst IsHeld (sym t.len) n.held;
    }

session-shape : (a b c d e : List ℕ) → a ++ line_feed ++ b ++ c ++ d ++ e ++ line_feed ≡ a ++ 10 ∷ (b ++ (c ++ (d ++ (e ++ line_feed))))
session-shape a b c d e =
    append_assoc (a ++ line_feed ++ b ++ c ++ d) e line_feed ∙ append_assoc (a ++ line_feed ++ b ++ c) d (e ++ line_feed)
    ∙ append_assoc (a ++ line_feed ++ b) c (d ++ (e ++ line_feed)) ∙ append_assoc (a ++ line_feed) b (c ++ (d ++ (e ++ line_feed)))
    ∙ append_assoc a line_feed (b ++ (c ++ (d ++ (e ++ line_feed))))

lines-by : (s : SessionLines) (t : List ℕ) → t ≡ codes "end\n" → IsFormed s → lines_in (first_line ++ 10 ∷ (counted (codes "map") s.map ++ (steps_text (codes "undo") s.undo ++ (steps_text (codes "redo") s.redo ++ t)))) ≡ Some s
unfolding lines_in
lines-by s t e h =
    rw (
      head-again s.map (steps_text (codes "undo") s.undo ++ (steps_text (codes "redo") s.redo ++ t)) h.map_len,
      steps-again (codes "undo") (lacks-by 10 (codes "undo") refl) (lacks-by 32 (codes "undo") refl) s.undo (steps_text (codes "redo") s.redo ++ t) h.undo,
      steps-again (codes "redo") (lacks-by 10 (codes "redo") refl) (lacks-by 32 (codes "redo") refl) s.redo t h.redo,
      e,
    ) refl

pub lines-again : (s : SessionLines) → IsFormed s → lines_in (session_text s) ≡ Some s
unfolding session_text
lines-again s h =
    ap lines_in (session-shape first_line (counted (codes "map") s.map) (steps_text (codes "undo") s.undo) (steps_text (codes "redo") s.redo) (codes "end"))
    ∙ lines-by s (codes "end" ++ line_feed) refl h

pub record IsLinesText (text : List ℕ) (s : SessionLines) : Type 0 where
  pub text_is : text ≡ session_text s
  pub formed : IsFormed s

pub lines-found : (text : List ℕ) (s : SessionLines) → lines_in text ≡ Some s → IsLinesText text s
unfolding lines_in session_text
lines-found text s e =
    let b = bound (head_in text) (λ map. steps_in (codes "undo") map.1 >>= λ undo. steps_in (codes "redo") undo.1 >>= λ redo.
    if bytes_eq redo.1 (codes "end\n") then Some (record { map = map.0; undo = undo.0; redo = redo.0 }) else None) s e in
    let d = bound (steps_in (codes "undo") b.0.1) (λ undo. steps_in (codes "redo") undo.1 >>= λ redo. if bytes_eq redo.1 (codes "end\n") then Some (record { map = b.0.0; undo = undo.0; redo = redo.0 }) else None) s b.2 in
    let f = bound (steps_in (codes "redo") d.0.1) (λ redo. if bytes_eq redo.1 (codes "end\n") then Some (record { map = b.0.0; undo = d.0.0; redo = redo.0 }) else None) s d.2 in
    let g = guarded (bytes_eq f.0.1 (codes "end\n")) (Some (record { map = b.0.0; undo = d.0.0; redo = f.0.0 })) s f.2 in
    let same : record { map = b.0.0; undo = d.0.0; redo = f.0.0 } ≡ s = cc in
    let k = head-found text b.0 b.1 in
    let u = steps-found (codes "undo") b.0.1 d.0 d.1 in
    let r = steps-found (codes "redo") d.0.1 f.0 f.1 in
    subst (IsLinesText text) same (record {
      text_is =
          k.text_is
          ∙ ap (λ t. first_line ++ 10 ∷ (counted (codes "map") b.0.0 ++ t)) (u.text_is ∙ ap (λ t. steps_text (codes "undo") d.0.0 ++ t) (r.text_is ∙ ap (λ t. steps_text (codes "redo") f.0.0 ++ t) (same-bytes f.0.1 (codes "end\n") g.0)))
          ∙ sym (session-shape first_line (counted (codes "map") b.0.0) (steps_text (codes "undo") d.0.0) (steps_text (codes "redo") f.0.0) (codes "end"));
      formed = record { map_len = k.held; undo = u.formed; redo = r.formed };
    })
