-- What is spelled by one part is read.
use Rattle.std.proofs.Common.{◌≡◌, ℕ, true, false, List, [], ◌∷◌, ◌++◌, length, Option, Some, None, Ok, refl, ap, sym, ◌∙◌, arith, append_assoc}
use Rattle.std.proofs.lemmas.List.{append-nil}
use Rattle.rdl_text.specs.declared.token.Mark.{Mark}
use Rattle.rdl_text.specs.declared.token.Mark.TheVariants.{OpenBrace, CloseBrace, OpenBracket, CloseBracket, Colon, Semicolon, Comma, Dot, Equals, At, PlusEquals, PercentEquals, Arrow}
use Rattle.rdl_tree.specs.declared.shell.Outside.{Outside}
use Rattle.rdl_tree.specs.declared.value.Value.{Value}
use Rattle.rdl_tree.specs.declared.value.Value.TheVariants as values
use Rattle.rdl_tree.specs.declared.value.Word.TheVariants as word
use Rattle.rdl_parse.specs.Symbol.{Symbol, number, mark}
use Rattle.rdl_parse.specs.Reading.{◌>>=◌, taken, by, is_mark, begins, mark_at, value_by, prop_at, size_at, sizes_at, bracketed_at, brackets_at, part_at, inst_at, value_at, dot_at, dots_at}
use Rattle.rdl_parse.specs.Spelling.{Brackets, sizes, range, Inst, Prop, free, reserved, sizes_words, brackets_words, part_words, inst_words, others_words, prop_symbol, value_symbol, equals_words, dots_words, shell_of, prop_text, value_of}
use Rattle.rdl_parse.proofs.Outcome.{outcome-ok, bind-ok, cond-true, cond-false}
use Rattle.rdl_parse.proofs.Turns.{Shortens, repeated-done, repeated-next}
use Rattle.rdl_parse.proofs.WordRead.{bracketed, size-reads, dot-reads}

is-itself : (m : Mark) → is_mark m (mark m) ≡ true
is-itself OpenBrace = refl
is-itself CloseBrace = refl
is-itself OpenBracket = refl
is-itself CloseBracket = refl
is-itself Colon = refl
is-itself Semicolon = refl
is-itself Comma = refl
is-itself Dot = refl
is-itself Equals = refl
is-itself At = refl
is-itself PlusEquals = refl
is-itself PercentEquals = refl
is-itself Arrow = refl

pub mark-again : (m : Mark) (ws : List Symbol) → mark_at m (mark m ∷ ws) ≡ Ok ws
unfolding mark_at
mark-again m ws = cond-true _ _ (is-itself m)

value-is : (v : Value) → value_by (value_symbol v) ≡ Some v
value-is (values.Number n) = refl
value-is (values.Text t) = refl
value-is (values.Bool b) = refl
value-is (values.Word word.R) = refl
value-is (values.Word word.W) = refl
value-is (values.Word word.Rclr) = refl
value-is (values.Word word.Rset) = refl
value-is (values.Word word.Woset) = refl
value-is (values.Word word.Woclr) = refl
value-is (values.Word w) = refl

by-again : {A : Type 0} (p : Symbol → Option A) (w : Symbol) (ws : List Symbol) (x : A) → p w ≡ Some x → by p (w ∷ ws) ≡ Ok (x, ws)
unfolding by
by-again p w ws x e = ap (λ o. taken o ws (w ∷ ws)) e

pub value-again : (v : Option Value) (ws : List Symbol) → value_at (equals_words v (mark Semicolon ∷ ws)) ≡ Ok (value_of v, mark Semicolon ∷ ws)
unfolding value_at begins mark_at
value-again None ws = refl
value-again (Some v) ws = by-again value_by (value_symbol v) (mark Semicolon ∷ ws) v (value-is v)

pub prop-again : (p : Prop) (ws : List Symbol) → prop_at (prop_symbol p ∷ ws) ≡ Ok (prop_text p, ws)
unfolding by
prop-again (free n) ws = refl
prop-again (reserved p) ws = refl

-- ---- Brackets.

pub size-shortens : Shortens (begins OpenBracket) size_at
unfolding begins
size-shortens = record {
  ends = refl;
  shorter = λ ns ws x e. let p = outcome-ok x e (size-reads ns ws) in omega (arith, ap length p.2);
}

size-again : (ns : List ℕ) (n : ℕ) (ws : List Symbol) → size_at ns (sizes_words (n ∷ []) ws) ≡ Ok (ns ++ n ∷ [], ws)
unfolding size_at mark_at by
size-again ns n ws = refl

sizes-again : (ns ms : List ℕ) (ws : List Symbol) → begins OpenBracket ws ≡ false → sizes_at ms (sizes_words ns ws) ≡ Ok (ms ++ ns, ws)
unfolding begins
sizes-again [] ms ws h = repeated-done size-shortens ms ws h ∙ ap (λ ks. Ok (ks, ws)) (sym (append-nil ms))
sizes-again (n ∷ ns) ms ws h =
    repeated-next size-shortens ms (sizes_words (n ∷ ns) ws) (ms ++ n ∷ [], sizes_words ns ws) refl (size-again ms n (sizes_words ns ws))
    ∙ sizes-again ns (ms ++ n ∷ []) ws h
    ∙ ap (λ ks. Ok (ks, ws)) (append_assoc ms (n ∷ []) ns)

brackets-again : (b : Brackets) (ws : List Symbol) → begins OpenBracket ws ≡ false → brackets_at (brackets_words b ws) ≡ Ok (bracketed b, ws)
unfolding brackets_at bracketed_at begins mark_at by
brackets-again (sizes []) ws h = cond-false _ _ h
brackets-again (sizes (n ∷ ns)) ws h = ap (λ r. r >>= λ ks. Ok ((ks.0, None), ks.1)) (sizes-again ns (n ∷ []) ws h)
brackets-again (range high low) ws h = refl

-- ---- Parts.

part-again : (m : Mark) (o : Option ℕ) (ws : List Symbol) → begins m ws ≡ false → part_at m (part_words m o ws) ≡ Ok (o, ws)
unfolding part_at begins by
part-again m None ws h = cond-false _ _ h
part-again m (Some n) ws h = cond-true _ _ (is-itself m) ∙ bind-ok _ _ (mark-again m (number n ∷ ws))

part-begins : (m k : Mark) (o : Option ℕ) (ws : List Symbol) → is_mark m (mark k) ≡ false → begins m ws ≡ false → begins m (part_words k o ws) ≡ false
unfolding begins
part-begins m k None ws e h = h
part-begins m k (Some n) ws e h = e

-- no part of an INST begins with the first of these words
pub record Behind (ws : List Symbol) : Type 0 where
  pub no_bracket : begins OpenBracket ws ≡ false
  pub no_equals : begins Equals ws ≡ false
  pub no_at : begins At ws ≡ false
  pub no_plus : begins PlusEquals ws ≡ false
  pub no_percent : begins PercentEquals ws ≡ false

pub others-behind : (is : List Inst) (ws : List Symbol) → Behind (others_words is (mark Semicolon ∷ ws))
unfolding begins
others-behind [] ws = record { no_bracket = refl; no_equals = refl; no_at = refl; no_plus = refl; no_percent = refl }
others-behind (i ∷ is) ws = record { no_bracket = refl; no_equals = refl; no_at = refl; no_plus = refl; no_percent = refl }

pub inst-again : (o : Outside) (i : Inst) (ws : List Symbol) → Behind ws → inst_at o (inst_words i ws) ≡ Ok (shell_of o i, ws)
unfolding inst_at by
inst-again o i ws b =
    let l = part_words PercentEquals i.align ws in
    let s = part_words PlusEquals i.stride l in
    let a = part_words At i.address s in
    let r = part_words Equals i.reset a in
    let stride_at : begins At s ≡ false = part-begins At PlusEquals i.stride l refl (part-begins At PercentEquals i.align ws refl b.no_at) in
    let stride_equals : begins Equals s ≡ false = part-begins Equals PlusEquals i.stride l refl (part-begins Equals PercentEquals i.align ws refl b.no_equals) in
    let stride_bracket : begins OpenBracket s ≡ false = part-begins OpenBracket PlusEquals i.stride l refl (part-begins OpenBracket PercentEquals i.align ws refl b.no_bracket) in
    bind-ok _ _ (brackets-again i.brackets r (part-begins OpenBracket Equals i.reset a refl (part-begins OpenBracket At i.address s refl stride_bracket)))
    ∙ bind-ok _ _ (part-again Equals i.reset a (part-begins Equals At i.address s refl stride_equals))
    ∙ bind-ok _ _ (part-again At i.address s stride_at)
    ∙ bind-ok _ _ (part-again PlusEquals i.stride l (part-begins PlusEquals PercentEquals i.align ws refl b.no_plus))
    ∙ bind-ok _ _ (part-again PercentEquals i.align ws b.no_percent)

-- ---- Targets.

pub dot-shortens : Shortens (begins Dot) dot_at
unfolding begins
dot-shortens = record {
  ends = refl;
  shorter = λ t ws x e. let p = outcome-ok x e (dot-reads t ws) in omega (arith, ap length p.2);
}

dot-again : (t : List (List ℕ)) (n : List ℕ) (ws : List Symbol) → dot_at t (dots_words (n ∷ []) ws) ≡ Ok (t ++ n ∷ [], ws)
unfolding dot_at mark_at by
dot-again t n ws = refl

pub dots-again : (ns t : List (List ℕ)) (ws : List Symbol) → begins Dot ws ≡ false → dots_at t (dots_words ns ws) ≡ Ok (t ++ ns, ws)
unfolding begins
dots-again [] t ws h = repeated-done dot-shortens t ws h ∙ ap (λ ks. Ok (ks, ws)) (sym (append-nil t))
dots-again (n ∷ ns) t ws h =
    repeated-next dot-shortens t (dots_words (n ∷ ns) ws) (t ++ n ∷ [], dots_words ns ws) refl (dot-again t n (dots_words ns ws))
    ∙ dots-again ns (t ++ n ∷ []) ws h
    ∙ ap (λ ks. Ok (ks, ws)) (append_assoc t (n ∷ []) ns)
