-- What is read of one word or one part is spelled.
use Rattle.std.proofs.Common.{◌≡◌, ℕ, Bool, true, false, cond, List, [], ◌∷◌, ◌++◌, Option, Some, None, Ok, Err, refl, ap, sym, ◌∙◌, append_assoc}
use Rattle.std.proofs.lemmas.List.{append-nil}
use Rattle.std.proofs.lemmas.Slice.Eq.{bytes_eq-Decides}
use Rattle.std.specs.Prelude.{codes, bytes_eq}
use denote.Enum.Bare.{same_true}
use Rattle.std.proofs.Common.{rules}
use Rattle.rdl_text.specs.contracts.token.Mark.{the_type}
use Rattle.rdl_text.specs.declared.token.Mark.{Mark}
use Rattle.rdl_text.specs.declared.token.Mark.TheVariants.{OpenBracket, CloseBracket, Colon, Dot, Equals, At, PlusEquals, PercentEquals}
use Rattle.rdl_tree.specs.declared.shell.Outside.{Outside}
use Rattle.rdl_tree.specs.declared.shell.Shell.{Shell}
use Rattle.rdl_tree.specs.declared.value.Value.{Value}
use Rattle.rdl_tree.specs.declared.value.Value.TheVariants as values
use Rattle.rdl_tree.specs.declared.value.Word.{Word as ValueWord}
use Rattle.rdl_tree.specs.declared.value.Word.TheVariants as word
use Rattle.rdl_parse.specs.declared.class.ReservedProperty.{ReservedProperty}
use Rattle.rdl_parse.specs.declared.class.ReservedProperty.TheVariants as property
use Rattle.rdl_parse.specs.Symbol as symbol
use Rattle.rdl_parse.specs.Symbol.{Symbol, kind, outside, name, number, mark, property_text}
use Rattle.rdl_parse.specs.Reading.{fault_at, taken, by, is_mark, begins, mark_at, name_by, number_by, prop_by, name_value, property_value, word_value, value_by, name_at, number_at, prop_at, size_at, Bracketed, bracketed_at, brackets_at, part_at, shell, inst_at, value_at, dot_at, dots_at}
use Rattle.rdl_parse.specs.Spelling.{Brackets, sizes, range, Inst, Prop, free, reserved, sizes_words, brackets_words, part_words, inst_words, prop_symbol, value_symbol, equals_words, dots_words, dims_of, range_of, shell_of, prop_text, value_of}
use Rattle.rdl_parse.proofs.Outcome.{Outcome, then, gives, stops, but, either}
use Rattle.rdl_parse.proofs.Turns.{Turning, repeated-holds}
use Rattle.rdl_parse.proofs.Passing.{Plain, passes-none, passes-word, passes-from, sizes-pass, brackets-pass, part-passes, dots-pass, Mild, mild-along, past}

wrong-mild : (ws : List Symbol) → Mild ws (fault_at ws)
wrong-mild [] = tt
wrong-mild (w ∷ ws) = record { before = []; word = w; after = ws; parts = refl; left_is = refl }

pub refuses : {A : Type 0} {P : A → Type 0} (ws : List Symbol) → Outcome P (Mild ws) (Err (fault_at ws))
refuses ws = stops _ (wrong-mild ws)

-- ---- One word.

taken-reads : {A : Type 0} (o : Option A) (rest ws : List Symbol) → Outcome (λ x. (o ≡ Some x.0) × (rest ≡ x.1)) (Mild ws) (taken o rest ws)
taken-reads (Some x) rest ws = gives _ (refl, refl)
taken-reads None rest ws = refuses ws

by-reads : {A : Type 0} (p : Symbol → Option A) (ws : List Symbol) → Outcome (λ x. (w : Symbol) × (p w ≡ Some x.0) × (ws ≡ w ∷ x.1)) (Mild ws) (by p ws)
unfolding by
by-reads p [] = refuses []
by-reads p (w ∷ ws) = but (taken-reads (p w) ws (w ∷ ws)) (λ x q. (w, q.0, ap (λ vs. w ∷ vs) q.1))

is-mark : (m : Mark) (w : Symbol) → is_mark m w ≡ true → w ≡ mark m
is-mark m (mark n) e = ap mark (same_true the_type (search rules) n m e)
is-mark m w e = absurd cc

mark-taken : (m : Mark) (w : Symbol) (ws : List Symbol) → Outcome (λ x. w ∷ ws ≡ mark m ∷ x) (Mild (w ∷ ws)) (cond (is_mark m w) (Ok ws) (Err (fault_at (w ∷ ws))))
mark-taken m w ws = either (λ h. gives _ (ap (λ v. v ∷ ws) (is-mark m w h))) (λ _. refuses (w ∷ ws))

pub mark-reads : (m : Mark) (ws : List Symbol) → Outcome (λ x. ws ≡ mark m ∷ x) (Mild ws) (mark_at m ws)
unfolding mark_at
mark-reads m [] = refuses []
mark-reads m (w ∷ ws) = mark-taken m w ws

name-by : (w : Symbol) (n : List ℕ) → name_by w ≡ Some n → w ≡ name n
name-by (name m) n e = let same : m ≡ n = cc in ap name same
name-by w n e = absurd cc

pub name-reads : (ws : List Symbol) → Outcome (λ x. ws ≡ name x.0 ∷ x.1) (Mild ws) (name_at ws)
name-reads ws = but (by-reads name_by ws) (λ x p. p.2 ∙ ap (λ w. w ∷ x.1) (name-by p.0 x.0 p.1))

number-by : (w : Symbol) (n : ℕ) → number_by w ≡ Some n → w ≡ number n
number-by (number m) n e = let same : m ≡ n = cc in ap number same
number-by w n e = absurd cc

pub number-reads : (ws : List Symbol) → Outcome (λ x. ws ≡ number x.0 ∷ x.1) (Mild ws) (number_at ws)
number-reads ws = but (by-reads number_by ws) (λ x p. p.2 ∙ ap (λ w. w ∷ x.1) (number-by p.0 x.0 p.1))

prop-by : (w : Symbol) (n : List ℕ) → prop_by w ≡ Some n → (p : Prop) × (w ≡ prop_symbol p) × (n ≡ prop_text p)
prop-by (name m) n e = let same : n ≡ m = cc in (free m, refl, same)
prop-by (symbol.property q) n e = let same : n ≡ property_text q = cc in (reserved q, refl, same)
prop-by w n e = absurd cc

pub record IsProp_at (ws : List Symbol) (n : List ℕ) (rest : List Symbol) : Type 0 where
  pub prop : Prop
  pub text_is : n ≡ prop_text prop
  pub words_are : ws ≡ prop_symbol prop ∷ rest

pub prop-reads : (ws : List Symbol) → Outcome (λ x. IsProp_at ws x.0 x.1) (Mild ws) (prop_at ws)
prop-reads ws =
    but (by-reads prop_by ws)
    (λ x p. let q = prop-by p.0 x.0 p.1 in record { prop = q.0; text_is = q.2; words_are = p.2 ∙ ap (λ w. w ∷ x.1) q.1 })

-- ---- Values.

name-value-by : (b c : Bool) (n : List ℕ) (v : Value) → (b ≡ true → n ≡ codes "r") → (c ≡ true → n ≡ codes "w") → cond b (Some (values.Word word.R)) (cond c (Some (values.Word word.W)) None) ≡ Some v → name n ≡ value_symbol v
name-value-by true c n v h k e = let same : values.Word word.R ≡ v = cc in ap name (h refl) ∙ ap value_symbol same
name-value-by false true n v h k e = let same : values.Word word.W ≡ v = cc in ap name (k refl) ∙ ap value_symbol same
name-value-by false false n v h k e = absurd cc

name-value : (n : List ℕ) (v : Value) → name_value n ≡ Some v → name n ≡ value_symbol v
name-value n v e = name-value-by (bytes_eq n (codes "r")) (bytes_eq n (codes "w")) n v (bytes_eq-Decides n (codes "r")).0 (bytes_eq-Decides n (codes "w")).0 e

property-value : (p : ReservedProperty) (v : Value) → property_value p ≡ Some v → symbol.property p ≡ value_symbol v
property-value property.Sw v e = absurd cc
property-value property.Hw v e = absurd cc
property-value property.Rclr v e = let same : values.Word word.Rclr ≡ v = cc in ap value_symbol same
property-value property.Rset v e = let same : values.Word word.Rset ≡ v = cc in ap value_symbol same
property-value property.Woset v e = let same : values.Word word.Woset ≡ v = cc in ap value_symbol same
property-value property.Woclr v e = let same : values.Word word.Woclr ≡ v = cc in ap value_symbol same

word-value : (w : ValueWord) (v : Value) → word_value w ≡ Some v → symbol.word w ≡ value_symbol v
word-value word.R v e = absurd cc
word-value word.W v e = absurd cc
word-value word.Rclr v e = absurd cc
word-value word.Rset v e = absurd cc
word-value word.Woset v e = absurd cc
word-value word.Woclr v e = absurd cc
word-value w v e = let same : values.Word w ≡ v = cc in ap value_symbol same

value-by : (w : Symbol) (v : Value) → value_by w ≡ Some v → w ≡ value_symbol v
value-by (number n) v e = let same : values.Number n ≡ v = cc in ap value_symbol same
value-by (symbol.text t) v e = let same : values.Text t ≡ v = cc in ap value_symbol same
value-by (symbol.truth b) v e = let same : values.Bool b ≡ v = cc in ap value_symbol same
value-by (name n) v e = name-value n v e
value-by (symbol.property p) v e = property-value p v e
value-by (symbol.word w) v e = word-value w v e
value-by w v e = absurd cc

pub record IsValue_at (ws : List Symbol) (v : Value) (rest : List Symbol) : Type 0 where
  pub value : Option Value
  pub value_is : v ≡ value_of value
  pub words_are : ws ≡ equals_words value rest

pub value-reads : (ws : List Symbol) → Outcome (λ x. IsValue_at ws x.0 x.1) (Mild ws) (value_at ws)
unfolding value_at
value-reads ws =
    either {b = begins Equals ws}
    (λ _. then (mark-reads Equals ws)
    (λ a p. past (passes-from p (passes-word _ tt passes-none))
    (but (by-reads value_by a)
    (λ x q. record { value = Some x.0; value_is = refl; words_are = p ∙ ap (λ us. mark Equals ∷ us) (q.2 ∙ ap (λ w. w ∷ x.1) (value-by q.0 x.0 q.1)) }))))
    (λ _. gives _ (record { value = None; value_is = refl; words_are = refl }))

-- ---- Parts of an INST.

pub part-reads : (m : Mark) (ws : List Symbol) → Plain (mark m) → Outcome (λ x. ws ≡ part_words m x.0 x.1) (Mild ws) (part_at m ws)
unfolding part_at
part-reads m ws h =
    either {b = begins m ws}
    (λ _. then (mark-reads m ws)
    (λ a p. past (passes-from p (passes-word _ h passes-none))
    (then (number-reads a) (λ n q. gives _ (p ∙ ap (λ us. mark m ∷ us) q)))))
    (λ _. gives _ refl)

record AreSizes (ns : List ℕ) (ws : List Symbol) (ms : List ℕ) (rest : List Symbol) : Type 0 where
  more : List ℕ
  sizes_are : ms ≡ ns ++ more
  words_are : ws ≡ sizes_words more rest

pub size-reads : (ns : List ℕ) (ws : List Symbol) → Outcome (λ x. (n : ℕ) × (x.0 ≡ ns ++ n ∷ []) × (ws ≡ sizes_words (n ∷ []) x.1)) (Mild ws) (size_at ns ws)
unfolding size_at
size-reads ns ws =
    then (mark-reads OpenBracket ws)
    (λ a p. past (passes-from p (passes-word _ tt passes-none))
    (then (number-reads a)
    (λ n q. past (passes-from q (passes-word _ tt passes-none))
    (but (then (mark-reads CloseBracket n.1) (λ b r. gives {P = λ x. (x.0 ≡ ns ++ n.0 ∷ []) × (n.1 ≡ mark CloseBracket ∷ x.1)} (ns ++ n.0 ∷ [], b) (refl, r)))
    (λ x r. (n.0, r.0, p ∙ ap (λ us. mark OpenBracket ∷ us) (q ∙ ap (λ us. number n.0 ∷ us) r.1)))))))

size-turning : Turning AreSizes (λ s ws. Mild ws) size_at
size-turning = record {
  none = λ ns ws. record { more = []; sizes_are = sym (append-nil ns); words_are = refl };
  one = λ ns ws. but (size-reads ns ws)
      (λ x p. (
        (λ z q. record { more = p.0 ∷ q.more; sizes_are = q.sizes_are ∙ ap (λ ks. ks ++ q.more) p.1 ∙ append_assoc ns (p.0 ∷ []) q.more; words_are = p.2 ∙ ap (sizes_words (p.0 ∷ [])) q.words_are }),
        mild-along ws x.1 (passes-from p.2 (sizes-pass (p.0 ∷ []) x.1)),
      ));
}

abbrev pub bracketed : Brackets → Bracketed
bracketed b = (dims_of b, range_of b)

pub record IsBrackets (ws : List Symbol) (d : Bracketed) (rest : List Symbol) : Type 0 where
  pub brackets : Brackets
  pub dims_are : d ≡ bracketed brackets
  pub words_are : ws ≡ brackets_words brackets rest

bracketed-reads : (n : ℕ) (ws : List Symbol) → Outcome (λ x. IsBrackets (mark OpenBracket ∷ number n ∷ ws) x.0 x.1) (Mild ws) (bracketed_at n ws)
unfolding bracketed_at
bracketed-reads n ws =
    either {b = begins Colon ws}
    (λ _. then (mark-reads Colon ws)
    (λ a p. past (passes-from p (passes-word _ tt passes-none))
    (then (number-reads a)
    (λ l q. past (passes-from q (passes-word _ tt passes-none))
    (then (mark-reads CloseBracket l.1)
    (λ b r. gives _ (record { brackets = range n l.0; dims_are = refl; words_are = ap (λ us. mark OpenBracket ∷ number n ∷ us) (p ∙ ap (λ us. mark Colon ∷ us) (q ∙ ap (λ us. number l.0 ∷ us) r)) })))))))
    (λ _. then (mark-reads CloseBracket ws)
    (λ a p. past (passes-from p (passes-word _ tt passes-none))
    (then (repeated-holds (begins OpenBracket) size-turning (n ∷ []) a)
    (λ ns q. gives _ (record { brackets = sizes (n ∷ q.more); dims_are = ap (λ ms. (ms, None)) q.sizes_are; words_are = ap (λ us. mark OpenBracket ∷ number n ∷ us) (p ∙ ap (λ us. mark CloseBracket ∷ us) q.words_are) })))))

pub brackets-reads : (ws : List Symbol) → Outcome (λ x. IsBrackets ws x.0 x.1) (Mild ws) (brackets_at ws)
unfolding brackets_at
brackets-reads ws =
    either {b = begins OpenBracket ws}
    (λ _. then (mark-reads OpenBracket ws)
    (λ a p. past (passes-from p (passes-word _ tt passes-none))
    (then (number-reads a)
    (λ n q. past (passes-from q (passes-word _ tt passes-none))
    (but (bracketed-reads n.0 n.1)
    (λ x r. record { brackets = r.brackets; dims_are = r.dims_are; words_are = p ∙ ap (λ us. mark OpenBracket ∷ us) q ∙ r.words_are }))))))
    (λ _. gives _ (record { brackets = sizes []; dims_are = refl; words_are = refl }))

pub record IsInst (o : Outside) (ws : List Symbol) (s : Shell) (rest : List Symbol) : Type 0 where
  pub inst : Inst
  pub shell_is : s ≡ shell_of o inst
  pub words_are : ws ≡ inst_words inst rest

pub inst-reads : (o : Outside) (ws : List Symbol) → Outcome (λ x. IsInst o ws x.0 x.1) (Mild ws) (inst_at o ws)
unfolding inst_at
inst-reads o ws =
    then (name-reads ws)
    (λ n p. past (passes-from p (passes-word _ tt passes-none))
    (then (brackets-reads n.1)
    (λ b q. past (passes-from q.words_are (brackets-pass q.brackets b.1))
    (then (part-reads Equals b.1 tt)
    (λ r e. past (passes-from e (part-passes Equals r.0 r.1 tt))
    (then (part-reads At r.1 tt)
    (λ a f. past (passes-from f (part-passes At a.0 a.1 tt))
    (then (part-reads PlusEquals a.1 tt)
    (λ s g. past (passes-from g (part-passes PlusEquals s.0 s.1 tt))
    (then (part-reads PercentEquals s.1 tt)
    (λ l h. gives _ (record {
      inst = record { name = n.0; brackets = q.brackets; reset = r.0; address = a.0; stride = s.0; align = l.0 };
      shell_is = ap (λ ds. shell o n.0 ds r.0 a.0 s.0 l.0) q.dims_are;
      words_are = p ∙ ap (λ us. name n.0 ∷ us) (q.words_are ∙ ap (brackets_words q.brackets) (e ∙ ap (part_words Equals r.0) (f ∙ ap (part_words At a.0) (g ∙ ap (part_words PlusEquals s.0) h))));
    }))))))))))))

-- ---- Targets.

pub record AreDots (t : List (List ℕ)) (ws : List Symbol) (u : List (List ℕ)) (rest : List Symbol) : Type 0 where
  pub others : List (List ℕ)
  pub names_are : u ≡ t ++ others
  pub words_are : ws ≡ dots_words others rest

pub dot-reads : (t : List (List ℕ)) (ws : List Symbol) → Outcome (λ x. (n : List ℕ) × (x.0 ≡ t ++ n ∷ []) × (ws ≡ dots_words (n ∷ []) x.1)) (Mild ws) (dot_at t ws)
unfolding dot_at
dot-reads t ws =
    then (mark-reads Dot ws)
    (λ a p. past (passes-from p (passes-word _ tt passes-none))
    (then (name-reads a) (λ n q. gives _ (n.0, refl, p ∙ ap (λ us. mark Dot ∷ us) q))))

dot-turning : Turning AreDots (λ s ws. Mild ws) dot_at
dot-turning = record {
  none = λ t ws. record { others = []; names_are = sym (append-nil t); words_are = refl };
  one = λ t ws. but (dot-reads t ws)
      (λ x p. (
        (λ z q. record { others = p.0 ∷ q.others; names_are = q.names_are ∙ ap (λ ks. ks ++ q.others) p.1 ∙ append_assoc t (p.0 ∷ []) q.others; words_are = p.2 ∙ ap (dots_words (p.0 ∷ [])) q.words_are }),
        mild-along ws x.1 (passes-from p.2 (dots-pass (p.0 ∷ []) x.1)),
      ));
}

pub dots-read : (t : List (List ℕ)) (ws : List Symbol) → Outcome (λ x. AreDots t ws x.0 x.1) (Mild ws) (dots_at t ws)
dots-read t ws = repeated-holds (begins Dot) dot-turning t ws
