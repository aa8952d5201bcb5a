-- The names stand in the text where the lines say, and clash as those of the macros do.
use Rattle.std.proofs.Common.{◌≡◌, true, false, ◌<◌, ◌+◌, ◌-◌, ℕ, List, [], ◌∷◌, ◌++◌, length, get_or, map, take, drop, codes, Some, None, Ok, Err, refl, ap, subst, sym, ◌∙◌, append_assoc, length-append, arith}
use Rattle.std.proofs.lemmas.List.{get_or_at, take_at, drop_at, map_push}
use Rattle.std.proofs.lemmas.List.Elements.{All-nil, All-cons}
use Rattle.std.proofs.lemmas.Str.{IsCharBoundary-before_ascii, IsCharBoundary-after_ascii}
use Rattle.std.specs.Prelude.{◌||◌, bytes_eq, if◌then◌else◌, slice_range}
use Rattle.std.specs.List.{All, flat_map}
use Rattle.std.specs.Str.{IsUtf8, IsCharBoundary}
use Rattle.rdl_write.specs.Texts.{newline}
use Rattle.rdl_header.specs.declared.stretch.Stretch.{Stretch}
use Rattle.rdl_elab.specs.declared.row.Row.{Row}
use Rattle.rdl_header.specs.HeaderText.{Macro, macros, macro_line, guard_lines, header_text, is_defined, clash_behind, first_clash, text_unless, header_of}
use Rattle.rdl_header.specs.Lines.{Lines, name_at, names_at, guarded, added, ended, header_lines, IsCut, named}
use Rattle.rdl_header.proofs.AddedLines.{header_lines-text}

-- ---- One name.

-- a name between two bytes of ASCII
module _ (text front name rest : List ℕ) (b a : ℕ) (utf8 : IsUtf8 text) (is : text ≡ front ++ b ∷ (name ++ a ∷ rest)) (low : b < 128) (up : a < 128) where
  start-apart : text ≡ (front ++ b ∷ []) ++ (name ++ a ∷ rest)
  start-apart = is ∙ sym (append_assoc front (b ∷ []) (name ++ a ∷ rest))

  end-apart : text ≡ (front ++ b ∷ name) ++ a ∷ rest
  end-apart = is ∙ sym (append_assoc front (b ∷ name) (a ∷ rest))

  long : length text ≡ length front + 1 + length name + 1 + length rest
  long = ap length is ∙ omega (arith, length-append front (b ∷ (name ++ a ∷ rest)), length-append name (a ∷ rest))

  first : get_or text (length front) 0 ≡ b
  first = ap (λ t. get_or t (length front) 0) is ∙ get_or_at front b (name ++ a ∷ rest) 0 (length front) refl

  last : get_or text (length front + 1 + length name) 0 ≡ a
  last = ap (λ t. get_or t (length front + 1 + length name) 0) end-apart ∙ get_or_at (front ++ b ∷ name) a rest 0 (length front + 1 + length name) (omega (arith, length-append front (b ∷ name)))

  cut : (start : ℕ) → start ≡ length front + 1 → IsCut text (record { start = start; end = start + length name })
  cut start e = (
    omega arith,
    subst (IsCharBoundary text) (sym e) (IsCharBoundary-after_ascii text (length front) utf8 (omega (arith, long)) (omega (arith, first))),
    subst (λ n. IsCharBoundary text (n + length name)) (sym e) (IsCharBoundary-before_ascii text (length front + 1 + length name) (omega (arith, long)) (omega (arith, last))),
  )

  part : (start : ℕ) → start ≡ length front + 1 → slice_range text start (start + length name) ≡ name
  part start e =
      let count : start + length name - start ≡ length name = omega arith in
      let place : length (front ++ b ∷ []) ≡ start = omega (arith, length-append front (b ∷ [])) in
      ap (λ n. take n (drop start text)) count ∙ ap (λ t. take (length name) (drop start t)) start-apart ∙ ap (take (length name)) (drop_at (front ++ b ∷ []) (name ++ a ∷ rest) start place)
      ∙ take_at name (a ∷ rest) (length name) refl

-- ---- The names of all macros.

abbrev bare : List ℕ → Macro
bare name = record { name = name; value = [] }

-- a macro with its name alone
abbrev nameless : Macro → Macro
nameless m = bare m.name

module _ (text tail : List ℕ) (utf8 : IsUtf8 text) where
  abbrev line_is : (front rest : List ℕ) → Macro → Type 0
  line_is front rest m = text ≡ (front ++ codes "#define") ++ 32 ∷ (m.name ++ 32 ∷ (m.value ++ newline ++ rest))

  -- the first of the lines that stand behind a text
  first_line : (front : List ℕ) (m : Macro) (ms : List Macro) → text ≡ front ++ flat_map macro_line (m ∷ ms) ++ tail → line_is front (flat_map macro_line ms ++ tail) m
  unfolding macro_line
  first_line front m ms is = is ∙ simp append_assoc

  next_lines : (front : List ℕ) (m : Macro) (ms : List Macro) → text ≡ front ++ flat_map macro_line (m ∷ ms) ++ tail → text ≡ (front ++ macro_line m) ++ flat_map macro_line ms ++ tail
  next_lines front m ms is = is ∙ simp append_assoc

  all_cut : (front : List ℕ) (place : ℕ) (ms : List Macro) → place ≡ length front → text ≡ front ++ flat_map macro_line ms ++ tail → All (IsCut text) (names_at place ms)
  all_cut front place [] e is = All-nil (IsCut text)
  all_cut front place (m ∷ ms) e is =
      let start : place + 8 ≡ length (front ++ codes "#define") + 1 = omega (arith, length-append front (codes "#define")) in
      let next : place + length (macro_line m) ≡ length (front ++ macro_line m) = omega (arith, length-append front (macro_line m)) in
      All-cons (IsCut text) (name_at place m.name) (names_at (place + length (macro_line m)) ms)
      (cut text (front ++ codes "#define") m.name _ 32 32 utf8 (first_line front m ms is) (omega arith) (omega arith) (place + 8) start)
      (all_cut (front ++ macro_line m) (place + length (macro_line m)) ms next (next_lines front m ms is))

  all_named : (front : List ℕ) (place : ℕ) (ms : List Macro) → place ≡ length front → text ≡ front ++ flat_map macro_line ms ++ tail → named text (names_at place ms) ≡ map nameless ms
  all_named front place [] e is = refl
  all_named front place (m ∷ ms) e is =
      let start : place + 8 ≡ length (front ++ codes "#define") + 1 = omega (arith, length-append front (codes "#define")) in
      let next : place + length (macro_line m) ≡ length (front ++ macro_line m) = omega (arith, length-append front (macro_line m)) in
      let one = part text (front ++ codes "#define") m.name _ 32 32 utf8 (first_line front m ms is) (omega arith) (omega arith) (place + 8) start in
      ap (λ name. bare name ∷ named text (names_at (place + length (macro_line m)) ms)) one
      ∙ ap (λ rest. nameless m ∷ rest) (all_named (front ++ macro_line m) (place + length (macro_line m)) ms next (next_lines front m ms is))

-- ---- The names of a whole header.

module _ (m : Macro) (ms : List Macro) (utf8 : IsUtf8 (header_lines true (m ∷ ms)).text) where
  abbrev text : List ℕ
  text = (header_lines true (m ∷ ms)).text

  guard_first : text ≡ codes "#ifndef" ++ 32 ∷ (m.name ++ 10 ∷ (codes "#define " ++ m.name ++ newline ++ flat_map macro_line ms ++ codes "#endif" ++ newline))
  unfolding guarded added ended guard_lines
  guard_first = simp append_assoc

  others_behind : text ≡ guard_lines m ++ flat_map macro_line ms ++ (codes "#endif" ++ newline)
  unfolding guarded added ended
  others_behind = append_assoc (guard_lines m ++ flat_map macro_line ms) (codes "#endif") newline

  abbrev names : List Stretch
  names = name_at 0 m.name ∷ names_at (length (guard_lines m)) ms

  names-are : (header_lines true (m ∷ ms)).names ≡ names
  unfolding guarded added ended
  names-are = refl

  names_cut : All (IsCut text) names
  names_cut =
      All-cons (IsCut text) (name_at 0 m.name) (names_at (length (guard_lines m)) ms)
      (cut text (codes "#ifndef") m.name _ 32 10 utf8 guard_first (omega arith) (omega arith) 8 refl)
      (all_cut text (codes "#endif" ++ newline) utf8 (guard_lines m) (length (guard_lines m)) ms refl others_behind)

  names_named : named text names ≡ map nameless (m ∷ ms)
  names_named =
      ap (λ name. bare name ∷ named text (names_at (length (guard_lines m)) ms)) (part text (codes "#ifndef") m.name _ 32 10 utf8 guard_first (omega arith) (omega arith) 8 refl)
      ∙ ap (λ rest. nameless m ∷ rest) (all_named text (codes "#endif" ++ newline) utf8 (guard_lines m) (length (guard_lines m)) ms refl others_behind)

pub header_names-cut : (ms : List Macro) → IsUtf8 (header_lines true ms).text → All (IsCut (header_lines true ms).text) (header_lines true ms).names
header_names-cut [] utf8 = All-nil (IsCut [])
header_names-cut (m ∷ ms) utf8 = subst (All (IsCut (header_lines true (m ∷ ms)).text)) (sym (names-are m ms utf8)) (names_cut m ms utf8)

header_named : (ms : List Macro) → IsUtf8 (header_lines true ms).text → named (header_lines true ms).text (header_lines true ms).names ≡ map nameless ms
header_named [] utf8 = refl
header_named (m ∷ ms) utf8 = ap (named (header_lines true (m ∷ ms)).text) (names-are m ms utf8) ∙ names_named m ms utf8

-- ---- The clash.

defined_alike : (q : List ℕ) (ms : List Macro) → is_defined q (map nameless ms) ≡ is_defined q ms
defined_alike q [] = refl
defined_alike q (m ∷ ms) = ap (λ b. bytes_eq m.name q || b) (defined_alike q ms)

clash_alike : (before ms : List Macro) → clash_behind (map nameless before) (map nameless ms) ≡ clash_behind before ms
clash_alike before [] = refl
clash_alike before (m ∷ ms) =
    ap (λ b. if b then Some m.name else clash_behind (map nameless before ++ nameless m ∷ []) (map nameless ms)) (defined_alike m.name before)
    ∙ ap (λ ns. if is_defined m.name before then Some m.name else clash_behind ns (map nameless ms)) (sym (map_push nameless before m))
    ∙ ap (λ rest. if is_defined m.name before then Some m.name else rest) (clash_alike (before ++ m ∷ []) ms)

pub header_clash : (ms : List Macro) → IsUtf8 (header_lines true ms).text → first_clash (named (header_lines true ms).text (header_lines true ms).names) ≡ first_clash ms
header_clash ms utf8 = ap first_clash (header_named ms utf8) ∙ clash_alike [] ms

-- ---- What is answered of them.

module _ (rows : List Row) (lines : Lines) (text : List ℕ) (names : List Stretch) (made : lines ≡ header_lines true (macros rows)) (t : text ≡ lines.text) (n : names ≡ lines.names) (utf8 : IsUtf8 text) where
  text-is : text ≡ (header_lines true (macros rows)).text
  text-is = t ∙ ap (λ x. x.text) made

  names-is : names ≡ (header_lines true (macros rows)).names
  names-is = n ∙ ap (λ x. x.names) made

  utf8-is : IsUtf8 (header_lines true (macros rows)).text
  utf8-is = subst IsUtf8 text-is utf8

  pub whole_names : All (IsCut text) names
  whole_names =
      subst (λ x. All (IsCut x) names) (sym text-is) (subst (All (IsCut (header_lines true (macros rows)).text)) (sym names-is) (header_names-cut (macros rows) utf8-is))

  same_clash : first_clash (named text names) ≡ first_clash (macros rows)
  same_clash = ap (λ x. first_clash (named x names)) text-is ∙ ap (λ x. first_clash (named (header_lines true (macros rows)).text x)) names-is ∙ header_clash (macros rows) utf8-is

  pub clash_answered : (name : List ℕ) → Some name ≡ first_clash (named text names) → header_of rows ≡ Err name
  clash_answered name e = ap (λ clash. text_unless clash (header_text (macros rows))) (sym same_clash ∙ sym e)

  pub text_answered : (answer : List ℕ) → None ≡ first_clash (named text names) → answer ≡ lines.text → header_of rows ≡ Ok answer
  text_answered answer e a =
      ap (λ clash. text_unless clash (header_text (macros rows))) (sym same_clash ∙ sym e)
      ∙ ap Ok (sym (a ∙ ap (λ x. x.text) made ∙ header_lines-text true (macros rows)))

-- the text where nothing is known to clash
pub text_apart : (rows : List Row) (lines : Lines) (answer : List ℕ) → lines ≡ header_lines false (macros rows) → first_clash (macros rows) ≡ None → answer ≡ lines.text → header_of rows ≡ Ok answer
text_apart rows lines answer made none a =
    ap (λ clash. text_unless clash (header_text (macros rows))) none
    ∙ ap Ok (sym (a ∙ ap (λ x. x.text) made ∙ header_lines-text false (macros rows)))
