-- The lines of macros, one behind the other.
use Rattle.std.proofs.Common.{◌≡◌, ℕ, Bool, true, false, ◌+◌, List, [], ◌∷◌, ◌++◌, length, codes, refl, ap, sym, ◌∙◌, append_assoc, append-nil, length-append, arith}
use Rattle.std.proofs.lemmas.List.Concat.{flat_map-append}
use Rattle.std.specs.List.{flat_map}
use Rattle.rdl_write.specs.Texts.{newline}
use Rattle.rdl_header.specs.declared.stretch.Stretch.{Stretch}
use Rattle.rdl_header.specs.HeaderText.{Macro, macro_line, guard_lines, header_text}
use Rattle.rdl_header.specs.Lines.{Lines, name_at, names_at, noted, guarded, added, ended, header_lines}

-- ---- One line more.

regroup : (old a b c d e : List ℕ) → ((((old ++ a) ++ b) ++ c) ++ d) ++ e ≡ old ++ (((((a ++ b) ++ c) ++ d) ++ e) ++ [])
regroup old a b c d e = simp (append_assoc, append-nil)

line : (old front text : List ℕ) (m : Macro) → front ≡ old ++ codes "#define " ++ m.name → text ≡ front ++ codes " " ++ m.value ++ newline → text ≡ old ++ flat_map macro_line (m ∷ [])
unfolding macro_line
line old front text m e f = f ∙ ap (λ t. t ++ codes " " ++ m.value ++ newline) e ∙ regroup old (codes "#define ") m.name (codes " ") m.value newline

pub line_added : (old : Lines) (m : Macro) (front text : List ℕ) (names : List Stretch) → front ≡ old.text ++ codes "#define " ++ m.name → text ≡ front ++ codes " " ++ m.value ++ newline → names ≡ old.names ++ noted old.are_noted (name_at (length old.text) m.name ∷ [])
    → record { text = text; are_noted = old.are_noted; names = names } ≡ added old (m ∷ [])
unfolding added
line_added old m front text names e f h = λ i. record { text = line old.text front text m e f i; are_noted = old.are_noted; names = h i }

-- the beginning of a line is the head of its row, and the ending of its name
pub line_begun : (old first text head path ending : List ℕ) → head ≡ codes "#define " ++ path → first ≡ old ++ head → text ≡ first ++ ending → text ≡ old ++ codes "#define " ++ (path ++ ending)
line_begun old first text head path ending d e f =
    f ∙ ap (λ t. t ++ ending) (e ∙ ap (λ t. old ++ t) d ∙ sym (append_assoc old (codes "#define ") path)) ∙ append_assoc (old ++ codes "#define ") path ending

pub name_noted : (b : Bool) (old path ending : List ℕ) (start end : ℕ) (names new : List Stretch) → start ≡ length old + 8 → end ≡ length old + (8 + length path) + length ending → new ≡ names ++ noted b (record { start = start; end = end } ∷ [])
    → new ≡ names ++ noted b (name_at (length old) (path ++ ending) ∷ [])
name_noted b old path ending start end names new s e n =
    let place : end ≡ length old + 8 + length (path ++ ending) = omega (arith, e, length-append path ending) in
    let is : record { start = start; end = end } ≡ name_at (length old) (path ++ ending) = λ i. record { start = s i; end = place i } in
    n ∙ ap (λ p. names ++ noted b (p ∷ [])) is

-- ---- Macros behind macros.

names-append : (place : ℕ) (xs ys : List Macro) → names_at place (xs ++ ys) ≡ names_at place xs ++ names_at (place + length (flat_map macro_line xs)) ys
names-append place [] ys = let none : place ≡ place + 0 = omega arith in ap (λ p. names_at p ys) none
names-append place (x ∷ xs) ys =
    let far : place + length (macro_line x) + length (flat_map macro_line xs) ≡ place + length (macro_line x ++ flat_map macro_line xs) = omega (arith, length-append (macro_line x) (flat_map macro_line xs)) in
    ap (λ names. name_at place x.name ∷ names) (names-append (place + length (macro_line x)) xs ys ∙ ap (λ p. names_at (place + length (macro_line x)) xs ++ names_at p ys) far)

more-text : (text : List ℕ) (xs ys : List Macro) → (text ++ flat_map macro_line xs) ++ flat_map macro_line ys ≡ text ++ flat_map macro_line (xs ++ ys)
more-text text xs ys = append_assoc text (flat_map macro_line xs) (flat_map macro_line ys) ∙ ap (λ t. text ++ t) (sym (flat_map-append macro_line xs ys))

noted-append : (b : Bool) (xs ys : List Stretch) → noted b xs ++ noted b ys ≡ noted b (xs ++ ys)
noted-append true xs ys = refl
noted-append false xs ys = refl

none-noted : (b : Bool) → noted b [] ≡ []
none-noted true = refl
none-noted false = refl

more-names : (b : Bool) (text : List ℕ) (names : List Stretch) (xs ys : List Macro) → (names ++ noted b (names_at (length text) xs)) ++ noted b (names_at (length (text ++ flat_map macro_line xs)) ys) ≡ names ++ noted b (names_at (length text) (xs ++ ys))
more-names b text names xs ys =
    append_assoc names (noted b (names_at (length text) xs)) (noted b (names_at (length (text ++ flat_map macro_line xs)) ys))
    ∙ ap (λ t. names ++ t) (noted-append b (names_at (length text) xs) (names_at (length (text ++ flat_map macro_line xs)) ys))
    ∙ ap (λ p. names ++ noted b (names_at (length text) xs ++ names_at p ys)) (length-append text (flat_map macro_line xs))
    ∙ ap (λ t. names ++ noted b t) (sym (names-append (length text) xs ys))

pub added_more : (lines : Lines) (xs ys : List Macro) → added (added lines xs) ys ≡ added lines (xs ++ ys)
unfolding added
added_more lines xs ys = λ i. record { text = more-text lines.text xs ys i; are_noted = lines.are_noted; names = more-names lines.are_noted lines.text lines.names xs ys i }

pub none_added : (lines : Lines) → added lines [] ≡ lines
unfolding added
none_added lines = λ i. record { text = append-nil lines.text i; are_noted = lines.are_noted; names = (ap (λ t. lines.names ++ t) (none-noted lines.are_noted) ∙ append-nil lines.names) i }

pub ruleset added_lines = (added_more, none_added)

-- ---- The whole header.

guard-text : (a path h d : List ℕ) → ((((a ++ path) ++ h) ++ 10 ∷ d) ++ path) ++ (h ++ 10 ∷ []) ≡ ((((a ++ (path ++ h)) ++ 10 ∷ []) ++ d) ++ (path ++ h)) ++ 10 ∷ []
guard-text a path h d = simp append_assoc

guard_is : (path second third fourth text : List ℕ) → second ≡ codes "#ifndef " ++ path ++ codes "_H" → third ≡ second ++ codes "\n#define " → fourth ≡ third ++ path → text ≡ fourth ++ codes "_H\n" → text ≡ guard_lines (record { name = path ++ codes "_H"; value = [] })
unfolding guard_lines
guard_is path second third fourth text a b d e =
    e ∙ ap (λ t. t ++ codes "_H\n") (d ∙ ap (λ t. t ++ path) (b ∙ ap (λ t. t ++ codes "\n#define ") a)) ∙ guard-text (codes "#ifndef ") path (codes "_H") (codes "#define ")

name_is : (path first : List ℕ) → first ≡ codes "#ifndef " → record { start = length first; end = length (first ++ path ++ codes "_H") } ≡ name_at 0 (path ++ codes "_H")
name_is path first e =
    let start : length first ≡ 8 = ap length e in
    let end : length (first ++ path ++ codes "_H") ≡ 8 + length (path ++ codes "_H") = omega (arith, length-append first path, length-append (first ++ path) (codes "_H"), length-append path (codes "_H")) in
    λ i. record { start = start i; end = end i }

pub guard_made : (b : Bool) (path none first second third fourth text : List ℕ) (nothing names : List Stretch) → none ≡ [] → first ≡ none ++ codes "#ifndef " → second ≡ first ++ path ++ codes "_H" → third ≡ second ++ codes "\n#define " → fourth ≡ third ++ path → text ≡ fourth ++ codes "_H\n"
    → nothing ≡ [] → names ≡ nothing ++ noted b (record { start = length first; end = length (first ++ path ++ codes "_H") } ∷ []) → record { text = text; are_noted = b; names = names } ≡ guarded b (record { name = path ++ codes "_H"; value = [] })
unfolding guarded
guard_made b path none first second third fourth text nothing names z a s d e f y g =
    let one : first ≡ codes "#ifndef " = a ∙ ap (λ t. t ++ codes "#ifndef ") z in
    let lines : text ≡ guard_lines (record { name = path ++ codes "_H"; value = [] }) = guard_is path second third fourth text (s ∙ ap (λ t. t ++ path ++ codes "_H") one) d e f in
    let name : names ≡ noted b (name_at 0 (path ++ codes "_H") ∷ []) = g ∙ ap (λ ns. ns ++ noted b (record { start = length first; end = length (first ++ path ++ codes "_H") } ∷ [])) y ∙ ap (λ n. noted b (n ∷ [])) (name_is path first one) in
    λ i. record { text = lines i; are_noted = b; names = name i }

pub end_made : (lines : Lines) (text : List ℕ) → text ≡ lines.text ++ codes "#endif\n" → record { text = text; are_noted = lines.are_noted; names = lines.names } ≡ ended lines
unfolding ended
end_made lines text e = λ i. record { text = (e ∙ sym (append_assoc lines.text (codes "#endif") newline)) i; are_noted = lines.are_noted; names = lines.names }

pub header_lines-text : (b : Bool) (ms : List Macro) → (header_lines b ms).text ≡ header_text ms
unfolding guarded added ended
header_lines-text b [] = refl
header_lines-text b (m ∷ ms) = refl
