-- The texts of entries, of which there is one exactly where there is a line.
use Rattle.std.proofs.Common.{◌≡◌, ◌≤◌, length, arith, ℕ, zero, suc, ◌+◌, Bool, true, false, List, [], ◌∷◌, ◌++◌, map, flat_map, refl, ap, ◌∙◌, if◌then◌else◌, bytes_eq}
use Rattle.std.specs.Prelude.{codes}
use Rattle.std.specs.List.{list_any}
use Rattle.std.specs.Vec.Iter.{into_iter_items}
use Rattle.rdl_elab.specs.declared.row.Row.{Row}
use Rattle.rdl_list.specs.ListText.{path_text}
use Rattle.rdl_write.specs.Texts.{newline}
use Rattle.rdl_diff.specs.Alike.{Entry, Group, Item, alike, line, item, goes_on, group_items, group_of, groups, heading, joined, run_path, run_text, runs, runs_from, told_above, told_at, told_inside, most_names, with_path}
use Rattle.rdl_diff.specs.Breaking.{mark}
use Rattle.rdl_diff.specs.DiffText.{Line, renamed, gone, come, changed, change_text, is_breaking, line_text, lines, listed}
use Rattle.rdl_diff.specs.Json.{alike_data, object_of}
use Rattle.rdl_diff.specs.Left.{head_left, left}
use Rattle.rdl_diff.specs.Markdown.{table_head}
use Rattle.rdl_diff.specs.PlainText.{alike_text}
use Rattle.rdl_diff.specs.Seen.{entry_seen, items_seen, line_seen, lines_seen}
use Rattle.rdl_diff.specs.Written.{diff_text, entries, entries_of, head_of, text_in, texts_of, told_items}
use Rattle.rdl_diff.specs.declared.choice.Choice.{Choice}
use Rattle.rdl_diff.specs.declared.choice.Format.{Format}
use Rattle.rdl_diff.specs.declared.choice.Format.TheVariants.{Text, Markdown, Json}
use Rattle.rdl_diff.specs.declared.diff.Differences.{Differences}
use Rattle.rdl_diff.specs.declared.entry.Entry as code
use Rattle.rdl_diff.specs.declared.entry.Item as code_item
use Rattle.rdl_diff.specs.declared.line.Line as code_line
use Rattle.rdl_diff.specs.declared.moves.Moves.{Moves}
use Rattle.rdl_diff.specs.declared.moves.Moves.TheVariants.{Own, Each}
use Rattle.rdl_diff.proofs.Members.{empty-parts}

-- ---- From lines to texts.

items-of : (ls : List code_line.Line) → map (λ l. item (line_seen l)) ls ≡ map item (lines_seen ls)
items-of [] = refl
items-of (l ∷ ls) = ap (λ is. item (line_seen l) ∷ is) (items-of ls)

pub all_entries : (m : Moves) (ls : List code_line.Line) (is told : List code_item.Item) (es : List code.Entry) → items_seen is ≡ map (λ l. item (line_seen l)) ls
    → items_seen told ≡ told_items m (items_seen is) → map entry_seen es ≡ map (λ i. i.entry) (items_seen told) → map entry_seen es ≡ entries_of m (lines_seen ls)
all_entries m ls is told es of_items once is_made =
    is_made
    ∙ ap (map (λ i. i.entry)) (once ∙ ap (told_items m) (of_items ∙ items-of ls))

seen-texts : (f : Format) (es : List code.Entry) → map (λ e. text_in f (entry_seen e)) es ≡ map (text_in f) (map entry_seen es)
seen-texts f [] = refl
seen-texts f (e ∷ es) = ap (λ ts. text_in f (entry_seen e) ∷ ts) (seen-texts f es)

pub all_texts : (f : Format) (all : List Entry) (es : List code.Entry) (d : Differences) → map entry_seen es ≡ all → d.format ≡ f → into_iter_items d.entries ≡ es
    → head_left d.head ≡ head_of f (map entry_seen es) → left d ≡ texts_of f all
all_texts f all es d of_entries g is head =
    (λ i. head i ++ map (λ e. text_in (g i) (entry_seen e)) (is i))
    ∙ ap (λ ts. head_of f (map entry_seen es) ++ ts) (seen-texts f es)
    ∙ ap (texts_of f) of_entries

pub some_head : (es : List code.Entry) → 1 ≤ length es → head_of Markdown (map entry_seen es) ≡ table_head ∷ []
some_head [] h = absurd (omega arith)
some_head (e ∷ es) h = refl

-- ---- Of no line there is no text.

none-told : (m : Moves) → told_items m [] ≡ []
none-told Own = refl
none-told Each = refl

none-headed : (f : Format) → texts_of f [] ≡ []
none-headed Text = refl
none-headed Markdown = refl
none-headed Json = refl

pub no_text : (c : Choice) (old new : List Row) → lines c old new ≡ [] → diff_text c old new ≡ []
no_text c old new none =
    ap (λ ls. flat_map (λ t. t) (texts_of c.format (map (λ i. i.entry) (told_items c.moves (map item ls))))) none
    ∙ ap (λ is. flat_map (λ t. t) (texts_of c.format (map (λ i. i.entry) is))) (none-told c.moves)
    ∙ ap (flat_map (λ t. t)) (none-headed c.format)

-- ---- Each entry has a text.

marked : (b : Bool) (path colon texts end more : List ℕ) → mark b ++ codes "~ " ++ path ++ colon ++ texts ++ end ++ more ≡ [] → ⊥
marked true path colon texts end more e = cc
marked false path colon texts end more e = cc

line-said : (l : Line) (more : List ℕ) → line_text l ++ more ≡ [] → ⊥
unfolding line_text
line-said (renamed o n) more e = cc
line-said (gone r) more e = cc
line-said (come r) more e = cc
line-said (changed p cs) more e = marked (list_any is_breaking cs) (path_text p) (codes ": ") (listed (map change_text cs)) newline more e

plain-said : (x : Entry) (more : List ℕ) → text_in Text x ++ more ≡ [] → ⊥
unfolding alike_text
plain-said (alike ps) more e = cc
plain-said (line l) more e = line-said l more e

json-said : (x : Entry) (more : List ℕ) → text_in Json x ++ more ≡ [] → ⊥
unfolding object_of alike_data
json-said (alike ps) more e = cc
json-said (line (renamed o n)) more e = cc
json-said (line (gone r)) more e = cc
json-said (line (come r)) more e = cc
json-said (line (changed p cs)) more e = cc

head-said : (more : List ℕ) → table_head ++ more ≡ [] → ⊥
unfolding table_head
head-said more e = cc

no-entries : (f : Format) (es : List Entry) → flat_map (λ t. t) (texts_of f es) ≡ [] → es ≡ []
no-entries f [] e = refl
no-entries Text (x ∷ es) e = absurd (plain-said x (flat_map (λ t. t) (map (text_in Text) es)) e)
no-entries Markdown (x ∷ es) e = absurd (head-said (flat_map (λ t. t) (map (text_in Markdown) (x ∷ es))) e)
no-entries Json (x ∷ es) e = absurd (json-said x (flat_map (λ t. t) (map (text_in Json) es)) e)

no-items : (is : List Item) → map (λ i. i.entry) is ≡ [] → is ≡ []
no-items [] e = refl
no-items (i ∷ is) e = cc

no-lines : (ls : List Line) → map item ls ≡ [] → ls ≡ []
no-lines [] e = refl
no-lines (l ∷ ls) e = cc

-- ---- Of some items some are told.

some : {A : Type 0} → List A → Type 0
some [] = ⊥
some (x ∷ xs) = Unit {0}

no-some : {A : Type 0} (xs : List A) → some xs → xs ≡ [] → ⊥
unfolding some
no-some [] h e = h
no-some (x ∷ xs) h e = cc

is-some : {A : Type 0} (x : A) (xs : List A) → some (x ∷ xs)
unfolding some
is-some x xs = tt

more-some : {A : Type 0} (xs : List A) (x : A) → some (xs ++ x ∷ [])
unfolding some
more-some [] x = tt
more-some (y ∷ ys) x = tt

first-some : List (List Item) → Type 0
first-some [] = ⊥
first-some (r ∷ rs) = some r

first-group : List Group → Type 0
first-group [] = ⊥
first-group (g ∷ gs) = some g.items

runs-first : (n : ℕ) (run items : List Item) → some run → first-some (runs_from n run items)
unfolding first-some
runs-first n run [] h = h
runs-first n run (i ∷ items) h = by (goes_on n run i) (runs-first n (run ++ i ∷ []) items (more-some run i))
  where
    by : (b : Bool) → first-some (runs_from n (run ++ i ∷ []) items) → first-some (if b then runs_from n (run ++ i ∷ []) items else run ∷ runs_from n (i ∷ []) items)
    by true more = more
    by false more = h

runs-some : (n : ℕ) (items : List Item) → some items → first-some (runs n items)
unfolding some
runs-some n [] h = absurd h
runs-some n (i ∷ items) h = runs-first n (i ∷ []) items (is-some i [])

joined-first : (d : ℕ) (gs : List Group) (run : List Item) → first-group gs → first-group (joined d gs run)
unfolding first-group
joined-first d [] run h = absurd h
joined-first d (g ∷ gs) run h = by (bytes_eq (run_text d run) (run_text d g.items))
  where
    by : (b : Bool) → first-group (if b then with_path g (run_path d run) ∷ gs else g ∷ joined d gs run)
    by true = h
    by false = h

groups-first : (d : ℕ) (gs : List Group) (rs : List (List Item)) → first-group gs → first-group (groups d gs rs)
groups-first d gs [] h = h
groups-first d gs (r ∷ rs) h = groups-first d (joined d gs r) rs (joined-first d gs r h)

groups-some : (d : ℕ) (rs : List (List Item)) → first-some rs → first-group (groups d [] rs)
unfolding first-some first-group
groups-some d [] h = absurd h
groups-some d (r ∷ rs) h = groups-first d (group_of d r ∷ []) rs h

told-group : (gs : List Group) → first-group gs → flat_map group_items gs ≡ [] → ⊥
unfolding first-group
told-group [] h e = h
told-group (g ∷ gs) h e = no-some g.items h (empty-parts (heading g.paths) g.items (empty-parts (group_items g) (flat_map group_items gs) e).0).1

inside-some : (d : ℕ) (items : List Item) → some items → told_inside d items ≡ [] → ⊥
inside-some d items h e = told-group (groups d [] (runs (d + 1) items)) (groups-some d (runs (d + 1) items) (runs-some (d + 1) items h)) e

told-first : (d : ℕ) (rs : List (List Item)) → first-some rs → flat_map (told_inside d) rs ≡ [] → ⊥
unfolding first-some
told-first d [] h e = h
told-first d (r ∷ rs) h e = inside-some d r h (empty-parts (told_inside d r) (flat_map (told_inside d) rs) e).0

none-at : (d : ℕ) (items : List Item) → told_at d items ≡ [] → items ≡ []
none-at d [] e = refl
none-at d (i ∷ items) e = absurd (told-first d (runs d (i ∷ items)) (runs-some d (i ∷ items) (is-some i items)) e)

none-above : (d : ℕ) (items : List Item) → told_above d items ≡ [] → items ≡ []
none-above zero items e = e
none-above (suc d) items e = none-at d items (none-above d (told_at d items) e)

none-of : (m : Moves) (items : List Item) → told_items m items ≡ [] → items ≡ []
none-of Own items e = none-above (most_names items) items e
none-of Each items e = e

-- where there is no text there is no line
pub no_lines : (c : Choice) (old new : List Row) → diff_text c old new ≡ [] → lines c old new ≡ []
no_lines c old new e =
    no-lines (lines c old new) (none-of c.moves (map item (lines c old new)) (no-items (told_items c.moves (map item (lines c old new))) (no-entries c.format (entries c old new) e)))
