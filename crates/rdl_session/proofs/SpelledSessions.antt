-- A session of what texts spell is read back: its text is UTF-8, as those texts are.
use Rattle.std.proofs.Common.{ℕ, ◌<◌, ◌≤◌, ◌^◌, List, [], ◌∷◌, ◌++◌, length, map, refl, sym, subst, All}
use Rattle.std.proofs.lemmas.List.Elements.{recursion_from_All, All-from_recursion, All-weaker}
use Rattle.std.proofs.lemmas.Str.{IsUtf8-nil}
use Rattle.std.specs.Fmt.{decimal}
use Rattle.std.specs.List.{AllByRecursion}
use Rattle.std.specs.Prelude.{codes, flat_map, IsUtf8}
use Rattle.rdl_tree.specs.AddressText.{address_text}
use Rattle.rdl_tree.specs.Items.{Items}
use Rattle.rdl_session.specs.Text.{PatchLines, insert, delete, shift, shell, value, target, type, name, shell_item, value_item, target_item, line_feed, count_line, counted, act, patch_text, step_text, steps_text, session_text, max_session}
use Rattle.rdl_tree.specs.View.{items_of}
use Rattle.rdl_tree.specs.declared.description.Item.{Item}
use Rattle.rdl_tree.specs.declared.part.Part.TheVariants.{OfShell, OfValue, OfTarget, OfType, OfDefine}
use Rattle.rdl_tree.specs.declared.patch.Patch.{Patch}
use Rattle.rdl_tree.specs.declared.patch.Patch.TheVariants.{Insert, Delete, Shift, Exchange}
use Rattle.rdl_session.specs.Spelling.{IsItemAddress, IsFreeName, SpellsItem, SpellsPatch, SpellsEach, SpellsSteps, SpellsSession}
use Rattle.rdl_session.proofs.Meant.{name-utf8}
use Rattle.rdl_write.specs.ItemText.{item_text}
use Rattle.rdl_write.specs.MapText.{map_text}
use Rattle.rdl_session.specs.Written.{written, session_lines}
use Rattle.rdl_round.specs.Writable.{IsWritable}
use Rattle.rdl_session.specs.Writable.{IsWritableItem, IsWritablePatch, AreWritable, IsSpelledMap, IsSpelledPatch, AreSpelled}
use Rattle.rdl_session.proofs.Endings.{item-text}
use Rattle.rdl_round.proofs.MadeOfWords.{spelled-made, statement-of-words}
use Rattle.rdl_session.proofs.Saved.{session-spells}
use Rattle.rdl_round.proofs.Spelled.{spelled-spellable, statement-spellable}
use Rattle.rdl_session.proofs.Strings.{strings-utf8, item-strings-utf8}
use Rattle.rdl_session.proofs.Utf8.{two, plain-utf8, decimal-utf8, all-utf8, body-utf8}

-- ---- What texts spell can be written.

pub map-writable : (d : Items) → IsSpelledMap d → IsWritable d
map-writable d s =
    let t = s.1.spelled in
    record { of_words = spelled-made s.0 t.ws d t.spots t.has_words.cut t.spelled; spellable = spelled-spellable t.ws d t.spots t.spelled; within = s.1.within }

item-writable : (text : List ℕ) (x : Item) → SpellsItem text x → IsWritableItem x
item-writable text x s =
    let t = s.spelled in
    record { of_words = statement-of-words text t.ws (x ∷ []) t.has_words.cut t.spelled; spellable = statement-spellable t.ws (x ∷ []) t.spelled; within = s.within }

lines-writable : (lines : PatchLines) (p : Patch) → SpellsPatch lines p → IsWritablePatch p
lines-writable (insert at text) (Insert place x) s = (subst IsItemAddress (sym s.1) s.0, item-writable text x s.2)
lines-writable (delete at) (Delete place) s = subst IsItemAddress (sym s.1) s.0
lines-writable (shift at to) (Shift place number) s = (subst IsItemAddress (sym s.1) s.0, subst (λ n. n < 2 ^ 64) (sym s.3) s.2)
lines-writable (shell at text) (Exchange place (OfShell h)) s = (subst IsItemAddress (sym s.1) s.0, item-writable text (shell_item h) s.2)
lines-writable (value at text) (Exchange place (OfValue v)) s = (subst IsItemAddress (sym s.1) s.0, item-writable text (value_item v) s.2)
lines-writable (target at text) (Exchange place (OfTarget t)) s = (subst IsItemAddress (sym s.1) s.0, item-writable text (target_item t) s.2)
lines-writable (type at new) (Exchange place (OfType n)) s = (subst IsItemAddress (sym s.1) s.0, subst IsFreeName (sym s.3) s.2)
lines-writable (name at new) (Exchange place (OfDefine n)) s = (subst IsItemAddress (sym s.1) s.0, subst IsFreeName (sym s.3) s.2)
lines-writable lines p s = absurd s

pub steps-writable : (steps : List (List Patch)) → AreSpelled steps → AreWritable steps
steps-writable steps s =
    All-weaker (All IsSpelledPatch) (All IsWritablePatch) (λ (patches : List Patch) h. All-weaker IsSpelledPatch IsWritablePatch (λ (p : Patch) k. lines-writable k.0 p k.1) patches h) steps s

-- ---- It is UTF-8.

feed-utf8 : IsUtf8 line_feed
feed-utf8 = plain-utf8 line_feed refl

blank-utf8 : IsUtf8 (codes " ")
blank-utf8 = plain-utf8 (codes " ") refl

dots-utf8 : (at : List ℕ) → IsUtf8 (flat_map (λ j. codes "." ++ decimal j) at)
dots-utf8 at = all-utf8 (λ j. codes "." ++ decimal j) (λ j. two (codes ".") (decimal j) (plain-utf8 (codes ".") refl) (decimal-utf8 j)) at

address-utf8 : (at : List ℕ) → IsUtf8 (address_text at)
address-utf8 [] = plain-utf8 (codes "-") refl
address-utf8 (i ∷ rest) = two (decimal i) (flat_map (λ j. codes "." ++ decimal j) rest) (decimal-utf8 i) (dots-utf8 rest)

act-utf8 : (word at : List ℕ) → IsUtf8 word → IsUtf8 (act word at)
act-utf8 word at h = two (word ++ codes " ") (address_text at) (two word (codes " ") h blank-utf8) (address-utf8 at)

-- a word, something behind it, and the end of the line
line-utf8 : (word behind : List ℕ) → IsUtf8 word → IsUtf8 behind → IsUtf8 (word ++ codes " " ++ behind ++ line_feed)
line-utf8 word behind h k = two (word ++ codes " " ++ behind) line_feed (two (word ++ codes " ") behind (two word (codes " ") h blank-utf8) k) feed-utf8

counted-utf8 : (word text : List ℕ) → IsUtf8 word → IsUtf8 text → IsUtf8 (counted word text)
unfolding counted
counted-utf8 word text h k = two (count_line word (length text)) text (line-utf8 word (decimal (length text)) h (decimal-utf8 (length text))) k

item-utf8 : (text : List ℕ) (x : Item) → SpellsItem text x → IsUtf8 (item_text [] x)
item-utf8 text x s =
    let t = s.spelled in
    subst IsUtf8 (item-text x)
    (body-utf8 (items_of (x ∷ [])) [] IsUtf8-nil (statement-of-words text t.ws (x ∷ []) t.has_words.cut t.spelled) (item-strings-utf8 text t.ws (x ∷ []) t.has_words.cut s.utf8 t.spelled))

patch-utf8 : (lines : PatchLines) (p : Patch) → SpellsPatch lines p → IsUtf8 (patch_text (written p))
unfolding patch_text
patch-utf8 (insert at text) (Insert place x) s = counted-utf8 (act (codes "insert") place) (item_text [] x) (act-utf8 (codes "insert") place (plain-utf8 (codes "insert") refl)) (item-utf8 text x s.2)
patch-utf8 (delete at) (Delete place) s = two (act (codes "delete") place) line_feed (act-utf8 (codes "delete") place (plain-utf8 (codes "delete") refl)) feed-utf8
patch-utf8 (shift at to) (Shift place number) s = line-utf8 (act (codes "shift") place) (decimal number) (act-utf8 (codes "shift") place (plain-utf8 (codes "shift") refl)) (decimal-utf8 number)
patch-utf8 (shell at text) (Exchange place (OfShell h)) s = counted-utf8 (act (codes "shell") place) (item_text [] (shell_item h)) (act-utf8 (codes "shell") place (plain-utf8 (codes "shell") refl)) (item-utf8 text (shell_item h) s.2)
patch-utf8 (value at text) (Exchange place (OfValue v)) s = counted-utf8 (act (codes "value") place) (item_text [] (value_item v)) (act-utf8 (codes "value") place (plain-utf8 (codes "value") refl)) (item-utf8 text (value_item v) s.2)
patch-utf8 (target at text) (Exchange place (OfTarget t)) s = counted-utf8 (act (codes "target") place) (item_text [] (target_item t)) (act-utf8 (codes "target") place (plain-utf8 (codes "target") refl)) (item-utf8 text (target_item t) s.2)
patch-utf8 (type at new) (Exchange place (OfType n)) s = line-utf8 (act (codes "type") place) n (act-utf8 (codes "type") place (plain-utf8 (codes "type") refl)) (subst IsUtf8 (sym s.3) (name-utf8 new s.2.name))
patch-utf8 (name at new) (Exchange place (OfDefine n)) s = line-utf8 (act (codes "name") place) n (act-utf8 (codes "name") place (plain-utf8 (codes "name") refl)) (subst IsUtf8 (sym s.3) (name-utf8 new s.2.name))
patch-utf8 lines p s = absurd s

each-utf8 : {A B : Type 0} (write : B → A) (show : A → List ℕ) (ys : List B) → AllByRecursion (λ y. IsUtf8 (show (write y))) ys → IsUtf8 (flat_map show (map write ys))
each-utf8 write show [] h = IsUtf8-nil
each-utf8 write show (y ∷ ys) h = two (show (write y)) (flat_map show (map write ys)) h.0 (each-utf8 write show ys h.1)

abbrev IsPatchUtf8 : Patch → Type 0
IsPatchUtf8 p = IsUtf8 (patch_text (written p))

abbrev IsStepUtf8 : List Patch → Type 0
IsStepUtf8 patches = IsUtf8 (step_text (map written patches))

step-utf8 : (patches : List Patch) → All IsSpelledPatch patches → IsStepUtf8 patches
unfolding step_text
step-utf8 patches h =
    let lines = map written patches in
    let all = All-weaker IsSpelledPatch IsPatchUtf8 (λ (p : Patch) k. patch-utf8 k.0 p k.1) patches h in
    two (count_line (codes "back") (length lines)) (flat_map patch_text lines)
    (line-utf8 (codes "back") (decimal (length lines)) (plain-utf8 (codes "back") refl) (decimal-utf8 (length lines)))
    (each-utf8 written patch_text patches (recursion_from_All IsPatchUtf8 patches all))

steps-utf8 : (word : List ℕ) (steps : List (List Patch)) → IsUtf8 word → AreSpelled steps → IsUtf8 (steps_text word (map (map written) steps))
unfolding steps_text
steps-utf8 word steps w h =
    let lines = map (map written) steps in
    let all = All-weaker (All IsSpelledPatch) IsStepUtf8 step-utf8 steps h in
    two (count_line word (length lines)) (flat_map step_text lines) (line-utf8 word (decimal (length lines)) w (decimal-utf8 (length lines)))
    (each-utf8 (map written) step_text steps (recursion_from_All IsStepUtf8 steps all))

session-utf8 : (d : Items) (undo redo : List (List Patch)) → IsSpelledMap d → AreSpelled undo → AreSpelled redo → IsUtf8 (session_text (session_lines d undo redo))
unfolding session_text
session-utf8 d undo redo h u r =
    let t = h.1.spelled in
    let first = codes "regedit session 1" ++ line_feed in
    let second = counted (codes "map") (map_text d) in
    let third = steps_text (codes "undo") (map (map written) undo) in
    let fourth = steps_text (codes "redo") (map (map written) redo) in
    let map_is = body-utf8 d [] IsUtf8-nil (spelled-made h.0 t.ws d t.spots t.has_words.cut t.spelled) (strings-utf8 h.0 t.ws d t.spots t.has_words.cut h.1.utf8 t.spelled) in
    two (first ++ second ++ third ++ fourth ++ codes "end") line_feed
    (two (first ++ second ++ third ++ fourth) (codes "end")
    (two (first ++ second ++ third) fourth
    (two (first ++ second) third
    (two first second (plain-utf8 first refl) (counted-utf8 (codes "map") (map_text d) (plain-utf8 (codes "map") refl) map_is))
    (steps-utf8 (codes "undo") undo (plain-utf8 (codes "undo") refl) u))
    (steps-utf8 (codes "redo") redo (plain-utf8 (codes "redo") refl) r))
    (plain-utf8 (codes "end") refl))
    feed-utf8

pub spelled-session : (d : Items) (undo redo : List (List Patch)) → IsSpelledMap d → AreSpelled undo → AreSpelled redo → length (session_text (session_lines d undo redo)) ≤ max_session → SpellsSession (session_text (session_lines d undo redo)) d undo redo
spelled-session d undo redo h u r short =
    session-spells d undo redo (map-writable d h) (steps-writable undo u) (steps-writable redo r) (record { utf8 = session-utf8 d undo redo h u r; short = short })

-- ---- A session that was read.

some-spells : {A B : Type 0} (spells : A → B → Type 0) (xs : List A) (ys : List B) → SpellsEach spells xs ys → AllByRecursion (λ y. (x : A) × spells x y) ys
some-spells spells [] [] s = tt
some-spells spells [] (y ∷ ys) s = absurd s
some-spells spells (x ∷ xs) [] s = absurd s
some-spells spells (x ∷ xs) (y ∷ ys) s = ((x, s.0), some-spells spells xs ys s.1)

pub all-spelled : (lines : List (List PatchLines)) (steps : List (List Patch)) → SpellsSteps lines steps → AreSpelled steps
all-spelled lines steps s =
    let some = All-from_recursion _ steps (some-spells (SpellsEach SpellsPatch) lines steps s) in
    All-weaker _ (All IsSpelledPatch) (λ (patches : List Patch) (k : (l : List PatchLines) × SpellsEach SpellsPatch l patches). All-from_recursion IsSpelledPatch patches (some-spells SpellsPatch k.0 patches k.1)) steps some

pub read-session : (text : List ℕ) (d : Items) (undo redo : List (List Patch)) → SpellsSession text d undo redo → length (session_text (session_lines d undo redo)) ≤ max_session → SpellsSession (session_text (session_lines d undo redo)) d undo redo
read-session text d undo redo s short = spelled-session d undo redo (s.lines.map, s.spells_map) (all-spelled s.lines.undo undo s.spells_undo) (all-spelled s.lines.redo redo s.spells_redo) short
