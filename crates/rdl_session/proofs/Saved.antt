-- A written session is read back.
use Rattle.std.proofs.Common.{◌≡◌, ℕ, ◌≤◌, List, [], ◌∷◌, ◌++◌, length, map, inl, inr, refl, sym, subst, append_assoc, All, Result, Ok, Err}
use Rattle.std.proofs.lemmas.List.Elements.{recursion_from_All}
use Rattle.std.specs.Fmt.{decimal}
use Rattle.std.specs.List.{AllByRecursion}
use Rattle.std.specs.Prelude.{codes, flat_map, IsUtf8, MatchResult, ◌⊎◌}
use Rattle.rdl_tree.specs.Items.{Items}
use Rattle.rdl_session.specs.Text.{shell_item, value_item, target_item, line_feed, count_line, counted, act, patch_text, step_text, steps_text, session_text, max_session}
use Rattle.rdl_tree.specs.View.{items_of}
use Rattle.rdl_tree.specs.declared.description.Item.{Item}
use Rattle.rdl_tree.specs.declared.part.Part.TheVariants.{OfShell, OfValue, OfTarget, OfType, OfDefine}
use Rattle.rdl_tree.specs.declared.patch.Patch.{Patch}
use Rattle.rdl_tree.specs.declared.patch.Patch.TheVariants.{Insert, Delete, Shift, Exchange}
use Rattle.rdl_parse.specs.Faults.{max_text}
use Rattle.rdl_parse.specs.Parsing.{SpellsItemText}
use Rattle.rdl_session.specs.Spelling.{SpellsItem, SpellsPatch, SpellsEach, SpellsSteps, SpellsSession}
use Rattle.rdl_parse.specs.Spelling.{SpellsItems}
use Rattle.rdl_write.specs.ItemText.{item_text}
use Rattle.rdl_write.specs.MapText.{map_text}
use Rattle.rdl_session.specs.Written.{written, session_lines}
use Rattle.rdl_round.specs.Writable.{IsWritable}
use Rattle.rdl_round.specs.OfWords.{IsOfWords}
use Rattle.rdl_session.specs.Writable.{IsWritableItem, IsWritablePatch, AreWritable}
use Rattle.rdl_round.specs.Spellable.{IsSpellable}
use Rattle.rdl_round.specs.WrittenWords.{map_words, HasSymbols}
use Rattle.rdl_round.proofs.Back.{reads-back}
use Rattle.rdl_session.proofs.Endings.{Ends, IsText, ends-both, split, body-ends, item-text, item-ends}
use Rattle.rdl_round.proofs.Lines.{map-cut}
use Rattle.rdl_round.proofs.Statements.{written-item-spells}

-- ---- One item.

pub item-spelled : (x : Item) → IsOfWords (items_of (x ∷ [])) → IsSpellable (items_of (x ∷ [])) → length (item_text [] x) ≤ max_text → SpellsItemText (item_text [] x) (x ∷ [])
item-spelled x h k short =
    let cut = subst (λ s. HasSymbols s (map_words (items_of (x ∷ [])))) (item-text x) (map-cut (items_of (x ∷ [])) h) in
    record {
      ws = cut.0;
      has_words = record { short = short; cut = cut.1 };
      spelled = subst (λ ws. SpellsItems ws (x ∷ [])) (sym cut.2) (written-item-spells x k);
    }

-- ---- Lines with a count.

count-ends : (word : List ℕ) (n : ℕ) → Ends (count_line word n)
count-ends word n = inr (word ++ codes " " ++ decimal n, refl)

counted-ends : (word text : List ℕ) → Ends text → Ends (counted word text)
unfolding counted
counted-ends word text e = ends-both (count_line word (length text)) text (count-ends word (length text)) e

inside : (word text : List ℕ) → IsText (counted word text) → IsText text
unfolding counted
inside word text t = (split (count_line word (length text)) text (count-ends word (length text)) t).1

-- ---- Patches.

patch-ends : (p : Patch) → Ends (patch_text (written p))
unfolding patch_text
patch-ends (Insert at x) = counted-ends (act (codes "insert") at) (item_text [] x) (item-ends x)
patch-ends (Delete at) = inr (act (codes "delete") at, refl)
patch-ends (Shift at to) = inr (act (codes "shift") at ++ codes " " ++ decimal to, refl)
patch-ends (Exchange at (OfShell s)) = counted-ends (act (codes "shell") at) (item_text [] (shell_item s)) (item-ends (shell_item s))
patch-ends (Exchange at (OfValue v)) = counted-ends (act (codes "value") at) (item_text [] (value_item v)) (item-ends (value_item v))
patch-ends (Exchange at (OfTarget t)) = counted-ends (act (codes "target") at) (item_text [] (target_item t)) (item-ends (target_item t))
patch-ends (Exchange at (OfType n)) = inr (act (codes "type") at ++ codes " " ++ n, refl)
patch-ends (Exchange at (OfDefine n)) = inr (act (codes "name") at ++ codes " " ++ n, refl)

item-spells : (word : List ℕ) (x : Item) → IsWritableItem x → IsText (counted word (item_text [] x)) → SpellsItem (item_text [] x) x
item-spells word x h t =
    let text = inside word (item_text [] x) t in
    record { utf8 = text.utf8; spelled = item-spelled x h.of_words h.spellable text.short; within = h.within }

patch-spells : (p : Patch) → IsWritablePatch p → IsText (patch_text (written p)) → SpellsPatch (written p) p
unfolding patch_text
patch-spells (Insert at x) h t = (h.0, refl, item-spells (act (codes "insert") at) x h.1 t)
patch-spells (Delete at) h t = (h, refl)
patch-spells (Shift at to) h t = (h.0, refl, h.1, refl)
patch-spells (Exchange at (OfShell s)) h t = (h.0, refl, item-spells (act (codes "shell") at) (shell_item s) h.1 t)
patch-spells (Exchange at (OfValue v)) h t = (h.0, refl, item-spells (act (codes "value") at) (value_item v) h.1 t)
patch-spells (Exchange at (OfTarget t)) h u = (h.0, refl, item-spells (act (codes "target") at) (target_item t) h.1 u)
patch-spells (Exchange at (OfType n)) h t = (h.0, refl, h.1, refl)
patch-spells (Exchange at (OfDefine n)) h t = (h.0, refl, h.1, refl)

-- ---- One after another: what is written of each, and the texts of that.

module _ {A B : Type 0} (write : B → A) (show : A → List ℕ) (spells : A → B → Type 0) (Good : B → Type 0) (ends : (y : B) → Ends (show (write y))) where
  each-ends : (ys : List B) → Ends (flat_map show (map write ys))
  each-ends [] = inl refl
  each-ends (y ∷ ys) = ends-both (show (write y)) (flat_map show (map write ys)) (ends y) (each-ends ys)

  each-spells : ((y : B) → Good y → IsText (show (write y)) → spells (write y) y) → (ys : List B) → AllByRecursion Good ys → IsText (flat_map show (map write ys)) → SpellsEach spells (map write ys) ys
  each-spells one [] h t = tt
  each-spells one (y ∷ ys) h t =
      let parts = split (show (write y)) (flat_map show (map write ys)) (ends y) t in
      (one y h.0 parts.0, each-spells one ys h.1 parts.1)

step-ends : (patches : List Patch) → Ends (step_text (map written patches))
unfolding step_text
step-ends patches =
    let lines = map written patches in
    ends-both (count_line (codes "back") (length lines)) (flat_map patch_text lines) (count-ends (codes "back") (length lines)) (each-ends written patch_text SpellsPatch IsWritablePatch patch-ends patches)

step-spells : (patches : List Patch) → All IsWritablePatch patches → IsText (step_text (map written patches)) → SpellsEach SpellsPatch (map written patches) patches
unfolding step_text
step-spells patches h t =
    let lines = map written patches in
    let parts = split (count_line (codes "back") (length lines)) (flat_map patch_text lines) (count-ends (codes "back") (length lines)) t in
    each-spells written patch_text SpellsPatch IsWritablePatch patch-ends patch-spells patches (recursion_from_All IsWritablePatch patches h) parts.1

abbrev AreGood : List Patch → Type 0
AreGood patches = All IsWritablePatch patches

steps-ends : (word : List ℕ) (steps : List (List Patch)) → Ends (steps_text word (map (map written) steps))
unfolding steps_text
steps-ends word steps =
    let lines = map (map written) steps in
    ends-both (count_line word (length lines)) (flat_map step_text lines) (count-ends word (length lines)) (each-ends (map written) step_text (SpellsEach SpellsPatch) AreGood step-ends steps)

steps-spell : (word : List ℕ) (steps : List (List Patch)) → AreWritable steps → IsText (steps_text word (map (map written) steps)) → SpellsSteps (map (map written) steps) steps
unfolding steps_text
steps-spell word steps h t =
    let lines = map (map written) steps in
    let parts = split (count_line word (length lines)) (flat_map step_text lines) (count-ends word (length lines)) t in
    each-spells (map written) step_text (SpellsEach SpellsPatch) AreGood step-ends step-spells steps (recursion_from_All AreGood steps h) parts.1

-- ---- The session.

pub session-spells : (d : Items) (undo redo : List (List Patch)) → IsWritable d → AreWritable undo → AreWritable redo → IsText (session_text (session_lines d undo redo)) → SpellsSession (session_text (session_lines d undo redo)) d undo redo
unfolding session_text
session-spells d undo redo h u r t =
    let first = codes "regedit session 1" ++ line_feed in
    let second = counted (codes "map") (map_text d) in
    let third = steps_text (codes "undo") (map (map written) undo) in
    let fourth = steps_text (codes "redo") (map (map written) redo) in
    let first-ends : Ends first = inr (codes "regedit session 1", refl) in
    let two-end = ends-both first second first-ends (counted-ends (codes "map") (map_text d) (body-ends d [])) in
    let three-end = ends-both (first ++ second) third two-end (steps-ends (codes "undo") undo) in
    let four-end = ends-both (first ++ second ++ third) fourth three-end (steps-ends (codes "redo") redo) in
    let whole = subst IsText (append_assoc (first ++ second ++ third ++ fourth) (codes "end") line_feed) t in
    let four = (split (first ++ second ++ third ++ fourth) (codes "end" ++ line_feed) four-end whole).0 in
    let three = split (first ++ second ++ third) fourth three-end four in
    let two = split (first ++ second) third two-end three.0 in
    let map_is = inside (codes "map") (map_text d) (split first second first-ends two.0).1 in
    let spelled = reads-back d h.of_words h.spellable map_is.short in
    record {
      lines = session_lines d undo redo;
      text_is = refl;
      short = t.short;
      spells_map = record { utf8 = map_is.utf8; places = spelled.0; spelled = spelled.1; within = h.within };
      spells_undo = steps-spell (codes "undo") undo u two.1;
      spells_redo = steps-spell (codes "redo") redo r three.1;
    }

-- ---- What is answered for a text.

pub text-spells : (s : List ℕ) (d : Items) (undo redo : List (List Patch)) → s ≡ session_text (session_lines d undo redo) → IsUtf8 s → length s ≤ max_session → IsWritable d → AreWritable undo → AreWritable redo → SpellsSession s d undo redo
text-spells s d undo redo e utf8 short h u r =
    let t : IsText s = record { utf8 = utf8; short = short } in
    subst (λ (x : List ℕ). SpellsSession x d undo redo) (sym e) (session-spells d undo redo h u r (subst IsText e t))
