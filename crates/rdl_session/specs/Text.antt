-- The text of a session: a map, the steps that lead back from it, and those that lead on, each list with the next one to
-- be taken first. A step is a list of patches. The texts of the map and of items stand in it as they are.
-- own: SystemRDL 2.0 has no sessions.
use Rattle.std.specs.Prelude.{ℕ, true, List, [], ◌∷◌, ◌++◌, length, codes, flat_map}
use Rattle.std.specs.Fmt.{decimal}
use Rattle.rdl_tree.specs.AddressText.{address_text}
use Rattle.rdl_tree.specs.declared.description.Item.{Item}
use Rattle.rdl_tree.specs.declared.description.Item.TheVariants.{Instance, Own, Dynamic}
use Rattle.rdl_tree.specs.declared.description.Of.TheVariants.{Named}
use Rattle.rdl_tree.specs.declared.shell.Shell.{Shell}
use Rattle.rdl_tree.specs.declared.value.Value.{Value}
use Rattle.rdl_tree.specs.declared.value.Value.TheVariants.{Bool as Boolean}

-- a patch as it is written: what it does, the address, and a number, a name, or the text of one item
pub data PatchLines : Type 0 where
  insert : (at : List ℕ) → (text : List ℕ) → PatchLines
  delete : (at : List ℕ) → PatchLines
  shift : (at : List ℕ) → (to : ℕ) → PatchLines
  shell : (at : List ℕ) → (text : List ℕ) → PatchLines
  value : (at : List ℕ) → (text : List ℕ) → PatchLines
  target : (at : List ℕ) → (text : List ℕ) → PatchLines
  type : (at : List ℕ) → (name : List ℕ) → PatchLines
  name : (at : List ℕ) → (name : List ℕ) → PatchLines

pub record SessionLines : Type 0 where
  pub map : List ℕ
  pub undo : List (List PatchLines)
  pub redo : List (List PatchLines)

-- the items that stand for a part: an instance of a type `T`, an own property `p`, an assignment of `true` to the property `p`
abbrev pub shell_item : Shell → Item
shell_item s = Instance s (Named (codes "T"))

abbrev pub value_item : Value → Item
value_item v = Own (codes "p") v

abbrev pub target_item : List (List ℕ) → Item
target_item t = Dynamic t (codes "p") (Boolean true)

-- ---- The text.

abbrev pub line_feed : List ℕ
line_feed = 10 ∷ []

-- a word, how many come behind it, and the end of the line
abbrev pub count_line : (word : List ℕ) → ℕ → List ℕ
count_line word n = word ++ codes " " ++ decimal n ++ line_feed

-- the same of the bytes of a text, and the text
unfoldable pub counted : (word text : List ℕ) → List ℕ
counted word text = count_line word (length text) ++ text

-- what a patch does, and where
abbrev pub act : (word at : List ℕ) → List ℕ
act word at = word ++ codes " " ++ address_text at

unfoldable pub patch_text : PatchLines → List ℕ
patch_text (insert at text) = counted (act (codes "insert") at) text
patch_text (delete at) = act (codes "delete") at ++ line_feed
patch_text (shift at to) = act (codes "shift") at ++ codes " " ++ decimal to ++ line_feed
patch_text (shell at text) = counted (act (codes "shell") at) text
patch_text (value at text) = counted (act (codes "value") at) text
patch_text (target at text) = counted (act (codes "target") at) text
patch_text (type at new) = act (codes "type") at ++ codes " " ++ new ++ line_feed
patch_text (name at new) = act (codes "name") at ++ codes " " ++ new ++ line_feed

unfoldable pub step_text : List PatchLines → List ℕ
step_text patches = count_line (codes "back") (length patches) ++ flat_map patch_text patches

unfoldable pub steps_text : (word : List ℕ) → List (List PatchLines) → List ℕ
steps_text word steps = count_line word (length steps) ++ flat_map step_text steps

unfoldable pub session_text : SessionLines → List ℕ
session_text s =
    codes "regedit session 1" ++ line_feed ++ counted (codes "map") s.map
    ++ steps_text (codes "undo") s.undo ++ steps_text (codes "redo") s.redo ++ codes "end" ++ line_feed

-- the most bytes that a session may have
abbrev pub max_session : ℕ
max_session = 67108864

-- ---- A session that keeps the text of its first map.

-- the source text in front of a session
unfoldable pub with_source : (source session : List ℕ) → List ℕ
with_source source session = codes "regedit session 2" ++ line_feed ++ counted (codes "source") source ++ session
