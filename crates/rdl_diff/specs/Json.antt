-- Entries as objects in JSON, one on each line. Own; how a value is written is of `serde_json`.
use Rattle.std.specs.Prelude.{ℕ, Bool, true, false, List, [], ◌∷◌, ◌++◌, map, Option, Some, None, codes, if◌then◌else◌}
use Rattle.std.specs.List.{flat_map, list_any}
use Rattle.rdl_list.specs.ListText.{path_text, span_text}
use Rattle.rdl_tree.specs.declared.property.Property.TheVariants.{Reset, Sw, Hw, Onread, Onwrite, Name}
use Rattle.rdl_tree.specs.declared.value.Value.{Value}
use Rattle.rdl_tree.specs.declared.value.Value.TheVariants as given
use Rattle.rdl_write.specs.Texts.{hexadecimal, kind_text, newline, value_text}
use Rattle.serde_json.specs.Data.{Data, null, boolean, string, array, object, no_members, member}
use Rattle.serde_json.specs.View.{items_of}
use Rattle.serde_json.specs.Written.{compact_text}
use Rattle.rdl_diff.specs.Alike.{Entry, alike, line}
use Rattle.rdl_diff.specs.DiffText.{Change, Line, renamed, gone, come, changed, is_breaking}
use Rattle.rdl_diff.specs.Paths.{path}
use Rattle.rdl_diff.specs.Told.{Told, kind, number, sizes, bits, value, told, sizes_text, what_text}
use Rattle.rdl_diff.specs.declared.what.What.{What}
use Rattle.rdl_diff.specs.declared.what.What.TheVariants as what

-- ---- What a row tells.

-- a number as its text, since a reader may keep 53 bits of one; a string as it is spelled
abbrev pub value_data : Value → Data
value_data (given.Number n) = string (hexadecimal n)
value_data (given.Text t) = string t
value_data (given.Bool b) = boolean b
value_data (given.Word w) = string (value_text (given.Word w))

abbrev pub or_null : {A : Type 0} → (A → Data) → Option A → Data
or_null data_of None = null
or_null data_of (Some a) = data_of a

abbrev pub sizes_data : List ℕ → Data
sizes_data [] = null
sizes_data (dim ∷ dims) = string (sizes_text (dim ∷ dims))

abbrev pub told_data : Told → Data
told_data (kind k) = string (kind_text k)
told_data (number n) = or_null (λ m. string (hexadecimal m)) n
told_data (sizes dims) = sizes_data dims
told_data (bits s) = or_null (λ b. string (span_text b)) s
told_data (value v) = or_null value_data v

-- ---- Lines.

-- `{"new":NEW,"old":OLD,"what":WHAT}`
unfoldable pub change_data : (what : List ℕ) → (old new : Data) → Data
change_data what old new = object (member (codes "new") new (member (codes "old") old (member (codes "what") (string what) no_members)))

abbrev pub changed_data : Change → Data
changed_data c = change_data (what_text c.what) (told_data c.old) (told_data c.new)

-- all that is told of a row that one map alone has, and the other tells nothing of it
unfoldable pub whole : List What
whole = what.Kind ∷ what.Base ∷ what.Offset ∷ what.Size ∷ what.Dims ∷ what.Stride ∷ what.Bits
    ∷ map what.Value (Reset ∷ Sw ∷ Hw ∷ Onread ∷ Onwrite ∷ Name ∷ [])

abbrev pub is_null : Data → Bool
is_null null = true
is_null d = false

abbrev pub gone_data : What → Data → List Data
gone_data w d = if is_null d then [] else change_data (what_text w) d null ∷ []

abbrev pub come_data : What → Data → List Data
come_data w d = if is_null d then [] else change_data (what_text w) null d ∷ []

-- `{"breaks":BREAKS,"changes":[CHANGE,..],"line":LINE,"path":PATH}`
unfoldable pub object_of : (breaks : Bool) → (word at : List ℕ) → (changes : List Data) → Data
object_of b word at changes =
    object (member (codes "breaks") (boolean b)
    (member (codes "changes") (array (items_of changes))
    (member (codes "line") (string word)
    (member (codes "path") (string at) no_members))))

abbrev pub line_data : Line → Data
line_data (renamed old new) = object_of true (codes "renamed") (path_text (path new)) (change_data (codes "path") (string (path_text (path old))) (string (path_text (path new))) ∷ [])
line_data (gone r) = object_of true (codes "gone") (path_text (path r)) (flat_map (λ w. gone_data w (told_data (told w r))) whole)
line_data (come r) = object_of false (codes "new") (path_text (path r)) (flat_map (λ w. come_data w (told_data (told w r))) whole)
line_data (changed p cs) = object_of (list_any is_breaking cs) (codes "differs") (path_text p) (map changed_data cs)

-- `{"line":"alike","paths":[PATH,..]}`
unfoldable pub alike_data : (paths : List Data) → Data
alike_data paths = object (member (codes "line") (string (codes "alike")) (member (codes "paths") (array (items_of paths)) no_members))

abbrev pub entry_data : Entry → Data
entry_data (alike ps) = alike_data (map (λ p. string (path_text p)) ps)
entry_data (line l) = line_data l

abbrev pub json_text : Entry → List ℕ
json_text e = compact_text (entry_data e) ++ newline
