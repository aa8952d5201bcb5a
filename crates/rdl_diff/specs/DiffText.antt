-- The lines that say how the rows of one map differ from those of another: a row stands for the row of the same path, but where it
-- or what holds it was renamed for that of its new path. Own.
use Rattle.std.specs.Prelude.{ℕ, Bool, true, false, List, [], ◌∷◌, ◌++◌, map, Option, Some, None, codes, if◌then◌else◌}
use Rattle.std.specs.List.{filter, flat_map, list_any}
use Rattle.std.specs.Option.{option_eq}
use Rattle.rdl_elab.specs.Reaches.{value_under}
use Rattle.rdl_elab.specs.declared.row.Row.{Row}
use Rattle.rdl_tree.specs.Properties.{row as row_of}
use Rattle.rdl_tree.specs.declared.property.Property.{Property}
use Rattle.rdl_tree.specs.declared.property.Property.TheVariants.{Sw, Hw, Onread, Onwrite, Name}
use Rattle.rdl_tree.specs.declared.value.Value.{Value}
use Rattle.rdl_list.specs.ListText.{path_text, line_of, text_of}
use Rattle.rdl_write.specs.Texts.{newline}
use Rattle.rdl_diff.specs.Breaking.{breaks, mark}
use Rattle.rdl_diff.specs.Choices.{is_told}
use Rattle.rdl_diff.specs.Paths.{path, row_at}
use Rattle.rdl_diff.specs.Renames.{new_path, renames, row_from}
use Rattle.rdl_diff.specs.Told.{Told, told, told_text, told_value_text, same, same_value, what_text, whats}
use Rattle.rdl_diff.specs.declared.choice.Choice.{Choice}
use Rattle.rdl_diff.specs.declared.choice.Severity.{Severity}
use Rattle.rdl_diff.specs.declared.choice.Severity.TheVariants.{Any, Breaking}
use Rattle.rdl_diff.specs.declared.moves.Moves.{Moves}
use Rattle.rdl_diff.specs.declared.moves.Moves.TheVariants.{Own, Each}
use Rattle.rdl_diff.specs.declared.what.What.{What}
use Rattle.rdl_diff.specs.declared.what.What.TheVariants as what

-- ---- What differs.

-- one part of two rows of a path
pub record Change : Type 0 where
  pub what : What
  pub old : Told
  pub new : Told

abbrev pub change : Row → Row → What → List Change
change old new w = if same (told w old) (told w new) then [] else record { what = w; old = told w old; new = told w new } ∷ []

-- a base stands beside the offset, or wherever it differs
abbrev pub base_change : Moves → Row → Row → List Change
base_change Own old new = if same (told what.Offset old) (told what.Offset new) then [] else change old new what.Base
base_change Each old new = change old new what.Base

abbrev pub told_change : (ignored : List Property) → Row → Row → What → List Change
told_change ignored old new w = if is_told ignored w then change old new w else []

abbrev pub changes : Choice → Row → Row → List Change
changes c old new = change old new what.Kind ++ base_change c.moves old new ++ flat_map (told_change c.ignored.items old new) whats

abbrev pub is_breaking : Change → Bool
is_breaking c = breaks c.what c.old c.new

-- a row that has another name, a row whose path only the first map has, one whose path only the second has, or a path of both with
-- what differs there
pub data Line : Type 0 where
  renamed : Row → Row → Line
  gone : Row → Line
  come : Row → Line
  changed : List (List ℕ) → List Change → Line

-- what is told of it breaks software
abbrev pub is_marked : Line → Bool
is_marked (renamed old new) = true
is_marked (gone r) = true
is_marked (come r) = false
is_marked (changed p cs) = list_any is_breaking cs

abbrev pub is_kept : Severity → Line → Bool
is_kept Any l = true
is_kept Breaking l = is_marked l

-- of a row of the first map, and what the second has at its path
abbrev pub gone_line : Option Row → Row → List Line
gone_line None old = gone old ∷ []
gone_line (Some new) old = []

abbrev pub changed_line : List (List ℕ) → List Change → List Line
changed_line p [] = []
changed_line p (c ∷ cs) = changed p (c ∷ cs) ∷ []

-- of a row of the second map, and what the first has at its path
abbrev pub new_line : Choice → Option Row → Row → List Line
new_line c None new = come new ∷ []
new_line c (Some old) new = changed_line (path new) (changes c old new)

-- where these were renamed: they; then what is gone, in the order of the first map; then the others, in that of the second
abbrev pub lines_beside : List (Row × Row) → Choice → (old new : List Row) → List Line
lines_beside xs c old new = map (λ x. renamed x.0 x.1) xs
    ++ flat_map (λ r. gone_line (row_at (new_path xs r) new) r) old
    ++ flat_map (λ r. new_line c (row_from xs (path r) old) r) new

-- those that are asked
abbrev pub lines : Choice → (old new : List Row) → List Line
lines c old new = filter (is_kept c.severity) (lines_beside (renames old new) c old new)

-- ---- Their text.

-- `WHAT OLD -> NEW`
unfoldable pub change_text : Change → List ℕ
change_text c = what_text c.what ++ codes " " ++ told_text c.old ++ codes " -> " ++ told_text c.new

-- texts with commas between them
abbrev pub listed : List (List ℕ) → List ℕ
listed [] = []
listed (t ∷ ts) = t ++ flat_map (λ u. codes ", " ++ u) ts

-- what is told of a new row behind what `list` prints: the access of software and of the hardware, what a read and a write do
-- besides, and the name
unfoldable pub told_anew : List Property
told_anew = Sw ∷ Hw ∷ Onread ∷ Onwrite ∷ Name ∷ []

-- ` PROPERTY VALUE`, of a value that isn't built in
abbrev pub stated_text : Property → Option Value → List ℕ
stated_text p None = []
stated_text p (Some v) = if option_eq same_value (Some v) (row_of p).built_in then [] else codes " " ++ (row_of p).name ++ codes " " ++ told_value_text v

abbrev pub stated_texts : Row → List ℕ
stated_texts r = flat_map (λ p. stated_text p (value_under p r.values)) told_anew

unfoldable pub whole_text : Row → List ℕ
whole_text r = text_of (path_text (path r)) r ++ stated_texts r

-- `= PATH -> PATH`, `- ROW`, `+ ROW` and `~ PATH: CHANGE, ..`, with a mark in front of what breaks software; the PATH of a row is
-- below the top, too
unfoldable pub line_text : Line → List ℕ
line_text (renamed old new) = codes "! = " ++ path_text (path old) ++ codes " -> " ++ path_text (path new) ++ newline
line_text (gone r) = codes "! - " ++ line_of (path_text (path r)) r
line_text (come r) = codes "+ " ++ whole_text r ++ newline
line_text (changed p cs) = mark (list_any is_breaking cs) ++ codes "~ " ++ path_text p ++ codes ": " ++ listed (map change_text cs) ++ newline
