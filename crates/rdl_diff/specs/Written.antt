-- The texts that a comparison writes, line by line. Own.
use Rattle.std.specs.Prelude.{ℕ, List, [], ◌∷◌, ◌++◌, map}
use Rattle.std.specs.List.{flat_map}
use Rattle.rdl_elab.specs.declared.row.Row.{Row}
use Rattle.rdl_diff.specs.Alike.{Entry, Item, item, told_once}
use Rattle.rdl_diff.specs.DiffText.{Line, lines}
use Rattle.rdl_diff.specs.Json.{json_text}
use Rattle.rdl_diff.specs.Markdown.{markdown_text, table_head}
use Rattle.rdl_diff.specs.PlainText.{plain_text}
use Rattle.rdl_diff.specs.declared.choice.Choice.{Choice}
use Rattle.rdl_diff.specs.declared.choice.Format.{Format}
use Rattle.rdl_diff.specs.declared.choice.Format.TheVariants.{Text, Markdown, Json}
use Rattle.rdl_diff.specs.declared.moves.Moves.{Moves}
use Rattle.rdl_diff.specs.declared.moves.Moves.TheVariants.{Own, Each}

-- the same is told once, but where each is asked
abbrev pub told_items : Moves → List Item → List Item
told_items Own items = told_once items
told_items Each items = items

abbrev pub entries_of : Moves → List Line → List Entry
entries_of m ls = map (λ i. i.entry) (told_items m (map item ls))

abbrev pub entries : Choice → (old new : List Row) → List Entry
entries c old new = entries_of c.moves (lines c old new)

abbrev pub text_in : Format → Entry → List ℕ
text_in Text e = plain_text e
text_in Markdown e = markdown_text e
text_in Json e = json_text e

-- a table has a head, where it has a row
abbrev pub head_of : Format → List Entry → List (List ℕ)
head_of Markdown (e ∷ es) = table_head ∷ []
head_of f es = []

abbrev pub texts_of : Format → List Entry → List (List ℕ)
texts_of f es = head_of f es ++ map (text_in f) es

abbrev pub diff_texts : Choice → (old new : List Row) → List (List ℕ)
diff_texts c old new = texts_of c.format (entries c old new)

abbrev pub diff_text : Choice → (old new : List Row) → List ℕ
diff_text c old new = flat_map (λ t. t) (diff_texts c old new)
