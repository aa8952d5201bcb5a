-- Entries as rows of a table in Markdown, as GitHub and GitLab read it. Own.
use Rattle.std.specs.Prelude.{ℕ, ◌==◌, Bool, true, false, List, [], ◌∷◌, ◌++◌, map, length, codes, if◌then◌else◌}
use Rattle.std.specs.Fmt.{decimal}
use Rattle.std.specs.List.{flat_map, list_any}
use Rattle.rdl_list.specs.ListText.{path_text, text_of}
use Rattle.rdl_diff.specs.Alike.{Entry, alike, line}
use Rattle.rdl_diff.specs.Breaking.{mark}
use Rattle.rdl_diff.specs.DiffText.{Line, renamed, gone, come, changed, change_text, is_breaking, listed, whole_text}
use Rattle.rdl_diff.specs.Paths.{path}

unfoldable pub table_head : List ℕ
table_head = codes "| Breaks | What | Where | How |\n|---|---|---|---|\n"

-- a byte or a character of a code span, whose own text this is: a bar would end the cell, and a backtick the span, so it is shown
-- as `\x60`
unfoldable pub in_span : ℕ → (own : List ℕ) → List ℕ
in_span c own =
    if c == 124 then codes "\\|"
    else if c == 96 then codes "\\x60"
    else own

abbrev pub spanned : List ℕ → List ℕ
spanned text = flat_map (λ b. in_span b (b ∷ [])) text

unfoldable pub span : List ℕ → List ℕ
span text = codes "`" ++ spanned text ++ codes "`"

-- `| MARK | WHAT | PLACE | HOW |`
unfoldable pub table_row : (is_breaking : Bool) → (what place how : List ℕ) → List ℕ
table_row b what place how = codes "| " ++ mark b ++ codes "| " ++ what ++ codes " | " ++ span place ++ codes " | " ++ how ++ codes " |\n"

abbrev pub line_row : Line → List ℕ
line_row (renamed old new) = table_row true (codes "renamed") (path_text (path old)) (span (path_text (path new)))
line_row (gone r) = table_row true (codes "gone") (path_text (path r)) (span (text_of (path_text (path r)) r))
line_row (come r) = table_row false (codes "new") (path_text (path r)) (span (whole_text r))
line_row (changed p cs) = table_row (list_any is_breaking cs) (codes "differs") (path_text p) (span (listed (map change_text cs)))

abbrev pub markdown_text : Entry → List ℕ
markdown_text (alike ps) = table_row false (codes "alike") (listed (map path_text ps)) (decimal (length ps))
markdown_text (line l) = line_row l
