-- Entries as lines of text. Own.
use Rattle.std.specs.Prelude.{ℕ, List, ◌++◌, map, length, codes}
use Rattle.std.specs.Fmt.{decimal}
use Rattle.rdl_list.specs.ListText.{path_text}
use Rattle.rdl_write.specs.Texts.{newline}
use Rattle.rdl_diff.specs.Alike.{Entry, alike, line}
use Rattle.rdl_diff.specs.DiffText.{line_text, listed}

-- `* COUNT: PATH, ..`
unfoldable pub alike_text : List (List (List ℕ)) → List ℕ
alike_text ps = codes "* " ++ decimal (length ps) ++ codes ": " ++ listed (map path_text ps) ++ newline

abbrev pub plain_text : Entry → List ℕ
plain_text (alike ps) = alike_text ps
plain_text (line l) = line_text l
