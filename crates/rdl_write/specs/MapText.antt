-- The written map: one item a line, each line behind four spaces a level. Own; the statements are those of
-- SystemRDL 2.0, clause 5.
use Rattle.std.specs.Prelude.{ℕ, List, [], ◌++◌, codes}
use Rattle.rdl_tree.specs.Items.{Items, no_items, plain, holder, Plain, named, own, default, dynamic, Holder, define, anonymous}
use Rattle.rdl_write.specs.Texts.{newline, assignment_text, target_text, kind_text, outside_text, shell_text}

-- ---- What stands in a line, between its spaces and its end.

-- an item that has no body
abbrev pub statement_text : Plain → List ℕ
statement_text (named s type) = outside_text s.outside ++ type ++ codes " " ++ shell_text s
statement_text (own p v) = assignment_text p v
statement_text (default p v) = codes "default " ++ assignment_text p v
statement_text (dynamic target p v) = target_text target ++ codes "->" ++ assignment_text p v

-- an item that has one: before its body, and behind it
abbrev pub open_text : Holder → List ℕ
open_text (define name k) = kind_text k ++ codes " " ++ name
open_text (anonymous s k) = outside_text s.outside ++ kind_text k

abbrev pub close_text : Holder → List ℕ
close_text (define name k) = codes "}"
close_text (anonymous s k) = codes "} " ++ shell_text s

-- ---- Lines, behind an indent.

unfoldable pub statement_line : (indent : List ℕ) → Plain → List ℕ
statement_line indent p = indent ++ statement_text p ++ codes ";" ++ newline

unfoldable pub open_line : (indent : List ℕ) → Holder → List ℕ
open_line indent h = indent ++ open_text h ++ codes " {" ++ newline

unfoldable pub close_line : (indent : List ℕ) → Holder → List ℕ
close_line indent h = indent ++ close_text h ++ codes ";" ++ newline

abbrev pub deeper : List ℕ → List ℕ
deeper indent = indent ++ codes "    "

-- ---- The lines of a body, and the text of a description.

abbrev pub body_text : (indent : List ℕ) → Items → List ℕ
body_text indent no_items = []
body_text indent (plain p rest) = statement_line indent p ++ body_text indent rest
body_text indent (holder h body rest) =
    open_line indent h ++ body_text (deeper indent) body ++ close_line indent h ++ body_text indent rest

abbrev pub map_text : Items → List ℕ
map_text d = body_text [] d
