-- A gap, which holds blanks and comments and no word, cut into what belongs to the word before it, to no statement, and to the statement behind it.
-- Blanks and comments are those of SystemRDL 2.0, lexical conventions; own: which of them belongs to what.
use Rattle.std.specs.Prelude.{ℕ, zero, suc, ◌+◌, ◌-◌, true, false, ◌&&◌, nat_eq, if◌then◌else◌, List, [], ◌∷◌, length, drop, Option, Some, None}
use Rattle.std.specs.Option.{option_map, option_map_or}
use Rattle.rdl_text.specs.Rows.{byte}
use Rattle.rdl_text.specs.Words.{is_blank, comment_end}
use Rattle.rdl_source.specs.declared.gap.Left.{Left}
use Rattle.rdl_source.specs.declared.gap.Left.TheVariants.{Begin, Word}
use Rattle.rdl_source.specs.declared.gap.Right.{Right}
use Rattle.rdl_source.specs.declared.gap.Right.TheVariants.{Statement, End}
use Rattle.rdl_source.specs.declared.gap.Parts.{Parts}
use Rattle.rdl_source.specs.declared.gap.Scan.{Scan}

-- how many bytes stand before the next line feed, or the end
abbrev pub line_len : List ℕ → ℕ
line_len [] = 0
line_len (c ∷ cs) = if nat_eq c 10 then 0 else line_len cs + 1

-- how many bytes the comment has with which a text begins: `//` up to a line feed, or `/*` up to `*/`; 0 where it begins with none
unfoldable pub comment_len : List ℕ → ℕ
comment_len s =
    if nat_eq (byte s 0) 47 && nat_eq (byte s 1) 47 then 2 + line_len (drop 2 s)
    else if nat_eq (byte s 0) 47 && nat_eq (byte s 1) 42 then option_map_or (λ n. n + 4) (comment_end (drop 2 s)) 0
    else 0

-- ---- What is known of a gap up to a byte: where its first line ends, where its last blank line ends, whether the line so far is blank, and where its last comment ends.

-- at its begin: at the text's begin a line begins, and there is no line before it
abbrev pub begun : Left → Scan
begun Begin = record { line = Some 0; blank = 0; is_blank = true; comment = 0 }
begun Word = record { line = None; blank = 0; is_blank = false; comment = 0 }

-- behind a line feed that ends at a byte, where the first line has ended before or ends here
abbrev pub line_ended : (end : ℕ) → (line : Option ℕ) → Scan → Scan
line_ended end None m = record { line = Some end; blank = end; is_blank = true; comment = m.comment }
line_ended end (Some line) m = record { line = Some line; blank = if m.is_blank then end else m.blank; is_blank = true; comment = m.comment }

-- behind a comment that ends at a byte
abbrev pub comment_ended : (end : ℕ) → Scan → Scan
comment_ended end m = record { line = m.line; blank = m.blank; is_blank = false; comment = end }

-- at its end, from the byte `at` on. The first `skip` bytes belong to the comment before. There is nothing known where a word stands.
unfoldable pub scan_from : (skip at : ℕ) → Scan → List ℕ → Option Scan
scan_from skip at m [] = Some m
scan_from (suc skip) at m (c ∷ cs) = scan_from skip (at + 1) m cs
scan_from zero at m (c ∷ cs) =
    if nat_eq c 10 then scan_from 0 (at + 1) (line_ended (at + 1) m.line m) cs
    else if is_blank c then scan_from 0 (at + 1) m cs
    else if nat_eq (comment_len (c ∷ cs)) 0 then None
    else scan_from (comment_len (c ∷ cs) - 1) (at + 1) (comment_ended (at + comment_len (c ∷ cs)) m) cs

-- ---- The parts.

-- where the trail ends that no line feed ends: before a statement on the same line there is none, and before a body's end it goes up to the last comment's end
abbrev pub line_left : Right → (comment : ℕ) → ℕ
line_left Statement comment = 0
line_left End comment = comment

-- where the trail ends: behind the first line
abbrev pub trail_end : Right → (comment : ℕ) → (line : Option ℕ) → ℕ
trail_end right comment None = line_left right comment
trail_end right comment (Some line) = line

-- where the float ends: behind the last blank line; before a body's end all floats
abbrev pub float_end : Right → (len blank : ℕ) → ℕ
float_end Statement len blank = blank
float_end End len blank = len

abbrev pub parts_of : Right → (len : ℕ) → Scan → Parts
parts_of right len m = record {
  trail = trail_end right m.comment m.line;
  float = float_end right len m.blank - trail_end right m.comment m.line;
  lead = len - float_end right len m.blank;
}

-- how many bytes the trail, the float and the lead of a gap have, one behind another
unfoldable pub gap_parts : Left → Right → List ℕ → Option Parts
gap_parts left right gap = option_map (parts_of right (length gap)) (scan_from 0 0 (begun left) gap)
