-- Small scripts, read by computing.
use Rattle.std.proofs.Common.{◌≡◌, ℕ, zero, suc, true, false, List, [], ◌∷◌, ◌++◌, Some, None, refl}
use Rattle.std.specs.Prelude.{codes, map}
use Rattle.std.specs.Str.{is_utf8, chars}
use lib.Utf8.{encode}
use Rattle.rdl_text.specs.Number.{value}
use Rattle.rdl_text.specs.Rows.{identifier_len, decimal_len, hexadecimal_len, verilog_len, string_len}
use Rattle.rdl_text.specs.Words.{words_from, piece, longest, identifier, decimal, hexadecimal, verilog, string, mark}
use Rattle.rdl_tree.specs.declared.path.Segment.{Segment}
use Rattle.rdl_tree.specs.declared.path.Segment.TheVariants.{Def, Inst}
use Rattle.rdl_tree.specs.declared.value.Value.TheVariants as values
use Rattle.rdl_tree.specs.declared.value.Word.TheVariants as word
use Rattle.rdl_parse.specs.Class.{class, is_unused}
use Rattle.rdl_rewrite.specs.declared.edit.Edit.TheVariants as edits
use Rattle.rdl_rewrite.specs.declared.place.Place.TheVariants.{First, Last, Before, After}
use Rattle.rdl_script.specs.Commands.{Command, nothing, undo, redo, list, edit, add, refused, added, command_in, command_of, lines_of}
use Rattle.rdl_script.specs.Edits.{assignment_in, assigned, unassigned, edit_by, edit_in}
use Rattle.rdl_script.specs.Operands.{name_in, segment_in, path_in, target_in, place_in, symbols_in, dims_in, bits_in, number_in, value_in}
use Rattle.rdl_script.specs.Verbs.{verb_of}
use Rattle.rdl_script.specs.Words.{trimmed, first_word, behind_word}
use Rattle.rdl_script.specs.declared.request.CommandFault.TheVariants.{Unknown, BadOperands, NotUtf8}

abbrev to_top : List Segment
to_top = Def (codes "top") ∷ []

abbrev to_a : List Segment
to_a = Def (codes "top") ∷ Inst (codes "a") ∷ []

abbrev letters : ℕ → List ℕ
letters zero = []
letters (suc n) = 97 ∷ letters n

abbrev slashes : ℕ → List ℕ
slashes zero = []
slashes (suc n) = 47 ∷ 97 ∷ slashes n

abbrev insts : ℕ → List Segment
insts zero = []
insts (suc n) = Inst (codes "a") ∷ insts n

-- a line feed ends a line, and what stands behind the last is a line too
parted : lines_of (codes "undo" ++ 13 ∷ 10 ∷ 10 ∷ codes "list" ++ 10 ∷ []) ≡ (codes "undo" ++ 13 ∷ []) ∷ [] ∷ codes "list" ∷ [] ∷ []
parted = refl

-- Lines that ask for nothing, and the calls.
abbrev calls : List (List ℕ × Command)
calls =
    (codes "", nothing)
    ∷ (codes "  ", nothing)
    ∷ (9 ∷ 11 ∷ 12 ∷ 32 ∷ 13 ∷ [], nothing)
    ∷ (codes "# remove", nothing)
    ∷ (32 ∷ 35 ∷ 255 ∷ [], nothing)
    ∷ (codes "undo", undo)
    ∷ (codes " redo " ++ 13 ∷ [], redo)
    ∷ (9 ∷ codes "list", list)
    ∷ []

-- An `add` keeps its text as it is.
abbrev added_texts : List (List ℕ × Command)
added_texts =
    (codes "add / last x", add [] Last (codes "x"))
    ∷ (codes "add /$top first  reg {} a;  // x", add to_top First (codes "reg {} a;  // x"))
    ∷ (codes "add /$top/a before $t  [", add to_a (Before (Def (codes "t"))) (codes "["))
    ∷ (codes "add" ++ 9 ∷ codes "/$top after b" ++ 9 ∷ codes "; ", add to_top (After (Inst (codes "b"))) (codes ";"))
    ∷ []

-- Edits of an item.
abbrev item_edits : List (List ℕ × Command)
item_edits =
    (codes "remove /$top/a", edit (edits.Remove to_a))
    ∷ (codes "remove /", edit (edits.Remove []))
    ∷ (codes "rename /$top/a b2", edit (edits.Rename to_a (codes "b2")))
    ∷ (codes "rename /$top/a reg", edit (edits.Rename to_a (codes "reg")))
    ∷ (codes "move /$top/a first", edit (edits.Move to_a First))
    ∷ (codes "move /$top/a after $t", edit (edits.Move to_a (After (Def (codes "t")))))
    ∷ (codes "resize /$top/a none", edit (edits.Resize to_a []))
    ∷ (codes "resize /$top/a [2][ 0x10 ] // x", edit (edits.Resize to_a (2 ∷ 16 ∷ [])))
    ∷ (codes "bits /$top/a none", edit (edits.SetBits to_a None))
    ∷ (codes "bits /$top/a [7:/* x */4]", edit (edits.SetBits to_a (Some (7, 4))))
    ∷ (codes "bits /$top/a [4:7]", edit (edits.SetBits to_a (Some (4, 7))))
    ∷ []

-- Parts of an instance that are numbers.
abbrev number_edits : List (List ℕ × Command)
number_edits =
    (codes "address /$top/a 0x1_0", edit (edits.SetAddress to_a (Some 16)))
    ∷ (codes "address /$top/a none", edit (edits.SetAddress to_a None))
    ∷ (codes "stride /$top/a 4 /* x */", edit (edits.SetStride to_a (Some 4)))
    ∷ (codes "stride /$top/a none", edit (edits.SetStride to_a None))
    ∷ (codes "align /$top/a 8", edit (edits.SetAlign to_a (Some 8)))
    ∷ (codes "align /$top/a none", edit (edits.SetAlign to_a None))
    ∷ (codes "reset /$top/a 4'hF", edit (edits.SetReset to_a (Some 15)))
    ∷ (codes "reset /$top/a none", edit (edits.SetReset to_a None))
    ∷ []

-- Assignments.
abbrev assignments : List (List ℕ × Command)
assignments =
    (codes "set /$top/a sw rw", edit (edits.SetOwn to_a (codes "sw") (values.Word word.Rw)))
    ∷ (codes "set /$top/a woclr woclr", edit (edits.SetOwn to_a (codes "woclr") (values.Word word.Woclr)))
    ∷ (codes "set / other true", edit (edits.SetOwn [] (codes "other") (values.Bool true)))
    ∷ (codes "set /$top name " ++ 34 ∷ codes "a //" ++ 34 ∷ [], edit (edits.SetOwn to_top (codes "name") (values.Text (codes "a //"))))
    ∷ (codes "set /$top/a sw none", refused BadOperands)
    ∷ (codes "default /$top hw r", edit (edits.SetDefault to_top (codes "hw") (values.Word word.R)))
    ∷ (codes "default /$top regwidth 32", edit (edits.SetDefault to_top (codes "regwidth") (values.Number 32)))
    ∷ (codes "clear /$top/a sw", edit (edits.ClearOwn to_a (codes "sw")))
    ∷ (codes "nodefault /$top sw", edit (edits.ClearDefault to_top (codes "sw")))
    ∷ (codes "assign /$top a.b.c sw rw", edit (edits.Assign to_top (codes "a" ∷ codes "b" ∷ codes "c" ∷ []) (codes "sw") (values.Word word.Rw)))
    ∷ (codes "assign / reg hw false", edit (edits.Assign [] (codes "reg" ∷ []) (codes "hw") (values.Bool false)))
    ∷ (codes "unassign /$top a.b sw", edit (edits.Unassign to_top (codes "a" ∷ codes "b" ∷ []) (codes "sw")))
    ∷ []

-- What is no command, in the order in which a line is judged.
abbrev faults : List (List ℕ × Command)
faults =
    (codes "undone" ++ 255 ∷ [], refused NotUtf8)
    ∷ (255 ∷ [], refused NotUtf8)
    ∷ (codes "remove x" ++ 195 ∷ [], refused NotUtf8)
    ∷ (codes "undone", refused Unknown)
    ∷ (codes "Undo", refused Unknown)
    ∷ (codes "undo" ++ 11 ∷ codes "x", refused Unknown)
    ∷ (195 ∷ 169 ∷ [], refused Unknown)
    ∷ (codes "none /", refused Unknown)
    ∷ []

-- Names have at most 255 bytes, and paths any length.
abbrev lengths : List (List ℕ × Command)
lengths =
    (codes "rename / " ++ letters 255, edit (edits.Rename [] (letters 255)))
    ∷ (codes "rename / " ++ letters 256, refused BadOperands)
    ∷ (codes "remove /" ++ letters 256, refused BadOperands)
    ∷ (codes "clear / " ++ letters 256, refused BadOperands)
    ∷ (codes "unassign / " ++ letters 256 ++ codes " sw", refused BadOperands)
    ∷ (codes "move / before $" ++ letters 256, refused BadOperands)
    ∷ (codes "set / sw " ++ letters 256, refused BadOperands)
    ∷ (codes "remove " ++ slashes 18, edit (edits.Remove (insts 18)))
    ∷ []

-- Operands that are missing or left over.
abbrev too_few_or_many : List (List ℕ × Command)
too_few_or_many =
    (codes "undo x", refused BadOperands)
    ∷ (codes "redo 1", refused BadOperands)
    ∷ (codes "list /", refused BadOperands)
    ∷ (codes "add", refused BadOperands)
    ∷ (codes "add /", refused BadOperands)
    ∷ (codes "add / last", refused BadOperands)
    ∷ (codes "add / before", refused BadOperands)
    ∷ (codes "add / before x", refused BadOperands)
    ∷ (codes "add / x", refused BadOperands)
    ∷ (codes "remove", refused BadOperands)
    ∷ (codes "remove / x", refused BadOperands)
    ∷ (codes "rename", refused BadOperands)
    ∷ (codes "rename /", refused BadOperands)
    ∷ (codes "rename / a b", refused BadOperands)
    ∷ (codes "move /", refused BadOperands)
    ∷ (codes "move / before", refused BadOperands)
    ∷ (codes "move / first x", refused BadOperands)
    ∷ (codes "move / after a b", refused BadOperands)
    ∷ (codes "resize /", refused BadOperands)
    ∷ (codes "bits /", refused BadOperands)
    ∷ (codes "address", refused BadOperands)
    ∷ (codes "address /", refused BadOperands)
    ∷ (codes "stride /", refused BadOperands)
    ∷ (codes "align /", refused BadOperands)
    ∷ (codes "reset /", refused BadOperands)
    ∷ (codes "set /", refused BadOperands)
    ∷ (codes "set / sw", refused BadOperands)
    ∷ (codes "default /", refused BadOperands)
    ∷ (codes "default / sw", refused BadOperands)
    ∷ (codes "clear /", refused BadOperands)
    ∷ (codes "clear / sw rw", refused BadOperands)
    ∷ (codes "nodefault /", refused BadOperands)
    ∷ (codes "nodefault / sw x", refused BadOperands)
    ∷ (codes "assign /", refused BadOperands)
    ∷ (codes "assign / a", refused BadOperands)
    ∷ (codes "assign / a sw", refused BadOperands)
    ∷ (codes "unassign /", refused BadOperands)
    ∷ (codes "unassign / a", refused BadOperands)
    ∷ (codes "unassign / a sw rw", refused BadOperands)
    ∷ []

-- Operands that are not of their form.
abbrev malformed : List (List ℕ × Command)
malformed =
    (codes "remove top", refused BadOperands)
    ∷ (codes "remove $top", refused BadOperands)
    ∷ (codes "remove //", refused BadOperands)
    ∷ (codes "remove /a/", refused BadOperands)
    ∷ (codes "remove /a//b", refused BadOperands)
    ∷ (codes "remove /$", refused BadOperands)
    ∷ (codes "remove /1a", refused BadOperands)
    ∷ (codes "remove /reg", refused BadOperands)
    ∷ (codes "remove /$sw/a", refused BadOperands)
    ∷ (codes "remove /a.b", refused BadOperands)
    ∷ (codes "move /a Last", refused BadOperands)
    ∷ (codes "move /a before /b", refused BadOperands)
    ∷ (codes "move /a after reg", refused BadOperands)
    ∷ (codes "move /a before 1", refused BadOperands)
    ∷ (codes "rename /a 1b", refused BadOperands)
    ∷ (codes "rename /a $b", refused BadOperands)
    ∷ (codes "rename /a b.c", refused BadOperands)
    ∷ (codes "resize /a 4", refused BadOperands)
    ∷ (codes "resize /a []", refused BadOperands)
    ∷ (codes "resize /a [4", refused BadOperands)
    ∷ (codes "resize /a [4] 4", refused BadOperands)
    ∷ (codes "resize /a [4][none]", refused BadOperands)
    ∷ (codes "resize /a none none", refused BadOperands)
    ∷ (codes "resize /a [4:2]", refused BadOperands)
    ∷ (codes "resize /a // [4]", refused BadOperands)
    ∷ (codes "bits /a [4]", refused BadOperands)
    ∷ (codes "bits /a [4:]", refused BadOperands)
    ∷ (codes "bits /a [7:4] x", refused BadOperands)
    ∷ (codes "bits /a 7:4", refused BadOperands)
    ∷ (codes "address /a x", refused BadOperands)
    ∷ (codes "address /a 4 4", refused BadOperands)
    ∷ (codes "address /a -4", refused BadOperands)
    ∷ (codes "stride /a // 4", refused BadOperands)
    ∷ (codes "address /a None", refused BadOperands)
    ∷ (codes "set /a 1 1", refused BadOperands)
    ∷ (codes "set /a reg 1", refused BadOperands)
    ∷ (codes "set /a default 1", refused BadOperands)
    ∷ (codes "set /a sw rw w", refused BadOperands)
    ∷ (codes "set /a sw reg", refused BadOperands)
    ∷ (codes "set /a sw foo", refused BadOperands)
    ∷ (codes "set /a sw sw", refused BadOperands)
    ∷ (codes "set /a sw = rw", refused BadOperands)
    ∷ (codes "default /a sw // rw", refused BadOperands)
    ∷ (codes "clear /a a.b", refused BadOperands)
    ∷ (codes "clear /a rw", refused BadOperands)
    ∷ (codes "assign /a b..c sw rw", refused BadOperands)
    ∷ (codes "assign /a .b sw rw", refused BadOperands)
    ∷ (codes "assign /a b. sw rw", refused BadOperands)
    ∷ (codes "assign /a b.1 sw rw", refused BadOperands)
    ∷ (codes "assign /a b . c sw rw", refused BadOperands)
    ∷ (codes "assign /a b->sw rw", refused BadOperands)
    ∷ (codes "unassign /a b reg", refused BadOperands)
    ∷ []

-- Words with a fault: S1 to S6.
abbrev faulty_words : List (List ℕ × Command)
faulty_words =
    (codes "address /a ?", refused BadOperands)
    ∷ (codes "address /a 4 /* x", refused BadOperands)
    ∷ (codes "set /a name " ++ 34 ∷ codes "x", refused BadOperands)
    ∷ (codes "address /a 340282366920938463463374607431768211456", refused BadOperands)
    ∷ (codes "address /a 2'b100", refused BadOperands)
    ∷ (codes "address /a 0'b0", refused BadOperands)
    ∷ []

-- ---- Each line asks for what stands beside it.

abbrev lines : List (List ℕ × Command)
lines = calls ++ added_texts ++ item_edits ++ number_edits ++ assignments ++ faults ++ lengths ++ too_few_or_many ++ malformed ++ faulty_words

answers : map (λ row. command_of row.0) lines ≡ map (λ row. row.1) lines
unfolding command_in trimmed first_word behind_word verb_of path_in segment_in name_in target_in place_in symbols_in dims_in bits_in number_in value_in added assignment_in assigned unassigned edit_by edit_in class is_unused is_utf8 chars encode words_from piece longest identifier decimal hexadecimal verilog string mark identifier_len decimal_len hexadecimal_len verilog_len string_len value
answers = refl
