use Rattle.std.proofs.Common.{◌≡◌, take, string_bytes}
use Rattle.rdl_list.specs.ListText.{list_lines}
use Rattle.rdl_list.proofs.list.list_text.Given as goal

abbrev pub invariant-rows : goal.invariant-rows
invariant-rows l = string_bytes l.text ≡ list_lines (take l.row-index l.rows)
