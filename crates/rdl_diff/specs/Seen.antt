-- What the code holds, as the definitions see it: it borrows rows, sizes, values and names.
use Rattle.std.specs.Prelude.{ℕ, List, drop, map, option_copied}
use Rattle.std.specs.declared.alloc.Global.{Global}
use Rattle.std.specs.declared.vec.Vec.{Vec}
use denote.Ref.{Bor}
use Rattle.rdl_diff.specs.Alike as alike
use Rattle.rdl_diff.specs.ByPath.{texts}
use Rattle.rdl_diff.specs.DiffText as diff
use Rattle.rdl_diff.specs.Told as told
use Rattle.rdl_diff.specs.declared.change.Change.{Change}
use Rattle.rdl_diff.specs.declared.entry.Entry.{Entry}
use Rattle.rdl_diff.specs.declared.entry.Entry.TheVariants as entry
use Rattle.rdl_diff.specs.declared.entry.Item.{Item}
use Rattle.rdl_diff.specs.declared.groups.Group.{Group}
use Rattle.rdl_diff.specs.declared.line.Line.{Line}
use Rattle.rdl_diff.specs.declared.line.Line.TheVariants as line
use Rattle.rdl_diff.specs.declared.told.Told.{Told}
use Rattle.rdl_diff.specs.declared.told.Told.TheVariants.{Kind, Number, Sizes, Bits, Value}

abbrev pub seen : Told → told.Told
seen (Kind k) = told.kind k
seen (Number n) = told.number n
seen (Sizes dims) = told.sizes dims.now
seen (Bits span) = told.bits span
seen (Value v) = told.value (option_copied v)

abbrev pub change_seen : Change → diff.Change
change_seen c = record { what = c.what; old = seen c.old; new = seen c.new }

abbrev pub changes_seen : List Change → List diff.Change
changes_seen cs = map change_seen cs

abbrev pub line_seen : Line → diff.Line
line_seen (line.Renamed x) = diff.renamed x.old.now x.new.now
line_seen (line.Gone r) = diff.gone r.now
line_seen (line.Come r) = diff.come r.now
line_seen (line.Changed p cs) = diff.changed (drop 1 p.now) (changes_seen cs.items)

abbrev pub lines_seen : List Line → List diff.Line
lines_seen ls = map line_seen ls

abbrev pub path_seen : Vec (Bor (List ℕ)) Global → List (List ℕ)
path_seen p = texts p.items

abbrev pub entry_seen : Entry → alike.Entry
entry_seen (entry.Alike ps) = alike.alike (map path_seen ps.items)
entry_seen (entry.Line l) = alike.line (line_seen l)

abbrev pub item_seen : Item → alike.Item
item_seen i = record { at = path_seen i.path; entry = entry_seen i.entry }

abbrev pub items_seen : List Item → List alike.Item
items_seen is = map item_seen is

abbrev pub group_seen : Group → alike.Group
group_seen g = record { paths = map path_seen g.paths.items; items = items_seen g.items.items }
