-- What is told once: of things that stand beside each other and of which all lines are the same but for their names, those of the
-- first are told, behind the names of all. Own.
use Rattle.std.specs.Prelude.{ℕ, ◌+◌, ◌-◌, zero, suc, max, Bool, true, false, ◌||◌, List, [], ◌∷◌, ◌++◌, drop, take, length, bytes_eq, codes, nat_lt, if◌then◌else◌}
use Rattle.std.specs.List.{flat_map}
use Rattle.rdl_elab.specs.declared.row.Row.{Row}
use Rattle.rdl_list.specs.ListText.{path_text}
use Rattle.rdl_tree.specs.declared.property.Property.TheVariants.{Reset}
use Rattle.rdl_write.specs.Texts.{newline}
use Rattle.rdl_diff.specs.DiffText.{Change, Line, renamed, gone, come, changed, change_text, stated_texts}
use Rattle.rdl_diff.specs.Paths.{path, same_path}
use Rattle.rdl_diff.specs.Told.{told, told_text}
use Rattle.rdl_diff.specs.declared.what.What.{What}
use Rattle.rdl_diff.specs.declared.what.What.TheVariants as what

-- what is written: the lines behind these paths are those of what has the first of them, and of what has any other they are the
-- same; or a line
pub data Entry : Type 0 where
  alike : List (List (List ℕ)) → Entry
  line : Line → Entry

-- with the path where it stands
pub record Item : Type 0 where
  pub at : List (List ℕ)
  pub entry : Entry

abbrev pub line_path : Line → List (List ℕ)
line_path (renamed old new) = path new
line_path (gone r) = path r
line_path (come r) = path r
line_path (changed p cs) = p

abbrev pub item : Line → Item
item l = record { at = line_path l; entry = line l }

-- ---- Items of which one thing holds all.

-- two paths that begin with the same names, so many
abbrev pub begin_alike : ℕ → (p q : List (List ℕ)) → Bool
begin_alike n p q = if nat_lt (length p) n || nat_lt (length q) n then false else same_path (take n p) (take n q)

abbrev pub goes_on : ℕ → (run : List Item) → Item → Bool
goes_on n [] i = true
goes_on n (first ∷ run) i = begin_alike n first.at i.at

-- items one after another whose paths begin alike, behind those of them that are cut already
abbrev pub runs_from : ℕ → (run items : List Item) → List (List Item)
runs_from n run [] = run ∷ []
runs_from n run (i ∷ items) = if goes_on n run i then runs_from n (run ++ i ∷ []) items else run ∷ runs_from n (i ∷ []) items

abbrev pub runs : ℕ → List Item → List (List Item)
runs n items = runs_from n [] items

-- ---- What is said of a thing, without its name and its base.

-- the names of a path behind so many and one; a dot alone where there is not one more
abbrev pub behind_text : List (List ℕ) → List ℕ
behind_text [] = codes "."
behind_text (name ∷ names) = flat_map (λ n. codes "." ++ n) names

abbrev pub last_name : List (List ℕ) → List ℕ
last_name p = path_text (drop (length p - 1) p)

-- what is told of a row, in place of its base the offset
unfoldable pub shape : List What
shape = what.Kind ∷ what.Offset ∷ what.Size ∷ what.Dims ∷ what.Stride ∷ what.Bits ∷ what.Value Reset ∷ []

abbrev pub shape_text : Row → List ℕ
shape_text r = flat_map (λ w. told_text (told w r) ++ codes " ") shape

abbrev pub is_base : What → Bool
is_base what.Base = true
is_base w = false

-- what differs but for the base
abbrev pub own_text : Change → List ℕ
own_text c = if is_base c.what then [] else codes " " ++ change_text c

abbrev pub inner_text : Line → List ℕ
inner_text (renamed old new) = codes "= " ++ last_name (path old) ++ codes " -> " ++ last_name (path new)
inner_text (gone r) = codes "- " ++ shape_text r
inner_text (come r) = codes "+ " ++ shape_text r ++ stated_texts r
inner_text (changed p cs) = codes "~" ++ flat_map own_text cs

abbrev pub entry_text : (depth : ℕ) → Entry → List ℕ
entry_text d (alike ps) = codes "*" ++ flat_map (λ p. codes " " ++ behind_text (drop d p)) ps
entry_text d (line l) = inner_text l

-- of things with so many names around them
abbrev pub item_text : (depth : ℕ) → Item → List ℕ
item_text d i = behind_text (drop d i.at) ++ codes " " ++ entry_text d i.entry ++ newline

abbrev pub run_text : (depth : ℕ) → List Item → List ℕ
run_text d run = flat_map (item_text d) run

-- ---- Things of which the same is said.

-- their paths, and the items of the first
pub record Group : Type 0 where
  pub paths : List (List (List ℕ))
  pub items : List Item

abbrev pub run_path : (depth : ℕ) → List Item → List (List ℕ)
run_path d [] = []
run_path d (i ∷ run) = take (d + 1) i.at

abbrev pub group_of : (depth : ℕ) → List Item → Group
group_of d run = record { paths = run_path d run ∷ []; items = run }

abbrev pub with_path : Group → List (List ℕ) → Group
with_path g p = record { paths = g.paths ++ p ∷ []; items = g.items }

-- a run joins the first group of which the same is said
abbrev pub joined : (depth : ℕ) → List Group → List Item → List Group
joined d [] run = group_of d run ∷ []
joined d (g ∷ gs) run = if bytes_eq (run_text d run) (run_text d g.items) then with_path g (run_path d run) ∷ gs else g ∷ joined d gs run

abbrev pub groups : (depth : ℕ) → List Group → (runs : List (List Item)) → List Group
groups d gs [] = gs
groups d gs (run ∷ runs) = groups d (joined d gs run) runs

-- names of several stand before the items
abbrev pub heading : List (List (List ℕ)) → List Item
heading [] = []
heading (p ∷ []) = []
heading (p ∷ q ∷ ps) = record { at = p; entry = alike (p ∷ q ∷ ps) } ∷ []

abbrev pub group_items : Group → List Item
group_items g = heading g.paths ++ g.items

-- ---- At each depth, from the deepest on.

-- what one thing with so many names holds
abbrev pub told_inside : (depth : ℕ) → List Item → List Item
told_inside d items = flat_map group_items (groups d [] (runs (d + 1) items))

abbrev pub told_at : (depth : ℕ) → List Item → List Item
told_at d items = flat_map (told_inside d) (runs d items)

abbrev pub told_above : (depth : ℕ) → List Item → List Item
told_above zero items = items
told_above (suc d) items = told_above d (told_at d items)

-- the most names that a path has, of those of items and so many
abbrev pub most_from : ℕ → List Item → ℕ
most_from n [] = n
most_from n (i ∷ items) = most_from (max n (length i.at)) items

abbrev pub most_names : List Item → ℕ
most_names items = most_from 0 items

abbrev pub told_once : List Item → List Item
told_once items = told_above (most_names items) items
