-- Lines as data, which have no float.
use Rattle.std.proofs.Common.{◌≡◌, ℕ, Bool, true, false, List, [], ◌∷◌, ◌++◌, map, flat_map, Some, None, refl, ap, if◌then◌else◌}
use Rattle.std.specs.Prelude.{◌||◌, codes}
use Rattle.std.specs.List.{list_any}
use Rattle.std.specs.declared.alloc.Global.{Global}
use Rattle.std.specs.declared.vec.Vec.{Vec}
use denote.Ref.{Bor}
use Rattle.rdl_elab.specs.declared.row.Row.{Row}
use Rattle.rdl_list.specs.ListText.{path_text}
use Rattle.rdl_tree.specs.declared.value.Value.{Value}
use Rattle.rdl_tree.specs.declared.value.Value.TheVariants as given
use Rattle.serde_json.specs.Data.{Data, null, string}
use Rattle.serde_json.specs.View.{items_of}
use Rattle.serde_json.specs.Written.{has_float, items_have_float}
use Rattle.rdl_diff.specs.Alike.{Entry, alike, line}
use Rattle.rdl_diff.specs.DiffText as diff
use Rattle.rdl_diff.specs.DiffText.{Line, renamed, gone, come, changed, is_breaking}
use Rattle.rdl_diff.specs.Paths.{path}
use Rattle.rdl_diff.specs.Json.{alike_data, change_data, changed_data, come_data, entry_data, gone_data, is_null, line_data, object_of, told_data, value_data, whole}
use Rattle.rdl_diff.specs.Seen.{change_seen, changes_seen, path_seen}
use Rattle.rdl_diff.specs.Told.{Told, kind, number, sizes, bits, value, told, what_text}
use Rattle.rdl_diff.specs.declared.change.Change.{Change}
use Rattle.rdl_diff.specs.declared.what.What.{What}

pub changed_all : (cs : List Change) → map (λ c. changed_data (change_seen c)) cs ≡ map changed_data (changes_seen cs)
changed_all [] = refl
changed_all (c ∷ cs) = ap (λ ds. changed_data (change_seen c) ∷ ds) (changed_all cs)

pub alike_all : (ps : List (Vec (Bor (List ℕ)) Global)) → map (λ p. string (path_text (path_seen p))) ps ≡ map (λ p. string (path_text p)) (map path_seen ps)
alike_all [] = refl
alike_all (p ∷ ps) = ap (λ ds. string (path_text (path_seen p)) ∷ ds) (alike_all ps)

-- ---- No float.

of-value : (v : Value) → has_float (value_data v) ≡ false
of-value (given.Number n) = refl
of-value (given.Text t) = refl
of-value (given.Bool b) = refl
of-value (given.Word w) = refl

of-told : (t : Told) → has_float (told_data t) ≡ false
of-told (kind k) = refl
of-told (number None) = refl
of-told (number (Some n)) = refl
of-told (sizes []) = refl
of-told (sizes (dim ∷ dims)) = refl
of-told (bits None) = refl
of-told (bits (Some s)) = refl
of-told (value None) = refl
of-told (value (Some v)) = of-value v

of-change : (what : List ℕ) (old new : Data) → has_float old ≡ false → has_float new ≡ false → has_float (change_data what old new) ≡ false
unfolding change_data
of-change what old new e f = λ i. f i || (e i || false)

of-changes : (cs : List diff.Change) → items_have_float (items_of (map changed_data cs)) ≡ false
of-changes [] = refl
of-changes (c ∷ cs) = λ i. of-change (what_text c.what) (told_data c.old) (told_data c.new) (of-told c.old) (of-told c.new) i || of-changes cs i

gone-more : (b : Bool) (d : Data) (ds : List Data) → has_float d ≡ false → items_have_float (items_of ds) ≡ false → items_have_float (items_of ((if b then [] else d ∷ []) ++ ds)) ≡ false
gone-more true d ds e f = f
gone-more false d ds e f = λ i. e i || f i

of-gone : (r : Row) (ws : List What) → items_have_float (items_of (flat_map (λ w. gone_data w (told_data (told w r))) ws)) ≡ false
of-gone r [] = refl
of-gone r (w ∷ ws) =
    let d = told_data (told w r) in
    gone-more (is_null d) (change_data (what_text w) d null) (flat_map (λ w. gone_data w (told_data (told w r))) ws) (of-change (what_text w) d null (of-told (told w r)) refl) (of-gone r ws)

of-come : (r : Row) (ws : List What) → items_have_float (items_of (flat_map (λ w. come_data w (told_data (told w r))) ws)) ≡ false
of-come r [] = refl
of-come r (w ∷ ws) =
    let d = told_data (told w r) in
    gone-more (is_null d) (change_data (what_text w) null d) (flat_map (λ w. come_data w (told_data (told w r))) ws) (of-change (what_text w) null d refl (of-told (told w r))) (of-come r ws)

of-paths : (ps : List (List (List ℕ))) → items_have_float (items_of (map (λ p. string (path_text p)) ps)) ≡ false
of-paths [] = refl
of-paths (p ∷ ps) = of-paths ps

of-object : (b : Bool) (word at : List ℕ) (changes : List Data) → items_have_float (items_of changes) ≡ false → has_float (object_of b word at changes) ≡ false
unfolding object_of
of-object b word at changes e = λ i. e i || false

of-line : (l : Line) → has_float (line_data l) ≡ false
of-line (renamed old new) =
    let is : has_float (change_data (codes "path") (string (path_text (path old))) (string (path_text (path new)))) ≡ false =
    of-change (codes "path") (string (path_text (path old))) (string (path_text (path new))) refl refl in
    of-object true (codes "renamed") (path_text (path new)) (change_data (codes "path") (string (path_text (path old))) (string (path_text (path new))) ∷ []) (λ i. is i || false)
of-line (gone r) = of-object true (codes "gone") (path_text (path r)) (flat_map (λ w. gone_data w (told_data (told w r))) whole) (of-gone r whole)
of-line (come r) = of-object false (codes "new") (path_text (path r)) (flat_map (λ w. come_data w (told_data (told w r))) whole) (of-come r whole)
of-line (changed p cs) = of-object (list_any is_breaking cs) (codes "differs") (path_text p) (map changed_data cs) (of-changes cs)

pub no_float : (e : Entry) → has_float (entry_data e) ≡ false
unfolding alike_data
no_float (alike ps) = λ i. of-paths ps i || false
no_float (line l) = of-line l
