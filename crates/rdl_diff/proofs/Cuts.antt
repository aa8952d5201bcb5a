-- Items one by one: as they are cut into runs, and their names counted.
use Rattle.std.proofs.Common.{◌≡◌, true, false, List, [], ◌∷◌, ◌++◌, map, flat_map, length, max, refl, sym, ap, ◌∙◌, append_assoc, arith, if◌then◌else◌, ℕ}
use Rattle.std.proofs.lemmas.List.{length-map}
use denote.Ref.{Bor}
use Rattle.rdl_diff.specs.Alike.{Item, goes_on, group_items, most_from, runs_from, told_inside}
use Rattle.rdl_diff.specs.Grouped.{groups_seen}
use Rattle.rdl_diff.specs.Seen.{group_seen, items_seen}
use Rattle.rdl_diff.specs.declared.entry.Item as code
use Rattle.rdl_diff.specs.declared.groups.Group as code_group

-- an item goes on with the run, or begins another
pub goes_further : (n : ℕ) (run items : List Item) (i : Item) (cut all : List (List Item)) → goes_on n run i ≡ true → cut ++ runs_from n run (i ∷ items) ≡ all → cut ++ runs_from n (run ++ i ∷ []) items ≡ all
goes_further n run items i cut all e h = ap (λ b. cut ++ (if b then runs_from n (run ++ i ∷ []) items else run ∷ runs_from n (i ∷ []) items)) (sym e) ∙ h

pub begins : (n : ℕ) (run items : List Item) (i : Item) (cut all : List (List Item)) → goes_on n run i ≡ false → cut ++ runs_from n run (i ∷ items) ≡ all → (cut ++ run ∷ []) ++ runs_from n (i ∷ []) items ≡ all
begins n run items i cut all e h =
    append_assoc cut (run ∷ []) (runs_from n (i ∷ []) items)
    ∙ ap (λ b. cut ++ (if b then runs_from n (run ++ i ∷ []) items else run ∷ runs_from n (i ∷ []) items)) (sym e)
    ∙ h

-- one item alone is told as it is
pub one_inside : (d : ℕ) (items : List Item) → length items ≡ 1 → told_inside d items ≡ items
one_inside d [] e = absurd (omega arith)
one_inside d (i ∷ []) e = refl
one_inside d (i ∷ j ∷ items) e = absurd (omega arith)

-- the names of one more are counted
pub one_longer : (m n : ℕ) (rest behind : List code.Item) (x : code.Item) (all : ℕ) → rest ≡ x ∷ behind → n ≡ length x.path.items → most_from m (items_seen rest) ≡ all → most_from (max m n) (items_seen behind) ≡ all
one_longer m n rest behind x all e k h =
    ap (λ i. most_from (max m i) (items_seen behind)) (k ∙ sym (length-map x.path.items (λ (name : Bor (List ℕ)). name.now)))
    ∙ ap (λ (is : List code.Item). most_from m (items_seen is)) (sym e)
    ∙ h

-- ---- What is seen, item by item.

pub groups_flat : (gs : List code_group.Group) → flat_map (λ g. group_items (group_seen g)) gs ≡ flat_map group_items (groups_seen gs)
groups_flat [] = refl
groups_flat (g ∷ gs) = ap (λ is. group_items (group_seen g) ++ is) (groups_flat gs)

pub runs_flat : {V : Type 0} (see : V → List Item) (d : ℕ) (rs : List V) → flat_map (λ r. told_inside d (see r)) rs ≡ flat_map (told_inside d) (map see rs)
runs_flat see d [] = refl
runs_flat see d (r ∷ rs) = ap (λ is. told_inside d (see r) ++ is) (runs_flat see d rs)
