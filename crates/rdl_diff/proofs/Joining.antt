-- A run joins the groups, which are looked up by what is said of them.
use Rattle.std.proofs.Common.{◌≡◌, ℕ, suc, ◌+◌, Bool, true, false, cond, List, [], ◌∷◌, ◌++◌, map, refl, sym, ap, ◌∙◌, arith, if◌then◌else◌, bytes_eq, String, Global, string_bytes, zero, length, ◌≤◌, Some, slice_get}
use Rattle.std.specs.Prelude.{◌||◌, not, slice_set}
use Rattle.std.specs.List.{list_any, position_or_len}
use Rattle.indexmap.specs.IndexSet.{insert_key}
use Rattle.rdl_diff.specs.Alike.{Group, Item, groups, joined, run_path, run_text, with_path}
use Rattle.rdl_diff.specs.Grouped.{groups_seen, joined_at}
use Rattle.rdl_diff.specs.Seen.{group_seen}
use Rattle.rdl_diff.specs.declared.groups.Group as code
use Rattle.rdl_diff.proofs.Places.{text_eq}

abbrev pub said : ℕ → Group → List ℕ
said d g = run_text d g.items

-- it joins the group of the number of its text
pub one_joined : (d : ℕ) (ks : List (String Global)) (gs : List Group) (k : String Global) (run : List Item) → map string_bytes ks ≡ map (said d) gs → string_bytes k ≡ run_text d run
    → joined_at (position_or_len (text_eq k) ks) gs (run_path d run) run ≡ joined d gs run
one_joined d [] [] k run e is = refl
one_joined d [] (g ∷ gs) k run e is = cc
one_joined d (q ∷ ks) [] k run e is = cc
one_joined d (q ∷ ks) (g ∷ gs) k run e is =
    let first : string_bytes q ≡ said d g = cc in
    let rest : map string_bytes ks ≡ map (said d) gs = cc in
    let test : bytes_eq (string_bytes k) (string_bytes q) ≡ bytes_eq (run_text d run) (said d g) = λ i. bytes_eq (is i) (first i) in
    by (bytes_eq (string_bytes k) (string_bytes q)) (one_joined d ks gs k run rest is)
    ∙ ap (λ b. if b then with_path g (run_path d run) ∷ gs else g ∷ joined d gs run) test
  where
    by : (b : Bool) → joined_at (position_or_len (text_eq k) ks) gs (run_path d run) run ≡ joined d gs run
        → joined_at (cond (not b) (1 + position_or_len (text_eq k) ks) 0) (g ∷ gs) (run_path d run) run ≡ (if b then with_path g (run_path d run) ∷ gs else g ∷ joined d gs run)
    by true h = refl
    by false h =
        let next : 1 + position_or_len (text_eq k) ks ≡ suc (position_or_len (text_eq k) ks) = omega arith in
        ap (λ m. joined_at m (g ∷ gs) (run_path d run) run) next ∙ ap (λ hs. g ∷ hs) h

-- and each text is still that of its group
pub keyed_on : (d : ℕ) (ks : List (String Global)) (gs : List Group) (k : String Global) (run : List Item) → map string_bytes ks ≡ map (said d) gs → string_bytes k ≡ run_text d run
    → map string_bytes (insert_key text_eq ks k) ≡ map (said d) (joined d gs run)
keyed_on d [] [] k run e is = ap (λ t. t ∷ []) is
keyed_on d [] (g ∷ gs) k run e is = cc
keyed_on d (q ∷ ks) [] k run e is = cc
keyed_on d (q ∷ ks) (g ∷ gs) k run e is =
    let first : string_bytes q ≡ said d g = cc in
    let rest : map string_bytes ks ≡ map (said d) gs = cc in
    let test : bytes_eq (string_bytes k) (string_bytes q) ≡ bytes_eq (run_text d run) (said d g) = λ i. bytes_eq (is i) (first i) in
    by (bytes_eq (string_bytes k) (string_bytes q)) (list_any (text_eq k) ks) first e (keyed_on d ks gs k run rest is)
    ∙ ap (λ b. map (said d) (if b then with_path g (run_path d run) ∷ gs else g ∷ joined d gs run)) test
  where
    by : (b c : Bool) → string_bytes q ≡ said d g → map string_bytes (q ∷ ks) ≡ map (said d) (g ∷ gs) → map string_bytes (if c then ks else ks ++ k ∷ []) ≡ map (said d) (joined d gs run)
        → map string_bytes (if b || c then q ∷ ks else (q ∷ ks) ++ k ∷ []) ≡ map (said d) (if b then with_path g (run_path d run) ∷ gs else g ∷ joined d gs run)
    by true c first all h = all
    by false true first all h = λ i. first i ∷ h i
    by false false first all h = λ i. first i ∷ h i

-- ---- In the code.

pub groups-set : (gs : List code.Group) (i : ℕ) (old new : code.Group) (p : List (List ℕ)) (items : List Item) → slice_get gs i ≡ Some old → group_seen new ≡ with_path (group_seen old) p
    → groups_seen (slice_set gs i new) ≡ joined_at i (groups_seen gs) p items
groups-set [] i old new p items there is = cc
groups-set (g ∷ gs) zero old new p items there is =
    let same : g ≡ old = cc in
    ap (λ h. h ∷ groups_seen gs) (is ∙ ap (λ x. with_path (group_seen x) p) (sym same))
groups-set (g ∷ gs) (suc i) old new p items there is = ap (λ hs. group_seen g ∷ hs) (groups-set gs i old new p items there is)

pub groups-more : (gs : List code.Group) (i : ℕ) (new : code.Group) (p : List (List ℕ)) (items : List Item) → length gs ≤ i → group_seen new ≡ record { paths = p ∷ []; items = items }
    → groups_seen (gs ++ new ∷ []) ≡ joined_at i (groups_seen gs) p items
groups-more [] i new p items all is = ap (λ g. g ∷ []) is
groups-more (g ∷ gs) zero new p items all is = absurd (omega arith)
groups-more (g ∷ gs) (suc i) new p items all is = ap (λ hs. group_seen g ∷ hs) (groups-more gs i new p items (omega arith) is)

-- one run more
pub grouped-more : {V : Type 0} (see : V → List Item) (d : ℕ) (gs : List Group) (rs : List V) (r : V) → groups d gs (map see (rs ++ r ∷ [])) ≡ joined d (groups d gs (map see rs)) (see r)
grouped-more see d gs [] r = refl
grouped-more see d gs (x ∷ rs) r = grouped-more see d (joined d gs (see x)) rs r
