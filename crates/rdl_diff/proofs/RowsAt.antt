-- The row of a path, in a list that grows.
use Rattle.std.proofs.Common.{◌≡◌, ℕ, ◌+◌, ◌<◌, Bool, true, false, cond, List, [], ◌∷◌, ◌++◌, length, map, take, get_or, Option, Some, None, option_map, refl, sym, ap, ◌∙◌, if◌then◌else◌}
use Rattle.std.specs.Map.{lookup}
use Rattle.std.specs.Option.{option_or}
use Rattle.std.proofs.lemmas.List.{take_more}
use denote.Ref.{Bor}
use Rattle.indexmap.specs.IndexMap.{insert_entry}
use Rattle.rdl_elab.specs.declared.row.Row.{Row}
use Rattle.rdl_diff.specs.ByPath.{Key, texts, is_key}
use Rattle.rdl_diff.specs.Paths.{same_path, last_by}
use Rattle.rdl_diff.proofs.Lookups.{key_eq, inserted}

over : (b : Bool) (r : Row) (o q : Option Row) → option_or (if b then Some r else o) q ≡ (if b then Some r else option_or o q)
over true r o q = refl
over false r o q = refl

through : (b : Bool) (v : Bor Row) (o : Option (Bor Row)) → option_map (λ (r : Bor Row). r.now) (cond b (Some v) o) ≡ cond b (Some v.now) (option_map (λ (r : Bor Row). r.now) o)
through true v o = refl
through false v o = refl

module _ {A : Type 0} (at : A → List (List ℕ)) (row : A → Row) (p : List (List ℕ)) where
  -- the last one is found first
  pub last_by-more : (xs : List A) (x : A) → last_by at row p (xs ++ x ∷ []) ≡ (if same_path p (at x) then Some (row x) else last_by at row p xs)
  last_by-more [] x = refl
  last_by-more (y ∷ ys) x =
      ap (λ (o : Option Row). option_or o (if same_path p (at y) then Some (row y) else None)) (last_by-more ys x)
      ∙ over (same_path p (at x)) (row x) (last_by at row p ys) (if same_path p (at y) then Some (row y) else None)

  -- with one more, under its path
  pub rows-more-at : (old new : List (Key × Bor Row)) (k : Key) (v : Bor Row) (xs : List A) (i : ℕ) (d : A) → i < length xs → new ≡ insert_entry key_eq old k v → v.now ≡ row (get_or xs i d) → texts k.items ≡ at (get_or xs i d)
      → option_map (λ (r : Bor Row). r.now) (lookup (is_key p) old) ≡ last_by at row p (take i xs) → option_map (λ (r : Bor Row). r.now) (lookup (is_key p) new) ≡ last_by at row p (take (i + 1) xs)
  rows-more-at old new k v xs i d within e is names before =
      let x = get_or xs i d in
      ap (λ es. option_map (λ (r : Bor Row). r.now) (lookup (is_key p) es)) e
      ∙ ap (option_map (λ (r : Bor Row). r.now)) (inserted p old k v)
      ∙ through (is_key p k) v (lookup (is_key p) old)
      ∙ ap (λ (o : Option Row). cond (is_key p k) (Some v.now) o) before
      ∙ ap (λ ns. cond (same_path p ns) (Some v.now) (last_by at row p (take i xs))) names
      ∙ ap (λ r. cond (same_path p (at x)) (Some r) (last_by at row p (take i xs))) is
      ∙ sym (last_by-more (take i xs) x)
      ∙ ap (last_by at row p) (sym (take_more xs i d within))

  pub rows-more : (old new : List (Key × Bor Row)) (k : Key) (v : Bor Row) (xs : List A) (i : ℕ) (x : A) → i < length xs → new ≡ insert_entry key_eq old k v → get_or xs i x ≡ x → v.now ≡ row x → texts k.items ≡ at x
      → option_map (λ (r : Bor Row). r.now) (lookup (is_key p) old) ≡ last_by at row p (take i xs) → option_map (λ (r : Bor Row). r.now) (lookup (is_key p) new) ≡ last_by at row p (take (i + 1) xs)
  rows-more old new k v xs i x within e there is names before = rows-more-at old new k v xs i x within e (is ∙ ap row (sym there)) (names ∙ ap at (sym there)) before

-- of what is seen in another form
pub last_by-map : {A B : Type 0} (at : B → List (List ℕ)) (row : B → Row) (seen : A → B) (p : List (List ℕ)) (xs : List A) → last_by (λ x. at (seen x)) (λ x. row (seen x)) p xs ≡ last_by at row p (map seen xs)
last_by-map at row seen p [] = refl
last_by-map at row seen p (x ∷ xs) = ap (λ (o : Option Row). option_or o (if same_path p (at (seen x)) then Some (row (seen x)) else None)) (last_by-map at row seen p xs)
