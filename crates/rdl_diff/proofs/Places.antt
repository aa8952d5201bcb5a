-- Rows are found under their places.
use Rattle.std.proofs.Common.{◌≡◌, ℕ, ◌+◌, ◌-◌, ◌<◌, Bool, true, false, cond, List, [], ◌∷◌, ◌++◌, length, take, flat_map, get_or, codes, Option, Some, None, option_map, refl, sym, ap, ◌∙◌, if◌then◌else◌, bytes_eq, String, Global, string_bytes}
use Rattle.std.specs.Map.{lookup}
use Rattle.std.specs.Option.{option_or}
use Rattle.std.proofs.lemmas.List.{length-map, take-map, take_more}
use Rattle.std.proofs.lemmas.List.Folds.{flat_map-map}
use Rattle.std.proofs.lemmas.Slice.Eq.{bytes_eq-Decides}
use denote.Ref.{Bor}
use Rattle.indexmap.specs.IndexMap.{insert_entry}
use Rattle.rdl_elab.specs.declared.row.Row.{Row}
use Rattle.rdl_diff.specs.ByPath.{texts}
use Rattle.rdl_diff.specs.ByPlace.{standing, all_standing}
use Rattle.rdl_diff.specs.Renames.{around, lone_at, place}
use Rattle.rdl_diff.specs.declared.by_path.Lone.{Lone}
use Rattle.rdl_diff.proofs.Lookups.{inserted-by}

-- the names around, of all names
pub around_texts : (names : List (Bor (List ℕ))) → flat_map (λ n. n.now ++ codes ".") (take (length names - 1) names) ≡ around (texts names)
around_texts names =
    sym (flat_map-map (λ (name : List ℕ). name ++ codes ".") (λ (n : Bor (List ℕ)). n.now) (take (length names - 1) names))
    ∙ ap (flat_map (λ (name : List ℕ). name ++ codes ".")) (sym (take-map (λ (n : Bor (List ℕ)). n.now) (length names - 1) names) ∙ ap (λ n. take (n - 1) (texts names)) (sym (length-map names (λ (n : Bor (List ℕ)). n.now))))

-- the equality of keys, as the code has it
abbrev pub text_eq : String Global → String Global → Bool
text_eq a b = bytes_eq (string_bytes a) (string_bytes b)

abbrev is_text : List ℕ → String Global → Bool
is_text t k = bytes_eq t (string_bytes k)

same : (t : List ℕ) (k q : String Global) → text_eq k q ≡ true → is_text t k ≡ is_text t q
same t k q e = ap (bytes_eq t) ((bytes_eq-Decides (string_bytes k) (string_bytes q)).0 e)

both : (t : List ℕ) (k q : String Global) → is_text t k ≡ true → is_text t q ≡ true → text_eq k q ≡ true
both t k q e f = (bytes_eq-Decides (string_bytes k) (string_bytes q)).1 (sym ((bytes_eq-Decides t (string_bytes k)).0 e) ∙ (bytes_eq-Decides t (string_bytes q)).0 f)

-- the last one is found first
over : (b : Bool) (x : Row × List Row) (o q : Option (Row × List Row)) → option_or (if b then Some x else o) q ≡ (if b then Some x else option_or o q)
over true x o q = refl
over false x o q = refl

lone_at-more : (t : List ℕ) (xs : List (Row × List Row)) (x : Row × List Row) → lone_at t (xs ++ x ∷ []) ≡ (if bytes_eq t (place x.0) then Some x else lone_at t xs)
lone_at-more t [] x = refl
lone_at-more t (y ∷ ys) x =
    ap (λ (o : Option (Row × List Row)). option_or o (if bytes_eq t (place y.0) then Some y else None)) (lone_at-more t ys x)
    ∙ over (bytes_eq t (place x.0)) x (lone_at t ys) (if bytes_eq t (place y.0) then Some y else None)

through : (b : Bool) (v : Lone) (o : Option Lone) → option_map standing (cond b (Some v) o) ≡ cond b (Some (standing v)) (option_map standing o)
through true v o = refl
through false v o = refl

-- with one more, under its place
pub places-more : (t : List ℕ) (old new : List (String Global × Lone)) (k : String Global) (v : Lone) (xs : List Lone) (i : ℕ) → i < length xs → new ≡ insert_entry text_eq old k v → get_or xs i v ≡ v → string_bytes k ≡ place v.row.now
    → option_map standing (lookup (is_text t) old) ≡ lone_at t (all_standing (take i xs)) → option_map standing (lookup (is_text t) new) ≡ lone_at t (all_standing (take (i + 1) xs))
places-more t old new k v xs i within e there is before =
    ap (λ es. option_map standing (lookup (is_text t) es)) e
    ∙ ap (option_map standing) (inserted-by text_eq (is_text t) (same t) (both t) old k v)
    ∙ through (is_text t k) v (lookup (is_text t) old)
    ∙ ap (λ (o : Option (Row × List Row)). cond (is_text t k) (Some (standing v)) o) before
    ∙ ap (λ name. cond (bytes_eq t name) (Some (standing v)) (lone_at t (all_standing (take i xs)))) is
    ∙ sym (lone_at-more t (all_standing (take i xs)) (standing v))
    ∙ ap (λ y. lone_at t (all_standing (take i xs) ++ standing y ∷ [])) (sym there)
    ∙ ap (lone_at t) (sym (map-more (take i xs) (get_or xs i v)) ∙ ap all_standing (sym (take_more xs i v within)))
  where
    map-more : (ys : List Lone) (y : Lone) → all_standing (ys ++ y ∷ []) ≡ all_standing ys ++ standing y ∷ []
    map-more [] y = refl
    map-more (z ∷ zs) y = ap (λ ws. standing z ∷ ws) (map-more zs y)
