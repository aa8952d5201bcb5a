-- What follows a new name, name by name.
use Rattle.std.proofs.Common.{◌≡◌, ◌≤◌, ℕ, Bool, true, false, cond, List, [], ◌∷◌, ◌++◌, length, drop, Some, None, Option, refl, ap, sym, ◌∙◌}
use Rattle.std.proofs.lemmas.List.{append-nil, drop_all}
use Rattle.std.specs.List.{list_any}
use Rattle.rdl_tree.specs.Items.{Items}
use Rattle.rdl_tree.specs.declared.description.Item.{Item}
use Rattle.rdl_tree.specs.declared.description.Item.TheVariants.{Instance}
use Rattle.rdl_tree.specs.declared.description.Of.{Of}
use Rattle.rdl_tree.specs.declared.description.Of.TheVariants.{Named}
use Rattle.rdl_tree.specs.declared.part.Part.TheVariants.{OfShell, OfTarget, OfType}
use Rattle.rdl_tree.specs.declared.shell.Shell.{Shell}
use Rattle.rdl_scope.specs.Types.{type_of}
use Rattle.rdl_rewrite.specs.Addresses.{same, leads_to, passes_by}
use Rattle.rdl_rewrite.specs.Fates.{given_if, fate_of_target, fate_in_renaming}
use Rattle.rdl_rewrite.specs.Passed.{if_passed}
use Rattle.rdl_rewrite.specs.declared.fate.Fate.TheVariants.{Given}
use Rattle.rdl_rewrite.specs.Renaming.{renamed_names, renamed_target}
use Rattle.rdl_rewrite.proofs.Found.{or-false}

-- ---- The names of a target.

names-none : (way name : List ℕ) (path : List (List ℕ)) → renamed_names way name path [] ≡ []
names-none way name [] = refl
names-none way name (a ∷ path) = refl

-- all names are passed
pub names_done : (way name : List ℕ) (i : ℕ) (path names all ys : List (List ℕ)) → length names ≤ i
    → all ≡ ys ++ renamed_names way name (drop i path) (drop i names) → ys ≡ all
names_done way name i path names all ys h w =
    sym (w ∙ ap (λ ns. ys ++ renamed_names way name (drop i path) ns) (drop_all i names h) ∙ ap (λ us. ys ++ us) (names-none way name (drop i path)) ∙ append-nil ys)

-- ---- A target that doesn't pass the item on the way.

names-kept : (way name : List ℕ) (path names : List (List ℕ)) → list_any (λ at. same at way) path ≡ false → renamed_names way name path names ≡ names
names-kept way name [] names e = refl
names-kept way name (a ∷ path) [] e = refl
names-kept way name (a ∷ path) (n ∷ names) e =
    let apart = or-false (same a way) _ e in
    ap (λ o. cond o name n ∷ renamed_names way name path names) apart.0 ∙ ap (λ ns. n ∷ ns) (names-kept way name path names apart.1)

pub target-kept : (way name : List ℕ) (o : Option (List (List ℕ))) (target : List (List ℕ)) → passes_by way o ≡ false → renamed_target way name o target ≡ target
target-kept way name None target e = refl
target-kept way name (Some path) target e = names-kept way name path target e

-- ---- A reference.

-- what an instance of a named type gets, which isn't itself on the way
pub type_renamed : (d : Items) (way name at : List ℕ) (x : Item) (s : Shell) (o : Of) (type : List ℕ) (leads : Bool) → x ≡ Instance s o → o ≡ Named type → same at way ≡ false
    → leads ≡ leads_to way (type_of d at) → given_if leads (OfType name) ≡ fate_in_renaming d way name at x
type_renamed d way name at x s o type leads is refers apart e =
    ap (λ b. given_if b (OfType name)) e
    ∙ sym (ap (fate_in_renaming d way name at) (is ∙ ap (Instance s) refers)
    ∙ ap (λ b. cond b (Given (OfShell (record s { name = name }))) (given_if (leads_to way (type_of d at)) (OfType name))) apart)

-- what an assignment gets
pub target_renamed : (way name : List ℕ) (target : List (List ℕ)) (o : Option (List (List ℕ))) → fate_of_target way name target (if_passed way o) ≡ given_if (passes_by way o) (OfTarget (renamed_target way name o target))
target_renamed way name target None = refl
target_renamed way name target (Some path) = by_case (passes_by way (Some path))
  where
    by_case : (b : Bool) → fate_of_target way name target (cond b (Some path) None) ≡ given_if b (OfTarget (renamed_target way name (Some path) target))
    by_case true = refl
    by_case false = refl
