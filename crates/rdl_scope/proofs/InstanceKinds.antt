-- The kind of an instance's component.
use Rattle.std.proofs.Common.{◌≡◌, ℕ, ◌+◌, ◌<◌, List, [], ◌∷◌, length, Some, None, Option, refl, ap, arith, option_map}
use Rattle.std.specs.Prelude.{option_and_then}
use Rattle.std.specs.Option.{option_or}
use Rattle.rdl_tree.specs.ItemAt.{item_at}
use Rattle.rdl_tree.specs.Items.{Items}
use Rattle.rdl_tree.specs.Address.{inner}
use Rattle.rdl_tree.specs.declared.shell.Shell.{Shell}
use Rattle.rdl_tree.specs.declared.description.Component.{Component}
use Rattle.rdl_tree.specs.declared.description.Item.TheVariants.{Instance}
use Rattle.rdl_tree.specs.declared.description.Of.TheVariants.{Named, Anonymous}
use Rattle.rdl_scope.specs.Types.{last_definition, held_by, type_at, component_of}
use Rattle.rdl_scope.specs.Walk.{found, below}

within-more : (path : List ℕ) (p : ℕ × ℕ) (o : Option (ℕ × ℕ)) → ((r : ℕ × ℕ) → o ≡ Some r → r.0 < length path) → (k : Option ℕ) → option_or (option_map below o) (option_map (λ k. (0, k)) k) ≡ Some p → p.0 < length path + 1
within-more path p None h None e = cc
within-more path p None h (Some k) e = let same : ◌≡◌ {A = ℕ × ℕ} (0, k) p = cc in omega (arith, ap (λ (z : ℕ × ℕ). z.0) same)
within-more path p (Some r) h k e = let same : below r ≡ p = cc in omega (arith, ap (λ (z : ℕ × ℕ). z.0) same, h r refl)

-- the level is one of those along the path
pub found-within : (path : List ℕ) (t : Items) (name : List ℕ) (p : ℕ × ℕ) → found path t name ≡ Some p → p.0 < length path
found-within [] t name p e = cc
found-within (i ∷ path) t name p e = omega (arith, into (λ b r. found-within path b name r) (inner i t) (last_definition name i t) e)
  where
    into : ((b : Items) (r : ℕ × ℕ) → found path b name ≡ Some r → r.0 < length path) → (o : Option Items) (k : Option ℕ) → option_or (option_map below (option_and_then (λ b. found path b name) o)) (option_map (λ k. (0, k)) k) ≡ Some p
        → p.0 < length path + 1
    into ih None k e = within-more path p None (λ r h. cc) k e
    into ih (Some b) k e = within-more path p (found path b name) (ih b) k e

pub component-named : (d : Items) (a : List ℕ) (s : Shell) (t : List ℕ) → item_at a d ≡ Some (Instance s (Named t)) → component_of d a ≡ type_at a d t
component-named d a s t e = ap (option_and_then (held_by d a)) e

pub component-anonymous : (d : Items) (a : List ℕ) (s : Shell) (c : Component) → item_at a d ≡ Some (Instance s (Anonymous c)) → component_of d a ≡ Some a
component-anonymous d a s c e = ap (option_and_then (held_by d a)) e
