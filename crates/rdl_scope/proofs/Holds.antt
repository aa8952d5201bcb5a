-- A component is closed wherever there is one.
use Rattle.std.proofs.Common.{◌≡◌, ℕ, zero, suc, List, [], ◌∷◌, ◌++◌, Some, None, Option, refl, ◌∙◌}
use Rattle.std.specs.Prelude.{option_and_then}
use Rattle.std.specs.Option.{is_some}
use Rattle.rdl_tree.specs.Items.{Items, no_items, plain, holder}
use Rattle.rdl_tree.specs.Address.{inner, body_at}
use Rattle.rdl_scope.specs.Closed.{Made, Standing, parts, after_plain, after_holder, before, component_in, closed, nothing, component}

in_body : (i : ℕ) (e : Standing) (b : List ℕ) (n : ℕ) (t : Items) → is_some (component_in i e b n t) ≡ is_some (inner i t)
in_body i e b n no_items = refl
in_body zero e b n (plain p rest) = refl
in_body zero e b n (holder h body rest) = refl
in_body (suc i) e b n (plain p rest) = in_body i (after_plain p e) b (suc n) rest
in_body (suc i) e b n (holder h body rest) = in_body i (after_holder h (b ++ n ∷ []) body (parts e (b ++ n ∷ []) 0 body) e) b (suc n) rest

one : (o : Option Items) → is_some o ≡ is_some (option_and_then (body_at []) o)
one None = refl
one (Some t) = refl

both : (f : Items → Option Made) (g : Items → Option Items) → ((t : Items) → is_some (f t) ≡ is_some (g t)) → (o : Option Items) → is_some (option_and_then f o) ≡ is_some (option_and_then g o)
both f g h None = refl
both f g h (Some t) = h t

along : (i : ℕ) (a : List ℕ) (e : Standing) (b : List ℕ) (t : Items) → is_some (closed e b (i ∷ a) t) ≡ is_some (body_at (i ∷ a) t)
along i [] e b t = in_body i e b 0 t ∙ one (inner i t)
along i (j ∷ a) e b t = both (closed (before i e b 0 t) (b ++ i ∷ []) (j ∷ a)) (body_at (j ∷ a)) (λ body. along j a (before i e b 0 t) (b ++ i ∷ []) body) (inner i t)

pub holds : (d : Items) (i : ℕ) (a : List ℕ) → is_some (component d (i ∷ a)) ≡ is_some (body_at (i ∷ a) d)
holds d i a = along i a nothing [] d
