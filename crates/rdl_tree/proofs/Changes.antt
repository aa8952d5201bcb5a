-- What a change of the body at a path does.
use Rattle.std.proofs.Common.{◌≡◌, ℕ, zero, suc, Bool, true, false, cond, List, [], ◌∷◌, Some, None, refl, ap, sym, ◌∙◌}
use Rattle.std.specs.Prelude.{option_and_then}
use Rattle.rdl_tree.specs.Items.{Items, no_items, plain, holder}
use Rattle.rdl_tree.specs.Address.{inner, map_inner, body_at, map_body}

map_inner-same : (i : ℕ) (t : Items) → map_inner i (λ b. b) t ≡ t
map_inner-same i no_items = refl
map_inner-same zero (plain p rest) = refl
map_inner-same zero (holder h body rest) = refl
map_inner-same (suc i) (plain p rest) = ap (plain p) (map_inner-same i rest)
map_inner-same (suc i) (holder h body rest) = ap (holder h body) (map_inner-same i rest)

-- two changes that agree on the body that is there are one
pub map_inner-cong : (i : ℕ) (t : Items) (f g : Items → Items) → ((b : Items) → inner i t ≡ Some b → f b ≡ g b) → map_inner i f t ≡ map_inner i g t
map_inner-cong i no_items f g h = refl
map_inner-cong zero (plain p rest) f g h = refl
map_inner-cong zero (holder k body rest) f g h = ap (λ b. holder k b rest) (h body refl)
map_inner-cong (suc i) (plain p rest) f g h = ap (plain p) (map_inner-cong i rest f g h)
map_inner-cong (suc i) (holder k body rest) f g h = ap (holder k body) (map_inner-cong i rest f g h)

pub map_body-cong : (p : List ℕ) (f g : Items → Items) (t b : Items) → body_at p t ≡ Some b → f b ≡ g b → map_body p f t ≡ map_body p g t
map_body-cong [] f g t b e h = let same : t ≡ b = cc in ap f same ∙ h ∙ ap g (sym same)
map_body-cong (i ∷ p) f g t b e h =
    map_inner-cong i t (map_body p f) (map_body p g) (λ d q. map_body-cong p f g d b (ap (option_and_then (body_at p)) (sym q) ∙ e) h)

pub map_body-same : (p : List ℕ) (t : Items) → map_body p (λ b. b) t ≡ t
map_body-same [] t = refl
map_body-same (i ∷ p) t = map_inner-cong i t (map_body p (λ b. b)) (λ b. b) (λ d q. map_body-same p d) ∙ map_inner-same i t

-- where no body is there, nothing changes
pub map_body-none : (p : List ℕ) (f : Items → Items) (t : Items) → body_at p t ≡ None → map_body p f t ≡ t
map_body-none [] f t e = cc
map_body-none (i ∷ p) f t e =
    map_inner-cong i t (map_body p f) (λ b. b) (λ d q. map_body-none p f d (ap (option_and_then (body_at p)) (sym q) ∙ e)) ∙ map_inner-same i t

-- a change through the body that was lent, made or not
pub map_body_if : (f : Items → Items) (made : Bool) (p : List ℕ) (t b c : Items) → body_at p t ≡ Some b → c ≡ cond made (f b) b → map_body p (λ _. c) t ≡ cond made (map_body p f t) t
map_body_if f true p t b c e h = map_body-cong p (λ _. c) f t b e h
map_body_if f false p t b c e h = map_body-cong p (λ _. c) (λ d. d) t b e h ∙ map_body-same p t
