-- A body that stands at an address is no deeper than its address lets it be.
use Rattle.std.proofs.Common.{◌≡◌, ℕ, zero, suc, ◌+◌, ◌≤◌, List, [], ◌∷◌, length, Some, None, Option, refl, ap, sym, ◌<◌, ◌∙◌, arith}
use Rattle.std.specs.Prelude.{option_and_then}
use Rattle.std.specs.Option.{option_copied}
use denote.Ref.{Bor}
use Rattle.rdl_tree.specs.Items.{Items, no_items, plain, holder}
use Rattle.rdl_tree.specs.Depth.{depth}
use Rattle.rdl_tree.specs.Address.{inner, body_at}

pub depth-inner : (i : ℕ) (t b : Items) → inner i t ≡ Some b → depth b + 1 ≤ depth t
depth-inner i no_items b e = cc
depth-inner zero (plain p rest) b e = cc
depth-inner zero (holder h body rest) b e = let same : body ≡ b = cc in omega (arith, ap depth same)
depth-inner (suc i) (plain p rest) b e = omega (arith, depth-inner i rest b e)
depth-inner (suc i) (holder h body rest) b e = omega (arith, depth-inner i rest b e)

pub depth-body_at : (a : List ℕ) (t b : Items) → body_at a t ≡ Some b → length a + depth b ≤ depth t
depth-body_at [] t b e = let same : t ≡ b = cc in omega (arith, ap depth same)
depth-body_at (i ∷ a) t b e = into (λ body. depth-body_at a body b) (inner i t) refl e
  where
    into : ((body : Items) → body_at a body ≡ Some b → length a + depth b ≤ depth body) → (o : Option Items) → inner i t ≡ o → option_and_then (body_at a) o ≡ Some b → length (i ∷ a) + depth b ≤ depth t
    into ih None g h = cc
    into ih (Some body) g h = omega (arith, depth-inner i t body g, ih body h)

-- the address of a body that a description within the limits has leaves room for an item's number
pub room : (a : List ℕ) (t : Items) (o : Option (Bor Items)) (x : Bor Items) → depth t ≤ 16 → option_copied o ≡ body_at a t → o ≡ Some x → length a < 17
room a t o x h e is = omega (arith, depth-body_at a t x.now (sym e ∙ ap option_copied is))

pub ruleset levels = (depth-body_at)
