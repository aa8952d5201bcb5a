-- The number behind items, item by item.
use Rattle.std.proofs.Common.{◌≡◌, ℕ, zero, suc, ◌+◌, ◌<◌, ◌≤◌, length, List, [], ◌∷◌, get_or, refl, ap, sym, ◌∙◌, arith, Some, None, true, false}
use Rattle.rdl_origin.specs.Traces.{traces_count}
use Rattle.rdl_origin.specs.View.{traces_of}
use Rattle.rdl_origin.specs.declared.origin.Origin.{Origin}
use Rattle.rdl_weave.specs.Untouched.{is_now, ends_before, behind}

traces-place : (os : List Origin) (i : ℕ) (o : Origin) → i < length os → traces_count (get_or os i o).inside + 1 ≤ traces_count (traces_of os)
traces-place [] i o h = absurd (omega (arith, h))
traces-place (p ∷ ps) zero o h = omega arith
traces-place (p ∷ ps) (suc i) o h = omega (arith, traces-place ps i o (omega (arith, h)))

-- the step of a loop over the items of a body
pub traces-item : (os : List Origin) (i : ℕ) (o : Origin) → i < length os → o ≡ get_or os i o → traces_count o.inside + 1 ≤ traces_count (traces_of os)
traces-item os i o h e = omega (arith, ap (λ (p : Origin). traces_count p.inside) e, traces-place os i o h)

pub behind_touched : (sizes : List ℕ) (n : ℕ) (o : Origin) → o.is_touched ≡ true → None ≡ behind sizes n (traces_of (o ∷ []))
behind_touched sizes n o e = rw e refl

pub behind_other : (sizes : List ℕ) (n : ℕ) (o : Origin) → o.is_touched ≡ false → is_now n o.now ≡ false → None ≡ behind sizes n (traces_of (o ∷ []))
behind_other sizes n o e f = rw (e, f) refl

pub behind_none : (sizes : List ℕ) (n k : ℕ) (o : Origin) → o.is_touched ≡ false → is_now n o.now ≡ true → k ≡ n + 1 → None ≡ behind sizes k o.inside → None ≡ behind sizes n (traces_of (o ∷ []))
behind_none sizes n k o e f p g =
    let inner : behind sizes (n + 1) o.inside ≡ None = sym (g ∙ ap (λ (m : ℕ). behind sizes m o.inside) p) in
    rw (e, f, inner) refl

pub behind_some : (sizes : List ℕ) (n k end : ℕ) (o : Origin) → o.is_touched ≡ false → is_now n o.now ≡ true → k ≡ n + 1 → Some end ≡ behind sizes k o.inside
    → ends_before sizes n end ≡ true → Some end ≡ behind sizes n (traces_of (o ∷ []))
behind_some sizes n k end o e f p g b =
    let inner : behind sizes (n + 1) o.inside ≡ Some end = sym (g ∙ ap (λ (m : ℕ). behind sizes m o.inside) p) in
    rw (e, f, inner, b) refl

pub behind_longer : (sizes : List ℕ) (n k end : ℕ) (o : Origin) → o.is_touched ≡ false → is_now n o.now ≡ true → k ≡ n + 1 → Some end ≡ behind sizes k o.inside
    → ends_before sizes n end ≡ false → None ≡ behind sizes n (traces_of (o ∷ []))
behind_longer sizes n k end o e f p g b =
    let inner : behind sizes (n + 1) o.inside ≡ Some end = sym (g ∙ ap (λ (m : ℕ). behind sizes m o.inside) p) in
    rw (e, f, inner, b) refl
