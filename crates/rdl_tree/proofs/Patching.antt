-- Patches that fit one after another are taken back by their inverses.
use Rattle.std.proofs.Common.{◌≡◌, List, [], ◌∷◌, ◌++◌, length, refl, ap, sym, ◌∙◌, arith, append_assoc, length-append}
use Rattle.std.proofs.lemmas.List.{append-nil}
use Rattle.rdl_tree.specs.Items.{Items}
use Rattle.rdl_tree.specs.Patch.{patched, image, inverse, inverses, AllFit}
use Rattle.rdl_tree.specs.declared.patch.Patch.{Patch}
use Rattle.rdl_tree.proofs.Undone.{undoes}

pub image-append : (ps qs : List Patch) (t : Items) → image (ps ++ qs) t ≡ image qs (image ps t)
image-append [] qs t = refl
image-append (p ∷ ps) qs t = image-append ps qs (patched p t)

pub inverses-append : (ps qs : List Patch) (t : Items) → inverses (ps ++ qs) t ≡ inverses qs (image ps t) ++ inverses ps t
inverses-append [] qs t = sym (append-nil (inverses qs t))
inverses-append (p ∷ ps) qs t =
    ap (λ (rs : List Patch). rs ++ inverse p t) (inverses-append ps qs (patched p t)) ∙ append_assoc (inverses qs (image ps (patched p t))) (inverses ps (patched p t)) (inverse p t)

pub AllFit-append : (ps qs : List Patch) (t : Items) → AllFit ps t → AllFit qs (image ps t) → AllFit (ps ++ qs) t
AllFit-append [] qs t h k = k
AllFit-append (p ∷ ps) qs t h k = (h.0, AllFit-append ps qs (patched p t) h.1 k)

-- going back from where they lead is where they began
pub image-inverses : (ps : List Patch) (t : Items) → AllFit ps t → image (inverses ps t) (image ps t) ≡ t
image-inverses [] t h = refl
image-inverses (p ∷ ps) t h =
    let u = undoes p t h.0 in
    let q : Patch = u.0 in
    let t' : Items = patched p t in
    ap (λ (qs : List Patch). image (inverses ps t' ++ qs) (image ps t')) u.1.is_inverse
    ∙ image-append (inverses ps t') (q ∷ []) (image ps t') ∙ ap (patched q) (image-inverses ps t' h.1) ∙ u.1.back

pub inverses-inverses : (ps : List Patch) (t : Items) → AllFit ps t → inverses (inverses ps t) (image ps t) ≡ ps
inverses-inverses [] t h = refl
inverses-inverses (p ∷ ps) t h =
    let u = undoes p t h.0 in
    let q : Patch = u.0 in
    let t' : Items = patched p t in
    ap (λ (qs : List Patch). inverses (inverses ps t' ++ qs) (image ps t')) u.1.is_inverse
    ∙ inverses-append (inverses ps t') (q ∷ []) (image ps t')
    ∙ ap (λ d. inverse q d ++ inverses (inverses ps t') (image ps t')) (image-inverses ps t' h.1)
    ∙ ap (λ (rs : List Patch). rs ++ inverses (inverses ps t') (image ps t')) u.1.again
    ∙ ap (λ (rs : List Patch). p ∷ rs) (inverses-inverses ps t' h.1)

pub length-inverses : (ps : List Patch) (t : Items) → AllFit ps t → length (inverses ps t) ≡ length ps
length-inverses [] t h = refl
length-inverses (p ∷ ps) t h =
    let u = undoes p t h.0 in
    let t' : Items = patched p t in
    length-append (inverses ps t') (inverse p t) ∙ omega (arith, ap length u.1.is_inverse, length-inverses ps t' h.1)
