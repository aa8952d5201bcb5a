-- A description nests as deep as what stands inside it, and deeper.
use Rattle.std.proofs.Common.{◌≡◌, ◌≢◌, ◌≤◌, ◌+◌, inl, ℕ, List, length, Some, Option, IfErr, IsErrAnd, ap, sym, subst}
use Rattle.std.specs.Prelude.{Result, Ok, Err}
use Rattle.rdl_tree.specs.Items.{Items}
use Rattle.rdl_tree.specs.Address.{body_at, map_body}
use Rattle.rdl_tree.specs.Depth.{depth}
use Rattle.rdl_scope.proofs.Depths.{depth-body_at}
use Rattle.rdl_rewrite.specs.Refuses.{Refuses, RefusesEdit}
use Rattle.rdl_rewrite.specs.Rewritten.{put_body, change_body, at_body}
use Rattle.rdl_rewrite.specs.declared.edit.PatchRefusal.{PatchRefusal}
use Rattle.rdl_rewrite.specs.declared.edit.PatchRefusal.TheVariants.{NoSuchPath, ThroughNamedType, NoSuchSibling, NameTaken, Reserved, InUse, NotSet, NotAnInstance, NotAddable, TooDeep, Memory}
use Rattle.rdl_rewrite.proofs.Leading.{body_at-map_body}

-- ---- A body in a description.

pub depth-put : (way : List ℕ) (whole body new : Items) → body_at way whole ≡ Some body → length way + depth new ≤ depth (map_body way (λ _. new) whole)
depth-put way whole body new here = depth-body_at way (map_body way (λ _. new) whole) new (body_at-map_body way (λ _. new) whole body here)

refused_at : (r : Result Items PatchRefusal) (refusal : PatchRefusal) (way : List ℕ) (whole : Items) → r ≡ Err refusal → put_body way whole r ≡ Err refusal
refused_at r refusal way whole e = ap (put_body way whole) e

refuses_put : (way : List ℕ) (whole body : Items) (r : Result Items PatchRefusal) (refusal : PatchRefusal) → body_at way whole ≡ Some body → Refuses r refusal → Refuses (put_body way whole r) refusal
refuses_put way whole body r NoSuchPath here h = refused_at r NoSuchPath way whole h
refuses_put way whole body r ThroughNamedType here h = refused_at r ThroughNamedType way whole h
refuses_put way whole body r NoSuchSibling here h = refused_at r NoSuchSibling way whole h
refuses_put way whole body r NameTaken here h = refused_at r NameTaken way whole h
refuses_put way whole body r Reserved here h = refused_at r Reserved way whole h
refuses_put way whole body r InUse here h = refused_at r InUse way whole h
refuses_put way whole body r NotSet here h = refused_at r NotSet way whole h
refuses_put way whole body r NotAnInstance here h = refused_at r NotAnInstance way whole h
refuses_put way whole body r NotAddable here h = refused_at r NotAddable way whole h
refuses_put way whole body r TooDeep here h = absurd h
refuses_put way whole body r Memory here h = tt

-- what refuses the change of a body refuses that of the whole
pub refuses_body : (way : List ℕ) (whole body : Items) (change : Items → Result Items PatchRefusal) (refusal : PatchRefusal) → body_at way whole ≡ Some body → Refuses (change body) refusal → Refuses (at_body way whole change) refusal
refuses_body way whole body change refusal here h =
    subst (λ (o : Option Items). Refuses (change_body way whole change o) refusal) (sym here) (refuses_put way whole body (change body) refusal here h)

-- ---- A refusal handed on.

pub handed_refused : {X : Type 0} (r : Result X PatchRefusal) (refusal : PatchRefusal) (way : List ℕ) (whole body : Items) (change : Items → Result Items PatchRefusal) → body_at way whole ≡ Some body
    → IsErrAnd r (λ f. f ≡ refusal) → Refuses (change body) refusal → IfErr r (λ f. RefusesEdit whole (at_body way whole change) f)
handed_refused (Ok x) refusal way whole body change here h refused = absurd h
handed_refused (Err f) refusal way whole body change here h refused =
    inl (subst (Refuses (at_body way whole change)) (sym h) (refuses_body way whole body change refusal here refused))

pub handed_not_deep : {X : Type 0} (r : Result X PatchRefusal) (refusal : PatchRefusal) (expected : Result Items PatchRefusal) → IsErrAnd r (λ f. f ≡ refusal) → Refuses expected refusal → r ≢ Err TooDeep
handed_not_deep r refusal expected h refused deep = subst (Refuses expected) (sym (subst (λ q. IsErrAnd q (λ f. f ≡ refusal)) deep h)) refused
