-- What comes along a path is what the search through the bodies of the path finds.
use Rattle.std.proofs.Common.{◌≡◌, ℕ, suc, List, [], ◌∷◌, ◌++◌, Bool, true, false, Some, None, Option, refl, ap, ◌∙◌, sym}
use Rattle.std.specs.Prelude.{nat_eq, bytes_eq, ◌&&◌, option_and_then, option_map, unwrap_or, if◌then◌else◌}
use Rattle.std.specs.Option.{option_or}
use Rattle.std.specs.List.{cons_option}
use Rattle.std.specs.Cmp.Lexicographic.{pointwise}
use Rattle.rdl_tree.specs.Items.{Items, no_items, plain, holder, named, own, default, dynamic}
use Rattle.rdl_tree.specs.Address.{body_at}
use Rattle.rdl_tree.specs.declared.value.Value.{Value}
use Rattle.rdl_scope.specs.Target.{passes, body_of}
use Rattle.rdl_scope.specs.Value.{same_path, leads_to, assigned_in, assigned}
use Rattle.rdl_elab.specs.Reaches.{Reach, with_path, reaches, reaches_at, passed, behind, along, has_ended, reached}

-- the value of the first whose target has yet to pass exactly this path
abbrev ends_at : List ℕ → List (List ℕ) → List Reach → Option Value
ends_at p path [] = None
ends_at p path (r ∷ rs) = if same_path r.path path && bytes_eq r.property p then Some r.value else ends_at p path rs

or-none : {X : Type 0} (o : Option X) → option_or o None ≡ o
or-none None = refl
or-none (Some x) = refl

or-assoc : {X : Type 0} (a b c : Option X) → option_or (option_or a b) c ≡ option_or a (option_or b c)
or-assoc None b c = refl
or-assoc (Some x) b c = refl

ended : (path : List (List ℕ)) → has_ended path ≡ same_path path []
ended [] = refl
ended (a ∷ path) = refl

ends-here : (p : List ℕ) (rs : List Reach) → reached p rs ≡ ends_at p [] rs
ends-here p [] = refl
ends-here p (r ∷ rs) =
    ap (λ b. if b && bytes_eq r.property p then Some r.value else reached p rs) (ended r.path)
    ∙ ap (λ o. if same_path r.path [] && bytes_eq r.property p then Some r.value else o) (ends-here p rs)

ends-append : (p : List ℕ) (path : List (List ℕ)) (rs qs : List Reach) → ends_at p path (rs ++ qs) ≡ option_or (ends_at p path rs) (ends_at p path qs)
ends-append p path [] qs = refl
ends-append p path (r ∷ rs) qs = by (same_path r.path path && bytes_eq r.property p) (ends-append p path rs qs)
  where
    by : (b : Bool) → ends_at p path (rs ++ qs) ≡ option_or (ends_at p path rs) (ends_at p path qs)
        → (if b then Some r.value else ends_at p path (rs ++ qs)) ≡ option_or (if b then Some r.value else ends_at p path rs) (ends_at p path qs)
    by true ih = refl
    by false ih = ih

-- behind an instance
ends-behind : (p a : List ℕ) (path : List (List ℕ)) (rs : List Reach) → ends_at p path (behind a rs) ≡ ends_at p (a ∷ path) rs
ends-behind p a path [] = refl
ends-behind p a path (r ∷ rs) = by r.path (ends-behind p a path rs)
  where
    one : (b : Bool) (q : List (List ℕ)) → ends_at p path (behind a rs) ≡ ends_at p (a ∷ path) rs
        → ends_at p path (cons_option (if b then Some (record r { path = q }) else None) (behind a rs)) ≡ (if (b && same_path q path) && bytes_eq r.property p then Some r.value else ends_at p (a ∷ path) rs)
    one true q ih = ap (λ o. if same_path q path && bytes_eq r.property p then Some r.value else o) ih
    one false q ih = ih

    by : (q : List (List ℕ)) → ends_at p path (behind a rs) ≡ ends_at p (a ∷ path) rs
        → ends_at p path (cons_option (passed a r q) (behind a rs)) ≡ (if same_path q (a ∷ path) && bytes_eq r.property p then Some r.value else ends_at p (a ∷ path) rs)
    by [] ih = ih
    by (b ∷ q) ih = one (pointwise nat_eq b a) q ih

-- those of a body
ends-with : (p : List ℕ) (path : List (List ℕ)) (o : Option (List (List ℕ))) (q : List ℕ) (v : Value) (rest : List Reach)
    → ends_at p path (with_path o q v rest) ≡ option_or (if bytes_eq q p && leads_to path o then Some v else None) (ends_at p path rest)
ends-with p path None q v rest = by (bytes_eq q p)
  where
    by : (b : Bool) → ends_at p path rest ≡ option_or (if b && false then Some v else None) (ends_at p path rest)
    by true = refl
    by false = refl
ends-with p path (Some found) q v rest = by (same_path found path) (bytes_eq q p)
  where
    by : (a b : Bool) → (if a && b then Some v else ends_at p path rest) ≡ option_or (if b && a then Some v else None) (ends_at p path rest)
    by true true = refl
    by true false = refl
    by false true = refl
    by false false = refl

ends-reaches : (d : Items) (b : List ℕ) (n : ℕ) (p : List ℕ) (path : List (List ℕ)) (t : Items) → ends_at p path (reaches d b n t) ≡ assigned_in d b n p path t
ends-reaches d b n p path no_items = refl
ends-reaches d b n p path (plain (named s t) rest) = ends-reaches d b (suc n) p path rest
ends-reaches d b n p path (plain (own q v) rest) = ends-reaches d b (suc n) p path rest
ends-reaches d b n p path (plain (default q v) rest) = ends-reaches d b (suc n) p path rest
ends-reaches d b n p path (plain (dynamic t q v) rest) =
    ends-with p path (passes d b n t) q v (reaches d b (suc n) rest)
    ∙ ap (option_or (if bytes_eq q p && leads_to path (passes d b n t) then Some v else None)) (ends-reaches d b (suc n) p path rest)
ends-reaches d b n p path (holder h body rest) = ends-reaches d b (suc n) p path rest

ends-body : (d : Items) (b p : List ℕ) (path : List (List ℕ)) → ends_at p path (reaches_at d b) ≡ option_and_then (λ t. assigned_in d b 0 p path t) (body_at b d)
ends-body d b p path = by (body_at b d)
  where
    by : (o : Option Items) → ends_at p path (unwrap_or (option_map (reaches d b 0) o) []) ≡ option_and_then (λ t. assigned_in d b 0 p path t) o
    by None = refl
    by (Some t) = ends-reaches d b 0 p path t

reached-from : (d : Items) (p : List ℕ) (path : List (List ℕ)) (rs : List Reach) → reached p (along d rs path) ≡ option_or (ends_at p path rs) (assigned d p path)
reached-from d p [] rs = ends-here p rs ∙ sym (or-none (ends_at p [] rs))
reached-from d p (a ∷ path) rs =
    let here = option_and_then (λ t. assigned_in d (body_of a) 0 p (a ∷ path) t) (body_at (body_of a) d) in
    reached-from d p path (behind a (rs ++ reaches_at d (body_of a)))
    ∙ ap (λ o. option_or o (assigned d p path)) (ends-behind p a path (rs ++ reaches_at d (body_of a)) ∙ ends-append p (a ∷ path) rs (reaches_at d (body_of a)) ∙ ap (option_or (ends_at p (a ∷ path) rs)) (ends-body d (body_of a) p (a ∷ path)))
    ∙ or-assoc (ends_at p (a ∷ path) rs) here (assigned d p path)

pub reached-assigned : (d : Items) (p : List ℕ) (path : List (List ℕ)) → reached p (along d [] path) ≡ assigned d p path
reached-assigned d p path = reached-from d p path []

-- one instance further
pub along-further : (d : Items) (a : List ℕ) (path : List (List ℕ)) (rs : List Reach) → along d rs (path ++ a ∷ []) ≡ behind a (along d rs path ++ reaches_at d (body_of a))
along-further d a [] rs = refl
along-further d a (b ∷ path) rs = along-further d a path (behind b (rs ++ reaches_at d (body_of b)))
