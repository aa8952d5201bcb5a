-- What stands before an item is what the search through whole bodies finds.
use Rattle.std.proofs.Common.{◌≡◌, ℕ, zero, suc, true, false, cond, List, [], ◌∷◌, ◌++◌, Some, None, Option, refl, ap, sym, ◌∙◌, option_map}
use Rattle.std.specs.Prelude.{option_and_then, bytes_eq}
use Rattle.std.specs.Option.{option_or}
use Rattle.rdl_tree.specs.Items.{Items, no_items, plain, holder, Plain, named, own, default, dynamic, Holder, define, anonymous}
use Rattle.rdl_tree.specs.Address.{inner}
use Rattle.rdl_tree.specs.declared.value.Value.{Value}
use Rattle.rdl_scope.specs.Types.{defines, last_definition, type_at}
use Rattle.rdl_scope.specs.Value.{last_default, nearest_default, defaulted}
use Rattle.rdl_scope.specs.Closed.{Made, Standing, lookup, after_plain, after_holder, parts, before, component_in, standing_at, closed, nothing, component, option_else}

types-plain : (p : Plain) (e : Standing) → (after_plain p e).types ≡ e.types
types-plain (named s t) e = refl
types-plain (own p v) e = refl
types-plain (default p v) e = refl
types-plain (dynamic t p v) e = refl

else-map : {X Y Z : Type 0} (m : X → Y) (f : Y → Option Z) (o : Option X) (z : Option Z) → option_else o (λ x. f (m x)) z ≡ option_else (option_map m o) f z
else-map m f None z = refl
else-map m f (Some x) z = refl

holder-else : (name : List ℕ) (e : Standing) (b : List ℕ) (n : ℕ) (h : Holder) (body rest : Items) (o : Option ℕ) →
    let next = after_holder h (b ++ n ∷ []) body (parts e (b ++ n ∷ []) 0 body) e in
    option_else o (λ k. component_in k next b (suc n) rest) (lookup name next.types)
    ≡ option_else (option_or (option_map suc o) (cond (defines name h) (Some 0) None)) (λ k. component_in k e b n (holder h body rest)) (lookup name e.types)
holder-else name e b n h body rest (Some k) = refl
holder-else name e b n (anonymous s k) body rest None = refl
holder-else name e b n (define m k) body rest None =
    elim (bytes_eq m name) as (λ q. cond q (component_in 0 e b n (holder (define m k) body rest)) (lookup name e.types) ≡ option_else (cond q (Some 0) None) (λ c. component_in c e b n (holder (define m k) body rest)) (lookup name e.types)) [ true ↦ refl | false ↦ refl ]

-- in one body
pub lookup-before : (name : List ℕ) (i : ℕ) (e : Standing) (b : List ℕ) (n : ℕ) (t : Items) → lookup name (before i e b n t).types ≡ option_else (last_definition name i t) (λ k. component_in k e b n t) (lookup name e.types)
lookup-before name zero e b n t = refl
lookup-before name (suc i) e b n no_items = refl
lookup-before name (suc i) e b n (plain p rest) =
    lookup-before name i (after_plain p e) b (suc n) rest
    ∙ ap (λ ts. option_else (last_definition name i rest) (λ k. component_in k (after_plain p e) b (suc n) rest) (lookup name ts)) (types-plain p e)
    ∙ else-map suc (λ k. component_in k e b n (plain p rest)) (last_definition name i rest) (lookup name e.types)
lookup-before name (suc i) e b n (holder h body rest) =
    lookup-before name i (after_holder h (b ++ n ∷ []) body (parts e (b ++ n ∷ []) 0 body) e) b (suc n) rest ∙ holder-else name e b n h body rest (last_definition name i rest)

no_inner : (o : Option Items) (name : List ℕ) → option_and_then (λ b. type_at [] b name) o ≡ None
no_inner None name = refl
no_inner (Some b) name = refl

-- a type's definition is an item
pub type_at-some : (a : List ℕ) (t : Items) (name : List ℕ) → type_at a t name ≡ Some [] → ⊥
type_at-some [] t name e = cc
type_at-some (i ∷ a) t name e = not_empty i (option_and_then (λ b. type_at a b name) (inner i t)) (last_definition name i t) e
  where
    not_empty : (i : ℕ) (o : Option (List ℕ)) (k : Option ℕ) → option_or (option_map (λ a. i ∷ a) o) (option_map (λ k. k ∷ []) k) ≡ Some [] → ⊥
    not_empty i (Some a) k e = cc
    not_empty i None None e = cc
    not_empty i None (Some k) e = cc

-- the case of one body more
deeper-else : (i : ℕ) (e : Standing) (b : List ℕ) (t body : Items) (found : Option (List ℕ)) (here : Option ℕ) (x : Option Made) → inner i t ≡ Some body → (found ≡ Some [] → ⊥)
    → option_else found (λ c. closed (before i e b 0 t) (b ++ i ∷ []) c body) (option_else here (λ k. component_in k e b 0 t) x)
    ≡ option_else (option_or (option_map (λ a. i ∷ a) found) (option_map (λ k. k ∷ []) here)) (λ c. closed e b c t) x
deeper-else i e b t body None None x h g = refl
deeper-else i e b t body None (Some k) x h g = refl
deeper-else i e b t body (Some []) here x h g = absurd (g refl)
deeper-else i e b t body (Some (c ∷ a)) here x h g = ap (option_and_then (closed (before i e b 0 t) (b ++ i ∷ []) (c ∷ a))) (sym h)

-- the nearest definition that stands before an item is the one to which the search through whole bodies leads
pub lookup-search : (name a : List ℕ) (e : Standing) (b : List ℕ) (t : Items) (s : Standing) → standing_at e b a t ≡ Some s
    → lookup name s.types ≡ option_else (type_at a t name) (λ c. closed e b c t) (lookup name e.types)
lookup-search name [] e b t s h = cc
lookup-search name (i ∷ []) e b t s h =
    let same : before i e b 0 t ≡ s = cc in
    ap (λ z. lookup name z.types) (sym same) ∙ lookup-before name i e b 0 t ∙ else-map (λ k. k ∷ []) (λ c. closed e b c t) (last_definition name i t) (lookup name e.types)
    ∙ ap (λ o. option_else (option_or (option_map (λ a. i ∷ a) o) (option_map (λ k. k ∷ []) (last_definition name i t))) (λ c. closed e b c t) (lookup name e.types)) (sym (no_inner (inner i t) name))
lookup-search name (i ∷ j ∷ a) e b t s h = into (λ body. lookup-search name (j ∷ a) (before i e b 0 t) (b ++ i ∷ []) body s) (inner i t) refl h
  where
    into : ((body : Items) → standing_at (before i e b 0 t) (b ++ i ∷ []) (j ∷ a) body ≡ Some s
        → lookup name s.types ≡ option_else (type_at (j ∷ a) body name) (λ c. closed (before i e b 0 t) (b ++ i ∷ []) c body) (lookup name (before i e b 0 t).types))
        → (o : Option Items) → inner i t ≡ o → option_and_then (standing_at (before i e b 0 t) (b ++ i ∷ []) (j ∷ a)) o ≡ Some s
        → lookup name s.types ≡ option_else (type_at (i ∷ j ∷ a) t name) (λ c. closed e b c t) (lookup name e.types)
    into ih None g h = cc
    into ih (Some body) g h =
        ih body h
        ∙ ap (option_else (type_at (j ∷ a) body name) (λ c. closed (before i e b 0 t) (b ++ i ∷ []) c body)) (lookup-before name i e b 0 t)
        ∙ deeper-else i e b t body (type_at (j ∷ a) body name) (last_definition name i t) (lookup name e.types) g (type_at-some (j ∷ a) body name)
        ∙ ap (λ o. option_else (option_or (option_map (λ a. i ∷ a) (option_and_then (λ b. type_at (j ∷ a) b name) o)) (option_map (λ k. k ∷ []) (last_definition name i t))) (λ c. closed e b c t) (lookup name e.types)) (sym g)

-- from the root: what stands under a name is the component to which the type leads
pub lookup-component : (name a : List ℕ) (d : Items) (s : Standing) → standing_at nothing [] a d ≡ Some s → lookup name s.types ≡ option_and_then (component d) (type_at a d name)
lookup-component name a d s h = lookup-search name a nothing [] d s h ∙ end (type_at a d name)
  where
    end : (o : Option (List ℕ)) → option_else o (λ c. closed nothing [] c d) None ≡ option_and_then (component d) o
    end None = refl
    end (Some c) = refl

-- the same of defaults
defaults-holder : (h : Holder) (at : List ℕ) (body : Items) (e : Standing) → (after_holder h at body (parts e at 0 body) e).defaults ≡ e.defaults
defaults-holder (define n k) at body e = refl
defaults-holder (anonymous s k) at body e = refl

plain-default : (p : List ℕ) (x : Plain) (e : Standing) (o : Option Value) → option_or o (lookup p (after_plain x e).defaults) ≡ option_or (option_or o (defaulted p x)) (lookup p e.defaults)
plain-default p x e (Some v) = refl
plain-default p (named s t) e None = refl
plain-default p (own q v) e None = refl
plain-default p (dynamic t q v) e None = refl
plain-default p (default q v) e None =
    elim (bytes_eq q p) as (λ z. cond z (Some v) (lookup p e.defaults) ≡ option_or (cond z (Some v) None) (lookup p e.defaults)) [ true ↦ refl | false ↦ refl ]

default-before : (p : List ℕ) (i : ℕ) (e : Standing) (b : List ℕ) (n : ℕ) (t : Items) → lookup p (before i e b n t).defaults ≡ option_or (last_default p i t) (lookup p e.defaults)
default-before p zero e b n t = refl
default-before p (suc i) e b n no_items = refl
default-before p (suc i) e b n (plain x rest) = default-before p i (after_plain x e) b (suc n) rest ∙ plain-default p x e (last_default p i rest)
default-before p (suc i) e b n (holder h body rest) =
    default-before p i (after_holder h (b ++ n ∷ []) body (parts e (b ++ n ∷ []) 0 body) e) b (suc n) rest
    ∙ ap (λ ds. option_or (last_default p i rest) (lookup p ds)) (defaults-holder h (b ++ n ∷ []) body e)

or-assoc : {X : Type 0} (a b c : Option X) → option_or a (option_or b c) ≡ option_or (option_or a b) c
or-assoc None b c = refl
or-assoc (Some x) b c = refl

no_default : (o : Option Items) (p : List ℕ) → option_and_then (λ b. nearest_default [] b p) o ≡ None
no_default None p = refl
no_default (Some b) p = refl

-- the defaults that stand before an item are the nearest ones
pub default-search : (p a : List ℕ) (e : Standing) (b : List ℕ) (t : Items) (s : Standing) → standing_at e b a t ≡ Some s → lookup p s.defaults ≡ option_or (nearest_default a t p) (lookup p e.defaults)
default-search p [] e b t s h = cc
default-search p (i ∷ []) e b t s h =
    let same : before i e b 0 t ≡ s = cc in
    ap (λ z. lookup p z.defaults) (sym same) ∙ default-before p i e b 0 t ∙ ap (λ o. option_or (option_or o (last_default p i t)) (lookup p e.defaults)) (sym (no_default (inner i t) p))
default-search p (i ∷ j ∷ a) e b t s h = into (λ body. default-search p (j ∷ a) (before i e b 0 t) (b ++ i ∷ []) body s) (inner i t) refl h
  where
    into : ((body : Items) → standing_at (before i e b 0 t) (b ++ i ∷ []) (j ∷ a) body ≡ Some s
        → lookup p s.defaults ≡ option_or (nearest_default (j ∷ a) body p) (lookup p (before i e b 0 t).defaults))
        → (o : Option Items) → inner i t ≡ o → option_and_then (standing_at (before i e b 0 t) (b ++ i ∷ []) (j ∷ a)) o ≡ Some s → lookup p s.defaults ≡ option_or (nearest_default (i ∷ j ∷ a) t p) (lookup p e.defaults)
    into ih None g h = cc
    into ih (Some body) g h =
        ih body h
        ∙ ap (option_or (nearest_default (j ∷ a) body p)) (default-before p i e b 0 t)
        ∙ or-assoc (nearest_default (j ∷ a) body p) (last_default p i t) (lookup p e.defaults)
        ∙ ap (λ o. option_or (option_or (option_and_then (λ b. nearest_default (j ∷ a) b p) o) (last_default p i t)) (lookup p e.defaults)) (sym g)
