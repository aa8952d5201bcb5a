-- The definitions in scope, the nearest first, each by its name and its address.
use Rattle.std.proofs.Common.{◌≡◌, ℕ, zero, suc, ◌<◌, Bool, true, false, if◌then◌else◌, List, [], ◌∷◌, ◌++◌, length, map, Option, Some, None, refl, sym, ap, ◌∙◌, arith}
use Rattle.std.specs.Prelude.{slice_get, option_map, bytes_eq}
use Rattle.std.specs.Option.{option_or}
use Rattle.rdl_tree.specs.Items.{Items, no_items, plain, holder, named, own, default, dynamic, define, anonymous}
use Rattle.rdl_tree.specs.View.{list_of}
use Rattle.rdl_tree.specs.declared.description.Item.{Item}
use Rattle.rdl_tree.specs.declared.description.Item.TheVariants.{Define, Instance, Own, Default, Dynamic}
use Rattle.rdl_scope.specs.Closed.{lookup}
use Rattle.rdl_scope.specs.Types.{last_definition}
use Rattle.rdl_marks.specs.Marks.{Marks}
use Rattle.rdl_reach.specs.Before.{address_before}
use Rattle.rdl_reach.specs.Skeleton.{number_in}

abbrev pub Scope : Type 0
Scope = List (List ℕ × List ℕ)

abbrev pub names : Scope → List (List ℕ)
names s = map (λ e. e.0) s

-- behind item n of the body at b
abbrev pub scope_after : List ℕ → ℕ → Item → Scope → Scope
scope_after b n (Define name c) s = (name, b ++ n ∷ []) ∷ s
scope_after b n (Instance u o) s = s
scope_after b n (Own p v) s = s
scope_after b n (Default p v) s = s
scope_after b n (Dynamic t p v) s = s

abbrev pub scope_behind : List ℕ → ℕ → Option Item → Scope → Scope
scope_behind b n None s = s
scope_behind b n (Some x) s = scope_after b n x s

-- before item n of it
abbrev pub scope_before : List ℕ → ℕ → List Item → Scope → Scope
scope_before b zero xs s = s
scope_before b (suc n) xs s = scope_behind b n (slice_get xs n) (scope_before b n xs s)

-- ---- A name leads to the nearest definition.

-- item n, if it defines the name, or else this
abbrev defined_by : List ℕ → ℕ → Option Item → Option ℕ → Option ℕ
defined_by name n None before = before
defined_by name n (Some (Define m c)) before = if bytes_eq m name then Some n else before
defined_by name n (Some (Instance u o)) before = before
defined_by name n (Some (Own p v)) before = before
defined_by name n (Some (Default p v)) before = before
defined_by name n (Some (Dynamic t p v)) before = before

one_more : (name : List ℕ) (n : ℕ) (o : Option Item) (k : Option ℕ) → option_map suc (defined_by name n o k) ≡ defined_by name (suc n) o (option_map suc k)
one_more name n None k = refl
one_more name n (Some (Define m c)) k = by (bytes_eq m name)
  where
    by : (b : Bool) → option_map suc (if b then Some n else k) ≡ (if b then Some (suc n) else option_map suc k)
    by true = refl
    by false = refl
one_more name n (Some (Instance u o)) k = refl
one_more name n (Some (Own p v)) k = refl
one_more name n (Some (Default p v)) k = refl
one_more name n (Some (Dynamic t p v)) k = refl

or_else : (name : List ℕ) (n : ℕ) (o : Option Item) (k other : Option ℕ) → option_or (defined_by name n o k) other ≡ defined_by name n o (option_or k other)
or_else name n None k other = refl
or_else name n (Some (Define m c)) k other = by (bytes_eq m name)
  where
    by : (b : Bool) → option_or (if b then Some n else k) other ≡ (if b then Some n else option_or k other)
    by true = refl
    by false = refl
or_else name n (Some (Instance u o)) k other = refl
or_else name n (Some (Own p v)) k other = refl
or_else name n (Some (Default p v)) k other = refl
or_else name n (Some (Dynamic t p v)) k other = refl

none-yet : (name : List ℕ) (t : Items) → last_definition name 0 t ≡ None
none-yet name t = refl

last-next : (name : List ℕ) (n : ℕ) (t : Items) → last_definition name (suc n) t ≡ defined_by name n (slice_get (list_of t) n) (last_definition name n t)
last-next name zero no_items = refl
last-next name (suc n) no_items = refl
last-next name zero (plain (named s y) rest) = refl
last-next name zero (plain (own p v) rest) = refl
last-next name zero (plain (default p v) rest) = refl
last-next name zero (plain (dynamic g p v) rest) = refl
last-next name (suc n) (plain p rest) = ap (option_map suc) (last-next name n rest) ∙ one_more name n (slice_get (list_of rest) n) (last_definition name n rest)
last-next name zero (holder (define m k) body rest) = refl
last-next name zero (holder (anonymous s k) body rest) = refl
last-next name (suc n) (holder (define m k) body rest) =
    let other : Option ℕ = if bytes_eq m name then Some 0 else None in
    ap (λ o. option_or o other) (ap (option_map suc) (last-next name n rest) ∙ one_more name n (slice_get (list_of rest) n) (last_definition name n rest))
    ∙ or_else name (suc n) (slice_get (list_of rest) n) (option_map suc (last_definition name n rest)) other
last-next name (suc n) (holder (anonymous s k) body rest) =
    ap (λ o. option_or o None) (ap (option_map suc) (last-next name n rest) ∙ one_more name n (slice_get (list_of rest) n) (last_definition name n rest))
    ∙ or_else name (suc n) (slice_get (list_of rest) n) (option_map suc (last_definition name n rest)) None

-- the address of the definition of this number, or what is found outside
abbrev found_at : List ℕ → Option ℕ → Option (List ℕ) → Option (List ℕ)
found_at b k outside = option_or (option_map (λ n. b ++ n ∷ []) k) outside

one_behind : (b name : List ℕ) (n : ℕ) (o : Option Item) (s : Scope) (k : Option ℕ) (outside : Option (List ℕ)) → lookup name s ≡ found_at b k outside
    → lookup name (scope_behind b n o s) ≡ found_at b (defined_by name n o k) outside
one_behind b name n None s k outside e = e
one_behind b name n (Some (Define m c)) s k outside e = by (bytes_eq m name)
  where
    by : (z : Bool) → (if z then Some (b ++ n ∷ []) else lookup name s) ≡ found_at b (if z then Some n else k) outside
    by true = refl
    by false = e
one_behind b name n (Some (Instance u o)) s k outside e = e
one_behind b name n (Some (Own p v)) s k outside e = e
one_behind b name n (Some (Default p v)) s k outside e = e
one_behind b name n (Some (Dynamic t p v)) s k outside e = e

pub looked_up : (b name : List ℕ) (n : ℕ) (t : Items) (s : Scope) → lookup name (scope_before b n (list_of t) s) ≡ option_or (option_map (λ k. b ++ k ∷ []) (last_definition name n t)) (lookup name s)
looked_up b name zero t s = refl
looked_up b name (suc n) t s =
    one_behind b name n (slice_get (list_of t) n) (scope_before b n (list_of t) s) (last_definition name n t) (lookup name s) (looked_up b name n t s)
    ∙ ap (λ k. found_at b k (lookup name s)) (sym (last-next name n t))

-- ---- Scopes of which each definition stood where that of the other stands.

abbrev pub AreLed : Marks → (now was : Scope) → Type 0
AreLed m [] [] = Unit {0}
AreLed m [] (e ∷ es) = ⊥
AreLed m (f ∷ fs) [] = ⊥
AreLed m (f ∷ fs) (e ∷ es) = (address_before m f.1 ≡ Some e.1) × AreLed m fs es

abbrev pub LeadAlike : Marks → (now was : Option (List ℕ)) → Type 0
LeadAlike m None None = Unit {0}
LeadAlike m None (Some q) = ⊥
LeadAlike m (Some p) None = ⊥
LeadAlike m (Some p) (Some q) = address_before m p ≡ Some q

many : (m : Marks) (fs es : Scope) → AreLed m fs es → length (names fs) ≡ length (names es)
many m [] [] h = refl
many m [] (e ∷ es) h = absurd h
many m (f ∷ fs) [] h = absurd h
many m (f ∷ fs) (e ∷ es) h = ap suc (many m fs es h.1)

below : (ns : List (List ℕ)) (t : List ℕ) (k : ℕ) → number_in ns t ≡ Some k → k < length ns
below [] t k e = cc
below (n ∷ ns) t k e = by (bytes_eq n t) e (λ f. below ns t k f)
  where
    by : (b : Bool) → (if b then Some (length ns) else number_in ns t) ≡ Some k → (number_in ns t ≡ Some k → k < length ns) → k < suc (length ns)
    by true e more = let same : length ns ≡ k = cc in omega (arith, same)
    by false e more = omega (arith, more e)

-- references of one number lead alike
pub lead_alike : (m : Marks) (fs es : Scope) (y x : List ℕ) → AreLed m fs es → number_in (names fs) y ≡ number_in (names es) x → LeadAlike m (lookup y fs) (lookup x es)
lead_alike m [] [] y x h e = tt
lead_alike m [] (f ∷ es) y x h e = absurd h
lead_alike m (f ∷ fs) [] y x h e = absurd h
lead_alike m (f ∷ fs) (g ∷ es) y x h e = by (bytes_eq f.0 y) (bytes_eq g.0 x) e (lead_alike m fs es y x h.1)
  where
    same : length (names fs) ≡ length (names es)
    same = many m fs es h.1

    by : (a b : Bool) → (if a then Some (length (names fs)) else number_in (names fs) y) ≡ (if b then Some (length (names es)) else number_in (names es) x)
        → (number_in (names fs) y ≡ number_in (names es) x → LeadAlike m (lookup y fs) (lookup x es)) → LeadAlike m (if a then Some f.1 else lookup y fs) (if b then Some g.1 else lookup x es)
    by true true e more = h.0
    by true false e more = absurd (let low = below (names es) x (length (names fs)) (sym e) in omega (arith, low, same))
    by false true e more = absurd (let low = below (names fs) y (length (names es)) e in omega (arith, low, same))
    by false false e more = more e
