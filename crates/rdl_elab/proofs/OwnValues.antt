-- Steps along the own assignments in a body.
use Rattle.std.proofs.Common.{◌≡◌, ℕ, zero, suc, ◌+◌, ◌<◌, ◌≤◌, List, [], ◌∷◌, ◌++◌, length, take, drop, get_or, Bool, true, false, Some, None, Option, refl, ap, sym, subst, ◌∙◌, add-one, arith}
use Rattle.std.specs.Prelude.{◌||◌, IfSome, bytes_eq, if◌then◌else◌, slice_get}
use Rattle.std.specs.List.{list_any}
use Rattle.std.specs.Option.{option_or}
use Rattle.std.proofs.Math.Seq.{take-suc}
use Rattle.rdl_tree.specs.Properties.{row, property_of}
use Rattle.rdl_tree.specs.declared.shell.Kind.{Kind}
use Rattle.rdl_tree.specs.declared.property.Property.{Property}
use Rattle.rdl_tree.specs.declared.value.Value.{Value}
use Rattle.rdl_elab.specs.declared.walk.own_values.Assigned.{Assigned}
use Rattle.rdl_tree.specs.Items.{Items, no_items, plain, holder, named, own, default, dynamic, define, anonymous}
use Rattle.std.proofs.lemmas.List.{take_all}
use Rattle.std.proofs.lemmas.Option.{slice_get-get_or}
use Rattle.rdl_tree.specs.View.{items_of, list_of}
use Rattle.rdl_tree.specs.Address.{number_of}
use Rattle.rdl_tree.proofs.Places.{number-place}
use Rattle.rdl_tree.specs.declared.shell.Shell.{Shell}
use Rattle.rdl_tree.specs.declared.description.Item.TheVariants.{Define, Instance, Own, Default, Dynamic}
use Rattle.rdl_tree.specs.declared.description.Of.{Of}
use Rattle.rdl_scope.specs.Value.{own_before}
use Rattle.rdl_scope.specs.Walk.{owned_by}
use Rattle.rdl_scope.proofs.ValueSearches.{own-suc, own-all}
use Rattle.rdl_elab.specs.Kept.{Part}
use Rattle.rdl_elab.specs.declared.walk.Found.{Found}
use Rattle.rdl_elab.specs.Stands.{in_list, placed}
use Rattle.rdl_elab.proofs.Goings.{append_nil}
use Rattle.rdl_tree.proofs.Rounds.{items_of-list_of}
use Rattle.rdl_tree.specs.declared.description.Item.{Item}
use Rattle.rdl_elab.specs.OwnValues.{assigned_to, first_met, is_dynamic, dynamic_there, any_dynamic, AreOwn, AreOfInstances, AreStatedBefore, IsFirstAmong, IsFirstDynamic, IsFirstWithin, IsInstance}
use Rattle.rdl_elab.specs.Reaches.{reaches_by}
use Rattle.rdl_elab.specs.StatedValues.{shown_on, if_named}
use Rattle.rdl_elab.proofs.Names.{names-apart}
use Rattle.rdl_elab.proofs.StatedLists.{or-assoc, shown-or, same-named, name-of, not-its-name, adds-none}

assigned-append : (p : Property) (xs ys : List Assigned) → assigned_to p (xs ++ ys) ≡ option_or (assigned_to p xs) (assigned_to p ys)
assigned-append p [] ys = refl
assigned-append p (x ∷ xs) ys =
    elim (bytes_eq (row x.property).name (row p).name) as (λ b. (if b then Some x.value.now else assigned_to p (xs ++ ys)) ≡ option_or (if b then Some x.value.now else assigned_to p xs) (assigned_to p ys)) [
      | true ↦ refl
      | false ↦ assigned-append p xs ys
    ]

-- one assignment more, to a property or to no property's name
pub one-assigned : (p : Property) (xs : List Assigned) (x : Assigned) (name : List ℕ) → property_of name ≡ Some x.property → assigned_to p (xs ++ x ∷ []) ≡ option_or (assigned_to p xs) (if_named name (Some x.value.now) p)
one-assigned p xs x name e =
    assigned-append p xs (x ∷ [])
    ∙ ap (λ n. option_or (assigned_to p xs) (if bytes_eq n (row p).name then Some x.value.now else None)) (sym (name-of name x.property e))

pub none-assigned : (p : Property) (old : Option Value) (name : List ℕ) (v : Value) → property_of name ≡ None → old ≡ option_or old (if_named name (Some v) p)
none-assigned p old name v none =
    adds-none old (if_named name (Some v) p) (ap (λ b. if b then Some v else None) (not-its-name name p (bytes_eq name (row p).name) refl none))

-- what is stated, with one assignment more
pub one-stated : (k : Kind) (p : Property) (i : ℕ) (xs : List Assigned) (x : Assigned) (first before after : Option Value) → i < length xs → x ≡ get_or xs i x
    → before ≡ option_or first (shown_on k p (assigned_to p (take i xs))) → after ≡ option_or before (if_named (row x.property).name (shown_on k x.property (Some x.value.now)) p)
    → after ≡ option_or first (shown_on k p (assigned_to p (take (i + 1) xs)))
one-stated k p i xs x first before after l is e f =
    let behind = assigned_to p (take i xs) in
    let this = if bytes_eq (row x.property).name (row p).name then Some x.value.now else None in
    let all : assigned_to p (take (i + 1) xs) ≡ option_or behind this =
    ap (λ n. assigned_to p (take n xs)) (add-one i)
    ∙ ap (assigned_to p) (take-suc xs i x l)
    ∙ assigned-append p (take i xs) (get_or xs i x ∷ [])
    ∙ ap (λ (a : Assigned). option_or behind (assigned_to p (a ∷ []))) (sym is) in
    f
    ∙ (λ j. option_or (e j) (same-named k x.property p x.value.now (bytes_eq (row x.property).name (row p).name) (names-apart x.property p) j))
    ∙ or-assoc first (shown_on k p behind) (shown_on k p this)
    ∙ ap (option_or first) (shown-or k p behind this)
    ∙ ap (λ o. option_or first (shown_on k p o)) (sym all)

or-none : (a : Bool) → a || false ≡ a
or-none true = refl
or-none false = refl

or-assoc-bool : (a b c : Bool) → a || (b || c) ≡ (a || b) || c
or-assoc-bool true b c = refl
or-assoc-bool false b c = refl

-- one item more may be the first dynamic assignment
pub dynamic-next : (i : ℕ) (xs : List Item) (o : Option Item) → o ≡ slice_get xs i → list_any is_dynamic (take (suc i) xs) ≡ list_any is_dynamic (take i xs) || dynamic_there o
dynamic-next zero [] o e = sym (ap dynamic_there e)
dynamic-next (suc i) [] o e = sym (ap dynamic_there e)
dynamic-next zero (x ∷ xs) o e = or-none (is_dynamic x) ∙ sym (ap dynamic_there e)
dynamic-next (suc i) (x ∷ xs) o e = ap (λ b. is_dynamic x || b) (dynamic-next i xs o e) ∙ or-assoc-bool (is_dynamic x) (list_any is_dynamic (take i xs)) (dynamic_there o)

one-on : (n i : ℕ) → suc n + i ≡ n + suc i
one-on n i = omega arith

-- without dynamic assignments nothing is reached
pub no-dynamic : (f : ℕ → List (List ℕ) → Option (List (List ℕ))) (n : ℕ) (t : Items) → any_dynamic t ≡ false → reaches_by f n t ≡ []
no-dynamic f n no_items h = refl
no-dynamic f n (plain (named s u) rest) h = no-dynamic f (suc n) rest h
no-dynamic f n (plain (own p v) rest) h = no-dynamic f (suc n) rest h
no-dynamic f n (plain (default p v) rest) h = no-dynamic f (suc n) rest h
no-dynamic f n (plain (dynamic u p v) rest) h = absurd cc
no-dynamic f n (holder (define m k) body rest) h = no-dynamic f (suc n) rest h
no-dynamic f n (holder (anonymous s k) body rest) h = no-dynamic f (suc n) rest h

pub first-next : (i : ℕ) (xs : List Item) (x : Item) (o : Option ℕ) → Some x ≡ slice_get xs i → IsFirstWithin o i xs → IsFirstWithin (first_met o i (is_dynamic x)) (suc i) xs
first-next i xs x o e h = by o (is_dynamic x) (dynamic-next i xs (Some x) e) h
  where
    by : (o : Option ℕ) (b : Bool) → list_any is_dynamic (take (suc i) xs) ≡ list_any is_dynamic (take i xs) || b → IsFirstWithin o i xs → IsFirstWithin (first_met o i b) (suc i) xs
    by None false g h = g ∙ ap (λ a. a || false) h
    by None true g h = (h, g ∙ ap (λ a. a || true) h)
    by (Some n) false g h = (h.0, g ∙ ap (λ a. a || false) h.1)
    by (Some n) true g h = (h.0, g ∙ ap (λ a. a || true) h.1)

pub first-of-all : (i : ℕ) (xs : List Item) (o : Option ℕ) → take i xs ≡ xs → IsFirstWithin o i xs → IsFirstAmong o xs
first-of-all i xs None e h = ap (list_any is_dynamic) (sym e) ∙ h
first-of-all i xs (Some n) e h = (h.0, ap (list_any is_dynamic) (sym e) ∙ h.1)

-- what is reached is reached by the items from the first dynamic assignment on
behind-first : (f : ℕ → List (List ℕ) → Option (List (List ℕ))) (i n : ℕ) (t : Items) → list_any is_dynamic (take i (list_of t)) ≡ false → reaches_by f n t ≡ reaches_by f (n + i) (items_of (drop i (list_of t)))
behind-first f zero n t h = sym (ap (reaches_by f n) (items_of-list_of t)) ∙ ap (λ k. reaches_by f k (items_of (list_of t))) (none n)
  where
    none : (n : ℕ) → n ≡ n + 0
    none n = omega arith
behind-first f (suc i) n no_items h = refl
behind-first f (suc i) n (plain (named s u) rest) h = behind-first f i (suc n) rest h ∙ ap (λ k. reaches_by f k (items_of (drop i (list_of rest)))) (one-on n i)
behind-first f (suc i) n (plain (own p v) rest) h = behind-first f i (suc n) rest h ∙ ap (λ k. reaches_by f k (items_of (drop i (list_of rest)))) (one-on n i)
behind-first f (suc i) n (plain (default p v) rest) h = behind-first f i (suc n) rest h ∙ ap (λ k. reaches_by f k (items_of (drop i (list_of rest)))) (one-on n i)
behind-first f (suc i) n (plain (dynamic u p v) rest) h = absurd cc
behind-first f (suc i) n (holder (define m k) body rest) h = behind-first f i (suc n) rest h ∙ ap (λ k. reaches_by f k (items_of (drop i (list_of rest)))) (one-on n i)
behind-first f (suc i) n (holder (anonymous s k) body rest) h = behind-first f i (suc n) rest h ∙ ap (λ k. reaches_by f k (items_of (drop i (list_of rest)))) (one-on n i)

pub from-first : (f : ℕ → List (List ℕ) → Option (List (List ℕ))) (i : ℕ) (t : Items) → list_any is_dynamic (take i (list_of t)) ≡ false → reaches_by f 0 t ≡ reaches_by f i (items_of (drop i (list_of t)))
from-first f i t h = behind-first f i 0 t h ∙ ap (λ k. reaches_by f k (items_of (drop i (list_of t)))) (same i)
  where
    same : (i : ℕ) → 0 + i ≡ i
    same i = omega arith

-- an instance states nothing
instance-owns : (name : List ℕ) (o : Option Item) → IsInstance o → owned_by name o ≡ None
instance-owns name None h = absurd h
instance-owns name (Some (Instance s u)) h = refl
instance-owns name (Some (Define m c)) h = absurd h
instance-owns name (Some (Own p v)) h = absurd h
instance-owns name (Some (Default p v)) h = absurd h
instance-owns name (Some (Dynamic t p v)) h = absurd h

instance-there : (o : Option Item) → IsInstance o → dynamic_there o ≡ false
instance-there None h = absurd h
instance-there (Some (Instance s u)) h = refl
instance-there (Some (Define m c)) h = absurd h
instance-there (Some (Own p v)) h = absurd h
instance-there (Some (Default p v)) h = absurd h
instance-there (Some (Dynamic t p v)) h = absurd h

or-nothing : (o : Option Value) → option_or o None ≡ o
or-nothing None = refl
or-nothing (Some v) = refl

first-same : (i : ℕ) (xs : List Item) (o : Option ℕ) → list_any is_dynamic (take (suc i) xs) ≡ list_any is_dynamic (take i xs) → IsFirstWithin o i xs → IsFirstWithin o (suc i) xs
first-same i xs None e h = e ∙ h
first-same i xs (Some n) e h = (h.0, e ∙ h.1)

pub behind-instance : (n : ℕ) (items : List Assigned) (first : Option ℕ) (body : Items) → IsInstance (slice_get (list_of body) n) → AreStatedBefore n items first body → AreStatedBefore (n + 1) items first body
behind-instance n items first body is h = subst (λ k. AreStatedBefore k items first body) (sym (add-one n)) (record {
  own = λ p. h.own p ∙ sym (own-suc (row p).name n body ∙ ap (option_or (own_before (row p).name n body)) (instance-owns (row p).name (slice_get (list_of body) n) is) ∙ or-nothing (own_before (row p).name n body));
  dynamic = first-same n (list_of body) first (dynamic-next n (list_of body) (slice_get (list_of body) n) refl ∙ ap (λ b. list_any is_dynamic (take n (list_of body)) || b) (instance-there (slice_get (list_of body) n) is) ∙ or-none (list_any is_dynamic (take n (list_of body)))) h.dynamic;
})

pub behind-item : (i : ℕ) (body : Items) (x : Item) (old new : List Assigned) (first : Option ℕ) → Some x ≡ slice_get (list_of body) i → ((p : Property) → assigned_to p new ≡ option_or (assigned_to p old) (owned_by (row p).name (Some x)))
    → AreStatedBefore i old first body → AreStatedBefore (i + 1) new (first_met first i (is_dynamic x)) body
behind-item i body x old new first there added h = subst (λ k. AreStatedBefore k new (first_met first i (is_dynamic x)) body) (sym (add-one i)) (record {
  own = λ p. added p ∙ (λ j. option_or (h.own p j) (owned_by (row p).name (there j))) ∙ sym (own-suc (row p).name i body);
  dynamic = first-next i (list_of body) x first there h.dynamic;
})

pub stated-same : (n m : ℕ) (xs ys : List Assigned) (o p : Option ℕ) (body : Items) → n ≡ m → xs ≡ ys → o ≡ p → AreStatedBefore m ys p body → AreStatedBefore n xs o body
stated-same n m xs ys o p body e f g h =
    subst (λ k. AreStatedBefore k xs o body) (sym e) (subst (λ (zs : List Assigned). AreStatedBefore m zs o body) (sym f) (subst (λ q. AreStatedBefore m ys q body) (sym g) h))

pub stated-none : (body : Items) (items : List Assigned) → items ≡ [] → AreStatedBefore 0 items None body
stated-none body items e = record { own = λ p. ap (assigned_to p) e; dynamic = refl }

pub stated-all : (n : ℕ) (items : List Assigned) (first : Option ℕ) (body : Items) → n ≡ length (list_of body) → AreStatedBefore n items first body → AreOwn items body × IsFirstDynamic first body
stated-all n items first body e h =
    let past : length (list_of body) ≤ n = omega (arith, e) in
    ((λ p. h.own p ∙ own-all (row p).name n body past), first-of-all n (list_of body) first (take_all n (list_of body) past) h.dynamic)

-- the instances of a body
pub of-instances-at : (xs : List Item) (ps : List Part) (k : ℕ) (p : Part) → k < length ps → p ≡ get_or ps k p → AreOfInstances xs ps → IsInstance (slice_get xs (number_of p.at))
of-instances-at xs [] k p h e are = absurd (omega arith)
of-instances-at xs (q ∷ ps) zero p h e are = subst (λ (r : Part). IsInstance (slice_get xs (number_of r.at))) (sym e) are.0
of-instances-at xs (q ∷ ps) (suc k) p h e are = of-instances-at xs ps k p (omega (arith, h)) e are.1

of-instances-more : (xs : List Item) (ps : List Part) (p : Part) → AreOfInstances xs ps → IsInstance (slice_get xs (number_of p.at)) → AreOfInstances xs (ps ++ p ∷ [])
of-instances-more xs [] p are is = (is, tt)
of-instances-more xs (q ∷ ps) p are is = (are.0, of-instances-more xs ps p are.1 is)

pub instances-next : (xs : List Item) (b : List ℕ) (i : ℕ) (x : Item) → i < length xs → x ≡ get_or xs i x → (done after : List Part) (r : Option Found) → after ≡ done ++ in_list (placed (b ++ i ∷ []) r)
    → IfSome r (λ f. IsInstance (Some x)) → AreOfInstances xs done → AreOfInstances xs after
instances-next xs b i x h e done after None is found are = subst (AreOfInstances xs) (sym (is ∙ append_nil done)) are
instances-next xs b i x h e done after (Some f) is found are =
    let there : slice_get xs (number_of (b ++ i ∷ [])) ≡ Some x = ap (slice_get xs) (number-place b i) ∙ slice_get-get_or xs i x h ∙ ap Some (sym e) in
    subst (AreOfInstances xs) (sym is)
    (of-instances-more xs done (record { at = b ++ i ∷ []; shell = f.shell.now; component = f.component }) are (subst IsInstance (sym there) found))

pub instance-found : (r : Option Found) (s : Shell) (u : Of) → IfSome r (λ f. IsInstance (Some (Instance s u)))
instance-found None s u = tt
instance-found (Some f) s u = tt
