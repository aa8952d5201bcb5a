-- The values that a component states, kept in the order in which they are found, over those that its kind has built in.
use Rattle.std.proofs.Common.{◌≡◌, ℕ, ◌+◌, ◌-◌, ◌<◌, ◌≤◌, length, get_or, arith, List, [], ◌∷◌, ◌++◌, true, false, Bool, Some, None, Option, refl, ap, ◌∙◌, sym, option_map}
use Rattle.std.specs.Prelude.{bytes_eq, is_some, find, if◌then◌else◌}
use Rattle.std.specs.List.{filter_map}
use Rattle.std.specs.Option.{option_or}
use Rattle.std.proofs.lemmas.Slice.Eq.{bytes_eq-Decides}
use Rattle.rdl_tree.specs.Items.{no_items}
use Rattle.rdl_tree.specs.Properties.{row, on, property_of, properties}
use Rattle.rdl_tree.specs.declared.shell.Kind.{Kind}
use Rattle.rdl_tree.specs.declared.shell.Kind.TheVariants.{Addrmap, Regfile, Reg, Field}
use Rattle.rdl_tree.specs.declared.property.Property.{Property}
use Rattle.rdl_tree.specs.declared.property.Property.TheVariants.{Regwidth, Accesswidth}
use Rattle.rdl_tree.specs.declared.value.Value.{Value}
use Rattle.rdl_scope.specs.Value.{shown}
use Rattle.rdl_scope.specs.Closed.{Head, stated, head_value, lookup}
use Rattle.rdl_elab.specs.declared.row.PropertyValue.{PropertyValue}
use Rattle.rdl_elab.specs.declared.walk.defaults.Default.{Default}
use Rattle.rdl_elab.specs.Shown.{valued, bare, shown_value, shown_values, built_in_values}
use Rattle.rdl_elab.specs.Reaches.{value_under}
use Rattle.rdl_elab.specs.StatedValues.{shown_on, if_named, stated_for, under_either, over}
use Rattle.rdl_elab.proofs.Names.{named-back, names-apart, all-named}
use Rattle.rdl_elab.proofs.RowsAlong.{under-among}
use Rattle.rdl_elab.proofs.DefaultStacks.{nearest, nearest-next}

or-none : (o : Option Value) → option_or o None ≡ o
or-none None = refl
or-none (Some v) = refl

pub or-assoc : (a b c : Option Value) → option_or (option_or a b) c ≡ option_or a (option_or b c)
or-assoc None b c = refl
or-assoc (Some x) b c = refl

if-same : {X : Type 0} (b : Bool) (x : X) → (if b then x else x) ≡ x
if-same true x = refl
if-same false x = refl

pub if-none : (b : Bool) → (let none : Option Value = None in if b then none else none) ≡ None
if-none b = if-same b None

-- one list behind another
pub under-append : (p : Property) (xs ys : List PropertyValue) → value_under p (xs ++ ys) ≡ option_or (value_under p xs) (value_under p ys)
under-append p [] ys = refl
under-append p (x ∷ xs) ys =
    elim (bytes_eq (row x.property).name (row p).name) as (λ b. (if b then Some x.value else value_under p (xs ++ ys)) ≡ option_or (if b then Some x.value else value_under p xs) (value_under p ys)) [
      | true ↦ refl
      | false ↦ under-append p xs ys
    ]

-- what changes nothing
keeps : (b : Bool) (old new : Option Value) → (b ≡ true → option_or old new ≡ old) → old ≡ option_or old (if b then new else None)
keeps true old new h = sym (h refl)
keeps false old new h = sym (or-none old)

pub not-on : (k : Kind) (q p : Property) (v : Value) (xs : List PropertyValue) → on q k ≡ false → value_under p xs ≡ option_or (value_under p xs) (if_named (row q).name (shown_on k q (Some v)) p)
not-on k q p v xs off =
    keeps (bytes_eq (row q).name (row p).name) (value_under p xs) (shown_on k q (Some v))
    (λ e. ap (λ b. option_or (value_under p xs) (if b then Some (shown (row q).form v) else None)) off ∙ or-none (value_under p xs))

first-stays : (old new : Option Value) → is_some old ≡ true → option_or old new ≡ old
first-stays None new e = absurd cc
first-stays (Some v) new e = refl

pub there-before : (q p : Property) (new : Option Value) (xs : List PropertyValue) → is_some (value_under q xs) ≡ true → value_under p xs ≡ option_or (value_under p xs) (if_named (row q).name new p)
there-before q p new xs there =
    keeps (bytes_eq (row q).name (row p).name) (value_under p xs) new
    (λ e. first-stays (value_under p xs) new (ap (λ r. is_some (value_under r xs)) (sym (names-apart q p e)) ∙ there))

pub one-added : (k : Kind) (q p : Property) (v : Value) (xs : List PropertyValue) → on q k ≡ true → value_under p (xs ++ valued q (shown (row q).form v) ∷ []) ≡ option_or (value_under p xs) (if_named (row q).name (shown_on k q (Some v)) p)
one-added k q p v xs is_on =
    under-append p xs (valued q (shown (row q).form v) ∷ [])
    ∙ ap (λ b. option_or (value_under p xs) (if bytes_eq (row q).name (row p).name then (if b then Some (shown (row q).form v) else None) else None)) (sym is_on)

-- an assignment under a name is one to the property of the name
find-passes : {X : Type 0} (t : X → Bool) (xs : List X) (x : X) → find t xs ≡ Some x → t x ≡ true
find-passes t [] x e = absurd cc
find-passes t (y ∷ ys) x e =
    elim (t y) as (λ b. t y ≡ b → (if b then Some y else find t ys) ≡ Some x → t x ≡ true) [
      | true ↦ λ is f. let same : y ≡ x = cc in ap t (sym same) ∙ is
      | false ↦ λ is f. find-passes t ys x f
    ] refl e

pub name-of : (name : List ℕ) (q : Property) → property_of name ≡ Some q → name ≡ (row q).name
unfolding property_of
name-of name q e = (bytes_eq-Decides name (row q).name).0 (find-passes (λ p. bytes_eq name (row p).name) properties q e)

pub same-named : (k : Kind) (q p : Property) (v : Value) (b : Bool) → (b ≡ true → q ≡ p) → (if b then shown_on k q (Some v) else None) ≡ shown_on k p (if b then Some v else None)
same-named k q p v true h = ap (λ r. shown_on k r (Some v)) (h refl)
same-named k q p v false h = sym (if-none (on p k))

pub of-property : (k : Kind) (name : List ℕ) (q p : Property) (v : Value) → property_of name ≡ Some q → if_named (row q).name (shown_on k q (Some v)) p ≡ shown_on k p (if_named name (Some v) p)
of-property k name q p v e =
    same-named k q p v (bytes_eq (row q).name (row p).name) (names-apart q p)
    ∙ ap (λ n. shown_on k p (if_named n (Some v) p)) (sym (name-of name q e))

pub not-its-name : (name : List ℕ) (p : Property) (b : Bool) → bytes_eq name (row p).name ≡ b → property_of name ≡ None → b ≡ false
not-its-name name p true is none =
    let found : property_of name ≡ Some p = ap property_of ((bytes_eq-Decides name (row p).name).0 is) ∙ named-back p in
    absurd cc
not-its-name name p false is none = refl

pub of-none : (k : Kind) (name : List ℕ) (p : Property) (v : Value) (old : Option Value) → property_of name ≡ None → old ≡ option_or old (shown_on k p (if_named name (Some v) p))
of-none k name p v old none =
    sym (or-none old)
    ∙ ap (option_or old) (sym (if-none (on p k)))
    ∙ ap (λ b. option_or old (shown_on k p (if b then Some v else None))) (sym (not-its-name name p (bytes_eq name (row p).name) refl none))

-- of the first of two the first

or-on : (b : Bool) (f : Value → Value) (x y : Option Value) → option_or (if b then option_map f x else None) (if b then option_map f y else None) ≡ (if b then option_map f (option_or x y) else None)
or-on true f None y = refl
or-on true f (Some v) y = refl
or-on false f x y = refl

pub shown-or : (k : Kind) (p : Property) (x y : Option Value) → option_or (shown_on k p x) (shown_on k p y) ≡ shown_on k p (option_or x y)
shown-or k p x y = or-on (on p k) (shown (row p).form) x y

-- the first that has a name, in one list behind another
pub lookup-append : {X : Type 0} (name : List ℕ) (xs ys : List (List ℕ × X)) → lookup name (xs ++ ys) ≡ option_or (lookup name xs) (lookup name ys)
lookup-append name [] ys = refl
lookup-append name (x ∷ xs) ys =
    elim (bytes_eq x.0 name) as (λ b. (if b then Some x.1 else lookup name (xs ++ ys)) ≡ option_or (if b then Some x.1 else lookup name xs) (lookup name ys)) [
      | true ↦ refl
      | false ↦ lookup-append name xs ys
    ]

-- a stated regwidth is the accesswidth, and is shown as it is
shown-twice : (k : Kind) (v : Option Value) → shown_on k Accesswidth (shown_on k Regwidth v) ≡ shown_on k Accesswidth v
shown-twice Addrmap v = refl
shown-twice Regfile v = refl
shown-twice Reg None = refl
shown-twice Reg (Some v) = refl
shown-twice Field v = refl

pub with-accesswidth : (h : Head) (k : Kind) (xs : List PropertyValue) → ((p : Property) → value_under p xs ≡ shown_on k p (stated h (row p).name)) → (p : Property)
    → option_or (value_under p xs) (if_named (row Accesswidth).name (shown_on k Accesswidth (value_under Regwidth xs)) p) ≡ shown_on k p (stated_for h p)
with-accesswidth h k xs all Accesswidth =
    (λ i. option_or (all Accesswidth i) (shown_on k Accesswidth (all Regwidth i)))
    ∙ ap (option_or (shown_on k Accesswidth (stated h (row Accesswidth).name))) (shown-twice k (stated h (row Regwidth).name))
    ∙ shown-or k Accesswidth (stated h (row Accesswidth).name) (stated h (row Regwidth).name)
with-accesswidth h k xs all p = or-none (value_under p xs) ∙ all p

-- what is stated, over what is built in
value-in-two : (h : Head) (k : Kind) (p : Property) → head_value h p ≡ option_or (stated_for h p) (head_value (bare k no_items []) p)
value-in-two h k Accesswidth = sym (or-assoc (stated h (row Accesswidth).name) (stated h (row Regwidth).name) (row Regwidth).built_in)
value-in-two h k p = refl

under-built-in : (k : Kind) (p : Property) → value_under p (built_in_values k) ≡ shown_value (bare k no_items []) p
under-built-in k p = under-among (shown_value (bare k no_items [])) p properties ∙ ap (λ b. if b then shown_value (bare k no_items []) p else None) (all-named p)

pub over-built-in : (h : Head) (xs : List PropertyValue) → ((p : Property) → value_under p xs ≡ shown_on h.kind p (stated_for h p)) → over (Some xs) (built_in_values h.kind) ≡ shown_values h
over-built-in h xs all =
    let one : (p : Property) → under_either xs (built_in_values h.kind) p ≡ shown_value h p =
    λ p. (λ i. option_or (all p i) (under-built-in h.kind p i))
    ∙ shown-or h.kind p (stated_for h p) (head_value (bare h.kind no_items []) p)
    ∙ ap (shown_on h.kind p) (sym (value-in-two h h.kind p)) in
    let each : (ps : List Property) → filter_map (λ p. option_map (valued p) (under_either xs (built_in_values h.kind) p)) ps ≡ filter_map (λ p. option_map (valued p) (shown_value h p)) ps =
    λ ps i. filter_map (λ p. option_map (valued p) (one p i)) ps in
    each properties

pub over-by-none : (k : Kind) → over (Some []) (built_in_values k) ≡ built_in_values k
over-by-none k =
    let each : (ps : List Property) → filter_map (λ p. option_map (valued p) (value_under p (built_in_values k))) ps ≡ filter_map (λ p. option_map (valued p) (shown_value (bare k no_items []) p)) ps =
    λ ps i. filter_map (λ p. option_map (valued p) (under-built-in k p i)) ps in
    each properties

-- the value of a property among both
pub under-over : (p : Property) (xs ys : List PropertyValue) → value_under p (over (Some xs) ys) ≡ under_either xs ys p
under-over p xs ys = under-among (under_either xs ys) p properties ∙ ap (λ b. if b then under_either xs ys p else None) (all-named p)

-- a component's values, from the two lists that it keeps
pub of-parts : {R : Type 0} (items : R → List PropertyValue) (own : List PropertyValue) (o : Option R) (r : R) (xs ys built_ins : List PropertyValue) → over (option_map items o) built_ins ≡ own → o ≡ Some r → xs ≡ items r → ys ≡ built_ins
    → (p : Property) → value_under p own ≡ under_either xs ys p
of-parts items own o r xs ys built_ins view is first second p =
    ap (value_under p) (sym view)
    ∙ ap (λ s. value_under p (over (option_map items s) built_ins)) is
    ∙ under-over p (items r) built_ins
    ∙ (λ i. under_either (sym first i) (sym second i) p)

-- nothing more is stated
pub adds-none : (old o : Option Value) → o ≡ None → old ≡ option_or old o
adds-none old o e = sym (or-none old) ∙ ap (option_or old) (sym e)

-- one default more, where those behind it are in
pub one-nearer : (k : Kind) (p : Property) (left : ℕ) (xs : List Default) (x : Default) (first before after : Option Value) → 0 < left → left ≤ length xs → x ≡ get_or xs (left - 1) x
    → before ≡ option_or first (shown_on k p (lookup (row p).name (nearest left xs))) → after ≡ option_or before (shown_on k p (if_named x.name (Some x.value.now) p))
    → after ≡ option_or first (shown_on k p (lookup (row p).name (nearest (left - 1) xs)))
one-nearer k p left xs x first before after some within is e f =
    let name = (row p).name in
    let i = left - 1 in
    let back : i + 1 ≡ left = omega arith in
    let inside : i < length xs = omega arith in
    let behind = lookup name (nearest left xs) in
    let this = if_named x.name (Some x.value.now) p in
    let item : Default → List (List ℕ × Value) = λ (d : Default). (d.name, d.value.now) ∷ [] in
    let all : lookup name (nearest i xs) ≡ option_or behind this =
    ap (lookup name) (nearest-next i xs x inside)
    ∙ (λ j. lookup name (nearest (back j) xs ++ item (sym is j)))
    ∙ lookup-append name (nearest left xs) (item x) in
    f
    ∙ (λ j. option_or (e j) (shown_on k p this))
    ∙ or-assoc first (shown_on k p behind) (shown_on k p this)
    ∙ ap (option_or first) (shown-or k p behind this)
    ∙ ap (λ o. option_or first (shown_on k p o)) (sym all)
