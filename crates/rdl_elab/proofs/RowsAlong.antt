-- The values of a row, from the assignments that come along its path and from the values of its component.
use Rattle.std.proofs.Common.{◌≡◌, ℕ, List, [], ◌∷◌, ◌++◌, true, false, Bool, Some, None, Option, refl, ap, ◌∙◌, sym}
use Rattle.std.specs.Prelude.{bytes_eq, ◌||◌, option_map, option_and_then, unwrap_or, if◌then◌else◌}
use Rattle.std.specs.List.{filter_map, cons_option}
use Rattle.std.specs.Option.{option_or}
use Rattle.rdl_tree.specs.ItemAt.{item_at}
use Rattle.rdl_tree.specs.Items.{Items}
use Rattle.rdl_tree.specs.Properties.{row, on, properties}
use Rattle.rdl_tree.specs.declared.shell.Shell.{Shell}
use Rattle.rdl_tree.specs.declared.value.Value.{Value}
use Rattle.rdl_tree.specs.declared.property.Property.{Property}
use Rattle.rdl_tree.specs.declared.property.Property.TheVariants.{Reset}
use Rattle.rdl_tree.specs.declared.description.Item.TheVariants.{Instance}
use Rattle.rdl_tree.specs.declared.description.Of.{Of}
use Rattle.rdl_scope.specs.Target.{body_of}
use Rattle.rdl_scope.specs.Value.{shown, instance_reset, item_reset, component_value}
use Rattle.rdl_scope.specs.Closed.{Head, Parts, Made, component, head_value}
use Rattle.rdl_scope.proofs.AsFound.{as_found, value-found}
use Rattle.rdl_elab.specs.declared.row.PropertyValue.{PropertyValue}
use Rattle.rdl_elab.specs.Rows.{row_value, row_values}
use Rattle.rdl_elab.specs.Shown.{valued}
use Rattle.rdl_elab.specs.Shown.{shown_value, shown_values}
use Rattle.rdl_elab.specs.Reaches.{Reach, reaches, reaches_at, behind, along, reached, reset_value, value_under, value_along, values_among, values_along}
use Rattle.rdl_elab.proofs.Along.{reached-assigned, along-further}
use Rattle.rdl_elab.proofs.Names.{names-apart, is_named, all-named}

-- the value of a property in a list of values
abbrev first_of : Bool → Option Value → Option Value → Option Value
first_of b None rest = rest
first_of b (Some v) rest = if b then Some v else rest

under-cons : (p q : Property) (o : Option Value) (rest : List PropertyValue) → value_under p (cons_option (option_map (valued q) o) rest) ≡ first_of (bytes_eq (row q).name (row p).name) o (value_under p rest)
under-cons p q None rest = refl
under-cons p q (Some v) rest = refl

first-named : (b more : Bool) (o wanted rest : Option Value) → (b ≡ true → o ≡ wanted) → rest ≡ (if more then wanted else None) → first_of b o rest ≡ (if b || more then wanted else None)
first-named true true None wanted rest h e = e
first-named true false None wanted rest h e = e ∙ h refl
first-named true more (Some v) wanted rest h e = h refl
first-named false more None wanted rest h e = e
first-named false more (Some v) wanted rest h e = e

pub under-among : (f : Property → Option Value) (p : Property) (xs : List Property) → value_under p (filter_map (λ q. option_map (valued q) (f q)) xs) ≡ (if is_named (row p).name xs then f p else None)
under-among f p [] = refl
under-among f p (q ∷ xs) =
    under-cons p q (f q) (filter_map (λ q. option_map (valued q) (f q)) xs)
    ∙ first-named (bytes_eq (row q).name (row p).name) (is_named (row p).name xs) (f q) (f p) (value_under p (filter_map (λ q. option_map (valued q) (f q)) xs)) (λ e. ap f (names-apart q p e)) (under-among f p xs)

under-shown : (h : Head) (p : Property) → value_under p (shown_values h) ≡ shown_value h p
under-shown h p = under-among (shown_value h) p properties ∙ ap (λ b. if b then shown_value h p else None) (all-named p)

or-map : (f : Value → Value) (a b : Option Value) → option_or (option_map f a) (option_map f b) ≡ option_map f (option_or a b)
or-map f None b = refl
or-map f (Some v) b = refl

or-assoc : (a b c : Option Value) → option_or (option_or a b) c ≡ option_or a (option_or b c)
or-assoc None b c = refl
or-assoc (Some x) b c = refl

value-on : (b : Bool) (f : Value → Value) (x y : Option Value) → (if b then option_or (option_map f x) (if b then option_map f y else None) else None) ≡ (if b then option_map f (option_or x y) else None)
value-on true f x y = or-map f x y
value-on false f x y = refl

value-shown : (h : Head) (reset : Option ℕ) (rs : List Reach) (p : Property)
    → value_along h.kind reset rs (shown_values h) p ≡ (if on p h.kind then option_map (shown (row p).form) (option_or (option_or (reached (row p).name rs) (reset_value p reset)) (head_value h p)) else None)
value-shown h reset rs p =
    let x = option_or (reached (row p).name rs) (reset_value p reset) in
    ap (λ o. if on p h.kind then option_or (option_map (shown (row p).form) x) o else None) (under-shown h p)
    ∙ value-on (on p h.kind) (shown (row p).form) x (head_value h p)

-- where there is no reset and no assignment, the values are those of the component
no-reset : (p : Property) → reset_value p None ≡ None
no-reset Reset = refl
no-reset p = refl

value-alone : (h : Head) (p : Property) → value_along h.kind None [] (shown_values h) p ≡ shown_value h p
value-alone h p = value-shown h None [] p ∙ ap (λ o. if on p h.kind then option_map (shown (row p).form) (option_or o (head_value h p)) else None) (no-reset p)

pub values-alone : (h : Head) → values_along h.kind None [] (shown_values h) ≡ shown_values h
values-alone h =
    let all : (xs : List Property) → values_among h.kind None [] (shown_values h) xs ≡ filter_map (λ p. option_map (valued p) (shown_value h p)) xs = λ xs i. filter_map (λ p. option_map (valued p) (value-alone h p i)) xs in
    all properties

-- the reset of the last instance
reset-last : (d : Items) (path : List (List ℕ)) (at : List ℕ) (s : Shell) (o : Of) (p : Property) → item_at at d ≡ Some (Instance s o) → instance_reset d p (path ++ at ∷ []) ≡ reset_value p s.reset
reset-last d [] at s o Reset h = ap (option_and_then item_reset) h
reset-last d (a ∷ []) at s o Reset h = ap (option_and_then item_reset) h
reset-last d (a ∷ b ∷ path) at s o Reset h = reset-last d (b ∷ path) at s o Reset h
reset-last d path at s o p h = refl

value-row : (d : Items) (path : List (List ℕ)) (at : List ℕ) (s : Shell) (o : Of) (h : Head) → item_at at d ≡ Some (Instance s o) → head_value h ≡ component_value d h.at
    → (p : Property) → value_along h.kind s.reset (along d [] (path ++ at ∷ [])) (shown_values h) p ≡ row_value d (path ++ at ∷ []) h p
value-row d path at s o h i same p =
    let whole = path ++ at ∷ [] in
    let f = λ (v : Option Value). if on p h.kind then option_map (shown (row p).form) v else None in
    value-shown h s.reset (along d [] whole) p
    ∙ ap f (or-assoc (reached (row p).name (along d [] whole)) (reset_value p s.reset) (head_value h p))
    ∙ (λ j. f (option_or (reached-assigned d (row p).name whole j) (option_or (sym (reset-last d path at s o p i) j) (same j p))))

pub values-row : (d : Items) (path : List (List ℕ)) (at : List ℕ) (s : Shell) (o : Of) (h : Head) (inside : Parts) → item_at at d ≡ Some (Instance s o) → component d h.at ≡ Some (record { head = h; parts = inside })
    → values_along h.kind s.reset (along d [] (path ++ at ∷ [])) (shown_values h) ≡ row_values d (path ++ at ∷ []) h
values-row d path at s o h inside i c =
    let one = value-row d path at s o h i (value-found d h.at (record { head = h; parts = inside }) c) in
    let all : (xs : List Property) → values_among h.kind s.reset (along d [] (path ++ at ∷ [])) (shown_values h) xs ≡ filter_map (λ p. option_map (valued p) (row_value d (path ++ at ∷ []) h p)) xs = λ xs j. filter_map (λ p. option_map (valued p) (one p j)) xs in
    all properties

-- the top, whose path is empty
no-instance : (d : Items) (p : Property) → instance_reset d p [] ≡ None
no-instance d Reset = refl
no-instance d p = refl

value-top : (d : Items) (h : Head) → head_value h ≡ component_value d h.at → (p : Property) → shown_value h p ≡ row_value d [] h p
value-top d h same p =
    let f = λ (v : Option Value). if on p h.kind then option_map (shown (row p).form) v else None in
    λ j. f (option_or (sym (no-instance d p) j) (same j p))

pub values-top : (d : Items) (a : List ℕ) (c : Made) → component d a ≡ Some c → shown_values c.head ≡ row_values d [] c.head
values-top d a c h =
    let place : a ≡ c.head.at = sym (as_found d a c h).place in
    let one = value-top d c.head (value-found d a c h ∙ ap (component_value d) place) in
    let all : (xs : List Property) → filter_map (λ p. option_map (valued p) (shown_value c.head p)) xs ≡ filter_map (λ p. option_map (valued p) (row_value d [] c.head p)) xs = λ xs j. filter_map (λ p. option_map (valued p) (one p j)) xs in
    all properties

-- the assignments in the body of a component
pub reaches-body : (d : Items) (a : List ℕ) (c : Made) → component d a ≡ Some c → reaches_at d a ≡ reaches d a 0 c.head.body
reaches-body d a c h = ap (λ o. unwrap_or (option_map (reaches d a 0) o) []) (as_found d a c h).body

-- one instance of a component further down
pub along-inside : (d : Items) (path : List (List ℕ)) (at a : List ℕ) (c : Made) → body_of at ≡ a → component d a ≡ Some c → along d [] (path ++ at ∷ []) ≡ behind at (along d [] path ++ reaches d a 0 c.head.body)
along-inside d path at a c e h =
    along-further d at path []
    ∙ ap (λ rs. behind at (along d [] path ++ rs)) (ap (reaches_at d) e ∙ reaches-body d a c h)
