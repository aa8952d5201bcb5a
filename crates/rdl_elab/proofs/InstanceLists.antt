-- The values of an instance, put in over those of its component.
use Rattle.std.proofs.Common.{◌≡◌, ℕ, ◌+◌, ◌<◌, length, take, get_or, List, [], ◌∷◌, ◌++◌, Bool, true, false, Some, None, Option, refl, ap, ◌∙◌, sym, add-one, option_map}
use Rattle.std.specs.Prelude.{bytes_eq, ◌&&◌, if◌then◌else◌}
use Rattle.std.specs.List.{filter_map}
use Rattle.std.specs.Option.{option_or}
use Rattle.std.proofs.Math.Seq.{take-suc}
use Rattle.rdl_tree.specs.Properties.{row, on, properties}
use Rattle.rdl_tree.specs.declared.shell.Kind.{Kind}
use Rattle.rdl_tree.specs.declared.property.Property.{Property}
use Rattle.rdl_tree.specs.declared.property.Property.TheVariants.{Reset}
use Rattle.rdl_tree.specs.declared.value.Value.{Value}
use Rattle.rdl_tree.specs.declared.value.Value.TheVariants.{Number}
use Rattle.rdl_scope.specs.Value.{shown}
use Rattle.rdl_elab.specs.declared.row.PropertyValue.{PropertyValue}
use Rattle.rdl_elab.specs.InstanceValues.{instance_value, instance_values}
use Rattle.rdl_elab.specs.Reaches.{Reach, has_ended, reached, reset_value, value_under, value_along, values_along}
use Rattle.rdl_elab.specs.Shown.{valued}
use Rattle.rdl_elab.specs.StatedValues.{shown_on, if_named}
use Rattle.rdl_elab.proofs.StatedLists.{or-assoc, shown-or, if-none}
use Rattle.rdl_elab.proofs.Names.{all-named}
use Rattle.rdl_elab.proofs.RowsAlong.{under-among}

pub under-instance : (k : Kind) (values own : List PropertyValue) (p : Property) → value_under p (instance_values k values own) ≡ instance_value k values own p
under-instance k values own p = under-among (instance_value k values own) p properties ∙ ap (λ b. if b then instance_value k values own p else None) (all-named p)

-- what is not a property of the kind isn't shown of it
if-twice : (b : Bool) (x own : Option Value) → (if b then option_or (if b then x else None) own else None) ≡ (if b then option_or x own else None)
if-twice true x own = refl
if-twice false x own = refl

-- the values of a row are those that reach its instance and its reset, over those of the component
pub along-instance : (k : Kind) (reset : Option ℕ) (rs : List Reach) (own values : List PropertyValue) → ((p : Property) → value_under p values ≡ shown_on k p (option_or (reached (row p).name rs) (reset_value p reset)))
    → instance_values k values own ≡ values_along k reset rs own
along-instance k reset rs own values all =
    let one : (p : Property) → instance_value k values own p ≡ value_along k reset rs own p =
    λ p. ap (λ v. if on p k then option_or v (value_under p own) else None) (all p)
    ∙ if-twice (on p k) (option_map (shown (row p).form) (option_or (reached (row p).name rs) (reset_value p reset))) (value_under p own) in
    let each : (ps : List Property) → filter_map (λ p. option_map (valued p) (instance_value k values own p)) ps ≡ filter_map (λ p. option_map (valued p) (value_along k reset rs own p)) ps =
    λ ps i. filter_map (λ p. option_map (valued p) (one p i)) ps in
    each properties

-- one assignment more
pub reached-append : (name : List ℕ) (xs ys : List Reach) → reached name (xs ++ ys) ≡ option_or (reached name xs) (reached name ys)
reached-append name [] ys = refl
reached-append name (x ∷ xs) ys =
    elim (has_ended x.path && bytes_eq x.property name) as (λ b. (if b then Some x.value else reached name (xs ++ ys)) ≡ option_or (if b then Some x.value else reached name xs) (reached name ys)) [
      | true ↦ refl
      | false ↦ reached-append name xs ys
    ]

pub one-reached : (k : Kind) (p : Property) (i : ℕ) (xs : List Reach) (x : Reach) (first before after : Option Value) → i < length xs → x ≡ get_or xs i x
    → before ≡ option_or first (shown_on k p (reached (row p).name (take i xs))) → after ≡ option_or before (shown_on k p (reached (row p).name (x ∷ [])))
    → after ≡ option_or first (shown_on k p (reached (row p).name (take (i + 1) xs)))
one-reached k p i xs x first before after l is e f =
    let name = (row p).name in
    let behind = reached name (take i xs) in
    let this = reached name (x ∷ []) in
    let all : reached name (take (i + 1) xs) ≡ option_or behind this =
    ap (λ n. reached name (take n xs)) (add-one i)
    ∙ ap (reached name) (take-suc xs i x l)
    ∙ reached-append name (take i xs) (get_or xs i x ∷ [])
    ∙ ap (λ (r : Reach). option_or behind (reached name (r ∷ []))) (sym is) in
    f
    ∙ ap (λ o. option_or o (shown_on k p this)) e
    ∙ or-assoc first (shown_on k p behind) (shown_on k p this)
    ∙ ap (option_or first) (shown-or k p behind this)
    ∙ ap (λ o. option_or first (shown_on k p o)) (sym all)

pub passing-assigns : (k : Kind) (p : Property) (r : Reach) → has_ended r.path ≡ false → shown_on k p (reached (row p).name (r ∷ [])) ≡ None
passing-assigns k p r more = ap (λ b. shown_on k p (if b && bytes_eq r.property (row p).name then Some r.value else None)) more ∙ if-none (on p k)

-- the reset stands behind what is assigned
with-reset : (k : Kind) (p : Property) (n : ℕ) → if_named (row Reset).name (shown_on k Reset (Some (Number n))) p ≡ shown_on k p (reset_value p (Some n))
with-reset k Reset n = refl
with-reset k p n = sym (if-none (on p k))

pub behind-reached : (k : Kind) (p : Property) (n : ℕ) (rs : List Reach) (first before : Option Value) → before ≡ option_or first (shown_on k p (reached (row p).name rs))
    → option_or before (if_named (row Reset).name (shown_on k Reset (Some (Number n))) p) ≡ option_or first (shown_on k p (option_or (reached (row p).name rs) (reset_value p (Some n))))
behind-reached k p n rs first before e =
    let assigned = reached (row p).name rs in
    ap (λ o. option_or o (if_named (row Reset).name (shown_on k Reset (Some (Number n))) p)) e
    ∙ or-assoc first (shown_on k p assigned) (if_named (row Reset).name (shown_on k Reset (Some (Number n))) p)
    ∙ ap (λ o. option_or first (option_or (shown_on k p assigned) o)) (with-reset k p n)
    ∙ ap (option_or first) (shown-or k p assigned (reset_value p (Some n)))
