-- Two components of which the same is stated of the properties on which layouts depend have the same values.
use Rattle.std.proofs.Common.{◌≡◌, ℕ, true, false, List, Option, Some, None, refl, ap, ◌∙◌}
use Rattle.std.specs.Prelude.{option_and_then}
use Rattle.rdl_tree.specs.Properties.{row}
use Rattle.rdl_tree.specs.declared.property.Property.{Property}
use Rattle.rdl_tree.specs.declared.property.Property.TheVariants.{Addressing, Alignment, Regwidth, Accesswidth}
use Rattle.rdl_tree.specs.declared.shell.Kind.{Kind}
use Rattle.rdl_tree.specs.declared.shell.Kind.TheVariants.{Addrmap, Regfile, Reg, Field}
use Rattle.rdl_tree.specs.declared.value.Value.{Value}
use Rattle.rdl_scope.specs.Closed.{Head, stated}
use Rattle.rdl_seen.specs.Meaning.{kept_of, stated_of}
use Rattle.rdl_seen.specs.Values.{mode_of, number_of, width_of, no_values, of_kind}
use Rattle.rdl_seen.proofs.Puts.{named-back}
use Rattle.rdl_reach.specs.EditedBodies.{lays_out}
use Rattle.node_laws.specs.Kept.{is_field}

laid_out_by : (p : Property) → (row p).layout ≡ true → lays_out (row p).name ≡ true
laid_out_by p e = ap (λ (o : Option Property). elim o [ None ↦ false | Some q ↦ (row q).layout ]) (named-back p) ∙ e

-- the same is stated of two components for each property on which layouts depend
abbrev pub StateTheSame : Head → Head → Type 0
StateTheSame h k = (p : List ℕ) → lays_out p ≡ true → stated h p ≡ stated k p

pub states_same : (h k : Head) → StateTheSame h k → (p : Property) → (row p).layout ≡ true → stated h (row p).name ≡ stated k (row p).name
states_same h k same p e = same (row p).name (laid_out_by p e)

-- what a component that is no field has of its values depends on these properties alone
kept_by : (k : Kind) (f g : Property → Option Value) → is_field k ≡ false → ((p : Property) → (row p).layout ≡ true → f p ≡ g p) → of_kind k (kept_of f) ≡ of_kind k (kept_of g)
kept_by Addrmap f g e same =
    let addressing = same Addressing refl in
    let alignment = same Alignment refl in
    λ i. record no_values { addressing = option_and_then mode_of (addressing i); alignment = option_and_then number_of (alignment i) }
kept_by Regfile f g e same = let alignment = same Alignment refl in λ i. record no_values { alignment = option_and_then number_of (alignment i) }
kept_by Reg f g e same =
    let regwidth = same Regwidth refl in
    let accesswidth = same Accesswidth refl in
    λ i. record no_values { regwidth = option_and_then width_of (regwidth i); accesswidth = option_and_then width_of (accesswidth i) }
kept_by Field f g e same = absurd (let no : true ≡ false = e in cc)

pub stated_same : (h k : Head) → h.kind ≡ k.kind → is_field h.kind ≡ false → StateTheSame h k → stated_of h ≡ stated_of k
stated_same h k kind e same =
    kept_by h.kind (λ p. stated h (row p).name) (λ p. stated k (row p).name) e (states_same h k same) ∙ ap (λ q. of_kind q (kept_of (λ p. stated k (row p).name))) kind
