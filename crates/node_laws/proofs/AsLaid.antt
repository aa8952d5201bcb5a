-- The layouts that code makes of values and instances are those of the component.
use Rattle.std.proofs.Common.{◌≡◌, ℕ, ◌-◌, ◌^◌, List, [], ◌∷◌, map, Option, ◌⊎◌, inl, inr, refl, sym, ap, ◌∙◌}
use Rattle.std.specs.Prelude.{Bool, true, false, ◌&&◌, ◌==◌, min, is_some, Result, Ok, Err, IfOk}
use Rattle.std.specs.List.{list_all}
use Rattle.std.proofs.lemmas.Map.Views.{exact_unsigned_eq}
use Rattle.rdl_tree.specs.Shell.{bare_shell}
use Rattle.rdl_tree.specs.declared.shell.Kind.{Kind}
use Rattle.rdl_tree.specs.declared.shell.Kind.TheVariants.{Addrmap, Regfile, Reg, Field}
use Rattle.rdl_tree.specs.declared.shell.Shell.{Shell}
use Rattle.rdl_scope.specs.ItemFaults.{product}
use Rattle.rdl_elab.specs.declared.layout.LayoutValues.{LayoutValues}
use Rattle.rdl_nodes.specs.Part.{Part, member_of}
use Rattle.rdl_elab.specs.declared.layout.FieldBits.{FieldBits}
use Rattle.rdl_elab.specs.declared.layout.Layout as component
use Rattle.rdl_elab.specs.declared.layout.Member as elab
use Rattle.rdl_elab.specs.declared.layout.Mode.{Mode}
use Rattle.rdl_elab.specs.declared.layout.Mode.TheVariants.{Compact, Regalign, Fullalign}
use Rattle.rdl_elab.specs.declared.layout.Span.{Span}
use Rattle.rdl_elab.specs.BarePlaces.{IsBareItem}
use Rattle.rdl_elab.specs.Bits.{bits_from}
use Rattle.rdl_elab.specs.Capped.{capped, capped_span, capped_layout, IsAlignment}
use Rattle.rdl_elab.specs.EachMember.{first_of}
use Rattle.rdl_elab.specs.Layouts.{layout_values, power_in, container, laid_out}
use Rattle.rdl_elab.specs.Size.{bytes_of}
use Rattle.rdl_elab.proofs.Powers.{power_in-power}
use Rattle.rdl_seen.specs.declared.seen.ByMode.{ByMode}
use Rattle.rdl_seen.specs.declared.values.Values.{Values}
use Rattle.rdl_seen.specs.Layouts.{Member}
use Rattle.node_laws.specs.Laid.{value_in, seen_layout, laying}
use Rattle.node_laws.specs.Laying.{is_one_number, is_of_one_size, is_small, members_under, placement_under, bits_under, as_large, layout_by, one_by, each_by}

pub power_alignment : (o : Option ℕ) → IsAlignment (power_in o)
power_alignment o = power_in-power o

-- ---- Instances whose components have one size, whatever the mode.

both_true : (p q : Bool) → (p && q) ≡ true → (p ≡ true) × (q ≡ true)
both_true true true e = (refl, refl)
both_true true false e = (refl, e)
both_true false q e = absurd cc

abbrev IsOne : ByMode → Type 0
IsOne n = (n.compact ≡ n.regalign) × (n.compact ≡ n.fullalign)

one_number : (n : ByMode) → is_one_number n ≡ true → IsOne n
one_number n e =
    let two = both_true (n.compact == n.regalign) (n.compact == n.fullalign) e in
    (exact_unsigned_eq n.compact n.regalign two.0, exact_unsigned_eq n.compact n.fullalign two.1)

one_member : (mode : Mode) (m : Member) → is_of_one_size m ≡ true → members_under mode (m ∷ []) ≡ members_under Compact (m ∷ [])
one_member Compact m e = refl
one_member Regalign m e =
    let two = both_true (is_one_number m.size) (is_one_number m.access) e in
    let size = one_number m.size two.0 in
    let access = one_number m.access two.1 in
    ap (members_under Compact) (λ i. record m { size = record m.size { compact = sym size.0 i }; access = record m.access { compact = sym access.0 i } } ∷ [])
one_member Fullalign m e =
    let two = both_true (is_one_number m.size) (is_one_number m.access) e in
    let size = one_number m.size two.0 in
    let access = one_number m.access two.1 in
    ap (members_under Compact) (λ i. record m { size = record m.size { compact = sym size.1 i }; access = record m.access { compact = sym access.1 i } } ∷ [])

abbrev first : List elab.Member → List elab.Member → List elab.Member
first [] rest = rest
first (x ∷ xs) rest = x ∷ rest

pub one_size : (mode : Mode) (ms : List Member) → list_all is_of_one_size ms ≡ true → members_under mode ms ≡ members_under Compact ms
one_size mode [] e = refl
one_size mode (m ∷ ms) e =
    let two = both_true (is_of_one_size m) (list_all is_of_one_size ms) e in
    λ i. first (one_member mode m two.0 i) (one_size mode ms two.1 i)

-- what is taken of each instance, one after another
pub placements_are : (mode : Mode) (ps : List Part) → map (λ p. placement_under mode (member_of p)) ps ≡ map (λ (i : elab.Member). i.placement) (members_under mode (map member_of ps))
placements_are mode [] = refl
placements_are mode (p ∷ ps) = ap (λ xs. placement_under mode (member_of p) ∷ xs) (placements_are mode ps)

pub bits_are : (mode : Mode) (ps : List Part) → map (λ p. bits_under mode (member_of p)) ps ≡ map (λ (i : elab.Member). i.bits) (members_under mode (map member_of ps))
bits_are mode [] = refl
bits_are mode (p ∷ ps) = ap (λ xs. bits_under mode (member_of p) ∷ xs) (bits_are mode ps)

pub sizes_are : (ps : List Part) → list_all (λ p. is_of_one_size (member_of p)) ps ≡ list_all is_of_one_size (map member_of ps)
sizes_are [] = refl
sizes_are (p ∷ ps) = ap (λ b. is_of_one_size (member_of p) && b) (sizes_are ps)

pub if_ok : {X E : Type 0} {P Q : X → Type 0} (r : Result X E) → ((x : X) → P x → Q x) → IfOk r P → IfOk r Q
if_ok (Ok x) f p = f x p
if_ok (Err e) f p = tt

-- ---- A component under a mode.

pub container_laid : (k : Kind) (v : LayoutValues) (mode : Mode) (ps : List Part) → (k ≡ Addrmap) ⊎ (k ≡ Regfile)
    → capped_layout (container v.alignment mode (map (λ p. placement_under mode (member_of p)) ps)) ≡ capped_layout (laid_out k v mode (members_under mode (map member_of ps)))
container_laid k v mode ps is = ap (λ xs. capped_layout (container v.alignment mode xs)) (placements_are mode ps) ∙ by is
  where
    by : (k ≡ Addrmap) ⊎ (k ≡ Regfile) → capped_layout (laid_out Addrmap v mode (members_under mode (map member_of ps))) ≡ capped_layout (laid_out k v mode (members_under mode (map member_of ps)))
    by (inl e) = ap (λ kind. capped_layout (laid_out kind v mode (members_under mode (map member_of ps)))) (sym e)
    by (inr e) = ap (λ kind. capped_layout (laid_out kind v mode (members_under mode (map member_of ps)))) (sym e)

pub register_laid : (k : Kind) (v : LayoutValues) (mode : Mode) (ps : List Part) (fields : List FieldBits) (spans : List Span) → k ≡ Reg → fields ≡ map (λ p. bits_under mode (member_of p)) ps
    → spans ≡ map capped_span (bits_from 0 fields)
    → ◌≡◌ {A = component.Layout} (record { size = capped (bytes_of v.regwidth); access = bytes_of v.accesswidth; spans = spans }) (capped_layout (laid_out k v mode (members_under mode (map member_of ps))))
register_laid k v mode ps fields spans is made bits =
    let all = bits ∙ ap (λ fs. map capped_span (bits_from 0 fs)) (made ∙ bits_are mode ps) in
    (λ i. record { size = capped (bytes_of v.regwidth); access = bytes_of v.accesswidth; spans = all i }) ∙ ap (λ kind. capped_layout (laid_out kind v mode (members_under mode (map member_of ps)))) (sym is)

-- ---- An instance that says nothing but its name.

pub bare_member : (mode : Mode) (m : Member) → m.shell ≡ bare_shell m.shell.name → IsBareItem (as_large mode m) (placement_under mode m)
bare_member mode m bare = record {
  size = refl;
  access = refl;
  elements = ap (λ (s : Shell). min (product s.dims) (2 ^ 128 - 1)) bare;
  single = ap (λ (s : Shell). is_some (first_of s.dims)) bare;
  address = ap (λ (s : Shell). s.address) bare;
  align = ap (λ (s : Shell). s.align) bare;
}

-- ---- The layouts of a kind.

-- of a register file, whose instances stand under its own mode, of a register and of a field
pub each_laid : (k : Kind) (v : Values) (ms : List Member) → k ≡ Regfile → each_by k (layout_values (value_in v)) ms ≡ laying k v ms
unfolding laying
each_laid k v ms is = ap (λ kind. each_by kind (layout_values (value_in v)) ms) is ∙ (refl ∙ ap (λ kind. laying kind v ms) (sym is))

pub small_laid : (k : Kind) (v : Values) (ms : List Member) → is_small k ≡ true → each_by k (layout_values (value_in v)) ms ≡ laying k v ms
unfolding laying
small_laid Addrmap v ms e = absurd cc
small_laid Regfile v ms e = absurd cc
small_laid Reg v ms e = refl
small_laid Field v ms e = refl

-- of an address map, which says the mode
pub map_laid : (k : Kind) (v : Values) (ms : List Member) → k ≡ Addrmap → one_by k (layout_values (value_in v)) (layout_values (value_in v)).addressing ms ≡ laying k v ms
unfolding laying
map_laid k v ms is =
    ap (λ kind. one_by kind (layout_values (value_in v)) (layout_values (value_in v)).addressing ms) is ∙ (refl ∙ ap (λ kind. laying kind v ms) (sym is))

-- of a register or a field whose instances have one size, the mode doesn't matter
same_layout : (k : Kind) (v : LayoutValues) (mode : Mode) (ms : List Member) → is_small k ≡ true → list_all is_of_one_size ms ≡ true → layout_by k v mode ms ≡ layout_by k v Compact ms
same_layout Addrmap v mode ms e one = absurd cc
same_layout Regfile v mode ms e one = absurd cc
same_layout Reg v mode ms e one = ap (λ xs. seen_layout (capped_layout (laid_out Reg v Compact xs))) (one_size mode ms one)
same_layout Field v mode ms e one = refl

pub one_laid : (k : Kind) (v : LayoutValues) (ms : List Member) → is_small k ≡ true → list_all is_of_one_size ms ≡ true → one_by k v Compact ms ≡ each_by k v ms
one_laid k v ms e one =
    λ i. record {
      compact = layout_by k v Compact ms;
      regalign = sym (same_layout k v Regalign ms e one) i;
      fullalign = sym (same_layout k v Fullalign ms e one) i;
    }
