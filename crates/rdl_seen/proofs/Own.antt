-- What a component states of its own leaves no default to it.
use Rattle.std.proofs.Common.{◌≡◌, ℕ, ◌^◌, Bool, true, false, Option, Some, None, refl}
use Rattle.std.specs.Option.{option_or, is_some}
use Rattle.std.proofs.lemmas.Bool.{false≢true}
use Rattle.rdl_tree.specs.declared.shell.Kind.{Kind}
use Rattle.rdl_tree.specs.declared.shell.Kind.TheVariants.{Addrmap, Regfile, Reg, Field}
use Rattle.rdl_tree.specs.declared.property.Property.{Property}
use Rattle.rdl_tree.specs.declared.property.Property.TheVariants.{Addressing, Alignment, Regwidth, Accesswidth, Fieldwidth, Sw, Reset}
use Rattle.rdl_seen.specs.declared.property_set.PropertySet.{PropertySet}
use Rattle.rdl_seen.specs.declared.values.Values.{Values}
use Rattle.rdl_seen.specs.Agree.{SameValues}
use Rattle.rdl_seen.specs.Names.{meet}
use Rattle.rdl_seen.specs.PropertySet.{bit_of, set_if, kind_set, with_properties, without_properties}
use Rattle.rdl_seen.specs.Values.{no_values, over, of_kind, stated}
use Rattle.rdl_seen.proofs.Bits.{has_less, lacks_none, lacks_both}

or_same : {X : Type 0} (o v w : Option X) → (o ≡ None → v ≡ w) → option_or o v ≡ option_or o w
or_same None v w same = same refl
or_same (Some x) v w same = refl

record Lacks (s : PropertySet) (k : ℕ) : Type 0 where
  bit : meet s.bits (2 ^ k) ≡ false

neither : {s t : PropertySet} {k : ℕ} → Lacks s k → Lacks t k → Lacks (with_properties s t) k
neither {s} {t} {k} x y = record { bit = lacks_both s.bits t.bits k x.bit y.bit }

-- what a set that is made by a test has no part in
unless : (test : Bool) (p : Property) (k : ℕ) → (test ≡ true → meet (bit_of p) (2 ^ k) ≡ false) → Lacks (set_if test p) k
unless true p k lacks = record { bit = lacks refl }
unless false p k lacks = record { bit = lacks_none k }

-- a bit that is none of those of the properties of which something is stated
record IsUnstated (v : Values) (k : ℕ) : Type 0 where
  addressing : is_some v.addressing ≡ true → meet (bit_of Addressing) (2 ^ k) ≡ false
  alignment : is_some v.alignment ≡ true → meet (bit_of Alignment) (2 ^ k) ≡ false
  regwidth : is_some v.regwidth ≡ true → meet (bit_of Regwidth) (2 ^ k) ≡ false
  accesswidth : is_some v.accesswidth ≡ true → meet (bit_of Accesswidth) (2 ^ k) ≡ false
  fieldwidth : is_some v.fieldwidth ≡ true → meet (bit_of Fieldwidth) (2 ^ k) ≡ false
  sw : is_some v.sw ≡ true → meet (bit_of Sw) (2 ^ k) ≡ false
  reset : is_some v.reset ≡ true → meet (bit_of Reset) (2 ^ k) ≡ false

stated_lacks : (v : Values) (k : ℕ) → IsUnstated v k → meet (stated v).bits (2 ^ k) ≡ false
stated_lacks v k u =
    let addressing : Lacks (set_if (is_some v.addressing) Addressing) k = unless (is_some v.addressing) Addressing k u.addressing in
    let alignment : Lacks (set_if (is_some v.alignment) Alignment) k = unless (is_some v.alignment) Alignment k u.alignment in
    let regwidth : Lacks (set_if (is_some v.regwidth) Regwidth) k = unless (is_some v.regwidth) Regwidth k u.regwidth in
    let accesswidth : Lacks (set_if (is_some v.accesswidth) Accesswidth) k = unless (is_some v.accesswidth) Accesswidth k u.accesswidth in
    let fieldwidth : Lacks (set_if (is_some v.fieldwidth) Fieldwidth) k = unless (is_some v.fieldwidth) Fieldwidth k u.fieldwidth in
    let sw : Lacks (set_if (is_some v.sw) Sw) k = unless (is_some v.sw) Sw k u.sw in
    let reset : Lacks (set_if (is_some v.reset) Reset) k = unless (is_some v.reset) Reset k u.reset in
    let all : Lacks (stated v) k = neither (neither (neither (neither (neither (neither addressing alignment) regwidth) accesswidth) fieldwidth) sw) reset in
    all.bit

not_some : {X : Type 0} (o : Option X) (P : Type 0) → o ≡ None → is_some o ≡ true → P
not_some None P none some = absurd (false≢true some)
not_some (Some x) P none some = cc

lacks_addressing : (v : Values) → v.addressing ≡ None → meet (stated v).bits (2 ^ 0) ≡ false
lacks_addressing v none = stated_lacks v 0 (record { addressing = not_some v.addressing (meet 1 (2 ^ 0) ≡ false) none; alignment = λ some. refl; regwidth = λ some. refl; accesswidth = λ some. refl; fieldwidth = λ some. refl; sw = λ some. refl; reset = λ some. refl })

lacks_alignment : (v : Values) → v.alignment ≡ None → meet (stated v).bits (2 ^ 1) ≡ false
lacks_alignment v none = stated_lacks v 1 (record { addressing = λ some. refl; alignment = not_some v.alignment (meet 2 (2 ^ 1) ≡ false) none; regwidth = λ some. refl; accesswidth = λ some. refl; fieldwidth = λ some. refl; sw = λ some. refl; reset = λ some. refl })

lacks_regwidth : (v : Values) → v.regwidth ≡ None → meet (stated v).bits (2 ^ 2) ≡ false
lacks_regwidth v none = stated_lacks v 2 (record { addressing = λ some. refl; alignment = λ some. refl; regwidth = not_some v.regwidth (meet 4 (2 ^ 2) ≡ false) none; accesswidth = λ some. refl; fieldwidth = λ some. refl; sw = λ some. refl; reset = λ some. refl })

lacks_accesswidth : (v : Values) → v.accesswidth ≡ None → meet (stated v).bits (2 ^ 3) ≡ false
lacks_accesswidth v none = stated_lacks v 3 (record { addressing = λ some. refl; alignment = λ some. refl; regwidth = λ some. refl; accesswidth = not_some v.accesswidth (meet 8 (2 ^ 3) ≡ false) none; fieldwidth = λ some. refl; sw = λ some. refl; reset = λ some. refl })

lacks_fieldwidth : (v : Values) → v.fieldwidth ≡ None → meet (stated v).bits (2 ^ 4) ≡ false
lacks_fieldwidth v none = stated_lacks v 4 (record { addressing = λ some. refl; alignment = λ some. refl; regwidth = λ some. refl; accesswidth = λ some. refl; fieldwidth = not_some v.fieldwidth (meet 16 (2 ^ 4) ≡ false) none; sw = λ some. refl; reset = λ some. refl })

lacks_sw : (v : Values) → v.sw ≡ None → meet (stated v).bits (2 ^ 5) ≡ false
lacks_sw v none = stated_lacks v 5 (record { addressing = λ some. refl; alignment = λ some. refl; regwidth = λ some. refl; accesswidth = λ some. refl; fieldwidth = λ some. refl; sw = not_some v.sw (meet 32 (2 ^ 5) ≡ false) none; reset = λ some. refl })

lacks_reset : (v : Values) → v.reset ≡ None → meet (stated v).bits (2 ^ 6) ≡ false
lacks_reset v none = stated_lacks v 6 (record { addressing = λ some. refl; alignment = λ some. refl; regwidth = λ some. refl; accesswidth = λ some. refl; fieldwidth = λ some. refl; sw = λ some. refl; reset = not_some v.reset (meet 64 (2 ^ 6) ≡ false) none })

-- what its own assignments state goes before the defaults
pub of_kind_same : (k : Kind) (o v w : Values) → SameValues (without_properties (kind_set k) (stated o)) v w → of_kind k (over o v) ≡ of_kind k (over o w)
of_kind_same Addrmap o v w r =
    let addressing : option_or o.addressing v.addressing ≡ option_or o.addressing w.addressing = or_same o.addressing v.addressing w.addressing (λ none. r.addressing (has_less 3 (stated o).bits 0 refl (lacks_addressing o none))) in
    let alignment : option_or o.alignment v.alignment ≡ option_or o.alignment w.alignment = or_same o.alignment v.alignment w.alignment (λ none. r.alignment (has_less 3 (stated o).bits 1 refl (lacks_alignment o none))) in
    λ i. record no_values { addressing = addressing i; alignment = alignment i }
of_kind_same Regfile o v w r =
    let alignment : option_or o.alignment v.alignment ≡ option_or o.alignment w.alignment = or_same o.alignment v.alignment w.alignment (λ none. r.alignment (has_less 2 (stated o).bits 1 refl (lacks_alignment o none))) in
    λ i. record no_values { alignment = alignment i }
of_kind_same Reg o v w r =
    let regwidth : option_or o.regwidth v.regwidth ≡ option_or o.regwidth w.regwidth = or_same o.regwidth v.regwidth w.regwidth (λ none. r.regwidth (has_less 12 (stated o).bits 2 refl (lacks_regwidth o none))) in
    let accesswidth : option_or o.accesswidth v.accesswidth ≡ option_or o.accesswidth w.accesswidth = or_same o.accesswidth v.accesswidth w.accesswidth (λ none. r.accesswidth (has_less 12 (stated o).bits 3 refl (lacks_accesswidth o none))) in
    λ i. record no_values { regwidth = regwidth i; accesswidth = accesswidth i }
of_kind_same Field o v w r =
    let fieldwidth : option_or o.fieldwidth v.fieldwidth ≡ option_or o.fieldwidth w.fieldwidth = or_same o.fieldwidth v.fieldwidth w.fieldwidth (λ none. r.fieldwidth (has_less 112 (stated o).bits 4 refl (lacks_fieldwidth o none))) in
    let sw : option_or o.sw v.sw ≡ option_or o.sw w.sw = or_same o.sw v.sw w.sw (λ none. r.sw (has_less 112 (stated o).bits 5 refl (lacks_sw o none))) in
    let reset : option_or o.reset v.reset ≡ option_or o.reset w.reset = or_same o.reset v.reset w.reset (λ none. r.reset (has_less 112 (stated o).bits 6 refl (lacks_reset o none))) in
    λ i. record no_values { fieldwidth = fieldwidth i; sw = sw i; reset = reset i }
