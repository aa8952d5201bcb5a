-- What a definition that stayed in order under its name raises behind it.
use Rattle.std.proofs.Common.{◌≡◌, ℕ, ◌^◌, Bool, true, false, refl, ap}
use Rattle.std.specs.Prelude.{◌&&◌, ◌||◌}
use Rattle.rdl_seen.specs.declared.alert.Alert.{Alert}
use Rattle.rdl_seen.specs.Agree.{shown}
use Rattle.rdl_seen.specs.Alert.{is_told}
use Rattle.rdl_seen.specs.Names.{class_of, has_class}
use Rattle.rdl_seen.specs.Node.{Known, known}
use Rattle.rdl_seen.proofs.Around.{same_shown}
use Rattle.rdl_seen.proofs.Bits.{has_own, has_second}
use Rattle.rdl_renew.specs.Raised.{HasAll}
use Rattle.rdl_renew.specs.Stayed.{definition_raises, StayedDefinitionsRaise}

either_true : (t u : Bool) → t ≡ true → (t || u) ≡ false → ⊥
either_true true u e g = absurd cc
either_true false u e g = absurd cc

second_true : (t u : Bool) → u ≡ true → (t || true && u) ≡ false → ⊥
second_true true u e g = absurd cc
second_true false true e g = absurd cc
second_true false false e g = absurd cc

has_types : (x : Alert) (class : ℕ) (is_inside_same : Bool) → HasAll x (definition_raises class false is_inside_same) → has_class x.types class ≡ true
has_types x class is_inside_same has = has.types class (has_second 0 (2 ^ class) class (has_own class))

has_inside : (x : Alert) (class : ℕ) → HasAll x (definition_raises class true false) → has_class x.inside class ≡ true
has_inside x class has = has.inside class (has_second 0 (2 ^ class) class (has_own class))

not_deep : {A : Type 0} → false ≡ true → A
not_deep e = absurd cc

-- of what is known of a type before and now
same_but : (x : Alert) (class : ℕ) (k l : Known) (is_seen_same is_inside_same : Bool) → HasAll x (definition_raises class is_seen_same is_inside_same)
    → (is_seen_same ≡ true → k.seen ≡ l.seen) → (is_seen_same ≡ true → is_inside_same ≡ true → k ≡ l) → (deep : Bool) → is_told deep x class ≡ false → shown deep k ≡ shown deep l
same_but x class k l true true has same all deep told = ap (shown deep) (all refl refl)
same_but x class k l true false has same all true told = absurd (second_true (has_class x.types class) (has_class x.inside class) (has_inside x class has) told)
same_but x class k l true false has same all false told = same_shown false k l (same refl) not_deep
same_but x class k l false is_inside_same has same all deep told = absurd (either_true (has_class x.types class) (deep && has_class x.inside class) (has_types x class is_inside_same has) told)

pub stayed_definitions_raise : StayedDefinitionsRaise
stayed_definitions_raise lay x a b name c d is_seen_same is_inside_same has same all =
    same_but x (class_of name) (known lay a c.kind c.body) (known lay b d.kind d.body) is_seen_same is_inside_same has same all
