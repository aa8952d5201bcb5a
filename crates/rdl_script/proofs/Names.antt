-- Identifiers that are operands.
use Rattle.std.proofs.Common.{◌≡◌, ℕ, Bool, true, false, List, length, None, Some, refl, ap, ◌∙◌}
use Rattle.std.specs.Prelude.{nat_le, ◌&&◌, if◌then◌else◌}
use Rattle.std.proofs.lemmas.Bool.{le-leb, leb-true}
use Rattle.rdl_text.specs.Name.{IsName, is_identifier}
use Rattle.rdl_parse.specs.Class.{class}
use Rattle.rdl_script.specs.Operands.{allows, is_name_of, name_in}
use Rattle.rdl_script.specs.declared.name.NameSort.{NameSort}

both : (a b : Bool) → (a && b) ≡ true → (a ≡ true) × (b ≡ true)
both true b h = (refl, h)
both false b h = absurd (cc)

no_name : (sort : NameSort) (bytes : List ℕ) → (is_name_of sort bytes ≡ true → ⊥) → name_in sort bytes ≡ None
unfolding name_in
no_name sort bytes h = elim (is_name_of sort bytes) as (λ b. (b ≡ true → ⊥) → (if b then Some bytes else None) ≡ None) [ true ↦ λ k. absurd (k refl) | false ↦ λ k. refl ] h

pub name_in-refused : (sort : NameSort) (bytes : List ℕ) → allows sort (class bytes) ≡ false → name_in sort bytes ≡ None
name_in-refused sort bytes r = no_name sort bytes (λ e.
    let allowed = (both (is_identifier bytes) (allows sort (class bytes)) (both (nat_le (length bytes) 255) (is_identifier bytes && allows sort (class bytes)) e).1).1 in
    absurd (cc))

pub name_in-not_name : (sort : NameSort) (bytes : List ℕ) → (IsName bytes → ⊥) → name_in sort bytes ≡ None
name_in-not_name sort bytes h = no_name sort bytes (λ e.
    let short = both (nat_le (length bytes) 255) (is_identifier bytes && allows sort (class bytes)) e in
    let identifier = both (is_identifier bytes) (allows sort (class bytes)) short.1 in
    h (record { short = leb-true (length bytes) 255 short.0; identifier = identifier.0 }))

pub name_in-name : (sort : NameSort) (bytes : List ℕ) → IsName bytes → allows sort (class bytes) ≡ true → name_in sort bytes ≡ Some bytes
unfolding name_in
name_in-name sort bytes n r =
    let short : nat_le (length bytes) 255 ≡ true = le-leb (length bytes) 255 n.short in
    let identifier : is_identifier bytes ≡ true = n.identifier in
    ap (λ b. if b && (is_identifier bytes && allows sort (class bytes)) then Some bytes else None) short
    ∙ ap (λ b. if b && allows sort (class bytes) then Some bytes else None) identifier
    ∙ ap (λ b. if b then Some bytes else None) r
