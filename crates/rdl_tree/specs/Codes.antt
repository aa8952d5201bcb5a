-- How the logic stores a body's items: as trees of numbers, no two alike.
-- own: no part of what a description means.
use Rattle.std.specs.Prelude.{◌≡◌, ℕ, zero, suc, List, ◌⊎◌, refl}
use Rattle.std.proofs.Common.{inl, inr, ap, sym}
use Rattle.std.proofs.Math.Nat.{suc-ne-zero}
use Rattle.std.specs.Coded.{Coded, code_by, coded×, coded_ℕ, coded_list, coded⊎}
use base.Stored.{Gv, gnil, gnum, gcons}
use Rattle.rdl_tree.specs.Items.{Items, no_items, plain, holder, Plain, named, own, default, dynamic, Holder, define, anonymous}
use Rattle.rdl_tree.specs.declared.shell.Shell.{Shell}
use Rattle.rdl_tree.specs.declared.shell.Kind.{Kind}
use Rattle.rdl_tree.specs.declared.value.Value.{Value}
use Rattle.rdl_tree.specs.contracts.shell.Shell as shell
use Rattle.rdl_tree.specs.contracts.shell.Kind as kind
use Rattle.rdl_tree.specs.contracts.value.Value as value

abbrev coded_name : Coded (List ℕ)
coded_name = coded_list coded_ℕ

abbrev Flat : Type 0
Flat = ((Shell × List ℕ) ⊎ (List ℕ × Value)) ⊎ ((List ℕ × Value) ⊎ (List (List ℕ) × (List ℕ × Value)))

abbrev to_flat : Plain → Flat
to_flat (named s t) = inl (inl (s, t))
to_flat (own p v) = inl (inr (p, v))
to_flat (default p v) = inr (inl (p, v))
to_flat (dynamic t p v) = inr (inr (t, (p, v)))

abbrev from_flat : Flat → Plain
from_flat (inl (inl p)) = named p.0 p.1
from_flat (inl (inr p)) = own p.0 p.1
from_flat (inr (inl p)) = default p.0 p.1
from_flat (inr (inr p)) = dynamic p.0 p.1.0 p.1.1

pub from_to_flat : (p : Plain) → from_flat (to_flat p) ≡ p
from_to_flat (named s t) = refl
from_to_flat (own p v) = refl
from_to_flat (default p v) = refl
from_to_flat (dynamic t p v) = refl

abbrev pub coded_plain : Coded Plain
coded_plain = code_by Flat
    (coded⊎ (coded⊎ (coded× shell.the_row.coded coded_name) (coded× coded_name value.the_row.coded)) (coded⊎ (coded× coded_name value.the_row.coded) (coded× (coded_list coded_name) (coded× coded_name value.the_row.coded))))
    to_flat from_flat from_to_flat

abbrev Kinds : Type 0
Kinds = (List ℕ × Kind) ⊎ (Shell × Kind)

abbrev to_kinds : Holder → Kinds
to_kinds (define n k) = inl (n, k)
to_kinds (anonymous s k) = inr (s, k)

abbrev from_kinds : Kinds → Holder
from_kinds (inl p) = define p.0 p.1
from_kinds (inr p) = anonymous p.0 p.1

pub from_to_kinds : (h : Holder) → from_kinds (to_kinds h) ≡ h
from_to_kinds (define n k) = refl
from_to_kinds (anonymous s k) = refl

abbrev pub coded_holder : Coded Holder
coded_holder = code_by Kinds (coded⊎ (coded× coded_name kind.the_row.coded) (coded× shell.the_row.coded kind.the_row.coded)) to_kinds from_kinds from_to_kinds

abbrev head : Gv → Gv
head gnil = gnil
head (gnum n) = gnil
head (gcons a b) = a

abbrev tail : Gv → Gv
tail gnil = gnil
tail (gnum n) = gnil
tail (gcons a b) = b

abbrev items_code : Items → Gv
items_code no_items = gnil
items_code (plain p rest) = gcons (gcons (gnum 0) (coded_plain.code p)) (items_code rest)
items_code (holder h body rest) = gcons (gcons (gnum 1) (gcons (coded_holder.code h) (items_code body))) (items_code rest)

abbrev is_cons : Gv → ℕ
is_cons gnil = 0
is_cons (gnum n) = 0
is_cons (gcons a b) = 1

abbrev mark : Gv → ℕ
mark gnil = 0
mark (gnum n) = n
mark (gcons a b) = 0

differ : zero ≡ suc zero → ⊥
differ p = suc-ne-zero zero (sym p)

pub items_inj : (x y : Items) → items_code x ≡ items_code y → x ≡ y
items_inj no_items no_items p = refl
items_inj no_items (plain b0 b1) p = absurd (differ (ap is_cons p))
items_inj no_items (holder b0 b1 b2) p = absurd (differ (ap is_cons p))
items_inj (plain a0 a1) no_items p = absurd (differ (sym (ap is_cons p)))
items_inj (plain a0 a1) (plain b0 b1) p = λ i. plain (coded_plain.inj a0 b0 (ap (λ g. tail (head g)) p) i) (items_inj a1 b1 (ap tail p) i)
items_inj (plain a0 a1) (holder b0 b1 b2) p = absurd (differ (ap (λ g. mark (head (head g))) p))
items_inj (holder a0 a1 a2) no_items p = absurd (differ (sym (ap is_cons p)))
items_inj (holder a0 a1 a2) (plain b0 b1) p = absurd (differ (sym (ap (λ g. mark (head (head g))) p)))
items_inj (holder a0 a1 a2) (holder b0 b1 b2) p = λ i. holder (coded_holder.inj a0 b0 (ap (λ g. head (tail (head g))) p) i) (items_inj a1 b1 (ap (λ g. tail (tail (head g))) p) i) (items_inj a2 b2 (ap tail p) i)

abbrev pub coded_items : Coded Items
coded_items = record { code = items_code; inj = items_inj }
