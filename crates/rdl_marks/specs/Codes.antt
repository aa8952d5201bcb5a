-- How the logic stores marks: as trees of numbers, no two alike.
-- own: no part of what marks mean.
use Rattle.std.specs.Prelude.{◌≡◌, ℕ, zero, suc, Bool, List, Option, refl}
use Rattle.std.proofs.Common.{ap, sym}
use Rattle.std.proofs.Math.Nat.{suc-ne-zero}
use Rattle.std.specs.Coded.{Coded, code_by, coded×, coded_ℕ, coded_bool, coded_list, coded_option}
use base.Stored.{Gv, gnil, gnum, gcons}
use Rattle.rdl_tree.specs.Items.{Items}
use Rattle.rdl_tree.specs.Codes.{coded_items}
use Rattle.rdl_tree.specs.declared.shell.Shell.{Shell}
use Rattle.rdl_tree.specs.declared.value.Value.{Value}
use Rattle.rdl_tree.specs.contracts.shell.Shell as shell
use Rattle.rdl_tree.specs.contracts.value.Value as value
use Rattle.rdl_marks.specs.Marks.{Firsts, Traces, no_traces, new_trace, old_trace, Marks}

abbrev coded_name : Coded (List ℕ)
coded_name = coded_list coded_ℕ

abbrev Parts : Type 0
Parts = Option Shell × (Option (List ℕ) × (Option (List ℕ) × (Option Value × (Option (List (List ℕ)) × Bool))))

abbrev coded_firsts : Coded Firsts
coded_firsts = code_by Parts
    (coded× (coded_option shell.the_row.coded) (coded× (coded_option coded_name) (coded× (coded_option coded_name) (coded× (coded_option value.the_row.coded) (coded× (coded_option (coded_list coded_name)) coded_bool)))))
    (λ f. (f.shell, (f.defined, (f.type_name, (f.value, (f.target, f.is_moved))))))
    (λ p. record { shell = p.0; defined = p.1.0; type_name = p.1.1.0; value = p.1.1.1.0; target = p.1.1.1.1.0; is_moved = p.1.1.1.1.1 })
    (λ _. refl)

-- of an item that was there before, what is no trace
abbrev coded_own : Coded ((ℕ × Firsts) × (ℕ × Items))
coded_own = coded× (coded× coded_ℕ coded_firsts) (coded× coded_ℕ coded_items)

abbrev head : Gv → Gv
head gnil = gnil
head (gnum n) = gnil
head (gcons a b) = a

abbrev tail : Gv → Gv
tail gnil = gnil
tail (gnum n) = gnil
tail (gcons a b) = b

abbrev traces_code : Traces → Gv
traces_code no_traces = gnil
traces_code (new_trace rest) = gcons gnil (traces_code rest)
traces_code (old_trace number firsts inside behind gone items rest) =
    gcons (gcons (coded_own.code ((number, firsts), (behind, items))) (gcons (traces_code inside) (traces_code gone))) (traces_code rest)

abbrev is_cons : Gv → ℕ
is_cons gnil = 0
is_cons (gnum n) = 0
is_cons (gcons a b) = 1

differ : zero ≡ suc zero → ⊥
differ p = suc-ne-zero zero (sym p)

pub traces_inj : (x y : Traces) → traces_code x ≡ traces_code y → x ≡ y
traces_inj no_traces no_traces p = refl
traces_inj no_traces (new_trace b) p = absurd (differ (ap is_cons p))
traces_inj no_traces (old_trace b0 b1 b2 b3 b4 b5 b6) p = absurd (differ (ap is_cons p))
traces_inj (new_trace a) no_traces p = absurd (differ (sym (ap is_cons p)))
traces_inj (new_trace a) (new_trace b) p = ap new_trace (traces_inj a b (ap tail p))
traces_inj (new_trace a) (old_trace b0 b1 b2 b3 b4 b5 b6) p = absurd (differ (ap (λ g. is_cons (head g)) p))
traces_inj (old_trace a0 a1 a2 a3 a4 a5 a6) no_traces p = absurd (differ (sym (ap is_cons p)))
traces_inj (old_trace a0 a1 a2 a3 a4 a5 a6) (new_trace b) p = absurd (differ (sym (ap (λ g. is_cons (head g)) p)))
traces_inj (old_trace a0 a1 a2 a3 a4 a5 a6) (old_trace b0 b1 b2 b3 b4 b5 b6) p =
    let own = coded_own.inj ((a0, a1), (a3, a5)) ((b0, b1), (b3, b5)) (ap (λ g. head (head g)) p) in
    let inside = traces_inj a2 b2 (ap (λ g. head (tail (head g))) p) in
    let gone = traces_inj a4 b4 (ap (λ g. tail (tail (head g))) p) in
    let rest = traces_inj a6 b6 (ap tail p) in
    λ i. old_trace (own i).0.0 (own i).0.1 (inside i) (own i).1.0 (gone i) (own i).1.1 (rest i)

abbrev coded_traces : Coded Traces
coded_traces = record { code = traces_code; inj = traces_inj }

abbrev pub coded_marks : Coded Marks
coded_marks = code_by (Traces × (ℕ × (Traces × Items))) (coded× coded_traces (coded× coded_ℕ (coded× coded_traces coded_items)))
    (λ m. (m.traces, (m.behind, (m.gone, m.items))))
    (λ p. record { traces = p.0; behind = p.1.0; gone = p.1.1.0; items = p.1.1.1 })
    (λ _. refl)
