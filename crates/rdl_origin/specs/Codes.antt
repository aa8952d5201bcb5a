-- How the logic stores traces: as trees of numbers, no two alike.
-- own: no part of what traces mean.
use Rattle.std.specs.Prelude.{◌≡◌, ℕ, zero, suc, Bool, Option, refl}
use Rattle.std.proofs.Common.{ap, sym}
use Rattle.std.proofs.Math.Nat.{suc-ne-zero}
use Rattle.std.specs.Coded.{Coded, coded×, coded_ℕ, coded_bool, coded_option}
use base.Stored.{Gv, gnil, gnum, gcons}
use Rattle.rdl_origin.specs.Traces.{Traces, no_traces, trace}

abbrev coded_marks : Coded (Option ℕ × (Bool × Bool))
coded_marks = coded× (coded_option coded_ℕ) (coded× coded_bool coded_bool)

abbrev head : Gv → Gv
head gnil = gnil
head (gnum n) = gnil
head (gcons a b) = a

abbrev tail : Gv → Gv
tail gnil = gnil
tail (gnum n) = gnil
tail (gcons a b) = b

abbrev traces_code : Traces → Gv
traces_code no_traces = gnil
traces_code (trace now is_touched is_moved inside rest) =
    gcons (gcons (coded_marks.code (now, (is_touched, is_moved))) (traces_code inside)) (traces_code rest)

abbrev is_cons : Gv → ℕ
is_cons gnil = 0
is_cons (gnum n) = 0
is_cons (gcons a b) = 1

differ : zero ≡ suc zero → ⊥
differ p = suc-ne-zero zero (sym p)

pub traces_inj : (x y : Traces) → traces_code x ≡ traces_code y → x ≡ y
traces_inj no_traces no_traces p = refl
traces_inj no_traces (trace b0 b1 b2 b3 b4) p = absurd (differ (ap is_cons p))
traces_inj (trace a0 a1 a2 a3 a4) no_traces p = absurd (differ (sym (ap is_cons p)))
traces_inj (trace a0 a1 a2 a3 a4) (trace b0 b1 b2 b3 b4) p =
    let marks = coded_marks.inj (a0, (a1, a2)) (b0, (b1, b2)) (ap (λ g. head (head g)) p) in
    let inside = traces_inj a3 b3 (ap (λ g. tail (head g)) p) in
    let rest = traces_inj a4 b4 (ap tail p) in
    λ i. trace (marks i).0 (marks i).1.0 (marks i).1.1 (inside i) (rest i)

abbrev pub coded_traces : Coded Traces
coded_traces = record { code = traces_code; inj = traces_inj }
