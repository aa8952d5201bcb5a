-- Each turn goes past bytes without a meaning of their own, and past a backslash with the byte that it takes.
use Rattle.std.proofs.Common.{◌≡◌, ℕ, ◌+◌, ◌<◌, true, false, List, drop, length, get_or, refl, arith, ◌∙◌, sym, ap, subst}
use Rattle.std.proofs.lemmas.Bool.{eq-eqb, ne_eqb}
use Rattle.std.proofs.lemmas.List.{get_or-drop, length-drop}
use Rattle.rdl_text.proofs.Closing.{further, is_special, backslash, reach, unclosed, closed, past_one, past_backslash}
use Rattle.rdl_text.proofs.Cutting.{tail}
use Rattle.rdl_text.specs.Rows.{closing}
use Rattle.rdl_text.proofs.rows.closing.Goals as goal
use Rattle.rdl_text.proofs.rows.closing.Goals.{then-byte-eq92, else-byte-eq92}

pub returns-in_default-clause-place : goal.returns-in_default-clause-place
returns-in_default-clause-place c =
    let s = c.args.bytes.now in
    unclosed s _ c.scan.at (tail s s c.scan.at refl) c.in_default.ensures c.scan.invariant

pub returns-then-bytes-at-eq34-clause-place : goal.returns-then-bytes-at-eq34-clause-place
returns-then-bytes-at-eq34-clause-place c =
    let s = c.args.bytes.now in
    let here = tail s s c.scan.at refl in
    let found = c.in-Some.ensures.0 in
    let inside : c.scan.at + c.in-Some.plain < length s = omega (arith, found.high, ap (λ (u : List ℕ). length u) here, length-drop c.scan.at s) in
    closed s (c.scan.at + c.in-Some.plain) inside c.if-bytes-at-eq34.true (reach s _ c.scan.at c.in-Some.plain here found c.scan.invariant)

pub scan-preserved : goal.scan-preserved
scan-preserved c =
    let s = c.args.bytes.now in
    let here = tail s s c.scan.at refl in
    let found = c.in-Some.ensures.0 in
    let inside : c.scan.at + c.in-Some.plain < length s = omega (arith, found.high, ap (λ (u : List ℕ). length u) here, length-drop c.scan.at s) in
    let quote = ne_eqb _ _ c.if-bytes-at-eq34.false in
    let same = ap (λ (u : List ℕ). get_or u c.in-Some.plain 0) here ∙ (get_or-drop c.scan.at s c.in-Some.plain 0 ∙ ap (λ (k : ℕ). get_or s k 0) (omega arith)) in
    let special : is_special (get_or s (c.scan.at + c.in-Some.plain) 0) ≡ true = subst (λ (b : ℕ). is_special b ≡ true) same c.in-Some.ensures.1 in
    past_backslash s (c.scan.at + c.in-Some.plain) inside quote (backslash _ special quote) (reach s _ c.scan.at c.in-Some.plain here found c.scan.invariant)

pub near-preserved : goal.near-preserved
near-preserved c =
    let s = c.args.bytes.now in
    let at = c.near.at in
    let quote = ne_eqb (get_or s at 0) 34 c.if-byte-eq34.false in
    let told : ℕ → Type 0 = λ n. further (at + n) (closing false (drop (at + n) s)) ≡ closing false s in
    elim c.if-byte-eq92.branch [
      | then-byte-eq92 w ↦ subst told (sym w.at-is) (past_backslash s at c.near-test.true quote (eq-eqb (get_or s at 0) 92 w.if-byte-eq92.true) c.near.invariant)
      | else-byte-eq92 w ↦ subst told (sym w.at-is) (past_one s at c.near-test.true quote (ne_eqb (get_or s at 0) 92 w.if-byte-eq92.false) c.near.invariant)
    ]
