-- What is found of a map is what is wrong with it.
use Rattle.std.proofs.Common.{◌≡◌, ℕ, ◌+◌, ◌^◌, ◌<◌, ◌≤◌, List, [], ◌∷◌, Bool, true, false, Some, None, Option, refl, ap, sym, subst, ◌∙◌, arith}
use Rattle.std.specs.Prelude.{min, nat_lt, nat_le, option_and_then, if◌then◌else◌}
use Rattle.std.specs.Option.{option_or}
use Rattle.std.proofs.lemmas.Bool.{ltb-true, ltb-false, lt-ltb, le-ltb, le-leb, lt-leb}
use Rattle.rdl_tree.specs.Items.{Items}
use Rattle.rdl_tree.specs.declared.fault.FaultKind.TheVariants.{NoTop, TooManyLevels, TooManyRows, EmptyComponent, MapTooLarge}
use Rattle.rdl_tree.specs.declared.shell.Kind.TheVariants.{Addrmap}
use Rattle.rdl_scope.specs.ItemFaults.{first_of, fault_at, fault_of}
use Rattle.rdl_scope.specs.Closed.{Made, component}
use Rattle.rdl_elab.specs.declared.layout.Mode.TheVariants.{Regalign}
use Rattle.rdl_elab.specs.Capped.{capped}
use Rattle.rdl_elab.specs.Faults as fault
use Rattle.rdl_elab.specs.Faults.{count, first_empty, first_row_fault, fault_of_top, top_from, rows_or, under_top, with_top, unless_fault, elaborated}
use Rattle.rdl_elab.specs.Rows.{around_top, rows_of, rows_below, top_layout}
use Rattle.rdl_seen.specs.declared.seen.Seen.{Seen}
use Rattle.rdl_seen.specs.Meaning.{nothing_around}
use Rattle.rdl_seen.specs.Node.{body_of}
use Rattle.node_laws.specs.Laid.{laying}
use Rattle.node_laws.specs.Meant.{IsSeen}
use Rattle.node_laws.specs.Modes.{seen_mode}
use Rattle.sound_laws.proofs.Kept.{kept_whole}
use Rattle.sound_laws.proofs.Maps.{addrmap_no_register}
use Rattle.sound_nodes.specs.declared.found.Found.{Found}
use Rattle.sound_nodes.specs.declared.found.Found.TheVariants.{Clear, Faulty, Untold}
use Rattle.sound_nodes.specs.Maps.{count_fault, size_fault, map_found, IsJudged}
use Rattle.sound_nodes.specs.Rows.{faulty_or, searched}
use Rattle.sound_nodes.proofs.Nodes.{none-of, seen-size}
use Rattle.sound_nodes.proofs.Searched.{search-tells}
use Rattle.sound_nodes.proofs.Telling.{Tells, tells-same, faulty-tells}

past-limit : (n k : ℕ) → nat_le k (min n k) ≡ nat_lt k (n + 1)
past-limit n k = by (nat_lt k (n + 1)) refl
  where
    by : (b : Bool) → nat_lt k (n + 1) ≡ b → nat_le k (min n k) ≡ b
    by true e = let more : k < n + 1 = ltb-true k (n + 1) e in le-leb k (min n k) (omega (arith, more))
    by false e = let most : n + 1 ≤ k = ltb-false k (n + 1) e in lt-leb k (min n k) (omega (arith, most))

past-size : (n : ℕ) → nat_lt (2 ^ 40) (capped n) ≡ nat_lt (2 ^ 40) n
past-size n = by (nat_lt (2 ^ 40) n) refl
  where
    by : (b : Bool) → nat_lt (2 ^ 40) n ≡ b → nat_lt (2 ^ 40) (capped n) ≡ b
    by true e = let more : 2 ^ 40 < n = ltb-true (2 ^ 40) n e in lt-ltb (2 ^ 40) (capped n) (omega (arith, more))
    by false e = let most : n ≤ 2 ^ 40 = ltb-false (2 ^ 40) n e in le-ltb (2 ^ 40) (capped n) (omega (arith, most))

module _ (d : Items) (none : fault_of d ≡ None) (a name : List ℕ) (c : Made) (holds : component d a ≡ Some c) (addrmap : c.head.kind ≡ Addrmap) (s : Seen) (is : IsSeen c s) (levels : ℕ) where
  abbrev size : ℕ
  size = (top_layout c).size

  counts : count_fault s ≡ first_of ((nat_lt 16 (fault.levels c.parts + 1), TooManyLevels) ∷ (nat_lt 65536 (count c.parts + 1), TooManyRows) ∷ [])
  counts =
      let deep = ap (nat_le 16) is.levels ∙ past-limit (fault.levels c.parts) 16 in
      let rows = ap (nat_le 65536) is.rows ∙ past-limit (count c.parts) 65536 in
      λ i. first_of ((deep i, TooManyLevels) ∷ (rows i, TooManyRows) ∷ [])

  sizes : nat_lt (2 ^ 40) s.size.regalign ≡ nat_lt (2 ^ 40) size
  sizes = ap (nat_lt (2 ^ 40)) (seen-size c s Regalign is) ∙ past-size size

  rows-tell : size ≤ 2 ^ 40 → Tells (searched levels d (body_of laying nothing_around d).slots false (seen_mode Regalign) a) (first_row_fault d (rows_below d name c))
  rows-tell small =
      search-tells d none levels false a c Regalign (around_top name c) holds (record { mode = refl; bits = λ k. absurd (addrmap_no_register c.head.kind addrmap k) })
      (kept_whole c.head.kind size small) refl (λ g. refl)

  size-tells : Tells (faulty_or a (size_fault s) (searched levels d (body_of laying nothing_around d).slots false (seen_mode Regalign) a))
      (option_or (fault_at a (first_of ((nat_lt (2 ^ 40) size, MapTooLarge) ∷ []))) (first_row_fault d (rows_below d name c)))
  size-tells =
      let found = searched levels d (body_of laying nothing_around d).slots false (seen_mode Regalign) a in
      tells-same (faulty_or a (size_fault s) found) (option_or (fault_at a (size_fault s)) (first_row_fault d (rows_below d name c)))
      (option_or (fault_at a (first_of ((nat_lt (2 ^ 40) size, MapTooLarge) ∷ []))) (first_row_fault d (rows_below d name c)))
      (ap (λ b. option_or (fault_at a (first_of ((b, MapTooLarge) ∷ []))) (first_row_fault d (rows_below d name c))) sizes)
      (faulty-tells a (size_fault s) found (first_row_fault d (rows_below d name c)) (λ e. rows-tell (few (nat_lt (2 ^ 40) s.size.regalign) refl e)))
    where
      few : (b : Bool) → nat_lt (2 ^ 40) s.size.regalign ≡ b → first_of ((b, MapTooLarge) ∷ []) ≡ None → size ≤ 2 ^ 40
      few true e g = absurd cc
      few false e g = ltb-false (2 ^ 40) size (sym sizes ∙ e)

  empty-tells : Tells (if s.has_empty then Untold else faulty_or a (size_fault s) (searched levels d (body_of laying nothing_around d).slots false (seen_mode Regalign) a))
      (option_or (option_and_then (λ b. fault_at b (Some EmptyComponent)) (first_empty c.parts))
      (option_or (fault_at a (first_of ((nat_lt (2 ^ 40) size, MapTooLarge) ∷ []))) (first_row_fault d (rows_below d name c))))
  empty-tells = by s.has_empty refl
    where
      by : (t : Bool) → s.has_empty ≡ t
          → Tells (if t then Untold else faulty_or a (size_fault s) (searched levels d (body_of laying nothing_around d).slots false (seen_mode Regalign) a))
          (option_or (option_and_then (λ b. fault_at b (Some EmptyComponent)) (first_empty c.parts))
          (option_or (fault_at a (first_of ((nat_lt (2 ^ 40) size, MapTooLarge) ∷ []))) (first_row_fault d (rows_below d name c))))
      by true e = tt
      by false e =
          let filled = none-of (first_empty c.parts) (sym is.has_empty ∙ e) in
          subst (λ o. Tells (faulty_or a (size_fault s) (searched levels d (body_of laying nothing_around d).slots false (seen_mode Regalign) a))
          (option_or (option_and_then (λ b. fault_at b (Some EmptyComponent)) o) (option_or (fault_at a (first_of ((nat_lt (2 ^ 40) size, MapTooLarge) ∷ []))) (first_row_fault d (rows_below d name c)))))
          (sym filled) size-tells

  pub map-tells : Tells (map_found a s (searched levels d (body_of laying nothing_around d).slots false (seen_mode Regalign) a)) (fault_of_top d a name c)
  map-tells =
      let more = if s.has_empty then Untold else faulty_or a (size_fault s) (searched levels d (body_of laying nothing_around d).slots false (seen_mode Regalign) a) in
      let rest =
      option_or (option_and_then (λ b. fault_at b (Some EmptyComponent)) (first_empty c.parts))
      (option_or (fault_at a (first_of ((nat_lt (2 ^ 40) size, MapTooLarge) ∷ []))) (first_row_fault d (rows_below d name c))) in
      tells-same (faulty_or a (count_fault s) more) (option_or (fault_at a (count_fault s)) rest) (fault_of_top d a name c) (ap (λ k. option_or (fault_at a k) rest) counts)
      (faulty-tells a (count_fault s) more rest (λ e. empty-tells))

-- ---- The answer.

with-top : (d : Items) (wanted : Option (List ℕ)) (top : ℕ × List ℕ) (c : Made) → fault_of d ≡ None → top_from wanted 0 d ≡ Some top → component d (top.0 ∷ []) ≡ Some c
    → elaborated d wanted ≡ rows_or (rows_of d top.1 c) (fault_of_top d (top.0 ∷ []) top.1 c)
with-top d wanted top c none there holds =
    ap (unless_fault d wanted) none ∙ ap (with_top d) there ∙ ap (under_top d (top.0 ∷ []) top.1) holds

pub no-top : (d : Items) (wanted : Option (List ℕ)) → fault_of d ≡ None → top_from wanted 0 d ≡ None → IsJudged d wanted (Faulty (record { kind = NoTop; address = [] }))
no-top d wanted none there = ap (unless_fault d wanted) none ∙ ap (with_top d) there

pub judged : (d : Items) (wanted : Option (List ℕ)) (top : ℕ × List ℕ) (c : Made) → fault_of d ≡ None → top_from wanted 0 d ≡ Some top → component d (top.0 ∷ []) ≡ Some c
    → (f : Found) → Tells f (fault_of_top d (top.0 ∷ []) top.1 c) → IsJudged d wanted f
judged d wanted top c none there holds Clear tells =
    record { rows = rows_of d top.1 c; are = with-top d wanted top c none there holds ∙ ap (rows_or (rows_of d top.1 c)) tells }
judged d wanted top c none there holds (Faulty fault) tells = with-top d wanted top c none there holds ∙ ap (rows_or (rows_of d top.1 c)) tells
judged d wanted top c none there holds Untold tells = tt
