-- The rows of the fields of a register to which nothing comes by which they are judged.
use Rattle.std.proofs.Common.{◌≡◌, ℕ, suc, ◌+◌, ◌-◌, ◌*◌, ◌^◌, ◌≤◌, ◌<◌, List, [], ◌∷◌, ◌++◌, map, Bool, true, false, Some, None, Option, option_map, refl, ap, sym, subst, ◌∙◌, arith}
use Rattle.std.specs.Prelude.{◌&&◌, ◌||◌, not, nat_lt, nat_le, option_and_then, if◌then◌else◌}
use Rattle.std.specs.Int.{leading_zeros, w128}
use Rattle.std.specs.List.{list_all, list_any}
use Rattle.std.specs.Option.{option_or}
use Rattle.std.proofs.Math.Pow.{pow_mono}
use Rattle.std.proofs.Math.Nat.{pow-suc}
use Rattle.std.proofs.lemmas.Bool.{ltb-true, ltb-false, lt-ltb, le-ltb, le-leb}
use Rattle.std.proofs.lemmas.Nat.{leading_length}
use Rattle.rdl_tree.specs.Items.{Items}
use Rattle.rdl_tree.specs.Properties.{row, on}
use Rattle.rdl_tree.specs.declared.shell.Kind.TheVariants.{Reg, Field}
use Rattle.rdl_tree.specs.declared.shell.Shell.{Shell}
use Rattle.rdl_tree.specs.declared.value.Value.{Value}
use Rattle.rdl_tree.specs.declared.value.Value.TheVariants as value
use Rattle.rdl_tree.specs.declared.property.Property.{Property}
use Rattle.rdl_tree.specs.declared.property.Property.TheVariants.{Sw, Reset}
use Rattle.rdl_tree.specs.declared.fault.Fault.{Fault}
use Rattle.rdl_tree.specs.declared.fault.FaultKind.{FaultKind}
use Rattle.rdl_tree.specs.declared.fault.FaultKind.TheVariants.{FieldPastRegister, FieldOverlap, ResetTooWide}
use Rattle.rdl_scope.specs.Target.{body_of}
use Rattle.rdl_scope.specs.Value.{shown}
use Rattle.rdl_scope.specs.ItemFaults.{first_of, fault_at, fault_of}
use Rattle.rdl_scope.specs.Closed.{Head, Parts, no_parts, part, Made, component, head_value}
use Rattle.rdl_elab.specs.declared.layout.Span.{Span}
use Rattle.rdl_elab.specs.Capped.{capped, capped_span}
use Rattle.rdl_elab.specs.Found.{IsPartFound, ArePartsFound}
use Rattle.rdl_elab.specs.Layouts.{number_in, layout_of}
use Rattle.rdl_elab.specs.Rows.{Around, Judged, row_value, judged_row, inside, rows_in}
use Rattle.rdl_elab.specs.Faults as fault
use Rattle.rdl_elab.specs.Faults.{overlap, clashes, is_reset_too_wide, kind_fault, row_fault, first_row_fault}
use Rattle.rdl_elab.specs.Reaches.{Reach, behind, along, reached}
use Rattle.rdl_elab.proofs.Fitting.{OneFits, Fit}
use Rattle.rdl_seen.specs.declared.values.Access.{Access}
use Rattle.rdl_seen.specs.declared.values.Access.TheVariants.{OnlyReads, OnlyWrites, Other}
use Rattle.rdl_seen.specs.Fields as seen
use Rattle.rdl_seen.specs.Fields.{clashes_none}
use Rattle.rdl_seen.specs.Inside.{has_room}
use Rattle.rdl_seen.specs.Layouts as lay
use Rattle.rdl_seen.specs.Layouts.{overlaps}
use Rattle.rdl_seen.specs.Meaning.{stated_of, HasValues}
use Rattle.rdl_seen.specs.Values.{bit_count, reset_bits, access}
use Rattle.rdl_nodes.specs.Part.{Part, reset_of, access_of}
use Rattle.node_laws.specs.Laid.{seen_span}
use Rattle.node_laws.specs.Sound.{resets_seen, accesses_seen}
use Rattle.sound_laws.specs.Harmless.{Spot, in_register, is_fitting, kept_layout, are_apart, is_harmless_at, is_unjudged}
use Rattle.sound_laws.specs.Sound.{value_with}
use Rattle.sound_laws.proofs.Containers.{meets}
use Rattle.sound_laws.proofs.Lists.{both, not_false, neither_of, free, free_first, free_rest, free_more}
use Rattle.sound_laws.proofs.Registers.{field_there, nothing_below}
use Rattle.sound_laws.proofs.RowValues.{row_with}
use Rattle.sound_nodes.specs.Instances.{SeenInstance}
use Rattle.sound_nodes.specs.declared.found.Found.{Found}
use Rattle.sound_nodes.specs.declared.found.Found.TheVariants.{Untold}
use Rattle.sound_nodes.specs.Rows.{faulty_or, field_fault, wide_reset, reset_or, fields}
use Rattle.sound_nodes.proofs.Coming.{fields_go, field-passes, fitting-reached, unjudged_behind, no_reset, no_sw}
use Rattle.sound_nodes.proofs.Fields.{fits, acc, same-share, not-both, part-access}
use Rattle.sound_nodes.proofs.Good.{made-values}
use Rattle.sound_nodes.proofs.Telling.{Tells, tells-same, lone-row-tells, here-tells, map-more}
use Rattle.sound_nodes.proofs.Walked.{IsSeenPart, AreSeenParts}

not-not : (b : Bool) → not (not b) ≡ b
not-not true = refl
not-not false = refl

-- ---- Resets.

-- a number that needs more bits isn't below two to their number
wide : (n k : ℕ) → k ≤ 128 → nat_le (bit_count n) k ≡ false → 2 ^ k ≤ n
wide n k small room = by (nat_lt n (2 ^ 128)) refl room
  where
    more-than : (a : ℕ) → nat_le a k ≡ false → k < a
    more-than a e = above (nat_lt k a) refl
      where
        above : (b : Bool) → nat_lt k a ≡ b → k < a
        above true is = ltb-true k a is
        above false is = let no : nat_le a k ≡ true = le-leb a k (ltb-false k a is) in let never : ◌≡◌ {A = Bool} true false = sym no ∙ e in absurd cc

    by : (code : Bool) → nat_lt n (2 ^ 128) ≡ code → nat_le (if code then 128 - leading_zeros w128 n else n) k ≡ false → 2 ^ k ≤ n
    by true is g =
        let length = leading_length 128 n (ltb-true n (2 ^ 128) is) in
        let more = more-than (128 - leading_zeros w128 n) g in
        let bits : suc k ≤ length.0 = omega (arith, length.1, more) in
        let below : 2 ^ suc k ≤ 2 ^ length.0 = pow_mono bits in
        let doubled : 2 ^ suc k ≡ 2 ^ k * 2 = pow-suc 2 k in
        let least : 2 ^ length.0 ≤ 2 * n + 1 = length.3 in
        omega (arith, below, doubled, least)
    by false is g =
        let most : 2 ^ 128 ≤ n = ltb-false n (2 ^ 128) is in
        let below : 2 ^ k ≤ 2 ^ 128 = pow_mono small in
        omega (arith, most, below)

exact-fit : (n k : ℕ) → k ≤ 128 → nat_le (bit_count n) k ≡ not (nat_le (2 ^ k) n)
exact-fit n k small = by (nat_le (bit_count n) k) refl
  where
    by : (b : Bool) → nat_le (bit_count n) k ≡ b → b ≡ not (nat_le (2 ^ k) n)
    by true is = sym (fits n k is)
    by false is = ap not (sym (le-leb (2 ^ k) n (wide n k small is)))

exact-reset : (r : Option ℕ) (o : Option Value) (kept : Option ℕ) (span : Span) → span.end - span.start ≤ 128 → option_and_then reset_bits o ≡ kept
    → has_room (option_or (option_map bit_count r) kept) (seen_span span)
    ≡ not (is_reset_too_wide (number_in (option_map (shown (row Reset).form) (option_or None (option_or (option_map value.Number r) o)))) span)
exact-reset (Some n) o kept span small e = exact-fit n (span.end - span.start) small
exact-reset None None kept span small e = ap (λ k. has_room k (seen_span span)) (sym e)
exact-reset None (Some (value.Number n)) kept span small e = ap (λ k. has_room k (seen_span span)) (sym e) ∙ exact-fit n (span.end - span.start) small
exact-reset None (Some (value.Text t)) kept span small e = ap (λ k. has_room k (seen_span span)) (sym e)
exact-reset None (Some (value.Bool b)) kept span small e = ap (λ k. has_room k (seen_span span)) (sym e)
exact-reset None (Some (value.Word w)) kept span small e = ap (λ k. has_room k (seen_span span)) (sym e)

-- ---- Fields that share bits.

turned : (a b : Access) → seen.may_share a b ≡ seen.may_share b a
turned OnlyReads OnlyReads = refl
turned OnlyReads OnlyWrites = refl
turned OnlyReads Other = refl
turned OnlyWrites OnlyReads = refl
turned OnlyWrites OnlyWrites = refl
turned OnlyWrites Other = refl
turned Other OnlyReads = refl
turned Other OnlyWrites = refl
turned Other Other = refl

none-or : (a b : Bool) → not (not a && b) ≡ (a || not b)
none-or true b = refl
none-or false b = refl

abbrev acc_of : Span × Option Value → Access
acc_of b = acc b.1

abbrev pub seen_firsts : List (Span × Option Value) → List lay.Span
seen_firsts before = map (λ (b : Span × Option Value). seen_span b.0) before

clash-exact : (span : Span) (x : Option Value) (before : List (Span × Option Value)) → not (clashes_none (seen_span span) (acc x) (seen_firsts before) (map acc_of before)) ≡ clashes span x before
clash-exact span x [] = refl
clash-exact span x (b ∷ before) =
    let rest = clashes_none (seen_span span) (acc x) (seen_firsts before) (map acc_of before) in
    let share : seen.may_share (acc x) (acc b.1) ≡ fault.may_share x b.1 = turned (acc x) (acc b.1) ∙ sym (same-share b.1 x) in
    ap (λ z. not (z && rest)) (ap (λ z. not (overlap span b.0) || z) share ∙ not-both (overlap span b.0) (fault.may_share x b.1))
    ∙ none-or (overlap span b.0 && not (fault.may_share x b.1)) rest ∙ ap (λ z. (overlap span b.0 && not (fault.may_share x b.1)) || z) (clash-exact span x before)

-- ---- The fields of a register.

-- this is made of the fields: how many bits their resets need, and how software accesses them
abbrev pub AreFieldParts : List Part → Parts → Type 0
AreFieldParts [] no_parts = Unit {0}
AreFieldParts (q ∷ qs) no_parts = ⊥
AreFieldParts [] (part at s h within rest) = ⊥
AreFieldParts (q ∷ qs) (part at s h within rest) = (q.reset ≡ option_or (option_map bit_count s.reset) (stated_of h).reset) × (q.access ≡ access (stated_of h)) × AreFieldParts qs rest

pub field-parts : (qs : List Part) (ps : Parts) → map reset_of qs ≡ resets_seen ps → map access_of qs ≡ accesses_seen ps → AreFieldParts qs ps
field-parts [] no_parts e g = tt
field-parts (q ∷ qs) no_parts e g = absurd cc
field-parts [] (part at s h within rest) e g = absurd cc
field-parts (q ∷ qs) (part at s h within rest) e g =
    let reset : q.reset ≡ option_or (option_map bit_count s.reset) (stated_of h).reset = cc in
    let access_is : q.access ≡ access (stated_of h) = cc in
    let resets : map reset_of qs ≡ resets_seen rest = cc in
    let accesses : map access_of qs ≡ accesses_seen rest = cc in
    (reset, access_is, field-parts qs rest resets accesses)

-- what is wrong with a field, where its reset counts too
abbrev whole_fault : ℕ → List lay.Span → List Part → lay.Span → Part → Option FaultKind
whole_fault bits before done span p =
    first_of
    ((nat_lt bits span.end, FieldPastRegister) ∷ (not (clashes_none span p.access before (map access_of done)), FieldOverlap) ∷ (not (has_room p.reset span), ResetTooWide) ∷ [])

joined : (at : List ℕ) (past clash room : Bool) (next : Found)
    → faulty_or at (first_of ((past, FieldPastRegister) ∷ (clash, FieldOverlap) ∷ (not room, ResetTooWide) ∷ [])) next
    ≡ faulty_or at (first_of ((past, FieldPastRegister) ∷ (clash, FieldOverlap) ∷ [])) (if room then next else wide_reset false at)
joined at true clash room next = refl
joined at false true room next = refl
joined at false false true next = refl
joined at false false false next = refl

past-is : (n e : ℕ) → n ≤ 128 → nat_lt n (capped e) ≡ nat_lt n e
past-is n e small = by (nat_lt n e) refl
  where
    by : (b : Bool) → nat_lt n e ≡ b → nat_lt n (capped e) ≡ b
    by true is = let less : n < e = ltb-true n e is in lt-ltb n (capped e) (omega (arith, less, small))
    by false is = let most : e ≤ n = ltb-false n e is in le-ltb n (capped e) (omega (arith, most))

module _ (d : Items) (none : fault_of d ≡ None) (b : List ℕ) (m : Made) (holds : component d b ≡ Some m) (reg : m.head.kind ≡ Reg) (o : Around) (small : o.bits ≤ 128) (rs : List Reach)
    (come : (at : List ℕ) → body_of at ≡ b → along d [] (o.path ++ at ∷ []) ≡ behind at rs) (unjudged : list_all is_unjudged rs ≡ true) where
  access-is : (at : List ℕ) (s : Shell) (h : Head) (within : Parts) → IsPartFound d b at s h within → row_value d (o.path ++ at ∷ []) h Sw ≡ value_with None s h Sw
  access-is at s h within found =
      row_with d o.path at s found.of h within found.instance found.component Sw ∙ ap (λ qs. value_with (reached (row Sw).name qs) s h Sw) (come at found.around)
      ∙ ap (λ v. value_with v s h Sw) (no_sw (behind at rs) (unjudged_behind at rs unjudged))

  reset-is : (at : List ℕ) (s : Shell) (h : Head) (within : Parts) → IsPartFound d b at s h within → row_value d (o.path ++ at ∷ []) h Reset ≡ value_with None s h Reset
  reset-is at s h within found =
      row_with d o.path at s found.of h within found.instance found.component Reset ∙ ap (λ qs. value_with (reached (row Reset).name qs) s h Reset) (come at found.around)
      ∙ ap (λ v. value_with v s h Reset) (no_reset (behind at rs) (unjudged_behind at rs unjudged))

  -- one field
  module _ (at : List ℕ) (s : Shell) (h : Head) (within : Parts) (found : IsPartFound d b at s h within) (q : Part) (q_reset : q.reset ≡ option_or (option_map bit_count s.reset) (stated_of h).reset)
      (q_access : q.access ≡ access (stated_of h)) (before : List (Span × Option Value)) (done : List Part) (accs : map access_of done ≡ map acc_of before) (span : Span) where
    abbrev r : Judged
    r = judged_row d o before span at s h (layout_of o.mode h within)

    field : h.kind ≡ Field
    field = field_there d none b m holds at s h within reg found

    clash-is : not (clashes_none (seen_span span) q.access (seen_firsts before) (map access_of done)) ≡ clashes span r.access before
    clash-is =
        let mine : q.access ≡ acc r.access =
        q_access ∙ part-access s h (made-values d h.at (record { head = h; parts = within }) none found.component) ∙ ap acc (sym (access-is at s h within found)) in
        (λ i. not (clashes_none (seen_span span) (mine i) (seen_firsts before) (accs i))) ∙ clash-exact span r.access before

    room-is : span.end - span.start ≤ 128 → not (has_room q.reset (seen_span span)) ≡ is_reset_too_wide (number_in (row_value d (o.path ++ at ∷ []) h Reset)) span
    room-is few =
        let values = made-values d h.at (record { head = h; parts = within }) none found.component in
        let has : on Reset h.kind ≡ true = ap (on Reset) field in
        let shows : value_with None s h Reset ≡ option_map (shown (row Reset).form) (option_or None (option_or (option_map value.Number s.reset) (head_value h Reset))) =
        ap (λ z. if z then option_map (shown (row Reset).form) (option_or None (option_or (option_map value.Number s.reset) (head_value h Reset))) else None) has in
        ap (λ k. not (has_room k (seen_span span))) q_reset
        ∙ ap not (exact-reset s.reset (head_value h Reset) (stated_of h).reset span few (values.reset has))
        ∙ not-not (is_reset_too_wide (number_in (option_map (shown (row Reset).form) (option_or None (option_or (option_map value.Number s.reset) (head_value h Reset))))) span)
        ∙ ap (λ v. is_reset_too_wide (number_in v) span) (sym (reset-is at s h within found ∙ shows))

    -- a span that ends in the register is kept as it is
    pub span-exact : span.start ≤ span.end → nat_lt o.bits span.end ≡ false → capped_span span ≡ span
    span-exact ordered past =
        let low : span.end ≤ o.bits = ltb-false o.bits span.end past in
        let start : capped span.start ≡ span.start = omega (arith, ordered, low, small) in
        let end : capped span.end ≡ span.end = omega (arith, low, small) in
        λ i. record { start = start i; end = end i }

    fault-by : (past : Bool) → nat_lt o.bits span.end ≡ past → span.start ≤ span.end → kind_fault Field d r ≡ whole_fault o.bits (seen_firsts before) done (seen_span (capped_span span)) q
    fault-by true past ordered =
        ap (λ z. first_of ((z, FieldPastRegister) ∷ (clashes span r.access before, FieldOverlap) ∷ (is_reset_too_wide (number_in (row_value d (o.path ++ at ∷ []) h Reset)) span, ResetTooWide) ∷ [])) past
        ∙ ap (λ z. first_of ((z, FieldPastRegister) ∷ (not (clashes_none (seen_span (capped_span span)) q.access (seen_firsts before) (map access_of done)), FieldOverlap) ∷ (not (has_room q.reset (seen_span (capped_span span))), ResetTooWide) ∷ []))
        (sym (past-is o.bits span.end small ∙ past))
    fault-by false past ordered =
        let low : span.end ≤ o.bits = ltb-false o.bits span.end past in
        let few : span.end - span.start ≤ 128 = omega (arith, low, small) in
        (λ i. first_of ((nat_lt o.bits span.end, FieldPastRegister) ∷ (sym clash-is i, FieldOverlap) ∷ (sym (room-is few) i, ResetTooWide) ∷ []))
        ∙ ap (λ z. whole_fault o.bits (seen_firsts before) done (seen_span z) q) (sym (span-exact ordered past))

    pub fault-is : span.start ≤ span.end → kind_fault h.kind d r ≡ whole_fault o.bits (seen_firsts before) done (seen_span (capped_span span)) q
    fault-is ordered = ap (λ k. kind_fault k d r) field ∙ fault-by (nat_lt o.bits span.end) refl ordered

    past-clear : whole_fault o.bits (seen_firsts before) done (seen_span (capped_span span)) q ≡ None → nat_lt o.bits span.end ≡ false
    past-clear clear = by (nat_lt o.bits span.end) refl
      where
        by : (past : Bool) → nat_lt o.bits span.end ≡ past → past ≡ false
        by true past =
            let found_past : whole_fault o.bits (seen_firsts before) done (seen_span (capped_span span)) q ≡ Some FieldPastRegister =
            ap (λ z. first_of ((z, FieldPastRegister) ∷ (not (clashes_none (seen_span (capped_span span)) q.access (seen_firsts before) (map access_of done)), FieldOverlap) ∷ (not (has_room q.reset (seen_span (capped_span span))), ResetTooWide) ∷ []))
            (past-is o.bits span.end small ∙ past) in
            let never : ◌≡◌ {A = Option FaultKind} (Some FieldPastRegister) None = sym found_past ∙ clear in
            absurd cc
        by false past = refl

  pub fields-tell : (ps : Parts) → ArePartsFound d b ps → (xs : List SeenInstance) → AreSeenParts b xs ps → (qs : List Part) → AreFieldParts qs ps
      → (before : List (Span × Option Value)) (done : List Part) → map access_of done ≡ map acc_of before → (spans : List Span) → Fit o.mode 0 spans ps
      → Tells (fields false b o.bits (seen_firsts before) done (map seen_span (map capped_span spans)) xs qs) (first_row_fault d (rows_in d o before spans ps))
  fields-tell no_parts found [] seen qs made before done accs [] fits = refl
  fields-tell no_parts found [] seen qs made before done accs (span ∷ spans) fits = refl
  fields-tell no_parts found (x ∷ xs) seen qs made before done accs spans fits = absurd seen
  fields-tell (part at s h within rest) found [] seen qs made before done accs spans fits = absurd seen
  fields-tell (part at s h within rest) found (x ∷ xs) seen [] made before done accs spans fits = absurd made
  fields-tell (part at s h within rest) found (x ∷ xs) seen (q ∷ qs) made before done accs [] fits = refl
  fields-tell (part at s h within rest) found (x ∷ xs) seen (q ∷ qs) made before done accs (span ∷ spans) fits =
      let l = layout_of o.mode h within in
      let r = judged_row d o before span at s h l in
      let part_seen : IsSeenPart b x at s h within = seen.0 in
      let fits_one : OneFits o.mode 0 span h within = fits.0 in
      let field = field_there d none b m holds at s h within reg found.0 in
      let fault = whole_fault o.bits (seen_firsts before) done (seen_span (capped_span span)) q in
      let behind_it = rows_in d o (before ++ (span, r.access) ∷ []) spans rest in
      let next = fields false b o.bits (seen_firsts before ++ seen_span (capped_span span) ∷ []) (done ++ q ∷ []) (map seen_span (map capped_span spans)) xs qs in
      subst (λ z. Tells z (first_row_fault d (rows_in d o before (span ∷ spans) (part at s h within rest))))
      (joined (b ++ x.number ∷ []) (nat_lt o.bits (capped_span span).end) (not (clashes_none (seen_span (capped_span span)) q.access (seen_firsts before) (map access_of done))) (has_room q.reset (seen_span (capped_span span))) next)
      (lone-row-tells d r (rows_in d (inside r) [] l.spans within) behind_it (faulty_or (b ++ x.number ∷ []) fault next)
      (nothing_below d h.at (record { head = h; parts = within }) none found.0.component field within found.1 (inside r) [] l.spans)
      (here-tells d r (b ++ x.number ∷ []) fault next (first_row_fault d behind_it) part_seen.place
      (fault-is at s h within found.0 q made.0 made.1 before done accs span fits_one.ordered)
      (λ clear.
      let past = past-clear at s h within found.0 q made.0 made.1 before done accs span clear in
      let exact = span-exact at s h within found.0 q made.0 made.1 before done accs span fits_one.ordered past in
      let mine : access_of q ≡ acc r.access =
      made.1 ∙ part-access s h (made-values d h.at (record { head = h; parts = within }) none found.0.component) ∙ ap acc (sym (access-is at s h within found.0)) in
      let accs_more : map access_of (done ++ q ∷ []) ≡ map acc_of (before ++ (span, r.access) ∷ []) =
      sym (map-more access_of done q) ∙ (λ i. accs i ++ mine i ∷ []) ∙ map-more acc_of before (span, r.access) in
      let firsts_more : seen_firsts before ++ seen_span (capped_span span) ∷ [] ≡ seen_firsts (before ++ (span, r.access) ∷ []) =
      ap (λ z. seen_firsts before ++ seen_span z ∷ []) exact ∙ map-more (λ (f : Span × Option Value). seen_span f.0) before (span, r.access) in
      subst (λ zs. Tells (fields false b o.bits zs (done ++ q ∷ []) (map seen_span (map capped_span spans)) xs qs) (first_row_fault d behind_it)) (sym firsts_more)
      (fields-tell rest found.2 xs seen.1 qs made.2 (before ++ (span, r.access) ∷ []) (done ++ q ∷ []) accs_more spans fits.1))))

-- ---- Where what comes is harmless.

clashes-free : (span : Span) (x : Option Value) (before : List (Span × Option Value)) → list_any (λ (b : Span × Option Value). overlap span b.0) before ≡ false → clashes span x before ≡ false
clashes-free span x [] e = refl
clashes-free span x (b ∷ before) e =
    let t = neither_of (overlap span b.0) (list_any (λ (b : Span × Option Value). overlap span b.0) before) e in
    λ i. (t.0 i && not (fault.may_share x b.1)) || clashes-free span x before t.1 i

none-clashes : (span : Span) (a : Access) (before : List (Span × Option Value)) (accs : List Access) → list_any (λ (b : Span × Option Value). overlap span b.0) before ≡ false
    → clashes_none (seen_span span) a (seen_firsts before) accs ≡ true
none-clashes span a [] accs e = refl
none-clashes span a (b ∷ before) [] e = refl
none-clashes span a (b ∷ before) (c ∷ accs) e =
    let t = neither_of (overlap span b.0) (list_any (λ (b : Span × Option Value). overlap span b.0) before) e in
    λ i. (not (t.0 i) || seen.may_share a c) && none-clashes span a before accs t.1 i

-- a field whose reset may not be told
tells-field : (at : List ℕ) (past clash room too_wide : Bool) (next : Found) (y : Option Fault) → (room ≡ true → too_wide ≡ false) → (past ≡ false → clash ≡ false → Tells next y)
    → Tells (faulty_or at (first_of ((past, FieldPastRegister) ∷ (clash, FieldOverlap) ∷ [])) (if room then next else Untold))
    (option_or (fault_at at (first_of ((past, FieldPastRegister) ∷ (clash, FieldOverlap) ∷ (too_wide, ResetTooWide) ∷ []))) y)
tells-field at true clash room too_wide next y f g = refl
tells-field at false true room too_wide next y f g = refl
tells-field at false false false too_wide next y f g = tt
tells-field at false false true too_wide next y f g = subst (λ w. Tells next (option_or (fault_at at (first_of ((w, ResetTooWide) ∷ []))) y)) (sym (f refl)) (g refl refl)

module _ (d : Items) (none : fault_of d ≡ None) (b : List ℕ) (m : Made) (holds : component d b ≡ Some m) (reg : m.head.kind ≡ Reg) (o : Around) (small : o.bits ≤ 128) (rs : List Reach)
    (come : (at : List ℕ) → body_of at ≡ b → along d [] (o.path ++ at ∷ []) ≡ behind at rs) (ordered : Bool) where
  abbrev kept_spot : Span → Spot
  kept_spot span = in_register ordered (capped_span span)

  -- one field
  module _ (at : List ℕ) (s : Shell) (h : Head) (within : Parts) (found : IsPartFound d b at s h within) (span : Span)
      (harmless : list_all (is_harmless_at kept_layout (in_register ordered (capped_span span)) h within) (behind at rs) ≡ true) where
    value-is : (p : Property) → row_value d (o.path ++ at ∷ []) h p ≡ value_with (reached (row p).name (behind at rs)) s h p
    value-is p =
        row_with d o.path at s found.of h within found.instance found.component p ∙ ap (λ qs. value_with (reached (row p).name qs) s h p) (come at found.around)

    is-field : h.kind ≡ Field
    is-field = field_there d none b m holds at s h within reg found

    access-own : ordered ≡ false → row_value d (o.path ++ at ∷ []) h Sw ≡ value_with None s h Sw
    access-own shared = value-is Sw ∙ by (reached (row Sw).name (behind at rs)) refl
      where
        by : (x : Option Value) → reached (row Sw).name (behind at rs) ≡ x → value_with x s h Sw ≡ value_with None s h Sw
        by None e = refl
        by (Some v) e =
            let fits_there : is_fitting (in_register ordered (capped_span span)) (row Sw).name v ≡ true = fitting-reached (row Sw).name (in_register ordered (capped_span span)) h within v (behind at rs) harmless e in
            let same : ordered ≡ true = fits_there in
            let never : ◌≡◌ {A = Bool} false true = sym shared ∙ same in
            absurd cc

    reset-clear : (q : Part) → q.reset ≡ option_or (option_map bit_count s.reset) (stated_of h).reset → capped_span span ≡ span → span.end - span.start ≤ 128
        → has_room q.reset (seen_span span) ≡ true → is_reset_too_wide (number_in (row_value d (o.path ++ at ∷ []) h Reset)) span ≡ false
    reset-clear q q_reset exact few room = ap (λ v. is_reset_too_wide (number_in v) span) (value-is Reset) ∙ by (reached (row Reset).name (behind at rs)) refl
      where
        values : HasValues h (stated_of h)
        values = made-values d h.at (record { head = h; parts = within }) none found.component

        shows : value_with None s h Reset ≡ option_map (shown (row Reset).form) (option_or None (option_or (option_map value.Number s.reset) (head_value h Reset)))
        shows = ap (λ z. if z then option_map (shown (row Reset).form) (option_or None (option_or (option_map value.Number s.reset) (head_value h Reset))) else None) (ap (on Reset) is-field)

        by : (x : Option Value) → reached (row Reset).name (behind at rs) ≡ x → is_reset_too_wide (number_in (value_with x s h Reset)) span ≡ false
        by None e =
            not_false (is_reset_too_wide (number_in (value_with None s h Reset)) span)
            (ap (λ v. not (is_reset_too_wide (number_in v) span)) shows
            ∙ sym (exact-reset s.reset (head_value h Reset) (stated_of h).reset span few (values.reset (ap (on Reset) is-field))) ∙ ap (λ k. has_room k (seen_span span)) (sym q_reset) ∙ room)
        by (Some v) e =
            let fits_there : is_fitting (in_register ordered (capped_span span)) (row Reset).name v ≡ true = fitting-reached (row Reset).name (in_register ordered (capped_span span)) h within v (behind at rs) harmless e in
            let wide_enough : not (is_reset_too_wide (number_in (Some v)) (capped_span span)) ≡ true = fits_there in
            ap (λ k. is_reset_too_wide (number_in (if on Reset k then Some v else None)) span) is-field
            ∙ not_false (is_reset_too_wide (number_in (Some v)) span) (ap (λ z. not (is_reset_too_wide (number_in (Some v)) z)) (sym exact) ∙ wide_enough)

    module _ (q : Part) (q_reset : q.reset ≡ option_or (option_map bit_count s.reset) (stated_of h).reset) (q_access : q.access ≡ access (stated_of h)) (before : List (Span × Option Value))
        (done : List Part) (accs : ordered ≡ false → map access_of done ≡ map acc_of before) (clear : ordered ≡ true → list_any (meets (capped_span span)) before ≡ false) where
      abbrev row_here : Judged
      row_here = judged_row d o before span at s h (layout_of o.mode h within)

      mine : ordered ≡ false → access_of q ≡ acc row_here.access
      mine shared =
          q_access ∙ part-access s h (made-values d h.at (record { head = h; parts = within }) none found.component) ∙ ap acc (sym (access-own shared))

      clash-same : capped_span span ≡ span → not (clashes_none (seen_span span) q.access (seen_firsts before) (map access_of done)) ≡ clashes span row_here.access before
      clash-same exact = by ordered refl
        where
          by : (t : Bool) → ordered ≡ t → not (clashes_none (seen_span span) q.access (seen_firsts before) (map access_of done)) ≡ clashes span row_here.access before
          by true is =
              let lone : list_any (λ (f : Span × Option Value). overlap span f.0) before ≡ false = ap (λ z. list_any (λ (f : Span × Option Value). overlap z f.0) before) (sym exact) ∙ clear is in
              ap not (none-clashes span q.access before (map access_of done) lone) ∙ sym (clashes-free span row_here.access before lone)
          by false is =
              (λ i. not (clashes_none (seen_span span) (mine is i) (seen_firsts before) (accs is i))) ∙ clash-exact span row_here.access before

      exact-span : span.start ≤ span.end → nat_lt o.bits span.end ≡ false → capped_span span ≡ span
      exact-span in_order past =
          let low : span.end ≤ o.bits = ltb-false o.bits span.end past in
          let start : capped span.start ≡ span.start = omega (arith, in_order, low, small) in
          let end : capped span.end ≡ span.end = omega (arith, low, small) in
          λ i. record { start = start i; end = end i }

      abbrev row_faults : Option FaultKind
      row_faults =
          first_of
          ((nat_lt o.bits span.end, FieldPastRegister)
          ∷ (clashes span row_here.access before, FieldOverlap)
          ∷ (is_reset_too_wide (number_in (row_value d (o.path ++ at ∷ []) h Reset)) span, ResetTooWide)
          ∷ [])

      one-tells : span.start ≤ span.end → (next : Found) (y : Option Fault) (place : List ℕ) → at ≡ place → (nat_lt o.bits span.end ≡ false → Tells next y)
          → Tells (faulty_or place (field_fault o.bits (seen_firsts before) done (seen_span (capped_span span)) q) (reset_or true place (seen_span (capped_span span)) q next)) (option_or (row_fault d row_here) y)
      one-tells in_order next y place there more =
          tells-same (faulty_or place (field_fault o.bits (seen_firsts before) done (seen_span (capped_span span)) q) (reset_or true place (seen_span (capped_span span)) q next))
          (option_or (fault_at place row_faults) y) (option_or (row_fault d row_here) y) ((λ i. option_or (fault_at (sym there i) (kind_fault (sym is-field i) d row_here)) y)) (by (nat_lt o.bits span.end) refl)
        where
          by : (past : Bool) → nat_lt o.bits span.end ≡ past
              → Tells (faulty_or place (field_fault o.bits (seen_firsts before) done (seen_span (capped_span span)) q) (reset_or true place (seen_span (capped_span span)) q next)) (option_or (fault_at place row_faults) y)
          by true past =
              let mine_past : field_fault o.bits (seen_firsts before) done (seen_span (capped_span span)) q ≡ Some FieldPastRegister =
              ap (λ z. first_of ((z, FieldPastRegister) ∷ (not (clashes_none (seen_span (capped_span span)) q.access (seen_firsts before) (map access_of done)), FieldOverlap) ∷ [])) (past-is o.bits span.end small ∙ past) in
              let row_past : row_faults ≡ Some FieldPastRegister =
              ap (λ z. first_of ((z, FieldPastRegister) ∷ (clashes span row_here.access before, FieldOverlap) ∷ (is_reset_too_wide (number_in (row_value d (o.path ++ at ∷ []) h Reset)) span, ResetTooWide) ∷ [])) past in
              subst (λ k. Tells (faulty_or place k (reset_or true place (seen_span (capped_span span)) q next)) (option_or (fault_at place row_faults) y)) (sym mine_past)
              (ap (λ k. option_or (fault_at place k) y) row_past)
          by false past =
              let exact = exact-span in_order past in
              let low : span.end ≤ o.bits = ltb-false o.bits span.end past in
              let few : span.end - span.start ≤ 128 = omega (arith, low, small) in
              let clash = clash-same exact in
              subst (λ z. Tells (faulty_or place (field_fault o.bits (seen_firsts before) done (seen_span z) q) (reset_or true place (seen_span z) q next)) (option_or (fault_at place row_faults) y)) (sym exact)
              (tells-same (faulty_or place (field_fault o.bits (seen_firsts before) done (seen_span span) q) (reset_or true place (seen_span span) q next))
              (option_or (fault_at place (first_of ((nat_lt o.bits span.end, FieldPastRegister) ∷ (not (clashes_none (seen_span span) q.access (seen_firsts before) (map access_of done)), FieldOverlap) ∷ (is_reset_too_wide (number_in (row_value d (o.path ++ at ∷ []) h Reset)) span, ResetTooWide) ∷ []))) y)
              (option_or (fault_at place row_faults) y)
              (λ i. option_or (fault_at place (first_of ((nat_lt o.bits span.end, FieldPastRegister) ∷ (clash i, FieldOverlap) ∷ (is_reset_too_wide (number_in (row_value d (o.path ++ at ∷ []) h Reset)) span, ResetTooWide) ∷ []))) y)
              (tells-field place (nat_lt o.bits span.end) (not (clashes_none (seen_span span) q.access (seen_firsts before) (map access_of done))) (has_room q.reset (seen_span span))
              (is_reset_too_wide (number_in (row_value d (o.path ++ at ∷ []) h Reset)) span) next y (reset-clear q q_reset exact few) (λ e g. more e)))

  -- if fields share no bit, they lie apart from each other and from those before them
  pub record StayApart (before : List (Span × Option Value)) (places : List Span) : Type 0 where
    pub apart : are_apart (map capped_span places) ≡ true
    pub clear : free meets before (map capped_span places) ≡ true

  assigned-tell : (ps : Parts) → ArePartsFound d b ps → (xs : List SeenInstance) → AreSeenParts b xs ps → (qs : List Part) → AreFieldParts qs ps
      → (before : List (Span × Option Value)) (done : List Part) → (ordered ≡ false → map access_of done ≡ map acc_of before) → (spans : List Span) → Fit o.mode 0 spans ps
      → fields_go (map (in_register ordered) (map capped_span spans)) ps rs ≡ true → (ordered ≡ true → StayApart before spans)
      → Tells (fields true b o.bits (seen_firsts before) done (map seen_span (map capped_span spans)) xs qs) (first_row_fault d (rows_in d o before spans ps))
  assigned-tell no_parts found [] seen qs made before done accs [] fits go apart = refl
  assigned-tell no_parts found [] seen qs made before done accs (span ∷ spans) fits go apart = refl
  assigned-tell no_parts found (x ∷ xs) seen qs made before done accs spans fits go apart = absurd seen
  assigned-tell (part at s h within rest) found [] seen qs made before done accs spans fits go apart = absurd seen
  assigned-tell (part at s h within rest) found (x ∷ xs) seen [] made before done accs spans fits go apart = absurd made
  assigned-tell (part at s h within rest) found (x ∷ xs) seen (q ∷ qs) made before done accs [] fits go apart = refl
  assigned-tell (part at s h within rest) found (x ∷ xs) seen (q ∷ qs) made before done accs (span ∷ spans) fits go apart =
      let l = layout_of o.mode h within in
      let r = judged_row d o before span at s h l in
      let part_seen : IsSeenPart b x at s h within = seen.0 in
      let fits_one : OneFits o.mode 0 span h within = fits.0 in
      let pass = field-passes at s h within rest (in_register ordered (capped_span span)) (map (in_register ordered) (map capped_span spans)) rs go in
      let behind_it = rows_in d o (before ++ (span, r.access) ∷ []) spans rest in
      let next = fields true b o.bits (seen_firsts before ++ seen_span (capped_span span) ∷ []) (done ++ q ∷ []) (map seen_span (map capped_span spans)) xs qs in
      let lone = λ (e : ordered ≡ true). free_first meets before (capped_span span) (map capped_span spans) (apart e).clear in
      let kind = field_there d none b m holds at s h within reg found.0 in
      lone-row-tells d r (rows_in d (inside r) [] l.spans within) behind_it
      (faulty_or (b ++ x.number ∷ []) (field_fault o.bits (seen_firsts before) done (seen_span (capped_span span)) q) (reset_or true (b ++ x.number ∷ []) (seen_span (capped_span span)) q next))
      (nothing_below d h.at (record { head = h; parts = within }) none found.0.component kind within found.1 (inside r) [] l.spans)
      (one-tells at s h within found.0 span pass.0 q made.0 made.1 before done accs lone fits_one.ordered next (first_row_fault d behind_it) (b ++ x.number ∷ []) part_seen.place
      (λ past.
      let exact = exact-span at s h within found.0 span pass.0 q made.0 made.1 before done accs lone fits_one.ordered past in
      let accs_more = λ (e : ordered ≡ false).
      sym (map-more access_of done q) ∙ (λ i. accs e i ++ mine at s h within found.0 span pass.0 q made.0 made.1 before done accs lone e i ∷ []) ∙ map-more acc_of before (span, r.access) in
      let firsts_more : seen_firsts before ++ seen_span (capped_span span) ∷ [] ≡ seen_firsts (before ++ (span, r.access) ∷ []) =
      ap (λ z. seen_firsts before ++ seen_span z ∷ []) exact ∙ map-more (λ (f : Span × Option Value). seen_span f.0) before (span, r.access) in
      let apart_more : ordered ≡ true → StayApart (before ++ (span, r.access) ∷ []) spans =
      λ e.
      let two = both (list_all (λ t. not (overlap t (capped_span span))) (map capped_span spans)) (are_apart (map capped_span spans)) (apart e).apart in
      record {
        apart = two.1;
        clear =
            free_more meets before (span, r.access) (map capped_span spans) (free_rest meets before (capped_span span) (map capped_span spans) (apart e).clear)
            (ap (λ z. list_all (λ t. not (overlap t z)) (map capped_span spans)) (sym exact) ∙ two.0);
      } in
      subst (λ zs. Tells (fields true b o.bits zs (done ++ q ∷ []) (map seen_span (map capped_span spans)) xs qs) (first_row_fault d behind_it)) (sym firsts_more)
      (assigned-tell rest found.2 xs seen.1 qs made.2 (before ++ (span, r.access) ∷ []) (done ++ q ∷ []) accs_more spans fits.1 pass.1 apart_more)))

  pub assigned-fields-tell : (ps : Parts) → ArePartsFound d b ps → (xs : List SeenInstance) → AreSeenParts b xs ps → (qs : List Part) → AreFieldParts qs ps → (spans : List Span) → Fit o.mode 0 spans ps
      → fields_go (map (in_register ordered) (map capped_span spans)) ps rs ≡ true → (ordered ≡ true → are_apart (map capped_span spans) ≡ true)
      → Tells (fields true b o.bits [] [] (map seen_span (map capped_span spans)) xs qs) (first_row_fault d (rows_in d o [] spans ps))
  assigned-fields-tell ps found xs seen qs made spans fits go apart =
      assigned-tell ps found xs seen qs made [] [] (λ e. refl) spans fits go (λ e. record { apart = apart e; clear = refl })
