-- A dynamic assignment that is harmless by what is kept is harmless.
use Rattle.std.proofs.Common.{◌≡◌, ℕ, zero, suc, ◌+◌, ◌-◌, Bool, true, false, List, [], ◌∷◌, map, Option, Some, None, bytes_eq, if◌then◌else◌, refl, sym, ap, subst, ◌∙◌, arith}
use Rattle.std.specs.Prelude.{not, slice_get, codes}
use Rattle.std.proofs.lemmas.Slice.Eq.{bytes_eq-Decides}
use Rattle.rdl_tree.specs.Items.{Items}
use Rattle.rdl_tree.specs.declared.shell.Kind.{Kind}
use Rattle.rdl_tree.specs.declared.shell.Kind.TheVariants.{Addrmap, Regfile, Reg, Field}
use Rattle.rdl_tree.specs.declared.value.Value.{Value}
use Rattle.rdl_tree.specs.declared.value.Value.TheVariants as value
use Rattle.rdl_scope.specs.Closed.{Head, Parts, no_parts, part, component}
use Rattle.rdl_elab.specs.declared.layout.Span.{Span}
use Rattle.rdl_elab.specs.Faults.{is_reset_too_wide}
use Rattle.rdl_elab.specs.Found.{ArePartsFound}
use Rattle.rdl_elab.specs.Layouts.{number_in}
use Rattle.rdl_seen.specs.Inside as seen
use Rattle.rdl_seen.specs.Inside.{Spots, Inside, no_instances, how_many, Found, find, End, Asked, order, room, asked, has_room_at, verdict_of, is_fitting_end}
use Rattle.rdl_seen.specs.Layouts as lay
use Rattle.rdl_seen.specs.Node.{is_ordered}
use Rattle.rdl_seen.specs.Values.{reset_bits}
use Rattle.node_laws.specs.Laid.{seen_span}
use Rattle.node_laws.specs.Seen.{layouts_seen, spots_seen, behind, within_seen}
use Rattle.sound_laws.specs.Harmless.{kept_layout, are_apart, Spot, elsewhere, in_register, is_fitting, field_spans, all_elsewhere, spots_by, spots_in}
use Rattle.sound_laws.specs.Verdicts.{Stand, stand_named, is_end_fitting}
use Rattle.sound_nodes.proofs.Fields.{same-apart, fits}
use Rattle.sound_nodes.proofs.Unique.{with_part, AreFresh}

-- ---- The instance of a name, among those that a body has so far.

stays : (name : List ℕ) (ps : Parts) (before : Inside) (f : Found) → AreFresh ps before → find name before ≡ Some f → find name (behind ps before) ≡ Some f
stays name no_parts before f fresh h = h
stays name (part at s h inside rest) before f fresh is = stays name rest (with_part s h inside before) f fresh.1 (by (bytes_eq s.name name) refl)
  where
    by : (t : Bool) → bytes_eq s.name name ≡ t
        → (if t then Some (record { number = how_many before; within = within_seen (record { head = h; parts = inside }) }) else find name before) ≡ Some f
    by true same = let none : find name before ≡ None = ap (λ n. find n before) (sym ((bytes_eq-Decides s.name name).0 same)) ∙ fresh.0 in absurd cc
    by false other = is

-- it is found with its number and what is inside it, and stands at the spot of that number
pub record IsMet (o : Option Found) (base : ℕ) (spots : List Spot) (e : Stand) : Type 0 where
  pub number : ℕ
  pub found : o ≡ Some (record { number = base + number; within = within_seen (record { head = e.head; parts = e.inside }) })
  pub spot : slice_get spots number ≡ Some e.spot

first-number : (k : ℕ) → k ≡ k + 0
first-number k = omega arith

next-number : (k n : ℕ) → 1 + k + n ≡ k + suc n
next-number k n = omega arith

pub met : (name : List ℕ) (ps : Parts) (spots : List Spot) (before : Inside) (e : Stand) → AreFresh ps before → find name before ≡ None → stand_named name spots ps ≡ Some e
    → IsMet (find name (behind ps before)) (how_many before) spots e
met name no_parts spots before e fresh none is = absurd cc
met name (part at s h inside rest) [] before e fresh none is = absurd cc
met name (part at s h inside rest) (spot ∷ spots) before e fresh none is =
    by (λ n g. met name rest spots (with_part s h inside before) e fresh.1 n g) (bytes_eq s.name name) refl is
  where
    by : (find name (with_part s h inside before) ≡ None → stand_named name spots rest ≡ Some e
        → IsMet (find name (behind rest (with_part s h inside before))) (1 + how_many before) spots e)
        → (t : Bool) → bytes_eq s.name name ≡ t → (if t then Some (record { spot = spot; head = h; inside = inside }) else stand_named name spots rest) ≡ Some e
        → IsMet (find name (behind rest (with_part s h inside before))) (how_many before) (spot ∷ spots) e
    by later true same g =
        let stand : ◌≡◌ {A = Stand} (record { spot = spot; head = h; inside = inside }) e = cc in
        let here : find name (with_part s h inside before) ≡ Some (record { number = how_many before; within = within_seen (record { head = h; parts = inside }) }) =
        ap (λ t. if t then Some (record { number = how_many before; within = within_seen (record { head = h; parts = inside }) }) else find name before) same in
        subst (IsMet (find name (behind rest (with_part s h inside before))) (how_many before) (spot ∷ spots)) stand
        (record {
          number = 0;
          found =
              stays name rest (with_part s h inside before) (record { number = how_many before; within = within_seen (record { head = h; parts = inside }) }) fresh.1 here
              ∙ (λ i. Some (record { number = first-number (how_many before) i; within = within_seen (record { head = h; parts = inside }) }));
          spot = refl;
        })
    by later false other g =
        let there = later (ap (λ t. if t then Some (record { number = how_many before; within = within_seen (record { head = h; parts = inside }) }) else find name before) other ∙ none) g in
        record {
          number = suc there.number;
          found = there.found ∙ (λ i. Some (record { number = next-number (how_many before) there.number i; within = within_seen (record { head = e.head; parts = e.inside }) }));
          spot = there.spot;
        }

-- ---- What is assigned at an end.

-- nobody asks for another property
unasked : (p : List ℕ) (v : Value) (spot : Spot) → asked p v ≡ None → is_fitting spot p v ≡ true
unasked p v elsewhere e = refl
unasked p v (in_register apart span) e = by (bytes_eq p (codes "sw")) (bytes_eq p (codes "reset")) e
  where
    by : (access reset : Bool) → (if access then Some order else (if reset then Some (room (reset_bits v)) else None)) ≡ None
        → (if reset then not (is_reset_too_wide (number_in (Some v)) span) else (if access then apart else true)) ≡ true
    by true reset e = absurd cc
    by false true e = absurd cc
    by false false e = refl

pub unasked-end : (p : List ℕ) (v : Value) (o : Option Stand) → asked p v ≡ None → is_end_fitting p v o ≡ true
unasked-end p v None e = refl
unasked-end p v (Some e) is = unasked p v e.spot is

-- a value that the bits hold
holds : (v : Value) (span : Span) → seen.has_room (reset_bits v) (seen_span span) ≡ true → not (is_reset_too_wide (number_in (Some v)) span) ≡ true
holds (value.Number n) span h = fits n (span.end - span.start) h
holds (value.Text t) span h = refl
holds (value.Bool b) span h = refl
holds (value.Word w) span h = refl

not-both : (p : List ℕ) → bytes_eq p (codes "sw") ≡ true → bytes_eq p (codes "reset") ≡ false
not-both p e = ap (λ q. bytes_eq q (codes "reset")) ((bytes_eq-Decides p (codes "sw")).0 e)

field-fits : (p : List ℕ) (v : Value) (a : Asked) (spans : List Span) (k : ℕ) (span : Span) → asked p v ≡ Some a → slice_get spans k ≡ Some span
    → seen.is_fitting a (record { spots = record { spans = map seen_span spans; is_ordered = lay.are_apart (map seen_span spans) }; number = k }) ≡ true
    → is_fitting (in_register (are_apart spans) span) p v ≡ true
field-fits p v a spans k span asks there fit = by (bytes_eq p (codes "sw")) (bytes_eq p (codes "reset")) (not-both p) asks
  where
    at : slice_get (map seen_span spans) k ≡ Some (seen_span span)
    at = got spans k span there
      where
        got : (xs : List Span) (n : ℕ) (x : Span) → slice_get xs n ≡ Some x → slice_get (map seen_span xs) n ≡ Some (seen_span x)
        got [] n x e = absurd cc
        got (y ∷ ys) zero x e = let same : y ≡ x = cc in ap (λ z. Some (seen_span z)) same
        got (y ∷ ys) (suc n) x e = got ys n x e

    by : (access reset : Bool) → (access ≡ true → reset ≡ false) → (if access then Some order else (if reset then Some (room (reset_bits v)) else None)) ≡ Some a
        → (if reset then not (is_reset_too_wide (number_in (Some v)) span) else (if access then are_apart spans else true)) ≡ true
    by true true apart e = let no : true ≡ false = apart refl in absurd cc
    by true false apart e =
        let is : order ≡ a = cc in
        sym (same-apart spans) ∙ subst (λ z. seen.is_fitting z (record { spots = record { spans = map seen_span spans; is_ordered = lay.are_apart (map seen_span spans) }; number = k }) ≡ true) (sym is) fit
    by false true apart e =
        let is : room (reset_bits v) ≡ a = cc in
        let fit_is : has_room_at (reset_bits v) (slice_get (map seen_span spans) k) ≡ true =
        subst (λ z. seen.is_fitting z (record { spots = record { spans = map seen_span spans; is_ordered = lay.are_apart (map seen_span spans) }; number = k }) ≡ true) (sym is) fit in
        holds v span (ap (has_room_at (reset_bits v)) (sym at) ∙ fit_is)
    by false false apart e = absurd cc

-- at an instance of a component
record IsSpan (spans : List Span) (apart : Bool) (k : ℕ) (spot : Spot) : Type 0 where
  span : Span
  there : slice_get spans k ≡ Some span
  is : in_register apart span ≡ spot

span-there : (apart : Bool) (spans : List Span) (k : ℕ) (spot : Spot) → slice_get (map (in_register apart) spans) k ≡ Some spot → IsSpan spans apart k spot
span-there apart [] k spot e = absurd cc
span-there apart (s ∷ ss) zero spot e = record { span = s; there = refl; is = cc }
span-there apart (s ∷ ss) (suc k) spot e = let more = span-there apart ss k spot e in record { span = more.span; there = more.there; is = more.is }

elsewhere-there : (ps : Parts) (k : ℕ) (spot : Spot) → slice_get (all_elsewhere ps) k ≡ Some spot → elsewhere ≡ spot
elsewhere-there no_parts k spot e = absurd cc
elsewhere-there (part at s h inside rest) zero spot e = cc
elsewhere-there (part at s h inside rest) (suc k) spot e = elsewhere-there rest k spot e

pub end-fits : (p : List ℕ) (v : Value) (a : Asked) (h : Head) (inside : Parts) (k : ℕ) (spot : Spot) → asked p v ≡ Some a
    → seen.is_fitting a (record { spots = spots_seen (record { head = h; parts = inside }); number = k }) ≡ true
    → slice_get (spots_in kept_layout h inside) k ≡ Some spot → is_fitting spot p v ≡ true
unfolding layouts_seen
end-fits p v a h inside k spot asks fit there = by h.kind refl
  where
    other : slice_get (all_elsewhere inside) k ≡ Some spot → is_fitting spot p v ≡ true
    other e = ap (λ z. is_fitting z p v) (sym (elsewhere-there inside k spot e))

    by : (kind : Kind) → h.kind ≡ kind → is_fitting spot p v ≡ true
    by Reg is =
        let spans = field_spans kept_layout h inside in
        let found = span-there (are_apart spans) spans k spot (ap (λ z. slice_get (spots_by z spans inside) k) (sym is) ∙ there) in
        let fit_is : seen.is_fitting a (record { spots = record { spans = map seen_span spans; is_ordered = lay.are_apart (map seen_span spans) }; number = k }) ≡ true =
        subst
        (λ z. seen.is_fitting a (record { spots = record { spans = map seen_span spans; is_ordered = is_ordered z (layouts_seen (record { head = h; parts = inside })) }; number = k }) ≡ true)
        is fit in
        ap (λ z. is_fitting z p v) (sym found.is) ∙ field-fits p v a spans k found.span asks found.there fit_is
    by Addrmap is = other (ap (λ z. slice_get (spots_by z (field_spans kept_layout h inside) inside) k) (sym is) ∙ there)
    by Regfile is = other (ap (λ z. slice_get (spots_by z (field_spans kept_layout h inside) inside) k) (sym is) ∙ there)
    by Field is = other (ap (λ z. slice_get (spots_by z (field_spans kept_layout h inside) inside) k) (sym is) ∙ there)

-- an instance that stands there has a component of the description
pub stand-one : (d : Items) (b name : List ℕ) (spots : List Spot) (ps : Parts) (e : Stand) → ArePartsFound d b ps → stand_named name spots ps ≡ Some e
    → component d e.head.at ≡ Some (record { head = e.head; parts = e.inside })
stand-one d b name spots no_parts e found is = absurd cc
stand-one d b name [] (part at s h inside rest) e found is = absurd cc
stand-one d b name (spot ∷ spots) (part at s h inside rest) e found is = by (λ g. stand-one d b name spots rest e found.2 g) (bytes_eq s.name name) is
  where
    by : (stand_named name spots rest ≡ Some e → component d e.head.at ≡ Some (record { head = e.head; parts = e.inside }))
        → (t : Bool) → (if t then Some (record { spot = spot; head = h; inside = inside }) else stand_named name spots rest) ≡ Some e
        → component d e.head.at ≡ Some (record { head = e.head; parts = e.inside })
    by later true g =
        let stand : ◌≡◌ {A = Stand} (record { spot = spot; head = h; inside = inside }) e = cc in
        subst (λ (z : Stand). component d z.head.at ≡ Some (record { head = z.head; parts = z.inside })) stand found.0.component
    by later false g = later g
