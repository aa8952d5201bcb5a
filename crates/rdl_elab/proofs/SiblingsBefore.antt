-- The siblings before an instance, which aren't kept where all instances of the level stand in order.
use Rattle.std.proofs.Common.{◌≡◌, ℕ, zero, suc, ◌+◌, ◌≤◌, List, [], ◌∷◌, ◌++◌, take, Bool, true, false, Option, Some, None, refl, ap, sym, subst, ◌∙◌, arith}
use Rattle.std.specs.Prelude.{nat_lt, nat_le, max, map, slice_get, unwrap_or, ◌&&◌, ◌||◌, not}
use Rattle.std.proofs.lemmas.Bool.{leb-true}
use Rattle.std.proofs.lemmas.List.{map-append, take_more}
use Rattle.std.proofs.lemmas.Option.{slice_get_within, get_or_from_slice_get}
use Rattle.rdl_tree.specs.declared.fault.FaultKind.TheVariants.{FieldPastRegister, FieldOverlap, ResetTooWide}
use Rattle.rdl_tree.specs.declared.property.Property.TheVariants.{Reset}
use Rattle.rdl_scope.specs.ItemFaults.{first_of}
use Rattle.rdl_elab.specs.declared.layout.Span.{Span}
use Rattle.rdl_elab.specs.declared.row.PropertyValue.{PropertyValue}
use Rattle.rdl_elab.specs.declared.row.Row.{Row}
use Rattle.rdl_elab.specs.declared.rows.siblings.Sibling.{Sibling}
use Rattle.rdl_elab.specs.declared.walk.finished.Finished.{Finished}
use Rattle.rdl_elab.specs.Kept.{Part}
use Rattle.rdl_elab.specs.Faults.{overlap, is_reset_too_wide}
use Rattle.rdl_elab.specs.FinishedRows.{Surroundings, finished_rows, told, field_fault, overlaps_before, clashes_before, share}
use Rattle.rdl_elab.specs.Layouts.{number_in}
use Rattle.rdl_elab.specs.Reaches.{value_under}
use Rattle.rdl_elab.specs.SiblingsBefore.{in_order, AreBefore, AreFirst, with_one}
use Rattle.rdl_elab.proofs.Watermarks.{apart}
use Rattle.rdl_elab.proofs.Telling.{deeper, left}

-- a field that overlaps none before it clashes with none
no-clash : (a : Sibling) (before : List Sibling) → overlaps_before a.span before ≡ false → clashes_before a before ≡ false
no-clash a [] h = refl
no-clash a (b ∷ before) h = by_first (overlap a.span b.span) h (no-clash a before)
  where
    by_first : (p : Bool) → p || overlaps_before a.span before ≡ false → (overlaps_before a.span before ≡ false → clashes_before a before ≡ false)
        → (p && not (share a b)) || clashes_before a before ≡ false
    by_first true h k = absurd cc
    by_first false h k = k h

-- what is wrong with a field that overlaps none before it
pub field-alone : (bits : ℕ) (a : Sibling) (before : List Sibling) (values : List PropertyValue) (past wide : Bool) → overlaps_before a.span before ≡ false
    → nat_lt bits a.span.end ≡ past → is_reset_too_wide (number_in (value_under Reset values)) a.span ≡ wide
    → first_of ((past, FieldPastRegister) ∷ (wide, ResetTooWide) ∷ []) ≡ field_fault bits a before values
field-alone bits a before values past wide h e k =
    ap (λ b. first_of ((b, FieldPastRegister) ∷ (wide, ResetTooWide) ∷ [])) (sym e)
    ∙ ap (λ b. first_of ((nat_lt bits a.span.end, FieldPastRegister) ∷ (b, ResetTooWide) ∷ [])) (sym k)
    ∙ ap (λ b. first_of ((nat_lt bits a.span.end, FieldPastRegister) ∷ (b, FieldOverlap) ∷ (is_reset_too_wide (number_in (value_under Reset values)) a.span, ResetTooWide) ∷ []))
    (sym (no-clash a before h))

-- spans that end before a number, or at it
abbrev EndBefore : ℕ → List Span → Type 0
EndBefore n [] = Unit {0}
EndBefore n (span ∷ spans) = (span.end ≤ n) × EndBefore n spans

both : (a b : Bool) → a && b ≡ true → (a ≡ true) × (b ≡ true)
both true b e = (refl, e)
both false b e = absurd cc

-- in spans in order, those before one end where it begins, or before
ordered : (end : ℕ) (spans : List Span) → in_order end spans ≡ true → (i : ℕ) (span : Span) → slice_get spans i ≡ Some span → (end ≤ span.start) × EndBefore span.start (take i spans)
ordered end [] e i span s = absurd cc
ordered end (first ∷ spans) e zero span s =
    let same : first ≡ span = ap (λ o. unwrap_or o first) s in
    let here : end ≤ first.start = leb-true end first.start (both (nat_le end first.start) (in_order (max end first.end) spans) e).0 in
    (subst (λ x. end ≤ x.start) same here, tt)
ordered end (first ∷ spans) e (suc i) span s =
    let rest = ordered (max end first.end) spans (both (nat_le end first.start) (in_order (max end first.end) spans) e).1 i span s in
    (omega (arith, rest.0), (omega (arith, rest.0), rest.1))

all-apart : (span : Span) (before : List Sibling) → EndBefore span.start (map (λ (b : Sibling). b.span) before) → overlaps_before span before ≡ false
all-apart span [] h = refl
all-apart span (b ∷ before) h =
    ap (λ x. x || overlaps_before span before) (apart span b.span span.start h.0 (omega arith)) ∙ all-apart span before h.1

-- these are before an instance, as far as their places say
abbrev ArePlaced : List Span → ℕ → List Sibling → Type 0
ArePlaced spans i before = map (λ (b : Sibling). b.span) before ≡ take i spans

none-overlap : (spans : List Span) (i : ℕ) (span : Span) (before : List Sibling) → in_order 0 spans ≡ true → slice_get spans i ≡ Some span → ArePlaced spans i before → overlaps_before span before ≡ false
none-overlap spans i span before e s placed = all-apart span before (subst (EndBefore span.start) (sym placed) (ordered 0 spans e i span s).1)

-- one more instance is before the next one
one-placed : (spans : List Span) (i : ℕ) (before : List Sibling) (b : Sibling) → slice_get spans i ≡ Some b.span → ArePlaced spans i before → ArePlaced spans (i + 1) (before ++ b ∷ [])
one-placed spans i before b s placed =
    map-append (λ (x : Sibling). x.span) before (b ∷ [])
    ∙ ap (λ xs. xs ++ b.span ∷ []) placed
    ∙ ap (λ x. take i spans ++ x ∷ []) (sym (get_or_from_slice_get spans i b.span b.span s))
    ∙ sym (take_more spans i b.span (slice_get_within spans i b.span s))

-- these stand before an instance of the level, all of them if they are kept
abbrev pub AreKept : Option (List Sibling) → List Span → ℕ → List Sibling → Type 0
AreKept None spans i before = (in_order 0 spans ≡ true) × ArePlaced spans i before
AreKept (Some kept) spans i before = kept ≡ before

pub first-kept : (siblings : Option (List Sibling)) (spans : List Span) → AreFirst siblings spans → AreKept siblings spans 0 []
first-kept None spans h = (h, refl)
first-kept (Some kept) spans h = h

pub kept-here : (siblings : Option (List Sibling)) (spans : List Span) (i : ℕ) (span : Span) (before : List Sibling) → slice_get spans i ≡ Some span → AreKept siblings spans i before → AreBefore siblings span before
kept-here None spans i span before s k = none-overlap spans i span before k.0 s k.1
kept-here (Some kept) spans i span before s k = k

pub one-kept : (siblings : Option (List Sibling)) (spans : List Span) (i : ℕ) (before : List Sibling) (b : Sibling) → slice_get spans i ≡ Some b.span → AreKept siblings spans i before
    → AreKept (with_one siblings b) spans (i + 1) (before ++ b ∷ [])
one-kept None spans i before b s k = (k.0, one-placed spans i before b s k.1)
one-kept (Some kept) spans i before b s k = ap (λ xs. xs ++ b ∷ []) k

-- the rows of the instances before one of a level are told, wherever it is
pub record AreTold (n : ℕ) (fs : List Finished) (o : Surroundings) (spans : List Span) (parts : List Part) (initial : List Row) (i : ℕ) (rows : List Row) (siblings : Option (List Sibling)) : Type 0 where
  pub before : List Sibling
  pub kept : AreKept siblings spans i before
  pub tells : told rows (left fs (deeper n fs) o spans parts i before) ≡ told initial (finished_rows n fs o spans parts)
