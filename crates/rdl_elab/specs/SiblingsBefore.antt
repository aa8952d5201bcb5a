-- The siblings before an instance, which aren't kept where all instances of the level stand in order.
-- own: SystemRDL 2.0 says which places may not overlap, not how that is found out.
use Rattle.std.specs.Prelude.{◌≡◌, ℕ, ◌&&◌, nat_le, max, Bool, true, false, List, [], ◌∷◌, ◌++◌, Option, Some, None}
use Rattle.rdl_elab.specs.declared.layout.Span.{Span}
use Rattle.rdl_elab.specs.declared.rows.siblings.Sibling.{Sibling}
use Rattle.rdl_elab.specs.FinishedRows.{overlaps_before}

-- each span begins where those before it end, or behind that
abbrev pub in_order : ℕ → List Span → Bool
in_order end [] = true
in_order end (span ∷ spans) = nat_le end span.start && in_order (max end span.end) spans

-- these stand before an instance; where they aren't kept, none of them overlaps it
abbrev pub AreBefore : Option (List Sibling) → Span → List Sibling → Type 0
AreBefore None span before = overlaps_before span before ≡ false
AreBefore (Some kept) span before = kept ≡ before

-- none are kept yet; none will be where all stand in order
abbrev pub AreFirst : Option (List Sibling) → List Span → Type 0
AreFirst None spans = in_order 0 spans ≡ true
AreFirst (Some kept) spans = kept ≡ []

-- one more, where they are kept
abbrev pub with_one : Option (List Sibling) → Sibling → Option (List Sibling)
with_one None sibling = None
with_one (Some kept) sibling = Some (kept ++ sibling ∷ [])
