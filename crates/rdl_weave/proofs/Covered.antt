-- What is among the spans that were put in stands in the text.
use Rattle.std.proofs.Common.{◌≡◌, ℕ, zero, suc, ◌<◌, Bool, true, false, cond, ◌||◌, List, [], ◌∷◌, ◌++◌, length, take, drop, refl, ap, sym, ◌∙◌, subst, append_assoc, arith, IsTrue}
use Rattle.std.specs.Prelude.{not, slice_index_or}
use Rattle.std.proofs.lemmas.Bool.{and_parts, eqb-true, false≢true}
use Rattle.std.proofs.lemmas.List.{append-nil}
use Rattle.std.specs.List.{All, list_all}
use Rattle.std.specs.Prelude.{nat_eq}
use Rattle.rdl_origin.specs.View as origins
use Rattle.rdl_origin.specs.declared.origin.Origin.{Origin}
use Rattle.rdl_source.specs.Beside.{ends_line, line}
use Rattle.rdl_source.specs.Laid.{Bare, Laid, ended, bare, braced}
use Rattle.rdl_source.specs.LaidText.{part}
use Rattle.rdl_source.specs.declared.span.Span.{Span}
use Rattle.rdl_weave.specs.Coarse.{Piece, old, new, text_of, spans_of, is_span, has, covers_one, covers}
use Rattle.rdl_weave.specs.Keeping.{core, holds_items, KeepsOne, Keeps}
use Rattle.rdl_weave.specs.Standing.{Occurs, Stands}
use Rattle.rdl_weave.specs.Untouched.{is_untouched}

occurs_line : (s rest : List ℕ) → Occurs s (line s ++ rest)
occurs_line s rest = by (ends_line s)
  where
    by : (b : Bool) → Occurs s (cond b s (s ++ (10 ∷ [])) ++ rest)
    by true = record { before = []; behind = rest; parts = refl }
    by false = record { before = []; behind = (10 ∷ []) ++ rest; parts = append_assoc s (10 ∷ []) rest }

occurs_behind : (s front rest : List ℕ) → Occurs s rest → Occurs s (front ++ rest)
occurs_behind s front rest o =
    record { before = front ++ o.before; behind = o.behind; parts = ap (λ t. front ++ t) o.parts ∙ sym (append_assoc front o.before (s ++ o.behind)) }

same_part : (source : List ℕ) (s t : Span) → is_span s t ≡ true → part source t ≡ part source s
same_part source s t e =
    let both = and_parts (nat_eq t.from s.from) (nat_eq t.to s.to) e in
    λ i. part source (record { from = eqb-true t.from s.from both.0 i; to = eqb-true t.to s.to both.1 i })

found : (source : List ℕ) (s : Span) (ps : List Piece) → has (spans_of ps) s ≡ true → Occurs (part source s) (text_of source ps)
found source s [] e = absurd (false≢true e)
found source s (old t ∷ ps) e = by (is_span s t) refl (λ h. found source s ps h) e
  where
    by : (b : Bool) → is_span s t ≡ b → (has (spans_of ps) s ≡ true → Occurs (part source s) (text_of source ps)) → (b || has (spans_of ps) s) ≡ true → Occurs (part source s) (line (part source t) ++ text_of source ps)
    by true q f h = subst (λ x. Occurs x (line (part source t) ++ text_of source ps)) (same_part source s t q) (occurs_line (part source t) (text_of source ps))
    by false q f h = occurs_behind (part source s) (line (part source t)) (text_of source ps) (f h)
found source s (new t ∷ ps) e = occurs_behind (part source s) t (text_of source ps) (found source s ps e)

stands : (source text : List ℕ) (s : Span) → Occurs (part source s) text → Stands source s text
stands source text s o = record {
  core = part source s;
  trims = record { front = []; back = []; blank_front = tt; blank_back = tt; parts = sym (append-nil (part source s)) };
  there = o;
}

-- ---- All that has to stand.

keeps_one : (source sizes text : List ℕ) (spans : List Span) (b : Bare) (os : List Origin) (inside : Bool) (I : Type 0) → ((s : Span) → has spans s ≡ true → Stands source s text) → (inside ≡ true → I)
    → covers_one spans sizes b os inside ≡ true → KeepsOne source sizes text b os I
keeps_one source sizes text spans b os inside I f g h =
    let both = and_parts (has spans b.float) _ h in
    let rest = by (is_untouched sizes b.items os) both.1 in
    (f b.float both.0, rest.0, rest.1)
  where
    by : (u : Bool) → cond u (has spans (core b)) inside ≡ true → (IsTrue u → Stands source (core b) text) × (u ≡ false → I)
    by true h = ((λ t. f (core b) h), (λ e. absurd (false≢true (sym e))))
    by false h = ((λ t. absurd (false≢true t)), (λ e. g h))

passed : (p : Origin → Bool) (os : List Origin) → list_all p os ≡ true → (k : ℕ) (d : Origin) → k < length os → p (slice_index_or os k d) ≡ true
passed p [] h k d low = absurd (omega (arith, low))
passed p (o ∷ os) h zero d low = (and_parts (p o) (list_all p os) h).0
passed p (o ∷ os) h (suc k) d low = passed p os (and_parts (p o) (list_all p os) h).1 k d (omega (arith, low))

implied : (a b : Bool) → (not a || b) ≡ true → a ≡ true → b ≡ true
implied true b h e = h
implied false b h e = absurd (false≢true e)

copies : (P : Origin → Type 0) (q : Origin → Bool) (os : List Origin) → ((o : Origin) → q o ≡ true → P o) → list_all (λ o. not (holds_items o) || q o) os ≡ true → All (λ o. IsTrue (holds_items o) → P o) os
copies P q os f h = λ k d low here.
    f (slice_index_or os k d) (implied (holds_items (slice_index_or os k d)) (q (slice_index_or os k d)) (passed (λ o. not (holds_items o) || q o) os h k d low) here)

covered : (source sizes text : List ℕ) (spans : List Span) (l : Laid) (os : List Origin) → ((s : Span) → has spans s ≡ true → Stands source s text) → covers spans sizes l os ≡ true → Keeps source sizes text l os
covered source sizes text spans (ended last) os f h = f last h
covered source sizes text spans (bare b rest) os f h =
    let both = and_parts (covers_one spans sizes b (take b.items os) true) _ h in
    (keeps_one source sizes text spans b (take b.items os) true (Unit {0}) f (λ e. tt) both.0, covered source sizes text spans rest (drop b.items os) f both.1)
covered source sizes text spans (braced b br body rest) os f h =
    let own = take b.items os in
    let inside = list_all (λ o. not (holds_items o) || covers spans sizes body (origins.list_of o.inside)) own in
    let both = and_parts (covers_one spans sizes b own inside) _ h in (
      keeps_one source sizes text spans b own inside (All (λ o. IsTrue (holds_items o) → Keeps source sizes text body (origins.list_of o.inside)) own) f
          (λ e. copies (λ o. Keeps source sizes text body (origins.list_of o.inside)) (λ o. covers spans sizes body (origins.list_of o.inside)) own (λ o k. covered source sizes text spans body (origins.list_of o.inside) f k) e) both.0,
      covered source sizes text spans rest (drop b.items os) f both.1,
    )

pub keeps_covered : (source sizes : List ℕ) (ps : List Piece) (l : Laid) (os : List Origin) → covers (spans_of ps) sizes l os ≡ true → Keeps source sizes (text_of source ps) l os
keeps_covered source sizes ps l os h =
    covered source sizes (text_of source ps) (spans_of ps) l os (λ s e. stands source (text_of source ps) s (found source s ps e)) h
