-- One instance after another.
use Rattle.std.proofs.Common.{◌≡◌, ℕ, suc, ◌+◌, ◌-◌, ◌*◌, ◌<◌, ◌≤◌, List, [], ◌∷◌, ◌++◌, map, drop, length, refl, ap, sym, ◌∙◌, arith, Option, Some, None, append_assoc, get_or}
use Rattle.std.proofs.Math.Seq.{drop-cons}
use Rattle.std.proofs.lemmas.List.{drop_all}
use Rattle.std.specs.Prelude.{max, unwrap_or}
use Rattle.rdl_elab.specs.declared.layout.Mode.{Mode}
use Rattle.rdl_elab.specs.declared.layout.Placement.{Placement}
use Rattle.rdl_elab.specs.declared.layout.Layout.{Layout}
use Rattle.rdl_elab.specs.declared.layout.placing.Placing.{Placing}
use Rattle.rdl_elab.specs.Placing.{with_behind}
use Rattle.rdl_elab.specs.declared.layout.Span.{Span}
use Rattle.rdl_elab.specs.Size.{end_of, greatest_end, greatest_access}
use Rattle.rdl_elab.specs.Start.{mode_alignment, start_of, start_by, aligned_start, spans_from}
use Rattle.rdl_elab.specs.Layouts.{container}
use Rattle.rdl_elab.specs.Capped.{capped, capped_span, capped_layout}
use Rattle.rdl_elab.proofs.CappedNumbers.{Alike, next_alike}

start_alike : (all : Option ℕ) (m : Mode) (e f : ℕ) (p : Placement) → Alike e f → Alike (start_of all m e p) (start_of all m f p)
start_alike all m e f p h = by_address p.address p.align
  where
    by_align : (o : Option ℕ) → Alike (aligned_start all m e p o) (aligned_start all m f p o)
    by_align (Some a) = next_alike e f (max 1 a) (max 1 a) 1 (omega arith) (omega arith) (omega arith) h refl
    by_align None = next_alike e f (max 1 (mode_alignment m p)) (max 1 (mode_alignment m p)) (max 1 (unwrap_or all 1)) (omega arith) (omega arith) (omega arith) h refl

    at_address : (o q : Option ℕ) → ((r : Option ℕ) → Alike (aligned_start all m e p r) (aligned_start all m f p r)) → Alike (start_by all m e p o) (start_by all m f p o)
    at_address (Some a) q g = refl
    at_address None q g = g p.align

    by_address : (o q : Option ℕ) → Alike (start_by all m e p o) (start_by all m f p o)
    by_address o q = at_address o q by_align

end_alike : (x y : ℕ) (p : Placement) → Alike x y → Alike (end_of x p) (end_of y p)
end_alike x y p h = further ((p.elements - 1) * unwrap_or p.stride p.size) p.size
  where
    further : (a b : ℕ) → Alike (x + a + b) (y + a + b)
    further a b = omega arith

twice_capped : (x : ℕ) → Alike (capped x) x
twice_capped x = omega arith

-- from x up to y
abbrev pub to_span : ℕ → ℕ → Span
to_span x y = record { start = x; end = y }

spans_alike : (all : Option ℕ) (m : Mode) (e f : ℕ) (ps : List Placement) → Alike e f → map capped_span (spans_from all m e ps) ≡ map capped_span (spans_from all m f ps)
spans_alike all m e f [] h = refl
spans_alike all m e f (p ∷ ps) h =
    let from = start_alike all m e f p h in
    let to = end_alike (start_of all m e p) (start_of all m f p) p from in
    ap (λ x. to_span x (capped (end_of (start_of all m e p) p)) ∷ map capped_span (spans_from all m (end_of (start_of all m e p) p) ps)) from
    ∙ ap (λ x. to_span (capped (start_of all m f p)) x ∷ map capped_span (spans_from all m (end_of (start_of all m e p) p) ps)) to
    ∙ ap (λ xs. to_span (capped (start_of all m f p)) (capped (end_of (start_of all m f p) p)) ∷ xs) (spans_alike all m (end_of (start_of all m e p) p) (end_of (start_of all m f p) p) ps to)

-- what an instance that is placed adds
pub spans_step : (all : Option ℕ) (m : Mode) (e from to : ℕ) (p : Placement) (ps : List Placement) → from ≡ capped (start_of all m e p) → to ≡ capped (end_of from p)
    → map capped_span (spans_from all m e (p ∷ ps)) ≡ to_span from to ∷ map capped_span (spans_from all m to ps)
spans_step all m e from to p ps h g =
    let near : Alike from (start_of all m e p) = ap capped h ∙ twice_capped (start_of all m e p) in
    let end : to ≡ capped (end_of (start_of all m e p) p) = g ∙ end_alike from (start_of all m e p) p near in
    let far : Alike to (end_of (start_of all m e p) p) = ap capped end ∙ twice_capped (end_of (start_of all m e p) p) in
    ap (λ x. to_span x (capped (end_of (start_of all m e p) p)) ∷ map capped_span (spans_from all m (end_of (start_of all m e p) p) ps)) (sym h)
    ∙ ap (λ x. to_span from x ∷ map capped_span (spans_from all m (end_of (start_of all m e p) p) ps)) (sym end)
    ∙ ap (λ xs. to_span from to ∷ xs) (sym (spans_alike all m to (end_of (start_of all m e p) p) ps far))

pub greatest_capped : (ss : List Span) → greatest_end (map capped_span ss) ≡ capped (greatest_end ss)
greatest_capped [] = refl
greatest_capped (s ∷ ss) = ap (λ x. max (capped s.end) x) (greatest_capped ss) ∙ both s.end (greatest_end ss)
  where
    both : (x y : ℕ) → max (capped x) (capped y) ≡ capped (max x y)
    both x y = omega arith

-- what a component has where nothing is placed yet
pub behind-none : (all : Option ℕ) (m : Mode) (kept : List Span) (ps : List Placement) → kept ≡ []
    → ◌≡◌ {A = Layout} (record { size = max 0 (greatest_end (map capped_span (spans_from all m 0 ps))); access = max 0 (greatest_access ps); spans = kept ++ map capped_span (spans_from all m 0 ps) }) (capped_layout (container all m ps))
behind-none all m kept ps none =
    let largest : max 0 (greatest_end (map capped_span (spans_from all m 0 ps))) ≡ capped (greatest_end (spans_from all m 0 ps)) = zero (greatest_end (map capped_span (spans_from all m 0 ps))) ∙ greatest_capped (spans_from all m 0 ps) in
    λ i. record { size = largest i; access = zero (greatest_access ps) i; spans = none i ++ map capped_span (spans_from all m 0 ps) }
  where
    zero : (x : ℕ) → max 0 x ≡ x
    zero x = omega arith

-- one more instance that is placed
pub behind-one : (all : Option ℕ) (m : Mode) (end size access : ℕ) (kept : List Span) (p : Placement) (from to largest widest : ℕ) (more : List Span)
    → from ≡ capped (start_of all m end p) → to ≡ capped (end_of from p) → largest ≡ max size to → widest ≡ max access p.access → more ≡ kept ++ to_span from to ∷ [] → (ps : List Placement)
    → ◌≡◌ {A = Layout} (record { size = max size (greatest_end (map capped_span (spans_from all m end (p ∷ ps)))); access = max access (max p.access (greatest_access ps)); spans = kept ++ map capped_span (spans_from all m end (p ∷ ps)) })
    (record { size = max largest (greatest_end (map capped_span (spans_from all m to ps))); access = max widest (greatest_access ps); spans = more ++ map capped_span (spans_from all m to ps) })
behind-one all m end size access kept p from to largest widest more h g f e d ps =
    let rest = map capped_span (spans_from all m to ps) in
    let one : map capped_span (spans_from all m end (p ∷ ps)) ≡ to_span from to ∷ rest = spans_step all m end from to p ps h g in
    let sizes : max size (greatest_end (map capped_span (spans_from all m end (p ∷ ps)))) ≡ max largest (greatest_end rest) =
    ap (λ ss. max size (greatest_end ss)) one ∙ again size to (greatest_end rest) largest f in
    let lists : kept ++ map capped_span (spans_from all m end (p ∷ ps)) ≡ more ++ rest =
    ap (λ ss. kept ++ ss) one ∙ sym (append_assoc kept (to_span from to ∷ []) rest) ∙ ap (λ ss. ss ++ rest) (sym d) in
    λ i. record { size = sizes i; access = again access p.access (greatest_access ps) widest e i; spans = lists i }
  where
    again : (s x y t : ℕ) → t ≡ max s x → max s (max x y) ≡ max t y
    again s x y t e = omega arith

-- what a component has where no instance is left
pub behind-all : (placing : Placing) (spans : List Span) → spans ≡ placing.spans.items → ◌≡◌ {A = Layout} (record { size = placing.size; access = placing.access; spans = spans }) (with_behind placing [])
behind-all placing spans e =
    λ i. record { size = none placing.size i; access = none placing.access i; spans = (e ∙ sym (append_nil placing.spans.items)) i }
  where
    none : (x : ℕ) → x ≡ max x 0
    none x = omega arith

    append_nil : {X : Type 0} (xs : List X) → xs ++ [] ≡ xs
    append_nil [] = refl
    append_nil (x ∷ xs) = ap (λ ys. x ∷ ys) (append_nil xs)

-- one more of the instances that are to be placed
pub next-placed : (old new : Placing) (i : ℕ) (items : List Placement) (d : Placement) (whole : Layout) → i < length items → ((behind : List Placement) → with_behind old (get_or items i d ∷ behind) ≡ with_behind new behind)
    → with_behind old (drop i items) ≡ whole → with_behind new (drop (i + 1) items) ≡ whole
next-placed old new i items d whole within put inv =
    let j : suc i ≡ i + 1 = omega arith in
    sym (put (drop (i + 1) items)) ∙ ap (λ k. with_behind old (get_or items i d ∷ drop k items)) (sym j) ∙ sym (ap (λ ps. with_behind old ps) (drop-cons items i d within)) ∙ inv

pub last-placed : (placing : Placing) (i : ℕ) (items : List Placement) (whole : Layout) → length items ≤ i → with_behind placing (drop i items) ≡ whole → with_behind placing [] ≡ whole
last-placed placing i items whole done inv = sym (ap (λ ps. with_behind placing ps) (drop_all i items done)) ∙ inv
