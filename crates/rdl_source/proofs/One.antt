-- What lies behind a spot is the only thing that does.
use Rattle.std.proofs.Common.{◌≡◌, ℕ, ◌+◌, ◌≤◌, ◌<◌, Bool, true, false, List, [], ◌∷◌, ◌++◌, length, Option, Some, None, refl, ap, sym, ◌∙◌, subst, inl, inr, eq-eqb, arith}
use Rattle.std.specs.Option.{option_map}
use Rattle.std.proofs.lemmas.Option.{slice_get_past}
use Rattle.std.specs.Prelude.{◌⊎◌, slice_range, nat_eq, cond, IfNone}
use Rattle.std.proofs.lemmas.Bool.{cases_lt, false≢true, eqb-true}
use Rattle.rdl_text.specs.Rows.{byte}
use Rattle.rdl_text.specs.Word.{Word}
use Rattle.rdl_parse.specs.declared.places.ItemPlace.{ItemPlace}
use Rattle.rdl_parse.specs.Places.{from_item, inside_first}
use Rattle.rdl_source.specs.declared.span.Span.{Span}
use Rattle.rdl_source.specs.declared.gap.Left.{Left}
use Rattle.rdl_source.specs.declared.gap.Left.TheVariants as left
use Rattle.rdl_source.specs.declared.gap.Parts.{Parts}
use Rattle.rdl_source.specs.declared.gap.Right.{Right}
use Rattle.rdl_source.specs.declared.gap.Right.TheVariants as right
use Rattle.rdl_source.specs.declared.walk.Spot.{Spot}
use Rattle.rdl_source.specs.declared.lay.Body.{Body}
use Rattle.rdl_source.specs.declared.lay.Wording.{Wording}
use Rattle.rdl_source.specs.declared.statement.Inner.{Inner}
use Rattle.rdl_source.specs.declared.statement.Statement.{Statement}
use Rattle.rdl_source.specs.Gap.{gap_parts}
use Rattle.rdl_source.specs.Laid.{Bare, Laid, ended, bare, braced, depth}
use Rattle.rdl_source.specs.View.{bare_of, add_to, add, put}
use Rattle.rdl_source.specs.LaidOut.{start_at, StandsBehind, IsGap, right_of, IsStop, BeginsIn, Has, Closes, Lie}
use Rattle.rdl_source.specs.Worded.{IsWorded}
use Rattle.rdl_source.specs.Only.{NoGap, inside_depth, IsWording, IsBody}
use Rattle.rdl_source.proofs.Views.{put-more}
use Rattle.rdl_source.proofs.Items.{from-zero}

-- ---- Gaps.

of_some : {A : Type 0} → A → Option A → A
of_some d None = d
of_some d (Some x) = x

pub some_one : {A : Type 0} (x y : A) → Some x ≡ Some y → x ≡ y
unfolding of_some
some_one x y e = ap (of_some x) e

pub none≢some : {A : Type 0} (x : A) → None ≡ Some x → ⊥
none≢some {A} x e = let f : Option A → Bool = λ o. elim o [ None ↦ false | Some y ↦ true ] in false≢true (ap f e)

pub stands_one : (source : List ℕ) (r r' : Right) (e e' : ℕ) (o : Option ℕ) → StandsBehind source r e o → StandsBehind source r' e' o → (r ≡ r') × (e ≡ e')
stands_one source right.Statement right.Statement e e' None h k = absurd h
stands_one source right.Statement right.Statement e e' (Some b) h k = (refl, h.0 ∙ sym k.0)
stands_one source right.Statement right.End e e' None h k = absurd h
stands_one source right.Statement right.End e e' (Some b) h k = absurd (h.1 k.1)
stands_one source right.End right.Statement e e' None h k = absurd k
stands_one source right.End right.Statement e e' (Some b) h k = absurd (k.1 h.1)
stands_one source right.End right.End e e' None h k = (refl, h ∙ sym k)
stands_one source right.End right.End e e' (Some b) h k = (refl, h.0 ∙ sym k.0)

pub no_gap : (source : List ℕ) (ws : List Word) (l : Left) (at k : ℕ) (r' : Right) (e' : ℕ) → StandsBehind source r' e' (start_at ws k) → ((to : ℕ) (f d : Span) → IsGap source ws l r' at k e' to f d → ⊥) → NoGap source ws l at k
no_gap source ws l at k r' e' h none r e to f d g =
    let s = stands_one source r r' e e' (start_at ws k) g.behind h in
    none to f d (subst (λ q. IsGap source ws l q at k e' to f d) s.0 (subst (λ m. IsGap source ws l r at k m to f d) s.1 g))

right-stands : (source : List ℕ) (start : ℕ) (b : Bool) → nat_eq (byte source start) 125 ≡ b → StandsBehind source (cond b right.End right.Statement) start (Some start)
right-stands source start true e = (refl, eqb-true (byte source start) 125 e)
right-stands source start false e = (refl, λ same. false≢true (sym e ∙ eq-eqb (byte source start) 125 same))

pub right_stands : (source : List ℕ) (start : ℕ) (r : Right) (o : Option ℕ) → r ≡ right_of source start → o ≡ Some start → StandsBehind source r start o
right_stands source start r o e f =
    subst (λ q. StandsBehind source q start o) (sym e) (subst (StandsBehind source (right_of source start) start) (sym f) (right-stands source start (nat_eq (byte source start) 125) refl))

pub if_none : {A : Type 0} (o : Option A) (P Q : Type 0) → (P → Q) → IfNone o P → IfNone o Q
if_none None P Q f h = f h
if_none (Some x) P Q f h = h

pub record Same (r r' : Right) (e e' to to' : ℕ) (f f' d d' : Span) : Type 0 where
  pub is_right : r ≡ r'
  pub is_end : e ≡ e'
  pub is_to : to ≡ to'
  pub is_float : f ≡ f'
  pub is_lead : d ≡ d'

pub gap_one : (source : List ℕ) (ws : List Word) (l : Left) (r r' : Right) (at k e e' to to' : ℕ) (f f' d d' : Span) → IsGap source ws l r at k e to f d → IsGap source ws l r' at k e' to' f' d' → Same r r' e e' to to' f f' d d'
gap_one source ws l r r' at k e e' to to' f f' d d' g h =
    let s = stands_one source r r' e e' (start_at ws k) g.behind h.behind in
    let parts : g.parts ≡ h.parts =
    some_one g.parts h.parts (sym g.cut ∙ (ap (λ q. gap_parts l q (slice_range source at e)) s.0 ∙ (ap (λ n. gap_parts l r' (slice_range source at n)) s.1 ∙ h.cut))) in
    let there : to ≡ to' = g.to_is ∙ (ap (λ (p : Parts). at + p.trail) parts ∙ sym h.to_is) in
    record {
      is_right = s.0;
      is_end = s.1;
      is_to = there;
      is_float = g.float_is ∙ ((λ i. record { from = there i; to = there i + (parts i).float }) ∙ sym h.float_is);
      is_lead = g.lead_is ∙ ((λ i. record { from = there i + (parts i).float; to = s.1 i }) ∙ sym h.lead_is);
    }

-- ---- Semicolons and braces.

stop-le : (source : List ℕ) (ws : List Word) (b b' k j j' at at' : ℕ) → IsStop source ws b k j at → IsStop source ws b' k j' at' → j' ≤ j
stop-le source ws b b' k j j' at at' g h =
    elim (cases_lt j j') [
      | inl less ↦ absurd (false≢true (sym (h.first j at g.from less g.there) ∙ g.mark))
      | inr most ↦ most
    ]

pub stop_one : (source : List ℕ) (ws : List Word) (b b' k j j' at at' : ℕ) → IsStop source ws b k j at → IsStop source ws b' k j' at' → (j ≡ j') × (at ≡ at')
stop_one source ws b b' k j j' at at' g h =
    let low = stop-le source ws b b' k j j' at at' g h in
    let high = stop-le source ws b' b k j' j at' at h g in
    let e : j ≡ j' = omega (arith, low, high) in
    (e, some_one at at' (sym g.there ∙ (ap (start_at ws) e ∙ h.there)))

-- ---- Items.

begins-in : (s b : Span) (ps qs : List ItemPlace) → qs ≡ ps → BeginsIn b qs → s.to ≤ b.from → BeginsIn s ps → ⊥
begins-in s b [] qs e h low k = k
begins-in s b (p ∷ ps) qs e h low k = let own = subst (BeginsIn b) e h in omega (arith, own.0, k.1, low)

-- no item of these statements begins before the gap in front of them
pub not_here : (source : List ℕ) (ws : List Word) (laid : Laid) (l : Left) (at to k : ℕ) (ps : List ItemPlace) (close n : ℕ) (s : Span) → Lie source ws laid l at to k ps close n → s.to ≤ at → BeginsIn s ps → ⊥
not_here source ws (ended last) l at to k ps close n s h low b = subst (BeginsIn s) h.4 b
not_here source ws (bare b rest) l at to k ps close n s h low i =
    begins-in s b.words ps (from_item 0 ps) (from-zero ps) (h.5.items 0 h.5.some) (omega (arith, low, h.0.ordered)) i
not_here source ws (braced b br body rest) l at to k ps close n s h low i =
    begins-in s b.words ps (from_item 0 ps) (from-zero ps) (h.10.items 0 h.10.some) (omega (arith, low, h.0.ordered)) i

pub count_one : (s : Span) (n m : ℕ) (ps : List ItemPlace) → ((i : ℕ) → i < n → BeginsIn s (from_item i ps)) → (BeginsIn s (from_item n ps) → ⊥) → ((i : ℕ) → i < m → BeginsIn s (from_item i ps)) → (BeginsIn s (from_item m ps) → ⊥) → n ≡ m
count_one s n m ps h last k end =
    elim (cases_lt n m) [
      | inl less ↦ absurd (last (k n less))
      | inr most ↦ elim (cases_lt m n) [
        | inl more ↦ absurd (end (h m more))
        | inr same ↦ omega (arith, most, same)
      ]
    ]

-- ---- The front of what lies behind a spot.

pub record Front (source : List ℕ) (ws : List Word) (l : Left) (at to k : ℕ) : Type 0 where
  pub right : Right
  pub end : ℕ
  pub float : Span
  pub lead : Span
  pub gap : IsGap source ws l right at k end to float lead

pub front : (source : List ℕ) (ws : List Word) (laid : Laid) (l : Left) (at to k : ℕ) (ps : List ItemPlace) (close n : ℕ) → Lie source ws laid l at to k ps close n → Front source ws l at to k
front source ws (ended last) l at to k ps close n h = record { right = right.End; end = close; float = h.0; lead = h.1; gap = h.2 }
front source ws (bare b rest) l at to k ps close n h = record { right = right.Statement; end = b.words.from; float = b.float; lead = b.lead; gap = h.0 }
front source ws (braced b br body rest) l at to k ps close n h = record { right = right.Statement; end = b.words.from; float = b.float; lead = b.lead; gap = h.0 }

-- a statement, and then others
pub record Followed (source : List ℕ) (ws : List Word) (laid : Laid) (l : Left) (at to k : ℕ) (ps : List ItemPlace) (close n : ℕ) : Type 0 where
  pub b : Bare
  pub inside : Option Inner
  pub tail : Laid
  pub j : ℕ
  pub end : ℕ
  pub is : laid ≡ add_to b inside tail
  pub gap : IsGap source ws l right.Statement at k b.words.from to b.float b.lead
  pub worded : IsWorded source ws ps inside b.words.from k j end
  pub has : Has end ps b
  pub rest : Lie source ws tail left.Word b.words.to b.trail.to (j + 1) (from_item b.items ps) close n
  pub deep : inside_depth inside ≤ depth laid
  pub deep_tail : depth tail ≤ depth laid

-- no statement
pub record Ended (source : List ℕ) (ws : List Word) (laid : Laid) (l : Left) (at to k : ℕ) (ps : List ItemPlace) (close n : ℕ) : Type 0 where
  pub float : Span
  pub lead : Span
  pub gap : IsGap source ws l right.End at k close to float lead
  pub is : laid ≡ ended (record { from = to; to = close })
  pub none : ps ≡ []
  pub word : k ≡ n

pub split : (source : List ℕ) (ws : List Word) (laid : Laid) (l : Left) (at to k : ℕ) (ps : List ItemPlace) (close n : ℕ) → Lie source ws laid l at to k ps close n → Followed source ws laid l at to k ps close n ⊎ Ended source ws laid l at to k ps close n
split source ws (ended last) l at to k ps close n h = inr (record { float = h.0; lead = h.1; gap = h.2; is = ap ended h.3; none = h.4; word = h.5 })
split source ws (bare b rest) l at to k ps close n h =
    inl (record { b = b; inside = None; tail = rest; j = h.1; end = h.2; is = refl; gap = h.0; worded = (h.3, h.4); has = h.5; rest = h.6; deep = omega arith; deep_tail = omega arith })
split source ws (braced b br body rest) l at to k ps close n h =
    inl (record {
      b = b;
      inside = Some (record { «open» = br.begin; close = br.close; body = body });
      tail = rest;
      j = h.7;
      end = h.8;
      is = refl;
      gap = h.0;
      worded = (h.1, h.2, h.3, h.4, h.5, h.6, h.9);
      has = h.10;
      rest = h.11;
      deep = omega arith;
      deep_tail = omega arith;
    })

-- ---- What has been read of a body.

pub record Behind (source : List ℕ) (ws : List Word) (levels : ℕ) (first : ℕ) (list : List Statement) (spot : Spot) (to : ℕ) (rest : List ItemPlace) (laid : Laid) (to0 close n : ℕ) : Type 0 where
  pub tail : Laid
  pub is : laid ≡ put list tail
  pub begin : to0 ≡ first
  pub deep : depth tail ≤ levels
  pub lie : Lie source ws tail spot.left spot.at to spot.word rest close n

-- whatever lies behind the first spot is what has been read, and what lies behind the other
abbrev pub Undone : List ℕ → List Word → (levels : ℕ) → Spot → (first : ℕ) → List ItemPlace → List Statement → Spot → (to : ℕ) → List ItemPlace → Type 0
Undone source ws levels begin first places list spot to rest =
    (laid : Laid) (to0 close n : ℕ) → Lie source ws laid begin.left begin.at to0 begin.word places close n → depth laid ≤ levels → Behind source ws levels first list spot to rest laid to0 close n

pub nothing_undone : (source : List ℕ) (ws : List Word) (levels : ℕ) (begin : Spot) (first : ℕ) (places : List ItemPlace) (list : List Statement) (r : Right) (e : ℕ) (f d : Span)
    → IsGap source ws begin.left r begin.at begin.word e first f d → list ≡ [] → Undone source ws levels begin first places list begin first places
nothing_undone source ws levels begin first places list r e f d g none laid to0 close n h deep =
    let a = front source ws laid begin.left begin.at to0 begin.word places close n h in
    let same = gap_one source ws begin.left a.right r begin.at begin.word a.end e to0 first a.float f a.lead d a.gap g in
    record {
      tail = laid;
      is = ap (λ xs. put xs laid) (sym none);
      begin = same.is_to;
      deep = deep;
      lie = subst (λ t. Lie source ws laid begin.left begin.at t begin.word places close n) same.is_to h;
    }

end≢statement : right.End ≡ right.Statement → ⊥
end≢statement e = let f : Right → Bool = λ r. elim r [ right.Statement ↦ true | right.End ↦ false ] in false≢true (ap f e)

-- where a statement begins behind the spot
pub followed : (source : List ℕ) (ws : List Word) (laid : Laid) (l : Left) (at to k : ℕ) (ps : List ItemPlace) (close n : ℕ) (r : Right) (e to' : ℕ) (f d : Span)
    → IsGap source ws l r at k e to' f d → r ≡ right.Statement → Lie source ws laid l at to k ps close n → Followed source ws laid l at to k ps close n
followed source ws laid l at to k ps close n r e to' f d g is h =
    elim (split source ws laid l at to k ps close n h) [
      | inl x ↦ x
      | inr x ↦ absurd (end≢statement ((gap_one source ws l right.End r at k close e to to' x.float f x.lead d x.gap g).is_right ∙ is))
    ]

-- where none does
pub no_more : (source : List ℕ) (ws : List Word) (laid : Laid) (l : Left) (at to k : ℕ) (ps : List ItemPlace) (close n : ℕ) (r : Right) (e to' : ℕ) (f d : Span)
    → IsGap source ws l r at k e to' f d → r ≡ right.End → Lie source ws laid l at to k ps close n → Ended source ws laid l at to k ps close n
no_more source ws laid l at to k ps close n r e to' f d g is h =
    elim (split source ws laid l at to k ps close n h) [
      | inl x ↦ absurd (end≢statement (sym is ∙ sym (gap_one source ws l right.Statement r at k x.b.words.from e to to' x.b.float f x.b.lead d x.gap g).is_right))
      | inr x ↦ x
    ]

-- the words of the statement that begins behind a gap
abbrev pub Only : List ℕ → List Word → (levels : ℕ) → List ItemPlace → (from k : ℕ) → Option Wording → Type 0
Only source ws levels ps from k o = (inside : Option Inner) (j at : ℕ) → IsWorded source ws ps inside from k j at → inside_depth inside ≤ levels → IsWording o inside j at

pub wording_of : (source : List ℕ) (ws : List Word) (levels : ℕ) (laid : Laid) (l : Left) (at to k : ℕ) (ps : List ItemPlace) (close n : ℕ) (r : Right) (e to' : ℕ) (f d : Span) (o : Option Wording)
    → IsGap source ws l r at k e to' f d → depth laid ≤ levels → Only source ws levels ps e k o → (x : Followed source ws laid l at to k ps close n) → IsWording o x.inside x.j x.end
wording_of source ws levels laid l at to k ps close n r e to' f d o g deep only x =
    let same = gap_one source ws l right.Statement r at k x.b.words.from e to to' x.b.float f x.b.lead d x.gap g in
    only x.inside x.j x.end (subst (λ m. IsWorded source ws ps x.inside m k x.j x.end) same.is_end x.worded) (omega (arith, x.deep, deep))

-- nothing lies behind the statement where there is no gap
pub no_gap_behind : (source : List ℕ) (ws : List Word) (laid : Laid) (l : Left) (at to k : ℕ) (ps : List ItemPlace) (close n : ℕ) (inside : Option Inner) (w : Wording) (spot' : Spot)
    → (x : Followed source ws laid l at to k ps close n) → IsWording (Some w) x.inside x.j x.end → spot' ≡ record { left = left.Word; at = w.end.at + 1; word = w.end.word + 1 }
    → NoGap source ws spot'.left spot'.at spot'.word → ⊥
no_gap_behind source ws laid l at to k ps close n inside w spot' x is there none =
    let a = front source ws x.tail left.Word x.b.words.to x.b.trail.to (x.j + 1) (from_item x.b.items ps) close n x.rest in
    let place : x.b.words.to ≡ w.end.at + 1 = omega (arith, x.has.words_end, is.2) in
    let word : x.j + 1 ≡ w.end.word + 1 = omega (arith, is.1) in
    let nothing = subst (λ (q : Spot). NoGap source ws q.left q.at q.word) there none in
    nothing a.right a.end x.b.trail.to a.float a.lead
    (subst (λ m. IsGap source ws left.Word a.right (w.end.at + 1) m a.end x.b.trail.to a.float a.lead) word
    (subst (λ m. IsGap source ws left.Word a.right m (x.j + 1) a.end x.b.trail.to a.float a.lead) place a.gap))

-- ---- What isn't there.

pub none_of : {A : Type 0} (o : Option A) (P : Type 0) → ((x : A) → o ≡ Some x → ⊥) → IfNone o P → P
none_of None P not h = h
none_of (Some x) P not h = absurd (not x refl)

pub no_wording : (o : Option Wording) (inside : Option Inner) (j at : ℕ) → ((x : Wording) → o ≡ Some x → ⊥) → IsWording o inside j at → ⊥
no_wording None inside j at not h = h
no_wording (Some x) inside j at not h = not x refl

pub no_body : (o : Option Body) (laid : Laid) (begin close n : ℕ) → ((x : Body) → o ≡ Some x → ⊥) → IsBody o laid begin close n → ⊥
no_body None laid begin close n not h = h
no_body (Some x) laid begin close n not h = not x refl

pub nothing_lies : (source : List ℕ) (ws : List Word) (laid : Laid) (l : Left) (at to k : ℕ) (ps : List ItemPlace) (close n : ℕ) → NoGap source ws l at k → Lie source ws laid l at to k ps close n → ⊥
nothing_lies source ws laid l at to k ps close n none h = let a = front source ws laid l at to k ps close n h in none a.right a.end to a.float a.lead a.gap

-- ---- One more statement.

same_words : (source : List ℕ) (ws : List Word) (laid : Laid) (l : Left) (at to k : ℕ) (ps : List ItemPlace) (close n : ℕ) (r : Right) (e to' : ℕ) (f d : Span) (w : Wording) (spot' : Spot)
    → IsGap source ws l r at k e to' f d → (x : Followed source ws laid l at to k ps close n) → IsWording (Some w) x.inside x.j x.end → spot' ≡ record { left = left.Word; at = w.end.at + 1; word = w.end.word + 1 }
    → (record { from = e; to = spot'.at }) ≡ x.b.words
same_words source ws laid l at to k ps close n r e to' f d w spot' g x is there =
    let same = gap_one source ws l r right.Statement at k e x.b.words.from to' to f x.b.float d x.b.lead g x.gap in
    let end : spot'.at ≡ x.b.words.to = omega (arith, ap (λ (q : Spot). q.at) there, is.2, x.has.words_end) in
    λ i. record { from = same.is_end i; to = end i }

pub same_items : (source : List ℕ) (ws : List Word) (laid : Laid) (l : Left) (at to k : ℕ) (ps : List ItemPlace) (close n : ℕ) (r : Right) (e to' : ℕ) (f d : Span) (w : Wording) (spot' : Spot) (count : ℕ)
    → IsGap source ws l r at k e to' f d → (x : Followed source ws laid l at to k ps close n) → IsWording (Some w) x.inside x.j x.end → spot' ≡ record { left = left.Word; at = w.end.at + 1; word = w.end.word + 1 }
    → ((i : ℕ) → i < count → BeginsIn (record { from = e; to = spot'.at }) (from_item i ps)) → (BeginsIn (record { from = e; to = spot'.at }) (from_item count ps) → ⊥)
    → count ≡ x.b.items
same_items source ws laid l at to k ps close n r e to' f d w spot' count g x is there items last =
    let words = same_words source ws laid l at to k ps close n r e to' f d w spot' g x is there in
    count_one x.b.words count x.b.items ps (subst (λ s. (i : ℕ) → i < count → BeginsIn s (from_item i ps)) words items) (subst (λ s. BeginsIn s (from_item count ps) → ⊥) words last) x.has.items
    (not_here source ws x.tail left.Word x.b.words.to x.b.trail.to (x.j + 1) (from_item x.b.items ps) close n x.b.words x.rest (omega arith))

pub one_undone : (source : List ℕ) (ws : List Word) (levels first : ℕ) (list list' : List Statement) (spot spot' : Spot) (to : ℕ) (rest others : List ItemPlace) (laid : Laid) (to0 close n : ℕ) (s : Statement) (r r2 : Right) (e2 : ℕ) (f2 d2 : Span) (w : Wording)
    → (back : Behind source ws levels first list spot to rest laid to0 close n)
    → (g : IsGap source ws spot.left r spot.at spot.word s.words.from to s.float s.lead)
    → (x : Followed source ws back.tail spot.left spot.at to spot.word rest close n) → IsWording (Some w) x.inside x.j x.end
    → spot' ≡ record { left = left.Word; at = w.end.at + 1; word = w.end.word + 1 } → s.words.to ≡ spot'.at → s.inside ≡ w.inside
    → IsGap source ws spot'.left r2 spot'.at spot'.word e2 s.trail.to f2 d2 → s.trail.from ≡ spot'.at → s.items ≡ x.b.items → others ≡ from_item s.items rest → list' ≡ list ++ (s ∷ [])
    → Behind source ws levels first list' spot' s.trail.to others laid to0 close n
one_undone source ws levels first list list' spot spot' to rest others laid to0 close n s r r2 e2 f2 d2 w back g x is there words_to inside next trail_from items o more =
    let same = gap_one source ws spot.left r right.Statement spot.at spot.word s.words.from x.b.words.from to to s.float x.b.float s.lead x.b.lead g x.gap in
    let end : s.words.to ≡ x.b.words.to = omega (arith, words_to, ap (λ (q : Spot). q.at) there, is.2, x.has.words_end) in
    let at : x.b.words.to ≡ w.end.at + 1 = omega (arith, x.has.words_end, is.2) in
    let word : x.j + 1 ≡ w.end.word + 1 = omega (arith, is.1) in
    let here : record { left = left.Word; at = x.b.words.to; word = x.j + 1 } ≡ spot' = (λ i. record { left = left.Word; at = at i; word = word i }) ∙ sym there in
    let lie = subst (λ (q : Spot). Lie source ws x.tail q.left q.at x.b.trail.to q.word (from_item x.b.items rest) close n) here x.rest in
    let a = front source ws x.tail spot'.left spot'.at x.b.trail.to spot'.word (from_item x.b.items rest) close n lie in
    let follows = gap_one source ws spot'.left r2 a.right spot'.at spot'.word e2 a.end s.trail.to x.b.trail.to f2 a.float d2 a.lead next a.gap in
    let begin : s.trail.from ≡ x.b.trail.from = omega (arith, trail_from, ap (λ (q : Spot). q.at) here, x.has.trail_begin) in
    let bare : bare_of s ≡ x.b =
    λ i. record {
      float = same.is_float i;
      lead = same.is_lead i;
      words = record { from = same.is_end i; to = end i };
      trail = record { from = begin i; to = follows.is_to i };
      items = items i;
    } in
    let added : add s x.tail ≡ back.tail = ap (λ b. add_to b s.inside x.tail) bare ∙ (ap (λ p. add_to x.b p x.tail) (inside ∙ is.0) ∙ sym x.is) in
    record {
      tail = x.tail;
      is = back.is ∙ (ap (put list) (sym added) ∙ (sym (put-more list s x.tail) ∙ ap (λ xs. put xs x.tail) (sym more)));
      begin = back.begin;
      deep = omega (arith, x.deep_tail, back.deep);
      lie =
          subst (λ ps. Lie source ws x.tail spot'.left spot'.at s.trail.to spot'.word ps close n) (ap (λ m. from_item m rest) (sym items) ∙ sym o)
          (subst (λ m. Lie source ws x.tail spot'.left spot'.at m spot'.word (from_item x.b.items rest) close n) (sym follows.is_to) lie);
    }

-- ---- The words of a statement.

pub start_within : (ws : List Word) (j at : ℕ) → start_at ws j ≡ Some at → j < length ws
start_within ws j at h =
    elim (cases_lt j (length ws)) [
      | inl less ↦ less
      | inr past ↦ absurd (none≢some at (ap (option_map (λ (w : Word). w.start)) (sym (slice_get_past ws j past)) ∙ h))
    ]

pub record Opened (source : List ℕ) (ws : List Word) (ps : List ItemPlace) (inside : Option Inner) (j at js ats : ℕ) : Type 0 where
  pub i : Inner
  pub c : ℕ
  pub is : inside ≡ Some i
  pub lie : Lie source ws i.body left.Word (ats + 1) i.«open» (js + 1) (inside_first ps) i.close c
  pub closing : byte source i.close ≡ 125
  pub closes : Closes source ws i.close (c + 1) j at

pub opened : (source : List ℕ) (ws : List Word) (ps : List ItemPlace) (inside : Option Inner) (b from k j at js ats : ℕ) → IsStop source ws b k js ats → byte source ats ≡ 123 → IsWorded source ws ps inside from k j at → Opened source ws ps inside j at js ats
opened source ws ps None b from k j at js ats s e h =
    let one = stop_one source ws b from k js j ats at s h.0.0 in
    absurd (omega (arith, e, ap (byte source) one.1, h.0.1))
opened source ws ps (Some i) b from k j at js ats s e h =
    let one = stop_one source ws from b k h.0 js h.1 ats h.2.0 s in
    record {
      i = i;
      c = h.3;
      is = refl;
      lie =
          subst (λ m. Lie source ws i.body left.Word (ats + 1) i.«open» (m + 1) (inside_first ps) i.close h.3) one.0
          (subst (λ m. Lie source ws i.body left.Word (m + 1) i.«open» (h.0 + 1) (inside_first ps) i.close h.3) one.1 h.4);
      closing = h.5;
      closes = h.6;
    }

-- the first stop is a semicolon or a brace that opens
pub not_worded : (source : List ℕ) (ws : List Word) (ps : List ItemPlace) (inside : Option Inner) (b from k j at js ats : ℕ) → IsStop source ws b k js ats → (byte source ats ≡ 59 → ⊥) → (byte source ats ≡ 123 → ⊥) → IsWorded source ws ps inside from k j at → ⊥
not_worded source ws ps None b from k j at js ats s no59 no123 h = let one = stop_one source ws b from k js j ats at s h.0.0 in no59 (ap (byte source) one.1 ∙ h.0.1)
not_worded source ws ps (Some i) b from k j at js ats s no59 no123 h = let one = stop_one source ws b from k js h.0 ats h.1 s h.2.0 in no123 (ap (byte source) one.1 ∙ h.2.1)

-- no body is opened where none may be
pub not_deep : (source : List ℕ) (ws : List Word) (ps : List ItemPlace) (inside : Option Inner) (b from k j at js ats : ℕ) → IsStop source ws b k js ats → (byte source ats ≡ 59 → ⊥) → inside_depth inside ≤ 0 → IsWorded source ws ps inside from k j at → ⊥
not_deep source ws ps None b from k j at js ats s no59 deep h = let one = stop_one source ws b from k js j ats at s h.0.0 in no59 (ap (byte source) one.1 ∙ h.0.1)
not_deep source ws ps (Some i) b from k j at js ats s no59 deep h = absurd (omega (arith, deep))

-- the body between the braces of a statement
pub body_one : (source : List ℕ) (ws : List Word) (levels below : ℕ) (ps inner : List ItemPlace) (inside : Option Inner) (j at js ats : ℕ) (begin : Spot) (o : Option Body)
    → ((laid : Laid) (to close n : ℕ) → Lie source ws laid begin.left begin.at to begin.word inner close n → depth laid ≤ below → IsBody o laid to close n)
    → begin ≡ record { left = left.Word; at = ats + 1; word = js + 1 } → inner ≡ inside_first ps → (x : Opened source ws ps inside j at js ats) → inside_depth inside ≤ levels → below + 1 ≡ levels
    → IsBody o x.i.body x.i.«open» x.i.close x.c
body_one source ws levels below ps inner inside j at js ats begin o only there items x deep one =
    let lie = subst (λ (q : Spot). Lie source ws x.i.body q.left q.at x.i.«open» q.word inner x.i.close x.c) (sym there) (subst (λ us. Lie source ws x.i.body left.Word (ats + 1) x.i.«open» (js + 1) us x.i.close x.c) (sym items) x.lie) in
    only x.i.body x.i.«open» x.i.close x.c lie (omega (arith, ap inside_depth x.is, deep, one))
