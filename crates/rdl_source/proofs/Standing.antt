-- Each statement of a text spells by itself the items that it spells there.
use Rattle.std.proofs.Common.{◌≡◌, ℕ, zero, suc, ◌+◌, ◌-◌, ◌<◌, ◌≤◌, Bool, true, false, cond, ◌||◌, List, [], ◌∷◌, ◌++◌, length, take, drop, map, Option, Some, None, Result, Ok, inl, inr, ◌⊎◌, refl, sym, ◌∙◌, ap, subst, arith, append_assoc}
use Rattle.std.proofs.lemmas.Bool.{false≢true, cases_lt}
use Rattle.std.proofs.lemmas.List.{length-append, length-drop, length-map, map-append, length-take-le, take-append-drop}
use Rattle.std.proofs.lemmas.List.Folds.{drop_split}
use Rattle.std.proofs.lemmas.Str.{IsUtf8-between, IsCharBoundary-start}
use Rattle.std.specs.Option.{option_map_or}
use Rattle.std.specs.Prelude.{max, nat_eq, slice_get, slice_range}
use Rattle.std.specs.Str.{IsUtf8, IsCharBoundary}
use Rattle.rdl_text.specs.Rows.{byte}
use Rattle.rdl_text.specs.Word.{Word, word}
use Rattle.rdl_text.specs.Words.{words_from, before}
use Rattle.rdl_text.specs.declared.fault.TextFault.{TextFault}
use Rattle.rdl_text.specs.declared.token.Mark.{Mark}
use Rattle.rdl_text.specs.declared.token.Mark.TheVariants.{OpenBrace, CloseBrace, Semicolon}
use Rattle.rdl_text.specs.declared.token.TokenKind.TheVariants as kinds
use Rattle.rdl_tree.specs.Depth as tree
use Rattle.rdl_tree.specs.Items.{Items, no_items}
use Rattle.rdl_tree.specs.View.{add, items_of, list_of, own_body}
use Rattle.rdl_tree.specs.declared.description.Item.{Item}
use Rattle.rdl_tree.specs.declared.description.Item.TheVariants.{Define, Instance, Own, Default, Dynamic}
use Rattle.rdl_tree.specs.declared.description.Of.{Of}
use Rattle.rdl_tree.specs.declared.description.Of.TheVariants.{Named, Anonymous}
use Rattle.rdl_tree.specs.declared.shell.Outside.{Outside}
use Rattle.rdl_tree.proofs.Rounds.{list_of-items_of}
use Rattle.rdl_parse.specs.Faults.{max_text}
use Rattle.rdl_parse.specs.Parsing.{HasWords, SpellsText}
use Rattle.rdl_parse.specs.Places.{Located, start_of, place_of, from_item, inside_first}
use Rattle.rdl_parse.specs.Spelling.{Inst, sizes, Statement, Statements, define, define_with, anonymous, named, own, default, dynamic, none, one, statement_words, words as grammar_words, statement_items, items, instance, statement_spots, spots}
use Rattle.rdl_parse.specs.Symbol.{Symbol, mark, symbol, symbols}
use Rattle.rdl_parse.specs.declared.found.Spot.{Spot}
use Rattle.rdl_parse.specs.declared.places.ItemPlace.{ItemPlace}
use Rattle.rdl_source.specs.Alone.{IsAlone, InBody, InBodies, StandAlone}
use Rattle.rdl_source.specs.Beside.{behind_words, HasStart}
use Rattle.rdl_source.specs.Gap.{begun}
use Rattle.rdl_source.specs.Laid.{Bare, Laid, ended, bare, braced, depth}
use Rattle.rdl_source.specs.LaidOut.{start_at, is_stop, StandsBehind, IsGap, IsStop, Closes, Opens, BeginsIn, Has, Lie, IsLaidOut}
use Rattle.rdl_source.specs.View.{statement_of}
use Rattle.rdl_source.specs.declared.gap.Left.{Left}
use Rattle.rdl_source.specs.declared.gap.Left.TheVariants as left
use Rattle.rdl_source.specs.declared.gap.Parts.{Parts}
use Rattle.rdl_source.specs.declared.gap.Right.{Right}
use Rattle.rdl_source.specs.declared.gap.Right.TheVariants as right
use Rattle.rdl_source.specs.declared.span.Span.{Span}
use Rattle.rdl_source.proofs.Appended.{statement_goes}
use Rattle.rdl_source.proofs.Behind.{moved}
use Rattle.rdl_source.proofs.Beside.{from_place, line_ends, behind_none, same_words}
use Rattle.rdl_source.proofs.Cuts.{pending, front_silent}
use Rattle.rdl_source.proofs.Marked.{byte_stop, symbol_stop, AreMarked, all_marked, words_at, semi_word, behind_semi, behind_brace, whole_drop, has_start, marked_drop}
use Rattle.rdl_source.proofs.Semis.{parted, starts_low}
use Rattle.rdl_source.proofs.Silence.{Feeds, Cut, cut_of, starts_there, boundary, end_boundary, inner_part, take_take, gap_length, byte_there, byte_past, behind_byte}
use Rattle.rdl_source.proofs.Spans.{joined}
use Rattle.rdl_source.proofs.Spelled.{Calm, body_of, front_of, back_of, calm-front, calm-back, form_plain, form_body, closed, InRange, wider, statement-range, spots-range, Blocks, statement_blocks, some_items, first_inside}

-- ---- Lists.

pub cons_same : {A : Type 0} (x y : A) (xs ys : List A) → x ∷ xs ≡ y ∷ ys → (x ≡ y) × (xs ≡ ys)
cons_same x y xs ys e = (cc, cc)

no_drop : {A : Type 0} (n : ℕ) → ◌≡◌ {A = List A} (drop n []) []
no_drop zero = refl
no_drop (suc n) = refl

pub drop_more : {A : Type 0} (xs : List A) (k n : ℕ) → drop n (drop k xs) ≡ drop (k + n) xs
drop_more xs zero n = let e : n ≡ zero + n = omega arith in ap (λ i. drop i xs) e
drop_more [] (suc k) n = no_drop n ∙ sym (no_drop (suc k + n))
drop_more (x ∷ xs) (suc k) n = let e : suc (k + n) ≡ suc k + n = omega arith in drop_more xs k n ∙ ap (λ i. drop i (x ∷ xs)) e

cancel : {A : Type 0} (xs ys a : List A) → length xs ≡ length ys → xs ++ a ≡ ys ++ a → xs ≡ ys
cancel [] [] a l e = refl
cancel [] (y ∷ ys) a l e = absurd (omega (arith, l))
cancel (x ∷ xs) [] a l e = absurd (omega (arith, l))
cancel (x ∷ xs) (y ∷ ys) a l e =
    let same = cons_same x y (xs ++ a) (ys ++ a) e in
    let rest : xs ≡ ys = cancel xs ys a (omega (arith, l)) same.1 in λ i. same.0 i ∷ rest i

cancel_right : {A : Type 0} (xs ys a : List A) → xs ++ a ≡ ys ++ a → xs ≡ ys
cancel_right xs ys a e = cancel xs ys a (omega (arith, length-append xs a, length-append ys a, ap length e)) e

take_front : {A : Type 0} (xs ys : List A) → take (length xs) (xs ++ ys) ≡ xs
take_front [] ys = refl
take_front (x ∷ xs) ys = ap (λ zs. x ∷ zs) (take_front xs ys)

drop_front : {A : Type 0} (xs ys : List A) → drop (length xs) (xs ++ ys) ≡ ys
drop_front [] ys = refl
drop_front (x ∷ xs) ys = drop_front xs ys

-- ---- The first semicolon or brace.

pub stop_true : (c : ℕ) → (byte_stop c ≡ None → ⊥) → is_stop c ≡ true
stop_true c h = by (nat_eq c 59) (nat_eq c 123) (nat_eq c 125) h
  where
    by : (a b e : Bool) → (cond a (Some Semicolon) (cond b (Some OpenBrace) (cond e (Some CloseBrace) None)) ≡ None → ⊥) → ((a || b) || e) ≡ true
    by true b e h = refl
    by false true e h = refl
    by false false true h = refl
    by false false false h = absurd (h refl)

pub stop_some : (c : ℕ) → is_stop c ≡ true → byte_stop c ≡ None → ⊥
stop_some c t h = by (nat_eq c 59) (nat_eq c 123) (nat_eq c 125) t h
  where
    by : (a b e : Bool) → ((a || b) || e) ≡ true → cond a (Some Semicolon) (cond b (Some OpenBrace) (cond e (Some CloseBrace) None)) ≡ None → ⊥
    by true b e t h = cc
    by false true e t h = cc
    by false false true t h = cc
    by false false false t h = false≢true t

pub start_cons : (w : Word) (ws : List Word) (b : ℕ) → start_at (w ∷ ws) 0 ≡ Some b → w.start ≡ b
start_cons w ws b e = cc

pub no_start : (i b : ℕ) → start_at [] i ≡ Some b → ⊥
no_start zero b e = cc
no_start (suc i) b e = cc

pub start_drop : (ws : List Word) (k i : ℕ) → start_at (drop k ws) i ≡ start_at ws (k + i)
start_drop ws zero i = let e : i ≡ zero + i = omega arith in ap (start_at ws) e
start_drop [] (suc k) i = let e : suc (k + i) ≡ suc k + i = omega arith in none i ∙ ap (start_at []) e
  where
    none : (i : ℕ) → start_at [] i ≡ start_at [] (suc (k + i))
    none zero = refl
    none (suc i) = refl
start_drop (w ∷ ws) (suc k) i = let e : suc (k + i) ≡ suc k + i = omega arith in start_drop ws k i ∙ ap (start_at (w ∷ ws)) e

-- it stands behind the words that are calm
stop_index : (source : List ℕ) (us : List Word) (front : List Symbol) (m : Symbol) (rest : List Symbol) (i e : ℕ) → AreMarked source us → symbols us ≡ front ++ (m ∷ rest) → Calm front → (symbol_stop m ≡ None → ⊥)
    → start_at us i ≡ Some e → is_stop (byte source e) ≡ true → ((h b : ℕ) → h < i → start_at us h ≡ Some b → is_stop (byte source b) ≡ false) → i ≡ length front
stop_index source [] front m rest i e k s c n a t f = absurd (no_start i e a)
stop_index source (w ∷ us) [] m rest zero e k s c n a t f = refl
stop_index source (w ∷ us) [] m rest (suc i) e k s c n a t f =
    let same = cons_same (symbol w) m (symbols us) rest s in
    let here : byte_stop (byte source w.start) ≡ symbol_stop m = k.0 ∙ ap symbol_stop same.0 in
    absurd (false≢true (sym (f 0 w.start (omega arith) refl) ∙ stop_true (byte source w.start) (λ z. n (sym here ∙ z))))
stop_index source (w ∷ us) (x ∷ front) m rest zero e k s c n a t f =
    let same = cons_same (symbol w) x (symbols us) (front ++ (m ∷ rest)) s in
    absurd (stop_some (byte source e) t (ap (λ p. byte_stop (byte source p)) (sym (start_cons w us e a)) ∙ (k.0 ∙ (ap symbol_stop same.0 ∙ c.0))))
stop_index source (w ∷ us) (x ∷ front) m rest (suc i) e k s c n a t f =
    let same = cons_same (symbol w) x (symbols us) (front ++ (m ∷ rest)) s in
    ap suc (stop_index source us front m rest i e k.1 same.1 c.1 n a t (λ h b l g. f (suc h) b (omega (arith, l)) g))

-- what follows it, and that it is this one
pub behind_stop : (us : List Word) (front : List Symbol) (m : Symbol) (rest : List Symbol) → symbols us ≡ front ++ (m ∷ rest) → symbols (drop (suc (length front)) us) ≡ rest
behind_stop [] [] m rest s = cc
behind_stop [] (x ∷ front) m rest s = cc
behind_stop (w ∷ us) [] m rest s = (cons_same (symbol w) m (symbols us) rest s).1
behind_stop (w ∷ us) (x ∷ front) m rest s = behind_stop us front m rest (cons_same (symbol w) x (symbols us) (front ++ (m ∷ rest)) s).1

pub mark_there : (source : List ℕ) (us : List Word) (front : List Symbol) (m : Symbol) (rest : List Symbol) (e : ℕ) → AreMarked source us → symbols us ≡ front ++ (m ∷ rest) → start_at us (length front) ≡ Some e → byte_stop (byte source e) ≡ symbol_stop m
mark_there source [] front m rest e k s a = absurd (no_start (length front) e a)
mark_there source (w ∷ us) [] m rest e k s a =
    ap (λ p. byte_stop (byte source p)) (sym (start_cons w us e a)) ∙ (k.0 ∙ ap symbol_stop (cons_same (symbol w) m (symbols us) rest s).0)
mark_there source (w ∷ us) (x ∷ front) m rest e k s a = mark_there source us front m rest e k.1 (cons_same (symbol w) x (symbols us) (front ++ (m ∷ rest)) s).1 a

pub record Found (source : List ℕ) (ws : List Word) (j at : ℕ) (m : Symbol) (rest : List Symbol) : Type 0 where
  pub is : byte_stop (byte source at) ≡ symbol_stop m
  pub behind : symbols (drop (j + 1) ws) ≡ rest

found : (source : List ℕ) (ws : List Word) (low k j at : ℕ) (front : List Symbol) (m : Symbol) (rest : List Symbol) → AreMarked source ws → IsStop source ws low k j at → symbols (drop k ws) ≡ front ++ (m ∷ rest) → Calm front
    → (symbol_stop m ≡ None → ⊥) → Found source ws j at m rest
found source ws low k j at front m rest a s e c n =
    let i = j - k in
    let place : k + i ≡ j = omega (arith, s.from) in
    let there : start_at (drop k ws) i ≡ Some at = start_drop ws k i ∙ (ap (start_at ws) place ∙ s.there) in
    let marked = marked_drop source ws k a in
    let index : i ≡ length front =
    stop_index source (drop k ws) front m rest i at marked e c n there s.mark
    (λ h b l f. s.first (k + h) b (omega arith) (omega (arith, l)) (sym (start_drop ws k h) ∙ f)) in
    let next : k + suc (length front) ≡ j + 1 = omega (arith, index, place) in
    record {
      is = mark_there source (drop k ws) front m rest at marked e (ap (start_at (drop k ws)) (sym index) ∙ there);
      behind = ap symbols (sym (drop_more ws k (suc (length front)) ∙ ap (λ n. drop n ws) next)) ∙ behind_stop (drop k ws) front m rest e;
    }

-- ---- A text and its words.

pub record Ground (source : List ℕ) (ws : List Word) : Type 0 where
  pub is_text : IsUtf8 source
  pub short : length source ≤ max_text
  pub cut : words_from 0 0 source ≡ Ok ws
  pub marked : AreMarked source ws

-- from a byte on it has the words from one on
abbrev pub Tail : (source : List ℕ) (ws : List Word) (at k : ℕ) → Type 0
Tail source ws at k = words_from 0 at (drop at source) ≡ Ok (drop k ws)

pub tail_at : (source : List ℕ) (ws : List Word) (k b : ℕ) → Ground source ws → start_at ws k ≡ Some b → Tail source ws b k
tail_at source ws k b g e = words_at (length source) source 0 source ws k b (omega arith) refl g.cut e

-- ---- Before a statement.

pub record Led (source : List ℕ) (ws : List Word) (k end : ℕ) (lead : Span) : Type 0 where
  pub tail : Tail source ws lead.from k
  pub boundary : IsCharBoundary source lead.from
  pub ordered : lead.from ≤ end

behind_feed : (source : List ℕ) (ws : List Word) (at end i k : ℕ) (l : Left) (ps : Parts) (c : Cut source at end right.Statement ps) → Tail source ws at k → end ≤ length source → i < end - at → byte (slice_range source at end) i ≡ 10 → pending 0 (slice_range source at end) i ≡ 0
    → Tail source ws (at + i + 1) k
behind_feed source ws at end i k l ps c t h low feed clean =
    let xs = drop at source in
    let front = take i xs in
    let size : length front ≡ i = length-take-le i xs (omega (arith, length-drop at source, low, h)) in
    let same : take i (slice_range source at end) ≡ front = take_take xs i (end - at) (omega (arith, low)) in
    let silent : words_from 0 at front ≡ Ok [] = ap (words_from 0 at) (sym same) ∙ front_silent i 0 0 at (begun c.left) c.scan (slice_range source at end) c.scanned (omega arith) clean in
    let there : byte xs i ≡ 10 = sym (byte_past source at xs i refl) ∙ (byte_there source at end i low ∙ feed) in
    let split : xs ≡ front ++ (10 ∷ drop (i + 1) xs) = sym (take-append-drop i xs) ∙ ap (λ r. front ++ r) (whole_drop xs i 10 (omega (arith, length-drop at source, low, h)) there) in
    let place : at + length front + 1 ≡ at + i + 1 = omega (arith, size) in
    let step : words_from 0 at xs ≡ words_from 0 (at + i + 1) (drop (i + 1) xs) =
    ap (words_from 0 at) split ∙ (line_ends at front (drop (i + 1) xs) [] silent ∙ (behind_none (words_from 0 (at + length front + 1) (drop (i + 1) xs)) ∙ from_place _ _ (drop (i + 1) xs) place)) in
    let rest : drop (i + 1) xs ≡ drop (at + i + 1) source = drop_more source at (i + 1) ∙ (let q : at + (i + 1) ≡ at + i + 1 = omega arith in ap (λ n. drop n source) q) in
    ap (words_from 0 (at + i + 1)) (sym rest) ∙ (sym step ∙ t)

led : (source : List ℕ) (ws : List Word) (l : Left) (at k end to : ℕ) (float lead : Span) → Ground source ws → IsCharBoundary source at → Tail source ws at k → IsGap source ws l right.Statement at k end to float lead → Led source ws k end lead
led source ws l at k end to float lead g a t gap =
    let c = cut_of source at end l right.Statement gap.parts gap.cut in
    let spot = (c.spots refl).1 in
    let n = gap.parts.trail + gap.parts.float in
    let from : lead.from ≡ at + n = ap (λ (s : Span). s.from) gap.lead_is ∙ omega (arith, gap.to_is) in
    record {
      tail = by c n spot.feeds from;
      boundary = subst (IsCharBoundary source) (sym from) (starts_there source at end n g.is_text gap.within a spot.starts);
      ordered = omega (arith, from, gap.whole);
    }
  where
    by : (c : Cut source at end right.Statement gap.parts) (n : ℕ) → Feeds (slice_range source at end) n → lead.from ≡ at + n → Tail source ws lead.from k
    by c n (inl e) f = let same : at ≡ lead.from = omega (arith, e, f) in subst (λ p. Tail source ws p k) same t
    by c n (inr e) f =
        let same : at + e.0 + 1 ≡ lead.from = omega (arith, e.1, f) in
        subst (λ p. Tail source ws p k) same (behind_feed source ws at end e.0 k l gap.parts c t gap.within (omega (arith, e.2, gap_length source at end gap.within)) e.3 e.4)

-- ---- Behind a statement.

pub record Trailed (source : List ℕ) (at to : ℕ) : Type 0 where
  pub silent : (p : ℕ) → words_from 0 p (slice_range source at to) ≡ Ok []
  pub ordered : at ≤ to
  pub within : to ≤ length source
  pub boundary : IsCharBoundary source to

trail_silent : (source : List ℕ) (at end t to p : ℕ) (l : Left) (r : Right) (ps : Parts) (c : Cut source at end r ps) → pending 0 (slice_range source at end) t ≡ 0 → at + t ≤ end → to ≡ at + t → words_from 0 p (slice_range source at to) ≡ Ok []
trail_silent source at end t to p l r ps c clean low e =
    let gap = slice_range source at end in
    let none : at + 0 ≡ at = omega arith in
    let far : at + 0 + t ≡ to = omega (arith, e) in
    let same : take t gap ≡ slice_range source at to = inner_part source at end 0 t (omega (arith, low)) ∙ (λ i. slice_range source (none i) (far i)) in
    ap (words_from 0 p) (sym same) ∙ front_silent t 0 0 p (begun c.left) c.scan gap c.scanned (omega arith) clean

statement_trail : (source : List ℕ) (ws : List Word) (l : Left) (at k end to : ℕ) (float lead : Span) → Ground source ws → IsCharBoundary source at → IsGap source ws l right.Statement at k end to float lead → Trailed source at to
statement_trail source ws l at k end to float lead g a gap =
    let c = cut_of source at end l right.Statement gap.parts gap.cut in
    record {
      silent = λ p. trail_silent source at end gap.parts.trail to p l right.Statement gap.parts c c.trail.clean (omega (arith, gap.whole)) gap.to_is;
      ordered = omega (arith, gap.to_is);
      within = omega (arith, gap.to_is, gap.whole, gap.within);
      boundary = subst (IsCharBoundary source) (sym gap.to_is) (starts_there source at end gap.parts.trail g.is_text gap.within a (c.spots refl).0.starts);
    }

end_trail : (source : List ℕ) (ws : List Word) (l : Left) (at k end to : ℕ) (float lead : Span) → Ground source ws → IsCharBoundary source at → IsGap source ws l right.End at k end to float lead → Trailed source at to
end_trail source ws l at k end to float lead g a gap =
    let c = cut_of source at end l right.End gap.parts gap.cut in
    record {
      silent = λ p. trail_silent source at end gap.parts.trail to p l right.End gap.parts c c.trail.clean (omega (arith, gap.whole)) gap.to_is;
      ordered = omega (arith, gap.to_is);
      within = omega (arith, gap.to_is, gap.whole, gap.within);
      boundary = subst (IsCharBoundary source) (sym gap.to_is)
          (boundary source at end gap.parts.trail g.is_text gap.ordered gap.within a (end_boundary source ws k end gap.within gap.behind) c.trail.edge);
    }

trailed : (source : List ℕ) (ws : List Word) (laid : Laid) (l : Left) (at to k : ℕ) (ps : List ItemPlace) (close n : ℕ) → Ground source ws → IsCharBoundary source at → Lie source ws laid l at to k ps close n → Trailed source at to
trailed source ws (ended last) l at to k ps close n g a h = end_trail source ws l at k close to h.0 h.1 g a h.2
trailed source ws (bare b rest) l at to k ps close n g a h = statement_trail source ws l at k b.words.from to b.float b.lead g a h.0
trailed source ws (braced b br body rest) l at to k ps close n g a h = statement_trail source ws l at k b.words.from to b.float b.lead g a h.0

-- ---- A statement with its lead and its trail.

abbrev sem : ℕ → Word
sem at = word (kinds.Mark Semicolon) at (59 ∷ [])

-- the words up to the semicolon j, and that one
pub record Cored (source : List ℕ) (ws : List Word) (k j from end to : ℕ) : Type 0 where
  pub front : List Word
  pub parts : drop k ws ≡ front ++ (sem end ∷ drop (j + 1) ws)
  pub cut : words_from 0 from (slice_range source from to) ≡ Ok (front ++ (sem end ∷ []))

cons_words : (end : ℕ) (r : Result (List Word) TextFault) (vs us : List Word) → before (sem end) r ≡ Ok us → r ≡ Ok vs → us ≡ sem end ∷ vs
cons_words end r vs us e f = same_words us (sem end ∷ vs) (sym e ∙ ap (before (sem end)) f)

cored : (source : List ℕ) (ws : List Word) (k j from end to : ℕ) → Ground source ws → Tail source ws from k → k ≤ j → start_at ws j ≡ Some end → from ≤ end → end < length source → byte source end ≡ 59 → Trailed source (end + 1) to → Cored source ws k j from end to
cored source ws k j from end to g t kj there low inside semi tr =
    let y = slice_range source from end in
    let r = drop (end + 1) source in
    let size : length y ≡ end - from = gap_length source from end (omega (arith, inside)) in
    let place : from + length y ≡ end = omega (arith, size, low) in
    let back : drop end source ≡ 59 ∷ r = whole_drop source end 59 inside semi in
    let split : drop from source ≡ y ++ (59 ∷ r) = drop_split source from end low ∙ ap (λ q. y ++ q) back in
    let i = j - k in
    let index : k + i ≡ j = omega (arith, kj) in
    let start : start_at (drop k ws) i ≡ Some (from + length y) = start_drop ws k i ∙ (ap (start_at ws) index ∙ (there ∙ ap Some (sym place))) in
    let p = parted (length y) from y r (drop k ws) (omega arith) (ap (words_from 0 from) (sym split) ∙ t) (has_start (drop k ws) i (from + length y) start) in
    let at_semi : words_from 0 end (59 ∷ r) ≡ Ok (drop j ws) = ap (words_from 0 end) (sym back) ∙ tail_at source ws j end g there in
    let rest : words_from 0 (end + 1) r ≡ Ok (drop (j + 1) ws) = behind_semi source ws j end inside semi (tail_at source ws j end g there) in
    let both : p.back ≡ drop j ws = same_words p.back (drop j ws) (sym p.rest ∙ (from_place _ _ (59 ∷ r) place ∙ at_semi)) in
    let word_j : drop j ws ≡ sem end ∷ drop (j + 1) ws = cons_words end (words_from 0 (end + 1) r) (drop (j + 1) ws) (drop j ws) (sym (semi_word end r) ∙ at_semi) rest in
    let trail = slice_range source (end + 1) to in
    let n = to - (end + 1) in
    let more : to - end ≡ suc n = omega (arith, tr.ordered) in
    let tail : slice_range source end to ≡ 59 ∷ trail = (λ q. take (more q) (back q)) in
    let text : slice_range source from to ≡ y ++ (59 ∷ trail) = sym (joined source from end to low (omega (arith, tr.ordered)) tr.within) ∙ ap (λ q. y ++ q) tail in
    record {
      front = p.front;
      parts = p.parts ∙ ap (λ vs. p.front ++ vs) (both ∙ word_j);
      cut = ap (words_from 0 from) text ∙ (p.any trail
          ∙ (ap (behind_words p.front) (from_place _ _ (59 ∷ trail) place ∙ (semi_word end trail ∙ ap (before (sem end)) (tr.silent (end + 1))))));
    }

pub alone_text : (source : List ℕ) (ws : List Word) (k j end : ℕ) (b : Bare) (st : Statement) (a : List Symbol) → Ground source ws → Led source ws k b.words.from b.lead → k ≤ j → start_at ws j ≡ Some end → b.words.from ≤ end → end < length source → byte source end ≡ 59
    → Trailed source (end + 1) b.trail.to → symbols (drop k ws) ≡ statement_words st a → symbols (drop (j + 1) ws) ≡ a → IsAlone source (statement_of b None) (statement_items st)
alone_text source ws k j end b st a g l kj there low inside semi tr front back =
    let from = b.lead.from in
    let to = b.trail.to in
    let far : from ≤ end = omega (arith, l.ordered, low) in
    let c = cored source ws k j from end to g l.tail kj there far inside semi tr in
    let last : symbols (c.front ++ (sem end ∷ [])) ++ a ≡ statement_words st [] ++ a =
    ap (λ z. z ++ a) (map-append symbol c.front (sem end ∷ []))
    ∙ (append_assoc (symbols c.front) (mark Semicolon ∷ []) a
    ∙ (ap (λ z. symbols c.front ++ (mark Semicolon ∷ z)) (sym back)
    ∙ (sym (map-append symbol c.front (sem end ∷ drop (j + 1) ws)) ∙ (ap symbols (sym c.parts) ∙ (front ∙ statement_goes st a))))) in
    let is : symbols (c.front ++ (sem end ∷ [])) ≡ statement_words st [] = cancel_right (symbols (c.front ++ (sem end ∷ []))) (statement_words st []) a last in
    let m = moved 0 from 0 (slice_range source from to) (c.front ++ (sem end ∷ [])) c.cut in
    let size : length (slice_range source from to) ≤ max_text = omega (arith, gap_length source from to tr.within, tr.within, g.short) in
    record {
      is_text = IsUtf8-between source from to g.is_text (omega (arith, far, tr.ordered)) l.boundary tr.boundary;
      spelled = record { ws = m.0; has_words = record { short = size; cut = m.1 }; spelled = (st, m.2 ∙ is, refl) };
    }

-- ---- The items of a statement.

pub from_all : (ps : List ItemPlace) → from_item 0 ps ≡ ps
from_all [] = refl
from_all (p ∷ ps) = refl

past_inner : (ws : List Word) (inner rest : List Spot) (more : List ItemPlace) (n : ℕ) → n ≡ length inner → drop n (map (place_of ws) (inner ++ rest) ++ more) ≡ map (place_of ws) rest ++ more
past_inner ws inner rest more n e =
    ap (λ k. drop k (map (place_of ws) (inner ++ rest) ++ more)) (e ∙ sym (length-map inner (place_of ws)))
    ∙ (ap (λ z. drop (length (map (place_of ws) inner)) (z ++ more)) (map-append (place_of ws) inner rest)
    ∙ (ap (drop (length (map (place_of ws) inner))) (append_assoc (map (place_of ws) inner) (map (place_of ws) rest) more)
    ∙ drop_front (map (place_of ws) inner) (map (place_of ws) rest ++ more)))

pub items_past : (ws : List Word) (n : ℕ) (ss : List Spot) (more : List ItemPlace) → Blocks n ss → from_item n (map (place_of ws) ss ++ more) ≡ more
items_past ws zero ss more b = ap (λ z. from_item 0 (map (place_of ws) z ++ more)) b ∙ from_all more
items_past ws (suc n) ss more b =
    ap (λ z. from_item (suc n) (map (place_of ws) z ++ more)) b.3
    ∙ (ap (from_item n) (past_inner ws b.1 b.2 more b.0.inside b.4) ∙ items_past ws n b.2 more b.5)

-- one of these items
pub record Item_at (ws : List Word) (lo hi i : ℕ) (ps : List ItemPlace) : Type 0 where
  pub spot : Spot
  pub rest : List ItemPlace
  pub is : from_item i ps ≡ place_of ws spot ∷ rest
  pub low : lo < spot.left
  pub high : spot.left ≤ hi

range_first : (lo hi : ℕ) (s : Spot) (ss ts : List Spot) → InRange lo hi (s ∷ (ss ++ ts)) → InRange lo hi ts
range_first lo hi s [] ts r = r.2
range_first lo hi s (x ∷ ss) ts r = range_first lo hi x ss ts r.2

pub items_at : (ws : List Word) (lo hi n i : ℕ) (ss : List Spot) (more : List ItemPlace) → Blocks n ss → InRange lo hi ss → i < n → Item_at ws lo hi i (map (place_of ws) ss ++ more)
items_at ws lo hi zero i ss more b r h = absurd (omega (arith, h))
items_at ws lo hi (suc n) zero ss more b r h =
    let r2 = subst (InRange lo hi) b.3 r in
    record {
      spot = b.0;
      rest = map (place_of ws) (b.1 ++ b.2) ++ more;
      is = ap (λ z. from_item 0 (map (place_of ws) z ++ more)) b.3;
      low = r2.0;
      high = r2.1;
    }
items_at ws lo hi (suc n) (suc i) ss more b r h =
    let r2 = range_first lo hi b.0 b.1 b.2 (subst (InRange lo hi) b.3 r) in
    let k = items_at ws lo hi n i b.2 more b.5 r2 (omega (arith, h)) in
    record {
      spot = k.spot;
      rest = k.rest;
      is = ap (λ z. from_item (suc i) (map (place_of ws) z ++ more)) b.3 ∙ (ap (from_item i) (past_inner ws b.1 b.2 more b.0.inside b.4) ∙ k.is);
      low = k.low;
      high = k.high;
    }

-- the word at which so many are left
pub place_there : (ws : List Word) (left : ℕ) → 0 < left → left ≤ length ws → start_at ws (length ws - left) ≡ Some (start_of ws left)
place_there ws left some h = at ws (length ws - left) (omega (arith, some, h))
  where
    at : (vs : List Word) (i : ℕ) → i < length vs → start_at vs i ≡ Some (option_map_or (λ (w : Word). w.start) (slice_get vs i) 0)
    at [] i l = absurd (omega (arith, l))
    at (v ∷ vs) zero l = refl
    at (v ∷ vs) (suc i) l = at vs i (omega (arith, l))

pub has_later : (ws : List Word) (k i b : ℕ) → k ≤ i → start_at ws i ≡ Some b → HasStart b (drop k ws)
has_later ws k i b h e =
    let place : k + (i - k) ≡ i = omega (arith, h) in has_start (drop k ws) (i - k) b (start_drop ws k (i - k) ∙ (ap (start_at ws) place ∙ e))

pub starts_behind : (source : List ℕ) (ws : List Word) (at k i b : ℕ) → Tail source ws at k → k ≤ i → start_at ws i ≡ Some b → at ≤ b
starts_behind source ws at k i b t h e = starts_low (length (drop at source)) at b (drop at source) (drop k ws) (omega arith) t (has_later ws k i b h e)

pub size_of : (ws : List Word) (k : ℕ) (xs : List Symbol) → symbols (drop k ws) ≡ xs → length ws - k ≡ length xs
size_of ws k xs e = omega (arith, length-drop k ws, length-map (drop k ws) symbol, ap length e)

-- one of a statement's words
pub in_words : (source : List ℕ) (ws : List Word) (k j from end lo hi left : ℕ) → Ground source ws → start_at ws k ≡ Some from → start_at ws j ≡ Some end → length ws - k ≡ hi → length ws - (j + 1) ≡ lo → k ≤ j → j < length ws → lo < left → left ≤ hi
    → (from ≤ start_of ws left) × (start_of ws left ≤ end)
in_words source ws k j from end lo hi left g a b h l kj jl low high =
    let i = length ws - left in
    let there = place_there ws left (omega (arith, low)) (omega (arith, high, h)) in (
      starts_behind source ws from k i (start_of ws left) (tail_at source ws k from g a) (omega (arith, high, h, kj, jl)) there,
      starts_behind source ws (start_of ws left) i j end (tail_at source ws i (start_of ws left) g there) (omega (arith, low, l, jl)) b,
    )

-- it has a start, so it is one of the words
pub word_within : (ws : List Word) (j e : ℕ) → start_at ws j ≡ Some e → j < length ws
word_within [] j e h = absurd (no_start j e h)
word_within (w ∷ ws) zero e h = omega arith
word_within (w ∷ ws) (suc j) e h = omega (arith, word_within ws j e h)

-- what lies behind a statement has no item among its words
abbrev Past : (from to : ℕ) → List ItemPlace → Type 0
Past from to ps = (s : Span) → s.from ≡ from → s.to ≡ to → BeginsIn s ps → ⊥

past_next : (b c : Bare) (at end to k : ℕ) (source : List ℕ) (ws : List Word) (l : Left) (ps : List ItemPlace) → at ≡ c.words.to → IsGap source ws l right.Statement at k b.words.from to b.float b.lead → Has end ps b → BeginsIn c.words ps → ⊥
past_next b c at end to k source ws l ps e gap h i = by ps (subst (BeginsIn b.words) (from_all ps) (h.items 0 h.some)) i
  where
    by : (ps : List ItemPlace) → BeginsIn b.words ps → BeginsIn c.words ps → ⊥
    by [] h i = h
    by (p ∷ ps) h i = omega (arith, h.0, i.1, gap.ordered, e)

past_lie : (source : List ℕ) (ws : List Word) (laid : Laid) (l : Left) (at to k : ℕ) (ps : List ItemPlace) (close n : ℕ) (c : Bare) → at ≡ c.words.to → Lie source ws laid l at to k ps close n → BeginsIn c.words ps → ⊥
past_lie source ws (ended last) l at to k ps close n c e h i = subst (BeginsIn c.words) h.4 i
past_lie source ws (bare b rest) l at to k ps close n c e h i = past_next b c at h.2 to k source ws l ps e h.0 h.5 i
past_lie source ws (braced b br body rest) l at to k ps close n c e h i = past_next b c at h.8 to k source ws l ps e h.0 h.10 i

-- a statement has as many items as it spells
pub count_is : (source : List ℕ) (ws : List Word) (rest : Laid) (k j end : ℕ) (b : Bare) (st : Statement) (a : List Symbol) (more : List Spot) (ps : List ItemPlace) (to close n : ℕ) → Ground source ws → start_at ws k ≡ Some b.words.from → start_at ws j ≡ Some end → k ≤ j
    → symbols (drop k ws) ≡ statement_words st a → symbols (drop (j + 1) ws) ≡ a → Tail source ws (end + 1) (j + 1) → InRange 0 (length a) more → ps ≡ map (place_of ws) (statement_spots st a) ++ map (place_of ws) more → Has end ps b
    → Lie source ws rest left.Word b.words.to to (j + 1) (from_item b.items ps) close n → b.items ≡ length (statement_items st)
count_is source ws rest k j end b st a more ps to close n g first last kj front back tail range places h lie =
    let N = length (statement_items st) in
    elim (cases_lt b.items N) [
      | inl fewer ↦ absurd (past_lie source ws rest left.Word b.words.to to (j + 1) (from_item b.items ps) close n b refl lie (here b.items fewer))
      | inr others ↦ elim (cases_lt N b.items) [
        | inl more_items ↦ absurd (not_behind more range (subst (BeginsIn b.words) past (h.items N more_items)))
        | inr same ↦ omega (arith, others, same)
      ]
    ]
  where
    past : from_item (length (statement_items st)) ps ≡ map (place_of ws) more
    past = ap (from_item (length (statement_items st))) places ∙ items_past ws (length (statement_items st)) (statement_spots st a) (map (place_of ws) more) (statement_blocks st a)

    here : (i : ℕ) → i < length (statement_items st) → BeginsIn b.words (from_item i ps)
    here i low =
        let x = items_at ws (length a) (length (statement_words st a)) (length (statement_items st)) i (statement_spots st a) (map (place_of ws) more) (statement_blocks st a) (statement-range st a) low in
        let is : from_item i ps ≡ place_of ws x.spot ∷ x.rest = ap (from_item i) places ∙ x.is in
        let inside = in_words source ws k j b.words.from end (length a) (length (statement_words st a)) x.spot.left g first last (size_of ws k (statement_words st a) front) (size_of ws (j + 1) a back) kj (word_within ws j end last) x.low x.high in
        subst (BeginsIn b.words) (sym is) (inside.0, omega (arith, inside.1, h.words_end))

    not_behind : (more : List Spot) → InRange 0 (length a) more → BeginsIn b.words (map (place_of ws) more) → ⊥
    not_behind [] r i = i
    not_behind (s ∷ ss) r i =
        let size = size_of ws (j + 1) a back in
        let there = place_there ws s.left r.0 (omega (arith, r.1, size)) in
        let low = starts_behind source ws (end + 1) (j + 1) (length ws - s.left) (start_of ws s.left) tail (omega (arith, r.0, r.1, size, word_within ws j end last)) there in
        omega (arith, low, i.1, h.words_end)

-- ---- All statements.

some_same : (a b : Statements) → ◌≡◌ {A = Option Statements} (Some a) (Some b) → a ≡ b
some_same a b e = cc

-- a body ends behind its begin
pub lie_forward : (source : List ℕ) (ws : List Word) (laid : Laid) (l : Left) (at to k : ℕ) (ps : List ItemPlace) (close n : ℕ) → Lie source ws laid l at to k ps close n → (k ≤ n) × (at ≤ close)
lie_forward source ws (ended last) l at to k ps close n h = (omega (arith, h.5), h.2.ordered)
lie_forward source ws (bare b rest) l at to k ps close n h =
    let r = lie_forward source ws rest left.Word b.words.to b.trail.to (h.1 + 1) (from_item b.items ps) close n h.6 in
    (omega (arith, h.3.0.from, r.0), omega (arith, h.0.ordered, h.3.0.ordered, h.5.words_end, r.1))
lie_forward source ws (braced b br body rest) l at to k ps close n h =
    let i = lie_forward source ws body left.Word (h.2 + 1) br.begin (h.1 + 1) (inside_first ps) br.close h.4 h.5 in
    let r = lie_forward source ws rest left.Word b.words.to b.trail.to (h.7 + 1) (from_item b.items ps) close n h.11 in
    (omega (arith, h.3.0.from, i.0, h.9.0.from, r.0), omega (arith, h.0.ordered, h.3.0.ordered, i.1, h.9.0.ordered, h.10.words_end, r.1))

depth-add : (x : Item) (t : Items) → tree.depth (add x t) ≡ max (tree.depth (add x no_items)) (tree.depth t)
depth-add (Define n c) t = omega arith
depth-add (Instance s (Named n)) t = omega arith
depth-add (Instance s (Anonymous c)) t = omega arith
depth-add (Own p v) t = omega arith
depth-add (Default p v) t = omega arith
depth-add (Dynamic n p v) t = omega arith

deep_back : (xs ys : List Item) → tree.depth (items_of ys) ≤ tree.depth (items_of (xs ++ ys))
deep_back [] ys = omega arith
deep_back (x ∷ xs) ys = omega (arith, depth-add x (items_of (xs ++ ys)), deep_back xs ys)

deep_front : (xs ys : List Item) → tree.depth (items_of xs) ≤ tree.depth (items_of (xs ++ ys))
deep_front [] ys = omega arith
deep_front (x ∷ xs) ys = omega (arith, depth-add x (items_of xs), depth-add x (items_of (xs ++ ys)), deep_front xs ys)

deep_body : (st : Statement) (t : Statements) → body_of st ≡ Some t → tree.depth (items_of (items t)) + 1 ≤ tree.depth (items_of (statement_items st))
deep_body (define k n body) t e = let same = ap (λ s. tree.depth (items_of (items s))) (some_same body t e) in omega (arith, same)
deep_body (define_with o k n body i is) t e = let same = ap (λ s. tree.depth (items_of (items s))) (some_same body t e) in omega (arith, same)
deep_body (anonymous o k body i is) t e = let same = ap (λ s. tree.depth (items_of (items s))) (some_same body t e) in omega (arith, same)
deep_body (named o n i is) t e = cc
deep_body (own p v) t e = cc
deep_body (default p v) t e = cc
deep_body (dynamic n ns p v) t e = cc

pub record Stood (source : List ℕ) (ws : List Word) (laid : Laid) (xs : List Item) (n : ℕ) (after : List Symbol) : Type 0 where
  pub alone : StandAlone source laid xs
  pub shallow : depth laid ≤ tree.depth (items_of xs)
  pub behind : symbols (drop n ws) ≡ after

no_places : (ws : List Word) (st : Statement) (a : List Symbol) (more : List Spot) (ps : List ItemPlace) → ps ≡ map (place_of ws) (statement_spots st a ++ more) → ps ≡ [] → ⊥
no_places ws st a more ps e f = by (length (statement_items st)) (some_items st) (statement_spots st a) (statement_blocks st a) (sym e ∙ f)
  where
    by : (n : ℕ) → 0 < n → (ss : List Spot) → Blocks n ss → map (place_of ws) (ss ++ more) ≡ [] → ⊥
    by zero h ss b k = omega (arith, h)
    by (suc n) h ss b k = none (sym (ap (λ z. map (place_of ws) (z ++ more)) b.3) ∙ k)
      where
        none : place_of ws b.0 ∷ map (place_of ws) ((b.1 ++ b.2) ++ more) ≡ [] → ⊥
        none k = cc

some_begin : (b : Bare) (ps : List ItemPlace) → BeginsIn b.words ps → ps ≡ [] → ⊥
some_begin b ps h e = subst (BeginsIn b.words) e h

pub split_places : (ws : List Word) (st : Statement) (ss : Statements) (after : List Symbol) (ps : List ItemPlace) → ps ≡ map (place_of ws) (spots (one st ss) after)
    → ps ≡ map (place_of ws) (statement_spots st (grammar_words ss after)) ++ map (place_of ws) (spots ss after)
split_places ws st ss after ps e = e ∙ map-append (place_of ws) (statement_spots st (grammar_words ss after)) (spots ss after)

-- what stands before a statement, and where its words begin
first_word : (source : List ℕ) (ws : List Word) (l : Left) (at k end to : ℕ) (float lead : Span) → IsGap source ws l right.Statement at k end to float lead → start_at ws k ≡ Some end
first_word source ws l at k end to float lead g = by (start_at ws k) g.behind
  where
    by : (o : Option ℕ) → StandsBehind source right.Statement end o → o ≡ Some end
    by None h = absurd h
    by (Some start) h = ap Some (sym h.0)

pub front_items : (n : ℕ) (st : Statement) (xs : List Item) → n ≡ length (statement_items st) → take n (statement_items st ++ xs) ≡ statement_items st
front_items n st xs e = ap (λ k. take k (statement_items st ++ xs)) e ∙ take_front (statement_items st) xs

pub back_items : (n : ℕ) (st : Statement) (xs : List Item) → n ≡ length (statement_items st) → drop n (statement_items st ++ xs) ≡ xs
back_items n st xs e = ap (λ k. drop k (statement_items st ++ xs)) e ∙ drop_front (statement_items st) xs

pub semi_stop : symbol_stop (mark Semicolon) ≡ None → ⊥
semi_stop e = cc

pub open_stop : symbol_stop (mark OpenBrace) ≡ None → ⊥
open_stop e = cc

close_stop : symbol_stop (mark CloseBrace) ≡ None → ⊥
close_stop e = cc

semi_open : ◌≡◌ {A = Option Mark} (Some Semicolon) (Some OpenBrace) → ⊥
semi_open e = cc

pub low_range : (ss : Statements) (after : List Symbol) → InRange 0 (length (grammar_words ss after)) (spots ss after)
low_range ss after = wider (length after) (length (grammar_words ss after)) 0 (length (grammar_words ss after)) (spots ss after) (omega arith) (omega arith) (spots-range ss after)

-- a statement by itself, and those behind it
record One (source : List ℕ) (ws : List Word) (b : Bare) (st : Statement) (a : List Symbol) (j end : ℕ) (ps : List ItemPlace) (more : List Spot) : Type 0 where
  pub alone : IsAlone source (statement_of b None) (statement_items st)
  pub count : b.items ≡ length (statement_items st)
  pub tail : Tail source ws b.words.to (j + 1)
  pub boundary : IsCharBoundary source b.words.to
  pub places : from_item b.items ps ≡ map (place_of ws) more

one_statement : (source : List ℕ) (ws : List Word) (l : Left) (at to k j end : ℕ) (b : Bare) (st : Statement) (a : List Symbol) (ps : List ItemPlace) (more : List Spot) (rest : Laid) (close n : ℕ) → Ground source ws → IsCharBoundary source at → Tail source ws at k
    → IsGap source ws l right.Statement at k b.words.from to b.float b.lead → start_at ws j ≡ Some end → k ≤ j → b.words.from ≤ end → end < length source → byte source end ≡ 59
    → symbols (drop k ws) ≡ statement_words st a → symbols (drop (j + 1) ws) ≡ a → InRange 0 (length a) more → ps ≡ map (place_of ws) (statement_spots st a) ++ map (place_of ws) more → Has end ps b
    → Lie source ws rest left.Word b.words.to b.trail.to (j + 1) (from_item b.items ps) close n → One source ws b st a j end ps more
one_statement source ws l at to k j end b st a ps more rest close n g bound t gap last kj low inside semi front back range places h lie =
    let first = first_word source ws l at k b.words.from to b.float b.lead gap in
    let here : Tail source ws (end + 1) (j + 1) = behind_semi source ws j end inside semi (tail_at source ws j end g last) in
    let behind : IsCharBoundary source b.words.to = behind_byte source end b.words.to 59 g.is_text inside semi (omega arith) h.words_end in
    let trail : Trailed source (end + 1) b.trail.to = subst (λ p. Trailed source p b.trail.to) h.words_end (trailed source ws rest left.Word b.words.to b.trail.to (j + 1) (from_item b.items ps) close n g behind lie) in
    let size = count_is source ws rest k j end b st a more ps b.trail.to close n g first last kj front back here range places h lie in
    record {
      alone = alone_text source ws k j end b st a g (led source ws l at k b.words.from to b.float b.lead g bound t gap) kj last low inside semi trail front back;
      count = size;
      tail = subst (λ p. Tail source ws p (j + 1)) (sym h.words_end) here;
      boundary = behind;
      places = ap (λ i. from_item i ps) size ∙ (ap (from_item (length (statement_items st))) places ∙ items_past ws (length (statement_items st)) (statement_spots st a) (map (place_of ws) more) (statement_blocks st a));
    }

in_bodies : (P : Items → Type 0) (of : Outside) (o : Of) (is : List Inst) → InBody P (own_body (instance of o (record { name = []; brackets = sizes []; reset = None; address = None; stride = None; align = None }))) → InBodies P (map (instance of o) is)
in_bodies P of (Named n) [] h = tt
in_bodies P of (Named n) (i ∷ is) h = (tt, in_bodies P of (Named n) is h)
in_bodies P of (Anonymous c) [] h = tt
in_bodies P of (Anonymous c) (i ∷ is) h = (h, in_bodies P of (Anonymous c) is h)

statement_bodies : (P : Items → Type 0) (st : Statement) (t : Statements) → body_of st ≡ Some t → P (items_of (items t)) → InBodies P (statement_items st)
statement_bodies P (define k n body) t e h = (subst (λ s. P (items_of (items s))) (sym (some_same body t e)) h, tt)
statement_bodies P (define_with o k n body i is) t e h = (subst (λ s. P (items_of (items s))) (sym (some_same body t e)) h, (tt, in_bodies P _ (Named n) is tt))
statement_bodies P (anonymous o k body i is) t e h =
    let p = subst (λ s. P (items_of (items s))) (sym (some_same body t e)) h in (p, in_bodies P _ (Anonymous _) is p)
statement_bodies P (named o n i is) t e h = cc
statement_bodies P (own p v) t e h = cc
statement_bodies P (default p v) t e h = cc
statement_bodies P (dynamic n ns p v) t e h = cc

pub body_found : (st : Statement) → (body_of st ≡ None) ⊎ ((t : Statements) × (body_of st ≡ Some t))
body_found st = by (body_of st) refl
  where
    by : (o : Option Statements) → body_of st ≡ o → (body_of st ≡ None) ⊎ ((t : Statements) × (body_of st ≡ Some t))
    by None e = inl e
    by (Some t) e = inr (t, e)

-- where a statement stops first, its words being these
stops_plain : (source : List ℕ) (ws : List Word) (k j end from : ℕ) (st : Statement) (a : List Symbol) → Ground source ws → Closes source ws from k j end → symbols (drop k ws) ≡ statement_words st a → symbols (drop (j + 1) ws) ≡ a
stops_plain source ws k j end from st a g s e = by (body_found st)
  where
    stop_59 : byte_stop (byte source end) ≡ Some Semicolon
    stop_59 = ap byte_stop s.1

    by : (body_of st ≡ None) ⊎ ((t : Statements) × (body_of st ≡ Some t)) → symbols (drop (j + 1) ws) ≡ a
    by (inl f) = (found source ws from k j end (front_of st) (mark Semicolon) a g.marked s.0 (e ∙ form_plain st a f) (calm-front st) semi_stop).behind
    by (inr f) =
        let r = found source ws from k j end (front_of st) (mark OpenBrace) (grammar_words f.0 (closed st a)) g.marked s.0 (e ∙ form_body st f.0 a f.1) (calm-front st) open_stop in
        absurd (semi_open (sym stop_59 ∙ r.is))

record Opened (source : List ℕ) (ws : List Word) (o : ℕ) (st : Statement) (a : List Symbol) : Type 0 where
  pub body : Statements
  pub is : body_of st ≡ Some body
  pub behind : symbols (drop (o + 1) ws) ≡ grammar_words body (closed st a)

stops_open : (source : List ℕ) (ws : List Word) (k o brace from : ℕ) (st : Statement) (a : List Symbol) → Ground source ws → Opens source ws from k o brace → symbols (drop k ws) ≡ statement_words st a → Opened source ws o st a
stops_open source ws k o brace from st a g s e = by (body_found st)
  where
    stop_123 : byte_stop (byte source brace) ≡ Some OpenBrace
    stop_123 = ap byte_stop s.1

    by : (body_of st ≡ None) ⊎ ((t : Statements) × (body_of st ≡ Some t)) → Opened source ws o st a
    by (inl f) =
        let r = found source ws from k o brace (front_of st) (mark Semicolon) a g.marked s.0 (e ∙ form_plain st a f) (calm-front st) semi_stop in absurd (semi_open (sym r.is ∙ stop_123))
    by (inr f) =
        let r = found source ws from k o brace (front_of st) (mark OpenBrace) (grammar_words f.0 (closed st a)) g.marked s.0 (e ∙ form_body st f.0 a f.1) (calm-front st) open_stop in
        record { body = f.0; is = f.1; behind = r.behind }

-- behind the brace that closes
pub next_symbols : (ws : List Word) (c : ℕ) (m : Symbol) (rest : List Symbol) → symbols (drop c ws) ≡ m ∷ rest → symbols (drop (c + 1) ws) ≡ rest
next_symbols ws c m rest e = ap symbols (sym (drop_more ws c 1)) ∙ by (drop c ws) e
  where
    by : (us : List Word) → symbols us ≡ m ∷ rest → symbols (drop 1 us) ≡ rest
    by [] e = cc
    by (w ∷ us) e = (cons_same (symbol w) m (symbols us) rest e).1

pub inside_places : (ws : List Word) (st : Statement) (t : Statements) (a : List Symbol) (more : List ItemPlace) (ps : List ItemPlace) → body_of st ≡ Some t → ps ≡ map (place_of ws) (statement_spots st a) ++ more → inside_first ps ≡ map (place_of ws) (spots t (closed st a))
inside_places ws st t a more ps e f =
    let r = first_inside st t a e in
    let inner = spots t (closed st a) in
    let is : ps ≡ place_of ws r.first ∷ (map (place_of ws) inner ++ (map (place_of ws) r.rest ++ more)) =
    f ∙ (ap (λ z. map (place_of ws) z ++ more) r.parts ∙ ap (λ z. place_of ws r.first ∷ z) (ap (λ z. z ++ more) (map-append (place_of ws) inner r.rest) ∙ append_assoc (map (place_of ws) inner) (map (place_of ws) r.rest) more)) in
    ap inside_first is
    ∙ (ap (λ n. take n (map (place_of ws) inner ++ (map (place_of ws) r.rest ++ more))) (r.size ∙ sym (length-map inner (place_of ws)))
    ∙ take_front (map (place_of ws) inner) (map (place_of ws) r.rest ++ more))

stand : (source : List ℕ) (ws : List Word) (laid : Laid) (l : Left) (at to k : ℕ) (ps : List ItemPlace) (close n : ℕ) (t : Statements) (after : List Symbol) → Ground source ws → IsCharBoundary source at → Tail source ws at k → Lie source ws laid l at to k ps close n
    → symbols (drop k ws) ≡ grammar_words t after → ps ≡ map (place_of ws) (spots t after) → Stood source ws laid (items t) n after
stand source ws (ended last) l at to k ps close n none after g bound tail h e f = record { alone = tt; shallow = omega arith; behind = ap (λ i. symbols (drop i ws)) (sym h.5) ∙ e }
stand source ws (ended last) l at to k ps close n (one st ss) after g bound tail h e f = absurd (no_places ws st (grammar_words ss after) (spots ss after) ps f h.4)
stand source ws (bare b rest) l at to k ps close n none after g bound tail h e f = absurd (some_begin b (from_item 0 ps) (h.5.items 0 h.5.some) (from_all ps ∙ f))
stand source ws (bare b rest) l at to k ps close n (one st ss) after g bound tail h e f =
    let a = grammar_words ss after in
    let j = h.1 in
    let end = h.2 in
    let places = split_places ws st ss after ps f in
    let back = stops_plain source ws k j end b.words.from st a g h.3 e in
    let this = one_statement source ws l at to k j end b st a ps (spots ss after) rest close n g bound tail h.0 h.3.0.there h.3.0.from h.3.0.ordered h.3.0.within h.3.1 e back (low_range ss after) places h.5 h.6 in
    let later = stand source ws rest left.Word b.words.to b.trail.to (j + 1) (from_item b.items ps) close n ss after g this.boundary this.tail h.6 back this.places in
    record {
      alone = (
        subst (IsAlone source (statement_of b None)) (sym (front_items b.items st (items ss) this.count)) this.alone,
        subst (StandAlone source rest) (sym (back_items b.items st (items ss) this.count)) later.alone,
      );
      shallow = omega (arith, later.shallow, deep_back (statement_items st) (items ss));
      behind = later.behind;
    }
stand source ws (braced b br body rest) l at to k ps close n none after g bound tail h e f = absurd (some_begin b (from_item 0 ps) (h.10.items 0 h.10.some) (from_all ps ∙ f))
stand source ws (braced b br body rest) l at to k ps close n (one st ss) after g bound tail h e f =
    let a = grammar_words ss after in
    let o = h.1 in
    let brace = h.2 in
    let c = h.4 in
    let j = h.7 in
    let end = h.8 in
    let places = split_places ws st ss after ps f in
    let opened = stops_open source ws k o brace b.words.from st a g h.3 e in
    let inner_bound : IsCharBoundary source (brace + 1) = behind_byte source brace (brace + 1) 123 g.is_text h.3.0.within h.3.1 (omega arith) refl in
    let inner_tail : Tail source ws (brace + 1) (o + 1) = behind_brace source ws o brace h.3.0.within h.3.1 (tail_at source ws o brace g h.3.0.there) in
    let inside = stand source ws body left.Word (brace + 1) br.begin (o + 1) (inside_first ps) br.close c opened.body (closed st a) g inner_bound inner_tail h.5 opened.behind
    (inside_places ws st opened.body a (map (place_of ws) (spots ss after)) ps opened.is places) in
    let past : symbols (drop (c + 1) ws) ≡ back_of st ++ (mark Semicolon ∷ a) = next_symbols ws c (mark CloseBrace) (back_of st ++ (mark Semicolon ∷ a)) inside.behind in
    let back = (found source ws br.close (c + 1) j end (back_of st) (mark Semicolon) a g.marked h.9.0 past (calm-back st) semi_stop).behind in
    let wide = lie_forward source ws body left.Word (brace + 1) br.begin (o + 1) (inside_first ps) br.close c h.5 in
    let this = one_statement source ws l at to k j end b st a ps (spots ss after) rest close n g bound tail h.0 h.9.0.there (omega (arith, h.3.0.from, wide.0, h.9.0.from)) (omega (arith, h.3.0.ordered, wide.1, h.9.0.ordered)) h.9.0.within h.9.1 e back (low_range ss after) places h.10 h.11 in
    let later = stand source ws rest left.Word b.words.to b.trail.to (j + 1) (from_item b.items ps) close n ss after g this.boundary this.tail h.11 back this.places in
    record {
      alone = (
        subst (IsAlone source (statement_of b None)) (sym (front_items b.items st (items ss) this.count)) this.alone,
        subst (InBodies (λ y. StandAlone source body (list_of y))) (sym (front_items b.items st (items ss) this.count))
            (statement_bodies (λ y. StandAlone source body (list_of y)) st opened.body opened.is (subst (StandAlone source body) (sym (list_of-items_of (items opened.body))) inside.alone)),
        subst (StandAlone source rest) (sym (back_items b.items st (items ss) this.count)) later.alone,
      );
      shallow = omega (arith, later.shallow, inside.shallow, deep_body st opened.body opened.is, deep_back (statement_items st) (items ss), deep_front (statement_items st) (items ss));
      behind = later.behind;
    }

all_stand : (source : List ℕ) (ws : List Word) (d : Items) (p : Located) (laid : Laid) → IsUtf8 source → HasWords source ws → (s : SpellsText source d p) → IsLaidOut source ws p.places laid → Stood source ws laid (items s.spelled.0) (length ws) []
all_stand source ws d p laid u h s lie =
    let same : s.ws ≡ ws = same_words s.ws ws (sym s.has_words.cut ∙ h.cut) in
    let ground : Ground source ws = record { is_text = u; short = h.short; cut = h.cut; marked = all_marked (length source) source 0 source ws (omega arith) refl h.cut } in
    let t = s.spelled.0 in
    let spelled : symbols ws ≡ grammar_words t [] = ap symbols (sym same) ∙ s.spelled.1 in
    let places : p.places ≡ map (place_of ws) (spots t []) = ap (λ (q : Located). q.places) s.places_are ∙ (λ i. map (place_of (same i)) (s.spelled.3 i)) in
    stand source ws laid left.Begin 0 0 0 p.places (length source) (length ws) t [] ground (IsCharBoundary-start source u) h.cut lie spelled places

pub statements_alone : (source : List ℕ) (ws : List Word) (d : Items) (p : Located) (laid : Laid) → IsUtf8 source → HasWords source ws → SpellsText source d p → IsLaidOut source ws p.places laid → StandAlone source laid (list_of d)
statements_alone source ws d p laid u h s lie =
    subst (StandAlone source laid) (sym (ap list_of s.spelled.2 ∙ list_of-items_of (items s.spelled.0))) (all_stand source ws d p laid u h s lie).alone

pub statements_shallow : (source : List ℕ) (ws : List Word) (d : Items) (p : Located) (laid : Laid) → IsUtf8 source → HasWords source ws → SpellsText source d p → IsLaidOut source ws p.places laid → depth laid ≤ tree.depth d
statements_shallow source ws d p laid u h s lie =
    subst (λ t. depth laid ≤ tree.depth t) (sym s.spelled.2) (all_stand source ws d p laid u h s lie).shallow
