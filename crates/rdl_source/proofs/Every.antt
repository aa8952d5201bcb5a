-- Each text that spells a map has statements.
use Rattle.std.proofs.Common.{◌≡◌, ℕ, zero, suc, ◌+◌, ◌-◌, ◌<◌, ◌≤◌, Bool, true, false, cond, List, [], ◌∷◌, ◌++◌, length, drop, map, Option, Some, None, Ok, inl, inr, ◌⊎◌, refl, sym, ◌∙◌, ap, subst, arith}
use Rattle.std.proofs.lemmas.Bool.{eqb-true, cases_lt}
use Rattle.std.proofs.lemmas.List.{length-drop}
use Rattle.std.specs.Prelude.{nat_eq, slice_range}
use Rattle.std.specs.Option.{option_map}
use Rattle.std.specs.Str.{IsUtf8}
use Rattle.rdl_text.specs.Rows.{byte}
use Rattle.rdl_text.specs.Word.{Word}
use Rattle.rdl_text.specs.declared.token.Mark.{Mark}
use Rattle.rdl_text.specs.declared.token.Mark.TheVariants.{OpenBrace, CloseBrace, Semicolon}
use Rattle.rdl_text.proofs.Following.{words-end}
use Rattle.rdl_tree.specs.Items.{Items}
use Rattle.rdl_tree.specs.declared.shell.Outside.{Outside}
use Rattle.rdl_parse.specs.Parsing.{HasWords, SpellsText}
use Rattle.rdl_parse.specs.Places.{Located, place_of, from_item, inside_first}
use Rattle.rdl_parse.specs.Spelling.{Statement, Statements, define, define_with, anonymous, named, own, default, dynamic, none, one, outside_words, at_front, statement_words, words as grammar_words, statement_items, statement_spots, spots}
use Rattle.rdl_parse.specs.Symbol.{Symbol, mark, symbol, symbols}
use Rattle.rdl_parse.specs.declared.places.ItemPlace.{ItemPlace}
use Rattle.rdl_source.specs.Laid.{Bare, Braces, Laid, ended, bare, braced}
use Rattle.rdl_source.specs.LaidOut.{start_at, is_stop, StandsBehind, IsGap, IsStop, BeginsIn, Has, Lie, IsLaidOut}
use Rattle.rdl_source.specs.declared.gap.Left.{Left}
use Rattle.rdl_source.specs.declared.gap.Left.TheVariants as left
use Rattle.rdl_source.specs.Gap.{comment_len, begun, line_ended, comment_ended, scan_from, trail_end, parts_of, gap_parts}
use Rattle.rdl_source.specs.declared.gap.Parts.{Parts}
use Rattle.rdl_source.specs.declared.gap.Right.{Right}
use Rattle.rdl_source.specs.declared.gap.Right.TheVariants as right
use Rattle.rdl_source.specs.declared.gap.Scan.{Scan}
use Rattle.rdl_source.specs.declared.span.Span.{Span}
use Rattle.rdl_source.proofs.Beside.{same_words}
use Rattle.rdl_source.proofs.Cuts.{IsFeed, IsBlank, IsComment, goes_on}
use Rattle.rdl_source.proofs.Gaps.{IsFirst, Gapped, gap_to}
use Rattle.rdl_source.proofs.Marked.{byte_stop, symbol_stop, AreMarked, all_marked, behind_semi, behind_brace, marked_drop}
use Rattle.rdl_source.proofs.NoWord.{mapped}
use Rattle.rdl_source.proofs.Spelled.{Calm, body_of, front_of, back_of, calm-front, calm-back, form_plain, form_body, closed, statement-range, statement_blocks, some_items}
use Rattle.rdl_source.proofs.Standing.{Ground, Tail, tail_at, no_start, start_cons, start_drop, drop_more, cons_same, stop_true, stop_some, mark_there, behind_stop, lie_forward, items_at, items_past, in_words, size_of, word_within, starts_behind, next_symbols, body_found, split_places, inside_places}
use Rattle.rdl_source.proofs.Whole.{end_at, laid_out}

-- ---- Bytes of semicolons and braces.

mark_59 : (c : ℕ) → byte_stop c ≡ Some Semicolon → c ≡ 59
mark_59 c e = by (nat_eq c 59) (nat_eq c 123) (nat_eq c 125) refl e
  where
    by : (a b d : Bool) → nat_eq c 59 ≡ a → cond a (Some Semicolon) (cond b (Some OpenBrace) (cond d (Some CloseBrace) None)) ≡ Some Semicolon → c ≡ 59
    by true b d f g = eqb-true c 59 f
    by false true d f g = cc
    by false false true f g = cc
    by false false false f g = cc

mark_123 : (c : ℕ) → byte_stop c ≡ Some OpenBrace → c ≡ 123
mark_123 c e = by (nat_eq c 59) (nat_eq c 123) (nat_eq c 125) refl e
  where
    by : (a b d : Bool) → nat_eq c 123 ≡ b → cond a (Some Semicolon) (cond b (Some OpenBrace) (cond d (Some CloseBrace) None)) ≡ Some OpenBrace → c ≡ 123
    by true b d f g = cc
    by false true d f g = eqb-true c 123 f
    by false false true f g = cc
    by false false false f g = cc

mark_125 : (c : ℕ) → byte_stop c ≡ Some CloseBrace → c ≡ 125
mark_125 c e = by (nat_eq c 59) (nat_eq c 123) (nat_eq c 125) refl e
  where
    by : (a b d : Bool) → nat_eq c 125 ≡ d → cond a (Some Semicolon) (cond b (Some OpenBrace) (cond d (Some CloseBrace) None)) ≡ Some CloseBrace → c ≡ 125
    by true b d f g = cc
    by false true d f g = cc
    by false false true f g = eqb-true c 125 f
    by false false false f g = cc

calm_125 : (c : ℕ) → byte_stop c ≡ None → c ≡ 125 → ⊥
calm_125 c e f = other (sym (ap byte_stop f) ∙ e)
  where
    other : ◌≡◌ {A = Option Mark} (Some CloseBrace) None → ⊥
    other e = cc

calm_stop : (c : ℕ) → byte_stop c ≡ None → is_stop c ≡ false
calm_stop c e = by (is_stop c) refl
  where
    by : (b : Bool) → is_stop c ≡ b → b ≡ false
    by true f = absurd (stop_some c f e)
    by false f = refl

-- ---- A word that is there.

start_exists : (us : List Word) (front : List Symbol) (m : Symbol) (rest : List Symbol) → symbols us ≡ front ++ (m ∷ rest) → (e : ℕ) × (start_at us (length front) ≡ Some e)
start_exists [] [] m rest s = cc
start_exists [] (x ∷ front) m rest s = cc
start_exists (w ∷ us) [] m rest s = (w.start, refl)
start_exists (w ∷ us) (x ∷ front) m rest s = start_exists us front m rest (cons_same (symbol w) x (symbols us) (front ++ (m ∷ rest)) s).1

-- one of the words that are calm
calm_at : (source : List ℕ) (us : List Word) (front : List Symbol) (more : List Symbol) (i b : ℕ) → AreMarked source us → symbols us ≡ front ++ more → Calm front → i < length front → start_at us i ≡ Some b → byte_stop (byte source b) ≡ None
calm_at source us [] more i b k s c h a = absurd (omega (arith, h))
calm_at source [] (x ∷ front) more i b k s c h a = absurd (no_start i b a)
calm_at source (w ∷ us) (x ∷ front) more zero b k s c h a =
    let same = cons_same (symbol w) x (symbols us) (front ++ more) s in
    ap (λ p. byte_stop (byte source p)) (sym (start_cons w us b a)) ∙ (k.0 ∙ (ap symbol_stop same.0 ∙ c.0))
calm_at source (w ∷ us) (x ∷ front) more (suc i) b k s c h a = calm_at source us front more i b k.1 (cons_same (symbol w) x (symbols us) (front ++ more) s).1 c.1 (omega (arith, h)) a

mark_at : (source : List ℕ) (us : List Word) (front : List Symbol) (m : Symbol) (rest : List Symbol) (e : ℕ) → AreMarked source us → symbols us ≡ front ++ (m ∷ rest) → start_at us (length front) ≡ Some e → byte_stop (byte source e) ≡ symbol_stop m
mark_at source us front m rest e k s a = mark_there source us front m rest e k s a

some_words : (ws : List Word) (k b : ℕ) → start_at ws k ≡ Some b → drop k ws ≡ [] → ⊥
some_words ws k b e f =
    let none : k + 0 ≡ k = omega arith in no_start 0 b (ap (λ vs. start_at vs 0) (sym f) ∙ (start_drop ws k 0 ∙ (ap (start_at ws) none ∙ e)))

in_text : (source : List ℕ) (ws : List Word) (k b : ℕ) → Ground source ws → start_at ws k ≡ Some b → b < length source
in_text source ws k b g e =
    elim (cases_lt b (length source)) [
      | inl low ↦ low
      | inr past ↦ (let t = tail_at source ws k b g e in
          let none : Ok [] ≡ Ok (drop k ws) = sym (words-end b (drop b source) (omega (arith, length-drop b source, past))) ∙ t in
          absurd (some_words ws k b e (sym (same_words [] (drop k ws) none))))
    ]

-- the first semicolon or brace from a word on
pub record Stop (source : List ℕ) (ws : List Word) (low k j : ℕ) (m : Symbol) (rest : List Symbol) : Type 0 where
  pub at : ℕ
  pub stop : IsStop source ws low k j at
  pub byte_is : byte_stop (byte source at) ≡ symbol_stop m
  pub behind : symbols (drop (j + 1) ws) ≡ rest

stop_there : (source : List ℕ) (ws : List Word) (low at k : ℕ) (front : List Symbol) (m : Symbol) (rest : List Symbol) → Ground source ws → Tail source ws at k → low ≤ at → symbols (drop k ws) ≡ front ++ (m ∷ rest) → Calm front → (symbol_stop m ≡ None → ⊥)
    → Stop source ws low k (k + length front) m rest
stop_there source ws low at k front m rest g t l s c n =
    let i = length front in
    let marked = marked_drop source ws k g.marked in
    let e = start_exists (drop k ws) front m rest s in
    let there : start_at ws (k + i) ≡ Some e.0 = sym (start_drop ws k i) ∙ e.1 in
    let is = mark_at source (drop k ws) front m rest e.0 marked s e.1 in
    let next : k + suc i ≡ k + i + 1 = omega arith in
    record {
      at = e.0;
      stop = record {
        from = omega arith;
        ordered = omega (arith, l, starts_behind source ws at k (k + i) e.0 t (omega arith) there);
        there = there;
        within = in_text source ws (k + i) e.0 g there;
        mark = stop_true (byte source e.0) (λ z. n (sym is ∙ z));
        first = λ h b low high a.
            let place : k + (h - k) ≡ h = omega (arith, low) in
            calm_stop (byte source b) (calm_at source (drop k ws) front (m ∷ rest) (h - k) b marked s c (omega (arith, low, high)) (start_drop ws k (h - k) ∙ (ap (start_at ws) place ∙ a)));
      };
      byte_is = is;
      behind = ap symbols (sym (drop_more ws k (suc i) ∙ ap (λ n. drop n ws) next)) ∙ behind_stop (drop k ws) front m rest s;
    }

-- ---- Statements.

-- a body ends with a brace, or with the text
abbrev Ends : List Symbol → Type 0
Ends after = (after ≡ []) ⊎ ((rest : List Symbol) × (after ≡ mark CloseBrace ∷ rest))

pub record Built (source : List ℕ) (ws : List Word) (t : Statements) (after : List Symbol) (l : Left) (at k : ℕ) : Type 0 where
  pub laid : Laid
  pub to : ℕ
  pub close : ℕ
  pub n : ℕ
  pub lie : Lie source ws laid l at to k (map (place_of ws) (spots t after)) close n
  pub behind : symbols (drop n ws) ≡ after

first_calm : (st : Statement) → (x : Symbol) × (more : List Symbol) × (front_of st ≡ x ∷ more)
first_calm (define k n body) = (_, _, refl)
first_calm (define_with o k n body i is) = by (at_front o) _ _
  where
    by : (o : Option Outside) (x : Symbol) (more : List Symbol) → (y : Symbol) × (ys : List Symbol) × (outside_words o (x ∷ more) ≡ y ∷ ys)
    by None x more = (x, more, refl)
    by (Some o) x more = (_, _, refl)
first_calm (anonymous o k body i is) = by (at_front o) _ _
  where
    by : (o : Option Outside) (x : Symbol) (more : List Symbol) → (y : Symbol) × (ys : List Symbol) × (outside_words o (x ∷ more) ≡ y ∷ ys)
    by None x more = (x, more, refl)
    by (Some o) x more = (_, _, refl)
first_calm (named o n i is) = by o _ _
  where
    by : (o : Option Outside) (x : Symbol) (more : List Symbol) → (y : Symbol) × (ys : List Symbol) × (outside_words o (x ∷ more) ≡ y ∷ ys)
    by None x more = (x, more, refl)
    by (Some o) x more = (_, _, refl)
first_calm (own p v) = (_, _, refl)
first_calm (default p v) = (_, _, refl)
first_calm (dynamic n ns p v) = (_, _, refl)

some_words_of : (st : Statement) (a : List Symbol) → (x : Symbol) × (more : List Symbol) × (statement_words st a ≡ x ∷ more) × (symbol_stop x ≡ None)
some_words_of st a = by (body_found st)
  where
    calm : symbol_stop (first_calm st).0 ≡ None
    calm = (subst Calm (first_calm st).2 (calm-front st)).0

    by : (body_of st ≡ None) ⊎ ((t : Statements) × (body_of st ≡ Some t)) → (x : Symbol) × (more : List Symbol) × (statement_words st a ≡ x ∷ more) × (symbol_stop x ≡ None)
    by (inl e) = ((first_calm st).0, (first_calm st).1 ++ (mark Semicolon ∷ a), form_plain st a e ∙ ap (λ f. f ++ (mark Semicolon ∷ a)) (first_calm st).2, calm)
    by (inr e) = ((first_calm st).0, (first_calm st).1 ++ (mark OpenBrace ∷ grammar_words e.0 (closed st a)), form_body st e.0 a e.1 ∙ ap (λ f. f ++ (mark OpenBrace ∷ grammar_words e.0 (closed st a))) (first_calm st).2, calm)

first_is : (ws : List Word) (k b at : ℕ) (source : List ℕ) → start_at ws k ≡ Some b → at ≤ b → IsFirst at (drop at source) (drop k ws) (b - at)
first_is ws k b at source e h = by (drop k ws) (let none : k + 0 ≡ k = omega arith in start_drop ws k 0 ∙ (ap (start_at ws) none ∙ e))
  where
    by : (us : List Word) → start_at us 0 ≡ Some b → IsFirst at (drop at source) us (b - at)
    by [] f = absurd (no_start 0 b f)
    by (w ∷ us) f = omega (arith, start_cons w us b f, h)

-- a gap before a word
gap_word : (source : List ℕ) (ws : List Word) (l : Left) (at k b : ℕ) → Ground source ws → Tail source ws at k → start_at ws k ≡ Some b → (byte source b ≡ 125 → ⊥) → Gapped source ws l right.Statement at k b
gap_word source ws l at k b g t e n =
    let low = starts_behind source ws at k k b t (omega arith) e in
    let inside = in_text source ws k b g e in
    gap_to source ws l right.Statement at k b t low (omega (arith, inside)) (subst (StandsBehind source right.Statement b) (sym e) (refl, n)) (first_is ws k b at source e low)

gap_close : (source : List ℕ) (ws : List Word) (l : Left) (at k b : ℕ) → Ground source ws → Tail source ws at k → start_at ws k ≡ Some b → byte source b ≡ 125 → Gapped source ws l right.End at k b
gap_close source ws l at k b g t e n =
    let low = starts_behind source ws at k k b t (omega arith) e in
    let inside = in_text source ws k b g e in
    gap_to source ws l right.End at k b t low (omega (arith, inside)) (subst (StandsBehind source right.End b) (sym e) (refl, n)) (first_is ws k b at source e low)

none_start : (ws : List Word) (k : ℕ) → drop k ws ≡ [] → start_at ws k ≡ None
none_start ws k e = let none : k ≡ k + 0 = omega arith in ap (start_at ws) none ∙ (sym (start_drop ws k 0) ∙ ap (λ vs. start_at vs 0) e)

gap_end : (source : List ℕ) (ws : List Word) (l : Left) (at k : ℕ) → Tail source ws at k → at ≤ length source → drop k ws ≡ [] → Gapped source ws l right.End at k (length source)
gap_end source ws l at k t h e =
    gap_to source ws l right.End at k (length source) t h (omega arith) (subst (StandsBehind source right.End (length source)) (sym (none_start ws k e)) refl)
    (subst (λ us. IsFirst at (drop at source) us (length source - at)) (sym e) (sym (length-drop at source)))

no_symbols : (us : List Word) → symbols us ≡ [] → us ≡ []
no_symbols [] e = refl
no_symbols (w ∷ us) e = cc

build_end : (source : List ℕ) (ws : List Word) (after : List Symbol) (l : Left) (at k : ℕ) → Ground source ws → Ends after → Tail source ws at k → at ≤ length source → symbols (drop k ws) ≡ after → Built source ws none after l at k
build_end source ws after l at k g (inl f) t h e =
    let x = gap_end source ws l at k t h (no_symbols (drop k ws) (e ∙ f)) in
    record { laid = ended (record { from = x.to; to = length source }); to = x.to; close = length source; n = k; lie = (x.float, x.lead, x.gap, refl, refl, refl); behind = e }
build_end source ws after l at k g (inr f) t h e =
    let first = start_exists (drop k ws) [] (mark CloseBrace) f.0 (e ∙ f.1) in
    let place : k + 0 ≡ k = omega arith in
    let there : start_at ws k ≡ Some first.0 = sym (start_drop ws k 0 ∙ ap (start_at ws) place) ∙ first.1 in
    let is : byte source first.0 ≡ 125 = mark_125 (byte source first.0) (mark_at source (drop k ws) [] (mark CloseBrace) f.0 first.0 (marked_drop source ws k g.marked) (e ∙ f.1) first.1) in
    let x = gap_close source ws l at k first.0 g t there is in
    record { laid = ended (record { from = x.to; to = first.0 }); to = x.to; close = first.0; n = k; lie = (x.float, x.lead, x.gap, refl, refl, refl); behind = e }

-- what a statement's items are among its words
has_items : (source : List ℕ) (ws : List Word) (k j end : ℕ) (b : Bare) (st : Statement) (a : List Symbol) (ps more : List ItemPlace) → Ground source ws → start_at ws k ≡ Some b.words.from → start_at ws j ≡ Some end → k ≤ j
    → symbols (drop k ws) ≡ statement_words st a → symbols (drop (j + 1) ws) ≡ a → ps ≡ map (place_of ws) (statement_spots st a) ++ more → b.words.to ≡ end + 1 → b.trail.from ≡ b.words.to → b.items ≡ length (statement_items st) → Has end ps b
has_items source ws k j end b st a ps more g first last kj front back places e f n = record {
  words_end = e;
  trail_begin = f;
  some = omega (arith, n, some_items st);
  items = λ i low.
      let x = items_at ws (length a) (length (statement_words st a)) (length (statement_items st)) i (statement_spots st a) more (statement_blocks st a) (statement-range st a) (omega (arith, low, n)) in
      let is : from_item i ps ≡ place_of ws x.spot ∷ x.rest = ap (from_item i) places ∙ x.is in
      let inside = in_words source ws k j b.words.from end (length a) (length (statement_words st a)) x.spot.left g first last (size_of ws k (statement_words st a) front) (size_of ws (j + 1) a back) kj (word_within ws j end last) x.low x.high in
      subst (BeginsIn b.words) (sym is) (inside.0, omega (arith, inside.1, e));
}

no_inside : (ws : List Word) (st : Statement) (a : List Symbol) (more : List ItemPlace) → body_of st ≡ None → inside_first (map (place_of ws) (statement_spots st a) ++ more) ≡ []
no_inside ws (define k n body) a more e = cc
no_inside ws (define_with o k n body i is) a more e = cc
no_inside ws (anonymous o k body i is) a more e = cc
no_inside ws (named o n i is) a more e = refl
no_inside ws (own p v) a more e = refl
no_inside ws (default p v) a more e = refl
no_inside ws (dynamic n ns p v) a more e = refl

semi_stop : symbol_stop (mark Semicolon) ≡ None → ⊥
semi_stop e = cc

open_stop : symbol_stop (mark OpenBrace) ≡ None → ⊥
open_stop e = cc

-- where its words begin, and that no brace does
record Begun (source : List ℕ) (ws : List Word) (l : Left) (at k : ℕ) : Type 0 where
  pub from : ℕ
  pub first : start_at ws k ≡ Some from
  pub gap : Gapped source ws l right.Statement at k from

begin : (source : List ℕ) (ws : List Word) (l : Left) (at k : ℕ) (st : Statement) (a : List Symbol) → Ground source ws → Tail source ws at k → symbols (drop k ws) ≡ statement_words st a → Begun source ws l at k
begin source ws l at k st a g t e =
    let x = some_words_of st a in
    let s : symbols (drop k ws) ≡ x.0 ∷ x.1 = e ∙ x.2 in
    let f = start_exists (drop k ws) [] x.0 x.1 s in
    let place : k + 0 ≡ k = omega arith in
    let there : start_at ws k ≡ Some f.0 = sym (start_drop ws k 0 ∙ ap (start_at ws) place) ∙ f.1 in
    let is : byte_stop (byte source f.0) ≡ None = mark_at source (drop k ws) [] x.0 x.1 f.0 (marked_drop source ws k g.marked) s f.1 ∙ x.3 in
    record { from = f.0; first = there; gap = gap_word source ws l at k f.0 g t there (calm_125 (byte source f.0) is) }

rest_places : (ws : List Word) (st : Statement) (ss : Statements) (after : List Symbol) → from_item (length (statement_items st)) (map (place_of ws) (spots (one st ss) after)) ≡ map (place_of ws) (spots ss after)
rest_places ws st ss after =
    ap (from_item (length (statement_items st))) (split_places ws st ss after (map (place_of ws) (spots (one st ss) after)) refl)
    ∙ items_past ws (length (statement_items st)) (statement_spots st (grammar_words ss after)) (map (place_of ws) (spots ss after)) (statement_blocks st (grammar_words ss after))

build_plain : (source : List ℕ) (ws : List Word) (st : Statement) (ss : Statements) (after : List Symbol) (l : Left) (at k : ℕ) → Ground source ws → Tail source ws at k → symbols (drop k ws) ≡ statement_words st (grammar_words ss after) → body_of st ≡ None
    → ((at k : ℕ) → Tail source ws at k → at ≤ length source → symbols (drop k ws) ≡ grammar_words ss after → Built source ws ss after left.Word at k) → Built source ws (one st ss) after l at k
build_plain source ws st ss after l at k g t e f going =
    let a = grammar_words ss after in
    let b0 = begin source ws l at k st a g t e in
    let from_tail = tail_at source ws k b0.from g b0.first in
    let j = k + length (front_of st) in
    let s = stop_there source ws b0.from b0.from k (front_of st) (mark Semicolon) a g from_tail (omega arith) (e ∙ form_plain st a f) (calm-front st) semi_stop in
    let semi : byte source s.at ≡ 59 = mark_59 (byte source s.at) s.byte_is in
    let next : Tail source ws (s.at + 1) (j + 1) = behind_semi source ws j s.at s.stop.within semi (tail_at source ws j s.at g s.stop.there) in
    let rest = going (s.at + 1) (j + 1) next (omega (arith, s.stop.within)) s.behind in
    let ps = map (place_of ws) (spots (one st ss) after) in
    let places = split_places ws st ss after ps refl in
    let b : Bare = record { float = b0.gap.float; lead = b0.gap.lead; words = record { from = b0.from; to = s.at + 1 }; trail = record { from = s.at + 1; to = rest.to }; items = length (statement_items st) } in
    record {
      laid = bare b rest.laid;
      to = b0.gap.to;
      close = rest.close;
      n = rest.n;
      lie = (
        b0.gap.gap,
        j,
        s.at,
        (s.stop, semi),
        ap inside_first places ∙ no_inside ws st a (map (place_of ws) (spots ss after)) f,
        has_items source ws k j s.at b st a ps (map (place_of ws) (spots ss after)) g b0.first s.stop.there s.stop.from e s.behind places refl refl refl,
        subst (λ qs. Lie source ws rest.laid left.Word (s.at + 1) rest.to (j + 1) qs rest.close rest.n) (sym (rest_places ws st ss after)) rest.lie,
      );
      behind = rest.behind;
    }

end_there : (source : List ℕ) (ws : List Word) (c close : ℕ) (rest : List Symbol) → Ground source ws → StandsBehind source right.End close (start_at ws c) → symbols (drop c ws) ≡ mark CloseBrace ∷ rest → (start_at ws c ≡ Some close) × (byte source close ≡ 125)
end_there source ws c close rest g b e =
    let f = start_exists (drop c ws) [] (mark CloseBrace) rest e in
    let place : c + 0 ≡ c = omega arith in
    let there : start_at ws c ≡ Some f.0 = sym (start_drop ws c 0 ∙ ap (start_at ws) place) ∙ f.1 in
    let same = subst (StandsBehind source right.End close) there b in
    (there ∙ ap Some (sym same.0), ap (byte source) same.0 ∙ same.1)

build_body : (source : List ℕ) (ws : List Word) (st : Statement) (ss t : Statements) (after : List Symbol) (l : Left) (at k : ℕ) → Ground source ws → Tail source ws at k → symbols (drop k ws) ≡ statement_words st (grammar_words ss after) → body_of st ≡ Some t
    → ((at k : ℕ) → Tail source ws at k → at ≤ length source → symbols (drop k ws) ≡ grammar_words t (closed st (grammar_words ss after)) → Built source ws t (closed st (grammar_words ss after)) left.Word at k)
    → ((at k : ℕ) → Tail source ws at k → at ≤ length source → symbols (drop k ws) ≡ grammar_words ss after → Built source ws ss after left.Word at k) → Built source ws (one st ss) after l at k
build_body source ws st ss t after l at k g tail e f inner going =
    let a = grammar_words ss after in
    let b0 = begin source ws l at k st a g tail e in
    let from_tail = tail_at source ws k b0.from g b0.first in
    let o = k + length (front_of st) in
    let s = stop_there source ws b0.from b0.from k (front_of st) (mark OpenBrace) (grammar_words t (closed st a)) g from_tail (omega arith) (e ∙ form_body st t a f) (calm-front st) open_stop in
    let brace : byte source s.at ≡ 123 = mark_123 (byte source s.at) s.byte_is in
    let in_tail : Tail source ws (s.at + 1) (o + 1) = behind_brace source ws o s.at s.stop.within brace (tail_at source ws o s.at g s.stop.there) in
    let body = inner (s.at + 1) (o + 1) in_tail (omega (arith, s.stop.within)) s.behind in
    let c = body.n in
    let end = end_there source ws c body.close (back_of st ++ (mark Semicolon ∷ a)) g (end_at source ws body.laid left.Word (s.at + 1) body.to (o + 1) (map (place_of ws) (spots t (closed st a))) body.close c body.lie) body.behind in
    let past : symbols (drop (c + 1) ws) ≡ back_of st ++ (mark Semicolon ∷ a) = next_symbols ws c (mark CloseBrace) (back_of st ++ (mark Semicolon ∷ a)) body.behind in
    let second = start_exists (drop (c + 1) ws) (back_of st) (mark Semicolon) a past in
    let j = c + 1 + length (back_of st) in
    let close_tail : Tail source ws body.close c = tail_at source ws c body.close g end.0 in
    let q = stop_behind source ws body.close c (back_of st) (mark Semicolon) a g close_tail past (calm-back st) semi_stop in
    let semi : byte source q.at ≡ 59 = mark_59 (byte source q.at) q.byte_is in
    let next : Tail source ws (q.at + 1) (j + 1) = behind_semi source ws j q.at q.stop.within semi (tail_at source ws j q.at g q.stop.there) in
    let rest = going (q.at + 1) (j + 1) next (omega (arith, q.stop.within)) q.behind in
    let ps = map (place_of ws) (spots (one st ss) after) in
    let places = split_places ws st ss after ps refl in
    let forward = lie_forward source ws body.laid left.Word (s.at + 1) body.to (o + 1) (map (place_of ws) (spots t (closed st a))) body.close c body.lie in
    let b : Bare = record { float = b0.gap.float; lead = b0.gap.lead; words = record { from = b0.from; to = q.at + 1 }; trail = record { from = q.at + 1; to = rest.to }; items = length (statement_items st) } in
    let br : Braces = record { begin = body.to; close = body.close } in
    record {
      laid = braced b br body.laid rest.laid;
      to = b0.gap.to;
      close = rest.close;
      n = rest.n;
      lie = (
        b0.gap.gap,
        o,
        s.at,
        (s.stop, brace),
        c,
        subst (λ qs. Lie source ws body.laid left.Word (s.at + 1) body.to (o + 1) qs body.close c) (sym (inside_places ws st t a (map (place_of ws) (spots ss after)) ps f places)) body.lie,
        end.1,
        j,
        q.at,
        (q.stop, semi),
        has_items source ws k j q.at b st a ps (map (place_of ws) (spots ss after)) g b0.first q.stop.there (omega (arith, forward.0)) e q.behind places refl refl refl,
        subst (λ qs. Lie source ws rest.laid left.Word (q.at + 1) rest.to (j + 1) qs rest.close rest.n) (sym (rest_places ws st ss after)) rest.lie,
      );
      behind = rest.behind;
    }
  where
    -- from the word behind a brace on
    stop_behind : (source : List ℕ) (ws : List Word) (close c : ℕ) (front : List Symbol) (m : Symbol) (rest : List Symbol) → Ground source ws → Tail source ws close c → symbols (drop (c + 1) ws) ≡ front ++ (m ∷ rest) → Calm front → (symbol_stop m ≡ None → ⊥)
        → Stop source ws close (c + 1) (c + 1 + length front) m rest
    stop_behind source ws close c front m rest g t s calm n = by (start_exists (drop (c + 1) ws) front m rest s)
      where
        by : (e : ℕ) × (start_at (drop (c + 1) ws) (length front) ≡ Some e) → Stop source ws close (c + 1) (c + 1 + length front) m rest
        by e = first (drop (c + 1) ws) refl s
          where
            first : (us : List Word) → drop (c + 1) ws ≡ us → symbols us ≡ front ++ (m ∷ rest) → Stop source ws close (c + 1) (c + 1 + length front) m rest
            first [] f z = absurd (none front z)
              where
                none : (front : List Symbol) → [] ≡ front ++ (m ∷ rest) → ⊥
                none [] z = cc
                none (x ∷ front) z = cc
            first (w ∷ us) f z =
                let place : c + 1 + 0 ≡ c + 1 = omega arith in
                let there : start_at ws (c + 1) ≡ Some w.start = ap (start_at ws) (sym place) ∙ (sym (start_drop ws (c + 1) 0) ∙ ap (λ vs. start_at vs 0) f) in
                let low = starts_behind source ws close c (c + 1) w.start t (omega arith) there in
                stop_there source ws close w.start (c + 1) front m rest g (tail_at source ws (c + 1) w.start g there) low s calm n

ends_closed : (st : Statement) (a : List Symbol) → Ends (closed st a)
ends_closed st a = inr (back_of st ++ (mark Semicolon ∷ a), refl)

abbrev Built_for : (source : List ℕ) (ws : List Word) (t : Statements) (after : List Symbol) → Type 0
Built_for source ws t after =
    (l : Left) (at k : ℕ) → Ends after → Tail source ws at k → at ≤ length source → symbols (drop k ws) ≡ grammar_words t after → Built source ws t after l at k

pub build : (source : List ℕ) (ws : List Word) (t : Statements) (after : List Symbol) → Ground source ws → Built_for source ws t after
build source ws none after g = λ l at k en t h e. build_end source ws after l at k g en t h e
build source ws (one (define kd n body) ss) after g = λ l at k en t h e.
    build_body source ws (define kd n body) ss body after l at k g t e refl
    (λ at k t h s. build source ws body (closed (define kd n body) (grammar_words ss after)) g left.Word at k (ends_closed (define kd n body) (grammar_words ss after)) t h s)
    (λ at k t h s. build source ws ss after g left.Word at k en t h s)
build source ws (one (define_with o kd n body i is) ss) after g = λ l at k en t h e.
    build_body source ws (define_with o kd n body i is) ss body after l at k g t e refl
    (λ at k t h s. build source ws body (closed (define_with o kd n body i is) (grammar_words ss after)) g left.Word at k (ends_closed (define_with o kd n body i is) (grammar_words ss after)) t h s)
    (λ at k t h s. build source ws ss after g left.Word at k en t h s)
build source ws (one (anonymous o kd body i is) ss) after g = λ l at k en t h e.
    build_body source ws (anonymous o kd body i is) ss body after l at k g t e refl
    (λ at k t h s. build source ws body (closed (anonymous o kd body i is) (grammar_words ss after)) g left.Word at k (ends_closed (anonymous o kd body i is) (grammar_words ss after)) t h s)
    (λ at k t h s. build source ws ss after g left.Word at k en t h s)
build source ws (one (named o n i is) ss) after g = λ l at k en t h e. build_plain source ws (named o n i is) ss after l at k g t e refl (λ at k t h s. build source ws ss after g left.Word at k en t h s)
build source ws (one (own p v) ss) after g = λ l at k en t h e. build_plain source ws (own p v) ss after l at k g t e refl (λ at k t h s. build source ws ss after g left.Word at k en t h s)
build source ws (one (default p v) ss) after g = λ l at k en t h e. build_plain source ws (default p v) ss after l at k g t e refl (λ at k t h s. build source ws ss after g left.Word at k en t h s)
build source ws (one (dynamic n ns p v) ss) after g = λ l at k en t h e. build_plain source ws (dynamic n ns p v) ss after l at k g t e refl (λ at k t h s. build source ws ss after g left.Word at k en t h s)

-- the first line stays the first one
kept_line : (end n : ℕ) (line : Option ℕ) (m : Scan) → line ≡ Some n → (line_ended end line m).line ≡ Some n
kept_line end n None m e = cc
kept_line end n (Some k) m e = e

scan_none : (skip at : ℕ) (m e : Scan) → scan_from skip at m [] ≡ Some e → m ≡ e
unfolding scan_from
scan_none skip at m e h = cc

scan_skip : (skip at : ℕ) (m : Scan) (c : ℕ) (cs : List ℕ) → scan_from (suc skip) at m (c ∷ cs) ≡ scan_from skip (at + 1) m cs
unfolding scan_from
scan_skip skip at m c cs = refl

line_kept : (skip at : ℕ) (m e : Scan) (s : List ℕ) (n : ℕ) → m.line ≡ Some n → scan_from skip at m s ≡ Some e → e.line ≡ Some n
line_kept skip at m e [] n f h = ap (λ (x : Scan). x.line) (sym (scan_none skip at m e h)) ∙ f
line_kept (suc skip) at m e (c ∷ cs) n f h = line_kept skip (at + 1) m e cs n f (sym (scan_skip skip at m c cs) ∙ h)
line_kept zero at m e (c ∷ cs) n f h = by (goes_on at c cs m e h) (λ skip x f k. line_kept skip (at + 1) x e cs n f k)
  where
    by : IsFeed c cs at m e ⊎ (IsBlank c cs at m e ⊎ IsComment c cs at m e) → ((skip : ℕ) (x : Scan) → x.line ≡ Some n → scan_from skip (at + 1) x cs ≡ Some e → e.line ≡ Some n) → e.line ≡ Some n
    by (inl g) rest = rest 0 (line_ended (at + 1) m.line m) (kept_line (at + 1) n m.line m f) g.next
    by (inr (inl g)) rest = rest 0 m f g.next
    by (inr (inr g)) rest = rest (comment_len (c ∷ cs) - 1) (comment_ended (at + comment_len (c ∷ cs)) m) f g.next

-- the words end where statements do
lie_within : (source : List ℕ) (ws : List Word) (laid : Laid) (l : Left) (at to k : ℕ) (ps : List ItemPlace) (close n : ℕ) → Lie source ws laid l at to k ps close n → k ≤ length ws → n ≤ length ws
lie_within source ws (ended last) l at to k ps close n h low = omega (arith, h.5, low)
lie_within source ws (bare b rest) l at to k ps close n h low =
    lie_within source ws rest left.Word b.words.to b.trail.to (h.1 + 1) (from_item b.items ps) close n h.6 (omega (arith, word_within ws h.1 h.2 h.3.0.there))
lie_within source ws (braced b br body rest) l at to k ps close n h low =
    lie_within source ws rest left.Word b.words.to b.trail.to (h.7 + 1) (from_item b.items ps) close n h.11 (omega (arith, word_within ws h.7 h.8 h.9.0.there))

all_words : (ws : List Word) (n : ℕ) → drop n ws ≡ [] → n ≤ length ws → n ≡ length ws
all_words ws n e h = omega (arith, length-drop n ws, ap length e, h)

cut_is : (r : Right) (gap : List ℕ) (p : Parts) → gap_parts left.Begin r gap ≡ Some p → option_map (parts_of r (length gap)) (scan_from 0 0 (begun left.Begin) gap) ≡ Some p
unfolding gap_parts
cut_is r gap p e = e

-- at a text's begin no part of a gap belongs to a word
first_gap : (source : List ℕ) (ws : List Word) (r : Right) (k end to : ℕ) (float lead : Span) → IsGap source ws left.Begin r 0 k end to float lead → to ≡ 0
first_gap source ws r k end to float lead g =
    let gap = slice_range source 0 end in
    let found = mapped (parts_of r (length gap)) (scan_from 0 0 (begun left.Begin) gap) g.parts (cut_is r gap g.parts g.cut) in
    let is : trail_end r found.0.comment found.0.line ≡ g.parts.trail = ap (λ (p : Parts). p.trail) (some_same (parts_of r (length gap) found.0) g.parts (sym (ap (option_map (parts_of r (length gap))) found.1) ∙ cut_is r gap g.parts g.cut)) in
    let line : found.0.line ≡ Some 0 = line_kept 0 0 (begun left.Begin) found.0 gap 0 refl found.1 in
    omega (arith, g.to_is, is, zero_trail r found.0.comment found.0.line line)
  where
    some_same : (a b : Parts) → ◌≡◌ {A = Option Parts} (Some a) (Some b) → a ≡ b
    some_same a b e = cc

    zero_trail : (r : Right) (comment : ℕ) (line : Option ℕ) → line ≡ Some 0 → trail_end r comment line ≡ 0
    zero_trail r comment None e = cc
    zero_trail right.Statement comment (Some n) e = cc
    zero_trail right.End comment (Some n) e = cc

begin_zero : (source : List ℕ) (ws : List Word) (laid : Laid) (to k : ℕ) (ps : List ItemPlace) (close n : ℕ) → Lie source ws laid left.Begin 0 to k ps close n → to ≡ 0
begin_zero source ws (ended last) to k ps close n h = first_gap source ws _ k close to h.0 h.1 h.2
begin_zero source ws (bare b rest) to k ps close n h = first_gap source ws _ k b.words.from to b.float b.lead h.0
begin_zero source ws (braced b br body rest) to k ps close n h = first_gap source ws _ k b.words.from to b.float b.lead h.0

pub every_map : (source : List ℕ) (ws : List Word) (d : Items) (p : Located) → IsUtf8 source → HasWords source ws → SpellsText source d p → (laid : Laid) × IsLaidOut source ws p.places laid
every_map source ws d p u h s =
    let same : s.ws ≡ ws = same_words s.ws ws (sym s.has_words.cut ∙ h.cut) in
    let ground : Ground source ws = record { is_text = u; short = h.short; cut = h.cut; marked = all_marked (length source) source 0 source ws (omega arith) refl h.cut } in
    let t = s.spelled.0 in
    let spelled : symbols ws ≡ grammar_words t [] = ap symbols (sym same) ∙ s.spelled.1 in
    let places : p.places ≡ map (place_of ws) (spots t []) = ap (λ (q : Located). q.places) s.places_are ∙ (λ i. map (place_of (same i)) (s.spelled.3 i)) in
    let b = build source ws t [] ground left.Begin 0 0 (inl refl) h.cut (omega arith) spelled in
    let first = begin_zero source ws b.laid b.to 0 (map (place_of ws) (spots t [])) b.close b.n b.lie in
    let last = all_words ws b.n (no_symbols (drop b.n ws) b.behind) (lie_within source ws b.laid left.Begin 0 b.to 0 (map (place_of ws) (spots t [])) b.close b.n b.lie (omega arith)) in
    (b.laid, subst (λ qs. IsLaidOut source ws qs b.laid) (sym places) (laid_out source ws b.laid b.to (map (place_of ws) (spots t [])) b.close b.n b.lie first last))
