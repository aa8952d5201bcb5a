-- The contracts of `parse` and `parse_item`, from those of their parts.
use Rattle.std.proofs.Common.{◌≡◌, ◌⊎◌, inl, inr, ℕ, suc, ◌+◌, ◌-◌, ◌<◌, List, [], ◌∷◌, ◌++◌, length, Some, Result, Ok, Err, refl, ap, sym, ◌∙◌, subst, arith, append_assoc}
use Rattle.std.specs.Prelude.{slice_get}
use Rattle.std.specs.Option.{option_map_or}
use Rattle.std.proofs.lemmas.List.{length-append}
use Rattle.rdl_text.specs.Word.{Word}
use Rattle.rdl_text.specs.Words.{words}
use Rattle.rdl_text.specs.declared.fault.WordFault.{WordFault}
use Rattle.rdl_text.specs.declared.fault.TextFault.{TextFault}
use Rattle.rdl_text.specs.declared.token.Mark.TheVariants.{OpenBrace, Semicolon}
use Rattle.rdl_tree.specs.Items.{Items}
use Rattle.rdl_tree.specs.View.{items_of}
use Rattle.rdl_tree.specs.Limits.{IsWithinLimits}
use Rattle.rdl_tree.specs.declared.description.Item.{Item}
use Rattle.rdl_parse.specs.declared.found.Spot.{Spot}
use Rattle.rdl_parse.specs.declared.fault.Fault.{Fault}
use Rattle.rdl_parse.specs.declared.fault.Fault.TheVariants as faults
use Rattle.rdl_parse.specs.declared.fault.Stop.{Stop}
use Rattle.rdl_parse.specs.declared.fault.Stop.TheVariants as stops
use Rattle.rdl_parse.specs.declared.fault.ParseFault.{ParseFault}
use Rattle.rdl_parse.specs.declared.fault.ParseFaultKind.TheVariants.{Words}
use Rattle.rdl_parse.specs.Symbol.{Symbol, symbol, symbols, kind, mark}
use Rattle.rdl_parse.specs.Spelling.{Spells, SpellsItems, outside_words, statement_words}
use Rattle.rdl_parse.specs.Spelling.{words as words_of}
use Rattle.rdl_parse.specs.Reading.{Block, Fails, limit, text_at, items_at}
use Rattle.rdl_parse.specs.Stands.{Opened, last, inside, name_words, opened_words, Stands, opens, closes}
use Rattle.rdl_parse.proofs.Passing.{Passes, passes-then, words-pass, statement-reach, head-passes}
use Rattle.rdl_parse.specs.Places.{Located, located, start_of}
use Rattle.rdl_parse.specs.Parsing.{HasWords, SpellsText, SpellsItemText, SpellsNone, IsAtWord, HasWordFault, RefusesBy, SpellsSomewhere, Refuses, RefusesItem}
use Rattle.rdl_parse.specs.Faults.{max_text, out_of_memory, too_long, stop_fault}
use Rattle.rdl_parse.proofs.Exact.{read-found, read-none, read-stands, item-found, item-none, item-stands, one-spelled, one-statement}

-- ---- A word of the text from a symbol.

record Split (ws : List Word) (before : List Symbol) (s : Symbol) (after : List Symbol) : Type 0 where
  front : List Word
  word : Word
  back : List Word
  parts : ws ≡ front ++ word ∷ back
  front_is : symbols front ≡ before
  word_is : symbol word ≡ s
  back_is : symbols back ≡ after

length-symbols : (ws : List Word) → length (symbols ws) ≡ length ws
length-symbols [] = refl
length-symbols (w ∷ ws) = ap suc (length-symbols ws)

split : (ws : List Word) (before : List Symbol) (s : Symbol) (after : List Symbol) → symbols ws ≡ before ++ s ∷ after → Split ws before s after
split [] [] s after e = absurd cc
split [] (b ∷ before) s after e = absurd cc
split (w ∷ ws) [] s after e =
    let head : symbol w ≡ s = cc in
    let tail : symbols ws ≡ after = cc in
    record { front = []; word = w; back = ws; parts = refl; front_is = refl; word_is = head; back_is = tail }
split (w ∷ ws) (b ∷ before) s after e =
    let head : symbol w ≡ b = cc in
    let tail : symbols ws ≡ before ++ s ∷ after = cc in
    let p = split ws before s after tail in
    record { front = w ∷ p.front; word = p.word; back = p.back; parts = ap (λ us. w ∷ us) p.parts; front_is = (λ i. head i ∷ p.front_is i); word_is = p.word_is; back_is = p.back_is }

get-behind : (front back : List Word) (w : Word) → slice_get (front ++ w ∷ back) (length front) ≡ Some w
get-behind [] back w = refl
get-behind (x ∷ front) back w = get-behind front back w

start-is : (ws front back : List Word) (w : Word) (left : ℕ) → ws ≡ front ++ w ∷ back → left ≡ suc (length back) → start_of ws left ≡ w.start
start-is ws front back w left e l =
    let place : length ws - left ≡ length front = omega (arith, ap length e, length-append front (w ∷ back), l) in
    ap (λ n. option_map_or (λ v. v.start) (slice_get ws n) 0) place
    ∙ ap (λ us. option_map_or (λ v. v.start) (slice_get us (length front)) 0) e
    ∙ ap (λ o. option_map_or (λ v. v.start) o 0) (get-behind front back w)

abbrev at-word : (ws : List Word) (before after : List Symbol) (s : Symbol) (left : ℕ) → left ≡ length (s ∷ after) → Split ws before s after → IsAtWord ws (start_of ws left)
at-word ws before after s left l p = record { before = p.front; word = p.word; after = p.back; parts = p.parts; offset_is = start-is ws p.front p.back p.word left p.parts (omega (arith, ap length p.back_is, length-symbols p.back, l)) }

-- ---- Where a text that is open ends.

record Reaches (ws rest : List Symbol) : Type 0 where
  front : List Symbol
  parts : ws ≡ front ++ mark Semicolon ∷ rest

reaches-past : (ws vs rest : List Symbol) → Passes ws vs → Reaches vs rest → Reaches ws rest
reaches-past ws vs rest p r = record { front = p.before ++ r.front; parts = p.parts ∙ ap (λ us. p.before ++ us) r.parts ∙ sym (append_assoc p.before r.front (mark Semicolon ∷ rest)) }

-- the last word of one is a semicolon
opened-reaches : (t : Opened) (ws : List Symbol) → Reaches (opened_words t ws) ws
opened-reaches (last done final) ws =
    let p = statement-reach final ws in
    reaches-past (words_of done (statement_words final ws)) (statement_words final ws) ws (words-pass done (statement_words final ws)) (record { front = p.before; parts = p.parts })
opened-reaches (inside done o k n body) ws =
    let vs = mark OpenBrace ∷ opened_words body ws in
    let r = opened-reaches body ws in
    reaches-past (opened_words (inside done o k n body) ws) vs ws (passes-then (words-pass done (outside_words o (kind k ∷ name_words n vs))) (head-passes o k n vs))
    (record { front = mark OpenBrace ∷ r.front; parts = ap (λ us. mark OpenBrace ∷ us) r.parts })

-- ---- Faults.

abbrev pub WordsFail : List ℕ → ParseFault → Type 0
WordsFail text f = (f ≡ out_of_memory) ⊎ (((f ≡ too_long) × (max_text < length text)) ⊎ ((kind : WordFault) × (f.kind ≡ Words kind) × HasWordFault text kind f.offset))

pub words-refused : {X : Type 0} (spells : List Symbol → X → Type 0) (within : X → Type 0) (text : List ℕ) (f : ParseFault) → WordsFail text f → (f ≡ out_of_memory) ⊎ RefusesBy spells within text f.kind f.offset
words-refused spells within text f (inl e) = inl e
words-refused spells within text f (inr (inl h)) = inr (subst (λ g. RefusesBy spells within text g.kind g.offset) (sym h.0) (h.1, refl))
words-refused spells within text f (inr (inr h)) = inr (subst (λ k. RefusesBy spells within text k f.offset) (sym h.1) h.2)

cut-twice : (f : TextFault) (ws : List Word) (q : Result (List Word) TextFault) → q ≡ Err f → q ≡ Ok ws → ⊥
cut-twice f ws q e h = cc

no-words : (text : List ℕ) (ws : List Word) (f : ParseFault) → HasWords text ws → WordsFail text f → f ≡ out_of_memory
no-words text ws f h (inl e) = e
no-words text ws f h (inr (inl k)) = absurd (omega (arith, h.short, k.1))
no-words text ws f h (inr (inr k)) = absurd (cut-twice _ ws (words text) k.2.fault h.cut)

-- a fault of reading, where there is one, is this one
fails-at : {Y : Type 0} (e : Stop) (read : Result Y Fault) → Fails e read → (f : Fault) → e ≡ stops.Fault f → read ≡ Err f
fails-at stops.Memory read h f k = absurd cc
fails-at (stops.Fault g) read h f k = let same : g ≡ f = cc in h ∙ ap (λ e. Err e) same

stop-refused : {X : Type 0} (spells : List Symbol → X → Type 0) (within : X → Type 0) (text : List ℕ) (ws : List Word) (e : Stop) → HasWords text ws
    → ((f : Fault) → e ≡ stops.Fault f → SpellsNone spells within ws × Stands 16 limit (symbols ws) f)
    → (stop_fault text ws e ≡ out_of_memory) ⊎ RefusesBy spells within text (stop_fault text ws e).kind (stop_fault text ws e).offset
stop-refused spells within text ws stops.Memory w h = inl refl
stop-refused spells within text ws (stops.Fault (faults.Unexpected left)) w h =
    let p = h (faults.Unexpected left) refl in
    let s = split ws p.1.before p.1.word p.1.after p.1.parts in
    inr (record { ws = ws; has_words = w; none = p.0; stands_so = at-word ws p.1.before p.1.after p.1.word left p.1.left_is s })
stop-refused spells within text ws (stops.Fault faults.End) w h =
    let p = h faults.End refl in
    inr (record { ws = ws; has_words = w; none = p.0; stands_so = refl })
stop-refused spells within text ws (stops.Fault (faults.TooDeep left)) w h =
    let p = h (faults.TooDeep left) refl in
    let s = split ws p.1.before (mark OpenBrace) p.1.after p.1.parts in
    inr (record {
      ws = ws;
      has_words = w;
      none = p.0;
      stands_so = record { at = at-word ws p.1.before p.1.after (mark OpenBrace) left p.1.left_is s; brace = s.word_is; opened = ap opens s.front_is ∙ p.1.opened ∙ ap (λ us. closes us + 16) (sym s.front_is) };
    })
stop-refused spells within text ws (stops.Fault (faults.TooLarge left)) w h =
    let p = h (faults.TooLarge left) refl in
    let r = opened-reaches p.1.opened p.1.after in
    let s = split ws r.front (mark Semicolon) p.1.after (p.1.words_are ∙ r.parts) in
    inr (record {
      ws = ws;
      has_words = w;
      none = p.0;
      stands_so = record {
        at = at-word ws r.front p.1.after (mark Semicolon) left p.1.left_is s;
        semicolon = s.word_is;
        opened = p.1.opened;
        words_are = p.1.words_are ∙ ap (opened_words p.1.opened) (sym s.back_is);
        fitted = p.1.fitted;
        full = p.1.full;
      };
    })

words-same : (ws vs : List Word) (q : Result (List Word) TextFault) → q ≡ Ok ws → q ≡ Ok vs → ws ≡ vs
words-same ws vs q h k = cc

same-words : (text : List ℕ) (ws vs : List Word) → HasWords text ws → HasWords text vs → ws ≡ vs
same-words text ws vs h k = words-same ws vs (words text) h.cut k.cut

-- ---- A text.

pub text-found : (text : List ℕ) (ws : List Word) (b : Block) (p : Located) → HasWords text ws → text_at 16 limit (symbols ws) ≡ Ok b → p ≡ located text ws b.spots → SpellsText text b.items p × IsWithinLimits b.items
text-found text ws b p w e l =
    let r = read-found (symbols ws) b e in
    (record { ws = ws; spots = b.spots; has_words = w; spelled = r.0; places_are = l }, r.1)

pub text-only : (text : List ℕ) (ws : List Word) (b : Block) (p : Located) → HasWords text ws → text_at 16 limit (symbols ws) ≡ Ok b → p ≡ located text ws b.spots
    → (d : Items) (q : Located) → SpellsText text d q → IsWithinLimits d → (b.items ≡ d) × (p ≡ q)
text-only text ws b p w e l d q s i =
    let same : s.ws ≡ ws = same-words text s.ws ws s.has_words w in
    let r = read-found (symbols ws) b e in
    let spelled : Spells (symbols ws) d s.spots = subst (λ us. Spells (symbols us) d s.spots) same s.spelled in
    let one = one-spelled (symbols ws) b.items d b.spots s.spots r.0 spelled in
    (one.0, l ∙ ap (located text ws) one.1 ∙ ap (λ us. located text us s.spots) (sym same) ∙ sym s.places_are)

text-none : (ws : List Word) (f : Fault) → text_at 16 limit (symbols ws) ≡ Err f → SpellsNone SpellsSomewhere IsWithinLimits ws
text-none ws f e d s i = read-none (symbols ws) f e d s.0 s.1 i

pub text-refused : (text : List ℕ) (ws : List Word) (e : Stop) → HasWords text ws → Fails e (text_at 16 limit (symbols ws)) → (stop_fault text ws e ≡ out_of_memory) ⊎ Refuses text (stop_fault text ws e)
text-refused text ws e w h =
    stop-refused SpellsSomewhere IsWithinLimits text ws e w
    (λ f k. let read : text_at 16 limit (symbols ws) ≡ Err f = fails-at e (text_at 16 limit (symbols ws)) h f k in (text-none ws f read, read-stands (symbols ws) f read))

text-stopped : (ws : List Word) (d : Items) (at : List Spot) (text : List ℕ) (e : Stop) → Fails e (text_at 16 limit (symbols ws)) → Spells (symbols ws) d at → IsWithinLimits d → stop_fault text ws e ≡ out_of_memory
text-stopped ws d at text stops.Memory h s i = refl
text-stopped ws d at text (stops.Fault f) h s i = absurd (read-none (symbols ws) f h d at s i)

pub text-memory : (text : List ℕ) (ws : List Word) (e : Stop) → HasWords text ws → Fails e (text_at 16 limit (symbols ws)) → (d : Items) (q : Located) → SpellsText text d q → IsWithinLimits d → stop_fault text ws e ≡ out_of_memory
text-memory text ws e w h d q s i =
    let same : s.ws ≡ ws = same-words text s.ws ws s.has_words w in
    let spelled : Spells (symbols ws) d s.spots = subst (λ us. Spells (symbols us) d s.spots) same s.spelled in
    text-stopped ws d s.spots text e h spelled i

pub text-wordless : (text : List ℕ) (f : ParseFault) → WordsFail text f → (d : Items) (q : Located) → SpellsText text d q → f ≡ out_of_memory
text-wordless text f w d q s = no-words text s.ws f s.has_words w

-- ---- One statement.

pub statement-found : (text : List ℕ) (ws : List Word) (xs : List Item) → HasWords text ws → items_at 16 limit (symbols ws) ≡ Ok xs → SpellsItemText text xs × IsWithinLimits (items_of xs)
statement-found text ws xs w e =
    let r = item-found (symbols ws) xs e in
    (record { ws = ws; has_words = w; spelled = r.0 }, r.1)

pub statement-only : (text : List ℕ) (ws : List Word) (xs : List Item) → HasWords text ws → items_at 16 limit (symbols ws) ≡ Ok xs → (ys : List Item) → SpellsItemText text ys → xs ≡ ys
statement-only text ws xs w e ys s =
    let same : s.ws ≡ ws = same-words text s.ws ws s.has_words w in
    let r = item-found (symbols ws) xs e in
    let spelled : SpellsItems (symbols ws) ys = subst (λ us. SpellsItems (symbols us) ys) same s.spelled in
    one-statement (symbols ws) xs ys r.0 spelled

pub statement-refused : (text : List ℕ) (ws : List Word) (e : Stop) → HasWords text ws → Fails e (items_at 16 limit (symbols ws)) → (stop_fault text ws e ≡ out_of_memory) ⊎ RefusesItem text (stop_fault text ws e)
statement-refused text ws e w h =
    stop-refused SpellsItems (λ xs. IsWithinLimits (items_of xs)) text ws e w
    (λ f k. let read : items_at 16 limit (symbols ws) ≡ Err f = fails-at e (items_at 16 limit (symbols ws)) h f k in ((λ xs s i. item-none (symbols ws) f read xs s i), item-stands (symbols ws) f read))

statement-stopped : (ws : List Word) (xs : List Item) (text : List ℕ) (e : Stop) → Fails e (items_at 16 limit (symbols ws)) → SpellsItems (symbols ws) xs → IsWithinLimits (items_of xs) → stop_fault text ws e ≡ out_of_memory
statement-stopped ws xs text stops.Memory h s i = refl
statement-stopped ws xs text (stops.Fault f) h s i = absurd (item-none (symbols ws) f h xs s i)

pub statement-memory : (text : List ℕ) (ws : List Word) (e : Stop) → HasWords text ws → Fails e (items_at 16 limit (symbols ws)) → (xs : List Item) → SpellsItemText text xs → IsWithinLimits (items_of xs) → stop_fault text ws e ≡ out_of_memory
statement-memory text ws e w h xs s i =
    let same : s.ws ≡ ws = same-words text s.ws ws s.has_words w in
    let spelled : SpellsItems (symbols ws) xs = subst (λ us. SpellsItems (symbols us) xs) same s.spelled in
    statement-stopped ws xs text e h spelled i

pub statement-wordless : (text : List ℕ) (f : ParseFault) → WordsFail text f → (xs : List Item) → SpellsItemText text xs → f ≡ out_of_memory
statement-wordless text f w xs s = no-words text s.ws f s.has_words w
