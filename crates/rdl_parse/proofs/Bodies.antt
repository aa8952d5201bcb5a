-- Bodies and what stands behind a KIND, one step at a time.
use Rattle.std.proofs.Common.{◌≡◌, ℕ, zero, suc, ◌+◌, ◌-◌, ◌<◌, true, false, List, [], ◌∷◌, length, Option, Some, None, Result, Ok, Err, refl, ap, sym, ◌∙◌, arith}
use Rattle.rdl_text.specs.Word.{Word}
use Rattle.rdl_text.specs.declared.token.Mark.TheVariants.{OpenBrace, CloseBrace}
use Rattle.rdl_tree.specs.declared.shell.Kind.{Kind}
use Rattle.rdl_tree.specs.declared.shell.Outside.{Outside}
use Rattle.rdl_parse.specs.Gathering.{behind, optional_name_at, definition_at, anonymous_at}
use Rattle.rdl_parse.specs.Finds.{Finds, nothing, joined}
use Rattle.rdl_parse.specs.Reading.{◌>>=◌, Fails, Inner, Finished, Block, block, mark_at, component_at, statement_at, goes_on, grown, following_one_at, following_at, statements_at, body_at}
use Rattle.rdl_parse.specs.Symbol as symbol
use Rattle.rdl_parse.specs.Symbol.{Symbol, symbols, kind, outside, name, number, mark}
use Rattle.rdl_parse.specs.declared.fault.Fault.{Fault}
use Rattle.rdl_parse.specs.declared.fault.Fault.TheVariants.{TooDeep}
use Rattle.rdl_parse.specs.declared.fault.Stop.{Stop}
use Rattle.rdl_parse.specs.declared.fault.Stop.TheVariants as stops
use Rattle.rdl_parse.specs.declared.room.Room.{Room}
use Rattle.rdl_parse.proofs.TextAgain.{one-shortens}
use Rattle.rdl_parse.proofs.Turns.{repeated-on, repeated-next, repeated-done}
use Rattle.rdl_parse.proofs.Words.{length_symbols}

abbrev pub behind_kind : Inner → Room → Option Outside → ℕ → Kind → Option (List ℕ) → List Symbol → Result (Finished × List Symbol) Fault
behind_kind inner room front left k (Some n) ws = definition_at inner room front left k n ws
behind_kind inner room front left k None ws = anonymous_at inner room front k ws

pub component_by : (inner : Inner) (room : Room) (front : Option Outside) (left : ℕ) (k : Kind) (ws : List Symbol)
    → component_at inner room front left k ws ≡ (optional_name_at ws >>= λ x. behind_kind inner room front left k x.0 x.1)
unfolding component_at optional_name_at
component_by inner room front left k [] = refl
component_by inner room front left k (kind x ∷ ws) = refl
component_by inner room front left k (outside x ∷ ws) = refl
component_by inner room front left k (symbol.default ∷ ws) = refl
component_by inner room front left k (symbol.truth x ∷ ws) = refl
component_by inner room front left k (symbol.property x ∷ ws) = refl
component_by inner room front left k (symbol.word x ∷ ws) = refl
component_by inner room front left k (symbol.reserved ∷ ws) = refl
component_by inner room front left k (name x ∷ ws) = refl
component_by inner room front left k (number x ∷ ws) = refl
component_by inner room front left k (symbol.text x ∷ ws) = refl
component_by inner room front left k (mark x ∷ ws) = refl

-- ---- Statements.

follows : (levels : ℕ) (s : Finished) (ws : List Symbol) (r : Result (Finished × List Symbol) Fault) → behind s.0 (statement_at (body_at levels) s.1 ws) ≡ r → following_one_at (body_at levels) s ws ≡ r
unfolding following_one_at
follows levels s ws r h = h

pub statement-smaller : (levels : ℕ) (before : Finds) (room : Room) (ws vs : List Word) (x : Finished) → behind before (statement_at (body_at levels) room (symbols ws)) ≡ Ok (x, symbols vs) → length vs < length ws
statement-smaller levels before room ws vs x e =
    let s : Finished = (before, room) in
    omega (arith, (one-shortens levels).shorter s (symbols ws) (x, symbols vs) (follows levels s (symbols ws) (Ok (x, symbols vs)) e), length_symbols ws, length_symbols vs)

pub statements-fails : (e : Stop) (levels : ℕ) (before : Room) (ws0 : List Symbol) (s : Finished) (ws : List Symbol)
    → goes_on ws ≡ true → Fails e (behind s.0 (statement_at (body_at levels) s.1 ws)) → following_at (body_at levels) s ws ≡ following_at (body_at levels) (nothing, before) ws0 → Fails e (statements_at (body_at levels) before ws0)
unfolding statements_at
statements-fails stops.Memory levels before ws0 s ws h f k = tt
statements-fails (stops.Fault g) levels before ws0 s ws h f k =
    ap (λ r. r >>= λ x. Ok (x.0.0, x.1)) (sym k ∙ repeated-on (one-shortens levels) s ws (Err g) h (follows levels s ws (Err g) f))

pub statements-next : (levels : ℕ) (total : Result (Finished × List Symbol) Fault) (s : Finished) (ws : List Symbol) (x : Finished) (vs : List Symbol)
    → goes_on ws ≡ true → behind s.0 (statement_at (body_at levels) s.1 ws) ≡ Ok (x, vs) → following_at (body_at levels) s ws ≡ total → following_at (body_at levels) x vs ≡ total
statements-next levels total s ws x vs h f k = sym (repeated-next (one-shortens levels) s ws (x, vs) h (follows levels s ws (Ok (x, vs)) f)) ∙ k

pub statements-done : (levels : ℕ) (before : Room) (ws0 : List Symbol) (s : Finished) (ws : List Symbol)
    → goes_on ws ≡ false → following_at (body_at levels) s ws ≡ following_at (body_at levels) (nothing, before) ws0 → statements_at (body_at levels) before ws0 ≡ Ok (s.0, ws)
unfolding statements_at
statements-done levels before ws0 s ws h k = ap (λ r. r >>= λ x. Ok (x.0.0, x.1)) (sym k ∙ repeated-done (one-shortens levels) s ws h)

-- ---- A body, by its levels.

closed : Finds × List Symbol → Result (Block × List Symbol) Fault
closed s = mark_at CloseBrace s.1 >>= λ after. Ok (block s.0, after)

body-one : (levels : ℕ) (room : Room) (ws : List Symbol) → 0 < levels → body_at levels room ws ≡ (mark_at OpenBrace ws >>= λ rest. statements_at (body_at (levels - 1)) room rest >>= closed)
unfolding body_at closed
body-one zero room ws h = absurd (omega arith)
body-one (suc levels) room ws h = ap (λ n. mark_at OpenBrace ws >>= λ rest. statements_at (body_at n) room rest >>= λ s. mark_at CloseBrace s.1 >>= λ after. Ok (block s.0, after)) (omega arith)

fails-bind : {A B : Type 0} (e : Stop) (read : Result A Fault) (f : A → Result B Fault) → Fails e read → Fails e (read >>= f)
fails-bind stops.Memory read f h = tt
fails-bind (stops.Fault g) read f h = ap (λ r. r >>= f) h

fails-along : {B : Type 0} (e : Stop) (r total : Result B Fault) → total ≡ r → Fails e r → Fails e total
fails-along stops.Memory r total h k = tt
fails-along (stops.Fault g) r total h k = h ∙ k

pub body-unopened : (e : Stop) (levels : ℕ) (room : Room) (ws : List Symbol) → Fails e (mark_at OpenBrace ws) → Fails e (body_at levels room ws)
unfolding body_at
body-unopened e zero room ws h = fails-bind e (mark_at OpenBrace ws) _ h
body-unopened e (suc levels) room ws h = fails-bind e (mark_at OpenBrace ws) _ h

body-none : (room : Room) (ws rest : List Symbol) → mark_at OpenBrace ws ≡ Ok rest → body_at 0 room ws ≡ Err (TooDeep (length rest + 1))
unfolding body_at
body-none room ws rest h = ap (λ r. r >>= λ rest. Err (TooDeep (length rest + 1))) h

pub body-deep : (levels : ℕ) (room : Room) (ws : List Symbol) (rest : List Word) → mark_at OpenBrace ws ≡ Ok (symbols rest) → levels ≡ 0 → body_at levels room ws ≡ Err (TooDeep (length rest + 1))
body-deep levels room ws rest o h =
    let e : length (symbols rest) + 1 ≡ length rest + 1 = omega (arith, length_symbols rest) in
    ap (λ n. body_at n room ws) h ∙ body-none room ws (symbols rest) o ∙ ap (λ n. Err (TooDeep n)) e

body-opened : (levels : ℕ) (room : Room) (ws rest : List Symbol) → mark_at OpenBrace ws ≡ Ok rest → 0 < levels → body_at levels room ws ≡ (statements_at (body_at (levels - 1)) room rest >>= closed)
body-opened levels room ws rest o h = body-one levels room ws h ∙ ap (λ r. r >>= λ rest. statements_at (body_at (levels - 1)) room rest >>= closed) o

pub body-unfilled : (e : Stop) (levels : ℕ) (room : Room) (ws rest : List Symbol) → mark_at OpenBrace ws ≡ Ok rest → 0 < levels → Fails e (statements_at (body_at (levels - 1)) room rest) → Fails e (body_at levels room ws)
body-unfilled e levels room ws rest o h f = fails-along e _ _ (body-opened levels room ws rest o h) (fails-bind e (statements_at (body_at (levels - 1)) room rest) _ f)

body-filled : (levels : ℕ) (room : Room) (ws rest : List Symbol) (f : Finds) (vs : List Symbol) → mark_at OpenBrace ws ≡ Ok rest → 0 < levels → statements_at (body_at (levels - 1)) room rest ≡ Ok (f, vs)
    → body_at levels room ws ≡ (mark_at CloseBrace vs >>= λ after. Ok (block f, after))
unfolding closed
body-filled levels room ws rest f vs o h k = body-opened levels room ws rest o h ∙ ap (λ r. r >>= closed) k

pub body-unclosed : (e : Stop) (levels : ℕ) (room : Room) (ws rest : List Symbol) (f : Finds) (vs : List Symbol)
    → mark_at OpenBrace ws ≡ Ok rest → 0 < levels → statements_at (body_at (levels - 1)) room rest ≡ Ok (f, vs) → Fails e (mark_at CloseBrace vs) → Fails e (body_at levels room ws)
body-unclosed e levels room ws rest f vs o h k g = fails-along e _ _ (body-filled levels room ws rest f vs o h k) (fails-bind e (mark_at CloseBrace vs) _ g)

pub body-closed : (levels : ℕ) (room : Room) (ws rest : List Symbol) (f : Finds) (vs after : List Symbol)
    → mark_at OpenBrace ws ≡ Ok rest → 0 < levels → statements_at (body_at (levels - 1)) room rest ≡ Ok (f, vs) → mark_at CloseBrace vs ≡ Ok after → body_at levels room ws ≡ Ok (block f, after)
body-closed levels room ws rest f vs after o h k g = body-filled levels room ws rest f vs o h k ∙ ap (λ r. r >>= λ after. Ok (block f, after)) g
