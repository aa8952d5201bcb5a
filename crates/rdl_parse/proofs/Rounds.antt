-- What one turn of each loop does.
use Rattle.std.proofs.Common.{◌≡◌, ◌<◌, Bool, true, false, List, length, Result, Ok, Err, sym, ◌∙◌, arith}
use Rattle.rdl_text.specs.Word.{Word}
use Rattle.rdl_parse.specs.Symbol.{Symbol, symbols}
use Rattle.rdl_parse.specs.Reading.{Fails, repeated}
use Rattle.rdl_parse.specs.declared.fault.Fault.{Fault}
use Rattle.rdl_parse.specs.declared.fault.Stop.{Stop}
use Rattle.rdl_parse.specs.declared.fault.Stop.TheVariants as stops
use Rattle.rdl_parse.proofs.Turns.{Step, Shortens, repeated-on, repeated-next, repeated-done}
use Rattle.rdl_parse.proofs.Words.{length_symbols}

-- the words behind a turn
pub takes : {S : Type 0} (on : List Symbol → Bool) (step : Step S) → Shortens on step → (s : S) (ws vs : List Word) (t : S) → step s (symbols ws) ≡ Ok (t, symbols vs) → length vs < length ws
takes on step short s ws vs t e = omega (arith, short.shorter s (symbols ws) (t, symbols vs) e, length_symbols ws, length_symbols vs)

-- where a turn stops, so do all
pub repeated-fails : {S : Type 0} (on : List Symbol → Bool) (step : Step S) → Shortens on step → (e : Stop) (s : S) (ws : List Symbol) (total : Result (S × List Symbol) Fault)
    → on ws ≡ true → Fails e (step s ws) → repeated on step s ws ≡ total → Fails e total
repeated-fails on step short stops.Memory s ws total h f k = tt
repeated-fails on step short (stops.Fault g) s ws total h f k = sym k ∙ repeated-on short s ws (Err g) h f

pub repeated-goes : {S : Type 0} (on : List Symbol → Bool) (step : Step S) → Shortens on step → (s : S) (ws : List Symbol) (x : S × List Symbol) (total : Result (S × List Symbol) Fault)
    → on ws ≡ true → step s ws ≡ Ok x → repeated on step s ws ≡ total → repeated on step x.0 x.1 ≡ total
repeated-goes on step short s ws x total h f k = sym (repeated-next short s ws x h f) ∙ k

pub repeated-ends : {S : Type 0} (on : List Symbol → Bool) (step : Step S) → Shortens on step → (s : S) (ws : List Symbol) (total : Result (S × List Symbol) Fault)
    → on ws ≡ false → repeated on step s ws ≡ total → total ≡ Ok (s, ws)
repeated-ends on step short s ws total h k = sym k ∙ repeated-done short s ws h
