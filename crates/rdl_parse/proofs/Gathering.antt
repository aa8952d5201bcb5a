-- Keeping nothing once the room is passed changes no answer.
use Rattle.std.proofs.Common.{◌≡◌, ℕ, ◌+◌, ◌-◌, ◌<◌, ◌≤◌, Bool, true, false, cond, List, ◌++◌, length, Option, Some, None, Result, Ok, Err, refl, ap, sym, ◌∙◌, arith}
use Rattle.std.proofs.lemmas.List.{length-append}
use Rattle.std.proofs.lemmas.List.Sums.{sum_by-append}
use Rattle.rdl_text.specs.Word.{Word}
use Rattle.rdl_text.specs.declared.token.Mark.TheVariants.{Semicolon, Comma}
use Rattle.rdl_tree.specs.ItemWeight.{item_weight}
use Rattle.rdl_tree.specs.declared.description.Item.TheVariants.{Instance}
use Rattle.rdl_tree.specs.declared.description.Of.{Of}
use Rattle.rdl_tree.specs.declared.shell.Outside.{Outside}
use Rattle.rdl_tree.specs.declared.shell.Shell.{Shell}
use Rattle.rdl_parse.specs.Finds.{Finds, single, joined, fits, less, weight_of}
use Rattle.rdl_parse.specs.Gathering.{held, gather, gathered_at, next_of, ended, ended_at}
use Rattle.rdl_parse.specs.Reading.{◌>>=◌, Fails, Finished, begins, mark_at, inst_at, finish_at, more_at, next_at, others_at, insts_at}
use Rattle.rdl_parse.specs.Symbol.{Symbol, symbols}
use Rattle.rdl_parse.specs.declared.fault.Fault.{Fault}
use Rattle.rdl_parse.specs.declared.fault.Fault.TheVariants.{TooLarge}
use Rattle.rdl_parse.specs.declared.fault.Stop.{Stop}
use Rattle.rdl_parse.specs.declared.fault.Stop.TheVariants as stops
use Rattle.rdl_parse.specs.declared.found.Spot.{Spot}
use Rattle.rdl_parse.specs.declared.room.Room.{Room}
use Rattle.rdl_parse.proofs.Forms.{fits-many, fits-light, fits-both}
use Rattle.rdl_parse.proofs.Turns.{repeated-on, repeated-next, repeated-done}
use Rattle.rdl_parse.proofs.TextAgain.{next-shortens}
use Rattle.rdl_parse.proofs.Outcome.{outcome-ok}
use Rattle.rdl_parse.proofs.Passing.{passes-length, inst-passes}
use Rattle.rdl_parse.proofs.WordRead.{mark-reads, inst-reads}
use Rattle.rdl_parse.proofs.Words.{length_symbols}

-- ---- The end of a statement.

ended-cases : (b : Bool) (f : Finished) (rest : List Symbol) → cond b (Ok (f, rest)) (Err (TooLarge (length rest + 1))) ≡ ended (cond b (Some f) None) rest
ended-cases true f rest = refl
ended-cases false f rest = refl

ended-same : (room : Room) (found : Finds) (r : Result (List Symbol) Fault) → (r >>= λ rest. cond (fits room found) (Ok ((found, less room found), rest)) (Err (TooLarge (length rest + 1)))) ≡ (r >>= λ rest. ended (held room found) rest)
ended-same room found (Ok rest) = ended-cases (fits room found) (found, less room found) rest
ended-same room found (Err e) = refl

pub finish_ended : (room : Room) (found : Finds) (ws : List Symbol) → finish_at room found ws ≡ ended_at (held room found) ws
unfolding finish_at ended_at
finish_ended room found ws = ended-same room found (mark_at Semicolon ws)

-- ---- One more.

same-test : (a b : Bool) → (a ≡ true → b ≡ true) → (b ≡ true → a ≡ true) → a ≡ b
same-test true b h k = sym (h refl)
same-test false true h k = k refl
same-test false false h k = refl

not-first : (a b : Bool) → a ≡ false → (b ≡ true → a ≡ true) → b ≡ false
not-first a true h k = absurd (let e : true ≡ false = sym (k refl) ∙ h in cc)
not-first a false h k = refl

joined-many : (room : Room) (f x : Finds) → fits room (joined f x) ≡ true → length f.spots + length x.spots ≤ room.items
joined-many room f x h = omega (arith, fits-many room (joined f x) h, length-append f.spots x.spots)

joined-light : (room : Room) (f x : Finds) → fits room (joined f x) ≡ true → weight_of f.items + weight_of x.items ≤ room.weight
joined-light room f x h = omega (arith, fits-light room (joined f x) h, sum_by-append item_weight f.items x.items)

fits-first : (room : Room) (f x : Finds) → fits room (joined f x) ≡ true → fits room f ≡ true
fits-first room f x h = fits-both room f (omega (arith, joined-many room f x h)) (omega (arith, joined-light room f x h))

fits-second : (room : Room) (f x : Finds) → fits room (joined f x) ≡ true → fits (less room f) x ≡ true
fits-second room f x h = fits-both (less room f) x (omega (arith, joined-many room f x h)) (omega (arith, joined-light room f x h))

fits-joined : (room : Room) (f x : Finds) → fits room f ≡ true → fits (less room f) x ≡ true → fits room (joined f x) ≡ true
fits-joined room f x h k =
    fits-both room (joined f x)
    (omega (arith, length-append f.spots x.spots, fits-many room f h, fits-many (less room f) x k))
    (omega (arith, sum_by-append item_weight f.items x.items, fits-light room f h, fits-light (less room f) x k))

less-joined : (room : Room) (f x : Finds) → less (less room f) x ≡ less room (joined f x)
less-joined room f x =
    let items : room.items - length f.spots - length x.spots ≡ room.items - length (f.spots ++ x.spots) = omega (arith, length-append f.spots x.spots) in
    let weight : room.weight - weight_of f.items - weight_of x.items ≡ room.weight - weight_of (f.items ++ x.items) = omega (arith, sum_by-append item_weight f.items x.items) in
    λ i. record { items = items i; weight = weight i }

gather-cases : (room : Room) (f x : Finds) (b : Bool) → fits room f ≡ b → gather (cond b (Some (f, less room f)) None) x ≡ held room (joined f x)
gather-cases room f x true h =
    (λ i. cond (same-test (fits (less room f) x) (fits room (joined f x)) (fits-joined room f x h) (fits-second room f x) i) (Some (joined f x, less-joined room f x i)) None)
gather-cases room f x false h = sym (ap (λ b. cond b (Some (joined f x, less room (joined f x))) None) (not-first (fits room f) (fits room (joined f x)) h (fits-first room f x)))

pub gather-held : (room : Room) (f x : Finds) → gather (held room f) x ≡ held room (joined f x)
gather-held room f x = gather-cases room f x (fits room f) refl

abbrev keeps : Option Finished → List Symbol → Result (Option Finished × List Symbol) Fault
keeps k ws = Ok (k, ws)

abbrev finds : Finds → List Symbol → Result (Finds × List Symbol) Fault
finds f ws = Ok (f, ws)

kept-same : (k l : Option Finished) (ws vs : List Symbol) → keeps k ws ≡ keeps l vs → (k ≡ l) × (ws ≡ vs)
kept-same k l ws vs e =
    let x : Option Finished × List Symbol = (k, ws) in
    let y : Option Finished × List Symbol = (l, vs) in
    let same : x ≡ y = cc in
    (ap (λ z. z.0) same, ap (λ z. z.1) same)

-- what is kept is what fits of these, with which reading goes on
pub record More (room : Room) (f : Finds) (read : Result (Finds × List Symbol) Fault) (k : Option Finished) (vs : List Symbol) : Type 0 where
  pub found : Finds
  pub kept : k ≡ held room found
  pub reads : read ≡ finds found vs

more-of : (room : Room) (f : Finds) (x : Shell → Finds) (r : Result (Shell × List Symbol) Fault) (k : Option Finished) (vs : List Symbol)
    → (r >>= λ i. keeps (gather (held room f) (x i.0)) i.1) ≡ keeps k vs → More room f (r >>= λ i. finds (joined f (x i.0)) i.1) k vs
more-of room f x (Ok i) k vs e =
    let p = kept-same (gather (held room f) (x i.0)) k i.1 vs e in
    record { found = joined f (x i.0); kept = sym p.0 ∙ gather-held room f (x i.0); reads = ap (finds (joined f (x i.0))) p.1 }
more-of room f x (Err g) k vs e = absurd cc

pub more-kept : (room : Room) (o : Outside) (of : Of) (inner : List Spot) (f : Finds) (ws : List Symbol) (k l : Option Finished) (vs : List Symbol)
    → k ≡ held room f → gathered_at o of inner k ws ≡ keeps l vs → More room f (more_at o of inner f ws) l vs
unfolding gathered_at more_at
more-kept room o of inner f ws k l vs h e =
    more-of room f (λ s. single (Instance s of) (length ws) inner) (inst_at o ws) l vs (ap (λ k. inst_at o ws >>= λ i. keeps (gather k (single (Instance i.0 of) (length ws) inner)) i.1) (sym h) ∙ e)

fails-of : (e : Stop) (f : Finds) (k : Option Finished) (x : Shell → Finds) (r : Result (Shell × List Symbol) Fault) → Fails e (r >>= λ i. keeps (gather k (x i.0)) i.1) → Fails e (r >>= λ i. finds (joined f (x i.0)) i.1)
fails-of stops.Memory f k x r h = tt
fails-of (stops.Fault g) f k x (Ok i) h = absurd cc
fails-of (stops.Fault g) f k x (Err e) h = let same : e ≡ g = cc in ap Err same

pub more-fails : (e : Stop) (o : Outside) (of : Of) (inner : List Spot) (f : Finds) (k : Option Finished) (ws : List Symbol) → Fails e (gathered_at o of inner k ws) → Fails e (more_at o of inner f ws)
unfolding gathered_at more_at
more-fails e o of inner f k ws h = fails-of e f k (λ s. single (Instance s of) (length ws) inner) (inst_at o ws) h

-- ---- The instances of a statement.

-- what is kept is what fits of these, with which reading goes on to the total
pub record Gathers (room : Room) (o : Outside) (of : Of) (inner : List Spot) (k : Option Finished) (ws : List Symbol) (total : Result (Finished × List Symbol) Fault) : Type 0 where
  pub found : Finds
  pub kept : k ≡ held room found
  pub reads : total ≡ (others_at o of inner found ws >>= λ all. finish_at room all.0 all.1)

pub gathers-first : (room : Room) (o : Outside) (of : Of) (inner : List Spot) (f : Finds) (ws : List Symbol) (k l : Option Finished) (vs : List Symbol)
    → k ≡ held room f → gathered_at o of inner k ws ≡ keeps l vs → Gathers room o of inner l vs (insts_at room o of inner f ws)
unfolding insts_at
gathers-first room o of inner f ws k l vs h e =
    let p = more-kept room o of inner f ws k l vs h e in
    record { found = p.found; kept = p.kept; reads = ap (λ r. r >>= λ first. others_at o of inner first.0 first.1 >>= λ all. finish_at room all.0 all.1) p.reads }

pub first-fails : (e : Stop) (room : Room) (o : Outside) (of : Of) (inner : List Spot) (f : Finds) (k : Option Finished) (ws : List Symbol) → Fails e (gathered_at o of inner k ws) → Fails e (insts_at room o of inner f ws)
unfolding insts_at
first-fails stops.Memory room o of inner f k ws h = tt
first-fails (stops.Fault g) room o of inner f k ws h = ap (λ r. r >>= λ first. others_at o of inner first.0 first.1 >>= λ all. finish_at room all.0 all.1) (more-fails (stops.Fault g) o of inner f k ws h)

-- a comma, and one instance more
next-of : (o : Outside) (of : Of) (inner : List Spot) (f : Finds) (ws vs : List Symbol) (r : Result (Finds × List Symbol) Fault) → mark_at Comma ws ≡ Ok vs → more_at o of inner f vs ≡ r → next_at o of inner f ws ≡ r
unfolding next_at
next-of o of inner f ws vs r h k = ap (λ q. q >>= λ rest. more_at o of inner f rest) h ∙ k

no-comma : (o : Outside) (of : Of) (inner : List Spot) (f : Finds) (ws : List Symbol) (g : Fault) → mark_at Comma ws ≡ Err g → next_at o of inner f ws ≡ Err g
unfolding next_at
no-comma o of inner f ws g h = ap (λ q. q >>= λ rest. more_at o of inner f rest) h

-- the first fault of a turn is that of the whole
turn-fails : (room : Room) (o : Outside) (of : Of) (inner : List Spot) (f : Finds) (ws : List Symbol) (g : Fault) (total : Result (Finished × List Symbol) Fault)
    → begins Comma ws ≡ true → next_at o of inner f ws ≡ Err g → total ≡ (others_at o of inner f ws >>= λ all. finish_at room all.0 all.1) → total ≡ Err g
turn-fails room o of inner f ws g total h e k = k ∙ ap (λ r. r >>= λ all. finish_at room all.0 all.1) (repeated-on (next-shortens o of inner) f ws (Err g) h e)

pub comma-fails : (e : Stop) (room : Room) (o : Outside) (of : Of) (inner : List Spot) (k : Option Finished) (ws : List Symbol) (total : Result (Finished × List Symbol) Fault)
    → begins Comma ws ≡ true → Fails e (mark_at Comma ws) → Gathers room o of inner k ws total → Fails e total
comma-fails stops.Memory room o of inner k ws total h e p = tt
comma-fails (stops.Fault g) room o of inner k ws total h e p = turn-fails room o of inner p.found ws g total h (no-comma o of inner p.found ws g e) p.reads

pub next-fails : (e : Stop) (room : Room) (o : Outside) (of : Of) (inner : List Spot) (k : Option Finished) (ws vs : List Symbol) (total : Result (Finished × List Symbol) Fault)
    → begins Comma ws ≡ true → mark_at Comma ws ≡ Ok vs → Fails e (gathered_at o of inner k vs) → Gathers room o of inner k ws total → Fails e total
next-fails stops.Memory room o of inner k ws vs total h c e p = tt
next-fails (stops.Fault g) room o of inner k ws vs total h c e p =
    turn-fails room o of inner p.found ws g total h (next-of o of inner p.found ws vs (Err g) c (more-fails (stops.Fault g) o of inner p.found k vs e)) p.reads

pub gathers-next : (room : Room) (o : Outside) (of : Of) (inner : List Spot) (k l : Option Finished) (ws vs us : List Symbol) (total : Result (Finished × List Symbol) Fault)
    → begins Comma ws ≡ true → mark_at Comma ws ≡ Ok vs → gathered_at o of inner k vs ≡ keeps l us → Gathers room o of inner k ws total → Gathers room o of inner l us total
gathers-next room o of inner k l ws vs us total h c e p =
    let q = more-kept room o of inner p.found vs k l us p.kept e in
    record {
      found = q.found;
      kept = q.kept;
      reads = p.reads ∙ ap (λ r. r >>= λ all. finish_at room all.0 all.1) (repeated-next (next-shortens o of inner) p.found ws (q.found, us) h (next-of o of inner p.found ws vs (finds q.found us) c q.reads));
    }

shorter-of : (x : Shell → Option Finished) (n : ℕ) (r : Result (Shell × List Symbol) Fault) (l : Option Finished) (vs : List Symbol) → (r >>= λ i. keeps (x i.0) i.1) ≡ keeps l vs → ((i : Shell × List Symbol) → r ≡ Ok i → length i.1 ≤ n) → length vs ≤ n
shorter-of x n (Ok i) l vs e h = omega (arith, h i refl, ap length (kept-same (x i.0) l i.1 vs e).1)
shorter-of x n (Err g) l vs e h = absurd cc

gathered-smaller : (o : Outside) (of : Of) (inner : List Spot) (k l : Option Finished) (ws vs : List Symbol) → gathered_at o of inner k ws ≡ keeps l vs → length vs ≤ length ws
unfolding gathered_at
gathered-smaller o of inner k l ws vs e =
    shorter-of (λ s. gather k (single (Instance s of) (length ws) inner)) (length ws) (inst_at o ws) l vs e (λ i h. let p = outcome-ok i h (inst-reads o ws) in omega (arith, ap length p.words_are, passes-length (inst-passes p.inst i.1)))

pub gathers-smaller : (o : Outside) (of : Of) (inner : List Spot) (k l : Option Finished) (ws vs us : List Word) → mark_at Comma (symbols ws) ≡ Ok (symbols vs) → gathered_at o of inner k (symbols vs) ≡ keeps l (symbols us) → length us < length ws
gathers-smaller o of inner k l ws vs us h e =
    omega (arith, gathered-smaller o of inner k l (symbols vs) (symbols us) e, ap length (outcome-ok (symbols vs) h (mark-reads Comma (symbols ws))), length_symbols ws, length_symbols vs, length_symbols us)

-- without a comma the statement ends
pub gathers-ends : (room : Room) (o : Outside) (of : Of) (inner : List Spot) (k : Option Finished) (ws : List Symbol) (total : Result (Finished × List Symbol) Fault)
    → begins Comma ws ≡ false → Gathers room o of inner k ws total → total ≡ ended_at k ws
gathers-ends room o of inner k ws total h p =
    p.reads ∙ ap (λ r. r >>= λ all. finish_at room all.0 all.1) (repeated-done (next-shortens o of inner) p.found ws h) ∙ finish_ended room p.found ws ∙ ap (λ k. ended_at k ws) (sym p.kept)

-- what the next instance is of is handed on where a comma stands
next-by : (again : Bool) (of o : Of) → next_of again of ≡ Some o → (again ≡ true) × (of ≡ o)
next-by true of o e = (refl, let inside : of ≡ o = cc in inside)
next-by false of o e = absurd cc

pub next-again : (of o : Of) (next : Option Of) (again : Bool) → next ≡ next_of again of → next ≡ Some o → again ≡ true
next-again of o next again h e = (next-by again of o (sym h ∙ e)).0

pub next-same : (of o : Of) (next : Option Of) (again : Bool) → next ≡ next_of again of → next ≡ Some o → of ≡ o
next-same of o next again h e = (next-by again of o (sym h ∙ e)).1

last-by : (again : Bool) (of : Of) → next_of again of ≡ None → again ≡ false
last-by true of e = absurd cc
last-by false of e = refl

pub next-over : (of : Of) (next : Option Of) (again : Bool) → next ≡ next_of again of → next ≡ None → again ≡ false
next-over of next again h e = last-by again of (sym h ∙ e)
