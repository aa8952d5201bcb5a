-- Reading words from left to right, with the first fault that is met.
-- Own.
use Rattle.std.specs.Prelude.{◌≡◌, ℕ, zero, suc, ◌+◌, Bool, true, false, not, ◌||◌, if◌then◌else◌, List, [], ◌∷◌, ◌++◌, length, codes, bytes_eq, Option, Some, None, Result, Ok, Err}
use denote.Enum.Bare.{sameb}
use Rattle.std.specs.Global.{Vec}
use Rattle.rdl_text.specs.contracts.token.Mark.{the_type}
use Rattle.rdl_text.specs.declared.token.Mark.{Mark}
use Rattle.rdl_text.specs.declared.token.Mark.TheVariants.{OpenBrace, CloseBrace, OpenBracket, CloseBracket, Colon, Semicolon, Comma, Dot, Equals, At, PlusEquals, PercentEquals, Arrow}
use Rattle.rdl_tree.specs.Items.{Items}
use Rattle.rdl_tree.specs.Limits.{max_count, max_weight}
use Rattle.rdl_tree.specs.View.{items_of}
use Rattle.rdl_tree.specs.declared.description.Description.{Description}
use Rattle.rdl_tree.specs.declared.description.Item.{Item}
use Rattle.rdl_tree.specs.declared.description.Item.TheVariants.{Define, Instance, Own, Default, Dynamic}
use Rattle.rdl_tree.specs.declared.description.Of.{Of}
use Rattle.rdl_tree.specs.declared.description.Of.TheVariants.{Named, Anonymous}
use Rattle.rdl_tree.specs.declared.shell.Kind.{Kind}
use Rattle.rdl_tree.specs.declared.shell.Outside.{Outside}
use Rattle.rdl_tree.specs.declared.shell.Outside.TheVariants.{Unsaid}
use Rattle.rdl_tree.specs.declared.shell.Shell.{Shell}
use Rattle.rdl_tree.specs.declared.value.Value.{Value}
use Rattle.rdl_tree.specs.declared.value.Value.TheVariants as values
use Rattle.rdl_tree.specs.declared.value.Word.{Word as ValueWord}
use Rattle.rdl_tree.specs.declared.value.Word.TheVariants as word
use Rattle.rdl_parse.specs.Finds.{Finds, nothing, single, joined, fits, less}
use Rattle.rdl_parse.specs.Spelling.{component}
use Rattle.rdl_parse.specs.Symbol as symbol
use Rattle.rdl_parse.specs.Symbol.{Symbol, kind, outside, name, number, mark, property_text}
use Rattle.rdl_parse.specs.declared.class.ReservedProperty.{ReservedProperty}
use Rattle.rdl_parse.specs.declared.class.ReservedProperty.TheVariants as property
use Rattle.rdl_parse.specs.declared.fault.Fault.{Fault}
use Rattle.rdl_parse.specs.declared.fault.Fault.TheVariants.{Unexpected, End, TooDeep, TooLarge}
use Rattle.rdl_parse.specs.declared.fault.Stop.{Stop}
use Rattle.rdl_parse.specs.declared.fault.Stop.TheVariants as stops
use Rattle.rdl_parse.specs.declared.found.Spot.{Spot}
use Rattle.rdl_parse.specs.declared.room.Room.{Room}

infixl 10 ◌>>=◌
abbrev pub ◌>>=◌ : {A B : Type 0} → Result A Fault → (A → Result B Fault) → Result B Fault
(Ok x) >>= f = f x
(Err e) >>= f = Err e

-- What a function returned, seen by view, is what reading gives, unless memory ran out.
abbrev pub Fails : {Y : Type 0} → Stop → Result Y Fault → Type 0
Fails stops.Memory read = Unit {0}
Fails (stops.Fault f) read = read ≡ Err f

abbrev pub Gives : {X Y : Type 0} → (X → Y) → Result X Stop → Result Y Fault → Type 0
Gives view (Ok x) read = read ≡ Ok (view x)
Gives view (Err e) read = Fails e read

-- ---- One word.

-- a word that does not fit, or the end
abbrev pub fault_at : List Symbol → Fault
fault_at [] = End
fault_at (w ∷ ws) = Unexpected (length (w ∷ ws))

abbrev pub wrong : {A : Type 0} → List Symbol → Result A Fault
wrong ws = Err (fault_at ws)

-- the word in front, if it has a meaning, and the words behind it
abbrev pub taken : {A : Type 0} → Option A → List Symbol → List Symbol → Result (A × List Symbol) Fault
taken (Some x) rest ws = Ok (x, rest)
taken None rest ws = wrong ws

unfoldable pub by : {A : Type 0} → (Symbol → Option A) → List Symbol → Result (A × List Symbol) Fault
by p [] = wrong []
by p (w ∷ ws) = taken (p w) ws (w ∷ ws)

abbrev pub is_mark : Mark → Symbol → Bool
is_mark m (mark n) = sameb the_type n m
is_mark m w = false

unfoldable pub begins : Mark → List Symbol → Bool
begins m [] = false
begins m (w ∷ ws) = is_mark m w

unfoldable pub mark_at : Mark → List Symbol → Result (List Symbol) Fault
mark_at m [] = wrong []
mark_at m (w ∷ ws) = if is_mark m w then Ok ws else wrong (w ∷ ws)

abbrev pub name_by : Symbol → Option (List ℕ)
name_by (name n) = Some n
name_by w = None

abbrev pub number_by : Symbol → Option ℕ
number_by (number n) = Some n
number_by w = None

abbrev pub prop_by : Symbol → Option (List ℕ)
prop_by (name n) = Some n
prop_by (symbol.property p) = Some (property_text p)
prop_by w = None

-- names that are values
abbrev pub name_value : List ℕ → Option Value
name_value n =
    if bytes_eq n (codes "r") then Some (values.Word word.R)
    else if bytes_eq n (codes "w") then Some (values.Word word.W)
    else None

-- properties that are values
abbrev pub property_value : ReservedProperty → Option Value
property_value property.Sw = None
property_value property.Hw = None
property_value property.Rclr = Some (values.Word word.Rclr)
property_value property.Rset = Some (values.Word word.Rset)
property_value property.Woset = Some (values.Word word.Woset)
property_value property.Woclr = Some (values.Word word.Woclr)

-- words that are nothing else
abbrev pub word_value : ValueWord → Option Value
word_value word.R = None
word_value word.W = None
word_value word.Rclr = None
word_value word.Rset = None
word_value word.Woset = None
word_value word.Woclr = None
word_value w = Some (values.Word w)

abbrev pub value_by : Symbol → Option Value
value_by (number n) = Some (values.Number n)
value_by (symbol.text t) = Some (values.Text t)
value_by (symbol.truth b) = Some (values.Bool b)
value_by (name n) = name_value n
value_by (symbol.property p) = property_value p
value_by (symbol.word w) = word_value w
value_by w = None

abbrev pub name_at : List Symbol → Result (List ℕ × List Symbol) Fault
name_at ws = by name_by ws

abbrev pub number_at : List Symbol → Result (ℕ × List Symbol) Fault
number_at ws = by number_by ws

abbrev pub prop_at : List Symbol → Result (List ℕ × List Symbol) Fault
prop_at ws = by prop_by ws

-- ---- Steps, as long as the words go on so. As many turns as there are words are enough.

unfoldable pub turns : {S : Type 0} → (List Symbol → Bool) → (S → List Symbol → Result (S × List Symbol) Fault) → ℕ → S → List Symbol → Result (S × List Symbol) Fault
turns on step zero s ws = Ok (s, ws)
turns on step (suc n) s ws = if on ws then (step s ws >>= λ x. turns on step n x.0 x.1) else Ok (s, ws)

unfoldable pub repeated : {S : Type 0} → (List Symbol → Bool) → (S → List Symbol → Result (S × List Symbol) Fault) → S → List Symbol → Result (S × List Symbol) Fault
repeated on step s ws = turns on step (length ws) s ws

-- ---- One INST.

unfoldable pub size_at : List ℕ → List Symbol → Result (List ℕ × List Symbol) Fault
size_at ns ws = do
  a ← mark_at OpenBracket ws
  n ← number_at a
  b ← mark_at CloseBracket n.1
  Ok (ns ++ (n.0 ∷ []), b)

abbrev pub sizes_at : List ℕ → List Symbol → Result (List ℕ × List Symbol) Fault
sizes_at ns ws = repeated (begins OpenBracket) size_at ns ws

abbrev pub Bracketed : Type 0
Bracketed = List ℕ × Option (ℕ × ℕ)

-- what stands behind the first number in brackets
unfoldable pub bracketed_at : ℕ → List Symbol → Result (Bracketed × List Symbol) Fault
bracketed_at n ws =
    if begins Colon ws
    then (mark_at Colon ws >>= λ a. number_at a >>= λ l. mark_at CloseBracket l.1 >>= λ b. Ok (([], Some (n, l.0)), b))
    else (mark_at CloseBracket ws >>= λ a. sizes_at (n ∷ []) a >>= λ ns. Ok ((ns.0, None), ns.1))

unfoldable pub brackets_at : List Symbol → Result (Bracketed × List Symbol) Fault
brackets_at ws =
    if begins OpenBracket ws
    then (mark_at OpenBracket ws >>= λ a. number_at a >>= λ n. bracketed_at n.0 n.1)
    else Ok (([], None), ws)

unfoldable pub part_at : Mark → List Symbol → Result (Option ℕ × List Symbol) Fault
part_at m ws =
    if begins m ws
    then (mark_at m ws >>= λ a. number_at a >>= λ n. Ok (Some n.0, n.1))
    else Ok (None, ws)

abbrev pub shell : Outside → List ℕ → Bracketed → (reset address stride align : Option ℕ) → Shell
shell o n b r a s l = record { name = n; outside = o; dims = b.0; range = b.1; reset = r; address = a; stride = s; align = l }

unfoldable pub inst_at : Outside → List Symbol → Result (Shell × List Symbol) Fault
inst_at o ws = do
  n ← name_at ws
  b ← brackets_at n.1
  r ← part_at Equals b.1
  a ← part_at At r.1
  s ← part_at PlusEquals a.1
  l ← part_at PercentEquals s.1
  Ok (shell o n.0 b.0 r.0 a.0 s.0 l.0, l.1)

-- ---- The INSTs of a statement, and its end.

-- the items of a statement, and the room that they leave
abbrev pub Finished : Type 0
Finished = Finds × Room

-- the `;` of a statement that found these
unfoldable pub finish_at : Room → Finds → List Symbol → Result (Finished × List Symbol) Fault
finish_at room found ws = do
  rest ← mark_at Semicolon ws
  if fits room found then Ok ((found, less room found), rest) else Err (TooLarge (length rest + 1))

-- one instance more
unfoldable pub more_at : Outside → Of → List Spot → Finds → List Symbol → Result (Finds × List Symbol) Fault
more_at o of inner found ws = do
  i ← inst_at o ws
  Ok (joined found (single (Instance i.0 of) (length ws) inner), i.1)

unfoldable pub next_at : Outside → Of → List Spot → Finds → List Symbol → Result (Finds × List Symbol) Fault
next_at o of inner found ws = do
  rest ← mark_at Comma ws
  more_at o of inner found rest

abbrev pub others_at : Outside → Of → List Spot → Finds → List Symbol → Result (Finds × List Symbol) Fault
others_at o of inner found ws = repeated (begins Comma) (next_at o of inner) found ws

unfoldable pub insts_at : Room → Outside → Of → List Spot → Finds → List Symbol → Result (Finished × List Symbol) Fault
insts_at room o of inner found ws = do
  first ← more_at o of inner found ws
  all ← others_at o of inner first.0 first.1
  finish_at room all.0 all.1

-- ---- Assignments.

-- = VALUE, or nothing
unfoldable pub value_at : List Symbol → Result (Value × List Symbol) Fault
value_at ws =
    if begins Equals ws
    then (mark_at Equals ws >>= λ a. by value_by a)
    else Ok (values.Bool true, ws)

unfoldable pub own_at : Room → ℕ → List ℕ → List Symbol → Result (Finished × List Symbol) Fault
own_at room left p ws = do
  v ← value_at ws
  finish_at room (single (Own p v.0) left []) v.1

unfoldable pub default_at : Room → ℕ → List Symbol → Result (Finished × List Symbol) Fault
default_at room left ws = do
  p ← prop_at ws
  v ← value_at p.1
  finish_at room (single (Default p.0 v.0) left []) v.1

unfoldable pub dot_at : List (List ℕ) → List Symbol → Result (List (List ℕ) × List Symbol) Fault
dot_at t ws = do
  a ← mark_at Dot ws
  n ← name_at a
  Ok (t ++ (n.0 ∷ []), n.1)

abbrev pub dots_at : List (List ℕ) → List Symbol → Result (List (List ℕ) × List Symbol) Fault
dots_at t ws = repeated (begins Dot) dot_at t ws

-- what stands behind the first NAME of a target
unfoldable pub dynamic_at : Room → ℕ → List ℕ → List Symbol → Result (Finished × List Symbol) Fault
dynamic_at room left n ws = do
  t ← dots_at (n ∷ []) ws
  a ← mark_at Arrow t.1
  p ← prop_at a
  v ← value_at p.1
  finish_at room (single (Dynamic t.0 p.0 v.0) left []) v.1

-- what stands behind a NAME at the front of a statement
unfoldable pub named_at : Room → ℕ → List ℕ → List Symbol → Result (Finished × List Symbol) Fault
named_at room left n ws =
    if begins Dot ws || begins Arrow ws then dynamic_at room left n ws
    else if begins Equals ws || begins Semicolon ws then own_at room left n ws
    else insts_at room Unsaid (Named n) [] nothing ws

-- ---- Definitions, and instances of components without a name.

-- a body, and where the words of its items stand
pub record Block : Type 0 where
  pub items : Items
  pub spots : List Spot

abbrev pub block : Finds → Block
block f = record { items = items_of f.items; spots = f.spots }

abbrev pub whole : Items → List Spot → Block
whole d at = record { items = d; spots = at }

-- how a body in braces is read, where there is so much room
abbrev pub Inner : Type 0
Inner = Room → List Symbol → Result (Block × List Symbol) Fault

-- `external` or `internal` before the first INST, if none stands at the front
unfoldable pub late_at : Option Outside → List Symbol → Result (Outside × List Symbol) Fault
late_at (Some o) ws = Ok (o, ws)
late_at None (outside o ∷ ws) = Ok (o, ws)
late_at None ws = Ok (Unsaid, ws)

abbrev pub is_unsaid : Option Outside → Bool
is_unsaid None = true
is_unsaid (Some o) = false

unfoldable pub late_insts_at : Room → Option Outside → Of → List Spot → Finds → List Symbol → Result (Finished × List Symbol) Fault
late_insts_at room front of inner found ws = do
  o ← late_at front ws
  insts_at room o.0 of inner found o.1

-- what stands behind a body with a name
unfoldable pub defined_at : Room → Option Outside → Of → Finds → List Symbol → Result (Finished × List Symbol) Fault
defined_at room None of found ws = if begins Semicolon ws then finish_at room found ws else late_insts_at room None of [] found ws
defined_at room (Some o) of found ws = late_insts_at room (Some o) of [] found ws

-- what stands behind a KIND, where so many words begin with the first of the statement
unfoldable pub component_at : Inner → Room → Option Outside → ℕ → Kind → List Symbol → Result (Finished × List Symbol) Fault
component_at inner room front left k (name n ∷ ws) = do
  b ← inner room ws
  defined_at room front (Named n) (single (Define n (component k b.0.items)) left b.0.spots) b.1
component_at inner room front left k ws = do
  b ← inner room ws
  late_insts_at room front (Anonymous (component k b.0.items)) b.0.spots nothing b.1

-- what stands behind `external` or `internal` at the front of a statement
unfoldable pub fronted_at : Inner → Room → ℕ → Outside → List Symbol → Result (Finished × List Symbol) Fault
fronted_at inner room left o (kind k ∷ ws) = component_at inner room (Some o) left k ws
fronted_at inner room left o (name n ∷ ws) = insts_at room o (Named n) [] nothing ws
fronted_at inner room left o ws = wrong ws

unfoldable pub statement_at : Inner → Room → List Symbol → Result (Finished × List Symbol) Fault
statement_at inner room (kind k ∷ ws) = component_at inner room None (suc (length ws)) k ws
statement_at inner room (outside o ∷ ws) = fronted_at inner room (suc (length ws)) o ws
statement_at inner room (symbol.default ∷ ws) = default_at room (suc (length ws)) ws
statement_at inner room (name n ∷ ws) = named_at room (suc (length ws)) n ws
statement_at inner room (symbol.property p ∷ ws) = own_at room (suc (length ws)) (property_text p) ws
statement_at inner room ws = wrong ws

-- ---- Bodies, and the whole.

unfoldable pub goes_on : List Symbol → Bool
goes_on [] = false
goes_on (w ∷ ws) = not (is_mark CloseBrace w)

-- these, and a finished statement
abbrev pub grown : Finished → Finished × List Symbol → Finished × List Symbol
grown s x = ((joined s.0 x.0.0, x.0.1), x.1)

unfoldable pub following_one_at : Inner → Finished → List Symbol → Result (Finished × List Symbol) Fault
following_one_at inner s ws = do
  x ← statement_at inner s.1 ws
  Ok (grown s x)

abbrev pub following_at : Inner → Finished → List Symbol → Result (Finished × List Symbol) Fault
following_at inner s ws = repeated goes_on (following_one_at inner) s ws

unfoldable pub statements_at : Inner → Room → List Symbol → Result (Finds × List Symbol) Fault
statements_at inner room ws = do
  s ← following_at inner (nothing, room) ws
  Ok (s.0.0, s.1)

-- a body in braces, where so many more may be opened
unfoldable pub body_at : ℕ → Inner
body_at zero room ws = do
  rest ← mark_at OpenBrace ws
  Err (TooDeep (length rest + 1))
body_at (suc levels) room ws = do
  rest ← mark_at OpenBrace ws
  s ← statements_at (body_at levels) room rest
  after ← mark_at CloseBrace s.1
  Ok (block s.0, after)

unfoldable pub end_at : List Symbol → Result (Unit {0}) Fault
end_at [] = Ok tt
end_at ws = wrong ws

abbrev pub limit : Room
limit = record { items = max_count; weight = max_weight }

-- all of the words, where so many braces may be opened and there is so much room
unfoldable pub text_at : ℕ → Room → List Symbol → Result Block Fault
text_at levels room ws = do
  s ← statements_at (body_at levels) room ws
  done ← end_at s.1
  Ok (block s.0)

-- exactly one statement
unfoldable pub items_at : ℕ → Room → List Symbol → Result (List Item) Fault
items_at levels room ws = do
  s ← statement_at (body_at levels) room ws
  done ← end_at s.1
  Ok s.0.0.items

abbrev pub parsed : Description × Vec Spot → Block
parsed x = whole x.0.items x.1.items
