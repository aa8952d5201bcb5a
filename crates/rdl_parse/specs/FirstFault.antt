-- What reading gives for a text: what it spells, or its first fault.
-- Own.
use Rattle.std.specs.Prelude.{◌≡◌, ◌⊎◌, ℕ, nat_lt, if◌then◌else◌, List, length, Result, Ok, Err, MatchResult}
use Rattle.rdl_text.specs.Word.{Word}
use Rattle.rdl_text.specs.Words.{words}
use Rattle.rdl_text.specs.declared.fault.TextFault.{TextFault}
use Rattle.rdl_tree.specs.Items.{Items}
use Rattle.rdl_tree.specs.declared.description.Item.{Item}
use Rattle.rdl_parse.specs.Faults.{max_text, words_fault, too_long, out_of_memory, reading_fault}
use Rattle.rdl_parse.specs.Places.{Located, located}
use Rattle.rdl_parse.specs.Reading.{Block, limit, text_at, items_at}
use Rattle.rdl_parse.specs.Symbol.{symbols}
use Rattle.rdl_parse.specs.declared.fault.Fault.{Fault}
use Rattle.rdl_parse.specs.declared.fault.ParseFault.{ParseFault}

-- what comes of the words of a text, or their first fault
abbrev pub of_words : {A : Type 0} → (List Word → Result A ParseFault) → Result (List Word) TextFault → Result A ParseFault
of_words f (Ok ws) = f ws
of_words f (Err e) = Err (words_fault e)

-- that the text is too long is judged before all else
abbrev pub of_text : {A : Type 0} → List ℕ → (List Word → Result A ParseFault) → Result A ParseFault
of_text text f = if nat_lt max_text (length text) then Err too_long else of_words f (words text)

-- a fault of reading stands at a byte of the text
abbrev pub at_bytes : {A B : Type 0} → List ℕ → List Word → (A → B) → Result A Fault → Result B ParseFault
at_bytes text ws f (Ok x) = Ok (f x)
at_bytes text ws f (Err e) = Err (reading_fault text ws e)

abbrev pub Parsed : Type 0
Parsed = Items × Located

abbrev pub parsed : List ℕ → List Word → Block → Parsed
parsed text ws b = (b.items, located text ws b.spots)

-- the description and its places
abbrev pub parse_reading : List ℕ → Result Parsed ParseFault
parse_reading text = of_text text (λ ws. at_bytes text ws (parsed text ws) (text_at 16 limit (symbols ws)))

-- the items of exactly one statement
abbrev pub item_reading : List ℕ → Result (List Item) ParseFault
item_reading text = of_text text (λ ws. at_bytes text ws (λ xs. xs) (items_at 16 limit (symbols ws)))

-- what a function returned, seen by view, is what reading gives, unless memory ran out
abbrev pub Reads : {X Y : Type 0} → (X → Y) → Result X ParseFault → Result Y ParseFault → Type 0
Reads view result read = MatchResult result (λ x. read ≡ Ok (view x)) (λ e. (e ≡ out_of_memory) ⊎ (read ≡ Err e))
