-- Each text is read or refused.
use Rattle.std.proofs.Common.{◌≡◌, ◌⊎◌, inl, inr, ℕ, ◌≤◌, Bool, true, false, List, length, Result, Ok, Err, refl, sym, ap, ◌∙◌, IsUtf8}
use Rattle.std.specs.Prelude.{nat_lt}
use Rattle.std.specs.Str.{is_utf8}
use Rattle.std.specs.Str.Lossy.{utf8_valid_len}
use Rattle.std.proofs.lemmas.Str.{IsUtf8-from_is_utf8, is_utf8-from_IsUtf8}
use Rattle.std.proofs.lemmas.Bool.{ltb-true, ltb-false}
use Rattle.rdl_text.specs.Word.{Word}
use Rattle.rdl_text.specs.Words.{words}
use Rattle.rdl_text.specs.declared.fault.WordFault.TheVariants.{BadCharacter}
use Rattle.rdl_text.specs.declared.fault.TextFault.{TextFault}
use Rattle.rdl_tree.specs.Items.{Items}
use Rattle.rdl_tree.specs.declared.description.Item.{Item}
use Rattle.rdl_parse.specs.Faults.{max_text, out_of_memory, too_long, words_fault, reading_fault}
use Rattle.rdl_parse.specs.Parsing.{HasWords, Refuses, RefusesItem}
use Rattle.rdl_parse.specs.Places.{Located, located}
use Rattle.rdl_parse.specs.Reading.{Block, limit, text_at, items_at}
use Rattle.rdl_parse.specs.Symbol.{symbols}
use Rattle.rdl_parse.specs.declared.fault.Fault.{Fault}
use Rattle.rdl_parse.specs.declared.fault.Fault.TheVariants as faults
use Rattle.rdl_parse.specs.declared.fault.ParseFault.{ParseFault}
use Rattle.rdl_parse.specs.declared.fault.ParseFaultKind.TheVariants.{Words}
use Rattle.rdl_parse.specs.declared.fault.Stop.TheVariants as stops
use Rattle.rdl_parse.proofs.Answered.{text-found, text-refused, statement-found, statement-refused}
use Rattle.rdl_run.specs.Readings.{ReadsMap, ReadsItems, IsNoText, RefusesMap, RefusesItems}

pub record ReadMap (bytes : List ℕ) : Type 0 where
  pub d : Items
  pub places : Located
  pub read : ReadsMap bytes d places

pub record NoMap (bytes : List ℕ) : Type 0 where
  pub fault : ParseFault
  pub refused : RefusesMap bytes fault

pub record ReadStatement (bytes : List ℕ) : Type 0 where
  pub items : List Item
  pub read : ReadsItems bytes items

pub record NoStatement (bytes : List ℕ) : Type 0 where
  pub fault : ParseFault
  pub refused : RefusesItems bytes fault

-- a fault of reading isn't want of memory
not-memory : (text : List ℕ) (ws : List Word) (f : Fault) → reading_fault text ws f ≡ out_of_memory → ⊥
not-memory text ws (faults.Unexpected left) e = let kinds = ap (λ (g : ParseFault). g.kind) e in absurd cc
not-memory text ws faults.End e = let kinds = ap (λ (g : ParseFault). g.kind) e in absurd cc
not-memory text ws (faults.TooDeep left) e = let kinds = ap (λ (g : ParseFault). g.kind) e in absurd cc
not-memory text ws (faults.TooLarge left) e = let kinds = ap (λ (g : ParseFault). g.kind) e in absurd cc

-- bytes that are no text
no-text : (bytes : List ℕ) → is_utf8 bytes ≡ false → IsNoText bytes (record { kind = Words BadCharacter; offset = utf8_valid_len bytes })
no-text bytes h = record { no_text = λ u. absurd (let e : true ≡ false = sym (is_utf8-from_IsUtf8 bytes u) ∙ h in cc); first = refl }

-- ---- A map.

map-refused : (text : List ℕ) → IsUtf8 text → (ws : List Word) (f : Fault) → (reading_fault text ws f ≡ out_of_memory) ⊎ Refuses text (reading_fault text ws f) → NoMap text
map-refused text u ws f (inl e) = absurd (not-memory text ws f e)
map-refused text u ws f (inr r) = record { fault = reading_fault text ws f; refused = inr (record { text = u; refused = r }) }

map-words : (text : List ℕ) → IsUtf8 text → (ws : List Word) → HasWords text ws → (r : Result Block Fault) → text_at 16 limit (symbols ws) ≡ r → ReadMap text ⊎ NoMap text
map-words text u ws w (Ok b) e =
    let found = text-found text ws b (located text ws b.spots) w e refl in
    inl (record { d = b.items; places = located text ws b.spots; read = record { text = u; spelled = found.0; is_within = found.1 } })
map-words text u ws w (Err f) e = inr (map-refused text u ws f (text-refused text ws (stops.Fault f) w e))

map-cut : (text : List ℕ) → IsUtf8 text → length text ≤ max_text → (r : Result (List Word) TextFault) → words text ≡ r → ReadMap text ⊎ NoMap text
map-cut text u short (Ok ws) e = map-words text u ws (record { short = short; cut = e }) (text_at 16 limit (symbols ws)) refl
map-cut text u short (Err f) e = inr (record { fault = words_fault f; refused = inr (record { text = u; refused = record { short = short; fault = e } }) })

map-text : (text : List ℕ) → IsUtf8 text → (b : Bool) → nat_lt max_text (length text) ≡ b → ReadMap text ⊎ NoMap text
map-text text u true e = inr (record { fault = too_long; refused = inr (record { text = u; refused = (ltb-true max_text (length text) e, refl) }) })
map-text text u false e = map-cut text u (ltb-false max_text (length text) e) (words text) refl

pub map-bytes : (bytes : List ℕ) (b : Bool) → is_utf8 bytes ≡ b → ReadMap bytes ⊎ NoMap bytes
map-bytes bytes true e = map-text bytes (IsUtf8-from_is_utf8 bytes e) (nat_lt max_text (length bytes)) refl
map-bytes bytes false e = inr (record { fault = record { kind = Words BadCharacter; offset = utf8_valid_len bytes }; refused = inl (no-text bytes e) })

-- ---- One statement.

statement-no : (text : List ℕ) → IsUtf8 text → (ws : List Word) (f : Fault) → (reading_fault text ws f ≡ out_of_memory) ⊎ RefusesItem text (reading_fault text ws f) → NoStatement text
statement-no text u ws f (inl e) = absurd (not-memory text ws f e)
statement-no text u ws f (inr r) = record { fault = reading_fault text ws f; refused = inr (record { text = u; refused = r }) }

statement-words : (text : List ℕ) → IsUtf8 text → (ws : List Word) → HasWords text ws → (r : Result (List Item) Fault) → items_at 16 limit (symbols ws) ≡ r → ReadStatement text ⊎ NoStatement text
statement-words text u ws w (Ok xs) e =
    let found = statement-found text ws xs w e in
    inl (record { items = xs; read = record { text = u; spelled = found.0; is_within = found.1 } })
statement-words text u ws w (Err f) e = inr (statement-no text u ws f (statement-refused text ws (stops.Fault f) w e))

statement-cut : (text : List ℕ) → IsUtf8 text → length text ≤ max_text → (r : Result (List Word) TextFault) → words text ≡ r → ReadStatement text ⊎ NoStatement text
statement-cut text u short (Ok ws) e = statement-words text u ws (record { short = short; cut = e }) (items_at 16 limit (symbols ws)) refl
statement-cut text u short (Err f) e = inr (record { fault = words_fault f; refused = inr (record { text = u; refused = record { short = short; fault = e } }) })

statement-text : (text : List ℕ) → IsUtf8 text → (b : Bool) → nat_lt max_text (length text) ≡ b → ReadStatement text ⊎ NoStatement text
statement-text text u true e = inr (record { fault = too_long; refused = inr (record { text = u; refused = (ltb-true max_text (length text) e, refl) }) })
statement-text text u false e = statement-cut text u (ltb-false max_text (length text) e) (words text) refl

statement-bytes : (bytes : List ℕ) (b : Bool) → is_utf8 bytes ≡ b → ReadStatement bytes ⊎ NoStatement bytes
statement-bytes bytes true e = statement-text bytes (IsUtf8-from_is_utf8 bytes e) (nat_lt max_text (length bytes)) refl
statement-bytes bytes false e = inr (record { fault = record { kind = Words BadCharacter; offset = utf8_valid_len bytes }; refused = inl (no-text bytes e) })

pub statement_or_refused : (bytes : List ℕ) → ReadStatement bytes ⊎ NoStatement bytes
statement_or_refused bytes = statement-bytes bytes (is_utf8 bytes) refl
