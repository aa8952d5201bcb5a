-- What the edits of a script bring is made of words, and a text can spell it.
use Rattle.std.proofs.Common.{◌≡◌, ℕ, Bool, true, false, List, [], ◌∷◌, length, Option, Some, None, Result, Ok, Err, refl, subst}
use Rattle.std.specs.Prelude.{◌&&◌, nat_le, not, if◌then◌else◌, codes, bytes_eq, find, option_map}
use Rattle.std.specs.Option.{IfSome}
use Rattle.std.specs.Str.{is_utf8}
use Rattle.std.proofs.lemmas.Bool.{leb-true}
use Rattle.rdl_text.specs.Name.{IsName, is_identifier}
use Rattle.rdl_text.specs.Word.{Word}
use Rattle.rdl_text.specs.Words.{words}
use Rattle.rdl_text.specs.declared.fault.TextFault.{TextFault}
use Rattle.rdl_text.specs.declared.token.Mark.TheVariants.{OpenBracket, CloseBracket, Colon}
use Rattle.rdl_text.proofs.Bounds.{words_are_well_spelled}
use Rattle.rdl_tree.specs.View.{items_of}
use Rattle.rdl_tree.specs.declared.description.Item.{Item}
use Rattle.rdl_tree.specs.declared.path.Segment.{Segment}
use Rattle.rdl_tree.specs.declared.value.Value.{Value}
use Rattle.rdl_tree.specs.declared.value.Value.TheVariants as values
use Rattle.rdl_tree.specs.declared.value.Word.{Word as ValueWord}
use Rattle.rdl_tree.specs.declared.value.Word.TheVariants as word
use Rattle.rdl_parse.specs.Class.{class}
use Rattle.rdl_parse.specs.Reading.{is_mark, number_by, name_value, property_value, word_value, value_by}
use Rattle.rdl_parse.specs.Symbol as symbol
use Rattle.rdl_parse.specs.Symbol.{Symbol, symbols}
use Rattle.rdl_parse.specs.declared.class.ReservedProperty.{ReservedProperty}
use Rattle.rdl_parse.specs.declared.class.ReservedProperty.TheVariants as property
use Rattle.rdl_rewrite.specs.declared.edit.Edit.{Edit}
use Rattle.rdl_rewrite.specs.declared.edit.Edit.TheVariants as edits
use Rattle.rdl_rewrite.specs.declared.place.Place.{Place}
use Rattle.rdl_script.specs.Commands.{Command, nothing, undo, redo, list, edit, add, refused, edit_or_refused, add_to, added, asked, is_silent, command_in, command_of}
use Rattle.rdl_script.specs.Edits.{moved, assignment_in, assigned, unassigned, edit_by, edit_in}
use Rattle.rdl_script.specs.Operands.{◌>>=◌, Placed, allows, is_name_of, name_in, parts, all_of, path_in, target_in, place_in, symbols_of, symbols_in, is_none, size_by, sizes_by, dims_by, range_by, bits_by, number_or_none_by, one_value_by, dims_in, bits_in, number_in, value_in}
use Rattle.rdl_script.specs.Verbs.{verb_text, verbs, verb_of}
use Rattle.rdl_script.specs.Words.{trimmed, first_word, behind_word, is_empty}
use Rattle.rdl_script.specs.declared.request.CommandFault.TheVariants.{BadOperands, NotUtf8}
use Rattle.rdl_run.specs.Readings.{ReadsItems}
use Rattle.run_laws.specs.NewParts.{IsEditOfWords, IsEditSpellable}
use Rattle.rdl_round.specs.OfWords.{IsNumber, AreNumbers, IsPart, IsRange, AreNames, IsValue}
use Rattle.rdl_round.proofs.MadeOfWords.{IsWell, AreWell, symbols-well, statement-of-words}
use Rattle.rdl_round.proofs.Spelled.{statement-spellable}

-- ---- What may be there.

then-some : {A B : Type 0} (P : A → Type 0) (Q : B → Type 0) (o : Option A) (f : A → Option B) → IfSome o P → ((x : A) → P x → IfSome (f x) Q) → IfSome (o >>= f) Q
then-some P Q None f h k = tt
then-some P Q (Some x) f h k = k x h

mapped-some : {A B : Type 0} (P : A → Type 0) (Q : B → Type 0) (o : Option A) (f : A → B) → IfSome o P → ((x : A) → P x → Q (f x)) → IfSome (option_map f o) Q
mapped-some P Q None f h k = tt
mapped-some P Q (Some x) f h k = k x h

either-some : {A : Type 0} (P : A → Type 0) (b : Bool) (x y : Option A) → IfSome x P → IfSome y P → IfSome (if b then x else y) P
either-some P true x y h k = h
either-some P false x y h k = k

anything : {A : Type 0} (o : Option A) → IfSome o (λ x. Unit {0})
anything None = tt
anything (Some x) = tt

-- ---- Names.

both : (a b : Bool) → (a && b) ≡ true → (a ≡ true) × (b ≡ true)
both true b h = (refl, h)
both false b h = absurd (cc)

-- whatever the name may be besides
named : (allowed : Bool) (bytes : List ℕ) → (nat_le (length bytes) 255 && (is_identifier bytes && allowed)) ≡ true → IsName bytes
named allowed bytes e =
    let short = both (nat_le (length bytes) 255) (is_identifier bytes && allowed) e in
    let identifier = both (is_identifier bytes) allowed short.1 in
    record { short = leb-true (length bytes) 255 short.0; identifier = identifier.0 }

name-good : (sort : _) (bytes : List ℕ) → IfSome (name_in sort bytes) IsName
unfolding name_in
name-good sort bytes =
    elim (is_name_of sort bytes) as (λ b. (b ≡ true → IsName bytes) → IfSome (if b then Some bytes else None) IsName)
    [ true ↦ λ k. k refl | false ↦ λ k. tt ] (named (allows sort (class bytes)) bytes)

names-good : (sort : _) (xs : List (List ℕ)) → IfSome (all_of (name_in sort) xs) AreNames
names-good sort [] = tt
names-good sort (x ∷ xs) =
    then-some IsName AreNames (name_in sort x) (λ y. option_map (λ ys. y ∷ ys) (all_of (name_in sort) xs)) (name-good sort x)
    (λ y h. mapped-some AreNames AreNames (all_of (name_in sort) xs) (λ ys. y ∷ ys) (names-good sort xs) (λ ys k. (h, k)))

target-good : (bytes : List ℕ) → IfSome (target_in bytes) AreNames
unfolding target_in
target-good bytes = names-good _ (parts 46 bytes)

-- ---- The words of an operand.

symbols-good : (bytes : List ℕ) → IfSome (symbols_in bytes) AreWell
unfolding symbols_in
symbols-good bytes = by (words bytes) refl
  where
    by : (r : Result (List Word) TextFault) → words bytes ≡ r → IfSome (symbols_of r) AreWell
    by (Ok ws) e = symbols-well ws (words_are_well_spelled bytes ws e)
    by (Err fault) e = tt

-- what such words give
cut-good : {A : Type 0} (P : A → Type 0) (f : List Symbol → Option A) (bytes : List ℕ) → ((ws : List Symbol) → AreWell ws → IfSome (f ws) P) → IfSome (symbols_in bytes >>= f) P
cut-good P f bytes k = then-some AreWell P (symbols_in bytes) f (symbols-good bytes) k

number-good : (w : Symbol) → IsWell w → IfSome (number_by w) IsNumber
number-good (symbol.number n) h = h
number-good w h = tt

size-good : (left size right : Symbol) → IsWell size → IfSome (size_by left size right) IsNumber
size-good left size right h =
    either-some IsNumber (is_mark OpenBracket left && is_mark CloseBracket right) (number_by size) None (number-good size h) tt

sizes-good : (ws : List Symbol) → AreWell ws → IfSome (sizes_by ws) AreNumbers
sizes-good [] h = tt
sizes-good (left ∷ []) h = tt
sizes-good (left ∷ size ∷ []) h = tt
sizes-good (left ∷ size ∷ right ∷ ws) h =
    then-some IsNumber AreNumbers (size_by left size right) (λ n. option_map (λ ns. n ∷ ns) (sizes_by ws)) (size-good left size right h.1.0)
    (λ n f. mapped-some AreNumbers AreNumbers (sizes_by ws) (λ ns. n ∷ ns) (sizes-good ws h.1.1.1) (λ ns k. (f, k)))

dims-good : (ws : List Symbol) → AreWell ws → IfSome (dims_by ws) AreNumbers
dims-good [] h = tt
dims-good (w ∷ []) h = either-some AreNumbers (is_none w) (Some []) None tt tt
dims-good (w ∷ v ∷ ws) h = sizes-good (w ∷ v ∷ ws) h

abbrev ArePair : ℕ × ℕ → Type 0
ArePair r = IsNumber r.0 × IsNumber r.1

range-good : (left high colon low right : Symbol) → IsWell high → IsWell low → IfSome (range_by left high colon low right) ArePair
range-good left high colon low right h l =
    let two = then-some IsNumber ArePair (number_by high) (λ n. option_map (λ m. (n, m)) (number_by low)) (number-good high h)
    (λ n f. mapped-some IsNumber ArePair (number_by low) (λ m. (n, m)) (number-good low l) (λ m k. (f, k))) in
    either-some ArePair (is_mark OpenBracket left && (is_mark Colon colon && is_mark CloseBracket right)) _ None two tt

bits-good : (ws : List Symbol) → AreWell ws → IfSome (bits_by ws) IsRange
bits-good (w ∷ []) h = either-some IsRange (is_none w) (Some None) None tt tt
bits-good (left ∷ high ∷ colon ∷ low ∷ right ∷ []) h =
    mapped-some ArePair IsRange (range_by left high colon low right) Some (range-good left high colon low right h.1.0 h.1.1.1.0) (λ r k. k)
bits-good ws h = tt

number-or-none-good : (ws : List Symbol) → AreWell ws → IfSome (number_or_none_by ws) IsPart
number-or-none-good (w ∷ []) h =
    either-some IsPart (is_none w) (Some None) (option_map Some (number_by w)) tt (mapped-some IsNumber IsPart (number_by w) Some (number-good w h.0) (λ n k. k))
number-or-none-good ws h = tt

named-value-good : (n : List ℕ) → IfSome (name_value n) IsValue
named-value-good n =
    either-some IsValue (bytes_eq n (codes "r")) (Some (values.Word word.R)) (if bytes_eq n (codes "w") then Some (values.Word word.W) else None) tt
    (either-some IsValue (bytes_eq n (codes "w")) (Some (values.Word word.W)) None tt tt)

property-value-good : (p : ReservedProperty) → IfSome (property_value p) IsValue
property-value-good property.Sw = tt
property-value-good p = tt

word-value-good : (w : ValueWord) → IfSome (word_value w) IsValue
word-value-good word.R = tt
word-value-good w = tt

value-of-good : (w : Symbol) → IsWell w → IfSome (value_by w) IsValue
value-of-good (symbol.number n) h = h
value-of-good (symbol.text t) h = h
value-of-good (symbol.name n) h = named-value-good n
value-of-good (symbol.property p) h = property-value-good p
value-of-good (symbol.word w) h = word-value-good w
value-of-good w h = tt

one-value-good : (ws : List Symbol) → AreWell ws → IfSome (one_value_by ws) IsValue
one-value-good (w ∷ []) h = value-of-good w h.0
one-value-good ws h = tt

value-good : (bytes : List ℕ) → IfSome (value_in bytes) IsValue
unfolding value_in
value-good bytes = cut-good IsValue one_value_by bytes one-value-good

abbrev IsAssignment : List ℕ × Value → Type 0
IsAssignment a = IsName a.0 × IsValue a.1

assignment-good : (operands : List ℕ) → IfSome (assignment_in operands) IsAssignment
unfolding assignment_in
assignment-good operands =
    then-some IsName IsAssignment _ (λ p. option_map (λ v. (p, v)) (value_in (behind_word operands))) (name-good _ (first_word operands))
    (λ p h. mapped-some IsValue IsAssignment (value_in (behind_word operands)) (λ v. (p, v)) (value-good (behind_word operands)) (λ v k. (h, k)))

-- ---- Edits.

abbrev pub IsGood : Edit → Type 0
IsGood e = IsEditOfWords e × IsEditSpellable e

moved-good : (path : List Segment) (o : Option Placed) → IfSome (moved path o) IsGood
moved-good path None = tt
moved-good path (Some place) = either-some IsGood (is_empty place.1) (Some (edits.Move path place.0)) None (tt, tt) tt

assigned-good : (path : List Segment) (operands : List ℕ) → IfSome (assigned path operands) IsGood
unfolding assigned
assigned-good path operands =
    then-some AreNames IsGood (target_in (first_word operands)) (λ t. option_map (λ a. edits.Assign path t a.0 a.1) (assignment_in (behind_word operands)))
    (target-good (first_word operands))
    (λ t h. mapped-some IsAssignment IsGood (assignment_in (behind_word operands)) (λ a. edits.Assign path t a.0 a.1) (assignment-good (behind_word operands))
    (λ a k. ((h, k.0, k.1), tt)))

unassigned-good : (path : List Segment) (operands : List ℕ) → IfSome (unassigned path operands) IsGood
unfolding unassigned
unassigned-good path operands =
    then-some AreNames IsGood (target_in (first_word operands)) _ (target-good (first_word operands))
    (λ t h. mapped-some IsName IsGood _ (λ p. edits.Unassign path t p) (name-good _ (behind_word operands)) (λ p k. (tt, tt)))

resized-good : (path : List Segment) (operands : List ℕ) → IfSome (option_map (λ ns. edits.Resize path ns) (dims_in operands)) IsGood
unfolding dims_in
resized-good path operands =
    mapped-some AreNumbers IsGood (symbols_in operands >>= dims_by) (λ ns. edits.Resize path ns) (cut-good AreNumbers dims_by operands dims-good) (λ ns k. (k, tt))

bits-edit-good : (path : List Segment) (operands : List ℕ) → IfSome (option_map (λ r. edits.SetBits path r) (bits_in operands)) IsGood
unfolding bits_in
bits-edit-good path operands =
    mapped-some IsRange IsGood (symbols_in operands >>= bits_by) (λ r. edits.SetBits path r) (cut-good IsRange bits_by operands bits-good) (λ r k. (k, tt))

part-good : (f : Option ℕ → Edit) (operands : List ℕ) → ((n : Option ℕ) → IsPart n → IsGood (f n)) → IfSome (option_map f (number_in operands)) IsGood
unfolding number_in
part-good f operands k =
    mapped-some IsPart IsGood (symbols_in operands >>= number_or_none_by) f (cut-good IsPart number_or_none_by operands number-or-none-good) k

set-good : (f : List ℕ → Value → Edit) (operands : List ℕ) → ((p : List ℕ) (v : Value) → IsName p → IsValue v → IsGood (f p v))
    → IfSome (option_map (λ a. f a.0 a.1) (assignment_in operands)) IsGood
set-good f operands k = mapped-some IsAssignment IsGood (assignment_in operands) (λ a. f a.0 a.1) (assignment-good operands) (λ a h. k a.0 a.1 h.0 h.1)

-- ---- Lines.

-- the edit that a command is, if it is one
abbrev pub BringsGood : Command → Type 0
BringsGood (edit e) = IsGood e
BringsGood c = Unit {0}

either-good : (b : Bool) (c d : Command) → BringsGood c → BringsGood d → BringsGood (if b then c else d)
either-good true c d h k = h
either-good false c d h k = k

given-good : (o : Option Edit) → IfSome o IsGood → BringsGood (edit_or_refused o)
given-good None h = tt
given-good (Some e) h = h

add-good : (path : Option (List Segment)) (place : Option Placed) → BringsGood (add_to path place)
add-good None place = tt
add-good (Some path) None = tt
add-good (Some path) (Some place) = either-good (is_empty place.1) (refused BadOperands) (add path place.0 place.1) tt tt

added-good : (operands : List ℕ) → BringsGood (added operands)
unfolding added
added-good operands = add-good (path_in (first_word operands)) (place_in (behind_word operands))

edit-good : (verb : _) (operands : List ℕ) → ((path : List Segment) (behind : List ℕ) → IfSome (edit_by verb path behind) IsGood) → BringsGood (edit_or_refused (edit_in verb operands))
unfolding edit_in
edit-good verb operands k =
    given-good (path_in (first_word operands) >>= λ path. edit_by verb path (behind_word operands))
    (then-some (λ path. Unit {0}) IsGood (path_in (first_word operands)) (λ path. edit_by verb path (behind_word operands)) (anything (path_in (first_word operands)))
    (λ path h. k path (behind_word operands)))

abbrev Each : {V : Type 0} → (V → Type 0) → List V → Type 0
Each P [] = Unit {0}
Each P (x ∷ xs) = P x × Each P xs

-- of each verb, in the order of `verbs`
verbs-good : (operands : List ℕ) → Each (λ verb. BringsGood (asked (Some verb) operands)) verbs
unfolding edit_by
verbs-good operands =
    let undo-good = either-good (is_empty operands) undo (refused BadOperands) tt tt in
    let redo-good = either-good (is_empty operands) redo (refused BadOperands) tt tt in
    let list-good = either-good (is_empty operands) list (refused BadOperands) tt tt in (
      undo-good,
      (
        redo-good,
        (
          list-good,
          (
            added-good operands,
            (
              edit-good _ operands (λ path behind. either-some IsGood (is_empty behind) (Some (edits.Remove path)) None (tt, tt) tt),
              (
                edit-good _ operands (λ path behind. mapped-some IsName IsGood _ (λ n. edits.Rename path n) (name-good _ behind) (λ n k. (k, tt))),
                (
                  edit-good _ operands (λ path behind. moved-good path (place_in behind)),
                  (
                    edit-good _ operands (λ path behind. resized-good path behind),
                    (
                      edit-good _ operands (λ path behind. bits-edit-good path behind),
                      (
                        edit-good _ operands (λ path behind. part-good (λ n. edits.SetAddress path n) behind (λ n k. (k, tt))),
                        (
                          edit-good _ operands (λ path behind. part-good (λ n. edits.SetStride path n) behind (λ n k. (k, tt))),
                          (
                            edit-good _ operands (λ path behind. part-good (λ n. edits.SetAlign path n) behind (λ n k. (k, tt))),
                            (
                              edit-good _ operands (λ path behind. part-good (λ n. edits.SetReset path n) behind (λ n k. (k, tt))),
                              (
                                edit-good _ operands (λ path behind. set-good (λ p v. edits.SetOwn path p v) behind (λ p v h k. ((h, k), tt))),
                                (
                                  edit-good _ operands (λ path behind. set-good (λ p v. edits.SetDefault path p v) behind (λ p v h k. ((h, k), tt))),
                                  (
                                    edit-good _ operands (λ path behind. mapped-some IsName IsGood _ (λ p. edits.ClearOwn path p) (name-good _ behind) (λ p k. (tt, tt))),
                                    (
                                      edit-good _ operands (λ path behind. mapped-some IsName IsGood _ (λ p. edits.ClearDefault path p) (name-good _ behind) (λ p k. (tt, tt))),
                                      (
                                        edit-good _ operands (λ path behind. assigned-good path behind),
                                        (
                                          edit-good _ operands (λ path behind. unassigned-good path behind),
                                          tt,
                                        ),
                                      ),
                                    ),
                                  ),
                                ),
                              ),
                            ),
                          ),
                        ),
                      ),
                    ),
                  ),
                ),
              ),
            ),
          ),
        ),
      ),
    )

found-good : {V : Type 0} (P : V → Type 0) (test : V → Bool) (xs : List V) → Each P xs → IfSome (find test xs) P
found-good P test [] h = tt
found-good P test (x ∷ xs) h = either-some P (test x) (Some x) (find test xs) h.0 (found-good P test xs h.1)

some-good : (verb : Option _) (operands : List ℕ) → IfSome verb (λ v. BringsGood (asked (Some v) operands)) → BringsGood (asked verb operands)
some-good None operands h = tt
some-good (Some v) operands h = h

asked-good : (word operands : List ℕ) → BringsGood (asked (verb_of word) operands)
unfolding verb_of
asked-good word operands =
    let found = found-good (λ verb. BringsGood (asked (Some verb) operands)) (λ verb. bytes_eq word (verb_text verb)) verbs (verbs-good operands) in
    some-good (find (λ verb. bytes_eq word (verb_text verb)) verbs) operands found

command-good : (line : List ℕ) → BringsGood (command_in line)
unfolding command_in
command-good line =
    either-good (is_silent line) nothing _ tt
    (either-good (not (is_utf8 line)) (refused NotUtf8) (asked (verb_of (first_word line)) (behind_word line)) tt (asked-good (first_word line) (behind_word line)))

pub line-good : (line : List ℕ) → BringsGood (command_of line)
line-good line = command-good (trimmed line)

pub line-edit-good : (line : List ℕ) (e : Edit) → command_of line ≡ edit e → IsEditOfWords e × IsEditSpellable e
line-edit-good line e is = subst BringsGood is (line-good line)

pub read-good : (path : List Segment) (place : Place) (text : List ℕ) (items : List Item) → ReadsItems text items → IsGood (edits.Add path place (items_of items))
read-good path place text items read =
    let s = read.spelled in
    (statement-of-words text s.ws items s.has_words.cut s.spelled, statement-spellable s.ws items s.spelled)
