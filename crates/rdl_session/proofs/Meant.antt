-- What the lines of a session mean: what is computed is meant, and what is meant is computed.
use Rattle.std.proofs.Common.{◌≡◌, ℕ, zero, suc, ◌<◌, ◌≤◌, Bool, true, false, cond, nat_eq, List, [], ◌∷◌, ◌++◌, length, get_or, Option, None, Some, Result, Ok, Err, refl, ap, sym, ◌∙◌, subst, append_assoc, arith}
use Rattle.std.proofs.lemmas.Bool.{le-leb, leb-true}
use Rattle.std.proofs.lemmas.Bool.Decides.{nat_tests}
use Rattle.std.proofs.lemmas.List.{length-append}
use Rattle.std.proofs.lemmas.Slice.Eq.{bytes_eq-Decides}
use Rattle.std.proofs.lemmas.Str.{is_utf8-from_IsUtf8, IsUtf8-from_is_utf8, IsUtf8-from_ascii}
use Rattle.std.specs.Fmt.{decimal}
use Rattle.std.specs.List.{list_all, AllByRecursion}
use Rattle.std.specs.Prelude.{All, ◌^◌, flat_map, nat_lt, nat_le, ◌&&◌, if◌then◌else◌, option_map, codes, bytes_eq, IsUtf8}
use Rattle.std.specs.Str.{is_utf8}
use Rattle.rdl_text.specs.Name.{IsName, is_letter, is_rest, is_identifier}
use Rattle.rdl_text.specs.Word.{Word}
use Rattle.rdl_text.specs.Words.{words}
use Rattle.rdl_text.specs.declared.fault.TextFault.{TextFault}
use Rattle.rdl_tree.specs.Items.{Items}
use Rattle.rdl_tree.specs.View.{items_of}
use Rattle.rdl_tree.specs.Limits.{IsWithinLimits}
use Rattle.rdl_session.specs.Text.{PatchLines, SessionLines, insert, delete, shift, shell, value, target, type, name, shell_item, value_item, target_item, line_feed, count_line, counted, act, patch_text, step_text, steps_text, session_text, max_session}
use Rattle.rdl_tree.specs.declared.description.Item.{Item}
use Rattle.rdl_tree.specs.declared.description.Item.TheVariants.{Instance, Own, Dynamic}
use Rattle.rdl_tree.specs.declared.description.Of.TheVariants.{Named, Anonymous}
use Rattle.rdl_tree.specs.declared.part.Part.{Part}
use Rattle.rdl_tree.specs.declared.part.Part.TheVariants.{OfShell, OfValue, OfTarget, OfType, OfDefine}
use Rattle.rdl_tree.specs.declared.patch.Patch.{Patch}
use Rattle.rdl_tree.specs.declared.patch.Patch.TheVariants.{Insert, Delete, Shift, Exchange}
use Rattle.rdl_tree.specs.declared.shell.Shell.{Shell}
use Rattle.rdl_tree.specs.declared.value.Value.{Value}
use Rattle.rdl_tree.specs.declared.value.Value.TheVariants.{Bool as Boolean}
use Rattle.rdl_parse.specs.Class.{class}
use Rattle.rdl_parse.specs.declared.class.Class.{Class}
use Rattle.rdl_parse.specs.declared.class.Class.TheVariants as classes
use Rattle.rdl_parse.specs.declared.fault.Fault.{Fault}
use Rattle.rdl_parse.specs.declared.fault.ParseFault.{ParseFault}
use Rattle.rdl_parse.specs.Faults.{max_text, too_long}
use Rattle.rdl_parse.specs.FirstFault.{Parsed, parsed, of_words, at_bytes, parse_reading, item_reading}
use Rattle.rdl_parse.specs.Parsing.{HasWords, SpellsText, SpellsItemText}
use Rattle.rdl_parse.specs.Reading.{limit, text_at, items_at}
use Rattle.rdl_session.specs.Spelling.{IsItemAddress, IsFreeName, SpellsItem, SpellsPatch, SpellsEach, SpellsSteps, SpellsMap, SpellsSession}
use Rattle.rdl_session.specs.Meaning.{described, one_of, one_read, map_of, item_of, is_free, name_of, if_named, shell_of, value_of, is_true, target_of, exchanged, patch_of, all_of, Session, meaning_of, session_of}
use Rattle.rdl_session.specs.Reading.{◌>>=◌, lines_in}
use Rattle.rdl_parse.specs.Symbol.{symbols}
use Rattle.rdl_parse.proofs.Answered.{text-found, statement-found}
use Rattle.rdl_parse.proofs.Exact.{read-only, item-only}
use Rattle.rdl_session.proofs.Again.{lines-again, lines-found}
use Rattle.rdl_session.proofs.Form.{IsHeld, IsPlace, Lacks, IsFormedPatch, AreFormed, AreFormedSteps, IsFormed}
use Rattle.rdl_session.proofs.Cuts.{bound, mapped, guarded, both}

-- ---- Texts.

not-utf8 : (bytes : List ℕ) → (IsUtf8 bytes → ⊥) → is_utf8 bytes ≡ false
not-utf8 bytes h = elim (is_utf8 bytes) as (λ b. is_utf8 bytes ≡ b → b ≡ false) [ true ↦ λ e. absurd (h (IsUtf8-from_is_utf8 bytes e)) | false ↦ λ e. refl ] refl

pub map-no_text : (bytes : List ℕ) → (IsUtf8 bytes → ⊥) → None ≡ map_of bytes
unfolding map_of
map-no_text bytes h = rw (not-utf8 bytes h) refl

pub map-text : (text bytes : List ℕ) → text ≡ bytes → IsUtf8 bytes → described (parse_reading text) ≡ map_of bytes
unfolding map_of
map-text text bytes e h = rw (is_utf8-from_IsUtf8 bytes h) (ap (λ t. described (parse_reading t)) e)

pub item-no_text : (bytes : List ℕ) → (IsUtf8 bytes → ⊥) → None ≡ item_of bytes
unfolding item_of
item-no_text bytes h = rw (not-utf8 bytes h) refl

pub item-text : (text bytes : List ℕ) → text ≡ bytes → IsUtf8 bytes → one_read (item_reading text) ≡ item_of bytes
unfolding item_of
item-text text bytes e h = rw (is_utf8-from_IsUtf8 bytes h) (ap (λ t. one_read (item_reading t)) e)

unless : {A : Type 0} (b : Bool) (f : ParseFault) (r : Result A ParseFault) (x : A) → cond b (Err f) r ≡ Ok x → (b ≡ false) × (r ≡ Ok x)
unless true f r x e = absurd cc
unless false f r x e = (refl, e)

worded : {A : Type 0} (f : List Word → Result A ParseFault) (r : Result (List Word) TextFault) (x : A) → of_words f r ≡ Ok x → (ws : List Word) × (r ≡ Ok ws) × (f ws ≡ Ok x)
worded f (Ok ws) x e = (ws, refl, e)
worded f (Err t) x e = absurd cc

read-at : {A B : Type 0} (text : List ℕ) (ws : List Word) (f : A → B) (r : Result A Fault) (x : B) → at_bytes text ws f r ≡ Ok x → (y : A) × (r ≡ Ok y) × (f y ≡ x)
read-at text ws f (Ok y) x e = (y, refl, cc)
read-at text ws f (Err t) x e = absurd cc

short-from : (m n : ℕ) → nat_lt m n ≡ false → n ≤ m
short-from m n h = grind (arith, nat_tests)

short-false : (m n : ℕ) → n ≤ m → nat_lt m n ≡ false
short-false m n h = grind (arith, nat_tests)

abbrev map_words : List ℕ → List Word → Result Parsed ParseFault
map_words text ws = at_bytes text ws (parsed text ws) (text_at 16 limit (symbols ws))

abbrev item_words : List ℕ → List Word → Result (List Item) ParseFault
item_words text ws = at_bytes text ws (λ xs. xs) (items_at 16 limit (symbols ws))

map-read : (text : List ℕ) (p : Parsed) → parse_reading text ≡ Ok p → SpellsText text p.0 p.1 × IsWithinLimits p.0
map-read text p e =
    let u = unless (nat_lt max_text (length text)) too_long (of_words (map_words text) (words text)) p e in
    let w = worded (map_words text) (words text) p u.1 in
    let r = read-at text w.0 (parsed text w.0) (text_at 16 limit (symbols w.0)) p w.2 in
    let has : HasWords text w.0 = record { short = short-from max_text (length text) u.0; cut = w.1 } in
    subst (λ (q : Parsed). SpellsText text q.0 q.1 × IsWithinLimits q.0) r.2 (text-found text w.0 r.0 _ has r.1 refl)

item-read : (text : List ℕ) (xs : List Item) → item_reading text ≡ Ok xs → SpellsItemText text xs × IsWithinLimits (items_of xs)
item-read text xs e =
    let u = unless (nat_lt max_text (length text)) too_long (of_words (item_words text) (words text)) xs e in
    let w = worded (item_words text) (words text) xs u.1 in
    let r = read-at text w.0 (λ (ys : List Item). ys) (items_at 16 limit (symbols w.0)) xs w.2 in
    let has : HasWords text w.0 = record { short = short-from max_text (length text) u.0; cut = w.1 } in
    subst (λ ys. SpellsItemText text ys × IsWithinLimits (items_of ys)) r.2 (statement-found text w.0 r.0 has r.1)

map-reads : (text : List ℕ) (d : Items) (t : SpellsMap text d) → described (parse_reading text) ≡ Some d
map-reads text d t =
    let ws = t.spelled.ws in
    ap (λ b. described (cond b (Err too_long) (of_words (map_words text) (words text)))) (short-false max_text (length text) t.spelled.has_words.short)
    ∙ ap (λ r. described (of_words (map_words text) r)) t.spelled.has_words.cut
    ∙ ap (λ r. described (at_bytes text ws (parsed text ws) r)) (read-only (symbols ws) d t.spelled.spots t.spelled.spelled t.within)

item-reads : (text : List ℕ) (x : Item) (t : SpellsItem text x) → one_read (item_reading text) ≡ Some x
item-reads text x t =
    let ws = t.spelled.ws in
    ap (λ b. one_read (cond b (Err too_long) (of_words (item_words text) (words text)))) (short-false max_text (length text) t.spelled.has_words.short)
    ∙ ap (λ r. one_read (of_words (item_words text) r)) t.spelled.has_words.cut
    ∙ ap (λ r. one_read (at_bytes text ws (λ ys. ys) r)) (item-only (symbols ws) (x ∷ []) t.spelled.spelled t.within)

described-is : (r : Result Parsed ParseFault) (d : Items) → described r ≡ Some d → (p : Parsed) × (r ≡ Ok p) × (p.0 ≡ d)
described-is (Ok p) d e = (p, refl, cc)
described-is (Err f) d e = absurd cc

one-is : (xs : List Item) (x : Item) → one_of xs ≡ Some x → xs ≡ x ∷ []
one-is [] x e = absurd cc
one-is (y ∷ []) x e = let same : y ≡ x = cc in ap (λ z. z ∷ []) same
one-is (y ∷ z ∷ zs) x e = absurd cc

one-read-is : (r : Result (List Item) ParseFault) (x : Item) → one_read r ≡ Some x → r ≡ Ok (x ∷ [])
one-read-is (Ok xs) x e = ap (λ ys. Ok ys) (one-is xs x e)
one-read-is (Err f) x e = absurd cc

pub map-found : (bytes : List ℕ) (d : Items) → map_of bytes ≡ Some d → SpellsMap bytes d
unfolding map_of
map-found bytes d e =
    let g = guarded (is_utf8 bytes) (described (parse_reading bytes)) d e in
    let p = described-is (parse_reading bytes) d g.1 in
    let r = map-read bytes p.0 p.1 in
    record { utf8 = IsUtf8-from_is_utf8 bytes g.0; places = p.0.1; spelled = subst (λ t. SpellsText bytes t p.0.1) p.2 r.0; within = subst IsWithinLimits p.2 r.1 }

pub map-again : (bytes : List ℕ) (d : Items) → SpellsMap bytes d → map_of bytes ≡ Some d
map-again bytes d t = sym (map-text bytes bytes refl t.utf8) ∙ map-reads bytes d t

pub item-found : (bytes : List ℕ) (x : Item) → item_of bytes ≡ Some x → SpellsItem bytes x
unfolding item_of
item-found bytes x e =
    let g = guarded (is_utf8 bytes) (one_read (item_reading bytes)) x e in
    let r = item-read bytes (x ∷ []) (one-read-is (item_reading bytes) x g.1) in
    record { utf8 = IsUtf8-from_is_utf8 bytes g.0; spelled = r.0; within = r.1 }

pub item-again : (bytes : List ℕ) (x : Item) → SpellsItem bytes x → item_of bytes ≡ Some x
item-again bytes x t = sym (item-text bytes bytes refl t.utf8) ∙ item-reads bytes x t

-- ---- Names.

abbrev is_name : List ℕ → Bool
is_name bytes = nat_le (length bytes) 255 && (is_identifier bytes && is_free (class bytes))

pub free-is : (c : Class) → is_free c ≡ true → c ≡ classes.Name
free-is classes.Name e = refl
free-is c e = absurd cc

pub name-found : (bytes n : List ℕ) → name_of bytes ≡ Some n → (bytes ≡ n) × IsFreeName bytes
unfolding name_of
name-found bytes n e =
    let g = guarded (is_name bytes) (Some bytes) n e in
    let a = both (nat_le (length bytes) 255) (is_identifier bytes && is_free (class bytes)) g.0 in
    let b = both (is_identifier bytes) (is_free (class bytes)) a.1 in
    let same : bytes ≡ n = cc in
    (same, record { name = record { short = leb-true (length bytes) 255 a.0; identifier = b.0 }; free = free-is (class bytes) b.1 })

pub name-again : (bytes : List ℕ) → IsFreeName bytes → name_of bytes ≡ Some bytes
unfolding name_of
name-again bytes h =
    let short : nat_le (length bytes) 255 ≡ true = le-leb (length bytes) 255 h.name.short in
    let identifier : is_identifier bytes ≡ true = h.name.identifier in
    ap (λ b. if b && (is_identifier bytes && is_free (class bytes)) then Some bytes else None) short
    ∙ ap (λ b. if b && is_free (class bytes) then Some bytes else None) identifier
    ∙ ap (λ c. if is_free c then Some bytes else None) h.free

rest-ascii : (c : ℕ) → is_rest c ≡ true → c < 128
rest-ascii c h = grind (arith, nat_tests)

all-ascii : (bytes : List ℕ) → list_all is_rest bytes ≡ true → (i : ℕ) → get_or bytes i 0 < 128
all-ascii [] h i = omega arith
all-ascii (c ∷ cs) h zero = rest-ascii c (both (is_rest c) (list_all is_rest cs) h).0
all-ascii (c ∷ cs) h (suc i) = all-ascii cs (both (is_rest c) (list_all is_rest cs) h).1 i

letter-rest : (c : ℕ) → is_letter c ≡ true → is_rest c ≡ true
letter-rest c h = rw h refl

identifier-rest : (bytes : List ℕ) → is_identifier bytes ≡ true → list_all is_rest bytes ≡ true
identifier-rest [] h = refl
identifier-rest (c ∷ cs) h =
    let b = both (is_letter c) (list_all is_rest cs) h in
    rw (letter-rest c b.0) b.1

pub name-utf8 : (bytes : List ℕ) → IsName bytes → IsUtf8 bytes
name-utf8 bytes n = IsUtf8-from_ascii bytes (all-ascii bytes (identifier-rest bytes n.identifier))

pub name-none : (bytes : List ℕ) → (IsFreeName bytes → ⊥) → None ≡ name_of bytes
unfolding name_of
name-none bytes h =
    elim (is_name bytes) as (λ b. is_name bytes ≡ b → None ≡ cond b (Some bytes) None) [
      | true ↦ λ e. absurd (h (name-found bytes bytes (ap (λ b. cond b (Some bytes) None) e)).1)
      | false ↦ λ e. refl
    ] refl

-- ---- Patches.

same-bytes : (xs ys : List ℕ) → bytes_eq xs ys ≡ true → xs ≡ ys
same-bytes xs ys h = (bytes_eq-Decides xs ys).0 h

shell-is : (x : Item) (p : Part) → shell_of x ≡ Some p → (s : Shell) × (x ≡ shell_item s) × (OfShell s ≡ p)
shell-is (Instance s (Named n)) p e =
    let g = guarded (bytes_eq n (codes "T")) (Some (OfShell s)) p e in
    (s, ap (λ m. Instance s (Named m)) (same-bytes n (codes "T") g.0), cc)
shell-is (Instance s (Anonymous c)) p e = absurd cc
shell-is x p e = absurd cc

value-is : (x : Item) (p : Part) → value_of x ≡ Some p → (v : Value) × (x ≡ value_item v) × (OfValue v ≡ p)
value-is (Own n v) p e =
    let g = guarded (bytes_eq n (codes "p")) (Some (OfValue v)) p e in
    (v, ap (λ m. Own m v) (same-bytes n (codes "p") g.0), cc)
value-is x p e = absurd cc

true-is : (v : Value) → is_true v ≡ true → v ≡ Boolean true
true-is (Boolean b) e = ap (λ c. Boolean c) e
true-is v e = absurd cc

target-is : (x : Item) (p : Part) → target_of x ≡ Some p → (t : List (List ℕ)) × (x ≡ target_item t) × (OfTarget t ≡ p)
target-is (Dynamic t n v) p e =
    let a = guarded (is_true v) (if_named (codes "p") n (OfTarget t)) p e in
    let g = guarded (bytes_eq n (codes "p")) (Some (OfTarget t)) p a.1 in
    (t, ap (λ m. Dynamic t m v) (same-bytes n (codes "p") g.0) ∙ ap (λ u. Dynamic t (codes "p") u) (true-is v a.0), cc)
target-is x p e = absurd cc

all-held : (xs : List ℕ) → AllByRecursion IsHeld xs → All (λ n. n < 2 ^ 64) xs
all-held [] h k d l = absurd (omega (arith, l))
all-held (x ∷ xs) h zero d l = h.0
all-held (x ∷ xs) h (suc k) d l = all-held xs h.1 k d (omega (arith, l))

held-all : (xs : List ℕ) → All (λ n. n < 2 ^ 64) xs → AllByRecursion IsHeld xs
held-all [] h = tt
held-all (x ∷ xs) h = (h 0 0 (omega arith), held-all xs (λ k d l. h (suc k) d (omega (arith, l))))

place-is : (at : List ℕ) → IsPlace at → IsItemAddress at
place-is at h = record { some = h.some; short = h.short; fits = all-held at h.held }

is-place : (at : List ℕ) → IsItemAddress at → IsPlace at
is-place at h = record { some = h.some; short = h.short; held = held-all at h.fits }

pub patch-means : (l : PatchLines) (p : Patch) → IsFormedPatch l → patch_of l ≡ Some p → SpellsPatch l p
unfolding patch_of
patch-means (insert at text) p f e =
    let m = mapped (λ x. Insert at x) (item_of text) p e in
    subst (SpellsPatch (insert at text)) m.2 (place-is at f.0, refl, item-found text m.0 m.1)
patch-means (delete at) p f e =
    let same : Delete at ≡ p = cc in
    subst (SpellsPatch (delete at)) same (place-is at f, refl)
patch-means (shift at to) p f e =
    let same : Shift at to ≡ p = cc in
    subst (SpellsPatch (shift at to)) same (place-is at f.0, refl, f.1, refl)
patch-means (shell at text) p f e =
    let m = mapped (λ q. Exchange at q) (item_of text >>= shell_of) p e in
    let b = bound (item_of text) shell_of m.0 m.1 in
    let s = shell-is b.0 m.0 b.2 in
    subst (SpellsPatch (shell at text)) (ap (λ q. Exchange at q) s.2 ∙ m.2) (place-is at f.0, refl, subst (SpellsItem text) s.1 (item-found text b.0 b.1))
patch-means (value at text) p f e =
    let m = mapped (λ q. Exchange at q) (item_of text >>= value_of) p e in
    let b = bound (item_of text) value_of m.0 m.1 in
    let s = value-is b.0 m.0 b.2 in
    subst (SpellsPatch (value at text)) (ap (λ q. Exchange at q) s.2 ∙ m.2) (place-is at f.0, refl, subst (SpellsItem text) s.1 (item-found text b.0 b.1))
patch-means (target at text) p f e =
    let m = mapped (λ q. Exchange at q) (item_of text >>= target_of) p e in
    let b = bound (item_of text) target_of m.0 m.1 in
    let s = target-is b.0 m.0 b.2 in
    subst (SpellsPatch (target at text)) (ap (λ q. Exchange at q) s.2 ∙ m.2) (place-is at f.0, refl, subst (SpellsItem text) s.1 (item-found text b.0 b.1))
patch-means (type at new) p f e =
    let m = mapped (λ q. Exchange at q) (option_map (λ n. OfType n) (name_of new)) p e in
    let b = mapped (λ n. OfType n) (name_of new) m.0 m.1 in
    let n = name-found new b.0 b.1 in
    subst (SpellsPatch (type at new)) (ap (λ q. Exchange at q) b.2 ∙ m.2) (place-is at f.0, refl, n.1, sym n.0)
patch-means (name at new) p f e =
    let m = mapped (λ q. Exchange at q) (option_map (λ n. OfDefine n) (name_of new)) p e in
    let b = mapped (λ n. OfDefine n) (name_of new) m.0 m.1 in
    let n = name-found new b.0 b.1 in
    subst (SpellsPatch (name at new)) (ap (λ q. Exchange at q) b.2 ∙ m.2) (place-is at f.0, refl, n.1, sym n.0)

pub patch-meant : (l : PatchLines) (p : Patch) → SpellsPatch l p → patch_of l ≡ Some p
unfolding patch_of
patch-meant (insert at text) (Insert place x) h = ap (option_map (λ y. Insert at y)) (item-again text x h.2) ∙ ap (λ a. Some (Insert a x)) (sym h.1)
patch-meant (delete at) (Delete place) h = ap (λ a. Some (Delete a)) (sym h.1)
patch-meant (shift at to) (Shift place number) h = ap (λ a. Some (Shift a to)) (sym h.1) ∙ ap (λ n. Some (Shift place n)) (sym h.3)
patch-meant (shell at text) (Exchange place (OfShell s)) h = ap (λ o. exchanged at (o >>= shell_of)) (item-again text (shell_item s) h.2) ∙ ap (λ a. Some (Exchange a (OfShell s))) (sym h.1)
patch-meant (value at text) (Exchange place (OfValue v)) h = ap (λ o. exchanged at (o >>= value_of)) (item-again text (value_item v) h.2) ∙ ap (λ a. Some (Exchange a (OfValue v))) (sym h.1)
patch-meant (target at text) (Exchange place (OfTarget t)) h = ap (λ o. exchanged at (o >>= target_of)) (item-again text (target_item t) h.2) ∙ ap (λ a. Some (Exchange a (OfTarget t))) (sym h.1)
patch-meant (type at new) (Exchange place (OfType n)) h =
    ap (λ o. exchanged at (option_map (λ k. OfType k) o)) (name-again new h.2) ∙ ap (λ a. Some (Exchange a (OfType new))) (sym h.1) ∙ ap (λ k. Some (Exchange place (OfType k))) (sym h.3)
patch-meant (name at new) (Exchange place (OfDefine n)) h =
    ap (λ o. exchanged at (option_map (λ k. OfDefine k) o)) (name-again new h.2) ∙ ap (λ a. Some (Exchange a (OfDefine new))) (sym h.1) ∙ ap (λ k. Some (Exchange place (OfDefine k))) (sym h.3)
patch-meant l p h = absurd h

-- ---- Lines whose text isn't too long have no number of over 64 bits.

length-counted : (word text : List ℕ) → length text ≤ length (counted word text)
unfolding counted
length-counted word text = omega (arith, length-append (count_line word (length text)) text)

inner-held : (word text : List ℕ) → length (counted word text) ≤ max_session → IsHeld (length text)
inner-held word text m = omega (arith, length-counted word text, m)

letter-feed : (c : ℕ) → is_rest c ≡ true → nat_eq c 10 ≡ false
letter-feed c h = grind (arith, nat_tests)

rest-feed : (bytes : List ℕ) → list_all is_rest bytes ≡ true → Lacks 10 bytes
rest-feed [] h = tt
rest-feed (c ∷ cs) h =
    let b = both (is_rest c) (list_all is_rest cs) h in
    (letter-feed c b.0, rest-feed cs b.1)

name-feed : (bytes : List ℕ) → IsFreeName bytes → Lacks 10 bytes
name-feed bytes h = rest-feed bytes (identifier-rest bytes h.name.identifier)

patch-formed : (l : PatchLines) (p : Patch) → SpellsPatch l p → length (patch_text l) ≤ max_session → IsFormedPatch l
unfolding patch_text
patch-formed (insert at text) (Insert place x) h m = (is-place at h.0, inner-held (act (codes "insert") at) text m)
patch-formed (delete at) (Delete place) h m = is-place at h.0
patch-formed (shift at to) (Shift place number) h m = (is-place at h.0, h.2)
patch-formed (shell at text) (Exchange place (OfShell s)) h m = (is-place at h.0, inner-held (act (codes "shell") at) text m)
patch-formed (value at text) (Exchange place (OfValue v)) h m = (is-place at h.0, inner-held (act (codes "value") at) text m)
patch-formed (target at text) (Exchange place (OfTarget t)) h m = (is-place at h.0, inner-held (act (codes "target") at) text m)
patch-formed (type at new) (Exchange place (OfType n)) h m = (is-place at h.0, name-feed new h.2)
patch-formed (name at new) (Exchange place (OfDefine n)) h m = (is-place at h.0, name-feed new h.2)
patch-formed l p h m = absurd h

each-formed : {A B : Type 0} (show : A → List ℕ) (spells : A → B → Type 0) (Formed : A → Type 0) → ((x : A) (y : B) → spells x y → length (show x) ≤ max_session → Formed x)
    → (xs : List A) (ys : List B) → SpellsEach spells xs ys → length (flat_map show xs) ≤ max_session → AllByRecursion Formed xs
each-formed show spells Formed formed [] ys h m = tt
each-formed show spells Formed formed (x ∷ xs) [] h m = absurd h
each-formed show spells Formed formed (x ∷ xs) (y ∷ ys) h m =
    let parts = length-append (show x) (flat_map show xs) in
    (formed x y h.0 (omega (arith, parts, m)), each-formed show spells Formed formed xs ys h.1 (omega (arith, parts, m)))

count-le : {A : Type 0} (show : A → List ℕ) → ((x : A) → 0 < length (show x)) → (xs : List A) → length xs ≤ length (flat_map show xs)
count-le show some [] = omega arith
count-le show some (x ∷ xs) = omega (arith, some x, count-le show some xs, length-append (show x) (flat_map show xs))

are-formed : {A B : Type 0} (show : A → List ℕ) (spells : A → B → Type 0) (Formed : A → Type 0) → ((x : A) → 0 < length (show x)) → ((x : A) (y : B) → spells x y → length (show x) ≤ max_session → Formed x)
    → (word : List ℕ) (xs : List A) (ys : List B) → SpellsEach spells xs ys → length (count_line word (length xs) ++ flat_map show xs) ≤ max_session → AreFormed Formed xs
are-formed show spells Formed some formed word xs ys h m =
    let parts = length-append (count_line word (length xs)) (flat_map show xs) in
    record { count = omega (arith, count-le show some xs, parts, m); each = each-formed show spells Formed formed xs ys h (omega (arith, parts, m)) }

last-some : (xs : List ℕ) (c : ℕ) → 0 < length (xs ++ c ∷ [])
last-some xs c = omega (arith, length-append xs (c ∷ []))

counted-some : (word text : List ℕ) → 0 < length (counted word text)
unfolding counted
counted-some word text = omega (arith, length-append (count_line word (length text)) text, last-some (word ++ codes " " ++ decimal (length text)) 10)

patch-some : (l : PatchLines) → 0 < length (patch_text l)
unfolding patch_text
patch-some (insert at text) = counted-some (act (codes "insert") at) text
patch-some (delete at) = last-some (act (codes "delete") at) 10
patch-some (shift at to) = last-some (act (codes "shift") at ++ codes " " ++ decimal to) 10
patch-some (shell at text) = counted-some (act (codes "shell") at) text
patch-some (value at text) = counted-some (act (codes "value") at) text
patch-some (target at text) = counted-some (act (codes "target") at) text
patch-some (type at new) = last-some (act (codes "type") at ++ codes " " ++ new) 10
patch-some (name at new) = last-some (act (codes "name") at ++ codes " " ++ new) 10

step-some : (patches : List PatchLines) → 0 < length (step_text patches)
unfolding step_text
step-some patches = omega (arith, length-append (count_line (codes "back") (length patches)) (flat_map patch_text patches), last-some (codes "back" ++ codes " " ++ decimal (length patches)) 10)

step-formed : (lines : List PatchLines) (patches : List Patch) → SpellsEach SpellsPatch lines patches → length (step_text lines) ≤ max_session → AreFormed IsFormedPatch lines
unfolding step_text
step-formed lines patches h m = are-formed patch_text SpellsPatch IsFormedPatch patch-some patch-formed (codes "back") lines patches h m

steps-formed : (word : List ℕ) (lines : List (List PatchLines)) (steps : List (List Patch)) → SpellsSteps lines steps → length (steps_text word lines) ≤ max_session → AreFormedSteps lines
unfolding steps_text
steps-formed word lines steps h m = are-formed step_text (SpellsEach SpellsPatch) (AreFormed IsFormedPatch) step-some step-formed word lines steps h m

parts-short : (a b c d e : List ℕ) → length (a ++ b ++ c ++ d ++ e) ≤ max_session → (length b ≤ max_session) × (length c ≤ max_session) × (length d ≤ max_session)
parts-short a b c d e m =
    let p = length-append (a ++ b ++ c ++ d) e in
    let q = length-append (a ++ b ++ c) d in
    let r = length-append (a ++ b) c in
    let s = length-append a b in
    (omega (arith, m, p, q, r, s), omega (arith, m, p, q, r, s), omega (arith, m, p, q, r, s))

lines-formed : (l : SessionLines) (undo redo : List (List Patch)) → SpellsSteps l.undo undo → SpellsSteps l.redo redo → length (session_text l) ≤ max_session → IsFormed l
unfolding session_text
lines-formed l undo redo u r m =
    let whole = codes "regedit session 1" ++ line_feed in
    let last = append_assoc (whole ++ counted (codes "map") l.map ++ steps_text (codes "undo") l.undo ++ steps_text (codes "redo") l.redo) (codes "end") line_feed in
    let p = parts-short whole (counted (codes "map") l.map) (steps_text (codes "undo") l.undo) (steps_text (codes "redo") l.redo) (codes "end" ++ line_feed) (subst (λ t. length t ≤ max_session) last m) in
    record { map_len = inner-held (codes "map") l.map p.0; undo = steps-formed (codes "undo") l.undo undo u p.1; redo = steps-formed (codes "redo") l.redo redo r p.2 }

-- ---- Sessions.

all-mean : {A B : Type 0} (f : A → Option B) (spells : A → B → Type 0) (Formed : A → Type 0) → ((x : A) (y : B) → Formed x → f x ≡ Some y → spells x y)
    → (xs : List A) (ys : List B) → AllByRecursion Formed xs → all_of f xs ≡ Some ys → SpellsEach spells xs ys
all-mean f spells Formed mean [] ys h e = let same : [] ≡ ys = cc in subst (SpellsEach spells []) same tt
all-mean f spells Formed mean (x ∷ xs) ys h e =
    let b = bound (f x) (λ y. option_map (λ zs. y ∷ zs) (all_of f xs)) ys e in
    let m = mapped (λ zs. b.0 ∷ zs) (all_of f xs) ys b.2 in
    subst (SpellsEach spells (x ∷ xs)) m.2 (mean x b.0 h.0 b.1, all-mean f spells Formed mean xs m.0 h.1 m.1)

all-meant : {A B : Type 0} (f : A → Option B) (spells : A → B → Type 0) → ((x : A) (y : B) → spells x y → f x ≡ Some y) → (xs : List A) (ys : List B) → SpellsEach spells xs ys → all_of f xs ≡ Some ys
all-meant f spells meant [] [] h = refl
all-meant f spells meant [] (y ∷ ys) h = absurd h
all-meant f spells meant (x ∷ xs) [] h = absurd h
all-meant f spells meant (x ∷ xs) (y ∷ ys) h = rw (meant x y h.0, all-meant f spells meant xs ys h.1) refl

step-means : (lines : List PatchLines) (patches : List Patch) → AreFormed IsFormedPatch lines → all_of patch_of lines ≡ Some patches → SpellsEach SpellsPatch lines patches
step-means lines patches h e = all-mean patch_of SpellsPatch IsFormedPatch patch-means lines patches h.each e

steps-mean : (lines : List (List PatchLines)) (steps : List (List Patch)) → AreFormedSteps lines → all_of (all_of patch_of) lines ≡ Some steps → SpellsSteps lines steps
steps-mean lines steps h e = all-mean (all_of patch_of) (SpellsEach SpellsPatch) (AreFormed IsFormedPatch) step-means lines steps h.each e

steps-meant : (lines : List (List PatchLines)) (steps : List (List Patch)) → SpellsSteps lines steps → all_of (all_of patch_of) lines ≡ Some steps
steps-meant lines steps h = all-meant (all_of patch_of) (SpellsEach SpellsPatch) (all-meant patch_of SpellsPatch patch-meant) lines steps h

pub session-found : (text : List ℕ) (s : Session) → length text ≤ max_session → session_of text ≡ Some s → SpellsSession text s.0 s.1 s.2
unfolding session_of meaning_of
session-found text s short e =
    let l = bound (lines_in text) meaning_of s e in
    let d = bound (map_of l.0.map) (λ d. all_of (all_of patch_of) l.0.undo >>= λ undo. option_map (λ redo. (d, undo, redo)) (all_of (all_of patch_of) l.0.redo)) s l.2 in
    let u = bound (all_of (all_of patch_of) l.0.undo) (λ undo. option_map (λ redo. (d.0, undo, redo)) (all_of (all_of patch_of) l.0.redo)) s d.2 in
    let r = mapped (λ redo. (d.0, u.0, redo)) (all_of (all_of patch_of) l.0.redo) s u.2 in
    let t = lines-found text l.0 l.1 in
    subst (λ (q : Session). SpellsSession text q.0 q.1 q.2) r.2 (record {
      lines = l.0;
      text_is = t.text_is;
      short = short;
      spells_map = map-found l.0.map d.0 d.1;
      spells_undo = steps-mean l.0.undo u.0 t.formed.undo u.1;
      spells_redo = steps-mean l.0.redo r.0 t.formed.redo r.1;
    })

pub session-again : (text : List ℕ) (d : Items) (undo redo : List (List Patch)) → SpellsSession text d undo redo → session_of text ≡ Some (d, undo, redo)
unfolding session_of meaning_of
session-again text d undo redo h =
    let formed = lines-formed h.lines undo redo h.spells_undo h.spells_redo (subst (λ t. length t ≤ max_session) h.text_is h.short) in
    ap (λ t. lines_in t >>= meaning_of) h.text_is ∙ ap (λ o. o >>= meaning_of) (lines-again h.lines formed)
    ∙ rw (map-again h.lines.map d h.spells_map, steps-meant h.lines.undo undo h.spells_undo, steps-meant h.lines.redo redo h.spells_redo) refl

pub session-only : (text : List ℕ) (s : Session) → session_of text ≡ Some s → (d : Items) (undo redo : List (List Patch)) → SpellsSession text d undo redo → (s.0 ≡ d) × (s.1 ≡ undo) × (s.2 ≡ redo)
session-only text s e d undo redo h =
    let again = session-again text d undo redo h in
    let same : s ≡ (d, undo, redo) = cc in
    (ap (λ (q : Session). q.0) same, ap (λ (q : Session). q.1) same, ap (λ (q : Session). q.2) same)

pub session-refused : (text : List ℕ) → session_of text ≡ None → (d : Items) (undo redo : List (List Patch)) → SpellsSession text d undo redo → ⊥
session-refused text e d undo redo h =
    let again = session-again text d undo redo h in
    cc

pub one-session : (text : List ℕ) (d e : Items) (undo redo others ahead : List (List Patch)) → SpellsSession text d undo redo → SpellsSession text e others ahead → (d ≡ e) × (undo ≡ others) × (redo ≡ ahead)
one-session text d e undo redo others ahead h k = session-only text (d, undo, redo) (session-again text d undo redo h) e others ahead k
