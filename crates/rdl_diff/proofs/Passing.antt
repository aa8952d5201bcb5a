-- Texts that come one after another.
use Rattle.std.proofs.Common.{◌≡◌, ℕ, ◌<◌, List, [], ◌∷◌, ◌++◌, map, flat_map, length, Option, Some, None, sym, ap, ◌∙◌, append_assoc, append-nil, subst, arith}
use Rattle.std.specs.Vec.Iter.{into_iter_items}
use Rattle.std.proofs.lemmas.List.Concat.{flat_map-append}
use denote.Ref.{Bor}
use Rattle.rdl_diff.specs.Left.{Passes, head_left, left, texts_left}
use Rattle.rdl_diff.specs.Seen.{entry_seen}
use Rattle.rdl_diff.specs.Written.{text_in}
use Rattle.rdl_diff.specs.declared.choice.Format.{Format}
use Rattle.rdl_diff.specs.declared.diff.Differences.{Differences}
use Rattle.rdl_diff.specs.declared.entry.Entry.{Entry}

-- what is left, of a head and of entries
abbrev rest : Format → Option (Bor (List ℕ)) → List Entry → List (List ℕ)
rest f h es = head_left h ++ map (λ e. text_in f (entry_seen e)) es

-- one text is passed
one : (before after : Differences) (t old new : List ℕ) → left before ≡ t ∷ left after → new ≡ old ++ t → Passes before after old new
one before after t old new next said = record {
  passed = t ∷ [];
  next = next;
  said = said ∙ ap (λ u. old ++ u) (sym (append-nil t));
}

-- the head
pub head_passes : (before after : Differences) (h : Bor (List ℕ)) (old new : List ℕ) → before.head ≡ Some h → after.head ≡ None → after.entries ≡ before.entries → after.format ≡ before.format
    → left before ≡ h.now ∷ left after
head_passes before after h old new e f g k =
    ap (λ o. rest before.format o (into_iter_items before.entries)) e
    ∙ ap (λ ts. h.now ∷ ts) (λ i. rest (sym k i) (sym f i) (into_iter_items (sym g i)))

pub next_head : (before after : Differences) (h : Bor (List ℕ)) (old new : List ℕ) → before.head ≡ Some h → after.head ≡ None → after.entries ≡ before.entries → after.format ≡ before.format
    → new ≡ old ++ h.now → Passes before after old new
next_head before after h old new e f g k said = one before after h.now old new (head_passes before after h old new e f g k) said

-- an entry
pub entry_passes : (before after : Differences) (x : Entry) → before.head ≡ None → after.head ≡ before.head → into_iter_items before.entries ≡ x ∷ into_iter_items after.entries → after.format ≡ before.format
    → left before ≡ text_in before.format (entry_seen x) ∷ left after
entry_passes before after x none same e k =
    (λ i. rest before.format (none i) (e i))
    ∙ ap (λ ts. text_in before.format (entry_seen x) ∷ ts) (λ i. rest (sym k i) (sym (same ∙ none) i) (into_iter_items after.entries))

pub next_entry : (before after : Differences) (x : Entry) (old new : List ℕ) → before.head ≡ None → after.head ≡ before.head → into_iter_items before.entries ≡ x ∷ into_iter_items after.entries → after.format ≡ before.format
    → new ≡ old ++ text_in before.format (entry_seen x) → Passes before after old new
next_entry before after x old new none same e k said = one before after (text_in before.format (entry_seen x)) old new (entry_passes before after x none same e k) said

-- there is one less
pub fewer : (before after : Differences) (t : List ℕ) → left before ≡ t ∷ left after → texts_left after < texts_left before
fewer before after t e = subst (λ ts. length (left after) < length ts) (sym e) (omega arith)

-- none is left
pub none_left : (d : Differences) → d.head ≡ None → into_iter_items d.entries ≡ [] → left d ≡ []
none_left d h e = λ i. rest d.format (h i) (e i)

pub no_next : (before after : Differences) (text : List ℕ) → before.head ≡ None → into_iter_items before.entries ≡ [] → after.head ≡ before.head → into_iter_items after.entries ≡ into_iter_items before.entries → after.format ≡ before.format
    → (left after ≡ []) × Passes before after text text
no_next before after text h e f g k =
    let first : left before ≡ [] = none_left before h e in
    let then : left after ≡ [] = none_left after (f ∙ h) (g ∙ e) in
    (then, record { passed = []; next = first ∙ sym then; said = sym (append-nil text) })

-- ---- The text of all, so far as they have come.

pub passed_on : (all old new : List ℕ) (before after : Differences) → all ≡ old ++ flat_map (λ t. t) (left before) → Passes before after old new → all ≡ new ++ flat_map (λ t. t) (left after)
passed_on all old new before after h p =
    h
    ∙ ap (λ ts. old ++ flat_map (λ t. t) ts) p.next
    ∙ ap (λ t. old ++ t) (flat_map-append (λ t. t) p.passed (left after))
    ∙ sym (append_assoc old (flat_map (λ t. t) p.passed) (flat_map (λ t. t) (left after)))
    ∙ ap (λ t. t ++ flat_map (λ t. t) (left after)) (sym p.said)

pub passed_all : (all old new : List ℕ) (before after : Differences) → all ≡ old ++ flat_map (λ t. t) (left before) → Passes before after old new → left after ≡ [] → new ≡ all
passed_all all old new before after h p none =
    sym (append-nil new) ∙ ap (λ ts. new ++ flat_map (λ t. t) ts) (sym none) ∙ sym (passed_on all old new before after h p)
