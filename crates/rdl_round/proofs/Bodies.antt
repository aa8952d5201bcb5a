-- What can be written, as what holds of each item. So a change of one body keeps it.
use Rattle.std.proofs.Common.{ℕ, List, ◌++◌}
use Rattle.std.proofs.lemmas.List.Elements.{All-append}
use Rattle.rdl_tree.specs.Address.{map_body}
use Rattle.rdl_tree.specs.Items.{Items, no_items, plain, holder, Plain, Holder}
use Rattle.rdl_tree.specs.View.{items_of, list_of}
use Rattle.rdl_round.specs.OfWords.{IsPlainOfWords, IsHolderOfWords, IsOfWords}
use Rattle.rdl_round.specs.Spellable.{IsPlain, IsHolder, IsSpellable}
use Rattle.rdl_round.proofs.Each.{Each, Fits, items-fit, each-of, changed-body}

pub each-spellable : (t : Items) → IsSpellable t → Each IsPlain IsHolder t
each-spellable no_items h = h
each-spellable (plain p rest) h = (h.0, each-spellable rest h.1)
each-spellable (holder p body rest) h = (h.0, each-spellable body h.1, each-spellable rest h.2)

pub spellable-each : (t : Items) → Each IsPlain IsHolder t → IsSpellable t
spellable-each no_items h = h
spellable-each (plain p rest) h = (h.0, spellable-each rest h.1)
spellable-each (holder p body rest) h = (h.0, spellable-each body h.1, spellable-each rest h.2)

pub each-of-words : (t : Items) → IsOfWords t → Each IsPlainOfWords IsHolderOfWords t
each-of-words no_items h = h
each-of-words (plain p rest) h = (h.0, each-of-words rest h.1)
each-of-words (holder p body rest) h = (h.0, each-of-words body h.1, each-of-words rest h.2)

pub of-words-each : (t : Items) → Each IsPlainOfWords IsHolderOfWords t → IsOfWords t
of-words-each no_items h = h
of-words-each (plain p rest) h = (h.0, of-words-each rest h.1)
of-words-each (holder p body rest) h = (h.0, of-words-each body h.1, of-words-each rest h.2)

pub body-spellable : (address : List ℕ) (f : Items → Items) (d : Items) → ((b : Items) → IsSpellable b → IsSpellable (f b)) → IsSpellable d → IsSpellable (map_body address f d)
body-spellable address f d k h =
    spellable-each (map_body address f d) (changed-body IsPlain IsHolder address f d (λ b e. each-spellable (f b) (k b (spellable-each b e))) (each-spellable d h))

pub body-of-words : (address : List ℕ) (f : Items → Items) (d : Items) → ((b : Items) → IsOfWords b → IsOfWords (f b)) → IsOfWords d → IsOfWords (map_body address f d)
body-of-words address f d k h =
    of-words-each (map_body address f d) (changed-body IsPlainOfWords IsHolderOfWords address f d (λ b e. each-of-words (f b) (k b (of-words-each b e))) (each-of-words d h))

both : (P : Plain → Type 0) (H : Holder → Type 0) (body added : Items) → Each P H body → Each P H added → Each P H (items_of (list_of body ++ list_of added))
both P H body added h k = each-of P H (list_of body ++ list_of added) (All-append (Fits P H) (list_of body) (list_of added) (items-fit P H body h) (items-fit P H added k))

pub added-spellable : (body added : Items) → IsSpellable body → IsSpellable added → IsSpellable (items_of (list_of body ++ list_of added))
added-spellable body added h k = spellable-each (items_of (list_of body ++ list_of added)) (both IsPlain IsHolder body added (each-spellable body h) (each-spellable added k))

pub added-of-words : (body added : Items) → IsOfWords body → IsOfWords added → IsOfWords (items_of (list_of body ++ list_of added))
added-of-words body added h k = of-words-each (items_of (list_of body ++ list_of added)) (both IsPlainOfWords IsHolderOfWords body added (each-of-words body h) (each-of-words added k))
