-- Patches that were applied while one body was held open.
use Rattle.std.proofs.Common.{◌≡◌, ℕ, ◌≤◌, List, [], ◌∷◌, ◌++◌, length, Some, ap, sym, ◌∙◌, subst}
use Rattle.std.specs.Prelude.{slice_get, vec_capacity}
use Rattle.rdl_tree.specs.Items.{Items}
use Rattle.rdl_tree.specs.View.{list_of}
use Rattle.rdl_tree.specs.Address.{holder_of, number_of, body_at, map_body}
use Rattle.rdl_tree.specs.Edit.{insert_item, remove_item}
use Rattle.rdl_tree.specs.Patch.{length_of}
use Rattle.rdl_tree.specs.Way.{has_room, held_behind}
use Rattle.rdl_tree.specs.Gap.{IsStepWithin, GoesOnWithin, IsLent}
use Rattle.rdl_tree.specs.Walk.{IsUnderWay}
use Rattle.rdl_tree.specs.declared.description.Item.{Item}
use Rattle.rdl_tree.specs.declared.patch.Patch.{Patch}
use Rattle.rdl_tree.specs.declared.patch.Patch.TheVariants.{Insert, Delete}
use Rattle.rdl_tree.specs.declared.way.Step.{Step}
use Rattle.rdl_tree.proofs.Changes.{map_body-cong, map_body-same}
use Rattle.rdl_tree.proofs.Places.{body_at-map, map_body-twice}
use Rattle.rdl_tree.proofs.Held.{room-more}
use Rattle.rdl_tree.proofs.Reached.{changed_at, again_there}
use Rattle.rdl_tree.proofs.Stepped.{is_step, room_again}
use Rattle.rdl_tree.proofs.Backs.{advanced, still_under_way, next_fits}

pub taken_within : (at path : List ℕ) (old new : Items) (n : ℕ) (x : Item) (s : Step) → path ≡ holder_of at → n ≡ number_of at → new ≡ remove_item n old → slice_get (list_of old) n ≡ Some x → s.back ≡ Insert at x → length (list_of old) ≤ vec_capacity s.room → IsStepWithin path (Delete at) old new s
taken_within at path old new n x s e k f g b r = λ whole held fit.
    let after : Items = map_body path (λ _. new) whole in
    let led = changed_at remove_item at path n whole old new e k held f in
    let back = again_there at path n whole old x fit e k held g ∙ ap (λ (p : Patch). p ∷ []) (sym b) in
    let long : length_of (body_at (holder_of at) whole) ≡ Some (length (list_of old)) = ap (λ q. length_of (body_at q whole)) (sym e) ∙ ap length_of held in
    is_step (Delete at) whole after s fit led back (room-more s.back after (length (list_of old)) (vec_capacity s.room) r (room_again at whole after s.back (length (list_of old)) fit led back long))

pub put_within : (at path : List ℕ) (old new : Items) (n : ℕ) (x : Item) (s : Step) → path ≡ holder_of at → n ≡ number_of at → new ≡ insert_item n x old → s.back ≡ Delete at → IsStepWithin path (Insert at x) old new s
put_within at path old new n x s e k f b = λ whole held fit.
    let after : Items = map_body path (λ _. new) whole in
    let led = changed_at (λ m body. insert_item m x body) at path n whole old new e k held f in
    is_step (Insert at x) whole after s fit led (ap (λ (p : Patch). p ∷ []) (sym b)) (ap (λ p. has_room p (vec_capacity s.room) after) b)

-- nothing was done
pub stays_within : (path : List ℕ) (steps : List Step) (left : List Patch) (b new : Items) → new ≡ b → GoesOnWithin path steps steps left left b new
stays_within path steps left b new e = λ whole held start all w.
    subst (λ d. IsUnderWay steps d start left all) (sym (map_body-cong path (λ _. new) (λ d. d) whole b held e ∙ map_body-same path whole)) w

-- the body was held open meanwhile
pub held_open : (path : List ℕ) (steps more : List Step) (left less : List Patch) (b gap made new : Items) → gap ≡ b → new ≡ made → GoesOnWithin path steps more left less gap made → GoesOnWithin path steps more left less b new
held_open path steps more left less b gap made new e f w = λ whole held start all u.
    subst (λ d. IsUnderWay more d start less all) (ap (λ c. map_body path (λ _. c) whole) (sym f)) (w whole (held ∙ ap Some (sym e)) start all u)

-- the patches that are left, seen again
pub same_left : (path : List ℕ) (steps more : List Step) (left less same : List Patch) (b new : Items) → same ≡ less → GoesOnWithin path steps more left less b new → GoesOnWithin path steps more left same b new
same_left path steps more left less same b new e w = λ whole held start all u.
    subst (λ (ps : List Patch). IsUnderWay more (map_body path (λ _. new) whole) start ps all) (sym e) (w whole held start all u)

twice_within : (path : List ℕ) (now new whole : Items) → map_body path (λ _. new) (map_body path (λ _. now) whole) ≡ map_body path (λ _. new) whole
twice_within path now new whole = map_body-twice path (λ _. now) (λ _. new) whole

pub advanced_within : (path : List ℕ) (first steps lent more : List Step) (s : Step) (begun old left : List Patch) (p : Patch) (b now new : Items) → old ≡ left ++ p ∷ [] → IsStepWithin path p now new s → IsLent (held_behind s.back (vec_capacity s.room)) steps lent → more ≡ lent ++ s ∷ [] → GoesOnWithin path first steps begun old b now → GoesOnWithin path first more begun left b new
advanced_within path first steps lent more s begun old left p b now new e f l g w = λ whole held start all u.
    let here : Items = map_body path (λ _. now) whole in
    let way : IsUnderWay steps here start old all = w whole held start all u in
    let there = body_at-map path (λ _. now) whole b held in
    subst (λ d. IsUnderWay more d start left all) (twice_within path now new whole)
    (advanced steps lent more s here (map_body path (λ _. new) here) start old left all p e (f here there (next_fits old left p here e way.fit)) l g way)

pub still_within : (path : List ℕ) (first steps same : List Step) (begun old left more : List Patch) (p q : Patch) (b now new : Items) → old ≡ left ++ p ∷ [] → more ≡ left ++ q ∷ [] → q ≡ p → new ≡ now → same ≡ steps → GoesOnWithin path first steps begun old b now → GoesOnWithin path first same begun more b new
still_within path first steps same begun old left more p q b now new e f g h k w = λ whole held start all u.
    subst (λ ss. IsUnderWay ss (map_body path (λ _. new) whole) start more all) (sym k)
    (still_under_way steps (map_body path (λ _. now) whole) (map_body path (λ _. new) whole) start old left more all p q e f g (ap (λ c. map_body path (λ _. c) whole) h) (w whole held start all u))
