-- Steps that put items into one body, taken back while it is held open.
use Rattle.std.proofs.Common.{◌≡◌, ℕ, ◌+◌, max, ◌<◌, ◌≤◌, List, [], ◌∷◌, ◌++◌, length, Some, ⊎_elim, refl, ap, sym, ◌∙◌, arith, subst, length-append}
use Rattle.std.specs.Prelude.{IsTrue, IsFalse, Bool, true, false, not, ◌&&◌, ◌==◌, nat_le, nat_lt, bytes_eq, if◌then◌else◌, reverse, vec_capacity}
use Rattle.std.proofs.Math.Nat.{le-max_left, max-zero}
use Rattle.std.proofs.lemmas.Bool.{false≢true, and_parts, and_from, ltb-true, leb-true, lt-ltb}
use Rattle.std.proofs.lemmas.Bool.Decides.{leb_tells, eqb_tells}
use Rattle.std.proofs.lemmas.List.{append-nil, length-reverse}
use Rattle.std.proofs.lemmas.Slice.Eq.{bytes_eq-Decides}
use Rattle.rdl_tree.specs.Items.{Items}
use Rattle.rdl_tree.specs.View.{items_of, list_of}
use Rattle.rdl_tree.specs.Address.{holder_of, number_of, body_at, map_body}
use Rattle.rdl_tree.specs.Edit.{insert_item}
use Rattle.rdl_tree.specs.Patch.{patched, inverse, has_place, length_of}
use Rattle.rdl_tree.specs.Way.{Held, none_held, held_at, held_for, held_behind, room_of, is_below, has_room, is_placed, are_ready_in}
use Rattle.rdl_tree.specs.Walk.{IsOnWay}
use Rattle.rdl_tree.specs.Gap.{around, is_into, goes_in, IsBackWithin, ComesBackWithin, ComesBack}
use Rattle.rdl_tree.specs.declared.description.Item.{Item}
use Rattle.rdl_tree.specs.declared.patch.Patch.{Patch}
use Rattle.rdl_tree.specs.declared.patch.Patch.TheVariants.{Insert, Delete, Shift, Exchange}
use Rattle.rdl_tree.specs.declared.way.Step.{Step}
use Rattle.rdl_tree.proofs.Rounds.{list_of-items_of}
use Rattle.rdl_tree.proofs.Places.{body_at-map, map_body-twice}
use Rattle.rdl_tree.proofs.Reached.{changed_at, unchanged_at}
use Rattle.rdl_tree.proofs.Held.{ready-more, if-more, own_room}
use Rattle.rdl_tree.proofs.Backs.{step_taken}
use Rattle.rdl_tree.proofs.Turns.{reverse-last}

-- ---- Room that is held open.

held-most : (path : List ℕ) (n : ℕ) (q : List ℕ) → held_at path n q ≤ n
held-most path n q = by (bytes_eq path q)
  where
    by : (b : Bool) → (if b then n else 0) ≤ n
    by true = omega arith
    by false = omega arith

most_of : (a b c d : ℕ) → a ≤ c → b ≤ c → c ≤ d → max a b ≤ d
most_of a b c d h k l = omega (arith, le-max_left a b)

-- a step that went in holds the same body open
pub held_on : (s : Step) (path : List ℕ) (count room more : ℕ) → IsTrue (goes_in s path count room) → room ≤ more → (q : List ℕ) → held_behind s.back (room_of s (held_at path room)) q ≤ held_at path more q
held_on s path count room more e h q = from s.back (vec_capacity s.room) e
  where
    from : (p : Patch) (own : ℕ) → IsTrue (is_into p path count && (nat_le own room && nat_lt count room)) → held_behind p (max own (held_for p (held_at path room))) q ≤ held_at path more q
    from (Insert at x) own e =
        let parts = and_parts _ _ e in
        let into = and_parts _ _ (and_parts _ _ parts.0).1 in
        let same : path ≡ holder_of at = (bytes_eq-Decides path (holder_of at)).0 into.0 in
        let low : own ≤ room = leb-true own room (and_parts _ _ parts.1).0 in
        let most : max own (held_at path room (holder_of at)) ≤ more = most_of own (held_at path room (holder_of at)) room more low (held-most path room (holder_of at)) h in
        subst (λ r. held_at r (max own (held_at path room (holder_of at))) q ≤ held_at path more q) same (if-more (bytes_eq path q) (max own (held_at path room (holder_of at))) more most)
    from (Delete at) own e = absurd (false≢true e)
    from (Shift at to) own e = absurd (false≢true e)
    from (Exchange at part) own e = absurd (false≢true e)

not-zero : (n : ℕ) → 1 ≤ n → IsTrue (not (n == 0))
not-zero n h = ⊎_elim (λ p. absurd (omega (arith, p.1, h))) (λ p. ap not p.0) (eqb_tells n 0)

-- a step that did not go in has room itself
unheld_room : (p : Patch) (own room : ℕ) (path : List ℕ) (t b : Items) → body_at path t ≡ Some b → IsFalse (is_into p path (length (list_of b)) && (nat_le own room && nat_lt (length (list_of b)) room)) → IsTrue (is_placed p t) → IsTrue (has_room p (max own (held_for p (held_at path room))) t) → max own (held_for p (held_at path room)) ≡ own
unheld_room (Insert at x) own room path t b held e g r = by (bytes_eq path (holder_of at)) refl
  where
    by : (c : Bool) → bytes_eq path (holder_of at) ≡ c → max own (held_at path room (holder_of at)) ≡ own
    by false f = ap (λ (d : Bool). max own (if d then room else 0)) f ∙ max-zero own
    by true f =
        let same : path ≡ holder_of at = (bytes_eq-Decides path (holder_of at)).0 f in
        let there : body_at (holder_of at) t ≡ Some b = ap (λ q. body_at q t) (sym same) ∙ held in
        let held_room : held_at path room (holder_of at) ≡ room = ap (λ (d : Bool). if d then room else 0) f in
        let placed = and_parts _ _ g in
        let within : IsTrue (nat_le (number_of at) (length (list_of b))) = sym (ap (λ o. has_place (number_of at) (length_of o)) there) ∙ placed.1 in
        let below : length (list_of b) < max own room = ltb-true _ _ (sym (ap (λ o. is_below (length_of o) (max own room)) there) ∙ sym (ap (λ n. has_room (Insert at x) (max own n) t) held_room) ∙ r) in
        let into : IsTrue (is_into (Insert at x) path (length (list_of b))) = and_from _ _ (not-zero (length at) (leb-true 1 (length at) placed.0)) (and_from _ _ f within) in
        ap (λ n. max own n) held_room ∙ ⊎_elim
        (λ h. absurd (false≢true (sym e ∙ and_from _ _ into (and_from _ _ h.0 (lt-ltb _ _ (omega (arith, h.1, below)))))))
        (λ h. omega (arith, h.1))
        (leb_tells own room)
unheld_room (Delete at) own room path t b held e g r = max-zero own
unheld_room (Shift at to) own room path t b held e g r = max-zero own
unheld_room (Exchange at part) own room path t b held e g r = max-zero own

pub unheld : (s : Step) (ss : List Step) (room : ℕ) (path : List ℕ) (t b : Items) → body_at path t ≡ Some b → IsFalse (goes_in s path (length (list_of b)) room) → IsTrue (are_ready_in (held_at path room) (s ∷ ss) t) → IsTrue (are_ready_in none_held (s ∷ ss) t)
unheld s ss room path t b held e h =
    let first = and_parts _ _ (and_parts _ _ h).0 in
    let same : room_of s (held_at path room) ≡ vec_capacity s.room = unheld_room s.back (vec_capacity s.room) room path t b held e first.0 first.1 in
    ap (λ n. (is_placed s.back t && has_room s.back n t) && are_ready_in (held_behind s.back n) ss (patched s.back t)) (own_room s ∙ sym same) ∙ h

-- ---- A walk back.

pub on_way_more : (f g : Held) (steps : List Step) (here start : Items) (left all : List Patch) → ((q : List ℕ) → f q ≤ g q) → IsOnWay f steps here start left all → IsOnWay g steps here start left all
on_way_more f g steps here start left all h w = record { ready = ready-more (reverse steps) here f g h w.ready; leads = w.leads; again = w.again }

-- the first step is taken
pub first_taken : (rest : List Step) (s : Step) (t new end : Items) (room more patches : List Patch) (p : Patch) → new ≡ patched s.back t → inverse s.back t ≡ p ∷ [] → more ≡ room ++ p ∷ [] → IsOnWay none_held (rest ++ s ∷ []) t end room patches → IsOnWay (held_behind s.back (vec_capacity s.room)) rest new end more patches
first_taken rest s t new end room more patches p f g h w =
    subst (λ n. IsOnWay (held_behind s.back n) rest new end more patches) (own_room s) (step_taken none_held (rest ++ s ∷ []) rest s t new end room more patches p refl f g h w)

-- what it says that a step goes in
pub went_in : (s : Step) (at path : List ℕ) (x : Item) (count room : ℕ) → s.back ≡ Insert at x → IsTrue (goes_in s path count room) → (path ≡ holder_of at) × (count < room)
went_in s at path x count room e h =
    let parts = and_parts _ _ h in
    let into : IsTrue (is_into (Insert at x) path count) = ap (λ p. is_into p path count) (sym e) ∙ parts.0 in
    ((bytes_eq-Decides path (holder_of at)).0 (and_parts _ _ (and_parts _ _ into).1).0, ltb-true count room (and_parts _ _ parts.1).1)

-- the item is put in again
pub put_again : (back : Patch) (at path : List ℕ) (x : Item) (n : ℕ) (old new : Items) → back ≡ Insert at x → path ≡ holder_of at → n ≡ number_of at → new ≡ insert_item n x old → IsBackWithin path back old new (Delete at)
put_again back at path x n old new same e k f = subst (λ p. IsBackWithin path p old new (Delete at)) (sym same) (record {
  led = λ whole held. changed_at (λ m b. insert_item m x b) at path n whole old new e k held f;
  again = λ whole. refl;
})

-- how many items there are around the place
pub around-count : (front behind : List Item) → length front + length behind ≡ length (list_of (around front behind))
around-count front behind = omega (arith, ap length (list_of-items_of (front ++ reverse behind)), length-append front (reverse behind), length-reverse behind)

-- nothing is taken back yet
pub begun : (path : List ℕ) (held : Held) (steps : List Step) (room : List Patch) (b new : Items) → new ≡ b → ComesBackWithin path held held steps steps room room b new
begun path held steps room b new e = λ whole there start all w.
    subst (λ d. IsOnWay held steps d start room all) (sym (unchanged_at path whole b new there e)) w

-- one more step is taken back
pub one_more : (path : List ℕ) (held : Held) (count held_room wide : ℕ) (first steps rest : List Step) (s : Step) (begun room more : List Patch) (p : Patch) (b now new : Items) → steps ≡ rest ++ s ∷ [] → IsTrue (goes_in s path count held_room) → held_room ≤ wide → IsBackWithin path s.back now new p → more ≡ room ++ p ∷ [] → ComesBackWithin path held (held_at path held_room) first steps begun room b now → ComesBackWithin path held (held_at path wide) first rest begun more b new
one_more path held count held_room wide first steps rest s begun room more p b now new e f h g k w = λ whole there start all u.
    let here : Items = map_body path (λ _. now) whole in
    let after : Items = map_body path (λ _. new) here in
    let stands : body_at path here ≡ Some now = body_at-map path (λ _. now) whole b there in
    let taken = step_taken (held_at path held_room) steps rest s here after start room more all p e (g.led here stands) (g.again here) k (w whole there start all u) in
    subst (λ d. IsOnWay (held_at path wide) rest d start more all) (map_body-twice path (λ _. now) (λ _. new) whole)
    (on_way_more (held_behind s.back (room_of s (held_at path held_room))) (held_at path wide) rest after start more all (held_on s path count held_room wide f h) taken)

-- the next step is left
pub stopped : (path : List ℕ) (held : Held) (count held_room : ℕ) (first steps rest same : List Step) (s q : Step) (begun room : List Patch) (b now new : Items) → steps ≡ rest ++ s ∷ [] → same ≡ rest ++ q ∷ [] → q ≡ s → new ≡ now → count ≡ length (list_of now) → IsFalse (goes_in s path count held_room) → ComesBackWithin path held (held_at path held_room) first steps begun room b now → ComesBackWithin path held none_held first same begun room b new
stopped path held count held_room first steps rest same s q begun room b now new e f g h k n w = λ whole there start all u.
    let here : Items = map_body path (λ _. now) whole in
    let stands : body_at path here ≡ Some now = body_at-map path (λ _. now) whole b there in
    let way = w whole there start all u in
    let turn = reverse-last steps rest s e in
    let ready : IsTrue (are_ready_in none_held (reverse steps) here) =
    subst (λ (ss : List Step). IsTrue (are_ready_in none_held ss here)) (sym turn) (unheld s (reverse rest) held_room path here now stands (ap (λ m. goes_in s path m held_room) (sym k) ∙ n) (subst (λ (ss : List Step). IsTrue (are_ready_in (held_at path held_room) ss here)) turn way.ready)) in
    let on : IsOnWay none_held steps here start room all = record { ready = ready; leads = way.leads; again = way.again } in
    subst (λ d. IsOnWay none_held same (map_body path (λ _. d) whole) start room all) (sym h)
    (subst (λ ss. IsOnWay none_held ss here start room all) (e ∙ ap (λ (r : Step). rest ++ r ∷ []) (sym g) ∙ sym f) on)

-- all steps are taken
pub ended : (path : List ℕ) (held held_room : Held) (first steps none : List Step) (begun room : List Patch) (b now : Items) → none ≡ steps → steps ≡ [] → ComesBackWithin path held held_room first steps begun room b now → ComesBackWithin path held none_held first none begun room b now
ended path held held_room first steps none begun room b now e f w = λ whole there start all u.
    let way = w whole there start all u in
    subst (λ ss. IsOnWay none_held ss (map_body path (λ _. now) whole) start room all) (sym e)
    (record { ready = ap (λ (ss : List Step). are_ready_in none_held (reverse ss) (map_body path (λ _. now) whole)) f; leads = way.leads; again = way.again })

-- the body was held open meanwhile
pub filled : (path other : List ℕ) (n m : ℕ) (steps less : List Step) (room began more : List Patch) (b new gap made : Items) → other ≡ path → n ≤ m → began ≡ room → gap ≡ b → new ≡ made → ComesBackWithin other (held_at other m) none_held steps less began more gap made → ComesBackWithin path (held_at path n) none_held steps less room more b new
filled path other n m steps less room began more b new gap made e h f g k w = λ whole there start all u.
    let wide : IsOnWay (held_at other m) steps whole start began all =
    subst (λ q. IsOnWay (held_at q m) steps whole start began all) (sym e)
    (subst (λ (ps : List Patch). IsOnWay (held_at path m) steps whole start ps all) (sym f) (on_way_more (held_at path n) (held_at path m) steps whole start room all (λ q. if-more (bytes_eq path q) n m h) u)) in
    subst (λ d. IsOnWay none_held less d start more all) (ap (λ q. map_body q (λ _. made) whole) e ∙ ap (λ d. map_body path (λ _. d) whole) (sym k))
    (w whole (ap (λ q. body_at q whole) e ∙ there ∙ ap Some (sym g)) start all wide)

-- the body that was lent is filled
pub filled_at : (at path : List ℕ) (x : Item) (held : Held) (steps less : List Step) (room more : List Patch) (t b new : Items) → path ≡ holder_of at → body_at path t ≡ Some b → ComesBackWithin (holder_of at) held none_held steps less room more (insert_item (number_of at) x b) new → ComesBack held steps less room more (patched (Insert at x) t) (map_body path (λ _. new) t)
filled_at at path x held steps less room more t b new e h w = λ start all u.
    let there : body_at (holder_of at) t ≡ Some b = ap (λ q. body_at q t) (sym e) ∙ h in
    subst (λ d. IsOnWay none_held less d start more all) (map_body-twice (holder_of at) (insert_item (number_of at) x) (λ _. new) t ∙ ap (λ q. map_body q (λ _. new) t) (sym e))
    (w (patched (Insert at x) t) (body_at-map (holder_of at) (insert_item (number_of at) x) t b there) start all u)

-- all items went into the room, and one more
pub moved : (front behind items : List Item) (n m : ℕ) (x : Item) (t : Items) → behind ≡ [] → items_of front ≡ insert_item n x (items_of items) → n ≡ m → items_of items ≡ t → around front behind ≡ insert_item m x t
moved front behind items n m x t e f g h =
    ap (λ (ys : List Item). around front ys) e ∙ ap items_of (append-nil front) ∙ f ∙ ap (λ k. insert_item k x (items_of items)) g ∙ ap (λ b. insert_item m x b) h

pub counted : (xs : List Item) (t : Items) → items_of xs ≡ t → length xs ≡ length (list_of t)
counted xs t e = ap length (sym (list_of-items_of xs)) ∙ ap (λ b. length (list_of b)) e

-- the first step puts an item in
pub first_put : (at : List ℕ) (x : Item) (rest : List Step) (s : Step) (t end : Items) (room patches : List Patch) → s.back ≡ Insert at x → IsOnWay none_held (rest ++ s ∷ []) t end room patches → IsOnWay (held_at (holder_of at) (vec_capacity s.room)) rest (patched (Insert at x) t) end (room ++ Delete at ∷ []) patches
first_put at x rest s t end room patches e w =
    subst (λ p. IsOnWay (held_behind p (vec_capacity s.room)) rest (patched p t) end (room ++ Delete at ∷ []) patches) e
    (first_taken rest s t (patched s.back t) end room (room ++ Delete at ∷ []) patches (Delete at) refl (ap (λ p. inverse p t) e) refl w)

-- the steps, seen again
pub seen_steps : (held : Held) (steps same : List Step) (here start : Items) (left all : List Patch) → steps ≡ same → IsOnWay held steps here start left all → IsOnWay held same here start left all
seen_steps held steps same here start left all e w = subst (λ ss. IsOnWay held ss here start left all) e w
