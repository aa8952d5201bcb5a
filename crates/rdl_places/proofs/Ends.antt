-- Where a target ends from a place is where it ends among all instances there.
use Rattle.std.proofs.Common.{◌≡◌, ℕ, List, [], ◌∷◌, Option, Some, None, option_map, refl, sym, ap, ◌∙◌, arith}
use Rattle.std.specs.Prelude.{option_and_then}
use Rattle.rdl_tree.specs.declared.shell.Kind.{Kind}
use Rattle.rdl_seen.specs.Clean.{kind_in}
use Rattle.rdl_seen.specs.Inside.{Inside, nothing_within, Spots, Found, find, End, end_in, Asked, is_fitting_end, known, own_verdict, inner_verdict, target_verdict, verdict_of}
use Rattle.rdl_seen.specs.Layouts.{Laying}
use Rattle.rdl_seen.specs.Slots.{Node}
use Rattle.rdl_places.specs.Scopes.{Place, IsScope, Holding, IsHolding, AreHeld, known_at}
use Rattle.rdl_places.specs.Reached.{instances_at, FoundAt, find_inside, within_at, found_at, IsFoundHeld}
use Rattle.rdl_places.specs.Ends.{find_at, spots_at, end_at, own_verdict_at, inner_verdict_at, target_verdict_at, verdict_at, kind_of_holding, kind_from, kind_at}
use Rattle.rdl_places.proofs.Reached.{instance_found, instance_held, inside_found, inside_held}

-- ---- From a place.

pub found_there : (lay : Laying) (name : List ℕ) (ps : List Place) → IsScope lay ps → find name (instances_at lay ps) ≡ option_map (found_at lay) (find_at name ps)
found_there lay name [] is = refl
found_there lay name (p ∷ ps) is = instance_found lay name p.number p ps is.0 is.1 (omega arith)

pub held_there : (lay : Laying) (name : List ℕ) (ps : List Place) → IsScope lay ps → IsFoundHeld lay (find_at name ps)
held_there lay name [] is = tt
held_there lay name (p ∷ ps) is = instance_held lay name p.number p ps is.0 is.1 (omega arith)

-- ---- Ends.

spots_are : (lay : Laying) (h : Holding) → IsHolding lay h → spots_at h ≡ (known_at lay h).within.spots
spots_are lay h is = ap (λ (n : Node). let s : Spots = record { spans = n.core.layouts.compact.spans; is_ordered = n.core.seen.is_ordered } in s) is.kept

-- a name that is the last one
last_end : (lay : Laying) (h : Holding) → IsHolding lay h → (o : Option FoundAt)
    → option_map (λ (f : FoundAt). let e : End = record { spots = spots_at h; number = f.number } in e) o
    ≡ option_map (λ (f : Found). let e : End = record { spots = (known_at lay h).within.spots; number = f.number } in e) (option_map (found_at lay) o)
last_end lay h is None = refl
last_end lay h is (Some f) = λ i. Some (record { spots = spots_are lay h is i; number = f.number })

nowhere : (names : List (List ℕ)) → None ≡ end_in names nothing_within
nowhere [] = refl
nowhere (name ∷ []) = refl
nowhere (name ∷ next ∷ names) = refl

-- from the component of an instance, where it is known of each component
end_within : (lay : Laying) (names : List (List ℕ)) → ((h : Holding) → IsHolding lay h → end_at names h ≡ end_in names (known_at lay h).within)
    → (o : Option Holding) → AreHeld lay o → option_and_then (end_at names) o ≡ end_in names (within_at lay o)
end_within lay names each None is = nowhere names
end_within lay names each (Some h) is = each h is

end_found : (lay : Laying) (names : List (List ℕ)) → ((h : Holding) → IsHolding lay h → end_at names h ≡ end_in names (known_at lay h).within)
    → (o : Option FoundAt) → IsFoundHeld lay o
    → option_and_then (λ (f : FoundAt). option_and_then (end_at names) f.holding) o ≡ option_and_then (λ (f : Found). end_in names f.within) (option_map (found_at lay) o)
end_found lay names each None is = refl
end_found lay names each (Some f) is = end_within lay names each f.holding is

pub end_is : (lay : Laying) (names : List (List ℕ)) (h : Holding) → IsHolding lay h → end_at names h ≡ end_in names (known_at lay h).within
end_is lay [] h is = refl
end_is lay (name ∷ []) h is =
    last_end lay h is (find_inside name h)
    ∙ ap (option_map (λ (f : Found). let e : End = record { spots = (known_at lay h).within.spots; number = f.number } in e)) (sym (inside_found lay name h is))
end_is lay (name ∷ next ∷ names) h is =
    end_found lay (next ∷ names) (end_is lay (next ∷ names)) (find_inside name h) (inside_held lay name h is)
    ∙ ap (option_and_then (λ (f : Found). end_in (next ∷ names) f.within)) (sym (inside_found lay name h is))

-- ---- Verdicts.

own_is : (lay : Laying) (a : Asked) (o : Option FoundAt) → own_verdict_at a o ≡ own_verdict a (option_map (found_at lay) o)
own_is lay a None = refl
own_is lay a (Some f) = refl

inner_is : (lay : Laying) (a : Asked) (names : List (List ℕ)) (o : Option FoundAt) → IsFoundHeld lay o → inner_verdict_at a names o ≡ inner_verdict a names (option_map (found_at lay) o)
inner_is lay a names None is = refl
inner_is lay a names (Some f) is = ap (λ e. known (is_fitting_end a e)) (end_within lay names (end_is lay names) f.holding is)

target_is : (lay : Laying) (a : Asked) (target : List (List ℕ)) (ps : List Place) → IsScope lay ps → target_verdict_at a target ps ≡ target_verdict a target (instances_at lay ps)
target_is lay a [] ps is = refl
target_is lay a (name ∷ []) ps is = own_is lay a (find_at name ps) ∙ ap (own_verdict a) (sym (found_there lay name ps is))
target_is lay a (name ∷ next ∷ names) ps is =
    inner_is lay a (next ∷ names) (find_at name ps) (held_there lay name ps is) ∙ ap (inner_verdict a (next ∷ names)) (sym (found_there lay name ps is))

pub verdict_is : (lay : Laying) (a : Option Asked) (target : List (List ℕ)) (ps : List Place) → IsScope lay ps → verdict_at a target ps ≡ verdict_of a target (instances_at lay ps)
verdict_is lay None target ps is = refl
verdict_is lay (Some a) target ps is = target_is lay a target ps is

-- ---- Kinds.

abbrev kind_behind : List (List ℕ) → Option Found → Option Kind
kind_behind [] o = option_map (λ (f : Found). f.within.kind) o
kind_behind (next ∷ names) o = option_and_then (λ (f : Found). kind_in (next ∷ names) f.within.inside) o

in_behind : (name : List ℕ) (names : List (List ℕ)) (before : Inside) → kind_in (name ∷ names) before ≡ kind_behind names (find name before)
in_behind name [] before = refl
in_behind name (next ∷ names) before = refl

none_behind : (names : List (List ℕ)) → None ≡ kind_behind names None
none_behind [] = refl
none_behind (next ∷ names) = refl

kind_within : (lay : Laying) (o : Option Holding) → kind_of_holding o ≡ (within_at lay o).kind
kind_within lay None = refl
kind_within lay (Some h) = refl

kinds_behind : (lay : Laying) (names : List (List ℕ)) → ((f : FoundAt) → AreHeld lay f.holding → kind_from names f ≡ kind_behind names (Some (found_at lay f)))
    → (o : Option FoundAt) → IsFoundHeld lay o → option_and_then (kind_from names) o ≡ kind_behind names (option_map (found_at lay) o)
kinds_behind lay names each None is = none_behind names
kinds_behind lay names each (Some f) is = each f is

kinds_inside : (lay : Laying) (name : List ℕ) (names : List (List ℕ)) → ((f : FoundAt) → AreHeld lay f.holding → kind_from names f ≡ kind_behind names (Some (found_at lay f)))
    → (o : Option Holding) → AreHeld lay o → option_and_then (kind_from names) (option_and_then (find_inside name) o) ≡ kind_in (name ∷ names) (within_at lay o).inside
kinds_inside lay name names each None is = none_behind names ∙ sym (in_behind name names nothing_within.inside)
kinds_inside lay name names each (Some h) is =
    kinds_behind lay names each (find_inside name h) (inside_held lay name h is)
    ∙ ap (kind_behind names) (sym (inside_found lay name h is))
    ∙ sym (in_behind name names (known_at lay h).within.inside)

kind_is_behind : (lay : Laying) (names : List (List ℕ)) (f : FoundAt) → AreHeld lay f.holding → kind_from names f ≡ kind_behind names (Some (found_at lay f))
kind_is_behind lay [] f is = ap Some (kind_within lay f.holding)
kind_is_behind lay (name ∷ names) f is = kinds_inside lay name names (kind_is_behind lay names) f.holding is

pub kind_is : (lay : Laying) (target : List (List ℕ)) (ps : List Place) → IsScope lay ps → kind_at target ps ≡ kind_in target (instances_at lay ps)
kind_is lay [] ps is = refl
kind_is lay (name ∷ names) ps is =
    kinds_behind lay names (kind_is_behind lay names) (find_at name ps) (held_there lay name ps is)
    ∙ ap (kind_behind names) (sym (found_there lay name ps is))
    ∙ sym (in_behind name names (instances_at lay ps))
