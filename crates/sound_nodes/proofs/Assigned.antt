-- The dynamic assignments of a component that are harmless by what is kept are harmless.
use Rattle.std.proofs.Common.{◌≡◌, ℕ, suc, ◌+◌, ◌≤◌, Bool, true, false, List, [], ◌∷◌, ◌++◌, Option, Some, None, option_map, bytes_eq, if◌then◌else◌, refl, sym, ap, subst, ◌∙◌, arith}
use Rattle.std.specs.Prelude.{option_and_then}
use Rattle.std.proofs.lemmas.Bool.{le-ltb}
use Rattle.rdl_tree.specs.Address.{number_of}
use Rattle.rdl_tree.specs.Items.{Items, no_items, plain, holder, named as named_item, own, default, dynamic, define, anonymous}
use Rattle.rdl_tree.specs.declared.shell.Kind.{Kind}
use Rattle.rdl_tree.specs.declared.shell.Shell.{Shell}
use Rattle.rdl_tree.specs.declared.value.Value.{Value}
use Rattle.rdl_scope.specs.Closed as scope
use Rattle.rdl_scope.specs.Closed.{Head, Parts, no_parts, part, Made, Standing, lookup, head_at, parts, with_made, component}
use Rattle.rdl_scope.specs.ItemFaults.{fault_of}
use Rattle.rdl_elab.proofs.PartsFound.{parts-found}
use Rattle.rdl_seen.specs.Inside as seen
use Rattle.rdl_seen.specs.Inside.{Spots, Inside, no_instances, Found, find, End, Asked, asked, verdict_of, is_fitting_end}
use Rattle.node_laws.specs.Seen.{spots_seen, behind, within_seen}
use Rattle.node_laws.specs.Sound.{plain_harmless, harmless}
use Rattle.node_laws.proofs.Accepted.{IsNamed, AreAccepted}
use Rattle.node_laws.proofs.Along.{made-accepted}
use Rattle.sound_laws.specs.Harmless.{kept_layout, Spot, spots_in}
use Rattle.sound_laws.specs.Targets.{Instance, named, is_before, first_named}
use Rattle.sound_laws.specs.Verdicts.{Stand, stand_named, end_in, is_end_fitting, is_item_fitting, are_items_fitting}
use Rattle.sound_laws.proofs.Lists.{both, and_both}
use Rattle.sound_nodes.proofs.Ends.{IsMet, met, unasked-end, end-fits, stand-one}
use Rattle.sound_nodes.proofs.Unique.{with_part, AreFresh, AreFrom, parts-from, all-fresh}

-- ---- Parts one behind the other.

abbrev joined : Parts → Parts → Parts
joined no_parts qs = qs
joined (part at s h inside rest) qs = part at s h inside (joined rest qs)

joined-snoc : (done : Parts) (at : List ℕ) (s : Shell) (h : Head) (inside todo : Parts) → joined (joined done (part at s h inside no_parts)) todo ≡ joined done (part at s h inside todo)
joined-snoc no_parts at s h inside todo = refl
joined-snoc (part a z k within rest) at s h inside todo = ap (part a z k within) (joined-snoc rest at s h inside todo)

behind-snoc : (done : Parts) (at : List ℕ) (s : Shell) (h : Head) (inside : Parts) (before : Inside) → behind (joined done (part at s h inside no_parts)) before ≡ with_part s h inside (behind done before)
behind-snoc no_parts at s h inside before = refl
behind-snoc (part a z k within rest) at s h inside before = behind-snoc rest at s h inside (with_part z k within before)

fresh-first : (done todo : Parts) (before : Inside) → AreFresh (joined done todo) before → AreFresh done before
fresh-first no_parts todo before f = tt
fresh-first (part at s h inside rest) todo before f = (f.0, fresh-first rest todo (with_part s h inside before) f.1)

-- the first of a name stands among the first, or else among the others
named-later : (name : List ℕ) (done todo : Parts) → named name done ≡ None → named name (joined done todo) ≡ named name todo
named-later name no_parts todo e = refl
named-later name (part at s h inside rest) todo e = by (λ g. named-later name rest todo g) (bytes_eq s.name name) e
  where
    by : (named name rest ≡ None → named name (joined rest todo) ≡ named name todo)
        → (t : Bool) → (if t then Some (record { at = at; head = h; inside = inside }) else named name rest) ≡ None
        → (if t then Some (record { at = at; head = h; inside = inside }) else named name (joined rest todo)) ≡ named name todo
    by later true g = absurd cc
    by later false g = later g

stand-first : (name : List ℕ) (spots : List Spot) (done todo : Parts) (i : Instance) → named name done ≡ Some i → stand_named name spots (joined done todo) ≡ stand_named name spots done
stand-first name spots no_parts todo i e = absurd cc
stand-first name [] (part at s h inside rest) todo i e = refl
stand-first name (spot ∷ spots) (part at s h inside rest) todo i e = by (λ g. stand-first name spots rest todo i g) (bytes_eq s.name name) e
  where
    by : (named name rest ≡ Some i → stand_named name spots (joined rest todo) ≡ stand_named name spots rest)
        → (t : Bool) → (if t then Some (record { at = at; head = h; inside = inside }) else named name rest) ≡ Some i
        → (if t then Some (record { spot = spot; head = h; inside = inside }) else stand_named name spots (joined rest todo))
        ≡ (if t then Some (record { spot = spot; head = h; inside = inside }) else stand_named name spots rest)
    by later true g = refl
    by later false g = later g

-- none of those from item n on stands before it
not-before : (n : ℕ) (name : List ℕ) (ps : Parts) → AreFrom n ps → is_before n (named name ps) ≡ false
not-before n name no_parts from = refl
not-before n name (part at s h inside rest) from = by (bytes_eq s.name name) (not-before n name rest (less (suc (number_of at)) n rest (omega (arith, from.0)) from.1))
  where
    less : (m k : ℕ) (qs : Parts) → k ≤ m → AreFrom m qs → AreFrom k qs
    less m k no_parts below f = tt
    less m k (part a z j within more) below f = (omega (arith, f.0, below), f.1)

    by : (t : Bool) → is_before n (named name rest) ≡ false → is_before n (if t then Some (record { at = at; head = h; inside = inside }) else named name rest) ≡ false
    by true e = le-ltb (number_of at) n from.0
    by false e = e

no-base : (k : ℕ) → 0 + k ≡ k
no-base k = omega arith

module _ (d : Items) (accepted : fault_of d ≡ None) (p : List ℕ) (v : Value) where
  -- ---- At the end of a target.

  module _ (a : Asked) (asks : asked p v ≡ Some a) where
    abbrev end_of : Spots → Option Found → Option End
    end_of spots o = option_map (λ (f : Found). record { spots = spots; number = f.number }) o

    at-end : (h : Head) (full : Parts) (o : Option Found) (e : Stand) → IsMet o 0 (spots_in kept_layout h full) e
        → is_fitting_end a (end_of (spots_seen (record { head = h; parts = full })) o) ≡ true → is_end_fitting p v (Some e) ≡ true
    at-end h full o e m fit =
        let spots = spots_seen (record { head = h; parts = full }) in
        let there : seen.is_fitting a (record { spots = spots; number = 0 + m.number }) ≡ true = ap (λ z. is_fitting_end a (end_of spots z)) (sym m.found) ∙ fit in
        end-fits p v a h full m.number e.spot asks (subst (λ k. seen.is_fitting a (record { spots = spots; number = k }) ≡ true) (no-base m.number) there) m.spot

    last-fits : (name : List ℕ) (c : Made) (o : Option Stand) → AreFresh c.parts no_instances → stand_named name (spots_in kept_layout c.head c.parts) c.parts ≡ o
        → is_fitting_end a (end_of (spots_seen c) (find name (behind c.parts no_instances))) ≡ true → is_end_fitting p v o ≡ true
    last-fits name c None fresh there fit = refl
    last-fits name c (Some e) fresh there fit =
        at-end c.head c.parts (find name (behind c.parts no_instances)) e (met name c.parts (spots_in kept_layout c.head c.parts) no_instances e fresh refl there) fit

    -- what is inside an instance that is met
    abbrev inside_of : List (List ℕ) → Option Found → Option End
    inside_of names o = option_and_then (λ (f : Found). seen.end_in names f.within) o

    fits-inside : (names : List (List ℕ)) (spots : List Spot) (o : Option Found) (e : Stand) → IsMet o 0 spots e → is_fitting_end a (inside_of names o) ≡ true
        → is_fitting_end a (seen.end_in names (within_seen (record { head = e.head; parts = e.inside }))) ≡ true
    fits-inside names spots o e m fit = ap (λ z. is_fitting_end a (inside_of names z)) (sym m.found) ∙ fit

    ends-fit : (names : List (List ℕ)) (b : List ℕ) (c : Made) → component d b ≡ Some c → is_fitting_end a (seen.end_in names (within_seen c)) ≡ true
        → is_end_fitting p v (end_in kept_layout names (spots_in kept_layout c.head c.parts) c.parts) ≡ true
    ends-fit [] b c is fit = refl
    ends-fit (name ∷ []) b c is fit =
        last-fits name c (stand_named name (spots_in kept_layout c.head c.parts) c.parts) (all-fresh d b c accepted is) refl fit
    ends-fit (name ∷ next ∷ names) b c is fit =
        by (λ a_next k there fits. ends-fit (next ∷ names) a_next k there fits) (stand_named name (spots_in kept_layout c.head c.parts) c.parts) refl
      where
        by : ((b : List ℕ) (c : Made) → component d b ≡ Some c → is_fitting_end a (seen.end_in (next ∷ names) (within_seen c)) ≡ true
            → is_end_fitting p v (end_in kept_layout (next ∷ names) (spots_in kept_layout c.head c.parts) c.parts) ≡ true)
            → (o : Option Stand) → stand_named name (spots_in kept_layout c.head c.parts) c.parts ≡ o
            → is_end_fitting p v (option_and_then (λ (e : Stand). end_in kept_layout (next ∷ names) (spots_in kept_layout e.head e.inside) e.inside) o) ≡ true
        by deeper None there = refl
        by deeper (Some e) there =
            let spots = spots_in kept_layout c.head c.parts in
            let m = met name c.parts spots no_instances e (all-fresh d b c accepted is) refl there in
            deeper e.head.at (record { head = e.head; parts = e.inside }) (stand-one d b name spots c.parts e (parts-found d b c is) there)
            (fits-inside (next ∷ names) spots (find name (behind c.parts no_instances)) e m fit)

  -- ---- A dynamic assignment of a component.

  if-any : (test x : Bool) → x ≡ true → (if test then x else true) ≡ true
  if-any true x e = e
  if-any false x e = refl

  if-none : (test x : Bool) → test ≡ false → (if test then x else true) ≡ true
  if-none true x e = absurd cc
  if-none false x e = refl

  module _ (b : List ℕ) (h : Head) (full : Parts) (is : component d b ≡ Some (record { head = h; parts = full })) (fresh : AreFresh full no_instances)
      (n : ℕ) (done todo : Parts) (split : full ≡ joined done todo) (from : AreFrom n todo) where
    abbrev spots : Spots
    spots = spots_seen (record { head = h; parts = full })

    abbrev all_spots : List Spot
    all_spots = spots_in kept_layout h full

    fresh-done : AreFresh done no_instances
    fresh-done = fresh-first done todo no_instances (subst (λ z. AreFresh z no_instances) split fresh)

    -- by the instances that stand before it
    target-fits : (a : Asked) → asked p v ≡ Some a → (name : List ℕ) (names : List (List ℕ)) (i : Instance) → named name done ≡ Some i
        → seen.is_harmless spots (seen.target_verdict a (name ∷ names) (behind done no_instances)) ≡ true
        → (o : Option Stand) → stand_named name all_spots full ≡ o → is_end_fitting p v (end_in kept_layout (name ∷ names) all_spots full) ≡ true
    target-fits a asks name [] i first fit None there = ap (is_end_fitting p v) there
    target-fits a asks name [] i first fit (Some e) there =
        let here : stand_named name all_spots done ≡ Some e = sym (ap (stand_named name all_spots) split ∙ stand-first name all_spots done todo i first) ∙ there in
        let m = met name done all_spots no_instances e fresh-done refl here in
        ap (is_end_fitting p v) there ∙ at-end a asks h full (find name (behind done no_instances)) e m (own (find name (behind done no_instances)) fit)
      where
        own : (o : Option Found) → seen.is_harmless spots (seen.own_verdict a o) ≡ true → is_fitting_end a (end_of a asks spots o) ≡ true
        own None g = refl
        own (Some f) g = g
    target-fits a asks name (next ∷ names) i first fit None there =
        ap (λ z. is_end_fitting p v (option_and_then (λ (e : Stand). end_in kept_layout (next ∷ names) (spots_in kept_layout e.head e.inside) e.inside) z)) there
    target-fits a asks name (next ∷ names) i first fit (Some e) there =
        let here : stand_named name all_spots done ≡ Some e = sym (ap (stand_named name all_spots) split ∙ stand-first name all_spots done todo i first) ∙ there in
        let m = met name done all_spots no_instances e fresh-done refl here in
        let c : Made = record { head = h; parts = full } in
        ap (λ z. is_end_fitting p v (option_and_then (λ (e : Stand). end_in kept_layout (next ∷ names) (spots_in kept_layout e.head e.inside) e.inside) z)) there
        ∙ ends-fit a asks (next ∷ names) e.head.at (record { head = e.head; parts = e.inside }) (stand-one d b name all_spots full e (parts-found d b c is) there)
        (fits-inside a asks (next ∷ names) all_spots (find name (behind done no_instances)) e m (inner (find name (behind done no_instances)) fit))
      where
        inner : (o : Option Found) → seen.is_harmless spots (seen.inner_verdict a (next ∷ names) o) ≡ true → is_fitting_end a (inside_of a asks (next ∷ names) o) ≡ true
        inner None g = refl
        inner (Some f) g = g

    dynamic-fits : (t : List (List ℕ)) → seen.is_harmless spots (verdict_of (asked p v) t (behind done no_instances)) ≡ true → is_item_fitting kept_layout h full n (dynamic t p v) ≡ true
    dynamic-fits t fit = by (asked p v) refl t fit
      where
        by : (o : Option Asked) → asked p v ≡ o → (t : List (List ℕ)) → seen.is_harmless spots (verdict_of o t (behind done no_instances)) ≡ true
            → (if is_before n (first_named t full) then is_end_fitting p v (end_in kept_layout t all_spots full) else true) ≡ true
        by None asks t fit = if-any (is_before n (first_named t full)) (is_end_fitting p v (end_in kept_layout t all_spots full)) (unasked-end p v (end_in kept_layout t all_spots full) asks)
        by (Some a) asks [] fit = refl
        by (Some a) asks (name ∷ names) fit = first (named name done) refl
          where
            first : (o : Option Instance) → named name done ≡ o → (if is_before n (named name full) then is_end_fitting p v (end_in kept_layout (name ∷ names) all_spots full) else true) ≡ true
            first None there =
                if-none (is_before n (named name full)) (is_end_fitting p v (end_in kept_layout (name ∷ names) all_spots full))
                (ap (is_before n) (ap (named name) split ∙ named-later name done todo there) ∙ not-before n name todo from)
            first (Some i) there =
                if-any (is_before n (named name full)) (is_end_fitting p v (end_in kept_layout (name ∷ names) all_spots full))
                (target-fits a asks name names i there fit (stand_named name all_spots full) refl)

-- ---- All of them.

module _ (d : Items) (none : fault_of d ≡ None) (b : List ℕ) (h : Head) (full : Parts) (is : component d b ≡ Some (record { head = h; parts = full }))
    (fresh : AreFresh full no_instances) (around : Option Kind) (place : List ℕ) where
  abbrev spots_here : Spots
  spots_here = spots_seen (record { head = h; parts = full })

  Fits : ℕ → Items → Type 0
  Fits n t =
      (e : Standing) (done : Parts) → AreAccepted around e place n t → full ≡ joined done (parts e place n t)
      → harmless spots_here t (parts e place n t) (behind done no_instances) ≡ true → are_items_fitting kept_layout h full n t ≡ true

  -- behind an instance
  next-fits : (n : ℕ) (rest : Items) (done : Parts) (at : List ℕ) (s : Shell) (k : Head) (inside : Parts) (e : Standing)
      → full ≡ joined done (part at s k inside (parts e place (suc n) rest)) → harmless spots_here rest (parts e place (suc n) rest) (with_part s k inside (behind done no_instances)) ≡ true
      → ((more : Parts) → full ≡ joined more (parts e place (suc n) rest) → harmless spots_here rest (parts e place (suc n) rest) (behind more no_instances) ≡ true
      → are_items_fitting kept_layout h full (suc n) rest ≡ true)
      → are_items_fitting kept_layout h full (suc n) rest ≡ true
  next-fits n rest done at s k inside e split fit more =
      more (joined done (part at s k inside no_parts)) (split ∙ sym (joined-snoc done at s k inside (parts e place (suc n) rest)))
      (ap (harmless spots_here rest (parts e place (suc n) rest)) (behind-snoc done at s k inside no_instances) ∙ fit)

  items-fit : (n : ℕ) (t : Items) → Fits n t
  unfolding Fits
  items-fit n no_items e done h_is split fit = refl
  items-fit n (plain (named_item s u) rest) e done h_is split fit =
      let first : IsNamed around e u = h_is.0 in
      let m = first.made in
      let same : parts e place n (plain (named_item s u) rest) ≡ part (place ++ n ∷ []) s m.head m.parts (parts e place (suc n) rest) =
      ap (λ o. with_made (place ++ n ∷ []) s o (parts e place (suc n) rest)) first.there in
      next-fits n rest done (place ++ n ∷ []) s m.head m.parts e (split ∙ ap (joined done) same)
      (subst (λ ps. harmless spots_here (plain (named_item s u) rest) ps (behind done no_instances) ≡ true) same fit)
      (λ more split_more fit_more. items-fit (suc n) rest e more h_is.1 split_more fit_more)
  items-fit n (plain (own p x) rest) e done h_is split fit = items-fit (suc n) rest e done h_is.1 split fit
  items-fit n (plain (default p x) rest) e done h_is split fit = items-fit (suc n) rest (scope.after_plain (default p x) e) done h_is.1 split fit
  items-fit n (plain (dynamic t p x) rest) e done h_is split fit =
      let two = both (plain_harmless spots_here (dynamic t p x) (behind done no_instances)) (harmless spots_here rest (parts e place (suc n) rest) (behind done no_instances)) fit in
      and_both (is_item_fitting kept_layout h full n (dynamic t p x)) (are_items_fitting kept_layout h full (suc n) rest)
      (dynamic-fits d none p x b h full is fresh n done (parts e place (suc n) rest) split (parts-from e place n (plain (dynamic t p x) rest)) t two.0)
      (items-fit (suc n) rest e done h_is.1 split two.1)
  items-fit n (holder (define m k) body rest) e done h_is split fit =
      items-fit (suc n) rest (scope.after_holder (define m k) (place ++ n ∷ []) body (parts e (place ++ n ∷ []) 0 body) e) done h_is.2 split fit
  items-fit n (holder (anonymous s k) body rest) e done h_is split fit =
      next-fits n rest done (place ++ n ∷ []) s (head_at (place ++ n ∷ []) k body e) (parts e (place ++ n ∷ []) 0 body) e split fit
      (λ more split_more fit_more. items-fit (suc n) rest e more h_is.2 split_more fit_more)

-- the dynamic assignments of a component
pub all-fit : (d : Items) (a : List ℕ) (c : Made) → fault_of d ≡ None → component d a ≡ Some c
    → harmless (spots_seen c) c.head.body c.parts no_instances ≡ true → are_items_fitting kept_layout c.head c.parts 0 c.head.body ≡ true
unfolding Fits
all-fit d a c none is fit =
    let made = made-accepted d a c none is in
    items-fit d none a c.head c.parts is (all-fresh d a c none is) (Some c.head.kind) made.place 0 c.head.body made.standing no_parts made.accepted made.parts
    (subst (λ ps. harmless (spots_seen c) c.head.body ps no_instances ≡ true) made.parts fit)
