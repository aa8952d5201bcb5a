-- A component with all that it takes from around it is as the searches through whole bodies say.
use Rattle.std.proofs.Common.{◌≡◌, ℕ, zero, suc, ◌+◌, List, [], ◌∷◌, ◌++◌, Some, None, Option, refl, ap, sym, subst, ◌∙◌, arith, append_assoc}
use Rattle.std.specs.Prelude.{option_and_then, slice_get}
use Rattle.std.specs.Option.{option_or}
use Rattle.rdl_tree.specs.ItemAt.{item_at}
use Rattle.rdl_tree.specs.Items.{Items, no_items, plain, holder, Plain, named, own, default, dynamic, Holder, define, anonymous}
use Rattle.rdl_tree.specs.View.{list_of, holder_item}
use Rattle.rdl_tree.specs.Address.{inner, body_at}
use Rattle.rdl_tree.specs.Component.{holder_kind, own_component}
use Rattle.rdl_tree.specs.Properties.{row}
use Rattle.rdl_tree.specs.declared.property.Property.{Property}
use Rattle.rdl_tree.specs.declared.property.Property.TheVariants.{Accesswidth, Regwidth}
use Rattle.rdl_scope.specs.Types.{held_by}
use Rattle.rdl_scope.specs.Value.{nearest_default, component_value, own_value, stated_value, built_in_value}
use Rattle.rdl_scope.specs.Closed.{Made, Standing, lookup, after_plain, after_holder, parts, with_made, before, component_in, standing_at, closed, nothing, component, head_value, stated, built_in, instances, found_part, IsAsFound}
use Rattle.rdl_scope.proofs.StandingBefore.{lookup-component, default-search}

-- what is known where the items from number n on of the body at b are t, and e stands before them
record Here (d : Items) (b : List ℕ) (n : ℕ) (t : Items) (e : Standing) : Type 0 where
  standing : (i : ℕ) → standing_at nothing [] (b ++ (n + i) ∷ []) d ≡ Some (before i e b n t)
  holds : (i : ℕ) → component d (b ++ (n + i) ∷ []) ≡ component_in i e b n t
  items : (i : ℕ) → item_at (b ++ (n + i) ∷ []) d ≡ slice_get (list_of t) i

at_zero : (b : List ℕ) (n : ℕ) → b ++ n ∷ [] ≡ b ++ (n + 0) ∷ []
at_zero b n = let e : n ≡ n + 0 = omega arith in ap (λ k. b ++ k ∷ []) e

at_next : (b : List ℕ) (n i : ℕ) → b ++ (suc n + i) ∷ [] ≡ b ++ (n + suc i) ∷ []
at_next b n i = let e : suc n + i ≡ n + suc i = omega arith in ap (λ k. b ++ k ∷ []) e

next_plain : (d : Items) (b : List ℕ) (n : ℕ) (p : Plain) (rest : Items) (e : Standing) → Here d b n (plain p rest) e → Here d b (suc n) rest (after_plain p e)
next_plain d b n p rest e h = record {
  standing = λ i. ap (λ a. standing_at nothing [] a d) (at_next b n i) ∙ h.standing (suc i);
  holds = λ i. ap (component d) (at_next b n i) ∙ h.holds (suc i);
  items = λ i. ap (λ a. item_at a d) (at_next b n i) ∙ h.items (suc i);
}

next_holder : (d : Items) (b : List ℕ) (n : ℕ) (k : Holder) (body rest : Items) (e : Standing) → Here d b n (holder k body rest) e → Here d b (suc n) rest (after_holder k (b ++ n ∷ []) body (parts e (b ++ n ∷ []) 0 body) e)
next_holder d b n k body rest e h = record {
  standing = λ i. ap (λ a. standing_at nothing [] a d) (at_next b n i) ∙ h.standing (suc i);
  holds = λ i. ap (component d) (at_next b n i) ∙ h.holds (suc i);
  items = λ i. ap (λ a. item_at a d) (at_next b n i) ∙ h.items (suc i);
}

-- the instances of a body are those that the searches find
parts-instances : (d : Items) (b : List ℕ) (n : ℕ) (t : Items) (e : Standing) → Here d b n t e → parts e b n t ≡ instances d b n t
parts-instances d b n no_items e h = refl
parts-instances d b n (plain (named s t) rest) e h =
    let more = parts-instances d b (suc n) rest e (next_plain d b n (named s t) rest e h) in
    let stands : standing_at nothing [] (b ++ n ∷ []) d ≡ Some e = ap (λ a. standing_at nothing [] a d) (at_zero b n) ∙ h.standing 0 in
    let of = ap (λ a. item_at a d) (at_zero b n) ∙ h.items 0 in
    ap (λ o. with_made (b ++ n ∷ []) s o (parts e b (suc n) rest)) (lookup-component t (b ++ n ∷ []) d e stands ∙ ap (λ o. option_and_then (component d) (option_and_then (held_by d (b ++ n ∷ [])) o)) (sym of))
    ∙ ap (found_part d (b ++ n ∷ []) s) more
parts-instances d b n (plain (own p v) rest) e h = parts-instances d b (suc n) rest e (next_plain d b n (own p v) rest e h)
parts-instances d b n (plain (default p v) rest) e h = parts-instances d b (suc n) rest (after_plain (default p v) e) (next_plain d b n (default p v) rest e h)
parts-instances d b n (plain (dynamic t p v) rest) e h = parts-instances d b (suc n) rest e (next_plain d b n (dynamic t p v) rest e h)
parts-instances d b n (holder (define m k) body rest) e h = parts-instances d b (suc n) rest (after_holder (define m k) (b ++ n ∷ []) body (parts e (b ++ n ∷ []) 0 body) e) (next_holder d b n (define m k) body rest e h)
parts-instances d b n (holder (anonymous s k) body rest) e h =
    let more = parts-instances d b (suc n) rest e (next_holder d b n (anonymous s k) body rest e h) in
    let of = ap (λ a. item_at a d) (at_zero b n) ∙ h.items 0 in
    let made = ap (component d) (at_zero b n) ∙ h.holds 0 in
    ap (λ o. with_made (b ++ n ∷ []) s o (parts e b (suc n) rest)) (sym made ∙ ap (λ o. option_and_then (component d) (option_and_then (held_by d (b ++ n ∷ [])) o)) (sym of))
    ∙ ap (found_part d (b ++ n ∷ []) s) more

-- item k of a body, with what stands before it
record Within (e : Standing) (b : List ℕ) (n k : ℕ) (t : Items) (m : Made) : Type 0 where
  body : inner k t ≡ Some m.head.body
  own : option_and_then own_component (slice_get (list_of t) k) ≡ Some (record { kind = m.head.kind; body = m.head.body })
  parts : m.parts ≡ parts (before k e b n t) (b ++ (n + k) ∷ []) 0 m.head.body
  place : m.head.at ≡ b ++ (n + k) ∷ []
  defaults : m.head.defaults ≡ (before k e b n t).defaults

own_held : (h : Holder) (body : Items) → own_component (holder_item h body) ≡ Some (record { kind = holder_kind h; body = body })
own_held (define n k) body = refl
own_held (anonymous s k) body = refl

within-made : (e : Standing) (b : List ℕ) (n k : ℕ) (t : Items) (m : Made) → component_in k e b n t ≡ Some m → Within e b n k t m
within-made e b n k no_items m h = cc
within-made e b n zero (plain p rest) m h = cc
within-made e b n zero (holder k body rest) m h =
    let same : ◌≡◌ {A = Made} (record { head = record { at = b ++ n ∷ []; kind = holder_kind k; body = body; defaults = e.defaults }; parts = parts e (b ++ n ∷ []) 0 body }) m = cc in
    subst (λ x. Within e b n 0 (holder k body rest) x) same (record { body = refl; own = own_held k body; parts = ap (λ a. parts e a 0 body) (at_zero b n); place = at_zero b n; defaults = refl })
within-made e b n (suc k) (plain p rest) m h =
    let w = within-made (after_plain p e) b (suc n) k rest m h in
    record { body = w.body; own = w.own; parts = w.parts ∙ ap (λ a. parts (before k (after_plain p e) b (suc n) rest) a 0 m.head.body) (at_next b n k); place = w.place ∙ at_next b n k; defaults = w.defaults }
within-made e b n (suc k) (holder j body rest) m h =
    let next = after_holder j (b ++ n ∷ []) body (parts e (b ++ n ∷ []) 0 body) e in
    let w = within-made next b (suc n) k rest m h in
    record { body = w.body; own = w.own; parts = w.parts ∙ ap (λ a. parts (before k next b (suc n) rest) a 0 m.head.body) (at_next b n k); place = w.place ∙ at_next b n k; defaults = w.defaults }

-- what is known where e stands before the body at b, which is t
record Agrees (d : Items) (b : List ℕ) (e : Standing) (t : Items) : Type 0 where
  standing : (i : ℕ) (c : List ℕ) → standing_at nothing [] (b ++ i ∷ c) d ≡ standing_at e b (i ∷ c) t
  holds : (i : ℕ) (c : List ℕ) → component d (b ++ i ∷ c) ≡ closed e b (i ∷ c) t
  items : (i : ℕ) (c : List ℕ) → item_at (b ++ i ∷ c) d ≡ item_at (i ∷ c) t
  bodies : (i : ℕ) (c : List ℕ) → body_at (b ++ i ∷ c) d ≡ body_at (i ∷ c) t

agrees-inside : (d : Items) (b : List ℕ) (e : Standing) (t : Items) (k : ℕ) (body : Items) → Agrees d b e t → inner k t ≡ Some body → Agrees d (b ++ k ∷ []) (before k e b 0 t) body
agrees-inside d b e t k body g h = record {
  standing = λ i c. ap (λ a. standing_at nothing [] a d) (append_assoc b (k ∷ []) (i ∷ c)) ∙ g.standing k (i ∷ c) ∙ ap (option_and_then (standing_at (before k e b 0 t) (b ++ k ∷ []) (i ∷ c))) h;
  holds = λ i c. ap (component d) (append_assoc b (k ∷ []) (i ∷ c)) ∙ g.holds k (i ∷ c) ∙ ap (option_and_then (closed (before k e b 0 t) (b ++ k ∷ []) (i ∷ c))) h;
  items = λ i c. ap (λ a. item_at a d) (append_assoc b (k ∷ []) (i ∷ c)) ∙ g.items k (i ∷ c) ∙ ap (option_and_then (item_at (i ∷ c))) h;
  bodies = λ i c. ap (λ a. body_at a d) (append_assoc b (k ∷ []) (i ∷ c)) ∙ g.bodies k (i ∷ c) ∙ ap (option_and_then (body_at (i ∷ c))) h;
}

here-first : (d : Items) (b : List ℕ) (e : Standing) (t : Items) → Agrees d b e t → Here d b 0 t e
here-first d b e t g = record {
  standing = λ i. let z : 0 + i ≡ i = omega arith in ap (λ k. standing_at nothing [] (b ++ k ∷ []) d) z ∙ g.standing i [];
  holds = λ i. let z : 0 + i ≡ i = omega arith in ap (λ k. component d (b ++ k ∷ [])) z ∙ g.holds i [];
  items = λ i. let z : 0 + i ≡ i = omega arith in ap (λ k. item_at (b ++ k ∷ []) d) z ∙ g.items i [];
}

or-none : {X : Type 0} (o : Option X) → option_or o None ≡ o
or-none None = refl
or-none (Some x) = refl

as_found-one : (d : Items) (b : List ℕ) (e : Standing) (t : Items) (k : ℕ) (m : Made) → Agrees d b e t → component_in k e b 0 t ≡ Some m → IsAsFound d (b ++ k ∷ []) m
as_found-one d b e t k m g h =
    let w = within-made e b 0 k t m h in
    let z : 0 + k ≡ k = omega arith in
    let inside = agrees-inside d b e t k m.head.body g w.body in
    record {
      place = w.place ∙ ap (λ j. b ++ j ∷ []) z;
      body = g.bodies k [] ∙ ap (option_and_then (body_at [])) w.body;
      component = ap (option_and_then own_component) (g.items k []) ∙ w.own;
      parts = w.parts ∙ ap (λ j. parts (before k e b 0 t) (b ++ j ∷ []) 0 m.head.body) z ∙ parts-instances d (b ++ k ∷ []) 0 m.head.body (before k e b 0 t) (here-first d (b ++ k ∷ []) (before k e b 0 t) m.head.body inside);
      defaults = λ p. ap (lookup p) w.defaults ∙ default-search p (b ++ k ∷ []) nothing [] d (before k e b 0 t) (g.standing k []) ∙ or-none (nearest_default (b ++ k ∷ []) d p);
    }

as_found-from : (d : Items) (a b : List ℕ) (e : Standing) (t : Items) (m : Made) → Agrees d b e t → closed e b a t ≡ Some m → IsAsFound d (b ++ a) m
as_found-from d [] b e t m g h = cc
as_found-from d (k ∷ []) b e t m g h = as_found-one d b e t k m g h
as_found-from d (k ∷ j ∷ a) b e t m g h = into (λ body. as_found-from d (j ∷ a) (b ++ k ∷ []) (before k e b 0 t) body m) (inner k t) refl h
  where
    into : ((body : Items) → Agrees d (b ++ k ∷ []) (before k e b 0 t) body → closed (before k e b 0 t) (b ++ k ∷ []) (j ∷ a) body ≡ Some m → IsAsFound d ((b ++ k ∷ []) ++ j ∷ a) m)
        → (o : Option Items) → inner k t ≡ o → option_and_then (closed (before k e b 0 t) (b ++ k ∷ []) (j ∷ a)) o ≡ Some m → IsAsFound d (b ++ k ∷ j ∷ a) m
    into ih None i h = cc
    into ih (Some body) i h = subst (λ c. IsAsFound d c m) (append_assoc b (k ∷ []) (j ∷ a)) (ih body (agrees-inside d b e t k body g i) h)

root-agrees : (d : Items) → Agrees d [] nothing d
root-agrees d = record { standing = λ i c. refl; holds = λ i c. refl; items = λ i c. refl; bodies = λ i c. refl }

pub as_found : (d : Items) (a : List ℕ) (m : Made) → component d a ≡ Some m → IsAsFound d a m
as_found d a m h = as_found-from d a [] nothing d m (root-agrees d) h

-- values in the words of the searches
stated-found : (d : Items) (a : List ℕ) (m : Made) → IsAsFound d a m → (name : List ℕ) → stated m.head name ≡ stated_value d a name
stated-found d a m f name = λ i. option_or ((ap (option_and_then (own_value name)) (sym f.body)) i) (f.defaults name i)

by-property : (m : Made) (d : Items) (a : List ℕ) → ((name : List ℕ) → stated m.head name ≡ stated_value d a name) → (p : Property) → built_in m.head p ≡ built_in_value d a p
by-property m d a h Accesswidth = ap (λ o. option_or o (row Regwidth).built_in) (h (row Regwidth).name)
by-property m d a h p = refl

pub value-found : (d : Items) (a : List ℕ) (m : Made) → component d a ≡ Some m → head_value m.head ≡ component_value d a
value-found d a m h =
    let s = stated-found d a m (as_found d a m h) in
    λ i p. option_or (s (row p).name i) (by-property m d a s p i)
