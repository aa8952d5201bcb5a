-- What a walk knows of the definitions around an item is what the search through whole bodies finds.
use Rattle.std.proofs.Common.{◌≡◌, ℕ, suc, ◌+◌, ◌<◌, cond, List, [], ◌∷◌, ◌++◌, length, get_or, Some, None, Option, refl, ap, sym, ◌∙◌, arith, option_map}
use Rattle.std.specs.Prelude.{option_and_then, slice_get}
use Rattle.std.specs.Option.{option_or}
use Rattle.rdl_tree.specs.ItemAt.{item_at}
use Rattle.rdl_tree.specs.Items.{Items}
use Rattle.rdl_tree.specs.View.{list_of, own_body}
use Rattle.rdl_tree.specs.Address.{inner, body_at}
use Rattle.rdl_tree.specs.Component.{own_component}
use Rattle.rdl_tree.specs.declared.description.Component.{Component}
use Rattle.rdl_tree.specs.declared.description.Item.{Item}
use Rattle.rdl_tree.specs.declared.description.Item.TheVariants.{Define, Instance, Own, Default, Dynamic}
use Rattle.rdl_tree.specs.declared.description.Of.TheVariants.{Named, Anonymous}
use Rattle.rdl_tree.proofs.Rounds.{inner-slice_get}
use Rattle.rdl_scope.specs.Types.{last_definition}
use Rattle.rdl_scope.specs.Walk.{found, below, is_definition}
use Rattle.rdl_scope.proofs.Searches.{last-suc}
use Rattle.std.proofs.lemmas.Option.{slice_get_read}
use Rattle.rdl_scope.specs.declared.names.Names.{Names}
use Rattle.rdl_scope.specs.Scopes.{number_under, level_found, scope_found}

or-assoc : {X : Type 0} (a b c : Option X) → option_or (option_or a b) c ≡ option_or a (option_or b c)
or-assoc None b c = refl
or-assoc (Some x) b c = refl

or-none : {X : Type 0} (a : Option X) → option_or a None ≡ a
or-none None = refl
or-none (Some x) = refl

-- one level more
level-push-from : (d : ℕ) (ms : List Names) (m : Names) (q : List ℕ) → level_found d (ms ++ m ∷ []) q ≡ option_or (option_map (λ k. (d + length ms, k)) (number_under m q)) (level_found d ms q)
level-push-from d [] m q =
    let e : d ≡ d + 0 = omega arith in
    ap (λ n. option_map (λ k. (n, k)) (number_under m q)) e ∙ sym (or-none (option_map (λ k. (d + 0, k)) (number_under m q)))
level-push-from d (x ∷ ms) m q =
    let e : suc d + length ms ≡ d + length (x ∷ ms) = omega arith in
    ap (λ o. option_or o (option_map (λ k. (d, k)) (number_under x q))) (level-push-from (suc d) ms m q)
    ∙ or-assoc (option_map (λ k. (suc d + length ms, k)) (number_under m q)) (level_found (suc d) ms q) (option_map (λ k. (d, k)) (number_under x q))
    ∙ ap (λ n. option_or (option_map (λ k. (n, k)) (number_under m q)) (level_found d (x ∷ ms) q)) e

pub level-push : (ms : List Names) (m : Names) (q : List ℕ) → level_found 0 (ms ++ m ∷ []) q ≡ scope_found ms m q
level-push ms m q =
    let e : 0 + length ms ≡ length ms = omega arith in
    level-push-from 0 ms m q ∙ ap (λ n. option_or (option_map (λ k. (n, k)) (number_under m q)) (level_found 0 ms q)) e

pub level_last : (levels ms : List Names) (m : Names) (q : List ℕ) → levels ≡ ms ++ m ∷ [] → level_found 0 levels q ≡ scope_found ms m q
level_last levels ms m q e = ap (λ ls. level_found 0 ls q) e ∙ level-push ms m q

-- one body deeper
no_inner : (o : Option Items) (q : List ℕ) → option_and_then (λ b. found [] b q) o ≡ None
no_inner None q = refl
no_inner (Some b) q = refl

map-or : (a b : Option (ℕ × ℕ)) → option_map below (option_or a b) ≡ option_or (option_map below a) (option_map below b)
map-or None b = refl
map-or (Some x) b = refl

map-below : (d : ℕ) (o : Option ℕ) → option_map below (option_map (λ k. (d, k)) o) ≡ option_map (λ k. (suc d, k)) o
map-below d None = refl
map-below d (Some k) = refl

pub found-deeper : (b : List ℕ) (n : ℕ) (d body : Items) (q : List ℕ) → body_at b d ≡ Some body → found (b ++ n ∷ []) d q ≡ option_or (option_map (λ k. (length b, k)) (last_definition q n body)) (found b d q)
found-deeper [] n d body q e =
    let same : d ≡ body = cc in
    ap (λ o. option_or (option_map below o) (option_map (λ k. (0, k)) (last_definition q n d))) (no_inner (inner n d) q)
    ∙ ap (λ t. option_map (λ k. (0, k)) (last_definition q n t)) same ∙ sym (or-none (option_map (λ k. (0, k)) (last_definition q n body)))
found-deeper (i ∷ b) n d body q e = into (λ t. found-deeper b n t body q) (inner i d) refl e
  where
    into : ((t : Items) → body_at b t ≡ Some body → found (b ++ n ∷ []) t q ≡ option_or (option_map (λ k. (length b, k)) (last_definition q n body)) (found b t q))
        → (o : Option Items) → inner i d ≡ o → option_and_then (body_at b) o ≡ Some body
        → found (i ∷ b ++ n ∷ []) d q ≡ option_or (option_map (λ k. (length (i ∷ b), k)) (last_definition q n body)) (found (i ∷ b) d q)
    into ih None g h = cc
    into ih (Some t) g h =
        ap (λ o. option_or (option_map below (option_and_then (λ t. found (b ++ n ∷ []) t q) o)) (option_map (λ k. (0, k)) (last_definition q i d))) g
        ∙ ap (λ o. option_or (option_map below o) (option_map (λ k. (0, k)) (last_definition q i d))) (ih t h)
        ∙ ap (λ o. option_or o (option_map (λ k. (0, k)) (last_definition q i d))) (map-or (option_map (λ k. (length b, k)) (last_definition q n body)) (found b t q) ∙ ap (λ o. option_or o (option_map below (found b t q))) (map-below (length b) (last_definition q n body)))
        ∙ or-assoc (option_map (λ k. (length (i ∷ b), k)) (last_definition q n body)) (option_map below (found b t q)) (option_map (λ k. (0, k)) (last_definition q i d))
        ∙ ap (λ o. option_or (option_map (λ k. (length (i ∷ b), k)) (last_definition q n body)) (option_or (option_map below (option_and_then (λ t. found b t q) o)) (option_map (λ k. (0, k)) (last_definition q i d)))) (sym g)

-- the scope of item n of a body, from that of the body
pub scope-found : (levels : List Names) (m : Names) (b : List ℕ) (n : ℕ) (d body : Items) (q : List ℕ) → body_at b d ≡ Some body → length levels ≡ length b → level_found 0 levels q ≡ found b d q → number_under m q ≡ last_definition q n body
    → scope_found levels m q ≡ found (b ++ n ∷ []) d q
scope-found levels m b n d body q e h around here =
    ap (λ l. option_or (option_map (λ k. (l, k)) (number_under m q)) (level_found 0 levels q)) h
    ∙ ap (λ o. option_or (option_map (λ k. (length b, k)) o) (level_found 0 levels q)) here
    ∙ ap (option_or (option_map (λ k. (length b, k)) (last_definition q n body))) around
    ∙ sym (found-deeper b n d body q e)

-- the item of a number, and the body inside it
pub item-deeper : (b : List ℕ) (n : ℕ) (d body : Items) → body_at b d ≡ Some body → item_at (b ++ n ∷ []) d ≡ slice_get (list_of body) n
item-deeper [] n d body e = let same : d ≡ body = cc in ap (λ t. slice_get (list_of t) n) same
item-deeper (i ∷ []) n d body e = into (inner i d) refl e
  where
    into : (o : Option Items) → inner i d ≡ o → option_and_then (body_at []) o ≡ Some body → option_and_then (item_at (n ∷ [])) (inner i d) ≡ slice_get (list_of body) n
    into None g h = cc
    into (Some t) g h = let same : t ≡ body = cc in ap (option_and_then (item_at (n ∷ []))) g ∙ ap (λ t. slice_get (list_of t) n) same
item-deeper (i ∷ j ∷ b) n d body e = into (λ t. item-deeper (j ∷ b) n t body) (inner i d) refl e
  where
    into : ((t : Items) → body_at (j ∷ b) t ≡ Some body → item_at (j ∷ b ++ n ∷ []) t ≡ slice_get (list_of body) n) → (o : Option Items) → inner i d ≡ o → option_and_then (body_at (j ∷ b)) o ≡ Some body
        → option_and_then (item_at (j ∷ b ++ n ∷ [])) (inner i d) ≡ slice_get (list_of body) n
    into ih None g h = cc
    into ih (Some t) g h = ap (option_and_then (item_at (j ∷ b ++ n ∷ []))) g ∙ ih t h

pub body-deeper : (b : List ℕ) (n : ℕ) (d body : Items) → body_at b d ≡ Some body → body_at (b ++ n ∷ []) d ≡ inner n body
body-deeper [] n d body e = let same : d ≡ body = cc in into (inner n d) ∙ ap (inner n) same
  where
    into : (o : Option Items) → option_and_then (body_at []) o ≡ o
    into None = refl
    into (Some t) = refl
body-deeper (i ∷ b) n d body e = into (λ t. body-deeper b n t body) (inner i d) refl e
  where
    into : ((t : Items) → body_at b t ≡ Some body → body_at (b ++ n ∷ []) t ≡ inner n body) → (o : Option Items) → inner i d ≡ o → option_and_then (body_at b) o ≡ Some body
        → option_and_then (body_at (b ++ n ∷ [])) (inner i d) ≡ inner n body
    into ih None g h = cc
    into ih (Some t) g h = ap (option_and_then (body_at (b ++ n ∷ []))) g ∙ ih t h

own-inside : (x : Item) (c : Component) → own_component x ≡ Some c → own_body x ≡ Some c.body
own-inside (Define m k) c e = let same : k ≡ c = cc in ap (λ (z : Component). Some z.body) same
own-inside (Instance s (Named t)) c e = cc
own-inside (Instance s (Anonymous k)) c e = let same : k ≡ c = cc in ap (λ (z : Component). Some z.body) same
own-inside (Own p v) c e = cc
own-inside (Default p v) c e = cc
own-inside (Dynamic t p v) c e = cc

pub body-inside : (b : List ℕ) (n : ℕ) (d body : Items) (x : Item) (c : Component) → body_at b d ≡ Some body → slice_get (list_of body) n ≡ Some x → own_component x ≡ Some c → body_at (b ++ n ∷ []) d ≡ Some c.body
body-inside b n d body x c e got own = body-deeper b n d body e ∙ inner-slice_get n body ∙ ap (option_and_then own_body) got ∙ own-inside x c own

-- the item that a loop is at
pub item_got : (body : Items) (i : ℕ) (xs : List Item) (x : Item) → xs ≡ list_of body → i < length xs → x ≡ get_or xs i x → slice_get (list_of body) i ≡ Some x
item_got body i xs x e h is = ap (λ ys. slice_get ys i) (sym e) ∙ slice_get_read xs (length xs) i x refl h is

-- one definition more
pub definition-next : (q : List ℕ) (i : ℕ) (body : Items) (x : Item) (old new : Option ℕ) → slice_get (list_of body) i ≡ Some x → old ≡ last_definition q i body → new ≡ cond (is_definition q (Some x)) (Some i) old → new ≡ last_definition q (i + 1) body
definition-next q i body x old new got e h =
    let j : suc i ≡ i + 1 = omega arith in
    h ∙ ap (λ o. cond (is_definition q (Some x)) (Some i) o) e ∙ ap (λ o. cond (is_definition q o) (Some i) (last_definition q i body)) (sym got) ∙ sym (last-suc q i body) ∙ ap (λ n. last_definition q n body) j
