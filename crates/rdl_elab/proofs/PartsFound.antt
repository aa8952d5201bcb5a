-- The instances of a component are as the searches find them.
use Rattle.std.proofs.Common.{◌≡◌, ℕ, suc, ◌+◌, List, [], ◌∷◌, ◌++◌, Some, None, Option, refl, ap, ◌∙◌, sym, arith}
use Rattle.std.specs.Prelude.{option_and_then, slice_get}
use Rattle.rdl_tree.specs.ItemAt.{item_at}
use Rattle.rdl_tree.specs.Items.{Items, no_items, plain, holder, named, own, default, dynamic, define, anonymous}
use Rattle.rdl_tree.specs.View.{list_of}
use Rattle.rdl_tree.specs.Address.{inner, body_at}
use Rattle.rdl_tree.specs.declared.shell.Shell.{Shell}
use Rattle.rdl_tree.specs.declared.description.Item.TheVariants.{Instance}
use Rattle.rdl_tree.specs.declared.description.Of.{Of}
use Rattle.rdl_tree.specs.declared.description.Of.TheVariants.{Named, Anonymous}
use Rattle.rdl_scope.specs.Types.{component_of}
use Rattle.rdl_scope.specs.Target.{body_of}
use Rattle.rdl_scope.specs.Closed.{Head, Parts, no_parts, part, Made, component, instances, with_made}
use Rattle.rdl_scope.proofs.AsFound.{as_found}
use Rattle.rdl_elab.specs.Found.{ArePartsFound}

body_of-item : (b : List ℕ) (n : ℕ) → body_of (b ++ n ∷ []) ≡ b
body_of-item [] n = refl
body_of-item (k ∷ []) n = refl
body_of-item (k ∷ j ∷ b) n = ap (λ x. k ∷ x) (body_of-item (j ∷ b) n)

-- the items of the body at b from number n on are t
abbrev Lies : Items → List ℕ → ℕ → Items → Type 0
Lies d b n t = (i : ℕ) → item_at (b ++ (n + i) ∷ []) d ≡ slice_get (list_of t) i

lies-next : (d : Items) (b : List ℕ) (n : ℕ) (t rest : Items) → ((i : ℕ) → slice_get (list_of t) (suc i) ≡ slice_get (list_of rest) i) → Lies d b n t → Lies d b (suc n) rest
lies-next d b n t rest more l i = let e : suc n + i ≡ n + suc i = omega arith in ap (λ k. item_at (b ++ k ∷ []) d) e ∙ l (suc i) ∙ more i

lies-first : (d : Items) (b : List ℕ) (n : ℕ) (t : Items) → Lies d b n t → item_at (b ++ n ∷ []) d ≡ slice_get (list_of t) 0
lies-first d b n t l = let e : n ≡ n + 0 = omega arith in ap (λ k. item_at (b ++ k ∷ []) d) e ∙ l 0

pub item-here : (b : List ℕ) (d body : Items) (k : ℕ) → body_at b d ≡ Some body → item_at (b ++ k ∷ []) d ≡ slice_get (list_of body) k
item-here [] d body k h = let same : d ≡ body = cc in ap (λ t. slice_get (list_of t) k) same
item-here (j ∷ []) d body k h = into (λ t. item-here [] t body k) (inner j d) refl h
  where
    into : ((t : Items) → body_at [] t ≡ Some body → item_at (k ∷ []) t ≡ slice_get (list_of body) k)
        → (o : Option Items) → inner j d ≡ o → option_and_then (body_at []) o ≡ Some body → option_and_then (item_at (k ∷ [])) (inner j d) ≡ slice_get (list_of body) k
    into ih None e g = cc
    into ih (Some t) e g = ap (option_and_then (item_at (k ∷ []))) e ∙ ih t g
item-here (j ∷ i ∷ b) d body k h = into (λ t. item-here (i ∷ b) t body k) (inner j d) refl h
  where
    into : ((t : Items) → body_at (i ∷ b) t ≡ Some body → item_at (i ∷ (b ++ k ∷ [])) t ≡ slice_get (list_of body) k)
        → (o : Option Items) → inner j d ≡ o → option_and_then (body_at (i ∷ b)) o ≡ Some body → option_and_then (item_at (i ∷ (b ++ k ∷ []))) (inner j d) ≡ slice_get (list_of body) k
    into ih None e g = cc
    into ih (Some t) e g = ap (option_and_then (item_at (i ∷ (b ++ k ∷ [])))) e ∙ ih t g

lies-body : (d : Items) (a : List ℕ) (body : Items) → body_at a d ≡ Some body → Lies d a 0 body
lies-body d a body h i = let e : 0 + i ≡ i = omega arith in ap (λ k. item_at (a ++ k ∷ []) d) e ∙ item-here a d body i h

-- these instances, if they are those that the searches find in a body, are as found
abbrev Finds : Items → Parts → Type 0
Finds d ps = (b : List ℕ) (n : ℕ) (t : Items) → Lies d b n t → ps ≡ instances d b n t → ArePartsFound d b ps

-- one instance, by what the searches find of its type
found-one : (d : Items) (b : List ℕ) (n : ℕ) (rest : Items) (z : Shell) (of : Of) (at : List ℕ) (s : Shell) (h : Head) (inside more : Parts)
    → Finds d inside → Finds d more → Lies d b (suc n) rest → item_at (b ++ n ∷ []) d ≡ Some (Instance z of)
    → (part at s h inside more ≡ instances d b (suc n) rest → ArePartsFound d b (part at s h inside more))
    → part at s h inside more ≡ with_made (b ++ n ∷ []) z (option_and_then (component d) (component_of d (b ++ n ∷ []))) (instances d b (suc n) rest)
    → ArePartsFound d b (part at s h inside more)
found-one d b n rest z of at s h inside more deep next l i skip e = by (component_of d (b ++ n ∷ [])) refl e
  where
    made : (x : List ℕ) → component_of d (b ++ n ∷ []) ≡ Some x → (o : Option Made) → component d x ≡ o → part at s h inside more ≡ with_made (b ++ n ∷ []) z o (instances d b (suc n) rest) → ArePartsFound d b (part at s h inside more)
    made x leads None c e = skip e
    made x leads (Some m) c e =
        let f = as_found d x m c in
        let at_is : b ++ n ∷ [] ≡ at = cc in
        let shell_is : z ≡ s = cc in
        let head_is : m.head ≡ h = cc in
        let inside_is : m.parts ≡ inside = cc in
        let more_is : more ≡ instances d b (suc n) rest = cc in
        let place : x ≡ h.at = sym f.place ∙ ap (λ (h : Head). h.at) head_is in
        let there : component d h.at ≡ Some (record { head = h; parts = inside }) = ap (component d) (sym place) ∙ c ∙ (λ i. Some (record { head = head_is i; parts = inside_is i })) in
        let g = as_found d h.at (record { head = h; parts = inside }) there in (
          record {
            around = ap body_of (sym at_is) ∙ body_of-item b n;
            of = of;
            instance = ap (λ a. item_at a d) (sym at_is) ∙ i ∙ ap (λ s. Some (Instance s of)) shell_is;
            is = ap (component_of d) (sym at_is) ∙ leads ∙ ap Some place;
            component = there;
          },
          deep h.at 0 h.body (lies-body d h.at h.body g.body) g.parts,
          next b (suc n) rest l more_is,
        )

    by : (o : Option (List ℕ)) → component_of d (b ++ n ∷ []) ≡ o → part at s h inside more ≡ with_made (b ++ n ∷ []) z (option_and_then (component d) o) (instances d b (suc n) rest) → ArePartsFound d b (part at s h inside more)
    by None leads e = skip e
    by (Some x) leads e = made x leads (component d x) refl e

found-among : (d : Items) (at : List ℕ) (s : Shell) (h : Head) (inside more : Parts) → Finds d inside → Finds d more
    → (t : Items) (b : List ℕ) (n : ℕ) → Lies d b n t → part at s h inside more ≡ instances d b n t → ArePartsFound d b (part at s h inside more)
found-among d at s h inside more deep next no_items b n l e = cc
found-among d at s h inside more deep next (plain (named z t) rest) b n l e =
    let later = lies-next d b n (plain (named z t) rest) rest (λ i. refl) l in
    found-one d b n rest z (Named t) at s h inside more deep next later (lies-first d b n (plain (named z t) rest) l) (found-among d at s h inside more deep next rest b (suc n) later) e
found-among d at s h inside more deep next (plain (own p v) rest) b n l e = found-among d at s h inside more deep next rest b (suc n) (lies-next d b n (plain (own p v) rest) rest (λ i. refl) l) e
found-among d at s h inside more deep next (plain (default p v) rest) b n l e = found-among d at s h inside more deep next rest b (suc n) (lies-next d b n (plain (default p v) rest) rest (λ i. refl) l) e
found-among d at s h inside more deep next (plain (dynamic t p v) rest) b n l e = found-among d at s h inside more deep next rest b (suc n) (lies-next d b n (plain (dynamic t p v) rest) rest (λ i. refl) l) e
found-among d at s h inside more deep next (holder (define m k) body rest) b n l e = found-among d at s h inside more deep next rest b (suc n) (lies-next d b n (holder (define m k) body rest) rest (λ i. refl) l) e
found-among d at s h inside more deep next (holder (anonymous z k) body rest) b n l e =
    let later = lies-next d b n (holder (anonymous z k) body rest) rest (λ i. refl) l in
    found-one d b n rest z (Anonymous (record { kind = k; body = body })) at s h inside more deep next later (lies-first d b n (holder (anonymous z k) body rest) l) (found-among d at s h inside more deep next rest b (suc n) later) e

found-all : (d : Items) (ps : Parts) → Finds d ps
found-all d no_parts b n t l e = tt
found-all d (part at s h inside more) b n t l e = found-among d at s h inside more (found-all d inside) (found-all d more) t b n l e

pub parts-found : (d : Items) (a : List ℕ) (c : Made) → component d a ≡ Some c → ArePartsFound d a c.parts
parts-found d a c h =
    let f = as_found d a c h in
    found-all d c.parts a 0 c.head.body (lies-body d a c.head.body f.body) f.parts
