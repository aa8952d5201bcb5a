-- What is known of an item at an address, once the body that holds it is lent.
use Rattle.std.proofs.Common.{◌≡◌, ℕ, ◌<◌, List, [], ◌∷◌, length, Option, Some, None, ap, sym, ◌∙◌, subst}
use Rattle.std.specs.Prelude.{slice_get, is_some, IsTrue, IsSomeAnd, option_map}
use Rattle.rdl_tree.specs.Items.{Items}
use Rattle.rdl_tree.specs.View.{list_of}
use Rattle.rdl_tree.specs.Address.{holder_of, number_of, body_at, map_body}
use Rattle.rdl_tree.specs.ItemAt.{item_at}
use Rattle.rdl_tree.specs.Part.{has_part, part_of, part_at}
use Rattle.rdl_tree.specs.Patch.{has_part_of, insert_again, exchange_again}
use Rattle.rdl_tree.specs.declared.description.Item.{Item}
use Rattle.rdl_tree.specs.declared.part.Part.{Part}
use Rattle.rdl_tree.specs.declared.patch.Patch.TheVariants.{Insert, Exchange}
use Rattle.rdl_tree.proofs.Changes.{map_body-cong, map_body-same}
use Rattle.rdl_tree.proofs.Edits.{get-within}
use Rattle.rdl_tree.proofs.Places.{stands, the_item}
use Rattle.rdl_tree.proofs.Undone.{part_in}

-- a change of the body that was lent
pub changed_at : (f : ℕ → Items → Items) (at p : List ℕ) (n : ℕ) (t b c : Items) → p ≡ holder_of at → n ≡ number_of at → body_at p t ≡ Some b → c ≡ f n b → map_body p (λ _. c) t ≡ map_body (holder_of at) (f (number_of at)) t
changed_at f at p n t b c e k h g =
    map_body-cong p (λ _. c) (f n) t b h g ∙ ap (λ q. map_body q (f n) t) e ∙ ap (λ m. map_body (holder_of at) (f m) t) k

-- the item in the body that was lent
pub lent_item : (at p : List ℕ) (n : ℕ) (t b : Items) (x : Item) → item_at at t ≡ Some x → p ≡ holder_of at → n ≡ number_of at → body_at p t ≡ Some b → slice_get (list_of b) n ≡ Some x
lent_item at p n t b x e h k g =
    let s = stands at t x e in
    let same : s.body ≡ b = (let whole : Some s.body ≡ Some b = sym s.held ∙ ap (λ q. body_at q t) (sym h) ∙ g in cc) in
    ap (λ m. slice_get (list_of b) m) k ∙ ap (λ c. slice_get (list_of c) (number_of at)) (sym same) ∙ s.found

pub lent_within : (at p : List ℕ) (n : ℕ) (t b : Items) → IsTrue (is_some (item_at at t)) → p ≡ holder_of at → n ≡ number_of at → body_at p t ≡ Some b → n < length (list_of b)
lent_within at p n t b e h k g =
    let x = the_item (item_at at t) e in get-within (list_of b) n x.0 (lent_item at p n t b x.0 x.1 h k g)

pub lent_part : (part : Part) (at p : List ℕ) (n : ℕ) (t b : Items) → IsTrue (has_part_of part (item_at at t)) → p ≡ holder_of at → n ≡ number_of at → body_at p t ≡ Some b → IsSomeAnd (slice_get (list_of b) n) (λ item. IsTrue (has_part part item))
lent_part part at p n t b e h k g =
    let x = part_in part (item_at at t) e in
    subst (λ (o : Option Item). IsSomeAnd o (λ item. IsTrue (has_part part item))) (sym (lent_item at p n t b x.0 x.1 h k g)) x.2

-- there is a body that holds it
pub no_holder : (at p : List ℕ) (t : Items) → IsTrue (is_some (item_at at t)) → p ≡ holder_of at → body_at p t ≡ None → ⊥
no_holder at p t e h g =
    let x = the_item (item_at at t) e in
    let s = stands at t x.0 x.1 in
    let both : Some s.body ≡ None = sym s.held ∙ ap (λ q. body_at q t) (sym h) ∙ g in cc

pub no_holder_of_part : (part : Part) (at p : List ℕ) (t : Items) → IsTrue (has_part_of part (item_at at t)) → p ≡ holder_of at → body_at p t ≡ None → ⊥
no_holder_of_part part at p t e h g =
    let x = part_in part (item_at at t) e in no_holder at p t (ap is_some x.1) h g

-- what was taken out of it is the item at the address
pub again_there : (at p : List ℕ) (n : ℕ) (t b : Items) (x : Item) → IsTrue (is_some (item_at at t)) → p ≡ holder_of at → n ≡ number_of at → body_at p t ≡ Some b → slice_get (list_of b) n ≡ Some x → insert_again at (item_at at t) ≡ Insert at x ∷ []
again_there at p n t b x e h k g f =
    let y = the_item (item_at at t) e in
    let same : y.0 ≡ x = (let whole : Some y.0 ≡ Some x = sym (lent_item at p n t b y.0 y.1 h k g) ∙ f in cc) in
    ap (insert_again at) y.1 ∙ ap (λ z. Insert at z ∷ []) same

pub again_part : (part old : Part) (at p : List ℕ) (n : ℕ) (t b : Items) → IsTrue (has_part_of part (item_at at t)) → p ≡ holder_of at → n ≡ number_of at → body_at p t ≡ Some b → Some old ≡ part_at n part b → exchange_again at part (item_at at t) ≡ Exchange at old ∷ []
again_part part old at p n t b e h k g f =
    let x = part_in part (item_at at t) e in
    let same : part_of part x.0 ≡ old = (let whole : Some (part_of part x.0) ≡ Some old = ap (option_map (part_of part)) (sym (lent_item at p n t b x.0 x.1 h k g)) ∙ sym f in cc) in
    ap (exchange_again at part) x.1 ∙ ap (λ z. Exchange at z ∷ []) same

-- the body that was lent stays
pub unchanged_at : (p : List ℕ) (t b c : Items) → body_at p t ≡ Some b → c ≡ b → map_body p (λ _. c) t ≡ t
unchanged_at p t b c e h = map_body-cong p (λ _. c) (λ d. d) t b e h ∙ map_body-same p t
