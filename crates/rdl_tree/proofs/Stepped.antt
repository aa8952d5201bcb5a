-- A patch that was applied has a step back that is ready.
use Rattle.std.proofs.Common.{◌≡◌, ℕ, ◌<◌, List, [], ◌∷◌, length, Some, ap, sym, ◌∙◌, arith}
use Rattle.std.specs.Prelude.{remove, is_some, IsTrue, IfOk, OnOk, Result, Ok, Err, vec_capacity}
use Rattle.std.proofs.lemmas.Bool.{and_from, lt-ltb}
use Rattle.std.proofs.lemmas.List.Edits.{length-remove}
use Rattle.rdl_tree.specs.Items.{Items}
use Rattle.rdl_tree.specs.View.{list_of}
use Rattle.rdl_tree.specs.Address.{holder_of, number_of, body_at}
use Rattle.rdl_tree.specs.ItemAt.{item_at}
use Rattle.rdl_tree.specs.Edit.{remove_item}
use Rattle.rdl_tree.specs.Patch.{patched, fits, inverse, insert_again, length_of}
use Rattle.rdl_tree.specs.Way.{is_placed, has_room, is_below}
use Rattle.rdl_tree.specs.Step.{IsStep}
use Rattle.rdl_tree.specs.declared.patch.Patch.{Patch}
use Rattle.rdl_tree.specs.declared.patch.Patch.TheVariants.{Insert, Delete}
use Rattle.rdl_tree.specs.declared.way.Step.{Step}
use Rattle.rdl_tree.proofs.Rounds.{list_of-items_of}
use Rattle.rdl_tree.proofs.Edits.{get-within}
use Rattle.rdl_tree.proofs.Places.{stands, the_item, body_at-map}
use Rattle.rdl_tree.proofs.Undone.{undoes_by}

pub is_step : (p : Patch) (t new : Items) (s : Step) → IsTrue (fits p t) → new ≡ patched p t → inverse p t ≡ s.back ∷ [] → IsTrue (has_room s.back (vec_capacity s.room) new) → IsStep p t new s
is_step p t new s h e f r = record {
  led = e;
  back = f;
  ready = and_from _ _ (ap (is_placed s.back) e ∙ (undoes_by p s.back t h f).placed) r;
}

pub stepped : (p : Patch) (t new : Items) (r : Result Step Patch) → IsTrue (fits p t) → OnOk r (new ≡ patched p t) → IfOk r (λ s. inverse p t ≡ s.back ∷ []) → IfOk r (λ s. IsTrue (has_room s.back (vec_capacity s.room) new)) → IfOk r (λ s. IsStep p t new s)
stepped p t new (Ok s) h e f r = is_step p t new s h e f r
stepped p t new (Err q) h e f r = tt

-- room for all items that the body had
pub room_again : (at : List ℕ) (t new : Items) (q : Patch) (room : ℕ) → IsTrue (is_some (item_at at t)) → new ≡ patched (Delete at) t → insert_again at (item_at at t) ≡ q ∷ [] → length_of (body_at (holder_of at) t) ≡ Some room → IsTrue (has_room q room new)
room_again at t new q room h e f g =
    let x = the_item (item_at at t) h in
    let s = stands at t x.0 x.1 in
    let n = number_of at in
    let same : Insert at x.0 ≡ q = (let whole : Insert at x.0 ∷ [] ≡ q ∷ [] = ap (insert_again at) (sym x.1) ∙ f in cc) in
    let long : length (list_of s.body) ≡ room = (let whole : Some (length (list_of s.body)) ≡ Some room = ap length_of (sym s.held) ∙ g in cc) in
    let held : body_at (holder_of at) new ≡ Some (remove_item n s.body) = ap (body_at (holder_of at)) e ∙ body_at-map (holder_of at) (remove_item n) t s.body s.held in
    let short : length (list_of (remove_item n s.body)) < room =
    omega (arith, ap length (list_of-items_of (remove (list_of s.body) n)), length-remove (list_of s.body) n (get-within (list_of s.body) n x.0 s.found)) in
    ap (λ p. has_room p room new) (sym same) ∙ ap (λ o. is_below (length_of o) room) held ∙ lt-ltb _ _ short
