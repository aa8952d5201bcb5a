-- Patches that exchange parts, turned one after another.
use Rattle.std.proofs.Common.{◌≡◌, List, [], ◌∷◌, ◌++◌, refl, ap, sym, ◌∙◌, subst, append_assoc}
use Rattle.std.specs.Prelude.{IsTrue, reverse}
use Rattle.std.specs.List.{list_all}
use Rattle.std.proofs.lemmas.Bool.{false≢true, and_parts, and_from}
use Rattle.std.proofs.lemmas.List.{append-nil, reverse-append}
use Rattle.rdl_tree.specs.Items.{Items}
use Rattle.rdl_tree.specs.ItemAt.{item_at}
use Rattle.rdl_tree.specs.Part.{part_of}
use Rattle.rdl_tree.specs.Patch.{patched, fits, image, inverse, inverses, exchange_again, AllFit}
use Rattle.rdl_tree.specs.Way.{is_placed}
use Rattle.rdl_tree.specs.Exchanges.{is_exchange, is_exchange_at, are_exchanges}
use Rattle.rdl_tree.specs.declared.patch.Patch.{Patch}
use Rattle.rdl_tree.specs.declared.patch.Patch.TheVariants.{Insert, Delete, Shift, Exchange}
use Rattle.rdl_tree.proofs.Patching.{image-inverses}
use Rattle.rdl_tree.proofs.Undone.{Undoes, undoes, part_in}

-- some are turned into what takes them back, and the others lead on to the end; together they will take all back
pub record AreTurned (turned left : List Patch) (here end : Items) (all : List Patch) : Type 0 where
  pub fit : IsTrue (are_exchanges left here)
  pub leads : image left here ≡ end
  pub back : inverses left here ++ reverse turned ≡ all

-- before the first
pub none_turned : (ps : List Patch) (t : Items) → IsTrue (are_exchanges ps t) → AreTurned [] ps t (image ps t) (inverses ps t)
none_turned ps t h = record { fit = h; leads = refl; back = append-nil (inverses ps t) }

pub one_turned : (turned more left : List Patch) (p q : Patch) (here next end : Items) (all : List Patch) → AreTurned turned (p ∷ left) here end all → next ≡ patched p here → inverse p here ≡ q ∷ [] → more ≡ turned ++ q ∷ [] → AreTurned more left next end all
one_turned turned more left p q here next end all a n i m = record {
  fit = subst (λ d. IsTrue (are_exchanges left d)) (sym n) (and_parts _ _ a.fit).1;
  leads = ap (image left) n ∙ a.leads;
  back = ap (λ d. inverses left d ++ reverse more) n
      ∙ ap (λ (qs : List Patch). inverses left (patched p here) ++ reverse qs) m
      ∙ ap (λ (qs : List Patch). inverses left (patched p here) ++ qs) (reverse-append turned (q ∷ []))
      ∙ sym (append_assoc (inverses left (patched p here)) (q ∷ []) (reverse turned))
      ∙ ap (λ (qs : List Patch). (inverses left (patched p here) ++ qs) ++ reverse turned) (sym i)
      ∙ a.back;
}

-- patches that fit, if all of them exchange parts
pub all_exchange : (ps : List Patch) (t : Items) → IsTrue (list_all is_exchange ps) → AllFit ps t → IsTrue (are_exchanges ps t)
all_exchange [] t h f = refl
all_exchange (p ∷ ps) t h f =
    let parts = and_parts _ _ h in and_from _ _ (and_from _ _ parts.0 f.0) (all_exchange ps (patched p t) parts.1 f.1)

exchanges-append : (ps qs : List Patch) (t : Items) → IsTrue (are_exchanges ps t) → IsTrue (are_exchanges qs (image ps t)) → IsTrue (are_exchanges (ps ++ qs) t)
exchanges-append [] qs t h k = k
exchanges-append (p ∷ ps) qs t h k =
    let parts = and_parts _ _ h in and_from _ _ parts.0 (exchanges-append ps qs (patched p t) parts.1 k)

-- what takes an exchange back is one
turned-exchange : (p q : Patch) (t : Items) → IsTrue (is_exchange p) → IsTrue (fits p t) → Undoes p q t → IsTrue (is_exchange_at q (patched p t))
turned-exchange (Insert at x) q t h f u = absurd (false≢true h)
turned-exchange (Delete at) q t h f u = absurd (false≢true h)
turned-exchange (Shift at to) q t h f u = absurd (false≢true h)
turned-exchange (Exchange at part) q t h f u =
    let x = part_in part (item_at at t) f in
    let back : Patch = Exchange at (part_of part x.0) in
    let same : back ≡ q = (let whole : back ∷ [] ≡ q ∷ [] = sym (ap (exchange_again at part) x.1) ∙ u.is_inverse in cc) in
    let t' : Items = patched (Exchange at part) t in subst (λ r. IsTrue (is_exchange_at r t')) same (and_from _ _ refl (subst (λ r. IsTrue (is_placed r t')) (sym same) u.placed))

-- going back, each exchanges a part again
pub exchanges-inverses : (ps : List Patch) (t : Items) → IsTrue (are_exchanges ps t) → AllFit ps t → IsTrue (are_exchanges (inverses ps t) (image ps t))
exchanges-inverses [] t h f = refl
exchanges-inverses (p ∷ ps) t h f =
    let parts = and_parts _ _ h in
    let u = undoes p t f.0 in
    let q : Patch = u.0 in
    let t' : Items = patched p t in
    subst (λ (qs : List Patch). IsTrue (are_exchanges (inverses ps t' ++ qs) (image ps t'))) (sym u.1.is_inverse)
    (exchanges-append (inverses ps t') (q ∷ []) (image ps t') (exchanges-inverses ps t' parts.1 f.1)
    (subst (λ d. IsTrue (are_exchanges (q ∷ []) d)) (sym (image-inverses ps t' f.1)) (and_from _ _ (turned-exchange p q t (and_parts _ _ parts.0).0 f.0 u.1) refl)))
