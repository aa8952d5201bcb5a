-- Steps back, taken one after another.
use Rattle.std.proofs.Common.{◌≡◌, List, [], ◌∷◌, ◌++◌, length, ap, sym, ◌∙◌, subst, append_assoc}
use Rattle.std.specs.Prelude.{IsTrue, reverse, vec_capacity}
use Rattle.std.proofs.Math.Nat.{le-max_left}
use Rattle.std.proofs.lemmas.Bool.{and_parts, and_from}
use Rattle.std.proofs.lemmas.List.{append-nil}
use Rattle.rdl_tree.specs.Items.{Items}
use Rattle.rdl_tree.specs.Patch.{patched, fits, image, inverse, inverses, AllFit}
use Rattle.rdl_tree.specs.Way.{Held, none_held, held_behind, room_of, held_for, is_ready_in, are_ready_in, backs}
use Rattle.rdl_tree.specs.Step.{IsStep}
use Rattle.rdl_tree.specs.Walk.{IsOnWay, IsUnderWay}
use Rattle.rdl_tree.specs.declared.patch.Patch.{Patch}
use Rattle.rdl_tree.specs.declared.way.Step.{Step}
use Rattle.rdl_tree.specs.Gap.{IsLent}
use Rattle.rdl_tree.proofs.Edits.{no_item}
use Rattle.rdl_tree.proofs.Held.{behind-more, ready-more, ready_itself}
use Rattle.rdl_tree.proofs.Turns.{reverse-last}
use Rattle.rdl_tree.proofs.Undone.{undoes_by}

-- the patches of the steps that were taken, and those of the others
pub backs_more : (old rest : List Step) (s : Step) (taken all : List Patch) → old ≡ rest ++ s ∷ [] → taken ++ backs (reverse old) ≡ all → (taken ++ s.back ∷ []) ++ backs (reverse rest) ≡ all
backs_more old rest s taken all e h =
    append_assoc taken (s.back ∷ []) (backs (reverse rest)) ∙ ap (λ (ss : List Step). taken ++ backs ss) (sym (reverse-last old rest s e)) ∙ h

-- the step that is taken next is ready
pub next_ready : (held : Held) (old rest : List Step) (s : Step) (t : Items) → old ≡ rest ++ s ∷ [] → IsTrue (are_ready_in held (reverse old) t) → IsTrue (is_ready_in held s t)
next_ready held old rest s t e h = (and_parts _ _ (sym (ap (λ (ss : List Step). are_ready_in held ss t) (reverse-last old rest s e)) ∙ h)).0

pub step_taken : (held : Held) (old rest : List Step) (s : Step) (t new end : Items) (room more patches : List Patch) (p : Patch) → old ≡ rest ++ s ∷ [] → new ≡ patched s.back t → inverse s.back t ≡ p ∷ [] → more ≡ room ++ p ∷ [] → IsOnWay held old t end room patches → IsOnWay (held_behind s.back (room_of s held)) rest new end more patches
step_taken held old rest s t new end room more patches p e f g h w =
    let turn : reverse old ≡ s ∷ reverse rest = reverse-last old rest s e in
    let back : inverses (backs (s ∷ reverse rest)) t ≡ inverses (backs (reverse rest)) new ++ p ∷ [] = ap (λ (ps : List Patch). inverses (backs (reverse rest)) (patched s.back t) ++ ps) g ∙ ap (λ d. inverses (backs (reverse rest)) d ++ p ∷ []) (sym f) in record {
      ready = subst (λ d. IsTrue (are_ready_in (held_behind s.back (room_of s held)) (reverse rest) d)) (sym f) (and_parts _ _ (sym (ap (λ (ss : List Step). are_ready_in held ss t) turn) ∙ w.ready)).1;
      leads = ap (image (backs (reverse rest))) f ∙ sym (ap (λ (ss : List Step). image (backs ss) t) turn) ∙ w.leads;
      again = ap (λ (ps : List Patch). inverses (backs (reverse rest)) new ++ ps) (reverse-last more room p h)
          ∙ sym (append_assoc (inverses (backs (reverse rest)) new) (p ∷ []) (reverse room))
          ∙ ap (λ (ps : List Patch). ps ++ reverse room) (sym back)
          ∙ sym (ap (λ (ss : List Step). inverses (backs ss) t ++ reverse room) turn) ∙ w.again;
    }

-- ---- A walk along patches.

-- the patch that is applied next fits
pub next_fits : (old left : List Patch) (p : Patch) (t : Items) → old ≡ left ++ p ∷ [] → AllFit (reverse old) t → IsTrue (fits p t)
next_fits old left p t e h =
    let parts = subst (λ (ps : List Patch). AllFit ps t) (reverse-last old left p e) h in parts.0

-- the steps before it may have lent it their room
pub advanced : (steps lent more : List Step) (s : Step) (t new start : Items) (old left all : List Patch) (p : Patch) → old ≡ left ++ p ∷ [] → IsStep p t new s → IsLent (held_behind s.back (vec_capacity s.room)) steps lent → more ≡ lent ++ s ∷ [] → IsUnderWay steps t start old all → IsUnderWay more new start left all
advanced steps lent more s t new start old left all p e f l g w =
    let turn : reverse old ≡ p ∷ reverse left = reverse-last old left p e in
    let turned : reverse more ≡ s ∷ reverse lent = reverse-last more lent s g in
    let led : backs (reverse more) ≡ s.back ∷ backs (reverse steps) = ap backs turned ∙ ap (λ (ps : List Patch). s.back ∷ ps) l.same in
    let parts = subst (λ (ps : List Patch). AllFit ps t) turn w.fit in
    let u = undoes_by p s.back t parts.0 f.back in
    let back : patched s.back new ≡ t = ap (patched s.back) f.led ∙ u.back in
    let again : inverse s.back new ≡ p ∷ [] = ap (inverse s.back) f.led ∙ u.again in record {
      fit = subst (λ d. AllFit (reverse left) d) (sym f.led) parts.1;
      leads_on = ap (image (reverse left)) f.led ∙ sym (ap (λ (ps : List Patch). image ps t) turn) ∙ w.leads_on;
      back = ap (λ (ps : List Patch). inverses (reverse left) new ++ ps) led
          ∙ sym (append_assoc (inverses (reverse left) new) (s.back ∷ []) (backs (reverse steps)))
          ∙ ap (λ d. (inverses (reverse left) d ++ s.back ∷ []) ++ backs (reverse steps)) f.led
          ∙ ap (λ (ps : List Patch). (inverses (reverse left) (patched p t) ++ ps) ++ backs (reverse steps)) (sym f.back)
          ∙ sym (ap (λ (ps : List Patch). inverses ps t ++ backs (reverse steps)) turn) ∙ w.back;
      way = record {
        ready = ap (λ (ss : List Step). are_ready_in none_held ss new) turned
            ∙ and_from _ _ (ready_itself s new none_held f.ready)
            (ready-more (reverse lent) (patched s.back new) _ _ (behind-more s.back (vec_capacity s.room) (room_of s none_held) (le-max_left (vec_capacity s.room) (held_for s.back none_held)))
            (l.ready (patched s.back new) (ap (are_ready_in none_held (reverse steps)) back ∙ w.way.ready)));
        leads = ap (λ (ps : List Patch). image ps new) led ∙ ap (image (backs (reverse steps))) back ∙ w.way.leads;
        again = ap (λ (ps : List Patch). inverses ps new ++ reverse left) led
            ∙ ap (λ d. (inverses (backs (reverse steps)) d ++ inverse s.back new) ++ reverse left) back
            ∙ ap (λ (ps : List Patch). (inverses (backs (reverse steps)) t ++ ps) ++ reverse left) again
            ∙ append_assoc (inverses (backs (reverse steps)) t) (p ∷ []) (reverse left)
            ∙ sym (ap (λ (ps : List Patch). inverses (backs (reverse steps)) t ++ ps) turn) ∙ w.way.again;
      };
    }

-- before the first patch
pub under_way : (steps : List Step) (t : Items) (left all : List Patch) → length steps ≡ 0 → reverse left ≡ all → AllFit all t → IsUnderWay steps t t left all
under_way steps t left all e f h =
    let none : steps ≡ [] = no_item steps e in record {
      fit = subst (λ (ps : List Patch). AllFit ps t) (sym f) h;
      leads_on = ap (λ (ps : List Patch). image ps t) f;
      back = ap (λ (ss : List Step). inverses (reverse left) t ++ backs (reverse ss)) none ∙ append-nil (inverses (reverse left) t) ∙ ap (λ (ps : List Patch). inverses ps t) f;
      way = record {
        ready = ap (λ (ss : List Step). are_ready_in none_held (reverse ss) t) none;
        leads = ap (λ (ss : List Step). image (backs (reverse ss)) t) none;
        again = ap (λ (ss : List Step). inverses (backs (reverse ss)) t ++ reverse left) none ∙ f;
      };
    }

-- a walk that goes on is one with the same patches left
pub still_under_way : (steps : List Step) (t new start : Items) (old left more all : List Patch) (p q : Patch) → old ≡ left ++ p ∷ [] → more ≡ left ++ q ∷ [] → q ≡ p → new ≡ t → IsUnderWay steps t start old all → IsUnderWay steps new start more all
still_under_way steps t new start old left more all p q e f g h w =
    subst (λ d. IsUnderWay steps d start more all) (sym h)
    (subst (λ (ps : List Patch). IsUnderWay steps t start ps all) (e ∙ ap (λ r. left ++ r ∷ []) (sym g) ∙ sym f) w)
