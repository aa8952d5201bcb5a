-- What a loop over steps or patches has put behind a text: in the end the text of all of them, and on the way no more.
use Rattle.std.proofs.Common.{◌≡◌, ℕ, ◌+◌, ◌≤◌, ◌<◌, List, ◌++◌, length, take, take_all, get_or, map, refl, sym, ap, ◌∙◌, arith, append_assoc, length-append, Bor}
use Rattle.std.proofs.lemmas.List.{length-map}
use Rattle.std.proofs.lemmas.Simd.{map-map}
use Rattle.std.specs.Prelude.{codes}
use Rattle.std.specs.List.{flat_map}
use Rattle.std.proofs.lemmas.List.Folds.{flat_map-map, length-flat_map-take}
use Rattle.rdl_tree.specs.Items.{Items}
use Rattle.rdl_session.specs.Text.{PatchLines, line_feed, count_line, counted, patch_text, step_text, steps_text, session_text, max_session}
use Rattle.rdl_tree.specs.declared.patch.Patch.{Patch}
use Rattle.rdl_session.specs.declared.fault.SessionWriteFault.{SessionWriteFault}
use Rattle.rdl_session.specs.declared.fault.SessionWriteFault.TheVariants.{TooLong, Memory}
use Rattle.rdl_write.specs.MapText.{map_text}
use Rattle.rdl_session.specs.Written.{written, session_lines, Stops}

-- a count, and the texts of what is counted
abbrev list_text : {Y : Type 0} → (Y → List ℕ) → List ℕ → List Y → List ℕ
list_text f word ys = count_line word (length ys) ++ flat_map f ys

step-is : (ps : List PatchLines) → step_text ps ≡ list_text patch_text (codes "back") ps
unfolding step_text
step-is ps = refl

steps-is : (word : List ℕ) (steps : List (List PatchLines)) → steps_text word steps ≡ list_text step_text word steps
unfolding steps_text
steps-is word steps = refl

pub stops_longer : (fault : SessionWriteFault) (a b : List ℕ) → length a ≤ length b → Stops fault a → Stops fault b
stops_longer TooLong a b h s = omega (arith, h, s)
stops_longer Memory a b h s = tt

module _ {X Y : Type 0} (f : Y → List ℕ) (g : X → Y) (word old mid new : List ℕ) (xs : List X) (i : ℕ) (begun : mid ≡ old ++ count_line word (length xs)) (so_far : new ≡ mid ++ flat_map (λ x. f (g x)) (take i xs)) where
  whole : old ++ list_text f word (map g xs) ≡ mid ++ flat_map (λ x. f (g x)) xs
  whole =
      ap (λ (n : ℕ). old ++ (count_line word n ++ flat_map f (map g xs))) (length-map xs g)
      ∙ ap (λ (t : List ℕ). old ++ (count_line word (length xs) ++ t)) (flat_map-map f g xs)
      ∙ sym (append_assoc old (count_line word (length xs)) (flat_map (λ x. f (g x)) xs))
      ∙ ap (λ (t : List ℕ). t ++ flat_map (λ x. f (g x)) xs) (sym begun)

  list_done : length xs ≤ i → new ≡ old ++ list_text f word (map g xs)
  list_done h = so_far ∙ ap (λ (ys : List X). mid ++ flat_map (λ x. f (g x)) ys) (take_all i xs h) ∙ sym whole

  -- with the next one
  list_longer : (d : X) → i < length xs → length (new ++ f (g (get_or xs i d))) ≤ length (old ++ list_text f word (map g xs))
  list_longer d h =
      omega (arith, ap length whole, ap length so_far, length-append new (f (g (get_or xs i d))), length-append mid (flat_map (λ x. f (g x)) (take i xs)), length-append mid (flat_map (λ x. f (g x)) xs), length-flat_map-take (λ x. f (g x)) xs i d h)

module _ {X : Type 0} (g : X → PatchLines) (old mid new : List ℕ) (xs : List X) (i : ℕ) (begun : mid ≡ old ++ count_line (codes "back") (length xs)) (so_far : new ≡ mid ++ flat_map (λ x. patch_text (g x)) (take i xs)) where
  pub step_done : length xs ≤ i → new ≡ old ++ step_text (map g xs)
  step_done h = list_done patch_text g (codes "back") old mid new xs i begun so_far h ∙ ap (λ (t : List ℕ). old ++ t) (sym (step-is (map g xs)))

  pub step_too_long : X → i < length xs → max_session < length new → max_session < length (old ++ step_text (map g xs))
  step_too_long d h long =
      omega (arith, long, list_longer patch_text g (codes "back") old mid new xs i begun so_far d h, length-append new (patch_text (g (get_or xs i d))), ap (λ (t : List ℕ). length (old ++ t)) (step-is (map g xs)))

module _ {X : Type 0} (g : X → List PatchLines) (word old mid new : List ℕ) (xs : List X) (i : ℕ) (begun : mid ≡ old ++ count_line word (length xs)) (so_far : new ≡ mid ++ flat_map (λ x. step_text (g x)) (take i xs)) where
  pub steps_done : length xs ≤ i → new ≡ old ++ steps_text word (map g xs)
  steps_done h = list_done step_text g word old mid new xs i begun so_far h ∙ ap (λ (t : List ℕ). old ++ t) (sym (steps-is word (map g xs)))

  pub steps_stop : (x : X) → i < length xs → x ≡ get_or xs i x → (fault : SessionWriteFault) → Stops fault (new ++ step_text (g x)) → Stops fault (old ++ steps_text word (map g xs))
  steps_stop x h is fault s =
      stops_longer fault (new ++ step_text (g x)) (old ++ steps_text word (map g xs))
      (omega (arith, list_longer step_text g word old mid new xs i begun so_far x h, ap (λ (y : X). length (new ++ step_text (g y))) is, ap (λ (t : List ℕ). length (old ++ t)) (steps-is word (map g xs))))
      s

-- ---- The whole session.

-- what stands before the steps
abbrev pub session_head : Items → List ℕ
session_head d = codes "regedit session 1" ++ line_feed ++ counted (codes "map") (map_text d)

module _ (d : Items) (undo redo : List (Bor (List Patch))) where
  abbrev pub session_of : List ℕ
  session_of = session_text (session_lines d (map (λ step. step.now) undo) (map (λ step. step.now) redo))

  abbrev pub undo_of : List ℕ
  undo_of = steps_text (codes "undo") (map (λ step. map written step.now) undo)

  abbrev pub redo_of : List ℕ
  redo_of = steps_text (codes "redo") (map (λ step. map written step.now) redo)

  session-is : session_of ≡ session_head d ++ undo_of ++ redo_of ++ codes "end" ++ line_feed
  unfolding session_text
  session-is =
      ap (λ (steps : List (List PatchLines)). session_head d ++ steps_text (codes "undo") steps ++ steps_text (codes "redo") (map (map written) (map (λ step. step.now) redo)) ++ codes "end" ++ line_feed) (map-map (map written) (λ step. step.now) undo)
      ∙ ap (λ (steps : List (List PatchLines)). session_head d ++ undo_of ++ steps_text (codes "redo") steps ++ codes "end" ++ line_feed) (map-map (map written) (λ step. step.now) redo)

  pub session_done : (head back on text : List ℕ) → head ≡ session_head d → back ≡ head ++ undo_of → on ≡ back ++ redo_of → text ≡ on ++ codes "end\n" → text ≡ session_of
  session_done head back on text h u r e =
      e ∙ ap (λ (t : List ℕ). t ++ codes "end\n") (r ∙ ap (λ (t : List ℕ). t ++ redo_of) (u ∙ ap (λ (t : List ℕ). t ++ undo_of) h))
      ∙ sym (append_assoc (session_head d ++ undo_of ++ redo_of) (codes "end") line_feed) ∙ sym session-is

  length-session : length session_of ≡ length (session_head d) + length undo_of + length redo_of + 4
  length-session =
      ap length session-is
      ∙ omega (arith, length-append (session_head d) undo_of, length-append (session_head d ++ undo_of) redo_of, length-append (session_head d ++ undo_of ++ redo_of) (codes "end"), length-append (session_head d ++ undo_of ++ redo_of ++ codes "end") line_feed)

  pub stops_back : (head : List ℕ) → head ≡ session_head d → (fault : SessionWriteFault) → Stops fault (head ++ undo_of) → Stops fault session_of
  stops_back head h fault s = stops_longer fault (head ++ undo_of) session_of (omega (arith, length-session, ap length h, length-append head undo_of)) s

  pub stops_on : (head back : List ℕ) → head ≡ session_head d → back ≡ head ++ undo_of → (fault : SessionWriteFault) → Stops fault (back ++ redo_of) → Stops fault session_of
  stops_on head back h u fault s =
      stops_longer fault (back ++ redo_of) session_of (omega (arith, length-session, ap length h, ap length u, length-append head undo_of, length-append back redo_of)) s
