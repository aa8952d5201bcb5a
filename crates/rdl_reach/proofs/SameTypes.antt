-- Where all items stay quietly and the skeleton stays, each reference leads where it led.
use Rattle.std.proofs.Common.{◌≡◌, ℕ, zero, suc, Bool, true, false, ◌||◌, if◌then◌else◌, List, [], ◌∷◌, ◌++◌, drop, Option, Some, None, unwrap_or, refl, sym, ap, subst, ◌∙◌}
use Rattle.std.specs.Prelude.{not, slice_get, option_map}
use Rattle.rdl_tree.specs.Component.{own_component}
use Rattle.rdl_tree.specs.Items.{Items, no_items, plain, holder, Plain, named, own, default, dynamic}
use Rattle.rdl_tree.specs.View as tree
use Rattle.rdl_tree.specs.View.{list_of, items_of}
use Rattle.rdl_tree.specs.declared.description.Component.{Component}
use Rattle.rdl_tree.specs.declared.description.Item.{Item}
use Rattle.rdl_tree.specs.declared.description.Item.TheVariants.{Define, Instance, Own, Default, Dynamic}
use Rattle.rdl_tree.specs.declared.description.Of.TheVariants.{Named, Anonymous}
use Rattle.rdl_tree.specs.declared.shell.Kind.{Kind}
use Rattle.rdl_tree.specs.declared.shell.Shell.{Shell}
use Rattle.rdl_tree.proofs.Rounds as tree_rounds
use Rattle.rdl_marks.specs.Describes.{Describes, IsItem, restored}
use Rattle.rdl_marks.specs.InOrder.{AreInOrder}
use Rattle.rdl_marks.specs.Marks.{Firsts, Marks}
use Rattle.rdl_marks.specs.View.{old_item}
use Rattle.rdl_marks.specs.Was.{trace_of}
use Rattle.rdl_marks.proofs.From.{IsFrom}
use Rattle.rdl_reach.specs.Before.{number_then, address_before}
use Rattle.rdl_reach.specs.EditedBodies.{lays_out, is_laid_out, is_layout_default, any_changed}
use Rattle.rdl_reach.specs.QuietMarks.{AreQuietMarks}
use Rattle.rdl_reach.specs.Skeleton.{number_in, skeleton_type, skeleton_in}
use Rattle.rdl_reach.proofs.Follows.{IsKept, laid_out_kept, layout_default_kept, same_there, Follows, before_each}
use Rattle.rdl_reach.proofs.QuietEdits.{none-changed}
use Rattle.rdl_reach.proofs.Scopes.{Scope, names, scope_after, scope_behind, scope_before, AreLed}
use Rattle.rdl_renew.proofs.SideBySide.{drop_next}

-- ---- Items that aren't quiet.

abbrev pub is_unquiet : Item → Bool
is_unquiet x = is_laid_out x || is_layout_default x

pub unquiet_kept : IsKept is_unquiet
unquiet_kept old n f m y z h is =
    let laid = laid_out_kept old n f m y z h is in
    let default = layout_default_kept old n f m y z h is in
    λ i. laid i || default i

pub none_unquiet : (m : Marks) (now : Items) → AreQuietMarks m now → any_changed is_unquiet m now ≡ false
none_unquiet m now h = none-changed is_unquiet (λ x e. ap not e) m now h

-- ---- The skeleton of an item and those behind it.

or-left : (b : Bool) → (b || false) ≡ false → b ≡ false
or-left true e = e
or-left false e = refl

-- a quiet item isn't in the skeleton
pub quiet_skeleton : (s : List (List ℕ)) (x : Item) (rest : Items) → is_unquiet x ≡ false → skeleton_in s (tree.add x rest) ≡ skeleton_in s rest
quiet_skeleton s (Define n c) rest e = absurd (let no : true ≡ false = e in cc)
quiet_skeleton s (Instance u (Named t)) rest e = absurd (let no : true ≡ false = e in cc)
quiet_skeleton s (Instance u (Anonymous c)) rest e = absurd (let no : true ≡ false = e in cc)
quiet_skeleton s (Own p v) rest e = ap (λ b. if b then plain (own p v) (skeleton_in s rest) else skeleton_in s rest) (or-left (lays_out p) e)
quiet_skeleton s (Default p v) rest e = ap (λ b. if b then plain (default p v) (skeleton_in s rest) else skeleton_in s rest) e
quiet_skeleton s (Dynamic t p v) rest e = refl

-- nor does it define anything
quiet_scope : (b : List ℕ) (n : ℕ) (x : Item) (s : Scope) → is_unquiet x ≡ false → scope_after b n x s ≡ s
quiet_scope b n (Define m c) s e = absurd (let no : true ≡ false = e in cc)
quiet_scope b n (Instance u o) s e = refl
quiet_scope b n (Own p v) s e = refl
quiet_scope b n (Default p v) s e = refl
quiet_scope b n (Dynamic t p v) s e = refl

-- the items behind the first one, the body of that, and the name of its type
abbrev behind : Items → Items
behind no_items = no_items
behind (plain p rest) = rest
behind (holder h body rest) = rest

abbrev pub body_of : Items → Items
body_of no_items = no_items
body_of (plain p rest) = no_items
body_of (holder h body rest) = body

abbrev type_in : Plain → List ℕ
type_in (named s t) = t
type_in (own p v) = []
type_in (default p v) = []
type_in (dynamic t p v) = []

abbrev type_first : Items → List ℕ
type_first no_items = []
type_first (plain p rest) = type_in p
type_first (holder h body rest) = []

number_same : (m n : Option ℕ) → skeleton_type m ≡ skeleton_type n → m ≡ n
number_same None None e = refl
number_same None (Some k) e = absurd (let no : ◌≡◌ {A = List ℕ} [] (k ∷ []) = e in cc)
number_same (Some j) None e = absurd (let no : ◌≡◌ {A = List ℕ} (j ∷ []) [] = e in cc)
number_same (Some j) (Some k) e = cc

-- the body of an item with a component
pub body_skeleton : (s : List (List ℕ)) (x : Item) (rest : Items) (k : Kind) (d : Items) → own_component x ≡ Some (record { kind = k; body = d }) → body_of (skeleton_in s (tree.add x rest)) ≡ skeleton_in s d
body_skeleton s (Define n c) rest k d e = ap (skeleton_in s) (body-same c k d e)
  where
    body-same : (c : Component) (k : Kind) (d : Items) → ◌≡◌ {A = Option Component} (Some c) (Some (record { kind = k; body = d })) → c.body ≡ d
    body-same c k d e = ap (λ o. elim o [ None ↦ d | Some c ↦ c.body ]) e
body_skeleton s (Instance u (Named t)) rest k d e = absurd cc
body_skeleton s (Instance u (Anonymous c)) rest k d e = ap (skeleton_in s) (body-same c k d e)
  where
    body-same : (c : Component) (k : Kind) (d : Items) → ◌≡◌ {A = Option Component} (Some c) (Some (record { kind = k; body = d })) → c.body ≡ d
    body-same c k d e = ap (λ o. elim o [ None ↦ d | Some c ↦ c.body ]) e
body_skeleton s (Own p v) rest k d e = absurd cc
body_skeleton s (Default p v) rest k d e = absurd cc
body_skeleton s (Dynamic t p v) rest k d e = absurd cc

either : (b : Bool) (q r : Plain) (us ws : Items) → (if b then plain q ws else ws) ≡ (if b then plain r us else us) → ws ≡ us
either true q r us ws e = ap behind e
either false q r us ws e = e

-- an item that stayed, and those behind it, where the skeletons are the same
module _ (b at : List ℕ) (i n : ℕ) (fs es : Scope) (old : Items) (f : Firsts) (m : Marks) (us ws : Items) where
  abbrev pub Same : Item → Item → Type 0
  Same z y = skeleton_in (names es) (tree.add z ws) ≡ skeleton_in (names fs) (tree.add y us)

  abbrev pub RestSame : Item → Item → Type 0
  RestSame z y = skeleton_in (names (scope_after at n z es)) ws ≡ skeleton_in (names (scope_after b i y fs)) us

  pub rest_same : (y z : Item) → IsFrom old (old_item n f m) y → IsItem n old z → Same z y → RestSame z y
  rest_same (Define k c) z h is =
      subst (λ x. Same x (Define k c) → RestSame x (Define k c)) (same_there old n (Define (unwrap_or f.defined k) (record { kind = c.kind; body = h.0.0 })) z h.0.1 is) (λ e. ap behind e)
  rest_same (Instance w (Named u)) z h is =
      subst (λ x. Same x (Instance w (Named u)) → RestSame x (Instance w (Named u))) (same_there old n (restored f (Instance w (Named u))) z h.0 is) (λ e. ap behind e)
  rest_same (Instance w (Anonymous c)) z h is =
      subst (λ x. Same x (Instance w (Anonymous c)) → RestSame x (Instance w (Anonymous c)))
      (same_there old n (Instance (unwrap_or f.shell w) (Anonymous (record { kind = c.kind; body = h.0.0 }))) z h.0.1 is) (λ e. ap behind e)
  rest_same (Own p v) z h is =
      subst (λ x. Same x (Own p v) → RestSame x (Own p v)) (same_there old n (restored f (Own p v)) z h.0 is)
      (λ e. either (lays_out p) (own p (unwrap_or f.value v)) (own p v) (skeleton_in (names fs) us) (skeleton_in (names es) ws) e)
  rest_same (Default p v) z h is =
      subst (λ x. Same x (Default p v) → RestSame x (Default p v)) (same_there old n (restored f (Default p v)) z h.0 is)
      (λ e. either (lays_out p) (default p (unwrap_or f.value v)) (default p v) (skeleton_in (names fs) us) (skeleton_in (names es) ws) e)
  rest_same (Dynamic t p v) z h is = subst (λ x. Same x (Dynamic t p v) → RestSame x (Dynamic t p v)) (same_there old n (restored f (Dynamic t p v)) z h.0 is) (λ e. e)

  -- the type of an instance has the number that it had
  pub type_same : (w : Shell) (u : List ℕ) (z : Item) → IsFrom old (old_item n f m) (Instance w (Named u)) → IsItem n old z → Same z (Instance w (Named u))
      → (v : List ℕ) × (s : Shell) × (z ≡ Instance s (Named v)) × (number_in (names fs) u ≡ number_in (names es) v)
  type_same w u z h is same =
      let x = restored f (Instance w (Named u)) in
      let e = same_there old n x z h.0 is in
      let all : Same x (Instance w (Named u)) = subst (λ y. Same y (Instance w (Named u))) (sym e) same in
      (unwrap_or f.type_name u, unwrap_or f.shell w, sym e, sym (number_same (number_in (names es) (unwrap_or f.type_name u)) (number_in (names fs) u) (ap type_first all)))

-- ---- One body.

module _ (M : Marks) (b at : List ℕ) (marks : Marks) (was u : Items) (fs es : Scope) (before : (c : List ℕ) → address_before M (b ++ c) ≡ option_map (λ a. at ++ a) (address_before marks c)) (described : Describes marks was u)
    (ordered : AreInOrder marks) (quiet : AreQuietMarks marks u) (led : AreLed M fs es) (same : skeleton_in (names es) was ≡ skeleton_in (names fs) u) where
  abbrev pub now_scope : ℕ → Scope
  now_scope i = scope_before b i (list_of u) fs

  abbrev pub was_scope : ℕ → Scope
  was_scope k = scope_before at k (list_of was) es

  pub record AreBeside (k i : ℕ) : Type 0 where
    pub scopes : AreLed M (now_scope i) (was_scope k)
    pub rest : skeleton_in (names (was_scope k)) (items_of (drop k (list_of was))) ≡ skeleton_in (names (now_scope i)) (items_of (drop i (list_of u)))

  drop_end : (xs : List Item) (k : ℕ) → slice_get xs k ≡ None → drop (suc k) xs ≡ drop k xs
  drop_end [] zero e = refl
  drop_end [] (suc k) e = refl
  drop_end (x ∷ xs) zero e = cc
  drop_end (x ∷ xs) (suc k) e = drop_end xs k e

  -- behind a quiet old item
  pass : (k i : ℕ) → ((z : Item) → IsItem k was z → is_unquiet z ≡ false) → AreBeside k i → AreBeside (suc k) i
  pass k i none h = by (slice_get (list_of was) k) refl
    where
      by : (o : Option Item) → slice_get (list_of was) k ≡ o → AreBeside (suc k) i
      by None e =
          let scope : was_scope (suc k) ≡ was_scope k = ap (λ o. scope_behind at k o (was_scope k)) e in
          record {
            scopes = subst (AreLed M (now_scope i)) (sym scope) h.scopes;
            rest = (λ j. skeleton_in (names (scope j)) (items_of (drop_end (list_of was) k e j))) ∙ h.rest;
          }
      by (Some z) e =
          let off = none z e in
          let scope : was_scope (suc k) ≡ was_scope k = ap (λ o. scope_behind at k o (was_scope k)) e ∙ quiet_scope at k z (was_scope k) off in
          record {
            scopes = subst (AreLed M (now_scope i)) (sym scope) h.scopes;
            rest =
                ap (λ s. skeleton_in (names s) (items_of (drop (suc k) (list_of was)))) scope
                ∙ sym (quiet_skeleton (names (was_scope k)) z (items_of (drop (suc k) (list_of was))) off)
                ∙ ap (λ xs. skeleton_in (names (was_scope k)) (items_of xs)) (sym (drop_next (list_of was) k z e)) ∙ h.rest;
          }

  -- behind a quiet new item
  come : (k i : ℕ) (y : Item) → IsItem i u y → is_unquiet y ≡ false → AreBeside k i → AreBeside k (suc i)
  come k i y e off h =
      let scope : now_scope (suc i) ≡ now_scope i = ap (λ o. scope_behind b i o (now_scope i)) e ∙ quiet_scope b i y (now_scope i) off in
      record {
        scopes = subst (λ s. AreLed M s (was_scope k)) (sym scope) h.scopes;
        rest =
            h.rest ∙ ap (λ xs. skeleton_in (names (now_scope i)) (items_of xs)) (drop_next (list_of u) i y e)
            ∙ quiet_skeleton (names (now_scope i)) y (items_of (drop (suc i) (list_of u))) off
            ∙ ap (λ s. skeleton_in (names s) (items_of (drop (suc i) (list_of u)))) (sym scope);
      }

  -- the skeletons from two items on
  pub heads : (i n : ℕ) (y z : Item) → IsItem i u y → IsItem n was z → AreBeside n i
      → Same b at i n (now_scope i) (was_scope n) was (record { shell = None; defined = None; type_name = None; value = None; target = None; is_moved = false }) marks (items_of (drop (suc i) (list_of u))) (items_of (drop (suc n) (list_of was))) z y
  heads i n y z e g h =
      ap (λ xs. skeleton_in (names (was_scope n)) (items_of xs)) (sym (drop_next (list_of was) n z g)) ∙ h.rest
      ∙ ap (λ xs. skeleton_in (names (now_scope i)) (items_of xs)) (drop_next (list_of u) i y e)

  -- a definition that stayed stands where that of its place stood
  more_led : (i n : ℕ) (f : Firsts) (inside : Marks) (y z : Item) (s r : Scope) → IsFrom was (old_item n f inside) y → IsItem n was z → address_before M (b ++ i ∷ []) ≡ Some (at ++ n ∷ []) → AreLed M s r
      → AreLed M (scope_after b i y s) (scope_after at n z r)
  more_led i n f inside (Define k c) z s r h is there l =
      subst (λ x. AreLed M ((k, b ++ i ∷ []) ∷ s) (scope_after at n x r)) (same_there was n (Define (unwrap_or f.defined k) (record { kind = c.kind; body = h.0.0 })) z h.0.1 is) (there, l)
  more_led i n f inside (Instance w (Named t)) z s r h is there l = subst (λ x. AreLed M s (scope_after at n x r)) (same_there was n (restored f (Instance w (Named t))) z h.0 is) l
  more_led i n f inside (Instance w (Anonymous c)) z s r h is there l =
      subst (λ x. AreLed M s (scope_after at n x r)) (same_there was n (Instance (unwrap_or f.shell w) (Anonymous (record { kind = c.kind; body = h.0.0 }))) z h.0.1 is) l
  more_led i n f inside (Own p v) z s r h is there l = subst (λ x. AreLed M s (scope_after at n x r)) (same_there was n (restored f (Own p v)) z h.0 is) l
  more_led i n f inside (Default p v) z s r h is there l = subst (λ x. AreLed M s (scope_after at n x r)) (same_there was n (restored f (Default p v)) z h.0 is) l
  more_led i n f inside (Dynamic t p v) z s r h is there l = subst (λ x. AreLed M s (scope_after at n x r)) (same_there was n (restored f (Dynamic t p v)) z h.0 is) l

  pub stood_before : (i n : ℕ) (f : Firsts) (inside : Marks) → trace_of marks i ≡ Some (old_item n f inside) → address_before M (b ++ i ∷ []) ≡ Some (at ++ n ∷ [])
  stood_before i n f inside told = before (i ∷ []) ∙ ap (λ o. option_map (λ a. at ++ a) (number_then (λ inside. Some []) o)) told

  stay : (i n : ℕ) (f : Firsts) (inside : Marks) (y z : Item) → IsItem i u y → IsItem n was z → trace_of marks i ≡ Some (old_item n f inside) → IsFrom was (old_item n f inside) y → AreBeside n i → AreBeside (suc n) (suc i)
  stay i n f inside y z e g told from h =
      let now : now_scope (suc i) ≡ scope_after b i y (now_scope i) = ap (λ o. scope_behind b i o (now_scope i)) e in
      let old : was_scope (suc n) ≡ scope_after at n z (was_scope n) = ap (λ o. scope_behind at n o (was_scope n)) g in
      let us = items_of (drop (suc i) (list_of u)) in
      let ws = items_of (drop (suc n) (list_of was)) in
      record {
        scopes = subst (λ s. AreLed M s (was_scope (suc n))) (sym now) (subst (AreLed M (scope_after b i y (now_scope i))) (sym old)
            (more_led i n f inside y z (now_scope i) (was_scope n) from g (stood_before i n f inside told) h.scopes));
        rest =
            ap (λ s. skeleton_in (names s) ws) old ∙ rest_same b at i n (now_scope i) (was_scope n) was f inside us ws y z from g (heads i n y z e g h)
            ∙ ap (λ s. skeleton_in (names s) us) (sym now);
      }

  follows : Follows is_unquiet marks was u AreBeside
  follows = record {
    first = record { scopes = led; rest = ap (skeleton_in (names es)) (tree_rounds.items_of-list_of was) ∙ same ∙ ap (skeleton_in (names fs)) (sym (tree_rounds.items_of-list_of u)) };
    passed = λ k i none h. pass k i none h;
    came = λ k i y e off h. come k i y e off h;
    stayed = λ i n f inside y z e g told unmoved from still h. stay i n f inside y z e g told from h;
  }

  -- before each item that stayed
  pub beside : (i n : ℕ) (f : Firsts) (inside : Marks) (y : Item) → IsItem i u y → trace_of marks i ≡ Some (old_item n f inside) → f.is_moved ≡ false → AreBeside n i
  beside i n f inside y e told unmoved = before_each is_unquiet unquiet_kept marks was u described ordered (none_unquiet marks u quiet) AreBeside follows i n f inside y e told unmoved
