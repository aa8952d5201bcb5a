-- A component out of reach stood somewhere before, as one of the same kind, with the same values, and with instances that are alike all the
-- way down.
use Rattle.std.proofs.Common.{◌≡◌, ℕ, zero, suc, ◌<◌, ◌≤◌, Bool, true, false, ◌||◌, List, [], ◌∷◌, ◌++◌, length, Option, Some, None, refl, sym, ap, subst, ◌∙◌, arith, ◌⊎◌, inl, inr}
use Rattle.std.specs.Prelude.{is_some, option_and_then}
use Rattle.std.specs.Option.{option_or}
use Rattle.std.specs.List.{AllZip}
use Rattle.std.proofs.lemmas.Bool.{cases_lt, or_parts}
use Rattle.std.proofs.lemmas.List.{append-nil}
use Rattle.std.proofs.lemmas.Option.{same_Some}
use Rattle.rdl_tree.specs.Address.{body_at}
use Rattle.rdl_tree.specs.Items.{Items}
use Rattle.rdl_tree.specs.View.{list_of}
use Rattle.rdl_tree.specs.declared.description.Component.{Component}
use Rattle.rdl_tree.specs.declared.shell.Shell.{Shell}
use Rattle.rdl_scope.specs.Closed.{Head, Parts, no_parts, part, Made, component, with_made, found_part, stated}
use Rattle.rdl_scope.specs.Types.{component_at, component_of, items_in}
use Rattle.rdl_scope.specs.Value.{own_value, nearest_default}
use Rattle.rdl_scope.proofs.AsFound.{as_found}
use Rattle.rdl_scope.proofs.Holds.{holds}
use Rattle.rdl_marks.specs.Describes.{Describes}
use Rattle.rdl_marks.specs.InOrder.{AreInOrder}
use Rattle.rdl_marks.specs.Marks.{Marks}
use Rattle.rdl_reach.specs.Before.{address_before}
use Rattle.rdl_reach.specs.EditedBodies.{lays_out, is_edited_at, has_another_type, any_has_another_type, edits}
use Rattle.rdl_renew.specs.AlikeSlots.{says_same}
use Rattle.rdl_reach.specs.Reach.{leads_there, in_reach}
use Rattle.rdl_reach.proofs.Instances.{spots, found, instances_found, IsBeside, all_beside}
use Rattle.rdl_reach.proofs.Leading.{LeadAlike, leads, component_there, some_made}
use Rattle.rdl_renew.proofs.SideBySide.{next_within, had}
use Rattle.rdl_reach.proofs.Stood.{StoodAt, stood}
use Rattle.rdl_reach.proofs.Values.{same_owns}

-- ---- Where an edited body isn't.

pub none_other : (m : Marks) (old now : Items) (b : List ℕ) (n i : ℕ) → any_has_another_type m old now b n ≡ false → i < n → has_another_type m old now (b ++ i ∷ []) ≡ false
none_other m old now b zero i e l = absurd (omega arith)
none_other m old now b (suc n) i e l = by (cases_lt i n) (or_parts (has_another_type m old now (b ++ n ∷ [])) (any_has_another_type m old now b n) e)
    (λ f less. none_other m old now b n i f less)
  where
    by : ((i < n) ⊎ (n ≤ i)) → (has_another_type m old now (b ++ n ∷ []) ≡ false) × (any_has_another_type m old now b n ≡ false)
        → (any_has_another_type m old now b n ≡ false → i < n → has_another_type m old now (b ++ i ∷ []) ≡ false) → has_another_type m old now (b ++ i ∷ []) ≡ false
    by (inl less) both more = more both.1 less
    by (inr low) both more = let same : n ≡ i = omega (arith, low, l) in ap (λ k. has_another_type m old now (b ++ k ∷ [])) (sym same) ∙ both.0

-- or_parts edited, nor leading to an edited body
pub by_component : (edited : List ℕ → Bool) (a : List ℕ) (d : Items) (c : Made) → component d a ≡ Some c → in_reach edited d a ≡ false → (edited a ≡ false) × (leads_there edited c.parts ≡ false)
by_component edited a d c is out =
    let both = or_parts (edited a) (elim (component d a) [ None ↦ false | Some c ↦ leads_there edited c.parts ]) out in
    (both.0, ap (λ (o : Option Made). elim o [ None ↦ false | Some c ↦ leads_there edited c.parts ]) (sym is) ∙ both.1)

-- ---- One component.

-- two instances: the second one says the same of its place as the first one, and its component stood where that of the first one did
pub record IsLike (m : Marks) (old now : Items) (s : Shell) (h : Head) (inside : Parts) (u : Shell) (k : Head) (within : Parts) : Type 0 where
  pub says : says_same u s ≡ true
  pub stood : address_before m h.at ≡ Some k.at
  pub there : component now h.at ≡ Some (record { head = h; parts = inside })
  pub was : component old k.at ≡ Some (record { head = k; parts = within })

abbrev pub AreLike : Marks → (old now : Items) → (now was : Parts) → Type 0
AreLike m old now no_parts no_parts = Unit {0}
AreLike m old now no_parts (part was u k within others) = ⊥
AreLike m old now (part at s h inside rest) no_parts = ⊥
AreLike m old now (part at s h inside rest) (part was u k within others) = IsLike m old now s h inside u k within × AreLike m old now rest others

-- instances that say the same of their places, of components of the same kind and values whose instances are alike
abbrev pub AreAlike : (now was : Parts) → Type 0
AreAlike no_parts no_parts = Unit {0}
AreAlike no_parts (part was u k within others) = ⊥
AreAlike (part at s h inside rest) no_parts = ⊥
AreAlike (part at s h inside rest) (part was u k within others) =
    (says_same u s ≡ true) × (h.kind ≡ k.kind) × ((p : List ℕ) → lays_out p ≡ true → stated h p ≡ stated k p) × AreAlike inside within × AreAlike rest others

-- a component stood at this address as that one
pub record StoodAs (m : Marks) (old now : Items) (a : List ℕ) (c : Made) : Type 0 where
  pub at : List ℕ
  pub before : Made
  pub stood : address_before m a ≡ Some at
  pub there : component old at ≡ Some before
  pub kind : c.head.kind ≡ before.head.kind
  pub states : (p : List ℕ) → lays_out p ≡ true → stated c.head p ≡ stated before.head p
  pub parts : AreLike m old now c.parts before.parts

module _ (m : Marks) (old now : Items) (described : Describes m old now) (ordered : AreInOrder m) where
  module _ (a : List ℕ) (t : Items) (s : StoodAt m old now a t) (there : body_at a now ≡ Some t) (none : any_has_another_type m old now a (items_in a now) ≡ false) where
    one_like : (x y : ℕ × Shell) (rest others : Parts) → IsBeside s.marks s.was t x y → AreLike m old now rest others
        → AreLike m old now (found_part now (a ++ y.0 ∷ []) y.1 rest) (found_part old (s.at ++ x.0 ∷ []) x.1 others)
    one_like x y rest others h more =
        by (component_of now (a ++ y.0 ∷ [])) (component_of old (s.at ++ x.0 ∷ [])) refl refl
        (leads m old now a t s there x y h (none_other m old now a (items_in a now) y.0 none (let l = next_within (list_of t) y.0 h.item h.is in omega (arith, l, count))))
      where
        count : items_in a now ≡ length (list_of t)
        count = ap (λ (o : Option Items). elim o [ None ↦ 0 | Some t ↦ length (list_of t) ]) there

        by : (o u : Option (List ℕ)) → component_of now (a ++ y.0 ∷ []) ≡ o → component_of old (s.at ++ x.0 ∷ []) ≡ u → LeadAlike m o u
            → AreLike m old now (with_made (a ++ y.0 ∷ []) y.1 (option_and_then (component now) o) rest) (with_made (s.at ++ x.0 ∷ []) x.1 (option_and_then (component old) u) others)
        by None None e f lead = more
        by None (Some q) e f lead = absurd lead
        by (Some p) None e f lead = absurd lead
        by (Some p) (Some q) e f lead =
            let z = had s.marks s.was t y.0 x.0 h.firsts h.inside h.item s.described h.is h.told in
            let c = component_there now a t y.0 h.item p there h.is e in
            let k = component_there old s.at s.was x.0 z.item q s.there z.is f in
            let place : c.0.head.at ≡ p = (as_found now p c.0 c.1).place in
            let before : k.0.head.at ≡ q = (as_found old q k.0 k.1).place in
            subst (λ o. AreLike m old now (with_made (a ++ y.0 ∷ []) y.1 o rest) (with_made (s.at ++ x.0 ∷ []) x.1 (component old q) others)) (sym c.1)
            (subst (λ o. AreLike m old now (part (a ++ y.0 ∷ []) y.1 c.0.head c.0.parts rest) (with_made (s.at ++ x.0 ∷ []) x.1 o others)) (sym k.1)
            (record { says = h.says; stood = ap (address_before m) place ∙ lead ∙ ap Some (sym before); there = ap (component now) place ∙ c.1; was = ap (component old) before ∙ k.1 }, more))

    all_like : (xs ys : List (ℕ × Shell)) → AllZip (IsBeside s.marks s.was t) xs ys → AreLike m old now (found now a ys) (found old s.at xs)
    all_like [] [] h = tt
    all_like [] (y ∷ ys) h = absurd h
    all_like (x ∷ xs) [] h = absurd h
    all_like (x ∷ xs) (y ∷ ys) h = one_like x y (found now a ys) (found old s.at xs) h.0 (all_like xs ys h.1)

  -- a body that isn't edited is that of a component that was there before
  by_stood : (i : ℕ) (a : List ℕ) (c : Made) (s : StoodAt m old now (i ∷ a) c.head.body) (at : List ℕ) → s.at ≡ at → length at ≡ length (i ∷ a) → component now (i ∷ a) ≡ Some c
      → any_has_another_type m old now (i ∷ a) (items_in (i ∷ a) now) ≡ false → StoodAs m old now (i ∷ a) c
  by_stood i a c s [] is l e none = absurd (omega (arith, l))
  by_stood i a c s (j ∷ b) is l e none =
      let f = as_found now (i ∷ a) c e in
      let there : body_at (j ∷ b) old ≡ Some s.was = ap (λ q. body_at q old) (sym is) ∙ s.there in
      let k = some_made (component old (j ∷ b)) (holds old j b ∙ ap is_some there) in
      let g = as_found old (j ∷ b) k.0 k.1 in
      let both = same_Some (record { kind = c.head.kind; body = s.was }) (record { kind = k.0.head.kind; body = k.0.head.body })
      (sym (s.kinds c.head.kind f.component) ∙ ap (component_at old) is ∙ g.component) in
      let body : s.was ≡ k.0.head.body = ap (λ (c : Component). c.body) both in
      let now_parts : c.parts ≡ found now (i ∷ a) (spots 0 (list_of c.head.body)) = f.parts ∙ instances_found now (i ∷ a) 0 c.head.body in
      let old_parts : k.0.parts ≡ found old s.at (spots 0 (list_of s.was)) =
      g.parts ∙ instances_found old (j ∷ b) 0 k.0.head.body ∙ (λ z. found old (sym is z) (spots 0 (list_of (sym body z)))) in
      record {
        at = j ∷ b;
        before = k.0;
        stood = ap (address_before m) (sym (append-nil (i ∷ a))) ∙ s.before [] ∙ ap Some (append-nil s.at ∙ is);
        there = k.1;
        kind = ap (λ (c : Component). c.kind) both;
        states = λ p lays.
            let own : own_value p c.head.body ≡ own_value p k.0.head.body = sym (same_owns p lays s.marks s.was c.head.body s.described s.ordered s.still) ∙ ap (own_value p) body in
            let outer = f.defaults p ∙ sym (s.defaults p lays) ∙ ap (λ q. nearest_default q old p) is ∙ sym (g.defaults p) in
            λ z. option_or (own z) (outer z);
        parts =
            subst (λ ps. AreLike m old now ps k.0.parts) (sym now_parts)
            (subst (AreLike m old now (found now (i ∷ a) (spots 0 (list_of c.head.body)))) (sym old_parts)
            (all_like (i ∷ a) c.head.body s f.body none (spots 0 (list_of s.was)) (spots 0 (list_of c.head.body)) (all_beside s.marks s.was c.head.body s.described s.ordered s.still)));
      }

  pub stood_as : (a : List ℕ) (c : Made) → component now a ≡ Some c → edits m old now a ≡ false → StoodAs m old now a c
  stood_as [] c e still = absurd (let no : None ≡ Some c = e in cc)
  stood_as (i ∷ a) c e still =
      let both = or_parts (is_edited_at (i ∷ a) m now) (any_has_another_type m old now (i ∷ a) (items_in (i ∷ a) now)) still in
      let s = stood (i ∷ a) m old now c.head.body described ordered both.0 (as_found now (i ∷ a) c e).body in
      by_stood i a c s s.at refl s.deep e both.1

  -- ---- All the way down.

  pub all_alike : (ps qs : Parts) → AreLike m old now ps qs → leads_there (edits m old now) ps ≡ false → AreAlike ps qs
  all_alike no_parts no_parts h out = tt
  all_alike no_parts (part was u k within others) h out = absurd h
  all_alike (part at s h inside rest) no_parts g out = absurd g
  all_alike (part at s h inside rest) (part was u k within others) g out =
      let outs = or_parts (edits m old now h.at || leads_there (edits m old now) inside) (leads_there (edits m old now) rest) out in
      let here = or_parts (edits m old now h.at) (leads_there (edits m old now) inside) outs.0 in
      let d = stood_as h.at (record { head = h; parts = inside }) g.0.there here.0 in
      let same : d.before ≡ record { head = k; parts = within } = same_before h k within d g.0.stood g.0.was in (
        g.0.says,
        d.kind ∙ ap (λ (c : Made). c.head.kind) same,
        λ p lays. d.states p lays ∙ ap (λ (c : Made). stated c.head p) same,
        all_alike inside within (subst (λ (c : Made). AreLike m old now inside c.parts) same d.parts) here.1,
        all_alike rest others g.1 outs.1,
      )
    where
      same_before : (h k : Head) (within : Parts) (d : StoodAs m old now h.at (record { head = h; parts = inside })) → address_before m h.at ≡ Some k.at
          → component old k.at ≡ Some (record { head = k; parts = within }) → d.before ≡ record { head = k; parts = within }
      same_before h k within d stood was =
          let at : ◌≡◌ {A = Option (List ℕ)} (Some d.at) (Some k.at) = sym d.stood ∙ stood in
          let place = same_Some d.at k.at at in
          let both : ◌≡◌ {A = Option Made} (Some d.before) (Some (record { head = k; parts = within })) = sym d.there ∙ ap (component old) place ∙ was in
          same_Some d.before (record { head = k; parts = within }) both
