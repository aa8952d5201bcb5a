-- A body that isn't edited stood somewhere before, and became what it is by marks that change nothing on which layouts depend.
use Rattle.std.proofs.Common.{◌≡◌, ℕ, suc, true, false, List, [], ◌∷◌, ◌++◌, length, Option, Some, None, unwrap_or, refl, sym, ap, subst, ◌∙◌, arith}
use Rattle.std.specs.Prelude.{slice_get, option_map, option_and_then}
use Rattle.std.specs.Option.{option_or}
use Rattle.std.proofs.lemmas.Bool.{or_parts}
use Rattle.std.proofs.lemmas.Option.{same_Some}
use Rattle.std.proofs.lemmas.Iterator.Adapters.{option_map_id}
use Rattle.rdl_tree.specs.Address.{inner, body_at}
use Rattle.rdl_tree.specs.Component.{own_component}
use Rattle.rdl_tree.specs.ItemAt.{item_at}
use Rattle.rdl_tree.specs.Items.{Items}
use Rattle.rdl_tree.specs.View.{list_of, own_body}
use Rattle.rdl_tree.specs.declared.description.Component.{Component}
use Rattle.rdl_tree.specs.declared.description.Item.{Item}
use Rattle.rdl_tree.specs.declared.description.Item.TheVariants.{Define, Instance, Own, Default, Dynamic}
use Rattle.rdl_tree.specs.declared.description.Of.TheVariants.{Named, Anonymous}
use Rattle.rdl_tree.specs.declared.shell.Kind.{Kind}
use Rattle.rdl_tree.proofs.Rounds.{inner-slice_get}
use Rattle.rdl_scope.specs.Types.{component_at}
use Rattle.rdl_scope.specs.Value.{nearest_default}
use Rattle.rdl_scope.proofs.Accepted.{inner-own}
use Rattle.rdl_marks.specs.Describes.{Describes, IsItem}
use Rattle.rdl_marks.specs.InOrder.{AreInOrder}
use Rattle.rdl_marks.specs.Marks.{Firsts, Marks}
use Rattle.rdl_marks.specs.View.{Trace, new_item, old_item}
use Rattle.rdl_marks.specs.Was.{trace_of}
use Rattle.rdl_marks.proofs.From.{IsFrom}
use Rattle.rdl_reach.specs.Before.{number_then, address_before}
use Rattle.rdl_reach.specs.EditedBodies.{lays_out, is_edited, sets_default, edited_inside, is_edited_at}
use Rattle.rdl_renew.proofs.ItemSteps.{inside_in_order}
use Rattle.rdl_reach.proofs.MarksInside.{inside_then, marks_inside}
use Rattle.rdl_renew.proofs.Raised.{from_there}
use Rattle.rdl_reach.proofs.Values.{default_before}

-- ---- One item.

-- the component of an item that was there became of the old item's component
pub record Inside (old : Items) (n : ℕ) (inside : Marks) (k : Kind) (body : Items) : Type 0 where
  pub item : Item
  pub was : Items
  pub is : IsItem n old item
  pub holds : own_component item ≡ Some (record { kind = k; body = was })
  pub there : inner n old ≡ Some was
  pub described : Describes inside was body

own_inside : (x : Item) (k : Kind) (b : Items) → own_component x ≡ Some (record { kind = k; body = b }) → own_body x ≡ Some b
own_inside (Define n c) k b e = ap (λ (d : Component). Some d.body) (same_Some c (record { kind = k; body = b }) e)
own_inside (Instance s (Named t)) k b e = absurd cc
own_inside (Instance s (Anonymous c)) k b e = ap (λ (d : Component). Some d.body) (same_Some c (record { kind = k; body = b }) e)
own_inside (Own p v) k b e = absurd cc
own_inside (Default p v) k b e = absurd cc
own_inside (Dynamic t p v) k b e = absurd cc

inner_there : (n : ℕ) (t : Items) (x : Item) (k : Kind) (b : Items) → IsItem n t x → own_component x ≡ Some (record { kind = k; body = b }) → inner n t ≡ Some b
inner_there n t x k b is own = inner-slice_get n t ∙ ap (option_and_then own_body) is ∙ own_inside x k b own

pub was_inside : (old : Items) (n : ℕ) (f : Firsts) (inside : Marks) (x : Item) (k : Kind) (body : Items) → IsFrom old (old_item n f inside) x → own_component x ≡ Some (record { kind = k; body = body })
    → Inside old n inside k body
was_inside old n f inside (Define m c) k body h own =
    subst (λ (d : Component). Inside old n inside d.kind d.body) (same_Some c (record { kind = k; body = body }) own)
    (record {
      item = Define (unwrap_or f.defined m) (record { kind = c.kind; body = h.0.0 });
      was = h.0.0;
      is = h.0.1;
      holds = refl;
      there = inner_there n old (Define (unwrap_or f.defined m) (record { kind = c.kind; body = h.0.0 })) c.kind h.0.0 h.0.1 refl;
      described = record { items = h.0.2; gone = h.0.3; once = h.0.4 };
    })
was_inside old n f inside (Instance s (Named t)) k body h own = absurd cc
was_inside old n f inside (Instance s (Anonymous c)) k body h own =
    subst (λ (d : Component). Inside old n inside d.kind d.body) (same_Some c (record { kind = k; body = body }) own)
    (record {
      item = Instance (unwrap_or f.shell s) (Anonymous (record { kind = c.kind; body = h.0.0 }));
      was = h.0.0;
      is = h.0.1;
      holds = refl;
      there = inner_there n old (Instance (unwrap_or f.shell s) (Anonymous (record { kind = c.kind; body = h.0.0 }))) c.kind h.0.0 h.0.1 refl;
      described = record { items = h.0.2; gone = h.0.3; once = h.0.4 };
    })
was_inside old n f inside (Own p v) k body h own = absurd cc
was_inside old n f inside (Default p v) k body h own = absurd cc
was_inside old n f inside (Dynamic t p v) k body h own = absurd cc

-- ---- A body.

-- the body at this address stood at that one, of the same kind, under the same defaults
pub record StoodAt (m : Marks) (old now : Items) (a : List ℕ) (t : Items) : Type 0 where
  pub at : List ℕ
  pub was : Items
  pub marks : Marks
  pub deep : length at ≡ length a
  pub before : (c : List ℕ) → address_before m (a ++ c) ≡ option_map (λ b. at ++ b) (address_before marks c)
  pub along : marks_inside a m ≡ Some marks
  pub there : body_at at old ≡ Some was
  pub described : Describes marks was t
  pub ordered : AreInOrder marks
  pub still : is_edited marks t ≡ false
  pub unset : sets_default marks t ≡ false
  pub kinds : (k : Kind) → component_at now a ≡ Some (record { kind = k; body = t }) → component_at old at ≡ Some (record { kind = k; body = was })
  pub defaults : (p : List ℕ) → lays_out p ≡ true → nearest_default at old p ≡ nearest_default a now p

map_twice : (n : ℕ) (at : List ℕ) (o : Option (List ℕ)) → option_map (λ b. n ∷ b) (option_map (λ b. at ++ b) o) ≡ option_map (λ b. (n ∷ at) ++ b) o
map_twice n at None = refl
map_twice n at (Some b) = refl

module _ (m : Marks) (old now : Items) (i n : ℕ) (f : Firsts) (inside : Marks) (body : Items) (described : Describes m old now) (ordered : AreInOrder m) (unset : sets_default m now ≡ false)
    (told : trace_of m i ≡ Some (old_item n f inside)) (unmoved : f.is_moved ≡ false) (within : inner i now ≡ Some body) where
  item : (x : Item) × (k : Kind) × (slice_get (list_of now) i ≡ Some x) × (own_component x ≡ Some (record { kind = k; body = body }))
  item = inner-own i now body within

  inner_was : Inside old n inside item.1 body
  inner_was = was_inside old n f inside item.0 item.1 body (from_there m old now i (old_item n f inside) item.0 described item.2 told) item.3

  kind_here : (a : List ℕ) (t : Items) (s : StoodAt inside inner_was.was body a t) (at : List ℕ) → s.at ≡ at → length at ≡ length a → (k : Kind)
      → component_at now (i ∷ a) ≡ Some (record { kind = k; body = t }) → component_at old (n ∷ at) ≡ Some (record { kind = k; body = s.was })
  kind_here [] t s [] e l k h =
      let own : own_component item.0 ≡ Some (record { kind = k; body = t }) = ap (option_and_then own_component) (sym item.2) ∙ h in
      let both : ◌≡◌ {A = Option Component} (Some (record { kind = item.1; body = body })) (Some (record { kind = k; body = t })) = sym item.3 ∙ own in
      let kind : item.1 ≡ k = ap (λ (c : Component). c.kind) (same_Some (record { kind = item.1; body = body }) (record { kind = k; body = t }) both) in
      let whole : inner_was.was ≡ s.was = same_Some inner_was.was s.was (ap (λ b. body_at b inner_was.was) (sym e) ∙ s.there) in
      ap (option_and_then own_component) inner_was.is ∙ inner_was.holds ∙ (λ j. Some (record { kind = kind j; body = whole j }))
  kind_here [] t s (z ∷ at) e l k h = absurd (omega (arith, l))
  kind_here (j ∷ a) t s [] e l k h = absurd (omega (arith, l))
  kind_here (j ∷ a) t s (z ∷ at) e l k h =
      let deeper = s.kinds k (sym (ap (λ o. option_and_then own_component (option_and_then (item_at (j ∷ a)) o)) within) ∙ h) in
      ap (λ o. option_and_then own_component (option_and_then (item_at (z ∷ at)) o)) inner_was.there ∙ ap (component_at inner_was.was) (sym e) ∙ deeper

  one_deeper : (a : List ℕ) (t : Items) → StoodAt inside inner_was.was body a t → StoodAt m old now (i ∷ a) t
  one_deeper a t s = record {
    at = n ∷ s.at;
    was = s.was;
    marks = s.marks;
    deep = ap suc s.deep;
    before = λ c. ap (number_then (λ inside. address_before inside (a ++ c))) told ∙ ap (option_map (λ b. n ∷ b)) (s.before c) ∙ map_twice n s.at (address_before s.marks c);
    along = ap (inside_then (marks_inside a)) told ∙ s.along;
    there = ap (option_and_then (body_at s.at)) inner_was.there ∙ s.there;
    described = s.described;
    ordered = s.ordered;
    still = s.still;
    unset = s.unset;
    kinds = λ k h. kind_here a t s s.at refl s.deep k h;
    defaults = λ p lays.
        let deeper = ap (option_and_then (λ b. nearest_default s.at b p)) inner_was.there ∙ s.defaults p lays ∙ sym (ap (option_and_then (λ b. nearest_default a b p)) within) in
        let here = default_before p lays m old now described ordered unset i n f inside item.0 item.2 told unmoved in
        λ j. option_or (deeper j) (here j);
  }

pub stood : (a : List ℕ) (m : Marks) (old now t : Items) → Describes m old now → AreInOrder m → is_edited_at a m now ≡ false → body_at a now ≡ Some t → StoodAt m old now a t
stood [] m old now t described ordered e there =
    let both = or_parts (is_edited m now) (sets_default m now) e in
    let same : now ≡ t = cc in
    subst (StoodAt m old now []) same
    (record {
      at = [];
      was = old;
      marks = m;
      deep = refl;
      before = λ c. sym (option_map_id (address_before m c));
      along = refl;
      there = refl;
      described = described;
      ordered = ordered;
      still = both.0;
      unset = both.1;
      kinds = λ k h. absurd (let no : None ≡ Some (record { kind = k; body = now }) = h in cc);
      defaults = λ p lays. refl;
    })
stood (i ∷ a) m old now t described ordered e there =
    by (trace_of m i) (inner i now) refl refl (or_parts (sets_default m now) (edited_inside (is_edited_at a) (trace_of m i) (inner i now)) e).1 there
    (λ inside was body d o still at. stood a inside was body t d o still at)
  where
    unset : sets_default m now ≡ false
    unset = (or_parts (sets_default m now) (edited_inside (is_edited_at a) (trace_of m i) (inner i now)) e).0

    by : (told : Option Trace) (within : Option Items) → trace_of m i ≡ told → inner i now ≡ within → edited_inside (is_edited_at a) told within ≡ false → option_and_then (body_at a) within ≡ Some t
        → ((inside : Marks) (was body : Items) → Describes inside was body → AreInOrder inside → is_edited_at a inside body ≡ false → body_at a body ≡ Some t → StoodAt inside was body a t) → StoodAt m old now (i ∷ a) t
    by None within g w e there deeper = absurd (let no : true ≡ false = e in cc)
    by (Some new_item) within g w e there deeper = absurd (let no : true ≡ false = e in cc)
    by (Some (old_item n f inside)) None g w e there deeper = absurd (let no : None ≡ Some t = there in cc)
    by (Some (old_item n f inside)) (Some body) g w e there deeper =
        let both = or_parts f.is_moved (is_edited_at a inside body) e in
        let was = inner_was m old now i n f inside body described ordered unset g both.0 w in
        one_deeper m old now i n f inside body described ordered unset g both.0 w a t (deeper inside was.was body was.described (inside_in_order m i n f inside ordered g) both.1 there)
