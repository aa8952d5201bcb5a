-- Where all items stay quietly no body is edited.
use Rattle.std.proofs.Common.{◌≡◌, ℕ, zero, suc, ◌+◌, ◌-◌, ◌<◌, ◌≤◌, ◌||◌, ◌&&◌, Bool, true, false, if◌then◌else◌, length, List, [], ◌∷◌, Option, Some, None, refl, ap, sym, ◌∙◌, arith, subst, ◌⊎◌, inl, inr}
use Rattle.std.specs.Prelude.{not, slice_get, option_and_then}
use Rattle.std.proofs.lemmas.Bool.{cases_lt, lt-ltb, le-ltb}
use Rattle.rdl_tree.specs.Items.{Items, no_items, plain, holder, Holder, define, anonymous}
use Rattle.rdl_tree.specs.View as tree
use Rattle.rdl_tree.specs.Address.{inner, body_at}
use Rattle.rdl_tree.specs.declared.description.Item.{Item}
use Rattle.rdl_tree.specs.declared.description.Item.TheVariants.{Define, Instance, Own, Default, Dynamic}
use Rattle.rdl_tree.specs.declared.description.Of.TheVariants.{Named, Anonymous}
use Rattle.rdl_marks.specs.Marks.{Firsts, Traces, no_traces, new_trace, old_trace, Marks, no_marks}
use Rattle.rdl_marks.specs.View.{Trace, new_item, old_item, same_item, list_of}
use Rattle.rdl_marks.specs.Was.{trace_of}
use Rattle.rdl_reach.specs.EditedBodies.{is_laid_out, is_layout_default, is_set, is_changed, any_told, any_item, any_changed, edited_inside, is_edited_at}
use Rattle.rdl_reach.specs.Quiet.{is_quiet}
use Rattle.rdl_reach.specs.QuietMarks.{StaysQuietly, AllQuiet, StayQuiet, AreQuietMarks}
use Rattle.rdl_reach.proofs.QuietItems.{IsQuietly, AreQuietly, first_quiet}
use Rattle.rdl_reach.proofs.QuietBodies.{to_lists}

-- ---- One body.

-- what no quiet item is
abbrev IsNoQuiet : (Item → Bool) → Type 0
IsNoQuiet test = (x : Item) → test x ≡ true → is_quiet x ≡ false

laid-out-unquiet : IsNoQuiet is_laid_out
laid-out-unquiet x e = ap (λ b. not (b || is_layout_default x)) e

or-true : (b : Bool) → (b || true) ≡ true
or-true true = refl
or-true false = refl

default-unquiet : IsNoQuiet is_layout_default
default-unquiet x e = ap (λ b. not (is_laid_out x || b)) e ∙ ap not (or-true (is_laid_out x))

module _ (test : Item → Bool) (unquiet : IsNoQuiet test) where
  quiet-fails : (x : Item) → is_quiet x ≡ true → test x ≡ false
  quiet-fails x q = by (test x) refl
    where
      by : (b : Bool) → test x ≡ b → b ≡ false
      by true e = absurd (let no : true ≡ false = sym q ∙ unquiet x e in cc)
      by false e = refl

  stays-unchanged : (n : ℕ) (f : Firsts) (m : Marks) (x : Item) → StaysQuietly f x → is_changed test (old_item n f m) x ≡ false
  stays-unchanged n f m x h = by (test x) refl
    where
      by : (b : Bool) → test x ≡ b → (b && (f.is_moved || is_set f x)) ≡ false
      by true e = h (unquiet x e)
      by false e = refl

  one-unchanged : (e : Trace) (x : Item) → IsQuietly e x → is_changed test e x ≡ false
  one-unchanged new_item (Define n c) h = absurd h
  one-unchanged new_item (Instance s (Named t)) h = quiet-fails (Instance s (Named t)) h.0
  one-unchanged new_item (Instance s (Anonymous c)) h = absurd h
  one-unchanged new_item (Own p v) h = quiet-fails (Own p v) h.0
  one-unchanged new_item (Default p v) h = quiet-fails (Default p v) h.0
  one-unchanged new_item (Dynamic t p v) h = quiet-fails (Dynamic t p v) h.0
  one-unchanged (old_item n f m) (Define d c) h = stays-unchanged n f m (Define d c) h.0.0
  one-unchanged (old_item n f m) (Instance s (Named t)) h = stays-unchanged n f m (Instance s (Named t)) h.0
  one-unchanged (old_item n f m) (Instance s (Anonymous c)) h = stays-unchanged n f m (Instance s (Anonymous c)) h.0.0
  one-unchanged (old_item n f m) (Own p v) h = stays-unchanged n f m (Own p v) h.0
  one-unchanged (old_item n f m) (Default p v) h = stays-unchanged n f m (Default p v) h.0
  one-unchanged (old_item n f m) (Dynamic t p v) h = stays-unchanged n f m (Dynamic t p v) h.0

  none-told : (es : List Trace) (xs : List Item) → AreQuietly es xs → any_told (is_changed test) es xs ≡ false
  none-told [] xs h = refl
  none-told (e ∷ es) [] h = refl
  none-told (e ∷ es) (x ∷ xs) h =
      let parts = first_quiet e _ x (tree.items_of xs) h in
      let one = one-unchanged e x parts.0 in
      let rest = none-told es xs parts.1 in
      λ i. one i || rest i

  none-gone : (t : Items) → AllQuiet t → any_item test (tree.list_of t) ≡ false
  none-gone no_items h = refl
  none-gone (plain p t) h =
      let one = quiet-fails (tree.plain_item p) h.0 in
      let rest = none-gone t h.1 in
      λ i. one i || rest i
  none-gone (holder q body t) h = absurd h

  pub none-changed : (m : Marks) (now : Items) → AreQuietMarks m now → any_changed test m now ≡ false
  none-changed m now h =
      let told = none-told (list_of m.traces) (tree.list_of now) (to_lists m now h).items in
      let gone = none-gone m.items h.gone in
      λ i. told i || gone i

-- ---- All bodies.

pub nothing-quiet : (t : Items) → AreQuietMarks no_marks t
nothing-quiet t = record { items = tt; gone = tt }

-- of an item with a body this is told: it stayed where it was, and inside it all is quiet
pub record IsStill (o : Option Trace) (d : Items) : Type 0 where
  pub number : ℕ
  pub firsts : Firsts
  pub inside : Marks
  pub told : o ≡ Some (old_item number firsts inside)
  pub unmoved : firsts.is_moved ≡ false
  pub quiet : AreQuietMarks inside d

still-first : (f : Firsts) (x : Item) → is_quiet x ≡ false → StaysQuietly f x → f.is_moved ≡ false
still-first f x q h = by f.is_moved refl
  where
    by : (b : Bool) → f.is_moved ≡ b → b ≡ false
    by true e = absurd (let no : true ≡ false = sym (ap (λ c. c || is_set f x) e) ∙ h q in cc)
    by false e = refl

unquiet-holder : (q : Holder) (body : Items) → is_quiet (tree.holder_item q body) ≡ false
unquiet-holder (define n k) body = refl
unquiet-holder (anonymous s k) body = refl

-- among those that are told of one by one
still-told : (t : Traces) (now d : Items) (i : ℕ) → StayQuiet t now → inner i now ≡ Some d → i < length (list_of t) → IsStill (slice_get (list_of t) i) d
still-told no_traces now d i h e l = absurd (omega (arith, l))
still-told (new_trace others) no_items d i h e l = absurd h
still-told (new_trace others) (plain p t) d zero h e l = cc
still-told (new_trace others) (plain p t) d (suc i) h e l = still-told others t d i h.1 e (omega (arith, l))
still-told (new_trace others) (holder q body t) d i h e l = absurd h
still-told (old_trace n f inside behind gone items others) no_items d i h e l = absurd h
still-told (old_trace n f inside behind gone items others) (plain p t) d zero h e l = cc
still-told (old_trace n f inside behind gone items others) (plain p t) d (suc i) h e l = still-told others t d i h.1 e (omega (arith, l))
still-told (old_trace n f inside behind gone items others) (holder q body t) d zero h e l =
    let m : Marks = record { traces = inside; behind = behind; gone = gone; items = items } in
    let here : body ≡ d = cc in
    record {
      number = n;
      firsts = f;
      inside = m;
      told = refl;
      unmoved = still-first f (tree.holder_item q body) (unquiet-holder q body) h.0.0;
      quiet = subst (AreQuietMarks m) here (record { items = h.0.1; gone = h.0.2 });
    }
still-told (old_trace n f inside behind gone items others) (holder q body t) d (suc i) h e l = still-told others t d i h.1 e (omega (arith, l))

pub still-there : (m : Marks) (now d : Items) (i : ℕ) → AreQuietMarks m now → inner i now ≡ Some d → IsStill (trace_of m i) d
still-there m now d i h e = by (cases_lt i (length (list_of m.traces)))
  where
    pick : Bool → Option Trace
    pick b = if b then slice_get (list_of m.traces) i else Some (same_item (m.behind + (i - length (list_of m.traces))))

    by : (i < length (list_of m.traces)) ⊎ (length (list_of m.traces) ≤ i) → IsStill (trace_of m i) d
    by (inl low) = subst (λ o. IsStill o d) (sym (ap pick (lt-ltb i (length (list_of m.traces)) low))) (still-told m.traces now d i h.items e low)
    by (inr high) =
        subst (λ o. IsStill o d) (sym (ap pick (le-ltb i (length (list_of m.traces)) high)))
        (record { number = _; firsts = _; inside = no_marks; told = refl; unmoved = refl; quiet = nothing-quiet d })

next-body : (a : List ℕ) (b : Items) (o : Option Items) → option_and_then (body_at a) o ≡ Some b → (d : Items) × (o ≡ Some d) × (body_at a d ≡ Some b)
next-body a b None e = cc
next-body a b (Some d) e = (d, refl, e)

pub none-edited : (a : List ℕ) (m : Marks) (now b : Items) → AreQuietMarks m now → body_at a now ≡ Some b → is_edited_at a m now ≡ false
none-edited [] m now b h e =
    let laid = none-changed is_laid_out laid-out-unquiet m now h in
    let defaults = none-changed is_layout_default default-unquiet m now h in
    λ i. laid i || defaults i
none-edited (i ∷ a) m now b h e =
    let defaults = none-changed is_layout_default default-unquiet m now h in
    let d = next-body a b (inner i now) e in
    let s = still-there m now d.0 i h d.1 in
    let inside = none-edited a s.inside d.0 b s.quiet d.2 in
    let both : edited_inside (is_edited_at a) (trace_of m i) (inner i now) ≡ false =
    ap (λ o. edited_inside (is_edited_at a) o (inner i now)) s.told ∙ ap (edited_inside (is_edited_at a) (Some (old_item s.number s.firsts s.inside))) d.1 ∙ (λ j. s.unmoved j || inside j) in
    λ j. defaults j || both j
