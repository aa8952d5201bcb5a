-- What marks tell of a body, as lists, and how it changes with the body.
use Rattle.std.proofs.Common.{◌≡◌, ℕ, zero, suc, ◌+◌, ◌-◌, ◌<◌, ◌≤◌, length, List, [], ◌∷◌, drop, Some, IsTrue, refl, ap, sym, ◌∙◌, arith, subst, length-append}
use Rattle.std.specs.Prelude.{insert, remove, slice_get, slice_set}
use Rattle.rdl_tree.specs.Items.{Items, no_items, plain, holder}
use Rattle.rdl_tree.specs.View as tree
use Rattle.rdl_tree.specs.Address.{inner, map_inner}
use Rattle.rdl_tree.specs.Part.{has_part, part_of, with_part}
use Rattle.rdl_tree.specs.declared.description.Item.{Item}
use Rattle.rdl_tree.specs.declared.description.Item.TheVariants.{Define, Instance, Own, Default, Dynamic}
use Rattle.rdl_tree.specs.declared.description.Of.TheVariants.{Named, Anonymous}
use Rattle.rdl_tree.specs.declared.part.Part.{Part}
use Rattle.rdl_tree.specs.declared.part.Part.TheVariants.{OfShell, OfValue, OfTarget, OfType, OfDefine}
use Rattle.rdl_tree.proofs.Rounds as tree_rounds
use Rattle.rdl_marks.specs.Marks.{Traces, Marks}
use Rattle.rdl_marks.specs.View.{Trace, new_item, old_item, Told, run, add, traces_of, list_of, marks_of, told_of}
use Rattle.rdl_marks.specs.Noted.{exchanged, moved, changed_inside, reach, put_in, take_out, gone_as, told_at}
use Rattle.rdl_marks.specs.Describes.{AreFrom, times, Describes}
use Rattle.rdl_marks.proofs.Rounds.{traces_of-list_of}
use Rattle.rdl_marks.proofs.Cuts.{length-run}
use Rattle.rdl_marks.proofs.Times.{times_of, times_in, times-append, times-insert, times-remove, times-set, below, if-below, times-run}
use Rattle.rdl_marks.proofs.From.{IsFrom, AreSo, new_from, none_more, insert_from, remove_from, set_from, push_from, reach_from, from-length}

-- so much is told, but for the numbers that are at hand so often
pub record Tells (t : Told) (old : Items) (xs : List Item) (at_hand : ℕ → ℕ) : Type 0 where
  pub items : AreSo old t.traces (drop t.behind (tree.list_of old)) xs
  pub gone : AreSo old t.gone [] t.items
  pub once : (n : ℕ) → times_in n t.traces + times_in n t.gone + at_hand n ≡ below n t.behind

abbrev pub nothing : ℕ → ℕ
nothing n = 0

as_list : (old : Items) (t : Traces) (rest : List Item) (now : Items) → AreFrom old t rest now → AreSo old (list_of t) rest (tree.list_of now)
as_list old t rest now h =
    subst (λ u. AreFrom old u rest (tree.items_of (tree.list_of now))) (sym (traces_of-list_of t)) (subst (AreFrom old t rest) (sym (tree_rounds.items_of-list_of now)) h)

same_times : (n : ℕ) (m : Marks) → times_in n (list_of m.traces) + times_in n (list_of m.gone) ≡ times n m.traces + times n m.gone
same_times n m =
    ap (λ t. times n t + times_in n (list_of m.gone)) (traces_of-list_of m.traces) ∙ ap (λ t. times n m.traces + times n t) (traces_of-list_of m.gone)

pub to_lists : (m : Marks) (old now : Items) → Describes m old now → Tells (told_of m) old (tree.list_of now) nothing
to_lists m old now h = record {
  items = as_list old m.traces (drop m.behind (tree.list_of old)) now h.items;
  gone = as_list old m.gone [] m.items h.gone;
  once = λ n. (let same : times_in n (list_of m.traces) + times_in n (list_of m.gone) ≡ times n m.traces + times n m.gone = same_times n m in
      let sum : times n m.traces + times n m.gone ≡ below n m.behind = h.once n ∙ if-below n m.behind in omega (arith, same, sum));
}

pub from_lists : (t : Told) (old : Items) (xs : List Item) → Tells t old xs nothing → Describes (marks_of t) old (tree.items_of xs)
from_lists t old xs h = record {
  items = h.items;
  gone = h.gone;
  once = λ n. (let e : times_in n t.traces + times_in n t.gone ≡ below n t.behind = omega (arith, h.once n) in e ∙ sym (if-below n t.behind));
}

-- ---- One item.

pub moved_from : (old : Items) (e : Trace) (x : Item) → IsFrom old e x → IsFrom old (moved e) x
moved_from old new_item x h = h
moved_from old (old_item k f m) (Define n c) h = h
moved_from old (old_item k f m) (Instance s (Named n)) h = h
moved_from old (old_item k f m) (Instance s (Anonymous c)) h = h
moved_from old (old_item k f m) (Own p v) h = h
moved_from old (old_item k f m) (Default p v) h = h
moved_from old (old_item k f m) (Dynamic n p v) h = h

pub moved_times : (n : ℕ) (e : Trace) → times_of n (moved e) ≡ times_of n e
moved_times n new_item = refl
moved_times n (old_item k f m) = refl

pub exchanged_from : (old : Items) (part : Part) (e : Trace) (x : Item) → IsTrue (has_part part x) → IsFrom old e x → IsFrom old (exchanged (part_of part x) e) (with_part part x)
exchanged_from old part new_item x h k = new_from old (with_part part x)
exchanged_from old (OfShell new) (old_item i f m) (Instance s (Named t)) h k = k
exchanged_from old (OfShell new) (old_item i f m) (Instance s (Anonymous c)) h k = k
exchanged_from old (OfValue new) (old_item i f m) (Own p v) h k = k
exchanged_from old (OfValue new) (old_item i f m) (Default p v) h k = k
exchanged_from old (OfValue new) (old_item i f m) (Dynamic t p v) h k = k
exchanged_from old (OfTarget new) (old_item i f m) (Dynamic t p v) h k = k
exchanged_from old (OfType new) (old_item i f m) (Instance s (Named t)) h k = k
exchanged_from old (OfDefine new) (old_item i f m) (Define n c) h k = k
exchanged_from old new (old_item i f m) x h k = cc

pub exchanged_times : (n : ℕ) (part : Part) (e : Trace) → times_of n (exchanged part e) ≡ times_of n e
exchanged_times n part new_item = refl
exchanged_times n part (old_item k f m) = refl

pub inside_times : (n : ℕ) (f : Marks → Marks) (e : Trace) → times_of n (changed_inside f e) ≡ times_of n e
inside_times n f new_item = refl
inside_times n f (old_item k g m) = refl

-- ---- All of a body.

pub reach_length : (n : ℕ) (t : Told) → n ≤ length (reach n t).traces
reach_length n t = omega (arith, length-append t.traces (run t.behind (n - length t.traces)), length-run t.behind (n - length t.traces))

pub reach_tells : (n : ℕ) (t : Told) (old : Items) (xs : List Item) (g : ℕ → ℕ) → n ≤ length xs → Tells t old xs g → Tells (reach n t) old xs g
reach_tells n t old xs g h k =
    let all = from-length old t.traces (drop t.behind (tree.list_of old)) xs k.items in
    let more : ℕ = n - length t.traces in record {
      items = reach_from old t.traces t.behind more xs (omega (arith, all)) k.items;
      gone = k.gone;
      once = λ n. omega (arith, k.once n, times-append n t.traces (run t.behind more), times-run n t.behind more);
    }

pub put_in_tells : (i : ℕ) (e : Trace) (x : Item) (t : Told) (old : Items) (xs : List Item) (g : ℕ → ℕ) → i ≤ length t.traces → IsFrom old e x → ((n : ℕ) → times_of n e ≡ g n) → Tells t old xs g → Tells (put_in i e t) old (insert xs i x) nothing
put_in_tells i e x t old xs g l h s k = record {
  items = insert_from old i e t.traces (drop t.behind (tree.list_of old)) x xs l h k.items;
  gone = k.gone;
  once = λ n. omega (arith, k.once n, times-insert n t.traces i e, s n);
}

pub take_out_tells : (i : ℕ) (e : Trace) (t : Told) (old : Items) (xs : List Item) → i < length t.traces → slice_get t.traces i ≡ Some e → Tells t old xs nothing → Tells (take_out i t) old (remove xs i) (λ n. times_of n e)
take_out_tells i e t old xs l h k = record {
  items = remove_from old i t.traces (drop t.behind (tree.list_of old)) xs l k.items;
  gone = k.gone;
  once = λ n. omega (arith, k.once n, times-remove n t.traces i e h);
}

pub gone_tells : (e : Trace) (x : Item) (t : Told) (old : Items) (xs : List Item) → IsFrom old e x → Tells t old xs (λ n. times_of n e) → Tells (gone_as x e t) old xs nothing
gone_tells new_item x t old xs h k = record { items = k.items; gone = k.gone; once = λ n. k.once n }
gone_tells (old_item i f m) x t old xs h k = record {
  items = k.items;
  gone = push_from old (old_item i f m) t.gone x t.items h k.gone;
  once = λ n. omega (arith, k.once n, times-append n t.gone (old_item i f m ∷ []));
}

pub set_tells : (i : ℕ) (f : Trace → Trace) (e : Trace) (x : Item) (t : Told) (old : Items) (xs : List Item) → i < length t.traces → slice_get t.traces i ≡ Some e → IsFrom old (f e) x → ((n : ℕ) → times_of n (f e) ≡ times_of n e) → Tells t old xs nothing
    → Tells (told_at i f (Some e) t) old (slice_set xs i x) nothing
set_tells i f e x t old xs l h k s r = record {
  items = set_from old i (f e) t.traces (drop t.behind (tree.list_of old)) x xs l k r.items;
  gone = r.gone;
  once = λ n. omega (arith, r.once n, times-set n t.traces i e (f e) h (s n));
}

-- ---- Inside an item.

-- these marks keep describing what becomes of the body
abbrev pub Keep : (f : Marks → Marks) → (F : Items → Items) → (d : Items) → Type 0
Keep f F d = (old : Items) (m : Marks) → Describes m old d → Describes (f m) old (F d)

kept_at : (f : Marks → Marks) (F : Items → Items) (d body old : Items) (m : Marks) → body ≡ d → Keep f F d → Describes m old body → Describes (f m) old (F body)
kept_at f F d body old m e k h = subst (λ u. Describes (f m) old (F u)) (sym e) (k old m (subst (Describes m old) e h))

pub item_from : (old : Items) (i : ℕ) (e : Trace) (es : List Trace) (rest : List Item) (t d : Items) (f : Marks → Marks) (F : Items → Items) → slice_get es i ≡ Some e → inner i t ≡ Some d → Keep f F d
    → AreFrom old (traces_of es) rest t → AreFrom old (traces_of (slice_set es i (changed_inside f e))) rest (map_inner i F t)
item_from old i e [] rest t d f F h g k r = cc
item_from old i e (c ∷ es) rest no_items d f F h g k r = absurd (none_more old c (traces_of es) rest r)
item_from old zero e (c ∷ es) rest (plain p u) d f F h g k r = cc
item_from old zero e (new_item ∷ es) rest (holder q body u) d f F h g k r =
    let same : new_item ≡ e = cc in
    subst (λ c. AreFrom old (add (changed_inside f c) (traces_of es)) rest (holder q (F body) u)) same r
item_from old zero e (old_item j o m ∷ es) rest (holder q body u) d f F h g k r =
    let same : old_item j o m ≡ e = cc in
    let here : body ≡ d = cc in
    let told = kept_at f F d body r.0.0 m here k (record { items = r.0.2; gone = r.0.3; once = r.0.4 }) in
    subst (λ c. AreFrom old (add (changed_inside f c) (traces_of es)) rest (holder q (F body) u)) same ((r.0.0, r.0.1, told.items, told.gone, told.once), r.1)
item_from old (suc i) e (new_item ∷ es) rest (plain p u) d f F h g k r = item_from old i e es rest u d f F h g k r
item_from old (suc i) e (new_item ∷ es) rest (holder q body u) d f F h g k r = item_from old i e es rest u d f F h g k r
item_from old (suc i) e (old_item j o m ∷ es) rest (plain p u) d f F h g k r = (r.0, item_from old i e es rest u d f F h g k r.1)
item_from old (suc i) e (old_item j o m ∷ es) rest (holder q body u) d f F h g k r = (r.0, item_from old i e es rest u d f F h g k r.1)

pub inside_tells : (i : ℕ) (e : Trace) (f : Marks → Marks) (F : Items → Items) (m : Told) (old t d : Items) → slice_get m.traces i ≡ Some e → inner i t ≡ Some d → Keep f F d → Tells m old (tree.list_of t) nothing
    → Tells (told_at i (changed_inside f) (Some e) m) old (tree.list_of (map_inner i F t)) nothing
inside_tells i e f F m old t d h g k r = record {
  items = subst (AreFrom old (traces_of (slice_set m.traces i (changed_inside f e))) (drop m.behind (tree.list_of old))) (sym (tree_rounds.items_of-list_of (map_inner i F t)))
      (item_from old i e m.traces (drop m.behind (tree.list_of old)) t d f F h g k (subst (AreFrom old (traces_of m.traces) (drop m.behind (tree.list_of old))) (tree_rounds.items_of-list_of t) r.items));
  gone = r.gone;
  once = λ n. omega (arith, r.once n, times-set n m.traces i e (changed_inside f e) h (inside_times n f e));
}

pub inner_within : (i : ℕ) (t d : Items) → inner i t ≡ Some d → i < length (tree.list_of t)
inner_within i no_items d e = cc
inner_within zero (plain p u) d e = cc
inner_within zero (holder h body u) d e = omega arith
inner_within (suc i) (plain p u) d e = omega (arith, inner_within i u d e)
inner_within (suc i) (holder h body u) d e = omega (arith, inner_within i u d e)
