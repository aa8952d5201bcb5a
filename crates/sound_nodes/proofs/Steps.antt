-- One step of the loops of a search.
use Rattle.std.proofs.Common.{◌≡◌, ℕ, zero, suc, ◌+◌, ◌≤◌, Bool, true, false, List, [], ◌∷◌, ◌++◌, take, drop, length, slice_get, nat_lt, if◌then◌else◌, Some, None, refl, sym, ap, ◌∙◌, arith}
use Rattle.rdl_tree.specs.Items.{Items, no_items, plain, holder, named, own, default, dynamic, define, anonymous}
use Rattle.rdl_tree.specs.Address.{body_at}
use Rattle.rdl_tree.specs.View.{list_of, add}
use Rattle.rdl_tree.specs.declared.description.Item.{Item}
use Rattle.rdl_tree.specs.declared.description.Item.TheVariants as item
use Rattle.rdl_tree.specs.declared.description.Item.TheVariants.{Define as DefineItem, Instance}
use Rattle.rdl_tree.specs.declared.description.Of.TheVariants as Of
use Rattle.rdl_seen.specs.declared.mode.Mode.{Mode}
use Rattle.rdl_seen.specs.declared.seen.Seen.{Seen}
use Rattle.rdl_seen.specs.declared.values.Values.{Values}
use Rattle.rdl_seen.specs.Layouts.{Span}
use Rattle.rdl_nodes.specs.declared.node.Slot.{Slot}
use Rattle.rdl_nodes.specs.declared.node.Slot.TheVariants.{Own, Default, Dynamic, Field, Named, Define, Part}
use Rattle.rdl_nodes.specs.Part as parts
use Rattle.rdl_nodes.specs.Parts.{of_item}
use Rattle.rdl_nodes.specs.View.{slots_of}
use Rattle.rdl_seen.specs.Fields.{first_of, rest_of}
use Rattle.rdl_seen.specs.Meaning.{node_at}
use Rattle.rdl_seen.specs.Slots.{Node, Slots}
use Rattle.sound_nodes.specs.declared.found.Found.{Found}
use Rattle.sound_nodes.specs.declared.found.Found.TheVariants.{Clear, Faulty, Untold}
use Rattle.sound_nodes.specs.Instances.{SeenInstance, instances_from, item_instances}
use Rattle.sound_nodes.specs.Rows.{is_clear, found_or, faulty_or, field_fault, reset_or, fields, seen_row, rows, after_default_if, defaults_before, in_component, in_body, searched}

next : (i : ℕ) → suc i ≡ i + 1
next i = omega arith

pub drop-some : {X : Type 0} (xs : List X) (i : ℕ) (x : X) → slice_get xs i ≡ Some x → drop i xs ≡ x ∷ drop (i + 1) xs
drop-some [] i x e = absurd cc
drop-some (y ∷ ys) zero x e = let same : y ≡ x = cc in ap (λ z. z ∷ ys) same
drop-some (y ∷ ys) (suc i) x e = drop-some ys i x e ∙ ap (λ k. x ∷ drop k (y ∷ ys)) (ap suc (sym (next i)) ∙ next (suc i))

pub take-some : {X : Type 0} (xs : List X) (i : ℕ) (x : X) → slice_get xs i ≡ Some x → take i xs ++ x ∷ [] ≡ take (i + 1) xs
take-some [] i x e = absurd cc
take-some (y ∷ ys) zero x e = let same : y ≡ x = cc in ap (λ z. z ∷ []) (sym same)
take-some (y ∷ ys) (suc i) x e = ap (λ zs. y ∷ zs) (take-some ys i x e) ∙ ap (λ k. take k (y ∷ ys)) (ap suc (sym (next i)) ∙ next (suc i))

pub drop-none : {X : Type 0} (xs : List X) (i : ℕ) → slice_get xs i ≡ None → drop i xs ≡ []
drop-none [] zero e = refl
drop-none [] (suc i) e = refl
drop-none (y ∷ ys) zero e = absurd cc
drop-none (y ∷ ys) (suc i) e = drop-none ys i e

pub drop-past : {X : Type 0} (xs : List X) (i : ℕ) → length xs ≤ i → drop i xs ≡ []
drop-past [] zero h = refl
drop-past [] (suc i) h = refl
drop-past (x ∷ xs) zero h = absurd (omega arith)
drop-past (x ∷ xs) (suc i) h = drop-past xs i (omega arith)

-- ---- What is found.

pub stops : (f g : Found) → is_clear f ≡ false → found_or f g ≡ f
stops Clear g e = absurd cc
stops (Faulty f) g e = refl
stops Untold g e = refl

pub goes-on : (f g : Found) → is_clear f ≡ true → found_or f g ≡ g
goes-on Clear g e = refl
goes-on (Faulty f) g e = absurd cc
goes-on Untold g e = absurd cc

-- ---- Rows.

module _ (below : SeenInstance → Seen → Found) (a : List ℕ) (apart : Bool) (m : Mode) (spans : List Span) (xs : List SeenInstance) (i : ℕ) where
  abbrev from : ℕ → Found
  from k = rows below a apart m (take k spans) (drop k spans) (drop k xs)

  pub rows-end : drop i spans ≡ [] → from i ≡ Clear
  rows-end e = ap (λ ss. rows below a apart m (take i spans) ss (drop i xs)) e

  pub rows-short : (span : Span) → slice_get spans i ≡ Some span → slice_get xs i ≡ None → from i ≡ Clear
  rows-short span e g = λ k. rows below a apart m (take i spans) (drop-some spans i span e k) (drop-none xs i g k)

  pub rows-step : (span : Span) (x : SeenInstance) → slice_get spans i ≡ Some span → slice_get xs i ≡ Some x
      → from i ≡ found_or (seen_row below a apart m (take i spans) span x x.seen) (from (i + 1))
  rows-step span x e g =
      (λ k. rows below a apart m (take i spans) (drop-some spans i span e k) (drop-some xs i x g k))
      ∙ ap (λ ss. found_or (seen_row below a apart m (take i spans) span x x.seen) (rows below a apart m ss (drop (i + 1) spans) (drop (i + 1) xs))) (take-some spans i span e)

-- ---- Fields.

module _ (assigned : Bool) (a : List ℕ) (bits : ℕ) (spans : List Span) (xs : List SeenInstance) (ps : List parts.Part) (i : ℕ) where
  abbrev fields_from : ℕ → Found
  fields_from k = fields assigned a bits (take k spans) (take k ps) (drop k spans) (drop k xs) (drop k ps)

  pub fields-short : (span : Span) → slice_get spans i ≡ Some span → slice_get xs i ≡ None → fields_from i ≡ Clear
  fields-short span e g = λ k. fields assigned a bits (take i spans) (take i ps) (drop-some spans i span e k) (drop-none xs i g k) (drop i ps)

  pub fields-no-part : (span : Span) (x : SeenInstance) → slice_get spans i ≡ Some span → slice_get xs i ≡ Some x → slice_get ps i ≡ None → fields_from i ≡ Clear
  fields-no-part span x e g h = λ k. fields assigned a bits (take i spans) (take i ps) (drop-some spans i span e k) (drop-some xs i x g k) (drop-none ps i h k)

  pub fields-step : (span : Span) (x : SeenInstance) (p : parts.Part) → slice_get spans i ≡ Some span → slice_get xs i ≡ Some x → slice_get ps i ≡ Some p
      → fields_from i
      ≡ faulty_or (a ++ x.number ∷ []) (field_fault bits (take i spans) (take i ps) span p) (reset_or assigned (a ++ x.number ∷ []) span p (fields_from (i + 1)))
  fields-step span x p e g h =
      (λ k. fields assigned a bits (take i spans) (take i ps) (drop-some spans i span e k) (drop-some xs i x g k) (drop-some ps i p h k))
      ∙ (λ k. faulty_or (a ++ x.number ∷ []) (field_fault bits (take i spans) (take i ps) span p) (reset_or assigned (a ++ x.number ∷ []) span p
      (fields assigned a bits (take-some spans i span e k) (take-some ps i p h k) (drop (i + 1) spans) (drop (i + 1) xs) (drop (i + 1) ps))))

-- ---- Instances.

pub slots-first : (ss : List Slot) (i : ℕ) → first_of (slots_of (drop i ss)) ≡ of_item (slice_get ss i)
slots-first [] zero = refl
slots-first [] (suc i) = refl
slots-first (Own ∷ ss) zero = refl
slots-first (Default p ∷ ss) zero = refl
slots-first (Dynamic v ∷ ss) zero = refl
slots-first (Field f ∷ ss) zero = refl
slots-first (Named class s ∷ ss) zero = refl
slots-first (Define class s n ∷ ss) zero = refl
slots-first (Part n ∷ ss) zero = refl
slots-first (x ∷ ss) (suc i) = slots-first ss i

pub slots-rest : (ss : List Slot) (i : ℕ) → rest_of (slots_of (drop i ss)) ≡ slots_of (drop (i + 1) ss)
slots-rest ss i = step ss i ∙ ap (λ k. slots_of (drop k ss)) (next i)
  where
    step : (ss : List Slot) (i : ℕ) → rest_of (slots_of (drop i ss)) ≡ slots_of (drop (suc i) ss)
    step [] zero = refl
    step [] (suc i) = refl
    step (Own ∷ ss) zero = refl
    step (Default p ∷ ss) zero = refl
    step (Dynamic v ∷ ss) zero = refl
    step (Field f ∷ ss) zero = refl
    step (Named class s ∷ ss) zero = refl
    step (Define class s n ∷ ss) zero = refl
    step (Part n ∷ ss) zero = refl
    step (x ∷ ss) (suc i) = step ss i

pub instances-step : (n : ℕ) (x : Item) (rest : Items) (s : Slots) → instances_from n (add x rest) s ≡ item_instances n x (first_of s) ++ instances_from (n + 1) rest (rest_of s)
instances-step n x rest s = step x ∙ ap (λ k. item_instances n x (first_of s) ++ instances_from k rest (rest_of s)) (next n)
  where
    step : (x : Item) → instances_from n (add x rest) s ≡ item_instances n x (first_of s) ++ instances_from (suc n) rest (rest_of s)
    step (DefineItem m c) = refl
    step (Instance z (Of.Named u)) = refl
    step (Instance z (Of.Anonymous c)) = refl
    step (item.Own p v) = refl
    step (item.Default p v) = refl
    step (item.Dynamic u p v) = refl

-- ---- The search.

pub searched-at : (l k : ℕ) → l ≡ suc k → (d : Items) (t : Slots) (assigned : Bool) (m : Mode) (a : List ℕ) (body : Items) (n : Node) → nat_lt (length a) 17 ≡ true
    → body_at a d ≡ Some body → node_at a t ≡ Some n → in_component (searched k d t) d assigned m a body n ≡ searched l d t assigned m a
searched-at l k e d t assigned m a body n short there kept =
    sym
    (ap (λ j. searched j d t assigned m a) e ∙ ap (λ (b : Bool). if b then in_body (searched k d t) d assigned m a (body_at a d) (node_at a t) else Untold) short
    ∙ (λ i. in_body (searched k d t) d assigned m a (there i) (kept i)))

-- ---- Defaults.

pub defaults-none : (v : Values) (t : Items) → defaults_before 0 v t ≡ v
defaults-none v t = refl

pub defaults-step : (i : ℕ) (v : Values) (t : Items) → after_default_if (slice_get (list_of t) i) (defaults_before i v t) ≡ defaults_before (i + 1) v t
defaults-step i v t = step i v t ∙ ap (λ k. defaults_before k v t) (next i)
  where
    step : (i : ℕ) (v : Values) (t : Items) → after_default_if (slice_get (list_of t) i) (defaults_before i v t) ≡ defaults_before (suc i) v t
    step zero v no_items = refl
    step (suc i) v no_items = refl
    step zero v (plain (named s u) rest) = refl
    step zero v (plain (own p x) rest) = refl
    step zero v (plain (default p x) rest) = refl
    step zero v (plain (dynamic u p x) rest) = refl
    step zero v (holder (define n k) body rest) = refl
    step zero v (holder (anonymous s k) body rest) = refl
    step (suc i) v (plain (named s u) rest) = step i v rest
    step (suc i) v (plain (own p x) rest) = step i v rest
    step (suc i) v (plain (default p x) rest) = step i _ rest
    step (suc i) v (plain (dynamic u p x) rest) = step i v rest
    step (suc i) v (holder h body rest) = step i v rest

-- as many are taken as stand before one that is there
pub take-length : {X : Type 0} (xs : List X) (i : ℕ) (x : X) → slice_get xs i ≡ Some x → i ≡ length (take i xs)
take-length [] i x e = absurd cc
take-length (y ∷ ys) zero x e = refl
take-length (y ∷ ys) (suc i) x e = ap suc (take-length ys i x e)
