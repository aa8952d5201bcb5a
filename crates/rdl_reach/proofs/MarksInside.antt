-- The marks inside an item that stayed, at any depth.
use Rattle.std.proofs.Common.{◌≡◌, ℕ, List, [], ◌∷◌, ◌++◌, Option, Some, None, refl, ap, ◌∙◌, sym}
use Rattle.std.specs.Prelude.{option_map}
use Rattle.std.proofs.lemmas.Option.{same_Some}
use Rattle.std.proofs.lemmas.Iterator.Adapters.{option_map_id}
use Rattle.rdl_marks.specs.Marks.{Marks}
use Rattle.rdl_marks.specs.View.{Trace, new_item, old_item}
use Rattle.rdl_marks.specs.Was.{trace_of}
use Rattle.rdl_reach.specs.Before.{number_then, address_before}

abbrev pub inside_then : (Marks → Option Marks) → Option Trace → Option Marks
inside_then f None = None
inside_then f (Some new_item) = None
inside_then f (Some (old_item number firsts inside)) = f inside

-- the marks of the body at an address
abbrev pub marks_inside : List ℕ → Marks → Option Marks
marks_inside [] m = Some m
marks_inside (i ∷ a) m = inside_then (marks_inside a) (trace_of m i)

pub marks_deeper : (b c : List ℕ) (m k : Marks) → marks_inside b m ≡ Some k → marks_inside (b ++ c) m ≡ marks_inside c k
marks_deeper [] c m k e = ap (marks_inside c) (same_Some m k e)
marks_deeper (i ∷ b) c m k e = by (trace_of m i) e (λ inside e. marks_deeper b c inside k e)
  where
    by : (o : Option Trace) → inside_then (marks_inside b) o ≡ Some k → ((inside : Marks) → marks_inside b inside ≡ Some k → marks_inside (b ++ c) inside ≡ marks_inside c k)
        → inside_then (marks_inside (b ++ c)) o ≡ marks_inside c k
    by None e more = absurd (let no : None ≡ Some k = e in cc)
    by (Some new_item) e more = absurd (let no : None ≡ Some k = e in cc)
    by (Some (old_item n f inside)) e more = more inside e

map_more : (n : ℕ) (y : List ℕ) (o : Option (List ℕ)) → option_map (λ z. n ∷ z) (option_map (λ z. y ++ z) o) ≡ option_map (λ z. (n ∷ y) ++ z) o
map_more n y None = refl
map_more n y (Some z) = refl

pub before_deeper : (b c y : List ℕ) (m k : Marks) → marks_inside b m ≡ Some k → address_before m b ≡ Some y → address_before m (b ++ c) ≡ option_map (λ z. y ++ z) (address_before k c)
before_deeper [] c y m k e f =
    sym (option_map_id (address_before m c)) ∙ (λ i. option_map (λ z. same_Some [] y f i ++ z) (address_before (same_Some m k e i) c))
before_deeper (i ∷ b) c y m k e f = by (trace_of m i) e f (λ inside x e f. before_deeper b c x inside k e f)
  where
    deep : (n : ℕ) (inside : Marks) (o : Option (List ℕ)) → address_before inside b ≡ o → option_map (λ z. n ∷ z) o ≡ Some y
        → ((x : List ℕ) → address_before inside b ≡ Some x → address_before inside (b ++ c) ≡ option_map (λ z. x ++ z) (address_before k c))
        → option_map (λ z. n ∷ z) (address_before inside (b ++ c)) ≡ option_map (λ z. y ++ z) (address_before k c)
    deep n inside None g f more = absurd (let no : None ≡ Some y = f in cc)
    deep n inside (Some x) g f more =
        ap (option_map (λ z. n ∷ z)) (more x g) ∙ map_more n x (address_before k c) ∙ ap (λ q. option_map (λ z. q ++ z) (address_before k c)) (same_Some (n ∷ x) y f)

    by : (o : Option Trace) → inside_then (marks_inside b) o ≡ Some k → number_then (λ inside. address_before inside b) o ≡ Some y
        → ((inside : Marks) (x : List ℕ) → marks_inside b inside ≡ Some k → address_before inside b ≡ Some x → address_before inside (b ++ c) ≡ option_map (λ z. x ++ z) (address_before k c))
        → number_then (λ inside. address_before inside (b ++ c)) o ≡ option_map (λ z. y ++ z) (address_before k c)
    by None e f more = absurd (let no : None ≡ Some k = e in cc)
    by (Some new_item) e f more = absurd (let no : None ≡ Some k = e in cc)
    by (Some (old_item n g inside)) e f more = deep n inside (address_before inside b) refl f (λ x h. more inside x e h)
