-- Items that stay quietly, one by one.
use Rattle.std.proofs.Common.{◌≡◌, ℕ, ◌||◌, ◌&&◌, true, false, IsTrue, List, Option, Some, None, refl, ap, sym, ◌∙◌}
use Rattle.std.specs.Prelude.{not, unwrap_or, bytes_eq}
use Rattle.std.proofs.lemmas.Bool.Decides.{Decides-eqb}
use Rattle.std.proofs.lemmas.Slice.Eq.{bytes_eq-Decides}
use Rattle.rdl_tree.specs.Items.{Items, no_items}
use Rattle.rdl_tree.specs.View as tree
use Rattle.rdl_tree.specs.Part.{has_part, part_of, with_part}
use Rattle.rdl_tree.specs.declared.description.Item.{Item}
use Rattle.rdl_tree.specs.declared.description.Item.TheVariants.{Define, Instance, Own, Default, Dynamic}
use Rattle.rdl_tree.specs.declared.description.Of.TheVariants.{Named, Anonymous}
use Rattle.rdl_tree.specs.declared.part.Part.{Part}
use Rattle.rdl_tree.specs.declared.part.Part.TheVariants.{OfShell, OfValue, OfTarget, OfType, OfDefine}
use Rattle.rdl_tree.specs.declared.shell.Shell.{Shell}
use Rattle.rdl_marks.specs.Marks.{Firsts, Traces, no_traces}
use Rattle.rdl_marks.specs.View.{Trace, new_item, old_item, same_item, add, traces_of}
use Rattle.rdl_marks.specs.Noted.{exchanged, moved}
use Rattle.rdl_renew.specs.AlikeSlots.{same_range, says_same}
use Rattle.rdl_nodes.specs.Placed.{same_stated}
use Rattle.rdl_reach.specs.Quiet.{is_quiet, IsQuietPart, SaysTheSame}
use Rattle.rdl_reach.specs.QuietMarks.{StayQuiet}

abbrev pub IsQuietly : Trace → Item → Type 0
IsQuietly e x = StayQuiet (add e no_traces) (tree.add x no_items)

abbrev pub AreQuietly : List Trace → List Item → Type 0
AreQuietly es xs = StayQuiet (traces_of es) (tree.items_of xs)

-- ---- One item, and those behind it.

pub first_quiet : (e : Trace) (t : Traces) (x : Item) (xs : Items) → StayQuiet (add e t) (tree.add x xs) → IsQuietly e x × StayQuiet t xs
first_quiet new_item t (Define n c) xs h = absurd h
first_quiet new_item t (Instance s (Named n)) xs h = ((h.0, tt), h.1)
first_quiet new_item t (Instance s (Anonymous c)) xs h = absurd h
first_quiet new_item t (Own p v) xs h = ((h.0, tt), h.1)
first_quiet new_item t (Default p v) xs h = ((h.0, tt), h.1)
first_quiet new_item t (Dynamic n p v) xs h = ((h.0, tt), h.1)
first_quiet (old_item k f m) t (Define n c) xs h = ((h.0, tt), h.1)
first_quiet (old_item k f m) t (Instance s (Named n)) xs h = ((h.0, tt), h.1)
first_quiet (old_item k f m) t (Instance s (Anonymous c)) xs h = ((h.0, tt), h.1)
first_quiet (old_item k f m) t (Own p v) xs h = ((h.0, tt), h.1)
first_quiet (old_item k f m) t (Default p v) xs h = ((h.0, tt), h.1)
first_quiet (old_item k f m) t (Dynamic n p v) xs h = ((h.0, tt), h.1)

pub more_quiet : (e : Trace) (t : Traces) (x : Item) (xs : Items) → IsQuietly e x → StayQuiet t xs → StayQuiet (add e t) (tree.add x xs)
more_quiet new_item t (Define n c) xs h k = absurd h
more_quiet new_item t (Instance s (Named n)) xs h k = (h.0, k)
more_quiet new_item t (Instance s (Anonymous c)) xs h k = absurd h
more_quiet new_item t (Own p v) xs h k = (h.0, k)
more_quiet new_item t (Default p v) xs h k = (h.0, k)
more_quiet new_item t (Dynamic n p v) xs h k = (h.0, k)
more_quiet (old_item i f m) t (Define n c) xs h k = (h.0, k)
more_quiet (old_item i f m) t (Instance s (Named n)) xs h k = (h.0, k)
more_quiet (old_item i f m) t (Instance s (Anonymous c)) xs h k = (h.0, k)
more_quiet (old_item i f m) t (Own p v) xs h k = (h.0, k)
more_quiet (old_item i f m) t (Default p v) xs h k = (h.0, k)
more_quiet (old_item i f m) t (Dynamic n p v) xs h k = (h.0, k)

pub none_more : (e : Trace) (t : Traces) → StayQuiet (add e t) no_items → ⊥
none_more new_item t h = h
none_more (old_item n f m) t h = h

pub new_quiet : (x : Item) → is_quiet x ≡ true → IsQuietly new_item x
new_quiet (Define n c) h = cc
new_quiet (Instance s (Named n)) h = (h, tt)
new_quiet (Instance s (Anonymous c)) h = cc
new_quiet (Own p v) h = (h, tt)
new_quiet (Default p v) h = (h, tt)
new_quiet (Dynamic n p v) h = (h, tt)

-- ---- An instance says the same.

stated-refl : (m : Option ℕ) → same_stated m m ≡ true
stated-refl None = refl
stated-refl (Some n) = (Decides-eqb n n).1 refl

range-refl : (r : Option (ℕ × ℕ)) → same_range r r ≡ true
range-refl None = refl
range-refl (Some p) = let low = (Decides-eqb p.0 p.0).1 refl in let high = (Decides-eqb p.1 p.1).1 refl in λ i. low i && high i

says-refl : (s : Shell) → says_same s s ≡ true
says-refl s =
    let dims = (bytes_eq-Decides s.dims s.dims).1 refl in
    let range = range-refl s.range in
    let address = stated-refl s.address in
    let stride = stated-refl s.stride in
    let align = stated-refl s.align in
    λ i. dims i && range i && address i && stride i && align i

-- what says the same says no other than the first one did
says-on : (first s u : Shell) → SaysTheSame s u → says_same first u ≡ says_same first s
says-on first s u h =
    let dims = sym h.dims in
    let range = sym h.range in
    let address = sym h.address in
    let stride = sym h.stride in
    let align = sym h.align in
    λ i. bytes_eq first.dims (dims i) && same_range first.range (range i) && same_stated first.address (address i) && same_stated first.stride (stride i) && same_stated first.align (align i)

-- an item that is as it was
pub same_quiet : (k : ℕ) (x : Item) → IsQuietly (same_item k) x
same_quiet k (Define n c) = (((λ e. refl), tt, tt), tt)
same_quiet k (Instance s (Named n)) = ((λ e. ap not (says-refl s)), tt)
same_quiet k (Instance s (Anonymous c)) = (((λ e. ap not (says-refl s)), tt, tt), tt)
same_quiet k (Own p v) = ((λ e. refl), tt)
same_quiet k (Default p v) = ((λ e. refl), tt)
same_quiet k (Dynamic n p v) = ((λ e. refl), tt)

-- ---- What a patch makes of it.

quiet-not : (x : Item) (A : Type 0) → is_quiet x ≡ true → is_quiet x ≡ false → A
quiet-not x A q e = absurd (let no : true ≡ false = sym q ∙ e in cc)

pub moved_quiet : (e : Trace) (x : Item) → is_quiet x ≡ true → IsQuietly e x → IsQuietly (moved e) x
moved_quiet new_item x q h = h
moved_quiet (old_item k f m) (Define n c) q h = cc
moved_quiet (old_item k f m) (Instance s (Named n)) q h = cc
moved_quiet (old_item k f m) (Instance s (Anonymous c)) q h = cc
moved_quiet (old_item k f m) (Own p v) q h = ((λ e. quiet-not (Own p v) _ q e), tt)
moved_quiet (old_item k f m) (Default p v) q h = ((λ e. quiet-not (Default p v) _ q e), tt)
moved_quiet (old_item k f m) (Dynamic n p v) q h = ((λ e. quiet-not (Dynamic n p v) _ q e), tt)

shell-on : (f : Firsts) (s new : Shell) → SaysTheSame s new → (f.is_moved || not (says_same (unwrap_or f.shell s) s)) ≡ false → (f.is_moved || not (says_same (unwrap_or f.shell s) new)) ≡ false
shell-on f s new q h = ap (λ b. f.is_moved || not b) (says-on (unwrap_or f.shell s) s new q) ∙ h

pub exchanged_quiet : (part : Part) (e : Trace) (x : Item) → IsTrue (has_part part x) → IsQuietPart part x → IsQuietly e x → IsQuietly (exchanged (part_of part x) e) (with_part part x)
exchanged_quiet (OfShell new) new_item (Instance s (Named t)) p q h = let no : false ≡ true = h.0 in cc
exchanged_quiet (OfShell new) new_item (Instance s (Anonymous c)) p q h = absurd h
exchanged_quiet (OfShell new) (old_item i f m) (Instance s (Named t)) p q h = ((λ e. shell-on f s new q (h.0 e)), tt)
exchanged_quiet (OfShell new) (old_item i f m) (Instance s (Anonymous c)) p q h = (((λ e. shell-on f s new q (h.0.0 e)), h.0.1, h.0.2), tt)
exchanged_quiet (OfValue new) new_item (Own n v) p q h = h
exchanged_quiet (OfValue new) new_item (Default n v) p q h = h
exchanged_quiet (OfValue new) new_item (Dynamic t n v) p q h = h
exchanged_quiet (OfValue new) (old_item i f m) (Own n v) p q h = ((λ e. quiet-not (Own n v) _ q e), tt)
exchanged_quiet (OfValue new) (old_item i f m) (Default n v) p q h = ((λ e. quiet-not (Default n v) _ q e), tt)
exchanged_quiet (OfValue new) (old_item i f m) (Dynamic t n v) p q h = ((λ e. quiet-not (Dynamic t n v) _ q e), tt)
exchanged_quiet (OfTarget new) new_item (Dynamic t n v) p q h = h
exchanged_quiet (OfTarget new) (old_item i f m) (Dynamic t n v) p q h = ((λ e. quiet-not (Dynamic t n v) _ q e), tt)
exchanged_quiet (OfType new) new_item (Instance s (Named t)) p q h = let no : false ≡ true = h.0 in cc
exchanged_quiet (OfType new) (old_item i f m) (Instance s (Named t)) p q h = h
exchanged_quiet (OfDefine new) new_item (Define n c) p q h = absurd h
exchanged_quiet (OfDefine new) (old_item i f m) (Define n c) p q h = h
exchanged_quiet new e x p q h = cc
