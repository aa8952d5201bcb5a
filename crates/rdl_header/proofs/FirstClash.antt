-- The names of the first macros in a map, and the search for the first clash among those behind them.
use Rattle.std.proofs.Common.{◌≡◌, ◌<◌, ◌+◌, ℕ, Bool, true, false, cond, List, [], ◌∷◌, ◌++◌, length, get_or, map, take, drop, Option, Some, None, is_some, refl, ap, sym, ◌∙◌, arith}
use Rattle.std.proofs.lemmas.Cmp.{nat_list_eq_equiv}
use Rattle.std.proofs.lemmas.List.{take_more, drop_more, get_or-map, length-map, map-append}
use Rattle.std.specs.Map.{lookup}
use Rattle.std.specs.Prelude.{◌||◌, bytes_eq, slice_range, if◌then◌else◌}
use denote.Ref.{Bor}
use Rattle.indexmap.proofs.CallerLemmas.{insert_entry-new}
use Rattle.indexmap.specs.IndexMap.{IndexMap, get, insert_entry}
use Rattle.rdl_header.specs.declared.stretch.Stretch.{Stretch}
use Rattle.rdl_header.specs.HeaderText.{Macro, is_defined, clash_behind, first_clash}
use Rattle.rdl_header.specs.Lines.{named}

abbrev bare : List ℕ → Macro
bare name = record { name = name; value = [] }

abbrev Name : Type 0
Name = Bor (List ℕ)

abbrev same : Name → Name → Bool
same n m = bytes_eq n.now m.now

-- the names that a map holds, in their order, as macros without values
abbrev pub held : List (Name × Unit {0}) → List Macro
held es = map (λ e. bare e.0.now) es

is_some-cond : {X : Type 0} (b : Bool) (x : X) (r : Option X) → b || is_some r ≡ is_some (cond b (Some x) r)
is_some-cond true x r = refl
is_some-cond false x r = refl

-- a name is defined where a look-up finds it
defined-found : (name : Name) (es : List (Name × Unit {0})) → is_defined name.now (held es) ≡ is_some (lookup (same name) es)
defined-found name [] = refl
defined-found name (e ∷ es) =
    ap (λ b. b || is_defined name.now (held es)) (nat_list_eq_equiv.symm e.0.now name.now)
    ∙ ap (λ b. bytes_eq name.now e.0.now || b) (defined-found name es)
    ∙ is_some-cond (bytes_eq name.now e.0.now) e.1 (lookup (same name) es)

none_found : {X : Type 0} (r : Option X) → is_some r ≡ false → r ≡ None
none_found None h = refl
none_found (Some x) h = cc

module _ {S : Type 0} (known : IndexMap Name (Unit {0}) S) (ms : List Macro) (name : Name) (before : Option (Unit {0})) (holds : held known.entries ≡ ms) (stood : before ≡ get same known name) where
  -- a name is defined where it stood in the map
  pub stood_before : is_defined name.now ms ≡ is_some before
  stood_before = ap (is_defined name.now) (sym holds) ∙ defined-found name known.entries ∙ ap is_some (sym stood)

  -- the name of one macro more goes behind the others
  pub holds_more : is_some before ≡ false → (es : List (Name × Unit {0})) → es ≡ insert_entry same known.entries name tt → held es ≡ ms ++ bare name.now ∷ []
  holds_more new es put =
      ap held (put ∙ insert_entry-new same known name tt (sym stood ∙ none_found before new))
      ∙ map-append (λ (e : Name × Unit {0}). bare e.0.now) known.entries ((name, tt) ∷ [])
      ∙ ap (λ xs. xs ++ bare name.now ∷ []) holds

-- the name of one of them, where it stands in a text
module _ (text name : List ℕ) (names : List Stretch) (i : ℕ) (d : Stretch) (h : i < length names) where
  pub named_inside : i < length (named text names)
  named_inside = let same : length (named text names) ≡ length names = length-map {B = Macro} names (λ s. record { name = slice_range text s.start s.end; value = [] }) in omega arith

  pub named_there : name ≡ slice_range text (get_or names i d).start (get_or names i d).end → bare name ≡ get_or (named text names) i (bare name)
  named_there is = ap bare is ∙ sym (get_or-map (λ s. record { name = slice_range text s.start s.end; value = [] }) names i d (bare name) h)

module _ (ms : List Macro) (i : ℕ) (m : Macro) (h : i < length ms) (item : m ≡ get_or ms i m) where
  pub up_to : take i ms ++ m ∷ [] ≡ take (i + 1) ms
  up_to = sym (take_more ms i m h ∙ ap (λ x. take i ms ++ x ∷ []) (sym item))

  module _ (rest : clash_behind (take i ms) (drop i ms) ≡ first_clash ms) where
    -- the search for a clash begins with this macro
    at_this : (defined : Bool) → is_defined m.name (take i ms) ≡ defined → (if defined then Some m.name else clash_behind (take (i + 1) ms) (drop (i + 1) ms)) ≡ first_clash ms
    at_this defined is =
        ap (λ b. if b then Some m.name else clash_behind (take (i + 1) ms) (drop (i + 1) ms)) (sym is)
        ∙ ap (λ before. if is_defined m.name (take i ms) then Some m.name else clash_behind before (drop (i + 1) ms)) (sym up_to)
        ∙ ap (λ x. clash_behind (take i ms) (x ∷ drop (i + 1) ms)) item
        ∙ ap (clash_behind (take i ms)) (sym (drop_more ms i m h))
        ∙ rest

    pub clash_here : is_defined m.name (take i ms) ≡ true → Some m.name ≡ first_clash ms
    clash_here = at_this true

    pub clash_later : is_defined m.name (take i ms) ≡ false → clash_behind (take (i + 1) ms) (drop (i + 1) ms) ≡ first_clash ms
    clash_later = at_this false
