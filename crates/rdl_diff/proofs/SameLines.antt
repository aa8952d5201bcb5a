-- Nothing is said exactly where two maps have the same rows.
use Rattle.std.proofs.Common.{◌≡◌, ◌⊎◌, inl, inr, ℕ, Bool, true, false, List, [], ◌∷◌, ◌++◌, map, flat_map, Option, Some, None, refl, sym, ap, ◌∙◌, subst, if◌then◌else◌, bytes_eq}
use Rattle.std.specs.Prelude.{◌||◌}
use Rattle.rdl_elab.proofs.Names.{is_named, all-named, names-apart}
use Rattle.rdl_elab.specs.declared.row.Row.{Row}
use Rattle.rdl_tree.specs.Properties.{row as row_of, properties}
use Rattle.rdl_tree.specs.declared.property.Property.{Property}
use Rattle.std.specs.List.{filter}
use Rattle.rdl_diff.specs.Choices.{is_told, is_always_told, tells_each}
use Rattle.rdl_diff.specs.DiffText.{Change, change, base_change, told_change, changes, Line, renamed, gone, come, gone_line, changed_line, new_line, lines_beside, is_kept}
use Rattle.rdl_diff.specs.Renames.{lone, lone_if, new_path, renames, renames_of, row_from}
use Rattle.rdl_diff.specs.declared.choice.Choice.{Choice}
use Rattle.rdl_diff.specs.declared.choice.Severity.TheVariants.{Any}
use Rattle.rdl_diff.specs.Paths.{path, row_at}
use Rattle.rdl_diff.specs.SameRows.{HaveOwnPaths, TellTheSame, TellAlike, TellAsAsked, TellsAll, AreBoth, AreAtEachPath, HaveTheSameRows, HaveRowsAlike, IsAmong}
use Rattle.rdl_diff.specs.Told.{told, same, whats}
use Rattle.rdl_diff.specs.Written.{diff_text}
use Rattle.rdl_diff.specs.declared.moves.Moves.{Moves}
use Rattle.rdl_diff.specs.declared.moves.Moves.TheVariants.{Own, Each}
use Rattle.rdl_diff.specs.declared.what.What.{What}
use Rattle.rdl_diff.specs.declared.what.What.TheVariants as what
use Rattle.rdl_diff.proofs.Alike.{sound, itself}
use Rattle.rdl_diff.proofs.Members.{among-map, none-flat, empty-flat, empty-parts}
use Rattle.rdl_diff.proofs.OwnPaths.{found-own, at-among, among-at}
use Rattle.rdl_diff.proofs.Texts.{no_lines, no_text}

-- ---- All parts are compared.

named-in : (p : Property) (ps : List Property) → is_named (row_of p).name ps ≡ true → IsAmong p ps
named-in p [] e = cc
named-in p (q ∷ qs) e = by (bytes_eq (row_of q).name (row_of p).name) refl e (named-in p qs)
  where
    by : (b : Bool) → bytes_eq (row_of q).name (row_of p).name ≡ b → b || is_named (row_of p).name qs ≡ true → (is_named (row_of p).name qs ≡ true → IsAmong p qs) → IsAmong p (q ∷ qs)
    by true f e rest = inl (sym (names-apart q p f))
    by false f e rest = inr (rest e)

-- each part is the kind, the base, or one of the others
in-whats : (w : What) → (w ≡ what.Kind) ⊎ ((w ≡ what.Base) ⊎ IsAmong w whats)
unfolding whats
in-whats what.Kind = inl refl
in-whats what.Base = inr (inl refl)
in-whats what.Offset = inr (inr (inl refl))
in-whats what.Size = inr (inr (inr (inl refl)))
in-whats what.Dims = inr (inr (inr (inr (inl refl))))
in-whats what.Stride = inr (inr (inr (inr (inr (inl refl)))))
in-whats what.Bits = inr (inr (inr (inr (inr (inr (inl refl))))))
in-whats (what.Value p) = inr (inr (inr (inr (inr (inr (inr (among-map what.Value properties p (named-in p properties (all-named p)))))))))

-- and the base is none of the others
not-a-value : (ps : List Property) → IsAmong what.Base (map what.Value ps) → ⊥
not-a-value [] h = absurd h
not-a-value (p ∷ ps) (inl e) = cc
not-a-value (p ∷ ps) (inr h) = not-a-value ps h

not-in-whats : IsAmong what.Base whats → ⊥
unfolding whats
not-in-whats (inl e) = cc
not-in-whats (inr (inl e)) = cc
not-in-whats (inr (inr (inl e))) = cc
not-in-whats (inr (inr (inr (inl e)))) = cc
not-in-whats (inr (inr (inr (inr (inl e))))) = cc
not-in-whats (inr (inr (inr (inr (inr h))))) = not-a-value properties h

-- ---- Parts that are told wherever they differ.

told-anywhere : (m : Moves) (ps : List Property) (w : What) → (w ≡ what.Base → ⊥) → is_always_told m ps w ≡ is_told ps w
told-anywhere m ps what.Kind not = refl
told-anywhere m ps what.Base not = absurd (not refl)
told-anywhere m ps what.Offset not = refl
told-anywhere m ps what.Size not = refl
told-anywhere m ps what.Dims not = refl
told-anywhere m ps what.Stride not = refl
told-anywhere m ps what.Bits not = refl
told-anywhere m ps (what.Value p) not = refl

all-told : (ps : List Property) → ps ≡ [] → (w : What) → is_told ps w ≡ true
all-told ps e what.Kind = refl
all-told ps e what.Base = refl
all-told ps e what.Offset = refl
all-told ps e what.Size = refl
all-told ps e what.Dims = refl
all-told ps e what.Stride = refl
all-told ps e what.Bits = refl
all-told ps e (what.Value p) = ap (λ qs. is_told qs (what.Value p)) e

-- ---- The changes of two rows.

module _ (o n : Row) where
  abbrev this : What → Change
  this w = record { what = w; old = told w o; new = told w n }

  no-change : (w : What) → told w o ≡ told w n → change o n w ≡ []
  no-change w t = ap (λ b. if b then [] else this w ∷ []) (ap (same (told w o)) (sym t) ∙ itself (told w o))

  unchanged : (w : What) → change o n w ≡ [] → told w o ≡ told w n
  unchanged w e = by (same (told w o) (told w n)) refl e
    where
      by : (b : Bool) → same (told w o) (told w n) ≡ b → (if b then [] else this w ∷ []) ≡ [] → told w o ≡ told w n
      by true f e = sound (told w o) (told w n) f
      by false f e = cc

  no-told-change : (ps : List Property) (w : What) → (is_told ps w ≡ true → told w o ≡ told w n) → told_change ps o n w ≡ []
  no-told-change ps w t = by (is_told ps w) refl
    where
      by : (b : Bool) → is_told ps w ≡ b → (if b then change o n w else []) ≡ []
      by true e = no-change w (t e)
      by false e = refl

  unchanged-told : (ps : List Property) (w : What) → is_told ps w ≡ true → told_change ps o n w ≡ [] → told w o ≡ told w n
  unchanged-told ps w e none = unchanged w (ap (λ b. if b then change o n w else []) (sym e) ∙ none)

  module _ (c : Choice) where
    abbrev ps : List Property
    ps = c.ignored.items

    no-base : (m : Moves) → (tells_each m ≡ true → told what.Base o ≡ told what.Base n) → told what.Offset o ≡ told what.Offset n → base_change m o n ≡ []
    no-base Own base offset = ap (λ b. if b then [] else change o n what.Base) (ap (same (told what.Offset o)) (sym offset) ∙ itself (told what.Offset o))
    no-base Each base offset = no-change what.Base (base refl)

    no-changes : TellAsAsked c o n → changes c o n ≡ []
    no-changes t = λ i. no-change what.Kind (t what.Kind refl) i ++ no-base c.moves (t what.Base) (t what.Offset refl) i ++ others i
      where
        others : flat_map (told_change ps o n) whats ≡ []
        others = none-flat (told_change ps o n) whats (λ w h. no-told-change ps w (λ e.
            t w (told-anywhere c.moves ps w (λ is. not-in-whats (subst (λ v. IsAmong v whats) is h)) ∙ e)))

    base-same : (m : Moves) → tells_each m ≡ true → base_change m o n ≡ [] → told what.Base o ≡ told what.Base n
    base-same Own e none = let no : false ≡ true = e in cc
    base-same Each e none = unchanged what.Base none

    told-as-asked : changes c o n ≡ [] → TellAsAsked c o n
    told-as-asked e w asked = by (in-whats w)
      where
        parts : (change o n what.Kind ++ base_change c.moves o n ≡ []) × (flat_map (told_change ps o n) whats ≡ [])
        parts = empty-parts (change o n what.Kind ++ base_change c.moves o n) (flat_map (told_change ps o n) whats) e

        front : (change o n what.Kind ≡ []) × (base_change c.moves o n ≡ [])
        front = empty-parts (change o n what.Kind) (base_change c.moves o n) parts.0

        by : (w ≡ what.Kind) ⊎ ((w ≡ what.Base) ⊎ IsAmong w whats) → told w o ≡ told w n
        by (inl is) = unchanged w (ap (change o n) is ∙ front.0)
        by (inr (inl is)) = subst (λ v. told v o ≡ told v n) (sym is) (base-same c.moves (ap (is_always_told c.moves ps) (sym is) ∙ asked) front.1)
        by (inr (inr h)) =
            let not : w ≡ what.Base → ⊥ = λ is. not-in-whats (subst (λ v. IsAmong v whats) is h) in
            unchanged-told ps w (sym (told-anywhere c.moves ps w not) ∙ asked) (empty-flat (told_change ps o n) whats w parts.1 h)

-- ---- What is asked, and the rest.

weaker : {P Q : Row → Row → Type 0} → ((r s : Row) → P r s → Q r s) → (a b : Option Row) → AreBoth P a b → AreBoth Q a b
weaker f None None h = tt
weaker f (Some r) (Some s) h = f r s h
weaker f None (Some s) h = absurd h
weaker f (Some r) None h = absurd h

own-asked : (c : Choice) → c.moves ≡ Own → (r s : Row) → TellAlike r s → TellAsAsked c r s
own-asked c own r s t w asked = t w (λ is. let no : false ≡ true = sym (ap (λ v. is_always_told c.moves c.ignored.items v) is ∙ ap tells_each own) ∙ asked in cc)

asked-alike : (c : Choice) → c.ignored.items ≡ [] → (r s : Row) → TellAsAsked c r s → TellAlike r s
asked-alike c all r s t w not = t w (told-anywhere c.moves c.ignored.items w not ∙ all-told c.ignored.items all w)

asked-same : (c : Choice) → c.moves ≡ Each → c.ignored.items ≡ [] → (r s : Row) → TellAsAsked c r s → TellTheSame r s
asked-same c each all r s t w = by (in-whats w)
  where
    base : told what.Base r ≡ told what.Base s
    base = t what.Base (ap tells_each each)

    by : (w ≡ what.Kind) ⊎ ((w ≡ what.Base) ⊎ IsAmong w whats) → told w r ≡ told w s
    by (inl is) = asked-alike c all r s t w (λ f. let no : what.Kind ≡ what.Base = sym is ∙ f in cc)
    by (inr (inl is)) = subst (λ v. told v r ≡ told v s) (sym is) base
    by (inr (inr h)) = asked-alike c all r s t w (λ f. not-in-whats (subst (λ v. IsAmong v whats) f h))

-- ---- No lines.

module _ (c : Choice) where
  abbrev Asked : Row → Row → Type 0
  Asked = TellAsAsked c

  gone-none : (o r : Row) (q : Option Row) → AreBoth Asked (Some o) q → gone_line q r ≡ []
  gone-none o r (Some n) t = refl
  gone-none o r None t = absurd t

  lone-none : (o r : Row) (rs : List Row) (q : Option Row) → AreBoth Asked (Some o) q → lone_if q r rs ≡ []
  lone-none o r rs (Some n) t = refl
  lone-none o r rs None t = absurd t

  new-none : (r : Row) (q : Option Row) → AreBoth Asked q (Some r) → new_line c q r ≡ []
  new-none r (Some o) t = ap (changed_line (path r)) (no-changes o r c t)
  new-none r None t = absurd t

  pub asked-none : (old new : List Row) → HaveOwnPaths new → AreAtEachPath Asked old new → diff_text c old new ≡ []
  asked-none old new own t =
      no_text c old new (ap (λ xs. filter (is_kept c.severity) (lines_beside xs c old new)) no-renames ∙ ap (filter (is_kept c.severity)) (λ i. gone-part i ++ new-part i))
    where
      there : (r : Row) → IsAmong r old → (o : Row) × AreBoth Asked (Some o) (row_at (path r) new)
      there r h = let f = among-at old r h in (f.row, subst (λ o. AreBoth Asked o (row_at (path r) new)) f.at (t (path r)))

      alone : (rows : List Row) → ((r : Row) → IsAmong r rows → IsAmong r old) → lone path (λ p. row_at p new) rows ≡ []
      alone [] h = refl
      alone (r ∷ rs) h =
          let f = there r (h r (inl refl)) in
          λ i. lone-none f.0 r rs (row_at (path r) new) f.1 i ++ alone rs (λ s k. h s (inr k)) i

      no-renames : renames old new ≡ []
      no-renames = ap (λ xs. renames_of xs (lone path (λ p. row_at p old) new)) (alone old (λ r h. h))

      gone-part : flat_map (λ r. gone_line (row_at (path r) new) r) old ≡ []
      gone-part = none-flat (λ r. gone_line (row_at (path r) new) r) old (λ r h. let f = there r h in gone-none f.0 r (row_at (path r) new) f.1)

      new-part : flat_map (λ r. new_line c (row_at (path r) old) r) new ≡ []
      new-part = none-flat (λ r. new_line c (row_at (path r) old) r) new (λ r h.
          new-none r (row_at (path r) old) (subst (λ n. AreBoth Asked (row_at (path r) old) n) (found-own new r own h) (t (path r))))

  pub same-none : (old new : List Row) → HaveOwnPaths new → HaveTheSameRows old new → diff_text c old new ≡ []
  same-none old new own t = asked-none old new own (λ p. weaker (λ r s h w _. h w) (row_at p old) (row_at p new) (t p))

  pub alike-none : (old new : List Row) → c.moves ≡ Own → HaveOwnPaths new → HaveRowsAlike old new → diff_text c old new ≡ []
  alike-none old new moves own t = asked-none old new own (λ p. weaker (own-asked c moves) (row_at p old) (row_at p new) (t p))

  pub itself-none : (rows : List Row) → HaveOwnPaths rows → diff_text c rows rows ≡ []
  itself-none rows own = same-none rows rows own (λ p. alike (row_at p rows))
    where
      alike : (o : Option Row) → AreBoth TellTheSame o o
      alike None = tt
      alike (Some r) = λ w. refl

-- ---- And back.

-- all lines are kept
all-kept : (ls : List Line) → filter (is_kept Any) ls ≡ ls
all-kept [] = refl
all-kept (l ∷ ls) = ap (λ ms. l ∷ ms) (all-kept ls)

no-pairs : (xs : List (Row × Row)) → map (λ x. renamed x.0 x.1) xs ≡ [] → xs ≡ []
no-pairs [] e = refl
no-pairs (x ∷ xs) e = cc

gone-some : (r : Row) (q : Option Row) → gone_line q r ≡ [] → q ≡ None → ⊥
gone-some r q e f = let line : gone r ∷ [] ≡ [] = ap (λ o. gone_line o r) (sym f) ∙ e in cc

no-line : (p : List (List ℕ)) (cs : List Change) → changed_line p cs ≡ [] → cs ≡ []
no-line p [] e = refl
no-line p (c ∷ cs) e = cc

module _ (c : Choice) (any : c.severity ≡ Any) where
  new-some : (r : Row) (q : Option Row) → new_line c q r ≡ [] → q ≡ None → ⊥
  new-some r q e f = let line : come r ∷ [] ≡ [] = ap (λ o. new_line c o r) (sym f) ∙ e in cc

  pub none-asked : (old new : List Row) → diff_text c old new ≡ [] → AreAtEachPath (TellAsAsked c) old new
  none-asked old new e = at
    where
      whole : lines_beside (renames old new) c old new ≡ []
      whole = sym (all-kept (lines_beside (renames old new) c old new)) ∙ ap (λ s. filter (is_kept s) (lines_beside (renames old new) c old new)) (sym any) ∙ no_lines c old new e

      none : renames old new ≡ []
      none =
          let first = map (λ x. renamed x.0 x.1) (renames old new) in
          let second = flat_map (λ r. gone_line (row_at (new_path (renames old new) r) new) r) old in
          let third = flat_map (λ r. new_line c (row_from (renames old new) (path r) old) r) new in
          no-pairs (renames old new) (empty-parts first second (empty-parts (first ++ second) third whole).0).0

      parts : (flat_map (λ r. gone_line (row_at (path r) new) r) old ≡ []) × (flat_map (λ r. new_line c (row_at (path r) old) r) new ≡ [])
      parts = empty-parts (flat_map (λ r. gone_line (row_at (path r) new) r) old) (flat_map (λ r. new_line c (row_at (path r) old) r) new) (ap (λ xs. lines_beside xs c old new) (sym none) ∙ whole)

      of-old : (r : Row) → IsAmong r old → gone_line (row_at (path r) new) r ≡ []
      of-old r h = empty-flat (λ r. gone_line (row_at (path r) new) r) old r parts.0 h

      of-new : (r : Row) → IsAmong r new → new_line c (row_at (path r) old) r ≡ []
      of-new r h = empty-flat (λ r. new_line c (row_at (path r) old) r) new r parts.1 h

      by : (p : List (List ℕ)) (o n : Option Row) → row_at p old ≡ o → row_at p new ≡ n → AreBoth (TellAsAsked c) o n
      by p None None f g = tt
      by p (Some o) None f g =
          let h = at-among p old o f in
          gone-some o (row_at (path o) new) (of-old o h.0) (ap (λ q. row_at q new) (sym h.1) ∙ g)
      by p None (Some n) f g =
          let h = at-among p new n g in
          new-some n (row_at (path n) old) (of-new n h.0) (ap (λ q. row_at q old) (sym h.1) ∙ f)
      by p (Some o) (Some n) f g =
          let h = at-among p new n g in
          let there : row_at (path n) old ≡ Some o = ap (λ q. row_at q old) (sym h.1) ∙ f in
          told-as-asked o n c (no-line (path n) (changes c o n) (ap (λ q. new_line c q n) (sym there) ∙ of-new n h.0))

      at : (p : List (List ℕ)) → AreBoth (TellAsAsked c) (row_at p old) (row_at p new)
      at p = by p (row_at p old) (row_at p new) refl refl

pub none-same : (c : Choice) (old new : List Row) → TellsAll c → c.moves ≡ Each → diff_text c old new ≡ [] → HaveTheSameRows old new
none-same c old new all each e = λ p. weaker (asked-same c each all.1) (row_at p old) (row_at p new) (none-asked c all.0 old new e p)

pub none-alike : (c : Choice) (old new : List Row) → TellsAll c → diff_text c old new ≡ [] → HaveRowsAlike old new
none-alike c old new all e = λ p. weaker (asked-alike c all.1) (row_at p old) (row_at p new) (none-asked c all.0 old new e p)
