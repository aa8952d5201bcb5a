-- What is found by what is kept of the instances' components is what the component has.
use Rattle.std.proofs.Common.{◌≡◌, ℕ, zero, suc, Bool, false, ◌+◌, ◌≤◌, ◌<◌, List, [], ◌∷◌, map, length, drop, get_or, Option, Some, None, refl, ap, sym, ◌∙◌, arith, add-one, drop-cons, ◌++◌, append_assoc}
use Rattle.std.specs.Prelude.{max, min, option_map, slice_get, if◌then◌else◌}
use Rattle.std.specs.Option.{option_or}
use Rattle.std.specs.List.{cons_option}
use Rattle.std.proofs.lemmas.List.{drop_all}
use Rattle.rdl_tree.specs.Items.{Items}
use Rattle.rdl_tree.specs.declared.shell.Kind.{Kind}
use Rattle.rdl_tree.specs.declared.shell.Kind.TheVariants.{Addrmap, Regfile, Reg, Field}
use Rattle.rdl_tree.specs.declared.shell.Shell.{Shell}
use Rattle.rdl_scope.specs.Closed.{Head, Parts, no_parts, part}
use Rattle.rdl_elab.specs.declared.layout.Mode.{Mode}
use Rattle.rdl_elab.specs.declared.layout.Mode.TheVariants.{Compact}
use Rattle.rdl_elab.specs.declared.layout.Layout.{Layout}
use Rattle.rdl_elab.specs.declared.layout.Placement.{Placement}
use Rattle.rdl_elab.specs.declared.layout.LayoutValues.{LayoutValues}
use Rattle.rdl_elab.specs.Kept.{Layouts, Part}
use Rattle.rdl_elab.specs.declared.walk.finished.Finished.{Finished}
use Rattle.rdl_elab.specs.Layouts.{values_of, mode_inside, laid_out, layouts, layout, member}
use Rattle.rdl_elab.specs.Capped.{capped_layout, capped_instance}
use Rattle.rdl_elab.proofs.KeptLayouts.{kept-laid_out}
use Rattle.rdl_elab.specs.Faults.{levels, count, is_empty, first_empty}
use Rattle.rdl_elab.specs.Finished.{under, IsPart, AreParts}
use Rattle.rdl_elab.specs.Inside.{shown_placement, kept_part, kept_parts, part_levels, kept_levels, part_rows, finished_rows, lacks_rows, part_empty, kept_empty, IsCounted}

pub or-assoc : {X : Type 0} (a b c : Option X) → option_or (option_or a b) c ≡ option_or a (option_or b c)
or-assoc None b c = refl
or-assoc (Some x) b c = refl

-- whether a component has no instances is seen by its rows
lacks-some : (k : Kind) (n : ℕ) → 0 < n → lacks_rows k n ≡ false
lacks-some k zero h = absurd (omega (arith, h))
lacks-some Addrmap (suc n) h = refl
lacks-some Regfile (suc n) h = refl
lacks-some Reg (suc n) h = refl
lacks-some Field (suc n) h = refl

lacks-empty : (k : Kind) (inside : Parts) (n : ℕ) → n ≡ min (count inside) 65536 → lacks_rows k n ≡ is_empty k inside
lacks-empty k no_parts n e = ap (lacks_rows k) (none n e) ∙ empty k
  where
    none : (n : ℕ) → n ≡ min 0 65536 → n ≡ 0
    none n e = omega arith

    empty : (k : Kind) → lacks_rows k 0 ≡ is_empty k no_parts
    empty Addrmap = refl
    empty Regfile = refl
    empty Reg = refl
    empty Field = refl
lacks-empty k (part at s h inside rest) n e = lacks-some k n (some n (count inside) (count rest) e) ∙ sym (full k)
  where
    some : (n a b : ℕ) → n ≡ min (a + 1 + b) 65536 → 0 < n
    some n a b e = omega arith

    full : (k : Kind) → is_empty k (part at s h inside rest) ≡ false
    full Addrmap = refl
    full Regfile = refl
    full Reg = refl
    full Field = refl

module _ (d : Items) (fs : List Finished) where
  abbrev Inside : (p : Part) (inside : Parts) → Finished → Type 0
  Inside p inside f = AreParts d fs p.component f.parts.items inside

  one-kept : (m : Mode) (n : ℕ) (p : Part) (at : List ℕ) (s : Shell) (h : Head) (inside : Parts) → IsPart d fs n p at s (record { head = h; parts = inside }) (Inside p inside) → kept_part m fs p ≡ Some (capped_instance (s, layout m (record { head = h; parts = inside })))
  one-kept m n p at s h inside x =
      ap (option_map (λ (f : Finished). (p.shell, under m f.layouts))) x.there
      ∙ ap (λ t. Some (t, under m x.finished.layouts)) x.shell
      ∙ ap (λ l. Some (s, l)) (x.kept.layouts m)

  pub parts-kept : (m : Mode) (n : ℕ) (ps : List Part) (inside : Parts) → AreParts d fs n ps inside → kept_parts m fs ps ≡ map capped_instance (layouts m inside)
  parts-kept m n [] no_parts h = refl
  parts-kept m n (p ∷ ps) no_parts h = absurd h
  parts-kept m n [] (part at s k inside rest) h = absurd h
  parts-kept m n (p ∷ ps) (part at s k inside rest) h =
      ap (λ o. cons_option o (kept_parts m fs ps)) (one-kept m n p at s k inside h.0)
      ∙ ap (λ xs. capped_instance (s, layout m (record { head = k; parts = inside })) ∷ xs) (parts-kept m n ps rest h.1)

  pub levels-kept : (n : ℕ) (ps : List Part) (inside : Parts) → AreParts d fs n ps inside → min (kept_levels fs ps) 16 ≡ min (levels inside) 16
  levels-kept n [] no_parts h = refl
  levels-kept n (p ∷ ps) no_parts h = absurd h
  levels-kept n [] (part at s k inside rest) h = absurd h
  levels-kept n (p ∷ ps) (part at s k inside rest) h =
      more (levels inside) (levels rest) h.0.finished.levels (part_levels (slice_get fs p.component)) (kept_levels fs ps) h.0.kept.levels (ap part_levels h.0.there) (levels-kept n ps rest h.1)
    where
      more : (a b f x y : ℕ) → f ≡ min a 16 → x ≡ f + 1 → min y 16 ≡ min b 16 → min (max x y) 16 ≡ min (max (a + 1) b) 16
      more a b f x y e g ih = omega arith

  pub rows-kept : (n : ℕ) (ps : List Part) (inside : Parts) → AreParts d fs n ps inside → min (finished_rows fs ps) 65536 ≡ min (count inside) 65536
  rows-kept n [] no_parts h = refl
  rows-kept n (p ∷ ps) no_parts h = absurd h
  rows-kept n [] (part at s k inside rest) h = absurd h
  rows-kept n (p ∷ ps) (part at s k inside rest) h =
      more (count inside) (count rest) h.0.finished.rows (part_rows (slice_get fs p.component)) (finished_rows fs ps) h.0.kept.rows (ap part_rows h.0.there) (rows-kept n ps rest h.1)
    where
      more : (a b f x y : ℕ) → f ≡ min a 65536 → x ≡ f + 1 → min y 65536 ≡ min b 65536 → min (x + y) 65536 ≡ min (a + 1 + b) 65536
      more a b f x y e g ih = omega arith

  one-empty : (n : ℕ) (p : Part) (at : List ℕ) (s : Shell) (h : Head) (inside : Parts) → (x : IsPart d fs n p at s (record { head = h; parts = inside }) (Inside p inside))
      → part_empty p (slice_get fs p.component) ≡ option_or (if is_empty h.kind inside then Some at else None) (first_empty inside)
  one-empty n p at s h inside x =
      let f = x.finished in
      let kept = x.kept in
      ap (part_empty p) x.there
      ∙ ap (λ b. option_or (if b then Some p.at else None) f.first_empty) (ap (λ k. lacks_rows k f.rows) kept.kind ∙ lacks-empty h.kind inside f.rows kept.rows)
      ∙ ap (λ a. option_or (if is_empty h.kind inside then Some a else None) f.first_empty) x.place
      ∙ ap (λ o. option_or (if is_empty h.kind inside then Some at else None) o) kept.first_empty

  pub empty-kept : (n : ℕ) (ps : List Part) (inside : Parts) → AreParts d fs n ps inside → kept_empty fs ps ≡ first_empty inside
  empty-kept n [] no_parts h = refl
  empty-kept n (p ∷ ps) no_parts h = absurd h
  empty-kept n [] (part at s k inside rest) h = absurd h
  empty-kept n (p ∷ ps) (part at s k inside rest) h =
      ap (λ o. option_or o (kept_empty fs ps)) (one-empty n p at s k inside h.0)
      ∙ ap (option_or (option_or (if is_empty k.kind inside then Some at else None) (first_empty inside))) (empty-kept n ps rest h.1)
      ∙ or-assoc (if is_empty k.kind inside then Some at else None) (first_empty inside) (first_empty rest)

-- steps of the loops over the instances
pub next : (i : ℕ) (ps : List Part) (p : Part) → i < length ps → drop i ps ≡ get_or ps i p ∷ drop (i + 1) ps
next i ps p h = rw add-one (drop-cons ps i p h)

pub kept-next : (m : Mode) (fs : List Finished) (i : ℕ) (ps : List Part) (p : Part) → i < length ps → kept_parts m fs (drop i ps) ≡ cons_option (kept_part m fs (get_or ps i p)) (kept_parts m fs (drop (i + 1) ps))
kept-next m fs i ps p h = ap (kept_parts m fs) (next i ps p h)

pub kept-none : (m : Mode) (fs : List Finished) (i : ℕ) (ps : List Part) → length ps ≤ i → kept_parts m fs (drop i ps) ≡ []
kept-none m fs i ps h = ap (kept_parts m fs) (drop_all i ps h)

pub levels-next : (fs : List Finished) (i : ℕ) (ps : List Part) (p : Part) → i < length ps → kept_levels fs (drop i ps) ≡ max (part_levels (slice_get fs (get_or ps i p).component)) (kept_levels fs (drop (i + 1) ps))
levels-next fs i ps p h = ap (kept_levels fs) (next i ps p h)

pub levels-none : (fs : List Finished) (i : ℕ) (ps : List Part) → length ps ≤ i → kept_levels fs (drop i ps) ≡ 0
levels-none fs i ps h = ap (kept_levels fs) (drop_all i ps h)

pub rows-next : (fs : List Finished) (i : ℕ) (ps : List Part) (p : Part) → i < length ps → finished_rows fs (drop i ps) ≡ part_rows (slice_get fs (get_or ps i p).component) + finished_rows fs (drop (i + 1) ps)
rows-next fs i ps p h = ap (finished_rows fs) (next i ps p h)

pub rows-none : (fs : List Finished) (i : ℕ) (ps : List Part) → length ps ≤ i → finished_rows fs (drop i ps) ≡ 0
rows-none fs i ps h = ap (finished_rows fs) (drop_all i ps h)

pub empty-next : (fs : List Finished) (i : ℕ) (ps : List Part) (p : Part) → i < length ps → kept_empty fs (drop i ps) ≡ option_or (part_empty (get_or ps i p) (slice_get fs (get_or ps i p).component)) (kept_empty fs (drop (i + 1) ps))
empty-next fs i ps p h = ap (kept_empty fs) (next i ps p h)

pub empty-none : (fs : List Finished) (i : ℕ) (ps : List Part) → length ps ≤ i → kept_empty fs (drop i ps) ≡ None
empty-none fs i ps h = ap (kept_empty fs) (drop_all i ps h)

pub ruleset steps = (kept-next, kept-none, levels-next, levels-none, rows-next, rows-none, empty-next, empty-none)

-- no layout of the instances' components depends on the mode
abbrev pub AreSame : List Finished → List Part → Type 0
AreSame fs ps = (m : Mode) → kept_parts m fs ps ≡ kept_parts Compact fs ps

one-same : (fs : List Finished) (p : Part) (f : Finished) → slice_get fs p.component ≡ Some f → ((m : Mode) → under m f.layouts ≡ under Compact f.layouts) → (m : Mode) → kept_part m fs p ≡ kept_part Compact fs p
one-same fs p f e g m =
    ap (option_map (λ (f : Finished). (p.shell, under m f.layouts))) e
    ∙ ap (λ l. Some (p.shell, l)) (g m)
    ∙ sym (ap (option_map (λ (f : Finished). (p.shell, under Compact f.layouts))) e)

none-same : (fs : List Finished) (p : Part) → slice_get fs p.component ≡ None → (m : Mode) → kept_part m fs p ≡ kept_part Compact fs p
none-same fs p e m = ap (option_map (λ (f : Finished). (p.shell, under m f.layouts))) e ∙ sym (ap (option_map (λ (f : Finished). (p.shell, under Compact f.layouts))) e)

module _ (fs : List Finished) (i : ℕ) (ps : List Part) (p : Part) (h : i < length ps) (is : p ≡ get_or ps i p) (inv : AreSame fs (drop i ps) → AreSame fs ps) where
  same-next : ((m : Mode) → kept_part m fs p ≡ kept_part Compact fs p) → AreSame fs (drop (i + 1) ps) → AreSame fs ps
  same-next one rest = inv (λ m. here m ∙ ap (λ o. cons_option o (kept_parts m fs (drop (i + 1) ps))) (one m) ∙ ap (cons_option (kept_part Compact fs p)) (rest m) ∙ sym (here Compact))
    where
      here : (m : Mode) → kept_parts m fs (drop i ps) ≡ cons_option (kept_part m fs p) (kept_parts m fs (drop (i + 1) ps))
      here m = kept-next m fs i ps p h ∙ ap (λ (q : Part). cons_option (kept_part m fs q) (kept_parts m fs (drop (i + 1) ps))) (sym is)

  pub same-some : (f : Finished) → slice_get fs p.component ≡ Some f → ((m : Mode) → under m f.layouts ≡ under Compact f.layouts) → AreSame fs (drop (i + 1) ps) → AreSame fs ps
  same-some f e g = same-next (one-same fs p f e g)

  pub same-none : slice_get fs p.component ≡ None → AreSame fs (drop (i + 1) ps) → AreSame fs ps
  same-none e = same-next (none-same fs p e)

-- the layouts of a component by what is kept of its instances' components
pub layouts-are : (d : Items) (fs : List Finished) (n : ℕ) (ps : List Part) (inside : Parts) (h : Head) (v : LayoutValues) (ls : Layouts) → v ≡ values_of h → AreParts d fs n ps inside
    → ((m : Mode) → under m ls ≡ capped_layout (laid_out h.kind v (mode_inside h.kind v m) (map member (kept_parts (mode_inside h.kind v m) fs ps))))
    → (m : Mode) → under m ls ≡ capped_layout (layout m (record { head = h; parts = inside }))
layouts-are d fs n ps inside h v ls e a g m =
    let w = values_of h in
    let k = mode_inside h.kind w m in
    g m ∙ ap (λ (v : LayoutValues). capped_layout (laid_out h.kind v (mode_inside h.kind v m) (map member (kept_parts (mode_inside h.kind v m) fs ps)))) e
    ∙ ap (λ xs. capped_layout (laid_out h.kind w k (map member xs))) (parts-kept d fs k n ps inside a)
    ∙ kept-laid_out h.kind w k (layouts k inside)

-- one more instance, with its component and without one, for what is taken of each
module _ {X : Type 0} (g : Shell × Layout → X) (m : Mode) (fs : List Finished) (i : ℕ) (ps : List Part) (p : Part) (h : i < length ps) (is : p ≡ get_or ps i p) where
  abbrev left : ℕ → List X
  left n = map g (kept_parts m fs (drop n ps))

  pub taken-some : (f : Finished) (x : X) (done after whole : List X) → slice_get fs p.component ≡ Some f → x ≡ g (p.shell, under m f.layouts) → after ≡ done ++ x ∷ [] → done ++ left i ≡ whole → after ++ left (i + 1) ≡ whole
  taken-some f x done after whole found e same inv =
      let rest = kept_parts m fs (drop (i + 1) ps) in
      let one : kept_parts m fs (drop i ps) ≡ (p.shell, under m f.layouts) ∷ rest =
      kept-next m fs i ps p h ∙ ap (λ (q : Part). cons_option (kept_part m fs q) rest) (sym is)
      ∙ ap (λ o. cons_option (option_map (λ (f : Finished). (p.shell, under m f.layouts)) o) rest) found in
      ap (λ xs. xs ++ map g rest) same ∙ append_assoc done (x ∷ []) (map g rest) ∙ ap (λ y. done ++ y ∷ map g rest) e
      ∙ sym (ap (λ xs. done ++ map g xs) one) ∙ inv

  pub taken-none : (done after whole : List X) → slice_get fs p.component ≡ None → after ≡ done → done ++ left i ≡ whole → after ++ left (i + 1) ≡ whole
  taken-none done after whole found same inv =
      let rest = kept_parts m fs (drop (i + 1) ps) in
      let one : kept_parts m fs (drop i ps) ≡ rest =
      kept-next m fs i ps p h ∙ ap (λ (q : Part). cons_option (kept_part m fs q) rest) (sym is)
      ∙ ap (λ o. cons_option (option_map (λ (f : Finished). (p.shell, under m f.layouts)) o) rest) found in
      ap (λ xs. xs ++ map g rest) same ∙ sym (ap (λ xs. done ++ map g xs) one) ∙ inv

-- no instance is left to be placed
pub placed-all : {L : Type 0} (last : List Placement → L) (m : Mode) (fs : List Finished) (i : ℕ) (ps : List Part) (whole : L) → length ps ≤ i
    → last (map shown_placement (kept_parts m fs (drop i ps))) ≡ whole → last [] ≡ whole
placed-all last m fs i ps whole done inv = sym (ap (λ xs. last (map shown_placement xs)) (kept-none m fs i ps done)) ∙ inv

-- one more instance for the levels, the rows, and the instances that must not be empty
module _ (fs : List Finished) (i : ℕ) (ps : List Part) (p : Part) (o : Option Finished) (h : i < length ps) (is : p ≡ get_or ps i p) (found : slice_get fs p.component ≡ o) where
  pub levels-more : (so_far more whole : ℕ) → min more 16 ≡ min (max so_far (part_levels o)) 16 → min (max so_far (kept_levels fs (drop i ps))) 16 ≡ whole → min (max more (kept_levels fs (drop (i + 1) ps))) 16 ≡ whole
  levels-more so_far more whole e inv =
      let r = kept_levels fs (drop (i + 1) ps) in
      let one : kept_levels fs (drop i ps) ≡ max (part_levels o) r =
      levels-next fs i ps p h ∙ ap (λ (q : Part). max (part_levels (slice_get fs q.component)) r) (sym is) ∙ ap (λ x. max (part_levels x) r) found in
      again so_far more (part_levels o) r e ∙ ap (λ x. min (max so_far x) 16) (sym one) ∙ inv
    where
      again : (s m x r : ℕ) → min m 16 ≡ min (max s x) 16 → min (max m r) 16 ≡ min (max s (max x r)) 16
      again s m x r e = omega arith

  pub rows-more : (so_far more whole : ℕ) → min more 65536 ≡ min (so_far + part_rows o) 65536 → min (so_far + finished_rows fs (drop i ps)) 65536 ≡ whole → min (more + finished_rows fs (drop (i + 1) ps)) 65536 ≡ whole
  rows-more so_far more whole e inv =
      let r = finished_rows fs (drop (i + 1) ps) in
      let one : finished_rows fs (drop i ps) ≡ part_rows o + r =
      rows-next fs i ps p h ∙ ap (λ (q : Part). part_rows (slice_get fs q.component) + r) (sym is) ∙ ap (λ x. part_rows x + r) found in
      again so_far more (part_rows o) r e ∙ ap (λ x. min (so_far + x) 65536) (sym one) ∙ inv
    where
      again : (s m x r : ℕ) → min m 65536 ≡ min (s + x) 65536 → min (m + r) 65536 ≡ min (s + (x + r)) 65536
      again s m x r e = omega arith

  pub empty-more : (e : Option (List ℕ)) (whole : Option (List ℕ)) → e ≡ part_empty p o → kept_empty fs (drop i ps) ≡ whole → option_or e (kept_empty fs (drop (i + 1) ps)) ≡ whole
  empty-more e whole g inv =
      let r = kept_empty fs (drop (i + 1) ps) in
      let one : kept_empty fs (drop i ps) ≡ option_or (part_empty p o) r =
      empty-next fs i ps p h ∙ ap (λ (q : Part). option_or (part_empty q (slice_get fs q.component)) r) (sym is) ∙ ap (λ x. option_or (part_empty p x) r) found in
      ap (λ x. option_or x r) g ∙ sym one ∙ inv

-- an instance that isn't empty, and below which none is
pub full-part : (p : Part) (f : Finished) → lacks_rows f.kind f.rows ≡ false → f.first_empty ≡ None → part_empty p (Some f) ≡ None
full-part p f e g = ap (λ b. option_or (if b then Some p.at else None) f.first_empty) e ∙ g

-- ---- What is counted again.

-- an instance without a component brings nothing
pub nothing-counted : (levels : ℕ) (has_empty : Bool) → levels ≤ 16 → IsCounted None levels has_empty 0
nothing-counted levels has_empty h = record { deep = omega arith; many = refl; full = λ e p. refl }

-- an instance that is counted brings only its rows a second time
pub once-counted :
    (f : Finished) (before levels : ℕ) (has_empty : Bool) (rows : ℕ)
    → levels ≡ min (max before (f.levels + 1)) 16 → min rows 65536 ≡ min (f.rows + 1) 65536
    → (has_empty ≡ false → lacks_rows f.kind f.rows ≡ false) → (has_empty ≡ false → f.first_empty ≡ None)
    → IsCounted (Some f) levels has_empty rows
once-counted f before levels has_empty rows l r e g =
    record {
      deep = omega arith;
      many = r;
      full = λ none p. full-part p f (e none) (g none);
    }
