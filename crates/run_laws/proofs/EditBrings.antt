-- The patches of each accepted edit, and what takes them back.
use Rattle.std.proofs.Common.{◌≡◌, ℕ, suc, ◌+◌, ◌≤◌, Bool, true, false, cond, List, [], ◌∷◌, ◌++◌, length, take, drop, Option, Some, None, Result, Ok, Err, All, IfSome, slice_get, refl, sym, ap, subst, ◌∙◌, arith}
use Rattle.std.specs.Prelude.{◌==◌, is_ok}
use Rattle.std.specs.List.{list_all}
use Rattle.std.proofs.lemmas.List.{length-append}
use Rattle.std.proofs.lemmas.List.Elements.{All-nil, All-cons, All-head, All-tail, All-append, All-weaker}
use Rattle.rdl_text.specs.Name.{IsName}
use Rattle.rdl_tree.specs.ItemAt.{item_at}
use Rattle.rdl_tree.specs.Address.{holder_of, number_of, body_at, map_body}
use Rattle.rdl_tree.specs.Depth.{depth}
use Rattle.rdl_tree.specs.Edit.{remove_item}
use Rattle.rdl_tree.specs.Find.{find}
use Rattle.rdl_tree.specs.Items.{Items, no_items, plain, holder, Plain, named, own, default, dynamic, Holder, define, anonymous, count}
use Rattle.rdl_tree.specs.Limits.{IsWithinLimits, max_weight}
use Rattle.rdl_tree.specs.Patch.{AllFit, image}
use Rattle.rdl_tree.specs.View.{items_of, list_of, plain_item, holder_item}
use Rattle.rdl_tree.specs.Weight.{plain_weight, weight}
use Rattle.rdl_tree.specs.declared.description.Item.{Item}
use Rattle.rdl_tree.specs.declared.description.Item.TheVariants.{Define, Instance, Own, Default, Dynamic}
use Rattle.rdl_tree.specs.declared.part.Part.{Part}
use Rattle.rdl_tree.specs.declared.part.Part.TheVariants.{OfShell, OfTarget, OfType, OfDefine}
use Rattle.rdl_tree.specs.declared.patch.Patch.{Patch}
use Rattle.rdl_tree.specs.declared.patch.Patch.TheVariants.{Insert, Delete, Shift, Exchange}
use Rattle.rdl_tree.specs.declared.path.PathFault.{PathFault}
use Rattle.rdl_tree.specs.declared.path.Segment.{Segment}
use Rattle.rdl_tree.specs.declared.shell.Shell.{Shell}
use Rattle.rdl_tree.specs.declared.value.Value.{Value}
use Rattle.rdl_tree.proofs.Nesting.{body-depth}
use Rattle.rdl_tree.proofs.Places.{body_at-map}
use Rattle.rdl_tree.proofs.Rounds.{items_of-list_of}
use Rattle.rdl_parse.specs.Class.{class}
use Rattle.rdl_scope.specs.Target.{through}
use Rattle.rdl_scope.specs.Types.{type_of}
use Rattle.rdl_rewrite.specs.Addresses.{same, leads_to, passes_by}
use Rattle.rdl_rewrite.specs.Change.{is_component, taken, insert_items, added_at, edited_body}
use Rattle.rdl_rewrite.specs.Fates.{given_if, fate, item_patches, fate_patches}
use Rattle.rdl_rewrite.specs.Patches.{inserts, inserts_at, move, drop_at, set_or_insert, reshape, body_patches, patches_in, patches_on, patches, level_on}
use Rattle.rdl_rewrite.specs.Place.{place_number}
use Rattle.rdl_rewrite.specs.Removal.{goes}
use Rattle.rdl_rewrite.specs.Renaming.{renamed_names, renamed_target, renamed_plain, renamed_items, is_reserved, is_taken}
use Rattle.rdl_rewrite.specs.Rewritten.{path_of, refusal_of, put_body, change_body, by_way, rewritten}
use Rattle.rdl_rewrite.specs.Shell.{edited_shell}
use Rattle.rdl_rewrite.specs.declared.edit.Edit.{Edit}
use Rattle.rdl_rewrite.specs.declared.edit.Edit.TheVariants.{Add, Remove, Rename, Move, Resize, SetBits, SetAddress, SetStride, SetAlign, SetReset, SetOwn, SetDefault, ClearOwn, ClearDefault, Assign, Unassign}
use Rattle.rdl_rewrite.specs.declared.edit.PatchRefusal.TheVariants.{NameTaken, NotAddable, NotAnInstance, Reserved}
use Rattle.rdl_rewrite.specs.declared.place.Place.{Place}
use Rattle.rdl_edit.specs.Step.{State, step}
use Rattle.rdl_edit.proofs.EditsLead.{same-made, steps}
use Rattle.rdl_rewrite.proofs.Made.{patches_made, patches_fit}
use Rattle.rdl_rewrite.proofs.OneBody.{place_within}
use Rattle.rdl_round.specs.Writable.{IsWritable}
use Rattle.run_laws.specs.NewParts.{IsEditOfWords, IsEditSpellable}
use Rattle.rdl_round.specs.OfWords.{IsShellOfWords, IsOfWords}
use Rattle.rdl_round.specs.Spellable.{IsFree, AreFree, IsTarget, IsShell, IsSpellable}
use Rattle.rdl_round.proofs.Each.{chosen, items-fit}
use Rattle.rdl_session.specs.Spelling.{IsItemAddress}
use Rattle.rdl_session.specs.Writable.{IsWritablePart, IsWritablePatch}
use Rattle.rdl_session.proofs.Inverted.{IsGoodPlain, IsGoodHolder, IsGood, IsGoodItem, good, map-good, item-writable, name-some, shell-writable, target-writable}
use Rattle.run_laws.proofs.EditPatches.{AreBothWritable, AtMostOne, AreDeletes, KeepItems, IsHeld, single, taken-out, brought, length-count, way-held}
use Rattle.run_laws.proofs.KeptNames.{class-free}
use Rattle.run_laws.proofs.NewWords.{target-made}
use Rattle.run_laws.proofs.Stepped.{step-writable}
use Rattle.run_laws.proofs.Smaller.{IsPartOf, IsItemOf, IsBodyOf, through as part-through, within-part, body-part, between-part, each-part}

-- ---- An edit that was accepted.

record Accepted (d new : Items) (e : Edit) (way : List ℕ) : Type 0 where
  found : find (path_of e) d ≡ Ok way
  made : by_way (Ok way) d e ≡ Ok new
  from : IsWritable d
  to : IsWritable new

led : (d new : Items) (e : Edit) (way : List ℕ) → Accepted d new e way → rewritten d e ≡ Ok new
led d new e way a = ap (λ r. by_way r d e) a.found ∙ a.made

fitted : (d new : Items) (e : Edit) (way : List ℕ) → Accepted d new e way → level_on (Ok way) d e ≤ 16 → AllFit (patches_on (Ok way) d e) d
fitted d new e way a low = patches_fit d e way (Ok tt) (λ (_ : Unit {0}). patches_on (Ok way) d e) a.found low (ap is_ok a.made) refl

leads-there : (d new : Items) (e : Edit) (way : List ℕ) → Accepted d new e way → level_on (Ok way) d e ≤ 16 → image (patches_on (Ok way) d e) d ≡ new
leads-there d new e way a low =
    let made = patches_made d e way (Ok tt) (λ (_ : Unit {0}). patches_on (Ok way) d e) a.found low (ap is_ok a.made) refl in
    same-made (image (patches_on (Ok way) d e) d) new (rewritten d e) made (led d new e way a)

-- ---- Edits of one item in one body.

moves-one : (way : List ℕ) (from : ℕ) (o : Option ℕ) → AtMostOne (move way from o)
moves-one way from None = tt
moves-one way from (Some n) = tt

drops-one : (way : List ℕ) (o : Option ℕ) → AtMostOne (drop_at way o)
drops-one way None = tt
drops-one way (Some n) = tt

sets-one : (way : List ℕ) (o : Option ℕ) (v : Value) (n : ℕ) (x : Item) → AtMostOne (set_or_insert way o v n x)
sets-one way None v n x = tt
sets-one way (Some m) v n x = tt

shapes-one : (change : Shell → Shell) (at : List ℕ) (o : Option Item) → AtMostOne (reshape change at o)
shapes-one change at None = tt
shapes-one change at (Some (Instance s o)) = tt
shapes-one change at (Some (Define n c)) = tt
shapes-one change at (Some (Own p v)) = tt
shapes-one change at (Some (Default p v)) = tt
shapes-one change at (Some (Dynamic t p v)) = tt

-- the patches are those in the body on the way, if it is there
one-body : (d new : Items) (e : Edit) (way inside : List ℕ) (n : ℕ) → Accepted d new e way → level_on (Ok way) d e ≡ length inside
    → patches_on (Ok way) d e ≡ patches_in inside n e (body_at inside d) → ((b : Items) → AtMostOne (body_patches inside n e b)) → AreBothWritable (patches_on (Ok way) d e) d
one-body d new e way inside n a low is one = by (body_at inside d) refl
  where
    by : (o : Option Items) → body_at inside d ≡ o → AreBothWritable (patches_on (Ok way) d e) d
    by None f = subst (λ ps. AreBothWritable ps d) (sym (is ∙ ap (patches_in inside n e) f)) (record { on = All-nil IsWritablePatch; back = All-nil IsWritablePatch })
    by (Some b) f =
        let level : level_on (Ok way) d e ≤ 16 = omega (arith, low, body-depth inside d b f, a.from.within.deep) in
        let short = subst AtMostOne (sym (is ∙ ap (patches_in inside n e) f)) (one b) in
        single (patches_on (Ok way) d e) d short (fitted d new e way a level) a.from (subst IsWritable (sym (leads-there d new e way a level)) a.to)

-- ---- Removing.

deletes-both : (ps qs : List Patch) → AreDeletes ps → AreDeletes qs → AreDeletes (ps ++ qs)
deletes-both [] qs h k = k
deletes-both (Delete at ∷ ps) qs h k = deletes-both ps qs h k
deletes-both (Insert at x ∷ ps) qs h k = absurd h
deletes-both (Shift at to ∷ ps) qs h k = absurd h
deletes-both (Exchange at part ∷ ps) qs h k = absurd h

fates-delete : (whole : Items) (way b : List ℕ) (n : ℕ) (t : Items) → AreDeletes (fate_patches (fate whole way None) b n t)
fates-delete whole way b n no_items = tt
fates-delete whole way b n (plain p rest) =
    let at = b ++ n ∷ [] in
    deletes-both (fate_patches (fate whole way None) b (suc n) rest) _ (fates-delete whole way b (suc n) rest)
    (chosen (λ f. AreDeletes (item_patches at f [])) (goes whole way at) _ _ tt tt)
fates-delete whole way b n (holder h body rest) =
    let at = b ++ n ∷ [] in
    let inside = fate_patches (fate whole way None) at 0 body in
    deletes-both (fate_patches (fate whole way None) b (suc n) rest) _ (fates-delete whole way b (suc n) rest)
    (chosen (λ f. AreDeletes (item_patches at f inside)) (goes whole way at) _ _ tt (fates-delete whole way at 0 body))

-- ---- Patches that can be written, and take nothing out.

record AreFine (ps : List Patch) : Type 0 where
  writable : All IsWritablePatch ps
  keep : KeepItems ps

fine-none : AreFine []
fine-none = record { writable = All-nil IsWritablePatch; keep = tt }

keep-both : (ps qs : List Patch) → KeepItems ps → KeepItems qs → KeepItems (ps ++ qs)
keep-both [] qs h k = k
keep-both (Delete at ∷ ps) qs h k = absurd h
keep-both (Insert at x ∷ ps) qs h k = keep-both ps qs h k
keep-both (Shift at to ∷ ps) qs h k = keep-both ps qs h k
keep-both (Exchange at part ∷ ps) qs h k = keep-both ps qs h k

fine-both : (ps qs : List Patch) → AreFine ps → AreFine qs → AreFine (ps ++ qs)
fine-both ps qs h k = record { writable = All-append IsWritablePatch ps qs h.writable k.writable; keep = keep-both ps qs h.keep k.keep }

-- items numbered so from here on have addresses
record HasRoom (b : List ℕ) (n more deep : ℕ) : Type 0 where
  held : All IsHeld b
  short : length b + deep ≤ 16
  few : n + more ≤ 131072

here-is : (b : List ℕ) (n more deep : ℕ) → HasRoom b n more deep → IsItemAddress (b ++ n ∷ [])
here-is b n more deep r =
    let long = length-append b (n ∷ []) in
    record { some = omega (arith, long); short = omega (arith, long, r.short); fits = All-append IsHeld b (n ∷ []) r.held (All-cons IsHeld n [] (omega (arith, r.few)) (All-nil IsHeld)) }

-- ---- Renaming.

names-free : (way name : List ℕ) (path names : List (List ℕ)) → IsFree name → AreFree names → AreFree (renamed_names way name path names)
names-free way name [] names f h = h
names-free way name (at ∷ path) [] f h = h
names-free way name (at ∷ path) (n ∷ names) f h = (chosen IsFree (same at way) name n f h.0, names-free way name path names f h.1)

target-free : (way name : List ℕ) (o : Option (List (List ℕ))) (t : List (List ℕ)) → IsFree name → IsTarget t → IsTarget (renamed_target way name o t)
target-free way name None t f h = h
target-free way name (Some path) [] f h = absurd h
target-free way name (Some []) (n ∷ ns) f h = h
target-free way name (Some (at ∷ path)) (n ∷ ns) f h = (chosen IsFree (same at way) name n f h.0, names-free way name path ns f h.1)

module _ (whole : Items) (way name : List ℕ) (is_name : IsName name) (free : IsFree name) where
  abbrev renaming : List ℕ → ℕ → Items → List Patch
  renaming b n t = fate_patches (fate whole way (Some name)) b n t

  given : (z : Bool) (at : List ℕ) (part : Part) (inside : List Patch) → IsItemAddress at → IsWritablePart part → AreFine inside → AreFine (item_patches at (given_if z part) inside)
  given true at part inside a h f = fine-both inside (Exchange at part ∷ []) f (record { writable = All-cons IsWritablePatch (Exchange at part) [] (a, h) (All-nil IsWritablePatch); keep = tt })
  given false at part inside a h f = f

  new-name : IsWritablePart (OfType name)
  new-name = record { name = is_name; free = free }

  new-shell : (s : Shell) → IsShellOfWords s → IsShell s → IsWritablePart (OfShell (record s { name = name }))
  new-shell s h k =
      shell-writable (record s { name = name }) (record { name = is_name; dims = h.dims; range = h.range; reset = h.reset; address = h.address; stride = h.stride; align = h.align })
      (record { free = free; brackets = k.brackets })

  plain-fine : (at : List ℕ) (p : Plain) → IsItemAddress at → IsGoodPlain p → plain_weight (renamed_plain whole way name at p) ≤ max_weight → AreFine (item_patches at (fate whole way (Some name) at (plain_item p)) [])
  plain-fine at (named s t) a g w =
      chosen (λ f. AreFine (item_patches at f [])) (same at way) _ _ (given true at (OfShell (record s { name = name })) [] a (new-shell s g.0.0.0 g.0.1.1) fine-none)
      (given (leads_to way (type_of whole at)) at (OfType name) [] a new-name fine-none)
  plain-fine at (own p v) a g w = fine-none
  plain-fine at (default p v) a g w = fine-none
  plain-fine at (dynamic t p v) a g w =
      let target = renamed_target way name (through whole at) t in
      given (passes_by way (through whole at)) at (OfTarget target) [] a
      (target-writable target (target-made way name (through whole at) t is_name g.0.0.0) (target-free way name (through whole at) t free g.0.1.0) (omega (arith, w, name-some p g.0.0.1))) fine-none

  holder-fine : (at : List ℕ) (h : Holder) (body : Items) (inside : List Patch) → IsItemAddress at → IsGoodHolder h → AreFine inside → AreFine (item_patches at (fate whole way (Some name) at (holder_item h body)) inside)
  holder-fine at (define n k) body inside a g f = given (same at way) at (OfDefine name) inside a new-name f
  holder-fine at (anonymous s k) body inside a g f =
      chosen (λ x. AreFine (item_patches at x inside)) (same at way) _ _ (given true at (OfShell (record s { name = name })) inside a (new-shell s g.0 g.1) f) f

  renamed-fine : (b : List ℕ) (n : ℕ) (t : Items) → IsGood t → weight (renamed_items whole way name b n t) ≤ max_weight → HasRoom b n (count t) (depth t) → AreFine (renaming b n t)
  renamed-fine b n no_items g w r = fine-none
  renamed-fine b n (plain p rest) g w r =
      let at = b ++ n ∷ [] in
      let others = renamed-fine b (suc n) rest g.1 (omega (arith, w)) (record { held = r.held; short = omega (arith, r.short); few = omega (arith, r.few) }) in
      fine-both (renaming b (suc n) rest) (item_patches at (fate whole way (Some name) at (plain_item p)) []) others (plain-fine at p (here-is b n (count (plain p rest)) (depth (plain p rest)) r) g.0 (omega (arith, w)))
  renamed-fine b n (holder h body rest) g w r =
      let at = b ++ n ∷ [] in
      let here = here-is b n (count (holder h body rest)) (depth (holder h body rest)) r in
      let others = renamed-fine b (suc n) rest g.2 (omega (arith, w)) (record { held = r.held; short = omega (arith, r.short); few = omega (arith, r.few) }) in
      let inside = renamed-fine at 0 body g.1 (omega (arith, w)) (record { held = here.fits; short = omega (arith, r.short, length-append b (n ∷ [])); few = omega (arith, r.few) }) in
      fine-both (renaming b (suc n) rest) (item_patches at (fate whole way (Some name) at (holder_item h body)) (renaming at 0 body)) others (holder-fine at h body (renaming at 0 body) here g.0 inside)

renamed-both : (d new : Items) (path : List Segment) (name way : List ℕ) → Accepted d new (Rename path name) way → IsName name → AreBothWritable (patches_on (Ok way) d (Rename path name)) d
renamed-both d new path name way a n =
    let fine = by (length way == 0) (is_taken d way name (item_at way d)) (is_reserved name) refl a.made in
    brought (fate_patches (fate d way (Some name)) [] 0 d) d fine.keep fine.writable a.from
  where
    by : (root taken_already reserved : Bool) → is_reserved name ≡ reserved
        → cond root (Err NotAnInstance) (cond taken_already (Err NameTaken) (cond reserved (Err Reserved) (Ok (renamed_items d way name [] 0 d)))) ≡ Ok new → AreFine (fate_patches (fate d way (Some name)) [] 0 d)
    by true t r e m = cc
    by false true r e m = cc
    by false false true e m = cc
    by false false false e m =
        let same_map : renamed_items d way name [] 0 d ≡ new = cc in
        renamed-fine d way name n (class-free (class name) e) [] 0 d (map-good d a.from) (subst (λ x. weight x ≤ max_weight) (sym same_map) a.to.within.heavy)
        (record { held = All-nil IsHeld; short = omega (arith, a.from.within.deep); few = omega (arith, a.from.within.many) })

-- ---- Adding.

abbrev IsLight : Item → Type 0
IsLight x = IsWithinLimits (items_of (x ∷ []))

inserts-fine : (way : List ℕ) (k : ℕ) (xs : List Item) → All IsHeld way → length way ≤ 16 → k + length xs ≤ 131072 → All IsGoodItem xs → All IsLight xs → AreFine (inserts way k xs)
inserts-fine way k [] held short few g w = fine-none
inserts-fine way k (x ∷ xs) held short few g w =
    let here = here-is way k (length (x ∷ xs)) 0 (record { held = held; short = omega (arith, short); few = few }) in
    let others = inserts-fine way (suc k) xs held short (omega (arith, few)) (All-tail IsGoodItem x xs g) (All-tail IsLight x xs w) in
    record {
      writable = All-cons IsWritablePatch (Insert (way ++ k ∷ []) x) (inserts way (suc k) xs) (here, item-writable x (All-head IsGoodItem x xs g) (All-head IsLight x xs w)) others.writable;
      keep = others.keep;
    }

-- the new items are part of the new map
added-part : (d b inner : Items) (way : List ℕ) (k : ℕ) → body_at way d ≡ Some b → IsPartOf (items_of (list_of inner)) (map_body way (λ _. insert_items k inner b) d)
added-part d b inner way k here =
    let new = map_body way (λ _. insert_items k inner b) d in
    let there = body_at-map way (λ _. insert_items k inner b) d b here in
    let body : IsPartOf (insert_items k inner b) new = subst (λ o. IfSome o (IsBodyOf new)) there (body-part way new) in
    part-through (items_of (list_of inner)) (insert_items k inner b) new body (between-part (take k (list_of b)) (list_of inner) (drop k (list_of b)))

added-fine : (d b inner new : Items) (way : List ℕ) (place : Place) (k : ℕ) → body_at way d ≡ Some b → place_number place (list_of b) ≡ Some k → map_body way (λ _. insert_items k inner b) d ≡ new
    → IsWritable d → IsWritable new → IsOfWords inner → IsSpellable inner → AreFine (inserts way k (list_of inner))
added-fine d b inner new way place k here at is from to words spells =
    let xs = list_of inner in
    let part : IsPartOf (items_of xs) new = subst (IsPartOf (items_of xs)) is (added-part d b inner way k here) in
    let whole = items_of-list_of inner in
    let limits = within-part (items_of xs) new part to.within in
    let light = All-weaker (IsItemOf (items_of xs)) IsLight (λ (x : Item) h. within-part (items_of (x ∷ [])) (items_of xs) h limits) xs (each-part xs) in
    let well = items-fit IsGoodPlain IsGoodHolder inner (good inner words spells (subst (λ t. weight t ≤ max_weight) whole limits.heavy)) in
    let held = way-held way d b here from.within.many in
    let many : count inner ≤ 65536 = subst (λ t. count t ≤ 65536) whole limits.many in
    inserts-fine way k xs held.0 (omega (arith, body-depth way d b here, from.within.deep))
    (omega (arith, place_within place (list_of b) k at, length-count b, held.1, from.within.many, length-count inner, many)) well light

added-both : (d new : Items) (path : List Segment) (place : Place) (inner : Items) (way : List ℕ) → Accepted d new (Add path place inner) way → IsOfWords inner → IsSpellable inner
    → AreBothWritable (patches_on (Ok way) d (Add path place inner)) d
added-both d new path place inner way a words spells =
    let fine = by-body (body_at way d) refl a.made in
    brought (patches_in way 0 (Add path place inner) (body_at way d)) d fine.keep fine.writable a.from
  where
    by-tests : (b : Items) (k : ℕ) (addable clash : Bool) → put_body way d (cond addable (cond clash (Err NameTaken) (Ok (insert_items k inner b))) (Err NotAddable)) ≡ Ok new → map_body way (λ _. insert_items k inner b) d ≡ new
    by-tests b k false c m = cc
    by-tests b k true true m = cc
    by-tests b k true false m = cc

    refused-place : (b : Items) (addable : Bool) → put_body way d (cond addable (added_at None d inner b) (Err NotAddable)) ≡ Ok new → ⊥
    refused-place b false m = cc
    refused-place b true m = cc

    by-place : (b : Items) (o : Option ℕ) → body_at way d ≡ Some b → place_number place (list_of b) ≡ o
        → put_body way d (cond (list_all is_component (list_of inner)) (added_at o d inner b) (Err NotAddable)) ≡ Ok new → AreFine (inserts_at way o (list_of inner))
    by-place b None here e m = fine-none
    by-place b (Some k) here e m = added-fine d b inner new way place k here e (by-tests b k (list_all is_component (list_of inner)) (taken d inner b) m) a.from a.to words spells

    by-body : (o : Option Items) → body_at way d ≡ o → change_body way d (edited_body d 0 (Add path place inner)) o ≡ Ok new → AreFine (patches_in way 0 (Add path place inner) o)
    by-body None here m = fine-none
    by-body (Some b) here m = by-place b (place_number place (list_of b)) here refl m

-- ---- Every edit.

removed-both : (d new : Items) (path : List Segment) (way : List ℕ) → Accepted d new (Remove path) way → AreBothWritable (patches_on (Ok way) d (Remove path)) d
removed-both d new path way a = taken-out (fate_patches (fate d way None) [] 0 d) d (fates-delete d way [] 0 d) (fitted d new (Remove path) way a a.from.within.deep) a.from

shaped : (d new : Items) (e : Edit) (way : List ℕ) → Accepted d new e way → level_on (Ok way) d e ≡ length (holder_of way) → patches_on (Ok way) d e ≡ patches_in (holder_of way) (number_of way) e (body_at (holder_of way) d)
    → ((b : Items) → AtMostOne (body_patches (holder_of way) (number_of way) e b)) → AreBothWritable (patches_on (Ok way) d e) d
shaped d new e way a low is one = one-body d new e way (holder_of way) (number_of way) a low is one

both-of : (d new : Items) (e : Edit) (way : List ℕ) → Accepted d new e way → IsEditOfWords e → IsEditSpellable e → AreBothWritable (patches_on (Ok way) d e) d
both-of d new (Add path place inner) way a words spells = added-both d new path place inner way a words spells
both-of d new (Remove path) way a words spells = removed-both d new path way a
both-of d new (Rename path name) way a words spells = renamed-both d new path name way a words
both-of d new (Move path place) way a words spells = shaped d new (Move path place) way a refl refl (λ b. moves-one (holder_of way) (number_of way) (place_number place (list_of (remove_item (number_of way) b))))
both-of d new (Resize path ns) way a words spells = shaped d new (Resize path ns) way a refl refl (λ b. shapes-one (edited_shell (Resize path ns)) (holder_of way ++ number_of way ∷ []) (slice_get (list_of b) (number_of way)))
both-of d new (SetBits path r) way a words spells = shaped d new (SetBits path r) way a refl refl (λ b. shapes-one (edited_shell (SetBits path r)) (holder_of way ++ number_of way ∷ []) (slice_get (list_of b) (number_of way)))
both-of d new (SetAddress path n) way a words spells = shaped d new (SetAddress path n) way a refl refl (λ b. shapes-one (edited_shell (SetAddress path n)) (holder_of way ++ number_of way ∷ []) (slice_get (list_of b) (number_of way)))
both-of d new (SetStride path n) way a words spells = shaped d new (SetStride path n) way a refl refl (λ b. shapes-one (edited_shell (SetStride path n)) (holder_of way ++ number_of way ∷ []) (slice_get (list_of b) (number_of way)))
both-of d new (SetAlign path n) way a words spells = shaped d new (SetAlign path n) way a refl refl (λ b. shapes-one (edited_shell (SetAlign path n)) (holder_of way ++ number_of way ∷ []) (slice_get (list_of b) (number_of way)))
both-of d new (SetReset path n) way a words spells = shaped d new (SetReset path n) way a refl refl (λ b. shapes-one (edited_shell (SetReset path n)) (holder_of way ++ number_of way ∷ []) (slice_get (list_of b) (number_of way)))
both-of d new (SetOwn path p v) way a words spells = one-body d new (SetOwn path p v) way way 0 a refl refl (λ b. sets-one way _ v _ _)
both-of d new (SetDefault path p v) way a words spells = one-body d new (SetDefault path p v) way way 0 a refl refl (λ b. sets-one way _ v _ _)
both-of d new (ClearOwn path p) way a words spells = one-body d new (ClearOwn path p) way way 0 a refl refl (λ b. drops-one way _)
both-of d new (ClearDefault path p) way a words spells = one-body d new (ClearDefault path p) way way 0 a refl refl (λ b. drops-one way _)
both-of d new (Assign path t p v) way a words spells = one-body d new (Assign path t p v) way way 0 a refl refl (λ b. sets-one way _ v _ _)
both-of d new (Unassign path t p) way a words spells = one-body d new (Unassign path t p) way way 0 a refl refl (λ b. drops-one way _)

both-writable : (d new : Items) (e : Edit) → rewritten d e ≡ Ok new → IsWritable d → IsWritable new → IsEditOfWords e → IsEditSpellable e → AreBothWritable (patches d e) d
both-writable d new e made from to words spells = by (find (path_of e) d) refl
  where
    by : (r : Result (List ℕ) PathFault) → find (path_of e) d ≡ r → AreBothWritable (patches d e) d
    by (Err fault) f = let refused : Err (refusal_of fault) ≡ Ok new = sym (ap (λ r. by_way r d e) f) ∙ made in cc
    by (Ok way) f =
        let a : Accepted d new e way = record { found = f; made = sym (ap (λ r. by_way r d e) f) ∙ made; from = from; to = to } in
        subst (λ ps. AreBothWritable ps d) (sym (ap (λ r. patches_on r d e) f)) (both-of d new e way a words spells)

-- ---- A step of the history.

pub step-patches : (old : State) (e : Edit) (new : State) → step old e ≡ Ok new → IsWritable old.description → IsEditOfWords e → IsEditSpellable e → AreBothWritable (patches old.description e) old.description
step-patches old e new led w words spells =
    both-writable old.description new.description e (steps old e new led).made w (step-writable old e new led words spells w) words spells
