-- What patches of one body lead to, or of the bodies inside it.
use Rattle.std.proofs.Common.{◌≡◌, ℕ, zero, suc, ◌+◌, ◌-◌, ◌<◌, ◌≤◌, Bool, true, List, [], ◌∷◌, ◌++◌, length, take, Some, None, Option, refl, ap, sym, subst, ◌∙◌, arith, length-append}
use Rattle.std.proofs.Math.Seq.{take-append_seam, get_or-append_seam}
use Rattle.std.proofs.lemmas.Bool.{le-leb}
use Rattle.std.proofs.lemmas.Bool.Decides.{Decides-ltb}
use Rattle.std.specs.Prelude.{is_some, slice_get, slice_index, option_and_then, ◌&&◌}
use Rattle.rdl_tree.specs.Items.{Items, no_items, plain, holder}
use Rattle.rdl_tree.specs.View.{add, list_of}
use Rattle.rdl_tree.specs.Address.{holder_of, number_of, inner, map_inner, body_at, map_body}
use Rattle.rdl_tree.specs.Depth.{depth}
use Rattle.rdl_tree.specs.Edit.{insert_item, remove_item, shift_item}
use Rattle.rdl_tree.specs.ItemAt.{item_at}
use Rattle.rdl_tree.specs.Part.{has_part, with_part_at}
use Rattle.rdl_tree.specs.Patch.{patched, image, AllFit, length_of, has_place, has_item, has_part_of}
use Rattle.rdl_tree.specs.declared.description.Item.{Item}
use Rattle.rdl_tree.specs.declared.part.Part.{Part}
use Rattle.rdl_tree.specs.declared.patch.Patch.{Patch}
use Rattle.rdl_tree.specs.declared.patch.Patch.TheVariants.{Insert, Delete, Shift, Exchange}
use Rattle.rdl_tree.proofs.Changes.{map_body-cong, map_body-same}
use Rattle.rdl_scope.proofs.Levelled.{item-deeper}

-- ---- Changes of a body, one behind another or one inside another.

map_inner-by : (i : ℕ) (t : Items) (f g : Items → Items) → ((b : Items) → f b ≡ g b) → map_inner i f t ≡ map_inner i g t
map_inner-by i no_items f g h = refl
map_inner-by zero (plain p rest) f g h = refl
map_inner-by zero (holder k body rest) f g h = ap (λ b. holder k b rest) (h body)
map_inner-by (suc i) (plain p rest) f g h = ap (plain p) (map_inner-by i rest f g h)
map_inner-by (suc i) (holder k body rest) f g h = ap (holder k body) (map_inner-by i rest f g h)

map_inner-twice : (i : ℕ) (t : Items) (f g : Items → Items) → map_inner i f (map_inner i g t) ≡ map_inner i (λ b. f (g b)) t
map_inner-twice i no_items f g = refl
map_inner-twice zero (plain p rest) f g = refl
map_inner-twice zero (holder k body rest) f g = refl
map_inner-twice (suc i) (plain p rest) f g = ap (plain p) (map_inner-twice i rest f g)
map_inner-twice (suc i) (holder k body rest) f g = ap (holder k body) (map_inner-twice i rest f g)

map_body-twice : (b : List ℕ) (f g : Items → Items) (t : Items) → map_body b f (map_body b g t) ≡ map_body b (λ x. f (g x)) t
map_body-twice [] f g t = refl
map_body-twice (i ∷ b) f g t =
    map_inner-twice i t (map_body b f) (map_body b g) ∙ map_inner-by i t (λ x. map_body b f (map_body b g x)) (map_body b (λ x. f (g x))) (map_body-twice b f g)

map_body-append : (b c : List ℕ) (f : Items → Items) (t : Items) → map_body (b ++ c) f t ≡ map_body b (map_body c f) t
map_body-append [] c f t = refl
map_body-append (i ∷ b) c f t = map_inner-by i t (map_body (b ++ c) f) (map_body b (map_body c f)) (map_body-append b c f)

inner-map_inner : (i : ℕ) (f : Items → Items) (t b : Items) → inner i t ≡ Some b → inner i (map_inner i f t) ≡ Some (f b)
inner-map_inner i f no_items b e = cc
inner-map_inner zero f (plain p rest) b e = cc
inner-map_inner zero f (holder h body rest) b e = let same : body ≡ b = cc in ap (λ x. Some (f x)) same
inner-map_inner (suc i) f (plain p rest) b e = inner-map_inner i f rest b e
inner-map_inner (suc i) f (holder h body rest) b e = inner-map_inner i f rest b e

-- the body that was changed
pub body_at-map_body : (b : List ℕ) (f : Items → Items) (t body : Items) → body_at b t ≡ Some body → body_at b (map_body b f t) ≡ Some (f body)
body_at-map_body [] f t body e = let same : t ≡ body = cc in ap (λ x. Some (f x)) same
body_at-map_body (i ∷ b) f t body e = into (λ d. body_at-map_body b f d body) (inner i t) refl e
  where
    into : ((d : Items) → body_at b d ≡ Some body → body_at b (map_body b f d) ≡ Some (f body)) → (o : Option Items) → inner i t ≡ o → option_and_then (body_at b) o ≡ Some body
        → option_and_then (body_at b) (inner i (map_inner i (map_body b f) t)) ≡ Some (f body)
    into ih None g h = cc
    into ih (Some d) g h = ap (option_and_then (body_at b)) (inner-map_inner i (map_body b f) t d g) ∙ ih d h

-- ---- Patches, one behind another.

pub image-append : (ps qs : List Patch) (t : Items) → image (ps ++ qs) t ≡ image qs (image ps t)
image-append [] qs t = refl
image-append (p ∷ ps) qs t = image-append ps qs (patched p t)

all_fit-append : (ps qs : List Patch) (t : Items) → AllFit ps t → AllFit qs (image ps t) → AllFit (ps ++ qs) t
all_fit-append [] qs t h g = g
all_fit-append (p ∷ ps) qs t h g = (h.0, all_fit-append ps qs (patched p t) h.1 g)

-- the patches fit, and put this body in the place of the one at the address
pub record Leads (b : List ℕ) (whole : Items) (ps : List Patch) (new : Items) : Type 0 where
  pub made : image ps whole ≡ map_body b (λ _. new) whole
  pub fit : AllFit ps whole

pub to_next : (b : List ℕ) (whole : Items) (ps : List Patch) (new next : Items) → new ≡ next → Leads b whole ps new → Leads b whole ps next
to_next b whole ps new next e led = subst (λ t. Leads b whole ps t) e led

pub leads-none : (b : List ℕ) (whole body : Items) → body_at b whole ≡ Some body → Leads b whole [] body
leads-none b whole body here = record {
  made = sym (map_body-cong b (λ _. body) (λ x. x) whole body here refl ∙ map_body-same b whole);
  fit = tt;
}

pub leads-append : (b : List ℕ) (whole : Items) (ps qs : List Patch) (new next : Items) → Leads b whole ps new → Leads b (map_body b (λ _. new) whole) qs next → Leads b whole (ps ++ qs) next
leads-append b whole ps qs new next first then = record {
  made = image-append ps qs whole ∙ ap (image qs) first.made ∙ then.made ∙ map_body-twice b (λ _. next) (λ _. new) whole;
  fit = all_fit-append ps qs whole first.fit (subst (λ t. AllFit qs t) (sym first.made) then.fit);
}

-- patches of the body of an item
pub leads-inside : (b : List ℕ) (n : ℕ) (whole body : Items) (ps : List Patch) (new : Items) → body_at b whole ≡ Some body → Leads (b ++ n ∷ []) whole ps new
    → Leads b whole ps (map_inner n (λ _. new) body)
leads-inside b n whole body ps new here led = record {
  made = led.made ∙ map_body-append b (n ∷ []) (λ _. new) whole ∙ map_body-cong b (map_body (n ∷ []) (λ _. new)) (λ _. map_inner n (λ _. new) body) whole body here refl;
  fit = led.fit;
}

-- ---- One patch of an item of the body.

length-inside : (b : List ℕ) (n : ℕ) → length (b ++ n ∷ []) - 1 ≡ length b
length-inside b n = omega (arith, length-append b (n ∷ []))

pub holder-inside : (b : List ℕ) (n : ℕ) → holder_of (b ++ n ∷ []) ≡ b
holder-inside b n = ap (λ k. take k (b ++ n ∷ [])) (length-inside b n) ∙ take-append_seam b (n ∷ [])

pub number-inside : (b : List ℕ) (n : ℕ) → number_of (b ++ n ∷ []) ≡ n
number-inside b n = ap (λ k. slice_index (b ++ n ∷ []) k) (length-inside b n) ∙ get_or-append_seam b n [] 0

pub item_at-inside : (b : List ℕ) (n : ℕ) (whole body : Items) → body_at b whole ≡ Some body → item_at (b ++ n ∷ []) whole ≡ slice_get (list_of body) n
item_at-inside b n whole body here = item-deeper b n whole body here

made-inside : (b : List ℕ) (n : ℕ) (change : ℕ → Items → Items) (whole body : Items) → body_at b whole ≡ Some body
    → map_body (holder_of (b ++ n ∷ [])) (change (number_of (b ++ n ∷ []))) whole ≡ map_body b (λ _. change n body) whole
made-inside b n change whole body here =
    ap (λ h. map_body h (change (number_of (b ++ n ∷ []))) whole) (holder-inside b n) ∙ ap (λ k. map_body b (change k) whole) (number-inside b n)
    ∙ map_body-cong b (change n) (λ _. change n body) whole body here refl

body_at-inside : (b : List ℕ) (n : ℕ) (whole body : Items) → body_at b whole ≡ Some body → length_of (body_at (holder_of (b ++ n ∷ [])) whole) ≡ Some (length (list_of body))
body_at-inside b n whole body here = ap (λ h. length_of (body_at h whole)) (holder-inside b n) ∙ ap length_of here

and-true : (x y : Bool) → x ≡ true → y ≡ true → (x && y) ≡ true
and-true x y e f = ap (λ z. z && y) e ∙ f

pub leads-delete : (b : List ℕ) (n : ℕ) (whole body : Items) (x : Item) → body_at b whole ≡ Some body → slice_get (list_of body) n ≡ Some x
    → Leads b whole (Delete (b ++ n ∷ []) ∷ []) (remove_item n body)
leads-delete b n whole body x here got = record {
  made = made-inside b n remove_item whole body here;
  fit = (ap is_some (item_at-inside b n whole body here ∙ got), tt);
}

pub leads-exchange : (b : List ℕ) (n : ℕ) (part : Part) (whole body : Items) (x : Item) → body_at b whole ≡ Some body → slice_get (list_of body) n ≡ Some x → has_part part x ≡ true
    → Leads b whole (Exchange (b ++ n ∷ []) part ∷ []) (with_part_at n part body)
leads-exchange b n part whole body x here got has = record {
  made = made-inside b n (λ k. with_part_at k part) whole body here;
  fit = (ap (has_part_of part) (item_at-inside b n whole body here ∙ got) ∙ has, tt);
}

pub leads-shift : (b : List ℕ) (n to : ℕ) (whole body : Items) (x : Item) → body_at b whole ≡ Some body → slice_get (list_of body) n ≡ Some x → to < length (list_of body)
    → Leads b whole (Shift (b ++ n ∷ []) to ∷ []) (shift_item n to body)
leads-shift b n to whole body x here got below = record {
  made = made-inside b n (λ k. shift_item k to) whole body here;
  fit = (
    and-true _ _ (ap is_some (item_at-inside b n whole body here ∙ got))
        (ap (has_item to) (body_at-inside b n whole body here) ∙ (Decides-ltb to (length (list_of body))).1 below),
    tt,
  );
}

pub leads-insert : (b : List ℕ) (n : ℕ) (x : Item) (whole body : Items) → body_at b whole ≡ Some body → n ≤ length (list_of body) → length b + depth (add x no_items) ≤ 16
    → Leads b whole (Insert (b ++ n ∷ []) x ∷ []) (insert_item n x body)
leads-insert b n x whole body here below level = record {
  made = made-inside b n (λ k. insert_item k x) whole body here;
  fit = (
    and-true _ _ (and-true _ _ (le-leb 1 (length (b ++ n ∷ [])) (omega (arith, length-append b (n ∷ [])))) (le-leb _ _ (omega (arith, length-append b (n ∷ [])))))
        (ap (has_place (number_of (b ++ n ∷ []))) (body_at-inside b n whole body here) ∙ le-leb _ _ (omega (arith, number-inside b n))),
    tt,
  );
}
