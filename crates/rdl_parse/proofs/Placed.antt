-- There is a place for an address exactly where the description has an item.
use Rattle.std.proofs.Common.{◌≡◌, ℕ, zero, suc, Bool, true, false, List, [], ◌∷◌, ◌++◌, length, map, take, drop, Option, Some, None, refl, ap, sym, ◌∙◌, subst, append_assoc}
use Rattle.std.specs.Prelude.{slice_get, option_and_then}
use Rattle.std.specs.Option.{is_some}
use Rattle.std.proofs.lemmas.List.{length-map, map-append}
use Rattle.std.proofs.Math.Seq.{drop-append_seam, take-append_seam}
use Rattle.rdl_text.specs.declared.token.Mark.TheVariants.{Semicolon, CloseBrace}
use Rattle.rdl_tree.specs.Items.{Items, no_items, plain, holder}
use Rattle.rdl_tree.specs.View.{items_of, list_of, add}
use Rattle.rdl_tree.specs.Address.{inner}
use Rattle.rdl_tree.specs.ItemAt.{item_at}
use Rattle.rdl_tree.specs.declared.shell.Outside.{Outside}
use Rattle.rdl_tree.specs.declared.description.Item.{Item}
use Rattle.rdl_tree.specs.declared.description.Item.TheVariants.{Define, Instance, Own, Default, Dynamic}
use Rattle.rdl_tree.specs.declared.description.Of.{Of}
use Rattle.rdl_tree.specs.declared.description.Of.TheVariants.{Named, Anonymous}
use Rattle.rdl_parse.specs.declared.found.Spot.{Spot}
use Rattle.rdl_parse.specs.Finds.{spot}
use Rattle.rdl_parse.specs.declared.places.ItemPlace.{ItemPlace}
use Rattle.rdl_text.specs.Word.{Word}
use Rattle.rdl_parse.specs.Places.{place_of, from_item, inside_first, from_address, first_start, start_at}
use Rattle.rdl_parse.specs.Symbol.{Symbol, mark, symbols}
use Rattle.rdl_parse.specs.Spelling.{Inst, Statement, define, define_with, anonymous, named, own, default, dynamic, Statements, none, one, inst_words, others_words, insts_words, outside_words, at_late, prop_text, value_of, statement_words, words, instance, instances, out_of, said, component, statement_items, items, others_spots, insts_spots, statement_spots, spots, Spells}

-- these are those of the items: as many behind each as its body has
abbrev pub Lies : {A : Type 0} → (A → ℕ) → Items → List A → Type 0
Lies inside no_items ss = ss ≡ []
Lies {A} inside (plain p rest) ss = (s : A) × (others : List A) × (ss ≡ s ∷ others) × (inside s ≡ 0) × Lies inside rest others
Lies {A} inside (holder h body rest) ss = (s : A) × (inner : List A) × (others : List A) × (ss ≡ s ∷ inner ++ others) × (inside s ≡ length inner) × Lies inside body inner × Lies inside rest others

abbrev spot_inside : Spot → ℕ
spot_inside s = s.inside

abbrev place_inside : ItemPlace → ℕ
place_inside p = p.inside

abbrev pub Fits : Items → List Spot → Type 0
Fits d ss = Lies spot_inside d ss

-- these are inside the item
abbrev pub Inside : Item → List Spot → Type 0
Inside (Define n c) ss = Fits c.body ss
Inside (Instance s (Named t)) ss = ss ≡ []
Inside (Instance s (Anonymous c)) ss = Fits c.body ss
Inside (Own p v) ss = ss ≡ []
Inside (Default p v) ss = ss ≡ []
Inside (Dynamic t p v) ss = ss ≡ []

-- ---- What is spelled.

-- one item, and then others
fits-one : (x : Item) (left : ℕ) (inner : List Spot) (ys : Items) (ss : List Spot) → Inside x inner → Fits ys ss → Fits (add x ys) (spot left inner ∷ inner ++ ss)
fits-one (Define n c) left inner ys ss h k = (spot left inner, inner, ss, refl, refl, h, k)
fits-one (Instance s (Anonymous c)) left inner ys ss h k = (spot left inner, inner, ss, refl, refl, h, k)
fits-one (Instance s (Named t)) left inner ys ss h k = (spot left inner, ss, ap (λ is. spot left inner ∷ is ++ ss) h, ap length h, k)
fits-one (Own p v) left inner ys ss h k = (spot left inner, ss, ap (λ is. spot left inner ∷ is ++ ss) h, ap length h, k)
fits-one (Default p v) left inner ys ss h k = (spot left inner, ss, ap (λ is. spot left inner ∷ is ++ ss) h, ap length h, k)
fits-one (Dynamic t p v) left inner ys ss h k = (spot left inner, ss, ap (λ is. spot left inner ∷ is ++ ss) h, ap length h, k)

others-fit : (o : Outside) (of : Of) (inner : List Spot) (is : List Inst) (ws : List Symbol) (zs : List Item) (ss : List Spot) → ((i : Inst) → Inside (instance o of i) inner) → Fits (items_of zs) ss
    → Fits (items_of (map (instance o of) is ++ zs)) (others_spots inner is ws ++ ss)
others-fit o of inner [] ws zs ss h k = k
others-fit o of inner (i ∷ is) ws zs ss h k =
    subst (λ us. Fits (items_of (map (instance o of) (i ∷ is) ++ zs)) (spot (length (inst_words i (others_words is ws))) inner ∷ us)) (sym (append_assoc inner (others_spots inner is ws) ss))
    (fits-one (instance o of i) (length (inst_words i (others_words is ws))) inner (items_of (map (instance o of) is ++ zs)) (others_spots inner is ws ++ ss) (h i) (others-fit o of inner is ws zs ss h k))

insts-fit : (o : Outside) (of : Of) (inner : List Spot) (i : Inst) (is : List Inst) (ws : List Symbol) (zs : List Item) (ss : List Spot) → ((i : Inst) → Inside (instance o of i) inner) → Fits (items_of zs) ss
    → Fits (items_of (instances o of i is ++ zs)) (insts_spots inner i is ws ++ ss)
insts-fit o of inner i is ws zs ss h k = others-fit o of inner (i ∷ is) (mark Semicolon ∷ ws) zs ss h k

mutual
  statement-fits : (st : Statement) (ws : List Symbol) (zs : List Item) (ss : List Spot) → Fits (items_of zs) ss → Fits (items_of (statement_items st ++ zs)) (statement_spots st ws ++ ss)
  statement-fits (define k n body) ws zs ss h = fits-one (Define n (component k (items_of (items body)))) _ _ (items_of zs) ss (spelled-fit body (mark CloseBrace ∷ mark Semicolon ∷ ws)) h
  statement-fits (define_with o k n body i is) ws zs ss h =
      let vs = mark CloseBrace ∷ outside_words (at_late o) (insts_words i is ws) in
      subst (λ us. Fits (items_of (statement_items (define_with o k n body i is) ++ zs)) (spot (length (statement_words (define_with o k n body i is) ws)) (spots body vs) ∷ us)) (sym (append_assoc (spots body vs) (insts_spots [] i is ws) ss))
      (fits-one (Define n (component k (items_of (items body)))) _ _ (items_of (instances (out_of o) (Named n) i is ++ zs)) (insts_spots [] i is ws ++ ss) (spelled-fit body vs)
      (insts-fit (out_of o) (Named n) [] i is ws zs ss (λ j. refl) h))
  statement-fits (anonymous o k body i is) ws zs ss h =
      let vs = mark CloseBrace ∷ outside_words (at_late o) (insts_words i is ws) in
      insts-fit (out_of o) (Anonymous (component k (items_of (items body)))) (spots body vs) i is ws zs ss (λ j. spelled-fit body vs) h
  statement-fits (named o n i is) ws zs ss h = insts-fit (said o) (Named n) [] i is ws zs ss (λ j. refl) h
  statement-fits (own p v) ws zs ss h = fits-one (Own (prop_text p) (value_of v)) _ [] (items_of zs) ss refl h
  statement-fits (default p v) ws zs ss h = fits-one (Default (prop_text p) (value_of v)) _ [] (items_of zs) ss refl h
  statement-fits (dynamic n ns p v) ws zs ss h = fits-one (Dynamic (n ∷ ns) (prop_text p) (value_of v)) _ [] (items_of zs) ss refl h

  spelled-fit : (t : Statements) (ws : List Symbol) → Fits (items_of (items t)) (spots t ws)
  spelled-fit none ws = refl
  spelled-fit (one s ss) ws = statement-fits s (words ss ws) (items ss) (spots ss ws) (spelled-fit ss ws)

-- ---- The walk.

abbrev At : Items → List ItemPlace → Type 0
At d ss = Lies place_inside d ss

-- the items of a body from the i-th on
abbrev items_from : ℕ → Items → Items
items_from i no_items = no_items
items_from zero (plain p rest) = plain p rest
items_from zero (holder h body rest) = holder h body rest
items_from (suc i) (plain p rest) = items_from i rest
items_from (suc i) (holder h body rest) = items_from i rest

from-zero : (ss : List ItemPlace) → from_item 0 ss ≡ ss
from-zero [] = refl
from-zero (s ∷ ss) = refl

fits-from : (i : ℕ) (d : Items) (ss : List ItemPlace) → At d ss → At (items_from i d) (from_item i ss)
fits-from i no_items ss h = ap (from_item i) h
fits-from zero (plain p rest) ss h = subst (At (plain p rest)) (sym (from-zero ss)) h
fits-from zero (holder k body rest) ss h = subst (At (holder k body rest)) (sym (from-zero ss)) h
fits-from (suc i) (plain p rest) ss h =
    subst (At (items_from i rest)) (sym (ap (from_item (suc i)) h.2 ∙ ap (λ n. from_item i (drop n h.1)) h.3)) (fits-from i rest h.1 h.4)
fits-from (suc i) (holder k body rest) ss h =
    subst (At (items_from i rest)) (sym (ap (from_item (suc i)) h.3 ∙ ap (λ n. from_item i (drop n (h.1 ++ h.2))) h.4 ∙ ap (from_item i) (drop-append_seam h.1 h.2))) (fits-from i rest h.2 h.6)

inner-from : (i : ℕ) (d : Items) → inner i d ≡ inner 0 (items_from i d)
inner-from i no_items = refl
inner-from zero (plain p rest) = refl
inner-from zero (holder h body rest) = refl
inner-from (suc i) (plain p rest) = inner-from i rest
inner-from (suc i) (holder h body rest) = inner-from i rest

abbrev is_more : Items → Bool
is_more no_items = false
is_more (plain p rest) = true
is_more (holder h body rest) = true

some-from : (i : ℕ) (d : Items) → is_some (slice_get (list_of d) i) ≡ is_more (items_from i d)
some-from zero no_items = refl
some-from (suc i) no_items = refl
some-from zero (plain p rest) = refl
some-from zero (holder h body rest) = refl
some-from (suc i) (plain p rest) = some-from i rest
some-from (suc i) (holder h body rest) = some-from i rest

fits-more : (d : Items) (ss : List ItemPlace) → At d ss → is_some (first_start ss) ≡ is_more d
fits-more no_items ss h = ap (λ us. is_some (first_start us)) h
fits-more (plain p rest) ss h = ap (λ us. is_some (first_start us)) h.2
fits-more (holder k body rest) ss h = ap (λ us. is_some (first_start us)) h.3

abbrev or_empty : Option Items → Items
or_empty None = no_items
or_empty (Some b) = b

fits-inside : (d : Items) (ss : List ItemPlace) → At d ss → At (or_empty (inner 0 d)) (inside_first ss)
fits-inside no_items ss h = ap inside_first h
fits-inside (plain p rest) ss h = ap inside_first h.2 ∙ ap (λ n. take n h.1) h.3
fits-inside (holder k body rest) ss h = subst (At body) (sym (ap inside_first h.3 ∙ ap (λ n. take n (h.1 ++ h.2)) h.4 ∙ take-append_seam h.1 h.2)) h.5

item-none : (j : ℕ) (path : List ℕ) → is_some (item_at (j ∷ path) no_items) ≡ false
item-none zero [] = refl
item-none (suc j) [] = refl
item-none j (k ∷ path) = refl

through : (j : ℕ) (path : List ℕ) (o : Option Items) → is_some (item_at (j ∷ path) (or_empty o)) ≡ is_some (option_and_then (item_at (j ∷ path)) o)
through j path None = item-none j path
through j path (Some b) = refl

walk-finds : (i : ℕ) (path : List ℕ) (d : Items) (ss : List ItemPlace) → At d ss → is_some (first_start (from_address i path ss)) ≡ is_some (item_at (i ∷ path) d)
walk-finds i [] d ss h = fits-more (items_from i d) (from_item i ss) (fits-from i d ss h) ∙ sym (some-from i d)
walk-finds i (j ∷ path) d ss h =
    walk-finds j path (or_empty (inner 0 (items_from i d))) (inside_first (from_item i ss)) (fits-inside (items_from i d) (from_item i ss) (fits-from i d ss h))
    ∙ ap (λ o. is_some (item_at (j ∷ path) (or_empty o))) (sym (inner-from i d))
    ∙ through j path (inner i d)

pub fits-found : (path : List ℕ) (d : Items) (ss : List ItemPlace) → At d ss → is_some (start_at path ss) ≡ is_some (item_at path d)
fits-found [] d ss h = refl
fits-found (i ∷ path) d ss h = walk-finds i path d ss h

-- ---- The places of spots.

pub spots-fit : (ws : List Symbol) (d : Items) (at : List Spot) → Spells ws d at → Fits d at
spots-fit ws d at s = subst (λ e. Fits e at) (sym s.2) (subst (Fits (items_of (items s.0))) (sym s.3) (spelled-fit s.0 []))

places-fit : (ws : List Word) (d : Items) (ss : List Spot) → Fits d ss → At d (map (place_of ws) ss)
places-fit ws no_items ss h = ap (map (place_of ws)) h
places-fit ws (plain p rest) ss h = (place_of ws h.0, map (place_of ws) h.1, ap (map (place_of ws)) h.2, h.3, places-fit ws rest h.1 h.4)
places-fit ws (holder k body rest) ss h = (
  place_of ws h.0,
  map (place_of ws) h.1,
  map (place_of ws) h.2,
  ap (map (place_of ws)) h.3 ∙ ap (λ us. place_of ws h.0 ∷ us) (map-append (place_of ws) h.1 h.2),
  h.4 ∙ sym (length-map h.1 (place_of ws)),
  places-fit ws body h.1 h.5,
  places-fit ws rest h.2 h.6,
)

-- there is a place exactly where the description has an item
pub start-found : (ws : List Word) (d : Items) (at : List Spot) → Spells (symbols ws) d at → (path : List ℕ) → is_some (start_at path (map (place_of ws) at)) ≡ is_some (item_at path d)
start-found ws d at s path = fits-found path d (map (place_of ws) at) (places-fit ws d at (spots-fit (symbols ws) d at s))
