-- The items of a body that were looked at one by one, and have no fault so far as that is known.
use Rattle.std.proofs.Common.{◌≡◌, ℕ, ◌+◌, ◌<◌, ◌≤◌, Bool, List, ◌∷◌, length, Option, ◌⊎◌, inl, inr, sym, subst, ◌∙◌, arith}
use Rattle.std.proofs.lemmas.Bool.{cases_lt}
use Rattle.rdl_tree.specs.Items.{Items}
use Rattle.rdl_tree.specs.View.{list_of}
use Rattle.rdl_tree.specs.declared.description.Item.{Item}
use Rattle.rdl_tree.specs.declared.shell.Kind.{Kind}
use Rattle.rdl_marks.specs.Describes.{IsItem}
use Rattle.rdl_places.specs.Scopes.{Place, around_places}
use Rattle.rdl_places.proofs.CleanItems.{bodies_are_clean_by_items}
use Rattle.rdl_seen.specs.Layouts.{Laying}
use Rattle.rdl_seen.specs.Slots.{Slots}
use Rattle.rdl_seen.proofs.Passing.{some_same}
use Rattle.rdl_renew.specs.Alone.{AllStandAlone}
use Rattle.rdl_renew.specs.Judged.{IsCleanItem, IfStillClean, HasNoneThere, HasNoneInside, IsCleanThere}
use Rattle.rdl_renew.proofs.ApartItems.{below_count}
use Rattle.rdl_renew.proofs.LoneItems.{lone_items_are_clean}

-- the items of a body stand alone, and none of those below a number has a fault, nor any inside them
pub record HasCleanBelow (lay : Laying) (ps : List Place) (around : Option Kind) (body : Items) (count : ℕ) : Type 0 where
  pub alone : AllStandAlone body
  pub clean : (i : ℕ) (y : Item) → i < count → IsItem i body y → IsCleanItem lay (around_places lay ps) around body i y

pub none_below : (lay : Laying) (ps : List Place) (around : Option Kind) (body : Items) (before now : Bool) → IfStillClean before now (AllStandAlone body)
    → IfStillClean before now (HasCleanBelow lay ps around body 0)
none_below lay ps around body before now h e = let known = h e in (known.0, record { alone = known.1; clean = λ i y l got. absurd (omega (arith, l)) })

-- one item more, which has none
pub one_below : (lay : Laying) (ps : List Place) (around : Option Kind) (body : Items) (n : ℕ) (x : Item) → HasCleanBelow lay ps around body n → IsItem n body x
    → IsCleanItem lay (around_places lay ps) around body n x → HasCleanBelow lay ps around body (n + 1)
one_below lay ps around body n x below there clean = record { alone = below.alone; clean = λ i y l got. by i y l got (cases_lt i n) }
  where
    by : (i : ℕ) (y : Item) → i < n + 1 → IsItem i body y → (i < n) ⊎ (n ≤ i) → IsCleanItem lay (around_places lay ps) around body i y
    by i y l got (inl b) = below.clean i y b got
    by i y l got (inr e) =
        let at : n ≡ i = omega (arith, l, e) in
        let here : IsItem n body y = subst (λ k. IsItem k body y) (sym at) got in
        subst (λ k. IsCleanItem lay (around_places lay ps) around body k y) at
        (subst (λ z. IsCleanItem lay (around_places lay ps) around body n z) (some_same x y (sym there ∙ here)) clean)

-- one that was looked at where it stands
pub one_looked_at : (lay : Laying) (ps there : List Place) (around : Option Kind) (body : Items) (slots : Slots) (n : ℕ) (x : Item) (before mid look now : Bool)
    → there ≡ record { body = body; number = n; slots = slots } ∷ ps → IsItem n body x → IfStillClean before mid (HasCleanBelow lay ps around body n)
    → IfStillClean mid look (HasNoneThere lay there around x) → IfStillClean look now (HasNoneInside lay there x)
    → IfStillClean before now (HasCleanBelow lay ps around body (n + 1))
one_looked_at lay ps there around body slots n x before mid look now here got below itself inside e =
    let within = inside e in
    let alone = itself within.0 in
    let known = below alone.0 in
    let none = subst (λ qs. HasNoneThere lay qs around x) here alone.1 in
    let deep = subst (λ qs. HasNoneInside lay qs x) here within.1 in
    (known.0, one_below lay ps around body n x known.1 got (lone_items_are_clean lay (around_places lay ps) around body n x (known.1.alone n x got) (none, deep)))

-- where no number is left, none of the body has one
pub below_all : (lay : Laying) (ps : List Place) (around : Option Kind) (body : Items) (n : ℕ) → HasCleanBelow lay ps around body n → length (list_of body) ≤ n → IsCleanThere lay ps around body
below_all lay ps around body n below all =
    bodies_are_clean_by_items lay (around_places lay ps) around body
    (λ i y got. let l = below_count body i y (length (list_of body)) (λ j. length (list_of body)) got in below.clean i y (omega (arith, l, all)) got)

pub all_below : (lay : Laying) (ps : List Place) (around : Option Kind) (body : Items) (n : ℕ) (before now : Bool) → IfStillClean before now (HasCleanBelow lay ps around body n)
    → length (list_of body) ≤ n → IfStillClean before now (IsCleanThere lay ps around body)
all_below lay ps around body n before now below all e = let known = below e in (known.0, below_all lay ps around body n known.1 all)
