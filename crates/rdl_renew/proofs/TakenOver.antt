-- What of a body's slots is taken over from what the body was.
use Rattle.std.proofs.Common.{◌≡◌, ℕ, ◌+◌, ◌-◌, ◌≤◌, List, Some, length, ◌⊎◌, inl, inr, refl, sym, ap, subst, ◌∙◌, arith}
use Rattle.std.specs.Prelude.{slice_get, drop}
use Rattle.rdl_tree.specs.Items.{Items}
use Rattle.rdl_tree.specs.View as tree
use Rattle.rdl_tree.specs.declared.description.Item.{Item}
use Rattle.rdl_tree.specs.declared.description.Item.TheVariants.{Define, Instance, Own, Default, Dynamic}
use Rattle.rdl_tree.specs.declared.description.Of.TheVariants.{Named, Anonymous}
use Rattle.rdl_tree.proofs.Rounds as tree_rounds
use Rattle.rdl_marks.specs.Describes.{IsItem}
use Rattle.rdl_marks.specs.Marks.{no_firsts, no_marks}
use Rattle.rdl_marks.specs.View.{Trace, same_item, list_of}
use Rattle.rdl_marks.proofs.From.{IsFrom, get_from}
use Rattle.rdl_seen.specs.Inside.{no_instances}
use Rattle.rdl_seen.specs.Meaning.{around_before}
use Rattle.rdl_seen.specs.OneByOne.{instances_before}
use Rattle.rdl_seen.proofs.OneByOne.{slots_are_of_items, deaf_slots_stay}
use Rattle.rdl_renew.specs.TakenOver.{SameItemsStay, SlotsAreTakenOver}
use Rattle.rdl_renew.proofs.SideBySide.{is_told, listed, rest_items, get_drop, no_more_differs_before}

-- bodies with the same items are one
same_items : (b t : Items) → tree.list_of t ≡ tree.list_of b → b ≡ t
same_items b t e = sym (tree_rounds.items_of-list_of b) ∙ (ap tree.items_of (sym e) ∙ tree_rounds.items_of-list_of t)

-- nothing stood first in the place of a part
same_one : (old : Items) (n : ℕ) (y : Item) → IsFrom old (same_item n) y → IsItem n old y
same_one old n (Define name c) h =
    subst (λ b. IsItem n old (Define name (record { kind = c.kind; body = b }))) (same_items h.0.0 c.body h.0.2) h.0.1
same_one old n (Instance s (Named t)) h = h.0
same_one old n (Instance s (Anonymous c)) h =
    subst (λ b. IsItem n old (Instance s (Anonymous (record { kind = c.kind; body = b })))) (same_items h.0.0 c.body h.0.2) h.0.1
same_one old n (Own p v) h = h.0
same_one old n (Default p v) h = h.0
same_one old n (Dynamic t p v) h = h.0

pub same_items_stay : SameItemsStay
same_items_stay m old now i n y d got h = by (is_told m i (same_item n) h).is
  where
    es : List Trace
    es = list_of m.traces

    number : (k : ℕ) → same_item k ≡ same_item n → k ≡ n
    number k e = cc

    by : (slice_get es i ≡ Some (same_item n)) ⊎ ((length es ≤ i) × (same_item (m.behind + (i - length es)) ≡ same_item n)) → IsItem n old y
    by (inl e) = same_one old n y (get_from old i (same_item n) es (drop m.behind (tree.list_of old)) y (tree.list_of now) e got (listed m old now d))
    by (inr e) =
        let l = e.0 in
        let at : length es + (i - length es) ≡ i = omega (arith, l) in
        let here = rest_items old es (drop m.behind (tree.list_of old)) (tree.list_of now) (i - length es) (listed m old now d) in
        ap (slice_get (tree.list_of old)) (sym (number (m.behind + (i - length es)) e.1))
        ∙ (sym (get_drop (tree.list_of old) m.behind (i - length es)) ∙ (sym here ∙ (ap (slice_get (tree.list_of now)) at ∙ got)))

pub slots_are_taken_over : SlotsAreTakenOver
slots_are_taken_over lay x m old now a b to described ordered tells but i n y up got h deaf =
    let was = same_items_stay m old now i n y described got h in
    let before = no_more_differs_before lay x m old now a b to described ordered tells but i n no_firsts no_marks y up got h refl in
    let stays =
    deaf_slots_stay lay x (around_before lay n a old) (around_before lay i b now) (instances_before lay n a no_instances old) (instances_before lay i b no_instances now) y before deaf in
    slots_are_of_items lay b no_instances now i y got ∙ (ap Some stays ∙ sym (slots_are_of_items lay a no_instances old n y was))
