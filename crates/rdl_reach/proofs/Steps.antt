-- What a step places.
use Rattle.std.proofs.Common.{◌≡◌, ℕ, Bool, true, false, ◌||◌, if◌then◌else◌, List, [], ◌∷◌, Option, Some, None, refl, ap, ◌∙◌, arith}
use Rattle.std.specs.Prelude.{sum_by}
use Rattle.std.proofs.lemmas.List.Sums.{sum_by-cons}
use Rattle.rdl_tree.specs.Address.{body_at}
use Rattle.rdl_tree.specs.Items.{Items}
use Rattle.rdl_scope.specs.Closed.{Parts, no_parts, part, Made, nothing, component}
use Rattle.rdl_elab.specs.Anew.{how_many, instances_at}
use Rattle.rdl_elab.specs.Found.{ArePartsFound}
use Rattle.rdl_elab.proofs.PartsFound.{parts-found}
use Rattle.rdl_scope.proofs.AsFound.{as_found}
use Rattle.rdl_seen.specs.Inside.{no_instances}
use Rattle.rdl_seen.specs.Meaning.{nothing_around}
use Rattle.node_laws.specs.Laid.{laying, seen_layouts}
use Rattle.node_laws.specs.Seen.{layouts_seen}
use Rattle.rdl_reach.specs.EditedBodies.{edits}
use Rattle.rdl_reach.specs.Laws.{kept_of, AllArePlacedOnce, PlacesWhatIsInReach, PlacesNothing}
use Rattle.rdl_reach.specs.Reach.{leads_there, in_reach}
use Rattle.rdl_reach.proofs.AllPlaced.{many, all_bound}
use Rattle.rdl_reach.proofs.Along.{from_first}
use Rattle.rdl_reach.proofs.Counted.{none_counted}
use Rattle.rdl_reach.proofs.Fits.{walked_fits}
use Rattle.rdl_reach.proofs.Made.{kept_same, made_same}
use Rattle.rdl_reach.proofs.NodesLaid.{is_laid, is_bound}
use Rattle.rdl_reach.proofs.OutOfReach.{AreAlike}
use Rattle.rdl_reach.proofs.Placed.{placed_in_reach}
use Rattle.rdl_reach.proofs.States.{StateTheSame}
use Rattle.rdl_reach.proofs.Unplaced.{unplaced}

pub all_are_placed_once : AllArePlacedOnce
all_are_placed_once d accepted =
    all_bound d (kept_of d) (λ a. true) (is_bound d accepted) d [] 0 nothing (kept_of d) (from_first d (kept_of d) (walked_fits laying d nothing_around no_instances)) (λ i c. refl)

-- components that are alike have the same layouts
alike_laid : (c k : Made) → c.head.kind ≡ k.head.kind → StateTheSame c.head k.head → AreAlike c.parts k.parts → layouts_seen c ≡ layouts_seen k
unfolding layouts_seen
alike_laid c k kind states alike = ap seen_layouts (kept_same c k (made_same c k kind states alike))

pub places_what_is_in_reach : PlacesWhatIsInReach
places_what_is_in_reach m old now step =
    placed_in_reach m old now (kept_of old) (kept_of now) (is_bound now step.accepted_now)
    (unplaced m old now step.described step.ordered (kept_of old) (kept_of now) layouts_seen (is_laid old step.accepted_old) (is_laid now step.accepted_now) alike_laid)
    step.described step.ordered (walked_fits laying old nothing_around no_instances) (walked_fits laying now nothing_around no_instances)

-- ---- Where nothing is edited.

module _ (edited : List ℕ → Bool) (d : Items) (none : (a : List ℕ) (b : Items) → body_at a d ≡ Some b → edited a ≡ false) where
  none_there : (a : List ℕ) (c : Made) → component d a ≡ Some c → edited a ≡ false
  none_there a c there = none a c.head.body (as_found d a c there).body

  none_leads : (ps : Parts) (b : List ℕ) → ArePartsFound d b ps → leads_there edited ps ≡ false
  none_leads no_parts b f = refl
  none_leads (part at s h inside rest) b f =
      let here = none_there h.at (record { head = h; parts = inside }) f.0.component in
      let deep = none_leads inside h.at f.1 in
      let more = none_leads rest b f.2 in
      λ i. here i || deep i || more i

  none_reached : (c : Made) → component d c.head.at ≡ Some c → many (in_reach edited d) c ≡ 0
  none_reached c there =
      let here = none_there c.head.at c there in
      let deep = none_leads c.parts c.head.at (parts-found d c.head.at c there) in
      let out : in_reach edited d c.head.at ≡ false = (λ i. here i || elim (there i) [ None ↦ false | Some k ↦ leads_there edited k.parts ]) ∙ deep in
      ap (λ (b : Bool). if b then how_many c.parts else 0) out

pub places_nothing : PlacesNothing
places_nothing m old now step none =
    let few = places_what_is_in_reach m old now step in
    let edited = edits m old now in
    let zero_at : instances_at (in_reach edited now) now ≡ 0 = none_counted now (many (in_reach edited now)) (none_reached edited now none) in
    omega (arith, few, zero_at)
