-- The contracts of `parse` and `parse_item` from what reading gives, and that no words spell two descriptions.
use Rattle.std.proofs.Common.{◌≡◌, max, List, Result, Ok, Err, sym, ap, ◌∙◌, arith}
use Rattle.rdl_tree.specs.Items.{Items, count}
use Rattle.rdl_tree.specs.View.{items_of}
use Rattle.rdl_tree.specs.Depth.{depth}
use Rattle.rdl_tree.specs.Weight.{weight}
use Rattle.rdl_tree.specs.Limits.{IsWithinLimits}
use Rattle.rdl_tree.specs.declared.description.Item.{Item}
use Rattle.rdl_parse.specs.declared.fault.Fault.{Fault}
use Rattle.rdl_parse.specs.declared.found.Spot.{Spot}
use Rattle.rdl_parse.specs.declared.room.Room.{Room}
use Rattle.rdl_parse.specs.Symbol.{Symbol}
use Rattle.rdl_parse.specs.Spelling.{Spells, SpellsItems}
use Rattle.rdl_parse.specs.Reading.{Block, whole, limit, text_at, items_at}
use Rattle.rdl_parse.specs.Stands.{Stands}
use Rattle.rdl_parse.proofs.Outcome.{outcome-ok, outcome-err}
use Rattle.rdl_parse.proofs.TextRead.{Held, text-reads, items-read}
use Rattle.rdl_parse.proofs.TextAgain.{text-again, items-again}

held : (d : Items) → IsWithinLimits d → Held 16 limit d
held d w = record { deep = w.deep; many = w.many; heavy = w.heavy }

within : (d : Items) → Held 16 limit d → IsWithinLimits d
within d h = record { deep = h.deep; many = h.many; heavy = h.heavy }

-- ---- A text.

-- what is read is spelled, within the limits
pub read-found : (ws : List Symbol) (b : Block) → text_at 16 limit ws ≡ Ok b → Spells ws b.items b.spots × IsWithinLimits b.items
read-found ws b e = let p = outcome-ok b e (text-reads 16 limit ws) in (p.spelled, within b.items p.held)

-- what is spelled within the limits is read
pub read-only : (ws : List Symbol) (d : Items) (at : List Spot) → Spells ws d at → IsWithinLimits d → text_at 16 limit ws ≡ Ok (whole d at)
read-only ws d at s w = text-again 16 limit ws d at s (held d w)

no-fault : (b : Block) (f : Fault) (q : Result Block Fault) → q ≡ Ok b → q ≡ Err f → ⊥
no-fault b f q h k = cc

-- at a fault nothing within the limits is spelled
pub read-none : (ws : List Symbol) (f : Fault) → text_at 16 limit ws ≡ Err f → (d : Items) (at : List Spot) → Spells ws d at → IsWithinLimits d → ⊥
read-none ws f e d at s w = no-fault (whole d at) f (text_at 16 limit ws) (read-only ws d at s w) e

-- where the fault stands
pub read-stands : (ws : List Symbol) (f : Fault) → text_at 16 limit ws ≡ Err f → Stands 16 limit ws f
read-stands ws f e = outcome-err f e (text-reads 16 limit ws)

-- ---- One statement.

pub item-found : (ws : List Symbol) (xs : List Item) → items_at 16 limit ws ≡ Ok xs → SpellsItems ws xs × IsWithinLimits (items_of xs)
item-found ws xs e = let p = outcome-ok xs e (items-read 16 limit ws) in (p.spelled, within (items_of xs) p.held)

pub item-only : (ws : List Symbol) (xs : List Item) → SpellsItems ws xs → IsWithinLimits (items_of xs) → items_at 16 limit ws ≡ Ok xs
item-only ws xs s w = items-again 16 limit ws xs s (held (items_of xs) w)

no-item-fault : (xs : List Item) (f : Fault) (q : Result (List Item) Fault) → q ≡ Ok xs → q ≡ Err f → ⊥
no-item-fault xs f q h k = cc

pub item-none : (ws : List Symbol) (f : Fault) → items_at 16 limit ws ≡ Err f → (xs : List Item) → SpellsItems ws xs → IsWithinLimits (items_of xs) → ⊥
item-none ws f e xs s w = no-item-fault xs f (items_at 16 limit ws) (item-only ws xs s w) e

pub item-stands : (ws : List Symbol) (f : Fault) → items_at 16 limit ws ≡ Err f → Stands 16 limit ws f
item-stands ws f e = outcome-err f e (items-read 16 limit ws)

-- ---- At most one description.

abbrev room_for : Items → Items → Room
room_for d e = record { items = max (count d) (count e); weight = max (weight d) (weight e) }

abbrev found : Items → List Spot → Result Block Fault
found d at = Ok (whole d at)

pub one-spelled : (ws : List Symbol) (d e : Items) (at bt : List Spot) → Spells ws d at → Spells ws e bt → (d ≡ e) × (at ≡ bt)
one-spelled ws d e at bt s t =
    let levels = max (depth d) (depth e) in
    let same : found d at ≡ found e bt =
    sym (text-again levels (room_for d e) ws d at s (record { deep = omega arith; many = omega arith; heavy = omega arith }))
    ∙ text-again levels (room_for d e) ws e bt t (record { deep = omega arith; many = omega arith; heavy = omega arith }) in
    let block_is : whole d at ≡ whole e bt = cc in
    (ap (λ b. b.items) block_is, ap (λ b. b.spots) block_is)

abbrev found_items : List Item → Result (List Item) Fault
found_items xs = Ok xs

pub one-statement : (ws : List Symbol) (xs ys : List Item) → SpellsItems ws xs → SpellsItems ws ys → xs ≡ ys
one-statement ws xs ys s t =
    let levels = max (depth (items_of xs)) (depth (items_of ys)) in
    let same : found_items xs ≡ found_items ys =
    sym (items-again levels (room_for (items_of xs) (items_of ys)) ws xs s (record { deep = omega arith; many = omega arith; heavy = omega arith }))
    ∙ items-again levels (room_for (items_of xs) (items_of ys)) ws ys t (record { deep = omega arith; many = omega arith; heavy = omega arith }) in
    cc
