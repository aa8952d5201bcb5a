-- The slots of a body one by one, and which of them stay.
use Rattle.std.proofs.Common.{◌≡◌, ℕ, zero, suc, ◌&&◌, ◌||◌, Bool, false, true, List, Option, Some, None, option_map, refl, sym, ap, ◌∙◌}
use Rattle.std.specs.Prelude.{slice_get}
use Rattle.rdl_tree.specs.Component.{holder_kind}
use Rattle.rdl_tree.specs.Items.{Items, no_items, plain, holder, Plain, named, own, default, dynamic, Holder, define, anonymous}
use Rattle.rdl_tree.specs.View.{list_of, add, plain_item, holder_item}
use Rattle.rdl_tree.specs.declared.description.Item.{Item}
use Rattle.rdl_tree.specs.declared.description.Item.TheVariants.{Define, Instance, Own, Default, Dynamic}
use Rattle.rdl_tree.specs.declared.description.Of.TheVariants.{Named, Anonymous}
use Rattle.rdl_tree.specs.declared.shell.Kind.{Kind}
use Rattle.rdl_tree.specs.declared.shell.Kind.TheVariants.{Addrmap, Regfile, Reg, Field}
use Rattle.rdl_tree.specs.declared.shell.Shell.{Shell}
use Rattle.rdl_scope.specs.Closed.{lookup}
use Rattle.rdl_seen.specs.declared.alert.Alert.{Alert}
use Rattle.rdl_seen.specs.declared.seen.Seen.{Seen}
use Rattle.rdl_seen.specs.Agree.{shown}
use Rattle.rdl_seen.specs.Alert.{is_told, AgreeBut}
use Rattle.rdl_seen.specs.Inside.{Inside}
use Rattle.rdl_seen.specs.Layouts.{Laying}
use Rattle.rdl_seen.specs.Meaning.{around_before}
use Rattle.rdl_seen.specs.Names.{class_of, has_class}
use Rattle.rdl_seen.specs.Node.{Known, Around, after_plain, after_holder, plain_instances, holder_instances, walked, node, known}
use Rattle.rdl_seen.specs.OneByOne.{slot_of_item, instances_behind, joined, slot_at, instances_before, AreWalkedInTurn, SlotsAreOfItems, IsDeafComponent, IsDeafPart, DeafSlotsStay}
use Rattle.rdl_seen.specs.Passing.{behind_item}
use Rattle.rdl_seen.specs.Slots.{Slots, no_slots, slot, written, type_slot, part_slot, named_slot, dynamic_slot, Node}
use Rattle.rdl_seen.proofs.Alerts.{unreached_are_kept, both_lack}
use Rattle.rdl_seen.proofs.Around.{same_seen}
use Rattle.rdl_seen.proofs.Passing.{some_same}

pub are_walked_in_turn : AreWalkedInTurn
are_walked_in_turn lay a before (Define n c) rest = (refl, refl)
are_walked_in_turn lay a before (Instance s (Named t)) rest = (refl, refl)
are_walked_in_turn lay a before (Instance s (Anonymous c)) rest = by c.kind
  where
    by : (k : Kind)
        → ((walked lay a before (holder (anonymous s k) c.body rest)).slots
        ≡ joined (walked lay a before (holder (anonymous s k) c.body no_items)).slots (walked lay a (walked lay a before (holder (anonymous s k) c.body no_items)).instances rest).slots)
        × ((walked lay a before (holder (anonymous s k) c.body rest)).instances ≡ (walked lay a (walked lay a before (holder (anonymous s k) c.body no_items)).instances rest).instances)
    by Addrmap = (refl, refl)
    by Regfile = (refl, refl)
    by Reg = (refl, refl)
    by Field = (refl, refl)
are_walked_in_turn lay a before (Own p v) rest = (refl, refl)
are_walked_in_turn lay a before (Default p v) rest = (refl, refl)
are_walked_in_turn lay a before (Dynamic t p v) rest = (refl, refl)

first_plain : (lay : Laying) (a : Around) (before : Inside) (p : Plain) (rest : Items) → slot_at 0 (walked lay a before (plain p rest)).slots ≡ Some (slot_of_item lay a before (plain_item p))
first_plain lay a before (named s t) rest = refl
first_plain lay a before (own p v) rest = refl
first_plain lay a before (default p v) rest = refl
first_plain lay a before (dynamic t p v) rest = refl

first_holder : (lay : Laying) (a : Around) (before : Inside) (h : Holder) (body rest : Items)
    → slot_at 0 (walked lay a before (holder h body rest)).slots ≡ Some (slot_of_item lay a before (holder_item h body))
first_holder lay a before (define n k) body rest = refl
first_holder lay a before (anonymous s Addrmap) body rest = refl
first_holder lay a before (anonymous s Regfile) body rest = refl
first_holder lay a before (anonymous s Reg) body rest = refl
first_holder lay a before (anonymous s Field) body rest = refl

later_holder : (lay : Laying) (a : Around) (before : Inside) (h : Holder) (body rest : Items) (i : ℕ)
    → slot_at (suc i) (walked lay a before (holder h body rest)).slots
    ≡ slot_at i (walked lay (after_holder h (known lay a (holder_kind h) body) a) (holder_instances h (known lay a (holder_kind h) body) before) rest).slots
later_holder lay a before (define n k) body rest i = refl
later_holder lay a before (anonymous s Addrmap) body rest i = refl
later_holder lay a before (anonymous s Regfile) body rest i = refl
later_holder lay a before (anonymous s Reg) body rest i = refl
later_holder lay a before (anonymous s Field) body rest i = refl

pub slots_are_of_items : SlotsAreOfItems
slots_are_of_items lay a before no_items i x got = absurd cc
slots_are_of_items lay a before (plain p rest) zero x got =
    first_plain lay a before p rest ∙ ap (λ y. Some (slot_of_item lay a before y)) (some_same (plain_item p) x got)
slots_are_of_items lay a before (plain p rest) (suc i) x got = slots_are_of_items lay (after_plain p a) (plain_instances a p before) rest i x got
slots_are_of_items lay a before (holder h body rest) zero x got =
    first_holder lay a before h body rest ∙ ap (λ y. Some (slot_of_item lay a before y)) (some_same (holder_item h body) x got)
slots_are_of_items lay a before (holder h body rest) (suc i) x got =
    let k = known lay a (holder_kind h) body in
    later_holder lay a before h body rest i ∙ slots_are_of_items lay (after_holder h k a) (holder_instances h k before) rest i x got

part_stays : (lay : Laying) (x : Alert) (a b : Around) (k : Kind) (body : Items) → AgreeBut x a b → IsDeafComponent lay x a (record { kind = k; body = body }) → node lay b k body ≡ node lay a k body
part_stays lay x a b k body but deaf = (unreached_are_kept lay x a b k body but deaf).0

no_inside : (z : Bool) → (false && z) ≡ false
no_inside z = refl

anonymous_stays : (lay : Laying) (x : Alert) (a b : Around) (m n : Inside) (s : Shell) (k : Kind) (body : Items) → AgreeBut x a b → IsDeafPart k lay x a (record { kind = k; body = body })
    → (walked lay b n (holder (anonymous s k) body no_items)).slots ≡ (walked lay a m (holder (anonymous s k) body no_items)).slots
anonymous_stays lay x a b m n s Addrmap body but deaf = let e = part_stays lay x a b Addrmap body but deaf in λ i. written part_slot (e i).core (e i).slots no_slots
anonymous_stays lay x a b m n s Regfile body but deaf = let e = part_stays lay x a b Regfile body but deaf in λ i. written part_slot (e i).core (e i).slots no_slots
anonymous_stays lay x a b m n s Reg body but deaf = let e = part_stays lay x a b Reg body but deaf in λ i. written part_slot (e i).core (e i).slots no_slots
anonymous_stays lay x a b m n s Field body but deaf = refl

pub deaf_slots_stay : DeafSlotsStay
deaf_slots_stay lay x a b m n (Define name c) but deaf =
    let e = part_stays lay x a b c.kind c.body but deaf in
    λ i. written (type_slot (class_of name)) (e i).core (e i).slots no_slots
deaf_slots_stay lay x a b m n (Instance s (Named t)) but deaf =
    let found = but.types false t (both_lack (has_class x.types (class_of t)) (false && has_class x.inside (class_of t)) deaf (no_inside (has_class x.inside (class_of t)))) in
    sym (ap (λ (o : Option Seen). slot (named_slot (class_of t) o) no_slots) (same_seen false (lookup t a.types) (lookup t b.types) found))
deaf_slots_stay lay x a b m n (Instance s (Anonymous c)) but deaf = anonymous_stays lay x a b m n s c.kind c.body but deaf
deaf_slots_stay lay x a b m n (Own p v) but deaf = refl
deaf_slots_stay lay x a b m n (Default p v) but deaf = refl
deaf_slots_stay lay x a b m n (Dynamic t p v) but deaf = sym (ap (λ w. slot (dynamic_slot w) no_slots) deaf)
