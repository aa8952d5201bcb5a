-- The items of a body that is renewed have no fault, if none had in what it was: one item after another.
use Rattle.std.proofs.Common.{◌≡◌, ℕ, ◌+◌, ◌≤◌, Bool, true, false, List, ◌∷◌, length, Option, Some, sym, ap, subst, ◌∙◌, arith}
use Rattle.std.specs.Prelude.{OnOk, Result, Ok, Err}
use Rattle.rdl_tree.specs.Items.{Items}
use Rattle.rdl_tree.specs.View as tree
use Rattle.rdl_tree.specs.declared.description.Component.{Component}
use Rattle.rdl_tree.specs.declared.description.Item.{Item}
use Rattle.rdl_tree.specs.declared.description.Item.TheVariants.{Define, Instance, Own, Default, Dynamic}
use Rattle.rdl_tree.specs.declared.description.Of.TheVariants.{Named, Anonymous}
use Rattle.rdl_tree.specs.declared.shell.Kind.{Kind}
use Rattle.rdl_tree.specs.declared.shell.Kind.TheVariants.{Addrmap, Regfile, Reg, Field}
use Rattle.rdl_marks.specs.Describes.{IsItem}
use Rattle.rdl_marks.specs.Marks.{Firsts, Marks}
use Rattle.rdl_marks.specs.View.{Trace, old_item, same_item}
use Rattle.rdl_nodes.specs.declared.node.Slot.{Slot}
use Rattle.rdl_nodes.specs.View.{slots_of}
use Rattle.rdl_places.specs.ScopeLaws.{IsCleanInside}
use Rattle.rdl_places.specs.Scopes.{Place, around_places, IsScope}
use Rattle.rdl_places.proofs.CleanItems.{items_are_clean_in_bodies}
use Rattle.rdl_seen.specs.Clean.{are_clean}
use Rattle.rdl_seen.specs.Inside.{no_instances}
use Rattle.rdl_seen.specs.Layouts.{Laying}
use Rattle.rdl_seen.specs.Meaning.{around_before, kept_at}
use Rattle.rdl_seen.specs.Node.{Around, body_of}
use Rattle.rdl_seen.specs.OneByOne.{slot_at}
use Rattle.rdl_seen.specs.Slots.{Node}
use Rattle.rdl_renew.specs.declared.done.Done.{Done}
use Rattle.rdl_renew.specs.Alone.{stands_alone}
use Rattle.rdl_renew.specs.Fronts.{front_of}
use Rattle.rdl_renew.specs.Judged.{IsCleanBody, IsCleanItem, IfStillClean, HasNoneThere, HasNoneInside, IsCleanThere}
use Rattle.rdl_renew.specs.Renewing.{Renewing, Became, IsReached, IsNext, IsSettledAt, part_of_kind, kept_component}
use Rattle.rdl_renew.specs.StillClean.{StandAloneStill, WasClean, IsCleanStill, BecameClean}
use Rattle.rdl_renew.proofs.Alone.{clean_stand_alone}
use Rattle.rdl_renew.proofs.CleanBelow.{HasCleanBelow, one_below, below_all}
use Rattle.rdl_renew.proofs.FrontSlots.{fronts_are_slots, got_front}
use Rattle.rdl_renew.proofs.ItemSteps.{was_there, component_became, inside_in_order, reached_there, reached_stayed}
use Rattle.rdl_renew.proofs.LoneItems.{lone_items_are_clean, settled_items_stay_clean}
use Rattle.rdl_renew.proofs.OneDone.{around_here, place_behind, done_many}
use Rattle.rdl_renew.proofs.Raised.{from_there}

-- what holds anyway holds where a call gave something
pub on_any : {T E A : Type 0} (o : Result T E) → A → OnOk o A
on_any (Ok v) a = a
on_any (Err e) a = tt

same_some : {X : Type 0} {x y : X} → ◌≡◌ {A = Option X} (Some x) (Some y) → x ≡ y
same_some e = cc

-- ---- What is inside an item.

part_clean : (lay : Laying) (a : Around) (k : Kind) (body : Items) (c : Component) → part_of_kind k (record { kind = k; body = body }) ≡ Some c → IsCleanBody lay a (Some k) body → IsCleanBody lay a (Some c.kind) c.body
part_clean lay a Addrmap body c e h = subst (λ (y : Component). IsCleanBody lay a (Some y.kind) y.body) (same_some e) h
part_clean lay a Regfile body c e h = subst (λ (y : Component). IsCleanBody lay a (Some y.kind) y.body) (same_some e) h
part_clean lay a Reg body c e h = subst (λ (y : Component). IsCleanBody lay a (Some y.kind) y.body) (same_some e) h
part_clean lay a Field body c e h = absurd cc

clean_part : (lay : Laying) (a : Around) (k : Kind) (body : Items) (c : Component) → part_of_kind k (record { kind = k; body = body }) ≡ Some c → IsCleanBody lay a (Some c.kind) c.body → IsCleanBody lay a (Some k) body
clean_part lay a Addrmap body c e h = subst (λ (y : Component). IsCleanBody lay a (Some y.kind) y.body) (sym (same_some e)) h
clean_part lay a Regfile body c e h = subst (λ (y : Component). IsCleanBody lay a (Some y.kind) y.body) (sym (same_some e)) h
clean_part lay a Reg body c e h = subst (λ (y : Component). IsCleanBody lay a (Some y.kind) y.body) (sym (same_some e)) h
clean_part lay a Field body c e h = absurd cc

-- the component of an item inside which none has a fault
component_clean : (lay : Laying) (a : Around) (y : Item) (c : Component) → kept_component y ≡ Some c → IsCleanInside lay a y → IsCleanBody lay a (Some c.kind) c.body
component_clean lay a (Define n d) c e h = subst (λ (y : Component). IsCleanBody lay a (Some y.kind) y.body) (same_some e) h
component_clean lay a (Instance s (Named t)) c e h = absurd cc
component_clean lay a (Instance s (Anonymous d)) c e h = part_clean lay a d.kind d.body c e h
component_clean lay a (Own p v) c e h = absurd cc
component_clean lay a (Default p v) c e h = absurd cc
component_clean lay a (Dynamic t p v) c e h = absurd cc

-- and an item with such a component
pub clean_inside : (lay : Laying) (a : Around) (y : Item) (c : Component) → kept_component y ≡ Some c → IsCleanBody lay a (Some c.kind) c.body → IsCleanInside lay a y
clean_inside lay a (Define n d) c e h = subst (λ (y : Component). IsCleanBody lay a (Some y.kind) y.body) (sym (same_some e)) h
clean_inside lay a (Instance s (Named t)) c e h = tt
clean_inside lay a (Instance s (Anonymous d)) c e h = clean_part lay a d.kind d.body c e h
clean_inside lay a (Own p v) c e h = tt
clean_inside lay a (Default p v) c e h = tt
clean_inside lay a (Dynamic t p v) c e h = tt

abbrev pub was_clean : Laying → Renewing → Bool
was_clean lay r = are_clean lay r.saw r.around r.old 0 no_instances r.old

-- what became of the component of an item that stayed, in which no item had a fault if none in its body had
pub became_clean : (lay : Laying) (r : Renewing) (n number : ℕ) (d : Done) (y : Item) (firsts : Firsts) (inside : Marks) (kept : Option Node) → IsNext lay r n d y (old_item number firsts inside) → kept ≡ kept_at number r.slots
    → BecameClean lay (around_before lay number r.saw r.old) kept inside (was_clean lay r) y
became_clean lay r n number d y firsts inside kept next keeps = λ k c e f.
    let was = was_there r.old number firsts inside y (from_there r.marks r.old r.now n (old_item number firsts inside) y next.became.describes next.there next.told) in
    let ordered = inside_in_order r.marks n number firsts inside next.became.in_order next.told in
    let became = component_became lay r.saw r.old number inside y r.slots kept was ordered next.became.kept keeps k c e f in (
      became.0,
      became.1,
      λ clean.
          component_clean lay (around_before lay number r.saw r.old) was.item (record { kind = c.kind; body = became.0 }) became.2
          (items_are_clean_in_bodies lay r.saw r.around r.old clean number was.item was.is).1,
    )

-- ---- One item.

abbrev place_at : Renewing → Done → ℕ → List Place
place_at r d k = record { body = r.now; number = k; slots = slots_of d.slots.items } ∷ r.places

-- that was looked at where it stands
clean_here : (lay : Laying) (r : Renewing) (n : ℕ) (d : Done) (y : Item) (there : List Place) → there ≡ place_behind r d ∷ r.places → length d.slots.items ≡ n → stands_alone r.now n y ≡ true
    → HasNoneThere lay there r.around y → HasNoneInside lay there y → IsCleanItem lay (around_places lay r.places) r.around r.now n y
clean_here lay r n d y there here many alone none inside =
    let b = around_here lay r in
    lone_items_are_clean lay b r.around r.now n y alone (
      subst (λ k. HasNoneThere lay (place_at r d k) r.around y) many (subst (λ ps. HasNoneThere lay ps r.around y) here none),
      subst (λ k. HasNoneInside lay (place_at r d k) y) many (subst (λ ps. HasNoneInside lay ps y) here inside),
    )

-- that is made anew
pub new_clean : (lay : Laying) (r : Renewing) (n : ℕ) (d : Done) (y : Item) (t : Trace) (there : List Place) (before look now : Bool) → there ≡ place_behind r d ∷ r.places → IsNext lay r n d y t
    → (IsScope lay there → IfStillClean before look (HasNoneThere lay there r.around y))
    → (IsScope lay there → d.reach.defaults ≡ (around_places lay there).defaults → IfStillClean look now (HasNoneInside lay there y))
    → IfStillClean before now (IsCleanStill lay r n y)
new_clean lay r n d y t there before look now here next itself inside e =
    let reached = reached_there lay r n d there next.done next.scope here in
    let deep = inside reached.0 reached.1 e in
    let none = itself reached.0 deep.0 in
    (none.0, λ was alone. clean_here lay r n d y there here (done_many lay r n d next.done) (alone n y next.there) none.1 deep.1)

-- that stayed
pub stayed_clean : (lay : Laying) (r : Renewing) (n : ℕ) (d : Done) (y : Item) (number : ℕ) (firsts : Firsts) (inside : Marks) (kept : Option Node) (there : List Place) (before look now : Bool)
    → there ≡ place_behind r d ∷ r.places → IsNext lay r n d y (old_item number firsts inside) → firsts.is_moved ≡ false → kept ≡ kept_at number r.slots
    → (IsScope lay there → IfStillClean before look (HasNoneThere lay there r.around y))
    → (BecameClean lay (around_before lay number r.saw r.old) kept inside (was_clean lay r) y → IsReached lay there (around_before lay number r.saw r.old) d.reach
    → IfStillClean look now (was_clean lay r ≡ true → HasNoneInside lay there y))
    → IfStillClean before now (IsCleanStill lay r n y)
stayed_clean lay r n d y number firsts inside kept there before look now here next unmoved keeps itself within e =
    let reached = reached_stayed lay r n d y number firsts inside there here next unmoved in
    let deep = within (became_clean lay r n number d y firsts inside kept next keeps) reached e in
    let none = itself reached.scope deep.0 in
    (none.0, λ was alone. clean_here lay r n d y there here (done_many lay r n d next.done) (alone n y next.there) none.1 (deep.1 was))

-- that is passed over
pub settled_clean : (lay : Laying) (r : Renewing) (n : ℕ) (d : Done) (y : Item) (number : ℕ) (s : Slot) (xs : List Slot) → IsNext lay r n d y (same_item number) → r.slots ≡ slots_of xs → IsSettledAt d.reach.alert xs number s
    → IsCleanStill lay r n y
settled_clean lay r n d y number s xs next of settled = λ was alone.
    let there : slot_at number (body_of lay r.saw r.old).slots ≡ Some (front_of s) =
    ap (slot_at number) (sym next.became.kept ∙ of) ∙ (fronts_are_slots xs number ∙ got_front xs number s settled.there) in
    settled_items_stay_clean lay d.reach.alert r.marks r.old r.now r.saw (around_here lay r) r.around n next.became.describes next.became.in_order next.done.tells next.done.agree was alone n number y (front_of s)
    (let l : n ≤ n = omega arith in l) next.there next.told there settled.settled

pub same_judge : {P : Type 0} (b : Bool) → P → IfStillClean b b P
same_judge b p = λ e. (e, p)

-- inside a component that is renewed
pub component_still : (lay : Laying) (ps : List Place) (y : Item) (c : Component) (before now was : Bool) (W : Type 0) → kept_component y ≡ Some c → (was ≡ true → W)
    → IfStillClean before now (W → IsCleanThere lay ps (Some c.kind) c.body) → IfStillClean before now (was ≡ true → HasNoneInside lay ps y)
component_still lay ps y c before now was W is of h = λ e. let known = h e in (known.0, λ w. clean_inside lay (around_places lay ps) y c is (known.1 (of w)))

-- ---- All of a body.

-- if no item of what it was had a fault, those below a number have none, so far as that is known
abbrev pub AreCleanStill : Laying → Renewing → (count : ℕ) → (before now : Bool) → Type 0
AreCleanStill lay r count before now = IfStillClean before now (WasClean lay r → HasCleanBelow lay r.places r.around r.now count)

pub first_clean : (lay : Laying) (r : Renewing) (before now : Bool) → Became lay r.saw r.slots r.marks r.old r.now → IfStillClean before now (StandAloneStill r.marks r.now) → AreCleanStill lay r 0 before now
first_clean lay r before now became alone e =
    let known = alone e in (
      known.0,
      λ was. record { alone = known.1 r.old became.describes (clean_stand_alone lay r.saw r.around no_instances r.old was); clean = λ i y l got. absurd (omega (arith, l)) },
    )

pub next_clean : (lay : Laying) (r : Renewing) (n : ℕ) (y : Item) (before mid now : Bool) → IsItem n r.now y → AreCleanStill lay r n before mid → IfStillClean mid now (IsCleanStill lay r n y)
    → AreCleanStill lay r (n + 1) before now
next_clean lay r n y before mid now there below here e =
    let one = here e in
    let known = below one.0 in
    (known.0, λ was. let z = known.1 was in one_below lay r.places r.around r.now n y z there (one.1 was z.alone))

pub body_clean : (lay : Laying) (r : Renewing) (n : ℕ) (before now : Bool) (xs : List Item) → AreCleanStill lay r n before now → xs ≡ tree.list_of r.now → length xs ≤ n
    → IfStillClean before now (WasClean lay r → IsCleanThere lay r.places r.around r.now)
body_clean lay r n before now xs below all down e =
    let known = below e in
    let long = ap length all in
    (known.0, λ was. below_all lay r.places r.around r.now n (known.1 was) (omega (arith, long, down)))
