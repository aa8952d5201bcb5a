-- What is placed for one item of a body that is renewed: nothing, if it is settled, and all, if it is made anew.
use Rattle.std.proofs.Common.{◌≡◌, ℕ, suc, ◌+◌, ◌-◌, ◌&&◌, ◌||◌, Bool, true, false, if◌then◌else◌, nat_lt, List, [], ◌∷◌, Option, Some, None, refl, sym, ap, ◌∙◌, arith}
use Rattle.std.proofs.lemmas.Bool.{le-ltb}
use Rattle.rdl_tree.specs.Items.{Items, no_items, plain, holder}
use Rattle.rdl_tree.specs.View as tree
use Rattle.rdl_tree.specs.declared.description.Component.{Component}
use Rattle.rdl_tree.specs.declared.description.Item.{Item}
use Rattle.rdl_tree.specs.declared.description.Item.TheVariants.{Define, Instance, Own, Default, Dynamic}
use Rattle.rdl_tree.specs.declared.description.Of.TheVariants.{Named, Anonymous}
use Rattle.rdl_tree.specs.declared.shell.Kind.{Kind}
use Rattle.rdl_tree.specs.declared.shell.Kind.TheVariants.{Addrmap, Regfile, Reg, Field}
use Rattle.rdl_tree.specs.declared.shell.Shell.{Shell}
use Rattle.rdl_marks.specs.Marks.{Firsts, Marks, no_marks}
use Rattle.rdl_marks.specs.View.{Trace, new_item, old_item, same_item}
use Rattle.rdl_marks.specs.Was.{trace_of}
use Rattle.rdl_nodes.specs.Placed.{all_placed, same_stated}
use Rattle.rdl_nodes.proofs.Counts.{stated_same, values_same, none_placed}
use Rattle.rdl_seen.specs.Fields.{Of, of_field, of_seen, of_none, says_bits}
use Rattle.rdl_seen.specs.Inside.{Inside}
use Rattle.rdl_seen.specs.Layouts.{Laying}
use Rattle.rdl_seen.specs.Meaning.{kept_at}
use Rattle.rdl_seen.specs.Node.{Around}
use Rattle.rdl_seen.specs.OneByOne.{slot_of_item}
use Rattle.rdl_seen.specs.Slots.{Slots, Node}
use Rattle.rdl_renew.specs.AlikeSlots.{of_at, takes_same, is_alike, is_told_alike, all_alike, are_alike}
use Rattle.rdl_renew.specs.Counting.{by_body, item_placed, stayed_placed}
use Rattle.rdl_renew.specs.Placed.{placed_anew, placed_stayed, placed_item, placed_told, placed_in, in_body}
use Rattle.rdl_renew.specs.Renewing.{IsMadeAnew, part_of_kind, kept_component}
use Rattle.rdl_renew.proofs.AlikeSteps.{same_alike, by_mode_own}

-- ---- An item by the body of its component.

pub bodies_so : (f g : Items → ℕ) (y : Item) → ((b : Items) → f b ≡ g b) → by_body f y ≡ by_body g y
bodies_so f g (Define n c) e = e c.body
bodies_so f g (Instance s (Named t)) e = refl
bodies_so f g (Instance s (Anonymous c)) e = e c.body
bodies_so f g (Own p v) e = refl
bodies_so f g (Default p v) e = refl
bodies_so f g (Dynamic t p v) e = refl

none_by_body : (y : Item) → by_body (λ b. 0) y ≡ 0
none_by_body (Define n c) = refl
none_by_body (Instance s (Named t)) = refl
none_by_body (Instance s (Anonymous c)) = refl
none_by_body (Own p v) = refl
none_by_body (Default p v) = refl
none_by_body (Dynamic t p v) = refl

same_some : {X : Type 0} {x y : X} → ◌≡◌ {A = Option X} (Some x) (Some y) → x ≡ y
same_some e = cc

part_body : (f : Items → ℕ) (k : Kind) (body : Items) (c : Component) → part_of_kind k (record { kind = k; body = body }) ≡ Some c → f body ≡ f c.body
part_body f Addrmap body c e = ap (λ (d : Component). f d.body) (same_some e)
part_body f Regfile body c e = ap (λ (d : Component). f d.body) (same_some e)
part_body f Reg body c e = ap (λ (d : Component). f d.body) (same_some e)
part_body f Field body c e = absurd cc

pub body_is : (f : Items → ℕ) (y : Item) (c : Component) → kept_component y ≡ Some c → by_body f y ≡ f c.body
body_is f (Define n d) c e = ap (λ (d : Component). f d.body) (same_some e)
body_is f (Instance s (Named t)) c e = absurd cc
body_is f (Instance s (Anonymous d)) c e = part_body f d.kind d.body c e
body_is f (Own p v) c e = absurd cc
body_is f (Default p v) c e = absurd cc
body_is f (Dynamic t p v) c e = absurd cc

-- ---- An item that is made anew.

anew_part : (lay : Laying) (a : Around) (m : Inside) (s : Shell) (k : Kind) (body : Items)
    → placed_anew (kept_at 0 (slot_of_item lay a m (Instance s (Anonymous (record { kind = k; body = body }))))) ≡ all_placed (slot_of_item lay a m (Instance s (Anonymous (record { kind = k; body = body }))))
anew_part lay a m s Addrmap body = omega arith
anew_part lay a m s Regfile body = omega arith
anew_part lay a m s Reg body = omega arith
anew_part lay a m s Field body = refl

-- all that is inside it is placed
anew_all : (lay : Laying) (a : Around) (m : Inside) (y : Item) → by_body (λ b. placed_anew (kept_at 0 (slot_of_item lay a m y))) y ≡ all_placed (slot_of_item lay a m y)
anew_all lay a m (Define n c) = omega arith
anew_all lay a m (Instance s (Named t)) = refl
anew_all lay a m (Instance s (Anonymous c)) = anew_part lay a m s c.kind c.body
anew_all lay a m (Own p v) = refl
anew_all lay a m (Default p v) = refl
anew_all lay a m (Dynamic t p v) = refl

anew_item : (w : Bool) (before : Slots) (e : Trace) (now : Option Node) (b : Items) → IsMadeAnew e → placed_item (in_body b) w before e b now ≡ placed_anew now
anew_item w before new_item now b anew = refl
anew_item w before (old_item k f inside) now b anew = ap (λ t. if t then placed_anew now else placed_stayed (in_body b) w inside (kept_at k before) b now) anew

pub anew_placed : (lay : Laying) (a : Around) (m : Inside) (w : Bool) (before : Slots) (e : Trace) (y : Item) → IsMadeAnew e
    → item_placed w before e (kept_at 0 (slot_of_item lay a m y)) y ≡ all_placed (slot_of_item lay a m y)
anew_placed lay a m w before e y anew =
    let now = kept_at 0 (slot_of_item lay a m y) in
    bodies_so (λ b. placed_item (in_body b) w before e b now) (λ b. placed_anew now) y (λ b. anew_item w before e now b anew) ∙ anew_all lay a m y

-- ---- An item that stayed.

pub stayed_item : (w : Bool) (before : Slots) (number : ℕ) (firsts : Firsts) (inside : Marks) (now : Option Node) (y : Item) → firsts.is_moved ≡ false
    → item_placed w before (old_item number firsts inside) now y ≡ stayed_placed w inside (kept_at number before) now y
stayed_item w before number firsts inside now y unmoved =
    bodies_so (λ b. placed_item (in_body b) w before (old_item number firsts inside) b now) (λ b. placed_stayed (in_body b) w inside (kept_at number before) b now) y
    (λ b. ap (λ t. if t then placed_anew now else placed_stayed (in_body b) w inside (kept_at number before) b now) unmoved)

-- of which nothing was kept
none_before : (w : Bool) (inside : Marks) (now : Option Node) (b : Items) → placed_stayed (in_body b) w inside None b now ≡ placed_anew now
none_before w inside None b = refl
none_before w inside (Some n) b = refl

pub unkept_placed : (lay : Laying) (a : Around) (m : Inside) (w : Bool) (inside : Marks) (y : Item)
    → stayed_placed w inside None (kept_at 0 (slot_of_item lay a m y)) y ≡ all_placed (slot_of_item lay a m y)
unkept_placed lay a m w inside y =
    let now = kept_at 0 (slot_of_item lay a m y) in
    bodies_so (λ b. placed_stayed (in_body b) w inside None b now) (λ b. placed_anew now) y (λ b. none_before w inside now b) ∙ anew_all lay a m y

-- and one without a component of its own
bare_part : (lay : Laying) (a : Around) (m : Inside) (w : Bool) (inside : Marks) (before : Option Node) (s : Shell) (k : Kind) (body : Items) → part_of_kind k (record { kind = k; body = body }) ≡ None
    → placed_stayed (in_body body) w inside before body (kept_at 0 (slot_of_item lay a m (Instance s (Anonymous (record { kind = k; body = body })))))
    ≡ all_placed (slot_of_item lay a m (Instance s (Anonymous (record { kind = k; body = body }))))
bare_part lay a m w inside before s Addrmap body e = absurd cc
bare_part lay a m w inside before s Regfile body e = absurd cc
bare_part lay a m w inside before s Reg body e = absurd cc
bare_part lay a m w inside before s Field body e = refl

pub bare_placed : (lay : Laying) (a : Around) (m : Inside) (w : Bool) (inside : Marks) (before : Option Node) (y : Item) → kept_component y ≡ None
    → stayed_placed w inside before (kept_at 0 (slot_of_item lay a m y)) y ≡ all_placed (slot_of_item lay a m y)
bare_placed lay a m w inside before (Define n c) e = absurd cc
bare_placed lay a m w inside before (Instance s (Named t)) e = refl
bare_placed lay a m w inside before (Instance s (Anonymous c)) e = bare_part lay a m w inside before s c.kind c.body e
bare_placed lay a m w inside before (Own p v) e = refl
bare_placed lay a m w inside before (Default p v) e = refl
bare_placed lay a m w inside before (Dynamic t p v) e = refl

-- ---- An item that is as it was.

same_told : (n : ℕ) → trace_of no_marks n ≡ Some (same_item n)
same_told n =
    let at : 0 + (n - 0) ≡ n = omega arith in
    let past : nat_lt n 0 ≡ false = le-ltb n 0 (omega arith) in
    ap (λ b. if b then None else Some (same_item (0 + (n - 0)))) past ∙ ap (λ k. Some (same_item k)) at

takes_own : (s : Shell) (o : Of) → takes_same true s o o ≡ true
takes_own s (of_field f) = by (says_bits s)
  where
    by : (b : Bool) → (b || (same_stated f.width f.width && true)) ≡ true
    by true = refl
    by false = ap (λ b. b && true) (stated_same f.width)
takes_own s (of_seen a) = λ i. by_mode_own a.size i && by_mode_own a.widest i
takes_own s of_none = refl

alike_own : (s : Slots) (n : ℕ) (y : Item) → is_alike true s (of_at n s) (same_item n) y ≡ true
alike_own s n (Define k c) = refl
alike_own s n (Instance sh of) = same_alike true s (of_at n s) n sh of ∙ takes_own sh (of_at n s)
alike_own s n (Own p v) = refl
alike_own s n (Default p v) = refl
alike_own s n (Dynamic t p v) = refl

all_alike_own : (s : Slots) (n : ℕ) (ys : List Item) → all_alike true no_marks s s n ys ≡ true
all_alike_own s n [] = refl
all_alike_own s n (y ∷ ys) = λ i. (ap (λ t. is_told_alike true s (of_at n s) t y) (same_told n) ∙ alike_own s n y) i && all_alike_own s (suc n) ys i

-- nothing is placed for a component that is as it was, where no default width was set around it
own_stayed : (body : Items) (k : Option Node) → ((s : Slots) → in_body body false no_marks s s ≡ 0) → placed_stayed (in_body body) false no_marks k body k ≡ 0
own_stayed body None inner = refl
own_stayed body (Some n) inner =
    let alike = all_alike_own n.slots 0 (tree.list_of body) in
    let own = none_placed (are_alike true no_marks n.slots n.slots body) n.core.values n.core.values n.core.layouts alike (values_same n.core.values) in
    let inside = inner n.slots in
    omega (arith, own, inside)

own_told : (body : Items) (s : Slots) (n : ℕ) → ((t : Slots) → in_body body false no_marks t t ≡ 0)
    → placed_told (in_body body) false s (trace_of no_marks n) body (kept_at n s) ≡ 0
own_told body s n inner = ap (λ t. placed_told (in_body body) false s t body (kept_at n s)) (same_told n) ∙ own_stayed body (kept_at n s) inner

own_placed : (body : Items) (s : Slots) (n : ℕ) → placed_in false no_marks s s n body ≡ 0
own_placed no_items s n = refl
own_placed (plain p rest) s n = own_placed rest s (suc n)
own_placed (holder h body rest) s n =
    let here = own_told body s n (λ t. own_placed body t 0) in
    let more = own_placed rest s (suc n) in
    λ i. here i + more i

-- nothing is placed for an item that is settled
pub settled_placed : (before : Slots) (number : ℕ) (now : Option Node) (y : Item) (w : Bool) → now ≡ kept_at number before → ((k : Node) → now ≡ Some k → w ≡ false)
    → item_placed w before (same_item number) now y ≡ 0
settled_placed before number now y w same untold =
    ap (λ k. by_body (λ b. placed_stayed (in_body b) w no_marks k b now) y) (sym same)
    ∙ (bodies_so (λ b. placed_stayed (in_body b) w no_marks now b now) (λ b. 0) y (λ b. by b now untold) ∙ none_by_body y)
  where
    by : (b : Items) (k : Option Node) → ((n : Node) → k ≡ Some n → w ≡ false) → placed_stayed (in_body b) w no_marks k b k ≡ 0
    by b None u = refl
    by b (Some n) u = ap (λ v. placed_stayed (in_body b) v no_marks (Some n) b (Some n)) (u n refl) ∙ own_stayed b (Some n) (λ s. own_placed b s 0)
