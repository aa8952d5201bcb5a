-- A map without a fault has no instance of more than four sizes, so its written text isn't too long.
use Rattle.std.proofs.Common.{◌≡◌, ℕ, suc, ◌≤◌, Bool, true, false, true≢false, ◌&&◌, ◌||◌, not, List, [], ◌∷◌, ◌++◌, length, Option, Some, None}
use Rattle.std.proofs.lemmas.Bool.{ltb-false}
use Rattle.std.specs.Option.{is_some, option_or}
use Rattle.std.specs.Prelude.{nat_lt}
use Rattle.rdl_tree.specs.Component.{holder_kind}
use Rattle.rdl_tree.specs.Items.{Items, no_items, plain, holder, Plain, named, own, default, dynamic, Holder, define, anonymous}
use Rattle.rdl_tree.specs.View.{plain_item, holder_item}
use Rattle.rdl_tree.specs.declared.fault.FaultKind.TheVariants.{NameTwice, UnknownType, KindNotAllowed, PartNotAllowed, OutOfRange}
use Rattle.rdl_tree.specs.declared.shell.Kind.{Kind}
use Rattle.rdl_tree.specs.declared.shell.Shell.{Shell}
use Rattle.rdl_parse.specs.Faults.{max_text}
use Rattle.rdl_scope.specs.ItemFaults.{may_instantiate, has_dims, wrong_part_of_kind, wrong_part, wrong_number, instance_fault, instance_kind, item_fault, fault_at, first_fault, fault_of}
use Rattle.rdl_scope.specs.Target.{instance_before}
use Rattle.rdl_write.specs.MapText.{map_text}
use Rattle.rdl_round.specs.OfWords.{IsOfWords}
use Rattle.rdl_round.proofs.Faultless.{neither, first_none, neither_fault, no_kind, clear, fitting}
use Rattle.rdl_round.proofs.TextSizes.{HasFew, IsPlainFew, IsHolderFew, AreFew, map-size}

-- ---- An instance.

part-few : (k : Kind) (s : Shell) → wrong_part k s ≡ false → HasFew s
unfolding wrong_part
part-few k s e =
    let of_kind = wrong_part_of_kind k s in
    let brackets = has_dims s && is_some s.range in
    let stride = is_some s.stride && not (has_dims s) in
    let place = is_some s.address && is_some s.align in
    ltb-false 4 (length s.dims) (neither (of_kind || brackets || stride || place) (nat_lt 4 (length s.dims)) e).1

instance-few : (around : Option Kind) (twice : Bool) (s : Shell) (k : Option Kind) → instance_fault around twice s k ≡ None → HasFew s
unfolding instance_fault
instance-few around twice s None e = absurd (true≢false (first_none true UnknownType [] (first_none twice NameTwice ((true, UnknownType) ∷ []) e).1).0)
instance-few around twice s (Some k) e =
    let numbers = (wrong_number k s, OutOfRange) ∷ [] in
    let parts = (wrong_part k s, PartNotAllowed) ∷ numbers in
    let kinds = (not (may_instantiate around k), KindNotAllowed) ∷ parts in
    part-few k s (first_none (wrong_part k s) PartNotAllowed numbers (first_none (not (may_instantiate around k)) KindNotAllowed parts (first_none twice NameTwice kinds e).1).1).0

-- ---- All items.

plain-few : (d : Items) (around : Option Kind) (b : List ℕ) (body : Items) (n : ℕ) (p : Plain) → item_fault d around b body n (plain_item p) ≡ None → IsPlainFew p
unfolding item_fault
plain-few d around b body n (named s t) e = instance-few around (is_some (instance_before s.name n body)) s (instance_kind d (b ++ n ∷ [])) e
plain-few d around b body n (own p v) e = tt
plain-few d around b body n (default p v) e = tt
plain-few d around b body n (dynamic t p v) e = tt

holder-few : (d : Items) (around : Option Kind) (b : List ℕ) (body : Items) (n : ℕ) (h : Holder) (inside : Items) → item_fault d around b body n (holder_item h inside) ≡ None → IsHolderFew h
unfolding item_fault
holder-few d around b body n (define m k) inside e = tt
holder-few d around b body n (anonymous s k) inside e = instance-few around (is_some (instance_before s.name n body)) s (instance_kind d (b ++ n ∷ [])) e

items-few : (d : Items) (around : Option Kind) (b : List ℕ) (body : Items) (n : ℕ) (t : Items) → first_fault d around b body n t ≡ None → AreFew t
items-few d around b body n no_items e = tt
items-few d around b body n (plain p rest) e =
    let own_kind = item_fault d around b body n (plain_item p) in
    let clear = neither_fault (fault_at (b ++ n ∷ []) own_kind) (first_fault d around b body (suc n) rest) e in
    (plain-few d around b body n p (no_kind (b ++ n ∷ []) own_kind clear.0), items-few d around b body (suc n) rest clear.1)
items-few d around b body n (holder k inside rest) e =
    let own_kind = item_fault d around b body n (holder_item k inside) in
    let below = first_fault d (Some (holder_kind k)) (b ++ n ∷ []) inside 0 inside in
    let after = first_fault d around b body (suc n) rest in
    let clear = neither_fault (fault_at (b ++ n ∷ []) own_kind) (option_or below after) e in
    let deeper = neither_fault below after clear.1 in (
      holder-few d around b body n k inside (no_kind (b ++ n ∷ []) own_kind clear.0),
      items-few d (Some (holder_kind k)) (b ++ n ∷ []) inside 0 inside deeper.0,
      items-few d around b body (suc n) rest deeper.1,
    )

-- ---- The map.

pub text-fits : (d : Items) → IsOfWords d → fault_of d ≡ None → length (map_text d) ≤ max_text
text-fits d h e = map-size d h (items-few d None [] d 0 d (clear d e).1) (fitting d e)
