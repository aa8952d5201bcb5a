-- What two bodies see, as far as something in them listens.
use Rattle.std.proofs.Common.{◌≡◌, ℕ, Bool, true, false, List, Option, Some, None, option_map, bytes_eq, if◌then◌else◌, refl, sym, ap, ◌∙◌}
use Rattle.std.proofs.lemmas.Bool.{false≢true}
use Rattle.rdl_tree.specs.Items.{Plain, named, own, default, dynamic}
use Rattle.rdl_scope.specs.Closed.{lookup}
use Rattle.rdl_seen.specs.declared.names.NameSet.{NameSet}
use Rattle.rdl_seen.specs.declared.property_set.PropertySet.{PropertySet}
use Rattle.rdl_seen.specs.Agree.{shown, AgreeOn}
use Rattle.rdl_seen.specs.Contents.{slot_asks, slot_gives}
use Rattle.rdl_seen.specs.Inside.{Inside, nothing_within}
use Rattle.rdl_seen.specs.Names.{class_of, with_names}
use Rattle.rdl_seen.specs.Node.{Known, Around, with_type, after_plain, plain_slot}
use Rattle.rdl_seen.specs.PropertySet.{with_properties, without_properties}
use Rattle.rdl_seen.proofs.Bits.{has_first, has_second}
use Rattle.rdl_seen.proofs.Stated.{same_first, same_second, same_whole, put_named_same}

pub agree_first : {deep : Bool} {a b : Around} (m n : NameSet) (s t : PropertySet) → AgreeOn deep (with_names m n) (with_properties s t) a b → AgreeOn deep m s a b
agree_first {deep} {a} {b} m n s t agree = record {
  types = λ name has. agree.types name (has_first m.bits n.bits (class_of name) has);
  defaults = same_first s t a.defaults b.defaults agree.defaults;
}

pub agree_second : {deep : Bool} {a b : Around} (m n : NameSet) (s t : PropertySet) → AgreeOn deep (with_names m n) (with_properties s t) a b → AgreeOn deep n t a b
agree_second {deep} {a} {b} m n s t agree = record {
  types = λ name has. agree.types name (has_second m.bits n.bits (class_of name) has);
  defaults = same_second s t a.defaults b.defaults agree.defaults;
}

-- behind an item they agree as far as what stands there listens
pub agree_behind : (deep : Bool) (p : Plain) (a b : Around) (m : Inside) (n : NameSet) (s : PropertySet)
    → AgreeOn deep (with_names (slot_asks (plain_slot a m p)) n) (without_properties s (slot_gives (plain_slot a m p))) a b → AgreeOn deep n s (after_plain p a) (after_plain p b)
agree_behind deep (named sh t) a b m n s agree = record {
  types = λ name has. agree.types name (has_second (slot_asks (plain_slot a m (named sh t))).bits n.bits (class_of name) has);
  defaults = same_whole s a.defaults b.defaults agree.defaults;
}
agree_behind deep (own p x) a b m n s agree = record {
  types = λ name has. agree.types name (has_second 0 n.bits (class_of name) has);
  defaults = same_whole s a.defaults b.defaults agree.defaults;
}
agree_behind deep (default p x) a b m n s agree = record {
  types = λ name has. agree.types name (has_second 0 n.bits (class_of name) has);
  defaults = put_named_same p x s a.defaults b.defaults agree.defaults;
}
agree_behind deep (dynamic t p x) a b m n s agree = record {
  types = λ name has. agree.types name (has_second 0 n.bits (class_of name) has);
  defaults = same_whole s a.defaults b.defaults agree.defaults;
}

shown_either : (deep here : Bool) (x y : Known) (o p : Option Known) → shown deep x ≡ shown deep y → option_map (shown deep) o ≡ option_map (shown deep) p
    → option_map (shown deep) (if here then Some x else o) ≡ option_map (shown deep) (if here then Some y else p)
shown_either deep true x y o p e f = λ i. Some (e i)
shown_either deep false x y o p e f = f

-- one more type before both, of which the same is shown
pub agree_type : (deep : Bool) (name : List ℕ) (x y : Known) (a b : Around) (n : NameSet) (s : PropertySet) → shown deep x ≡ shown deep y → AgreeOn deep n s a b → AgreeOn deep n s (with_type name x a) (with_type name y b)
agree_type deep name x y a b n s e agree = record {
  types = λ asked has. shown_either deep (bytes_eq name asked) x y (lookup asked a.types) (lookup asked b.types) e (agree.types asked has);
  defaults = agree.defaults;
}

-- what is shown of a type has what is seen of it, and all of it where that is shown
seen_shown : (deep : Bool) (o : Option Known) → option_map (λ (k : Known). k.seen) (option_map (shown deep) o) ≡ option_map (λ (k : Known). k.seen) o
seen_shown true None = refl
seen_shown true (Some k) = refl
seen_shown false None = refl
seen_shown false (Some k) = refl

pub same_seen : (deep : Bool) (o p : Option Known) → option_map (shown deep) o ≡ option_map (shown deep) p → option_map (λ (k : Known). k.seen) o ≡ option_map (λ (k : Known). k.seen) p
same_seen deep o p e = sym (seen_shown deep o) ∙ (ap (option_map (λ (k : Known). k.seen)) e ∙ seen_shown deep p)

all_shown : (o : Option Known) → option_map (shown true) o ≡ o
all_shown None = refl
all_shown (Some k) = refl

pub same_known : (deep : Bool) (o p : Option Known) → option_map (shown deep) o ≡ option_map (shown deep) p → deep ≡ true → o ≡ p
same_known true o p e all = sym (all_shown o) ∙ (e ∙ all_shown p)
same_known false o p e all = absurd (false≢true all)

pub same_shown : (deep : Bool) (x y : Known) → x.seen ≡ y.seen → (deep ≡ true → x ≡ y) → shown deep x ≡ shown deep y
same_shown true x y e all = all refl
same_shown false x y e all = λ i. record { seen = e i; within = nothing_within }
