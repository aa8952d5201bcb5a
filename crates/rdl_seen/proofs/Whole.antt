-- The values of a component are what is stated of it, and with the built-in values those that it has.
use Rattle.std.proofs.Common.{◌≡◌, ℕ, ◌^◌, Bool, true, false, Option, Some, None, option_map, unwrap_or, if◌then◌else◌, refl, sym, ap, subst, ◌∙◌}
use Rattle.std.specs.Prelude.{◌&&◌, ◌||◌, ◌==◌, nat_le, option_and_then}
use Rattle.std.specs.Int.{is_power_of_two}
use Rattle.std.specs.Option.{option_or, is_some}
use Rattle.std.proofs.lemmas.Bool.{eqb-true}
use Rattle.rdl_tree.specs.Items.{Items}
use Rattle.rdl_tree.specs.Properties.{row, on, takes}
use Rattle.rdl_tree.specs.declared.shell.Kind.{Kind}
use Rattle.rdl_tree.specs.declared.shell.Kind.TheVariants.{Addrmap, Regfile, Reg, Field}
use Rattle.rdl_tree.specs.declared.value.Value.{Value}
use Rattle.rdl_tree.specs.declared.value.Value.TheVariants as value
use Rattle.rdl_tree.specs.declared.value.Word.TheVariants as word
use Rattle.rdl_tree.specs.declared.property.Property.{Property}
use Rattle.rdl_tree.specs.declared.property.Property.TheVariants.{Addressing, Alignment, Regwidth, Accesswidth, Fieldwidth, Sw, Reset}
use Rattle.rdl_scope.specs.Closed.{Head, Made, lookup, stated, head_value}
use Rattle.rdl_scope.specs.Value.{own_value}
use Rattle.rdl_seen.specs.declared.mode.Mode.{Mode}
use Rattle.rdl_seen.specs.declared.mode.Mode.TheVariants.{Regalign}
use Rattle.rdl_seen.specs.declared.values.Access.TheVariants.{Other}
use Rattle.rdl_seen.specs.declared.values.Values.{Values}
use Rattle.rdl_seen.specs.Meaning.{kept_of, defaults_of, stated_of, word_of, HasValues}
use Rattle.rdl_seen.specs.MeaningLaws.{ValuesAreStated, ValuesAreWhole}
use Rattle.rdl_seen.specs.Node.{values_of}
use Rattle.rdl_seen.specs.Values.{mode_of, number_of, width_of, access_of, reset_bits, over, of_kind}
use Rattle.rdl_seen.proofs.Owned.{or-none, own-stated}
use Rattle.rdl_seen.proofs.Taken.{own-taken, IsFine, fine, stated-taken}

-- ---- A value that a property takes is kept whole.

-- each of these values is kept whole, and is this again
abbrev KeepsWhole : {Y : Type 0} → (Value → Option Y) → (Y → Value) → Option Value → Type 0
KeepsWhole f back o = (x : Value) → o ≡ Some x → option_map back (f x) ≡ Some x

abbrev of_mode : Mode → Value
of_mode m = value.Word (word_of m)

mode-whole : (x : Value) → takes Addressing x ≡ true → option_map of_mode (mode_of x) ≡ Some x
mode-whole (value.Word word.Compact) t = refl
mode-whole (value.Word word.Regalign) t = refl
mode-whole (value.Word word.Fullalign) t = refl
mode-whole x t = absurd cc

kept-if : (n : ℕ) (test : Bool) → test ≡ true → option_map value.Number (if test then Some n else None) ≡ Some (value.Number n)
kept-if n true t = refl
kept-if n false t = absurd cc

second : (a b : Bool) → a && b ≡ true → b ≡ true
second true b t = t
second false b t = absurd cc

number-whole : (x : Value) → takes Alignment x ≡ true → option_map value.Number (number_of x) ≡ Some x
number-whole (value.Number n) t = kept-if n (nat_le n (2 ^ 40)) (second (is_power_of_two n) (nat_le n (2 ^ 40)) t)
number-whole x t = absurd cc

or-leads : {A : Type 0} (a b : Bool) → (a ≡ true → A) → (b ≡ true → A) → a || b ≡ true → A
or-leads true b f g e = f refl
or-leads false b f g e = g e

up-to : (n k : ℕ) → nat_le k 128 ≡ true → (n == k) ≡ true → nat_le n 128 ≡ true
up-to n k small e = ap (λ m. nat_le m 128) (eqb-true n k e) ∙ small

is-width : (n : ℕ) → (n == 8 || n == 16 || n == 32 || n == 64 || n == 128) ≡ true → nat_le n 128 ≡ true
is-width n =
    or-leads (n == 8 || n == 16 || n == 32 || n == 64) (n == 128)
    (or-leads (n == 8 || n == 16 || n == 32) (n == 64)
    (or-leads (n == 8 || n == 16) (n == 32) (or-leads (n == 8) (n == 16) (up-to n 8 refl) (up-to n 16 refl)) (up-to n 32 refl)) (up-to n 64 refl))
    (up-to n 128 refl)

width-whole : (x : Value) → takes Regwidth x ≡ true → option_map value.Number (width_of x) ≡ Some x
width-whole (value.Number n) t = kept-if n (nat_le n 128) (is-width n t)
width-whole x t = absurd cc

bits-whole : (x : Value) → takes Fieldwidth x ≡ true → option_map value.Number (width_of x) ≡ Some x
bits-whole (value.Number n) t = kept-if n (nat_le n 128) (second (nat_le 1 n) (nat_le n 128) t)
bits-whole x t = absurd cc

reset-some : (x : Value) → takes Reset x ≡ true → is_some (reset_bits x) ≡ true
reset-some (value.Number n) t = refl
reset-some x t = absurd cc

whole-some : {Y : Type 0} (back : Y → Value) (o : Option Y) (x : Value) → option_map back o ≡ Some x → is_some o ≡ true
whole-some back None x e = absurd cc
whole-some back (Some y) x e = refl

-- ---- What is stated by a component, and else by a default.

or-first : {Y : Type 0} (o p : Option Y) → is_some o ≡ true → option_or o p ≡ o
or-first None p e = absurd cc
or-first (Some y) p e = refl

either : {Y : Type 0} (f : Value → Option Y) (o d : Option Value) → ((x : Value) → o ≡ Some x → is_some (f x) ≡ true)
    → option_or (option_and_then f o) (option_and_then f d) ≡ option_and_then f (option_or o d)
either f None d some = refl
either f (Some x) d some = or-first (f x) (option_and_then f d) (some x refl)

either_map : {Y : Type 0} (f : Value → Y) (o d : Option Value) → option_or (option_map f o) (option_map f d) ≡ option_map f (option_or o d)
either_map f None d = refl
either_map f (Some x) d = refl

over-kept : (first second : Property → Option Value) → ((q : Property) (x : Value) → first q ≡ Some x → takes q x ≡ true)
    → over (kept_of first) (kept_of second) ≡ kept_of (λ q. option_or (first q) (second q))
over-kept first second taken = λ i. record {
  addressing = either mode_of (first Addressing) (second Addressing) (λ x e. whole-some of_mode (mode_of x) x (mode-whole x (taken Addressing x e))) i;
  alignment = either number_of (first Alignment) (second Alignment) (λ x e. whole-some value.Number (number_of x) x (number-whole x (taken Alignment x e))) i;
  regwidth = either width_of (first Regwidth) (second Regwidth) (λ x e. whole-some value.Number (width_of x) x (width-whole x (taken Regwidth x e))) i;
  accesswidth = either width_of (first Accesswidth) (second Accesswidth) (λ x e. whole-some value.Number (width_of x) x (width-whole x (taken Accesswidth x e))) i;
  fieldwidth = either width_of (first Fieldwidth) (second Fieldwidth) (λ x e. whole-some value.Number (width_of x) x (bits-whole x (taken Fieldwidth x e))) i;
  sw = either_map access_of (first Sw) (second Sw) i;
  reset = either reset_bits (first Reset) (second Reset) (λ x e. reset-some x (taken Reset x e)) i;
}

pub values-stated : (d : Items) (m : Made) → IsFine d m → values_of m.head.kind (defaults_of m.head.defaults) m.head.body ≡ stated_of m.head
values-stated d m h =
    ap (λ v. of_kind m.head.kind (over v (defaults_of m.head.defaults))) (own-stated d (Some m.head.kind) h.place m.head.body h.clear)
    ∙ ap (of_kind m.head.kind)
    (over-kept (λ q. own_value (row q).name m.head.body) (λ q. lookup (row q).name m.head.defaults) (own-taken d (Some m.head.kind) h.place m.head.body 0 m.head.body h.clear))

-- ---- With the built-in values.

all-whole : {Y : Type 0} (f : Value → Option Y) (back : Y → Value) (o : Option Value) → KeepsWhole f back o → option_map back (option_and_then f o) ≡ o
all-whole f back None whole = refl
all-whole f back (Some x) whole = whole x refl

fill : {Y : Type 0} (back : Y → Value) (o : Option Y) (y : Y) → option_or (option_map back o) (Some (back y)) ≡ Some (back (unwrap_or o y))
fill back None y = refl
fill back (Some x) y = refl

filled : {Y : Type 0} (f : Value → Option Y) (back : Y → Value) (o : Option Value) (y : Y) → KeepsWhole f back o
    → option_or o (Some (back y)) ≡ Some (back (unwrap_or (option_and_then f o) y))
filled f back o y whole = ap (λ z. option_or z (Some (back y))) (sym (all-whole f back o whole)) ∙ fill back (option_and_then f o) y

access-filled : (o : Option Value) → option_map access_of (option_or o (Some (value.Word word.Rw))) ≡ Some (unwrap_or (option_map access_of o) Other)
access-filled None = refl
access-filled (Some x) = refl

-- the values of a head of which each that is stated is taken, of a property that its kind has
module _ (h : Head) (taken : (q : Property) (x : Value) → stated h (row q).name ≡ Some x → takes q x ≡ true) where
  abbrev all : Values
  all = kept_of (λ p. stated h (row p).name)

  addressing-is : (k : Kind) → on Addressing k ≡ true → head_value h Addressing ≡ Some (of_mode (unwrap_or (of_kind k all).addressing Regalign))
  addressing-is Addrmap is = filled mode_of of_mode (stated h (row Addressing).name) Regalign (λ x e. mode-whole x (taken Addressing x e))
  addressing-is k is = absurd cc

  alignment-all : head_value h Alignment ≡ option_map value.Number all.alignment
  alignment-all =
      or-none (stated h (row Alignment).name)
      ∙ sym (all-whole number_of value.Number (stated h (row Alignment).name) (λ x e. number-whole x (taken Alignment x e)))

  alignment-is : (k : Kind) → on Alignment k ≡ true → head_value h Alignment ≡ option_map value.Number (of_kind k all).alignment
  alignment-is Addrmap is = alignment-all
  alignment-is Regfile is = alignment-all
  alignment-is k is = absurd cc

  regwidth-all : option_or (stated h (row Regwidth).name) (Some (value.Number 32)) ≡ Some (value.Number (unwrap_or all.regwidth 32))
  regwidth-all = filled width_of value.Number (stated h (row Regwidth).name) 32 (λ x e. width-whole x (taken Regwidth x e))

  regwidth-is : (k : Kind) → on Regwidth k ≡ true → head_value h Regwidth ≡ Some (value.Number (unwrap_or (of_kind k all).regwidth 32))
  regwidth-is Reg is = regwidth-all
  regwidth-is k is = absurd cc

  accesswidth-is : (k : Kind) → on Accesswidth k ≡ true
      → head_value h Accesswidth ≡ Some (value.Number (unwrap_or (of_kind k all).accesswidth (unwrap_or (of_kind k all).regwidth 32)))
  accesswidth-is Reg is =
      ap (option_or (stated h (row Accesswidth).name)) regwidth-all
      ∙ filled width_of value.Number (stated h (row Accesswidth).name) (unwrap_or all.regwidth 32) (λ x e. width-whole x (taken Accesswidth x e))
  accesswidth-is k is = absurd cc

  fieldwidth-is : (k : Kind) → on Fieldwidth k ≡ true → head_value h Fieldwidth ≡ Some (value.Number (unwrap_or (of_kind k all).fieldwidth 1))
  fieldwidth-is Field is = filled width_of value.Number (stated h (row Fieldwidth).name) 1 (λ x e. bits-whole x (taken Fieldwidth x e))
  fieldwidth-is k is = absurd cc

  sw-is : (k : Kind) → on Sw k ≡ true → option_map access_of (head_value h Sw) ≡ Some (unwrap_or (of_kind k all).sw Other)
  sw-is Field is = access-filled (stated h (row Sw).name)
  sw-is k is = absurd cc

  reset-is : (k : Kind) → on Reset k ≡ true → option_and_then reset_bits (head_value h Reset) ≡ (of_kind k all).reset
  reset-is Field is = ap (option_and_then reset_bits) (or-none (stated h (row Reset).name))
  reset-is k is = absurd cc

  pub has-values : HasValues h (stated_of h)
  has-values = record {
    addressing = addressing-is h.kind;
    alignment = alignment-is h.kind;
    regwidth = regwidth-is h.kind;
    accesswidth = accesswidth-is h.kind;
    fieldwidth = fieldwidth-is h.kind;
    sw = sw-is h.kind;
    reset = reset-is h.kind;
  }

pub values_are_stated : ValuesAreStated
values_are_stated d c m h e = values-stated d m (fine d c m h e)

pub values_are_whole : ValuesAreWhole
values_are_whole d c m h e =
    let is = fine d c m h e in
    subst (HasValues m.head) (sym (values-stated d m is)) (has-values m.head (stated-taken d m is))
