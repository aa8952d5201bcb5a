-- Values of which the same is stated, as far as a set of properties goes.
use Rattle.std.proofs.Common.{◌≡◌, ℕ, ◌^◌, true, false, Option, Some, None, List, refl}
use Rattle.rdl_tree.specs.declared.value.Value.{Value}
use Rattle.rdl_tree.specs.declared.property.Property.{Property}
use Rattle.rdl_tree.specs.declared.property.Property.TheVariants.{Addressing, Alignment, Regwidth, Accesswidth, Fieldwidth, Sw, Reset}
use Rattle.rdl_tree.specs.Properties.{property_of}
use Rattle.rdl_seen.specs.declared.property_set.PropertySet.{PropertySet}
use Rattle.rdl_seen.specs.declared.values.Values.{Values}
use Rattle.rdl_seen.specs.Agree.{SameValues}
use Rattle.rdl_seen.specs.Names.{meet}
use Rattle.rdl_seen.specs.PropertySet.{no_properties, set_of, set_of_found, set_named, with_properties, without_properties}
use Rattle.rdl_seen.specs.Values.{put, put_found, put_named}
use Rattle.rdl_seen.proofs.Bits.{less, has_first, has_second, has_less, lacks_none}

-- each property of the first set is in the second
abbrev pub Covers : PropertySet → PropertySet → Type 0
Covers t s = (k : ℕ) → meet s.bits (2 ^ k) ≡ true → meet t.bits (2 ^ k) ≡ true

pub same_covered : (t s : PropertySet) (v w : Values) → Covers t s → SameValues t v w → SameValues s v w
same_covered t s v w covers r = record {
  addressing = λ has. r.addressing (covers 0 has);
  alignment = λ has. r.alignment (covers 1 has);
  regwidth = λ has. r.regwidth (covers 2 has);
  accesswidth = λ has. r.accesswidth (covers 3 has);
  fieldwidth = λ has. r.fieldwidth (covers 4 has);
  sw = λ has. r.sw (covers 5 has);
  reset = λ has. r.reset (covers 6 has);
}

pub same_first : (s t : PropertySet) (v w : Values) → SameValues (with_properties s t) v w → SameValues s v w
same_first s t v w r = same_covered (with_properties s t) s v w (λ k. has_first s.bits t.bits k) r

pub same_second : (s t : PropertySet) (v w : Values) → SameValues (with_properties s t) v w → SameValues t v w
same_second s t v w r = same_covered (with_properties s t) t v w (λ k. has_second s.bits t.bits k) r

pub same_whole : (s : PropertySet) (v w : Values) → SameValues (without_properties s no_properties) v w → SameValues s v w
same_whole s v w r = same_covered (without_properties s no_properties) s v w (λ k has. has_less s.bits 0 k has (lacks_none k)) r

kept : (s : PropertySet) (b k : ℕ) → meet b (2 ^ k) ≡ false → meet s.bits (2 ^ k) ≡ true → meet (less s.bits b) (2 ^ k) ≡ true
kept s b k other has = has_less s.bits b k has other

-- the same default behind both makes them the same of its property
put_same : (q : Property) (x : Value) (s : PropertySet) (v w : Values) → SameValues (without_properties s (set_of q)) v w → SameValues s (put q x v) (put q x w)
put_same Addressing x s v w r =
    record {
      addressing = λ has. refl;
      alignment = λ has. r.alignment (kept s 1 1 refl has);
      regwidth = λ has. r.regwidth (kept s 1 2 refl has);
      accesswidth = λ has. r.accesswidth (kept s 1 3 refl has);
      fieldwidth = λ has. r.fieldwidth (kept s 1 4 refl has);
      sw = λ has. r.sw (kept s 1 5 refl has);
      reset = λ has. r.reset (kept s 1 6 refl has);
    }
put_same Alignment x s v w r =
    record {
      addressing = λ has. r.addressing (kept s 2 0 refl has);
      alignment = λ has. refl;
      regwidth = λ has. r.regwidth (kept s 2 2 refl has);
      accesswidth = λ has. r.accesswidth (kept s 2 3 refl has);
      fieldwidth = λ has. r.fieldwidth (kept s 2 4 refl has);
      sw = λ has. r.sw (kept s 2 5 refl has);
      reset = λ has. r.reset (kept s 2 6 refl has);
    }
put_same Regwidth x s v w r =
    record {
      addressing = λ has. r.addressing (kept s 4 0 refl has);
      alignment = λ has. r.alignment (kept s 4 1 refl has);
      regwidth = λ has. refl;
      accesswidth = λ has. r.accesswidth (kept s 4 3 refl has);
      fieldwidth = λ has. r.fieldwidth (kept s 4 4 refl has);
      sw = λ has. r.sw (kept s 4 5 refl has);
      reset = λ has. r.reset (kept s 4 6 refl has);
    }
put_same Accesswidth x s v w r =
    record {
      addressing = λ has. r.addressing (kept s 8 0 refl has);
      alignment = λ has. r.alignment (kept s 8 1 refl has);
      regwidth = λ has. r.regwidth (kept s 8 2 refl has);
      accesswidth = λ has. refl;
      fieldwidth = λ has. r.fieldwidth (kept s 8 4 refl has);
      sw = λ has. r.sw (kept s 8 5 refl has);
      reset = λ has. r.reset (kept s 8 6 refl has);
    }
put_same Fieldwidth x s v w r =
    record {
      addressing = λ has. r.addressing (kept s 16 0 refl has);
      alignment = λ has. r.alignment (kept s 16 1 refl has);
      regwidth = λ has. r.regwidth (kept s 16 2 refl has);
      accesswidth = λ has. r.accesswidth (kept s 16 3 refl has);
      fieldwidth = λ has. refl;
      sw = λ has. r.sw (kept s 16 5 refl has);
      reset = λ has. r.reset (kept s 16 6 refl has);
    }
put_same Sw x s v w r =
    record {
      addressing = λ has. r.addressing (kept s 32 0 refl has);
      alignment = λ has. r.alignment (kept s 32 1 refl has);
      regwidth = λ has. r.regwidth (kept s 32 2 refl has);
      accesswidth = λ has. r.accesswidth (kept s 32 3 refl has);
      fieldwidth = λ has. r.fieldwidth (kept s 32 4 refl has);
      sw = λ has. refl;
      reset = λ has. r.reset (kept s 32 6 refl has);
    }
put_same Reset x s v w r =
    record {
      addressing = λ has. r.addressing (kept s 64 0 refl has);
      alignment = λ has. r.alignment (kept s 64 1 refl has);
      regwidth = λ has. r.regwidth (kept s 64 2 refl has);
      accesswidth = λ has. r.accesswidth (kept s 64 3 refl has);
      fieldwidth = λ has. r.fieldwidth (kept s 64 4 refl has);
      sw = λ has. r.sw (kept s 64 5 refl has);
      reset = λ has. refl;
    }
put_same q x s v w r = same_whole s v w r

put_found_same : (q : Option Property) (x : Value) (s : PropertySet) (v w : Values) → SameValues (without_properties s (set_of_found q)) v w → SameValues s (put_found q x v) (put_found q x w)
put_found_same None x s v w r = same_whole s v w r
put_found_same (Some q) x s v w r = put_same q x s v w r

pub put_named_same : (p : List ℕ) (x : Value) (s : PropertySet) (v w : Values) → SameValues (without_properties s (set_named p)) v w → SameValues s (put_named p x v) (put_named p x w)
put_named_same p x s v w r = put_found_same (property_of p) x s v w r
