-- Which differences break software that was written for the first map: what it uses isn't there any more, stands elsewhere, or
-- does something else. Own.
use Rattle.std.specs.Prelude.{ℕ, ◌==◌, ◌||◌, not, nat_lt, Bool, true, false, List, [], ◌∷◌, Option, Some, is_some, codes}
use Rattle.std.specs.Cmp.Lexicographic.{pointwise}
use Rattle.rdl_tree.specs.declared.property.Property.{Property}
use Rattle.rdl_tree.specs.declared.property.Property.TheVariants.{Regwidth, Accesswidth, Reset, Sw, Rclr, Rset, Onread, Woset, Woclr, Onwrite}
use Rattle.rdl_diff.specs.Told.{Told, number, sizes}
use Rattle.rdl_diff.specs.declared.what.What.{What}
use Rattle.rdl_diff.specs.declared.what.What.TheVariants as what

-- software depends on how wide an access is, on the reset, and on what reads and writes do
abbrev pub is_relied_on : Property → Bool
is_relied_on Regwidth = true
is_relied_on Accesswidth = true
is_relied_on Reset = true
is_relied_on Sw = true
is_relied_on Rclr = true
is_relied_on Rset = true
is_relied_on Onread = true
is_relied_on Woset = true
is_relied_on Woclr = true
is_relied_on Onwrite = true
is_relied_on p = false

-- a size may grow
abbrev pub shrinks : (old new : Option ℕ) → Bool
shrinks (Some m) (Some n) = nat_lt n m
shrinks old new = true

-- an element of an array is gone, or stands elsewhere: only the outermost size may grow
abbrev pub loses_elements : (old new : List ℕ) → Bool
loses_elements [] new = false
loses_elements (m ∷ ms) [] = true
loses_elements (m ∷ ms) (n ∷ ns) = nat_lt n m || not (pointwise ◌==◌ ms ns)

-- a part that differs: a register that becomes an array gets sizes and a stride, which break nothing
abbrev pub breaks : What → (old new : Told) → Bool
breaks what.Size (number m) (number n) = shrinks m n
breaks what.Dims (sizes ms) (sizes ns) = loses_elements ms ns
breaks what.Stride (number m) new = is_some m
breaks (what.Value p) old new = is_relied_on p
breaks w old new = true

-- what stands before a line that tells of such a difference
abbrev pub mark : Bool → List ℕ
mark true = codes "! "
mark false = []
