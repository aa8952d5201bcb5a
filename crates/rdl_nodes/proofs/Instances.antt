-- Instances one by one, and what a name finds among them.
use Rattle.std.proofs.Common.{◌≡◌, ℕ, zero, suc, ◌+◌, ◌<◌, List, [], ◌∷◌, ◌++◌, length, take, get_or, length-take, true, false, Bool, refl, ap, sym, ◌∙◌, arith}
use Rattle.std.specs.Prelude.{Some, bytes_eq, if◌then◌else◌}
use Rattle.rdl_seen.specs.Inside as seen
use Rattle.rdl_seen.specs.Inside.{how_many, find, no_instances}
use Rattle.rdl_nodes.specs.declared.inside.Instance.{Instance}
use Rattle.rdl_nodes.specs.HeldInside.{within_of, with_held, inside_over, inside_of}

pub take_one : {X : Type 0} (xs : List X) (k : ℕ) (x : X) → k < length xs → x ≡ get_or xs k x → take (suc k) xs ≡ take k xs ++ x ∷ []
take_one [] k x h e = absurd (omega arith)
take_one (y ∷ ys) zero x h e = let same : x ≡ y = e in ap (λ z. z ∷ []) (sym same)
take_one (y ∷ ys) (suc k) x h e = ap (λ zs. y ∷ zs) (take_one ys k x (omega arith) e)

over_append : (xs ys : List Instance) (before : seen.Inside) → inside_over before (xs ++ ys) ≡ inside_over (inside_over before xs) ys
over_append [] ys before = refl
over_append (x ∷ xs) ys before = over_append xs ys (with_held x before)

-- one more instance behind the others
pub inside_more : (xs : List Instance) (x : Instance) → inside_of (xs ++ x ∷ []) ≡ with_held x (inside_of xs)
inside_more xs x = over_append xs (x ∷ []) no_instances

how_many_over : (xs : List Instance) (before : seen.Inside) → how_many (inside_over before xs) ≡ how_many before + length xs
how_many_over [] before = omega arith
how_many_over (x ∷ xs) before = omega (arith, how_many_over xs (with_held x before))

pub how_many_before : (xs : List Instance) (k : ℕ) → k < length xs → how_many (inside_of (take k xs)) ≡ k
how_many_before xs k h = omega (arith, how_many_over (take k xs) no_instances, length-take k xs)

found_next : (q : List ℕ) (xs : List Instance) (k n : ℕ) (x : Instance) → n ≡ suc k → k < length xs → x ≡ get_or xs k x
    → find q (inside_of (take n xs)) ≡ (if bytes_eq x.name.now q then Some (record { number = k; within = within_of x.within }) else find q (inside_of (take k xs)))
found_next q xs k n x next h e =
    ap (λ m. find q (inside_of (take m xs))) next
    ∙ ap (λ ys. find q (inside_of ys)) (take_one xs k x h e)
    ∙ ap (find q) (inside_more (take k xs) x)
    ∙ (λ i. if bytes_eq x.name.now q then Some (record { number = how_many_before xs k h i; within = within_of x.within }) else find q (inside_of (take k xs)))

pub found_here : (q : List ℕ) (xs : List Instance) (k n : ℕ) (x : Instance) → n ≡ suc k → k < length xs → x ≡ get_or xs k x → bytes_eq x.name.now q ≡ true
    → find q (inside_of (take n xs)) ≡ Some (record { number = k; within = within_of x.within })
found_here q xs k n x next h e same =
    found_next q xs k n x next h e ∙ ap (λ (b : Bool). if b then Some (record { number = k; within = within_of x.within }) else find q (inside_of (take k xs))) same

pub not_here : (q : List ℕ) (xs : List Instance) (k n : ℕ) (x : Instance) → n ≡ suc k → k < length xs → x ≡ get_or xs k x → bytes_eq x.name.now q ≡ false
    → find q (inside_of (take n xs)) ≡ find q (inside_of (take k xs))
not_here q xs k n x next h e other =
    found_next q xs k n x next h e ∙ ap (λ (b : Bool). if b then Some (record { number = k; within = within_of x.within }) else find q (inside_of (take k xs))) other
