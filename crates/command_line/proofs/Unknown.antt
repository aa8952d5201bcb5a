-- Names of which one is that of no property, and names that are found among words.
use Rattle.std.proofs.Common.{◌≡◌, ◌⊎◌, inl, inr, ◌≤◌, ◌-◌, List, [], ◌∷◌, ◌++◌, append_assoc, length, take, drop, map, get_or, Option, Some, None, refl, sym, ap, ◌∙◌, subst, arith}
use Rattle.std.specs.Prelude.{IsSomeAnd}
use Rattle.std.proofs.lemmas.List.{map-append, take_all}
use denote.Ref.{Bor}
use Rattle.clap.specs.Words.{Text}
use Rattle.rdl_tree.specs.Properties.{property_of}
use Rattle.rdl_tree.specs.declared.property.Property.{Property}
use Rattle.command_line.specs.ComparisonWords.{IsUnknownAmong, names_in}
use Rattle.command_line.specs.declared.comparison.ComparisonFault.{ComparisonFault}
use Rattle.command_line.specs.declared.comparison.ComparisonFault.TheVariants.{Words, BadProperty}
use Rattle.command_line.specs.declared.fault.WordsFault.TheVariants.{Memory}

abbrev texts : List (Bor Text) → List Text
texts names = map (λ n. n.now) names

pub unknown_here : (rest : List (Bor Text)) (d : Bor Text) → 1 ≤ length rest → property_of (get_or rest 0 d).now ≡ None → IsUnknownAmong (texts rest)
unknown_here [] d some e = absurd (omega arith)
unknown_here (x ∷ xs) d some e = inl e

pub unknown_later : (rest : List (Bor Text)) → IsUnknownAmong (texts (take (length rest - 1) (drop 1 rest))) → IsUnknownAmong (texts rest)
unknown_later [] h = absurd h
unknown_later (x ∷ xs) h = inr (subst (λ ys. IsUnknownAmong (texts ys)) (take_all (length (x ∷ xs) - 1) xs (omega arith)) h)

-- one property more is known
pub known_more : (ps after : List Property) (rest : List (Bor Text)) (d : Bor Text) (p : Property) (all : List (Option Property)) → 1 ≤ length rest → Some p ≡ property_of (get_or rest 0 d).now → after ≡ ps ++ p ∷ []
    → map Some ps ++ map (λ n. property_of n.now) rest ≡ all → map Some after ++ map (λ n. property_of n.now) (take (length rest - 1) (drop 1 rest)) ≡ all
known_more ps after [] d p all some is e h = absurd (omega arith)
known_more ps after (x ∷ xs) d p all some is e h =
    (λ i. map Some (e i) ++ map (λ n. property_of n.now) (take_all (length (x ∷ xs) - 1) xs (omega arith) i))
    ∙ ap (λ l. l ++ map (λ n. property_of n.now) xs) (map-append Some ps (p ∷ []))
    ∙ append_assoc (map Some ps) (Some p ∷ []) (map (λ n. property_of n.now) xs)
    ∙ ap (λ o. map Some ps ++ o ∷ map (λ n. property_of n.now) xs) is
    ∙ h

pub of_texts : (names : List (Bor Text)) → map (λ n. property_of n.now) names ≡ map property_of (texts names)
of_texts [] = refl
of_texts (x ∷ xs) = ap (λ os. property_of x.now ∷ os) (of_texts xs)

-- what is found, by what is read of the names
pub refuses : (o : Option Text) (text : Text) (names : List (Bor Text)) (fault : ComparisonFault) (P : ComparisonFault → Type 0) → (IsSomeAnd o (λ t. IsUnknownAmong (names_in t)) → P BadProperty) → P (Words Memory) → o ≡ Some text → texts names ≡ names_in text
    → (fault ≡ Words Memory) ⊎ ((fault ≡ BadProperty) × IsUnknownAmong (texts names)) → P fault
refuses o text names fault P bad memory is same (inl e) = subst P (sym e) memory
refuses o text names fault P bad memory is same (inr h) =
    subst P (sym h.0) (bad (subst (λ q. IsSomeAnd q (λ t. IsUnknownAmong (names_in t))) (sym is) (subst IsUnknownAmong same h.1)))
