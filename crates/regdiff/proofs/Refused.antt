-- How the program ends by its words: what refuses them, and what doesn't.
use Rattle.std.proofs.Common.{◌≡◌, ◌⊎◌, inl, inr, ℕ, List, [], ◌∷◌, map, Option, Some, None, refl, sym, ap, ◌∙◌, subst, IfSome, codes, arith, Result, Ok, Err, IfOk}
use Rattle.std.specs.Prelude.{IsSomeAnd}
use Rattle.clap.specs.Words.{Row, Text, kind_of}
use Rattle.clap.specs.declared.error.kind.ErrorKind.{ErrorKind}
use Rattle.clap.specs.declared.error.kind.ErrorKind.TheVariants.{DisplayHelp, DisplayVersion}
use Rattle.rdl_text.specs.Name.{IsName}
use Rattle.rdl_tree.specs.Properties.{property_of}
use Rattle.rdl_tree.specs.declared.property.Property.{Property}
use Rattle.command_line.specs.ComparisonWords.{ArePropertiesOf, HasBadFormat, HasBadProperty, IsUnknownAmong, Means, Refuses, found, mistakes, names_in}
use Rattle.command_line.specs.Faults.{HasBadTop, HasFault, value}
use Rattle.command_line.specs.declared.comparison.Comparison.{Comparison}
use Rattle.command_line.specs.declared.comparison.ComparisonFault.{ComparisonFault}
use Rattle.command_line.specs.declared.comparison.ComparisonFault.TheVariants.{Words, BadProperty, BadFormat}
use Rattle.command_line.specs.declared.fault.WordsFault.{WordsFault}
use Rattle.command_line.specs.declared.fault.WordsFault.TheVariants.{Help, Version, Refused, BadTop, Memory}
use Rattle.rdl_diff.specs.declared.choice.Choice.{Choice}
use Rattle.rdl_diff.specs.declared.status.Status.{Status}
use Rattle.regdiff.specs.OfMaps.{IsStatusOf}
use Rattle.regdiff.specs.CommandLine.{AreMistaken, AreRefused, AskForHelp, AskForVersion, EndsComparison, EndsRefused, exit_code, EndsWords, HaveBadNames, IsExit}

no-kind : (k : ErrorKind) (ks : List ErrorKind) → ks ≡ [] → ks ≡ k ∷ [] → ⊥
no-kind k ks e f = cc

one-kind : (j k : ErrorKind) (ks : List ErrorKind) → ks ≡ j ∷ [] → ks ≡ k ∷ [] → j ≡ k
one-kind j k ks e f = cc

-- ---- Words of which a line is made.

known_names : (ps : List Property) (names : List Text) → map Some ps ≡ map property_of names → IsUnknownAmong names → ⊥
known_names ps [] e u = u
known_names [] (n ∷ ns) e u = cc
known_names (p ∷ ps) (n ∷ ns) e (inl none) = cc
known_names (p ∷ ps) (n ∷ ns) e (inr u) = let rest : map Some ps ≡ map property_of ns = cc in known_names ps ns rest u

no_bad_property : (o : Option Text) (ps : List Property) → ArePropertiesOf o ps → IsSomeAnd o (λ text. IsUnknownAmong (names_in text)) → ⊥
no_bad_property None ps are h = h
no_bad_property (Some text) ps are h = known_names ps (names_in text) are h

no_bad_top : (o : Option Text) → IfSome o IsName → IsSomeAnd o (λ name. ¬ (IsName name)) → ⊥
no_bad_top None is h = h
no_bad_top (Some name) is h = h is

bad_names : (rows : List Row) (line : Comparison) → Means rows line → HasBadTop rows ⊎ (HasBadProperty rows ⊎ HasBadFormat rows) → ⊥
bad_names rows line m (inl top) = no_bad_top (value (codes "top") rows) (subst (λ o. IfSome o IsName) (sym m.top) m.top_is_name) top
bad_names rows line m (inr (inl property)) = no_bad_property (value (codes "ignore") rows) line.ignored.items m.ignored property
bad_names rows line m (inr (inr format)) = let no : Some line.format ≡ None = sym m.format ∙ format in cc

-- they aren't refused
pub taken_well : (ws : List Text) (line : Comparison) → Means (found ws) line → mistakes ws ≡ [] → AreRefused ws → ⊥
taken_well ws line m well (inl are) = no-kind are.0 (mistakes ws) well are.3
taken_well ws line m well (inr bad) = bad_names (found ws) line m bad.1

-- ---- Words of which none is made.

pub ends_exit : (fault : ComparisonFault) (n : ℕ) → EndsRefused fault n → IsExit n
ends_exit (Words (Help told)) n (inl well) = inl (inl well)
ends_exit (Words (Help told)) n (inr cut) = inl (inr (inr (inr cut)))
ends_exit (Words (Version told)) n (inl well) = inl (inl well)
ends_exit (Words (Version told)) n (inr cut) = inl (inr (inr (inr cut)))
ends_exit (Words (Refused mistake)) n ends = inr ends
ends_exit (Words BadTop) n ends = inr ends
ends_exit (Words Memory) n ends = inl (inr (inr (inr ends)))
ends_exit BadProperty n ends = inr ends
ends_exit BadFormat n ends = inr ends

no-help : (ws : List Text) → mistakes ws ≡ DisplayHelp ∷ [] → AreRefused ws → ⊥
no-help ws e (inl are) = are.1 (one-kind are.0 DisplayHelp (mistakes ws) are.3 e)
no-help ws e (inr bad) = no-kind DisplayHelp (mistakes ws) bad.0 e

no-version : (ws : List Text) → mistakes ws ≡ DisplayVersion ∷ [] → AreRefused ws → ⊥
no-version ws e (inl are) = are.2 (one-kind are.0 DisplayVersion (mistakes ws) are.3 e)
no-version ws e (inr bad) = no-kind DisplayVersion (mistakes ws) bad.0 e

pub refused_ends : (ws : List Text) (fault : ComparisonFault) (n : ℕ) → Refuses ws fault → EndsRefused fault n → AreRefused ws → (n ≡ 5) ⊎ (n ≡ 4)
refused_ends ws (Words (Help told)) n has ends are = absurd (no-help ws has.1 are)
refused_ends ws (Words (Version told)) n has ends are = absurd (no-version ws has.1 are)
refused_ends ws (Words (Refused mistake)) n has ends are = inl ends
refused_ends ws (Words BadTop) n has ends are = inl ends
refused_ends ws (Words Memory) n has ends are = inr ends
refused_ends ws BadProperty n has ends are = inl ends
refused_ends ws BadFormat n has ends are = inl ends

no-five : (n : ℕ) → (n ≡ 0) ⊎ (n ≡ 4) → n ≡ 5 → ⊥
no-five n (inl z) five = absurd (omega arith)
no-five n (inr f) five = absurd (omega arith)

pub only_refused : (ws : List Text) (fault : ComparisonFault) (n : ℕ) → Refuses ws fault → EndsRefused fault n → n ≡ 5 → AreRefused ws
only_refused ws (Words (Help told)) n has ends five = absurd (no-five n ends five)
only_refused ws (Words (Version told)) n has ends five = absurd (no-five n ends five)
only_refused ws (Words (Refused mistake)) n has ends five = inl (kind_of mistake, has.0, has.1, has.2)
only_refused ws (Words BadTop) n has ends five = inr (has.0, inl has.1)
only_refused ws (Words Memory) n has ends five = absurd (no-five n (inr ends) five)
only_refused ws BadProperty n has ends five = inr (has.0, inr (inl has.1))
only_refused ws BadFormat n has ends five = inr (has.0, inr (inr has.1))

pub version_ends : (ws : List Text) (fault : ComparisonFault) (n : ℕ) → Refuses ws fault → EndsRefused fault n → AskForVersion ws → (n ≡ 0) ⊎ (n ≡ 4)
version_ends ws (Words (Help told)) n has ends asked = ends
version_ends ws (Words (Version told)) n has ends asked = ends
version_ends ws (Words (Refused mistake)) n has ends asked = absurd (has.1 (one-kind (kind_of mistake) DisplayVersion (mistakes ws) has.2 asked))
version_ends ws (Words BadTop) n has ends asked = absurd (no-kind DisplayVersion (mistakes ws) has.0 asked)
version_ends ws (Words Memory) n has ends asked = inr ends
version_ends ws BadProperty n has ends asked = absurd (no-kind DisplayVersion (mistakes ws) has.0 asked)
version_ends ws BadFormat n has ends asked = absurd (no-kind DisplayVersion (mistakes ws) has.0 asked)

pub help_ends : (ws : List Text) (fault : ComparisonFault) (n : ℕ) → Refuses ws fault → EndsRefused fault n → AskForHelp ws → (n ≡ 0) ⊎ (n ≡ 4)
help_ends ws (Words (Help told)) n has ends asked = ends
help_ends ws (Words (Version told)) n has ends asked = ends
help_ends ws (Words (Refused mistake)) n has ends asked = absurd (has.0 (one-kind (kind_of mistake) DisplayHelp (mistakes ws) has.2 asked))
help_ends ws (Words BadTop) n has ends asked = absurd (no-kind DisplayHelp (mistakes ws) has.0 asked)
help_ends ws (Words Memory) n has ends asked = inr ends
help_ends ws BadProperty n has ends asked = absurd (no-kind DisplayHelp (mistakes ws) has.0 asked)
help_ends ws BadFormat n has ends asked = absurd (no-kind DisplayHelp (mistakes ws) has.0 asked)

-- ---- A line that is obeyed.

-- the status is that of a comparison of what was asked
pub ends_of : {X : Type 0} (top asked : Option (List ℕ)) (c choice : Choice) (r : Result Status X) (n : ℕ) → top ≡ asked → c ≡ choice → IfOk r (IsStatusOf top c) → n ≡ exit_code r → EndsComparison asked choice n
ends_of top asked c choice (Ok status) n e f is same = inr (status, subst (λ t. IsStatusOf t choice status) e (subst (λ d. IsStatusOf top d status) f is), same)
ends_of top asked c choice (Err stop) n e f is same = inl same
