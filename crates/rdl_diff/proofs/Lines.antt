-- The line of a path, of what differs there.
use Rattle.std.proofs.Common.{◌≡◌, ℕ, true, false, List, [], ◌∷◌, length, refl, ap, arith, if◌then◌else◌}
use Rattle.std.specs.Prelude.{◌||◌}
use Rattle.std.specs.List.{filter, list_any}
use Rattle.rdl_diff.specs.Choices.{is_asked}
use Rattle.rdl_diff.specs.DiffText.{Change, changed, changed_line, is_breaking, is_kept}
use Rattle.rdl_diff.specs.Seen.{change_seen, changes_seen}
use Rattle.rdl_diff.specs.declared.change.Change as code
use Rattle.rdl_diff.specs.declared.choice.Severity.{Severity}
use Rattle.rdl_diff.specs.declared.choice.Severity.TheVariants.{Any, Breaking}

-- it is kept where it is asked
pub line_kept : (s : Severity) (p : List (List ℕ)) (cs : List Change) → is_asked s (list_any is_breaking cs) ≡ true → filter (is_kept s) (changed_line p cs) ≡ changed_line p cs
line_kept Any p [] e = refl
line_kept Any p (c ∷ cs) e = refl
line_kept Breaking p [] e = refl
line_kept Breaking p (c ∷ cs) e = ap (λ b. if b then changed p (c ∷ cs) ∷ [] else []) e

pub no_line_kept : (s : Severity) (p : List (List ℕ)) (cs : List Change) → is_asked s (list_any is_breaking cs) ≡ false → filter (is_kept s) (changed_line p cs) ≡ []
no_line_kept Any p cs e = cc
no_line_kept Breaking p [] e = refl
no_line_kept Breaking p (c ∷ cs) e = ap (λ b. if b then changed p (c ∷ cs) ∷ [] else []) e

pub none_kept : (s : Severity) (p : List (List ℕ)) (cs : List Change) → length cs ≡ 0 → filter (is_kept s) (changed_line p cs) ≡ []
none_kept s p [] e = refl
none_kept s p (c ∷ cs) e = absurd (omega arith)

pub some_changed : (p : List (List ℕ)) (cs : List Change) → (length cs ≡ 0 → ⊥) → changed_line p cs ≡ changed p cs ∷ []
some_changed p [] e = absurd (e refl)
some_changed p (c ∷ cs) e = refl

-- whether one breaks software, of what the code holds
pub any_seen : (cs : List code.Change) → list_any (λ c. is_breaking (change_seen c)) cs ≡ list_any is_breaking (changes_seen cs)
any_seen [] = refl
any_seen (c ∷ cs) = ap (λ b. is_breaking (change_seen c) || b) (any_seen cs)
