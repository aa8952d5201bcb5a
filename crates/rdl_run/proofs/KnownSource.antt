-- The source text where a map keeps none: the map itself.
use Rattle.std.proofs.Common.{◌≡◌, ℕ, Bool, true, false, List, Option, Some, None, subst, refl}
use Rattle.std.specs.Prelude.{IfSome, is_some, if◌then◌else◌}
use Rattle.rdl_session.specs.Reading.{source_in}
use Rattle.rdl_weave.specs.Sources.{IsSource}
use Rattle.rdl_weave.specs.declared.source.Source.{Source}
use Rattle.rdl_run.specs.Sessions.{is_session}
use Rattle.rdl_run.specs.Sources.{source_of, without_source}
use Rattle.std.specs.Option.{option_map_or}

abbrev Cut : Type 0
Cut = List ℕ × List ℕ

same : (a b : List ℕ) → ◌≡◌ {A = Option (List ℕ)} (Some a) (Some b) → a ≡ b
same a b e = cc

none_some : (b : List ℕ) → ◌≡◌ {A = Option (List ℕ)} None (Some b) → ⊥
none_some b e = cc

itself : (session : Bool) (bytes source : List ℕ) → (if session then None else Some bytes) ≡ Some source → bytes ≡ source
itself true bytes source e = absurd (none_some source e)
itself false bytes source e = same bytes source e

known_in : (cut : Option Cut) (bytes source : List ℕ) (read : Option Source) → is_some cut ≡ false
    → option_map_or (λ p. Some p.0) cut (if is_session bytes then None else Some bytes) ≡ Some source
    → IfSome read (IsSource (option_map_or (λ p. p.1) cut bytes)) → IfSome read (IsSource source)
known_in None bytes source read none e h = subst (λ t. IfSome read (IsSource t)) (itself (is_session bytes) bytes source e) h
known_in (Some p) bytes source read none e h = cc

-- where no source text is kept beside a session, what was read of the map was read of the source
pub known : (bytes source : List ℕ) (read : Option Source) → is_some (source_in bytes) ≡ false → source_of bytes ≡ Some source
    → IfSome read (IsSource (without_source bytes)) → IfSome read (IsSource source)
known bytes source read none e h = known_in (source_in bytes) bytes source read none e h
