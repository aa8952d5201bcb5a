-- What the node of a component says of the faults of a map.
use Rattle.std.proofs.Common.{◌≡◌, ℕ, ◌+◌, ◌^◌, ◌<◌, ◌≤◌, true, false, [], ◌∷◌, Option, Some, None, refl, sym, ap, subst, ◌∙◌, arith}
use Rattle.std.specs.Prelude.{◌&&◌, not, min, nat_lt, nat_le}
use Rattle.std.specs.Option.{is_some}
use Rattle.std.proofs.lemmas.Bool.{ltb-true, lt-ltb, leb-true, le-leb}
use Rattle.rdl_scope.specs.Closed.{Made}
use Rattle.rdl_elab.specs.declared.layout.Mode.{Mode}
use Rattle.rdl_elab.specs.declared.layout.Mode.TheVariants.{Regalign}
use Rattle.rdl_elab.specs.Capped.{capped}
use Rattle.rdl_elab.specs.Faults as fault
use Rattle.rdl_elab.specs.Faults.{count, first_empty}
use Rattle.rdl_elab.specs.Reaches.{along}
use Rattle.rdl_elab.specs.Rows.{top_layout}
use Rattle.rdl_seen.specs.declared.seen.Seen.{Seen}
use Rattle.rdl_seen.specs.declared.seen.ByMode.{ByMode}
use Rattle.rdl_seen.specs.Modes.{has_mode, number_under}
use Rattle.node_laws.specs.Meant.{IsSeen}
use Rattle.node_laws.specs.Sound.{sound_seen}
use Rattle.node_laws.proofs.Nodes.{kept_are_seen}
use Rattle.sound_laws.specs.Harmless.{kept_layout, are_harmless}
use Rattle.sound_laws.specs.Laws.{IsWithinLimits}
use Rattle.sound_laws.specs.Search.{IsKeptWhole}
use Rattle.sound_laws.specs.Sound.{is_sound}
use Rattle.sound_laws.proofs.Kept.{kept_whole, kept_suffices, kept_is_cautious}
use Rattle.sound_laws.proofs.Lists.{both, and_both, not_false}
use Rattle.sound_laws.proofs.Maps.{faultless, map_rows}
use Rattle.sound_nodes.specs.Laws.{SeenAreSound, NodesTell, SoundNodesHaveNoFault, SeenIsCautious, LimitsAreSeen, SoundTopIsItsRows}
use Rattle.node_laws.specs.Modes.{seen_mode}
use Rattle.sound_nodes.specs.Says.{is_within}
use Rattle.sound_nodes.proofs.Soundness.{size-under, seen-sound}

pub seen_are_sound : SeenAreSound
seen_are_sound d a c m none is e = seen-sound d none a c m is e

-- how large a component is, as it is seen
pub seen-size : (c : Made) (s : Seen) (m : Mode) → IsSeen c s → number_under s.size (seen_mode m) ≡ (kept_layout m c.head c.parts).size
seen-size c s m is = ap (λ (z : ByMode). number_under z (seen_mode m)) is.size ∙ size-under m c.head c.parts

pub nodes_tell : NodesTell
nodes_tell d a c m n none says =
    let core = kept_are_seen d a c none says.made n says.kept in
    kept_suffices d a c m none says.made (subst (IsKeptWhole c.head.kind) (seen-size c n.core.seen m core.seen) says.whole)
    (seen_are_sound d a c m none says.made (ap (λ z. has_mode z (seen_mode m)) (sym core.seen.sound) ∙ says.sound))

pub sound_nodes_have_no_fault : SoundNodesHaveNoFault
sound_nodes_have_no_fault d a c m n o none says inside harmless =
    let told = nodes_tell d a c m n none says in faultless d a c m o none says.made told.sound inside (sym (told.harmless (along d [] o.path)) ∙ harmless)

pub seen_is_cautious : SeenIsCautious
seen_is_cautious d none m c coming is whole over =
    let two = both (has_mode (sound_seen c) (seen_mode m)) (are_harmless kept_layout c.head c.parts coming) over in
    kept_is_cautious d none m c coming is whole
    (and_both (is_sound kept_layout m c.head c.parts) (are_harmless kept_layout c.head c.parts coming) (seen_are_sound d c.head.at c m none is two.0) two.1)

-- ---- The limits.

pub none-of : {X : Type 0} (o : Option X) → is_some o ≡ false → o ≡ None
none-of None e = refl
none-of (Some x) e = absurd cc

small : (n k : ℕ) → capped n ≡ k → k ≤ 2 ^ 40 → n ≤ 2 ^ 40
small n k e h = omega arith

kept-small : (n k : ℕ) → capped n ≡ k → n ≤ 2 ^ 40 → k ≤ 2 ^ 40
kept-small n k e h = omega arith

within : (c : Made) (s : Seen) → IsSeen c s → is_within s ≡ true → IsWithinLimits c
within c s is e =
    let all = both (nat_lt s.levels 16 && nat_lt s.rows 65536 && not s.has_empty) (nat_le s.size.regalign (2 ^ 40)) e in
    let three = both (nat_lt s.levels 16 && nat_lt s.rows 65536) (not s.has_empty) all.0 in
    let two = both (nat_lt s.levels 16) (nat_lt s.rows 65536) three.0 in
    let levels : s.levels < 16 = ltb-true s.levels 16 two.0 in
    let rows : s.rows < 65536 = ltb-true s.rows 65536 two.1 in
    let levels_is : s.levels ≡ min (fault.levels c.parts) 16 = is.levels in
    let rows_is : s.rows ≡ min (count c.parts) 65536 = is.rows in
    record {
      levels = omega arith;
      rows = omega arith;
      filled = none-of (first_empty c.parts) (sym is.has_empty ∙ not_false s.has_empty three.1);
      size = small (top_layout c).size s.size.regalign (sym (seen-size c s Regalign is)) (leb-true s.size.regalign (2 ^ 40) all.1);
    }

only-within : (c : Made) (s : Seen) → IsSeen c s → IsWithinLimits c → is_within s ≡ true
only-within c s is limits =
    let levels_is : s.levels ≡ min (fault.levels c.parts) 16 = is.levels in
    let rows_is : s.rows ≡ min (count c.parts) 65536 = is.rows in
    let levels_within : fault.levels c.parts + 1 ≤ 16 = limits.levels in
    let rows_within : count c.parts + 1 ≤ 65536 = limits.rows in
    let levels : nat_lt s.levels 16 ≡ true = lt-ltb s.levels 16 (omega arith) in
    let rows : nat_lt s.rows 65536 ≡ true = lt-ltb s.rows 65536 (omega arith) in
    let filled : not s.has_empty ≡ true = ap not (is.has_empty ∙ ap (λ o. is_some o) limits.filled) in
    let size : nat_le s.size.regalign (2 ^ 40) ≡ true =
    le-leb s.size.regalign (2 ^ 40) (kept-small (top_layout c).size s.size.regalign (sym (seen-size c s Regalign is)) limits.size) in
    λ i. levels i && rows i && filled i && size i

pub limits_are_seen : LimitsAreSeen
limits_are_seen c s is = (within c s is, only-within c s is)

pub sound_top_is_its_rows : SoundTopIsItsRows
sound_top_is_its_rows d wanted top c n none there made kept sound limits =
    let core = kept_are_seen d (top.0 ∷ []) c none made n kept in
    let all = both (nat_lt n.core.seen.levels 16 && nat_lt n.core.seen.rows 65536 && not n.core.seen.has_empty) (nat_le n.core.seen.size.regalign (2 ^ 40)) limits in
    let small_is : number_under n.core.seen.size (seen_mode Regalign) ≤ 2 ^ 40 = leb-true n.core.seen.size.regalign (2 ^ 40) all.1 in
    let told =
    nodes_tell d (top.0 ∷ []) c Regalign n none
    (record { made = made; kept = kept; sound = sound; whole = kept_whole c.head.kind (number_under n.core.seen.size (seen_mode Regalign)) small_is }) in
    map_rows d wanted top c none there made told.sound (within c n.core.seen core.seen limits)
