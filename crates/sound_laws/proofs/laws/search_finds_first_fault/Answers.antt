use Rattle.sound_laws.proofs.Kept.{kept_is_cautious}
use Rattle.sound_laws.proofs.Searching.{search, search_map}
use Rattle.sound_laws.proofs.laws.search_finds_first_fault.Goals as goal

pub returns-clause-first : goal.returns-clause-first
returns-clause-first c = search

pub returns-clause-map : goal.returns-clause-map
returns-clause-map c = search_map

pub returns-clause-kept : goal.returns-clause-kept
returns-clause-kept c = kept_is_cautious
