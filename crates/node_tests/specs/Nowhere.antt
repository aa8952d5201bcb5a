-- A way to lay instances out for tests: each component has no bytes and no spans.
-- own: no part of what the nodes of a map mean.
use Rattle.std.specs.Prelude.{[]}
use Rattle.std.proofs.Common.{refl}
use Rattle.rdl_nodes.specs.Bare.{GoesBySaid}
use Rattle.rdl_seen.specs.Layouts.{Layout, Laying}

abbrev pub no_layout : Layout
no_layout = record { size = 0; access = 0; spans = [] }

abbrev pub nowhere : Laying
nowhere kind values members = record { compact = no_layout; regalign = no_layout; fullalign = no_layout }

pub nowhere_by_said : GoesBySaid nowhere
nowhere_by_said k v ms ns e = refl
