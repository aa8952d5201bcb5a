-- An instance, with all of its component that its layouts need and that judges its fields.
-- own: SystemRDL 2.0 has no such parts.
use Rattle.std.specs.Prelude.{ℕ, Option}
use Rattle.rdl_tree.specs.declared.shell.Shell.{Shell}
use Rattle.rdl_seen.specs.declared.values.Access.{Access}
use Rattle.rdl_seen.specs.declared.values.Values.{Values}
use Rattle.rdl_seen.specs.Fields as fields
use Rattle.rdl_seen.specs.Fields.{Of}
use Rattle.rdl_seen.specs.Layouts.{Member}

-- what its layouts need of it; of a field, how many bits its reset needs, and how software accesses it
pub record Part : Type 0 where
  pub member : Member
  pub reset : Option ℕ
  pub access : Access

abbrev pub part_of : Values → Shell → Of → Part
part_of v s o = record { member = fields.member_of v s o; reset = fields.reset_of v s o; access = fields.access_of v s o }

abbrev pub member_of : Part → Member
member_of p = p.member

abbrev pub reset_of : Part → Option ℕ
reset_of p = p.reset

abbrev pub access_of : Part → Access
access_of p = p.access
