-- A reply as the code holds it, seen as what is said. Own.
use Rattle.std.specs.Prelude.{ℕ, List, string_bytes}
use Rattle.rdl_run.specs.declared.reply.LineRefusal.{LineRefusal}
use Rattle.rdl_run.specs.declared.reply.Reply.{Reply}
use Rattle.rdl_run.specs.declared.reply.Reply.TheVariants.{Done, Listed, Refused}

-- what a line is answered
pub data Said : Type 0 where
  done : Said
  listed : (text : List ℕ) → Said
  not_done : LineRefusal → Said

abbrev pub said : Reply → Said
said Done = done
said (Listed text) = listed (string_bytes text)
said (Refused refusal) = not_done refusal
