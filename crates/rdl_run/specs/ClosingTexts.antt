-- What closes a run, as an output of its own. Own.
use Rattle.std.specs.Prelude.{string_bytes}
use Rattle.rdl_run.specs.Output.{Output}
use Rattle.rdl_run.specs.declared.closing.Closing.{Closing}

abbrev pub texts_of : Closing → Output
texts_of c = record { messages = string_bytes c.message; rdl = string_bytes c.rdl; header = string_bytes c.header; session = string_bytes c.session; status = c.status }
