use Rattle.rdl_script.proofs.Spelled.{dims-spelled, dims-again, bits-spelled, bits-again, number-or-none-spelled, number-or-none-again, one-value-spelled, one-value-again}
use Rattle.rdl_script.proofs.laws.operands_are_spelled.Goals as goal

pub returns : goal.returns
returns c = record {
  dims = λ ws ns. (dims-spelled ws ns, dims-again ws ns);
  bits = λ ws bits. (bits-spelled ws bits, bits-again ws bits);
  number = λ ws n. (number-or-none-spelled ws n, number-or-none-again ws n);
  value = λ ws value. (one-value-spelled ws value, one-value-again ws value);
}
