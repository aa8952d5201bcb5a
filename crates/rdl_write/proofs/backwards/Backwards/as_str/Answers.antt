use Rattle.std.proofs.Common.{◌-◌, take, drop, arith, take_all, length-drop, IsUtf8, rules}
use Rattle.std.proofs.lemmas.Str.{IsUtf8-from_ascii}
use Rattle.rdl_write.proofs.backwards.Backwards.as_str.Goals as goal

pub unwrap-requires : goal.unwrap-requires
unwrap-requires c =
    let text = c.self.inside in
    let all = take_all (64 - text.start) (drop text.start text.bytes) (omega (arith, length-drop text.start text.bytes, c.self.invariant.1)) in
    let utf8 : IsUtf8 (take (64 - text.start) (drop text.start text.bytes)) = IsUtf8-from_ascii _ (rw all c.self.invariant.2) in
    search rules
