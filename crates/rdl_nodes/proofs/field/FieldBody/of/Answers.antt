use Rattle.std.proofs.Common.{◌≡◌, ◌^◌, min, arith}
use Rattle.rdl_seen.specs.Contents.{item_count}
use Rattle.rdl_nodes.proofs.Bodies.{item_count_is}
use Rattle.rdl_nodes.proofs.field.FieldBody.of.Goals as goal

pub returns : goal.returns
returns c =
    let own = c.own_values-own.ensures in
    let weight = c.own_weight.ensures in
    let count : c.min.result ≡ min (item_count c.args.body.now) (2 ^ 30) = omega (arith, item_count_is c.args.body.now, c.len.ensures, c.min.ensures) in
    λ i. record { width = (own i).fieldwidth; access = (own i).sw; reset = (own i).reset; count = count i; weight = weight i }
