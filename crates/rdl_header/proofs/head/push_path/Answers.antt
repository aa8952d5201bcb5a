use Rattle.std.proofs.Common.{string_bytes, option_copied, rules}
use Rattle.std.specs.Option.{option_to_list}
use Rattle.rdl_header.proofs.Paths.{path_pushed}
use Rattle.rdl_header.proofs.head.push_path.Goals as goal

pub returns : goal.returns
returns c =
    let path = c.parts-parts.result in
    path_pushed (string_bytes c.args.text.now) c.joined.result.now (string_bytes c.push_str.new.self) (string_bytes c.push_register.new.text) (string_bytes c.push_str-2.new.self) c.args.path.now path.around.now (option_to_list (option_copied path.register)) path.last.now
    c.parts-parts.ensures c.joined.ensures (search rules) (search rules) (search rules)
