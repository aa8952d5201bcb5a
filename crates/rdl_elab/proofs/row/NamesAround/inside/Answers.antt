use Rattle.std.proofs.Common.{rules, string_bytes, codes, ◌≡◌, ◌∷◌, ◌++◌, [], ◌∙◌, ap, sym}
use Rattle.rdl_elab.specs.Dotted.{names_in}
use Rattle.rdl_elab.proofs.NamesAround.{text_more, names_more, dotted_more}
use Rattle.rdl_elab.proofs.row.NamesAround.inside.Goals as goal

pub returns : goal.returns
returns c =
    let old = string_bytes c.self.inside.dotted in
    let new = string_bytes c.in_ok-dotted.dotted in
    let view : c.args.self.now ≡ names_in old = search rules in
    let is : new ≡ old ++ c.args.name.now ++ codes "." = search rules in
    names_more new old c.args.name.now is c.self.invariant.0 c.is_name.ensures ∙ ap (λ names. names ++ c.args.name.now ∷ []) (sym view)

pub invariant_of-result : goal.invariant_of-result
invariant_of-result c =
    let old = string_bytes c.self.inside.dotted in
    let new = string_bytes c.in_ok-dotted.dotted in
    let name = c.args.name.now in
    let is : new ≡ old ++ name ++ codes "." = search rules in
    let joined : string_bytes c.in_ok-joined.joined ≡ string_bytes c.self.inside.joined ++ name ++ codes "__" = search rules in (
      dotted_more new old name is c.self.invariant.0 c.is_name.ensures,
      text_more (codes "__") (string_bytes c.in_ok-joined.joined) (string_bytes c.self.inside.joined) name (names_in new) (names_in old) joined c.self.invariant.1 (names_more new old name is c.self.invariant.0 c.is_name.ensures),
    )
