-- Rows whose parts are the same have the same values.
use Rattle.std.proofs.Common.{◌≡◌, List, None, ap, sym, ◌∙◌}
use Rattle.std.specs.Prelude.{if◌then◌else◌}
use Rattle.std.specs.Option.{option_or}
use Rattle.rdl_tree.specs.Properties.{on}
use Rattle.rdl_tree.specs.declared.shell.Kind.{Kind}
use Rattle.rdl_elab.specs.declared.row.PropertyValue.{PropertyValue}
use Rattle.rdl_elab.specs.declared.row_values.Instead.{Instead}
use Rattle.rdl_elab.specs.InstanceValues.{instance_values, with_instance}
use Rattle.rdl_elab.specs.Reaches.{value_under}
use Rattle.rdl_elab.specs.SameValues.{HaveSameValues}
use Rattle.rdl_elab.proofs.InstanceLists.{under-instance}

-- an instance puts the same in the place of values that are the same
same-instance : (k : Kind) (values own others : List PropertyValue) → HaveSameValues own others → HaveSameValues (instance_values k values own) (instance_values k values others)
same-instance k values own others same = λ p.
    under-instance k values own p
    ∙ ap (λ o. if on p k then option_or (value_under p values) o else None) (same p)
    ∙ sym (under-instance k values others p)

-- of one kind, with the same values in the place of those of its component
pub instead-same : (i j : Instead) (k l : Kind) (values instead own others : List PropertyValue)
    → with_instance i own ≡ instance_values k values own → with_instance j others ≡ instance_values l instead others → k ≡ l → values ≡ instead
    → HaveSameValues own others → HaveSameValues (with_instance i own) (with_instance j others)
instead-same i j k l values instead own others e f g h same = λ p.
    ap (λ vs. value_under p vs) e
    ∙ ap (λ m. value_under p (instance_values m values own)) g
    ∙ ap (λ vs. value_under p (instance_values l vs own)) h
    ∙ same-instance l instead own others same p
    ∙ sym (ap (λ vs. value_under p vs) f)
