-- How an alert grows while a body is gone along.
use Rattle.std.proofs.Common.{◌≡◌, ℕ, suc, ◌<◌, ◌≤◌, false, Some, ◌⊎◌, inl, inr, subst, arith}
use Rattle.std.proofs.lemmas.Bool.{cases_lt}
use Rattle.rdl_tree.specs.declared.description.Item.{Item}
use Rattle.rdl_tree.specs.declared.description.Item.TheVariants.{Define, Instance, Own, Default, Dynamic}
use Rattle.rdl_marks.specs.Describes.{IsItem}
use Rattle.rdl_marks.specs.Marks.{Firsts, Marks}
use Rattle.rdl_marks.specs.View.{old_item}
use Rattle.rdl_marks.specs.Was.{trace_of}
use Rattle.rdl_seen.specs.declared.alert.Alert.{Alert}
use Rattle.rdl_seen.specs.Alert.{with_alert, AgreeBut}
use Rattle.rdl_seen.specs.Meaning.{around_before}
use Rattle.rdl_seen.specs.Passing.{behind_item, Tells}
use Rattle.rdl_seen.specs.Names.{class_of}
use Rattle.rdl_seen.proofs.Alerts.{more_may_differ}
use Rattle.rdl_seen.proofs.Bits.{has_first}
use Rattle.rdl_renew.specs.Onward.{DiffersNoMoreBehind, TellsOfOneMore, AlertsGrow}
use Rattle.rdl_renew.proofs.SideBySide.{no_more_differs_before}

pub tells_of_one_more : TellsOfOneMore
tells_of_one_more lay x m old now a b to tells next =
    record {
      gone = tells.gone;
      moved_away = tells.moved_away;
      new = tells.new;
      moved_here = tells.moved_here;
      stayed = λ i n firsts inside z y l h stayed was is but. by i n firsts inside z y l h stayed was is but (cases_lt i to);
    }
  where
    by : (i n : ℕ) (firsts : Firsts) (inside : Marks) (z y : Item) → i < suc to → trace_of m i ≡ Some (old_item n firsts inside) → firsts.is_moved ≡ false → IsItem n old z → IsItem i now y
        → AgreeBut x (around_before lay n a old) (around_before lay i b now) → ((i < to) ⊎ (to ≤ i))
        → AgreeBut x (behind_item lay (around_before lay n a old) z) (behind_item lay (around_before lay i b now) y)
    by i n firsts inside z y l h stayed was is but (inl g) = tells.stayed i n firsts inside z y g h stayed was is but
    by i n firsts inside z y l h stayed was is but (inr g) =
        let same : to ≡ i = omega (arith, l, g) in
        subst (DiffersNoMoreBehind lay x m old now a b) same next n firsts inside z y h stayed was is but

-- an alert that tells of more still tells of an item
tells_more : (x y : Alert) (z : Item) → Tells x z → Tells (with_alert x y) z
tells_more x y (Define name c) h = has_first x.types.bits y.types.bits (class_of name) h
tells_more x y (Instance s of) h = tt
tells_more x y (Own p v) h = tt
tells_more x y (Default p v) h = λ k e. has_first x.properties.bits y.properties.bits k (h k e)
tells_more x y (Dynamic t p v) h = tt

pub alerts_grow : AlertsGrow
alerts_grow lay x y m old now a b to described ordered tells but =
    record {
      gone = λ n z is e. tells_more x y z (tells.gone n z is e);
      moved_away = λ n z is e. tells_more x y z (tells.moved_away n z is e);
      new = λ i z is h. tells_more x y z (tells.new i z is h);
      moved_here = λ i n firsts inside z is h moved. tells_more x y z (tells.moved_here i n firsts inside z is h moved);
      stayed = λ i n firsts inside z w l h stayed was is wider.
          let before = no_more_differs_before lay x m old now a b to described ordered tells but i n firsts inside w (omega (arith, l)) is h stayed in
          (more_may_differ x y (behind_item lay (around_before lay n a old) z) (behind_item lay (around_before lay i b now) w) (tells.stayed i n firsts inside z w l h stayed was is before)).0;
    }
