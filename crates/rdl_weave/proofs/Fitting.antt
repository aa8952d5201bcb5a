-- A source is sound for what edits made of its map.
use Rattle.std.proofs.Common.{◌≡◌, ℕ, List, [], refl, sym, arith}
use Rattle.std.proofs.lemmas.List.{append-nil}
use Rattle.std.specs.Str.{IsUtf8}
use Rattle.rdl_tree.specs.Items.{Items}
use Rattle.rdl_tree.specs.Limits.{IsWithinLimits}
use Rattle.rdl_tree.specs.View.{list_of}
use Rattle.rdl_origin.specs.Once.{StandOnce}
use Rattle.rdl_origin.specs.Order.{AreInOrder}
use Rattle.rdl_origin.specs.Traces.{Traces}
use Rattle.rdl_origin.specs.Values.{AreValues}
use Rattle.rdl_origin.specs.View as origins
use Rattle.rdl_round.specs.Writable.{IsWritable}
use Rattle.rdl_source.specs.Laid.{Laid}
use Rattle.rdl_source.specs.View as views
use Rattle.rdl_write.specs.MapText.{map_text}
use Rattle.rdl_source.specs.Alone.{StandAlone}
use Rattle.rdl_weave.specs.Coarse.{text_of, coarse}
use Rattle.rdl_weave.specs.InTurn.{KeepsOrder}
use Rattle.rdl_weave.specs.Sound.{FloatsAreSilent, Fits, IsSound}
use Rattle.rdl_weave.specs.Untouched.{sizes_of}
use Rattle.rdl_weave.specs.Weaving.{AreStatements}
use Rattle.rdl_source.proofs.Silence.{floats_silent}
use Rattle.rdl_source.proofs.Standing.{statements_alone, statements_shallow}
use Rattle.rdl_weave.proofs.Found.{matches, alone_list, so_lists}
use Rattle.rdl_weave.proofs.Ordered.{keeps_order}
use Rattle.rdl_weave.proofs.Visited.{covered_all}
use Rattle.rdl_weave.proofs.Same.{At}

whole : (last : Items) → IsWritable last → At (sizes_of last) 0 last
whole last w = record { more = []; sizes_are = sym (append-nil (sizes_of last)); small = omega (arith, w.within.many) }

pub alone_fits : (source canonical : List ℕ) (l : Laid) (t : Traces) (first last : Items) → IsWritable last → map_text last ≡ canonical → FloatsAreSilent source l
    → StandAlone source l (list_of first) → AreValues 0 last t first → StandOnce t → Fits source l t last canonical
alone_fits source canonical l t first last w e f a v s = record {
  writable = w;
  written = e;
  silent = f;
  matches = matches source (sizes_of last) 0 last (views.list_of l) (origins.list_of t) (list_of first) 0 0 last (alone_list source l (list_of first) a) (so_lists 0 last t first v) (λ m low. refl) (whole last w);
  covered = covered_all source (sizes_of last) l t first last (whole last w) f a v s;
}

pub sources_sound : (source canonical : List ℕ) (l : Laid) (t : Traces) (last : Items) (s : AreStatements source l) → IsUtf8 source → IsWithinLimits s.map → IsWritable last → map_text last ≡ canonical
    → AreValues 0 last t s.map → StandOnce t → IsSound source t last canonical
sources_sound source canonical l t last s u w r e v o =
    let shallow = statements_shallow source s.words s.map s.places l u s.has_words s.spelled s.laid_out in
    record {
      laid = l;
      laid_out = s;
      within = w;
      shallow = omega (arith, shallow, w.deep);
      fits = alone_fits source canonical l t s.map last r e (floats_silent source s.words s.places.places l u s.laid_out)
          (statements_alone source s.words s.map s.places l u s.has_words s.spelled s.laid_out) v o;
    }

-- the text that is put together item by item keeps the order
pub keeps_order_of : (source : List ℕ) (l : Laid) (t : Traces) (last : Items) (s : AreStatements source l) → IsUtf8 source → IsWritable last → AreValues 0 last t s.map → StandOnce t → AreInOrder t
    → KeepsOrder source (sizes_of last) (text_of source (coarse source (sizes_of last) l t last)) l (origins.list_of t)
keeps_order_of source l t last s u w v o r =
    keeps_order source (sizes_of last) l t s.map last (whole last w) (statements_alone source s.words s.map s.places l u s.has_words s.spelled s.laid_out) v o r
