-- A run of a map that stops, and one that goes on from its session, leave the files of one run of both scripts.
use Rattle.std.proofs.Common.{◌≡◌, ℕ, ◌<◌, Bool, true, false, cond, nat_eq, List, [], ◌∷◌, ◌++◌, length, Option, IsUtf8, inl, inr, refl, sym, ap, ◌∙◌, subst, arith}
use Rattle.std.specs.List.{onto_first}
use Rattle.std.proofs.lemmas.List.Splits.{length-slice_split}
use Rattle.journal_core.specs.History.{History}
use Rattle.rdl_script.specs.Commands.{lines_of}
use Rattle.rdl_write.specs.Texts.{newline}
use Rattle.rdl_edit.specs.Step.{State}
use Rattle.rdl_run.specs.Answers.{Run}
use Rattle.rdl_run.specs.Closing.{Closes, status_of}
use Rattle.rdl_run.specs.Opening.{OpensHistory}
use Rattle.rdl_run.specs.Output.{Output, RunsScript, IsOutput}
use Rattle.rdl_run.specs.Replies.{Said}
use Rattle.rdl_run.specs.Sessions.{is_session}
use Rattle.rdl_run.specs.declared.run.Options.{Options}
use Rattle.rdl_run.specs.declared.status.Status.{Status}
use Rattle.rdl_run.proofs.Agreeing.{AreAlike, alike-self, run-alike, closes-alike}
use Rattle.rdl_run.proofs.OpenedOnce.{opened-agree, opened-or-not}
use Rattle.run_laws.proofs.SavedRuns.{saved-opens}
use Rattle.run_laws.proofs.Scripted.{served}
use Rattle.run_laws.proofs.Staying.{limit-stays}

-- ---- The lines of two scripts, one behind the other.

first-longer : (c : ℕ) (ls ms : List (List ℕ)) → 0 < length ls → onto_first c (ls ++ ms) ≡ onto_first c ls ++ ms
first-longer c [] ms l = absurd (omega (arith, l))
first-longer c (first ∷ ls) ms l = refl

lines-joined : (script more : List ℕ) → lines_of (script ++ newline ++ more) ≡ lines_of script ++ lines_of more
lines-joined [] more = refl
lines-joined (c ∷ cs) more = by (nat_eq c 10) (lines-joined cs more)
  where
    some : 0 < length (lines_of cs)
    some = omega (arith, length-slice_split (λ x. nat_eq x 10) cs)

    by : (b : Bool) → lines_of (cs ++ newline ++ more) ≡ lines_of cs ++ lines_of more
        → cond b ([] ∷ lines_of (cs ++ newline ++ more)) (onto_first c (lines_of (cs ++ newline ++ more))) ≡ cond b ([] ∷ lines_of cs) (onto_first c (lines_of cs)) ++ lines_of more
    by true rest = ap (λ (ls : List (List ℕ)). [] ∷ ls) rest
    by false rest = ap (onto_first c) rest ∙ first-longer c (lines_of cs) (lines_of more) some

-- a run of lines in two parts
record Parted (old new : History State) (ls ms : List (List ℕ)) : Type 0 where
  mid : History State
  fronts : List Said
  backs : List Said
  front : Run old ls fronts mid
  back : Run mid ms backs new

parted : (old new : History State) (ls ms : List (List ℕ)) (replies : List Said) → Run old (ls ++ ms) replies new → Parted old new ls ms
parted old new [] ms replies ran = record { mid = old; fronts = []; backs = replies; front = refl; back = ran }
parted old new (l ∷ ls) ms [] ran = absurd ran
parted old new (l ∷ ls) ms (r ∷ replies) ran =
    let rest = parted ran.0 new ls ms replies ran.2 in
    record { mid = rest.mid; fronts = r ∷ rest.fronts; backs = rest.backs; front = (ran.0, ran.1, rest.front); back = rest.back }

-- ---- How many edits can be undone stays as it was.

opened-limit : (option : Option (List ℕ)) (limit : ℕ) (bytes : List ℕ) (h : History State) → OpensHistory option limit bytes h → h.limit ≡ limit
opened-limit option limit bytes h (inl m) = ap (λ (k : History State). k.limit) m.opened
opened-limit option limit bytes h (inr o) = ap (λ (k : History State). k.limit) o.opened

-- ---- The same files, whether or not a line was refused.

answered : (asked : Bool) (last : History State) (refuses other : Bool) (message rdl header session : List ℕ) (status : Status) (c : Closes asked last refuses message rdl header session status)
    → Closes asked last other message rdl header session (status_of other c.no_header c.no_session)
answered asked last refuses other message rdl header session status c = record {
  now = c.now;
  at = c.at;
  rdl_is = c.rdl_is;
  of_header = c.of_header;
  no_header = c.no_header;
  heads = c.heads;
  of_session = c.of_session;
  no_session = c.no_session;
  saves = c.saves;
  message_is = c.message_is;
  status_is = refl;
}

same-files : (asked also : Bool) (h k : History State) (refuses other : Bool) (message rdl header session : List ℕ) (status : Status) (said text macros saved : List ℕ) (answer : Status)
    → AreAlike h k → Closes asked h refuses message rdl header session status → Closes also k other said text macros saved answer → (rdl ≡ text) × (header ≡ macros)
same-files asked also h k refuses other message rdl header session status said text macros saved answer a c d =
    let both = closes-alike asked also h k refuses message rdl header session status said text macros saved (status_of refuses d.no_header d.no_session) a c
    (answered also k other refuses said text macros saved answer d) in
    (both.0, both.1)

-- ---- A run that goes on.

module _ (options again : Options) (map script more : List ℕ) (out later whole : Output) (ran : RunsScript options map script out)
    (same_top : again.top ≡ options.top) (same_history : again.history ≡ options.history) where
  -- the history that the session opens
  abbrev its-history : History State
  its-history = record { limit = again.history; states = ran.runs.last.states; place = ran.runs.last.place; own = false }

  limit-of-last : ran.runs.last.limit ≡ again.history
  limit-of-last =
      let r = ran.runs in
      let does = served ran.first r.last (lines_of script) r.replies r.refuses r.serves in
      limit-stays ran.first r.last does.0 does.2 ∙ opened-limit options.top options.history map ran.first ran.opens ∙ sym same_history

  opens-first : OpensHistory again.top again.history map ran.first
  opens-first = subst (λ t. OpensHistory t again.history map ran.first) (sym same_top) (subst (λ n. OpensHistory options.top n map ran.first) (sym same_history) ran.opens)

  both-run : OpensHistory again.top again.history out.session its-history → RunsScript again out.session more later → RunsScript again map (script ++ newline ++ more) whole
      → (later.rdl ≡ whole.rdl) × (later.header ≡ whole.header)
  both-run opens l w =
      let first = opened-agree again.top again.history map ran.first w.first opens-first w.opens in
      let second = opened-agree again.top again.history out.session its-history l.first opens l.opens in
      let lines = subst (λ ls. Run w.first ls w.runs.serves.replies w.runs.last) (lines-joined script more) w.runs.serves.ran in
      let parts = parted w.first w.runs.last (lines_of script) (lines_of more) w.runs.serves.replies lines in
      let start : AreAlike ran.first w.first = subst (AreAlike ran.first) first (alike-self ran.first) in
      let mid = (run-alike ran.first w.first ran.runs.last parts.mid (lines_of script) ran.runs.serves.replies parts.fronts start ran.runs.serves.ran parts.front).0 in
      let here : AreAlike its-history parts.mid = record { limit = sym limit-of-last ∙ mid.limit; states = mid.states; place = mid.place } in
      let on : AreAlike l.first parts.mid = subst (λ h. AreAlike h parts.mid) second here in
      let last = (run-alike l.first parts.mid l.runs.last w.runs.last (lines_of more) l.runs.serves.replies parts.backs on l.runs.serves.ran parts.back).0 in
      same-files again.session again.session l.runs.last w.runs.last l.runs.refuses w.runs.refuses l.runs.message later.rdl later.header later.session later.status
      w.runs.message whole.rdl whole.header whole.session whole.status last l.runs.closes w.runs.closes

  -- where its session opens that history
  pub gone-on-from : OpensHistory options.top again.history out.session its-history → IsOutput again out.session more later → IsOutput again map (script ++ newline ++ more) whole
      → (later.rdl ≡ whole.rdl) × (later.header ≡ whole.header)
  gone-on-from opened l w = by l w
    where
      opens : OpensHistory again.top again.history out.session its-history
      opens = subst (λ t. OpensHistory t again.history out.session its-history) (sym same_top) opened

      by : IsOutput again out.session more later → IsOutput again map (script ++ newline ++ more) whole → (later.rdl ≡ whole.rdl) × (later.header ≡ whole.header)
      by (inl r) w = absurd (opened-or-not again.top again.history out.session its-history later.messages opens r.refused)
      by (inr l) (inl r) = absurd (opened-or-not again.top again.history map ran.first whole.messages opens-first r.refused)
      by (inr l) (inr w) = both-run opens l w

  pub gone-on : is_session map ≡ false → options.session ≡ true → ran.runs.closes.no_session ≡ false → IsUtf8 out.session → IsOutput again out.session more later
      → IsOutput again map (script ++ newline ++ more) whole → (later.rdl ≡ whole.rdl) × (later.header ≡ whole.header)
  gone-on unnamed asked kept utf8 = gone-on-from (saved-opens options map script out ran unnamed asked kept utf8 again.history)
