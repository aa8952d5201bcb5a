-- A run that stopped could have gone on: the lines that were left are answered too, and the run closes.
use Rattle.std.proofs.Common.{◌≡◌, ◌⊎◌, inl, inr, ℕ, ◌+◌, Bool, false, List, [], ◌∷◌, ◌++◌, length, refl, sym, ap, ◌∙◌, subst, arith, append_assoc}
use Rattle.std.specs.List.{list_any}
use Rattle.rdl_script.specs.Commands.{lines_of, command_of}
use Rattle.rdl_run.specs.Answers.{History', Run, Serves, is_refused, messages_from}
use Rattle.rdl_run.specs.Known.{concat}
use Rattle.rdl_run.specs.Messages.{reply_text}
use Rattle.rdl_run.specs.Opening.{EachElaborates}
use Rattle.rdl_run.specs.Output.{Output, Runs, IsOutput}
use Rattle.rdl_run.specs.Replies.{Said}
use Rattle.rdl_run.specs.declared.run.Options.{Options}
use Rattle.rdl_run.specs.declared.status.Status.TheVariants.{MapRefused}
use Rattle.rdl_run.proofs.Closings.{closed}
use Rattle.rdl_run.proofs.Histories.{good-answers, answered}
use Rattle.rdl_run.proofs.Openings.{OpenedHistory, NotOpened, opened_or_refused, opened-elaborates}
use Rattle.rdl_run.proofs.Written.{concat-append}

-- ---- Lines.

pub good-run : (a b : History') (ls : List (List ℕ)) (rs : List Said) → Run a ls rs b → EachElaborates a → EachElaborates b
good-run a b [] [] h g = subst EachElaborates (sym h) g
good-run a b (l ∷ ls) (r ∷ rs) h g = good-run h.0 b ls rs h.2 (good-answers a h.0 g (command_of l) r h.1)
good-run a b [] (r ∷ rs) h g = absurd h
good-run a b (l ∷ ls) [] h g = absurd h

record Goes (old : History') (lines : List (List ℕ)) : Type 0 where
  replies : List Said
  last : History'
  ran : Run old lines replies last

goes : (lines : List (List ℕ)) (old : History') → EachElaborates old → Goes old lines
goes [] old g = record { replies = []; last = old; ran = refl }
goes (line ∷ lines) old g =
    let a = answered old g (command_of line) in
    let rest = goes lines a.new (good-answers old a.new g (command_of line) a.reply a.answers) in
    record { replies = a.reply ∷ rest.replies; last = rest.last; ran = (a.new, a.answers, rest.ran) }

run-append : (a b c : History') (ls ms : List (List ℕ)) (rs ss : List Said) → Run a ls rs b → Run b ms ss c → Run a (ls ++ ms) (rs ++ ss) c
run-append a b c [] ms [] ss h k = subst (λ x. Run x ms ss c) h k
run-append a b c (l ∷ ls) ms (r ∷ rs) ss h k = (h.0, h.1, run-append h.0 b c ls ms rs ss h.2 k)
run-append a b c [] ms (r ∷ rs) ss h k = absurd h
run-append a b c (l ∷ ls) ms [] ss h k = absurd h

messages-append : (n : ℕ) (rs ss : List Said) → messages_from n (rs ++ ss) ≡ messages_from n rs ++ messages_from (n + length rs) ss
messages-append n [] ss = ap (λ m. messages_from m ss) (let e : n ≡ n + 0 = omega arith in e)
messages-append n (r ∷ rs) ss =
    ap (λ (ms : List (List ℕ)). reply_text n r ∷ ms) (messages-append (n + 1) rs ss
    ∙ ap (λ m. messages_from (n + 1) rs ++ messages_from m ss) (let e : n + 1 + length rs ≡ n + length (r ∷ rs) = omega arith in e))

-- ---- A whole run, from the lines that were served.

-- its messages begin with this text
pub record Continues (asked : Bool) (first : History') (script text : List ℕ) : Type 0 where
  pub out : Output
  pub runs : Runs asked first script out
  pub after : List ℕ
  pub messages : out.messages ≡ text ++ after

pub continued : (asked : Bool) (first : History') (script : List ℕ) → EachElaborates first → (served rest : List (List ℕ)) → lines_of script ≡ served ++ rest
    → (text : List ℕ) (refuses : Bool) (mid : History') → Serves first served text refuses mid → Continues asked first script text
continued asked first script whole served rest parts text refuses mid s =
    let good = good-run first mid served s.replies s.ran whole in
    let more = goes rest mid good in
    let replies = s.replies ++ more.replies in
    let all = list_any is_refused replies in
    let end = closed asked more.last all (good-run mid more.last rest more.replies more.ran good) in
    let behind = concat (messages_from (1 + length s.replies) more.replies) in
    let said : concat (messages_from 1 replies) ≡ text ++ behind =
    ap concat (messages-append 1 s.replies more.replies) ∙ concat-append (messages_from 1 s.replies) (messages_from (1 + length s.replies) more.replies)
    ∙ ap (λ (t : List ℕ). t ++ behind) (sym s.text_is) in
    record {
      out = record { messages = concat (messages_from 1 replies) ++ end.message; rdl = end.rdl; header = end.header; session = end.session; status = end.status };
      runs = record {
        last = more.last;
        refuses = all;
        replies = concat (messages_from 1 replies);
        serves = record {
          replies = replies;
          ran = subst (λ ls. Run first ls replies more.last) (sym parts) (run-append first mid more.last served rest s.replies more.replies s.ran more.ran);
          text_is = refl;
          refuses_is = refl;
        };
        message = end.message;
        closes = end.closes;
        messages = refl;
      };
      after = behind ++ end.message;
      messages = ap (λ (t : List ℕ). t ++ end.message) said ∙ append_assoc text behind end.message;
    }

-- ---- Each map or session and each script have an output.

pub record HasOutput (options : Options) (map script : List ℕ) : Type 0 where
  pub out : Output
  pub is_output : IsOutput options map script out

pub has_output : (options : Options) (map script : List ℕ) → HasOutput options map script
has_output options map script = by (opened_or_refused options.top options.history map)
  where
    by : OpenedHistory options.top options.history map ⊎ NotOpened options.top map → HasOutput options map script
    by (inl o) =
        let c = continued options.session o.first script (opened-elaborates options.top options.history map o.first o.opens) [] (lines_of script) refl [] false o.first
        (record { replies = []; ran = refl; text_is = refl; refuses_is = refl }) in
        record { out = c.out; is_output = inr (record { first = o.first; opens = o.opens; runs = c.runs }) }
    by (inr n) = record {
      out = record { messages = n.message; rdl = []; header = []; session = []; status = MapRefused };
      is_output = inl (record { refused = n.refused; rdl = refl; header = refl; session = refl; status = refl });
    }
