-- A run that stops any number of times, and goes on each time from the session that it left.
use Rattle.std.proofs.Common.{◌≡◌, ℕ, false, List, [], ◌∷◌, ◌++◌, inl, inr, refl, sym, ◌∙◌, subst}
use Rattle.rdl_write.specs.Texts.{newline}
use Rattle.rdl_run.specs.Output.{Output, IsOutput}
use Rattle.rdl_run.specs.Sessions.{is_session}
use Rattle.rdl_run.specs.declared.run.Options.{Options}
use Rattle.rdl_run.proofs.Agreeing.{outputs-agree}
use Rattle.rdl_run.proofs.Continued.{has_output}
use Rattle.run_laws.specs.Stops.{LeavesSession, GoesOnFrom, joined}
use Rattle.run_laws.proofs.GoneOn.{gone-on-from}
use Rattle.run_laws.proofs.SavedRuns.{StartsOwn, map-starts, session-opens, session-starts}

next-starts : (options : Options) (map script session : List ℕ) → StartsOwn options.top map → LeavesSession options map script session → StartsOwn options.top session
next-starts options map script session starts l = by l.wrote.is_output refl
  where
    by : (o : IsOutput options map script l.out) → l.wrote.is_output ≡ o → StartsOwn options.top session
    by (inl r) is = absurd (l.some (sym l.session_is ∙ r.session))
    by (inr ran) is = subst (StartsOwn options.top) l.session_is (session-starts options map script l.out starts l.wrote ran is (λ e. l.some (sym l.session_is ∙ e)))

pub goes-on-own : (options : Options) (map : List ℕ) (scripts : List (List ℕ)) (bytes : List ℕ) → is_session map ≡ false → GoesOnFrom options map scripts bytes → StartsOwn options.top bytes
goes-on-own options map [] bytes unnamed g = subst (StartsOwn options.top) (sym g) (map-starts options.top map unnamed)
goes-on-own options map (script ∷ scripts) bytes unnamed g = next-starts options g.0 script bytes (goes-on-own options map scripts g.0 unnamed g.1) g.2

module _ (options again : Options) (same_top : again.top ≡ options.top) (same_history : again.history ≡ options.history) where
  -- one stop
  stopped-once : (map script session more : List ℕ) (later whole : Output) → StartsOwn options.top map → LeavesSession options map script session
      → IsOutput again session more later → IsOutput again map (script ++ newline ++ more) whole → (later.rdl ≡ whole.rdl) × (later.header ≡ whole.header)
  stopped-once map script session more later whole starts l o w = by l.wrote.is_output refl
    where
      by : (first : IsOutput options map script l.out) → l.wrote.is_output ≡ first → (later.rdl ≡ whole.rdl) × (later.header ≡ whole.header)
      by (inl r) is = absurd (l.some (sym l.session_is ∙ r.session))
      by (inr ran) is =
          gone-on-from options again map script more l.out later whole ran same_top same_history
          (session-opens options map script l.out starts l.wrote ran is (λ e. l.some (sym l.session_is ∙ e)) again.history)
          (subst (λ s. IsOutput again s more later) (sym l.session_is) o) w

  pub stopped : (map : List ℕ) (scripts : List (List ℕ)) (bytes more : List ℕ) (later whole : Output) → is_session map ≡ false → GoesOnFrom options map scripts bytes
      → IsOutput again bytes more later → IsOutput again map (joined scripts more) whole → (later.rdl ≡ whole.rdl) × (later.header ≡ whole.header)
  stopped map [] bytes more later whole unnamed g o w =
      let both = outputs-agree again map more later whole (subst (λ b. IsOutput again b more later) g o) w in
      (both.0, both.1)
  stopped map (script ∷ scripts) bytes more later whole unnamed g o w =
      let mid = has_output again g.0 (script ++ newline ++ more) in
      let near = stopped-once g.0 script bytes more later mid.out (goes-on-own options map scripts g.0 unnamed g.1) g.2 o mid.is_output in
      let far = stopped map scripts g.0 (script ++ newline ++ more) mid.out whole unnamed g.1 mid.is_output w in
      (near.0 ∙ far.0, near.1 ∙ far.1)
