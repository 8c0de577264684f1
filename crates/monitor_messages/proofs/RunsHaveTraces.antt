-- A run is of a legal trace.
use Rattle.std.proofs.Common.{◌≡◌, ℕ, Bool, true, false, Some, None, Option, List, [], ◌∷◌, refl, sym, ◌∙◌, ap, subst, inl, inr, ◌⊎◌}
use Rattle.std.specs.List.{slice_get}
use Rattle.monitor_laws.specs.Faults.{LineFault, faults_of, first_fault}
use Rattle.monitor_laws.specs.Guards.{IsGuarded, IsTakenAs}
use Rattle.monitor_laws.specs.Lines.{TraceLine}
use Rattle.monitor_laws.specs.States.{after_line, after_lines}
use Rattle.monitor_laws.specs.Traces.{IsLegalTrace}
use Rattle.monitor_laws.proofs.Guarding.{guarded_is_legal}
use Rattle.monitor_messages.specs.Laws.{HasOneTrace, IsLeftOut, IsTraceLineOf, IsTraceOf, RunsHaveTraces}
use Rattle.monitor_messages.specs.Runs.{IsHeard, IsMessageOf, IsMonitorRunOf, IsNextRun, MonitorOptions, MonitorRun, SaysLine}
use Rattle.monitor_messages.proofs.OneRun.{has_one_run, one_said}

no_first : (faults : List LineFault) → slice_get faults 0 ≡ None → faults ≡ []
no_first [] none = refl
no_first (fault ∷ more) none = absurd (let e : Some fault ≡ None = none in cc)

-- of a trace stands a legal one, with the guard or without
abbrev StandsFor : Bool → List TraceLine → List TraceLine → Type 0
StandsFor guards all h = IsLegalTrace h × (guards ≡ false → all ≡ h) × (guards ≡ true → IsGuarded all h)

-- one more legal line
one_more : (guards : Bool) (all h : List TraceLine) (l d : TraceLine) (message : List ℕ) → StandsFor guards all h → faults_of (after_lines h) l ≡ [] → IsMessageOf guards (after_lines h) l d message → StandsFor guards (l ∷ all) (d ∷ h)
one_more false all h l d message stands legal says =
    let same : all ≡ h = stands.1 refl in (
      (stands.0, ap (faults_of (after_lines h)) says.0 ∙ legal),
      (λ e. ap (λ x. l ∷ x) same ∙ ap (λ x. x ∷ h) (sym says.0)),
      λ e. absurd (let f : false ≡ true = e in cc),
    )
one_more true all h l d message stands legal (guarded, is) =
    let both : IsGuarded (l ∷ all) (d ∷ h) = (stands.2 refl, legal, subst (IsTakenAs (after_lines h) l) is guarded.stands) in
    (guarded_is_legal (l ∷ all) (d ∷ h) both, (λ e. absurd (let f : true ≡ false = e in cc)), λ e. both)

-- the options of a run are those asked for
heard_options : (was : MonitorRun) (said : Option TraceLine) (fault : Option LineFault) (run : MonitorRun) (message : List ℕ) → IsHeard was said fault run message → run.options ≡ was.options
heard_options was said (Some fault) run message heard = ap (λ (x : MonitorRun). x.options) heard.0
heard_options was (Some l) None run message heard = ap (λ (x : MonitorRun). x.options) heard.others
heard_options was None None run message heard = absurd heard

pub its_options : (options : MonitorOptions) (lines : List (List ℕ)) (run : MonitorRun) (output : List ℕ) → IsMonitorRunOf options lines run output → run.options ≡ options
its_options options [] run output (begun, none) = ap (λ (x : MonitorRun). x.options) begun
its_options options (bytes ∷ before) run output (was, earlier, message, leads, next, is) = by_next next ∙ its_options options before was earlier leads
  where
    by_next : IsNextRun was bytes run message → run.options ≡ was.options
    by_next (inl stopped) = ap (λ (x : MonitorRun). x.options) stopped.1
    by_next (inr (on, said, says, heard)) = heard_options was said (first_fault was.state said) run message heard

-- what is to be shown of a run
abbrev HasTrace : MonitorOptions → List (List ℕ) → MonitorRun → Type 0
HasTrace options lines run =
    (all : List TraceLine) × (h : List TraceLine) × IsTraceOf options lines all × (run.state ≡ after_lines h) × StandsFor options.guards all h

module _ (options : MonitorOptions) (bytes : List ℕ) (before : List (List ℕ)) (was : MonitorRun) (earlier : List ℕ) (leads : IsMonitorRunOf options before was earlier) (trace : HasTrace options before was) (run : MonitorRun) (message : List ℕ) where
  heard_has : (said : Option TraceLine) (fault : Option LineFault) → SaysLine bytes said → was.stopped ≡ false → first_fault was.state said ≡ fault → IsHeard was said fault run message → HasTrace options (bytes ∷ before) run
  heard_has said (Some fault) says on found heard =
      (trace.0, trace.1, (was, earlier, leads, inl (inr (said, fault, says, found), trace.2)), ap (λ (x : MonitorRun). x.state) heard.0 ∙ trace.3, trace.4)
  heard_has (Some l) None says on found heard =
      let legal : faults_of was.state l ≡ [] = no_first (faults_of was.state l) found in
      let says_so : IsMessageOf options.guards (after_lines trace.1) l heard.taken message =
      subst (λ s. IsMessageOf options.guards s l heard.taken message) trace.3
      (subst (λ (o : MonitorOptions). IsMessageOf o.guards was.state l heard.taken message) (its_options options before was earlier leads) heard.says) in (
        l ∷ trace.0,
        heard.taken ∷ trace.1,
        (was, earlier, leads, inr (l, trace.0, (on, says, legal), trace.2, refl)),
        heard.state ∙ ap (λ s. after_line s heard.taken) trace.3,
        one_more options.guards trace.0 trace.1 l heard.taken message trace.4 (subst (λ s. faults_of s l ≡ []) trace.3 legal) says_so,
      )
  heard_has None None says on found heard = absurd heard

  next_has : IsNextRun was bytes run message → HasTrace options (bytes ∷ before) run
  next_has (inl stopped) = (trace.0, trace.1, (was, earlier, leads, inl (inl stopped.0, trace.2)), ap (λ (x : MonitorRun). x.state) stopped.1 ∙ trace.3, trace.4)
  next_has (inr (on, said, says, heard)) = heard_has said (first_fault was.state said) says on refl heard

has_trace : (options : MonitorOptions) (lines : List (List ℕ)) (run : MonitorRun) (output : List ℕ) → IsMonitorRunOf options lines run output → HasTrace options lines run
has_trace options [] run output (begun, none) = ([], [], refl, ap (λ (x : MonitorRun). x.state) begun, (tt, (λ e. refl), λ e. tt))
has_trace options (bytes ∷ before) run output (was, earlier, message, leads, next, is) =
    next_has options bytes before was earlier leads (has_trace options before was earlier leads) run message next

pub runs_have_traces : RunsHaveTraces
runs_have_traces options lines run output leads =
    let trace = has_trace options lines run output leads in
    (trace.0, trace.1, trace.2, trace.3, trace.4.0, trace.4.1, trace.4.2)

-- what is left out says no line of the trace
not_both : (was : MonitorRun) (bytes : List ℕ) (l : TraceLine) → IsLeftOut was bytes → IsTraceLineOf was bytes l → ⊥
not_both was bytes l (inl stopped) (on, says, legal) = let e : true ≡ false = sym stopped ∙ on in cc
not_both was bytes l (inr (said, fault, tells, found)) (on, says, legal) =
    let same : said ≡ Some l = one_said bytes said (Some l) tells says in
    let e : None ≡ Some fault = sym (ap (λ rows. slice_get rows 0) legal) ∙ ap (first_fault was.state) (sym same) ∙ found in
    cc

pub has_one_trace : HasOneTrace
has_one_trace options [] all other one also = one ∙ sym also
has_one_trace options (bytes ∷ before) all other (was, earlier, leads, one) (too, former, comes, also) =
    by_cases (has_one_trace options before) one (subst IsRest (sym (has_one_run options before was too earlier former leads comes).0) also)
  where
    IsRest : MonitorRun → Type 0
    IsRest x =
        (IsLeftOut x bytes × IsTraceOf options before other)
        ⊎ ((l : TraceLine) × (others : List TraceLine) × IsTraceLineOf x bytes l × IsTraceOf options before others × (other ≡ l ∷ others))

    by_cases :
        ((a b : List TraceLine) → IsTraceOf options before a → IsTraceOf options before b → a ≡ b) → (IsLeftOut was bytes × IsTraceOf options before all)
        ⊎ ((l : TraceLine) × (others : List TraceLine) × IsTraceLineOf was bytes l × IsTraceOf options before others × (all ≡ l ∷ others)) →
        IsRest was → all ≡ other
    by_cases before_one (inl a) (inl b) = before_one all other a.1 b.1
    by_cases before_one (inl a) (inr b) = absurd (not_both was bytes b.0 a.0 b.2)
    by_cases before_one (inr a) (inl b) = absurd (not_both was bytes a.0 b.0 a.2)
    by_cases before_one (inr (l, rest, is, trace, all_is)) (inr (m, more, so, goes, other_is)) =
        let line : Some l ≡ Some m = one_said bytes (Some l) (Some m) is.1 so.1 in
        let same : l ≡ m = cc in
        all_is ∙ ap (λ x. x ∷ rest) same ∙ ap (λ x. m ∷ x) (before_one rest more trace goes) ∙ sym other_is
