-- A run has one explanation.
use mathlib.Core.Path.{fun_ext}
use Rattle.std.proofs.Common.{◌≡◌, ◌∙◌, ℕ, List, [], ◌∷◌, ◌++◌, Option, Some, ap, subst, sym}
use Rattle.armus_base.specs.declared.event.Event.{Event}
use Rattle.armus_base.specs.declared.ids.TaskId.{TaskId}
use Rattle.armus_base.specs.Deadlocks.{IsDeadBy}
use Rattle.armus_base.specs.Finals.{final_of}
use Rattle.armus_base.specs.Places.{done_by}
use Rattle.armus_base.specs.Plans.{Action, Advances, Aim, Blocks, Drops, Forks, Makes, Passes, Plan, Refuses, Registers, code_of}
use Rattle.armus_base.specs.Runs.{places, state_after}
use Rattle.armus_base.specs.States.{Step, if_published}
use Rattle.pl_core.specs.calls.Awaiting.{awaited_statuses}
use Rattle.pl_syntax.specs.declared.tree.Program.{Program}
use Rattle.pl_syntax.proofs.Unique.{one_tree}
use Rattle.explain_facts.specs.Accounts.{IsAccount, IsLayout, Layout}
use Rattle.explain_facts.specs.declared.account.Account.{Account}
use Rattle.explain_facts.proofs.OneAccount.{one_account, one_op, one_layout}
use Rattle.dep_state.proofs.SameDeadLists.{same_ascending}
use Rattle.report.specs.Reports.{IsReportedCycle}
use Rattle.report.specs.declared.standing.Standing.{Standing}
use Rattle.report.proofs.OneReport.{one_standings, one_reported_cycle}
use Rattle.explain_tasks.specs.Facts.{facts_of}
use Rattle.explain_avoid.specs.AvoidedExplanations.{AreRefusalsOf}
use Rattle.explain_avoid.specs.AvoidedWords.{avoided_words, somebody_stays}
use Rattle.explain_avoid.specs.RefusalWords.{refusal_words}
use Rattle.explain_avoid.specs.Refusals.{AreRefusals, IsRefusalText, IsTold}
use Rattle.explain_avoid.specs.calls.Laws.{OneAvoidedExplanation}

module _ (file : Option (List ℕ)) (l : Layout) (p : Program) (plan : Plan) where
  -- a refusal has one paragraph
  one_text : (h : List Step) (t : ℕ) (aim : Aim) (text other : List ℕ) → IsRefusalText file l p plan h t aim text → IsRefusalText file l p plan h t aim other → text ≡ other
  one_text h t aim text other a b =
      let ops : a.ops ≡ b.ops = fun_ext (λ u. one_op (code_of plan u) (places h u).done (a.ops u) (b.ops u) (a.stand u) (b.stand u)) in
      let events : a.event ≡ b.event = (let both : Some a.event ≡ Some b.event = sym a.awaits ∙ b.awaits in cc) in
      let closes : IsReportedCycle (awaited_statuses plan (if_published (state_after h) t b.event)) a.cycle =
      subst (λ (e : Event). IsReportedCycle (awaited_statuses plan (if_published (state_after h) t e)) a.cycle) events a.closes in
      let cycles : a.cycle ≡ b.cycle = one_reported_cycle (awaited_statuses plan (if_published (state_after h) t b.event)) a.cycle b.cycle closes b.closes in
      let released : a.released ≡ b.released =
      same_ascending a.released b.released a.go_on.ascends b.go_on.ascends
      (λ u. (λ m. (b.go_on.exact u).1 ((a.go_on.exact u).0 m), λ m. (a.go_on.exact u).1 ((b.go_on.exact u).0 m))) in
      a.text_is
      ∙ ap (λ (e : Event). refusal_words file l p plan (state_after h) t e a.ops a.cycle a.released) events
      ∙ ap (λ (o : ℕ → ℕ). refusal_words file l p plan (state_after h) t b.event o a.cycle a.released) ops
      ∙ ap (λ (c : List TaskId). refusal_words file l p plan (state_after h) t b.event b.ops c a.released) cycles
      ∙ ap (λ (us : List TaskId). refusal_words file l p plan (state_after h) t b.event b.ops b.cycle us) released
      ∙ sym b.text_is

  one_told : (h : List Step) (t : ℕ) (x : Action) (text other : List ℕ) → IsTold file l p plan h t x text → IsTold file l p plan h t x other → text ≡ other
  one_told h t (Refuses aim) text other a b = one_text h t aim text other a b
  one_told h t (Makes q) text other a b = a ∙ sym b
  one_told h t (Registers c q) text other a b = a ∙ sym b
  one_told h t (Forks c) text other a b = a ∙ sym b
  one_told h t (Advances q) text other a b = a ∙ sym b
  one_told h t (Drops q) text other a b = a ∙ sym b
  one_told h t (Blocks aim) text other a b = a ∙ sym b
  one_told h t (Passes q) text other a b = a ∙ sym b

  one_list : (h : List Step) (text other : List ℕ) → AreRefusals file l p plan h text → AreRefusals file l p plan h other → text ≡ other
  one_list [] text other a b = a ∙ sym b
  one_list (e ∷ h) text other (before, own, are, is, all) (before', own', are', is', all') =
      all
      ∙ ap (λ (x : List ℕ). x ++ own) (one_list h before before' are are')
      ∙ ap (λ (x : List ℕ). before' ++ x) (one_told h e.task e.action own own' is is')
      ∙ sym all'

one_refusals :
    (file : Option (List ℕ)) (text : List ℕ) (p q : Program) (plan : Plan) (h : List Step) (lines other : List ℕ) → AreRefusalsOf file text p plan h lines →
    AreRefusalsOf file text q plan h other → lines ≡ other
one_refusals file text p q plan h lines other a b =
    let programs : q ≡ p = one_tree text q p b.reads a.reads in
    let layouts : b.layout ≡ a.layout =
    one_layout p b.layout a.layout (subst (λ (r : Program). IsLayout r b.layout) programs b.is_layout) a.is_layout (b.of_text ∙ sym a.of_text) in
    let of_p : AreRefusals file b.layout p plan h other = subst (λ (r : Program). AreRefusals file b.layout r plan h other) programs b.each in
    let of_l : AreRefusals file a.layout p plan h other = subst (λ (l : Layout). AreRefusals file l p plan h other) layouts of_p in
    one_list file a.layout p plan h lines other a.each of_l

pub one_avoided_explanation : OneAvoidedExplanation
one_avoided_explanation file text plan steps lines other stays also x y =
    let programs : x.is_account.program ≡ y.is_account.program =
    one_tree text x.is_account.program y.is_account.program x.is_account.known.reads y.is_account.known.reads in
    let s = state_after steps in
    let done = done_by (places steps) in
    let known = subst (λ (p : Program). IsAccount text p plan s done x.account) programs x.is_account.known in
    let accounts : x.account ≡ y.account = one_account text y.is_account.program plan s done x.account y.account known y.is_account.known in
    let all : x.standings ≡ y.standings = one_standings (IsDeadBy (final_of plan s).blocked) (final_of plan s).ends x.standings y.standings x.stand y.stand in
    let told : x.refusals ≡ y.refusals = one_refusals file text x.program y.program plan steps x.refusals y.refusals x.are_refusals y.are_refusals in (
      x.lines_are
          ∙ ap (λ (a : Account). avoided_words (facts_of text file a x.standings) s.phases x.refusals) accounts
          ∙ ap (λ (st : List Standing). avoided_words (facts_of text file y.account st) s.phases x.refusals) all
          ∙ ap (λ (r : List ℕ). avoided_words (facts_of text file y.account y.standings) s.phases r) told
          ∙ sym y.lines_are,
      x.tells ∙ ap somebody_stays all ∙ sym y.tells,
    )
