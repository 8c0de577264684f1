-- There is one explanation of the end of a text's run.
use Rattle.std.proofs.Common.{◌≡◌, ℕ, Bool, List, sym, ap, ◌∙◌, subst}
use Rattle.std.specs.Prelude.{Option}
use Rattle.armus_base.specs.declared.ending.Final.{Final}
use Rattle.armus_base.specs.Finals.{final_of}
use Rattle.armus_base.specs.Plans.{Plan}
use Rattle.armus_base.specs.States.{Phases}
use Rattle.pl_syntax.specs.declared.tree.Program.{Program}
use Rattle.pl_syntax.proofs.Unique.{one_tree}
use Rattle.explain_facts.specs.Accounts.{IsAccount}
use Rattle.explain_facts.specs.declared.account.Account.{Account}
use Rattle.explain_facts.proofs.OneAccount.{one_account}
use Rattle.report.specs.Counts.{counts_of}
use Rattle.report.specs.Lines.{counts_line}
use Rattle.report.specs.declared.standing.Standing.{Standing}
use Rattle.report.proofs.OneReport.{one_standings}
use Rattle.explain_deadlock.specs.Explanations.{Explains, IsExplanation, explained_by}
use Rattle.explain_tasks.specs.Facts.{facts_of, FactsValue}
use Rattle.explain_deadlock.specs.calls.Laws.{OneExplanation}
use Rattle.explain_deadlock.specs.Verdicts.{somebody_waits}
use Rattle.explain_deadlock.proofs.OneVerdict.{one_verdict}

-- what is known is explained in one way
explained_once :
    (f : FactsValue) (plan : Plan) (phases : ℕ → Phases) (counts lines other : List ℕ) (waits also : Bool) → Explains f plan phases counts lines waits →
    Explains f plan phases counts other also →
    (lines ≡ other) × (waits ≡ also)
explained_once f plan phases counts lines other waits also x y =
    let same : x.verdict ≡ y.verdict = one_verdict f phases x.verdict y.verdict x.found y.found in
    (x.is_it ∙ ap (explained_by f plan phases counts) same ∙ sym y.is_it, x.tells ∙ ap somebody_waits same ∙ sym y.tells)

-- so is the end of a run
pub ended_once :
    (text : List ℕ) (file : Option (List ℕ)) (account : Account) (plan : Plan) (end : Final) (phases : ℕ → Phases) (lines other : List ℕ) (waits also : Bool) →
    IsExplanation text file account plan end phases lines waits → IsExplanation text file account plan end phases other also → (lines ≡ other) × (waits ≡ also)
ended_once text file account plan end phases lines other waits also x y =
    let same : x.standings ≡ y.standings = one_standings _ end.ends x.standings y.standings x.stand y.stand in
    let again = subst (λ (all : List Standing). Explains (facts_of text file account all) plan phases (counts_line (counts_of all)) lines waits) same x.explains in
    explained_once (facts_of text file account y.standings) plan phases (counts_line (counts_of y.standings)) lines other waits also again y.explains

pub one_explanation : OneExplanation
one_explanation file text plan s done lines other waits also x y =
    let programs : x.is_account.program ≡ y.is_account.program =
    one_tree text x.is_account.program y.is_account.program x.is_account.known.reads y.is_account.known.reads in
    let known = subst (λ (p : Program). IsAccount text p plan s done x.account) programs x.is_account.known in
    let same : x.account ≡ y.account = one_account text y.is_account.program plan s done x.account y.account known y.is_account.known in
    let again = subst (λ (account : Account). IsExplanation text file account plan (final_of plan s) s.phases lines waits) same x.explains in
    ended_once text file y.account plan (final_of plan s) s.phases lines other waits also again y.explains
