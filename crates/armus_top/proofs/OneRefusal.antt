-- A text is refused for one cause, and what tells whether a task is dead or refused has one status.
use Rattle.std.proofs.Common.{◌≡◌, ◌∙◌, ℕ, ap, inl, inr, sym, subst}
use Rattle.std.specs.Prelude.{Err}
use Rattle.armus_base.specs.Plans.{Plan}
use Rattle.armus_base.specs.States.{State}
use Rattle.pl_plan.specs.Unfolding.{plan_of}
use Rattle.pl_syntax.specs.declared.tree.Program.{Program}
use Rattle.pl_syntax.proofs.Unique.{one_fault, one_tree, text_or_fault}
use Rattle.report.specs.declared.refusal.Refusal.{Refusal}
use Rattle.report.specs.declared.refusal.Refusal.TheVariants.{Check, Syntax}
use Rattle.program_io.specs.Texts.{Text}
use Rattle.armus_top.specs.Avoids.{TellsRefused}
use Rattle.program_io.specs.Programs.{IsFaultOf}
use Rattle.armus_top.specs.DeadStatus.{TellsDead}

pub one_status : (state : State) (a b : ℕ) → TellsDead state a → TellsDead state b → a ≡ b
one_status state a b (inl (x, some)) (inl (y, other)) = x ∙ sym y
one_status state a b (inl (x, some)) (inr (y, nobody)) = absurd (nobody some.0 some.1)
one_status state a b (inr (x, nobody)) (inl (y, some)) = absurd (nobody some.0 some.1)
one_status state a b (inr (x, nobody)) (inr (y, none)) = x ∙ sym y

pub one_refused_status : (plan : Plan) (state : State) (a b : ℕ) → TellsRefused plan state a → TellsRefused plan state b → a ≡ b
one_refused_status plan state a b (inl (x, some)) (inl (y, other)) = x ∙ sym y
one_refused_status plan state a b (inl (x, (t, below, is))) (inr (y, none)) = absurd (let no = none t below in cc)
one_refused_status plan state a b (inr (x, none)) (inl (y, (t, below, is))) = absurd (let no = none t below in cc)
one_refused_status plan state a b (inr (x, none)) (inr (y, nobody)) = x ∙ sym y

pub one_refusal : (text : Text) (why other : Refusal) → IsFaultOf text why → IsFaultOf text other → why ≡ other
one_refusal text (Syntax f) (Syntax g) a b = ap Syntax (one_fault text f g a b)
one_refusal text (Syntax f) (Check g) a (p, reads, fails) = absurd (text_or_fault text p f reads a)
one_refusal text (Check f) (Syntax g) (p, reads, fails) b = absurd (text_or_fault text p g reads b)
one_refusal text (Check f) (Check g) (p, reads, fails) (q, others, faults) =
    let failing : plan_of q ≡ Err f = subst (λ (x : Program). plan_of x ≡ Err f) (one_tree text p q reads others) fails in
    let same : f ≡ g = cc in
    ap Check same
one_refusal text (Syntax f) other a b = absurd b
one_refusal text (Check f) other a b = absurd b
one_refusal text why other a b = absurd a
