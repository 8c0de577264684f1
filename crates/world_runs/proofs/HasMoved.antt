-- A task that goes on has made a step, or was refused at its await.
use Rattle.std.proofs.Common.{ℕ, inl, inr}
use Rattle.pl_core.specs.calls.Worlds.{WorldValue}
use Rattle.avoider.specs.declared.decision.Decision.{Decision}
use Rattle.avoider.specs.declared.decision.Decision.TheVariants.{Published, Refused}
use Rattle.avoider.specs.calls.Decisions.{HasGoneOn, IsDecision}
use Rattle.run_queue.specs.calls.StepKinds.{HasMoved}

decided_moved : (old new : WorldValue) (t : ℕ) (d : Decision) → IsDecision old new t d → HasMoved old new t
decided_moved old new t (Published e) is = inl is.step
decided_moved old new t (Refused c) is = inr (record { event = is.event; before = is.before; refusal = is.refusal })

pub gone_on_moved : (old new : WorldValue) (t : ℕ) → HasGoneOn old new t → HasMoved old new t
gone_on_moved old new t gone = elim gone [ inl d ↦ decided_moved old new t d.0 d.1 | inr e ↦ inl e.step ]
