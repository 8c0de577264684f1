use Rattle.std.proofs.Common.{◌≡◌, ◌<◌, ◌∙◌, ℕ, ap, length, subst, sym, true, IfOk}
use Rattle.armus_base.specs.Finals.{statuses_on}
use Rattle.armus_base.specs.calls.StatusLists.{is_marked}
use Rattle.pl_core.specs.calls.Worlds.{WorldValue, state_of}
use Rattle.pl_core.proofs.Below.{asked_of_copies, statuses_same}
use Rattle.pl_core.proofs.world.World.statuses.Goals as goal

pub returns : goal.returns
returns c =
    let plan = c.args.self.now.plan in
    let s = state_of c.args.self.now in
    let count : c.phasers.result ≡ length plan.makers = c.phasers.ensures.counted ∙ ap (λ (w : WorldValue). length w.plan.makers) c.self.view_is in
    let copies = c.in_ok-asked.ensures.items_if_clones_equal (λ y e. e) in
    let all : (p : ℕ) → p < length plan.makers → is_marked c.in_ok-asked.asked.items p ≡ true =
    λ p l. ap (λ xs. is_marked xs p) copies ∙ asked_of_copies c.phasers.result p true (subst (λ n. p < n) (sym count) l) in
    record {
      statuses = subst (λ xs. IfOk c.statuses_on.result (λ list. list ≡ xs))
          (ap (λ xs. statuses_on plan s (is_marked xs)) c.deref.ensures.value
          ∙ statuses_same plan s (is_marked c.in_ok-asked.asked.items) (λ p. true) all)
          c.statuses_on.ensures;
    }
