use Rattle.std.proofs.Common.{◌≡◌, ◌≤◌, ◌∙◌, ap, arith, length, inl, inr, sym, subst, Some}
use Rattle.std.proofs.lemmas.Bool.{cases_eq}
use Rattle.armus_base.proofs.Steps.{updated_other, updated_same}
use Rattle.pl_core.specs.calls.Worlds.{WorldValue, state_of}
use Rattle.pl_core.proofs.Bounds.{phaser_of_member}
use Rattle.pl_core.proofs.HighestKept.{checked_there, published_bound, reachable_there}
use Rattle.pl_core.proofs.world.World.impedes_nobody.Goals as goal

pub returns : goal.returns
returns c = λ yes u m e waits stands.
    let kept = c.self.invariant.kept in
    let w = c.args.self.now in
    let t = c.args.t.0 in
    let inside = phaser_of_member w (checked_there c.self.view_is kept) (reachable_there c.self.view_is kept) t e.p.0 m stands in
    let phasers : c.phasers-p-end.result ≡ length w.plan.makers = c.phasers-p-end.ensures.counted ∙ ap (λ (v : WorldValue). length v.plan.makers) c.self.view_is in
    let most = c.loop-p.invariant e.p.0 m (omega arith) stands in
    elim (cases_eq u t) [
      | inl same ↦
          let own : Some c.args.event ≡ Some e = sym (updated_same (state_of w).published t u (Some c.args.event) same) ∙ waits in
          let is : c.args.event ≡ e = cc in
          subst (λ v. v.n ≤ m) is (most.1 (ap (λ v. v.p.0) is))
      | inr other ↦
          let was = sym (updated_other (state_of w).published t u (Some c.args.event) other) ∙ waits in
          let there = ap (λ v. (state_of v).published u) c.self.view_is ∙ was in
          let bound = published_bound c.self.inside.plan.now c.self.inside.tasks.items c.self.inside.phases kept c.self.inside.highest.items c.self.invariant.highest u e there in
          let low = most.0 in
          omega arith
    ]
