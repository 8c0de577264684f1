use Rattle.std.proofs.Common.{◌≡◌, ◌<◌, ◌∙◌, ◌+◌, ℕ, ap, length, subst, sym, true}
use Rattle.std.proofs.lemmas.List.{length-set}
use Rattle.armus_base.specs.Finals.{is_event_of}
use Rattle.armus_base.specs.Places.{some_before}
use Rattle.armus_base.specs.calls.StatusLists.{is_marked}
use Rattle.pl_core.specs.inside.Supposed.{with_also}
use Rattle.pl_core.specs.calls.Worlds.{state_of}
use Rattle.pl_core.proofs.Below.{awaited_more, awaited_none}
use Rattle.pl_core.proofs.world.World.awaited_phasers.Goals.{in-Some, in-None}
use Rattle.pl_core.proofs.world.World.awaited_phasers.Goals as goal

pub loop-t-preserved : goal.loop-t-preserved
loop-t-preserved c =
    let s = with_also (state_of c.args.self.now) c.args.also in
    let t = c.loop-t.t in
    elim c.match-published_or.branch [
      | in-Some w ↦
          let is = ap (λ v. v.items) w.asked-is in
          record {
            len = ap length is ∙ length-set c.loop-t.asked.items w.in-Some.event.p.0 true ∙ c.loop-t.invariant.len;
            asked = subst (λ xs. (p : ℕ) → p < length xs → is_marked xs p ≡ some_before (λ u. is_event_of p (s.published u)) (t + 1)) (sym is)
                (λ p l. awaited_more s c.loop-t.asked.items t c.loop-t.invariant.asked w.in-Some.event (sym c.published_or.ensures.event ∙ w.in-Some.is) p
                (subst (λ k. p < k) (length-set c.loop-t.asked.items w.in-Some.event.p.0 true) l));
          }
      | in-None w ↦
          let is = ap (λ v. v.items) w.asked-is in
          record {
            len = ap length is ∙ c.loop-t.invariant.len;
            asked = subst (λ xs. (p : ℕ) → p < length xs → is_marked xs p ≡ some_before (λ u. is_event_of p (s.published u)) (t + 1)) (sym is)
                (awaited_none s c.loop-t.asked.items t c.loop-t.invariant.asked (sym c.published_or.ensures.event ∙ w.in-None.is));
          }
    ]
