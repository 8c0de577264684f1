-- A coming makes a move that the activity may make, or none.
use Rattle.std.proofs.Common.{◌≡◌, ℕ, ◌+◌, ◌⊎◌, Ok, inl, inr, refl, sym, subst}
use Rattle.std.specs.Prelude.{nat_lt}
use Rattle.pl_plan.specs.Limits.{max_visits}
use Rattle.pl_plan.specs.Unfolding.{fault_unless}
use Rattle.pl_plan.proofs.VisitsLeave.{bind_ok, ok_is}
use Rattle.clock_semantics.specs.calls.ClockTests.{visited}
use Rattle.clock_semantics.specs.Unfolding.{ClockPart, ClockUnfolding, a_close, a_finish, a_loop, a_plain, a_turn, an_async, clock_act, count_clock_visit, counted_coming, too_many_clock_visits}
use Rattle.clock_semantics.specs.calls.Making.{ComesAreMoves, MakesMove}
use Rattle.clock_semantics.proofs.Making.{act_keeps}

counts_one : (n : ℕ) (u z : ClockUnfolding) → count_clock_visit n u ≡ Ok z → z ≡ record u { visits = u.visits + 1 }
unfolding count_clock_visit
counts_one n u z e =
    let a = bind_ok (fault_unless (nat_lt u.visits max_visits) too_many_clock_visits n) (λ _. Ok (record u { visits = u.visits + 1 })) z e in
    sym (ok_is _ _ a.2)

counts : (n : ℕ) (part : ClockPart) (u z : ClockUnfolding) → counted_coming n part u ≡ Ok z → z ≡ visited part u
counts n (a_plain x) u z e = counts_one n u z e
counts n (an_async xs body) u z e = counts_one n u z e
counts n a_finish u z e = counts_one n u z e
counts n a_close u z e = sym (ok_is _ _ e)
counts n a_loop u z e = counts_one n u z e
counts n a_turn u z e = counts_one n u z e

pub comes_are_moves : ComesAreMoves
comes_are_moves t m u w e =
    let a = bind_ok (counted_coming m.statement m.part u) (clock_act t m.statement m.part) w e in
    subst (λ v. (w ≡ v) ⊎ MakesMove t v w) (counts m.statement m.part u a.0 a.1)
    (act_keeps (λ z. (z ≡ a.0) ⊎ MakesMove t a.0 z) t m.statement a.0 m.part (λ r. inl refl) (λ z made kind. inr made) w a.2)
