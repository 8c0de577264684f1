-- The loads of the await words of chosen tasks, one after the other: where they lead, and each of them.
use Rattle.std.proofs.Common.{◌≡◌, ℕ, zero, suc, ◌<◌, ◌≤◌, Bool, true, false, Option, length, sym, refl, ap, ◌∙◌, subst, arith, inl, inr}
use Rattle.std.proofs.lemmas.Bool.{cases_eq}
use Rattle.armus_base.specs.declared.event.Event.{Event}
use Rattle.armus_base.specs.Plans.{Plan}
use Rattle.board.specs.calls.Views.{seen}
use Rattle.board.specs.calls.Seats.{IsSeat, Known}
use Rattle.phase_scan.specs.calls.Looks.{LoadsAlone}
use Rattle.phase_scan.specs.calls.Collects.{FindsEvent, IfAsked, LoadsChosen}
use Rattle.phase_scan.proofs.Loads.{IsLoadOf, await_load, goes_both, goes_itself}

-- the load of the await word of task t, between others
pub record AwaitLoad (events : ℕ → Option Event) (t : ℕ) (k m : Known) : Type 0 where
  pub from : Known
  pub to : Known
  pub goes_from : LoadsAlone k from
  pub finds : FindsEvent t (events t) from to
  pub small : t < length from.view.plan.parents
  pub goes_to : LoadsAlone to m
  pub stays : (seen m.view).places t ≡ (seen to.view).places t

-- events that agree on the first tasks
pub chosen_same :
    (chosen : ℕ → Bool) (f g : ℕ → Option Event) (n : ℕ) (k m : Known) → ((t : ℕ) → t < n → f t ≡ g t) → LoadsChosen chosen f n k m → LoadsChosen chosen g n k m
chosen_same chosen f g zero k m same loads = loads
chosen_same chosen f g (suc n) k m same (between, before, made) = (
  between,
  chosen_same chosen f g n k between (λ t l. same t (omega arith)) before,
  subst (λ o. IfAsked (chosen n) (FindsEvent n o) between m) (same n (omega arith)) made,
)

module _ (plan : Plan) (chosen : ℕ → Bool) (events : ℕ → Option Event) where
  small_of : (k : Known) (t : ℕ) → k.view.plan ≡ plan → t < length plan.parents → t < length k.view.plan.parents
  small_of k t of small = subst (λ (q : Plan). t < length q.parents) (sym of) small

  -- the plan stays, and what is a seat after loads was one before
  pub chosen_plan : (n : ℕ) (k m : Known) → k.view.plan ≡ plan → LoadsChosen chosen events n k m → m.view.plan ≡ plan
  chosen_plan zero k m of same = ap (λ (j : Known). j.view.plan) same ∙ of
  chosen_plan (suc n) k m of (between, before, made) = by_test (chosen_plan n k between of before) (chosen n) made
    where
      by_test : between.view.plan ≡ plan → (b : Bool) → IfAsked b (FindsEvent n (events n)) between m → m.view.plan ≡ plan
      by_test at true finds = finds.load.load.same.plan ∙ at
      by_test at false same = ap (λ (j : Known). j.view.plan) same ∙ at

  one_load : (n : ℕ) (between m : Known) → between.view.plan ≡ plan → n < length plan.parents → (finds : FindsEvent n (events n) between m) → IsLoadOf n between m
  one_load n between m at small finds = await_load between m n finds.answer (small_of between n at small) finds.load

  seat_back : (n : ℕ) (k m : Known) → k.view.plan ≡ plan → n ≤ length plan.parents → LoadsChosen chosen events n k m → IsSeat m → IsSeat k
  seat_back zero k m of few same seat = subst IsSeat same seat
  seat_back (suc n) k m of few (between, before, made) seat = seat_back n k between of (omega arith) before (by_test (chosen n) made)
    where
      by_test : (b : Bool) → IfAsked b (FindsEvent n (events n)) between m → IsSeat between
      by_test true finds = (one_load n between m (chosen_plan n k between of before) (omega arith) finds).first
      by_test false same = subst IsSeat same seat

  -- where one of them is made, it was a seat before all
  pub chosen_seat : (n : ℕ) (k m : Known) → k.view.plan ≡ plan → n ≤ length plan.parents → LoadsChosen chosen events n k m → (t : ℕ) → t < n → chosen t ≡ true → IsSeat k
  chosen_seat zero k m of few loads t l is = absurd (omega arith)
  chosen_seat (suc n) k m of few (between, before, made) t l is =
      elim (cases_eq t n) [
        | inl e ↦
            let finds : FindsEvent n (events n) between m = subst (λ b. IfAsked b (FindsEvent n (events n)) between m) (ap chosen (sym e) ∙ is) made in
            seat_back n k between of (omega arith) before (one_load n between m (chosen_plan n k between of before) (omega arith) finds).first
        | inr ne ↦ chosen_seat n k between of (omega arith) before t (omega arith) is
      ]

  -- they are loads alone
  pub chosen_go : (n : ℕ) (k m : Known) → k.view.plan ≡ plan → n ≤ length plan.parents → IsSeat k → LoadsChosen chosen events n k m → LoadsAlone k m
  chosen_go zero k m of few seat same = subst (LoadsAlone k) (sym same) (goes_itself k seat)
  chosen_go (suc n) k m of few seat (between, before, made) = by_test (chosen_go n k between of (omega arith) seat before) (chosen n) made
    where
      by_test : LoadsAlone k between → (b : Bool) → IfAsked b (FindsEvent n (events n)) between m → LoadsAlone k m
      by_test goes true finds =
          goes_both k between m goes (one_load n between m (chosen_plan n k between of before) (omega arith) finds).goes
      by_test goes false same = subst (LoadsAlone k) (sym same) goes

  -- the load of the await word of a chosen task
  pub chosen_of :
      (n : ℕ) (k m : Known) → k.view.plan ≡ plan → n ≤ length plan.parents → IsSeat k → LoadsChosen chosen events n k m → (t : ℕ) → t < n → chosen t ≡ true →
      AwaitLoad events t k m
  chosen_of zero k m of few seat loads t l is = absurd (omega arith)
  chosen_of (suc n) k m of few seat (between, before, made) t l is =
      elim (cases_eq t n) [
        | inl e ↦
            let finds : FindsEvent n (events n) between m = subst (λ b. IfAsked b (FindsEvent n (events n)) between m) (ap chosen (sym e) ∙ is) made in
            let load = one_load n between m at (omega arith) finds in
            record {
              from = between;
              to = m;
              goes_from = goes;
              finds = subst (λ x. FindsEvent x (events x) between m) (sym e) finds;
              small = subst (λ x. x < length between.view.plan.parents) (sym e) (small_of between n at (omega arith));
              goes_to = goes_itself m load.goes.kept;
              stays = refl;
            }
        | inr ne ↦ further (chosen_of n k between of (omega arith) seat before t (omega arith) is) (chosen n) made ne
      ]
    where
      at : between.view.plan ≡ plan
      at = chosen_plan n k between of before

      goes : LoadsAlone k between
      goes = chosen_go n k between of (omega arith) seat before

      further : AwaitLoad events t k between → (b : Bool) → IfAsked b (FindsEvent n (events n)) between m → (t ≡ n → ⊥) → AwaitLoad events t k m
      further one true finds ne =
          let load = one_load n between m at (omega arith) finds in
          record {
            from = one.from;
            to = one.to;
            goes_from = one.goes_from;
            finds = one.finds;
            small = one.small;
            goes_to = goes_both one.to between m one.goes_to load.goes;
            stays = load.others t ne ∙ one.stays;
          }
      further one false same ne = subst (AwaitLoad events t k) (sym same) one
