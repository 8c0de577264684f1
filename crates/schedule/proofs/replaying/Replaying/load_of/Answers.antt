use Rattle.std.proofs.Common.{◌≡◌, ◌≢◌, ◌∙◌, ◌∷◌, ◌++◌, [], length, sym, subst, refl}
use Rattle.armus_base.specs.DeadLists.{IsDeadList}
use Rattle.armus_base.specs.calls.Statuses.{IsInOrder}
use Rattle.schedule.specs.inside.OpenPasses.{IsPassOf}
use Rattle.schedule.specs.Passes.{loads_of}
use Rattle.schedule.specs.Replays.{loaded}
use Rattle.schedule.specs.inside.KeptReplays.{KeepsProgress}
use Rattle.schedule.proofs.LineByLine.{the_open, found_in_order, closes, stays_open}
use Rattle.schedule.proofs.replaying.Replaying.load_of.Goals as goal

pub dead_of-requires : goal.dead_of-requires
dead_of-requires c =
    let plan = c.args.plan.now in
    let (a, of) = c.requires.kept in
    let (l, same, is, other) = the_open plan a.open_pass c.args.pass of.open_pass in
    let more = l ++ a.run ∷ [] in
    let after : IsPassOf plan more c.load_next.new.pass = c.in_ok-load_next.ensures.loaded l a.run of.at is in
    let full : length more ≡ loads_of plan more = (c.is_full.ensures.full plan more c.tasks.ensures.counted after).0 c.if-is_full.true in
    subst IsInOrder (sym (c.as_slice.ensures.items ∙ c.into_statuses-list.ensures.found plan more after full)) (found_in_order plan more c.tasks.ensures.checked)

pub returns-in_ok-push : goal.returns-in_ok-push
returns-in_ok-push c =
    let plan = c.args.plan.now in
    record {
      taken = λ a of.
          let (l, same, is, other) = the_open plan a.open_pass c.args.pass of.open_pass in
          let more = l ++ a.run ∷ [] in
          let after : IsPassOf plan more c.load_next.new.pass = c.in_ok-load_next.ensures.loaded l a.run of.at is in
          let full : length more ≡ loads_of plan more = (c.is_full.ensures.full plan more c.tasks.ensures.counted after).0 c.if-is_full.true in
          let found = c.as_slice.ensures.items ∙ c.into_statuses-list.ensures.found plan more after full in (
            _,
            (l, same, refl),
            subst (λ p. KeepsProgress plan (loaded plan a more)
                (record { world = c.args.self.now.world; pass = p; verdicts = c.push.new.self; steps = c.args.self.now.steps })) (sym c.requires.closed)
                (closes plan a _ l c.push.new.self (record { dead = c.in_ok-dead.dead }) of full
                (subst (λ s. IsDeadList s c.in_ok-dead.dead) found c.in_ok-dead.ensures) c.in_ok-push.ensures.ok),
          );
    }

pub returns-else-is_full : goal.returns-else-is_full
returns-else-is_full c =
    let plan = c.args.plan.now in
    record {
      taken = λ a of.
          let (l, same, is, other) = the_open plan a.open_pass c.args.pass of.open_pass in
          let more = l ++ a.run ∷ [] in
          let after : IsPassOf plan more c.load_next.new.pass = c.in_ok-load_next.ensures.loaded l a.run of.at is in
          let open_still : length more ≢ loads_of plan more = λ e. (let on = (c.is_full.ensures.full plan more c.tasks.ensures.counted after).1 e in
          let off = c.if-is_full.false in absurd (cc)) in (
            _,
            (l, same, refl),
            stays_open plan a _ l c.load_next.new.pass of open_still after,
          );
    }
