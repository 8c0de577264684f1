use Rattle.std.proofs.Common.{[], ◌∷◌, ◌++◌, ap, arith, sym, subst, ◌∙◌}
use Rattle.clock_semantics.specs.Unfolding.{ClockUnfolding}
use Rattle.clock_source_map.specs.ClockOrigins.{StartedActivity}
use Rattle.clock_source_map.specs.calls.Values.{AreOriginsOf, OriginsValue}
use Rattle.clock_source_map.specs.inside.VisitNotes.{NotesValue}
use Rattle.clock_source_map.proofs.Walked.{same_unfolding, walked_end, walked_few, walked_next, walked_start}
use Rattle.clock_source_map.proofs.origins.ClockOrigins.new.Goals as goal

pub loop-t-init : goal.loop-t-init
loop-t-init c =
    let (u, e) = c.requires.unfolds in
    let b = c.in_ok-begin.ensures in
    let n = c.new-notes.ensures in
    let first : StartedActivity = record { first = 1; body = c.args.program.now.body } in (
      u,
      e,
      walked_start c.args.program.now.body u _ _ _ e (ap (λ (k : NotesValue). k.begun) b ∙ ap (λ (k : NotesValue). k.begun ++ first ∷ []) n)
          (ap (λ (k : NotesValue). k.things) b ∙ ap (λ (k : NotesValue). k.things) n) c.new-waits.ensures.items,
      ap (λ (k : NotesValue). k.waits) b ∙ ap (λ (k : NotesValue). k.waits) n,
    )

pub loop-t-smaller : goal.loop-t-smaller
loop-t-smaller c =
    let (u, e, w, none) = c.loop-t.invariant in
    let few = walked_few c.args.program.now.body u c.loop-t.t _ _ _ e w in
    let more = c.loop-t-test.true in
    let many = c.activities.ensures in
    omega (arith, few.0, more, many)

pub loop-t-preserved : goal.loop-t-preserved
loop-t-preserved c =
    let (u, e, w, none) = c.loop-t.invariant in
    let noted = c.in_ok-note_activity.ensures.notes in (
      u,
      e,
      walked_next u c.loop-t.t c.loop-t.notes.begun _ c.loop-t.notes.things _ c.loop-t.waits.items _
          (record { first = c.activity-first.result.0; body = c.activity-first.result.1.now }) w c.activity-first.ensures.begun
          (ap (λ (k : NotesValue). k.begun) noted) (ap (λ (k : NotesValue). k.things) noted)
          (c.in_ok-push.ensures.items ∙ ap (λ x. c.loop-t.waits.items ++ x ∷ []) c.in_ok-note_activity.ensures.waits),
      ap (λ (k : NotesValue). k.waits) noted,
    )

pub origins_of-requires : goal.origins_of-requires
origins_of-requires c =
    let (u, e, w, none) = c.loop-t.invariant in
    let few = walked_few c.args.program.now.body u c.loop-t.t _ _ _ e w in
    omega (arith, few.1)

pub returns : goal.returns
returns c = λ u is.
    let (v, e, w, none) = c.loop-t.invariant in
    let past = c.loop-t-test.false in
    let many = c.activities.ensures in
    let ends = walked_end v c.loop-t.t _ _ _ w (omega (arith, past, many)) in
    subst (λ (o : OriginsValue). AreOriginsOf u o) (sym c.origins_of.ensures)
    (subst (λ (z : ClockUnfolding). AreOriginsOf z (record { begun = c.loop-t.notes.begun; things = c.loop-t.notes.things; waits = c.loop-t.waits.items })) (same_unfolding c.args.program.now.body v u e is) ends)
