-- What the steps make of a seat's own facts.
use mathlib.Core.Path.{fun_ext}
use Rattle.std.proofs.Common.{◌≡◌, ◌≢◌, ℕ, suc, ◌+◌, ◌<◌, ◌≤◌, Bool, true, false, [], ◌∷◌, Option, Some, None, length, sym, refl, ap, ◌∙◌, subst, arith, length-set, eq-eqb}
use Rattle.std.specs.Prelude.{option_map, unwrap_or, ◌==◌, ◌||◌, IsSome}
use Rattle.std.proofs.lemmas.Bool.{false≢true}
use Rattle.atomic_table.specs.Seated.{TableId}
use Rattle.armus_base.specs.declared.event.Event.{Event}
use Rattle.armus_base.specs.declared.offset.Offset.{Offset}
use Rattle.armus_base.specs.Plans.{Aim, Action, Advances, Blocks, Drops, Forks, Makes, Passes, Plan, Refuses, Registers, action_at}
use Rattle.armus_base.specs.Offsets.{target}
use Rattle.armus_base.specs.States.{awaited, event_at, event_on, next_phase}
use Rattle.armus_base.specs.Runs.{Place, first_place, next_place}
use Rattle.armus_base.specs.Places.{kept, own_step, phases_after, published_after}
use Rattle.armus_base.specs.calls.Places.{phases_at_place}
use Rattle.armus_base.specs.Limits.{max_ops}
use Rattle.armus_base.specs.CheckedPlans.{IsWellFormed}
use Rattle.armus_base.proofs.Published.{kept_is}
use Rattle.armus_base.proofs.PhasesFit.{phases_fit}
use Rattle.armus_base.specs.calls.Seats.{AvoidsByWhatIsSeen, own_event, seen_by_child}
use Rattle.armus_base.proofs.Steps.{updated_other, updated_same}
use Rattle.armus_base.proofs.Codes.{child_later, child_within}
use Rattle.board.specs.declared.view.View.{View}
use Rattle.board.specs.calls.Views.{avoids, is_among, next_action, own_place, place_in, seen, task_of}
use Rattle.board.specs.calls.Words.{phase_index}
use Rattle.board.specs.calls.Steps.{after_action, child, child_forked, next_view, own_phase, scanned_next}
use Rattle.board.specs.calls.Seats.{Frame, IsNewSeat, IsOf, IsSeat, Known, MakesStep, MayPublish, event_of}
use Rattle.board.specs.inside.ByMembers.{IsByMember, NeedsMember}
use Rattle.board.specs.inside.Sitting.{IsSitting}
use Rattle.board.proofs.Sights.{seen_stepped, set_place}
use Rattle.board.proofs.Acting.{action_there, next_view_is, nothing_published}

some_same : (u w : ℕ) → Some u ≡ Some w → u ≡ w
some_same u w e = cc

-- the seat's task has a place in its list
pub task_inside : (k : Known) (t : ℕ) → IsSeat k → k.view.own ≡ Some t → task_of k.view < length k.view.sight.places
task_inside k t seat own = (let o = seat.own t own in let small = o.0 in let c = seat.count in let e : task_of k.view ≡ t = ap (λ x. unwrap_or x 0) own in omega arith)

-- no more is scanned after an own action
scanned_less : (x : Action) (k : ℕ) → scanned_next x k ≤ k
scanned_less (Makes p) k = omega arith
scanned_less (Registers c p) k = omega arith
scanned_less (Forks c) k = omega arith
scanned_less (Advances p) k = omega arith
scanned_less (Drops p) k = omega arith
scanned_less (Blocks p) k = omega arith
scanned_less (Passes p) k = omega arith
scanned_less (Refuses p) k = omega arith

-- a seat stays one
pub seat_next : (table table' : TableId) (v w : View) → IsSeat (record { table = table; view = v }) → w ≡ next_view v → IsSeat (record { table = table'; view = w })
seat_next table table' v w seat is = subst (λ (u : View). IsSeat (record { table = table'; view = u })) (sym is) (record {
  live = seat.live;
  checked = seat.checked;
  count = length-set v.sight.places (task_of v) (next_place (own_place v).done (own_place v).dropped (unwrap_or (next_action v) (Drops 0))) ∙ seat.count;
  few = (let l = scanned_less (unwrap_or (next_action v) (Drops 0)) v.sight.scanned in let f = seat.few in omega arith);
  own = λ t e. seat.own t e;
  lock = seat.lock;
})

-- an own step, by what it makes of the view
pub steps : {table table' : TableId} {v w : View} {now : Known} (x : Action) → record { table = table; view = v } ≡ now → task_of v < length v.sight.places →
    w ≡ after_action x v → table' ≡ table → IsSeat (record { table = table'; view = w }) → MakesStep x now (record { table = table'; view = w })
steps {table} {table'} {v} {w} x here within after same seat =
    subst (λ (k : Known). MakesStep x k (record { table = table'; view = w })) here
    (record {
      seen_now = ap seen after ∙ seen_stepped x v within;
      same = record {
        plan = ap (λ (u : View). u.plan) after;
        mode = ap (λ (u : View). u.mode) after;
        own = ap (λ (u : View). u.own) after;
        holds = ap (λ (u : View). u.holds) after;
        spent = ap (λ (u : View). u.spent) after;
        count = ap (λ (u : View). length u.sight.places) after ∙ length-set v.sight.places (task_of v) (next_place (own_place v).done (own_place v).dropped x);
      };
      loads = ap (λ (u : View). u.loads) after;
      table = same;
      kept = seat;
    })

-- and of the next action by the code
pub makes_step : {table table' : TableId} {v w : View} {now : Known} {t n : ℕ} {o : Option Event} (x : Action) → record { table = table; view = v } ≡ now →
    IsSitting t n o (record { table = table; view = v }) → next_action v ≡ Some x → w ≡ next_view v → table' ≡ table →
    MakesStep x now (record { table = table'; view = w })
makes_step {table} {table'} {v} {w} x here s next is same =
    steps x here (task_inside _ _ s.seat s.task) (is ∙ sym (next_view_is v x next)) same (seat_next table table' v w s.seat is)

-- the own place after it
pub place_next : (v : View) (x : Action) → task_of v < length v.sight.places → own_place (after_action x v) ≡ next_place (own_place v).done (own_place v).dropped x
place_next v x within =
    let next : Place = next_place (own_place v).done (own_place v).dropped x in
    ap (λ g. g (task_of v)) (set_place v.sight.places (task_of v) next within) ∙ updated_same (place_in v.sight.places) (task_of v) (task_of v) next refl

-- the event of a seat is that of its own place
pub event_here : (k : Known) (t : ℕ) → k.view.own ≡ Some t → event_of k ≡ published_after k.view.plan (task_of k.view) (own_place k.view).done
event_here k t own =
    ap (λ o. own_event k.view.plan o (seen k.view)) own
    ∙ ap (λ u. published_after k.view.plan u (place_in k.view.sight.places u).done) (sym (ap (λ x. unwrap_or x 0) own))

-- what comes next by the code
pub next_there : (v : View) (x : Action) → next_action v ≡ Some x → ((own_place v).dropped ≡ None) × (action_at v.plan (task_of v) (own_place v).done ≡ Some x)
next_there v x e = action_there v.plan (task_of v) (own_place v).done (own_place v).dropped x e

-- nothing is published where anything but a pass comes next
pub event_before : (k : Known) (t : ℕ) (x : Action) → k.view.own ≡ Some t → next_action k.view ≡ Some x → ((p : ℕ) → x ≢ Passes p) → event_of k ≡ None
event_before k t x own next n =
    let there = next_there k.view x next in
    event_here k t own ∙ nothing_published k.view.plan (task_of k.view) (own_place k.view).done x there.1 n

-- where the code goes on
pub place_next_by_code : (k : ℕ) (o : Option ℕ) (x : Action) → o ≡ None → ((aim : Aim) → x ≢ Refuses aim) →
    next_place k o x ≡ record { done = suc k; dropped = None }
place_next_by_code k None (Makes p) e n = refl
place_next_by_code k None (Registers c p) e n = refl
place_next_by_code k None (Forks c) e n = refl
place_next_by_code k None (Advances p) e n = refl
place_next_by_code k None (Drops p) e n = refl
place_next_by_code k None (Blocks p) e n = refl
place_next_by_code k None (Passes p) e n = refl
place_next_by_code k None (Refuses p) e n = absurd (n p refl)
place_next_by_code k (Some d) x e n = absurd (cc)

pub place_made : (k : ℕ) (o : Option ℕ) (x : Action) → o ≡ None → ((aim : Aim) → x ≢ Refuses aim) → (next_place k o x).done ≡ suc k
place_made k o x e n = ap (λ (b : Place). b.done) (place_next_by_code k o x e n)

-- the event after an own action
pub event_next :
    (table table' : TableId) (v w : View) (t : ℕ) (x : Action) → v.own ≡ Some t → task_of v < length v.sight.places → next_action v ≡ Some x →
    ((aim : Aim) → x ≢ Refuses aim) → w ≡ next_view v →
    event_of (record { table = table'; view = w }) ≡ awaited (Some x) (phases_after v.plan (task_of v) (own_place v).done)
event_next table table' v w t x own within next n is =
    let after : w ≡ after_action x v = is ∙ sym (next_view_is v x next) in
    let there = next_there v x next in
    ap (λ (u : View). event_of (record { table = table'; view = u })) after
    ∙ event_here (record { table = table'; view = after_action x v }) t own
    ∙ ap (λ (b : Place). published_after v.plan (task_of v) b.done) (place_next v x within)
    ∙ ap (published_after v.plan (task_of v)) (place_made (own_place v).done (own_place v).dropped x there.0 n)
    ∙ ap (λ o. awaited o (phases_after v.plan (task_of v) (own_place v).done)) there.1

pub not_awaited : (x : Action) (k : ℕ → Option ℕ) → ((aim : Aim) → x ≢ Blocks aim) → awaited (Some x) k ≡ None
not_awaited (Makes p) k n = refl
not_awaited (Registers c p) k n = refl
not_awaited (Forks c) k n = refl
not_awaited (Advances p) k n = refl
not_awaited (Drops p) k n = refl
not_awaited (Blocks p) k n = absurd (n p refl)
not_awaited (Passes p) k n = refl
not_awaited (Refuses p) k n = refl

-- the own phase where the code goes on
pub phase_here : (v : View) (p : ℕ) → (own_place v).dropped ≡ None → own_phase v p ≡ phases_after v.plan (task_of v) (own_place v).done p
phase_here v p e = ap (λ o. kept o (phases_after v.plan (task_of v) (own_place v).done) p) e

-- scanned after an own action that neither blocks nor passes
pub scanned_same : (v w : View) (x : Action) → next_action v ≡ Some x → ((aim : Aim) → x ≢ Blocks aim) → ((p : ℕ) → x ≢ Passes p) → w ≡ next_view v →
    (seen w).scanned ≡ (seen v).scanned
scanned_same v w x next b p is = ap (λ (u : View). u.sight.scanned) (is ∙ sym (next_view_is v x next)) ∙ by_case x b p
  where
    by_case : (x : Action) → ((aim : Aim) → x ≢ Blocks aim) → ((p : ℕ) → x ≢ Passes p) → (after_action x v).sight.scanned ≡ v.sight.scanned
    by_case (Makes p) b q = refl
    by_case (Registers c p) b q = refl
    by_case (Forks c) b q = refl
    by_case (Advances p) b q = refl
    by_case (Drops p) b q = refl
    by_case (Blocks p) b q = absurd (b p refl)
    by_case (Passes p) b q = absurd (q p refl)
    by_case (Refuses p) b q = refl

-- after an action that neither blocks, passes nor refuses
pub acts_sitting :
    {table table' : TableId} {v w : View} {t n : ℕ} {o : Option Event} (x : Action) → IsSitting t n o (record { table = table; view = v }) →
    next_action v ≡ Some x →
    ((aim : Aim) → x ≢ Blocks aim) → ((p : ℕ) → x ≢ Passes p) → ((aim : Aim) → x ≢ Refuses aim) → w ≡ next_view v → IsSitting t n o (record { table = table'; view = w })
acts_sitting {table} {table'} {v} {w} {t} x s next b p r is =
    let k : Known = record { table = table; view = v } in
    let within = task_inside k t s.seat s.task in
    let before = event_before k t x s.task next p in
    let after = event_next table table' v w t x s.task within next r is ∙ not_awaited x (phases_after v.plan (task_of v) (own_place v).done) b in
    record {
      task = ap (λ (u : View). u.own) is ∙ s.task;
      seat = seat_next table table' v w s.seat is;
      scanned_is = s.scanned_is ∙ sym (scanned_same v w x next b p is);
      event = s.event ∙ before ∙ sym after;
      idle = λ _. s.idle before;
    }

-- after a block
pub blocks_sitting :
    {table table' : TableId} {v w : View} {t n : ℕ} {o : Option Event} (aim : Aim) (e : Event) → IsSitting t n o (record { table = table; view = v }) →
    next_action v ≡ Some (Blocks aim) →
    option_map (target aim.off) (own_phase v aim.phaser) ≡ Some e.n → e.p.0 ≡ aim.phaser → w ≡ next_view v → IsSitting t 0 (Some e) (record { table = table'; view = w })
blocks_sitting {table} {table'} {v} {w} {t} aim e s next phase here is =
    let k : Known = record { table = table; view = v } in
    let within = task_inside k t s.seat s.task in
    let there = next_there v (Blocks aim) next in
    let after : event_of (record { table = table'; view = w }) ≡ Some e =
    event_next table table' v w t (Blocks aim) s.task within next (λ q f. cc) is
    ∙ ap (event_on aim.phaser) (ap (option_map (target aim.off)) (sym (phase_here v aim.phaser there.0)) ∙ phase) ∙ ap (λ q. Some (event_at q e.n)) (sym here) in
    record {
      task = ap (λ (u : View). u.own) is ∙ s.task;
      seat = seat_next table table' v w s.seat is;
      scanned_is = sym (ap (λ (u : View). u.sight.scanned) (is ∙ sym (next_view_is v (Blocks aim) next)));
      event = sym after;
      idle = λ none_now. refl;
    }

-- after a pass
pub passes_sitting :
    {table table' : TableId} {v w : View} {t n : ℕ} {o : Option Event} (p : ℕ) → IsSitting t n o (record { table = table; view = v }) →
    next_action v ≡ Some (Passes p) → w ≡ next_view v →
    IsSitting t 0 None (record { table = table'; view = w })
passes_sitting {table} {table'} {v} {w} {t} p s next is =
    let k : Known = record { table = table; view = v } in
    let within = task_inside k t s.seat s.task in
    record {
      task = ap (λ (u : View). u.own) is ∙ s.task;
      seat = seat_next table table' v w s.seat is;
      scanned_is = sym (ap (λ (u : View). u.sight.scanned) (is ∙ sym (next_view_is v (Passes p) next)));
      event = sym (event_next table table' v w t (Passes p) s.task within next (λ q f. cc) is);
      idle = λ none_now. refl;
    }

-- after an action that does not go on in the code: a refusal, or a refused task's drop
pub stays_sitting :
    {table table' : TableId} {v w : View} {t n : ℕ} {o : Option Event} (x : Action) → IsSitting t n o (record { table = table; view = v }) →
    (next_place (own_place v).done (own_place v).dropped x).done ≡ (own_place v).done → (after_action x v).sight.scanned ≡ v.sight.scanned →
    w ≡ after_action x v → IsSeat (record { table = table'; view = w }) → IsSitting t n o (record { table = table'; view = w })
stays_sitting {table} {table'} {v} {w} {t} x s stays scanned is seat =
    let k : Known = record { table = table; view = v } in
    let within = task_inside k t s.seat s.task in
    let same : event_of (record { table = table'; view = w }) ≡ event_of k =
    ap (λ (u : View). event_of (record { table = table'; view = u })) is
    ∙ event_here (record { table = table'; view = after_action x v }) t s.task
    ∙ ap (λ (b : Place). published_after v.plan (task_of v) b.done) (place_next v x within)
    ∙ ap (published_after v.plan (task_of v)) stays
    ∙ sym (event_here k t s.task) in
    record {
      task = ap (λ (u : View). u.own) is ∙ s.task;
      seat = seat;
      scanned_is = s.scanned_is ∙ sym (ap (λ (u : View). u.sight.scanned) is ∙ scanned);
      event = s.event ∙ sym same;
      idle = λ e. s.idle (sym same ∙ e);
    }

pub drop_done : (k d : ℕ) (o : Option ℕ) (p : ℕ) → o ≡ Some d → (next_place k o (Drops p)).done ≡ k
drop_done k d None p e = absurd (cc)
drop_done k d (Some q) p e = refl

-- a member where the code goes on so
formed_member : (plan : Plan) (t k p : ℕ) (x : Action) → IsByMember x p → IsWellFormed plan t k x → (n : ℕ) × (phases_after plan t k p ≡ Some n)
formed_member plan t k p (Registers c q) e f = subst (λ r. (n : ℕ) × (phases_after plan t k r ≡ Some n)) e f.3
formed_member plan t k p (Advances q) e f = subst (λ r. (n : ℕ) × (phases_after plan t k r ≡ Some n)) e f
formed_member plan t k p (Blocks a) e f = subst (λ r. (n : ℕ) × (phases_after plan t k r ≡ Some n)) e f.0
formed_member plan t k p (Makes q) e f = absurd e
formed_member plan t k p (Forks c) e f = absurd e
formed_member plan t k p (Drops q) e f = absurd e
formed_member plan t k p (Passes q) e f = absurd e
formed_member plan t k p (Refuses q) e f = absurd e

pub member_next : (k : Known) (p : ℕ) → IsSeat k → NeedsMember k p → (n : ℕ) × (own_phase k.view p ≡ Some n)
member_next k p seat needs =
    let there = next_there k.view needs.action needs.next in
    let m = formed_member k.view.plan (task_of k.view) (own_place k.view).done p needs.action needs.by_member
    (seat.checked.codes.well_formed (task_of k.view) (own_place k.view).done needs.action there.1) in
    (m.0, phase_here k.view p there.0 ∙ m.1)

-- what an offset makes of the own phase, by what the seat knew before it was loaded
pub target_is :
    (k now : Known) (p m n : ℕ) (off : Offset) → k ≡ now → own_phase now.view p ≡ Some m → n ≡ target off m →
    option_map (target off) (own_phase k.view p) ≡ Some n
target_is k now p m n off same phase is =
    ap (λ (k : Known). option_map (target off) (own_phase k.view p)) same ∙ ap (option_map (target off)) phase ∙ ap Some (sym is)

-- the own phase is small
pub own_phase_small : (k : Known) (p n : ℕ) → IsSeat k → own_phase k.view p ≡ Some n → n ≤ max_ops
own_phase_small k p n seat is =
    (let l = phases_fit k.view.plan (task_of k.view) (own_place k.view).done p n seat.checked
    (kept_is (own_place k.view).dropped (phases_after k.view.plan (task_of k.view) (own_place k.view).done) p n is) in
    let m = seat.checked.limits.few_ops in omega arith)

-- the own phase after it is one more
pub advanced_phase :
    (v w : View) (p n : ℕ) → task_of v < length v.sight.places → next_action v ≡ Some (Advances p) → own_phase v p ≡ Some n → w ≡ next_view v → own_phase w p ≡ Some (n + 1)
unfolding phases_after
advanced_phase v w p n within next phase is =
    let after : w ≡ after_action (Advances p) v = is ∙ sym (next_view_is v (Advances p) next) in
    let there = next_there v (Advances p) next in
    ap (λ (u : View). own_phase u p) after
    ∙ ap (λ (b : Place). phases_at_place v.plan (task_of v) b p) (place_next v (Advances p) within)
    ∙ ap (λ o. phases_at_place v.plan (task_of v) (next_place (own_place v).done o (Advances p)) p) there.0
    ∙ ap (λ o. own_step o (phases_after v.plan (task_of v) (own_place v).done) p) there.1
    ∙ updated_same (phases_after v.plan (task_of v) (own_place v).done) p p (next_phase (phases_after v.plan (task_of v) (own_place v).done p)) refl
    ∙ ap next_phase (sym (phase_here v p there.0) ∙ phase)

-- the own phase word by what the seat knows
pub own_index : (k : Known) (f : Frame) (t p index : ℕ) → IsOf k f → k.view.own ≡ Some t → index ≡ phase_index f.plan t p → index ≡ phase_index k.view.plan (task_of k.view) p
own_index k f t p index of own is =
    is ∙ ap (λ (q : Plan). phase_index q t p) (sym of.plan) ∙ ap (λ u. phase_index k.view.plan u p) (sym (ap (λ o. unwrap_or o 0) own))

-- what the board's mode asks of who publishes, by the board's own plan
pub may_publish_here :
    (k : Known) (f : Frame) (t : ℕ) (aim : Aim) → IsOf k f → k.view.own ≡ Some t → MayPublish k aim → avoids f.mode ≡ true →
    (k.view.holds ≡ true) × AvoidsByWhatIsSeen f.plan t (seen k.view) (Blocks aim)
may_publish_here k f t aim of own may avoiding =
    let m = may (ap avoids of.mode ∙ avoiding) in (
      m.0,
      subst (λ (q : Plan). AvoidsByWhatIsSeen q t (seen k.view) (Blocks aim)) of.plan
          (subst (λ u. AvoidsByWhatIsSeen k.view.plan u (seen k.view) (Blocks aim)) (ap (λ o. unwrap_or o 0) own) m.1),
    )

pub some_is : (o : Option ℕ) → IsSome o → (n : ℕ) × (o ≡ Some n)
some_is None e = absurd (false≢true e)
some_is (Some n) e = (n, refl)

-- a seat as the board sees it
pub new_of : (k : Known) (f : Frame) (table : TableId) (v : View) → IsOf k f → table ≡ k.table → v.plan ≡ k.view.plan → v.mode ≡ k.view.mode →
    IsOf (record { table = table; view = v }) f
new_of k f table v of t p m = record { table = t ∙ of.table; plan = p ∙ of.plan; mode = m ∙ of.mode }

-- the seat of a child
among_one : (c : ℕ) → is_among (c ∷ []) c ≡ true
among_one c = ap (λ b. b || false) (eq-eqb c c refl)

exact_one : (c : ℕ) → is_among (c ∷ []) ≡ (λ u. u == c)
exact_one c = fun_ext (λ u. or_none (u == c))
  where
    or_none : (b : Bool) → (b || false) ≡ b
    or_none true = refl
    or_none false = refl

pub child_seen : (v : View) (c : ℕ) → next_action v ≡ Some (Forks c) → seen (child v) ≡ seen_by_child c (seen (next_view v))
child_seen v c next =
    λ i. record {
      places = place_in (next_view v).sight.places;
      exact = (ap (λ o. is_among (child_forked o ∷ [])) next ∙ exact_one c) i;
      scanned = 0;
      found = λ _. None;
    }

pub child_new : (k : Known) (f : Frame) (table : TableId) (w : View) (c : ℕ) → IsOf k f → table ≡ k.table → next_action k.view ≡ Some (Forks c) →
    w ≡ child k.view → IsSeat (record { table = table; view = w }) →
    IsNewSeat f (Some c) (seen_by_child c (seen (next_view k.view))) (record { table = table; view = w })
child_new k f table w c of t next is seat =
    record {
      of_board = new_of k f table w of t (ap (λ (u : View). u.plan) is) (ap (λ (u : View). u.mode) is);
      own_is = ap (λ (u : View). u.own) is ∙ ap (λ o. Some (child_forked o)) next;
      seen_is = ap seen is ∙ child_seen k.view c next;
      free = ap (λ (u : View). u.holds) is;
      loads = ap (λ (u : View). u.loads) is;
      kept = seat;
    }

pub child_apart : (k : Known) (t c : ℕ) → IsSeat k → k.view.own ≡ Some t → next_action k.view ≡ Some (Forks c) → c ≢ task_of k.view
child_apart k t c seat own next same =
    let there = next_there k.view (Forks c) next in
    let formed = seat.checked.codes.well_formed (task_of k.view) (own_place k.view).done (Forks c) there.1 in
    let less = child_later k.view.plan seat.checked.tables (task_of k.view) c formed.0 in
    omega arith

-- it stands where no step of it is seen
child_place : (v : View) (c : ℕ) → task_of v < length v.sight.places → next_action v ≡ Some (Forks c) → c ≢ task_of v →
    place_in (next_view v).sight.places c ≡ place_in v.sight.places c
child_place v c within next apart =
    ap (λ (u : View). place_in u.sight.places c) (sym (next_view_is v (Forks c) next))
    ∙ ap (λ g. g c) (set_place v.sight.places (task_of v) (next_place (own_place v).done (own_place v).dropped (Forks c)) within)
    ∙ updated_other (place_in v.sight.places) (task_of v) c (next_place (own_place v).done (own_place v).dropped (Forks c)) apart

pub child_first : (v w : View) (c : ℕ) → task_of v < length v.sight.places → next_action v ≡ Some (Forks c) → place_in v.sight.places c ≡ first_place →
    c ≢ task_of v → w ≡ child v → own_place w ≡ first_place
child_first v w c within next unseen apart is =
    ap own_place is ∙ ap (λ o. place_in (next_view v).sight.places (child_forked o)) next ∙ child_place v c within next apart ∙ unseen

pub child_sitting : (table table' : TableId) (v w : View) (t n c : ℕ) (o : Option Event) → IsSitting t n o (record { table = table; view = v }) →
    next_action v ≡ Some (Forks c) → place_in v.sight.places c ≡ first_place → c ≢ task_of v →
    w ≡ child v → IsSitting c 0 None (record { table = table'; view = w })
child_sitting table table' v w t n c o s next unseen apart is =
    subst (λ (u : View). IsSitting c 0 None (record { table = table'; view = u })) (sym is)
    (record {
      task = ap (λ o. Some (child_forked o)) next;
      seat = child_seat;
      scanned_is = refl;
      event = sym no_event;
      idle = λ _. refl;
    })
  where
    within : task_of v < length v.sight.places
    within = task_inside (record { table = table; view = v }) t s.seat s.task

    there : ((own_place v).dropped ≡ None) × (action_at v.plan (task_of v) (own_place v).done ≡ Some (Forks c))
    there = next_there v (Forks c) next

    formed : IsWellFormed v.plan (task_of v) (own_place v).done (Forks c)
    formed = s.seat.checked.codes.well_formed (task_of v) (own_place v).done (Forks c) there.1

    small : c < length v.plan.parents
    small = child_within v.plan (task_of v) c formed.0

    child_seat : IsSeat (record { table = table'; view = child v })
    child_seat = record {
      live = s.seat.live;
      checked = s.seat.checked;
      count = (seat_next table table' v (next_view v) s.seat refl).count;
      few = omega arith;
      own = λ u e.
          let same : c ≡ u = some_same c u (sym (ap (λ o. Some (child_forked o)) next) ∙ e) in (
            subst (λ x. x < length v.plan.parents) same small,
            subst (λ x. is_among (child_forked (next_action v) ∷ []) x ≡ true) (ap child_forked next ∙ same) (among_one (child_forked (next_action v))),
          );
      lock = λ has. absurd (false≢true has);
    }

    no_event : event_of (record { table = table'; view = child v }) ≡ None
    no_event =
        ap (λ o. published_after v.plan (child_forked o) (place_in (next_view v).sight.places (child_forked o)).done) next
        ∙ ap (λ (b : Place). published_after v.plan c b.done) (child_place v c within next apart ∙ unseen)

-- the event that is published
pub event_is : (k : Known) → IsSome (event_of k) → (e : Event) × (event_of k ≡ Some e)
event_is k some_event = by_case (event_of k) refl some_event
  where
    by_case : (o : Option Event) → event_of k ≡ o → IsSome o → (e : Event) × (event_of k ≡ Some e)
    by_case None is h = absurd (false≢true h)
    by_case (Some e) is h = (e, is)
