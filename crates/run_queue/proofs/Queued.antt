-- A step, a turn that ends, and a round that ends: what a queue says then.
use Rattle.std.proofs.Common.{◌≡◌, ◌≢◌, ℕ, ◌<◌, true, false, List, [], ◌∷◌, ◌++◌, Some, None, length, arith, sym, ◌∙◌, ap, subst, refl, ◌⊎◌, inl, inr}
use Rattle.std.specs.Prelude.{Contains, Vec}
use Rattle.std.specs.Global.{Global}
use Rattle.std.proofs.lemmas.Bool.{cases_Bool, cases_eq, false≢true}
use Rattle.std.proofs.lemmas.List.Elements.{Contains-push_cases, Contains-append_left, Contains-push}
use Rattle.armus_base.specs.declared.event.Event.{Event}
use Rattle.armus_base.specs.declared.ids.TaskId.{TaskId}
use Rattle.armus_base.specs.CheckedPlans.{IsCheckedPlan}
use Rattle.armus_base.specs.Plans.{Action, Blocks, Forks, Passes}
use Rattle.armus_base.specs.Runs.{IsReachable}
use Rattle.armus_base.specs.States.{IsLegal, IsReached, State, after, awaited}
use Rattle.armus_base.proofs.Codes.{child_within}
use Rattle.armus_base.proofs.Elements.{nothing_in_nil}
use Rattle.armus_base.proofs.Steps.{updated_other, updated_same}
use Rattle.pl_core.specs.declared.stand.Stand.{Stand}
use Rattle.pl_core.specs.declared.stand.Stand.TheVariants.{Unforked, Done, Refused, Ready, Await, Waits}
use Rattle.pl_core.specs.calls.Moves.{IsWorldStep}
use Rattle.pl_core.specs.calls.Stands.{IsAtAwaitOf, IsEnabled, StandsSo}
use Rattle.pl_core.specs.calls.Worlds.{WorldValue, action_by_code, places_of, state_of}
use Rattle.pl_core.proofs.GoingOn.{goes_on}
use Rattle.pl_core.proofs.StepKinds.{awaits_block}
use Rattle.run_queue.specs.declared.ready.ReadyTasks.{ReadyTasks}
use Rattle.run_queue.specs.declared.run_queue.RunQueue.{RunQueue}
use Rattle.run_queue.specs.declared.wait_queue.WaitQueue.{WaitQueue}
use Rattle.run_queue.specs.declared.waiter.Waiter.{Waiter}
use Rattle.run_queue.specs.calls.RunQueues.{HasNoTurn, HasTurnLeft, IsRunQueue, WaitsInQueue, is_child, is_done, is_refused, is_unforked, is_waiting, waiters_at}
use Rattle.run_queue.specs.calls.StepKinds.{ChangesPhasesOf, HasMoved}
use Rattle.run_queue.specs.inside.ReadyTasks.{IsSet}
use Rattle.run_queue.specs.inside.WaitQueues.{IsUnreached}
use Rattle.run_queue.specs.inside.Waking.{AreUnreached, GivesTurns, Wakes}
use Rattle.run_queue.proofs.Moved.{action_same, changes_no_await, changes_no_fork, forked_kept, phases_elsewhere, plan_same, published_same, refusal_forks_nobody, refused_same, refused_unpublished, step_forks_nobody}
use Rattle.run_queue.proofs.Waiters.{waiters_within}
use Rattle.run_queue.proofs.Waking.{wakes_none}

-- where the phases of a phaser are the same, so is what is not reached
unreached_by : (s r : State) (p : ℕ) (v : Waiter) → ((u : ℕ) → r.phases u p ≡ s.phases u p) → IsUnreached s p v → IsUnreached r p v
unreached_by s r p v same un reached = un (λ u m i. reached u m (same u ∙ i))

module _ (first old w : WorldValue) (t : ℕ) (moved : HasMoved old w t) (q r : RunQueue) (ready : HasTurnLeft q t) (h : IsRunQueue first old q) (wakes : Wakes q r) where
  keep :
      (u : ℕ) → u ≢ t → u < length q.ready.flags.items → ((c : ℕ) → (state_of old).forked c ≡ false → (state_of w).forked c ≡ false) →
      ((p : ℕ) (v : Waiter) → Contains (waiters_at r.waiting.items p) v → IsUnreached (state_of old) p v → IsUnreached (state_of w) p v) →
      HasNoTurn old q.waiting.items q.children.items u → HasTurnLeft r u ⊎ HasNoTurn w r.waiting.items r.children.items u
  keep u n l unforked unreached (is_unforked f) = inr (is_unforked (unforked u f))
  keep u n l unforked unreached (is_child m) = inr (is_child (subst (λ (cs : List TaskId). Contains cs (record { 0 = u })) (sym wakes.children) m))
  keep u n l unforked unreached (is_done a) = inr (is_done (action_same old w t moved u n ∙ a))
  keep u n l unforked unreached (is_refused e a) = inr (is_refused e (refused_same old w t moved u n ∙ a))
  keep u n l unforked unreached (is_waiting e p un i) =
      elim (wakes.stays e.p.0 (record { task = record { 0 = u }; phase = e.n }) l i) [
        | inl still ↦
            inr (is_waiting e (published_same old w t moved u n ∙ p) (unreached e.p.0 (record { task = record { 0 = u }; phase = e.n }) still un) still)
        | inr turn ↦ inl turn
      ]

  -- whoever may go on by the step of another one has a turn
  pub moved_on :
      ((c : ℕ) → (state_of old).forked c ≡ false → (state_of w).forked c ≡ false) →
      ((p : ℕ) (v : Waiter) → Contains (waiters_at r.waiting.items p) v → IsUnreached (state_of old) p v → IsUnreached (state_of w) p v) →
      HasTurnLeft r t × IsRunQueue first w r
  moved_on unforked unreached =
      let plan = plan_same old w t moved in
      let parents = ap (λ p. length p.parents) plan in
      let makers = ap (λ p. length p.makers) plan in (
        wakes.ready t ready,
        record {
          plan = plan ∙ h.plan;
          tasks = wakes.tasks ∙ h.tasks ∙ sym parents;
          phasers = wakes.phasers ∙ h.phasers ∙ sym makers;
          stays = λ u f. forked_kept old w t moved u (h.stays u f);
          turns = λ u is. elim (wakes.turns u is) [
            | inl was ↦ h.turns u was
            | inr some ↦ subst (λ v. (state_of first).forked v ≡ true) some.3 (h.waits some.0 some.1 some.2).1
          ];
          waits = λ p v i. (let was = h.waits p v (wakes.fewer p v i) in ((let l = was.0 in omega arith), was.1));
          children = λ c m.
              let was = h.children c (subst (λ (cs : List TaskId). Contains cs c) wakes.children m) in
              ((let l = was.0 in omega arith), was.1, forked_kept old w t moved c.0 was.2);
          others = λ u l. elim (cases_eq u t) [
            | inl same ↦ inl (subst (λ v. HasTurnLeft r v) (sym same) (wakes.ready t ready))
            | inr n ↦
                elim (h.others u (omega arith)) [
                  | inl turn ↦ inl (wakes.ready u turn)
                  | inr none ↦ keep u n (let sized = h.tasks in omega arith) unforked unreached none
                ]
          ];
        },
      )

-- what was made is the action of this kind
made_is : (old w : WorldValue) (t : ℕ) (s : IsWorldStep old w t) (x : Action) → action_by_code old t ≡ Some x → s.action ≡ x
made_is old w t s x is = (let two : Some s.action ≡ Some x = sym s.next ∙ is in cc)

-- a step that changes no phases, and is no fork
quiet_on :
    (first old w : WorldValue) (t : ℕ) (s : IsWorldStep old w t) (x : Action) → s.action ≡ x → ((c : ℕ) → x ≢ Forks c) →
    (after (state_of old) t x).phases ≡ (state_of old).phases → (q r : RunQueue) → HasTurnLeft q t → IsRunQueue first old q → Wakes q r →
    HasTurnLeft r t × IsRunQueue first w r
quiet_on first old w t s x is none same q r ready h wakes =
    moved_on first old w t (inl s) q r ready h wakes
    (λ c f. step_forks_nobody old w t s (λ d e. none d (sym is ∙ e)) c ∙ f)
    (λ p v i un. unreached_by (state_of old) (state_of w) p v
    (λ u. ap (λ (g : State). g.phases u p) (s.state ∙ ap (after (state_of old) t) is) ∙ ap (λ f. f u p) same) un)

pub passes_on :
    (first old w : WorldValue) (t p : ℕ) → HasMoved old w t → action_by_code old t ≡ Some (Passes p) → (q : RunQueue) → HasTurnLeft q t → IsRunQueue first old q →
    HasTurnLeft q t × IsRunQueue first w q
passes_on first old w t p (inl s) is q ready h =
    quiet_on first old w t s (Passes p) (made_is old w t s (Passes p) is) (λ c e. absurd (cc)) refl q q ready h (wakes_none q)
passes_on first old w t p (inr r) is q ready h =
    absurd (let no_event : None ≡ Some r.event = sym (ap (λ o. awaited o ((state_of old).phases t)) is) ∙ r.before.1 in cc)

pub changes_on :
    (first old w : WorldValue) (t p : ℕ) → HasMoved old w t → ((x : Action) × (action_by_code old t ≡ Some x) × ChangesPhasesOf x p) → (q r : RunQueue) → HasTurnLeft q t →
    IsRunQueue first old q → Wakes q r → (length q.waiting.items ≡ length w.plan.makers → AreUnreached (state_of w) r p) → HasTurnLeft r t × IsRunQueue first w r
changes_on first old w t p (inr f) kind q r ready h wakes unreached =
    absurd (changes_no_await kind.0 p ((state_of old).phases t) f.event kind.2 (subst (λ o. awaited o ((state_of old).phases t) ≡ Some f.event) kind.1 f.before.1))
changes_on first old w t p (inl s) kind q r ready h wakes unreached =
    let changes = subst (λ x. ChangesPhasesOf x p) (sym (made_is old w t s kind.0 kind.1)) kind.2 in
    let here = unreached (h.phasers ∙ sym (ap (λ p. length p.makers) s.plan)) in
    moved_on first old w t (inl s) q r ready h wakes
    (λ c f. step_forks_nobody old w t s (λ d. changes_no_fork s.action p d changes) c ∙ f)
    (λ k v i un. elim (cases_eq k p) [
      | inl same ↦ subst (λ m. IsUnreached (state_of w) m v) (sym same) (here v (subst (λ m. Contains (waiters_at r.waiting.items m) v) same i))
      | inr apart ↦
          unreached_by (state_of old) (state_of w) k v
          (λ u. ap (λ (g : State). g.phases u k) s.state ∙ phases_elsewhere (state_of old) t s.action p k changes apart u) un
    ])

pub awaits_on :
    (first old w : WorldValue) (t : ℕ) → HasMoved old w t → ((e : Event) × IsAtAwaitOf old t e) → (q r : RunQueue) → HasTurnLeft q t → IsRunQueue first old q → Wakes q r →
    ((state_of w).published t ≡ None → (p : ℕ) → p < length w.plan.makers → AreUnreached (state_of w) r p) → HasTurnLeft r t × IsRunQueue first w r
awaits_on first old w t (inl s) kind q r ready h wakes unreached =
    let blocks = awaits_block (action_by_code old t) ((state_of old).phases t) kind.0 kind.1.1 in
    quiet_on first old w t s (Blocks blocks.0) (made_is old w t s (Blocks blocks.0) blocks.1) (λ c e. absurd (cc)) refl q r ready h wakes
awaits_on first old w t (inr f) kind q r ready h wakes unreached =
    let makers = ap (λ p. length p.makers) f.refusal.plan in
    moved_on first old w t (inr f) q r ready h wakes
    (λ c unforked. refusal_forks_nobody old w t f c ∙ unforked)
    (λ p v i un. unreached (refused_unpublished old w t f) p
    (let l = waiters_within r.waiting.items p v i in let sized = wakes.phasers in let kept = h.phasers in omega arith) v i)

-- a fork: the child has its first turn in the next round
module _ (first old w : WorldValue) (t : ℕ) (c : TaskId) (s : IsWorldStep old w t) (is : s.action ≡ Forks c.0) (q : RunQueue) (more : Vec TaskId Global)
    (items : more.items ≡ q.children.items ++ c ∷ []) (ready : HasTurnLeft q t) (h : IsRunQueue first old q) where
  abbrev with_child : RunQueue
  with_child = record { ready = q.ready; waiting = q.waiting; children = more }

  legal : IsLegal old.plan (state_of old) t (Forks c.0)
  legal = subst (IsLegal old.plan (state_of old) t) is s.legal

  state : state_of w ≡ after (state_of old) t (Forks c.0)
  state = s.state ∙ ap (after (state_of old) t) is

  unforked_first : (state_of first).forked c.0 ≡ false
  unforked_first = elim (cases_Bool ((state_of first).forked c.0)) [
    | inl forked ↦ absurd (false≢true (sym legal.2 ∙ h.stays c.0 forked))
    | inr unforked ↦ unforked
  ]

  child_forked : (state_of w).forked c.0 ≡ true
  child_forked = ap (λ (g : State). g.forked c.0) state ∙ updated_same (state_of old).forked c.0 c.0 true refl

  unforked_other : (u : ℕ) → u ≢ c.0 → (state_of w).forked u ≡ (state_of old).forked u
  unforked_other u n = ap (λ (g : State). g.forked u) state ∙ updated_other (state_of old).forked c.0 u true n

  child_listed : Contains more.items c
  child_listed = subst (λ (cs : List TaskId). Contains cs c) (sym items) (Contains-push q.children.items c)

  keep_forked :
      (u : ℕ) → u ≢ t → HasNoTurn old q.waiting.items q.children.items u → HasNoTurn w q.waiting.items more.items u
  keep_forked u n (is_unforked f) = elim (cases_eq u c.0) [
    | inl same ↦ is_child (subst (λ v. Contains more.items (record { 0 = v })) (sym same) child_listed)
    | inr other ↦ is_unforked (unforked_other u other ∙ f)
  ]
  keep_forked u n (is_child m) =
      is_child (subst (λ (cs : List TaskId). Contains cs (record { 0 = u })) (sym items) (Contains-append_left q.children.items (c ∷ []) (record { 0 = u }) m))
  keep_forked u n (is_done a) = is_done (action_same old w t (inl s) u n ∙ a)
  keep_forked u n (is_refused e a) = is_refused e (refused_same old w t (inl s) u n ∙ a)
  keep_forked u n (is_waiting e p un i) =
      is_waiting e (published_same old w t (inl s) u n ∙ p) (λ reached. un (λ v m at. reached v m (ap (λ (g : State). g.phases v e.p.0) state ∙ at))) i

  pub child_on : HasTurnLeft with_child t × IsRunQueue first w with_child
  child_on =
      let parents = ap (λ p. length p.parents) s.plan in (
        ready,
        record {
          plan = s.plan ∙ h.plan;
          tasks = h.tasks ∙ sym parents;
          phasers = h.phasers ∙ sym (ap (λ p. length p.makers) s.plan);
          stays = λ u f. forked_kept old w t (inl s) u (h.stays u f);
          turns = h.turns;
          waits = λ p v i. (let was = h.waits p v i in ((let l = was.0 in omega arith), was.1));
          children = λ d m. elim (Contains-push_cases q.children.items c d (subst (λ (cs : List TaskId). Contains cs d) items m)) [
            | inl was ↦ (let kept = h.children d was in ((let l = kept.0 in omega arith), kept.1, forked_kept old w t (inl s) d.0 kept.2))
            | inr this ↦
                subst (λ (b : TaskId). (b.0 < length w.plan.parents) × ((state_of first).forked b.0 ≡ false) × ((state_of w).forked b.0 ≡ true)) this
                ((let l = child_within old.plan t c.0 legal.1 in omega arith), unforked_first, child_forked)
          ];
          others = λ u l. elim (cases_eq u t) [
            | inl same ↦ inl (subst (λ v. HasTurnLeft q v) (sym same) ready)
            | inr n ↦
                elim (h.others u (omega arith)) [
                  | inl turn ↦ inl turn
                  | inr none ↦ inr (keep_forked u n none)
                ]
          ];
        },
      )

pub forks_on :
    (first old w : WorldValue) (t : ℕ) (c : TaskId) → HasMoved old w t → action_by_code old t ≡ Some (Forks c.0) → (q : RunQueue) (more : Vec TaskId Global) →
    more.items ≡ q.children.items ++ c ∷ [] → HasTurnLeft q t → IsRunQueue first old q →
    HasTurnLeft q t × IsRunQueue first w (record { ready = q.ready; waiting = q.waiting; children = more })
forks_on first old w t c (inl s) is q more items ready h = child_on first old w t c s (made_is old w t s (Forks c.0) is) q more items ready h
forks_on first old w t c (inr f) is q more items ready h =
    absurd (let no_event : None ≡ Some f.event = sym (ap (λ o. awaited o ((state_of old).phases t)) is) ∙ f.before.1 in cc)

-- who stands so may not act
pub over_by_stand :
    (w : WorldValue) (queues : List WaitQueue) (children : List TaskId) (t : ℕ) (stand : Stand) → StandsSo w t stand → (stand ≡ Ready → ⊥) →
    ((e : Event) → stand ≡ Await e → ⊥) → ((e : Event) → stand ≡ Waits e → ⊥) → HasNoTurn w queues children t
over_by_stand w queues children t Unforked so a b c = is_unforked so
over_by_stand w queues children t Done so a b c = is_done so.1
over_by_stand w queues children t (Refused e) so a b c = is_refused e so
over_by_stand w queues children t Ready so a b c = absurd (a refl)
over_by_stand w queues children t (Await e) so a b c = absurd (b e refl)
over_by_stand w queues children t (Waits e) so a b c = absurd (c e refl)

-- one more that waits
module _ (first w : WorldValue) (q r : RunQueue) (t : ℕ) (ready : r.ready ≡ q.ready) (children : r.children ≡ q.children)
    (phasers : length r.waiting.items ≡ length q.waiting.items)
    (stays : (p : ℕ) (v : Waiter) → Contains (waiters_at q.waiting.items p) v → Contains (waiters_at r.waiting.items p) v) where
  keep_waiting : (u : ℕ) → HasNoTurn w q.waiting.items q.children.items u → HasNoTurn w r.waiting.items r.children.items u
  keep_waiting u (is_unforked f) = is_unforked f
  keep_waiting u (is_child m) = is_child (subst (λ (cs : Vec TaskId Global). Contains cs.items (record { 0 = u })) (sym children) m)
  keep_waiting u (is_done a) = is_done a
  keep_waiting u (is_refused e a) = is_refused e a
  keep_waiting u (is_waiting e p un i) = is_waiting e p un (stays e.p.0 (record { task = record { 0 = u }; phase = e.n }) i)

  pub waiting_on :
      (e : Event) → t < length w.plan.parents → (state_of w).published t ≡ Some e → (IsReached (state_of w) e → ⊥) →
      ((p : ℕ) (v : Waiter) → Contains (waiters_at r.waiting.items p) v → Contains (waiters_at q.waiting.items p) v ⊎ (v.task ≡ (record { 0 = t }))) →
      WaitsInQueue r.waiting.items t e → HasTurnLeft q t → IsRunQueue first w q → IsRunQueue first w r × HasNoTurn w r.waiting.items r.children.items t
  waiting_on e within published unreached others there turn h = (
    record {
      plan = h.plan;
      tasks = ap (λ (a : ReadyTasks). length a.flags.items) ready ∙ h.tasks;
      phasers = phasers ∙ h.phasers;
      stays = h.stays;
      turns = λ u is. h.turns u (subst (λ (a : ReadyTasks). IsSet a.flags.items u) ready is);
      waits = λ p v i. elim (others p v i) [
        | inl was ↦ h.waits p v was
        | inr is ↦ subst (λ (c : TaskId). (c.0 < length w.plan.parents) × ((state_of first).forked c.0 ≡ true)) (sym is) (within, h.turns t turn)
      ];
      children = λ c m. h.children c (subst (λ (cs : Vec TaskId Global). Contains cs.items c) children m);
      others = λ u l. elim (h.others u l) [
        | inl is ↦ inl (subst (λ (a : ReadyTasks). IsSet a.flags.items u) (sym ready) is)
        | inr none ↦ inr (keep_waiting u none)
      ];
    },
    is_waiting e published unreached there,
  )

-- a turn has ended
pub turn_over :
    (first w : WorldValue) (q : RunQueue) (after : ReadyTasks) (t : ℕ) → length after.flags.items ≡ length q.ready.flags.items →
    ((u : ℕ) → HasTurnLeft q u → IsSet after.flags.items u ⊎ (u ≡ t)) → ((u : ℕ) → IsSet after.flags.items u → HasTurnLeft q u) → IsRunQueue first w q →
    HasNoTurn w q.waiting.items q.children.items t → IsRunQueue first w (record { ready = after; waiting = q.waiting; children = q.children })
turn_over first w q after t tasks keeps only h none = record {
  plan = h.plan;
  tasks = tasks ∙ h.tasks;
  phasers = h.phasers;
  stays = h.stays;
  turns = λ u is. h.turns u (only u is);
  waits = h.waits;
  children = h.children;
  others = λ u l. elim (h.others u l) [
    | inl is ↦
        elim (keeps u is) [
          | inl still ↦ inl still
          | inr this ↦ inr (subst (λ v. HasNoTurn w q.waiting.items q.children.items v) (sym this) none)
        ]
    | inr why ↦ inr why
  ];
}

-- who has no turn and was forked when the round began may not act
pub no_turn :
    (first w : WorldValue) (q : RunQueue) → IsCheckedPlan w.plan → IsReachable w.plan (places_of w) → IsRunQueue first w q → (t : ℕ) → t < length w.plan.parents →
    (state_of first).forked t ≡ true → (HasTurnLeft q t → ⊥) → IsEnabled w t → ⊥
no_turn first w q checked reach h t l forked unready enabled = elim (h.others t l) [ inl is ↦ unready is | inr none ↦ by none ]
  where
    by : HasNoTurn w q.waiting.items q.children.items t → ⊥
    by (is_unforked f) = absurd (false≢true (sym f ∙ h.stays t forked))
    by (is_child m) = absurd (false≢true (sym (h.children (record { 0 = t }) m).1 ∙ forked))
    by (is_done a) = absurd (let some = enabled.1 in cc)
    by (is_refused e a) = absurd ((goes_on w checked reach t (Refused e) a).0 enabled)
    by (is_waiting e p un i) = un ((goes_on w checked reach t (Waits e) p).0 enabled)

-- one more of the children has a turn
pub gives_more :
    (a b : RunQueue) (after : ReadyTasks) (rest : Vec TaskId Global) (c : TaskId) → GivesTurns a b → b.children.items ≡ rest.items ++ c ∷ [] →
    length after.flags.items ≡ length b.ready.flags.items → (c.0 < length b.ready.flags.items → IsSet after.flags.items c.0) →
    ((u : ℕ) → HasTurnLeft b u → IsSet after.flags.items u) → ((u : ℕ) → IsSet after.flags.items u → HasTurnLeft b u ⊎ (u ≡ c.0)) →
    GivesTurns a (record { ready = after; waiting = b.waiting; children = rest })
gives_more a b after rest c g items tasks there keeps only = record {
  waiting = g.waiting;
  tasks = tasks ∙ g.tasks;
  ready = λ u is. keeps u (g.ready u is);
  turns = λ u is. elim (only u is) [
    | inl was ↦ g.turns u was
    | inr this ↦
        inr (subst (λ v. Contains a.children.items (record { 0 = v })) (sym this)
        (g.fewer c (subst (λ (cs : List TaskId). Contains cs c) (sym items) (Contains-push rest.items c))))
  ];
  left = λ d l i. elim (g.left d l i) [
    | inl is ↦ inl (keeps d.0 is)
    | inr still ↦
        elim (Contains-push_cases rest.items c d (subst (λ (cs : List TaskId). Contains cs d) items still)) [
          | inl more ↦ inr more
          | inr this ↦
              inl (subst (λ (b : TaskId). IsSet after.flags.items b.0) this
              (there (let same = g.tasks in let bound = subst (λ (e : TaskId). e.0 < length a.ready.flags.items) (sym this) l in omega arith)))
        ]
  ];
  fewer = λ d i. g.fewer d (subst (λ (cs : List TaskId). Contains cs d) (sym items) (Contains-append_left rest.items (c ∷ []) d i));
}

pub gives_none : (a : RunQueue) → GivesTurns a a
gives_none a = record {
  waiting = refl;
  tasks = refl;
  ready = λ u is. is;
  turns = λ u is. inl is;
  left = λ c l i. inr i;
  fewer = λ c i. i;
}

empty_of : {A : Type 0} (xs : List A) → length xs ≡ 0 → xs ≡ []
empty_of [] e = refl
empty_of (x ∷ xs) e = absurd (omega arith)

-- a round has ended
module _ (first w : WorldValue) (a b : RunQueue) (rest : Vec TaskId Global) (g : GivesTurns a b) (none : length b.children.items ≡ 0) (left : length rest.items ≡ 0) (h : IsRunQueue first w a) where
  by_turn : (u : ℕ) → u < length w.plan.parents → HasNoTurn w a.waiting.items a.children.items u → HasTurnLeft b u ⊎ HasNoTurn w b.waiting.items rest.items u
  by_turn u l (is_unforked f) = inr (is_unforked f)
  by_turn u l (is_child m) = elim (g.left (record { 0 = u }) (let sized = h.tasks in omega arith) m) [
    | inl is ↦ inl is
    | inr still ↦ absurd (nothing_in_nil (record { 0 = u }) (subst (λ (cs : List TaskId). Contains cs (record { 0 = u })) (empty_of b.children.items none) still))
  ]
  by_turn u l (is_done e) = inr (is_done e)
  by_turn u l (is_refused e i) = inr (is_refused e i)
  by_turn u l (is_waiting e p un i) = inr (is_waiting e p un (subst (λ (v : Vec WaitQueue Global). WaitsInQueue v.items u e) (sym g.waiting) i))

  pub round_over : IsRunQueue w w (record { ready = b.ready; waiting = b.waiting; children = rest })
  round_over = record {
    plan = refl;
    tasks = g.tasks ∙ h.tasks;
    phasers = ap (λ (v : Vec WaitQueue Global). length v.items) g.waiting ∙ h.phasers;
    stays = λ t f. f;
    turns = λ u is. elim (g.turns u is) [
      | inl was ↦ h.stays u (h.turns u was)
      | inr child ↦ (h.children (record { 0 = u }) child).2
    ];
    waits = λ p v i.
        let was = h.waits p v (subst (λ (q : Vec WaitQueue Global). Contains (waiters_at q.items p) v) g.waiting i) in (was.0, h.stays v.task.0 was.1);
    children = λ c m. absurd (nothing_in_nil c (subst (λ (cs : List TaskId). Contains cs c) (empty_of rest.items left) m));
    others = λ u l. elim (h.others u l) [
      | inl is ↦ inl (g.ready u is)
      | inr why ↦ by_turn u l why
    ];
  }
