-- What loads leave as it was, and what they make longer.
use Rattle.std.proofs.Common.{◌≡◌, ◌≢◌, ℕ, suc, ◌<◌, ◌≤◌, ◌+◌, Bool, true, false, Option, Some, None, length, sym, refl, ap, ◌∙◌, subst, arith, inl, inr, eq-eqb}
use Rattle.std.specs.Prelude.{if◌then◌else◌, ◌&&◌, ◌==◌}
use Rattle.std.proofs.lemmas.Bool.{cases_eq}
use Rattle.armus_base.specs.declared.event.Event.{Event}
use Rattle.armus_base.specs.Plans.{Blocks, Plan, action_at}
use Rattle.armus_base.specs.States.{IsReached, State}
use Rattle.armus_base.specs.calls.Runs.{IsPrefix, Precedes}
use Rattle.armus_base.specs.Runs.{Place}
use Rattle.armus_base.specs.Places.{members_below, phases_after, published_after}
use Rattle.armus_base.specs.calls.Places.{phases_at_place}
use Rattle.armus_base.specs.CheckedPlans.{IsCheckedPlan}
use Rattle.armus_base.specs.calls.Boards.{IsLawful}
use Rattle.armus_base.specs.calls.Seats.{Found, IsAsFarOn, IsLongestPrefix, IsPlaceOf, await_word, is_not_behind, own_event, scanned_after}
use Rattle.armus_base.proofs.Published.{published_after_is}
use Rattle.armus_base.proofs.Places.{precedes_itself, precedes_trans}
use Rattle.armus_base.proofs.LawfulPlaces.{lawful_places_are_of}
use Rattle.armus_base.proofs.AllScannedIsReached.{all_scanned_is_reached}
use Rattle.armus_base.proofs.BoardRuns.{lawful_is_reachable}
use Rattle.board.specs.calls.Views.{avoids, seen}
use Rattle.board.specs.calls.Words.{found_in}
use Rattle.board.specs.calls.Steps.{IsSameSeat, WasSo}
use Rattle.board.specs.calls.Seats.{AnswersAwait, AnswersPhase, IsSeat, Known, event_of}
use Rattle.armus_base.proofs.MemberPhasers.{phaser_of_member}
use Rattle.armus_base.proofs.KeepsFar.{first_or_not}
use Rattle.board.proofs.Loaded.{event_stays}
use Rattle.phase_scan.specs.calls.Looks.{LoadsAlone, InEachLawful, ScansTo}

pub prefix_both : (a b c : Place) → IsPrefix a b → IsPrefix b c → IsPrefix a c
prefix_both a b c x y = precedes_trans a.done b.done c.done a.dropped b.dropped c.dropped x y

some_same : (u w : ℕ) → Some u ≡ Some w → u ≡ w
some_same u w e = cc

-- what is a prefix of a place of a task is one
prefix_place : (b : Bool) (plan : Plan) (t : ℕ) (a c : Place) → IsPlaceOf b plan t a → IsPrefix c a → IsPlaceOf b plan t c
prefix_place b plan t a c place before = by_parts c.dropped refl a.dropped refl before
  where
    by_parts : (o : Option ℕ) → c.dropped ≡ o → (r : Option ℕ) → a.dropped ≡ r → Precedes c.done o a.done r → IsPlaceOf b plan t c
    by_parts None e r f l = record {
      within = (let w = place.within in omega arith);
      unrefused = λ _. e;
      before_await = λ d g. absurd (cc);
      no_more = λ d g. absurd (cc);
    }
    by_parts (Some p) e None f l = absurd l
    by_parts (Some p) e (Some q) f l = record {
      within = (let w = place.within in let s = l.0 in omega arith);
      unrefused = λ detects. absurd (let u = place.unrefused detects in cc);
      before_await = λ d g. let at = place.before_await q f in (at.0, ap (action_at plan t) l.0 ∙ at.1);
      no_more = λ d g. let few = place.no_more q f in let s = l.0 in let m = l.1 in let is : p ≡ d = some_same p d (sym e ∙ g) in
          subst (λ k. d ≤ members_below (phases_after plan t k) (length plan.makers)) (sym s) (omega arith);
    }

-- the phaser on which a task is published is one of the plan
pub published_phaser : (plan : Plan) → IsCheckedPlan plan → (t k : ℕ) (e : Event) → published_after plan t k ≡ Some e → e.p.0 < length plan.makers
published_phaser plan checked t k e published =
    let is = published_after_is plan t k e published in
    let member = (checked.codes.well_formed t is.0 (Blocks is.2) is.4).0 in
    subst (λ p. p < length plan.makers) (sym is.3) (phaser_of_member plan checked t is.0 is.2.phaser member.0 member.1)

-- a seat that has published is that of a task
pub own_of_event : (k : Known) (e : Event) → event_of k ≡ Some e → (t : ℕ) × (k.view.own ≡ Some t)
own_of_event k e is = by_own k.view.own refl is
  where
    by_own : (o : Option ℕ) → k.view.own ≡ o → own_event k.view.plan o (seen k.view) ≡ Some e → (t : ℕ) × (k.view.own ≡ Some t)
    by_own None own h = absurd (cc)
    by_own (Some t) own h = (t, own)

published_here : (k : Known) (e : Event) (t : ℕ) → k.view.own ≡ Some t → event_of k ≡ Some e → published_after k.view.plan t ((seen k.view).places t).done ≡ Some e
published_here k e t own is = subst (λ o. own_event k.view.plan o (seen k.view) ≡ Some e) own is

pub event_phaser : (k : Known) (e : Event) → IsSeat k → event_of k ≡ Some e → e.p.0 < length k.view.plan.makers
event_phaser k e seat is =
    let t = own_of_event k e is in
    published_phaser k.view.plan seat.checked t.0 ((seen k.view).places t.0).done e (published_here k e t.0 t.1 is)

-- the longest place that all places with a meaning have in common, from one on, is at or after that one
pub longest_later :
    (b : Bool) (plan : Plan) → IsCheckedPlan plan → (t : ℕ) (Means : Place → Type 0) (before now : Place) (a : ℕ → Place) (lock : Option ℕ) →
    IsLawful b plan a lock → IsPrefix before (a t) → IsLongestPrefix b plan t Means before now → IsPrefix before now
longest_later b plan checked t Means before now a lock lawful earlier longest =
    longest.longest before (prefix_place b plan t (a t) before (lawful_places_are_of b plan a lock t checked lawful) earlier)
    (λ c place later means. later)

-- one load of a word of task t
pub record IsLoadOf (t : ℕ) (k m : Known) : Type 0 where
  pub goes : LoadsAlone k m
  pub others : (u : ℕ) → u ≢ t → (seen m.view).places u ≡ (seen k.view).places u
  pub one_load : m.view.loads ≡ k.view.loads + 1
  pub first : IsSeat k

-- what is a seat after a load was one before it
seat_before :
    (k m : Known) → IsSeat m → IsSameSeat k.view m.view → ((u : ℕ) → (seen m.view).exact u ≡ (seen k.view).exact u) →
    (seen k.view).scanned ≤ (seen m.view).scanned → IsSeat k
seat_before k m seat same exact scanned =
    record {
      live = sym same.spent ∙ seat.live;
      checked = subst IsCheckedPlan same.plan seat.checked;
      count = sym same.count ∙ seat.count ∙ ap (λ (q : Plan). length q.parents) same.plan;
      few = (let few = seat.few in let count = ap (λ (q : Plan). length q.parents) same.plan in omega arith);
      own = λ u e.
          let o = seat.own u (same.own ∙ e) in
          (subst (λ (q : Plan). u < length q.parents) same.plan o.0, sym (exact u) ∙ o.1);
      lock = λ has. ap avoids (sym same.mode) ∙ seat.lock (same.holds ∙ has);
    }

-- what each load leaves as it was
module _ (t : ℕ) (k m : Known) (small : t < length k.view.plan.parents) (Holds : State → Type 0) (table : m.table ≡ k.table) (same : IsSameSeat k.view m.view)
    (exact : (u : ℕ) → (seen m.view).exact u ≡ (seen k.view).exact u) (was : WasSo k.view.plan k.view.mode Holds k.view m.view)
    (scanned : (seen k.view).scanned ≤ (seen m.view).scanned) (loads : m.view.loads ≡ k.view.loads + 1) (kept : IsSeat m) where
  first : IsSeat k
  first = seat_before k m kept same exact scanned

  here_same : (others : (u : ℕ) → u ≢ t → (seen m.view).places u ≡ (seen k.view).places u) (u : ℕ) → (seen k.view).exact u ≡ true → (seen m.view).places u ≡ (seen k.view).places u
  here_same others u is = elim (cases_eq u t) [
    | inl e ↦
        let within : u < length k.view.plan.parents = omega arith in
        sym (was.now_far.equal u within (exact u ∙ is)) ∙ was.before_far.equal u within is
    | inr n ↦ others u n
  ]

  event_same : event_of m ≡ event_of k
  event_same = by_own k.view.own refl
    where
      by_own : (o : Option ℕ) → k.view.own ≡ o → event_of m ≡ event_of k
      by_own None own =
          ap (λ o. own_event m.view.plan o (seen m.view)) (same.own ∙ own) ∙ sym (ap (λ o. own_event k.view.plan o (seen k.view)) own)
      by_own (Some u) own = event_stays k.table m.table k.view m.view u k.view.mode Holds first own same exact was

  -- where all places but that of t stay, and that gets no shorter
  pub changes_load :
      ((u : ℕ) → u ≢ t → (seen m.view).places u ≡ (seen k.view).places u) → IsPrefix ((seen k.view).places t) ((seen m.view).places t) →
      IsLoadOf t k m
  changes_load others grows =
      record {
        goes = record {
          table = table;
          same = same;
          seen_now = record {
            later = λ u. elim (cases_eq u t) [
              | inl e ↦ subst (λ x. IsPrefix ((seen k.view).places x) ((seen m.view).places x)) (sym e) grows
              | inr n ↦
                  subst (IsPrefix ((seen k.view).places u)) (sym (others u n)) (precedes_itself ((seen k.view).places u).done ((seen k.view).places u).dropped)
            ];
            exact = exact;
            here = here_same others;
            scanned = scanned;
          };
          loads = (omega arith);
          event = event_same;
          kept = kept;
        };
        others = others;
        one_load = loads;
        first = first;
      }

-- a load of an await word
pub await_load :
    (k m : Known) (t : ℕ) (answer : Found) → t < length k.view.plan.parents → AnswersAwait t answer k m → IsLoadOf t k m
await_load k m t answer small answers =
    let load = answers.load in
    let scanned : (seen k.view).scanned ≤ (seen m.view).scanned = (let s = load.seen_now.scanned in omega arith) in
    let exact = load.seen_now.place.exact in
    let seat = seat_before k m answers.kept load.same exact scanned in
    changes_load t k m small (λ s. found_in s t ≡ answer) answers.table load.same exact load.was scanned load.loads answers.kept load.seen_now.place.others
    (longest_later (avoids k.view.mode) k.view.plan seat.checked t (λ b. await_word k.view.plan t b ≡ answer) ((seen k.view).places t) ((seen m.view).places t) load.was.places
    load.was.lock load.was.lawful
    (load.was.before_far.later t small) load.seen_now.place.here)

-- no scanned task is lost by a load of a phase word
more_after : (o : Option Event) (k t p : ℕ) (answer : Option ℕ) → k ≤ scanned_after o k t p answer
more_after None k t p answer = omega arith
more_after (Some e) k t p answer = by_test ((e.p.0 == p) && (t == k) && is_not_behind answer e)
  where
    by_test : (b : Bool) → k ≤ (if b then suc k else k)
    by_test true = omega arith
    by_test false = omega arith

-- a load of a phase word
pub phase_load :
    (k m : Known) (t p : ℕ) (answer : Option ℕ) → t < length k.view.plan.parents → AnswersPhase t p answer k m → IsLoadOf t k m
phase_load k m t p answer small answers =
    let load = answers.load in
    let scanned : (seen k.view).scanned ≤ (seen m.view).scanned =
    subst (λ n. (seen k.view).scanned ≤ n) (sym load.seen_now.scanned) (more_after (own_event k.view.plan k.view.own (seen k.view)) (seen k.view).scanned t p answer) in
    let exact = load.seen_now.exact in
    let seat = seat_before k m answers.kept load.same exact scanned in
    let make = changes_load t k m small (λ s. s.phases t p ≡ answer) answers.table load.same exact load.was scanned load.loads answers.kept in
    elim (first_or_not ((seen k.view).places t)) [
      | inl empty ↦
          make (λ u n. load.seen_now.empty empty u)
          (subst (IsPrefix ((seen k.view).places t)) (sym (load.seen_now.empty empty t)) (precedes_itself ((seen k.view).places t).done ((seen k.view).places t).dropped))
      | inr begun ↦
          make (load.seen_now.place begun).others
          (longest_later (avoids k.view.mode) k.view.plan seat.checked t (λ b. phases_at_place k.view.plan t b p ≡ answer) ((seen k.view).places t) ((seen m.view).places t)
          load.was.places load.was.lock load.was.lawful
          (load.was.before_far.later t small) (load.seen_now.place begun).here)
    ]

-- a seat that has made no load
pub goes_itself : (k : Known) → IsSeat k → LoadsAlone k k
goes_itself k seat =
    record {
      table = refl;
      same = record { plan = refl; mode = refl; own = refl; holds = refl; spent = refl; count = refl };
      seen_now = record {
        later = λ u. precedes_itself ((seen k.view).places u).done ((seen k.view).places u).dropped;
        exact = λ u. refl;
        here = λ u is. refl;
        scanned = omega arith;
      };
      loads = omega arith;
      event = refl;
      kept = seat;
    }

-- a seat goes on, and on
pub goes_both : (a k m : Known) → LoadsAlone a k → LoadsAlone k m → LoadsAlone a m
goes_both a k m goes more =
    let s = more.same in
    let first = goes.seen_now in
    let second = more.seen_now in
    record {
      table = more.table ∙ goes.table;
      same = record {
        plan = s.plan ∙ goes.same.plan;
        mode = s.mode ∙ goes.same.mode;
        own = s.own ∙ goes.same.own;
        holds = s.holds ∙ goes.same.holds;
        spent = s.spent ∙ goes.same.spent;
        count = s.count ∙ goes.same.count;
      };
      seen_now = record {
        later = λ u. prefix_both ((seen a.view).places u) ((seen k.view).places u) ((seen m.view).places u) (first.later u) (second.later u);
        exact = λ u. second.exact u ∙ first.exact u;
        here = λ u is. second.here u (first.exact u ∙ is) ∙ first.here u is;
        scanned = (let x = first.scanned in let y = second.scanned in omega arith);
      };
      loads = (let x = goes.loads in let y = more.loads in omega arith);
      event = more.event ∙ goes.event;
      kept = more.kept;
    }

pub goes_next :
    (a k m : Known) (t p : ℕ) (answer : Option ℕ) → LoadsAlone a k → t < length k.view.plan.parents → AnswersPhase t p answer k m → LoadsAlone a m
goes_next a k m t p answer goes small load = goes_both a k m goes (phase_load k m t p answer small load).goes

-- the load of the phase word of task t on phaser p, between others
pub record PhaseLoad (t p : ℕ) (answer : Option ℕ) (k m : Known) : Type 0 where
  pub from : Known
  pub to : Known
  pub goes_from : LoadsAlone k from
  pub load : AnswersPhase t p answer from to
  pub small : t < length from.view.plan.parents
  pub goes_to : LoadsAlone to m

module _ (t p : ℕ) (answer : Option ℕ) (k j m : Known) where
  -- it is the last one
  pub last_load : LoadsAlone k j → t < length j.view.plan.parents → AnswersPhase t p answer j m → PhaseLoad t p answer k m
  last_load goes small load = record { from = j; to = m; goes_from = goes; load = load; small = small; goes_to = goes_itself m load.kept }

  -- others come behind
  pub load_before : PhaseLoad t p answer k j → LoadsAlone j m → PhaseLoad t p answer k m
  load_before one more =
      record { from = one.from; to = one.to; goes_from = one.goes_from; load = one.load; small = one.small; goes_to = goes_both one.to j m one.goes_to more }

-- a load of the awaited phaser's word of the task that is scanned next
pub scans_on :
    (k m : Known) (e : Event) (t : ℕ) (answer : Option ℕ) → event_of k ≡ Some e → (seen k.view).scanned ≡ t → AnswersPhase t e.p.0 answer k m → is_not_behind answer e ≡ true →
    (seen m.view).scanned ≡ suc t
scans_on k m e t answer is at load not_behind =
    load.load.seen_now.scanned
    ∙ (λ i. scanned_after (is i) (at i) t e.p.0 answer)
    ∙ (λ i. if eq-eqb e.p.0 e.p.0 refl i && eq-eqb t t refl i && not_behind i then suc t else t)

pub scans_to : {e : Event} {t u : ℕ} {a k : Known} → ScansTo e t a k → t ≡ u → ScansTo e u a k
scans_to s same = record { count = s.count; up_to = s.up_to ∙ same; loads = s.loads }

-- one load more, of the word of the next task
pub scans_next :
    (e : Event) (t : ℕ) (a k m : Known) (answer : Option ℕ) → ScansTo e t a k → is_not_behind answer e ≡ true → AnswersPhase t e.p.0 answer k m →
    ScansTo e (t + 1) a m
scans_next e t a k m answer s not_behind load =
    record {
      count = suc s.count;
      up_to = (let at = s.up_to in omega arith);
      loads = (k, s.loads, answer, not_behind, subst (λ u. AnswersPhase u e.p.0 answer k m) (sym s.up_to) load);
    }

-- where all are scanned the event is reached, wherever the run goes
pub reached_all : (k : Known) (e : Event) → IsSeat k → event_of k ≡ Some e → (seen k.view).scanned ≡ length k.view.plan.parents → InEachLawful k (λ s. IsReached s e)
reached_all k e seat is all a lock lawful far =
    let t = own_of_event k e is in
    all_scanned_is_reached k.view.plan t.0 (seen k.view) a e seat.checked (lawful_is_reachable (avoids k.view.mode) k.view.plan a lock lawful)
    (subst (λ o. IsAsFarOn k.view.plan o a (seen k.view)) t.1 far) (published_here k e t.0 t.1 is) all
