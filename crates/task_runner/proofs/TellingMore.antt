-- Whom a pass names anew: they are dead at the end, and were not told before.
use Rattle.std.proofs.Common.{◌≡◌, ◌≢◌, ℕ, suc, ◌<◌, Bool, true, false, Option, Some, None, List, [], ◌∷◌, ◌++◌, map, sym, refl, ap, ◌∙◌, subst, arith, inl, inr, ◌↔◌, append-nil, append_assoc, Result, Ok, Err}
use Rattle.std.specs.Prelude.{All, AllPairs, Contains, cond, not}
use Rattle.std.specs.List.{filter}
use Rattle.std.specs.Io.KnownBytes.{Appends}
use Rattle.std.proofs.KnownBytes.{Appends-trans}
use Rattle.std.proofs.lemmas.Bool.{cases_Bool, false≢true}
use Rattle.std.proofs.lemmas.List.Concat.{flat_map-append}
use Rattle.std.proofs.lemmas.List.Elements.{Contains-append_cases, Contains-append_left, Contains-append_right}
use Rattle.std.proofs.lemmas.List.Kept.{AllPairs-cons, AllPairs-filter}
use Rattle.armus_base.specs.declared.ids.TaskId.{TaskId}
use Rattle.armus_base.specs.declared.status.Dead.{Dead}
use Rattle.armus_base.specs.declared.status.Status.{Status}
use Rattle.armus_base.specs.CheckedPlans.{IsCheckedPlan}
use Rattle.armus_base.specs.Causes.{counted}
use Rattle.armus_base.specs.ReadAll.{TookFront}
use Rattle.armus_base.specs.Plans.{Plan}
use Rattle.armus_base.specs.Places.{state_at}
use Rattle.armus_base.specs.Deadlocks.{IsDeadBy, IsDeadIn, IsListedOn}
use Rattle.armus_base.proofs.Elements.{Contains-cons_cases, Contains-head, Contains-tail, from_map, in_map, nothing_in_nil}
use Rattle.armus_base.proofs.Fronts.{front_after}
use Rattle.board.specs.declared.mode.Mode.{Mode}
use Rattle.board.specs.declared.mode.Mode.TheVariants.{Detect}
use Rattle.board.specs.calls.Views.{avoids, seen}
use Rattle.board.specs.calls.Seats.{Frame, IsOf, IsSeat, Known}
use Rattle.board.specs.calls.Steps.{IsSameSeat}
use Rattle.board.proofs.Closing.{some_task}
use Rattle.phase_scan.specs.calls.Collects.{IsCollect}
use Rattle.phase_scan.specs.calls.Looks.{LoadsAlone}
use Rattle.board_runs.proofs.Between.{all_from}
use Rattle.collector.specs.calls.Passes.{Watch}
use Rattle.task_runner.specs.inside.LiveReporters.{TellsMore, Telling, IsWatching}
use Rattle.task_runner.specs.declared.ran.RunEnd.{RunEnd}
use Rattle.task_runner.specs.declared.ran.RunEnd.TheVariants.{NoMemory, Write}
use Rattle.armus_base.specs.calls.Boards.{IsLawful}
use Rattle.armus_base.specs.calls.Seats.{IsAsFarOn}
use Rattle.collector.specs.declared.verdict.Verdict.{Verdict}
use Rattle.collector.specs.calls.Passes.{IsPassVerdict, NamesToo, was_named}
use Rattle.report.specs.Live.{live_line, live_text}
use Rattle.task_runner.specs.calls.DetectRuns.{AreDeadAtTheEnd, HasFailed, HasWritten, SinkValue}
use Rattle.task_runner.proofs.DeadAtEnd.{dead_at_lawful}
use Rattle.phase_scan.proofs.Possible.{Possible, collect_possible}

-- lists
each_of : {X : Type 0} (P : X → Type 0) (xs : List X) → All P xs → (x : X) → Contains xs x → P x
each_of P xs all x i = subst P i.2 (all i.0 x i.1)

map_more : {X Y : Type 0} (g : X → Y) (xs ys : List X) → map g (xs ++ ys) ≡ map g xs ++ map g ys
map_more g [] ys = refl
map_more g (x ∷ xs) ys = ap (λ zs. g x ∷ zs) (map_more g xs ys)

in_filter : {X : Type 0} (p : X → Bool) (xs : List X) (x : X) → Contains (filter p xs) x → Contains xs x × (p x ≡ true)
in_filter p [] x i = absurd (nothing_in_nil x i)
in_filter p (y ∷ xs) x i = elim (cases_Bool (p y)) [
  | inl so ↦ elim (Contains-cons_cases y (filter p xs) x (subst (λ b. Contains (cond b (y ∷ filter p xs) (filter p xs)) x) so i)) [
    | inl here ↦ (subst (λ z. Contains (y ∷ xs) z) here (Contains-head y xs), subst (λ z. p z ≡ true) here so)
    | inr there ↦ (let r = in_filter p xs x there in (Contains-tail y xs x r.0, r.1))
  ]
  | inr no_so ↦ (let r = in_filter p xs x (subst (λ b. Contains (cond b (y ∷ filter p xs) (filter p xs)) x) no_so i) in (Contains-tail y xs x r.0, r.1))
]

into_filter : {X : Type 0} (p : X → Bool) (xs : List X) (x : X) → Contains xs x → p x ≡ true → Contains (filter p xs) x
into_filter p [] x i so = absurd (nothing_in_nil x i)
into_filter p (y ∷ xs) x i so = elim (Contains-cons_cases y xs x i) [
  | inl here ↦
      (let yes_so : p y ≡ true = ap p here ∙ so in
      subst (λ b. Contains (cond b (y ∷ filter p xs) (filter p xs)) x) (sym yes_so) (subst (λ z. Contains (y ∷ filter p xs) z) here (Contains-head y (filter p xs))))
  | inr there ↦ by_test (p y) refl (into_filter p xs x there so)
]
  where
    by_test : (b : Bool) → p y ≡ b → Contains (filter p xs) x → Contains (cond (p y) (y ∷ filter p xs) (filter p xs)) x
    by_test true is r = subst (λ c. Contains (cond c (y ∷ filter p xs) (filter p xs)) x) (sym is) (Contains-tail y (filter p xs) x r)
    by_test false is r = subst (λ c. Contains (cond c (y ∷ filter p xs) (filter p xs)) x) (sym is) r

pairs_first : {X : Type 0} (R : X → X → Type 0) (x : X) (xs : List X) → AllPairs R (x ∷ xs) → All (R x) xs
pairs_first R x xs all k d l = all 0 (suc k) d (omega arith) (omega arith)

pairs_rest : {X : Type 0} (R : X → X → Type 0) (x : X) (xs : List X) → AllPairs R (x ∷ xs) → AllPairs R xs
pairs_rest R x xs all i j d l m = all (suc i) (suc j) d (omega arith) (omega arith)

none_paired : {X : Type 0} (R : X → X → Type 0) → AllPairs R []
none_paired R i j d l m = absurd (omega arith)

pub pairs_on : {X : Type 0} (R : X → X → Type 0) (xs ys : List X) → AllPairs R xs → AllPairs R ys → ((x y : X) → Contains xs x → Contains ys y → R x y) → AllPairs R (xs ++ ys)
pairs_on R [] ys p q between = q
pairs_on R (x ∷ xs) ys p q between =
    AllPairs-cons R x (xs ++ ys)
    (all_from (R x) (xs ++ ys) (λ y i. elim (Contains-append_cases xs ys y i) [
      | inl here ↦ each_of (R x) xs (pairs_first R x xs p) y here
      | inr there ↦ between x y (Contains-head x xs) there
    ]))
    (pairs_on R xs ys (pairs_rest R x xs p) q (λ a b i j. between a b (Contains-tail x xs a i) j))

abbrev task : Dead → TaskId
task d = d.t

tasks_apart : (ds : List Dead) → AllPairs (λ (t u : TaskId). t.0 < u.0) (map task ds) → AllPairs (λ (a b : Dead). a.t ≢ b.t) ds
tasks_apart [] p = none_paired (λ (a b : Dead). a.t ≢ b.t)
tasks_apart (d ∷ ds) p =
    AllPairs-cons (λ (a b : Dead). a.t ≢ b.t) d ds
    (all_from (λ (b : Dead). d.t ≢ b.t) ds
    (λ b i e.
    let l = each_of (λ (u : TaskId). d.t.0 < u.0) (map task ds) (pairs_first (λ (t u : TaskId). t.0 < u.0) d.t (map task ds) p) b.t (in_map task ds b i) in
    let same : d.t.0 ≡ b.t.0 = ap (λ (t : TaskId). t.0) e in
    omega arith))
    (tasks_apart ds (pairs_rest (λ (t u : TaskId). t.0 < u.0) d.t (map task ds) p))

-- what the fresh ones of a verdict are
module _ (names : List Bool) (list : List Status) (before now : Known) (v : Verdict) (verdict : IsPassVerdict names list before now v) where
  fresh_named : (d : Dead) → Contains v.fresh d → Contains v.dead d.t × (was_named names d.t.0 ≡ false)
  fresh_named d i =
      let r = in_filter (λ (t : TaskId). not (was_named names t.0)) v.dead d.t (subst (λ ts. Contains ts d.t) verdict.fresh (in_map task v.fresh d i)) in
      (r.0, un_not (was_named names d.t.0) r.1)
    where
      un_not : (b : Bool) → not b ≡ true → b ≡ false
      un_not true e = absurd (false≢true e)
      un_not false e = refl

  fresh_apart : AllPairs (λ (a b : Dead). a.t ≢ b.t) v.fresh
  fresh_apart =
      tasks_apart v.fresh
      (subst (AllPairs (λ (t u : TaskId). t.0 < u.0)) (sym verdict.fresh)
      (AllPairs-filter (λ (t u : TaskId). t.0 < u.0) (λ (t : TaskId). not (was_named names t.0)) v.dead verdict.dead.ascends))

  module _ (told : List Dead) (named : (t : TaskId) → was_named names t.0 ≡ true ↔ Contains (map task told) t) where
    all_apart : AllPairs (λ (a b : Dead). a.t ≢ b.t) told → AllPairs (λ (a b : Dead). a.t ≢ b.t) (told ++ v.fresh)
    all_apart p =
        pairs_on (λ (a b : Dead). a.t ≢ b.t) told v.fresh p fresh_apart
        (λ a b i j e. false≢true (sym (fresh_named b j).1 ∙ (named b.t).1 (subst (λ t. Contains (map task told) t) e (in_map task told a i))))

    -- with them, those are told whom the collector has named
    pub named_too : (names' : List Bool) → NamesToo v.dead names names' → (t : TaskId) → was_named names' t.0 ≡ true ↔ Contains (map task (told ++ v.fresh)) t
    named_too names' too t = (
      (λ is. subst (λ ts. Contains ts t) (sym (map_more task told v.fresh)) (elim ((too t).0 is) [
        | inl old ↦ Contains-append_left (map task told) (map task v.fresh) t ((named t).0 old)
        | inr new ↦ elim (cases_Bool (was_named names t.0)) [
          | inl old ↦ Contains-append_left (map task told) (map task v.fresh) t ((named t).0 old)
          | inr none ↦
              Contains-append_right (map task told) (map task v.fresh) t
              (subst (λ ts. Contains ts t) (sym verdict.fresh) (into_filter (λ (u : TaskId). not (was_named names u.0)) v.dead t new (ap not none)))
        ]
      ])),
      (λ i. elim (Contains-append_cases (map task told) (map task v.fresh) t (subst (λ ts. Contains ts t) (map_more task told v.fresh) i)) [
        | inl old ↦ (too t).1 (inl ((named t).1 old))
        | inr new ↦ (let d = from_map task v.fresh t new in (too t).1 (inr (subst (λ u. Contains v.dead u) d.2 (fresh_named d.0 d.1).0)))
      ]),
    )

    -- and all are dead at the end
    pub dead_too :
        (plan : Plan) → IsCheckedPlan plan → now.view.plan ≡ plan → now.view.mode ≡ Detect → now.view.own ≡ None → Possible now → AreDeadAtTheEnd plan told →
        AreDeadAtTheEnd plan (told ++ v.fresh)
    dead_too plan checked same detects viewer possible dead end is_end =
        let before = dead end is_end in
        record {
          once = all_apart before.once;
          dead = λ d i. elim (Contains-append_cases told v.fresh d i) [
            | inl old ↦ before.dead d old
            | inr new ↦ fresh_dead d new
          ];
        }
      where
        lawful : IsLawful false plan possible.places possible.lock
        lawful = subst (λ (m : Mode). IsLawful (avoids m) plan possible.places possible.lock) detects
            (subst (λ (q : Plan). IsLawful (avoids now.view.mode) q possible.places possible.lock) same possible.lawful)

        far : IsAsFarOn now.view.plan None possible.places (seen now.view)
        far = subst (λ o. IsAsFarOn now.view.plan o possible.places (seen now.view)) viewer possible.far

        fresh_dead : (d : Dead) → Contains v.fresh d → IsDeadBy end.blocked d.t.0 × IsListedOn end.blocked d.t.0 d.event
        fresh_dead d i =
            let is_dead = subst (λ (q : Plan). IsDeadIn (state_at q possible.places) d.t.0) same
            (verdict.only d.t (fresh_named d i).0 possible.places possible.lock possible.lawful far) in
            let on = ap (λ (q : Plan). (state_at q possible.places).published d.t.0) (sym same) ∙ verdict.events d i possible.places possible.lock possible.lawful far in
            dead_at_lawful plan checked possible.places possible.lock lawful d.t.0 d.event is_dead on end is_end

-- lines after lines
pub written_on : (xs ys : List Dead) (a b c : SinkValue) → HasWritten xs a b → HasWritten ys b c → HasWritten (xs ++ ys) a c
written_on xs ys a b c p q =
    record {
      lines = subst (λ text. Appends a.taken c.taken text) (sym (flat_map-append live_line xs ys))
          (Appends-trans a.taken b.taken c.taken (live_text xs) (live_text ys) p.lines q.lines);
      sound = q.sound ∙ p.sound;
    }

pub failed_on : (xs ys : List Dead) (a b c : SinkValue) → HasWritten xs a b → HasFailed ys b c → HasFailed (xs ++ ys) a c
failed_on xs ys a b c p q =
    record {
      front = subst (λ text. TookFront a.taken c.taken text) (sym (flat_map-append live_line xs ys))
          (front_after a.taken b.taken c.taken (live_text xs) (live_text ys) p.lines q.front);
      failed = q.failed ∙ ap counted p.sound;
    }

-- no line at all
pub none_written : (b n : SinkValue) → n ≡ b → HasWritten [] b n
none_written b n same = record { lines = subst (λ (t : SinkValue). Appends b.taken t.taken []) (sym same) (nothing b.taken); sound = ap (λ (t : SinkValue). t.faults) same }
  where
    nothing : (o : Option (List ℕ)) → Appends o o []
    nothing None = tt
    nothing (Some bytes) = sym (append-nil bytes)

-- a pass by a live_reporter that watches the board
pub watches_more :
    (f : Frame) (w : Telling) (now : Known) (collector : Watch) (list : List Status) (v : Verdict) (last : List TaskId) → f.mode ≡ Detect → IsWatching f w → LoadsAlone w.view now →
    IsCollect f.plan list w.view now →
    IsPassVerdict w.collector.names list w.view now v → NamesToo v.dead w.collector.names collector.names → collector.tasks ≡ w.collector.tasks →
    collector.phasers ≡ w.collector.phasers →
    IsWatching f (record { collector = collector; view = now; dead = w.dead ++ v.fresh; last = last })
watches_more f w now collector list v last detects watches goes collect verdict too tasks phasers =
    let checked = subst IsCheckedPlan watches.made.plan watches.kept.checked in
    record {
      made = record { table = goes.table ∙ watches.made.table; plan = goes.same.plan ∙ watches.made.plan; mode = goes.same.mode ∙ watches.made.mode };
      kept = goes.kept;
      viewer = goes.same.own ∙ watches.viewer;
      tasks = tasks ∙ watches.tasks;
      phasers = phasers ∙ watches.phasers;
      named = named_too w.collector.names list w.view now v verdict w.dead watches.named collector.names too;
      dead =
          dead_too w.collector.names list w.view now v verdict w.dead watches.named f.plan checked (goes.same.plan ∙ watches.made.plan)
          (goes.same.mode ∙ watches.made.mode ∙ detects)
          (goes.same.own ∙ watches.viewer) (collect_possible f.plan list w.view now (some_task f.plan checked) collect) watches.dead;
    }

-- the viewer has taken seats in
pub watches_taken :
    (f : Frame) (w : Telling) (now : Known) → IsWatching f w → IsOf now f → IsSameSeat w.view.view now.view → IsSeat now →
    IsWatching f (record { collector = w.collector; view = now; dead = w.dead; last = w.last })
watches_taken f w now watches made same kept =
    record { made = made; kept = kept; viewer = same.own ∙ watches.viewer; tasks = watches.tasks; phasers = watches.phasers; named = watches.named; dead = watches.dead }

-- what is told after what was told
pub told_on :
    {A : Type 0} (plan : Plan) (first second third : List Dead) (a b c : SinkValue) (fresh : List Dead) (r : Result A RunEnd) → second ≡ first ++ fresh → HasWritten fresh a b →
    TellsMore plan second third b c r → TellsMore plan first third a c r
told_on plan first second third a b c fresh (Ok x) e w p =
    (fresh ++ p.0, p.1 ∙ ap (λ ds. ds ++ p.0) e ∙ append_assoc first fresh p.0, written_on fresh p.0 a b c w p.2)
told_on plan first second third a b c fresh (Err Write) e w p =
    (fresh ++ p.0, subst (AreDeadAtTheEnd plan) (ap (λ ds. ds ++ p.0) e ∙ append_assoc first fresh p.0) p.1, failed_on fresh p.0 a b c w p.2)
told_on plan first second third a b c fresh (Err NoMemory) e w p =
    (fresh ++ p.0, subst (AreDeadAtTheEnd plan) (ap (λ ds. ds ++ p.0) e ∙ append_assoc first fresh p.0) p.1, written_on fresh p.0 a b c w p.2)
