-- What is noted of clocks and finishes is so in each run of the machine on the text: by the moves of its activities, and by the runs of the plan that stand for its runs.
use Rattle.std.proofs.Common.{◌≡◌, ◌∙◌, ◌<◌, ◌++◌, ◌||◌, ◌&&◌, ◌⊎◌, ℕ, suc, Bool, true, false, not, List, [], ◌∷◌, Option, Some, None, Ok, ap, arith, eq-eqb, if◌then◌else◌, inl, inr, length, refl, subst, sym}
use Rattle.std.specs.Prelude.{Contains, is_some}
use Rattle.std.specs.List.{list_any, slice_get}
use Rattle.std.specs.Option.{option_map}
use Rattle.std.proofs.lemmas.Bool.{false≢true}
use Rattle.std.proofs.lemmas.Option.{slice_get_within}
use Rattle.std.proofs.lemmas.List.Elements.{Contains-append_left, Contains-append_right}
use Rattle.std.proofs.Math.Bool.{or-true, true-or}
use Rattle.std.proofs.lemmas.List.Folds.{list_any-append}
use Rattle.armus_base.specs.declared.ids.TaskId.{TaskId}
use Rattle.armus_base.specs.declared.offset.Offset.TheVariants.{Here}
use Rattle.armus_base.specs.declared.op.Op.{Op}
use Rattle.armus_base.specs.declared.op.Op.TheVariants.{Adv, Await, Drop, Fork, Make, Reg}
use Rattle.armus_base.specs.CheckedPlans.{IsCheckedPlan}
use Rattle.armus_base.specs.Numbers.{phaser}
use Rattle.armus_base.specs.Plans.{IsMakerOf, Makes, Plan, action_at, actions, actions_of, code_of, maker_of, number_or_zero}
use Rattle.armus_base.specs.Runs.{state_after}
use Rattle.armus_base.proofs.Elements.{Contains-cons_cases, Contains-head}
use Rattle.armus_base.proofs.Fixed.{some_before_from}
use Rattle.clock_syntax.specs.Trees.{ClockTree, advance, plain}
use Rattle.clock_semantics.specs.Moves.{ActivityStanding, Move, advances, after_move, begins, code_from, opens, ops_of}
use Rattle.clock_semantics.specs.Unfolding.{ClockNames, ClockUnfolding, activities, clock_unfolded, plan_of_moves}
use Rattle.clock_semantics.specs.calls.ProgramPoints.{ProgramPoint}
use Rattle.clock_semantics.proofs.MoveCodes.{moves_at}
use Rattle.clock_laws.specs.calls.Direct.{ClockState}
use Rattle.clock_laws.specs.calls.Laws.{moves_of}
use Rattle.clock_laws.specs.TextMachine.{Activity, Continuation, Made, TextState, is_empty, is_there, over, reads}
use Rattle.clock_laws.specs.TextNumbers.{IsClockIn, IsFinishIn, made_in, number_in}
use Rattle.clock_laws.proofs.ClockRuns.{runs_match}
use Rattle.clock_laws.proofs.Corresponding.{Corresponds, Fits, Stands, reads_so, registered}
use Rattle.clock_laws.proofs.LawfulMoves.{kinds_now, plan_is_of_moves}
use Rattle.clock_laws.proofs.MadeKinds.{opened_there}
use Rattle.clock_laws.proofs.Makes.{Makes as MakesMoves, advances_on}
use Rattle.clock_laws.proofs.Numbers.{number_inside, one_name}
use Rattle.clock_laws.proofs.Tables.{empties, none_before}
use Rattle.clock_laws.proofs.TextRuns.{have_names, runs, same_moves}
use Rattle.clock_source_map.specs.ClockOrigins.{MadeThing, all_things}
use Rattle.explain_facts.specs.PhaserUses.{is_on_phaser, is_used_so, some_op, used_by}
use Rattle.explain_facts.specs.declared.uses.PhaserUse.{PhaserUse}
use Rattle.explain_facts.specs.declared.uses.PhaserUse.TheVariants.{Awaits, Registers}
use Rattle.explain_clock.specs.ClockNotes.{is_made_at, is_used_at, noted_by}
use Rattle.explain_clock.specs.declared.notes.ClockNote.TheVariants.{NeverWaits, NobodyAdvances, OnlyItsMaker}
use Rattle.explain_deadlock.proofs.MakersAlone.{only_makers_are_members}
use Rattle.report_laws.specs.NotesOnClocks.{FinishesNeverWait, NobodyAdvancesThere, OnlyMakersAreRegistered}

-- ---- what a note says of the plan

not_advanced : (clocks awaited registered : Bool) → noted_by clocks awaited registered ≡ Some NobodyAdvances → awaited ≡ false
not_advanced true true true e = absurd (cc)
not_advanced true true false e = absurd (cc)
not_advanced true false registered e = refl
not_advanced false awaited true e = absurd (cc)
not_advanced false awaited false e = absurd (cc)

not_registered : (clocks awaited registered : Bool) → noted_by clocks awaited registered ≡ Some OnlyItsMaker → registered ≡ false
not_registered true true true e = absurd (cc)
not_registered true true false e = refl
not_registered true false registered e = absurd (cc)
not_registered false awaited true e = absurd (cc)
not_registered false awaited false e = absurd (cc)

not_governing : (clocks awaited registered : Bool) → noted_by clocks awaited registered ≡ Some NeverWaits → registered ≡ false
not_governing true true true e = absurd (cc)
not_governing true true false e = absurd (cc)
not_governing true false registered e = absurd (cc)
not_governing false awaited true e = absurd (cc)
not_governing false awaited false e = refl

-- what is not used at the statement that makes q, is not so used of q
not_used : (use_so : PhaserUse) (things : List MadeThing) (plan : Plan) (q : ℕ) (thing : MadeThing) → slice_get things q ≡ Some thing → q < length plan.makers →
    is_used_at use_so things plan thing.statement ≡ false → is_used_so use_so plan q ≡ false
not_used use_so things plan q thing there within none = by (is_used_so use_so plan q) refl
  where
    by : (b : Bool) → is_used_so use_so plan q ≡ b → b ≡ false
    by false is = refl
    by true is =
        let made : is_made_at thing.statement (slice_get things q) ≡ true = ap (is_made_at thing.statement) there ∙ eq-eqb thing.statement thing.statement refl in
        let both : (is_made_at thing.statement (slice_get things q) && is_used_so use_so plan q) ≡ true = ap (λ b. b && is_used_so use_so plan q) made ∙ is in
        let used : is_used_at use_so things plan thing.statement ≡ true =
        some_before_from (λ p. is_made_at thing.statement (slice_get things p) && is_used_so use_so plan p) (length plan.makers) q within both in
        absurd (false≢true (sym none ∙ used))

-- ---- the ops of a move

any_left : (test : Op → Bool) (xs ys : List Op) → list_any test xs ≡ true → list_any test (xs ++ ys) ≡ true
any_left test xs ys e = list_any-append test xs ys ∙ ap (λ b. b || list_any test ys) e ∙ true-or (list_any test ys)

any_right : (test : Op → Bool) (xs ys : List Op) → list_any test ys ≡ true → list_any test (xs ++ ys) ≡ true
any_right test xs ys e = list_any-append test xs ys ∙ ap (λ b. list_any test xs || b) e ∙ or-true (list_any test xs)

-- an advance of p awaits it
awaits_own : (s : ActivityStanding) (p : ℕ) → some_op Awaits (ops_of s (advances p)) p ≡ true
awaits_own s p = any_right (λ op. is_on_phaser p (used_by Awaits op)) (if s.pending p then [] else Adv (phaser p) ∷ []) (Await (phaser p) Here ∷ [])
    (ap (λ b. b || false) (eq-eqb p p refl))

awaits_in : (s : ActivityStanding) (ms : List Move) (p : ℕ) → Contains ms (advances p) → some_op Awaits (code_from s ms) p ≡ true
awaits_in s [] p has = absurd (let l = has.1 in omega arith)
awaits_in s (m ∷ ms) p has =
    elim (Contains-cons_cases m ms (advances p) has) [
      | inl same ↦ any_left (λ op. is_on_phaser p (used_by Awaits op)) (ops_of s m) (code_from (after_move m s) ms)
          (subst (λ v. some_op Awaits (ops_of s v) p ≡ true) (sym same) (awaits_own s p))
      | inr later ↦ any_right (λ op. is_on_phaser p (used_by Awaits op)) (ops_of s m) (code_from (after_move m s) ms) (awaits_in (after_move m s) ms p later)
    ]

-- a move that makes p has the op that does
makes_in : (s : ActivityStanding) (ms : List Move) (move : Move) (p : ℕ) → ((v : ActivityStanding) → Contains (ops_of v move) (Make (phaser p))) → Contains ms move →
    Contains (code_from s ms) (Make (phaser p))
makes_in s [] move p so has = absurd (let l = has.1 in omega arith)
makes_in s (m ∷ ms) move p so has =
    elim (Contains-cons_cases m ms move has) [
      | inl same ↦ Contains-append_left (ops_of s m) (code_from (after_move m s) ms) (Make (phaser p))
          (subst (λ v. Contains (ops_of s v) (Make (phaser p))) (sym same) (so s))
      | inr later ↦ Contains-append_right (ops_of s m) (code_from (after_move m s) ms) (Make (phaser p)) (makes_in (after_move m s) ms move p so later)
    ]

-- and so the action
action_made : (ops : List Op) (p : ℕ) → Contains ops (Make (phaser p)) → (k : ℕ) × (slice_get (actions_of ops) k ≡ Some (Makes p))
action_made [] p has = absurd (let l = has.1 in omega arith)
action_made (op ∷ ops) p has = elim (Contains-cons_cases op ops (Make (phaser p)) has) [
  | inl same ↦ (0, ap (λ o. slice_get (actions_of (o ∷ ops)) 0) same)
  | inr later ↦ (let (k, is) = action_made ops p later in behind op k is)
]
  where
    behind : (op : Op) (k : ℕ) → slice_get (actions_of ops) k ≡ Some (Makes p) → (k : ℕ) × (slice_get (actions_of (op ∷ ops)) k ≡ Some (Makes p))
    behind (Make q) k is = (suc k, is)
    behind (Reg d q) k is = (suc k, is)
    behind (Fork d) k is = (suc k, is)
    behind (Adv q) k is = (suc k, is)
    behind (Drop q) k is = (suc k, is)
    behind (Await q off) k is = (suc (suc k), is)

one_maker : (plan : Plan) (t v q : ℕ) → IsMakerOf plan t q → IsMakerOf plan v q → t ≡ v
one_maker plan t v q (w, is, number) (x, is', number') =
    let both : ◌≡◌ {A = Option TaskId} (Some w) (Some x) = sym is ∙ is' in
    let same : w ≡ x = cc in
    sym number ∙ ap (λ (y : TaskId). y.0) same ∙ number'

maker_is : (plan : Plan) (t q : ℕ) → IsMakerOf plan t q → maker_of plan q ≡ t
unfolding maker_of
maker_is plan t q (w, is, number) = ap (λ o. number_or_zero (option_map (λ x. Some x) o)) is ∙ number

-- ---- an activity at an advance

-- where an activity stands at an advance of a name, its next move is that
next_advances : (u : ClockUnfolding) (x : List ℕ) (more : ClockTree) (rest : Continuation) (point : ProgramPoint) (names : ClockNames) (standing : ActivityStanding)
    (left : List Move) → Fits u point (reads (plain (advance x) more) rest) → MakesMoves u point names standing left →
    (p : ℕ) × (ms : List Move) × (left ≡ advances p ∷ ms) × (names x ≡ Some p)
next_advances u x more rest point names standing left (reads_so fits) (advances_on {ms = ms} p named on makes) = (p, ms, refl, named)

module _ (p : ClockTree) (u : ClockUnfolding) (e : clock_unfolded p ≡ Ok u) where
  abbrev plan : Plan
  plan = plan_of_moves u

  checked : IsCheckedPlan plan
  checked = (plan_is_of_moves p u e).checked

  has_advance : (t q : ℕ) → t < activities u → Contains (moves_of u t) (advances q) → is_used_so Awaits plan q ≡ true
  has_advance t q inside has =
      some_before_from (λ v. some_op Awaits (code_of plan v) q) (length plan.parents) t inside
      (subst (λ ops. some_op Awaits ops q ≡ true) (sym ((plan_is_of_moves p u e).codes t)) (awaits_in ((kinds_now p u e).first t) (moves_of u t) q has))

  made_by_maker : (t q : ℕ) (move : Move) → ((v : ActivityStanding) → Contains (ops_of v move) (Make (phaser q))) → Contains (moves_of u t) move → IsMakerOf plan t q
  unfolding action_at actions
  made_by_maker t q move so has =
      let op : Contains (code_of plan t) (Make (phaser q)) =
      subst (λ ops. Contains ops (Make (phaser q))) (sym ((plan_is_of_moves p u e).codes t)) (makes_in ((kinds_now p u e).first t) (moves_of u t) move q so has) in
      let (k, is) = action_made (code_of plan t) q op in
      (checked.codes.well_formed t k (Makes q) is).0

  within : (t q : ℕ) → IsMakerOf plan t q → q < length plan.makers
  within t q (w, is, number) = slice_get_within plan.makers q w is

  clock_maker : (c : Made) → IsClockIn u c → IsMakerOf plan (number_in u c.maker) (made_in u c)
  clock_maker c is =
      made_by_maker (number_in u c.maker) (made_in u c) (opens (made_in u c)) (λ v. Contains-head (Make (phaser (made_in u c))) [])
      (subst (λ ms. Contains ms (opens (made_in u c))) (sym (same_moves u (number_in u c.maker))) is.1)

  finish_maker : (f : Made) → IsFinishIn u f → IsMakerOf plan (number_in u f.maker) (made_in u f)
  finish_maker f is =
      made_by_maker (number_in u f.maker) (made_in u f) (begins (made_in u f)) (λ v. Contains-head (Make (phaser (made_in u f))) [])
      (subst (λ ms. Contains ms (begins (made_in u f))) (sym (same_moves u (number_in u f.maker))) is.1)

pub only_makers_are_registered : OnlyMakersAreRegistered
only_makers_are_registered p u steps s a c e run (thing, told, noted) is on =
    let r = runs p u e steps s run in
    let here = r.both.holds.inside a (r.both.holds.enrolled_in c a on) in
    let q = made_in u c in
    let t = number_in u a in
    let (h, matched) = runs_match p u r.ts r.m e r.run in
    let enrolled : r.m.enrolled q t ≡ true = sym (r.both.tells.enrolled c a is.0 here) ∙ on in
    let number : (x : ℕ) × Contains (moves_of u x) (opens q) =
    (number_in u c.maker, subst (λ ms. Contains ms (opens q)) (sym (same_moves u (number_in u c.maker))) is.1) in
    let some : is_some ((state_after h).phases t q) ≡ true = sym (matched.clocks q t number).registered ∙ enrolled in
    let maker = clock_maker p u e c is in
    let unused = not_used Registers (all_things u) (plan_of_moves u) q thing told (within p u e (number_in u c.maker) q maker)
    (not_registered (is_some thing.name) _ _ noted) in
    let member = member_of ((state_after h).phases t q) some in
    let own : IsMakerOf (plan_of_moves u) t q = only_makers_are_members (plan_of_moves u) h q t (checked p u e) matched.run.0 unused member in
    one_name p u e a c.maker here is.0.0 (one_maker (plan_of_moves u) t (number_in u c.maker) q own maker)
  where
    member_of : (o : Option ℕ) → is_some o ≡ true → (n : ℕ) × (o ≡ Some n)
    member_of None e = absurd (false≢true e)
    member_of (Some n) e = (n, refl)

pub finishes_never_wait : FinishesNeverWait
finishes_never_wait p u steps s f e run (thing, told, noted) is =
    let r = runs p u e steps s run in
    let q = made_in u f in
    let (h, matched) = runs_match p u r.ts r.m e r.run in
    let number : (x : ℕ) × Contains (moves_of u x) (begins q) =
    (number_in u f.maker, subst (λ ms. Contains ms (begins q)) (sym (same_moves u (number_in u f.maker))) is.1) in
    let maker = finish_maker p u e f is in
    let unused = not_used Registers (all_things u) (plan_of_moves u) q thing told (within p u e (number_in u f.maker) q maker)
    (not_governing (is_some thing.name) _ _ noted) in
    let nobody : (t : ℕ) → t < activities u → r.m.open_set q t ≡ false =
    λ t inside. none_open (r.m.open_set q t) (λ held.
    let waited = (matched.finishes q t number).waited_for held in
    let member = member_of ((state_after h).phases t q) waited.0 in
    waited.1 (sym (maker_is (plan_of_moves u) t q (only_makers_are_members (plan_of_moves u) h q t (checked p u e) matched.run.0 unused member)))) in
    let none = none_before (r.m.open_set q) (activities u) nobody in
    emptied (is_empty (s.open_set f))
    (sym (empties u (have_names p u e) (s.open_set f) (r.m.open_set q) (λ b o. r.both.holds.inside b (r.both.holds.open_in f b o)) (λ b y. r.both.tells.open_set f b is.0 y))
    ∙ none)
  where
    member_of : (o : Option ℕ) → is_some o ≡ true → (n : ℕ) × (o ≡ Some n)
    member_of None e = absurd (false≢true e)
    member_of (Some n) e = (n, refl)

    none_open : (b : Bool) → (b ≡ true → ⊥) → b ≡ false
    none_open true none = absurd (none refl)
    none_open false none = refl

    emptied : (b : Bool) → not b ≡ false → b ≡ true
    emptied true e = refl
    emptied false e = absurd (false≢true (sym e))

module _ (p : ClockTree) (u : ClockUnfolding) (e : clock_unfolded p ≡ Ok u) (s : TextState) (m : ClockState) (h : Corresponds u s m) (a : Activity) (there : is_there s a ≡ true) where
  -- where an activity stands at an advance of a clock, the plan has an op that awaits the clock
  stands_there : (x : List ℕ) (more : ClockTree) (rest : Continuation) (c : Made) → (s.acting a).rest ≡ reads (plain (advance x) more) rest →
      (s.acting a).names x ≡ Some c → Stands u (s.acting a) (s.acting a).rest (m.left (number_in u a)) (registered u s a) →
      IsClockIn u c × is_used_so Awaits (plan_of_moves u) (made_in u c) ≡ true
  stands_there x more rest c rest_is named st =
      let t = number_in u a in
      let q = made_in u c in
      let done = (h.acts a there).done in
      let (k, ms, left, name) = next_advances u x more rest st.point st.names st.standing (m.left t) (subst (Fits u st.point) rest_is st.fits) st.makes in
      let number : ◌≡◌ {A = Option ℕ} (Some k) (Some q) = sym name ∙ st.knows.named x ∙ ap (option_map (made_in u)) named in
      let same : k ≡ q = cc in
      let fine = st.knows.clocks x c named in
      let split : moves_at u t ≡ done ++ (advances q ∷ ms) = (h.acts a there).split ∙ ap (λ z. done ++ z) (left ∙ ap (λ n. advances n ∷ ms) same) in
      let has : Contains (moves_of u t) (advances q) =
      subst (λ zs. Contains zs (advances q)) (sym (same_moves u t ∙ split)) (Contains-append_right done (advances q ∷ ms) (advances q) (Contains-head (advances q) ms)) in (
        (fine.0, opened_there (moves_at u (number_in u c.maker)) c.before fine.0.1 fine.1),
        has_advance p u e t q (number_inside p u e a (h.holds.inside a there)) has,
      )

  advances_there : (x : List ℕ) (more : ClockTree) (rest : Continuation) (c : Made) → (s.acting a).rest ≡ reads (plain (advance x) more) rest →
      (s.acting a).names x ≡ Some c → ((s.acting a).rest ≡ over) × (m.left (number_in u a) ≡ []) ⊎ Stands u (s.acting a) (s.acting a).rest (m.left (number_in u a)) (registered u s a) →
      IsClockIn u c × is_used_so Awaits (plan_of_moves u) (made_in u c) ≡ true
  advances_there x more rest c rest_is named (inl ended) = absurd (let both = sym ended.0 ∙ rest_is in cc)
  advances_there x more rest c rest_is named (inr st) = stands_there x more rest c rest_is named st

pub nobody_advances_there : NobodyAdvancesThere
nobody_advances_there p u steps s a x more rest c e run (thing, told, noted) there rest_is named =
    let r = runs p u e steps s run in
    let (own, used) = advances_there p u e s r.m r.both a there x more rest c rest_is named (r.both.acts a there).stands in
    let maker = clock_maker p u e c own in
    let unused = not_used Awaits (all_things u) (plan_of_moves u) (made_in u c) thing told (within p u e (number_in u c.maker) (made_in u c) maker)
    (not_advanced (is_some thing.name) _ _ noted) in
    false≢true (sym unused ∙ used)
