-- The visits that frames have left, when the innermost one goes on.
use Rattle.std.proofs.Common.{◌≡◌, ℕ, zero, suc, ◌+◌, ◌-◌, ◌<◌, ◌≤◌, ◌^◌, Bool, true, false, List, [], ◌∷◌, ◌++◌, length, Option, Some, None, inl, inr, append_assoc, arith, sym, ◌∙◌, ap, subst, refl}
use Rattle.std.specs.Prelude.{◌==◌, nat_lt, if◌then◌else◌}
use Rattle.std.proofs.lemmas.Bool.{cases_lt, eq-eqb, false≢true, lt-ltb, ltb-true}
use Rattle.std.proofs.lemmas.Bool.Decides.{eqb_tells}
use Rattle.std.proofs.lemmas.List.{length-append}
use Rattle.armus_base.specs.Pieces.{times}
use Rattle.pl_syntax.specs.Tree.{Plain, Tree, done, plain, fork, loop, count, new_task, new_phaser, reg, dereg, adv, await, skip}
use Rattle.pl_plan.specs.Unfolding.{Visit, a_fork, a_loop, a_plain, a_turn, visit, visits_of}
use Rattle.pl_plan.specs.declared.step.FlatStep.{FlatStep}
use Rattle.pl_plan.specs.declared.step.FlatStep.TheVariants as a_step
use Rattle.pl_plan.specs.inside.Steps.{IsSpelled, IsStep, step_at}
use Rattle.pl_plan.proofs.Spelled.{spelled_count}
use Rattle.explain_check.specs.declared.frames.OpenBody.{OpenBody}
use Rattle.explain_check.specs.declared.frames.Item.{Item}
use Rattle.explain_check.specs.inside.Framed.{Comes, FrameIs, FramesAre, an_item, frames_after, frames_at, next_item, to_adv, to_await, to_dereg, to_fork, to_loop, to_new_phaser, to_new_task, to_reg, to_skip, to_turn}

nil_right : {X : Type 0} (xs : List X) → xs ++ [] ≡ xs
nil_right [] = refl
nil_right (x ∷ xs) = ap (λ z. x ∷ z) (nil_right xs)

some_is : {a b : Item} → ◌≡◌ {A = Option Item} (Some a) (Some b) → a ≡ b
some_is e = cc

none_is : (a : Item) → ◌≡◌ {A = Option Item} None (Some a) → ⊥
none_is a e = absurd cc

not_less : (a b : ℕ) → nat_lt a b ≡ false → b ≤ a
not_less a b ge = elim (cases_lt a b) [
  | inl l ↦ absurd (let e = sym ge ∙ lt-ltb a b l in false≢true e)
  | inr l ↦ l
]

some_left : {i : ℕ} (left : ℕ) → i ≡ suc left → (i == 0) ≡ false
some_left {i} left e = elim (eqb_tells i 0) [
  | inl y ↦ absurd (let z = y.1 in omega (arith, e, z))
  | inr n ↦ n.0
]

module _ (n : ℕ) (names : ℕ → List ℕ) (steps : List FlatStep) where
  -- ---- the innermost frame

  pub frames_push : (fs : List OpenBody) (f : OpenBody) (own ms : List Visit) → FrameIs n names steps f own → FramesAre n names steps fs ms → FramesAre n names steps (fs ++ f ∷ []) (own ++ ms)
  frames_push [] f own ms is none = ([], own, is, refl, ap (λ z. own ++ z) none ∙ nil_right own)
  frames_push (g ∷ fs) f own ms is are = (
    own ++ are.0,
    are.1,
    are.2,
    frames_push fs f own are.0 is are.3,
    ap (λ z. own ++ z) are.4 ∙ sym (append_assoc own are.0 are.1),
  )

  pub record Popped (fs : List OpenBody) (f : OpenBody) (ms : List Visit) : Type 0 where
    pub own : List Visit
    pub rest : List Visit
    pub is : FrameIs n names steps f own
    pub are : FramesAre n names steps fs rest
    pub visits_are : ms ≡ own ++ rest

  pub frames_pop : (fs : List OpenBody) (f : OpenBody) (ms : List Visit) → FramesAre n names steps (fs ++ f ∷ []) ms → Popped fs f ms
  frames_pop [] f ms are =
      record {
        own = are.1;
        rest = [];
        is = are.2;
        are = refl;
        visits_are = are.4 ∙ ap (λ z. z ++ are.1) are.3 ∙ sym (nil_right are.1);
      }
  frames_pop (g ∷ fs) f ms are =
      let p = frames_pop fs f are.0 are.3 in
      record {
        own = p.own;
        rest = p.rest ++ are.1;
        is = p.is;
        are = (p.rest, are.1, are.2, p.are, refl);
        visits_are = are.4 ∙ ap (λ z. z ++ are.1) p.visits_are ∙ append_assoc p.own p.rest are.1;
      }

  -- ---- it goes on

  -- it came to this visit, and has these left
  pub record WentOn (f : OpenBody) (ms : List Visit) (item : Item) (fs new : List OpenBody) : Type 0 where
    pub visit_is : Visit
    pub comes_to : Comes n names steps item visit_is
    pub left : List Visit
    pub visits_are : ms ≡ visit_is ∷ left
    pub within : item.at < length steps
    pub frames_are : (rest : List Visit) → FramesAre n names steps fs rest → FramesAre n names steps new (left ++ rest)

  abbrev turns_of : OpenBody → Tree → List Visit
  turns_of f body = times f.left (visit (f.of_loop + 1) a_turn ∷ visits_of (f.of_loop + 1 + 1) body)

  -- the frame stands behind a statement
  behind : (f : OpenBody) (own : List Visit) (is : FrameIs n names steps f own) (at : ℕ) (rest : Tree) → IsSpelled n names steps at rest f.to →
      FrameIs n names steps (record f { at = at }) (visits_of (at + 1) rest ++ turns_of f is.body)
  behind f own is at rest there = record {
    rest = rest;
    rest_there = there;
    body = is.body;
    body_there = is.body_there;
    within = is.within;
    small = is.small;
    visits_are = refl;
  }

  plain_comes : (at : ℕ) (step : FlatStep) (c : Plain) → IsStep n names step c → Comes n names steps (an_item at false step) (visit (at + 1) (a_plain c))
  plain_comes at step (new_task x) h =
      subst (λ z. Comes n names steps (an_item at false z) (visit (at + 1) (a_plain (new_task x)))) (sym h.1)
      (subst (λ y. Comes n names steps (an_item at false (a_step.NewTask h.0)) (visit (at + 1) (a_plain (new_task y)))) h.2.1 (to_new_task h.0 h.2.0))
  plain_comes at step (new_phaser x) h =
      subst (λ z. Comes n names steps (an_item at false z) (visit (at + 1) (a_plain (new_phaser x)))) (sym h.1)
      (subst (λ y. Comes n names steps (an_item at false (a_step.NewPhaser h.0)) (visit (at + 1) (a_plain (new_phaser y)))) h.2.1 (to_new_phaser h.0 h.2.0))
  plain_comes at step (reg x y) h =
      subst (λ z. Comes n names steps (an_item at false z) (visit (at + 1) (a_plain (reg x y)))) (sym h.2)
      (subst (λ v. Comes n names steps (an_item at false (a_step.Reg h.0 h.1)) (visit (at + 1) (a_plain (reg v y)))) h.3.1
      (subst (λ v. Comes n names steps (an_item at false (a_step.Reg h.0 h.1)) (visit (at + 1) (a_plain (reg (names h.0.0) v)))) h.4.1
      (to_reg h.0 h.1 h.3.0 h.4.0)))
  plain_comes at step (dereg x) h =
      subst (λ z. Comes n names steps (an_item at false z) (visit (at + 1) (a_plain (dereg x)))) (sym h.1)
      (subst (λ y. Comes n names steps (an_item at false (a_step.Dereg h.0)) (visit (at + 1) (a_plain (dereg y)))) h.2.1 (to_dereg h.0 h.2.0))
  plain_comes at step (adv x) h =
      subst (λ z. Comes n names steps (an_item at false z) (visit (at + 1) (a_plain (adv x)))) (sym h.1)
      (subst (λ y. Comes n names steps (an_item at false (a_step.Adv h.0)) (visit (at + 1) (a_plain (adv y)))) h.2.1 (to_adv h.0 h.2.0))
  plain_comes at step (await x off) h =
      subst (λ z. Comes n names steps (an_item at false z) (visit (at + 1) (a_plain (await x off)))) (sym h.1)
      (subst (λ y. Comes n names steps (an_item at false (a_step.Await h.0 off)) (visit (at + 1) (a_plain (await y off)))) h.2.1 (to_await h.0 off h.2.0 h.3))
  plain_comes at step skip h = subst (λ z. Comes n names steps (an_item at false z) (visit (at + 1) (a_plain skip))) (sym h) to_skip

  plain_frames : (f : OpenBody) (step : FlatStep) (c : Plain) (fs : List OpenBody) → IsStep n names step c → frames_at f step fs ≡ fs ++ record f { at = f.at + 1 } ∷ []
  plain_frames f step (new_task x) fs h = ap (λ z. frames_at f z fs) h.1
  plain_frames f step (new_phaser x) fs h = ap (λ z. frames_at f z fs) h.1
  plain_frames f step (reg x y) fs h = ap (λ z. frames_at f z fs) h.2
  plain_frames f step (dereg x) fs h = ap (λ z. frames_at f z fs) h.1
  plain_frames f step (adv x) fs h = ap (λ z. frames_at f z fs) h.1
  plain_frames f step (await x off) fs h = ap (λ z. frames_at f z fs) h.1
  plain_frames f step skip fs h = ap (λ z. frames_at f z fs) h

  pub statement_on : (f : OpenBody) (ms : List Visit) (fs : List OpenBody) → length steps < 2 ^ 32 → f.at < f.to → FrameIs n names steps f ms →
      WentOn f ms (an_item f.at false (step_at steps f.at)) fs (frames_at f (step_at steps f.at) fs)
  statement_on f ms fs few lt is = by is.rest is.rest_there is.visits_are
    where
      by : (tree : Tree) → IsSpelled n names steps f.at tree f.to → ms ≡ visits_of (f.at + 1) tree ++ turns_of f is.body →
          WentOn f ms (an_item f.at false (step_at steps f.at)) fs (frames_at f (step_at steps f.at) fs)
      by done e visits = absurd (omega (arith, lt, e))
      by (plain c rest) e visits =
          record {
            visit_is = visit (f.at + 1) (a_plain c);
            comes_to = plain_comes f.at (step_at steps f.at) c e.0;
            left = visits_of (f.at + 1 + 1) rest ++ turns_of f is.body;
            visits_are = visits;
            within = omega (arith, lt, is.within);
            frames_are = λ others are.
                subst (λ z. FramesAre n names steps z ((visits_of (f.at + 1 + 1) rest ++ turns_of f is.body) ++ others)) (sym (plain_frames f (step_at steps f.at) c fs e.0))
                (frames_push fs (record f { at = f.at + 1 }) (visits_of (f.at + 1 + 1) rest ++ turns_of f is.body) others (behind f ms is (f.at + 1) rest e.1) are);
          }
      by (fork x body rest) e visits =
          let ends = spelled_count n names steps (f.at + 1) body e.1 e.4 in
          let after = spelled_count n names steps e.1 rest f.to e.5 in
          let number : f.at + 1 + 1 + count body ≡ e.1 + 1 = omega (arith, ends) in
          let own : List Visit = visits_of (e.1 + 1) rest ++ turns_of f is.body in
          record {
            visit_is = visit (f.at + 1) (a_fork x body);
            comes_to =
                subst (λ z. Comes n names steps (an_item f.at false z) (visit (f.at + 1) (a_fork x body))) (sym e.2)
                (subst (λ y. Comes n names steps (an_item f.at false (a_step.Fork e.0 e.1)) (visit (f.at + 1) (a_fork y body))) e.3.1
                (to_fork e.0 e.1 body e.3.0 (omega (arith, after, is.within)) e.4));
            left = own;
            visits_are = visits ∙ ap (λ z. visit (f.at + 1) (a_fork x body) ∷ (visits_of z rest ++ turns_of f is.body)) number;
            within = omega (arith, lt, is.within);
            frames_are = λ others are.
                subst (λ z. FramesAre n names steps (frames_at f z fs) (own ++ others)) (sym e.2)
                (frames_push fs (record f { at = e.1 }) own others (behind f ms is e.1 rest e.5) are);
          }
      by (loop i body rest) e visits =
          let ends = spelled_count n names steps (f.at + 1) body e.0 e.3 in
          let after = spelled_count n names steps e.0 rest f.to e.4 in
          let number : f.at + 1 + 1 + count body ≡ e.0 + 1 = omega (arith, ends) in
          let turns : List Visit = times i (visit (f.at + 1) a_turn ∷ visits_of (f.at + 1 + 1) body) in
          let own : List Visit = visits_of (e.0 + 1) rest ++ turns_of f is.body in
          record {
            visit_is = visit (f.at + 1) a_loop;
            comes_to =
                subst (λ z. Comes n names steps (an_item f.at false z) (visit (f.at + 1) a_loop)) (sym e.1) (to_loop i e.0 _);
            left = turns ++ own;
            visits_are =
                visits ∙ ap (λ z. visit (f.at + 1) a_loop ∷ ((turns ++ visits_of z rest) ++ turns_of f is.body)) number
                ∙ ap (λ z. visit (f.at + 1) a_loop ∷ z) (append_assoc turns (visits_of (e.0 + 1) rest) (turns_of f is.body));
            within = omega (arith, lt, is.within);
            frames_are = λ others are.
                subst (λ z. FramesAre n names steps (frames_at f z fs) ((turns ++ own) ++ others)) (sym e.1)
                (subst (λ z. FramesAre n names steps ((fs ++ record f { at = e.0 } ∷ []) ++ record { at = e.0; to = e.0; of_loop = f.at; left = i } ∷ []) z)
                (sym (append_assoc turns own others))
                (frames_push (fs ++ record f { at = e.0 } ∷ []) (record { at = e.0; to = e.0; of_loop = f.at; left = i }) turns (own ++ others)
                (record {
                  rest = done;
                  rest_there = refl;
                  body = body;
                  body_there = λ some. e.3;
                  within = omega (arith, after, is.within);
                  small = omega (arith, few, lt, is.within);
                  visits_are = refl;
                })
                (frames_push fs (record f { at = e.0 }) own others (behind f ms is e.0 rest e.4) are)));
          }

  -- at the end of its statements it has its turns left
  at_end : (f : OpenBody) (ms : List Visit) (is : FrameIs n names steps f ms) → f.to ≤ f.at → ms ≡ turns_of f is.body
  at_end f ms is le = by is.rest is.rest_there is.visits_are
    where
      by : (tree : Tree) → IsSpelled n names steps f.at tree f.to → ms ≡ visits_of (f.at + 1) tree ++ turns_of f is.body → ms ≡ turns_of f is.body
      by done e visits = visits
      by (plain c rest) e visits = absurd (let x = spelled_count n names steps f.at (plain c rest) f.to e in omega (arith, x, le))
      by (fork y body rest) e visits = absurd (let x = spelled_count n names steps f.at (fork y body rest) f.to e in omega (arith, x, le))
      by (loop i body rest) e visits = absurd (let x = spelled_count n names steps f.at (loop i body rest) f.to e in omega (arith, x, le))

  pub nothing_on : (f : OpenBody) (ms : List Visit) → FrameIs n names steps f ms → f.to ≤ f.at → f.left ≡ 0 → ms ≡ []
  nothing_on f ms is le none =
      at_end f ms is le ∙ ap (λ z. times z (visit (f.of_loop + 1) a_turn ∷ visits_of (f.of_loop + 1 + 1) is.body)) none

  pub turn_on : (f : OpenBody) (ms : List Visit) (fs : List OpenBody) (left : ℕ) → FrameIs n names steps f ms → f.to ≤ f.at → f.left ≡ suc left →
      WentOn f ms (an_item f.of_loop true a_step.Skip) fs (fs ++ record f { at = f.of_loop + 1; left = left } ∷ [])
  turn_on f ms fs left is le some =
      let one : List Visit = visits_of (f.of_loop + 1 + 1) is.body in
      let others : List Visit = times left (visit (f.of_loop + 1) a_turn ∷ one) in
      record {
        visit_is = visit (f.of_loop + 1) a_turn;
        comes_to = to_turn;
        left = one ++ others;
        visits_are = at_end f ms is le ∙ ap (λ z. times z (visit (f.of_loop + 1) a_turn ∷ one)) some;
        within = (let e = spelled_count n names steps (f.of_loop + 1) is.body f.to (is.body_there (omega (arith, some))) in omega (arith, e, is.within));
        frames_are = λ rest are.
            frames_push fs (record f { at = f.of_loop + 1; left = left }) (one ++ others) rest
            (record {
              rest = is.body;
              rest_there = is.body_there (omega (arith, some));
              body = is.body;
              body_there = λ l. is.body_there (omega (arith, some));
              within = is.within;
              small = is.small;
              visits_are = refl;
            })
            are;
      }

  -- ---- as the code goes on

  pub went_on : (f : OpenBody) (ms : List Visit) (fs : List OpenBody) (item : Item) → length steps < 2 ^ 32 → FrameIs n names steps f ms → next_item steps f ≡ Some item →
      WentOn f ms item fs (frames_after steps f fs)
  went_on f ms fs item few is next = by (nat_lt f.at f.to) refl (f.left) refl
    where
      by : (b : Bool) → nat_lt f.at f.to ≡ b → (left : ℕ) → f.left ≡ left → WentOn f ms item fs (frames_after steps f fs)
      by true lt left left_is =
          let same : an_item f.at false (step_at steps f.at) ≡ item =
          (let e : Some (an_item f.at false (step_at steps f.at)) ≡ Some item =
          sym (ap (λ b. if b then Some (an_item f.at false (step_at steps f.at)) else (if f.left == 0 then None else Some (an_item f.of_loop true a_step.Skip))) lt) ∙ next in some_is e) in
          subst (λ z. WentOn f ms z fs (frames_after steps f fs)) same
          (subst (λ b. WentOn f ms (an_item f.at false (step_at steps f.at)) fs
          (if b then frames_at f (step_at steps f.at) fs else (if f.left == 0 then fs else fs ++ record f { at = f.of_loop + 1; left = f.left - 1 } ∷ []))) (sym lt)
          (statement_on f ms fs few (ltb-true f.at f.to lt) is))
      by false ge zero left_is =
          absurd (let e = sym (ap (λ b. if b then Some (an_item f.at false (step_at steps f.at)) else (if f.left == 0 then None else Some (an_item f.of_loop true a_step.Skip))) ge
          ∙ ap (λ (i : ℕ). if i == 0 then None else Some (an_item f.of_loop true a_step.Skip)) left_is) ∙ next in none_is item e)
      by false ge (suc left) left_is =
          let e : Some (an_item f.of_loop true a_step.Skip) ≡ Some item =
          sym (ap (λ b. if b then Some (an_item f.at false (step_at steps f.at)) else (if f.left == 0 then None else Some (an_item f.of_loop true a_step.Skip))) ge
          ∙ ap (λ (c : Bool). if c then None else Some (an_item f.of_loop true a_step.Skip)) (some_left left left_is)) ∙ next in
          let less : f.left - 1 ≡ left = omega (arith, left_is) in
          subst (λ z. WentOn f ms z fs (frames_after steps f fs)) (some_is e)
          (subst (λ b. WentOn f ms (an_item f.of_loop true a_step.Skip) fs
          (if b then frames_at f (step_at steps f.at) fs else (if f.left == 0 then fs else fs ++ record f { at = f.of_loop + 1; left = f.left - 1 } ∷ []))) (sym ge)
          (subst (λ (c : Bool). WentOn f ms (an_item f.of_loop true a_step.Skip) fs (if c then fs else fs ++ record f { at = f.of_loop + 1; left = f.left - 1 } ∷ [])) (sym (some_left left left_is))
          (subst (λ i. WentOn f ms (an_item f.of_loop true a_step.Skip) fs (fs ++ record f { at = f.of_loop + 1; left = i } ∷ [])) (sym less)
          (turn_on f ms fs left is (not_less f.at f.to ge) left_is))))

  pub idled : (f : OpenBody) (ms : List Visit) (fs : List OpenBody) → FrameIs n names steps f ms → next_item steps f ≡ None → (ms ≡ []) × (frames_after steps f fs ≡ fs)
  idled f ms fs is next = by (nat_lt f.at f.to) refl (f.left) refl
    where
      by : (b : Bool) → nat_lt f.at f.to ≡ b → (left : ℕ) → f.left ≡ left → (ms ≡ []) × (frames_after steps f fs ≡ fs)
      by true lt left left_is =
          absurd (let e = sym next ∙ ap (λ b. if b then Some (an_item f.at false (step_at steps f.at)) else (if f.left == 0 then None else Some (an_item f.of_loop true a_step.Skip))) lt in
          none_is (an_item f.at false (step_at steps f.at)) e)
      by false ge zero left_is = (
        nothing_on f ms is (not_less f.at f.to ge) left_is,
        ap (λ b. if b then frames_at f (step_at steps f.at) fs else (if f.left == 0 then fs else fs ++ record f { at = f.of_loop + 1; left = f.left - 1 } ∷ [])) ge
            ∙ ap (λ (c : Bool). if c then fs else fs ++ record f { at = f.of_loop + 1; left = f.left - 1 } ∷ []) (eq-eqb f.left 0 left_is),
      )
      by false ge (suc left) left_is =
          absurd (let e = sym next ∙ (ap (λ b. if b then Some (an_item f.at false (step_at steps f.at)) else (if f.left == 0 then None else Some (an_item f.of_loop true a_step.Skip))) ge
          ∙ ap (λ (c : Bool). if c then None else Some (an_item f.of_loop true a_step.Skip)) (some_left left left_is)) in none_is (an_item f.of_loop true a_step.Skip) e)

-- ---- how many there are

some_few : (fs : List OpenBody) (f : OpenBody) → length (fs ++ f ∷ []) ≤ length fs + 2
some_few fs f = omega (arith, length-append fs (f ∷ []))

at_few : (f : OpenBody) (step : FlatStep) (fs : List OpenBody) → length (frames_at f step fs) ≤ length fs + 2
at_few f (a_step.Loop k after steady) fs =
    let inner : OpenBody = record { at = after; to = after; of_loop = f.at; left = k } in
    omega (arith, length-append (fs ++ record f { at = after } ∷ []) (inner ∷ []), length-append fs (record f { at = after } ∷ []))
at_few f (a_step.Fork x after) fs = some_few fs (record f { at = after })
at_few f (a_step.NewTask x) fs = some_few fs (record f { at = f.at + 1 })
at_few f (a_step.NewPhaser x) fs = some_few fs (record f { at = f.at + 1 })
at_few f (a_step.Reg x y) fs = some_few fs (record f { at = f.at + 1 })
at_few f (a_step.Dereg x) fs = some_few fs (record f { at = f.at + 1 })
at_few f (a_step.Adv x) fs = some_few fs (record f { at = f.at + 1 })
at_few f (a_step.Await x off) fs = some_few fs (record f { at = f.at + 1 })
at_few f a_step.Skip fs = some_few fs (record f { at = f.at + 1 })

pub frames_few : (steps : List FlatStep) (f : OpenBody) (fs : List OpenBody) → length (frames_after steps f fs) ≤ length fs + 2
frames_few steps f fs = by (nat_lt f.at f.to) (f.left == 0)
  where
    by : (b c : Bool) → length (if b then frames_at f (step_at steps f.at) fs else (if c then fs else fs ++ record f { at = f.of_loop + 1; left = f.left - 1 } ∷ [])) ≤ length fs + 2
    by true c = at_few f (step_at steps f.at) fs
    by false true = omega arith
    by false false = some_few fs (record f { at = f.of_loop + 1; left = f.left - 1 })
