-- The computation of the unfolding makes the stages of the relation, and there is one list of such stages.
use Rattle.std.proofs.Common.{◌≡◌, ℕ, zero, suc, ◌+◌, ◌-◌, ◌<◌, ◌≤◌, Bool, true, false, not, Some, None, Ok, Err, Option, List, [], ◌∷◌, ◌++◌, length, append_assoc, arith, sym, ◌∙◌, ap, subst, refl, ◌⊎◌, inl, inr}
use Rattle.std.specs.Prelude.{map, nat_lt, slice_index_or, if◌then◌else◌}
use Rattle.std.proofs.lemmas.Bool.{cases_lt, false≢true, ltb-true}
use Rattle.std.proofs.lemmas.List.{get_or-set_other, get_or_past, length-set, length-append}
use Rattle.armus_base.specs.Numbers.{phaser, task}
use Rattle.armus_base.specs.Plans.{Plan}
use Rattle.armus_base.specs.declared.op.Op.TheVariants as op
use Rattle.pl_syntax.specs.declared.tree.Program.{Program}
use Rattle.pl_syntax.specs.Tree.{Tree, new_task, new_phaser, reg, dereg, adv, await, skip}
use Rattle.pl_plan.specs.declared.fault.CheckFault.{CheckFault}
use Rattle.pl_plan.specs.Unfolding.{Coming, a_plain, a_fork, a_loop, a_turn, Visit, visits_of, UnfoldingState, Start, Outcome, ◌>>=◌, fault, is_parent, make_visit, make_visits, with_names, unfold_task, unfold_tasks, opening_state, plan_of, with_pieces, leave, leave_below, ended, add_op, with_member, with_members, fault_unless, too_many_ops}
use Rattle.pl_plan.specs.Tests.{Passes, drew, first_thing, table, task_number}
use Rattle.pl_plan.specs.calls.Laws.{FaultIsFirst, PlanIsUnfolded}
use Rattle.pl_plan.specs.Stages.{IsFirstCheckFault, IsNextStage, StagesLead, Stage, StagePasses, after_stage, all_stages, begins, with_start_names, comes, stages_below, stages_of, FailsAt, at_visit, at_end, leaves, leaves_below, ends_of, has_op_left, with_code}
use Rattle.pl_plan.specs.calls.Stages.{Unfolds}
use Rattle.pl_plan.proofs.Drawn.{drawn_more}
use Rattle.pl_plan.proofs.ByTable.{first_if, first_kind, kind_none, kind_some, visit_by, passes_if}
use Rattle.pl_plan.proofs.FirstRows.{answer}
use Rattle.pl_plan.proofs.Places.{at_more}
use Rattle.pl_plan.proofs.PlanPieces.{end_has_pieces, one_list_each}

module _ (two : Bool) where
  -- ---- lists of stages

  pub append_nil : {X : Type 0} (xs : List X) → xs ++ [] ≡ xs
  append_nil [] = refl
  append_nil (x ∷ xs) = ap (λ z. x ∷ z) (append_nil xs)

  pub leads_more :
      (before xs ys : List Stage) (s m e : UnfoldingState) → StagesLead two before xs s m → StagesLead two (before ++ xs) ys m e → StagesLead two before (xs ++ ys) s e
  leads_more before [] ys s m e l r =
      subst (λ z. StagesLead two before ys z e) (sym l) (subst (λ b. StagesLead two b ys m e) (append_nil before) r)
  leads_more before (x ∷ xs) ys s m e l r = (
    l.0,
    l.1,
    leads_more (before ++ x ∷ []) xs ys (after_stage x s) m e l.2 (subst (λ b. StagesLead two b ys m e) (sym (append_assoc before (x ∷ []) xs)) r),
  )

  -- the stages of more tasks begin with those of fewer
  pub stages_more : (n k : ℕ) (s : UnfoldingState) → (rest : List Stage) × (stages_below two (n + k) s ≡ stages_below two n s ++ rest)
  stages_more n zero s = ([], subst (λ m. stages_below two m s ≡ stages_below two n s ++ []) (let e : n ≡ n + 0 = omega arith in e) (sym (append_nil (stages_below two n s))))
  stages_more n (suc k) s =
      let before = stages_more n k s in
      let last = stages_of two (n + k) (slice_index_or s.starts (n + k) None) in (
        before.0 ++ last,
        subst (λ m. stages_below two m s ≡ stages_below two n s ++ (before.0 ++ last)) (let e : suc (n + k) ≡ n + suc k = omega arith in e)
            (ap (λ z. z ++ last) before.1 ∙ append_assoc (stages_below two n s) before.0 last),
      )

  -- where the same tasks have the same starts, they have the same stages
  pub stages_same :
      (n : ℕ) (s e : UnfoldingState) → ((u : ℕ) → u < n → slice_index_or e.starts u None ≡ slice_index_or s.starts u None) → stages_below two n e ≡ stages_below two n s
  stages_same zero s e same = refl
  stages_same (suc n) s e same =
      ap (λ z. z ++ stages_of two n (slice_index_or e.starts n None)) (stages_same n s e (λ u l. same u (omega arith)))
      ∙ ap (λ o. stages_below two n s ++ stages_of two n o) (same n (omega arith))

  -- tasks past the last have none
  stages_past : (n k : ℕ) (s : UnfoldingState) → length s.starts ≤ n → stages_below two (n + k) s ≡ stages_below two n s
  stages_past n zero s l = ap (λ m. stages_below two m s) (let e : n + 0 ≡ n = omega arith in e)
  stages_past n (suc k) s l =
      ap (λ m. stages_below two m s) (let e : n + suc k ≡ suc (n + k) = omega arith in e)
      ∙ ap (λ o. stages_below two (n + k) s ++ stages_of two (n + k) o) (get_or_past s.starts (n + k) None (omega arith))
      ∙ append_nil (stages_below two (n + k) s) ∙ stages_past n k s l

  -- ---- what a stage keeps

  -- a task is drawn by one before it, and each has a start or none
  pub record IsKept (s : UnfoldingState) : Type 0 where
    pub drawn : (c u : ℕ) → is_parent u (slice_index_or s.plan.parents c None) ≡ true → u < c
    pub many : length s.starts ≡ length s.plan.parents
    pub few : length s.plan.parents ≤ 4096

  -- one more stage of task t keeps that, and the starts of the tasks up to t
  pub record Keeps (t : ℕ) (s e : UnfoldingState) : Type 0 where
    pub kept : IsKept e
    pub more : length s.plan.parents ≤ length e.plan.parents
    pub starts : (u : ℕ) → u ≤ t → slice_index_or e.starts u None ≡ slice_index_or s.starts u None

  not_false : (b : Bool) → not b ≡ false → b ≡ true
  not_false true e = refl
  not_false false e = absurd (false≢true (sym e))

  module _ (t n : ℕ) (s : UnfoldingState) (kept : IsKept s) (here : t < length s.plan.parents) where
    pub same_kept : (e : UnfoldingState) → e.plan.parents ≡ s.plan.parents → e.starts ≡ s.starts → Keeps t s e
    same_kept e parents starts = record {
      kept = record {
        drawn = λ c u is. kept.drawn c u (subst (λ ps. is_parent u (slice_index_or ps c None) ≡ true) parents is);
        many = ap length starts ∙ kept.many ∙ ap length (sym parents);
        few = subst (λ ps. length ps ≤ 4096) (sym parents) kept.few;
      };
      more = omega (arith, ap length parents);
      starts = λ u l. ap (λ ss. slice_index_or ss u None) starts;
    }

    pub keeps : (c : Coming) → Passes s t c → Keeps t s (after_stage (comes t (record { statement = n; coming = c })) s)
    keeps (a_plain (new_task x)) passes = record {
      kept = record {
        drawn = drawn_more s.plan.parents t here kept.drawn;
        many = omega (arith, kept.many, length-append s.starts (None ∷ []), length-append s.plan.parents (Some (task t) ∷ []));
        few =
            (let room : nat_lt (length s.plan.parents) 4096 ≡ true = not_false (nat_lt (length s.plan.parents) 4096) (passes _ (9, omega arith, refl)) in
            omega (arith, ltb-true (length s.plan.parents) 4096 room, length-append s.plan.parents (Some (task t) ∷ [])));
      };
      more = omega (arith, length-append s.plan.parents (Some (task t) ∷ []));
      starts = λ u l. at_more s.starts None u;
    }
    keeps (a_plain (new_phaser x)) passes = same_kept _ refl refl
    keeps (a_plain (reg x y)) passes = same_kept _ refl refl
    keeps (a_plain (dereg x)) passes = same_kept _ refl refl
    keeps (a_plain (adv x)) passes = same_kept _ refl refl
    keeps (a_plain (await x off)) passes = same_kept _ refl refl
    keeps (a_plain skip) passes = same_kept _ refl refl
    keeps (a_fork x body) passes =
        let c = task_number (first_thing s (a_fork x body)) in
        let mine : drew s t c ≡ true = not_false (drew s t c) (passes _ (5, omega arith, refl)) in
        let later : t < c = kept.drawn c t mine in
        record {
          kept = record {
            drawn = kept.drawn;
            many = omega
                (arith, kept.many, length-set s.starts c (Some (record { body = body; first = n + 1; names = s.names })));
            few = kept.few;
          };
          more = omega arith;
          starts = λ u l. get_or-set_other s.starts c u (Some (record { body = body; first = n + 1; names = s.names })) None (λ same. absurd (omega arith));
        }
    keeps a_loop passes = same_kept _ refl refl
    keeps a_turn passes = same_kept _ refl refl

  -- ---- the visits of a task

  -- behind these stages the stages of task t go on so
  record Went (before : List Stage) (t : ℕ) (ms : List Visit) (s : UnfoldingState) : Type 0 where
    end : UnfoldingState
    leads : StagesLead two before (map (λ m. comes t m) ms) s end
    keeps : Keeps t s end
    is : make_visits t ms s ≡ Ok end

  -- or to the first fault
  pub record Fails (before : List Stage) (s : UnfoldingState) (o : Outcome UnfoldingState) : Type 0 where
    pub done : List Stage
    pub there : UnfoldingState
    pub leads : StagesLead two before done s there
    pub stage : Stage
    pub next : IsNextStage two (before ++ done) stage there
    pub fault_is : CheckFault
    pub fails : FailsAt there stage fault_is
    pub is : o ≡ Err fault_is

  -- the next stage of all is the next one of task t
  pub next_of :
      (before : List Stage) (t : ℕ) (v : Stage) (rest : List Stage) (s : UnfoldingState) → t < length s.plan.parents →
      before ++ (v ∷ rest) ≡ stages_below two (suc t) s → IsNextStage two before v s
  next_of before t v rest s here own =
      let n = length s.plan.parents - suc t in
      let more = stages_more (suc t) n s in
      let whole : stages_below two (length s.plan.parents) s ≡ stages_below two (suc t) s ++ more.0 =
      ap (λ m. stages_below two m s) (let e : length s.plan.parents ≡ suc t + n = omega arith in e) ∙ more.1 in
      (rest ++ more.0, whole ∙ ap (λ z. z ++ more.0) (sym own) ∙ append_assoc before (v ∷ rest) more.0)

  pub keeps_on : (t : ℕ) (s m e : UnfoldingState) → Keeps t s m → Keeps t m e → Keeps t s e
  keeps_on t s m e a b =
      record { kept = b.kept; more = omega (arith, a.more, b.more); starts = λ u l. b.starts u l ∙ a.starts u l }

  fails_later :
      (before : List Stage) (v : Stage) (s : UnfoldingState) (o : Outcome UnfoldingState) → IsNextStage two before v s → StagePasses v s →
      Fails (before ++ v ∷ []) (after_stage v s) o → Fails before s o
  fails_later before v s o next passes f =
      record {
        done = v ∷ f.done;
        there = f.there;
        leads = (next, passes, f.leads);
        stage = f.stage;
        next = subst (λ b. IsNextStage two b f.stage f.there) (append_assoc before (v ∷ []) f.done) f.next;
        fault_is = f.fault_is;
        fails = f.fails;
        is = f.is;
      }

  fails_so : (before : List Stage) (s : UnfoldingState) (o q : Outcome UnfoldingState) → q ≡ o → Fails before s o → Fails before s q
  fails_so before s o q same f = subst (λ z. Fails before s z) (sym same) f

  fails_behind : (before xs : List Stage) (s m : UnfoldingState) (o : Outcome UnfoldingState) → StagesLead two before xs s m → Fails (before ++ xs) m o → Fails before s o
  fails_behind before xs s m o leads f =
      record {
        done = xs ++ f.done;
        there = f.there;
        leads = leads_more before xs f.done s m f.there leads f.leads;
        stage = f.stage;
        next = subst (λ b. IsNextStage two b f.stage f.there) (append_assoc before xs f.done) f.next;
        fault_is = f.fault_is;
        fails = f.fails;
        is = f.is;
      }

  -- what follows an outcome at fault changes nothing
  fails_then :
      (before : List Stage) (s : UnfoldingState) (o : Outcome UnfoldingState) (g : UnfoldingState → Outcome UnfoldingState) → Fails before s o → Fails before s (o >>= g)
  fails_then before s o g f =
      record { done = f.done; there = f.there; leads = f.leads; stage = f.stage; next = f.next; fault_is = f.fault_is; fails = f.fails; is = ap (λ o. o >>= g) f.is }

  module _ (t : ℕ) (after : List Stage) where
    by_kind :
        (before : List Stage) (m : Visit) (ms : List Visit) (s : UnfoldingState) → IsKept s → t < length s.plan.parents →
        before ++ (comes t m ∷ (map (λ m. comes t m) ms ++ after)) ≡ stages_below two (suc t) s →
        ((e : UnfoldingState) → Keeps t s e → (before ++ comes t m ∷ []) ++ (map (λ m. comes t m) ms ++ after) ≡ stages_below two (suc t) e →
        Went (before ++ comes t m ∷ []) t ms e ⊎ Fails (before ++ comes t m ∷ []) e (make_visits t ms e)) → (o : Option ℕ) →
        first_kind table s t m.coming ≡ o → Went before t (m ∷ ms) s ⊎ Fails before s (make_visits t (m ∷ ms) s)
    unfolding make_visits
    by_kind before m ms s kept here own rest None passes_all =
        let v = comes t m in
        let e = after_stage v s in
        let passes = passes_if s t m.coming passes_all in
        let k = keeps t m.statement s kept here m.coming passes in
        let next = next_of before t v (map (λ m. comes t m) ms ++ after) s here own in
        let is : make_visit t m s ≡ Ok e = visit_by t m s ∙ ap (λ o. answer m.statement o e) passes_all in
        let all : make_visits t (m ∷ ms) s ≡ make_visits t ms e = ap (λ o. o >>= make_visits t ms) is in
        let own_now : (before ++ v ∷ []) ++ (map (λ m. comes t m) ms ++ after) ≡ stages_below two (suc t) e =
        append_assoc before (v ∷ []) (map (λ m. comes t m) ms ++ after) ∙ own ∙ sym (stages_same (suc t) s e (λ u l. k.starts u (omega arith))) in
        elim (rest e k own_now) [
          | inl went ↦ inl (record { end = went.end; leads = (next, passes, went.leads); keeps = keeps_on t s e went.end k went.keeps; is = all ∙ went.is })
          | inr fails ↦ inr (fails_so before s (make_visits t ms e) (make_visits t (m ∷ ms) s) all (fails_later before v s (make_visits t ms e) next passes fails))
        ]
    by_kind before m ms s kept here own rest (Some kind) fails =
        let v = comes t m in
        inr (record {
          done = [];
          there = s;
          leads = refl;
          stage = v;
          next = subst (λ b. IsNextStage two b v s) (sym (append_nil before)) (next_of before t v (map (λ m. comes t m) ms ++ after) s here own);
          fault_is = fault kind m.statement;
          fails = at_visit (first_if s t m.coming kind fails) refl;
          is = ap (λ o. o >>= make_visits t ms) (visit_by t m s ∙ ap (λ o. answer m.statement o (after_stage v s)) fails);
        })

    comes_all :
        (before : List Stage) (ms : List Visit) (s : UnfoldingState) → IsKept s → t < length s.plan.parents →
        before ++ (map (λ m. comes t m) ms ++ after) ≡ stages_below two (suc t) s → Went before t ms s ⊎ Fails before s (make_visits t ms s)
    unfolding make_visits
    comes_all before [] s kept here own =
        inl (record { end = s; leads = refl; keeps = record { kept = kept; more = omega arith; starts = λ u l. refl }; is = refl })
    comes_all before (m ∷ ms) s kept here own =
        by_kind before m ms s kept here own
        (λ e k own_now. comes_all (before ++ comes t m ∷ []) ms e k.kept (omega (arith, k.more)) own_now)
        (first_kind table s t m.coming) refl

  -- ---- the end of a task

  -- behind these stages task t leaves the phasers below p
  record Left (before : List Stage) (t n p : ℕ) (s : UnfoldingState) : Type 0 where
    end : UnfoldingState
    leads : StagesLead two before (leaves_below t p) s end
    keeps : Keeps t s end
    is : leave_below t n p s ≡ Ok end

  module _ (t : ℕ) (start : Start) where
    abbrev n : ℕ
    n = start.first - 1

    -- one phaser
    pub record LeftOne (before : List Stage) (p : ℕ) (s : UnfoldingState) : Type 0 where
      pub end : UnfoldingState
      pub passes : StagePasses (leaves t p) s
      pub after_is : after_stage (leaves t p) s ≡ end
      pub keeps : Keeps t s end
      pub is : leave t n p s ≡ Ok end

    pub leaves_one :
        (before : List Stage) (p : ℕ) (s : UnfoldingState) → IsKept s → t < length s.plan.parents → slice_index_or s.starts t None ≡ Some start →
        IsNextStage two before (leaves t p) s → LeftOne before p s ⊎ Fails before s (leave t n p s)
    unfolding leave add_op
    leaves_one before p s kept here is next = by (s.members t p) refl (has_op_left s) refl
      where
        gone : UnfoldingState
        gone = with_code t (op.Drop (phaser p)) (with_members (with_member t p false s.members) s)

        by : (b : Bool) → s.members t p ≡ b → (r : Bool) → has_op_left s ≡ r → LeftOne before p s ⊎ Fails before s (leave t n p s)
        by false e r room =
            inl (record {
              end = s;
              passes = λ m. absurd (false≢true (sym e ∙ m));
              after_is = ap (λ (b : Bool). if b then gone else s) e;
              keeps = record { kept = kept; more = omega arith; starts = λ u l. refl };
              is = ap (λ (b : Bool). if b then add_op t n (op.Drop (phaser p)) (with_members (with_member t p false s.members) s) else Ok s) e;
            })
        by true e true room =
            inl (record {
              end = gone;
              passes = λ m. room;
              after_is = ap (λ (b : Bool). if b then gone else s) e;
              keeps = same_kept t 0 s kept here gone refl refl;
              is =
                  ap (λ (b : Bool). if b then add_op t n (op.Drop (phaser p)) (with_members (with_member t p false s.members) s) else Ok s) e
                  ∙ ap (λ (r : Bool). fault_unless r too_many_ops n >>= λ _. Ok gone) room;
            })
        by true e false room =
            inr (record {
              done = [];
              there = s;
              leads = refl;
              stage = leaves t p;
              next = subst (λ b. IsNextStage two b (leaves t p) s) (sym (append_nil before)) next;
              fault_is = record { kind = 9; statement = n };
              fails = at_end start is e room refl;
              is =
                  ap (λ (b : Bool). if b then add_op t n (op.Drop (phaser p)) (with_members (with_member t p false s.members) s) else Ok s) e
                  ∙ ap (λ (r : Bool). fault_unless r too_many_ops n >>= λ _. Ok gone) room;
            })

    leaves_all :
        (p : ℕ) (before after : List Stage) (s : UnfoldingState) → IsKept s → t < length s.plan.parents → slice_index_or s.starts t None ≡ Some start →
        before ++ (leaves_below t p ++ after) ≡ stages_below two (suc t) s → Left before t n p s ⊎ Fails before s (leave_below t n p s)
    unfolding leave_below
    leaves_all zero before after s kept here is own =
        inl (record { end = s; leads = refl; keeps = record { kept = kept; more = omega arith; starts = λ u l. refl }; is = refl })
    leaves_all (suc p) before after s kept here is own =
        let v = leaves t p in
        let regrouped : before ++ (leaves_below t p ++ (v ∷ after)) ≡ stages_below two (suc t) s =
        ap (λ z. before ++ z) (sym (append_assoc (leaves_below t p) (v ∷ []) after)) ∙ own in
        elim (leaves_all p before (v ∷ after) s kept here is regrouped) [
          | inr f ↦ inr (fails_then before s (leave_below t n p s) (leave t n p) f)
          | inl l ↦
              let e = l.end in
              let behind : (before ++ leaves_below t p) ++ (v ∷ after) ≡ stages_below two (suc t) e =
              append_assoc before (leaves_below t p) (v ∷ after) ∙ regrouped ∙ sym (stages_same (suc t) s e (λ u k. l.keeps.starts u (omega arith))) in
              let there : t < length e.plan.parents = omega (arith, l.keeps.more) in
              let next = next_of (before ++ leaves_below t p) t v after e there behind in
              elim (leaves_one (before ++ leaves_below t p) p e l.keeps.kept there (l.keeps.starts t (omega arith) ∙ is) next) [
                | inl one ↦ inl (record {
                  end = one.end;
                  leads = leads_more before (leaves_below t p) (v ∷ []) s e one.end l.leads (next, one.passes, one.after_is);
                  keeps = keeps_on t s e one.end l.keeps one.keeps;
                  is = ap (λ o. o >>= leave t n p) l.is ∙ one.is;
                })
                | inr f ↦ inr (fails_so before s (leave t n p e) (leave_below t n p s >>= leave t n p) (ap (λ o. o >>= leave t n p) l.is)
                    (fails_behind before (leaves_below t p) s e (leave t n p e) l.leads f))
              ]
        ]

    -- the whole end
    record Ends (before : List Stage) (s : UnfoldingState) (o : Outcome UnfoldingState) : Type 0 where
      end : UnfoldingState
      leads : StagesLead two before (ends_of two t) s end
      keeps : Keeps t s end
      is : ended two t n o ≡ Ok end

    ends_by :
        (b : Bool) → two ≡ b → (before : List Stage) (s : UnfoldingState) (o : Outcome UnfoldingState) → o ≡ Ok s → IsKept s → t < length s.plan.parents →
        slice_index_or s.starts t None ≡ Some start → before ++ ends_of two t ≡ stages_below two (suc t) s →
        Ends before s o ⊎ Fails before s (ended two t n o)
    ends_by false form before s o so kept here is own =
        inl (record {
          end = s;
          leads = subst (λ b. StagesLead two before (ends_of b t) s s) (sym form) refl;
          keeps = record { kept = kept; more = omega arith; starts = λ u l. refl };
          is = ap (λ b. ended b t n o) form ∙ so;
        })
    ends_by true form before s o so kept here is own =
        let all : before ++ (leaves_below t 1024 ++ []) ≡ stages_below two (suc t) s =
        ap (λ z. before ++ z) (append_nil (leaves_below t 1024)) ∙ ap (λ b. before ++ ends_of b t) (sym form) ∙ own in
        let whole : ended two t n o ≡ leave_below t n 1024 s = ap (λ b. ended b t n o) form ∙ ap (λ o. o >>= leave_below t n 1024) so in
        elim (leaves_all 1024 before [] s kept here is all) [
          | inl l ↦ inl (record {
            end = l.end;
            leads = subst (λ b. StagesLead two before (ends_of b t) s l.end) (sym form) l.leads;
            keeps = l.keeps;
            is = whole ∙ l.is;
          })
          | inr f ↦ inr (fails_so before s (leave_below t n 1024 s) (ended two t n o) whole f)
        ]

  -- ---- all tasks

  -- the stages of all tasks, from some of them on
  record Through (before : List Stage) (n : ℕ) (s : UnfoldingState) (o : Outcome UnfoldingState) : Type 0 where
    stages : List Stage
    end : UnfoldingState
    leads : StagesLead two before stages s end
    all : stages_below two n end ≡ before ++ stages
    kept : IsKept end
    is : o ≡ Ok end

  through_later :
      (before xs : List Stage) (n : ℕ) (s m : UnfoldingState) (o : Outcome UnfoldingState) → StagesLead two before xs s m → Through (before ++ xs) n m o → Through before n s o
  through_later before xs n s m o leads r =
      record {
        stages = xs ++ r.stages;
        end = r.end;
        leads = leads_more before xs r.stages s m r.end leads r.leads;
        all = r.all ∙ append_assoc before xs r.stages;
        kept = r.kept;
        is = r.is;
      }

  abbrev Told : List Stage → ℕ → UnfoldingState → Outcome UnfoldingState → Type 0
  Told before n s o = Through before n s o ⊎ Fails before s o

  told_later :
      (before xs : List Stage) (n : ℕ) (s m : UnfoldingState) (o q : Outcome UnfoldingState) → StagesLead two before xs s m → q ≡ o → Told (before ++ xs) n m o → Told before n s q
  told_later before xs n s m o q leads same (inl r) = inl (through_later before xs n s m q leads (subst (λ z. Through (before ++ xs) n m z) (sym same) r))
  told_later before xs n s m o q leads same (inr f) = inr (fails_behind before xs s m q leads (subst (λ z. Fails (before ++ xs) m z) (sym same) f))

  module _ (n t : ℕ) (before : List Stage) (s : UnfoldingState) (kept : IsKept s) (own : before ≡ stages_below two t s)
      (rest : (b : List Stage) (e : UnfoldingState) → IsKept e → b ≡ stages_below two (t + 1) e → Told b (t + 1 + n) e (unfold_tasks two n (t + 1) e)) where
    -- a task with this start
    started : (start : Start) → slice_index_or s.starts t None ≡ Some start → Told before (t + 1 + n) s (unfold_task two t (Some start) s >>= unfold_tasks two n (t + 1))
    started start is =
        let here : t < length s.plan.parents = inside in
        let ms = visits_of start.first start.body in
        let e = with_names start.names s in
        let stages = map (λ m. comes t m) ms in
        let ends = ends_of two t in
        let all = begins t ∷ (stages ++ ends) in
        let whole : before ++ all ≡ stages_below two (suc t) s = ap (λ b. b ++ all) own ∙ ap (λ o. stages_below two t s ++ stages_of two t o) (sym is) in
        let first : StagesLead two before (begins t ∷ []) s e = (next_of before t (begins t) (stages ++ ends) s here whole, tt, ap (λ o. with_start_names o s) is) in
        let own_now : (before ++ begins t ∷ []) ++ (stages ++ ends) ≡ stages_below two (suc t) e =
        append_assoc before (begins t ∷ []) (stages ++ ends) ∙ whole ∙ sym (stages_same (suc t) s e (λ u l. refl)) in
        let kept_now : IsKept e = record { drawn = kept.drawn; many = kept.many; few = kept.few } in
        elim (comes_all t ends (before ++ begins t ∷ []) ms e kept_now here own_now) [
          | inl went ↦
              let leads : StagesLead two before (begins t ∷ stages) s went.end = leads_more before (begins t ∷ []) stages s e went.end first went.leads in
              let there : t < length went.end.plan.parents = omega (arith, went.keeps.more) in
              let start_is : slice_index_or went.end.starts t None ≡ Some start = went.keeps.starts t (omega arith) ∙ is in
              let behind : (before ++ (begins t ∷ stages)) ++ ends ≡ stages_below two (suc t) went.end =
              append_assoc before (begins t ∷ stages) ends ∙ whole ∙ sym (stages_same (suc t) s went.end (λ u l. went.keeps.starts u (omega arith))) in
              elim (ends_by t start two refl (before ++ (begins t ∷ stages)) went.end (make_visits t ms e) went.is went.keeps.kept there start_is behind) [
                | inl last ↦
                    let more : StagesLead two before ((begins t ∷ stages) ++ ends) s last.end =
                    leads_more before (begins t ∷ stages) ends s went.end last.end leads last.leads in
                    let keeps = keeps_on t e went.end last.end went.keeps last.keeps in
                    let below : before ++ all ≡ stages_below two (t + 1) last.end =
                    whole ∙ sym (stages_same (suc t) s last.end (λ u l. keeps.starts u (omega arith))) ∙
                    ap (λ m. stages_below two m last.end) (let z : suc t ≡ t + 1 = omega arith in z) in
                    told_later before all (t + 1 + n) s last.end (unfold_tasks two n (t + 1) last.end) (unfold_task two t (Some start) s >>= unfold_tasks two n (t + 1)) more
                    (ap (λ o. o >>= unfold_tasks two n (t + 1)) (same_end start e ∙ last.is)) (rest (before ++ all) last.end keeps.kept below)
                | inr fails ↦
                    inr (fails_then before s (unfold_task two t (Some start) s) (unfold_tasks two n (t + 1))
                    (fails_so before s (ended two t (start.first - 1) (make_visits t ms e)) (unfold_task two t (Some start) s) refl
                    (fails_behind before (begins t ∷ stages) s went.end (ended two t (start.first - 1) (make_visits t ms e)) leads fails)))
              ]
          | inr fails ↦
              let f = fails_behind before (begins t ∷ []) s e (make_visits t ms e) first fails in
              inr (fails_then before s (unfold_task two t (Some start) s) (unfold_tasks two n (t + 1)) (ends_fail two refl start ms e f))
        ]
      where
        inside : t < length s.plan.parents
        inside =
            elim (cases_lt t (length s.starts)) [
              | inl l ↦ omega (arith, kept.many)
              | inr l ↦ absurd (let none = get_or_past s.starts t None l in cc)
            ]

        same_end : (start : Start) (e : UnfoldingState) →
            ended two t (start.first - 1) (make_visits t (visits_of start.first start.body) e) ≡ ended two t (start.first - 1) (make_visits t (visits_of start.first start.body) e)
        same_end start e = refl

        ends_fail : (b : Bool) → two ≡ b → (start : Start) (ms : List Visit) (e : UnfoldingState) → Fails before s (make_visits t ms e) →
            Fails before s (ended two t (start.first - 1) (make_visits t ms e))
        ends_fail false form start ms e f = fails_so before s (make_visits t ms e) (ended two t (start.first - 1) (make_visits t ms e))
            (ap (λ b. ended b t (start.first - 1) (make_visits t ms e)) form) f
        ends_fail true form start ms e f =
            fails_so before s (make_visits t ms e >>= leave_below t (start.first - 1) 1024) (ended two t (start.first - 1) (make_visits t ms e))
            (ap (λ b. ended b t (start.first - 1) (make_visits t ms e)) form)
            (fails_then before s (make_visits t ms e) (leave_below t (start.first - 1) 1024) f)

    by_start : (o : Option Start) → slice_index_or s.starts t None ≡ o → Told before (t + 1 + n) s (unfold_task two t o s >>= unfold_tasks two n (t + 1))
    by_start None is =
        rest before s kept
        (own ∙ sym (append_nil (stages_below two t s)) ∙ ap (λ o. stages_below two t s ++ stages_of two t o) (sym is) ∙
        ap (λ m. stages_below two m s) (let z : suc t ≡ t + 1 = omega arith in z))
    by_start (Some start) is = started start is

  tasks : (n t : ℕ) (before : List Stage) (s : UnfoldingState) → IsKept s → before ≡ stages_below two t s → Told before (t + n) s (unfold_tasks two n t s)
  unfolding unfold_tasks
  tasks zero t before s kept own =
      inl (record {
        stages = [];
        end = s;
        leads = refl;
        all = ap (λ m. stages_below two m s) (let z : t + 0 ≡ t = omega arith in z) ∙ sym own ∙ sym (append_nil before);
        kept = kept;
        is = refl;
      })
  tasks (suc n) t before s kept own =
      subst (λ m. Told before m s (unfold_task two t (slice_index_or s.starts t None) s >>= unfold_tasks two n (t + 1))) (let z : t + 1 + n ≡ t + suc n = omega arith in z)
      (by_start n t before s kept own (λ b e k w. tasks n (t + 1) b e k w) (slice_index_or s.starts t None) refl)

  pub opening_kept : (program : Tree) → IsKept (opening_state program)
  opening_kept program = record { drawn = none_drawn; many = refl; few = omega arith }
    where
      none_drawn : (c u : ℕ) → is_parent u (slice_index_or (opening_state program).plan.parents c None) ≡ true → u < c
      none_drawn zero u is = absurd (false≢true is)
      none_drawn (suc c) u is = absurd (false≢true is)

  -- ---- there is one list of stages

  pub append_same : (before : List Stage) (v w : Stage) (r q : List Stage) → before ++ (v ∷ r) ≡ before ++ (w ∷ q) → v ≡ w
  append_same [] v w r q e = cc
  append_same (b ∷ before) v w r q e = append_same before v w r q (let rest : before ++ (v ∷ r) ≡ before ++ (w ∷ q) = cc in rest)

  pub next_same : (before : List Stage) (v w : Stage) (s : UnfoldingState) → IsNextStage two before v s → IsNextStage two before w s → v ≡ w
  next_same before v w s a b = append_same before v w a.0 b.0 (sym a.1 ∙ b.1)

  -- behind these stages there is no further one that passes
  abbrev pub IsBlocked : List Stage → UnfoldingState → Type 0
  IsBlocked before s = (v : Stage) → IsNextStage two before v s → StagePasses v s → ⊥

  pub one_way :
      (before xs ys : List Stage) (s d e : UnfoldingState) → StagesLead two before xs s d → StagesLead two before ys s e → IsBlocked (before ++ xs) d → IsBlocked (before ++ ys) e →
      xs ≡ ys × d ≡ e
  one_way before [] [] s d e a b ends ends' = (refl, sym a ∙ b)
  one_way before [] (y ∷ ys) s d e a b ends ends' =
      absurd (subst (λ z. IsBlocked z d) (append_nil before) ends y (subst (λ z. IsNextStage two before y z) a b.0) (subst (λ z. StagePasses y z) a b.1))
  one_way before (x ∷ xs) [] s d e a b ends ends' =
      absurd (subst (λ z. IsBlocked z e) (append_nil before) ends' x (subst (λ z. IsNextStage two before x z) b a.0) (subst (λ z. StagePasses x z) b a.1))
  one_way before (x ∷ xs) (y ∷ ys) s d e a b ends ends' =
      let same = next_same before y x s b.0 a.0 in
      let r = one_way (before ++ x ∷ []) xs ys (after_stage x s) d e a.2 (subst (λ v. StagesLead two (before ++ v ∷ []) ys (after_stage v s) e) same b.2)
      (subst (λ z. IsBlocked z d) (sym (append_assoc before (x ∷ []) xs)) ends)
      (subst (λ z. IsBlocked z e) (sym (append_assoc before (x ∷ []) ys)) (subst (λ v. IsBlocked (before ++ (v ∷ ys)) e) same ends')) in (
        ap (λ zs. x ∷ zs) r.0 ∙ ap (λ v. v ∷ ys) (sym same),
        r.1,
      )

  -- no stage follows all
  longer : (run : List Stage) (v : Stage) (rest : List Stage) → run ≡ run ++ (v ∷ rest) → ⊥
  longer run v rest e = absurd (omega (arith, ap length e, length-append run (v ∷ rest)))

  pub all_blocks : (run : List Stage) (s : UnfoldingState) → all_stages two s ≡ run → IsBlocked run s
  all_blocks run s all v next passes = longer run v next.0 (sym all ∙ next.1)

  pub fault_blocks : (run : List Stage) (s : UnfoldingState) (v : Stage) (f : CheckFault) → IsNextStage two run v s → FailsAt s v f → IsBlocked run s
  fault_blocks run s v f next fails w other passes = at_fault v f fails (subst (λ z. StagePasses z s) (next_same run w v s other next) passes)
    where
      at_fault : (v : Stage) (f : CheckFault) → FailsAt s v f → StagePasses v s → ⊥
      at_fault (begins t) f x passes = elim x [ ]
      at_fault (comes t m) f (at_visit first is) passes =
          absurd (let none = kind_none s t m.coming passes in let some = kind_some s t m.coming f.kind first in cc)
      at_fault (leaves t p) f (at_end start is member full same) passes = false≢true (sym full ∙ passes member)

  -- a stage has one fault
  pub one_fault : (s : UnfoldingState) (v : Stage) (f g : CheckFault) → FailsAt s v f → FailsAt s v g → f ≡ g
  one_fault s (begins t) f g x y = elim x [ ]
  one_fault s (comes t m) f g (at_visit a is) (at_visit b is') =
      let kinds : f.kind ≡ g.kind =
      (let x : Some f.kind ≡ Some g.kind = sym (kind_some s t m.coming f.kind a) ∙ kind_some s t m.coming g.kind b in cc) in
      let numbers : f.statement ≡ g.statement = sym is ∙ is' in
      λ i. record { kind = kinds i; statement = numbers i }
  one_fault s (leaves t p) f g (at_end start is member full same) (at_end start' is' member' full' same') =
      let starts : start ≡ start' = (let x : Some start ≡ Some start' = sym is ∙ is' in cc) in
      same ∙ ap (λ (z : Start). record { kind = 9; statement = z.first - 1 }) starts ∙ sym same'

-- what the computation found
abbrev Found : Program → Type 0
Found program = Told program.two [] 4096 (opening_state program.body) (unfold_tasks program.two 4096 0 (opening_state program.body))

found : (program : Program) → Found program
found program = tasks program.two 4096 0 [] (opening_state program.body) (opening_kept program.two program.body) refl

-- the end of a whole unfolding has all stages
through_all : (program : Program) (o : Outcome UnfoldingState) → (r : Through program.two [] 4096 (opening_state program.body) o) → all_stages program.two r.end ≡ r.stages
through_all program o r =
    let n = 4096 - length r.end.plan.parents in
    let few = r.kept.few in
    sym (stages_past program.two (length r.end.plan.parents) n r.end (omega (arith, r.kept.many)))
    ∙ ap (λ m. stages_below program.two m r.end) (let e : length r.end.plan.parents + n ≡ 4096 = omega arith in e)
    ∙ r.all

unfolds_of :
    (program : Program) (o : Outcome UnfoldingState) (r : Through program.two [] 4096 (opening_state program.body) o) →
    unfold_tasks program.two 4096 0 (opening_state program.body) ≡ o → Unfolds program (with_pieces r.end)
unfolds_of program o r is = record {
  stages = r.stages;
  end = r.end;
  leads = r.leads;
  all = through_all program o r;
  plan_is = refl;
  pieces = end_has_pieces program r.end (is ∙ r.is);
}

fault_of : (program : Program) (o : Outcome UnfoldingState) (f : Fails program.two [] (opening_state program.body) o) → IsFirstCheckFault program f.fault_is
fault_of program o f = record { stages = f.done; there = f.there; leads = f.leads; stage = f.stage; next = f.next; fails = f.fails }

abbrev planned : Outcome UnfoldingState → Outcome Plan
planned o = o >>= λ s. Ok (with_pieces s)

ok_same : (a b : Plan) → ◌≡◌ {A = Outcome Plan} (Ok a) (Ok b) → a ≡ b
ok_same a b e = cc

err_same : (a b : CheckFault) → ◌≡◌ {A = Outcome Plan} (Err a) (Err b) → a ≡ b
err_same a b e = cc

module _ (program : Program) where
  from_found :
      (o : Outcome UnfoldingState) → Told program.two [] 4096 (opening_state program.body) o → unfold_tasks program.two 4096 0 (opening_state program.body) ≡ o →
      (plan : Plan) → planned o ≡ Ok plan → Unfolds program plan
  from_found o (inl r) is plan e = subst (λ p. Unfolds program p) (ok_same (with_pieces r.end) plan (ap planned (sym r.is) ∙ e)) (unfolds_of program o r is)
  from_found o (inr f) is plan e = absurd (let g = ap planned f.is in cc)

  from_fails : (o : Outcome UnfoldingState) → Told program.two [] 4096 (opening_state program.body) o → (f : CheckFault) → planned o ≡ Err f → IsFirstCheckFault program f
  from_fails o (inl r) g e = absurd (let h = ap planned r.is in cc)
  from_fails o (inr f) g e = subst (λ z. IsFirstCheckFault program z) (err_same f.fault_is g (ap planned (sym f.is) ∙ e)) (fault_of program o f)

  -- the plan is that of the end of the unfolding, with its pieces
  same_plan : (plan : Plan) (u : Unfolds program plan) → unfold_tasks program.two 4096 0 (opening_state program.body) ≡ Ok u.end → with_pieces u.end ≡ plan
  same_plan plan u is = ap (λ ps. record u.end.plan { pieces = ps }) (one_list_each program u.end is plan.pieces u.pieces) ∙ sym u.plan_is

  to_plan :
      (o : Outcome UnfoldingState) → Told program.two [] 4096 (opening_state program.body) o → unfold_tasks program.two 4096 0 (opening_state program.body) ≡ o →
      (plan : Plan) → Unfolds program plan → planned o ≡ Ok plan
  to_plan o (inl r) is plan u =
      let same = one_way program.two [] r.stages u.stages (opening_state program.body) r.end u.end r.leads u.leads
      (all_blocks program.two r.stages r.end (through_all program o r)) (all_blocks program.two u.stages u.end u.all) in
      ap planned r.is ∙ ap (λ (s : UnfoldingState). Ok (with_pieces s)) same.1
      ∙ ap Ok (same_plan plan u (is ∙ r.is ∙ ap (λ (s : UnfoldingState). Ok s) same.1))
  to_plan o (inr f) is plan u =
      let same = one_way program.two [] f.done u.stages (opening_state program.body) f.there u.end f.leads u.leads
      (fault_blocks program.two f.done f.there f.stage f.fault_is f.next f.fails) (all_blocks program.two u.stages u.end u.all) in
      let next : IsNextStage program.two u.stages f.stage u.end =
      subst (λ z. IsNextStage program.two u.stages f.stage z) same.1 (subst (λ b. IsNextStage program.two b f.stage f.there) same.0 f.next) in
      absurd (longer program.two u.stages f.stage next.0 (sym u.all ∙ next.1))

  to_fault : (o : Outcome UnfoldingState) → Told program.two [] 4096 (opening_state program.body) o → (g : CheckFault) → IsFirstCheckFault program g → planned o ≡ Err g
  to_fault o (inl r) g u =
      let same = one_way program.two [] r.stages u.stages (opening_state program.body) r.end u.there r.leads u.leads
      (all_blocks program.two r.stages r.end (through_all program o r))
      (fault_blocks program.two u.stages u.there u.stage g u.next u.fails) in
      let next : IsNextStage program.two r.stages u.stage r.end =
      subst (λ z. IsNextStage program.two r.stages u.stage z) (sym same.1) (subst (λ b. IsNextStage program.two b u.stage u.there) (sym same.0) u.next) in
      absurd (longer program.two r.stages u.stage next.0 (sym (through_all program o r) ∙ next.1))
  to_fault o (inr f) g u =
      let same = one_way program.two [] f.done u.stages (opening_state program.body) f.there u.there f.leads u.leads
      (fault_blocks program.two f.done f.there f.stage f.fault_is f.next f.fails) (fault_blocks program.two u.stages u.there u.stage g u.next u.fails) in
      let next : IsNextStage program.two u.stages f.stage u.there =
      subst (λ z. IsNextStage program.two u.stages f.stage z) same.1 (subst (λ b. IsNextStage program.two b f.stage f.there) same.0 f.next) in
      let stage = next_same program.two u.stages f.stage u.stage u.there next u.next in
      let fails : FailsAt u.there u.stage f.fault_is =
      subst (λ v. FailsAt u.there v f.fault_is) stage (subst (λ z. FailsAt z f.stage f.fault_is) same.1 f.fails) in
      ap planned f.is ∙ ap Err (one_fault program.two u.there u.stage f.fault_is g fails u.fails)

pub plan_is_unfolded : PlanIsUnfolded
unfolding plan_of
plan_is_unfolded program plan = (
  λ e. from_found program (unfold_tasks program.two 4096 0 (opening_state program.body)) (found program) refl plan e,
  λ u. to_plan program (unfold_tasks program.two 4096 0 (opening_state program.body)) (found program) refl plan u,
)

pub fault_is_first : FaultIsFirst
unfolding plan_of
fault_is_first program g = (
  λ e. from_fails program (unfold_tasks program.two 4096 0 (opening_state program.body)) (found program) g e,
  λ u. to_fault program (unfold_tasks program.two 4096 0 (opening_state program.body)) (found program) g u,
)
