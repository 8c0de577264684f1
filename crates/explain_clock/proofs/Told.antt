-- Lists that grow by where one activity more waits; and that there is one list.
use Rattle.std.proofs.Common.{◌≡◌, ◌≢◌, ◌⊎◌, ℕ, ◌+◌, ◌<◌, List, [], ◌∷◌, ◌++◌, Option, Bool, length, arith, sym, ◌∙◌, ap, subst, inl, inr, length-append}
use Rattle.std.specs.Prelude.{count_by, drop, slice_get, slice_index_or, take}
use Rattle.std.proofs.lemmas.Bool.{cases_eq}
use Rattle.std.proofs.lemmas.List.{get_or_append_left, same_lists}
use Rattle.std.proofs.lemmas.Option.{get_or_from_slice_get}
use Rattle.std.proofs.Math.Seq.{get_or-append_seam}
use Rattle.armus_base.specs.Finals.{end_of, list_below}
use Rattle.armus_base.specs.Plans.{Plan, code_of}
use Rattle.armus_base.specs.States.{State}
use Rattle.armus_base.specs.declared.ending.TaskEnd.{TaskEnd}
use Rattle.armus_base.specs.declared.ending.TaskEnd.TheVariants.{Blocked, Done, Refused, Unforked}
use Rattle.armus_base.specs.declared.op.Op.{Op}
use Rattle.armus_base.proofs.Below.{list_below-at}
use Rattle.explain_clock.specs.ClockFacts.{AreWaitsAt, ClockWait, IsNoWait, IsWaitBy, is_pending, moves_from}
use Rattle.explain_clock.specs.declared.facts.NextMove.{NextMove}
use Rattle.explain_facts.proofs.OneAccount.{one_op}
use Rattle.clock_source_map.specs.ClockOps.{is_await}

-- what f gives for a number
pub list_at : {A : Type 0} (f : ℕ → A) (n t : ℕ) (xs : List A) (d : A) → xs ≡ list_below f n → t < n → slice_index_or xs t d ≡ f t
list_at f n t xs d is lt = ap (λ ys. slice_index_or ys t d) is ∙ get_or_from_slice_get (list_below f n) t (f t) d (list_below-at f n t lt)

module _ (waits : List (List ℕ)) (origins : List (List (Option ℕ))) (plan : Plan) (s : State) (done : ℕ → ℕ) where
  abbrev pub IsWait : ℕ → ClockWait → Type 0
  IsWait t w = IsWaitBy (code_of plan t) (slice_index_or waits t []) (slice_index_or origins t []) (length plan.makers) (done t) (end_of s t) w

  -- the first n activities wait so
  pub record AreTold (n : ℕ) (ws : List ClockWait) : Type 0 where
    pub all : length ws ≡ n
    pub each : (t : ℕ) (d : ClockWait) → t < n → IsWait t (slice_index_or ws t d)

  pub told_none : AreTold 0 []
  told_none = record { all = omega arith; each = λ t d lt. absurd (omega arith) }

  pub told_more : (n : ℕ) (ws more : List ClockWait) (own : ClockWait) → AreTold n ws → more ≡ ws ++ own ∷ [] → IsWait n own → AreTold (n + 1) more
  told_more n ws more own told is here = record {
    all = (let e = ap length is in let f = length-append ws (own ∷ []) in let g = told.all in omega arith);
    each = λ t d lt. subst (λ xs. IsWait t (slice_index_or xs t d)) (sym is) (by t d lt (cases_eq t n));
  }
    where
      by : (t : ℕ) (d : ClockWait) → t < n + 1 → (t ≡ n) ⊎ (t ≢ n) → IsWait t (slice_index_or (ws ++ own ∷ []) t d)
      by t d lt (inl same) =
          subst (λ v. IsWait v (slice_index_or (ws ++ own ∷ []) v d)) (sym same)
          (subst (λ v. IsWait n (slice_index_or (ws ++ own ∷ []) v d)) told.all (subst (IsWait n) (sym (get_or-append_seam ws own [] d)) here))
      by t d lt (inr other) =
          let before : t < n = omega arith in
          let within : t < length ws = omega (arith, told.all) in
          subst (IsWait t) (sym (get_or_append_left ws (own ∷ []) d t within)) (told.each t d before)

  pub told_all : (n : ℕ) (ws : List ClockWait) → n ≡ length plan.parents → AreTold n ws → AreWaitsAt waits origins plan s done ws
  told_all n ws same told = record {
    all = told.all ∙ same;
    each = λ t d lt. told.each t d (omega (arith, same, lt));
  }

  -- ---- one list

  same_wait : (s s' : Option ℕ) (p p' : List Bool) (n n' : List NextMove) → s ≡ s' → p ≡ p' → n ≡ n' →
      let w : ClockWait = record { statement = s; pending = p; ahead = n } in let v : ClockWait = record { statement = s'; pending = p'; ahead = n' } in w ≡ v
  same_wait s s' p p' n n' x y z = cc

  same_none : (w v : ClockWait) → IsNoWait w → IsNoWait v → w ≡ v
  same_none w v x y =
      same_wait w.statement v.statement w.pending v.pending w.ahead v.ahead (x.statement_is ∙ sym y.statement_is) (x.pending_is ∙ sym y.pending_is) (x.ahead_is ∙ sym y.ahead_is)

  one_wait :
      (code : List Op) (own : List ℕ) (ops : List (Option ℕ)) (clocks done : ℕ) (end : TaskEnd) (w v : ClockWait) → IsWaitBy code own ops clocks done end w →
      IsWaitBy code own ops clocks done end v → w ≡ v
  one_wait code own ops clocks done (Blocked e) w v x y =
      let same = one_op code done x.op y.op x.stands y.stands in
      same_wait w.statement v.statement w.pending v.pending w.ahead v.ahead
      (x.statement_is ∙ ap (λ k. slice_get own (count_by is_await (take k code))) same ∙ sym y.statement_is)
      (x.pending_is ∙ ap (λ k. list_below (is_pending (take k code)) clocks) same ∙ sym y.pending_is)
      (x.ahead_is ∙ ap (λ k. moves_from ops k (drop k code)) same ∙ sym y.ahead_is)
  one_wait code own ops clocks done Done w v x y = same_none w v x y
  one_wait code own ops clocks done (Refused e) w v x y = same_none w v x y
  one_wait code own ops clocks done Unforked w v x y = same_none w v x y

  pub one_list : (ws vs : List ClockWait) → AreWaitsAt waits origins plan s done ws → AreWaitsAt waits origins plan s done vs → ws ≡ vs
  one_list ws vs x y =
      same_lists ws vs (x.all ∙ sym y.all) (λ t d lt.
      let within : t < length plan.parents = omega (arith, x.all, lt) in
      one_wait (code_of plan t) (slice_index_or waits t []) (slice_index_or origins t []) (length plan.makers) (done t) (end_of s t) (slice_index_or ws t d) (slice_index_or vs t d)
      (x.each t d within) (y.each t d within))
