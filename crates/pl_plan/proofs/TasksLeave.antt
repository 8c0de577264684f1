-- Each task's code has pieces: what the visits and the end of a task change, and what they keep.
use Rattle.std.proofs.Common.{◌≡◌, ℕ, zero, suc, ◌+◌, ◌-◌, ◌<◌, ◌≤◌, Bool, true, false, if◌then◌else◌, Option, Some, None, Ok, List, [], ◌∷◌, ◌++◌, length}
use Rattle.std.proofs.Common.{get_or, refl, sym, ap, subst, ◌∙◌, arith, append-nil, length-append, inl, inr}
use Rattle.std.specs.Prelude.{slice_index_or, nat_lt, sum_by, not}
use Rattle.std.proofs.lemmas.Bool.{cases_lt, cases_eq, ltb-true, false≢true}
use Rattle.std.proofs.lemmas.List.{get_or-set_other, get_or_past, length-set, map-append}
use Rattle.std.proofs.lemmas.List.Sums.{sum_by-append}
use Rattle.armus_base.specs.Numbers.{phaser, task}
use Rattle.armus_base.specs.declared.op.Op.{Op}
use Rattle.armus_base.specs.declared.op.Op.TheVariants as op
use Rattle.armus_base.specs.declared.piece.Piece.{Piece}
use Rattle.armus_base.specs.Limits.{max_tasks, max_phasers, max_ops}
use Rattle.armus_base.specs.Pieces.{straight}
use Rattle.pl_syntax.specs.Tree.{Plain, Tree, adv, await, count, dereg, done, fork, loop, new_phaser, new_task, plain, reg, skip}
use Rattle.pl_plan.specs.Limits.{max_visits}
use Rattle.pl_plan.specs.Unfolding.{◌>>=◌, Coming, Start, UnfoldingState, Visit}
use Rattle.pl_plan.specs.Unfolding.{a_fork, a_loop, a_plain, a_turn, act, act_fork, add_op, already_member, as_phaser, as_task, come_to, count_visit, ended}
use Rattle.pl_plan.specs.Unfolding.{fault_unless, is_parent, leave, leave_below}
use Rattle.armus_base.specs.Pieces.{times}
use Rattle.pl_plan.specs.Unfolding.{make_visit, make_visits, member_of, not_drawn_here, not_member, opening_state, has_cells, too_many_cells, too_many_ops}
use Rattle.pl_plan.specs.Unfolding.{too_many_phasers, too_many_tasks, too_many_visits}
use Rattle.pl_plan.specs.Unfolding.{unfold_task, unfold_tasks, unforked_child, visit, visits_of, with_member, with_members, with_names, with_new_phaser}
use Rattle.pl_plan.specs.Unfolding.{with_new_task, with_op, with_start}
use Rattle.pl_plan.specs.calls.Folding.{HasBodyPieces, HasCodePieces, drops_of}
use Rattle.pl_plan.proofs.Places.{at_more, at_set}
use Rattle.pl_plan.proofs.Tables.{one_more_op}
use Rattle.pl_plan.proofs.Drawn.{drawn_more}
use Rattle.pl_plan.proofs.VisitsLeave.{Adds, adds_from, adds_more, adds_nothing, adds_op, bind_ok, code, first_visit, leaves_of, no_visit, ok_is}

-- with what task t was forked, if it was
abbrev pub start_at : UnfoldingState → ℕ → Option Start
start_at s t = slice_index_or s.starts t None

passed : (b : Bool) (kind n : ℕ) (x : Unit {0}) → fault_unless b kind n ≡ Ok x → b ≡ true
passed true kind n x e = refl
passed false kind n x e = absurd (cc)

-- ---- all tasks, one after the other

-- what holds up to each task, as long as one task more keeps it, holds up to all
module _ (two : Bool) (Until : ℕ → UnfoldingState → Type 0) (none_next : (t : ℕ) (s : UnfoldingState) → Until t s → start_at s t ≡ None → Until (t + 1) s)
    (some_next : (t : ℕ) (start : Start) (s r : UnfoldingState) → Until t s → start_at s t ≡ Some start → unfold_task two t (Some start) s ≡ Ok r → Until (t + 1) r) where
  next_until :
      (n t : ℕ) (s r : UnfoldingState) → Until t s → ((m : UnfoldingState) → Until (t + 1) m → unfold_tasks two n (t + 1) m ≡ Ok r → Until (t + 1 + n) r) →
      (o : Option Start) → start_at s t ≡ o → (unfold_task two t o s >>= unfold_tasks two n (t + 1)) ≡ Ok r → Until (t + 1 + n) r
  next_until n t s r h others None is e = others s (none_next t s h is) e
  next_until n t s r h others (Some start) is e =
      let b = bind_ok (unfold_task two t (Some start) s) (unfold_tasks two n (t + 1)) r e in
      others b.0 (some_next t start s b.0 h is b.1) b.2

  pub tasks_until : (n t : ℕ) (s r : UnfoldingState) → Until t s → unfold_tasks two n t s ≡ Ok r → Until (t + n) r
  unfolding unfold_tasks
  tasks_until zero t s r h e = subst (λ q. Until (t + zero) q) (ok_is s r e) (subst (λ m. Until m s) (let z : t ≡ t + zero = omega arith in z) h)
  tasks_until (suc n) t s r h e =
      subst (λ m. Until m r) (let z : t + 1 + n ≡ t + suc n = omega arith in z)
      (next_until n t s r h (λ m g f. tasks_until n (t + 1) m r g f) (start_at s t) refl e)

-- what holds of statements holds of those behind the first one, and of its body
pub record IsOfParts (P : Tree → Type 0) : Type 0 where
  pub of_plain : (x : Plain) (rest : Tree) → P (plain x rest) → P rest
  pub of_fork : (x : List ℕ) (body rest : Tree) → P (fork x body rest) → P body × P rest
  pub of_loop : (k : ℕ) (body rest : Tree) → P (loop k body rest) → P body × P rest

module _ (P : Tree → Type 0) (parts : IsOfParts P) where
  -- it holds of the body with which a task was forked
  abbrev pub OfStart : Option Start → Type 0
  OfStart None = Unit {0}
  OfStart (Some start) = P start.body

  abbrev pub OfComing : Coming → Type 0
  OfComing (a_fork x body) = P body
  OfComing c = Unit {0}

  abbrev pub OfVisits : List Visit → Type 0
  OfVisits [] = Unit {0}
  OfVisits (m ∷ ms) = OfComing m.coming × OfVisits ms

  of_more : (xs ys : List Visit) → OfVisits xs → OfVisits ys → OfVisits (xs ++ ys)
  of_more [] ys a b = b
  of_more (x ∷ xs) ys a b = (a.0, of_more xs ys a.1 b)

  of_times : (k : ℕ) (xs : List Visit) → OfVisits xs → OfVisits (times k xs)
  of_times zero xs a = tt
  of_times (suc k) xs a = of_more xs (times k xs) a (of_times k xs a)

  pub of_body : (n : ℕ) (body : Tree) → P body → OfVisits (visits_of n body)
  of_body n done h = tt
  of_body n (plain x rest) h = (tt, of_body (n + 1) rest (parts.of_plain x rest h))
  of_body n (fork x body rest) h = let both = parts.of_fork x body rest h in (both.0, of_body (n + 1 + count body) rest both.1)
  of_body n (loop k body rest) h =
      let both = parts.of_loop k body rest h in (
        tt,
        of_more (times k (visit n a_turn ∷ visits_of (n + 1) body)) (visits_of (n + 1 + count body) rest)
            (of_times k (visit n a_turn ∷ visits_of (n + 1) body) (tt, of_body (n + 1) body both.0)) (of_body (n + 1 + count body) rest both.1),
      )

  -- what holds of each state of the unfolding
  pub record Kept (s : UnfoldingState) : Type 0 where
    pub codes : length s.plan.codes ≡ length s.plan.parents
    pub starts : length s.starts ≡ length s.plan.parents
    pub few_tasks : length s.plan.parents ≤ max_tasks
    pub few_ops : sum_by length s.plan.codes ≤ max_ops
    pub drawn : (c u : ℕ) → is_parent u (slice_index_or s.plan.parents c None) ≡ true → u < c
    pub bodies : (c : ℕ) → OfStart (start_at s c)

  -- what task t does to a state: the codes of the other tasks stay, and the starts of those up to t
  pub record Steps (t : ℕ) (s r : UnfoldingState) : Type 0 where
    pub kept : Kept r
    pub here : t < length r.plan.codes
    pub others : (u : ℕ) → (u ≡ t → ⊥) → code r u ≡ code s u
    pub starts : (u : ℕ) → u ≤ t → start_at r u ≡ start_at s u

  pub steps_same : (t : ℕ) (s v : UnfoldingState) → v.plan.parents ≡ s.plan.parents → v.plan.codes ≡ s.plan.codes → v.starts ≡ s.starts → t < length s.plan.codes → Kept s → Steps t s v
  steps_same t s v parents codes starts here k = record {
    kept = record {
      codes = ap length codes ∙ k.codes ∙ ap length (sym parents);
      starts = ap length starts ∙ k.starts ∙ ap length (sym parents);
      few_tasks = subst (λ ps. length ps ≤ max_tasks) (sym parents) k.few_tasks;
      few_ops = subst (λ cs. sum_by length cs ≤ max_ops) (sym codes) k.few_ops;
      drawn = λ c u is. k.drawn c u (subst (λ ps. is_parent u (slice_index_or ps c None) ≡ true) parents is);
      bodies = λ c. subst (λ ss. OfStart (slice_index_or ss c None)) (sym starts) (k.bodies c);
    };
    here = subst (λ cs. t < length cs) (sym codes) here;
    others = λ u n. ap (λ cs. get_or cs u []) codes;
    starts = λ u l. ap (λ ss. slice_index_or ss u None) starts;
  }

  pub steps_is : (t : ℕ) (s r : UnfoldingState) → s ≡ r → t < length s.plan.codes → Kept s → Steps t s r
  steps_is t s r e here k = subst (λ q. Steps t s q) e (steps_same t s s refl refl refl here k)

  pub steps_more : (t : ℕ) (s u r : UnfoldingState) → Steps t s u → Steps t u r → Steps t s r
  steps_more t s u r a b = record { kept = b.kept; here = b.here; others = λ c n. b.others c n ∙ a.others c n; starts = λ c l. b.starts c l ∙ a.starts c l }

  -- one op more
  added : (t : ℕ) (o : Op) (s : UnfoldingState) → Kept s → t < length s.plan.codes → sum_by length s.plan.codes < max_ops → Steps t s (record s { plan = with_op t o s.plan })
  added t o s k here room =
      let v = get_or s.plan.codes t [] ++ o ∷ [] in
      record {
        kept = record {
          codes = length-set s.plan.codes t v ∙ k.codes;
          starts = k.starts;
          few_tasks = k.few_tasks;
          few_ops = omega (arith, one_more_op s.plan t o here, room);
          drawn = k.drawn;
          bodies = k.bodies;
        };
        here = subst (λ n. t < n) (sym (length-set s.plan.codes t v)) here;
        others = λ u n. get_or-set_other s.plan.codes t u v [] n;
        starts = λ u l. refl;
      }

  steps_op : (t n : ℕ) (o : Op) (s r : UnfoldingState) → Kept s → t < length s.plan.codes → add_op t n o s ≡ Ok r → Steps t s r
  unfolding add_op
  steps_op t n o s r k here e =
      let b = bind_ok (fault_unless (nat_lt (sum_by length s.plan.codes) max_ops) too_many_ops n) (λ room. Ok (record s { plan = with_op t o s.plan })) r e in
      let is : record s { plan = with_op t o s.plan } ≡ r = ok_is _ r b.2 in
      let room : nat_lt (sum_by length s.plan.codes) max_ops ≡ true = passed (nat_lt (sum_by length s.plan.codes) max_ops) too_many_ops n b.0 b.1 in
      subst (λ q. Steps t s q) is (added t o s k here (ltb-true (sum_by length s.plan.codes) max_ops room))

  -- an op, behind a change of other things
  steps_op_from : (t n : ℕ) (o : Op) (s v r : UnfoldingState) → Steps t s v → add_op t n o v ≡ Ok r → Steps t s r
  steps_op_from t n o s v r a e = steps_more t s v r a (steps_op t n o v r a.kept a.here e)

  steps_task : (t : ℕ) (x : List ℕ) (s : UnfoldingState) → Kept s → t < length s.plan.codes → length s.plan.parents < max_tasks → Steps t s (with_new_task t x s)
  steps_task t x s k here room = record {
    kept = record {
      codes = omega (arith, k.codes, length-append s.plan.codes ([] ∷ []), length-append s.plan.parents (Some (task t) ∷ []));
      starts = omega (arith, k.starts, length-append s.starts (None ∷ []), length-append s.plan.parents (Some (task t) ∷ []));
      few_tasks = omega (arith, room, length-append s.plan.parents (Some (task t) ∷ []));
      few_ops = omega (arith, k.few_ops, sum_by-append length s.plan.codes ([] ∷ []));
      drawn = drawn_more s.plan.parents t (omega (arith, here, k.codes)) k.drawn;
      bodies = λ c. subst OfStart (sym (at_more s.starts None c)) (k.bodies c);
    };
    here = omega (arith, here, length-append s.plan.codes ([] ∷ []));
    others = λ u n. at_more s.plan.codes [] u;
    starts = λ u l. at_more s.starts None u;
  }

  acts_steps : (t n : ℕ) (x : Plain) (s r : UnfoldingState) → Kept s → t < length s.plan.codes → act t n x s ≡ Ok r → Steps t s r
  unfolding act
  acts_steps t n (new_task x) s r k here e =
      let b = bind_ok (fault_unless (nat_lt (length s.plan.parents) max_tasks) too_many_tasks n) _ r e in
      let c = bind_ok (fault_unless (has_cells (length s.plan.parents + 1) (length s.plan.makers)) too_many_cells n) (λ cells. Ok (with_new_task t x s)) r b.2 in
      let is : with_new_task t x s ≡ r = ok_is _ r c.2 in
      let room : nat_lt (length s.plan.parents) max_tasks ≡ true = passed (nat_lt (length s.plan.parents) max_tasks) too_many_tasks n b.0 b.1 in
      subst (λ q. Steps t s q) is (steps_task t x s k here (ltb-true (length s.plan.parents) max_tasks room))
  acts_steps t n (new_phaser x) s r k here e =
      let b = bind_ok (fault_unless (nat_lt (length s.plan.makers) max_phasers) too_many_phasers n) _ r e in
      let c = bind_ok (fault_unless (has_cells (length s.plan.parents) (length s.plan.makers + 1)) too_many_cells n) _ r b.2 in
      steps_op_from t n _ s (with_new_phaser t x s) r (steps_same t s (with_new_phaser t x s) refl refl refl here k) c.2
  acts_steps t n (reg x y) s r k here e =
      let b = bind_ok (as_task n (s.names x)) _ r e in
      let c = bind_ok (as_phaser n (s.names y)) _ r b.2 in
      let d = bind_ok (unforked_child t n b.0 s) _ r c.2 in
      let f = bind_ok (fault_unless (s.members t c.0) not_member n) _ r d.2 in
      let g = bind_ok (fault_unless (not (s.members b.0 c.0)) already_member n) _ r f.2 in
      let v = with_members (with_member b.0 c.0 true s.members) s in
      steps_op_from t n _ s v r (steps_same t s v refl refl refl here k) g.2
  acts_steps t n (dereg x) s r k here e =
      let b = bind_ok (member_of t n (s.names x) s) _ r e in
      let v = with_members (with_member t b.0 false s.members) s in
      steps_op_from t n _ s v r (steps_same t s v refl refl refl here k) b.2
  acts_steps t n (adv x) s r k here e = let b = bind_ok (member_of t n (s.names x) s) _ r e in steps_op t n _ s r k here b.2
  acts_steps t n (await x off) s r k here e = let b = bind_ok (member_of t n (s.names x) s) _ r e in steps_op t n _ s r k here b.2
  acts_steps t n skip s r k here e = steps_is t s r (ok_is s r e) here k

  -- a fork of a task that was drawn here
  drew : (t n c : ℕ) (s : UnfoldingState) (x : Unit {0}) → unforked_child t n c s ≡ Ok x → is_parent t (slice_index_or s.plan.parents c None) ≡ true
  drew t n c s x e =
      let b = bind_ok (fault_unless (is_parent t (slice_index_or s.plan.parents c None)) not_drawn_here n) _ x e in
      passed (is_parent t (slice_index_or s.plan.parents c None)) not_drawn_here n b.0 b.1

  steps_start : (t c : ℕ) (start : Start) (s : UnfoldingState) → Kept s → t < length s.plan.codes → t < c → P start.body → Steps t s (with_start c start s)
  steps_start t c start s k here later body = record {
    kept = record {
      codes = k.codes;
      starts = length-set s.starts c (Some start) ∙ k.starts;
      few_tasks = k.few_tasks;
      few_ops = k.few_ops;
      drawn = k.drawn;
      bodies = λ u. at_set OfStart s.starts c (Some start) None u (λ same l. body) (λ other. k.bodies u) (λ past. tt);
    };
    here = here;
    others = λ u n. refl;
    starts = λ u l. get_or-set_other s.starts c u (Some start) None (λ same. absurd (omega (arith, same, l, later)));
  }

  forks_steps : (t n : ℕ) (x : List ℕ) (body : Tree) (s r : UnfoldingState) → P body → Kept s → t < length s.plan.codes → act_fork t n x body s ≡ Ok r → Steps t s r
  unfolding act_fork
  forks_steps t n x body s r h k here e =
      let b = bind_ok (as_task n (s.names x)) _ r e in
      let c = bind_ok (unforked_child t n b.0 s) _ r b.2 in
      let start : Start = record { body = body; first = n + 1; names = s.names } in
      steps_op_from t n (op.Fork (task b.0)) s (with_start b.0 start s) r (steps_start t b.0 start s k here (k.drawn b.0 t (drew t n b.0 s c.0 c.1)) h) c.2

  comes_steps : (t n : ℕ) (c : Coming) (s r : UnfoldingState) → OfComing c → Kept s → t < length s.plan.codes → come_to t n c s ≡ Ok r → Steps t s r
  comes_steps t n (a_plain x) s r h k here e = acts_steps t n x s r k here e
  comes_steps t n (a_fork x body) s r h k here e = forks_steps t n x body s r h k here e
  comes_steps t n a_loop s r h k here e = steps_is t s r (ok_is s r e) here k
  comes_steps t n a_turn s r h k here e = steps_is t s r (ok_is s r e) here k

  visit_steps : (t : ℕ) (m : Visit) (s r : UnfoldingState) → OfComing m.coming → Kept s → t < length s.plan.codes → make_visit t m s ≡ Ok r → Steps t s r
  unfolding count_visit
  visit_steps t m s r h k here e =
      let v : UnfoldingState = record s { visits = s.visits + 1 } in
      let b = bind_ok (count_visit m.statement s) (come_to t m.statement m.coming) r e in
      let c = bind_ok (fault_unless (nat_lt s.visits max_visits) too_many_visits m.statement) (λ room. Ok v) b.0 b.1 in
      let is : b.0 ≡ v = sym (ok_is v b.0 c.2) in
      let a = steps_same t s v refl refl refl here k in
      steps_more t s v r a (comes_steps t m.statement m.coming v r h a.kept a.here (subst (λ q. come_to t m.statement m.coming q ≡ Ok r) is b.2))

  pub visits_steps : (t : ℕ) (ms : List Visit) (s r : UnfoldingState) → OfVisits ms → Kept s → t < length s.plan.codes → make_visits t ms s ≡ Ok r → Steps t s r
  visits_steps t [] s r h k here e = steps_is t s r (no_visit t s r e) here k
  visits_steps t (m ∷ ms) s r h k here e =
      let b = first_visit t m ms s r e in
      let a = visit_steps t m s b.0 h.0 k here b.1 in
      steps_more t s b.0 r a (visits_steps t ms b.0 r h.1 a.kept a.here b.2)

  -- ---- the end of a task

  -- from s to r task t leaves these phasers
  pub record Leaving (t : ℕ) (s r : UnfoldingState) : Type 0 where
    pub phasers : List ℕ
    pub adds : Adds t s r (drops_of phasers)
    pub steps : Steps t s r

  leaving_none : (t : ℕ) (s r : UnfoldingState) → s ≡ r → t < length s.plan.codes → Kept s → Leaving t s r
  leaving_none t s r e here k = record {
    phasers = [];
    adds = adds_nothing t s r here (ap (λ (q : UnfoldingState). q.plan.codes) (sym e));
    steps = steps_is t s r e here k;
  }

  leaving_more : (t : ℕ) (s u r : UnfoldingState) → Leaving t s u → Leaving t u r → Leaving t s r
  leaving_more t s u r a b = record {
    phasers = a.phasers ++ b.phasers;
    adds = subst (λ os. Adds t s r os) (sym (map-append (λ p. op.Drop (phaser p)) a.phasers b.phasers))
        (adds_more t s u r (drops_of a.phasers) (drops_of b.phasers) a.adds b.adds);
    steps = steps_more t s u r a.steps b.steps;
  }

  leaves_one : (t n p : ℕ) (s r : UnfoldingState) (b : Bool) → s.members t p ≡ b → Kept s → t < length s.plan.codes → leave t n p s ≡ Ok r → Leaving t s r
  unfolding leave
  leaves_one t n p s r false is k here e =
      let same : Ok s ≡ Ok r =
      subst (λ (b : Bool). (if b then add_op t n (op.Drop (phaser p)) (with_members (with_member t p false s.members) s) else Ok s) ≡ Ok r) is e in
      leaving_none t s r (ok_is s r same) here k
  leaves_one t n p s r true is k here e =
      let v = with_members (with_member t p false s.members) s in
      let op_is : add_op t n (op.Drop (phaser p)) v ≡ Ok r = subst (λ (b : Bool). (if b then add_op t n (op.Drop (phaser p)) v else Ok s) ≡ Ok r) is e in
      record {
        phasers = p ∷ [];
        adds = adds_from t s v r (op.Drop (phaser p) ∷ []) refl (adds_op t n (op.Drop (phaser p)) v r here op_is).0;
        steps = steps_op_from t n (op.Drop (phaser p)) s v r (steps_same t s v refl refl refl here k) op_is;
      }

  pub leaves_below : (t n p : ℕ) (s r : UnfoldingState) → Kept s → t < length s.plan.codes → leave_below t n p s ≡ Ok r → Leaving t s r
  unfolding leave_below
  leaves_below t n zero s r k here e = leaving_none t s r (ok_is s r e) here k
  leaves_below t n (suc p) s r k here e =
      let b = bind_ok (leave_below t n p s) (leave t n p) r e in
      let a = leaves_below t n p s b.0 k here b.1 in
      leaving_more t s b.0 r a (leaves_one t n p b.0 r (b.0.members t p) refl a.steps.kept a.steps.here b.2)

  -- ---- a task

  -- what task t's visits and end make of a state in which it has no op
  record Ended (two : Bool) (t : ℕ) (start : Start) (s r : UnfoldingState) : Type 0 where
    steps : Steps t s r
    pieces : List Piece
    has : HasBodyPieces two start.body (code r t) pieces

  ends : (two : Bool) (t n : ℕ) (start : Start) (s v r : UnfoldingState) → v.plan ≡ s.plan → v.starts ≡ s.starts → P start.body → code s t ≡ [] → Kept s → t < length s.plan.codes →
      ended two t n (make_visits t (visits_of start.first start.body) v) ≡ Ok r → Ended two t start s r
  ends two t n start s v r plan starts h empty k here e = by two refl
    where
      first : Steps t s v
      first = steps_same t s v (ap (λ p. p.parents) plan) (ap (λ p. p.codes) plan) starts here k

      empty_too : code v t ≡ []
      empty_too = ap (λ p. get_or p.codes t []) plan ∙ empty

      by : (b : Bool) → two ≡ b → Ended two t start s r
      by false is =
          let made : make_visits t (visits_of start.first start.body) v ≡ Ok r = subst (λ b. ended b t n (make_visits t (visits_of start.first start.body) v) ≡ Ok r) is e in
          let l = leaves_of t start.first start.body v r first.here made in
          record {
            steps = steps_more t s v r first (visits_steps t (visits_of start.first start.body) v r (of_body start.first start.body h) first.kept first.here made);
            pieces = l.pieces;
            has = record {
              made = l.ops;
              left = [];
              body_pieces = l.pieces;
              leaves = l.leaves;
              in_two = λ _. refl;
              code_is = l.adds.more ∙ ap (λ xs. xs ++ l.ops) empty_too ∙ sym (append-nil l.ops);
              pieces_are = sym (append-nil l.pieces);
            };
          }
      by true is =
          let whole : (make_visits t (visits_of start.first start.body) v >>= leave_below t n max_phasers) ≡ Ok r =
          subst (λ b. ended b t n (make_visits t (visits_of start.first start.body) v) ≡ Ok r) is e in
          let b = bind_ok (make_visits t (visits_of start.first start.body) v) (leave_below t n max_phasers) r whole in
          let l = leaves_of t start.first start.body v b.0 first.here b.1 in
          let a = visits_steps t (visits_of start.first start.body) v b.0 (of_body start.first start.body h) first.kept first.here b.1 in
          let d = leaves_below t n max_phasers b.0 r a.kept a.here b.2 in
          record {
            steps = steps_more t s v r first (steps_more t v b.0 r a d.steps);
            pieces = l.pieces ++ straight (drops_of d.phasers);
            has = record {
              made = l.ops;
              left = d.phasers;
              body_pieces = l.pieces;
              leaves = l.leaves;
              in_two = λ one. absurd (false≢true (sym one ∙ is));
              code_is = d.adds.more ∙ ap (λ xs. xs ++ drops_of d.phasers) (l.adds.more ∙ ap (λ xs. xs ++ l.ops) empty_too);
              pieces_are = refl;
            };
          }

  -- ---- all tasks

  -- the tasks below t are unfolded
  pub record Until (two : Bool) (t : ℕ) (s : UnfoldingState) : Type 0 where
    pub kept : Kept s
    pub before : (u : ℕ) → u < t → (ps : List Piece) × HasCodePieces two (start_at s u) (code s u) ps
    pub later : (u : ℕ) → t ≤ u → code s u ≡ []

  until_next : (two : Bool) (t : ℕ) (s r : UnfoldingState) → Until two t s → Steps t s r →
      ((ps : List Piece) × HasCodePieces two (start_at r t) (code r t) ps) → Until two (t + 1) r
  until_next two t s r h a own = record {
    kept = a.kept;
    before = λ u l. elim (cases_eq u t) [
      | inl same ↦ subst (λ n. (ps : List Piece) × HasCodePieces two (start_at r n) (code r n) ps) (sym same) own
      | inr other ↦
          let was = h.before u (omega (arith, l, other)) in (
            was.0,
            subst (λ o. HasCodePieces two o (code r u) was.0) (sym (a.starts u (omega (arith, l))))
                (subst (λ os. HasCodePieces two (start_at s u) os was.0) (sym (a.others u other)) was.1),
          )
    ];
    later = λ u l. a.others u (λ same. absurd (omega (arith, same, l))) ∙ h.later u (omega (arith, l));
  }

  none_next : (two : Bool) (t : ℕ) (s : UnfoldingState) → Until two t s → start_at s t ≡ None → Until two (t + 1) s
  none_next two t s h none = record {
    kept = h.kept;
    before = λ u l. elim (cases_lt u t) [
      | inl below ↦ h.before u below
      | inr same ↦
          let is : u ≡ t = omega (arith, l, same) in
          subst (λ n. (ps : List Piece) × HasCodePieces two (start_at s n) (code s n) ps) (sym is)
          ([], subst (λ o. HasCodePieces two o (code s t) []) (sym none) (h.later t (omega arith), refl))
    ];
    later = λ u l. h.later u (omega (arith, l));
  }

  pub inside : (t : ℕ) (start : Start) (s : UnfoldingState) → Kept s → start_at s t ≡ Some start → t < length s.plan.codes
  inside t start s k is = elim (cases_lt t (length s.starts)) [
    | inl l ↦ omega (arith, l, k.starts, k.codes)
    | inr l ↦ absurd (let none = get_or_past s.starts t None l in cc)
  ]

  some_next :
      (two : Bool) (t : ℕ) (start : Start) (s r : UnfoldingState) → Until two t s → start_at s t ≡ Some start → unfold_task two t (Some start) s ≡ Ok r →
      Until two (t + 1) r
  some_next two t start s r h is e =
      let body : P start.body = subst OfStart is (h.kept.bodies t) in
      let a = ends two t (start.first - 1) start s (with_names start.names s) r refl refl body (h.later t (omega arith)) h.kept (inside t start s h.kept is) e in
      until_next two t s r h a.steps (a.pieces, subst (λ o. HasCodePieces two o (code r t) a.pieces) (sym (a.steps.starts t (omega arith) ∙ is)) a.has)

  pub opening_kept : (body : Tree) → P body → Kept (opening_state body)
  opening_kept body h = record { codes = refl; starts = refl; few_tasks = omega arith; few_ops = omega arith; drawn = none_drawn; bodies = first }
    where
      none_drawn : (c u : ℕ) → is_parent u (slice_index_or (opening_state body).plan.parents c None) ≡ true → u < c
      none_drawn zero u is = absurd (false≢true is)
      none_drawn (suc c) u is = absurd (false≢true is)

      first : (c : ℕ) → OfStart (start_at (opening_state body) c)
      first zero = h
      first (suc c) = tt

  opening_until : (two : Bool) (body : Tree) → P body → Until two 0 (opening_state body)
  opening_until two body h = record { kept = opening_kept body h; before = λ u l. absurd (omega (arith, l)); later = none }
    where
      none : (u : ℕ) → 0 ≤ u → code (opening_state body) u ≡ []
      none zero l = refl
      none (suc u) l = refl

  -- at the end
  pub end_until : (two : Bool) (body : Tree) (end : UnfoldingState) → P body → unfold_tasks two max_tasks 0 (opening_state body) ≡ Ok end → Until two max_tasks end
  end_until two body end h e = tasks_until two (Until two) (none_next two) (some_next two) max_tasks 0 (opening_state body) end (opening_until two body h) e

  pub end_has : (two : Bool) (end : UnfoldingState) → Until two max_tasks end → (t : ℕ) → (ps : List Piece) × HasCodePieces two (start_at end t) (code end t) ps
  end_has two end h t = elim (cases_lt t max_tasks) [
    | inl l ↦ h.before t l
    | inr l ↦
        let none : start_at end t ≡ None = get_or_past end.starts t None (omega (arith, l, h.kept.starts, h.kept.few_tasks)) in
        ([], subst (λ o. HasCodePieces two o (code end t) []) (sym none) (h.later t l, refl))
  ]
