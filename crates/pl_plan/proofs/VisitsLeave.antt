-- What visits add to a task's code, and the pieces that they leave.
use Rattle.std.proofs.Common.{◌≡◌, ℕ, zero, suc, ◌+◌, ◌<◌, Bool, true, false, not, Option, Some, None, Ok, Err, List, [], ◌∷◌, ◌++◌, length}
use Rattle.std.proofs.Common.{get_or, refl, sym, ap, subst, ◌∙◌, arith, append_assoc, append-nil, length-append}
use Rattle.std.specs.Prelude.{nat_lt, sum_by}
use Rattle.std.proofs.lemmas.List.{append_cancel_left, get_or-set_same, get_or_append_left, length-set}
use Rattle.std.proofs.lemmas.Bool.{false≢true, and_parts}
use Rattle.armus_base.specs.declared.op.Op.{Op}
use Rattle.armus_base.specs.declared.op.Op.TheVariants as op
use Rattle.armus_base.specs.declared.piece.Piece.{Piece}
use Rattle.armus_base.specs.declared.piece.Piece.TheVariants.{Op as Single, Repeat}
use Rattle.armus_base.specs.Limits.{max_tasks, max_phasers, max_ops}
use Rattle.armus_base.specs.Pieces.{times}
use Rattle.armus_base.specs.Numbers.{phaser, task}
use Rattle.armus_base.specs.Plans.{Plan}
use Rattle.pl_syntax.specs.Tree.{Plain, Tree, adv, await, count, dereg, done, fork, loop, new_phaser, new_task, plain, reg, skip}
use Rattle.pl_plan.specs.Limits.{max_visits}
use Rattle.pl_plan.specs.Unfolding.{◌>>=◌, Names, Outcome, Thing, UnfoldingState, Visit}
use Rattle.pl_plan.specs.Unfolding.{a_fork, a_loop, a_phaser, a_plain, a_task, a_turn, act, act_fork, add_op, already_member, as_phaser, as_task, come_to}
use Rattle.pl_plan.specs.Unfolding.{count_visit, fault_unless}
use Rattle.pl_plan.specs.Unfolding.{make_visit, make_visits, member_of, not_member, has_cells, too_many_cells, too_many_ops, too_many_phasers, too_many_tasks}
use Rattle.pl_plan.specs.Unfolding.{too_many_visits, unforked_child}
use Rattle.pl_plan.specs.Unfolding.{visit, visits_of, with_member, with_members, with_new_phaser, with_new_task, with_op, with_start}
use Rattle.pl_plan.specs.FoldedOps.{is_steady, is_steady_plain, makes_op}
use Rattle.pl_plan.specs.calls.Folding.{LeavesPieces}
use Rattle.pl_plan.specs.calls.Folding as leaves

pub bind_ok : {A B : Type 0} (o : Outcome A) (f : A → Outcome B) (y : B) → (o >>= f) ≡ Ok y → (x : A) × (o ≡ Ok x) × (f x ≡ Ok y)
bind_ok (Ok x) f y e = (x, refl, e)
bind_ok (Err z) f y e = absurd (cc)

pub ok_is : {A : Type 0} (x y : A) → ◌≡◌ {A = Outcome A} (Ok x) (Ok y) → x ≡ y
ok_is x y e = cc

-- the code of task t
abbrev pub code : UnfoldingState → ℕ → List Op
code s t = get_or s.plan.codes t []

-- from s to r task t's code gets these ops more
pub record Adds (t : ℕ) (s r : UnfoldingState) (os : List Op) : Type 0 where
  pub here : t < length r.plan.codes
  pub more : code r t ≡ code s t ++ os

pub adds_nothing : (t : ℕ) (s r : UnfoldingState) → t < length s.plan.codes → r.plan.codes ≡ s.plan.codes → Adds t s r []
adds_nothing t s r here e = record {
  here = subst (λ cs. t < length cs) (sym e) here;
  more = ap (λ cs. get_or cs t []) e ∙ sym (append-nil (code s t));
}

pub adds_more : (t : ℕ) (s u r : UnfoldingState) (os more : List Op) → Adds t s u os → Adds t u r more → Adds t s r (os ++ more)
adds_more t s u r os more a b = record { here = b.here; more = b.more ∙ ap (λ xs. xs ++ more) a.more ∙ append_assoc (code s t) os more }

-- the same from a state with the same codes
pub adds_from : (t : ℕ) (s v r : UnfoldingState) (os : List Op) → v.plan.codes ≡ s.plan.codes → Adds t v r os → Adds t s r os
adds_from t s v r os e a = record { here = a.here; more = a.more ∙ ap (λ cs. get_or cs t [] ++ os) e }

added_op : (t : ℕ) (o : Op) (s : UnfoldingState) → t < length s.plan.codes → Adds t s (record s { plan = with_op t o s.plan }) (o ∷ [])
added_op t o s here =
    let v = get_or s.plan.codes t [] ++ o ∷ [] in
    record { here = subst (λ n. t < n) (sym (length-set s.plan.codes t v)) here; more = get_or-set_same s.plan.codes t v [] here }

pub adds_op : (t n : ℕ) (o : Op) (s r : UnfoldingState) → t < length s.plan.codes → add_op t n o s ≡ Ok r → Adds t s r (o ∷ []) × (r.names ≡ s.names)
unfolding add_op
adds_op t n o s r here e =
    let b = bind_ok (fault_unless (nat_lt (sum_by length s.plan.codes) max_ops) too_many_ops n) (λ room. Ok (record s { plan = with_op t o s.plan })) r e in
    let is : record s { plan = with_op t o s.plan } ≡ r = ok_is _ r b.2 in
    (subst (λ q. Adds t s q (o ∷ [])) is (added_op t o s here), ap (λ (q : UnfoldingState). q.names) (sym is))

-- ---- statements

-- what a statement without a body adds
pub record Acts (t : ℕ) (x : Plain) (s r : UnfoldingState) : Type 0 where
  pub ops : List Op
  pub adds : Adds t s r ops
  pub none : makes_op x ≡ false → ops ≡ []
  pub one : makes_op x ≡ true → (o : Op) × (ops ≡ o ∷ [])

by_op : (t n : ℕ) (x : Plain) (o : Op) (s v r : UnfoldingState) → makes_op x ≡ true → v.plan.codes ≡ s.plan.codes → t < length s.plan.codes → add_op t n o v ≡ Ok r → Acts t x s r
by_op t n x o s v r makes same here e = record {
  ops = o ∷ [];
  adds = adds_from t s v r (o ∷ []) same (adds_op t n o v r (subst (λ cs. t < length cs) (sym same) here) e).0;
  none = λ h. absurd (false≢true (sym h ∙ makes));
  one = λ h. (o, refl);
}

by_none : (t : ℕ) (x : Plain) (s r : UnfoldingState) → makes_op x ≡ false → Adds t s r [] → Acts t x s r
by_none t x s r makes a = record { ops = []; adds = a; none = λ h. refl; one = λ h. absurd (false≢true (sym makes ∙ h)) }

acts : (t n : ℕ) (x : Plain) (s r : UnfoldingState) → t < length s.plan.codes → act t n x s ≡ Ok r → Acts t x s r
unfolding act
acts t n (new_task x) s r here e =
    let b = bind_ok (fault_unless (nat_lt (length s.plan.parents) max_tasks) too_many_tasks n) _ r e in
    let c = bind_ok (fault_unless (has_cells (length s.plan.parents + 1) (length s.plan.makers)) too_many_cells n) (λ cells. Ok (with_new_task t x s)) r b.2 in
    let is : with_new_task t x s ≡ r = ok_is _ r c.2 in
    by_none t (new_task x) s r refl (subst (λ q. Adds t s q []) is
    (record { here = simp length-append (omega arith); more = get_or_append_left s.plan.codes ([] ∷ []) [] t here ∙ sym (append-nil (code s t)) }))
acts t n (new_phaser x) s r here e =
    let b = bind_ok (fault_unless (nat_lt (length s.plan.makers) max_phasers) too_many_phasers n) _ r e in
    let c = bind_ok (fault_unless (has_cells (length s.plan.parents) (length s.plan.makers + 1)) too_many_cells n) _ r b.2 in
    by_op t n (new_phaser x) _ s (with_new_phaser t x s) r refl refl here c.2
acts t n (reg x y) s r here e =
    let b = bind_ok (as_task n (s.names x)) _ r e in
    let c = bind_ok (as_phaser n (s.names y)) _ r b.2 in
    let d = bind_ok (unforked_child t n b.0 s) _ r c.2 in
    let f = bind_ok (fault_unless (s.members t c.0) not_member n) _ r d.2 in
    let g = bind_ok (fault_unless (not (s.members b.0 c.0)) already_member n) _ r f.2 in
    by_op t n (reg x y) _ s (with_members (with_member b.0 c.0 true s.members) s) r refl refl here g.2
acts t n (dereg x) s r here e =
    let b = bind_ok (member_of t n (s.names x) s) _ r e in by_op t n (dereg x) _ s (with_members (with_member t b.0 false s.members) s) r refl refl here b.2
acts t n (adv x) s r here e = let b = bind_ok (member_of t n (s.names x) s) _ r e in by_op t n (adv x) _ s s r refl refl here b.2
acts t n (await x off) s r here e = let b = bind_ok (member_of t n (s.names x) s) _ r e in by_op t n (await x off) _ s s r refl refl here b.2
acts t n skip s r here e = by_none t skip s r refl (adds_nothing t s r here (ap (λ (q : UnfoldingState). q.plan.codes) (sym (ok_is s r e))))

-- a fork adds an op
forks : (t n : ℕ) (x : List ℕ) (body : Tree) (s r : UnfoldingState) → t < length s.plan.codes → act_fork t n x body s ≡ Ok r → (o : Op) × Adds t s r (o ∷ [])
unfolding act_fork
forks t n x body s r here e =
    let b = bind_ok (as_task n (s.names x)) _ r e in
    let c = bind_ok (unforked_child t n b.0 s) _ r b.2 in (
      op.Fork (task b.0),
      adds_from t s (with_start b.0 (record { body = body; first = n + 1; names = s.names }) s) r (op.Fork (task b.0) ∷ []) refl
          (adds_op t n (op.Fork (task b.0)) (with_start b.0 (record { body = body; first = n + 1; names = s.names }) s) r here c.2).0,
    )

-- ---- visits

-- a visit is counted, and then made
pub counted : (t : ℕ) (m : Visit) (s r : UnfoldingState) → make_visit t m s ≡ Ok r →
    (v : UnfoldingState) × (v.plan ≡ s.plan) × (v.names ≡ s.names) × (come_to t m.statement m.coming v ≡ Ok r)
unfolding count_visit
counted t m s r e =
    let b = bind_ok (count_visit m.statement s) (come_to t m.statement m.coming) r e in
    let c = bind_ok (fault_unless (nat_lt s.visits max_visits) too_many_visits m.statement) (λ room. Ok (record s { visits = s.visits + 1 })) b.0 b.1 in
    let is : record s { visits = s.visits + 1 } ≡ b.0 = ok_is _ b.0 c.2 in
    (b.0, ap (λ (q : UnfoldingState). q.plan) (sym is), ap (λ (q : UnfoldingState). q.names) (sym is), b.2)

pub first_visit : (t : ℕ) (m : Visit) (ms : List Visit) (s r : UnfoldingState) → make_visits t (m ∷ ms) s ≡ Ok r →
    (u : UnfoldingState) × (make_visit t m s ≡ Ok u) × (make_visits t ms u ≡ Ok r)
unfolding make_visits
first_visit t m ms s r e = bind_ok (make_visit t m s) (make_visits t ms) r e

pub no_visit : (t : ℕ) (s r : UnfoldingState) → make_visits t [] s ≡ Ok r → s ≡ r
unfolding make_visits
no_visit t s r e = ok_is s r e

pub visits_cut : (t : ℕ) (xs ys : List Visit) (s r : UnfoldingState) → make_visits t (xs ++ ys) s ≡ Ok r →
    (u : UnfoldingState) × (make_visits t xs s ≡ Ok u) × (make_visits t ys u ≡ Ok r)
unfolding make_visits
visits_cut t [] ys s r e = (s, refl, e)
visits_cut t (m ∷ xs) ys s r e =
    let b = first_visit t m (xs ++ ys) s r e in
    let c = visits_cut t xs ys b.0 r b.2 in
    (c.0, rw b.1 c.1, c.2)

-- ---- steady statements: what they add depends on the names alone

abbrev op_on : (ℕ → Op) → Option Thing → List Op
op_on f None = []
op_on f (Some (a_task c)) = []
op_on f (Some (a_phaser p)) = f p ∷ []

abbrev plain_ops : Names → Plain → List Op
plain_ops names (adv x) = op_on (λ p. op.Adv (phaser p)) (names x)
plain_ops names (await x off) = op_on (λ p. op.Await (phaser p) off) (names x)
plain_ops names x = []

abbrev pub steady_ops : Names → Tree → List Op
steady_ops names done = []
steady_ops names (plain x rest) = plain_ops names x ++ steady_ops names rest
steady_ops names (fork x body rest) = []
steady_ops names (loop k body rest) = times k (steady_ops names body) ++ steady_ops names rest

-- from s to r task t's code gets these ops more, and names stay
pub record Steadily (t : ℕ) (s r : UnfoldingState) (os : List Op) : Type 0 where
  pub adds : Adds t s r os
  pub names : r.names ≡ s.names

steadily_nothing : (t : ℕ) (s r : UnfoldingState) → t < length s.plan.codes → s ≡ r → Steadily t s r []
steadily_nothing t s r here e = record {
  adds = adds_nothing t s r here (ap (λ (q : UnfoldingState). q.plan.codes) (sym e));
  names = ap (λ (q : UnfoldingState). q.names) (sym e);
}

phaser_is : (n : ℕ) (thing : Option Thing) (p : ℕ) → as_phaser n thing ≡ Ok p → thing ≡ Some (a_phaser p)
phaser_is n None p e = absurd (cc)
phaser_is n (Some (a_task c)) p e = absurd (cc)
phaser_is n (Some (a_phaser q)) p e = cc

member_is : (t n : ℕ) (thing : Option Thing) (s : UnfoldingState) (p : ℕ) → member_of t n thing s ≡ Ok p → thing ≡ Some (a_phaser p)
unfolding member_of
member_is t n thing s p e =
    let b = bind_ok (as_phaser n thing) _ p e in
    let c = bind_ok (fault_unless (s.members t b.0) not_member n) (λ inside. Ok b.0) p b.2 in
    phaser_is n thing p (b.1 ∙ ap (λ q. Ok q) (ok_is b.0 p c.2))

steadily_op : (t n : ℕ) (f : ℕ → Op) (thing : Option Thing) (p : ℕ) (s r : UnfoldingState) → t < length s.plan.codes → thing ≡ Some (a_phaser p) →
    add_op t n (f p) s ≡ Ok r → Steadily t s r (op_on f thing)
steadily_op t n f thing p s r here is e =
    let a = adds_op t n (f p) s r here e in
    record { adds = subst (λ o. Adds t s r (op_on f o)) (sym is) a.0; names = a.1 }

steadily_plain : (t n : ℕ) (x : Plain) (s r : UnfoldingState) → is_steady_plain x ≡ true → t < length s.plan.codes → act t n x s ≡ Ok r →
    Steadily t s r (plain_ops s.names x)
unfolding act
steadily_plain t n (new_task x) s r steady here e = absurd (false≢true steady)
steadily_plain t n (new_phaser x) s r steady here e = absurd (false≢true steady)
steadily_plain t n (reg x y) s r steady here e = absurd (false≢true steady)
steadily_plain t n (dereg x) s r steady here e = absurd (false≢true steady)
steadily_plain t n (adv x) s r steady here e =
    let b = bind_ok (member_of t n (s.names x) s) _ r e in
    steadily_op t n (λ p. op.Adv (phaser p)) (s.names x) b.0 s r here (member_is t n (s.names x) s b.0 b.1) b.2
steadily_plain t n (await x off) s r steady here e =
    let b = bind_ok (member_of t n (s.names x) s) _ r e in
    steadily_op t n (λ p. op.Await (phaser p) off) (s.names x) b.0 s r here (member_is t n (s.names x) s b.0 b.1) b.2
steadily_plain t n skip s r steady here e = steadily_nothing t s r here (ok_is s r e)

steadily_more : (t : ℕ) (s u r : UnfoldingState) (os more : List Op) → Steadily t s u os → Steadily t u r more → Steadily t s r (os ++ more)
steadily_more t s u r os more a b = record { adds = adds_more t s u r os more a.adds b.adds; names = b.names ∙ a.names }

steadily_from : (t : ℕ) (s v r : UnfoldingState) (os : List Op) → v.plan ≡ s.plan → v.names ≡ s.names → Steadily t v r os → Steadily t s r os
steadily_from t s v r os plan names a = record {
  adds = adds_from t s v r os (ap (λ (p : Plan). p.codes) plan) a.adds;
  names = a.names ∙ names;
}

-- the turns of a loop, where each turn is steady
steadily_turns : (t n : ℕ) (body : Tree) →
    ((s r : UnfoldingState) → t < length s.plan.codes → make_visits t (visits_of (n + 1) body) s ≡ Ok r → Steadily t s r (steady_ops s.names body)) →
    (k : ℕ) (s r : UnfoldingState) → t < length s.plan.codes → make_visits t (times k (visit n a_turn ∷ visits_of (n + 1) body)) s ≡ Ok r →
    Steadily t s r (times k (steady_ops s.names body))
steadily_turns t n body f zero s r here e = steadily_nothing t s r here (no_visit t s r e)
steadily_turns t n body f (suc k) s r here e =
    let all = visits_cut t (visit n a_turn ∷ visits_of (n + 1) body) (times k (visit n a_turn ∷ visits_of (n + 1) body)) s r e in
    let b = first_visit t (visit n a_turn) (visits_of (n + 1) body) s all.0 all.1 in
    let c = counted t (visit n a_turn) s b.0 b.1 in
    let same : c.0 ≡ b.0 = ok_is c.0 b.0 c.3 in
    let plan : b.0.plan ≡ s.plan = ap (λ (q : UnfoldingState). q.plan) (sym same) ∙ c.1 in
    let names : b.0.names ≡ s.names = ap (λ (q : UnfoldingState). q.names) (sym same) ∙ c.2 in
    let turn = steadily_from t s b.0 all.0 (steady_ops b.0.names body) plan names (f b.0 all.0 (subst (λ (p : Plan). t < length p.codes) (sym plan) here) b.2) in
    let once = subst (λ ns. Steadily t s all.0 (steady_ops ns body)) names turn in
    let others = subst (λ ns. Steadily t all.0 r (times k (steady_ops ns body))) once.names (steadily_turns t n body f k all.0 r once.adds.here all.2) in
    steadily_more t s all.0 r (steady_ops s.names body) (times k (steady_ops s.names body)) once others

pub steadily : (t n : ℕ) (b : Tree) (s r : UnfoldingState) → is_steady b ≡ true → t < length s.plan.codes → make_visits t (visits_of n b) s ≡ Ok r →
    Steadily t s r (steady_ops s.names b)
steadily t n done s r steady here e = steadily_nothing t s r here (no_visit t s r e)
steadily t n (plain x rest) s r steady here e =
    let tests = and_parts (is_steady_plain x) (is_steady rest) steady in
    let b = first_visit t (visit n (a_plain x)) (visits_of (n + 1) rest) s r e in
    let c = counted t (visit n (a_plain x)) s b.0 b.1 in
    let first = steadily_from t s c.0 b.0 (plain_ops c.0.names x) c.1 c.2
    (steadily_plain t n x c.0 b.0 tests.0 (subst (λ (p : Plan). t < length p.codes) (sym c.1) here) c.3) in
    let one = subst (λ (ns : Names). Steadily t s b.0 (plain_ops ns x)) c.2 first in
    let others = subst (λ (ns : Names). Steadily t b.0 r (steady_ops ns rest)) one.names (steadily t (n + 1) rest b.0 r tests.1 one.adds.here b.2) in
    steadily_more t s b.0 r (plain_ops s.names x) (steady_ops s.names rest) one others
steadily t n (fork x body rest) s r steady here e = absurd (false≢true steady)
steadily t n (loop k body rest) s r steady here e =
    let tests = and_parts (is_steady body) (is_steady rest) steady in
    let turns = times k (visit n a_turn ∷ visits_of (n + 1) body) in
    let b = first_visit t (visit n a_loop) (turns ++ visits_of (n + 1 + count body) rest) s r e in
    let c = counted t (visit n a_loop) s b.0 b.1 in
    let same : c.0 ≡ b.0 = ok_is c.0 b.0 c.3 in
    let plan : b.0.plan ≡ s.plan = ap (λ (q : UnfoldingState). q.plan) (sym same) ∙ c.1 in
    let names : b.0.names ≡ s.names = ap (λ (q : UnfoldingState). q.names) (sym same) ∙ c.2 in
    let all = visits_cut t turns (visits_of (n + 1 + count body) rest) b.0 r b.2 in
    let here_too : t < length b.0.plan.codes = subst (λ (p : Plan). t < length p.codes) (sym plan) here in
    let first = steadily_from t s b.0 all.0 (times k (steady_ops b.0.names body)) plan names
    (steadily_turns t n body (λ u v h. steadily t (n + 1) body u v tests.0 h) k b.0 all.0 here_too all.1) in
    let one = subst (λ (ns : Names). Steadily t s all.0 (times k (steady_ops ns body))) names first in
    let others = subst (λ (ns : Names). Steadily t all.0 r (steady_ops ns rest)) one.names (steadily t (n + 1 + count body) rest all.0 r tests.1 one.adds.here all.2) in
    steadily_more t s all.0 r (times k (steady_ops s.names body)) (steady_ops s.names rest) one others

-- ---- the pieces that visits leave

nil_append : (ps qs : List Piece) → ps ++ qs ≡ [] → (ps ≡ []) × (qs ≡ [])
nil_append [] qs e = (refl, e)
nil_append (p ∷ ps) qs e = absurd (cc)

-- where no piece is left, there is no op
no_piece_no_op : {b : Tree} {os : List Op} {ps : List Piece} → LeavesPieces b os ps → ps ≡ [] → os ≡ []
no_piece_no_op leaves.nothing e = refl
no_piece_no_op (leaves.no_op x rest os ps makes l) e = no_piece_no_op l e
no_piece_no_op (leaves.op x rest o os ps makes l) e = absurd (cc)
no_piece_no_op (leaves.a_fork x body rest o os ps l) e = absurd (cc)
no_piece_no_op (leaves.folded k body rest once os bs ps steady some l m) e = absurd (cc)
no_piece_no_op (leaves.no_piece k body rest os ps steady l m) e = no_piece_no_op m e
no_piece_no_op (leaves.no_turn body rest os ps m) e = no_piece_no_op m e
no_piece_no_op (leaves.a_turn k body rest once os ps qs steady l m) e =
    let none = nil_append ps qs e in no_ops once os (no_piece_no_op l none.0) (no_piece_no_op m none.1)
  where
    no_ops : (xs ys : List Op) → xs ≡ [] → ys ≡ [] → xs ++ ys ≡ []
    no_ops xs ys e f = rw e f

-- the visits of these statements add ops to task t's code, which leave pieces
pub record Leaves (t : ℕ) (b : Tree) (s r : UnfoldingState) : Type 0 where
  pub ops : List Op
  pub pieces : List Piece
  pub adds : Adds t s r ops
  pub leaves : LeavesPieces b ops pieces

leaves_from : (t : ℕ) (b : Tree) (s v r : UnfoldingState) → v.plan ≡ s.plan → Leaves t b v r → Leaves t b s r
leaves_from t b s v r plan l = record {
  ops = l.ops;
  pieces = l.pieces;
  adds = adds_from t s v r l.ops (ap (λ (p : Plan). p.codes) plan) l.adds;
  leaves = l.leaves;
}

leaves_plain : (t : ℕ) (x : Plain) (rest : Tree) (s u r : UnfoldingState) (m : Bool) → makes_op x ≡ m → Acts t x s u → Leaves t rest u r → Leaves t (plain x rest) s r
leaves_plain t x rest s u r true makes a l =
    let one = a.one makes in
    record {
      ops = one.0 ∷ l.ops;
      pieces = Single one.0 ∷ l.pieces;
      adds = adds_more t s u r (one.0 ∷ []) l.ops (subst (λ os. Adds t s u os) one.1 a.adds) l.adds;
      leaves = leaves.op x rest one.0 l.ops l.pieces makes l.leaves;
    }
leaves_plain t x rest s u r false makes a l = record {
  ops = l.ops;
  pieces = l.pieces;
  adds = adds_more t s u r [] l.ops (subst (λ os. Adds t s u os) (a.none makes) a.adds) l.adds;
  leaves = leaves.no_op x rest l.ops l.pieces makes l.leaves;
}

no_turn_left : (t : ℕ) (body rest : Tree) (s u r : UnfoldingState) → s ≡ u → Leaves t rest u r → Leaves t (loop zero body rest) s r
no_turn_left t body rest s u r e l =
    leaves_from t (loop zero body rest) s u r (ap (λ (q : UnfoldingState). q.plan) (sym e))
    (record { ops = l.ops; pieces = l.pieces; adds = l.adds; leaves = leaves.no_turn body rest l.ops l.pieces l.leaves })

-- a turn, after the visit that begins it
one_turn : (t n : ℕ) (body : Tree) (s r : UnfoldingState) → make_visits t (visit n a_turn ∷ visits_of (n + 1) body) s ≡ Ok r →
    (v : UnfoldingState) × (v.plan ≡ s.plan) × (v.names ≡ s.names) × (make_visits t (visits_of (n + 1) body) v ≡ Ok r)
one_turn t n body s r e =
    let b = first_visit t (visit n a_turn) (visits_of (n + 1) body) s r e in
    let c = counted t (visit n a_turn) s b.0 b.1 in
    let same : c.0 ≡ b.0 = ok_is c.0 b.0 c.3 in
    (b.0, ap (λ (q : UnfoldingState). q.plan) (sym same) ∙ c.1, ap (λ (q : UnfoldingState). q.names) (sym same) ∙ c.2, b.2)

module _ (t n : ℕ) (body rest : Tree)
    (f : (s r : UnfoldingState) → t < length s.plan.codes → make_visits t (visits_of (n + 1) body) s ≡ Ok r → Leaves t body s r) where
  -- a loop that is not steady
  turns_left : (k : ℕ) (s u r : UnfoldingState) → is_steady body ≡ false → t < length s.plan.codes →
      make_visits t (times k (visit n a_turn ∷ visits_of (n + 1) body)) s ≡ Ok u → (t < length u.plan.codes → Leaves t rest u r) →
      Leaves t (loop k body rest) s r
  turns_left zero s u r unsteady here e g =
      let same = no_visit t s u e in no_turn_left t body rest s u r same (g (subst (λ (q : UnfoldingState). t < length q.plan.codes) same here))
  turns_left (suc k) s u r unsteady here e g =
      let all = visits_cut t (visit n a_turn ∷ visits_of (n + 1) body) (times k (visit n a_turn ∷ visits_of (n + 1) body)) s u e in
      let v = one_turn t n body s all.0 all.1 in
      let once = leaves_from t body s v.0 all.0 v.1 (f v.0 all.0 (subst (λ (p : Plan). t < length p.codes) (sym v.1) here) v.3) in
      let others = turns_left k all.0 u r unsteady once.adds.here all.2 g in
      record {
        ops = once.ops ++ others.ops;
        pieces = once.pieces ++ others.pieces;
        adds = adds_more t s all.0 r once.ops others.ops once.adds others.adds;
        leaves = leaves.a_turn k body rest once.ops others.ops once.pieces others.pieces unsteady once.leaves others.leaves;
      }

  -- a steady loop with a turn, of which all turns add the same
  steady_left : (k : ℕ) (s u r : UnfoldingState) (once : List Op) (bs : List Piece) → is_steady body ≡ true → LeavesPieces body once bs →
      Adds t s u (times (suc k) once) → Leaves t rest u r → Leaves t (loop (suc k) body rest) s r
  steady_left k s u r once [] steady turn all l =
      let none : once ≡ [] = no_piece_no_op turn refl in
      record {
        ops = l.ops;
        pieces = l.pieces;
        adds = adds_more t s u r [] l.ops (subst (λ os. Adds t s u os) (no_times (suc k) once none) all) l.adds;
        leaves = leaves.no_piece (suc k) body rest l.ops l.pieces steady (subst (λ os. LeavesPieces body os []) none turn) l.leaves;
      }
    where
      no_times : (j : ℕ) (os : List Op) → os ≡ [] → times j os ≡ []
      no_times zero os e = refl
      no_times (suc j) os e = rw e (no_times j [] refl)
  steady_left k s u r once (b ∷ bs) steady turn all l = record {
    ops = times (suc k) once ++ l.ops;
    pieces = Repeat (suc k) (length (b ∷ bs)) ∷ ((b ∷ bs) ++ l.pieces);
    adds = adds_more t s u r (times (suc k) once) l.ops all l.adds;
    leaves = leaves.folded k body rest once l.ops (b ∷ bs) l.pieces steady (omega arith) turn l.leaves;
  }

  turns_folded : (k : ℕ) (s u r : UnfoldingState) → is_steady body ≡ true → t < length s.plan.codes →
      make_visits t (times (suc k) (visit n a_turn ∷ visits_of (n + 1) body)) s ≡ Ok u → Leaves t rest u r → Leaves t (loop (suc k) body rest) s r
  turns_folded k s u r steady here e l =
      let all = visits_cut t (visit n a_turn ∷ visits_of (n + 1) body) (times k (visit n a_turn ∷ visits_of (n + 1) body)) s u e in
      let v = one_turn t n body s all.0 all.1 in
      let here_too : t < length v.0.plan.codes = subst (λ (p : Plan). t < length p.codes) (sym v.1) here in
      let first = f v.0 all.0 here_too v.3 in
      let same = steadily t (n + 1) body v.0 all.0 steady here_too v.3 in
      let alike : first.ops ≡ steady_ops v.0.names body = append_cancel_left (code v.0 t) first.ops (steady_ops v.0.names body) (sym first.adds.more ∙ same.adds.more) in
      let turns = steadily_turns t n body (λ a b h. steadily t (n + 1) body a b steady h) (suc k) s u here e in
      let once : steady_ops s.names body ≡ first.ops = sym (alike ∙ ap (λ ns. steady_ops ns body) v.2) in
      steady_left k s u r first.ops first.pieces steady first.leaves (subst (λ os. Adds t s u (times (suc k) os)) once turns.adds) l

  -- a loop
  loop_left : (steady : Bool) (k : ℕ) (s u r : UnfoldingState) → is_steady body ≡ steady → t < length s.plan.codes →
      make_visits t (times k (visit n a_turn ∷ visits_of (n + 1) body)) s ≡ Ok u → (t < length u.plan.codes → Leaves t rest u r) → Leaves t (loop k body rest) s r
  loop_left false k s u r is here e g = turns_left k s u r is here e g
  loop_left true zero s u r is here e g =
      let same = no_visit t s u e in no_turn_left t body rest s u r same (g (subst (λ (q : UnfoldingState). t < length q.plan.codes) same here))
  loop_left true (suc k) s u r is here e g =
      let turns = steadily_turns t n body (λ a b h. steadily t (n + 1) body a b is h) (suc k) s u here e in
      turns_folded k s u r is here e (g turns.adds.here)

-- the visits of any statements leave the pieces of the rule
pub leaves_of : (t n : ℕ) (b : Tree) (s r : UnfoldingState) → t < length s.plan.codes → make_visits t (visits_of n b) s ≡ Ok r → Leaves t b s r
leaves_of t n done s r here e =
    let adds = adds_nothing t s r here (ap (λ (q : UnfoldingState). q.plan.codes) (sym (no_visit t s r e))) in
    record { ops = []; pieces = []; adds = adds; leaves = leaves.nothing }
leaves_of t n (plain x rest) s r here e =
    let b = first_visit t (visit n (a_plain x)) (visits_of (n + 1) rest) s r e in
    let c = counted t (visit n (a_plain x)) s b.0 b.1 in
    let acted = acts t n x c.0 b.0 (subst (λ (p : Plan). t < length p.codes) (sym c.1) here) c.3 in
    leaves_from t (plain x rest) s c.0 r c.1 (leaves_plain t x rest c.0 b.0 r (makes_op x) refl acted (leaves_of t (n + 1) rest b.0 r acted.adds.here b.2))
leaves_of t n (fork x body rest) s r here e =
    let b = first_visit t (visit n (a_fork x body)) (visits_of (n + 1 + count body) rest) s r e in
    let c = counted t (visit n (a_fork x body)) s b.0 b.1 in
    let forked = forks t n x body c.0 b.0 (subst (λ (p : Plan). t < length p.codes) (sym c.1) here) c.3 in
    let l = leaves_of t (n + 1 + count body) rest b.0 r forked.1.here b.2 in
    leaves_from t (fork x body rest) s c.0 r c.1 (record {
      ops = forked.0 ∷ l.ops;
      pieces = Single forked.0 ∷ l.pieces;
      adds = adds_more t c.0 b.0 r (forked.0 ∷ []) l.ops forked.1 l.adds;
      leaves = leaves.a_fork x body rest forked.0 l.ops l.pieces l.leaves;
    })
leaves_of t n (loop k body rest) s r here e =
    let turns = times k (visit n a_turn ∷ visits_of (n + 1) body) in
    let b = first_visit t (visit n a_loop) (turns ++ visits_of (n + 1 + count body) rest) s r e in
    let c = counted t (visit n a_loop) s b.0 b.1 in
    let plan : b.0.plan ≡ s.plan = ap (λ (q : UnfoldingState). q.plan) (sym (ok_is c.0 b.0 c.3)) ∙ c.1 in
    let all = visits_cut t turns (visits_of (n + 1 + count body) rest) b.0 r b.2 in
    leaves_from t (loop k body rest) s b.0 r plan
    (loop_left t n body rest (λ u v h. leaves_of t (n + 1) body u v h) (is_steady body) k b.0 all.0 r refl (subst (λ (p : Plan). t < length p.codes) (sym plan) here) all.1
    (λ h. leaves_of t (n + 1 + count body) rest all.0 r h all.2))
