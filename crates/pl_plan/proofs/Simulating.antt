-- What the checker does at a step is what the unfolding does there.
use Rattle.std.proofs.Common.{◌≡◌, ℕ, ◌+◌, ◌<◌, ◌≤◌, Bool, true, false, not, List, [], ◌∷◌, ◌++◌, length, sym, ap, ap₂, ◌∙◌, subst, refl, arith, Some, None, Ok, Option}
use Rattle.std.specs.Prelude.{slice_index_or, nat_lt, is_some, sum_by, if◌then◌else◌}
use Rattle.std.proofs.lemmas.List.{length-append}
use Rattle.pl_plan.specs.Limits.{max_visits}
use Rattle.armus_base.specs.Limits.{max_tasks, max_phasers, max_ops}
use Rattle.armus_base.specs.declared.offset.Offset.{Offset}
use Rattle.armus_base.specs.declared.op.Op.{Op}
use Rattle.armus_base.specs.declared.op.Op.TheVariants as op
use Rattle.pl_syntax.specs.Tree.{Tree, new_task, new_phaser, reg, dereg, adv, await}
use Rattle.pl_plan.specs.declared.step.FlatStep.{FlatStep}
use Rattle.pl_plan.specs.declared.step.Thing as code
use Rattle.pl_plan.specs.declared.step.Thing.TheVariants as a_thing
use Rattle.pl_plan.specs.inside.Steps.{IsSpelled, IsList}
use Rattle.pl_plan.specs.inside.Checker.{Checker, CheckerStart, IsThingBelow, IsChecker, Keeps, slot_of, thing_at, with_task, with_maker, with_membership, started}
use Rattle.pl_plan.specs.inside.CheckerSteps.{with_binding, thing_of, thing_named, member, checker_add, checker_new_task, checker_new_phaser, checker_unforked_child, checker_reg, checker_member, checker_dereg, checker_adv, checker_await, checker_fork, checker_count, checker_leave}
use Rattle.armus_base.specs.Numbers.{phaser, task}
use Rattle.pl_plan.specs.Unfolding.{UnfoldingState, Start, Thing, a_task, a_phaser, Outcome, ◌>>=◌, fault_unless, as_task, as_phaser, is_parent, unforked_child, member_of, add_op, act, act_fork, count_visit, with_member, with_members, assigned, not_member, already_member, not_drawn_here, already_forked, has_cells, too_many_cells, too_many_tasks, too_many_phasers, too_many_ops, too_many_visits, leave}
use Rattle.pl_plan.specs.inside.Shows.{ShowsState, MaybeStartShows}
use Rattle.pl_plan.specs.inside.Simulates.{Simulates, KeepsAll}
use Rattle.pl_plan.proofs.Keeping.{fits_pushed, fits_marked, fits_started, fits_task, fits_maker, fits_binding, slotted_fits}
use Rattle.pl_plan.proofs.Showing.{shows_pushed, shows_marked, shows_task, shows_maker, shows_binding, shows_started}

-- ---- steps that may fail

simulates_fault_unless : (names : ℕ → List ℕ) (b b' : Bool) (kind n : ℕ) (f : Outcome Checker) (g : Outcome UnfoldingState) → b' ≡ b →
    (b ≡ true → Simulates names f g) → Simulates names (fault_unless b kind n >>= λ _. f) (fault_unless b' kind n >>= λ _. g)
simulates_fault_unless names true b' kind n f g e h = subst (λ v. Simulates names f (fault_unless v kind n >>= λ _. g)) (sym e) (h refl)
simulates_fault_unless names false b' kind n f g e h = ap (λ v. fault_unless v kind n >>= λ _. g) e

simulates_task : (names : ℕ → List ℕ) (n : ℕ) (o o' : Option Thing) (f : ℕ → Outcome Checker) (g : ℕ → Outcome UnfoldingState) → o' ≡ o →
    ((c : ℕ) → o ≡ Some (a_task c) → Simulates names (f c) (g c)) → Simulates names (as_task n o >>= f) (as_task n o' >>= g)
simulates_task names n None o' f g e h = ap (λ v. as_task n v >>= g) e
simulates_task names n (Some (a_phaser p)) o' f g e h = ap (λ v. as_task n v >>= g) e
simulates_task names n (Some (a_task c)) o' f g e h = subst (λ v. Simulates names (f c) (as_task n v >>= g)) (sym e) (h c refl)

simulates_phaser : (names : ℕ → List ℕ) (n : ℕ) (o o' : Option Thing) (f : ℕ → Outcome Checker) (g : ℕ → Outcome UnfoldingState) → o' ≡ o →
    ((p : ℕ) → o ≡ Some (a_phaser p) → Simulates names (f p) (g p)) → Simulates names (as_phaser n o >>= f) (as_phaser n o' >>= g)
simulates_phaser names n None o' f g e h = ap (λ v. as_phaser n v >>= g) e
simulates_phaser names n (Some (a_task c)) o' f g e h = ap (λ v. as_phaser n v >>= g) e
simulates_phaser names n (Some (a_phaser p)) o' f g e h = subst (λ v. Simulates names (f p) (as_phaser n v >>= g)) (sym e) (h p refl)

task_inside : (a b : ℕ) (v : code.Thing) (c : ℕ) → IsThingBelow a b v → thing_of v ≡ Some (a_task c) → c < a
task_inside a b a_thing.Nothing c i e = absurd cc
task_inside a b (a_thing.Phaser p) c i e = absurd cc
task_inside a b (a_thing.Task d) c i e = (let q : d.0 ≡ c = cc in omega arith)

phaser_inside : (a b : ℕ) (v : code.Thing) (p : ℕ) → IsThingBelow a b v → thing_of v ≡ Some (a_phaser p) → p < b
phaser_inside a b a_thing.Nothing p i e = absurd cc
phaser_inside a b (a_thing.Task c) p i e = absurd cc
phaser_inside a b (a_thing.Phaser q) p i e = (let r : q.0 ≡ p = cc in omega arith)

lt_true : (a b : ℕ) → nat_lt a b ≡ true → a < b
lt_true a b e = grind (arith, e)

-- the owner's two tests
same_start : (names : ℕ → List ℕ) (slots : List ℕ) (steps : List FlatStep) (o : Option Start) (o' : Option CheckerStart) → MaybeStartShows names slots steps o o' →
    is_some o ≡ is_some o'
same_start names slots steps None None h = refl
same_start names slots steps (Some s) (Some s') h = refl
same_start names slots steps None (Some s') h = absurd h
same_start names slots steps (Some s) None h = absurd h

module _ (names : ℕ → List ℕ) (k : Checker) (s : UnfoldingState) (f : IsChecker k) (h : ShowsState names k s) where
  simulates_unforked_child : (t n c : ℕ) (g : Outcome Checker) (g' : Outcome UnfoldingState) → Simulates names g g' →
      Simulates names (checker_unforked_child t n c k >>= λ _. g) (unforked_child t n c s >>= λ _. g')
  simulates_unforked_child t n c g g' r = by (is_parent t (slice_index_or k.parents c None)) (is_some (slice_index_or k.starts c None))
      (is_parent t (slice_index_or s.plan.parents c None)) (is_some (slice_index_or s.starts c None))
      (ap (λ xs. is_parent t (slice_index_or xs c None)) h.plan.parents)
      (same_start names k.bindings.slots k.steps (slice_index_or s.starts c None) (slice_index_or k.starts c None) (h.starts c))
    where
      by : (a b a' b' : Bool) → a' ≡ a → b' ≡ b → Simulates names ((fault_unless a not_drawn_here n >>= λ _. fault_unless (not b) already_forked n) >>= λ _. g)
          ((fault_unless a' not_drawn_here n >>= λ _. fault_unless (not b') already_forked n) >>= λ _. g')
      by false b a' b' p q = ap (λ v. (fault_unless v not_drawn_here n >>= λ _. fault_unless (not b') already_forked n) >>= λ _. g') p
      by true true a' b' p q = ap (λ v. (fault_unless v not_drawn_here n >>= λ _. fault_unless (not b') already_forked n) >>= λ _. g') p ∙
          ap (λ v. fault_unless (not v) already_forked n >>= λ _. g') q
      by true false a' b' p q = subst (λ v. Simulates names g ((fault_unless v not_drawn_here n >>= λ _. fault_unless (not b') already_forked n) >>= λ _. g'))
          (sym p) (subst (λ v. Simulates names g (fault_unless (not v) already_forked n >>= λ _. g')) (sym q) r)

  pub simulates_add : (t n : ℕ) (o : Op) → t < length k.codes → Simulates names (checker_add t n o k) (add_op t n o s)
  unfolding checker_add add_op
  simulates_add t n o here = simulates_fault_unless names (nat_lt k.counts.ops max_ops) (nat_lt (sum_by length s.plan.codes) max_ops) too_many_ops n _ _
      (ap (λ v. nat_lt v max_ops) h.plan.ops) (λ e. (_, refl, shows_pushed names k s t o here h))

  pub simulates_count : (n : ℕ) → Simulates names (checker_count n k) (count_visit n s)
  unfolding checker_count count_visit
  simulates_count n = simulates_fault_unless names (nat_lt k.counts.visits max_visits) (nat_lt s.visits max_visits) too_many_visits n _ _ (ap
      (λ v. nat_lt v max_visits) h.visits) (λ e. (
        _,
        refl,
        record {
          distinct = h.distinct;
          plan = h.plan;
          starts_many = h.starts_many;
          starts = h.starts;
          members = h.members;
          named = h.named;
          visits = ap (λ m. m + 1) h.visits;
        },
      ))

  simulates_member : (t n x : ℕ) (g : ℕ → Outcome Checker) (g' : ℕ → Outcome UnfoldingState) → x < length k.bindings.slots →
      ((p : ℕ) → p < length k.makers → Simulates names (g p) (g' p)) →
      Simulates names (checker_member t n x k >>= g) (member_of t n (s.names (names x)) s >>= g')
  unfolding checker_member member_of
  simulates_member t n x g g' here r = by (thing_named k x) (s.names (names x)) (h.named x here)
      (λ p e. phaser_inside (length k.parents) (length k.makers) (thing_at k x) p (f.now.inside (slot_of k x)) e)
    where
      ends_ : (p : ℕ) → p < length k.makers → (b b' : Bool) → b' ≡ b →
          Simulates names ((fault_unless b not_member n >>= λ _. Ok p) >>= g) ((fault_unless b' not_member n >>= λ _. Ok p) >>= g')
      ends_ p lt true b' e = subst (λ v. Simulates names (g p) ((fault_unless v not_member n >>= λ _. Ok p) >>= g')) (sym e) (r p lt)
      ends_ p lt false b' e = ap (λ v. (fault_unless v not_member n >>= λ _. Ok p) >>= g') e

      by : (o o' : Option Thing) → o' ≡ o → ((p : ℕ) → o ≡ Some (a_phaser p) → p < length k.makers) →
          Simulates names ((as_phaser n o >>= λ p. fault_unless (member k t p) not_member n >>= λ _. Ok p) >>= g)
          ((as_phaser n o' >>= λ p. fault_unless (s.members t p) not_member n >>= λ _. Ok p) >>= g')
      by None o' e i = ap (λ v. (as_phaser n v >>= λ p. fault_unless (s.members t p) not_member n >>= λ _. Ok p) >>= g') e
      by (Some (a_task c)) o' e i = ap (λ v. (as_phaser n v >>= λ p. fault_unless (s.members t p) not_member n >>= λ _. Ok p) >>= g') e
      by (Some (a_phaser p)) o' e i = subst (λ v. Simulates names ((fault_unless (member k t p) not_member n >>= λ _. Ok p) >>= g)
          ((as_phaser n v >>= λ q. fault_unless (s.members t q) not_member n >>= λ _. Ok q) >>= g')) (sym e)
          (ends_ p (i p refl) (member k t p) (s.members t p) (h.members t p))

-- ---- statements

module _ (names : ℕ → List ℕ) (k : Checker) (s : UnfoldingState) (f : IsChecker k) (h : ShowsState names k s) (t n : ℕ) (running : t < length k.parents) where
  has_code : t < length k.codes
  has_code = omega (arith, f.codes_many)

  pub simulates_new_task : (x : ℕ) → x < length k.bindings.slots → Simulates names (checker_new_task t n x k) (act t n (new_task (names x)) s)
  unfolding checker_new_task act
  simulates_new_task x here = simulates_fault_unless names (nat_lt (length k.parents) max_tasks) (nat_lt (length s.plan.parents) max_tasks) too_many_tasks n _ _
      (ap (λ xs. nat_lt (length xs) max_tasks) h.plan.parents)
      (λ e. simulates_fault_unless names (has_cells (length k.parents + 1) (length k.makers)) (has_cells (length s.plan.parents + 1) (length s.plan.makers))
      too_many_cells n _ _ (ap₂ (λ xs ys. has_cells (length xs + 1) (length ys)) h.plan.parents h.plan.makers) (λ room. (
        _,
        refl,
        shows_binding names x (a_thing.Task (task (length k.parents))) (a_task (length s.plan.parents)) (with_task t k) _
            (ap (λ xs. Some (a_task (length xs))) (sym h.plan.parents)) here
            (omega (arith, f.slots.room, length-append k.parents (Some (task t) ∷ []))) (fits_task k t (lt_true (length k.parents) max_tasks e) f) (shows_task names k s t h),
      )))

  pub simulates_new_phaser : (x : ℕ) → x < length k.bindings.slots → Simulates names (checker_new_phaser t n x k) (act t n (new_phaser (names x)) s)
  unfolding checker_new_phaser act
  simulates_new_phaser x here = simulates_fault_unless names (nat_lt (length k.makers) max_phasers) (nat_lt (length s.plan.makers) max_phasers) too_many_phasers
      n _ _ (ap (λ xs. nat_lt (length xs) max_phasers) h.plan.makers) (λ e.
      simulates_fault_unless names (has_cells (length k.parents) (length k.makers + 1)) (has_cells (length s.plan.parents) (length s.plan.makers + 1))
      too_many_cells n _ _ (ap₂ (λ xs ys. has_cells (length xs) (length ys + 1)) h.plan.parents h.plan.makers) (λ room.
      let lt = lt_true (length k.makers) max_phasers e in
      let p = length k.makers in
      let v = a_thing.Phaser (phaser p) in
      let m = with_maker t k in
      let fm = fits_maker k t lt f in
      let more = length-append k.makers (task t ∷ []) in
      let fb = fits_binding x v m here (omega (arith, f.slots.room)) (omega arith) fm in
      let hb = shows_binding names x v (a_phaser (length s.plan.makers)) m (record s { plan = record s.plan { makers = s.plan.makers ++ task t ∷ [] } })
      (ap (λ xs. Some (a_phaser (length xs))) (sym h.plan.makers)) here (omega (arith, f.slots.room)) fm (shows_maker names k s t h) in
      let b = with_binding x v m in
      let hm = shows_marked names b (record s { plan = record s.plan { makers = s.plan.makers ++ task t ∷ [] }; names = _ }) t p true
      (omega (arith, running, f.members_many, ap (λ (z : Checker). length z.members) (slotted_fits x m here (omega (arith, f.slots.room)) fm).same)) hb in
      let fk = fits_marked b t p true fb in
      subst (λ q. Simulates names (checker_add t n (op.Make (phaser p)) (with_membership t p true b))
      (add_op t n (op.Make (phaser q)) (record s {
        plan = record s.plan { makers = s.plan.makers ++ task t ∷ [] };
        members = with_member t q true s.members;
        names = assigned (names x) (a_phaser (length s.plan.makers)) s.names;
      }))) (ap length (sym h.plan.makers))
      (simulates_add names (with_membership t p true b) _ fk hm t n (op.Make (phaser p))
      (let same = ap (λ (z : Checker). length z.codes) (slotted_fits x m here (omega (arith, f.slots.room)) fm).same in omega (arith, has_code, same)))))

  pub simulates_dereg : (x : ℕ) → x < length k.bindings.slots → Simulates names (checker_dereg t n x k) (act t n (dereg (names x)) s)
  unfolding checker_dereg act
  simulates_dereg x here = simulates_member names k s f h t n x _ _ here (λ p lt.
      simulates_add names (with_membership t p false k) _ (fits_marked k t p false f)
      (shows_marked names k s t p false (omega (arith, running, f.members_many)) h) t n (op.Drop (phaser p)) has_code)

  pub simulates_adv : (x : ℕ) → x < length k.bindings.slots → Simulates names (checker_adv t n x k) (act t n (adv (names x)) s)
  unfolding checker_adv act
  simulates_adv x here = simulates_member names k s f h t n x _ _ here (λ p lt. simulates_add names k s f h t n (op.Adv (phaser p)) has_code)

  pub simulates_await : (x : ℕ) (off : Offset) → x < length k.bindings.slots → Simulates names (checker_await t n x off k) (act t n (await (names x) off) s)
  unfolding checker_await act
  simulates_await x off here = simulates_member names k s f h t n x _ _ here (λ p lt. simulates_add names k s f h t n (op.Await (phaser p) off) has_code)

  pub simulates_leave : (p : ℕ) → p < max_phasers → Simulates names (checker_leave t n p k) (leave t n p s)
  unfolding checker_leave leave
  simulates_leave p few =
      subst (λ (b : Bool). Simulates names (if member k t p then checker_add t n (op.Drop (phaser p)) (with_membership t p false k) else Ok k)
      (if b then add_op t n (op.Drop (phaser p)) (with_members (with_member t p false s.members) s) else Ok s)) (sym (h.members t p)) (by (member k t p))
    where
      by : (b : Bool) → Simulates names (if b then checker_add t n (op.Drop (phaser p)) (with_membership t p false k) else Ok k)
          (if b then add_op t n (op.Drop (phaser p)) (with_members (with_member t p false s.members) s) else Ok s)
      by true =
          simulates_add names (with_membership t p false k) _ (fits_marked k t p false f) (shows_marked names k s t p false (omega (arith, running, f.members_many)) h) t n
          (op.Drop (phaser p)) has_code
      by false = (s, refl, h)

  pub simulates_reg : (x y : ℕ) → x < length k.bindings.slots → y < length k.bindings.slots → Simulates names (checker_reg t n x y k) (act t n (reg (names x) (names y)) s)
  unfolding checker_reg act
  simulates_reg x y x_here y_here =
      simulates_task names n (thing_named k x) (s.names (names x)) _ _ (h.named x x_here) (λ c ec.
      simulates_phaser names n (thing_named k y) (s.names (names y)) _ _ (h.named y y_here) (λ p ep.
      let ci = task_inside (length k.parents) (length k.makers) (thing_at k x) c (f.now.inside (slot_of k x)) ec in
      let pi_ = phaser_inside (length k.parents) (length k.makers) (thing_at k y) p (f.now.inside (slot_of k y)) ep in
      simulates_unforked_child names k s f h t n c _ _
      (simulates_fault_unless names (member k t p) (s.members t p) not_member n _ _ (h.members t p) (λ _.
      simulates_fault_unless names (not (member k c p)) (not (s.members c p)) already_member n _ _ (ap not (h.members c p)) (λ _.
      simulates_add names (with_membership c p true k) _ (fits_marked k c p true f)
      (shows_marked names k s c p true (omega (arith, ci, f.members_many)) h) t n (op.Reg (task c) (phaser p)) has_code)))))

  pub simulates_fork : (x after : ℕ) (body : Tree) → x < length k.bindings.slots → after ≤ length k.steps → IsSpelled (length k.bindings.slots) names k.steps n body after →
      Simulates names (checker_fork t n x after k) (act_fork t n (names x) body s)
  unfolding checker_fork act_fork
  simulates_fork x after body here within spelled =
      simulates_task names n (thing_named k x) (s.names (names x)) _ _ (h.named x here) (λ c ec.
      let ci = task_inside (length k.parents) (length k.makers) (thing_at k x) c (f.now.inside (slot_of k x)) ec in
      simulates_unforked_child names k s f h t n c _ _
      (simulates_add names (started c n after k) _ (fits_started k c n after within (names, body, spelled) f)
      (shows_started names k s c n after body (omega (arith, f.starts_many)) spelled f h) t n (op.Fork (task c)) has_code))

-- ---- what is kept

keeps_fault_unless : (k : Checker) (b : Bool) (kind n : ℕ) (f : Outcome Checker) → (b ≡ true → KeepsAll k f) → KeepsAll k (fault_unless b kind n >>= λ _. f)
keeps_fault_unless k true kind n f h = h refl
keeps_fault_unless k false kind n f h = tt

keeps_task : (k : Checker) (n : ℕ) (o : Option Thing) (f : ℕ → Outcome Checker) → ((c : ℕ) → o ≡ Some (a_task c) → KeepsAll k (f c)) → KeepsAll k (as_task n o >>= f)
keeps_task k n None f h = tt
keeps_task k n (Some (a_phaser p)) f h = tt
keeps_task k n (Some (a_task c)) f h = h c refl

keeps_phaser : (k : Checker) (n : ℕ) (o : Option Thing) (f : ℕ → Outcome Checker) → ((p : ℕ) → o ≡ Some (a_phaser p) → KeepsAll k (f p)) → KeepsAll k (as_phaser n o >>= f)
keeps_phaser k n None f h = tt
keeps_phaser k n (Some (a_task c)) f h = tt
keeps_phaser k n (Some (a_phaser p)) f h = h p refl

keeps_two : (k : Checker) (a b : Bool) (i j n : ℕ) (g : Outcome Checker) → KeepsAll k g → KeepsAll k ((fault_unless a i n >>= λ _. fault_unless b j n) >>= λ _. g)
keeps_two k false b i j n g h = tt
keeps_two k true false i j n g h = tt
keeps_two k true true i j n g h = h

keeps_add : (k b : Checker) (t n : ℕ) (o : Op) → Keeps k b → KeepsAll k (checker_add t n o b)
unfolding checker_add
keeps_add k b t n o h = keeps_fault_unless k (nat_lt b.counts.ops max_ops) too_many_ops n _
    (λ e. record { fits = fits_pushed b t o h.fits; more = h.more; steps = h.steps; slots = h.slots })

module _ (k : Checker) (f : IsChecker k) where
  pub keeps_itself : Keeps k k
  keeps_itself = record { fits = f; more = omega arith; steps = refl; slots = refl }

  pub keeps_count : (n : ℕ) → KeepsAll k (checker_count n k)
  unfolding checker_count
  keeps_count n = keeps_fault_unless k (nat_lt k.counts.visits max_visits) too_many_visits n _ (λ e. record {
    fits = record {
      starts_many = f.starts_many;
      codes_many = f.codes_many;
      few = f.few;
      few_makers = f.few_makers;
      members_many = f.members_many;
      slots = f.slots;
      now = f.now;
      later = f.later;
    };
    more = omega arith;
    steps = refl;
    slots = refl;
  })

  keeps_member : (t n x : ℕ) (g : ℕ → Outcome Checker) → ((p : ℕ) → KeepsAll k (g p)) → KeepsAll k (checker_member t n x k >>= g)
  unfolding checker_member
  keeps_member t n x g h = by (thing_named k x)
    where
      ends_ : (p : ℕ) (b : Bool) → KeepsAll k ((fault_unless b not_member n >>= λ _. Ok p) >>= g)
      ends_ p true = h p
      ends_ p false = tt

      by : (o : Option Thing) → KeepsAll k ((as_phaser n o >>= λ p. fault_unless (member k t p) not_member n >>= λ _. Ok p) >>= g)
      by None = tt
      by (Some (a_task c)) = tt
      by (Some (a_phaser p)) = ends_ p (member k t p)

  keeps_marked : (t p : ℕ) (v : Bool) → Keeps k (with_membership t p v k)
  keeps_marked t p v = record { fits = fits_marked k t p v f; more = omega arith; steps = refl; slots = refl }

  keeps_bound : (m : Checker) (x : ℕ) (v : code.Thing) → x < length m.bindings.slots → m.bindings.slot_count < length m.parents + length m.makers →
      IsThingBelow (length m.parents) (length m.makers) v → Keeps k m → Keeps k (with_binding x v m)
  keeps_bound m x v here room inside h =
      let sl = slotted_fits x m here room h.fits in
      record {
        fits = fits_binding x v m here room inside h.fits;
        more = (let e = ap (λ (z : Checker). length z.parents) sl.same in omega (arith, h.more, e));
        steps = ap (λ (z : Checker). z.steps) sl.same ∙ h.steps;
        slots = sl.slots ∙ h.slots;
      }

  pub keeps_new_task : (t n x : ℕ) → x < length k.bindings.slots → KeepsAll k (checker_new_task t n x k)
  unfolding checker_new_task
  keeps_new_task t n x here = keeps_fault_unless k (nat_lt (length k.parents) max_tasks) too_many_tasks n _ (λ e.
      keeps_fault_unless k (has_cells (length k.parents + 1) (length k.makers)) too_many_cells n _ (λ room.
      let more = length-append k.parents (Some (task t) ∷ []) in
      keeps_bound (with_task t k) x (a_thing.Task (task (length k.parents))) here (omega (arith, f.slots.room)) (omega arith)
      (record { fits = fits_task k t (lt_true (length k.parents) max_tasks e) f; more = omega arith; steps = refl; slots = refl })))

  pub keeps_new_phaser : (t n x : ℕ) → x < length k.bindings.slots → KeepsAll k (checker_new_phaser t n x k)
  unfolding checker_new_phaser
  keeps_new_phaser t n x here = keeps_fault_unless k (nat_lt (length k.makers) max_phasers) too_many_phasers n _ (λ e.
      keeps_fault_unless k (has_cells (length k.parents) (length k.makers + 1)) too_many_cells n _ (λ room.
      let more = length-append k.makers (task t ∷ []) in
      let h = keeps_bound (with_maker t k) x (a_thing.Phaser (phaser (length k.makers))) here (omega (arith, f.slots.room)) (omega arith)
      (record { fits = fits_maker k t (lt_true (length k.makers) max_phasers e) f; more = omega arith; steps = refl; slots = refl }) in
      keeps_add k (with_membership t (length k.makers) true (with_binding x (a_thing.Phaser (phaser (length k.makers))) (with_maker t k))) t n (op.Make (phaser (length k.makers)))
      (record {
        fits = fits_marked (with_binding x (a_thing.Phaser (phaser (length k.makers))) (with_maker t k)) t (length k.makers) true h.fits;
        more = h.more;
        steps = h.steps;
        slots = h.slots;
      })))

  pub keeps_dereg : (t n x : ℕ) → KeepsAll k (checker_dereg t n x k)
  unfolding checker_dereg
  keeps_dereg t n x = keeps_member t n x _ (λ p. keeps_add k (with_membership t p false k) t n (op.Drop (phaser p)) (keeps_marked t p false))

  pub keeps_adv : (t n x : ℕ) → KeepsAll k (checker_adv t n x k)
  unfolding checker_adv
  keeps_adv t n x = keeps_member t n x _ (λ p. keeps_add k k t n (op.Adv (phaser p)) keeps_itself)

  pub keeps_await : (t n x : ℕ) (off : Offset) → KeepsAll k (checker_await t n x off k)
  unfolding checker_await
  keeps_await t n x off = keeps_member t n x _ (λ p. keeps_add k k t n (op.Await (phaser p) off) keeps_itself)

  pub keeps_leave : (t n p : ℕ) → KeepsAll k (checker_leave t n p k)
  unfolding checker_leave
  keeps_leave t n p = by (member k t p)
    where
      by : (b : Bool) → KeepsAll k (if b then checker_add t n (op.Drop (phaser p)) (with_membership t p false k) else Ok k)
      by true = keeps_add k (with_membership t p false k) t n (op.Drop (phaser p)) (keeps_marked t p false)
      by false = keeps_itself

  pub keeps_reg : (t n x y : ℕ) → KeepsAll k (checker_reg t n x y k)
  unfolding checker_reg
  keeps_reg t n x y =
      keeps_task k n (thing_named k x) _ (λ c ec. keeps_phaser k n (thing_named k y) _ (λ p ep.
      keeps_two k (is_parent t (slice_index_or k.parents c None)) (not (is_some (slice_index_or k.starts c None))) not_drawn_here already_forked n _
      (keeps_fault_unless k (member k t p) not_member n _ (λ _. keeps_fault_unless k (not (member k c p)) already_member n _ (λ _.
      keeps_add k (with_membership c p true k) t n (op.Reg (task c) (phaser p)) (keeps_marked c p true))))))

  pub keeps_fork : (t n x after : ℕ) → after ≤ length k.steps → IsList (length k.bindings.slots) k.steps n after → KeepsAll k (checker_fork t n x after k)
  unfolding checker_fork
  keeps_fork t n x after within list =
      keeps_task k n (thing_named k x) _ (λ c ec.
      keeps_two k (is_parent t (slice_index_or k.parents c None)) (not (is_some (slice_index_or k.starts c None))) not_drawn_here already_forked n _
      (keeps_add k (started c n after k) t n (op.Fork (task c)) (record { fits = fits_started k c n after within list f; more = omega arith; steps = refl; slots = refl })))

pub keeps_through : (a b c : Checker) → Keeps a b → Keeps b c → Keeps a c
keeps_through a b c p q = record { fits = q.fits; more = omega (arith, p.more, q.more); steps = q.steps ∙ p.steps; slots = q.slots ∙ p.slots }
