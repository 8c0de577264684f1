-- Each generated text is accepted: its program unfolds without a fault.
use Rattle.std.proofs.Common.{◌≡◌, ℕ, zero, suc, ◌+◌, ◌*◌, ◌%◌, ◌<◌, ◌≤◌, true, false, Some, None, Ok, Err, Option, [], ◌∷◌, arith, sym, ◌∙◌, ap, subst, refl}
use Rattle.std.specs.Prelude.{slice_index_or, ◌==◌}
use Rattle.std.proofs.lemmas.List.{get_or_past}
use Rattle.armus_base.specs.Limits.{max_tasks, max_ops}
use Rattle.armus_base.specs.Plans.{Plan}
use Rattle.pl_syntax.specs.Tree.{Tree, new_phaser}
use Rattle.pl_syntax.proofs.Unique.{one_tree, text_or_fault}
use Rattle.armus_base.specs.Pieces.{times}
use Rattle.pl_plan.specs.Unfolding.{UnfoldingState, Start, Outcome, ◌>>=◌, a_phaser, a_plain, a_loop, a_turn, visit, visits_of, make_visits, count_visit, act, add_op, assigned, with_names, with_member, unfold_task, unfold_tasks, opening_state, plan_of, with_pieces}
use Rattle.pl_generator.specs.Generated.{generated_text}
use Rattle.pl_generator.specs.calls.Laws.{GeneratedIsAccepted, GeneratedHasNoSyntaxFault, GeneratedHasNoCheckFault}
use Rattle.pl_generator.proofs.GeneratedProgram.{pc, pb, draws, goes_on, generated_body, generated_program, is_text}
use Rattle.pl_generator.proofs.Succeeding.{Succeeds, so, and_then, Parts, Has, has_more, both}
use Rattle.pl_generator.proofs.Statements.{left}
use Rattle.pl_generator.proofs.Drawing.{CanWork, IsDrawing, Drawing, draws_all, member_other}
use Rattle.pl_generator.proofs.Working.{CanGoOn, left_behind, works, ends}

-- ---- task 0

-- the parts behind the first two statements
abbrev opened : ℕ → Parts
opened n = record {
  parents = None ∷ [];
  phasers = 2;
  starts = Some (record { body = generated_body n; first = 1; names = λ _. None }) ∷ [];
  members = with_member 0 1 true (with_member 0 0 true (λ _ _. false));
  names = assigned pb (a_phaser 1) (assigned pc (a_phaser 0) (λ _. None));
}

no_start : (n c : ℕ) → 1 ≤ c → slice_index_or (opened n).starts c None ≡ None
no_start n c l = get_or_past (opened n).starts c None l

is_opened : (n : ℕ) → IsDrawing 0 (opened n)
is_opened n = record {
  tasks = omega arith;
  phasers = refl;
  names = record { first = refl; second = refl };
  own = record { first = refl; second = refl };
  fresh_start = no_start n;
  fresh_member = λ c p l. member_other 0 1 true (with_member 0 0 true (λ _ _. false)) c p (λ e. absurd (omega arith)) ∙
      member_other 0 0 true (λ _ _. false) c p (λ e. absurd (omega arith));
  workers = λ c pos. subst (CanWork ((opened n).members c)) (sym (no_start n c (omega arith))) tt;
}

opens :
    (n : ℕ) →
    Succeeds (Drawing 3 0)
    (make_visits 0 (visit 1 (a_plain (new_phaser pc)) ∷ visit 2 (a_plain (new_phaser pb)) ∷ visit 3 a_loop ∷ []) (opening_state (generated_body n)))
unfolding make_visits count_visit act add_op
opens n = (opened n, record { parts_are = refl; visits = omega arith; ops = omega arith }, is_opened n)

-- behind task t: so many visits, and the tasks after it can work
abbrev Behind : ℕ → ℕ → UnfoldingState → Type 0
Behind k t s = (a : Parts) × Has k a s × CanGoOn t a

first_task : (n : ℕ) → n < max_tasks → Succeeds (Behind (5 * n + 6) 1) (make_visits 0 (visits_of 1 (generated_body n)) (opening_state (generated_body n)))
first_task n l =
    let p = generated_body n in
    let Q : UnfoldingState → Type 0 = Behind (5 * n + 6) 1 in
    both (Drawing 3 0) Q 0 (opening_state p) (visit 1 (a_plain (new_phaser pc)) ∷ visit 2 (a_plain (new_phaser pb)) ∷ visit 3 a_loop ∷ []) _ (opens n)
    (λ s1 d1. both (Drawing (3 + 5 * n) n) Q 0 s1 (times n (visit 3 a_turn ∷ visits_of 4 draws)) _ (draws_all n 3 s1 (omega arith) l d1)
    (λ s2 d2. so (Behind (3 + 5 * n + 3) 1) Q (make_visits 0 (visits_of 13 (goes_on (n % 3 == 0))) s2)
    (ends (3 + 5 * n) d2.0 s2 d2.1 d2.2.names d2.2.own (λ c le. d2.2.workers c (omega arith)) (omega arith) 13 (n % 3 == 0))
    (λ r e. (e.0, has_more (3 + 5 * n + 3) (5 * n + 6) e.0 r (omega arith) e.1, e.2))))

-- ---- the other tasks

next_task :
    (t k : ℕ) (a : Parts) (s : UnfoldingState) (Q : UnfoldingState → Type 0) (rest : UnfoldingState → Outcome UnfoldingState) → Has k a s → CanGoOn t a → k + 27 < max_ops →
    ((s' : UnfoldingState) → Behind (k + 27) (t + 1) s' → Succeeds Q (rest s')) → (o : Option Start) → slice_index_or s.starts t None ≡ o →
    Succeeds Q (unfold_task false t o s >>= rest)
next_task t k a s Q rest h later few then None e = then s (a, has_more k (k + 27) a s (omega arith) h, λ c l. later c (omega arith))
next_task t k a s Q rest h later few then (Some start) e =
    let b : Parts = record a { names = start.names } in
    let begun : Has k b (with_names start.names s) = record { parts_are = ap (λ (x : Parts). record x { names = start.names }) h.parts_are; visits = h.visits; ops = h.ops } in
    let w : CanWork (a.members t) (Some start) = subst (CanWork (a.members t)) (sym (ap (λ (x : Parts). slice_index_or x.starts t None) h.parts_are) ∙ e) (later t (omega arith)) in
    let P : UnfoldingState → Type 0 = Has (k + 27) (left t 1 (left t 0 b)) in
    and_then P Q (unfold_task false t (Some start) s) rest
    (subst (λ (body : Tree). Succeeds P (make_visits t (visits_of start.first body) (with_names start.names s))) (sym w.0)
    (works t k b (with_names start.names s) begun w.1 w.2 start.first few))
    (λ s' h'. then s' (left t 1 (left t 0 b), h', left_behind t 1 (left t 0 b) (left_behind t 0 b (λ c l. later c (omega arith)))))

other_tasks : (m t k : ℕ) (s : UnfoldingState) → Behind k t s → k + 27 * m < max_ops → Succeeds (λ _. Unit {0}) (unfold_tasks false m t s)
unfolding unfold_tasks
other_tasks zero t k s h few = tt
other_tasks (suc m) t k s h few =
    next_task t k h.0 s (λ _. Unit {0}) (unfold_tasks false m (t + 1)) h.1 h.2 (omega arith)
    (λ s' h'. other_tasks m (t + 1) (k + 27) s' h' (omega arith)) (slice_index_or s.starts t None) refl

-- ---- all

all_tasks : (m n : ℕ) → n < max_tasks → m < max_tasks → Succeeds (λ _. Unit {0}) (unfold_tasks false (suc m) 0 (opening_state (generated_body n)))
unfolding unfold_tasks
all_tasks m n few l =
    and_then (Behind (5 * n + 6) 1) (λ _. Unit {0}) (unfold_task false 0 (Some (record { body = generated_body n; first = 1; names = λ _. None }))
    (opening_state (generated_body n))) (unfold_tasks false m 1)
    (first_task n few) (λ s h. other_tasks m 1 (5 * n + 6) s h (omega arith))

plan_from : (o : Outcome UnfoldingState) → Succeeds (λ _. Unit {0}) o → (plan : Plan) × ((o >>= λ s. Ok (with_pieces s)) ≡ Ok plan)
plan_from (Ok s) h = (with_pieces s, refl)
plan_from (Err f) h = absurd h

unfolds : (n : ℕ) → n < max_tasks → (plan : Plan) × (plan_of (generated_program n) ≡ Ok plan)
unfolding plan_of
unfolds n l = plan_from (unfold_tasks false max_tasks 0 (opening_state (generated_body n))) (all_tasks 4095 n l (omega arith))

pub accepted : GeneratedIsAccepted
accepted n l = let u = unfolds n l in (generated_program n, is_text n (omega arith), u.0, u.1)

pub no_syntax_fault : GeneratedHasNoSyntaxFault
no_syntax_fault n l fault h = text_or_fault (generated_text n) (generated_program n) fault (is_text n (omega arith)) h

pub no_check_fault : GeneratedHasNoCheckFault
no_check_fault n l program fault reads e =
    let same : program ≡ generated_program n = one_tree (generated_text n) program (generated_program n) reads (is_text n (omega arith)) in
    let u = (unfolds n l).1 in
    absurd (let f = ap plan_of same in cc)
