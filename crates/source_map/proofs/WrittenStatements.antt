-- A visit is a coming to the statement that stands at its number in the text.
use Rattle.std.proofs.Common.{◌≡◌, ◌⊎◌, ℕ, zero, suc, ◌+◌, ◌-◌, ◌<◌, ◌≤◌, Option, Some, None, List, [], ◌∷◌, ◌++◌, length, refl, sym, ap, subst, ◌∙◌, arith, inl, inr, append_assoc, append-nil, length-append}
use Rattle.std.specs.Prelude.{slice_index_or, if◌then◌else◌}
use Rattle.std.specs.List.{slice_get}
use Rattle.std.proofs.lemmas.Bool.{cases_eq, cases_lt, eq-eqb, ne_eqb}
use Rattle.armus_base.specs.Pieces.{times}
use Rattle.armus_base.specs.declared.ids.PhaserId.{PhaserId}
use Rattle.armus_base.specs.declared.offset.Offset.{Offset}
use Rattle.armus_base.specs.declared.op.Op.TheVariants.{Await, Drop}
use Rattle.pl_syntax.specs.declared.tree.Program.{Program}
use Rattle.pl_syntax.specs.Tree.{Plain, Tree, await, count, done, fork, loop, plain}
use Rattle.armus_base.specs.Numbers.{phaser}
use Rattle.pl_plan.specs.Unfolding.{Coming, Start, Visit, a_fork, a_loop, a_plain, a_turn, visit, visits_of}
use Rattle.source_map.specs.Origins.{op_origin, start_of, visits_by, visits_of_task, written_statements}
use Rattle.source_map.specs.calls.OriginLaws.{AwaitsComeFromAwaits, ComesFrom, MakesOp, VisitsAreOfText, statement_of}
use Rattle.source_map.specs.calls.OriginLaws as law
use Rattle.source_map.specs.inside.Tables.{fork_body, forked_body}
use Rattle.source_map.proofs.BodiesStand.{StandsAt, start_stands}
use Rattle.source_map.proofs.CodesOfVisits.{ops_have_origins}
use Rattle.source_map.proofs.ForkBodies.{fork_behind, fork_here, fork_inside, loop_behind, loop_inside}
use Rattle.source_map.proofs.MadeByVisits.{get_behind}

pub count_written : (tree : Tree) → length (written_statements tree) ≡ count tree
count_written done = refl
count_written (plain s rest) = omega (arith, count_written rest)
count_written (fork x body rest) =
    omega (arith, count_written body, count_written rest, length-append (written_statements body) (written_statements rest))
count_written (loop k body rest) =
    omega (arith, count_written body, count_written rest, length-append (written_statements body) (written_statements rest))

module _ (whole : Tree) where
  -- these statements stand in the text, and the first of them has number n
  record StandInText (n : ℕ) (tree : Tree) : Type 0 where
    before : List Coming
    behind : List Coming
    all : written_statements whole ≡ before ++ (written_statements tree ++ behind)
    number : n ≡ length before + 1

  all_in_text : StandInText 1 whole
  all_in_text = record { before = []; behind = []; all = sym (append-nil (written_statements whole)); number = refl }

  plain_in : (n : ℕ) (s : Plain) (rest : Tree) → StandInText n (plain s rest) → StandInText (n + 1) rest
  plain_in n s rest h = record {
    before = h.before ++ a_plain s ∷ [];
    behind = h.behind;
    all = h.all ∙ sym (append_assoc h.before (a_plain s ∷ []) (written_statements rest ++ h.behind));
    number = omega (arith, h.number, length-append h.before (a_plain s ∷ []));
  }

  -- a statement with a body, and those behind it
  body_in : (n : ℕ) (c : Coming) (body rest : Tree) (before behind : List Coming) → n ≡ length before + 1 →
      written_statements whole ≡ before ++ (c ∷ (written_statements body ++ written_statements rest) ++ behind) → StandInText (n + 1) body
  body_in n c body rest before behind number all = record {
    before = before ++ c ∷ [];
    behind = written_statements rest ++ behind;
    all = all ∙ ap (λ xs. before ++ (c ∷ xs)) (append_assoc (written_statements body) (written_statements rest) behind)
        ∙ sym (append_assoc before (c ∷ []) (written_statements body ++ (written_statements rest ++ behind)));
    number = omega (arith, number, length-append before (c ∷ []));
  }

  rest_in : (n : ℕ) (c : Coming) (body rest : Tree) (before behind : List Coming) → n ≡ length before + 1 →
      written_statements whole ≡ before ++ (c ∷ (written_statements body ++ written_statements rest) ++ behind) → StandInText (n + 1 + count body) rest
  rest_in n c body rest before behind number all = record {
    before = before ++ c ∷ written_statements body;
    behind = behind;
    all = all ∙ ap (λ xs. before ++ (c ∷ xs)) (append_assoc (written_statements body) (written_statements rest) behind)
        ∙ sym (append_assoc before (c ∷ written_statements body) (written_statements rest ++ behind));
    number = omega (arith, number, length-append before (c ∷ written_statements body), count_written body);
  }

  -- the body of a fork that is found
  found_fork : (n f : ℕ) (x : List ℕ) (body rest b : Tree) → StandInText n (fork x body rest) → (fork_body (n + 1) body f ≡ Some b → StandInText (f + 1) b) →
      (fork_body (n + 1 + count body) rest f ≡ Some b → StandInText (f + 1) b) → fork_body n (fork x body rest) f ≡ Some b → StandInText (f + 1) b
  found_fork n f x body rest b h first others e = by (cases_eq n f) (cases_lt (n + count body) f)
    where
      by : (n ≡ f) ⊎ (n ≡ f → ⊥) → (n + count body < f) ⊎ (f ≤ n + count body) → StandInText (f + 1) b
      by (inl same) l =
          let is : body ≡ b = (let z : Some body ≡ Some b = sym (fork_here n f x body rest same) ∙ e in cc) in
          subst (λ m. StandInText (m + 1) b) same (subst (StandInText (n + 1)) is (body_in n (a_fork x body) body rest h.before h.behind h.number h.all))
      by (inr other) (inl past) = others (sym (fork_behind n f x body rest past) ∙ e)
      by (inr other) (inr inside) = first (sym (fork_inside n f x body rest other inside) ∙ e)

  found_loop : (n f k : ℕ) (body rest b : Tree) → (fork_body (n + 1) body f ≡ Some b → StandInText (f + 1) b) →
      (fork_body (n + 1 + count body) rest f ≡ Some b → StandInText (f + 1) b) → fork_body n (loop k body rest) f ≡ Some b → StandInText (f + 1) b
  found_loop n f k body rest b first others e = by (cases_lt (n + count body) f)
    where
      by : (n + count body < f) ⊎ (f ≤ n + count body) → StandInText (f + 1) b
      by (inl past) = others (sym (loop_behind n f k body rest past) ∙ e)
      by (inr inside) = first (sym (loop_inside n f k body rest inside) ∙ e)

  found_in : (tree b : Tree) (n f : ℕ) → StandInText n tree → fork_body n tree f ≡ Some b → StandInText (f + 1) b
  found_in done b n f h e = absurd (cc)
  found_in (plain s rest) b n f h e = found_in rest b (n + 1) f (plain_in n s rest h) e
  found_in (fork x body rest) b n f h e =
      found_fork n f x body rest b h (λ g. found_in body b (n + 1) f (body_in n (a_fork x body) body rest h.before h.behind h.number h.all) g)
      (λ g. found_in rest b (n + 1 + count body) f (rest_in n (a_fork x body) body rest h.before h.behind h.number h.all) g) e
  found_in (loop k body rest) b n f h e =
      found_loop n f k body rest b (λ g. found_in body b (n + 1) f (body_in n a_loop body rest h.before h.behind h.number h.all) g)
      (λ g. found_in rest b (n + 1 + count body) f (rest_in n a_loop body rest h.before h.behind h.number h.all) g) e

  start_in : (start : Start) → StandsAt whole (Some start) → StandInText start.first start.body
  start_in start h = subst (λ m. StandInText m start.body) (let z : start.first - 1 + 1 ≡ start.first = omega (arith, h.0.numbered) in z) (by (cases_eq (start.first - 1) 0))
    where
      by : (start.first - 1 ≡ 0) ⊎ (start.first - 1 ≡ 0 → ⊥) → StandInText (start.first - 1 + 1) start.body
      by (inl none) =
          let first : forked_body whole (start.first - 1) ≡ Some whole =
          ap (λ c. if c then Some whole else fork_body 1 whole (start.first - 1)) (eq-eqb (start.first - 1) 0 none) in
          let is : whole ≡ start.body = (let z : Some whole ≡ Some start.body = sym first ∙ h.1 in cc) in
          subst (λ m. StandInText (m + 1) start.body) (sym none) (subst (StandInText 1) is all_in_text)
      by (inr some) =
          let other : forked_body whole (start.first - 1) ≡ fork_body 1 whole (start.first - 1) =
          ap (λ c. if c then Some whole else fork_body 1 whole (start.first - 1)) (ne_eqb (start.first - 1) 0 some) in
          found_in whole start.body 1 (start.first - 1) all_in_text (sym other ∙ h.1)

  -- ---- visits

  abbrev IsOfText : Visit → Type 0
  IsOfText m = (1 ≤ m.statement) × (slice_get (written_statements whole) (m.statement - 1) ≡ Some (statement_of m.coming))

  abbrev AreOfText : List Visit → Type 0
  AreOfText [] = Unit {0}
  AreOfText (m ∷ ms) = IsOfText m × AreOfText ms

  of_more : (xs ys : List Visit) → AreOfText xs → AreOfText ys → AreOfText (xs ++ ys)
  of_more [] ys a b = b
  of_more (x ∷ xs) ys a b = (a.0, of_more xs ys a.1 b)

  of_times : (k : ℕ) (xs : List Visit) → AreOfText xs → AreOfText (times k xs)
  of_times zero xs a = tt
  of_times (suc k) xs a = of_more xs (times k xs) a (of_times k xs a)

  first_of_text : (n : ℕ) (c : Coming) (rest before : List Coming) → n ≡ length before + 1 → written_statements whole ≡ before ++ (c ∷ rest) →
      (1 ≤ n) × (slice_get (written_statements whole) (n - 1) ≡ Some c)
  first_of_text n c rest before number all = (
    omega (arith, number),
    ap (λ m. slice_get (written_statements whole) m) (let z : n - 1 ≡ length before + 0 = omega (arith, number) in z)
        ∙ ap (λ xs. slice_get xs (length before + 0)) all ∙ get_behind before (c ∷ rest) 0,
  )

  visits_of_text : (n : ℕ) (tree : Tree) → StandInText n tree → AreOfText (visits_of n tree)
  visits_of_text n done h = tt
  visits_of_text n (plain s rest) h =
      (first_of_text n (a_plain s) (written_statements rest ++ h.behind) h.before h.number h.all, visits_of_text (n + 1) rest (plain_in n s rest h))
  visits_of_text n (fork x body rest) h = (
    first_of_text n (a_fork x body) ((written_statements body ++ written_statements rest) ++ h.behind) h.before h.number h.all,
    visits_of_text (n + 1 + count body) rest (rest_in n (a_fork x body) body rest h.before h.behind h.number h.all),
  )
  visits_of_text n (loop k body rest) h =
      let here = first_of_text n a_loop ((written_statements body ++ written_statements rest) ++ h.behind) h.before h.number h.all in
      let turn : AreOfText (visit n a_turn ∷ visits_of (n + 1) body) =
      (here, visits_of_text (n + 1) body (body_in n a_loop body rest h.before h.behind h.number h.all)) in (
        here,
        of_more (times k (visit n a_turn ∷ visits_of (n + 1) body)) (visits_of (n + 1 + count body) rest)
            (of_times k (visit n a_turn ∷ visits_of (n + 1) body) turn)
            (visits_of_text (n + 1 + count body) rest (rest_in n a_loop body rest h.before h.behind h.number h.all)),
      )

  among_of_text : (ms : List Visit) (m : Visit) (k : ℕ) → AreOfText ms → k < length ms → slice_index_or ms k m ≡ m → IsOfText m
  among_of_text [] m k h lt e = absurd (omega (arith, lt))
  among_of_text (v ∷ ms) m zero h lt e = subst IsOfText e h.0
  among_of_text (v ∷ ms) m (suc k) h lt e = among_of_text ms m k h.1 (omega (arith, lt)) e

  by_start : (o : Option Start) → StandsAt whole o → AreOfText (visits_by o)
  by_start None h = tt
  by_start (Some start) h = visits_of_text start.first start.body (start_in start h)

pub visits_are_of_text : VisitsAreOfText
visits_are_of_text program t m inside =
    among_of_text program.body (visits_of_task program t) m inside.0 (by_start program.body (start_of program t) (start_stands program t)) inside.1 inside.2

-- ---- awaits

await_is : (c : Coming) (p : PhaserId) (off : Offset) → MakesOp c (Await p off) → (x : List ℕ) × (c ≡ a_plain (await x off))
await_is c p off (law.awaits x o q) = (x, refl)

no_end : (p : PhaserId) (off : Offset) (q : ℕ) → Await p off ≡ Drop (phaser q) → ⊥
no_end p off q e = cc

from_await : (program : Program) (t i : ℕ) (p : PhaserId) (off : Offset) → ComesFrom program t i (Await p off) →
    (n : ℕ) × (x : List ℕ) × (op_origin program t i ≡ Some (suc n)) × (slice_get (written_statements program.body) n ≡ Some (a_plain (await x off)))
from_await program t i p off (law.its_end q two same none) = absurd (no_end p off q same)
from_await program t i p off (law.a_visit m among made is) =
    let stands = visits_are_of_text program t m among in
    let a = await_is m.coming p off made in (
      m.statement - 1,
      a.0,
      is ∙ ap Some (let z : m.statement ≡ suc (m.statement - 1) = omega (arith, stands.0) in z),
      stands.1 ∙ ap (λ c. Some (statement_of c)) a.1,
    )

pub awaits_come_from_awaits : AwaitsComeFromAwaits
awaits_come_from_awaits program plan e t i p off there = from_await program t i p off (ops_have_origins program plan e t i (Await p off) there)
