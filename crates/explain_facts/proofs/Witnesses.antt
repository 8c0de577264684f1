-- Who waits has the await of the text, and who is drawn has the name that stands there.
use Rattle.std.proofs.Common.{◌≡◌, ℕ, suc, ◌-◌, List, [], ◌∷◌, Option, Some, None, Ok, true, length, refl, sym, ap, subst, ◌∙◌, arith, length-append}
use Rattle.std.specs.Prelude.{option_map, slice_index_or}
use Rattle.std.specs.List.{slice_get}
use Rattle.std.proofs.lemmas.Slice.Zip.{AllZip-long}
use Rattle.armus_base.specs.declared.ending.TaskEnd.{TaskEnd}
use Rattle.armus_base.specs.declared.ending.TaskEnd.TheVariants.{Blocked}
use Rattle.armus_base.specs.declared.event.Event.{Event}
use Rattle.armus_base.specs.declared.offset.Offset.{Offset}
use Rattle.armus_base.specs.Finals.{end_of}
use Rattle.armus_base.specs.Places.{done_by, state_at}
use Rattle.armus_base.specs.Plans.{Plan}
use Rattle.armus_base.specs.Runs.{Place, places}
use Rattle.armus_base.specs.States.{State}
use Rattle.pl_plan.specs.Unfolding.{Coming, a_fork, a_loop, a_plain, a_turn, plan_of}
use Rattle.pl_plan.specs.Tests.{of_new_task}
use Rattle.pl_syntax.specs.BodyEnds.{EndsAt, end_tokens}
use Rattle.pl_syntax.specs.Grammar.{tokens}
use Rattle.pl_syntax.specs.StatementOffsets.{BeginAt, statement_tokens}
use Rattle.pl_syntax.specs.Tokens.{Token, sign, the_end}
use Rattle.pl_syntax.specs.Tree.{Tree, adv, await, count, dereg, done, fork, loop, new_phaser, new_task, plain, reg, skip}
use Rattle.pl_syntax.specs.declared.token.Sign.TheVariants.{CloseBrace}
use Rattle.pl_syntax.specs.declared.tree.Program.{Program}
use Rattle.source_map.specs.calls.OriginLaws.{statement_of}
use Rattle.source_map.specs.Origins.{statement_in, written_statements}
use Rattle.source_map.proofs.MadeByVisits.{tasks_have_origins}
use Rattle.source_map.proofs.WrittenStatements.{visits_are_of_text}
use Rattle.explain_facts.specs.Accounts.{HasWait, Layout, drawn_of, statement_place, words_of}
use Rattle.explain_facts.specs.Names.{given_name}
use Rattle.explain_facts.specs.AwaitWords.{await_text}
use Rattle.explain_facts.specs.calls.Laws.{DrawnHaveNames, StatementsHavePlaces, WaitersHaveAwaits}
use Rattle.explain_facts.specs.declared.account.Drawn.{Drawn}
use Rattle.explain_facts.specs.declared.account.Waiting.{Waiting}
use Rattle.explain_facts.proofs.AtPlaces.{to_places}
use Rattle.explain_facts.proofs.Awaiting.{waits_at_await}
use Rattle.pl_plan.proofs.TextsAreNear.{text_is_checked}

-- ---- layouts

many_tokens : (tree : Tree) (rest : List Token) → length (statement_tokens tree rest) ≡ count tree
many_tokens done rest = refl
many_tokens (plain s more) rest = let h = many_tokens more rest in omega arith
many_tokens (fork x body more) rest =
    let own = sign CloseBrace ∷ tokens more rest in
    let a = length-append (statement_tokens body own) (statement_tokens more rest) in
    let b = many_tokens body own in let c = many_tokens more rest in omega arith
many_tokens (loop k body more) rest =
    let own = sign CloseBrace ∷ tokens more rest in
    let a = length-append (statement_tokens body own) (statement_tokens more rest) in
    let b = many_tokens body own in let c = many_tokens more rest in omega arith

many_ends : (tree : Tree) (rest : List Token) → length (end_tokens tree rest) ≡ count tree
many_ends done rest = refl
many_ends (plain s more) rest = let h = many_ends more rest in omega arith
many_ends (fork x body more) rest =
    let own = sign CloseBrace ∷ tokens more rest in
    let a = length-append (end_tokens body own) (end_tokens more rest) in
    let b = many_ends body own in let c = many_ends more rest in omega arith
many_ends (loop k body more) rest =
    let own = sign CloseBrace ∷ tokens more rest in
    let a = length-append (end_tokens body own) (end_tokens more rest) in
    let b = many_ends body own in let c = many_ends more rest in omega arith

pub statements_have_places : StatementsHavePlaces
statements_have_places p l is = (
  AllZip-long (BeginAt l.text p) (statement_tokens p.body (the_end ∷ [])) l.offsets is.offsets ∙ many_tokens p.body (the_end ∷ []),
  AllZip-long (EndsAt l.text p) (end_tokens p.body (the_end ∷ [])) l.ends is.ends ∙ many_ends p.body (the_end ∷ []),
)

-- ---- who waits

waiting_is :
    (l : Layout) (p : Program) (plan : Plan) (a : ℕ → Place) (t : ℕ) (e : Event) (o : Option Waiting) → plan_of p ≡ Ok plan →
    end_of (state_at plan a) t ≡ Blocked e → HasWait l p plan (state_at plan a) (done_by a) t (Blocked e) o →
    (w : Waiting) × (n : ℕ) × (x : List ℕ) × (off : Offset) × (o ≡ Some w) × (slice_get (written_statements p.body) n ≡ Some (a_plain (await x off)))
    × (w.words ≡ await_text x off) × (w.at ≡ statement_place l (suc n))
waiting_is l p plan a t e None unfolds ended is = absurd is
waiting_is l p plan a t e (Some w) unfolds ended is =
    let (n, x, off, origin, statement) = waits_at_await p plan a t is.op e unfolds ended is.stands in
    let number : Some is.n ≡ Some (suc n) = sym is.origin ∙ origin in
    let same : is.n ≡ suc n = cc in (
      w,
      n,
      x,
      off,
      refl,
      statement,
      is.words ∙ (ap (λ m. words_of (statement_in (written_statements p.body) m)) same ∙ ap words_of statement),
      is.at ∙ ap (statement_place l) same,
    )

pub waiters_have_awaits : WaitersHaveAwaits
waiters_have_awaits text p plan s counts account unfolds there known t d lt e ended =
    let checked = text_is_checked text p plan known.reads unfolds in
    let wait = (slice_index_or account.tasks t d).wait in
    let has = subst (λ (end : TaskEnd). HasWait known.layout p plan s counts t end wait) ended (known.each t d lt).wait in
    let (blocked, waits) =
    to_places plan s counts checked there (λ (x : State) (g : ℕ → ℕ). (end_of x t ≡ Blocked e) × HasWait known.layout p plan x g t (Blocked e) wait) (ended, has) in
    waiting_is known.layout p plan (places there.steps) t e wait unfolds blocked waits

-- ---- who is drawn

-- what draws a task is a newTid
drawing : (c : Coming) → of_new_task c ≡ true → (x : List ℕ) × (c ≡ a_plain (new_task x))
drawing (a_plain (new_task x)) e = (x, refl)
drawing (a_plain (new_phaser x)) e = absurd cc
drawing (a_plain (reg x y)) e = absurd cc
drawing (a_plain (dereg x)) e = absurd cc
drawing (a_plain (adv x)) e = absurd cc
drawing (a_plain (await x off)) e = absurd cc
drawing (a_plain skip) e = absurd cc
drawing (a_fork x body) e = absurd cc
drawing a_loop e = absurd cc
drawing a_turn e = absurd cc

pub drawn_have_names : DrawnHaveNames
drawn_have_names text p plan s counts account unfolds known t d lt =
    let (u, parent, origin) = tasks_have_origins p plan unfolds t lt in
    let (some, stands) = visits_are_of_text p u origin.by origin.among in
    let (x, is) = drawing origin.by.coming origin.passes in
    let n = origin.by.statement - 1 in
    let number : origin.by.statement ≡ suc n = omega (arith, some) in
    let statement : slice_get (written_statements p.body) n ≡ Some (a_plain (new_task x)) = stands ∙ ap (λ c. Some (statement_of c)) is in
    let drawn : Drawn = record { at = statement_place known.layout (suc n); name = given_name (slice_get (written_statements p.body) n) } in
    let task = known.each (suc t) d lt in
    let here : drawn_of known.layout p (suc t) ≡ Some drawn =
    ap (option_map (λ m. record { at = statement_place known.layout m; name = given_name (statement_in (written_statements p.body) m) })) (origin.is ∙ ap Some number) in
    (drawn, n, x, task.drawn ∙ here, statement, ap given_name statement, refl)
