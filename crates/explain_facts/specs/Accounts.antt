-- What is known of the tasks of a text in a state to which its run has come.
use Rattle.std.specs.Prelude.{◌≡◌, ℕ, zero, suc, ◌<◌, ◌==◌, List, [], ◌∷◌, Option, Some, None, drop, if◌then◌else◌, length, map, option_map, slice_index_or, unwrap_or}
use Rattle.std.specs.List.{slice_get}
use Rattle.armus_base.specs.declared.ending.TaskEnd.{TaskEnd}
use Rattle.armus_base.specs.declared.ending.TaskEnd.TheVariants.{Blocked, Done, Refused, Unforked}
use Rattle.armus_base.specs.declared.event.Event.{Event}
use Rattle.armus_base.specs.declared.ids.TaskId.{TaskId}
use Rattle.armus_base.specs.declared.offset.Offset.{Offset}
use Rattle.armus_base.specs.declared.offset.Offset.TheVariants.{Here}
use Rattle.armus_base.specs.declared.op.Op.{Op}
use Rattle.armus_base.specs.declared.op.Op.TheVariants.{Make, Reg, Fork, Adv, Drop, Await}
use Rattle.armus_base.specs.Finals.{end_of, given_below}
use Rattle.armus_base.specs.Plans.{Plan, code_of}
use Rattle.armus_base.specs.States.{State}
use Rattle.pl_core.specs.Tasks.{IsAtOp}
use Rattle.pl_plan.specs.Unfolding.{Coming, a_plain}
use Rattle.pl_syntax.specs.BodyEnds.{AreEnds}
use Rattle.pl_syntax.specs.Grammar.{IsText}
use Rattle.pl_syntax.specs.StatementOffsets.{AreOffsets}
use Rattle.pl_syntax.specs.Tree.{await, count}
use Rattle.pl_syntax.specs.declared.tree.Program.{Program}
use Rattle.source_map.specs.Origins.{fork_origin, last_origin, op_origin, phaser_origins, statement_in, task_origin, written_statements}
use Rattle.source_map.specs.Turns.{op_turns}
use Rattle.source_map.specs.declared.turns.LoopTurn.{LoopTurn}
use Rattle.source_map.specs.TextPlaces.{text_place}
use Rattle.source_map.specs.declared.place.TextPlace.{TextPlace}
use Rattle.explain_facts.specs.AwaitWords.{await_text}
use Rattle.explain_facts.specs.ImmediateAwaits.{is_immediate}
use Rattle.explain_facts.specs.Names.{given_name, program_names}
use Rattle.explain_facts.specs.declared.account.Account.{Account}
use Rattle.explain_facts.specs.declared.account.Doing.{Doing}
use Rattle.explain_facts.specs.declared.account.Doing.TheVariants.{Advances, Leaves}
use Rattle.explain_facts.specs.declared.account.NextOp.{NextOp}
use Rattle.explain_facts.specs.declared.account.Drawn.{Drawn}
use Rattle.explain_facts.specs.declared.account.CodeEnd.{CodeEnd}
use Rattle.explain_facts.specs.declared.account.Forked.{Forked}
use Rattle.explain_facts.specs.declared.account.ImmediateAwait.{ImmediateAwait}
use Rattle.explain_facts.specs.declared.account.TaskAccount.{TaskAccount}
use Rattle.explain_facts.specs.declared.account.Turn.{Turn}
use Rattle.explain_facts.specs.declared.account.Waiting.{Waiting}

-- ---- places

-- a text, the offsets of its statements, and those of the braces that close the bodies of these
pub record Layout : Type 0 where
  pub text : List ℕ
  pub offsets : List ℕ
  pub ends : List (Option ℕ)

-- this is the layout of the text of this program
pub record IsLayout (p : Program) (l : Layout) : Type 0 where
  pub offsets : AreOffsets l.text p l.offsets
  pub ends : AreEnds l.text p l.ends

-- what has this number, from 1 on
abbrev pub numbered : {A : Type 0} → List A → ℕ → Option A
numbered xs zero = None
numbered xs (suc i) = slice_get xs i

-- the place of this byte, and the end of the text where there is none
abbrev pub place_or_end : List ℕ → Option ℕ → TextPlace
place_or_end text None = text_place text (length text)
place_or_end text (Some offset) = text_place text offset

-- the place of statement n
abbrev pub statement_place : Layout → ℕ → TextPlace
statement_place l n = place_or_end l.text (numbered l.offsets n)

-- the brace, where there is a body and it has one
abbrev pub brace_of : Option (Option ℕ) → Option ℕ
brace_of None = None
brace_of (Some end) = end

-- the place at which the body of fork f ends; for 0 the end of the text
abbrev pub end_place : Layout → ℕ → TextPlace
end_place l f = place_or_end l.text (brace_of (numbered l.ends f))

-- ---- tasks

-- where task t is drawn, and the name there
abbrev pub drawn_of : Layout → Program → ℕ → Option Drawn
drawn_of l p t =
    option_map (λ n. record { at = statement_place l n; name = given_name (statement_in (written_statements p.body) n) }) (task_origin p t)

-- where a task is forked, by its fork and by the task that drew it, which forks it
abbrev pub forked_by : Layout → Option ℕ → Option TaskId → Option Forked
forked_by l (Some n) (Some u) = Some (record { at = statement_place l n; by = u })
forked_by l _ _ = None

-- the same of task t
abbrev pub forked_of : Layout → Program → Plan → ℕ → Option Forked
forked_of l p plan t = forked_by l (fork_origin p t) (slice_index_or plan.parents t None)

-- where the code of task t ends, and the statement of its last visit
abbrev pub ended_of : Layout → Program → ℕ → Option CodeEnd
ended_of l p t = option_map (λ f. record { at = end_place l f; last = option_map (statement_place l) (last_origin p t) }) (fork_origin p t)

-- ---- tasks that wait

-- the words of an await
abbrev pub words_of : Option Coming → List ℕ
words_of (Some (a_plain (await x off))) = await_text x off
words_of _ = []

-- turns with the places of their loops
abbrev pub placed_turns : Layout → List LoopTurn → List Turn
placed_turns l turns = map (λ (turn : LoopTurn). record { turn = turn.turn; at = statement_place l turn.statement }) turns

-- where task t waits for the event in state s: at the op of its code at which it stands, of which it has done so many actions, and which comes from statement n
pub record IsWaiting (l : Layout) (p : Program) (plan : Plan) (s : State) (done : ℕ → ℕ) (t : ℕ) (e : Event) (w : Waiting) : Type 0 where
  pub op : ℕ
  pub stands : IsAtOp (code_of plan t) (done t) op
  pub n : ℕ
  pub origin : op_origin p t op ≡ Some n
  pub at : w.at ≡ statement_place l n
  pub words : w.words ≡ words_of (statement_in (written_statements p.body) n)
  pub event : w.event ≡ e
  pub phase : s.phases t e.p.0 ≡ Some w.phase
  pub turns : w.turns ≡ placed_turns l (op_turns p t op)

-- a task has a wait just where it has ended so
abbrev pub HasWait : Layout → Program → Plan → State → (ℕ → ℕ) → ℕ → TaskEnd → Option Waiting → Type 0
HasWait l p plan s done t (Blocked e) (Some w) = IsWaiting l p plan s done t e w
HasWait l p plan s done t (Blocked e) None = ⊥
HasWait l p plan s done t Done w = w ≡ None
HasWait l p plan s done t (Refused e) w = w ≡ None
HasWait l p plan s done t Unforked w = w ≡ None

-- ---- what comes next

-- what the op does to phaser q, if it advances it or leaves it
abbrev pub does_to : ℕ → Op → Option Doing
does_to q (Make p) = None
does_to q (Reg c p) = None
does_to q (Fork c) = None
does_to q (Adv p) = if p.0 == q then Some Advances else None
does_to q (Drop p) = if p.0 == q then Some Leaves else None
does_to q (Await p off) = None

-- what the op with number i does, if it does something; else what is behind it
abbrev pub done_or : Option Doing → ℕ → Option (Doing × ℕ) → Option (Doing × ℕ)
done_or None i behind = behind
done_or (Some does) i behind = Some (does, i)

-- the first of these ops that advances phaser q or leaves it: which of both, and its number, where the first of them all has number i
abbrev pub first_on : ℕ → ℕ → List Op → Option (Doing × ℕ)
first_on q i [] = None
first_on q i (o ∷ ops) = done_or (does_to q o) i (first_on q (suc i) ops)

-- the place of an op of task t that comes from this statement; one that comes from none is of the task's end
abbrev pub op_place : Layout → Program → ℕ → Option ℕ → TextPlace
op_place l p t None = end_place l (unwrap_or (fork_origin p t) 0)
op_place l p t (Some n) = statement_place l n

-- what task t does next to phaser q, by the first op there
abbrev pub next_op : Layout → Program → ℕ → ℕ → Option (Doing × ℕ) → Option NextOp
next_op l p t q None = None
next_op l p t q (Some (does, i)) = Some (record { p = record { 0 = q }; does = does; at = op_place l p t (op_origin p t i) })

-- what task t does next to each phaser, in order of number: by the ops of its code from the one on at which it stands
pub record AreNextOps (l : Layout) (p : Program) (plan : Plan) (done : ℕ → ℕ) (t : ℕ) (nexts : List NextOp) : Type 0 where
  pub op : ℕ
  pub stands : IsAtOp (code_of plan t) (done t) op
  pub are : nexts ≡ given_below (λ q. next_op l p t q (first_on q op (drop op (code_of plan t)))) (length plan.makers)

-- ---- awaits at which nobody ever has to wait

-- how far a statement looks back or ahead, if it is an await
abbrev pub awaited_offset : Option Coming → Offset
awaited_offset (Some (a_plain (await x off))) = off
awaited_offset _ = Here

-- what is told of statement n
abbrev pub told_await : Layout → Program → ℕ → ImmediateAwait
told_await l p n = record {
  at = statement_place l n;
  words = words_of (statement_in (written_statements p.body) n);
  off = awaited_offset (statement_in (written_statements p.body) n);
}

-- the same, if nobody ever has to wait there
abbrev pub immediate_await : Layout → Program → Plan → ℕ → Option ImmediateAwait
immediate_await l p plan n = if is_immediate p plan n then Some (told_await l p n) else None

-- all of them, in order of their places
abbrev pub immediate_awaits : Layout → Program → Plan → List ImmediateAwait
immediate_awaits l p plan = given_below (λ i. immediate_await l p plan (suc i)) (count p.body)

-- ---- the account

-- what is known of task t
pub record IsTaskAccount (l : Layout) (p : Program) (plan : Plan) (s : State) (done : ℕ → ℕ) (t : ℕ) (account : TaskAccount) : Type 0 where
  pub drawn : account.drawn ≡ drawn_of l p t
  pub fork : account.fork ≡ forked_of l p plan t
  pub ended : account.ended ≡ ended_of l p t
  pub wait : HasWait l p plan s done t (end_of s t) account.wait
  pub nexts : AreNextOps l p plan done t account.nexts

-- the account of the text, which is that of this program, whose plan has been run up to this state, where each task has done so many actions of its code
pub record IsAccount (text : List ℕ) (p : Program) (plan : Plan) (s : State) (done : ℕ → ℕ) (account : Account) : Type 0 where
  pub reads : IsText text p
  pub layout : Layout
  pub of_text : layout.text ≡ text
  pub is_layout : IsLayout p layout
  pub all_told : length account.tasks ≡ length plan.parents
  pub each : (t : ℕ) (d : TaskAccount) → t < length plan.parents → IsTaskAccount layout p plan s done t (slice_index_or account.tasks t d)
  pub phasers : account.phasers ≡ map (statement_place layout) (phaser_origins p)
  pub names : account.names ≡ program_names p
  pub immediate : account.immediate ≡ immediate_awaits layout p plan
