-- A state of a text's plan has one account at most.
use Rattle.std.proofs.Common.{◌≡◌, ℕ, zero, suc, ◌+◌, ◌<◌, ◌≤◌, List, [], ◌∷◌, Option, Some, None, drop, length, map, sym, ap, subst, ◌∙◌, inl, inr, arith}
use Rattle.std.specs.Prelude.{slice_index_or}
use Rattle.std.proofs.lemmas.Bool.{cases_lt}
use Rattle.std.proofs.lemmas.List.{same_lists}
use Rattle.armus_base.specs.declared.ending.TaskEnd.{TaskEnd}
use Rattle.armus_base.specs.declared.ending.TaskEnd.TheVariants.{Blocked, Done, Refused, Unforked}
use Rattle.armus_base.specs.declared.event.Event.{Event}
use Rattle.armus_base.specs.declared.op.Op.{Op}
use Rattle.armus_base.specs.declared.op.Op.TheVariants as op
use Rattle.armus_base.specs.Finals.{end_of, given_below}
use Rattle.armus_base.specs.Plans.{Plan, code_of}
use Rattle.armus_base.specs.States.{State}
use Rattle.pl_core.specs.Tasks.{IsAtOp, actions_before}
use Rattle.pl_syntax.specs.declared.tree.Program.{Program}
use Rattle.pl_syntax.proofs.OneListOfEnds.{one_list_of_ends}
use Rattle.pl_syntax.proofs.OneListOfOffsets.{one_list_of_offsets}
use Rattle.source_map.specs.Origins.{op_origin, phaser_origins, statement_in, written_statements}
use Rattle.source_map.specs.Turns.{op_turns}
use Rattle.source_map.specs.declared.place.TextPlace.{TextPlace}
use Rattle.explain_facts.specs.Accounts.{AreNextOps, IsLayout, IsTaskAccount, HasWait, IsWaiting, Layout, first_on, immediate_awaits, next_op, placed_turns, statement_place, words_of}
use Rattle.explain_facts.specs.calls.Laws.{OneAccount}
use Rattle.explain_facts.specs.declared.account.Account.{Account}
use Rattle.explain_facts.specs.declared.account.Drawn.{Drawn}
use Rattle.explain_facts.specs.declared.account.CodeEnd.{CodeEnd}
use Rattle.explain_facts.specs.declared.account.Forked.{Forked}
use Rattle.explain_facts.specs.declared.account.ImmediateAwait.{ImmediateAwait}
use Rattle.explain_facts.specs.declared.account.NextOp.{NextOp}
use Rattle.explain_facts.specs.declared.account.TaskAccount.{TaskAccount}
use Rattle.explain_facts.specs.declared.account.Turn.{Turn}
use Rattle.explain_facts.specs.declared.names.GivenNames.{GivenNames}
use Rattle.explain_facts.specs.declared.account.Waiting.{Waiting}

-- more ops have no fewer actions
more_actions : (ops : List Op) (n m : ℕ) → n ≤ m → actions_before ops n ≤ actions_before ops m
more_actions ops zero m le = omega arith
more_actions [] (suc n) zero le = omega arith
more_actions [] (suc n) (suc m) le = omega arith
more_actions (o ∷ ops) (suc n) zero le = absurd (omega arith)
more_actions (op.Make p ∷ ops) (suc n) (suc m) le = let h = more_actions ops n m (omega arith) in omega arith
more_actions (op.Reg c p ∷ ops) (suc n) (suc m) le = let h = more_actions ops n m (omega arith) in omega arith
more_actions (op.Fork c ∷ ops) (suc n) (suc m) le = let h = more_actions ops n m (omega arith) in omega arith
more_actions (op.Adv p ∷ ops) (suc n) (suc m) le = let h = more_actions ops n m (omega arith) in omega arith
more_actions (op.Drop p ∷ ops) (suc n) (suc m) le = let h = more_actions ops n m (omega arith) in omega arith
more_actions (op.Await p off ∷ ops) (suc n) (suc m) le = let h = more_actions ops n m (omega arith) in omega arith

-- no task is at two ops
not_below : (ops : List Op) (k n m : ℕ) → IsAtOp ops k n → IsAtOp ops k m → n < m → ⊥
not_below ops k n m a b lt =
    let below = a.below (omega (arith, b.within)) in
    let more = more_actions ops (n + 1) m (omega arith) in
    omega (arith, b.from)

pub one_op : (ops : List Op) (k n m : ℕ) → IsAtOp ops k n → IsAtOp ops k m → n ≡ m
one_op ops k n m a b =
    elim (cases_lt n m) [
      | inl l ↦ absurd (not_below ops k n m a b l)
      | inr l ↦ elim (cases_lt m n) [ inl l' ↦ absurd (not_below ops k m n b a l') | inr l' ↦ omega arith ]
    ]

-- ---- layouts

same_layout :
    (t t' o o' : List ℕ) (e e' : List (Option ℕ)) → t ≡ t' → o ≡ o' → e ≡ e' →
    let l : Layout = record { text = t; offsets = o; ends = e } in let m : Layout = record { text = t'; offsets = o'; ends = e' } in l ≡ m
same_layout t t' o o' e e' a b c = cc

pub one_layout : (p : Program) (l m : Layout) → IsLayout p l → IsLayout p m → l.text ≡ m.text → l ≡ m
one_layout p l m a b same =
    let again : IsLayout p (record { text = m.text; offsets = l.offsets; ends = l.ends }) =
    subst (λ text. IsLayout p (record { text = text; offsets = l.offsets; ends = l.ends })) same a in
    same_layout l.text m.text l.offsets m.offsets l.ends m.ends same (one_list_of_offsets m.text p l.offsets m.offsets again.offsets b.offsets)
    (one_list_of_ends m.text p l.ends m.ends again.ends b.ends)

-- ---- tasks

same_waiting :
    (at at' : TextPlace) (words words' : List ℕ) (event event' : Event) (phase phase' : ℕ) (turns turns' : List Turn) →
    at ≡ at' → words ≡ words' → event ≡ event' → phase ≡ phase' → turns ≡ turns' →
    let v : Waiting = record { at = at; words = words; event = event; phase = phase; turns = turns } in
    let w : Waiting = record { at = at'; words = words'; event = event'; phase = phase'; turns = turns' } in v ≡ w
same_waiting at at' words words' event event' phase phase' turns turns' a b c d e = cc

module _ (l : Layout) (p : Program) (plan : Plan) (s : State) (done : ℕ → ℕ) (t : ℕ) where
  one_waiting : (e : Event) (v w : Waiting) → IsWaiting l p plan s done t e v → IsWaiting l p plan s done t e w → v ≡ w
  one_waiting e v w x y =
      let same = one_op (code_of plan t) (done t) x.op y.op x.stands y.stands in
      let origin : Some x.n ≡ Some y.n = sym x.origin ∙ (ap (op_origin p t) same ∙ y.origin) in
      let number : x.n ≡ y.n = cc in
      let phases : Some v.phase ≡ Some w.phase = sym x.phase ∙ y.phase in
      let phase : v.phase ≡ w.phase = cc in
      same_waiting v.at w.at v.words w.words v.event w.event v.phase w.phase v.turns w.turns (x.at ∙ (ap (statement_place l) number ∙ sym y.at))
      (x.words ∙ (ap (λ n. words_of (statement_in (written_statements p.body) n)) number ∙ sym y.words)) (x.event ∙ sym y.event) phase
      (x.turns ∙ (ap (λ k. placed_turns l (op_turns p t k)) same ∙ sym y.turns))

  one_wait : (end : TaskEnd) (v w : Option Waiting) → HasWait l p plan s done t end v → HasWait l p plan s done t end w → v ≡ w
  one_wait (Blocked e) (Some v) (Some w) x y = ap Some (one_waiting e v w x y)
  one_wait (Blocked e) None w x y = absurd x
  one_wait (Blocked e) (Some v) None x y = absurd y
  one_wait Done v w x y = x ∙ sym y
  one_wait (Refused e) v w x y = x ∙ sym y
  one_wait Unforked v w x y = x ∙ sym y

  one_list_of_nexts : (v w : List NextOp) → AreNextOps l p plan done t v → AreNextOps l p plan done t w → v ≡ w
  one_list_of_nexts v w x y =
      x.are
      ∙ (ap (λ i. given_below (λ q. next_op l p t q (first_on q i (drop i (code_of plan t)))) (length plan.makers))
      (one_op (code_of plan t) (done t) x.op y.op x.stands y.stands)
      ∙ sym y.are)

  same_task :
      (drawn drawn' : Option Drawn) (fork fork' : Option Forked) (ended ended' : Option CodeEnd) (wait wait' : Option Waiting) (nexts nexts' : List NextOp) →
      drawn ≡ drawn' → fork ≡ fork' → ended ≡ ended' → wait ≡ wait' → nexts ≡ nexts' →
      let v : TaskAccount = record { drawn = drawn; fork = fork; ended = ended; wait = wait; nexts = nexts } in
      let w : TaskAccount = record { drawn = drawn'; fork = fork'; ended = ended'; wait = wait'; nexts = nexts' } in v ≡ w
  same_task drawn drawn' fork fork' ended ended' wait wait' nexts nexts' a b c d e = cc

  one_task : (v w : TaskAccount) → IsTaskAccount l p plan s done t v → IsTaskAccount l p plan s done t w → v ≡ w
  one_task v w x y =
      same_task v.drawn w.drawn v.fork w.fork v.ended w.ended v.wait w.wait v.nexts w.nexts (x.drawn ∙ sym y.drawn) (x.fork ∙ sym y.fork) (x.ended ∙ sym y.ended)
      (one_wait (end_of s t) v.wait w.wait x.wait y.wait) (one_list_of_nexts v.nexts w.nexts x.nexts y.nexts)

-- ---- accounts

same_account :
    (tasks tasks' : List TaskAccount) (phasers phasers' : List TextPlace) (names names' : GivenNames) (immediate immediate' : List ImmediateAwait) →
    tasks ≡ tasks' → phasers ≡ phasers' → names ≡ names' → immediate ≡ immediate' →
    let v : Account = record { tasks = tasks; phasers = phasers; names = names; immediate = immediate } in
    let w : Account = record { tasks = tasks'; phasers = phasers'; names = names'; immediate = immediate' } in v ≡ w
same_account tasks tasks' phasers phasers' names names' immediate immediate' a b c d = cc

pub one_account : OneAccount
one_account text p plan s done account other x y =
    let layout : x.layout ≡ y.layout = one_layout p x.layout y.layout x.is_layout y.is_layout (x.of_text ∙ sym y.of_text) in
    let long : length account.tasks ≡ length other.tasks = x.all_told ∙ sym y.all_told in
    same_account account.tasks other.tasks account.phasers other.phasers account.names other.names account.immediate other.immediate
    (same_lists account.tasks other.tasks long
    (λ k d lt. one_task y.layout p plan s done k (slice_index_or account.tasks k d) (slice_index_or other.tasks k d)
    (subst (λ (l : Layout). IsTaskAccount l p plan s done k (slice_index_or account.tasks k d)) layout (x.each k d (omega (arith, lt, x.all_told))))
    (y.each k d (omega (arith, lt, x.all_told)))))
    (x.phasers ∙ (ap (λ (l : Layout). map (statement_place l) (phaser_origins p)) layout ∙ sym y.phasers))
    (x.names ∙ sym y.names)
    (x.immediate ∙ (ap (λ (l : Layout). immediate_awaits l p plan) layout ∙ sym y.immediate))
