-- Some dead tasks are the first of a list of all.
use Rattle.std.proofs.Common.{◌≡◌, ◌≢◌, ℕ, List, [], ◌∷◌, ◌++◌, get_or, sym, ap, ◌∙◌, subst, inl, inr, append_assoc, append-nil}
use Rattle.std.specs.Prelude.{Contains}
use Rattle.std.proofs.lemmas.List.Elements.{Contains-append_left, Contains-push, Contains-push_cases}
use Rattle.std.proofs.lemmas.List.Quantifiers.{all_pairs_push}
use Rattle.armus_base.specs.declared.ids.TaskId.{TaskId}
use Rattle.armus_base.specs.declared.event.Event.{Event}
use Rattle.armus_base.specs.declared.status.Dead.{Dead}
use Rattle.armus_base.specs.declared.status.Status.{Status}
use Rattle.armus_base.specs.Deadlocks.{IsDeadBy, IsListedOn}
use Rattle.armus_base.proofs.Below.{contains_at}
use Rattle.armus_base.proofs.Elements.{nothing_in_nil, Contains-cons_cases, Contains-head, Contains-tail}
use Rattle.report.specs.NamedDead.{AreSomeDead}
use Rattle.report.specs.calls.NamedDead.{SomeDeadExtend}
use Rattle.report.proofs.CycleExists.{told_task}
use Rattle.adaptive.proofs.Deciding.{told_some}
use Rattle.adaptive.proofs.DeadOrNot.{dead_list_exists}

module _ (blocked : List Status) where
  -- one more dead task, that is not named yet
  named_more : (named : List Dead) (t : TaskId) (e : Event) → AreSomeDead blocked named → ((d : Dead) → Contains named d → d.t ≢ t) → IsDeadBy blocked t.0 →
      IsListedOn blocked t.0 e → AreSomeDead blocked (named ++ record { t = t; event = e } ∷ [])
  named_more named t e are new dead listed =
      let d : Dead = record { t = t; event = e } in
      record {
        once = all_pairs_push (λ a b. a.t ≢ b.t) named d are.once (λ k x l. new (get_or named k x) (contains_at named k x l));
        dead = λ x m. elim (Contains-push_cases named d x m) [
          | inl before ↦ are.dead x before
          | inr is ↦ subst (λ y. IsDeadBy blocked y.t.0 × IsListedOn blocked y.t.0 y.event) is (dead, listed)
        ];
      }

  -- a list that goes on from the named ones, and names each of some tasks
  record Extended (named : List Dead) (rest : List TaskId) : Type 0 where
    more : List Dead
    are : AreSomeDead blocked (named ++ more)
    all : (t : TaskId) → Contains rest t → (d : Dead) × Contains (named ++ more) d × (d.t ≡ t)

  was_named : (named : List Dead) (t : TaskId) (rest : List TaskId) (d : Dead) → Contains named d → d.t ≡ t → Extended named rest → Extended named (t ∷ rest)
  was_named named t rest d m is h =
      record {
        more = h.more;
        are = h.are;
        all = λ u i. elim (Contains-cons_cases t rest u i) [
          | inl same ↦ (d, Contains-append_left named h.more d m, is ∙ same)
          | inr later ↦ h.all u later
        ];
      }

  is_named : (named : List Dead) (t : TaskId) (e : Event) (rest : List TaskId) → Extended (named ++ record { t = t; event = e } ∷ []) rest → Extended named (t ∷ rest)
  is_named named t e rest h =
      let d : Dead = record { t = t; event = e } in
      let whole : (named ++ d ∷ []) ++ h.more ≡ named ++ d ∷ h.more = append_assoc named (d ∷ []) h.more in
      record {
        more = d ∷ h.more;
        are = subst (AreSomeDead blocked) whole h.are;
        all = λ u i. elim (Contains-cons_cases t rest u i) [
          | inl same ↦ (d, subst (λ l. Contains l d) whole (Contains-append_left (named ++ d ∷ []) h.more d (Contains-push named d)), same)
          | inr later ↦ let (x, m, is) = h.all u later in (x, subst (λ l. Contains l x) whole m, is)
        ];
      }

  extended : (rest : List TaskId) (named : List Dead) → AreSomeDead blocked named → ((t : TaskId) → Contains rest t → IsDeadBy blocked t.0) → Extended named rest
  extended [] named are dead =
      record { more = []; are = subst (AreSomeDead blocked) (sym (append-nil named)) are; all = λ t m. absurd (nothing_in_nil t m) }
  extended (t ∷ rest) named are dead =
      let dead_t = dead t (Contains-head t rest) in
      let dead_rest : (u : TaskId) → Contains rest u → IsDeadBy blocked u.0 = λ u m. dead u (Contains-tail t rest u m) in
      elim (told_some (λ d. d.t ≡ t) (λ d. told_task d.t t) named) [
        | inl one ↦ let (d, m, is) = one in was_named named t rest d m is (extended rest named are dead_rest)
        | inr none ↦
            let held = dead_t.deadlocked.each t.0 dead_t.inside in
            is_named named t held.event rest
            (extended rest (named ++ record { t = t; event = held.event } ∷ [])
            (named_more named t held.event are (λ d m is. none (d, m, is)) dead_t held.waits) dead_rest)
      ]

pub some_dead_extend : SomeDeadExtend
some_dead_extend blocked named are =
    let (dead, is) = dead_list_exists blocked in
    let h = extended blocked dead named are (λ t m. (is.exact t).0 m) in
    let task : ℕ → TaskId = λ n. record { 0 = n } in (
      h.more,
      record {
        some = h.are;
        all = λ t d. let (x, m, same) = h.all (task t) ((is.exact (task t)).1 d) in (x, m, ap (λ y. y.0) same);
      },
    )
