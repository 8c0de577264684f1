use Rattle.std.proofs.Common.{◌≡◌, zero, suc, ◌∷◌, ◌<◌, arith, ap, length, ◌∙◌, sym, subst, refl, ℕ, List, [], get_or, set, length-set, inl, inr, false, true}
use Rattle.std.proofs.lemmas.List.{get_or_default, length-map}
use Rattle.std.proofs.lemmas.List.Elements.{Contains-push, Contains-push_cases, Contains-append_left}
use Rattle.std.specs.Prelude.{Vec}
use Rattle.std.specs.Global.{Global}
use Rattle.armus_base.proofs.Lists.{set_flag}
use Rattle.digraph.specs.calls.Graph.{graph_of}
use Rattle.dep_state.proofs.TaskPlaces.{row_at}
use Rattle.state_graph.proofs.ComingTask.{growing}
use Rattle.state_graph.proofs.growth.add_task.Goals as goal
use Rattle.state_graph.proofs.growth.add_task.Goals.{then-not-index+in_ok-push, else-not-index}

-- another row stays where one is set
other_row : (rows : List (Vec ℕ Global)) (k t : ℕ) (row : Vec ℕ Global) → k < t → get_or (graph_of (set rows k row)) t [] ≡ get_or (graph_of rows) t []
other_row [] k t row lt = refl
other_row (x ∷ xs) zero zero row lt = absurd (omega arith)
other_row (x ∷ xs) zero (suc t) row lt = refl
other_row (x ∷ xs) (suc k) zero row lt = absurd (omega arith)
other_row (x ∷ xs) (suc k) (suc t) row lt = other_row xs k t row (omega arith)

sized_rows : (rows : List (Vec ℕ Global)) (k : ℕ) (row : Vec ℕ Global) → length (graph_of (set rows k row)) ≡ length (graph_of rows)
sized_rows rows k row = length-map (set rows k row) (λ r. r.items) ∙ length-set rows k row ∙ sym (length-map rows (λ r. r.items))

pub follow_all-requires : goal.follow_all-requires
follow_all-requires c =
    let grown = c.requires.grown in
    let event = c.awaits_at-event.result in
    let old = c.args.growth.now in
    let lt : c.args.k < length old.waiting.items = omega (arith, c.requires.task, grown.sized.tasks, length-map old.waiting.items (λ r. r.items)) in
    let row : get_or (graph_of old.waiting.items) c.args.k [] ≡ c.replace-due.result.items =
    row_at old.waiting.items c.args.k c.index_mut.result.now lt c.index_mut.ensures.value ∙ ap (λ v. v.items) (sym c.replace-due.ensures.value) in
    let tasks = sized_rows old.waiting.items c.args.k c.replace-due.new.dest ∙ grown.sized.tasks in
    let same : (t : ℕ) → c.args.k < t → get_or (graph_of (set old.waiting.items c.args.k c.replace-due.new.dest)) t [] ≡ get_or (graph_of old.waiting.items) t
    [] = λ t l. other_row old.waiting.items c.args.k t c.replace-due.new.dest l in
    let at : c.index.result.now ≡ get_or old.seen.items event false =
    c.index.ensures ∙ get_or_default old.seen.items event c.index.result.now false (omega (arith, grown.sized.flags, c.awaits_at-event.ensures.inside)) in
    record {
      growing = rw c.deref.ensures.value (elim c.if-not-index.branch [
        | then-not-index+in_ok-push w ↦
            let off : get_or old.seen.items event false ≡ false = sym at ∙ w.if-not-index.true in
            let due = w.in_ok-push.ensures.items in
            rw (w.growth-is, w.due-is) (growing c.args.deps.now c.args.k event old.graph old.seen.items old.next.items (graph_of old.waiting.items) grown
            c.awaits_at-event.ensures.event
            (set old.seen.items event true) w.push.new.self.items (graph_of (set old.waiting.items c.args.k c.replace-due.new.dest))
            (record { nodes = grown.sized.nodes; flags = length-set old.seen.items event true ∙ grown.sized.flags; places = grown.sized.places; tasks = tasks })
            (λ j. set_flag old.seen.items event j (omega (arith, grown.sized.flags, c.awaits_at-event.ensures.inside)))
            (λ x. rw (due, row) (
              λ h. elim (Contains-push_cases c.replace-due.result.items event x h) [ inl l ↦ inl l | inr e ↦ inr (sym e, off) ],
              λ h. elim h [ inl l ↦ Contains-append_left c.replace-due.result.items (event ∷ []) x l | inr e ↦ rw e.0 (Contains-push c.replace-due.result.items event) ],
            ))
            same)
        | else-not-index w ↦
            let on : get_or old.seen.items event false ≡ true = sym at ∙ w.if-not-index.false in
            rw (w.growth-is, w.due-is) (growing c.args.deps.now c.args.k event old.graph old.seen.items old.next.items (graph_of old.waiting.items) grown
            c.awaits_at-event.ensures.event
            old.seen.items c.replace-due.result.items (graph_of (set old.waiting.items c.args.k c.replace-due.new.dest))
            (record { nodes = grown.sized.nodes; flags = grown.sized.flags; places = grown.sized.places; tasks = tasks })
            (λ j. (λ h. inr h, λ h. elim h [ inl e ↦ subst (λ v. get_or old.seen.items v false ≡ true) (sym e) on | inr s ↦ s ]))
            (λ x. rw row (λ h. inl h, λ h. elim h [ inl l ↦ l | inr e ↦ absurd (let f = e.1 in cc) ]))
            same)
      ]);
    }
