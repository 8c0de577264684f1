use Rattle.std.proofs.Common.{rules, ◌≡◌, ℕ, ◌≤◌, inl, inr, ◌∷◌, ◌++◌, [], List, length, sym, ap, ◌∙◌, subst, append_assoc, arith}
use Rattle.std.specs.Prelude.{Contains}
use Rattle.std.proofs.lemmas.List.Elements.{Contains-append_left}
use Rattle.std.specs.Vec.{vec_capacity}
use Rattle.atomic_table.specs.Seated.{TableId}
use Rattle.slot_pool.specs.calls.PoolValues.{WorkerValue, IsNumberOf, IsOfPool}
use Rattle.slot_pool.specs.inside.Views.{joined}
use Rattle.slot_pool.proofs.Joining.{joins_in}
use Rattle.slot_pool.proofs.JoinedAll.{any_none, all_last, all_others, gathers_more, gathers_one, no_items, zero_cases}
use Rattle.slot_pool.proofs.Members.{contains_first}
use Rattle.slot_pool.proofs.gathering.gather.Goals as goal

pub loop-worker-init : goal.loop-worker-init
loop-worker-init g c =
    let w = c.in-Some.last in
    let list : c.args.workers.items ≡ c.pop.new.self.items ++ w ∷ [] = c.in-Some.ensures.items in
    let place = c.into_parts-place.ensures in
    let made = all_last (λ (x : WorkerValue). IsOfPool x c.args.pool.now) c.args.workers.items c.pop.new.self.items w list c.requires.made in
    let idle = all_last (λ (x : WorkerValue). x.view.has ≡ []) c.args.workers.items c.pop.new.self.items w list c.requires.idle in
    let v = ap (λ (h : WorkerValue). h.view) place.place in record {
      table = ap (λ (h : WorkerValue). h.table) place.place ∙ made.table;
      slots = place.slots idle;
      number = (place.number.0, subst (λ ns. Contains ns place.number.0) (sym (ap (λ (h : WorkerValue). h.view.numbers) place.place ∙ place.number.1)) (contains_first place.number.0 []));
      made = all_others (λ (x : WorkerValue). IsOfPool x c.args.pool.now) c.args.workers.items c.pop.new.self.items w list c.requires.made;
      idle = all_others (λ (x : WorkerValue). x.view.has ≡ []) c.args.workers.items c.pop.new.self.items w list c.requires.idle;
      empty = place.number.2.empty;
      gathered = (
        w ∷ [],
        list,
        gathers_one w c.into_parts-place.result.0.me.0 v idle,
        λ zero. elim (zero_cases w [] place.number.0 place.number.1 zero) [
          | inl e ↦ subst (λ (i : TableId). i.words ≤ vec_capacity c.into_parts-place.result.1) made.table (place.number.2.enough e)
          | inr n ↦ absurd (any_none (λ (x : WorkerValue). Contains x.view.numbers 0) n)
        ],
      );
    }

pub join_seat-requires : goal.join_seat-requires
join_seat-requires g c =
    let before = c.loop-worker.invariant in
    let w = c.in-Some-pop.worker in
    let list : c.loop-worker.workers.items ≡ c.pop-in-loop-worker.new.self.items ++ w ∷ [] = c.in-Some-pop.ensures.items in
    let place = c.into_parts-other.ensures in
    let made = all_last (λ (x : WorkerValue). IsOfPool x c.args.pool.now) c.loop-worker.workers.items c.pop-in-loop-worker.new.self.items w list before.made in
    let idle = all_last (λ (x : WorkerValue). x.view.has ≡ []) c.loop-worker.workers.items c.pop-in-loop-worker.new.self.items w list before.idle in
    let table = sym (ap (λ f. f.table) c.pool.view_is) in
    let number_of = g.R.Named.number in
    let key = c.pool.inside.slots.shared.key in
    let v = c.loop-worker.place.me.0 in
    let u = c.into_parts-other.result.0.me.0 in (
      before.table ∙ table,
      ap (λ (h : WorkerValue). h.table) place.place ∙ made.table ∙ table,
      place.slots idle,
      (let a = c.pool.invariant.words in let b = c.pool.invariant.some_task in omega arith),
      joins_in number_of key c.loop-worker.place.id c.into_parts-other.result.0.id v u before.number.0 before.number.1 before.gathered.2.idle
          (ap (λ (h : WorkerValue). h.view.has) place.place ∙ idle),
    )

pub loop-worker-preserved : goal.loop-worker-preserved
loop-worker-preserved g c =
    let before = c.loop-worker.invariant in
    let w = c.in-Some-pop.worker in
    let list : c.loop-worker.workers.items ≡ c.pop-in-loop-worker.new.self.items ++ w ∷ [] = c.in-Some-pop.ensures.items in
    let place = c.into_parts-other.ensures in
    let now = c.join_seat.ensures in
    let room = c.wider-entries.ensures.room in
    let made = all_last (λ (x : WorkerValue). IsOfPool x c.args.pool.now) c.loop-worker.workers.items c.pop-in-loop-worker.new.self.items w list before.made in
    let v = c.loop-worker.place.me.0 in
    let u = c.into_parts-other.result.0.me.0 in
    let done = before.gathered.0 in record {
      table = now.0 ∙ before.table;
      slots = ap (λ m. m.1) now.2 ∙ before.slots;
      number = (
        before.number.0,
        subst (λ (ns : List ℕ). Contains ns before.number.0) (sym (ap (λ m. m.0.numbers) now.2))
            (Contains-append_left v.numbers u.numbers before.number.0 before.number.1),
      );
      made = all_others (λ (x : WorkerValue). IsOfPool x c.args.pool.now) c.loop-worker.workers.items c.pop-in-loop-worker.new.self.items w list before.made;
      idle = all_others (λ (x : WorkerValue). x.view.has ≡ []) c.loop-worker.workers.items c.pop-in-loop-worker.new.self.items w list before.idle;
      empty = c.wider-entries.ensures.empty;
      gathered = (
        w ∷ done,
        before.gathered.1 ∙ ap (λ xs. xs ++ done) list ∙ append_assoc c.pop-in-loop-worker.new.self.items (w ∷ []) done,
        gathers_more w done v c.join_seat.new.seat.me.0 (ap (λ m. m.0) now.2 ∙ ap (λ (h : WorkerValue). joined v h.view) place.place) before.gathered.2,
        λ zero. elim (zero_cases w done place.number.0 place.number.1 zero) [
          | inl e ↦
              let enough : c.args.pool.now.table.words ≤ vec_capacity c.into_parts-other.result.1 = subst
              (λ (i : TableId). i.words ≤ vec_capacity c.into_parts-other.result.1) made.table (place.number.2.enough e) in
              let more = room.1 in omega arith
          | inr b ↦ let enough = before.gathered.3 b in let more = room.0 in omega arith
        ],
      );
    }

pub wider-entries-requires : goal.wider-entries-requires
wider-entries-requires g c = (c.loop-worker.invariant.empty, c.into_parts-other.ensures.number.2.empty)

pub returns-clause-room : goal.returns-clause-room
returns-clause-room g c =
    let joined = c.loop-worker.invariant.gathered in
    let none_left : length c.loop-worker.workers.items ≡ 0 = search rules in
    let all : c.args.workers.items ≡ joined.0 = joined.1 ∙ ap (λ xs. xs ++ joined.0) (no_items c.loop-worker.workers.items none_left) in
    record { empty = c.loop-worker.invariant.empty; enough = λ _. joined.3 (subst (λ (ws : List WorkerValue). IsNumberOf ws 0) all c.requires.first) }
