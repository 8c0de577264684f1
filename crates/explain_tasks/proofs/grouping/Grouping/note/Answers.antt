use Rattle.std.proofs.Common.{◌≡◌, Bool, true, false, [], ◌∷◌, ◌++◌, length, refl, ap, ◌∙◌, arith, length-append}
use Rattle.std.specs.Prelude.{if◌then◌else◌, not}
use Rattle.std.specs.List.{list_any}
use Rattle.explain_tasks.specs.contracts.saying.SayingPartialEq.TheImpl.{eq-value as value}
use Rattle.explain_tasks.proofs.Bridges.{same_saying}
use Rattle.explain_tasks.proofs.GroupedTasks.{at_inside}
use Rattle.explain_tasks.proofs.Noted.{noted_new, noted_old}
use Rattle.explain_tasks.proofs.grouping.Grouping.note.Goals as goal

not_false : (b n : Bool) → n ≡ not b → n ≡ false → b ≡ true
not_false true n e f = refl
not_false false n e f = absurd (cc)

not_true : (b n : Bool) → n ≡ not b → n ≡ true → b ≡ false
not_true true n e f = absurd (cc)
not_true false n e f = refl

pub returns-in_ok-push-clause-noted : goal.returns-in_ok-push-clause-noted
returns-in_ok-push-clause-noted c order put was =
    let old = c.args.self.now in
    let stored = c.in_ok-at.ensures.stored in
    noted_new (λ a b. value.it a b) same_saying order put old (record { sayings = c.insert_full.new.self; groups = c.push.new.self }) c.args.saying stored.0 c.in_ok-at.at was
    c.in_ok-at.ensures.keys stored.1 stored.2
    (not_true (list_any (value.it c.args.saying) old.sayings.keys) c.in_ok-at.is_new c.in_ok-at.ensures.added c.if-is_new.true) c.new.result c.new.ensures.items c.in_ok-push.ensures.items

pub returns-in_ok-push-clause-inside : goal.returns-in_ok-push-clause-inside
returns-in_ok-push-clause-inside c sized =
    let stored = c.in_ok-at.ensures.stored in
    let old = c.args.self.now in
    let lt = at_inside c.insert_full.new.self.keys c.in_ok-at.at stored.0 stored.1 in
    let fresh = not_true (list_any (value.it c.args.saying) old.sayings.keys) c.in_ok-at.is_new c.in_ok-at.ensures.added c.if-is_new.true in
    let e = ap length (c.in_ok-at.ensures.keys ∙ ap (λ b. if b then old.sayings.keys else old.sayings.keys ++ c.args.saying ∷ []) fresh) in
    let g = ap length c.in_ok-push.ensures.items in
    let h = length-append old.sayings.keys (c.args.saying ∷ []) in
    let i = length-append old.groups.items (c.new.result ∷ []) in
    omega arith

pub returns-else-is_new-clause-noted : goal.returns-else-is_new-clause-noted
returns-else-is_new-clause-noted c order put was =
    let old = c.args.self.now in
    let stored = c.in_ok-at.ensures.stored in
    noted_old (λ a b. value.it a b) same_saying order put old (record { sayings = c.insert_full.new.self; groups = old.groups }) c.args.saying stored.0 c.in_ok-at.at was
    c.in_ok-at.ensures.keys stored.1 stored.2
    (not_false (list_any (value.it c.args.saying) old.sayings.keys) c.in_ok-at.is_new c.in_ok-at.ensures.added c.if-is_new.false) refl
