use Rattle.std.proofs.Common.{◌≡◌, ◌<◌, true, false, length, length-set, set, replicate, sym, ◌∙◌, inl, inr}
use Rattle.std.proofs.lemmas.Bool.{false≢true}
use Rattle.std.proofs.lemmas.List.{length-replicate}
use Rattle.armus_base.proofs.Lists.{set_flag}
use Rattle.explain_deadlock.proofs.Searches.{begun, none_set}
use Rattle.explain_deadlock.proofs.circle.search_at.Goals as goal

pub returns-clause-searched : goal.returns-clause-searched
returns-clause-searched c next =
    let flags = c.in_ok-seen.seen.items in
    let are : flags ≡ replicate c.args.tasks false = c.in_ok-seen.ensures.items_if_clones_equal (λ y e. e) in
    let lt : c.args.t.0 < length flags = rw (are, length-replicate) c.requires.inside in
    let n = length-set flags c.args.t.0 true in
    let it = begun next c.args.t (set flags c.args.t.0 true) (rw n lt)
    (λ v. (
      λ is. elim ((set_flag flags c.args.t.0 v lt).0 is) [ inl e ↦ e | inr was ↦ absurd (false≢true (sym (none_set flags c.args.tasks are v) ∙ was)) ],
      λ e. (set_flag flags c.args.t.0 v lt).1 (inl e),
    )) in
    rw (c.in_ok-push.ensures.items, c.new-queue.ensures.items, c.in_ok-push-2.ensures.items, c.new-parents.ensures.items) it
