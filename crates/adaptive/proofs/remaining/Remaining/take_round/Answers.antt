use Rattle.std.proofs.Common.{◌≡◌, ◌∙◌, Bool, List, ap, arith, false, inl, inr, subst, sym, true}
use Rattle.std.proofs.lemmas.Bool.{cases_Bool}
use Rattle.adaptive.specs.inside.Remaining.{count_remaining}
use Rattle.adaptive.proofs.TakenAway.{AreImpededBelow, one_more_impeded}
use Rattle.adaptive.proofs.remaining.Remaining.take_round.Goals.{then-take_unimpeded, else-take_unimpeded}
use Rattle.adaptive.proofs.remaining.Remaining.take_round.Goals as goal

pub loop-k-preserved : goal.loop-k-preserved
loop-k-preserved c =
    let before = c.loop-k.invariant in
    elim c.if-take_unimpeded.branch [
      | then-take_unimpeded w ↦
          let fewer = c.take_unimpeded.ensures.less w.if-take_unimpeded.true in
          record {
            kept = c.take_unimpeded.ensures.kept;
            quiet = λ e. absurd (let no : true ≡ false = sym w.taken-is ∙ e in cc);
            less = λ _. elim (cases_Bool c.loop-k.taken) [
              | inl yes_taken ↦ let old = before.less yes_taken in omega arith
              | inr no_taken ↦ let old = (before.quiet no_taken).0 in omega arith
            ];
          }
      | else-take_unimpeded w ↦
          let stays = c.take_unimpeded.ensures.stays w.if-take_unimpeded.false in
          let same = ap (λ r. r.items) stays.0 in
          record {
            kept = c.take_unimpeded.ensures.kept;
            quiet = λ e.
                let old = before.quiet (sym w.taken-is ∙ e) in (
                  ap count_remaining same ∙ old.0,
                  one_more_impeded c.args.list.now c.take_unimpeded.new.self.remains.items c.loop-k.k
                      (subst (λ (xs : List Bool). AreImpededBelow c.args.list.now xs c.loop-k.k) (sym same) old.1) stays.1,
                );
            less = λ e. (let old = before.less (sym w.taken-is ∙ e) in let n = ap count_remaining same in omega arith);
          }
    ]
