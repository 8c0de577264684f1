use Rattle.std.proofs.Common.{◌≡◌, ◌∙◌, suc, Some, add-one, arith, get_or, subst, sym}
use Rattle.std.specs.Prelude.{slice_get}
use Rattle.std.proofs.lemmas.Option.{slice_get-get_or, slice_get_within}
use Rattle.pl_core.specs.inside.Admitting.{Admits}
use Rattle.pl_core.proofs.NewMembers.{IsAmongFirst, admits_then, one_more_phaser}
use Rattle.pl_core.proofs.enrolling.admit_to_all.Goals as goal

pub loop-k-preserved : goal.loop-k-preserved
loop-k-preserved c =
    let k = c.loop-k.k in
    let noted = c.args.noted.now in
    let i = c.loop-k.invariant in
    let read : slice_get noted k ≡ Some (get_or noted k 0) = slice_get-get_or noted k 0 (omega arith) in
    record {
      kept = c.in_ok-admit.ensures.kept;
      first = i.first;
      admits =
          subst (λ n. Admits c.args.rows.now.items c.admit.new.rows.items c.args.t (IsAmongFirst noted n)) (sym (add-one k))
          (admits_then c.args.rows.now.items c.loop-k.rows.items c.admit.new.rows.items c.args.t (IsAmongFirst noted k) (λ q. q ≡ get_or noted k 0)
          (IsAmongFirst noted (suc k)) (i.kept.sized ∙ sym i.first.sized) i.admits c.in_ok-admit.ensures.admits (one_more_phaser noted k (get_or noted k 0) read));
    }

pub returns-clause-admits : goal.returns-clause-admits
returns-clause-admits c =
    let a = c.loop-k.invariant.admits in
    record {
      keeps = a.keeps;
      there = λ p l (k, e). a.there p l (k, (let w = slice_get_within c.args.noted.now k p e in omega arith), e);
    }
