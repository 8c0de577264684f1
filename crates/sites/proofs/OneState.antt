-- A lawful state that is as far on as what all viewers have seen.
use Rattle.std.proofs.Common.{◌≡◌, ℕ, false, List, Some, None, sym, ◌∙◌, subst}
use Rattle.std.specs.Prelude.{Contains}
use Rattle.std.proofs.lemmas.Bool.{false≢true}
use Rattle.armus_base.specs.calls.Boards.{IsLawful, steps_of}
use Rattle.armus_base.specs.CheckedPlans.{IsCheckedPlan}
use Rattle.armus_base.specs.Plans.{Plan}
use Rattle.armus_base.specs.calls.Runs.{ArePrefixes, IsPrefix, Precedes}
use Rattle.armus_base.specs.Runs.{IsMaximal, IsPlainRun, Place, places}
use Rattle.armus_base.specs.calls.Seats.{IsAsFarOn}
use Rattle.armus_base.specs.States.{Step}
use Rattle.armus_base.proofs.BoardRuns.{plain_is_lawful}
use Rattle.armus_base.proofs.MaximalExists.{maximal_exists}
use Rattle.armus_base.proofs.Members.{plain_undropped}
use Rattle.armus_base.proofs.OneEnd.{below_maximal}
use Rattle.board.specs.declared.mode.Mode.{Mode}
use Rattle.board.specs.declared.mode.Mode.TheVariants.{Detect}
use Rattle.board.specs.calls.Seats.{Known}
use Rattle.board.specs.calls.Views.{avoids, seen}
use Rattle.phase_scan.proofs.Farther.{far_of_viewer}
use Rattle.phase_scan.proofs.Loads.{prefix_both}
use Rattle.sites.specs.calls.PassLaws.{AreOfOneMoment, HaveSeenLawful, HasOnlyLooked}

-- the state that the rule names is such a one
pub moment_lawful : (plan : Plan) (mode : Mode) (views : List Known) → AreOfOneMoment plan mode views → HaveSeenLawful plan mode views
moment_lawful plan mode views m =
    record {
      places = m.kept.places;
      lock = m.kept.lock;
      lawful = m.kept.lawful;
      far = far;
      dead = λ t dead. dead m.kept.places m.kept.lock m.kept.lawful far;
    }
  where
    far : (k : Known) → Contains views k → IsAsFarOn plan None m.kept.places (seen k.view)
    far k i =
        let at = m.there k i in
        far_of_viewer plan k.view.own m.kept.places (seen k.view) (m.kept.views at.0 k.view at.1.found at.1.live).far

-- so is the one in which every plain run ends, where nobody is known exactly
module _ (plan : Plan) (views : List Known) (checked : IsCheckedPlan plan) (each : (k : Known) → Contains views k → HasOnlyLooked plan k) (g : List Step)
    (run : IsPlainRun plan g) (maximal : IsMaximal plan g) where
  below : (h : List Step) → IsPlainRun plan h → ArePrefixes (places h) (places g)
  below h plain t =
      subst (λ o. Precedes (places h t).done o (places g t).done (places g t).dropped) (sym (plain_undropped plan h plain t))
      (below_maximal plan checked g run maximal h plain t)

  end_far : (k : Known) → Contains views k → IsAsFarOn plan None (places g) (seen k.view)
  end_far k i =
      let one = each k i in
      let l : IsLawful false plan one.lawful.places one.lawful.lock = subst (λ (m : Mode). IsLawful (avoids m) plan one.lawful.places one.lawful.lock) one.detects
      (subst (λ (q : Plan). IsLawful (avoids k.view.mode) q one.lawful.places one.lawful.lock) one.of_plan one.lawful.lawful) in
      let near : IsAsFarOn plan None one.lawful.places (seen k.view) = subst (λ (q : Plan). IsAsFarOn q None one.lawful.places (seen k.view)) one.of_plan one.lawful.far in
      record {
        later = λ u small.
            prefix_both ((seen k.view).places u) (one.lawful.places u) (places g u) (near.later u small)
            (subst (λ (v : Place). IsPrefix v (places g u)) (l.there u) (below (steps_of l.entries) l.run.0 u));
        equal = λ u small is. absurd (false≢true (sym (one.none_exact u) ∙ is));
        scanned = λ u is. absurd (none_some u is);
      }
    where
      none_some : (u : ℕ) → None ≡ Some u → ⊥
      none_some u e = cc

  end_lawful : HaveSeenLawful plan Detect views
  end_lawful =
      let lawful = plain_is_lawful plan g run in
      record { places = places g; lock = None; lawful = lawful; far = end_far; dead = λ t dead. dead (places g) None lawful end_far }

pub viewers_lawful :
    (plan : Plan) (views : List Known) → IsCheckedPlan plan → ((k : Known) → Contains views k → HasOnlyLooked plan k) → HaveSeenLawful plan Detect views
viewers_lawful plan views checked each = (let m = maximal_exists plan checked in end_lawful plan views checked each m.0 m.1 m.2)
