use Rattle.armus_base.proofs.laws.decisions.list_decides.Goals as goal
use Rattle.armus_base.proofs.FindsStay.{finds_stay}
use Rattle.armus_base.proofs.FoundArePublished.{found_are_published}
use Rattle.armus_base.proofs.ListAvoids.{list_in_hand_avoids, load_keeps_lock}
use Rattle.armus_base.proofs.ListDecides.{list_decides, list_in_hand_decides}

pub returns : goal.returns
returns c = record {
  enough = list_decides;
  found = found_are_published;
  in_hand = list_in_hand_decides;
  avoids = list_in_hand_avoids;
  load = load_keeps_lock;
  finds_stay = finds_stay;
}
