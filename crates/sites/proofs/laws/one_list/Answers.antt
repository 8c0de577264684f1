use Rattle.sites.proofs.OneList.{one_list_of}
use Rattle.sites.proofs.laws.one_list.Goals as goal

pub returns : goal.returns
returns c sites site ss rs row a b = one_list_of sites site ss rs row a b
