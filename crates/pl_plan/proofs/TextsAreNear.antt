-- No await of a text looks farther than it may, so that the plan of a text is checked.
use Rattle.std.proofs.Common.{◌≡◌, ℕ, List, Ok}
use Rattle.armus_base.specs.CheckedPlans.{IsCheckedPlan}
use Rattle.armus_base.specs.Plans.{Plan}
use Rattle.pl_plan.specs.Unfolding.{plan_of}
use Rattle.pl_plan.proofs.UnfoldedIsChecked.{unfolded_is_checked}
use Rattle.pl_syntax.specs.Grammar.{IsText}
use Rattle.pl_syntax.specs.calls.Printed.{PlainIsWritable, TreeIsWritable}
use Rattle.pl_syntax.specs.calls.Tree.{AreNear, PlainIsNear}
use Rattle.pl_syntax.specs.Tree.{Plain, Tree, adv, await, dereg, done, fork, loop, new_phaser, new_task, plain, reg, skip}
use Rattle.pl_syntax.specs.declared.tree.Program.{Program}
use Rattle.pl_syntax.proofs.Writable.{text_is_writable}

plain_near : (s : Plain) → PlainIsWritable s → PlainIsNear s
plain_near (new_task x) w = tt
plain_near (new_phaser x) w = tt
plain_near (reg x y) w = tt
plain_near (dereg x) w = tt
plain_near (adv x) w = tt
plain_near (await x off) w = w.1
plain_near skip w = tt

tree_near : (tree : Tree) → TreeIsWritable tree → AreNear tree
tree_near done w = tt
tree_near (plain s rest) w = (plain_near s w.0, tree_near rest w.1)
tree_near (fork x body rest) w = (tree_near body w.1, tree_near rest w.2)
tree_near (loop k body rest) w = (tree_near body w.1, tree_near rest w.2)

pub text_is_near : (text : List ℕ) (p : Program) → IsText text p → AreNear p.body
text_is_near text p is = tree_near p.body (text_is_writable text p is).tree

pub text_is_checked : (text : List ℕ) (p : Program) (plan : Plan) → IsText text p → plan_of p ≡ Ok plan → IsCheckedPlan plan
text_is_checked text p plan is unfolds = unfolded_is_checked p plan (text_is_near text p is) unfolds
