use Rattle.explain_clock.proofs.MembersWait.{members_wait}
use Rattle.explain_clock.proofs.WhatIsSaid.{each_has_its_paragraph, those_behind_are_named as named_ones}
use Rattle.explain_clock.proofs.laws.those_behind_are_named.Goals as goal

pub returns : goal.returns
returns c = record { paragraphs = each_has_its_paragraph; named = named_ones; wait = members_wait }
