use Rattle.casper_map.proofs.OpensLemmas.{opened_maps_are_whole, plans_keep_the_map_blocks, plans_open}
use Rattle.casper_map.proofs.PagesLemmas.{plans_change_pages, others_stay}
use Rattle.casper_map.proofs.laws.plan_laws.Goals as goal

pub returns : goal.returns
returns c = record { whole = opened_maps_are_whole; map_blocks = plans_keep_the_map_blocks; opened = plans_open; pages = plans_change_pages; others = others_stay }
