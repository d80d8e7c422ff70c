use Rattle.casper_caches.proofs.HeldPages.{every_page_once, every_cache_within}
use Rattle.casper_caches.proofs.laws.law_of_held_pages.Goals as goal

pub returns-clause-once : goal.returns-clause-once
returns-clause-once c = every_page_once

pub returns-clause-within : goal.returns-clause-within
returns-clause-within c = every_cache_within
