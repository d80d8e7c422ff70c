use Rattle.std.proofs.Common.{List, ℕ, ◌∙◌, sym, subst, take}
use Rattle.casper_words.specs.Crew.{IsCrew}
use Rattle.casper_words.proofs.CrewLemmas.{IsCrew_crew_of}
use Rattle.casper_dir.specs.Rights.{writes_some}
use Rattle.casper_dir.proofs.WritersLemmas.{no_writers, writers_more, writers_all}
use Rattle.casper_dir.proofs.directory.writers_of.Goals as goal

pub loop-holders-init : goal.loop-holders-init
loop-holders-init c = no_writers c.none-writers.result c.none-writers.ensures.crew c.none-writers.ensures.empty

pub with_writer-writers-requires : goal.with_writer-writers-requires
with_writer-writers-requires c =
    subst (λ (l : List ℕ). IsCrew l) (sym c.loop-holders.invariant) (IsCrew_crew_of (writes_some (take c.loop-holders.holders-index c.args.pages.now)))

pub loop-holders-preserved : goal.loop-holders-preserved
loop-holders-preserved c =
    c.with_writer-writers.ensures
    ∙ writers_more c.args.pages.now c.loop-holders.holders-index c.holders-item.result c.loop-holders.writers c.loop-holders-test.true c.holders-item.is c.loop-holders.invariant

pub returns : goal.returns
returns c = writers_all c.args.pages.now c.loop-holders.holders-index c.loop-holders.writers c.loop-holders-test.false c.loop-holders.invariant
