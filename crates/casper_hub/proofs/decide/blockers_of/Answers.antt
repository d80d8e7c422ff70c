use Rattle.std.proofs.Common.{◌<◌, length, ◌∙◌, arith}
use Rattle.casper_hub.specs.Deciding.{stands_in_the_way}
use Rattle.casper_hub.proofs.Deciding.{read_within, with_rest_more}
use Rattle.casper_hub.proofs.decide.blockers_of.Goals as goal

pub blockers_of_one-requires : goal.blockers_of_one-requires
blockers_of_one-requires c =
    let within : c.loop-want.want-index < length c.args.missing.now = omega arith in
    c.requires c.want-item.result (read_within c.args.missing.now c.loop-want.want-index c.want-item.result within c.want-item.is)

pub loop-want-preserved : goal.loop-want-preserved
loop-want-preserved c =
    let within : c.loop-want.want-index < length c.args.missing.now = omega arith in
    record {
      so_far =
          with_rest_more (stands_in_the_way c.args.pages.now c.args.clients.now c.args.who) c.loop-want.blockers c.blockers_of_one.result c.union-blockers.result
          c.args.missing.now c.loop-want.want-index c.want-item.result within c.want-item.is c.blockers_of_one.ensures c.union-blockers.ensures.members
          ∙ c.loop-want.invariant.so_far;
      crew = c.union-blockers.ensures.crew;
    }
