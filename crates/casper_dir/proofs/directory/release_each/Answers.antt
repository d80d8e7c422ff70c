use Rattle.std.proofs.Common.{◌<◌, length, get_or, arith}
use Rattle.std.proofs.lemmas.List.{get_or_default}
use Rattle.std.proofs.lemmas.Option.{slice_get-get_or}
use Rattle.casper_dir.proofs.RightsLemmas.{revoked_none, revoked_more, revoked_all, clients_at, clients-set}
use Rattle.casper_dir.proofs.directory.release_each.Goals as goal

pub loop-holders-init : goal.loop-holders-init
loop-holders-init c = record { clients = c.requires; revoked = revoked_none c.args.pages.now c.args.members }

pub without-requires : goal.without-requires
without-requires c =
    let within : c.loop-holders.holders-index < length c.loop-holders.pages = omega (arith, c.loop-holders-test.true, c.loop-holders.auto.pages) in
    clients_at c.loop-holders.pages c.loop-holders.holders-index _ c.loop-holders.invariant.clients
    (slice_get-get_or c.loop-holders.pages c.loop-holders.holders-index c.holders-item.result within)

pub loop-holders-preserved : goal.loop-holders-preserved
loop-holders-preserved c =
    let within : c.loop-holders.holders-index < length c.loop-holders.pages = omega (arith, c.loop-holders-test.true, c.loop-holders.auto.pages) in
    record {
      clients = clients-set c.loop-holders.pages c.loop-holders.holders-index c.without.result c.loop-holders.invariant.clients c.without.ensures.clients;
      revoked = revoked_more c.args.pages.now c.loop-holders.pages c.args.members c.loop-holders.holders-index
          (get_or c.loop-holders.pages c.loop-holders.holders-index c.holders-item.result) c.without.result within
          (get_or_default c.loop-holders.pages c.loop-holders.holders-index c.holders-item.result _ within)
          c.without.ensures.right c.loop-holders.invariant.revoked;
    }

pub returns-clause-rights : goal.returns-clause-rights
returns-clause-rights c =
    revoked_all c.args.pages.now c.loop-holders.pages c.args.members c.loop-holders.holders-index c.loop-holders-test.false c.loop-holders.invariant.revoked
