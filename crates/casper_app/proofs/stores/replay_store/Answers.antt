use Rattle.std.proofs.Common.{◌≡◌, ℕ, subst, ◌∙◌, inr}
use Rattle.std.specs.Prelude.{IsTrue}
use Rattle.casper_core.specs.Represents.{Represents}
use Rattle.casper_map.specs.Mapped.{page_count}
use Rattle.casper_model.specs.State.{start}
use Rattle.casper_model.specs.Vault.{VaultState}
use Rattle.casper_stable.specs.KeptBy.{kept_by}
use Rattle.casper_stable.specs.Leaves.{Leaves}
use Rattle.casper_stable.specs.Opened.{shown}
use Rattle.casper_app.specs.Comes.{ComesInShape, ComesFrom, ComesOver}
use Rattle.casper_app.specs.Ending.{RunsReplay}
use Rattle.casper_app.specs.StoreRuns.{session_over, vault_of}
use Rattle.casper_app.proofs.RunLemmas.{runs_as, legal_from, limits_of}
use Rattle.casper_app.proofs.StoreLemmas.{runs_on_disk, runs_opened, store_openable, told_is}
use Rattle.casper_app.proofs.stores.replay_store.Goals as goal

-- the core stands for a session over the store as it begins
begins : (g : _) (c : goal.After-close_store g) → IsTrue g.H.Shelf.tells
    → Represents (session_over (shown g.H.Disk.Disk.content (kept_by c.in-Ok.store)) c.args.opening.now) c.in-Ok-new.core
begins g c told =
    let kept = kept_by c.in-Ok.store in
    let same : c.in-Ok-new.core.told ≡ vault_of (shown g.H.Disk.Disk.content kept) = c.in-Ok-new.ensures.told ∙ told_is g.H.Disk.Disk.content kept c.in-Ok.ensures.sure in
    let pages : c.in-Ok-new.core.size ≡ page_count kept.held = c.in-Ok-new.ensures.size in
    subst (λ (v : VaultState). Represents (start v (page_count kept.held) c.args.opening.now.entries c.args.opening.now.cache) c.in-Ok-new.core) same
    (subst (λ (n : ℕ). Represents (start c.in-Ok-new.core.told n c.args.opening.now.entries c.args.opening.now.cache) c.in-Ok-new.core) pages
    (c.in-Ok-new.ensures.stands (g.met.H.Shelf.disks_tell told)))

-- so what the replay over its vault comes to it comes to over the store as it was opened
replayed : (g : _) (c : goal.After-close_store g) (told : IsTrue g.H.Shelf.tells)
    → RunsReplay (ComesOver (λ v. g.H.Disk.Disk.moment (kept_by v).disk) (λ v past. Leaves (g.H.Disk.Disk.images_since (kept_by v).disk past)) (λ v. Leaves (g.H.Disk.Disk.images_now (kept_by v).disk))
    c.in-Ok.store c.replay-ended.result.1 c.args.opening.now.entries (session_over (shown g.H.Disk.Disk.content (kept_by c.in-Ok.store)) c.args.opening.now)) c.args.outlet
    (g.H.Disk.Disk.faults (kept_by c.in-Ok.store).disk) (g.H.Disk.Disk.faults (kept_by c.replay-ended.result.1).disk)
    (g.S.Source.left c.args.source.now) (g.S.Source.left c.replay-ended.new.source) (g.K.Sink.taken c.args.sink.now) (g.K.Sink.taken c.replay-ended.new.sink)
    c.replay-ended.result.0.answers.items c.replay-ended.result.0.trail.items c.replay-ended.result.0.last
replayed g c told =
    subst (λ vault. RunsReplay (ComesOver (λ v. g.H.Disk.Disk.moment (kept_by v).disk) (λ v past. Leaves (g.H.Disk.Disk.images_since (kept_by v).disk past)) (λ v. Leaves (g.H.Disk.Disk.images_now (kept_by v).disk))
    vault c.replay-ended.result.1 c.args.opening.now.entries (session_over (shown g.H.Disk.Disk.content (kept_by c.in-Ok.store)) c.args.opening.now)) c.args.outlet
    (g.H.Disk.Disk.faults (kept_by vault).disk) (g.H.Disk.Disk.faults (kept_by c.replay-ended.result.1).disk)
    (g.S.Source.left c.args.source.now) (g.S.Source.left c.replay-ended.new.source) (g.K.Sink.taken c.args.sink.now) (g.K.Sink.taken c.replay-ended.new.sink)
    c.replay-ended.result.0.answers.items c.replay-ended.result.0.trail.items c.replay-ended.result.0.last)
    c.in-Ok-new.ensures.vault
    (c.replay-ended.ensures.run (g.met.H.Shelf.disks_tell told) (session_over (shown g.H.Disk.Disk.content (kept_by c.in-Ok.store)) c.args.opening.now) (begins g c told))

pub returns-in-Ok-new-clause-run : goal.returns-in-Ok-new-clause-run
returns-in-Ok-new-clause-run g c =
    let disk = g.H.Disk.Disk in
    let kept = kept_by c.in-Ok.store in
    inr (
      record {
        found = c.in-Ok-new.core.told;
        pages = c.in-Ok-new.core.size;
        opened = kept.disk;
        ended = (kept_by c.replay-ended.result.1).disk;
        run = subst (λ vault. RunsReplay (ComesInShape c.args.opening.now.entries (start c.in-Ok-new.core.told c.in-Ok-new.core.size c.args.opening.now.entries c.args.opening.now.cache)) c.args.outlet
            (disk.faults (kept_by vault).disk) (disk.faults (kept_by c.replay-ended.result.1).disk)
            (g.S.Source.left c.args.source.now) (g.S.Source.left c.replay-ended.new.source) (g.K.Sink.taken c.args.sink.now) (g.K.Sink.taken c.replay-ended.new.sink)
            c.replay-ended.result.0.answers.items c.replay-ended.result.0.trail.items c.replay-ended.result.0.last)
            c.in-Ok-new.ensures.vault
            (c.replay-ended.ensures.shape (start c.in-Ok-new.core.told c.in-Ok-new.core.size c.args.opening.now.entries c.args.opening.now.cache) c.in-Ok-new.ensures.shape);
        handed = g.H.Shelf.handed c.open_store.new.shelf c.args.name.now;
        not_before = c.in-Ok.ensures.handed;
        at_open = g.H.Shelf.faults c.open_store.new.shelf;
        never_fell = c.open_store.ensures.never_falls;
        counted = c.close_store.ensures.faults;
      },
      λ told. runs_opened _ c.args.name.now c.args.opening.now c.args.outlet c.args.shelf.now c.close_store.new.shelf _ _ _ _ _ _ _ kept (kept_by c.replay-ended.result.1).disk
          (c.in-Ok.ensures.found told) (c.in-Ok.ensures.content told) (c.in-Ok.ensures.images told) (c.in-Ok.ensures.settled told) (c.close_store.ensures.stands told)
          (runs_on_disk _ _ _ c.in-Ok.store c.replay-ended.result.1 disk.moment disk.images_since disk.images_now kept.disk (kept_by c.replay-ended.result.1).disk
          (limits_of (page_count kept.held) c.args.opening.now) (vault_of (shown disk.content kept)) (store_openable disk.content kept)
          (λ saved left. left) (λ saved left. left) _ _ _ _ _ _ _ _ _ _ (replayed g c told)),
    )

pub returns-in-Ok-new-clause-legal : goal.returns-in-Ok-new-clause-legal
returns-in-Ok-new-clause-legal g c told =
    let disk = g.H.Disk.Disk in
    let kept = kept_by c.in-Ok.store in
    inr (
      shown disk.content kept,
      c.in-Ok.ensures.found told,
      legal_from (limits_of (page_count kept.held) c.args.opening.now) (vault_of (shown disk.content kept)) c.args.outlet _ _ _ _ _ _ _ _ _
          (runs_as _ (ComesFrom c.args.opening.now.entries (session_over (shown disk.content kept) c.args.opening.now)) _ _ _ _ _ _ _ _ _ _ (λ lines said asked given items named over. over.comes) (replayed g c told)),
    )
