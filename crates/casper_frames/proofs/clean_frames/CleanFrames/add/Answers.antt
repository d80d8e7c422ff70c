use Rattle.std.proofs.Common.{◌≡◌, ◌∙◌, ap, sym, subst, refl, nat_eq, None, Some, ◌-◌}
use Rattle.slab.specs.Slab.{Updates}
use Rattle.lru.specs.LruCache.{put_entries}
use Rattle.casper_frames.specs.Keeping.{frame_of, kept_with}
use Rattle.casper_frames.specs.Stored.{shown, IsFree}
use Rattle.casper_frames.proofs.Steps.{Leads, Holds, keeping_of, added}
use Rattle.casper_frames.proofs.StoredLemmas.{free-vacant, free-take}
use Rattle.casper_frames.proofs.clean_frames.CleanFrames.add.Goals as goal

pub invariant_of-self : goal.invariant_of-self
invariant_of-self c = rw c.reserve.ensures.rest_kept c.self.invariant

pub invariant_of-self-in-Err : goal.invariant_of-self-in-Err
invariant_of-self-in-Err c = rw (c.in-Err.ensures.err, c.reserve.ensures.rest_kept) c.self.invariant

step : (c : goal.After-insert_reserved) →
    Leads c.self.inside.index.cap c.insert_reserved.new.self (put_entries nat_eq c.self.inside.index c.args.page c.vacant_key.result)
    (kept_with c.args.page c.args.frame (keeping_of c.self.inside.index.cap c.self.inside.frames c.self.inside.index.entries))
step c =
    let index = c.self.inside.index in
    let key = c.vacant_key.result in
    let holds : Holds index.cap c.reserve.new.self index.entries = rw c.reserve.ensures.rest_kept c.self.invariant in
    let same : shown c.reserve.new.self index.entries ≡ shown c.self.inside.frames index.entries = rw c.reserve.ensures.rest_kept refl in
    let none : frame_of c.args.page (shown c.reserve.new.self index.entries) ≡ None =
    ap (frame_of c.args.page) same ∙ ap (λ k. frame_of c.args.page k.kept) c.self.view_is ∙ c.requires.absent in
    let free : IsFree key index.entries = free-vacant c.reserve.new.self key index.entries holds.1 c.vacant_key.ensures.vacant in
    let updates : Updates c.reserve.new.self c.insert_reserved.new.self key (Some c.args.frame) =
    subst (λ k. Updates c.reserve.new.self c.insert_reserved.new.self k (Some c.args.frame))
    (c.insert_reserved.ensures.key ∙ sym c.vacant_key.ensures.value) c.insert_reserved.ensures.updates in
    subst (λ kept. Leads index.cap c.insert_reserved.new.self (put_entries nat_eq index c.args.page key)
    (kept_with c.args.page c.args.frame (record { bound = index.cap; kept = kept })))
    same
    (added c.args.page key c.args.frame c.reserve.new.self c.insert_reserved.new.self index holds none
    (free-take (index.cap - 1) key index.entries free) updates)

pub invariant_of-self-in-Ok : goal.invariant_of-self-in-Ok
invariant_of-self-in-Ok c = rw c.in-Ok.ensures.entries (step c).holds

pub returns-in-Ok-clause-kept : goal.returns-in-Ok-clause-kept
returns-in-Ok-clause-kept c =
    let shows = (step c).shows ∙ ap (λ k. kept_with c.args.page c.args.frame k) c.self.view_is in
    rw c.in-Ok.ensures.entries (λ i. record { bound = (c.self.view_is i).bound; kept = shows i })

pub returns-in-Ok-clause-sound : goal.returns-in-Ok-clause-sound
returns-in-Ok-clause-sound c = rw c.in-Ok.ensures.entries (step c).holds.0
