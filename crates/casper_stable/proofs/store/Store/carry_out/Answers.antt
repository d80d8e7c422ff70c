use Rattle.std.proofs.Common.{◌≡◌, ◌∙◌, ◌+◌, ◌-◌, ◌<◌, ℕ, List, sym, ap, subst}
use Rattle.std.specs.Prelude.{IsTrue, None, Some}
use Rattle.std.proofs.lemmas.Option.{none-some}
use Rattle.casper_disk.specs.Disk.{Took}
use Rattle.casper_disk.specs.Vault.{IsOldOrNewImage, as_changes}
use Rattle.casper_space.specs.Changes.{last_version, room_after, with_changes}
use Rattle.casper_root.specs.Format.{body_block}
use Rattle.casper_root.specs.declared.body.Body.{Body}
use Rattle.casper_commit.specs.Added.{AddsImages}
use Rattle.casper_commit.specs.GateMoment.{CallsGate, FailsAtGate}
use Rattle.casper_commit.specs.Root.{seq_of, body_at}
use Rattle.casper_commit.specs.declared.standing.Standing.{Standing}
use Rattle.casper_map.specs.Mapped.{page_count}
use Rattle.casper_map.specs.Room.{room_of}
use Rattle.casper_map.proofs.PagesLemmas.{others_stay}
use Rattle.casper_map.proofs.RoomLemmas.{rooms_follow_plans}
use Rattle.casper_map.specs.Planned.{Planned, IsPlan, moved}
use Rattle.casper_stable.specs.Opens.{pages_in}
use Rattle.casper_stable.specs.Kept.{Kept, image_of, next_body, roots_of}
use Rattle.casper_stable.specs.Leaves.{Leaves}
use Rattle.casper_stable.specs.Sound.{free_blocks, root_of}
use Rattle.casper_stable.specs.Others.{OthersKeepFrames, frame_of_page}
use Rattle.casper_stable.specs.UntilGate.{LeavesOldAlone, OldUntilGate}
use Rattle.casper_stable.specs.Writing.{Written, NextStands, GateDecides, IsOldOrWritten}
use Rattle.casper_stable.specs.LeavesLemmas.{took_saved}
use Rattle.casper_stable.proofs.CommitLemmas.{written_is, goes_free, greater_of, after_ok, after_doubt, after_fault, either_written, fit_next, fit_still, sure_of, on_disk, disk_next, disk_doubt, some_is}
use Rattle.casper_stable.proofs.GateLemmas.{leaves_old, until_gate}
use Rattle.casper_stable.proofs.DoubtLemmas.{doubt_found, disk_found}
use Rattle.casper_stable.specs.SoundLemmas.{plan_long, sure_still}
use Rattle.casper_stable.proofs.store.Store.carry_out.Goals as goal

pub invariant_of-self : goal.invariant_of-self
invariant_of-self g c =
    let own = c.self.inside in
    let roots = roots_of own.header own.standing own.body in
    let plan = c.args.plan in
    let written : Written = record { held = own.map; plan = plan; changes = c.args.changes.now } in
    let none : own.doubt ≡ None = ap (λ (kept : Kept g.row.D.Denot). kept.doubt) c.self.view_is ∙ c.requires.sure in
    let fits = c.self.invariant.0.fits in
    let whole = c.self.invariant.0.whole in
    let planned : IsPlan own.map plan = subst (λ (kept : Kept g.row.D.Denot). IsPlan kept.held plan)
    (sym c.self.view_is) c.requires.planned in
    let more : own.body.seq < last_version = subst (λ (kept : Kept g.row.D.Denot). kept.body.seq < last_version)
    (sym c.self.view_is) c.requires.more in (
      fit_still (g.D.Disk.size own.disk) (g.D.Disk.size c.put_plan.new.disk) roots own.map own.doubt
          (Some plan) c.put_plan.new.standing c.put_plan.ensures.size c.self.invariant.0
          (λ other there. (subst (λ (given : Planned). IsPlan own.map given) (some_is plan other there) planned, more)),
      λ told.
          let content = g.D.Disk.content own.disk in
          let after = c.put_plan.new.disk in
          let is = written_is (g.D.Disk.size own.disk) roots written fits whole planned c.requires.pages in
          let sure = sure_of roots own.map own.doubt content (g.D.Disk.loose own.disk) none (c.self.invariant.1 told) in
          let into = goes_free sure.base roots written is sure.opens.map in
          let body : Body = record { seq = own.body.seq + 1; maps = c.maps.result } in
          let same : body ≡ next_body roots.body own.map plan = ap (λ
          (maps : List ℕ). record { seq = own.body.seq + 1; maps = maps }) c.maps.ensures in
          let greater = subst (λ (given : Body). seq_of (body_at sure.base roots.slot) < seq_of (body_block given)) (sym same)
          (greater_of (g.D.Disk.size own.disk) roots own.map plan sure.base fits whole planned more sure.opens) in
          let gate = subst (λ (given : Body). GateDecides written (root_of sure.base roots) (body_block given)
          (free_blocks sure.base roots) sure.base (g.D.Disk.content after) (g.D.Disk.loose after)) same
          (c.in-Err.ensures.doubt told (body_at sure.base roots.slot) (free_blocks sure.base roots) sure.base into sure.stands greater
          (doubt_found c.in-Err.fault (sym c.is_doubt.ensures ∙ c.if-is_doubt.true))) in
          let end = after_doubt roots written content (g.D.Disk.content after) (g.D.Disk.loose own.disk)
          (g.D.Disk.loose after) is sure gate in
          disk_doubt roots own.map plan c.put_plan.new.standing (g.D.Disk.content after)
          (g.D.Disk.loose after) c.in-Err.ensures.stays end.doubtful,
    )

pub returns-then-is_doubt-clause-same_image : goal.returns-then-is_doubt-clause-same_image
returns-then-is_doubt-clause-same_image g c told =
    let own = c.self.inside in
    let roots = roots_of own.header own.standing own.body in
    let plan = c.args.plan in
    let written : Written = record { held = own.map; plan = plan; changes = c.args.changes.now } in
    let none : own.doubt ≡ None = ap (λ (kept : Kept g.row.D.Denot). kept.doubt) c.self.view_is ∙ c.requires.sure in
    let fits = c.self.invariant.0.fits in
    let whole = c.self.invariant.0.whole in
    let planned : IsPlan own.map plan = subst (λ (kept : Kept g.row.D.Denot). IsPlan kept.held plan)
    (sym c.self.view_is) c.requires.planned in
    let more : own.body.seq < last_version = subst (λ (kept : Kept g.row.D.Denot). kept.body.seq < last_version)
    (sym c.self.view_is) c.requires.more in
    let content = g.D.Disk.content own.disk in
    let after = c.put_plan.new.disk in
    let is = written_is (g.D.Disk.size own.disk) roots written fits whole planned c.requires.pages in
    let sure = sure_of roots own.map own.doubt content (g.D.Disk.loose own.disk) none (c.self.invariant.1 told) in
    let into = goes_free sure.base roots written is sure.opens.map in
    let body : Body = record { seq = own.body.seq + 1; maps = c.maps.result } in
    let same : body ≡ next_body roots.body own.map plan = ap (λ
    (maps : List ℕ). record { seq = own.body.seq + 1; maps = maps }) c.maps.ensures in
    let greater = subst (λ (given : Body). seq_of (body_at sure.base roots.slot) < seq_of (body_block given)) (sym same)
    (greater_of (g.D.Disk.size own.disk) roots own.map plan sure.base fits whole planned more sure.opens) in
    let gate = subst (λ (given : Body). GateDecides written (root_of sure.base roots) (body_block given)
    (free_blocks sure.base roots) sure.base (g.D.Disk.content after) (g.D.Disk.loose after)) same
    (c.in-Err.ensures.doubt told (body_at sure.base roots.slot) (free_blocks sure.base roots) sure.base into sure.stands greater
    (doubt_found c.in-Err.fault (sym c.is_doubt.ensures ∙ c.if-is_doubt.true))) in
    let end = after_doubt roots written content (g.D.Disk.content after) (g.D.Disk.loose own.disk) (g.D.Disk.loose after) is sure gate in
    end.image ∙ ap (image_of g.D.Disk.content) c.self.view_is

pub returns-then-is_doubt-clause-changes : goal.returns-then-is_doubt-clause-changes
returns-then-is_doubt-clause-changes g c told answer =
    let own = c.self.inside in
    let roots = roots_of own.header own.standing own.body in
    let plan = c.args.plan in
    let written : Written = record { held = own.map; plan = plan; changes = c.args.changes.now } in
    let none : own.doubt ≡ None = ap (λ (kept : Kept g.row.D.Denot). kept.doubt) c.self.view_is ∙ c.requires.sure in
    let fits = c.self.invariant.0.fits in
    let whole = c.self.invariant.0.whole in
    let planned : IsPlan own.map plan = subst (λ (kept : Kept g.row.D.Denot). IsPlan kept.held plan)
    (sym c.self.view_is) c.requires.planned in
    let more : own.body.seq < last_version = subst (λ (kept : Kept g.row.D.Denot). kept.body.seq < last_version)
    (sym c.self.view_is) c.requires.more in
    let content = g.D.Disk.content own.disk in
    let after = c.put_plan.new.disk in
    let is = written_is (g.D.Disk.size own.disk) roots written fits whole planned c.requires.pages in
    let sure = sure_of roots own.map own.doubt content (g.D.Disk.loose own.disk) none (c.self.invariant.1 told) in
    let into = goes_free sure.base roots written is sure.opens.map in
    let body : Body = record { seq = own.body.seq + 1; maps = c.maps.result } in
    let same : body ≡ next_body roots.body own.map plan = ap (λ
    (maps : List ℕ). record { seq = own.body.seq + 1; maps = maps }) c.maps.ensures in
    let greater = subst (λ (given : Body). seq_of (body_at sure.base roots.slot) < seq_of (body_block given)) (sym same)
    (greater_of (g.D.Disk.size own.disk) roots own.map plan sure.base fits whole planned more sure.opens) in
    let gate = subst (λ (given : Body). GateDecides written (root_of sure.base roots) (body_block given)
    (free_blocks sure.base roots) sure.base (g.D.Disk.content after) (g.D.Disk.loose after)) same
    (c.in-Err.ensures.doubt told (body_at sure.base roots.slot) (free_blocks sure.base roots) sure.base into sure.stands greater
    (doubt_found c.in-Err.fault (sym c.is_doubt.ensures ∙ c.if-is_doubt.true))) in
    let end = after_doubt roots written content (g.D.Disk.content after) (g.D.Disk.loose own.disk) (g.D.Disk.loose after) is sure gate in
    end.words

pub returns-then-is_doubt-clause-images : goal.returns-then-is_doubt-clause-images
returns-then-is_doubt-clause-images g c told =
    let own = c.self.inside in
    let roots = roots_of own.header own.standing own.body in
    let plan = c.args.plan in
    let written : Written = record { held = own.map; plan = plan; changes = c.args.changes.now } in
    let none : own.doubt ≡ None = ap (λ (kept : Kept g.row.D.Denot). kept.doubt) c.self.view_is ∙ c.requires.sure in
    let fits = c.self.invariant.0.fits in
    let whole = c.self.invariant.0.whole in
    let planned : IsPlan own.map plan = subst (λ (kept : Kept g.row.D.Denot). IsPlan kept.held plan)
    (sym c.self.view_is) c.requires.planned in
    let more : own.body.seq < last_version = subst (λ (kept : Kept g.row.D.Denot). kept.body.seq < last_version)
    (sym c.self.view_is) c.requires.more in
    let content = g.D.Disk.content own.disk in
    let after = c.put_plan.new.disk in
    let is = written_is (g.D.Disk.size own.disk) roots written fits whole planned c.requires.pages in
    let sure = sure_of roots own.map own.doubt content (g.D.Disk.loose own.disk) none (c.self.invariant.1 told) in
    let into = goes_free sure.base roots written is sure.opens.map in
    let body : Body = record { seq = own.body.seq + 1; maps = c.maps.result } in
    let same : body ≡ next_body roots.body own.map plan = ap (λ
    (maps : List ℕ). record { seq = own.body.seq + 1; maps = maps }) c.maps.ensures in
    let greater = subst (λ (given : Body). seq_of (body_at sure.base roots.slot) < seq_of (body_block given)) (sym same)
    (greater_of (g.D.Disk.size own.disk) roots own.map plan sure.base fits whole planned more sure.opens) in
    subst (λ (kept : Kept g.row.D.Denot). Took (g.D.Disk.moment kept.disk) (g.D.Disk.moment after) (λ past. Leaves
    (g.D.Disk.images_since kept.disk past)) (λ past. Leaves (g.D.Disk.images_since after past))
    (IsOldOrNewImage (image_of g.D.Disk.content kept) kept.body.seq (as_changes c.args.changes.now) (kept.body.seq + 1))) c.self.view_is
    (took_saved (g.D.Disk.moment own.disk) (g.D.Disk.moment after) (g.D.Disk.images_since own.disk) (g.D.Disk.images_since after)
    (IsOldOrWritten written (root_of sure.base roots) (body_block (next_body roots.body own.map plan))
    (free_blocks sure.base roots) sure.base)
    (IsOldOrNewImage (pages_in content own.map) own.body.seq (as_changes c.args.changes.now) (own.body.seq + 1))
    (λ image saved either left. either_written (g.D.Disk.size own.disk) roots written content image
    (g.D.Disk.loose own.disk) saved is fits whole more sure either left)
    (subst (λ (given : Body). AddsImages g.D.Disk.moment g.D.Disk.images_since own.disk after (IsOldOrWritten written
    (root_of sure.base roots) (body_block given) (free_blocks sure.base roots) sure.base)) same
    (c.put_plan.ensures.images told (body_at sure.base roots.slot) (free_blocks sure.base roots) sure.base into sure.stands greater)))

pub invariant_of-self-else-is_doubt : goal.invariant_of-self-else-is_doubt
invariant_of-self-else-is_doubt g c =
    let own = c.self.inside in
    let roots = roots_of own.header own.standing own.body in
    let plan = c.args.plan in
    let written : Written = record { held = own.map; plan = plan; changes = c.args.changes.now } in
    let none : own.doubt ≡ None = ap (λ (kept : Kept g.row.D.Denot). kept.doubt) c.self.view_is ∙ c.requires.sure in
    let fits = c.self.invariant.0.fits in
    let whole = c.self.invariant.0.whole in
    let planned : IsPlan own.map plan = subst (λ (kept : Kept g.row.D.Denot). IsPlan kept.held plan)
    (sym c.self.view_is) c.requires.planned in
    let more : own.body.seq < last_version = subst (λ (kept : Kept g.row.D.Denot). kept.body.seq < last_version)
    (sym c.self.view_is) c.requires.more in (
      fit_still (g.D.Disk.size own.disk)
          (g.D.Disk.size c.put_plan.new.disk) roots own.map own.doubt own.doubt c.put_plan.new.standing c.put_plan.ensures.size c.self.invariant.0
          (λ other there. absurd (none-some other (sym none ∙ there))),
      λ told.
          let content = g.D.Disk.content own.disk in
          let after = c.put_plan.new.disk in
          let is = written_is (g.D.Disk.size own.disk) roots written fits whole planned c.requires.pages in
          let sure = sure_of roots own.map own.doubt content (g.D.Disk.loose own.disk) none (c.self.invariant.1 told) in
          let into = goes_free sure.base roots written is sure.opens.map in
          let body : Body = record { seq = own.body.seq + 1; maps = c.maps.result } in
          let same : body ≡ next_body roots.body own.map plan = ap (λ
          (maps : List ℕ). record { seq = own.body.seq + 1; maps = maps }) c.maps.ensures in
          let greater = subst (λ (given : Body). seq_of (body_at sure.base roots.slot) < seq_of (body_block given)) (sym same)
          (greater_of (g.D.Disk.size own.disk) roots own.map plan sure.base fits whole planned more sure.opens) in
          let answer = disk_found c.in-Err.fault (sym c.is_doubt.ensures ∙ c.if-is_doubt.false) c.in-Err.ensures.causes in
          let stands = c.in-Err.ensures.old told (body_at sure.base roots.slot)
          (free_blocks sure.base roots) sure.base into sure.stands answer in
          on_disk (roots_of own.header c.put_plan.new.standing own.body) own.map own.doubt (g.D.Disk.content after)
          (g.D.Disk.loose after) none
          (sure_still sure.base (g.D.Disk.content after) own.header own.standing c.put_plan.new.standing own.body own.map
          (g.D.Disk.loose after) c.in-Err.ensures.stays sure.opens stands),
    )

pub returns-in-Err-clause-same_image : goal.returns-in-Err-clause-same_image
returns-in-Err-clause-same_image g c told =
    let own = c.self.inside in
    let roots = roots_of own.header own.standing own.body in
    let plan = c.args.plan in
    let written : Written = record { held = own.map; plan = plan; changes = c.args.changes.now } in
    let none : own.doubt ≡ None = ap (λ (kept : Kept g.row.D.Denot). kept.doubt) c.self.view_is ∙ c.requires.sure in
    let fits = c.self.invariant.0.fits in
    let whole = c.self.invariant.0.whole in
    let planned : IsPlan own.map plan = subst (λ (kept : Kept g.row.D.Denot). IsPlan kept.held plan)
    (sym c.self.view_is) c.requires.planned in
    let more : own.body.seq < last_version = subst (λ (kept : Kept g.row.D.Denot). kept.body.seq < last_version)
    (sym c.self.view_is) c.requires.more in
    let content = g.D.Disk.content own.disk in
    let after = c.put_plan.new.disk in
    let is = written_is (g.D.Disk.size own.disk) roots written fits whole planned c.requires.pages in
    let sure = sure_of roots own.map own.doubt content (g.D.Disk.loose own.disk) none (c.self.invariant.1 told) in
    let into = goes_free sure.base roots written is sure.opens.map in
    let body : Body = record { seq = own.body.seq + 1; maps = c.maps.result } in
    let same : body ≡ next_body roots.body own.map plan = ap (λ
    (maps : List ℕ). record { seq = own.body.seq + 1; maps = maps }) c.maps.ensures in
    let greater = subst (λ (given : Body). seq_of (body_at sure.base roots.slot) < seq_of (body_block given)) (sym same)
    (greater_of (g.D.Disk.size own.disk) roots own.map plan sure.base fits whole planned more sure.opens) in
    let answer = disk_found c.in-Err.fault (sym c.is_doubt.ensures ∙ c.if-is_doubt.false) c.in-Err.ensures.causes in
    let stands = c.in-Err.ensures.old told (body_at sure.base roots.slot) (free_blocks sure.base roots) sure.base into sure.stands answer in
    after_fault roots own.map content (g.D.Disk.content after) (g.D.Disk.loose own.disk)
    (g.D.Disk.loose after) c.put_plan.new.standing.spare_closed c.put_plan.new.standing.slot sure stands
    ∙ ap (image_of g.D.Disk.content) c.self.view_is

pub returns-in-Err-clause-images : goal.returns-in-Err-clause-images
returns-in-Err-clause-images g c told =
    let own = c.self.inside in
    let roots = roots_of own.header own.standing own.body in
    let plan = c.args.plan in
    let written : Written = record { held = own.map; plan = plan; changes = c.args.changes.now } in
    let none : own.doubt ≡ None = ap (λ (kept : Kept g.row.D.Denot). kept.doubt) c.self.view_is ∙ c.requires.sure in
    let fits = c.self.invariant.0.fits in
    let whole = c.self.invariant.0.whole in
    let planned : IsPlan own.map plan = subst (λ (kept : Kept g.row.D.Denot). IsPlan kept.held plan)
    (sym c.self.view_is) c.requires.planned in
    let more : own.body.seq < last_version = subst (λ (kept : Kept g.row.D.Denot). kept.body.seq < last_version)
    (sym c.self.view_is) c.requires.more in
    let content = g.D.Disk.content own.disk in
    let after = c.put_plan.new.disk in
    let is = written_is (g.D.Disk.size own.disk) roots written fits whole planned c.requires.pages in
    let sure = sure_of roots own.map own.doubt content (g.D.Disk.loose own.disk) none (c.self.invariant.1 told) in
    let into = goes_free sure.base roots written is sure.opens.map in
    let body : Body = record { seq = own.body.seq + 1; maps = c.maps.result } in
    let same : body ≡ next_body roots.body own.map plan = ap (λ
    (maps : List ℕ). record { seq = own.body.seq + 1; maps = maps }) c.maps.ensures in
    let greater = subst (λ (given : Body). seq_of (body_at sure.base roots.slot) < seq_of (body_block given)) (sym same)
    (greater_of (g.D.Disk.size own.disk) roots own.map plan sure.base fits whole planned more sure.opens) in
    subst (λ (kept : Kept g.row.D.Denot). Took (g.D.Disk.moment kept.disk) (g.D.Disk.moment after) (λ past. Leaves
    (g.D.Disk.images_since kept.disk past)) (λ past. Leaves (g.D.Disk.images_since after past))
    (IsOldOrNewImage (image_of g.D.Disk.content kept) kept.body.seq (as_changes c.args.changes.now) (kept.body.seq + 1))) c.self.view_is
    (took_saved (g.D.Disk.moment own.disk) (g.D.Disk.moment after) (g.D.Disk.images_since own.disk) (g.D.Disk.images_since after)
    (IsOldOrWritten written (root_of sure.base roots) (body_block (next_body roots.body own.map plan))
    (free_blocks sure.base roots) sure.base)
    (IsOldOrNewImage (pages_in content own.map) own.body.seq (as_changes c.args.changes.now) (own.body.seq + 1))
    (λ image saved either left. either_written (g.D.Disk.size own.disk) roots written content image
    (g.D.Disk.loose own.disk) saved is fits whole more sure either left)
    (subst (λ (given : Body). AddsImages g.D.Disk.moment g.D.Disk.images_since own.disk after (IsOldOrWritten written
    (root_of sure.base roots) (body_block given) (free_blocks sure.base roots) sure.base)) same
    (c.put_plan.ensures.images told (body_at sure.base roots.slot) (free_blocks sure.base roots) sure.base into sure.stands greater)))

pub invariant_of-self-2 : goal.invariant_of-self-2
invariant_of-self-2 g c =
    let own = c.self.inside in
    let roots = roots_of own.header own.standing own.body in
    let plan = c.args.plan in
    let written : Written = record { held = own.map; plan = plan; changes = c.args.changes.now } in
    let none : own.doubt ≡ None = ap (λ (kept : Kept g.row.D.Denot). kept.doubt) c.self.view_is ∙ c.requires.sure in
    let fits = c.self.invariant.0.fits in
    let whole = c.self.invariant.0.whole in
    let planned : IsPlan own.map plan = subst (λ (kept : Kept g.row.D.Denot). IsPlan kept.held plan)
    (sym c.self.view_is) c.requires.planned in
    let more : own.body.seq < last_version = subst (λ (kept : Kept g.row.D.Denot). kept.body.seq < last_version)
    (sym c.self.view_is) c.requires.more in
    let body : Body = record { seq = own.body.seq + 1; maps = c.maps.result } in
    let same : body ≡ next_body roots.body own.map plan = ap (λ
    (maps : List ℕ). record { seq = own.body.seq + 1; maps = maps }) c.maps.ensures in (
      fit_next (g.D.Disk.size own.disk)
          (g.D.Disk.size c.put_plan.new.disk) roots own.map c.apply.new.self plan own.doubt c.put_plan.new.standing body c.put_plan.ensures.size fits whole planned more c.apply.ensures same none,
      λ told.
          let content = g.D.Disk.content own.disk in
          let after = c.put_plan.new.disk in
          let is = written_is (g.D.Disk.size own.disk) roots written fits whole planned c.requires.pages in
          let sure = sure_of roots own.map own.doubt content (g.D.Disk.loose own.disk) none (c.self.invariant.1 told) in
          let into = goes_free sure.base roots written is sure.opens.map in
          let body : Body = record { seq = own.body.seq + 1; maps = c.maps.result } in
          let same : body ≡ next_body roots.body own.map plan = ap (λ
          (maps : List ℕ). record { seq = own.body.seq + 1; maps = maps }) c.maps.ensures in
          let greater = subst (λ (given : Body). seq_of (body_at sure.base roots.slot) < seq_of (body_block given)) (sym same)
          (greater_of (g.D.Disk.size own.disk) roots own.map plan sure.base fits whole planned more sure.opens) in
          let next = subst (λ (given : Standing). NextStands written (free_blocks sure.base roots) sure.base given (body_block
          (next_body roots.body own.map plan)) (g.D.Disk.content after) (g.D.Disk.loose after)) c.in-Ok.ensures.moved
          (subst (λ (given : Body). NextStands written (free_blocks sure.base roots) sure.base c.put_plan.new.standing
          (body_block given) (g.D.Disk.content after) (g.D.Disk.loose after)) same
          (c.in-Ok.ensures.new told (body_at sure.base roots.slot) (free_blocks sure.base roots) sure.base into sure.stands greater)) in
          let end = after_ok (g.D.Disk.size own.disk) roots written content (g.D.Disk.content after) (g.D.Disk.loose own.disk)
          (g.D.Disk.loose after) is fits whole more sure next in
          disk_next roots own.map c.apply.new.self plan own.doubt c.put_plan.new.standing body (g.D.Disk.content after)
          (g.D.Disk.loose after) c.in-Ok.ensures.moved c.apply.ensures same none end.sure,
    )

pub returns-clause-image : goal.returns-clause-image
returns-clause-image g c told =
    let own = c.self.inside in
    let roots = roots_of own.header own.standing own.body in
    let plan = c.args.plan in
    let written : Written = record { held = own.map; plan = plan; changes = c.args.changes.now } in
    let none : own.doubt ≡ None = ap (λ (kept : Kept g.row.D.Denot). kept.doubt) c.self.view_is ∙ c.requires.sure in
    let fits = c.self.invariant.0.fits in
    let whole = c.self.invariant.0.whole in
    let planned : IsPlan own.map plan = subst (λ (kept : Kept g.row.D.Denot). IsPlan kept.held plan)
    (sym c.self.view_is) c.requires.planned in
    let more : own.body.seq < last_version = subst (λ (kept : Kept g.row.D.Denot). kept.body.seq < last_version)
    (sym c.self.view_is) c.requires.more in
    let content = g.D.Disk.content own.disk in
    let after = c.put_plan.new.disk in
    let is = written_is (g.D.Disk.size own.disk) roots written fits whole planned c.requires.pages in
    let sure = sure_of roots own.map own.doubt content (g.D.Disk.loose own.disk) none (c.self.invariant.1 told) in
    let into = goes_free sure.base roots written is sure.opens.map in
    let body : Body = record { seq = own.body.seq + 1; maps = c.maps.result } in
    let same : body ≡ next_body roots.body own.map plan = ap (λ
    (maps : List ℕ). record { seq = own.body.seq + 1; maps = maps }) c.maps.ensures in
    let greater = subst (λ (given : Body). seq_of (body_at sure.base roots.slot) < seq_of (body_block given)) (sym same)
    (greater_of (g.D.Disk.size own.disk) roots own.map plan sure.base fits whole planned more sure.opens) in
    let next = subst (λ (given : Standing). NextStands written (free_blocks sure.base roots) sure.base given (body_block
    (next_body roots.body own.map plan)) (g.D.Disk.content after) (g.D.Disk.loose after)) c.in-Ok.ensures.moved
    (subst (λ (given : Body). NextStands written (free_blocks sure.base roots) sure.base c.put_plan.new.standing (body_block given)
    (g.D.Disk.content after) (g.D.Disk.loose after)) same
    (c.in-Ok.ensures.new told (body_at sure.base roots.slot) (free_blocks sure.base roots) sure.base into sure.stands greater)) in
    let end = after_ok (g.D.Disk.size own.disk) roots written content (g.D.Disk.content after) (g.D.Disk.loose own.disk)
    (g.D.Disk.loose after) is fits whole more sure next in
    ap (pages_in (g.D.Disk.content after)) c.apply.ensures ∙ end.image
    ∙ ap (λ (kept : Kept g.row.D.Denot). with_changes (image_of g.D.Disk.content kept) (as_changes c.args.changes.now)) c.self.view_is

pub returns-clause-images : goal.returns-clause-images
returns-clause-images g c told =
    let own = c.self.inside in
    let roots = roots_of own.header own.standing own.body in
    let plan = c.args.plan in
    let written : Written = record { held = own.map; plan = plan; changes = c.args.changes.now } in
    let none : own.doubt ≡ None = ap (λ (kept : Kept g.row.D.Denot). kept.doubt) c.self.view_is ∙ c.requires.sure in
    let fits = c.self.invariant.0.fits in
    let whole = c.self.invariant.0.whole in
    let planned : IsPlan own.map plan = subst (λ (kept : Kept g.row.D.Denot). IsPlan kept.held plan)
    (sym c.self.view_is) c.requires.planned in
    let more : own.body.seq < last_version = subst (λ (kept : Kept g.row.D.Denot). kept.body.seq < last_version)
    (sym c.self.view_is) c.requires.more in
    let content = g.D.Disk.content own.disk in
    let after = c.put_plan.new.disk in
    let is = written_is (g.D.Disk.size own.disk) roots written fits whole planned c.requires.pages in
    let sure = sure_of roots own.map own.doubt content (g.D.Disk.loose own.disk) none (c.self.invariant.1 told) in
    let into = goes_free sure.base roots written is sure.opens.map in
    let body : Body = record { seq = own.body.seq + 1; maps = c.maps.result } in
    let same : body ≡ next_body roots.body own.map plan = ap (λ
    (maps : List ℕ). record { seq = own.body.seq + 1; maps = maps }) c.maps.ensures in
    let greater = subst (λ (given : Body). seq_of (body_at sure.base roots.slot) < seq_of (body_block given)) (sym same)
    (greater_of (g.D.Disk.size own.disk) roots own.map plan sure.base fits whole planned more sure.opens) in
    subst (λ (kept : Kept g.row.D.Denot). Took (g.D.Disk.moment kept.disk) (g.D.Disk.moment after) (λ past. Leaves
    (g.D.Disk.images_since kept.disk past)) (λ past. Leaves (g.D.Disk.images_since after past))
    (IsOldOrNewImage (image_of g.D.Disk.content kept) kept.body.seq (as_changes c.args.changes.now) (kept.body.seq + 1))) c.self.view_is
    (took_saved (g.D.Disk.moment own.disk) (g.D.Disk.moment after) (g.D.Disk.images_since own.disk) (g.D.Disk.images_since after)
    (IsOldOrWritten written (root_of sure.base roots) (body_block (next_body roots.body own.map plan))
    (free_blocks sure.base roots) sure.base)
    (IsOldOrNewImage (pages_in content own.map) own.body.seq (as_changes c.args.changes.now) (own.body.seq + 1))
    (λ image saved either left. either_written (g.D.Disk.size own.disk) roots written content image
    (g.D.Disk.loose own.disk) saved is fits whole more sure either left)
    (subst (λ (given : Body). AddsImages g.D.Disk.moment g.D.Disk.images_since own.disk after (IsOldOrWritten written
    (root_of sure.base roots) (body_block given) (free_blocks sure.base roots) sure.base)) same
    (c.put_plan.ensures.images told (body_at sure.base roots.slot) (free_blocks sure.base roots) sure.base into sure.stands greater)))

pub returns-then-is_doubt-clause-kept : goal.returns-then-is_doubt-clause-kept
returns-then-is_doubt-clause-kept g c = invariant_of-self g c

pub returns-in-Err-clause-kept : goal.returns-in-Err-clause-kept
returns-in-Err-clause-kept g c =
    let own = c.self.inside in
    let roots = roots_of own.header own.standing own.body in
    let plan = c.args.plan in
    let written : Written = record { held = own.map; plan = plan; changes = c.args.changes.now } in
    let none : own.doubt ≡ None = ap (λ (kept : Kept g.row.D.Denot). kept.doubt) c.self.view_is ∙ c.requires.sure in
    let fits = c.self.invariant.0.fits in
    let whole = c.self.invariant.0.whole in
    let planned : IsPlan own.map plan = subst (λ (kept : Kept g.row.D.Denot). IsPlan kept.held plan)
    (sym c.self.view_is) c.requires.planned in
    let more : own.body.seq < last_version = subst (λ (kept : Kept g.row.D.Denot). kept.body.seq < last_version)
    (sym c.self.view_is) c.requires.more in (
      fit_still (g.D.Disk.size own.disk)
          (g.D.Disk.size c.put_plan.new.disk) roots own.map own.doubt own.doubt c.put_plan.new.standing c.put_plan.ensures.size c.self.invariant.0
          (λ other there. absurd (none-some other (sym none ∙ there))),
      λ told.
          let content = g.D.Disk.content own.disk in
          let after = c.put_plan.new.disk in
          let is = written_is (g.D.Disk.size own.disk) roots written fits whole planned c.requires.pages in
          let sure = sure_of roots own.map own.doubt content (g.D.Disk.loose own.disk) none (c.self.invariant.1 told) in
          let into = goes_free sure.base roots written is sure.opens.map in
          let body : Body = record { seq = own.body.seq + 1; maps = c.maps.result } in
          let same : body ≡ next_body roots.body own.map plan = ap (λ
          (maps : List ℕ). record { seq = own.body.seq + 1; maps = maps }) c.maps.ensures in
          let greater = subst (λ (given : Body). seq_of (body_at sure.base roots.slot) < seq_of (body_block given)) (sym same)
          (greater_of (g.D.Disk.size own.disk) roots own.map plan sure.base fits whole planned more sure.opens) in
          let answer = disk_found c.in-Err.fault (sym c.is_doubt.ensures ∙ c.if-is_doubt.false) c.in-Err.ensures.causes in
          let stands = c.in-Err.ensures.old told (body_at sure.base roots.slot)
          (free_blocks sure.base roots) sure.base into sure.stands answer in
          on_disk (roots_of own.header c.put_plan.new.standing own.body) own.map own.doubt (g.D.Disk.content after)
          (g.D.Disk.loose after) none
          (sure_still sure.base (g.D.Disk.content after) own.header own.standing c.put_plan.new.standing own.body own.map
          (g.D.Disk.loose after) c.in-Err.ensures.stays sure.opens stands),
    )

pub returns-clause-kept : goal.returns-clause-kept
returns-clause-kept g c = invariant_of-self-2 g c

pub returns-clause-size : goal.returns-clause-size
returns-clause-size g c =
    ap page_count c.apply.ensures ∙ ap (λ (long : ℕ). long - c.self.inside.map.first_page) (plan_long c.self.inside.map c.args.plan)
    ∙ ap (λ (kept : Kept g.row.D.Denot). page_count kept.held) c.self.view_is

pub returns-clause-room : goal.returns-clause-room
returns-clause-room g c =
    let own = c.self.inside in
    let roots = roots_of own.header own.standing own.body in
    let plan = c.args.plan in
    let written : Written = record { held = own.map; plan = plan; changes = c.args.changes.now } in
    let none : own.doubt ≡ None = ap (λ (kept : Kept g.row.D.Denot). kept.doubt) c.self.view_is ∙ c.requires.sure in
    let fits = c.self.invariant.0.fits in
    let whole = c.self.invariant.0.whole in
    let planned : IsPlan own.map plan = subst (λ (kept : Kept g.row.D.Denot). IsPlan kept.held plan)
    (sym c.self.view_is) c.requires.planned in
    let more : own.body.seq < last_version = subst (λ (kept : Kept g.row.D.Denot). kept.body.seq < last_version)
    (sym c.self.view_is) c.requires.more in
    ap room_of c.apply.ensures ∙ rooms_follow_plans own.map plan whole.blocks planned
    ∙ ap (λ (kept : Kept g.row.D.Denot). room_after (moved plan.pages) (room_of kept.held)) c.self.view_is

pub returns-in-Err-clause-old_alone : goal.returns-in-Err-clause-old_alone
returns-in-Err-clause-old_alone g c told answer =
    let own = c.self.inside in
    let roots = roots_of own.header own.standing own.body in
    let plan = c.args.plan in
    let written : Written = record { held = own.map; plan = plan; changes = c.args.changes.now } in
    let kept : Kept g.row.D.Denot = record {
      disk = own.disk;
      header = own.header;
      standing = own.standing;
      body = own.body;
      held = own.map;
      doubt = own.doubt;
    } in
    let none : own.doubt ≡ None = ap (λ (kept : Kept g.row.D.Denot). kept.doubt) c.self.view_is ∙ c.requires.sure in
    let fits = c.self.invariant.0.fits in
    let whole = c.self.invariant.0.whole in
    let planned : IsPlan own.map plan = subst (λ (kept : Kept g.row.D.Denot). IsPlan kept.held plan)
    (sym c.self.view_is) c.requires.planned in
    let after = c.put_plan.new.disk in
    let is = written_is (g.D.Disk.size own.disk) roots written fits whole planned c.requires.pages in
    let sure = sure_of roots own.map own.doubt (g.D.Disk.content own.disk) (g.D.Disk.loose own.disk) none (c.self.invariant.1 told) in
    let into = goes_free sure.base roots written is sure.opens.map in
    subst (λ (kept : Kept g.row.D.Denot). LeavesOldAlone g.D.Disk.content g.D.Disk.moment g.D.Disk.images_since kept after) c.self.view_is
    (leaves_old g.D.Disk.content g.D.Disk.loose g.D.Disk.moment g.D.Disk.images_since kept after sure
    (c.in-Err.ensures.old_images told (body_at sure.base roots.slot) (free_blocks sure.base roots) sure.base into sure.stands
    (disk_found c.in-Err.fault (sym c.is_doubt.ensures ∙ c.if-is_doubt.false) c.in-Err.ensures.causes)))

pub returns-clause-gate_call : goal.returns-clause-gate_call
returns-clause-gate_call g c =
    let own = c.self.inside in
    let roots = roots_of own.header own.standing own.body in
    let plan = c.args.plan in
    let written : Written = record { held = own.map; plan = plan; changes = c.args.changes.now } in
    let kept : Kept g.row.D.Denot = record {
      disk = own.disk;
      header = own.header;
      standing = own.standing;
      body = own.body;
      held = own.map;
      doubt = own.doubt;
    } in
    let none : own.doubt ≡ None = ap (λ (kept : Kept g.row.D.Denot). kept.doubt) c.self.view_is ∙ c.requires.sure in
    let fits = c.self.invariant.0.fits in
    let whole = c.self.invariant.0.whole in
    let planned : IsPlan own.map plan = subst (λ (kept : Kept g.row.D.Denot). IsPlan kept.held plan)
    (sym c.self.view_is) c.requires.planned in
    let after = c.put_plan.new.disk in
    let called = c.in-Ok.ensures.gate_call in
    subst (λ (kept : Kept g.row.D.Denot). CallsGate g.D.Disk.leads_to g.D.Disk.faults (λ at_gate. IsTrue g.D.Disk.tells → OldUntilGate
    g.D.Disk.content g.D.Disk.loose g.D.Disk.moment g.D.Disk.images_since kept at_gate after) kept.disk after) c.self.view_is
    (record {
      at_gate = called.at_gate;
      before = called.before;
      after = called.after;
      counted = called.counted;
      met = λ told.
          let is = written_is (g.D.Disk.size own.disk) roots written fits whole planned c.requires.pages in
          let sure = sure_of roots own.map own.doubt (g.D.Disk.content own.disk) (g.D.Disk.loose own.disk) none (c.self.invariant.1 told) in
          until_gate g.D.Disk.content g.D.Disk.loose g.D.Disk.moment g.D.Disk.images_since kept written called.at_gate after sure
          (goes_free sure.base roots written is sure.opens.map) (called.met told);
    })

pub returns-then-is_doubt-clause-gate_call_in_doubt : goal.returns-then-is_doubt-clause-gate_call_in_doubt
returns-then-is_doubt-clause-gate_call_in_doubt g c answer =
    let own = c.self.inside in
    let roots = roots_of own.header own.standing own.body in
    let plan = c.args.plan in
    let written : Written = record { held = own.map; plan = plan; changes = c.args.changes.now } in
    let kept : Kept g.row.D.Denot = record {
      disk = own.disk;
      header = own.header;
      standing = own.standing;
      body = own.body;
      held = own.map;
      doubt = own.doubt;
    } in
    let none : own.doubt ≡ None = ap (λ (kept : Kept g.row.D.Denot). kept.doubt) c.self.view_is ∙ c.requires.sure in
    let fits = c.self.invariant.0.fits in
    let whole = c.self.invariant.0.whole in
    let planned : IsPlan own.map plan = subst (λ (kept : Kept g.row.D.Denot). IsPlan kept.held plan)
    (sym c.self.view_is) c.requires.planned in
    let after = c.put_plan.new.disk in
    let fails = c.in-Err.ensures.gate_call_in_doubt (doubt_found c.in-Err.fault (sym c.is_doubt.ensures ∙ c.if-is_doubt.true)) in
    let called = fails.call in
    subst (λ (kept : Kept g.row.D.Denot). FailsAtGate g.D.Disk.leads_to g.D.Disk.faults (λ at_gate. IsTrue g.D.Disk.tells → OldUntilGate
    g.D.Disk.content g.D.Disk.loose g.D.Disk.moment g.D.Disk.images_since kept at_gate after) kept.disk after) c.self.view_is
    (record {
      call = record {
        at_gate = called.at_gate;
        before = called.before;
        after = called.after;
        counted = called.counted;
        met = λ told.
            let is = written_is (g.D.Disk.size own.disk) roots written fits whole planned c.requires.pages in
            let sure = sure_of roots own.map own.doubt (g.D.Disk.content own.disk) (g.D.Disk.loose own.disk) none (c.self.invariant.1 told) in
            until_gate g.D.Disk.content g.D.Disk.loose g.D.Disk.moment g.D.Disk.images_since kept written called.at_gate after sure
            (goes_free sure.base roots written is sure.opens.map) (called.met told);
      };
      rose = fails.rose;
    })

pub returns-clause-frames : goal.returns-clause-frames
returns-clause-frames g c =
    let own = c.self.inside in
    let roots = roots_of own.header own.standing own.body in
    let plan = c.args.plan in
    let written : Written = record { held = own.map; plan = plan; changes = c.args.changes.now } in
    let kept : Kept g.row.D.Denot = record {
      disk = own.disk;
      header = own.header;
      standing = own.standing;
      body = own.body;
      held = own.map;
      doubt = own.doubt;
    } in
    let none : own.doubt ≡ None = ap (λ (kept : Kept g.row.D.Denot). kept.doubt) c.self.view_is ∙ c.requires.sure in
    let fits = c.self.invariant.0.fits in
    let whole = c.self.invariant.0.whole in
    let planned : IsPlan own.map plan = subst (λ (kept : Kept g.row.D.Denot). IsPlan kept.held plan)
    (sym c.self.view_is) c.requires.planned in
    let after = c.put_plan.new.disk in
    subst (λ (kept : Kept g.row.D.Denot). OthersKeepFrames (moved plan.pages) kept.held c.apply.new.self) c.self.view_is
    (λ page others. ap (λ held. frame_of_page held page) c.apply.ensures ∙ others_stay own.map plan page whole.blocks planned others)
