use Rattle.std.proofs.Common.{◌≡◌, ◌∙◌, ◌+◌, ◌-◌, ℕ, List, refl, sym, ap, subst}
use Rattle.std.specs.Prelude.{None, Some}
use Rattle.casper_disk.specs.Disk.{Took}
use Rattle.casper_disk.specs.Vault.{IsOldOrNewImage}
use Rattle.casper_space.specs.Changes.{room_after, with_changes}
use Rattle.casper_root.specs.Format.{body_block}
use Rattle.casper_root.specs.declared.body.Body.{Body}
use Rattle.casper_commit.specs.Root.{body_at}
use Rattle.casper_commit.specs.States.{IsOldOrNew, RootStands, none_free}
use Rattle.casper_commit.specs.declared.standing.Standing.{Standing}
use Rattle.casper_commit.proofs.ResultLemmas.{on_err}
use Rattle.casper_map.specs.Mapped.{page_count}
use Rattle.casper_map.specs.Room.{room_of}
use Rattle.casper_map.proofs.PagesLemmas.{others_stay}
use Rattle.casper_map.proofs.RoomLemmas.{rooms_follow_plans}
use Rattle.casper_map.specs.Planned.{Planned, moved}
use Rattle.casper_stable.specs.SoundLemmas.{plan_long}
use Rattle.casper_stable.specs.Opens.{pages_in}
use Rattle.casper_stable.specs.Kept.{Kept, changes_written, image_of, next_body, roots_of}
use Rattle.casper_stable.specs.Leaves.{Leaves}
use Rattle.casper_stable.specs.Others.{OthersKeepFrames, frame_of_page}
use Rattle.casper_stable.specs.Sound.{IsOnDisk, free_blocks, root_of}
use Rattle.casper_stable.specs.LeavesLemmas.{took_saved}
use Rattle.casper_stable.proofs.CommitLemmas.{fit_next, fit_still, disk_next, disk_doubt, some_is}
use Rattle.casper_stable.proofs.SettleLemmas.{doubtful_of, settled_ok, settled_err, settled_either}
use Rattle.casper_stable.proofs.store.Store.end_doubt.Goals as goal

pub invariant_of-self : goal.invariant_of-self
invariant_of-self g c =
    let own = c.self.inside in
    let roots = roots_of own.header own.standing own.body in
    let plan = c.in-Some.plan in
    let some : own.doubt ≡ Some plan = c.in-Some.is in
    let fits = c.self.invariant.0.fits in
    let whole = c.self.invariant.0.whole in
    let planned = c.self.invariant.0.planned plan some in
    let more = c.self.invariant.0.next plan some in (
      fit_still (g.D.Disk.size own.disk)
          (g.D.Disk.size c.settle.new.disk) roots own.map own.doubt own.doubt c.settle.new.standing c.settle.ensures.size c.self.invariant.0
          (λ other there. (c.self.invariant.0.planned other there, c.self.invariant.0.next other there)),
      λ told.
          let content = g.D.Disk.content own.disk in
          let after = c.settle.new.disk in
          let is = doubtful_of roots own.map plan own.doubt content (g.D.Disk.loose own.disk) some (c.self.invariant.1 told) in
          let next = body_block (next_body roots.body own.map plan) in
          let gate = c.in_err-settle.ensures.doubt told (body_at is.base roots.slot) next
          (free_blocks is.base roots) is.base content is.gate in
          let end = settled_err roots own.map plan content (g.D.Disk.content after) (g.D.Disk.loose own.disk)
          (g.D.Disk.loose after) is gate in
          subst (λ given. IsOnDisk (roots_of own.header c.settle.new.standing own.body) own.map given (g.D.Disk.content after)
          (g.D.Disk.loose after)) (sym some)
          (disk_doubt roots own.map plan c.settle.new.standing (g.D.Disk.content after) (g.D.Disk.loose after) (ap (λ
          (given : Standing). given.slot) c.in_err-settle.ensures.stays) end.doubtful),
    )

pub returns-in_err-settle-clause-same_image : goal.returns-in_err-settle-clause-same_image
returns-in_err-settle-clause-same_image g c told =
    let own = c.self.inside in
    let roots = roots_of own.header own.standing own.body in
    let plan = c.in-Some.plan in
    let some : own.doubt ≡ Some plan = c.in-Some.is in
    let fits = c.self.invariant.0.fits in
    let whole = c.self.invariant.0.whole in
    let planned = c.self.invariant.0.planned plan some in
    let more = c.self.invariant.0.next plan some in
    let content = g.D.Disk.content own.disk in
    let after = c.settle.new.disk in
    let is = doubtful_of roots own.map plan own.doubt content (g.D.Disk.loose own.disk) some (c.self.invariant.1 told) in
    let next = body_block (next_body roots.body own.map plan) in
    let gate = c.in_err-settle.ensures.doubt told (body_at is.base roots.slot) next (free_blocks is.base roots) is.base content is.gate in
    let end = settled_err roots own.map plan content (g.D.Disk.content after) (g.D.Disk.loose own.disk) (g.D.Disk.loose after) is gate in
    on_err c.from_residual.result (end.image ∙ ap (image_of g.D.Disk.content) c.self.view_is)

pub returns-in_err-settle-clause-changes : goal.returns-in_err-settle-clause-changes
returns-in_err-settle-clause-changes g c told given hyp =
    let own = c.self.inside in
    let roots = roots_of own.header own.standing own.body in
    let plan = c.in-Some.plan in
    let some : own.doubt ≡ Some plan = c.in-Some.is in
    let fits = c.self.invariant.0.fits in
    let whole = c.self.invariant.0.whole in
    let planned = c.self.invariant.0.planned plan some in
    let more = c.self.invariant.0.next plan some in
    let content = g.D.Disk.content own.disk in
    let after = c.settle.new.disk in
    let is = doubtful_of roots own.map plan own.doubt content (g.D.Disk.loose own.disk) some (c.self.invariant.1 told) in
    let next = body_block (next_body roots.body own.map plan) in
    let gate = c.in_err-settle.ensures.doubt told (body_at is.base roots.slot) next (free_blocks is.base roots) is.base content is.gate in
    let end = settled_err roots own.map plan content (g.D.Disk.content after) (g.D.Disk.loose own.disk) (g.D.Disk.loose after) is gate in
    let same_plan : plan ≡ given = some_is plan given (sym some ∙ ap (λ (kept : Kept g.row.D.Denot). kept.doubt) c.self.view_is ∙ hyp) in
    on_err c.from_residual.result
    (subst (λ (one : Planned). changes_written (g.D.Disk.content after) one ≡ changes_written
    (g.D.Disk.content c.args.self.now.disk) one) same_plan
    (end.words ∙ ap (λ (kept : Kept g.row.D.Denot). changes_written (g.D.Disk.content kept.disk) plan) c.self.view_is))

pub returns-in_err-settle-clause-images : goal.returns-in_err-settle-clause-images
returns-in_err-settle-clause-images g c told given hyp =
    let own = c.self.inside in
    let roots = roots_of own.header own.standing own.body in
    let plan = c.in-Some.plan in
    let some : own.doubt ≡ Some plan = c.in-Some.is in
    let fits = c.self.invariant.0.fits in
    let whole = c.self.invariant.0.whole in
    let planned = c.self.invariant.0.planned plan some in
    let more = c.self.invariant.0.next plan some in
    let content = g.D.Disk.content own.disk in
    let after = c.settle.new.disk in
    let is = doubtful_of roots own.map plan own.doubt content (g.D.Disk.loose own.disk) some (c.self.invariant.1 told) in
    let next = body_block (next_body roots.body own.map plan) in
    let same_plan : plan ≡ given = some_is plan given (sym some ∙ ap (λ (kept : Kept g.row.D.Denot). kept.doubt) c.self.view_is ∙ hyp) in
    subst (λ (one : Planned). Took (g.D.Disk.moment c.args.self.now.disk) (g.D.Disk.moment after) (λ past. Leaves
    (g.D.Disk.images_since c.args.self.now.disk past)) (λ past. Leaves (g.D.Disk.images_since after past))
    (IsOldOrNewImage (image_of g.D.Disk.content c.args.self.now) c.args.self.now.body.seq (changes_written
    (g.D.Disk.content c.args.self.now.disk) one) (c.args.self.now.body.seq + 1))) same_plan
    (subst (λ (kept : Kept g.row.D.Denot). Took (g.D.Disk.moment kept.disk) (g.D.Disk.moment after) (λ past. Leaves
    (g.D.Disk.images_since kept.disk past)) (λ past. Leaves (g.D.Disk.images_since after past))
    (IsOldOrNewImage (image_of g.D.Disk.content kept) kept.body.seq (changes_written (g.D.Disk.content kept.disk) plan)
    (kept.body.seq + 1))) c.self.view_is
    (took_saved (g.D.Disk.moment own.disk) (g.D.Disk.moment after) (g.D.Disk.images_since own.disk) (g.D.Disk.images_since after)
    (IsOldOrNew (root_of is.base roots) next (free_blocks is.base roots) is.base content)
    (IsOldOrNewImage (pages_in content own.map) own.body.seq (changes_written content plan) (own.body.seq + 1))
    (λ image saved either left. settled_either (g.D.Disk.size own.disk) roots own.map plan content image
    (g.D.Disk.loose own.disk) saved fits whole planned more is either left)
    (c.settle.ensures.images told (body_at is.base roots.slot) next (free_blocks is.base roots) is.base content is.gate)))

pub invariant_of-self-2 : goal.invariant_of-self-2
invariant_of-self-2 g c =
    let own = c.self.inside in
    let roots = roots_of own.header own.standing own.body in
    let plan = c.in-Some.plan in
    let some : own.doubt ≡ Some plan = c.in-Some.is in
    let fits = c.self.invariant.0.fits in
    let whole = c.self.invariant.0.whole in
    let planned = c.self.invariant.0.planned plan some in
    let more = c.self.invariant.0.next plan some in
    let body : Body = record { seq = own.body.seq + 1; maps = c.maps.result } in
    let same : body ≡ next_body roots.body own.map plan = ap (λ
    (maps : List ℕ). record { seq = own.body.seq + 1; maps = maps }) c.maps.ensures in (
      fit_next (g.D.Disk.size own.disk)
          (g.D.Disk.size c.settle.new.disk) roots own.map c.apply.new.self plan None c.settle.new.standing body c.settle.ensures.size fits whole planned more c.apply.ensures same refl,
      λ told.
          let content = g.D.Disk.content own.disk in
          let after = c.settle.new.disk in
          let is = doubtful_of roots own.map plan own.doubt content (g.D.Disk.loose own.disk) some (c.self.invariant.1 told) in
          let next = body_block (next_body roots.body own.map plan) in
          let stands = subst (λ (given : Standing). RootStands given next none_free content (g.D.Disk.content after)
          (g.D.Disk.loose after)) c.in_ok-settle.ensures.moved
          (c.in_ok-settle.ensures.new told (body_at is.base roots.slot) next (free_blocks is.base roots) is.base content is.gate) in
          let end = settled_ok (g.D.Disk.size own.disk) roots own.map plan content (g.D.Disk.content after) (g.D.Disk.loose own.disk)
          (g.D.Disk.loose after) fits whole planned more is stands in
          disk_next roots own.map c.apply.new.self plan None c.settle.new.standing body (g.D.Disk.content after)
          (g.D.Disk.loose after) c.in_ok-settle.ensures.moved c.apply.ensures same refl end.sure,
    )

pub returns-clause-image : goal.returns-clause-image
returns-clause-image g c told given hyp =
    let own = c.self.inside in
    let roots = roots_of own.header own.standing own.body in
    let plan = c.in-Some.plan in
    let some : own.doubt ≡ Some plan = c.in-Some.is in
    let fits = c.self.invariant.0.fits in
    let whole = c.self.invariant.0.whole in
    let planned = c.self.invariant.0.planned plan some in
    let more = c.self.invariant.0.next plan some in
    let content = g.D.Disk.content own.disk in
    let after = c.settle.new.disk in
    let is = doubtful_of roots own.map plan own.doubt content (g.D.Disk.loose own.disk) some (c.self.invariant.1 told) in
    let next = body_block (next_body roots.body own.map plan) in
    let stands = subst (λ (given : Standing). RootStands given next none_free content (g.D.Disk.content after)
    (g.D.Disk.loose after)) c.in_ok-settle.ensures.moved
    (c.in_ok-settle.ensures.new told (body_at is.base roots.slot) next (free_blocks is.base roots) is.base content is.gate) in
    let end = settled_ok (g.D.Disk.size own.disk) roots own.map plan content (g.D.Disk.content after) (g.D.Disk.loose own.disk)
    (g.D.Disk.loose after) fits whole planned more is stands in
    let same_plan : plan ≡ given = some_is plan given (sym some ∙ ap (λ (kept : Kept g.row.D.Denot). kept.doubt) c.self.view_is ∙ hyp) in
    subst (λ (one : Planned). pages_in (g.D.Disk.content after) c.apply.new.self ≡ with_changes
    (image_of g.D.Disk.content c.args.self.now) (changes_written (g.D.Disk.content c.args.self.now.disk) one)) same_plan
    (ap (pages_in (g.D.Disk.content after)) c.apply.ensures ∙ end.image
    ∙ ap (λ (kept : Kept g.row.D.Denot). with_changes (image_of g.D.Disk.content kept) (changes_written
    (g.D.Disk.content kept.disk) plan)) c.self.view_is)

pub returns-clause-images : goal.returns-clause-images
returns-clause-images g c told given hyp =
    let own = c.self.inside in
    let roots = roots_of own.header own.standing own.body in
    let plan = c.in-Some.plan in
    let some : own.doubt ≡ Some plan = c.in-Some.is in
    let fits = c.self.invariant.0.fits in
    let whole = c.self.invariant.0.whole in
    let planned = c.self.invariant.0.planned plan some in
    let more = c.self.invariant.0.next plan some in
    let content = g.D.Disk.content own.disk in
    let after = c.settle.new.disk in
    let is = doubtful_of roots own.map plan own.doubt content (g.D.Disk.loose own.disk) some (c.self.invariant.1 told) in
    let next = body_block (next_body roots.body own.map plan) in
    let same_plan : plan ≡ given = some_is plan given (sym some ∙ ap (λ (kept : Kept g.row.D.Denot). kept.doubt) c.self.view_is ∙ hyp) in
    subst (λ (one : Planned). Took (g.D.Disk.moment c.args.self.now.disk) (g.D.Disk.moment after) (λ past. Leaves
    (g.D.Disk.images_since c.args.self.now.disk past)) (λ past. Leaves (g.D.Disk.images_since after past))
    (IsOldOrNewImage (image_of g.D.Disk.content c.args.self.now) c.args.self.now.body.seq (changes_written
    (g.D.Disk.content c.args.self.now.disk) one) (c.args.self.now.body.seq + 1))) same_plan
    (subst (λ (kept : Kept g.row.D.Denot). Took (g.D.Disk.moment kept.disk) (g.D.Disk.moment after) (λ past. Leaves
    (g.D.Disk.images_since kept.disk past)) (λ past. Leaves (g.D.Disk.images_since after past))
    (IsOldOrNewImage (image_of g.D.Disk.content kept) kept.body.seq (changes_written (g.D.Disk.content kept.disk) plan)
    (kept.body.seq + 1))) c.self.view_is
    (took_saved (g.D.Disk.moment own.disk) (g.D.Disk.moment after) (g.D.Disk.images_since own.disk) (g.D.Disk.images_since after)
    (IsOldOrNew (root_of is.base roots) next (free_blocks is.base roots) is.base content)
    (IsOldOrNewImage (pages_in content own.map) own.body.seq (changes_written content plan) (own.body.seq + 1))
    (λ image saved either left. settled_either (g.D.Disk.size own.disk) roots own.map plan content image
    (g.D.Disk.loose own.disk) saved fits whole planned more is either left)
    (c.settle.ensures.images told (body_at is.base roots.slot) next (free_blocks is.base roots) is.base content is.gate)))

pub returns-in_err-settle-clause-kept : goal.returns-in_err-settle-clause-kept
returns-in_err-settle-clause-kept g c =
    let own = c.self.inside in
    let roots = roots_of own.header own.standing own.body in
    let plan = c.in-Some.plan in
    let some : own.doubt ≡ Some plan = c.in-Some.is in
    let fits = c.self.invariant.0.fits in
    let whole = c.self.invariant.0.whole in
    let planned = c.self.invariant.0.planned plan some in
    let more = c.self.invariant.0.next plan some in (
      fit_still (g.D.Disk.size own.disk)
          (g.D.Disk.size c.settle.new.disk) roots own.map own.doubt own.doubt c.settle.new.standing c.settle.ensures.size c.self.invariant.0
          (λ other there. (c.self.invariant.0.planned other there, c.self.invariant.0.next other there)),
      λ told.
          let content = g.D.Disk.content own.disk in
          let after = c.settle.new.disk in
          let is = doubtful_of roots own.map plan own.doubt content (g.D.Disk.loose own.disk) some (c.self.invariant.1 told) in
          let next = body_block (next_body roots.body own.map plan) in
          let gate = c.in_err-settle.ensures.doubt told (body_at is.base roots.slot) next
          (free_blocks is.base roots) is.base content is.gate in
          let end = settled_err roots own.map plan content (g.D.Disk.content after) (g.D.Disk.loose own.disk)
          (g.D.Disk.loose after) is gate in
          subst (λ given. IsOnDisk (roots_of own.header c.settle.new.standing own.body) own.map given (g.D.Disk.content after)
          (g.D.Disk.loose after)) (sym some)
          (disk_doubt roots own.map plan c.settle.new.standing (g.D.Disk.content after) (g.D.Disk.loose after) (ap (λ
          (given : Standing). given.slot) c.in_err-settle.ensures.stays) end.doubtful),
    )

pub returns-clause-kept : goal.returns-clause-kept
returns-clause-kept g c =
    let own = c.self.inside in
    let roots = roots_of own.header own.standing own.body in
    let plan = c.in-Some.plan in
    let some : own.doubt ≡ Some plan = c.in-Some.is in
    let fits = c.self.invariant.0.fits in
    let whole = c.self.invariant.0.whole in
    let planned = c.self.invariant.0.planned plan some in
    let more = c.self.invariant.0.next plan some in
    let body : Body = record { seq = own.body.seq + 1; maps = c.maps.result } in
    let same : body ≡ next_body roots.body own.map plan = ap (λ
    (maps : List ℕ). record { seq = own.body.seq + 1; maps = maps }) c.maps.ensures in (
      fit_next (g.D.Disk.size own.disk)
          (g.D.Disk.size c.settle.new.disk) roots own.map c.apply.new.self plan None c.settle.new.standing body c.settle.ensures.size fits whole planned more c.apply.ensures same refl,
      λ told.
          let content = g.D.Disk.content own.disk in
          let after = c.settle.new.disk in
          let is = doubtful_of roots own.map plan own.doubt content (g.D.Disk.loose own.disk) some (c.self.invariant.1 told) in
          let next = body_block (next_body roots.body own.map plan) in
          let stands = subst (λ (given : Standing). RootStands given next none_free content (g.D.Disk.content after)
          (g.D.Disk.loose after)) c.in_ok-settle.ensures.moved
          (c.in_ok-settle.ensures.new told (body_at is.base roots.slot) next (free_blocks is.base roots) is.base content is.gate) in
          let end = settled_ok (g.D.Disk.size own.disk) roots own.map plan content (g.D.Disk.content after) (g.D.Disk.loose own.disk)
          (g.D.Disk.loose after) fits whole planned more is stands in
          disk_next roots own.map c.apply.new.self plan None c.settle.new.standing body (g.D.Disk.content after)
          (g.D.Disk.loose after) c.in_ok-settle.ensures.moved c.apply.ensures same refl end.sure,
    )

pub returns-clause-size : goal.returns-clause-size
returns-clause-size g c =
    ap page_count c.apply.ensures ∙ ap (λ (long : ℕ). long - c.self.inside.map.first_page) (plan_long c.self.inside.map c.in-Some.plan)
    ∙ ap (λ (kept : Kept g.row.D.Denot). page_count kept.held) c.self.view_is

pub returns-clause-room : goal.returns-clause-room
returns-clause-room g c given hyp =
    let own = c.self.inside in
    let roots = roots_of own.header own.standing own.body in
    let plan = c.in-Some.plan in
    let some : own.doubt ≡ Some plan = c.in-Some.is in
    let whole = c.self.invariant.0.whole in
    let planned = c.self.invariant.0.planned plan some in
    let same_plan : plan ≡ given = some_is plan given (sym some ∙ ap (λ (kept : Kept g.row.D.Denot). kept.doubt) c.self.view_is ∙ hyp) in
    ap room_of c.apply.ensures ∙ rooms_follow_plans own.map plan whole.blocks planned
    ∙ ap (λ (kept : Kept g.row.D.Denot). room_after (moved plan.pages) (room_of kept.held)) c.self.view_is
    ∙ ap (λ (one : Planned). room_after (moved one.pages) (room_of c.args.self.now.held)) same_plan

pub returns-clause-frames : goal.returns-clause-frames
returns-clause-frames g c given hyp =
    let own = c.self.inside in
    let plan = c.in-Some.plan in
    let some : own.doubt ≡ Some plan = c.in-Some.is in
    let whole = c.self.invariant.0.whole in
    let planned = c.self.invariant.0.planned plan some in
    let same_plan : plan ≡ given = some_is plan given (sym some ∙ ap (λ (kept : Kept g.row.D.Denot). kept.doubt) c.self.view_is ∙ hyp) in
    subst (λ (one : Planned). OthersKeepFrames (moved one.pages) c.args.self.now.held c.apply.new.self) same_plan
    (subst (λ (kept : Kept g.row.D.Denot). OthersKeepFrames (moved plan.pages) kept.held c.apply.new.self) c.self.view_is
    (λ page others. ap (λ held. frame_of_page held page) c.apply.ensures ∙ others_stay own.map plan page whole.blocks planned others))
