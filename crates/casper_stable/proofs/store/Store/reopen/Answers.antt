use Rattle.std.proofs.Common.{◌≡◌, ◌≤◌, ap, subst, arith}
use Rattle.casper_reopen.specs.Reopening.{IsOfTheOutside}
use Rattle.casper_root.specs.declared.header.Header.{Header}
use Rattle.casper_stable.specs.Kept.{Kept}
use Rattle.casper_stable.specs.Opens.{store_of}
use Rattle.casper_stable.proofs.OpeningLemmas.{handed_on}
use Rattle.casper_stable.proofs.ReopenLemmas.{LeavesSettled, took_settled, kept_opens, none_refused, found_opens, found_fits, found_sure, header_same, opened_header, opened_version}
use Rattle.casper_stable.proofs.store.Store.reopen.Goals as goal
use Rattle.casper_stable.proofs.store.Store.reopen.Goals.{then-pages-self-via-then-pages-self, then-pages-self-via-else-pages-self+then-frames-self}

pub returns-in_err-found-clause-outside : goal.returns-in_err-found-clause-outside
returns-in_err-found-clause-outside g c told =
    let own = c.self.inside in
    let kept : Kept g.row.D.Denot = record { disk = own.disk; header = own.header; standing = own.standing; body = own.body; held = own.map; doubt = own.doubt } in
    let why = c.in_err-found.field-0.0 in
    handed_on c.from_residual.result why IsOfTheOutside c.from_residual.ensures.1
    (none_refused _ (g.D.Disk.content own.disk) why (kept_opens g.D.Disk.size g.D.Disk.tells g.D.Disk.content g.D.Disk.loose kept c.self.invariant.0 c.self.invariant.1 told)
    (c.in_err-found.ensures.refused told))

pub returns-in_err-found-clause-images : goal.returns-in_err-found-clause-images
returns-in_err-found-clause-images g c told =
    let own = c.self.inside in
    let kept : Kept g.row.D.Denot = record { disk = own.disk; header = own.header; standing = own.standing; body = own.body; held = own.map; doubt = own.doubt } in
    subst (LeavesSettled g.D.Disk.content g.D.Disk.moment g.D.Disk.images_since c.read_settled.new.disk) c.self.view_is
    (took_settled g.D.Disk.size g.D.Disk.tells g.D.Disk.content g.D.Disk.loose g.D.Disk.moment g.D.Disk.images_since kept c.read_settled.new.disk
    c.self.invariant.0 c.self.invariant.1 told (c.read_settled.ensures.images told))

pub returns-then-pages-self-clause-images : goal.returns-then-pages-self-clause-images
returns-then-pages-self-clause-images g c told =
    let own = c.self.inside in
    let kept : Kept g.row.D.Denot = record { disk = own.disk; header = own.header; standing = own.standing; body = own.body; held = own.map; doubt = own.doubt } in
    subst (LeavesSettled g.D.Disk.content g.D.Disk.moment g.D.Disk.images_since c.read_settled.new.disk) c.self.view_is
    (took_settled g.D.Disk.size g.D.Disk.tells g.D.Disk.content g.D.Disk.loose g.D.Disk.moment g.D.Disk.images_since kept c.read_settled.new.disk
    c.self.invariant.0 c.self.invariant.1 told (c.read_settled.ensures.images told))

pub returns-clause-images : goal.returns-clause-images
returns-clause-images g c told =
    let own = c.self.inside in
    let kept : Kept g.row.D.Denot = record { disk = own.disk; header = own.header; standing = own.standing; body = own.body; held = own.map; doubt = own.doubt } in
    subst (LeavesSettled g.D.Disk.content g.D.Disk.moment g.D.Disk.images_since c.read_settled.new.disk) c.self.view_is
    (took_settled g.D.Disk.size g.D.Disk.tells g.D.Disk.content g.D.Disk.loose g.D.Disk.moment g.D.Disk.images_since kept c.read_settled.new.disk
    c.self.invariant.0 c.self.invariant.1 told (c.read_settled.ensures.images told))

pub returns-then-pages-self-clause-outside : goal.returns-then-pages-self-clause-outside
returns-then-pages-self-clause-outside g c told =
    let own = c.self.inside in
    let kept : Kept g.row.D.Denot = record { disk = own.disk; header = own.header; standing = own.standing; body = own.body; held = own.map; doubt = own.doubt } in
    let content = g.D.Disk.content own.disk in
    let found = c.in_ok-found.found in
    let same : found.roots.header ≡ own.header =
    opened_header _ content (store_of content found.roots found.map)
    (kept_opens g.D.Disk.size g.D.Disk.tells g.D.Disk.content g.D.Disk.loose kept c.self.invariant.0 c.self.invariant.1 told)
    (found_opens content found.roots found.map (c.in_ok-found.ensures.found told))
    in
    let pages : found.roots.header.pages ≡ own.header.pages = ap (λ (one : Header). one.pages) same in
    let frames : found.roots.header.frames ≡ own.header.frames = ap (λ (one : Header). one.frames) same in
    elim c.then-pages-self.branch [
      | then-pages-self-via-then-pages-self w ↦ absurd (let other = w.if-pages-self.true in omega (arith, pages, other))
      | then-pages-self-via-else-pages-self+then-frames-self w ↦ absurd (let other = w.if-frames-self.true in omega (arith, frames, other))
    ]

pub invariant_of-self-2 : goal.invariant_of-self-2
invariant_of-self-2 g c =
    let own = c.self.inside in
    let found = c.in_ok-found.found in
    let same_pages = c.if-pages-self.false in
    let same_frames = c.if-frames-self.false in
    let same : found.roots.header ≡ own.header = header_same found.roots.header own.header (omega (arith, same_pages)) (omega (arith, same_frames)) in (
      found_fits (g.D.Disk.size c.read_settled.new.disk) found.roots own.header found.map same c.in_ok-found.ensures.fits,
      λ told. found_sure found.roots own.header found.map (g.D.Disk.content own.disk) (g.D.Disk.content c.read_settled.new.disk) (g.D.Disk.loose c.read_settled.new.disk)
          same (c.in_ok-found.ensures.found told) (c.read_settled.ensures.content told) (c.in_ok-found.ensures.settled told),
    )

pub returns-clause-kept : goal.returns-clause-kept
returns-clause-kept g c =
    let own = c.self.inside in
    let found = c.in_ok-found.found in
    let same_pages = c.if-pages-self.false in
    let same_frames = c.if-frames-self.false in
    let same : found.roots.header ≡ own.header = header_same found.roots.header own.header (omega (arith, same_pages)) (omega (arith, same_frames)) in (
      found_fits (g.D.Disk.size c.read_settled.new.disk) found.roots own.header found.map same c.in_ok-found.ensures.fits,
      λ told. found_sure found.roots own.header found.map (g.D.Disk.content own.disk) (g.D.Disk.content c.read_settled.new.disk) (g.D.Disk.loose c.read_settled.new.disk)
          same (c.in_ok-found.ensures.found told) (c.read_settled.ensures.content told) (c.in_ok-found.ensures.settled told),
    )

pub returns-clause-version : goal.returns-clause-version
returns-clause-version g c told =
    let own = c.self.inside in
    let kept : Kept g.row.D.Denot = record { disk = own.disk; header = own.header; standing = own.standing; body = own.body; held = own.map; doubt = own.doubt } in
    let content = g.D.Disk.content own.disk in
    let found = c.in_ok-found.found in
    subst (λ (one : Kept g.row.D.Denot). one.body.seq ≤ found.roots.body.seq) c.self.view_is
    (opened_version _ content (store_of content found.roots found.map)
    (kept_opens g.D.Disk.size g.D.Disk.tells g.D.Disk.content g.D.Disk.loose kept c.self.invariant.0 c.self.invariant.1 told)
    (found_opens content found.roots found.map (c.in_ok-found.ensures.found told)))
