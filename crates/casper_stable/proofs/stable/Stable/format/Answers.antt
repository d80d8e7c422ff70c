use Rattle.std.proofs.Common.{◌≡◌, ◌∙◌, ap, sym, subst}
use Rattle.casper_stable.specs.Formatted.{new_roots, new_map, sizes}
use Rattle.casper_stable.specs.Kept.{roots_in}
use Rattle.casper_stable.specs.Opened.{OpenTo}
use Rattle.casper_stable.proofs.FormattingLemmas.{image_new, open_new, shown_new}
use Rattle.casper_stable.proofs.stable.Stable.format.Goals as goal

pub returns-in-Ok-clause-shown : goal.returns-in-Ok-clause-shown
returns-in-Ok-clause-shown g c told =
    let store = c.stable_of.result.store in
    shown_new (g.D.Disk.content store.disk) (roots_in store) store.held (sizes c.args.pages c.args.frames)
    (c.stable_of.ensures.roots ∙ c.in-Ok.ensures.root) (c.stable_of.ensures.map ∙ c.in-Ok.ensures.map)

pub returns-in-Ok-clause-opens : goal.returns-in-Ok-clause-opens
returns-in-Ok-clause-opens g c told image now =
    let header = sizes c.args.pages c.args.frames in
    let disk = c.stable_of.result.store.disk in
    let same : disk ≡ c.make.new.disk = c.stable_of.ensures.disk in
    let opens = open_new (g.D.Disk.content c.make.new.disk) c.in-Ok.found.roots c.in-Ok.found.map header
    (c.in-Ok.ensures.found told) c.in-Ok.ensures.root c.in-Ok.ensures.map in
    image_new (g.D.Disk.content disk) image header (g.D.Disk.loose disk)
    (subst (λ blocks. OpenTo blocks (new_roots header) (new_map header)) (ap g.D.Disk.content (sym same)) opens)
    (ap g.D.Disk.loose same ∙ c.in-Ok.ensures.settled told) (g.met.D.Disk.images_agree disk image told now)
