use Rattle.std.proofs.Common.{sym, subst, arith}
use Rattle.std.specs.Prelude.{None}
use Rattle.casper_root.specs.declared.roots.Roots.{Roots}
use Rattle.casper_map.specs.Mapped.{Mapped}
use Rattle.casper_stable.specs.Formatted.{new_roots, new_map}
use Rattle.casper_stable.specs.Opened.{OpenTo}
use Rattle.casper_stable.specs.Sound.{IsFit}
use Rattle.casper_stable.proofs.OpeningLemmas.{fit_sure}
use Rattle.casper_stable.proofs.FormattingLemmas.{new_opened, new_fits, new_whole}
use Rattle.casper_stable.proofs.formatting.make.Goals as goal

pub returns-clause-found : goal.returns-clause-found
returns-clause-found g c told =
    let after = c.write_new.new.disk in
    let content = g.D.Disk.content after in
    let header = c.args.header in
    let fits = c.in_ok-check_sizes.ensures.fits in
    let sized = g.met.D.Disk.sized after told in
    let opens = new_opened content header fits.sizes (omega (arith, fits.room, sized, c.write_new.ensures.size, c.blocks-2.ensures))
    (c.in_ok-write_new.ensures.prepared told) (c.in_ok-write_new.ensures.opened told) in
    subst (λ (roots : Roots). OpenTo content roots c.in_ok-found.found.map) (sym c.in_ok-found.ensures.root)
    (subst (λ (held : Mapped). OpenTo content (new_roots header) held) (sym c.in_ok-found.ensures.map) opens)

pub returns-clause-fits : goal.returns-clause-fits
returns-clause-fits g c =
    let size = g.D.Disk.size c.write_new.new.disk in
    let header = c.args.header in
    let fits = c.in_ok-check_sizes.ensures.fits in
    let is = fit_sure size (new_roots header) (new_map header)
    (new_fits size header fits.sizes (omega (arith, fits.room, c.write_new.ensures.size, c.blocks-2.ensures))) (new_whole header) in
    subst (λ (roots : Roots). IsFit size roots c.in_ok-found.found.map None) (sym c.in_ok-found.ensures.root)
    (subst (λ (held : Mapped). IsFit size (new_roots header) held None) (sym c.in_ok-found.ensures.map) is)
