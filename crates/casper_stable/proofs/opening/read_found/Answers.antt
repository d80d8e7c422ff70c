use Rattle.casper_stable.specs.Opened.{IsRefusalOf}
use Rattle.casper_stable.specs.Opens.{opens}
use Rattle.casper_stable.proofs.OpeningLemmas.{map_refused, handed_on}
use Rattle.casper_stable.proofs.opening.read_found.Goals as goal

pub returns-in_err-map-clause-refused : goal.returns-in_err-map-clause-refused
returns-in_err-map-clause-refused g c told =
    let blocks = g.D.Disk.content c.args.disk.now in
    let why = c.in_err-map.field-0.0 in
    handed_on c.from_residual-in_err-map.result why (IsRefusalOf (opens blocks)) c.from_residual-in_err-map.ensures.1
    (map_refused blocks (g.D.Disk.content c.open_roots.new.disk) c.open_roots.result c.in_ok-roots.roots c.read_blocks.result why
    c.in_ok-roots.was (c.open_roots.ensures.roots told) (c.open_roots.ensures.read told).same_content c.in_err-map.was
    (c.read_blocks.ensures.map told))
