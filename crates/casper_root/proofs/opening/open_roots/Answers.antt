use Rattle.std.proofs.Common.{◌≡◌, ◌+◌, ◌/◌, inl, sym, arith}
use Rattle.casper_root.proofs.OpeningLemmas.{handed_on}
use Rattle.casper_root.proofs.PartLemmas.{header_refused, root_refused, root_found}
use Rattle.casper_root.proofs.opening.open_roots.Goals as goal

pub returns-in_err-header-clause-roots : goal.returns-in_err-header-clause-roots
returns-in_err-header-clause-roots g c told =
    let result = c.from_residual-in_err-header.result in
    let why = c.in_err-header.field-0.0 in
    header_refused (g.D.Disk.content c.args.disk.now) c.open_header.result result why c.in_err-header.was
    (handed_on result why c.from_residual-in_err-header.ensures.1) (c.open_header.ensures.header told)

pub returns-in_err-root-clause-roots : goal.returns-in_err-root-clause-roots
returns-in_err-root-clause-roots g c told =
    let blocks = g.D.Disk.content c.args.disk.now in
    let header = c.in_ok-header.header in
    let result = c.from_residual-in_err-root.result in
    let why = c.in_err-root.field-0.0 in
    let count : c.div_ceil.result ≡ (header.pages + 1023) / 1024 = omega (arith, c.div_ceil.ensures) in
    root_refused blocks (g.D.Disk.content c.open_header.new.disk) c.open_header.result header c.div_ceil.result c.open_pair.result result why
    c.in_ok-header.was (c.open_header.ensures.header told) (c.open_header.ensures.read told).same_content count c.in_err-root.was
    (handed_on result why c.from_residual-in_err-root.ensures.1) (c.open_pair.ensures.root told)

pub returns-clause-roots : goal.returns-clause-roots
returns-clause-roots g c told =
    let blocks = g.D.Disk.content c.args.disk.now in
    let header = c.in_ok-header.header in
    let root = c.in_ok-root.root in
    let count : c.div_ceil.result ≡ (header.pages + 1023) / 1024 = omega (arith, c.div_ceil.ensures) in
    inl (sym (root_found blocks (g.D.Disk.content c.open_header.new.disk) c.open_header.result header c.div_ceil.result c.open_pair.result root
    c.in_ok-header.was (c.open_header.ensures.header told) (c.open_header.ensures.read told).same_content count c.in_ok-root.was (c.open_pair.ensures.root told)))
