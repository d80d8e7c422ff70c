use Rattle.std.proofs.Common.{◌≡◌, ◌<◌, ◌≤◌, length, inl, ap, sym, ◌∙◌, ◌+◌, arith}
use Rattle.std.specs.Prelude.{Err}
use Rattle.casper_root.specs.declared.fault.OpenFault.TheVariants as fault
use Rattle.casper_root.proofs.OpeningLemmas.{refused_short, refused_header, refused_room, has_room, handed_on}
use Rattle.casper_root.proofs.opening.open_header.Goals as goal

pub returns-then-have-lt5-clause-header : goal.returns-then-have-lt5-clause-header
returns-then-have-lt5-clause-header g c told =
    let blocks = g.D.Disk.content c.args.disk.now in
    let count : c.blocks-have.result ≡ length blocks = c.blocks-have.ensures ∙ g.met.D.Disk.sized c.args.disk.now told in
    let short : length blocks < 5 = omega arith in
    inl (ap (λ have. Err (fault.Short 5 have)) count ∙ sym (refused_short blocks short))

pub returns-in_err-header-clause-header : goal.returns-in_err-header-clause-header
returns-in_err-header-clause-header g c told =
    let blocks = g.D.Disk.content c.args.disk.now in
    let count : c.blocks-have.result ≡ length blocks = c.blocks-have.ensures ∙ g.met.D.Disk.sized c.args.disk.now told in
    let enough : 5 ≤ length blocks = omega arith in
    let refused = refused_header blocks c.read.new.into c.header_from.result c.in_err-header.field-0.0 enough (c.in_ok-read.ensures.block told) c.header_from.ensures.header c.in_err-header.was in
    inl (handed_on c.from_residual-in_err-header.result c.in_err-header.field-0.0 c.from_residual-in_err-header.ensures.1 ∙ refused)

pub returns-then-have-need-clause-header : goal.returns-then-have-need-clause-header
returns-then-have-need-clause-header g c told =
    let blocks = g.D.Disk.content c.args.disk.now in
    let count : c.blocks-have.result ≡ length blocks = c.blocks-have.ensures ∙ g.met.D.Disk.sized c.args.disk.now told in
    let enough : 5 ≤ length blocks = omega arith in
    let short : length blocks < 5 + c.in_ok-header.header.frames = omega arith in
    let refused = refused_room blocks c.read.new.into c.header_from.result c.in_ok-header.header enough (c.in_ok-read.ensures.block told) c.header_from.ensures.header c.in_ok-header.was short in
    inl (ap (λ have. Err (fault.Short (5 + c.in_ok-header.header.frames) have)) count ∙ refused)

pub returns-clause-header : goal.returns-clause-header
returns-clause-header g c told =
    let blocks = g.D.Disk.content c.args.disk.now in
    let count : c.blocks-have.result ≡ length blocks = c.blocks-have.ensures ∙ g.met.D.Disk.sized c.args.disk.now told in
    let enough : 5 ≤ length blocks = omega arith in
    let room : 5 + c.in_ok-header.header.frames ≤ length blocks = omega arith in
    inl (has_room blocks c.read.new.into c.header_from.result c.in_ok-header.header enough (c.in_ok-read.ensures.block told) c.header_from.ensures.header c.in_ok-header.was room)
