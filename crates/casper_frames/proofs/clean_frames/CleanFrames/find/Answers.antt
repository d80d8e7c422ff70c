use Rattle.std.proofs.Common.{◌∙◌, ap, sym, nat_eq}
use Rattle.std.specs.Option.{option_copied}
use Rattle.casper_frames.specs.Keeping.{frame_of}
use Rattle.casper_frames.proofs.StoredLemmas.{shown-absent, shown-at}
use Rattle.casper_frames.proofs.clean_frames.CleanFrames.find.Goals as goal

pub returns-in_err-key-clause-frame : goal.returns-in_err-key-clause-frame
returns-in_err-key-clause-frame c =
    ap option_copied c.from_residual.ensures ∙
    sym (shown-absent c.self.inside.frames (nat_eq c.args.page) c.self.inside.index.entries (sym c.peek.ensures ∙ ap option_copied c.in_err-key.was)) ∙
    ap (λ keeping. frame_of c.args.page keeping.kept) c.self.view_is

pub returns-clause-frame : goal.returns-clause-frame
returns-clause-frame c =
    c.get.ensures ∙
    shown-at c.self.inside.frames (nat_eq c.args.page) c.self.inside.index.entries c.in_ok-key.key.now c.self.invariant.1
    (sym c.peek.ensures ∙ ap option_copied c.in_ok-key.was) ∙
    ap (λ keeping. frame_of c.args.page keeping.kept) c.self.view_is
