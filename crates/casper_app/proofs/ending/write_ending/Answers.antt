use Rattle.std.proofs.Common.{◌≡◌, refl, sym, ap, inl, [], ◌∙◌}
use Rattle.casper_io.proofs.Known.{append_known-nil}
use Rattle.casper_app.specs.declared.cause.Cause.TheVariants as cause
use Rattle.casper_app.specs.declared.end.End.TheVariants as end
use Rattle.casper_app.proofs.ending.write_ending.Goals as goal

pub returns-in-Stopped-Write-clause-ends : goal.returns-in-Stopped-Write-clause-ends
returns-in-Stopped-Write-clause-ends g c =
    let write : c.in-Stopped-Write.field-0 ≡ cause.Write = rw c.in-Stopped-Write.is at c.in-Stopped-Write.field-0-is in
    let meant : c.args.meant ≡ end.Stopped cause.Write = c.in-Stopped-Write.is ∙ ap end.Stopped write in
    record {
      said = end.Stopped cause.Write;
      said_is = inl (sym meant);
      out = [];
      taken = sym (append_known-nil (g.K.Sink.taken c.args.sink.now));
      written = inl (meant, refl);
    }
