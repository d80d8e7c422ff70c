use Rattle.std.proofs.Common.{◌∙◌, ap, sym, nat_eq}
use Rattle.lru.specs.LruCache.{promoted}
use Rattle.casper_frames.specs.Keeping.{frame_of, kept_with}
use Rattle.casper_frames.proofs.Steps.{Leads, keeping_of, replaced, absent-now, kept-now, not_both}
use Rattle.casper_frames.proofs.StoredLemmas.{stored-at, not_there}
use Rattle.casper_frames.proofs.clean_frames.CleanFrames.keep.Goals as goal

pub replace-requires : goal.replace-requires
replace-requires c =
    stored-at c.self.inside.frames (nat_eq c.args.page) c.self.inside.index.entries c.in-Some.key c.self.invariant.1
    (sym c.peek.ensures ∙ sym c.copied.ensures ∙ c.in-Some.is)

step : (c : goal.After-replace) →
    Leads c.self.inside.index.cap c.replace.new.frames (promoted (nat_eq c.args.page) c.self.inside.index.entries)
    (kept_with c.args.page c.args.frame (keeping_of c.self.inside.index.cap c.self.inside.frames c.self.inside.index.entries))
step c =
    replaced c.self.inside.index.cap c.args.page c.in-Some.key c.args.frame c.self.inside.frames c.replace.new.frames c.self.inside.index.entries
    c.self.invariant (sym c.peek.ensures ∙ sym c.copied.ensures ∙ c.in-Some.is) c.replace.ensures

pub invariant_of-self : goal.invariant_of-self
invariant_of-self c = rw c.promote.ensures.entries (step c).holds

pub returns-in-Some-clause-kept : goal.returns-in-Some-clause-kept
returns-in-Some-clause-kept c =
    let shows = (step c).shows ∙ ap (λ k. kept_with c.args.page c.args.frame k) c.self.view_is in
    rw c.promote.ensures.entries (λ i. record { bound = (c.self.view_is i).bound; kept = shows i })

pub returns-in-Some-clause-full : goal.returns-in-Some-clause-full
returns-in-Some-clause-full c none full =
    absurd (not_both (frame_of c.args.page c.args.self.now.kept) none
    (kept-now c.args.page c.in-Some.key c.self.inside.index.cap c.self.inside.frames c.self.inside.index.entries c.args.self.now
    c.self.invariant.1 (sym c.peek.ensures ∙ sym c.copied.ensures ∙ c.in-Some.is) c.self.view_is))

pub returns-in-Some-clause-sound : goal.returns-in-Some-clause-sound
returns-in-Some-clause-sound c = rw c.promote.ensures.entries (step c).holds.0

pub add-requires-clause-absent : goal.add-requires-clause-absent
add-requires-clause-absent c =
    absent-now c.args.page c.self.inside.index.cap c.self.inside.frames c.self.inside.index.entries c.args.self.now
    (sym c.peek.ensures ∙ sym c.copied.ensures ∙ c.in_default.is) c.self.view_is

pub returns-then-len-get-clause-succeeds : goal.returns-then-len-get-clause-succeeds
returns-then-len-get-clause-succeeds c is =
    absurd (not_there (frame_of c.args.page c.args.self.now.kept)
    (absent-now c.args.page c.self.inside.index.cap c.self.inside.frames c.self.inside.index.entries c.args.self.now
    (sym c.peek.ensures ∙ sym c.copied.ensures ∙ c.in_default.is) c.self.view_is) is)

pub exchange-requires-clause-absent : goal.exchange-requires-clause-absent
exchange-requires-clause-absent c =
    absent-now c.args.page c.self.inside.index.cap c.self.inside.frames c.self.inside.index.entries c.args.self.now
    (sym c.peek.ensures ∙ sym c.copied.ensures ∙ c.in_default.is) c.self.view_is

pub returns-clause-replaced : goal.returns-clause-replaced
returns-clause-replaced c is =
    absurd (not_there (frame_of c.args.page c.args.self.now.kept)
    (absent-now c.args.page c.self.inside.index.cap c.self.inside.frames c.self.inside.index.entries c.args.self.now
    (sym c.peek.ensures ∙ sym c.copied.ensures ∙ c.in_default.is) c.self.view_is) is)

pub returns-clause-succeeds : goal.returns-clause-succeeds
returns-clause-succeeds c is =
    absurd (not_there (frame_of c.args.page c.args.self.now.kept)
    (absent-now c.args.page c.self.inside.index.cap c.self.inside.frames c.self.inside.index.entries c.args.self.now
    (sym c.peek.ensures ∙ sym c.copied.ensures ∙ c.in_default.is) c.self.view_is) is)
