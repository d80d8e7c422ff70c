use Rattle.std.proofs.Common.{◌∙◌, ◌-◌, ap, sym, nat_eq, length}
use Rattle.std.specs.Option.{option_map}
use Rattle.std.specs.Map.Iter.{deref_pair}
use Rattle.lru.specs.LruCache.{put_entries}
use Rattle.casper_frames.specs.Keeping.{frame_of, kept_with, oldest}
use Rattle.casper_frames.proofs.Steps.{Leads, keeping_of, exchanged, oldest-last}
use Rattle.casper_frames.proofs.StoredLemmas.{stored-place}
use Rattle.casper_frames.proofs.clean_frames.CleanFrames.exchange.Goals as goal

pub replace-requires : goal.replace-requires
replace-requires c =
    let entries = c.self.inside.index.entries in
    stored-place c.self.inside.frames entries (length entries - 1) (c.unwrap.result.0.now, c.unwrap.result.1.now) c.self.invariant.1
    (sym c.peek_lru.ensures ∙ ap (option_map deref_pair) c.unwrap.ensures)

step : (c : goal.After-replace) →
    Leads c.self.inside.index.cap c.replace.new.frames (put_entries nat_eq c.self.inside.index c.args.page c.unwrap.result.1.now)
    (kept_with c.args.page c.args.frame (keeping_of c.self.inside.index.cap c.self.inside.frames c.self.inside.index.entries))
step c =
    exchanged c.args.page c.unwrap.result.0.now c.unwrap.result.1.now c.args.frame c.self.inside.frames c.replace.new.frames c.self.inside.index
    c.self.invariant
    (ap (λ k. frame_of c.args.page k.kept) c.self.view_is ∙ c.requires.absent)
    (ap (λ k. length k.kept) c.self.view_is ∙ c.requires.full ∙ sym (ap (λ k. k.bound) c.self.view_is))
    (sym c.peek_lru.ensures ∙ ap (option_map deref_pair) c.unwrap.ensures)
    c.replace.ensures

pub invariant_of-self : goal.invariant_of-self
invariant_of-self c = rw c.in-Ok.ensures.entries (step c).holds

pub returns-in-Ok-clause-kept : goal.returns-in-Ok-clause-kept
returns-in-Ok-clause-kept c =
    let shows = (step c).shows ∙ ap (λ k. kept_with c.args.page c.args.frame k) c.self.view_is in
    rw c.in-Ok.ensures.entries (λ i. record { bound = (c.self.view_is i).bound; kept = shows i })

pub returns-in-Ok-clause-oldest : goal.returns-in-Ok-clause-oldest
returns-in-Ok-clause-oldest c =
    sym (ap (λ k. oldest k.kept) c.self.view_is) ∙
    oldest-last c.unwrap.result.0.now c.unwrap.result.1.now c.self.inside.frames c.self.inside.index.entries
    (sym c.peek_lru.ensures ∙ ap (option_map deref_pair) c.unwrap.ensures)

pub returns-in-Ok-clause-sound : goal.returns-in-Ok-clause-sound
returns-in-Ok-clause-sound c = rw c.in-Ok.ensures.entries (step c).holds.0
