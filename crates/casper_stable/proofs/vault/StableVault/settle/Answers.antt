use Rattle.std.proofs.Common.{◌∙◌, refl, sym, ap, subst}
use Rattle.std.specs.Prelude.{Option, Some, option_map}
use Rattle.casper_disk.specs.Disk.{Took}
use Rattle.casper_disk.specs.Vault.{IsOldOrNewImage, changes_in, room_settled, version_settled}
use Rattle.casper_space.specs.Changes.{VaultRoom, room_after, with_changes}
use Rattle.casper_map.specs.Planned.{Planned}
use Rattle.casper_map.specs.Room.{room_of}
use Rattle.casper_stable.specs.Kept.{changes_written, doubt_of, image_of, store_room}
use Rattle.casper_stable.specs.Leaves.{Leaves}
use Rattle.casper_stable.specs.Others.{OthersKeepFrames, pages_in_doubt}
use Rattle.casper_stable.specs.OpensLemmas.{changes_pages}
use Rattle.casper_stable.proofs.VaultLemmas.{some_of, none_of, took_sure}
use Rattle.casper_stable.proofs.vault.StableVault.settle.Goals as goal

pub invariant_of-self : goal.invariant_of-self
invariant_of-self g c = record { stands = ∣ c.end_doubt.ensures.kept ∣₁ }

pub returns-then-not-in_doubt-clause-images : goal.returns-then-not-in_doubt-clause-images
returns-then-not-in_doubt-clause-images g c told =
    let kept = c.args.self.now.store in
    took_sure g.D.Disk.size g.D.Disk.tells g.D.Disk.content g.D.Disk.loose g.D.Disk.images_now g.D.Disk.moment g.D.Disk.images_since kept
    (changes_in (doubt_of g.D.Disk.content kept)) (version_settled (doubt_of g.D.Disk.content kept) kept.body.seq)
    (λ blocks is. g.met.D.Disk.images_agree kept.disk blocks told is) (λ blocks is. g.met.D.Disk.only_now kept.disk blocks told is)
    c.args.self.now.stands told (none_of kept.doubt (sym c.in_doubt.ensures ∙ c.if-not-in_doubt.true))

pub returns-in_err-end_doubt-clause-images : goal.returns-in_err-end_doubt-clause-images
returns-in_err-end_doubt-clause-images g c told =
    let kept = c.args.self.now.store in
    let after = c.end_doubt.new.self.disk in
    let found = some_of kept.doubt (sym c.in_doubt.ensures ∙ c.if-not-in_doubt.false) in
    subst (λ (doubt : Option Planned). Took (g.D.Disk.moment kept.disk) (g.D.Disk.moment after) (λ past. Leaves
    (g.D.Disk.images_since kept.disk past)) (λ past. Leaves (g.D.Disk.images_since after past))
    (IsOldOrNewImage (image_of g.D.Disk.content kept) kept.body.seq (changes_in (option_map (changes_written (g.D.Disk.content kept.disk)) doubt))
    (version_settled (option_map (changes_written (g.D.Disk.content kept.disk)) doubt) kept.body.seq))) (sym found.1)
    (c.end_doubt.ensures.images told found.0 found.1)

pub returns-clause-image : goal.returns-clause-image
returns-clause-image g c told =
    let kept = c.args.self.now.store in
    let found = some_of kept.doubt (sym c.in_doubt.ensures ∙ c.if-not-in_doubt.false) in
    c.in_ok-end_doubt.ensures.image told found.0 found.1
    ∙ sym (ap (λ (doubt : Option Planned). with_changes (image_of g.D.Disk.content kept) (changes_in (option_map (changes_written
    (g.D.Disk.content kept.disk)) doubt))) found.1)

pub returns-clause-room : goal.returns-clause-room
returns-clause-room g c told =
    let kept = c.args.self.now.store in
    let found = some_of kept.doubt (sym c.in_doubt.ensures ∙ c.if-not-in_doubt.false) in
    let some : VaultRoom → Option VaultRoom = λ room. Some room in
    ap some (c.in_ok-end_doubt.ensures.room found.0 found.1)
    ∙ sym (ap (λ (pages : _). some (room_after pages (room_of kept.held))) (changes_pages (g.D.Disk.content kept.disk) found.0.pages))
    ∙ sym (ap (λ (doubt : Option Planned). room_settled (option_map (changes_written (g.D.Disk.content kept.disk)) doubt)
    (store_room kept)) found.1)

pub returns-clause-size : goal.returns-clause-size
returns-clause-size g c = c.end_doubt.ensures.size

pub returns-clause-images : goal.returns-clause-images
returns-clause-images g c told =
    let kept = c.args.self.now.store in
    let after = c.end_doubt.new.self.disk in
    let found = some_of kept.doubt (sym c.in_doubt.ensures ∙ c.if-not-in_doubt.false) in
    subst (λ (doubt : Option Planned). Took (g.D.Disk.moment kept.disk) (g.D.Disk.moment after) (λ past. Leaves
    (g.D.Disk.images_since kept.disk past)) (λ past. Leaves (g.D.Disk.images_since after past))
    (IsOldOrNewImage (image_of g.D.Disk.content kept) kept.body.seq (changes_in (option_map (changes_written (g.D.Disk.content kept.disk)) doubt))
    (version_settled (option_map (changes_written (g.D.Disk.content kept.disk)) doubt) kept.body.seq))) (sym found.1)
    (c.end_doubt.ensures.images told found.0 found.1)

pub returns-then-not-in_doubt-clause-frames : goal.returns-then-not-in_doubt-clause-frames
returns-then-not-in_doubt-clause-frames g c page others = refl

pub returns-clause-frames : goal.returns-clause-frames
returns-clause-frames g c =
    let kept = c.args.self.now.store in
    let found = some_of kept.doubt (sym c.in_doubt.ensures ∙ c.if-not-in_doubt.false) in
    subst (λ (doubt : Option Planned). OthersKeepFrames (pages_in_doubt doubt) kept.held c.end_doubt.new.self.held) (sym found.1)
    (c.in_ok-end_doubt.ensures.frames found.0 found.1)
