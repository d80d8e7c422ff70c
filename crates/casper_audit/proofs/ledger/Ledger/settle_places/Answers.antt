use Rattle.std.proofs.Common.{◌≡◌, ◌+◌, take, List, refl, subst, arith}
use Rattle.std.proofs.lemmas.List.{take_more, take_all}
use Rattle.casper_audit.specs.declared.words.Place.{Place}
use Rattle.std.specs.List.{list_any}
use Rattle.casper_audit.specs.Opened.{is_among}
use Rattle.casper_audit.specs.Settled.{Settles, on_page}
use Rattle.casper_audit.proofs.SettleLemmas.{settled_more, settles_none}
use Rattle.casper_audit.proofs.ledger.Ledger.settle_places.Goals as goal

pub loop-place-init : goal.loop-place-init
loop-place-init c = record { settles = settles_none c.args.committed c.args.self.now c.args.self.now refl; opened = refl }

pub loop-place-preserved : goal.loop-place-preserved
loop-place-preserved c =
    settled_more c.args.committed (take c.loop-place.place-index c.args.places.now) (take (c.loop-place.place-index + 1) c.args.places.now) _ c.args.self.now c.loop-place.self c.settle_place.new.self
    (take_more c.args.places.now c.loop-place.place-index _ (omega arith)) c.loop-place.invariant c.in_ok-settle_place.ensures.settles c.in_ok-settle_place.ensures.opened

pub returns : goal.returns
returns c =
    let all : take c.loop-place.place-index c.args.places.now ≡ c.args.places.now = take_all c.loop-place.place-index c.args.places.now (omega arith) in
    record {
      settles = subst (λ (places : List Place). Settles c.args.committed (is_among places) (λ page. list_any (on_page page) places) c.args.self.now c.loop-place.self) all c.loop-place.invariant.settles;
      opened = c.loop-place.invariant.opened;
    }
