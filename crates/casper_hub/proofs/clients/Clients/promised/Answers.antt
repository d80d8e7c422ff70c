use Rattle.std.proofs.Common.{◌≡◌, ◌+◌, Option, ap, sym, ◌∙◌, arith}
use Rattle.casper_hub.specs.declared.clients.Place.{Place}
use Rattle.casper_hub.specs.HubView.{cap_of}
use Rattle.casper_hub.specs.Places.{shown_place}
use Rattle.casper_hub.proofs.ShownPlaces.{caps_more, none_at}
use Rattle.casper_hub.proofs.clients.Clients.promised.Goals as goal
use Rattle.casper_hub.proofs.clients.Clients.promised.Goals.{in-Some, in_default}

pub overflow_add-promised : goal.overflow_add-promised
overflow_add-promised c = omega arith

pub loop-place-preserved : goal.loop-place-preserved
loop-place-preserved c = elim c.match-place.branch [
  | in-Some w ↦ record {
    shown = c.loop-place.invariant.shown;
    places = c.loop-place.invariant.places;
    sum = w.promised-is
        ∙ caps_more c.deref-place-items.result.now c.args.self.now c.loop-place.place-index c.place-item.result c.loop-place.promised w.in-Some.client.cap
        c.loop-place.invariant.shown c.loop-place-test.true c.place-item.is c.loop-place.invariant.sum
        (ap (λ (o : Option Place). cap_of (shown_place o)) w.in-Some.is);
    few = omega arith;
  }
  | in_default w ↦ record {
    shown = c.loop-place.invariant.shown;
    places = c.loop-place.invariant.places;
    sum =
        let nothing : c.loop-place.promised + 0 ≡ c.loop-place.promised = omega arith in
        w.promised-is ∙ sym nothing
        ∙ caps_more c.deref-place-items.result.now c.args.self.now c.loop-place.place-index c.place-item.result c.loop-place.promised 0
        c.loop-place.invariant.shown c.loop-place-test.true c.place-item.is c.loop-place.invariant.sum
        (ap (λ (o : Option Place). cap_of (shown_place o)) (none_at c.place-item.result w.in_default.not-Some));
    few = omega arith;
  }
]
