use Rattle.std.proofs.Common.{◌≡◌, ◌<◌, ◌∙◌, Option, None, Some, length, map, ap, sym, arith}
use Rattle.casper_hub.specs.HubView.{ClientView, felled}
use Rattle.casper_hub.specs.Places.{shown_fall, shown_place}
use Rattle.casper_hub.specs.declared.clients.Place.{Place}
use Rattle.casper_hub.proofs.ShownPlaces.{shown_changed, none_at}
use Rattle.casper_hub.proofs.clients.Clients.fell.Goals as goal
use Rattle.casper_hub.proofs.clients.Clients.fell.Goals.{in-Some, in_default}

pub returns : goal.returns
returns c =
    let within : c.number.result < length c.self.inside.places.items = omega (arith, c.self.invariant) in
    let change : Option ClientView → Option ClientView = felled (shown_fall c.args.fall) in
    let read : Option Place = c.index_mut-place.result.now in
    elim c.match-place.branch [
      | in-Some w ↦
          let next : Option Place = Some (record { cap = w.in-Some.client.cap; asks = w.none-client.result; kept = w.in-Some.client.kept; fall = Some c.args.fall }) in
          let same : shown_place next ≡ change (shown_place read) =
          ap (λ asks. Some (record { cap = w.in-Some.client.cap; asks = asks; kept = w.in-Some.client.kept; fallen = Some (shown_fall c.args.fall) })) w.none-client.ensures
          ∙ ap (λ (o : Option Place). change (shown_place o)) (sym w.in-Some.is) in
          ap (λ inside. map shown_place inside.places.items) w.self-inside-is
          ∙ shown_changed c.self.inside.places.items c.args.self.now c.number.result c.args.who read next change
          c.self.view_is c.number.ensures.number within c.index_mut-place.ensures.value same
      | in_default w ↦
          let none : read ≡ None = none_at read w.in_default.not-Some in
          let same : shown_place read ≡ change (shown_place read) = ap shown_place none ∙ ap (λ (o : Option Place). change (shown_place o)) (sym none) in
          ap (λ inside. map shown_place inside.places.items) w.self-inside-is
          ∙ shown_changed c.self.inside.places.items c.args.self.now c.number.result c.args.who read read change
          c.self.view_is c.number.ensures.number within c.index_mut-place.ensures.value same
    ]
