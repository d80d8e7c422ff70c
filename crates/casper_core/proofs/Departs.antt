use Rattle.std.proofs.Common.{◌≡◌, refl, ap, ◌∙◌}
use Rattle.std.specs.Prelude.{Option, None, Some}
use Rattle.casper_model.specs.declared.reply.Served.TheVariants as served
use Rattle.casper_model.specs.Own as machine
use Rattle.casper_model.specs.Client.{Fallen}
use Rattle.casper_model.specs.Stabilisation.{Stabilisation}
use Rattle.casper_model.specs.Shared.{Shared, fallen_at}
use Rattle.casper_model.specs.Both.{Both}
use Rattle.casper_model.specs.Opening.{handed_in_to, begun, given_up, gathering_of}
use Rattle.casper_model.specs.Leave.{depart, departed_by}
use Rattle.casper_core.proofs.Acquires.{opened_capacity}

-- What a client's departure leaves of its own part.

-- a client that departs has not fallen
up_by : (shared : Shared) (own : machine.Own) (fallen : Option Fallen) → fallen_at shared own.who ≡ fallen → served.Ok ≡ (departed_by shared own fallen).reply
    → fallen_at shared own.who ≡ None
up_by shared own None is reply = is
up_by shared own (Some fallen) is reply = cc

pub up_as_it_departs : (shared : Shared) (own : machine.Own) → served.Ok ≡ (depart shared own).reply → fallen_at shared own.who ≡ None
up_as_it_departs shared own reply = up_by shared own (fallen_at shared own.who) refl reply

-- the own part of a client that has departed is blank
opened_who : (both : Both) (gathering : Option Stabilisation)
    → machine.blank (handed_in_to both gathering).own.who (handed_in_to both gathering).own.capacity ≡ machine.blank both.own.who both.own.capacity
opened_who both None = refl
opened_who both (Some gathering) = refl

pub departed_own : (shared : Shared) (own : machine.Own) → fallen_at shared own.who ≡ None → (depart shared own).own ≡ machine.blank own.who own.capacity
departed_own shared own up =
    let both = given_up (begun shared own) in
    ap (λ fallen. (departed_by shared own fallen).own) up ∙ opened_who both (gathering_of both.shared both.own.who)

-- a departure leaves the capacity
departed_capacity : (shared : Shared) (own : machine.Own) (fallen : Option Fallen) → (departed_by shared own fallen).own.capacity ≡ own.capacity
departed_capacity shared own None = opened_capacity shared own
departed_capacity shared own (Some fallen) = refl

pub depart_capacity : (shared : Shared) (own : machine.Own) → (depart shared own).own.capacity ≡ own.capacity
depart_capacity shared own = departed_capacity shared own (fallen_at shared own.who)
