use Rattle.std.specs.Prelude.{length, Option, None, Some}
use Rattle.casper_model.specs.declared.reply.Served.{Served}
use Rattle.casper_model.specs.declared.reply.Served.TheVariants as served
use Rattle.casper_model.specs.declared.reply.Loss.{Loss}
use Rattle.casper_model.specs.declared.reply.Loss.TheVariants.{Lost}
use Rattle.casper_model.specs.Client.{Fallen}
use Rattle.casper_model.specs.Stabilisation.{without}
use Rattle.casper_model.specs.Shared.{Shared, fallen_at, place_client, each_stabilisation}
use Rattle.casper_model.specs.Own.{Own, blank}
use Rattle.casper_model.specs.Both.{Both, Changed, Turned, turned}
use Rattle.casper_model.specs.Opening.{told_of_fall, opened}
use Rattle.casper_model.specs.Loss.{loss_of}

abbrev pub served_by : Shared → Own → Option Fallen → Turned Served
served_by shared own (Some fallen) = turned (served.RolledBack fallen.mark fallen.dropped (length own.pending)) (told_of_fall shared own)
served_by shared own None = turned served.Ok (opened shared own)

-- a turn that does no more than open
abbrev pub serve : Shared → Own → Turned Served
serve shared own = served_by shared own (fallen_at shared own.who)

-- the client absent: its cap, rights, asks and kept outcome are gone, and it waits for no outcome
abbrev pub absent : Both → Both
absent both = record {
  shared = each_stabilisation (λ one. record one { askers = without both.own.who one.askers }) (place_client both.own.who None both.shared);
  own = blank both.own.who both.own.capacity;
}

abbrev pub departed_by : Shared → Own → Option Fallen → Turned Served
departed_by shared own (Some fallen) = turned (served.RolledBack fallen.mark fallen.dropped (length own.pending)) (told_of_fall shared own)
departed_by shared own None = turned served.Ok (absent (opened shared own))

-- a turn in which a client gives up every page and departs. One that had fallen stays live
abbrev pub depart : Shared → Own → Turned Served
depart shared own = departed_by shared own (fallen_at shared own.who)

-- the loss of the client whose own part this is
abbrev pub vanished_by : Shared → Own → Option Fallen → Changed Loss
vanished_by shared own (Some fallen) = record { reply = Lost fallen.mark (length own.pending); shared = shared }
vanished_by shared own None = loss_of shared own.who (length own.pending)

-- a client vanishes: it is lost, its pending calls with it, and it is absent. For one that had fallen its mark stands
abbrev pub vanish : Shared → Own → Turned Loss
vanish shared own =
    let loss = vanished_by shared own (fallen_at shared own.who) in
    turned loss.reply (absent (record { shared = loss.shared; own = own }))
