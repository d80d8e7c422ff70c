use Rattle.std.specs.Prelude.{ℕ, ◌==◌, cond, min, Option, None, Some}
use Rattle.casper_trail.specs.TrailView.{entry_count}
use Rattle.casper_model.specs.declared.reply.JoinRefusal.{JoinRefusal}
use Rattle.casper_model.specs.declared.reply.JoinRefusal.TheVariants.{Busy, TrailFull}
use Rattle.casper_model.specs.Client.{Client, new_client}
use Rattle.casper_model.specs.Shared.{Shared, client_at, place_client}
use Rattle.casper_model.specs.Own.{Own, blank}
use Rattle.casper_model.specs.Both.{Turned}
use Rattle.casper_model.specs.Room.{most_cap, free_room}

-- an absent client joins where there is free room, and is promised the most, or as much as there is
abbrev pub joined : Shared → Own → ℕ → Turned (Option JoinRefusal)
joined shared own free =
    cond (free == 0) (record { reply = Some (TrailFull (entry_count shared.trail)); shared = shared; own = own })
    (record {
      reply = None;
      shared = place_client own.who (Some (new_client (min most_cap free))) shared;
      own = record (blank own.who own.capacity) { cap = min most_cap free };
    })

abbrev pub joined_by : Shared → Own → Option Client → Turned (Option JoinRefusal)
joined_by shared own (Some client) = record { reply = Some Busy; shared = shared; own = own }
joined_by shared own None = joined shared own (free_room shared)

-- a client joins. The reply is the refusal, if there is one
abbrev pub join : Shared → Own → Turned (Option JoinRefusal)
join shared own = joined_by shared own (client_at shared own.who)
