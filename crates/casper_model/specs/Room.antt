use Rattle.std.specs.Prelude.{ℕ, ◌-◌, sum_by}
use Rattle.casper_trail.specs.TrailView.{entry_count}
use Rattle.casper_model.specs.Shared.{Shared, of_client}

-- the most entries that are promised to a client at a time
abbrev pub most_cap : ℕ
most_cap = 4100

-- how many entries are promised to all clients together
abbrev pub all_caps : Shared → ℕ
all_caps shared = sum_by (of_client 0 (λ client. client.cap)) shared.clients

-- how many entries may still be promised
abbrev pub free_room : Shared → ℕ
free_room shared = shared.limit - entry_count shared.trail - all_caps shared
