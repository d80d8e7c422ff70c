use Rattle.std.specs.Prelude.{ℕ, List, [], ◌∷◌, ◌++◌, not, cond, count_by, filter, length, Option, None, Some}
use Rattle.casper_words.specs.Crew.{has_member}
use Rattle.casper_trail.specs.declared.item.Item.{Item}
use Rattle.casper_trail.specs.declared.item.Item.TheVariants as item
use Rattle.casper_trail.specs.declared.mark.Mark.TheVariants.{Rollback}
use Rattle.casper_trail.specs.Calls.{is_call_of}
use Rattle.casper_trail.specs.Parts.{live_entries, open_entries}
use Rattle.casper_trail.specs.Association.{association_of}
use Rattle.casper_model.specs.declared.reply.Loss.{Loss}
use Rattle.casper_model.specs.declared.reply.Loss.TheVariants.{Lost, Noted, Already}
use Rattle.casper_model.specs.Client.{Client, Fallen}
use Rattle.casper_model.specs.Stabilisation.{Stabilisation, is_gathering, with_noted}
use Rattle.casper_model.specs.Shared.{Shared, fallen_at, each_client, change_stabilisation}
use Rattle.casper_model.specs.Both.{Changed}
use Rattle.casper_model.specs.Frozen.{stabilisation_of}

-- how many recorded reads and writes of a client a rollback after these items drops
abbrev pub dropped_of : List Item → ℕ → ℕ
dropped_of items who = count_by (is_call_of who) (open_entries items)

-- a client that falls by a mark after these items: its rights and asks are taken away
abbrev pub fallen_behind : List Item → ℕ → Client → Client
fallen_behind items who client = record client {
  rights = [];
  asks = [];
  fallen = Some (record { mark = length items; dropped = dropped_of items who; seen = live_entries items });
}

-- the association of a lost client rolled back: the mark is recorded, each live member falls, and a stabilisation of
-- theirs ends with no outcome
abbrev pub rolled_back : Shared → ℕ → Shared
rolled_back shared lost =
    let members = association_of shared.trail lost in
    let after = each_client (λ who client. cond (has_member who members) (fallen_behind shared.trail who client) client) shared in
    record after {
      trail = shared.trail ++ item.Mark (Rollback lost members) ∷ [];
      stabilisations = filter (λ one. not (has_member one.lead members)) shared.stabilisations;
    }

-- the loss of a client that is not fallen, with so many unrecorded calls: noted where its association is sealed or in
-- doubt, and otherwise its association is rolled back at once
abbrev pub lost_in : Shared → ℕ → ℕ → Option Stabilisation → Changed Loss
lost_in shared who unrecorded None = record { reply = Lost (length shared.trail) unrecorded; shared = rolled_back shared who }
lost_in shared who unrecorded (Some one) =
    cond (is_gathering one.phase)
    (record { reply = Lost (length shared.trail) unrecorded; shared = rolled_back shared who })
    (record { reply = Noted one.lead unrecorded; shared = change_stabilisation one.lead (with_noted who) shared })

abbrev pub loss_of : Shared → ℕ → ℕ → Changed Loss
loss_of shared who unrecorded = lost_in shared who unrecorded (stabilisation_of shared who)

abbrev pub lose_by : Shared → ℕ → Option Fallen → Changed Loss
lose_by shared who (Some fallen) = record { reply = Already fallen.mark; shared = shared }
lose_by shared who None = loss_of shared who 0

-- a live client is declared lost by another. It stays live
abbrev pub lose : Shared → ℕ → Changed Loss
lose shared who = lose_by shared who (fallen_at shared who)
