use Rattle.std.specs.Prelude.{◌≡◌, ◌≢◌, ℕ, List, [], true}
use Rattle.casper_words.specs.Crew.{has_member}
use Rattle.casper_model.specs.Stabilisation.{Stabilisation, Gathering, Sealed, handed_in_by}
use Rattle.casper_gather.specs.Bookkeeping.{begun_by}

-- a stabilisation that awaits a member gathers
abbrev pub BegunGathers : Type 0
BegunGathers = (lead member : ℕ) (awaited : List ℕ) → has_member member awaited ≡ true → (begun_by lead awaited).phase ≡ Gathering

-- and one that awaits nobody is sealed
abbrev pub BegunSealed : Type 0
BegunSealed = (lead : ℕ) → (begun_by lead []).phase ≡ Sealed

-- while another member has to hand in its pages it gathers
abbrev pub GathersForTheOthers : Type 0
GathersForTheOthers = (one : Stabilisation) (who member : ℕ) → has_member member one.awaited ≡ true → member ≢ who
    → ((handed_in_by who one).phase ≡ Gathering) × (has_member member ((handed_in_by who one).awaited) ≡ true)

-- the last member that hands in its pages seals it
abbrev pub LastMemberSeals : Type 0
LastMemberSeals = (one : Stabilisation) (who : ℕ) → ((member : ℕ) → has_member member one.awaited ≡ true → member ≡ who)
    → ((handed_in_by who one).phase ≡ Sealed) × ((handed_in_by who one).awaited ≡ [])
