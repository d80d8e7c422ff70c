use Rattle.std.specs.Prelude.{◌≡◌, ◌≤◌, ◌+◌, ℕ, List, true, length, sum_by, Option, None, Some}
use Rattle.casper_trail.specs.declared.item.Item.{Item}
use Rattle.casper_trail.specs.TrailView.{commit_count, rollback_count}
use Rattle.casper_model.specs.Client.{Client, Fallen}
use Rattle.casper_model.specs.Leave.{vanish}
use Rattle.casper_model.specs.Own.{Own}
use Rattle.casper_model.specs.Shared.{Shared, of_client, is_live}
use Rattle.casper_turns.specs.Good.{IsGoodShared, IsGoodWith}
use Rattle.casper_turns.specs.TurnLaws.{IsTurn, IsChange}

-- Which marks may still come before memory can be taken again. A join and a client's turn may take memory; a finish, a settle
-- and a loss may not, and they alone record marks.

abbrev pub mark_count : List Item → ℕ
mark_count items = commit_count items + rollback_count items

-- a client that is not fallen has one spare mark, for its loss. A fallen one has none: it is not lost again
abbrev pub spare_of : Option Fallen → ℕ
spare_of None = 1
spare_of (Some fallen) = 0

abbrev pub spare_at : Option Client → ℕ
spare_at place = of_client 0 (λ client. spare_of client.fallen) place

-- one for each live client that is not fallen
abbrev pub spare_marks : Shared → ℕ
spare_marks shared = sum_by spare_at shared.clients

-- the marks that may come before memory can be taken again: the spare ones, and the final mark of each stabilisation
abbrev pub marks_due : Shared → ℕ
marks_due shared = spare_marks shared + length shared.stabilisations

-- no more marks are recorded than are no longer due
abbrev pub RecordsNoMore : Shared → Shared → Type 0
RecordsNoMore shared after = mark_count after.trail + marks_due after ≤ mark_count shared.trail + marks_due shared

-- a turn of a client records no mark, so it may first make room for the marks that are due after it
abbrev pub TurnsRecordNoMark : Type 0
TurnsRecordNoMark =
    (shared : Shared) (own : Own) (after : Shared) (own_after : Own) → IsTurn shared own after own_after → mark_count after.trail ≡ mark_count shared.trail

-- what is no turn of a client records no more marks than it leaves fewer due, and so does a vanishing
abbrev pub ChangesRecordNoMore : Type 0
ChangesRecordNoMore = (shared after : Shared) → IsChange shared after → IsGoodShared shared → RecordsNoMore shared after

abbrev pub VanishRecordsNoMore : Type 0
VanishRecordsNoMore =
    (shared : Shared) (own : Own) → IsGoodShared shared → IsGoodWith shared own → is_live shared own.who ≡ true → RecordsNoMore shared (vanish shared own).shared
