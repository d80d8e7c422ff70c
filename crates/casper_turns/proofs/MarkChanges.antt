use Rattle.std.proofs.Common.{◌≡◌, ◌≤◌, ◌<◌, ℕ, ◌+◌, true, cond, not, ◌==◌, map, length, Contains, refl, sym, ap, ◌∙◌, subst, arith, eq-eqb}
use Rattle.std.specs.Prelude.{Option, None, Some}
use Rattle.std.proofs.lemmas.Bool.{cond_both, cond-true}
use Rattle.std.proofs.lemmas.List.{length-map}
use Rattle.std.proofs.lemmas.List.Sums.{sum_by-set}
use Rattle.casper_words.specs.Crew.{IsClient, has_member}
use Rattle.casper_trail.specs.declared.mark.Mark.TheVariants.{Commit, Rollback}
use Rattle.casper_trail.specs.Association.{association_of}
use Rattle.casper_trail.proofs.Rounds.{association_holds_its_client}
use Rattle.casper_model.specs.declared.outcome.Kept.{Kept}
use Rattle.casper_model.specs.declared.reply.Loss.{Loss}
use Rattle.casper_model.specs.Client.{Client, Fallen}
use Rattle.casper_model.specs.Own.{Own}
use Rattle.casper_model.specs.Both.{Changed}
use Rattle.casper_model.specs.Stabilisation.{Stabilisation, is_gathering, without}
use Rattle.casper_model.specs.Shared.{Shared, client_at, fallen_at, place_client}
use Rattle.casper_model.specs.Frozen.{stabilisation_of, members_of_stabilisation}
use Rattle.casper_model.specs.Leave.{absent, vanish, vanished_by}
use Rattle.casper_model.specs.Loss.{lose, lose_by, lost_in, rolled_back, fallen_behind}
use Rattle.casper_model.specs.Finish.{ended, committed}
use Rattle.casper_model.specs.Rights.{TurnStands}
use Rattle.casper_model.proofs.OpeningRights.{IsUp}
use Rattle.casper_model.proofs.TurnRights.{up_as_it_stands}
use Rattle.casper_model.proofs.AcquireRights.{within_places}
use Rattle.casper_model.proofs.LossRights.{spares_loss}
use Rattle.casper_turns.specs.MarkRoom.{spare_of, spare_at, spare_marks, RecordsNoMore}
use Rattle.casper_turns.proofs.MarkCounts.{marks_pushed, SparesNoMore, spares_changed, spares_fewer, some_no_longer, one_shorter}

pub records_nothing : (shared : Shared) → RecordsNoMore shared shared
records_nothing shared = omega arith

-- a rollback
module _ (shared : Shared) (lost : ℕ) where
  no_more_spare : SparesNoMore (λ who client. cond (has_member who (association_of shared.trail lost)) (fallen_behind shared.trail who client) client)
  no_more_spare who client =
      cond_both (has_member who (association_of shared.trail lost)) (fallen_behind shared.trail who client) client
      (λ (after : Client). spare_of after.fallen ≤ spare_of client.fallen) (λ falls. omega arith) (λ stays. omega arith)

  -- that fells a client which had not fallen
  fells_its_client : IsClient lost → IsUp shared lost → RecordsNoMore shared (rolled_back shared lost)
  fells_its_client is up =
      let members = association_of shared.trail lost in
      let change : ℕ → Client → Client = λ who client. cond (has_member who members) (fallen_behind shared.trail who client) client in
      let zero_on : 0 + lost ≡ lost = omega arith in
      let mine : has_member (0 + lost) members ≡ true = ap (λ n. has_member n members) zero_on ∙ association_holds_its_client shared.trail lost is in
      let falls : spare_of (change (0 + lost) up.client).fallen ≡ 0 =
      ap (λ (client : Client). spare_of client.fallen)
      (cond-true (has_member (0 + lost) members) (fallen_behind shared.trail (0 + lost) up.client) up.client mine) in
      let spares : spare_marks (rolled_back shared lost) + 1 ≤ spare_marks shared = spares_fewer change no_more_spare 0 shared.clients lost up.client up.live up.up falls in
      let left = some_no_longer (λ (one : Stabilisation). not (has_member one.lead members)) shared.stabilisations in
      let marks = marks_pushed shared.trail (Rollback lost members) in
      omega (arith, spares, left, marks)

  -- that ends a stabilisation
  pub ends_its_stabilisation : (one : Stabilisation) → Contains shared.stabilisations one → has_member one.lead (association_of shared.trail lost) ≡ true
      → RecordsNoMore shared (rolled_back shared lost)
  ends_its_stabilisation one inside member =
      let members = association_of shared.trail lost in
      let change : ℕ → Client → Client = λ who client. cond (has_member who members) (fallen_behind shared.trail who client) client in
      let spares : spare_marks (rolled_back shared lost) ≤ spare_marks shared = spares_changed change no_more_spare 0 shared.clients in
      let left = one_shorter (λ (other : Stabilisation). not (has_member other.lead members)) shared.stabilisations one inside (ap not member) in
      let marks = marks_pushed shared.trail (Rollback lost members) in
      omega (arith, spares, left, marks)

-- a stabilisation that ends
spares_ended : (shared : Shared) (one : Stabilisation) (kept : Kept) → spare_marks (ended shared one kept) ≤ spare_marks shared
spares_ended shared one kept =
    spares_changed (λ who client. cond (has_member who one.askers) (record client { kept = Some kept }) client)
    (λ who client.
    cond_both (has_member who one.askers) (record client { kept = Some kept }) client (λ (after : Client). spare_of after.fallen ≤ spare_of client.fallen)
    (λ asker. omega arith) (λ other. omega arith))
    0 shared.clients

pub ended_records : (shared : Shared) (one : Stabilisation) (kept : Kept) → RecordsNoMore shared (ended shared one kept)
ended_records shared one kept =
    let spares = spares_ended shared one kept in
    let left = some_no_longer (λ (other : Stabilisation). not (other.lead == one.lead)) shared.stabilisations in
    omega (arith, spares, left)

pub committed_records : (shared : Shared) (one : Stabilisation) → Contains shared.stabilisations one → RecordsNoMore shared (committed shared one).shared
committed_records shared one inside =
    let spares : spare_marks (committed shared one).shared ≤ spare_marks shared = spares_ended shared one _ in
    let left = one_shorter (λ (other : Stabilisation). not (other.lead == one.lead)) shared.stabilisations one inside (ap not (eq-eqb one.lead one.lead refl)) in
    let marks = marks_pushed shared.trail (Commit one.lead (members_of_stabilisation shared one)) in
    omega (arith, spares, left, marks)

-- changes of the stabilisations alone
pub relabelled_records : (shared : Shared) (change : Stabilisation → Stabilisation) → RecordsNoMore shared (record shared { stabilisations = map change shared.stabilisations })
relabelled_records shared change = let same = length-map shared.stabilisations change in omega (arith, same)

-- a loss
lost_records : (shared : Shared) (who unrecorded : ℕ) → IsClient who → IsUp shared who → (one : Option Stabilisation)
    → RecordsNoMore shared (lost_in shared who unrecorded one).shared
lost_records shared who unrecorded is up None = fells_its_client shared who is up
lost_records shared who unrecorded is up (Some one) =
    cond_both (is_gathering one.phase) _ _ (λ (done : Changed Loss). RecordsNoMore shared done.shared) (λ gathering. fells_its_client shared who is up)
    (λ held. relabelled_records shared _)

lose_by_records : (shared : Shared) (who : ℕ) → IsClient who → (fallen : Option Fallen) → (fallen ≡ None → IsUp shared who)
    → RecordsNoMore shared (lose_by shared who fallen).shared
lose_by_records shared who is (Some fallen) up = records_nothing shared
lose_by_records shared who is None up = lost_records shared who 0 is (up refl) (stabilisation_of shared who)

pub lose_records : (shared : Shared) (who : ℕ) → IsClient who → (fallen_at shared who ≡ None → IsUp shared who) → RecordsNoMore shared (lose shared who).shared
lose_records shared who is up = lose_by_records shared who is (fallen_at shared who) up

-- a client that becomes absent has no spare mark
absent_records : (shared before : Shared) (own : Own) → own.who < length before.clients → RecordsNoMore shared before
    → RecordsNoMore shared (absent (record { shared = before; own = own })).shared
absent_records shared before own below records =
    let spares : spare_marks (place_client own.who None before) + spare_at (client_at before own.who) ≡ spare_marks before + 0 =
    sum_by-set spare_at before.clients own.who None None below in
    let same = length-map before.stabilisations (λ one. record one { askers = without own.who one.askers }) in
    omega (arith, spares, same, records)

vanished_records : (shared : Shared) (own : Own) → IsClient own.who → (fallen : Option Fallen) → (fallen ≡ None → IsUp shared own.who)
    → RecordsNoMore shared (vanished_by shared own fallen).shared
vanished_records shared own is (Some fallen) up = records_nothing shared
vanished_records shared own is None up = lost_records shared own.who (length own.pending) is (up refl) (stabilisation_of shared own.who)

places_vanished : (shared : Shared) (own : Own) (fallen : Option Fallen) → length (vanished_by shared own fallen).shared.clients ≡ length shared.clients
places_vanished shared own (Some fallen) = refl
places_vanished shared own None = (spares_loss shared own.who _).places

pub vanish_records : (shared : Shared) (own : Own) → IsClient own.who → TurnStands shared own → RecordsNoMore shared (vanish shared own).shared
vanish_records shared own is stands =
    let fallen = fallen_at shared own.who in
    absent_records shared (vanished_by shared own fallen).shared own
    (subst (λ count. own.who < count) (sym (places_vanished shared own fallen)) (within_places shared own stands))
    (vanished_records shared own is fallen (up_as_it_stands shared own stands))
