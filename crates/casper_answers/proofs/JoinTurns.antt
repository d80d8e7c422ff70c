use Rattle.std.proofs.Common.{◌≡◌, ℕ, Bool, true, false, cond, ◌==◌, refl, sym, ap, ◌∙◌, true≢false}
use Rattle.std.specs.Prelude.{Option, None, Some, is_some, min}
use Rattle.std.proofs.lemmas.Bool.{eqb-true}
use Rattle.casper_space.specs.declared.answer.Answer.{Answer}
use Rattle.casper_space.specs.declared.answer.Answer.TheVariants as answer
use Rattle.casper_trail.specs.TrailView.{entry_count}
use Rattle.casper_model.specs.declared.reply.JoinRefusal.{JoinRefusal}
use Rattle.casper_model.specs.declared.reply.JoinRefusal.TheVariants as refusal
use Rattle.casper_model.specs.Answers.{of_join}
use Rattle.casper_model.specs.Both.{Turned}
use Rattle.casper_model.specs.Client.{Client, new_client}
use Rattle.casper_model.specs.Join.{joined_by}
use Rattle.casper_model.specs.Own.{Own, blank}
use Rattle.casper_model.specs.Room.{free_room, most_cap}
use Rattle.casper_model.specs.Shared.{Shared, client_at, is_live, place_client}
use Rattle.casper_model.specs.State.{State, own_at, after_turn}
use Rattle.casper_model.proofs.Places.{client_placed}
use Rattle.casper_model.proofs.StateHistory.{in_owns}
use Rattle.casper_laws.proofs.StepFrozen.{below_places}
use Rattle.casper_laws.proofs.StepImage.{IsOrderly}
use Rattle.casper_answers.specs.StabiliseCauses.{FullJoinHasItsCause, JoinsWhereThereIsRoom}
use Rattle.casper_answers.proofs.CommitSteps.{own_here}

-- Why a join is answered so.

abbrev is_full : Answer → Bool
is_full (answer.TrailFull entries) = true
is_full other = false

abbrev entries_in : Answer → ℕ
entries_in (answer.TrailFull entries) = entries
entries_in other = 0

-- a turn by which a client has joined
abbrev IsJoined : State → ℕ → Turned (Option JoinRefusal) → Type 0
IsJoined state who turn =
    (of_join turn.reply ≡ answer.Joined) × (client_at (after_turn state turn).shared who ≡ Some (new_client (min most_cap (free_room state.shared))))
    × ((own_at (after_turn state turn) who).cap ≡ min most_cap (free_room state.shared))

module _ (state : State) (known : IsOrderly state) where
  abbrev shared : Shared
  shared = state.shared

  pub full_join : FullJoinHasItsCause state
  full_join who entries outside client = by_place (client_at state.shared (own_at state who).who)
    where
      by_free : (none : Bool) → (free_room state.shared == 0) ≡ none
          → of_join
          (cond {A = Turned (Option JoinRefusal)} none
          (record { reply = Some (refusal.TrailFull (entry_count state.shared.trail)); shared = state.shared; own = own_at state who })
          (record {
            reply = None;
            shared = place_client (own_at state who).who (Some (new_client (min most_cap (free_room state.shared)))) state.shared;
            own = record (blank (own_at state who).who (own_at state who).capacity) { cap = min most_cap (free_room state.shared) };
          })).reply ≡ answer.TrailFull entries
          → (entries ≡ entry_count state.shared.trail) × (free_room state.shared ≡ 0)
      by_free true none is = (sym (ap entries_in is), eqb-true (free_room state.shared) 0 none)
      by_free false none is = absurd (true≢false (sym (ap is_full is)))

      by_place : (place : Option Client) → of_join (joined_by state.shared (own_at state who) place).reply ≡ answer.TrailFull entries
          → (entries ≡ entry_count state.shared.trail) × (free_room state.shared ≡ 0)
      by_place (Some found) is = absurd (true≢false (sym (ap is_full is)))
      by_place None is = by_free (free_room state.shared == 0) refl is

  pub joins_where_room : JoinsWhereThereIsRoom state
  joins_where_room who outside client absent room = by_place (client_at state.shared own.who) (ap (is_live state.shared) it ∙ absent)
    where
      own : Own
      own = own_at state who

      it : (own_at state who).who ≡ who
      it = known.history.order.shaped.numbers who

      placed : (own_at state who).who ≡ who → client_at (place_client (own_at state who).who (Some (new_client (min most_cap (free_room state.shared)))) state.shared) who
          ≡ Some (new_client (min most_cap (free_room state.shared)))
      placed same =
          ap (client_at (place_client (own_at state who).who (Some (new_client (min most_cap (free_room state.shared)))) state.shared)) (sym same)
          ∙ client_placed (own_at state who).who (Some (new_client (min most_cap (free_room state.shared)))) state.shared (below_places state who known.history.order client)

      by_free : (none : Bool) → (free_room state.shared == 0) ≡ none
          → IsJoined state who
          (cond {A = Turned (Option JoinRefusal)} none
          (record { reply = Some (refusal.TrailFull (entry_count state.shared.trail)); shared = state.shared; own = own_at state who })
          (record {
            reply = None;
            shared = place_client (own_at state who).who (Some (new_client (min most_cap (free_room state.shared)))) state.shared;
            own = record (blank (own_at state who).who (own_at state who).capacity) { cap = min most_cap (free_room state.shared) };
          }))
      by_free true none = absurd (room (eqb-true (free_room state.shared) 0 none))
      by_free false none =
          let own_after : Own = record (blank (own_at state who).who (own_at state who).capacity) { cap = min most_cap (free_room state.shared) } in (
            refl,
            placed it,
            ap (λ (x : Own). x.cap)
                (own_here (record state { shared = place_client (own_at state who).who (Some (new_client (min most_cap (free_room state.shared)))) state.shared }) own_after who it
                (in_owns state who own_after known.history.order client refl)),
          )

      by_place : (place : Option Client) → is_some place ≡ false → IsJoined state who (joined_by state.shared (own_at state who) place)
      by_place (Some found) live = absurd (true≢false live)
      by_place None none = by_free (free_room state.shared == 0) refl
