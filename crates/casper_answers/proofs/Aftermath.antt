use Rattle.std.proofs.Common.{◌≡◌, ◌≤◌, ℕ, List, [], true, false, not, ◌==◌, refl, sym, ap, ◌∙◌, subst, true≢false}
use Rattle.std.specs.Prelude.{Option, None, Some, is_some, option_map, unwrap_or}
use Rattle.std.proofs.lemmas.Bool.{and_from, and_parts, eq-eqb}
use Rattle.casper_words.specs.declared.page.Want.{Want}
use Rattle.casper_space.specs.declared.answer.Answer.{Answer}
use Rattle.casper_space.specs.declared.answer.Answer.TheVariants as answer
use Rattle.casper_model.specs.declared.event.Event.{Event}
use Rattle.casper_model.specs.declared.event.Event.TheVariants as event
use Rattle.casper_model.specs.Client.{Client, Fallen}
use Rattle.casper_model.specs.Loss.{fallen_behind}
use Rattle.casper_model.specs.Outside.{Outside}
use Rattle.casper_model.specs.Rights.{NamesClients, Agrees, AgreesUnlessFallen}
use Rattle.casper_model.specs.Own.{Own}
use Rattle.casper_model.specs.Room.{most_cap}
use Rattle.casper_model.specs.Shared.{Shared, client_at, of_client, asks_at, is_live}
use Rattle.casper_model.specs.State.{State, own_at}
use Rattle.casper_model.specs.Step.{step}
use Rattle.casper_laws.specs.Additions.{is_without_turn}
use Rattle.casper_laws.specs.HeldWordSteps.{is_turn_of}
use Rattle.casper_laws.proofs.StepImage.{IsOrderly}
use Rattle.casper_answers.specs.Acknowledgement.{makes_turn, is_leave_of}
use Rattle.casper_answers.specs.Aftermath.{is_gone, LeavesAbsent, StaysLive, OthersLeaveTheAsks}
use Rattle.casper_answers.proofs.PlaceMoves.{PlaceMoves}
use Rattle.casper_answers.proofs.StepPlaces.{step_places}

-- What a step leaves of each client.

-- who makes a turn acts, and so does who leaves
turn_is_of : (state : State) (happened : Event) (given : Answer) (who : ℕ) → makes_turn state happened given who ≡ true → is_turn_of who happened ≡ true
turn_is_of state (event.Read one page word) given who turn = (and_parts (one == who) _ turn).0
turn_is_of state (event.Write one page word value) given who turn = (and_parts (one == who) _ turn).0
turn_is_of state (event.Acquire one wants) given who turn = (and_parts (one == who) _ turn).0
turn_is_of state (event.Hold one wants) given who turn = (and_parts (one == who) _ turn).0
turn_is_of state (event.Serve one) given who turn = (and_parts (one == who) _ turn).0
turn_is_of state (event.Stabilise one) given who turn = (and_parts (one == who) _ turn).0
turn_is_of state (event.Depart one) given who turn = (and_parts (one == who) _ turn).0
turn_is_of state (event.Vanish one) given who turn = (and_parts (one == who) _ turn).0
turn_is_of state other given who turn = absurd (true≢false (sym turn))

-- and who leaves makes one
gone_is_turn : (given : Answer) → is_gone given ≡ true → is_without_turn given ≡ false
gone_is_turn answer.Left is = refl
gone_is_turn (answer.VanishLost mark unrecorded) is = refl
gone_is_turn (answer.VanishNoted lead unrecorded) is = refl
gone_is_turn other is = absurd (true≢false (sym is))

leave_turns : (state : State) (happened : Event) (given : Answer) (who : ℕ) → is_leave_of who happened ≡ true → is_gone given ≡ true → makes_turn state happened given who ≡ true
leave_turns state (event.Depart one) given who leaves gone = and_from (one == who) (not (is_without_turn given)) leaves (ap not (gone_is_turn given gone))
leave_turns state (event.Vanish one) given who leaves gone = and_from (one == who) (not (is_without_turn given)) leaves (ap not (gone_is_turn given gone))
leave_turns state other given who leaves gone = absurd (true≢false (sym leaves))

module _ (state : State) (known : IsOrderly state) (happened : Event) (outside : Outside) (is : NamesClients happened) where
  abbrev after : Shared
  after = (step state happened outside).state.shared

  abbrev given : Answer
  given = (step state happened outside).answer

  pub stays_live : StaysLive state happened outside (step state happened outside)
  stays_live who live stays = by_place (step_places state known happened outside is who)
    where
      mapped : (change : Client → Client) (place : Option Client) → is_some place ≡ true → is_some (option_map change place) ≡ true
      mapped change None none = none
      mapped change (Some client) some = refl

      by_place : PlaceMoves state happened given after who → is_live after who ≡ true
      by_place (PlaceMoves.stays it) = ap is_some it.still ∙ live
      by_place (PlaceMoves.turns it) = ap is_some it.turned.live
      by_place (PlaceMoves.falls it) = ap is_some it.fell ∙ mapped (fallen_behind state.shared.trail who) (client_at state.shared who) live
      by_place (PlaceMoves.ends it) = ap is_some it.ended ∙ mapped (λ client. record client { kept = Some it.outcome }) (client_at state.shared who) live
      by_place (PlaceMoves.begins it) = ap is_some it.joined
      by_place (PlaceMoves.leaves it) = absurd (true≢false (sym (and_from (is_leave_of who happened) (is_gone given) it.by it.gone) ∙ stays))

  pub others_leave_asks : OthersLeaveTheAsks state happened outside (step state happened outside)
  others_leave_asks who other same = by_place (step_places state known happened outside is who)
    where
      asks_of : Option Client → List Want
      asks_of place = of_client [] (λ client. client.asks) place

      by_ended : (change : Client → Client) (place : Option Client) → ((client : Client) → (change client).asks ≡ client.asks)
          → of_client [] (λ (client : Client). client.asks) (option_map change place) ≡ of_client [] (λ (client : Client). client.asks) place
      by_ended change None keeps = refl
      by_ended change (Some client) keeps = keeps client

      no_asks : (client : Client) (part : Own) (fallen : Option Fallen) → is_some fallen ≡ true → AgreesUnlessFallen client part fallen → client.asks ≡ []
      no_asks client part None none agrees = absurd (true≢false (sym none))
      no_asks client part (Some fallen) some agrees = agrees.2

      by_fallen : (place : Option Client) → Agrees place (own_at state who)
          → of_client None (λ (client : Client). client.fallen) (option_map (fallen_behind state.shared.trail who) place) ≡ of_client None (λ (client : Client). client.fallen) place
          → of_client [] (λ (client : Client). client.asks) (option_map (fallen_behind state.shared.trail who) place) ≡ of_client [] (λ (client : Client). client.asks) place
      by_fallen None agrees alike = refl
      by_fallen (Some client) agrees alike = sym (no_asks client (own_at state who) client.fallen (ap is_some (sym alike)) agrees)

      by_place : PlaceMoves state happened given after who → asks_at after who ≡ asks_at state.shared who
      by_place (PlaceMoves.stays it) = ap (of_client [] (λ client. client.asks)) it.still
      by_place (PlaceMoves.turns it) = absurd (true≢false (sym (turn_is_of state happened given who it.turn) ∙ other))
      by_place (PlaceMoves.falls it) =
          ap (of_client [] (λ client. client.asks)) it.fell
          ∙ by_fallen (client_at state.shared who) (known.history.order.rights.agree who) (sym (ap (of_client None (λ client. client.fallen)) it.fell) ∙ same)
      by_place (PlaceMoves.ends it) =
          ap (of_client [] (λ client. client.asks)) it.ended ∙ by_ended (λ client. record client { kept = Some it.outcome }) (client_at state.shared who) (λ client. refl)
      by_place (PlaceMoves.begins it) = absurd (true≢false (sym (eq-eqb who who refl) ∙ sym (ap (is_turn_of who) it.by) ∙ other))
      by_place (PlaceMoves.leaves it) = absurd (true≢false (sym (turn_is_of state happened given who it.turn) ∙ other))

  pub leaves_absent : LeavesAbsent state happened outside (step state happened outside)
  leaves_absent who leaves gone = by_place (step_places state known happened outside is who)
    where
      by_place : PlaceMoves state happened given after who → is_live after who ≡ false
      by_place (PlaceMoves.stays it) = absurd (true≢false (sym (leave_turns state happened given who leaves gone) ∙ it.no_turn))
      by_place (PlaceMoves.turns it) = absurd (true≢false (sym (and_from (is_leave_of who happened) (is_gone given) leaves gone) ∙ it.there))
      by_place (PlaceMoves.falls it) = absurd (true≢false (sym (leave_turns state happened given who leaves gone) ∙ it.no_turn))
      by_place (PlaceMoves.ends it) = absurd (true≢false (sym (leave_turns state happened given who leaves gone) ∙ it.no_turn))
      by_place (PlaceMoves.begins it) = absurd (true≢false (sym leaves ∙ ap (is_leave_of who) it.by))
      by_place (PlaceMoves.leaves it) = ap is_some it.left

  pub caps_stay : ((who : ℕ) (client : Client) → client_at state.shared who ≡ Some client → client.cap ≤ most_cap) → (who : ℕ) (client : Client) → client_at after who ≡ Some client
      → client.cap ≤ most_cap
  caps_stay most who client live = by_place (step_places state known happened outside is who)
    where
      got : (place : Option Client) (one : Client) → place ≡ Some one → place ≡ Some client → one ≡ client
      got place one first second = ap (λ (x : Option Client). unwrap_or x client) (sym first ∙ second)

      by_mapped : (change : Client → Client) (place : Option Client) → ((one : Client) → (change one).cap ≡ one.cap) → client_at state.shared who ≡ place
          → option_map change place ≡ Some client → client.cap ≤ most_cap
      by_mapped change None keeps e none = absurd (true≢false (sym (ap is_some none)))
      by_mapped change (Some one) keeps e some =
          subst (λ count. count ≤ most_cap) (sym (keeps one) ∙ ap (λ (x : Option Client). of_client 0 (λ (y : Client). y.cap) x) some) (most who one e)

      by_place : PlaceMoves state happened given after who → client.cap ≤ most_cap
      by_place (PlaceMoves.stays it) = most who client (sym it.still ∙ live)
      by_place (PlaceMoves.turns it) = subst (λ (x : Client). x.cap ≤ most_cap) (got (client_at after who) it.turned.client it.turned.live live) (it.turned.cap (most who))
      by_place (PlaceMoves.falls it) = by_mapped (fallen_behind state.shared.trail who) (client_at state.shared who) (λ one. refl) refl (sym it.fell ∙ live)
      by_place (PlaceMoves.ends it) = by_mapped (λ one. record one { kept = Some it.outcome }) (client_at state.shared who) (λ one. refl) refl (sym it.ended ∙ live)
      by_place (PlaceMoves.begins it) = subst (λ (x : Client). x.cap ≤ most_cap) (got (client_at after who) _ it.joined live) it.most
      by_place (PlaceMoves.leaves it) = absurd (true≢false (sym (ap is_some live) ∙ ap is_some it.left))
