use Rattle.std.proofs.Common.{◌≡◌, ℕ, List, [], ◌∷◌, Bool, true, cond, ◌||◌, filter, refl, sym, ap, ◌∙◌, true≢false}
use Rattle.std.specs.Prelude.{Option, None, Some, is_some, option_map}
use Rattle.std.specs.List.{list_any}
use Rattle.casper_words.specs.Crew.{clients}
use Rattle.casper_words.specs.declared.page.Want.{Want}
use Rattle.casper_space.specs.declared.answer.Answer.TheVariants as answer
use Rattle.casper_model.specs.declared.reply.Reply.{Reply}
use Rattle.casper_model.specs.declared.reply.Reply.TheVariants as reply
use Rattle.casper_model.specs.Acquire.{acquired_by, answered, missing_once_opened, with_asks, blocks, is_blocked, blocked_of, is_pending}
use Rattle.casper_model.specs.Answers.{of_reply}
use Rattle.casper_model.specs.Both.{Both, agreed}
use Rattle.casper_model.specs.Client.{Client, Fallen}
use Rattle.casper_model.specs.Opening.{opened, given_in_opening}
use Rattle.casper_model.specs.Own.{Own}
use Rattle.casper_model.specs.Shared.{Shared, client_at, of_client, asks_at, fallen_at, is_live}
use Rattle.casper_model.specs.State.{State, own_at}
use Rattle.casper_model.proofs.Additions.{who_opened}
use Rattle.casper_model.proofs.Places.{client_changed}
use Rattle.casper_laws.proofs.CompletedCalls.{unless_turn}
use Rattle.casper_laws.proofs.StepImage.{IsOrderly}
use Rattle.casper_answers.specs.AcquireCauses.{lacking}
use Rattle.casper_answers.specs.Aftermath.{AsksForTheBlocked, asks_none, AsksEndWithAnyOther}
use Rattle.casper_answers.proofs.AcquireTurns.{Facts, by_acquire, refused_turn, lacked, opened_is, blocks_alike, kind, differ}
use Rattle.casper_answers.proofs.PlaceMoves.{is_bare, bare_opened}
use Rattle.casper_answers.proofs.ToldTurns.{told_up}

-- Which asks an acquire leaves.

any_alike : {X : Type 0} (p q : X → Bool) (xs : List X) → ((x : X) → p x ≡ q x) → list_any p xs ≡ list_any q xs
any_alike p q [] alike = refl
any_alike p q (x ∷ xs) alike = ap (λ one. one || list_any p xs) (alike x) ∙ ap (λ rest. q x || rest) (any_alike p q xs alike)

filter_alike : {X : Type 0} (p q : X → Bool) (xs : List X) → ((x : X) → p x ≡ q x) → filter p xs ≡ filter q xs
filter_alike p q [] alike = refl
filter_alike p q (x ∷ xs) alike =
    ap (λ one. cond one (x ∷ filter p xs) (filter p xs)) (alike x) ∙ ap (λ rest. cond (q x) (x ∷ rest) rest) (filter_alike p q xs alike)

-- the asks of a live client that are replaced
asks_there : (both : Both) (asks : List Want) → is_some (client_at both.shared both.own.who) ≡ true → asks_at (with_asks asks both).shared both.own.who ≡ asks
asks_there both asks live =
    ap (of_client [] (λ client. client.asks)) (client_changed both.own.who (λ client. record client { asks = asks }) both.shared)
    ∙ by_place (client_at both.shared both.own.who) live
  where
    by_place : (place : Option Client) → is_some place ≡ true → of_client [] (λ (client : Client). client.asks) (option_map (λ (client : Client). record client { asks = asks }) place) ≡ asks
    by_place None none = absurd (true≢false (sym none))
    by_place (Some client) some = refl

asks_agreed : (shared : Shared) (own : Own) → asks_at (agreed shared own).shared own.who ≡ asks_at shared own.who
asks_agreed shared own =
    ap (of_client [] (λ client. client.asks)) (client_changed own.who (λ client. record client { cap = own.cap; rights = own.held }) shared)
    ∙ by_place (client_at shared own.who)
  where
    by_place : (place : Option Client)
        → of_client [] (λ (client : Client). client.asks) (option_map (λ (client : Client). record client { cap = own.cap; rights = own.held }) place)
        ≡ of_client [] (λ (client : Client). client.asks) place
    by_place None = refl
    by_place (Some client) = refl

module _ (state : State) (known : IsOrderly state) where
  live_opened : (who : ℕ) → is_live state.shared who ≡ true
      → is_some (client_at (opened state.shared (own_at state who)).shared (opened state.shared (own_at state who)).own.who) ≡ true
  live_opened who live =
      let own = own_at state who in
      ap (λ at. is_some (client_at (opened state.shared own).shared at)) (who_opened state.shared own)
      ∙ bare_is_live (client_at (opened state.shared own).shared own.who)
      (bare_opened state.shared own (ap (is_live state.shared) (known.history.order.shaped.numbers who) ∙ live))
    where
      bare_is_live : (place : Option Client) → is_bare place ≡ true → is_some place ≡ true
      bare_is_live None none = none
      bare_is_live (Some client) bare = refl

  pub asks_for_blocked : AsksForTheBlocked state
  asks_for_blocked who blockers wants calls outside client live =
      by_acquire state known who wants calls outside client
      (λ turn.
      turn.answer ≡ answer.Pending blockers
      → asks_at turn.state.shared who ≡ blocked_of turn.state.shared who (given_in_opening state.shared (own_at state who)) (lacking turn.state who wants))
      (λ failed is. differ 5 3 refl (ap kind is)) (λ fallen after is. differ 7 3 refl (ap kind is)) (λ after is. differ 6 3 refl (ap kind is)) by_reply
    where
      by_reply : (one : Reply)
          → Facts (opened state.shared (own_at state who)).shared (opened state.shared (own_at state who)).own.who (opened state.shared (own_at state who)).own.cap
          (given_in_opening state.shared (own_at state who)) (missing_once_opened state.shared (own_at state who) wants) calls one
          → of_reply one ≡ answer.Pending blockers
          → asks_at (refused_turn state known who wants calls outside client one).state.shared who
          ≡ blocked_of (refused_turn state known who wants calls outside client one).state.shared who (given_in_opening state.shared (own_at state who))
          (lacking (refused_turn state known who wants calls outside client one).state who wants)
      by_reply (reply.Pending others) facts is =
          let both = opened state.shared (own_at state who) in
          let given = given_in_opening state.shared (own_at state who) in
          let missing = missing_once_opened state.shared (own_at state who) wants in
          let asks = blocked_of both.shared both.own.who given missing in
          let here = opened_is state known who wants calls outside client in
          ap (asks_at (with_asks asks both).shared) (sym here) ∙ asks_there both asks (live_opened who live)
          ∙ filter_alike (is_blocked both.shared both.own.who given) (is_blocked (with_asks asks both).shared both.own.who given) missing
          (λ want.
          any_alike (blocks both.shared both.own.who given want) (blocks (with_asks asks both).shared both.own.who given want) clients
          (λ other. sym (blocks_alike both asks given want other)))
          ∙ ap (λ number. blocked_of (with_asks asks both).shared number given missing) here
          ∙ ap (blocked_of (with_asks asks both).shared who given) (sym (lacked state known who wants calls outside client (reply.Pending others)))
      by_reply reply.InDoubt facts is = differ 1 3 refl (ap kind is)
      by_reply (reply.Frozen lead) facts is = differ 2 3 refl (ap kind is)
      by_reply (reply.TrailFull entries) facts is = differ 4 3 refl (ap kind is)
      by_reply reply.Granted facts is = absurd facts
      by_reply (reply.RolledBack mark recorded unrecorded) facts is = absurd facts
      by_reply (reply.Load page marks) facts is = absurd facts

  pub asks_end : AsksEndWithAnyOther state
  asks_end who wants calls outside client live =
      unless_turn (λ turn. asks_none turn.answer ≡ true → asks_at turn.state.shared who ≡ []) state _ _ (λ none. absurd (true≢false (sym none)))
      (by_fallen (fallen_at state.shared (own_at state who).who) refl)
    where
      it : (opened state.shared (own_at state who)).own.who ≡ who
      it = who_opened state.shared (own_at state who) ∙ known.history.order.shaped.numbers who

      by_refusal : (refusal : Option Reply)
          → asks_none (of_reply (answered (opened state.shared (own_at state who)) (given_in_opening state.shared (own_at state who)) wants
          (missing_once_opened state.shared (own_at state who) wants) refusal).reply) ≡ true
          → asks_at (answered (opened state.shared (own_at state who)) (given_in_opening state.shared (own_at state who)) wants
          (missing_once_opened state.shared (own_at state who) wants) refusal).shared who ≡ []
      by_refusal None ends =
          let both = opened state.shared (own_at state who) in
          let turn = answered both (given_in_opening state.shared (own_at state who)) wants (missing_once_opened state.shared (own_at state who) wants) None in
          ap (asks_at turn.shared) (sym it) ∙ asks_agreed (record ((with_asks [] both).shared) { trail = turn.shared.trail }) turn.own
          ∙ asks_there both [] (live_opened who live)
      by_refusal (Some one) ends = by_reply one ends
        where
          ended : (asks : List Want) → asks ≡ [] → asks_at (with_asks asks (opened state.shared (own_at state who))).shared who ≡ []
          ended asks none =
              ap (asks_at (with_asks asks (opened state.shared (own_at state who))).shared) (sym it)
              ∙ asks_there (opened state.shared (own_at state who)) asks (live_opened who live) ∙ none

          by_reply : (one : Reply) → asks_none (of_reply one) ≡ true
              → asks_at (with_asks (cond (is_pending one) (blocked_of (opened state.shared (own_at state who)).shared (opened state.shared (own_at state who)).own.who
              (given_in_opening state.shared (own_at state who)) (missing_once_opened state.shared (own_at state who) wants)) []) (opened state.shared (own_at state who))).shared who ≡ []
          by_reply (reply.Pending blockers) never = absurd (true≢false (sym never))
          by_reply other never = ended [] refl

      by_fallen : (fallen : Option Fallen) → fallen_at state.shared (own_at state who).who ≡ fallen
          → asks_none (of_reply (acquired_by state.shared (own_at state who) wants calls fallen).reply) ≡ true
          → asks_at (acquired_by state.shared (own_at state who) wants calls fallen).shared who ≡ []
      by_fallen (Some fallen) e ends =
          let up = (told_up state known who client fallen e).up in
          ap (of_client [] (λ client. client.asks)) up.live ∙ up.no_asks
      by_fallen None e ends = by_refusal _ ends
