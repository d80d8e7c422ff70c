use Rattle.std.proofs.Common.{◌≡◌, ◌≤◌, ℕ, List, [], Bool, true, false, cond, not, ◌&&◌, ◌==◌, Contains, refl, sym, ap, ◌∙◌, subst, arith, true≢false}
use Rattle.std.specs.Prelude.{Option, None, Some, is_some, option_map, min}
use Rattle.std.proofs.lemmas.Bool.{cond_both, not-true}
use Rattle.casper_words.specs.Crew.{has_member}
use Rattle.casper_words.specs.declared.page.Want.{Want}
use Rattle.casper_space.specs.declared.answer.Answer.{Answer}
use Rattle.casper_trail.specs.Association.{association_of}
use Rattle.casper_model.specs.declared.event.Event.{Event}
use Rattle.casper_model.specs.declared.event.Event.TheVariants as event
use Rattle.casper_model.specs.declared.outcome.Kept.{Kept}
use Rattle.casper_model.specs.Both.{Both, agreed}
use Rattle.casper_model.specs.Client.{Client, Fallen, new_client}
use Rattle.casper_model.specs.Acquire.{acquired_by, answered, missing_once_opened, with_asks, is_pending, blocked_of}
use Rattle.casper_model.specs.Frozen.{stabilisation_of}
use Rattle.casper_model.specs.Leave.{served_by}
use Rattle.casper_model.specs.Loss.{fallen_behind}
use Rattle.casper_model.specs.Opening.{kept_dropped, told_of_fall, recorded, begun, given_up, gathering_of, handed_in, handed_in_to, opened, given_in_opening}
use Rattle.casper_model.specs.Own.{Own}
use Rattle.casper_model.specs.Rights.{TurnStands, TurnKeeps, Agrees, AgreesUnlessFallen}
use Rattle.casper_model.specs.Room.{most_cap}
use Rattle.casper_model.specs.Shared.{Shared, client_at, of_client, each_client, change_client}
use Rattle.casper_model.specs.Stabilisation.{Stabilisation}
use Rattle.casper_model.specs.Stabilise.{kept_at, stabilised_by, stabilised, stabilised_in}
use Rattle.casper_model.specs.State.{State}
use Rattle.casper_model.specs.declared.reply.Reply.{Reply}
use Rattle.casper_model.proofs.Places.{client_each, client_changed}
use Rattle.casper_answers.specs.Acknowledgement.{makes_turn, may_end, tells_outcome, answer_of_kept, is_leave_of}
use Rattle.casper_answers.specs.Aftermath.{is_gone}
use Rattle.casper_answers.specs.Losses.{carried_out}

-- What a step makes of the place of a client.

-- the place after a turn of its client: it is live and not fallen, nothing is kept for it, and it is promised no more than the most
pub record TurnedPlace (before after : Option Client) : Type 0 where
  pub client : Client
  pub live : after ≡ Some client
  pub up : client.fallen ≡ None
  pub kept : client.kept ≡ None
  pub cap : ((one : Client) → before ≡ Some one → one.cap ≤ most_cap) → client.cap ≤ most_cap

-- the place as it was
pub record StillPlace (state : State) (happened : Event) (given : Answer) (after : Shared) (who : ℕ) : Type 0 where
  pub still : client_at after who ≡ client_at state.shared who
  pub no_turn : makes_turn state happened given who ≡ false
  pub untold : (one : Stabilisation) → Contains state.shared.stabilisations one → may_end happened one ≡ true → tells_outcome given ≡ true
      → has_member who one.askers ≡ true → ⊥
  pub unfallen : (lost : ℕ) → carried_out state happened given ≡ Some lost → has_member who (association_of state.shared.trail lost) ≡ true → ⊥

-- the place after a turn of its own
pub record OwnPlace (state : State) (happened : Event) (given : Answer) (after : Shared) (who : ℕ) : Type 0 where
  pub turned : TurnedPlace (client_at state.shared who) (client_at after who)
  pub turn : makes_turn state happened given who ≡ true
  pub carried : carried_out state happened given ≡ None
  pub there : (is_leave_of who happened && is_gone given) ≡ false

-- the place of a client that falls as a loss is carried out
pub record FellPlace (state : State) (happened : Event) (given : Answer) (after : Shared) (who : ℕ) : Type 0 where
  pub fell : client_at after who ≡ option_map (fallen_behind state.shared.trail who) (client_at state.shared who)
  pub lost : ℕ
  pub carried : carried_out state happened given ≡ Some lost
  pub member : has_member who (association_of state.shared.trail lost) ≡ true
  pub no_turn : makes_turn state happened given who ≡ false
  pub untold : tells_outcome given ≡ false

-- the place of a client that is told the outcome of a stabilisation
pub record EndedPlace (state : State) (happened : Event) (given : Answer) (after : Shared) (who : ℕ) : Type 0 where
  pub outcome : Kept
  pub one : Stabilisation
  pub inside : Contains state.shared.stabilisations one
  pub asker : has_member who one.askers ≡ true
  pub may : may_end happened one ≡ true
  pub tells : given ≡ answer_of_kept outcome
  pub told : tells_outcome given ≡ true
  pub ended : client_at after who ≡ option_map (λ (client : Client). record client { kept = Some outcome }) (client_at state.shared who)
  pub no_turn : makes_turn state happened given who ≡ false
  pub carried : carried_out state happened given ≡ None

-- the place of a client that joins
pub record JoinedPlace (state : State) (happened : Event) (given : Answer) (after : Shared) (who : ℕ) : Type 0 where
  pub by : happened ≡ event.Join who
  pub absent : client_at state.shared who ≡ None
  pub cap : ℕ
  pub joined : client_at after who ≡ Some (new_client cap)
  pub most : cap ≤ most_cap

-- the place of a client that leaves
pub record LeftPlace (state : State) (happened : Event) (given : Answer) (after : Shared) (who : ℕ) : Type 0 where
  pub left : client_at after who ≡ None
  pub by : is_leave_of who happened ≡ true
  pub gone : is_gone given ≡ true
  pub turn : makes_turn state happened given who ≡ true

pub data PlaceMoves (state : State) (happened : Event) (given : Answer) (after : Shared) (who : ℕ) : Type 0 where
  stays : StillPlace state happened given after who → PlaceMoves state happened given after who
  turns : OwnPlace state happened given after who → PlaceMoves state happened given after who
  falls : FellPlace state happened given after who → PlaceMoves state happened given after who
  ends : EndedPlace state happened given after who → PlaceMoves state happened given after who
  begins : JoinedPlace state happened given after who → PlaceMoves state happened given after who
  leaves : LeftPlace state happened given after who → PlaceMoves state happened given after who

-- whether a place is of a live client for which nothing is kept
abbrev pub is_bare : Option Client → Bool
is_bare None = false
is_bare (Some client) = not (is_some client.kept)

bare_each : (change : ℕ → Client → Client) (shared : Shared) (who : ℕ) → ((client : Client) → is_some client.kept ≡ false → is_some (change who client).kept ≡ false)
    → is_bare (client_at shared who) ≡ true → is_bare (client_at (each_client change shared) who) ≡ true
bare_each change shared who keeps bare = ap is_bare (client_each change shared who) ∙ by_place (client_at shared who) bare
  where
    by_place : (place : Option Client) → is_bare place ≡ true → is_bare (option_map (change who) place) ≡ true
    by_place None is = is
    by_place (Some client) is = ap not (keeps client (not-true (is_some client.kept) is))

bare_changed : (who : ℕ) (change : Client → Client) (shared : Shared) → ((client : Client) → (change client).kept ≡ client.kept) → (number : ℕ)
    → is_bare (client_at shared number) ≡ true → is_bare (client_at (change_client who change shared) number) ≡ true
bare_changed who change shared keeps number =
    bare_each (λ at client. cond (at == who) (change client) client) shared number
    (λ client none.
    cond_both (number == who) (change client) client (λ (after : Client). is_some after.kept ≡ false) (λ is. ap is_some (keeps client) ∙ none) (λ is. none))

bare_dropped : (who : ℕ) (change : Client → Client) (shared : Shared) → ((client : Client) → (change client).kept ≡ None) → is_some (client_at shared who) ≡ true
    → is_bare (client_at (change_client who change shared) who) ≡ true
bare_dropped who change shared drops live = ap is_bare (client_changed who change shared) ∙ by_place (client_at shared who) live
  where
    by_place : (place : Option Client) → is_some place ≡ true → is_bare (option_map change place) ≡ true
    by_place None is = is
    by_place (Some client) is = ap (λ kept. not (is_some kept)) (drops client)

bare_agreed : (shared : Shared) (own : Own) (number : ℕ) → is_bare (client_at shared number) ≡ true → is_bare (client_at (agreed shared own).shared number) ≡ true
bare_agreed shared own = bare_changed own.who (λ client. record client { cap = own.cap; rights = own.held }) shared (λ client. refl)

module _ (shared : Shared) (own : Own) (live : is_some (client_at shared own.who) ≡ true) where
  pub bare_told : is_bare (client_at (told_of_fall shared own).shared own.who) ≡ true
  bare_told = bare_dropped own.who (λ client. record client { kept = None; fallen = None }) shared (λ client. refl) live

  bare_handed_in : (both : Both) (one : Option Stabilisation) (number : ℕ) → is_bare (client_at both.shared number) ≡ true
      → is_bare (client_at (handed_in_to both one).shared number) ≡ true
  bare_handed_in both None number bare = bare
  bare_handed_in both (Some one) number bare = bare_agreed both.shared (handed_in both).own number bare

  pub bare_opened : is_bare (client_at (opened shared own).shared own.who) ≡ true
  bare_opened =
      let first = recorded (kept_dropped own.who shared) own in
      let second = begun shared own in
      let third = given_up second in
      bare_handed_in third (gathering_of third.shared third.own.who) own.who
      (bare_agreed second.shared third.own own.who
      (bare_agreed first.shared second.own own.who
      (bare_agreed (record (kept_dropped own.who shared) { trail = first.shared.trail }) first.own own.who
      (bare_dropped own.who (λ client. record client { kept = None }) shared (λ client. refl) live))))

  bare_answered : (both : Both) (given : List ℕ) (wants missing : List Want) (refusal : Option Reply) (number : ℕ) → is_bare (client_at both.shared number) ≡ true
      → is_bare (client_at (answered both given wants missing refusal).shared number) ≡ true
  bare_answered both given wants missing None number bare =
      let turn = answered both given wants missing None in
      bare_agreed (record ((with_asks [] both).shared) { trail = turn.shared.trail }) turn.own number
      (bare_changed both.own.who (λ client. record client { asks = [] }) both.shared (λ client. refl) number bare)
  bare_answered both given wants missing (Some reply) number bare =
      bare_changed both.own.who (λ client. record client { asks = cond (is_pending reply) (blocked_of both.shared both.own.who given missing) [] }) both.shared
      (λ client. refl) number bare

  pub bare_acquired : (wants : List Want) (calls : ℕ) (fallen : Option Fallen) → is_bare (client_at (acquired_by shared own wants calls fallen).shared own.who) ≡ true
  bare_acquired wants calls (Some fallen) = bare_told
  bare_acquired wants calls None = bare_answered (opened shared own) (given_in_opening shared own) wants (missing_once_opened shared own wants) _ own.who bare_opened

  pub bare_served : (fallen : Option Fallen) → is_bare (client_at (served_by shared own fallen).shared own.who) ≡ true
  bare_served (Some fallen) = bare_told
  bare_served None = bare_opened

  bare_stabilised : (both : Both) (outcome : Option Kept) (number : ℕ) → is_bare (client_at both.shared number) ≡ true
      → is_bare (client_at (stabilised both outcome).shared number) ≡ true
  bare_stabilised both (Some outcome) number bare = bare
  bare_stabilised both None number bare = by_one (stabilisation_of both.shared both.own.who)
    where
      by_one : (one : Option Stabilisation) → is_bare (client_at (stabilised_in both one).shared number) ≡ true
      by_one None = bare_agreed both.shared (handed_in both).own number bare
      by_one (Some one) = bare

  pub bare_stabilised_by : (fallen : Option Fallen) → is_bare (client_at (stabilised_by shared own fallen).shared own.who) ≡ true
  bare_stabilised_by (Some fallen) = bare_told
  bare_stabilised_by None = bare_stabilised (opened shared own) (kept_at shared own.who) own.who bare_opened

-- no turn promises more than the most
pub min_most : (some : ℕ) → min most_cap some ≤ most_cap
min_most some = omega arith

cap_opened : (shared : Shared) (own : Own) → (opened shared own).own.cap ≤ most_cap
cap_opened shared own = by_gathering (gathering_of (given_up (begun shared own)).shared (given_up (begun shared own)).own.who)
  where
    by_gathering : (one : Option Stabilisation) → (handed_in_to (given_up (begun shared own)) one).own.cap ≤ most_cap
    by_gathering None = min_most _
    by_gathering (Some one) = min_most _

pub cap_acquired : (wants : List Want) (calls : ℕ) (shared : Shared) (own : Own) (fallen : Option Fallen) → own.cap ≤ most_cap
    → (acquired_by shared own wants calls fallen).own.cap ≤ most_cap
cap_acquired wants calls shared own (Some fallen) most = most
cap_acquired wants calls shared own None most = by_refusal _
  where
    by_refusal : (refusal : Option Reply)
        → (answered (opened shared own) (given_in_opening shared own) wants (missing_once_opened shared own wants) refusal).own.cap ≤ most_cap
    by_refusal None = let most_then = cap_opened shared own in omega (arith, most_then)
    by_refusal (Some reply) = cap_opened shared own

pub cap_served : (shared : Shared) (own : Own) (fallen : Option Fallen) → own.cap ≤ most_cap → (served_by shared own fallen).own.cap ≤ most_cap
cap_served shared own (Some fallen) most = most
cap_served shared own None most = cap_opened shared own

pub cap_stabilised : (shared : Shared) (own : Own) (fallen : Option Fallen) → own.cap ≤ most_cap → (stabilised_by shared own fallen).own.cap ≤ most_cap
cap_stabilised shared own (Some fallen) most = most
cap_stabilised shared own None most = by_kept (kept_at shared own.who)
  where
    by_kept : (kept : Option Kept) → (stabilised (opened shared own) kept).own.cap ≤ most_cap
    by_kept (Some outcome) = cap_opened shared own
    by_kept None = by_one (stabilisation_of (opened shared own).shared (opened shared own).own.who)
      where
        by_one : (one : Option Stabilisation) → (stabilised_in (opened shared own) one).own.cap ≤ most_cap
        by_one None = cap_opened shared own
        by_one (Some one) = cap_opened shared own

-- the place after a turn
pub place_of_turn : (shared : Shared) (own : Own) (after : Shared) (own_after : Own) → TurnStands shared own → TurnKeeps shared own after own_after
    → is_bare (client_at after own.who) ≡ true → (own.cap ≤ most_cap → own_after.cap ≤ most_cap) → TurnedPlace (client_at shared own.who) (client_at after own.who)
place_of_turn shared own after own_after stands keeps bare most = by_place (client_at after own.who) refl bare keeps.up keeps.agrees
  where
    nothing : (kept : Option Kept) → is_some kept ≡ false → kept ≡ None
    nothing None is = refl
    nothing (Some outcome) is = absurd (true≢false is)

    cap_of : (client : Client) (fallen : Option Fallen) (part : Own) → AgreesUnlessFallen client part fallen → client.cap ≡ part.cap
    cap_of client None part agrees = agrees.0
    cap_of client (Some fallen) part agrees = agrees.0

    before : own.cap ≡ stands.client.cap
    before = sym (cap_of stands.client stands.client.fallen own (subst (λ place. Agrees place own) stands.live stands.agrees))

    by_place : (place : Option Client) → client_at after own.who ≡ place → is_bare place ≡ true → of_client None (λ client. client.fallen) place ≡ None → Agrees place own_after
        → TurnedPlace (client_at shared own.who) (client_at after own.who)
    by_place None e none up agrees = absurd (true≢false (sym none))
    by_place (Some client) e none up agrees = record {
      client = client;
      live = e;
      up = up;
      kept = nothing client.kept (not-true (is_some client.kept) none);
      cap = λ most_before.
          subst (λ count. count ≤ most_cap) (sym (cap_of client client.fallen own_after agrees))
          (most (subst (λ count. count ≤ most_cap) (sym before) (most_before stands.client stands.live)));
    }
