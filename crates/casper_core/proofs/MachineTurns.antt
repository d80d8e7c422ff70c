use Rattle.std.proofs.Common.{◌≡◌, ◌<◌, ℕ, List, Bool, true, ◌&&◌, not, length, length-set, get_or-set_same, get_or-set_other, refl, sym, ap, ap₂, ◌∙◌, subst}
use Rattle.std.specs.Prelude.{Some, slice_index_or, slice_set}
use Rattle.casper_words.specs.declared.page.Want.{Want}
use Rattle.casper_space.specs.declared.answer.Answer.{Answer}
use Rattle.casper_space.specs.declared.answer.Answer.TheVariants as answer
use Rattle.casper_cache.specs.Own as cache
use Rattle.casper_model.specs.declared.reply.Reply.{Reply}
use Rattle.casper_model.specs.Own as machine
use Rattle.casper_model.specs.Shared.{Shared}
use Rattle.casper_model.specs.Both.{Turned}
use Rattle.casper_model.specs.Acquire.{acquire, missing_once_opened, none_missing}
use Rattle.casper_model.specs.Answers.{of_reply}
use Rattle.casper_model.specs.Outside.{NothingFailed, LoadFailed}
use Rattle.casper_model.specs.State.{State, own_at, with_own, with_shared, after_turn}
use Rattle.casper_model.specs.Turn.{Turn}
use Rattle.casper_model.specs.CallStep.{acquire_step, unless_load_failed, is_granted}
use Rattle.casper_hub.specs.HubView.{HubView}
use Rattle.casper_hub.specs.Owned.{own_of}
use Rattle.casper_hub.specs.Shows.{Shows}
use Rattle.casper_hub.specs.Turns.{IsTurn}
use Rattle.casper_core.specs.Acting.{IsTurnResult}
use Rattle.casper_core.specs.Loading.{LoadFails, Acquired}
use Rattle.casper_core.specs.Shaped.{IsShape}
use Rattle.casper_core.proofs.Loads.{shows_loaded}

-- What a turn of the machine gives of the parts of a state.

-- a state whose shared part and one own part are new
pub moved_gives : (who : ℕ) (state : State) (shared : Shared) (own : machine.Own) (answer : Answer) (hub : HubView) → own.who ≡ who → who < length state.owns → Shows shared hub
    → IsTurnResult who state (record { answer = answer; state = with_own (with_shared state shared) own }) answer hub own
moved_gives who state shared own answer hub is below shows = record {
  answers = refl;
  shared = shows;
  places = length-set state.owns own.who own;
  part = ap (λ number. slice_index_or (slice_set state.owns number own) who (machine.blank who 0)) is ∙ get_or-set_same state.owns who own (machine.blank who 0) below;
  others = λ other away. get_or-set_other state.owns own.who other own (machine.blank other 0) (λ same. away (same ∙ is));
  base = refl;
  vault = refl;
  unfinished = refl;
}

-- a state in which the one own part is new
pub called_gives : (who : ℕ) (state : State) (own : machine.Own) (answer : Answer) (hub : HubView) → own.who ≡ who → who < length state.owns → Shows state.shared hub
    → IsTurnResult who state (record { answer = answer; state = with_own state own }) answer hub own
called_gives who state own answer hub is below shows = moved_gives who state state.shared own answer hub is below shows

-- a turn that changes nothing of the state
pub same_gives : (who : ℕ) (state : State) (own : machine.Own) (answer : Answer) (hub : HubView) → own_at state who ≡ own → Shows state.shared hub
    → IsTurnResult who state (record { answer = answer; state = state }) answer hub own
same_gives who state own answer hub part shows = record {
  answers = refl;
  shared = shows;
  places = refl;
  part = part;
  others = λ other away. refl;
  base = refl;
  vault = refl;
  unfinished = refl;
}

-- a turn that is another
pub gives_by : (who : ℕ) (state : State) (turn other : Turn) (answer : Answer) (hub : HubView) (own : machine.Own) → turn ≡ other → IsTurnResult who state other answer hub own
    → IsTurnResult who state turn answer hub own
gives_by who state turn other answer hub own same gives = subst (λ one. IsTurnResult who state one answer hub own) (sym same) gives

-- a turn after another
pub gives_again : (who : ℕ) (state : State) (first second : Turn) (answer behind : Answer) (hub after : HubView) (own own_after : machine.Own)
    → IsTurnResult who state first answer hub own → IsTurnResult who first.state second behind after own_after → IsTurnResult who state second behind after own_after
gives_again who state first second answer behind hub after own own_after one two = record {
  answers = two.answers;
  shared = two.shared;
  places = two.places ∙ one.places;
  part = two.part;
  others = λ other away. two.others other away ∙ one.others other away;
  base = two.base ∙ one.base;
  vault = two.vault ∙ one.vault;
  unfinished = two.unfinished ∙ one.unfinished;
}

-- a turn of the machine that a hub made
pub turned_gives : {R : Type 0} (turn : Shared → machine.Own → Turned R) (told : R → Answer) (reply : R) (who : ℕ) (state : State) (hub : HubView) (own : cache.Own)
    (after : HubView) (own_after : cache.Own) → IsShape who state hub own → IsTurn turn reply hub own after own_after → own_after.client ≡ who
    → IsTurnResult who state (record { answer = told (turn state.shared (own_at state who)).reply; state = after_turn state (turn state.shared (own_at state who)) }) (told reply) after (own_of own_after)
turned_gives turn told reply who state hub own after own_after part is client =
    let turned = turn state.shared (own_of own) in
    let same : own_of own_after ≡ turned.own = is.owns state.shared part.shared in
    let given : IsTurnResult who state (record { answer = told turned.reply; state = after_turn state turned }) (told turned.reply) after turned.own =
    moved_gives who state turned.shared turned.own (told turned.reply) after (ap (λ (one : machine.Own). one.who) (sym same) ∙ client) part.place (is.shows state.shared part.shared) in
    let as_own : IsTurnResult who state (record { answer = told turned.reply; state = after_turn state turned }) (told reply) after (own_of own_after) =
    subst (λ one. IsTurnResult who state (record { answer = told turned.reply; state = after_turn state turned }) (told reply) after one) (sym same)
    (subst (λ one. IsTurnResult who state (record { answer = told turned.reply; state = after_turn state turned }) (told one) after turned.own) (sym (is.replies state.shared part.shared)) given) in
    subst (λ one. IsTurnResult who state (record { answer = told (turn state.shared one).reply; state = after_turn state (turn state.shared one) }) (told reply) after (own_of own_after))
    (sym part.part) as_own

-- an acquire that came to a reply
pub acquired_gives : (who : ℕ) (state : State) (hub : HubView) (own : cache.Own) (wants : List Want) (calls : ℕ) (reply : Reply) (after : HubView) (own_after : cache.Own)
    → IsShape who state hub own → Acquired hub own wants calls (Some reply) after own_after → own_after.client ≡ who
    → IsTurnResult who state (acquire_step state who wants calls NothingFailed) (of_reply reply) after (own_of own_after)
acquired_gives who state hub own wants calls reply after own_after part is client =
    turned_gives (λ shared own. acquire shared own wants calls) of_reply reply who state hub own after own_after part is.0 client

-- an acquire that met a failed load
failed_by : (state : State) (turn : Turn) (failed : Bool) → failed ≡ true → unless_load_failed state failed turn ≡ record { answer = answer.Disk; state = state }
failed_by state turn failed is = ap (λ b. unless_load_failed state b turn) is

pub failed_gives : (who : ℕ) (state : State) (hub : HubView) (own : cache.Own) (wants : List Want) (calls : ℕ) (after : HubView) (own_after : cache.Own)
    → IsShape who state hub own → LoadFails hub own wants calls after own_after
    → (acquire_step state who wants calls LoadFailed ≡ record { answer = answer.Disk; state = state })
    × IsTurnResult who state (acquire_step state who wants calls LoadFailed) answer.Disk after (own_of own_after)
failed_gives who state hub own wants calls after own_after part is =
    let turned = acquire state.shared (own_at state who) wants calls in
    let granted : is_granted (of_reply turned.reply) ≡ true =
    ap (λ one. is_granted (of_reply (acquire state.shared one wants calls).reply)) part.part ∙ ap (λ one. is_granted (of_reply one)) (is.granted state.shared part.shared) in
    let missing : not (none_missing (missing_once_opened state.shared (own_at state who) wants)) ≡ true =
    ap (λ one. not (none_missing (missing_once_opened state.shared one wants))) part.part ∙ ap not (is.missing state.shared part.shared) in
    let same : acquire_step state who wants calls LoadFailed ≡ record { answer = answer.Disk; state = state } =
    failed_by state (record { answer = of_reply turned.reply; state = after_turn state turned })
    (is_granted (of_reply turned.reply) && not (none_missing (missing_once_opened state.shared (own_at state who) wants)))
    (ap₂ (λ one other. one && other) granted missing) in (
      same,
      gives_by who state (acquire_step state who wants calls LoadFailed) (record { answer = answer.Disk; state = state }) answer.Disk after (own_of own_after) same
          (same_gives who state (own_of own_after) answer.Disk after (part.part ∙ ap own_of (sym is.own_same)) (shows_loaded state.shared hub after is.loads part.shared)),
    )
