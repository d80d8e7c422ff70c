use Rattle.std.proofs.Common.{◌≡◌, ◌<◌, ℕ, List, [], ◌∷◌, Bool, true, false, cond, true≢false, refl, sym, ap, ◌∙◌, subst}
use Rattle.std.specs.Prelude.{Option, None, Some, IsTrue, unwrap_or}
use Rattle.casper_words.specs.declared.page.Want.{Want}
use Rattle.casper_space.specs.declared.answer.Answer.{Answer}
use Rattle.casper_space.specs.declared.answer.Answer.TheVariants as answer
use Rattle.casper_cache.specs.Own as cache
use Rattle.casper_model.specs.declared.reply.Reply.{Reply}
use Rattle.casper_model.specs.declared.reply.Reply.TheVariants as reply
use Rattle.casper_model.specs.Answers.{of_reply}
use Rattle.casper_model.specs.Hits.{can_hit}
use Rattle.casper_model.specs.Outside.{Outside, NothingFailed, LoadFailed}
use Rattle.casper_model.specs.Shared.{fallen_at}
use Rattle.casper_model.specs.State.{State, with_own}
use Rattle.casper_model.specs.Step.{read_turn}
use Rattle.casper_model.specs.Turn.{Turn}
use Rattle.casper_model.specs.CallStep.{acquire_step, hit_behind, call_by, call_step, is_granted}
use Rattle.casper_model.specs.Own as machine
use Rattle.casper_model.specs.Run.{is_disk}
use Rattle.casper_hub.specs.HubView.{HubView}
use Rattle.casper_hub.specs.Owned.{Owns, own_of}
use Rattle.casper_hub.specs.Sound.{IsSound}
use Rattle.casper_hub.specs.Words.{CacheIsRight}
use Rattle.casper_laws.proofs.AnswerLaws.{acquired_has}
use Rattle.casper_laws.proofs.AnswerLawsCalls.{can_with}
use Rattle.casper_hub.proofs.StandsFor.{stands_for}
use Rattle.casper_hub.proofs.Relying.{kept_itself, nothing_itself}
use Rattle.casper_core.specs.Acting.{outside_of, IsPart, IsTurnResult, Holds, KeepsHubRight}
use Rattle.casper_core.specs.Loading.{LoadFails, Acquired}
use Rattle.casper_core.specs.Shaped.{IsShape, read_with}
use Rattle.casper_core.proofs.MachineTurns.{called_gives, gives_by, gives_again, acquired_gives, failed_gives}
use Rattle.casper_core.proofs.HitTurns.{Sees}

-- A call as a hit, or by an acquire and the hit after it.

pub sees_part : (who : ℕ) (image : List (List ℕ)) (state : State) (hub : HubView) (own : cache.Own) → IsPart who image state hub own → Owns hub own → own.client ≡ who → Sees who state hub own
sees_part who image state hub own part owns client = record {
  shared = part.shared;
  place = part.place;
  part = part.part;
  words = part.words;
  client = client;
  sound = owns.sound;
}

pub shape_of_part : (who : ℕ) (image : List (List ℕ)) (state : State) (hub : HubView) (own : cache.Own) → IsPart who image state hub own → IsShape who state hub own
shape_of_part who image state hub own part = record { shared = part.shared; place = part.place; part = part.part }

-- after a turn of a client that leaves it its cache
pub sees_behind : (who : ℕ) (tells : Bool) (image : List (List ℕ)) (state : State) (hub : HubView) (own : cache.Own) (turn : Turn) (answer : Answer) (after : HubView) (own_after : cache.Own)
    → IsTrue tells → IsPart who image state hub own → IsTurnResult who state turn answer after (own_of own_after) → Holds who tells image hub own after own_after → Sees who turn.state after own_after
sees_behind who tells image state hub own turn answer after own_after told part gives holds = record {
  shared = gives.shared;
  place = subst (λ count. who < count) (sym gives.places) part.place;
  part = gives.part;
  words = subst (λ base. CacheIsRight base after own_after) (sym gives.base) (holds.words told state.base part.stored part.frames part.words);
  client = holds.client;
  sound = holds.owns.sound;
}

module _ (who : ℕ) (want : Want) (hit : State → Option Turn) (state : State) where
  pub call_hits : (outside : Outside) (turn : Turn) (answer : Answer) (hub : HubView) (own : machine.Own) → hit state ≡ Some turn → IsTurnResult who state turn answer hub own
      → IsTurnResult who state (call_step state who want outside hit) answer hub own
  call_hits outside turn answer hub own is gives =
      gives_by who state (call_step state who want outside hit) turn answer hub own (ap (call_by state who want outside hit) is) gives

  behind : Turn → Bool → Turn
  behind turn granted = hit_behind hit turn granted

  missed : (outside : Outside) (granted : Bool) → hit state ≡ None → is_granted (acquire_step state who (want ∷ []) 1 outside).answer ≡ granted
      → call_step state who want outside hit ≡ hit_behind hit (acquire_step state who (want ∷ []) 1 outside) granted
  missed outside granted is test =
      ap (call_by state who want outside hit) is ∙ ap (hit_behind hit (acquire_step state who (want ∷ []) 1 outside)) test

  -- the acquire was refused
  pub call_refused : (hub : HubView) (own : cache.Own) (one : Reply) (after : HubView) (own_after : cache.Own) → hit state ≡ None
      → IsShape who state hub own → Acquired hub own (want ∷ []) 1 (Some one) after own_after → own_after.client ≡ who → is_granted (of_reply one) ≡ false
      → IsTurnResult who state (call_step state who want NothingFailed hit) (of_reply one) after (own_of own_after)
  call_refused hub own one after own_after is shape acquired client refused =
      let gives = acquired_gives who state hub own (want ∷ []) 1 one after own_after shape acquired client in
      gives_by who state (call_step state who want NothingFailed hit) (acquire_step state who (want ∷ []) 1 NothingFailed) (of_reply one) after (own_of own_after)
      (missed NothingFailed false is (ap is_granted (sym gives.answers) ∙ refused)) gives

  -- a page could not be read
  pub call_failed : (hub : HubView) (own : cache.Own) (after : HubView) (own_after : cache.Own) → hit state ≡ None
      → IsShape who state hub own → LoadFails hub own (want ∷ []) 1 after own_after
      → IsTurnResult who state (call_step state who want LoadFailed hit) answer.Disk after (own_of own_after)
  call_failed hub own after own_after is shape fails =
      let gives = failed_gives who state hub own (want ∷ []) 1 after own_after shape fails in
      gives_by who state (call_step state who want LoadFailed hit) (acquire_step state who (want ∷ []) 1 LoadFailed) answer.Disk after (own_of own_after)
      (missed LoadFailed false is (ap (λ (turn : Turn). is_granted turn.answer) gives.0)) gives.1

  -- the acquire was granted, and the call is a hit then
  pub call_granted : (hub : HubView) (own : cache.Own) (one : Reply) (after : HubView) (own_after : cache.Own) (answer : Answer) (own_hit : cache.Own) → hit state ≡ None
      → IsShape who state hub own → Acquired hub own (want ∷ []) 1 (Some one) after own_after → one ≡ reply.Granted
      → own_after.client ≡ who → own_hit.client ≡ who
      → (IsTurnResult who state (acquire_step state who (want ∷ []) 1 NothingFailed) (of_reply one) after (own_of own_after)
      → hit (acquire_step state who (want ∷ []) 1 NothingFailed).state
      ≡ Some (record { answer = answer; state = with_own (acquire_step state who (want ∷ []) 1 NothingFailed).state (own_of own_hit) }))
      → IsTurnResult who state (call_step state who want NothingFailed hit) answer after (own_of own_hit)
  call_granted hub own one after own_after answer own_hit is shape acquired granted client_after client hits =
      let turn = acquire_step state who (want ∷ []) 1 NothingFailed in
      let gives = acquired_gives who state hub own (want ∷ []) 1 one after own_after shape acquired client_after in
      let place = subst (λ count. who < count) (sym gives.places) shape.place in
      let called = called_gives who turn.state (own_of own_hit) answer after client place gives.shared in
      let last : Turn = record { answer = answer; state = with_own turn.state (own_of own_hit) } in
      gives_by who state (call_step state who want NothingFailed hit) last answer after (own_of own_hit)
      (missed NothingFailed true is (ap is_granted (sym gives.answers) ∙ ap (λ (r : Reply). is_granted (of_reply r)) granted)
      ∙ ap (λ found. unwrap_or found turn) (hits gives))
      (gives_again who state turn last (of_reply one) answer after after (own_of own_after) (own_of own_hit) gives called)

-- after an acquire of a page that was granted the call can be made
pub granted_can : (hub : HubView) (own : cache.Own) (want : Want) (one : Reply) (after : HubView) (own_after : cache.Own) → one ≡ reply.Granted → IsSound hub
    → Acquired hub own (want ∷ []) 1 (Some one) after own_after → can_hit (own_of own_after) want.page want.right ≡ true
granted_can hub own want one after own_after granted sound acquired =
    let shared = (stands_for hub sound.stands).shared in
    let shown = (stands_for hub sound.stands).shows in
    let turn = acquired.0 in
    subst (λ (part : machine.Own). can_hit part want.page want.right ≡ true) (sym (turn.owns shared shown))
    (can_with _ want (acquired_has shared (own_of own) (want ∷ []) 1 (fallen_at shared (own_of own).who) (ap of_reply (sym (turn.replies shared shown) ∙ granted))))

-- what a hit leaves of the hub, and what it leaves the client
pub leaves_hit : (who : ℕ) (tells : Bool) (image : List (List ℕ)) (hub : HubView) (own : cache.Own) → IsSound hub → KeepsHubRight who tells image hub own hub
leaves_hit who tells image hub own sound = record {
  sound = sound;
  others = λ other away. kept_itself other hub;
  still = nothing_itself hub;
  frames = λ told base stored frames words. frames;
}

pub holds_again : (who : ℕ) (tells : Bool) (image : List (List ℕ)) (hub : HubView) (own : cache.Own) (after : HubView) (own_after own_hit : cache.Own)
    → Holds who tells image hub own after own_after → own_hit.client ≡ own_after.client → own_hit.capacity ≡ own_after.capacity → Owns after own_hit
    → ((base : List (List ℕ)) → CacheIsRight base after own_after → CacheIsRight base after own_hit) → Holds who tells image hub own after own_hit
holds_again who tells image hub own after own_after own_hit holds client capacity owns right = record {
  client = client ∙ holds.client;
  capacity = capacity ∙ holds.capacity;
  owns = owns;
  words = λ told base stored frames words. right base (holds.words told base stored frames words);
}

pub holds_itself : (who : ℕ) (tells : Bool) (image : List (List ℕ)) (hub : HubView) (own : cache.Own) → Owns hub own → own.client ≡ who → Holds who tells image hub own hub own
holds_itself who tells image hub own owns client = record {
  client = client;
  capacity = refl;
  owns = owns;
  words = λ told base stored frames words. words;
}

-- the reply of a turn that is no grant and tells of no fault, as the answer
pub not_granted : (one : Reply) → (one ≡ reply.Granted → ⊥) → is_granted (of_reply one) ≡ false
not_granted reply.Granted other = absurd (other refl)
not_granted (reply.Pending blockers) other = refl
not_granted (reply.Frozen lead) other = refl
not_granted reply.InDoubt other = refl
not_granted (reply.RolledBack mark recorded unrecorded) other = refl
not_granted (reply.TrailFull entries) other = refl
not_granted (reply.Load page marks) other = refl

pub never_disk : (one : Reply) (said : Answer) → is_disk (of_reply one) ≡ false → said ≡ of_reply one → said ≡ answer.Disk → ⊥
never_disk one said tells is disk = true≢false (sym (ap is_disk (sym is ∙ disk)) ∙ tells)

-- a turn by what its answer says of the outside
pub as_answered : (who : ℕ) (state : State) (turn : Outside → Turn) (one : Reply) (said : Answer) (hub : HubView) (own : machine.Own) → is_disk (of_reply one) ≡ false → said ≡ of_reply one
    → IsTurnResult who state (turn NothingFailed) (of_reply one) hub own → IsTurnResult who state (turn (outside_of said)) said hub own
as_answered who state turn one said hub own tells is gives =
    subst (λ answer. IsTurnResult who state (turn (outside_of answer)) answer hub own) (sym is)
    (subst (λ disk. IsTurnResult who state (turn (cond disk LoadFailed NothingFailed)) (of_reply one) hub own) (sym tells) gives)

-- a read that was answered with a reply of its acquire is the machine's
pub read_refused : (who page word : ℕ) (state : State) (one : Reply) (said : Answer) → said ≡ of_reply one → read_with who page word said state ≡ read_turn who page word (outside_of said) state
read_refused who page word state one said is =
    subst (λ answer. read_with who page word answer state ≡ read_turn who page word (outside_of answer) state) (sym is) (plain one)
  where
    plain : (one : Reply) → read_with who page word (of_reply one) state ≡ read_turn who page word (outside_of (of_reply one)) state
    plain reply.Granted = refl
    plain (reply.Pending blockers) = refl
    plain (reply.Frozen lead) = refl
    plain reply.InDoubt = refl
    plain (reply.RolledBack mark recorded unrecorded) = refl
    plain (reply.TrailFull entries) = refl
    plain (reply.Load page marks) = refl
