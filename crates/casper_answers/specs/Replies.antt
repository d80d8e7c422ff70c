use Rattle.std.specs.Prelude.{◌≡◌, ◌≢◌, ℕ, List, true, Some}
use Rattle.casper_words.specs.Crew.{IsClient}
use Rattle.casper_words.specs.declared.page.Want.{Want}
use Rattle.casper_model.specs.declared.outcome.Kept.TheVariants as kept
use Rattle.casper_model.specs.declared.outcome.Outcome.{Outcome}
use Rattle.casper_model.specs.declared.outcome.Finished.TheVariants as finished
use Rattle.casper_model.specs.declared.reply.JoinRefusal.TheVariants as refusal
use Rattle.casper_model.specs.declared.reply.Reply.TheVariants as reply
use Rattle.casper_model.specs.declared.reply.StabReply.TheVariants as stab
use Rattle.casper_model.specs.Acquire.{acquire}
use Rattle.casper_model.specs.Finish.{finish}
use Rattle.casper_model.specs.Join.{join}
use Rattle.casper_model.specs.Own.{Own}
use Rattle.casper_model.specs.Shared.{Shared}
use Rattle.casper_model.specs.Stabilise.{stabilise}
use Rattle.casper_model.specs.State.{State, own_at}
use Rattle.casper_laws.specs.AnswerLaws.{is_over}
use Rattle.casper_answers.specs.Sessions.{AtEachMoment}

-- What no turn of the machine replies. These replies are a server's alone, so no answer of the machine stands for one.

-- no join replies that memory is short
abbrev pub NoJoinLacksMemory : Type 0
NoJoinLacksMemory = (shared : Shared) (own : Own) → (join shared own).reply ≢ Some refusal.Memory

-- no acquire replies that a page has to be read first
abbrev pub NoAcquireLoads : Type 0
NoAcquireLoads =
    (shared : Shared) (own : Own) (wants : List Want) (calls page marks : ℕ) → (acquire shared own wants calls).reply ≢ reply.Load page marks

-- a finish that failed tells how the write-out did, which is neither done nor in doubt
abbrev pub EachFinishFailsAsItsWriteOut : Type 0
EachFinishFailsAsItsWriteOut =
    (shared : Shared) (lead : ℕ) (how cause : Outcome) → (finish shared lead how).reply ≡ Some (finished.Failed cause)
    → (cause ≡ how) × (is_over (kept.Failed cause) ≡ true)

-- and a stabilise tells a failure of such a write-out alone
abbrev pub TellsRealFailures : State → Type 0
TellsRealFailures state =
    (who : ℕ) (cause : Outcome) → IsClient who → (stabilise state.shared (own_at state who)).reply ≡ stab.Failed cause → is_over (kept.Failed cause) ≡ true

abbrev pub EachToldFailureIsReal : Type 0
EachToldFailureIsReal = AtEachMoment TellsRealFailures
