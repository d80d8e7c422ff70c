use Rattle.casper_model.specs.Run.{state_after}
use Rattle.casper_model.specs.State.{start}
use Rattle.casper_answers.specs.Aftermath.{EachLeftClientIsAbsent, EachLiveClientStays, EachPendingAcquireAsks, EachOtherAcquireAsksNothing, EachAskIsLeftByOthers, EachCapIsAtMost, EachVaultIsLeft}
use Rattle.casper_answers.proofs.Aftermath.{leaves_absent, stays_live, others_leave_asks}
use Rattle.casper_answers.proofs.AskTurns.{asks_for_blocked, asks_end}
use Rattle.casper_answers.proofs.VaultSteps.{leaves_vault}
use Rattle.casper_answers.proofs.Sessions.{every_session}

-- What each step leaves of each client, and of the vault.

pub every_left_is_absent : EachLeftClientIsAbsent
every_left_is_absent vault pages limit capacity happenings none named happened outside is =
    let session = every_session vault pages limit capacity happenings none named in
    leaves_absent (state_after (start vault pages limit capacity) happenings) session.answering.known happened outside is

pub every_live_stays : EachLiveClientStays
every_live_stays vault pages limit capacity happenings none named happened outside is =
    let session = every_session vault pages limit capacity happenings none named in
    stays_live (state_after (start vault pages limit capacity) happenings) session.answering.known happened outside is

pub every_pending_asks : EachPendingAcquireAsks
every_pending_asks vault pages limit capacity happenings none named =
    let session = every_session vault pages limit capacity happenings none named in
    asks_for_blocked (state_after (start vault pages limit capacity) happenings) session.answering.known

pub every_other_asks_none : EachOtherAcquireAsksNothing
every_other_asks_none vault pages limit capacity happenings none named =
    let session = every_session vault pages limit capacity happenings none named in
    asks_end (state_after (start vault pages limit capacity) happenings) session.answering.known

pub every_ask_is_left : EachAskIsLeftByOthers
every_ask_is_left vault pages limit capacity happenings none named happened outside is =
    let session = every_session vault pages limit capacity happenings none named in
    others_leave_asks (state_after (start vault pages limit capacity) happenings) session.answering.known happened outside is

pub every_cap_is_most : EachCapIsAtMost
every_cap_is_most vault pages limit capacity happenings none named =
    let session = every_session vault pages limit capacity happenings none named in
    session.caps

pub every_vault_is_left : EachVaultIsLeft
every_vault_is_left vault pages limit capacity happenings none named happened outside is =
    let session = every_session vault pages limit capacity happenings none named in
    leaves_vault (state_after (start vault pages limit capacity) happenings) outside happened
