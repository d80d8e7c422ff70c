use Rattle.casper_model.specs.Run.{state_after}
use Rattle.casper_model.specs.State.{start}
use Rattle.casper_answers.specs.WriteOutCauses.{EachNoJobIsExact, EachVaultIsExact, EachWornHasItsCause, EachFullHasItsCause, EachFaultIsOfTheOutside, EachWrittenIsTheVersion, EachIsWrittenWhereItCan, EachFinishIsAsItEnded, EachSettleIsOfADoubt}
use Rattle.casper_answers.proofs.WriteOutTurns.{no_job_exactly, vault_exactly, worn_cause, full_cause, faults_outside, written_version, written_where_it_can, finishes_as_it_ended, settles_a_doubt}
use Rattle.casper_answers.proofs.Sessions.{every_session}

-- The causes of what a write-out, a finish and a settle answer.

pub every_no_job : EachNoJobIsExact
every_no_job vault pages limit capacity happenings none named =
    let session = every_session vault pages limit capacity happenings none named in
    no_job_exactly (state_after (start vault pages limit capacity) happenings)

pub every_vault : EachVaultIsExact
every_vault vault pages limit capacity happenings none named =
    let session = every_session vault pages limit capacity happenings none named in
    vault_exactly (state_after (start vault pages limit capacity) happenings)

pub every_worn : EachWornHasItsCause
every_worn vault pages limit capacity happenings none named =
    let session = every_session vault pages limit capacity happenings none named in
    worn_cause (state_after (start vault pages limit capacity) happenings)

pub every_full : EachFullHasItsCause
every_full vault pages limit capacity happenings none named =
    let session = every_session vault pages limit capacity happenings none named in
    full_cause (state_after (start vault pages limit capacity) happenings)

pub every_fault : EachFaultIsOfTheOutside
every_fault vault pages limit capacity happenings none named =
    let session = every_session vault pages limit capacity happenings none named in
    faults_outside (state_after (start vault pages limit capacity) happenings)

pub every_written : EachWrittenIsTheVersion
every_written vault pages limit capacity happenings none named =
    let session = every_session vault pages limit capacity happenings none named in
    written_version (state_after (start vault pages limit capacity) happenings)

pub every_writable : EachIsWrittenWhereItCan
every_writable vault pages limit capacity happenings none named =
    let session = every_session vault pages limit capacity happenings none named in
    written_where_it_can (state_after (start vault pages limit capacity) happenings)

pub every_finish : EachFinishIsAsItEnded
every_finish vault pages limit capacity happenings none named =
    let session = every_session vault pages limit capacity happenings none named in
    finishes_as_it_ended (state_after (start vault pages limit capacity) happenings) session.answering.known

pub every_settle : EachSettleIsOfADoubt
every_settle vault pages limit capacity happenings none named =
    let session = every_session vault pages limit capacity happenings none named in
    settles_a_doubt (state_after (start vault pages limit capacity) happenings) session.answering.known
